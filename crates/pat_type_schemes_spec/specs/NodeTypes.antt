-- The type of a node and of its variables, in whose patterns variables may stand.
use Rattle.std.specs.Prelude.{ℕ, List, Option, Some, None, option_map, nat_eq}
use Rattle.std.specs.Map.{lookup}
use Rattle.pat_inclusion_spec.specs.Patterns.{Pat}
use Rattle.pat_type_system_spec.specs.Values.{BaseUnit}
use Rattle.pat_type_system_spec.specs.Types.{MailboxType, TypeOf, BaseTerm, MailboxTerm, mailbox_type, TypeEnv}
use Rattle.pat_inclusion_spec.specs.Values.{replaced}

-- types of variables that name mailboxes, in ascending order of variable
abbrev pub Needs : Type 0
Needs = List (ℕ × MailboxType)

-- the type of a variable, if it is named
abbrev pub need_of : Needs → ℕ → Option MailboxType
need_of needs x = lookup (nat_eq x) needs

-- the type of a node, and those of the variables that it needs
pub record NodeType : Type 0 where
  pub result : TypeOf
  pub needs : Needs

-- the type of a node, if it is known, and otherwise unit
abbrev pub result_open : Option NodeType → TypeOf
result_open None = BaseTerm BaseUnit
result_open (Some t) = t.result

-- the types of its variables
abbrev pub env_open : Option NodeType → TypeEnv
env_open None x = None
env_open (Some t) x = need_of t.needs x

-- ---- variables of patterns replaced as they stand

-- the type of a variable with the variables of its pattern replaced
abbrev pub type_under : (ℕ → Pat) → MailboxType → MailboxType
type_under s a = mailbox_type a.interface a.polarity (replaced s a.pattern) a.usage

-- a type, if there is one, with the variables of its pattern replaced
abbrev pub need_under : (ℕ → Pat) → Option MailboxType → Option MailboxType
need_under s o = option_map (type_under s) o

-- the type of a term with the variables of its pattern replaced
abbrev pub result_under : (ℕ → Pat) → TypeOf → TypeOf
result_under s (BaseTerm b) = BaseTerm b
result_under s (MailboxTerm i q e) = MailboxTerm i q (replaced s e)

-- Tests whether kinds and types are the same, and whether numbers differ.
use Rattle.std.specs.Prelude.{ℕ, Bool, true, false, not, ◌&&◌, nat_eq, List, [], ◌∷◌, Option, Some, None}
use Rattle.pat_words_spec.specs.Patterns.{pat_eq}
use Rattle.pat_type_system_spec.specs.Values.{Base, BaseUnit, BaseBool, BaseInt, BaseText, Kind, Plain, MailboxOf}
use Rattle.pat_type_system_spec.specs.Programs.{is_among}
use Rattle.pat_type_system_spec.specs.Types.{TypeOf, BaseTerm, MailboxTerm}
use Rattle.pat_type_schemes_spec.specs.Compared.{polarity_eq}

-- the same base type
abbrev pub is_same_base : Base → Base → Bool
is_same_base BaseUnit BaseUnit = true
is_same_base BaseBool BaseBool = true
is_same_base BaseInt BaseInt = true
is_same_base BaseText BaseText = true
is_same_base _ _ = false

-- the same kind
abbrev pub is_same_kind : Kind → Kind → Bool
is_same_kind (Plain a) (Plain b) = is_same_base a b
is_same_kind (MailboxOf i) (MailboxOf j) = nat_eq i j
is_same_kind _ _ = false

-- the kind is there, and is that of a mailbox of the interface
abbrev pub is_mailbox_of : ℕ → Option Kind → Bool
is_mailbox_of i None = false
is_mailbox_of i (Some k) = is_same_kind k (MailboxOf i)

-- the same type
abbrev pub is_same_type : TypeOf → TypeOf → Bool
is_same_type (BaseTerm a) (BaseTerm b) = is_same_base a b
is_same_type (MailboxTerm i q e) (MailboxTerm j r f) = nat_eq i j && (polarity_eq q r && pat_eq e f)
is_same_type _ _ = false

-- no number stands twice in the list
abbrev pub all_differ : List ℕ → Bool
all_differ [] = true
all_differ (x ∷ xs) = not (is_among x xs) && all_differ xs

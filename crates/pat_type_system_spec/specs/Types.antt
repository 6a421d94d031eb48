-- Mailbox types: when one fits another, may be dropped, or passes to an environment.
use Rattle.std.specs.Prelude.{◌≡◌, ℕ, nat_eq, if◌then◌else◌, Option, Some, None}
use Rattle.pat_semantics_spec.specs.Words.{no_word}
use Rattle.pat_semantics_spec.specs.Patterns.{Pat, Prod, In, Included}
use Rattle.pat_semantics_spec.specs.Values.{Base, Kind, Plain, MailboxOf}
use Rattle.pat_semantics_spec.specs.Programs.{Polarity, Sending, Receiving}

-- whether a mailbox may be returned, or only used
pub data Usage : Type 0 where
  Second : Usage
  Returnable : Usage

-- the type of a variable that names a mailbox
pub record MailboxType : Type 0 where
  pub interface : ℕ
  pub polarity : Polarity
  pub pattern : Pat
  pub usage : Usage

-- the type of a term
pub data TypeOf : Type 0 where
  BaseTerm : (base : Base) → TypeOf
  MailboxTerm : (interface : ℕ) → (polarity : Polarity) → (pattern : Pat) → TypeOf

-- the kind of a term of this type
abbrev pub kind_of_type : TypeOf → Kind
kind_of_type (BaseTerm b) = Plain b
kind_of_type (MailboxTerm i q e) = MailboxOf i

-- the type with these parts
abbrev pub mailbox_type : ℕ → Polarity → Pat → Usage → MailboxType
mailbox_type i q e u = record { interface = i; polarity = q; pattern = e; usage = u }

-- a returnable mailbox may stand for a second-class one, and not the other way round
abbrev pub UsageFits : Usage → Usage → Type 0
UsageFits Second Returnable = ⊥
UsageFits _ _ = Unit {0}

-- more may be sent than is needed, and less may be received than is allowed
abbrev pub PatternFits : Polarity → Pat → Pat → Type 0
PatternFits Sending e f = Included f e
PatternFits Receiving e f = Included e f

-- a fits b
pub record Fits (a b : MailboxType) : Type 0 where
  pub interface : a.interface ≡ b.interface
  pub polarity : a.polarity ≡ b.polarity
  pub usage : UsageFits a.usage b.usage
  pub pattern : PatternFits b.polarity a.pattern b.pattern

-- one term's type fits another's
abbrev pub TypeFits : TypeOf → TypeOf → Type 0
TypeFits (BaseTerm b) (BaseTerm c) = b ≡ c
TypeFits (MailboxTerm i q e) (MailboxTerm j r f) = Fits (mailbox_type i q e Returnable) (mailbox_type j r f Returnable)
TypeFits _ _ = ⊥

-- the type may be dropped: it is sending, and nothing need be sent
abbrev pub DropsAs : Polarity → Pat → Type 0
DropsAs Sending e = In e no_word
DropsAs Receiving e = ⊥

-- a variable of this type may be dropped
abbrev pub MayDrop : MailboxType → Type 0
MayDrop a = DropsAs a.polarity a.pattern

-- types of variables that name mailboxes
abbrev pub TypeEnv : Type 0
TypeEnv = ℕ → Option MailboxType

-- what is there passes to what is needed: it fits, or it may be dropped where nothing is needed
abbrev pub PassesTo : Option MailboxType → Option MailboxType → Type 0
PassesTo None None = Unit {0}
PassesTo None (Some b) = ⊥
PassesTo (Some a) None = MayDrop a
PassesTo (Some a) (Some b) = Fits a b

-- each variable of the first environment passes to the second, which names no other
abbrev pub EnvPasses : TypeEnv → TypeEnv → Type 0
EnvPasses g h = (x : ℕ) → PassesTo (g x) (h x)

-- how a variable of both parts of a let is divided among them
abbrev pub PatternJoins : Polarity → Polarity → Polarity → Pat → Pat → Pat → Type 0
PatternJoins Sending Sending Sending e1 e2 e = Included (Prod e1 e2) e
PatternJoins Sending Receiving Receiving e1 e2 e = Included (Prod e1 e) e2
PatternJoins Receiving Sending Receiving e1 e2 e = Included (Prod e2 e) e1
PatternJoins _ _ _ e1 e2 e = ⊥

-- the type a is used as b in the bound part of a let, and as c in its body
pub record Joins (b c a : MailboxType) : Type 0 where
  pub bound_interface : b.interface ≡ a.interface
  pub body_interface : c.interface ≡ a.interface
  pub bound_usage : b.usage ≡ Second
  pub usage : UsageFits a.usage c.usage
  pub pattern : PatternJoins b.polarity c.polarity a.polarity b.pattern c.pattern a.pattern

-- a let shares out its types: these to what is bound, those to its body
abbrev pub SplitsTo : Option MailboxType → Option MailboxType → Option MailboxType → Type 0
SplitsTo None None None = Unit {0}
SplitsTo (Some a) None None = MayDrop a
SplitsTo (Some a) (Some b) None = Fits a b
SplitsTo (Some a) None (Some c) = Fits a c
SplitsTo (Some a) (Some b) (Some c) = Joins b c a
SplitsTo None _ _ = ⊥

-- each variable is divided among the two parts
abbrev pub EnvSplits : TypeEnv → TypeEnv → TypeEnv → Type 0
EnvSplits g m n = (x : ℕ) → SplitsTo (g x) (m x) (n x)

-- no variable
abbrev pub no_types : TypeEnv
no_types x = None

-- the environment where x has this type
abbrev pub with_type : ℕ → MailboxType → TypeEnv → TypeEnv
with_type x a g z = if nat_eq x z then Some a else g z

-- the environment without x
abbrev pub without : ℕ → TypeEnv → TypeEnv
without x g z = if nat_eq x z then None else g z

-- the type, taken as returnable
abbrev pub returnable : Option MailboxType → Option MailboxType
returnable None = None
returnable (Some a) = Some (mailbox_type a.interface a.polarity a.pattern Returnable)

-- Laws of typings alone: what fits, and what the environments of a typing name.
use Rattle.std.specs.Prelude.{◌≡◌, ℕ, Option, Some, None, is_some, IsTrue, IsFalse}
use Rattle.pat_semantics_spec.specs.Values.{MailboxOf}
use Rattle.pat_semantics_spec.specs.Programs.{Program, Core, Node, node_at, core_at, binders, is_among, is_free, KindAt}
use Rattle.pat_semantics_spec.specs.WellFormed.{WellFormed}
use Rattle.pat_type_system_spec.specs.Types.{MailboxType, TypeOf, kind_of_type, Fits, TypeFits, PassesTo}
use Rattle.pat_type_system_spec.specs.Typings.{Typing, IsTyping}

-- what fits what fits, fits
abbrev pub FitsTwice : Type 0
FitsTwice = (a b c : MailboxType) → Fits a b → Fits b c → Fits a c

-- and so of what passes
abbrev pub PassesTwice : Type 0
PassesTwice = (a b c : Option MailboxType) → PassesTo a b → PassesTo b c → PassesTo a c

-- and so of the types of terms
abbrev pub TypeFitsTwice : Type 0
TypeFitsTwice = (r s t : TypeOf) → TypeFits r s → TypeFits s t → TypeFits r t

-- a type that fits another has its kind
abbrev pub FittingHasKind : Type 0
FittingHasKind = (s t : TypeOf) → TypeFits s t → kind_of_type s ≡ kind_of_type t

-- a free variable that is a mailbox is named by the environment of its node
abbrev pub FreeIsNamed : Type 0
FreeIsNamed =
    (p : Program) (y : Typing) → WellFormed p → IsTyping p y → (x i n : ℕ) (core : Core) → core_at p n ≡ Some core → KindAt p n x (MailboxOf i) → IsTrue (is_free p x n) → IsTrue (is_some (y.envs n x))

-- a variable that is named and isn't free may be dropped
abbrev pub UnusedMayBeDropped : Type 0
UnusedMayBeDropped =
    (p : Program) (y : Typing) → WellFormed p → IsTyping p y → (x n : ℕ) (core : Core) → core_at p n ≡ Some core → IsFalse (is_free p x n) → PassesTo (y.envs n x) None

-- an environment names no variable that its node binds
abbrev pub BoundIsUnnamed : Type 0
BoundIsUnnamed =
    (p : Program) (y : Typing) → WellFormed p → IsTyping p y → (x n : ℕ) (d : Node) (a : MailboxType) → node_at p n ≡ Some d → y.envs n x ≡ Some a → IsFalse (is_among x (binders d.core))

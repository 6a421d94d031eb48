-- What the rules of a checkpoint say, and that a checked checkpoint is a typed configuration.
use Rattle.std.specs.Prelude.{◌≡◌, ℕ, ◌+◌, ◌≤◌, length, List, [], Option, Some, None, option_map, IsTrue, ◌↔◌, ◌&&◌}
use Rattle.std.specs.List.{AllByRecursion}
use Rattle.pat_words_spec.specs.Patterns.{Pat}
use Rattle.pat_words_spec.specs.Sizes.{levels_of}
use Rattle.pat_semantics_spec.specs.Programs.{Core, Program, core_at}
use Rattle.pat_semantics_spec.specs.WellFormed.{WellFormed}
use Rattle.pat_semantics_spec.specs.Configs.{Frame, Config}
use Rattle.pat_semantics_spec.specs.Steps.{Step}
use Rattle.pat_semantics_spec.specs.Runs.{run_from}
use Rattle.pat_semantics_spec.specs.Faults.{Fault}
use Rattle.pat_inclusion_spec.specs.Values.{Scope, is_formed}
use Rattle.pat_inclusion_spec.specs.Certificates.{Cert, Inclusion}
use Rattle.pat_type_system_spec.specs.Typings.{Typing}
use Rattle.pat_type_system_spec.specs.Holdings.{bound_of, wanted, receivers}
use Rattle.pat_type_system_spec.specs.Typed.{NumbersFit, IsTyped}
use Rattle.pat_derivation_spec.specs.Derivations.{Derivation, scope_of, written_typing, typing_of}
use Rattle.pat_derivation_spec.specs.Rules.{type_is_formed}
use Rattle.pat_derivation_spec.specs.Validity.{IsValid}
use Rattle.pat_checkpoint_spec.specs.Checkpoints.{Checkpoint, IsAligned, interfaces_of}
use Rattle.pat_checkpoint_spec.specs.Numbers.{numbers_hold}
use Rattle.pat_checkpoint_spec.specs.Kinds.{is_frame_of_let, let_with, has_name_of, kinds_fit, parts_shown}
use Rattle.pat_checkpoint_spec.specs.HoldingsInOrder.{lines_held, all_held, types_of, sending, receiving}
use Rattle.pat_checkpoint_spec.specs.Mailboxes.{mailboxes_differ, messages_hold}
use Rattle.pat_checkpoint_spec.specs.Balances.{product_of, powers, senders, balance_left, balance_right, balances_hold}
use Rattle.pat_checkpoint_spec.specs.Written.{lines_need, lines_certs, each_certified, CanBeShown, NeedsFormed}
use Rattle.pat_checkpoint_spec.specs.Checked.{broken_check, IsChecked, stands_typed}

-- the first rule isn't broken just where numbers are in order and what is referred to is live
abbrev pub NumbersRead : Type 0
NumbersRead = (c : Config) → IsTrue (numbers_hold c) ↔ NumbersFit c

-- a checked checkpoint is a typed configuration, with the typing that the derivation gives and its own interfaces
abbrev pub CheckedIsTyped : Type 0
CheckedIsTyped = (p : Program) (d : Derivation) (x : Checkpoint) → WellFormed p → IsChecked p d x → IsTyped p (typing_of p d) (interfaces_of x) x.config

-- its lists are as long as what they go along with
abbrev pub CheckedIsAligned : Type 0
CheckedIsAligned = (p : Program) (d : Derivation) (x : Checkpoint) → IsChecked p d x → x.config.printed ≡ [] → IsAligned x

-- so no steps from it reach a fault
abbrev pub CheckedIsSafe : Type 0
CheckedIsSafe =
    (p : Program) (d : Derivation) (x : Checkpoint) (ks : List Step) (c : Config)
    → WellFormed p
    → IsChecked p d x
    → run_from p x.config ks ≡ Some c
    → Fault p c
    → ⊥

-- a typed configuration breaks no rule but for the inclusions
abbrev pub TypedStands : Type 0
TypedStands =
    (p : Program) (d : Derivation) (x : Checkpoint)
    → WellFormed p
    → IsTyped p (typing_of p d) (interfaces_of x) x.config
    → IsTrue (stands_typed p d x)

-- a checkpoint breaks no rule just where it stands typed and its inclusions are shown
abbrev pub NoneIsBroken : Type 0
NoneIsBroken =
    (p : Program) (d : Derivation) (x : Checkpoint)
    → (broken_check p d x ≡ None) ↔ IsTrue (stands_typed p d x && (parts_shown p d x && balances_hold p d x))

-- so a typed configuration whose inclusions are shown is checked
abbrev pub ShownIsChecked : Type 0
ShownIsChecked =
    (p : Program) (d : Derivation) (x : Checkpoint)
    → WellFormed p
    → IsValid p d
    → IsTyped p (typing_of p d) (interfaces_of x) x.config
    → IsTrue (parts_shown p d x)
    → IsTrue (balances_hold p d x)
    → IsChecked p d x

-- ---- other ways to the same answers, for those who examine

-- where mailboxes differ within each part and message, one walk over all places gives the holdings of every mailbox, in the order of a text
abbrev pub WalkGathers : Type 0
WalkGathers =
    (p : Program) (y : Typing) (interfaces : ℕ → ℕ) (c : Config) (a : ℕ)
    → IsTrue (mailboxes_differ c)
    → (senders (lines_held p y interfaces c a) ≡ sending (types_of a (all_held p y interfaces c)))
    × (receivers (lines_held p y interfaces c a) ≡ receiving (types_of a (all_held p y interfaces c)))

-- what is wanted, and whether a frame is that of a let, by the first let with its body
abbrev pub LetsAreFound : Type 0
LetsAreFound =
    (p : Program) (f : Frame) (core : Core)
    → WellFormed p
    → core_at p f.body ≡ Some core
    → (bound_of p.nodes f.body ≡ option_map (λ (e : Option ℕ × ℕ). e.1) (let_with p.nodes f.body)) × (is_frame_of_let p f ≡ has_name_of f (let_with p.nodes f.body))

-- both sides of a balance are patterns of the mailbox's interface, once the rules before it hold
abbrev pub SidesFormed : Type 0
SidesFormed =
    (p : Program) (d : Derivation) (x : Checkpoint) (a : ℕ)
    → WellFormed p
    → IsValid p d
    → IsTrue (kinds_fit p d x)
    → IsTrue (mailboxes_differ x.config)
    → IsTrue (messages_hold p x)
    → IsTrue (is_formed (scope_of p d) (interfaces_of x a) (balance_left p (written_typing p d) (interfaces_of x) x.config a))
    × IsTrue (is_formed (scope_of p d) (interfaces_of x a) (balance_right p (written_typing p d) (interfaces_of x) x.config a))

-- and so are the types that a part gives, and that frames want
abbrev pub TypesFormed : Type 0
TypesFormed =
    (p : Program) (d : Derivation)
    → WellFormed p
    → IsValid p d
    → ((n : ℕ) → IsTrue (type_is_formed (scope_of p d) ((written_typing p d).results n)))
    × ((fs : List Frame) → IsTrue (type_is_formed (scope_of p d) (wanted p (written_typing p d) fs)))

-- the inclusions are shown just where each line of the text has the certificate that shows what it needs
abbrev pub LinesShow : Type 0
LinesShow =
    (p : Program) (d : Derivation) (x : Checkpoint)
    → IsAligned x
    → IsTrue (parts_shown p d x && balances_hold p d x)
    ↔ IsTrue (each_certified (scope_of p d) (lines_need p (written_typing p d) (interfaces_of x) x.config) (lines_certs x))

-- where each line's inclusion can be shown there are certificates that show them
abbrev pub ShowableHasCerts : Type 0
ShowableHasCerts =
    (s : Scope) (bound : ℕ → Option ℕ) (qs : List (Option Inclusion))
    → NeedsFormed s qs
    → AllByRecursion (CanBeShown s bound) qs
    → (ks : List (Option Cert)) × IsTrue (each_certified s qs ks)

-- what the lines of a checkpoint that stands typed need is formed
abbrev pub LinesFormed : Type 0
LinesFormed =
    (p : Program) (d : Derivation) (x : Checkpoint)
    → WellFormed p
    → IsValid p d
    → IsTrue (stands_typed p d x)
    → NeedsFormed (scope_of p d) (lines_need p (written_typing p d) (interfaces_of x) x.config)

-- a product of at most 2 to the r patterns has at most r levels more than they have
abbrev pub ProductLevels : Type 0
ProductLevels =
    (r m : ℕ) (es : List Pat)
    → length es ≤ powers r
    → r ≤ length es
    → 1 ≤ m
    → AllByRecursion (λ e. levels_of e ≤ m) es
    → levels_of (product_of es) ≤ m + r

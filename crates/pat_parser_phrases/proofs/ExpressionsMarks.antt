-- Where one mark alone may stand.
use Rattle.std.proofs.Common.{◌≡◌, ◌≢◌, ℕ, List, refl}
use Rattle.pat_lexer_spec.specs.Marks as mark
use Rattle.pat_lexer_spec.specs.Tokens.{Token as Kind, Mark}
use Rattle.pat_parser_spec.specs.Trees.{Name, Span}
use Rattle.pat_parser_spec.specs.Machine as m
use Rattle.pat_parser_phrases.specs.tokens.Answers.{OnlyMark}

print_other : (fs : List m.Frame) (o s f : ℕ) (d : Kind) (w : Span) → d ≢ Mark mark.RoundOpen → m.after_print fs o s f d w ≡ m.Refused
print_other fs o s f (Mark mark.RoundOpen) w h = absurd (h refl)
print_other fs o s f _ w h = refl

-- behind `print`
pub only_print : (fs : List m.Frame) (o s f : ℕ) → OnlyMark (m.state (m.AfterPrint f) fs o 0 s) mark.RoundOpen
only_print fs o s f = record { goes_on = refl; others = print_other fs o s f }

new_other : (fs : List m.Frame) (o s f : ℕ) (d : Kind) (w : Span) → d ≢ Mark mark.SquareOpen → m.after_new fs o s f d w ≡ m.Refused
new_other fs o s f (Mark mark.SquareOpen) w h = absurd (h refl)
new_other fs o s f _ w h = refl

-- behind `new`
pub only_new : (fs : List m.Frame) (o s f : ℕ) → OnlyMark (m.state (m.AfterNew f) fs o 0 s) mark.SquareOpen
only_new fs o s f = record { goes_on = refl; others = new_other fs o s f }

new_end_other : (fs : List m.Frame) (o s f p : ℕ) (x : Name) (d : Kind) (w : Span) → d ≢ Mark mark.SquareClose → m.new_named fs s f p x d w ≡ m.Refused
new_end_other fs o s f p x (Mark mark.SquareClose) w h = absurd (h refl)
new_end_other fs o s f p x _ w h = refl

-- behind the name of an interface
pub only_new_end : (fs : List m.Frame) (o s f p : ℕ) (x : Name) → OnlyMark (m.state (m.GotName (m.NewName f p) x) fs o 0 s) mark.SquareClose
only_new_end fs o s f p x = record { goes_on = refl; others = new_end_other fs o s f p x }

free_other : (fs : List m.Frame) (o s f : ℕ) (d : Kind) (w : Span) → d ≢ Mark mark.RoundOpen → m.after_free fs o s f d w ≡ m.Refused
free_other fs o s f (Mark mark.RoundOpen) w h = absurd (h refl)
free_other fs o s f _ w h = refl

-- behind `free`
pub only_free : (fs : List m.Frame) (o s f : ℕ) → OnlyMark (m.state (m.AfterFree f) fs o 0 s) mark.RoundOpen
only_free fs o s f = record { goes_on = refl; others = free_other fs o s f }

free_end_other : (fs : List m.Frame) (o s f p : ℕ) (x : Name) (d : Kind) (w : Span) → d ≢ Mark mark.RoundClose → m.free_named fs s f p x d w ≡ m.Refused
free_end_other fs o s f p x (Mark mark.RoundClose) w h = absurd (h refl)
free_end_other fs o s f p x _ w h = refl

-- behind the name of a mailbox
pub only_free_end : (fs : List m.Frame) (o s f p : ℕ) (x : Name) → OnlyMark (m.state (m.GotName (m.FreeName f p) x) fs o 0 s) mark.RoundClose
only_free_end fs o s f p x = record { goes_on = refl; others = free_end_other fs o s f p x }

-- What is answered of tokens that are still to be read, and what a function that reads some of them returns.
use Rattle.std.specs.Prelude.{◌≡◌, ◌≢◌, ℕ, false, List, map, None, Result, Ok, Err}
use Rattle.pat_lexer_spec.specs.Marks as mark
use Rattle.pat_lexer_spec.specs.Tokens.{Token as Kind, Mark}
use Rattle.pat_parser_spec.specs.Trees.{Tree, Span}
use Rattle.pat_parser_spec.specs.Items.{Item, Limits, bound_item}
use Rattle.pat_parser_spec.specs.Machine as m
use Rattle.pat_syntax.specs.declared.token.Token.{Token}
use Rattle.pat_syntax.specs.Views.{kind_view, token_view}
use Rattle.pat_tree.specs.Views.{span_view}
use Rattle.pat_parser_phrases.specs.declared.tokens.fault.ParseError.{ParseError}
use Rattle.pat_parser_phrases.specs.declared.tokens.fault.ParseError.TheVariants as errors
use Rattle.pat_limits.specs.Limits.{most_open, most_statements}

-- how much may be open at once
abbrev pub limits : Limits
limits = record { tokens = most_open; statements = most_statements }

-- a tree, or why there is none, and at which offset
abbrev pub Answer : Type 0
Answer = Result Tree (m.Fault × ℕ)

-- the tokens that are left, and the end of the text
abbrev pub Rest : Type 0
Rest = List Token × ℕ

abbrev pub items_of : List Token → List Item
items_of ts = map bound_item (map token_view ts)

-- the machine's answer to what is left, in a state
abbrev pub answer : m.State → Rest → Answer
answer x ts = m.and_ended ts.1 (m.reads limits x (items_of ts.0))

-- its answer behind a token at an offset that makes a move
abbrev pub after : m.Move → ℕ → Rest → Answer
after y n ts = m.and_ended ts.1 (m.placed n (m.settle limits false y) (λ x. m.reads limits x (items_of ts.0)))

-- the move that a token makes in a state
abbrev pub moved : m.State → Kind → Span → m.Move
moved x c w = m.move x.control x.stack x.opened x.operators x.statements c w

-- in a state the text may not end, and no other token than the mark may stand
pub record OnlyMark (x : m.State) (c : mark.Mark) : Type 0 where
  pub goes_on : m.finish x ≡ None
  pub others : (d : Kind) → (w : Span) → d ≢ Mark c → moved x d w ≡ m.Refused

-- an error is that of the machine, offset included; want of memory says nothing
abbrev pub FailsAt : {Y : Type 0} → ParseError → Result Y (m.Fault × ℕ) → Type 0
FailsAt errors.NoMemory read = Unit {0}
FailsAt (errors.Unexpected o) read = read ≡ Err (m.Unexpected, o)
FailsAt (errors.TooDeep o) read = read ≡ Err (m.TooDeep, o)

-- where something was read, the machine's answer is the one behind it, and an error is its answer
abbrev pub Parses : {X : Type 0} → Result X ParseError → Answer → (X → Answer) → Type 0
Parses (Ok x) read behind = read ≡ behind x
Parses (Err e) read behind = FailsAt e read

-- the next token is taken, in a state of the machine
abbrev pub Takes : m.State → Rest → Rest → Result Token ParseError → Type 0
Takes x ts us r = Parses r (answer x ts) (λ t. after (moved x (kind_view t.kind) (span_view t.span)) t.span.from us)

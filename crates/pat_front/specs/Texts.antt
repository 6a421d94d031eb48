-- What a text is: that of a tree and its program, or one that is refused.
use Rattle.std.specs.Prelude.{◌≡◌, ◌<◌, ◌≤◌, ◌⊎◌, ℕ, List, length}
use Rattle.pat_lexer_spec.specs.Tokens.{Spanned}
use Rattle.pat_lexer_spec.specs.Divisions.{Divides, IsRefused, BadToken as BadTokenAt, NumberTooWide as TooWideAt}
use Rattle.pat_semantics_spec.specs.Programs.{Program}
use Rattle.pat_parser_spec.specs.Trees.{Tree}
use Rattle.pat_parser_spec.specs.Claims.{SpellsTree, IsUnexpected, IsTooDeep}
use Rattle.pat_parser_phrases.specs.tokens.Answers.{limits}
use Rattle.pat_resolver_spec.specs.Claims as names
use Rattle.pat_resolver_heads.specs.results.Views.{finding_view}
use Rattle.pat_input.specs.Inputs.{limit}
use Rattle.pat_front.specs.declared.front.FrontError.{FrontError}
use Rattle.pat_front.specs.declared.front.FrontError.TheVariants as error
use Rattle.pat_front.specs.declared.verdict.Verdict.{Verdict}
use Rattle.pat_front.specs.declared.verdict.Verdict.TheVariants as verdict

-- the bytes are few enough and divide into tokens that spell the tree
pub record IsTreeText (bytes : List ℕ) (t : Tree) : Type 0 where
  pub small : length bytes ≤ limit
  pub tokens : List Spanned
  pub divided : Divides bytes tokens
  pub spelled : SpellsTree limits tokens t

-- and the tree breaks no rule of names and kinds, and has this program
pub record IsProgramText (bytes : List ℕ) (t : Tree) (p : Program) : Type 0 where
  pub tree : IsTreeText bytes t
  pub resolved : names.Resolves (length bytes) t p

-- the bytes divide into tokens of which the one at the offset may not stand there, or which end too early
abbrev pub IsUnexpectedAt : List ℕ → ℕ → Type 0
IsUnexpectedAt bytes o = (tokens : List Spanned) × Divides bytes tokens × IsUnexpected limits (length bytes) tokens o

-- why the bytes are no text of a program
abbrev pub IsRefusal : List ℕ → Verdict → Type 0
IsRefusal bytes verdict.TooLong = limit < length bytes
IsRefusal bytes (verdict.Syntax o) = (length bytes ≤ limit) × (IsRefused bytes (BadTokenAt o) ⊎ IsUnexpectedAt bytes o)
IsRefusal bytes (verdict.NumberTooWide o) = (length bytes ≤ limit) × IsRefused bytes (TooWideAt o)
IsRefusal bytes (verdict.TooDeep o) = (length bytes ≤ limit) × ((tokens : List Spanned) × Divides bytes tokens × IsTooDeep limits tokens o)
IsRefusal bytes (verdict.Resolve k s) = (t : Tree) × IsTreeText bytes t × names.BreaksFirst (length bytes) t (finding_view k s)
-- of a text behind a program these speak, or of a run
IsRefusal bytes (verdict.BadText o) = ⊥
IsRefusal bytes (verdict.Rejected n r) = ⊥
IsRefusal bytes (verdict.RefusedAt i) = ⊥
IsRefusal bytes verdict.TooManyEntries = ⊥
IsRefusal bytes (verdict.Unshown line) = ⊥
IsRefusal bytes (verdict.BadCheckpoint rule) = ⊥
IsRefusal bytes (verdict.Unaccepted reason) = ⊥

-- what an error says of the bytes; want of memory says nothing
abbrev pub Explains : List ℕ → FrontError → Type 0
Explains bytes (error.Refused v) = IsRefusal bytes v
Explains bytes error.NoMemory = Unit {0}

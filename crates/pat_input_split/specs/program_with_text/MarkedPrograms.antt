-- Inputs that are the text of a program, and behind it a text that begins with its mark.
use Rattle.std.specs.Prelude.{◌≡◌, ◌⊎◌, ◌<◌, ◌≤◌, ℕ, List, length}
use Rattle.pat_semantics_spec.specs.Programs.{Program}
use Rattle.pat_parser_spec.specs.Trees.{Tree}
use Rattle.pat_input_split.specs.Marked.{IsMarked, IsUnmarked}
use Rattle.pat_input.specs.Inputs.{limit, whole_limit}
use Rattle.pat_front.specs.Texts.{IsProgramText, IsRefusal}
use Rattle.pat_front.specs.declared.front.FrontError.{FrontError}
use Rattle.pat_front.specs.declared.front.FrontError.TheVariants as error
use Rattle.pat_front.specs.declared.verdict.Verdict.{Verdict}
use Rattle.pat_front.specs.declared.verdict.Verdict.TheVariants as verdict

-- the bytes are the text of a tree, which has the program
abbrev pub HasTree : List ℕ → Program → Type 0
HasTree bytes p = (t : Tree) × IsProgramText bytes t p

-- the bytes are few enough, and are the front, which is the text of the program, and the text, which begins with the mark
pub record HasProgram (mark bytes front text : List ℕ) (p : Program) : Type 0 where
  pub small : length bytes ≤ whole_limit
  pub marked : IsMarked mark bytes front text
  pub has : HasTree front p

-- what is in front of the mark is refused
pub record RefusesFront (mark bytes : List ℕ) (v : Verdict) : Type 0 where
  pub small : length bytes ≤ whole_limit
  pub front : List ℕ
  pub text : List ℕ
  pub marked : IsMarked mark bytes front text
  pub refused : IsRefusal front v

-- there are too many bytes, or no line is the mark
abbrev pub RefusesBytes : (mark bytes : List ℕ) → Verdict → Type 0
RefusesBytes mark bytes verdict.TooLong = (whole_limit < length bytes) ⊎ (IsUnmarked mark bytes × (limit < length bytes))
RefusesBytes mark bytes (verdict.BadText o) = IsUnmarked mark bytes × (length bytes ≤ limit) × (o ≡ length bytes)
RefusesBytes mark bytes _ = ⊥

-- why there is no program
abbrev pub IsMarkedRefusal : (mark bytes : List ℕ) → Verdict → Type 0
IsMarkedRefusal mark bytes v = RefusesBytes mark bytes v ⊎ RefusesFront mark bytes v

-- what an error says of the bytes; want of memory says nothing
abbrev pub Explains : (mark bytes : List ℕ) → FrontError → Type 0
Explains mark bytes (error.Refused v) = IsMarkedRefusal mark bytes v
Explains mark bytes error.NoMemory = Unit {0}

-- What holds of all texts: one has one answer, and some are never refused.
use Rattle.std.specs.Prelude.{◌≡◌, ℕ, List, Bool, true, false}
use Rattle.pat_semantics_spec.specs.Programs.{Program}
use Rattle.pat_type_system_spec.specs.Typings.{IsTypable}
use Rattle.pat_parser_spec.specs.Trees.{Tree}
use Rattle.pat_solve_spec.specs.Answers.{AllUsable}
use Rattle.pat_solve_bounds.specs.results.Views.{AllInBounds}
use Rattle.pat_front.specs.Texts.{IsProgramText}
use Rattle.pat_front.specs.declared.reason.Reason.TheVariants.{Refuted}
use Rattle.pat_front.specs.declared.verdict.Verdict.{Verdict}
use Rattle.pat_front.specs.declared.verdict.Verdict.TheVariants.{Unaccepted}
use Rattle.pat_typecheck.specs.Inputs.{IsAcceptedText, IsCheckRefusal}

-- the program can be typed, each interface is in bounds, and each sending variable of a signature has a derivable word
abbrev pub NeverRefused : Type 0
NeverRefused =
    (bytes line : List ℕ) (t : Tree) (p : Program) (v : Verdict)
    → IsProgramText bytes t p
    → AllInBounds p
    → AllUsable p
    → IsTypable p
    → IsCheckRefusal bytes v line
    → ⊥

-- the verdict is that a constraint is refuted. Its line shows a word as well: any that a least tree derives, so it may be another one
abbrev pub shows_word : Verdict → Bool
shows_word (Unaccepted (Refuted s)) = true
shows_word _ = false

-- the bytes are accepted or refused, not both, and refused for one reason, which has one line but for the word that refutes
pub record OneVerdict (bytes : List ℕ) : Type 0 where
  pub not_both : (v : Verdict) (line : List ℕ) → IsAcceptedText bytes → IsCheckRefusal bytes v line → ⊥
  pub one_verdict : (v w : Verdict) (l m : List ℕ) → IsCheckRefusal bytes v l → IsCheckRefusal bytes w m → v ≡ w
  pub one_line : (v : Verdict) (l m : List ℕ) → shows_word v ≡ false → IsCheckRefusal bytes v l → IsCheckRefusal bytes v m → l ≡ m

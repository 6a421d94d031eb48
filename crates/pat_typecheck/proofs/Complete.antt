-- Texts that are never refused.
use Rattle.std.proofs.Common.{◌≡◌, ℕ, List, subst, ⊎_elim}
use Rattle.pat_semantics_spec.specs.Programs.{Program}
use Rattle.pat_type_system_spec.specs.Typings.{IsTypable}
use Rattle.pat_parser_spec.specs.Trees.{Tree}
use Rattle.pat_solve_spec.specs.Answers.{AllUsable}
use Rattle.pat_solve_bounds.specs.results.Views.{AllInBounds}
use Rattle.pat_front.specs.Laws.{OneAnswer}
use Rattle.pat_front.specs.Lines.{line_of_verdict, line_with}
use Rattle.pat_front.specs.Texts.{IsProgramText, IsRefusal}
use Rattle.pat_front.specs.declared.reason.Reason.{Reason}
use Rattle.pat_front.specs.declared.verdict.Verdict.{Verdict}
use Rattle.pat_front.specs.declared.verdict.Verdict.TheVariants.{Unaccepted}
use Rattle.pat_typecheck.specs.Inputs.{RefusesProgram, IsCheckRefusal}

pub never_refused : (bytes line : List ℕ) (t : Tree) (p : Program) (v : Verdict) → OneAnswer bytes → IsProgramText bytes t p → AllInBounds p → AllUsable p → IsTypable p → IsCheckRefusal bytes v line → ⊥
never_refused bytes line t p v one spelled bounds usable typable refusal =
    ⊎_elim
    (λ (why : IsRefusal bytes v × (line ≡ line_of_verdict v)). one.not_both v t p why.0 spelled)
    (λ (why : (r : Reason) × (more : List ℕ) × (v ≡ Unaccepted r) × RefusesProgram bytes r more × (line ≡ line_with v more)).
    let own = why.3 in
    let same : p ≡ own.program = one.one_program t own.tree p own.program spelled own.spelled in
    own.unaccepted.complete (subst AllInBounds same bounds) (subst AllUsable same usable) (subst IsTypable same typable))
    refusal

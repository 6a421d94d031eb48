use Rattle.std.proofs.Common.{◌∷◌, refl, rules}
use Rattle.std.proofs.lemmas.Result.{err_from_is_err_and}
use Rattle.pat_parser_spec.specs.Machine as m
use Rattle.pat_parser_phrases.proofs.DeclarationsMarks.{behind_params}
use Rattle.pat_parser_phrases.proofs.declarations.functions.result_type.Goals as goal

pub returns-in_err-read-clause-read : goal.returns-in_err-read-clause-read
returns-in_err-read-clause-read c = λ fs f.
    let q = err_from_is_err_and c.from_residual.result c.from_residual.ensures.1 in
    rw (q.1, q.2) (c.in_err-read.ensures.read (m.state (m.AfterParams f) fs 0 0 0) (m.AtType (m.InResult f) ∷ fs) (behind_params fs f) (λ w. refl) refl)

pub returns-in-Mark-CurlyOpen-clause-read : goal.returns-in-Mark-CurlyOpen-clause-read
returns-in-Mark-CurlyOpen-clause-read c = λ fs f. let h = c.in_ok-read.ensures.read (m.state (m.AfterParams f) fs 0 0 0) (m.AtType (m.InResult f) ∷ fs) (behind_params fs f) (λ w. refl) refl in search rules

pub returns-in_default-clause-read : goal.returns-in_default-clause-read
returns-in_default-clause-read c = λ fs f. let h = c.in_ok-read.ensures.read (m.state (m.AfterParams f) fs 0 0 0) (m.AtType (m.InResult f) ∷ fs) (behind_params fs f) (λ w. refl) refl in search rules

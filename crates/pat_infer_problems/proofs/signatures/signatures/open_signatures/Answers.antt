use Rattle.std.proofs.Common.{[], OnOk, ap, ◌∙◌, subst}
use Rattle.std.specs.List.{flat_map}
use Rattle.pat_infer_problems.specs.Growing.{Grows}
use Rattle.pat_infer_problems.specs.signatures.Views.{function_variables}
use Rattle.pat_infer_problems.proofs.Variables.{signature_variables}
use Rattle.pat_infer_problems.proofs.signatures.signatures.open_signatures.Goals as goal

pub returns-clause-grows : goal.returns-clause-grows
returns-clause-grows c =
    subst (λ vs. OnOk c.open_functions.result (Grows c.args.problem.now c.open_functions.new.problem vs [] []))
    (ap (flat_map function_variables) c.as_slice.ensures ∙ signature_variables c.args.program.now) c.open_functions.ensures.grows

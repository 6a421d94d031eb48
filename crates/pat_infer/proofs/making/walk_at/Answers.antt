use Rattle.std.proofs.Common.{◌≡◌, ◌+◌, ◌<◌, get_or, length, sym, ap, ◌∙◌, subst}
use Rattle.std.specs.Prelude.{Some, slice_get}
use Rattle.std.proofs.lemmas.List.{length-map}
use Rattle.pat_semantics_spec.specs.Programs.{Function}
use Rattle.pat_infer_spec.specs.Walk.{walk_function}
use Rattle.pat_core.specs.Views.{program_view, function_view}
use Rattle.pat_infer_problems.specs.signatures.Views.{signature_view}
use Rattle.pat_infer.specs.walk.Walking.{Finds}
use Rattle.pat_infer.proofs.Functions.{signed_within, there, same_function}
use Rattle.pat_infer.proofs.making.walk_at.Goals as goal

pub bounds-signed-number : goal.bounds-signed-number
bounds-signed-number c =
    let p = c.args.signed.now.program.now in
    signed_within 1 (program_view p).functions c.args.signed.now.signatures.now c.args.number c.requires.signed (subst (λ k. c.args.number < k) (sym (length-map p.functions function_view)) c.requires.within)

pub walk_function-requires-clause-function : goal.walk_function-requires-clause-function
walk_function-requires-clause-function c =
    let p = c.args.signed.now.program.now in
    there function_view p.functions c.args.number c.index-as_slice-number.result c.requires.within (c.index-as_slice-number.is ∙ ap (λ ds. get_or ds c.args.number c.index-as_slice-number.result) c.as_slice.ensures)

pub walk_function-requires-clause-signature : goal.walk_function-requires-clause-signature
walk_function-requires-clause-signature c =
    let p = c.args.signed.now.program.now in
    let ss = c.args.signed.now.signatures.now in
    let within = signed_within 1 (program_view p).functions ss c.args.number c.requires.signed (subst (λ k. c.args.number < k) (sym (length-map p.functions function_view)) c.requires.within) in
    there signature_view ss c.args.number c.index-signed-number.result within c.index-signed-number.is
    ∙ ap (λ s. Some (signature_view s)) c.index-signed-number.is

pub returns : goal.returns
returns c = λ g h.
    let p = c.args.signed.now.program.now in
    let v = program_view p in
    let n = c.args.number in
    let own : Function = function_view c.index-as_slice-number.result in
    let here : slice_get v.functions n ≡ Some own = there function_view p.functions n c.index-as_slice-number.result c.requires.within (c.index-as_slice-number.is ∙ ap (λ ds. get_or ds n c.index-as_slice-number.result) c.as_slice.ensures) in
    subst (λ (f : Function). Finds p c.args.problem.now c.walk_function.new.problem c.walk_function.result (walk_function v n f (1 + length c.args.problem.now.vars))) (same_function v.functions n own g here h) c.walk_function.ensures

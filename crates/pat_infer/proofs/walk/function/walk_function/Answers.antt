use Rattle.std.proofs.Common.{◌≡◌, ℕ, ◌+◌, List, map, length, sym, ap, ◌∙◌, subst, rules}
use Rattle.std.specs.Prelude.{Some, slice_get}
use Rattle.std.proofs.lemmas.List.{length-map}
use Rattle.std.proofs.lemmas.Result.{err_from_is_err_and}
use Rattle.pat_type_schemes_spec.specs.Signatures.{open_result}
use Rattle.pat_type_system_spec.specs.Types.{TypeOf}
use Rattle.pat_infer_spec.specs.Constraints.{Found}
use Rattle.pat_infer_spec.specs.Binders.{binder_findings}
use Rattle.pat_infer_spec.specs.Walk.{walk, function_binders, function_found}
use Rattle.pat_core.specs.Views.{program_view, function_view, node_view}
use Rattle.pat_types.specs.Views.{needs_view}
use Rattle.pat_infer_problems.specs.Results.{Refuses}
use Rattle.pat_infer_problems.specs.signatures.Opened.{Signature, signatures_from}
use Rattle.pat_infer_problems.specs.signatures.Views.{signature_view}
use Rattle.pat_infer_terms.specs.Views.{binder_view}
use Rattle.pat_infer_problems.specs.Walked.{IsWalked}
use Rattle.pat_infer_problems.proofs.Joining.{refuses_front}
use Rattle.pat_infer.proofs.WalkFunctions.{result_same, binders_same, function_walked, function_refused, finds_exits}
use Rattle.pat_infer.proofs.walk.function.walk_function.Goals as goal

pub returns-in_err-needs : goal.returns-in_err-needs
returns-in_err-needs c =
    let p = c.args.signed.now.program.now in
    let v = program_view p in
    let f = c.args.number in
    let g = function_view c.args.function.now in
    let s = signature_view c.args.signature.now in
    let k : ℕ = 1 + length c.args.problem.now.vars in
    let there : slice_get (signatures_from 1 v.functions) f ≡ Some s = ap (λ (ss : List Signature). slice_get ss f) (sym c.requires.signed) ∙ c.requires.signature in
    let many : c.len-levels.result ≡ length v.nodes = c.len-levels.ensures ∙ sym (length-map p.nodes node_view) in
    let same : walk c.len-levels.result v g.body s.result k ≡ walk (length v.nodes) v g.body (open_result v f g) k =
    ap (λ (n : ℕ). walk n v g.body s.result k) many ∙ ap (λ (z : TypeOf). walk (length v.nodes) v g.body z k) (result_same v f g s c.requires.function there) in
    let b : Found = walk (length v.nodes) v g.body (open_result v f g) k in
    let e = c.in_err-needs.field-0.0 in
    let q = err_from_is_err_and c.from_residual.result c.from_residual.ensures.1 in
    finds_exits p c.from_residual.result q.0 e c.args.problem.now c.walk.new.problem (function_found v f g b) q.1 q.2
    (refuses_front p e b.findings (binder_findings f (function_binders v f g b.needs)) (subst (λ (z : Found). Refuses p e z.findings) same c.in_err-needs.ensures))

pub returns-in_err-check_names : goal.returns-in_err-check_names
returns-in_err-check_names c =
    let p = c.args.signed.now.program.now in
    let v = program_view p in
    let f = c.args.number in
    let g = function_view c.args.function.now in
    let s = signature_view c.args.signature.now in
    let k : ℕ = 1 + length c.args.problem.now.vars in
    let there : slice_get (signatures_from 1 v.functions) f ≡ Some s = ap (λ (ss : List Signature). slice_get ss f) (sym c.requires.signed) ∙ c.requires.signature in
    let many : c.len-levels.result ≡ length v.nodes = c.len-levels.ensures ∙ sym (length-map p.nodes node_view) in
    let same : walk c.len-levels.result v g.body s.result k ≡ walk (length v.nodes) v g.body (open_result v f g) k =
    ap (λ (n : ℕ). walk n v g.body s.result k) many ∙ ap (λ (z : TypeOf). walk (length v.nodes) v g.body z k) (result_same v f g s c.requires.function there) in
    let b : Found = walk (length v.nodes) v g.body (open_result v f g) k in
    let e = c.in_err-check_names.field-0.0 in
    let q = err_from_is_err_and c.from_residual-in_err-check_names.result c.from_residual-in_err-check_names.ensures.1 in
    let w : IsWalked p c.args.problem.now c.walk.new.problem c.in_ok-needs.needs b = subst (IsWalked p c.args.problem.now c.walk.new.problem c.in_ok-needs.needs) same c.in_ok-needs.ensures in
    let w2 : IsWalked p c.args.problem.now c.walk.new.problem c.as_slice.result.now b = search rules in
    finds_exits p c.from_residual-in_err-check_names.result q.0 e c.args.problem.now c.walk.new.problem (function_found v f g b) q.1 q.2
    (function_refused p c.args.problem.now c.walk.new.problem f g e c.as_slice.result.now (map binder_view c.in_ok-binders.binders) b w2 (c.in_ok-binders.ensures ∙ binders_same v f g s (needs_view c.as_slice.result.now) c.requires.function there) (search rules))

pub returns : goal.returns
returns c =
    let p = c.args.signed.now.program.now in
    let v = program_view p in
    let f = c.args.number in
    let g = function_view c.args.function.now in
    let s = signature_view c.args.signature.now in
    let k : ℕ = 1 + length c.args.problem.now.vars in
    let there : slice_get (signatures_from 1 v.functions) f ≡ Some s = ap (λ (ss : List Signature). slice_get ss f) (sym c.requires.signed) ∙ c.requires.signature in
    let many : c.len-levels.result ≡ length v.nodes = c.len-levels.ensures ∙ sym (length-map p.nodes node_view) in
    let same : walk c.len-levels.result v g.body s.result k ≡ walk (length v.nodes) v g.body (open_result v f g) k =
    ap (λ (n : ℕ). walk n v g.body s.result k) many ∙ ap (λ (z : TypeOf). walk (length v.nodes) v g.body z k) (result_same v f g s c.requires.function there) in
    let b : Found = walk (length v.nodes) v g.body (open_result v f g) k in
    let w : IsWalked p c.args.problem.now c.walk.new.problem c.in_ok-needs.needs b = subst (IsWalked p c.args.problem.now c.walk.new.problem c.in_ok-needs.needs) same c.in_ok-needs.ensures in
    let w2 : IsWalked p c.args.problem.now c.walk.new.problem c.as_slice.result.now b = search rules in
    function_walked p c.args.problem.now c.walk.new.problem c.constrain_names.new.problem f g c.as_slice.result.now (map binder_view c.in_ok-binders.binders) b w2 (c.in_ok-binders.ensures ∙ binders_same v f g s (needs_view c.as_slice.result.now) c.requires.function there) (search rules) (search rules)

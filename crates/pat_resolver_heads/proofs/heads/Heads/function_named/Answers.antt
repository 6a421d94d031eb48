use Rattle.std.proofs.Common.{List, get_or, ap, ◌∙◌}
use Rattle.pat_resolver_heads.specs.Views.{signature_view}
use Rattle.pat_resolver_heads.specs.declared.heads.Signature.{Signature}
use Rattle.pat_resolver_heads.proofs.Found.{found_in, missed_in}
use Rattle.pat_resolver_heads.proofs.heads.Heads.function_named.Goals as goal

pub returns-in-Some : goal.returns-in-Some
returns-in-Some c =
    let h = c.args.self.now in
    let s : Signature = c.index-as_slice-place.result in
    found_in signature_view (λ s. s.name) c.args.name.now h.functions h.signatures c.in-Some.place s h.called c.in-Some.ensures.place (c.index-as_slice-place.is ∙ ap (λ (ss : List Signature). get_or ss c.in-Some.place s) c.as_slice.ensures)

pub returns-in-None : goal.returns-in-None
returns-in-None c = let h = c.args.self.now in missed_in signature_view (λ s. s.name) c.args.name.now h.functions h.signatures h.called c.in-None.ensures.place

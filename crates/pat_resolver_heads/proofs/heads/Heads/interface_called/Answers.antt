use Rattle.std.proofs.Common.{Some, None, ◌∙◌}
use Rattle.pat_core.specs.Views.{interface_view}
use Rattle.pat_resolver_heads.proofs.Found.{place_in}
use Rattle.pat_resolver_heads.proofs.heads.Heads.interface_called.Goals as goal

pub returns-in-Some : goal.returns-in-Some
returns-in-Some c =
    let h = c.args.self.now in
    place_in interface_view (λ i. i.name) c.args.name.now h.names.table h.interfaces (Some c.in-Some.place) (h.names.tied ∙ h.named) c.in-Some.ensures.place

pub returns-in-None : goal.returns-in-None
returns-in-None c =
    let h = c.args.self.now in
    place_in interface_view (λ i. i.name) c.args.name.now h.names.table h.interfaces None (h.names.tied ∙ h.named) c.in-None.ensures.place

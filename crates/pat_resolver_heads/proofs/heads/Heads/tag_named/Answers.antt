use Rattle.std.proofs.Common.{◌<◌, length, arith, ap, sym, ◌∙◌}
use Rattle.pat_core.specs.declared.program.Interface.{Interface}
use Rattle.pat_resolver_spec.specs.Heads.{tags_at}
use Rattle.pat_resolver_heads.specs.Views.{heads_view}
use Rattle.pat_resolver_heads.proofs.Tags.{tag_found, tag_missed}
use Rattle.pat_resolver_heads.proofs.heads.Heads.tag_named.Goals as goal

pub returns-in-Some : goal.returns-in-Some
returns-in-Some c =
    let h = c.args.self.now in
    let i = c.args.interface in
    let there : i < length h.interfaces = c.tags_of.ensures.there (omega (arith, c.in-Some.ensures.below)) in
    tag_found c.tags_of.result.now c.args.name.now h.interfaces c.as_slice.result.now i c.in-Some.place c.index-as_slice-interface.result c.as_slice-in-Some.result.now c.index-as_slice-place.result c.tags_of.ensures.names c.in-Some.ensures.place there c.as_slice.ensures c.index-as_slice-interface.is (c.as_slice-in-Some.ensures ∙ ap (λ (n : Interface). n.tags) (sym c.index-as_slice-interface.is)) c.index-as_slice-place.is

pub returns-in-None : goal.returns-in-None
returns-in-None c =
    tag_missed c.tags_of.result.now c.args.name.now (tags_at (heads_view c.args.self.now) c.args.interface) c.tags_of.ensures.names c.in-None.ensures.place

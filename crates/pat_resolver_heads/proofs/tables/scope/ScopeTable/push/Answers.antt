use Rattle.std.proofs.Common.{List, ℕ, map, ◌∙◌, sym, ap}
use Rattle.std.specs.Option.{option_flatten}
use Rattle.pat_resolver_heads.specs.tables.Innermost.{innermost, known_top}
use Rattle.pat_resolver_heads.proofs.Tops.{pushed, restored}
use Rattle.pat_resolver_heads.proofs.tables.scope.ScopeTable.push.Goals as goal

pub invariant_of-self-in-Ok : goal.invariant_of-self-in-Ok
invariant_of-self-in-Ok c =
    let inside = c.self.inside in
    let own = c.as_bytes.ensures in
    pushed inside.entries c.push.new.self _ c.as_bytes.result c.len-place.result inside.places.entries c.insert.new.self.entries c.self.invariant c.in-Ok.ensures.ok
    (own ∙ sym c.new.ensures)
    c.len-place.ensures
    (c.flatten-shadowed.ensures ∙ ap option_flatten c.in_ok-insert.ensures.old ∙ c.self.invariant.0 c.as_bytes.result.now ∙ ap (λ (n : List ℕ). innermost n (map (λ e. e.variable) inside.entries)) (own ∙ sym c.new.ensures))
    c.in_ok-insert.ensures.entries

pub invariant_of-self-in-Err : goal.invariant_of-self-in-Err
invariant_of-self-in-Err c =
    let inside = c.self.inside in
    let es = inside.places.entries in
    let own = c.as_bytes.ensures in
    let before = c.flatten-shadowed.ensures ∙ ap option_flatten c.in_ok-insert.ensures.old ∙ ap (λ (n : List ℕ). known_top n es) own in
    restored inside.entries c.push.new.self c.args.name.now c.flatten-shadowed.result c.len-place.result es c.insert.new.self.entries c.set_known.new.known.entries c.as_bytes.result c.self.invariant c.in-Err.ensures.err own before c.in_ok-insert.ensures.entries c.set_known.ensures

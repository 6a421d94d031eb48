use Rattle.pat_resolver_heads.proofs.Tops.{popped}
use Rattle.pat_resolver_heads.proofs.tables.scope.ScopeTable.pop_one.Goals as goal

pub invariant_of-self-in-Some-get_mut : goal.invariant_of-self-in-Some-get_mut
invariant_of-self-in-Some-get_mut c =
    let e = c.in-Some.entry in
    popped c.self.inside.entries c.pop.new.self e c.as_bytes.result.now c.in-Some-get_mut.place.now c.self.inside.places.entries (c.get_mut.follows.lender e.shadowed).entries c.self.invariant c.in-Some.ensures.some c.as_bytes.ensures c.in-Some-get_mut.ensures.value (c.get_mut.follows.holds e.shadowed).0

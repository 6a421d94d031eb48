use Rattle.std.proofs.Common.{List, ◌≡◌, map, reverse, ◌∙◌, sym, ap, arith}
use Rattle.pat_resolver_heads.specs.declared.tables.scope.Entry.{Entry}
use Rattle.pat_resolver_heads.specs.declared.tables.scope.Variable.{Variable}
use Rattle.pat_resolver_heads.proofs.Tops.{within, nowhere, found_at, as_many}
use Rattle.pat_resolver_heads.proofs.tables.scope.ScopeTable.find.Goals as goal

pub bounds-as_slice-place : goal.bounds-as_slice-place
bounds-as_slice-place c =
    let vs : List Variable = c.args.self.now in
    let us : List Entry = c.as_slice.result.now in
    let same : map (λ e. e.variable) (reverse us) ≡ vs = ap (map (λ (e : Entry). e.variable)) c.as_slice.ensures ∙ c.self.view_is in
    omega (arith, within c.args.name.now vs c.in-Some.place (sym c.in-Some.ensures), as_many us vs same)

pub offset_bounds-as_slice-place : goal.offset_bounds-as_slice-place
offset_bounds-as_slice-place c =
    let vs : List Variable = c.args.self.now in
    let us : List Entry = c.as_slice.result.now in
    let same : map (λ e. e.variable) (reverse us) ≡ vs = ap (map (λ (e : Entry). e.variable)) c.as_slice.ensures ∙ c.self.view_is in
    omega (arith, within c.args.name.now vs c.in-Some.place (sym c.in-Some.ensures), as_many us vs same)

pub returns-in-None : goal.returns-in-None
returns-in-None c = nowhere c.args.name.now c.args.self.now (sym c.in-None.ensures)

pub returns-in-Some : goal.returns-in-Some
returns-in-Some c = found_at c.args.name.now c.as_slice.result.now c.args.self.now c.in-Some.place _ (ap (map (λ (e : Entry). e.variable)) c.as_slice.ensures ∙ c.self.view_is) (sym c.in-Some.ensures)

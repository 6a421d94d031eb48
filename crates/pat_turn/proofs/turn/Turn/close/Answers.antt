use Rattle.std.proofs.Common.{rules, ◌≡◌, suc, false, ap, ◌∙◌, sym, subst, ◌++◌, map, List, Option, Some, slice_get, length}
use Rattle.std.specs.Option.{IsSome}
use mathlib.Core.Option.{some-injective}
use lib.ListN.{get_elem?}
use Rattle.pat_turn.specs.Shown.{ShownPass, as_part, IsOfAll}
use Rattle.pat_turn.proofs.Steps.{closes}
use Rattle.pat_turn.proofs.Lists.{split_first, rest_all, some_is}
use Rattle.pat_turn.proofs.Settled.{settled_idle}
use Rattle.pat_turn.proofs.turn.Turn.close.Goals as goal

pub join_all-requires-clause-table : goal.join_all-requires-clause-table
join_all-requires-clause-table g c =
    let whole = split_first c.args.passes.items c.remove.new.self.items c.remove.result (search rules) c.remove.ensures.value c.remove.ensures.items in
    let first = c.requires.1 0 c.remove.result (ap (λ l. slice_get l 0) whole) in
    let id = ap (λ t. t.id) c.self.view_is in
    (c.self.invariant.0, ap (λ p. p.turn) c.first.view_is ∙ (first.0 ∙ sym id))

pub join_all-requires-clause-idle : goal.join_all-requires-clause-idle
join_all-requires-clause-idle g c =
    let whole = split_first c.args.passes.items c.remove.new.self.items c.remove.result (search rules) c.remove.ensures.value c.remove.ensures.items in
    let first = c.requires.1 0 c.remove.result (ap (λ l. slice_get l 0) whole) in
    let id = ap (λ t. t.id) c.self.view_is in
    (settled_idle c.first.inside.number c.first.inside.seat.me c.first.invariant (ap (λ p. p.holds) c.first.view_is ∙ first.2)).0

pub join_all-requires-clause-others : goal.join_all-requires-clause-others
join_all-requires-clause-others g c =
    let whole = split_first c.args.passes.items c.remove.new.self.items c.remove.result (search rules) c.remove.ensures.value c.remove.ensures.items in
    let first = c.requires.1 0 c.remove.result (ap (λ l. slice_get l 0) whole) in
    let id = ap (λ t. t.id) c.self.view_is in
    rest_all (λ (p : ShownPass g.row.V-Name.Denot g.row.V-Entry.Denot). (p.turn ≡ c.self.inside.table.shared.table_id) × (p.holds ≡ false)) c.remove.new.self.items
    (λ j q e. let a = c.requires.1 (suc j) q (ap (λ l. slice_get l (suc j)) whole ∙ e) in (a.0 ∙ sym id, a.2))

pub close_with-closed-requires : goal.close_with-closed-requires
close_with-closed-requires g c =
    let whole = split_first c.args.passes.items c.remove.new.self.items c.remove.result (search rules) c.remove.ensures.value c.remove.ensures.items in
    let first = c.requires.1 0 c.remove.result (ap (λ l. slice_get l 0) whole) in
    let id = ap (λ t. t.id) c.self.view_is in
    c.join_all.ensures.seat.0 ∙ (ap (λ p. p.turn) c.first.view_is ∙ (first.0 ∙ sym id))

-- The three goals behind the close rest on what is told of it. Each has a `c` of another type, so each says it for itself.
pub unwrap-requires : goal.unwrap-requires
unwrap-requires g c =
    let whole = split_first c.args.passes.items c.remove.new.self.items c.remove.result (search rules) c.remove.ensures.value c.remove.ensures.items in
    let p : ShownPass g.row.V-Name.Denot g.row.V-Entry.Denot = c.remove.result in
    let rest = c.remove.new.self.items in
    let first = c.requires.1 0 p (ap (λ l. slice_get l 0) whole) in
    let idle = settled_idle c.first.inside.number c.first.inside.seat.me c.first.invariant (ap (λ q. q.holds) c.first.view_is ∙ first.2) in
    let now = c.join_all.ensures.joined in
    let end = c.close_with-closed.ensures.values.2 in
    let told = closes g.V.Kept.name g.V.Kept.log g.V.Kept.by (g.V.Kept.name c.self.inside.table.shared.key.first.value) c.self.inside.table.shared.key.passes c.join_all.new.first.id c.join_all.new.first.me.0 p rest
    (ap length (sym whole) ∙ (c.requires.0 ∙ sym (ap (λ t. t.passes) c.self.view_is)))
    (λ i q e. (c.requires.1 i q (ap (λ l. slice_get l i) whole ∙ e)).1)
    (ap (λ v. v.stage) now ∙ idle.0)
    (ap (λ v. v.number) now ∙ ap (λ q. q.number) c.first.view_is)
    (ap (λ v. v.seen) now ∙ ap (λ q. q.seen) c.first.view_is)
    (ap (λ v. v.joined) now ∙ ap (λ l. l ++ map as_part rest) c.first.invariant.alone)
    end.0 end.1.0 end.1.1 in
    let is : c.take-value.result ≡ Some told.0 = some-injective c.take-value.result (Some told.0) (sym c.take-value.ensures.value ∙ end.4 0 (Some told.0) (ap (λ hs. get_elem? hs 0) told.1)) in
    subst (λ (o : Option g.row.V.Denot). IsSome o) (sym is) (search rules)

pub returns-clause-name : goal.returns-clause-name
returns-clause-name g c =
    let whole = split_first c.args.passes.items c.remove.new.self.items c.remove.result (search rules) c.remove.ensures.value c.remove.ensures.items in
    let p : ShownPass g.row.V-Name.Denot g.row.V-Entry.Denot = c.remove.result in
    let rest = c.remove.new.self.items in
    let first = c.requires.1 0 p (ap (λ l. slice_get l 0) whole) in
    let idle = settled_idle c.first.inside.number c.first.inside.seat.me c.first.invariant (ap (λ q. q.holds) c.first.view_is ∙ first.2) in
    let now = c.join_all.ensures.joined in
    let end = c.close_with-closed.ensures.values.2 in
    let told = closes g.V.Kept.name g.V.Kept.log g.V.Kept.by (g.V.Kept.name c.self.inside.table.shared.key.first.value) c.self.inside.table.shared.key.passes c.join_all.new.first.id c.join_all.new.first.me.0 p rest
    (ap length (sym whole) ∙ (c.requires.0 ∙ sym (ap (λ t. t.passes) c.self.view_is)))
    (λ i q e. (c.requires.1 i q (ap (λ l. slice_get l i) whole ∙ e)).1)
    (ap (λ v. v.stage) now ∙ idle.0)
    (ap (λ v. v.number) now ∙ ap (λ q. q.number) c.first.view_is)
    (ap (λ v. v.seen) now ∙ ap (λ q. q.seen) c.first.view_is)
    (ap (λ v. v.joined) now ∙ ap (λ l. l ++ map as_part rest) c.first.invariant.alone)
    end.0 end.1.0 end.1.1 in
    let is : c.take-value.result ≡ Some told.0 = some-injective c.take-value.result (Some told.0) (sym c.take-value.ensures.value ∙ end.4 0 (Some told.0) (ap (λ hs. get_elem? hs 0) told.1)) in
    let same : c.unwrap.result ≡ told.0 = some_is (sym c.unwrap.ensures ∙ is) in
    ap g.V.Kept.name same ∙ (told.2 ∙ ap (λ t. t.name) c.self.view_is)

pub returns-clause-log : goal.returns-clause-log
returns-clause-log g c =
    let whole = split_first c.args.passes.items c.remove.new.self.items c.remove.result (search rules) c.remove.ensures.value c.remove.ensures.items in
    let p : ShownPass g.row.V-Name.Denot g.row.V-Entry.Denot = c.remove.result in
    let rest = c.remove.new.self.items in
    let first = c.requires.1 0 p (ap (λ l. slice_get l 0) whole) in
    let idle = settled_idle c.first.inside.number c.first.inside.seat.me c.first.invariant (ap (λ q. q.holds) c.first.view_is ∙ first.2) in
    let now = c.join_all.ensures.joined in
    let end = c.close_with-closed.ensures.values.2 in
    let told = closes g.V.Kept.name g.V.Kept.log g.V.Kept.by (g.V.Kept.name c.self.inside.table.shared.key.first.value) c.self.inside.table.shared.key.passes c.join_all.new.first.id c.join_all.new.first.me.0 p rest
    (ap length (sym whole) ∙ (c.requires.0 ∙ sym (ap (λ t. t.passes) c.self.view_is)))
    (λ i q e. (c.requires.1 i q (ap (λ l. slice_get l i) whole ∙ e)).1)
    (ap (λ v. v.stage) now ∙ idle.0)
    (ap (λ v. v.number) now ∙ ap (λ q. q.number) c.first.view_is)
    (ap (λ v. v.seen) now ∙ ap (λ q. q.seen) c.first.view_is)
    (ap (λ v. v.joined) now ∙ ap (λ l. l ++ map as_part rest) c.first.invariant.alone)
    end.0 end.1.0 end.1.1 in
    let is : c.take-value.result ≡ Some told.0 = some-injective c.take-value.result (Some told.0) (sym c.take-value.ensures.value ∙ end.4 0 (Some told.0) (ap (λ hs. get_elem? hs 0) told.1)) in
    let same : c.unwrap.result ≡ told.0 = some_is (sym c.unwrap.ensures ∙ is) in
    subst (λ (x : List (ShownPass g.row.V-Name.Denot g.row.V-Entry.Denot) × g.row.V.Denot). IsOfAll g.V.Kept.by x.0 (g.V.Kept.log x.1)) (λ i. (sym whole i, sym same i)) told.3

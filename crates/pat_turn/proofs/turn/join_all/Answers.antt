use Rattle.std.proofs.Common.{rules, ◌≡◌, false, ap, ◌∙◌, sym, ◌++◌, ◌∷◌, [], map, append_assoc}
use Rattle.pat_turn.specs.declared.view.View.{View}
use Rattle.pat_turn.specs.Shown.{ShownPass, as_part}
use Rattle.pat_turn.specs.Rule.{part_of}
use Rattle.pat_turn.proofs.Steps.{joins}
use Rattle.pat_turn.proofs.Lists.{all_amid, map_snoc}
use Rattle.pat_turn.proofs.Settled.{settled_idle}
use Rattle.pat_turn.proofs.turn.join_all.Goals as goal

pub join_seat-requires : goal.join_seat-requires
join_seat-requires g c =
    let this = all_amid (λ (p : ShownPass g.row.V-Name.Denot g.row.V-Entry.Denot). (p.turn ≡ c.args.top.now.table_id) × (p.holds ≡ false)) c.loop-pass.yielded c.loop-pass.pass-iterator.rest.items c.args.others.items c.next.new.self.rest.items c.in-Some.pass c.requires.others c.loop-pass.invariant.3 c.in-Some.ensures.steps.0 in
    let idle = settled_idle c.pass.inside.number c.pass.inside.seat.me c.pass.invariant (ap (λ p. p.holds) c.pass.view_is ∙ this.1) in
    (c.loop-pass.invariant.0 ∙ c.requires.table.1, ap (λ p. p.turn) c.pass.view_is ∙ this.0, idle.1, search rules, joins g.V.Kept.name g.V.Kept.log g.V.Kept.by _ _ _ _ _ _ (ap (λ v. v.stage) c.loop-pass.invariant.2 ∙ c.requires.idle) idle.0)

pub loop-pass-preserved : goal.loop-pass-preserved
loop-pass-preserved g c =
    let V : Type 0 = View g.row.V-Name.Denot g.row.V-Entry.Denot in
    let P : Type 0 = ShownPass g.row.V-Name.Denot g.row.V-Entry.Denot in
    let v : V = c.args.first.now.me.0 in
    let xs = map as_part c.loop-pass.yielded in
    let part : part_of c.pass.inside.seat.me.0 ≡ as_part c.in-Some.pass = ap (λ (p : P). as_part p) c.pass.view_is in
    let now = ap (λ m. m.0) c.join_seat.ensures.2 ∙ (λ i. record (c.loop-pass.invariant.2 i) { joined = (c.loop-pass.invariant.2 i).joined ++ part i ∷ [] }) in
    let rows : (v.joined ++ xs) ++ as_part c.in-Some.pass ∷ [] ≡ v.joined ++ map as_part (c.loop-pass.yielded ++ c.in-Some.pass ∷ []) =
    append_assoc v.joined xs (as_part c.in-Some.pass ∷ []) ∙ ap (λ l. v.joined ++ l) (sym (map_snoc as_part c.loop-pass.yielded c.in-Some.pass)) in (
      c.join_seat.ensures.0 ∙ c.loop-pass.invariant.0,
      c.join_seat.ensures.1 ∙ c.loop-pass.invariant.1,
      now ∙ ap (λ l. record v { joined = l }) rows,
      append_assoc c.loop-pass.yielded (c.in-Some.pass ∷ []) c.next.new.self.rest.items ∙ (ap (λ l. c.loop-pass.yielded ++ l) (sym c.in-Some.ensures.steps.0) ∙ c.loop-pass.invariant.3),
    )

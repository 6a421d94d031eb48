use Rattle.std.proofs.Common.{rules, arith, ◌≡◌, ℕ, ◌+◌, ◌-◌, ◌≤◌, ◌<◌, [], ◌∷◌, ◌++◌, ap, ◌∙◌, refl, sym, subst, Option}
use Rattle.atomic_table.specs.Table.{Me}
use Rattle.pat_turn.specs.declared.view.View.{View}
use Rattle.pat_turn.specs.Rule.{another, counted}
use Rattle.pat_turn.specs.Shown.{ShownTurn, turn_of, newcomer, newcomers, shown, IsSettled}
use Rattle.pat_turn.proofs.Steps.{splits}
use Rattle.pat_turn.proofs.Lists.{newcomers_more}
use Rattle.pat_turn.proofs.turn.add_passes.Goals as goal

pub split_seat-seat-requires : goal.split_seat-seat-requires
split_seat-seat-requires g c =
    let me = c.loop-number.invariant.3 in
    let made = ap (λ m. m.0.made) me in
    let less = c.loop-number-test.true in
    let all = c.requires.table.2 in
    (search rules, search rules, splits g.V.Kept.name g.V.Kept.log g.V.Kept.by _ _ c.loop-number.first.id c.loop-number.first.me.0 (ap (λ m. m.0.stage) me) (ap (λ m. m.0.number) me) (omega (arith, made, less, all)))

pub loop-number-preserved : goal.loop-number-preserved
loop-number-preserved g c =
    let me = c.loop-number.invariant.3 in
    let k : ℕ = c.loop-number.number in
    let low : 1 ≤ k = c.loop-number.invariant.0 in
    let less : k < c.args.passes = c.loop-number-test.true in
    let N : Type 0 = g.row.V-Name.Denot in
    let E : Type 0 = g.row.V-Entry.Denot in
    let t : ShownTurn N = turn_of c.args.top.now.table_id (g.V.Kept.name c.args.top.now.key.first.value) c.args.passes in
    let cut = c.split_seat-seat.ensures in
    let place : c.split_seat-seat.result.table_id ≡ c.args.top.now.table_id = cut.3 ∙ c.loop-number.invariant.2 in
    let begun = cut.4 ∙ ap (λ m. (another m.0, [])) me in
    let number : k ≡ 1 + (k - 1) = omega (arith, low) in
    let new : shown c.split_seat-seat.result.table_id c.split_seat-seat.result.me ≡ newcomer t (1 + (k - 1)) = (λ i. shown (place i) (begun i)) ∙ ap (newcomer t) number in
    let rows = c.in_ok-push.ensures.items ∙ ((λ i. c.loop-number.invariant.4 i ++ new i ∷ []) ∙ newcomers_more {E = E} t 1 (k - 1)) in
    let count : k - 1 + 1 ≡ k + 1 - 1 = omega (arith, low) in (
      omega (arith, low),
      omega (arith, less),
      search rules,
      cut.2 ∙ ap (λ m. (counted m.0, m.1)) me,
      rows ∙ ap (newcomers {E = E} t 1) count,
    )

pub invariant_of-push : goal.invariant_of-push
invariant_of-push g c =
    let begun = c.split_seat-seat.ensures.4 ∙ ap (λ m. (another m.0, [])) c.loop-number.invariant.3 in
    subst (λ (m : Me (Option g.row.V.Denot) (View g.row.V-Name.Denot g.row.V-Entry.Denot)). IsSettled c.loop-number.number m) (sym begun) (record { numbered = refl; rests = refl; alone = refl })

use Rattle.std.proofs.Common.{rules, arith, ◌≡◌, ◌-◌, [], ◌∷◌, Some, ap, sym, ◌∙◌, refl, subst, Option, List}
use Rattle.atomic_table.specs.Table.{opening, Me}
use Rattle.pat_turn.specs.Rule.{IsTurn, opened}
use Rattle.pat_turn.specs.Shown.{IsSettled, ShownTurn, turn_of, newcomers, newcomer, shown}
use Rattle.pat_turn.specs.declared.view.View.{View}
use Rattle.std.specs.List.{insert}
use Rattle.pat_turn.proofs.Steps.{opens}
use Rattle.pat_turn.proofs.Lists.{newcomers_cons}
use Rattle.pat_turn.proofs.turn.Turn.new.Goals as goal

pub new-requires : goal.new-requires
new-requires g c =
    let name = g.V.Kept.name c.of.result.value in
    let slots : c.push_reserved.new.self.items ≡ Some c.args.value ∷ [] = search rules in
    subst (λ (xs : List (Option g.row.V.Denot)). IsTurn g.V.Kept.name g.V.Kept.log g.V.Kept.by name c.args.passes (opening (0 ∷ 0 ∷ []) xs (opened name))) (sym slots)
    (opens g.V.Kept.name g.V.Kept.log g.V.Kept.by name c.args.passes c.args.value (ap g.V.Kept.name (sym c.of.ensures)) c.requires.empty c.requires.passes.0 c.requires.passes.1)

pub invariant_of-insert : goal.invariant_of-insert
invariant_of-insert g c = subst (λ (m : Me (Option g.row.V.Denot) (View g.row.V-Name.Denot g.row.V-Entry.Denot)). IsSettled 0 m) (sym c.in_ok-add_passes.ensures.first.1) (record { numbered = refl; rests = refl; alone = refl })

pub returns-clause-passes : goal.returns-clause-passes
returns-clause-passes g c =
    let N : Type 0 = g.row.V-Name.Denot in
    let E : Type 0 = g.row.V-Entry.Denot in
    let key = c.in-Ok.made.0.shared.key in
    let count : key.passes ≡ c.args.passes = search rules in
    let some_pass = c.requires.passes.0 in
    let z = c.in-Ok.made.0.shared.table_id in
    let name : N = g.V.Kept.name key.first.value in
    let t : ShownTurn N = turn_of z name key.passes in
    let place : c.add_passes.new.first.table_id ≡ z = search rules in
    let first : shown c.add_passes.new.first.table_id c.add_passes.new.first.me ≡ newcomer t 0 = λ i. shown (place i) (c.in_ok-add_passes.ensures.first.1 i) in
    let others : c.add_passes.new.others.items ≡ newcomers {E = E} t 1 (key.passes - 1) = c.in_ok-add_passes.ensures.others ∙ (λ i. newcomers {E = E} (turn_of z name (sym count i)) 1 (sym count i - 1)) in
    let all : insert c.add_passes.new.others.items 0 (shown c.add_passes.new.first.table_id c.add_passes.new.first.me) ≡ newcomer t 0 ∷ newcomers {E = E} t 1 (key.passes - 1) = λ i. first i ∷ others i in
    c.in_ok-insert.ensures.items ∙ (all ∙ sym (newcomers_cons {E = E} t 0 key.passes (omega (arith, count, some_pass))))

use Rattle.std.proofs.Common.{length, take, drop, ◌-◌}
use Rattle.pat_semantics_spec.specs.Programs.{is_among}
use Rattle.pat_derivations.proofs.Rising.{among_both, in_first, in_second}
use Rattle.pat_derivations.proofs.environments.names.holds_beyond.Goals as goal

pub returns-then-holds_rising : goal.returns-then-holds_rising
returns-then-holds_rising c =
    let x = c.args.name in
    let names = c.args.names.now in
    let k = c.args.rising in
    in_first c.holds_rising.result (is_among x (take k names)) (is_among x (take (length names - k) (drop k names))) (is_among x names) c.if-holds_rising.true c.holds_rising.ensures (among_both x k names)

pub returns-else-holds_rising : goal.returns-else-holds_rising
returns-else-holds_rising c =
    let x = c.args.name in
    let names = c.args.names.now in
    let k = c.args.rising in
    in_second c.holds_rising.result c.holds.result (is_among x (take k names)) (is_among x (take (length names - k) (drop k names))) (is_among x names) c.if-holds_rising.false c.holds_rising.ensures c.holds.ensures (among_both x k names)

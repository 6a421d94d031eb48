use Rattle.std.proofs.Common.{rules, ◌≡◌, true, false, sym, ap, ap₂, ◌∙◌}
use Rattle.std.specs.List.{list_all, flat_map}
use Rattle.pat_inclusion_spec.specs.Certificates.{are_shown}
use Rattle.pat_derivation_spec.specs.Derivations.{scope_of}
use Rattle.pat_derivation_spec.specs.Demands.{is_used_well, is_dropped_well, inclusions_of}
use Rattle.pat_derivation_spec.specs.Rules.{uses_well, drops_well, guard_covers, certs_show}
use Rattle.pat_derivation_spec.specs.Truth.{place}
use Rattle.pat_core.specs.Views.{node_view, function_view, program_view}
use Rattle.pat_derivations.specs.Views.{line_view, certs_view, derivation_view}
use Rattle.pat_judge_nodes.specs.uses.Views.{demands_view}
use Rattle.pat_judge.proofs.Settled.{used_alike, dropped_alike, shown_alike}
use Rattle.pat_judge.proofs.Breaking.{breaks_covers, breaks_cert, breaks_none}
use Rattle.pat_judge.proofs.nodes.broken_by.Goals as goal

pub returns-then-not-guard_covers : goal.returns-then-not-guard_covers
returns-then-not-guard_covers c =
    let used : uses_well (program_view c.args.program.now) (derivation_view c.args.derivation.now) (place c.args.number (node_view c.args.node.now) (function_view c.args.function.now) (line_view c.args.line.now)) ≡ true =
    sym (ap (list_all is_used_well) c.requires.demands) ∙ sym (used_alike (scope_of (program_view c.args.program.now) (derivation_view c.args.derivation.now)) (demands_view c.from_open-open.result.now) (demands_view c.args.demands.now) c.from_open-open.ensures) ∙ sym c.uses_well.ensures ∙ search rules in
    let dropped : drops_well (program_view c.args.program.now) (derivation_view c.args.derivation.now) (place c.args.number (node_view c.args.node.now) (function_view c.args.function.now) (line_view c.args.line.now)) ≡ true =
    sym (ap (list_all (is_dropped_well (scope_of (program_view c.args.program.now) (derivation_view c.args.derivation.now)))) c.requires.demands) ∙ sym (dropped_alike (scope_of (program_view c.args.program.now) (derivation_view c.args.derivation.now)) (demands_view c.from_open-open.result.now) (demands_view c.args.demands.now) c.from_open-open.ensures) ∙ sym c.drops_well.ensures ∙ search rules in
    let tested : c.guard_covers.result ≡ false = search rules in
    let covers : guard_covers (place c.args.number (node_view c.args.node.now) (function_view c.args.function.now) (line_view c.args.line.now)) ≡ false = sym (c.guard_covers.ensures c.args.number (function_view c.args.function.now) (line_view c.args.line.now)) ∙ tested in
    breaks_covers (program_view c.args.program.now) (derivation_view c.args.derivation.now) (place c.args.number (node_view c.args.node.now) (function_view c.args.function.now) (line_view c.args.line.now)) used dropped (search rules) covers

pub returns-then-branch : goal.returns-then-branch
returns-then-branch c =
    let used : uses_well (program_view c.args.program.now) (derivation_view c.args.derivation.now) (place c.args.number (node_view c.args.node.now) (function_view c.args.function.now) (line_view c.args.line.now)) ≡ true =
    sym (ap (list_all is_used_well) c.requires.demands) ∙ sym (used_alike (scope_of (program_view c.args.program.now) (derivation_view c.args.derivation.now)) (demands_view c.from_open-open.result.now) (demands_view c.args.demands.now) c.from_open-open.ensures) ∙ sym c.uses_well.ensures ∙ search rules in
    let dropped : drops_well (program_view c.args.program.now) (derivation_view c.args.derivation.now) (place c.args.number (node_view c.args.node.now) (function_view c.args.function.now) (line_view c.args.line.now)) ≡ true =
    sym (ap (list_all (is_dropped_well (scope_of (program_view c.args.program.now) (derivation_view c.args.derivation.now)))) c.requires.demands) ∙ sym (dropped_alike (scope_of (program_view c.args.program.now) (derivation_view c.args.derivation.now)) (demands_view c.from_open-open.result.now) (demands_view c.args.demands.now) c.from_open-open.ensures) ∙ sym c.drops_well.ensures ∙ search rules in
    let tested : c.guard_covers.result ≡ true = search rules in
    let covers : guard_covers (place c.args.number (node_view c.args.node.now) (function_view c.args.function.now) (line_view c.args.line.now)) ≡ true = sym (c.guard_covers.ensures c.args.number (function_view c.args.function.now) (line_view c.args.line.now)) ∙ tested in
    let shown : certs_show (program_view c.args.program.now) (derivation_view c.args.derivation.now) (place c.args.number (node_view c.args.node.now) (function_view c.args.function.now) (line_view c.args.line.now)) ≡ true =
    sym (ap₂ (λ ds cs. are_shown (scope_of (program_view c.args.program.now) (derivation_view c.args.derivation.now)) (flat_map inclusions_of ds) (certs_view cs)) c.requires.demands c.as_slice-certs.ensures)
    ∙ sym (shown_alike (scope_of (program_view c.args.program.now) (derivation_view c.args.derivation.now)) (demands_view c.from_open-open.result.now) (demands_view c.args.demands.now) (certs_view c.as_slice-certs.result.now) c.from_open-open.ensures)
    ∙ sym c.in_ok-are_shown.ensures
    ∙ c.if-branch.true in
    breaks_none (program_view c.args.program.now) (derivation_view c.args.derivation.now) (place c.args.number (node_view c.args.node.now) (function_view c.args.function.now) (line_view c.args.line.now)) used dropped (search rules) covers shown

pub returns-else-branch : goal.returns-else-branch
returns-else-branch c =
    let used : uses_well (program_view c.args.program.now) (derivation_view c.args.derivation.now) (place c.args.number (node_view c.args.node.now) (function_view c.args.function.now) (line_view c.args.line.now)) ≡ true =
    sym (ap (list_all is_used_well) c.requires.demands) ∙ sym (used_alike (scope_of (program_view c.args.program.now) (derivation_view c.args.derivation.now)) (demands_view c.from_open-open.result.now) (demands_view c.args.demands.now) c.from_open-open.ensures) ∙ sym c.uses_well.ensures ∙ search rules in
    let dropped : drops_well (program_view c.args.program.now) (derivation_view c.args.derivation.now) (place c.args.number (node_view c.args.node.now) (function_view c.args.function.now) (line_view c.args.line.now)) ≡ true =
    sym (ap (list_all (is_dropped_well (scope_of (program_view c.args.program.now) (derivation_view c.args.derivation.now)))) c.requires.demands) ∙ sym (dropped_alike (scope_of (program_view c.args.program.now) (derivation_view c.args.derivation.now)) (demands_view c.from_open-open.result.now) (demands_view c.args.demands.now) c.from_open-open.ensures) ∙ sym c.drops_well.ensures ∙ search rules in
    let tested : c.guard_covers.result ≡ true = search rules in
    let covers : guard_covers (place c.args.number (node_view c.args.node.now) (function_view c.args.function.now) (line_view c.args.line.now)) ≡ true = sym (c.guard_covers.ensures c.args.number (function_view c.args.function.now) (line_view c.args.line.now)) ∙ tested in
    let shown : certs_show (program_view c.args.program.now) (derivation_view c.args.derivation.now) (place c.args.number (node_view c.args.node.now) (function_view c.args.function.now) (line_view c.args.line.now)) ≡ false =
    sym (ap₂ (λ ds cs. are_shown (scope_of (program_view c.args.program.now) (derivation_view c.args.derivation.now)) (flat_map inclusions_of ds) (certs_view cs)) c.requires.demands c.as_slice-certs.ensures)
    ∙ sym (shown_alike (scope_of (program_view c.args.program.now) (derivation_view c.args.derivation.now)) (demands_view c.from_open-open.result.now) (demands_view c.args.demands.now) (certs_view c.as_slice-certs.result.now) c.from_open-open.ensures)
    ∙ sym c.in_ok-are_shown.ensures
    ∙ c.if-branch.false in
    breaks_cert (program_view c.args.program.now) (derivation_view c.args.derivation.now) (place c.args.number (node_view c.args.node.now) (function_view c.args.function.now) (line_view c.args.line.now)) used dropped (search rules) covers shown

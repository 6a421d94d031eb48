use Rattle.std.proofs.Common.{rules, ◌≡◌, Some, true, sym, subst}
use Rattle.std.specs.List.{list_all}
use Rattle.pat_core.specs.Views.{program_view}
use Rattle.pat_types.specs.Views.{needs_view}
use Rattle.pat_derivation_spec.specs.Derivations.{line_at}
use Rattle.pat_derivation_spec.specs.Scopes.{is_in_scope}
use Rattle.pat_derivations.specs.Views.{line_view, derivation_view}
use Rattle.pat_judge_nodes.proofs.Above.{line_scoped}
use Rattle.pat_judge_nodes.proofs.Tables.{is_above}
use Rattle.pat_judge_nodes.proofs.scopes.looking.names_in_scope.Goals as goal

pub are_in_scope-requires-in-Some-line_of-clause-outer : goal.are_in_scope-requires-in-Some-line_of-clause-outer
are_in_scope-requires-in-Some-line_of-clause-outer c =
    let above = is_above c.args.program.now c.args.above.now c.args.node c.in-Some.outer c.requires.above c.requires.node c.in-Some.is in
    let there : Some (line_view c.in-Some-line_of.line.now) ≡ line_at (derivation_view c.args.derivation.now) c.in-Some.outer = search rules in
    let scoped = line_scoped (program_view c.args.program.now) c.requires.well c.scope_laws.ensures.part (derivation_view c.args.derivation.now) c.args.node c.in-Some.outer (line_view c.in-Some-line_of.line.now) c.requires.before above (sym there) in
    subst (λ xs. list_all (λ e. is_in_scope (program_view c.args.program.now) c.args.node e.0) (needs_view xs) ≡ true) (sym c.as_slice.ensures) scoped

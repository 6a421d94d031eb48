use Rattle.std.proofs.Common.{◌≡◌, ◌&&◌, drop}
use Rattle.std.specs.Prelude.{slice_get}
use Rattle.std.specs.List.{list_all}
use Rattle.pat_inclusion_spec.specs.Values.{is_formed}
use Rattle.pat_derivation_spec.specs.Same.{is_mailbox_of}
use Rattle.pat_derivation_spec.specs.Derivations.{scope_of}
use Rattle.pat_derivation_spec.specs.Rules.{has_a_word}
use Rattle.pat_core.specs.Views.{function_view, program_view}
use Rattle.pat_types.specs.Views.{needs_view}
use Rattle.pat_derivations.specs.Views.{derivation_view}
use Rattle.pat_judge.proofs.shape.needs.tested_needs.Given as goal

-- what was found so far, and what is left, is what all are
abbrev pub invariant-loop-variable : goal.invariant-loop-variable
invariant-loop-variable l = record {
  well : (l.all.are_well && list_all (λ e. is_mailbox_of e.1.interface (slice_get (function_view l.function).vars e.0) && is_formed (scope_of (program_view l.program) (derivation_view l.derivation)) e.1.interface e.1.pattern) (needs_view (drop l.variable-index l.env)))
      ≡ list_all (λ e. is_mailbox_of e.1.interface (slice_get (function_view l.function).vars e.0) && is_formed (scope_of (program_view l.program) (derivation_view l.derivation)) e.1.interface e.1.pattern) (needs_view l.env);
  words : (l.all.have_words && list_all (λ e. has_a_word (scope_of (program_view l.program) (derivation_view l.derivation)) e.1.polarity e.1.pattern) (needs_view (drop l.variable-index l.env)))
      ≡ list_all (λ e. has_a_word (scope_of (program_view l.program) (derivation_view l.derivation)) e.1.polarity e.1.pattern) (needs_view l.env);
}

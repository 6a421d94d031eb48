use Rattle.std.proofs.Common.{◌≡◌, ◌++◌, length, map, option_map, drop}
use Rattle.pat_core.specs.Views.{sort_view}
use Rattle.pat_types.specs.Views.{type_view}
use Rattle.pat_type_schemes_spec.specs.Signatures.{number_at}
use Rattle.pat_obligations.specs.of_terms.Opened.{opened_params}
use Rattle.pat_obligations.proofs.of_terms.opening.parameters.Given as goal

-- what is made, and what the types that are left give, are the whole
abbrev pub invariant-loop-sort : goal.invariant-loop-sort
invariant-loop-sort l = record {
  types : map (option_map type_view) l.types ++ opened_params l.next (map sort_view (drop l.sort-index l.sorts)) ≡ opened_params l.fn.next (map sort_view l.sorts);
  end : number_at l.next (map sort_view (drop l.sort-index l.sorts)) (length (drop l.sort-index l.sorts)) ≡ number_at l.fn.next (map sort_view l.sorts) (length l.sorts);
}

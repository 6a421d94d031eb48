use Rattle.std.proofs.Common.{◌≡◌, ◌∷◌, ◌++◌, drop, map}
use Rattle.std.specs.List.{flat_map, list_all}
use Rattle.pat_derivation_spec.specs.Spelled.{spells_entry}
use Rattle.pat_cover_certificates.specs.Views.{entries_view}
use Rattle.pat_derivation_text_spec.specs.DerivationText.{entry_text}
use Rattle.pat_deriv.proofs.certificates.put_more_entries.Given as goal

abbrev pub invariant-loop-entry : goal.invariant-loop-entry
invariant-loop-entry l = record {
  text : l.out.items ++ flat_map (λ y. 124 ∷ y) (map entry_text (entries_view (drop l.entry-index l.entries))) ≡ l.initial.out.items ++ flat_map (λ y. 124 ∷ y) (map entry_text (entries_view l.entries));
  numbers : list_all spells_entry (entries_view (drop l.entry-index l.entries)) ≡ list_all spells_entry (entries_view l.entries);
}

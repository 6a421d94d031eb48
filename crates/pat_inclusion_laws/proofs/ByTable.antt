-- What a search may answer by one table for both sides.
use Rattle.std.proofs.Common.{◌≡◌, ℕ, ◌≤◌, ◌<◌, true, arith}
use Rattle.pat_words_spec.specs.Words.{Word}
use Rattle.pat_words_spec.specs.Patterns.{Pat, In}
use Rattle.pat_words_spec.specs.Flats.{is_flat, degree_of}
use Rattle.pat_words_spec.specs.Cuts.{cut_at, CutOf}
use Rattle.pat_inclusion_spec.specs.bounds.Trees.{Bound, tree_size, Shows}
use Rattle.pat_inclusion_spec.specs.bounds.CutSets.{IsPoint}
use Rattle.pat_inclusion_spec.specs.bounds.Symbols.{LowerSymbol, Stands, IsFlatOf}
use Rattle.pat_inclusion_spec.specs.bounds.Tables.{Setting, Table, IsKnown, IsDone}
use Rattle.pat_inclusion_spec.specs.bounds.Searches.{InsideAnswer, FoundAnswer, LargeAnswer, IsAnswer}
use Rattle.pat_inclusion_laws.proofs.SearchLaws.{table_inside, table_large}
use Rattle.pat_words_laws.proofs.ClosedPatterns.{flat_closed}
use Rattle.pat_inclusion_laws.proofs.ClosedLaws.{known_right, right_known}

module _ (g : Setting) (table : Table) (lower : ℕ → Pat) (left right : Pat) (s r : ℕ) (done : IsDone g table) (flat : IsFlatOf lower g.flat) (sl : Stands g.flat.symbols LowerSymbol left s) (sr : Stands g.flat.symbols LowerSymbol right r) (fr : is_flat right ≡ true) (dr : degree_of right < g.bound) where
  to_cut : (u : Word) → IsPoint g.bound g.tags u → IsKnown g.limit (table r u) → CutOf g.bound (In right) u
  to_cut u p k = known_right g table lower right r u done flat sr (flat_closed right fr) p k

  from_cut : (u : Word) → CutOf g.bound (In right) u → IsKnown g.limit (table r u)
  from_cut u h = right_known g table lower right r u done flat sr (flat_closed right fr) h

  pub answer_inside : ((u : Word) → IsPoint g.bound g.tags u → IsKnown g.limit (table s u) → IsKnown g.limit (table r u)) → IsAnswer g.limit lower left right InsideAnswer
  answer_inside all = table_inside g table lower left s flat sl done right fr dr (λ u p k. to_cut u p (all u p k))

  pub answer_found : (u w : Word) (b : Bound) → IsPoint g.bound g.tags u → table s u ≤ g.limit → (IsKnown g.limit (table r u) → ⊥) → Shows lower b left w → u ≡ cut_at g.bound w → tree_size b ≡ table s u → IsAnswer g.limit lower left right (FoundAnswer w b)
  answer_found u w b p l out h e size = ((h, λ i. out (from_cut u (w, i, e))), omega arith)

  pub answer_large : ((u : Word) × IsPoint g.bound g.tags u × IsKnown g.limit (table s u) × (IsKnown g.limit (table r u) → ⊥)) → ((u : Word) → IsPoint g.bound g.tags u → (IsKnown g.limit (table r u) → ⊥) → g.limit < table s u) → IsAnswer g.limit lower left right LargeAnswer
  answer_large some all =
      table_large g table lower left s flat sl done right fr dr
      ((some.0, some.1, some.2, λ i. some.3 (from_cut some.0 i)), λ u p out. all u p (λ k. out (to_cut u p k)))

pub search_law : (g : Setting) (table : Table) (lower : ℕ → Pat) (left right : Pat) (s r : ℕ) → IsDone g table → IsFlatOf lower g.flat → Stands g.flat.symbols LowerSymbol left s → Stands g.flat.symbols LowerSymbol right r → is_flat right ≡ true → degree_of right < g.bound → (((u : Word) → IsPoint g.bound g.tags u → IsKnown g.limit (table s u) → IsKnown g.limit (table r u)) → IsAnswer g.limit lower left right InsideAnswer) × ((u w : Word) (b : Bound) → IsPoint g.bound g.tags u → table s u ≤ g.limit → (IsKnown g.limit (table r u) → ⊥) → Shows lower b left w → u ≡ cut_at g.bound w → tree_size b ≡ table s u → IsAnswer g.limit lower left right (FoundAnswer w b)) × (((u : Word) × IsPoint g.bound g.tags u × IsKnown g.limit (table s u) × (IsKnown g.limit (table r u) → ⊥)) → ((u : Word) → IsPoint g.bound g.tags u → (IsKnown g.limit (table r u) → ⊥) → g.limit < table s u) → IsAnswer g.limit lower left right LargeAnswer)
search_law g table lower left right s r done flat sl sr fr dr = (
  answer_inside g table lower left right s r done flat sl sr fr dr,
  answer_found g table lower left right s r done flat sl sr fr dr,
  answer_large g table lower left right s r done flat sl sr fr dr,
)

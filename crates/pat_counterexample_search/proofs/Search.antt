-- What entries say of a search is a right answer.
use Rattle.std.proofs.Common.{◌≡◌, ℕ, ◌+◌, ◌<◌, ◌≤◌, ⊎_elim, List, [], true, refl, sym, ap, ◌∙◌, subst, arith}
use Rattle.std.specs.Prelude.{slice_get}
use Rattle.std.specs.List.{AllByRecursion}
use Rattle.std.proofs.lemmas.Bool.{cases_lt}
use Rattle.pat_words_spec.specs.Words.{Word, no_word, plus}
use Rattle.pat_words_laws.proofs.WordLaws.{none_plus, count_eq}
use Rattle.pat_words_spec.specs.Patterns.{Pat}
use Rattle.pat_words_spec.specs.Flats.{is_flat, degree_of}
use Rattle.pat_words_spec.specs.Tags.{tags_below}
use Rattle.pat_words_spec.specs.Cuts.{cut_at}
use Rattle.pat_inclusion_spec.specs.Points.{grid_fits}
use Rattle.pat_inclusion_spec.specs.bounds.Trees.{Bound, bounds_of, tree_size}
use Rattle.pat_inclusion_spec.specs.bounds.CutSets.{IsPoint}
use Rattle.pat_inclusion_spec.specs.bounds.Symbols.{Symbol, LowerSymbol, Stands, RootStands, IsFlatOf, TagsAreBelow, ShowsAt, symbol_at}
use Rattle.pat_inclusion_spec.specs.bounds.Layouts.{laid, laid_all, roots_all, last_of}
use Rattle.pat_inclusion_spec.specs.bounds.Tables.{Setting, IsKnown, IsDone}
use Rattle.pat_inclusion_spec.specs.bounds.Numbers.{points_in, number_of, point_of, table_of}
use Rattle.pat_inclusion_spec.specs.bounds.Searches.{Search, InsideAnswer, FoundAnswer, LargeAnswer, Refutes, IsAnswer}
use Rattle.pat_inclusion_laws.specs.bounds.Laws.{SearchLaw}
use Rattle.pat_inclusion_laws.proofs.NumberLaws.{number_small, point_number, point_fits}
use Rattle.pat_inclusion_laws.proofs.LayoutLaws.{Goes, laid_stands, laid_goes, goes_both, kept_in, all_stand, symbols_fit, all_fit, laid_fit}
use Rattle.pat_inclusion_laws.proofs.CutSetLaws.{in_by_cut}
use Rattle.pat_inclusion_laws.proofs.TableLaws.{shown_point, entry_least}
use Rattle.pat_words_laws.proofs.ClosedPatterns.{flat_closed}
use Rattle.pat_inclusion_laws.proofs.ClosedLaws.{known_right}
use Rattle.pat_inclusion_laws.proofs.SearchLaws.{flat_tree, tree_flat}
use Rattle.pat_grid_points.specs.symbols.Views.{symbols_view}
use Rattle.pat_grid.specs.declared.tables.board.Board.{Board}
use Rattle.pat_grid.specs.tables.Views.{setting_of, IsBoard, AreGrids}
use Rattle.pat_grid.specs.tables.Moves.{entry_at}
use Rattle.pat_counterexample_search.specs.Least.{IsLeastAnswer}
use Rattle.pat_counterexample_search.specs.Choices.{IsReady, HasRoom, Rebuilt}
use Rattle.pat_counterexample_search.specs.Readings.{IsMissing, IsFirstLeast, IsRead, IsReading}
use Rattle.pat_limits.specs.Limits.{most_tree_nodes}

-- ---- the point that is found

pub found_room : (b : Board) (entries : List ℕ) (s r c : ℕ) (had : Word) → IsReady b entries → IsMissing (setting_of b) entries s r b.limit c → had ≡ no_word → HasRoom b entries (record { symbol = s; number = c }) had
found_room b entries s r c had ready missing none =
    let n = ready.board.points in
    let l = missing.0 in
    let w = missing.1 in
    let m = ready.board.limit in
    record {
      number = omega arith;
      within = missing.1;
      room = λ t. let z = count_eq had no_word none t in omega arith;
    }

pub found_read : (board : Board) (entries : List ℕ) (s r c : ℕ) (had has : Word) (b : Bound) → IsFirstLeast (setting_of board) entries s r board.limit c → had ≡ no_word → Rebuilt (setting_of board) (record { symbol = s; number = c }) (entry_at (setting_of board) entries s c) had b has → IsReading board entries s r (FoundAnswer has b)
found_read board entries s r c had has b best none made =
    let g = setting_of board in
    let same : made.word ≡ has = sym (made.words ∙ ap (λ w. plus w made.word) none ∙ none_plus made.word) in record {
      read = (
        c,
        best.missing,
        subst (ShowsAt g.flat g.given b (symbol_at g.flat s)) same made.shows,
        made.cut ∙ ap (cut_at g.bound) same,
        made.sized,
        best,
      );
    }

-- ---- what is within the limit, and what is larger

module _ (g : Setting) (entries : List ℕ) (s r : ℕ) where
  more_missing : (d : ℕ) → IsMissing g entries s r g.limit d → IsMissing g entries s r (g.limit + 1) d
  more_missing d missing = (missing.0, (let l = missing.1 in omega arith), missing.2)

  pub within_limit : (c : ℕ) → IsFirstLeast g entries s r (g.limit + 1) c → entry_at g entries s c ≤ g.limit → IsFirstLeast g entries s r g.limit c
  within_limit c best small = record {
    missing = (best.missing.0, small, best.missing.2);
    least = λ d missing. best.least d (more_missing d missing);
    first = λ d before missing. best.first d before (more_missing d missing);
  }

module _ (b : Board) (entries : List ℕ) (s r : ℕ) where
  pub larger_alone : (c : ℕ) → IsFirstLeast (setting_of b) entries s r (b.limit + 1) c → b.limit < entry_at (setting_of b) entries s c → IsReading b entries s r LargeAnswer
  larger_alone c best more = record {
    read = (
      (c, best.missing),
      λ d missing. let k = best.least d (more_missing (setting_of b) entries s r d missing) in let l = missing.1 in omega arith,
    );
  }

  pub not_larger : (c : ℕ) → IsMissing (setting_of b) entries s r (b.limit + 1) c → entry_at (setting_of b) entries s c ≤ b.limit → IsReading b entries s r LargeAnswer → ⊥
  not_larger c missing small h = h.read.1 c (missing.0, small, missing.2)

  pub none_larger : ((c : ℕ) → IsMissing (setting_of b) entries s r (b.limit + 1) c → ⊥) → IsReading b entries s r LargeAnswer → ⊥
  none_larger none h = none h.read.0.0 h.read.0.1

-- ---- by the law of searches

module _ (g : Setting) (entries : List ℕ) (lower : ℕ → Pat) (left right : Pat) (s r : ℕ) (law : SearchLaw) (done : IsDone g (table_of g entries)) (flat : IsFlatOf lower g.flat) (sl : Stands g.flat.symbols LowerSymbol left s) (sr : Stands g.flat.symbols LowerSymbol right r) (fr : is_flat right ≡ true) (dr : degree_of right < g.bound) where
  -- an entry of the table is that at the point's number
  at_number : (a c : ℕ) → c < points_in g.bound g.tags → table_of g entries a (point_of g.bound g.tags c) ≡ entry_at g entries a c
  at_number a c l = ap (entry_at g entries a) (point_number g.bound g.tags c l)

  missing_at : (u : Word) (most : ℕ) → IsPoint g.bound g.tags u → table_of g entries s u ≤ most → (IsKnown g.limit (table_of g entries r u) → ⊥) → IsMissing g entries s r most (number_of g.bound g.tags u)
  missing_at u most p l out = (number_small g.bound g.tags u p, l, out)

  pub read_right : (a : Search) → IsRead g entries s r a → IsAnswer g.limit lower left right a
  read_right InsideAnswer h =
      let laws = law g (table_of g entries) lower left right s r done flat sl sr fr dr in
      laws.0
      (λ u p known. ⊎_elim
      (λ l. absurd (h (number_of g.bound g.tags u) (missing_at u (g.limit + 1) p (omega arith) (λ k. absurd (omega arith)))))
      (λ l. omega arith)
      (cases_lt (g.limit + 1) (table_of g entries r u)))
  read_right (FoundAnswer w b) h =
      let c = h.0 in
      let m = h.1 in
      let size = h.4 in
      let one = at_number s c m.0 in
      let l = m.1 in
      let laws = law g (table_of g entries) lower left right s r done flat sl sr fr dr in
      laws.1 (point_of g.bound g.tags c) w b (point_fits g.bound g.tags c) (omega arith)
      (λ k. m.2 (subst (IsKnown g.limit) (at_number r c m.0) k))
      (flat_tree g (table_of g entries) lower left s flat sl b w h.2)
      h.3
      (omega arith)
  read_right LargeAnswer h =
      let c = h.0.0 in
      let m = h.0.1 in
      let one = at_number s c m.0 in
      let l = m.1 in
      let laws = law g (table_of g entries) lower left right s r done flat sl sr fr dr in
      laws.2 (
        point_of g.bound g.tags c,
        point_fits g.bound g.tags c,
        omega arith,
        λ k. m.2 (subst (IsKnown g.limit) (at_number r c m.0) k),
      )
      (λ u p out. ⊎_elim
      (λ k. k)
      (λ k. absurd (h.1 (number_of g.bound g.tags u) (missing_at u g.limit p k out)))
      (cases_lt g.limit (table_of g entries s u)))

  -- a tree that refutes, cut, is one of a point that is missing
  refuting_known : (w : Word) (b : Bound) → Refutes lower left right w b → IsKnown g.limit (table_of g entries r (cut_at g.bound w)) → ⊥
  refuting_known w b h known =
      let t = tree_flat g (table_of g entries) lower left s flat sl b w h.0 in
      let p = shown_point g done.fit b s (symbol_at g.flat s) w refl t in
      h.1 (in_by_cut g.bound right w fr dr (known_right g (table_of g entries) lower right r (cut_at g.bound w) done flat sr (flat_closed right fr) p known))

  -- of all trees that refute the one that is found is least
  pub read_least : (a : Search) → IsRead g entries s r a → IsLeastAnswer lower left right a
  read_least InsideAnswer h = tt
  read_least LargeAnswer h = tt
  read_least (FoundAnswer w b) h = λ w' b' refutes.
      let c = h.0 in
      let size = h.4 in
      let l = h.1.1 in
      let t = tree_flat g (table_of g entries) lower left s flat sl b' w' refutes.0 in
      let p = shown_point g done.fit b' s (symbol_at g.flat s) w' refl t in
      let low = entry_least g (table_of g entries) done.fit done.closed s w' b' t in
      ⊎_elim
      (λ less.
      let there = missing_at (cut_at g.bound w') g.limit p (omega (arith, low, less, size, l)) (refuting_known w' b' refutes) in
      let k = h.5.least (number_of g.bound g.tags (cut_at g.bound w')) there in
      omega (arith, k, low, size))
      (λ more. more)
      (cases_lt (tree_size b') (tree_size b))

-- ---- a system and both sides, laid out

abbrev with_left : List Pat → Pat → List Symbol
with_left system left = laid LowerSymbol (laid_all [] system) left

abbrev with_both : List Pat → Pat → Pat → List Symbol
with_both system left right = laid LowerSymbol (with_left system left) right

pub search_board : (b : Board) (system : List Pat) (left right : Pat) → grid_fits b.k b.tags ≡ true → AllByRecursion (λ e. tags_below b.tags e ≡ true) system → tags_below b.tags left ≡ true → tags_below b.tags right ≡ true → b.points ≡ points_in b.k b.tags → b.limit ≡ most_tree_nodes → b.given.now ≡ [] → symbols_view b.symbols.now ≡ with_both system left right → IsBoard b
search_board b system left right fits tags tl tr points limit given symbols = record {
  fits = fits;
  points = points;
  limit = omega arith;
  tags =
      subst (λ ys. TagsAreBelow b.tags (record { symbols = ys; roots = b.roots.now })) (sym symbols)
      (symbols_fit b.tags (with_both system left right)
      (laid_fit b.tags LowerSymbol (λ k. tt) (with_left system left) right tr
      (laid_fit b.tags LowerSymbol (λ k. tt) (laid_all [] system) left tl (all_fit b.tags [] system tags tt))));
  given = subst (AreGrids b.k b.tags) (sym given) (λ j grid e. absurd (cc));
}

module _ (b : Board) (system : List Pat) (left right : Pat) (entries slice : List ℕ) (s r : ℕ) (a : Search) (law : SearchLaw) (done : IsDone (setting_of b) (table_of (setting_of b) entries)) (fr : is_flat right ≡ true) (dr : degree_of right < b.k) (symbols : symbols_view b.symbols.now ≡ with_both system left right) (roots : b.roots.now ≡ roots_all [] system) (is_s : s ≡ last_of (with_left system left)) (is_r : r ≡ last_of (with_both system left right)) (reading : IsReading b slice s r a) (same : slice ≡ entries) where
  abbrev both : List Symbol
  both = with_both system left right

  more : Goes (with_left system left) both
  more = laid_goes LowerSymbol (with_left system left) right

  laid_flat : IsFlatOf (bounds_of system) (setting_of b).flat
  laid_flat k =
      subst (λ ys. RootStands ys (bounds_of system k) (slice_get b.roots.now k)) (sym symbols)
      (subst (λ rs. RootStands both (bounds_of system k) (slice_get rs k)) (sym roots)
      (all_stand [] system both (goes_both (laid_all [] system) (with_left system left) both (laid_goes LowerSymbol (laid_all [] system) left) more) k))

  left_stands : Stands (setting_of b).flat.symbols LowerSymbol left s
  left_stands =
      subst (λ ys. Stands ys LowerSymbol left s) (sym symbols)
      (subst (Stands both LowerSymbol left) (sym is_s) (kept_in (with_left system left) both LowerSymbol left (last_of (with_left system left)) more (laid_stands LowerSymbol (laid_all [] system) left)))

  right_stands : Stands (setting_of b).flat.symbols LowerSymbol right r
  right_stands =
      subst (λ ys. Stands ys LowerSymbol right r) (sym symbols)
      (subst (Stands both LowerSymbol right) (sym is_r) (laid_stands LowerSymbol (with_left system left) right))

  read : IsRead (setting_of b) entries s r a
  read = subst (λ es. IsRead (setting_of b) es s r a) same reading.read

  pub search_right : IsAnswer b.limit (bounds_of system) left right a
  search_right = read_right (setting_of b) entries (bounds_of system) left right s r law done laid_flat left_stands right_stands fr dr a read

  pub search_least : IsLeastAnswer (bounds_of system) left right a
  search_least = read_least (setting_of b) entries (bounds_of system) left right s r law done laid_flat left_stands right_stands fr dr a read

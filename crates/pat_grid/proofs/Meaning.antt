-- What the rows of a table that is done mean.
use Rattle.std.proofs.Common.{◌≡◌, ℕ, suc, ◌↔◌, true, false, List, [], ◌∷◌, length, get_or, Some, refl, sym, ap, ◌∙◌, subst, arith}
use Rattle.std.specs.Prelude.{slice_get}
use Rattle.std.specs.List.{AllByRecursion}
use Rattle.std.proofs.lemmas.List.{length-map}
use Rattle.pat_patterns.specs.declared.pattern.Pattern.{Pattern}
use Rattle.pat_patterns.specs.Views.{pattern_view, patterns_view}
use Rattle.pat_words_spec.specs.Words.{Word}
use Rattle.pat_words_spec.specs.Patterns.{Pat, InUnder}
use Rattle.pat_words_spec.specs.Tags.{tags_below}
use Rattle.pat_words_spec.specs.Cuts.{CutOf}
use Rattle.pat_words_spec.specs.Languages.{MemberOf}
use Rattle.pat_inclusion_spec.specs.Points.{grid_fits}
use Rattle.pat_inclusion_spec.specs.bounds.Trees.{derivable, bounds_of}
use Rattle.pat_inclusion_spec.specs.bounds.CutSets.{IsPoint}
use Rattle.pat_inclusion_spec.specs.bounds.Symbols.{Symbol, LowerSymbol, GivenSymbol, RootStands, Stands, IsFlatOf, TagsAreBelow}
use Rattle.pat_inclusion_spec.specs.bounds.Layouts.{laid, laid_all, roots_all, last_of}
use Rattle.pat_inclusion_spec.specs.bounds.Tables.{IsKnown, IsDone}
use Rattle.pat_inclusion_spec.specs.bounds.Numbers.{points_in, number_of, table_of}
use Rattle.pat_inclusion_laws.proofs.NumberLaws.{number_small}
use Rattle.pat_inclusion_laws.proofs.LayoutLaws.{laid_stands, all_stand, goes_none, given_tags, symbols_fit, all_fit}
use Rattle.pat_inclusion_laws.proofs.SearchLaws.{known_given, given_known, known_derivable, derivable_known}
use Rattle.pat_inclusion_laws.proofs.TreeLaws.{lower_derivable, derivable_lower}
use Rattle.pat_grid_points.specs.declared.grid.Grid.{Grid}
use Rattle.pat_grid_points.specs.Views.{HasPoint}
use Rattle.pat_grid_points.specs.symbols.Views.{symbols_view}
use Rattle.pat_grid.specs.declared.tables.board.Board.{Board}
use Rattle.pat_grid.specs.tables.Views.{setting_of, IsBoard, AreGrids}
use Rattle.pat_grid.specs.Rows.{IsRow, AreRows}
use Rattle.pat_grid.proofs.Listing.{row_at, rows_count}

-- a grid that is a row has just the points that the table knows
pub row_point : (b : Board) (entries : List ℕ) (s : ℕ) (grid : Grid) (u : Word) → b.points ≡ points_in b.k b.tags → IsRow b entries s grid → IsPoint b.k b.tags u → HasPoint grid u ↔ IsKnown b.limit (table_of (setting_of b) entries s u)
row_point b entries s grid u size row p =
    let small = number_small b.k b.tags u p in
    let test = row.tests (number_of b.k b.tags u) (omega arith) in
    let moved = λ (k : ℕ) (n : ℕ). (IsPoint k n u × (get_or grid.held (number_of k n u) false ≡ true)) ↔ IsKnown b.limit (table_of (setting_of b) entries s u) in
    subst (λ k. moved k grid.tags) (sym row.bound) (subst (λ n. moved b.k n) (sym row.tags) (λ h. test.0 h.1, λ h. (p, test.1 h)))

-- ---- a pattern whose variables have given words

pub eval_board : (b : Board) (e : Pat) → grid_fits b.k b.tags ≡ true → tags_below b.tags e ≡ true → AreGrids b.k b.tags b.given.now → b.points ≡ points_in b.k b.tags → b.limit ≡ 0 → b.roots.now ≡ [] → symbols_view b.symbols.now ≡ laid GivenSymbol [] e → IsBoard b
eval_board b e fits tags grids points limit roots symbols = record {
  fits = fits;
  points = points;
  limit = omega arith;
  tags =
      subst (λ ys. TagsAreBelow b.tags (record { symbols = ys; roots = b.roots.now })) (sym symbols)
      (subst (λ rs. TagsAreBelow b.tags (record { symbols = laid GivenSymbol [] e; roots = rs })) (sym roots) (given_tags e b.tags tags));
  given = grids;
}

pub eval_point : (b : Board) (e : Pat) (entries slice : List ℕ) (root : ℕ) (grid : Grid) → IsRow b slice root grid → slice ≡ entries → b.points ≡ points_in b.k b.tags → IsDone (setting_of b) (table_of (setting_of b) entries) → symbols_view b.symbols.now ≡ laid GivenSymbol [] e → root ≡ last_of (laid GivenSymbol [] e) → (u : Word) → IsPoint b.k b.tags u → HasPoint grid u ↔ CutOf b.k (InUnder (λ j. MemberOf ((setting_of b).given j)) e) u
eval_point b e entries slice root grid row same points done symbols is u p =
    let g = setting_of b in
    let stands : Stands g.flat.symbols GivenSymbol e root =
    subst (λ ys. Stands ys GivenSymbol e root) (sym symbols) (subst (Stands (laid GivenSymbol [] e) GivenSymbol e) (sym is) (laid_stands GivenSymbol [] e)) in
    let point = row_point b entries root grid u points (subst (λ es. IsRow b es root grid) same row) p in (
      λ h. known_given g (table_of g entries) e root u done stands p (point.0 h),
      λ h. point.1 (given_known g (table_of g entries) e root u done stands p h),
    )

-- ---- a system

pub least_board : (b : Board) (system : List Pat) → grid_fits b.k b.tags ≡ true → AllByRecursion (λ e. tags_below b.tags e ≡ true) system → b.points ≡ points_in b.k b.tags → b.limit ≡ 0 → b.given.now ≡ [] → symbols_view b.symbols.now ≡ laid_all [] system → IsBoard b
least_board b system fits tags points limit given symbols = record {
  fits = fits;
  points = points;
  limit = omega arith;
  tags =
      subst (λ ys. TagsAreBelow b.tags (record { symbols = ys; roots = b.roots.now })) (sym symbols)
      (symbols_fit b.tags (laid_all [] system) (all_fit b.tags [] system tags tt));
  given = subst (AreGrids b.k b.tags) (sym given) (λ j grid e. absurd (cc));
}

-- the rows of the bounds' own symbols are the least grids, whatever else is laid out behind the system
pub rows_point : (b : Board) (lower : ℕ → Pat) (entries slice : List ℕ) (grids : List Grid) → AreRows b slice b.roots.now grids → slice ≡ entries → b.points ≡ points_in b.k b.tags → IsDone (setting_of b) (table_of (setting_of b) entries) → IsFlatOf lower (setting_of b).flat → (j : ℕ) (grid : Grid) (u : Word) → slice_get grids j ≡ Some grid → IsPoint b.k b.tags u → HasPoint grid u ↔ CutOf b.k (derivable lower j) u
rows_point b lower entries slice grids rows_there same points done flat j grid u found p =
    let rows = subst (λ es. AreRows b es b.roots.now grids) same rows_there in
    let g = setting_of b in
    let at = row_at b entries b.roots.now grids j grid rows found in
    let s = at.0 in
    let stands : Stands g.flat.symbols LowerSymbol (lower j) s = subst (RootStands g.flat.symbols (lower j)) at.1 (flat j) in
    let point = row_point b entries s grid u points at.2 p in (
      λ h. let c = known_derivable g (table_of g entries) lower (lower j) s flat stands done u p (point.0 h) in (c.0, lower_derivable lower j c.0 c.1, c.2),
      λ h. point.1 (derivable_known g (table_of g entries) lower (lower j) s flat stands done u (h.0, derivable_lower lower j h.0 h.1, h.2)),
    )

pub least_point : (b : Board) (system : List Pat) (entries slice : List ℕ) (grids : List Grid) → AreRows b slice b.roots.now grids → slice ≡ entries → b.points ≡ points_in b.k b.tags → IsDone (setting_of b) (table_of (setting_of b) entries) → symbols_view b.symbols.now ≡ laid_all [] system → b.roots.now ≡ roots_all [] system → (j : ℕ) (grid : Grid) (u : Word) → slice_get grids j ≡ Some grid → IsPoint b.k b.tags u → HasPoint grid u ↔ CutOf b.k (derivable (bounds_of system) j) u
least_point b system entries slice grids rows same points done symbols roots =
    let lower = bounds_of system in
    let flat : IsFlatOf lower (setting_of b).flat =
    λ k. subst (λ ys. RootStands ys (lower k) (slice_get b.roots.now k)) (sym symbols)
    (subst (λ rs. RootStands (laid_all [] system) (lower k) (slice_get rs k)) (sym roots) (all_stand [] system (laid_all [] system) (goes_none (laid_all [] system)) k)) in
    rows_point b lower entries slice grids rows same points done flat

pub least_like : (b : Board) (entries : List ℕ) (grids : List Grid) → AreRows b entries b.roots.now grids → AreGrids b.k b.tags grids
least_like b entries grids rows j grid found =
    let at = row_at b entries b.roots.now grids j grid rows found in (at.2.bound, at.2.tags)

roots_count : (made : List Symbol) (es : List Pat) → length (roots_all made es) ≡ length es
roots_count made [] = refl
roots_count made (e ∷ es) = ap suc (roots_count (laid LowerSymbol made e) es)

pub rows_many : (b : Board) (entries : List ℕ) (grids : List Grid) (system : List Pat) → AreRows b entries b.roots.now grids → b.roots.now ≡ roots_all [] system → length grids ≡ length system
rows_many b entries grids system rows roots =
    rows_count b entries b.roots.now grids rows ∙ ap length roots ∙ roots_count [] system

pub least_count : (b : Board) (entries : List ℕ) (grids : List Grid) (system : List Pattern) → AreRows b entries b.roots.now grids → b.roots.now ≡ roots_all [] (patterns_view system) → length grids ≡ length system
least_count b entries grids system rows roots =
    rows_many b entries grids (patterns_view system) rows roots ∙ length-map system pattern_view

-- Several constraints searched by one table.
use Rattle.std.proofs.Common.{◌≡◌, ℕ, suc, ◌+◌, ◌<◌, ◌≤◌, true, List, [], ◌∷◌, length, Option, None, refl, sym, ap, ◌∙◌, subst, arith, ⊎_elim}
use Rattle.std.specs.Prelude.{get_or, slice_get}
use Rattle.std.specs.List.{AllByRecursion}
use Rattle.std.proofs.lemmas.Bool.{cases_lt}
use Rattle.pat_words_spec.specs.Patterns.{Pat}
use Rattle.pat_words_spec.specs.Tags.{tags_below}
use Rattle.pat_inclusion_spec.specs.Points.{grid_fits}
use Rattle.pat_inclusion_spec.specs.bounds.Trees.{bounds_of}
use Rattle.pat_inclusion_spec.specs.bounds.Assignments.{Right, PatternRight, VarRight, Constraint}
use Rattle.pat_inclusion_spec.specs.bounds.Symbols.{Symbol, RootStands, IsFlatOf}
use Rattle.pat_inclusion_spec.specs.bounds.Tables.{IsDone}
use Rattle.pat_inclusion_spec.specs.bounds.Numbers.{points_in, table_of}
use Rattle.pat_inclusion_spec.specs.bounds.Searches.{Search, InsideAnswer, FoundAnswer, LargeAnswer, IsAnswer}
use Rattle.pat_inclusion_laws.specs.bounds.Laws.{SearchLaw}
use Rattle.pat_grid_points.specs.declared.grid.Grid.{Grid}
use Rattle.pat_grid_points.specs.symbols.Views.{symbols_view}
use Rattle.pat_grid.specs.declared.tables.board.Board.{Board}
use Rattle.pat_grid.specs.tables.Views.{setting_of, IsBoard, AreGrids}
use Rattle.pat_grid.specs.Rows.{AreRows}
use Rattle.pat_grid.proofs.Meaning.{rows_point, least_like}
use Rattle.pat_counterexample_search.specs.Readings.{IsReading}
use Rattle.pat_counterexample_search.proofs.Search.{read_right, read_least}
use Rattle.pat_solve_bounds.specs.renumbered.Renaming.{renamed}
use Rattle.pat_solve_bounds.specs.renumbered.Systems.{side_at, picked}
use Rattle.pat_solve_grids.specs.Findings.{Findings, SidesSearched, IsSearchable, RightSearchable, AreFound}
use Rattle.pat_solve_grids.specs.Laying.{TagsBelow, StandEach, AreLaid, StandFor, AreSidesLaid, IsReadyFor, AreReady, IsNoted}
use Rattle.pat_solve_grids.specs.Least.{AreLeastOf}
use Rattle.pat_solve_grids.specs.Limits.{limited, IsTold, IsSettled}
use Rattle.pat_solve_grids.proofs.Laid.{stand_kept, roots_stand, roots_many, tags_at, none_below}
use Rattle.pat_solve_grids.proofs.Turning.{turn, each_at}
use Rattle.pat_limits.specs.Limits.{most_tree_nodes}

-- ---- the table

pub batch_board : (b : Board) → grid_fits b.k b.tags ≡ true → b.points ≡ points_in b.k b.tags → b.limit ≤ most_tree_nodes → b.given.now ≡ [] → TagsBelow b.tags (symbols_view b.symbols.now) → IsBoard b
batch_board b fits points limit given below = record {
  fits = fits;
  points = points;
  limit = limit;
  tags = tags_at b.tags (symbols_view b.symbols.now) below;
  given = subst (AreGrids b.k b.tags) (sym given) (λ j grid e. absurd (cc));
}

-- the tags of a system and of sides behind it
pub batch_tags : (k n : ℕ) (place : ℕ → ℕ) (system : List Pat) (zs : List Constraint) (ns : List ℕ) (from : ℕ) (empty one all : List Symbol) (roots : List ℕ) (sides : List (Option (ℕ × ℕ))) → empty ≡ [] → AllByRecursion (λ e. tags_below n e ≡ true) system → AllByRecursion (IsSearchable k n) (picked zs ns) → AreLaid empty one system roots → AreSidesLaid place zs ns from one all sides → TagsBelow n all
batch_tags k n place system zs ns from empty one all roots sides none tags fits laid more =
    more.tags k n fits (laid.tags n tags (subst (TagsBelow n) (sym none) (none_below n)))

-- ---- the limit

pub limited_board : (b : Board) (limit : ℕ) → IsBoard b → limit ≤ most_tree_nodes → IsBoard (limited b limit)
limited_board b limit board most = record {
  fits = board.fits;
  points = board.points;
  limit = most;
  tags = board.tags;
  given = board.given;
}

-- below the greatest limit an answer that isn't "larger trees alone" is right for the greatest as well
raised : (b : Board) (entries : List ℕ) (lower : ℕ → Pat) (left f : Pat) (s r : ℕ) → b.limit < most_tree_nodes → (IsReading b entries s r LargeAnswer → ⊥) → (a : Search) → IsReading b entries s r a → IsAnswer b.limit lower left f a → IsAnswer most_tree_nodes lower left f a
raised b entries lower left f s r less told InsideAnswer reading h = h
raised b entries lower left f s r less told (FoundAnswer w t) reading h = let size = h.1 in (h.0, omega (arith, less, size))
raised b entries lower left f s r less told LargeAnswer reading h = absurd (told reading)

told_right : (b : Board) (entries : List ℕ) (lower : ℕ → Pat) (left f : Pat) (s r : ℕ) → b.limit ≤ most_tree_nodes → ((b.limit ≡ most_tree_nodes → ⊥) → IsReading b entries s r LargeAnswer → ⊥) → (a : Search) → IsReading b entries s r a → IsAnswer b.limit lower left f a → IsAnswer most_tree_nodes lower left f a
told_right b entries lower left f s r most told a reading h =
    ⊎_elim
    (λ less. raised b entries lower left f s r less (told (λ same. omega (arith, less, same))) a reading h)
    (λ more. subst (λ m. IsAnswer m lower left f a) (omega (arith, most, more)) h)
    (cases_lt b.limit most_tree_nodes)

rows_count : (b : Board) (entries numbers : List ℕ) (grids : List Grid) → AreRows b entries numbers grids → length grids ≡ length numbers
rows_count b entries [] [] h = refl
rows_count b entries [] (g ∷ grids) h = absurd h
rows_count b entries (s ∷ numbers) [] h = absurd h
rows_count b entries (s ∷ numbers) (g ∷ grids) h = ap suc (rows_count b entries numbers grids h.1)

module _ (b : Board) (system : List Pat) (place : ℕ → ℕ) (zs : List Constraint) (ns : List ℕ) (from : ℕ) (entries : List ℕ) (law : SearchLaw) (done : IsDone (setting_of b) (table_of (setting_of b) entries)) (limit : b.limit ≤ most_tree_nodes) (empty one : List Symbol) (roots : List ℕ) (laid : AreLaid empty one system roots) (sides : List (Option (ℕ × ℕ))) (more : AreSidesLaid place zs ns from one (symbols_view b.symbols.now) sides) (rooted : b.roots.now ≡ roots) where
  abbrev all : List Symbol
  all = symbols_view b.symbols.now

  standing : StandEach all system roots
  standing = stand_kept one all system roots more.goes laid.stand

  flat : IsFlatOf (bounds_of system) (setting_of b).flat
  flat k =
      subst (λ rs. RootStands all (bounds_of system k) (slice_get rs k)) (sym rooted) (roots_stand all system roots standing k)

  -- the rows of the roots are the least grids
  pub batch_least : b.points ≡ points_in b.k b.tags → (grids : List Grid) → AreRows b entries b.roots.now grids → AreLeastOf b.k b.tags system grids
  batch_least points grids rows = record {
    count = rows_count b entries b.roots.now grids rows ∙ ap length rooted ∙ roots_many all system roots standing;
    like = least_like b entries grids rows;
    points = rows_point b (bounds_of system) entries entries grids rows refl points done flat;
  }

  ready_by : (left : Pat) (r : Right) (side : Option (ℕ × ℕ)) → RightSearchable b.k b.tags r → ((b.limit ≡ most_tree_nodes → ⊥) → IsTold b entries side) → StandFor all left r side → IsReadyFor b entries (bounds_of system) left r side
  ready_by left (VarRight k) side fits told stand = stand
  ready_by left (PatternRight f) side fits told stand = (
    stand.0,
    stand.1,
    stand.2,
    λ a reading. (
      told_right b entries (bounds_of system) left f stand.0 stand.1 limit
          (λ less. subst (IsTold b entries) stand.2 (told less)) a reading
          (read_right (setting_of b) entries (bounds_of system) left f stand.0 stand.1 law done flat stand.3 stand.4 fits.1 fits.2 a reading.read),
      read_least (setting_of b) entries (bounds_of system) left f stand.0 stand.1 law done flat stand.3 stand.4 fits.1 fits.2 a reading.read,
    ),
  )

  pub batch_ready : AllByRecursion (IsSearchable b.k b.tags) (picked zs ns) → (listed : List (Option (ℕ × ℕ))) → listed ≡ sides → from + length sides ≤ length ns → IsSettled b entries listed → AreReady b entries (bounds_of system) (renamed place) zs ns from listed
  batch_ready fits listed same within settled j l =
      let inside : j < length sides = subst (λ xs. j < length xs) same l in
      let searchable = each_at (IsSearchable b.k b.tags) (side_at zs) ns (from + j) (omega (arith, inside, within)) fits in
      let c = side_at zs (get_or ns (from + j) 0) in
      ready_by (renamed place c.left) c.right (get_or listed j None) searchable.right (settled j l)
      (subst (λ xs. StandFor all (renamed place c.left) c.right (get_or xs j None)) (sym same) (more.stand j inside))

-- ---- answers

pub searched_by : (b : Board) (entries : List ℕ) (lower : ℕ → Pat) (left : Pat) (r : Right) (side : Option (ℕ × ℕ)) (n : ℕ) (old new : Findings) → IsReadyFor b entries lower left r side → IsNoted b entries side n old new → SidesSearched lower left r n old new
searched_by b entries lower left (PatternRight f) side n old new ready noted =
    let h = subst (λ o. IsNoted b entries o n old new) ready.2 noted in (h.0, ready.3 h.0 h.1, h.2)
searched_by b entries lower left (VarRight k) side n old new ready noted = subst (λ o. IsNoted b entries o n old new) ready noted

pub read_turn : (b : Board) (entries : List ℕ) (lower : ℕ → Pat) (rename : Pat → Pat) (zs : List Constraint) (ns : List ℕ) (from j : ℕ) (sides : List (Option (ℕ × ℕ))) (old new : Findings) → from + length sides ≤ length ns → j < length sides → AreReady b entries lower rename zs ns from sides → IsNoted b entries (get_or sides j None) (get_or ns (from + j) 0) old new → AreFound lower rename (picked zs ns) ns (from + j) old → AreFound lower rename (picked zs ns) ns (from + (j + 1)) new
read_turn b entries lower rename zs ns from j sides old new within l ready noted was =
    let next : from + j + 1 ≡ from + (j + 1) = omega arith in
    let c = side_at zs (get_or ns (from + j) 0) in
    subst (λ m. AreFound lower rename (picked zs ns) ns m new) next
    (turn lower rename zs ns (from + j) old new (omega arith) was
    (searched_by b entries lower (rename c.left) c.right (get_or sides j None) (get_or ns (from + j) 0) old new (ready j l) noted))

-- A board is one that a table can be made for.
use Rattle.std.proofs.Common.{◌≡◌, ℕ, List, ◌++◌, length, take, drop, append-nil, refl, ap, ◌∙◌, subst, arith}
use Rattle.std.proofs.lemmas.List.{drop_all, take_all}
use Rattle.pat_words_spec.specs.Tags.{HasTagsBelow}
use Rattle.pat_words_spec.specs.Languages.{MemberOf}
use Rattle.std.specs.Prelude.{Option, Some, None, slice_get}
use Rattle.pat_inclusion_spec.specs.bounds.Symbols.{GivenAreBelow}
use Rattle.pat_inclusion_spec.specs.bounds.Tables.{IsFit}
use Rattle.pat_grid_points.specs.declared.grid.Grid.{Grid}
use Rattle.pat_grid_points.proofs.Digits.{bound_fits}
use Rattle.pat_grid_points.proofs.Members.{member_point}
use Rattle.pat_grid.specs.declared.tables.board.Board.{Board}
use Rattle.pat_grid.specs.tables.Views.{setting_of, IsBoard, AreGrids, points_in_grid, given_words}

-- a slice that was lent is put back whole
pub put_back : {A : Type 0} (n : ℕ) (new items : List A) → length new ≡ n → length items ≡ n → take n (new ++ drop (length new) items) ≡ new
put_back n new items l m =
    ap (λ xs. take n (new ++ xs)) (drop_all (length new) items (omega arith))
    ∙ ap (take n) (append-nil new)
    ∙ take_all n new (omega arith)

given_below : (k n : ℕ) (grids : List Grid) → AreGrids k n grids → GivenAreBelow n (given_words grids)
given_below k n grids are j w h = go (slice_get grids j) refl h
  where
    go : (o : Option Grid) → slice_get grids j ≡ o → MemberOf (points_in_grid o) w → HasTagsBelow n w
    go None e m = absurd m
    go (Some grid) e m = subst (λ i. HasTagsBelow i w) (are j grid e).1 (member_point grid w m).0.0

pub board_fit : (b : Board) → IsBoard b → IsFit (setting_of b)
board_fit b board = record {
  bound = bound_fits b.k b.tags board.fits;
  tags = board.tags;
  given = given_below b.k b.tags b.given.now board.given;
}

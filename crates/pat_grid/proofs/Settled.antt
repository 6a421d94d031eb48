-- Where no size is told, what sets of points reach is a table that is done.
use Rattle.std.proofs.Common.{◌≡◌, ℕ, ◌<◌, List, refl, sym, ap, subst, arith}
use Rattle.pat_inclusion_spec.specs.bounds.Tables.{Setting, IsDone, IsClosed, IsSound}
use Rattle.pat_inclusion_spec.specs.bounds.Numbers.{table_of, HasAllEntries}
use Rattle.pat_grid_sums.specs.declared.system.System.{System}
use Rattle.pat_grid_sums.specs.Systems.{setting_in, IsSystem, AreReached}
use Rattle.pat_grid.specs.declared.tables.board.Board.{Board}
use Rattle.pat_grid.specs.tables.Views.{setting_of, flat_view, given_words, IsBoard}
use Rattle.pat_grid.proofs.Done.{board_fit}

abbrev pub system_in : Board → System
system_in b = record { k = b.k; tags = b.tags; symbols = b.symbols; roots = b.roots; given = b.given }

pub system_is : (b : Board) → IsBoard b → IsSystem (system_in b)
system_is b board = record { fits = board.fits; tags = board.tags; given = board.given }

same_setting : (b : Board) → b.limit ≡ 0 → setting_in (system_in b) ≡ setting_of b
same_setting b e =
    ap (λ l. record { bound = b.k; tags = b.tags; limit = l; flat = flat_view b.symbols.now b.roots.now; given = given_words b.given.now }) (sym e)

pub reached_all : (b : Board) (entries : List ℕ) → b.limit ≡ 0 → AreReached (setting_in (system_in b)) entries → HasAllEntries (setting_of b) entries
reached_all b entries e h = subst (λ g. HasAllEntries g entries) (same_setting b e) h.all

pub reached_done : (b : Board) (entries : List ℕ) → IsBoard b → b.limit ≡ 0 → AreReached (setting_in (system_in b)) entries → IsDone (setting_of b) (table_of (setting_of b) entries)
reached_done b entries board e h = record {
  fit = board_fit b board;
  closed = subst (λ g. IsClosed g (table_of g entries)) (same_setting b e) h.closed;
  sound = subst (λ g. IsSound g (table_of g entries)) (same_setting b e) h.sound;
}

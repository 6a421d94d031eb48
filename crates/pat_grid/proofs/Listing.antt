-- Rows, one entry and one symbol after another.
use Rattle.std.proofs.Common.{◌≡◌, ℕ, zero, suc, ◌+◌, ◌<◌, ◌≤◌, ◌↔◌, Bool, true, false, List, [], ◌∷◌, ◌++◌, length, get_or, replicate, take, Some, refl, sym, ap, ◌∙◌, subst, arith, ⊎_elim, ◌-◌, inl, inr}
use Rattle.std.specs.Prelude.{slice_get}
use Rattle.std.proofs.lemmas.Bool.{cases_lt}
use Rattle.std.proofs.lemmas.List.{get_or-replicate, get_or_past, length-replicate, take_more}
use Rattle.pat_inclusion_spec.specs.bounds.Tables.{IsKnown}
use Rattle.pat_grid_points.specs.declared.grid.Grid.{Grid}
use Rattle.pat_grid_points.specs.Sparse.{IsFilled}
use Rattle.pat_grid.specs.declared.tables.board.Board.{Board}
use Rattle.pat_grid.specs.tables.Views.{setting_of}
use Rattle.pat_grid.specs.tables.Moves.{entry_at}
use Rattle.pat_grid.specs.Rows.{TestsBefore, IsRow, AreRows}

-- a test for each number: those before m are right, and from m on nothing is there
pub record Tested (b : Board) (entries : List ℕ) (s : ℕ) (held : List Bool) (m : ℕ) : Type 0 where
  pub count : length held ≡ b.points
  pub right : TestsBefore b entries s held m
  pub free : (c : ℕ) → m ≤ c → get_or held c false ≡ false

none_at : (n c : ℕ) → get_or (replicate n false) c false ≡ false
none_at n c =
    ⊎_elim (λ l. get_or-replicate n c false false l)
    (λ l. get_or_past (replicate n false) c false (subst (λ j. j ≤ c) (sym (length-replicate n false)) l))
    (cases_lt c n)

pub tested_begun : (b : Board) (entries : List ℕ) (s to : ℕ) (held : List Bool) → held ≡ replicate b.points false → ((c : ℕ) → 0 ≤ c → c < to → IsKnown b.limit (entry_at (setting_of b) entries s c) → ⊥) → Tested b entries s held to
tested_begun b entries s to held e none =
    subst (λ hs. Tested b entries s hs to) (sym e) (record {
      count = length-replicate b.points false;
      right = λ c l. (λ t. let n = none_at b.points c in absurd (cc), λ known. absurd (none c (omega arith) l known));
      free = λ c l. none_at b.points c;
    })

pub tested_filled : (b : Board) (entries : List ℕ) (s m end to : ℕ) (old new : List Bool) → m < end → end ≤ b.points → Tested b entries s old m → ((c : ℕ) → m ≤ c → c < end → IsKnown b.limit (entry_at (setting_of b) entries s c)) → IsFilled m (end - m) true old new → end ≤ to → ((c : ℕ) → end ≤ c → c < to → IsKnown b.limit (entry_at (setting_of b) entries s c) → ⊥) → Tested b entries s new to
tested_filled b entries s m end to old new some room h known f past none = record {
  count = f.as_long ∙ h.count;
  right = λ c l. ⊎_elim
      (λ (below : c < m). subst (λ x. (x ≡ true) ↔ IsKnown b.limit (entry_at (setting_of b) entries s c)) (sym (f.elsewhere c false (inl below))) (h.right c below))
      (λ (from : m ≤ c). ⊎_elim
      (λ (within : c < end). (λ t. known c from within, λ k. f.here c false from (omega arith)))
      (λ (above : end ≤ c). (
        λ t. let o = f.elsewhere c false (inr (omega arith)) in let n = h.free c from in absurd (cc),
        λ k. absurd (none c above l k),
      ))
      (cases_lt c end))
      (cases_lt c m);
  free = λ c l. f.elsewhere c false (inr (omega arith)) ∙ h.free c (omega arith);
}

pub tested_row : (b : Board) (entries : List ℕ) (s m : ℕ) (held : List Bool) (g : Grid) → b.points ≤ m → Tested b entries s held m → (g.k ≡ b.k) × (g.tags ≡ b.tags) × (g.held ≡ held) → IsRow b entries s g
tested_row b entries s m held g past h is = record {
  bound = is.0;
  tags = is.1;
  tests = subst (λ hs. TestsBefore b entries s hs b.points) (sym is.2) (λ c l. h.right c (omega arith));
}

pub rows_more : (b : Board) (entries : List ℕ) (s : ℕ) (g : Grid) (numbers : List ℕ) (grids : List Grid) → AreRows b entries numbers grids → IsRow b entries s g → AreRows b entries (numbers ++ s ∷ []) (grids ++ g ∷ [])
rows_more b entries s g [] [] h r = (r, tt)
rows_more b entries s g [] (k ∷ grids) h r = absurd h
rows_more b entries s g (n ∷ numbers) [] h r = absurd h
rows_more b entries s g (n ∷ numbers) (k ∷ grids) h r = (h.0, rows_more b entries s g numbers grids h.1 r)

pub rows_count : (b : Board) (entries : List ℕ) (numbers : List ℕ) (grids : List Grid) → AreRows b entries numbers grids → length grids ≡ length numbers
rows_count b entries [] [] h = refl
rows_count b entries [] (k ∷ grids) h = absurd h
rows_count b entries (n ∷ numbers) [] h = absurd h
rows_count b entries (n ∷ numbers) (k ∷ grids) h = ap suc (rows_count b entries numbers grids h.1)

-- the row of a grid that is found
pub row_at : (b : Board) (entries : List ℕ) (numbers : List ℕ) (grids : List Grid) (j : ℕ) (g : Grid) → AreRows b entries numbers grids → slice_get grids j ≡ Some g → (s : ℕ) × (slice_get numbers j ≡ Some s) × IsRow b entries s g
row_at b entries [] [] j g h e = absurd (cc)
row_at b entries [] (k ∷ grids) j g h e = absurd h
row_at b entries (n ∷ numbers) [] j g h e = absurd h
row_at b entries (n ∷ numbers) (k ∷ grids) zero g h e =
    (n, refl, subst (IsRow b entries n) (let f : k ≡ g = cc in f) h.0)
row_at b entries (n ∷ numbers) (k ∷ grids) (suc j) g h e = row_at b entries numbers grids j g h.1 e

pub rows_turn : (b : Board) (entries numbers : List ℕ) (i : ℕ) (old new : List Grid) (g : Grid) → i < length numbers → AreRows b entries (take i numbers) old → IsRow b entries (get_or numbers i 0) g → new ≡ old ++ g ∷ [] → AreRows b entries (take (i + 1) numbers) new
rows_turn b entries numbers i old new g l h r e =
    subst (AreRows b entries (take (i + 1) numbers)) (sym e)
    (subst (λ ns. AreRows b entries ns (old ++ g ∷ [])) (sym (take_more numbers i 0 l))
    (rows_more b entries (get_or numbers i 0) g (take i numbers) old h r))

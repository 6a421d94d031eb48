-- A symbol of each kind, relaxed.
use Rattle.std.proofs.Common.{◌≡◌, ℕ, zero, suc, ◌+◌, ◌<◌, ◌≤◌, ◌⊎◌, inl, inr, ⊎_elim, refl, ◌∙◌, Bool, true, false, List, [], ◌∷◌, length, get_or, Some, sym, ap, subst, arith}
use Rattle.std.specs.Prelude.{slice_get}
use Rattle.std.proofs.lemmas.Option.{slice_get_past}
use Rattle.pat_words_spec.specs.Words.{one}
use Rattle.pat_words_spec.specs.Cuts.{cut_at}
use Rattle.pat_inclusion_spec.specs.bounds.Symbols.{NoSymbol, OneSymbol, TagSymbol, SumSymbol, ProdSymbol, StarSymbol, LowerSymbol, GivenSymbol, symbol_at, root_at}
use Rattle.pat_inclusion_spec.specs.bounds.Tables.{Setting, Table, IsKnown, Step}
use Rattle.pat_inclusion_spec.specs.bounds.Numbers.{points_in, number_of, point_of}
use Rattle.pat_grid_points.specs.declared.grid.Grid.{Grid}
use Rattle.pat_grid_points.specs.Views.{points_of}
use Rattle.pat_grid.specs.declared.tables.board.Board.{Board}
use Rattle.pat_grid.specs.declared.tables.sizes.Sizes.{Sizes}
use Rattle.pat_grid.specs.tables.Views.{setting_of, IsBoard, points_in_grid}
use Rattle.pat_grid.specs.tables.Moves.{entry_at, Lowers, Moved, ClosedAt, PartBefore, TakesParts, AreOthers, RowBefore, RowsBefore, WholeRow, WholeRows, Lists, HeldBefore}
use Rattle.pat_grid.specs.tables.Waiting.{IsPartOf, IsNoPart}
use Rattle.pat_grid.proofs.Relaxing.{same_row, moved_none, moved_both, moved_as, parts_kept, before_more}
use Rattle.pat_grid.proofs.Closing.{closed_zero, closed_one, closed_tag, closed_sum, closed_lower, closed_product, closed_star, closed_none_given, closed_given, step_given, takes_star, row_whole}

-- a grid that is read by its place
there : (grids : List Grid) (i : ℕ) (grid : Grid) → i < length grids → grid ≡ get_or grids i grid → slice_get grids i ≡ Some grid
there [] i grid l h = absurd (omega arith)
there (k ∷ grids) zero grid l h = ap Some (sym h)
there (k ∷ grids) (suc i) grid l h = there grids i grid (omega arith) h

-- a star is made of itself
own_star : (g : Setting) (s a : ℕ) → symbol_at g.flat s ≡ StarSymbol a → IsNoPart g s → ⊥
own_star g s a e n = n (subst (λ y. IsPartOf g.flat s y s) (sym e) (inr refl))

sum_apart : (g : Setting) (s a c : ℕ) → symbol_at g.flat s ≡ SumSymbol a c → IsNoPart g s → AreOthers a c s
sum_apart g s a c e n = (
  λ h. n (subst (λ y. IsPartOf g.flat s y s) (sym e) (inl h)),
  λ h. n (subst (λ y. IsPartOf g.flat s y s) (sym e) (inr h)),
)

product_apart : (g : Setting) (s a c : ℕ) → symbol_at g.flat s ≡ ProdSymbol a c → IsNoPart g s → AreOthers a c s
product_apart g s a c e n = (
  λ h. n (subst (λ y. IsPartOf g.flat s y s) (sym e) (inl h)),
  λ h. n (subst (λ y. IsPartOf g.flat s y s) (sym e) (inr h)),
)

lists_as : (P Q : ℕ → Type 0) (from upto : ℕ) (numbers : List ℕ) → ((c : ℕ) → c < upto → Q c → P c) → Lists P from upto numbers → Lists Q from upto numbers
lists_as P Q from upto numbers f h = record {
  within = h.within;
  all = λ c l m k. h.all c l m (f c m k);
}

-- what was known of the row of another symbol
known_as : (g : Setting) (s a from upto : ℕ) (numbers x y : List ℕ) → upto ≤ points_in g.bound g.tags → Lowers g s x y → (y ≡ x) ⊎ (a ≡ s → ⊥) → Lists (λ i. IsKnown g.limit (entry_at g x a i)) from upto numbers → Lists (λ i. IsKnown g.limit (entry_at g y a i)) from upto numbers
known_as g s a from upto numbers x y l m o h =
    lists_as (λ i. IsKnown g.limit (entry_at g x a i)) (λ i. IsKnown g.limit (entry_at g y a i)) from upto numbers
    (λ c k known. let same = same_row g s a c x y m (omega arith) o in subst (IsKnown g.limit) same known)
    h

module _ (b : Board) (board : IsBoard b) (s : ℕ) (x : Sizes) (p : Bool) where
  abbrev g : Setting
  g = setting_of b

  abbrev None : Type 0
  None = IsNoPart g s

  few : b.points ≤ points_in g.bound g.tags
  few = let e = board.points in omega arith

  pub zero_moved : symbol_at g.flat s ≡ NoSymbol → Moved g s None (ClosedAt g s) x p x p
  zero_moved e = moved_none g s None (ClosedAt g s) x p (closed_zero g s x.entries e)

  pub one_moved : (y : Sizes) (q : Bool) → symbol_at g.flat s ≡ OneSymbol → Moved g s (Unit {0}) (λ es. entry_at g es s 0 ≤ 1) x p y q → Moved g s None (ClosedAt g s) x p y q
  one_moved y q e m =
      moved_as g s (Unit {0}) None (λ es. entry_at g es s 0 ≤ 1) (ClosedAt g s) x y p q m (λ n. tt) (λ o. closed_one g s y.entries e)

  pub tag_moved : (m c : ℕ) (y : Sizes) (q : Bool) → symbol_at g.flat s ≡ TagSymbol m → c ≡ number_of g.bound g.tags (cut_at g.bound (one m)) → Moved g s (Unit {0}) (λ es. entry_at g es s c ≤ 1) x p y q → Moved g s None (ClosedAt g s) x p y q
  tag_moved m c y q e is h =
      moved_as g s (Unit {0}) None (λ es. entry_at g es s c ≤ 1) (ClosedAt g s) x y p q h (λ n. tt) (λ o. closed_tag g s m c y.entries e is)

  whole : (a : ℕ) (es : List ℕ) → PartBefore g s a b.points es → PartBefore g s a (points_in g.bound g.tags) es
  whole a es h = subst (λ n. PartBefore g s a n es) board.points h

  pub sum_moved : (a c : ℕ) (y z : Sizes) (q r : Bool) → symbol_at g.flat s ≡ SumSymbol a c → Moved g s (a ≡ s → ⊥) (PartBefore g s a b.points) x p y q → Moved g s (c ≡ s → ⊥) (PartBefore g s c b.points) y q z r → Moved g s None (ClosedAt g s) x p z r
  sum_moved a c y z q r e first second =
      moved_both g s None (PartBefore g s a b.points) (PartBefore g s c b.points) (ClosedAt g s) x y z p q r
      (moved_as g s (a ≡ s → ⊥) None (PartBefore g s a b.points) (PartBefore g s a b.points) x y p q first (λ n. (sum_apart g s a c e n).0) (λ o h. h))
      (moved_as g s (c ≡ s → ⊥) None (PartBefore g s c b.points) (PartBefore g s c b.points) y z q r second (λ n. (sum_apart g s a c e n).1) (λ o h. h))
      (λ n lowers h. parts_kept g s a b.points y.entries z.entries few (sum_apart g s a c e n).0 lowers h)
      (λ h k. closed_sum g s a c z.entries e (whole a z.entries h) (whole c z.entries k))

  pub lower_moved : (k a : ℕ) (y : Sizes) (q : Bool) → symbol_at g.flat s ≡ LowerSymbol k → a ≡ root_at g.flat k → Moved g s (a ≡ s → ⊥) (PartBefore g s a b.points) x p y q → Moved g s None (ClosedAt g s) x p y q
  lower_moved k a y q e root m =
      moved_as g s (a ≡ s → ⊥) None (PartBefore g s a b.points) (ClosedAt g s) x y p q m
      (λ n h. n (subst (λ i. IsPartOf g.flat s i s) (sym e) (sym root ∙ h)))
      (λ o h. closed_lower g s k a y.entries e root (whole a y.entries h))

  counted : (P : ℕ → Type 0) (from : ℕ) (numbers : List ℕ) → Lists P from b.points numbers → Lists P from (points_in g.bound g.tags) numbers
  counted P from numbers h = subst (λ n. Lists P from n numbers) board.points h

  pub product_moved : (a c : ℕ) (firsts seconds : List ℕ) (y : Sizes) (q : Bool) → symbol_at g.flat s ≡ ProdSymbol a c → Lists (λ i. IsKnown g.limit (entry_at g x.entries a i)) 0 b.points firsts → Lists (λ i. IsKnown g.limit (entry_at g x.entries c i)) 0 b.points seconds → Moved g s (AreOthers a c s) (RowsBefore g s a c firsts seconds (length firsts)) x p y q → Moved g s None (ClosedAt g s) x p y q
  product_moved a c firsts seconds y q e lf ls m =
      moved_as g s (AreOthers a c s) None (RowsBefore g s a c firsts seconds (length firsts)) (ClosedAt g s) x y p q m (product_apart g s a c e)
      (λ o rows. closed_product g s a c firsts seconds y.entries e rows
      (counted (λ i. IsKnown g.limit (entry_at g y.entries a i)) 0 firsts (known_as g s a 0 b.points firsts x.entries y.entries few m.lowers (⊎_elim (λ t. inl t) (λ n. inr (product_apart g s a c e n).0) o) lf))
      (counted (λ i. IsKnown g.limit (entry_at g y.entries c i)) 0 seconds (known_as g s c 0 b.points seconds x.entries y.entries few m.lowers (⊎_elim (λ t. inl t) (λ n. inr (product_apart g s a c e n).1) o) ls)))

  -- one number of the part went along all at which the star has a tree
  pub turn_moved : (a v : ℕ) (seconds : List ℕ) (y z : Sizes) (q r : Bool) → Lists (λ i. IsKnown g.limit (entry_at g x.entries s i)) 0 b.points seconds → Moved g s (AreOthers a s s) (RowBefore g s a s v seconds (length seconds)) x p y q → Moved g s ⊥ (λ es. Unit {0}) y q z r → Moved g s ⊥ (WholeRow g s a s v) x p z r
  turn_moved a v seconds y z q r ls first second =
      let Row : List ℕ → Type 0 = RowBefore g s a s v seconds (length seconds) in
      let both = moved_both g s ⊥ Row (λ es. Unit {0}) Row x y z p q r
      (moved_as g s (AreOthers a s s) ⊥ Row Row x y p q first (λ n. absurd n) (λ o h. h))
      second
      (λ n lowers h. absurd n)
      (λ h k. h) in
      moved_as g s ⊥ ⊥ Row (WholeRow g s a s v) x z p r both (λ n. n)
      (λ o h. row_whole g s a s v seconds z.entries
      (counted (λ i. IsKnown g.limit (entry_at g z.entries s i)) 0 seconds (known_as g s s 0 b.points seconds x.entries z.entries few both.lowers (⊎_elim (λ e. inl e) (λ n. absurd n) o) ls)) h)

  -- all numbers of a list went along all at which the star has a tree
  pub round_whole : (a : ℕ) (firsts seconds : List ℕ) (y : Sizes) (q : Bool) → Lists (λ i. IsKnown g.limit (entry_at g x.entries s i)) 0 b.points seconds → Moved g s ⊥ (RowsBefore g s a s firsts seconds (length firsts)) x p y q → Moved g s ⊥ (WholeRows g s a s firsts (length firsts)) x p y q
  round_whole a firsts seconds y q ls m =
      moved_as g s ⊥ ⊥ (RowsBefore g s a s firsts seconds (length firsts)) (WholeRows g s a s firsts (length firsts)) x y p q m (λ n. n)
      (λ o rows i l. row_whole g s a s (get_or firsts i 0) seconds y.entries
      (counted (λ j. IsKnown g.limit (entry_at g y.entries s j)) 0 seconds (known_as g s s 0 b.points seconds x.entries y.entries few m.lowers (⊎_elim (λ e. inl e) (λ n. absurd n) o) ls))
      (rows i l))

  -- the first m numbers of the part went along so
  pub star_begins : (a : ℕ) (firsts : List ℕ) → Moved g s ⊥ (WholeRows g s a s firsts 0) x p x p
  star_begins a firsts = moved_none g s ⊥ (WholeRows g s a s firsts 0) x p (λ i l. absurd (omega arith))

  pub star_goes_on : (a m : ℕ) (firsts : List ℕ) (y z : Sizes) (q r : Bool) → Moved g s ⊥ (WholeRows g s a s firsts m) x p y q → Moved g s ⊥ (WholeRow g s a s (get_or firsts m 0)) y q z r → Moved g s ⊥ (WholeRows g s a s firsts (m + 1)) x p z r
  star_goes_on a m firsts y z q r first second =
      moved_both g s ⊥ (WholeRows g s a s firsts m) (WholeRow g s a s (get_or firsts m 0)) (WholeRows g s a s firsts (m + 1)) x y z p q r first second
      (λ n lowers h. absurd n)
      (λ h k. before_more (λ i. WholeRow g s a s (get_or firsts i 0) z.entries) m h k)

  pub star_moved : (a m : ℕ) (firsts : List ℕ) (y z : Sizes) (q r : Bool) → symbol_at g.flat s ≡ StarSymbol a → Lists (λ i. IsKnown g.limit (entry_at g x.entries a i)) 1 b.points firsts → m ≡ length firsts → Moved g s (Unit {0}) (λ es. entry_at g es s 0 ≤ 1) x p y q → Moved g s ⊥ (WholeRows g s a s firsts m) y q z r → Moved g s None (ClosedAt g s) x p z r
  star_moved a m firsts y z q r e lf ended first second =
      let Rows : List ℕ → Type 0 = WholeRows g s a s firsts m in
      let Both : List ℕ → Type 0 = λ es. (entry_at g es s 0 ≤ 1) × Rows es in
      let both = moved_both g s None (λ es. entry_at g es s 0 ≤ 1) Rows Both x y z p q r
      (moved_as g s (Unit {0}) None (λ es. entry_at g es s 0 ≤ 1) (λ es. entry_at g es s 0 ≤ 1) x y p q first (λ n. tt) (λ o h. h))
      (moved_as g s ⊥ None Rows Rows y z q r second (λ n. absurd (own_star g s a e n)) (λ o h. h))
      (λ n lowers h. absurd (own_star g s a e n))
      (λ h k. (h, k)) in
      moved_as g s None None Both (ClosedAt g s) x z p r both (λ n. n)
      (λ o h. closed_star g s a firsts z.entries e h.0 (subst (λ i. WholeRows g s a s firsts i z.entries) ended h.1)
      (counted (λ i. IsKnown g.limit (entry_at g z.entries a i)) 1 firsts (known_as g s a 1 b.points firsts x.entries z.entries few both.lowers (⊎_elim (λ t. inl t) (λ n. absurd (own_star g s a e n)) o) lf)))

  pub star_takes : (a : ℕ) (firsts : List ℕ) → symbol_at g.flat s ≡ StarSymbol a → Lists (λ i. IsKnown g.limit (entry_at g x.entries a i)) 1 b.points firsts → (i : ℕ) → i < length firsts → (get_or firsts i 0 < b.points) × TakesParts g s a s (get_or firsts i 0)
  star_takes a firsts e lf i l =
      let w = lf.within i l in
      (w.1, takes_star g s a (get_or firsts i 0) e w.0 (subst (λ n. get_or firsts i 0 < n) board.points w.1))

  -- ---- given points

  module _ (j : ℕ) (e : symbol_at g.flat s ≡ GivenSymbol j) where
    pub past_given : length b.given.now ≤ j → Moved g s None (ClosedAt g s) x p x p
    past_given l =
        moved_none g s None (ClosedAt g s) x p (closed_none_given g s j x.entries e (ap points_in_grid (slice_get_past b.given.now j l)))

    module _ (grid : Grid) (held : List Bool) (l : j < length b.given.now) (h : grid ≡ get_or b.given.now j grid) (same : held ≡ grid.held) where
      found : slice_get b.given.now j ≡ Some grid
      found = there b.given.now j grid l h

      given_is : g.given j ≡ points_of grid
      given_is = ap points_in_grid found

      like : (grid.k ≡ g.bound) × (grid.tags ≡ g.tags)
      like = board.given j grid found

      pub given_takes : (table : Table) (c : ℕ) → c < b.points → get_or held c false ≡ true → Step g table s (point_of g.bound g.tags c) 1
      given_takes table c m is =
          step_given g s j c grid table e given_is like (subst (λ n. c < n) board.points m) (subst (λ hs. get_or hs c false ≡ true) same is)

      pub given_moved : (y : Sizes) (q : Bool) → Moved g s (Unit {0}) (HeldBefore g s held b.points) x p y q → Moved g s None (ClosedAt g s) x p y q
      given_moved y q m =
          moved_as g s (Unit {0}) None (HeldBefore g s held b.points) (ClosedAt g s) x y p q m (λ n. tt)
          (λ o before. closed_given g s j grid y.entries e given_is like (subst (λ n. HeldBefore g s grid.held n y.entries) board.points (subst (λ hs. HeldBefore g s hs b.points y.entries) same before)))

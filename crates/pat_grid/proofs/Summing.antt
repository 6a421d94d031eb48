-- What is reached by sums of sets.
use Rattle.std.proofs.Common.{◌≡◌, ℕ, ◌+◌, ◌*◌, ◌<◌, ◌≤◌, ◌⊎◌, inl, inr, ⊎_elim, Bool, true, false, List, [], ◌∷◌, ◌++◌, length, get_or, set, refl, sym, ap, ◌∙◌, subst, arith}
use Rattle.std.specs.Prelude.{if◌then◌else◌}
use Rattle.std.proofs.lemmas.Bool.{cases_lt, cases_eq}
use Rattle.std.proofs.lemmas.List.{get_or_default, get_or_append_left, get_or_push, length_push, append-nil}
use Rattle.pat_inclusion_spec.specs.bounds.Tables.{Setting, IsKnown, Step}
use Rattle.pat_inclusion_spec.specs.bounds.Numbers.{points_in, point_of, table_of, unknown, HasAllEntries}
use Rattle.pat_grid_points.specs.Views.{summed}
use Rattle.pat_grid_points.proofs.Digits.{summed_below}
use Rattle.pat_grid_sums.specs.Shapes.{AreSums}
use Rattle.pat_grid.specs.declared.tables.sizes.Sizes.{Sizes}
use Rattle.pat_grid.specs.tables.Moves.{entry_at, IsPlace, Among, ArePoints, Moved, Lowers, TakesParts, AreOthers, PairAt, RowsBefore, KeepsKnown, WithinAt, RowWithin, RowsWithin, KeptBefore, HasSums}
use Rattle.pat_grid.specs.declared.tables.board.Board.{Board}
use Rattle.pat_grid.specs.tables.Views.{setting_of, IsBoard}
use Rattle.pat_grid.proofs.Relaxing.{entry_other, entry_within, symbol_within, pair_step, pair_kept, same_row, moved_none, moved_as, moved_both}

pub keeps_none : (g : Setting) (x : List ℕ) → KeepsKnown g x x
keeps_none g x a c l k = refl

pub keeps_both : (g : Setting) (x y z : List ℕ) → KeepsKnown g x y → KeepsKnown g y z → KeepsKnown g x z
keeps_both g x y z first second a c l k =
    let e = first a c l k in
    second a c l (subst (IsKnown g.limit) (sym e) k) ∙ e

-- two parts that give only larger trees than the limit
pub large_step : (g : Setting) (s a b v w : ℕ) (entries : List ℕ) → TakesParts g s a b v → v < points_in g.bound g.tags → w < points_in g.bound g.tags → IsKnown g.limit (entry_at g entries a v) → IsKnown g.limit (entry_at g entries b w) → g.limit ≤ entry_at g entries a v + entry_at g entries b w → Step g (table_of g entries) s (point_of g.bound g.tags (summed g.bound g.tags v w)) (g.limit + 1)
large_step g s a b v w entries takes lv lw kv kw large =
    takes (table_of g entries) (point_of g.bound g.tags w) (point_of g.bound g.tags (summed g.bound g.tags v w)) (g.limit + 1)
    (pair_step g entries a b v w (entry_at g entries a v) (entry_at g entries b w) (summed g.bound g.tags v w) (g.limit + 1) lv lw refl refl (omega arith) (omega arith) refl (omega arith))

-- where a sum has no tree yet, its parts give only larger ones
pub sum_step : (g : Setting) (s a b v w c : ℕ) (x y : List ℕ) → TakesParts g s a b v → v < points_in g.bound g.tags → w < points_in g.bound g.tags → IsKnown g.limit (entry_at g x a v) → IsKnown g.limit (entry_at g x b w) → WithinAt g s a b v w x → KeepsKnown g x y → c ≡ summed g.bound g.tags v w → g.limit + 1 < entry_at g y s c → Step g (table_of g y) s (point_of g.bound g.tags c) (g.limit + 1)
sum_step g s a b v w c x y takes lv lw kv kw within keeps is none =
    let ev = keeps a v lv kv in
    let ew = keeps b w lw kw in
    let sum = summed g.bound g.tags v w in
    ⊎_elim
    (λ (small : entry_at g x a v + entry_at g x b w < g.limit).
    let less = within small kv kw in
    let known : IsKnown g.limit (entry_at g x s sum) = omega arith in
    let same = keeps s sum (summed_below g.bound g.tags v w) known in
    let at = ap (entry_at g y s) is in
    absurd (omega arith))
    (λ (large : g.limit ≤ entry_at g x a v + entry_at g x b w).
    subst (λ i. Step g (table_of g y) s (point_of g.bound g.tags i) (g.limit + 1)) (sym is)
    (large_step g s a b v w y takes lv lw (omega arith) (omega arith) (omega arith)))
    (cases_lt (entry_at g x a v + entry_at g x b w) g.limit)

-- pairs within the limit, and all sums
pub pair_from : (g : Setting) (s a b v w : ℕ) (entries : List ℕ) → WithinAt g s a b v w entries → IsKnown g.limit (entry_at g entries s (summed g.bound g.tags v w)) → PairAt g s a b v w entries
pair_from g s a b v w entries within known ka kb =
    ⊎_elim
    (λ (small : entry_at g entries a v + entry_at g entries b w < g.limit). within small ka kb)
    (λ (large : g.limit ≤ entry_at g entries a v + entry_at g entries b w). omega arith)
    (cases_lt (entry_at g entries a v + entry_at g entries b w) g.limit)

pub rows_from : (g : Setting) (s a b : ℕ) (firsts seconds entries : List ℕ) → RowsWithin g s a b firsts seconds (length firsts) entries → HasSums g s firsts seconds entries → RowsBefore g s a b firsts seconds (length firsts) entries
rows_from g s a b firsts seconds entries within sums i l j m =
    pair_from g s a b (get_or firsts i 0) (get_or seconds j 0) entries (within i l j m) (sums i j l m)

-- what is claimed is kept where the row of s falls and the parts are apart
pub within_kept : (g : Setting) (s a b v w : ℕ) (y z : List ℕ) → v < points_in g.bound g.tags → w < points_in g.bound g.tags → AreOthers a b s → Lowers g s y z → WithinAt g s a b v w y → WithinAt g s a b v w z
within_kept g s a b v w y z lv lw d m h small =
    let one = m.elsewhere a v d.0 lv in
    let other = m.elsewhere b w d.1 lw in
    pair_kept g s a b v w y z lv lw d m (h (omega arith))

pub row_within_kept : (g : Setting) (s a b v m : ℕ) (seconds y z : List ℕ) → v < points_in g.bound g.tags → ((j : ℕ) → j < m → get_or seconds j 0 < points_in g.bound g.tags) → AreOthers a b s → Lowers g s y z → RowWithin g s a b v seconds m y → RowWithin g s a b v seconds m z
row_within_kept g s a b v m seconds y z lv ls d lowers h j k =
    within_kept g s a b v (get_or seconds j 0) y z lv (ls j k) d lowers (h j k)

pub rows_within_kept : (g : Setting) (s a b m : ℕ) (firsts seconds y z : List ℕ) → ((i : ℕ) → i < m → get_or firsts i 0 < points_in g.bound g.tags) → ((j : ℕ) → j < length seconds → get_or seconds j 0 < points_in g.bound g.tags) → AreOthers a b s → Lowers g s y z → RowsWithin g s a b firsts seconds m y → RowsWithin g s a b firsts seconds m z
rows_within_kept g s a b m firsts seconds y z lf ls d lowers h i k =
    row_within_kept g s a b (get_or firsts i 0) (length seconds) seconds y z (lf i k) ls d lowers (h i k)

-- ---- one number is reached

pub reach_less : (b : Board) (entries : List ℕ) (s c : ℕ) → IsBoard b → HasAllEntries (setting_of b) entries → IsPlace b s c → b.limit + 1 < entry_at (setting_of b) entries s c → b.limit + 1 < get_or entries (s * b.points + c) 0
reach_less b entries s c board all place none =
    let g = setting_of b in
    let m : c < points_in b.k b.tags = subst (λ p. c < p) board.points place.1 in
    let within : s * b.points + c < length entries = subst (λ p. s * p + c < length entries) (sym board.points) (entry_within g entries s c all (symbol_within b s place.0) m) in
    let same = get_or_default entries (s * b.points + c) 0 (unknown g.limit) within in
    let at = ap (λ p. get_or entries (s * p + c) (unknown g.limit)) board.points in
    omega arith

pub reach_keeps : (b : Board) (x y : List ℕ) (s c size : ℕ) → IsBoard b → IsPlace b s c → b.limit + 1 < entry_at (setting_of b) x s c → y ≡ set x (s * b.points + c) size → KeepsKnown (setting_of b) x y
reach_keeps b x y s c size board place none written a d l known =
    let g = setting_of b in
    let m : c < points_in b.k b.tags = subst (λ p. c < p) board.points place.1 in
    let rows : y ≡ set x (s * points_in b.k b.tags + c) size = written ∙ ap (λ p. set x (s * p + c) size) board.points in
    let other : (a ≡ s → ⊥) ⊎ (d ≡ c → ⊥) → entry_at g y a d ≡ entry_at g x a d = λ o. ap (λ es. entry_at g es a d) rows ∙ entry_other g x s c size a d m l o in
    ⊎_elim
    (λ same. ⊎_elim
    (λ here. let at = ap (λ i. entry_at g x i d) same in let too = ap (entry_at g x s) here in absurd (omega arith))
    (λ n. other (inr n))
    (cases_eq d c))
    (λ n. other (inl n))
    (cases_eq a s)

-- ---- what is claimed at each turn

-- a pair that isn't within the limit
pub pair_past : (g : Setting) (s a b v w e f : ℕ) (x : Sizes) (p : Bool) → e ≡ entry_at g x.entries a v → f ≡ entry_at g x.entries b w → g.limit ≤ e + f → Moved g s (AreOthers a b s) (WithinAt g s a b v w) x p x p
pair_past g s a b v w e f x p he hf l =
    moved_none g s (AreOthers a b s) (WithinAt g s a b v w) x p (λ small. absurd (omega arith))

pub pair_walked : (g : Setting) (s a b v w : ℕ) (x y : Sizes) (p q : Bool) → Moved g s (AreOthers a b s) (PairAt g s a b v w) x p y q → Moved g s (AreOthers a b s) (WithinAt g s a b v w) x p y q
pair_walked g s a b v w x y p q m =
    moved_as g s (AreOthers a b s) (AreOthers a b s) (PairAt g s a b v w) (WithinAt g s a b v w) x y p q m (λ d. d) (λ o pair small. pair)

-- pairs of which one has no tree below the limit claim nothing
pub rows_listed : (g : Setting) (s a b : ℕ) (firsts seconds ones others x y : List ℕ) → ((i : ℕ) → i < length firsts → entry_at g x a (get_or firsts i 0) < g.limit → Among (get_or firsts i 0) ones) → ((j : ℕ) → j < length seconds → entry_at g x b (get_or seconds j 0) < g.limit → Among (get_or seconds j 0) others) → ((i : ℕ) → i < length firsts → entry_at g y a (get_or firsts i 0) ≡ entry_at g x a (get_or firsts i 0)) → ((j : ℕ) → j < length seconds → entry_at g y b (get_or seconds j 0) ≡ entry_at g x b (get_or seconds j 0)) → RowsWithin g s a b ones others (length ones) y → RowsWithin g s a b firsts seconds (length firsts) y
rows_listed g s a b firsts seconds ones others x y all_first all_second same_first same_second rows i l j m small =
    let e = same_first i l in
    let f = same_second j m in
    let one = all_first i l (omega arith) in
    let other = all_second j m (omega arith) in
    subst (λ v. PairAt g s a b v (get_or seconds j 0) y) one.2
    (subst (λ w. PairAt g s a b (get_or ones one.0 0) w y) other.2
    (rows one.0 one.1 other.0 other.1
    (subst (λ v. entry_at g y a v + entry_at g y b (get_or others other.0 0) < g.limit) (sym one.2)
    (subst (λ w. entry_at g y a (get_or firsts i 0) + entry_at g y b w < g.limit) (sym other.2) small))))

pub within_moved : (g : Setting) (s a b : ℕ) (firsts seconds ones others : List ℕ) (x y : Sizes) (p q : Bool) → ArePoints g firsts → ArePoints g seconds → ((i : ℕ) → i < length firsts → entry_at g x.entries a (get_or firsts i 0) < g.limit → Among (get_or firsts i 0) ones) → ((j : ℕ) → j < length seconds → entry_at g x.entries b (get_or seconds j 0) < g.limit → Among (get_or seconds j 0) others) → Moved g s (AreOthers a b s) (RowsWithin g s a b ones others (length ones)) x p y q → Moved g s (AreOthers a b s) (RowsWithin g s a b firsts seconds (length firsts)) x p y q
within_moved g s a b firsts seconds ones others x y p q lf ls all_first all_second m =
    moved_as g s (AreOthers a b s) (AreOthers a b s) (RowsWithin g s a b ones others (length ones)) (RowsWithin g s a b firsts seconds (length firsts)) x y p q m (λ d. d)
    (λ o rows. rows_listed g s a b firsts seconds ones others x.entries y.entries all_first all_second
    (λ i l. same_row g s a (get_or firsts i 0) x.entries y.entries m.lowers (lf i l) (⊎_elim (λ t. inl t) (λ t. inr t.0) o))
    (λ j l. same_row g s b (get_or seconds j 0) x.entries y.entries m.lowers (ls j l) (⊎_elim (λ t. inl t) (λ t. inr t.1) o))
    rows)

-- pairs of which one has no tree claim nothing
pub rows_known : (g : Setting) (s a b : ℕ) (firsts seconds ones others x y : List ℕ) → ((i : ℕ) → i < length firsts → entry_at g x a (get_or firsts i 0) < g.limit + 2 → Among (get_or firsts i 0) ones) → ((j : ℕ) → j < length seconds → entry_at g x b (get_or seconds j 0) < g.limit + 2 → Among (get_or seconds j 0) others) → ((i : ℕ) → i < length firsts → entry_at g y a (get_or firsts i 0) ≡ entry_at g x a (get_or firsts i 0)) → ((j : ℕ) → j < length seconds → entry_at g y b (get_or seconds j 0) ≡ entry_at g x b (get_or seconds j 0)) → RowsBefore g s a b ones others (length ones) y → RowsBefore g s a b firsts seconds (length firsts) y
rows_known g s a b firsts seconds ones others x y all_first all_second same_first same_second rows i l j m ka kb =
    let e = same_first i l in
    let f = same_second j m in
    let one = all_first i l (omega arith) in
    let other = all_second j m (omega arith) in
    subst (λ v. PairAt g s a b v (get_or seconds j 0) y) one.2
    (subst (λ w. PairAt g s a b (get_or ones one.0 0) w y) other.2 (rows one.0 one.1 other.0 other.1))
    ka kb

pub known_moved : (g : Setting) (Apart : Type 0) (s a b : ℕ) (firsts seconds ones others : List ℕ) (x y : Sizes) (p q : Bool) → (Apart → AreOthers a b s) → ArePoints g firsts → ArePoints g seconds → ((i : ℕ) → i < length firsts → entry_at g x.entries a (get_or firsts i 0) < g.limit + 2 → Among (get_or firsts i 0) ones) → ((j : ℕ) → j < length seconds → entry_at g x.entries b (get_or seconds j 0) < g.limit + 2 → Among (get_or seconds j 0) others) → Moved g s Apart (RowsBefore g s a b ones others (length ones)) x p y q → Moved g s Apart (RowsBefore g s a b firsts seconds (length firsts)) x p y q
known_moved g Apart s a b firsts seconds ones others x y p q apart lf ls all_first all_second m =
    moved_as g s Apart Apart (RowsBefore g s a b ones others (length ones)) (RowsBefore g s a b firsts seconds (length firsts)) x y p q m (λ d. d)
    (λ o rows. rows_known g s a b firsts seconds ones others x.entries y.entries all_first all_second
    (λ i l. same_row g s a (get_or firsts i 0) x.entries y.entries m.lowers (lf i l) (⊎_elim (λ t. inl t) (λ t. inr (apart t).0) o))
    (λ j l. same_row g s b (get_or seconds j 0) x.entries y.entries m.lowers (ls j l) (⊎_elim (λ t. inl t) (λ t. inr (apart t).1) o))
    rows)

-- all sums are reached where the numbers are
pub sums_reached : (g : Setting) (s : ℕ) (firsts seconds numbers entries : List ℕ) → AreSums g.bound g.tags firsts seconds numbers → ((t : ℕ) → t < length numbers → entry_at g entries s (get_or numbers t 0) ≤ g.limit + 1) → HasSums g s firsts seconds entries
sums_reached g s firsts seconds numbers entries sums reached i j l m =
    let t = sums.all i j l m in
    let k = reached t.0 t.1 in
    let at = ap (entry_at g entries s) t.2 in
    omega arith

-- the pairs within the limit, and then the sums
pub many_moved : (g : Setting) (s a b : ℕ) (firsts seconds : List ℕ) (x y z : Sizes) (p q r : Bool) → ArePoints g firsts → ArePoints g seconds → AreOthers a b s → Moved g s (AreOthers a b s) (RowsWithin g s a b firsts seconds (length firsts)) x p y q → Moved g s (Unit {0}) (HasSums g s firsts seconds) y q z r → Moved g s (AreOthers a b s) (RowsBefore g s a b firsts seconds (length firsts)) x p z r
many_moved g s a b firsts seconds x y z p q r lf ls apart first second =
    moved_both g s (AreOthers a b s) (RowsWithin g s a b firsts seconds (length firsts)) (HasSums g s firsts seconds) (RowsBefore g s a b firsts seconds (length firsts)) x y z p q r first
    (moved_as g s (Unit {0}) (AreOthers a b s) (HasSums g s firsts seconds) (HasSums g s firsts seconds) y z q r second (λ d. tt) (λ o h. h))
    (λ d lowers h. rows_within_kept g s a b (length firsts) firsts seconds y.entries z.entries lf ls d lowers h)
    (λ h k. rows_from g s a b firsts seconds z.entries h k)

-- ---- a star's round

-- nothing was lowered, so all of it is as it was
same_moved : (g : Setting) (s a b : ℕ) (firsts seconds : List ℕ) (x y : Sizes) (p q : Bool) → q ≡ false → Moved g s (AreOthers a b s) (RowsWithin g s a b firsts seconds (length firsts)) x false y q → Moved g s ⊥ (RowsWithin g s a b firsts seconds (length firsts)) x p y p
same_moved g s a b firsts seconds x y p q e m = record {
  as_long = m.as_long;
  sound = m.sound;
  at_most = m.at_most;
  falls = λ t. inl t;
  stays = λ t. (t, (m.stays e).1);
  lowers = m.lowers;
  claim = λ t. m.claim (inl e);
  lists = m.lists;
  news = m.news;
}

pub round_moved : (g : Setting) (s a b : ℕ) (firsts seconds : List ℕ) (x y z : Sizes) (p q r : Bool) → q ≡ false → Moved g s (AreOthers a b s) (RowsWithin g s a b firsts seconds (length firsts)) x false y q → Moved g s (Unit {0}) (HasSums g s firsts seconds) y p z r → Moved g s ⊥ (RowsBefore g s a b firsts seconds (length firsts)) x p z r
round_moved g s a b firsts seconds x y z p q r e first second =
    moved_both g s ⊥ (RowsWithin g s a b firsts seconds (length firsts)) (HasSums g s firsts seconds) (RowsBefore g s a b firsts seconds (length firsts)) x y z p p r
    (same_moved g s a b firsts seconds x y p q e first)
    (moved_as g s (Unit {0}) ⊥ (HasSums g s firsts seconds) (HasSums g s firsts seconds) y z p r second (λ d. tt) (λ o h. h))
    (λ n lowers h. absurd n)
    (λ h k. rows_from g s a b firsts seconds z.entries h k)

-- something was lowered, so nothing is claimed
pub round_lowered : (g : Setting) (s a b : ℕ) (firsts seconds : List ℕ) (x y : Sizes) (p q : Bool) → q ≡ true → Moved g s (AreOthers a b s) (RowsWithin g s a b firsts seconds (length firsts)) x false y q → Moved g s ⊥ (RowsBefore g s a b firsts seconds (length firsts)) x p y true
round_lowered g s a b firsts seconds x y p q e m = record {
  as_long = m.as_long;
  sound = m.sound;
  at_most = m.at_most;
  falls = λ t. ⊎_elim (λ (i : false ≡ true). absurd (cc)) (λ l. inr l) (m.falls e);
  stays = λ t. absurd (cc);
  lowers = m.lowers;
  claim = λ t. ⊎_elim (λ (i : true ≡ false). absurd (cc)) (λ n. absurd n) t;
  lists = m.lists;
  news = m.news;
}

-- ---- numbers that were kept

pub kept_none : (g : Setting) (a most : ℕ) (entries numbers : List ℕ) → KeptBefore g a most entries numbers 0 []
kept_none g a most entries numbers = record {
  among = λ i l. absurd (omega arith);
  less = λ i l. absurd (omega arith);
  all = λ i l small. absurd (omega arith);
}

kept_in : (g : Setting) (a most m : ℕ) (entries numbers kept : List ℕ) → m < length numbers → entry_at g entries a (get_or numbers m 0) < most → KeptBefore g a most entries numbers m kept → KeptBefore g a most entries numbers (m + 1) (kept ++ get_or numbers m 0 ∷ [])
kept_in g a most m entries numbers kept there small h =
    let n = get_or numbers m 0 in
    let more = length_push kept n in
    let last : get_or (kept ++ n ∷ []) (length kept) 0 ≡ n = get_or_push kept n 0 (length kept) refl in
    record {
      among = λ i l. ⊎_elim
          (λ (below : i < length kept). subst (λ c. Among c numbers) (sym (get_or_append_left kept (n ∷ []) 0 i below)) (h.among i below))
          (λ (past : length kept ≤ i). let e : length kept ≡ i = omega arith in subst (λ j. Among (get_or (kept ++ n ∷ []) j 0) numbers) e (m, there, sym last))
          (cases_lt i (length kept));
      less = λ i l. ⊎_elim
          (λ (below : i < length kept). subst (λ c. entry_at g entries a c < most) (sym (get_or_append_left kept (n ∷ []) 0 i below)) (h.less i below))
          (λ (past : length kept ≤ i). let e : length kept ≡ i = omega arith in subst (λ j. entry_at g entries a (get_or (kept ++ n ∷ []) j 0) < most) e (subst (λ c. entry_at g entries a c < most) (sym last) small))
          (cases_lt i (length kept));
      all = λ i l few. ⊎_elim
          (λ (below : i < m). let t = h.all i below few in let k = t.1 in (t.0, (let o : t.0 < length (kept ++ n ∷ []) = omega arith in o), get_or_append_left kept (n ∷ []) 0 t.0 t.1 ∙ t.2))
          (λ (past : m ≤ i). let e : m ≡ i = omega arith in (length kept, (let o : length kept < length (kept ++ n ∷ []) = omega arith in o), last ∙ ap (λ j. get_or numbers j 0) e))
          (cases_lt i m);
    }

pub kept_more : (g : Setting) (a most m : ℕ) (entries numbers kept : List ℕ) (wanted : Bool) → m < length numbers → (wanted ≡ true → entry_at g entries a (get_or numbers m 0) < most) → (wanted ≡ false → most ≤ entry_at g entries a (get_or numbers m 0)) → KeptBefore g a most entries numbers m kept → KeptBefore g a most entries numbers (m + 1) (kept ++ (if wanted then get_or numbers m 0 ∷ [] else []))
kept_more g a most m entries numbers kept true there small large h = kept_in g a most m entries numbers kept there (small refl) h
kept_more g a most m entries numbers kept false there little large h =
    subst (KeptBefore g a most entries numbers (m + 1)) (sym (append-nil kept)) (record {
      among = h.among;
      less = h.less;
      all = λ i l small. ⊎_elim
          (λ (below : i < m). h.all i below small)
          (λ (past : m ≤ i). let e : m ≡ i = omega arith in let at = ap (λ j. entry_at g entries a (get_or numbers j 0)) e in let big = large refl in absurd (omega arith))
          (cases_lt i m);
    })

-- Relaxing, one call after another.
use Rattle.std.proofs.Common.{◌≡◌, ◌≢◌, ℕ, suc, ◌+◌, ◌*◌, ◌<◌, ◌≤◌, min, ◌⊎◌, inl, inr, ⊎_elim, Bool, true, false, List, [], ◌∷◌, ◌++◌, length, length-set, length-append, get_or, set, refl, sym, ap, ap₂, ◌∙◌, subst, arith, suc-mul, mul-le-mul_right}
use Rattle.std.specs.Prelude.{if◌then◌else◌}
use Rattle.std.proofs.lemmas.Bool.{cases_lt, cases_eq}
use Rattle.std.proofs.lemmas.List.{get_or-set_same, get_or-set_other, get_or_past, get_or_default, length-map}
use Rattle.pat_words_spec.specs.Words.{plus}
use Rattle.pat_words_spec.specs.Cuts.{cut_at}
use Rattle.pat_words_spec.specs.Tags.{HasTagsBelow}
use Rattle.pat_words_laws.proofs.WordLaws.{word_ext}
use Rattle.pat_inclusion_spec.specs.bounds.CutSets.{IsPoint}
use Rattle.pat_inclusion_spec.specs.bounds.Tables.{Setting, IsSound, IsKnown, Step, StepByOne, StepByTwo, capped}
use Rattle.pat_inclusion_spec.specs.bounds.Numbers.{points_in, point_of, place_of, table_of, unknown, HasAllEntries}
use Rattle.pat_inclusion_laws.proofs.NumberLaws.{number_point, point_number, point_fits, write_steps, write_falls}
use Rattle.pat_inclusion_laws.proofs.TableLaws.{steps_sound}
use Rattle.pat_grid_points.specs.Chains.{noted, from_on}
use Rattle.pat_grid_points.specs.Views.{summed}
use Rattle.pat_grid_points.proofs.Digits.{summed_below as summed_small}
use Rattle.pat_grid_points.specs.symbols.Views.{symbol_view}
use Rattle.pat_grid.specs.declared.tables.board.Board.{Board}
use Rattle.pat_grid.specs.declared.tables.sizes.Sizes.{Sizes}
use Rattle.pat_grid.specs.tables.Views.{setting_of, IsBoard}
use Rattle.pat_grid.specs.tables.Moves.{entry_at, total, IsPlace, Lowers, Moved, PartAt, PartBefore, ListedBefore, AreOthers, PairAt, RowBefore, RowsBefore, HeldBefore, HasLists, Lists}
use Rattle.pat_grid.proofs.Reached.{lists_written, lists_forgotten, from_among, from_within}

-- ---- rows

-- nothing was written
pub lowers_none : (g : Setting) (s : ℕ) (x : List ℕ) → Lowers g s x x
lowers_none g s x = record { elsewhere = λ a c d l. refl; here = λ c l. omega arith }

pub lowers_both : (g : Setting) (s : ℕ) (x y z : List ℕ) → Lowers g s x y → Lowers g s y z → Lowers g s x z
lowers_both g s x y z first second = record {
  elsewhere = λ a c d l. second.elsewhere a c d l ∙ first.elsewhere a c d l;
  here = λ c l. let i = first.here c l in let j = second.here c l in omega arith;
}

-- the row of another symbol, or any row where nothing was written, is what it was
pub same_row : (g : Setting) (s a c : ℕ) (x y : List ℕ) → Lowers g s x y → c < points_in g.bound g.tags → (y ≡ x) ⊎ (a ≡ s → ⊥) → entry_at g y a c ≡ entry_at g x a c
same_row g s a c x y m l o = ⊎_elim (λ e. ap (λ es. entry_at g es a c) e) (λ d. m.elsewhere a c d l) o

-- nothing was done
pub moved_none : (g : Setting) (s : ℕ) (Apart : Type 0) (Claim : List ℕ → Type 0) (old : Sizes) (was : Bool) → Claim old.entries → Moved g s Apart Claim old was old was
moved_none g s Apart Claim old was h = record {
  as_long = refl;
  sound = λ s. s;
  at_most = omega arith;
  falls = λ e. inl e;
  stays = λ e. (e, refl);
  lowers = lowers_none g s old.entries;
  claim = λ e. h;
  lists = λ l. l;
  news = omega arith;
}

-- one after the other; what the first one claims is kept by the second one where the parts are apart
pub moved_both : (g : Setting) (s : ℕ) (Apart : Type 0) (A B C : List ℕ → Type 0) (x y z : Sizes) (a b c : Bool) → Moved g s Apart A x a y b → Moved g s Apart B y b z c → (Apart → Lowers g s y.entries z.entries → A y.entries → A z.entries) → (A z.entries → B z.entries → C z.entries) → Moved g s Apart C x a z c
moved_both g s Apart A B C x y z a b c first second keeps h = record {
  as_long = second.as_long ∙ first.as_long;
  sound = λ s. second.sound (first.sound s);
  at_most = let p = first.at_most in let q = second.at_most in omega arith;
  falls = λ e. ⊎_elim
      (λ f. ⊎_elim (λ k. inl k) (λ l. inr (let q = second.at_most in omega arith)) (first.falls f))
      (λ l. inr (let p = first.at_most in omega arith))
      (second.falls e);
  stays = λ e. let t = second.stays e in let f = first.stays t.0 in (f.0, t.1 ∙ f.1);
  lowers = lowers_both g s x.entries y.entries z.entries first.lowers second.lowers;
  claim = λ e. ⊎_elim
      (λ f. let t = second.stays f in h (subst A (sym t.1) (first.claim (inl t.0))) (second.claim (inl f)))
      (λ p. h (keeps p second.lowers (first.claim (inr p))) (second.claim (inr p)))
      e;
  lists = λ l. second.lists (first.lists l);
  news = let p = first.news in let q = second.news in omega arith;
}

-- what is claimed may be said otherwise, and of parts that are apart in another sense
pub moved_as : (g : Setting) (s : ℕ) (P Q : Type 0) (A B : List ℕ → Type 0) (x y : Sizes) (a b : Bool) → Moved g s P A x a y b → (Q → P) → ((y.entries ≡ x.entries) ⊎ Q → A y.entries → B y.entries) → Moved g s Q B x a y b
moved_as g s P Q A B x y a b m to h = record {
  as_long = m.as_long;
  sound = m.sound;
  at_most = m.at_most;
  falls = m.falls;
  stays = m.stays;
  lowers = m.lowers;
  claim = λ e. ⊎_elim (λ f. h (inl (m.stays f).1) (m.claim (inl f))) (λ q. h (inr q) (m.claim (inr (to q)))) e;
  lists = m.lists;
  news = m.news;
}

-- what was new was forgotten before
pub moved_from : (g : Setting) (s : ℕ) (Apart : Type 0) (Claim : List ℕ → Type 0) (w x y : Sizes) (a b : Bool) → x.entries ≡ w.entries → x.reached ≡ w.reached → x.news ≡ [] → Moved g s Apart Claim x a y b → Moved g s Apart Claim w a y b
moved_from g s Apart Claim w x y a b e f n m = record {
  as_long = m.as_long ∙ ap length e;
  sound = λ k. m.sound (subst (λ es. IsSound g (table_of g es)) (sym e) k);
  at_most = subst (λ es. total y.entries ≤ total es) e m.at_most;
  falls = λ k. ⊎_elim (λ i. inl i) (λ l. inr (subst (λ es. total y.entries < total es) e l)) (m.falls k);
  stays = λ k. let t = m.stays k in (t.0, t.1 ∙ e);
  lowers = subst (λ es. Lowers g s es y.entries) e m.lowers;
  claim = m.claim;
  lists = λ l. m.lists (lists_forgotten g w x e f n l);
  news = let p = subst (λ es. total y.entries + length y.news ≤ total es + length x.news) e m.news in let z = ap length n in omega arith;
}

-- ---- entries

pub entry_within : (g : Setting) (entries : List ℕ) (s c : ℕ) → HasAllEntries g entries → s < length g.flat.symbols → c < points_in g.bound g.tags → s * points_in g.bound g.tags + c < length entries
entry_within g entries s c all l m =
    let grown = mul-le-mul_right (points_in g.bound g.tags) l in
    let one_more = suc-mul s (points_in g.bound g.tags) in
    omega arith

pub entry_past : (g : Setting) (entries : List ℕ) (s c : ℕ) → HasAllEntries g entries → length g.flat.symbols ≤ s → entry_at g entries s c ≡ unknown g.limit
entry_past g entries s c all l =
    let grown = mul-le-mul_right (points_in g.bound g.tags) l in
    get_or_past entries (s * points_in g.bound g.tags + c) (unknown g.limit) (omega arith)

-- the entry at a number is the table's at its point
pub entry_point : (g : Setting) (entries : List ℕ) (s c : ℕ) → c < points_in g.bound g.tags → table_of g entries s (point_of g.bound g.tags c) ≡ entry_at g entries s c
entry_point g entries s c l = ap (entry_at g entries s) (point_number g.bound g.tags c l)

pub symbol_within : (b : Board) (s : ℕ) → s < length b.symbols.now → s < length (setting_of b).flat.symbols
symbol_within b s l = subst (λ x. s < x) (sym (length-map b.symbols.now symbol_view)) l

-- places of other symbols, and of other points of one symbol
place_apart : (p a s c d : ℕ) → a < s → c < p → a * p + c < s * p + d
place_apart p a s c d l m =
    let grown : suc a * p ≤ s * p = mul-le-mul_right p l in
    let more = suc-mul a p in
    omega arith

other_place : (p a s c d : ℕ) → (a ≡ s → ⊥) → c < p → d < p → a * p + c ≢ s * p + d
other_place p a s c d n l m e =
    ⊎_elim
    (λ less. let h = place_apart p a s c d less l in absurd (omega arith))
    (λ ge. ⊎_elim
    (λ greater. let h = place_apart p s a d c greater m in absurd (omega arith))
    (λ le. absurd (n (omega arith)))
    (cases_lt s a))
    (cases_lt a s)

-- an entry at another place stays
pub entry_other : (g : Setting) (entries : List ℕ) (s d size a c : ℕ) → d < points_in g.bound g.tags → c < points_in g.bound g.tags → (a ≡ s → ⊥) ⊎ (c ≡ d → ⊥) → entry_at g (set entries (s * points_in g.bound g.tags + d) size) a c ≡ entry_at g entries a c
entry_other g entries s d size a c l m o =
    get_or-set_other entries (s * points_in g.bound g.tags + d) (a * points_in g.bound g.tags + c) size (unknown g.limit)
    (⊎_elim
    (λ n. other_place (points_in g.bound g.tags) a s c d n m l)
    (λ n. ⊎_elim
    (λ e f. n (let i = ap (λ x. x * points_in g.bound g.tags) e in omega arith))
    (λ n2. other_place (points_in g.bound g.tags) a s c d n2 m l)
    (cases_eq a s))
    o)

lowers_one : (g : Setting) (entries : List ℕ) (s d size : ℕ) → d < points_in g.bound g.tags → s * points_in g.bound g.tags + d < length entries → size ≤ entry_at g entries s d → Lowers g s entries (set entries (s * points_in g.bound g.tags + d) size)
lowers_one g entries s d size l within less = record {
  elsewhere = λ a c n m. entry_other g entries s d size a c l m (inl n);
  here = λ c m. ⊎_elim
      (λ e. let h = ap (λ i. get_or (set entries (s * points_in g.bound g.tags + d) size) (s * points_in g.bound g.tags + i) (unknown g.limit)) e in let same = get_or-set_same entries (s * points_in g.bound g.tags + d) size (unknown g.limit) within in let at = ap (entry_at g entries s) e in omega arith)
      (λ n. let h = entry_other g entries s d size s c l m (inr n) in omega arith)
      (cases_eq c d);
}

-- an entry was lowered, and the number noted where there was no tree
pub lowered : (b : Board) (x y : Sizes) (was wanted : Bool) (s c d size : ℕ) → d ≡ c → IsBoard b → HasAllEntries (setting_of b) x.entries → IsPlace b s c → Step (setting_of b) (table_of (setting_of b) x.entries) s (point_of b.k b.tags c) size → size < get_or x.entries (s * b.points + c) 0 → (wanted ≡ false → get_or x.entries (s * b.points + c) 0 ≤ b.limit + 1) → y.entries ≡ set x.entries (s * b.points + c) size → y.reached ≡ (if wanted then noted x.reached s d else x.reached) → y.news ≡ x.news ++ (c ∷ []) → Moved (setting_of b) s (Unit {0}) (λ es. entry_at (setting_of b) es s c ≤ size) x was y true
lowered b x y was wanted s c d size same board all place step less few written noting news =
    let g = setting_of b in
    let entries = x.entries in
    let m : c < points_in b.k b.tags = subst (λ p. c < p) board.points place.1 in
    let l : s < length g.flat.symbols = symbol_within b s place.0 in
    let u = point_of b.k b.tags c in
    let i = s * b.points + c in
    let at : place_of g s u ≡ i = ap₂ (λ p q. s * p + q) (sym board.points) (point_number b.k b.tags c m) in
    let within : i < length entries = subst (λ p. s * p + c < length entries) (sym board.points) (entry_within g entries s c all l m) in
    let fall : total (set entries i size) < total entries = write_falls entries i size within less in
    let steps = write_steps g entries s u size (point_fits b.k b.tags c) (subst (λ p. p < length entries) (sym at) within) step in
    let here : get_or (set entries i size) (s * points_in b.k b.tags + c) (unknown g.limit) ≡ size =
    ap (λ p. get_or (set entries i size) (s * p + c) (unknown g.limit)) (sym board.points) ∙ get_or-set_same entries i size (unknown g.limit) within in
    let old : get_or entries i 0 ≡ entry_at g entries s c =
    get_or_default entries i 0 (unknown g.limit) within ∙ ap (λ p. get_or entries (s * p + c) (unknown g.limit)) board.points in
    let rows : y.entries ≡ set entries (s * points_in b.k b.tags + c) size = written ∙ ap (λ p. set entries (s * p + c) size) board.points in
    let sum = ap total written in
    record {
      as_long = ap length written ∙ length-set entries i size;
      sound = λ h. subst (λ es. IsSound g (table_of g es)) (sym written) (subst (λ p. IsSound g (table_of g (set entries p size))) at (steps_sound g (table_of g entries) (table_of g (set entries (place_of g s u) size)) h steps));
      at_most = omega arith;
      falls = λ e. inr (omega arith);
      stays = λ e. absurd (cc);
      lowers = subst (Lowers g s entries) (sym rows) (lowers_one g entries s c size m (entry_within g entries s c all l m) (omega arith));
      claim = λ e. let at2 = ap (λ es. entry_at g es s c) written in omega arith;
      lists = λ h. lists_written g x y s c l m (λ a i n o. ap (λ es. entry_at g es a i) rows ∙ entry_other g entries s c size a i m n o) news h wanted (λ e. let f = few e in omega arith) (subst (λ i. y.reached ≡ (if wanted then noted x.reached s i else x.reached)) same noting);
      news = let n = ap length news in let k = length-append x.news (c ∷ []) in omega arith;
    }

-- it wasn't greater
pub not_lowered : (b : Board) (x : Sizes) (was : Bool) (s c size : ℕ) → IsBoard b → HasAllEntries (setting_of b) x.entries → IsPlace b s c → get_or x.entries (s * b.points + c) 0 ≤ size → Moved (setting_of b) s (Unit {0}) (λ es. entry_at (setting_of b) es s c ≤ size) x was x was
not_lowered b x was s c size board all place least =
    let g = setting_of b in
    let entries = x.entries in
    let m : c < points_in b.k b.tags = subst (λ x. c < x) board.points place.1 in
    let within : s * b.points + c < length entries = subst (λ x. s * x + c < length entries) (sym board.points) (entry_within g entries s c all (symbol_within b s place.0) m) in
    moved_none g s (Unit {0}) (λ es. entry_at g es s c ≤ size) x was
    (subst (λ p. get_or entries (s * p + c) (unknown g.limit) ≤ size) board.points
    (subst (λ p. p ≤ size) (get_or_default entries (s * b.points + c) 0 (unknown g.limit) within) least))

-- ---- steps by parts

pub part_step : (g : Setting) (entries : List ℕ) (a c e r : ℕ) → c < points_in g.bound g.tags → e ≡ entry_at g entries a c → e ≤ g.limit + 1 → r ≡ min (e + 1) (g.limit + 1) → StepByOne g (table_of g entries) a (point_of g.bound g.tags c) r
part_step g entries a c e r l h known is =
    let at : table_of g entries a (point_of g.bound g.tags c) ≡ e = entry_point g entries a c l ∙ sym h in
    subst (λ x. IsKnown g.limit x × (r ≡ capped g.limit (suc x))) (sym at) (omega arith, omega arith)

pub pair_step : (g : Setting) (entries : List ℕ) (a b v w e f number r : ℕ) → v < points_in g.bound g.tags → w < points_in g.bound g.tags → e ≡ entry_at g entries a v → f ≡ entry_at g entries b w → e ≤ g.limit + 1 → f ≤ g.limit + 1 → number ≡ summed g.bound g.tags v w → r ≡ min (e + f + 1) (g.limit + 1) → StepByTwo g (table_of g entries) a b (point_of g.bound g.tags v) (point_of g.bound g.tags w) (point_of g.bound g.tags number) r
pair_step g entries a b v w e f number r lv lw he hf ke kf sums is =
    let k = g.bound in
    let n = g.tags in
    let at : table_of g entries a (point_of k n v) ≡ e = entry_point g entries a v lv ∙ sym he in
    let bt : table_of g entries b (point_of k n w) ≡ f = entry_point g entries b w lw ∙ sym hf in
    let both = cut_at k (plus (point_of k n v) (point_of k n w)) in
    let below : HasTagsBelow n both = λ t l. let x = (point_fits k n v).0 t l in let y = (point_fits k n w).0 t l in omega arith in
    let point : IsPoint k n both = (below, word_ext both (cut_at k both) (λ t. omega arith)) in (
      point_fits k n v,
      point_fits k n w,
      subst (IsKnown g.limit) (sym at) (omega arith),
      subst (IsKnown g.limit) (sym bt) (omega arith),
      ap (point_of k n) sums ∙ number_point k n both point,
      is ∙ (let z : min (e + f + 1) (g.limit + 1) ≡ capped g.limit (suc (e + f)) = omega arith in z) ∙ ap₂ (λ x y. capped g.limit (suc (x + y))) (sym at) (sym bt),
    )

-- ---- what was claimed at each turn

pub part_at : (g : Setting) (s a c e r : ℕ) (x y : Sizes) (p q : Bool) → c < points_in g.bound g.tags → e ≡ entry_at g x.entries a c → r ≡ min (e + 1) (g.limit + 1) → Moved g s (Unit {0}) (λ es. entry_at g es s c ≤ r) x p y q → Moved g s (a ≡ s → ⊥) (PartAt g s a c) x p y q
part_at g s a c e r x y p q l h is m =
    moved_as g s (Unit {0}) (a ≡ s → ⊥) (λ es. entry_at g es s c ≤ r) (PartAt g s a c) x y p q m (λ d. tt)
    (λ o least known. let same = same_row g s a c x.entries y.entries m.lowers l o in omega arith)

pub part_unknown : (g : Setting) (s a c e : ℕ) (x : Sizes) (p : Bool) → e ≡ entry_at g x.entries a c → g.limit + 1 < e → Moved g s (a ≡ s → ⊥) (PartAt g s a c) x p x p
part_unknown g s a c e x p h l = moved_none g s (a ≡ s → ⊥) (PartAt g s a c) x p (λ known. absurd (omega arith))

pub pair_at : (g : Setting) (s a b v w e f number r : ℕ) (x y : Sizes) (p q : Bool) → v < points_in g.bound g.tags → w < points_in g.bound g.tags → e ≡ entry_at g x.entries a v → f ≡ entry_at g x.entries b w → number ≡ summed g.bound g.tags v w → r ≡ min (e + f + 1) (g.limit + 1) → Moved g s (Unit {0}) (λ es. entry_at g es s number ≤ r) x p y q → Moved g s (AreOthers a b s) (PairAt g s a b v w) x p y q
pair_at g s a b v w e f number r x y p q lv lw he hf sums is m =
    moved_as g s (Unit {0}) (AreOthers a b s) (λ es. entry_at g es s number ≤ r) (PairAt g s a b v w) x y p q m (λ d. tt)
    (λ o least ka kb.
    let l2 = subst (λ i. entry_at g y.entries s i ≤ r) sums least in
    let one = same_row g s a v x.entries y.entries m.lowers lv (⊎_elim (λ t. inl t) (λ t. inr t.0) o) in
    let other = same_row g s b w x.entries y.entries m.lowers lw (⊎_elim (λ t. inl t) (λ t. inr t.1) o) in
    omega arith)

pub pair_unknown : (g : Setting) (s a b v w : ℕ) (x : Sizes) (p : Bool) → (g.limit + 1 < entry_at g x.entries a v) ⊎ (g.limit + 1 < entry_at g x.entries b w) → Moved g s (AreOthers a b s) (PairAt g s a b v w) x p x p
pair_unknown g s a b v w x p l =
    moved_none g s (AreOthers a b s) (PairAt g s a b v w) x p (λ ka kb. ⊎_elim (λ h. absurd (omega arith)) (λ h. absurd (omega arith)) l)

-- ---- what is claimed is kept where the row of s falls and the parts are apart

pub part_kept : (g : Setting) (s a c : ℕ) (y z : List ℕ) → c < points_in g.bound g.tags → (a ≡ s → ⊥) → Lowers g s y z → PartAt g s a c y → PartAt g s a c z
part_kept g s a c y z l d m h known =
    let same = m.elsewhere a c d l in
    let less = m.here c l in
    let old = h (subst (IsKnown g.limit) same known) in
    omega arith

pub parts_kept : (g : Setting) (s a m : ℕ) (y z : List ℕ) → m ≤ points_in g.bound g.tags → (a ≡ s → ⊥) → Lowers g s y z → PartBefore g s a m y → PartBefore g s a m z
parts_kept g s a m y z l d lowers h c k = part_kept g s a c y z (omega arith) d lowers (h c k)

pub listed_kept : (g : Setting) (s a m : ℕ) (numbers y z : List ℕ) → ((i : ℕ) → i < m → get_or numbers i 0 < points_in g.bound g.tags) → (a ≡ s → ⊥) → Lowers g s y z → ListedBefore g s a numbers m y → ListedBefore g s a numbers m z
listed_kept g s a m numbers y z l d lowers h i k = part_kept g s a (get_or numbers i 0) y z (l i k) d lowers (h i k)

pub pair_kept : (g : Setting) (s a b v w : ℕ) (y z : List ℕ) → v < points_in g.bound g.tags → w < points_in g.bound g.tags → AreOthers a b s → Lowers g s y z → PairAt g s a b v w y → PairAt g s a b v w z
pair_kept g s a b v w y z lv lw d m h ka kb =
    let one = m.elsewhere a v d.0 lv in
    let other = m.elsewhere b w d.1 lw in
    let less = m.here (summed g.bound g.tags v w) (summed_small g.bound g.tags v w) in
    let old = h (subst (IsKnown g.limit) one ka) (subst (IsKnown g.limit) other kb) in
    omega arith

pub row_kept : (g : Setting) (s a b v m : ℕ) (seconds y z : List ℕ) → v < points_in g.bound g.tags → ((j : ℕ) → j < m → get_or seconds j 0 < points_in g.bound g.tags) → AreOthers a b s → Lowers g s y z → RowBefore g s a b v seconds m y → RowBefore g s a b v seconds m z
row_kept g s a b v m seconds y z lv ls d lowers h j k =
    pair_kept g s a b v (get_or seconds j 0) y z lv (ls j k) d lowers (h j k)

pub rows_kept : (g : Setting) (s a b m : ℕ) (firsts seconds y z : List ℕ) → ((i : ℕ) → i < m → get_or firsts i 0 < points_in g.bound g.tags) → ((j : ℕ) → j < length seconds → get_or seconds j 0 < points_in g.bound g.tags) → AreOthers a b s → Lowers g s y z → RowsBefore g s a b firsts seconds m y → RowsBefore g s a b firsts seconds m z
rows_kept g s a b m firsts seconds y z lf ls d lowers h i k =
    row_kept g s a b (get_or firsts i 0) (length seconds) seconds y z (lf i k) ls d lowers (h i k)

pub held_kept : (g : Setting) (s m : ℕ) (held : List Bool) (y z : List ℕ) → m ≤ points_in g.bound g.tags → Lowers g s y z → HeldBefore g s held m y → HeldBefore g s held m z
held_kept g s m held y z l lowers h c k is =
    let less = lowers.here c (omega arith) in
    let old = h c k is in
    omega arith

-- claims of the first m, and of one more
pub before_none : (P : ℕ → Type 0) (c : ℕ) → c < 0 → P c
before_none P c l = absurd (omega arith)

pub before_more : (P : ℕ → Type 0) (m : ℕ) → ((c : ℕ) → c < m → P c) → P m → (c : ℕ) → c < m + 1 → P c
before_more P m before here c l =
    ⊎_elim (λ h. before c h) (λ h. let e : m ≡ c = omega arith in subst P e here) (cases_lt c m)

-- ---- lists of numbers

-- the list of a symbol, from a number on
pub known_listed : (b : Board) (x : Sizes) (s from : ℕ) (numbers : List ℕ) → IsBoard b → HasAllEntries (setting_of b) x.entries → HasLists (setting_of b) x → numbers ≡ from_on from (get_or x.reached s []) → Lists (λ c. IsKnown (setting_of b).limit (entry_at (setting_of b) x.entries s c)) from b.points numbers
known_listed b x s from numbers board all lists e =
    let g = setting_of b in
    let points = board.points in
    subst (Lists (λ c. IsKnown g.limit (entry_at g x.entries s c)) from b.points) (sym e) (record {
      within = from_within from b.points (get_or x.reached s []) (λ i l. let w = lists.within s i l in omega arith);
      all = λ c l m known. ⊎_elim
          (λ there. from_among from c (get_or x.reached s []) l (lists.all s c there (omega arith) known))
          (λ past. let f = entry_past g x.entries s c all past in absurd (omega arith))
          (cases_lt s (length g.flat.symbols));
    })

-- where the part has no tree, nothing is claimed
pub listed_whole : (b : Board) (s a : ℕ) (numbers : List ℕ) (x y : Sizes) (p q : Bool) → IsBoard b → Lists (λ c. IsKnown (setting_of b).limit (entry_at (setting_of b) x.entries a c)) 0 b.points numbers → Moved (setting_of b) s (a ≡ s → ⊥) (ListedBefore (setting_of b) s a numbers (length numbers)) x p y q → Moved (setting_of b) s (a ≡ s → ⊥) (PartBefore (setting_of b) s a b.points) x p y q
listed_whole b s a numbers x y p q board lists m =
    let g = setting_of b in
    moved_as g s (a ≡ s → ⊥) (a ≡ s → ⊥) (ListedBefore g s a numbers (length numbers)) (PartBefore g s a b.points) x y p q m (λ d. d)
    (λ o before c l known.
    let same = same_row g s a c x.entries y.entries m.lowers (let e = board.points in omega arith) o in
    let i = lists.all c (omega arith) l (subst (IsKnown g.limit) same known) in
    subst (λ d. PartAt g s a d y.entries) i.2 (before i.0 i.1) known)

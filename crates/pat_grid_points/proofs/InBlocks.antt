-- Lists most of whose items are the same, as blocks.
use Rattle.std.proofs.Common.{◌≡◌, ℕ, zero, suc, ◌+◌, ◌*◌, ◌-◌, ◌/◌, ◌%◌, ◌^◌, ◌<◌, ◌≤◌, ◌⊎◌, inl, inr, ⊎_elim, List, ◌∷◌, length, length-set, get_or, set, replicate, take, ◌++◌, refl, sym, ap, ap₂, ◌∙◌, subst, arith}
use Rattle.std.proofs.lemmas.Bool.{cases_eq, cases_lt}
use Rattle.std.proofs.lemmas.List.{get_or-set_same, get_or-set_other, get_or-replicate, length-replicate, get_or_past, get_or_default, get_or_append_left, get_or-append-add, get_or-take, length-append, length-take-le}
use Rattle.pat_grid_points.specs.Sparse.{by_places, spot, sparse, AreBlocks, IsFilled}
use Rattle.pat_grid_points.proofs.Digits.{zero_at}

-- ---- lists by places

by_at : {A : Type 0} (n : ℕ) (f : ℕ → A) (i : ℕ) (d : A) → i < n → get_or (by_places n f) i d ≡ f i
by_at zero f i d l = absurd (omega arith)
by_at (suc n) f zero d l = refl
by_at (suc n) f (suc i) d l = by_at n (λ j. f (suc j)) i d (omega arith)

by_length : {A : Type 0} (n : ℕ) (f : ℕ → A) → length (by_places n f) ≡ n
by_length zero f = refl
by_length (suc n) f = ap suc (by_length n (λ j. f (suc j)))

by_same : {A : Type 0} (n : ℕ) (f g : ℕ → A) → ((i : ℕ) → i < n → f i ≡ g i) → by_places n f ≡ by_places n g
by_same zero f g h = refl
by_same (suc n) f g h =
    ap₂ (λ x xs. x ∷ xs) (h 0 (omega arith)) (by_same n (λ j. f (suc j)) (λ j. g (suc j)) (λ i l. h (suc i) (omega arith)))

by_one : {A : Type 0} (n : ℕ) (f : ℕ → A) (x : A) → ((i : ℕ) → f i ≡ x) → by_places n f ≡ replicate n x
by_one zero f x h = refl
by_one (suc n) f x h = ap₂ (λ y ys. y ∷ ys) (h 0) (by_one n (λ j. f (suc j)) x (λ i. h (suc i)))

by_set : {A : Type 0} (n : ℕ) (f g : ℕ → A) (i : ℕ) (x : A) → i < n → g i ≡ x → ((j : ℕ) → j < n → (j ≡ i → ⊥) → g j ≡ f j) → by_places n g ≡ set (by_places n f) i x
by_set zero f g i x l e h = absurd (omega arith)
by_set (suc n) f g zero x l e h =
    ap₂ (λ y ys. y ∷ ys) e
    (by_same n (λ j. g (suc j)) (λ j. f (suc j)) (λ j m. h (suc j) (omega arith) (λ z. absurd (omega arith))))
by_set (suc n) f g (suc i) x l e h =
    ap₂ (λ y ys. y ∷ ys) (h 0 (omega arith) (λ z. absurd (omega arith)))
    (by_set n (λ j. f (suc j)) (λ j. g (suc j)) i x (omega arith) e (λ j m d. h (suc j) (omega arith) (λ z. d (omega arith))))

-- ---- the list of blocks

pub spot_in : {A : Type 0} (count : ℕ) (common : A) (starts : List ℕ) (blocks : List A) (i : ℕ) → AreBlocks count common starts blocks → spot starts i < length blocks
spot_in count common starts blocks i h = let w = h.within (i / 16) in omega arith

-- what is read of the list that the blocks stand for
module _ {A : Type 0} (count : ℕ) (common : A) (starts : List ℕ) (blocks : List A) (list : List A) (h : AreBlocks count common starts blocks) (is : sparse count common starts blocks ≡ list) where
  pub list_count : count ≡ length list
  list_count = sym (by_length count (λ i. get_or blocks (spot starts i) common)) ∙ ap length is

  pub list_block : (i : ℕ) → i < length list → i / 16 < length starts
  list_block i l = let m = h.as_many in let n = list_count in omega arith

  pub list_at : (i : ℕ) (d e : A) → i < length list → get_or list i d ≡ get_or blocks (spot starts i) e
  list_at i d e l =
      let n = list_count in
      ap (λ xs. get_or xs i d) (sym is)
      ∙ by_at count (λ j. get_or blocks (spot starts j) common) i d (omega arith)
      ∙ get_or_default blocks (spot starts i) common e (spot_in count common starts blocks i h)

  -- as far as the items of a block are the same, so are those of the list
  pub list_run : (place run start : ℕ) (items : List A) → get_or starts (place / 16) 0 ≡ start → items ≡ blocks → (start * 16 + place % 16) + run ≤ (start * 16 + place % 16) / 16 * 16 + 16 → ((i : ℕ) (d : A) → start * 16 + place % 16 ≤ i → i < (start * 16 + place % 16) + run → get_or items i d ≡ get_or items (start * 16 + place % 16) d) → (i : ℕ) (d : A) → place ≤ i → i < place + run → i < length list → get_or list i d ≡ get_or list place d
  list_run place run start items e same within same_run i d l m room =
      let from = start * 16 + place % 16 in
      let block : i / 16 ≡ place / 16 = omega arith in
      let of_block = ap (λ a. get_or starts a 0) block ∙ e in
      let at : spot starts i ≡ from + (i - place) = omega arith in
      let here : from ≡ spot starts place = omega arith in
      list_at i d d room
      ∙ ap (λ p. get_or blocks p d) at
      ∙ ap (λ xs. get_or xs (from + (i - place)) d) (sym same)
      ∙ same_run (from + (i - place)) d (omega arith) (omega arith)
      ∙ ap (λ xs. get_or xs from d) same
      ∙ ap (λ p. get_or blocks p d) here
      ∙ sym (list_at place d d (omega arith))

-- in a block without items of its own
plain_at : {A : Type 0} (count : ℕ) (common : A) (starts : List ℕ) (blocks : List A) (i : ℕ) → AreBlocks count common starts blocks → get_or starts (i / 16) 0 ≡ 0 → get_or blocks (spot starts i) common ≡ common
plain_at count common starts blocks i h e =
    let is : i % 16 ≡ spot starts i = omega arith in
    subst (λ p. get_or blocks p common ≡ common) is (h.shared (i % 16) (omega arith))

one_at : {A : Type 0} (n i : ℕ) (x : A) → get_or (replicate n x) i x ≡ x
one_at n i x =
    ⊎_elim (λ l. get_or-replicate n i x x l)
    (λ l. get_or_past (replicate n x) i x (subst (λ j. j ≤ i) (sym (length-replicate n x)) l))
    (cases_lt i n)

pub repeated : {A : Type 0} (count : ℕ) (common : A) → count < 2 ^ 64 → AreBlocks count common (replicate (count / 16 + 1) 0) (replicate 16 common)
repeated count common fits = record {
  fits = fits;
  as_many = length-replicate (count / 16 + 1) 0;
  whole = refl;
  within = λ a. let z = zero_at (count / 16 + 1) a in omega arith;
  shared = λ i l. one_at 16 i common;
  apart = λ a b e. inr (zero_at (count / 16 + 1) a);
}

pub repeats : {A : Type 0} (count : ℕ) (common : A) → sparse count common (replicate (count / 16 + 1) 0) (replicate 16 common) ≡ replicate count common
repeats count common =
    by_one count (λ i. get_or (replicate 16 common) (spot (replicate (count / 16 + 1) 0) i) common) common
    (λ i. one_at 16 (spot (replicate (count / 16 + 1) 0) i) common)

-- up to a block with items of its own all items are the common one
pub list_same : {A : Type 0} (count : ℕ) (common : A) (starts : List ℕ) (blocks list : List A) → AreBlocks count common starts blocks → sparse count common starts blocks ≡ list → (place to : ℕ) (d : A) → get_or starts (place / 16) 0 ≡ 0 → ((a : ℕ) → place / 16 < a → a * 16 < to → get_or starts a 0 ≡ 0) → to ≤ count → (i : ℕ) → place ≤ i → i < to → get_or list i d ≡ get_or list place d
list_same count common starts blocks list h is place to d e none within i l m =
    let n = list_count count common starts blocks list h is in
    list_at count common starts blocks list h is i d common (omega arith)
    ∙ plain_at count common starts blocks i h zero_there
    ∙ sym (plain_at count common starts blocks place h e)
    ∙ sym (list_at count common starts blocks list h is place d common (omega arith))
  where
    zero_there : get_or starts (i / 16) 0 ≡ 0
    zero_there =
        ⊎_elim (λ same. ap (λ a. get_or starts a 0) same ∙ e) (λ other. none (i / 16) (omega arith) (omega arith))
        (cases_eq (i / 16) (place / 16))

-- ---- a block begun

-- the blocks, and one more that is as the first
pub record Grown {A : Type 0} (common : A) (old new : List A) : Type 0 where
  pub longer : length new ≡ length old + 16
  pub kept : (i : ℕ) → i < length old → get_or new i common ≡ get_or old i common
  pub more : (i : ℕ) → i < 16 → get_or new (length old + i) common ≡ get_or old i common

module _ {A : Type 0} (count : ℕ) (common : A) (starts : List ℕ) (old new : List A) (b : ℕ) (h : AreBlocks count common starts old) (room : b < length starts) (none : get_or starts b 0 ≡ 0) (g : Grown common old new) where
  abbrev start : ℕ
  start = length old / 16

  abbrev begun_starts : List ℕ
  begun_starts = set starts b start

  here : get_or begun_starts b 0 ≡ start
  here = get_or-set_same starts b start 0 room

  there : (a : ℕ) → (a ≡ b → ⊥) → get_or begun_starts a 0 ≡ get_or starts a 0
  there a d = get_or-set_other starts b a start 0 d

  at : (a : ℕ) → a ≡ b → get_or begun_starts a 0 ≡ start
  at a e = ap (λ i. get_or begun_starts i 0) e ∙ here

  within_all : (a : ℕ) → get_or begun_starts a 0 * 16 + 16 ≤ length new
  within_all a =
      let longer = g.longer in
      let whole = h.whole in
      ⊎_elim (λ e. let i = at a e in omega arith) (λ d. let i = there a d in let w = h.within a in omega arith) (cases_eq a b)

  apart_all : (a c : ℕ) → get_or begun_starts a 0 ≡ get_or begun_starts c 0 → (a ≡ c) ⊎ (get_or begun_starts a 0 ≡ 0)
  apart_all a c e =
      let whole = h.whole in
      ⊎_elim
      (λ ea. ⊎_elim
      (λ ec. inl (ea ∙ sym ec))
      (λ dc. let i = at a ea in let j = there c dc in let w = h.within c in absurd (omega arith))
      (cases_eq c b))
      (λ da. ⊎_elim
      (λ ec. let i = there a da in let j = at c ec in let w = h.within a in absurd (omega arith))
      (λ dc. ⊎_elim (λ same. inl same) (λ z. inr (there a da ∙ z)) (h.apart a c (sym (there a da) ∙ e ∙ there c dc)))
      (cases_eq c b))
      (cases_eq a b)

  pub begun : AreBlocks count common begun_starts new
  begun =
      let longer = g.longer in
      let whole = h.whole in
      record {
        fits = h.fits;
        as_many = length-set starts b start ∙ h.as_many;
        whole = omega arith;
        within = within_all;
        shared = λ i l. let w = h.within 0 in g.kept i (omega arith) ∙ h.shared i l;
        apart = apart_all;
      }

  pub begun_same : sparse count common begun_starts new ≡ sparse count common starts old
  begun_same =
      by_same count (λ i. get_or new (spot begun_starts i) common) (λ i. get_or old (spot starts i) common)
      (λ i l. ⊎_elim (λ e. own i e) (λ d. other i d) (cases_eq (i / 16) b))
    where
      own : (i : ℕ) → i / 16 ≡ b → get_or new (spot begun_starts i) common ≡ get_or old (spot starts i) common
      own i e =
          let whole = h.whole in
          let s = at (i / 16) e in
          let z : get_or starts (i / 16) 0 ≡ 0 = ap (λ a. get_or starts a 0) e ∙ none in
          let is : spot begun_starts i ≡ length old + i % 16 = omega arith in
          ap (λ p. get_or new p common) is ∙ g.more (i % 16) (omega arith) ∙ h.shared (i % 16) (omega arith)
          ∙ sym (plain_at count common starts old i h z)

      other : (i : ℕ) → (i / 16 ≡ b → ⊥) → get_or new (spot begun_starts i) common ≡ get_or old (spot starts i) common
      other i d =
          ap (λ s. get_or new (s * 16 + i % 16) common) (there (i / 16) d)
          ∙ g.kept (spot starts i) (spot_in count common starts old i h)

  pub begun_there : get_or begun_starts b 0 ≡ 0 → ⊥
  begun_there e = let i = here in let whole = h.whole in let w = h.within 0 in absurd (omega arith)

-- ---- an item written

module _ {A : Type 0} (count : ℕ) (common : A) (starts : List ℕ) (blocks : List A) (place : ℕ) (x : A) (h : AreBlocks count common starts blocks) (own : get_or starts (place / 16) 0 ≡ 0 → ⊥) where
  abbrev wrote : List A
  wrote = set blocks (spot starts place) x

  positive : 1 ≤ get_or starts (place / 16) 0
  positive = ⊎_elim (λ l. absurd (own (omega arith))) (λ l. l) (cases_lt (get_or starts (place / 16) 0) 1)

  longs : length wrote ≡ length blocks
  longs = length-set blocks (spot starts place) x

  pub written : AreBlocks count common starts wrote
  written =
      let same = longs in
      let some = positive in
      let whole = h.whole in
      record {
        fits = h.fits;
        as_many = h.as_many;
        whole = subst (λ n. n / 16 * 16 ≡ n) (sym same) whole;
        within = λ a. let w = h.within a in omega arith;
        shared = λ i l. get_or-set_other blocks (spot starts place) i x common (λ e. absurd (omega arith)) ∙ h.shared i l;
        apart = h.apart;
      }

  pub written_set : place < count → sparse count common starts wrote ≡ set (sparse count common starts blocks) place x
  written_set l =
      by_set count (λ i. get_or blocks (spot starts i) common) (λ i. get_or wrote (spot starts i) common) place x l
      (get_or-set_same blocks (spot starts place) x common (spot_in count common starts blocks place h))
      (λ j m d. get_or-set_other blocks (spot starts place) (spot starts j) x common (λ e. d (one j e)))
    where
      one : (j : ℕ) → spot starts j ≡ spot starts place → j ≡ place
      one j e =
          let starts_same : get_or starts (j / 16) 0 ≡ get_or starts (place / 16) 0 = omega arith in
          ⊎_elim (λ same. omega arith) (λ z. absurd (own (sym starts_same ∙ z))) (h.apart (j / 16) (place / 16) starts_same)

-- ---- a run of items written

pub filled_none : {A : Type 0} (from : ℕ) (x : A) (xs : List A) → IsFilled from 0 x xs xs
filled_none from x xs = record { as_long = refl; here = λ i d l m. absurd (omega arith); elsewhere = λ i d o. refl }

pub filled_more : {A : Type 0} (from n m : ℕ) (x : A) (old mid new : List A) → IsFilled from n x old mid → IsFilled (from + n) m x mid new → IsFilled from (n + m) x old new
filled_more from n m x old mid new f g = record {
  as_long = g.as_long ∙ f.as_long;
  here = λ i d l k. ⊎_elim
      (λ (less : i < from + n). g.elsewhere i d (inl less) ∙ f.here i d l less)
      (λ (past : from + n ≤ i). g.here i d past (omega arith))
      (cases_lt i (from + n));
  elsewhere = λ i d o.
      g.elsewhere i d (⊎_elim (λ l. inl (omega arith)) (λ l. inr (omega arith)) o)
      ∙ f.elsewhere i d (⊎_elim (λ l. inl l) (λ l. inr (omega arith)) o);
}

pub filled_one : {A : Type 0} (place : ℕ) (x : A) (old new : List A) → place < length old → new ≡ set old place x → IsFilled place 1 x old new
filled_one place x old new room e =
    subst (IsFilled place 1 x old) (sym e) (record {
      as_long = length-set old place x;
      here = λ i d l m. let is : place ≡ i = omega arith in subst (λ j. get_or (set old place x) j d ≡ x) is (get_or-set_same old place x d room);
      elsewhere = λ i d o. get_or-set_other old place i x d (λ same. ⊎_elim (λ l. absurd (omega arith)) (λ l. absurd (omega arith)) o);
    })

module _ {A : Type 0} (count : ℕ) (common : A) (starts : List ℕ) (blocks new : List A) (place n : ℕ) (x : A) (h : AreBlocks count common starts blocks) (own : get_or starts (place / 16) 0 ≡ 0 → ⊥) (within : place % 16 + n ≤ 16) (f : IsFilled (spot starts place) n x blocks new) where
  some_start : 1 ≤ get_or starts (place / 16) 0
  some_start = ⊎_elim (λ l. absurd (own (omega arith))) (λ l. l) (cases_lt (get_or starts (place / 16) 0) 1)

  pub run_blocks : AreBlocks count common starts new
  run_blocks =
      let same = f.as_long in
      let some = some_start in
      let whole = h.whole in
      record {
        fits = h.fits;
        as_many = h.as_many;
        whole = subst (λ m. m / 16 * 16 ≡ m) (sym same) whole;
        within = λ a. let w = h.within a in omega arith;
        shared = λ i l. f.elsewhere i common (inl (omega arith)) ∙ h.shared i l;
        apart = h.apart;
      }

  pub run_filled : place + n ≤ count → IsFilled place n x (sparse count common starts blocks) (sparse count common starts new)
  run_filled room = record {
    as_long = by_length count (λ i. get_or new (spot starts i) common) ∙ sym (by_length count (λ i. get_or blocks (spot starts i) common));
    here = λ i d l m.
        let block : i / 16 ≡ place / 16 = omega arith in
        let same = ap (λ a. get_or starts a 0) block in
        by_at count (λ j. get_or new (spot starts j) common) i d (omega arith)
        ∙ f.here (spot starts i) common (omega arith) (omega arith);
    elsewhere = λ i d o. ⊎_elim
        (λ (l : i < count).
        by_at count (λ j. get_or new (spot starts j) common) i d l
        ∙ f.elsewhere (spot starts i) common (other i l o)
        ∙ sym (by_at count (λ j. get_or blocks (spot starts j) common) i d l))
        (λ (l : count ≤ i).
        get_or_past (sparse count common starts new) i d (let e = by_length count (λ j. get_or new (spot starts j) common) in omega arith)
        ∙ sym (get_or_past (sparse count common starts blocks) i d (let e = by_length count (λ j. get_or blocks (spot starts j) common) in omega arith)))
        (cases_lt i count);
  }
    where
      apart_blocks : (i : ℕ) → (i / 16 ≡ place / 16 → ⊥) → get_or starts (i / 16) 0 ≡ get_or starts (place / 16) 0 → ⊥
      apart_blocks i d e = ⊎_elim (λ same. d same) (λ z. own (sym e ∙ z)) (h.apart (i / 16) (place / 16) e)

      other : (i : ℕ) → i < count → (i < place) ⊎ (place + n ≤ i) → (spot starts i < spot starts place) ⊎ (spot starts place + n ≤ spot starts i)
      other i l o = ⊎_elim
          (λ (same : i / 16 ≡ place / 16).
          let e = ap (λ a. get_or starts a 0) same in
          ⊎_elim (λ less. inl (omega arith)) (λ past. inr (omega arith)) o)
          (λ differs.
          let d = apart_blocks i differs in
          ⊎_elim
          (λ (less : get_or starts (i / 16) 0 < get_or starts (place / 16) 0). inl (omega arith))
          (λ (past : get_or starts (place / 16) 0 ≤ get_or starts (i / 16) 0).
          ⊎_elim (λ eq. absurd (d eq)) (λ ne. inr (omega arith)) (cases_eq (get_or starts (i / 16) 0) (get_or starts (place / 16) 0)))
          (cases_lt (get_or starts (i / 16) 0) (get_or starts (place / 16) 0)))
          (cases_eq (i / 16) (place / 16))

-- a copy of the first block at the end
pub grown : {A : Type 0} (common : A) (old new : List A) → 16 ≤ length old → new ≡ old ++ take 16 old → Grown common old new
grown common old new l e = record {
  longer = ap length e ∙ length-append old (take 16 old) ∙ ap (λ n. length old + n) (length-take-le 16 old l);
  kept = λ i m. ap (λ xs. get_or xs i common) e ∙ get_or_append_left old (take 16 old) common i m;
  more = λ i m.
      ap (λ xs. get_or xs (length old + i) common) e
      ∙ get_or-append-add old (take 16 old) i common
      ∙ get_or-take 16 old i common m;
}

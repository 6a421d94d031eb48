-- Numbers of the items that pass a test: they ascend, each is that of such an item, and each such item has one.
use Rattle.std.proofs.Common.{◌≡◌, ℕ, zero, suc, ◌+◌, ◌<◌, ◌≤◌, Bool, true, false, if◌then◌else◌, List, [], ◌∷◌, ◌++◌, length, Option, Some, None, ⊎_elim, refl, sym, ap, ◌∙◌, subst, arith}
use Rattle.std.specs.Prelude.{nat_eq, get_or, map, slice_get, drop}
use Rattle.std.proofs.lemmas.Bool.{cases_eq, eq-eqb, ne_eqb, cond-true, cond-false}
use Rattle.std.proofs.lemmas.List.{append-nil, append_assoc, length-set, get_or-set_same, get_or-set_other, get_or_default, drop_more, drop_all}
use Rattle.pat_solve_bounds.specs.lower_bounds.Rows.{numbers, is_key, put_at, put_key, put_all}

-- ---- each number is one of an item that passes

pub record IsNumbered {A : Type 0} (test : A → Bool) (n : ℕ) (xs : List A) (k : ℕ) : Type 0 where
  pub place : ℕ
  pub item : A
  pub number : k ≡ n + place
  pub at : slice_get xs place ≡ Some item
  pub passes : test item ≡ true

numbered_behind : {A : Type 0} (test : A → Bool) (n : ℕ) (x : A) (xs : List A) (k : ℕ) → IsNumbered test (suc n) xs k → IsNumbered test n (x ∷ xs) k
numbered_behind test n x xs k h = record {
  place = suc h.place;
  item = h.item;
  number = let e = h.number in omega arith;
  at = h.at;
  passes = h.passes;
}

pub numbers_are : {A : Type 0} (test : A → Bool) (n : ℕ) (xs : List A) (j : ℕ) → j < length (numbers test n xs) → IsNumbered test n xs (get_or (numbers test n xs) j 0)
numbers_are test n [] j l = absurd (omega arith)
numbers_are test n (x ∷ xs) j l = go (test x) refl j l (numbers_are test (suc n) xs)
  where
    go : (b : Bool) → test x ≡ b → (i : ℕ) → i < length (if b then n ∷ numbers test (suc n) xs else numbers test (suc n) xs) → ((m : ℕ) → m < length (numbers test (suc n) xs) → IsNumbered test (suc n) xs (get_or (numbers test (suc n) xs) m 0)) → IsNumbered test n (x ∷ xs) (get_or (if b then n ∷ numbers test (suc n) xs else numbers test (suc n) xs) i 0)
    go true e zero h later = record { place = 0; item = x; number = omega arith; at = refl; passes = e }
    go true e (suc i) h later =
        numbered_behind test n x xs (get_or (numbers test (suc n) xs) i 0) (later i (omega arith))
    go false e i h later = numbered_behind test n x xs (get_or (numbers test (suc n) xs) i 0) (later i h)

-- ---- each such item has a number

pub record HasNumber (ns : List ℕ) (k : ℕ) : Type 0 where
  pub place : ℕ
  pub within : place < length ns
  pub is : get_or ns place 0 ≡ k

pub numbers_have : {A : Type 0} (test : A → Bool) (n : ℕ) (xs : List A) (m : ℕ) (x : A) → slice_get xs m ≡ Some x → test x ≡ true → HasNumber (numbers test n xs) (n + m)
numbers_have test n [] m x h t = cc
numbers_have test n (y ∷ ys) zero x h t =
    let same : y ≡ x = cc in
    let passes : test y ≡ true = ap test same ∙ t in
    subst (λ ns. HasNumber ns (n + 0)) (sym (cond-true (test y) (n ∷ numbers test (suc n) ys) (numbers test (suc n) ys) passes))
    (record { place = 0; within = omega arith; is = omega arith })
numbers_have test n (y ∷ ys) (suc m) x h t = go (test y) (numbers_have test (suc n) ys m x h t)
  where
    go : (b : Bool) → HasNumber (numbers test (suc n) ys) (suc n + m) → HasNumber (if b then n ∷ numbers test (suc n) ys else numbers test (suc n) ys) (n + suc m)
    go true l = record { place = suc l.place; within = let w = l.within in omega arith; is = let e = l.is in omega arith }
    go false l = record { place = l.place; within = l.within; is = let e = l.is in omega arith }

-- ---- they ascend

pub numbers_ascend : {A : Type 0} (test : A → Bool) (n : ℕ) (xs : List A) (i j : ℕ) → i < j → j < length (numbers test n xs) → get_or (numbers test n xs) i 0 < get_or (numbers test n xs) j 0
numbers_ascend test n [] i j l h = absurd (omega arith)
numbers_ascend test n (x ∷ xs) i j l h = go (test x) i j l h (numbers_ascend test (suc n) xs)
  where
    go : (b : Bool) (a c : ℕ) → a < c → c < length (if b then n ∷ numbers test (suc n) xs else numbers test (suc n) xs) → ((a c : ℕ) → a < c → c < length (numbers test (suc n) xs) → get_or (numbers test (suc n) xs) a 0 < get_or (numbers test (suc n) xs) c 0) → get_or (if b then n ∷ numbers test (suc n) xs else numbers test (suc n) xs) a 0 < get_or (if b then n ∷ numbers test (suc n) xs else numbers test (suc n) xs) c 0
    go true zero zero l h later = absurd (omega arith)
    go true zero (suc c) l h later =
        let e = (numbers_are test (suc n) xs c (omega arith)).number in omega arith
    go true (suc a) zero l h later = absurd (omega arith)
    go true (suc a) (suc c) l h later = later a c (omega arith) (omega arith)
    go false a c l h later = later a c l h

-- ---- by what is seen of the items

pub numbers_map : {A B : Type 0} (see : A → B) (test : B → Bool) (n : ℕ) (xs : List A) → numbers (λ x. test (see x)) n xs ≡ numbers test n (map see xs)
numbers_map see test n [] = refl
numbers_map see test n (x ∷ xs) =
    ap (λ r. if test (see x) then n ∷ r else r) (numbers_map see test (suc n) xs)

-- ---- rows by key

put_length : {A : Type 0} (rows : List (List A)) (k : Option ℕ) (x : A) → length (put_key rows k x) ≡ length rows
put_length rows None x = refl
put_length rows (Some r) x = length-set rows r (get_or rows r [] ++ x ∷ [])

pub all_length : {A : Type 0} (key : A → Option ℕ) (n : ℕ) (xs : List A) (rows : List (List ℕ)) → length (put_all key n xs rows) ≡ length rows
all_length key n [] rows = refl
all_length key n (x ∷ xs) rows =
    all_length key (suc n) xs (put_key rows (key x) n) ∙ put_length rows (key x) n

row_more : (rows : List (List ℕ)) (k : Option ℕ) (i n : ℕ) (rest : List ℕ) → i < length rows → get_or (put_key rows k n) i [] ++ rest ≡ get_or rows i [] ++ (if is_key i k then n ∷ rest else rest)
row_more rows None i n rest l = refl
row_more rows (Some r) i n rest l =
    ⊎_elim
    (λ (e : i ≡ r).
    let b : nat_eq r i ≡ true = eq-eqb r i (sym e) in
    let here : get_or (put_at rows r n) i [] ≡ get_or rows r [] ++ n ∷ [] =
    subst (λ j. get_or (put_at rows r n) j [] ≡ get_or rows r [] ++ n ∷ []) (sym e)
    (get_or-set_same rows r (get_or rows r [] ++ n ∷ []) [] (subst (λ j. j < length rows) e l)) in
    ap (λ own. own ++ rest) here
    ∙ append_assoc (get_or rows r []) (n ∷ []) rest
    ∙ ap (λ j. get_or rows j [] ++ (n ∷ rest)) (sym e)
    ∙ ap (λ more. get_or rows i [] ++ more) (sym (cond-true (nat_eq r i) (n ∷ rest) rest b)))
    (λ (e : i ≡ r → ⊥).
    ap (λ own. own ++ rest) (get_or-set_other rows r i (get_or rows r [] ++ n ∷ []) [] e)
    ∙ ap (λ more. get_or rows i [] ++ more) (sym (cond-false (nat_eq r i) (n ∷ rest) rest (ne_eqb r i (λ q. e (sym q))))))
    (cases_eq i r)

pub row_is : {A : Type 0} (key : A → Option ℕ) (i n : ℕ) (xs : List A) (rows : List (List ℕ)) → i < length rows → get_or (put_all key n xs rows) i [] ≡ get_or rows i [] ++ numbers (λ x. is_key i (key x)) n xs
row_is key i n [] rows l = sym (append-nil (get_or rows i []))
row_is key i n (x ∷ xs) rows l =
    row_is key i (suc n) xs (put_key rows (key x) n) (subst (λ m. i < m) (sym (put_length rows (key x) n)) l)
    ∙ row_more rows (key x) i n (numbers (λ y. is_key i (key y)) (suc n) xs) l

-- ---- along the items

pub put_next : {A : Type 0} (key : A → Option ℕ) (n i : ℕ) (xs : List A) (rows next whole : List (List ℕ)) (x : A) → i < length xs → x ≡ get_or xs i x → next ≡ put_key rows (key x) n → put_all key n (drop i xs) rows ≡ whole → put_all key (n + 1) (drop (i + 1) xs) next ≡ whole
put_next key n i xs rows next whole x l is e h =
    let one : n + 1 ≡ suc n = omega arith in
    let here : drop i xs ≡ x ∷ drop (i + 1) xs = drop_more xs i x l ∙ ap (λ y. y ∷ drop (i + 1) xs) (sym is) in
    ap (λ m. put_all key m (drop (i + 1) xs) next) one
    ∙ ap (put_all key (suc n) (drop (i + 1) xs)) e
    ∙ sym (ap (λ ys. put_all key n ys rows) here)
    ∙ h

pub put_next_at : {A : Type 0} (key : A → Option ℕ) (n i : ℕ) (xs : List A) (rows next whole : List (List ℕ)) (d : A) → i < length xs → next ≡ put_key rows (key (get_or xs i d)) n → put_all key n (drop i xs) rows ≡ whole → put_all key (n + 1) (drop (i + 1) xs) next ≡ whole
put_next_at key n i xs rows next whole d l e h =
    put_next key n i xs rows next whole (get_or xs i d) l (get_or_default xs i d (get_or xs i d) l) e h

pub put_ended : {A : Type 0} (key : A → Option ℕ) (n i : ℕ) (xs : List A) (rows whole : List (List ℕ)) → length xs ≤ i → put_all key n (drop i xs) rows ≡ whole → rows ≡ whole
put_ended key n i xs rows whole l h = sym (ap (λ ys. put_all key n ys rows) (drop_all i xs l)) ∙ h

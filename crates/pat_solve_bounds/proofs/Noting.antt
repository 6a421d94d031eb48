-- Who names a variable is noted.
use Rattle.std.proofs.Common.{◌≡◌, ℕ, zero, suc, ◌+◌, ◌<◌, ◌⊎◌, ⊎_elim, true, false, List, [], ◌∷◌, ◌++◌, length, length-set, Some, refl, sym, ap, ◌∙◌, subst, arith}
use Rattle.std.specs.Prelude.{nat_eq, get_or, slice_get, replicate, Ok, Err, OnOk}
use Rattle.std.specs.declared.result.Result.{Result}
use Rattle.std.proofs.lemmas.Bool.{cases_lt, cases_eq, or_cases, or_left, or_right, eq-eqb, eqb-true}
use Rattle.std.proofs.lemmas.List.{get_or-set_same, get_or-set_other, set_past, length-replicate}
use Rattle.pat_words_spec.specs.Patterns.{Pat, Sum, Prod, Star, Var}
use Rattle.pat_semantics_spec.specs.Programs.{is_among}
use Rattle.pat_inclusion_spec.specs.bounds.Assignments.{Constraint}
use Rattle.pat_solve_elimination.specs.Variables.{has_var}
use Rattle.pat_solve_bounds.specs.productive.Users.{noted, Notes, NotesAt, HasUsersBefore}

pub on_ok : {A E : Type 0} (r : Result A E) (P Q : Type 0) → (P → Q) → OnOk r P → OnOk r Q
on_ok (Ok x) P Q f h = f h
on_ok (Err x) P Q f h = tt

-- ---- one number

pushed : (m n : ℕ) (xs : List ℕ) → is_among m xs ≡ true → is_among m (xs ++ n ∷ []) ≡ true
pushed m n [] h = cc
pushed m n (x ∷ xs) h =
    ⊎_elim (λ e. or_left (nat_eq m x) (is_among m (xs ++ n ∷ [])) e)
    (λ e. or_right (nat_eq m x) (is_among m (xs ++ n ∷ [])) (pushed m n xs e))
    (or_cases (nat_eq m x) (is_among m xs) h)

last_there : (n : ℕ) (xs : List ℕ) → is_among n (xs ++ n ∷ []) ≡ true
last_there n [] = or_left (nat_eq n n) false (eq-eqb n n refl)
last_there n (x ∷ xs) = or_right (nat_eq n x) (is_among n (xs ++ n ∷ [])) (last_there n xs)

module _ (users : List (List ℕ)) (k n : ℕ) where
  noted_kept : (j m : ℕ) → is_among m (get_or users j []) ≡ true → is_among m (get_or (noted users k n) j []) ≡ true
  noted_kept j m h =
      ⊎_elim
      (λ l. ⊎_elim
      (λ e. subst (λ i. is_among m (get_or (noted users k n) i []) ≡ true) (sym e)
      (subst (λ xs. is_among m xs ≡ true) (sym (get_or-set_same users k (get_or users k [] ++ (n ∷ [])) [] l)) (pushed m n (get_or users k []) (subst (λ i. is_among m (get_or users i []) ≡ true) e h))))
      (λ d. subst (λ xs. is_among m xs ≡ true) (sym (get_or-set_other users k j (get_or users k [] ++ (n ∷ [])) [] d)) h)
      (cases_eq j k))
      (λ l. subst (λ us. is_among m (get_or us j []) ≡ true) (sym (set_past users k (get_or users k [] ++ (n ∷ [])) l)) h)
      (cases_lt k (length users))

  noted_there : k < length users → is_among n (get_or (noted users k n) k []) ≡ true
  noted_there l = subst (λ xs. is_among n xs ≡ true) (sym (get_or-set_same users k (get_or users k [] ++ (n ∷ [])) [] l)) (last_there n (get_or users k []))

-- ---- patterns

pub notes_none : (e : Pat) (n : ℕ) (users : List (List ℕ)) → ((k : ℕ) → has_var k e ≡ true → ⊥) → Notes e n users users
notes_none e n users none =
    record { as_many = refl; kept = λ k m h. h; noted = λ k l h. absurd (none k h) }

pub notes_var : (n k : ℕ) (users new : List (List ℕ)) → new ≡ noted users k n → Notes (Var k) n users new
notes_var n k users new e =
    subst (λ us. Notes (Var k) n users us) (sym e) (record {
      as_many = length-set users k (get_or users k [] ++ (n ∷ []));
      kept = noted_kept users k n;
      noted = λ j l h.
          let same : k ≡ j = eqb-true k j h in
          subst (λ i. is_among n (get_or (noted users k n) i []) ≡ true) same (noted_there users k n (subst (λ i. i < length users) (sym same) l));
    })

-- what both parts note
notes_parts : (whole e f : Pat) (n : ℕ) (a b c : List (List ℕ)) → ((k : ℕ) → has_var k whole ≡ true → (has_var k e ≡ true) ⊎ (has_var k f ≡ true)) → Notes e n a b → Notes f n b c → Notes whole n a c
notes_parts whole e f n a b c split x y = record {
  as_many = y.as_many ∙ x.as_many;
  kept = λ k m h. y.kept k m (x.kept k m h);
  noted = λ k l h.
      ⊎_elim
      (λ q. y.kept k n (x.noted k l q))
      (λ q. y.noted k (subst (λ m. k < m) (sym x.as_many) l) q)
      (split k h);
}

pub notes_sum : (e f : Pat) (n : ℕ) (a b c : List (List ℕ)) → Notes e n a b → Notes f n b c → Notes (Sum e f) n a c
notes_sum e f n a b c x y = notes_parts (Sum e f) e f n a b c (λ k h. or_cases (has_var k e) (has_var k f) h) x y

pub notes_prod : (e f : Pat) (n : ℕ) (a b c : List (List ℕ)) → Notes e n a b → Notes f n b c → Notes (Prod e f) n a c
notes_prod e f n a b c x y = notes_parts (Prod e f) e f n a b c (λ k h. or_cases (has_var k e) (has_var k f) h) x y

pub notes_star : (e : Pat) (n : ℕ) (a b : List (List ℕ)) → Notes e n a b → Notes (Star e) n a b
notes_star e n a b x = record { as_many = x.as_many; kept = x.kept; noted = x.noted }

-- ---- all constraints

none_in : (count k n : ℕ) → is_among n (get_or (replicate count []) k []) ≡ true → ⊥
none_in zero k n h = cc
none_in (suc count) zero n h = cc
none_in (suc count) (suc k) n h = none_in count k n h

pub users_none : (cs : List Constraint) (count : ℕ) (users : List (List ℕ)) → users ≡ replicate count [] → HasUsersBefore cs count 0 users
users_none cs count users e =
    record { as_many = ap length e ∙ length-replicate count []; all = λ n k c l m at h. absurd (omega arith) }

pub users_more : (cs : List Constraint) (count m : ℕ) (old new : List (List ℕ)) → HasUsersBefore cs count m old → NotesAt cs m old new → HasUsersBefore cs count (m + 1) new
users_more cs count m old new has notes =
    let mine = notes.2 in
    record {
      as_many = mine.as_many ∙ has.as_many;
      all = λ n k c l lk at h.
          ⊎_elim
          (λ same.
          let one : Some notes.0 ≡ Some c = sym notes.1 ∙ ap (slice_get cs) (sym same) ∙ at in
          let left : notes.0.left ≡ c.left = cc in
          subst (λ i. is_among i (get_or new k []) ≡ true) (sym same)
          (mine.noted k (subst (λ x. k < x) (sym has.as_many) lk) (subst (λ e. has_var k e ≡ true) (sym left) h)))
          (λ other. let before : n < m = below n m l other in mine.kept k n (has.all n k c before lk at h))
          (cases_eq n m);
    }
  where
    below : (a b : ℕ) → a < b + 1 → (a ≡ b → ⊥) → a < b
    below a b l d = ⊎_elim (λ x. x) (λ x. absurd (d (omega arith))) (cases_lt a b)

-- A constraint that is looked at, and a variable that is taken from those that wait.
use Rattle.std.proofs.Common.{◌≡◌, ℕ, zero, suc, ◌<◌, ◌≤◌, ◌⊎◌, inl, inr, ⊎_elim, Bool, true, false, not, ◌&&◌, ◌||◌, List, [], ◌∷◌, ◌++◌, length, length-set, Option, Some, None, refl, sym, ap, ap₂, ◌∙◌, subst, arith}
use Rattle.std.specs.Prelude.{nat_eq, nat_lt, get_or, set, slice_get, replicate}
use Rattle.std.proofs.lemmas.Bool.{cases_lt, cases_eq, cases_Bool, and_parts, and_from, or_cases, or_left, or_right, eq-eqb, eqb-true, lt-ltb}
use Rattle.std.proofs.lemmas.List.{get_or-set_same, get_or-set_other, get_or_past}
use Rattle.std.proofs.lemmas.Option.{slice_get_within}
use Rattle.pat_words_spec.specs.Words.{Word}
use Rattle.pat_words_spec.specs.Patterns.{Pat}
use Rattle.pat_semantics_spec.specs.Programs.{is_among}
use Rattle.pat_inclusion_spec.specs.Under.{inhabited_under}
use Rattle.pat_inclusion_spec.specs.bounds.Trees.{derivable}
use Rattle.pat_inclusion_spec.specs.bounds.Assignments.{VarRight, Constraint, lower_of}
use Rattle.pat_inclusion_laws.specs.bounds.Laws.{UsableLaw}
use Rattle.pat_solve_elimination.specs.Variables.{has_var}
use Rattle.pat_solve_bounds.specs.productive.Flags.{flag_of}
use Rattle.pat_solve_bounds.specs.productive.Rights.{RightsBelow}
use Rattle.pat_solve_bounds.specs.productive.Users.{HasUsers}
use Rattle.pat_solve_bounds.specs.productive.Spreading.{is_passed, IsSpread, IsLookedAt, LookedIf, numbers_below, unset, weight}
use Rattle.pat_solve_bounds.proofs.TestLaws.{tested_more, tested_all, left_derivable}

false_not : (b : Bool) → b ≡ false → not b ≡ true
false_not true h = cc
false_not false h = refl

not_false : (b : Bool) → not b ≡ true → b ≡ false
not_false true h = cc
not_false false h = refl

clash : {A : Type 0} (b : Bool) → b ≡ true → b ≡ false → A
clash b t f = let e : true ≡ false = sym t ∙ f in absurd (cc)

or_false : (a b : Bool) → (a || b) ≡ false → (a ≡ false) × (b ≡ false)
or_false true b h = cc
or_false false b h = (refl, h)

-- ---- flags

flag_set : (flags : List Bool) (k : ℕ) → k < length flags → flag_of (set flags k true) k ≡ true
flag_set flags k l = get_or-set_same flags k true false l

flag_other : (flags : List Bool) (k j : ℕ) → (j ≡ k → ⊥) → flag_of (set flags k true) j ≡ flag_of flags j
flag_other flags k j d = get_or-set_other flags k j true false d

unset_less : (flags : List Bool) (k : ℕ) → k < length flags → flag_of flags k ≡ false → suc (unset (set flags k true)) ≡ unset flags
unset_less [] k l h = absurd (omega arith)
unset_less (true ∷ flags) zero l h = cc
unset_less (false ∷ flags) zero l h = refl
unset_less (true ∷ flags) (suc k) l h = unset_less flags k (omega arith) h
unset_less (false ∷ flags) (suc k) l h = ap suc (unset_less flags k (omega arith) h)

-- what was passed before a variable was marked is passed then
module _ (flags : List Bool) (waiting : List ℕ) (k : ℕ) where
  marked_passed : (j : ℕ) → is_passed (set flags k true) (k ∷ waiting) j ≡ true → is_passed flags waiting j ≡ true
  marked_passed j h =
      let both = and_parts (flag_of (set flags k true) j) (not (is_among j (k ∷ waiting))) h in
      let parts = or_false (nat_eq j k) (is_among j waiting) (not_false (is_among j (k ∷ waiting)) both.1) in
      and_from (flag_of flags j) (not (is_among j waiting)) (subst (λ b. b ≡ true) (flag_other flags k j (λ e. clash (nat_eq j k) (eq-eqb j k e) parts.0)) both.0)
      (false_not (is_among j waiting) parts.1)

-- ---- one constraint

module _ (cs : List Constraint) where
  -- a constraint that is looked at leaves all others as they were
  module _ (n : ℕ) (rest next : List ℕ) (c : Constraint) (flags : List Bool) (waiting : List ℕ) (at : slice_get cs n ≡ Some c) (fewer : (m : ℕ) → is_among m next ≡ false → (m ≡ n) ⊎ (is_among m rest ≡ false)) (was : IsSpread cs rest flags waiting) where
    same_constraint : (m : ℕ) (d : Constraint) → m ≡ n → slice_get cs m ≡ Some d → c ≡ d
    same_constraint m d e there = let one : Some c ≡ Some d = sym at ∙ ap (slice_get cs) (sym e) ∙ there in cc

    passed_flag : (j : ℕ) → is_passed flags waiting j ≡ true → flag_of flags j ≡ true
    passed_flag j h = (and_parts (flag_of flags j) (not (is_among j waiting)) h).0

    unchanged : ((k : ℕ) → c.right ≡ VarRight k → k < length flags → inhabited_under (flag_of flags) c.left ≡ true → flag_of flags k ≡ true) → IsSpread cs next flags waiting
    unchanged done = record {
      sound = was.sound;
      closed = λ m k d there r l out h.
          ⊎_elim
          (λ e. let same : c ≡ d = same_constraint m d e there in
          done k (ap (λ (x : Constraint). x.right) same ∙ r) l
          (tested_more (is_passed flags waiting) (flag_of flags) c.left (λ j _. passed_flag j) (subst (λ (x : Constraint). inhabited_under (is_passed flags waiting) x.left ≡ true) (sym same) h)))
          (λ o. was.closed m k d there r l o h)
          (fewer m out);
    }

    module _ (law : UsableLaw) (v : ℕ) (right : c.right ≡ VarRight v) (inside : v < length flags) (word : inhabited_under (flag_of flags) c.left ≡ true) where
      abbrev grown : List Bool
      grown = set flags v true

      more : (j : ℕ) → flag_of flags j ≡ true → flag_of grown j ≡ true
      more j h =
          ⊎_elim
          (λ e. subst (λ i. flag_of grown i ≡ true) (sym e) (flag_set flags v inside))
          (λ d. flag_other flags v j d ∙ h)
          (cases_eq j v)

      changed : IsSpread cs next grown (v ∷ waiting)
      changed = record {
        sound = λ k h.
            ⊎_elim
            (λ e. let found = (law (lower_of cs) (flag_of flags) was.sound).0 c.left word in
            (found.0, left_derivable cs n k c found.0 at (right ∙ ap VarRight (sym e)) found.1))
            (λ d. was.sound k (sym (flag_other flags v k d) ∙ h))
            (cases_eq k v);
        closed = λ m k d there r l out h.
            let back : inhabited_under (is_passed flags waiting) d.left ≡ true =
            tested_more (is_passed grown (v ∷ waiting)) (is_passed flags waiting) d.left (λ j _. marked_passed flags waiting v j) h in
            ⊎_elim
            (λ e. let same : c ≡ d = same_constraint m d e there in
            let one : VarRight v ≡ VarRight k = sym right ∙ ap (λ (x : Constraint). x.right) same ∙ r in
            let number : v ≡ k = cc in
            subst (λ i. flag_of grown i ≡ true) number (flag_set flags v inside))
            (λ o. more k (was.closed m k d there r (subst (λ i. k < i) (length-set flags v true) l) o back))
            (fewer m out);
      }

    looked_at : UsableLaw → (later : List Bool) (waits : List ℕ) → IsLookedAt c flags waiting later waits → IsSpread cs next later waits
    looked_at law later waits look =
        ⊎_elim
        (λ same. subst (λ fs. IsSpread cs next fs waits) (sym same.0)
        (subst (λ ws. IsSpread cs next flags ws) (sym same.1)
        (unchanged (λ k r l h. subst (λ fs. flag_of fs k ≡ true) same.0 (look.closed k r l h)))))
        (λ mark. subst (λ fs. IsSpread cs next fs waits) (sym mark.flags_are)
        (subst (λ ws. IsSpread cs next (set flags mark.variable true) ws) (sym mark.waiting_are)
        (changed law mark.variable mark.right mark.there mark.word)))
        look.step

  -- the same where there may be no constraint with the number
  none_there : (n : ℕ) (rest next : List ℕ) (flags : List Bool) (waiting : List ℕ) → slice_get cs n ≡ None → ((m : ℕ) → is_among m next ≡ false → (m ≡ n) ⊎ (is_among m rest ≡ false)) → IsSpread cs rest flags waiting → IsSpread cs next flags waiting
  none_there n rest next flags waiting none fewer was = record {
    sound = was.sound;
    closed = λ m k d there r l out h.
        ⊎_elim
        (λ e. let one : None ≡ Some d = sym none ∙ ap (slice_get cs) (sym e) ∙ there in absurd (cc))
        (λ o. was.closed m k d there r l o h)
        (fewer m out);
  }

  looked_if : UsableLaw → (n : ℕ) (rest next : List ℕ) (flags : List Bool) (waiting : List ℕ) (later : List Bool) (waits : List ℕ) → ((m : ℕ) → is_among m next ≡ false → (m ≡ n) ⊎ (is_among m rest ≡ false)) → IsSpread cs rest flags waiting → (o : Option Constraint) → slice_get cs n ≡ o → LookedIf o flags waiting later waits → IsSpread cs next later waits
  looked_if law n rest next flags waiting later waits fewer was None at look =
      subst (λ fs. IsSpread cs next fs waits) (sym look.0)
      (subst (λ ws. IsSpread cs next flags ws) (sym look.1) (none_there n rest next flags waiting at fewer was))
  looked_if law n rest next flags waiting later waits fewer was (Some c) at look = looked_at n rest next c flags waiting at fewer was law later waits look

  -- the first of the rest is looked at
  pub looked_first : UsableLaw → (n : ℕ) (rest next : List ℕ) (flags : List Bool) (waiting : List ℕ) (later : List Bool) (waits : List ℕ) → rest ≡ n ∷ next → IsSpread cs rest flags waiting → LookedIf (slice_get cs n) flags waiting later waits → IsSpread cs next later waits
  looked_first law n rest next flags waiting later waits e was look =
      looked_if law n (n ∷ next) next flags waiting later waits (λ m out. fewer m out) (subst (λ r. IsSpread cs r flags waiting) e was) (slice_get cs n) refl look
    where
      fewer : (m : ℕ) → is_among m next ≡ false → (m ≡ n) ⊎ (is_among m (n ∷ next) ≡ false)
      fewer m out =
          ⊎_elim (λ t. inl (eqb-true m n t)) (λ f. inr (ap (λ b. b || is_among m next) f ∙ out)) (cases_Bool (nat_eq m n))

  -- ---- what waits

  -- a variable is taken, and the constraints that name it are to be looked at
  pub taken : (users : List (List ℕ)) (flags : List Bool) (v : ℕ) (waiting : List ℕ) → HasUsers cs (length flags) users → IsSpread cs [] flags (v ∷ waiting) → IsSpread cs (get_or users v []) flags waiting
  taken users flags v waiting has was = record {
    sound = was.sound;
    closed = λ m k d there r l out h.
        was.closed m k d there r l refl
        (tested_more (is_passed flags waiting) (is_passed flags (v ∷ waiting)) d.left
        (λ j named p.
        let both = and_parts (flag_of flags j) (not (is_among j waiting)) p in
        and_from (flag_of flags j) (not (is_among j (v ∷ waiting))) both.0
        (false_not (is_among j (v ∷ waiting))
        (⊎_elim
        (λ t. let same : j ≡ v = eqb-true j v t in
        let user = has.all m v d (slice_get_within cs m d there) (flag_there flags v (subst (λ i. flag_of flags i ≡ true) same both.0)) there (subst (λ i. has_var i d.left ≡ true) same named) in
        clash (is_among m (get_or users v [])) user out)
        (λ f. ap (λ b. b || is_among j waiting) f ∙ not_false (is_among j waiting) both.1)
        (cases_Bool (nat_eq j v)))))
        h);
  }
    where
      flag_there : (fs : List Bool) (k : ℕ) → flag_of fs k ≡ true → k < length fs
      flag_there fs k h = ⊎_elim (λ x. x) (λ x. clash (flag_of fs k) h (get_or_past fs k false x)) (cases_lt k (length fs))

  -- ---- the start and the end

  pub begun : (numbers : List ℕ) (flags : List Bool) (waiting : List ℕ) (count : ℕ) → flags ≡ replicate count false → numbers ≡ numbers_below (length cs) → IsSpread cs numbers flags waiting
  begun numbers flags waiting count none all = record {
    sound = λ k h. clash (flag_of flags k) h (ap (λ fs. flag_of fs k) none ∙ none_set count k);
    closed = λ n k c there r l out h.
        clash (is_among n numbers) (subst (λ ns. is_among n ns ≡ true) (sym all) (all_there (length cs) n (slice_get_within cs n c there))) out;
  }
    where
      none_set : (m k : ℕ) → flag_of (replicate m false) k ≡ false
      none_set zero k = refl
      none_set (suc m) zero = refl
      none_set (suc m) (suc k) = none_set m k

      among_front : (x : ℕ) (xs ys : List ℕ) → is_among x xs ≡ true → is_among x (xs ++ ys) ≡ true
      among_front x [] ys h = cc
      among_front x (z ∷ xs) ys h =
          ⊎_elim (λ t. or_left (nat_eq x z) (is_among x (xs ++ ys)) t)
          (λ t. or_right (nat_eq x z) (is_among x (xs ++ ys)) (among_front x xs ys t))
          (or_cases (nat_eq x z) (is_among x xs) h)

      among_last : (x : ℕ) (xs : List ℕ) → is_among x (xs ++ x ∷ []) ≡ true
      among_last x [] = or_left (nat_eq x x) false (eq-eqb x x refl)
      among_last x (z ∷ xs) = or_right (nat_eq x z) (is_among x (xs ++ x ∷ [])) (among_last x xs)

      lower : (a b : ℕ) → a < suc b → (a ≡ b → ⊥) → a < b
      lower a b l d = ⊎_elim (λ x. x) (λ x. absurd (d (omega arith))) (cases_lt a b)

      all_there : (m n : ℕ) → n < m → is_among n (numbers_below m) ≡ true
      all_there zero n l = absurd (omega arith)
      all_there (suc m) n l =
          ⊎_elim
          (λ e. subst (λ i. is_among i (numbers_below m ++ m ∷ []) ≡ true) (sym e) (among_last m (numbers_below m)))
          (λ d. let before : n < m = lower n m l d in among_front n (numbers_below m) (m ∷ []) (all_there m n before))
          (cases_eq n m)

  -- nothing waits: the flags are those of the variables that have a derivable word
  pub ended : (flags : List Bool) (waiting : List ℕ) → RightsBelow (length flags) cs → waiting ≡ [] → IsSpread cs [] flags waiting → (k : ℕ) → (flag_of flags k ≡ true → (w : Word) × derivable (lower_of cs) k w) × (((w : Word) × derivable (lower_of cs) k w) → flag_of flags k ≡ true)
  ended flags waiting rights none was k = (
    was.sound k,
    tested_all (flag_of flags) cs
        (λ n j c at r h. was.closed n j c at r (rights n j c at r) refl
        (tested_more (flag_of flags) (is_passed flags waiting) c.left
        (λ i _ f. and_from (flag_of flags i) (not (is_among i waiting)) f (false_not (is_among i waiting) (ap (is_among i) none)))
        h))
        k,
  )

-- ---- what is left to do

pub lighter : (o : Option Constraint) (flags new : List Bool) (waiting later : List ℕ) → LookedIf o flags waiting new later → weight new later ≤ weight flags waiting
lighter None flags new waiting later look =
    let same = ap₂ weight look.0 look.1 in omega arith
lighter (Some c) flags new waiting later look =
    ⊎_elim
    (λ same. let e = ap₂ weight same.0 same.1 in omega arith)
    (λ mark.
    let e = ap₂ weight mark.flags_are mark.waiting_are in
    let less = unset_less flags mark.variable mark.there mark.open_before in
    omega arith)
    look.step

pub kept_length : (o : Option Constraint) (flags new : List Bool) (waiting later : List ℕ) → LookedIf o flags waiting new later → length new ≡ length flags
kept_length None flags new waiting later look = ap length look.0
kept_length (Some c) flags new waiting later look =
    ⊎_elim (λ same. ap length same.0) (λ mark. ap length mark.flags_are ∙ length-set flags mark.variable true) look.step

-- ---- looking at one

pub marked : (v : ℕ) (left : Pat) (flags new : List Bool) (waiting later : List ℕ) → (nat_lt v (length flags) && (not (flag_of flags v) && inhabited_under (flag_of flags) left)) ≡ true → v < length flags → new ≡ set flags v true → later ≡ v ∷ waiting → IsLookedAt (record { left = left; right = VarRight v }) flags waiting new later
marked v left flags new waiting later h inside fs ws =
    let inner = and_parts (not (flag_of flags v)) (inhabited_under (flag_of flags) left) ((and_parts (nat_lt v (length flags)) (not (flag_of flags v) && inhabited_under (flag_of flags) left) h).1) in
    record {
      step = inr (record {
        variable = v;
        right = refl;
        there = inside;
        word = inner.1;
        open_before = not_false (flag_of flags v) inner.0;
        flags_are = fs;
        waiting_are = ws;
      });
      closed = λ k r l w. let same : v ≡ k = cc in subst (λ i. flag_of new i ≡ true) same (ap (λ x. flag_of x v) fs ∙ flag_set flags v inside);
    }

pub passed_over : (v : ℕ) (left : Pat) (flags : List Bool) (waiting : List ℕ) → (nat_lt v (length flags) && (not (flag_of flags v) && inhabited_under (flag_of flags) left)) ≡ false → IsLookedAt (record { left = left; right = VarRight v }) flags waiting flags waiting
passed_over v left flags waiting h = record {
  step = inl (refl, refl);
  closed = λ k r l w.
      let same : v ≡ k = cc in
      ⊎_elim (λ t. t)
      (λ f.
      clash (nat_lt v (length flags) && (not (flag_of flags v) && inhabited_under (flag_of flags) left))
      (and_from (nat_lt v (length flags)) (not (flag_of flags v) && inhabited_under (flag_of flags) left) (lt-ltb v (length flags) (subst (λ i. i < length flags) (sym same) l))
      (and_from (not (flag_of flags v)) (inhabited_under (flag_of flags) left) (false_not (flag_of flags v) (ap (flag_of flags) same ∙ f)) w))
      h)
      (cases_Bool (flag_of flags k));
}

-- Tests of a pattern in which variables are replaced, by tests of their values; and those of a set of points.
use Rattle.std.proofs.Common.{◌≡◌, ℕ, zero, suc, Bool, true, false, ◌&&◌, ◌||◌, nat_eq, List, [], ◌∷◌, ◌↔◌, ⊎_elim, refl, sym, ap, ap₂, ◌∙◌, subst, arith}
use Rattle.std.specs.Prelude.{if◌then◌else◌, nat_le}
use Rattle.std.specs.List.{list_all, list_any}
use Rattle.std.proofs.lemmas.Bool.{and_parts, or_cases, or_left, cond_both, cases_lt, eqb-true}
use Rattle.pat_words_spec.specs.Words.{Word, no_word}
use Rattle.pat_words_spec.specs.Patterns.{Pat, Zero, One, Tag, Sum, Prod, Star, Var, pat_eq, is_zero, is_one, sum_of, prod_of, star_of, subst_of, is_nullable, is_inhabited}
use Rattle.pat_words_spec.specs.Cuts.{cut_at}
use Rattle.pat_words_laws.proofs.PatternLaws.{pat_eq_same, is_zero_same, is_one_same, nullable_to, nullable_from, inhabited_to, inhabited_from}
use Rattle.pat_words_laws.proofs.WordLaws.{word_ext}
use Rattle.pat_words_spec.specs.Tags.{HasTagsBelow}
use Rattle.pat_inclusion_spec.specs.Counts.{same_below, counted}
use Rattle.pat_inclusion_spec.specs.Points.{grid_fits, point_fits, points_ascend, points_fit, points_pattern}
use Rattle.pat_inclusion_spec.specs.Under.{nullable_under, inhabited_under}
use Rattle.pat_inclusion_laws.proofs.CutLaws.{cut_none}
use Rattle.pat_inclusion_laws.proofs.LawParts.{points_words}
use Rattle.pat_inclusion_laws.proofs.Exact.{same_from, point_count}

-- ---- the simplifying forms

-- a test that goes through sums and products, and that 0 fails and 1 passes
module _ (test : Pat → Bool) (none : test Zero ≡ false) (empty : test One ≡ true) where
  sum_test : ((e f : Pat) → test (Sum e f) ≡ (test e || test f)) → (e f : Pat) → test (sum_of e f) ≡ (test e || test f)
  sum_test goes e f =
      cond_both (is_zero e) f (if is_zero f then e else if pat_eq e f then e else Sum e f) (λ x. test x ≡ (test e || test f))
      (λ z. ap (λ b. b || test f) (sym (ap test (is_zero_same e z) ∙ none)))
      (λ _. cond_both (is_zero f) e (if pat_eq e f then e else Sum e f) (λ x. test x ≡ (test e || test f))
      (λ z. sym (or_none (test e)) ∙ ap (λ b. test e || b) (sym (ap test (is_zero_same f z) ∙ none)))
      (λ _. cond_both (pat_eq e f) e (Sum e f) (λ x. test x ≡ (test e || test f))
      (λ s. sym (or_same (test e)) ∙ ap (λ b. test e || b) (ap test (pat_eq_same e f s)))
      (λ _. goes e f)))
    where
      or_none : (b : Bool) → (b || false) ≡ b
      or_none true = refl
      or_none false = refl

      or_same : (b : Bool) → (b || b) ≡ b
      or_same true = refl
      or_same false = refl

  prod_test : ((e f : Pat) → test (Prod e f) ≡ (test e && test f)) → (e f : Pat) → test (prod_of e f) ≡ (test e && test f)
  prod_test goes e f =
      cond_both (is_zero e || is_zero f) Zero (if is_one e then f else if is_one f then e else Prod e f) (λ x. test x ≡ (test e && test f))
      (λ z. none ∙ ⊎_elim
      (λ l. ap (λ b. b && test f) (sym (ap test (is_zero_same e l) ∙ none)))
      (λ r. sym (and_none (test e)) ∙ ap (λ b. test e && b) (sym (ap test (is_zero_same f r) ∙ none)))
      (or_cases (is_zero e) (is_zero f) z))
      (λ _. cond_both (is_one e) f (if is_one f then e else Prod e f) (λ x. test x ≡ (test e && test f))
      (λ o. ap (λ b. b && test f) (sym (ap test (is_one_same e o) ∙ empty)))
      (λ _. cond_both (is_one f) e (Prod e f) (λ x. test x ≡ (test e && test f))
      (λ o. sym (and_all (test e)) ∙ ap (λ b. test e && b) (sym (ap test (is_one_same f o) ∙ empty)))
      (λ _. goes e f)))
    where
      and_none : (b : Bool) → (b && false) ≡ false
      and_none true = refl
      and_none false = refl

      and_all : (b : Bool) → (b && true) ≡ b
      and_all true = refl
      and_all false = refl

  star_test : ((e : Pat) → test (Star e) ≡ true) → (e : Pat) → test (star_of e) ≡ true
  star_test goes e = cond_both (is_zero e || is_one e) One (Star e) (λ x. test x ≡ true) (λ _. empty) (λ _. goes e)

pub nullable_subst : (values : ℕ → Pat) (e : Pat) → is_nullable (subst_of values e) ≡ nullable_under (λ k. is_nullable (values k)) e
nullable_subst values Zero = refl
nullable_subst values One = refl
nullable_subst values (Tag m) = refl
nullable_subst values (Sum e f) =
    sum_test is_nullable refl refl (λ a b. refl) (subst_of values e) (subst_of values f)
    ∙ ap₂ (λ a b. a || b) (nullable_subst values e) (nullable_subst values f)
nullable_subst values (Prod e f) =
    prod_test is_nullable refl refl (λ a b. refl) (subst_of values e) (subst_of values f)
    ∙ ap₂ (λ a b. a && b) (nullable_subst values e) (nullable_subst values f)
nullable_subst values (Star e) = star_test is_nullable refl refl (λ a. refl) (subst_of values e)
nullable_subst values (Var k) = refl

pub inhabited_subst : (values : ℕ → Pat) (e : Pat) → is_inhabited (subst_of values e) ≡ inhabited_under (λ k. is_inhabited (values k)) e
inhabited_subst values Zero = refl
inhabited_subst values One = refl
inhabited_subst values (Tag m) = refl
inhabited_subst values (Sum e f) =
    sum_test is_inhabited refl refl (λ a b. refl) (subst_of values e) (subst_of values f)
    ∙ ap₂ (λ a b. a || b) (inhabited_subst values e) (inhabited_subst values f)
inhabited_subst values (Prod e f) =
    prod_test is_inhabited refl refl (λ a b. refl) (subst_of values e) (subst_of values f)
    ∙ ap₂ (λ a b. a && b) (inhabited_subst values e) (inhabited_subst values f)
inhabited_subst values (Star e) = star_test is_inhabited refl refl (λ a. refl) (subst_of values e)
inhabited_subst values (Var k) = refl

-- ---- sets of points

point_below : (k n : ℕ) (p : List ℕ) → point_fits k n p ≡ true → HasTagsBelow n (counted p)
point_below k n [] h t l = refl
point_below k zero (c ∷ cs) h zero l = eqb-true c 0 (and_parts (nat_eq c 0) (point_fits k zero cs) h).0
point_below k zero (c ∷ cs) h (suc t) l = point_below k zero cs (and_parts (nat_eq c 0) (point_fits k zero cs) h).1 t (omega arith)
point_below k (suc n) (c ∷ cs) h zero l = absurd (omega arith)
point_below k (suc n) (c ∷ cs) h (suc t) l = point_below k n cs (and_parts (nat_le c k) (point_fits k n cs) h).1 t (omega arith)

point_cut : (k n : ℕ) (p : List ℕ) → point_fits k n p ≡ true → cut_at k (counted p) ≡ counted p
point_cut k n p h =
    word_ext (cut_at k (counted p)) (counted p)
    (λ t. ⊎_elim
    (λ l. let c = point_count k n p h t l in omega arith)
    (λ g. let z = point_below k n p h t g in omega arith)
    (cases_lt t n))

pub point_tests : (k n : ℕ) (points : List (List ℕ)) → points_fit k n points ≡ true → ((is_nullable (points_pattern k n points) ≡ true) ↔ (list_any (λ p. same_below n no_word (counted p)) points ≡ true)) × ((is_inhabited (points_pattern k n points) ≡ true) ↔ (points ≡ [] → ⊥))
point_tests k n points h = (
  (λ i. null_to ((points_words k n points no_word h).0 (nullable_to e i)).1, λ i. nullable_from e ((points_words k n points no_word h).1 (λ t l. refl, null_from i))),
  (λ i q. let r = inhabited_to e i in some_to r.0 ((points_words k n points r.0 h).0 r.1).1 q, λ q. some_from points refl q),
)
  where
    e : Pat
    e = points_pattern k n points

    null_to : list_any (λ p. same_below n (cut_at k no_word) (counted p)) points ≡ true → list_any (λ p. same_below n no_word (counted p)) points ≡ true
    null_to a = subst (λ (x : Word). list_any (λ p. same_below n x (counted p)) points ≡ true) (cut_none k) a

    null_from : list_any (λ p. same_below n no_word (counted p)) points ≡ true → list_any (λ p. same_below n (cut_at k no_word) (counted p)) points ≡ true
    null_from a = subst (λ (x : Word). list_any (λ p. same_below n x (counted p)) points ≡ true) (sym (cut_none k)) a

    some_to : (w : Word) → list_any (λ p. same_below n (cut_at k w) (counted p)) points ≡ true → points ≡ [] → ⊥
    some_to w a q = let c : false ≡ true = sym (ap (list_any (λ p. same_below n (cut_at k w) (counted p))) q) ∙ a in cc

    some_from : (ps : List (List ℕ)) → points ≡ ps → (points ≡ [] → ⊥) → is_inhabited e ≡ true
    some_from [] q none = absurd (none q)
    some_from (p ∷ ps) q none =
        let a = and_parts (grid_fits k n) (list_all (point_fits k n) points && points_ascend points) h in
        let b = and_parts (list_all (point_fits k n) points) (points_ascend points) a.1 in
        let fits = (and_parts (point_fits k n p) (list_all (point_fits k n) ps) (subst (λ xs. list_all (point_fits k n) xs ≡ true) q b.0)).0 in
        let here : list_any (λ x. same_below n (cut_at k (counted p)) (counted x)) (p ∷ ps) ≡ true =
        or_left (same_below n (cut_at k (counted p)) (counted p)) (list_any (λ x. same_below n (cut_at k (counted p)) (counted x)) ps) (same_from n (cut_at k (counted p)) (counted p) (point_cut k n p fits)) in
        inhabited_from e (counted p)
        ((points_words k n points (counted p) h).1 (point_below k n p fits, subst (λ xs. list_any (λ x. same_below n (cut_at k (counted p)) (counted x)) xs ≡ true) (sym q) here))

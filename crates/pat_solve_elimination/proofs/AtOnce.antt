-- Where no value that comes in has one of the variables, one replacement after another is all of them at once; and nothing on the way
-- is larger than the pattern with each value as it stands.
use Rattle.std.proofs.Common.{◌≡◌, ℕ, ◌+◌, ◌≤◌, ◌⊎◌, true, false, ◌||◌, if◌then◌else◌, ⊎_elim, inl, inr, List, [], ◌∷◌, Some, None, refl, sym, ap, ◌∙◌, subst, arith}
use Rattle.std.specs.Prelude.{nat_eq, max}
use Rattle.std.specs.Map.{lookup}
use Rattle.std.specs.Option.{unwrap_or}
use Rattle.std.specs.List.{AllByRecursion}
use Rattle.std.proofs.lemmas.Bool.{cond_both, cond-true, cond-false, cases_Bool, or_left, or_right, and_from, eq-eqb, eqb-true, le-leb}
use Rattle.pat_words_spec.specs.Patterns.{Pat, Zero, One, Tag, Sum, Prod, Star, Var, is_zero, is_one, pat_eq, sum_of, prod_of, star_of, subst_of}
use Rattle.pat_words_spec.specs.Sizes.{size_of, levels_of}
use Rattle.pat_inclusion_spec.specs.ClosedForms.{is_small}
use Rattle.pat_solve_spec.specs.Assignments.{Values, put_one, put_in_turn}
use Rattle.pat_solve_bounded.specs.Variables.{has_var}
use Rattle.pat_solve_bounded.specs.replacing.Ascending.{paired}
use Rattle.pat_solve_bounded.specs.replacing.Replacing.{listed_in}
use Rattle.pat_solve_elimination.specs.Rounds.{IsRebuilt, turn_fits}
use Rattle.pat_solve_elimination.specs.Growing.{Lacks, grown, MayGrow}
use Rattle.pat_solve_elimination.proofs.Rebuilt.{rebuilt_one}
use Rattle.pat_solve_elimination.proofs.Fusing.{fused, alike, comes_from}
use Rattle.pat_limits.specs.Limits.{most_levels, most_nodes}

-- ---- values by their variables

-- each value is as the simplifying forms make it
abbrev pub AllRebuilt : Values → Type 0
AllRebuilt vs = AllByRecursion (λ v. IsRebuilt v.1) vs

-- one of the variables doesn't occur where all are lacking
lacks_key : (vs : Values) (e w : Pat) (j : ℕ) → Lacks vs e → lookup (nat_eq j) vs ≡ Some w → has_var j e ≡ false
lacks_key [] e w j h at = absurd cc
lacks_key (v ∷ vs) e w j h at =
    ⊎_elim
    (λ (t : nat_eq j v.0 ≡ true). subst (λ k. has_var k e ≡ false) (sym (eqb-true j v.0 t)) h.0)
    (λ (f : nat_eq j v.0 ≡ false). lacks_key vs e w j h.1 (sym (cond-false (nat_eq j v.0) _ _ f) ∙ at))
    (cases_Bool (nat_eq j v.0))

-- what occurs where all are lacking has no value
no_value : (vs : Values) (e : Pat) (j : ℕ) → Lacks vs e → has_var j e ≡ true → lookup (nat_eq j) vs ≡ None
no_value [] e j h o = refl
no_value (v ∷ vs) e j h o =
    ⊎_elim
    (λ (t : nat_eq j v.0 ≡ true). let no = subst (λ k. has_var k e ≡ false) (sym (eqb-true j v.0 t)) h.0 in absurd cc)
    (λ (f : nat_eq j v.0 ≡ false). cond-false (nat_eq j v.0) _ _ f ∙ no_value vs e j h.1 o)
    (cases_Bool (nat_eq j v.0))

-- some variables give way to their values, and all others stay
abbrev pub Partial : Values → (ℕ → Pat) → Type 0
Partial vs s = (k : ℕ) → (s k ≡ Var k) ⊎ (s k ≡ listed_in vs k)

-- so a pattern that has none of them stays
pub stays : (vs : Values) (s : ℕ → Pat) (e : Pat) → Partial vs s → Lacks vs e → IsRebuilt e → subst_of s e ≡ e
stays vs s e some h r =
    alike s Var e (λ k o. ⊎_elim (λ (a : s k ≡ Var k). a) (λ (b : s k ≡ listed_in vs k). b ∙ ap (λ w. unwrap_or w (Var k)) (no_value vs e k h o)) (some k)) ∙ r

-- ---- one variable, and then others

module _ (v : ℕ × Pat) (s : ℕ → Pat) where
  abbrev first_or : ℕ → Pat
  first_or j = if nat_eq j v.0 then v.1 else s j

-- the values that come in lack all of the variables
abbrev pub Apart : Values → Pat → Type 0
Apart vs f = (k : ℕ) (w : Pat) → has_var k f ≡ true → lookup (nat_eq k) vs ≡ Some w → Lacks vs w

module _ (v : ℕ × Pat) (vs : Values) (f : Pat) (apart : Apart (v ∷ vs) f) (rebuilt : IsRebuilt v.1) where
  first_lacks : has_var v.0 f ≡ true → Lacks (v ∷ vs) v.1
  first_lacks o = apart v.0 v.1 o (cond-true (nat_eq v.0 v.0) _ _ (eq-eqb v.0 v.0 refl))

  next : (s : ℕ → Pat) → Partial vs s → subst_of s (put_one v.0 v.1 f) ≡ subst_of (first_or v s) f
  next s some =
      fused s (λ j. if nat_eq j v.0 then v.1 else Var j) f
      ∙ alike (λ j. subst_of s (if nat_eq j v.0 then v.1 else Var j)) (first_or v s) f same
    where
      same : (j : ℕ) → has_var j f ≡ true → subst_of s (if nat_eq j v.0 then v.1 else Var j) ≡ first_or v s j
      same j o =
          ⊎_elim
          (λ (t : nat_eq j v.0 ≡ true). let own = first_lacks (subst (λ k. has_var k f ≡ true) (eqb-true j v.0 t) o) in rw t (stays vs s v.1 some own.1 rebuilt))
          (λ (n : nat_eq j v.0 ≡ false). rw n refl)
          (cases_Bool (nat_eq j v.0))

  still_apart : Apart vs (put_one v.0 v.1 f)
  still_apart j w o at =
      let from = comes_from (λ i. if nat_eq i v.0 then v.1 else Var i) j f o in
      ⊎_elim
      (λ (t : nat_eq from.0 v.0 ≡ true).
      let own = first_lacks (subst (λ k. has_var k f ≡ true) (eqb-true from.0 v.0 t) from.1) in
      let there : has_var j v.1 ≡ true = sym (ap (has_var j) (cond-true (nat_eq from.0 v.0) v.1 (Var from.0) t)) ∙ from.2 in
      let none = lacks_key vs v.1 w j own.1 at in
      absurd cc)
      (λ (n : nat_eq from.0 v.0 ≡ false).
      let there : nat_eq from.0 j ≡ true = sym (ap (has_var j) (cond-false (nat_eq from.0 v.0) v.1 (Var from.0) n)) ∙ from.2 in
      let same : from.0 ≡ j = eqb-true from.0 j there in
      let other : nat_eq j v.0 ≡ false = subst (λ k. nat_eq k v.0 ≡ false) same n in
      let both = apart j w (subst (λ k. has_var k f ≡ true) same from.1) (cond-false (nat_eq j v.0) _ _ other ∙ at) in
      both.1)
      (cases_Bool (nat_eq from.0 v.0))

  first_partial : (s : ℕ → Pat) → Partial vs s → Partial (v ∷ vs) (first_or v s)
  first_partial s some j =
      ⊎_elim
      (λ (t : nat_eq j v.0 ≡ true). inr (rw t refl))
      (λ (n : nat_eq j v.0 ≡ false). rw n (some j))
      (cases_Bool (nat_eq j v.0))

  all_of_rest : (j : ℕ) → first_or v (listed_in vs) j ≡ listed_in (v ∷ vs) j
  all_of_rest j =
      ⊎_elim (λ (t : nat_eq j v.0 ≡ true). rw t refl) (λ (n : nat_eq j v.0 ≡ false). rw n refl) (cases_Bool (nat_eq j v.0))

pub every : (vs : Values) → Partial vs (listed_in vs)
every vs k = inr refl

-- ---- all of them at once

pub in_turn_at_once : (vs : Values) (f : Pat) → AllRebuilt vs → Apart vs f → (vs ≡ [] → IsRebuilt f) → put_in_turn vs f ≡ subst_of (listed_in vs) f
in_turn_at_once [] f r a own = sym (own refl)
in_turn_at_once (v ∷ vs) f r a own =
    in_turn_at_once vs (put_one v.0 v.1 f) r.1 (still_apart v vs f a r.0) (λ _. rebuilt_one v.0 v.1 f r.0)
    ∙ next v vs f a r.0 (listed_in vs) (every vs)
    ∙ alike (first_or v (listed_in vs)) (listed_in (v ∷ vs)) f (λ j o. all_of_rest v vs f a r.0 j)

pub turns_fit : (vs : Values) (f : Pat) → AllRebuilt vs → Apart vs f → ((s : ℕ → Pat) → Partial vs s → is_small (subst_of s f) ≡ true) → turn_fits vs f ≡ true
turns_fit [] f r a small = refl
turns_fit (v ∷ vs) f r a small =
    and_from (is_small (put_one v.0 v.1 f)) (turn_fits vs (put_one v.0 v.1 f))
    (small (λ j. if nat_eq j v.0 then v.1 else Var j) (first_partial v vs f a r.0 Var (λ k. inl refl)))
    (turns_fit vs (put_one v.0 v.1 f) r.1 (still_apart v vs f a r.0)
    (λ s some. ap is_small (next v vs f a r.0 s some) ∙ small (first_or v s) (first_partial v vs f a r.0 s some)))

-- ---- how large a pattern gets

sum_size : (e f : Pat) → size_of (sum_of e f) ≤ 1 + (size_of e + size_of f)
sum_size e f =
    let P : Pat → Type 0 = λ p. size_of p ≤ 1 + (size_of e + size_of f) in
    cond_both (is_zero e) f (if is_zero f then e else if pat_eq e f then e else Sum e f) P (λ _. omega arith)
    (λ _. cond_both (is_zero f) e (if pat_eq e f then e else Sum e f) P (λ _. omega arith)
    (λ _. cond_both (pat_eq e f) e (Sum e f) P (λ _. omega arith) (λ _. omega arith)))

prod_size : (e f : Pat) → size_of (prod_of e f) ≤ 1 + (size_of e + size_of f)
prod_size e f =
    let P : Pat → Type 0 = λ p. size_of p ≤ 1 + (size_of e + size_of f) in
    cond_both (is_zero e || is_zero f) Zero (if is_one e then f else if is_one f then e else Prod e f) P (λ _. omega arith)
    (λ _. cond_both (is_one e) f (if is_one f then e else Prod e f) P (λ _. omega arith)
    (λ _. cond_both (is_one f) e (Prod e f) P (λ _. omega arith) (λ _. omega arith)))

star_size : (e : Pat) → size_of (star_of e) ≤ 1 + size_of e
star_size e = cond_both (is_zero e || is_one e) One (Star e) (λ p. size_of p ≤ 1 + size_of e) (λ _. omega arith) (λ _. omega arith)

sum_levels : (e f : Pat) (m : ℕ) → levels_of e ≤ m → levels_of f ≤ m → levels_of (sum_of e f) ≤ 1 + m
sum_levels e f m a b =
    let P : Pat → Type 0 = λ p. levels_of p ≤ 1 + m in
    cond_both (is_zero e) f (if is_zero f then e else if pat_eq e f then e else Sum e f) P (λ _. omega arith)
    (λ _. cond_both (is_zero f) e (if pat_eq e f then e else Sum e f) P (λ _. omega arith)
    (λ _. cond_both (pat_eq e f) e (Sum e f) P (λ _. omega arith) (λ _. omega arith)))

prod_levels : (e f : Pat) (m : ℕ) → levels_of e ≤ m → levels_of f ≤ m → levels_of (prod_of e f) ≤ 1 + m
prod_levels e f m a b =
    let P : Pat → Type 0 = λ p. levels_of p ≤ 1 + m in
    cond_both (is_zero e || is_zero f) Zero (if is_one e then f else if is_one f then e else Prod e f) P (λ _. omega arith)
    (λ _. cond_both (is_one e) f (if is_one f then e else Prod e f) P (λ _. omega arith)
    (λ _. cond_both (is_one f) e (Prod e f) P (λ _. omega arith) (λ _. omega arith)))

star_levels : (e : Pat) → levels_of (star_of e) ≤ 1 + levels_of e
star_levels e = cond_both (is_zero e || is_one e) One (Star e) (λ p. levels_of p ≤ 1 + levels_of e) (λ _. omega arith) (λ _. omega arith)

at_least_one : (e : Pat) → 1 ≤ size_of e
at_least_one Zero = omega arith
at_least_one One = omega arith
at_least_one (Tag m) = omega arith
at_least_one (Var k) = omega arith
at_least_one (Sum e f) = omega arith
at_least_one (Prod e f) = omega arith
at_least_one (Star e) = omega arith

module _ (vs : Values) (s : ℕ → Pat) (some : Partial vs s) where
  partial_size : (k : ℕ) → size_of (s k) ≤ size_of (listed_in vs k)
  partial_size k =
      ⊎_elim
      (λ (a : s k ≡ Var k). subst (λ x. size_of x ≤ size_of (listed_in vs k)) (sym a) (at_least_one (listed_in vs k)))
      (λ (b : s k ≡ listed_in vs k). subst (λ x. size_of x ≤ size_of (listed_in vs k)) (sym b) (omega arith))
      (some k)

  no_more_nodes : (e : Pat) → size_of (subst_of s e) ≤ grown vs e
  no_more_nodes Zero = omega arith
  no_more_nodes One = omega arith
  no_more_nodes (Tag m) = omega arith
  no_more_nodes (Var k) = partial_size k
  no_more_nodes (Star e) = let h = star_size (subst_of s e) in let i = no_more_nodes e in omega (arith, h, i)
  no_more_nodes (Sum e f) =
      let h = sum_size (subst_of s e) (subst_of s f) in let i = no_more_nodes e in let j = no_more_nodes f in omega (arith, h, i, j)
  no_more_nodes (Prod e f) =
      let h = prod_size (subst_of s e) (subst_of s f) in let i = no_more_nodes e in let j = no_more_nodes f in omega (arith, h, i, j)

no_more_levels : (s : ℕ → Pat) (most : ℕ) (e : Pat) → ((k : ℕ) → has_var k e ≡ true → levels_of (s k) ≤ 1 + most) → levels_of (subst_of s e) ≤ levels_of e + most
no_more_levels s most Zero h = omega arith
no_more_levels s most One h = omega arith
no_more_levels s most (Tag m) h = omega arith
no_more_levels s most (Var k) h = h k (eq-eqb k k refl)
no_more_levels s most (Star e) h = let i = star_levels (subst_of s e) in let j = no_more_levels s most e h in omega (arith, i, j)
no_more_levels s most (Sum e f) h =
    let a = no_more_levels s most e (λ k o. h k (or_left (has_var k e) (has_var k f) o)) in
    let b = no_more_levels s most f (λ k o. h k (or_right (has_var k e) (has_var k f) o)) in
    let h = sum_levels (subst_of s e) (subst_of s f) (max (levels_of e) (levels_of f) + most) (omega (arith, a)) (omega (arith, b)) in
    omega (arith, h)
no_more_levels s most (Prod e f) h =
    let a = no_more_levels s most e (λ k o. h k (or_left (has_var k e) (has_var k f) o)) in
    let b = no_more_levels s most f (λ k o. h k (or_right (has_var k e) (has_var k f) o)) in
    let h = prod_levels (subst_of s e) (subst_of s f) (max (levels_of e) (levels_of f) + most) (omega (arith, a)) (omega (arith, b)) in
    omega (arith, h)

-- ---- both together

module _ (vs : Values) (f : Pat) (may : MayGrow vs f) (rebuilt : AllRebuilt vs) where
  apart : Apart vs f
  apart k w o at = subst (λ x. Lacks vs (unwrap_or x (Var k))) at (may.settled k o).lacks

  small : (s : ℕ → Pat) → Partial vs s → is_small (subst_of s f) ≡ true
  small s some =
      let nodes = no_more_nodes vs s some f in
      let levels = no_more_levels s may.most f (λ k o.
      ⊎_elim
      (λ (a : s k ≡ Var k). subst (λ x. levels_of x ≤ 1 + may.most) (sym a) (omega arith))
      (λ (b : s k ≡ listed_in vs k). subst (λ x. levels_of x ≤ 1 + may.most) (sym b) (let h = (may.settled k o).levels in omega (arith, h)))
      (some k)) in
      let n = may.nodes in
      let l = may.levels in
      and_from _ _ (le-leb (size_of (subst_of s f)) most_nodes (omega (arith, nodes, n))) (le-leb (levels_of (subst_of s f)) most_levels (omega (arith, levels, l)))

  pub grows : (turn_fits vs f ≡ true) × (put_in_turn vs f ≡ subst_of (listed_in vs) f) × (is_small (subst_of (listed_in vs) f) ≡ true)
  grows = (turns_fit vs f rebuilt apart small, in_turn_at_once vs f rebuilt apart (λ none. absurd (may.some none)), small (listed_in vs) (every vs))

pub all_paired : (ks : List ℕ) (vs : List Pat) → AllByRecursion IsRebuilt vs → AllRebuilt (paired ks vs)
all_paired [] vs h = tt
all_paired (k ∷ ks) [] h = tt
all_paired (k ∷ ks) (v ∷ vs) h = (h.0, all_paired ks vs h.1)

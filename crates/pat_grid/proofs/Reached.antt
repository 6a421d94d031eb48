-- Lists of the numbers at which symbols have trees.
use Rattle.std.proofs.Common.{◌≡◌, ℕ, zero, suc, ◌<◌, ◌≤◌, ◌⊎◌, inl, inr, ⊎_elim, Bool, true, false, List, [], ◌∷◌, ◌++◌, length, length-set, length-append, get_or, refl, sym, ap, ◌∙◌, subst, arith}
use Rattle.std.specs.Prelude.{if◌then◌else◌, nat_le}
use Rattle.std.proofs.lemmas.Bool.{cases_lt, cases_eq, leb-true, le-leb}
use Rattle.std.proofs.lemmas.List.{get_or-set_same, get_or-set_other, get_or_append_left, get_or_at, set_past}
use Rattle.pat_inclusion_spec.specs.bounds.Tables.{Setting, IsKnown}
use Rattle.pat_inclusion_spec.specs.bounds.Numbers.{points_in}
use Rattle.pat_grid.specs.declared.tables.sizes.Sizes.{Sizes}
use Rattle.pat_grid.specs.tables.Moves.{entry_at, Among, ArePoints, HasLists}
use Rattle.pat_grid_points.specs.Chains.{noted, from_on}

-- ---- what is in a list to which a number is put

among_put : (t s : ℕ) (xs : List ℕ) → Among t xs → Among t (s ∷ xs)
among_put t s xs h = (suc h.0, let i = h.1 in omega arith, h.2)

among_first : (s : ℕ) (xs : List ℕ) → Among s (s ∷ xs)
among_first s xs = (0, omega arith, refl)

points_put : (g : Setting) (c : ℕ) (xs : List ℕ) → c < points_in g.bound g.tags → ArePoints g xs → ArePoints g (c ∷ xs)
points_put g c xs l h zero m = l
points_put g c xs l h (suc i) m = h i (omega arith)

pub points_pushed : (g : Setting) (c : ℕ) (xs : List ℕ) → c < points_in g.bound g.tags → ArePoints g xs → ArePoints g (xs ++ (c ∷ []))
points_pushed g c xs l h i m =
    ⊎_elim
    (λ k. let e = get_or_append_left xs (c ∷ []) 0 i k in let p = h i k in omega arith)
    (λ k. let n = length-append xs (c ∷ []) in let f : length xs ≡ i = omega arith in let e = get_or_at xs c [] 0 i f in omega arith)
    (cases_lt i (length xs))

pub noted_kept : (users : List (List ℕ)) (a s b t : ℕ) → Among t (get_or users b []) → Among t (get_or (noted users a s) b [])
noted_kept users a s b t h =
    ⊎_elim
    (λ l. ⊎_elim
    (λ e. subst (λ i. Among t (get_or (noted users a s) i [])) (sym e)
    (subst (Among t) (sym (get_or-set_same users a (s ∷ get_or users a []) [] l)) (among_put t s (get_or users a []) (subst (λ i. Among t (get_or users i [])) e h))))
    (λ n. subst (Among t) (sym (get_or-set_other users a b (s ∷ get_or users a []) [] n)) h)
    (cases_eq b a))
    (λ l. subst (λ us. Among t (get_or us b [])) (sym (set_past users a (s ∷ get_or users a []) l)) h)
    (cases_lt a (length users))

pub noted_there : (users : List (List ℕ)) (a s : ℕ) → a < length users → Among s (get_or (noted users a s) a [])
noted_there users a s l =
    subst (Among s) (sym (get_or-set_same users a (s ∷ get_or users a []) [] l)) (among_first s (get_or users a []))

pub noted_many : (users : List (List ℕ)) (a s : ℕ) → length (noted users a s) ≡ length users
noted_many users a s = length-set users a (s ∷ get_or users a [])

noted_points : (g : Setting) (users : List (List ℕ)) (a c b : ℕ) → a < length users → c < points_in g.bound g.tags → ((i : ℕ) → ArePoints g (get_or users i [])) → ArePoints g (get_or (noted users a c) b [])
noted_points g users a c b l m h =
    ⊎_elim
    (λ e. subst (λ i. ArePoints g (get_or (noted users a c) i [])) (sym e)
    (subst (ArePoints g) (sym (get_or-set_same users a (c ∷ get_or users a []) [] l)) (points_put g c (get_or users a []) m (h a))))
    (λ n. subst (ArePoints g) (sym (get_or-set_other users a b (c ∷ get_or users a []) [] n)) (h b))
    (cases_eq b a)

-- ---- an entry was written

module _ (g : Setting) (x y : Sizes) (s c : ℕ) (there : s < length g.flat.symbols) (m : c < points_in g.bound g.tags) (others : (a d : ℕ) → d < points_in g.bound g.tags → (a ≡ s → ⊥) ⊎ (d ≡ c → ⊥) → entry_at g y.entries a d ≡ entry_at g x.entries a d) (news : y.news ≡ x.news ++ (c ∷ [])) (h : HasLists g x) where
  old_known : (a d : ℕ) → d < points_in g.bound g.tags → (a ≡ s → ⊥) ⊎ (d ≡ c → ⊥) → IsKnown g.limit (entry_at g y.entries a d) → IsKnown g.limit (entry_at g x.entries a d)
  old_known a d l o k = subst (IsKnown g.limit) (others a d l o) k

  -- where there was a tree, nothing is put to a list
  lists_same : y.reached ≡ x.reached → IsKnown g.limit (entry_at g x.entries s c) → HasLists g y
  lists_same e known = record {
    as_many = ap length e ∙ h.as_many;
    within = λ a. subst (λ us. ArePoints g (get_or us a [])) (sym e) (h.within a);
    all = λ a d l n k. subst (λ us. Among d (get_or us a [])) (sym e) (h.all a d l n (was a d n k));
    news = subst (ArePoints g) (sym news) (points_pushed g c x.news m h.news);
  }
    where
      was : (a d : ℕ) → d < points_in g.bound g.tags → IsKnown g.limit (entry_at g y.entries a d) → IsKnown g.limit (entry_at g x.entries a d)
      was a d n k =
          ⊎_elim
          (λ e1. ⊎_elim
          (λ e2. subst (λ i. IsKnown g.limit (entry_at g x.entries i d)) (sym e1) (subst (λ i. IsKnown g.limit (entry_at g x.entries s i)) (sym e2) known))
          (λ o. old_known a d n (inr o) k)
          (cases_eq d c))
          (λ o. old_known a d n (inl o) k)
          (cases_eq a s)

  lists_noted : y.reached ≡ noted x.reached s c → HasLists g y
  lists_noted e = record {
    as_many = ap length e ∙ noted_many x.reached s c ∙ h.as_many;
    within = λ a. subst (λ us. ArePoints g (get_or us a [])) (sym e) (noted_points g x.reached s c a (let n = h.as_many in omega arith) m h.within);
    all = λ a d l n k. subst (λ us. Among d (get_or us a [])) (sym e) (in_list a d l n k);
    news = subst (ArePoints g) (sym news) (points_pushed g c x.news m h.news);
  }
    where
      in_list : (a d : ℕ) → a < length g.flat.symbols → d < points_in g.bound g.tags → IsKnown g.limit (entry_at g y.entries a d) → Among d (get_or (noted x.reached s c) a [])
      in_list a d l n k =
          ⊎_elim
          (λ e1. ⊎_elim
          (λ e2. subst (λ i. Among d (get_or (noted x.reached s c) i [])) (sym e1) (subst (λ i. Among i (get_or (noted x.reached s c) s [])) (sym e2) (noted_there x.reached s c (let o = h.as_many in omega arith))))
          (λ o. noted_kept x.reached s c a d (h.all a d l n (old_known a d n (inr o) k)))
          (cases_eq d c))
          (λ o. noted_kept x.reached s c a d (h.all a d l n (old_known a d n (inl o) k)))
          (cases_eq a s)

  pub lists_written : (wanted : Bool) → (wanted ≡ false → IsKnown g.limit (entry_at g x.entries s c)) → y.reached ≡ (if wanted then noted x.reached s c else x.reached) → HasLists g y
  lists_written true k e = lists_noted e
  lists_written false k e = lists_same e (k refl)

-- nothing is new any more
pub lists_forgotten : (g : Setting) (x y : Sizes) → y.entries ≡ x.entries → y.reached ≡ x.reached → y.news ≡ [] → HasLists g x → HasLists g y
lists_forgotten g x y e f n h = record {
  as_many = ap length f ∙ h.as_many;
  within = λ a. subst (λ us. ArePoints g (get_or us a [])) (sym f) (h.within a);
  all = λ a d l m k. subst (λ us. Among d (get_or us a [])) (sym f) (h.all a d l m (subst (λ es. IsKnown g.limit (entry_at g es a d)) e k));
  news = λ i l. let z = ap length n in absurd (omega arith);
}

-- ---- the numbers of a list from a number on

from_there : (b : Bool) (x : ℕ) (xs : List ℕ) → b ≡ true → Among x (if b then x ∷ xs else xs)
from_there true x xs e = among_first x xs
from_there false x xs e = absurd (cc)

from_kept : (b : Bool) (t x : ℕ) (xs : List ℕ) → Among t xs → Among t (if b then x ∷ xs else xs)
from_kept true t x xs h = among_put t x xs h
from_kept false t x xs h = h

pub from_among : (from t : ℕ) (xs : List ℕ) → from ≤ t → Among t xs → Among t (from_on from xs)
from_among from t [] l h = let i = h.1 in absurd (omega arith)
from_among from t (x ∷ xs) l (zero, m, e) =
    subst (λ i. Among i (from_on from (x ∷ xs))) e (from_there (nat_le from x) x (from_on from xs) (le-leb from x (omega arith)))
from_among from t (x ∷ xs) l (suc i, m, e) =
    from_kept (nat_le from x) t x (from_on from xs) (from_among from t xs l (i, omega arith, e))

-- the numbers lie between both
abbrev Between : ℕ → ℕ → List ℕ → Type 0
Between from upto numbers = (i : ℕ) → i < length numbers → (from ≤ get_or numbers i 0) × (get_or numbers i 0 < upto)

between_put : (from upto x : ℕ) (xs : List ℕ) (b : Bool) → nat_le from x ≡ b → x < upto → Between from upto xs → Between from upto (if b then x ∷ xs else xs)
between_put from upto x xs true e l h zero m = (leb-true from x e, l)
between_put from upto x xs true e l h (suc i) m = h i (omega arith)
between_put from upto x xs false e l h i m = h i m

pub from_within : (from upto : ℕ) (xs : List ℕ) → ((i : ℕ) → i < length xs → get_or xs i 0 < upto) → Between from upto (from_on from xs)
from_within from upto [] h = λ i l. absurd (omega arith)
from_within from upto (x ∷ xs) h =
    between_put from upto x (from_on from xs) (nat_le from x) refl (h 0 (omega arith)) (from_within from upto xs (λ i l. h (suc i) (omega arith)))

pub from_all : (xs : List ℕ) → from_on 0 xs ≡ xs
from_all [] = refl
from_all (x ∷ xs) =
    ap (λ b. if b then x ∷ from_on 0 xs else from_on 0 xs) (le-leb 0 x (omega arith)) ∙ ap (λ ys. x ∷ ys) (from_all xs)

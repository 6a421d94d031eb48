-- Tests of patterns by what is known of variables, and what a constraint's left side gives to its variable.
use Rattle.std.proofs.Common.{◌≡◌, ℕ, zero, suc, Bool, true, List, [], ◌∷◌, Some, inl, inr, ⊎_elim, refl, sym, ap, ◌∙◌, subst}
use Rattle.std.specs.Prelude.{nat_eq, slice_get}
use Rattle.std.proofs.lemmas.Bool.{cond_both, cond-true, and_parts, and_from, or_cases, or_left, or_right, eqb-true, eq-eqb}
use Rattle.pat_words_spec.specs.Words.{Word}
use Rattle.pat_words_spec.specs.Patterns.{Pat, Zero, One, Tag, Sum, Prod, Star, Var, Language, InUnder, sum_of}
use Rattle.pat_words_laws.proofs.PatternLaws.{sum_of_to, sum_of_from}
use Rattle.pat_inclusion_spec.specs.Under.{inhabited_under}
use Rattle.pat_inclusion_spec.specs.bounds.Trees.{Derivable, derivable}
use Rattle.pat_inclusion_spec.specs.bounds.Assignments.{Right, PatternRight, VarRight, Constraint, with_left, with_lefts, lower_of, Meets}
use Rattle.pat_inclusion_laws.proofs.TreeLaws.{lower_derivable, under_derivable, derivable_under, shown_under}
use Rattle.pat_solve_elimination.specs.Variables.{has_var}

-- a test that says yes to no fewer of the variables that occur says yes to no fewer patterns
pub tested_more : (s t : ℕ → Bool) (e : Pat) → ((k : ℕ) → has_var k e ≡ true → s k ≡ true → t k ≡ true) → inhabited_under s e ≡ true → inhabited_under t e ≡ true
tested_more s t Zero f h = h
tested_more s t One f h = h
tested_more s t (Tag m) f h = h
tested_more s t (Sum a b) f h =
    ⊎_elim
    (λ x. or_left (inhabited_under t a) (inhabited_under t b) (tested_more s t a (λ k v. f k (or_left (has_var k a) (has_var k b) v)) x))
    (λ x. or_right (inhabited_under t a) (inhabited_under t b) (tested_more s t b (λ k v. f k (or_right (has_var k a) (has_var k b) v)) x))
    (or_cases (inhabited_under s a) (inhabited_under s b) h)
tested_more s t (Prod a b) f h =
    let both = and_parts (inhabited_under s a) (inhabited_under s b) h in
    and_from (inhabited_under t a) (inhabited_under t b)
    (tested_more s t a (λ k v. f k (or_left (has_var k a) (has_var k b) v)) both.0)
    (tested_more s t b (λ k v. f k (or_right (has_var k a) (has_var k b) v)) both.1)
tested_more s t (Star a) f h = h
tested_more s t (Var j) f h = f j (eq-eqb j j refl) h

-- ---- lower bounds

module _ (values : ℕ → Language) (k : ℕ) (w : Word) where
  one_in : (made left : Pat) (right : Right) → right ≡ VarRight k → InUnder values left w → InUnder values (with_left k made left right) w
  one_in made left right e h =
      subst (λ r. InUnder values (with_left k made left r) w) (sym e)
      (subst (λ x. InUnder values x w) (sym (cond-true (nat_eq k k) (sum_of made left) made (eq-eqb k k refl))) (sum_of_from values made left w (inr h)))

  one_kept : (made left : Pat) (right : Right) → InUnder values made w → InUnder values (with_left k made left right) w
  one_kept made left (PatternRight f) h = h
  one_kept made left (VarRight j) h =
      cond_both (nat_eq j k) (sum_of made left) made (λ e. InUnder values e w) (λ _. sum_of_from values made left w (inl h)) (λ _. h)

  all_kept : (made : Pat) (cs : List Constraint) → InUnder values made w → InUnder values (with_lefts k made cs) w
  all_kept made [] h = h
  all_kept made (c ∷ cs) h = all_kept (with_left k made c.left c.right) cs (one_kept made c.left c.right h)

  -- a word of a left side is one of the lower bound of the right side's variable
  pub left_in : (made : Pat) (cs : List Constraint) (n : ℕ) (c : Constraint) → slice_get cs n ≡ Some c → c.right ≡ VarRight k → InUnder values c.left w → InUnder values (with_lefts k made cs) w
  left_in made [] n c at e h = cc
  left_in made (d ∷ cs) zero c at e h =
      let same : d ≡ c = cc in
      all_kept (with_left k made d.left d.right) cs
      (one_in made d.left d.right (ap (λ (x : Constraint). x.right) same ∙ e) (subst (λ (x : Constraint). InUnder values x.left w) (sym same) h))
  left_in made (d ∷ cs) (suc n) c at e h = left_in (with_left k made d.left d.right) cs n c at e h

  -- the constraint with this variable on its right gives it what its left has
  abbrev Gives : Constraint → Type 0
  Gives c = c.right ≡ VarRight k → InUnder values c.left w → values k w

  one_into : (made left : Pat) (right : Right) → (right ≡ VarRight k → InUnder values left w → values k w) → (InUnder values made w → values k w) → InUnder values (with_left k made left right) w → values k w
  one_into made left (PatternRight f) gives into h = into h
  one_into made left (VarRight j) gives into h =
      cond_both (nat_eq j k) (sum_of made left) made (λ e. InUnder values e w → values k w)
      (λ same x. ⊎_elim into (gives (ap VarRight (eqb-true j k same))) (sum_of_to values made left w x))
      (λ _. into)
      h

  -- a word of the lower bound comes from one of the left sides
  pub lefts_into : (made : Pat) (cs : List Constraint) → ((n : ℕ) (c : Constraint) → slice_get cs n ≡ Some c → Gives c) → (InUnder values made w → values k w) → InUnder values (with_lefts k made cs) w → values k w
  lefts_into made [] gives into h = into h
  lefts_into made (c ∷ cs) gives into h =
      lefts_into (with_left k made c.left c.right) cs (λ n d at. gives (suc n) d at)
      (one_into made c.left c.right (gives 0 c refl) into)
      h

-- where the left side of a constraint has a derivable word, so has the variable on its right
pub left_derivable : (cs : List Constraint) (n k : ℕ) (c : Constraint) (w : Word) → slice_get cs n ≡ Some c → c.right ≡ VarRight k → Derivable (lower_of cs) c.left w → derivable (lower_of cs) k w
left_derivable cs n k c w at e h =
    let lower = lower_of cs in
    lower_derivable lower k w (under_derivable lower (lower k) w (left_in (derivable lower) k w Zero cs n c at e (derivable_under lower c.left w h)))

pub below_meets : (values : ℕ → Language) (cs : List Constraint) → ((n k : ℕ) (c : Constraint) (w : Word) → slice_get cs n ≡ Some c → c.right ≡ VarRight k → InUnder values c.left w → values k w) → Meets (lower_of cs) values
below_meets values cs all k w h = lefts_into values k w Zero cs (λ n c at e. all n k c w at e) (λ z. absurd z) h

-- ---- words under tests

tested_by : (tests : ℕ → Bool) (e : Pat) (w : Word) → InUnder (λ k _. tests k ≡ true) e w → inhabited_under tests e ≡ true
tested_by tests Zero w h = absurd h
tested_by tests One w h = refl
tested_by tests (Tag m) w h = refl
tested_by tests (Sum e f) w h =
    ⊎_elim
    (λ a. or_left (inhabited_under tests e) (inhabited_under tests f) (tested_by tests e w a))
    (λ b. or_right (inhabited_under tests e) (inhabited_under tests f) (tested_by tests f w b))
    h
tested_by tests (Prod e f) w h =
    and_from (inhabited_under tests e) (inhabited_under tests f) (tested_by tests e h.0 h.2) (tested_by tests f h.1 h.3)
tested_by tests (Star e) w h = refl
tested_by tests (Var k) w h = h

-- where no constraint is left that gives a test more, what has a derivable word is tested so
pub tested_all : (tests : ℕ → Bool) (cs : List Constraint) → ((n k : ℕ) (c : Constraint) → slice_get cs n ≡ Some c → c.right ≡ VarRight k → inhabited_under tests c.left ≡ true → tests k ≡ true) → (k : ℕ) → ((w : Word) × derivable (lower_of cs) k w) → tests k ≡ true
tested_all tests cs all k h =
    let d = h.1 in
    shown_under (lower_of cs) (λ j _. tests j ≡ true)
    (below_meets (λ j _. tests j ≡ true) cs (λ n j c w at e i. all n j c at e (tested_by tests c.left w i)))
    d.0 (Var k) h.0 d.1

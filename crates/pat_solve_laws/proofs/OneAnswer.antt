-- Two answers that are both right are the same.
use Rattle.std.proofs.Common.{◌≡◌, ℕ, zero, suc, ◌<◌, List, length, Some, ⊎_elim, refl, sym, ap, ◌∙◌, subst, arith}
use Rattle.pat_words_spec.specs.Words.{Word}
use Rattle.pat_semantics_spec.specs.Programs.{Program}
use Rattle.pat_inclusion_spec.specs.bounds.Trees.{Bound}
use Rattle.pat_infer_spec.specs.Constraints.{Constraint}
use Rattle.pat_solve_spec.specs.Derived.{Form, Patterns, Grids}
use Rattle.pat_solve_spec.specs.Answers.{Answer, Unusable, TooLarge, Refuted, Undecided, Solved, HasNeither, IsUnusable, IsRefuted, IsTooLarge, IsUndecided, IsInBounds, FormIs, AllUsable, NoneOpen, IsRight}
use Rattle.pat_solve_spec.specs.Laws.{AreThere, IsSame, OneAnswer}
use Rattle.pat_solve_laws.proofs.InterfacesThere.{interfaces_there}

least_same : (i j : ℕ) → (i < j → ⊥) → (j < i → ⊥) → i ≡ j
least_same zero zero a b = refl
least_same zero (suc j) a b = absurd (a (omega arith))
least_same (suc i) zero a b = absurd (b (omega arith))
least_same (suc i) (suc j) a b = ap suc (least_same i j (λ l. a (omega arith)) (λ l. b (omega arith)))

module _ (p : Program) (there : AreThere p) where
  usable_not : (k : ℕ) → AllUsable p → IsUnusable p k → ⊥
  usable_not k all u = let word = all k u.variable u.number u.sending in u.none word.0 word.1

  form_not : (points : ℕ → ℕ → List (List ℕ)) (i : ℕ) (f : Form) → FormIs p points i f → HasNeither p i → ⊥
  form_not points i Patterns h n = n.other h
  form_not points i (Grids k) h n = n.out_of_bounds h.0.in_bounds

  module _ (forms : ℕ → Form) (points : ℕ → ℕ → List (List ℕ)) (solved : IsRight p (Solved forms points)) where
    large_not : (i : ℕ) → i < length p.interfaces → IsTooLarge p i → ⊥
    large_not i l h =
        ⊎_elim
        (λ n. form_not points i (forms i) (solved.1 i l) n.0)
        (λ c. let word = c.4.large.0 in word.2.1 (solved.2 c.0 c.1 c.2 c.4.searched word.0 (word.1, word.2.0)))
        h

    refuted_not : (n : ℕ) (w : Word) (b : Bound) → IsRefuted p n w b → ⊥
    refuted_not n w b r = r.found.0.1 (solved.2 n r.constraint r.at r.searched w (b, r.found.0.0))

    undecided_not : (n : ℕ) → IsUndecided p n → ⊥
    undecided_not n u =
        form_not points u.constraint.interface (forms u.constraint.interface) (solved.1 u.constraint.interface (there.constraints n u.constraint u.at)) u.neither

  -- no constraint is both refuted and undecided
  both_not : (n : ℕ) (w : Word) (b : Bound) → IsRefuted p n w b → IsUndecided p n → ⊥
  both_not n w b r u =
      let one : Some r.constraint ≡ Some u.constraint = sym r.at ∙ u.at in
      let same : r.constraint ≡ u.constraint = cc in
      u.neither.out_of_bounds (subst (λ (c : Constraint). IsInBounds p c.interface) same r.searched.grids.in_bounds)

  open_not : (n m : ℕ) (w : Word) (b : Bound) → IsRefuted p n w b → NoneOpen p n → IsUndecided p m → NoneOpen p m → ⊥
  open_not n m w b r before u after =
      let same : n ≡ m = least_same n m (λ l. after.refuted n w b l r) (λ l. before.undecided m l u) in
      both_not n w b r (subst (IsUndecided p) (sym same) u)

  one : (a b : Answer) → IsRight p a → IsRight p b → IsSame a b
  one (Unusable k) (Unusable j) r s = least_same k j (λ l. s.1 k l r.0) (λ l. r.1 j l s.0)
  one (Unusable k) (TooLarge i) r s = usable_not k s.0 r.0
  one (Unusable k) (Refuted n w b) r s = usable_not k s.0 r.0
  one (Unusable k) (Undecided n) r s = usable_not k s.0 r.0
  one (Unusable k) (Solved f g) r s = usable_not k s.0 r.0
  one (TooLarge i) (Unusable k) r s = usable_not k r.0 s.0
  one (TooLarge i) (TooLarge j) r s = least_same i j (λ l. s.3 i l r.2) (λ l. r.3 j l s.2)
  one (TooLarge i) (Refuted n w b) r s = s.1 i r.1 r.2
  one (TooLarge i) (Undecided n) r s = s.1 i r.1 r.2
  one (TooLarge i) (Solved f g) r s = large_not f g s i r.1 r.2
  one (Refuted n w b) (Unusable k) r s = usable_not k r.0 s.0
  one (Refuted n w b) (TooLarge i) r s = r.1 i s.1 s.2
  one (Refuted n w b) (Refuted m v c) r s = least_same n m (λ l. s.3.refuted n w b l r.2) (λ l. r.3.refuted m v c l s.2)
  one (Refuted n w b) (Undecided m) r s = open_not n m w b r.2 r.3 s.2 s.3
  one (Refuted n w b) (Solved f g) r s = refuted_not f g s n w b r.2
  one (Undecided n) (Unusable k) r s = usable_not k r.0 s.0
  one (Undecided n) (TooLarge i) r s = r.1 i s.1 s.2
  one (Undecided n) (Refuted m w b) r s = open_not m n w b s.2 s.3 r.2 r.3
  one (Undecided n) (Undecided m) r s = least_same n m (λ l. s.3.undecided n l r.2) (λ l. r.3.undecided m l s.2)
  one (Undecided n) (Solved f g) r s = undecided_not f g s n r.2
  one (Solved f g) (Unusable k) r s = usable_not k r.0 s.0
  one (Solved f g) (TooLarge i) r s = large_not f g r i s.1 s.2
  one (Solved f g) (Refuted n w b) r s = refuted_not f g r n w b s.2
  one (Solved f g) (Undecided n) r s = undecided_not f g r n s.2
  one (Solved f g) (Solved h k) r s = tt

pub one_answer : OneAnswer
one_answer p a b wf r s = one p (interfaces_there p wf) a b r s

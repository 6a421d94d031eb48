-- The entries of an environment in order: each is what the environment says of its variable.
use Rattle.std.proofs.Common.{◌≡◌, ℕ, suc, ◌≤◌, Bool, true, nat_eq, List, [], ◌∷◌, Some, refl, sym, ◌∙◌, arith}
use Rattle.std.specs.Prelude.{nat_le}
use Rattle.std.specs.List.{AllByRecursion, list_all}
use Rattle.std.proofs.lemmas.Bool.{and_from, eq-eqb, ne_eqb, cond-true, cond-false, le-leb}
use Rattle.pat_type_system_spec.specs.Types.{MailboxType}
use Rattle.pat_type_schemes_spec.specs.NodeTypes.{Needs, need_of}
use Rattle.pat_derivation_spec.specs.Derivations.{ascends_from}
use Rattle.pat_infer_spec.specs.Shapes.{NeedsAscend}

pub ascends : (k : ℕ) (es : Needs) → NeedsAscend k es → ascends_from k es ≡ true
ascends k [] h = refl
ascends k (e ∷ es) h = and_from (nat_le k e.0) (ascends_from (suc e.0) es) (le-leb k e.0 h.0) (ascends (suc e.0) es h.1)

all_from : (j k : ℕ) (es : Needs) → j ≤ k → NeedsAscend k es → AllByRecursion (λ (e : ℕ × MailboxType). j ≤ e.0) es
all_from j k [] l h = tt
all_from j k (e ∷ es) l h = let a = h.0 in ((omega arith), all_from j (suc e.0) es (omega arith) h.1)

shifted : (e : ℕ × MailboxType) (all es : Needs) → AllByRecursion (λ (f : ℕ × MailboxType). suc e.0 ≤ f.0) es → AllByRecursion (λ (f : ℕ × MailboxType). need_of all f.0 ≡ Some f.1) es → AllByRecursion (λ (f : ℕ × MailboxType). need_of (e ∷ all) f.0 ≡ Some f.1) es
shifted e all [] a h = tt
shifted e all (f ∷ es) a h =
    (cond-false (nat_eq f.0 e.0) (Some e.1) (need_of all f.0) (ne_eqb f.0 e.0 (λ q. less e.0 f.0 a.0 (sym q))) ∙ h.0, shifted e all es a.1 h.1)
  where
    less : (a b : ℕ) → suc a ≤ b → a ≡ b → ⊥
    less a b l q = omega arith

pub entries_found : (k : ℕ) (es : Needs) → NeedsAscend k es → AllByRecursion (λ (e : ℕ × MailboxType). need_of es e.0 ≡ Some e.1) es
entries_found k [] h = tt
entries_found k (e ∷ es) h = (
  cond-true (nat_eq e.0 e.0) (Some e.1) (need_of es e.0) (eq-eqb e.0 e.0 refl),
  shifted e es es (all_from (suc e.0) (suc e.0) es (omega arith) h.1) (entries_found (suc e.0) es h.1),
)

pub all_true : {A : Type 0} (test : A → Bool) (xs : List A) → AllByRecursion (λ x. test x ≡ true) xs → list_all test xs ≡ true
all_true test [] h = refl
all_true test (x ∷ xs) h = and_from (test x) (list_all test xs) h.0 (all_true test xs h.1)

-- The holdings of a control and of a frame, where a frame comes or goes.
use Rattle.std.proofs.Common.{◌≡◌, List, [], ◌∷◌, ◌++◌, Some, None, refl, sym, subst, append_assoc, ℕ, true, false, ◌||◌, nat_eq, if◌then◌else◌, Option, ◌∙◌, ⊎_elim, ap}
use Rattle.pat_words_spec.specs.Words.{Word}
use Rattle.pat_semantics_spec.specs.Programs.{is_among, option_list, Program, Let}
use Rattle.pat_type_system_spec.specs.Types.{TypeEnv}
use Rattle.pat_type_system_spec.specs.Typings.{name_type}
use Rattle.pat_type_system_spec.specs.Holdings.{Holding, Balanced}
use Rattle.pat_safety_laws.proofs.Balance.{Refines, refine_balance, balance_front, balance_back}
use Rattle.pat_semantics_spec.specs.Values.{Value, Env, value_at, Kind}
use Rattle.pat_semantics_spec.specs.Steps.{bind_name}
use Rattle.pat_safety_laws.proofs.Envs.{value_at-bind}
use Rattle.std.proofs.lemmas.Bool.{or_cases, eqb-true}
use Rattle.std.specs.Prelude.{slice_get}
use Rattle.pat_semantics_spec.specs.WellFormed.{CoreKinds, HasKind}

-- two holdings of a thread give way to one
pub two_to_one : (before fs after ms : List Holding) (h k n : Holding) (r : Word) → ((ks : List Holding) → Balanced (h ∷ k ∷ ks) r → Balanced (n ∷ ks) r) → Balanced ((before ++ ((h ∷ k ∷ fs) ++ after)) ++ ms) r → Balanced ((before ++ ((n ∷ fs) ++ after)) ++ ms) r
two_to_one before fs after ms h k n r turn b =
    let rest = (fs ++ after) ++ ms in
    let one = balance_front before h (k ∷ rest) r (subst (λ l. Balanced l r) (append_assoc before ((h ∷ k ∷ fs) ++ after) ms) b) in
    let two = balance_front (h ∷ before) k rest r one in
    let three = balance_front (k ∷ []) h (before ++ rest) r two in
    let new = turn (before ++ rest) three in
    subst (λ l. Balanced l r) (sym (append_assoc before ((n ∷ fs) ++ after) ms)) (balance_back before n rest r new)

-- one holding of a thread gives way to two
pub one_to_two : (before fs after ms : List Holding) (h k n : Holding) (r : Word) → Refines (h ∷ []) r (k ∷ n ∷ []) r → Balanced ((before ++ ((h ∷ fs) ++ after)) ++ ms) r → Balanced ((before ++ ((k ∷ n ∷ fs) ++ after)) ++ ms) r
one_to_two before fs after ms h k n r refines b =
    let rest = (fs ++ after) ++ ms in
    let one = balance_front before h rest r (subst (λ l. Balanced l r) (append_assoc before ((h ∷ fs) ++ after) ms) b) in
    let two = refine_balance (h ∷ []) (k ∷ n ∷ []) (before ++ rest) r r refines one in
    let three = balance_front (k ∷ []) n (before ++ rest) r two in
    let four = balance_back (k ∷ before) n rest r three in
    let five = balance_back before k (n ∷ rest) r four in
    subst (λ l. Balanced l r) (sym (append_assoc before ((k ∷ n ∷ fs) ++ after) ms)) five

-- ---- the name of a frame

-- the value that is bound, or the one that was there
pub bind_name_at : (env : Env) (x : Option ℕ) (v : Value) (z : ℕ) → value_at (bind_name env x v) z ≡ (if is_among z (option_list x) then Some v else value_at env z)
bind_name_at env None v z = refl
bind_name_at env (Some x) v z =
    value_at-bind env x v z
    ∙ elim (nat_eq z x) as (λ t. (if t then Some v else value_at env z) ≡ (if t || false then Some v else value_at env z)) [ true ↦ refl | false ↦ refl ]

-- the only name
pub only_name : (x : Option ℕ) (z w : ℕ) → is_among z (option_list x) ≡ true → is_among w (option_list x) ≡ true → z ≡ w
only_name None z w h k = cc
only_name (Some x) z w h k = eqb-true z x (one z h) ∙ sym (eqb-true w x (one w k))
  where
    one : (z : ℕ) → (nat_eq z x || false) ≡ true → nat_eq z x ≡ true
    one z h = ⊎_elim (λ l. l) (λ r. cc) (or_cases (nat_eq z x) false h)

-- a name has the type of its let's
pub name_here : (x : Option ℕ) (z : ℕ) (g : TypeEnv) → is_among z (option_list x) ≡ true → name_type x g ≡ g z
name_here None z g h = cc
name_here (Some x) z g h = ap g (sym (eqb-true z x (⊎_elim (λ l. l) (λ r. cc) (or_cases (nat_eq z x) false h))))

-- the kind of the name of a let is that of its bound part
pub name_kind : (p : Program) (vars : List Kind) (k : Kind) (x : Option ℕ) (m b z : ℕ) → CoreKinds p vars k (Let x m b) → is_among z (option_list x) ≡ true → (j : Kind) × (slice_get vars z ≡ Some j) × HasKind p m j
name_kind p vars k None m b z h a = cc
name_kind p vars k (Some x) m b z h a =
    (h.0, ap (slice_get vars) (eqb-true z x (⊎_elim (λ l. l) (λ r. cc) (or_cases (nat_eq z x) false a))) ∙ h.1, h.2)

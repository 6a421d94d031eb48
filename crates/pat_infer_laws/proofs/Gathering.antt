-- What is gathered variable by variable.
use Rattle.std.proofs.Common.{◌≡◌, ℕ, suc, ◌+◌, Bool, true, false, nat_eq, List, [], ◌∷◌, ◌++◌, length, Option, Some, None, refl, sym, ap, ◌∙◌, subst, arith}
use Rattle.std.specs.Prelude.{option_map}
use Rattle.std.specs.List.{AllByRecursion}
use Rattle.std.proofs.lemmas.Bool.{eqb-true, cond-false, cond-true, or_from}
use Rattle.pat_words_spec.specs.Patterns.{Pat}
use Rattle.pat_semantics_spec.specs.Programs.{is_among}
use Rattle.pat_semantics_laws.proofs.Lists.{nil_parts, all_join}
use Rattle.pat_type_system_spec.specs.Types.{MailboxType}
use Rattle.pat_type_system_spec.specs.Typings.{Typing}
use Rattle.pat_type_schemes_spec.specs.Signatures.{Variable}
use Rattle.pat_type_schemes_spec.specs.NodeTypes.{Needs, need_of}
use Rattle.pat_infer_spec.specs.Constraints.{Place, Rule, unless, each_unless, Constraint}
use Rattle.pat_infer_spec.specs.Needs.{Combined, vars_with, constraints_with, need_before, gather}
use Rattle.pat_infer_spec.specs.Solutions.{GivesFrom}

-- ---- lists in a row

pub all_parts : {A : Type 0} (P : A → Type 0) (xs ys : List A) → AllByRecursion P (xs ++ ys) → AllByRecursion P xs × AllByRecursion P ys
all_parts P [] ys h = (tt, h)
all_parts P (x ∷ xs) ys h = let q = all_parts P xs ys h.1 in ((h.0, q.0), q.1)

pub all_map : {A : Type 0} (P Q : A → Type 0) → ((x : A) → P x → Q x) → (xs : List A) → AllByRecursion P xs → AllByRecursion Q xs
all_map P Q f [] h = tt
all_map P Q f (x ∷ xs) h = (f x h.0, all_map P Q f xs h.1)

pub gives_parts : (y : Typing) (s : ℕ → Pat) (k : ℕ) (us vs : List Variable) → GivesFrom y s k (us ++ vs) → GivesFrom y s k us × GivesFrom y s (k + length us) vs
gives_parts y s k [] vs h = (tt, subst (λ j. GivesFrom y s j vs) (omega arith) h)
gives_parts y s k (u ∷ us) vs h =
    let q = gives_parts y s (suc k) us vs h.1 in
    let same : suc k + length us ≡ k + suc (length us) = omega arith in
    ((h.0, q.0), subst (λ j. GivesFrom y s j vs) same q.1)

-- ---- findings

pub unless_none : (b : Bool) (r : Rule) (at : Place) → b ≡ true → unless b r at ≡ []
unless_none true r at h = refl
unless_none false r at h = cc

pub none_unless : (b : Bool) (r : Rule) (at : Place) → unless b r at ≡ [] → b ≡ true
none_unless true r at h = refl
none_unless false r at h = cc

pub each_none : {A : Type 0} (test : A → Bool) (r : Rule) (at : A → Place) (xs : List A) → AllByRecursion (λ x. test x ≡ true) xs → each_unless test r at xs ≡ []
each_none test r at [] h = refl
each_none test r at (x ∷ xs) h =
    ap (λ l. l ++ each_unless test r at xs) (unless_none (test x) r (at x) h.0) ∙ each_none test r at xs h.1

pub none_each : {A : Type 0} (test : A → Bool) (r : Rule) (at : A → Place) (xs : List A) → each_unless test r at xs ≡ [] → AllByRecursion (λ x. test x ≡ true) xs
none_each test r at [] h = tt
none_each test r at (x ∷ xs) h =
    let q = nil_parts (unless (test x) r (at x)) (each_unless test r at xs) h in
    (none_unless (test x) r (at x) q.0, none_each test r at xs q.1)

pub nil_join : {A : Type 0} (xs ys : List A) → xs ≡ [] → ys ≡ [] → xs ++ ys ≡ []
nil_join [] ys h k = k
nil_join (x ∷ xs) ys h k = cc

pub all_any : {A : Type 0} (P : A → Type 0) → ((x : A) → P x) → (xs : List A) → AllByRecursion P xs
all_any P f [] = tt
all_any P f (x ∷ xs) = (f x, all_any P f xs)

pub all_with : {A : Type 0} (P Q R : A → Type 0) → ((x : A) → P x → Q x → R x) → (xs : List A) → AllByRecursion P xs → AllByRecursion Q xs → AllByRecursion R xs
all_with P Q R f [] h k = tt
all_with P Q R f (x ∷ xs) h k = (f x h.0 k.0, all_with P Q R f xs h.1 k.1)

-- what holds of each of the names and of each other number holds of all
pub among_all : (P : ℕ → Type 0) (xs : List ℕ) → AllByRecursion P xs → (z : ℕ) → (is_among z xs ≡ false → P z) → P z
among_all P [] h z other = other refl
among_all P (x ∷ xs) h z other =
    (elim (nat_eq z x) as (λ t. nat_eq z x ≡ t → P z) [
      | true ↦ λ q. subst P (sym (eqb-true z x q)) h.0
      | false ↦ λ q. among_all P xs h.1 z (λ off. other (or_from (nat_eq z x) (is_among z xs) q off))
    ]) refl

-- ---- gathering

-- the need of what is taken together, if there is one
abbrev pub need_with : Option Combined → Option MailboxType
need_with o = option_map (λ (c : Combined). c.need) o

-- a property of each variable with its first number and what is taken together
abbrev pub Each : (ℕ → ℕ → Option Combined → Type 0) → (ℕ → ℕ → Option Combined) → ℕ → List ℕ → Type 0
Each P f k [] = Unit {0}
Each P f k (x ∷ xs) = P k x (f k x) × Each P f (k + length (vars_with (f k x))) xs

pub each_map : (P Q : ℕ → ℕ → Option Combined → Type 0) (f : ℕ → ℕ → Option Combined) → ((k x : ℕ) → P k x (f k x) → Q k x (f k x)) → (k : ℕ) (xs : List ℕ) → Each P f k xs → Each Q f k xs
each_map P Q f into k [] h = tt
each_map P Q f into k (x ∷ xs) h = (into k x h.0, each_map P Q f into (k + length (vars_with (f k x))) xs h.1)

-- what doesn't speak of numbers holds of each variable
pub each_all : (P : ℕ → Type 0) (f : ℕ → ℕ → Option Combined) (k : ℕ) (xs : List ℕ) → Each (λ j x o. P x) f k xs → AllByRecursion P xs
each_all P f k [] h = tt
each_all P f k (x ∷ xs) h = (h.0, each_all P f (k + length (vars_with (f k x))) xs h.1)

pub all_each : (P : ℕ → Type 0) (f : ℕ → ℕ → Option Combined) (k : ℕ) (xs : List ℕ) → AllByRecursion P xs → Each (λ j x o. P x) f k xs
all_each P f k [] h = tt
all_each P f k (x ∷ xs) h = (h.0, all_each P f (k + length (vars_with (f k x))) xs h.1)

pub each_with : (P Q R : ℕ → ℕ → Option Combined → Type 0) (f : ℕ → ℕ → Option Combined) → ((k x : ℕ) → P k x (f k x) → Q k x (f k x) → R k x (f k x)) → (k : ℕ) (xs : List ℕ) → Each P f k xs → Each Q f k xs → Each R f k xs
each_with P Q R f into k [] h g = tt
each_with P Q R f into k (x ∷ xs) h g = (into k x h.0 g.0, each_with P Q R f into (k + length (vars_with (f k x))) xs h.1 g.1)

pub each_any : (P : ℕ → ℕ → Option Combined → Type 0) (f : ℕ → ℕ → Option Combined) → ((k x : ℕ) → P k x (f k x)) → (k : ℕ) (xs : List ℕ) → Each P f k xs
each_any P f h k [] = tt
each_any P f h k (x ∷ xs) = (h k x, each_any P f h (k + length (vars_with (f k x))) xs)

-- the new variables of each have their patterns
abbrev pub EachGives : Typing → (ℕ → Pat) → ℕ → ℕ → Option Combined → Type 0
EachGives y s k x o = GivesFrom y s k (vars_with o)

pub gather_gives : (y : Typing) (s : ℕ → Pat) (f : ℕ → ℕ → Option Combined) (k : ℕ) (xs : List ℕ) → GivesFrom y s k (gather f k xs).vars → Each (EachGives y s) f k xs
gather_gives y s f k [] h = tt
gather_gives y s f k (x ∷ xs) h =
    let j : ℕ = k + length (vars_with (f k x)) in
    let q = gives_parts y s k (vars_with (f k x)) (gather f j xs).vars h in
    (q.0, gather_gives y s f j xs q.1)

-- the constraints of each hold
abbrev pub EachHolds : (Constraint → Type 0) → ℕ → ℕ → Option Combined → Type 0
EachHolds H k x o = AllByRecursion H (constraints_with o)

pub gather_holds : (H : Constraint → Type 0) (f : ℕ → ℕ → Option Combined) (k : ℕ) (xs : List ℕ) → Each (EachHolds H) f k xs → AllByRecursion H (gather f k xs).constraints
gather_holds H f k [] h = tt
gather_holds H f k (x ∷ xs) h =
    let j : ℕ = k + length (vars_with (f k x)) in
    all_join H (constraints_with (f k x)) (gather f j xs).constraints h.0 (gather_holds H f j xs h.1)

pub holds_gather : (H : Constraint → Type 0) (f : ℕ → ℕ → Option Combined) (k : ℕ) (xs : List ℕ) → AllByRecursion H (gather f k xs).constraints → Each (EachHolds H) f k xs
holds_gather H f k [] h = tt
holds_gather H f k (x ∷ xs) h =
    let j : ℕ = k + length (vars_with (f k x)) in
    let q = all_parts H (constraints_with (f k x)) (gather f j xs).constraints h in
    (q.0, holds_gather H f j xs q.1)

-- what is gathered of a variable is what is taken together for it, and nothing where it isn't among the variables
abbrev pub EachNeed : (ℕ → Option MailboxType → Type 0) → ℕ → ℕ → Option Combined → Type 0
EachNeed Q k x o = Q x (need_with o)

need_on : (x : ℕ) (o : Option Combined) (rest : Needs) (z : ℕ) → nat_eq z x ≡ false → need_of (need_before x o rest) z ≡ need_of rest z
need_on x None rest z h = refl
need_on x (Some c) rest z h = cond-false (nat_eq z x) (Some c.need) (need_of rest z) h

-- the first, where the others give what they have
gather_first : (Q : ℕ → Option MailboxType → Type 0) (x : ℕ) (o : Option Combined) (xs : List ℕ) (rest : Needs) (z : ℕ) → Q x (need_with o) → ((is_among z xs ≡ false → Q z None) → Q z (need_of rest z)) → (is_among z (x ∷ xs) ≡ false → Q z None) → Q z (need_of (need_before x o rest) z)
gather_first Q x o xs rest z now later other =
    (elim (nat_eq z x) as (λ t. nat_eq z x ≡ t → Q z (need_of (need_before x o rest) z)) [
      | true ↦ λ q. here o now q
      | false ↦ λ q.
          subst (Q z) (sym (need_on x o rest z q)) (later (λ off. other (or_from (nat_eq z x) (is_among z xs) q off)))
    ]) refl
  where
    here : (o : Option Combined) → Q x (need_with o) → nat_eq z x ≡ true → Q z (need_of (need_before x o rest) z)
    here None now q = later (λ off. subst (λ u. Q u None) (sym (eqb-true z x q)) now)
    here (Some c) now q =
        subst (Q z) (sym (cond-true (nat_eq z x) (Some c.need) (need_of rest z) q))
        (subst (λ u. Q u (Some c.need)) (sym (eqb-true z x q)) now)

pub gather_needs : (Q : ℕ → Option MailboxType → Type 0) (f : ℕ → ℕ → Option Combined) (k : ℕ) (xs : List ℕ) → Each (EachNeed Q) f k xs → (z : ℕ) → (is_among z xs ≡ false → Q z None) → Q z (need_of (gather f k xs).needs z)
gather_needs Q f k [] h z other = other refl
gather_needs Q f k (x ∷ xs) h z other =
    let j : ℕ = k + length (vars_with (f k x)) in
    gather_first Q x (f k x) xs (gather f j xs).needs z h.0 (gather_needs Q f j xs h.1 z) other

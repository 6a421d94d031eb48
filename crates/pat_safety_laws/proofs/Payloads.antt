-- The payloads of a received message, under the names of a clause.
use Rattle.std.proofs.Common.{◌≡◌, ℕ, suc, true, false, ◌||◌, nat_eq, if◌then◌else◌, List, [], ◌∷◌, length, Some, refl, sym, ap, ◌∙◌, subst, arith, ⊎_elim, IsTrue}
use Rattle.std.specs.Prelude.{is_some}
use Rattle.std.specs.List.{AllByRecursion, IsDistinct, list_any}
use Rattle.std.proofs.lemmas.Bool.{eqb-true, eq-eqb, cond-true, cond-false, cases_Bool, or_parts, or_cases, or_left, or_right}
use Rattle.pat_semantics_spec.specs.Values.{Value, Const, Mailbox, Env, value_at, bind_all}
use Rattle.pat_semantics_spec.specs.Programs.{is_among}
use Rattle.pat_semantics_spec.specs.Configs.{is_mailbox}
use Rattle.pat_type_system_spec.specs.Types.{TypeEnv}
use Rattle.pat_type_system_spec.specs.Typings.{with_payloads}
use Rattle.pat_type_system_spec.specs.Holdings.{payload_held}
use Rattle.pat_type_system_spec.specs.Typed.{mailboxes_of}
use Rattle.pat_safety_laws.proofs.Refers.{is_mailbox_same, name_is}
use Rattle.pat_safety_laws.proofs.Envs.{value_at-bind}
use Rattle.pat_semantics_laws.proofs.Lists.{ne_turn, distinct_parts}
use Rattle.pat_type_system_laws.proofs.Environments.{option_here, option_there}

-- a place whose value is a mailbox has a type
abbrev pub HaveTypes : TypeEnv → ℕ → List Value → Type 0
HaveTypes types k [] = Unit {0}
HaveTypes types k (Const c ∷ vs) = HaveTypes types (suc k) vs
HaveTypes types k (Mailbox a ∷ vs) = IsTrue (is_some (types k)) × HaveTypes types (suc k) vs

-- a mailbox that is apart from all names is not among the values
apart_from : (b : ℕ) (vs : List Value) → AllByRecursion (λ y. nat_eq b y ≡ false) (mailboxes_of vs) → list_any (is_mailbox b) vs ≡ false
apart_from b [] a = refl
apart_from b (Const c ∷ vs) a = apart_from b vs a
apart_from b (Mailbox x ∷ vs) a = ap (λ t. t || list_any (is_mailbox b) vs) a.0 ∙ apart_from b vs a.1

pub names_tail : (v : Value) (vs : List Value) → IsDistinct nat_eq (mailboxes_of (v ∷ vs)) → IsDistinct nat_eq (mailboxes_of vs)
unfolding IsDistinct
names_tail (Const c) vs d = d
names_tail (Mailbox a) vs d = d.1

pub names_head : (b : ℕ) (vs : List Value) → IsDistinct nat_eq (mailboxes_of (Mailbox b ∷ vs)) → list_any (is_mailbox b) vs ≡ false
unfolding IsDistinct
names_head b vs d = apart_from b vs d.0

types_tail : (types : TypeEnv) (k : ℕ) (v : Value) (vs : List Value) → HaveTypes types k (v ∷ vs) → HaveTypes types (suc k) vs
types_tail types k (Const c) vs h = h
types_tail types k (Mailbox a) vs h = h.1

pub value_off : (env : Env) (xs : List ℕ) (vs : List Value) (z : ℕ) → is_among z xs ≡ false → value_at (bind_all env xs vs) z ≡ value_at env z
value_off env [] vs z h = refl
value_off env (x ∷ xs) [] z h = refl
value_off env (x ∷ xs) (v ∷ vs) z h =
    let p = or_parts (nat_eq z x) (is_among z xs) h in
    value_at-bind (bind_all env xs vs) x v z ∙ cond-false (nat_eq z x) (Some v) (value_at (bind_all env xs vs) z) p.0 ∙ value_off env xs vs z p.1

-- a variable that names b: it did so before, or it is a payload's name, with the type that is declared for b
pub data PayloadCases (g types : TypeEnv) (env : Env) (b k : ℕ) (xs : List ℕ) (vs : List Value) (z : ℕ) : Type 0 where
  of_env : is_among z xs ≡ false → value_at env z ≡ Some (Mailbox b) → PayloadCases g types env b k xs vs z
  of_payload : is_among z xs ≡ true → list_any (is_mailbox b) vs ≡ true → with_payloads types k xs g z ≡ payload_held b types k vs → PayloadCases g types env b k xs vs z

payload_on : (g types : TypeEnv) (env : Env) (b k x : ℕ) (xs : List ℕ) (v : Value) (vs : List Value) (z : ℕ) → nat_eq z x ≡ false → IsDistinct nat_eq (mailboxes_of (v ∷ vs)) → PayloadCases g types env b (suc k) xs vs z → PayloadCases g types env b k (x ∷ xs) (v ∷ vs) z
payload_on g types env b k x xs v vs z off d (of_env out at) = of_env (ap (λ t. t || is_among z xs) off ∙ out) at
payload_on g types env b k x xs v vs z off d (of_payload among found is) =
    of_payload
    (or_right (nat_eq z x) (is_among z xs) among)
    (or_right (is_mailbox b v) (list_any (is_mailbox b) vs) found)
    (option_there x (types k) (with_payloads types (suc k) xs g) z (ne_turn z x off)
    ∙ is
    ∙ sym (cond-false (is_mailbox b v) (types k) (payload_held b types (suc k) vs) (other v d)))
  where
    true_false : true ≡ false → ⊥
    true_false e = cc

    other : (v : Value) → IsDistinct nat_eq (mailboxes_of (v ∷ vs)) → is_mailbox b v ≡ false
    other v d =
        ⊎_elim
        (λ same. absurd (true_false (sym found ∙ names_head b vs (subst (λ (w : Value). IsDistinct nat_eq (mailboxes_of (w ∷ vs))) (is_mailbox_same b v same) d))))
        (λ apart. apart)
        (cases_Bool (is_mailbox b v))

pub payload_cases : (g types : TypeEnv) (env : Env) (b k : ℕ) (xs : List ℕ) (vs : List Value) (z : ℕ) → length xs ≡ length vs → HaveTypes types k vs → IsDistinct nat_eq (mailboxes_of vs) → value_at (bind_all env xs vs) z ≡ Some (Mailbox b) → PayloadCases g types env b k xs vs z
payload_cases g types env b k [] vs z len h d at = of_env refl at
payload_cases g types env b k (x ∷ xs) [] z len h d at = absurd (omega arith)
payload_cases g types env b k (x ∷ xs) (v ∷ vs) z len h d at =
    (elim (nat_eq z x) as (λ t. nat_eq z x ≡ t → (if t then Some v else value_at (bind_all env xs vs) z) ≡ Some (Mailbox b) → PayloadCases g types env b k (x ∷ xs) (v ∷ vs) z) [
      | true ↦ λ q at'.
          let same : v ≡ Mailbox b = cc in
          let named : is_mailbox b v ≡ true = ap (is_mailbox b) same ∙ name_is b in
          let has : HaveTypes types k (Mailbox b ∷ vs) = subst (λ (w : Value). HaveTypes types k (w ∷ vs)) same h in
          of_payload
          (or_left (nat_eq z x) (is_among z xs) q)
          (or_left (is_mailbox b v) (list_any (is_mailbox b) vs) named)
          (option_here x (types k) (with_payloads types (suc k) xs g) z has.0 (eq-eqb x z (sym (eqb-true z x q)))
          ∙ sym (cond-true (is_mailbox b v) (types k) (payload_held b types (suc k) vs) named))
      | false ↦ λ q at'.
          payload_on g types env b k x xs v vs z q d
          (payload_cases g types env b (suc k) xs vs z (omega arith) (types_tail types k v vs h) (names_tail v vs d) at')
    ]) refl (sym (value_at-bind (bind_all env xs vs) x v z) ∙ at)

-- a mailbox among the payloads is under a name, with the type that is declared for it
pub record PayloadPlace (g types : TypeEnv) (env : Env) (b k : ℕ) (xs : List ℕ) (vs : List Value) : Type 0 where
  pub var : ℕ
  pub among : is_among var xs ≡ true
  pub at : value_at (bind_all env xs vs) var ≡ Some (Mailbox b)
  pub is : with_payloads types k xs g var ≡ payload_held b types k vs
  pub typed : is_some (payload_held b types k vs) ≡ true

among_apart : (x z : ℕ) (xs : List ℕ) → AllByRecursion (λ y. nat_eq x y ≡ false) xs → is_among z xs ≡ true → nat_eq z x ≡ false
among_apart x z [] a h = cc
among_apart x z (y ∷ ys) a h =
    ⊎_elim
    (λ q. let same : z ≡ y = eqb-true z y q in subst (λ w. nat_eq w x ≡ false) (sym same) (ne_turn x y a.0))
    (λ q. among_apart x z ys a.1 q)
    (or_cases (nat_eq z y) (is_among z ys) h)

pub payload_place : (g types : TypeEnv) (env : Env) (b k : ℕ) (xs : List ℕ) (vs : List Value) → length xs ≡ length vs → IsDistinct nat_eq xs → HaveTypes types k vs → list_any (is_mailbox b) vs ≡ true → PayloadPlace g types env b k xs vs
payload_place g types env b k xs [] len d h found = cc
payload_place g types env b k [] (v ∷ vs) len d h found = absurd (omega arith)
payload_place g types env b k (x ∷ xs) (v ∷ vs) len d h found =
    (elim (is_mailbox b v) as (λ t. is_mailbox b v ≡ t → PayloadPlace g types env b k (x ∷ xs) (v ∷ vs)) [
      | true ↦ λ q.
          let same = is_mailbox_same b v q in
          let has : HaveTypes types k (Mailbox b ∷ vs) = subst (λ (w : Value). HaveTypes types k (w ∷ vs)) same h in
          let held_is : payload_held b types k (v ∷ vs) ≡ types k = cond-true (is_mailbox b v) (types k) (payload_held b types (suc k) vs) q in
          record {
            var = x;
            among = or_left (nat_eq x x) (is_among x xs) (eq-eqb x x refl);
            at = value_at-bind (bind_all env xs vs) x v x ∙ cond-true (nat_eq x x) (Some v) (value_at (bind_all env xs vs) x) (eq-eqb x x refl) ∙ ap (λ w. Some w) same;
            is = option_here x (types k) (with_payloads types (suc k) xs g) x has.0 (eq-eqb x x refl) ∙ sym held_is;
            typed = ap is_some held_is ∙ has.0;
          }
      | false ↦ λ q.
          let rest_found : list_any (is_mailbox b) vs ≡ true = sym (ap (λ t. t || list_any (is_mailbox b) vs) q) ∙ found in
          let rest = payload_place g types env b (suc k) xs vs (omega arith) (distinct_parts x xs d).1 (types_tail types k v vs h) rest_found in
          let apart = among_apart x rest.var xs (distinct_parts x xs d).0 rest.among in
          let held_is : payload_held b types k (v ∷ vs) ≡ payload_held b types (suc k) vs = cond-false (is_mailbox b v) (types k) (payload_held b types (suc k) vs) q in
          record {
            var = rest.var;
            among = or_right (nat_eq rest.var x) (is_among rest.var xs) rest.among;
            at = value_at-bind (bind_all env xs vs) x v rest.var ∙ cond-false (nat_eq rest.var x) (Some v) (value_at (bind_all env xs vs) rest.var) apart ∙ rest.at;
            is = option_there x (types k) (with_payloads types (suc k) xs g) rest.var (ne_turn rest.var x apart) ∙ rest.is ∙ sym held_is;
            typed = ap is_some held_is ∙ rest.typed;
          }
    ]) refl

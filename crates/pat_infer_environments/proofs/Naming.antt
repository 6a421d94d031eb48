-- A name that is put among others on a stack.
use Rattle.std.proofs.Common.{◌≡◌, ℕ, ◌<◌, true, false, nat_eq, nat_lt, if◌then◌else◌, List, [], ◌∷◌, refl, sym, ap, ◌∙◌, arith}
use Rattle.std.specs.List.{AllByRecursion}
use Rattle.std.proofs.lemmas.Bool.{cond-true, cond-false, ne_eqb, lt-ltb, false_from_ne_true, ltb-true, eqb-true, eq-eqb}
use Rattle.pat_infer_spec.specs.Needs.{add}
use Rattle.pat_infer_environments.specs.variables.Names.{has_lesser, first_is_name, put_on, IsLifted}

add_behind : (x z : ℕ) (zs : List ℕ) → z < x → add x (z ∷ zs) ≡ z ∷ add x zs
add_behind x z zs l =
    let not_less : nat_lt x z ≡ false = false_from_ne_true (nat_lt x z) (λ q. let m = ltb-true x z q in omega arith) in
    let apart : nat_eq x z ≡ false = ne_eqb x z (λ q. omega arith) in
    cond-false (nat_lt x z) (x ∷ z ∷ zs) (if nat_eq x z then z ∷ zs else z ∷ add x zs) not_less
    ∙ cond-false (nat_eq x z) (z ∷ zs) (z ∷ add x zs) apart

-- below lesser names
add_below : (x : ℕ) (lesser zs : List ℕ) → AllByRecursion (λ z. z < x) lesser → put_on lesser (add x zs) ≡ add x (put_on lesser zs)
add_below x [] zs h = refl
add_below x (y ∷ lesser) zs h = ap (put_on lesser) (sym (add_behind x y zs h.0)) ∙ add_below x lesser (y ∷ zs) h.1

pub name_added : (x : ℕ) (all lesser left : List ℕ) → IsLifted x all lesser left → put_on lesser (add x left) ≡ add x all
name_added x all lesser left h = add_below x lesser left h.below ∙ ap (add x) h.whole

pub add_new : (x : ℕ) (zs : List ℕ) → has_lesser x zs ≡ false → first_is_name x zs ≡ false → x ∷ zs ≡ add x zs
add_new x [] h f = refl
add_new x (z ∷ zs) h f =
    let differ : x ≡ z → ⊥ = λ q. let same : nat_eq x z ≡ true = eq-eqb x z q in let clash : true ≡ false = sym same ∙ f in cc in
    let above : z < x → ⊥ = λ q. let less : nat_lt z x ≡ true = lt-ltb z x q in let clash : true ≡ false = sym less ∙ h in cc in
    let less : nat_lt x z ≡ true = lt-ltb x z (omega arith) in
    sym (cond-true (nat_lt x z) (x ∷ z ∷ zs) (if nat_eq x z then z ∷ zs else z ∷ add x zs) less)

pub add_there : (x : ℕ) (zs : List ℕ) → first_is_name x zs ≡ true → zs ≡ add x zs
add_there x [] f = cc
add_there x (z ∷ zs) f =
    let same : x ≡ z = eqb-true x z f in
    let not_less : nat_lt x z ≡ false = false_from_ne_true (nat_lt x z) (λ q. let m = ltb-true x z q in omega arith) in
    sym (cond-false (nat_lt x z) (x ∷ z ∷ zs) (if nat_eq x z then z ∷ zs else z ∷ add x zs) not_less
    ∙ cond-true (nat_eq x z) (z ∷ zs) (z ∷ add x zs) f)

-- one lesser name more is taken off
pub one_lifted : (x y : ℕ) (all lesser left rest : List ℕ) → put_on lesser left ≡ all → left ≡ y ∷ rest → put_on (y ∷ lesser) rest ≡ all
one_lifted x y all lesser left rest h e = ap (put_on lesser) (sym e) ∙ h

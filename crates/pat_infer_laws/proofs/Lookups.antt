-- Look-ups in needs, and lists of names.
use Rattle.std.proofs.Common.{◌≡◌, ℕ, suc, Bool, true, false, ◌||◌, not, cond, nat_eq, nat_lt, if◌then◌else◌, List, [], ◌∷◌, Option, Some, None, refl, sym, ap, ◌∙◌, ⊎_elim}
use Rattle.std.specs.Prelude.{option_map}
use Rattle.std.specs.Map.{keys_of}
use Rattle.std.proofs.lemmas.Bool.{eqb-true, eq-eqb, cond-true, cond-false, or_parts, cases_Bool}
use Rattle.pat_semantics_spec.specs.Values.{Expr, VarExpr, Literal, OpExpr}
use Rattle.pat_semantics_spec.specs.Programs.{is_among}
use Rattle.pat_semantics_laws.proofs.Lists.{ne_turn}
use Rattle.pat_type_system_spec.specs.Types.{Second, MailboxType, mailbox_type, TypeEnv}
use Rattle.pat_type_system_spec.specs.Typings.{args_need, with_option}
use Rattle.pat_type_schemes_spec.specs.NodeTypes.{Needs, need_of}
use Rattle.pat_infer_spec.specs.Needs.{put, put_option, args_needs, needs_but, needs_second, add, add_all, names_of_two}

-- a test on two numbers goes both ways
pub eq_turn : (a b : ℕ) → nat_eq a b ≡ nat_eq b a
eq_turn a b =
    ⊎_elim
    (λ q. q ∙ sym (eq-eqb b a (sym (eqb-true a b q))))
    (λ q. q ∙ sym (ne_turn a b q))
    (cases_Bool (nat_eq a b))

-- ---- needs

-- the need that was put there, or the one that was there
pub need_put : (x : ℕ) (a : MailboxType) (needs : Needs) (z : ℕ) → need_of (put x a needs) z ≡ (if nat_eq x z then Some a else need_of needs z)
need_put x a [] z = ap (λ b. if b then Some a else None) (eq_turn z x)
need_put x a (e ∷ needs) z =
    (elim (nat_lt x e.0) as (λ t. need_of (if t then (x, a) ∷ e ∷ needs else if nat_eq x e.0 then (x, a) ∷ needs else e ∷ put x a needs) z ≡ (if nat_eq x z then Some a else need_of (e ∷ needs) z)) [
      | true ↦ ap (λ b. if b then Some a else need_of (e ∷ needs) z) (eq_turn z x)
      | false ↦
          (elim (nat_eq x e.0) as (λ t. nat_eq x e.0 ≡ t → need_of (if t then (x, a) ∷ needs else e ∷ put x a needs) z ≡ (if nat_eq x z then Some a else need_of (e ∷ needs) z)) [
            | true ↦ λ r.
                let same : x ≡ e.0 = eqb-true x e.0 r in
                ap (λ b. if b then Some a else need_of needs z) (eq_turn z x)
                ∙ (elim (nat_eq x z) as (λ t. nat_eq x z ≡ t → (if t then Some a else need_of needs z) ≡ (if t then Some a else need_of (e ∷ needs) z)) [
                  | true ↦ λ w. refl
                  | false ↦ λ w. sym (cond-false (nat_eq z e.0) (Some e.1) (need_of needs z) (ap (nat_eq z) (sym same) ∙ ne_turn x z w))
                ]) refl
            | false ↦ λ r.
                (elim (nat_eq z e.0) as (λ t. nat_eq z e.0 ≡ t → cond t (Some e.1) (need_of (put x a needs) z) ≡ (if nat_eq x z then Some a else cond t (Some e.1) (need_of needs z))) [
                  | true ↦ λ w.
                      let same : z ≡ e.0 = eqb-true z e.0 w in
                      let apart : nat_eq x z ≡ false = ap (nat_eq x) same ∙ r in
                      sym (cond-false (nat_eq x z) (Some a) (Some e.1) apart)
                  | false ↦ λ w. need_put x a needs z
                ]) refl
          ]) refl
    ])

-- the needs that are left
pub need_but : (xs : List ℕ) (needs : Needs) (z : ℕ) → need_of (needs_but xs needs) z ≡ (if is_among z xs then None else need_of needs z)
need_but xs [] z = elim (is_among z xs) as (λ t. need_of [] z ≡ (if t then None else need_of [] z)) [ true ↦ refl | false ↦ refl ]
need_but xs (e ∷ needs) z =
    (elim (is_among e.0 xs) as (λ t. is_among e.0 xs ≡ t → need_of (cond (not t) (e ∷ needs_but xs needs) (needs_but xs needs)) z ≡ (if is_among z xs then None else need_of (e ∷ needs) z)) [
      | true ↦ λ q.
          need_but xs needs z
          ∙ (elim (nat_eq z e.0) as (λ t. nat_eq z e.0 ≡ t → (if is_among z xs then None else need_of needs z) ≡ (if is_among z xs then None else cond t (Some e.1) (need_of needs z))) [
            | true ↦ λ w.
                let on : is_among z xs ≡ true = ap (λ x. is_among x xs) (eqb-true z e.0 w) ∙ q in
                cond-true (is_among z xs) None (need_of needs z) on ∙ sym (cond-true (is_among z xs) None (Some e.1) on)
            | false ↦ λ w. refl
          ]) refl
      | false ↦ λ q.
          (elim (nat_eq z e.0) as (λ t. nat_eq z e.0 ≡ t → cond t (Some e.1) (need_of (needs_but xs needs) z) ≡ (if is_among z xs then None else cond t (Some e.1) (need_of needs z))) [
            | true ↦ λ w.
                let off : is_among z xs ≡ false = ap (λ x. is_among x xs) (eqb-true z e.0 w) ∙ q in
                sym (cond-false (is_among z xs) None (Some e.1) off)
            | false ↦ λ w. need_but xs needs z
          ]) refl
    ]) refl

-- a type, taken as second-class
abbrev pub as_second : MailboxType → MailboxType
as_second a = mailbox_type a.interface a.polarity a.pattern Second

pub need_second : (needs : Needs) (z : ℕ) → need_of (needs_second needs) z ≡ option_map as_second (need_of needs z)
need_second [] z = refl
need_second (e ∷ needs) z =
    elim (nat_eq z e.0) as (λ t. cond t (Some (as_second e.1)) (need_of (needs_second needs) z) ≡ option_map as_second (cond t (Some e.1) (need_of needs z))) [
      | true ↦ refl
      | false ↦ need_second needs z
    ]

-- arguments need what a typing asks of them
pub need_args : (types : TypeEnv) (k : ℕ) (es : List Expr) (z : ℕ) → need_of (args_needs types k es) z ≡ args_need types k es z
need_args types k [] z = refl
need_args types k (VarExpr x ∷ es) z = go (types k) (need_args types (suc k) es z)
  where
    go : (o : Option MailboxType) → need_of (args_needs types (suc k) es) z ≡ args_need types (suc k) es z → need_of (put_option x o (args_needs types (suc k) es)) z ≡ with_option x o (args_need types (suc k) es) z
    go None r = r
    go (Some a) r =
        need_put x a (args_needs types (suc k) es) z
        ∙ ap (λ o. if nat_eq x z then Some a else o) r
need_args types k (Literal c ∷ es) z = need_args types (suc k) es z
need_args types k (OpExpr op a b ∷ es) z = need_args types (suc k) es z

-- ---- names

pub among_add : (x : ℕ) (zs : List ℕ) (z : ℕ) → is_among z (add x zs) ≡ (nat_eq z x || is_among z zs)
among_add x [] z = refl
among_add x (y ∷ ys) z =
    elim (nat_lt x y) as (λ t. is_among z (if t then x ∷ y ∷ ys else if nat_eq x y then y ∷ ys else y ∷ add x ys) ≡ (nat_eq z x || is_among z (y ∷ ys))) [
      | true ↦ refl
      | false ↦
          (elim (nat_eq x y) as (λ t. nat_eq x y ≡ t → is_among z (if t then y ∷ ys else y ∷ add x ys) ≡ (nat_eq z x || (nat_eq z y || is_among z ys))) [
            | true ↦ λ q.
                let same : x ≡ y = eqb-true x y q in
                twice (nat_eq z y) (is_among z ys) ∙ ap (λ (b : ℕ). nat_eq z b || (nat_eq z y || is_among z ys)) (sym same)
            | false ↦ λ q. ap (λ b. nat_eq z y || b) (among_add x ys z) ∙ swap (nat_eq z y) (nat_eq z x) (is_among z ys)
          ]) refl
    ]
  where
    twice : (a b : Bool) → (a || b) ≡ (a || (a || b))
    twice true b = refl
    twice false b = refl

    swap : (a b c : Bool) → (a || (b || c)) ≡ (b || (a || c))
    swap true true c = refl
    swap true false c = refl
    swap false b c = refl

pub among_add_all : (xs zs : List ℕ) (z : ℕ) → is_among z (add_all xs zs) ≡ (is_among z xs || is_among z zs)
among_add_all [] zs z = refl
among_add_all (x ∷ xs) zs z =
    among_add x (add_all xs zs) z ∙ ap (λ b. nat_eq z x || b) (among_add_all xs zs z) ∙ sym (join (nat_eq z x) (is_among z xs) (is_among z zs))
  where
    join : (a b c : Bool) → ((a || b) || c) ≡ (a || (b || c))
    join true b c = refl
    join false b c = refl

-- what isn't among the names isn't needed
pub no_key : (needs : Needs) (z : ℕ) → is_among z (keys_of needs) ≡ false → need_of needs z ≡ None
no_key [] z h = refl
no_key (e ∷ needs) z h =
    let q = or_parts (nat_eq z e.0) (is_among z (keys_of needs)) h in
    cond-false (nat_eq z e.0) (Some e.1) (need_of needs z) q.0 ∙ no_key needs z q.1

pub no_name : (m n : Needs) (z : ℕ) → is_among z (names_of_two m n) ≡ false → (need_of m z ≡ None) × (need_of n z ≡ None)
no_name m n z h =
    let first = sym (among_add_all (keys_of m) (add_all (keys_of n) []) z) ∙ h in
    let q = or_parts (is_among z (keys_of m)) (is_among z (add_all (keys_of n) [])) first in
    let second = sym (among_add_all (keys_of n) [] z) ∙ q.1 in
    let r = or_parts (is_among z (keys_of n)) false second in
    (no_key m z q.0, no_key n z r.0)

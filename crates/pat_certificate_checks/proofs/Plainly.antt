-- Values that are patterns, looked up in a list.
use Rattle.std.proofs.Common.{◌≡◌, ℕ, zero, suc, ◌+◌, ◌<◌, true, false, List, [], ◌∷◌, Option, Some, None, length, refl, sym, ap, ap₂, ◌∙◌, subst, arith}
use Rattle.std.specs.Prelude.{slice_get, slice_index_or}
use Rattle.std.proofs.lemmas.Bool.{and_parts, and_from, lt-ltb}
use Rattle.std.proofs.lemmas.List.{length-map}
use Rattle.std.proofs.lemmas.Option.{slice_get_within}
use Rattle.pat_words_spec.specs.Patterns.{Pat, Zero, One, Tag, Sum, Prod, Star, Var, sum_of, prod_of, star_of, subst_of}
use Rattle.pat_words_spec.specs.Substitutions.{has_values}
use Rattle.pat_inclusion_spec.specs.Values.{PatternForm, GridForm, VarLine, Scope, var_at, has_interface, is_formed, plain_or_var, plainly_replaced}
use Rattle.pat_patterns.specs.declared.pattern.Pattern.{Pattern}
use Rattle.pat_patterns.specs.Views.{pattern_view, patterns_view, value_at}
use Rattle.pat_certificate_checks.specs.Plain.{plain_value_of, plain_from, all_plain}

plain_at : (k : ℕ) (vs : List VarLine) (j : ℕ) (v : VarLine) → slice_get vs j ≡ Some v → slice_index_or (plain_from k vs) j Zero ≡ plain_value_of (k + j) v.value
plain_at k [] j v e = absurd (cc)
plain_at k (u ∷ us) zero v e =
    let same : u ≡ v = cc in let n : k ≡ k + 0 = omega arith in
    ap (λ (x : VarLine). plain_value_of k x.value) same ∙ ap (λ m. plain_value_of m v.value) n
plain_at k (u ∷ us) (suc j) v e =
    let n : suc k + j ≡ k + suc j = omega arith in
    plain_at (suc k) us j v e ∙ ap (λ m. plain_value_of m v.value) n

value_or : (k : ℕ) (v : VarLine) → plain_value_of k v.value ≡ plain_or_var k (Some v)
value_or k v = elim v.value as (λ x. plain_value_of k x ≡ plain_or_var k (Some (record { interface = v.interface; value = x }))) [ PatternForm e ↦ refl | GridForm b points ↦ refl ]

plain_same : (i : ℕ) (vs : List VarLine) (k : ℕ) → has_interface i (var_at vs k) ≡ true → value_at (all_plain vs) k ≡ plain_or_var k (var_at vs k)
plain_same i vs zero h = absurd (cc)
plain_same i vs (suc j) h = go (slice_get vs j) refl
  where
    go : (o : Option VarLine) → slice_get vs j ≡ o → value_at (all_plain vs) (suc j) ≡ plain_or_var (suc j) (slice_get vs j)
    go None e = let q : false ≡ true = sym (ap (has_interface i) e) ∙ h in absurd (cc)
    go (Some v) e =
        let n : 1 + j ≡ suc j = omega arith in
        plain_at 1 vs j v e ∙ ap (λ m. plain_value_of m v.value) n ∙ value_or (suc j) v ∙ sym (ap (plain_or_var (suc j)) e)

-- a pattern of an interface is replaced alike by values that are alike at its variables
subst_same : (f g : ℕ → Pat) (s : Scope) (i : ℕ) (e : Pat) → is_formed s i e ≡ true → ((k : ℕ) → has_interface i (var_at s.vars k) ≡ true → f k ≡ g k) → subst_of f e ≡ subst_of g e
subst_same f g s i Zero h q = refl
subst_same f g s i One h q = refl
subst_same f g s i (Tag m) h q = refl
subst_same f g s i (Sum a b) h q =
    let p = and_parts (is_formed s i a) (is_formed s i b) h in ap₂ sum_of (subst_same f g s i a p.0 q) (subst_same f g s i b p.1 q)
subst_same f g s i (Prod a b) h q =
    let p = and_parts (is_formed s i a) (is_formed s i b) h in ap₂ prod_of (subst_same f g s i a p.0 q) (subst_same f g s i b p.1 q)
subst_same f g s i (Star a) h q = ap star_of (subst_same f g s i a h q)
subst_same f g s i (Var k) h q = q k h

pub plainly : (s : Scope) (i : ℕ) (e : Pat) (plain : List Pat) → plain ≡ all_plain s.vars → is_formed s i e ≡ true → subst_of (value_at plain) e ≡ plainly_replaced s e
plainly s i e plain is h =
    subst_same (value_at plain) (λ k. plain_or_var k (var_at s.vars k)) s i e h
    (λ k q. ap (λ ps. value_at ps k) is ∙ plain_same i s.vars k q)

-- ---- each variable of a pattern of an interface is in the list

plain_length : (k : ℕ) (vs : List VarLine) → length (plain_from k vs) ≡ length vs
plain_length k [] = refl
plain_length k (v ∷ vs) = ap suc (plain_length (suc k) vs)

interface_within : (i : ℕ) (vs : List VarLine) (k : ℕ) → has_interface i (var_at vs k) ≡ true → k < suc (length vs)
interface_within i vs zero h = absurd (cc)
interface_within i vs (suc j) h = go (slice_get vs j) refl
  where
    go : (o : Option VarLine) → slice_get vs j ≡ o → suc j < suc (length vs)
    go None e = let q : false ≡ true = sym (ap (has_interface i) e) ∙ h in absurd (cc)
    go (Some v) e = let l = slice_get_within vs j v e in omega arith

all_within : (s : Scope) (i : ℕ) (n : ℕ) (e : Pat) → n ≡ suc (length s.vars) → is_formed s i e ≡ true → has_values n e ≡ true
all_within s i n Zero l h = refl
all_within s i n One l h = refl
all_within s i n (Tag m) l h = refl
all_within s i n (Sum a b) l h =
    let p = and_parts (is_formed s i a) (is_formed s i b) h in and_from (has_values n a) (has_values n b) (all_within s i n a l p.0) (all_within s i n b l p.1)
all_within s i n (Prod a b) l h =
    let p = and_parts (is_formed s i a) (is_formed s i b) h in and_from (has_values n a) (has_values n b) (all_within s i n a l p.0) (all_within s i n b l p.1)
all_within s i n (Star a) l h = all_within s i n a l h
all_within s i n (Var k) l h = lt-ltb k n (subst (λ m. k < m) (sym l) (interface_within i s.vars k h))

pub have_values : (s : Scope) (i : ℕ) (e : Pat) (plain : List Pattern) → patterns_view plain ≡ all_plain s.vars → is_formed s i e ≡ true → has_values (length plain) e ≡ true
have_values s i e plain is h =
    all_within s i (length plain) e (sym (length-map plain pattern_view) ∙ ap length is ∙ ap suc (plain_length 1 s.vars)) h

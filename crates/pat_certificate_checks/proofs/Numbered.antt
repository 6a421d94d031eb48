-- A pattern whose variables are numbered by places, with the values at these places.
use Rattle.std.proofs.Common.{◌≡◌, ℕ, zero, suc, ◌<◌, Bool, true, false, ◌&&◌, ◌||◌, List, [], ◌∷◌, ◌++◌, map, Option, Some, None, ⊎_elim, refl, sym, ap, ap₂, ◌∙◌, subst}
use Rattle.std.specs.Prelude.{slice_get, nat_eq, nat_lt, if◌then◌else◌}
use Rattle.std.specs.List.{list_any, AllByRecursion}
use Rattle.std.proofs.lemmas.Bool.{and_parts, and_from, or_cases, or_left, or_right, eq-eqb, eqb-true, cond_both, cond-true, cond-false}
use Rattle.pat_words_spec.specs.Patterns.{Pat, Zero, One, Tag, Sum, Prod, Star, Var, sum_of, prod_of, star_of, subst_of}
use Rattle.pat_words_spec.specs.Tags.{tags_below}
use Rattle.pat_semantics_spec.specs.Programs.{is_among}
use Rattle.pat_inclusion_spec.specs.Values.{VarValue, PatternForm, GridForm, VarLine, Scope, var_at, has_interface, is_formed, value_fits, values_fit, value_pattern, line_pattern, pattern_of}
use Rattle.pat_inclusion_laws.proofs.Shown.{value_fits_at}
use Rattle.pat_grid_certificates.specs.Shows.{pattern_in, patterns_of, right_tags, ValuesFit}
use Rattle.pat_certificate_checks.specs.Numbering.{with_name, with_names, place_of, renumbered, right_in, or_none, values_of}

-- ---- the names of a pattern

among_more : (k : ℕ) (xs ys : List ℕ) → is_among k xs ≡ true → is_among k (xs ++ ys) ≡ true
among_more k [] ys h = absurd (cc)
among_more k (x ∷ xs) ys h =
    ⊎_elim (λ l. or_left (nat_eq k x) (is_among k (xs ++ ys)) l)
    (λ r. or_right (nat_eq k x) (is_among k (xs ++ ys)) (among_more k xs ys r))
    (or_cases (nat_eq k x) (is_among k xs) h)

among_last : (k : ℕ) (xs : List ℕ) → is_among k (xs ++ k ∷ []) ≡ true
among_last k [] = or_left (nat_eq k k) false (eq-eqb k k refl)
among_last k (x ∷ xs) = or_right (nat_eq k x) (is_among k (xs ++ k ∷ [])) (among_last k xs)

name_keeps : (j k : ℕ) (names : List ℕ) → is_among j names ≡ true → is_among j (with_name names k) ≡ true
name_keeps j k names h =
    cond_both (is_among k names) names (names ++ k ∷ []) (λ l. is_among j l ≡ true) (λ _. h) (λ _. among_more j names (k ∷ []) h)

name_there : (k : ℕ) (names : List ℕ) → is_among k (with_name names k) ≡ true
name_there k names =
    cond_both (is_among k names) names (names ++ k ∷ []) (λ l. is_among k l ≡ true) (λ t. t) (λ _. among_last k names)

names_keep : (j : ℕ) (e : Pat) (names : List ℕ) → is_among j names ≡ true → is_among j (with_names names e) ≡ true
names_keep j Zero names h = h
names_keep j One names h = h
names_keep j (Tag m) names h = h
names_keep j (Var k) names h = name_keeps j k names h
names_keep j (Sum a b) names h = names_keep j b (with_names names a) (names_keep j a names h)
names_keep j (Prod a b) names h = names_keep j b (with_names names a) (names_keep j a names h)
names_keep j (Star a) names h = names_keep j a names h

-- each variable of the pattern is among the names
abbrev pub Named : List ℕ → Pat → Type 0
Named names (Var k) = is_among k names ≡ true
Named names (Sum a b) = Named names a × Named names b
Named names (Prod a b) = Named names a × Named names b
Named names (Star a) = Named names a
Named names _ = Unit {0}

named_more : (e : Pat) (xs ys : List ℕ) → ((k : ℕ) → is_among k xs ≡ true → is_among k ys ≡ true) → Named xs e → Named ys e
named_more Zero xs ys f h = tt
named_more One xs ys f h = tt
named_more (Tag m) xs ys f h = tt
named_more (Var k) xs ys f h = f k h
named_more (Sum a b) xs ys f h = (named_more a xs ys f h.0, named_more b xs ys f h.1)
named_more (Prod a b) xs ys f h = (named_more a xs ys f h.0, named_more b xs ys f h.1)
named_more (Star a) xs ys f h = named_more a xs ys f h

pub names_named : (e : Pat) (names : List ℕ) → Named (with_names names e) e
names_named Zero names = tt
names_named One names = tt
names_named (Tag m) names = tt
names_named (Var k) names = name_there k names
names_named (Sum a b) names =
    (named_more a (with_names names a) (with_names (with_names names a) b) (λ k h. names_keep k b (with_names names a) h) (names_named a names), names_named b (with_names names a))
names_named (Prod a b) names =
    (named_more a (with_names names a) (with_names (with_names names a) b) (λ k h. names_keep k b (with_names names a) h) (names_named a names), names_named b (with_names names a))
names_named (Star a) names = names_named a names

pub named_before : (e f : Pat) (names : List ℕ) → Named (with_names (with_names names e) f) e
named_before e f names = named_more e (with_names names e) (with_names (with_names names e) f) (λ k h. names_keep k f (with_names names e) h) (names_named e names)

-- each name is that of a variable of the interface
abbrev pub OfInterface : Scope → ℕ → List ℕ → Type 0
OfInterface s i names = (k : ℕ) → is_among k names ≡ true → has_interface i (var_at s.vars k) ≡ true

name_of : (s : Scope) (i k : ℕ) (names : List ℕ) → OfInterface s i names → has_interface i (var_at s.vars k) ≡ true → OfInterface s i (with_name names k)
name_of s i k names all h j =
    cond_both (is_among k names) names (names ++ k ∷ []) (λ l. is_among j l ≡ true → has_interface i (var_at s.vars j) ≡ true)
    (λ _ q. all j q)
    (λ _ q. go names q all)
  where
    go : (xs : List ℕ) → is_among j (xs ++ k ∷ []) ≡ true → OfInterface s i xs → has_interface i (var_at s.vars j) ≡ true
    go [] q a =
        ⊎_elim (λ l. subst (λ n. has_interface i (var_at s.vars n) ≡ true) (sym (eqb-true j k l)) h) (λ r. absurd (cc)) (or_cases (nat_eq j k) false q)
    go (x ∷ xs) q a =
        ⊎_elim (λ l. a j (or_left (nat_eq j x) (is_among j xs) l))
        (λ r. go xs r (λ n t. a n (or_right (nat_eq n x) (is_among n xs) t)))
        (or_cases (nat_eq j x) (is_among j (xs ++ k ∷ [])) q)

pub names_of : (s : Scope) (i : ℕ) (e : Pat) (names : List ℕ) → OfInterface s i names → is_formed s i e ≡ true → OfInterface s i (with_names names e)
names_of s i Zero names all h = all
names_of s i One names all h = all
names_of s i (Tag m) names all h = all
names_of s i (Var k) names all h = name_of s i k names all h
names_of s i (Sum a b) names all h =
    let p = and_parts (is_formed s i a) (is_formed s i b) h in names_of s i b (with_names names a) (names_of s i a names all p.0) p.1
names_of s i (Prod a b) names all h =
    let p = and_parts (is_formed s i a) (is_formed s i b) h in names_of s i b (with_names names a) (names_of s i a names all p.0) p.1
names_of s i (Star a) names all h = names_of s i a names all h

-- ---- places

pub at_place : (vars : List VarLine) (k : ℕ) (names : List ℕ) → is_among k names ≡ true → slice_get (values_of vars names) (place_of names k) ≡ Some (or_none (var_at vars k))
at_place vars k [] h = absurd (cc)
at_place vars k (n ∷ names) h =
    cond_both (nat_eq k n) 0 (suc (place_of names k)) (λ p. slice_get (values_of vars (n ∷ names)) p ≡ Some (or_none (var_at vars k)))
    (λ l. ap (λ j. Some (or_none (var_at vars j))) (sym (eqb-true k n l)))
    (λ f. at_place vars k names (⊎_elim (λ l. let q : false ≡ true = sym f ∙ l in absurd (cc)) (λ r. r) (or_cases (nat_eq k n) (is_among k names) h)))

-- the value of a variable of the interface has its pattern
value_of_var : (s : Scope) (i n k : ℕ) → s.tags i ≡ n → has_interface i (var_at s.vars k) ≡ true → value_pattern n (or_none (var_at s.vars k)) ≡ pattern_of s k
value_of_var s i n k t h = go (var_at s.vars k) h
  where
    go : (o : Option VarLine) → has_interface i o ≡ true → value_pattern n (or_none o) ≡ line_pattern s.tags o
    go None q = refl
    go (Some v) q = let own : v.interface ≡ i = eqb-true v.interface i q in ap (λ m. value_pattern m v.value) (sym t ∙ ap s.tags (sym own))

pub place_pattern : (s : Scope) (i n k : ℕ) (names : List ℕ) → s.tags i ≡ n → OfInterface s i names → is_among k names ≡ true → patterns_of n (values_of s.vars names) (place_of names k) ≡ pattern_of s k
place_pattern s i n k names t all h = ap (pattern_in n) (at_place s.vars k names h) ∙ value_of_var s i n k t (all k h)

pub numbered_subst : (s : Scope) (i n : ℕ) (names : List ℕ) (e : Pat) → s.tags i ≡ n → OfInterface s i names → Named names e → subst_of (patterns_of n (values_of s.vars names)) (renumbered names e) ≡ subst_of (pattern_of s) e
numbered_subst s i n names Zero t all h = refl
numbered_subst s i n names One t all h = refl
numbered_subst s i n names (Tag m) t all h = refl
numbered_subst s i n names (Var k) t all h = place_pattern s i n k names t all h
numbered_subst s i n names (Sum a b) t all h = ap₂ sum_of (numbered_subst s i n names a t all h.0) (numbered_subst s i n names b t all h.1)
numbered_subst s i n names (Prod a b) t all h = ap₂ prod_of (numbered_subst s i n names a t all h.0) (numbered_subst s i n names b t all h.1)
numbered_subst s i n names (Star a) t all h = ap star_of (numbered_subst s i n names a t all h)

pub numbered_tags : (s : Scope) (i n : ℕ) (names : List ℕ) (e : Pat) → s.tags i ≡ n → is_formed s i e ≡ true → tags_below n (renumbered names e) ≡ true
numbered_tags s i n names Zero t h = refl
numbered_tags s i n names One t h = refl
numbered_tags s i n names (Tag m) t h = subst (λ x. nat_lt m x ≡ true) t h
numbered_tags s i n names (Var k) t h = refl
numbered_tags s i n names (Sum a b) t h =
    let p = and_parts (is_formed s i a) (is_formed s i b) h in
    and_from (tags_below n (renumbered names a)) (tags_below n (renumbered names b)) (numbered_tags s i n names a t p.0) (numbered_tags s i n names b t p.1)
numbered_tags s i n names (Prod a b) t h =
    let p = and_parts (is_formed s i a) (is_formed s i b) h in
    and_from (tags_below n (renumbered names a)) (tags_below n (renumbered names b)) (numbered_tags s i n names a t p.0) (numbered_tags s i n names b t p.1)
numbered_tags s i n names (Star a) t h = numbered_tags s i n names a t h

formed_tags : (s : Scope) (i n : ℕ) (e : Pat) → s.tags i ≡ n → is_formed s i e ≡ true → tags_below n e ≡ true
formed_tags s i n Zero t h = refl
formed_tags s i n One t h = refl
formed_tags s i n (Tag m) t h = subst (λ x. nat_lt m x ≡ true) t h
formed_tags s i n (Var k) t h = refl
formed_tags s i n (Sum a b) t h =
    let p = and_parts (is_formed s i a) (is_formed s i b) h in and_from (tags_below n a) (tags_below n b) (formed_tags s i n a t p.0) (formed_tags s i n b t p.1)
formed_tags s i n (Prod a b) t h =
    let p = and_parts (is_formed s i a) (is_formed s i b) h in and_from (tags_below n a) (tags_below n b) (formed_tags s i n a t p.0) (formed_tags s i n b t p.1)
formed_tags s i n (Star a) t h = formed_tags s i n a t h

pub right_in_tags : (s : Scope) (i n : ℕ) (names : List ℕ) (f : Pat) → s.tags i ≡ n → is_formed s i f ≡ true → right_tags n (right_in names f) ≡ true
right_in_tags s i n names (Var k) t h = refl
right_in_tags s i n names Zero t h = refl
right_in_tags s i n names One t h = refl
right_in_tags s i n names (Tag m) t h = formed_tags s i n (Tag m) t h
right_in_tags s i n names (Sum a b) t h = formed_tags s i n (Sum a b) t h
right_in_tags s i n names (Prod a b) t h = formed_tags s i n (Prod a b) t h
right_in_tags s i n names (Star a) t h = formed_tags s i n (Star a) t h

value_fitting : (s : Scope) (i n k : ℕ) → s.tags i ≡ n → values_fit s ≡ true → has_interface i (var_at s.vars k) ≡ true → value_fits n (or_none (var_at s.vars k)) ≡ true
value_fitting s i n k t fit h = go (var_at s.vars k) refl
  where
    go : (o : Option VarLine) → var_at s.vars k ≡ o → value_fits n (or_none (var_at s.vars k)) ≡ true
    go None e = let q : false ≡ true = sym (ap (has_interface i) e) ∙ h in absurd (cc)
    go (Some v) e =
        let own : v.interface ≡ i = eqb-true v.interface i (sym (ap (has_interface i) e) ∙ h) in
        ap (λ o. value_fits n (or_none o)) e ∙ ap (λ m. value_fits m v.value) (sym t ∙ ap s.tags (sym own)) ∙ value_fits_at s k v fit e

pub values_fitting : (s : Scope) (i n : ℕ) (names : List ℕ) → s.tags i ≡ n → values_fit s ≡ true → OfInterface s i names → ValuesFit n (values_of s.vars names)
values_fitting s i n [] t fit all = tt
values_fitting s i n (k ∷ names) t fit all = (
  value_fitting s i n k t fit (all k (or_left (nat_eq k k) (is_among k names) (eq-eqb k k refl))),
  values_fitting s i n names t fit (λ j h. all j (or_right (nat_eq j k) (is_among j names) h)),
)

pub no_names : (s : Scope) (i : ℕ) → OfInterface s i []
no_names s i k h = absurd (cc)

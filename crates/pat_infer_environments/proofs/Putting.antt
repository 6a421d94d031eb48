-- A need that is put among others, behind those of lesser variables.
use Rattle.std.proofs.Common.{◌≡◌, ℕ, zero, suc, Bool, subst, ◌<◌, ◌≤◌, true, false, nat_eq, nat_lt, if◌then◌else◌, List, [], ◌∷◌, ◌++◌, map, not, take, drop, slice_set, refl, sym, ap, ◌∙◌, arith}
use Rattle.std.specs.List.{AllByRecursion, insert}
use Rattle.std.specs.Prelude.{filter, IsTrue, ◌↔◌}
use Rattle.std.proofs.lemmas.Bool.{cond-true, cond-false, ne_eqb, lt-ltb, false_from_ne_true, ltb-true, eqb-true, eq-eqb}
use Rattle.pat_words_spec.specs.Patterns.{Pat, pat_eq}
use Rattle.pat_words_laws.proofs.PatternLaws.{pat_eq_same}
use Rattle.pat_words_laws.proofs.FormLaws.{pat_eq_refl}
use Rattle.pat_type_system_spec.specs.Types as types
use Rattle.pat_type_schemes_spec.specs.NodeTypes.{Needs}
use Rattle.pat_semantics_spec.specs.Programs.{is_among}
use Rattle.pat_infer_spec.specs.Needs.{put, needs_but}
use Rattle.pat_types.specs.Views.{need_view, needs_view, type_view}
use Rattle.pat_types.specs.declared.types.MailboxType.{MailboxType}
use Rattle.pat_infer_environments.specs.Stopping.{StopsAt, first_is}

pub put_behind : (x : ℕ) (a : types.MailboxType) (front rest : List (ℕ × MailboxType)) → AllByRecursion (λ e. e.0 < x) front → put x a (needs_view (front ++ rest)) ≡ needs_view front ++ put x a (needs_view rest)
put_behind x a [] rest h = refl
put_behind x a (e ∷ front) rest h =
    let l = h.0 in
    let not_less : nat_lt x e.0 ≡ false = false_from_ne_true (nat_lt x e.0) (λ q. let m = ltb-true x e.0 q in omega arith) in
    let apart : nat_eq x e.0 ≡ false = ne_eqb x e.0 (λ q. omega arith) in
    let all : Needs = needs_view (front ++ rest) in
    cond-false (nat_lt x e.0) ((x, a) ∷ need_view e ∷ all) (if nat_eq x e.0 then (x, a) ∷ all else need_view e ∷ put x a all) not_less
    ∙ cond-false (nat_eq x e.0) ((x, a) ∷ all) (need_view e ∷ put x a all) apart
    ∙ ap (λ es. need_view e ∷ es) (put_behind x a front rest h.1)

-- before a greater variable it is new
pub put_before : (x : ℕ) (a : types.MailboxType) (rest : List (ℕ × MailboxType)) → StopsAt x rest → first_is x rest ≡ false → put x a (needs_view rest) ≡ (x, a) ∷ needs_view rest
put_before x a [] h f = refl
put_before x a (e ∷ rest) h f =
    let differ : x ≡ e.0 → ⊥ = λ q. apart q f in
    let less : nat_lt x e.0 ≡ true = lt-ltb x e.0 (omega arith) in
    cond-true (nat_lt x e.0) ((x, a) ∷ need_view e ∷ needs_view rest) (if nat_eq x e.0 then (x, a) ∷ needs_view rest else need_view e ∷ put x a (needs_view rest)) less
  where
    apart : x ≡ e.0 → nat_eq x e.0 ≡ false → ⊥
    apart q f = let same : nat_eq x e.0 ≡ true = eq-eqb x e.0 q in let clash : true ≡ false = sym same ∙ f in cc

-- at the same variable it takes the place
pub put_at : (x : ℕ) (a : types.MailboxType) (e : ℕ × MailboxType) (rest : List (ℕ × MailboxType)) → first_is x (e ∷ rest) ≡ true → put x a (needs_view (e ∷ rest)) ≡ (x, a) ∷ needs_view rest
put_at x a e rest f =
    let same : x ≡ e.0 = eqb-true x e.0 f in
    let not_less : nat_lt x e.0 ≡ false = false_from_ne_true (nat_lt x e.0) (λ q. let m = ltb-true x e.0 q in omega arith) in
    cond-false (nat_lt x e.0) ((x, a) ∷ need_view e ∷ needs_view rest) (if nat_eq x e.0 then (x, a) ∷ needs_view rest else need_view e ∷ put x a (needs_view rest)) not_less
    ∙ cond-true (nat_eq x e.0) ((x, a) ∷ needs_view rest) (need_view e ∷ put x a (needs_view rest)) f

-- ---- in lists

pub put_found : (x : ℕ) (of : MailboxType) (es : List (ℕ × MailboxType)) (n : ℕ) → AllByRecursion (λ e. e.0 < x) (take n es) → first_is x (drop n es) ≡ true → needs_view (slice_set es n (x, of)) ≡ put x (type_view of) (needs_view es)
put_found x of [] zero h f = cc
put_found x of [] (suc n) h f = cc
put_found x of (e ∷ es) zero h f = sym (put_at x (type_view of) e es f)
put_found x of (e ∷ es) (suc n) h f =
    ap (λ zs. need_view e ∷ zs) (put_found x of es n h.1 f) ∙ sym (put_behind x (type_view of) (e ∷ []) es (h.0, tt))

pub put_new : (x : ℕ) (of : MailboxType) (es : List (ℕ × MailboxType)) (n : ℕ) → AllByRecursion (λ e. e.0 < x) (take n es) → StopsAt x (drop n es) → first_is x (drop n es) ≡ false → needs_view (insert es n (x, of)) ≡ put x (type_view of) (needs_view es)
put_new x of [] zero h s f = refl
put_new x of [] (suc n) h s f = refl
put_new x of (e ∷ es) zero h s f = sym (put_before x (type_view of) (e ∷ es) s f)
put_new x of (e ∷ es) (suc n) h s f =
    ap (λ zs. need_view e ∷ zs) (put_new x of es n h.1 s f) ∙ sym (put_behind x (type_view of) (e ∷ []) es (h.0, tt))

-- ---- needs without names

pub view_filter : (xs : List ℕ) (es : List (ℕ × MailboxType)) → needs_view (filter (λ e. not (is_among e.0 xs)) es) ≡ needs_but xs (needs_view es)
view_filter xs [] = refl
view_filter xs (e ∷ es) =
    elim (is_among e.0 xs) as (λ b. needs_view (if not b then e ∷ filter (λ d. not (is_among d.0 xs)) es else filter (λ d. not (is_among d.0 xs)) es) ≡ (if not b then need_view e ∷ needs_but xs (needs_view es) else needs_but xs (needs_view es))) [
      | true ↦ view_filter xs es
      | false ↦ ap (λ ds. need_view e ∷ ds) (view_filter xs es)
    ]

-- ---- patterns

pub same_test : (b : Bool) (e f : Pat) → (IsTrue b ↔ (e ≡ f)) → b ≡ pat_eq e f
same_test true e f h = sym (subst (λ g. pat_eq e g ≡ true) (h.0 refl) (pat_eq_refl e))
same_test false e f h = sym (false_from_ne_true (pat_eq e f) (λ q. let t : false ≡ true = h.1 (pat_eq_same e f q) in cc))

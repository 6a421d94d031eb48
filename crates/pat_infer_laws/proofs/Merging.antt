-- What a let needs is found by one pass over what its parts need.
use Rattle.std.proofs.Common.{◌≡◌, ℕ, suc, ◌+◌, ◌≤◌, ◌<◌, true, false, nat_eq, nat_lt, if◌then◌else◌, List, [], ◌∷◌, length, Option, Some, None, refl, ap, ap₂, ◌∙◌, arith}
use Rattle.std.specs.Map.{keys_of}
use Rattle.std.proofs.lemmas.Bool.{cond-true, cond-false, eq-eqb, ne_eqb, lt-ltb, false_from_ne_true, ltb-true}
use Rattle.pat_type_system_spec.specs.Types.{MailboxType}
use Rattle.pat_type_schemes_spec.specs.NodeTypes.{Needs, need_of}
use Rattle.pat_infer_spec.specs.Needs.{add, add_all, names_of_two, Combined, just, vars_with, gather}
use Rattle.pat_infer_spec.specs.BothParts.{both_parts}
use Rattle.pat_infer_spec.specs.Walk.{let_gathered}
use Rattle.pat_infer_spec.specs.Shapes.{NeedsAscend, gathered_before, LetsMerge}
use Rattle.pat_infer_laws.proofs.Order.{NamesAscend, add_ascends}

-- ---- names

-- a lesser name comes first
add_first : (x : ℕ) (zs : List ℕ) → NamesAscend (suc x) zs → add x zs ≡ x ∷ zs
add_first x [] a = refl
add_first x (z ∷ zs) a =
    let l = a.0 in
    let less : nat_lt x z ≡ true = lt-ltb x z (omega arith) in
    cond-true (nat_lt x z) (x ∷ z ∷ zs) (if nat_eq x z then z ∷ zs else z ∷ add x zs) less

-- a greater name comes behind
add_behind : (x y : ℕ) (zs : List ℕ) → x < y → add y (x ∷ zs) ≡ x ∷ add y zs
add_behind x y zs l =
    let not_less : nat_lt y x ≡ false = false_from_ne_true (nat_lt y x) (λ q. let m = ltb-true y x q in omega arith) in
    let apart : nat_eq y x ≡ false = ne_eqb y x (λ e. omega arith) in
    cond-false (nat_lt y x) (y ∷ x ∷ zs) (if nat_eq y x then x ∷ zs else x ∷ add y zs) not_less
    ∙ cond-false (nat_eq y x) (x ∷ zs) (x ∷ add y zs) apart

-- the same name changes nothing
add_same : (x : ℕ) (zs : List ℕ) → add x (x ∷ zs) ≡ x ∷ zs
add_same x zs =
    let not_less : nat_lt x x ≡ false = false_from_ne_true (nat_lt x x) (λ q. let m = ltb-true x x q in omega arith) in
    cond-false (nat_lt x x) (x ∷ x ∷ zs) (if nat_eq x x then x ∷ zs else x ∷ add x zs) not_less
    ∙ cond-true (nat_eq x x) (x ∷ zs) (x ∷ add x zs) (eq-eqb x x refl)

all_behind : (x k : ℕ) (needs : Needs) (zs : List ℕ) → x < k → NeedsAscend k needs → add_all (keys_of needs) (x ∷ zs) ≡ x ∷ add_all (keys_of needs) zs
all_behind x k [] zs l a = refl
all_behind x k (e ∷ needs) zs l a =
    let m = a.0 in
    ap (add e.0) (all_behind x (suc e.0) needs zs (omega arith) a.1)
    ∙ add_behind x e.0 (add_all (keys_of needs) zs) (omega arith)

all_ascend_from : (k : ℕ) (needs : Needs) (zs : List ℕ) → NeedsAscend k needs → NamesAscend k zs → NamesAscend k (add_all (keys_of needs) zs)
all_ascend_from k [] zs a b = b
all_ascend_from k (e ∷ needs) zs a b =
    add_ascends k e.0 (add_all (keys_of needs) zs) a.0 (all_ascend_from k needs zs (needs_lower k (suc e.0) needs (let l = a.0 in omega arith) a.1) b)
  where
    needs_lower : (j k : ℕ) (needs : Needs) → j ≤ k → NeedsAscend k needs → NeedsAscend j needs
    needs_lower j k [] h a = tt
    needs_lower j k (e ∷ needs) h a = (let l = a.0 in omega arith, a.1)

bound_names : (x : ℕ) (b : MailboxType) (bound body : Needs) → NeedsAscend (suc x) bound → NeedsAscend (suc x) body → names_of_two ((x, b) ∷ bound) body ≡ x ∷ names_of_two bound body
bound_names x b bound body a c =
    add_first x (names_of_two bound body) (all_ascend_from (suc x) bound (add_all (keys_of body) []) a (all_ascend_from (suc x) body [] c tt))

body_names : (x : ℕ) (b : MailboxType) (bound body : Needs) → NeedsAscend (suc x) bound → NeedsAscend (suc x) body → names_of_two bound ((x, b) ∷ body) ≡ x ∷ names_of_two bound body
body_names x b bound body a c =
    ap (add_all (keys_of bound)) (add_first x (add_all (keys_of body) []) (all_ascend_from (suc x) body [] c tt))
    ∙ all_behind x (suc x) bound (add_all (keys_of body) []) (omega arith) a

both_names : (x : ℕ) (b c : MailboxType) (bound body : Needs) → NeedsAscend (suc x) bound → NeedsAscend (suc x) body → names_of_two ((x, b) ∷ bound) ((x, c) ∷ body) ≡ x ∷ names_of_two bound body
both_names x b c bound body a d =
    ap (add x) (body_names x c bound body a d) ∙ add_same x (names_of_two bound body)

-- ---- look-ups

need_here : (x : ℕ) (b : MailboxType) (needs : Needs) → need_of ((x, b) ∷ needs) x ≡ Some b
need_here x b needs = cond-true (nat_eq x x) (Some b) (need_of needs x) (eq-eqb x x refl)

need_later : (x : ℕ) (b : MailboxType) (needs : Needs) (z : ℕ) → x < z → need_of ((x, b) ∷ needs) z ≡ need_of needs z
need_later x b needs z l = cond-false (nat_eq z x) (Some b) (need_of needs z) (ne_eqb z x (λ e. omega arith))

need_above : (k : ℕ) (needs : Needs) (x : ℕ) → x < k → NeedsAscend k needs → need_of needs x ≡ None
need_above k [] x l a = refl
need_above k (e ∷ needs) x l a =
    let m = a.0 in
    cond-false (nat_eq x e.0) (Some e.1) (need_of needs x) (ne_eqb x e.0 (λ q. omega arith)) ∙ need_above (suc e.0) needs x (omega arith) a.1

-- ---- gathering

-- what is taken together in the same way is gathered to the same
gather_same : (f g : ℕ → ℕ → Option Combined) (j k : ℕ) (xs : List ℕ) → NamesAscend j xs → ((i x : ℕ) → j ≤ x → f i x ≡ g i x) → gather f k xs ≡ gather g k xs
gather_same f g j k [] a h = refl
gather_same f g j k (x ∷ xs) a h =
    let l = a.0 in
    let first : f k x ≡ g k x = h k x l in
    let rest : gather f (k + length (vars_with (f k x))) xs ≡ gather g (k + length (vars_with (f k x))) xs =
    gather_same f g (suc x) (k + length (vars_with (f k x))) xs a.1 (λ i z m. h i z (omega arith)) in
    ap (λ r. gathered_before x (f k x) r) rest
    ∙ ap (λ o. gathered_before x o (gather g (k + length (vars_with o)) xs)) first

-- a name before others
gather_step : (n k x : ℕ) (o : Option Combined) (bound body bound' body' : Needs) → both_parts n k x (need_of bound x) (need_of body x) ≡ o → names_of_two bound body ≡ x ∷ names_of_two bound' body' → NamesAscend (suc x) (names_of_two bound' body') → ((z : ℕ) → x < z → need_of bound z ≡ need_of bound' z) → ((z : ℕ) → x < z → need_of body z ≡ need_of body' z) → let_gathered n k bound body ≡ gathered_before x o (let_gathered n (k + length (vars_with o)) bound' body')
gather_step n k x o bound body bound' body' here names ascend same same' =
    let f : ℕ → ℕ → Option Combined = λ j z. both_parts n j z (need_of bound z) (need_of body z) in
    let g : ℕ → ℕ → Option Combined = λ j z. both_parts n j z (need_of bound' z) (need_of body' z) in
    ap (gather f k) names
    ∙ ap (λ w. gathered_before x w (gather f (k + length (vars_with w)) (names_of_two bound' body'))) here
    ∙ ap (λ r. gathered_before x o r)
    (gather_same f g (suc x) (k + length (vars_with o)) (names_of_two bound' body') ascend
    (λ i z l. ap₂ (λ u v. both_parts n i z u v) (same z l) (same' z l)))

pub lets_merge : LetsMerge
lets_merge n = record {
  ended = λ k. refl;
  bound_first = λ k x b bound body a c.
      gather_step n k x (just b) ((x, b) ∷ bound) body bound body
      (ap₂ (λ u v. both_parts n k x u v) (need_here x b bound) (need_above (suc x) body x (omega arith) c))
      (bound_names x b bound body a c) (after bound body x a c) (λ z l. need_later x b bound z l) (λ z l. refl)
      ∙ no_more k x b bound body;
  body_first = λ k x b bound body a c.
      gather_step n k x (just b) bound ((x, b) ∷ body) bound body
      (ap₂ (λ u v. both_parts n k x u v) (need_above (suc x) bound x (omega arith) a) (need_here x b body))
      (body_names x b bound body a c) (after bound body x a c) (λ z l. refl) (λ z l. need_later x b body z l)
      ∙ no_more k x b bound body;
  both = λ k x b c bound body a d.
      gather_step n k x (both_parts n k x (Some b) (Some c)) ((x, b) ∷ bound) ((x, c) ∷ body) bound body
      (ap₂ (λ u v. both_parts n k x u v) (need_here x b bound) (need_here x c body))
      (both_names x b c bound body a d) (after bound body x a d) (λ z l. need_later x b bound z l) (λ z l. need_later x c body z l);
}
  where
    after : (bound body : Needs) (x : ℕ) → NeedsAscend (suc x) bound → NeedsAscend (suc x) body → NamesAscend (suc x) (names_of_two bound body)
    after bound body x a c = all_ascend_from (suc x) bound (add_all (keys_of body) []) a (all_ascend_from (suc x) body [] c tt)

    no_more : (k x : ℕ) (b : MailboxType) (bound body : Needs) → gathered_before x (just b) (let_gathered n (k + 0) bound body) ≡ gathered_before x (just b) (let_gathered n k bound body)
    no_more k x b bound body = let same : k + 0 ≡ k = omega arith in ap (λ j. gathered_before x (just b) (let_gathered n j bound body)) same

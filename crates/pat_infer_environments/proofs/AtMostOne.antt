-- A let whose bound part needs one variable at most: that is put among what its body needs beside the name.
use Rattle.std.proofs.Common.{◌≡◌, ℕ, suc, ◌+◌, ◌<◌, ◌≤◌, true, false, nat_eq, nat_lt, if◌then◌else◌, List, [], ◌∷◌, ◌++◌, map, length, Option, Some, None, ⊎_elim, refl, sym, ap, ◌∙◌, subst, arith}
use Rattle.std.specs.Prelude.{nat_le, option_map}
use Rattle.pat_semantics_spec.specs.Programs.{Polarity, Sending, Receiving}
use Rattle.std.specs.Map.{keys_of}
use Rattle.std.proofs.lemmas.Bool.{eq-eqb, ne_eqb, lt-ltb, le-leb, leb-true, false_from_ne_true, ltb-true, and_parts, and_from, cases_order, cond-true, cond-false}
use Rattle.std.proofs.lemmas.List.{append-nil}
use Rattle.pat_type_system_spec.specs.Types as types
use Rattle.pat_type_schemes_spec.specs.NodeTypes.{Needs, need_of}
use Rattle.pat_derivation_spec.specs.Derivations.{ascends_from}
use Rattle.pat_infer_spec.specs.Needs.{Combined, add, add_all, just, put, put_option, vars_with, constraints_with, need_before, gather, Gathered}
use Rattle.pat_infer_spec.specs.BothParts.{both_parts, parts_joined}
use Rattle.pat_infer_spec.specs.Walk.{let_gathered}
use Rattle.pat_core.specs.declared.program.Program.{Program}
use Rattle.pat_types.specs.Views.{type_view, needs_view}
use Rattle.pat_types.specs.declared.types.MailboxType.{MailboxType}
use Rattle.pat_infer_problems.specs.Views.{placed_variable, placed_constraint}
use Rattle.pat_infer_problems.specs.Growing.{Grows}
use Rattle.pat_infer_problems.specs.declared.problem.Problem.{Problem}
use Rattle.pat_infer_problems.proofs.Joining.{grows_none}
use Rattle.pat_infer_environments.specs.Combining.{IsCombined, combined_need}
use Rattle.pat_infer_environments.specs.Gathering.{IsGathered}

-- ---- names in ascending order

in_front : (x : ℕ) (es : Needs) → ascends_from (suc x) es ≡ true → add x (keys_of es) ≡ x ∷ keys_of es
in_front x [] a = refl
in_front x (d ∷ ds) a =
    let both = and_parts (nat_le (suc x) d.0) (ascends_from (suc d.0) ds) a in
    let less : suc x ≤ d.0 = leb-true (suc x) d.0 both.0 in
    cond-true (nat_lt x d.0) (x ∷ d.0 ∷ keys_of ds) (if nat_eq x d.0 then d.0 ∷ keys_of ds else d.0 ∷ add x (keys_of ds)) (lt-ltb x d.0 (omega arith))

names_stay : (m : ℕ) (es : Needs) → ascends_from m es ≡ true → add_all (keys_of es) [] ≡ keys_of es
names_stay m [] a = refl
names_stay m (e ∷ es) a =
    let both = and_parts (nat_le m e.0) (ascends_from (suc e.0) es) a in
    ap (add e.0) (names_stay (suc e.0) es both.1) ∙ in_front e.0 es both.1

-- ---- one variable and then others

abbrev then_others : (ℕ → ℕ → Option Combined) → ℕ → ℕ → List ℕ → Option Combined → Gathered
then_others f k x xs o =
    let rest = gather f (k + length (vars_with o)) xs in
    record {
      needs = need_before x o rest.needs;
      vars = vars_with o ++ rest.vars;
      constraints = constraints_with o ++ rest.constraints;
    }

abbrev simple : types.MailboxType → Combined
simple a = record { need = a; vars = []; constraints = [] }

abbrev before : ℕ → Combined → Gathered → Gathered
before x c g = record { needs = (x, c.need) ∷ g.needs; vars = c.vars ++ g.vars; constraints = c.constraints ++ g.constraints }

abbrev only : Needs → Gathered
only needs = record { needs = needs; vars = []; constraints = [] }

abbrev found : Combined → Needs → Gathered
found c needs = record { needs = needs; vars = c.vars; constraints = c.constraints }

alone : (x : ℕ) (c : Combined) (es : Needs) → before x c (only es) ≡ found c ((x, c.need) ∷ es)
alone x c es =
    ap (λ vs. record { needs = (x, c.need) ∷ es; vars = vs; constraints = c.constraints ++ [] }) (append-nil c.vars)
    ∙ ap (λ cs. record { needs = (x, c.need) ∷ es; vars = c.vars; constraints = cs }) (append-nil c.constraints)

-- ---- needs of the body

module _ (n : ℕ) (f : ℕ → ℕ → Option Combined) where
  needs_stay : (m : ℕ) (es : Needs) (k : ℕ) → ascends_from m es ≡ true → ((j z : ℕ) → m ≤ z → f j z ≡ both_parts n j z None (need_of es z)) → gather f k (keys_of es) ≡ only es
  needs_stay m [] k a h = refl
  needs_stay m (e ∷ es) k a h =
      let both = and_parts (nat_le m e.0) (ascends_from (suc e.0) es) a in
      let above : m ≤ e.0 = leb-true m e.0 both.0 in
      let one : f k e.0 ≡ just e.1 = h k e.0 above ∙ ap (both_parts n k e.0 None) (cond-true (nat_eq e.0 e.0) (Some e.1) (need_of es e.0) (eq-eqb e.0 e.0 refl)) in
      let rest : gather f (k + 0) (keys_of es) ≡ only es = needs_stay (suc e.0) es (k + 0) both.1 (λ j z l. h j z (omega arith) ∙ ap (both_parts n j z None) (cond-false (nat_eq z e.0) (Some e.1) (need_of es z) (ne_eqb z e.0 (λ q. omega arith)))) in
      ap (then_others f k e.0 (keys_of es)) one ∙ ap (before e.0 (simple e.1)) rest

  module _ (x : ℕ) (c : Combined) where
    -- what is combined of each variable from m on is what the body alone needs of it, but for one variable
    abbrev IsOfBody : ℕ → Needs → Type 0
    IsOfBody m es = (j z : ℕ) → m ≤ z → (z ≡ x → ⊥) → f j z ≡ both_parts n j z None (need_of es z)

    -- the one variable, and behind it greater ones
    one_first : (xs : List ℕ) (k : ℕ) (es : Needs) → f k x ≡ Some c → ((i : ℕ) → gather f i xs ≡ only es) → gather f k (x ∷ xs) ≡ found c ((x, c.need) ∷ es)
    one_first xs k es h rest =
        ap (then_others f k x xs) h ∙ ap (before x c) (rest (k + length c.vars)) ∙ alone x c es

    module _ (m k : ℕ) (e : ℕ × types.MailboxType) (es : Needs) (above : m ≤ e.0) (a : ascends_from (suc e.0) es ≡ true) (h : IsOfBody m (e ∷ es)) where
      of_rest : IsOfBody (suc e.0) es
      of_rest = λ j z l other.
          h j z (omega arith) other ∙ ap (both_parts n j z None) (cond-false (nat_eq z e.0) (Some e.1) (need_of es z) (ne_eqb z e.0 (λ q. omega arith)))

      put_lesser : m ≤ x → x < e.0 → f k x ≡ Some c → gather f k (add x (keys_of (e ∷ es))) ≡ found c (put x c.need (e ∷ es))
      put_lesser l less o =
          let yes : nat_lt x e.0 ≡ true = lt-ltb x e.0 less in
          let rises : ascends_from (suc x) (e ∷ es) ≡ true = and_from (nat_le (suc x) e.0) (ascends_from (suc e.0) es) (le-leb (suc x) e.0 (omega arith)) a in
          ap (gather f k) (cond-true (nat_lt x e.0) (x ∷ e.0 ∷ keys_of es) (if nat_eq x e.0 then e.0 ∷ keys_of es else e.0 ∷ add x (keys_of es)) yes)
          ∙ one_first (e.0 ∷ keys_of es) k (e ∷ es) o (λ i. needs_stay (suc x) (e ∷ es) i rises (λ j z q. h j z (omega arith) (λ s. omega arith)))
          ∙ ap (found c) (sym (cond-true (nat_lt x e.0) ((x, c.need) ∷ e ∷ es) (if nat_eq x e.0 then (x, c.need) ∷ es else e ∷ put x c.need es) yes))

      put_same : x ≡ e.0 → f k x ≡ Some c → gather f k (add x (keys_of (e ∷ es))) ≡ found c (put x c.need (e ∷ es))
      put_same same o =
          let no : nat_lt x e.0 ≡ false = false_from_ne_true (nat_lt x e.0) (λ q. let l = ltb-true x e.0 q in omega arith) in
          let yes : nat_eq x e.0 ≡ true = eq-eqb x e.0 same in
          ap (gather f k)
          (cond-false (nat_lt x e.0) (x ∷ e.0 ∷ keys_of es) (if nat_eq x e.0 then e.0 ∷ keys_of es else e.0 ∷ add x (keys_of es)) no
          ∙ cond-true (nat_eq x e.0) (e.0 ∷ keys_of es) (e.0 ∷ add x (keys_of es)) yes
          ∙ ap (λ z. z ∷ keys_of es) (sym same))
          ∙ one_first (keys_of es) k es o (λ i. needs_stay (suc e.0) es i a (λ j z q. of_rest j z q (λ s. omega arith)))
          ∙ ap (found c)
          (sym (cond-false (nat_lt x e.0) ((x, c.need) ∷ e ∷ es) (if nat_eq x e.0 then (x, c.need) ∷ es else e ∷ put x c.need es) no
          ∙ cond-true (nat_eq x e.0) ((x, c.need) ∷ es) (e ∷ put x c.need es) yes))

      put_greater : e.0 < x → gather f (k + 0) (add x (keys_of es)) ≡ found c (put x c.need es) → gather f k (add x (keys_of (e ∷ es))) ≡ found c (put x c.need (e ∷ es))
      put_greater greater rest =
          let no : nat_lt x e.0 ≡ false = false_from_ne_true (nat_lt x e.0) (λ q. let l = ltb-true x e.0 q in omega arith) in
          let other : nat_eq x e.0 ≡ false = ne_eqb x e.0 (λ q. omega arith) in
          let one : f k e.0 ≡ just e.1 = h k e.0 above (λ q. omega arith) ∙ ap (both_parts n k e.0 None) (cond-true (nat_eq e.0 e.0) (Some e.1) (need_of es e.0) (eq-eqb e.0 e.0 refl)) in
          ap (gather f k)
          (cond-false (nat_lt x e.0) (x ∷ e.0 ∷ keys_of es) (if nat_eq x e.0 then e.0 ∷ keys_of es else e.0 ∷ add x (keys_of es)) no
          ∙ cond-false (nat_eq x e.0) (e.0 ∷ keys_of es) (e.0 ∷ add x (keys_of es)) other)
          ∙ ap (then_others f k e.0 (add x (keys_of es))) one
          ∙ ap (before e.0 (simple e.1)) rest
          ∙ ap (found c)
          (sym (cond-false (nat_lt x e.0) ((x, c.need) ∷ e ∷ es) (if nat_eq x e.0 then (x, c.need) ∷ es else e ∷ put x c.need es) no
          ∙ cond-false (nat_eq x e.0) ((x, c.need) ∷ es) (e ∷ put x c.need es) other))

    put_among : (m : ℕ) (es : Needs) (k : ℕ) → m ≤ x → ascends_from m es ≡ true → IsOfBody m es → f k x ≡ Some c → gather f k (add x (keys_of es)) ≡ found c (put x c.need es)
    put_among m [] k l a h o = one_first [] k [] o (λ i. refl)
    put_among m (e ∷ es) k l a h o =
        let both = and_parts (nat_le m e.0) (ascends_from (suc e.0) es) a in
        let above : m ≤ e.0 = leb-true m e.0 both.0 in
        let plain : k + 0 ≡ k = omega arith in
        ⊎_elim
        (λ same. put_same m k e es above both.1 h same o)
        (λ differ.
        ⊎_elim
        (λ less. put_lesser m k e es above both.1 h l less o)
        (λ greater. put_greater m k e es above both.1 h greater (put_among (suc e.0) es (k + 0) (omega arith) both.1 (of_rest m k e es above both.1 h) (ap (λ j. f j x) plain ∙ o)))
        differ)
        (cases_order x e.0)

-- ---- what a let gathers

joined_found : (n k x : ℕ) (q r : Polarity) (b c : types.MailboxType) → (d : Combined) × (parts_joined n k x q r b c ≡ Some d)
joined_found n k x Sending Sending b c = (_, refl)
joined_found n k x Sending Receiving b c = (_, refl)
joined_found n k x Receiving r b c = (_, refl)

bound_found : (n k x : ℕ) (b : types.MailboxType) (o : Option types.MailboxType) → (d : Combined) × (both_parts n k x (Some b) o ≡ Some d)
bound_found n k x b None = (_, refl)
bound_found n k x b (Some c) = joined_found n k x b.polarity c.polarity b c

nothing_gathered : (n k : ℕ) (body : Needs) → ascends_from 0 body ≡ true → let_gathered n k [] body ≡ only body
nothing_gathered n k body a =
    let f : ℕ → ℕ → Option Combined = λ j z. both_parts n j z None (need_of body z) in
    ap (gather f k) (names_stay 0 body a) ∙ needs_stay n f 0 body k a (λ j z l. refl)

one_gathered : (n k x : ℕ) (b : types.MailboxType) (body : Needs) (c : Combined) → ascends_from 0 body ≡ true → both_parts n k x (Some b) (need_of body x) ≡ Some c → let_gathered n k ((x, b) ∷ []) body ≡ found c (put x c.need body)
one_gathered n k x b body c a e =
    let f : ℕ → ℕ → Option Combined = λ j z. both_parts n j z (need_of ((x, b) ∷ []) z) (need_of body z) in
    let here : f k x ≡ Some c = ap (λ q. both_parts n k x q (need_of body x)) (cond-true (nat_eq x x) (Some b) None (eq-eqb x x refl)) ∙ e in
    ap (λ zs. gather f k (add x zs)) (names_stay 0 body a)
    ∙ put_among n f x c 0 body k (omega arith) a (λ j z l other. ap (λ q. both_parts n j z q (need_of body z)) (cond-false (nat_eq z x) (Some b) None (ne_eqb z x other))) here

module _ (p : Program) (old new : Problem) where
  abbrev GrowsBy : Gathered → Type 0
  GrowsBy g = Grows old new (map (placed_variable p) g.vars) (map (placed_constraint p) g.constraints) []

  pub one_put : (n x : ℕ) (of : MailboxType) (body needs : List (ℕ × MailboxType)) (need : Option MailboxType) → ascends_from 0 (needs_view body) ≡ true → IsCombined p old new need (both_parts n (1 + length old.vars) x (Some (type_view of)) (need_of (needs_view body) x)) → needs_view needs ≡ put_option x (option_map type_view need) (needs_view body) → IsGathered p old new needs (let_gathered n (1 + length old.vars) ((x, type_view of) ∷ []) (needs_view body))
  one_put n x of body needs need a w e =
      let k : ℕ = 1 + length old.vars in
      let some = bound_found n k x (type_view of) (need_of (needs_view body) x) in
      let c : Combined = some.0 in
      let all : let_gathered n k ((x, type_view of) ∷ []) (needs_view body) ≡ found c (put x c.need (needs_view body)) = one_gathered n k x (type_view of) (needs_view body) c a some.1 in
      record {
        needs = e ∙ ap (λ q. put_option x q (needs_view body)) (w.need ∙ ap combined_need some.1) ∙ sym (ap (λ (g : Gathered). g.needs) all);
        grows =
            subst GrowsBy (sym all)
            (subst (λ q. Grows old new (map (placed_variable p) (vars_with q)) (map (placed_constraint p) (constraints_with q)) []) some.1 w.grows);
      }

pub nothing_put : (p : Program) (q : Problem) (n k : ℕ) (bound body : List (ℕ × MailboxType)) → length bound ≡ 0 → ascends_from 0 (needs_view body) ≡ true → IsGathered p q q body (let_gathered n k (needs_view bound) (needs_view body))
nothing_put p q n k [] body e a =
    let all = nothing_gathered n k (needs_view body) a in
    record {
      needs = sym (ap (λ (g : Gathered). g.needs) all);
      grows = subst (GrowsBy p q q) (sym all) (grows_none q);
    }
nothing_put p q n k (b ∷ bound) body e a = cc

-- One walk divides what all names together divide.
use Rattle.std.proofs.Common.{◌≡◌, ℕ, suc, ◌≤◌, ◌<◌, Bool, true, false, not, nat_eq, cond, if◌then◌else◌, List, [], ◌∷◌, ◌++◌, take, length, Option, Some, None, ⊎_elim, refl, sym, ap, ◌∙◌, subst, arith}
use Rattle.std.specs.Prelude.{nat_le}
use Rattle.std.specs.List.{list_all}
use Rattle.std.specs.Map.{keys_of}
use Rattle.std.proofs.lemmas.Bool.{eq-eqb, eqb-true, ne_eqb, leb-true, and_parts, or_parts, cases_Bool, cond-true, cond-false}
use Rattle.std.proofs.lemmas.List.{append-nil}
use Rattle.pat_semantics_spec.specs.Programs.{is_among}
use Rattle.pat_type_system_spec.specs.Types.{MailboxType}
use Rattle.pat_type_system_spec.specs.Typings.{name_type, without_name}
use Rattle.pat_type_schemes_spec.specs.NodeTypes.{Needs, need_of}
use Rattle.pat_derivation_spec.specs.Demands.{Demand, Divide}
use Rattle.pat_derivation_spec.specs.Derivations.{ascends_from}
use Rattle.pat_derivation_spec.specs.Conditions.{but_not_name}
use Rattle.pat_derivations.specs.environments.Lists.{others_in, with_others}
use Rattle.pat_obligations.specs.Listed.{divides_in, let_names}
use Rattle.pat_obligations.specs.Ordered.{is_name, next_of, behind, left_of, divides_along}
use Rattle.pat_obligations.specs.Views.{demand_view, demands_view}
use Rattle.pat_obligations.specs.declared.demand.Demand.{Demand as CodeDemand}

-- ---- look-ups

here : (e : ℕ × MailboxType) (es : Needs) (z : ℕ) → nat_eq z e.0 ≡ true → need_of (e ∷ es) z ≡ Some e.1
here e es z q = cond-true (nat_eq z e.0) (Some e.1) (need_of es z) q

later : (e : ℕ × MailboxType) (es : Needs) (z : ℕ) → nat_eq z e.0 ≡ false → need_of (e ∷ es) z ≡ need_of es z
later e es z q = cond-false (nat_eq z e.0) (Some e.1) (need_of es z) q

-- what is needed nowhere is neither the first nor needed behind it
not_first : (e : ℕ × MailboxType) (es : Needs) (z : ℕ) → need_of (e ∷ es) z ≡ None → (nat_eq z e.0 ≡ false) × (need_of es z ≡ None)
not_first e es z = go (nat_eq z e.0)
  where
    go : (b : Bool) → (if b then Some e.1 else need_of es z) ≡ None → (b ≡ false) × (need_of es z ≡ None)
    go true h = cc
    go false h = (refl, h)

below : (k : ℕ) (es : Needs) (z : ℕ) → ascends_from k es ≡ true → z < k → need_of es z ≡ None
below k [] z a l = refl
below k (e ∷ es) z a l =
    let both = and_parts (nat_le k e.0) (ascends_from (suc e.0) es) a in
    let above : k ≤ e.0 = leb-true k e.0 both.0 in
    later e es z (ne_eqb z e.0 (λ q. omega arith)) ∙ below (suc e.0) es z both.1 (omega arith)

-- ---- the let's own name

-- another name isn't the let's own, where that isn't needed
other_name : (but : Option ℕ) (e : ℕ × MailboxType) (es : Needs) → name_type but (need_of (e ∷ es)) ≡ None → (is_name but e.0 ≡ false) × (name_type but (need_of es) ≡ None)
other_name None e es h = (refl, refl)
other_name (Some x) e es h = not_first e es x h

not_without : (but : Option ℕ) (m : Needs) (z : ℕ) → is_name but z ≡ false → without_name but (need_of m) z ≡ need_of m z
not_without None m z h = refl
not_without (Some x) m z h = cond-false (nat_eq x z) None (need_of m z) h

only_own : (but : Option ℕ) (m : Needs) (z : ℕ) → list_all (is_name but) (keys_of m) ≡ true → is_name but z ≡ false → need_of m z ≡ None
only_own but [] z h o = refl
only_own but (e ∷ es) z h o =
    let both = and_parts (is_name but e.0) (list_all (is_name but) (keys_of es)) h in
    later e es z (ne_eqb z e.0 (λ q. let clash : true ≡ false = sym both.0 ∙ ap (is_name but) (sym q) ∙ o in cc))
    ∙ only_own but es z both.1 o

-- ---- what a part names

module _ (but : Option ℕ) where
  -- what the environment doesn't name, the part doesn't either
  unnamed : (es m : Needs) (z : ℕ) → list_all (is_name but) (keys_of (left_of es m)) ≡ true → need_of es z ≡ None → is_name but z ≡ false → need_of m z ≡ None
  unnamed [] m z h n o = only_own but m z h o
  unnamed (e ∷ es) [] z h n o = refl
  unnamed (e ∷ es) (d ∷ ds) z h n o =
      let apart = not_first e es z n in
      ⊎_elim
      (λ q.
      later d ds z (ap (nat_eq z) (sym (eqb-true e.0 d.0 q)) ∙ apart.0)
      ∙ unnamed es ds z (subst (λ l. list_all (is_name but) (keys_of (left_of es l)) ≡ true) (cond-true (nat_eq e.0 d.0) ds (d ∷ ds) q) h) apart.1 o)
      (λ q. unnamed es (d ∷ ds) z (subst (λ l. list_all (is_name but) (keys_of (left_of es l)) ≡ true) (cond-false (nat_eq e.0 d.0) ds (d ∷ ds) q) h) apart.1 o)
      (cases_Bool (nat_eq e.0 d.0))

  among_or_none : (es : Needs) (z : ℕ) → is_among z (keys_of es) ≡ false → need_of es z ≡ None
  among_or_none [] z h = refl
  among_or_none (e ∷ es) z h =
      let apart = or_parts (nat_eq z e.0) (is_among z (keys_of es)) h in
      later e es z apart.0 ∙ among_or_none es z apart.1

-- names of the part that the environment names are no others
module _ (but : Option ℕ) (xs : List ℕ) where
  abbrev Names : Needs → Type 0
  Names m = (z : ℕ) → is_among z xs ≡ false → is_name but z ≡ false → need_of m z ≡ None

  present : (d : ℕ × MailboxType) (ds : Needs) → Names (d ∷ ds) → is_name but d.0 ≡ false → is_among d.0 xs ≡ true
  present d ds h o =
      ⊎_elim
      (λ q. q)
      (λ q. let clash : Some d.1 ≡ None = sym (here d ds d.0 (eq-eqb d.0 d.0 refl)) ∙ h d.0 q o in cc)
      (cases_Bool (is_among d.0 xs))

  fewer : (d : ℕ × MailboxType) (ds : Needs) → Names (d ∷ ds) → Names ds
  fewer d ds h z q o = (not_first d ds z (h z q o)).1

  dropped : (y : ℕ) (ys : List ℕ) → is_among y xs ≡ true → others_in xs (y ∷ ys) ≡ others_in xs ys
  dropped y ys q = cond-true (is_among y xs) (others_in xs ys) (y ∷ others_in xs ys) q

no_others : (but : Option ℕ) (xs : List ℕ) (m : Needs) → Names but xs m → others_in xs (but_not_name but (keys_of m)) ≡ []
no_others None xs [] h = refl
no_others (Some x) xs [] h = refl
no_others None xs (d ∷ ds) h =
    dropped None xs d.0 (keys_of ds) (present None xs d ds h refl) ∙ no_others None xs ds (fewer None xs d ds h)
no_others (Some x) xs (d ∷ ds) h =
    let left = λ (b : Bool). others_in xs (cond (not b) (d.0 ∷ but_not_name (Some x) (keys_of ds)) (but_not_name (Some x) (keys_of ds))) in
    ⊎_elim
    (λ q. ap left q ∙ no_others (Some x) xs ds (fewer (Some x) xs d ds h))
    (λ q.
    ap left q
    ∙ dropped (Some x) xs d.0 (but_not_name (Some x) (keys_of ds)) (present (Some x) xs d ds h q)
    ∙ no_others (Some x) xs ds (fewer (Some x) xs d ds h))
    (cases_Bool (nat_eq x d.0))

-- ---- one walk

module _ (but : Option ℕ) where
  front : (e : ℕ × MailboxType) (es ms : Needs) → list_all (is_name but) (keys_of (left_of es (behind e.0 ms))) ≡ true → need_of es e.0 ≡ None → is_name but e.0 ≡ false → need_of ms e.0 ≡ next_of e.0 ms
  front e es [] h u o = refl
  front e es (d ∷ ds) h u o =
      ⊎_elim
      (λ q. here d ds e.0 q ∙ sym (cond-true (nat_eq e.0 d.0) (Some d.1) None q))
      (λ q.
      unnamed but es (d ∷ ds) e.0 (subst (λ l. list_all (is_name but) (keys_of (left_of es l)) ≡ true) (cond-false (nat_eq e.0 d.0) ds (d ∷ ds) q) h) u o
      ∙ sym (cond-false (nat_eq e.0 d.0) (Some d.1) None q))
      (cases_Bool (nat_eq e.0 d.0))

  passed : (x : ℕ) (ms : Needs) (z : ℕ) → suc x ≤ z → need_of ms z ≡ need_of (behind x ms) z
  passed x [] z l = refl
  passed x (d ∷ ds) z l =
      ⊎_elim
      (λ q.
      let same : x ≡ d.0 = eqb-true x d.0 q in
      later d ds z (ne_eqb z d.0 (λ r. omega arith)) ∙ sym (ap (λ es. need_of es z) (cond-true (nat_eq x d.0) ds (d ∷ ds) q)))
      (λ q. sym (ap (λ es. need_of es z) (cond-false (nat_eq x d.0) ds (d ∷ ds) q)))
      (cases_Bool (nat_eq x d.0))

  module _ (g m n : Needs) where
    along : (k : ℕ) (es ms ns : Needs) → ascends_from k es ≡ true → name_type but (need_of es) ≡ None → list_all (is_name but) (keys_of (left_of es ms)) ≡ true → list_all (is_name but) (keys_of (left_of es ns)) ≡ true → ((z : ℕ) → k ≤ z → need_of g z ≡ need_of es z) → ((z : ℕ) → k ≤ z → need_of m z ≡ need_of ms z) → ((z : ℕ) → k ≤ z → need_of n z ≡ need_of ns z) → divides_in (keys_of es) but g m n ≡ divides_along es ms ns
    along k [] ms ns a w hm hn fg fm fn = refl
    along k (e ∷ es) ms ns a w hm hn fg fm fn =
        let both = and_parts (nat_le k e.0) (ascends_from (suc e.0) es) a in
        let above : k ≤ e.0 = leb-true k e.0 both.0 in
        let apart = other_name but e es w in
        let once : need_of es e.0 ≡ None = below (suc e.0) es e.0 both.1 (omega arith) in
        let given : need_of g e.0 ≡ Some e.1 = fg e.0 above ∙ here e es e.0 (eq-eqb e.0 e.0 refl) in
        let first : without_name but (need_of m) e.0 ≡ next_of e.0 ms = not_without but m e.0 apart.0 ∙ fm e.0 above ∙ front e es ms hm once apart.0 in
        let second : without_name but (need_of n) e.0 ≡ next_of e.0 ns = not_without but n e.0 apart.0 ∙ fn e.0 above ∙ front e es ns hn once apart.0 in
        let rest : divides_in (keys_of es) but g m n ≡ divides_along es (behind e.0 ms) (behind e.0 ns) = along (suc e.0) es (behind e.0 ms) (behind e.0 ns) both.1 apart.1 hm hn (λ z l. fg z (omega arith) ∙ later e es z (ne_eqb z e.0 (λ q. omega arith))) (λ z l. fm z (omega arith) ∙ passed e.0 ms z l) (λ z l. fn z (omega arith) ∙ passed e.0 ns z l) in
        ap (λ o. Divide o (without_name but (need_of m) e.0) (without_name but (need_of n) e.0) ∷ divides_in (keys_of es) but g m n) given
        ∙ ap (λ o. Divide (Some e.1) o (without_name but (need_of n) e.0) ∷ divides_in (keys_of es) but g m n) first
        ∙ ap (λ o. Divide (Some e.1) (next_of e.0 ms) o ∷ divides_in (keys_of es) but g m n) second
        ∙ ap (λ ds. Divide (Some e.1) (next_of e.0 ms) (next_of e.0 ns) ∷ ds) rest

pub divided : (but : Option ℕ) (env m n : Needs) → ascends_from 0 env ≡ true → name_type but (need_of env) ≡ None → list_all (is_name but) (keys_of (left_of env m)) ≡ true → list_all (is_name but) (keys_of (left_of env n)) ≡ true → divides_along env m n ≡ divides_in (let_names env but m n) but env m n
divided but env m n a w hm hn =
    let own : List ℕ = keys_of env in
    let no_first : others_in own (but_not_name but (keys_of m)) ≡ [] = no_others but own m (λ z q o. unnamed but env m z hm (among_or_none but env z q) o) in
    let no_second : others_in own (but_not_name but (keys_of n)) ≡ [] = no_others but own n (λ z q o. unnamed but env n z hn (among_or_none but env z q) o) in
    let first : with_others own (but_not_name but (keys_of m)) ≡ own = ap (λ xs. own ++ xs) no_first ∙ append-nil own in
    let names : let_names env but m n ≡ own = ap (λ xs. with_others xs (but_not_name but (keys_of n))) first ∙ (ap (λ xs. own ++ xs) no_second ∙ append-nil own) in
    sym (ap (λ xs. divides_in xs but env m n) names ∙ along but env m n 0 env m n a w hm hn (λ z l. refl) (λ z l. refl) (λ z l. refl))

-- ---- what was put is taken off again

abbrev tail_of : List Demand → List Demand
tail_of [] = []
tail_of (d ∷ ds) = ds

abbrev first_or : Demand → List Demand → Demand
first_or d [] = d
first_or d (c ∷ cs) = c

pub taken_off : (out more : List CodeDemand) (ds : List Demand) → demands_view more ≡ demands_view out ++ ds → demands_view (take (length out) more) ≡ demands_view out
taken_off [] more ds h = refl
taken_off (o ∷ os) [] ds h = cc
taken_off (o ∷ os) (m ∷ ms) ds h =
    let head : demand_view m ∷ demands_view ms ≡ demand_view o ∷ (demands_view os ++ ds) = h in
    let deeper : demands_view (take (length os) ms) ≡ demands_view os = taken_off os ms ds (ap tail_of head) in
    ap (λ ls. demand_view m ∷ ls) deeper ∙ ap (λ d. d ∷ demands_view os) (ap (first_or (demand_view m)) head)

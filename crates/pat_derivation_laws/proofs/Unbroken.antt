-- What a valid derivation says at each node.
use Rattle.std.proofs.Common.{◌≡◌, ℕ, zero, suc, ◌+◌, ◌<◌, ◌≤◌, Bool, true, false, not, ◌&&◌, max, nat_eq, List, [], ◌∷◌, length, Option, Some, None, ⊎_elim, refl, sym, ap, ◌∙◌, subst, arith, nat_le}
use Rattle.std.specs.Prelude.{slice_get}
use Rattle.std.specs.List.{list_all}
use Rattle.std.proofs.lemmas.Bool.{and_parts, or_cases, cases_lt}
use Rattle.std.proofs.lemmas.Option.{slice_get_past}
use Rattle.pat_semantics_spec.specs.Programs.{Program, Function, Node, node_at, function_at}
use Rattle.pat_semantics_spec.specs.WellFormed.{WellFormed}
use Rattle.pat_inclusion_spec.specs.Values.{values_fit}
use Rattle.pat_inclusion_laws.proofs.Shown.{ValuesFit}
use Rattle.pat_type_schemes_spec.specs.Signatures.{signature_vars}
use Rattle.pat_derivation_spec.specs.Derivations.{Line, Derivation, line_at, scope_of, ascends_from}
use Rattle.pat_derivation_spec.specs.Rules.{needed, has_shape, has_words, has_no_alias, uses_well, drops_well, payloads_stand_apart, guard_covers, certs_show, has_values, starts_well, is_named_well, type_is_formed, tails_agree, first_agrees}
use Rattle.pat_derivation_spec.specs.Same.{is_same_kind}
use Rattle.pat_derivation_spec.specs.Validity.{Rule, ShapeRule, EmptyRule, AliasRule, UseRule, DropRule, PayloadRule, CoversRule, CertRule, broken_or, broken_at, broken_in, broken_for, broken_rule, found_at, first_from, first_bad, IsValid}
use Rattle.pat_derivation_spec.specs.Truth.{place, HoldsThroughout}
use Rattle.pat_derivation_laws.proofs.DemandsMet.{all_shown}
use Rattle.pat_type_system_spec.specs.Types.{kind_of_type}

-- the node has a line, and no rule is broken
pub record Unbroken (p : Program) (d : Derivation) (n : ℕ) (c : Node) : Type 0 where
  pub function : Function
  pub of : function_at p c.function ≡ Some function
  pub line : Line
  pub there : line_at d n ≡ Some line
  pub shape : has_shape p d (place n c function line) ≡ true
  pub words : has_words p d (place n c function line) ≡ true
  pub alias : has_no_alias p d (place n c function line) ≡ true
  pub uses : uses_well p d (place n c function line) ≡ true
  pub drops : drops_well p d (place n c function line) ≡ true
  pub apart : payloads_stand_apart p d (place n c function line) ≡ true
  pub covered : guard_covers (place n c function line) ≡ true
  pub certs : certs_show p d (place n c function line) ≡ true

passed : (b : Bool) (r : Rule) (o : Option Rule) → broken_or b r o ≡ None → (b ≡ true) × (o ≡ None)
passed true r o h = (refl, h)
passed false r o h = cc

unbroken_at : (p : Program) (d : Derivation) (n : ℕ) (c : Node) (g : Function) (l : Line) → function_at p c.function ≡ Some g → line_at d n ≡ Some l → broken_at p d (place n c g l) ≡ None → Unbroken p d n c
unbroken_at p d n c g l of there h =
    let k = place n c g l in
    let r8 = broken_or (certs_show p d k) CertRule None in
    let r7 = broken_or (guard_covers k) CoversRule r8 in
    let r6 = broken_or (payloads_stand_apart p d k) PayloadRule r7 in
    let r5 = broken_or (drops_well p d k) DropRule r6 in
    let r4 = broken_or (uses_well p d k) UseRule r5 in
    let r3 = broken_or (has_no_alias p d k) AliasRule r4 in
    let r2 = broken_or (has_words p d k) EmptyRule r3 in
    let a1 = passed (has_shape p d k) ShapeRule r2 h in
    let a2 = passed (has_words p d k) EmptyRule r3 a1.1 in
    let a3 = passed (has_no_alias p d k) AliasRule r4 a2.1 in
    let a4 = passed (uses_well p d k) UseRule r5 a3.1 in
    let a5 = passed (drops_well p d k) DropRule r6 a4.1 in
    let a6 = passed (payloads_stand_apart p d k) PayloadRule r7 a5.1 in
    let a7 = passed (guard_covers k) CoversRule r8 a6.1 in
    let a8 = passed (certs_show p d k) CertRule None a7.1 in
    record {
      function = g;
      of = of;
      line = l;
      there = there;
      shape = a1.0;
      words = a2.0;
      alias = a3.0;
      uses = a4.0;
      drops = a5.0;
      apart = a6.0;
      covered = a7.0;
      certs = a8.0;
    }

unbroken_in : (p : Program) (d : Derivation) (n : ℕ) (c : Node) (fo : Option Function) (lo : Option Line) → function_at p c.function ≡ fo → line_at d n ≡ lo → broken_in p d n c fo lo ≡ None → Unbroken p d n c
unbroken_in p d n c None lo of there h = cc
unbroken_in p d n c (Some g) None of there h = cc
unbroken_in p d n c (Some g) (Some l) of there h = unbroken_at p d n c g l of there h

-- at each node of a valid derivation no rule is broken
pub unbroken : (p : Program) (d : Derivation) (n : ℕ) (c : Node) → IsValid p d → node_at p n ≡ Some c → Unbroken p d n c
unfolding broken_rule
unbroken p d n c v at =
    unbroken_in p d n c (function_at p c.function) (line_at d n) refl refl
    (subst (λ o. broken_for p d n o (line_at d n) ≡ None) at (v n))

-- ---- Shape, field by field

pub record Shaped (p : Program) (d : Derivation) (n : ℕ) (c : Node) (g : Function) (l : Line) : Type 0 where
  pub kind : is_same_kind (kind_of_type l.of.result) c.kind ≡ true
  pub named : list_all (is_named_well p d n) l.of.needs ≡ true
  pub tails : tails_agree d l.of.result c.core ≡ true
  pub first : first_agrees p d (place n c g l) ≡ true
  pub starts : starts_well p d n ≡ true

pub shaped : (p : Program) (d : Derivation) (n : ℕ) (c : Node) (g : Function) (l : Line) → has_shape p d (place n c g l) ≡ true → Shaped p d n c g l
shaped p d n c g l h =
    let k = place n c g l in
    let b1 = is_same_kind (kind_of_type l.of.result) c.kind in
    let b2 = ascends_from 0 l.of.needs in
    let b3 = list_all (is_named_well p d n) l.of.needs in
    let b4 = type_is_formed (scope_of p d) l.of.result in
    let b5 = tails_agree d l.of.result c.core in
    let b6 = first_agrees p d k in
    let b7 = starts_well p d n in
    let a1 = and_parts b1 (b2 && (b3 && (b4 && (b5 && (b6 && b7))))) h in
    let a2 = and_parts b2 (b3 && (b4 && (b5 && (b6 && b7)))) a1.1 in
    let a3 = and_parts b3 (b4 && (b5 && (b6 && b7))) a2.1 in
    let a4 = and_parts b4 (b5 && (b6 && b7)) a3.1 in
    let a5 = and_parts b5 (b6 && b7) a4.1 in
    let a6 = and_parts b6 b7 a5.1 in
    record { kind = a1.0; named = a3.0; tails = a5.0; first = a6.0; starts = a6.1 }

-- ---- the values of the variables

first_there : {A : Type 0} (xs : List A) (k : ℕ) (a : A) → slice_get xs k ≡ Some a → (b : A) × (slice_get xs 0 ≡ Some b)
first_there [] k a h = cc
first_there (x ∷ xs) k a h = (x, refl)

pub values_do_fit : (p : Program) (d : Derivation) → WellFormed p → IsValid p d → ValuesFit (scope_of p d)
values_do_fit p d w v =
    let main = w.main in
    let body = (w.functions p.main main.0 main.1).body in
    let start = first_there p.nodes main.0.body body.0 body.1 in
    let u = unbroken p d 0 start.0 v start.1 in
    let s = shaped p d 0 start.0 u.function u.line u.shape in
    let fit : has_values p d ≡ true = ⊎_elim (λ z. cc) (λ y. y) (or_cases (not (nat_eq 0 0)) (has_values p d) s.starts) in
    (and_parts (nat_le (length (signature_vars p)) (length d.vars)) (values_fit (scope_of p d)) fit).1

-- ---- the first bad number

found_none : (n : ℕ) (o : Option Rule) (later : Option (ℕ × Rule)) → found_at n o later ≡ None → (o ≡ None) × (later ≡ None)
found_none n None later h = (refl, h)
found_none n (Some r) later h = cc

none_from : (p : Program) (d : Derivation) (more n : ℕ) → first_from p d more n ≡ None → (k : ℕ) → n ≤ k → k < n + more → broken_rule p d k ≡ None
none_from p d zero n h k l m = absurd (omega arith)
none_from p d (suc more) n h k l m =
    let both = found_none n (broken_rule p d n) (first_from p d more (suc n)) h in
    ⊎_elim
    (λ g. none_from p d more (suc n) both.1 k g (omega arith))
    (λ e. let same : n ≡ k = omega arith in subst (λ x. broken_rule p d x ≡ None) same both.0)
    (cases_lt n k)

from_none : (p : Program) (d : Derivation) (more n : ℕ) → IsValid p d → first_from p d more n ≡ None
from_none p d zero n v = refl
from_none p d (suc more) n v = ap (λ o. found_at n o (first_from p d more (suc n))) (v n) ∙ from_none p d more (suc n) v

-- the first bad number, and what is found there
found_some : (p : Program) (d : Derivation) (more n m : ℕ) (r : Rule) → first_from p d more n ≡ Some (m, r) → (broken_rule p d m ≡ Some r) × ((k : ℕ) → n ≤ k → k < m → broken_rule p d k ≡ None) × (n ≤ m)
found_some p d zero n m r h = cc
found_some p d (suc more) n m r h = go (broken_rule p d n) refl h (λ q. found_some p d more (suc n) m r q)
  where
    go : (o : Option Rule) → broken_rule p d n ≡ o → found_at n o (first_from p d more (suc n)) ≡ Some (m, r) → (first_from p d more (suc n) ≡ Some (m, r) → (broken_rule p d m ≡ Some r) × ((k : ℕ) → suc n ≤ k → k < m → broken_rule p d k ≡ None) × (suc n ≤ m)) → (broken_rule p d m ≡ Some r) × ((k : ℕ) → n ≤ k → k < m → broken_rule p d k ≡ None) × (n ≤ m)
    go None e q deeper =
        let t = deeper q in
        let least = t.2 in (
          t.0,
          λ k l b. ⊎_elim (λ g. t.1 k g b) (λ s. let same : n ≡ k = omega arith in subst (λ x. broken_rule p d x ≡ None) same e) (cases_lt n k),
          omega arith,
        )
    go (Some x) e q deeper =
        let number : n ≡ m = ap (λ (z : ℕ × Rule). z.0) (inside (n, x) (m, r) q) in
        let rule : x ≡ r = ap (λ (z : ℕ × Rule). z.1) (inside (n, x) (m, r) q) in (
          subst (λ z. broken_rule p d z ≡ Some r) number (e ∙ ap (λ z. Some z) rule),
          λ k l b. absurd (omega arith),
          omega arith,
        )
      where
        inside : (a b : ℕ × Rule) → Some a ≡ Some b → a ≡ b
        inside a b z = cc

pub first_bad_is : (p : Program) (d : Derivation) (n : ℕ) (r : Rule) → first_bad p d ≡ Some (n, r) → (broken_rule p d n ≡ Some r) × ((k : ℕ) → k < n → broken_rule p d k ≡ None)
unfolding first_bad
first_bad_is p d n r h =
    let f = found_some p d (max (length p.nodes) (length d.lines)) 0 n r h in
    (f.0, λ k b. f.1 k (omega arith) b)

-- past the nodes and the lines no rule is broken
past_none : (p : Program) (d : Derivation) (k : ℕ) → length p.nodes ≤ k → length d.lines ≤ k → broken_rule p d k ≡ None
unfolding broken_rule
past_none p d k a b =
    ap (λ o. broken_for p d k o (line_at d k)) (slice_get_past p.nodes k a)
    ∙ ap (λ o. broken_for p d k None o) (slice_get_past d.lines k b)

pub none_bad_valid : (p : Program) (d : Derivation) → first_bad p d ≡ None → IsValid p d
unfolding first_bad
none_bad_valid p d h k =
    let most = max (length p.nodes) (length d.lines) in
    ⊎_elim
    (λ l. none_from p d most 0 h k (omega arith) (omega arith))
    (λ g. past_none p d k (omega arith) (omega arith))
    (cases_lt k most)

pub valid_none_bad : (p : Program) (d : Derivation) → IsValid p d → first_bad p d ≡ None
unfolding first_bad
valid_none_bad p d v = from_none p d (max (length p.nodes) (length d.lines)) 0 v

found_later : (p : Program) (d : Derivation) (n : ℕ) (r : Rule) → broken_rule p d n ≡ Some r → ((k : ℕ) → k < n → broken_rule p d k ≡ None) → (more a : ℕ) → a ≤ n → n < a + more → first_from p d more a ≡ Some (n, r)
found_later p d n r h below zero a l m = absurd (omega arith)
found_later p d n r h below (suc more) a l m =
    ⊎_elim
    (λ g. ap (λ o. found_at a o (first_from p d more (suc a))) (below a g) ∙ found_later p d n r h below more (suc a) g (omega arith))
    (λ e.
    let same : n ≡ a = omega arith in
    ap (λ o. found_at a o (first_from p d more (suc a))) (ap (broken_rule p d) (sym same) ∙ h) ∙ ap (λ k. Some (k, r)) (sym same))
    (cases_lt a n)

pub is_first_bad : (p : Program) (d : Derivation) (n : ℕ) (r : Rule) → broken_rule p d n ≡ Some r → ((k : ℕ) → k < n → broken_rule p d k ≡ None) → first_bad p d ≡ Some (n, r)
unfolding first_bad
is_first_bad p d n r h below =
    let most = max (length p.nodes) (length d.lines) in
    ⊎_elim
    (λ l. found_later p d n r h below most 0 (omega arith) (omega arith))
    (λ g. let c : None ≡ Some r = sym (past_none p d n (omega arith) (omega arith)) ∙ h in cc)
    (cases_lt n most)

-- ---- what certificates show is true

pub valid_holds : (p : Program) (d : Derivation) → WellFormed p → IsValid p d → HoldsThroughout p d
valid_holds p d w v n c at =
    let u = unbroken p d n c v at in
    record {
      function = u.function;
      of = u.of;
      line = u.line;
      there = u.there;
      shape = u.shape;
      words = u.words;
      alias = u.alias;
      uses = u.uses;
      drops = u.drops;
      apart = u.apart;
      covered = u.covered;
      inclusions = all_shown (scope_of p d) (needed p d (place n c u.function u.line)) u.line.certs (values_do_fit p d w v) u.certs;
    }

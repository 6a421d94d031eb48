-- The first bad number, along the numbers.
use Rattle.std.proofs.Common.{◌≡◌, ℕ, zero, suc, ◌+◌, ◌-◌, ◌<◌, ◌≤◌, Bool, true, false, ◌&&◌, ◌||◌, max, List, [], ◌∷◌, length, Option, Some, None, get_or, refl, sym, ap, ap₂, ◌∙◌, subst, arith}
use Rattle.std.specs.Prelude.{slice_get, not, nat_eq}
use Rattle.std.proofs.lemmas.Option.{slice_get_within, slice_get-get_or}
use Rattle.pat_semantics_spec.specs.Programs.{Function, Node, Program, node_at, function_at}
use Rattle.pat_semantics_spec.specs.WellFormed.{WellFormed}
use Rattle.std.specs.List.{list_all}
use Rattle.pat_type_system_spec.specs.Types.{kind_of_type}
use Rattle.pat_derivation_spec.specs.Same.{is_same_kind}
use Rattle.pat_derivation_spec.specs.Derivations.{Line, Derivation, line_at, ascends_from, scope_of}
use Rattle.pat_derivation_spec.specs.Conditions.{Place}
use Rattle.pat_derivation_spec.specs.Rules.{is_named_well, type_is_formed, tails_agree, first_agrees, has_values, has_shape}
use Rattle.pat_derivation_spec.specs.Validity.{Rule, ShapeRule, broken_in, broken_for, broken_rule, broken_at, found_at, first_from, first_bad}
use Rattle.std.specs.Prelude.{Result, Ok, Err, IfOk, IfNone, option_map}
use Rattle.std.proofs.lemmas.List.{length-map}
use Rattle.pat_core.specs.declared.program.Program.{Program as CodeProgram}
use Rattle.pat_core.specs.Views.{node_view, program_view}
use Rattle.pat_derivations.specs.declared.data.Derivation.{Derivation as CodeDerivation}
use Rattle.pat_derivations.specs.Views.{line_view, derivation_view}
use Rattle.pat_judge.specs.declared.judging.Rejection.{Rejection}
use Rattle.pat_judge.specs.Views.{rejection_view}
use Rattle.pat_judge.proofs.Breaking.{breaks_shape}

-- what is found from number n on
abbrev pub found_from : Program → Derivation → ℕ → Option (ℕ × Rule)
found_from p d n = first_from p d (max (length p.nodes) (length d.lines) - n) n

pub first_is : (p : Program) (d : Derivation) → found_from p d 0 ≡ first_bad p d
unfolding first_bad
first_is p d = let e : max (length p.nodes) (length d.lines) - 0 ≡ max (length p.nodes) (length d.lines) = omega arith in ap (λ m. first_from p d m 0) e

step : (p : Program) (d : Derivation) (n : ℕ) → n < max (length p.nodes) (length d.lines) → found_from p d n ≡ found_at n (broken_rule p d n) (found_from p d (suc n))
step p d n l =
    let e : max (length p.nodes) (length d.lines) - n ≡ suc (max (length p.nodes) (length d.lines) - suc n) = omega arith in
    ap (λ m. first_from p d m n) e

pub found_here : (p : Program) (d : Derivation) (n : ℕ) (rule : Rule) → n < max (length p.nodes) (length d.lines) → Some rule ≡ broken_rule p d n → Some (n, rule) ≡ found_from p d n
found_here p d n rule l e = ap (λ o. found_at n o (found_from p d (suc n))) e ∙ sym (step p d n l)

pub found_later : (p : Program) (d : Derivation) (n : ℕ) → n < max (length p.nodes) (length d.lines) → None ≡ broken_rule p d n → found_from p d (suc n) ≡ found_from p d n
found_later p d n l e = ap (λ o. found_at n o (found_from p d (suc n))) e ∙ sym (step p d n l)

pub found_none : (p : Program) (d : Derivation) (n : ℕ) → max (length p.nodes) (length d.lines) ≤ n → None ≡ found_from p d n
found_none p d n l =
    let e : max (length p.nodes) (length d.lines) - n ≡ 0 = omega arith in ap (λ m. first_from p d m n) (sym e)

-- ---- variables without values

node_there : (p : Program) → WellFormed p → 0 < length p.nodes
node_there p h =
    let f = h.functions p.main h.main.0 h.main.1 in
    let l = slice_get_within p.nodes h.main.0.body f.body.0 f.body.1 in
    omega arith

all_false : (a b c d e f : Bool) → (a && (b && (c && (d && (e && (f && false)))))) ≡ false
all_false false b c d e f = refl
all_false true false c d e f = refl
all_false true true false d e f = refl
all_false true true true false e f = refl
all_false true true true true false f = refl
all_false true true true true true false = refl
all_false true true true true true true = refl

not_start : (p : Program) (d : Derivation) (h : Place) → h.number ≡ 0 → has_values p d ≡ false → has_shape p d h ≡ false
not_start p d h z v =
    ap (λ x. is_same_kind (kind_of_type h.line.of.result) h.node.kind && (ascends_from 0 h.line.of.needs && (list_all (is_named_well p d h.number) h.line.of.needs && (type_is_formed (scope_of p d) h.line.of.result && (tails_agree d h.line.of.result h.node.core && (first_agrees p d h && x))))))
    (ap (λ n. not (nat_eq n 0) || has_values p d) z ∙ v)
    ∙ all_false (is_same_kind (kind_of_type h.line.of.result) h.node.kind) (ascends_from 0 h.line.of.needs) (list_all (is_named_well p d h.number) h.line.of.needs) (type_is_formed (scope_of p d) h.line.of.result) (tails_agree d h.line.of.result h.node.core) (first_agrees p d h)

inside : (p : Program) (d : Derivation) (c : Node) (o : Option Function) (l : Option Line) → has_values p d ≡ false → Some ShapeRule ≡ broken_in p d 0 c o l
inside p d c None None v = refl
inside p d c None (Some l) v = refl
inside p d c (Some g) None v = refl
inside p d c (Some g) (Some l) v = breaks_shape p d (record { number = 0; node = c; function = g; line = l }) (not_start p d (record { number = 0; node = c; function = g; line = l }) refl v)

rule_at : (p : Program) (d : Derivation) (n : ℕ) (c : Node) → node_at p n ≡ Some c → broken_rule p d n ≡ broken_in p d n c (function_at p c.function) (line_at d n)
unfolding broken_rule
rule_at p d n c e = ap (λ o. broken_for p d n o (line_at d n)) e

pub without_values : (p : Program) (d : Derivation) → WellFormed p → has_values p d ≡ false → Some (0, ShapeRule) ≡ first_bad p d
without_values p d h v =
    let some = node_there p h in
    let f = h.functions p.main h.main.0 h.main.1 in
    let c = get_or p.nodes 0 f.body.0 in
    let at : node_at p 0 ≡ Some c = slice_get-get_or p.nodes 0 f.body.0 some in
    found_here p d 0 ShapeRule (omega arith) (inside p d c (function_at p c.function) (line_at d 0) v ∙ sym (rule_at p d 0 c at)) ∙ first_is p d

-- ---- without a node

pub no_node : (p : Program) (d : Derivation) (n : ℕ) → None ≡ node_at p n → None ≡ line_at d n → None ≡ broken_rule p d n
unfolding broken_rule
no_node p d n e l = ap₂ (broken_for p d n) e l

pub line_alone : (p : Program) (d : Derivation) (n : ℕ) (l : Line) → None ≡ node_at p n → Some l ≡ line_at d n → Some ShapeRule ≡ broken_rule p d n
unfolding broken_rule
line_alone p d n l e a = ap₂ (broken_for p d n) e a

pub with_node : (p : Program) (d : Derivation) (n : ℕ) (c : Node) → Some c ≡ node_at p n → broken_in p d n c (function_at p c.function) (line_at d n) ≡ broken_rule p d n
with_node p d n c e = sym (rule_at p d n c (sym e))

-- ---- in the code's words

pub within_both : (p : CodeProgram) (d : CodeDerivation) (n end : ℕ) → end ≡ max (length p.nodes) (length d.nodes) → n < end → n < max (length (program_view p).nodes) (length (derivation_view d).lines)
within_both p d n end e l =
    subst (λ m. n < m) (e ∙ sym (ap₂ max (length-map p.nodes node_view) (length-map d.nodes line_view))) l

pub where_none : {E T : Type 0} (p : Program) (d : Derivation) (r : Result (Option Rejection) E) → (first_bad p d ≡ None → T) → IfOk r (λ o. option_map rejection_view o ≡ first_bad p d) → IfOk r (λ o. IfNone o T)
where_none p d (Ok None) f h = f (sym h)
where_none p d (Ok (Some x)) f h = tt
where_none p d (Err e) f h = tt

-- What a valid derivation says of the lines of its nodes, and of the values of its variables.
use Rattle.std.proofs.Common.{◌≡◌, ℕ, Bool, true, false, not, ◌&&◌, nat_eq, List, [], ◌∷◌, length, Option, Some, None, refl, subst, ⊎_elim}
use Rattle.std.specs.Prelude.{slice_get, nat_le}
use Rattle.std.specs.List.{list_all}
use Rattle.std.proofs.lemmas.Bool.{and_parts, or_cases}
use Rattle.pat_semantics_spec.specs.Programs.{Program, Function, Node, node_at, function_at}
use Rattle.pat_semantics_spec.specs.WellFormed.{WellFormed}
use Rattle.pat_inclusion_spec.specs.Values.{values_fit}
use Rattle.pat_inclusion_laws.proofs.Shown.{ValuesFit}
use Rattle.pat_type_system_spec.specs.Types.{kind_of_type}
use Rattle.pat_type_schemes_spec.specs.Signatures.{signature_vars}
use Rattle.pat_derivation_spec.specs.Derivations.{Line, Derivation, line_at, scope_of, ascends_from}
use Rattle.pat_derivation_spec.specs.Rules.{has_shape, has_words, has_no_alias, uses_well, drops_well, payloads_stand_apart, guard_covers, certs_show, has_values, starts_well, is_named_well, type_is_formed, tails_agree, first_agrees}
use Rattle.pat_derivation_spec.specs.Same.{is_same_kind}
use Rattle.pat_derivation_spec.specs.Truth.{place}
use Rattle.pat_derivation_spec.specs.Validity.{Rule, ShapeRule, EmptyRule, AliasRule, UseRule, DropRule, PayloadRule, CoversRule, CertRule, broken_or, broken_at, broken_in, broken_for, broken_rule, IsValid}

-- the node has a line, of the shape that it has to be
pub record LineShaped (p : Program) (d : Derivation) (n : ℕ) (c : Node) : Type 0 where
  pub line : Line
  pub there : line_at d n ≡ Some line
  pub named : list_all (is_named_well p d n) line.of.needs ≡ true
  pub formed : type_is_formed (scope_of p d) line.of.result ≡ true
  pub starts : starts_well p d n ≡ true

first_passes : (b : Bool) (r : Rule) (o : Option Rule) → broken_or b r o ≡ None → b ≡ true
first_passes true r o h = refl
first_passes false r o h = cc

shaped_at : (p : Program) (d : Derivation) (n : ℕ) (c : Node) (g : Function) (l : Line) → line_at d n ≡ Some l → broken_at p d (place n c g l) ≡ None → LineShaped p d n c
shaped_at p d n c g l there h =
    let k = place n c g l in
    let r8 = broken_or (certs_show p d k) CertRule None in
    let r7 = broken_or (guard_covers k) CoversRule r8 in
    let r6 = broken_or (payloads_stand_apart p d k) PayloadRule r7 in
    let r5 = broken_or (drops_well p d k) DropRule r6 in
    let r4 = broken_or (uses_well p d k) UseRule r5 in
    let r3 = broken_or (has_no_alias p d k) AliasRule r4 in
    let r2 = broken_or (has_words p d k) EmptyRule r3 in
    let shape = first_passes (has_shape p d k) ShapeRule r2 h in
    let b1 = is_same_kind (kind_of_type l.of.result) c.kind in
    let b2 = ascends_from 0 l.of.needs in
    let b3 = list_all (is_named_well p d n) l.of.needs in
    let b4 = type_is_formed (scope_of p d) l.of.result in
    let b5 = tails_agree d l.of.result c.core in
    let b6 = first_agrees p d k in
    let b7 = starts_well p d n in
    let a1 = and_parts b1 (b2 && (b3 && (b4 && (b5 && (b6 && b7))))) shape in
    let a2 = and_parts b2 (b3 && (b4 && (b5 && (b6 && b7)))) a1.1 in
    let a3 = and_parts b3 (b4 && (b5 && (b6 && b7))) a2.1 in
    let a4 = and_parts b4 (b5 && (b6 && b7)) a3.1 in
    let a5 = and_parts b5 (b6 && b7) a4.1 in
    let a6 = and_parts b6 b7 a5.1 in
    record { line = l; there = there; named = a3.0; formed = a4.0; starts = a6.1 }

shaped_in : (p : Program) (d : Derivation) (n : ℕ) (c : Node) (fo : Option Function) (lo : Option Line) → line_at d n ≡ lo → broken_in p d n c fo lo ≡ None → LineShaped p d n c
shaped_in p d n c None lo there h = cc
shaped_in p d n c (Some g) None there h = cc
shaped_in p d n c (Some g) (Some l) there h = shaped_at p d n c g l there h

pub line_shaped : (p : Program) (d : Derivation) (n : ℕ) (c : Node) → IsValid p d → node_at p n ≡ Some c → LineShaped p d n c
unfolding broken_rule
line_shaped p d n c v at =
    shaped_in p d n c (function_at p c.function) (line_at d n) refl (subst (λ o. broken_for p d n o (line_at d n) ≡ None) at (v n))

first_there : {A : Type 0} (xs : List A) (k : ℕ) (a : A) → slice_get xs k ≡ Some a → (b : A) × (slice_get xs 0 ≡ Some b)
first_there [] k a h = cc
first_there (x ∷ xs) k a h = (x, refl)

-- each variable has a value that it may have
pub values_do_fit : (p : Program) (d : Derivation) → WellFormed p → IsValid p d → ValuesFit (scope_of p d)
values_do_fit p d w v =
    let main = w.main in
    let body = (w.functions p.main main.0 main.1).body in
    let start = first_there p.nodes main.0.body body.0 body.1 in
    let s = line_shaped p d 0 start.0 v start.1 in
    let fit : has_values p d ≡ true = ⊎_elim (λ z. cc) (λ y. y) (or_cases (not (nat_eq 0 0)) (has_values p d) s.starts) in
    (and_parts (nat_le (length (signature_vars p)) (length d.vars)) (values_fit (scope_of p d)) fit).1

-- Reasons, as inference and solving give them.
use Rattle.std.proofs.Common.{◌≡◌, ℕ, zero, suc, ◌-◌, ◌<◌, List, [], ◌∷◌, ◌++◌, length, map, Option, Some, None, option_map, slice_get, refl, sym, ap, ◌∙◌, subst, arith}
use Rattle.std.specs.Prelude.{codes}
use Rattle.std.proofs.lemmas.Option.{none-some, same_Some, slice_get-map}
use Rattle.pat_words_spec.specs.Words.{Word}
use Rattle.pat_semantics_spec.specs.Programs as core
use Rattle.pat_type_system_spec.specs.Typings.{IsTypable}
use Rattle.pat_core.specs.declared.program.Program.{Program}
use Rattle.pat_core.specs.Views.{program_view}
use Rattle.pat_syntax.specs.declared.span.Span.{Span}
use Rattle.pat_tree.specs.Views.{span_view}
use Rattle.pat_types.specs.Views.{right_form, right_view}
use Rattle.pat_resolver_heads.specs.results.Views.{places_view}
use Rattle.pat_derivation_text_spec.specs.DerivationText.{interface_name, tag_names}
use Rattle.pat_derivations.specs.Views.{vars_view}
use Rattle.pat_derivation_spec.specs.Derivations.{Derivation}
use Rattle.pat_derivation_spec.specs.Validity.{IsValid}
use Rattle.pat_type_schemes_spec.specs.Signatures.{signature_vars}
use Rattle.pat_infer_spec.specs.Constraints.{Constraint, Finding}
use Rattle.pat_infer_spec.specs.Walk.{inferred, all_vars}
use Rattle.pat_infer_problems.specs.Places.{span_or, place_of, origin_place}
use Rattle.pat_infer_problems.specs.Results.{Refuses, first_of}
use Rattle.pat_infer_problems.specs.Views.{PlacedVariable, placed_variable, placed_variable_of, PlacedConstraint, placed_constraint, constraint_view, PlacedFinding, placed_finding, rule_view}
use Rattle.pat_infer_problems.specs.declared.error.Rule.{Rule}
use Rattle.pat_infer_problems.specs.declared.error.InferError.TheVariants as infer
use Rattle.pat_infer_problems.specs.declared.problem.VarDecl.{VarDecl}
use Rattle.pat_infer_problems.specs.declared.problem.Constraint.{Constraint as CodeConstraint}
use Rattle.pat_infer_problems.specs.declared.problem.Problem.{Problem}
use Rattle.pat_infer_problems.specs.Problems.{IsProblemOf}
use Rattle.pat_solve_spec.specs.Derived.{derivation_with, CertsMade}
use Rattle.pat_solve_spec.specs.Answers as answers
use Rattle.pat_solve_spec.specs.Answers.{AllUsable, IsRight, IsConstraint, IsInBounds}
use Rattle.pat_solve_spec.specs.Laws.{AreThere}
use Rattle.pat_solve_bounds.specs.results.Views.{forms_of, IsSolution, AllInBounds}
use Rattle.pat_solve_bounds.specs.declared.results.solution.Solution.{Solution}
use Rattle.pat_solve_derivation.specs.Made.{IsDerived}
use Rattle.pat_front.specs.declared.reason.Reason.TheVariants as reason
use Rattle.pat_typecheck.specs.Words.{refuted_words}
use Rattle.pat_typecheck.specs.Reasons.{IsMade, IsUnaccepted}
use Rattle.pat_typecheck.specs.Explains.{IsRefutedBy}
use Rattle.pat_typecheck.proofs.Placed.{place_is, origin_is}

-- ---- what is told of the two lists of a problem

-- an item at the same place
record SameAt {A B C : Type 0} (f : A → C) (g : B → C) (xs : List A) (n : ℕ) (y : B) : Type 0 where
  item : A
  at : slice_get xs n ≡ Some item
  same : f item ≡ g y

same_at : {A B C : Type 0} (f : A → C) (g : B → C) (xs : List A) (ys : List B) (n : ℕ) (y : B) → map f xs ≡ map g ys → slice_get ys n ≡ Some y → SameAt f g xs n y
same_at {A} {B} {C} f g xs ys n y same at =
    go (slice_get xs n) refl (sym (slice_get-map f xs n) ∙ ap (λ l. slice_get l n) same ∙ slice_get-map g ys n ∙ ap (option_map g) at)
  where
    go : (o : Option A) → slice_get xs n ≡ o → option_map f o ≡ Some (g y) → SameAt f g xs n y
    go None is e = absurd (none-some (g y) e)
    go (Some x) is e = record { item = x; at = is; same = same_Some (f x) (g y) e }

front_at : {A : Type 0} (xs ys : List A) (n : ℕ) (x : A) → slice_get xs n ≡ Some x → slice_get (xs ++ ys) n ≡ Some x
front_at [] ys n x h = absurd (none-some x h)
front_at (a ∷ xs) ys zero x h = h
front_at (a ∷ xs) ys (suc n) x h = front_at xs ys n x h

-- ---- inference

module _ (p : Program) where
  broken : (s : Span) (r : Rule) (fs : List Finding) (o : Option Finding) → first_of fs ≡ o → option_map (placed_finding p) o ≡ Some (record { rule = rule_view r; span = s }) → fs ≡ (inferred (program_view p)).findings → (IsTypable (program_view p) → ⊥) → IsUnaccepted (program_view p) (places_view p) (reason.Untypable s r) []
  broken s r fs None first is all untypable = absurd (none-some (record { rule = rule_view r; span = s }) is)
  broken s r fs (Some x) first is all untypable =
      let same : placed_finding p x ≡ record { rule = rule_view r; span = s } = same_Some (placed_finding p x) (record { rule = rule_view r; span = s }) is in
      record {
        reason = (
          record {
            finding = x;
            first = ap first_of (sym all) ∙ first;
            rule = sym (ap (λ (f : PlacedFinding). f.rule) same);
            span = ap span_view (sym (ap (λ (f : PlacedFinding). f.span) same)) ∙ place_is p x.at;
            untypable = untypable;
          },
          refl,
        );
        complete = λ bounds usable typable. untypable typable;
      }

  pub broken_reason : (s : Span) (r : Rule) → Refuses p (infer.Untypable s r) (inferred (program_view p)).findings → (IsTypable (program_view p) → ⊥) → IsUnaccepted (program_view p) (places_view p) (reason.Untypable s r) []
  broken_reason s r refuses untypable =
      broken s r (inferred (program_view p)).findings (first_of (inferred (program_view p)).findings) refl refuses refl untypable

  -- ---- solving

  module _ (q : Problem) (problem : IsProblemOf p q) (clean : (inferred (program_view p)).findings ≡ []) where
    abbrev program : core.Program
    program = program_view p

    pub unusable_reason : (k : ℕ) (s : Span) → IsRight program (answers.Unusable k) → (AllInBounds program → AllUsable program → IsTypable program → ⊥) → s ≡ span_or (option_map (λ (v : VarDecl). v.span) (slice_get q.vars (k - 1))) → IsUnaccepted program (places_view p) (reason.Unusable s) []
    unusable_reason k s right complete is =
        let own = right.0 in
        let number = own.number in
        let at : slice_get (all_vars program) number.0 ≡ Some own.variable = front_at (signature_vars program) (inferred program).vars number.0 own.variable number.2 in
        let found = same_at placed_variable_of (placed_variable p) q.vars (all_vars program) number.0 own.variable problem.vars at in
        let numbered = number.1 in
        let place : k - 1 ≡ number.0 = omega (arith, numbered) in
        let span : s ≡ origin_place p own.variable.origin =
        is
        ∙ ap (λ m. span_or (option_map (λ (v : VarDecl). v.span) (slice_get q.vars m))) place
        ∙ ap (λ o. span_or (option_map (λ (v : VarDecl). v.span) o)) found.at
        ∙ ap (λ (v : PlacedVariable). v.span) found.same in
        record {
          reason = (clean, record { number = k; variable = own.variable; right = right; declared = (number.0, number.1, at); span = ap span_view span ∙ origin_is p own.variable.origin }, refl);
          complete = complete;
        }

    pub large_reason : (i : ℕ) (more : List ℕ) → IsRight program (answers.TooLarge i) → (IsInBounds program i → IsTypable program → ⊥) → (AllInBounds program → AllUsable program → IsTypable program → ⊥) → more ≡ codes ": " ++ interface_name program i → IsUnaccepted program (places_view p) (reason.TooLarge i) more
    large_reason i more right untypable complete is = record { reason = (clean, record { right = right; untypable = untypable }, is); complete = complete }

    -- the constraint with the number
    constraint_at : (n : ℕ) (c : Constraint) → IsConstraint program n c → SameAt constraint_view (placed_constraint p) q.constraints n c
    constraint_at n c at =
        same_at constraint_view (placed_constraint p) q.constraints (inferred program).constraints n c problem.constraints at

    pub undecided_reason : (n : ℕ) (s : Span) → IsRight program (answers.Undecided n) → (AllInBounds program → AllUsable program → IsTypable program → ⊥) → s ≡ span_or (option_map (λ (c : CodeConstraint). c.span) (slice_get q.constraints n)) → IsUnaccepted program (places_view p) (reason.Undecided s) []
    undecided_reason n s right complete is =
        let own = right.2 in
        let found = constraint_at n own.constraint own.at in
        let span : s ≡ place_of p own.constraint.at =
        is
        ∙ ap (λ o. span_or (option_map (λ (c : CodeConstraint). c.span) o)) found.at
        ∙ ap (λ (c : PlacedConstraint). c.span) found.same in
        record {
          reason = (clean, record { number = n; constraint = own.constraint; right = right; at = own.at; span = ap span_view span ∙ place_is p own.constraint.at }, refl);
          complete = complete;
        }

    -- a constraint that is refuted is there
    pub refuted_there : (n : ℕ) (w : Word) → IsRefutedBy program n w → slice_get q.constraints n ≡ None → ⊥
    refuted_there n w refuted none =
        let own = refuted.right.2 in
        let found = constraint_at n own.constraint own.at in
        let clash : None ≡ Some found.item = sym none ∙ found.at in
        cc

    same_item : (n : ℕ) (c : CodeConstraint) (w : Word) (refuted : IsRefutedBy program n w) → slice_get q.constraints n ≡ Some c → constraint_view c ≡ placed_constraint p refuted.right.2.constraint
    same_item n c w refuted at =
        let own = refuted.right.2 in
        let found = constraint_at n own.constraint own.at in
        let same : c ≡ found.item = same_Some c found.item (sym at ∙ found.at) in
        ap constraint_view same ∙ found.same

    -- its interface is one of the program's
    pub refuted_interface : AreThere program → (n : ℕ) (c : CodeConstraint) (w : Word) → IsRefutedBy program n w → slice_get q.constraints n ≡ Some c → c.interface < length program.interfaces
    refuted_interface there n c w refuted at =
        let own = refuted.right.2 in
        let same : c.interface ≡ own.constraint.interface = ap (λ (d : PlacedConstraint). d.interface) (same_item n c w refuted at) in
        subst (λ i. i < length program.interfaces) (sym same) (there.constraints n own.constraint own.at)

    pub refuted_reason : (n : ℕ) (c : CodeConstraint) (w : Word) (more : List ℕ) → IsRefutedBy program n w → slice_get q.constraints n ≡ Some c → more ≡ refuted_words (tag_names program c.interface) w (right_view c.right) → IsUnaccepted program (places_view p) (reason.Refuted c.span) more
    refuted_reason n c w more refuted at is =
        let own = refuted.right.2 in
        let same = same_item n c w refuted at in
        let interface : c.interface ≡ own.constraint.interface = ap (λ (d : PlacedConstraint). d.interface) same in
        let right : right_view c.right ≡ right_form own.constraint.right = ap (λ (d : PlacedConstraint). d.right) same in
        let span : c.span ≡ place_of p own.constraint.at = ap (λ (d : PlacedConstraint). d.span) same in
        record {
          reason = (
            clean,
            record {
              number = n;
              word = w;
              tree = refuted.tree;
              constraint = own.constraint;
              right = refuted.right;
              least = refuted.least;
              at = own.at;
              span = ap span_view span ∙ place_is p own.constraint.at;
              words = is ∙ ap (λ i. refuted_words (tag_names program i) w (right_view c.right)) interface ∙ ap (refuted_words (tag_names program own.constraint.interface) w) right;
              untypable = refuted.untypable;
            },
          );
          complete = λ bounds usable typable. refuted.untypable typable;
        }

-- ---- derivations

pub derived_made : (p : core.Program) (s : Solution) (d : Derivation) → (inferred p).findings ≡ [] → IsSolution p s → IsDerived p (vars_view s.values) (forms_of s.bounds) d → IsValid p d → IsMade p d
derived_made p s d clean is derived valid = record {
  clean = clean;
  forms = forms_of s.bounds;
  points = is.points;
  solved = is.right;
  certs = derived.certs;
  certified = subst (λ v. CertsMade p v (forms_of s.bounds) derived.certs) is.values derived.made;
  made = derived.is ∙ ap (λ v. derivation_with p v derived.certs) is.values;
  valid = valid;
}

-- A text has one verdict.
use Rattle.std.proofs.Common.{◌≡◌, ℕ, List, [], ◌++◌, codes, Some, false, slice_get, refl, ap, sym, subst, ◌∙◌, ⊎_elim}
use Rattle.pat_semantics_spec.specs.Programs.{Program}
use Rattle.pat_semantics_spec.specs.WellFormed.{WellFormed}
use Rattle.pat_parser_spec.specs.Trees.{Tree, Span as Place}
use Rattle.pat_resolver_spec.specs.Places.{Places, places}
use Rattle.pat_resolver_laws.specs.Laws.{SpelledIsWhole}
use Rattle.pat_syntax.specs.declared.span.Span.{Span}
use Rattle.pat_tree.specs.Views.{span_view}
use Rattle.pat_type_schemes_spec.specs.Signatures.{Variable}
use Rattle.pat_infer_spec.specs.Constraints.{Constraint, Finding}
use Rattle.pat_infer_spec.specs.Constraints as found
use Rattle.pat_infer_spec.specs.Shapes.{IsNumber}
use Rattle.pat_infer_spec.specs.Walk.{inferred, all_vars}
use Rattle.pat_infer_problems.specs.declared.error.Rule.{Rule as CodeRule}
use Rattle.pat_infer_problems.specs.declared.error.Rule.TheVariants as rule
use Rattle.pat_infer_problems.specs.Views.{rule_view}
use Rattle.pat_infer_problems.specs.Results.{first_of}
use Rattle.pat_solve_spec.specs.Answers as answers
use Rattle.pat_solve_spec.specs.Answers.{IsConstraint}
use Rattle.pat_solve_spec.specs.Laws as solving
use Rattle.pat_front.specs.Laws as front
use Rattle.pat_front.specs.Lines.{line_of_verdict, line_with}
use Rattle.pat_front.specs.Texts.{IsProgramText, IsRefusal}
use Rattle.pat_front.specs.declared.reason.Reason.{Reason}
use Rattle.pat_front.specs.declared.reason.Reason.TheVariants.{Untypable, Unusable, TooLarge, Refuted, Undecided}
use Rattle.pat_front.specs.declared.verdict.Verdict.{Verdict}
use Rattle.pat_front.specs.declared.verdict.Verdict.TheVariants.{Unaccepted}
use Rattle.pat_derivation_text_spec.specs.DerivationText.{interface_name}
use Rattle.pat_derivation_spec.specs.Derivations.{Derivation}
use Rattle.pat_typecheck.specs.Places.{place_in, origin_in}
use Rattle.pat_typecheck.specs.Reasons.{IsMade, BreaksRule, IsReason}
use Rattle.pat_typecheck.specs.Inputs.{IsAcceptedText, RefusesProgram, IsCheckRefusal}
use Rattle.pat_typecheck.specs.Laws.{shows_word, OneVerdict}

-- back from what a rule means, case by case, since the enumerations of code and of definitions are apart
abbrev rule_of : found.Rule → CodeRule
rule_of found.AliasRule = rule.Alias
rule_of found.OrderRule = rule.Order
rule_of found.DoubleRule = rule.Double
rule_of found.BranchRule = rule.Branch
rule_of found.PayloadRule = rule.Payload
rule_of found.CoversRule = rule.Covers
rule_of found.UnusedRule = rule.Unused
rule_of found.PolarityRule = rule.Polarity
rule_of found.SecondRule = rule.Second

rule_back : (r : CodeRule) → rule_of (rule_view r) ≡ r
rule_back rule.Alias = refl
rule_back rule.Order = refl
rule_back rule.Double = refl
rule_back rule.Branch = refl
rule_back rule.Payload = refl
rule_back rule.Covers = refl
rule_back rule.Unused = refl
rule_back rule.Polarity = refl
rule_back rule.Second = refl

one_rule : (r s : CodeRule) (x : found.Rule) → rule_view r ≡ x → rule_view s ≡ x → r ≡ s
one_rule r s x h k = sym (rule_back r) ∙ ap rule_of (h ∙ sym k) ∙ rule_back s

abbrev place_span : Place → Span
place_span at = record { from = at.from; to = at.to }

one_span : (s t : Span) (a : Place) → span_view s ≡ a → span_view t ≡ a → s ≡ t
one_span s t a h k = ap place_span (h ∙ sym k)

-- two reasons are one, and what is behind them, but for a word that refutes
record AreOne (r s : Reason) (l m : List ℕ) : Type 0 where
  reason : r ≡ s
  words : shows_word (Unaccepted r) ≡ false → l ≡ m

module _ (p : Program) (q : Places) (formed : WellFormed p) (one : solving.OneAnswer) where
  breaks_none : (s : Span) (r : CodeRule) → BreaksRule p q s r → (inferred p).findings ≡ [] → ⊥
  breaks_none s r b clean = let clash = sym b.first ∙ ap first_of clean in cc

  one_constraint : (n m : ℕ) (c d : Constraint) → n ≡ m → IsConstraint p n c → IsConstraint p m d → c ≡ d
  one_constraint n m c d same h k = let both = sym h ∙ ap (slice_get (inferred p).constraints) same ∙ k in cc

  one_variable : (n m : ℕ) (v u : Variable) → n ≡ m → IsNumber (all_vars p) n v → IsNumber (all_vars p) m u → v ≡ u
  one_variable n m v u same (j, h, at) (i, k, there) =
      let place : j ≡ i = cc in
      let both = sym at ∙ ap (slice_get (all_vars p)) place ∙ there in
      cc

  one_finding : (x y : Finding) → first_of (inferred p).findings ≡ Some x → first_of (inferred p).findings ≡ Some y → x ≡ y
  one_finding x y h k = let both = sym h ∙ k in cc

  one_reason : (r s : Reason) (l m : List ℕ) → IsReason p q r l → IsReason p q s m → AreOne r s l m
  one_reason (Untypable s r) (Untypable t k) l m (b, bare) (d, plain) =
      let same : b.finding ≡ d.finding = one_finding b.finding d.finding b.first d.first in
      let spans : s ≡ t = one_span s t _ b.span (d.span ∙ sym (ap (λ x. place_in q x.at) same)) in
      let rules : r ≡ k = one_rule r k _ b.rule (d.rule ∙ sym (ap (λ x. x.rule) same)) in
      record { reason = cc; words = λ h. bare ∙ sym plain }
  one_reason (Untypable s r) (Unusable t) l m (b, bare) (clean, d, plain) = absurd (breaks_none s r b clean)
  one_reason (Untypable s r) (TooLarge i) l m (b, bare) (clean, d, plain) = absurd (breaks_none s r b clean)
  one_reason (Untypable s r) (Refuted t) l m (b, bare) (clean, d) = absurd (breaks_none s r b clean)
  one_reason (Untypable s r) (Undecided t) l m (b, bare) (clean, d, plain) = absurd (breaks_none s r b clean)
  one_reason (Unusable s) (Untypable t r) l m (clean, b, bare) (d, plain) = absurd (breaks_none t r d clean)
  one_reason (Unusable s) (Unusable t) l m (clean, b, bare) (tidy, d, plain) =
      let same = one_variable b.number d.number b.variable d.variable (one p (answers.Unusable b.number) (answers.Unusable d.number) formed b.right d.right) b.declared d.declared in
      let spans : s ≡ t = one_span s t _ b.span (d.span ∙ sym (ap (λ x. origin_in q x.origin) same)) in
      record { reason = ap Unusable spans; words = λ h. bare ∙ sym plain }
  one_reason (Unusable s) (TooLarge i) l m (clean, b, bare) (tidy, d, plain) = absurd (one p (answers.Unusable b.number) (answers.TooLarge i) formed b.right d.right)
  one_reason (Unusable s) (Refuted t) l m (clean, b, bare) (tidy, d) = absurd (one p (answers.Unusable b.number) (answers.Refuted d.number d.word d.tree) formed b.right d.right)
  one_reason (Unusable s) (Undecided t) l m (clean, b, bare) (tidy, d, plain) = absurd (one p (answers.Unusable b.number) (answers.Undecided d.number) formed b.right d.right)
  one_reason (TooLarge i) (Untypable t r) l m (clean, b, bare) (d, plain) = absurd (breaks_none t r d clean)
  one_reason (TooLarge i) (Unusable t) l m (clean, b, bare) (tidy, d, plain) = absurd (one p (answers.TooLarge i) (answers.Unusable d.number) formed b.right d.right)
  one_reason (TooLarge i) (TooLarge j) l m (clean, b, bare) (tidy, d, plain) =
      let same : i ≡ j = one p (answers.TooLarge i) (answers.TooLarge j) formed b.right d.right in
      record { reason = ap TooLarge same; words = λ h. bare ∙ ap (λ n. codes ": " ++ interface_name p n) same ∙ sym plain }
  one_reason (TooLarge i) (Refuted t) l m (clean, b, bare) (tidy, d) = absurd (one p (answers.TooLarge i) (answers.Refuted d.number d.word d.tree) formed b.right d.right)
  one_reason (TooLarge i) (Undecided t) l m (clean, b, bare) (tidy, d, plain) = absurd (one p (answers.TooLarge i) (answers.Undecided d.number) formed b.right d.right)
  one_reason (Refuted s) (Untypable t r) l m (clean, b) (d, plain) = absurd (breaks_none t r d clean)
  one_reason (Refuted s) (Unusable t) l m (clean, b) (tidy, d, plain) = absurd (one p (answers.Refuted b.number b.word b.tree) (answers.Unusable d.number) formed b.right d.right)
  one_reason (Refuted s) (TooLarge i) l m (clean, b) (tidy, d, plain) = absurd (one p (answers.Refuted b.number b.word b.tree) (answers.TooLarge i) formed b.right d.right)
  one_reason (Refuted s) (Refuted t) l m (clean, b) (tidy, d) =
      let same = one_constraint b.number d.number b.constraint d.constraint (one p (answers.Refuted b.number b.word b.tree) (answers.Refuted d.number d.word d.tree) formed b.right d.right) b.at d.at in
      let spans : s ≡ t = one_span s t _ b.span (d.span ∙ sym (ap (λ x. place_in q x.at) same)) in
      record { reason = ap Refuted spans; words = λ h. absurd (cc) }
  one_reason (Refuted s) (Undecided t) l m (clean, b) (tidy, d, plain) = absurd (one p (answers.Refuted b.number b.word b.tree) (answers.Undecided d.number) formed b.right d.right)
  one_reason (Undecided s) (Untypable t r) l m (clean, b, bare) (d, plain) = absurd (breaks_none t r d clean)
  one_reason (Undecided s) (Unusable t) l m (clean, b, bare) (tidy, d, plain) = absurd (one p (answers.Undecided b.number) (answers.Unusable d.number) formed b.right d.right)
  one_reason (Undecided s) (TooLarge i) l m (clean, b, bare) (tidy, d, plain) = absurd (one p (answers.Undecided b.number) (answers.TooLarge i) formed b.right d.right)
  one_reason (Undecided s) (Refuted t) l m (clean, b, bare) (tidy, d) = absurd (one p (answers.Undecided b.number) (answers.Refuted d.number d.word d.tree) formed b.right d.right)
  one_reason (Undecided s) (Undecided t) l m (clean, b, bare) (tidy, d, plain) =
      let same = one_constraint b.number d.number b.constraint d.constraint (one p (answers.Undecided b.number) (answers.Undecided d.number) formed b.right d.right) b.at d.at in
      let spans : s ≡ t = one_span s t _ b.span (d.span ∙ sym (ap (λ x. place_in q x.at) same)) in
      record { reason = ap Undecided spans; words = λ h. bare ∙ sym plain }

  -- what has a derivation has no reason to be refused
  made_unreasoned : (d : Derivation) (r : Reason) (more : List ℕ) → IsMade p d → IsReason p q r more → ⊥
  made_unreasoned d (Untypable s r) more made (b, bare) = breaks_none s r b made.clean
  made_unreasoned d (Unusable s) more made (clean, b, bare) = one p (answers.Unusable b.number) (answers.Solved made.forms made.points) formed b.right made.solved
  made_unreasoned d (TooLarge i) more made (clean, b, bare) = one p (answers.TooLarge i) (answers.Solved made.forms made.points) formed b.right made.solved
  made_unreasoned d (Refuted s) more made (clean, b) = one p (answers.Refuted b.number b.word b.tree) (answers.Solved made.forms made.points) formed b.right made.solved
  made_unreasoned d (Undecided s) more made (clean, b, bare) = one p (answers.Undecided b.number) (answers.Solved made.forms made.points) formed b.right made.solved

module _ (bytes : List ℕ) (text : front.OneAnswer bytes) (whole : SpelledIsWhole) (one : solving.OneAnswer) where
  formed_text : (t : Tree) (p : Program) → IsProgramText bytes t p → WellFormed p
  formed_text t p is = (whole _ bytes is.tree.tokens t p is.tree.divided is.tree.spelled is.resolved).well_formed

  -- what is said of the program of another reading of the text is said of this one's
  same_reason : (t u : Tree) (p k : Program) (r : Reason) (more : List ℕ) → IsProgramText bytes t p → IsProgramText bytes u k → IsReason k (places u) r more → IsReason p (places t) r more
  same_reason t u p k r more a b reason =
      let trees : u ≡ t = text.one_tree u t b.tree a.tree in
      let programs : k ≡ p = text.one_program u t k p b a in
      subst (λ x. IsReason p (places x) r more) trees (subst (λ x. IsReason x (places u) r more) programs reason)

  two_programs : (r s : Reason) (l m : List ℕ) → RefusesProgram bytes r l → RefusesProgram bytes s m → AreOne r s l m
  two_programs r s l m a b =
      one_reason a.program (places a.tree) (formed_text a.tree a.program a.spelled) one r s l m a.unaccepted.reason (same_reason a.tree b.tree a.program b.program s m a.spelled b.spelled b.unaccepted.reason)

  abbrev IsTextRefusal : Verdict → List ℕ → Type 0
  IsTextRefusal v line = IsRefusal bytes v × (line ≡ line_of_verdict v)

  abbrev IsProgramRefusal : Verdict → List ℕ → Type 0
  IsProgramRefusal v line = (r : Reason) × (more : List ℕ) × (v ≡ Unaccepted r) × RefusesProgram bytes r more × (line ≡ line_with v more)

  text_or_program : (v w : Verdict) (l m : List ℕ) → IsTextRefusal v l → IsProgramRefusal w m → ⊥
  text_or_program v w l m a (r, more, is, own, line) = text.not_both v own.tree own.program a.0 own.spelled

  accepted_unrefused : (v : Verdict) (line : List ℕ) → IsAcceptedText bytes → IsCheckRefusal bytes v line → ⊥
  accepted_unrefused v line a refusal =
      ⊎_elim
      (λ (why : IsTextRefusal v line). text.not_both v a.tree a.program why.0 a.spelled)
      (λ (why : IsProgramRefusal v line).
      let own = why.3 in
      made_unreasoned a.program (places a.tree) (formed_text a.tree a.program a.spelled) one a.derivation why.0 why.1 a.made (same_reason a.tree own.tree a.program own.program why.0 why.1 a.spelled own.spelled own.unaccepted.reason))
      refusal

  one_verdict : (v w : Verdict) (l m : List ℕ) → IsCheckRefusal bytes v l → IsCheckRefusal bytes w m → v ≡ w
  one_verdict v w l m a b =
      ⊎_elim
      (λ (why : IsTextRefusal v l).
      ⊎_elim
      (λ (also : IsTextRefusal w m). text.one_refusal v w why.0 also.0)
      (λ (also : IsProgramRefusal w m). absurd (text_or_program v w l m why also))
      b)
      (λ (why : IsProgramRefusal v l).
      ⊎_elim
      (λ (also : IsTextRefusal w m). absurd (text_or_program w v m l also why))
      (λ (also : IsProgramRefusal w m).
      why.2 ∙ ap Unaccepted (two_programs why.0 also.0 why.1 also.1 why.3 also.3).reason ∙ sym also.2)
      b)
      a

  one_line : (v : Verdict) (l m : List ℕ) → shows_word v ≡ false → IsCheckRefusal bytes v l → IsCheckRefusal bytes v m → l ≡ m
  one_line v l m wordless a b =
      ⊎_elim
      (λ (why : IsTextRefusal v l).
      ⊎_elim
      (λ (also : IsTextRefusal v m). why.1 ∙ sym also.1)
      (λ (also : IsProgramRefusal v m). absurd (text_or_program v v l m why also))
      b)
      (λ (why : IsProgramRefusal v l).
      ⊎_elim
      (λ (also : IsTextRefusal v m). absurd (text_or_program v v m l also why))
      (λ (also : IsProgramRefusal v m).
      let same = (two_programs why.0 also.0 why.1 also.1 why.3 also.3).words (sym (ap shows_word why.2) ∙ wordless) in
      why.4 ∙ ap (line_with v) same ∙ sym also.4)
      b)
      a

  pub one_verdict_of : OneVerdict bytes
  one_verdict_of = record { not_both = accepted_unrefused; one_verdict = one_verdict; one_line = one_line }

-- Bytes have one answer.
use Rattle.std.proofs.Common.{◌≡◌, ◌⊎◌, ◌+◌, ℕ, List, length, Option, Some, None, refl, sym, ap, ◌∙◌, subst, ⊎_elim}
use Rattle.pat_semantics_spec.specs.Programs.{Program}
use Rattle.pat_derivation_spec.specs.Derivations.{Derivation}
use Rattle.pat_derivation_spec.specs.Validity.{first_bad, IsValid}
use Rattle.pat_derivation_spec.specs.Validity as validity
use Rattle.pat_derivation_laws.specs.Laws.{ValidIsNoneBad}
use Rattle.pat_derivation_text_laws.specs.Laws.{ReadingIsOne}
use Rattle.pat_derivation_text_spec.specs.DerivationText.{marker}
use Rattle.pat_derivation_text_spec.specs.Reading.{ReadsAs, Unread}
use Rattle.pat_derivation_rules.specs.declared.Rule.{Rule}
use Rattle.pat_derivation_rules.specs.declared.Rule.TheVariants as rule
use Rattle.pat_judge.specs.Views.{rule_view}
use Rattle.pat_input_split.specs.program_with_text.MarkedPrograms.{IsMarkedRefusal}
use Rattle.pat_input_split.specs.program_with_text.OneProgram.{OneProgram}
use Rattle.pat_front.specs.declared.verdict.Verdict.{Verdict}
use Rattle.pat_front.specs.declared.verdict.Verdict.TheVariants as verdict
use Rattle.pat_command_verify.specs.Allowed.{IsVerified, IsVerifyRefusal, RefusesText, Unaccepted}
use Rattle.pat_command_verify.specs.Answers.{HasValidDerivation, OneAnswer}
use Rattle.pat_deriv.proofs.ReadingOnce.{read_or_not, one_unread}

rule_back : validity.Rule → Rule
rule_back validity.ShapeRule = rule.Shape
rule_back validity.EmptyRule = rule.Empty
rule_back validity.AliasRule = rule.Alias
rule_back validity.UseRule = rule.Use
rule_back validity.DropRule = rule.Drop
rule_back validity.PayloadRule = rule.Payload
rule_back validity.CoversRule = rule.Covers
rule_back validity.CertRule = rule.Cert

back : (r : Rule) → rule_back (rule_view r) ≡ r
unfolding rule_back
back rule.Shape = refl
back rule.Empty = refl
back rule.Alias = refl
back rule.Use = refl
back rule.Drop = refl
back rule.Payload = refl
back rule.Covers = refl
back rule.Cert = refl

rejected_as : Option (ℕ × validity.Rule) → Verdict
rejected_as None = verdict.TooLong
rejected_as (Some x) = verdict.Rejected x.0 (rule_back x.1)

same_rejection : (m n : ℕ) (r s : Rule) → ◌≡◌ {A = Option (ℕ × validity.Rule)} (Some (m, rule_view r)) (Some (n, rule_view s)) → verdict.Rejected m r ≡ verdict.Rejected n s
unfolding rejected_as
same_rejection m n r s e =
    ap (verdict.Rejected m) (sym (back r)) ∙ ap rejected_as e ∙ ap (verdict.Rejected n) (back s)

module _ (none_bad : ValidIsNoneBad) (one_reading : ReadingIsOne) (bytes : List ℕ) (program : OneProgram marker bytes) where
  -- a text behind a program is accepted or not, in one way
  not_accepted : (p : Program) (from : ℕ) (text : List ℕ) (v : Verdict) (d : Derivation) → ReadsAs p text d → IsValid p d → Unaccepted p from text v → ⊥
  not_accepted p from text (verdict.BadText o) d read valid (offset, at, unread) = read_or_not p text d offset read unread
  not_accepted p from text (verdict.Rejected n r) d read valid (e, other, bad) =
      let same : d ≡ e = one_reading p text d e read other in
      let none : first_bad p e ≡ None = subst (λ c. first_bad p c ≡ None) same ((none_bad p d).1 valid) in
      let clash = sym none ∙ bad in cc
  not_accepted p from text verdict.TooLong d read valid u = absurd u
  not_accepted p from text (verdict.Syntax o) d read valid u = absurd u
  not_accepted p from text (verdict.NumberTooWide o) d read valid u = absurd u
  not_accepted p from text (verdict.TooDeep o) d read valid u = absurd u
  not_accepted p from text (verdict.Resolve k s) d read valid u = absurd u
  not_accepted p from text (verdict.RefusedAt i) d read valid u = absurd u
  not_accepted p from text verdict.TooManyEntries d read valid u = absurd u
  not_accepted p from text (verdict.Unshown line) d read valid u = absurd u
  not_accepted p from text (verdict.BadCheckpoint r) d read valid u = absurd u
  not_accepted p from text (verdict.Unaccepted reason) d read valid u = absurd u

  -- what isn't accepted is a line that isn't read, or a derivation that is bad
  data Why (p : Program) (from : ℕ) (text : List ℕ) : Verdict → Type 0 where
    unread : {offset : ℕ} → Unread p text offset → Why p from text (verdict.BadText (from + offset))
    bad : {d : Derivation} {n : ℕ} {r : Rule} → ReadsAs p text d → first_bad p d ≡ Some (n, rule_view r) → Why p from text (verdict.Rejected n r)

  why : (p : Program) (from : ℕ) (text : List ℕ) (v : Verdict) → Unaccepted p from text v → Why p from text v
  why p from text (verdict.BadText o) (offset, at, u) = subst (λ k. Why p from text (verdict.BadText k)) (sym at) (unread u)
  why p from text (verdict.Rejected n r) (d, read, b) = bad read b
  why p from text verdict.TooLong u = absurd u
  why p from text (verdict.Syntax o) u = absurd u
  why p from text (verdict.NumberTooWide o) u = absurd u
  why p from text (verdict.TooDeep o) u = absurd u
  why p from text (verdict.Resolve k s) u = absurd u
  why p from text (verdict.RefusedAt i) u = absurd u
  why p from text verdict.TooManyEntries u = absurd u
  why p from text (verdict.Unshown line) u = absurd u
  why p from text (verdict.BadCheckpoint r) u = absurd u
  why p from text (verdict.Unaccepted reason) u = absurd u

  one_why : (p : Program) (from : ℕ) (text : List ℕ) (v w : Verdict) → Why p from text v → Why p from text w → v ≡ w
  one_why p from text v w (unread {offset = m} a) (unread {offset = n} b) = ap (λ k. verdict.BadText (from + k)) (one_unread p text m n a b)
  one_why p from text v w (unread {offset = m} a) (bad {d = d} read b) = absurd (read_or_not p text d m read a)
  one_why p from text v w (bad {d = d} read b) (unread {offset = n} a) = absurd (read_or_not p text d n read a)
  one_why p from text v w (bad {d = d} {n = m} {r = r} read b) (bad {d = e} {n = n} {r = s} other c) =
      let same : d ≡ e = one_reading p text d e read other in
      same_rejection m n r s (sym b ∙ ap (first_bad p) same ∙ c)

  -- what is said of a text behind a program is said of the same text behind the same program
  moved : (f g t u : List ℕ) (p q : Program) (v : Verdict) → (f ≡ g) × (t ≡ u) × (p ≡ q) → Unaccepted p (length f) t v → Unaccepted q (length g) u v
  moved f g t u p q v same h =
      subst (λ r. Unaccepted r (length g) u v) same.2
      (subst (λ s. Unaccepted p (length g) s v) same.1
      (subst (λ k. Unaccepted p (length k) t v) same.0 h))

  one_text : (v w : Verdict) → RefusesText bytes v → RefusesText bytes w → v ≡ w
  one_text v w a b =
      let same = program.same b.front a.front b.text a.text b.program a.program b.has a.has in
      one_why a.program (length a.front) a.text v w
      (why a.program (length a.front) a.text v a.unaccepted)
      (why a.program (length a.front) a.text w (moved b.front a.front b.text a.text b.program a.program w same b.unaccepted))

  -- a valid derivation is never refused
  accepted_once : (v : Verdict) → HasValidDerivation bytes → IsVerifyRefusal bytes v → ⊥
  accepted_once v a r =
      ⊎_elim
      (λ (m : IsMarkedRefusal marker bytes v). program.not_both a.front a.text a.program v a.has m)
      (λ (t : RefusesText bytes v).
      let same = program.same t.front a.front t.text a.text t.program a.program t.has a.has in
      not_accepted a.program (length a.front) a.text v a.derivation a.read a.valid (moved t.front a.front t.text a.text t.program a.program v same t.unaccepted))
      r

  has_derivation : IsVerified bytes → HasValidDerivation bytes
  has_derivation a = record {
    front = a.front;
    text = a.text;
    program = a.program;
    has = a.has;
    derivation = a.valid.derivation;
    read = a.valid.read;
    valid = a.valid.valid;
  }

  pub one_answer : OneAnswer bytes
  one_answer = record {
    not_both = λ v a r. accepted_once v (has_derivation a) r;
    not_refused = accepted_once;
    one_refusal = λ v w x y.
        ⊎_elim
        (λ (m : IsMarkedRefusal marker bytes v).
        ⊎_elim (λ (n : IsMarkedRefusal marker bytes w). program.one_refusal v w m n) (λ (t : RefusesText bytes w). absurd (program.not_both t.front t.text t.program v t.has m)) y)
        (λ (t : RefusesText bytes v).
        ⊎_elim (λ (n : IsMarkedRefusal marker bytes w). absurd (program.not_both t.front t.text t.program w t.has n)) (λ (u : RefusesText bytes w). one_text v w t u) y)
        x;
  }

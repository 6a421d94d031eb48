-- Bytes have one program, or one reason why they have none.
use Rattle.std.proofs.Common.{◌≡◌, ◌⊎◌, ◌<◌, ◌≤◌, ℕ, List, length, refl, sym, ap, subst, ⊎_elim, arith}
use Rattle.pat_semantics_spec.specs.Programs.{Program}
use Rattle.pat_input_split.specs.Marked.{IsMarked, IsUnmarked}
use Rattle.pat_input_split.specs.Splits.{OneSplit}
use Rattle.pat_input.specs.Inputs.{limit, whole_limit}
use Rattle.pat_front.specs.Texts.{IsProgramText, IsRefusal}
use Rattle.pat_front.specs.Laws as front
use Rattle.pat_front.specs.declared.verdict.Verdict.{Verdict}
use Rattle.pat_front.specs.declared.verdict.Verdict.TheVariants as verdict
use Rattle.pat_input_split.specs.program_with_text.MarkedPrograms.{HasProgram, RefusesBytes, RefusesFront, IsMarkedRefusal}
use Rattle.pat_input_split.specs.program_with_text.OneProgram.{OneProgram}
use Rattle.pat_input_split.proofs.Small.{not_marked}

module _ (mark bytes : List ℕ) (split : OneSplit mark bytes) (one : (front_bytes : List ℕ) → front.OneAnswer front_bytes) where
  same_parts : (f g t u : List ℕ) (p q : Program) → HasProgram mark bytes f t p → HasProgram mark bytes g u q → (f ≡ g) × (t ≡ u) × (p ≡ q)
  same_parts f g t u p q h k =
      let both = split.same f g t u h.marked k.marked in
      let there = h.has in
      let other = k.has in
      let spelled : IsProgramText f other.0 q = subst (λ x. IsProgramText x other.0 q) (sym both.0) other.1 in
      (both.0, both.1, (one f).one_program there.0 other.0 p q there.1 spelled)

  not_front : (f t : List ℕ) (p : Program) (v : Verdict) → HasProgram mark bytes f t p → RefusesFront mark bytes v → ⊥
  not_front f t p v h r =
      let both = split.same r.front f r.text t r.marked h.marked in
      let there = h.has in
      (one f).not_both v there.0 p (subst (λ x. IsRefusal x v) both.0 r.refused) there.1

  bytes_alone : (A : Type 0) (f t : List ℕ) (v : Verdict) → RefusesBytes mark bytes v → length bytes ≤ whole_limit → IsMarked mark bytes f t → A
  bytes_alone A f t v r small m = absurd (not_marked mark bytes split f t v r small m)

  -- they are too many for what they are, or a program alone
  data Bare : Verdict → Type 0 where
    many : limit < length bytes → Bare verdict.TooLong
    few : length bytes ≤ limit → Bare (verdict.BadText (length bytes))

  bare : (v : Verdict) → RefusesBytes mark bytes v → Bare v
  bare verdict.TooLong r =
      many (⊎_elim (λ (long : whole_limit < length bytes). let more : limit < length bytes = omega (arith, long) in more) (λ (u : IsUnmarked mark bytes × (limit < length bytes)). u.1) r)
  bare (verdict.BadText o) r = subst (λ k. Bare (verdict.BadText k)) (sym r.2) (few r.1)
  bare (verdict.Syntax o) r = absurd r
  bare (verdict.NumberTooWide o) r = absurd r
  bare (verdict.TooDeep o) r = absurd r
  bare (verdict.Resolve k s) r = absurd r
  bare (verdict.Rejected n q) r = absurd r
  bare (verdict.RefusedAt i) r = absurd r
  bare verdict.TooManyEntries r = absurd r
  bare (verdict.Unshown line) r = absurd r
  bare (verdict.BadCheckpoint rule) r = absurd r
  bare (verdict.Unaccepted reason) r = absurd r

  one_bare : (v w : Verdict) → Bare v → Bare w → v ≡ w
  one_bare v w (many a) (many b) = refl
  one_bare v w (many a) (few b) = absurd (omega (arith, a, b))
  one_bare v w (few a) (many b) = absurd (omega (arith, a, b))
  one_bare v w (few a) (few b) = refl

  one_front : (v w : Verdict) → RefusesFront mark bytes v → RefusesFront mark bytes w → v ≡ w
  one_front v w a b =
      let both = split.same b.front a.front b.text a.text b.marked a.marked in
      (one a.front).one_refusal v w a.refused (subst (λ f. IsRefusal f w) both.0 b.refused)

  pub one_program : OneProgram mark bytes
  one_program = record {
    same = same_parts;
    not_both = λ f t p v h r.
        ⊎_elim
        (λ (b : RefusesBytes mark bytes v). bytes_alone ⊥ f t v b h.small h.marked)
        (λ (a : RefusesFront mark bytes v). not_front f t p v h a)
        r;
    one_refusal = λ v w x y.
        ⊎_elim
        (λ (a : RefusesBytes mark bytes v).
        ⊎_elim
        (λ (b : RefusesBytes mark bytes w). one_bare v w (bare v a) (bare w b))
        (λ (b : RefusesFront mark bytes w). bytes_alone (v ≡ w) b.front b.text v a b.small b.marked)
        y)
        (λ (a : RefusesFront mark bytes v).
        ⊎_elim
        (λ (b : RefusesBytes mark bytes w). bytes_alone (v ≡ w) a.front a.text w b a.small a.marked)
        (λ (b : RefusesFront mark bytes w). one_front v w a b)
        y)
        x;
  }

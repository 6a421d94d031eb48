-- Bytes have one checked checkpoint, or one reason why they have none.
use Rattle.std.proofs.Common.{◌≡◌, ◌<◌, ◌⊎◌, ◌+◌, ℕ, if◌then◌else◌, List, length, Option, Some, None, refl, sym, ap, ◌∙◌, subst, inl, inr, ⊎_elim, arith}
use Rattle.pat_semantics_spec.specs.Programs.{Program}
use Rattle.pat_derivation_spec.specs.Derivations.{Derivation}
use Rattle.pat_derivation_spec.specs.Validity.{first_bad, IsValid}
use Rattle.pat_derivation_spec.specs.Validity as validity
use Rattle.pat_derivation_laws.specs.Laws.{ValidIsNoneBad}
use Rattle.pat_derivation_text_laws.specs.Laws.{ReadingIsOne}
use Rattle.pat_derivation_text_spec.specs.DerivationText.{marker}
use Rattle.pat_derivation_text_spec.specs.Reading as derivation_text
use Rattle.pat_deriv.proofs.ReadingOnce.{read_or_not, one_unread}
use Rattle.pat_derivation_rules.specs.declared.Rule.{Rule}
use Rattle.pat_derivation_rules.specs.declared.Rule.TheVariants as rule
use Rattle.pat_judge.specs.Views.{rule_view}
use Rattle.pat_checkpoint_rules.specs.declared.CheckRule.{CheckRule as CodeRule}
use Rattle.pat_checkpoint_rules.specs.declared.CheckRule.TheVariants as check
use Rattle.pat_checkpoint_checks.specs.Answers.{check_rule_view}
use Rattle.pat_checkpoint_spec.specs.Checkpoints.{Checkpoint}
use Rattle.pat_checkpoint_spec.specs.Checked.{CheckRule, NumbersRule, KindsRule, DistinctRule, OrderRule, HolderRule, MessagesRule, BalanceRule, broken_check}
use Rattle.pat_checkpoint_spec.specs.text.CheckpointText.{marker as checkpoint_marker}
use Rattle.pat_checkpoint_spec.specs.text.Reading as checkpoint_text
use Rattle.pat_checkpoint_laws.specs.text.Laws.{ReadingIsOne as CheckpointIsOne, UnreadIsOne, UnreadIsNotRead}
use Rattle.pat_input.specs.Inputs.{limit}
use Rattle.pat_input_split.specs.Marked.{IsMarked, IsUnmarked}
use Rattle.pat_input_split.specs.Splits.{OneSplit}
use Rattle.pat_input_split.specs.program_with_text.MarkedPrograms.{RefusesBytes}
use Rattle.pat_input_split.specs.program_with_text.OneProgram.{OneProgram}
use Rattle.pat_input_split.proofs.Small.{not_marked}
use Rattle.pat_front.specs.Texts.{IsRefusal}
use Rattle.pat_front.specs.declared.verdict.Verdict.{Verdict}
use Rattle.pat_front.specs.declared.verdict.Verdict.TheVariants as verdict
use Rattle.pat_checkpoint_input.specs.Parts.{HasParts, RefusesProgram, LacksCheckpoint, IsPartsRefusal}
use Rattle.pat_checkpoint_input.specs.CheckedTexts.{first_broken, HasChecked, Unchecked, RefusesTexts, HasCheckedParts, IsCheckpointRefusal}
use Rattle.pat_checkpoint_input.specs.OneCheckpoint.{OneCheckpoint}

-- `verify` owes what stands here on rules of its own refusals; commands know nothing of one another.

-- ---- rules

rule_back : validity.Rule → Rule
rule_back validity.ShapeRule = rule.Shape
rule_back validity.EmptyRule = rule.Empty
rule_back validity.AliasRule = rule.Alias
rule_back validity.UseRule = rule.Use
rule_back validity.DropRule = rule.Drop
rule_back validity.PayloadRule = rule.Payload
rule_back validity.CoversRule = rule.Covers
rule_back validity.CertRule = rule.Cert

back : (r : Rule) → rule_back (rule_view r) ≡ r
unfolding rule_back
back rule.Shape = refl
back rule.Empty = refl
back rule.Alias = refl
back rule.Use = refl
back rule.Drop = refl
back rule.Payload = refl
back rule.Covers = refl
back rule.Cert = refl

rejected_as : Option (ℕ × validity.Rule) → Verdict
rejected_as None = verdict.TooLong
rejected_as (Some x) = verdict.Rejected x.0 (rule_back x.1)

same_rejection : (m n : ℕ) (r s : Rule) → ◌≡◌ {A = Option (ℕ × validity.Rule)} (Some (m, rule_view r)) (Some (n, rule_view s)) → verdict.Rejected m r ≡ verdict.Rejected n s
unfolding rejected_as
same_rejection m n r s e =
    ap (verdict.Rejected m) (sym (back r)) ∙ ap rejected_as e ∙ ap (verdict.Rejected n) (back s)

check_back : CheckRule → CodeRule
check_back NumbersRule = check.Numbers
check_back KindsRule = check.Kinds
check_back DistinctRule = check.Distinct
check_back OrderRule = check.Order
check_back HolderRule = check.Holder
check_back MessagesRule = check.Messages
check_back BalanceRule = check.Balance

back_check : (r : CodeRule) → check_back (check_rule_view r) ≡ r
unfolding check_back
back_check check.Numbers = refl
back_check check.Kinds = refl
back_check check.Distinct = refl
back_check check.Order = refl
back_check check.Holder = refl
back_check check.Messages = refl
back_check check.Balance = refl

broken_as : Option CheckRule → Verdict
broken_as None = verdict.TooLong
broken_as (Some r) = verdict.BadCheckpoint (check_back r)

same_break : (r s : CodeRule) → ◌≡◌ {A = Option CheckRule} (Some (check_rule_view r)) (Some (check_rule_view s)) → verdict.BadCheckpoint r ≡ verdict.BadCheckpoint s
unfolding broken_as
same_break r s e = ap verdict.BadCheckpoint (sym (back_check r)) ∙ ap broken_as e ∙ ap verdict.BadCheckpoint (back_check s)

-- ---- texts behind a program

-- why there is no checked checkpoint
data Why (p : Program) (from : ℕ) (derivation checkpoint : List ℕ) : Verdict → Type 0 where
  unread : {offset : ℕ} → derivation_text.Unread p derivation offset → Why p from derivation checkpoint (verdict.BadText (from + offset))
  unspelled : {d : Derivation} {offset : ℕ} → derivation_text.ReadsAs p derivation d → checkpoint_text.Unread p checkpoint offset → Why p from derivation checkpoint (verdict.BadText (from + length derivation + offset))
  rejected : {d : Derivation} {x : Checkpoint} {n : ℕ} {r : Rule} → derivation_text.ReadsAs p derivation d → checkpoint_text.ReadsAs p checkpoint x → first_bad p d ≡ Some (n, rule_view r) → Why p from derivation checkpoint (verdict.Rejected n r)
  broken : {d : Derivation} {x : Checkpoint} {r : CodeRule} → derivation_text.ReadsAs p derivation d → checkpoint_text.ReadsAs p checkpoint x → IsValid p d → first_broken p d x ≡ Some (check_rule_view r) → Why p from derivation checkpoint (verdict.BadCheckpoint r)

why : (p : Program) (from : ℕ) (dt ct : List ℕ) (v : Verdict) → Unchecked p from dt ct v → Why p from dt ct v
why p from dt ct (verdict.BadText o) u =
    ⊎_elim
    (λ (a : (offset : ℕ) × (o ≡ from + offset) × derivation_text.Unread p dt offset). subst (λ k. Why p from dt ct (verdict.BadText k)) (sym a.1) (unread a.2))
    (λ (a : (offset : ℕ) × (o ≡ from + length dt + offset) × (((d : Derivation) × derivation_text.ReadsAs p dt d) × checkpoint_text.Unread p ct offset)).
    let reads = a.2 in
    subst (λ k. Why p from dt ct (verdict.BadText k)) (sym a.1) (unspelled reads.0.1 reads.1))
    u
why p from dt ct (verdict.Rejected n r) (d, read, bad, (x, spelled)) = rejected read spelled bad
why p from dt ct (verdict.BadCheckpoint r) (d, read, valid, (x, spelled, bad)) = broken read spelled valid bad
why p from dt ct verdict.TooLong u = absurd u
why p from dt ct (verdict.Syntax o) u = absurd u
why p from dt ct (verdict.NumberTooWide o) u = absurd u
why p from dt ct (verdict.TooDeep o) u = absurd u
why p from dt ct (verdict.Resolve k s) u = absurd u
why p from dt ct (verdict.RefusedAt i) u = absurd u
why p from dt ct verdict.TooManyEntries u = absurd u
why p from dt ct (verdict.Unshown n) u = absurd u
why p from dt ct (verdict.Unaccepted r) u = absurd u

module _ (none_bad : ValidIsNoneBad) (one_reading : ReadingIsOne) (one_checkpoint : CheckpointIsOne) (one_place : UnreadIsOne) (not_read : UnreadIsNotRead) where
  -- a valid derivation isn't rejected
  not_rejected : (p : Program) (dt : List ℕ) (d e : Derivation) (n : ℕ) (r : Rule) → derivation_text.ReadsAs p dt d → derivation_text.ReadsAs p dt e → IsValid p d → first_bad p e ≡ Some (n, rule_view r) → ⊥
  not_rejected p dt d e n r a b valid bad =
      let same : d ≡ e = one_reading p dt d e a b in
      let none : first_bad p e ≡ None = subst (λ c. first_bad p c ≡ None) same ((none_bad p d).1 valid) in
      let clash = sym none ∙ bad in cc

  -- a checked checkpoint is none of these
  not_checked : (p : Program) (from : ℕ) (dt ct : List ℕ) (d : Derivation) (x : Checkpoint) (v : Verdict) → HasChecked p dt ct d x → Why p from dt ct v → ⊥
  not_checked p from dt ct d x v h (unread {offset = o} a) = read_or_not p dt d o h.read a
  not_checked p from dt ct d x v h (unspelled {offset = o} a b) = not_read p ct o x b h.spelled
  not_checked p from dt ct d x v h (rejected {d = e} {n = n} {r = r} a b bad) = let checked = h.checked in not_rejected p dt d e n r h.read a checked.valid bad
  not_checked p from dt ct d x v h (broken {d = e} {x = y} a b valid bad) =
      let checked = h.checked in
      let same : d ≡ e = one_reading p dt d e h.read a in
      let point : x ≡ y = one_checkpoint p ct x y h.spelled b in
      let whole : first_broken p d x ≡ None = ap (λ t. if t then broken_check p d x else Some NumbersRule) h.room ∙ checked.none in
      let none : first_broken p e y ≡ None = subst (λ z. first_broken p e z ≡ None) point (subst (λ f. first_broken p f x ≡ None) same whole) in
      let clash = sym none ∙ bad in cc

  one_why : (p : Program) (from : ℕ) (dt ct : List ℕ) (v w : Verdict) → Why p from dt ct v → Why p from dt ct w → v ≡ w
  one_why p from dt ct v w (unread {offset = m} a) (unread {offset = n} b) = ap (λ k. verdict.BadText (from + k)) (one_unread p dt m n a b)
  one_why p from dt ct v w (unread {offset = m} a) (unspelled {d = d} b c) = absurd (read_or_not p dt d m b a)
  one_why p from dt ct v w (unread {offset = m} a) (rejected {d = d} b c bad) = absurd (read_or_not p dt d m b a)
  one_why p from dt ct v w (unread {offset = m} a) (broken {d = d} b c valid bad) = absurd (read_or_not p dt d m b a)
  one_why p from dt ct v w (unspelled {d = d} b c) (unread {offset = m} a) = absurd (read_or_not p dt d m b a)
  one_why p from dt ct v w (unspelled {offset = m} a b) (unspelled {offset = n} c e) = ap (λ k. verdict.BadText (from + length dt + k)) (one_place p ct m n b e)
  one_why p from dt ct v w (unspelled {offset = m} a b) (rejected {x = x} c e bad) = absurd (not_read p ct m x b e)
  one_why p from dt ct v w (unspelled {offset = m} a b) (broken {x = x} c e valid bad) = absurd (not_read p ct m x b e)
  one_why p from dt ct v w (rejected {d = d} b c bad) (unread {offset = m} a) = absurd (read_or_not p dt d m b a)
  one_why p from dt ct v w (rejected {x = x} c e bad) (unspelled {offset = m} a b) = absurd (not_read p ct m x b e)
  one_why p from dt ct v w (rejected {d = d} {n = m} {r = r} a b bad) (rejected {d = e} {n = n} {r = s} c f other) =
      let same : d ≡ e = one_reading p dt d e a c in
      same_rejection m n r s (sym bad ∙ ap (first_bad p) same ∙ other)
  one_why p from dt ct v w (rejected {d = e} {n = n} {r = r} c f bad) (broken {d = d} a b valid other) = absurd (not_rejected p dt d e n r a c valid bad)
  one_why p from dt ct v w (broken {d = d} b c valid bad) (unread {offset = m} a) = absurd (read_or_not p dt d m b a)
  one_why p from dt ct v w (broken {x = x} c e valid bad) (unspelled {offset = m} a b) = absurd (not_read p ct m x b e)
  one_why p from dt ct v w (broken {d = d} a b valid other) (rejected {d = e} {n = n} {r = r} c f bad) = absurd (not_rejected p dt d e n r a c valid bad)
  one_why p from dt ct v w (broken {d = d} {x = x} {r = r} a b valid bad) (broken {d = e} {x = y} {r = s} c f other worse) =
      let same : d ≡ e = one_reading p dt d e a c in
      let point : x ≡ y = one_checkpoint p ct x y b f in
      same_break r s (sym bad ∙ ap (λ z. first_broken p z x) same ∙ ap (first_broken p e) point ∙ worse)

  -- ---- whole inputs

  module _ (splits : (mark bytes : List ℕ) → OneSplit mark bytes) (bytes : List ℕ) (program : OneProgram marker bytes) where
    same_parts : (f g d e c k : List ℕ) (p q : Program) → HasParts bytes f d c p → HasParts bytes g e k q → (f ≡ g) × (d ≡ e) × (c ≡ k) × (p ≡ q)
    same_parts f g d e c k p q a b =
        let s = program.same f g a.behind b.behind p q a.has b.has in
        let t = (splits checkpoint_marker b.behind).same d e c k (subst (λ l. IsMarked checkpoint_marker l d c) s.1 a.marked) b.marked in
        (s.0, t.0, t.1, s.2)

    -- a text behind which there is no checkpoint
    lacks_none : (front text d c : List ℕ) (v : Verdict) → LacksCheckpoint bytes v → IsMarked marker bytes front text → IsMarked checkpoint_marker text d c → ⊥
    lacks_none front text d c v l marked own =
        let same = (splits marker bytes).same l.front front l.text text l.marked marked in
        (splits checkpoint_marker text).not_both d c own (subst (IsUnmarked checkpoint_marker) same.1 l.unmarked)

    lacks_bytes : (v w : Verdict) → LacksCheckpoint bytes v → RefusesBytes marker bytes w → ⊥
    lacks_bytes v w l r = not_marked marker bytes (splits marker bytes) l.front l.text w r l.small l.marked

    lacks_program : (v w : Verdict) → LacksCheckpoint bytes v → RefusesProgram bytes w → ⊥
    lacks_program v w l r =
        let front = r.front in
        let same = (splits marker bytes).same front.front l.front front.text l.text front.marked l.marked in
        let has = r.whole (λ e.
        let long : limit < length front.front = subst (IsRefusal front.front) e front.refused in
        let few = l.few in
        let sizes = ap length same.0 in
        absurd (omega (arith, long, few, sizes))) in
        lacks_none front.front front.text has.0 has.1 v l front.marked has.2

    parts_stand : (f d c : List ℕ) (p : Program) (v : Verdict) → HasParts bytes f d c p → IsPartsRefusal bytes v → ⊥
    parts_stand f d c p v h r =
        let own = h.has in
        ⊎_elim
        (λ (a : RefusesBytes marker bytes v). program.not_both f h.behind p v own (inl a))
        (λ (b : RefusesProgram bytes v ⊎ LacksCheckpoint bytes v).
        ⊎_elim
        (λ (a : RefusesProgram bytes v). program.not_both f h.behind p v own (inr a.front))
        (λ (l : LacksCheckpoint bytes v). lacks_none f h.behind d c v l own.marked h.marked)
        b)
        r

    one_parts : (v w : Verdict) → IsPartsRefusal bytes v → IsPartsRefusal bytes w → v ≡ w
    one_parts v w x y =
        ⊎_elim
        (λ (a : RefusesBytes marker bytes v).
        ⊎_elim
        (λ (b : RefusesBytes marker bytes w). program.one_refusal v w (inl a) (inl b))
        (λ (k : RefusesProgram bytes w ⊎ LacksCheckpoint bytes w).
        ⊎_elim (λ (b : RefusesProgram bytes w). program.one_refusal v w (inl a) (inr b.front)) (λ (l : LacksCheckpoint bytes w). absurd (lacks_bytes w v l a)) k)
        y)
        (λ (j : RefusesProgram bytes v ⊎ LacksCheckpoint bytes v).
        ⊎_elim
        (λ (a : RefusesProgram bytes v).
        ⊎_elim
        (λ (b : RefusesBytes marker bytes w). program.one_refusal v w (inr a.front) (inl b))
        (λ (k : RefusesProgram bytes w ⊎ LacksCheckpoint bytes w).
        ⊎_elim (λ (b : RefusesProgram bytes w). program.one_refusal v w (inr a.front) (inr b.front)) (λ (l : LacksCheckpoint bytes w). absurd (lacks_program w v l a)) k)
        y)
        (λ (l : LacksCheckpoint bytes v).
        ⊎_elim
        (λ (b : RefusesBytes marker bytes w). absurd (lacks_bytes v w l b))
        (λ (k : RefusesProgram bytes w ⊎ LacksCheckpoint bytes w).
        ⊎_elim (λ (b : RefusesProgram bytes w). absurd (lacks_program v w l b)) (λ (m : LacksCheckpoint bytes w). l.is ∙ sym m.is) k)
        y)
        j)
        x

    -- what is said of texts behind a program is said of the same texts behind the same program
    moved : (f g d e c k : List ℕ) (p q : Program) (v : Verdict) → (f ≡ g) × (d ≡ e) × (c ≡ k) × (p ≡ q) → Unchecked p (length f) d c v → Unchecked q (length g) e k v
    moved f g d e c k p q v same h =
        subst (λ r. Unchecked r (length g) e k v) same.3
        (subst (λ s. Unchecked p (length g) e s v) same.2
        (subst (λ s. Unchecked p (length g) s c v) same.1
        (subst (λ s. Unchecked p (length s) d c v) same.0 h)))

    one_texts : (v w : Verdict) → RefusesTexts bytes v → RefusesTexts bytes w → v ≡ w
    one_texts v w a b =
        let same = same_parts b.front a.front b.derivation a.derivation b.checkpoint a.checkpoint b.program a.program b.has a.has in
        one_why a.program (length a.front) a.derivation a.checkpoint v w
        (why a.program (length a.front) a.derivation a.checkpoint v a.unchecked)
        (why a.program (length a.front) a.derivation a.checkpoint w (moved b.front a.front b.derivation a.derivation b.checkpoint a.checkpoint b.program a.program w same b.unchecked))

    stands : (p : Program) (d : Derivation) (x : Checkpoint) (v : Verdict) → HasCheckedParts bytes p d x → IsCheckpointRefusal bytes v → ⊥
    stands p d x v a r =
        ⊎_elim
        (λ (m : IsPartsRefusal bytes v). parts_stand a.front a.derivation a.checkpoint p v a.has m)
        (λ (t : RefusesTexts bytes v).
        let same = same_parts t.front a.front t.derivation a.derivation t.checkpoint a.checkpoint t.program p t.has a.has in
        not_checked p (length a.front) a.derivation a.checkpoint d x v a.checked
        (why p (length a.front) a.derivation a.checkpoint v (moved t.front a.front t.derivation a.derivation t.checkpoint a.checkpoint t.program p v same t.unchecked)))
        r

    same_checked : (p q : Program) (d e : Derivation) (x y : Checkpoint) → HasCheckedParts bytes p d x → HasCheckedParts bytes q e y → (p ≡ q) × (d ≡ e) × (x ≡ y)
    same_checked p q d e x y a b =
        let same = same_parts a.front b.front a.derivation b.derivation a.checkpoint b.checkpoint p q a.has b.has in
        let h = a.checked in
        let k : HasChecked p a.derivation a.checkpoint e y =
        subst (λ r. HasChecked r a.derivation a.checkpoint e y) (sym same.3)
        (subst (λ l. HasChecked q a.derivation l e y) (sym same.2) (subst (λ l. HasChecked q l b.checkpoint e y) (sym same.1) b.checked))
        in
        (same.3, one_reading p a.derivation d e h.read k.read, one_checkpoint p a.checkpoint x y h.spelled k.spelled)

    pub one_answer : OneCheckpoint bytes
    one_answer = record {
      same = same_checked;
      not_both = stands;
      one_refusal = λ v w x y.
          ⊎_elim
          (λ (m : IsPartsRefusal bytes v).
          ⊎_elim
          (λ (n : IsPartsRefusal bytes w). one_parts v w m n)
          (λ (t : RefusesTexts bytes w). absurd (parts_stand t.front t.derivation t.checkpoint t.program v t.has m))
          y)
          (λ (t : RefusesTexts bytes v).
          ⊎_elim
          (λ (n : IsPartsRefusal bytes w). absurd (parts_stand t.front t.derivation t.checkpoint t.program w t.has n))
          (λ (u : RefusesTexts bytes w). one_texts v w t u)
          y)
          x;
    }

-- What is answered of parts, and of the whole.
use Rattle.std.proofs.Common.{◌≡◌, ◌≤◌, ◌<◌, ◌+◌, ℕ, true, false, if◌then◌else◌, List, length, take, drop, Some, Result, Ok as Done, Err as Failed, refl, sym, ap, ◌∙◌, subst, inl, inr, ⊎_elim, arith}
use Rattle.std.proofs.lemmas.List.{length-take-le}
use Rattle.pat_semantics_spec.specs.Programs.{Program}
use Rattle.pat_core.specs.Views.{program_view}
use Rattle.pat_derivation_spec.specs.Derivations.{Derivation}
use Rattle.pat_derivation_spec.specs.Validity.{IsValid}
use Rattle.pat_derivation_text_spec.specs.DerivationText.{marker}
use Rattle.pat_derivation_text_spec.specs.Reading as derivation_text
use Rattle.pat_checkpoint_spec.specs.Checkpoints.{Checkpoint}
use Rattle.pat_checkpoint_spec.specs.Checked.{NumbersRule, broken_check}
use Rattle.pat_checkpoint_spec.specs.text.CheckpointText.{marker as checkpoint_marker}
use Rattle.pat_checkpoint_spec.specs.text.Reading as checkpoint_text
use Rattle.pat_derivations.specs.declared.data.Derivation.{Derivation as CodeDerivation}
use Rattle.pat_derivations.specs.Views.{derivation_view}
use Rattle.pat_checkpoint_data.specs.declared.data.Checkpoint.{Checkpoint as CodeCheckpoint}
use Rattle.pat_checkpoint_data.specs.Views.{checkpoint_view}
use Rattle.pat_checkpoint_checks.specs.Answers.{check_rule_view}
use Rattle.pat_checkpoint_rules.specs.declared.CheckRule.{CheckRule as CodeRule}
use Rattle.pat_checkpoint_rules.specs.declared.CheckRule.TheVariants.{Numbers}
use Rattle.pat_input.specs.Inputs.{limit, whole_limit}
use Rattle.pat_input_split.specs.Marked.{IsMarked, IsUnmarked}
use Rattle.pat_input_split.specs.Splits.{OneSplit}
use Rattle.pat_input_split.specs.program_with_text.MarkedPrograms.{HasProgram, RefusesBytes, RefusesFront, Explains}
use Rattle.pat_front.specs.declared.front.FrontError.{FrontError}
use Rattle.pat_front.specs.declared.front.FrontError.TheVariants as error
use Rattle.pat_front.specs.declared.verdict.Verdict.{Verdict}
use Rattle.pat_front.specs.declared.verdict.Verdict.TheVariants as verdict
use Rattle.pat_front.proofs.Refusals.{small}
use Rattle.pat_checkpoint_input.specs.declared.inputs.CheckedInput.{CheckedInput}
use Rattle.pat_checkpoint_input.specs.Parts.{HasCheckpoint, HasMarks, HasParts, LacksCheckpoint}
use Rattle.pat_checkpoint_input.specs.CheckedTexts.{has_room, first_broken, HasChecked, Unchecked}
use Rattle.pat_checkpoint_input.specs.Gives.{Examines, JudgedBad, Judges, RefusesCheckpoint, CheckpointGives, TextsGive, PartsGive, BehindGives, BytesGive}

-- ---- whole inputs

-- behind each derivation of a program that isn't too long stands a checkpoint
abbrev pub AllHaveCheckpoint : List ℕ → Type 0
AllHaveCheckpoint bytes = length bytes ≤ whole_limit → (front text : List ℕ) → IsMarked marker bytes front text → length front ≤ limit → HasCheckpoint text

module _ (bytes : List ℕ) where
  of_parts : (front derivation checkpoint : List ℕ) (p : Program) → HasParts bytes front derivation checkpoint p → (r : Result CheckedInput FrontError) → PartsGive p (length front) derivation checkpoint r → BytesGive bytes r
  of_parts front d c p has (Done r) h = record {
    front = front;
    derivation = d;
    checkpoint = c;
    has = subst (HasParts bytes front d c) (sym h.0) has;
    checked = subst (λ q. HasChecked q d c (derivation_view r.derivation) (checkpoint_view r.checkpoint)) (sym h.0) h.1;
  }
  of_parts front d c p has (Failed (error.Refused v)) h = inr (record { front = front; derivation = d; checkpoint = c; program = p; has = has; unchecked = h })
  of_parts front d c p has (Failed error.NoMemory) h = tt

  pub behind_given : (at : ℕ) (text : List ℕ) (p : Program) (r : Result CheckedInput FrontError) → HasProgram marker bytes (take at bytes) text p → at ≤ length bytes → BehindGives p at text r → BytesGive bytes r
  behind_given at text p r has within (d, c, marked, h) =
      of_parts (take at bytes) d c p (record { behind = text; has = has; marked = marked }) r
      (subst (λ n. PartsGive p n d c r) (sym (length-take-le at bytes within)) h)

  -- why there is no program is why there is no checkpoint
  pub refused : (e : FrontError) → AllHaveCheckpoint bytes → Explains marker bytes e → BytesGive bytes (Failed e)
  refused error.NoMemory all why = tt
  refused (error.Refused v) all why =
      ⊎_elim
      (λ (r : RefusesBytes marker bytes v). inl (inl r))
      (λ (r : RefusesFront marker bytes v). inl (inr (inl (record { front = r; whole = λ other. all r.small r.front r.text r.marked (small r.front v r.refused other) }))))
      why

-- the program in front isn't too long, so a checkpoint stands behind it
pub marked_behind : (bytes front text : List ℕ) (p : Program) → AllHaveCheckpoint bytes → HasProgram marker bytes front text p → HasCheckpoint text
marked_behind bytes front text p all has = let own = has.has in all has.small front text has.marked own.1.tree.small

-- ---- the place of a derivation

module _ (bytes : List ℕ) (at : ℕ) (within : at ≤ length bytes) (marked : IsMarked marker bytes (take at bytes) (drop at bytes)) where
  pub lacks_at : length bytes ≤ whole_limit → at ≤ limit → IsUnmarked checkpoint_marker (drop at bytes) → LacksCheckpoint bytes (verdict.BadText (length bytes))
  lacks_at few near none =
      let front = length-take-le at bytes within in
      record { small = few; front = take at bytes; text = drop at bytes; marked = marked; few = omega (arith, front, near); unmarked = none; is = refl }

  module _ (split : OneSplit marker bytes) where
    pub has_at : HasCheckpoint (drop at bytes) → (front text : List ℕ) → IsMarked marker bytes front text → length front ≤ limit → HasCheckpoint text
    has_at has front text other few = subst HasCheckpoint (split.same (take at bytes) front (drop at bytes) text marked other).1 has

    pub far_at : limit < at → (front text : List ℕ) → IsMarked marker bytes front text → length front ≤ limit → HasCheckpoint text
    far_at far front text other few =
        let same = ap length (split.same (take at bytes) front (drop at bytes) text marked other).0 in
        let long = length-take-le at bytes within in
        absurd (omega (arith, same, long, far, few))

-- and where none stands behind it there are no marks
pub no_marks_at : (bytes : List ℕ) (at : ℕ) → IsMarked marker bytes (take at bytes) (drop at bytes) → OneSplit marker bytes → OneSplit checkpoint_marker (drop at bytes) → IsUnmarked checkpoint_marker (drop at bytes) → HasMarks bytes → ⊥
no_marks_at bytes at marked split behind none marks =
    let same = split.same marks.front (take at bytes) marks.text (drop at bytes) marks.marked marked in
    let has = subst HasCheckpoint same.1 marks.has in
    behind.not_both has.0 has.1 has.2 none

-- ---- texts

-- what is behind the program begins with the derivation
pub parts_checked : (p : Program) (from : ℕ) (derivation checkpoint : List ℕ) (r : CheckedInput) (s : CodeDerivation × CodeCheckpoint) → program_view r.program ≡ p → r.derivation ≡ s.0 → r.checkpoint ≡ s.1 → TextsGive p from derivation checkpoint (Done s) → PartsGive p from derivation checkpoint (Done r)
parts_checked p from d c r s program shown is given = (
  program,
  subst (λ e. HasChecked p d c (derivation_view e) (checkpoint_view r.checkpoint)) (sym shown) (subst (λ y. HasChecked p d c (derivation_view s.0) (checkpoint_view y)) (sym is) given),
)

pub parts_refused : (p : Program) (from : ℕ) (derivation checkpoint : List ℕ) (e : FrontError) → TextsGive p from derivation checkpoint (Failed e) → PartsGive p from derivation checkpoint (Failed e)
parts_refused p from d c (error.Refused v) given = given
parts_refused p from d c error.NoMemory given = tt

-- ---- the checkpoint's text, behind a derivation that is read

module _ (p : Program) (from : ℕ) (derivation checkpoint : List ℕ) (d : Derivation) (read : derivation_text.ReadsAs p derivation d) where
  why : (v : Verdict) → RefusesCheckpoint p d (from + length derivation) checkpoint v → Unchecked p from derivation checkpoint v
  why (verdict.BadText o) (offset, at, unread) = inr (offset, at, ((d, read), unread))
  why (verdict.Rejected n r) (x, spelled, bad) = (d, read, bad, (x, spelled))
  why (verdict.BadCheckpoint r) (x, spelled, bad) = (d, read, bad.0, (x, spelled, bad.1))
  why verdict.TooLong (x, spelled, bad) = absurd bad
  why (verdict.Syntax o) (x, spelled, bad) = absurd bad
  why (verdict.NumberTooWide o) (x, spelled, bad) = absurd bad
  why (verdict.TooDeep o) (x, spelled, bad) = absurd bad
  why (verdict.Resolve k s) (x, spelled, bad) = absurd bad
  why (verdict.RefusedAt i) (x, spelled, bad) = absurd bad
  why verdict.TooManyEntries (x, spelled, bad) = absurd bad
  why (verdict.Unshown n) (x, spelled, bad) = absurd bad
  why (verdict.Unaccepted r) (x, spelled, bad) = absurd bad

  -- what is read, and refused
  pub texts_read : (shown : CodeDerivation) (x : CodeCheckpoint) → derivation_view shown ≡ d → CheckpointGives p d (from + length derivation) checkpoint (Done x) → TextsGive p from derivation checkpoint (Done (shown, x))
  texts_read shown x is h = subst (λ e. HasChecked p derivation checkpoint e (checkpoint_view x)) (sym is) (record { read = read; spelled = h.0; checked = h.1; room = h.2 })

  pub texts_refused : (e : FrontError) → CheckpointGives p d (from + length derivation) checkpoint (Failed e) → TextsGive p from derivation checkpoint (Failed e)
  texts_refused (error.Refused v) h = why v h
  texts_refused error.NoMemory h = tt

-- ---- a checkpoint that is read

module _ (p : Program) (d : Derivation) (at : ℕ) (text : List ℕ) (x : CodeCheckpoint) (spelled : checkpoint_text.ReadsAs p text (checkpoint_view x)) where
  bad_checkpoint : (v : Verdict) → JudgedBad p d (checkpoint_view x) v → RefusesCheckpoint p d at text v
  bad_checkpoint (verdict.BadText o) bad = absurd bad
  bad_checkpoint (verdict.Rejected n r) bad = (checkpoint_view x, spelled, bad)
  bad_checkpoint (verdict.BadCheckpoint r) bad = (checkpoint_view x, spelled, bad)
  bad_checkpoint verdict.TooLong bad = absurd bad
  bad_checkpoint (verdict.Syntax o) bad = absurd bad
  bad_checkpoint (verdict.NumberTooWide o) bad = absurd bad
  bad_checkpoint (verdict.TooDeep o) bad = absurd bad
  bad_checkpoint (verdict.Resolve k s) bad = absurd bad
  bad_checkpoint (verdict.RefusedAt i) bad = absurd bad
  bad_checkpoint verdict.TooManyEntries bad = absurd bad
  bad_checkpoint (verdict.Unshown n) bad = absurd bad
  bad_checkpoint (verdict.Unaccepted r) bad = absurd bad

  pub judged_well : Judges p d (checkpoint_view x) (Done tt) → CheckpointGives p d at text (Done x)
  judged_well h = (spelled, h.0, h.1)

  pub judged_bad : (e : FrontError) → Judges p d (checkpoint_view x) (Failed e) → CheckpointGives p d at text (Failed e)
  judged_bad (error.Refused v) h = bad_checkpoint v h
  judged_bad error.NoMemory h = tt

-- ---- rules

module _ (p : Program) (d : Derivation) (x : Checkpoint) where
  examined_bad : IsValid p d → (v : Verdict) → Examines p d x (Failed (error.Refused v)) → JudgedBad p d x v
  examined_bad valid (verdict.BadCheckpoint r) h = (valid, h)
  examined_bad valid (verdict.BadText o) h = absurd h
  examined_bad valid (verdict.Rejected n r) h = absurd h
  examined_bad valid verdict.TooLong h = absurd h
  examined_bad valid (verdict.Syntax o) h = absurd h
  examined_bad valid (verdict.NumberTooWide o) h = absurd h
  examined_bad valid (verdict.TooDeep o) h = absurd h
  examined_bad valid (verdict.Resolve k s) h = absurd h
  examined_bad valid (verdict.RefusedAt i) h = absurd h
  examined_bad valid verdict.TooManyEntries h = absurd h
  examined_bad valid (verdict.Unshown n) h = absurd h
  examined_bad valid (verdict.Unaccepted r) h = absurd h

  -- what is examined of a valid derivation is its judgement
  pub judged_valid : (r : Result (Unit {0}) FrontError) → IsValid p d → Examines p d x r → Judges p d x r
  judged_valid (Done u) valid h = h
  judged_valid (Failed (error.Refused v)) valid h = examined_bad valid v h
  judged_valid (Failed error.NoMemory) valid h = tt

  -- without room the rule on numbers is broken
  pub no_room : has_room x.config ≡ false → first_broken p d x ≡ Some (check_rule_view Numbers)
  no_room none = ap (λ t. if t then broken_check p d x else Some NumbersRule) none

  -- and with room the first broken rule is the one that examining finds
  pub with_room : (r : CodeRule) → has_room x.config ≡ true → broken_check p d x ≡ Some (check_rule_view r) → first_broken p d x ≡ Some (check_rule_view r)
  with_room r room broken = ap (λ t. if t then broken_check p d x else Some NumbersRule) room ∙ broken

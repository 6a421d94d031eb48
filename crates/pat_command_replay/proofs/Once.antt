-- Bytes have one answer.
use Rattle.std.proofs.Common.{◌≡◌, ℕ, List, codes, refl, sym, ap, ◌∙◌, subst, ⊎_elim}
use Rattle.pat_semantics_spec.specs.Programs.{Program}
use Rattle.pat_semantics_spec.specs.Configs.{Config}
use Rattle.pat_semantics_spec.specs.Runs.{Entry}
use Rattle.pat_derivation_spec.specs.Derivations.{Derivation}
use Rattle.pat_checkpoint_spec.specs.Checkpoints.{Checkpoint}
use Rattle.pat_derivation_text_spec.specs.DerivationText.{marker as derivation_marker}
use Rattle.pat_history_spec.specs.HistoryText.{marker}
use Rattle.pat_front.specs.declared.verdict.Verdict.{Verdict}
use Rattle.pat_input_split.specs.Marked.{IsMarked}
use Rattle.pat_input_split.specs.Splits.{OneSplit}
use Rattle.pat_checkpoint_input.specs.Pieces.{IsNoPiece, ReplaysPiece, RefusesPiece}
use Rattle.pat_checkpoint_input.specs.OneCheckpoint.{OnePiece}
use Rattle.pat_checkpoint_input.proofs.Marks.{no_mark}
use Rattle.pat_replay_input.specs.RunText.{replay_text}
use Rattle.pat_replay_input.specs.Histories.{standing, Replays, IsReplayRefusal}
use Rattle.pat_replay_input.specs.OneReplay.{OneReplay}
use Rattle.pat_command_replay.specs.Pieces.{GoesOnFrom, ReplaysInput, IsInputRefusal}
use Rattle.pat_command_replay.specs.Allowed.{IsReplayed}
use Rattle.pat_command_replay.specs.Answers.{OneAnswer}

module _ (bytes : List ℕ) (split : OneSplit marker bytes) (piece : OnePiece bytes) (whole : OneReplay bytes) where
  -- a program's text has no mark of a derivation
  no_piece : (p : Program) (es : List Entry) (c : Config) → Replays bytes p es c → IsNoPiece bytes
  no_piece p es c r head history behind =
      let has = r.has in
      let same = split.same head r.front history r.text behind.marked has.marked in
      let marks = behind.marks in
      no_mark derivation_marker (codes "%derivation") r.front marks.front marks.text p refl has.has (subst (λ l. IsMarked derivation_marker l marks.front marks.text) same.0 marks.marked)

  -- ---- inputs

  same_input : (p q : Program) (es fs : List Entry) (c d : Config) → ReplaysInput bytes p es c → ReplaysInput bytes q fs d → (p ≡ q) × (es ≡ fs) × (c ≡ d)
  same_input p q es fs c d a b =
      ⊎_elim
      (λ (h : Replays bytes p es c).
      ⊎_elim
      (λ (k : Replays bytes q fs d). whole.same p q es fs c d h k)
      (λ (k : GoesOnFrom bytes q fs d). let goes = k.replays in absurd (no_piece p es c h goes.head goes.history goes.piece))
      b)
      (λ (h : GoesOnFrom bytes p es c).
      ⊎_elim
      (λ (k : Replays bytes q fs d). let goes = h.replays in absurd (no_piece q fs d k goes.head goes.history goes.piece))
      (λ (k : GoesOnFrom bytes q fs d).
      let one = piece.same p q h.shown k.shown h.from k.from es fs c d h.replays k.replays in
      (one.0, one.3, one.4))
      b)
      a

  whole_stands : (p : Program) (es : List Entry) (c : Config) (v : Verdict) → Replays bytes p es c → IsInputRefusal bytes v → ⊥
  whole_stands p es c v a r =
      ⊎_elim
      (λ (m : IsNoPiece bytes × IsReplayRefusal bytes v). whole.not_both p es c v a m.1)
      (λ (m : RefusesPiece bytes v). no_piece p es c a m.head m.history m.piece)
      r

  stands : (p : Program) (d : Derivation) (x : Checkpoint) (es : List Entry) (c : Config) (v : Verdict) → ReplaysPiece bytes p d x es c → IsInputRefusal bytes v → ⊥
  stands p d x es c v a r =
      ⊎_elim (λ (m : IsNoPiece bytes × IsReplayRefusal bytes v). m.0 a.head a.history a.piece) (λ (m : RefusesPiece bytes v). piece.not_both p d x es c v a m) r

  input_stands : (p : Program) (es : List Entry) (c : Config) (v : Verdict) → ReplaysInput bytes p es c → IsInputRefusal bytes v → ⊥
  input_stands p es c v a r =
      ⊎_elim (λ (h : Replays bytes p es c). whole_stands p es c v h r) (λ (h : GoesOnFrom bytes p es c). stands p h.shown h.from es c v h.replays r) a

  same_output : (out other : List ℕ) → IsReplayed bytes out → IsReplayed bytes other → out ≡ other
  same_output out other a b =
      let same = same_input a.program b.program a.entries b.entries a.config b.config a.replays b.replays in
      a.shown
      ∙ ap (λ es. replay_text es a.config (standing a.program a.config)) same.1
      ∙ ap (λ p. replay_text b.entries a.config (standing p a.config)) same.0
      ∙ ap (λ c. replay_text b.entries c (standing b.program c)) same.2
      ∙ sym b.shown

  one_refusal : (v w : Verdict) → IsInputRefusal bytes v → IsInputRefusal bytes w → v ≡ w
  one_refusal v w a b =
      ⊎_elim
      (λ (m : IsNoPiece bytes × IsReplayRefusal bytes v).
      ⊎_elim
      (λ (n : IsNoPiece bytes × IsReplayRefusal bytes w). whole.one_refusal v w m.1 n.1)
      (λ (n : RefusesPiece bytes w). absurd (m.0 n.head n.history n.piece))
      b)
      (λ (m : RefusesPiece bytes v).
      ⊎_elim
      (λ (n : IsNoPiece bytes × IsReplayRefusal bytes w). absurd (n.0 m.head m.history m.piece))
      (λ (n : RefusesPiece bytes w). piece.one_refusal v w m n)
      b)
      a

  pub one_answer : OneAnswer bytes
  one_answer = record {
    one_output = same_output;
    not_both = λ out v a r. input_stands a.program a.entries a.config v a.replays r;
    not_refused = whole_stands;
    piece_stands = stands;
    one_refusal = one_refusal;
  }

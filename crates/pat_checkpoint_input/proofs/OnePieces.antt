-- Bytes are those of one history behind a checkpoint, or are refused in one way.
use Rattle.std.proofs.Common.{◌≡◌, ◌⊎◌, ℕ, List, length, sym, subst, ⊎_elim}
use Rattle.pat_semantics_spec.specs.Programs.{Program}
use Rattle.pat_semantics_spec.specs.Configs.{Config}
use Rattle.pat_semantics_spec.specs.Runs.{Entry}
use Rattle.pat_derivation_spec.specs.Derivations.{Derivation}
use Rattle.pat_checkpoint_spec.specs.Checkpoints.{Checkpoint}
use Rattle.pat_history_spec.specs.HistoryText.{marker}
use Rattle.pat_front.specs.declared.verdict.Verdict.{Verdict}
use Rattle.pat_input_split.specs.Splits.{OneSplit}
use Rattle.pat_replay_input.specs.Histories.{HasReplay, Unreplayed}
use Rattle.pat_replay_input.specs.OneReplay.{OneText}
use Rattle.pat_checkpoint_input.specs.CheckedTexts.{HasCheckedParts, IsCheckpointRefusal}
use Rattle.pat_checkpoint_input.specs.Pieces.{IsPiece, ReplaysPiece, RefusesHistory, RefusesPiece}
use Rattle.pat_checkpoint_input.specs.OneCheckpoint.{OneCheckpoint, OnePiece}

module _ (texts : (p : Program) (b : Config) (text : List ℕ) → OneText p b text) (checkpoints : (bytes : List ℕ) → OneCheckpoint bytes) (bytes : List ℕ) (split : OneSplit marker bytes) where
  one_piece : (h g t u : List ℕ) → IsPiece bytes h t → IsPiece bytes g u → (h ≡ g) × (t ≡ u)
  one_piece h g t u a b = split.same h g t u a.marked b.marked

  same_piece : (p q : Program) (d e : Derivation) (x y : Checkpoint) (es fs : List Entry) (c k : Config) → ReplaysPiece bytes p d x es c → ReplaysPiece bytes q e y fs k → (p ≡ q) × (d ≡ e) × (x ≡ y) × (es ≡ fs) × (c ≡ k)
  same_piece p q d e x y es fs c k a b =
      let at = one_piece b.head a.head b.history a.history b.piece a.piece in
      let one = (checkpoints a.head).same q p e d y x (subst (λ l. HasCheckedParts l q e y) at.0 b.parts) a.parts in
      let leads : HasReplay p x.config a.history fs k =
      subst (λ r. HasReplay r x.config a.history fs k) one.0
      (subst (λ (z : Checkpoint). HasReplay q z.config a.history fs k) one.2 (subst (λ l. HasReplay q y.config l fs k) at.1 b.leads))
      in
      let both = (texts p x.config a.history).same es fs c k a.leads leads in
      (sym one.0, sym one.1, sym one.2, both.0, both.1)

  -- the same history of another checkpoint is refused where the history is
  moved : (h g t u : List ℕ) (p q : Program) (x y : Checkpoint) (v : Verdict) → (h ≡ g) × (t ≡ u) → p ≡ q → x ≡ y → Unreplayed p x.config (length h) t v → Unreplayed q y.config (length g) u v
  moved h g t u p q x y v at program point r =
      subst (λ s. Unreplayed s y.config (length g) u v) program
      (subst (λ (z : Checkpoint). Unreplayed p z.config (length g) u v) point
      (subst (λ s. Unreplayed p x.config (length g) s v) at.1
      (subst (λ s. Unreplayed p x.config (length s) t v) at.0 r)))

  piece_stands : (p : Program) (d : Derivation) (x : Checkpoint) (es : List Entry) (c : Config) (v : Verdict) → ReplaysPiece bytes p d x es c → RefusesPiece bytes v → ⊥
  piece_stands p d x es c v a r =
      let at = one_piece r.head a.head r.history a.history r.piece a.piece in
      ⊎_elim
      (λ (why : IsCheckpointRefusal r.head v). (checkpoints a.head).not_both p d x v a.parts (subst (λ l. IsCheckpointRefusal l v) at.0 why))
      (λ (why : RefusesHistory r.head r.history v).
      let one = (checkpoints a.head).same why.program p why.shown d why.from x (subst (λ l. HasCheckedParts l why.program why.shown why.from) at.0 why.parts) a.parts in
      (texts p x.config a.history).not_both (length a.head) es c v a.leads (moved r.head a.head r.history a.history why.program p why.from x v at one.0 one.2 why.unreplayed))
      r.why

  one_why : (v w : Verdict) → RefusesPiece bytes v → RefusesPiece bytes w → v ≡ w
  one_why v w a b =
      let at = one_piece b.head a.head b.history a.history b.piece a.piece in
      ⊎_elim
      (λ (m : IsCheckpointRefusal a.head v).
      ⊎_elim
      (λ (n : IsCheckpointRefusal b.head w). (checkpoints a.head).one_refusal v w m (subst (λ l. IsCheckpointRefusal l w) at.0 n))
      (λ (n : RefusesHistory b.head b.history w). absurd ((checkpoints a.head).not_both n.program n.shown n.from v (subst (λ l. HasCheckedParts l n.program n.shown n.from) at.0 n.parts) m))
      b.why)
      (λ (m : RefusesHistory a.head a.history v).
      ⊎_elim
      (λ (n : IsCheckpointRefusal b.head w). absurd ((checkpoints a.head).not_both m.program m.shown m.from w m.parts (subst (λ l. IsCheckpointRefusal l w) at.0 n)))
      (λ (n : RefusesHistory b.head b.history w).
      let one = (checkpoints a.head).same n.program m.program n.shown m.shown n.from m.from (subst (λ l. HasCheckedParts l n.program n.shown n.from) at.0 n.parts) m.parts in
      (texts m.program m.from.config a.history).one_refusal (length a.head) v w m.unreplayed
      (moved b.head a.head b.history a.history n.program m.program n.from m.from w at one.0 one.2 n.unreplayed))
      b.why)
      a.why

  pub one_history : OnePiece bytes
  one_history = record { same = same_piece; not_both = piece_stands; one_refusal = one_why }

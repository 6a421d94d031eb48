-- Bytes have one answer: a checkpoint is written or a line is unshown, not both, and it is one line.
use Rattle.std.proofs.Common.{◌≡◌, ◌⊎◌, ⊎_elim, ℕ, List, [], ◌∷◌, codes, Option, Some, refl, sym, ap, ◌∙◌, subst, inl, inr}
use Rattle.std.specs.List.{AllByRecursion}
use Rattle.pat_semantics_spec.specs.Programs.{Program}
use Rattle.pat_semantics_spec.specs.WellFormed.{WellFormed}
use Rattle.pat_semantics_spec.specs.Configs.{Config, start}
use Rattle.pat_semantics_spec.specs.Runs.{Entry, replay_from}
use Rattle.pat_inclusion_spec.specs.Certificates.{Inclusion}
use Rattle.pat_type_system_spec.specs.Typings.{Typing}
use Rattle.pat_parser_spec.specs.Trees.{Tree}
use Rattle.pat_resolver_spec.specs.Places.{places}
use Rattle.pat_derivation_spec.specs.Derivations.{Derivation, scope_of, written_typing}
use Rattle.pat_solve_spec.specs.Answers.{tags_of, solution}
use Rattle.pat_solve_spec.specs.Laws.{AreThere, InterfacesThere}
use Rattle.pat_checkpoint_spec.specs.Checkpoints.{Checkpoint, interface_at}
use Rattle.pat_checkpoint_spec.specs.Resumed.{interfaces_after_history, start_checkpoint}
use Rattle.pat_checkpoint_spec.specs.Written.{lines_need, CanBeShown, IsFirstUnshown}
use Rattle.pat_checkpoint.specs.Bounds.{bound_in}
use Rattle.pat_front.specs.Texts.{IsProgramText}
use Rattle.pat_front.specs.Laws as front
use Rattle.pat_front.specs.Lines.{line_of_verdict}
use Rattle.pat_front.specs.declared.verdict.Verdict.{Verdict}
use Rattle.pat_front.specs.declared.verdict.Verdict.TheVariants.{Unshown}
use Rattle.pat_front.proofs.Resolved.{is_resolved}
use Rattle.pat_typecheck.specs.Reasons.{IsMade}
use Rattle.pat_typecheck.specs.Inputs.{IsAcceptedText, IsCheckRefusal}
use Rattle.pat_typecheck.specs.Laws as typecheck
use Rattle.pat_history_spec.specs.HistoryText.{marker}
use Rattle.pat_checkpoint_input.specs.Pieces.{IsNoPiece, ReplaysPiece, RefusesPiece}
use Rattle.pat_checkpoint_input.specs.OneCheckpoint.{OnePiece}
use Rattle.pat_checkpoint_input.proofs.Marks.{no_mark}
use Rattle.pat_command_checkpoint.specs.Allowed.{RunsTo, ShowsCheckpoint, HasUnshown, IsUnshownRun, IsWrittenRun, IsRunRefusal, LeadsFrom, IsWrittenPiece, IsUnshownPiece, IsPieceRefusal, IsUnshown, IsWritten, IsCheckpointRefusal}
use Rattle.pat_command_checkpoint.specs.Answers.{OneAnswer}
use Rattle.pat_command_checkpoint.proofs.Solutions.{values_alike, one_typing}
use Rattle.pat_command_checkpoint.proofs.Shown.{none_unshown, so_shown, one_unshown}

some_same : {A : Type 0} (x y : A) → Some x ≡ Some y → x ≡ y
some_same x y h = cc

-- ---- one program

module _ (p : Program) (steps : ℕ) where
  -- what the lines need where a run led
  abbrev needs : Typing → Config → List ℕ → List (Option Inclusion)
  needs y c interfaces = lines_need p y (interface_at c.live interfaces) c

  -- runs by two derivations lead to one configuration, with the same interfaces
  one_entries : (d e : Derivation) (r : RunsTo p d steps) (s : RunsTo p e steps) → r.entries ≡ s.entries
  one_entries d e r s = r.resumed.entries ∙ sym s.resumed.entries

  one_config : (d e : Derivation) (r : RunsTo p d steps) (s : RunsTo p e steps) → r.config ≡ s.config
  one_config d e r s = some_same r.config s.config (sym r.resumed.reached ∙ ap (replay_from p (start p)) (one_entries d e r s) ∙ s.resumed.reached)

  one_interfaces : (d e : Derivation) (r : RunsTo p d steps) (s : RunsTo p e steps) → r.interfaces ≡ s.interfaces
  one_interfaces d e r s =
      r.resumed.kept
      ∙ ap (λ es. interfaces_after_history p (start_checkpoint p) es r.config) (one_entries d e r s)
      ∙ ap (interfaces_after_history p (start_checkpoint p) s.entries) (one_config d e r s)
      ∙ sym s.resumed.kept

  one_needs : (d e : Derivation) (r : RunsTo p d steps) (s : RunsTo p e steps) → written_typing p d ≡ written_typing p e → needs (written_typing p d) r.config r.interfaces ≡ needs (written_typing p e) s.config s.interfaces
  one_needs d e r s typing =
      ap (λ y. needs y r.config r.interfaces) typing
      ∙ ap (λ c. needs (written_typing p e) c r.interfaces) (one_config d e r s)
      ∙ ap (needs (written_typing p e) s.config) (one_interfaces d e r s)

  module _ (there : AreThere p) (d e : Derivation) (m : IsMade p d) (n : IsMade p e) where
    one_written : written_typing p d ≡ written_typing p e
    one_written =
        ap (written_typing p) m.made
        ∙ one_typing p (solution p m.forms m.points) (solution p n.forms n.points) m.certs n.certs
        ∙ sym (ap (written_typing p) n.made)

    -- what can be shown by the one can be shown by the other
    shown_to : (q : Option Inclusion) → CanBeShown (scope_of p d) (bound_in p) q → CanBeShown (scope_of p e) (bound_in p) q
    shown_to q h =
        subst (λ (k : Derivation). CanBeShown (scope_of p k) (bound_in p) q) (sym n.made)
        (so_shown (tags_of p) (solution p m.forms m.points) (solution p n.forms n.points) (values_alike p m.forms n.forms m.points n.points m.solved n.solved there) (bound_in p) q
        (subst (λ (k : Derivation). CanBeShown (scope_of p k) (bound_in p) q) m.made h))

    pub not_unshown : (out : List ℕ) (line : ℕ) → ShowsCheckpoint p d steps out → HasUnshown p e steps line → ⊥
    not_unshown out line shows unshown =
        let r = shows.run in
        let s = unshown.run in
        let qs = needs (written_typing p d) r.config r.interfaces in
        let same : qs ≡ needs (written_typing p e) s.config s.interfaces = one_needs d e r s one_written in
        none_unshown (scope_of p e) (bound_in p) qs line (to_all qs shows.written.showable)
        (subst (λ l. IsFirstUnshown (scope_of p e) (bound_in p) l line) (sym same) unshown.first)
      where
        to_all : (qs : List (Option Inclusion)) → AllByRecursion (CanBeShown (scope_of p d) (bound_in p)) qs → AllByRecursion (CanBeShown (scope_of p e) (bound_in p)) qs
        to_all [] a = tt
        to_all (q ∷ qs) a = (shown_to q a.0, to_all qs a.1)

  pub one_line : AreThere p → (d e : Derivation) → IsMade p d → IsMade p e → (l m : ℕ) → HasUnshown p d steps l → HasUnshown p e steps m → l ≡ m
  one_line there d e made other l m h k =
      let same = one_needs d e h.run k.run (one_written there d e made other) in
      one_unshown (scope_of p d) (scope_of p e) (bound_in p) (shown_to there d e made other) (shown_to there e d other made) (needs (written_typing p e) k.run.config k.run.interfaces) l m
      (subst (λ qs. IsFirstUnshown (scope_of p d) (bound_in p) qs l) same h.first) k.first

-- ---- the text of a program alone

module _ (steps : ℕ) (bytes : List ℕ) (texts : front.OneAnswer bytes) (one : typecheck.OneVerdict bytes) (interfaces : InterfacesThere) where
  formed : (a : IsAcceptedText bytes) → WellFormed a.program
  formed a = let q = is_resolved bytes a.tree a.program (places a.tree) a.spelled refl in q.well_formed

  -- a line that is unshown by another derivation, of the program as it was read at first
  abbrev Unshows : ℕ → Program → Type 0
  Unshows line p = (d : Derivation) × IsMade p d × HasUnshown p d steps line

  as_read : (a b : IsAcceptedText bytes) (line : ℕ) → HasUnshown b.program b.derivation steps line → Unshows line a.program
  as_read a b line h = subst (Unshows line) (texts.one_program b.tree a.tree b.program a.program b.spelled a.spelled) (b.derivation, b.made, h)

  abbrev IsUnshownLine : Verdict → List ℕ → Type 0
  IsUnshownLine v out = (n : ℕ) × (v ≡ Unshown n) × IsUnshownRun steps bytes n × (out ≡ line_of_verdict v)

  pub run_not_both : (out line : List ℕ) (v : Verdict) → IsWrittenRun steps bytes out → IsRunRefusal steps bytes v line → ⊥
  run_not_both out line v (a, shows) refusal =
      ⊎_elim
      (λ (why : IsCheckRefusal bytes v line). one.not_both v line a why)
      (λ (why : IsUnshownLine v line).
      let unshown = why.2 in
      let other = as_read a unshown.0 why.0 unshown.1 in
      not_unshown a.program steps (interfaces a.program (formed a)) a.derivation other.0 a.made other.1 out why.0 shows other.2)
      refusal

  pub run_verdict : (v w : Verdict) (l m : List ℕ) → IsRunRefusal steps bytes v l → IsRunRefusal steps bytes w m → v ≡ w
  run_verdict v w l m h k =
      ⊎_elim
      (λ (why : IsCheckRefusal bytes v l).
      ⊎_elim
      (λ (also : IsCheckRefusal bytes w m). one.one_verdict v w l m why also)
      (λ (also : IsUnshownLine w m). let unshown = also.2 in absurd (one.not_both v l unshown.0 why))
      k)
      (λ (why : IsUnshownLine v l).
      let unshown = why.2 in
      let a = unshown.0 in
      ⊎_elim
      (λ (also : IsCheckRefusal bytes w m). absurd (one.not_both w m a also))
      (λ (also : IsUnshownLine w m).
      let second = also.2 in
      let other = as_read a second.0 also.0 second.1 in
      why.1 ∙ ap Unshown (one_line a.program steps (interfaces a.program (formed a)) a.derivation other.0 a.made other.1 why.0 also.0 unshown.1 other.2) ∙ sym also.1)
      k)
      h

-- ---- a history behind a checkpoint

-- line n is the first of where the history leads that can't be shown
abbrev UnshowsAt : Program → Derivation → Checkpoint → List Entry → Config → ℕ → Type 0
UnshowsAt p d x es c n = IsFirstUnshown (scope_of p d) (bound_in p) (lines_need p (written_typing p d) (interface_at c.live (interfaces_after_history p x es c)) c) n

module _ (bytes : List ℕ) (piece : OnePiece bytes) where
  -- wherever the bytes lead, it is there
  moved : (l k : LeadsFrom bytes) (n : ℕ) → UnshowsAt k.program k.shown k.from k.entries k.config n → UnshowsAt l.program l.shown l.from l.entries l.config n
  moved l k n h =
      let same = piece.same k.program l.program k.shown l.shown k.from l.from k.entries l.entries k.config l.config k.replays l.replays in
      subst (λ c. UnshowsAt l.program l.shown l.from l.entries c n) same.4
      (subst (λ es. UnshowsAt l.program l.shown l.from es k.config n) same.3
      (subst (λ x. UnshowsAt l.program l.shown x k.entries k.config n) same.2
      (subst (λ d. UnshowsAt l.program d k.from k.entries k.config n) same.1
      (subst (λ p. UnshowsAt p k.shown k.from k.entries k.config n) same.0 h))))

  piece_shown : (out : List ℕ) (n : ℕ) → IsWrittenPiece bytes out → IsUnshownPiece bytes n → ⊥
  piece_shown out n w u =
      let l = w.leads in
      none_unshown (scope_of l.program l.shown) (bound_in l.program) (lines_need l.program (written_typing l.program l.shown) (interface_at l.config.live (interfaces_after_history l.program l.from l.entries l.config)) l.config) n
      w.written.showable (moved l u.leads n u.first)

  piece_line : (n m : ℕ) → IsUnshownPiece bytes n → IsUnshownPiece bytes m → n ≡ m
  piece_line n m u w =
      let l = u.leads in
      let s = scope_of l.program l.shown in
      one_unshown s s (bound_in l.program) (λ q h. h) (λ q h. h) (lines_need l.program (written_typing l.program l.shown) (interface_at l.config.live (interfaces_after_history l.program l.from l.entries l.config)) l.config) n m
      u.first (moved l w.leads m w.first)

  abbrev IsUnshownIn : Verdict → Type 0
  IsUnshownIn v = (n : ℕ) × (v ≡ Unshown n) × IsUnshownPiece bytes n

  -- what leads somewhere is replayed
  not_replayed : (l : LeadsFrom bytes) (v : Verdict) → RefusesPiece bytes v → ⊥
  not_replayed l v r = piece.not_both l.program l.shown l.from l.entries l.config v l.replays r

  pub piece_not_both : (out line : List ℕ) (v : Verdict) → IsWrittenPiece bytes out → IsPieceRefusal bytes v line → ⊥
  piece_not_both out line v w r =
      ⊎_elim (λ (why : RefusesPiece bytes v). not_replayed w.leads v why) (λ (why : IsUnshownIn v). piece_shown out why.0 w why.2) r.0

  pub piece_verdict : (v w : Verdict) (l m : List ℕ) → IsPieceRefusal bytes v l → IsPieceRefusal bytes w m → v ≡ w
  piece_verdict v w l m h k =
      ⊎_elim
      (λ (why : RefusesPiece bytes v).
      ⊎_elim
      (λ (also : RefusesPiece bytes w). piece.one_refusal v w why also)
      (λ (also : IsUnshownIn w). let unshown = also.2 in absurd (not_replayed unshown.leads v why))
      k.0)
      (λ (why : IsUnshownIn v).
      ⊎_elim
      (λ (also : RefusesPiece bytes w). let unshown = why.2 in absurd (not_replayed unshown.leads w also))
      (λ (also : IsUnshownIn w). why.1 ∙ ap Unshown (piece_line why.0 also.0 why.2 also.2) ∙ sym also.1)
      k.0)
      h.0

  -- a refusal of a piece is one of a piece
  pub refuses_piece : (v : Verdict) (line : List ℕ) → IsNoPiece bytes → IsPieceRefusal bytes v line → ⊥
  refuses_piece v line none r =
      ⊎_elim
      (λ (why : RefusesPiece bytes v). none why.head why.history why.piece)
      (λ (why : IsUnshownIn v). let unshown = why.2 in let goes = unshown.leads.replays in none goes.head goes.history goes.piece)
      r.0

  pub piece_refused : (p : Program) (d : Derivation) (x : Checkpoint) (es : List Entry) (c : Config) (line : List ℕ) (v : Verdict) → ReplaysPiece bytes p d x es c → ((n : ℕ) → IsUnshownPiece bytes n → ⊥) → IsPieceRefusal bytes v line → ⊥
  piece_refused p d x es c line v replays shown r =
      ⊎_elim (λ (why : RefusesPiece bytes v). piece.not_both p d x es c v replays why) (λ (why : IsUnshownIn v). shown why.0 why.2) r.0

-- ---- bytes

-- the text of a program is no piece
no_piece : (bytes : List ℕ) (t : Tree) (p : Program) → IsProgramText bytes t p → IsNoPiece bytes
no_piece bytes t p spelled head history piece = no_mark marker (codes "%history") bytes head history p refl (t, spelled) piece.marked

module _ (steps : ℕ) (bytes : List ℕ) (texts : front.OneAnswer bytes) (one : typecheck.OneVerdict bytes) (interfaces : InterfacesThere) (piece : OnePiece bytes) where
  abbrev WritesRun : List ℕ → Type 0
  WritesRun out = IsNoPiece bytes × IsWrittenRun steps bytes out

  abbrev RefusesRun : Verdict → List ℕ → Type 0
  RefusesRun v line = IsNoPiece bytes × IsRunRefusal steps bytes v line

  not_both : (out line : List ℕ) (v : Verdict) → IsWritten steps bytes out → IsCheckpointRefusal steps bytes v line → ⊥
  not_both out line v w r =
      ⊎_elim
      (λ (own : WritesRun out).
      ⊎_elim (λ (why : RefusesRun v line). run_not_both steps bytes texts one interfaces out line v own.1 why.1) (λ (why : IsPieceRefusal bytes v line). refuses_piece bytes piece v line own.0 why) r)
      (λ (own : IsWrittenPiece bytes out).
      ⊎_elim
      (λ (why : RefusesRun v line). let leads = own.leads in let goes = leads.replays in why.0 goes.head goes.history goes.piece)
      (λ (why : IsPieceRefusal bytes v line). piece_not_both bytes piece out line v own why)
      r)
      w

  one_verdict : (v w : Verdict) (l m : List ℕ) → IsCheckpointRefusal steps bytes v l → IsCheckpointRefusal steps bytes w m → v ≡ w
  one_verdict v w l m h k =
      ⊎_elim
      (λ (why : RefusesRun v l).
      ⊎_elim (λ (also : RefusesRun w m). run_verdict steps bytes texts one interfaces v w l m why.1 also.1) (λ (also : IsPieceRefusal bytes w m). absurd (refuses_piece bytes piece w m why.0 also)) k)
      (λ (why : IsPieceRefusal bytes v l).
      ⊎_elim (λ (also : RefusesRun w m). absurd (refuses_piece bytes piece v l also.0 why)) (λ (also : IsPieceRefusal bytes w m). piece_verdict bytes piece v w l m why also) k)
      h

  not_refused : (t : Tree) (p : Program) (line : List ℕ) (v : Verdict) → IsProgramText bytes t p → ((other : List ℕ) → IsCheckRefusal bytes v other → ⊥) → ((n : ℕ) → IsUnshown steps bytes n → ⊥) → IsCheckpointRefusal steps bytes v line → ⊥
  not_refused t p line v spelled accepted shown r =
      ⊎_elim
      (λ (why : RefusesRun v line).
      ⊎_elim
      (λ (check : IsCheckRefusal bytes v line). accepted line check)
      (λ (unshown : (n : ℕ) × (v ≡ Unshown n) × IsUnshownRun steps bytes n × (line ≡ line_of_verdict v)). shown unshown.0 (inl (why.0, unshown.2)))
      why.1)
      (λ (why : IsPieceRefusal bytes v line). refuses_piece bytes piece v line (no_piece bytes t p spelled) why)
      r

  piece_stands : (p : Program) (d : Derivation) (x : Checkpoint) (es : List Entry) (c : Config) (line : List ℕ) (v : Verdict) → ReplaysPiece bytes p d x es c → ((n : ℕ) → IsUnshown steps bytes n → ⊥) → IsCheckpointRefusal steps bytes v line → ⊥
  piece_stands p d x es c line v replays shown r =
      ⊎_elim
      (λ (why : RefusesRun v line). why.0 replays.head replays.history replays.piece)
      (λ (why : IsPieceRefusal bytes v line). piece_refused bytes piece p d x es c line v replays (λ n u. shown n (inr u)) why)
      r

  pub one_answer : OneAnswer steps bytes
  one_answer = record { not_both = not_both; one_verdict = one_verdict; not_refused = not_refused; piece_stands = piece_stands }

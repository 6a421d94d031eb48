-- What suits a command is answered by a status of its own.
use Rattle.std.proofs.Common.{◌≡◌, ◌≤◌, ◌⊎◌, ℕ, List, [], ◌++◌, length, Option, Some, None, refl, sym, ap, ◌∙◌, subst, inl, inr, ⊎_elim, arith}
use Rattle.std.specs.Prelude.{◌≢◌}
use Rattle.std.proofs.lemmas.List.{append-nil, length-append}
use Rattle.pat_input.specs.Inputs.{IsInputWithin}
use Rattle.pat_load.specs.LoadText.{load_text}
use Rattle.pat_front.specs.Laws as front
use Rattle.pat_front.specs.declared.verdict.Verdict.{Verdict}
use Rattle.pat_front.specs.declared.exit_answers.status.Status.{Status}
use Rattle.pat_front.specs.declared.exit_answers.status.Status.TheVariants.{Ok, Refused, Usage, ReadFault, WriteFault, NoMemory, Budget, Waiting, Full}
use Rattle.pat_run.specs.declared.options.options.RunOptions.{RunOptions}
use Rattle.pat_command_check.specs.Laws.{NeverRefused}
use Rattle.pat_command_check.specs.Inputs.{IsCheckRefusal}
use Rattle.pat_command_check.specs.Typable.{HasTypable}
use Rattle.pat_command_verify.specs.Answers as verify
use Rattle.pat_command_replay.specs.Answers as replay
use Rattle.pat_command_checkpoint.specs.Pieces.{HasPiece}
use Rattle.pat_command_order.specs.Answers as order
use Rattle.pat_command_resume.specs.Answers as resume
use Rattle.pat_command_checkpoint.specs.Answers as checkpoint
use Rattle.pat_session.specs.declared.words.Command.{Command}
use Rattle.pat_session.specs.declared.words.Command.TheVariants.{Check, Derive, Print, Run, Replay, Order, Verify, Checkpoint, Resume, Load, Help}
use Rattle.pat_session.specs.Allowed.{IsCommand, HasInput, Takes, AllowedTo, limit_of}
use Rattle.pat_session.specs.Answers.{Answers}
use Rattle.pat_session.specs.Complete.{HasHistory, Suits, IsOwn, IsComplete}
use Rattle.pat_session.proofs.OneCommand.{one_command}

-- ---- the bytes that are read

-- what is at most the limit is read whole
all_read : (most : ℕ) (bytes read : List ℕ) (left : Option (List ℕ)) → length bytes ≤ most → IsInputWithin most (Some bytes) left read → read ≡ bytes
all_read most bytes read None small input = absurd input.taken
all_read most bytes read (Some rest) small input =
    let taken : bytes ≡ read ++ rest = input.taken in
    let sizes = ap length taken ∙ length-append read rest in
    let none : rest ≡ [] = input.all (omega (arith, sizes, small)) in
    sym (taken ∙ ap (λ l. read ++ l) none ∙ append-nil read)

-- what suits a command is small enough
suits_small : (c : Command) (bytes : List ℕ) → HasInput c → Suits c bytes → length bytes ≤ limit_of c
suits_small Check bytes has s = s.spelled.tree.small
suits_small Derive bytes has s = s.spelled.tree.small
suits_small Print bytes has s = s.spelled.tree.small
suits_small (Run o) bytes has s = s.spelled.tree.small
suits_small Replay bytes has s = ⊎_elim (λ (h : HasHistory bytes). h.replays.has.small) (λ (h : HasPiece bytes). h.replays.piece.small) s
suits_small Order bytes has s = s.0.replays.has.small
suits_small Verify bytes has s = s.has.small
suits_small (Checkpoint n) bytes has s =
    ⊎_elim (λ (h : HasTypable bytes). let few = h.spelled.tree.small in omega (arith, few)) (λ (h : HasPiece bytes). h.replays.piece.small) s.0
suits_small (Resume n) bytes has s = s.parts.has.has.small
suits_small (Load n o) bytes has s = absurd has
suits_small Help bytes has s = absurd has

reads_within : (c : Command) (had left : Option (List ℕ)) (read : List ℕ) → HasInput c → Takes c had left read → IsInputWithin (limit_of c) had left read
reads_within Check had left read has input = input
reads_within Derive had left read has input = input
reads_within Print had left read has input = input
reads_within (Run o) had left read has input = input
reads_within Replay had left read has input = input
reads_within Order had left read has input = input
reads_within Verify had left read has input = input
reads_within (Checkpoint n) had left read has input = input
reads_within (Resume n) had left read has input = input
reads_within (Load n o) had left read has input = absurd has
reads_within Help had left read has input = absurd has

module _ (bytes read : List ℕ) (had left : Option (List ℕ)) where
  -- so the command reads all of it
  read_is : (c : Command) → HasInput c → (HasInput c → had ≡ Some bytes) → Suits c bytes → Takes c had left read → bytes ≡ read
  read_is c has told suits input =
      let within = subst (λ h. IsInputWithin (limit_of c) h left read) (told has) (reads_within c had left read has input) in
      sym (all_read (limit_of c) bytes read left (suits_small c bytes has suits) within)

  -- a command without an input is suited whatever the bytes are
  suits_read : (c : Command) → (HasInput c → had ≡ Some bytes) → Suits c bytes → Takes c had left read → Suits c read
  suits_read Check told suits input = subst (Suits Check) (read_is Check tt told suits input) suits
  suits_read Derive told suits input = subst (Suits Derive) (read_is Derive tt told suits input) suits
  suits_read Print told suits input = subst (Suits Print) (read_is Print tt told suits input) suits
  suits_read (Run o) told suits input = subst (Suits (Run o)) (read_is (Run o) tt told suits input) suits
  suits_read Replay told suits input = subst (Suits Replay) (read_is Replay tt told suits input) suits
  suits_read Order told suits input = subst (Suits Order) (read_is Order tt told suits input) suits
  suits_read Verify told suits input = subst (Suits Verify) (read_is Verify tt told suits input) suits
  suits_read (Checkpoint n) told suits input = subst (Suits (Checkpoint n)) (read_is (Checkpoint n) tt told suits input) suits
  suits_read (Resume n) told suits input = subst (Suits (Resume n)) (read_is (Resume n) tt told suits input) suits
  suits_read (Load n o) told suits input = suits
  suits_read Help told suits input = suits

-- ---- statuses

-- neither a fault nor usage, neither a refusal nor want of memory
abbrev Succeeds : Status → Type 0
Succeeds Ok = Unit {0}
Succeeds Budget = Unit {0}
Succeeds Waiting = Unit {0}
Succeeds Full = Unit {0}
Succeeds _ = ⊥

run_own : (o : RunOptions) (s : Status) → Succeeds s → IsOwn (Run o) s
run_own o Ok good = tt
run_own o Budget good = tt
run_own o Waiting good = tt
run_own o Full good = tt
run_own o (Refused v) good = absurd good
run_own o Usage good = absurd good
run_own o ReadFault good = absurd good
run_own o WriteFault good = absurd good
run_own o NoMemory good = absurd good

resume_own : (n : ℕ) (bytes text : List ℕ) (s : Status) → Succeeds s → AllowedTo (Resume n) bytes text s → IsOwn (Resume n) s
resume_own n bytes text Ok good a = tt
resume_own n bytes text Budget good a = tt
resume_own n bytes text Waiting good a = tt
resume_own n bytes text Full good a = absurd a
resume_own n bytes text (Refused v) good a = absurd good
resume_own n bytes text Usage good a = absurd good
resume_own n bytes text ReadFault good a = absurd good
resume_own n bytes text WriteFault good a = absurd good
resume_own n bytes text NoMemory good a = absurd good

-- where a command answers one status alone, it is that
alone_own : (AllowedAt : Status → Type 0) (s : Status) → (AllowedAt Budget → ⊥) → (AllowedAt Waiting → ⊥) → (AllowedAt Full → ⊥) → Succeeds s → AllowedAt s → s ≡ Ok
alone_own AllowedAt Ok b w f good a = refl
alone_own AllowedAt Budget b w f good a = absurd (b a)
alone_own AllowedAt Waiting b w f good a = absurd (w a)
alone_own AllowedAt Full b w f good a = absurd (f a)
alone_own AllowedAt (Refused v) b w f good a = absurd good
alone_own AllowedAt Usage b w f good a = absurd good
alone_own AllowedAt ReadFault b w f good a = absurd good
alone_own AllowedAt WriteFault b w f good a = absurd good
alone_own AllowedAt NoMemory b w f good a = absurd good

own : (c : Command) (bytes text : List ℕ) (s : Status) → Succeeds s → AllowedTo c bytes text s → IsOwn c s
own Check bytes text s good a = alone_own (AllowedTo Check bytes text) s (λ k. k) (λ k. k) (λ k. k) good a
own Derive bytes text s good a = alone_own (AllowedTo Derive bytes text) s (λ k. k) (λ k. k) (λ k. k) good a
own Print bytes text s good a = alone_own (AllowedTo Print bytes text) s (λ k. k) (λ k. k) (λ k. k) good a
own (Run o) bytes text s good a = run_own o s good
own Replay bytes text s good a = alone_own (AllowedTo Replay bytes text) s (λ k. k) (λ k. k) (λ k. k) good a
own Order bytes text s good a = alone_own (AllowedTo Order bytes text) s (λ k. k) (λ k. k) (λ k. k) good a
own Verify bytes text s good a = alone_own (AllowedTo Verify bytes text) s (λ k. k) (λ k. k) (λ k. k) good a
own (Checkpoint n) bytes text s good a = alone_own (AllowedTo (Checkpoint n) bytes text) s (λ k. k) (λ k. k) (λ k. k) good a
own (Resume n) bytes text s good a = resume_own n bytes text s good a
own (Load n o) bytes text s good a = run_own o s good
own Help bytes text s good a = a.0

-- ---- refusals

module _ (never : NeverRefused) (texts : (bytes : List ℕ) → front.OneAnswer bytes) (verifies : (bytes : List ℕ) → verify.OneAnswer bytes) (replays : (bytes : List ℕ) → replay.OneAnswer bytes) (orders : (bytes : List ℕ) → order.OneAnswer bytes) (resumes : (bytes : List ℕ) → resume.OneAnswer bytes) (checkpoints : (steps : ℕ) (bytes : List ℕ) → checkpoint.OneAnswer steps bytes) where
  typable_stands : (bytes line : List ℕ) (v : Verdict) → HasTypable bytes → IsCheckRefusal bytes v line → ⊥
  typable_stands bytes line v s r = never bytes line s.tree s.program v s.spelled s.in_bounds s.usable s.typable r

  -- what suits a command isn't refused
  stands : (c : Command) (bytes text : List ℕ) (v : Verdict) → Suits c bytes → AllowedTo c bytes text (Refused v) → ⊥
  stands Check bytes text v s a = typable_stands bytes text v s a
  stands Derive bytes text v s a = typable_stands bytes text v s a
  stands Print bytes text v s a = (texts bytes).not_both v s.tree s.program a.0 s.spelled
  stands (Run o) bytes text v s a = typable_stands bytes text v s a
  stands Replay bytes text v s a =
      ⊎_elim
      (λ (h : HasHistory bytes). (replays bytes).not_refused h.program h.entries h.config v h.replays a.0)
      (λ (h : HasPiece bytes). (replays bytes).piece_stands h.program h.shown h.from h.entries h.config v h.replays a.0)
      s
  stands Order bytes text v s a = (orders bytes).not_refused s.0.program s.0.entries s.0.config v s.0.replays s.1 a.0
  stands Verify bytes text v s a = (verifies bytes).not_refused v s a.0
  stands (Checkpoint n) bytes text v s a =
      ⊎_elim
      (λ (h : HasTypable bytes).
      (checkpoints n bytes).not_refused h.tree h.program text v h.spelled (λ line r. typable_stands bytes line v h r) s.1 a)
      (λ (h : HasPiece bytes). (checkpoints n bytes).piece_stands h.program h.shown h.from h.entries h.config text v h.replays s.1 a)
      s.0
  stands (Resume n) bytes text v s a = (resumes bytes).not_refused v s a.0
  stands (Load n o) bytes text v s a = typable_stands (load_text n) text v s a
  stands Help bytes text v s a = let clash : Refused v ≡ Ok = a.0 in cc

  module _ (words : List (List ℕ)) (had left old new : Option (List ℕ)) (c : Command) (bytes : List ℕ) (command : IsCommand c words) (told : HasInput c → had ≡ Some bytes) (suits : Suits c bytes) where
    allowed_to : (s : Status) (d : Command) (read text : List ℕ) → IsCommand d words → AllowedTo d read text s → AllowedTo c read text s
    allowed_to s d read text other a = subst (λ e. AllowedTo e read text s) (one_command words d c other command) a

    -- what succeeded is the command's own
    owned : (s : Status) (read text : List ℕ) → ((d : Command) × IsCommand d words × AllowedTo d read text s) → Succeeds s → IsOwn c s
    owned s read text a good = own c read text s good (allowed_to s a.0 read text a.1 a.2)

    -- and nothing is refused
    unrefused : (v : Verdict) (read text : List ℕ) → Takes c had left read → ((d : Command) × IsCommand d words × AllowedTo d read text (Refused v)) → ⊥
    unrefused v read text input a = stands c read text v (suits_read bytes read had left c told suits input) (allowed_to (Refused v) a.0 read text a.1 a.2)

    answered : (s : Status) → Answers words had left old new s → s ≢ ReadFault → s ≢ WriteFault → IsOwn c s ⊎ (s ≡ NoMemory)
    answered Ok a reads writes = inl (owned Ok a.bytes a.text a.allowed tt)
    answered Budget a reads writes = inl (owned Budget a.bytes a.text a.allowed tt)
    answered Waiting a reads writes = inl (owned Waiting a.bytes a.text a.allowed tt)
    answered Full a reads writes = inl (owned Full a.bytes a.text a.allowed tt)
    answered (Refused v) a reads writes = absurd (unrefused v a.bytes a.text (a.input c command) a.allowed)
    answered Usage a reads writes = absurd (a.allowed.0 (c, command))
    answered ReadFault a reads writes = absurd (reads refl)
    answered WriteFault a reads writes = absurd (writes refl)
    answered NoMemory a reads writes = inr refl

  pub is_complete : IsComplete
  is_complete = λ words had left old new status call c bytes command told suits reads writes.
      answered words had.rest left.rest old.taken new.taken c bytes command told suits status call.output (λ e. reads (call.read.failed e)) (λ e. writes (call.write.failed e))

-- What an answer allows, and what follows from it.
use Rattle.std.proofs.Common.{◌≡◌, ◌≤◌, ◌<◌, ◌⊎◌, ℕ, List, [], length, Option, refl, sym, ap, subst, inl, inr, ⊎_elim, arith}
use Rattle.std.specs.Prelude.{◌≢◌}
use Rattle.std.specs.Io.KnownBytes.{Appends}
use Rattle.pat_ports.specs.Bytes.{AppendsFront}
use Rattle.pat_input.specs.Inputs.{IsInput, IsInputWithin, limit, whole_limit}
use Rattle.pat_load.specs.LoadText.{load_text}
use Rattle.pat_front.specs.declared.verdict.Verdict.{Verdict}
use Rattle.pat_front.specs.declared.verdict.Verdict.TheVariants.{TooLong, Syntax, NumberTooWide, TooDeep, Resolve, BadText, Rejected, RefusedAt, TooManyEntries, Unshown, BadCheckpoint, Unaccepted}
use Rattle.pat_front.specs.declared.exit_answers.status.Status.{Status}
use Rattle.pat_front.specs.declared.exit_answers.status.Status.TheVariants.{Ok, Refused, Usage, ReadFault, WriteFault, NoMemory, Budget, Waiting, Full}
use Rattle.pat_session.specs.declared.words.Command.{Command}
use Rattle.pat_session.specs.declared.words.Command.TheVariants.{Check, Derive, Print, Run, Replay, Order, Verify, Checkpoint, Resume, Load, Help}
use Rattle.pat_session.specs.Ports.{IsCutShort, Written}
use Rattle.pat_front.specs.exit_answers.Answers.{IsStatusWithin}
use Rattle.pat_command_print.specs.Allowed.{AllowedPrint}
use Rattle.pat_command_print.proofs.Statuses.{print_status}
use Rattle.pat_run.specs.declared.options.options.RunOptions.{RunOptions}
use Rattle.pat_command_check.specs.Inputs.{IsAcceptedText}
use Rattle.pat_command_check.specs.Allowed.{AllowedCheck}
use Rattle.pat_command_check.proofs.Statuses.{check_status}
use Rattle.pat_command_derive.specs.Allowed.{AllowedDerive}
use Rattle.pat_command_derive.proofs.Statuses.{derive_status}
use Rattle.pat_command_run.specs.declared.command.Detail.TheVariants.{Whole, Summary}
use Rattle.pat_command_run.specs.Allowed.{RunShows, ShowsOne, AllowedRun}
use Rattle.pat_command_run.specs.load.Allowed.{AllowedLoad}
use Rattle.pat_command_run.proofs.LoadStatuses.{load_status, run_status}
use Rattle.pat_command_replay.specs.Allowed.{AllowedReplay}
use Rattle.pat_command_replay.proofs.Statuses.{replay_status}
use Rattle.pat_command_order.specs.Allowed.{AllowedOrder}
use Rattle.pat_command_order.proofs.Statuses.{order_status}
use Rattle.pat_command_verify.specs.Allowed.{AllowedVerify}
use Rattle.pat_command_verify.proofs.Statuses.{verify_status}
use Rattle.pat_command_checkpoint.specs.Allowed.{AllowedCheckpoint}
use Rattle.pat_command_checkpoint.proofs.Statuses.{checkpoint_status, written_small}
use Rattle.pat_command_resume.specs.Allowed.{IsResumption, AllowedResume}
use Rattle.pat_command_resume.proofs.Statuses.{resume_status}
use Rattle.pat_session.specs.Allowed.{IsCommand, HasCommand, HasInput, Takes, AllowedTo, limit_of, Allowed, usage_line}
use Rattle.pat_session.specs.Calls.{ReadsAll}
use Rattle.pat_session.specs.Answers.{Completes, BreaksOff, Begins, Answers, IsAccepted, WentOn, AcceptsSafe, ShowsChecked, ShowsDerived, ShowsLoad, ShowsRun, ShowsTree, ShowsReplay, ShowsOrder, ShowsVerified, ShowsCheckpoint, ShowsResumed, ShowsVerdict}
use Rattle.pat_session.proofs.OneCommand.{one_command}

-- ---- statuses

-- a status that a command may answer
abbrev IsCommands : Status → Type 0
IsCommands Usage = ⊥
IsCommands ReadFault = ⊥
IsCommands WriteFault = ⊥
IsCommands NoMemory = ⊥
IsCommands _ = Unit {0}

of_input : (most : ℕ) (bytes : List ℕ) (s : Status) → IsStatusWithin most bytes s → IsCommands s
of_input most bytes Ok is = tt
of_input most bytes Budget is = tt
of_input most bytes Waiting is = tt
of_input most bytes Full is = tt
of_input most bytes (Refused v) is = tt
of_input most bytes Usage is = absurd is
of_input most bytes ReadFault is = absurd is
of_input most bytes WriteFault is = absurd is
of_input most bytes NoMemory is = absurd is

of_ok : (s : Status) → s ≡ Ok → IsCommands s
of_ok s is = subst IsCommands (sym is) tt

-- what is allowed of a command has a command's status
command_status : (c : Command) (bytes text : List ℕ) (s : Status) → AllowedTo c bytes text s → IsCommands s
command_status Check bytes text s a = of_input limit bytes s (check_status bytes text s a)
command_status Derive bytes text s a = of_input limit bytes s (derive_status bytes text s a)
command_status Print bytes text s a = of_input limit bytes s (print_status bytes text s a)
command_status (Run o) bytes text s a = of_input limit bytes s (run_status Whole o bytes text s a)
command_status Replay bytes text s a = of_input whole_limit bytes s (replay_status bytes text s a)
command_status Order bytes text s a = of_input whole_limit bytes s (order_status bytes text s a)
command_status Verify bytes text s a = of_input whole_limit bytes s (verify_status bytes text s a)
command_status (Checkpoint n) bytes text s a = of_input whole_limit bytes s (checkpoint_status n bytes text s a)
command_status (Resume n) bytes text s a = of_input whole_limit bytes s (resume_status n bytes text s a)
command_status (Load n o) bytes text s a = of_input limit (load_text n) s (load_status n o text s a)
command_status Help bytes text s a = of_ok s a.0

-- and where the command has an input, the status is one that its bytes allow
pub input_status : (c : Command) (bytes text : List ℕ) (s : Status) → HasInput c → AllowedTo c bytes text s → IsStatusWithin (limit_of c) bytes s
input_status Check bytes text s has a = check_status bytes text s a
input_status Derive bytes text s has a = derive_status bytes text s a
input_status Print bytes text s has a = print_status bytes text s a
input_status (Run o) bytes text s has a = run_status Whole o bytes text s a
input_status Replay bytes text s has a = replay_status bytes text s a
input_status Order bytes text s has a = order_status bytes text s a
input_status Verify bytes text s has a = verify_status bytes text s a
input_status (Checkpoint n) bytes text s has a = checkpoint_status n bytes text s a
input_status (Resume n) bytes text s has a = resume_status n bytes text s a
input_status (Load n o) bytes text s has a = absurd has
input_status Help bytes text s has a = absurd has

-- so it is no fault
pub not_a_write_fault : (c : Command) (bytes text : List ℕ) (s : Status) → AllowedTo c bytes text s → s ≡ WriteFault → ⊥
not_a_write_fault c bytes text s a e = command_status c bytes text WriteFault (subst (λ k. AllowedTo c bytes text k) e a)

pub not_a_read_fault : (c : Command) (bytes text : List ℕ) (s : Status) → AllowedTo c bytes text s → s ≡ ReadFault → ⊥
not_a_read_fault c bytes text s a e = command_status c bytes text ReadFault (subst (λ k. AllowedTo c bytes text k) e a)

-- an answer for which the whole input was read has bytes that are few enough
pub reads_small : (most : ℕ) (bytes : List ℕ) (s : Status) → IsStatusWithin most bytes s → ReadsAll s → length bytes ≤ most
reads_small most bytes Ok small all = small
reads_small most bytes Budget small all = small
reads_small most bytes Waiting small all = small
reads_small most bytes Full small all = small
reads_small most bytes (Refused v) small all = small all
reads_small most bytes Usage small all = absurd small
reads_small most bytes ReadFault small all = absurd small
reads_small most bytes WriteFault small all = absurd small
reads_small most bytes NoMemory small all = absurd small

is_too_long : (v : Verdict) → (v ≡ TooLong) ⊎ (v ≢ TooLong)
is_too_long TooLong = inl refl
is_too_long (Syntax n) = inr (λ e. let clash : Syntax n ≡ TooLong = e in cc)
is_too_long (NumberTooWide n) = inr (λ e. let clash : NumberTooWide n ≡ TooLong = e in cc)
is_too_long (TooDeep n) = inr (λ e. let clash : TooDeep n ≡ TooLong = e in cc)
is_too_long (Resolve k s) = inr (λ e. let clash : Resolve k s ≡ TooLong = e in cc)
is_too_long (BadText n) = inr (λ e. let clash : BadText n ≡ TooLong = e in cc)
is_too_long (Rejected n r) = inr (λ e. let clash : Rejected n r ≡ TooLong = e in cc)
is_too_long (RefusedAt n) = inr (λ e. let clash : RefusedAt n ≡ TooLong = e in cc)
is_too_long TooManyEntries = inr (λ e. let clash : TooManyEntries ≡ TooLong = e in cc)
is_too_long (Unshown n) = inr (λ e. let clash : Unshown n ≡ TooLong = e in cc)
is_too_long (BadCheckpoint r) = inr (λ e. let clash : BadCheckpoint r ≡ TooLong = e in cc)
is_too_long (Unaccepted r) = inr (λ e. let clash : Unaccepted r ≡ TooLong = e in cc)

-- where the bytes are too many, that is what is answered
pub says_too_long : (most : ℕ) (bytes : List ℕ) (s : Status) → IsStatusWithin most bytes s → most < length bytes → s ≡ Refused TooLong
says_too_long most bytes Ok small large = absurd (omega (arith, small, large))
says_too_long most bytes Budget small large = absurd (omega (arith, small, large))
says_too_long most bytes Waiting small large = absurd (omega (arith, small, large))
says_too_long most bytes Full small large = absurd (omega (arith, small, large))
says_too_long most bytes (Refused v) small large =
    ⊎_elim
    (λ (e : v ≡ TooLong). ap (λ (w : Verdict). Refused w) e)
    (λ (other : v ≢ TooLong). let within = small other in absurd (omega (arith, within, large)))
    (is_too_long v)
says_too_long most bytes Usage small large = absurd small
says_too_long most bytes ReadFault small large = absurd small
says_too_long most bytes WriteFault small large = absurd small
says_too_long most bytes NoMemory small large = absurd small

-- what is allowed of a command is allowed of its words
pub of_command : (words : List (List ℕ)) (c : Command) (bytes text : List ℕ) (s : Status) → IsCommand c words → AllowedTo c bytes text s → Allowed words bytes text s
of_command words c bytes text Ok command a = (c, command, a)
of_command words c bytes text (Refused v) command a = (c, command, a)
of_command words c bytes text Usage command a = absurd (command_status c bytes text Usage a)
of_command words c bytes text ReadFault command a = (c, command, a)
of_command words c bytes text WriteFault command a = (c, command, a)
of_command words c bytes text NoMemory command a = (c, command, a)
of_command words c bytes text Budget command a = (c, command, a)
of_command words c bytes text Waiting command a = (c, command, a)
of_command words c bytes text Full command a = (c, command, a)

module _ (words : List (List ℕ)) (had left old new : Option (List ℕ)) where
  -- the input is that of the command, whichever the words are
  same_input : (c : Command) (bytes : List ℕ) → Takes c had left bytes → IsCommand c words → (d : Command) → IsCommand d words → Takes d had left bytes
  same_input c bytes input command d other = subst (λ e. Takes e had left bytes) (one_command words c d command other) input

  -- what was written whole is answered
  completed : (s : Status) → Completes words had left old new s → Answers words had left old new s
  completed Ok c = c
  completed (Refused v) c = c
  completed Usage c = c
  completed Budget c = c
  completed Waiting c = c
  completed Full c = c
  completed ReadFault c = let a = c.allowed in absurd (command_status a.0 c.bytes c.text ReadFault a.2)
  completed WriteFault c = let a = c.allowed in absurd (command_status a.0 c.bytes c.text WriteFault a.2)
  completed NoMemory c = let a = c.allowed in absurd (command_status a.0 c.bytes c.text NoMemory a.2)

  -- what was written, whole or not, is answered
  answered : (bytes text : List ℕ) (s result : Status) → ((c : Command) → IsCommand c words → Takes c had left bytes) → Allowed words bytes text s → Written old new text s result → Answers words had left old new result
  answered bytes text s result input allowed written =
      ⊎_elim
      (λ (w : (result ≡ s) × Appends old new text). subst (λ k. Answers words had left old new k) (sym w.0) (completed s (record { bytes = bytes; text = text; input = input; allowed = allowed; written = w.1 })))
      (λ (w : (result ≡ WriteFault) × IsCutShort old new text). let cut : BreaksOff words had left old new = record { bytes = bytes; text = text; status = s; input = input; allowed = allowed; cut = w.1 } in subst (λ k. Answers words had left old new k) (sym w.0) cut)
      written

  pub answered_command : (c : Command) (bytes text : List ℕ) (s result : Status) → Takes c had left bytes → AllowedTo c bytes text s → Written old new text s result → IsCommand c words → Answers words had left old new result
  answered_command c bytes text s result input allowed written command =
      answered bytes text s result (same_input c bytes input command) (of_command words c bytes text s command allowed) written

  pub answered_usage : (result : Status) → (HasCommand words → ⊥) → Written old new usage_line Usage result → Answers words had left old new result
  answered_usage result none written = answered [] usage_line Usage result (λ c command. absurd (none (c, command))) (none, refl) written

  -- of what was written, a front was handed over
  pub begun_command : (c : Command) (bytes text : List ℕ) (s : Status) → Takes c had left bytes → AllowedTo c bytes text s → IsCommand c words → AppendsFront old new text → Begins words had left old new
  begun_command c bytes text s input allowed command begun = record { bytes = bytes; text = text; status = s; input = same_input c bytes input command; allowed = of_command words c bytes text s command allowed; begun = begun }

  pub begun_usage : (HasCommand words → ⊥) → AppendsFront old new usage_line → Begins words had left old new
  begun_usage none begun = record { bytes = []; text = usage_line; status = Usage; input = λ c command. absurd (none (c, command)); allowed = (none, refl); begun = begun }

  at_status : (s t : Status) → s ≡ t → Answers words had left old new s → Answers words had left old new t
  at_status s t e a = subst (λ k. Answers words had left old new k) e a

  -- usage is answered where the words are no command
  pub usage_only : (s : Status) → Answers words had left old new s → s ≡ Usage → HasCommand words → ⊥
  usage_only s a e = let c : Completes words had left old new Usage = at_status s Usage e a in c.allowed.0

  -- ---- check and derive

  is_check : (c : Command) (bytes text : List ℕ) (s : Status) → IsCommand Check words → IsCommand c words → AllowedTo c bytes text s → AllowedCheck bytes text s
  is_check c bytes text s check command a = subst (λ d. AllowedTo d bytes text s) (one_command words c Check command check) a

  -- what is checked has a valid derivation
  pub shows_checked : (s : Status) → Answers words had left old new s → IsCommand Check words → s ≡ Ok → ShowsChecked had left old new
  shows_checked s a check e =
      let c : Completes words had left old new Ok = at_status s Ok e a in
      let k = c.allowed in
      let shown = is_check k.0 c.bytes c.text Ok check k.1 k.2 in
      record {
        bytes = c.bytes;
        accepted = shown.0;
        input = c.input Check check;
        whole = (c.input Check check).all shown.0.spelled.tree.small;
        written = subst (λ l. Appends old new l) shown.1 c.written;
      }

  is_derive : (c : Command) (bytes text : List ℕ) (s : Status) → IsCommand Derive words → IsCommand c words → AllowedTo c bytes text s → AllowedDerive bytes text s
  is_derive c bytes text s derive command a = subst (λ d. AllowedTo d bytes text s) (one_command words c Derive command derive) a

  -- what is derived is the text of a valid derivation
  pub shows_derived : (s : Status) → Answers words had left old new s → IsCommand Derive words → s ≡ Ok → ShowsDerived had left old new
  shows_derived s a derive e =
      let c : Completes words had left old new Ok = at_status s Ok e a in
      let k = c.allowed in
      let shown = is_derive k.0 c.bytes c.text Ok derive k.1 k.2 in
      record {
        bytes = c.bytes;
        accepted = shown.0;
        input = c.input Derive derive;
        whole = (c.input Derive derive).all shown.0.spelled.tree.small;
        written = subst (λ l. Appends old new l) shown.1 c.written;
      }

  -- ---- run

  -- what is allowed of a run command is allowed of `run`
  is_run : (o : RunOptions) (c : Command) (bytes text : List ℕ) (s : Status) → IsCommand (Run o) words → IsCommand c words → AllowedTo c bytes text s → AllowedRun Whole o bytes text s
  is_run o c bytes text s run command a = subst (λ d. AllowedTo d bytes text s) (one_command words c (Run o) command run) a

  safe_input : (bytes : List ℕ) → IsInput had left bytes → (r : IsAcceptedText bytes) → AcceptsSafe had left
  safe_input bytes input r = record {
    bytes = bytes;
    tree = r.tree;
    program = r.program;
    input = input;
    whole = input.all r.spelled.tree.small;
    spelled = r.spelled;
    safe = r.safe;
  }

  shown_run : (o : RunOptions) (s : Status) (bytes text : List ℕ) → IsInput had left bytes → (r : IsAcceptedText bytes) → RunShows r.program Whole o text s → Appends old new text → ShowsRun o had left old new s
  shown_run o s bytes text input r shows written = record {
    bytes = bytes;
    tree = r.tree;
    program = r.program;
    text = text;
    input = input;
    whole = input.all r.spelled.tree.small;
    spelled = r.spelled;
    safe = r.safe;
    shown = shows;
    written = written;
  }

  -- what is accepted was run
  record WasRun (o : RunOptions) (s : Status) : Type 0 where
    bytes : List ℕ
    text : List ℕ
    input : IsInput had left bytes
    shows : ShowsOne Whole o bytes text s
    written : Appends old new text

  was_run : (o : RunOptions) (s : Status) → IsCommand (Run o) words → Answers words had left old new s → IsAccepted s → WasRun o s
  was_run o Ok run c is = let k = c.allowed in record { bytes = c.bytes; text = c.text; input = c.input (Run o) run; shows = is_run o k.0 c.bytes c.text Ok run k.1 k.2; written = c.written }
  was_run o Budget run c is = let k = c.allowed in record { bytes = c.bytes; text = c.text; input = c.input (Run o) run; shows = is_run o k.0 c.bytes c.text Budget run k.1 k.2; written = c.written }
  was_run o Waiting run c is = let k = c.allowed in record { bytes = c.bytes; text = c.text; input = c.input (Run o) run; shows = is_run o k.0 c.bytes c.text Waiting run k.1 k.2; written = c.written }
  was_run o Full run c is = let k = c.allowed in record { bytes = c.bytes; text = c.text; input = c.input (Run o) run; shows = is_run o k.0 c.bytes c.text Full run k.1 k.2; written = c.written }
  was_run o (Refused v) run c is = absurd is
  was_run o Usage run c is = absurd is
  was_run o ReadFault run c is = absurd is
  was_run o WriteFault run c is = absurd is
  was_run o NoMemory run c is = absurd is

  -- so it is safe
  pub accepts_safe : (s : Status) → Answers words had left old new s → (o : RunOptions) → IsCommand (Run o) words → IsAccepted s → AcceptsSafe had left
  accepts_safe s a o run is = let w = was_run o s run a is in safe_input w.bytes w.input w.shows.0

  -- and shows its run
  pub shows_run : (s : Status) → Answers words had left old new s → (o : RunOptions) → IsCommand (Run o) words → IsAccepted s → ShowsRun o had left old new s
  shows_run s a o run is = let w = was_run o s run a is in shown_run o s w.bytes w.text w.input w.shows.0 w.shows.1 w.written

  -- ---- load

  is_load : (n : ℕ) (o : RunOptions) (c : Command) (bytes text : List ℕ) (s : Status) → IsCommand (Load n o) words → IsCommand c words → AllowedTo c bytes text s → AllowedLoad n o text s
  is_load n o c bytes text s load command a = subst (λ d. AllowedTo d bytes text s) (one_command words c (Load n o) command load) a

  shown_load : (n : ℕ) (o : RunOptions) (s : Status) (text : List ℕ) → ShowsOne Summary o (load_text n) text s → Appends old new text → ShowsLoad n o old new s
  shown_load n o s text shows written = record { accepted = shows.0; text = text; shown = shows.1; written = written }

  -- what is accepted is a run of the generated program
  pub shows_load : (s : Status) → Answers words had left old new s → (n : ℕ) (o : RunOptions) → IsCommand (Load n o) words → IsAccepted s → ShowsLoad n o old new s
  shows_load Ok c n o load is = let k = c.allowed in shown_load n o Ok c.text (is_load n o k.0 c.bytes c.text Ok load k.1 k.2) c.written
  shows_load Budget c n o load is = let k = c.allowed in shown_load n o Budget c.text (is_load n o k.0 c.bytes c.text Budget load k.1 k.2) c.written
  shows_load Waiting c n o load is = let k = c.allowed in shown_load n o Waiting c.text (is_load n o k.0 c.bytes c.text Waiting load k.1 k.2) c.written
  shows_load Full c n o load is = let k = c.allowed in shown_load n o Full c.text (is_load n o k.0 c.bytes c.text Full load k.1 k.2) c.written
  shows_load (Refused v) c n o load is = absurd is
  shows_load Usage c n o load is = absurd is
  shows_load ReadFault c n o load is = absurd is
  shows_load WriteFault c n o load is = absurd is
  shows_load NoMemory c n o load is = absurd is

  -- A way a command to its own record: the fields differ, and what leads to them is alike.

  -- ---- replay

  is_replay : (c : Command) (bytes text : List ℕ) (s : Status) → IsCommand Replay words → IsCommand c words → AllowedTo c bytes text s → AllowedReplay bytes text s
  is_replay c bytes text s replay command a = subst (λ d. AllowedTo d bytes text s) (one_command words c Replay command replay) a

  -- what is replayed is the history that was read
  pub shows_replay : (s : Status) → Answers words had left old new s → IsCommand Replay words → s ≡ Ok → ShowsReplay had left old new
  shows_replay s a replay e =
      let c : Completes words had left old new Ok = at_status s Ok e a in
      let k = c.allowed in
      let own = is_replay k.0 c.bytes c.text Ok replay k.1 k.2 in
      let input = c.input Replay replay in
      record {
        bytes = c.bytes;
        text = c.text;
        input = input;
        whole = input.all (replay_status c.bytes c.text Ok own);
        replayed = own;
        written = c.written;
      }

  -- ---- order

  is_order : (c : Command) (bytes text : List ℕ) (s : Status) → IsCommand Order words → IsCommand c words → AllowedTo c bytes text s → AllowedOrder bytes text s
  is_order c bytes text s order command a = subst (λ d. AllowedTo d bytes text s) (one_command words c Order command order) a

  -- what is brought into order is the history that was read
  pub shows_order : (s : Status) → Answers words had left old new s → IsCommand Order words → s ≡ Ok → ShowsOrder had left old new
  shows_order s a order e =
      let c : Completes words had left old new Ok = at_status s Ok e a in
      let k = c.allowed in
      let own = is_order k.0 c.bytes c.text Ok order k.1 k.2 in
      let input = c.input Order order in
      record {
        bytes = c.bytes;
        text = c.text;
        input = input;
        whole = input.all own.replays.has.small;
        ordered = own;
        written = c.written;
      }

  -- ---- print

  is_print : (c : Command) (bytes text : List ℕ) (s : Status) → IsCommand Print words → IsCommand c words → AllowedTo c bytes text s → AllowedPrint bytes text s
  is_print c bytes text s print command a = subst (λ d. AllowedTo d bytes text s) (one_command words c Print command print) a

  -- what is printed is the canonical text
  pub shows_tree : (s : Status) → Answers words had left old new s → IsCommand Print words → s ≡ Ok → ShowsTree had left old new
  shows_tree s a print e =
      let c : Completes words had left old new Ok = at_status s Ok e a in
      let k = c.allowed in
      let shown = is_print k.0 c.bytes c.text Ok print k.1 k.2 in
      record {
        bytes = c.bytes;
        tree = shown.0;
        program = shown.1;
        input = c.input Print print;
        whole = (c.input Print print).all shown.2.tree.small;
        spelled = shown.2;
        written = subst (λ l. Appends old new l) shown.3 c.written;
      }

  -- ---- verify

  is_verify : (c : Command) (bytes text : List ℕ) (s : Status) → IsCommand Verify words → IsCommand c words → AllowedTo c bytes text s → AllowedVerify bytes text s
  is_verify c bytes text s verify command a = subst (λ d. AllowedTo d bytes text s) (one_command words c Verify command verify) a

  -- what is verified has a valid derivation
  pub shows_verified : (s : Status) → Answers words had left old new s → IsCommand Verify words → s ≡ Ok → ShowsVerified had left old new
  shows_verified s a verify e =
      let c : Completes words had left old new Ok = at_status s Ok e a in
      let k = c.allowed in
      let shown = is_verify k.0 c.bytes c.text Ok verify k.1 k.2 in
      record {
        bytes = c.bytes;
        verified = shown.0;
        input = c.input Verify verify;
        whole = (c.input Verify verify).all shown.0.has.small;
        written = subst (λ l. Appends old new l) shown.1 c.written;
      }

  -- ---- checkpoint and resume

  is_checkpoint : (n : ℕ) (c : Command) (bytes text : List ℕ) (s : Status) → IsCommand (Checkpoint n) words → IsCommand c words → AllowedTo c bytes text s → AllowedCheckpoint n bytes text s
  is_checkpoint n c bytes text s checkpoint command a = subst (λ d. AllowedTo d bytes text s) (one_command words c (Checkpoint n) command checkpoint) a

  -- what is written is where a run leads
  pub shows_checkpoint : (s : Status) → Answers words had left old new s → (n : ℕ) → IsCommand (Checkpoint n) words → s ≡ Ok → ShowsCheckpoint n had left old new
  shows_checkpoint s a n checkpoint e =
      let c : Completes words had left old new Ok = at_status s Ok e a in
      let k = c.allowed in
      let own = is_checkpoint n k.0 c.bytes c.text Ok checkpoint k.1 k.2 in
      let input = c.input (Checkpoint n) checkpoint in
      record {
        bytes = c.bytes;
        text = c.text;
        input = input;
        whole = input.all (written_small n c.bytes c.text own);
        shown = own;
        written = c.written;
      }

  is_resume : (n : ℕ) (c : Command) (bytes text : List ℕ) (s : Status) → IsCommand (Resume n) words → IsCommand c words → AllowedTo c bytes text s → AllowedResume n bytes text s
  is_resume n c bytes text s resume command a = subst (λ d. AllowedTo d bytes text s) (one_command words c (Resume n) command resume) a

  resumed : (n : ℕ) (s : Status) (bytes text : List ℕ) → IsInputWithin whole_limit had left bytes → IsResumption n bytes text s → Appends old new text → ShowsResumed n had left old new s
  resumed n s bytes text input own written = record {
    bytes = bytes;
    text = text;
    input = input;
    whole = input.all own.parts.has.has.small;
    resumed = own;
    written = written;
  }

  -- what goes on is the run from the checkpoint that was read
  pub shows_resumed : (s : Status) → Answers words had left old new s → (n : ℕ) → IsCommand (Resume n) words → WentOn s → ShowsResumed n had left old new s
  shows_resumed Ok c n resume is = let k = c.allowed in resumed n Ok c.bytes c.text (c.input (Resume n) resume) (is_resume n k.0 c.bytes c.text Ok resume k.1 k.2) c.written
  shows_resumed Budget c n resume is = let k = c.allowed in resumed n Budget c.bytes c.text (c.input (Resume n) resume) (is_resume n k.0 c.bytes c.text Budget resume k.1 k.2) c.written
  shows_resumed Waiting c n resume is = let k = c.allowed in resumed n Waiting c.bytes c.text (c.input (Resume n) resume) (is_resume n k.0 c.bytes c.text Waiting resume k.1 k.2) c.written
  shows_resumed Full c n resume is = absurd is
  shows_resumed (Refused v) c n resume is = absurd is
  shows_resumed Usage c n resume is = absurd is
  shows_resumed ReadFault c n resume is = absurd is
  shows_resumed WriteFault c n resume is = absurd is
  shows_resumed NoMemory c n resume is = absurd is

  -- ---- refusals

  -- a refusal is a verdict of the command
  pub shows_verdict : (s : Status) → Answers words had left old new s → (v : Verdict) → s ≡ Refused v → ShowsVerdict words had left old new v
  shows_verdict s a v e =
      let c : Completes words had left old new (Refused v) = at_status s (Refused v) e a in
      let k = c.allowed in
      record { bytes = c.bytes; line = c.text; command = k.0; asked = k.1; input = c.input k.0 k.1; refused = k.2; written = c.written }

-- What each command asks, and what it answers.
use Rattle.std.proofs.Common.{◌≤◌, ℕ, List, length, Option, Result, refl, sym, subst, arith}
use Rattle.std.specs.Prelude.{◌≢◌, IfOk, Vec}
use Rattle.std.specs.declared.alloc.Global.{Global}
use Rattle.pat_ports.specs.declared.reach.Reach.{Reach}
use Rattle.pat_ports.specs.Ends.{EndsThere}
use Rattle.pat_input.specs.declared.reading.Input.{Input}
use Rattle.pat_input.specs.declared.reading.Input.TheVariants.{TooLong}
use Rattle.pat_input.specs.Inputs.{IsInput, IsRead, limit}
use Rattle.pat_front.specs.declared.exit_answers.answer.Answer.{Answer}
use Rattle.pat_command_check.specs.Allowed.{AllowedCheck}
use Rattle.pat_command_derive.specs.Allowed.{AllowedDerive}
use Rattle.pat_command_print.specs.Allowed.{AllowedPrint}
use Rattle.pat_run.specs.declared.options.options.RunOptions.{RunOptions}
use Rattle.pat_run.specs.options.Options.{IsWithin}
use Rattle.pat_limits.specs.Limits.{most_steps}
use Rattle.pat_command_run.specs.declared.command.Detail.TheVariants.{Whole}
use Rattle.pat_command_run.specs.Allowed.{AllowedRun}
use Rattle.pat_command_run.specs.load.Allowed.{AllowedLoad}
use Rattle.pat_command_replay.specs.Allowed.{AllowedReplay}
use Rattle.pat_command_order.specs.Allowed.{AllowedOrder}
use Rattle.pat_command_verify.specs.Allowed.{AllowedVerify}
use Rattle.pat_command_checkpoint.specs.Allowed.{AllowedCheckpoint}
use Rattle.pat_command_resume.specs.Allowed.{AllowedResume}
use Rattle.pat_session.specs.declared.commands.Asked.{Asked}
use Rattle.pat_session.specs.declared.commands.Asked.TheVariants as asked
use Rattle.pat_session.specs.declared.words.Command.{Command}
use Rattle.pat_session.specs.declared.words.Command.TheVariants.{Check, Derive, Print, Run, Replay, Order, Verify, Checkpoint, Resume, Load, Help}
use Rattle.pat_session.specs.Allowed.{HasInput, Takes, AllowedTo, limit_of}
use Rattle.pat_session.specs.Asking.{Asks, IsAsked}

-- A lemma a command, since each names its own relation on answers; they differ in the one case that answers.

-- ---- what is answered

module _ {E : Type 0} (c : Command) (bytes : List ℕ) (r : Result Answer E) where
  pub of_check : (input : Input) → Asks c bytes (asked.Check input) → (IsRead bytes input → IfOk r (λ a. AllowedCheck bytes a.text.items a.status)) → IfOk r (λ a. AllowedTo c bytes a.text.items a.status)
  of_check input asks answer = go c asks
    where
      go : (d : Command) → Asks d bytes (asked.Check input) → IfOk r (λ a. AllowedTo d bytes a.text.items a.status)
      go Check h = answer h
      go Derive h = absurd h
      go Print h = absurd h
      go (Run o) h = absurd h
      go Replay h = absurd h
      go Order h = absurd h
      go Verify h = absurd h
      go (Checkpoint n) h = absurd h
      go (Resume n) h = absurd h
      go (Load n u) h = absurd h
      go Help h = absurd h

  pub of_derive : (input : Input) → Asks c bytes (asked.Derive input) → (IsRead bytes input → IfOk r (λ a. AllowedDerive bytes a.text.items a.status)) → IfOk r (λ a. AllowedTo c bytes a.text.items a.status)
  of_derive input asks answer = go c asks
    where
      go : (d : Command) → Asks d bytes (asked.Derive input) → IfOk r (λ a. AllowedTo d bytes a.text.items a.status)
      go Check h = absurd h
      go Derive h = answer h
      go Print h = absurd h
      go (Run o) h = absurd h
      go Replay h = absurd h
      go Order h = absurd h
      go Verify h = absurd h
      go (Checkpoint n) h = absurd h
      go (Resume n) h = absurd h
      go (Load n u) h = absurd h
      go Help h = absurd h

  pub of_print : (input : Input) → Asks c bytes (asked.Print input) → (IsRead bytes input → IfOk r (λ a. AllowedPrint bytes a.text.items a.status)) → IfOk r (λ a. AllowedTo c bytes a.text.items a.status)
  of_print input asks answer = go c asks
    where
      go : (d : Command) → Asks d bytes (asked.Print input) → IfOk r (λ a. AllowedTo d bytes a.text.items a.status)
      go Check h = absurd h
      go Derive h = absurd h
      go Print h = answer h
      go (Run o) h = absurd h
      go Replay h = absurd h
      go Order h = absurd h
      go Verify h = absurd h
      go (Checkpoint n) h = absurd h
      go (Resume n) h = absurd h
      go (Load n u) h = absurd h
      go Help h = absurd h

  pub of_run : (options : RunOptions) (input : Input) → Asks c bytes (asked.Run options input) → (IsRead bytes input → IfOk r (λ a. AllowedRun Whole options bytes a.text.items a.status)) → IfOk r (λ a. AllowedTo c bytes a.text.items a.status)
  of_run options input asks answer = go c asks
    where
      go : (d : Command) → Asks d bytes (asked.Run options input) → IfOk r (λ a. AllowedTo d bytes a.text.items a.status)
      go Check h = absurd h
      go Derive h = absurd h
      go Print h = absurd h
      go (Run o) h = subst (λ k. IfOk r (λ a. AllowedRun Whole k bytes a.text.items a.status)) (sym h.0) (answer h.2)
      go Replay h = absurd h
      go Order h = absurd h
      go Verify h = absurd h
      go (Checkpoint n) h = absurd h
      go (Resume n) h = absurd h
      go (Load n u) h = absurd h
      go Help h = absurd h

  pub of_replay : (read : Vec ℕ Global) → Asks c bytes (asked.Replay read) → IfOk r (λ a. AllowedReplay read.items a.text.items a.status) → IfOk r (λ a. AllowedTo c bytes a.text.items a.status)
  of_replay read asks answer = go c asks
    where
      go : (d : Command) → Asks d bytes (asked.Replay read) → IfOk r (λ a. AllowedTo d bytes a.text.items a.status)
      go Check h = absurd h
      go Derive h = absurd h
      go Print h = absurd h
      go (Run o) h = absurd h
      go Replay h = subst (λ l. IfOk r (λ a. AllowedReplay l a.text.items a.status)) h answer
      go Order h = absurd h
      go Verify h = absurd h
      go (Checkpoint n) h = absurd h
      go (Resume n) h = absurd h
      go (Load n u) h = absurd h
      go Help h = absurd h

  pub of_order : (read : Vec ℕ Global) → Asks c bytes (asked.Order read) → IfOk r (λ a. AllowedOrder read.items a.text.items a.status) → IfOk r (λ a. AllowedTo c bytes a.text.items a.status)
  of_order read asks answer = go c asks
    where
      go : (d : Command) → Asks d bytes (asked.Order read) → IfOk r (λ a. AllowedTo d bytes a.text.items a.status)
      go Check h = absurd h
      go Derive h = absurd h
      go Print h = absurd h
      go (Run o) h = absurd h
      go Replay h = absurd h
      go Order h = subst (λ l. IfOk r (λ a. AllowedOrder l a.text.items a.status)) h answer
      go Verify h = absurd h
      go (Checkpoint n) h = absurd h
      go (Resume n) h = absurd h
      go (Load n u) h = absurd h
      go Help h = absurd h

  pub of_verify : (read : Vec ℕ Global) → Asks c bytes (asked.Verify read) → IfOk r (λ a. AllowedVerify read.items a.text.items a.status) → IfOk r (λ a. AllowedTo c bytes a.text.items a.status)
  of_verify read asks answer = go c asks
    where
      go : (d : Command) → Asks d bytes (asked.Verify read) → IfOk r (λ a. AllowedTo d bytes a.text.items a.status)
      go Check h = absurd h
      go Derive h = absurd h
      go Print h = absurd h
      go (Run o) h = absurd h
      go Replay h = absurd h
      go Order h = absurd h
      go Verify h = subst (λ l. IfOk r (λ a. AllowedVerify l a.text.items a.status)) h answer
      go (Checkpoint n) h = absurd h
      go (Resume n) h = absurd h
      go (Load n u) h = absurd h
      go Help h = absurd h

  pub of_checkpoint : (steps : ℕ) (read : Vec ℕ Global) → Asks c bytes (asked.Checkpoint steps read) → IfOk r (λ a. AllowedCheckpoint steps read.items a.text.items a.status) → IfOk r (λ a. AllowedTo c bytes a.text.items a.status)
  of_checkpoint steps read asks answer = go c asks
    where
      go : (d : Command) → Asks d bytes (asked.Checkpoint steps read) → IfOk r (λ a. AllowedTo d bytes a.text.items a.status)
      go Check h = absurd h
      go Derive h = absurd h
      go Print h = absurd h
      go (Run o) h = absurd h
      go Replay h = absurd h
      go Order h = absurd h
      go Verify h = absurd h
      go (Checkpoint n) h =
          subst (λ k. IfOk r (λ a. AllowedCheckpoint k bytes a.text.items a.status)) (sym h.0)
          (subst (λ l. IfOk r (λ a. AllowedCheckpoint steps l a.text.items a.status)) h.2 answer)
      go (Resume n) h = absurd h
      go (Load n u) h = absurd h
      go Help h = absurd h

  pub of_resume : (steps : ℕ) (read : Vec ℕ Global) → Asks c bytes (asked.Resume steps read) → IfOk r (λ a. AllowedResume steps read.items a.text.items a.status) → IfOk r (λ a. AllowedTo c bytes a.text.items a.status)
  of_resume steps read asks answer = go c asks
    where
      go : (d : Command) → Asks d bytes (asked.Resume steps read) → IfOk r (λ a. AllowedTo d bytes a.text.items a.status)
      go Check h = absurd h
      go Derive h = absurd h
      go Print h = absurd h
      go (Run o) h = absurd h
      go Replay h = absurd h
      go Order h = absurd h
      go Verify h = absurd h
      go (Checkpoint n) h = absurd h
      go (Resume n) h =
          subst (λ k. IfOk r (λ a. AllowedResume k bytes a.text.items a.status)) (sym h.0)
          (subst (λ l. IfOk r (λ a. AllowedResume steps l a.text.items a.status)) h.2 answer)
      go (Load n u) h = absurd h
      go Help h = absurd h

  pub of_load : (size : ℕ) (options : RunOptions) → Asks c bytes (asked.Load size options) → IfOk r (λ a. AllowedLoad size options a.text.items a.status) → IfOk r (λ a. AllowedTo c bytes a.text.items a.status)
  of_load size options asks answer = go c asks
    where
      go : (d : Command) → Asks d bytes (asked.Load size options) → IfOk r (λ a. AllowedTo d bytes a.text.items a.status)
      go Check h = absurd h
      go Derive h = absurd h
      go Print h = absurd h
      go (Run o) h = absurd h
      go Replay h = absurd h
      go Order h = absurd h
      go Verify h = absurd h
      go (Checkpoint n) h = absurd h
      go (Resume n) h = absurd h
      go (Load n o) h =
          subst (λ k. IfOk r (λ a. AllowedLoad k o a.text.items a.status)) (sym h.0)
          (subst (λ u. IfOk r (λ a. AllowedLoad size u a.text.items a.status)) (sym h.1) answer)
      go Help h = absurd h

-- what a command asks was read as its input
pub check_read : (input : Input) → IsAsked (asked.Check input) → (bytes : List ℕ) × IsRead bytes input
check_read input (Check, bytes, h) = (bytes, h)
check_read input (Derive, bytes, h) = absurd h
check_read input (Print, bytes, h) = absurd h
check_read input (Run o, bytes, h) = absurd h
check_read input (Replay, bytes, h) = absurd h
check_read input (Order, bytes, h) = absurd h
check_read input (Verify, bytes, h) = absurd h
check_read input (Checkpoint n, bytes, h) = absurd h
check_read input (Resume n, bytes, h) = absurd h
check_read input (Load n o, bytes, h) = absurd h
check_read input (Help, bytes, h) = absurd h

pub derive_read : (input : Input) → IsAsked (asked.Derive input) → (bytes : List ℕ) × IsRead bytes input
derive_read input (Check, bytes, h) = absurd h
derive_read input (Derive, bytes, h) = (bytes, h)
derive_read input (Print, bytes, h) = absurd h
derive_read input (Run o, bytes, h) = absurd h
derive_read input (Replay, bytes, h) = absurd h
derive_read input (Order, bytes, h) = absurd h
derive_read input (Verify, bytes, h) = absurd h
derive_read input (Checkpoint n, bytes, h) = absurd h
derive_read input (Resume n, bytes, h) = absurd h
derive_read input (Load n o, bytes, h) = absurd h
derive_read input (Help, bytes, h) = absurd h

pub print_read : (input : Input) → IsAsked (asked.Print input) → (bytes : List ℕ) × IsRead bytes input
print_read input (Check, bytes, h) = absurd h
print_read input (Derive, bytes, h) = absurd h
print_read input (Print, bytes, h) = (bytes, h)
print_read input (Run o, bytes, h) = absurd h
print_read input (Replay, bytes, h) = absurd h
print_read input (Order, bytes, h) = absurd h
print_read input (Verify, bytes, h) = absurd h
print_read input (Checkpoint n, bytes, h) = absurd h
print_read input (Resume n, bytes, h) = absurd h
print_read input (Load n o, bytes, h) = absurd h
print_read input (Help, bytes, h) = absurd h

pub run_read : (options : RunOptions) (input : Input) → IsAsked (asked.Run options input) → (bytes : List ℕ) × IsRead bytes input
run_read options input (Check, bytes, h) = absurd h
run_read options input (Derive, bytes, h) = absurd h
run_read options input (Print, bytes, h) = absurd h
run_read options input (Run o, bytes, h) = (bytes, h.2)
run_read options input (Replay, bytes, h) = absurd h
run_read options input (Order, bytes, h) = absurd h
run_read options input (Verify, bytes, h) = absurd h
run_read options input (Checkpoint n, bytes, h) = absurd h
run_read options input (Resume n, bytes, h) = absurd h
run_read options input (Load n o, bytes, h) = absurd h
run_read options input (Help, bytes, h) = absurd h

-- and its options have their bounds
pub run_within : (options : RunOptions) (input : Input) → IsAsked (asked.Run options input) → IsWithin options
run_within options input (Check, bytes, h) = absurd h
run_within options input (Derive, bytes, h) = absurd h
run_within options input (Print, bytes, h) = absurd h
run_within options input (Run o, bytes, h) = h.1
run_within options input (Replay, bytes, h) = absurd h
run_within options input (Order, bytes, h) = absurd h
run_within options input (Verify, bytes, h) = absurd h
run_within options input (Checkpoint n, bytes, h) = absurd h
run_within options input (Resume n, bytes, h) = absurd h
run_within options input (Load n o, bytes, h) = absurd h
run_within options input (Help, bytes, h) = absurd h

-- the steps of what is asked have their bound
pub checkpoint_within : (steps : ℕ) (read : Vec ℕ Global) → IsAsked (asked.Checkpoint steps read) → steps ≤ most_steps
checkpoint_within steps read (Check, bytes, h) = absurd h
checkpoint_within steps read (Derive, bytes, h) = absurd h
checkpoint_within steps read (Print, bytes, h) = absurd h
checkpoint_within steps read (Run o, bytes, h) = absurd h
checkpoint_within steps read (Replay, bytes, h) = absurd h
checkpoint_within steps read (Order, bytes, h) = absurd h
checkpoint_within steps read (Verify, bytes, h) = absurd h
checkpoint_within steps read (Checkpoint n, bytes, h) = h.1
checkpoint_within steps read (Resume n, bytes, h) = absurd h
checkpoint_within steps read (Load n o, bytes, h) = absurd h
checkpoint_within steps read (Help, bytes, h) = absurd h

pub resume_within : (steps : ℕ) (read : Vec ℕ Global) → IsAsked (asked.Resume steps read) → steps ≤ most_steps
resume_within steps read (Check, bytes, h) = absurd h
resume_within steps read (Derive, bytes, h) = absurd h
resume_within steps read (Print, bytes, h) = absurd h
resume_within steps read (Run o, bytes, h) = absurd h
resume_within steps read (Replay, bytes, h) = absurd h
resume_within steps read (Order, bytes, h) = absurd h
resume_within steps read (Verify, bytes, h) = absurd h
resume_within steps read (Checkpoint n, bytes, h) = absurd h
resume_within steps read (Resume n, bytes, h) = h.1
resume_within steps read (Load n o, bytes, h) = absurd h
resume_within steps read (Help, bytes, h) = absurd h

-- what is asked of a load has its bounds
pub load_within : (size : ℕ) (options : RunOptions) → IsAsked (asked.Load size options) → (size ≤ 1000) × IsWithin options
load_within size options (Check, bytes, h) = absurd h
load_within size options (Derive, bytes, h) = absurd h
load_within size options (Print, bytes, h) = absurd h
load_within size options (Run o, bytes, h) = absurd h
load_within size options (Replay, bytes, h) = absurd h
load_within size options (Order, bytes, h) = absurd h
load_within size options (Verify, bytes, h) = absurd h
load_within size options (Checkpoint n, bytes, h) = absurd h
load_within size options (Resume n, bytes, h) = absurd h
load_within size options (Load n o, bytes, h) = (h.2, h.3)
load_within size options (Help, bytes, h) = absurd h

-- ---- what is read

-- an input that isn't too long
small_input : (bytes : List ℕ) (input : Input) → IsRead bytes input → length bytes ≤ limit → input ≢ TooLong
small_input bytes input read small is = let long = subst (IsRead bytes) is read in absurd (omega (arith, long, small))

-- what is asked of a read input
abbrev pub ReadAs : Command → Option (List ℕ) → Option (List ℕ) → Option Reach → Option Reach → Asked → Type 0
ReadAs c had left before now a = (bytes : List ℕ) × Takes c had left bytes × Asks c bytes a × (HasInput c → length bytes ≤ limit_of c → EndsThere before now)

module _ (had left : Option (List ℕ)) (before now : Option Reach) where
  pub reads_check : (input : Input) → ((bytes : List ℕ) × IsInput had left bytes × IsRead bytes input) → (input ≢ TooLong → EndsThere before now) → ReadAs Check had left before now (asked.Check input)
  reads_check input (bytes, own, read) there = (bytes, own, read, λ has small. there (small_input bytes input read small))

  pub reads_derive : (input : Input) → ((bytes : List ℕ) × IsInput had left bytes × IsRead bytes input) → (input ≢ TooLong → EndsThere before now) → ReadAs Derive had left before now (asked.Derive input)
  reads_derive input (bytes, own, read) there = (bytes, own, read, λ has small. there (small_input bytes input read small))

  pub reads_print : (input : Input) → ((bytes : List ℕ) × IsInput had left bytes × IsRead bytes input) → (input ≢ TooLong → EndsThere before now) → ReadAs Print had left before now (asked.Print input)
  reads_print input (bytes, own, read) there = (bytes, own, read, λ has small. there (small_input bytes input read small))

  pub reads_run : (options : RunOptions) (input : Input) → IsWithin options → ((bytes : List ℕ) × IsInput had left bytes × IsRead bytes input) → (input ≢ TooLong → EndsThere before now) → ReadAs (Run options) had left before now (asked.Run options input)
  reads_run options input within (bytes, own, read) there = (bytes, own, (refl, within, read), λ has small. there (small_input bytes input read small))

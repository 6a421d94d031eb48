-- What a call comes to, for each way in which it ends.
use Rattle.std.proofs.Common.{◌≡◌, ◌≤◌, ◌<◌, ℕ, List, [], length, Option, Some, None, refl, sym, ◌∙◌, subst, inl, inr, ⊎_elim}
use Rattle.std.proofs.lemmas.Bool.{cases_lt}
use Rattle.std.specs.Prelude.{◌≢◌}
use Rattle.std.specs.Io.KnownBytes.{Appends, Keeps}
use Rattle.pat_ports.specs.Causes.{Raised}
use Rattle.pat_ports.specs.Ends.{EndsOnce, EndsThere}
use Rattle.pat_ports.specs.declared.reach.Reach.{Reach}
use Rattle.pat_front.specs.declared.exit_answers.status.Status.{Status}
use Rattle.pat_front.specs.declared.exit_answers.status.Status.TheVariants.{Ok, Refused, Usage, ReadFault, WriteFault, NoMemory}
use Rattle.pat_front.specs.declared.verdict.Verdict.TheVariants.{TooLong}
use Rattle.pat_session.specs.declared.words.Command.{Command}
use Rattle.pat_session.specs.declared.words.Command.TheVariants.{Help}
use Rattle.pat_session.specs.Ports.{SourceState, SinkState, IsCutShort, Writes}
use Rattle.pat_session.specs.Allowed.{IsCommand, HasCommand, HasInput, Takes, AllowedTo, limit_of, usage_line}
use Rattle.pat_session.specs.Answers.{IsHelped}
use Rattle.pat_session.specs.Calls.{Call, ReadsAll, BreaksOffTooLong, EndsOrIsTooLong, SaysUsage}
use Rattle.pat_session.proofs.OneCommand.{asks_of}
use Rattle.pat_session.proofs.Allows.{input_status, not_a_read_fault, not_a_write_fault, reads_small, says_too_long, of_command, answered_command, answered_usage, begun_command, begun_usage}

keeps : (o : Option (List ℕ)) → Keeps o o
keeps None = tt
keeps (Some xs) = refl

none_read : (o : Option Reach) → EndsOnce o o
none_read o = λ before past. let clash = sym before ∙ past in cc

module _ (words : List (List ℕ)) (had left : SourceState) where
  -- a read that failed
  pub call_read_fault : (sink : SinkState) → Raised had.faults left.faults → EndsOnce had.reach left.reach → Call words had left sink sink ReadFault
  call_read_fault sink more once = record {
    output = keeps sink.taken;
    handed = λ _. keeps sink.handed;
    begun = λ e. let clash : ReadFault ≡ WriteFault = e in cc;
    read = record { failed = λ _. more; unfailed = λ other. absurd (other refl) };
    write = record { failed = λ e. let clash : ReadFault ≡ WriteFault = e in cc; unfailed = λ _. refl };
    one_end = once;
    end = λ asks all. absurd all;
    end_at_fault = λ asks e. let clash : ReadFault ≡ WriteFault = e in cc;
  }

  -- want of memory
  pub call_no_memory : (sink : SinkState) → left.faults ≡ had.faults → EndsOnce had.reach left.reach → Call words had left sink sink NoMemory
  call_no_memory sink same once = record {
    output = keeps sink.taken;
    handed = λ _. keeps sink.handed;
    begun = λ e. let clash : NoMemory ≡ WriteFault = e in cc;
    read = record { failed = λ e. let clash : NoMemory ≡ ReadFault = e in cc; unfailed = λ _. same };
    write = record { failed = λ e. let clash : NoMemory ≡ WriteFault = e in cc; unfailed = λ _. refl };
    one_end = once;
    end = λ asks all. absurd all;
    end_at_fault = λ asks e. let clash : NoMemory ≡ WriteFault = e in cc;
  }

  module _ (old new : SinkState) (text : List ℕ) (status result : Status) (wrote : Writes old new text status result) where
    -- what was written whole has its status
    same_status : result ≢ WriteFault → result ≡ status
    same_status other =
        ⊎_elim
        (λ (w : (result ≡ status) × Appends old.taken new.taken text). w.0)
        (λ (w : (result ≡ WriteFault) × IsCutShort old.taken new.taken text). absurd (other w.0))
        wrote.written

    not_read : status ≢ ReadFault → result ≢ ReadFault
    not_read other e = other (sym (same_status (λ w. let clash : ReadFault ≡ WriteFault = sym e ∙ w in cc)) ∙ e)

    reads_as : ReadsAll result → ReadsAll status
    reads_as all = subst ReadsAll (same_status (λ w. let none : ReadsAll WriteFault = subst ReadsAll w all in absurd none)) all

    -- what a failed write broke off
    cut_short : status ≢ WriteFault → result ≡ WriteFault → IsCutShort old.taken new.taken text
    cut_short sound e =
        ⊎_elim
        (λ (w : (result ≡ status) × Appends old.taken new.taken text). absurd (sound (sym w.0 ∙ e)))
        (λ (w : (result ≡ WriteFault) × IsCutShort old.taken new.taken text). w.1)
        wrote.written

    -- the bytes are few enough, so the source was read to its end; or they are too many, and that was to be said
    ended : (c : Command) (bytes : List ℕ) → AllowedTo c bytes text status → HasInput c → (length bytes ≤ limit_of c → EndsThere had.reach left.reach) → IsCommand c words → result ≡ WriteFault → EndsOrIsTooLong words had.reach left.reach old.taken new.taken
    ended c bytes allowed has there command e =
        ⊎_elim
        (λ (large : limit_of c < length bytes).
        let is = says_too_long (limit_of c) bytes status (input_status c bytes text status has allowed) large in
        let broken : BreaksOffTooLong words old.taken new.taken = record {
          bytes = bytes;
          text = text;
          allowed = of_command words c bytes text (Refused TooLong) command (subst (λ k. AllowedTo c bytes text k) is allowed);
          cut = cut_short (not_a_write_fault c bytes text status allowed) e;
        } in
        inr broken)
        (λ (small : length bytes ≤ limit_of c). inl (there small))
        (cases_lt (limit_of c) (length bytes))

    -- what a command answers
    pub call_command : (c : Command) (bytes : List ℕ) → Takes c had.rest left.rest bytes → AllowedTo c bytes text status → left.faults ≡ had.faults → EndsOnce had.reach left.reach → (HasInput c → length bytes ≤ limit_of c → EndsThere had.reach left.reach) → IsCommand c words → Call words had left old new result
    call_command c bytes input allowed same once there command = record {
      output = answered_command words had.rest left.rest old.taken new.taken c bytes text status result input allowed wrote.written command;
      handed = λ other. answered_command words had.rest left.rest old.handed new.handed c bytes text status result input allowed (inl (same_status other, wrote.handed other)) command;
      begun = λ e. begun_command words had.rest left.rest old.handed new.handed c bytes text status input allowed command (wrote.begun e);
      read = record { failed = λ e. absurd (not_read (not_a_read_fault c bytes text status allowed) e); unfailed = λ _. same };
      write = wrote.faults;
      one_end = once;
      end = λ asks all.
          let has = asks_of words c command asks in
          there has (reads_small (limit_of c) bytes status (input_status c bytes text status has allowed) (reads_as all));
      end_at_fault = λ asks e. let has = asks_of words c command asks in ended c bytes allowed has (there has) command e;
    }

-- usage
pub call_usage : (words : List (List ℕ)) (source : SourceState) (old new : SinkState) (result : Status) → (HasCommand words → ⊥) → Writes old new usage_line Usage result → Call words source source old new result
call_usage words source old new result none wrote = record {
  output = answered_usage words source.rest source.rest old.taken new.taken result none wrote.written;
  handed = λ other. answered_usage words source.rest source.rest old.handed new.handed result none (inl (same_status words source source old new usage_line Usage result wrote other, wrote.handed other));
  begun = λ e. begun_usage words source.rest source.rest old.handed new.handed none (wrote.begun e);
  read = record { failed = λ e. absurd (not_read words source source old new usage_line Usage result wrote (λ u. let clash : Usage ≡ ReadFault = u in cc) e); unfailed = λ _. refl };
  write = wrote.faults;
  one_end = none_read source.reach;
  end = λ asks all. let usage : ReadsAll Usage = reads_as words source source old new usage_line Usage result wrote all in absurd usage;
  end_at_fault = λ asks e. absurd (none (asks.0, asks.1));
}

-- and it says that the words are no command
pub says_usage : (words : List (List ℕ)) (old new : SinkState) (text : List ℕ) (result : Status) → Writes old new text Usage result → SaysUsage words result
says_usage words old new text result wrote = λ none.
    ⊎_elim
    (λ (w : (result ≡ Usage) × Appends old.taken new.taken text). inl w.0)
    (λ (w : (result ≡ WriteFault) × IsCutShort old.taken new.taken text). inr w.0)
    wrote.written

-- help
pub call_help : (words : List (List ℕ)) (source : SourceState) (old new : SinkState) (result : Status) → Writes old new usage_line Ok result → IsCommand Help words → Call words source source old new result
call_help words source old new result wrote command =
    call_command words source source old new usage_line Ok result wrote Help [] (refl, refl) (refl, refl) refl (none_read source.reach) (λ has small. absurd has) command

pub helps : (old new : SinkState) (result : Status) → Writes old new usage_line Ok result → IsHelped old.taken new.taken result
helps old new result wrote =
    ⊎_elim
    (λ (w : (result ≡ Ok) × Appends old.taken new.taken usage_line). inl w)
    (λ (w : (result ≡ WriteFault) × IsCutShort old.taken new.taken usage_line). inr w.0)
    wrote.written

-- A call keeps all that is promised of it.
use Rattle.std.proofs.Common.{ℕ, List}
use Rattle.pat_front.specs.declared.exit_answers.status.Status.{Status}
use Rattle.pat_session.specs.declared.words.Command.TheVariants.{Help}
use Rattle.pat_session.specs.Ports.{SourceState, SinkState}
use Rattle.pat_session.specs.Allowed.{IsCommand}
use Rattle.pat_session.specs.Answers.{IsHelped}
use Rattle.pat_session.specs.Calls.{Call, SaysUsage}
use Rattle.pat_session.specs.Complete.{IsComplete}
use Rattle.pat_session.specs.Promises.{Promises}
use Rattle.pat_session.proofs.Allows.{usage_only, accepts_safe, shows_checked, shows_derived, shows_load, shows_run, shows_tree, shows_replay, shows_order, shows_verified, shows_checkpoint, shows_resumed, shows_verdict}

module _ (words : List (List ℕ)) (had left : SourceState) (old new : SinkState) (status : Status) where
  pub promised : IsComplete → Call words had left old new status → SaysUsage words status → (IsCommand Help words → IsHelped old.taken new.taken status) → Promises words had left old new status
  promised complete call no_command helped = record {
    usage = usage_only words had.rest left.rest old.taken new.taken status call.output;
    no_command = no_command;
    read_fault = call.read.failed;
    write_fault = call.write.failed;
    no_read_fault = call.read.unfailed;
    no_write_fault = call.write.unfailed;
    one_end = call.one_end;
    end = call.end;
    end_at_fault = call.end_at_fault;
    output = call.output;
    handed = call.handed;
    begun = call.begun;
    checked = shows_checked words had.rest left.rest old.taken new.taken status call.output;
    derived = shows_derived words had.rest left.rest old.taken new.taken status call.output;
    accepted_is_safe = accepts_safe words had.rest left.rest old.taken new.taken status call.output;
    run = shows_run words had.rest left.rest old.taken new.taken status call.output;
    printed = shows_tree words had.rest left.rest old.taken new.taken status call.output;
    verified = shows_verified words had.rest left.rest old.taken new.taken status call.output;
    replayed = shows_replay words had.rest left.rest old.taken new.taken status call.output;
    ordered = shows_order words had.rest left.rest old.taken new.taken status call.output;
    checkpointed = shows_checkpoint words had.rest left.rest old.taken new.taken status call.output;
    resumed = shows_resumed words had.rest left.rest old.taken new.taken status call.output;
    loaded = shows_load words had.rest left.rest old.taken new.taken status call.output;
    helped = helped;
    refused = shows_verdict words had.rest left.rest old.taken new.taken status call.output;
    complete = complete words had left old new status call;
  }

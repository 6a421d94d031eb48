-- What `order` answers is a command's.
use Rattle.std.proofs.Common.{◌≡◌, ◌≤◌, ℕ, List, length, ⊎_elim}
use Rattle.std.specs.Prelude.{◌≢◌}
use Rattle.pat_input.specs.Inputs.{whole_limit}
use Rattle.pat_front.specs.declared.verdict.Verdict.{Verdict}
use Rattle.pat_front.specs.declared.verdict.Verdict.TheVariants as verdict
use Rattle.pat_front.specs.exit_answers.Answers.{IsStatusWithin}
use Rattle.pat_front.specs.declared.exit_answers.status.Status.{Status}
use Rattle.pat_front.specs.declared.exit_answers.status.Status.TheVariants.{Ok, Refused, Usage, ReadFault, WriteFault, NoMemory, Budget, Waiting, Full}
use Rattle.pat_replay_input.specs.Histories.{IsReplayRefusal}
use Rattle.pat_replay_input.proofs.Small.{refusal_small}
use Rattle.pat_command_order.specs.Allowed.{HasTooMany, IsOrderRefusal, AllowedOrder}

small_if : (bytes : List ℕ) (v : Verdict) → IsOrderRefusal bytes v → v ≢ verdict.TooLong → length bytes ≤ whole_limit
small_if bytes v r other =
    ⊎_elim
    (λ (why : IsReplayRefusal bytes v). refusal_small bytes v why other)
    (λ (why : (v ≡ verdict.TooManyEntries) × HasTooMany bytes). let many = why.1 in many.replays.has.small)
    r

pub order_status : (bytes out : List ℕ) (s : Status) → AllowedOrder bytes out s → IsStatusWithin whole_limit bytes s
order_status bytes out Ok a = a.replays.has.small
order_status bytes out (Refused v) a = small_if bytes v a.0
order_status bytes out Budget a = absurd a
order_status bytes out Waiting a = absurd a
order_status bytes out Full a = absurd a
order_status bytes out Usage a = absurd a
order_status bytes out ReadFault a = absurd a
order_status bytes out WriteFault a = absurd a
order_status bytes out NoMemory a = absurd a

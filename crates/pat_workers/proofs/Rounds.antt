-- A round of a worker: what it was given in a hold, and what became of it.
use Rattle.std.proofs.Common.{◌≡◌, Bool, List, subst}
use Rattle.pat_reduce.specs.declared.history.Entry.{Entry}
use Rattle.pat_machine.specs.declared.job.Named.{Named}
use Rattle.pat_machine.specs.Shown.{Shown}
use Rattle.pat_turn.specs.Shown.{ShownPass}
use Rattle.pat_workers.specs.declared.turns.machines.Taken.{Taken}
use Rattle.pat_workers.specs.turns.Holds.{IsHold, TakingGives}
use Rattle.pat_workers.specs.Workers.{Became, IsRound}

-- a hold, and what became of what it gave, as the pass was behind it
pub round_of : (pass mid : ShownPass Named Entry) (now : List Entry) (goes_on : Bool) (t : Taken) → mid ≡ record pass { seen = mid.seen }
    → ((found left : Shown) × IsHold pass mid.seen found left × TakingGives found t left) → Became goes_on t mid now → IsRound pass now goes_on
round_of pass mid now goes_on t same held became = record {
  between = mid.seen;
  found = held.0;
  left = held.1;
  taken = t;
  hold = held.2;
  gives = held.3;
  became = subst (λ (p : ShownPass Named Entry). Became goes_on t p now) same became;
}

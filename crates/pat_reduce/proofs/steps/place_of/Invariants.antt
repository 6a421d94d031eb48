use Rattle.std.proofs.Common.{◌≡◌, ◌++◌, nat_eq, take, drop}
use Rattle.std.specs.Map.{lookup, set_value, remove_entry}
use Rattle.pat_semantics_spec.specs.Configs.{Thread}
use Rattle.pat_reduce.specs.Views.{threads_view}
use Rattle.pat_reduce.proofs.steps.place_of.Given as goal

-- no thread before the place has the number
abbrev pub invariant-loop-i : goal.invariant-loop-i
invariant-loop-i l = record {
  state : lookup (nat_eq l.thread) (threads_view (drop l.i l.threads)) ≡ lookup (nat_eq l.thread) (threads_view l.threads);
  changed : (s : Thread) → set_value (nat_eq l.thread) (threads_view l.threads) s ≡ threads_view (take l.i l.threads) ++ set_value (nat_eq l.thread) (threads_view (drop l.i l.threads)) s;
  gone : remove_entry (nat_eq l.thread) (threads_view l.threads) ≡ threads_view (take l.i l.threads) ++ remove_entry (nat_eq l.thread) (threads_view (drop l.i l.threads));
}

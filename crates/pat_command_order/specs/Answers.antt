-- Bytes have one answer, but for the order that is found.
use Rattle.std.specs.Prelude.{◌≡◌, ◌≤◌, ℕ, List, length}
use Rattle.pat_semantics_spec.specs.Programs.{Program}
use Rattle.pat_semantics_spec.specs.Configs.{Config}
use Rattle.pat_semantics_spec.specs.Runs.{Entry}
use Rattle.pat_front.specs.declared.verdict.Verdict.{Verdict}
use Rattle.pat_replay_input.specs.Histories.{Replays}
use Rattle.pat_command_order.specs.Allowed.{IsOrdered, IsOrderRefusal}
use Rattle.pat_limits.specs.Limits.{most_entries}

-- few enough entries to be brought into order
abbrev pub AreFew : List Entry → Type 0
AreFew es = length es ≤ most_entries

-- what is brought into order is one history of one program, which leads to one configuration
pub record IsOfOneHistory (bytes out other : List ℕ) (a : IsOrdered bytes out) (b : IsOrdered bytes other) : Type 0 where
  pub program : a.program ≡ b.program
  pub entries : a.entries ≡ b.entries
  pub config : a.config ≡ b.config

-- or they are refused, in one way, and not both: so each answer comes exactly where it is said to come; and a history that replays, and
-- has few enough entries, isn't refused
pub record OneAnswer (bytes : List ℕ) : Type 0 where
  pub one_history : (out other : List ℕ) (a : IsOrdered bytes out) (b : IsOrdered bytes other) → IsOfOneHistory bytes out other a b
  pub not_both : (out : List ℕ) (v : Verdict) → IsOrdered bytes out → IsOrderRefusal bytes v → ⊥
  pub not_refused : (p : Program) (es : List Entry) (c : Config) (v : Verdict) → Replays bytes p es c → AreFew es → IsOrderRefusal bytes v → ⊥
  pub one_refusal : (v w : Verdict) → IsOrderRefusal bytes v → IsOrderRefusal bytes w → v ≡ w

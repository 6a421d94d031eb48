-- Histories in order, whatever the exchanges were.
use Rattle.std.specs.Prelude.{ℕ, List, ◌++◌}
use Rattle.pat_semantics_spec.specs.Runs.{Entry}
use Rattle.pat_causal_spec.specs.Reordered.{LeadsTo, IsReordered}

-- exchanges of independent neighbours lead from es to fs
pub record IsLed (es fs : List Entry) : Type 0 where
  pub places : List ℕ
  pub led : LeadsTo places es fs

-- they do, and fs is in order
pub record HasOrder (es fs : List Entry) : Type 0 where
  pub places : List ℕ
  pub reordered : IsReordered es fs places

-- what leads to the entries, followed by others, leads on to these now, followed by the same
abbrev pub LeadOn : (entries now : List Entry) → Type 0
LeadOn entries now = (es rest : List Entry) → IsLed es (entries ++ rest) → IsLed es (now ++ rest)

-- What a refusal hands back.
use Rattle.std.specs.Prelude.{◌≡◌}
use Rattle.pat_reduce.specs.declared.threads.state.ThreadState.{ThreadState}
use Rattle.pat_machine_threads.specs.declared.error.LocalError.{LocalError}
use Rattle.pat_machine_threads.specs.declared.error.LocalError.TheVariants.{NoMemory}

-- it hands back this state
abbrev pub hands_back : ThreadState → LocalError → Type 0
hands_back s (NoMemory t) = t ≡ s

-- What is left of a configuration, by numbers alone.
use Rattle.std.specs.Prelude.{length}
use Rattle.std.specs.Map.{keys_of}
use Rattle.pat_semantics_spec.specs.Configs.{Config}
use Rattle.pat_machine_threads.specs.declared.store.remains.Remains.{Remains}

-- the numbers of its threads, and how many mailboxes are live
abbrev pub remains_of : Config → Remains
remains_of c = record { threads = keys_of c.threads; live = length c.live }

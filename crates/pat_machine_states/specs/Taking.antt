-- What a shared step took, and what a step gives that may be refused.
use Rattle.std.specs.Prelude.{Option, Some, None, option_map, Result}
use Rattle.std.specs.declared.result.Result.TheVariants.{Ok, Err}
use Rattle.pat_semantics_spec.specs.Configs.{Message}
use Rattle.pat_semantics_spec.specs.Steps.{Act}
use Rattle.pat_reduce.specs.threads.ThreadViews.{message_view}
use Rattle.pat_reduce.specs.Views.{act_view}
use Rattle.pat_machine_states.specs.declared.sharing.Taken.{Taken}

-- its act
abbrev pub taken_act : Option Taken → Option Act
taken_act None = None
taken_act (Some k) = Some (act_view k.act)

-- the message that it received
abbrev pub taken_message : Option Taken → Option Message
taken_message None = None
taken_message (Some k) = option_map message_view k.message

-- whether it went well, whatever it gives
abbrev pub outcome : {A E : Type 0} → Result A E → Result (Unit {0}) E
outcome (Ok x) = Ok tt
outcome (Err e) = Err e

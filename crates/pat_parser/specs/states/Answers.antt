-- What a function of the parser returns, against what the definitions say.
use Rattle.std.specs.Prelude.{◌≡◌, false, List, [], ◌∷◌, Option, Some, None, Result, Ok, Err}
use Rattle.pat_parser_spec.specs.Machine as m
use Rattle.pat_parser.specs.declared.states.fault.Fault.{Fault}
use Rattle.pat_parser.specs.declared.states.fault.Fault.TheVariants as faults
use Rattle.pat_parser.specs.declared.states.state.State.{State}
use Rattle.pat_parser.specs.declared.states.state.Frame.{Frame}
use Rattle.pat_parser.specs.states.Views.{state_view, frame_view, stack_view}
use Rattle.pat_parser_phrases.specs.tokens.Answers.{limits}

-- a fault is that of the definition; want of memory claims nothing
abbrev pub Fails : {Y : Type 0} → Fault → Result Y m.Fault → Type 0
Fails faults.NoMemory read = Unit {0}
Fails faults.Unexpected read = read ≡ Err m.Unexpected
Fails faults.TooDeep read = read ≡ Err m.TooDeep

-- the value, seen by the view, is that of the definition
abbrev pub Gives : {X Y : Type 0} → (X → Y) → Result X Fault → Result Y m.Fault → Type 0
Gives view (Ok x) read = read ≡ Ok (view x)
Gives view (Err e) read = Fails e read

-- the next state is that of the move, within the limits
abbrev pub Makes : Result State Fault → m.Move → Type 0
Makes r move = Gives state_view r (m.settle limits false move)

-- the top frame and what stands below it, or no frame at all
abbrev pub Tops : Option (Frame × List Frame) → List m.Frame → Type 0
Tops None fs = fs ≡ []
Tops (Some x) fs = fs ≡ frame_view x.0 ∷ stack_view x.1

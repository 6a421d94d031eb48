-- No frame of the parser owes an expression.
use Rattle.std.proofs.Common.{◌≡◌, true, List, [], ◌∷◌, refl}
use Rattle.pat_parser.specs.declared.states.state.Frame.{Frame}
use Rattle.pat_parser.specs.declared.states.state.Frame.TheVariants as frame
use Rattle.pat_parser.specs.states.Views.{stack_view}
use Rattle.pat_parser_phrases.specs.expressions.Reads.{no_expression}

pub no_frame : (fs : List Frame) → no_expression (stack_view fs) ≡ true
no_frame [] = refl
no_frame (frame.Let f ∷ fs) = refl
no_frame (frame.Block f ∷ fs) = refl
no_frame (frame.Clause f ∷ fs) = refl

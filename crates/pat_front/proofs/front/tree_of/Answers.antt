use Rattle.std.proofs.Common.{subst, map}
use Rattle.pat_syntax.specs.Views.{token_view}
use Rattle.pat_parser.specs.Answers.{Explains}
use Rattle.pat_input.specs.Inputs.{IsRead}
use Rattle.pat_front.proofs.Fewness.{small_tree}
use Rattle.pat_front.proofs.front.tree_of.Goals as goal

pub returns-in-Ok-clause-size : goal.returns-in-Ok-clause-size
returns-in-Ok-clause-size c = λ bytes read.
    let given = subst (IsRead bytes) c.in-Tokens.is read in
    small_tree token_view bytes c.in-Tokens.tokens.items _ given.0 given.1 c.in-Ok.ensures.size

pub returns-in-Err-clause-refused : goal.returns-in-Err-clause-refused
returns-in-Err-clause-refused c = λ bytes read.
    let given = subst (IsRead bytes) c.in-Tokens.is read in
    c.of_parser.ensures bytes (map token_view c.in-Tokens.tokens.items) given.0 given.1 (subst (λ n. Explains n (map token_view c.in-Tokens.tokens.items) c.in-Err.refusal) given.2 c.in-Err.ensures.answers)

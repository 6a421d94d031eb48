use Rattle.std.proofs.Common.{◌∷◌, string_bytes, codes}
use Rattle.std.specs.Prelude.{IfSome, IfNone}
use Rattle.pat_session.specs.Allowed.{IsCommand, HasCommand}
use Rattle.pat_session.proofs.NoCommands.{of_first_and_rest, no_words}
use Rattle.pat_session.proofs.words.load_with.Goals as goal

pub returns-in-empty-clause-none : goal.returns-in-empty-clause-none
returns-in-empty-clause-none c = no_words string_bytes c.args.rest.now c.in-empty.len_below

pub returns-in-len1-up-clause-some : goal.returns-in-len1-up-clause-some
returns-in-len1-up-clause-some c =
    of_first_and_rest string_bytes (λ ws. IfSome c.load_of.result (λ d. IsCommand d (codes "load" ∷ ws))) c.args.rest.now _ c.number-item.result c.as_bytes.result.now c.in-len1-up.len_at_least c.number-item.is c.as_bytes.ensures.value c.load_of.ensures.some

pub returns-in-len1-up-clause-none : goal.returns-in-len1-up-clause-none
returns-in-len1-up-clause-none c =
    of_first_and_rest string_bytes (λ ws. IfNone c.load_of.result (HasCommand (codes "load" ∷ ws) → ⊥)) c.args.rest.now _ c.number-item.result c.as_bytes.result.now c.in-len1-up.len_at_least c.number-item.is c.as_bytes.ensures.value c.load_of.ensures.none

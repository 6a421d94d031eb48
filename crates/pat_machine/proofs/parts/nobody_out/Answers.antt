use Rattle.std.proofs.Common.{◌++◌, ◌∷◌, [], None, ap, sym, ◌∙◌, add-one}
use Rattle.pat_machine_spec.specs.Lendings.{Out, all_in}
use Rattle.pat_machine_laws.proofs.Takings.{all_in_more}
use Rattle.pat_machine.proofs.parts.nobody_out.Goals as goal

pub loop-preserved : goal.loop-preserved
loop-preserved c =
    c.in_ok-push.ensures.items ∙ ap (λ (o : Out). o ++ None ∷ []) c.loop.invariant ∙ all_in_more c.loop.counter ∙ ap all_in (sym (add-one c.loop.counter))

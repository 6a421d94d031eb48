use Rattle.pat_examples.proofs.Unsolved.{uncovered_untypable, handed_untypable, freed_untypable, sent_untypable, aside_untypable}
use Rattle.pat_examples.proofs.inference.untypable_programs.Goals as goal

pub returns : goal.returns
returns c =
    let broken = c.lossless_laws.ensures.broken in
    record { covers = uncovered_untypable broken; second = handed_untypable broken; branch = freed_untypable broken; alias = sent_untypable broken; unused = aside_untypable broken }

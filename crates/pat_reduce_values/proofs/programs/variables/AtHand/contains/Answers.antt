use Rattle.std.proofs.Common.{◌∙◌}
use Rattle.pat_reduce_values.proofs.VariableSets.{is_found}
use Rattle.pat_reduce_values.proofs.programs.variables.AtHand.contains.Goals as goal

pub returns-else-stands_in_row : goal.returns-else-stands_in_row
returns-else-stands_in_row c =
    c.is_ok.ensures.value
    ∙ is_found c.args.self.now.listed.now c.args.variable c.place_of.result c.place_of.ensures.found c.place_of.ensures.absent

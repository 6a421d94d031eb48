use Rattle.pat_grid_certificates.proofs.Meaning.{value_lies, none_lies}
use Rattle.pat_grid_certificates.proofs.check.value_lies_in.Goals as goal

pub returns-then-place-env : goal.returns-then-place-env
returns-then-place-env c =
    value_lies c.args.env.now c.args.other.now c.args.place c.index-env-place.result c.lies_in.result c.requires c.if-place-env.true c.index-env-place.is c.lies_in.ensures

pub returns-else-place-env : goal.returns-else-place-env
returns-else-place-env c = none_lies c.args.env.now c.args.other.now c.args.place c.if-place-env.false

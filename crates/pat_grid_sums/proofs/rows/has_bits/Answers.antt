use Rattle.std.proofs.lemmas.Bool.{eqb-true}
use Rattle.pat_grid_sums.proofs.Holding.{bits_held}
use Rattle.pat_grid_sums.proofs.rows.has_bits.Goals as goal

pub returns : goal.returns
returns c = λ yes. bits_held c.args.word c.args.bits (eqb-true _ _ yes)

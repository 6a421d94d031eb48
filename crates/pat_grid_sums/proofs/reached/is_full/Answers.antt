use Rattle.std.proofs.lemmas.Bool.{eqb-true}
use Rattle.pat_grid_sums.proofs.Writing.{full_bits}
use Rattle.pat_grid_sums.proofs.reached.is_full.Goals as goal

pub returns : goal.returns
returns c = λ yes q l. full_bits 64 c.args.width c.args.word q (eqb-true _ _ yes) c.requires.width l

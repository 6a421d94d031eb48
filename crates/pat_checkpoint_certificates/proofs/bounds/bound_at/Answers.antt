use Rattle.std.proofs.Common.{◌<◌, length, arith}
use Rattle.std.proofs.lemmas.List.{length-map}
use Rattle.pat_core.specs.Views.{interface_view, program_view}
use Rattle.pat_checkpoint_certificates.proofs.Listed.{bound_is}
use Rattle.pat_checkpoint_certificates.proofs.bounds.bound_at.Goals as goal

pub grid_bound-requires-clause-interface : goal.grid_bound-requires-clause-interface
grid_bound-requires-clause-interface c = let count = c.requires.as_many in let below = c.requires.there in omega (arith, count, below)

pub grid_bound-requires-clause-there : goal.grid_bound-requires-clause-there
grid_bound-requires-clause-there c =
    let long = length-map c.args.program.now.interfaces interface_view in let below = c.requires.there in omega (arith, long, below)

pub returns : goal.returns
returns c =
    let long = length-map c.args.program.now.interfaces interface_view in
    let below = c.requires.there in
    let p = program_view c.args.program.now in
    let there : c.args.interface < length p.interfaces = omega (arith, long, below) in
    bound_is p c.args.interface c.grid_bound.result there c.grid_bound.ensures.some c.grid_bound.ensures.none

use Rattle.std.proofs.Common.{◌≤◌, length, arith, arith}
use Rattle.pat_resolver_heads.proofs.Tags.{few_at}
use Rattle.pat_resolver_heads.proofs.number.number_type.Goals as goal

pub number_written-requires : goal.number_written-requires
number_written-requires c =
    let few : length c.in-Some.table.now.tags ≤ 32 = few_at c.args.names.now.interfaces c.in-Some.interface c.in-Some.table.now c.requires c.in-Some.ensures.there in
    omega arith

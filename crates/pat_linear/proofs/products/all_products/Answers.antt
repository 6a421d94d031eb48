use Rattle.std.proofs.Common.{rules}
use Rattle.pat_linear.specs.Views.{sets_view}
use Rattle.pat_linear.proofs.Room.{rows_at}
use Rattle.pat_linear.proofs.products.all_products.Goals as goal

pub push_row-requires : goal.push_row-requires
push_row-requires c =
    rows_at c.args.sets.now (sets_view c.args.others.now) c.loop-a.a-index c.a-item.result c.requires (search rules) c.a-item.is

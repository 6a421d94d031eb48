use Rattle.std.proofs.Common.{rules}
use Rattle.pat_linear.specs.Views.{set_view}
use Rattle.pat_linear.proofs.Room.{room_at}
use Rattle.pat_linear.proofs.products.push_row.Goals as goal

pub set_product-requires : goal.set_product-requires
set_product-requires c =
    room_at (set_view c.args.a.now) c.args.bs.now c.loop-b.b-index c.b-item.result c.requires (search rules) c.b-item.is

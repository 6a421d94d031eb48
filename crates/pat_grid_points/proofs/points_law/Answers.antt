use Rattle.pat_grid_points.proofs.Members.{member_point, point_member}
use Rattle.pat_grid_points.proofs.points_law.Goals as goal

pub returns : goal.returns
returns c = λ g u. (member_point g u, point_member g u)

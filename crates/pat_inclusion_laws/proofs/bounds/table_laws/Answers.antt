use Rattle.pat_inclusion_laws.proofs.FlatLaws.{stands_as, roots_stand, shown_at, at_shown}
use Rattle.pat_inclusion_laws.proofs.TableLaws.{start_sound, steps_sound, done_grounded, rebuilt, least_sizes}
use Rattle.pat_inclusion_spec.specs.bounds.Symbols.{LowerSymbol, symbol_at}
use Rattle.pat_inclusion_laws.proofs.Ends.{done_exists}
use Rattle.pat_inclusion_laws.proofs.bounds.table_laws.Goals as goal

pub returns : goal.returns
returns c = record {
  start = start_sound;
  grow = λ g old new. steps_sound g old new;
  ground = done_grounded;
  rebuild = λ g table s u grounded. rebuilt g table grounded s u;
  least = least_sizes;
  trees = λ g lower e s b w flat st. (
    at_shown lower g.flat g.given (roots_stand lower g.flat flat) b e (symbol_at g.flat s) w (stands_as g.flat LowerSymbol e s st),
    shown_at lower g.flat g.given (roots_stand lower g.flat flat) b e (symbol_at g.flat s) w (stands_as g.flat LowerSymbol e s st),
  );
  exists = done_exists;
}

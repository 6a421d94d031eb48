use Rattle.std.proofs.Common.{sym, ap, subst}
use Rattle.pat_core.specs.Views.{program_view}
use Rattle.pat_checkpoint_parts.specs.Lists.{AreFree}
use Rattle.pat_checkpoint_parts.specs.Standing.{StandsWell}
use Rattle.pat_checkpoint_parts.proofs.Standings.{stands_well}
use Rattle.pat_checkpoint_parts.proofs.parts.Parts.new.Goals as goal

pub invariant_of-result : goal.invariant_of-result
invariant_of-result c =
    let same = sym (ap program_view c.in_ok-typing.ensures.program) in
    record {
      well = subst StandsWell same (stands_well (program_view c.args.program.now) c.requires.well);
      free_are = subst (λ p. AreFree p c.in_ok-free.free) same c.in_ok-free.ensures;
      ascends = c.requires.ascends;
    }

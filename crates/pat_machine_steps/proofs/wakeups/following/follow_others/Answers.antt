use Rattle.std.proofs.Common.{None, subst, arith}
use Rattle.std.specs.Prelude.{option_map}
use Rattle.pat_core.specs.Views.{program_view}
use Rattle.pat_reduce.specs.Views.{act_view}
use Rattle.pat_machine_indexes.specs.ready_sets.Noted.{WereWoken}
use Rattle.pat_machine_indexes.proofs.Noting.{others_noted, kept_as_is}
use Rattle.pat_machine_steps.proofs.wakeups.following.follow_others.Goals as goal

pub follow_act-requires-clause-were : goal.follow_act-requires-clause-were
follow_act-requires-clause-were c =
    subst (λ o. WereWoken (program_view c.args.code.now.program) c.args.waits.now c.args.stepped.now.thread (option_map act_view o) c.args.stepped.now.newcomer c.args.state.now.config) c.in-Some.is c.requires.were

pub returns-in-None : goal.returns-in-None
returns-in-None c =
    let p = program_view c.args.code.now.program in
    let d = c.args.state.now.config in
    let t = c.args.stepped.now.thread in
    let n = c.args.stepped.now.newcomer in
    let w = c.args.waits.now in
    let were = subst (λ o. WereWoken p w t (option_map act_view o) n d) c.in-None.is c.requires.were in
    let had = c.requires.space in
    let could = c.requires.hold in
    record {
      order = were.noted.order;
      others = λ u other. others_noted p w w t n None d were (kept_as_is p were.went.before d None w (λ no. cc)) u other (λ no. cc);
      space = omega arith;
      hold = omega arith;
    }

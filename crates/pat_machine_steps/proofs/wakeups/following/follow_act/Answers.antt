use Rattle.std.proofs.Common.{Some, sym, subst, arith}
use Rattle.pat_semantics_spec.specs.Orders.{AscendsFrom}
use Rattle.pat_semantics_spec.specs.Steps.{ActNew, ActSend}
use Rattle.pat_core.specs.Views.{program_view}
use Rattle.pat_reduce.specs.Views.{act_view}
use Rattle.pat_machine_indexes.specs.ready_sets.Noted.{WereWoken}
use Rattle.pat_machine_indexes.proofs.Noting.{others_noted, others_with_newcomer, kept_with_woken, kept_with_more, kept_as_is}
use Rattle.pat_machine_steps.proofs.Stepping.{sends, spawns}
use Rattle.pat_machine_steps.proofs.wakeups.following.follow_act.Goals as goal

pub returns-in-Send : goal.returns-in-Send
returns-in-Send c =
    let p = program_view c.args.code.now.program in
    let d = c.args.state.now.config in
    let t = c.args.stepped.now.thread in
    let n = c.args.stepped.now.newcomer in
    let w = c.args.waits.now in
    let v = c.wake_receiver.new.waits in
    let k = c.wake_receiver.ensures in
    let were = subst (λ a. WereWoken p w t (Some (act_view a)) n d) c.in-Send.is c.requires.were in
    let had = c.requires.space in
    let could = c.requires.hold in
    let len = k.space.len in
    let capacity = k.space.capacity in
    let held = k.space.held in
    let hold = k.space.hold in
    record {
      order = k.order;
      others = λ u other. others_noted p w v t n (Some ActSend) d were (kept_with_woken p were.went.before d w v k) u other (λ no. cc);
      space = omega arith;
      hold = omega arith;
    }

pub returns-in-Spawn : goal.returns-in-Spawn
returns-in-Spawn c =
    let p = program_view c.args.code.now.program in
    let d = c.args.state.now.config in
    let t = c.args.stepped.now.thread in
    let n = c.args.stepped.now.newcomer in
    let w = c.args.waits.now in
    let v = c.settle.new.waits in
    let were = subst (λ a. WereWoken p w t (Some (act_view a)) n d) c.in-Spawn.is c.requires.were in
    let had = c.requires.space in
    let could = c.requires.hold in
    let len = c.settle.ensures.space.len in
    let capacity = c.settle.ensures.space.capacity in
    let held = c.settle.ensures.space.held in
    let hold = c.settle.ensures.space.hold in
    record {
      order = c.settle.ensures.order;
      others = others_with_newcomer p w v t n d were c.settle.ensures;
      space = omega arith;
      hold = omega arith;
    }

-- Arms count room alike, each over what it did.
pub returns-in-New : goal.returns-in-New
returns-in-New c =
    let p = program_view c.args.code.now.program in
    let d = c.args.state.now.config in
    let t = c.args.stepped.now.thread in
    let n = c.args.stepped.now.newcomer in
    let w = c.args.waits.now in
    let v = c.add_mailbox.new.self in
    let k = c.add_mailbox.ensures in
    let were = subst (λ a. WereWoken p w t (Some (act_view a)) n d) c.in-New.is c.requires.were in
    let had = c.requires.space in
    let could = c.requires.hold in
    let len = k.space.len in
    let capacity = k.space.capacity in
    let held = k.space.held in
    let hold = k.space.hold in
    record {
      order = (subst (λ l. AscendsFrom 0 l.numbers.items) (sym k.awake) were.noted.order.0, subst (λ l. AscendsFrom 0 l.numbers.items) (sym k.senders) were.noted.order.1);
      others = λ u other. others_noted p w v t n (Some ActNew) d were (kept_with_more p were.went.before d w v k) u other (λ no. cc);
      space = omega arith;
      hold = omega arith;
    }

pub returns-in_default : goal.returns-in_default
returns-in_default c =
    let p = program_view c.args.code.now.program in
    let d = c.args.state.now.config in
    let t = c.args.stepped.now.thread in
    let n = c.args.stepped.now.newcomer in
    let w = c.args.waits.now in
    let a = c.args.act in
    let had = c.requires.space in
    let could = c.requires.hold in
    let were = c.requires.were in
    record {
      order = were.noted.order;
      others = λ u other. others_noted p w w t n (Some (act_view a)) d were (kept_as_is p were.went.before d (Some (act_view a)) w (λ is. c.in_default.not-Send (sends a is))) u other (λ is same. c.in_default.not-Spawn (spawns a is));
      space = omega arith;
      hold = omega arith;
    }

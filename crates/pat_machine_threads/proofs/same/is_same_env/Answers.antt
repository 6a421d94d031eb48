use Rattle.pat_machine_threads.specs.Bindings.{binding_view}
use Rattle.pat_machine_threads.proofs.Sames.{same_at}
use Rattle.pat_machine_threads.proofs.same.is_same_env.Goals as goal

pub returns-then-not-is_same_binding-clause-other : goal.returns-then-not-is_same_binding-clause-other
returns-then-not-is_same_binding-clause-other c = λ no same.
    c.is_same_binding.ensures.other c.if-not-is_same_binding.true
    (same_at binding_view c.args.first.now c.args.second.now c.loop-i.i c.index-first-i.result c.index-second-i.result same c.loop-i-test.true c.index-first-i.is c.index-second-i.is)

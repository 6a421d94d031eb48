use Rattle.std.proofs.Common.{Some, subst}
use Rattle.pat_machine_threads.specs.Views.{act_view}
use Rattle.pat_machine_states.specs.Changes.{HasPlaces}
use Rattle.pat_machine_states.specs.Taking.{taken_act}
use Rattle.pat_machine_steps.specs.shared_steps.Leaving.{times_put}
use Rattle.pat_machine_steps.proofs.shared_steps.counting.count_put.Goals as goal

pub count_sent-requires-clause-places : goal.count_sent-requires-clause-places
count_sent-requires-clause-places c =
    subst (λ x. HasPlaces c.args.names.now (times_put c.args.state.now.config c.args.newcomer (Some (act_view x)))) c.in-Send.is
    (subst (λ o. HasPlaces c.args.names.now (times_put c.args.state.now.config c.args.newcomer (taken_act o))) c.in-Some.is c.requires.places)

pub count_spawned-requires-clause-places : goal.count_spawned-requires-clause-places
count_spawned-requires-clause-places c =
    subst (λ x. HasPlaces c.args.names.now (times_put c.args.state.now.config c.args.newcomer (Some (act_view x)))) c.in-Spawn.is
    (subst (λ o. HasPlaces c.args.names.now (times_put c.args.state.now.config c.args.newcomer (taken_act o))) c.in-Some.is c.requires.places)

use Rattle.pat_reduce.specs.threads.ThreadViews.{thread_view}
use Rattle.pat_machine_laws.proofs.Exchanges.{put_over}
use Rattle.pat_machine_threads.specs.Aside.{aside_view}
use Rattle.pat_machine_states.proofs.Asides.{room_for}
use Rattle.pat_machine_states.proofs.state.IndexedConfig.put.Goals as goal

pub cover-requires : goal.cover-requires
cover-requires c = room_for c.args.self.now.config c.set_aside.new.self.config c.args.thread c.args.top c.in_ok-kept.kept c.in_ok-kept.ensures.ok

pub returns-clause-ok : goal.returns-clause-ok
returns-clause-ok c =
    let a = c.in_ok-kept.ensures.ok in
    put_over c.args.self.now.config c.set_aside.new.self.config c.cover.new.self.config c.args.thread c.args.gone (aside_view c.in_ok-kept.kept) (thread_view c.args.top) a.there a.put c.cover.ensures.covered

use Rattle.std.proofs.Common.{ℕ, sym, map}
use Rattle.pat_reduce.specs.Views.{threads_view}
use Rattle.pat_reduce.specs.declared.threads.state.ThreadState.{ThreadState}
use Rattle.pat_reduce.specs.threads.ThreadViews.{thread_view}
use Rattle.pat_checkpoint_data.specs.Views.{part_certs_view}
use Rattle.pat_checkpoint_parts.specs.Typed.{program_in, typing_in, scope_in}
use Rattle.pat_checkpoint_parts.proofs.Unequal.{threads_unequal, mapped}
use Rattle.pat_checkpoint_parts.proofs.showing.threads_shown.Goals as goal

pub returns-then-threads-certs : goal.returns-then-threads-certs
returns-then-threads-certs c =
    let t = c.args.typing.now in
    let threads = c.args.threads.now in
    let certs = c.args.certs.now in
    sym (threads_unequal (program_in t) (typing_in t) (scope_in t) (threads_view threads) (map part_certs_view certs) (mapped (λ (e : ℕ × ThreadState). (e.0, thread_view e.1)) part_certs_view threads certs c.if-threads-certs.true))

use Rattle.std.proofs.Common.{length, refl}
use Rattle.std.proofs.lemmas.Option.{slice_get_read}
use Rattle.pat_checkpoint_parts.proofs.Just.{first_at, no_first}
use Rattle.pat_checkpoint_parts.proofs.fitting.stands_at.Goals as goal

pub returns-in-None : goal.returns-in-None
returns-in-None c = no_first c.args.env.now c.args.place c.args.variable c.in-None.ensures.lookup.3

pub returns-in-Some : goal.returns-in-Some
returns-in-Some c =
    let env = c.args.env.now in
    first_at env c.args.place c.args.variable c.in-Some.entry.now (slice_get_read env (length env) c.args.place c.in-Some.entry.now refl c.in-Some.ensures.lookup.3.0 c.in-Some.ensures.lookup.1)

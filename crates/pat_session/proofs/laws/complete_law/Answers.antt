use Rattle.pat_session.proofs.Suited.{is_complete}
use Rattle.pat_session.proofs.laws.complete_law.Goals as goal

pub returns : goal.returns
returns c = is_complete c.complete_law.ensures c.verdict_law.ensures c.verify_law.ensures c.replay_law.ensures c.order_law.ensures c.resume_law.ensures c.checkpoint_law.ensures

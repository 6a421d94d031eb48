use Rattle.std.proofs.Common.{length}
use Rattle.pat_resolver_laws.proofs.Resolved.{resolved, text_written}
use Rattle.pat_resolver_laws.proofs.text_laws.Goals as goal

pub returns : goal.returns
returns c = record {
  written = text_written;
  whole = λ lim text tokens t p divides spells r. resolved (length text) t p (text_written lim text tokens t divides spells) r;
}

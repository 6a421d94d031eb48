use Rattle.std.proofs.Common.{rules}
use Rattle.pat_resolver_heads.proofs.Firsts.{refuses_front}
use Rattle.pat_resolver_bodies.proofs.expressions.check_expr.Goals as goal

pub returns-in_err-kind : goal.returns-in_err-kind
returns-in_err-kind c = search (rules, refuses_front)

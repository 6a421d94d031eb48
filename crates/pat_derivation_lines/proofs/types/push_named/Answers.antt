use Rattle.std.proofs.Common.{rules}
use Rattle.pat_core.specs.Views.{program_view}
use Rattle.pat_derivation_lines.proofs.Lasts.{one_more}
use Rattle.pat_derivation_lines.proofs.types.push_named.Goals as goal

pub returns-in_ok-push-in-Some : goal.returns-in_ok-push-in-Some
returns-in_ok-push-in-Some c =
    one_more (program_view c.args.names.now.program.now) c.args.named c.in-Some.variable c.in-Some.text c.in_ok-of-in-Some.of c.args.needs.now c.push.new.self (search rules) (search rules) (search rules)

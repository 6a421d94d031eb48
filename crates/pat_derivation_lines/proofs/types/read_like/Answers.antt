use Rattle.std.proofs.Common.{rules}
use Rattle.pat_core.specs.Views.{program_view}
use Rattle.pat_derivation_lines.proofs.Lasts.{read_again}
use Rattle.pat_derivation_lines.proofs.types.read_like.Goals as goal

pub returns-in_ok-copy-in-Some : goal.returns-in_ok-copy-in-Some
returns-in_ok-copy-in-Some c =
    read_again (program_view c.args.names.now.program.now) c.args.needs.now c.args.text.now c.args.last.now c.in-Some.field-0.now c.in_ok-copy-in-Some.copy (search rules) c.requires (search rules) (search rules)

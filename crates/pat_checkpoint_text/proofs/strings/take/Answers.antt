use Rattle.std.proofs.Common.{rules}
use Rattle.pat_checkpoint_text.proofs.Unquoting.{special_taken, plain_taken}
use Rattle.pat_checkpoint_text.proofs.strings.take.Goals as goal

pub returns-then-is_special : goal.returns-then-is_special
returns-then-is_special c = special_taken c.args.own.now c.push.new.self c.args.escaped c.args.byte (search rules) (search rules) (search rules)

pub returns-then-is_plain : goal.returns-then-is_plain
returns-then-is_plain c = plain_taken c.args.own.now c.push-then-is_plain.new.self c.args.escaped c.args.byte (search rules) (search rules) (search rules) (search rules)

use Rattle.std.proofs.Common.{map, string_bytes}
use Rattle.pat_session.specs.declared.words.Command.TheVariants.{Help}
use Rattle.pat_session.proofs.OneCommand.{one_command}
use Rattle.pat_session.proofs.Calls.{call_usage, says_usage}
use Rattle.pat_session.proofs.session.respond.Goals as goal

pub returns-in-None-clause-call : goal.returns-in-None-clause-call
returns-in-None-clause-call g c = call_usage (map string_bytes c.args.words.now) _ _ _ c.written.result c.in-None.ensures.none c.written.ensures

pub returns-in-None-clause-no_command : goal.returns-in-None-clause-no_command
returns-in-None-clause-no_command g c = says_usage (map string_bytes c.args.words.now) _ _ _ c.written.result c.written.ensures

pub returns-in-None-clause-helped : goal.returns-in-None-clause-helped
returns-in-None-clause-helped g c = λ help. absurd (c.in-None.ensures.none (Help, help))

pub returns-in-Some-clause-no_command : goal.returns-in-Some-clause-no_command
returns-in-Some-clause-no_command g c = λ none. absurd (none (c.in-Some.command, c.in-Some.ensures.some))

pub returns-in-Some-clause-helped : goal.returns-in-Some-clause-helped
returns-in-Some-clause-helped g c = λ help. c.obey.ensures.helped (one_command (map string_bytes c.args.words.now) c.in-Some.command Help c.in-Some.ensures.some help)

pub returns-in-Some-clause-untouched : goal.returns-in-Some-clause-untouched
returns-in-Some-clause-untouched g c = λ none. c.obey.ensures.untouched (λ has. none (c.in-Some.command, c.in-Some.ensures.some, has))

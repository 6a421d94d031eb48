use Rattle.std.proofs.Common.{◌∙◌, arith}
use Rattle.pat_machine.proofs.parts.Parts.mailboxes.Goals as goal

pub returns : goal.returns
returns c = record {
  mailboxes = c.mailboxes.ensures.mailboxes;
  places = c.mailboxes.ensures.places ∙ c.requires.places;
  named = λ b. let times = c.requires.counted.times b in omega arith;
}

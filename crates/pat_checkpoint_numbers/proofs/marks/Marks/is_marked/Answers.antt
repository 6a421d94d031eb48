use Rattle.std.proofs.Common.{nat_eq, ap, ◌∙◌, get_or}
use Rattle.pat_checkpoint_numbers.proofs.Halved.{read_beside}
use Rattle.pat_checkpoint_numbers.proofs.marks.Marks.is_marked.Goals as goal

pub returns-in-Some : goal.returns-in-Some
returns-in-Some c =
    let m = c.args.self.now in
    ap (λ ts. nat_eq (get_or ts c.in-Some.place 0) m.turn) c.as_slice.ensures
    ∙ ap (λ k. nat_eq k m.turn) (read_beside m.live.now m.turns c.in-Some.place c.args.mailbox m.ascends c.in-Some.ensures.some)

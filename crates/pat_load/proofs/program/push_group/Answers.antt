use Rattle.std.proofs.Common.{codes, List, ◌++◌, ℕ}
use Rattle.pat_load.specs.LoadText.{numbered}
use Rattle.pat_load.proofs.Split.{followed}
use Rattle.pat_load.proofs.program.push_group.Goals as goal

pub returns : goal.returns
returns c =
    let number = c.args.number in
    let last = c.extend_from_slice.new.self.items in
    let r5 : List ℕ = codes ", all); " in
    let r4 : List ℕ = numbered (codes " ! Job(") number ++ r5 in
    let r3 : List ℕ = numbered (codes ") }; b") number ++ r4 in
    let r2 : List ℕ = numbered (codes "(b") number ++ r3 in
    let r1 : List ℕ = numbered (codes " = new[Work] in spawn { w") number ++ r2 in
    followed c.args.text.now.items c.push_numbered.new.text.items last (numbered (codes "let b") number) r1 c.in_ok-push_numbered.ensures
    (followed c.push_numbered.new.text.items c.push_numbered-2.new.text.items last (numbered (codes " = new[Work] in spawn { w") number) r2 c.in_ok-push_numbered-2.ensures
    (followed c.push_numbered-2.new.text.items c.push_numbered-3.new.text.items last (numbered (codes "(b") number) r3 c.in_ok-push_numbered-3.ensures
    (followed c.push_numbered-3.new.text.items c.push_numbered-4.new.text.items last (numbered (codes ") }; b") number) r4 c.in_ok-push_numbered-4.ensures
    (followed c.push_numbered-4.new.text.items c.push_numbered-5.new.text.items last (numbered (codes " ! Job(") number) r5 c.in_ok-push_numbered-5.ensures c.in_ok-extend_from_slice.ensures.items))))

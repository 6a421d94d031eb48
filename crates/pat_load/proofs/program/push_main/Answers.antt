use Rattle.std.proofs.Common.{codes, List, [], ◌∷◌, ◌++◌, ℕ}
use Rattle.pat_load.specs.LoadText.{each_from, group_text}
use Rattle.pat_load.proofs.Split.{followed}
use Rattle.pat_load.proofs.program.push_main.Goals as goal

pub returns : goal.returns
returns c =
    let groups = each_from group_text 1 c.args.workers in
    let last : List ℕ = codes "gather(all, 0) }" ++ 10 ∷ [] in
    followed c.args.text.now.items c.extend_from_slice.new.self.items c.extend_from_slice-2.new.self.items (codes "def main(): Unit { let all = new[Sum] in ") (groups ++ last)
    c.in_ok-extend_from_slice.ensures.items
    (followed c.extend_from_slice.new.self.items c.push_groups.new.text.items c.extend_from_slice-2.new.self.items groups last c.in_ok-push_groups.ensures c.in_ok-extend_from_slice-2.ensures.items)

use Rattle.std.proofs.Common.{◌≡◌, ◌++◌, drop, map}
use Rattle.pat_print.specs.Parts.{behind_commas}
use Rattle.pat_print.proofs.list.put_list.Given as goal

abbrev pub invariant-loop-other : goal.invariant-loop-other
invariant-loop-other g l = l.out.items ++ behind_commas (map g.E.Entry.text (drop l.other-index l.others)) ≡ l.initial.out.items ++ behind_commas (map g.E.Entry.text l.others)

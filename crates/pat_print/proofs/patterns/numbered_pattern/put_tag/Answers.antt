use Rattle.std.proofs.Common.{arith}
use Rattle.std.proofs.lemmas.Grind.{common_steps}
use Rattle.pat_print.proofs.Numbered.{tag_name}
use Rattle.pat_print.proofs.patterns.numbered_pattern.put_tag.Goals as goal

pub returns-in-Some : goal.returns-in-Some
returns-in-Some c =
    let e = tag_name c.args.interface.now.tags c.as_slice.result.now c.args.tag c.in-Some.declared.now c.as_slice.ensures c.in-Some.ensures.lookup.0 c.in-Some.ensures.lookup.1 in
    grind (arith, common_steps, e)

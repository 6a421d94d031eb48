use Rattle.std.proofs.Common.{rules, ◌≡◌, ◌∙◌, [], refl}
use Rattle.std.specs.Prelude.{Some, None}
use Rattle.pat_texts_spec.specs.Joined.{cut}
use Rattle.pat_input_split.specs.Marked.{no_lines}
use Rattle.pat_input_split.proofs.Lines.{cut_shorter, further, found, first_is, first_all}
use Rattle.pat_input_split.proofs.splitting.place_of_mark.Goals as goal

pub loop-line-init : goal.loop-line-init
loop-line-init c = ([], no_lines, refl)

pub returns-then-eq-clause-marked : goal.returns-then-eq-clause-marked
returns-then-eq-clause-marked c =
    let cut_is : cut 10 c.loop-line.rest.now ≡ Some (c.in-Some.line.now, c.in-Some.more.now) = search rules in
    let same : c.in-Some.line.now ≡ c.args.mark.now = search rules in
    found c.args.mark.now c.args.bytes.now c.loop-line.rest.now c.loop-line.invariant
    (first_is c.loop-line.rest.now c.in-Some.line.now c.in-Some.more.now cut_is ∙ same)

pub loop-line-smaller : goal.loop-line-smaller
loop-line-smaller c =
    let cut_is : cut 10 c.loop-line.rest.now ≡ Some (c.in-Some.line.now, c.in-Some.more.now) = search rules in
    cut_shorter 10 c.loop-line.rest.now c.in-Some.line.now c.in-Some.more.now cut_is

pub loop-line-preserved : goal.loop-line-preserved
loop-line-preserved c =
    let cut_is : cut 10 c.loop-line.rest.now ≡ Some (c.in-Some.line.now, c.in-Some.more.now) = search rules in
    further c.args.mark.now c.args.bytes.now c.loop-line.rest.now c.in-Some.line.now c.in-Some.more.now c.loop-line.invariant cut_is (search rules)

pub returns-then-eq-2-clause-marked : goal.returns-then-eq-2-clause-marked
returns-then-eq-2-clause-marked c =
    let cut_is : cut 10 c.loop-line.rest.now ≡ None = search rules in
    let same : c.loop-line.rest.now ≡ c.args.mark.now = search rules in
    found c.args.mark.now c.args.bytes.now c.loop-line.rest.now c.loop-line.invariant (first_all c.loop-line.rest.now cut_is ∙ same)

use Rattle.std.proofs.Common.{◌≡◌, length, arith}
use Rattle.pat_solve_closed_forms.proofs.Kept.{kept_none, none_more, one_more}
use Rattle.pat_solve_closed_forms.proofs.forms.unmade_forms.Goals as goal

pub loop-preserved : goal.loop-preserved
loop-preserved c = record {
  count = one_more c.loop.forms c.push.new.self c.loop.index c.in_ok-push.ensures.ok c.loop.invariant.count;
  none = none_more c.loop.forms c.push.new.self c.in_ok-push.ensures.ok c.loop.invariant.none;
}

pub returns : goal.returns
returns c =
    let as_many : length c.loop.forms ≡ length c.args.by.now.variables.now = let a = c.loop-test.false in let b = c.loop.auto.index-end in let e = c.loop.invariant.count in omega arith in
    kept_none c.args.by.now c.loop.forms as_many c.loop.invariant.none

use Rattle.std.proofs.Common.{rules, ◌≡◌, ap}
use Rattle.std.proofs.lemmas.Result.{err_from_is_err_and}
use Rattle.pat_words_spec.specs.Patterns.{Sum, Prod}
use Rattle.pat_patterns.specs.Views.{pattern_view}
use Rattle.pat_linear.specs.Views.{set_view, sets_view}
use Rattle.pat_linear.proofs.Walked.{factor_within}
use Rattle.pat_linear.proofs.Turns.{walk_starts, walk_small, sum_small, prod_small, sum_tags, prod_tags, sum_turn, prod_turn, factor_stays, factor_still, sum_stops, end_stops}
use Rattle.pat_linear.proofs.along.form_along.Goals as goal

pub loop-rest-init : goal.loop-rest-init
loop-rest-init c = record {
  walked = walk_starts (pattern_view c.args.p.now) (set_view c.only_empty-factor.result) (sets_view c.new-done.result) c.requires.small c.only_empty-factor.ensures (ap sets_view c.new-done.ensures);
  tags = c.requires.tags;
}

-- ---- a sum

pub append_form-requires-clause-small : goal.append_form-requires-clause-small
append_form-requires-clause-small c =
    let l = pattern_view c.deref.result.now in
    let r = pattern_view c.in-Sum.right.value in
    let is : Sum l r ≡ pattern_view c.loop-rest.rest.now = search rules in
    sum_small (pattern_view c.args.p.now) (pattern_view c.loop-rest.rest.now) l r (set_view c.loop-rest.factor) (sets_view c.loop-rest.done) is c.loop-rest.invariant.walked

pub append_form-requires-clause-factor : goal.append_form-requires-clause-factor
append_form-requires-clause-factor c = factor_within (pattern_view c.args.p.now) (pattern_view c.loop-rest.rest.now) (set_view c.loop-rest.factor) (sets_view c.loop-rest.done) c.loop-rest.invariant.walked

pub returns-in_err-append_form-in-Sum : goal.returns-in_err-append_form-in-Sum
returns-in_err-append_form-in-Sum c =
    let l = pattern_view c.deref.result.now in
    let r = pattern_view c.in-Sum.right.value in
    let is : Sum l r ≡ pattern_view c.loop-rest.rest.now = search rules in
    let q = err_from_is_err_and c.from_residual.result c.from_residual.ensures.1 in
    rw (q.1, q.2)
    (sum_stops (pattern_view c.args.p.now) (pattern_view c.loop-rest.rest.now) l r (set_view c.loop-rest.factor) (sets_view c.loop-rest.done) (sets_view c.append_form.new.done) c.in_err-append_form-in-Sum.field-0.0 is c.loop-rest.invariant.walked c.in_err-append_form-in-Sum.ensures)

pub loop-rest-preserved-in-Sum : goal.loop-rest-preserved-in-Sum
loop-rest-preserved-in-Sum c =
    let l = pattern_view c.deref.result.now in
    let r = pattern_view c.deref-rest.result.now in
    let is : Sum l r ≡ pattern_view c.loop-rest.rest.now = search rules in
    record {
      walked = sum_turn (pattern_view c.args.p.now) (pattern_view c.loop-rest.rest.now) l r (set_view c.loop-rest.factor) (sets_view c.loop-rest.done) (sets_view c.append_form.new.done) c.in_ok-append_form-in-Sum.field-0 is c.loop-rest.invariant.walked c.in_ok-append_form-in-Sum.ensures;
      tags = (sum_tags (pattern_view c.loop-rest.rest.now) l r is c.loop-rest.invariant.tags).1;
    }

-- ---- a product

pub multiply_single-requires-clause-small : goal.multiply_single-requires-clause-small
multiply_single-requires-clause-small c =
    let l = pattern_view c.deref-in-Prod.result.now in
    let r = pattern_view c.in-Prod.right.value in
    let is : Prod l r ≡ pattern_view c.loop-rest.rest.now = search rules in
    prod_small (pattern_view c.args.p.now) (pattern_view c.loop-rest.rest.now) l r (set_view c.loop-rest.factor) (sets_view c.loop-rest.done) is c.loop-rest.invariant.walked

pub multiply_single-requires-clause-factor : goal.multiply_single-requires-clause-factor
multiply_single-requires-clause-factor c = factor_within (pattern_view c.args.p.now) (pattern_view c.loop-rest.rest.now) (set_view c.loop-rest.factor) (sets_view c.loop-rest.done) c.loop-rest.invariant.walked

pub append_form-requires-then-not-branch-clause-small :
    goal.append_form-requires-then-not-branch-clause-small
append_form-requires-then-not-branch-clause-small c = walk_small (pattern_view c.args.p.now) (pattern_view c.loop-rest.rest.now) (set_view c.loop-rest.factor) (sets_view c.loop-rest.done) c.loop-rest.invariant.walked

pub append_form-requires-then-not-branch-clause-factor :
    goal.append_form-requires-then-not-branch-clause-factor
append_form-requires-then-not-branch-clause-factor c =
    let stays = factor_stays (pattern_view c.deref-in-Prod.result.now) (set_view c.loop-rest.factor) (set_view c.multiply_single.new.factor) c.in_ok-multiply_single-in-Prod.field-0 c.if-not-branch.true c.in_ok-multiply_single-in-Prod.ensures in
    factor_within (pattern_view c.args.p.now) (pattern_view c.loop-rest.rest.now) (set_view c.multiply_single.new.factor) (sets_view c.loop-rest.done) (factor_still (pattern_view c.args.p.now) (pattern_view c.loop-rest.rest.now) (set_view c.loop-rest.factor) (set_view c.multiply_single.new.factor) (sets_view c.loop-rest.done) c.loop-rest.invariant.walked stays)

pub returns-in_err-append_form-in-Prod : goal.returns-in_err-append_form-in-Prod
returns-in_err-append_form-in-Prod c =
    let stays = factor_stays (pattern_view c.deref-in-Prod.result.now) (set_view c.loop-rest.factor) (set_view c.multiply_single.new.factor) c.in_ok-multiply_single-in-Prod.field-0 c.if-not-branch.true c.in_ok-multiply_single-in-Prod.ensures in
    let q = err_from_is_err_and c.from_residual-in_err-append_form-in-Prod.result c.from_residual-in_err-append_form-in-Prod.ensures.1 in
    rw (q.1, q.2)
    (end_stops (pattern_view c.args.p.now) (pattern_view c.loop-rest.rest.now) (set_view c.multiply_single.new.factor) (sets_view c.loop-rest.done) (sets_view c.append_form-then-not-branch.new.done) c.in_err-append_form-in-Prod.field-0.0 (factor_still (pattern_view c.args.p.now) (pattern_view c.loop-rest.rest.now) (set_view c.loop-rest.factor) (set_view c.multiply_single.new.factor) (sets_view c.loop-rest.done) c.loop-rest.invariant.walked stays) c.in_err-append_form-in-Prod.ensures)

pub loop-rest-preserved : goal.loop-rest-preserved
loop-rest-preserved c =
    let l = pattern_view c.deref-in-Prod.result.now in
    let r = pattern_view c.deref-rest-in-Prod.result.now in
    let is : Prod l r ≡ pattern_view c.loop-rest.rest.now = search rules in
    record {
      walked = prod_turn (pattern_view c.args.p.now) (pattern_view c.loop-rest.rest.now) l r (set_view c.loop-rest.factor) (set_view c.multiply_single.new.factor) (sets_view c.loop-rest.done) c.in_ok-multiply_single-in-Prod.field-0 is c.loop-rest.invariant.walked c.if-not-branch.false c.in_ok-multiply_single-in-Prod.ensures;
      tags = (prod_tags (pattern_view c.loop-rest.rest.now) l r is c.loop-rest.invariant.tags).1;
    }

-- ---- another part, which is the last

pub append_form-requires-in_default : goal.append_form-requires-in_default
append_form-requires-in_default c = record {
  small = walk_small (pattern_view c.args.p.now) (pattern_view c.loop-rest.rest.now) (set_view c.loop-rest.factor) (sets_view c.loop-rest.done) c.loop-rest.invariant.walked;
  tags = c.loop-rest.invariant.tags;
  factor = factor_within (pattern_view c.args.p.now) (pattern_view c.loop-rest.rest.now) (set_view c.loop-rest.factor) (sets_view c.loop-rest.done) c.loop-rest.invariant.walked;
}

pub returns-in_err-append_form-in_default : goal.returns-in_err-append_form-in_default
returns-in_err-append_form-in_default c =
    let q = err_from_is_err_and c.from_residual-in_err-append_form-in_default.result c.from_residual-in_err-append_form-in_default.ensures.1 in
    rw (q.1, q.2)
    (end_stops (pattern_view c.args.p.now) (pattern_view c.loop-rest.rest.now) (set_view c.loop-rest.factor) (sets_view c.loop-rest.done) (sets_view c.append_form-in_default.new.done) c.in_err-append_form-in_default.field-0.0 c.loop-rest.invariant.walked c.in_err-append_form-in_default.ensures)

use Rattle.std.proofs.Common.{ℕ, ◌<◌, ap, sym, subst, ◌∙◌, ⊎_elim, arith}
use Rattle.std.specs.Prelude.{IsTrue}
use Rattle.pat_semantics_laws.specs.Programs.{is_among}
use Rattle.pat_reduce_values.specs.programs.Places.{Ascends, StandsAt, FitsAt}
use Rattle.pat_reduce_values.proofs.VariableSets.{among_more, more_in_order, own_again, put, put_among, small_more}
use Rattle.pat_reduce_values.proofs.programs.variables.Variables.add.Goals as goal
use Rattle.pat_limits.specs.Limits.{number_count}

pub insert_at-requires : goal.insert_at-requires
insert_at-requires c = (subst (λ l. FitsAt l c.args.variable c.in-Err.place) c.as_slice.ensures c.in-Err.ensures.absent).within

pub invariant_of-self : goal.invariant_of-self
invariant_of-self c =
    let own = c.args.self.now in
    let v = c.args.variable in
    let i = c.in-Err.place in
    let fits = subst (λ l. FitsAt l v i) c.as_slice.ensures c.in-Err.ensures.absent in
    let fewer = c.ranges.variable.fits in
    ⊎_elim
    (λ more. record {
      ascends = subst Ascends (sym more) (more_in_order own.listed v i own.ascends fits);
      small = small_more number_count own.listed c.insert_at.new.listed v own.small (omega arith) (λ x. ap (is_among x) more ∙ among_more own.listed v i x fits.within);
    })
    (λ same. record {
      ascends = subst Ascends (sym same) own.ascends;
      small = subst (λ l. (x : ℕ) → IsTrue (is_among x l) → x < number_count) (sym same) own.small;
    })
    (put c.insert_at.result own.listed c.insert_at.new.listed v i c.insert_at.ensures.ok c.insert_at.ensures.err)

pub returns-in-Ok-clause-ok : goal.returns-in-Ok-clause-ok
returns-in-Ok-clause-ok c = λ x. own_again c.args.self.now.listed c.args.variable c.in-Ok.field-0 x (subst (λ l. StandsAt l c.args.variable c.in-Ok.field-0) c.as_slice.ensures c.in-Ok.ensures.found)

pub returns-in-Err-clause-ok : goal.returns-in-Err-clause-ok
returns-in-Err-clause-ok c =
    let fits = subst (λ l. FitsAt l c.args.variable c.in-Err.place) c.as_slice.ensures c.in-Err.ensures.absent in
    put_among c.insert_at.result c.args.self.now.listed c.insert_at.new.listed c.args.variable c.in-Err.place fits.within c.insert_at.ensures.ok

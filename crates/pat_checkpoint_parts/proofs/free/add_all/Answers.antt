use Rattle.std.proofs.Common.{refl, length, not, ap, sym, ◌++◌, ◌∙◌, slice_get}
use Rattle.std.proofs.lemmas.Option.{slice_get_read}
use Rattle.pat_semantics_spec.specs.Programs.{is_among, option_list}
use Rattle.pat_checkpoint_parts.specs.Lists.{list_or_none}
use Rattle.pat_checkpoint_parts.proofs.FreeLists.{all_added}
use Rattle.pat_checkpoint_parts.proofs.free.add_all.Goals as goal

pub returns : goal.returns
returns c = λ x.
    all_added c.loop-variable.own c.args.own.now c.as_slice-variable-items.result.now c.loop-variable.variable-index x (not (is_among x (c.args.bound.now ++ option_list c.args.last))) _ c.loop-variable-test.false (c.loop-variable.invariant x)
    (ap (λ o. is_among x (list_or_none o)) (ap (λ l. slice_get l c.args.node) (sym c.as_slice.ensures) ∙ slice_get_read c.as_slice.result.now (length c.as_slice.result.now) c.args.node c.in-Some.variables.now refl c.in-Some.ensures.lookup.3.0 c.in-Some.ensures.lookup.1) ∙ ap (λ l. is_among x l) (sym c.as_slice-variable-items.ensures))

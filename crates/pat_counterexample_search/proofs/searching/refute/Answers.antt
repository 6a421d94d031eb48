use Rattle.std.proofs.Common.{ap, ◌∙◌, refl}
use Rattle.pat_patterns.specs.Views.{pattern_view, patterns_view}
use Rattle.pat_inclusion_spec.specs.bounds.Symbols.{LowerSymbol}
use Rattle.pat_inclusion_spec.specs.bounds.Layouts.{laid, last_of}
use Rattle.pat_witnesses.specs.Views.{search_view}
use Rattle.pat_grid_points.specs.symbols.Views.{symbols_view}
use Rattle.pat_counterexample_search.proofs.Search.{search_board, search_right, search_least}
use Rattle.pat_counterexample_search.proofs.searching.refute.Goals as goal

pub least_sizes-requires : goal.least_sizes-requires
least_sizes-requires c =
    let left = pattern_view c.args.left.now in
    let right = pattern_view c.args.right.now in
    search_board _ (patterns_view c.args.system.now) left right c.requires.fits c.requires.system c.requires.left c.requires.right c.count_points.ensures refl refl
    (ap symbols_view c.as_slice.ensures ∙ c.in_ok-other.ensures.symbols ∙ ap (λ ys. laid LowerSymbol ys right) (c.in_ok-one.ensures.symbols ∙ ap (λ ys. laid LowerSymbol ys left) c.in_ok-lay_out_all.ensures.symbols))

pub returns-clause-answer : goal.returns-clause-answer
returns-clause-answer c =
    let left = pattern_view c.args.left.now in
    let right = pattern_view c.args.right.now in
    let first = c.in_ok-one.ensures.symbols ∙ ap (λ ys. laid LowerSymbol ys left) c.in_ok-lay_out_all.ensures.symbols in
    search_right _ (patterns_view c.args.system.now) left right c.in_ok-entries.entries c.in_ok-entries.entries c.in_ok-one.one c.in_ok-other.other (search_view c.in_ok-answer.answer) c.closed_laws.ensures.search c.in_ok-entries.ensures.done c.requires.flat c.requires.degree
    (ap symbols_view c.as_slice.ensures ∙ c.in_ok-other.ensures.symbols ∙ ap (λ ys. laid LowerSymbol ys right) first)
    (c.as_slice-2.ensures ∙ c.in_ok-lay_out_all.ensures.roots)
    (c.in_ok-one.ensures.last ∙ ap (λ ys. last_of (laid LowerSymbol ys left)) c.in_ok-lay_out_all.ensures.symbols)
    (c.in_ok-other.ensures.last ∙ ap (λ ys. last_of (laid LowerSymbol ys right)) first)
    c.in_ok-answer.ensures
    refl

pub returns-clause-least : goal.returns-clause-least
returns-clause-least c =
    let left = pattern_view c.args.left.now in
    let right = pattern_view c.args.right.now in
    let first = c.in_ok-one.ensures.symbols ∙ ap (λ ys. laid LowerSymbol ys left) c.in_ok-lay_out_all.ensures.symbols in
    search_least _ (patterns_view c.args.system.now) left right c.in_ok-entries.entries c.in_ok-entries.entries c.in_ok-one.one c.in_ok-other.other (search_view c.in_ok-answer.answer) c.closed_laws.ensures.search c.in_ok-entries.ensures.done c.requires.flat c.requires.degree
    (ap symbols_view c.as_slice.ensures ∙ c.in_ok-other.ensures.symbols ∙ ap (λ ys. laid LowerSymbol ys right) first)
    (c.as_slice-2.ensures ∙ c.in_ok-lay_out_all.ensures.roots)
    (c.in_ok-one.ensures.last ∙ ap (λ ys. last_of (laid LowerSymbol ys left)) c.in_ok-lay_out_all.ensures.symbols)
    (c.in_ok-other.ensures.last ∙ ap (λ ys. last_of (laid LowerSymbol ys right)) first)
    c.in_ok-answer.ensures
    refl

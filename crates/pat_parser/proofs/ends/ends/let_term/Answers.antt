use Rattle.std.proofs.Common.{◌≡◌, ◌∙◌, ap, sym, subst, option_map, Ok}
use Rattle.std.specs.Global.{Box}
use Rattle.pat_parser_spec.specs.Trees as trees
use Rattle.pat_tree.specs.declared.term.Term.{Term}
use Rattle.pat_tree.specs.Views.{name_view, span_view, term_view}
use Rattle.pat_parser.specs.states.Answers.{Gives}
use Rattle.pat_parser.proofs.Places.{place_is}
use Rattle.pat_parser.proofs.ends.ends.let_term.Goals as goal

pub returns : goal.returns
returns c =
    let same : span_view c.deref.result.now.span ≡ trees.term_at (term_view c.args.body.value) = ap (λ (t : Term). span_view t.span) c.deref.ensures ∙ sym (place_is c.args.body.value.form (span_view c.args.body.value.span))
    in subst (λ (at : trees.Span). Gives (λ (t : Box Term). term_view t.value) c.boxed_term.result (Ok (trees.LetTerm (option_map name_view c.args.name) (term_view c.args.bound.value) (term_view c.args.body.value) (trees.span c.args.from at.to)))) same c.boxed_term.ensures

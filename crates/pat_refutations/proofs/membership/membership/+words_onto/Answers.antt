use Rattle.std.proofs.Common.{ap, sym, subst, ◌∙◌, OnOk}
use Rattle.std.proofs.lemmas.Result.{on_ok_weaker}
use Rattle.pat_words_spec.specs.Patterns.{Star}
use Rattle.pat_bags.specs.Views.{word_of}
use Rattle.pat_patterns.specs.declared.pattern.Pattern.{Pattern}
use Rattle.pat_patterns.specs.Views.{pattern_view}
use Rattle.pat_refutations.specs.membership.Listings.{PutsWords, JoinsParts}
use Rattle.pat_refutations.proofs.Spans.{puts_star}
use Rattle.pat_refutations.proofs.membership.membership.+words_onto.Goals as goal

pub returns-in_ok-words_onto-in-Star : goal.returns-in_ok-words_onto-in-Star
returns-in_ok-words_onto-in-Star t c =
    let limit = word_of c.args.limit.now in
    let e = pattern_view c.deref.result.now in
    let shape = ap pattern_view c.in-Star.is ∙ ap (λ (p : Pattern). Star (pattern_view p)) (sym c.deref.ensures) in
    let old = c.args.done.now in
    let below = c.words_onto.new.done in
    let new = c.join_parts.new.done in
    let joins = subst (λ f. OnOk c.join_parts.result (JoinsParts f limit below new)) shape c.join_parts.ensures in
    subst (λ f. OnOk c.join_parts.result (PutsWords old new f limit)) (sym shape)
    (on_ok_weaker c.join_parts.result (puts_star e limit old below new c.in_ok-words_onto-in-Star.ensures) joins)

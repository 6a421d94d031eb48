use Rattle.std.proofs.Common.{◌≡◌, map, string_bytes, ap, ◌∙◌, rules}
use Rattle.std.specs.Prelude.{Some}
use Rattle.std.proofs.lemmas.List.{take_rest}
use Rattle.pat_run.specs.options.Options.{choices, with_option}
use Rattle.pat_run.proofs.Choosing.{chosen_next}
use Rattle.pat_run.proofs.options.options.+choices.Goals as goal

pub returns-in-Some-clause-chosen : goal.returns-in-Some-clause-chosen
returns-in-Some-clause-chosen n c =
    let own : with_option c.args.choice (string_bytes c.name-item.result) (string_bytes c.number-item.result) ≡ Some c.in-Some.more = search rules in
    c.choices.ensures.chosen
    ∙ ap (λ l. choices c.in-Some.more (map string_bytes l)) (take_rest c.args.words.now 2)
    ∙ chosen_next string_bytes c.args.words.now _ _ c.name-item.result c.number-item.result c.args.choice c.in-Some.more c.in-len2-up.len_at_least c.name-item.is c.number-item.is own

use Rattle.std.proofs.Common.{◌≡◌, ◌++◌, ap, ◌∙◌, subst, append_assoc}
use Rattle.std.specs.Prelude.{OnOk, codes}
use Rattle.pat_front.proofs.verdict.push_bad_checkpoint.Goals as goal

pub returns : goal.returns
returns c =
    let old = c.args.text.now.items in
    let whole =
    ap (λ t. t ++ c.name.result.now) c.in_ok-push_words.ensures
    ∙ append_assoc old (codes "bad checkpoint: ") c.name.result.now
    ∙ ap (λ n. old ++ (codes "bad checkpoint: " ++ n)) c.name.ensures
    in
    subst (λ m. OnOk c.push_words-2.result (c.push_words-2.new.text.items ≡ m)) whole c.push_words-2.ensures

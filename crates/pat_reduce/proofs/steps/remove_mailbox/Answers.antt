use Rattle.std.proofs.Common.{rules, ap, ◌∙◌, not, nat_eq}
use Rattle.std.specs.Prelude.{filter}
use Rattle.std.proofs.lemmas.Fn.{filter_same}
use Rattle.pat_reduce.proofs.steps.remove_mailbox.Goals as goal

pub returns : goal.returns
returns c = filter_same _ _ _ (λ x b f' k. search rules) _ _ c.retain.ensures.filtered ∙ ap (filter (λ b. not (nat_eq b c.args.mailbox))) c.live.view_is

use Rattle.std.proofs.Common.{ap, ◌∙◌, [], ◌∷◌, ◌++◌}
use Rattle.pat_checkpoint_text.proofs.gathering.cert_on_last.Goals as goal

pub returns-in_ok-push-in-Some : goal.returns-in_ok-push-in-Some
returns-in_ok-push-in-Some c = record {
  front = c.pop.new.self;
  last = c.in-Some.certs;
  was = c.in-Some.ensures.some;
  is = c.in_ok-push-in-Some.ensures.ok ∙ ap (λ s. c.pop.new.self ++ s ∷ []) c.in_ok-certs-in-Some.ensures;
}

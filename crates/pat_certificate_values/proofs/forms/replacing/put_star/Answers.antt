use Rattle.std.proofs.lemmas.Result.{on_ok_weaker}
use Rattle.pat_words_spec.specs.Patterns.{star_of}
use Rattle.pat_certificate_values.proofs.Pushed.{one_put}
use Rattle.pat_certificate_values.proofs.forms.replacing.put_star.Goals as goal

pub returns : goal.returns
returns c =
    on_ok_weaker c.push.result
    (λ pushed e rest pe. one_put star_of e rest c.args.done.now c.take-part.new.done c.push.new.self c.take-part.result c.in_ok-whole.whole c.in_ok-whole.ensures c.take-part.ensures pushed pe)
    c.push.ensures.ok

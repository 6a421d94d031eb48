use Rattle.std.proofs.Common.{rules}
use Rattle.std.proofs.lemmas.Result.{on_ok_weaker}
use Rattle.pat_words_spec.specs.Patterns.{prod_of}
use Rattle.pat_certificate_values.proofs.Pushed.{two_put}
use Rattle.pat_certificate_values.proofs.forms.replacing.put_product.Goals as goal

pub returns : goal.returns
returns c =
    on_ok_weaker c.push.result
    (λ pushed e f rest middle pe pf. two_put prod_of e f rest middle c.args.done.now c.take-right.new.done c.take-left.new.done c.push.new.self c.take-left.result c.take-right.result c.in_ok-both.both c.in_ok-both.ensures c.take-right.ensures c.take-left.ensures pushed pe pf)
    c.push.ensures.ok

use Rattle.std.proofs.Common.{◌≡◌, ◌+◌, ◌-◌, ◌++◌, ℕ, List, take, drop, ap, sym, subst, ◌∙◌, arith}
use Rattle.std.proofs.lemmas.List.{take-append-drop}
use Rattle.std.proofs.lemmas.Result.{err_from_is_err_and}
use lib.Seq.{take-add}
use Rattle.pat_lexer.specs.Lexed.{HasRead}
use Rattle.pat_lexer.specs.Explains.{Explains}
use Rattle.test_text.proofs.lexer.lexer_behind.Goals as goal

-- a piece behind what was read
read_on : (text : List ℕ) (at n : ℕ) → take at text ++ take (at + n - at) (drop at text) ≡ take (at + n) text
read_on text at n =
    let same : at + n - at ≡ n = omega arith in
    ap (λ m. take at text ++ take m (drop at text)) same ∙ sym (take-add at n text)

pub loop-at-init : goal.loop-at-init
loop-at-init c = record { read = c.new-lexer.ensures.read; going = c.new-lexer.ensures.fresh; at = omega arith }

pub returns-in_err-feed-clause-refused : goal.returns-in_err-feed-clause-refused
returns-in_err-feed-clause-refused c =
    let q = err_from_is_err_and c.from_residual.result c.from_residual.ensures.1 in
    let text = c.args.text.now in
    let at = c.loop-at.at in
    let n = c.min.result in
    let h = subst (λ l. HasRead l c.feed.new.self) (read_on text at n) (c.feed.ensures.read (take at text) c.loop-at.invariant.read) in
    rw (q.1, q.2) (subst (λ l. Explains l c.in_err-feed.field-0.0) (take-append-drop (at + n) text) (h.refused c.in_err-feed.field-0.0 c.in_err-feed.ensures.answer (drop (at + n) text)))

pub loop-at-preserved : goal.loop-at-preserved
loop-at-preserved c =
    let text = c.args.text.now in
    let at = c.loop-at.at in
    let n = c.min.result in
    record {
      read = subst (λ l. HasRead l c.feed.new.self) (read_on text at n) (c.feed.ensures.read (take at text) c.loop-at.invariant.read);
      going = c.in_ok-feed.ensures.answer;
      at = omega (arith, c.min.ensures);
    }

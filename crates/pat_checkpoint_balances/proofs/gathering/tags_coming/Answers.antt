use Rattle.std.proofs.Common.{◌++◌, ◌+◌, [], ◌∷◌, ap, sym, ◌∙◌, map, take, arith}
use Rattle.std.proofs.lemmas.List.{map_more, take_all}
use Rattle.pat_words_spec.specs.Patterns.{Tag}
use Rattle.pat_reduce.specs.threads.ThreadViews.{message_view}
use Rattle.pat_checkpoint_balances.specs.Gathered.{rows_view, with_one, tags_of}
use Rattle.pat_checkpoint_balances.proofs.RowLaws.{same_maps, empty_rows, tag_more}
use Rattle.pat_checkpoint_balances.proofs.gathering.tags_coming.Goals as goal

pub loop-message-init : goal.loop-message-init
loop-message-init c = ap rows_view c.in_ok-rows.ensures ∙ empty_rows c.args.live.now

pub loop-message-preserved : goal.loop-message-preserved
loop-message-preserved c =
    let ms = c.args.messages.now in
    let i = c.loop-message.message-index in
    let m = c.message-item.result in
    let done = map message_view (take i ms) in
    c.in_ok-add.ensures (tags_of done) c.loop-message.invariant
    ∙ same_maps (with_one (tags_of done) m.mailbox (Tag m.tag)) (tags_of (done ++ message_view m ∷ [])) c.args.live.now (λ b. tag_more done (message_view m) b)
    ∙ ap (λ l. map (tags_of l) c.args.live.now) (sym (map_more message_view ms i m c.loop-message-test.true ∙ ap (λ z. done ++ message_view z ∷ []) (sym c.message-item.is)))

pub returns : goal.returns
returns c =
    c.loop-message.invariant
    ∙ ap (λ l. map (tags_of (map message_view l)) c.args.live.now) (take_all c.loop-message.message-index c.args.messages.now (omega (arith, c.loop-message-test.false)))

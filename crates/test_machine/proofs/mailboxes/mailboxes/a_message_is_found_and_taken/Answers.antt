use Rattle.std.proofs.Common.{◌≡◌, List, [], Option, slice_get, refl, ap, ◌∙◌}
use Rattle.pat_mailboxes.specs.Mailboxes.{Mailbox, Contents, pending_at}
use Rattle.pat_reduce.specs.declared.threads.state.Message.{Message}
use Rattle.test_machine.proofs.Live.{first_made, one_made, one_set, one_live, first_pending, none_left}
use Rattle.test_machine.proofs.mailboxes.mailboxes.a_message_is_found_and_taken.Goals as goal

pub send-requires-clause-live : goal.send-requires-clause-live
send-requires-clause-live g c =
    let none : c.reserve.new.self.mailboxes ≡ [] = c.reserve.ensures.same.0 ∙ ap (λ (v : Contents). v.mailboxes) (first_made c.fixed.result c.expect-mailboxes.result _ c.expect-mailboxes.ensures c.fixed.ensures) in
    let made = one_made c.reserve.new.self.mailboxes c.create.new.self.mailboxes _ none (ap (λ (v : Contents). v.mailboxes) c.create.ensures) in
    one_live c.create.new.self.mailboxes _ made

pub find-requires : goal.find-requires
find-requires g c =
    let none : c.reserve.new.self.mailboxes ≡ [] = c.reserve.ensures.same.0 ∙ ap (λ (v : Contents). v.mailboxes) (first_made c.fixed.result c.expect-mailboxes.result _ c.expect-mailboxes.ensures c.fixed.ensures) in
    let made = one_made c.reserve.new.self.mailboxes c.create.new.self.mailboxes _ none (ap (λ (v : Contents). v.mailboxes) c.create.ensures) in
    let sent = one_set c.create.new.self.mailboxes c.send.new.self.mailboxes _ _ made (ap (λ (v : Contents). v.mailboxes) c.send.ensures) in
    one_live c.send.new.self.mailboxes _ sent

pub free-requires-clause-live : goal.free-requires-clause-live
free-requires-clause-live g c =
    let none : c.reserve.new.self.mailboxes ≡ [] = c.reserve.ensures.same.0 ∙ ap (λ (v : Contents). v.mailboxes) (first_made c.fixed.result c.expect-mailboxes.result _ c.expect-mailboxes.ensures c.fixed.ensures) in
    let made = one_made c.reserve.new.self.mailboxes c.create.new.self.mailboxes _ none (ap (λ (v : Contents). v.mailboxes) c.create.ensures) in
    let sent = one_set c.create.new.self.mailboxes c.send.new.self.mailboxes _ _ made (ap (λ (v : Contents). v.mailboxes) c.send.ensures) in
    let taken = one_set c.send.new.self.mailboxes c.take.new.self.mailboxes _ _ sent (ap (λ (v : Contents). v.mailboxes) c.take.ensures.rest.2) in
    one_live c.take.new.self.mailboxes _ taken

pub take-requires-clause-there : goal.take-requires-clause-there
take-requires-clause-there g c =
    let none : c.reserve.new.self.mailboxes ≡ [] = c.reserve.ensures.same.0 ∙ ap (λ (v : Contents). v.mailboxes) (first_made c.fixed.result c.expect-mailboxes.result _ c.expect-mailboxes.ensures c.fixed.ensures) in
    let made = one_made c.reserve.new.self.mailboxes c.create.new.self.mailboxes _ none (ap (λ (v : Contents). v.mailboxes) c.create.ensures) in
    let sent = one_set c.create.new.self.mailboxes c.send.new.self.mailboxes _ _ made (ap (λ (v : Contents). v.mailboxes) c.send.ensures) in
    let pending = first_pending c.create.new.self.mailboxes c.send.new.self.mailboxes _ made sent in
    (0, (_, ap (λ (ms : List Message). slice_get ms 0) pending, refl, refl))

pub free-requires-clause-empty : goal.free-requires-clause-empty
free-requires-clause-empty g c =
    let none : c.reserve.new.self.mailboxes ≡ [] = c.reserve.ensures.same.0 ∙ ap (λ (v : Contents). v.mailboxes) (first_made c.fixed.result c.expect-mailboxes.result _ c.expect-mailboxes.ensures c.fixed.ensures) in
    let made = one_made c.reserve.new.self.mailboxes c.create.new.self.mailboxes _ none (ap (λ (v : Contents). v.mailboxes) c.create.ensures) in
    let sent = one_set c.create.new.self.mailboxes c.send.new.self.mailboxes _ _ made (ap (λ (v : Contents). v.mailboxes) c.send.ensures) in
    let pending = first_pending c.create.new.self.mailboxes c.send.new.self.mailboxes _ made sent in
    let took = c.take.ensures.rest in
    let taken = one_set c.send.new.self.mailboxes c.take.new.self.mailboxes _ _ sent (ap (λ (v : Contents). v.mailboxes) took.2) in
    ap (λ (ms : List (Option Mailbox)). pending_at ms 0) taken ∙ none_left (pending_at c.send.new.self.mailboxes 0) _ _ took.0 pending took.1

-- Mailboxes as callers see them.
use Rattle.std.proofs.Common.{◌≡◌, ℕ, List, [], ◌∷◌, ◌++◌, slice_get, slice_set, Option, Some, None, sym, ap, ◌∙◌, subst}
use Rattle.pat_mailboxes.specs.queues.Queues.{values_at}
use Rattle.pat_reduce.specs.declared.threads.state.Message.{Message}
use Rattle.pat_mailboxes.specs.Mailboxes.{Mailbox, Contents, IsLive, pending_at}
use Rattle.pat_mailboxes.specs.Kept.{mailboxes_of}
use Rattle.pat_mailboxes.proofs.Keeping.{entry_at, pending_is}

abbrev pub contents_of : List (Option Mailbox) → ℕ → ℕ → Contents
contents_of ms room spare = record { mailboxes = ms; room = room; spare = spare }

module _ (es : List (Option ℕ)) (qs : List (Option (List Message))) (room spare : ℕ) (seen : Contents) (view : contents_of (mailboxes_of es qs) room spare ≡ seen) where
  pub first : mailboxes_of es qs ≡ seen.mailboxes
  first = ap (λ (c : Contents). c.mailboxes) view

  -- a live mailbox has an entry, in the slice that is read
  pub seen_entry : (b : ℕ) (read : List (Option ℕ)) → read ≡ es → IsLive seen.mailboxes b → (e : ℕ) × (slice_get read b ≡ Some (Some e))
  seen_entry b read same live =
      let e = entry_at es qs b (subst (λ ms. IsLive ms b) (sym first) live) in
      (e.0, ap (λ xs. slice_get xs b) same ∙ e.1)

  module _ (b : ℕ) (e : ℕ) (at : slice_get es b ≡ Some (Some e)) where
    pub seen_pending : pending_at seen.mailboxes b ≡ values_at qs e
    seen_pending = ap (λ ms. pending_at ms b) (sym first) ∙ pending_is es qs b e at

    -- what a mailbox becomes
    pub returned : (f : List Message → List Message) (new : List (Option Mailbox)) → new ≡ slice_set (mailboxes_of es qs) b (Some (record { pending = f (values_at qs e) }))
        → contents_of new room spare ≡ contents_of (slice_set seen.mailboxes b (Some (record { pending = f (pending_at seen.mailboxes b) }))) seen.room seen.spare
    returned f new is =
        ap (λ ms. contents_of ms room spare)
        (is ∙ ap (λ (vs : List Message). slice_set (mailboxes_of es qs) b (Some (record { pending = f vs }))) (sym (pending_is es qs b e at)))
        ∙ ap (λ (c : Contents). contents_of (slice_set c.mailboxes b (Some (record { pending = f (pending_at c.mailboxes b) }))) c.room c.spare) view

  pub freed : (b : ℕ) (new : List (Option Mailbox)) → new ≡ slice_set (mailboxes_of es qs) b None → contents_of new room spare ≡ contents_of (slice_set seen.mailboxes b None) seen.room seen.spare
  freed b new is = ap (λ ms. contents_of ms room spare) is ∙ ap (λ (c : Contents). contents_of (slice_set c.mailboxes b None) c.room c.spare) view

  pub made : (m : Option Mailbox) (less : ℕ → ℕ) (new : List (Option Mailbox)) → new ≡ mailboxes_of es qs ++ m ∷ [] → contents_of new room (less spare) ≡ contents_of (seen.mailboxes ++ m ∷ []) seen.room (less seen.spare)
  made m less new is = ap (λ ms. contents_of ms room (less spare)) is ∙ ap (λ (c : Contents). contents_of (c.mailboxes ++ m ∷ []) c.room (less c.spare)) view

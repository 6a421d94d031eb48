-- Mailboxes as they are kept, while one of them changes.
use Rattle.std.proofs.Common.{◌≡◌, ℕ, zero, suc, ◌+◌, ◌<◌, ◌≤◌, cond, nat_eq, List, [], ◌∷◌, ◌++◌, inl, inr, ⊎_elim, length, slice_get, slice_set, Option, Some, None, refl, sym, ap, ◌∙◌, subst, arith, ne_eqb, eq-zero-or-pos}
use Rattle.std.specs.Option.{unwrap_or}
use Rattle.std.proofs.lemmas.Bool.{cases_eq}
use Rattle.std.proofs.lemmas.List.{map-append, length-map}
use Rattle.pat_mailboxes.specs.queues.Nodes.{times}
use Rattle.pat_mailboxes.specs.queues.Queues.{queue_at, values_at, IsLive as IsLiveQueue, Becomes}
use Rattle.pat_mailboxes.proofs.NodeLaws.{itself, differs, times-append}
use Rattle.pat_reduce.specs.declared.threads.state.Message.{Message}
use Rattle.pat_mailboxes.specs.Mailboxes.{Mailbox, mailbox_at, IsLive, pending_in, pending_at, all_pending, IsInOrder, AreInOrder}
use Rattle.pat_mailboxes.specs.Kept.{shown, mailboxes_of, counts, times_had, AreKept}
use Rattle.pat_mailboxes.proofs.Messages.{order_set, order_more, order_none, all-set, all-push, all-part}

abbrev shown_of : List (Option (List Message)) → Option (Option ℕ) → Option Mailbox
shown_of queues None = None
shown_of queues (Some o) = shown queues o

at_is : (es : List (Option ℕ)) (qs : List (Option (List Message))) (b : ℕ) → mailbox_at (mailboxes_of es qs) b ≡ shown_of qs (slice_get es b)
at_is [] qs b = refl
at_is (o ∷ os) qs zero = refl
at_is (o ∷ os) qs (suc b) = at_is os qs b

entry_in : (qs : List (Option (List Message))) (o : Option (Option ℕ)) (m : Mailbox) → shown_of qs o ≡ Some m → (e : ℕ) × (o ≡ Some (Some e))
entry_in qs None m is = absurd cc
entry_in qs (Some None) m is = absurd cc
entry_in qs (Some (Some e)) m is = (e, refl)

-- a live mailbox has an entry
pub entry_at : (es : List (Option ℕ)) (qs : List (Option (List Message))) (b : ℕ) → IsLive (mailboxes_of es qs) b → (e : ℕ) × (slice_get es b ≡ Some (Some e))
entry_at es qs b live = entry_in qs (slice_get es b) live.0 (sym (at_is es qs b) ∙ live.1)

pub pending_is : (es : List (Option ℕ)) (qs : List (Option (List Message))) (b : ℕ) (e : ℕ) → slice_get es b ≡ Some (Some e) → pending_at (mailboxes_of es qs) b ≡ values_at qs e
pending_is es qs b e at = ap pending_in (at_is es qs b ∙ ap (shown_of qs) at)

pub inside : {X : Type 0} (xs : List X) (i : ℕ) (x : X) → slice_get xs i ≡ Some x → i < length xs
inside [] i x e = absurd cc
inside (y ∷ ys) zero x e = omega arith
inside (y ∷ ys) (suc i) x e = let rest = inside ys i x e in omega arith

set_same : {X : Type 0} (xs : List X) (i : ℕ) (x : X) → slice_get xs i ≡ Some x → slice_set xs i x ≡ xs
set_same [] i x e = refl
set_same (y ∷ ys) zero x e = let same : x ≡ y = cc in ap (λ z. z ∷ ys) same
set_same (y ∷ ys) (suc i) x e = ap (λ zs. y ∷ zs) (set_same ys i x e)

had-set : (q : ℕ) (es : List (Option ℕ)) (b : ℕ) (o new : Option ℕ) → slice_get es b ≡ Some o → times_had q (slice_set es b new) + counts q o ≡ times_had q es + counts q new
had-set q [] b o new at = absurd cc
had-set q (x ∷ xs) zero o new at = let same : x ≡ o = cc in let e = ap (counts q) same in omega arith
had-set q (x ∷ xs) (suc b) o new at = let rest = had-set q xs b o new at in omega arith

had-push : (q : ℕ) (es : List (Option ℕ)) (o : Option ℕ) → times_had q (es ++ o ∷ []) ≡ times_had q es + counts q o
had-push q [] o = omega arith
had-push q (x ∷ xs) o = let rest = had-push q xs o in omega arith

others_same : (es : List (Option ℕ)) (qs qs' : List (Option (List Message))) (q : ℕ) → times_had q es ≡ 0 → ((r : ℕ) → (r ≡ q → ⊥) → queue_at qs' r ≡ queue_at qs r) → mailboxes_of es qs' ≡ mailboxes_of es qs
others_same [] qs qs' q none f = refl
others_same (None ∷ es) qs qs' q none f = let rest : times_had q es ≡ 0 = omega arith in ap (λ ms. None ∷ ms) (others_same es qs qs' q rest f)
others_same (Some e ∷ es) qs qs' q none f =
    let d = differs q e (times_had q es) none in
    let same : values_at qs' e ≡ values_at qs e = ap (λ o. unwrap_or o []) (f e (λ s. d.0 (sym s))) in
    let own : shown qs' (Some e) ≡ shown qs (Some e) = ap (λ (vs : List Message). Some (record { pending = vs })) same in
    ap (λ m. m ∷ mailboxes_of es qs') own ∙ ap (λ ms. shown qs (Some e) ∷ ms) (others_same es qs qs' q d.1 f)

but_one : (es : List (Option ℕ)) (qs qs' : List (Option (List Message))) (q b : ℕ) (new : Option ℕ) → times_had q (slice_set es b None) ≡ 0 → ((r : ℕ) → (r ≡ q → ⊥) → queue_at qs' r ≡ queue_at qs r)
    → mailboxes_of (slice_set es b new) qs' ≡ slice_set (mailboxes_of es qs) b (shown qs' new)
but_one [] qs qs' q b new none f = refl
but_one (x ∷ xs) qs qs' q zero new none f = let rest : times_had q xs ≡ 0 = omega arith in ap (λ ms. shown qs' new ∷ ms) (others_same xs qs qs' q rest f)
but_one (None ∷ xs) qs qs' q (suc b) new none f = let rest : times_had q (slice_set xs b None) ≡ 0 = omega arith in ap (λ ms. None ∷ ms) (but_one xs qs qs' q b new rest f)
but_one (Some e ∷ xs) qs qs' q (suc b) new none f =
    let d = differs q e (times_had q (slice_set xs b None)) none in
    let same : values_at qs' e ≡ values_at qs e = ap (λ o. unwrap_or o []) (f e (λ s. d.0 (sym s))) in
    let own : shown qs' (Some e) ≡ shown qs (Some e) = ap (λ (vs : List Message). Some (record { pending = vs })) same in
    ap (λ m. m ∷ mailboxes_of (slice_set xs b new) qs') own ∙ ap (λ ms. shown qs (Some e) ∷ ms) (but_one xs qs qs' q b new d.1 f)

-- what is at hand of one entry
module _ (es : List (Option ℕ)) (ready : List ℕ) (qs : List (Option (List Message))) (spare room b : ℕ) (e : ℕ) (k : AreKept es ready qs spare room) (at : slice_get es b ≡ Some (Some e)) where
  had : times_had e es ≡ times_had e (slice_set es b None) + 1
  had = let set = had-set e es b (Some e) None at in let own = itself e in omega arith

  alone : times_had e (slice_set es b None) ≡ 0
  alone = let h = had in let once = k.once e in omega arith

  unready : times e ready ≡ 0
  unready = let h = had in let once = k.once e in omega arith

  pub live_queue : IsLiveQueue qs e
  live_queue = let h = had in k.live e (omega arith)

  wide : b < length (mailboxes_of es qs)
  wide = let size = length-map es (shown qs) in let within = inside es b (Some e) at in omega arith

  pub pending_fits : length (values_at qs e) + spare ≤ room
  pending_fits =
      let part = all-part (mailboxes_of es qs) b in
      let own = ap length (pending_is es qs b e at) in
      let all = k.all in
      omega arith

  -- its queue changes
  pub queue_changed : (qs' : List (Option (List Message))) (spare' : ℕ) (vs : List Message) → Becomes qs qs' e (Some vs) → IsInOrder b vs → length vs + spare' ≡ length (values_at qs e) + spare
      → AreKept es ready qs' spare' room × (mailboxes_of es qs' ≡ slice_set (mailboxes_of es qs) b (Some (record { pending = vs })))
  queue_changed qs' spare' vs becomes order sizes =
      let m : Mailbox = record { pending = vs } in
      let here : shown qs' (Some e) ≡ Some m = ap (λ o. Some (record { pending = unwrap_or o [] })) becomes.here in
      let eq : mailboxes_of es qs' ≡ slice_set (mailboxes_of es qs) b (Some m) =
      ap (λ x. mailboxes_of x qs') (sym (set_same es b (Some e) at)) ∙ but_one es qs qs' e b (Some e) alone becomes.others ∙ ap (slice_set (mailboxes_of es qs) b) here in (
        record {
          once = k.once;
          live = λ q some.
              ⊎_elim (λ (is : q ≡ e). subst (IsLiveQueue qs') (sym is) (vs, becomes.here))
              (λ (ne : q ≡ e → ⊥). let l = k.live q some in (l.0, becomes.others q ne ∙ l.1))
              (cases_eq q e);
          empty = λ q some. becomes.others q (λ (is : q ≡ e). let c = ap (λ n. times n ready) is in let u = unready in absurd (omega arith)) ∙ k.empty q some;
          order = subst AreInOrder (sym eq) (order_set (mailboxes_of es qs) b (Some m) wide order k.order);
          all =
              let set = all-set (mailboxes_of es qs) b (Some m) wide in
              let own = ap length (pending_is es qs b e at) in
              let all = k.all in
              let sum = ap all_pending eq in
              omega arith;
        },
        eq,
      )

  -- it is freed
  pub entry_freed : (qs' : List (Option (List Message))) → values_at qs e ≡ [] → Becomes qs qs' e None
      → AreKept (slice_set es b None) ready qs' spare room × (mailboxes_of (slice_set es b None) qs' ≡ slice_set (mailboxes_of es qs) b None)
  entry_freed qs' none becomes =
      let es' = slice_set es b None in
      let eq : mailboxes_of es' qs' ≡ slice_set (mailboxes_of es qs) b None = but_one es qs qs' e b None alone becomes.others in
      let fewer : (q : ℕ) → times_had q es' ≤ times_had q es = λ q. let set = had-set q es b (Some e) None at in omega arith in (
        record {
          once = λ q. let c = fewer q in let once = k.once q in omega arith;
          live = λ q some. let c = fewer q in let l = k.live q (omega arith) in (l.0, becomes.others q (λ (is : q ≡ e). let c = ap (λ n. times_had n es') is in let a = alone in absurd (omega arith)) ∙ l.1);
          empty = λ q some. becomes.others q (λ (is : q ≡ e). let c = ap (λ n. times n ready) is in let u = unready in absurd (omega arith)) ∙ k.empty q some;
          order = subst AreInOrder (sym eq) (order_set (mailboxes_of es qs) b None wide (order_none b) k.order);
          all =
              let set = all-set (mailboxes_of es qs) b None wide in
              let own = ap length (pending_is es qs b e at ∙ none) in
              let all = k.all in
              let sum = ap all_pending eq in
              omega arith;
        },
        eq,
      )

-- a ready queue becomes a mailbox's
pub entry_made : (es : List (Option ℕ)) (ready : List ℕ) (qs : List (Option (List Message))) (spare room q : ℕ) → AreKept es (ready ++ q ∷ []) qs spare room → AreKept (es ++ Some q ∷ []) ready qs spare room × (mailboxes_of (es ++ Some q ∷ []) qs ≡ mailboxes_of es qs ++ Some (record { pending = [] }) ∷ [])
entry_made es ready qs spare room q k =
    let own = itself q in
    let ready_at : (r : ℕ) → times r (ready ++ q ∷ []) ≡ times r ready + counts r (Some q) = λ r. let c = times-append r ready (q ∷ []) in omega arith in
    let here = ready_at q in
    let empty = k.empty q (omega arith) in
    let shows : shown qs (Some q) ≡ Some (record { pending = [] }) = ap (λ o. Some (record { pending = unwrap_or o [] })) empty in
    let eq : mailboxes_of (es ++ Some q ∷ []) qs ≡ mailboxes_of es qs ++ Some (record { pending = [] }) ∷ [] = map-append (shown qs) es (Some q ∷ []) ∙ ap (λ m. mailboxes_of es qs ++ m ∷ []) shows in (
      record {
        once = λ r. let once = k.once r in let a = ready_at r in let b = had-push r es (Some q) in omega arith;
        live = λ r some.
            ⊎_elim (λ (is : r ≡ q). subst (IsLiveQueue qs) (sym is) ([], empty))
            (λ (ne : r ≡ q → ⊥). let b = had-push r es (Some q) in let c = ap (λ v. let f : ℕ = cond v 1 0 in f) (ne_eqb r q ne) in k.live r (omega arith))
            (cases_eq r q);
        empty = λ r some. let a = ready_at r in k.empty r (omega arith);
        order = subst AreInOrder (sym eq) (order_more (mailboxes_of es qs) (record { pending = [] }) refl k.order);
        all = let sum = ap all_pending eq ∙ all-push (mailboxes_of es qs) (Some (record { pending = [] })) in let all = k.all in omega arith;
      },
      eq,
    )

-- a further queue is ready
pub queue_opened : (es : List (Option ℕ)) (ready : List ℕ) (qs qs' : List (Option (List Message))) (spare room q : ℕ) → AreKept es ready qs spare room → queue_at qs q ≡ None → Becomes qs qs' q (Some [])
    → AreKept es (ready ++ q ∷ []) qs' spare room × (mailboxes_of es qs' ≡ mailboxes_of es qs)
queue_opened es ready qs qs' spare room q k fresh becomes =
    let no_live : IsLiveQueue qs q → ⊥ = λ l. let e : None ≡ Some l.0 = sym fresh ∙ l.1 in absurd cc in
    let unhad : times_had q es ≡ 0 = elim (eq-zero-or-pos (times_had q es)) [ inl z ↦ z | inr p ↦ absurd (no_live (k.live q p)) ] in
    let unready : times q ready ≡ 0 = elim (eq-zero-or-pos (times q ready)) [ inl z ↦ z | inr p ↦ absurd (no_live ([], k.empty q p)) ] in
    let eq : mailboxes_of es qs' ≡ mailboxes_of es qs = others_same es qs qs' q unhad becomes.others in
    let ready_at : (r : ℕ) → times r (ready ++ q ∷ []) ≡ times r ready + (cond (nat_eq r q) 1 0) = λ r. let c = times-append r ready (q ∷ []) in omega arith in (
      record {
        once = λ r.
            ⊎_elim (λ (is : r ≡ q). subst (λ n. times n (ready ++ q ∷ []) + times_had n es ≤ 1) (sym is) (let a = ready_at q in let own = itself q in omega arith))
            (λ (ne : r ≡ q → ⊥). let a = ready_at r in let c = ap (λ v. let f : ℕ = cond v 1 0 in f) (ne_eqb r q ne) in let once = k.once r in omega arith)
            (cases_eq r q);
        live = λ r some. let l = k.live r some in (l.0, becomes.others r (λ (is : r ≡ q). let c = ap (λ n. times_had n es) is in absurd (omega arith)) ∙ l.1);
        empty = λ r some.
            ⊎_elim (λ (is : r ≡ q). ap (queue_at qs') is ∙ becomes.here)
            (λ (ne : r ≡ q → ⊥). let a = ready_at r in let c = ap (λ v. let f : ℕ = cond v 1 0 in f) (ne_eqb r q ne) in becomes.others r ne ∙ k.empty r (omega arith))
            (cases_eq r q);
        order = subst AreInOrder (sym eq) k.order;
        all = ap (λ ms. all_pending ms + spare) eq ∙ k.all;
      },
      eq,
    )

-- Rows of patterns, one for each live mailbox.
use Rattle.std.proofs.Common.{◌≡◌, ℕ, zero, suc, ◌+◌, true, false, cond, nat_eq, nat_le, if◌then◌else◌, List, [], ◌∷◌, ◌++◌, length, map, replicate, Some, refl, sym, ap, ap₂, ◌∙◌, arith, append_assoc, ⊎_elim}
use Rattle.std.specs.Prelude.{slice_get, filter}
use Rattle.std.proofs.lemmas.Bool.{cond-true, cond-false, eq-eqb, eqb-true, ne_eqb, and_parts, or_parts, cases_Bool, false≢true}
use Rattle.std.proofs.lemmas.List.{append-nil, map-append}
use Rattle.pat_words_spec.specs.Patterns.{Pat, Tag}
use Rattle.pat_semantics_spec.specs.Programs.{is_among, Sending, Receiving}
use Rattle.pat_semantics_spec.specs.Configs.{Message}
use Rattle.pat_type_system_spec.specs.Types.{MailboxType}
use Rattle.pat_patterns.specs.declared.pattern.Pattern.{Pattern}
use Rattle.pat_patterns.specs.Views.{pattern_view, patterns_view}
use Rattle.pat_checkpoint_spec.specs.Numbers.{ascends}
use Rattle.pat_checkpoint_spec.specs.HoldingsInOrder.{Held, sends_by, types_of, sending, receiving}
use Rattle.pat_type_system_spec.specs.Holdings.{receives_by}
use Rattle.pat_checkpoint_spec.specs.Balances.{pending_tags}
use Rattle.pat_checkpoint_balances.specs.Gathered.{rows_view, put_at, with_one, tags_of, coming, expected}
use Rattle.pat_checkpoint_balances.proofs.Halves.{at_above, none_below}

-- ---- lists

pub same_maps : {A : Type 0} (f g : ℕ → A) (ks : List ℕ) → ((k : ℕ) → f k ≡ g k) → map f ks ≡ map g ks
same_maps f g [] h = refl
same_maps f g (k ∷ ks) h = ap₂ (λ x xs. x ∷ xs) (h k) (same_maps f g ks h)

pub empty_rows : (live : List ℕ) → rows_view (replicate (length live) []) ≡ map (λ a. []) live
empty_rows [] = refl
empty_rows (a ∷ more) = ap (λ rows. [] ∷ rows) (empty_rows more)

eq_turn : (a b : ℕ) → nat_eq a b ≡ nat_eq b a
eq_turn a b =
    ⊎_elim
    (λ q. q ∙ sym (eq-eqb b a (sym (eqb-true a b q))))
    (λ q. q ∙ sym (ne_eqb b a (λ e. absurd (false≢true (sym q ∙ eq-eqb a b (sym e))))))
    (cases_Bool (nat_eq a b))

-- ---- one more pattern

-- it changes nothing of mailboxes that aren't there
pub unchanged : (row : ℕ → List Pat) (a : ℕ) (e : Pat) (live : List ℕ) → is_among a live ≡ false → map row live ≡ map (with_one row a e) live
unchanged row a e [] h = refl
unchanged row a e (b ∷ bs) h =
    let both = or_parts (nat_eq a b) (is_among a bs) h in
    ap₂ (λ x xs. x ∷ xs) (sym (cond-false (nat_eq a b) (row b ++ e ∷ []) (row b) both.0)) (unchanged row a e bs both.1)

pub put_one : (n : ℕ) (live : List ℕ) (rows : List (List Pattern)) (k a : ℕ) (row : ℕ → List Pat) (x : Pattern) → ascends n live ≡ true → slice_get live k ≡ Some a → rows_view rows ≡ map row live → rows_view (put_at rows k x) ≡ map (with_one row a (pattern_view x)) live
put_one n [] rows zero a row x up at same = cc
put_one n [] rows (suc k) a row x up at same = cc
put_one n (b ∷ bs) [] k a row x up at same = cc
put_one n (b ∷ bs) (r ∷ rs) zero a row x up at same =
    let here : b ≡ a = cc in
    let both = and_parts (nat_le n b) (ascends (suc b) bs) up in
    let first : patterns_view r ≡ row b = cc in
    let rest : rows_view rs ≡ map row bs = cc in
    ap₂ (λ z zs. z ∷ zs)
    (map-append pattern_view r (x ∷ []) ∙ ap (λ z. z ++ pattern_view x ∷ []) first ∙ sym (cond-true (nat_eq a b) (row b ++ pattern_view x ∷ []) (row b) (eq-eqb a b (sym here))))
    (rest ∙ unchanged row a (pattern_view x) bs (none_below (suc b) bs a both.1 (omega arith)))
put_one n (b ∷ bs) (r ∷ rs) (suc k) a row x up at same =
    let both = and_parts (nat_le n b) (ascends (suc b) bs) up in
    let above = at_above (suc b) bs k a both.1 at in
    let first : patterns_view r ≡ row b = cc in
    let rest : rows_view rs ≡ map row bs = cc in
    ap₂ (λ z zs. z ∷ zs)
    (first ∙ sym (cond-false (nat_eq a b) (row b ++ pattern_view x ∷ []) (row b) (ne_eqb a b (λ e. omega arith))))
    (put_one (suc b) bs rs k a row x both.1 at rest)

-- ---- pending tags

tags_join : (ms : List Message) (m : Message) (b : ℕ) → tags_of (ms ++ m ∷ []) b ≡ tags_of ms b ++ (if nat_eq m.mailbox b then Tag m.tag ∷ [] else [])
tags_join [] m b =
    elim (nat_eq m.mailbox b) as (λ t. map (λ (m : Message). Tag m.tag) (cond t (m ∷ []) []) ≡ (if t then Tag m.tag ∷ [] else [])) [
      | true ↦ refl
      | false ↦ refl
    ]
tags_join (k ∷ ms) m b =
    elim (nat_eq k.mailbox b) as (λ t. map (λ (m : Message). Tag m.tag) (cond t (k ∷ filter (λ m. nat_eq m.mailbox b) (ms ++ m ∷ [])) (filter (λ m. nat_eq m.mailbox b) (ms ++ m ∷ []))) ≡ map (λ (m : Message). Tag m.tag) (cond t (k ∷ filter (λ m. nat_eq m.mailbox b) ms) (filter (λ m. nat_eq m.mailbox b) ms)) ++ (if nat_eq m.mailbox b then Tag m.tag ∷ [] else [])) [
      | true ↦ ap (λ l. Tag k.tag ∷ l) (tags_join ms m b)
      | false ↦ tags_join ms m b
    ]

add_if : (t : _) (xs : List Pat) (e : Pat) → xs ++ (if t then e ∷ [] else []) ≡ (if t then xs ++ e ∷ [] else xs)
add_if true xs e = refl
add_if false xs e = append-nil xs

pub tag_more : (ms : List Message) (m : Message) (b : ℕ) → with_one (tags_of ms) m.mailbox (Tag m.tag) b ≡ tags_of (ms ++ m ∷ []) b
tag_more ms m b = sym (tags_join ms m b ∙ add_if (nat_eq m.mailbox b) (tags_of ms b) (Tag m.tag))

-- ---- what is held

types_more : (hs : List Held) (a : ℕ) (t : MailboxType) (b : ℕ) → types_of b (hs ++ (a, t) ∷ []) ≡ types_of b hs ++ (if nat_eq b a then t ∷ [] else [])
types_more [] a t b =
    elim (nat_eq b a) as (λ q. map (λ (h : Held). h.1) (cond q ((a, t) ∷ []) []) ≡ (if q then t ∷ [] else [])) [
      | true ↦ refl
      | false ↦ refl
    ]
types_more (h ∷ hs) a t b =
    elim (nat_eq b h.0) as (λ q. map (λ (h : Held). h.1) (cond q (h ∷ filter (λ h. nat_eq b h.0) (hs ++ (a, t) ∷ [])) (filter (λ h. nat_eq b h.0) (hs ++ (a, t) ∷ []))) ≡ map (λ (h : Held). h.1) (cond q (h ∷ filter (λ h. nat_eq b h.0) hs) (filter (λ h. nat_eq b h.0) hs)) ++ (if nat_eq b a then t ∷ [] else [])) [
      | true ↦ ap (λ l. h.1 ∷ l) (types_more hs a t b)
      | false ↦ types_more hs a t b
    ]

sending_join : (ts us : List MailboxType) → sending (ts ++ us) ≡ sending ts ++ sending us
sending_join [] us = refl
sending_join (t ∷ ts) us = ap (λ l. sends_by t.polarity t.pattern ++ l) (sending_join ts us) ∙ sym (append_assoc (sends_by t.polarity t.pattern) (sending ts) (sending us))

receiving_join : (ts us : List MailboxType) → receiving (ts ++ us) ≡ receiving ts ++ receiving us
receiving_join [] us = refl
receiving_join (t ∷ ts) us = ap (λ l. receives_by t.polarity t.pattern ++ l) (receiving_join ts us) ∙ sym (append_assoc (receives_by t.polarity t.pattern) (receiving ts) (receiving us))

module _ (hs : List Held) (a : ℕ) (t : MailboxType) (b : ℕ) where
  sending_more : sending (types_of b (hs ++ (a, t) ∷ [])) ≡ sending (types_of b hs) ++ sending (if nat_eq b a then t ∷ [] else [])
  sending_more = ap sending (types_more hs a t b) ∙ sending_join (types_of b hs) (if nat_eq b a then t ∷ [] else [])

  receiving_more : receiving (types_of b (hs ++ (a, t) ∷ [])) ≡ receiving (types_of b hs) ++ receiving (if nat_eq b a then t ∷ [] else [])
  receiving_more = ap receiving (types_more hs a t b) ∙ receiving_join (types_of b hs) (if nat_eq b a then t ∷ [] else [])

-- a sending type adds to what may come
sent_if : (q : _) (t : MailboxType) → t.polarity ≡ Sending → sending (if q then t ∷ [] else []) ≡ (if q then t.pattern ∷ [] else [])
sent_if true t h = ap (λ p. sends_by p t.pattern ++ []) h
sent_if false t h = refl

received_if : (q : _) (t : MailboxType) → t.polarity ≡ Receiving → receiving (if q then t ∷ [] else []) ≡ (if q then t.pattern ∷ [] else [])
received_if true t h = ap (λ p. receives_by p t.pattern ++ []) h
received_if false t h = refl

not_sent : (q : _) (t : MailboxType) → t.polarity ≡ Receiving → sending (if q then t ∷ [] else []) ≡ []
not_sent true t h = ap (λ p. sends_by p t.pattern ++ []) h
not_sent false t h = refl

not_received : (q : _) (t : MailboxType) → t.polarity ≡ Sending → receiving (if q then t ∷ [] else []) ≡ []
not_received true t h = ap (λ p. receives_by p t.pattern ++ []) h
not_received false t h = refl

pub sender_more : (ms : List Message) (hs : List Held) (a : ℕ) (t : MailboxType) (b : ℕ) → t.polarity ≡ Sending → with_one (coming ms hs) a t.pattern b ≡ coming ms (hs ++ (a, t) ∷ []) b
sender_more ms hs a t b h =
    let row = pending_tags b ms in
    let old = sending (types_of b hs) in
    ap (λ q. if q then (row ++ old) ++ t.pattern ∷ [] else row ++ old) (eq_turn a b)
    ∙ sym (add_if (nat_eq b a) (row ++ old) t.pattern)
    ∙ append_assoc row old (if nat_eq b a then t.pattern ∷ [] else [])
    ∙ ap (λ l. row ++ l) (ap (λ l. old ++ l) (sym (sent_if (nat_eq b a) t h)) ∙ sym (sending_more hs a t b))

pub receiver_more : (hs : List Held) (a : ℕ) (t : MailboxType) (b : ℕ) → t.polarity ≡ Receiving → with_one (expected hs) a t.pattern b ≡ expected (hs ++ (a, t) ∷ []) b
receiver_more hs a t b h =
    let old = receiving (types_of b hs) in
    ap (λ q. if q then old ++ t.pattern ∷ [] else old) (eq_turn a b)
    ∙ sym (add_if (nat_eq b a) old t.pattern)
    ∙ ap (λ l. old ++ l) (sym (received_if (nat_eq b a) t h))
    ∙ sym (receiving_more hs a t b)

pub no_receiver_more : (hs : List Held) (a : ℕ) (t : MailboxType) (b : ℕ) → t.polarity ≡ Sending → expected hs b ≡ expected (hs ++ (a, t) ∷ []) b
no_receiver_more hs a t b h = sym (receiving_more hs a t b ∙ ap (λ l. receiving (types_of b hs) ++ l) (not_received (nat_eq b a) t h) ∙ append-nil (receiving (types_of b hs)))

pub no_sender_more : (ms : List Message) (hs : List Held) (a : ℕ) (t : MailboxType) (b : ℕ) → t.polarity ≡ Receiving → coming ms hs b ≡ coming ms (hs ++ (a, t) ∷ []) b
no_sender_more ms hs a t b h =
    ap (λ l. pending_tags b ms ++ l) (sym (sending_more hs a t b ∙ ap (λ l. sending (types_of b hs) ++ l) (not_sent (nat_eq b a) t h) ∙ append-nil (sending (types_of b hs))))

-- A message is taken out of a list of messages.
use Rattle.std.proofs.Common.{◌≡◌, ℕ, Bool, true, false, cond, ◌||◌, not, nat_eq, if◌then◌else◌, List, [], ◌∷◌, ◌++◌, Some, refl, sym, ap, ◌∙◌, subst, append_assoc, map}
use Rattle.std.specs.Prelude.{filter, find}
use Rattle.std.specs.List.{AllByRecursion, IsDistinct, list_any}
use Rattle.std.proofs.lemmas.Bool.{eqb-true, eqb-false, eq-eqb, ne_eqb, cond-true, cond-false, or_left, or_right, or_parts}
use Rattle.pat_words_spec.specs.Words.{Word, one, plus, no_word}
use Rattle.pat_words_laws.proofs.WordLaws.{plus_swap}
use Rattle.pat_semantics_spec.specs.Configs.{Message, pending_in, has_pending}
use Rattle.pat_type_system_spec.specs.Holdings.{Holding, Balanced, receives, receivers}
use Rattle.pat_safety_laws.proofs.Balance.{balance_front, balance_back}
use Rattle.pat_semantics_laws.proofs.Lists.{distinct_parts, nil_parts}

-- without the messages of a number
abbrev pub others : ℕ → List Message → List Message
others n ms = filter (λ m. not (nat_eq m.number n)) ms

-- a message stands between others, which stay
pub record Taken (ms : List Message) (m : Message) : Type 0 where
  pub before : List Message
  pub after : List Message
  pub all_is : ms ≡ before ++ (m ∷ after)
  pub others_is : others m.number ms ≡ before ++ after

-- a message of another number isn't left out
others_all : (n : ℕ) (ms : List Message) → AllByRecursion (λ k. nat_eq n k ≡ false) (map (λ m. m.number) ms) → others n ms ≡ ms
others_all n [] a = refl
others_all n (m ∷ ms) a =
    let off : nat_eq m.number n ≡ false = ne_eqb m.number n (λ q. eqb-false n m.number a.0 (sym q)) in
    cond-true (not (nat_eq m.number n)) (m ∷ others n ms) (others n ms) (ap not off) ∙ ap (λ l. m ∷ l) (others_all n ms a.1)

pub found_number : (k : ℕ) (ms : List Message) (m : Message) → find (λ x. nat_eq k x.number) ms ≡ Some m → k ≡ m.number
found_number k [] m h = cc
found_number k (x ∷ xs) m h =
    (elim (nat_eq k x.number) as (λ t. nat_eq k x.number ≡ t → cond t (Some x) (find (λ x. nat_eq k x.number) xs) ≡ Some m → k ≡ m.number) [
      | true ↦ λ q h'. let same : x ≡ m = cc in eqb-true k x.number q ∙ ap (λ (w : Message). w.number) same
      | false ↦ λ q h'. found_number k xs m h'
    ]) refl h

pub take_message : (k : ℕ) (ms : List Message) (m : Message) → find (λ x. nat_eq k x.number) ms ≡ Some m → IsDistinct nat_eq (map (λ x. x.number) ms) → Taken ms m
take_message k [] m h d = cc
take_message k (x ∷ xs) m h d =
    let q = distinct_parts x.number (map (λ y. y.number) xs) d in
    (elim (nat_eq k x.number) as (λ t. nat_eq k x.number ≡ t → cond t (Some x) (find (λ x. nat_eq k x.number) xs) ≡ Some m → Taken (x ∷ xs) m) [
      | true ↦ λ e h'.
          let same : x ≡ m = cc in
          subst (Taken (x ∷ xs)) same
          (record {
            before = [];
            after = xs;
            all_is = refl;
            others_is =
                cond-false (not (nat_eq x.number x.number)) (x ∷ others x.number xs) (others x.number xs) (ap not (eq-eqb x.number x.number refl))
                ∙ others_all x.number xs q.0;
          })
      | false ↦ λ e h'.
          let rest = take_message k xs m h' q.1 in
          let number = found_number k xs m h' in
          let off : nat_eq x.number m.number ≡ false = ne_eqb x.number m.number (λ w. eqb-false k x.number e (number ∙ sym w)) in
          record {
            before = x ∷ rest.before;
            after = rest.after;
            all_is = ap (λ l. x ∷ l) rest.all_is;
            others_is = cond-true (not (nat_eq x.number m.number)) (x ∷ others m.number xs) (others m.number xs) (ap not off) ∙ ap (λ l. x ∷ l) rest.others_is;
          }
    ]) refl h

-- what is pending with a message of the mailbox is what is pending without it, and the message
pub pending_own : (b : ℕ) (before : List Message) (m : Message) (after : List Message) → nat_eq m.mailbox b ≡ true → pending_in b (before ++ (m ∷ after)) ≡ plus (one m.tag) (pending_in b (before ++ after))
pending_own b [] m after h = cond-true (nat_eq m.mailbox b) (plus (one m.tag) (pending_in b after)) (pending_in b after) h
pending_own b (x ∷ xs) m after h =
    elim (nat_eq x.mailbox b) as (λ t. (if t then plus (one x.tag) (pending_in b (xs ++ (m ∷ after))) else pending_in b (xs ++ (m ∷ after))) ≡ plus (one m.tag) (if t then plus (one x.tag) (pending_in b (xs ++ after)) else pending_in b (xs ++ after))) [
      | true ↦ ap (λ (w : Word). plus (one x.tag) w) (pending_own b xs m after h) ∙ plus_swap (one x.tag) (one m.tag) (pending_in b (xs ++ after))
      | false ↦ pending_own b xs m after h
    ]

pub pending_other : (b : ℕ) (before : List Message) (m : Message) (after : List Message) → nat_eq m.mailbox b ≡ false → pending_in b (before ++ (m ∷ after)) ≡ pending_in b (before ++ after)
pending_other b [] m after h = cond-false (nat_eq m.mailbox b) (plus (one m.tag) (pending_in b after)) (pending_in b after) h
pending_other b (x ∷ xs) m after h =
    elim (nat_eq x.mailbox b) as (λ t. (if t then plus (one x.tag) (pending_in b (xs ++ (m ∷ after))) else pending_in b (xs ++ (m ∷ after))) ≡ (if t then plus (one x.tag) (pending_in b (xs ++ after)) else pending_in b (xs ++ after))) [
      | true ↦ ap (λ (w : Word). plus (one x.tag) w) (pending_other b xs m after h)
      | false ↦ pending_other b xs m after h
    ]

-- the holdings of a control and of a message go to the front
pub two_front : (before fs after mb ma : List Holding) (o h : Holding) (r : Word) → Balanced ((before ++ ((o ∷ fs) ++ after)) ++ (mb ++ (h ∷ ma))) r → Balanced (o ∷ h ∷ (before ++ ((fs ++ after) ++ (mb ++ ma)))) r
two_front before fs after mb ma o h r b =
    let threads = before ++ ((o ∷ fs) ++ after) in
    let rest = (fs ++ after) ++ (mb ++ ma) in
    let one = balance_front (threads ++ mb) h ma r (subst (λ l. Balanced l r) (sym (append_assoc threads mb (h ∷ ma))) b) in
    let flat : (threads ++ mb) ++ ma ≡ before ++ (o ∷ rest) =
    append_assoc threads mb ma ∙ append_assoc before ((o ∷ fs) ++ after) (mb ++ ma) in
    let two = subst (λ l. Balanced (h ∷ l) r) flat one in
    balance_front (h ∷ before) o rest r two

-- and the holding of the new control back to its place
pub one_back : (before fs after mb ma : List Holding) (k : Holding) (r : Word) → Balanced (k ∷ (before ++ ((fs ++ after) ++ (mb ++ ma)))) r → Balanced ((before ++ ((k ∷ fs) ++ after)) ++ (mb ++ ma)) r
one_back before fs after mb ma k r b =
    let rest = (fs ++ after) ++ (mb ++ ma) in
    subst (λ l. Balanced l r) (sym (append_assoc before ((k ∷ fs) ++ after) (mb ++ ma))) (balance_back before k rest r b)

-- ---- a message that is found, and the others

pub found_all : (P : Message → Type 0) (k : ℕ) (ms : List Message) (m : Message) → AllByRecursion P ms → find (λ x. nat_eq k x.number) ms ≡ Some m → P m
found_all P k [] m a h = cc
found_all P k (x ∷ xs) m a h =
    (elim (nat_eq k x.number) as (λ t. cond t (Some x) (find (λ x. nat_eq k x.number) xs) ≡ Some m → P m) [
      | true ↦ λ q. let same : x ≡ m = cc in subst P same a.0
      | false ↦ λ q. found_all P k xs m a.1 q
    ]) h

pub found_message_any : (f : Message → Bool) (k : ℕ) (ms : List Message) (m : Message) → find (λ x. nat_eq k x.number) ms ≡ Some m → f m ≡ true → list_any f ms ≡ true
found_message_any f k [] m h a = cc
found_message_any f k (x ∷ xs) m h a =
    (elim (nat_eq k x.number) as (λ t. cond t (Some x) (find (λ x. nat_eq k x.number) xs) ≡ Some m → (f x || list_any f xs) ≡ true) [
      | true ↦ λ q. let same : x ≡ m = cc in or_left (f x) (list_any f xs) (ap f same ∙ a)
      | false ↦ λ q. or_right (f x) (list_any f xs) (found_message_any f k xs m q a)
    ]) h

-- where no message holds a receiving mailbox, none of the others does
pub none_filter : (h : Message → Holding) (f : Message → Bool) (ms : List Message) → receivers (map h ms) ≡ [] → receivers (map h (filter f ms)) ≡ []
none_filter h f [] e = refl
none_filter h f (x ∷ xs) e =
    let p = nil_parts (receives (h x)) (receivers (map h xs)) e in
    elim (f x) as (λ t. receivers (map h (cond t (x ∷ filter f xs) (filter f xs))) ≡ []) [
      | true ↦ ap (λ l. l ++ receivers (map h (filter f xs))) p.0 ∙ none_filter h f xs p.1
      | false ↦ none_filter h f xs p.1
    ]

-- ---- numbers of messages, and mailboxes without one

-- nothing is pending in a mailbox that has no message
pub pending_none : (a : ℕ) (ms : List Message) → has_pending a ms ≡ false → pending_in a ms ≡ no_word
pending_none a [] h = refl
pending_none a (m ∷ ms) h =
    let q = or_parts (nat_eq m.mailbox a) (has_pending a ms) h in
    cond-false (nat_eq m.mailbox a) (plus (one m.tag) (pending_in a ms)) (pending_in a ms) q.0 ∙ pending_none a ms q.1

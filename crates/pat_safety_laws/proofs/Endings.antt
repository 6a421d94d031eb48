-- What is left where all threads have ended, and in programs that declare no receiving payload.
use Rattle.std.proofs.Common.{◌≡◌, ℕ, zero, suc, Bool, true, false, ◌&&◌, List, [], ◌∷◌, Option, Some, None, refl, sym, ap, ◌∙◌, ⊎_elim}
use Rattle.std.specs.Prelude.{slice_get, option_and_then}
use Rattle.std.specs.List.{list_any}
use Rattle.std.proofs.lemmas.Bool.{or_cases, or_left, or_right, or_parts, and_parts, cases_Bool}
use Rattle.pat_semantics_spec.specs.Values.{Value}
use Rattle.pat_semantics_spec.specs.Programs.{Program, Interface, TagDecl, Sort, tag_at, is_among, is_receiving, delegates}
use Rattle.pat_semantics_spec.specs.Configs.{Message, Config, is_mailbox, message_refers, has_pending, some_thread_refers, some_message_refers, thread_refers, start}
use Rattle.pat_semantics_spec.specs.WellFormed.{WellFormed}
use Rattle.pat_semantics_spec.specs.Steps.{Step}
use Rattle.pat_semantics_spec.specs.Runs.{run}
use Rattle.pat_semantics_spec.specs.Faults.{AccountsFor, is_received_as, payloads_of, message_delegates, is_delegated, left, unreached, IsSafe}
use Rattle.pat_type_system_spec.specs.Typings.{IsTypable}
use Rattle.pat_semantics_laws.proofs.Lists.{clash, among_head}
use Rattle.pat_safety_laws.proofs.Preserved.{run_typed}
use Rattle.pat_safety_laws.specs.Laws.{JustDelegated}
use Rattle.pat_safety_laws.proofs.Accounts.{accounts}
use Rattle.pat_type_system_spec.specs.Interfaces.{interfaces_along}

-- ---- a program that declares no receiving payload

-- a test that fails everywhere fails at an element
none_at : {A : Type 0} (f : A → Bool) (xs : List A) (k : ℕ) (x : A) → list_any f xs ≡ false → slice_get xs k ≡ Some x → f x ≡ false
none_at f [] k x off h = cc
none_at f (y ∷ ys) zero x off h = let same : y ≡ x = cc in ap f (sym same) ∙ (or_parts (f y) (list_any f ys) off).0
none_at f (y ∷ ys) (suc k) x off h = none_at f ys k x (or_parts (f y) (list_any f ys) off).1 h

payloads_plain : (p : Program) (i m : ℕ) → delegates p ≡ false → list_any is_receiving (payloads_of (tag_at p i m)) ≡ false
payloads_plain p i m off = go (slice_get p.interfaces i) refl
  where
    tags : (j : Interface) → slice_get p.interfaces i ≡ Some j → (o : Option TagDecl) → slice_get j.tags m ≡ o → list_any is_receiving (payloads_of o) ≡ false
    tags j at None e = refl
    tags j at (Some t) e = none_at (λ t. list_any is_receiving t.payloads) j.tags m t (none_at (λ j. list_any (λ t. list_any is_receiving t.payloads) j.tags) p.interfaces i j off at) e

    go : (o : Option Interface) → slice_get p.interfaces i ≡ o → list_any is_receiving (payloads_of (option_and_then (λ j. slice_get j.tags m) o)) ≡ false
    go None e = refl
    go (Some j) e = tags j e (slice_get j.tags m) refl

plain_receives : (a : ℕ) (ss : List Sort) (vs : List Value) → list_any is_receiving ss ≡ false → is_received_as a ss vs ≡ true → ⊥
plain_receives a [] [] off h = cc
plain_receives a [] (v ∷ vs) off h = cc
plain_receives a (s ∷ ss) [] off h = cc
plain_receives a (s ∷ ss) (v ∷ vs) off h =
    let q = or_parts (is_receiving s) (list_any is_receiving ss) off in
    ⊎_elim
    (λ l. clash (and_parts (is_receiving s) (is_mailbox a v) l).0 q.0)
    (λ r. plain_receives a ss vs q.1 r)
    (or_cases (is_receiving s && is_mailbox a v) (is_received_as a ss vs) h)

plain_delegates : (p : Program) (interfaces : ℕ → ℕ) (a : ℕ) (ms : List Message) → delegates p ≡ false → list_any (message_delegates p interfaces a) ms ≡ true → ⊥
plain_delegates p f a [] off h = cc
plain_delegates p f a (m ∷ ms) off h =
    ⊎_elim
    (λ l. plain_receives a (payloads_of (tag_at p (f m.mailbox) m.tag)) m.values (payloads_plain p (f m.mailbox) m.tag off) l)
    (λ r. plain_delegates p f a ms off r)
    (or_cases (message_delegates p f a m) (list_any (message_delegates p f a) ms) h)

-- interfaces that account for a configuration of such a program leave a thread for each live mailbox
plain_reached : (p : Program) (c : Config) (interfaces : ℕ → ℕ) (a : ℕ) → delegates p ≡ false → AccountsFor p c interfaces → is_among a c.live ≡ true → some_thread_refers c a ≡ true
plain_reached p c f a off accounts live =
    ⊎_elim (λ l. l) (λ r. absurd (plain_delegates p f a c.messages off r)) (or_cases (some_thread_refers c a) (is_delegated p f c a) (accounts.reached a live))

pub live_referred : (p : Program) (ks : List Step) (c : Config) (a : ℕ) → IsSafe p → delegates p ≡ false → run p ks ≡ Some c → is_among a c.live ≡ true → some_thread_refers c a ≡ true
live_referred p ks c a safe off h live =
    ⊎_elim
    (λ on. on)
    (λ none. absurd (safe ks c h (left (unreached (λ f accounts. clash (plain_reached p c f a off accounts live) none)))))
    (cases_Bool (some_thread_refers c a))

-- ---- where all threads have ended

no_thread_refers : (c : Config) (a : ℕ) → c.threads ≡ [] → some_thread_refers c a ≡ false
no_thread_refers c a none = ap (λ ts. list_any (λ e. thread_refers a e.1) ts) none

pub done_leaves_none : (p : Program) (ks : List Step) (c : Config) → IsSafe p → delegates p ≡ false → run p ks ≡ Some c → c.threads ≡ [] → c.live ≡ []
done_leaves_none p ks c safe off h none = go c.live refl
  where
    go : (xs : List ℕ) → c.live ≡ xs → xs ≡ []
    go [] e = refl
    go (x ∷ xs) e =
        let live : is_among x c.live ≡ true = ap (is_among x) e ∙ among_head x xs in
        absurd (clash (live_referred p ks c x safe off h live) (no_thread_refers c x none))

received_names : (a : ℕ) (ss : List Sort) (vs : List Value) → is_received_as a ss vs ≡ true → list_any (is_mailbox a) vs ≡ true
received_names a [] [] h = cc
received_names a [] (v ∷ vs) h = cc
received_names a (s ∷ ss) [] h = cc
received_names a (s ∷ ss) (v ∷ vs) h =
    ⊎_elim
    (λ l. or_left (is_mailbox a v) (list_any (is_mailbox a) vs) (and_parts (is_receiving s) (is_mailbox a v) l).1)
    (λ r. or_right (is_mailbox a v) (list_any (is_mailbox a) vs) (received_names a ss vs r))
    (or_cases (is_receiving s && is_mailbox a v) (is_received_as a ss vs) h)

delegated_refers : (p : Program) (interfaces : ℕ → ℕ) (a : ℕ) (ms : List Message) → list_any (message_delegates p interfaces a) ms ≡ true → list_any (message_refers a) ms ≡ true
delegated_refers p f a [] h = cc
delegated_refers p f a (m ∷ ms) h =
    ⊎_elim
    (λ l. or_left (message_refers a m) (list_any (message_refers a) ms) (received_names a (payloads_of (tag_at p (f m.mailbox) m.tag)) m.values l))
    (λ r. or_right (message_refers a m) (list_any (message_refers a) ms) (delegated_refers p f a ms r))
    (or_cases (message_delegates p f a m) (list_any (message_delegates p f a) ms) h)

pub done_leaves_delegated : (p : Program) (ks : List Step) (c : Config) → WellFormed p → IsTypable p → run p ks ≡ Some c → c.threads ≡ [] → JustDelegated p c
done_leaves_delegated p ks c wf y h none =
    let interfaces = interfaces_along p (start p) ks (λ a. 0) in
    let typed = run_typed p y.0 (λ a. 0) ks c wf y.1 h in
    let account = accounts p y.0 interfaces c typed in (
      interfaces,
      account,
      λ a. (
        (λ live. ⊎_elim (λ l. absurd (clash l (no_thread_refers c a none))) (λ r. r) (or_cases (some_thread_refers c a) (is_delegated p interfaces c a) (account.reached a live))),
        λ sent. typed.numbers.messages_live a (or_left (some_message_refers c a) (has_pending a c.messages) (delegated_refers p interfaces a c.messages sent)),
      ),
    )

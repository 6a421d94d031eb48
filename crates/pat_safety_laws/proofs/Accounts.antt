-- The interfaces of a typed configuration account for it: no live mailbox of it is out of reach.
use Rattle.std.proofs.Common.{◌≡◌, ℕ, suc, ◌+◌, Bool, true, false, ◌||◌, ◌&&◌, if◌then◌else◌, List, [], ◌∷◌, ◌++◌, map, Option, Some, None, refl, sym, ap, ◌∙◌, subst, arith, ⊎_elim}
use Rattle.std.specs.Prelude.{slice_get, option_and_then}
use Rattle.std.specs.List.{AllByRecursion, list_any}
use Rattle.std.proofs.lemmas.Bool.{or_cases, or_left, or_right, or_parts, cases_Bool}
use Rattle.pat_semantics_spec.specs.Values.{Value, Mailbox, Kind, Plain, MailboxOf, Env, ValueFits}
use Rattle.pat_semantics_spec.specs.Programs.{Program, Sending, Receiving, Sort, BaseSort, MailboxSort, TagDecl, tag_at, is_among, KindAt, option_list, is_receiving}
use Rattle.pat_semantics_spec.specs.Configs.{Control, Running, Returned, Frame, Thread, Message, Config, is_mailbox, has_pending, some_thread_refers, some_message_refers}
use Rattle.pat_semantics_spec.specs.Faults.{VariablesAgree, ControlAgrees, ThreadAgrees, MessageAgrees, is_received_as, payloads_of, message_delegates, is_delegated, AccountsFor, LeftBehind, unreached, dead}
use Rattle.pat_type_system_spec.specs.Types.{TypeEnv}
use Rattle.pat_type_system_spec.specs.Typings.{Typing, payload_sort, payload_type}
use Rattle.pat_type_system_spec.specs.Holdings.{threads_held, payload_held, declared_types, message_held, holdings, receives, receivers}
use Rattle.pat_type_system_spec.specs.Typed.{IsTyped, ThreadFits, ControlFits, PartFits, FramesFit, MessageFits}
use Rattle.pat_safety_laws.proofs.Balance.{receivers-append}
use Rattle.pat_safety_laws.proofs.Refers.{threads_none, none_receivers}
use Rattle.pat_semantics_laws.proofs.Lists.{clash}

-- ---- a message that hands over nothing has no receiving holding

-- the types at the places from k on are those of the declared payloads
abbrev AreAt : TypeEnv → ℕ → List Sort → Type 0
AreAt types k ss = (j : ℕ) → types (k + j) ≡ option_and_then payload_sort (slice_get ss j)

at_first : (types : TypeEnv) (k : ℕ) (ss : List Sort) → AreAt types k ss → types k ≡ option_and_then payload_sort (slice_get ss 0)
at_first types k ss h = ap types (omega arith) ∙ h 0

at_rest : (types : TypeEnv) (k : ℕ) (s : Sort) (ss : List Sort) → AreAt types k (s ∷ ss) → AreAt types (suc k) ss
at_rest types k s ss h j = ap types (omega arith) ∙ h (suc j)

sort_receives : (s : Sort) → is_receiving s ≡ false → receives (payload_sort s) ≡ []
sort_receives (BaseSort b) h = refl
sort_receives (MailboxSort i Sending None) h = refl
sort_receives (MailboxSort i Sending (Some e)) h = refl
sort_receives (MailboxSort i Receiving e) h = cc

none_received : (b : ℕ) (types : TypeEnv) (k : ℕ) (ss : List Sort) (vs : List Value) → AreAt types k ss → is_received_as b ss vs ≡ false → receives (payload_held b types k vs) ≡ []
none_received b types k ss [] at h = refl
none_received b types k [] (v ∷ vs) at h =
    elim (is_mailbox b v) as (λ t. receives (if t then types k else payload_held b types (suc k) vs) ≡ []) [
      | true ↦ ap receives (at_first types k [] at)
      | false ↦ none_received b types (suc k) [] vs (λ j. ap types (omega arith) ∙ at (suc j)) (past vs)
    ]
  where
    past : (ws : List Value) → is_received_as b [] ws ≡ false
    past [] = refl
    past (w ∷ ws) = refl
none_received b types k (s ∷ ss) (v ∷ vs) at h =
    let q = or_parts (is_receiving s && is_mailbox b v) (is_received_as b ss vs) h in
    (elim (is_mailbox b v) as (λ t. (is_receiving s && t) ≡ false → receives (if t then types k else payload_held b types (suc k) vs) ≡ []) [
      | true ↦ λ w. ap receives (at_first types k (s ∷ ss) at) ∙ sort_receives s (first (is_receiving s) w)
      | false ↦ λ w. none_received b types (suc k) ss vs (at_rest types k s ss at) q.1
    ]) q.0
  where
    first : (a : Bool) → (a && true) ≡ false → a ≡ false
    first true w = cc
    first false w = refl

message_receives : (b : ℕ) (o : Option TagDecl) (vs : List Value) → is_received_as b (payloads_of o) vs ≡ false → receives (payload_held b (declared_types o) 0 vs) ≡ []
message_receives b None vs h = none_received b (declared_types None) 0 [] vs (λ j. refl) h
message_receives b (Some decl) vs h = none_received b (payload_type decl) 0 decl.payloads vs (λ j. ap (payload_type decl) (omega arith)) h

messages_receive : (p : Program) (interfaces : ℕ → ℕ) (b : ℕ) (ms : List Message) → list_any (message_delegates p interfaces b) ms ≡ false → receivers (map (message_held p interfaces b) ms) ≡ []
messages_receive p interfaces b [] h = refl
messages_receive p interfaces b (m ∷ ms) h =
    let q = or_parts (message_delegates p interfaces b m) (list_any (message_delegates p interfaces b) ms) h in
    ap (λ l. l ++ receivers (map (message_held p interfaces b) ms)) (message_receives b (tag_at p (interfaces m.mailbox) m.tag) m.values q.0)
    ∙ messages_receive p interfaces b ms q.1

no_single : {A : Type 0} (e : A) → [] ≡ e ∷ [] → ⊥
no_single e h = cc

reached_by : (p : Program) (y : Typing) (interfaces : ℕ → ℕ) (c : Config) → (typed : IsTyped p y interfaces c) → (a : ℕ) → is_among a c.live ≡ true → (some_thread_refers c a || is_delegated p interfaces c a) ≡ true
reached_by p y interfaces c typed a live =
    ⊎_elim
    (λ on. or_left (some_thread_refers c a) (is_delegated p interfaces c a) on)
    (λ off.
    ⊎_elim
    (λ on. or_right (some_thread_refers c a) (is_delegated p interfaces c a) on)
    (λ none.
    let b = typed.balanced a live in
    let ms = map (message_held p interfaces a) c.messages in
    let empty : receivers (holdings p y interfaces c a) ≡ [] =
    receivers-append (threads_held p y a c.threads) ms
    ∙ ap (λ l. l ++ receivers ms) (none_receivers (threads_held p y a c.threads) (threads_none p y a c.threads off))
    ∙ messages_receive p interfaces a c.messages none in
    absurd (no_single b.pattern (sym empty ∙ b.one_receiver)))
    (cases_Bool (is_delegated p interfaces c a)))
    (cases_Bool (some_thread_refers c a))

-- ---- variables and messages

kind_agrees : (p : Program) (interfaces : ℕ → ℕ) (n x a : ℕ) (k : Kind) → KindAt p n x k → ValueFits interfaces (Mailbox a) k → KindAt p n x (MailboxOf (interfaces a))
kind_agrees p f n x a (MailboxOf i) at fits = subst (λ j. KindAt p n x (MailboxOf j)) (sym fits) at
kind_agrees p f n x a (Plain b) at fits = absurd fits

part_agrees : (p : Program) (interfaces : ℕ → ℕ) (live : List ℕ) (n : ℕ) (but : List ℕ) (env : Env) → PartFits p interfaces n but env → VariablesAgree p interfaces live n env
part_agrees p f live n but env part x a at l =
    let k = part.kinds x (Mailbox a) at in
    kind_agrees p f n x a k.0 k.1 k.2

control_agrees : (p : Program) (y : Typing) (interfaces : ℕ → ℕ) (live : List ℕ) (k : Control) (fs : List Frame) → ControlFits p y interfaces k fs → ControlAgrees p interfaces live k
control_agrees p y f live (Running n env) fs h = part_agrees p f live n [] env h.0
control_agrees p y f live (Returned v) fs h = tt

frames_agree : (p : Program) (y : Typing) (interfaces : ℕ → ℕ) (live : List ℕ) (fs : List Frame) → FramesFit p y interfaces fs → AllByRecursion (λ f. VariablesAgree p interfaces live f.body f.env) fs
frames_agree p y i live [] h = tt
frames_agree p y i live (f ∷ fs) h = (part_agrees p i live f.body (option_list f.var) f.env h.1, frames_agree p y i live fs h.3)

threads_agree : (p : Program) (y : Typing) (interfaces : ℕ → ℕ) (live : List ℕ) (ts : List (ℕ × Thread)) → AllByRecursion (λ e. ThreadFits p y interfaces e.1) ts → AllByRecursion (λ e. ThreadAgrees p interfaces live e.1) ts
threads_agree p y i live [] h = tt
threads_agree p y i live (e ∷ es) h =
    ((control_agrees p y i live e.1.control e.1.frames h.0.control, frames_agree p y i live e.1.frames h.0.frames), threads_agree p y i live es h.1)

messages_agree : (p : Program) (interfaces : ℕ → ℕ) (ms : List Message) → AllByRecursion (MessageFits p interfaces) ms → AllByRecursion (MessageAgrees p interfaces) ms
messages_agree p i [] h = tt
messages_agree p i (m ∷ ms) h = (record { decl = h.0.decl; declared = h.0.declared; values = h.0.values }, messages_agree p i ms h.1)

pub accounts : (p : Program) (y : Typing) (interfaces : ℕ → ℕ) (c : Config) → (typed : IsTyped p y interfaces c) → AccountsFor p c interfaces
accounts p y interfaces c typed = record {
  threads = threads_agree p y interfaces c.live c.threads typed.threads;
  messages = messages_agree p interfaces c.messages typed.messages;
  reached = reached_by p y interfaces c typed;
}

pub not_left : (p : Program) (y : Typing) (interfaces : ℕ → ℕ) (c : Config) → IsTyped p y interfaces c → LeftBehind p c → ⊥
not_left p y interfaces c typed (unreached none) = none interfaces (accounts p y interfaces c typed)
not_left p y interfaces c typed (dead a gone refers) =
    ⊎_elim
    (λ l. clash (typed.numbers.threads_live a l) gone)
    (λ r. clash (typed.numbers.messages_live a r) gone)
    (or_cases (some_thread_refers c a) (some_message_refers c a || has_pending a c.messages) refers)

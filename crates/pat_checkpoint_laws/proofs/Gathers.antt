-- The holdings of each mailbox, gathered in one walk.
use Rattle.std.proofs.Common.{◌≡◌, ℕ, suc, Bool, true, false, cond, not, nat_eq, if◌then◌else◌, List, [], ◌∷◌, ◌++◌, map, Option, Some, None, refl, sym, ap, ap₂, ◌∙◌, subst, reverse, ⊎_elim}
use Rattle.std.specs.Prelude.{filter}
use Rattle.std.specs.List.{list_all}
use Rattle.std.proofs.lemmas.Bool.{and_parts, or_parts, cases_Bool, eqb-true}
use Rattle.std.proofs.lemmas.Grind.{reverse_onto}
use Rattle.pat_semantics_spec.specs.Values.{Value, Const, Mailbox, Env}
use Rattle.pat_semantics_spec.specs.Programs.{Program, is_among, tag_at}
use Rattle.pat_semantics_spec.specs.Configs.{Control, Running, Returned, Frame, Thread, Message, Config, is_mailbox}
use Rattle.pat_semantics_laws.proofs.Lists.{not_true, map-append, nil_right}
use Rattle.pat_type_system_spec.specs.Types.{MailboxType, TypeEnv}
use Rattle.pat_type_system_spec.specs.Typings.{Typing}
use Rattle.pat_type_system_spec.specs.Holdings.{Holding, held, as_holding, wanted, control_held, frame_held, payload_held, declared_types, message_held, receives_by, receivers}
use Rattle.pat_type_system_spec.specs.Typed.{mailboxes_of}
use Rattle.pat_derivation_spec.specs.Same.{all_differ}
use Rattle.pat_checkpoint_spec.specs.HoldingsInOrder.{sends_by, thread_lines_held, threads_lines_held, lines_held, types_held, Held, held_as, env_holds, control_holds, frames_hold, threads_hold, payload_holds, messages_hold_types, all_held, types_of, sending, receiving}
use Rattle.pat_checkpoint_spec.specs.Mailboxes.{values_of, env_differs, control_differs, thread_differs, message_differs, mailboxes_differ}
use Rattle.pat_checkpoint_spec.specs.Balances.{senders}

-- ---- lists

filter-append : {A : Type 0} (f : A → Bool) (xs ys : List A) → filter f (xs ++ ys) ≡ filter f xs ++ filter f ys
filter-append f [] ys = refl
filter-append {A} f (x ∷ xs) ys =
    elim (f x) as (λ b. cond b (x ∷ filter f (xs ++ ys)) (filter f (xs ++ ys)) ≡ cond b (x ∷ filter f xs) (filter f xs) ++ filter f ys) [
      | true ↦ ap (λ l. x ∷ l) (filter-append f xs ys)
      | false ↦ filter-append f xs ys
    ]

pub types_join : (a : ℕ) (hs ks : List Held) → types_of a (hs ++ ks) ≡ types_of a hs ++ types_of a ks
types_join a hs ks =
    ap (map (λ h. h.1)) (filter-append (λ h. nat_eq a h.0) hs ks) ∙ map-append (λ h. h.1) (filter (λ h. nat_eq a h.0) hs) (filter (λ h. nat_eq a h.0) ks)

pub held_join : (hs ks : List Holding) → types_held (hs ++ ks) ≡ types_held hs ++ types_held ks
held_join [] ks = refl
held_join (None ∷ hs) ks = held_join hs ks
held_join (Some a ∷ hs) ks = ap (λ l. a ∷ l) (held_join hs ks)

-- ---- a part

-- what a place with another value holds is nothing of the mailbox
held_other : (a b : ℕ) (o : Option MailboxType) → nat_eq a b ≡ false → types_of a (held_as (Mailbox b) o) ≡ []
held_other a b None h = refl
held_other a b (Some t) h = ap (λ q. map (λ (h : Held). h.1) (cond q ((b, t) ∷ []) [])) h

held_here : (a b : ℕ) (o : Option MailboxType) → nat_eq a b ≡ true → types_of a (held_as (Mailbox b) o) ≡ types_held (o ∷ [])
held_here a b None h = refl
held_here a b (Some t) h = ap (λ q. map (λ (h : Held). h.1) (cond q ((b, t) ∷ []) [])) h

no_const : (a : ℕ) (c : _) (o : Option MailboxType) → types_of a (held_as (Const c) o) ≡ []
no_const a c o = refl

-- nothing is held of a mailbox that isn't there
env_none : (g : TypeEnv) (a : ℕ) (env : Env) → is_among a (mailboxes_of (values_of env)) ≡ false → types_of a (env_holds g env) ≡ []
env_none g a [] h = refl
env_none g a ((x, Const c) ∷ env) h = env_none g a env h
env_none g a ((x, Mailbox b) ∷ env) h =
    let q = or_parts (nat_eq a b) (is_among a (mailboxes_of (values_of env))) h in
    types_join a (held_as (Mailbox b) (g x)) (env_holds g env) ∙ ap₂ (λ l m. l ++ m) (held_other a b (g x) q.0) (env_none g a env q.1)

pub env_gathers : (g : TypeEnv) (a : ℕ) (env : Env) → env_differs env ≡ true → types_held (held g a env ∷ []) ≡ types_of a (env_holds g env)
env_gathers g a [] d = refl
env_gathers g a ((x, Const c) ∷ env) d = env_gathers g a env d
env_gathers g a ((x, Mailbox b) ∷ env) d =
    let q = and_parts (not (is_among b (mailboxes_of (values_of env)))) (all_differ (mailboxes_of (values_of env))) d in
    ⊎_elim
    (λ here.
    let same : a ≡ b = eqb-true a b here in
    let off : is_among a (mailboxes_of (values_of env)) ≡ false = subst (λ n. is_among n (mailboxes_of (values_of env)) ≡ false) (sym same) (not_true (is_among b (mailboxes_of (values_of env))) q.0) in
    ap (λ t. types_held ((if t then g x else held g a env) ∷ [])) here
    ∙ sym (types_join a (held_as (Mailbox b) (g x)) (env_holds g env) ∙ ap₂ (λ l m. l ++ m) (held_here a b (g x) here) (env_none g a env off) ∙ nil_right (types_held (g x ∷ []))))
    (λ there.
    ap (λ t. types_held ((if t then g x else held g a env) ∷ [])) there
    ∙ env_gathers g a env q.1
    ∙ sym (types_join a (held_as (Mailbox b) (g x)) (env_holds g env) ∙ ap (λ l. l ++ types_of a (env_holds g env)) (held_other a b (g x) there)))
    (cases_Bool (nat_eq a b))

value_gathers : (a : ℕ) (v : Value) (o : Option MailboxType) → types_held ((if is_mailbox a v then o else None) ∷ []) ≡ types_of a (held_as v o)
value_gathers a (Const c) o = refl
value_gathers a (Mailbox b) o =
    ⊎_elim
    (λ here. ap (λ t. types_held ((if t then o else None) ∷ [])) here ∙ sym (held_here a b o here))
    (λ off. ap (λ t. types_held ((if t then o else None) ∷ [])) off ∙ sym (held_other a b o off))
    (cases_Bool (nat_eq a b))

control_gathers : (p : Program) (y : Typing) (a : ℕ) (k : Control) (fs : List Frame) → control_differs k ≡ true → types_held (control_held p y a k fs ∷ []) ≡ types_of a (control_holds p y k fs)
control_gathers p y a (Running n env) fs d = env_gathers (y.envs n) a env d
control_gathers p y a (Returned v) fs d = value_gathers a v (as_holding (wanted p y fs))

-- the frames, from the last one up
frames_gather : (y : Typing) (a : ℕ) (fs : List Frame) → list_all (λ f. env_differs f.env) fs ≡ true → types_held (reverse (map (frame_held y a) fs)) ≡ types_of a (frames_hold y fs)
frames_gather y a [] d = refl
frames_gather y a (f ∷ fs) d =
    let q = and_parts (env_differs f.env) (list_all (λ f. env_differs f.env) fs) d in
    ap types_held (reverse_onto (map (frame_held y a) fs) (frame_held y a f) [])
    ∙ held_join (reverse (map (frame_held y a) fs)) (frame_held y a f ∷ [])
    ∙ ap₂ (λ l m. l ++ m) (frames_gather y a fs q.1) (env_gathers (y.envs f.body) a f.env q.0)
    ∙ sym (types_join a (frames_hold y fs) (env_holds (y.envs f.body) f.env))

threads_gather : (p : Program) (y : Typing) (a : ℕ) (ts : List (ℕ × Thread)) → list_all (λ e. thread_differs e.1) ts ≡ true → types_held (threads_lines_held p y a ts) ≡ types_of a (threads_hold p y ts)
threads_gather p y a [] d = refl
threads_gather p y a (e ∷ es) d =
    let q = and_parts (thread_differs e.1) (list_all (λ e. thread_differs e.1) es) d in
    let r = and_parts (control_differs e.1.control) (list_all (λ f. env_differs f.env) e.1.frames) q.0 in
    let ch = control_holds p y e.1.control e.1.frames in
    let fh = frames_hold y e.1.frames in
    held_join (thread_lines_held p y a e.1) (threads_lines_held p y a es)
    ∙ ap₂ (λ l m. l ++ m)
    (held_join (control_held p y a e.1.control e.1.frames ∷ []) (reverse (map (frame_held y a) e.1.frames))
    ∙ ap₂ (λ l m. l ++ m) (control_gathers p y a e.1.control e.1.frames r.0) (frames_gather y a e.1.frames r.1)
    ∙ sym (types_join a ch fh))
    (threads_gather p y a es q.1)
    ∙ sym (types_join a (ch ++ fh) (threads_hold p y es))

-- ---- messages

payload_none : (types : TypeEnv) (a k : ℕ) (vs : List Value) → is_among a (mailboxes_of vs) ≡ false → types_of a (payload_holds types k vs) ≡ []
payload_none types a k [] h = refl
payload_none types a k (Const c ∷ vs) h = payload_none types a (suc k) vs h
payload_none types a k (Mailbox b ∷ vs) h =
    let q = or_parts (nat_eq a b) (is_among a (mailboxes_of vs)) h in
    types_join a (held_as (Mailbox b) (types k)) (payload_holds types (suc k) vs) ∙ ap₂ (λ l m. l ++ m) (held_other a b (types k) q.0) (payload_none types a (suc k) vs q.1)

payload_gathers : (types : TypeEnv) (a k : ℕ) (vs : List Value) → all_differ (mailboxes_of vs) ≡ true → types_held (payload_held a types k vs ∷ []) ≡ types_of a (payload_holds types k vs)
payload_gathers types a k [] d = refl
payload_gathers types a k (Const c ∷ vs) d = payload_gathers types a (suc k) vs d
payload_gathers types a k (Mailbox b ∷ vs) d =
    let q = and_parts (not (is_among b (mailboxes_of vs))) (all_differ (mailboxes_of vs)) d in
    ⊎_elim
    (λ here.
    let same : a ≡ b = eqb-true a b here in
    let off : is_among a (mailboxes_of vs) ≡ false = subst (λ n. is_among n (mailboxes_of vs) ≡ false) (sym same) (not_true (is_among b (mailboxes_of vs)) q.0) in
    ap (λ t. types_held ((if t then types k else payload_held a types (suc k) vs) ∷ [])) here
    ∙ sym (types_join a (held_as (Mailbox b) (types k)) (payload_holds types (suc k) vs) ∙ ap₂ (λ l m. l ++ m) (held_here a b (types k) here) (payload_none types a (suc k) vs off) ∙ nil_right (types_held (types k ∷ []))))
    (λ there.
    ap (λ t. types_held ((if t then types k else payload_held a types (suc k) vs) ∷ [])) there
    ∙ payload_gathers types a (suc k) vs q.1
    ∙ sym (types_join a (held_as (Mailbox b) (types k)) (payload_holds types (suc k) vs) ∙ ap (λ l. l ++ types_of a (payload_holds types (suc k) vs)) (held_other a b (types k) there)))
    (cases_Bool (nat_eq a b))

messages_gather : (p : Program) (interfaces : ℕ → ℕ) (a : ℕ) (ms : List Message) → list_all message_differs ms ≡ true → types_held (map (message_held p interfaces a) ms) ≡ types_of a (messages_hold_types p interfaces ms)
messages_gather p interfaces a [] d = refl
messages_gather p interfaces a (m ∷ ms) d =
    let q = and_parts (message_differs m) (list_all message_differs ms) d in
    let r = and_parts (not (is_among m.mailbox (mailboxes_of m.values))) (all_differ (mailboxes_of m.values)) q.0 in
    let types = declared_types (tag_at p (interfaces m.mailbox) m.tag) in
    held_join (message_held p interfaces a m ∷ []) (map (message_held p interfaces a) ms)
    ∙ ap₂ (λ l k. l ++ k) (payload_gathers types a 0 m.values r.1) (messages_gather p interfaces a ms q.1)
    ∙ sym (types_join a (payload_holds types 0 m.values) (messages_hold_types p interfaces ms))

-- the holdings of a mailbox are its own of all that are held, where mailboxes differ
pub gathers : (p : Program) (y : Typing) (interfaces : ℕ → ℕ) (c : Config) (a : ℕ) → mailboxes_differ c ≡ true → types_held (lines_held p y interfaces c a) ≡ types_of a (all_held p y interfaces c)
gathers p y interfaces c a d =
    let q = and_parts (list_all (λ e. thread_differs e.1) c.threads) (list_all message_differs c.messages) d in
    held_join (map (message_held p interfaces a) c.messages) (threads_lines_held p y a c.threads)
    ∙ ap₂ (λ l k. l ++ k) (messages_gather p interfaces a c.messages q.1) (threads_gather p y a c.threads q.0)
    ∙ sym (types_join a (messages_hold_types p interfaces c.messages) (threads_hold p y c.threads))

-- ---- what of them sends, and what receives

pub senders_are : (hs : List Holding) → senders hs ≡ sending (types_held hs)
senders_are [] = refl
senders_are (None ∷ hs) = senders_are hs
senders_are (Some t ∷ hs) = ap (λ l. sends_by t.polarity t.pattern ++ l) (senders_are hs)

pub receivers_are : (hs : List Holding) → receivers hs ≡ receiving (types_held hs)
receivers_are [] = refl
receivers_are (None ∷ hs) = receivers_are hs
receivers_are (Some t ∷ hs) = ap (λ l. receives_by t.polarity t.pattern ++ l) (receivers_are hs)

-- Who refers to a mailbox, and what is held of it where nobody does.
use Rattle.std.proofs.Common.{◌≡◌, ℕ, true, false, cond, ◌||◌, nat_eq, if◌then◌else◌, List, [], ◌∷◌, ◌++◌, Some, None, refl, sym, ap, ◌∙◌, map, suc}
use Rattle.std.proofs.lemmas.Bool.{or_left, or_right, or_parts, eqb-true, eq-eqb}
use Rattle.std.specs.List.{AllByRecursion, list_any}
use Rattle.std.specs.Map.{lookup}
use Rattle.pat_words_spec.specs.Words.{Word, no_word, plus}
use Rattle.pat_words_laws.proofs.WordLaws.{plus_none}
use Rattle.pat_semantics_spec.specs.Values.{Value, Const, Mailbox, Env, value_at}
use Rattle.pat_semantics_spec.specs.Programs.{Program, tag_at}
use Rattle.pat_semantics_spec.specs.Configs.{Control, Running, Returned, Frame, Thread, Message, is_mailbox, env_refers, control_refers, thread_refers, message_refers}
use Rattle.pat_type_system_spec.specs.Types.{TypeEnv}
use Rattle.pat_type_system_spec.specs.Typings.{Typing}
use Rattle.pat_type_system_spec.specs.Holdings.{Holding, receivers, Choice, held, control_held, frame_held, thread_held, threads_held, payload_held, message_held, as_holding, wanted, declared_types}

pub is_mailbox_same : (a : ℕ) (v : Value) → is_mailbox a v ≡ true → v ≡ Mailbox a
is_mailbox_same a (Const c) h = cc
is_mailbox_same a (Mailbox b) h = ap (λ x. Mailbox x) (sym (eqb-true a b h))

pub name_is : (a : ℕ) → is_mailbox a (Mailbox a) ≡ true
name_is a = eq-eqb a a refl

-- a variable's mailbox is referred to
pub value_refers : (env : Env) (x a : ℕ) → value_at env x ≡ Some (Mailbox a) → env_refers a env ≡ true
value_refers [] x a h = cc
value_refers (e ∷ env) x a h =
    (elim (nat_eq x e.0) as (λ v. cond v (Some e.1) (lookup (nat_eq x) env) ≡ Some (Mailbox a) → (is_mailbox a e.1 || env_refers a env) ≡ true) [
      | true ↦ λ k. let same : e.1 ≡ Mailbox a = cc in or_left (is_mailbox a e.1) (env_refers a env) (ap (is_mailbox a) same ∙ name_is a)
      | false ↦ λ k. or_right (is_mailbox a e.1) (env_refers a env) (value_refers env x a k)
    ]) h

-- ---- nothing is held of a mailbox that is not referred to

-- nothing is held at any of the places
abbrev pub AllNone : List Holding → Type 0
AllNone hs = AllByRecursion (λ h. h ≡ None) hs

pub none-append : (hs ks : List Holding) → AllNone hs → AllNone ks → AllNone (hs ++ ks)
none-append [] ks a b = b
none-append (h ∷ hs) ks a b = (a.0, none-append hs ks a.1 b)

pub none_receivers : (hs : List Holding) → AllNone hs → receivers hs ≡ []
none_receivers [] a = refl
none_receivers (None ∷ hs) a = none_receivers hs a.1
none_receivers (Some h ∷ hs) a = cc

pub none_choice : (hs : List Holding) (w : Word) → AllNone hs → Choice hs w → w ≡ no_word
none_choice [] w a c = c
none_choice (None ∷ hs) w a c =
    c.4 ∙ ap (λ (x : Word). plus x c.1) c.2 ∙ ap (λ (x : Word). plus no_word x) (none_choice hs c.1 a.1 c.3) ∙ plus_none no_word
none_choice (Some h ∷ hs) w a c = cc

pub held_none : (g : TypeEnv) (b : ℕ) (env : Env) → env_refers b env ≡ false → held g b env ≡ None
held_none g b [] h = refl
held_none g b (e ∷ env) h =
    let p = or_parts (is_mailbox b e.1) (env_refers b env) h in
    ap (λ v. if v then g e.0 else held g b env) p.0 ∙ held_none g b env p.1

pub control_none : (p : Program) (y : Typing) (b : ℕ) (k : Control) (fs : List Frame) → control_refers b k ≡ false → control_held p y b k fs ≡ None
control_none p y b (Running n env) fs h = held_none (y.envs n) b env h
control_none p y b (Returned v) fs h =
    ap (λ t. if t then as_holding (wanted p y fs) else None) h

pub frames_none : (y : Typing) (b : ℕ) (fs : List Frame) → list_any (λ f. env_refers b f.env) fs ≡ false → AllNone (map (frame_held y b) fs)
frames_none y b [] h = tt
frames_none y b (f ∷ fs) h =
    let p = or_parts (env_refers b f.env) (list_any (λ f. env_refers b f.env) fs) h in
    (held_none (y.envs f.body) b f.env p.0, frames_none y b fs p.1)

pub thread_none : (p : Program) (y : Typing) (b : ℕ) (s : Thread) → thread_refers b s ≡ false → AllNone (thread_held p y b s)
thread_none p y b s h =
    let q = or_parts (control_refers b s.control) (list_any (λ f. env_refers b f.env) s.frames) h in
    (control_none p y b s.control s.frames q.0, frames_none y b s.frames q.1)

pub threads_none : (p : Program) (y : Typing) (b : ℕ) (ts : List (ℕ × Thread)) → list_any (λ e. thread_refers b e.1) ts ≡ false → AllNone (threads_held p y b ts)
threads_none p y b [] h = tt
threads_none p y b (e ∷ es) h =
    let q = or_parts (thread_refers b e.1) (list_any (λ e. thread_refers b e.1) es) h in
    none-append (thread_held p y b e.1) (threads_held p y b es) (thread_none p y b e.1 q.0) (threads_none p y b es q.1)

pub payload_none : (b : ℕ) (types : TypeEnv) (k : ℕ) (vs : List Value) → list_any (is_mailbox b) vs ≡ false → payload_held b types k vs ≡ None
payload_none b types k [] h = refl
payload_none b types k (v ∷ vs) h =
    let p = or_parts (is_mailbox b v) (list_any (is_mailbox b) vs) h in
    ap (λ t. if t then types k else payload_held b types (suc k) vs) p.0 ∙ payload_none b types (suc k) vs p.1

pub messages_none : (p : Program) (interfaces : ℕ → ℕ) (b : ℕ) (ms : List Message) → list_any (message_refers b) ms ≡ false → AllNone (map (message_held p interfaces b) ms)
messages_none p interfaces b [] h = tt
messages_none p interfaces b (m ∷ ms) h =
    let q = or_parts (message_refers b m) (list_any (message_refers b) ms) h in
    (payload_none b (declared_types (tag_at p (interfaces m.mailbox) m.tag)) 0 m.values q.0, messages_none p interfaces b ms q.1)

-- At a guard of a typed configuration what is pending fits, and something is there for it.
use Rattle.std.proofs.Common.{◌≡◌, ℕ, suc, ◌+◌, ◌≤◌, true, false, cond, ◌||◌, ◌&&◌, not, nat_eq, if◌then◌else◌, List, [], ◌∷◌, ◌++◌, map, Option, Some, None, refl, sym, ap, ◌∙◌, subst, arith, append_assoc, inl, inr, ⊎_elim}
use Rattle.std.specs.Prelude.{slice_get, option_and_then}
use Rattle.std.specs.List.{AllByRecursion, IsDistinct, list_any}
use Rattle.std.specs.Map.{lookup, keys_of}
use Rattle.std.proofs.lemmas.Bool.{or_left, or_parts, eq-eqb, eqb-true, eqb-false, ne_eqb, and_cases, cond-true, false_from_ne_true}
use Rattle.pat_words_spec.specs.Words.{Word, no_word, one, plus}
use Rattle.pat_words_spec.specs.Patterns.{Pat}
use Rattle.pat_words_laws.proofs.WordLaws.{plus_none}
use Rattle.pat_semantics_spec.specs.Values.{Value, Env}
use Rattle.pat_semantics_spec.specs.Programs.{Program, Polarity, Sending, Receiving, Sort, BaseSort, MailboxSort, TagDecl, Clause, Let, is_among, option_list}
use Rattle.pat_semantics_spec.specs.WellFormed.{WellFormed, IsPayload}
use Rattle.pat_semantics_spec.specs.Configs.{Control, Running, Returned, Frame, Thread, Message, Config, is_mailbox, thread_refers, has_pending, other_refers, pending_in}
use Rattle.pat_semantics_spec.specs.Steps.{clause_for}
use Rattle.pat_semantics_spec.specs.Faults.{IsIn}
use Rattle.pat_type_system_spec.specs.Types.{MailboxType, TypeOf, BaseTerm, MailboxTerm, TypeEnv}
use Rattle.pat_type_system_spec.specs.Typings.{Typing, IsTyping, HasWord, TypeHasWord, payload_sort, payload_type, is_received}
use Rattle.pat_type_system_spec.specs.Holdings.{Holding, held, as_holding, type_at, control_held, frame_held, thread_held, threads_held, payload_held, declared_types, message_held, wanted, holdings, SendsBy, Sends, Choice}
use Rattle.pat_type_system_spec.specs.Typed.{IsTyped, ThreadFits, ControlFits, PartFits, FramesFit, MessageFits}
use Rattle.pat_type_system_laws.proofs.Nodes.{node_facts, part_core}
use Rattle.pat_safety_laws.proofs.Envs.{held_all}
use Rattle.pat_safety_laws.proofs.Refers.{AllNone, none-append, thread_none, threads_none}
use Rattle.pat_type_system_laws.proofs.Named.{tag_payloads}
use Rattle.pat_safety_laws.proofs.Bound.{body_bound}
use Rattle.pat_semantics_laws.proofs.Lists.{clash, distinct_parts, all_join, all_at}
use Rattle.pat_semantics_laws.proofs.Threads.{apart_any}

-- ---- a word of each sending holding

-- a sending holding has a word
abbrev pub HoldingHasWord : Holding → Type 0
HoldingHasWord None = Unit {0}
HoldingHasWord (Some a) = HasWord a.polarity a.pattern

-- each sending holding has a word
abbrev pub AllHaveWords : List Holding → Type 0
AllHaveWords hs = AllByRecursion HoldingHasWord hs

some_sent : (h : Holding) → HoldingHasWord h → (w : Word) × Sends h w
some_sent None h = (no_word, refl)
some_sent (Some a) h = go a.polarity a.pattern h
  where
    go : (q : Polarity) (e : Pat) → HasWord q e → (w : Word) × SendsBy q e w
    go Sending e h = h
    go Receiving e h = (no_word, refl)

pub some_choice : (hs : List Holding) → AllHaveWords hs → (w : Word) × Choice hs w
some_choice [] a = (no_word, refl)
some_choice (h ∷ hs) a =
    let u = some_sent h a.0 in
    let v = some_choice hs a.1 in
    (plus u.0 v.0, (u.0, v.0, u.1, v.1, refl))

-- nothing held has no word to send but the empty one
pub none_chosen : (hs : List Holding) → AllNone hs → Choice hs no_word
none_chosen [] a = refl
none_chosen (None ∷ hs) a = (no_word, no_word, refl, none_chosen hs a.1, sym (plus_none no_word))
none_chosen (Some h ∷ hs) a = cc

held_word : (g : TypeEnv) (b : ℕ) (env : Env) → ((x : ℕ) (a : MailboxType) → g x ≡ Some a → HasWord a.polarity a.pattern) → HoldingHasWord (held g b env)
held_word g b env words = held_all g b HoldingHasWord tt (λ x. go x (g x) refl) env
  where
    go : (x : ℕ) (o : Holding) → g x ≡ o → HoldingHasWord o
    go x None e = tt
    go x (Some a) e = words x a e

type_word : (t : TypeOf) → TypeHasWord t → HoldingHasWord (as_holding t)
type_word (BaseTerm b) h = tt
type_word (MailboxTerm i q e) h = h

module _ (p : Program) (y : Typing) (interfaces : ℕ → ℕ) (wf : WellFormed p) (typing : IsTyping p y) where
  part_word : (n : ℕ) (but : List ℕ) (env : Env) (b : ℕ) → PartFits p interfaces n but env → HoldingHasWord (held (y.envs n) b env)
  part_word n but env b part = held_word (y.envs n) b env (node_facts p y n part.there.0 wf typing part.there.1).typed.words

  wanted_word : (fs : List Frame) → FramesFit p y interfaces fs → TypeHasWord (wanted p y fs)
  wanted_word [] h = tt
  wanted_word (f ∷ fs) h =
      let core = Let f.var h.0.1 f.body in
      let bound = part_core p h.0.0 core wf h.0.2 h.0.1 (or_left (nat_eq h.0.1 h.0.1) (is_among h.0.1 (f.body ∷ [])) (eq-eqb h.0.1 h.0.1 refl)) in
      subst TypeHasWord (sym (ap (type_at y) (body_bound p h.0.0 h.0.1 f.body f.var wf h.0.2)))
      (node_facts p y h.0.1 bound.0 wf typing bound.1).typed.result_word

  control_word : (k : Control) (fs : List Frame) (b : ℕ) → ControlFits p y interfaces k fs → FramesFit p y interfaces fs → HoldingHasWord (control_held p y b k fs)
  control_word (Running n env) fs b h frames = part_word n [] env b h.0
  control_word (Returned v) fs b h frames =
      elim (is_mailbox b v) as (λ t. HoldingHasWord (if t then as_holding (wanted p y fs) else None)) [
        | true ↦ type_word (wanted p y fs) (wanted_word fs frames)
        | false ↦ tt
      ]

  frames_words : (fs : List Frame) (b : ℕ) → FramesFit p y interfaces fs → AllHaveWords (map (frame_held y b) fs)
  frames_words [] b h = tt
  frames_words (f ∷ fs) b h = (part_word f.body (option_list f.var) f.env b h.1, frames_words fs b h.3)

  threads_words : (ts : List (ℕ × Thread)) (b : ℕ) → AllByRecursion (λ e. ThreadFits p y interfaces e.1) ts → AllHaveWords (threads_held p y b ts)
  threads_words [] b a = tt
  threads_words (e ∷ es) b a =
      all_join HoldingHasWord (thread_held p y b e.1) (threads_held p y b es)
      (control_word e.1.control e.1.frames b a.0.control a.0.frames, frames_words e.1.frames b a.0.frames)
      (threads_words es b a.1)

  sort_word : (s : Sort) → IsPayload p s → HoldingHasWord (payload_sort s)
  sort_word (BaseSort b) h = tt
  sort_word (MailboxSort i Sending (Some e)) h = h.1
  sort_word (MailboxSort i Sending None) h = tt
  sort_word (MailboxSort i Receiving None) h = tt
  sort_word (MailboxSort i Receiving (Some e)) h = tt

  place_word : (decl : TagDecl) → AllByRecursion (IsPayload p) decl.payloads → (k : ℕ) → HoldingHasWord (payload_type decl k)
  place_word decl a k = go (slice_get decl.payloads k) refl
    where
      go : (o : Option Sort) → slice_get decl.payloads k ≡ o → HoldingHasWord (option_and_then payload_sort o)
      go None e = tt
      go (Some s) e = sort_word s (all_at (IsPayload p) decl.payloads k s a e)

  payload_word : (types : TypeEnv) → ((k : ℕ) → HoldingHasWord (types k)) → (b k : ℕ) (vs : List Value) → HoldingHasWord (payload_held b types k vs)
  payload_word types words b k [] = tt
  payload_word types words b k (v ∷ vs) =
      elim (is_mailbox b v) as (λ t. HoldingHasWord (if t then types k else payload_held b types (suc k) vs)) [
        | true ↦ words k
        | false ↦ payload_word types words b (suc k) vs
      ]

  messages_words : (ms : List Message) (b : ℕ) → AllByRecursion (MessageFits p interfaces) ms → AllHaveWords (map (message_held p interfaces b) ms)
  messages_words [] b a = tt
  messages_words (m ∷ ms) b a =
      let types = payload_type a.0.decl in
      let word = payload_word types (place_word a.0.decl (tag_payloads p wf (interfaces m.mailbox) m.tag a.0.decl a.0.declared)) b 0 m.values in
      (subst (λ o. HoldingHasWord (payload_held b (declared_types o) 0 m.values)) (sym a.0.declared) word, messages_words ms b a.1)

pub all_words : (p : Program) (y : Typing) (interfaces : ℕ → ℕ) (c : Config) → WellFormed p → (typed : IsTyped p y interfaces c) → (b : ℕ) → AllHaveWords (holdings p y interfaces c b)
all_words p y interfaces c wf typed b =
    all_join HoldingHasWord (threads_held p y b c.threads) (map (message_held p interfaces b) c.messages)
    (threads_words p y interfaces wf typed.typing c.threads b typed.threads)
    (messages_words p y interfaces wf typed.typing c.messages b typed.messages)

-- ---- where nobody else refers to the mailbox

-- the holdings of one thread stand between those of others, which hold nothing
pub record Alone (p : Program) (y : Typing) (b : ℕ) (s : Thread) (now : List Holding) : Type 0 where
  pub before : List Holding
  pub after : List Holding
  pub now_is : now ≡ before ++ (thread_held p y b s ++ after)
  pub before_none : AllNone before
  pub after_none : AllNone after

pub split_alone : (p : Program) (y : Typing) (b t : ℕ) (s : Thread) (ts : List (ℕ × Thread)) → lookup (nat_eq t) ts ≡ Some s → IsDistinct nat_eq (keys_of ts) → other_refers b t ts ≡ false → Alone p y b s (threads_held p y b ts)
split_alone p y b t s [] h d off = cc
split_alone p y b t s (e ∷ es) h d off =
    let q = distinct_parts e.0 (keys_of es) d in
    let parts = or_parts (not (nat_eq e.0 t) && thread_refers b e.1) (other_refers b t es) off in
    (elim (nat_eq t e.0) as (λ v. nat_eq t e.0 ≡ v → cond v (Some e.1) (lookup (nat_eq t) es) ≡ Some s → Alone p y b s (thread_held p y b e.1 ++ threads_held p y b es)) [
      | true ↦ λ w k.
          let same : e.1 ≡ s = cc in
          let key : t ≡ e.0 = eqb-true t e.0 w in
          let none : list_any (λ e. thread_refers b e.1) es ≡ false =
          false_from_ne_true (list_any (λ e. thread_refers b e.1) es) (λ on. clash (apart_any (thread_refers b) es t (subst (λ x. AllByRecursion (λ k. nat_eq x k ≡ false) (keys_of es)) (sym key) q.0) on) parts.1) in
          record {
            before = [];
            after = threads_held p y b es;
            now_is = ap (λ x. thread_held p y b x ++ threads_held p y b es) same;
            before_none = tt;
            after_none = threads_none p y b es none;
          }
      | false ↦ λ w k.
          let rest = split_alone p y b t s es k q.1 parts.1 in
          let apart : nat_eq e.0 t ≡ false = ne_eqb e.0 t (λ x. eqb-false t e.0 w (sym x)) in
          let none : thread_refers b e.1 ≡ false =
          ⊎_elim (λ l. absurd (clash (ap not apart) l)) (λ r. r) (and_cases (not (nat_eq e.0 t)) (thread_refers b e.1) parts.0) in
          record {
            before = thread_held p y b e.1 ++ rest.before;
            after = rest.after;
            now_is =
                ap (λ l. thread_held p y b e.1 ++ l) rest.now_is
                ∙ sym (append_assoc (thread_held p y b e.1) rest.before (thread_held p y b s ++ rest.after));
            before_none = none-append (thread_held p y b e.1) rest.before (thread_none p y b e.1 none) rest.before_none;
            after_none = rest.after_none;
          }
    ]) refl h

-- ---- pending messages

-- a tag that is pending is that of a message
pub record PendingMessage (a tag : ℕ) (ms : List Message) : Type 0 where
  pub message : Message
  pub is_in : IsIn message ms
  pub mailbox : nat_eq message.mailbox a ≡ true
  pub tag_is : message.tag ≡ tag

pending_later : (a tag : ℕ) (m : Message) (ms : List Message) → PendingMessage a tag ms → PendingMessage a tag (m ∷ ms)
pending_later a tag m ms q = record { message = q.message; is_in = inr q.is_in; mailbox = q.mailbox; tag_is = q.tag_is }

pub pending_message : (a tag : ℕ) (ms : List Message) → 1 ≤ pending_in a ms tag → PendingMessage a tag ms
pending_message a tag [] h = absurd (omega arith)
pending_message a tag (m ∷ ms) h =
    (elim (nat_eq m.mailbox a) as (λ t. nat_eq m.mailbox a ≡ t → 1 ≤ (if t then plus (one m.tag) (pending_in a ms) else pending_in a ms) tag → PendingMessage a tag (m ∷ ms)) [
      | true ↦ λ own k.
          (elim (nat_eq tag m.tag) as (λ t. nat_eq tag m.tag ≡ t → 1 ≤ (if t then 1 else 0) + pending_in a ms tag → PendingMessage a tag (m ∷ ms)) [
            | true ↦ λ q w. record { message = m; is_in = inl refl; mailbox = own; tag_is = sym (eqb-true tag m.tag q) }
            | false ↦ λ q w. pending_later a tag m ms (pending_message a tag ms (omega arith))
          ]) refl k
      | false ↦ λ own k. pending_later a tag m ms (pending_message a tag ms k)
    ]) refl h

-- and where nothing is pending there is no message
pub nothing_pending : (a : ℕ) (ms : List Message) → pending_in a ms ≡ no_word → has_pending a ms ≡ false
nothing_pending a ms none = false_from_ne_true (has_pending a ms) (λ h. let q = some_pending ms h in let e : pending_in a ms q.0 ≡ 0 = ap (λ (w : Word). w q.0) none in let l = q.1 in omega arith)
  where
    some_pending : (ms : List Message) → has_pending a ms ≡ true → (t : ℕ) × (1 ≤ pending_in a ms t)
    some_pending [] h = cc
    some_pending (m ∷ ms) h =
        (elim (nat_eq m.mailbox a) as (λ t. (t || has_pending a ms) ≡ true → (n : ℕ) × (1 ≤ (if t then plus (one m.tag) (pending_in a ms) else pending_in a ms) n)) [
          | true ↦ λ k.
              let one_is : one m.tag m.tag ≡ 1 = cond-true (nat_eq m.tag m.tag) 1 0 (eq-eqb m.tag m.tag refl) in
              let more : 1 ≤ plus (one m.tag) (pending_in a ms) m.tag = omega arith in
              (m.tag, more)
          | false ↦ λ k. some_pending ms k
        ]) h

-- the clause of a received tag is found
pub found_by_tag : (cs : List Clause) (tag : ℕ) → is_received cs tag ≡ true → (r : Clause) × (clause_for tag cs ≡ Some r)
found_by_tag [] tag h = cc
found_by_tag (r ∷ cs) tag h =
    (elim (nat_eq tag r.tag) as (λ t. (t || is_received cs tag) ≡ true → (k : Clause) × (cond t (Some r) (clause_for tag cs) ≡ Some k)) [
      | true ↦ λ k. (r, refl)
      | false ↦ λ k. found_by_tag cs tag k
    ]) h

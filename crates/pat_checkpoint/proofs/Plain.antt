-- A checkpoint that stands typed, whose numbers are in range and whose strings are spelled, is one that a reader takes.
use Rattle.std.proofs.Common.{◌≡◌, ℕ, zero, suc, ◌<◌, Bool, true, false, ◌&&◌, nat_eq, nat_le, nat_lt, if◌then◌else◌, List, [], ◌∷◌, length, map, Option, Some, None, refl, sym, ap, ◌∙◌, subst, arith, ⊎_elim}
use Rattle.std.specs.Prelude.{IsTrue, is_some, option_map, option_and_then, slice_get}
use Rattle.std.specs.List.{AllByRecursion, list_all}
use Rattle.std.specs.Map.{keys_of}
use Rattle.std.proofs.lemmas.Bool.{and_parts, and_from, or_cases, lt-ltb, eqb-true, eq-eqb, ne_eqb}
use Rattle.pat_semantics_spec.specs.Values.{UnitConst, BoolConst, IntConst, TextConst, Constant, Value, Const, Mailbox, Env}
use Rattle.pat_semantics_spec.specs.Programs.{TagDecl, Interface, Node, Program, core_at, tag_at, is_among, option_list}
use Rattle.pat_semantics_spec.specs.WellFormed.{InterfaceFits, WellFormed}
use Rattle.pat_semantics_spec.specs.Configs.{Control, Running, Returned, Frame, Thread, Message}
use Rattle.pat_type_system_spec.specs.Typings.{Typing}
use Rattle.pat_type_system_spec.specs.Holdings.{wanted}
use Rattle.pat_derivation_spec.specs.Derivations.{Derivation, written_typing}
use Rattle.pat_derivation_text_spec.specs.DerivationText.{tags_named, tag_names}
use Rattle.pat_texts_spec.specs.Numbers.{is_number}
use Rattle.pat_checkpoint_spec.specs.Checkpoints.{Checkpoint, IsAligned, interface_at, interfaces_of}
use Rattle.pat_checkpoint_spec.specs.Numbers.{ascends, control_ascends, thread_ascends, message_lives, value_lives, is_in_order, refers_to_live, numbers_hold}
use Rattle.pat_checkpoint_spec.specs.Kinds.{part_fits, types_agree, control_fits, is_frame_of_let, frames_fit, thread_fits, kinds_fit}
use Rattle.pat_checkpoint_spec.specs.Mailboxes.{mailboxes_differ, order_holds, holders_hold, fits_declared, message_fits, messages_hold}
use Rattle.pat_checkpoint_spec.specs.Checked.{stands_typed}
use Rattle.pat_checkpoint_spec.specs.text.ValueText.{is_constant, is_value, is_named}
use Rattle.pat_checkpoint_spec.specs.text.ValueReading.{ascends_from}
use Rattle.pat_checkpoint_laws.specs.text.Readable.{is_env, is_node, has_tag, is_control, is_name, ascend, interface_among, is_message, is_frame, is_thread, IsPlain}
use Rattle.pat_checkpoint_laws.specs.text.Laws.{StringsAreTokens}
use Rattle.pat_checkpoint_print.specs.Ranges.{constant_in_range, value_in_range, values_in_range, named_in_range, env_in_range, control_in_range, frame_in_range, thread_in_range, message_in_range, IsInRange}
use Rattle.pat_checkpoint.specs.Strings.{IsSpelledConstant, IsSpelledValue, IsSpelledEnv, IsSpelledControl, IsSpelledThread, HasSpelledStrings}

-- ---- order

ascends_is : (n : ℕ) (ks : List ℕ) → ascends n ks ≡ true → ascend ks ≡ true
ascends_is n [] h = refl
ascends_is n (k ∷ []) h = refl
ascends_is n (k ∷ l ∷ ks) h =
    let m = and_parts (nat_le n k) (ascends (suc k) (l ∷ ks)) h in
    let q = and_parts (nat_le (suc k) l) (ascends (suc l) ks) m.1 in
    and_from (nat_lt k l) (ascend (l ∷ ks)) q.0 (ascends_is (suc k) (l ∷ ks) m.1)

env_is : (n : ℕ) (env : Env) → ascends n (keys_of env) ≡ true → ascends_from n env ≡ true
env_is n [] h = refl
env_is n (e ∷ env) h =
    let m = and_parts (nat_le n e.0) (ascends (suc e.0) (keys_of env)) h in
    and_from (nat_le n e.0) (ascends_from (suc e.0) env) m.0 (env_is (suc e.0) env m.1)

-- ---- interfaces and tags

below : (n : ℕ) (is : List ℕ) → AllByRecursion (λ i. i < n) is → list_all (λ i. nat_lt i n) is ≡ true
below n [] h = refl
below n (i ∷ is) h = and_from (nat_lt i n) (list_all (λ j. nat_lt j n) is) (lt-ltb i n h.0) (below n is h.1)

-- the interface at the place of a live mailbox is there
among_at : (live is : List ℕ) (b : ℕ) → length is ≡ length live → is_among b live ≡ true → interface_among live is b ≡ Some (interface_at live is b)
among_at [] is b same h = absurd cc
among_at (n ∷ ns) [] b same h = absurd (omega (arith, same))
among_at (n ∷ ns) (i ∷ is) b same h =
    (elim (nat_eq n b) as (λ t. nat_eq n b ≡ t → (if t then Some i else interface_among ns is b) ≡ Some (if nat_eq b n then i else interface_at ns is b)) [
      | true ↦ λ q. ap (λ t. Some (if t then i else interface_at ns is b)) (sym (turned n b true q))
      | false ↦ λ q.
          ⊎_elim (λ here. absurd (apart (turned n b false q) here))
          (λ rest. among_at ns is b (omega (arith, same)) rest ∙ ap (λ t. Some (if t then i else interface_at ns is b)) (sym (turned n b false q)))
          (or_cases (nat_eq b n) (is_among b ns) h)
    ]) refl
  where
    apart : {s : Bool} → s ≡ false → s ≡ true → ⊥
    apart q r = cc

    turned : (n b : ℕ) (t : Bool) → nat_eq n b ≡ t → nat_eq b n ≡ t
    turned n b true q = eq-eqb b n (sym (eqb-true n b q))
    turned n b false q = ne_eqb b n (λ (s : b ≡ n). apart q (eq-eqb n b (sym s)))

place_below : {A : Type 0} (xs : List A) (k : ℕ) (x : A) → slice_get xs k ≡ Some x → k < length xs
place_below [] k x h = absurd cc
place_below (y ∷ ys) zero x h = omega arith
place_below (y ∷ ys) (suc k) x h = let l = place_below ys k x h in omega arith

all_at : {A : Type 0} (P : A → Type 0) (xs : List A) (k : ℕ) (x : A) → AllByRecursion P xs → slice_get xs k ≡ Some x → P x
all_at P [] k x h at = absurd cc
all_at P (y ∷ ys) zero x h at = let same : y ≡ x = cc in subst P same h.0
all_at P (y ∷ ys) (suc k) x h at = all_at P ys k x h.1 at

names_length : (is : List TagDecl) → length (map (λ t. t.name) is) ≡ length is
names_length [] = refl
names_length (t ∷ ts) = ap suc (names_length ts)

-- a declared tag has a name, and at most 32 are declared
declared_has : (p : Program) (i t : ℕ) (decl : TagDecl) → WellFormed p → tag_at p i t ≡ Some decl → has_tag p (Some i) t ≡ true
declared_has p i t decl w h = go (slice_get p.interfaces i) refl h
  where
    go : (o : Option Interface) → slice_get p.interfaces i ≡ o → option_and_then (λ j. slice_get j.tags t) o ≡ Some decl → has_tag p (Some i) t ≡ true
    go None is at = absurd cc
    go (Some j) is at =
        let l = place_below j.tags t decl at in
        let fits = all_at (InterfaceFits p) p.interfaces i j w.interfaces is in
        let few = fits.few in
        let named : length (tag_names p i) ≡ length j.tags = ap (λ o. length (tags_named o)) is ∙ names_length j.tags in
        and_from (nat_lt t (length (tag_names p i))) (nat_lt t 256) (lt-ltb t (length (tag_names p i)) (omega (arith, named, l))) (lt-ltb t 256 (omega (arith, l, few)))

fits_is : (p : Program) (w : WellFormed p) (live is : List ℕ) → length is ≡ length live → (m : Message) → message_lives live m ≡ true → message_fits p (interface_at live is) m ≡ true → has_tag p (interface_among live is m.mailbox) m.tag ≡ true
fits_is p w live is same m lives fits =
    subst (λ o. has_tag p o m.tag ≡ true) (sym (among_at live is m.mailbox same (and_parts (is_among m.mailbox live) (list_all (value_lives live) m.values) lives).0))
    (by (tag_at p (interface_at live is m.mailbox) m.tag) refl fits)
  where
    by : (o : Option TagDecl) → tag_at p (interface_at live is m.mailbox) m.tag ≡ o → fits_declared (interface_at live is) m.values o ≡ true → has_tag p (Some (interface_at live is m.mailbox)) m.tag ≡ true
    by None at h = absurd cc
    by (Some decl) at h = declared_has p (interface_at live is m.mailbox) m.tag decl w at

-- ---- values

module _ (tokens : StringsAreTokens) where
  constant_is : (c : Constant) → constant_in_range c ≡ true → IsSpelledConstant c → is_constant c ≡ true
  constant_is UnitConst r s = refl
  constant_is (BoolConst b) r s = refl
  constant_is (IntConst n) r s = r
  constant_is (TextConst t) r s = (tokens t).0 s

  value_is : (v : Value) → value_in_range v ≡ true → IsSpelledValue v → is_value v ≡ true
  value_is (Const c) r s = constant_is c r s
  value_is (Mailbox a) r s = r

  values_are : (vs : List Value) → values_in_range vs ≡ true → AllByRecursion IsSpelledValue vs → list_all is_value vs ≡ true
  values_are [] r s = refl
  values_are (v ∷ vs) r s =
      let h = and_parts (value_in_range v) (values_in_range vs) r in
      and_from (is_value v) (list_all is_value vs) (value_is v h.0 s.0) (values_are vs h.1 s.1)

  named_are : (env : Env) → env_in_range env ≡ true → IsSpelledEnv env → list_all is_named env ≡ true
  named_are [] r s = refl
  named_are (e ∷ env) r s =
      let h = and_parts (named_in_range e) (env_in_range env) r in
      let k = and_parts (is_number e.0) (value_in_range e.1) h.0 in
      and_from (is_named e) (list_all is_named env) (and_from (is_number e.0) (is_value e.1) k.0 (value_is e.1 k.1 s.0)) (named_are env h.1 s.1)

  env_reads : (env : Env) → ascends 0 (keys_of env) ≡ true → env_in_range env ≡ true → IsSpelledEnv env → is_env env ≡ true
  env_reads env a r s = and_from (ascends_from 0 env) (list_all is_named env) (env_is 0 env a) (named_are env r s)

  -- ---- messages

  messages_are : (p : Program) (w : WellFormed p) (live is : List ℕ) → length is ≡ length live → (ms : List Message) → list_all (message_lives live) ms ≡ true → list_all (message_fits p (interface_at live is)) ms ≡ true → list_all message_in_range ms ≡ true → AllByRecursion (λ m. AllByRecursion IsSpelledValue m.values) ms → list_all (is_message p live is) ms ≡ true
  messages_are p w live is same [] l f r s = refl
  messages_are p w live is same (m ∷ ms) l f r s =
      let a = and_parts (message_lives live m) (list_all (message_lives live) ms) l in
      let b = and_parts (message_fits p (interface_at live is) m) (list_all (message_fits p (interface_at live is)) ms) f in
      let c = and_parts (message_in_range m) (list_all message_in_range ms) r in
      let d = and_parts (is_number m.number) (is_number m.mailbox && values_in_range m.values) c.0 in
      let e = and_parts (is_number m.mailbox) (values_in_range m.values) d.1 in
      let tagged = has_tag p (interface_among live is m.mailbox) m.tag in
      let vs = list_all is_value m.values in
      and_from (is_message p live is m) (list_all (is_message p live is) ms)
      (and_from (is_number m.number) (is_number m.mailbox && (tagged && vs)) d.0
      (and_from (is_number m.mailbox) (tagged && vs) e.0 (and_from tagged vs (fits_is p w live is same m a.0 b.0) (values_are m.values e.1 s.0))))
      (messages_are p w live is same ms a.1 b.1 c.1 s.1)

  -- ---- threads

  module _ (p : Program) (y : Typing) (interfaces : ℕ → ℕ) where
    node_is : (n : ℕ) → is_some (core_at p n) ≡ true → is_number n ≡ true → is_node p n ≡ true
    node_is n h r = and_from (nat_lt n (length p.nodes)) (is_number n) (go (slice_get p.nodes n) refl h) r
      where
        go : (o : Option Node) → slice_get p.nodes n ≡ o → is_some (option_map (λ d. d.core) o) ≡ true → nat_lt n (length p.nodes) ≡ true
        go None is at = absurd cc
        go (Some d) is at = lt-ltb n (length p.nodes) (place_below p.nodes n d is)

    control_is : (k : Control) (fs : List Frame) → control_fits p y interfaces k fs ≡ true → control_ascends k ≡ true → control_in_range k ≡ true → IsSpelledControl k → is_control p k ≡ true
    control_is (Running n env) fs f a r s =
        let q = and_parts (part_fits p interfaces n [] env) (types_agree (y.results n) (wanted p y fs)) f in
        let t = and_parts (is_number n) (env_in_range env) r in
        and_from (is_node p n) (is_env env) (node_is n (and_parts (is_some (core_at p n)) _ q.0).0 t.0) (env_reads env a t.1 s)
    control_is (Returned v) fs f a r s = value_is v r s

    frames_are : (fs : List Frame) → frames_fit p y interfaces fs ≡ true → list_all (λ f. ascends 0 (keys_of f.env)) fs ≡ true → list_all frame_in_range fs ≡ true → AllByRecursion (λ f. IsSpelledEnv f.env) fs → list_all (is_frame p) fs ≡ true
    frames_are [] h a r s = refl
    frames_are (f ∷ fs) h a r s =
        let part = part_fits p interfaces f.body (option_list f.var) f.env in
        let agree = types_agree (y.results f.body) (wanted p y fs) in
        let h1 = and_parts (is_frame_of_let p f) (part && (agree && frames_fit p y interfaces fs)) h in
        let h2 = and_parts part (agree && frames_fit p y interfaces fs) h1.1 in
        let h3 = and_parts agree (frames_fit p y interfaces fs) h2.1 in
        let b = and_parts (ascends 0 (keys_of f.env)) (list_all (λ g. ascends 0 (keys_of g.env)) fs) a in
        let q = and_parts (frame_in_range f) (list_all frame_in_range fs) r in
        let q1 = and_parts (is_name f.var) (is_number f.body && env_in_range f.env) q.0 in
        let q2 = and_parts (is_number f.body) (env_in_range f.env) q1.1 in
        and_from (is_frame p f) (list_all (is_frame p) fs)
        (and_from (is_name f.var) (is_node p f.body && is_env f.env) q1.0
        (and_from (is_node p f.body) (is_env f.env) (node_is f.body (and_parts (is_some (core_at p f.body)) _ h2.0).0 q2.0) (env_reads f.env b.0 q2.1 s.0)))
        (frames_are fs h3.1 b.1 q.1 s.1)

    threads_are : (es : List (ℕ × Thread)) → list_all (λ e. thread_fits p y interfaces e.1) es ≡ true → list_all (λ e. thread_ascends e.1) es ≡ true → list_all thread_in_range es ≡ true → AllByRecursion (λ e. IsSpelledThread e.1) es → list_all (is_thread p) es ≡ true
    threads_are [] h a r s = refl
    threads_are (e ∷ es) h a r s =
        let k = e.1.control in
        let fs = e.1.frames in
        let h1 = and_parts (thread_fits p y interfaces e.1) (list_all (λ t. thread_fits p y interfaces t.1) es) h in
        let h2 = and_parts (control_fits p y interfaces k fs) (frames_fit p y interfaces fs) h1.0 in
        let a1 = and_parts (thread_ascends e.1) (list_all (λ t. thread_ascends t.1) es) a in
        let a2 = and_parts (control_ascends k) (list_all (λ f. ascends 0 (keys_of f.env)) fs) a1.0 in
        let r1 = and_parts (thread_in_range e) (list_all thread_in_range es) r in
        let r2 = and_parts (is_number e.0) (control_in_range k && list_all frame_in_range fs) r1.0 in
        let r3 = and_parts (control_in_range k) (list_all frame_in_range fs) r2.1 in
        and_from (is_thread p e) (list_all (is_thread p) es)
        (and_from (is_number e.0) (is_control p k && list_all (is_frame p) fs) r2.0
        (and_from (is_control p k) (list_all (is_frame p) fs) (control_is k fs h2.0 a2.0 r3.0 s.0.0) (frames_are fs h2.1 a2.1 r3.1 s.0.1)))
        (threads_are es h1.1 a1.1 r1.1 s.1)

  -- ---- all

  pub plain : (p : Program) (d : Derivation) (x : Checkpoint) → WellFormed p → IsTrue (stands_typed p d x) → AllByRecursion (λ i. i < length p.interfaces) x.interfaces → HasSpelledStrings x.config → IsInRange x → IsAligned x → IsPlain p x
  plain p d x w stands there strings range aligned =
      let c = x.config in
      let y = written_typing p d in
      let kinds = kinds_fit p d x in
      let differ = mailboxes_differ c in
      let order = order_holds p d c in
      let holders = holders_hold p d x in
      let s1 = and_parts (numbers_hold c) (kinds && (differ && (order && (holders && messages_hold p x)))) stands in
      let s2 = and_parts kinds (differ && (order && (holders && messages_hold p x))) s1.1 in
      let s3 = and_parts differ (order && (holders && messages_hold p x)) s2.1 in
      let s4 = and_parts order (holders && messages_hold p x) s3.1 in
      let s5 = and_parts holders (messages_hold p x) s4.1 in
      let n = and_parts (is_in_order c) (refers_to_live c) s1.0 in
      let o1 = and_parts (ascends 0 (keys_of c.threads)) _ n.0 in
      let o2 = and_parts (ascends 0 (map (λ m. m.number) c.messages)) _ o1.1 in
      let o3 = and_parts (ascends 0 c.live) _ o2.1 in
      let o4 = and_parts (list_all (λ e. nat_lt e.0 c.next_thread) c.threads) _ o3.1 in
      let o5 = and_parts (list_all (λ m. nat_lt m.number c.next_message) c.messages) _ o4.1 in
      let o6 = and_parts (list_all (λ a. nat_lt a c.next_mailbox) c.live) (list_all (λ e. thread_ascends e.1) c.threads) o5.1 in
      let lives = and_parts _ (list_all (message_lives c.live) c.messages) n.1 in
      record {
        aligned = aligned;
        next_thread = range.next_thread;
        next_mailbox = range.next_mailbox;
        next_message = range.next_message;
        live_ascends = ascends_is 0 c.live o3.0;
        live = range.live;
        interfaces = below (length p.interfaces) x.interfaces there;
        mailbox_certs = range.mailbox_certs;
        messages_ascend = ascends_is 0 (map (λ m. m.number) c.messages) o2.0;
        messages = messages_are p w c.live x.interfaces aligned.interfaces c.messages lives.1 s5.1 range.messages strings.messages;
        threads_ascend = ascends_is 0 (keys_of c.threads) o1.0;
        threads = threads_are p y (interfaces_of x) c.threads s2.0 o6.1 range.threads strings.threads;
        part_certs = range.part_certs;
      }

-- The test of numbers says that numbers fit.
use Rattle.std.proofs.Common.{◌≡◌, ℕ, ◌<◌, Bool, true, ◌&&◌, nat_eq, nat_lt, List, map, refl, subst, ⊎_elim}
use Rattle.std.specs.List.{list_all, list_any}
use Rattle.std.specs.Map.{keys_of}
use Rattle.std.proofs.lemmas.Bool.{and_parts, and_from, or_cases, or_left, or_right, ltb-true, lt-ltb, eqb-true, eq-eqb}
use Rattle.pat_semantics_spec.specs.Values.{Value, Const, Mailbox, Env}
use Rattle.pat_semantics_spec.specs.Programs.{is_among}
use Rattle.pat_semantics_spec.specs.Configs.{Control, Running, Returned, Frame, Thread, Message, Config, is_mailbox, env_refers, control_refers, thread_refers, message_refers, has_pending, some_message_refers}
use Rattle.pat_semantics_spec.specs.Orders.{ControlIsOrdered, ThreadIsOrdered, IsOrdered, AscendsFrom}
use Rattle.pat_safety_laws.proofs.Refers.{is_mailbox_same, name_is}
use Rattle.pat_type_system_spec.specs.Typed.{NumbersFit}
use Rattle.pat_checkpoint_spec.specs.Numbers.{ascends, control_ascends, thread_ascends, value_lives, env_lives, control_lives, thread_lives, message_lives, is_in_order, refers_to_live, numbers_hold}
use Rattle.pat_checkpoint_laws.proofs.Lists.{all_given, all_tested, all_in, all_any, any_in, ascends_so, so_ascends}

-- ---- order

control_so : (k : Control) → control_ascends k ≡ true → ControlIsOrdered k
control_so (Running n env) h = ascends_so 0 (keys_of env) h
control_so (Returned v) h = tt

so_control : (k : Control) → ControlIsOrdered k → control_ascends k ≡ true
so_control (Running n env) h = so_ascends 0 (keys_of env) h
so_control (Returned v) h = refl

frame_so : (f : Frame) → ascends 0 (keys_of f.env) ≡ true → AscendsFrom 0 (keys_of f.env)
frame_so f h = ascends_so 0 (keys_of f.env) h

thread_so : (e : ℕ × Thread) → thread_ascends e.1 ≡ true → ThreadIsOrdered e.1
thread_so e h =
    let b = and_parts (control_ascends e.1.control) (list_all (λ f. ascends 0 (keys_of f.env)) e.1.frames) h in
    (control_so e.1.control b.0, all_given (λ f. AscendsFrom 0 (keys_of f.env)) (λ f. ascends 0 (keys_of f.env)) frame_so e.1.frames b.1)

so_thread : (e : ℕ × Thread) → ThreadIsOrdered e.1 → thread_ascends e.1 ≡ true
so_thread e h =
    and_from (control_ascends e.1.control) (list_all (λ f. ascends 0 (keys_of f.env)) e.1.frames) (so_control e.1.control h.0)
    (all_tested (λ f. AscendsFrom 0 (keys_of f.env)) (λ f. ascends 0 (keys_of f.env)) (λ f a. so_ascends 0 (keys_of f.env) a) e.1.frames h.1)

module _ (c : Config) where
  abbrev t1 : Bool
  t1 = ascends 0 (keys_of c.threads)

  abbrev t2 : Bool
  t2 = ascends 0 (map (λ m. m.number) c.messages)

  abbrev t3 : Bool
  t3 = ascends 0 c.live

  abbrev t4 : Bool
  t4 = list_all (λ e. nat_lt e.0 c.next_thread) c.threads

  abbrev t5 : Bool
  t5 = list_all (λ m. nat_lt m.number c.next_message) c.messages

  abbrev t6 : Bool
  t6 = list_all (λ a. nat_lt a c.next_mailbox) c.live

  abbrev t7 : Bool
  t7 = list_all (λ e. thread_ascends e.1) c.threads

  pub order_so : is_in_order c ≡ true → IsOrdered c
  order_so h =
      let a1 = and_parts t1 (t2 && (t3 && (t4 && (t5 && (t6 && t7))))) h in
      let a2 = and_parts t2 (t3 && (t4 && (t5 && (t6 && t7)))) a1.1 in
      let a3 = and_parts t3 (t4 && (t5 && (t6 && t7))) a2.1 in
      let a4 = and_parts t4 (t5 && (t6 && t7)) a3.1 in
      let a5 = and_parts t5 (t6 && t7) a4.1 in
      let a6 = and_parts t6 t7 a5.1 in
      record {
        threads = ascends_so 0 (keys_of c.threads) a1.0;
        messages = ascends_so 0 (map (λ m. m.number) c.messages) a2.0;
        live = ascends_so 0 c.live a3.0;
        threads_below = all_given (λ e. e.0 < c.next_thread) (λ e. nat_lt e.0 c.next_thread) (λ e b. ltb-true e.0 c.next_thread b) c.threads a4.0;
        messages_below = all_given (λ m. m.number < c.next_message) (λ m. nat_lt m.number c.next_message) (λ m b. ltb-true m.number c.next_message b) c.messages a5.0;
        live_below = all_given (λ a. a < c.next_mailbox) (λ a. nat_lt a c.next_mailbox) (λ a b. ltb-true a c.next_mailbox b) c.live a6.0;
        environments = all_given (λ e. ThreadIsOrdered e.1) (λ e. thread_ascends e.1) thread_so c.threads a6.1;
      }

  pub so_order : IsOrdered c → is_in_order c ≡ true
  so_order o =
      let b7 = all_tested (λ e. ThreadIsOrdered e.1) (λ e. thread_ascends e.1) so_thread c.threads o.environments in
      let b6 = all_tested (λ a. a < c.next_mailbox) (λ a. nat_lt a c.next_mailbox) (λ a b. lt-ltb a c.next_mailbox b) c.live o.live_below in
      let b5 = all_tested (λ m. m.number < c.next_message) (λ m. nat_lt m.number c.next_message) (λ m b. lt-ltb m.number c.next_message b) c.messages o.messages_below in
      let b4 = all_tested (λ e. e.0 < c.next_thread) (λ e. nat_lt e.0 c.next_thread) (λ e b. lt-ltb e.0 c.next_thread b) c.threads o.threads_below in
      and_from t1 (t2 && (t3 && (t4 && (t5 && (t6 && t7))))) (so_ascends 0 (keys_of c.threads) o.threads)
      (and_from t2 (t3 && (t4 && (t5 && (t6 && t7)))) (so_ascends 0 (map (λ m. m.number) c.messages) o.messages)
      (and_from t3 (t4 && (t5 && (t6 && t7))) (so_ascends 0 c.live o.live)
      (and_from t4 (t5 && (t6 && t7)) b4 (and_from t5 (t6 && t7) b5 (and_from t6 t7 b6 b7)))))

-- ---- what is referred to

value_so : (live : List ℕ) (a : ℕ) (v : Value) → value_lives live v ≡ true → is_mailbox a v ≡ true → is_among a live ≡ true
value_so live a v h k = subst (λ w. value_lives live w ≡ true) (is_mailbox_same a v k) h

so_value : (live : List ℕ) (v : Value) → ((a : ℕ) → is_mailbox a v ≡ true → is_among a live ≡ true) → value_lives live v ≡ true
so_value live (Const c) h = refl
so_value live (Mailbox a) h = h a (name_is a)

env_so : (live : List ℕ) (a : ℕ) (env : Env) → env_lives live env ≡ true → env_refers a env ≡ true → is_among a live ≡ true
env_so live a env h k = all_any (is_among a live ≡ true) (λ e. value_lives live e.1) (λ e. is_mailbox a e.1) (λ e l m. value_so live a e.1 l m) env h k

so_env : (live : List ℕ) (env : Env) → ((a : ℕ) → env_refers a env ≡ true → is_among a live ≡ true) → env_lives live env ≡ true
so_env live env h = all_in (λ e. value_lives live e.1) env (λ e i. so_value live e.1 (λ a m. h a (any_in (λ e. is_mailbox a e.1) env e i m)))

control_lives_so : (live : List ℕ) (a : ℕ) (k : Control) → control_lives live k ≡ true → control_refers a k ≡ true → is_among a live ≡ true
control_lives_so live a (Running n env) h m = env_so live a env h m
control_lives_so live a (Returned v) h m = value_so live a v h m

so_control_lives : (live : List ℕ) (k : Control) → ((a : ℕ) → control_refers a k ≡ true → is_among a live ≡ true) → control_lives live k ≡ true
so_control_lives live (Running n env) h = so_env live env h
so_control_lives live (Returned v) h = so_value live v h

thread_lives_so : (live : List ℕ) (a : ℕ) (e : ℕ × Thread) → thread_lives live e.1 ≡ true → thread_refers a e.1 ≡ true → is_among a live ≡ true
thread_lives_so live a e h m =
    let b = and_parts (control_lives live e.1.control) (list_all (λ f. env_lives live f.env) e.1.frames) h in
    ⊎_elim
    (λ l. control_lives_so live a e.1.control b.0 l)
    (λ r. all_any (is_among a live ≡ true) (λ f. env_lives live f.env) (λ f. env_refers a f.env) (λ f l q. env_so live a f.env l q) e.1.frames b.1 r)
    (or_cases (control_refers a e.1.control) (list_any (λ f. env_refers a f.env) e.1.frames) m)

so_thread_lives : (live : List ℕ) (s : Thread) → ((a : ℕ) → thread_refers a s ≡ true → is_among a live ≡ true) → thread_lives live s ≡ true
so_thread_lives live s h =
    and_from (control_lives live s.control) (list_all (λ f. env_lives live f.env) s.frames)
    (so_control_lives live s.control (λ a k. h a (or_left (control_refers a s.control) (list_any (λ f. env_refers a f.env) s.frames) k)))
    (all_in (λ f. env_lives live f.env) s.frames (λ f i. so_env live f.env (λ a k.
    h a (or_right (control_refers a s.control) (list_any (λ f. env_refers a f.env) s.frames) (any_in (λ f. env_refers a f.env) s.frames f i k)))))

message_so : (live : List ℕ) (a : ℕ) (m : Message) → message_lives live m ≡ true → message_refers a m ≡ true → is_among a live ≡ true
message_so live a m h k =
    let b = and_parts (is_among m.mailbox live) (list_all (value_lives live) m.values) h in
    all_any (is_among a live ≡ true) (value_lives live) (is_mailbox a) (λ v l q. value_so live a v l q) m.values b.1 k

module _ (c : Config) where
  pub numbers_so : numbers_hold c ≡ true → NumbersFit c
  numbers_so h =
      let b = and_parts (is_in_order c) (refers_to_live c) h in
      let r = and_parts (list_all (λ e. thread_lives c.live e.1) c.threads) (list_all (message_lives c.live) c.messages) b.1 in
      record {
        ordered = order_so c b.0;
        threads_live = λ a k. all_any (is_among a c.live ≡ true) (λ e. thread_lives c.live e.1) (λ e. thread_refers a e.1) (λ e l m. thread_lives_so c.live a e l m) c.threads r.0 k;
        messages_live = λ a k. ⊎_elim
            (λ l. all_any (is_among a c.live ≡ true) (message_lives c.live) (message_refers a) (λ m l q. message_so c.live a m l q) c.messages r.1 l)
            (λ p. all_any (is_among a c.live ≡ true) (message_lives c.live) (λ m. nat_eq m.mailbox a)
            (λ m l q. subst (λ x. is_among x c.live ≡ true) (eqb-true m.mailbox a q) (and_parts (is_among m.mailbox c.live) (list_all (value_lives c.live) m.values) l).0) c.messages r.1 p)
            (or_cases (some_message_refers c a) (has_pending a c.messages) k);
      }

  pub so_numbers : NumbersFit c → numbers_hold c ≡ true
  so_numbers n =
      and_from (is_in_order c) (refers_to_live c) (so_order c n.ordered)
      (and_from (list_all (λ e. thread_lives c.live e.1) c.threads) (list_all (message_lives c.live) c.messages)
      (all_in (λ e. thread_lives c.live e.1) c.threads (λ e i. so_thread_lives c.live e.1 (λ a k. n.threads_live a (any_in (λ e. thread_refers a e.1) c.threads e i k))))
      (all_in (message_lives c.live) c.messages (λ m i.
      and_from (is_among m.mailbox c.live) (list_all (value_lives c.live) m.values)
      (n.messages_live m.mailbox (or_right (some_message_refers c m.mailbox) (has_pending m.mailbox c.messages) (any_in (λ x. nat_eq x.mailbox m.mailbox) c.messages m i (eq-eqb m.mailbox m.mailbox refl))))
      (all_in (value_lives c.live) m.values (λ v j. so_value c.live v (λ a k.
      n.messages_live a (or_left (some_message_refers c a) (has_pending a c.messages) (any_in (message_refers a) c.messages m i (any_in (is_mailbox a) m.values v j k)))))))))

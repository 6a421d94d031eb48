-- Steps of a thread with further frames below its own: as long as it has a frame, none looks at them.
use Rattle.std.proofs.Common.{◌≡◌, ℕ, ◌+◌, ◌<◌, Bool, true, false, cond, not, ◌&&◌, ◌||◌, nat_eq, List, [], ◌∷◌, ◌++◌, length, filter, Option, Some, None, refl, sym, ap, ◌∙◌, subst, arith, ◌⊎◌, ⊎_elim}
use Rattle.std.specs.Prelude.{option_map, option_and_then}
use Rattle.std.specs.List.{list_any}
use Rattle.std.specs.Map.{lookup, set_value}
use Rattle.std.proofs.lemmas.Bool.{eqb-true, eq-eqb}
use Rattle.std.proofs.lemmas.List.{append-nil}
use Rattle.pat_semantics_spec.specs.Values.{Value, Const, Mailbox, Env, value_at, eval, eval_all, line_of}
use Rattle.pat_semantics_spec.specs.Programs.{Program, Clause, Val, Print, New, Send, Spawn, Guard, is_among}
use Rattle.pat_semantics_spec.specs.Configs.{Returned, Frame, Thread, Message, Config, thread_at, with_thread, thread_refers, message_refers, other_refers, has_pending, is_reached_by_none_but}
use Rattle.pat_semantics_spec.specs.Steps.{Act, ActLocal, ActNew, ActSend, ActSpawn, ActPrint, ActEnd, ActFree, ActReceive, Redex, At, Done, Nowhere, redex, thread_of, returned_unit, at_node, new_at, send_to, send_at, spawn_at, print_line, print_at, end_at, free_mailbox, free_at, clause_for, message_at, without_message, received, receive_message, receive_from, receive_at, local_step, thread_step, step}
use Rattle.pat_semantics_spec.specs.Runs.{run_from, shared_step}
use Rattle.pat_semantics_laws.specs.Laws.{IsEnabled}
use Rattle.pat_machine_spec.specs.Commits.{Shares}
use Rattle.pat_machine_spec.specs.Tops.{over, set_over, with_below}
use Rattle.pat_machine_laws.proofs.CommitsLookUps.{lookup_set, set_twice, lookup_longer}
use Rattle.pat_machine_laws.proofs.Locals.{there_after, with_same}
use Rattle.pat_machine_laws.proofs.CommitsTops.{step_over}

-- who else refers to a mailbox doesn't hang on the thread
others_same : (a t : ℕ) (ts : List (ℕ × Thread)) (x : Thread) → other_refers a t (set_value (nat_eq t) ts x) ≡ other_refers a t ts
others_same a t [] x = refl
others_same a t (e ∷ es) x =
    (elim (nat_eq t e.0) as (λ v. nat_eq t e.0 ≡ v → other_refers a t (cond v ((e.0, x) ∷ es) (e ∷ set_value (nat_eq t) es x)) ≡ other_refers a t (e ∷ es)) [
      | true ↦ λ q.
          let own : nat_eq e.0 t ≡ true = eq-eqb e.0 t (sym (eqb-true t e.0 q)) in
          ap (λ b. (not b && thread_refers a x) || other_refers a t es) own ∙ sym (ap (λ b. (not b && thread_refers a e.1) || other_refers a t es) own)
      | false ↦ λ q. ap (λ b. (not (nat_eq e.0 t) && thread_refers a e.1) || b) (others_same a t es x)
    ]) refl

reached_same : (c : Config) (a t : ℕ) (x : Thread) → is_reached_by_none_but (with_thread c t x) a t ≡ is_reached_by_none_but c a t
reached_same c a t x = ap (λ b. not b && not (list_any (message_refers a) c.messages)) (others_same a t c.threads x)

-- a thread is set in a longer list
set_longer : (ts us : List (ℕ × Thread)) (t : ℕ) (s x : Thread) → lookup (nat_eq t) ts ≡ Some s → set_value (nat_eq t) (ts ++ us) x ≡ set_value (nat_eq t) ts x ++ us
set_longer [] us t s x h = cc
set_longer (e ∷ es) us t s x h =
    (elim (nat_eq t e.0) as (λ v. cond v (Some e.1) (lookup (nat_eq t) es) ≡ Some s → cond v ((e.0, x) ∷ es ++ us) (e ∷ set_value (nat_eq t) (es ++ us) x) ≡ cond v ((e.0, x) ∷ es) (e ∷ set_value (nat_eq t) es x) ++ us) [
      | true ↦ λ k. refl
      | false ↦ λ k. ap (λ l. e ∷ l) (set_longer es us t s x k)
    ]) h

module _ (p : Program) (c : Config) (t : ℕ) (s : Thread) (rest : List Frame) (there : thread_at c t ≡ Some s) where
  abbrev lowered : Config
  lowered = with_thread c t (over s rest)

  abbrev down : Config → Config
  down d = with_below d t rest

  -- the thread goes on, over the same frames
  laid : (d : Config) (q : Thread) → d.threads ≡ set_value (nat_eq t) c.threads q → record d { threads = set_value (nat_eq t) (set_value (nat_eq t) c.threads (over s rest)) (over q rest) } ≡ down d
  laid d q is =
      let now : thread_at d t ≡ Some q = ap (lookup (nat_eq t)) is ∙ lookup_set c.threads t s q there in
      let one = set_twice c.threads t (over s rest) (over q rest) in
      let two = ap (λ l. set_value (nat_eq t) l (over q rest)) is ∙ set_twice c.threads t q (over q rest) in
      ap (λ l. record d { threads = l }) (one ∙ sym two) ∙ sym (ap (set_over d t rest) now)

  -- and other threads come
  laid_more : (d : Config) (q : Thread) (us : List (ℕ × Thread)) → d.threads ≡ set_value (nat_eq t) c.threads q ++ us → record d { threads = set_value (nat_eq t) (set_value (nat_eq t) c.threads (over s rest)) (over q rest) ++ us } ≡ down d
  laid_more d q us is =
      let put = lookup_set c.threads t s q there in
      let now : thread_at d t ≡ Some q = ap (lookup (nat_eq t)) is ∙ lookup_longer (set_value (nat_eq t) c.threads q) us t q put in
      let one = ap (λ l. l ++ us) (set_twice c.threads t (over s rest) (over q rest)) in
      let two =
      ap (λ l. set_value (nat_eq t) l (over q rest)) is
      ∙ set_longer (set_value (nat_eq t) c.threads q) us t q (over q rest) put
      ∙ ap (λ l. l ++ us) (set_twice c.threads t q (over q rest))
      in
      ap (λ l. record d { threads = l }) (one ∙ sym two) ∙ sym (ap (set_over d t rest) now)

  goes_on : (o : Option Thread) → option_map (with_thread lowered t) (option_map (λ x. over x rest) o) ≡ option_map down (option_map (with_thread c t) o)
  goes_on None = refl
  goes_on (Some q) = ap (λ (x : Config). Some x) (laid (with_thread c t q) q refl)

  makes : (fs : List Frame) (r : Redex) → new_at lowered t (fs ++ rest) r ≡ option_map down (new_at c t fs r)
  makes fs (At (New i) env) =
      let q = thread_of (Returned (Mailbox c.next_mailbox)) fs in
      ap (λ (x : Config). Some x) (laid (record (with_thread c t q) { live = c.live ++ c.next_mailbox ∷ []; next_mailbox = c.next_mailbox + 1 }) q refl)
  makes fs (At _ env) = refl
  makes fs (Done v) = refl
  makes fs Nowhere = refl

  sends_to : (fs : List Frame) (m : ℕ) (o : Option Value) (vs : Option (List Value)) → send_to lowered t (fs ++ rest) m o vs ≡ option_map down (send_to c t fs m o vs)
  sends_to fs m None vs = refl
  sends_to fs m (Some (Const k)) vs = refl
  sends_to fs m (Some (Mailbox a)) None = refl
  sends_to fs m (Some (Mailbox a)) (Some vs) =
      let message : Message = record { number = c.next_message; mailbox = a; tag = m; values = vs } in
      let q = returned_unit fs in
      ap (λ (x : Config). Some x) (laid (record (with_thread c t q) { messages = c.messages ++ message ∷ []; next_message = c.next_message + 1 }) q refl)

  sends : (fs : List Frame) (r : Redex) → send_at lowered t (fs ++ rest) r ≡ option_map down (send_at c t fs r)
  sends fs (At (Send x m args) env) = sends_to fs m (value_at env x) (eval_all env args)
  sends fs (At _ env) = refl
  sends fs (Done v) = refl
  sends fs Nowhere = refl

  spawns : (fs : List Frame) (r : Redex) → spawn_at p lowered t (fs ++ rest) r ≡ option_map down (spawn_at p c t fs r)
  spawns fs (At (Spawn m) env) =
      let q = returned_unit fs in
      let more = (c.next_thread, thread_of (at_node p m env) []) ∷ [] in
      ap (λ (x : Config). Some x) (laid_more (record (with_thread c t q) { threads = set_value (nat_eq t) c.threads q ++ more; next_thread = c.next_thread + 1 }) q more refl)
  spawns fs (At _ env) = refl
  spawns fs (Done v) = refl
  spawns fs Nowhere = refl

  prints_line : (fs : List Frame) (o : Option (List ℕ)) → print_line lowered t (fs ++ rest) o ≡ option_map down (print_line c t fs o)
  prints_line fs None = refl
  prints_line fs (Some line) =
      let q = returned_unit fs in
      ap (λ (x : Config). Some x) (laid (record (with_thread c t q) { printed = c.printed ++ line ∷ [] }) q refl)

  prints : (fs : List Frame) (r : Redex) → print_at lowered t (fs ++ rest) r ≡ option_map down (print_at c t fs r)
  prints fs (At (Print e) env) = prints_line fs (option_and_then line_of (eval env e))
  prints fs (At _ env) = refl
  prints fs (Done v) = refl
  prints fs Nowhere = refl

  ends : (fs : List Frame) (r : Redex) → 0 < length fs → end_at lowered t (fs ++ rest) r ≡ option_map down (end_at c t fs r)
  ends [] r some = absurd (omega arith)
  ends (f ∷ fs) (At (Val e) env) some = refl
  ends (f ∷ fs) (At _ env) some = refl
  ends (f ∷ fs) (Done v) some = refl
  ends (f ∷ fs) Nowhere some = refl

  frees_mailbox : (fs : List Frame) (o : Option ℕ) (env : Env) (v : Option Value) → free_mailbox p lowered t (fs ++ rest) o env v ≡ option_map down (free_mailbox p c t fs o env v)
  frees_mailbox fs None env v = refl
  frees_mailbox fs (Some n) env None = refl
  frees_mailbox fs (Some n) env (Some (Const k)) = refl
  frees_mailbox fs (Some n) env (Some (Mailbox a)) =
      let q = thread_of (at_node p n env) fs in
      let live = filter (λ b. not (nat_eq b a)) c.live in
      let freed : Config = record (with_thread c t q) { live = live } in
      let after : Config = record (with_thread lowered t (over q rest)) { live = live } in
      let may : Bool → Bool = λ b. is_among a c.live && (not (has_pending a c.messages) && b) in
      ap (λ b. cond (may b) (Some after) None) (reached_same c a t (over s rest))
      ∙ elim (may (is_reached_by_none_but c a t)) as (λ b. cond b (Some after) None ≡ option_map down (cond b (Some freed) None)) [
        | true ↦ ap (λ (x : Config). Some x) (laid freed q refl)
        | false ↦ refl
      ]

  frees : (fs : List Frame) (r : Redex) → free_at p lowered t (fs ++ rest) r ≡ option_map down (free_at p c t fs r)
  frees fs (At (Guard x e free cs) env) = frees_mailbox fs free env (value_at env x)
  frees fs (At _ env) = refl
  frees fs (Done v) = refl
  frees fs Nowhere = refl

  receives_message : (fs : List Frame) (cs : List Clause) (env : Env) (a : ℕ) (m : Message) (o : Option Clause) → receive_message p lowered t (fs ++ rest) cs env a m o ≡ option_map down (receive_message p c t fs cs env a m o)
  receives_message fs cs env a m None = refl
  receives_message fs cs env a m (Some r) =
      let q = thread_of (at_node p r.body (received r m env)) fs in
      let got = with_thread (without_message c m.number) t q in
      let after = with_thread (without_message lowered m.number) t (over q rest) in
      elim (nat_eq m.mailbox a && nat_eq (length r.vars) (length m.values)) as (λ b. cond b (Some after) None ≡ option_map down (cond b (Some got) None)) [
        | true ↦ ap (λ (x : Config). Some x) (laid got q refl)
        | false ↦ refl
      ]

  receives_from : (fs : List Frame) (cs : List Clause) (env : Env) (v : Option Value) (o : Option Message) → receive_from p lowered t (fs ++ rest) cs env v o ≡ option_map down (receive_from p c t fs cs env v o)
  receives_from fs cs env None o = refl
  receives_from fs cs env (Some (Const k)) o = refl
  receives_from fs cs env (Some (Mailbox a)) None = refl
  receives_from fs cs env (Some (Mailbox a)) (Some m) = receives_message fs cs env a m (clause_for m.tag cs)

  receives : (fs : List Frame) (k : ℕ) (r : Redex) → receive_at p lowered t (fs ++ rest) k r ≡ option_map down (receive_at p c t fs k r)
  receives fs k (At (Guard x e free cs) env) = receives_from fs cs env (value_at env x) (message_at c k)
  receives fs k (At _ env) = refl
  receives fs k (Done v) = refl
  receives fs k Nowhere = refl

  thread_down : 0 < length s.frames → (a : Act) → thread_step p lowered t (over s rest) a ≡ option_map down (thread_step p c t s a)
  thread_down some ActLocal = ap (option_map (with_thread lowered t)) (step_over p rest s some) ∙ goes_on (local_step p s)
  thread_down some ActNew = makes s.frames (redex p s.control)
  thread_down some ActSend = sends s.frames (redex p s.control)
  thread_down some ActSpawn = spawns s.frames (redex p s.control)
  thread_down some ActPrint = prints s.frames (redex p s.control)
  thread_down some ActEnd = ends s.frames (redex p s.control) some
  thread_down some ActFree = frees s.frames (redex p s.control)
  thread_down some (ActReceive k) = receives s.frames k (redex p s.control)

  -- where the thread has a frame, each step of it is the same over further ones
  step_down : 0 < length s.frames → (a : Act) → step p lowered (record { thread = t; act = a }) ≡ option_map down (step p c (record { thread = t; act = a }))
  step_down some a =
      ap (option_and_then (λ x. thread_step p lowered t x a)) (there_after c t s (over s rest) there)
      ∙ thread_down some a
      ∙ sym (ap (λ o. option_map down (option_and_then (λ x. thread_step p c t x a) o)) there)

  down_now : down c ≡ lowered
  down_now = ap (set_over c t rest) there

  back : (o : Option Config) (e : Config) → option_map down o ≡ Some e → (d : Config) × (o ≡ Some d)
  back None e h = cc
  back (Some d) e h = (d, refl)

  -- a step over further frames is one without them
  enabled_back : 0 < length s.frames → (a : Act) → IsEnabled p lowered (record { thread = t; act = a }) → IsEnabled p c (record { thread = t; act = a })
  enabled_back some a e = back (step p c (record { thread = t; act = a })) e.0 (sym (step_down some a) ∙ e.1)

  taken_down : 0 < length s.frames → (a : Option Act) (d : Config) → run_from p c (shared_step t a) ≡ Some d → run_from p lowered (shared_step t a) ≡ Some (down d)
  taken_down some None d h = ap (λ (x : Config). Some x) (sym down_now) ∙ ap (option_map down) h
  taken_down some (Some a) d h =
      let last : Option Config → Option Config = option_and_then (λ x. run_from p x []) in
      let commutes : (o : Option Config) → last (option_map down o) ≡ option_map down (last o) = λ o. elim o as (λ o. last (option_map down o) ≡ option_map down (last o)) [ None ↦ refl | Some x ↦ refl ] in
      ap last (step_down some a) ∙ commutes (step p c (record { thread = t; act = a })) ∙ ap (option_map down) h

  shares_down : 0 < length s.frames → (limit : ℕ) (a : Option Act) (d : Config) → Shares p limit c t a d → Shares p limit lowered t a (down d)
  shares_down some limit a d h = record {
    taken = taken_down some a d h.taken;
    allowed = λ b is. let o = h.allowed b is in ((down o.0.0, step_down some b ∙ ap (option_map down) o.0.1), o.1);
    least = λ k m is e. h.least k m is (enabled_back some (ActReceive m) e);
    none = λ is b o. h.none is b (enabled_back some b o.0, o.1);
  }

-- ---- nothing below

over_nothing : (s : Thread) → over s [] ≡ s
over_nothing s = ap (thread_of s.control) (append-nil s.frames)

with_nothing : (d : Config) (t : ℕ) → with_below d t [] ≡ d
with_nothing d t = go (thread_at d t) refl
  where
    go : (o : Option Thread) → thread_at d t ≡ o → set_over d t [] o ≡ d
    go None is = refl
    go (Some s) is = ap (with_thread d t) (over_nothing s) ∙ with_same d t s is

shares_alone : (p : Program) (limit : ℕ) (c d : Config) (t : ℕ) (s : Thread) (a : Option Act) → thread_at c t ≡ Some s → Shares p limit c t a d → Shares p limit (with_thread c t (over s [])) t a (with_below d t [])
shares_alone p limit c d t s a there h =
    subst (λ x. Shares p limit x t a (with_below d t [])) (sym (ap (with_thread c t) (over_nothing s) ∙ with_same c t s there))
    (subst (λ x. Shares p limit c t a x) (sym (with_nothing d t)) h)

pub shares_on_top : (p : Program) (limit : ℕ) (c d : Config) (t : ℕ) (s : Thread) (rest : List Frame) (a : Option Act) → thread_at c t ≡ Some s → (0 < length s.frames) ⊎ (rest ≡ []) → Shares p limit c t a d
    → Shares p limit (with_thread c t (over s rest)) t a (with_below d t rest)
shares_on_top p limit c d t s rest a there either h =
    ⊎_elim
    (λ some. shares_down p c t s rest there some limit a d h)
    (λ none. subst (λ l. Shares p limit (with_thread c t (over s l)) t a (with_below d t l)) (sym none) (shares_alone p limit c d t s a there h))
    either

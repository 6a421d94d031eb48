-- A step that looks at nothing but its thread is one of the thread alone, and what it leaves.
use Rattle.std.proofs.Common.{◌≡◌, ℕ, ◌+◌, true, nat_eq, List, [], ◌∷◌, ◌++◌, Option, Some, None, refl, sym, ap, ◌∙◌, subst, append-nil}
use Rattle.std.specs.Prelude.{option_map, option_and_then}
use Rattle.std.specs.Map.{set_value, remove_entry}
use Rattle.pat_semantics_spec.specs.Values.{Const, UnitConst, eval, line_of}
use Rattle.pat_semantics_spec.specs.Programs.{Program, Val, Let, Call, If, Print, New, Send, Spawn, Guard}
use Rattle.pat_semantics_spec.specs.Configs.{Control, Returned, Frame, Thread, Config, thread_at, with_thread}
use Rattle.pat_semantics_spec.specs.Steps.{Act, ActLocal, ActNew, ActSend, ActSpawn, ActPrint, ActEnd, ActFree, ActReceive, Redex, At, Done, Nowhere, redex, thread_of, at_node, local_step, spawn_at, print_line, print_at, end_at, thread_step, step}
use Rattle.pat_machine_laws.specs.thread_frames.Alone.{alone, put_back, back, is_beside}
use Rattle.pat_machine_laws.specs.thread_frames.Laws.{Leaves}
use Rattle.pat_machine_laws.proofs.Backs.{with_parts, own_there, back_set, back_only, back_removed}

-- what holds of the configuration after, if there is one
abbrev pub After : (Config → Type 0) → Option Config → Type 0
After P None = Unit {0}
After P (Some d) = P d

-- a step is that of the thread alone, put back, and this holds of what it leaves
abbrev pub Goes : Config → ℕ → (Config → Type 0) → Option Config → Option Config → Type 0
Goes c t P whole own = (whole ≡ option_map (back c t) own) × After P own

goes_none : (c : Config) (t : ℕ) (P : Config → Type 0) → Goes c t P None None
goes_none c t P = (refl, tt)

goes_some : (c : Config) (t : ℕ) (P : Config → Type 0) (d e : Config) → d ≡ back c t e → P e → Goes c t P (Some d) (Some e)
goes_some c t P d e is holds = (ap (λ (x : Config). Some x) is, holds)

goes_map : {A : Type 0} (c : Config) (t : ℕ) (P : Config → Type 0) (f g : A → Config) → ((x : A) → f x ≡ back c t (g x)) → ((x : A) → P (g x)) → (o : Option A) → Goes c t P (option_map f o) (option_map g o)
goes_map c t P f g is holds None = goes_none c t P
goes_map c t P f g is holds (Some x) = goes_some c t P (f x) (g x) (is x) (holds x)

module _ (p : Program) (c : Config) (t : ℕ) (s : Thread) where
  abbrev pub single : Config
  single = alone c t s []

  -- the thread goes on with this state
  on_is : (r : Thread) → with_thread c t r ≡ back c t (with_thread single t r)
  on_is r = with_parts (with_thread c t r) (put_back t c.threads (set_value (nat_eq t) ((t, s) ∷ []) r)) (c.messages ++ []) (c.live ++ []) (back_only t s c.threads r) (append-nil c.messages) (append-nil c.live)

  on_leaves : (r : Thread) → Leaves c (with_thread single t r)
  on_leaves r = record { messages = refl; live = refl; mailboxes = refl; next = refl }

  local_goes : Goes c t (Leaves c) (thread_step p c t s ActLocal) (thread_step p single t s ActLocal)
  local_goes = goes_map c t (Leaves c) (with_thread c t) (with_thread single t) on_is on_leaves (local_step p s)

  abbrev unit : Thread
  unit = thread_of (Returned (Const UnitConst)) s.frames

  -- ---- a spawn

  abbrev begun : Config → Control → Config
  begun d k =
      let spawned = with_thread d t unit in
      record spawned { threads = spawned.threads ++ (d.next_thread, thread_of k []) ∷ []; next_thread = d.next_thread + 1 }

  begun_is : (k : Control) → begun c k ≡ back c t (begun single k)
  begun_is k =
      let came = (c.next_thread, thread_of k []) ∷ [] in
      with_parts (begun c k) (put_back t c.threads (set_value (nat_eq t) ((t, s) ∷ []) unit ++ came)) (c.messages ++ []) (c.live ++ []) (back_set t s c.threads unit came) (append-nil c.messages) (append-nil c.live)

  begun_leaves : (k : Control) → Leaves c (begun single k)
  begun_leaves k = record {
    messages = refl;
    live = refl;
    mailboxes = refl;
    next = refl;
  }

  spawn_goes : (r : Redex) → Goes c t (Leaves c) (spawn_at p c t s.frames r) (spawn_at p single t s.frames r)
  spawn_goes (At (Spawn m) env) = goes_some c t (Leaves c) (begun c (at_node p m env)) (begun single (at_node p m env)) (begun_is (at_node p m env)) (begun_leaves (at_node p m env))
  spawn_goes (At _ env) = goes_none c t (Leaves c)
  spawn_goes (Done v) = goes_none c t (Leaves c)
  spawn_goes Nowhere = goes_none c t (Leaves c)

  -- ---- a print

  abbrev said : Config → List ℕ → Config
  said d line = record (with_thread d t unit) { printed = d.printed ++ line ∷ [] }

  said_is : (line : List ℕ) → said c line ≡ back c t (said single line)
  said_is line = with_parts (said c line) (put_back t c.threads (set_value (nat_eq t) ((t, s) ∷ []) unit)) (c.messages ++ []) (c.live ++ []) (back_only t s c.threads unit) (append-nil c.messages) (append-nil c.live)

  prints : (o : Option (List ℕ)) → Goes c t (Leaves c) (print_line c t s.frames o) (print_line single t s.frames o)
  prints None = goes_none c t (Leaves c)
  prints (Some line) = goes_some c t (Leaves c) (said c line) (said single line) (said_is line) (record { messages = refl; live = refl; mailboxes = refl; next = refl })

  print_goes : (r : Redex) → Goes c t (Leaves c) (print_at c t s.frames r) (print_at single t s.frames r)
  print_goes (At (Print e) env) = prints (option_and_then line_of (eval env e))
  print_goes (At _ env) = goes_none c t (Leaves c)
  print_goes (Done v) = goes_none c t (Leaves c)
  print_goes Nowhere = goes_none c t (Leaves c)

  -- ---- an end

  abbrev ended : Config → Config
  ended d = record d { threads = remove_entry (nat_eq t) d.threads }

  ended_goes : Goes c t (Leaves c) (Some (ended c)) (Some (ended single))
  ended_goes =
      goes_some c t (Leaves c) (ended c) (ended single)
      (with_parts (ended c) (put_back t c.threads (remove_entry (nat_eq t) ((t, s) ∷ []))) (c.messages ++ []) (c.live ++ []) (back_removed t s c.threads) (append-nil c.messages) (append-nil c.live))
      (record {
        messages = refl;
        live = refl;
        mailboxes = refl;
        next = refl;
      })

  end_goes : (frames : List Frame) (r : Redex) → Goes c t (Leaves c) (end_at c t frames r) (end_at single t frames r)
  end_goes [] (At (Val e) env) = ended_goes
  end_goes [] (Done v) = ended_goes
  end_goes [] (At (Let y m n) env) = goes_none c t (Leaves c)
  end_goes [] (At (Call f args) env) = goes_none c t (Leaves c)
  end_goes [] (At (If e m n) env) = goes_none c t (Leaves c)
  end_goes [] (At (Print e) env) = goes_none c t (Leaves c)
  end_goes [] (At (New i) env) = goes_none c t (Leaves c)
  end_goes [] (At (Send x m args) env) = goes_none c t (Leaves c)
  end_goes [] (At (Spawn m) env) = goes_none c t (Leaves c)
  end_goes [] (At (Guard x e free cs) env) = goes_none c t (Leaves c)
  end_goes [] Nowhere = goes_none c t (Leaves c)
  end_goes (f ∷ frames) r = goes_none c t (Leaves c)

  -- ---- any of these

  beside_goes : (a : Act) → is_beside a ≡ true → Goes c t (Leaves c) (thread_step p c t s a) (thread_step p single t s a)
  beside_goes ActLocal h = local_goes
  beside_goes ActSpawn h = spawn_goes (redex p s.control)
  beside_goes ActPrint h = print_goes (redex p s.control)
  beside_goes ActEnd h = end_goes s.frames (redex p s.control)
  beside_goes ActNew h = absurd cc
  beside_goes ActSend h = absurd cc
  beside_goes ActFree h = absurd cc
  beside_goes (ActReceive k) h = absurd cc

-- a step of a thread that is there
pub step_there : (p : Program) (c : Config) (t : ℕ) (s : Thread) (a : Act) → thread_at c t ≡ Some s → step p c (record { thread = t; act = a }) ≡ thread_step p c t s a
step_there p c t s a there = ap (λ o. option_and_then (λ r. thread_step p c t r a) o) there

pub step_alone : (p : Program) (c : Config) (t : ℕ) (s : Thread) (live : List ℕ) (a : Act) → step p (alone c t s live) (record { thread = t; act = a }) ≡ thread_step p (alone c t s live) t s a
step_alone p c t s live a = step_there p (alone c t s live) t s a (own_there t s)

pub steps_alone : (p : Program) (c : Config) (t : ℕ) (s : Thread) (a : Act) → is_beside a ≡ true → thread_at c t ≡ Some s
    → step p c (record { thread = t; act = a }) ≡ option_map (back c t) (step p (alone c t s []) (record { thread = t; act = a }))
steps_alone p c t s a own there = step_there p c t s a there ∙ (beside_goes p c t s a own).0 ∙ ap (option_map (back c t)) (sym (step_alone p c t s [] a))

pub beside_leaves : (p : Program) (c d : Config) (t : ℕ) (s : Thread) (a : Act) → is_beside a ≡ true → step p (alone c t s []) (record { thread = t; act = a }) ≡ Some d → Leaves c d
beside_leaves p c d t s a beside is = subst (After (Leaves c)) (sym (step_alone p c t s [] a) ∙ is) (beside_goes p c t s a beside).1

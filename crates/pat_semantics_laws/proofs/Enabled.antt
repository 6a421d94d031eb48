-- The test of an enabled step finds one just where there is one.
use Rattle.std.proofs.Common.{◌≡◌, ℕ, Bool, true, false, cond, not, ◌||◌, nat_eq, List, [], ◌∷◌, map, Option, Some, None, refl, sym, ap, ◌∙◌, ⊎_elim}
use Rattle.std.specs.Prelude.{is_some, find, filter}
use Rattle.std.specs.List.{list_any}
use Rattle.std.specs.Map.{lookup}
use Rattle.std.proofs.lemmas.Bool.{or_cases, or_left, or_right, eqb-true, cond-true, false_from_ne_true}
use Rattle.pat_semantics_spec.specs.Programs.{Program}
use Rattle.pat_semantics_spec.specs.Configs.{Thread, Message, Config}
use Rattle.pat_semantics_spec.specs.Steps.{Act, ActLocal, ActNew, ActSend, ActSpawn, ActPrint, ActEnd, ActFree, ActReceive, Step, step, redex}
use Rattle.pat_semantics_spec.specs.Runs.{acts, can_take, can_step_thread, can_step, is_send, can_step_without_sending}
use Rattle.pat_semantics_laws.specs.Laws.{IsEnabled}
use Rattle.pat_semantics_laws.proofs.Inversion.{step_of, receive_step}
use Rattle.pat_semantics_laws.proofs.Lists.{any_some, any_at, clash}

-- a test that passes at the number of a thread
pub some_key : (f : ℕ → Bool) (ts : List (ℕ × Thread)) (t : ℕ) (s : Thread) → lookup (nat_eq t) ts ≡ Some s → f t ≡ true → list_any (λ e. f e.0) ts ≡ true
some_key f [] t s h k = cc
some_key f (e ∷ es) t s h k =
    (elim (nat_eq t e.0) as (λ v. nat_eq t e.0 ≡ v → cond v (Some e.1) (lookup (nat_eq t) es) ≡ Some s → (f e.0 || list_any (λ d. f d.0) es) ≡ true) [
      | true ↦ λ q w. or_left (f e.0) (list_any (λ d. f d.0) es) (ap f (sym (eqb-true t e.0 q)) ∙ k)
      | false ↦ λ q w. or_right (f e.0) (list_any (λ d. f d.0) es) (some_key f es t s w k)
    ]) refl h

-- a test that passes at the receive of a message
some_receive : (f : Act → Bool) (k : ℕ) (ms : List Message) (m : Message) → find (λ x. nat_eq k x.number) ms ≡ Some m → f (ActReceive k) ≡ true → list_any f (map (λ m. ActReceive m.number) ms) ≡ true
some_receive f k [] m h w = cc
some_receive f k (x ∷ xs) m h w =
    (elim (nat_eq k x.number) as (λ v. nat_eq k x.number ≡ v → cond v (Some x) (find (λ x. nat_eq k x.number) xs) ≡ Some m → (f (ActReceive x.number) || list_any f (map (λ m. ActReceive m.number) xs)) ≡ true) [
      | true ↦ λ q u. or_left (f (ActReceive x.number)) (list_any f (map (λ m. ActReceive m.number) xs)) (ap (λ n. f (ActReceive n)) (sym (eqb-true k x.number q)) ∙ w)
      | false ↦ λ q u. or_right (f (ActReceive x.number)) (list_any f (map (λ m. ActReceive m.number) xs)) (some_receive f k xs m u w)
    ]) refl h

-- a test that passes at an enabled act passes at one of those that can be enabled
act_found : (p : Program) (c d : Config) (t : ℕ) (a : Act) (f : Act → Bool) → step p c (record { thread = t; act = a }) ≡ Some d → f a ≡ true → list_any f (acts c) ≡ true
act_found p c d t ActLocal f h k = any_at f (acts c) 0 ActLocal refl k
act_found p c d t ActNew f h k = any_at f (acts c) 1 ActNew refl k
act_found p c d t ActSend f h k = any_at f (acts c) 2 ActSend refl k
act_found p c d t ActSpawn f h k = any_at f (acts c) 3 ActSpawn refl k
act_found p c d t ActPrint f h k = any_at f (acts c) 4 ActPrint refl k
act_found p c d t ActEnd f h k = any_at f (acts c) 5 ActEnd refl k
act_found p c d t ActFree f h k = any_at f (acts c) 6 ActFree refl k
act_found p c d t (ActReceive n) f h k =
    let o = step_of p c (record { thread = t; act = ActReceive n }) d h in
    let q = receive_step p c t n o.thread d (redex p o.thread.control) refl o.gives in
    let rs : List Act = map (λ m. ActReceive m.number) c.messages in
    or_right (f ActLocal) (list_any f (ActNew ∷ ActSend ∷ ActSpawn ∷ ActPrint ∷ ActEnd ∷ ActFree ∷ rs))
    (or_right (f ActNew) (list_any f (ActSend ∷ ActSpawn ∷ ActPrint ∷ ActEnd ∷ ActFree ∷ rs))
    (or_right (f ActSend) (list_any f (ActSpawn ∷ ActPrint ∷ ActEnd ∷ ActFree ∷ rs))
    (or_right (f ActSpawn) (list_any f (ActPrint ∷ ActEnd ∷ ActFree ∷ rs))
    (or_right (f ActPrint) (list_any f (ActEnd ∷ ActFree ∷ rs))
    (or_right (f ActEnd) (list_any f (ActFree ∷ rs))
    (or_right (f ActFree) (list_any f rs) (some_receive f n c.messages q.message q.found k)))))))

-- ---- what is found is enabled

enabled_of : (p : Program) (c : Config) (k : Step) (o : Option Config) → step p c k ≡ o → is_some o ≡ true → IsEnabled p c k
enabled_of p c k None q w = cc
enabled_of p c k (Some d) q w = (d, q)

-- an act that is found among those that were tried
take_found : (p : Program) (c : Config) (t : ℕ) (candidates : List Act) → can_take p c t candidates ≡ true → (a : Act) × IsEnabled p c (record { thread = t; act = a })
take_found p c t candidates h =
    let a = any_some (λ a. is_some (step p c (record { thread = t; act = a }))) candidates h in
    let k : Step = record { thread = t; act = a.0 } in
    (a.0, enabled_of p c k (step p c k) refl a.1)

-- ---- the test of a thread

pub thread_exact : (p : Program) (c : Config) (t : ℕ) → (can_step_thread p c t ≡ true → (a : Act) × IsEnabled p c (record { thread = t; act = a })) × ((a : Act) × IsEnabled p c (record { thread = t; act = a }) → can_step_thread p c t ≡ true)
thread_exact p c t = (take_found p c t (acts c), λ e. act_found p c e.1.0 t e.0 (λ a. is_some (step p c (record { thread = t; act = a }))) e.1.1 (ap is_some e.1.1))

-- ---- the test of a configuration

-- an enabled step is found
pub step_found : (p : Program) (c d : Config) (k : Step) → step p c k ≡ Some d → can_step p c ≡ true
step_found p c d k h =
    let o = step_of p c k d h in
    some_key (can_step_thread p c) c.threads k.thread o.thread o.there ((thread_exact p c k.thread).1 (k.act, (d, h)))

-- and what is found is enabled
pub found_step : (p : Program) (c : Config) → can_step p c ≡ true → (k : Step) × IsEnabled p c k
found_step p c h =
    let e = any_some (λ e. can_step_thread p c e.0) c.threads h in
    let a = take_found p c e.0.0 (acts c) e.1 in
    (record { thread = e.0.0; act = a.0 }, a.1)

-- ---- the test of a step that is no send

-- a test of a list of acts without some of them
kept_any : (f g : Act → Bool) (xs : List Act) → list_any (λ a. cond (g a) (f a) false) xs ≡ true → list_any f (filter g xs) ≡ true
kept_any f g [] h = cc
kept_any f g (x ∷ xs) h =
    (elim (g x) as (λ t. (cond t (f x) false || list_any (λ a. cond (g a) (f a) false) xs) ≡ true → list_any f (cond t (x ∷ filter g xs) (filter g xs)) ≡ true) [
      | true ↦ λ w. ⊎_elim (λ l. or_left (f x) (list_any f (filter g xs)) l) (λ r. or_right (f x) (list_any f (filter g xs)) (kept_any f g xs r)) (or_cases (f x) (list_any (λ a. cond (g a) (f a) false) xs) w)
      | false ↦ λ w. kept_any f g xs w
    ]) h

any_kept : (f g : Act → Bool) (xs : List Act) → list_any f (filter g xs) ≡ true → (x : Act) × (f x ≡ true) × (g x ≡ true)
any_kept f g [] h = cc
any_kept f g (x ∷ xs) h =
    (elim (g x) as (λ t. g x ≡ t → list_any f (cond t (x ∷ filter g xs) (filter g xs)) ≡ true → (y : Act) × (f y ≡ true) × (g y ≡ true)) [
      | true ↦ λ q w. ⊎_elim (λ l. (x, l, q)) (λ r. any_kept f g xs r) (or_cases (f x) (list_any f (filter g xs)) w)
      | false ↦ λ q w. any_kept f g xs w
    ]) refl h

-- a send is one, and nothing else is
sends : (a : Act) → is_send a ≡ true → a ≡ ActSend
sends ActSend h = refl
sends ActLocal h = cc
sends ActNew h = cc
sends ActSpawn h = cc
sends ActPrint h = cc
sends ActEnd h = cc
sends ActFree h = cc
sends (ActReceive k) h = cc

no_send : (a : Act) → not (is_send a) ≡ true → a ≡ ActSend → ⊥
no_send a h same = let e : not (is_send a) ≡ false = ap (λ b. not (is_send b)) same in absurd (clash h e)

is_no_send : (a : Act) → (a ≡ ActSend → ⊥) → not (is_send a) ≡ true
is_no_send a h = ap not (false_from_ne_true (is_send a) (λ e. h (sends a e)))

pub other_found : (p : Program) (c d : Config) (k : Step) → step p c k ≡ Some d → (k.act ≡ ActSend → ⊥) → can_step_without_sending p c ≡ true
other_found p c d k h other =
    let o = step_of p c k d h in
    let f : Act → Bool = λ a. is_some (step p c (record { thread = k.thread; act = a })) in
    let g : Act → Bool = λ a. not (is_send a) in
    let here : cond (g k.act) (f k.act) false ≡ true = cond-true (g k.act) (f k.act) false (is_no_send k.act other) ∙ ap is_some h in
    some_key (λ t. can_take p c t (filter (λ a. not (is_send a)) (acts c))) c.threads k.thread o.thread o.there
    (kept_any f g (acts c) (act_found p c d k.thread k.act (λ a. cond (g a) (f a) false) h here))

pub found_other : (p : Program) (c : Config) → can_step_without_sending p c ≡ true → (k : Step) × IsEnabled p c k × (k.act ≡ ActSend → ⊥)
found_other p c h =
    let e = any_some (λ e. can_take p c e.0 (filter (λ a. not (is_send a)) (acts c))) c.threads h in
    let a = any_kept (λ a. is_some (step p c (record { thread = e.0.0; act = a }))) (λ a. not (is_send a)) (acts c) e.1 in
    let k : Step = record { thread = e.0.0; act = a.0 } in
    (k, enabled_of p c k (step p c k) refl a.1, no_send a.0 a.2)

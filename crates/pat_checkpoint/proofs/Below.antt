-- The mailboxes that steps of a well-formed program make have interfaces of the program, so all have after a run from the start.
use Rattle.std.proofs.Common.{◌≡◌, ℕ, zero, suc, ◌+◌, ◌-◌, ◌<◌, ◌≤◌, if◌then◌else◌, List, [], ◌∷◌, ◌++◌, length, map, Option, Some, None, refl, sym, ap, ◌∙◌, subst, arith}
use Rattle.std.specs.Prelude.{option_map, unwrap_or, slice_get}
use Rattle.std.specs.List.{AllByRecursion}
use Rattle.std.proofs.lemmas.Bool.{le-ltb}
use Rattle.pat_semantics_spec.specs.Programs.{Function, Program, Node, Core, Val, Let, Call, If, Print, New, Send, Spawn, Guard, node_at, function_at, option_list}
use Rattle.pat_semantics_spec.specs.Values.{Kind, Env}
use Rattle.pat_semantics_spec.specs.WellFormed.{WellFormed, CoreKinds}
use Rattle.pat_semantics_spec.specs.Configs.{Control, Running, Returned, Thread, Config, thread_at, start, start_of}
use Rattle.pat_semantics_spec.specs.Steps.{Act, ActLocal, ActNew, ActSend, ActSpawn, ActPrint, ActEnd, ActFree, ActReceive, At, redex_at, redex, Step, step}
use Rattle.pat_semantics_spec.specs.Runs.{run_from, Entry, Outcome}
use Rattle.pat_semantics_laws.specs.Laws.{history_steps, ReplayIsRun}
use Rattle.pat_type_system_spec.specs.Interfaces.{new_interface, made_by, interfaces_along}
use Rattle.pat_derivation_spec.specs.Derivations.{Derivation}
use Rattle.pat_checkpoint_spec.specs.Checkpoints.{interfaces_of}
use Rattle.pat_checkpoint_laws.specs.resuming.Laws.{InterfacesMade, MadeCounts}
use Rattle.pat_checkpoint_spec.specs.Resumed.{made_along, interface_made, IsResumed, start_checkpoint}

core_below : (p : Program) (vars : List Kind) (k : Kind) (env : Env) (i : ℕ) (core : Core) → CoreKinds p vars k core → new_interface (At core env) ≡ Some i → i < length p.interfaces
core_below p vars k env i (Val e) h is = absurd cc
core_below p vars k env i (Let x m n) h is = absurd cc
core_below p vars k env i (Call f args) h is = absurd cc
core_below p vars k env i (If e m n) h is = absurd cc
core_below p vars k env i (Print e) h is = absurd cc
core_below p vars k env i (New j) h is = let same : j ≡ i = cc in subst (λ n. n < length p.interfaces) same h.1
core_below p vars k env i (Send x m args) h is = absurd cc
core_below p vars k env i (Spawn m) h is = absurd cc
core_below p vars k env i (Guard x e free cs) h is = absurd cc

node_below : (p : Program) → WellFormed p → (n : ℕ) (env : Env) (i : ℕ) (o : Option Node) → node_at p n ≡ o → new_interface (redex_at (option_map (λ d. d.core) o) env) ≡ Some i → i < length p.interfaces
node_below p w n env i None at is = absurd cc
node_below p w n env i (Some d) at is = let f = w.nodes n d at in core_below p f.function.vars d.kind env i d.core f.kinds is

new_below : (p : Program) → WellFormed p → (i : ℕ) (s : Thread) → made_by p ActNew (Some s) ≡ Some i → i < length p.interfaces
new_below p w i s is = by s.control is
  where
    by : (k : Control) → new_interface (redex p k) ≡ Some i → i < length p.interfaces
    by (Running n env) h = node_below p w n env i (node_at p n) refl h
    by (Returned v) h = absurd cc

made_below : (p : Program) → WellFormed p → (i : ℕ) (a : Act) (o : Option Thread) → made_by p a o ≡ Some i → i < length p.interfaces
made_below p w i ActNew (Some s) is = new_below p w i s is
made_below p w i ActNew None is = absurd cc
made_below p w i ActLocal o is = absurd cc
made_below p w i ActSend o is = absurd cc
made_below p w i ActSpawn o is = absurd cc
made_below p w i ActPrint o is = absurd cc
made_below p w i ActEnd o is = absurd cc
made_below p w i ActFree o is = absurd cc
made_below p w i (ActReceive k) o is = absurd cc

all_joined : {A : Type 0} (P : A → Type 0) (xs ys : List A) → AllByRecursion P xs → AllByRecursion P ys → AllByRecursion P (xs ++ ys)
all_joined P [] ys h k = k
all_joined P (x ∷ xs) ys h k = (h.0, all_joined P xs ys h.1 k)

one_below : (p : Program) (o : Option ℕ) → ((i : ℕ) → o ≡ Some i → i < length p.interfaces) → AllByRecursion (λ i. i < length p.interfaces) (option_list o)
one_below p None h = tt
one_below p (Some i) h = (h i refl, tt)

pub along_below : (p : Program) → WellFormed p → (ks : List Step) (c : Config) → AllByRecursion (λ i. i < length p.interfaces) (made_along p c ks)
along_below p w [] c = tt
along_below p w (k ∷ ks) c =
    all_joined (λ i. i < length p.interfaces) (option_list (made_by p k.act (thread_at c k.thread))) _
    (one_below p (made_by p k.act (thread_at c k.thread)) (λ i h. made_below p w i k.act (thread_at c k.thread) h))
    (more (step p c k) (λ d. along_below p w ks d))
  where
    more : (o : Option Config) → ((d : Config) → AllByRecursion (λ i. i < length p.interfaces) (made_along p d ks)) → AllByRecursion (λ i. i < length p.interfaces) (unwrap_or (option_map (λ d. made_along p d ks) o) [])
    more None h = tt
    more (Some d) h = h d

-- ---- from the start

there_at : {A : Type 0} (P : A → Type 0) (xs : List A) (k : ℕ) → AllByRecursion P xs → k < length xs → (x : A) × (slice_get xs k ≡ Some x) × P x
there_at P [] k h l = absurd (omega arith)
there_at P (x ∷ xs) zero h l = (x, refl, h.0)
there_at P (x ∷ xs) (suc k) h l = there_at P xs k h.1 (omega arith)

pub made_there : (m : ℕ) (interfaces : ℕ → ℕ) (n : ℕ) (made : List ℕ) (a : ℕ) → n ≤ a → a - n < length made → AllByRecursion (λ i. i < m) made → interface_made interfaces n made a < m
made_there m interfaces n made a from less h =
    let at = there_at (λ i. i < m) made (a - n) h less in
    subst (λ k. k < m)
    (sym (ap (λ t. if t then interfaces a else unwrap_or (slice_get made (a - n)) (interfaces a)) (le-ltb a n from) ∙ ap (λ o. unwrap_or o (interfaces a)) at.1))
    at.2

none_made : (o : Option Function) → (start_of o).next_mailbox ≡ 0
none_made None = refl
none_made (Some g) = refl

all_mapped : (P Q : ℕ → Type 0) (f : ℕ → ℕ) → ((a : ℕ) → P a → Q (f a)) → (xs : List ℕ) → AllByRecursion P xs → AllByRecursion Q (map f xs)
all_mapped P Q f g [] h = tt
all_mapped P Q f g (x ∷ xs) h = (g x h.0, all_mapped P Q f g xs h.1)

one_there : InterfacesMade → MadeCounts → (p : Program) (c : Config) (ks : List Step) (own : ℕ → ℕ) → WellFormed p → run_from p (start p) ks ≡ Some c → (a : ℕ) → a < c.next_mailbox → interfaces_along p (start p) ks own a < length p.interfaces
one_there made counts p c ks own w run a less =
    let new = made_along p (start p) ks in
    let none : (start p).next_mailbox ≡ 0 = none_made (function_at p p.main) in
    let count : c.next_mailbox ≡ (start p).next_mailbox + length new = counts p ks (start p) c run in
    subst (λ k. k < length p.interfaces) (sym (made p ks own (start p) c a run))
    (made_there (length p.interfaces) own (start p).next_mailbox new a (omega (arith, none)) (omega (arith, none, count, less)) (along_below p w ks (start p)))

pub started_there : ReplayIsRun → InterfacesMade → MadeCounts → (p : Program) (d : Derivation) (steps : ℕ) (es : List Entry) (c : Config) (interfaces : List ℕ) (o : Outcome) → WellFormed p → IsResumed p d (start_checkpoint p) steps es c interfaces o → AllByRecursion (λ i. i < length p.interfaces) interfaces
started_there replays made counts p d steps es c interfaces o w r =
    let ks = history_steps es in
    let own = interfaces_of (start_checkpoint p) in
    let run = ((replays p (start p) c es).0 r.reached).1 in
    subst (AllByRecursion (λ i. i < length p.interfaces)) (sym r.kept)
    (all_mapped (λ a. a < c.next_mailbox) (λ i. i < length p.interfaces) (interfaces_along p (start p) ks own) (one_there made counts p c ks own w run) c.live r.typed.numbers.ordered.live_below)

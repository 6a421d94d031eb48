-- A mailbox that a thread may free: what is known of it, and the act that frees it.
use Rattle.std.proofs.Common.{◌≡◌, ℕ, Bool, true, false, cond, not, ◌&&◌, ◌||◌, nat_eq, List, [], ◌∷◌, Option, Some, None, refl, sym, ap, ◌∙◌, subst, eq-eqb}
use Rattle.std.specs.Prelude.{◌↔◌, option_map, option_and_then, is_some, if◌then◌else◌}
use Rattle.std.specs.List.{list_any}
use Rattle.std.specs.Map.{set_value}
use Rattle.std.proofs.lemmas.Bool.{eqb-true}
use Rattle.pat_semantics_spec.specs.Values.{Value, Const, Mailbox, Env, value_at}
use Rattle.pat_semantics_spec.specs.Programs.{Program, Guard, Clause}
use Rattle.pat_semantics_spec.specs.Configs.{Control, Frame, Thread, Config, thread_at, with_thread, thread_refers, message_refers, other_refers}
use Rattle.pat_semantics_spec.specs.Steps.{Act, ActFree, Redex, At, redex, at_node, step}
use Rattle.pat_semantics_laws.specs.Laws.{IsEnabled}
use Rattle.pat_machine_spec.specs.Tops.{over}
use Rattle.pat_machine_laws.proofs.Opens.{some_of}
use Rattle.pat_reduce.specs.threads.ThreadActs.{Guarding, guarding, guard_at}
use Rattle.pat_reduce.specs.Acts.{may_free, freed_by, act_if, free_act}
use Rattle.pat_reduce.proofs.Shared.{freed as left_by, free_step}
use Rattle.pat_machine_laws.specs.wakeups.Wakings.{mailbox_in}
use Rattle.pat_machine_indexes.specs.declared.refcounts.freed.Counted.{Counted}
use Rattle.pat_machine_indexes.specs.declared.refcounts.freed.Counted.TheVariants.{All, Others}
use Rattle.pat_machine_indexes.specs.refcounts.Counting.{freed, freed_at, TellsAlone, is_named_just}
use Rattle.pat_machine_indexes.specs.refcounts.Telling.{names_alone, says_alone}
use Rattle.pat_machine_states.specs.Alone.{GuardsAlone, StandsAlone}

-- the mailbox, where there is a clause for freeing it
abbrev with_free : Option ℕ → ℕ → Option ℕ
with_free None a = None
with_free (Some n) a = Some a

abbrev freed_of : Option Guarding → Option ℕ
freed_of None = None
freed_of (Some g) = with_free g.free g.mailbox

freed_value : (n : ℕ) (o : Option Value) (cs : List Clause) (env : Env) → mailbox_in o ≡ freed_of (guarding (Some n) cs env o)
freed_value n (Some (Mailbox a)) cs env = refl
freed_value n (Some (Const k)) cs env = refl
freed_value n None cs env = refl

freed_none : (o : Option Value) (cs : List Clause) (env : Env) → None ≡ freed_of (guarding None cs env o)
freed_none (Some (Mailbox a)) cs env = refl
freed_none (Some (Const k)) cs env = refl
freed_none None cs env = refl

freed_guard : (r : Redex) → freed_at r ≡ freed_of (guard_at r)
freed_guard (At (Guard x e (Some n) cs) env) = freed_value n (value_at env x) cs env
freed_guard (At (Guard x e None cs) env) = freed_none (value_at env x) cs env
freed_guard _ = refl

-- the counts say of the mailbox what they say of the thread
says_names : (p : Program) (k : Counted) (s : Thread) (a : ℕ) → freed p s ≡ Some a → says_alone p k s ≡ names_alone k s.control a
says_names p (All names) s a h = ap (is_named_just names.now.times.items _) h
says_names p (Others names) s a h = ap (is_named_just names.now.times.items _) h

-- what is known of the thread's mailbox is known of the guard's
pub tells_guard : (p : Program) (c : Config) (t : ℕ) (s : Thread) (k : Counted) (g : Guarding) → guard_at (redex p s.control) ≡ Some g → TellsAlone p c t s (says_alone p k s) → GuardsAlone c t g (names_alone k s.control g.mailbox)
tells_guard p c t s k g at tells = λ n is live empty.
    let frees : freed p s ≡ Some g.mailbox = freed_guard (redex p s.control) ∙ ap freed_of at ∙ ap (λ o. with_free o g.mailbox) is in
    tells g.mailbox frees live empty ∙ says_names p k s g.mailbox frees

-- ---- the free

act_same : (p : Program) (c : Config) (t : ℕ) (g : Guarding) (o : Option ℕ) → is_some (free_act c t g o) ≡ is_some (freed_by p c t g o)
act_same p c t g None = refl
act_same p c t g (Some n) =
    let q : ℕ × Control = (g.mailbox, at_node p n g.env) in
    elim (may_free c t g.mailbox) as (λ b. is_some (act_if b ActFree) ≡ is_some (if b then Some q else None)) [
      | true ↦ refl
      | false ↦ refl
    ]

pub some_map : {A B : Type 0} (f : A → B) (o : Option A) → is_some (option_map f o) ≡ is_some o
some_map f None = refl
some_map f (Some x) = refl

-- where there is an act that frees, a free is enabled
pub frees_exactly : {A : Type 0} (view : A → Act) (p : Program) (c : Config) (t : ℕ) (s : Thread) (g : Guarding) (o : Option A) → thread_at c t ≡ Some s → guard_at (redex p s.control) ≡ Some g
    → option_map view o ≡ free_act c t g g.free → (is_some o ≡ true) ↔ IsEnabled p c (record { thread = t; act = ActFree })
frees_exactly view p c t s g o there at is =
    let after = step p c (record { thread = t; act = ActFree }) in
    let same : is_some o ≡ is_some after =
    sym (some_map view o)
    ∙ ap is_some is
    ∙ act_same p c t g g.free
    ∙ sym (some_map (left_by c t s.frames) (freed_by p c t g g.free))
    ∙ ap (λ h. is_some (option_map (left_by c t s.frames) (option_and_then (λ x. freed_by p c t x x.free) h))) (sym at)
    ∙ ap is_some (sym (free_step p c t s there)) in
    (λ yes. some_of after (sym same ∙ yes), λ e. same ∙ ap is_some e.1)

-- ---- the top of a thread

others_same : (a t : ℕ) (ts : List (ℕ × Thread)) (x y : Thread) → other_refers a t (set_value (nat_eq t) ts x) ≡ other_refers a t (set_value (nat_eq t) ts y)
others_same a t [] x y = refl
others_same a t (e ∷ es) x y =
    (elim (nat_eq t e.0) as (λ v. nat_eq t e.0 ≡ v → other_refers a t (cond v ((e.0, x) ∷ es) (e ∷ set_value (nat_eq t) es x)) ≡ other_refers a t (cond v ((e.0, y) ∷ es) (e ∷ set_value (nat_eq t) es y))) [
      | true ↦ λ q.
          let own : nat_eq e.0 t ≡ true = eq-eqb e.0 t (sym (eqb-true t e.0 q)) in
          ap (λ b. (not b && thread_refers a x) || other_refers a t es) own ∙ sym (ap (λ b. (not b && thread_refers a y) || other_refers a t es) own)
      | false ↦ λ q. ap (λ b. (not (nat_eq e.0 t) && thread_refers a e.1) || b) (others_same a t es x y)
    ]) refl

-- what is known of the whole thread is known where its top stands alone
pub tells_on_top : (p : Program) (c : Config) (t : ℕ) (top : Thread) (rest : List Frame) (alone : Bool) → TellsAlone p (with_thread c t (over top rest)) t (over top rest) alone → TellsAlone p (with_thread c t top) t top alone
tells_on_top p c t top rest alone tells = λ a frees live empty.
    ap (λ b. not b && not (list_any (message_refers a) c.messages)) (others_same a t c.threads top (over top rest))
    ∙ tells a frees live empty

pub stands_there : (p : Program) (c middle : Config) (t : ℕ) (top : Thread) (k : Counted) → middle ≡ with_thread c t top → thread_at middle t ≡ Some top
    → TellsAlone p (with_thread c t top) t top (says_alone p k top) → StandsAlone p middle t k
stands_there p c middle t top k put there tells = λ s at.
    let both : Some top ≡ Some s = sym there ∙ at in
    let same : top ≡ s = cc in
    subst (λ x. TellsAlone p middle t x (says_alone p k x)) same
    (subst (λ d. TellsAlone p d t top (says_alone p k top)) (sym put) tells)

pub stands_on_top : (p : Program) (c middle : Config) (t : ℕ) (top : Thread) (rest : List Frame) (k : Counted) → middle ≡ with_thread c t top → thread_at middle t ≡ Some top
    → TellsAlone p (with_thread c t (over top rest)) t (over top rest) (says_alone p k top) → StandsAlone p middle t k
stands_on_top p c middle t top rest k put there tells =
    stands_there p c middle t top k put there (tells_on_top p c t top rest (says_alone p k top) tells)

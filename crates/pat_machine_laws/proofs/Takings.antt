-- What a machine keeps where a job is taken or given back, and at the start.
use Rattle.std.proofs.Common.{◌≡◌, ℕ, zero, suc, ◌+◌, ◌-◌, ◌<◌, ◌≤◌, true, false, cond, nat_eq, List, [], ◌∷◌, ◌++◌, length, take, Option, Some, None, refl, sym, ap, ◌∙◌, subst, arith, ⊎_elim, slice_get, slice_set, length-set}
use Rattle.std.specs.Map.{lookup}
use Rattle.std.specs.List.{AllByRecursion}
use Rattle.std.proofs.lemmas.Bool.{cases_eq, eqb-true}
use Rattle.pat_semantics_spec.specs.Programs.{Program, Function, function_at}
use Rattle.pat_semantics_spec.specs.WellFormed.{WellFormed}
use Rattle.pat_semantics_spec.specs.Configs.{Thread, Config, thread_at, start, start_of}
use Rattle.pat_semantics_spec.specs.Runs.{Entry, replay}
use Rattle.pat_machine_spec.specs.Typings.{IsTypable}
use Rattle.pat_safety_laws.proofs.Preserved.{run_typed}
use Rattle.pat_machine_spec.specs.Lendings.{Out, all_in, allowance_of, allowances}
use Rattle.pat_machine_spec.specs.Machines.{MachineInvariant}
use Rattle.pat_machine_spec.specs.Turns.{IsReady}
use Rattle.pat_machine_laws.proofs.Ready.{ready_there}
use Rattle.pat_machine_laws.proofs.Tables.{allowances_set, set_here, set_elsewhere, allowances_without, still_out}
use Rattle.pat_limits.specs.Limits.{most_steps}

below : (n : ℕ) (ts : List (ℕ × Thread)) (t : ℕ) (s : Thread) → AllByRecursion (λ e. e.0 < n) ts → lookup (nat_eq t) ts ≡ Some s → t < n
below n [] t s a h = cc
below n (e ∷ es) t s a h =
    (elim (nat_eq t e.0) as (λ v. nat_eq t e.0 ≡ v → cond v (Some e.1) (lookup (nat_eq t) es) ≡ Some s → t < n) [
      | true ↦ λ q k. subst (λ x. x < n) (sym (eqb-true t e.0 q)) a.0
      | false ↦ λ q k. below n es t s a.1 k
    ]) refl h

-- an entry that is there, of a thread that isn't out
pub entry_within : (out : Out) (t : ℕ) → t < length out → allowance_of out t ≡ None → slice_get out t ≡ Some None
entry_within [] t h none = absurd (omega arith)
entry_within (o ∷ out) zero h none = let same : o ≡ None = none in ap (λ (x : Option ℕ). Some x) same
entry_within (o ∷ out) (suc t) h none = entry_within out t (omega arith) none

module _ (p : Program) (budget limit : ℕ) (c : Config) (es : List Entry) (left : ℕ) (out : Out) (s : MachineInvariant p budget limit c es left out) where
  -- a thread that is there has an entry in the table
  pub thread_within : (t : ℕ) (x : Thread) → thread_at c t ≡ Some x → t < length out
  thread_within t x h = let w = s.table.whole in let b = below c.next_thread c.threads t x s.facts.typed.typed.numbers.ordered.threads_below h in omega arith

  -- a ready thread is taken
  pub take_stands : (t n : ℕ) (x : Thread) → thread_at c t ≡ Some x → allowance_of out t ≡ None → 0 < n → n ≤ left → MachineInvariant p budget limit c es (left - n) (slice_set out t (Some n))
  take_stands t n x there none some less =
      let within = thread_within t x there in
      let sum = allowances_set out t None (Some n) (entry_within out t within none) in
      let counted = s.facts.counted in
      record {
        well = s.well;
        small = s.small;
        space = s.space;
        facts = record { replayed = s.facts.replayed; history = s.facts.history; typed = s.facts.typed; counted = omega arith; limited = s.facts.limited };
        table = record {
          whole = length-set out t (Some n) ∙ s.table.whole;
          some = λ u m h.
              ⊎_elim
              (λ same.
              let here : Some n ≡ Some m = sym (set_here out t (Some n) within) ∙ ap (allowance_of (slice_set out t (Some n))) same ∙ h in
              let is : n ≡ m = cc in
              omega arith)
              (λ other. s.table.some u m (sym (set_elsewhere out t u (Some n) other) ∙ h))
              (cases_eq t u);
          there = λ u m h.
              ⊎_elim
              (λ same. (x, ap (thread_at c) (sym same) ∙ there))
              (λ other. s.table.there u m (sym (set_elsewhere out t u (Some n) other) ∙ h))
              (cases_eq t u);
        };
      }

  pub ready_stands : (t n : ℕ) → IsReady p c limit out t → 0 < n → n ≤ left → MachineInvariant p budget limit c es (left - n) (slice_set out t (Some n))
  ready_stands t n ready some less = let x = ready_there p c limit out t ready in take_stands t n x.0 x.1 ready.0 some less

  -- a job is given back
  pub give_back_stands : (t n : ℕ) → allowance_of out t ≡ Some n → MachineInvariant p budget limit c es (left + n) (slice_set out t None)
  give_back_stands t n is =
      let sum = allowances_without out t n is in
      let counted = s.facts.counted in
      record {
        well = s.well;
        small = s.small;
        space = s.space;
        facts = record { replayed = s.facts.replayed; history = s.facts.history; typed = s.facts.typed; counted = omega arith; limited = s.facts.limited };
        table = record {
          whole = length-set out t None ∙ s.table.whole;
          some = λ u m h. s.table.some u m (still_out out t u m h).1;
          there = λ u m h. s.table.there u m (still_out out t u m h).1;
        };
      }

pub length_all_in : (n : ℕ) → length (all_in n) ≡ n
length_all_in zero = refl
length_all_in (suc n) = ap suc (length_all_in n)

pub nothing_lent : (n : ℕ) → allowances (all_in n) ≡ 0
nothing_lent zero = refl
nothing_lent (suc n) = let h = nothing_lent n in omega arith

pub none_in : (n t : ℕ) → allowance_of (all_in n) t ≡ None
none_in zero t = refl
none_in (suc n) zero = refl
none_in (suc n) (suc t) = none_in n t

-- all jobs are given back
pub give_all_stands : (p : Program) (budget limit : ℕ) (c : Config) (es : List Entry) (left : ℕ) (out : Out) → MachineInvariant p budget limit c es left out → MachineInvariant p budget limit c es (left + allowances out) (all_in (length out))
give_all_stands p budget limit c es left out s =
    let none = nothing_lent (length out) in
    let counted = s.facts.counted in
    record {
      well = s.well;
      small = s.small;
      space = s.space;
      facts = record { replayed = s.facts.replayed; history = s.facts.history; typed = s.facts.typed; counted = omega arith; limited = s.facts.limited };
      table = record {
        whole = length_all_in (length out) ∙ s.table.whole;
        some = λ u m h. let no = none_in (length out) u in cc;
        there = λ u m h. let no = none_in (length out) u in cc;
      };
    }

no_messages : (o : Option Function) → length (start_of o).messages ≡ 0
no_messages None = refl
no_messages (Some f) = refl

take_none : (k : ℕ) → take {A = Entry} k [] ≡ []
take_none zero = refl
take_none (suc k) = refl

-- the start of a typable program
pub start_stands : (p : Program) (budget limit : ℕ) → WellFormed p → IsTypable p → budget ≤ most_steps → 0 < limit → MachineInvariant p budget limit (start p) [] budget (all_in (start p).next_thread)
start_stands p budget limit well typable small space =
    let none = nothing_lent (start p).next_thread in
    record {
      well = well;
      small = small;
      space = space;
      facts = record {
        replayed = refl;
        history = tt;
        typed = record { typing = typable.0; interfaces = λ a. 0; typed = run_typed p typable.0 (λ a. 0) [] (start p) well typable.1 refl };
        counted = omega arith;
        limited = λ k d h.
            let is : Some (start p) ≡ Some d = ap (replay p) (sym (take_none k)) ∙ h in
            let same : start p ≡ d = cc in
            let few = no_messages (function_at p p.main) in
            subst (λ (x : Config). length x.messages ≤ limit) same (omega arith);
      };
      table = record {
        whole = length_all_in (start p).next_thread;
        some = λ u m h. let no = none_in (start p).next_thread u in cc;
        there = λ u m h. let no = none_in (start p).next_thread u in cc;
      };
    }

-- one more thread that isn't out
pub all_in_more : (n : ℕ) → all_in n ++ None ∷ [] ≡ all_in (suc n)
all_in_more zero = refl
all_in_more (suc n) = ap (λ (l : Out). None ∷ l) (all_in_more n)

-- where nothing is lent, no thread is out
pub all_in_already : (out : Out) → allowances out ≡ 0 → ((t n : ℕ) → allowance_of out t ≡ Some n → 0 < n) → out ≡ all_in (length out)
all_in_already [] none some = refl
all_in_already (None ∷ out) none some = ap (λ (l : Out). None ∷ l) (all_in_already out (omega arith) (λ t n h. some (suc t) n h))
all_in_already (Some n ∷ out) none some = let more = some zero n refl in absurd (omega arith)

-- where something is lent, a thread is out
pub someone_out : (out : Out) → 0 < allowances out → (t n : ℕ) × (allowance_of out t ≡ Some n)
someone_out [] more = absurd (omega arith)
someone_out (None ∷ out) more = let k = someone_out out (omega arith) in (suc k.0, k.1, k.2)
someone_out (Some n ∷ out) more = (zero, n, refl)

-- The first act that is enabled, and local steps until none follows.
use Rattle.std.proofs.Common.{◌≡◌, ℕ, zero, suc, ◌≤◌, Bool, true, false, cond, ◌||◌, List, [], ◌∷◌, map, Option, Some, None, refl, ap, ◌∙◌, arith}
use Rattle.std.specs.Prelude.{option_map, option_and_then, find, is_some}
use Rattle.std.specs.List.{list_any}
use Rattle.pat_semantics_spec.specs.Programs.{Program}
use Rattle.pat_semantics_spec.specs.Configs.{Thread, Message, Config}
use Rattle.pat_semantics_spec.specs.Orders.{IsOrdered}
use Rattle.pat_semantics_spec.specs.Steps.{Act, ActLocal, ActNew, ActSend, ActSpawn, ActPrint, ActEnd, ActFree, ActReceive, step, local_step}
use Rattle.pat_semantics_spec.specs.Runs.{acts}
use Rattle.pat_semantics_laws.specs.Laws.{IsEnabled}
use Rattle.pat_semantics_laws.proofs.Lists.{clash}
use Rattle.pat_semantics_laws.proofs.Enabled.{thread_exact}
use Rattle.pat_semantics_laws.proofs.Ascending.{found_is_in}
use Rattle.pat_semantics_laws.proofs.Leasts.{first_receive}
use Rattle.pat_machine_spec.specs.Commits.{locally, IsLocalRun}
use Rattle.pat_machine_laws.proofs.Opens.{some_of}
use Rattle.pat_checkpoint_spec.specs.Turns.{locals_by, take_locals, first_act}

-- ---- searches

-- nothing passes where nothing is found
pub none_found : {A : Type 0} (f : A → Bool) (xs : List A) → find f xs ≡ None → list_any f xs ≡ false
none_found f [] h = refl
none_found {A} f (y ∷ ys) h =
    (elim (f y) as (λ b. cond b (Some y) (find f ys) ≡ None → (b || list_any f ys) ≡ false) [ true ↦ λ k. cc | false ↦ λ k. none_found f ys k ]) h

-- what is found and isn't the first is found behind it
found_later : {A : Type 0} (f : A → Bool) (x : A) (xs : List A) (y : A) → (x ≡ y → ⊥) → find f (x ∷ xs) ≡ Some y → find f xs ≡ Some y
found_later {A} f x xs y other h =
    (elim (f x) as (λ b. cond b (Some x) (find f xs) ≡ Some y → find f xs ≡ Some y) [ true ↦ λ k. absurd (other cc) | false ↦ λ k. k ]) h

-- the receive that is found is that of the first message whose receive passes
received_first : (f : Act → Bool) (ms : List Message) (k : ℕ) → find f (map (λ m. ActReceive m.number) ms) ≡ Some (ActReceive k) → option_map (λ m. m.number) (find (λ m. f (ActReceive m.number)) ms) ≡ Some k
received_first f [] k h = cc
received_first f (m ∷ ms) k h =
    (elim (f (ActReceive m.number)) as (λ b. cond b (Some (ActReceive m.number)) (find f (map (λ m. ActReceive m.number) ms)) ≡ Some (ActReceive k) → option_map (λ m. m.number) (cond b (Some m) (find (λ m. f (ActReceive m.number)) ms)) ≡ Some k) [
      | true ↦ λ q. let same : ActReceive m.number ≡ ActReceive k = cc in let number : m.number ≡ k = cc in ap Some number
      | false ↦ λ q. received_first f ms k q
    ]) h

-- ---- the first act

-- it is enabled
pub first_enabled : (p : Program) (c : Config) (t : ℕ) (a : Act) → first_act p c t ≡ Some a → IsEnabled p c (record { thread = t; act = a })
first_enabled p c t a h = some_of (step p c (record { thread = t; act = a })) (found_is_in (λ b. is_some (step p c (record { thread = t; act = b }))) (acts c) a h).1

-- where there is none, none is enabled
pub none_enabled : (p : Program) (c : Config) (t : ℕ) (a : Act) → first_act p c t ≡ None → IsEnabled p c (record { thread = t; act = a }) → ⊥
none_enabled p c t a h e =
    clash ((thread_exact p c t).1 (a, e)) (none_found (λ b. is_some (step p c (record { thread = t; act = b }))) (acts c) h)

-- a receive is that of the first message that may be received
pub found_first : (p : Program) (c : Config) (t k : ℕ) → first_act p c t ≡ Some (ActReceive k) → option_map (λ m. m.number) (find (λ m. is_some (step p c (record { thread = t; act = ActReceive m.number }))) c.messages) ≡ Some k
found_first p c t k h =
    let f : Act → Bool = λ b. is_some (step p c (record { thread = t; act = b })) in
    let rs : List Act = map (λ m. ActReceive m.number) c.messages in
    let r : Act = ActReceive k in
    let a1 = found_later f ActLocal (ActNew ∷ ActSend ∷ ActSpawn ∷ ActPrint ∷ ActEnd ∷ ActFree ∷ rs) r (λ q. cc) h in
    let a2 = found_later f ActNew (ActSend ∷ ActSpawn ∷ ActPrint ∷ ActEnd ∷ ActFree ∷ rs) r (λ q. cc) a1 in
    let a3 = found_later f ActSend (ActSpawn ∷ ActPrint ∷ ActEnd ∷ ActFree ∷ rs) r (λ q. cc) a2 in
    let a4 = found_later f ActSpawn (ActPrint ∷ ActEnd ∷ ActFree ∷ rs) r (λ q. cc) a3 in
    let a5 = found_later f ActPrint (ActEnd ∷ ActFree ∷ rs) r (λ q. cc) a4 in
    let a6 = found_later f ActEnd (ActFree ∷ rs) r (λ q. cc) a5 in
    let a7 = found_later f ActFree rs r (λ q. cc) a6 in
    received_first f c.messages k a7

-- which is the least
pub first_least : (p : Program) (c : Config) (t k m : ℕ) → IsOrdered c → first_act p c t ≡ Some (ActReceive k) → IsEnabled p c (record { thread = t; act = ActReceive m }) → k ≤ m
first_least p c t k m o h e = first_receive p c t k m o (found_first p c t k h) e

-- ---- local steps

-- as many as the allowance allows, or as there are
pub locals_taken : (p : Program) (n : ℕ) (s : Thread) → IsLocalRun p n s (take_locals p n s).count (take_locals p n s).thread
locals_taken p zero s = record { taken = refl; within = omega arith; whole = λ less. absurd (omega arith) }
locals_taken p (suc n) s = go (local_step p s) refl (λ r. locals_taken p n r)
  where
    go : (o : Option Thread) → local_step p s ≡ o → ((r : Thread) → IsLocalRun p n r (take_locals p n r).count (take_locals p n r).thread) → IsLocalRun p (suc n) s (locals_by (take_locals p n) s o).count (locals_by (take_locals p n) s o).thread
    go None is more = record { taken = refl; within = omega arith; whole = λ less. is }
    go (Some r) is more =
        let rest = more r in
        record {
          taken = ap (option_and_then (locally p (take_locals p n r).count)) is ∙ rest.taken;
          within = let w = rest.within in omega arith;
          whole = λ less. rest.whole (omega arith);
        }

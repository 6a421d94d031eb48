-- The act that is found in any way is the first one, and local steps that are taken in any way are those of the turn.
use Rattle.std.proofs.Common.{◌≡◌, ℕ, zero, suc, false, Option, Some, None, refl, sym, ap, ◌∙◌, subst, arith}
use Rattle.std.specs.Prelude.{option_map, find, is_some}
use Rattle.pat_semantics_spec.specs.Programs.{Program}
use Rattle.pat_semantics_spec.specs.Configs.{Thread, Config}
use Rattle.pat_semantics_spec.specs.Steps.{Act, ActReceive, step, local_step}
use Rattle.pat_semantics_spec.specs.Runs.{can_step_thread}
use Rattle.pat_semantics_laws.specs.Laws.{IsEnabled}
use Rattle.pat_semantics_laws.proofs.Lists.{clash}
use Rattle.pat_semantics_laws.proofs.Enabled.{thread_exact}
use Rattle.pat_machine_spec.specs.Commits.{locally, IsLocalRun}
use Rattle.pat_machine_laws.proofs.Locals.{first_local}
use Rattle.pat_checkpoint_spec.specs.Turns.{Locals, one_before, locals_by, take_locals, first_act}
use Rattle.pat_checkpoint_laws.proofs.Acts.{first_enabled, none_enabled, found_first}
use Rattle.pat_checkpoint_laws.proofs.ActKinds.{same_kind, no_free, SameAct, same_act, receives, kinds_same}

-- no act is first where none is enabled
pub first_none : (p : Program) (c : Config) (t : ℕ) → can_step_thread p c t ≡ false → first_act p c t ≡ None
first_none p c t h = go (first_act p c t) refl
  where
    go : (o : Option Act) → first_act p c t ≡ o → o ≡ None
    go None is = refl
    go (Some a) is = absurd (clash ((thread_exact p c t).1 (a, first_enabled p c t a is)) h)

-- an enabled act is the first, where a receive is that of the first message
pub first_is : (p : Program) (c : Config) (t : ℕ) (a : Act) → IsEnabled p c (record { thread = t; act = a }) → ((k : ℕ) → a ≡ ActReceive k → option_map (λ m. m.number) (find (λ m. is_some (step p c (record { thread = t; act = ActReceive m.number }))) c.messages) ≡ Some k) → first_act p c t ≡ Some a
first_is p c t a e least = go (first_act p c t) refl
  where
    by : (b : Act) → first_act p c t ≡ Some b → SameAct a b → Some b ≡ Some a
    by b is (same_act q) = ap Some (sym q)
    by b is (receives k m q r) =
        let found = found_first p c t m (is ∙ ap Some r) in
        let both : Some k ≡ Some m = sym (least k q) ∙ found in
        let same : k ≡ m = cc in
        ap Some (r ∙ ap ActReceive (sym same) ∙ sym q)

    go : (o : Option Act) → first_act p c t ≡ o → o ≡ Some a
    go None is = absurd (none_enabled p c t a is e)
    go (Some b) is =
        let f = first_enabled p c t b is in
        by b is (kinds_same a b (same_kind p c t a b e f)
        (λ k q r. no_free p c t k (subst (λ x. IsEnabled p c (record { thread = t; act = x })) q e) (subst (λ x. IsEnabled p c (record { thread = t; act = x })) r f))
        (λ k q r. no_free p c t k (subst (λ x. IsEnabled p c (record { thread = t; act = x })) q f) (subst (λ x. IsEnabled p c (record { thread = t; act = x })) r e)))

abbrev locals : ℕ → Thread → Locals
locals k s = record { count = k; thread = s }

-- local steps until none follows, or so many are taken, are those of the turn
pub locals_are : (p : Program) (n k : ℕ) (s r : Thread) → IsLocalRun p n s k r → take_locals p n s ≡ locals k r
locals_are p zero k s r l = none k l
  where
    none : (m : ℕ) → IsLocalRun p zero s m r → locals 0 s ≡ locals m r
    none zero l = let taken : Some s ≡ Some r = l.taken in let same : s ≡ r = cc in ap (locals 0) same
    none (suc m) l = let w = l.within in absurd (omega arith)
locals_are p (suc n) k s r l = go (local_step p s) refl k l (λ q m run. locals_are p n m q r run)
  where
    go : (o : Option Thread) → local_step p s ≡ o → (m : ℕ) → IsLocalRun p (suc n) s m r → ((q : Thread) (m : ℕ) → IsLocalRun p n q m r → take_locals p n q ≡ locals m r) → locals_by (take_locals p n) s o ≡ locals m r
    go None is zero l more = let taken : Some s ≡ Some r = l.taken in let same : s ≡ r = cc in ap (locals 0) same
    go None is (suc m) l more =
        let f = first_local p m s r l.taken in
        absurd (none_some is f.1)
      where
        none_some : {o : Option Thread} {x : Thread} → o ≡ None → o ≡ Some x → ⊥
        none_some h k = cc
    go (Some q) is zero l more =
        let taken : Some s ≡ Some r = l.taken in
        let same : s ≡ r = cc in
        absurd (none_some (ap (local_step p) same ∙ l.whole (omega arith)) is)
      where
        none_some : {o : Option Thread} {x : Thread} → o ≡ None → o ≡ Some x → ⊥
        none_some h k = cc
    go (Some q) is (suc m) l more =
        let f = first_local p m s r l.taken in
        let both : Some q ≡ Some f.0 = sym is ∙ f.1 in
        let same : q ≡ f.0 = cc in
        ap one_before (more q m (record {
          taken = ap (locally p m) same ∙ f.2;
          within = let w = l.within in omega arith;
          whole = λ less. l.whole (omega arith);
        }))

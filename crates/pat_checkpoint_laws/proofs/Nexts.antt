-- Whose turn is next.
use Rattle.std.proofs.Common.{◌≡◌, ℕ, true, false, ◌&&◌, Option, Some, None, refl, sym, ap, ◌∙◌}
use Rattle.std.specs.Prelude.{option_map, find}
use Rattle.std.specs.Option.{option_or}
use Rattle.std.proofs.lemmas.Bool.{and_parts}
use Rattle.pat_semantics_spec.specs.Programs.{Program}
use Rattle.pat_semantics_spec.specs.Configs.{Thread, Config}
use Rattle.pat_semantics_spec.specs.Runs.{can_step_thread, can_step}
use Rattle.pat_semantics_laws.proofs.Ascending.{found_is_in}
use Rattle.pat_machine_spec.specs.Turns.{is_above}
use Rattle.pat_checkpoint_spec.specs.Turns.{able_above, next_thread}
use Rattle.pat_checkpoint_laws.proofs.Acts.{none_found}

above_able : (p : Program) (c : Config) (last : Option ℕ) (t : ℕ) (o : Option (ℕ × Thread)) → find (λ e. is_above last e.0 && can_step_thread p c e.0) c.threads ≡ o → option_map (λ e. e.0) o ≡ Some t → can_step_thread p c t ≡ true
above_able p c last t None is h = cc
above_able p c last t (Some e) is h =
    let same : e.0 ≡ t = cc in
    ap (can_step_thread p c) (sym same)
    ∙ (and_parts (is_above last e.0) (can_step_thread p c e.0) (found_is_in (λ (e : ℕ × Thread). is_above last e.0 && can_step_thread p c e.0) c.threads e is).1).1

-- the next thread can take a step
pub next_able : (p : Program) (c : Config) (last : Option ℕ) (t : ℕ) → next_thread p c last ≡ Some t → can_step_thread p c t ≡ true
next_able p c last t h = go (able_above p c last) refl h
  where
    go : (o : Option ℕ) → able_above p c last ≡ o → option_or o (able_above p c None) ≡ Some t → can_step_thread p c t ≡ true
    go None is k = above_able p c None t (find (λ e. is_above None e.0 && can_step_thread p c e.0) c.threads) refl k
    go (Some n) is k = above_able p c last t (find (λ e. is_above last e.0 && can_step_thread p c e.0) c.threads) refl (is ∙ k)

nothing_found : (o : Option (ℕ × Thread)) → option_map (λ e. e.0) o ≡ None → o ≡ None
nothing_found None h = refl
nothing_found (Some e) h = cc

-- where no thread is next no step is enabled
pub none_able : (p : Program) (c : Config) (last : Option ℕ) → next_thread p c last ≡ None → can_step p c ≡ false
none_able p c last h = go (able_above p c last) refl h
  where
    go : (o : Option ℕ) → able_above p c last ≡ o → option_or o (able_above p c None) ≡ None → can_step p c ≡ false
    go None is k =
        none_found (λ e. can_step_thread p c e.0) c.threads (nothing_found (find (λ e. is_above None e.0 && can_step_thread p c e.0) c.threads) k)
    go (Some n) is k = cc

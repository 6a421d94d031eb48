-- Where a limit leaves room for a message, the next thread is the one whose turn it is at a machine where nobody is out.
use Rattle.std.proofs.Common.{◌≡◌, ℕ, ◌<◌, Bool, true, not, ◌&&◌, ◌||◌, length, List, [], ◌∷◌, Option, Some, None, refl, ap, ap₂, ◌∙◌}
use Rattle.std.specs.Prelude.{option_map, find, cond}
use Rattle.std.specs.Option.{option_or}
use Rattle.std.proofs.lemmas.Bool.{lt-ltb}
use Rattle.pat_semantics_spec.specs.Programs.{Program}
use Rattle.pat_semantics_spec.specs.Configs.{Thread, Config}
use Rattle.pat_semantics_spec.specs.Runs.{can_step_thread}
use Rattle.pat_machine_spec.specs.Opens.{can_send}
use Rattle.pat_machine_spec.specs.Turns.{is_above, is_ready, ready_above, turn}
use Rattle.pat_checkpoint_spec.specs.Turns.{able_above, next_thread}

find_same : {A : Type 0} (f g : A → Bool) → ((a : A) → f a ≡ g a) → (xs : List A) → find f xs ≡ find g xs
find_same f g h [] = refl
find_same f g h (x ∷ xs) = ap₂ (λ b o. cond b (Some x) o) (h x) (find_same f g h xs)

and_true : (b : Bool) → (b && true) ≡ b
and_true true = refl
and_true _ = refl

module _ (p : Program) (c : Config) (limit : ℕ) (space : length c.messages < limit) where
  ready_is : (t : ℕ) → is_ready p c limit [] t ≡ can_step_thread p c t
  ready_is t = ap (λ b. can_step_thread p c t && (b || not (can_send p c t))) (lt-ltb (length c.messages) limit space) ∙ and_true (can_step_thread p c t)

  above_is : (last : Option ℕ) → ready_above p c limit [] last ≡ able_above p c last
  above_is last =
      ap (option_map (λ e. e.0)) (find_same (λ (e : ℕ × Thread). is_above last e.0 && is_ready p c limit [] e.0) (λ e. is_above last e.0 && can_step_thread p c e.0) (λ e. ap (λ b. is_above last e.0 && b) (ready_is e.0)) c.threads)

  pub turn_is_next : (last : Option ℕ) → turn p c limit [] last ≡ next_thread p c last
  turn_is_next last = ap₂ (λ a b. option_or a b) (above_is last) (above_is None)

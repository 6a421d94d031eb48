-- What is left of a thread, put back among the others.
use Rattle.std.proofs.Common.{◌≡◌, ℕ, true, false, cond, nat_eq, List, [], ◌∷◌, ◌++◌, Some, None, refl, sym, ap, ◌∙◌, append-nil}
use Rattle.std.specs.Map.{lookup, set_value, remove_entry}
use Rattle.std.proofs.lemmas.Bool.{eq-eqb, cond-true, cond-false}
use Rattle.pat_semantics_spec.specs.Configs.{Thread, Message, Config}
use Rattle.pat_machine_laws.proofs.CommitsLookUps.{set_twice, set_same}
use Rattle.pat_machine_laws.specs.thread_frames.Alone.{put_back}

removed_anyway : (t : ℕ) (ts : List (ℕ × Thread)) (s : Thread) → remove_entry (nat_eq t) (set_value (nat_eq t) ts s) ≡ remove_entry (nat_eq t) ts
removed_anyway t [] s = refl
removed_anyway t (e ∷ es) s =
    (elim (nat_eq t e.0) as (λ v. nat_eq t e.0 ≡ v → remove_entry (nat_eq t) (cond v ((e.0, s) ∷ es) (e ∷ set_value (nat_eq t) es s)) ≡ cond v es (e ∷ remove_entry (nat_eq t) es)) [
      | true ↦ λ i. cond-true (nat_eq t e.0) es ((e.0, s) ∷ remove_entry (nat_eq t) es) i
      | false ↦ λ i. cond-false (nat_eq t e.0) (set_value (nat_eq t) es s) (e ∷ remove_entry (nat_eq t) (set_value (nat_eq t) es s)) i ∙ ap (λ l. e ∷ l) (removed_anyway t es s)
    ]) refl

pub place_is_taken : (t : ℕ) (threads : List (ℕ × Thread)) (hollow : Thread) (left : List (ℕ × Thread)) → put_back t (set_value (nat_eq t) threads hollow) left ≡ put_back t threads left
place_is_taken t threads hollow [] = removed_anyway t threads hollow
place_is_taken t threads hollow (own ∷ came) = ap (λ l. l ++ came) (set_twice threads t hollow own.1)

pub same_is_back : (t : ℕ) (threads : List (ℕ × Thread)) (s : Thread) → lookup (nat_eq t) threads ≡ Some s → put_back t threads ((t, s) ∷ []) ≡ threads
same_is_back t threads s there = append-nil (set_value (nat_eq t) threads s) ∙ set_same threads t s there

-- the parts of a configuration
pub with_parts : (d : Config) (ts : List (ℕ × Thread)) (ms : List Message) (live : List ℕ) → ts ≡ d.threads → ms ≡ d.messages → live ≡ d.live → d ≡ record d { threads = ts; messages = ms; live = live }
with_parts d ts ms live threads messages lives =
    ap (λ (l : List (ℕ × Thread)). record d { threads = l }) (sym threads)
    ∙ ap (λ (l : List Message). record d { threads = ts; messages = l }) (sym messages)
    ∙ ap (λ (l : List ℕ). record d { threads = ts; messages = ms; live = l }) (sym lives)

-- the list of one thread
module _ (t : ℕ) (s : Thread) where
  pub own_there : lookup (nat_eq t) ((t, s) ∷ []) ≡ Some s
  own_there = cond-true (nat_eq t t) (Some s) None (eq-eqb t t refl)

  pub own_set : (r : Thread) → set_value (nat_eq t) ((t, s) ∷ []) r ≡ (t, r) ∷ []
  own_set r = cond-true (nat_eq t t) ((t, r) ∷ []) ((t, s) ∷ []) (eq-eqb t t refl)

  pub own_removed : remove_entry (nat_eq t) ((t, s) ∷ []) ≡ []
  own_removed = cond-true (nat_eq t t) [] ((t, s) ∷ []) (eq-eqb t t refl)

  -- what is left of it, and who came, put back
  pub back_set : (threads : List (ℕ × Thread)) (r : Thread) (came : List (ℕ × Thread)) → put_back t threads (set_value (nat_eq t) ((t, s) ∷ []) r ++ came) ≡ set_value (nat_eq t) threads r ++ came
  back_set threads r came = ap (λ l. put_back t threads (l ++ came)) (own_set r)

  pub back_only : (threads : List (ℕ × Thread)) (r : Thread) → put_back t threads (set_value (nat_eq t) ((t, s) ∷ []) r) ≡ set_value (nat_eq t) threads r
  back_only threads r = ap (put_back t threads) (own_set r) ∙ append-nil (set_value (nat_eq t) threads r)

  pub back_removed : (threads : List (ℕ × Thread)) → put_back t threads (remove_entry (nat_eq t) ((t, s) ∷ [])) ≡ remove_entry (nat_eq t) threads
  back_removed threads = ap (put_back t threads) own_removed

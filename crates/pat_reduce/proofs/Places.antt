-- The place of a thread, and a local step there.
use Rattle.std.proofs.Common.{refl, ◌≡◌, ◌+◌, ◌<◌, nat_eq, ℕ, true, List, ◌∷◌, ◌++◌, length, take, drop, get_or, suc, Some, Result, Ok, Err, slice_get, slice_set, ap, sym, ◌∙◌, eq-eqb, add-one, subst}
use Rattle.std.specs.Prelude.{option_map, option_and_then}
use Rattle.std.specs.Map.{lookup, set_value, remove_entry}
use Rattle.std.proofs.lemmas.Bool.{cond-true}
use Rattle.std.proofs.lemmas.List.{drop_more, set_split, map-append, set-get_or}
use Rattle.std.proofs.lemmas.Option.{same_Some, slice_get-get_or, slice_get_read, get_or_from_slice_get}
use Rattle.pat_semantics_spec.specs.Programs.{Program}
use Rattle.pat_semantics_spec.specs.Configs.{Thread, thread_at, with_thread}
use Rattle.pat_semantics_spec.specs.Steps.{ActLocal, step, local_step, thread_step}
use Rattle.pat_reduce.specs.declared.threads.state.ThreadState.{ThreadState}
use Rattle.pat_reduce.specs.declared.config.Config.{Config}
use Rattle.pat_reduce_values.specs.declared.error.StepError.{StepError}
use Rattle.pat_reduce_values.specs.declared.error.StepError.TheVariants.{Disabled, NoMemory}
use Rattle.pat_reduce.specs.threads.ThreadViews.{thread_view}
use Rattle.pat_reduce.specs.Views.{threads_view, config_view}
use Rattle.pat_reduce_values.specs.Results.{StepGives}
use Rattle.pat_reduce.specs.Places.{IsPlace}

abbrev pub Threads : Type 0
Threads = List (ℕ × ThreadState)

-- the first thread with the number stands at its place
pub here : (threads : Threads) (t i : ℕ) (own : ℕ × ThreadState) → i < length threads → own ≡ get_or threads i own → t ≡ own.0
    → lookup (nat_eq t) (threads_view (drop i threads)) ≡ lookup (nat_eq t) (threads_view threads)
    → ((s : Thread) → set_value (nat_eq t) (threads_view threads) s ≡ threads_view (take i threads) ++ set_value (nat_eq t) (threads_view (drop i threads)) s)
    → remove_entry (nat_eq t) (threads_view threads) ≡ threads_view (take i threads) ++ remove_entry (nat_eq t) (threads_view (drop i threads))
    → IsPlace threads t i
here threads t i own within read named state changed gone =
    let test : nat_eq t own.0 ≡ true = eq-eqb t own.0 named in
    let front : drop i threads ≡ own ∷ drop (suc i) threads = drop_more threads i own within ∙ ap (λ x. x ∷ drop (i + 1) threads) (sym read) ∙ ap (λ n. own ∷ drop n threads) (add-one i) in
    let number : own.0 ≡ t = sym named in
    let rest = threads_view (drop (suc i) threads) in
    let own_state : lookup (nat_eq t) (threads_view threads) ≡ Some (thread_view own.1) =
    sym state ∙ ap (λ l. lookup (nat_eq t) (threads_view l)) front ∙ cond-true (nat_eq t own.0) (Some (thread_view own.1)) (lookup (nat_eq t) rest) test in
    record {
      within = within;
      state = λ e at. let same : own ≡ e = same_Some own e (ap Some read ∙ sym (slice_get-get_or threads i own within) ∙ at) in (ap (λ (q : ℕ × ThreadState). q.0) (sym same) ∙ number, own_state ∙ ap (λ (q : ℕ × ThreadState). Some (thread_view q.1)) same);
      changed = λ s.
          changed (thread_view s)
          ∙ ap (λ l. threads_view (take i threads) ++ set_value (nat_eq t) (threads_view l) (thread_view s)) front
          ∙ ap (λ l. threads_view (take i threads) ++ l) (cond-true (nat_eq t own.0) ((own.0, thread_view s) ∷ rest) ((own.0, thread_view own.1) ∷ set_value (nat_eq t) rest (thread_view s)) test)
          ∙ ap (λ (n : ℕ). threads_view (take i threads) ++ (n, thread_view s) ∷ rest) number
          ∙ sym (ap threads_view (set_split threads i (t, s) within) ∙ map-append _ (take i threads) ((t, s) ∷ drop (suc i) threads));
      gone =
          gone
          ∙ ap (λ l. threads_view (take i threads) ++ remove_entry (nat_eq t) (threads_view l)) front
          ∙ ap (λ l. threads_view (take i threads) ++ l) (cond-true (nat_eq t own.0) rest ((own.0, thread_view own.1) ∷ remove_entry (nat_eq t) rest) test)
          ∙ sym (map-append _ (take i threads) (drop (suc i) threads));
    }

module _ (p : Program) (c : Config) (t i : ℕ) (e : ℕ × ThreadState) (at : IsPlace c.threads t i) (got : slice_get c.threads i ≡ Some e) where
  -- the local step is that of the thread at the place
  acts : step p (config_view c) (record { thread = t; act = ActLocal }) ≡ option_map (with_thread (config_view c) t) (local_step p (thread_view e.1))
  acts = ap (λ o. option_and_then (λ s. thread_step p (config_view c) t s ActLocal) o) (at.state e got).1

  -- the same state again
  same : slice_set c.threads i e ≡ c.threads
  same = ap (slice_set c.threads i) (sym (get_or_from_slice_get c.threads i e e got)) ∙ set-get_or c.threads i e

  put_back : (s : ThreadState) → s ≡ e.1 → record c { threads = slice_set c.threads i (e.0, s) } ≡ c
  put_back s h = ap (λ s'. record c { threads = slice_set c.threads i (e.0, s') }) h ∙ ap (λ l. record c { threads = l }) same

  pub local_gives : (s : ThreadState) (r : Result (Unit {0}) StepError) → StepGives thread_view (local_step p (thread_view e.1)) e.1 s r
      → StepGives config_view (step p (config_view c) (record { thread = t; act = ActLocal })) c (record c { threads = slice_set c.threads i (e.0, s) }) r
  local_gives s (Ok _) taken =
      acts ∙ ap (option_map (with_thread (config_view c) t)) taken
      ∙ ap (λ l. Some (record (config_view c) { threads = l })) (at.changed s ∙ ap (λ (n : ℕ). threads_view (slice_set c.threads i (n, s))) (sym (at.state e got).0))
  local_gives s (Err Disabled) refused = (acts ∙ ap (option_map (with_thread (config_view c) t)) refused.0, put_back s refused.1)
  local_gives s (Err NoMemory) stays = put_back s stays

-- the same of a configuration that is seen by its fields
pub local_at_place : (p : Program) (k c : Config) (t i : ℕ) (e : ℕ × ThreadState) → k ≡ c → IsPlace c.threads t i → e ≡ get_or k.threads i e → (s : ThreadState) (r : Result (Unit {0}) StepError) → StepGives thread_view (local_step p (thread_view e.1)) e.1 s r
    → StepGives config_view (step p (config_view c) (record { thread = t; act = ActLocal })) c (record k { threads = slice_set k.threads i (e.0, s) }) r
local_at_place p k c t i e same at value s r gives =
    let own = subst (λ (d : Config). IsPlace d.threads t i) (sym same) at in
    subst (λ (d : Config). StepGives config_view (step p (config_view d) (record { thread = t; act = ActLocal })) d (record k { threads = slice_set k.threads i (e.0, s) }) r) same
    (local_gives p k t i e own (slice_get-get_or k.threads i e own.within ∙ ap Some (sym value)) s r gives)

-- the thread that stands at its place
pub thread_there : (c : Config) (slice : Threads) (t i : ℕ) (e : ℕ × ThreadState) → slice ≡ c.threads → IsPlace slice t i → e ≡ get_or slice i e → thread_at (config_view c) t ≡ Some (thread_view e.1)
thread_there c slice t i e same at is =
    ap (λ l. lookup (nat_eq t) (threads_view l)) (sym same) ∙ (at.state e (slice_get_read slice (length slice) i e refl at.within is)).1

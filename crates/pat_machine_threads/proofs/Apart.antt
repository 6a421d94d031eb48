-- A thread is moved out of a table, takes a step by itself, and goes back.
use Rattle.std.proofs.Common.{◌≡◌, ℕ, nat_eq, List, [], ◌∷◌, ◌++◌, map, Option, Some, None, Result, Ok, Err, refl, sym, ap, ◌∙◌, subst}
use Rattle.std.specs.Map.{lookup, set_value}
use Rattle.pat_semantics_spec.specs.Programs.{Program}
use Rattle.pat_semantics_spec.specs.Configs.{Thread, Message, Config, thread_at}
use Rattle.pat_semantics_spec.specs.Steps.{Act, Step, step}
use Rattle.pat_reduce_values.specs.declared.error.StepError.{StepError}
use Rattle.pat_reduce_values.specs.declared.error.StepError.TheVariants.{Disabled, NoMemory}
use Rattle.pat_reduce_values.specs.Results.{StepGives}
use Rattle.pat_reduce.specs.declared.threads.state.ThreadState.{ThreadState}
use Rattle.pat_reduce.specs.threads.ThreadViews.{message_view, thread_view}
use Rattle.pat_reduce.specs.declared.config.Config.{Config as CodeConfig}
use Rattle.pat_reduce.specs.Views.{config_view, threads_view}
use Rattle.pat_machine_laws.proofs.CommitsLookUps.{lookup_set}
use Rattle.pat_machine_laws.specs.thread_frames.Alone.{alone, put_back, AreLeft}
use Rattle.pat_machine_laws.proofs.Backs.{place_is_taken, same_is_back}
use Rattle.pat_machine_laws.proofs.ThreadFramesLeft.{threads_are_left}
use Rattle.pat_machine_threads.specs.table.Entries.{Threads}
use Rattle.pat_machine_threads.specs.store.ThreadStore.{placed_view, IsPlaced, hollow}
use Rattle.pat_machine_threads.specs.store.Steps.{StepsApart}

-- the thread stands in a list by itself, and in the table something else does
pub record IsApart (c : CodeConfig) (table : Threads) (t : ℕ) (own : ThreadState) (single : List (ℕ × ThreadState)) (rest : Threads) : Type 0 where
  pub by_itself : single ≡ (t, own) ∷ []
  pub there : lookup (nat_eq t) (threads_view table.entries) ≡ Some (thread_view own)
  pub others : threads_view rest.entries ≡ set_value (nat_eq t) (threads_view table.entries) hollow
  pub made : rest.made ≡ c.next_thread

pub moved : (c : CodeConfig) (table with_room rest : Threads) (t : ℕ) (single : List (ℕ × ThreadState)) → IsPlaced c table → with_room.entries ≡ table.entries → with_room.made ≡ table.made
    → rest.made ≡ with_room.made → threads_view rest.entries ≡ set_value (nat_eq t) (threads_view with_room.entries) hollow
    → (q : (own : ThreadState) × (single ≡ c.threads ++ (t, own) ∷ []) × (lookup (nat_eq t) (threads_view with_room.entries) ≡ Some (thread_view own))) → IsApart c table t q.0 single rest
moved c table with_room rest t single placed entries made as_many others (own, is, there) = record {
  by_itself = is ∙ ap (λ l. l ++ (t, own) ∷ []) placed.none;
  there = ap (λ l. lookup (nat_eq t) (threads_view l)) (sym entries) ∙ there;
  others = others ∙ ap (λ l. set_value (nat_eq t) (threads_view l) hollow) entries;
  made = as_many ∙ made ∙ placed.made;
}

module _ (p : Program) (c : CodeConfig) (table : Threads) (t : ℕ) (own : ThreadState) (single : List (ℕ × ThreadState)) (rest : Threads) (apart : IsApart c table t own single rest) where
  abbrev whole : Config
  whole = placed_view c table

  abbrev out : CodeConfig
  out = record c { threads = single }

  -- something stands in its place
  pub still_there : lookup (nat_eq t) (threads_view rest.entries) ≡ Some hollow
  still_there = ap (lookup (nat_eq t)) apart.others ∙ lookup_set (threads_view table.entries) t (thread_view own) hollow apart.there

  module _ (a : Act) (none : map message_view c.messages ≡ []) (after : CodeConfig) where
    abbrev k : Step
    k = record { thread = t; act = a }

    single_is : config_view out ≡ alone whole t (thread_view own) c.live
    single_is =
        ap (λ (l : List (ℕ × ThreadState)). record (config_view c) { threads = threads_view l }) apart.by_itself
        ∙ ap (λ (ms : List Message). record (config_view c) { threads = (t, thread_view own) ∷ []; messages = ms }) none

    inner : (o : Option Config) → step p (config_view out) k ≡ o → step p (alone whole t (thread_view own) c.live) k ≡ o
    inner o is = ap (λ x. step p x k) (sym single_is) ∙ is

    as_before : after ≡ out → threads_view after.threads ≡ (t, thread_view own) ∷ []
    as_before same = ap (λ (x : CodeConfig). threads_view x.threads) same ∙ ap threads_view apart.by_itself

    left_before : after ≡ out → AreLeft t rest.made (threads_view after.threads) after.next_thread
    left_before same = subst (λ l. AreLeft t rest.made l after.next_thread) (sym (as_before same)) (refl, ap (λ (x : CodeConfig). x.next_thread) same ∙ sym apart.made)

    -- what is left of it
    pub left_after : (r : Result (Unit {0}) StepError) → StepGives config_view (step p (config_view out) k) out after r → AreLeft t rest.made (threads_view after.threads) after.next_thread
    left_after (Ok u) gives = subst (λ n. AreLeft t n (threads_view after.threads) after.next_thread) (sym apart.made) (threads_are_left p whole (config_view after) t (thread_view own) c.live a (inner (Some (config_view after)) gives))
    left_after (Err Disabled) gives = left_before gives.1
    left_after (Err NoMemory) gives = left_before gives

    module _ (threads : List (ℕ × ThreadState)) (last : Threads) (is : threads_view last.entries ≡ put_back t (threads_view rest.entries) (threads_view after.threads)) where
      abbrev done : CodeConfig
      done = record after { threads = threads }

      entries : threads_view last.entries ≡ put_back t (threads_view table.entries) (threads_view after.threads)
      entries = is ∙ ap (λ l. put_back t l (threads_view after.threads)) apart.others ∙ place_is_taken t (threads_view table.entries) hollow (threads_view after.threads)

      as_it_was : after ≡ out → placed_view done last ≡ whole
      as_it_was same =
          ap (λ (x : CodeConfig). record (config_view x) { threads = threads_view last.entries }) same
          ∙ ap (λ l. record (config_view c) { threads = l }) (entries ∙ ap (put_back t (threads_view table.entries)) (as_before same) ∙ same_is_back t (threads_view table.entries) (thread_view own) apart.there)

      not_alone : step p (config_view out) k ≡ None → (s : Thread) → thread_at whole t ≡ Some s → step p (alone whole t s c.live) k ≡ None
      not_alone is_none s at =
          let both : Some (thread_view own) ≡ Some s = sym apart.there ∙ at in
          let same : thread_view own ≡ s = cc in
          subst (λ x. step p (alone whole t x c.live) k ≡ None) same (inner None is_none)

      pub steps_apart : (r : Result (Unit {0}) StepError) → StepGives config_view (step p (config_view out) k) out after r → StepsApart p whole k (placed_view done last) r
      steps_apart (Ok u) gives = record {
        thread = thread_view own;
        left = config_view after;
        there = apart.there;
        gives = inner (Some (config_view after)) gives;
        after = ap (λ l. record (config_view after) { threads = l }) entries;
      }
      steps_apart (Err Disabled) gives = (not_alone gives.0, as_it_was gives.1)
      steps_apart (Err NoMemory) gives = as_it_was gives

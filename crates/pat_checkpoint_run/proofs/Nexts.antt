-- Whose turn is next, as a loop over the threads finds it.
use Rattle.std.proofs.Common.{◌≡◌, ◌+◌, ◌<◌, ◌≤◌, arith, zero, suc, ℕ, Bool, true, false, List, [], ◌∷◌, length, drop, get_or, Option, Some, None, refl, sym, ap, ◌∙◌}
use Rattle.std.specs.Prelude.{option_map, find, is_some}
use Rattle.std.specs.Option.{option_or}
use Rattle.std.proofs.lemmas.Bool.{cond-true, cond-false}
use Rattle.std.proofs.lemmas.List.{drop_more}
use Rattle.pat_semantics_spec.specs.Programs.{Program}
use Rattle.pat_semantics_spec.specs.Configs.{Thread, Config}
use Rattle.pat_semantics_spec.specs.Runs.{can_step_thread}
use Rattle.pat_reduce.specs.declared.threads.state.ThreadState.{ThreadState}
use Rattle.pat_reduce.specs.declared.history.Act.{Act as CodeAct}
use Rattle.pat_reduce.specs.threads.ThreadViews.{thread_view}
use Rattle.pat_reduce.specs.Acts.{EnabledAct}
use Rattle.pat_reduce.specs.Views.{act_view, threads_view}
use Rattle.pat_checkpoint_spec.specs.Turns.{able_above, next_thread}
use Rattle.pat_checkpoint_run.specs.Searches.{first_from}

drop_past : {A : Type 0} (xs : List A) (i : ℕ) → length xs ≤ i → drop i xs ≡ []
drop_past [] zero h = refl
drop_past [] (suc i) h = refl
drop_past (x ∷ xs) zero h = absurd (omega arith)
drop_past (x ∷ xs) (suc i) h = drop_past xs i (omega arith)

-- whether an act was found says whether the thread can step
pub can_by : (p : Program) (c : Config) (t : ℕ) (o : Option CodeAct) → EnabledAct p c t (option_map act_view o) → is_some o ≡ can_step_thread p c t
can_by p c t None none = sym none
can_by p c t (Some a) h = sym h.1

module _ (test : ℕ → Bool) (items : List (ℕ × ThreadState)) where
  -- there is none behind the last
  pub over : (i : ℕ) → length items ≤ i → first_from test items i ≡ None
  over i past = ap (λ l. option_map (λ e. e.0) (find (λ e. test e.0) (threads_view l))) (drop_past items i past)

  module _ (i : ℕ) (e : ℕ × ThreadState) (within : i < length items) (read : e ≡ get_or items i e) where
    front : drop i items ≡ e ∷ drop (i + 1) items
    front = drop_more items i e within ∙ ap (λ x. x ∷ drop (i + 1) items) (sym read)

    abbrev rest : Option (ℕ × Thread)
    rest = find (λ e. test e.0) (threads_view (drop (i + 1) items))

    pub found : test e.0 ≡ true → first_from test items i ≡ Some e.0
    found can = ap (λ l. option_map (λ e. e.0) (find (λ e. test e.0) (threads_view l))) front ∙ ap (option_map (λ e. e.0)) (cond-true (test e.0) (Some (e.0, thread_view e.1)) rest can)

    pub passed : test e.0 ≡ false → first_from test items i ≡ first_from test items (i + 1)
    passed no_one = ap (λ l. option_map (λ e. e.0) (find (λ e. test e.0) (threads_view l))) front ∙ ap (option_map (λ e. e.0)) (cond-false (test e.0) (Some (e.0, thread_view e.1)) rest no_one)

-- the first above the last one, or else the first of all
pub next_some : (p : Program) (c : Config) (last : Option ℕ) (t : ℕ) → able_above p c last ≡ Some t → next_thread p c last ≡ Some t
next_some p c last t h = ap (λ o. option_or o (able_above p c None)) h

pub next_other : (p : Program) (c : Config) (last : Option ℕ) (o : Option ℕ) → able_above p c last ≡ None → able_above p c None ≡ o → next_thread p c last ≡ o
next_other p c last o h other = ap (λ q. option_or q (able_above p c None)) h ∙ other

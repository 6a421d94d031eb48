-- What the steps of entries make.
use Rattle.std.proofs.Common.{◌≡◌, ℕ, zero, suc, ◌+◌, ◌<◌, List, [], ◌∷◌, ◌++◌, length, drop, get_or, map, Option, Some, None, refl, sym, ap, ◌∙◌, append_assoc, append-nil}
use Rattle.std.specs.Prelude.{OnOk, Result, option_map, unwrap_or, replicate}
use Rattle.std.specs.declared.result.Result.TheVariants.{Ok, Err}
use Rattle.std.proofs.lemmas.List.{drop_more}
use Rattle.pat_semantics_spec.specs.Programs.{Program, option_list}
use Rattle.pat_semantics_spec.specs.Configs.{Config, thread_at}
use Rattle.pat_semantics_spec.specs.Steps.{Act, Step, step}
use Rattle.pat_semantics_spec.specs.Runs.{Entry, run_from, shared_step, entry_steps, entry_from}
use Rattle.pat_semantics_laws.specs.Laws.{history_steps}
use Rattle.pat_semantics_laws.proofs.Replays.{first_of}
use Rattle.pat_type_system_spec.specs.Interfaces.{made_by}
use Rattle.pat_machine_spec.specs.Commits.{local_of}
use Rattle.pat_reduce.specs.declared.history.Entry.{Entry as CodeEntry}
use Rattle.pat_reduce_values.specs.declared.error.StepError.{StepError}
use Rattle.pat_reduce.specs.Views.{entry_view}
use Rattle.pat_checkpoint_spec.specs.Resumed.{made_along}
use Rattle.pat_replay.proofs.Entries.{of_entry}

-- what steps make joins
joins : (p : Program) (ks js : List Step) (c d : Config) → run_from p c ks ≡ Some d → made_along p c (ks ++ js) ≡ made_along p c ks ++ made_along p d js
joins p [] js c d h = let same : c ≡ d = cc in ap (λ x. made_along p x js) same
joins p (k ∷ ks) js c d h =
    let q = first_of (λ x. run_from p x ks) d (step p c k) h in
    let own = option_list (made_by p k.act (thread_at c k.thread)) in
    ap (λ o. own ++ unwrap_or (option_map (λ x. made_along p x (ks ++ js)) o) []) q.1
    ∙ ap (λ l. own ++ l) (joins p ks js q.0 d q.2)
    ∙ sym (append_assoc own (made_along p q.0 ks) (made_along p d js))
    ∙ ap (λ o. (own ++ unwrap_or (option_map (λ x. made_along p x ks) o) []) ++ made_along p d js) (sym q.1)

-- what follows where a step is taken
pub on_ok : {P Q : Type 0} (r : Result (Unit {0}) StepError) → (P → Q) → OnOk r P → OnOk r Q
on_ok (Ok done) f h = f h
on_ok (Err e) f h = tt

-- one step makes what its act makes
pub one_makes : (p : Program) (c : Config) (t : ℕ) (a : Act) → made_along p c (shared_step t (Some a)) ≡ option_list (made_by p a (thread_at c t))
one_makes p c t a = go (step p c (record { thread = t; act = a }))
  where
    go : (o : Option Config) → option_list (made_by p a (thread_at c t)) ++ unwrap_or (option_map (λ d. made_along p d []) o) [] ≡ option_list (made_by p a (thread_at c t))
    go None = append-nil (option_list (made_by p a (thread_at c t)))
    go (Some d) = append-nil (option_list (made_by p a (thread_at c t)))

-- local steps make nothing
local_makes : (p : Program) (t n : ℕ) → ((d : Config) → made_along p d (replicate n (local_of t)) ≡ []) → (o : Option Config) → unwrap_or (option_map (λ d. made_along p d (replicate n (local_of t))) o) [] ≡ []
local_makes p t n h None = refl
local_makes p t n h (Some d) = h d

locals_make : (p : Program) (c : Config) (t n : ℕ) → made_along p c (replicate n (local_of t)) ≡ []
locals_make p c t zero = refl
locals_make p c t (suc n) = local_makes p t n (λ d. locals_make p d t n) (step p c (local_of t))

-- so an entry makes what its shared step makes
pub entry_makes : (p : Program) (c m : Config) (e : Entry) → run_from p c (replicate e.local_steps (local_of e.thread)) ≡ Some m → made_along p c (entry_steps e) ≡ made_along p m (shared_step e.thread e.shared)
entry_makes p c m e run =
    joins p (replicate e.local_steps (local_of e.thread)) (shared_step e.thread e.shared) c m run
    ∙ ap (λ l. l ++ made_along p m (shared_step e.thread e.shared)) (locals_make p c e.thread e.local_steps)

module _ (p : Program) (c d : Config) (entries : List CodeEntry) (i : ℕ) (nothing : CodeEntry) (within : i < length entries) where
  abbrev e : CodeEntry
  e = get_or entries i nothing

  abbrev rest : List Entry
  rest = map entry_view (drop (i + 1) entries)

  front : map entry_view (drop i entries) ≡ entry_view e ∷ rest
  front = ap (map entry_view) (drop_more entries i nothing within)

  -- what an entry makes comes before what those behind it make
  pub made_on : (before after whole : List ℕ) → entry_from p c (entry_steps (entry_view e)) ≡ Some d → after ≡ before ++ made_along p c (entry_steps (entry_view e))
      → before ++ made_along p c (history_steps (map entry_view (drop i entries))) ≡ whole → after ++ made_along p d (history_steps rest) ≡ whole
  made_on before after whole leads is h =
      let own = made_along p c (entry_steps (entry_view e)) in
      let more = made_along p d (history_steps rest) in
      let split : made_along p c (history_steps (map entry_view (drop i entries))) ≡ own ++ more =
      ap (λ l. made_along p c (history_steps l)) front ∙ joins p (entry_steps (entry_view e)) (history_steps rest) c d (of_entry p c d (entry_steps (entry_view e)) leads)
      in
      ap (λ l. l ++ more) is ∙ append_assoc before own more ∙ sym (ap (λ l. before ++ l) split) ∙ h

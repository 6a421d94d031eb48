-- Threads ascend by number, so those above one stand behind all others.
use Rattle.std.proofs.Common.{◌≡◌, ◌≤◌, arith, zero, suc, ℕ, Bool, true, false, cond, ◌&&◌, [], ◌∷◌, length, get_or, leb, Some, refl, ap, ◌∙◌}
use Rattle.std.specs.Prelude.{option_map, find, nat_lt}
use Rattle.std.specs.List.{AllWithin}
use Rattle.std.specs.List.Sorted.{IsNonDecreasingBy, IsPartitionPoint}
use Rattle.std.proofs.lemmas.Bool.{cond-false, leb-true, leb-false, lt-ltb, ltb-true, false_from_ne_true}
use Rattle.std.proofs.lemmas.Option.{slice_get-get_or}
use Rattle.pat_semantics_spec.specs.Configs.{Thread}
use Rattle.pat_machine_spec.specs.Turns.{is_above}
use Rattle.pat_reduce.specs.declared.threads.state.ThreadState.{ThreadState}
use Rattle.pat_reduce.specs.threads.ThreadViews.{thread_view}
use Rattle.pat_reduce.specs.Views.{threads_view}
use Rattle.pat_reduce.proofs.Ascending.{Threads, Ascending, at_least}
use Rattle.pat_checkpoint_run.specs.Searches.{first_from}

pub numbers_rise : (n : ℕ) (ts : Threads) → Ascending n ts → IsNonDecreasingBy (λ (e : ℕ × ThreadState). e.0) ts
numbers_rise n [] a i j d less within = absurd (omega arith)
numbers_rise n (x ∷ ts) a zero zero d less within = omega arith
numbers_rise n (x ∷ ts) a zero (suc j) d less within =
    let h = at_least (suc x.0) ts j (get_or ts j d) a.1 (slice_get-get_or ts j d (omega arith)) in
    omega arith
numbers_rise n (x ∷ ts) a (suc i) zero d less within = absurd (omega arith)
numbers_rise n (x ∷ ts) a (suc i) (suc j) d less within = numbers_rise (suc x.0) ts a.1 i j d (omega arith) (omega arith)

module _ (last : ℕ) (can : ℕ → Bool) where
  abbrev above_test : ℕ × Thread → Bool
  above_test e = is_above (Some last) e.0 && can e.0

  above : (t : ℕ) → leb t last ≡ false → is_above (Some last) t ≡ true
  above t h = lt-ltb last t (leb-false t last h)

  not_above : (t : ℕ) → leb t last ≡ true → is_above (Some last) t ≡ false
  not_above t h = let most = leb-true t last h in false_from_ne_true (nat_lt last t) (λ l. let less = ltb-true last t l in omega arith)

  all_above : (ts : Threads) → AllWithin (λ (e : ℕ × ThreadState). leb e.0 last ≡ false) ts 0 (length ts) → find above_test (threads_view ts) ≡ find (λ e. can e.0) (threads_view ts)
  all_above [] h = refl
  all_above (x ∷ ts) h =
      ap (λ b. cond (b && can x.0) (Some (x.0, thread_view x.1)) (find above_test (threads_view ts))) (above x.0 (h 0 x (omega arith) (omega arith)))
      ∙ ap (λ o. cond (can x.0) (Some (x.0, thread_view x.1)) o) (all_above ts (λ k d low high. h (suc k) d (omega arith) (omega arith)))

  -- so the first above the last one is the first from this place on
  pub above_from : (ts : Threads) (i : ℕ) → i ≤ length ts → IsPartitionPoint (λ (e : ℕ × ThreadState). leb e.0 last ≡ true) (λ e. leb e.0 last ≡ false) ts i
      → first_from (λ t. is_above (Some last) t && can t) ts 0 ≡ first_from can ts i
  above_from ts zero within parts = ap (option_map (λ e. e.0)) (all_above ts parts.1)
  above_from [] (suc i) within parts = absurd (omega arith)
  above_from (x ∷ ts) (suc i) within parts =
      ap (option_map (λ e. e.0))
      (cond-false (is_above (Some last) x.0 && can x.0) (Some (x.0, thread_view x.1)) (find above_test (threads_view ts))
      (ap (λ b. b && can x.0) (not_above x.0 (parts.0 0 x (omega arith) (omega arith)))))
      ∙ above_from ts i (omega arith) (λ k d low high. parts.0 (suc k) d (omega arith) (omega arith), λ k d low high. parts.1 (suc k) d (omega arith) (omega arith))

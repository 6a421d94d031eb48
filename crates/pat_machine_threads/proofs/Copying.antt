-- Threads that are copied slot after slot.
use Rattle.std.proofs.Common.{◌≡◌, ℕ, zero, suc, ◌+◌, List, [], ◌∷◌, ◌++◌, take, get_or, Option, Some, None, refl, sym, ap, ◌∙◌, arith, add-one}
use Rattle.std.proofs.lemmas.List.{map-append}
use Rattle.std.specs.Map.{keys_of}
use Rattle.pat_reduce.specs.declared.threads.state.ThreadState.{ThreadState}
use Rattle.pat_reduce.specs.Views.{threads_view}
use Rattle.pat_machine_threads.specs.table.Entries.{entries_from}
use Rattle.pat_machine_threads.specs.store.ThreadStore.{numbered}

copied_from : (n : ℕ) (slots : List (Option ThreadState)) (i : ℕ) → entries_from n (take (suc i) slots) ≡ entries_from n (take i slots) ++ numbered (n + i) (get_or slots i None)
copied_from n [] zero = refl
copied_from n [] (suc i) = refl
copied_from n (None ∷ slots) zero = refl
copied_from n (Some s ∷ slots) zero = ap (λ (k : ℕ). (k, s) ∷ []) (omega arith)
copied_from n (None ∷ slots) (suc i) = copied_from (suc n) slots i ∙ ap (λ k. entries_from (suc n) (take i slots) ++ numbered k (get_or slots i None)) (omega arith)
copied_from n (Some s ∷ slots) (suc i) =
    ap (λ l. (n, s) ∷ l) (copied_from (suc n) slots i ∙ ap (λ k. entries_from (suc n) (take i slots) ++ numbered k (get_or slots i None)) (omega arith))

pub copied_more : (slots : List (Option ThreadState)) (own more : List (ℕ × ThreadState)) (i : ℕ) → threads_view own ≡ threads_view (entries_from 0 (take i slots))
    → threads_view more ≡ threads_view own ++ threads_view (numbered i (get_or slots i None)) → threads_view more ≡ threads_view (entries_from 0 (take (i + 1) slots))
copied_more slots own more i so_far is =
    is
    ∙ ap (λ l. l ++ threads_view (numbered i (get_or slots i None))) so_far
    ∙ ap (λ k. threads_view (entries_from 0 (take i slots)) ++ threads_view (numbered k (get_or slots i None))) (omega arith)
    ∙ sym (map-append _ (entries_from 0 (take i slots)) (numbered (0 + i) (get_or slots i None)))
    ∙ ap threads_view (sym (ap (λ k. entries_from 0 (take k slots)) (add-one i) ∙ copied_from 0 slots i))

pub listed_more : (slots : List (Option ThreadState)) (own more : List ℕ) (i : ℕ) → own ≡ keys_of (threads_view (entries_from 0 (take i slots)))
    → more ≡ own ++ keys_of (threads_view (numbered i (get_or slots i None))) → more ≡ keys_of (threads_view (entries_from 0 (take (i + 1) slots)))
listed_more slots own more i so_far is =
    let next = numbered i (get_or slots i None) in
    let before = entries_from 0 (take i slots) in
    is
    ∙ ap (λ l. l ++ keys_of (threads_view next)) so_far
    ∙ sym (map-append _ (threads_view before) (threads_view next))
    ∙ ap keys_of (sym (map-append _ before next) ∙ copied_more slots before (before ++ next) i refl (map-append _ before next))

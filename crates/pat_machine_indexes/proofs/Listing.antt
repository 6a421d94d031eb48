-- The live mailboxes, listed one after another.
use Rattle.std.proofs.Common.{◌≡◌, ℕ, zero, suc, ◌+◌, Bool, List, [], ◌∷◌, ◌++◌, length, take, Option, Some, None, refl, sym, ap, ◌∙◌, arith, add-one}
use Rattle.std.specs.Prelude.{is_some, if◌then◌else◌}
use Rattle.std.proofs.lemmas.List.{length-append}
use Rattle.pat_semantics_spec.specs.Configs.{Message}
use Rattle.pat_machine_laws.specs.mailbox_index.Pending.{live_from, live_of, box_at}
use Rattle.pat_mailboxes.specs.Mailboxes.{Mailbox, mailbox_at}
use Rattle.pat_machine_indexes.specs.messages.Boxes.{boxes_view}
use Rattle.pat_machine_indexes.proofs.Boxed.{live_view}

abbrev one_if : Bool → ℕ → List ℕ
one_if b n = if b then n ∷ [] else []

listed_from : (n : ℕ) (boxes : List (Option (List Message))) (i : ℕ) → live_from n (take (suc i) boxes) ≡ live_from n (take i boxes) ++ one_if (is_some (box_at boxes i)) (n + i)
listed_from n [] zero = refl
listed_from n [] (suc i) = refl
listed_from n (None ∷ boxes) zero = refl
listed_from n (Some ms ∷ boxes) zero = ap (λ k. k ∷ []) (omega arith)
listed_from n (None ∷ boxes) (suc i) =
    listed_from (suc n) boxes i
    ∙ ap (λ k. live_from (suc n) (take i boxes) ++ one_if (is_some (box_at boxes i)) k) (omega arith)
listed_from n (Some ms ∷ boxes) (suc i) =
    ap (λ l. n ∷ l) (listed_from (suc n) boxes i
    ∙ ap (λ k. live_from (suc n) (take i boxes) ++ one_if (is_some (box_at boxes i)) k) (omega arith))

pub listed_more : (ms : List (Option Mailbox)) (own more : List ℕ) (i : ℕ) → own ≡ live_of (take i (boxes_view ms)) → more ≡ own ++ one_if (is_some (mailbox_at ms i)) i
    → more ≡ live_of (take (i + 1) (boxes_view ms))
listed_more ms own more i so_far is =
    is
    ∙ ap (λ l. l ++ one_if (is_some (mailbox_at ms i)) i) so_far
    ∙ ap (λ b. live_of (take i (boxes_view ms)) ++ one_if b i) (sym (live_view ms i))
    ∙ ap (λ k. live_of (take i (boxes_view ms)) ++ one_if (is_some (box_at (boxes_view ms) i)) k) (omega arith)
    ∙ sym (ap (λ k. live_of (take k (boxes_view ms))) (add-one i) ∙ listed_from 0 (boxes_view ms) i)

pub counted_more : (ms : List (Option Mailbox)) (own more i : ℕ) (b : Bool) → own ≡ length (live_of (take i (boxes_view ms))) → is_some (mailbox_at ms i) ≡ b → more ≡ own + length (one_if b i)
    → more ≡ length (live_of (take (i + 1) (boxes_view ms)))
counted_more ms own more i b so_far live is =
    let before = live_of (take i (boxes_view ms)) in
    is
    ∙ ap (λ n. n + length (one_if b i)) so_far
    ∙ ap (λ c. length before + length (one_if c i)) (sym live)
    ∙ sym (length-append before (one_if (is_some (mailbox_at ms i)) i))
    ∙ ap length (listed_more ms before (before ++ one_if (is_some (mailbox_at ms i)) i) i refl refl)

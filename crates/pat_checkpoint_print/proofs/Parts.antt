-- The certificates of a thread at its place.
use Rattle.std.proofs.Common.{◌≡◌, ℕ, suc, ◌+◌, ◌<◌, List, [], ◌∷◌, drop, length, get_or, map, refl, sym, ap, ◌∙◌, subst}
use Rattle.std.proofs.lemmas.List.{at_drop_more, length-map}
use Rattle.pat_reduce.specs.declared.threads.state.ThreadState.{ThreadState}
use Rattle.pat_reduce.specs.threads.ThreadViews.{frame_view}
use Rattle.pat_reduce.specs.Views.{threads_view}
use Rattle.pat_checkpoint_data.specs.Parts.{PartCerts}
use Rattle.pat_checkpoint_data.specs.Views.{end_view, part_certs_view}
use Rattle.pat_checkpoint_spec.specs.Checkpoints.{PartsAlign}

-- the item at a place stands before those behind it
pub row_from : {A : Type 0} (xs : List A) (i : ℕ) (x : A) → i < length xs → x ≡ get_or xs i x → drop i xs ≡ x ∷ drop (i + 1) xs
row_from xs i x h e = at_drop_more (λ ys. ys) xs i x h ∙ ap (λ y. y ∷ drop (i + 1) xs) (sym e)

pub parts_here : (ts : List (ℕ × ThreadState)) (ks : List PartCerts) (i : ℕ) (e : ℕ × ThreadState) (k : PartCerts) → drop i ts ≡ e ∷ drop (i + 1) ts → drop i ks ≡ k ∷ drop (i + 1) ks → PartsAlign (threads_view (drop i ts)) (map part_certs_view (drop i ks)) → (length k.frames ≡ length e.1.frames) × PartsAlign (threads_view (drop (i + 1) ts)) (map part_certs_view (drop (i + 1) ks))
parts_here ts ks i e k a b h =
    let one = subst (λ l. PartsAlign (threads_view l) (map part_certs_view (drop i ks))) a h in
    let both = subst (λ l. PartsAlign (threads_view (e ∷ drop (i + 1) ts)) (map part_certs_view l)) b one in
    (sym (length-map k.frames end_view) ∙ both.0 ∙ length-map e.1.frames frame_view, both.1)

-- there are as many certificates as threads
pub parts_count : (ts : List (ℕ × ThreadState)) (ks : List PartCerts) → PartsAlign (threads_view ts) (map part_certs_view ks) → length ks ≡ length ts
parts_count [] [] h = refl
parts_count [] (k ∷ ks) h = absurd h
parts_count (t ∷ ts) [] h = absurd h
parts_count (t ∷ ts) (k ∷ ks) h = ap suc (parts_count ts ks h.1)

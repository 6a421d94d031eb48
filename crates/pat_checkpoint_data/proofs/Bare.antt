-- Lists of nothing but parts without a certificate.
use Rattle.std.proofs.Common.{◌≡◌, ℕ, zero, suc, ◌+◌, ◌<◌, List, [], ◌∷◌, ◌++◌, length, take, get_or, replicate, reverse, Option, None, refl, sym, ap, ap₂, ◌∙◌, add-one}
use Rattle.std.proofs.lemmas.Grind.{reverse_onto}
use Rattle.std.proofs.lemmas.List.{take_more, length-reverse}
use Rattle.pat_derivations.specs.declared.data.Cert.{Cert}
use Rattle.pat_checkpoint_data.specs.Parts.{PartCerts}

replicate_end : {A : Type 0} (n : ℕ) (x : A) → replicate n x ++ x ∷ [] ≡ replicate (suc n) x
replicate_end zero x = refl
replicate_end (suc n) x = ap (λ l. x ∷ l) (replicate_end n x)

reverse_replicate : {A : Type 0} (n : ℕ) (x : A) → reverse (replicate n x) ≡ replicate n x
reverse_replicate zero x = refl
reverse_replicate (suc n) x = reverse_onto (replicate n x) x [] ∙ ap (λ l. l ++ x ∷ []) (reverse_replicate n x) ∙ replicate_end n x

-- one more that is none
pub none_more : {A : Type 0} (xs : List (Option A)) (i : ℕ) (x : Option A) → i < length xs → x ≡ get_or xs i x → x ≡ None → take i xs ≡ replicate i None → take (i + 1) xs ≡ replicate (i + 1) None
none_more xs i x within read none so_far =
    take_more xs i x within
    ∙ ap₂ (λ l y. l ++ y ∷ []) so_far (sym read ∙ none)
    ∙ replicate_end i None
    ∙ ap (λ n. replicate n None) (sym (add-one i))

abbrev without : List (Option Cert) → PartCerts
without frames = record { control = None; frames = frames }

-- so many frames that have none, seen from the one end or the other
pub bare_is : (slice own : List (Option Cert)) (n : ℕ) → reverse slice ≡ own → slice ≡ replicate (length slice) None → n ≡ length own → without (replicate n None) ≡ without own
bare_is slice own n is none count =
    ap without
    (ap (λ k. replicate k None) (count ∙ sym (ap length is) ∙ length-reverse slice)
    ∙ sym (reverse_replicate (length slice) None)
    ∙ ap reverse (sym none)
    ∙ is)

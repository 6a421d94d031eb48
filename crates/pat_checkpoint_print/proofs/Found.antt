-- The interface of a mailbox is the one at its place.
use Rattle.std.proofs.Common.{◌≡◌, ℕ, zero, suc, ◌<◌, ◌≤◌, if◌then◌else◌, List, [], ◌∷◌, length, get_or, Option, Some, None, Ok, Err, refl, sym, ap, ◌∙◌, ⊎_elim, arith}
use Rattle.std.specs.List.Sorted.{IsBinarySearchResult}
use Rattle.std.specs.Ordering.{nat_cmp}
use Rattle.std.proofs.lemmas.Bool.{eq-eqb, ne_eqb, cases_lt}
use Rattle.std.proofs.lemmas.List.Sorted.{searched}
use Rattle.pat_inclusion_spec.specs.Certificates.{Cert}
use Rattle.pat_semantics_spec.specs.Orders.{AscendsFrom}
use Rattle.pat_checkpoint_spec.specs.text.Lines.{mailbox_lines}
use Rattle.pat_checkpoint_spec.specs.text.CheckpointText.{interface_in}

-- the same two lemmas are in `pat_machine_indexes`, of threads; neither crate stands on the other
above : (n : ℕ) (live : List ℕ) (i d : ℕ) → AscendsFrom n live → i < length live → n ≤ get_or live i d
above n [] i d a h = omega arith
above n (x ∷ xs) zero d a h = a.0
above n (x ∷ xs) (suc i) d a h =
    let first : n ≤ x = a.0 in
    let rest = above (suc x) xs i d a.1 (omega arith) in
    omega arith

rise : (n : ℕ) (live : List ℕ) (i j d : ℕ) → AscendsFrom n live → i ≤ j → j < length live → get_or live i d ≤ get_or live j d
rise n [] i j d a le h = omega arith
rise n (x ∷ xs) zero zero d a le h = omega arith
rise n (x ∷ xs) zero (suc j) d a le h =
    let rest = above (suc x) xs j d a.1 (omega arith) in
    omega arith
rise n (x ∷ xs) (suc i) zero d a le h = omega arith
rise n (x ∷ xs) (suc i) (suc j) d a le h = rise (suc x) xs i j d a.1 (omega arith) (omega arith)

stands_at : (n : ℕ) (live is : List ℕ) (certs : List (Option Cert)) (b i d k : ℕ) → AscendsFrom n live → length is ≡ length live → length certs ≡ length live → i < length live → get_or live i d ≡ b → interface_in (mailbox_lines live is certs) b ≡ Some (get_or is i k)
stands_at n [] is certs b i d k a same also h at = absurd (omega arith)
stands_at n (m ∷ ms) [] certs b i d k a same also h at = absurd (omega (arith, same))
stands_at n (m ∷ ms) (j ∷ js) [] b i d k a same also h at = absurd (omega (arith, also))
stands_at n (m ∷ ms) (j ∷ js) (c ∷ cs) b zero d k a same also h at = ap (λ t. if t then Some j else interface_in (mailbox_lines ms js cs) b) (eq-eqb m b at)
stands_at n (m ∷ ms) (j ∷ js) (c ∷ cs) b (suc i) d k a same also h at =
    let rest = above (suc m) ms i d a.1 (omega arith) in
    ap (λ t. if t then Some j else interface_in (mailbox_lines ms js cs) b) (ne_eqb m b (λ (s : m ≡ b). omega (arith, rest, at, s)))
    ∙ stands_at (suc m) ms js cs b i d k a.1 (omega (arith, same)) (omega (arith, also)) (omega arith) at

stands_nowhere : (live is : List ℕ) (certs : List (Option Cert)) (b : ℕ) → ((i : ℕ) → i < length live → get_or live i 0 ≡ b → ⊥) → interface_in (mailbox_lines live is certs) b ≡ None
stands_nowhere [] is certs b h = refl
stands_nowhere (m ∷ ms) [] certs b h = refl
stands_nowhere (m ∷ ms) (j ∷ js) [] b h = refl
stands_nowhere (m ∷ ms) (j ∷ js) (c ∷ cs) b h =
    ap (λ t. if t then Some j else interface_in (mailbox_lines ms js cs) b) (ne_eqb m b (λ (s : m ≡ b). h zero (omega arith) s))
    ∙ stands_nowhere ms js cs b (λ i l at. h (suc i) (omega arith) at)

-- a search among ascending mailboxes finds the place, or there is none
pub found : (live is : List ℕ) (b i k : ℕ) → AscendsFrom 0 live → IsBinarySearchResult (λ e. nat_cmp e b) live (Ok i) → length is ≡ length live → (certs : List (Option Cert)) → length certs ≡ length live → Some (get_or is i k) ≡ interface_in (mailbox_lines live is certs) b
found live is b i k a s same certs also =
    let at = searched live b (Ok i) s (λ i j le h. rise 0 live i j 0 a le h) in
    sym (stands_at 0 live is certs b i 0 k a same also at.0 at.1)

pub not_found : (live is : List ℕ) (b i : ℕ) → AscendsFrom 0 live → IsBinarySearchResult (λ e. nat_cmp e b) live (Err i) → (certs : List (Option Cert)) → None ≡ interface_in (mailbox_lines live is certs) b
not_found live is b i a s certs = sym (stands_nowhere live is certs b nowhere)
  where
    nowhere : (k : ℕ) → k < length live → get_or live k 0 ≡ b → ⊥
    nowhere k h at =
        let gap = searched live b (Err i) s (λ i j le h. rise 0 live i j 0 a le h) in
        ⊎_elim
        (λ (l : k < i). let under = gap.1 k l in omega (arith, under, at))
        (λ (l : i ≤ k). let over = gap.2 k l h in omega (arith, over, at))
        (cases_lt k i)

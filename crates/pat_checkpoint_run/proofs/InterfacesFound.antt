-- The interface of a mailbox, by its place among live ones that ascend.
use Rattle.std.proofs.Common.{◌≡◌, ℕ, zero, suc, ◌<◌, ◌≤◌, nat_eq, List, [], ◌∷◌, length, get_or, refl, sym, ◌∙◌, arith}
use Rattle.std.specs.Prelude.{slice_get, unwrap_or}
use Rattle.std.proofs.lemmas.Bool.{cond-true, cond-false, eq-eqb, ne_eqb}
use Rattle.pat_semantics_spec.specs.Orders.{AscendsFrom}
use Rattle.pat_checkpoint_spec.specs.Checkpoints.{interface_at}

above : (n : ℕ) (ts : List ℕ) (i : ℕ) → AscendsFrom n ts → i < length ts → n ≤ get_or ts i 0
above n [] i a h = absurd (omega arith)
above n (x ∷ xs) zero a h = a.0
above n (x ∷ xs) (suc i) a h =
    let first : n ≤ x = a.0 in
    let rest = above (suc x) xs i a.1 (omega arith) in
    omega arith

rise : (n : ℕ) (ts : List ℕ) (i j : ℕ) → AscendsFrom n ts → i ≤ j → j < length ts → get_or ts i 0 ≤ get_or ts j 0
rise n [] i j a le h = absurd (omega arith)
rise n (x ∷ xs) zero zero a le h = omega arith
rise n (x ∷ xs) zero (suc j) a le h =
    let rest = above (suc x) xs j a.1 (omega arith) in
    omega arith
rise n (x ∷ xs) (suc i) zero a le h = absurd (omega arith)
rise n (x ∷ xs) (suc i) (suc j) a le h = rise (suc x) xs i j a.1 (omega arith) (omega arith)

-- no later one is less
pub rises : (ts : List ℕ) → AscendsFrom 0 ts → (i j : ℕ) → i ≤ j → j < length ts → get_or ts i 0 ≤ get_or ts j 0
rises ts a i j = rise 0 ts i j a

there : (n : ℕ) (live interfaces : List ℕ) (a i : ℕ) → AscendsFrom n live → i < length live → get_or live i 0 ≡ a → interface_at live interfaces a ≡ unwrap_or (slice_get interfaces i) 0
there n [] interfaces a i up h at = absurd (omega arith)
there n (b ∷ bs) [] a i up h at = refl
there n (b ∷ bs) (x ∷ xs) a zero up h at = cond-true (nat_eq a b) x (interface_at bs xs a) (eq-eqb a b (sym at))
there n (b ∷ bs) (x ∷ xs) a (suc i) up h at =
    let rest = above (suc b) bs i up.1 (omega arith) in
    cond-false (nat_eq a b) x (interface_at bs xs a) (ne_eqb a b (λ e. omega arith)) ∙ there (suc b) bs xs a i up.1 (omega arith) at

-- the interface at the place of the mailbox
pub stands_at : (live interfaces : List ℕ) (a i : ℕ) → AscendsFrom 0 live → i < length live → get_or live i 0 ≡ a → interface_at live interfaces a ≡ unwrap_or (slice_get interfaces i) 0
stands_at live interfaces a i up = there 0 live interfaces a i up

-- none, where the mailbox isn't live
pub absent : (live interfaces : List ℕ) (a : ℕ) → ((i : ℕ) → i < length live → get_or live i 0 ≡ a → ⊥) → interface_at live interfaces a ≡ 0
absent [] interfaces a h = refl
absent (b ∷ bs) [] a h = refl
absent (b ∷ bs) (x ∷ xs) a h =
    cond-false (nat_eq a b) x (interface_at bs xs a) (ne_eqb a b (λ e. h 0 (omega arith) (sym e)))
    ∙ absent bs xs a (λ i less. h (suc i) (omega arith))

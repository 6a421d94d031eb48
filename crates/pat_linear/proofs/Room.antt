-- Room for each set of a list.
use Rattle.std.proofs.Common.{◌≡◌, ℕ, zero, suc, ◌+◌, ◌<◌, ◌^◌, List, [], ◌∷◌, length, get_or, sym, subst, arith}
use Rattle.pat_inclusion_spec.specs.LinearSets.{LinearSet}
use Rattle.pat_linear.specs.declared.set.LinearSet.{LinearSet as CodeSet}
use Rattle.pat_linear.specs.Views.{set_view, sets_view}
use Rattle.pat_linear.specs.Rooms.{HasRoom, HaveRoom}

-- both bases together fit
abbrev Fit : LinearSet → LinearSet → Type 0
Fit a b = (t : ℕ) → t < 32 → a.base t + b.base t < 2 ^ 32

row_at : (a : LinearSet) (bs : List CodeSet) (i : ℕ) (d : CodeSet) → HasRoom a (sets_view bs) → i < length bs → Fit a (set_view (get_or bs i d))
row_at a [] i d h l = absurd (omega arith)
row_at a (b ∷ bs) zero d h l = λ t lt.
    let x = h.3.0 t in
    let y = h.4.0.0 t in
    let z = h.5 in
    omega arith
row_at a (b ∷ bs) (suc i) d h l = row_at a bs i d (h.0, h.1, h.2, h.3, h.4.1, h.5) (omega arith)

-- the base of one of the others may be added
pub room_at : (a : LinearSet) (bs : List CodeSet) (i : ℕ) (b : CodeSet) → HasRoom a (sets_view bs) → i < length bs → b ≡ get_or bs i b → (t : ℕ) → t < 32 → a.base t + (set_view b).base t < 2 ^ 32
room_at a bs i b h l e = subst (λ x. Fit a (set_view x)) (sym e) (row_at a bs i b h l)

rows_here : (xs : List CodeSet) (ys : List LinearSet) (i : ℕ) (d : CodeSet) → HaveRoom (sets_view xs) ys → i < length xs → HasRoom (set_view (get_or xs i d)) ys
rows_here [] ys i d h l = absurd (omega arith)
rows_here (a ∷ xs) ys zero d h l = (h.0, h.1, h.2, h.3.0, h.4, h.5)
rows_here (a ∷ xs) ys (suc i) d h l = rows_here xs ys i d (h.0, h.1, h.2, h.3.1, h.4, h.5) (omega arith)

-- one of the sets has room
pub rows_at : (xs : List CodeSet) (ys : List LinearSet) (i : ℕ) (a : CodeSet) → HaveRoom (sets_view xs) ys → i < length xs → a ≡ get_or xs i a → HasRoom (set_view a) ys
rows_at xs ys i a h l e = subst (λ x. HasRoom (set_view x) ys) (sym e) (rows_here xs ys i a h l)

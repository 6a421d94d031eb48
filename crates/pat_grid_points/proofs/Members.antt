-- The points of a list of tests, listed.
use Rattle.std.proofs.Common.{◌≡◌, ℕ, zero, suc, ◌+◌, ◌<◌, Bool, true, false, List, [], ◌∷◌, length, get_or, inl, inr, ⊎_elim, refl, sym, ap, ◌∙◌, subst, arith}
use Rattle.pat_words_spec.specs.Words.{Word}
use Rattle.pat_words_spec.specs.Languages.{MemberOf}
use Rattle.pat_inclusion_spec.specs.bounds.Numbers.{number_of, point_of}
use Rattle.pat_inclusion_laws.proofs.NumberLaws.{number_point, number_small}
use Rattle.pat_grid_points.specs.declared.grid.Grid.{Grid}
use Rattle.pat_grid_points.specs.Views.{HasPoint, held_from, points_of}
use Rattle.pat_grid_points.proofs.Sets.{number_in}

-- a word that is listed is the point of a number that is held
abbrev Numbered : ℕ → ℕ → ℕ → List Bool → Word → Type 0
Numbered k n c held u = (i : ℕ) × (i < length held) × (get_or held i false ≡ true) × (u ≡ point_of k n (c + i))

next_number : (k n c : ℕ) (b : Bool) (held : List Bool) (u : Word) → Numbered k n (suc c) held u → Numbered k n c (b ∷ held) u
next_number k n c b held u h = (suc h.0, let l = h.1 in omega arith, h.2, h.3 ∙ ap (point_of k n) (let e : suc c + h.0 ≡ c + suc h.0 = omega arith in e))

numbered : (k n c : ℕ) (held : List Bool) (u : Word) → MemberOf (held_from k n c held) u → Numbered k n c held u
numbered k n c [] u h = absurd h
numbered k n c (true ∷ held) u h =
    ⊎_elim
    (λ e. (0, omega arith, refl, sym e ∙ ap (point_of k n) (let z : c ≡ c + 0 = omega arith in z)))
    (λ m. next_number k n c true held u (numbered k n (suc c) held u m))
    h
numbered k n c (false ∷ held) u h = next_number k n c false held u (numbered k n (suc c) held u h)

listed : (k n c i : ℕ) (held : List Bool) → i < length held → get_or held i false ≡ true → MemberOf (held_from k n c held) (point_of k n (c + i))
listed k n c i [] l h = absurd (omega arith)
listed k n c zero (true ∷ held) l h = inl (ap (point_of k n) (let z : c ≡ c + 0 = omega arith in z))
listed k n c zero (false ∷ held) l h = absurd (cc)
listed k n c (suc i) (true ∷ held) l h =
    inr (subst (λ x. MemberOf (held_from k n (suc c) held) (point_of k n x)) (let e : suc c + i ≡ c + suc i = omega arith in e) (listed k n (suc c) i held (omega arith) h))
listed k n c (suc i) (false ∷ held) l h =
    subst (λ x. MemberOf (held_from k n (suc c) held) (point_of k n x)) (let e : suc c + i ≡ c + suc i = omega arith in e) (listed k n (suc c) i held (omega arith) h)

pub member_point : (g : Grid) (u : Word) → MemberOf (points_of g) u → HasPoint g u
member_point g u m =
    let h = numbered g.k g.tags 0 g.held u m in
    let all = g.counted in
    let l = h.1 in
    subst (HasPoint g) (ap (point_of g.k g.tags) (let e : h.0 ≡ 0 + h.0 = omega arith in e) ∙ sym h.3) (number_in g.k g.tags h.0 g.held (omega arith) h.2)

pub point_member : (g : Grid) (u : Word) → HasPoint g u → MemberOf (points_of g) u
point_member g u p =
    let c = number_of g.k g.tags u in
    let l = number_small g.k g.tags u p.0 in
    let all = g.counted in
    subst (MemberOf (points_of g)) (ap (point_of g.k g.tags) (let e : 0 + c ≡ c = omega arith in e) ∙ number_point g.k g.tags u p.0) (listed g.k g.tags 0 c g.held (omega arith) p.1)

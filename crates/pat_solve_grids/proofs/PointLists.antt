-- Listed points against the grids that they are of.
use Rattle.std.proofs.Common.{◌≡◌, ℕ, zero, suc, ◌+◌, ◌<◌, ⊎_elim, inl, inr, true, List, [], ◌∷◌, ◌++◌, length, map, Some, take, refl, sym, ap, ◌∙◌, subst, ◌↔◌}
use Rattle.std.specs.Prelude.{get_or, slice_get}
use Rattle.std.specs.List.{list_any}
use Rattle.std.proofs.lemmas.Bool.{or_cases, or_left, or_right}
use Rattle.std.proofs.lemmas.List.{take_more}
use Rattle.pat_words_spec.specs.Words.{Word}
use Rattle.pat_words_spec.specs.Tags.{HasTagsBelow}
use Rattle.pat_words_spec.specs.Languages.{MemberOf}
use Rattle.pat_bags.specs.declared.Bag.{Bag}
use Rattle.pat_bags.specs.Views.{word_of}
use Rattle.pat_inclusion_spec.specs.Counts.{same_below, counted}
use Rattle.pat_inclusion_laws.proofs.Spans.{same_words}
use Rattle.pat_inclusion_laws.proofs.Exact.{same_from}
use Rattle.pat_inclusion_spec.specs.bounds.CutSets.{IsPoint}
use Rattle.pat_grid_points.specs.declared.grid.Grid.{Grid}
use Rattle.pat_grid_points.specs.Views.{HasPoint, points_of}
use Rattle.pat_solve_grids.specs.Points.{IsListing, AreListed}

-- ---- lists of points, one after another

listed_more : (g : Grid) (p : List Bag) (grids : List Grid) (points : List (List Bag)) → AreListed grids points → IsListing g p → AreListed (grids ++ g ∷ []) (points ++ p ∷ [])
listed_more g p [] [] h r = (r, tt)
listed_more g p [] (q ∷ points) h r = absurd h
listed_more g p (k ∷ grids) [] h r = absurd h
listed_more g p (k ∷ grids) (q ∷ points) h r = (h.0, listed_more g p grids points h.1 r)

pub listed_turn : (grids : List Grid) (i : ℕ) (old new : List (List Bag)) (g : Grid) (p : List Bag) → i < length grids → g ≡ get_or grids i g → AreListed (take i grids) old → IsListing g p → new ≡ old ++ p ∷ [] → AreListed (take (i + 1) grids) new
listed_turn grids i old new g p l is h r e =
    subst (AreListed (take (i + 1) grids)) (sym e)
    (subst (λ gs. AreListed gs (old ++ p ∷ [])) (ap (λ x. take i grids ++ x ∷ []) is ∙ sym (take_more grids i g l)) (listed_more g p (take i grids) old h r))

pub listed_count : (grids : List Grid) (points : List (List Bag)) → AreListed grids points → length points ≡ length grids
listed_count [] [] h = refl
listed_count [] (p ∷ points) h = absurd h
listed_count (g ∷ grids) [] h = absurd h
listed_count (g ∷ grids) (p ∷ points) h = ap suc (listed_count grids points h.1)

pub listing_at : (grids : List Grid) (points : List (List Bag)) (j : ℕ) (p : List Bag) → AreListed grids points → slice_get points j ≡ Some p → (g : Grid) × (slice_get grids j ≡ Some g) × IsListing g p
listing_at [] [] j p h e = cc
listing_at [] (q ∷ points) j p h e = absurd h
listing_at (g ∷ grids) [] j p h e = absurd h
listing_at (g ∷ grids) (q ∷ points) zero p h e =
    let same : q ≡ p = cc in (g, refl, subst (IsListing g) same h.0)
listing_at (g ∷ grids) (q ∷ points) (suc j) p h e = listing_at grids points j p h.1 e

-- ---- one list

any_to : (n : ℕ) (u : Word) (bs : List Bag) → HasTagsBelow n u → ((w : Word) → MemberOf (map word_of bs) w → HasTagsBelow n w) → list_any (λ p. same_below n u (counted p)) (map (λ (b : Bag). b.counts) bs) ≡ true → MemberOf (map word_of bs) u
any_to n u [] below all h = cc
any_to n u (b ∷ bs) below all h =
    ⊎_elim
    (λ t. inl (sym (same_words n u (word_of b) below (all (word_of b) (inl refl)) t)))
    (λ t. inr (any_to n u bs below (λ w m. all w (inr m)) t))
    (or_cases (same_below n u (counted b.counts)) (list_any (λ p. same_below n u (counted p)) (map (λ (x : Bag). x.counts) bs)) h)

any_from : (n : ℕ) (u : Word) (bs : List Bag) → MemberOf (map word_of bs) u → list_any (λ p. same_below n u (counted p)) (map (λ (b : Bag). b.counts) bs) ≡ true
any_from n u [] m = absurd m
any_from n u (b ∷ bs) m =
    let first = same_below n u (counted b.counts) in
    let rest = list_any (λ p. same_below n u (counted p)) (map (λ (x : Bag). x.counts) bs) in
    ⊎_elim (λ e. or_left first rest (same_from n u (word_of b) (sym e))) (λ r. or_right first rest (any_from n u bs r)) m

-- the listed points are just those of the grid
pub any_point : ((g : Grid) (u : Word) → MemberOf (points_of g) u ↔ HasPoint g u) → (g : Grid) (bs : List Bag) (u : Word) → IsListing g bs → IsPoint g.k g.tags u → (list_any (λ p. same_below g.tags u (counted p)) (map (λ (b : Bag). b.counts) bs) ≡ true) ↔ HasPoint g u
any_point law g bs u list point = (
  λ h. (law g u).0 (subst (λ ws. MemberOf ws u) list.all (any_to g.tags u bs point.0 (λ w m. let has = (law g w).0 (subst (λ ws. MemberOf ws w) list.all m) in let at = has.0 in at.0) h)),
  λ h. any_from g.tags u bs (subst (λ ws. MemberOf ws u) (sym list.all) ((law g u).1 h)),
)

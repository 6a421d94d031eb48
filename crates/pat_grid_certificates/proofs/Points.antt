-- The points of a value, cut at another bound.
use Rattle.std.proofs.Common.{◌≡◌, ℕ, zero, suc, ◌≤◌, ◌↔◌, inl, inr, ⊎_elim, true, List, [], ◌∷◌, map, refl, sym, ◌∙◌, subst, arith}
use Rattle.std.specs.Prelude.{◌&&◌, nat_lt, nat_eq, nat_le}
use Rattle.std.specs.List.{AllByRecursion, list_all, list_any}
use Rattle.std.proofs.lemmas.Bool.{and_parts, or_cases, or_left, or_right, cases_lt, eqb-true}
use Rattle.pat_words_spec.specs.Words.{Word}
use Rattle.pat_words_spec.specs.Patterns.{In}
use Rattle.pat_words_spec.specs.Tags.{HasTagsBelow}
use Rattle.pat_words_spec.specs.Cuts.{cut_at, CutOf}
use Rattle.pat_words_spec.specs.Languages.{MemberOf}
use Rattle.pat_words_laws.proofs.WordLaws.{word_ext, count_eq}
use Rattle.pat_bags.specs.declared.Bag.{Bag}
use Rattle.pat_bags.specs.Views.{word_of}
use Rattle.pat_inclusion_spec.specs.Counts.{same_below, counted}
use Rattle.pat_inclusion_spec.specs.Points.{grid_fits, point_fits, points_ascend, points_fit, points_pattern}
use Rattle.pat_inclusion_spec.specs.Values.{GridForm, value_fits}
use Rattle.pat_inclusion_laws.proofs.Spans.{same_words}
use Rattle.pat_inclusion_laws.proofs.Exact.{same_from, point_count}
use Rattle.pat_inclusion_laws.proofs.CutLaws.{cut_below}
use Rattle.pat_inclusion_laws.proofs.LawParts.{points_words}
use Rattle.pat_inclusion_spec.specs.bounds.CutSets.{IsPoint}
use Rattle.pat_grid_certificates.specs.Views.{counts_view}
use Rattle.pat_grid_certificates.specs.Cutting.{IsCutMember}

pub fits_points : (n k : ℕ) (bs : List Bag) → value_fits n (GridForm k (counts_view bs)) ≡ true → points_fit k n (counts_view bs) ≡ true
fits_points n k bs h = (and_parts (nat_lt 0 n) (points_fit k n (counts_view bs)) h).1

pub fits_grid : (n k : ℕ) (bs : List Bag) → value_fits n (GridForm k (counts_view bs)) ≡ true → grid_fits k n ≡ true
fits_grid n k bs h =
    (and_parts (grid_fits k n) (list_all (point_fits k n) (counts_view bs) && points_ascend (counts_view bs)) (fits_points n k bs h)).0

pub all_fit : (n k : ℕ) (bs : List Bag) → value_fits n (GridForm k (counts_view bs)) ≡ true → list_all (point_fits k n) (counts_view bs) ≡ true
all_fit n k bs h =
    (and_parts (list_all (point_fits k n) (counts_view bs)) (points_ascend (counts_view bs))
    (and_parts (grid_fits k n) (list_all (point_fits k n) (counts_view bs) && points_ascend (counts_view bs)) (fits_points n k bs h)).1).0

fits_below : (k n : ℕ) (cs : List ℕ) → point_fits k n cs ≡ true → (t : ℕ) → n ≤ t → counted cs t ≡ 0
fits_below k n [] h t l = refl
fits_below k zero (c ∷ cs) h zero l = eqb-true c 0 (and_parts (nat_eq c 0) (point_fits k zero cs) h).0
fits_below k zero (c ∷ cs) h (suc t) l = fits_below k zero cs (and_parts (nat_eq c 0) (point_fits k zero cs) h).1 t (omega arith)
fits_below k (suc n) (c ∷ cs) h zero l = absurd (omega arith)
fits_below k (suc n) (c ∷ cs) h (suc t) l = fits_below k n cs (and_parts (nat_le c k) (point_fits k n cs) h).1 t (omega arith)

-- a point is its own cut
own_cut : (k n : ℕ) (b : Bag) → point_fits k n b.counts ≡ true → word_of b ≡ cut_at k (word_of b)
own_cut k n b h =
    word_ext (word_of b) (cut_at k (word_of b))
    (λ t. ⊎_elim
    (λ l. let m = point_count k n b.counts h t l in omega arith)
    (λ l. let z = fits_below k n b.counts h t l in omega arith)
    (cases_lt t n))

pub all_tags : (k n : ℕ) (bs : List Bag) → list_all (point_fits k n) (counts_view bs) ≡ true → AllByRecursion (λ b. HasTagsBelow n (word_of b)) bs
all_tags k n [] h = tt
all_tags k n (b ∷ bs) h =
    let p = and_parts (point_fits k n b.counts) (list_all (point_fits k n) (counts_view bs)) h in
    (fits_below k n b.counts p.0, all_tags k n bs p.1)

pub value_tags : (n k : ℕ) (bs : List Bag) → value_fits n (GridForm k (counts_view bs)) ≡ true → AllByRecursion (λ b. HasTagsBelow n (word_of b)) bs
value_tags n k bs h = all_tags k n bs (all_fit n k bs h)

any_member : (k n : ℕ) (bs : List Bag) (u : Word) → HasTagsBelow n u → list_all (point_fits k n) (counts_view bs) ≡ true → list_any (λ p. same_below n u (counted p)) (counts_view bs) ≡ true → IsCutMember k bs u
any_member k n [] u below h a = absurd (cc)
any_member k n (b ∷ bs) u below h a =
    let p = and_parts (point_fits k n b.counts) (list_all (point_fits k n) (counts_view bs)) h in
    ⊎_elim
    (λ s. inl (same_words n u (counted b.counts) below (fits_below k n b.counts p.0) s ∙ own_cut k n b p.0))
    (λ r. inr (any_member k n bs u below p.1 r))
    (or_cases (same_below n u (counted b.counts)) (list_any (λ q. same_below n u (counted q)) (counts_view bs)) a)

member_any : (k n : ℕ) (bs : List Bag) (u : Word) → list_all (point_fits k n) (counts_view bs) ≡ true → IsCutMember k bs u → list_any (λ p. same_below n u (counted p)) (counts_view bs) ≡ true
member_any k n [] u h m = absurd m
member_any k n (b ∷ bs) u h m =
    let p = and_parts (point_fits k n b.counts) (list_all (point_fits k n) (counts_view bs)) h in
    let here = same_below n u (counted b.counts) in
    let later = list_any (λ q. same_below n u (counted q)) (counts_view bs) in
    ⊎_elim
    (λ e. or_left here later (same_from n u (counted b.counts) (e ∙ sym (own_cut k n b p.0))))
    (λ r. or_right here later (member_any k n bs u p.1 r))
    m

-- the points, each its own cut
pub member_cut : (k n : ℕ) (bs : List Bag) (u : Word) → list_all (point_fits k n) (counts_view bs) ≡ true → MemberOf (map word_of bs) u ↔ IsCutMember k bs u
member_cut k n [] u h = (λ m. m, λ m. m)
member_cut k n (b ∷ bs) u h =
    let p = and_parts (point_fits k n b.counts) (list_all (point_fits k n) (counts_view bs)) h in
    let own = own_cut k n b p.0 in
    let more = member_cut k n bs u p.1 in (
      ⊎_elim (λ e. inl (sym e ∙ own)) (λ m. inr (more.0 m)),
      ⊎_elim (λ e. inl (own ∙ sym e)) (λ m. inr (more.1 m)),
    )

-- a word of the value, by its cut
module _ (b n : ℕ) (bs : List Bag) (fits : value_fits n (GridForm b (counts_view bs)) ≡ true) where
  pub word_in : (w : Word) → HasTagsBelow n w → IsCutMember b bs (cut_at b w) → In (points_pattern b n (counts_view bs)) w
  word_in w below m =
      (points_words b n (counts_view bs) w (fits_points n b bs fits)).1 (below, member_any b n bs (cut_at b w) (all_fit n b bs fits) m)

  pub in_word : (w : Word) → In (points_pattern b n (counts_view bs)) w → HasTagsBelow n w × IsCutMember b bs (cut_at b w)
  in_word w h =
      let p = (points_words b n (counts_view bs) w (fits_points n b bs fits)).0 h in
      (p.0, any_member b n bs (cut_at b w) (cut_below n b w p.0) (all_fit n b bs fits) p.1)

  member_word : (k : ℕ) (cs : List Bag) (u : Word) → AllByRecursion (λ c. HasTagsBelow n (word_of c)) cs → IsCutMember k cs u → (w : Word) × HasTagsBelow n w × IsCutMember b cs (cut_at b w) × (u ≡ cut_at k w)
  member_word k [] u tags m = absurd m
  member_word k (c ∷ cs) u tags m =
      ⊎_elim
      (λ e. (word_of c, tags.0, inl refl, e))
      (λ r. let h = member_word k cs u tags.1 r in (h.0, h.1, inr h.2, h.3))
      m

  word_member : (k : ℕ) (cs : List Bag) (u w : Word) → k ≤ b → IsCutMember b cs (cut_at b w) → u ≡ cut_at k w → IsCutMember k cs u
  word_member k [] u w l m e = absurd m
  word_member k (c ∷ cs) u w l m e =
      ⊎_elim
      (λ s. inl (e ∙ word_ext (cut_at k w) (cut_at k (word_of c)) (λ t. let q = count_eq (cut_at b w) (cut_at b (word_of c)) s t in omega arith)))
      (λ r. inr (word_member k cs u w l r e))
      m

  -- the words, cut at a lower bound, are the points, cut
  pub cut_lower : (k : ℕ) → k ≤ b → (u : Word) → IsCutMember k bs u ↔ CutOf k (In (points_pattern b n (counts_view bs))) u
  cut_lower k l u = (
    λ m. let h = member_word k bs u (value_tags n b bs fits) m in (h.0, word_in h.0 h.1 h.2, h.3),
    λ h. word_member k bs u h.0 l (in_word h.0 h.1).1 h.2,
  )

  -- cut at a higher bound, they are what is cut to a point
  pub cut_higher : (k : ℕ) → b ≤ k → (u : Word) → IsPoint k n u → IsCutMember b bs (cut_at b u) ↔ CutOf k (In (points_pattern b n (counts_view bs))) u
  cut_higher k l u p = (
    λ m. (u, word_in u p.0 m, p.1),
    λ h. subst (IsCutMember b bs) (word_ext (cut_at b h.0) (cut_at b u) (λ t. let q = count_eq u (cut_at k h.0) h.2 t in omega arith)) (in_word h.0 h.1).1,
  )

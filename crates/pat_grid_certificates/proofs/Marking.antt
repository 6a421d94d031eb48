-- Sets of points, made one word or one number after another.
use Rattle.std.proofs.Common.{◌≡◌, ℕ, zero, suc, ◌+◌, ◌<◌, ◌≤◌, ◌⊎◌, ◌↔◌, inl, inr, ⊎_elim, Bool, true, false, List, [], ◌∷◌, ◌++◌, length, length-set, get_or, set, take, replicate, sym, ap, ◌∙◌, subst, arith}
use Rattle.std.specs.List.{AllByRecursion}
use Rattle.std.proofs.lemmas.Bool.{cases_lt}
use Rattle.std.proofs.lemmas.List.{length-replicate, get_or-set_same, get_or-set_other, take_more}
use Rattle.pat_words_spec.specs.Words.{Word}
use Rattle.pat_words_spec.specs.Cuts.{cut_at}
use Rattle.pat_words_spec.specs.Tags.{HasTagsBelow}
use Rattle.pat_bags.specs.declared.Bag.{Bag}
use Rattle.pat_bags.specs.Views.{word_of}
use Rattle.pat_inclusion_laws.proofs.CutLaws.{cut_below, cut_twice}
use Rattle.pat_inclusion_spec.specs.bounds.CutSets.{IsPoint}
use Rattle.pat_inclusion_spec.specs.bounds.Numbers.{points_in, number_of, point_of}
use Rattle.pat_inclusion_laws.proofs.NumberLaws.{number_point, number_small, number_below}
use Rattle.pat_grid_points.specs.declared.grid.Grid.{Grid}
use Rattle.pat_grid_points.specs.Views.{HasPoint}
use Rattle.pat_grid_points.proofs.Sets.{In, none_in, put_in, in_put}
use Rattle.pat_grid_certificates.specs.Cutting.{IsCutMember}

cut_point : (k n : ℕ) (w : Word) → HasTagsBelow n w → IsPoint k n (cut_at k w)
cut_point k n w h = (cut_below n k w h, sym (cut_twice k w))

member_more : (k : ℕ) (bs : List Bag) (b : Bag) (u : Word) → IsCutMember k bs u ⊎ (u ≡ cut_at k (word_of b)) → IsCutMember k (bs ++ b ∷ []) u
member_more k [] b u h = ⊎_elim (λ m. absurd m) (λ e. inl e) h
member_more k (c ∷ bs) b u h =
    ⊎_elim (λ m. ⊎_elim (λ e. inl e) (λ r. inr (member_more k bs b u (inl r))) m) (λ e. inr (member_more k bs b u (inr e))) h

more_member : (k : ℕ) (bs : List Bag) (b : Bag) (u : Word) → IsCutMember k (bs ++ b ∷ []) u → IsCutMember k bs u ⊎ (u ≡ cut_at k (word_of b))
more_member k [] b u h = ⊎_elim (λ e. inr e) (λ m. absurd m) h
more_member k (c ∷ bs) b u h =
    ⊎_elim (λ e. inl (inl e)) (λ m. ⊎_elim (λ r. inl (inr r)) (λ e. inr e) (more_member k bs b u m)) h

-- the words so far are marked
pub record Marked (k n : ℕ) (held : List Bool) (bs : List Bag) : Type 0 where
  pub all : length held ≡ points_in k n
  pub has : (u : Word) → In k n held u ↔ IsCutMember k bs u

pub marked_none : (k n count : ℕ) (held : List Bool) → count ≡ points_in k n → held ≡ replicate count false → Marked k n held []
marked_none k n count held c e =
    subst (λ h. Marked k n h []) (sym e) (record {
      all = length-replicate count false ∙ c;
      has = λ u. (λ h. absurd (none_in k n count u h), λ m. absurd m);
    })

marked_more : (k n number : ℕ) (held : List Bool) (bs : List Bag) (b : Bag) → Marked k n held bs → HasTagsBelow n (word_of b) → number ≡ number_of k n (cut_at k (word_of b)) → Marked k n (set held number true) (bs ++ b ∷ [])
marked_more k n number held bs b m tags e =
    let x = cut_at k (word_of b) in
    let p = cut_point k n (word_of b) tags in
    subst (λ i. Marked k n (set held i true) (bs ++ b ∷ [])) (sym e) (record {
      all = length-set held (number_of k n x) true ∙ m.all;
      has = λ u. (
        λ h. member_more k bs b u (⊎_elim (λ i. inl ((m.has u).0 i)) (λ s. inr s) (put_in k n held x u m.all p h)),
        λ h. in_put k n held x u m.all p (⊎_elim (λ i. inl ((m.has u).1 i)) (λ s. inr s) (more_member k bs b u h)),
      );
    })

tags_at : (n : ℕ) (bs : List Bag) (i : ℕ) (d : Bag) → AllByRecursion (λ b. HasTagsBelow n (word_of b)) bs → i < length bs → HasTagsBelow n (word_of (get_or bs i d))
tags_at n [] i d a l = absurd (omega arith)
tags_at n (b ∷ bs) zero d a l = a.0
tags_at n (b ∷ bs) (suc i) d a l = tags_at n bs i d a.1 (omega arith)

pub marked_turn : (k n number i : ℕ) (held : List Bool) (bs : List Bag) (d : Bag) → Marked k n held (take i bs) → AllByRecursion (λ b. HasTagsBelow n (word_of b)) bs → i < length bs → number ≡ number_of k n (cut_at k (word_of (get_or bs i d))) → Marked k n (set held number true) (take (i + 1) bs)
marked_turn k n number i held bs d m tags l e =
    subst (Marked k n (set held number true)) (sym (take_more bs i d l))
    (marked_more k n number held (take i bs) (get_or bs i d) m (tags_at n bs i d tags l) e)

pub number_room : (k n number : ℕ) (w : Word) (held : List Bool) (bs : List Bag) → Marked k n held bs → number ≡ number_of k n (cut_at k w) → number < length held
number_room k n number w held bs m e =
    let l = number_below k n (cut_at k w) (λ t. omega arith) in let all = m.all in omega arith

-- ---- tests of numbers

-- a test for each of n numbers, and those before m are right
pub record TestsTo (P : ℕ → Type 0) (n : ℕ) (held : List Bool) (m : ℕ) : Type 0 where
  pub count : length held ≡ n
  pub right : (c : ℕ) → c < m → (get_or held c false ≡ true) ↔ P c

pub tests_none : (P : ℕ → Type 0) (n : ℕ) (held : List Bool) → held ≡ replicate n false → TestsTo P n held 0
tests_none P n held e = record { count = ap length e ∙ length-replicate n false; right = λ c l. absurd (omega arith) }

pub tests_more : (P : ℕ → Type 0) (n m : ℕ) (b : Bool) (old new : List Bool) → m < n → TestsTo P n old m → (b ≡ true) ↔ P m → new ≡ set old m b → TestsTo P n new (m + 1)
tests_more P n m b old new room h t e =
    subst (λ held. TestsTo P n held (m + 1)) (sym e) (record {
      count = length-set old m b ∙ h.count;
      right = λ c l. ⊎_elim
          (λ k. subst (λ x. (x ≡ true) ↔ P c) (sym (get_or-set_other old m c b false (λ same. absurd (omega arith)))) (h.right c k))
          (λ k.
          let same : m ≡ c = omega arith in
          subst (λ i. (get_or (set old m b) i false ≡ true) ↔ P i) same
          (subst (λ x. (x ≡ true) ↔ P m) (sym (get_or-set_same old m b false (let all = h.count in omega arith))) t))
          (cases_lt c m);
    })

-- ---- what the calls answer

pub spread_point : (k n count : ℕ) (own g : Grid) (held : List Bool) (m : ℕ) → n ≡ own.tags → (g.k ≡ k) × (g.tags ≡ n) × (g.held ≡ held) → TestsTo (λ c. HasPoint own (cut_at own.k (point_of k n c))) count held m → points_in k n ≤ m → (u : Word) → IsPoint k n u → HasPoint g u ↔ HasPoint own (cut_at own.k u)
spread_point k n count own g held m same is tests l u p =
    let small = number_small k n u p in
    let t = tests.right (number_of k n u) (omega arith) in
    let e : point_of k n (number_of k n u) ≡ u = number_point k n u p in
    let here : (get_or held (number_of k n u) false ≡ true) ↔ HasPoint own (cut_at own.k u) =
    subst (λ (x : Word). (get_or held (number_of k n u) false ≡ true) ↔ HasPoint own (cut_at own.k x)) e t in
    let moved = λ (x : ℕ) (y : ℕ) (hs : List Bool). (IsPoint x y u × (get_or hs (number_of x y u) false ≡ true)) ↔ HasPoint own (cut_at own.k u) in
    subst (λ x. moved x g.tags g.held) (sym is.0)
    (subst (λ y. moved k y g.held) (sym is.1)
    (subst (λ hs. moved k n hs) (sym is.2) (λ h. here.0 h.1, λ h. (p, here.1 h))))

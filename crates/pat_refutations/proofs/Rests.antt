-- A loop that lists words: what is listed and what is still to come stay the same set.
use Rattle.std.proofs.Common.{◌≡◌, ℕ, zero, suc, ◌+◌, ◌<◌, ◌≤◌, List, [], ◌∷◌, ◌++◌, length, get_or, drop, ◌⊎◌, ◌↔◌, inl, inr, ⊎_elim, refl, sym, ap, ◌∙◌, subst, arith, add-one}
use Rattle.std.proofs.Math.Seq.{drop-cons}
use Rattle.std.proofs.Math.ListN.{drop_of_length-le}
use Rattle.pat_words_spec.specs.Words.{Word, plus, LiesIn}
use Rattle.pat_words_spec.specs.Patterns.{Language}
use Rattle.pat_words_laws.proofs.WordLaws.{word_ext, count_eq, none_plus}
use Rattle.pat_bags.specs.declared.Bag.{Bag}
use Rattle.pat_bags.specs.Views.{word_of}
use Rattle.pat_refutations.specs.membership.Listings.{HasWord, Only, Within, multiple, Reached}
use Rattle.pat_words_spec.specs.Languages.{SumOf, EitherOf}

-- the two sets have the same words
abbrev pub Same : Language → Language → Type 0
Same L M = (w : Word) → L w ↔ M w

-- no word
abbrev pub Nothing : Language
Nothing w = ⊥

-- what one turn lists goes from what is to come to what is listed
pub turn : (L L' H R R' T : Language) → Same (EitherOf L R) T → Same L' (EitherOf L H) → Same R (EitherOf H R') → Same (EitherOf L' R') T
turn L L' H R R' T inv new rest w = (
  ⊎_elim
      (λ l. ⊎_elim (λ k. (inv w).0 (inl k)) (λ k. (inv w).0 (inr ((rest w).1 (inl k)))) ((new w).0 l))
      (λ r. (inv w).0 (inr ((rest w).1 (inr r)))),
  λ t. ⊎_elim (λ l. inl ((new w).1 (inl l)))
      (λ r. ⊎_elim (λ k. inl ((new w).1 (inr k))) (λ k. inr k) ((rest w).0 r))
      ((inv w).1 t),
)

-- a turn that lists nothing
pub turn_none : (L R R' T : Language) → Same (EitherOf L R) T → Same R R' → Same (EitherOf L R') T
turn_none L R R' T inv rest w = (
  ⊎_elim (λ l. (inv w).0 (inl l)) (λ r. (inv w).0 (inr ((rest w).1 r))),
  λ t. ⊎_elim (λ l. inl l) (λ r. inr ((rest w).0 r)) ((inv w).1 t),
)

-- what comes first, said in another way
pub through : (R A B R' : Language) → Same R (EitherOf A R') → Same A B → Same R (EitherOf B R')
through R A B R' split same w = (
  λ r. ⊎_elim (λ a. inl ((same w).0 a)) (λ k. inr k) ((split w).0 r),
  ⊎_elim (λ b. (split w).1 (inl ((same w).1 b))) (λ k. (split w).1 (inr k)),
)

-- nothing comes first
pub none_first : (R A R' : Language) → Same R (EitherOf A R') → ((w : Word) → A w → ⊥) → Same R R'
none_first R A R' split none w = (
  λ r. ⊎_elim (λ a. absurd (none w a)) (λ k. k) ((split w).0 r),
  λ k. (split w).1 (inr k),
)

-- nothing is still to come
pub done : (L R T : Language) → Same (EitherOf L R) T → ((w : Word) → R w → ⊥) → Same L T
done L R T inv none w = (λ l. (inv w).0 (inl l), λ t. ⊎_elim (λ l. l) (λ r. absurd (none w r)) ((inv w).1 t))

-- nothing is listed yet
pub begun : (R : Language) → Same (EitherOf (HasWord []) R) R
begun R w = (⊎_elim (λ l. absurd l) (λ r. r), λ r. inr r)

pub drop_more : (bs : List Bag) (i : ℕ) (d : Bag) → i < length bs → drop i bs ≡ get_or bs i d ∷ drop (i + 1) bs
drop_more bs i d h = rw (add-one, drop-cons bs i d) refl

-- the words from a place on are that of the bag there and those after it
pub has_more : (bs : List Bag) (i : ℕ) (d : Bag) → i < length bs → Same (HasWord (drop i bs)) (EitherOf (Only (word_of (get_or bs i d))) (HasWord (drop (i + 1) bs)))
has_more bs i d h w =
    (λ k. subst (λ l. HasWord l w) (drop_more bs i d h) k, λ k. subst (λ l. HasWord l w) (sym (drop_more bs i d h)) k)

pub has_at : (bs : List Bag) (i : ℕ) (d : Bag) (w : Word) → i < length bs → word_of (get_or bs i d) ≡ w → HasWord bs w
has_at [] i d w h e = absurd (omega arith)
has_at (b ∷ bs) zero d w h e = inl e
has_at (b ∷ bs) (suc i) d w h e = inr (has_at bs i d w (omega arith) e)

-- sums of a word with one of two sets
pub sums_more : (limit u : Word) (H R R' : Language) → Same R (EitherOf H R') → Same (Within limit (SumOf (Only u) R)) (EitherOf (Within limit (SumOf (Only u) H)) (Within limit (SumOf (Only u) R')))
sums_more limit u H R R' split w = (
  λ h. let s = h.1 in
      ⊎_elim (λ k. inl (h.0, (s.0, s.1, s.2, k, s.4))) (λ k. inr (h.0, (s.0, s.1, s.2, k, s.4))) ((split s.1).0 s.3),
  ⊎_elim
      (λ h. let s = h.1 in (h.0, (s.0, s.1, s.2, (split s.1).1 (inl s.3), s.4)))
      (λ h. let s = h.1 in (h.0, (s.0, s.1, s.2, (split s.1).1 (inr s.3), s.4))),
)

-- the same, where the first word is of one of two sets
pub sums_first : (limit : Word) (M H R R' : Language) → Same R (EitherOf H R') → Same (Within limit (SumOf R M)) (EitherOf (Within limit (SumOf H M)) (Within limit (SumOf R' M)))
sums_first limit M H R R' split w = (
  λ h. let s = h.1 in
      ⊎_elim (λ k. inl (h.0, (s.0, s.1, k, s.3, s.4))) (λ k. inr (h.0, (s.0, s.1, k, s.3, s.4))) ((split s.0).0 s.2),
  ⊎_elim
      (λ h. let s = h.1 in (h.0, (s.0, s.1, (split s.0).1 (inl s.2), s.3, s.4)))
      (λ h. let s = h.1 in (h.0, (s.0, s.1, (split s.0).1 (inr s.2), s.3, s.4))),
)

-- the same for steps
pub steps_first : (limit step : Word) (H R R' : Language) → Same R (EitherOf H R') → Same (Within limit (Reached R step)) (EitherOf (Within limit (Reached H step)) (Within limit (Reached R' step)))
steps_first limit step H R R' split w = (
  λ h. let s = h.1 in
      ⊎_elim (λ k. inl (h.0, (s.0, s.1, k, s.3))) (λ k. inr (h.0, (s.0, s.1, k, s.3))) ((split s.1).0 s.2),
  ⊎_elim
      (λ h. let s = h.1 in (h.0, (s.0, s.1, (split s.1).1 (inl s.2), s.3)))
      (λ h. let s = h.1 in (h.0, (s.0, s.1, (split s.1).1 (inr s.2), s.3))),
)

-- the one sum of two words, where it lies in the limit
pub sum_inside : (limit u v s : Word) → s ≡ plus u v → LiesIn s limit → Same (Within limit (SumOf (Only u) (Only v))) (Only s)
sum_inside limit u v s e lies w = (
  λ h. let p = h.1 in e ∙ ap (λ (x : Word). plus x v) p.2 ∙ ap (λ (x : Word). plus p.0 x) p.3 ∙ sym p.4,
  λ q. (subst (λ x. LiesIn x limit) q lies, (u, v, refl, refl, sym q ∙ e)),
)

-- and where it doesn't
pub sum_outside : (limit u v : Word) → (LiesIn (plus u v) limit → ⊥) → (w : Word) → Within limit (SumOf (Only u) (Only v)) w → ⊥
sum_outside limit u v out w h =
    let p = h.1 in
    let e : w ≡ plus u v = p.4 ∙ ap (λ (x : Word). plus x p.1) (sym p.2) ∙ ap (λ (x : Word). plus u x) (sym p.3) in
    out (subst (λ x. LiesIn x limit) e h.0)

-- what is reached from a word is the word and what is reached from it and one step
pub reach_more : (limit u step : Word) → LiesIn u limit → Same (Within limit (Reached (Only u) step)) (EitherOf (Only u) (Within limit (Reached (Only (plus u step)) step)))
reach_more limit u step lies w = (
  λ h. let r = h.1 in first r.0 r.1 h.0 r.2 r.3,
  ⊎_elim
      (λ q. (subst (λ x. LiesIn x limit) q lies, (0, u, refl, sym q ∙ sym (none_plus u))))
      (λ h. let r = h.1 in (h.0, (suc r.0, u, refl, r.3 ∙ ap (λ (x : Word). plus (multiple r.0 step) x) (sym r.2) ∙ word_ext (plus (multiple r.0 step) (plus u step)) (plus (plus step (multiple r.0 step)) u) (λ t. omega arith)))),
)
  where
    first : (n : ℕ) (s : Word) → LiesIn w limit → u ≡ s → w ≡ plus (multiple n step) s → (u ≡ w) ⊎ Within limit (Reached (Only (plus u step)) step) w
    first zero s l q e = inl (q ∙ sym (none_plus s) ∙ sym e)
    first (suc n) s l q e =
        inr (l, (n, plus u step, refl, e ∙ ap (λ (x : Word). plus (plus step (multiple n step)) x) (sym q) ∙ word_ext (plus (plus step (multiple n step)) u) (plus (multiple n step) (plus u step)) (λ t. omega arith)))

-- where the word and one step leave the limit, nothing more is reached
pub reach_none : (limit u step : Word) → (LiesIn (plus u step) limit → ⊥) → (w : Word) → Within limit (Reached (Only (plus u step)) step) w → ⊥
reach_none limit u step out w h =
    let r = h.1 in
    out (λ t. let k = h.0 t in let e = count_eq w (plus (multiple r.0 step) r.1) r.3 t in let s = count_eq (plus u step) r.1 r.2 t in omega arith)

-- the bag that stands for one past the end of a list
abbrev pub nowhere : Bag
nowhere = record { counts = [] }

-- a list with one bag more
pub has_last : (bs : List Bag) (b : Bag) → Same (HasWord (bs ++ b ∷ [])) (EitherOf (HasWord bs) (Only (word_of b)))
has_last [] b w = (⊎_elim (λ e. inr e) (λ k. absurd k), ⊎_elim (λ k. absurd k) (λ e. inl e))
has_last (c ∷ cs) b w = (
  ⊎_elim (λ e. inl (inl e)) (λ k. ⊎_elim (λ h. inl (inr h)) (λ e. inr e) ((has_last cs b w).0 k)),
  ⊎_elim (⊎_elim (λ e. inl e) (λ h. inr ((has_last cs b w).1 (inl h)))) (λ e. inr ((has_last cs b w).1 (inr e))),
)

-- a list that has the word already
pub has_already : (bs : List Bag) (u : Word) → HasWord bs u → Same (HasWord bs) (EitherOf (HasWord bs) (Only u))
has_already bs u h w = (λ k. inl k, ⊎_elim (λ k. k) (λ e. subst (HasWord bs) e h))

-- past its end a list has no more words
pub none_left : (bs : List Bag) (i : ℕ) → length bs ≤ i → (w : Word) → HasWord (drop i bs) w → ⊥
none_left bs i h w k = subst (λ l. HasWord l w) (drop_of_length-le bs h) k

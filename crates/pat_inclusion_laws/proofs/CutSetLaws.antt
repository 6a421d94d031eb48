-- Cutting goes through patterns, and the cuts of derivable words.
use Rattle.std.proofs.Common.{◌≡◌, ℕ, zero, suc, ◌<◌, true, inl, inr, ⊎_elim, refl, sym, ap, ◌∙◌, subst}
use Rattle.pat_words_spec.specs.Words.{Word, no_word, plus}
use Rattle.pat_words_spec.specs.Patterns.{Pat, Zero, One, Tag, Sum, Prod, Star, Var, Language, Times, In, InUnder}
use Rattle.pat_words_spec.specs.Flats.{is_flat, degree_of}
use Rattle.pat_words_spec.specs.Cuts.{cut_at, CutOf}
use Rattle.pat_inclusion_laws.proofs.CutLaws.{cut_none, cut_sum}
use Rattle.pat_inclusion_laws.proofs.Pumping.{flat_by_cut}
use Rattle.pat_inclusion_spec.specs.bounds.Trees.{Derivable, derivable}
use Rattle.pat_inclusion_spec.specs.bounds.CutSets.{CutTimes, CutUnder, CutMeets}
use Rattle.pat_inclusion_spec.specs.bounds.Searches.{IsInside}
use Rattle.pat_inclusion_laws.proofs.TreeLaws.{shown_under, under_derivable, derivable_under, derivable_meets}

-- ---- sums, cut

times_cut : (k c : ℕ) (L : Language) (w : Word) → Times c L w → CutTimes k c (CutOf k L) (cut_at k w)
times_cut k zero L w h = ap (cut_at k) h ∙ cut_none k
times_cut k (suc c) L w h =
    (cut_at k h.0, cut_at k h.1, (h.0, h.2, refl), times_cut k c L h.1 h.3, ap (cut_at k) h.4 ∙ sym (cut_sum k h.0 h.1))

-- the cut of a sum from the cuts of its parts
pub cut_of_sum : (k : ℕ) (u v w a b : Word) → u ≡ cut_at k (plus v w) → v ≡ cut_at k a → w ≡ cut_at k b → u ≡ cut_at k (plus a b)
cut_of_sum k u v w a b e ea eb =
    e
    ∙ ap (λ (x : Word). cut_at k (plus x w)) ea
    ∙ ap (λ (x : Word). cut_at k (plus (cut_at k a) x)) eb
    ∙ cut_sum k a b

cut_times : (k c : ℕ) (L : Language) (u : Word) → CutTimes k c (CutOf k L) u → CutOf k (Times c L) u
cut_times k zero L u h = (no_word, refl, h ∙ sym (cut_none k))
cut_times k (suc c) L u h =
    let a = h.2 in
    let b = cut_times k c L h.1 h.3 in
    (plus a.0 b.0, (a.0, b.0, a.1, b.1, refl), cut_of_sum k u h.0 h.1 a.0 b.0 h.4 a.2 b.2)

cut_times_mono : (k c : ℕ) (L M : Language) → ((u : Word) → L u → M u) → (u : Word) → CutTimes k c L u → CutTimes k c M u
cut_times_mono k zero L M into u h = h
cut_times_mono k (suc c) L M into u h = (h.0, h.1, into h.0 h.2, cut_times_mono k c L M into h.1 h.3, h.4)

-- ---- through patterns

pub under_mono : (k : ℕ) (p q : ℕ → Language) → ((j : ℕ) (u : Word) → p j u → q j u) → (e : Pat) (u : Word) → CutUnder k p e u → CutUnder k q e u
under_mono k p q into Zero u h = h
under_mono k p q into One u h = h
under_mono k p q into (Tag m) u h = h
under_mono k p q into (Sum e f) u h = ⊎_elim (λ a. inl (under_mono k p q into e u a)) (λ b. inr (under_mono k p q into f u b)) h
under_mono k p q into (Prod e f) u h =
    (h.0, h.1, under_mono k p q into e h.0 h.2, under_mono k p q into f h.1 h.3, h.4)
under_mono k p q into (Star e) u h =
    (h.0, cut_times_mono k h.0 (CutUnder k p e) (CutUnder k q e) (under_mono k p q into e) u h.1)
under_mono k p q into (Var j) u h = into j u h

word_through : (k : ℕ) (values : ℕ → Language) (e : Pat) (w : Word) → InUnder values e w → CutUnder k (λ j. CutOf k (values j)) e (cut_at k w)
word_through k values Zero w h = absurd h
word_through k values One w h = ap (cut_at k) h ∙ cut_none k
word_through k values (Tag m) w h = ap (cut_at k) h
word_through k values (Sum e f) w h = ⊎_elim (λ a. inl (word_through k values e w a)) (λ b. inr (word_through k values f w b)) h
word_through k values (Prod e f) w h = (
  cut_at k h.0,
  cut_at k h.1,
  word_through k values e h.0 h.2,
  word_through k values f h.1 h.3,
  ap (cut_at k) h.4 ∙ sym (cut_sum k h.0 h.1),
)
word_through k values (Star e) w h = (
  h.0,
  cut_times_mono k h.0 (CutOf k (InUnder values e)) (CutUnder k (λ j. CutOf k (values j)) e)
      (λ u c. subst (CutUnder k (λ j. CutOf k (values j)) e) (sym c.2) (word_through k values e c.0 c.1))
      (cut_at k w)
      (times_cut k h.0 (InUnder values e) w h.1),
)
word_through k values (Var j) w h = (w, h, refl)

pub through : (k : ℕ) (values : ℕ → Language) (e : Pat) (u : Word) → CutOf k (InUnder values e) u → CutUnder k (λ j. CutOf k (values j)) e u
through k values e u h = subst (CutUnder k (λ j. CutOf k (values j)) e) (sym h.2) (word_through k values e h.0 h.1)

pub back_through : (k : ℕ) (values : ℕ → Language) (e : Pat) (u : Word) → CutUnder k (λ j. CutOf k (values j)) e u → CutOf k (InUnder values e) u
back_through k values Zero u h = absurd h
back_through k values One u h = (no_word, refl, h ∙ sym (cut_none k))
back_through k values (Tag m) u h = (_, refl, h)
back_through k values (Sum e f) u h =
    ⊎_elim
    (λ a. let r = back_through k values e u a in (r.0, inl r.1, r.2))
    (λ b. let r = back_through k values f u b in (r.0, inr r.1, r.2))
    h
back_through k values (Prod e f) u h =
    let a = back_through k values e h.0 h.2 in
    let b = back_through k values f h.1 h.3 in
    (plus a.0 b.0, (a.0, b.0, a.1, b.1, refl), cut_of_sum k u h.0 h.1 a.0 b.0 h.4 a.2 b.2)
back_through k values (Star e) u h =
    let r = cut_times k h.0 (InUnder values e) u (cut_times_mono k h.0 (CutUnder k (λ j. CutOf k (values j)) e) (CutOf k (InUnder values e)) (back_through k values e) u h.1) in
    (r.0, (h.0, r.1), r.2)
back_through k values (Var j) u h = h

-- ---- derivable words, cut

pub cuts_meet : (k : ℕ) (lower : ℕ → Pat) → CutMeets k lower (λ j. CutOf k (derivable lower j))
cuts_meet k lower j u h =
    let r = back_through k (derivable lower) (lower j) u h in
    (r.0, derivable_meets lower j r.0 r.1, r.2)

pub derivable_cuts : (k : ℕ) (lower : ℕ → Pat) (e : Pat) (u : Word) → CutOf k (Derivable lower e) u → CutUnder k (λ j. CutOf k (derivable lower j)) e u
derivable_cuts k lower e u h = through k (derivable lower) e u (h.0, derivable_under lower e h.0 h.1, h.2)

pub cuts_derivable : (k : ℕ) (lower : ℕ → Pat) (e : Pat) (u : Word) → CutUnder k (λ j. CutOf k (derivable lower j)) e u → CutOf k (Derivable lower e) u
cuts_derivable k lower e u h =
    let r = back_through k (derivable lower) e u h in
    (r.0, under_derivable lower e r.0 r.1, r.2)

-- the words whose cuts are points
abbrev WithCut : ℕ → (ℕ → Language) → ℕ → Language
WithCut k points j w = points j (cut_at k w)

with_cut : (k : ℕ) (points : ℕ → Language) (e : Pat) (u : Word) → CutOf k (InUnder (WithCut k points) e) u → CutUnder k points e u
with_cut k points e u h =
    under_mono k (λ j. CutOf k (WithCut k points j)) points (λ j v c. subst (points j) (sym c.2) c.1) e u
    (through k (WithCut k points) e u h)

-- all points that meet the lower bounds, cut, have the cuts of the derivable words
pub cuts_least : (k : ℕ) (lower : ℕ → Pat) (points : ℕ → Language) (e : Pat) (u : Word) → CutMeets k lower points → CutOf k (Derivable lower e) u → CutUnder k points e u
cuts_least k lower points e u meets h =
    let d = h.1 in
    with_cut k points e u (
      h.0,
      shown_under lower (WithCut k points)
          (λ j w i. meets j (cut_at k w) (with_cut k points (lower j) (cut_at k w) (w, i, refl)))
          d.0 e h.0 d.1,
      h.2,
    )

-- ---- a flat right side

-- a word of the same cut as one of a flat pattern is one of it
pub in_by_cut : (k : ℕ) (right : Pat) (w : Word) → is_flat right ≡ true → degree_of right < k → CutOf k (In right) (cut_at k w) → In right w
in_by_cut k right w flat l h = flat_by_cut right k h.0 w flat l h.1 (sym h.2)

pub inside_cuts : (k : ℕ) (lower : ℕ → Pat) (left right : Pat) → IsInside lower left right → (u : Word) → CutOf k (Derivable lower left) u → CutOf k (In right) u
inside_cuts k lower left right all u h = (h.0, all h.0 h.1, h.2)

pub cuts_inside : (k : ℕ) (lower : ℕ → Pat) (left right : Pat) → is_flat right ≡ true → degree_of right < k → ((u : Word) → CutOf k (Derivable lower left) u → CutOf k (In right) u) → IsInside lower left right
cuts_inside k lower left right flat l all w d = in_by_cut k right w flat l (all (cut_at k w) (w, d, refl))

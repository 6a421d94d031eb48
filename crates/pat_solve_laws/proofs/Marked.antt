-- Values that can be told apart: a typing by such values says which types are the same before values are put in.
use Rattle.std.proofs.Common.{◌≡◌, ℕ, suc, ◌+◌, true, List, [], ◌∷◌, inl, ⊎_elim, refl, sym, ap, ap₂, arith}
use Rattle.std.proofs.lemmas.Bool.{and_parts, ltb-true}
use Rattle.pat_words_spec.specs.Words.{Word}
use Rattle.pat_words_spec.specs.Patterns.{Pat, Zero, One, Tag, Sum, Prod, Star, Var, In}
use Rattle.pat_semantics_spec.specs.Programs.{Program, Polarity, Sending, Receiving}
use Rattle.pat_words_spec.specs.Tags.{tags_below}
use Rattle.pat_type_system_spec.specs.Typings.{HasWord}
use Rattle.pat_inclusion_spec.specs.Values.{replaced}
use Rattle.pat_type_schemes_spec.specs.Signatures.{Variable}
use Rattle.pat_infer_spec.specs.Walk.{inferred}
use Rattle.pat_infer_spec.specs.Solutions.{MeetsUnder, IsPatternSolution, SendersHaveWords}
use Rattle.pat_infer_laws.proofs.Gathering.{all_map}
use Rattle.pat_words_laws.proofs.ClosedPatterns.{under_mono}

module _ (b : ℕ) (s : ℕ → Pat) where
  -- the same words, and a part that tells which variable it is
  abbrev pub marked : ℕ → Pat
  marked k = Sum (s k) (Prod Zero (Tag (b + k)))

  pub marked_to : (k : ℕ) (w : Word) → In (marked k) w → In (s k) w
  marked_to k w h = ⊎_elim (λ l. l) (λ r. absurd r.2) h

  pub marked_from : (k : ℕ) (w : Word) → In (s k) w → In (marked k) w
  marked_from k w h = inl h

  pub marked_solves : (p : Program) → IsPatternSolution p s → IsPatternSolution p marked
  marked_solves p h =
      all_map (MeetsUnder (λ k. In (s k))) (MeetsUnder (λ k. In (marked k)))
      (λ c m w i. under_mono (λ k. In (s k)) (λ k. In (marked k)) marked_from c.right w
      (m w (under_mono (λ k. In (marked k)) (λ k. In (s k)) marked_to c.left w i)))
      (inferred p).constraints h

  pub marked_senders : (k : ℕ) (vs : List Variable) → SendersHaveWords s k vs → SendersHaveWords marked k vs
  marked_senders k [] h = tt
  marked_senders k (v ∷ vs) h = (go v.polarity h.0, marked_senders (suc k) vs h.1)
    where
      go : (q : Polarity) → HasWord q (s k) → HasWord q (marked k)
      go Sending w = (w.0, inl w.1)
      go Receiving w = tt

  -- ---- what is the same with these values is the same

  abbrev first_part : Pat → Pat
  first_part (Sum e f) = e
  first_part (Prod e f) = e
  first_part (Star e) = e
  first_part e = e

  abbrev second_part : Pat → Pat
  second_part (Sum e f) = f
  second_part (Prod e f) = f
  second_part e = e

  abbrev tag_part : Pat → ℕ
  tag_part (Tag m) = m
  tag_part e = 0

  not_tag : (k : ℕ) (h : Pat) → tags_below b h ≡ true → replaced marked h ≡ Tag (b + k) → ⊥
  not_tag k Zero t q = cc
  not_tag k One t q = cc
  not_tag k (Tag m) t q = let l = ltb-true m b t in let e : m ≡ b + k = ap tag_part q in omega arith
  not_tag k (Sum e f) t q = cc
  not_tag k (Prod e f) t q = cc
  not_tag k (Star e) t q = cc
  not_tag k (Var j) t q = cc

  not_mark : (k : ℕ) (f : Pat) → tags_below b f ≡ true → replaced marked f ≡ Prod Zero (Tag (b + k)) → ⊥
  not_mark k Zero t q = cc
  not_mark k One t q = cc
  not_mark k (Tag m) t q = cc
  not_mark k (Sum e f) t q = cc
  not_mark k (Prod e f) t q = not_tag k f (and_parts (tags_below b e) (tags_below b f) t).1 (ap second_part q)
  not_mark k (Star e) t q = cc
  not_mark k (Var j) t q = cc

  pub marked_same : (e f : Pat) → tags_below b e ≡ true → tags_below b f ≡ true → replaced marked e ≡ replaced marked f → e ≡ f
  marked_same Zero Zero s t q = refl
  marked_same One One s t q = refl
  marked_same (Tag m) (Tag n) s t q = q
  marked_same (Sum e f) (Sum g h) s t q =
      let x = and_parts (tags_below b e) (tags_below b f) s in
      let y = and_parts (tags_below b g) (tags_below b h) t in
      ap₂ (λ c d. Sum c d) (marked_same e g x.0 y.0 (ap first_part q)) (marked_same f h x.1 y.1 (ap second_part q))
  marked_same (Prod e f) (Prod g h) s t q =
      let x = and_parts (tags_below b e) (tags_below b f) s in
      let y = and_parts (tags_below b g) (tags_below b h) t in
      ap₂ (λ c d. Prod c d) (marked_same e g x.0 y.0 (ap first_part q)) (marked_same f h x.1 y.1 (ap second_part q))
  marked_same (Star e) (Star f) s t q = ap Star (marked_same e f s t (ap first_part q))
  marked_same (Var j) (Var k) s t q =
      let e : b + j ≡ b + k = ap (λ x. tag_part (second_part (second_part x))) q in
      let same : j ≡ k = omega arith in
      ap Var same
  marked_same (Var j) (Sum g h) s t q =
      absurd (not_mark j h (and_parts (tags_below b g) (tags_below b h) t).1 (sym (ap second_part q)))
  marked_same (Sum e f) (Var k) s t q =
      absurd (not_mark k f (and_parts (tags_below b e) (tags_below b f) s).1 (ap second_part q))
  marked_same _ _ s t q = cc

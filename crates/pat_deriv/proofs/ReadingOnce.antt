-- A text is read in one way: as a derivation, or up to a line that isn't read.
use Rattle.std.proofs.Common.{◌≡◌, ◌⊎◌, ℕ, List, [], ◌∷◌, length, Option, Some, None, refl, sym, ap, ◌∙◌, subst, inl, inr, ⊎_elim, arith}
use Rattle.pat_semantics_spec.specs.Programs.{Program}
use Rattle.pat_derivation_spec.specs.Derivations.{Derivation}
use Rattle.pat_texts_spec.specs.Joined.{cut}
use Rattle.pat_derivation_text_spec.specs.DerivationText.{marker}
use Rattle.pat_derivation_text_spec.specs.LineReading.{with_line}
use Rattle.pat_derivation_text_spec.specs.Reading.{ReadsTo, first, another, ReadsAs, no_lines, NoLine, NoMarker, Unread, no_marker, no_line}

-- lines that are read lead from the one to the other
data OnTo (p : Program) : Derivation → List ℕ → Derivation → List ℕ → Type 0 where
  stay : {d : Derivation} {r : List ℕ} → OnTo p d r d r
  over : {d e f : Derivation} {r line more s : List ℕ} → cut 10 r ≡ Some (line, more) → with_line p d line ≡ Some e → OnTo p e more f s → OnTo p d r f s

line_of : Option (List ℕ × List ℕ) → List ℕ
line_of None = []
line_of (Some r) = r.0

rest_of : Option (List ℕ × List ℕ) → List ℕ
rest_of None = []
rest_of (Some r) = r.1

same_line : (l m k n : List ℕ) → ◌≡◌ {A = Option (List ℕ × List ℕ)} (Some (l, m)) (Some (k, n)) → l ≡ k
unfolding line_of
same_line l m k n e = ap line_of e

same_rest : (l m k n : List ℕ) → ◌≡◌ {A = Option (List ℕ × List ℕ)} (Some (l, m)) (Some (k, n)) → m ≡ n
unfolding rest_of
same_rest l m k n e = ap rest_of e

module _ (p : Program) where
  extend : (d e f : Derivation) (r s line more : List ℕ) → OnTo p d r e s → cut 10 s ≡ Some (line, more) → with_line p e line ≡ Some f → OnTo p d r f more
  extend d e f r s line more stay h k = over h k stay
  extend d e f r s line more (over g j t) h k = over g j (extend _ e f _ s line more t h k)

  join : (d e f : Derivation) (r s t : List ℕ) → OnTo p d r e s → OnTo p d r f t → OnTo p e s f t ⊎ OnTo p f t e s
  join d e f r s t stay b = inl b
  join d e f r s t (over h k a) stay = inr (over h k a)
  join d e f r s t (over {e = x} {line = l} {more = m} h k a) (over {e = y} {line = o} {more = n} g j b) =
      let rest : n ≡ m = same_rest o n l m (sym g ∙ h) in
      let line : o ≡ l = same_line o n l m (sym g ∙ h) in
      let both : Some y ≡ Some x = sym j ∙ ap (with_line p d) line ∙ k in
      let same : y ≡ x = cc in
      join x e f m s t a (subst (λ z. OnTo p z m f t) same (subst (λ z. OnTo p y z f t) rest b))

  at_end : (d f : Derivation) (t : List ℕ) → OnTo p d [] f t → [] ≡ t
  at_end d f t stay = refl
  at_end d f t (over h k a) = absurd (cc)

  no_further : (d f : Derivation) (s t : List ℕ) → NoLine p d s (cut 10 s) → OnTo p d s f t → s ≡ t
  no_further d f s t none stay = refl
  no_further d f s t none (over {line = line} {more = more} h k a) =
      let clash = sym (subst (NoLine p d s) h none) ∙ k in absurd (cc)

  module _ (text : List ℕ) where
    root : (d : Derivation) (rest : List ℕ) → ReadsTo p text d rest → (r : List ℕ) × (cut 10 text ≡ Some (marker, r)) × OnTo p no_lines r d rest
    root d rest (first {rest = r} h) = (r, h, stay)
    root d rest (another {d = c} {rest = s} {line = line} {more = more} before h k) =
        let b = root c s before in
        (b.0, b.1, extend no_lines c d b.0 s line more b.2 h k)

    -- both lead from one place
    met : (d e : Derivation) (s t : List ℕ) → ReadsTo p text d s → ReadsTo p text e t → OnTo p d s e t ⊎ OnTo p e t d s
    met d e s t a b =
        let x = root d s a in
        let y = root e t b in
        let same : y.0 ≡ x.0 = same_rest marker y.0 marker x.0 (sym y.1 ∙ x.1) in
        join no_lines d e x.0 s t x.2 (subst (λ r. OnTo p no_lines r e t) same y.2)

    begins : (d : Derivation) (rest : List ℕ) → ReadsTo p text d rest → NoMarker (cut 10 text) → ⊥
    begins d rest read none = let r = root d rest read in subst NoMarker r.1 none refl

    pub read_or_not : (d : Derivation) (offset : ℕ) → ReadsAs p text d → Unread p text offset → ⊥
    read_or_not d offset read (no_marker none) = begins d [] read none
    read_or_not d offset read (no_line {d = e} {b = b} {rest = rest} before long none) =
        ⊎_elim
        (λ on. let clash = no_further e d (b ∷ rest) [] none on in cc)
        (λ on. let clash = at_end d e (b ∷ rest) on in cc)
        (met e d (b ∷ rest) [] before read)

    pub one_unread : (m n : ℕ) → Unread p text m → Unread p text n → m ≡ n
    one_unread m n (no_marker x) (no_marker y) = refl
    one_unread m n (no_marker x) (no_line {d = e} {b = c} {rest = r} before long none) = absurd (begins e (c ∷ r) before x)
    one_unread m n (no_line {d = e} {b = c} {rest = r} before long none) (no_marker y) = absurd (begins e (c ∷ r) before y)
    one_unread m n (no_line {d = d} {b = b} {rest = s} x lx nx) (no_line {d = e} {b = c} {rest = t} y ly ny) =
        let same : (b ∷ s) ≡ (c ∷ t) = ⊎_elim (λ on. no_further d e (b ∷ s) (c ∷ t) nx on) (λ on. sym (no_further e d (c ∷ t) (b ∷ s) ny on)) (met d e (b ∷ s) (c ∷ t) x y) in
        let long = ap length same in
        omega (arith, lx, ly, long)

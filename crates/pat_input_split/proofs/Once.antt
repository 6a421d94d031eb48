-- Lines are cut from bytes in one way.
use Rattle.std.proofs.Common.{◌≡◌, ◌⊎◌, ℕ, ◌+◌, List, [], ◌∷◌, ◌++◌, length, take, Option, Some, None, refl, sym, ap, ◌∙◌, subst, inl, inr, ⊎_elim, arith, length-append, append_assoc}
use Rattle.pat_texts_spec.specs.Joined.{cut}
use Rattle.pat_input_split.specs.Marked.{first_line, Precedes, no_lines, another_line, IsMarked, IsUnmarked}
use Rattle.pat_input_split.specs.Splits.{OneSplit}
use Rattle.pat_input_split.proofs.Lines.{cut_is, first_is, first_all, take_front}

-- lines that are not the mark lead from the one place to the other
data Steps (mark : List ℕ) : List ℕ → List ℕ → Type 0 where
  stay : {a : List ℕ} → Steps mark a a
  over : {a line more b : List ℕ} → cut 10 a ≡ Some (line, more) → (line ≡ mark → ⊥) → Steps mark more b → Steps mark a b

module _ (mark : List ℕ) where
  extend : (a b line more : List ℕ) → Steps mark a b → cut 10 b ≡ Some (line, more) → (line ≡ mark → ⊥) → Steps mark a more
  extend a b line more stay h o = over h o stay
  extend a b line more (over k p s) h o = over k p (extend _ b line more s h o)

  steps_of : (bytes f r : List ℕ) → Precedes mark bytes f r → Steps mark bytes r
  steps_of bytes f r no_lines = stay
  steps_of bytes f r (another_line {rest = rest} {line = line} {more = more} before h o) = extend bytes rest line more (steps_of bytes _ rest before) h o

  rest_of : Option (List ℕ × List ℕ) → List ℕ
  rest_of None = []
  rest_of (Some r) = r.1

  same_more : (l m k n : List ℕ) → ◌≡◌ {A = Option (List ℕ × List ℕ)} (Some (l, m)) (Some (k, n)) → m ≡ n
  unfolding rest_of
  same_more l m k n e = ap rest_of e

  join : (a b c : List ℕ) → Steps mark a b → Steps mark a c → Steps mark b c ⊎ Steps mark c b
  join a b c stay t = inl t
  join a b c (over h o s) stay = inr (over h o s)
  join a b c (over {line = l} {more = m} h o s) (over {line = k} {more = n} g p t) =
      let same : n ≡ m = same_more k n l m (sym g ∙ h) in
      join m b c s (subst (λ r. Steps mark r c) same t)

  stuck : (r c : List ℕ) → first_line r ≡ mark → Steps mark r c → r ≡ c
  stuck r c f stay = refl
  stuck r c f (over {line = line} {more = more} h o s) = absurd (o (sym (first_is r line more h) ∙ f))

  unmoved : (r c : List ℕ) → cut 10 r ≡ None → Steps mark r c → r ≡ c
  unmoved r c f stay = refl
  unmoved r c f (over h o s) = let clash = sym f ∙ h in cc

  whole : (bytes f r : List ℕ) → Precedes mark bytes f r → bytes ≡ f ++ r
  whole bytes f r no_lines = refl
  whole bytes f r (another_line {front = front} {rest = rest} {line = line} {more = more} before h o) =
      whole bytes front rest before
      ∙ ap (λ b. front ++ b) (cut_is 10 rest line more h ∙ sym (append_assoc line (10 ∷ []) more))
      ∙ sym (append_assoc front (line ++ 10 ∷ []) more)

  same_front : (f g t : List ℕ) → f ++ t ≡ g ++ t → f ≡ g
  same_front f g t e =
      let long = ap length e in
      let one = length-append f t in
      let other = length-append g t in
      let as_long : length f ≡ length g = omega (arith, long, one, other) in
      sym (take_front f t) ∙ ap (take (length f)) e ∙ ap (λ n. take n (g ++ t)) as_long ∙ take_front g t

  pub one_split : (bytes : List ℕ) → OneSplit mark bytes
  one_split bytes = record {
    same = λ f g t u p q.
        let rest : t ≡ u = ⊎_elim (λ s. stuck t u p.marked s) (λ s. sym (stuck u t q.marked s)) (join bytes t u (steps_of bytes f t p.before) (steps_of bytes g u q.before)) in
        (same_front f g t (sym (whole bytes f t p.before) ∙ whole bytes g u q.before ∙ ap (λ r. g ++ r) (sym rest)), rest);
    not_both = λ f t p n.
        ⊎_elim
        (λ s. let here : t ≡ n.last = stuck t n.last p.marked s in n.unmarked (sym (first_all n.last n.no_line) ∙ ap first_line (sym here) ∙ p.marked))
        (λ s. let here : n.last ≡ t = unmoved n.last t n.no_line s in n.unmarked (sym (first_all n.last n.no_line) ∙ ap first_line here ∙ p.marked))
        (join bytes t n.last (steps_of bytes f t p.before) (steps_of bytes n.front n.last n.before));
  }

-- What a step says of the root of a least tree.
use Rattle.std.proofs.Common.{◌≡◌, ℕ, zero, suc, ◌+◌, ◌*◌, ◌<◌, ◌≤◌, zero-mul, ⊎_elim, List, [], refl, sym, ap, ap₂, ◌∙◌, subst, arith}
use Rattle.std.proofs.lemmas.Bool.{cases_lt}
use Rattle.pat_words_laws.proofs.WordLaws.{word_ext}
use Rattle.pat_words_spec.specs.Languages.{MemberOf}
use Rattle.pat_inclusion_spec.specs.bounds.CutSets.{IsPoint}
use Rattle.pat_grid.specs.tables.Views.{given_words}
use Rattle.pat_words_spec.specs.Words.{Word, no_word, plus}
use Rattle.pat_words_spec.specs.Cuts.{cut_at}
use Rattle.pat_inclusion_spec.specs.bounds.Symbols.{Symbol, NoSymbol, OneSymbol, TagSymbol, SumSymbol, ProdSymbol, StarSymbol, LowerSymbol, GivenSymbol, symbol_at, root_at}
use Rattle.pat_inclusion_spec.specs.bounds.Tables.{Setting, StepAt, StepByOne, StepByTwo}
use Rattle.pat_inclusion_spec.specs.bounds.Numbers.{points_in, number_of, point_of, table_of}
use Rattle.pat_inclusion_laws.proofs.NumberLaws.{number_point, number_small, point_number}
use Rattle.pat_grid.specs.declared.tables.board.Board.{Board}
use Rattle.pat_grid.specs.tables.Views.{setting_of, IsBoard}
use Rattle.pat_grid.specs.tables.Moves.{entry_at}
use Rattle.pat_counterexample_search.specs.declared.choice.Place.{Place}
use Rattle.pat_counterexample_search.specs.declared.choice.Choice.TheVariants.{Empty, Tag, Left, Right, StarEnd, StarMore, Lower}
use Rattle.pat_counterexample_search.specs.Choices.{entry_of, point_at, HasStep, ArePair, IsChoice}

-- ---- points and numbers

number_none : (k n : ℕ) → number_of k n no_word ≡ 0
number_none k zero = refl
number_none k (suc n) = ap (λ x. x * (k + 1) + 0) (number_none k n) ∙ (let z = zero-mul (k + 1) in omega arith)

none_point : (k n : ℕ) → IsPoint k n no_word
none_point k n = (λ t l. refl, word_ext no_word (cut_at k no_word) (λ t. omega arith))

point_none : (k n : ℕ) → point_of k n 0 ≡ no_word
point_none k n = ap (point_of k n) (sym (number_none k n)) ∙ number_point k n no_word (none_point k n)

module _ (b : Board) (board : IsBoard b) (entries : List ℕ) (p : Place) (has : HasStep b entries p) where
  abbrev g : Setting
  g = setting_of b

  abbrev size : ℕ
  size = entry_of g entries p

  small : p.number < points_in g.bound g.tags
  small = subst (λ n. p.number < n) board.points has.number

  at : (y : Symbol) → symbol_at g.flat p.symbol ≡ y → StepAt g (table_of g entries) p.symbol y (point_at g p) size
  at y e = subst (λ z. StepAt g (table_of g entries) p.symbol z (point_at g p) size) e has.step

  -- the table's entry at the point is that at its number
  same : (a : ℕ) → table_of g entries a (point_at g p) ≡ entry_at g entries a p.number
  same a = ap (entry_at g entries a) (point_number g.bound g.tags p.number small)

  part_of : (a : ℕ) → StepByOne g (table_of g entries) a (point_at g p) size → size ≡ suc (entry_at g entries a p.number)
  part_of a h =
      let e = same a in
      let s = h.1 in
      let l = has.within in
      omega arith

  pub pair_of : (a c : ℕ) (v w : Word) → StepByTwo g (table_of g entries) a c v w (point_at g p) size → ArePair g entries p.number size a (number_of g.bound g.tags v) c (number_of g.bound g.tags w)
  pair_of a c v w h = (
    number_small g.bound g.tags v h.0,
    number_small g.bound g.tags w h.1,
    ap₂ (λ (x y : Word). number_of g.bound g.tags (cut_at g.bound (plus x y))) (number_point g.bound g.tags v h.0) (number_point g.bound g.tags w h.1)
        ∙ ap (number_of g.bound g.tags) (sym h.4)
        ∙ point_number g.bound g.tags p.number small,
    let s = h.5 in let l = has.within in omega arith,
  )

  -- ---- each kind of symbol

  pub zero_none : symbol_at g.flat p.symbol ≡ NoSymbol → ⊥
  zero_none e = at NoSymbol e

  pub given_none : (k : ℕ) → b.given.now ≡ [] → symbol_at g.flat p.symbol ≡ GivenSymbol k → ⊥
  given_none k none e =
      let h = at (GivenSymbol k) e in
      let w = h.0 in
      subst (λ grids. MemberOf (given_words grids k) w.0) none w.1

  pub one_chosen : symbol_at g.flat p.symbol ≡ OneSymbol → IsChoice g entries p Empty
  one_chosen e = let h = at OneSymbol e in (e, h.0, h.1)

  pub tag_chosen : (m : ℕ) → symbol_at g.flat p.symbol ≡ TagSymbol m → IsChoice g entries p (Tag m)
  tag_chosen m e = let h = at (TagSymbol m) e in (e, h.0, h.1)

  pub left_chosen : (a c : ℕ) → symbol_at g.flat p.symbol ≡ SumSymbol a c → entry_at g entries a p.number + 1 ≡ size → IsChoice g entries p (Left (record { symbol = a; number = p.number }))
  left_chosen a c e is = (c, e, (refl, omega arith))

  pub right_chosen : (a c : ℕ) → symbol_at g.flat p.symbol ≡ SumSymbol a c → (entry_at g entries a p.number + 1 ≡ size → ⊥) → IsChoice g entries p (Right (record { symbol = c; number = p.number }))
  right_chosen a c e not =
      (a, e, (refl, ⊎_elim (λ h. absurd (not (let s = part_of a h in omega arith))) (λ h. part_of c h) (at (SumSymbol a c) e)))

  pub lower_chosen : (k r : ℕ) → symbol_at g.flat p.symbol ≡ LowerSymbol k → r ≡ root_at g.flat k → IsChoice g entries p (Lower (record { symbol = r; number = p.number }))
  lower_chosen k r e is =
      (k, e, is, (refl, subst (λ x. size ≡ suc (entry_at g entries x p.number)) (sym is) (part_of (root_at g.flat k) (at (LowerSymbol k) e))))

  pub product_none : (a c : ℕ) → symbol_at g.flat p.symbol ≡ ProdSymbol a c → ((i j : ℕ) → 0 ≤ i → ArePair g entries p.number size a i c j → ⊥) → ⊥
  product_none a c e none =
      let h = at (ProdSymbol a c) e in
      none (number_of g.bound g.tags h.0) (number_of g.bound g.tags h.1) (omega arith) (pair_of a c h.0 h.1 h.2)

  pub end_chosen : (a : ℕ) → symbol_at g.flat p.symbol ≡ StarSymbol a → ((i j : ℕ) → 1 ≤ i → ArePair g entries p.number size a i p.symbol j → ⊥) → IsChoice g entries p StarEnd
  end_chosen a e none =
      ⊎_elim
      (λ h. (a, e, h.0, h.1))
      (λ h. absurd (none (number_of g.bound g.tags h.0) (number_of g.bound g.tags h.1) (some h.0 h.2.0 h.3) (pair_of a p.symbol h.0 h.1 h.2)))
      (at (StarSymbol a) e)
    where
      some : (v : Word) → IsPoint g.bound g.tags v → (v ≡ no_word → ⊥) → 1 ≤ number_of g.bound g.tags v
      some v q not =
          ⊎_elim
          (λ l. absurd (not (sym (number_point g.bound g.tags v q) ∙ ap (point_of g.bound g.tags) (let z : number_of g.bound g.tags v ≡ 0 = omega arith in z) ∙ point_none g.bound g.tags)))
          (λ l. l)
          (cases_lt (number_of g.bound g.tags v) 1)

  pub more_chosen : (a i j : ℕ) → symbol_at g.flat p.symbol ≡ StarSymbol a → 1 ≤ i → ArePair g entries p.number size a i p.symbol j → IsChoice g entries p (StarMore (record { symbol = a; number = i }) (record { symbol = p.symbol; number = j }))
  more_chosen a i j e l h = (e, refl, h, λ z. (let c = sym (point_number g.bound g.tags i h.0) ∙ ap (number_of g.bound g.tags) z ∙ number_none g.bound g.tags in omega arith))

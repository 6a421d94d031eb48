-- Symbols have the trees of the patterns that they stand for.
use Rattle.std.proofs.Common.{◌≡◌, ℕ, suc, List, inl, inr, refl, sym, subst, le_refl}
use Rattle.pat_words_spec.specs.Words.{Word}
use Rattle.pat_words_spec.specs.Patterns.{Pat, Zero, One, Tag, Sum, Prod, Star, Var, InUnder}
use Rattle.pat_words_spec.specs.Languages.{MemberOf}
use Rattle.pat_inclusion_spec.specs.bounds.Trees.{Bound, EmptyTree, TagTree, LeftTree, RightTree, BothTree, StarEndTree, StarMoreTree, LowerTree, Shows}
use Rattle.std.specs.Prelude.{Option, Some, None, slice_get, length}
use Rattle.std.proofs.Common.{ap}
use Rattle.std.proofs.lemmas.Option.{slice_get_past}
use Rattle.pat_inclusion_spec.specs.bounds.Symbols.{Symbol, NoSymbol, OneSymbol, TagSymbol, SumSymbol, ProdSymbol, StarSymbol, LowerSymbol, GivenSymbol, Flat, symbol_in, symbol_at, root_in, root_at, Stands, RootStands, IsFlatOf, ShowsAt}

-- the symbol stands for the pattern, by what is read at each number
abbrev pub StandsAs : Flat → (ℕ → Symbol) → Pat → Symbol → Type 0
StandsAs f var Zero y = y ≡ NoSymbol
StandsAs f var One y = y ≡ OneSymbol
StandsAs f var (Tag m) y = y ≡ TagSymbol m
StandsAs f var (Sum e g) y =
    (a b : ℕ) × StandsAs f var e (symbol_at f a) × StandsAs f var g (symbol_at f b) × (y ≡ SumSymbol a b)
StandsAs f var (Prod e g) y =
    (a b : ℕ) × StandsAs f var e (symbol_at f a) × StandsAs f var g (symbol_at f b) × (y ≡ ProdSymbol a b)
StandsAs f var (Star e) y = (a : ℕ) × StandsAs f var e (symbol_at f a) × (y ≡ StarSymbol a)
StandsAs f var (Var k) y = y ≡ var k

pub stands_as : (f : Flat) (var : ℕ → Symbol) (e : Pat) (s : ℕ) → Stands f.symbols var e s → StandsAs f var e (symbol_at f s)
stands_as f var Zero s h = ap symbol_in h
stands_as f var One s h = ap symbol_in h
stands_as f var (Tag m) s h = ap symbol_in h
stands_as f var (Sum e g) s h = (h.0, h.1, stands_as f var e h.0 h.2, stands_as f var g h.1 h.3, ap symbol_in h.4)
stands_as f var (Prod e g) s h = (h.0, h.1, stands_as f var e h.0 h.2, stands_as f var g h.1 h.3, ap symbol_in h.4)
stands_as f var (Star e) s h = (h.0, stands_as f var e h.0 h.1, ap symbol_in h.2)
stands_as f var (Var k) s h = ap symbol_in h

abbrev pub RootsStand : (ℕ → Pat) → Flat → Type 0
RootsStand lower f = (k : ℕ) → StandsAs f LowerSymbol (lower k) (symbol_at f (root_at f k))

pub roots_stand : (lower : ℕ → Pat) (f : Flat) → IsFlatOf lower f → RootsStand lower f
roots_stand lower f flat k = go (slice_get f.roots k) (flat k)
  where
    go : (o : Option ℕ) → RootStands f.symbols (lower k) o → StandsAs f LowerSymbol (lower k) (symbol_at f (root_in (length f.symbols) o))
    go None h =
        subst (λ e. StandsAs f LowerSymbol e (symbol_at f (length f.symbols))) (sym h)
        (ap symbol_in (slice_get_past f.symbols (length f.symbols) (le_refl (length f.symbols))))
    go (Some s) h = stands_as f LowerSymbol (lower k) s h

-- the symbol of a pattern whose parts have these numbers
abbrev pub head_of : (ℕ → Symbol) → Pat → ℕ → ℕ → Symbol
head_of var Zero a b = NoSymbol
head_of var One a b = OneSymbol
head_of var (Tag m) a b = TagSymbol m
head_of var (Sum e g) a b = SumSymbol a b
head_of var (Prod e g) a b = ProdSymbol a b
head_of var (Star e) a b = StarSymbol a
head_of var (Var k) a b = var k

-- the parts are there, under these numbers
abbrev pub PartsStand : Flat → (ℕ → Symbol) → Pat → ℕ → ℕ → Type 0
PartsStand f var (Sum e g) a b = StandsAs f var e (symbol_at f a) × StandsAs f var g (symbol_at f b)
PartsStand f var (Prod e g) a b = StandsAs f var e (symbol_at f a) × StandsAs f var g (symbol_at f b)
PartsStand f var (Star e) a b = StandsAs f var e (symbol_at f a)
PartsStand f var _ a b = Unit {0}

pub stands_head : (f : Flat) (var : ℕ → Symbol) (e : Pat) (y : Symbol) → StandsAs f var e y → (a b : ℕ) × (y ≡ head_of var e a b) × PartsStand f var e a b
stands_head f var Zero y h = (0, 0, h, tt)
stands_head f var One y h = (0, 0, h, tt)
stands_head f var (Tag m) y h = (0, 0, h, tt)
stands_head f var (Sum e g) y h = (h.0, h.1, h.4, (h.2, h.3))
stands_head f var (Prod e g) y h = (h.0, h.1, h.4, (h.2, h.3))
stands_head f var (Star e) y h = (h.0, 0, h.2, h.1)
stands_head f var (Var k) y h = (0, 0, h, tt)

module _ (lower : ℕ → Pat) (f : Flat) (given : ℕ → List Word) (flat : RootsStand lower f) where
  -- what the tree shows for the pattern it shows for the symbol
  pub shown_at : (b : Bound) (e : Pat) (y : Symbol) (w : Word) → StandsAs f LowerSymbol e y → Shows lower b e w → ShowsAt f given b y w
  shown_at EmptyTree One y w st h = subst (λ x. ShowsAt f given EmptyTree x w) (sym st) h
  shown_at TagTree (Tag m) y w st h = subst (λ x. ShowsAt f given TagTree x w) (sym st) h
  shown_at (LeftTree b) (Sum e g) y w st h =
      subst (λ x. ShowsAt f given (LeftTree b) x w) (sym st.4) (shown_at b e (symbol_at f st.0) w st.2 h)
  shown_at (RightTree b) (Sum e g) y w st h =
      subst (λ x. ShowsAt f given (RightTree b) x w) (sym st.4) (shown_at b g (symbol_at f st.1) w st.3 h)
  shown_at (BothTree a b) (Prod e g) y w st h =
      subst (λ x. ShowsAt f given (BothTree a b) x w) (sym st.4)
      (h.0, h.1, shown_at a e (symbol_at f st.0) h.0 st.2 h.2, shown_at b g (symbol_at f st.1) h.1 st.3 h.3, h.4)
  shown_at StarEndTree (Star e) y w st h = subst (λ x. ShowsAt f given StarEndTree x w) (sym st.2) h
  shown_at (StarMoreTree a b) (Star e) y w st h =
      subst (λ x. ShowsAt f given (StarMoreTree a b) x w) (sym st.2)
      (h.0, h.1, shown_at a e (symbol_at f st.0) h.0 st.1 h.2, shown_at b (Star e) (StarSymbol st.0) h.1 (st.0, st.1, refl) h.3, h.4, h.5)
  shown_at (LowerTree b) (Var k) y w st h =
      subst (λ x. ShowsAt f given (LowerTree b) x w) (sym st) (shown_at b (lower k) (symbol_at f (root_at f k)) w (flat k) h)
  shown_at b e y w st h = absurd h

  -- by the head of the pattern
  by_head : (b : Bound) (e : Pat) (y : Symbol) (w : Word) → ((c d : ℕ) → PartsStand f LowerSymbol e c d → ShowsAt f given b (head_of LowerSymbol e c d) w → Shows lower b e w) → StandsAs f LowerSymbol e y → ShowsAt f given b y w → Shows lower b e w
  by_head b e y w each st h =
      let p = stands_head f LowerSymbol e y st in
      each p.0 p.1 p.3 (subst (λ x. ShowsAt f given b x w) p.2 h)

  head_shown : (b : Bound) (e : Pat) (w : Word) (c d : ℕ) → PartsStand f LowerSymbol e c d → ShowsAt f given b (head_of LowerSymbol e c d) w → Shows lower b e w
  head_shown EmptyTree One w c d p h = h
  head_shown TagTree (Tag m) w c d p h = h
  head_shown (LeftTree b) (Sum e g) w c d p h = by_head b e (symbol_at f c) w (head_shown b e w) p.0 h
  head_shown (RightTree b) (Sum e g) w c d p h = by_head b g (symbol_at f d) w (head_shown b g w) p.1 h
  head_shown (BothTree a b) (Prod e g) w c d p h = (
    h.0,
    h.1,
    by_head a e (symbol_at f c) h.0 (head_shown a e h.0) p.0 h.2,
    by_head b g (symbol_at f d) h.1 (head_shown b g h.1) p.1 h.3,
    h.4,
  )
  head_shown StarEndTree (Star e) w c d p h = h
  head_shown (StarMoreTree a b) (Star e) w c d p h =
      (h.0, h.1, by_head a e (symbol_at f c) h.0 (head_shown a e h.0) p h.2, head_shown b (Star e) h.1 c d p h.3, h.4, h.5)
  head_shown (LowerTree b) (Var k) w c d p h = by_head b (lower k) (symbol_at f (root_at f k)) w (head_shown b (lower k) w) (flat k) h
  head_shown b e w c d p h = absurd h

  pub at_shown : (b : Bound) (e : Pat) (y : Symbol) (w : Word) → StandsAs f LowerSymbol e y → ShowsAt f given b y w → Shows lower b e w
  at_shown b e y w st h = by_head b e y w (head_shown b e w) st h

-- ---- variables with given words

module _ (f : Flat) (given : ℕ → List Word) where
  abbrev Given : ℕ → Word → Type 0
  Given k w = MemberOf (given k) w

  under_by : (b : Bound) (e : Pat) (y : Symbol) (w : Word) → ((c d : ℕ) → PartsStand f GivenSymbol e c d → ShowsAt f given b (head_of GivenSymbol e c d) w → InUnder Given e w) → StandsAs f GivenSymbol e y → ShowsAt f given b y w → InUnder Given e w
  under_by b e y w each st h =
      let p = stands_head f GivenSymbol e y st in
      each p.0 p.1 p.3 (subst (λ x. ShowsAt f given b x w) p.2 h)

  head_under : (b : Bound) (e : Pat) (w : Word) (c d : ℕ) → PartsStand f GivenSymbol e c d → ShowsAt f given b (head_of GivenSymbol e c d) w → InUnder Given e w
  head_under EmptyTree One w c d p h = h
  head_under EmptyTree (Var k) w c d p h = h
  head_under TagTree (Tag m) w c d p h = h
  head_under (LeftTree b) (Sum e g) w c d p h = inl (under_by b e (symbol_at f c) w (head_under b e w) p.0 h)
  head_under (RightTree b) (Sum e g) w c d p h = inr (under_by b g (symbol_at f d) w (head_under b g w) p.1 h)
  head_under (BothTree a b) (Prod e g) w c d p h = (
    h.0,
    h.1,
    under_by a e (symbol_at f c) h.0 (head_under a e h.0) p.0 h.2,
    under_by b g (symbol_at f d) h.1 (head_under b g h.1) p.1 h.3,
    h.4,
  )
  head_under StarEndTree (Star e) w c d p h = (0, h)
  head_under (StarMoreTree a b) (Star e) w c d p h =
      let r = head_under b (Star e) h.1 c d p h.3 in
      (suc r.0, (h.0, h.1, under_by a e (symbol_at f c) h.0 (head_under a e h.0) p h.2, r.1, h.5))
  head_under (LowerTree b) (Var k) w c d p h = absurd h
  head_under b e w c d p h = absurd h

  -- what a tree shows for the symbol is a word of the pattern under the given words
  pub at_under : (b : Bound) (e : Pat) (y : Symbol) (w : Word) → StandsAs f GivenSymbol e y → ShowsAt f given b y w → InUnder Given e w
  at_under b e y w st h = under_by b e y w (head_under b e w) st h

-- Patterns that are laid out stand where they should.
use Rattle.std.proofs.Common.{◌≡◌, ℕ, zero, suc, ◌<◌, List, [], ◌∷◌, ◌++◌, length, Some, refl, sym, ap, ◌∙◌, subst, arith}
use Rattle.std.specs.Prelude.{true, slice_get}
use Rattle.std.specs.List.{AllByRecursion}
use Rattle.std.proofs.lemmas.Bool.{and_parts, ltb-true}
use Rattle.pat_words_spec.specs.Patterns.{Pat, Zero, One, Tag, Sum, Prod, Star, Var}
use Rattle.pat_words_spec.specs.Tags.{tags_below}
use Rattle.pat_inclusion_spec.specs.bounds.Trees.{bounds_of}
use Rattle.pat_inclusion_spec.specs.bounds.Symbols.{Symbol, NoSymbol, OneSymbol, TagSymbol, SumSymbol, ProdSymbol, StarSymbol, LowerSymbol, GivenSymbol, symbol_in, Stands, RootStands, IsFlatOf, TagsAreBelow}
use Rattle.pat_inclusion_spec.specs.bounds.Layouts.{last_of, and_one, laid, laid_all, roots_all, flat_of, flat_given}

-- ---- lists

found_kept : (xs more : List Symbol) (s : ℕ) (y : Symbol) → slice_get xs s ≡ Some y → slice_get (xs ++ more) s ≡ Some y
found_kept [] more s y h = cc
found_kept (x ∷ xs) more zero y h = h
found_kept (x ∷ xs) more (suc s) y h = found_kept xs more s y h

last_found : (xs : List Symbol) (y : Symbol) → slice_get (and_one xs y) (last_of (and_one xs y)) ≡ Some y
last_found xs y = subst (λ s. slice_get (and_one xs y) s ≡ Some y) (sym (last xs)) (at xs)
  where
    at : (zs : List Symbol) → slice_get (and_one zs y) (length zs) ≡ Some y
    at [] = refl
    at (z ∷ zs) = at zs

    long : (zs : List Symbol) → length (and_one zs y) ≡ suc (length zs)
    long [] = refl
    long (z ∷ zs) = ap suc (long zs)

    last : (zs : List Symbol) → last_of (and_one zs y) ≡ length zs
    last zs = let l = long zs in omega arith

-- more symbols behind those that were made
abbrev pub Goes : List Symbol → List Symbol → Type 0
Goes made new = (more : List Symbol) × (new ≡ made ++ more)

pub goes_none : (made : List Symbol) → Goes made made
goes_none made = ([], sym (none made))
  where
    none : (xs : List Symbol) → xs ++ [] ≡ xs
    none [] = refl
    none (x ∷ xs) = ap (λ ys. x ∷ ys) (none xs)

pub goes_both : (a b c : List Symbol) → Goes a b → Goes b c → Goes a c
goes_both a b c p q = (p.0 ++ q.0, q.1 ∙ ap (λ x. x ++ q.0) p.1 ∙ assoc a p.0 q.0)
  where
    assoc : (xs ys zs : List Symbol) → (xs ++ ys) ++ zs ≡ xs ++ (ys ++ zs)
    assoc [] ys zs = refl
    assoc (x ∷ xs) ys zs = ap (λ w. x ∷ w) (assoc xs ys zs)

goes_one : (a b : List Symbol) (y : Symbol) → Goes a b → Goes a (and_one b y)
goes_one a b y p = goes_both a b (and_one b y) p (y ∷ [], refl)

-- ---- what stands is kept

pub kept : (xs more : List Symbol) (var : ℕ → Symbol) (e : Pat) (s : ℕ) → Stands xs var e s → Stands (xs ++ more) var e s
kept xs more var Zero s h = found_kept xs more s NoSymbol h
kept xs more var One s h = found_kept xs more s OneSymbol h
kept xs more var (Tag m) s h = found_kept xs more s (TagSymbol m) h
kept xs more var (Sum e f) s h =
    (h.0, h.1, kept xs more var e h.0 h.2, kept xs more var f h.1 h.3, found_kept xs more s (SumSymbol h.0 h.1) h.4)
kept xs more var (Prod e f) s h =
    (h.0, h.1, kept xs more var e h.0 h.2, kept xs more var f h.1 h.3, found_kept xs more s (ProdSymbol h.0 h.1) h.4)
kept xs more var (Star e) s h = (h.0, kept xs more var e h.0 h.1, found_kept xs more s (StarSymbol h.0) h.2)
kept xs more var (Var k) s h = found_kept xs more s (var k) h

pub kept_in : (xs ys : List Symbol) (var : ℕ → Symbol) (e : Pat) (s : ℕ) → Goes xs ys → Stands xs var e s → Stands ys var e s
kept_in xs ys var e s g h = subst (λ zs. Stands zs var e s) (sym g.1) (kept xs g.0 var e s h)

-- ---- one pattern

pub laid_goes : (var : ℕ → Symbol) (made : List Symbol) (e : Pat) → Goes made (laid var made e)
laid_goes var made Zero = goes_one made made NoSymbol (goes_none made)
laid_goes var made One = goes_one made made OneSymbol (goes_none made)
laid_goes var made (Tag m) = goes_one made made (TagSymbol m) (goes_none made)
laid_goes var made (Sum e f) =
    let first = laid var made e in
    let second = laid var first f in
    goes_one made second (SumSymbol (last_of first) (last_of second)) (goes_both made first second (laid_goes var made e) (laid_goes var first f))
laid_goes var made (Prod e f) =
    let first = laid var made e in
    let second = laid var first f in
    goes_one made second (ProdSymbol (last_of first) (last_of second)) (goes_both made first second (laid_goes var made e) (laid_goes var first f))
laid_goes var made (Star e) = let part = laid var made e in goes_one made part (StarSymbol (last_of part)) (laid_goes var made e)
laid_goes var made (Var k) = goes_one made made (var k) (goes_none made)

pub laid_stands : (var : ℕ → Symbol) (made : List Symbol) (e : Pat) → Stands (laid var made e) var e (last_of (laid var made e))
laid_stands var made Zero = last_found made NoSymbol
laid_stands var made One = last_found made OneSymbol
laid_stands var made (Tag m) = last_found made (TagSymbol m)
laid_stands var made (Sum e f) =
    let first = laid var made e in
    let second = laid var first f in
    let y = SumSymbol (last_of first) (last_of second) in
    let g = goes_one second second y (goes_none second) in (
      last_of first,
      last_of second,
      kept_in first (and_one second y) var e (last_of first) (goes_both first second (and_one second y) (laid_goes var first f) g) (laid_stands var made e),
      kept_in second (and_one second y) var f (last_of second) g (laid_stands var first f),
      last_found second y,
    )
laid_stands var made (Prod e f) =
    let first = laid var made e in
    let second = laid var first f in
    let y = ProdSymbol (last_of first) (last_of second) in
    let g = goes_one second second y (goes_none second) in (
      last_of first,
      last_of second,
      kept_in first (and_one second y) var e (last_of first) (goes_both first second (and_one second y) (laid_goes var first f) g) (laid_stands var made e),
      kept_in second (and_one second y) var f (last_of second) g (laid_stands var first f),
      last_found second y,
    )
laid_stands var made (Star e) =
    let part = laid var made e in
    let y = StarSymbol (last_of part) in
    let g = goes_one part part y (goes_none part) in
    (last_of part, kept_in part (and_one part y) var e (last_of part) g (laid_stands var made e), last_found part y)
laid_stands var made (Var k) = last_found made (var k)

-- ---- a system

all_goes : (made : List Symbol) (es : List Pat) → Goes made (laid_all made es)
all_goes made [] = goes_none made
all_goes made (e ∷ es) =
    let first = laid LowerSymbol made e in
    goes_both made first (laid_all first es) (laid_goes LowerSymbol made e) (all_goes first es)

pub all_stand : (made : List Symbol) (es : List Pat) (symbols : List Symbol) → Goes (laid_all made es) symbols → (k : ℕ) → RootStands symbols (bounds_of es k) (slice_get (roots_all made es) k)
all_stand made [] symbols g k = refl
all_stand made (e ∷ es) symbols g zero =
    let first = laid LowerSymbol made e in
    kept_in first symbols LowerSymbol e (last_of first) (goes_both first (laid_all first es) symbols (all_goes first es) g) (laid_stands LowerSymbol made e)
all_stand made (e ∷ es) symbols g (suc k) = all_stand (laid LowerSymbol made e) es symbols g k

pub flat_stands : (system : List Pat) (left : Pat) → IsFlatOf (bounds_of system) (flat_of system left)
flat_stands system left k =
    let made = laid_all [] system in
    all_stand [] system (laid LowerSymbol made left) (laid_goes LowerSymbol made left) k

-- ---- tags

abbrev pub TagFits : ℕ → Symbol → Type 0
TagFits n (TagSymbol m) = m < n
TagFits n _ = Unit {0}

fit_one : (n : ℕ) (xs : List Symbol) (y : Symbol) → AllByRecursion (TagFits n) xs → TagFits n y → AllByRecursion (TagFits n) (and_one xs y)
fit_one n [] y a f = (f, tt)
fit_one n (x ∷ xs) y a f = (a.0, fit_one n xs y a.1 f)

pub laid_fit : (n : ℕ) (var : ℕ → Symbol) → ((k : ℕ) → TagFits n (var k)) → (made : List Symbol) (e : Pat) → tags_below n e ≡ true → AllByRecursion (TagFits n) made → AllByRecursion (TagFits n) (laid var made e)
laid_fit n var fit made Zero t a = fit_one n made NoSymbol a tt
laid_fit n var fit made One t a = fit_one n made OneSymbol a tt
laid_fit n var fit made (Tag m) t a = fit_one n made (TagSymbol m) a (ltb-true m n t)
laid_fit n var fit made (Sum e f) t a =
    let both = and_parts (tags_below n e) (tags_below n f) t in
    let first = laid var made e in
    let second = laid var first f in
    fit_one n second (SumSymbol (last_of first) (last_of second)) (laid_fit n var fit first f both.1 (laid_fit n var fit made e both.0 a)) tt
laid_fit n var fit made (Prod e f) t a =
    let both = and_parts (tags_below n e) (tags_below n f) t in
    let first = laid var made e in
    let second = laid var first f in
    fit_one n second (ProdSymbol (last_of first) (last_of second)) (laid_fit n var fit first f both.1 (laid_fit n var fit made e both.0 a)) tt
laid_fit n var fit made (Star e) t a =
    let part = laid var made e in fit_one n part (StarSymbol (last_of part)) (laid_fit n var fit made e t a) tt
laid_fit n var fit made (Var k) t a = fit_one n made (var k) a (fit k)

pub all_fit : (n : ℕ) (made : List Symbol) (es : List Pat) → AllByRecursion (λ e. tags_below n e ≡ true) es → AllByRecursion (TagFits n) made → AllByRecursion (TagFits n) (laid_all made es)
all_fit n made [] t a = a
all_fit n made (e ∷ es) t a =
    all_fit n (laid LowerSymbol made e) es t.1 (laid_fit n LowerSymbol (λ k. tt) made e t.0 a)

pub symbols_fit : (n : ℕ) (xs : List Symbol) → AllByRecursion (TagFits n) xs → (s m : ℕ) → symbol_in (slice_get xs s) ≡ TagSymbol m → m < n
symbols_fit n [] a s m h = absurd (subst other h tt)
  where
    other : Symbol → Type 0
    other (TagSymbol t) = ⊥
    other _ = Unit {0}
symbols_fit n (x ∷ xs) a zero m h = subst (TagFits n) h a.0
symbols_fit n (x ∷ xs) a (suc s) m h = symbols_fit n xs a.1 s m h

pub flat_tags : (system : List Pat) (left : Pat) (n : ℕ) → AllByRecursion (λ e. tags_below n e ≡ true) system → tags_below n left ≡ true → TagsAreBelow n (flat_of system left)
flat_tags system left n ts t =
    let made = laid_all [] system in
    symbols_fit n (laid LowerSymbol made left) (laid_fit n LowerSymbol (λ k. tt) made left t (all_fit n [] system ts tt))

pub given_tags : (e : Pat) (n : ℕ) → tags_below n e ≡ true → TagsAreBelow n (flat_given e)
given_tags e n t = symbols_fit n (laid GivenSymbol [] e) (laid_fit n GivenSymbol (λ k. tt) [] e t tt)

-- The heads of a pattern lay it out.
use Rattle.std.proofs.Common.{◌≡◌, ℕ, suc, List, [], ◌∷◌, ◌++◌, length, refl, sym, ap, ◌∙◌, subst, arith, append_assoc}
use Rattle.pat_words_spec.specs.Patterns.{Pat, Zero, One, Tag, Sum, Prod, Star, Var}
use Rattle.pat_patterns.specs.declared.postfix_form.Head.{Head}
use Rattle.pat_patterns.specs.declared.postfix_form.Head.TheVariants.{Zero as ZeroHead, One as OneHead, Tag as TagHead, Var as VarHead, Sum as SumHead, Prod as ProdHead, Star as StarHead}
use Rattle.pat_patterns.specs.postfix_form.Postfix.{postfix_onto}
use Rattle.pat_inclusion_spec.specs.bounds.Symbols.{Symbol, NoSymbol, OneSymbol, TagSymbol, SumSymbol, ProdSymbol, StarSymbol, LowerSymbol}
use Rattle.pat_inclusion_spec.specs.bounds.Layouts.{last_of, and_one, laid, laid_all, roots_all}
use Rattle.pat_grid_points.specs.symbols.Laying.{HasParts, lay}

last : (xs : List Symbol) (y : Symbol) → length xs ≡ last_of (and_one xs y)
last xs y = let l = long xs in omega arith
  where
    long : (zs : List Symbol) → length (and_one zs y) ≡ suc (length zs)
    long [] = refl
    long (z ∷ zs) = ap suc (long zs)

one_more : (var : ℕ → Symbol) (rest : List Head) (made : List Symbol) (y : Symbol) (numbers : List ℕ) → lay var rest (and_one made y) (length made ∷ numbers) ≡ lay var rest (and_one made y) (last_of (and_one made y) ∷ numbers)
one_more var rest made y numbers = ap (λ n. lay var rest (and_one made y) (n ∷ numbers)) (last made y)

-- the heads of a pattern lay it out, and put its number on top
pub lays_onto : (var : ℕ → Symbol) (e : Pat) (rest : List Head) (made : List Symbol) (numbers : List ℕ) → lay var (postfix_onto e rest) made numbers ≡ lay var rest (laid var made e) (last_of (laid var made e) ∷ numbers)
lays_onto var Zero rest made numbers = one_more var rest made NoSymbol numbers
lays_onto var One rest made numbers = one_more var rest made OneSymbol numbers
lays_onto var (Tag m) rest made numbers = one_more var rest made (TagSymbol m) numbers
lays_onto var (Var k) rest made numbers = one_more var rest made (var k) numbers
lays_onto var (Sum e f) rest made numbers =
    let first = laid var made e in
    let second = laid var first f in
    lays_onto var e (postfix_onto f (SumHead ∷ rest)) made numbers
    ∙ lays_onto var f (SumHead ∷ rest) first (last_of first ∷ numbers)
    ∙ one_more var rest second (SumSymbol (last_of first) (last_of second)) numbers
lays_onto var (Prod e f) rest made numbers =
    let first = laid var made e in
    let second = laid var first f in
    lays_onto var e (postfix_onto f (ProdHead ∷ rest)) made numbers
    ∙ lays_onto var f (ProdHead ∷ rest) first (last_of first ∷ numbers)
    ∙ one_more var rest second (ProdSymbol (last_of first) (last_of second)) numbers
lays_onto var (Star e) rest made numbers =
    let part = laid var made e in
    lays_onto var e (StarHead ∷ rest) made numbers ∙ one_more var rest part (StarSymbol (last_of part)) numbers

-- where one number is left in the end, each head's parts are there
pub has_parts : (var : ℕ → Symbol) (head : Head) (rest : List Head) (made whole : List Symbol) (numbers : List ℕ) (n : ℕ) → lay var (head ∷ rest) made numbers ≡ (whole, n ∷ []) → HasParts head numbers
has_parts var ZeroHead rest made whole numbers n e = tt
has_parts var OneHead rest made whole numbers n e = tt
has_parts var (TagHead m) rest made whole numbers n e = tt
has_parts var (VarHead k) rest made whole numbers n e = tt
has_parts var SumHead rest made whole [] n e = let f = ap (λ p. p.1) e in absurd (cc)
has_parts var SumHead rest made whole (b ∷ []) n e = let f = ap (λ p. p.1) e in absurd (cc)
has_parts var SumHead rest made whole (b ∷ a ∷ numbers) n e = tt
has_parts var ProdHead rest made whole [] n e = let f = ap (λ p. p.1) e in absurd (cc)
has_parts var ProdHead rest made whole (b ∷ []) n e = let f = ap (λ p. p.1) e in absurd (cc)
has_parts var ProdHead rest made whole (b ∷ a ∷ numbers) n e = tt
has_parts var StarHead rest made whole [] n e = let f = ap (λ p. p.1) e in absurd (cc)
has_parts var StarHead rest made whole (a ∷ numbers) n e = tt

-- before the first head
pub begun : (var : ℕ → Symbol) (e : Pat) (heads : List Head) (made : List Symbol) (numbers : List ℕ) → heads ≡ postfix_onto e [] → numbers ≡ [] → lay var heads made numbers ≡ (laid var made e, last_of (laid var made e) ∷ [])
begun var e heads made numbers h n =
    ap (λ x. lay var x made numbers) h ∙ ap (lay var (postfix_onto e []) made) n ∙ lays_onto var e [] made []

-- ---- a system

-- the symbols made so far, and the roots, and what the patterns still to come add to both
pub record Under (system : List Pat) (made : List Symbol) (roots : List ℕ) (rest : List Pat) : Type 0 where
  pub symbols : laid_all made rest ≡ laid_all [] system
  pub numbers : roots ++ roots_all made rest ≡ roots_all [] system

pub under_none : (system : List Pat) (made : List Symbol) (roots : List ℕ) → made ≡ [] → roots ≡ [] → Under system made roots system
under_none system made roots e f =
    subst (λ ys. Under system ys roots system) (sym e)
    (subst (λ ns. Under system [] ns system) (sym f) (record { symbols = refl; numbers = refl }))

pub under_more : (system : List Pat) (made new : List Symbol) (roots grown : List ℕ) (e : Pat) (rest : List Pat) (root : ℕ) → Under system made roots (e ∷ rest) → new ≡ laid LowerSymbol made e → root ≡ last_of (laid LowerSymbol made e) → grown ≡ roots ++ root ∷ [] → Under system new grown rest
under_more system made new roots grown e rest root h s r g = record {
  symbols = ap (λ ys. laid_all ys rest) s ∙ h.symbols;
  numbers =
      ap (λ ns. ns ++ roots_all new rest) (g ∙ ap (λ n. roots ++ n ∷ []) r)
      ∙ append_assoc roots (last_of (laid LowerSymbol made e) ∷ []) (roots_all new rest)
      ∙ ap (λ ys. roots ++ last_of (laid LowerSymbol made e) ∷ roots_all ys rest) s
      ∙ h.numbers;
}

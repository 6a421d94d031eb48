-- Patterns laid out so that equal parts share their symbols.
use Rattle.std.proofs.Common.{◌≡◌, ℕ, zero, suc, ◌+◌, ◌<◌, ◌≤◌, ⊎_elim, true, List, [], ◌∷◌, ◌++◌, length, take, Option, Some, None, option_map, refl, sym, ap, ◌∙◌, subst, arith}
use Rattle.std.specs.Prelude.{get_or, slice_get, Result, Ok, Err, IfOk}
use Rattle.std.specs.List.{AllByRecursion}
use Rattle.std.proofs.lemmas.Bool.{and_parts, ltb-true, cases_lt}
use Rattle.std.proofs.lemmas.List.{length-map, map-append, take_more, take_all, get_or_append_left}
use Rattle.std.proofs.Math.Seq.{get_or-append_seam}
use Rattle.std.proofs.lemmas.Option.{slice_get-map}
use Rattle.pat_words_spec.specs.Patterns.{Pat, Zero, One, Tag, Sum, Prod, Star, Var}
use Rattle.pat_words_spec.specs.Tags.{tags_below}
use Rattle.pat_inclusion_spec.specs.bounds.Trees.{bounds_of}
use Rattle.pat_inclusion_spec.specs.bounds.Symbols.{Symbol, NoSymbol, OneSymbol, TagSymbol, SumSymbol, ProdSymbol, StarSymbol, LowerSymbol, symbol_in, Stands, RootStands}
use Rattle.pat_inclusion_spec.specs.bounds.Assignments.{Right, PatternRight, VarRight, Constraint}
use Rattle.pat_inclusion_laws.proofs.LayoutLaws.{goes_none, goes_both, kept_in}
use Rattle.pat_patterns.specs.declared.pattern.Pattern.{Pattern}
use Rattle.pat_patterns.specs.Views.{pattern_view, patterns_view}
use Rattle.pat_grid_points.specs.declared.symbols.symbol.Symbol.{Symbol as CodeSymbol}
use Rattle.pat_grid_points.specs.symbols.Views.{symbol_view, symbols_view}
use Rattle.pat_solve_bounds.specs.renumbered.Renaming.{renamed}
use Rattle.pat_solve_bounds.specs.renumbered.Systems.{side_at}
use Rattle.pat_solve_bounds.proofs.Renames.{renamed_tags}
use Rattle.pat_solve_grids.specs.Findings.{IsSearchable, RightSearchable}
use Rattle.pat_solve_grids.specs.Laying.{Grows, TagsBelow, IsPut, IsLaid, StandEach, AreLaid, StandFor, RightBelow, SidesStand, AreSidesLaid}
use Rattle.pat_solve_grids.proofs.Turning.{each_at}

-- ---- one symbol

below_one : (n : ℕ) (xs : List Symbol) (y : Symbol) → TagsBelow n xs → ((m : ℕ) → y ≡ TagSymbol m → m < n) → TagsBelow n (xs ++ y ∷ [])
below_one n [] y a f zero m h = let same : y ≡ TagSymbol m = cc in f m same
below_one n [] y a f (suc s) m h = absurd (cc)
below_one n (x ∷ xs) y a f zero m h = a 0 m h
below_one n (x ∷ xs) y a f (suc s) m h = below_one n xs y (λ t. a (suc t)) f s m h

last_put : (xs : List Symbol) (y : Symbol) → slice_get (xs ++ y ∷ []) (length xs) ≡ Some y
last_put [] y = refl
last_put (x ∷ xs) y = last_put xs y

pub found_put : (xs : List CodeSymbol) (y : CodeSymbol) (s : ℕ) → slice_get xs s ≡ Some y → IsPut (symbols_view xs) (symbols_view xs) (symbol_view y) s
found_put xs y s h = record {
  goes = goes_none (symbols_view xs);
  at = slice_get-map symbol_view xs s ∙ ap (option_map symbol_view) h;
  tags = λ n f a. a;
}

pub new_put : (xs new : List CodeSymbol) (y : CodeSymbol) (s : ℕ) → s ≡ length xs → new ≡ xs ++ y ∷ [] → IsPut (symbols_view xs) (symbols_view new) (symbol_view y) s
new_put xs new y s is e =
    let view : symbols_view new ≡ symbols_view xs ++ symbol_view y ∷ [] = ap symbols_view e ∙ map-append symbol_view xs (y ∷ []) in
    let count : length (symbols_view xs) ≡ s = length-map xs symbol_view ∙ sym is in
    subst (λ zs. IsPut (symbols_view xs) zs (symbol_view y) s) (sym view)
    (subst (IsPut (symbols_view xs) (symbols_view xs ++ symbol_view y ∷ []) (symbol_view y)) count (record {
      goes = (symbol_view y ∷ [], refl);
      at = last_put (symbols_view xs) (symbol_view y);
      tags = λ n f a. below_one n (symbols_view xs) (symbol_view y) a f;
    }))

-- ---- one pattern

pub lifted : {E : Type 0} (P Q : ℕ → Type 0) (r : Result ℕ E) → ((s : ℕ) → P s → Q s) → IfOk r P → IfOk r Q
lifted P Q (Err x) f h = tt
lifted P Q (Ok s) f h = f s h

pub zero_laid : (old new : List Symbol) (s : ℕ) → IsPut old new NoSymbol s → IsLaid old new Zero s
zero_laid old new s h =
    record { goes = h.goes; stands = h.at; tags = λ n t a. h.tags n (λ m e. absurd (cc)) a }

pub one_laid : (old new : List Symbol) (s : ℕ) → IsPut old new OneSymbol s → IsLaid old new One s
one_laid old new s h =
    record { goes = h.goes; stands = h.at; tags = λ n t a. h.tags n (λ m e. absurd (cc)) a }

pub tag_laid : (old new : List Symbol) (t s : ℕ) → IsPut old new (TagSymbol t) s → IsLaid old new (Tag t) s
tag_laid old new t s h = record {
  goes = h.goes;
  stands = h.at;
  tags = λ n below a. h.tags n (λ m e. let same : t ≡ m = cc in subst (λ i. i < n) same (ltb-true t n below)) a;
}

pub var_laid : (old new : List Symbol) (k s : ℕ) → IsPut old new (LowerSymbol k) s → IsLaid old new (Var k) s
var_laid old new k s h =
    record { goes = h.goes; stands = h.at; tags = λ n t a. h.tags n (λ m e. absurd (cc)) a }

module _ (old one two new : List Symbol) (e f : Pat) (a b s : ℕ) (first : IsLaid old one e a) (second : IsLaid one two f b) where
  pub sum_laid : IsPut two new (SumSymbol a b) s → IsLaid old new (Sum e f) s
  sum_laid own =
      let more = goes_both one two new second.goes own.goes in
      record {
        goes = goes_both old one new first.goes more;
        stands = (a, b, kept_in one new LowerSymbol e a more first.stands, kept_in two new LowerSymbol f b own.goes second.stands, own.at);
        tags = λ n t x.
            let both = and_parts (tags_below n e) (tags_below n f) t in
            own.tags n (λ m q. absurd (cc)) (second.tags n both.1 (first.tags n both.0 x));
      }

  pub product_laid : IsPut two new (ProdSymbol a b) s → IsLaid old new (Prod e f) s
  product_laid own =
      let more = goes_both one two new second.goes own.goes in
      record {
        goes = goes_both old one new first.goes more;
        stands = (a, b, kept_in one new LowerSymbol e a more first.stands, kept_in two new LowerSymbol f b own.goes second.stands, own.at);
        tags = λ n t x.
            let both = and_parts (tags_below n e) (tags_below n f) t in
            own.tags n (λ m q. absurd (cc)) (second.tags n both.1 (first.tags n both.0 x));
      }

pub star_laid : (old one new : List Symbol) (e : Pat) (a s : ℕ) → IsLaid old one e a → IsPut one new (StarSymbol a) s → IsLaid old new (Star e) s
star_laid old one new e a s part own = record {
  goes = goes_both old one new part.goes own.goes;
  stands = (a, kept_in one new LowerSymbol e a own.goes part.stands, own.at);
  tags = λ n t x. own.tags n (λ m q. absurd (cc)) (part.tags n t x);
}

-- ---- a system

pub stand_kept : (old new : List Symbol) (es : List Pat) (ss : List ℕ) → Grows old new → StandEach old es ss → StandEach new es ss
stand_kept old new [] [] g h = tt
stand_kept old new [] (s ∷ ss) g h = absurd h
stand_kept old new (e ∷ es) [] g h = absurd h
stand_kept old new (e ∷ es) (s ∷ ss) g h =
    (kept_in old new LowerSymbol e s g h.0, stand_kept old new es ss g h.1)

stand_more : (symbols : List Symbol) (es : List Pat) (ss : List ℕ) (e : Pat) (s : ℕ) → StandEach symbols es ss → Stands symbols LowerSymbol e s → StandEach symbols (es ++ e ∷ []) (ss ++ s ∷ [])
stand_more symbols [] [] e s h own = (own, tt)
stand_more symbols [] (r ∷ ss) e s h own = absurd h
stand_more symbols (f ∷ es) [] e s h own = absurd h
stand_more symbols (f ∷ es) (r ∷ ss) e s h own = (h.0, stand_more symbols es ss e s h.1 own)

all_first : (P : Pat → Type 0) (es : List Pat) (e : Pat) → AllByRecursion P (es ++ e ∷ []) → AllByRecursion P es × P e
all_first P [] e h = (tt, h.0)
all_first P (f ∷ es) e h = let rest = all_first P es e h.1 in ((h.0, rest.0), rest.1)

pub system_begins : (symbols : List Symbol) (ss : List ℕ) → ss ≡ [] → AreLaid symbols symbols [] ss
system_begins symbols ss e =
    subst (AreLaid symbols symbols []) (sym e) (record { goes = goes_none symbols; stand = tt; tags = λ n t a. a })

laid_more : (old one new : List Symbol) (es : List Pat) (ss : List ℕ) (e : Pat) (s : ℕ) → AreLaid old one es ss → IsLaid one new e s → AreLaid old new (es ++ e ∷ []) (ss ++ s ∷ [])
laid_more old one new es ss e s h own = record {
  goes = goes_both old one new h.goes own.goes;
  stand = stand_more new es ss e s (stand_kept one new es ss own.goes h.stand) own.stands;
  tags = λ n t a. let both = all_first (λ p. tags_below n p ≡ true) es e t in own.tags n both.1 (h.tags n both.0 a);
}

pub system_turn : (system : List Pattern) (i : ℕ) (p : Pattern) (old one new : List Symbol) (had has : List ℕ) (s : ℕ) → i < length system → p ≡ get_or system i p → AreLaid old one (patterns_view (take i system)) had → IsLaid one new (pattern_view p) s → has ≡ had ++ s ∷ [] → AreLaid old new (patterns_view (take (i + 1) system)) has
system_turn system i p old one new had has s l is h own e =
    subst (AreLaid old new (patterns_view (take (i + 1) system))) (sym e)
    (subst (λ ps. AreLaid old new ps (had ++ s ∷ []))
    (sym (ap patterns_view (take_more system i p l ∙ ap (λ q. take i system ++ q ∷ []) (sym is)) ∙ map-append pattern_view (take i system) (p ∷ [])))
    (laid_more old one new (patterns_view (take i system)) had (pattern_view p) s h own))

pub system_end : (system : List Pattern) (i : ℕ) (old new : List Symbol) (ss : List ℕ) → length system ≤ i → AreLaid old new (patterns_view (take i system)) ss → AreLaid old new (patterns_view system) ss
system_end system i old new ss l h =
    subst (λ ps. AreLaid old new (patterns_view ps) ss) (take_all i system l) h

pub roots_stand : (symbols : List Symbol) (es : List Pat) (ss : List ℕ) → StandEach symbols es ss → (k : ℕ) → RootStands symbols (bounds_of es k) (slice_get ss k)
roots_stand symbols [] [] h k = refl
roots_stand symbols [] (s ∷ ss) h k = absurd h
roots_stand symbols (e ∷ es) [] h k = absurd h
roots_stand symbols (e ∷ es) (s ∷ ss) h zero = h.0
roots_stand symbols (e ∷ es) (s ∷ ss) h (suc k) = roots_stand symbols es ss h.1 k

pub roots_many : (symbols : List Symbol) (es : List Pat) (ss : List ℕ) → StandEach symbols es ss → length ss ≡ length es
roots_many symbols [] [] h = refl
roots_many symbols [] (s ∷ ss) h = absurd h
roots_many symbols (e ∷ es) [] h = absurd h
roots_many symbols (e ∷ es) (s ∷ ss) h = ap suc (roots_many symbols es ss h.1)

-- ---- sides

pub both_stand : (old one new : List Symbol) (e f : Pat) (a b : ℕ) → IsLaid old one e a → IsLaid one new f b → SidesStand old new e (PatternRight f) (Some (a, b))
both_stand old one new e f a b first second = record {
  goes = goes_both old one new first.goes second.goes;
  stand = (a, b, refl, kept_in one new LowerSymbol e a second.goes first.stands, second.stands);
  tags = λ n t u x. second.tags n u (first.tags n t x);
}

pub none_stand : (old : List Symbol) (e : Pat) (k : ℕ) → SidesStand old old e (VarRight k) None
none_stand old e k = record { goes = goes_none old; stand = refl; tags = λ n t u x. x }

pub for_kept : (old new : List Symbol) (e : Pat) (r : Right) (side : Option (ℕ × ℕ)) → Grows old new → StandFor old e r side → StandFor new e r side
for_kept old new e (PatternRight f) side g h =
    (h.0, h.1, h.2, kept_in old new LowerSymbol e h.0 g h.3, kept_in old new LowerSymbol f h.1 g h.4)
for_kept old new e (VarRight k) side g h = h

right_below : (k n : ℕ) (r : Right) → RightSearchable k n r → RightBelow n r
right_below k n (PatternRight f) h = h.0
right_below k n (VarRight j) h = tt

longer : {A : Type 0} (xs : List A) (x : A) → length (xs ++ x ∷ []) ≡ suc (length xs)
longer [] x = refl
longer (y ∷ ys) x = ap suc (longer ys x)

pub one_longer : {A : Type 0} (had has : List A) (x : A) → has ≡ had ++ x ∷ [] → length has ≡ suc (length had)
one_longer had has x e = ap length e ∙ longer had x

module _ (place : ℕ → ℕ) (zs : List Constraint) (ns : List ℕ) (from : ℕ) where
  pub sides_begin : (symbols : List Symbol) (sides : List (Option (ℕ × ℕ))) → sides ≡ [] → AreSidesLaid place zs ns from symbols symbols sides
  sides_begin symbols sides e =
      subst (AreSidesLaid place zs ns from symbols symbols) (sym e)
      (record { goes = goes_none symbols; stand = λ j l. absurd (omega arith); tags = λ k n t a. a })

  pub sides_turn : (i : ℕ) (old one new : List Symbol) (had has : List (Option (ℕ × ℕ))) (side : Option (ℕ × ℕ)) → from + length had ≡ i → i < length ns → AreSidesLaid place zs ns from old one had → (let c = side_at zs (get_or ns i 0) in SidesStand one new (renamed place c.left) c.right side) → has ≡ had ++ side ∷ [] → AreSidesLaid place zs ns from old new has
  sides_turn i old one new had has side at l h own e = subst (AreSidesLaid place zs ns from old new) (sym e) (record {
    goes = goes_both old one new h.goes own.goes;
    stand = λ j less. ⊎_elim
        (λ before.
        let c = side_at zs (get_or ns (from + j) 0) in
        subst (StandFor new (renamed place c.left) c.right) (sym (get_or_append_left had (side ∷ []) None j before))
        (for_kept one new (renamed place c.left) c.right (get_or had j None) own.goes (h.stand j before)))
        (λ past.
        let same : j ≡ length had = last j less past in
        let here : i ≡ from + j = omega (arith, at, same) in
        subst (λ x. let c = side_at zs (get_or ns x 0) in StandFor new (renamed place c.left) c.right (get_or (had ++ side ∷ []) j None)) here
        (subst (λ x. let c = side_at zs (get_or ns i 0) in StandFor new (renamed place c.left) c.right (get_or (had ++ side ∷ []) x None)) (sym same)
        (subst (λ x. let c = side_at zs (get_or ns i 0) in StandFor new (renamed place c.left) c.right x) (sym (get_or-append_seam had side [] None)) own.stand)))
        (cases_lt j (length had));
    tags = λ k n fits a.
        let c = side_at zs (get_or ns i 0) in
        let searchable = each_at (IsSearchable k n) (side_at zs) ns i l fits in
        own.tags n (renamed_tags n place c.left ∙ searchable.left) (right_below k n c.right searchable.right) (h.tags k n fits a);
  })
    where
      last : (j : ℕ) → j < length (had ++ side ∷ []) → length had ≤ j → j ≡ length had
      last j less past = let c = one_longer had (had ++ side ∷ []) side refl in omega (arith, c, less, past)

-- ---- tags

pub tags_at : (n : ℕ) (xs : List Symbol) → TagsBelow n xs → (s m : ℕ) → symbol_in (slice_get xs s) ≡ TagSymbol m → m < n
tags_at n xs a s m h = go (slice_get xs s) refl h
  where
    go : (o : Option Symbol) → slice_get xs s ≡ o → symbol_in o ≡ TagSymbol m → m < n
    go None e q = absurd (cc)
    go (Some y) e q = a s m (e ∙ ap Some q)

pub none_below : (n : ℕ) → TagsBelow n []
none_below n s m h = absurd (cc)

-- When a symbol is closed: no step at it gives less than the table has.
use Rattle.std.proofs.Common.{◌≡◌, ℕ, zero, suc, ◌+◌, ◌*◌, ◌<◌, ◌≤◌, inl, inr, ⊎_elim, true, false, List, [], ◌∷◌, length, get_or, refl, sym, ap, ap₂, ◌∙◌, subst, arith, zero-mul}
use Rattle.std.specs.Prelude.{slice_get, nat_eq}
use Rattle.std.proofs.lemmas.Bool.{cases_lt, cond-false, ne_eqb}
use Rattle.std.proofs.Math.Nat.{one-le-pow}
use Rattle.pat_words_spec.specs.Words.{Word, no_word, one, plus}
use Rattle.pat_words_spec.specs.Cuts.{cut_at}
use Rattle.pat_words_spec.specs.Languages.{MemberOf}
use Rattle.pat_words_laws.proofs.WordLaws.{word_ext}
use Rattle.pat_inclusion_spec.specs.bounds.CutSets.{IsPoint}
use Rattle.pat_inclusion_spec.specs.bounds.Symbols.{NoSymbol, OneSymbol, TagSymbol, SumSymbol, ProdSymbol, StarSymbol, LowerSymbol, GivenSymbol, symbol_in, symbol_at, root_at}
use Rattle.pat_inclusion_spec.specs.bounds.Tables.{Setting, Table, IsKnown, Step, StepAt, StepByOne, StepByTwo}
use Rattle.pat_inclusion_spec.specs.bounds.Numbers.{points_in, number_of, point_of, table_of}
use Rattle.pat_inclusion_laws.proofs.NumberLaws.{number_point, number_small, point_number, point_fits}
use Rattle.pat_grid_points.specs.declared.grid.Grid.{Grid}
use Rattle.pat_grid_points.specs.Views.{summed, points_of, HasPoint}
use Rattle.pat_grid_points.proofs.Digits.{few_tags}
use Rattle.pat_grid_points.proofs.Members.{member_point, point_member}
use Rattle.pat_grid_points.specs.declared.symbols.symbol.Symbol.{Symbol as CodeSymbol}
use Rattle.pat_grid_points.specs.symbols.Views.{symbol_view, symbols_view}
use Rattle.pat_grid.specs.declared.tables.board.Board.{Board}
use Rattle.pat_grid.specs.tables.Views.{setting_of, IsBoard}
use Rattle.pat_grid.specs.tables.Moves.{entry_at, ClosedAt, TakesPart, PartBefore, TakesParts, PairAt, RowBefore, RowsBefore, WholeRow, WholeRows, Lists, HeldBefore}

-- ---- the symbol of a number

pub symbol_here : (symbols : List CodeSymbol) (s : ℕ) (d : CodeSymbol) → s < length symbols → symbol_in (slice_get (symbols_view symbols) s) ≡ symbol_view (get_or symbols s d)
symbol_here [] s d l = absurd (omega arith)
symbol_here (y ∷ symbols) zero d l = refl
symbol_here (y ∷ symbols) (suc s) d l = symbol_here symbols s d (omega arith)

-- ---- the empty word

number_none : (k n : ℕ) → number_of k n no_word ≡ 0
number_none k zero = refl
number_none k (suc n) = ap (λ x. x * (k + 1) + 0) (number_none k n) ∙ (let z = zero-mul (k + 1) in omega arith)

none_point : (k n : ℕ) → IsPoint k n no_word
none_point k n = (λ t l. refl, word_ext no_word (cut_at k no_word) (λ t. omega arith))

pub point_none : (k n : ℕ) → point_of k n 0 ≡ no_word
point_none k n = ap (point_of k n) (sym (number_none k n)) ∙ number_point k n no_word (none_point k n)

pub some_points : (k n : ℕ) → 1 ≤ points_in k n
some_points k n = one-le-pow n (k + 1) (omega arith)

-- ---- no part

pub closed_zero : (g : Setting) (s : ℕ) (entries : List ℕ) → symbol_at g.flat s ≡ NoSymbol → ClosedAt g s entries
closed_zero g s entries e u size p step =
    absurd (subst (λ y. StepAt g (table_of g entries) s y u size) e step)

-- at the point u alone a step gives 1
only_at : (g : Setting) (s c : ℕ) (entries : List ℕ) (u v : Word) (size : ℕ) → c ≡ number_of g.bound g.tags v → entry_at g entries s c ≤ 1 → (u ≡ v) × (size ≡ 1) → table_of g entries s u ≤ size
only_at g s c entries u v size e l h =
    let at : entry_at g entries s c ≡ table_of g entries s u = ap (entry_at g entries s) (e ∙ ap (number_of g.bound g.tags) (sym h.0)) in
    let one = h.1 in
    omega arith

pub closed_one : (g : Setting) (s : ℕ) (entries : List ℕ) → symbol_at g.flat s ≡ OneSymbol → entry_at g entries s 0 ≤ 1 → ClosedAt g s entries
closed_one g s entries e l u size p step =
    only_at g s 0 entries u no_word size (sym (number_none g.bound g.tags)) l (subst (λ y. StepAt g (table_of g entries) s y u size) e step)

pub step_one : (g : Setting) (s : ℕ) (table : Table) → symbol_at g.flat s ≡ OneSymbol → Step g table s (point_of g.bound g.tags 0) 1
step_one g s table e =
    subst (λ y. StepAt g table s y (point_of g.bound g.tags 0) 1) (sym e) (point_none g.bound g.tags, refl)

pub closed_tag : (g : Setting) (s m c : ℕ) (entries : List ℕ) → symbol_at g.flat s ≡ TagSymbol m → c ≡ number_of g.bound g.tags (cut_at g.bound (one m)) → entry_at g entries s c ≤ 1 → ClosedAt g s entries
closed_tag g s m c entries e is l u size p step =
    only_at g s c entries u (cut_at g.bound (one m)) size is l (subst (λ y. StepAt g (table_of g entries) s y u size) e step)

tag_point : (k n m : ℕ) → m < n → IsPoint k n (cut_at k (one m))
tag_point k n m l = (
  λ t h. let z = one_past t h in omega arith,
  word_ext (cut_at k (one m)) (cut_at k (cut_at k (one m))) (λ t. omega arith),
)
  where
    one_past : (t : ℕ) → n ≤ t → one m t ≡ 0
    one_past t h = cond-false (nat_eq t m) 1 0 (ne_eqb t m (λ e. absurd (omega arith)))

pub step_tag : (g : Setting) (s m c : ℕ) (table : Table) → symbol_at g.flat s ≡ TagSymbol m → m < g.tags → c ≡ number_of g.bound g.tags (cut_at g.bound (one m)) → Step g table s (point_of g.bound g.tags c) 1
step_tag g s m c table e l is =
    subst (λ y. StepAt g table s y (point_of g.bound g.tags c) 1) (sym e)
    (ap (point_of g.bound g.tags) is ∙ number_point g.bound g.tags (cut_at g.bound (one m)) (tag_point g.bound g.tags m l), refl)

pub tag_small : (b : Board) (s m : ℕ) → IsBoard b → symbol_at (setting_of b).flat s ≡ TagSymbol m → (m < b.tags) × (m < 32)
tag_small b s m board e =
    let l = board.tags s m e in
    let f = few_tags b.k b.tags board.fits in
    (l, omega arith)

-- ---- one part

pub part_closed : (g : Setting) (s a : ℕ) (entries : List ℕ) → PartBefore g s a (points_in g.bound g.tags) entries → (u : Word) (size : ℕ) → IsPoint g.bound g.tags u → StepByOne g (table_of g entries) a u size → table_of g entries s u ≤ size
part_closed g s a entries before u size p step =
    let h = before (number_of g.bound g.tags u) (number_small g.bound g.tags u p) step.0 in
    let e = step.1 in
    omega arith

pub closed_sum : (g : Setting) (s a b : ℕ) (entries : List ℕ) → symbol_at g.flat s ≡ SumSymbol a b → PartBefore g s a (points_in g.bound g.tags) entries → PartBefore g s b (points_in g.bound g.tags) entries → ClosedAt g s entries
closed_sum g s a b entries e left right u size p step =
    ⊎_elim (part_closed g s a entries left u size p) (part_closed g s b entries right u size p)
    (subst (λ y. StepAt g (table_of g entries) s y u size) e step)

pub takes_left : (g : Setting) (s a b : ℕ) → symbol_at g.flat s ≡ SumSymbol a b → TakesPart g s a
takes_left g s a b e table u size h = subst (λ y. StepAt g table s y u size) (sym e) (inl h)

pub takes_right : (g : Setting) (s a b : ℕ) → symbol_at g.flat s ≡ SumSymbol a b → TakesPart g s b
takes_right g s a b e table u size h = subst (λ y. StepAt g table s y u size) (sym e) (inr h)

pub closed_lower : (g : Setting) (s k a : ℕ) (entries : List ℕ) → symbol_at g.flat s ≡ LowerSymbol k → a ≡ root_at g.flat k → PartBefore g s a (points_in g.bound g.tags) entries → ClosedAt g s entries
closed_lower g s k a entries e root before u size p step =
    part_closed g s a entries before u size p
    (subst (λ x. StepByOne g (table_of g entries) x u size) (sym root) (subst (λ y. StepAt g (table_of g entries) s y u size) e step))

pub takes_lower : (g : Setting) (s k a : ℕ) → symbol_at g.flat s ≡ LowerSymbol k → a ≡ root_at g.flat k → TakesPart g s a
takes_lower g s k a e root table u size h =
    subst (λ y. StepAt g table s y u size) (sym e) (subst (λ x. StepByOne g table x u size) root h)

-- ---- two parts

pairs_closed : (g : Setting) (s a b from : ℕ) (firsts entries : List ℕ) → WholeRows g s a b firsts (length firsts) entries → Lists (λ c. IsKnown g.limit (entry_at g entries a c)) from (points_in g.bound g.tags) firsts → (v w u : Word) (size : ℕ) → StepByTwo g (table_of g entries) a b v w u size → from ≤ number_of g.bound g.tags v → table_of g entries s u ≤ size
pairs_closed g s a b from firsts entries rows lf v w u size step l =
    let k = g.bound in
    let n = g.tags in
    let x = number_of k n v in
    let y = number_of k n w in
    let f = lf.all x l (number_small k n v step.0) step.2 in
    let pair : PairAt g s a b x y entries = subst (λ i. PairAt g s a b i y entries) f.2 (rows f.0 f.1 y (number_small k n w step.1)) in
    let less = pair step.2 step.3 in
    let sums : summed k n x y ≡ number_of k n u =
    ap (number_of k n) (ap₂ (λ i j. cut_at k (plus i j)) (number_point k n v step.0) (number_point k n w step.1) ∙ sym step.4) in
    let at : entry_at g entries s (summed k n x y) ≡ table_of g entries s u = ap (entry_at g entries s) sums in
    let is = step.5 in
    omega arith

-- where the second part has no tree, nothing is claimed
pub row_whole : (g : Setting) (s a b v : ℕ) (seconds entries : List ℕ) → Lists (λ c. IsKnown g.limit (entry_at g entries b c)) 0 (points_in g.bound g.tags) seconds → RowBefore g s a b v seconds (length seconds) entries → WholeRow g s a b v entries
row_whole g s a b v seconds entries ls row w l ka kb =
    let t = ls.all w (omega arith) l kb in
    subst (λ i. PairAt g s a b v i entries) t.2 (row t.0 t.1) ka kb

pub closed_product : (g : Setting) (s a b : ℕ) (firsts seconds entries : List ℕ) → symbol_at g.flat s ≡ ProdSymbol a b → RowsBefore g s a b firsts seconds (length firsts) entries → Lists (λ c. IsKnown g.limit (entry_at g entries a c)) 0 (points_in g.bound g.tags) firsts → Lists (λ c. IsKnown g.limit (entry_at g entries b c)) 0 (points_in g.bound g.tags) seconds → ClosedAt g s entries
closed_product g s a b firsts seconds entries e rows lf ls u size p step =
    let h = subst (λ y. StepAt g (table_of g entries) s y u size) e step in
    pairs_closed g s a b 0 firsts entries (λ i l. row_whole g s a b (get_or firsts i 0) seconds entries ls (rows i l)) lf h.0 h.1 u size h.2 (omega arith)

pub takes_product : (g : Setting) (s a b v : ℕ) → symbol_at g.flat s ≡ ProdSymbol a b → TakesParts g s a b v
takes_product g s a b v e table w u size h =
    subst (λ y. StepAt g table s y u size) (sym e) (point_of g.bound g.tags v, w, h)

pub closed_star : (g : Setting) (s a : ℕ) (firsts entries : List ℕ) → symbol_at g.flat s ≡ StarSymbol a → entry_at g entries s 0 ≤ 1 → WholeRows g s a s firsts (length firsts) entries → Lists (λ c. IsKnown g.limit (entry_at g entries a c)) 1 (points_in g.bound g.tags) firsts → ClosedAt g s entries
closed_star g s a firsts entries e one rows lf u size p step =
    ⊎_elim
    (λ h. only_at g s 0 entries u no_word size (sym (number_none g.bound g.tags)) one h)
    (λ h. pairs_closed g s a s 1 firsts entries rows lf h.0 h.1 u size h.2 (above h.0 h.2.0 h.3))
    (subst (λ y. StepAt g (table_of g entries) s y u size) e step)
  where
    above : (v : Word) → IsPoint g.bound g.tags v → (v ≡ no_word → ⊥) → 1 ≤ number_of g.bound g.tags v
    above v q d =
        ⊎_elim (λ l. l)
        (λ z. absurd (d (sym (number_point g.bound g.tags v q) ∙ ap (point_of g.bound g.tags) (let i : number_of g.bound g.tags v ≡ 0 = omega arith in i) ∙ point_none g.bound g.tags)))
        (cases_lt 0 (number_of g.bound g.tags v))

pub step_end : (g : Setting) (s a : ℕ) (table : Table) → symbol_at g.flat s ≡ StarSymbol a → Step g table s (point_of g.bound g.tags 0) 1
step_end g s a table e =
    subst (λ y. StepAt g table s y (point_of g.bound g.tags 0) 1) (sym e) (inl (point_none g.bound g.tags, refl))

pub takes_star : (g : Setting) (s a v : ℕ) → symbol_at g.flat s ≡ StarSymbol a → 1 ≤ v → v < points_in g.bound g.tags → TakesParts g s a s v
takes_star g s a v e l m table w u size h =
    subst (λ y. StepAt g table s y u size) (sym e) (inr (point_of g.bound g.tags v, w, h, some))
  where
    some : point_of g.bound g.tags v ≡ no_word → ⊥
    some z =
        let n = point_number g.bound g.tags v m in
        let i = ap (number_of g.bound g.tags) z in
        let j = number_none g.bound g.tags in
        absurd (omega arith)

-- ---- given points

pub closed_none_given : (g : Setting) (s j : ℕ) (entries : List ℕ) → symbol_at g.flat s ≡ GivenSymbol j → g.given j ≡ [] → ClosedAt g s entries
closed_none_given g s j entries e none u size p step =
    let h = subst (λ y. StepAt g (table_of g entries) s y u size) e step in
    absurd (subst (λ ws. MemberOf ws h.0.0) none h.0.1)

-- the points that are given are those of a grid
pub closed_given : (g : Setting) (s j : ℕ) (grid : Grid) (entries : List ℕ) → symbol_at g.flat s ≡ GivenSymbol j → g.given j ≡ points_of grid → (grid.k ≡ g.bound) × (grid.tags ≡ g.tags) → HeldBefore g s grid.held (points_in g.bound g.tags) entries → ClosedAt g s entries
closed_given g s j grid entries e given like before u size p step =
    let h = subst (λ y. StepAt g (table_of g entries) s y u size) e step in
    let w = h.0.0 in
    let has : HasPoint grid w = member_point grid w (subst (λ ws. MemberOf ws w) given h.0.1) in
    let point : IsPoint g.bound g.tags w = subst (λ x. IsPoint x g.tags w) like.0 (subst (λ x. IsPoint grid.k x w) like.1 has.0) in
    let held : get_or grid.held (number_of g.bound g.tags w) false ≡ true =
    subst (λ x. get_or grid.held (number_of x g.tags w) false ≡ true) like.0 (subst (λ x. get_or grid.held (number_of grid.k x w) false ≡ true) like.1 has.1) in
    let less = before (number_of g.bound g.tags w) (number_small g.bound g.tags w point) held in
    let same : u ≡ w = h.0.2 ∙ sym point.1 in
    let at : table_of g entries s w ≡ table_of g entries s u = ap (λ (x : Word). table_of g entries s x) (sym same) in
    let is = h.1 in
    omega arith

pub step_given : (g : Setting) (s j c : ℕ) (grid : Grid) (table : Table) → symbol_at g.flat s ≡ GivenSymbol j → g.given j ≡ points_of grid → (grid.k ≡ g.bound) × (grid.tags ≡ g.tags) → c < points_in g.bound g.tags → get_or grid.held c false ≡ true → Step g table s (point_of g.bound g.tags c) 1
step_given g s j c grid table e given like l held =
    let u = point_of g.bound g.tags c in
    let point = point_fits g.bound g.tags c in
    let there : get_or grid.held (number_of g.bound g.tags u) false ≡ true = subst (λ i. get_or grid.held i false ≡ true) (sym (point_number g.bound g.tags c l)) held in
    let has : HasPoint grid u = (
      subst (λ x. IsPoint x grid.tags u) (sym like.0) (subst (λ x. IsPoint g.bound x u) (sym like.1) point),
      subst (λ x. get_or grid.held (number_of x grid.tags u) false ≡ true) (sym like.0) (subst (λ x. get_or grid.held (number_of g.bound x u) false ≡ true) (sym like.1) there),
    ) in
    subst (λ y. StepAt g table s y u 1) (sym e)
    ((u, subst (λ ws. MemberOf ws u) (sym given) (point_member grid u has), point.1), refl)

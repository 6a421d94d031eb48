-- Points as numbers, and a table as one list of entries.
use Rattle.std.proofs.Common.{◌≡◌, ℕ, zero, suc, ◌+◌, ◌*◌, ◌/◌, ◌%◌, ◌<◌, ◌≤◌, inl, inr, ⊎_elim, refl, sym, ap, ap₂, ◌∙◌, subst, arith, List, length, get_or, set, suc-mul, mul-le-mul_right}
use Rattle.std.specs.Prelude.{nat_eq}
use Rattle.std.specs.List.{sum_by}
use Rattle.std.proofs.lemmas.List.Sums.{sum_by-set}
use Rattle.std.proofs.Math.Nat.{pow-zero, pow-suc, mod-lt, div-lt_iff_lt-mul}
use Rattle.std.proofs.lemmas.Nat.{div-mul-add, mod-mul-add, div-add-mod'}
use Rattle.std.proofs.lemmas.List.{get_or_past, get_or-set_same, get_or-set_other}
use Rattle.std.proofs.lemmas.Option.{slice_get_past}
use Rattle.std.proofs.lemmas.Bool.{cond_both, cases_lt, cases_eq, eq-eqb, cond-true, cond-false, ne_eqb}
use Rattle.pat_words_spec.specs.Words.{Word}
use Rattle.pat_words_spec.specs.Cuts.{cut_at}
use Rattle.pat_words_laws.proofs.WordLaws.{word_ext, count_eq}
use Rattle.pat_inclusion_spec.specs.bounds.CutSets.{IsPoint}
use Rattle.pat_inclusion_spec.specs.bounds.Symbols.{Symbol, NoSymbol, OneSymbol, TagSymbol, SumSymbol, ProdSymbol, StarSymbol, LowerSymbol, GivenSymbol, symbol_in, symbol_at, root_at}
use Rattle.pat_inclusion_spec.specs.bounds.Tables.{Setting, Table, StepByOne, StepByTwo, StepAt, Step, IsKnown, IsClosed, IsStepFrom, capped}
use Rattle.pat_inclusion_spec.specs.bounds.Numbers.{points_in, number_of, point_of, place_of, unknown, table_of, HasAllEntries, IsClosedBefore, IsClosedOver}

-- ---- numbers

pub number_below : (k n : ℕ) (u : Word) → ((t : ℕ) → u t ≤ k) → number_of k n u < points_in k n
number_below k zero u h = let power : points_in k 0 ≡ 1 = pow-zero (k + 1) in omega arith
number_below k (suc n) u h =
    let less = number_below k n u h in
    let small = h n in
    let grown : suc (number_of k n u) * (k + 1) ≤ points_in k n * (k + 1) = mul-le-mul_right (k + 1) less in
    let one_more = suc-mul (number_of k n u) (k + 1) in
    let power = pow-suc (k + 1) n in
    omega arith

digit_past : (k n c t : ℕ) → n ≤ t → point_of k n c t ≡ 0
digit_past k zero c t l = refl
digit_past k (suc n) c t l =
    cond-false (nat_eq t n) (c % (k + 1)) (point_of k n (c / (k + 1)) t) (ne_eqb t n (λ e. absurd (omega arith)))
    ∙ digit_past k n (c / (k + 1)) t (omega arith)

digit_here : (k n : ℕ) (u : Word) → ((t : ℕ) → u t ≤ k) → (t : ℕ) → t < n → point_of k n (number_of k n u) t ≡ u t
digit_here k zero u h t l = absurd (omega arith)
digit_here k (suc n) u h t l =
    let small = h n in
    let a = number_of k n u in
    let c = a * (k + 1) + u n in
    ⊎_elim
    (λ e.
    cond-true (nat_eq t n) (c % (k + 1)) (point_of k n (c / (k + 1)) t) (eq-eqb t n e)
    ∙ mod-mul-add a (k + 1) (u n) (omega arith)
    ∙ ap u (sym e))
    (λ d.
    cond-false (nat_eq t n) (c % (k + 1)) (point_of k n (c / (k + 1)) t) (ne_eqb t n d)
    ∙ ap (λ x. point_of k n x t) (div-mul-add a (k + 1) (u n) (omega arith))
    ∙ digit_here k n u h t (omega arith))
    (cases_eq t n)

pub point_counts : (k n : ℕ) (u : Word) → IsPoint k n u → (t : ℕ) → u t ≤ k
point_counts k n u p t = let e = count_eq u (cut_at k u) p.1 t in omega arith

pub number_point : (k n : ℕ) (u : Word) → IsPoint k n u → point_of k n (number_of k n u) ≡ u
number_point k n u p =
    word_ext (point_of k n (number_of k n u)) u
    (λ t. ⊎_elim
    (λ l. digit_here k n u (point_counts k n u p) t l)
    (λ l. digit_past k n (number_of k n u) t l ∙ sym (p.0 t l))
    (cases_lt t n))

pub number_small : (k n : ℕ) (u : Word) → IsPoint k n u → number_of k n u < points_in k n
number_small k n u p = number_below k n u (point_counts k n u p)

digit_small : (k n c t : ℕ) → point_of k n c t ≤ k
digit_small k zero c t = omega arith
digit_small k (suc n) c t =
    cond_both (nat_eq t n) (c % (k + 1)) (point_of k n (c / (k + 1)) t) (λ x. x ≤ k)
    (λ _. let l = mod-lt c {m = k + 1} (omega arith) in omega arith)
    (λ _. digit_small k n (c / (k + 1)) t)

pub point_fits : (k n c : ℕ) → IsPoint k n (point_of k n c)
point_fits k n c = (
  λ t l. digit_past k n c t l,
  word_ext (point_of k n c) (cut_at k (point_of k n c)) (λ t. let l = digit_small k n c t in omega arith),
)

number_same : (k n : ℕ) (u v : Word) → ((t : ℕ) → t < n → u t ≡ v t) → number_of k n u ≡ number_of k n v
number_same k zero u v h = refl
number_same k (suc n) u v h =
    ap₂ (λ x y. x * (k + 1) + y) (number_same k n u v (λ t l. h t (omega arith))) (h n (omega arith))

pub point_number : (k n c : ℕ) → c < points_in k n → number_of k n (point_of k n c) ≡ c
point_number k zero c l = let power : points_in k 0 ≡ 1 = pow-zero (k + 1) in omega arith
point_number k (suc n) c l =
    let power = pow-suc (k + 1) n in
    let less : c < points_in k n * (k + 1) = omega arith in
    let part : c / (k + 1) < points_in k n = (div-lt_iff_lt-mul {k = k + 1} {x = c} {y = points_in k n} (omega arith)).1 less in
    ap₂ (λ x y. x * (k + 1) + y)
    (number_same k n (point_of k (suc n) c) (point_of k n (c / (k + 1)))
    (λ t m. cond-false (nat_eq t n) (c % (k + 1)) (point_of k n (c / (k + 1)) t) (ne_eqb t n (λ e. absurd (omega arith))))
    ∙ point_number k n (c / (k + 1)) part)
    (cond-true (nat_eq n n) (c % (k + 1)) (point_of k n (c / (k + 1)) n) (eq-eqb n n refl))
    ∙ div-add-mod' c (k + 1)

-- ---- places

pub place_within : (g : Setting) (entries : List ℕ) (s : ℕ) (u : Word) → HasAllEntries g entries → IsPoint g.bound g.tags u → s < length g.flat.symbols → place_of g s u < length entries
place_within g entries s u all p l =
    let small = number_small g.bound g.tags u p in
    let grown = mul-le-mul_right (points_in g.bound g.tags) l in
    let one_more = suc-mul s (points_in g.bound g.tags) in
    omega arith

pub place_past : (g : Setting) (entries : List ℕ) (s : ℕ) (u : Word) → HasAllEntries g entries → length g.flat.symbols ≤ s → table_of g entries s u ≡ unknown g.limit
place_past g entries s u all l =
    let grown = mul-le-mul_right (points_in g.bound g.tags) l in
    get_or_past entries (place_of g s u) (unknown g.limit) (omega arith)

pub place_apart : (g : Setting) (s t : ℕ) (u v : Word) → IsPoint g.bound g.tags u → IsPoint g.bound g.tags v → place_of g s u ≡ place_of g t v → (s ≡ t) × (u ≡ v)
place_apart g s t u v p q e =
    let count = points_in g.bound g.tags in
    let a = number_of g.bound g.tags u in
    let b = number_of g.bound g.tags v in
    let la = number_small g.bound g.tags u p in
    let lb = number_small g.bound g.tags v q in
    let numbers : a ≡ b = sym (mod-mul-add s count a la) ∙ ap (λ x. x % count) e ∙ mod-mul-add t count b lb in (
      sym (div-mul-add s count a la) ∙ ap (λ x. x / count) e ∙ div-mul-add t count b lb,
      sym (number_point g.bound g.tags u p) ∙ ap (point_of g.bound g.tags) numbers ∙ number_point g.bound g.tags v q,
    )

-- ---- writes

pub write_steps : (g : Setting) (entries : List ℕ) (s : ℕ) (u : Word) (size : ℕ) → IsPoint g.bound g.tags u → place_of g s u < length entries → Step g (table_of g entries) s u size → IsStepFrom g (table_of g entries) (table_of g (set entries (place_of g s u) size))
write_steps g entries s u size p within step t v q =
    let i = place_of g s u in
    let j = place_of g t v in
    let old = table_of g entries in
    let new = table_of g (set entries i size) in
    ⊎_elim
    (λ e.
    let same = place_apart g t s v u q p e in
    let here : size ≡ new t v =
    sym (ap (λ x. get_or (set entries i size) x (unknown g.limit)) e ∙ get_or-set_same entries i size (unknown g.limit) within) in
    inr (subst (Step g old t v) here
    (subst (λ (x : Word). Step g old t x size) (sym same.1) (subst (λ x. Step g old x u size) (sym same.0) step))))
    (λ d. inl (get_or-set_other entries i j size (unknown g.limit) d))
    (cases_eq j i)

pub write_falls : (entries : List ℕ) (i size : ℕ) → i < length entries → size < get_or entries i 0 → sum_by (λ x. x) (set entries i size) < sum_by (λ x. x) entries
write_falls entries i size l h = let e = sum_by-set (λ x. x) entries i size 0 l in omega arith

-- ---- a pass

past_nothing : (g : Setting) (s : ℕ) → length g.flat.symbols ≤ s → symbol_at g.flat s ≡ NoSymbol
past_nothing g s l = ap symbol_in (slice_get_past g.flat.symbols s l)

pub pass_closed : (g : Setting) (table : Table) → IsClosedBefore g table (length g.flat.symbols) → IsClosed g table
pass_closed g table closed s u size p step =
    ⊎_elim
    (λ l. closed s u size l p step)
    (λ l. absurd (subst (λ y. StepAt g table s y u size) (past_nothing g s l) step))
    (cases_lt s (length g.flat.symbols))

-- ---- a work list

module _ (g : Setting) (passed table : Table) (same : (s : ℕ) (u : Word) → IsPoint g.bound g.tags u → passed s u ≡ table s u) where
  one_same_step : (s : ℕ) (u : Word) (size : ℕ) → IsPoint g.bound g.tags u → StepByOne g table s u size → StepByOne g passed s u size
  one_same_step s u size p h =
      subst (λ x. IsKnown g.limit x × (size ≡ capped g.limit (suc x))) (sym (same s u p)) h

  two_same_step : (s t : ℕ) (v w u : Word) (size : ℕ) → StepByTwo g table s t v w u size → StepByTwo g passed s t v w u size
  two_same_step s t v w u size h = (
    h.0,
    h.1,
    subst (IsKnown g.limit) (sym (same s v h.0)) h.2,
    subst (IsKnown g.limit) (sym (same t w h.1)) h.3,
    h.4,
    h.5 ∙ ap₂ (λ x y. capped g.limit (suc (x + y))) (sym (same s v h.0)) (sym (same t w h.1)),
  )

  same_step : (s : ℕ) (y : Symbol) (u : Word) (size : ℕ) → IsPoint g.bound g.tags u → StepAt g table s y u size → StepAt g passed s y u size
  same_step s NoSymbol u size p h = h
  same_step s OneSymbol u size p h = h
  same_step s (TagSymbol m) u size p h = h
  same_step s (SumSymbol a b) u size p h =
      ⊎_elim (λ k. inl (one_same_step a u size p k)) (λ k. inr (one_same_step b u size p k)) h
  same_step s (ProdSymbol a b) u size p h = (h.0, h.1, two_same_step a b h.0 h.1 u size h.2)
  same_step s (StarSymbol a) u size p h =
      ⊎_elim (λ k. inl k) (λ k. inr (k.0, k.1, two_same_step a s k.0 k.1 u size k.2, k.3)) h
  same_step s (LowerSymbol k) u size p h = one_same_step (root_at g.flat k) u size p h
  same_step s (GivenSymbol k) u size p h = h

  pub passed_closed_in : IsClosedOver g passed table → IsClosed g table
  passed_closed_in closed s u size p step = closed s u size p (same_step s (symbol_at g.flat s) u size p step)

pub passed_closed : (g : Setting) (passed table : Table) → IsClosedOver g passed table → ((s : ℕ) (u : Word) → IsPoint g.bound g.tags u → passed s u ≡ table s u) → IsClosed g table
passed_closed g passed table closed same = passed_closed_in g passed table same closed

-- There is a table that is done: while some step gives less than the table has, it is written, and the sum of the entries falls.
use Rattle.std.proofs.Common.{◌≡◌, ℕ, zero, suc, ◌+◌, ◌*◌, ◌≤◌, ◌<◌, Bool, true, false, List, [], ◌∷◌, length, get_or, set, ◌⊎◌, inl, inr, ⊎_elim, refl, sym, ap, ◌∙◌, subst, arith}
use Rattle.std.specs.List.{sum_by}
use Rattle.std.proofs.lemmas.Bool.{cases_lt}
use Rattle.std.proofs.lemmas.List.{length-set, get_or_default}
use Rattle.pat_words_spec.specs.Words.{Word, no_word, one, plus}
use Rattle.pat_words_spec.specs.Cuts.{cut_at, CutOf}
use Rattle.pat_words_spec.specs.Tags.{HasTagsBelow}
use Rattle.pat_words_spec.specs.Languages.{MemberOf}
use Rattle.pat_inclusion_spec.specs.Counts.{same_below}
use Rattle.pat_inclusion_laws.proofs.Spans.{none_below, plus_below, same_words}
use Rattle.pat_inclusion_laws.proofs.Forms.{one_below}
use Rattle.pat_inclusion_laws.proofs.Exact.{same_from}
use Rattle.pat_inclusion_laws.proofs.CutLaws.{cut_below}
use Rattle.pat_inclusion_spec.specs.bounds.CutSets.{IsPoint}
use Rattle.pat_inclusion_spec.specs.bounds.Symbols.{Symbol, NoSymbol, OneSymbol, TagSymbol, SumSymbol, ProdSymbol, StarSymbol, LowerSymbol, GivenSymbol, symbol_at, root_at}
use Rattle.pat_inclusion_spec.specs.bounds.Tables.{Table, Setting, capped, IsKnown, StepByOne, StepByTwo, StepAt, Step, IsSound, IsFit, IsDone}
use Rattle.pat_inclusion_spec.specs.bounds.Numbers.{points_in, number_of, point_of, place_of, unknown, table_of, HasAllEntries, IsClosedBefore}
use Rattle.pat_inclusion_laws.proofs.TableLaws.{start_sound, steps_sound}
use Rattle.pat_inclusion_laws.proofs.NumberLaws.{number_small, number_point, point_fits, place_within, write_steps, write_falls, pass_closed}

-- ---- either no size is less than the entry, or one is

abbrev Respected : (ℕ → Type 0) → ℕ → Type 0
Respected D e = (size : ℕ) → D size → e ≤ size

abbrev Lowered : (ℕ → Type 0) → ℕ → Type 0
Lowered D e = (size : ℕ) × D size × (size < e)

abbrev Told : (ℕ → Type 0) → ℕ → Type 0
Told D e = Respected D e ⊎ Lowered D e

just : (e z : ℕ) → Told (λ size. size ≡ z) e
just e z = ⊎_elim (λ l. inr (z, refl, l)) (λ l. inl (λ size h. omega arith)) (cases_lt z e)

nothing : (D : ℕ → Type 0) (e : ℕ) → ((size : ℕ) → D size → ⊥) → Told D e
nothing D e never = inl (λ size h. absurd (never size h))

told_either : (D E : ℕ → Type 0) (e : ℕ) → Told D e → Told E e → Told (λ size. D size ⊎ E size) e
told_either D E e p q =
    ⊎_elim
    (λ a. ⊎_elim
    (λ b. inl (λ size h. ⊎_elim (λ d. a size d) (λ f. b size f) h))
    (λ l. inr (l.0, inr l.1, l.2))
    q)
    (λ l. inr (l.0, inl l.1, l.2))
    p

told_when : (A : Type 0) (D : ℕ → Type 0) (e : ℕ) → A ⊎ (A → ⊥) → Told D e → Told (λ size. A × D size) e
told_when A D e dec p =
    ⊎_elim
    (λ a. ⊎_elim (λ r. inl (λ size h. r size h.1)) (λ l. inr (l.0, (a, l.1), l.2)) p)
    (λ no. inl (λ size h. absurd (no h.0)))
    dec

told_as : (D E : ℕ → Type 0) (e : ℕ) → ((size : ℕ) → D size → E size) → ((size : ℕ) → E size → D size) → Told D e → Told E e
told_as D E e to from p = ⊎_elim (λ r. inl (λ size h. r size (from size h))) (λ l. inr (l.0, to l.0 l.1, l.2)) p

-- one of the numbers below m has P, or all have Q
pub sought : (m : ℕ) (P Q : ℕ → Type 0) → ((i : ℕ) → i < m → Q i ⊎ P i) → ((i : ℕ) → i < m → Q i) ⊎ ((i : ℕ) × (i < m) × P i)
sought zero P Q each = inl (λ i l. absurd (omega arith))
sought (suc m) P Q each =
    ⊎_elim
    (λ before. ⊎_elim
    (λ q. inl (λ i l. ⊎_elim (λ less. before i less) (λ ge. let e : m ≡ i = omega arith in subst Q e q) (cases_lt i m)))
    (λ p. inr (m, omega arith, p))
    (each m (omega arith)))
    (λ f. let l = f.1 in inr (f.0, omega arith, f.2))
    (sought m P Q (λ i l. each i (omega arith)))

told_some : (m : ℕ) (D : ℕ → ℕ → Type 0) (e : ℕ) → ((i : ℕ) → i < m → Told (D i) e) → Told (λ size. (i : ℕ) × (i < m) × D i size) e
told_some m D e each =
    ⊎_elim
    (λ r. inl (λ size h. r h.0 h.1 size h.2))
    (λ f. let l = f.2 in inr (l.0, (f.0, f.1, l.1), l.2))
    (sought m (λ i. Lowered (D i) e) (λ i. Respected (D i) e) each)

pub dec_known : (limit x : ℕ) → IsKnown limit x ⊎ (IsKnown limit x → ⊥)
dec_known limit x = ⊎_elim (λ l. inr (λ k. omega arith)) (λ l. inl l) (cases_lt (suc limit) x)

dec_same : (n : ℕ) (u v : Word) → HasTagsBelow n u → HasTagsBelow n v → (u ≡ v) ⊎ (u ≡ v → ⊥)
dec_same n u v hu hv = go (same_below n u v) refl
  where
    go : (p : Bool) → same_below n u v ≡ p → (u ≡ v) ⊎ (u ≡ v → ⊥)
    go true e = inl (same_words n u v hu hv e)
    go false e = inr (λ z. let t = same_from n u v z in cc)

pub dec_not : (A : Type 0) → A ⊎ (A → ⊥) → (A → ⊥) ⊎ ((A → ⊥) → ⊥)
dec_not A dec = ⊎_elim (λ a. inr (λ f. f a)) (λ no. inl no) dec

dec_cut : (k n : ℕ) (u : Word) → HasTagsBelow n u → (vs : List Word) → ((w : Word) → MemberOf vs w → HasTagsBelow n w) → CutOf k (MemberOf vs) u ⊎ (CutOf k (MemberOf vs) u → ⊥)
dec_cut k n u hu [] below = inr (λ h. h.1)
dec_cut k n u hu (v ∷ vs) below =
    ⊎_elim
    (λ e. inl (v, inl refl, e))
    (λ no. ⊎_elim
    (λ h. inl (h.0, inr h.1, h.2))
    (λ none. inr (λ h. ⊎_elim (λ q. no (h.2 ∙ ap (cut_at k) (sym q))) (λ m. none (h.0, m, h.2)) h.1))
    (dec_cut k n u hu vs (λ w m. below w (inr m))))
    (dec_same n u (cut_at k v) hu (cut_below n k v (below v (inl refl))))

-- ---- steps

module _ (g : Setting) (fit : IsFit g) (table : Table) where
  told_one : (a : ℕ) (u : Word) (e : ℕ) → Told (StepByOne g table a u) e
  told_one a u e =
      told_when (IsKnown g.limit (table a u)) (λ size. size ≡ capped g.limit (suc (table a u))) e
      (dec_known g.limit (table a u))
      (just e (capped g.limit (suc (table a u))))

  abbrev Two : ℕ → ℕ → Word → Word → Word → ℕ → Type 0
  Two a b v w u size =
      IsKnown g.limit (table a v)
      × (IsKnown g.limit (table b w)
      × ((u ≡ cut_at g.bound (plus v w)) × (size ≡ capped g.limit (suc (table a v + table b w)))))

  told_two : (a b : ℕ) (v w u : Word) (e : ℕ) → IsPoint g.bound g.tags u → IsPoint g.bound g.tags v → IsPoint g.bound g.tags w → Told (StepByTwo g table a b v w u) e
  told_two a b v w u e pu pv pw =
      told_as (Two a b v w u) (StepByTwo g table a b v w u) e
      (λ size h. (pv, pw, h.0, h.1.0, h.1.1.0, h.1.1.1))
      (λ size h. (h.2, (h.3, (h.4, h.5))))
      (told_when (IsKnown g.limit (table a v)) (λ size. IsKnown g.limit (table b w) × ((u ≡ cut_at g.bound (plus v w)) × (size ≡ capped g.limit (suc (table a v + table b w))))) e
      (dec_known g.limit (table a v))
      (told_when (IsKnown g.limit (table b w)) (λ size. (u ≡ cut_at g.bound (plus v w)) × (size ≡ capped g.limit (suc (table a v + table b w)))) e
      (dec_known g.limit (table b w))
      (told_when (u ≡ cut_at g.bound (plus v w)) (λ size. size ≡ capped g.limit (suc (table a v + table b w))) e
      (dec_same g.tags u (cut_at g.bound (plus v w)) pu.0 (cut_below g.tags g.bound (plus v w) (plus_below g.tags v w pv.0 pw.0)))
      (just e (capped g.limit (suc (table a v + table b w)))))))

  -- by any two points
  told_points : (D : Word → Word → ℕ → Type 0) (e : ℕ) → ((v w : Word) → IsPoint g.bound g.tags v → IsPoint g.bound g.tags w → Told (D v w) e) → ((v w : Word) (size : ℕ) → D v w size → IsPoint g.bound g.tags v × IsPoint g.bound g.tags w) → Told (λ size. (v w : Word) × D v w size) e
  told_points D e each points =
      told_as
      (λ size. (i : ℕ) × (i < points_in g.bound g.tags) × ((j : ℕ) × (j < points_in g.bound g.tags) × D (point_of g.bound g.tags i) (point_of g.bound g.tags j) size))
      (λ size. (v w : Word) × D v w size)
      e
      (λ size h. let r = h.2 in (point_of g.bound g.tags h.0, point_of g.bound g.tags r.0, r.2))
      (λ size h.
      let p = points h.0 h.1 size h.2 in (
        number_of g.bound g.tags h.0,
        number_small g.bound g.tags h.0 p.0,
        (
          number_of g.bound g.tags h.1,
          number_small g.bound g.tags h.1 p.1,
          subst (λ (x : Word). D x (point_of g.bound g.tags (number_of g.bound g.tags h.1)) size) (sym (number_point g.bound g.tags h.0 p.0))
              (subst (λ (x : Word). D h.0 x size) (sym (number_point g.bound g.tags h.1 p.1)) h.2),
        ),
      ))
      (told_some (points_in g.bound g.tags) (λ i size. (j : ℕ) × (j < points_in g.bound g.tags) × D (point_of g.bound g.tags i) (point_of g.bound g.tags j) size) e
      (λ i l. told_some (points_in g.bound g.tags) (λ j size. D (point_of g.bound g.tags i) (point_of g.bound g.tags j) size) e
      (λ j m. each (point_of g.bound g.tags i) (point_of g.bound g.tags j) (point_fits g.bound g.tags i) (point_fits g.bound g.tags j))))

  told_step : (s : ℕ) (y : Symbol) (u : Word) (e : ℕ) → symbol_at g.flat s ≡ y → IsPoint g.bound g.tags u → Told (StepAt g table s y u) e
  told_step s NoSymbol u e at p = nothing (StepAt g table s NoSymbol u) e (λ size h. h)
  told_step s OneSymbol u e at p =
      told_when (u ≡ no_word) (λ size. size ≡ 1) e (dec_same g.tags u no_word p.0 (none_below g.tags)) (just e 1)
  told_step s (TagSymbol m) u e at p =
      told_when (u ≡ cut_at g.bound (one m)) (λ size. size ≡ 1) e
      (dec_same g.tags u (cut_at g.bound (one m)) p.0 (cut_below g.tags g.bound (one m) (one_below g.tags m (fit.tags s m at))))
      (just e 1)
  told_step s (SumSymbol a b) u e at p =
      told_either (StepByOne g table a u) (StepByOne g table b u) e (told_one a u e) (told_one b u e)
  told_step s (ProdSymbol a b) u e at p =
      told_points (λ v w. StepByTwo g table a b v w u) e (λ v w pv pw. told_two a b v w u e p pv pw) (λ v w size h. (h.0, h.1))
  told_step s (StarSymbol a) u e at p =
      told_either (λ size. (u ≡ no_word) × (size ≡ 1)) (λ size. (v w : Word) × StepByTwo g table a s v w u size × (v ≡ no_word → ⊥)) e
      (told_when (u ≡ no_word) (λ size. size ≡ 1) e (dec_same g.tags u no_word p.0 (none_below g.tags)) (just e 1))
      (told_as
      (λ size. (v w : Word) × ((v ≡ no_word → ⊥) × StepByTwo g table a s v w u size))
      (λ size. (v w : Word) × StepByTwo g table a s v w u size × (v ≡ no_word → ⊥))
      e
      (λ size h. (h.0, h.1, h.2.1, h.2.0))
      (λ size h. (h.0, h.1, (h.3, h.2)))
      (told_points (λ v w size. (v ≡ no_word → ⊥) × StepByTwo g table a s v w u size) e
      (λ v w pv pw. told_when (v ≡ no_word → ⊥) (StepByTwo g table a s v w u) e
      (dec_not (v ≡ no_word) (dec_same g.tags v no_word pv.0 (none_below g.tags)))
      (told_two a s v w u e p pv pw))
      (λ v w size h. (h.1.0, h.1.1))))
  told_step s (LowerSymbol k) u e at p = told_one (root_at g.flat k) u e
  told_step s (GivenSymbol k) u e at p =
      told_when (CutOf g.bound (MemberOf (g.given k)) u) (λ size. size ≡ 1) e (dec_cut g.bound g.tags u p.0 (g.given k) (fit.given k)) (just e 1)

  abbrev LowStep : ℕ → Type 0
  LowStep s = (u : Word) × IsPoint g.bound g.tags u × Lowered (Step g table s u) (table s u)

  -- no step of a symbol that is there gives less than the table has, or one does
  next_step : IsClosedBefore g table (length g.flat.symbols) ⊎ ((s : ℕ) × (s < length g.flat.symbols) × LowStep s)
  next_step =
      ⊎_elim
      (λ all. inl (λ s u size l p h. all s l u p size h))
      (λ f. inr f)
      (sought (length g.flat.symbols) LowStep (λ s. (u : Word) → IsPoint g.bound g.tags u → Respected (Step g table s u) (table s u))
      (λ s l. at_symbol s))
    where
      at_symbol : (s : ℕ) → ((u : Word) → IsPoint g.bound g.tags u → Respected (Step g table s u) (table s u)) ⊎ LowStep s
      at_symbol s =
          ⊎_elim
          (λ all. inl (λ u p. subst (λ (x : Word). Respected (Step g table s x) (table s x)) (number_point g.bound g.tags u p) (all (number_of g.bound g.tags u) (number_small g.bound g.tags u p))))
          (λ f. inr (point_of g.bound g.tags f.0, point_fits g.bound g.tags f.0, f.2))
          (sought (points_in g.bound g.tags)
          (λ c. Lowered (Step g table s (point_of g.bound g.tags c)) (table s (point_of g.bound g.tags c)))
          (λ c. Respected (Step g table s (point_of g.bound g.tags c)) (table s (point_of g.bound g.tags c)))
          (λ c l. told_step s (symbol_at g.flat s) (point_of g.bound g.tags c) (table s (point_of g.bound g.tags c)) refl (point_fits g.bound g.tags c)))

-- ---- the loop

abbrev filled : ℕ → ℕ → List ℕ
filled zero x = []
filled (suc m) x = x ∷ filled m x

filled_length : (m x : ℕ) → length (filled m x) ≡ m
filled_length zero x = refl
filled_length (suc m) x = ap suc (filled_length m x)

filled_get : (m x i : ℕ) → get_or (filled m x) i x ≡ x
filled_get zero x i = refl
filled_get (suc m) x zero = refl
filled_get (suc m) x (suc i) = filled_get m x i

abbrev pub Done : Setting → Type 0
Done g = (entries : List ℕ) × HasAllEntries g entries × IsDone g (table_of g entries)

loop : (g : Setting) → IsFit g → (m : ℕ) (entries : List ℕ) → sum_by (λ x. x) entries < m → HasAllEntries g entries → IsSound g (table_of g entries) → Done g
loop g fit zero entries less all sound = absurd (omega arith)
loop g fit (suc m) entries less all sound =
    ⊎_elim
    (λ closed. (entries, all, record { fit = fit; closed = pass_closed g (table_of g entries) closed; sound = sound }))
    (λ f.
    let q = f.2 in
    let l = q.2 in
    let i = place_of g f.0 q.0 in
    let within = place_within g entries f.0 q.0 all q.1 f.1 in
    let new = set entries i l.0 in
    let low : l.0 < get_or entries i 0 = subst (λ x. l.0 < x) (get_or_default entries i (unknown g.limit) 0 within) l.2 in
    let falls = write_falls entries i l.0 within low in
    loop g fit m new (omega arith) (length-set entries i l.0 ∙ all)
    (steps_sound g (table_of g entries) (table_of g new) sound (write_steps g entries f.0 q.0 l.0 q.1 within l.1)))
    (next_step g fit (table_of g entries))

pub done_exists : (g : Setting) → IsFit g → Done g
done_exists g fit =
    let m = length g.flat.symbols * points_in g.bound g.tags in
    let start = filled m (unknown g.limit) in
    loop g fit (suc (sum_by (λ x. x) start)) start (omega arith) (filled_length m (unknown g.limit))
    (start_sound g (table_of g start) (λ s u p k. let e = filled_get m (unknown g.limit) (place_of g s u) in omega arith))

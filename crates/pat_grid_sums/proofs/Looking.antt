-- Which symbols are closed after a look, and after a pass.
use Rattle.std.proofs.Common.{◌≡◌, ℕ, suc, ◌+◌, ◌-◌, ◌/◌, ◌%◌, ◌<◌, ◌≤◌, ◌⊎◌, inl, inr, ⊎_elim, Bool, true, false, List, [], ◌∷◌, ◌++◌, replicate, length, length-set, get_or, set, refl, sym, ap, ap₂, ◌∙◌, subst, arith}
use Rattle.std.specs.Int.{bit_at}
use Rattle.std.proofs.lemmas.Bool.{cases_lt, cases_eq}
use Rattle.std.proofs.lemmas.Nat.Bits.{bit_at-lt}
use Rattle.std.proofs.lemmas.List.{get_or-set_same, get_or-set_other, get_or_append_left, get_or_push, get_or_past, length_push, length-replicate, length-map}
use Rattle.pat_words_spec.specs.Words.{Word}
use Rattle.pat_inclusion_spec.specs.bounds.CutSets.{IsPoint}
use Rattle.pat_inclusion_spec.specs.bounds.Symbols.{Symbol, NoSymbol, OneSymbol, TagSymbol, SumSymbol, ProdSymbol, StarSymbol, LowerSymbol, GivenSymbol, symbol_at, root_at}
use Rattle.pat_inclusion_spec.specs.bounds.Tables.{Setting, Table, IsKnown, IsSound, Step, StepAt, StepByOne, StepByTwo, capped}
use Rattle.pat_inclusion_spec.specs.bounds.Numbers.{number_of}
use Rattle.pat_inclusion_laws.proofs.NumberLaws.{pass_closed}
use Rattle.pat_inclusion_laws.proofs.TableLaws.{start_sound, steps_sound}
use Rattle.pat_grid_points.proofs.Digits.{zero_at}
use Rattle.pat_grid_points.specs.symbols.Views.{symbol_view}
use Rattle.pat_grid_sums.specs.declared.system.System.{System}
use Rattle.pat_grid_sums.specs.Sets.{In}
use Rattle.pat_grid_sums.specs.Systems.{setting_in, IsPartOf, IsPart, set_at, table_in, AreSets, IsClosedAt, IsGrown, Stands, Looked, Passed, NoPoints, IsSettled}
use Rattle.pat_grid_sums.proofs.Putting.{none_in}

-- ---- a step from a table that differs at no part

module _ (g : Setting) (old new : Table) (s t : ℕ) (same : (a : ℕ) (u : Word) → (a ≡ s → ⊥) → IsPoint g.bound g.tags u → new a u ≡ old a u) where
  one_back : (a : ℕ) (u : Word) (size : ℕ) → (a ≡ s → ⊥) → IsPoint g.bound g.tags u → StepByOne g new a u size → StepByOne g old a u size
  one_back a u size n p h = subst (λ i. IsKnown g.limit i × (size ≡ capped g.limit (suc i))) (same a u n p) h

  two_back : (a b : ℕ) (v w u : Word) (size : ℕ) → (a ≡ s → ⊥) → (b ≡ s → ⊥) → StepByTwo g new a b v w u size → StepByTwo g old a b v w u size
  two_back a b v w u size na nb h = (
    h.0,
    h.1,
    subst (IsKnown g.limit) (same a v na h.0) h.2,
    subst (IsKnown g.limit) (same b w nb h.1) h.3,
    h.4,
    h.5 ∙ ap₂ (λ i j. capped g.limit (suc (i + j))) (same a v na h.0) (same b w nb h.1),
  )

  step_back : (k : Symbol) (u : Word) (size : ℕ) → (IsPartOf g.flat t k s → ⊥) → IsPoint g.bound g.tags u → StepAt g new t k u size → StepAt g old t k u size
  step_back NoSymbol u size n p h = h
  step_back OneSymbol u size n p h = h
  step_back (TagSymbol tag) u size n p h = h
  step_back (SumSymbol a b) u size n p h =
      ⊎_elim (λ k. inl (one_back a u size (λ e. n (inl e)) p k)) (λ k. inr (one_back b u size (λ e. n (inr e)) p k)) h
  step_back (ProdSymbol a b) u size n p h =
      (h.0, h.1, two_back a b h.0 h.1 u size (λ e. n (inl e)) (λ e. n (inr e)) h.2)
  step_back (StarSymbol a) u size n p h =
      ⊎_elim (λ k. inl k) (λ k. inr (k.0, k.1, two_back a t k.0 k.1 u size (λ e. n (inl e)) (λ e. n (inr e)) k.2, k.3)) h
  step_back (LowerSymbol k) u size n p h = one_back (root_at g.flat k) u size n p h
  step_back (GivenSymbol k) u size n p h = h

-- a step gives no less than 1
some_size : (g : Setting) (table : Table) (s : ℕ) (k : Symbol) (u : Word) (size : ℕ) → StepAt g table s k u size → 1 ≤ size
some_size g table s NoSymbol u size h = absurd h
some_size g table s OneSymbol u size h = let e = h.1 in omega arith
some_size g table s (TagSymbol m) u size h = let e = h.1 in omega arith
some_size g table s (SumSymbol a b) u size h = ⊎_elim (λ k. let e = k.1 in omega arith) (λ k. let e = k.1 in omega arith) h
some_size g table s (ProdSymbol a b) u size h = let e = h.2.5 in omega arith
some_size g table s (StarSymbol a) u size h = ⊎_elim (λ k. let e = k.1 in omega arith) (λ k. let e = k.2.5 in omega arith) h
some_size g table s (LowerSymbol k) u size h = let e = h.1 in omega arith
some_size g table s (GivenSymbol k) u size h = let e = h.1 in omega arith

-- ---- a set has grown

module _ (y : System) (width count n s : ℕ) (sets : List (List ℕ)) (words : List ℕ) (are : AreSets n count sets) (there : s < n) (grown : IsGrown (setting_in y) width count sets s words) where
  abbrev g : Setting
  g = setting_in y

  abbrev num : Word → ℕ
  num u = number_of y.k y.tags u

  abbrev T : Table
  T = table_in g width sets

  abbrev N : Table
  N = table_in g width (set sets s words)

  others : (a : ℕ) (u : Word) → (a ≡ s → ⊥) → IsPoint y.k y.tags u → N a u ≡ T a u
  others a u d p = ap (λ ws. 2 - bit_at (get_or ws (num u / width) 0) (num u % width)) (get_or-set_other sets s a words [] d)

  own : (u : Word) → N s u ≡ 2 - bit_at (get_or words (num u / width) 0) (num u % width)
  own u = ap (λ ws. 2 - bit_at (get_or ws (num u / width) 0) (num u % width)) (get_or-set_same sets s words [] (let e = are.as_many in omega arith))

  -- where a step covers the point, nothing less than the table's entry is given
  covered : (u : Word) (size : ℕ) → IsPoint y.k y.tags u → Step g T s u size → (1 ≤ size) × (bit_at (get_or words (num u / width) 0) (num u % width) ≡ 1)
  covered u size p step = (some_size g T s (symbol_at g.flat s) u size step, grown.stepped.covers u size p step)

  steps_from : (t : ℕ) (u : Word) → IsPoint y.k y.tags u → (N t u ≡ T t u) ⊎ Step g T t u (N t u)
  steps_from t u p =
      ⊎_elim
      (λ e. subst (λ i. (N i u ≡ T i u) ⊎ Step g T i u (N i u)) (sym e) here)
      (λ d. inl (others t u d p))
      (cases_eq t s)
    where
      gone : (bit_at (get_or words (num u / width) 0) (num u % width) ≡ 1 → ⊥) → N s u ≡ T s u
      gone d =
          let is = own u in
          let few = bit_at-lt (get_or words (num u / width) 0) (num u % width) in
          let lesser = bit_at-lt (get_or (set_at sets s) (num u / width) 0) (num u % width) in
          ⊎_elim
          (λ (had : bit_at (get_or (set_at sets s) (num u / width) 0) (num u % width) ≡ 1). absurd (d (grown.kept (num u / width) (num u % width) had)))
          (λ none. omega arith)
          (cases_eq (bit_at (get_or (set_at sets s) (num u / width) 0) (num u % width)) 1)

      here : (N s u ≡ T s u) ⊎ Step g T s u (N s u)
      here =
          ⊎_elim
          (λ (one : bit_at (get_or words (num u / width) 0) (num u % width) ≡ 1).
          let is = own u in
          let at : N s u ≡ 1 = omega arith in
          ⊎_elim
          (λ (old : bit_at (get_or (set_at sets s) (num u / width) 0) (num u % width) ≡ 1). inl (omega arith))
          (λ step. inr (subst (Step g T s u) (sym at) step))
          (grown.stepped.steps u p one))
          (λ d. inl (gone d))
          (cases_eq (bit_at (get_or words (num u / width) 0) (num u % width)) 1)

  pub grown_sound : IsSound g T → IsSound g N
  grown_sound sound = steps_sound g T N sound steps_from

  -- a symbol that isn't made of it stays closed
  pub stays_closed : (t : ℕ) → (t ≡ s → ⊥) → (IsPart g t s → ⊥) → IsClosedAt g T t → IsClosedAt g N t
  stays_closed t d apart closed u size p step =
      let less = closed u size p (step_back g T N s t others (symbol_at g.flat t) u size apart p step) in
      let same = others t u d p in
      omega arith

  -- and it is closed, if it isn't made of itself
  pub grown_closed : (IsPart g s s → ⊥) → IsClosedAt g N s
  grown_closed apart u size p step =
      let c = covered u size p (step_back g T N s s others (symbol_at g.flat s) u size apart p step) in
      let is = own u in
      let one = c.1 in
      let some = c.0 in
      omega arith

  -- where it is as before, it was closed
  pub same_closed : ((h : ℕ) → get_or words h 0 ≡ get_or (set_at sets s) h 0) → IsClosedAt g T s
  same_closed same u size p step =
      let c = covered u size p step in
      let at = ap (λ w. bit_at w (num u % width)) (same (num u / width)) in
      let one = c.1 in
      let some = c.0 in
      omega arith

  pub sets_set : AreSets n count (set sets s words)
  sets_set = record {
    as_many = length-set sets s words ∙ are.as_many;
    as_long = λ a l. ⊎_elim
        (λ e. ap length (ap (set_at (set sets s words)) e ∙ get_or-set_same sets s words [] (let m = are.as_many in omega arith)) ∙ grown.stepped.as_many)
        (λ d. ap length (get_or-set_other sets s a words [] d) ∙ are.as_long a l)
        (cases_eq a s);
  }

  -- ---- looks

  module _ (now : ℕ) (looked changed : List ℕ) (h : Stands g width count n now sets looked changed) where
    marked : (numbers : List ℕ) → length numbers ≡ n → ((t : ℕ) → get_or numbers t 0 < now) → (t : ℕ) → get_or (set numbers s now) t 0 < now + 1
    marked numbers many below t =
        ⊎_elim
        (λ e. let at = ap (λ i. get_or (set numbers s now) i 0) e ∙ get_or-set_same numbers s now 0 (omega arith) in omega arith)
        (λ d. let at = get_or-set_other numbers s t now 0 d in let l = below t in omega arith)
        (cases_eq t s)

    pub looked_same : (new : List ℕ) → new ≡ set looked s now → ((h : ℕ) → get_or words h 0 ≡ get_or (set_at sets s) h 0) → Looked g width count n now s sets sets new changed false
    looked_same new e same = subst (λ ls. Looked g width count n now s sets sets ls changed false) (sym e) (record {
      stands = record {
        are = are;
        many_looked = length-set looked s now ∙ h.many_looked;
        many_changed = h.many_changed;
        before_looked = marked looked h.many_looked h.before_looked;
        before_changed = λ t. let l = h.before_changed t in omega arith;
        sound = h.sound;
        closed = λ t l some since. ⊎_elim
            (λ f. subst (IsClosedAt g T) (sym f) (same_closed same))
            (λ d.
            let at : get_or (set looked s now) t 0 ≡ get_or looked t 0 = get_or-set_other looked s t now 0 d in
            h.closed t l (omega arith) (λ a part. let m = since a part in omega arith))
            (cases_eq t s);
      };
      rests = λ f. (refl, same_closed same);
    })

    pub looked_grown : (new : List (List ℕ)) (ls cs : List ℕ) → new ≡ set sets s words → ls ≡ set looked s now → cs ≡ set changed s now → Looked g width count n now s sets new ls cs true
    looked_grown new ls cs en el ec =
        subst (λ xs. Looked g width count n now s sets xs ls cs true) (sym en)
        (subst (λ xs. Looked g width count n now s sets (set sets s words) xs cs true) (sym el)
        (subst (λ xs. Looked g width count n now s sets (set sets s words) (set looked s now) xs true) (sym ec) (record {
          stands = record {
            are = sets_set;
            many_looked = length-set looked s now ∙ h.many_looked;
            many_changed = length-set changed s now ∙ h.many_changed;
            before_looked = marked looked h.many_looked h.before_looked;
            before_changed = marked changed h.many_changed h.before_changed;
            sound = grown_sound h.sound;
            closed = closed_after;
          };
          rests = λ f. absurd (cc);
        })))
      where
        now_changed : get_or (set changed s now) s 0 ≡ now
        now_changed = get_or-set_same changed s now 0 (let m = h.many_changed in omega arith)

        now_looked : get_or (set looked s now) s 0 ≡ now
        now_looked = get_or-set_same looked s now 0 (let m = h.many_looked in omega arith)

        closed_after : (t : ℕ) → t < n → 1 ≤ get_or (set looked s now) t 0 → ((a : ℕ) → IsPart g t a → get_or (set changed s now) a 0 < get_or (set looked s now) t 0) → IsClosedAt g N t
        closed_after t l some since =
            ⊎_elim
            (λ f. subst (IsClosedAt g N) (sym f) (grown_closed (λ part.
            let m = since s (subst (λ i. IsPart g i s) (sym f) part) in
            let a = now_changed in
            let b = now_looked in
            let at = ap (λ i. get_or (set looked s now) i 0) f in
            absurd (omega arith))))
            (λ d.
            let at : get_or (set looked s now) t 0 ≡ get_or looked t 0 = get_or-set_other looked s t now 0 d in
            let before = h.before_looked t in
            let a = now_changed in
            let apart : IsPart g t s → ⊥ = λ part. let m = since s part in absurd (omega arith) in
            stays_closed t d apart
            (h.closed t l (omega arith) (λ a part. let m = since a part in
            let e = get_or-set_other changed s a now 0 (λ f. apart (subst (IsPart g t) f part)) in
            omega arith)))
            (cases_eq t s)

-- it isn't looked at
pub not_looked : (g : Setting) (width count n now s : ℕ) (sets : List (List ℕ)) (looked changed : List ℕ) → s < n → Stands g width count n now sets looked changed → (1 ≤ get_or looked s 0) × ((a : ℕ) → IsPart g s a → get_or changed a 0 < get_or looked s 0) → Looked g width count n now s sets sets looked changed false
not_looked g width count n now s sets looked changed there h rests = record {
  stands = record {
    are = h.are;
    many_looked = h.many_looked;
    many_changed = h.many_changed;
    before_looked = λ t. let l = h.before_looked t in omega arith;
    before_changed = λ t. let l = h.before_changed t in omega arith;
    sound = h.sound;
    closed = h.closed;
  };
  rests = λ f. (refl, h.closed s there rests.0 rests.1);
}

-- ---- passes

pub pass_begins : (g : Setting) (width count n before : ℕ) (sets : List (List ℕ)) (looked changed : List ℕ) → Stands g width count n (before + 1) sets looked changed → Passed g width count n 0 before sets looked changed false
pass_begins g width count n before sets looked changed h = record {
  stands = subst (λ i. Stands g width count n i sets looked changed) (let e : before + 1 ≡ before + 0 + 1 = omega arith in e) h;
  rests = λ f t l. absurd (omega arith);
}

pub pass_goes_on : (g : Setting) (width count n m before : ℕ) (old new : List (List ℕ)) (looked changed ls cs : List ℕ) (was grew is : Bool) → Passed g width count n m before old looked changed was → Looked g width count n (before + m + 1) m old new ls cs grew → (is ≡ false → (was ≡ false) × (grew ≡ false)) → Passed g width count n (m + 1) before new ls cs is
pass_goes_on g width count n m before old new looked changed ls cs was grew is h l both = record {
  stands = subst (λ i. Stands g width count n i new ls cs) (let e : before + m + 1 + 1 ≡ before + (m + 1) + 1 = omega arith in e) l.stands;
  rests = λ f t k.
      let b = both f in
      let r = l.rests b.1 in
      ⊎_elim
      (λ (less : t < m). subst (λ xs. IsClosedAt g (table_in g width xs) t) (sym r.0) (h.rests b.0 t less))
      (λ (past : m ≤ t). let e : m ≡ t = omega arith in subst (IsClosedAt g (table_in g width new)) e r.1)
      (cases_lt t m);
}

pub pass_settled : (y : System) (width count before : ℕ) (sets : List (List ℕ)) (looked changed : List ℕ) (grew : Bool) → length y.symbols.now < 2097152 → grew ≡ false → Passed (setting_in y) width count (length y.symbols.now) (length y.symbols.now) before sets looked changed grew → IsSettled (setting_in y) width count (length y.symbols.now) sets
pass_settled y width count before sets looked changed grew few f h =
    let g = setting_in y in
    record {
      few = few;
      are = h.stands.are;
      closed = pass_closed g (table_in g width sets) (λ s u size l p step. h.rests f s (subst (λ i. s < i) (length-map y.symbols.now symbol_view) l) u size p step);
      sound = h.stands.sound;
    }

-- ---- the beginning

pub sets_more : (count m : ℕ) (sets : List (List ℕ)) (words : List ℕ) → words ≡ replicate count 0 → AreSets m count sets × NoPoints sets → AreSets (m + 1) count (sets ++ words ∷ []) × NoPoints (sets ++ words ∷ [])
sets_more count m sets words e h =
    let many = h.0.as_many in
    let last : get_or (sets ++ words ∷ []) m [] ≡ words = get_or_push sets words [] m many in (
      record {
        as_many = length_push sets words ∙ (let i : length sets + 1 ≡ m + 1 = omega arith in i);
        as_long = λ a l. ⊎_elim
            (λ (less : a < m). ap length (get_or_append_left sets (words ∷ []) [] a (omega arith)) ∙ h.0.as_long a less)
            (λ (past : m ≤ a). let i : m ≡ a = omega arith in subst (λ j. length (get_or (sets ++ words ∷ []) j []) ≡ count) i (ap length (last ∙ e) ∙ length-replicate count 0))
            (cases_lt a m);
      },
      λ a b q i. ⊎_elim
          (λ (less : a < m). h.1 a b q (subst (λ ws. In ws b q) (get_or_append_left sets (words ∷ []) [] a (omega arith)) i))
          (λ (past : m ≤ a). ⊎_elim
          (λ (same : a ≡ m). none_in count b q (subst (λ ws. In ws b q) (ap (set_at (sets ++ words ∷ [])) same ∙ last ∙ e) i))
          (λ other. nothing_in b q (subst (λ ws. In ws b q) (get_or_past (sets ++ words ∷ []) a [] (let k = length_push sets words in omega arith)) i))
          (cases_eq a m))
          (cases_lt a m),
    )
  where
    nothing_in : (b q : ℕ) → In [] b q → ⊥
    nothing_in b q i = none_in 0 b q i

pub sets_none : (count : ℕ) → AreSets 0 count [] × NoPoints []
sets_none count = (record { as_many = refl; as_long = λ a l. absurd (omega arith) }, λ a b q i. none_in 0 b q i)

pub all_begin : (y : System) (width count n : ℕ) (sets : List (List ℕ)) (looked changed : List ℕ) → AreSets n count sets × NoPoints sets → looked ≡ replicate n 0 → changed ≡ replicate n 0 → Stands (setting_in y) width count n 1 sets looked changed
all_begin y width count n sets looked changed h el ec =
    let g = setting_in y in
    let never : (t : ℕ) → get_or looked t 0 ≡ 0 = λ t. ap (λ xs. get_or xs t 0) el ∙ zero_at n t in
    let not : (t : ℕ) → get_or changed t 0 ≡ 0 = λ t. ap (λ xs. get_or xs t 0) ec ∙ zero_at n t in
    record {
      are = h.0;
      many_looked = ap length el ∙ length-replicate n 0;
      many_changed = ap length ec ∙ length-replicate n 0;
      before_looked = λ t. let e = never t in omega arith;
      before_changed = λ t. let e = not t in omega arith;
      sound = start_sound g (table_in g width sets) (λ s u p known.
          let c = number_of y.k y.tags u in
          let few = bit_at-lt (get_or (set_at sets s) (c / width) 0) (c % width) in
          let one : In (set_at sets s) (c / width) (c % width) = omega arith in
          h.1 s (c / width) (c % width) one);
      closed = λ t l some since. let e = never t in absurd (omega arith);
    }

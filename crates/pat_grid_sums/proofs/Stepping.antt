-- What the steps of a symbol give, by sets.
use Rattle.std.proofs.Common.{◌≡◌, ℕ, zero, suc, ◌+◌, ◌*◌, ◌/◌, ◌%◌, ◌<◌, ◌≤◌, ◌⊎◌, inl, inr, ⊎_elim, Bool, true, false, List, [], ◌∷◌, replicate, length, get_or, refl, sym, ap, ap₂, ◌∙◌, subst, arith, zero-mul}
use Rattle.std.specs.Prelude.{slice_get, nat_eq, Option, Some, None, Ok, Err, IfOk}
use Rattle.std.specs.declared.result.Result.{Result}
use Rattle.std.proofs.lemmas.Bool.{cases_lt, cases_eq, cond-false, ne_eqb}
use Rattle.std.proofs.lemmas.Nat.{div-mul-add, mod-mul-add}
use Rattle.std.proofs.lemmas.Nat.Bits.{bit_at-lt}
use Rattle.std.proofs.lemmas.List.{get_or_past, length-replicate}
use Rattle.std.proofs.lemmas.Option.{slice_get_past}
use Rattle.pat_words_spec.specs.Words.{Word, no_word, one, plus}
use Rattle.pat_words_spec.specs.Cuts.{cut_at}
use Rattle.pat_words_spec.specs.Tags.{HasTagsBelow}
use Rattle.pat_words_spec.specs.Languages.{MemberOf}
use Rattle.pat_words_laws.proofs.WordLaws.{word_ext}
use Rattle.pat_inclusion_spec.specs.bounds.CutSets.{IsPoint}
use Rattle.pat_inclusion_spec.specs.bounds.Symbols.{NoSymbol, OneSymbol, TagSymbol, SumSymbol, ProdSymbol, StarSymbol, LowerSymbol, GivenSymbol, symbol_at, root_at}
use Rattle.pat_inclusion_spec.specs.bounds.Tables.{Setting, Table, IsKnown, Step, StepAt, StepByOne, StepByTwo}
use Rattle.pat_inclusion_spec.specs.bounds.Numbers.{points_in, number_of, point_of}
use Rattle.pat_inclusion_laws.proofs.NumberLaws.{number_below, number_point, number_small, point_number, point_fits}
use Rattle.pat_grid_points.specs.declared.grid.Grid.{Grid}
use Rattle.pat_grid_points.specs.Views.{summed, points_of, HasPoint}
use Rattle.pat_grid_points.proofs.Digits.{summed_zero_left}
use Rattle.pat_grid_points.proofs.Members.{member_point, point_member}
use Rattle.pat_grid_sums.specs.declared.shape.Shape.{Shape}
use Rattle.pat_grid_sums.specs.declared.system.System.{System}
use Rattle.pat_grid_sums.specs.Sets.{In, Puts, AnyBefore}
use Rattle.pat_grid_sums.specs.Shapes.{IsShape, Has}
use Rattle.pat_grid_sums.specs.Systems.{setting_in, points_in_grid, IsSystem, Holds, set_at, table_in, IsSumOf, IsHeldAt, IsGivenAt, IsStepped, IsGrown}
use Rattle.pat_grid_sums.proofs.Putting.{none_in, nothing_in, puts_none, puts_as, puts_more, has_all, has_as}
use Rattle.pat_grid_sums.proofs.Splitting.{all_points, word_within}
use Rattle.pat_grid_sums.proofs.Summing.{same_number}

pub if_ok : {A E : Type 0} (r : Result A E) (P Q : A → Type 0) → ((x : A) → P x → Q x) → IfOk r P → IfOk r Q
if_ok (Ok x) P Q f h = f x h
if_ok (Err x) P Q f h = tt

zero_div : (w : ℕ) → 0 < w → 0 / w ≡ 0
zero_div w l = ap (λ x. x / w) (let e : 0 ≡ 0 * w + 0 = omega arith in e) ∙ div-mul-add 0 w 0 l

zero_mod : (w : ℕ) → 0 < w → 0 % w ≡ 0
zero_mod w l = ap (λ x. x % w) (let e : 0 ≡ 0 * w + 0 = omega arith in e) ∙ mod-mul-add 0 w 0 l

-- ---- the empty word, and a word of one message

number_none : (k n : ℕ) → number_of k n no_word ≡ 0
number_none k zero = refl
number_none k (suc n) = ap (λ x. x * (k + 1) + 0) (number_none k n) ∙ (let z = zero-mul (k + 1) in omega arith)

none_point : (k n : ℕ) → IsPoint k n no_word
none_point k n = (λ t l. refl, word_ext no_word (cut_at k no_word) (λ t. omega arith))

point_none : (k n : ℕ) → point_of k n 0 ≡ no_word
point_none k n = ap (point_of k n) (sym (number_none k n)) ∙ number_point k n no_word (none_point k n)

tag_point : (k n m : ℕ) → m < n → IsPoint k n (cut_at k (one m))
tag_point k n m l = (
  λ t h. let z = one_past t h in omega arith,
  word_ext (cut_at k (one m)) (cut_at k (cut_at k (one m))) (λ t. omega arith),
)
  where
    one_past : (t : ℕ) → n ≤ t → one m t ≡ 0
    one_past t h = cond-false (nat_eq t m) 1 0 (ne_eqb t m (λ e. absurd (omega arith)))

sum_point : (k n v w : ℕ) → point_of k n (summed k n v w) ≡ cut_at k (plus (point_of k n v) (point_of k n w))
sum_point k n v w =
    let both = cut_at k (plus (point_of k n v) (point_of k n w)) in
    let below : HasTagsBelow n both = λ t l. let x = (point_fits k n v).0 t l in let y = (point_fits k n w).0 t l in omega arith in
    let point : IsPoint k n both = (below, word_ext both (cut_at k both) (λ t. omega arith)) in
    number_point k n both point

-- ---- steps

module _ (y : System) (sh : Shape) (system : IsSystem y) (shape : IsShape y.k y.tags sh) (sets : List (List ℕ)) (s : ℕ) where
  abbrev g : Setting
  g = setting_in y

  abbrev T : Table
  T = table_in g sh.width sets

  abbrev num : Word → ℕ
  num u = number_of y.k y.tags u

  abbrev Stepped : List ℕ → Type 0
  Stepped words = IsStepped g sh.width sh.words sets s words

  known_has : (a : ℕ) (u : Word) → IsKnown 0 (T a u) → Holds sh.width (set_at sets a) (num u)
  known_has a u known = let l = bit_at-lt (get_or (set_at sets a) (num u / sh.width) 0) (num u % sh.width) in omega arith

  has_known : (a : ℕ) (u : Word) → Holds sh.width (set_at sets a) (num u) → IsKnown 0 (T a u)
  has_known a u h = omega arith

  by_one : (a : ℕ) (u : Word) → Holds sh.width (set_at sets a) (num u) → StepByOne g T a u 1
  by_one a u h = (has_known a u h, omega arith)

  is_word : (u v : Word) → IsPoint y.k y.tags u → IsPoint y.k y.tags v → num u ≡ num v → u ≡ v
  is_word u v p q e = sym (number_point y.k y.tags u p) ∙ ap (point_of y.k y.tags) e ∙ number_point y.k y.tags v q

  -- ---- no part

  pub zero_stepped : (words : List ℕ) → symbol_at g.flat s ≡ NoSymbol → words ≡ replicate sh.words 0 → Stepped words
  zero_stepped words at e = record {
    as_many = ap length e ∙ length-replicate sh.words 0;
    steps = λ u p i. absurd (none_in sh.words (num u / sh.width) (num u % sh.width) (subst (λ ws. Holds sh.width ws (num u)) e i));
    covers = λ u size p step. absurd (subst (λ z. StepAt g T s z u size) at step);
  }

  -- the one point v
  point_stepped : (c : ℕ) (v : Word) (words : List ℕ) → IsPoint y.k y.tags v → c ≡ num v → ((u : Word) → u ≡ v → Step g T s u 1) → ((u : Word) (size : ℕ) → Step g T s u size → u ≡ v) → Has (λ h q. (h ≡ c / sh.width) × (q ≡ c % sh.width)) sh.words words → Stepped words
  point_stepped c v words q is gives only has = record {
    as_many = has.as_many;
    steps = λ u p i.
        let at = has.only (num u / sh.width) (num u % sh.width) i in
        inr (gives u (is_word u v p q (same_number (num u) c sh.width at.0 at.1 ∙ is)));
    covers = λ u size p step.
        let e : num u ≡ c = ap (number_of y.k y.tags) (only u size step) ∙ sym is in
        has.put (num u / sh.width) (num u % sh.width) (ap (λ x. x / sh.width) e, ap (λ x. x % sh.width) e);
  }

  pub one_stepped : (words : List ℕ) → symbol_at g.flat s ≡ OneSymbol → Has (λ h q. (h ≡ 0 / sh.width) × (q ≡ 0 % sh.width)) sh.words words → Stepped words
  one_stepped words at has =
      point_stepped 0 no_word words (none_point y.k y.tags) (sym (number_none y.k y.tags))
      (λ u e. subst (λ z. StepAt g T s z u 1) (sym at) (e, refl))
      (λ u size step. (subst (λ z. StepAt g T s z u size) at step).0)
      has

  pub tag_stepped : (m c : ℕ) (words : List ℕ) → symbol_at g.flat s ≡ TagSymbol m → c ≡ num (cut_at y.k (one m)) → Has (λ h q. (h ≡ c / sh.width) × (q ≡ c % sh.width)) sh.words words → Stepped words
  tag_stepped m c words at is has =
      point_stepped c (cut_at y.k (one m)) words (tag_point y.k y.tags m (system.tags s m at)) is
      (λ u e. subst (λ z. StepAt g T s z u 1) (sym at) (e, refl))
      (λ u size step. (subst (λ z. StepAt g T s z u size) at step).0)
      has

  -- ---- one part

  pub sum_stepped : (a b : ℕ) (words : List ℕ) → symbol_at g.flat s ≡ SumSymbol a b → Has (λ h q. In (set_at sets a) h q ⊎ In (set_at sets b) h q) sh.words words → Stepped words
  sum_stepped a b words at has = record {
    as_many = has.as_many;
    steps = λ u p i. inr (subst (λ z. StepAt g T s z u 1) (sym at) (⊎_elim (λ x. inl (by_one a u x)) (λ x. inr (by_one b u x)) (has.only (num u / sh.width) (num u % sh.width) i)));
    covers = λ u size p step. has.put (num u / sh.width) (num u % sh.width)
        (⊎_elim (λ x. inl (known_has a u x.0)) (λ x. inr (known_has b u x.0)) (subst (λ z. StepAt g T s z u size) at step));
  }

  pub lower_stepped : (k a : ℕ) (words : List ℕ) → symbol_at g.flat s ≡ LowerSymbol k → a ≡ root_at g.flat k → Has (λ h q. In (set_at sets a) h q ⊎ In (set_at sets a) h q) sh.words words → Stepped words
  lower_stepped k a words at root has = record {
    as_many = has.as_many;
    steps = λ u p i. inr (subst (λ z. StepAt g T s z u 1) (sym at) (subst (λ x. StepByOne g T x u 1) root (by_one a u (⊎_elim (λ x. x) (λ x. x) (has.only (num u / sh.width) (num u % sh.width) i)))));
    covers = λ u size p step.
        let h : StepByOne g T (root_at g.flat k) u size = subst (λ z. StepAt g T s z u size) at step in
        has.put (num u / sh.width) (num u % sh.width) (inl (known_has a u (subst (λ x. IsKnown 0 (T x u)) (sym root) h.0)));
  }

  -- ---- two parts

  same_bound : sh.k ≡ y.k
  same_bound = shape.bound

  sums_step : (a b v w : ℕ) (u : Word) → IsPoint y.k y.tags u → v < points_in y.k y.tags → w < points_in y.k y.tags → Holds sh.width (set_at sets a) v → Holds sh.width (set_at sets b) w → num u ≡ summed y.k y.tags v w → StepByTwo g T a b (point_of y.k y.tags v) (point_of y.k y.tags w) u 1
  sums_step a b v w u p lv lw hv hw e =
      let x = point_of y.k y.tags v in
      let z = point_of y.k y.tags w in
      let kv = has_known a x (subst (Holds sh.width (set_at sets a)) (sym (point_number y.k y.tags v lv)) hv) in
      let kw = has_known b z (subst (Holds sh.width (set_at sets b)) (sym (point_number y.k y.tags w lw)) hw) in
      let is : u ≡ cut_at y.k (plus x z) = sym (number_point y.k y.tags u p) ∙ ap (point_of y.k y.tags) e ∙ sum_point y.k y.tags v w in
      (point_fits y.k y.tags v, point_fits y.k y.tags w, kv, kw, is, omega arith)

  step_sums : (a b : ℕ) (v w u : Word) (size : ℕ) → StepByTwo g T a b v w u size → IsSumOf sh y.tags (set_at sets a) (set_at sets b) (num u / sh.width) (num u % sh.width)
  step_sums a b v w u size h =
      let k = y.k in
      let n = y.tags in
      let i = num v in
      let j = num w in
      let sums : summed k n i j ≡ num u =
      ap (number_of k n) (ap₂ (λ x z. cut_at k (plus x z)) (number_point k n v h.0) (number_point k n w h.1) ∙ sym h.4) in
      let same : summed sh.k n i j ≡ num u = ap (λ x. summed x n i j) same_bound ∙ sums in
      let many : points_in sh.k n ≡ points_in k n = ap (λ x. points_in x n) same_bound in
      let lv = number_small k n v h.0 in
      let lw = number_small k n w h.1 in (
        i,
        j,
        (let l : i < points_in sh.k n = omega arith in l),
        (let l : j < points_in sh.k n = omega arith in l),
        known_has a v h.2,
        known_has b w h.3,
        ap (λ x. x / sh.width) (sym same),
        ap (λ x. x % sh.width) (sym same),
      )

  -- the numbers of a sum
  sum_numbers : (ones others : List ℕ) (u : Word) → (t : IsSumOf sh y.tags ones others (num u / sh.width) (num u % sh.width)) → (t.0 < points_in y.k y.tags) × (t.1 < points_in y.k y.tags) × (num u ≡ summed y.k y.tags t.0 t.1)
  sum_numbers ones others u t = (
    subst (λ x. t.0 < points_in x y.tags) same_bound t.2,
    subst (λ x. t.1 < points_in x y.tags) same_bound t.3,
    same_number (num u) (summed sh.k y.tags t.0 t.1) sh.width t.6 t.7 ∙ ap (λ x. summed x y.tags t.0 t.1) same_bound,
  )

  pub product_stepped : (a b : ℕ) (words : List ℕ) → symbol_at g.flat s ≡ ProdSymbol a b → Has (IsSumOf sh y.tags (set_at sets a) (set_at sets b)) sh.words words → Stepped words
  product_stepped a b words at has = record {
    as_many = has.as_many;
    steps = λ u p i.
        let t = has.only (num u / sh.width) (num u % sh.width) i in
        let m = sum_numbers (set_at sets a) (set_at sets b) u t in
        inr (subst (λ z. StepAt g T s z u 1) (sym at) (point_of y.k y.tags t.0, point_of y.k y.tags t.1, sums_step a b t.0 t.1 u p m.0 m.1 t.4 t.5 m.2));
    covers = λ u size p step.
        let h = subst (λ z. StepAt g T s z u size) at step in
        has.put (num u / sh.width) (num u % sh.width) (step_sums a b h.0 h.1 u size h.2);
  }

  -- a point of the star's part may be that of the empty word, and then its sums are there already
  star_steps : (a v w : ℕ) (u : Word) → symbol_at g.flat s ≡ StarSymbol a → IsPoint y.k y.tags u → v < points_in y.k y.tags → w < points_in y.k y.tags → Holds sh.width (set_at sets a) v → Holds sh.width (set_at sets s) w → num u ≡ summed y.k y.tags v w → Holds sh.width (set_at sets s) (num u) ⊎ Step g T s u 1
  star_steps a v w u at p lv lw hv hw e =
      ⊎_elim
      (λ (none : v ≡ 0).
      let is : num u ≡ w = e ∙ ap (λ i. summed y.k y.tags i w) none ∙ sym (summed_zero_left y.k y.tags w lw) in
      inl (subst (Holds sh.width (set_at sets s)) (sym is) hw))
      (λ some.
      let x = point_of y.k y.tags v in
      let other : x ≡ no_word → ⊥ = λ z. some (sym (point_number y.k y.tags v lv) ∙ ap (number_of y.k y.tags) z ∙ number_none y.k y.tags) in
      inr (subst (λ z. StepAt g T s z u 1) (sym at) (inr (x, point_of y.k y.tags w, sums_step a s v w u p lv lw hv hw e, other))))
      (cases_eq v 0)

  pub star_stepped : (a : ℕ) (words : List ℕ) → symbol_at g.flat s ≡ StarSymbol a → 0 < sh.width → Has (λ h q. IsSumOf sh y.tags (set_at sets a) (set_at sets s) h q ⊎ ((h ≡ 0) × (q ≡ 0))) sh.words words → Stepped words
  star_stepped a words at some has = record {
    as_many = has.as_many;
    steps = λ u p i. ⊎_elim
        (λ t.
        let m = sum_numbers (set_at sets a) (set_at sets s) u t in
        star_steps a t.0 t.1 u at p m.0 m.1 t.4 t.5 m.2)
        (λ e.
        let none : num u ≡ num no_word = same_number (num u) 0 sh.width (e.0 ∙ sym (zero_div sh.width some)) (e.1 ∙ sym (zero_mod sh.width some)) ∙ sym (number_none y.k y.tags) in
        inr (subst (λ z. StepAt g T s z u 1) (sym at) (inl (is_word u no_word p (none_point y.k y.tags) none, refl))))
        (has.only (num u / sh.width) (num u % sh.width) i);
    covers = λ u size p step. has.put (num u / sh.width) (num u % sh.width) (⊎_elim
        (λ h. let e : num u ≡ 0 = ap (number_of y.k y.tags) h.0 ∙ number_none y.k y.tags in
        inr (ap (λ x. x / sh.width) e ∙ zero_div sh.width some, ap (λ x. x % sh.width) e ∙ zero_mod sh.width some))
        (λ h. inl (step_sums a s h.0 h.1 u size h.2))
        (subst (λ z. StepAt g T s z u size) at step));
  }

  -- ---- given points

  pub given_stepped : (j : ℕ) (words : List ℕ) → symbol_at g.flat s ≡ GivenSymbol j → Has (IsGivenAt sh.width y.given.now j) sh.words words → Stepped words
  given_stepped j words at has = record {
    as_many = has.as_many;
    steps = λ u p i.
        let t = has.only (num u / sh.width) (num u % sh.width) i in
        let grid = t.0 in
        let like = system.given j grid t.1 in
        let c = t.2.0 in
        let m = t.2.2 in
        let is : num u ≡ c = same_number (num u) c sh.width m.1 m.2 in
        let held : get_or grid.held (num u) false ≡ true = subst (λ x. get_or grid.held x false ≡ true) (sym is) m.0 in
        let there : HasPoint grid u = (
          subst (λ x. IsPoint x grid.tags u) (sym like.0) (subst (λ x. IsPoint y.k x u) (sym like.1) p),
          subst (λ x. get_or grid.held (number_of x grid.tags u) false ≡ true) (sym like.0) (subst (λ x. get_or grid.held (number_of y.k x u) false ≡ true) (sym like.1) held),
        ) in
        let given : g.given j ≡ points_of grid = ap points_in_grid t.1 in
        inr (subst (λ z. StepAt g T s z u 1) (sym at) ((u, subst (λ ws. MemberOf ws u) (sym given) (point_member grid u there), p.1), refl));
    covers = λ u size p step.
        let h = subst (λ z. StepAt g T s z u size) at step in
        has.put (num u / sh.width) (num u % sh.width) (given_there u h.0 (slice_get y.given.now j) refl);
  }
    where
      held_within : (held : List Bool) (c : ℕ) → get_or held c false ≡ true → c < length held
      held_within [] c e = absurd (cc)
      held_within (b ∷ held) zero e = omega arith
      held_within (b ∷ held) (suc c) e = let l = held_within held c e in omega arith

      given_there : (u : Word) → (w : Word) × MemberOf (g.given j) w × (u ≡ cut_at y.k w) → (o : Option Grid) → slice_get y.given.now j ≡ o → IsGivenAt sh.width y.given.now j (num u / sh.width) (num u % sh.width)
      given_there u m None e = absurd (subst (λ x. MemberOf (points_in_grid x) m.0) e m.1)
      given_there u m (Some grid) e =
          let like = system.given j grid e in
          let w = m.0 in
          let has : HasPoint grid w = member_point grid w (subst (λ x. MemberOf (points_in_grid x) w) e m.1) in
          let point : IsPoint y.k y.tags w = subst (λ x. IsPoint x y.tags w) like.0 (subst (λ x. IsPoint grid.k x w) like.1 has.0) in
          let held : get_or grid.held (num w) false ≡ true =
          subst (λ x. get_or grid.held (number_of x y.tags w) false ≡ true) like.0 (subst (λ x. get_or grid.held (number_of grid.k x w) false ≡ true) like.1 has.1) in
          let same : u ≡ w = m.2 ∙ sym point.1 in
          let number : num u ≡ num w = ap (number_of y.k y.tags) same in
          (grid, e, (num w, held_within grid.held (num w) held, (held, ap (λ x. x / sh.width) number, ap (λ x. x % sh.width) number)))

  -- ---- with its own set

  pub grown_joined : (made words : List ℕ) → Stepped made → Puts (In (set_at sets s)) made words → IsGrown g sh.width sh.words sets s words
  grown_joined made words h puts = record {
    stepped = record {
      as_many = puts.as_long ∙ h.as_many;
      steps = λ u p i. ⊎_elim (λ old. h.steps u p old) (λ own. inl own) (puts.only (num u / sh.width) (num u % sh.width) i);
      covers = λ u size p step. puts.kept (num u / sh.width) (num u % sh.width) (h.covers u size p step);
    };
    kept = puts.put;
  }

pub cut_small : (k n c : ℕ) (w : Word) (all : ℕ) → c ≡ number_of k n (cut_at k w) → all ≡ points_in k n → c < all
cut_small k n c w all e is = let l = number_below k n (cut_at k w) (λ t. omega arith) in omega arith

-- ---- sets that aren't there

pub absent : (sets : List (List ℕ)) (a : ℕ) → length sets ≤ a → set_at sets a ≡ []
absent sets a l = get_or_past sets a [] l

module _ (sh : Shape) (n count : ℕ) (ones others words : List ℕ) (e : words ≡ replicate count 0) where
  no_sums : ((h q : ℕ) → IsSumOf sh n ones others h q → ⊥) → Has (IsSumOf sh n ones others) count words
  no_sums none = subst (Has (IsSumOf sh n ones others) count) (sym e) (record {
    as_many = length-replicate count 0;
    put = λ h q t. absurd (none h q t);
    only = λ h q i. absurd (none_in count h q i);
  })

  pub no_left : ones ≡ [] → Has (IsSumOf sh n ones others) count words
  no_left z = no_sums (λ h q t. nothing_in (t.0 / sh.width) (t.0 % sh.width) (subst (λ ws. Holds sh.width ws t.0) z t.4))

  pub no_right : others ≡ [] → Has (IsSumOf sh n ones others) count words
  no_right z = no_sums (λ h q t. nothing_in (t.1 / sh.width) (t.1 % sh.width) (subst (λ ws. Holds sh.width ws t.1) z t.5))

-- ---- given points

pub none_given : (width count j : ℕ) (grids : List Grid) (words : List ℕ) → length grids ≤ j → words ≡ replicate count 0 → Has (IsGivenAt width grids j) count words
none_given width count j grids words l e = subst (Has (IsGivenAt width grids j) count) (sym e) (record {
  as_many = length-replicate count 0;
  put = λ h q t. let none = slice_get_past grids j l in absurd (cc);
  only = λ h q i. absurd (none_in count h q i);
})

pub all_given : (width count j : ℕ) (grids : List Grid) (grid : Grid) (held : List Bool) (zeros words : List ℕ) → slice_get grids j ≡ Some grid → held ≡ grid.held → zeros ≡ replicate count 0 → Puts (AnyBefore (IsHeldAt width held) (length held)) zeros words → Has (IsGivenAt width grids j) count words
all_given width count j grids grid held zeros words found e z h =
    has_as (AnyBefore (IsHeldAt width held) (length held)) (IsGivenAt width grids j) count words
    (λ a q t. (grid, found, subst (λ hs. AnyBefore (IsHeldAt width hs) (length hs) a q) e t))
    (λ a q t. subst (λ hs. AnyBefore (IsHeldAt width hs) (length hs) a q) (held_is t.0 t.1) t.2)
    (has_all (AnyBefore (IsHeldAt width held) (length held)) count words (subst (λ x. Puts (AnyBefore (IsHeldAt width held) (length held)) x words) z h))
  where
    some_same : (a b : Grid) → Some a ≡ Some b → a ≡ b
    some_same a b p = cc

    held_is : (own : Grid) → slice_get grids j ≡ Some own → own.held ≡ held
    held_is own at = ap (λ x. x.held) (some_same own grid (sym at ∙ found)) ∙ sym e

-- one held point more
pub held_more : (width m to : ℕ) (held : List Bool) (x y z : List ℕ) → get_or held m false ≡ true → Puts (AnyBefore (IsHeldAt width held) m) x y → Puts (λ h q. (h ≡ m / width) × (q ≡ m % width)) y z → m + 1 ≤ to → ((c : ℕ) → m + 1 ≤ c → c < to → get_or held c false ≡ false) → Puts (AnyBefore (IsHeldAt width held) to) x z
held_more width m to held x y z on before here l off =
    held_to (m + 1) l off
    (puts_more (IsHeldAt width held) m x y z before
    (puts_as (λ h q. (h ≡ m / width) × (q ≡ m % width)) (IsHeldAt width held m) y z (λ h q t. (on, t.0, t.1)) (λ h q t. (t.1, t.2)) here))
  where
    held_to : (k : ℕ) → k ≤ to → ((c : ℕ) → k ≤ c → c < to → get_or held c false ≡ false) → Puts (AnyBefore (IsHeldAt width held) k) x z → Puts (AnyBefore (IsHeldAt width held) to) x z
    held_to k less none h =
        puts_as (AnyBefore (IsHeldAt width held) k) (AnyBefore (IsHeldAt width held) to) x z
        (λ a q t. (t.0, (let i = t.1 in omega arith), t.2))
        (λ a q t. ⊎_elim
        (λ (i : t.0 < k). (t.0, i, t.2))
        (λ (i : k ≤ t.0). let f = none t.0 i t.1 in let o = t.2.0 in absurd (cc))
        (cases_lt t.0 k))
        h

-- up to the first held point nothing is put in
pub held_begun : (width to : ℕ) (held : List Bool) (x : List ℕ) → ((c : ℕ) → 0 ≤ c → c < to → get_or held c false ≡ false) → Puts (AnyBefore (IsHeldAt width held) to) x x
held_begun width to held x off =
    puts_none (AnyBefore (IsHeldAt width held) to) x (λ h q t. let f = off t.0 (omega arith) t.1 in let o = t.2.0 in absurd (cc))

pub found_at : (grids : List Grid) (j : ℕ) (d : Grid) → j < length grids → d ≡ get_or grids j d → slice_get grids j ≡ Some d
found_at [] j d l e = absurd (omega arith)
found_at (x ∷ grids) zero d l e = ap Some (sym e)
found_at (x ∷ grids) (suc j) d l e = found_at grids j d (omega arith) e

-- a point of a grid that is given has its word
pub given_room : (y : System) (sh : Shape) → IsSystem y → IsShape y.k y.tags sh → (j : ℕ) (grid : Grid) → slice_get y.given.now j ≡ Some grid → (c : ℕ) → c < points_in grid.k grid.tags → c / sh.width < sh.words
given_room y sh system shape j grid found c l =
    let like = system.given j grid found in
    let m : c < points_in y.k y.tags = subst (λ x. c < points_in x y.tags) like.0 (subst (λ x. c < points_in grid.k x) like.1 l) in
    word_within y.k y.tags sh shape c (subst (λ x. c < x) (sym (all_points y.k y.tags sh shape)) m)

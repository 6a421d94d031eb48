-- Tables of least trees: steps keep each entry's tree, and a table that is done has the least sizes.
use Rattle.std.proofs.Common.{◌≡◌, ℕ, zero, suc, ◌+◌, ◌≤◌, ◌<◌, Bool, true, false, ◌⊎◌, inl, inr, ⊎_elim, refl, sym, ap, ◌∙◌, subst, arith}
use Rattle.pat_words_spec.specs.Words.{Word, no_word, one, plus}
use Rattle.pat_words_spec.specs.Patterns.{Pat, Zero, One, Tag, Sum, Prod, Star, Var, Language, Times, InUnder}
use Rattle.pat_words_spec.specs.Cuts.{cut_at}
use Rattle.pat_words_laws.proofs.WordLaws.{word_ext, count_eq, none_plus}
use Rattle.pat_words_spec.specs.Tags.{HasTagsBelow}
use Rattle.pat_words_spec.specs.Languages.{MemberOf}
use Rattle.pat_inclusion_spec.specs.Counts.{same_below}
use Rattle.pat_inclusion_laws.proofs.Spans.{none_below, plus_below, same_words}
use Rattle.pat_inclusion_laws.proofs.Forms.{one_below}
use Rattle.pat_inclusion_laws.proofs.Exact.{same_from}
use Rattle.pat_inclusion_laws.proofs.CutLaws.{cut_below, cut_none, cut_twice, cut_sum}
use Rattle.pat_inclusion_spec.specs.bounds.Trees.{Bound, EmptyTree, TagTree, LeftTree, RightTree, BothTree, StarEndTree, StarMoreTree, LowerTree, tree_size}
use Rattle.pat_inclusion_spec.specs.bounds.CutSets.{IsPoint}
use Rattle.pat_inclusion_spec.specs.bounds.Symbols.{Symbol, NoSymbol, OneSymbol, TagSymbol, SumSymbol, ProdSymbol, StarSymbol, LowerSymbol, GivenSymbol, symbol_at, root_at, ShowsAt}
use Rattle.pat_inclusion_spec.specs.bounds.Tables.{Table, Setting, capped, IsKnown, StepByOne, StepByTwo, StepAt, Step, IsClosed, ShowsCut, HasTree, IsSound, IsLeast, IsStepFrom, IsGrounded, IsFit, IsDone}
use Rattle.pat_inclusion_laws.proofs.CutSetLaws.{cut_of_sum}
use Rattle.pat_inclusion_laws.proofs.FlatLaws.{StandsAs}

-- ---- capped sizes

one_more : (limit x n : ℕ) → x ≤ capped limit n → (x ≤ suc limit) × (capped limit (suc x) ≤ capped limit (1 + n))
one_more limit x n h = (omega arith, omega arith)

two_more : (limit x y m n : ℕ) → x ≤ capped limit m → y ≤ capped limit n → (x ≤ suc limit) × (y ≤ suc limit) × (capped limit (suc (x + y)) ≤ capped limit (1 + (m + n)))
two_more limit x y m n h k = (omega arith, omega arith, omega arith)

leaf_least : (limit : ℕ) → 1 ≤ capped limit 1
leaf_least limit = omega arith

leaf_size : (limit size : ℕ) → size ≡ 1 → capped limit 1 ≡ size
leaf_size limit size h = omega arith

one_size : (limit n x size : ℕ) → capped limit n ≡ x → size ≡ capped limit (suc x) → capped limit (1 + n) ≡ size
one_size limit n x size h e = omega arith

two_size : (limit m n x y size : ℕ) → capped limit m ≡ x → capped limit n ≡ y → size ≡ capped limit (suc (x + y)) → capped limit (1 + (m + n)) ≡ size
two_size limit m n x y size h k e = omega arith

first_less : (limit x y size : ℕ) → size ≡ capped limit (suc (x + y)) → capped limit (suc x) ≤ size
first_less limit x y size e = omega arith

second_less : (limit x y size : ℕ) → size ≡ capped limit (suc (x + y)) → capped limit (suc y) ≤ size
second_less limit x y size e = omega arith

-- a word whose cut is empty is empty
cut_empty : (k : ℕ) (w : Word) → 1 ≤ k → cut_at k w ≡ no_word → w ≡ no_word
cut_empty k w l e = word_ext w no_word (λ t. let h = count_eq (cut_at k w) no_word e t in omega arith)

-- ---- words of symbols

module _ (g : Setting) (fit : IsFit g) where
  shown_below : (b : Bound) (s : ℕ) (y : Symbol) (w : Word) → symbol_at g.flat s ≡ y → ShowsAt g.flat g.given b y w → HasTagsBelow g.tags w
  shown_below EmptyTree s OneSymbol w at h = subst (HasTagsBelow g.tags) (sym h) (none_below g.tags)
  shown_below EmptyTree s (GivenSymbol k) w at h = fit.given k w h
  shown_below TagTree s (TagSymbol m) w at h = subst (HasTagsBelow g.tags) (sym h) (one_below g.tags m (fit.tags s m at))
  shown_below (LeftTree b) s (SumSymbol a c) w at h = shown_below b a (symbol_at g.flat a) w refl h
  shown_below (RightTree b) s (SumSymbol a c) w at h = shown_below b c (symbol_at g.flat c) w refl h
  shown_below (BothTree a b) s (ProdSymbol c d) w at h =
      subst (HasTagsBelow g.tags) (sym h.4)
      (plus_below g.tags h.0 h.1 (shown_below a c (symbol_at g.flat c) h.0 refl h.2) (shown_below b d (symbol_at g.flat d) h.1 refl h.3))
  shown_below StarEndTree s (StarSymbol c) w at h = subst (HasTagsBelow g.tags) (sym h) (none_below g.tags)
  shown_below (StarMoreTree a b) s (StarSymbol c) w at h =
      subst (HasTagsBelow g.tags) (sym h.5)
      (plus_below g.tags h.0 h.1 (shown_below a c (symbol_at g.flat c) h.0 refl h.2) (shown_below b s (StarSymbol c) h.1 at h.3))
  shown_below (LowerTree b) s (LowerSymbol k) w at h =
      shown_below b (root_at g.flat k) (symbol_at g.flat (root_at g.flat k)) w refl h
  shown_below b s y w at h = absurd h

  pub shown_point : (b : Bound) (s : ℕ) (y : Symbol) (w : Word) → symbol_at g.flat s ≡ y → ShowsAt g.flat g.given b y w → IsPoint g.bound g.tags (cut_at g.bound w)
  shown_point b s y w at h = (cut_below g.tags g.bound w (shown_below b s y w at h), sym (cut_twice g.bound w))

  none_or_some : (w : Word) → HasTagsBelow g.tags w → (w ≡ no_word) ⊎ (w ≡ no_word → ⊥)
  none_or_some w below = go (same_below g.tags w no_word) refl
    where
      go : (p : Bool) → same_below g.tags w no_word ≡ p → (w ≡ no_word) ⊎ (w ≡ no_word → ⊥)
      go true e = inl (same_words g.tags w no_word below (none_below g.tags) e)
      go false e = inr (λ z. let t = same_from g.tags w no_word z in cc)

  -- ---- variables with given words

  abbrev TreeAt : Symbol → Word → Type 0
  TreeAt y w = (b : Bound) × ShowsAt g.flat g.given b y w

  star_given : (c : ℕ) (L : Language) → ((u : Word) → L u → TreeAt (symbol_at g.flat c) u) → (n : ℕ) (w : Word) → Times n L w → TreeAt (StarSymbol c) w
  star_given c L each zero w h = (StarEndTree, h)
  star_given c L each (suc n) w h =
      let first = each h.0 h.2 in
      let rest = star_given c L each n h.1 h.3 in
      ⊎_elim
      (λ none. (
        rest.0,
        subst (ShowsAt g.flat g.given rest.0 (StarSymbol c)) (sym (h.4 ∙ ap (λ (x : Word). plus x h.1) none ∙ none_plus h.1)) rest.1,
      ))
      (λ some. (StarMoreTree first.0 rest.0, (h.0, h.1, first.1, rest.1, some, h.4)))
      (none_or_some h.0 (shown_below first.0 c (symbol_at g.flat c) h.0 refl first.1))

  -- a word of the pattern under the given words has a tree
  pub under_at : (e : Pat) (y : Symbol) (w : Word) → StandsAs g.flat GivenSymbol e y → InUnder (λ k. MemberOf (g.given k)) e w → TreeAt y w
  under_at Zero y w st h = absurd h
  under_at One y w st h = subst (λ x. TreeAt x w) (sym st) (EmptyTree, h)
  under_at (Tag m) y w st h = subst (λ x. TreeAt x w) (sym st) (TagTree, h)
  under_at (Sum e f) y w st h =
      subst (λ x. TreeAt x w) (sym st.4)
      (⊎_elim
      (λ k. let r = under_at e (symbol_at g.flat st.0) w st.2 k in (LeftTree r.0, r.1))
      (λ k. let r = under_at f (symbol_at g.flat st.1) w st.3 k in (RightTree r.0, r.1))
      h)
  under_at (Prod e f) y w st h =
      let a = under_at e (symbol_at g.flat st.0) h.0 st.2 h.2 in
      let b = under_at f (symbol_at g.flat st.1) h.1 st.3 h.3 in
      subst (λ x. TreeAt x w) (sym st.4) (BothTree a.0 b.0, (h.0, h.1, a.1, b.1, h.4))
  under_at (Star e) y w st h =
      subst (λ x. TreeAt x w) (sym st.2)
      (star_given st.0 (InUnder (λ k. MemberOf (g.given k)) e) (λ u i. under_at e (symbol_at g.flat st.0) u st.1 i) h.0 w h.1)
  under_at (Var k) y w st h = subst (λ x. TreeAt x w) (sym st) (EmptyTree, h)

-- ---- no tree is smaller than the table says

module _ (g : Setting) (table : Table) (fit : IsFit g) (closed : IsClosed g table) where
  -- a step gives no more than the size of the tree
  abbrev StepFor : Bound → ℕ → Symbol → Word → Type 0
  StepFor b s y w = (size : ℕ) × StepAt g table s y (cut_at g.bound w) size × (size ≤ capped g.limit (tree_size b))

  entry_for : (b : Bound) (s : ℕ) (y : Symbol) (w : Word) → symbol_at g.flat s ≡ y → ShowsAt g.flat g.given b y w → StepFor b s y w → table s (cut_at g.bound w) ≤ capped g.limit (tree_size b)
  entry_for b s y w at h step =
      let low = closed s (cut_at g.bound w) step.0 (shown_point g fit b s y w at h) (subst (λ x. StepAt g table s x (cut_at g.bound w) step.0) (sym at) step.1) in
      let high = step.2 in
      omega arith

  by_one : (b : Bound) (a : ℕ) (u : Word) → table a u ≤ capped g.limit (tree_size b) → (size : ℕ) × StepByOne g table a u size × (size ≤ capped g.limit (1 + tree_size b))
  by_one b a u l =
      let m = one_more g.limit (table a u) (tree_size b) l in
      (capped g.limit (suc (table a u)), (m.0, refl), m.1)

  by_two : (a b : Bound) (c d : ℕ) (u v w : Word) → IsPoint g.bound g.tags (cut_at g.bound u) → IsPoint g.bound g.tags (cut_at g.bound v) → w ≡ plus u v → table c (cut_at g.bound u) ≤ capped g.limit (tree_size a) → table d (cut_at g.bound v) ≤ capped g.limit (tree_size b) → (size : ℕ) × StepByTwo g table c d (cut_at g.bound u) (cut_at g.bound v) (cut_at g.bound w) size × (size ≤ capped g.limit (1 + (tree_size a + tree_size b)))
  by_two a b c d u v w p q e l m =
      let n = two_more g.limit (table c (cut_at g.bound u)) (table d (cut_at g.bound v)) (tree_size a) (tree_size b) l m in (
        capped g.limit (suc (table c (cut_at g.bound u) + table d (cut_at g.bound v))),
        (p, q, n.0, n.1, ap (cut_at g.bound) e ∙ sym (cut_sum g.bound u v), refl),
        n.2,
      )

  pub step_for : (b : Bound) (s : ℕ) (y : Symbol) (w : Word) → symbol_at g.flat s ≡ y → ShowsAt g.flat g.given b y w → StepFor b s y w
  step_for EmptyTree s OneSymbol w at h = (1, (ap (cut_at g.bound) h ∙ cut_none g.bound, refl), leaf_least g.limit)
  step_for EmptyTree s (GivenSymbol k) w at h = (1, ((w, h, refl), refl), leaf_least g.limit)
  step_for TagTree s (TagSymbol m) w at h = (1, (ap (cut_at g.bound) h, refl), leaf_least g.limit)
  step_for (LeftTree b) s (SumSymbol a c) w at h =
      let y = symbol_at g.flat a in
      let r = by_one b a (cut_at g.bound w) (entry_for b a y w refl h (step_for b a y w refl h)) in
      (r.0, inl r.1, r.2)
  step_for (RightTree b) s (SumSymbol a c) w at h =
      let y = symbol_at g.flat c in
      let r = by_one b c (cut_at g.bound w) (entry_for b c y w refl h (step_for b c y w refl h)) in
      (r.0, inr r.1, r.2)
  step_for (BothTree a b) s (ProdSymbol c d) w at h =
      let x = symbol_at g.flat c in
      let y = symbol_at g.flat d in
      let r = by_two a b c d h.0 h.1 w (shown_point g fit a c x h.0 refl h.2) (shown_point g fit b d y h.1 refl h.3) h.4
      (entry_for a c x h.0 refl h.2 (step_for a c x h.0 refl h.2))
      (entry_for b d y h.1 refl h.3 (step_for b d y h.1 refl h.3)) in
      (r.0, (cut_at g.bound h.0, cut_at g.bound h.1, r.1), r.2)
  step_for StarEndTree s (StarSymbol c) w at h =
      (1, inl (ap (cut_at g.bound) h ∙ cut_none g.bound, refl), leaf_least g.limit)
  step_for (StarMoreTree a b) s (StarSymbol c) w at h =
      let x = symbol_at g.flat c in
      let y = StarSymbol c in
      let r = by_two a b c s h.0 h.1 w (shown_point g fit a c x h.0 refl h.2) (shown_point g fit b s y h.1 at h.3) h.5
      (entry_for a c x h.0 refl h.2 (step_for a c x h.0 refl h.2))
      (entry_for b s y h.1 at h.3 (step_for b s y h.1 at h.3)) in
      (r.0, inr (cut_at g.bound h.0, cut_at g.bound h.1, r.1, λ e. h.4 (cut_empty g.bound h.0 fit.bound e)), r.2)
  step_for (LowerTree b) s (LowerSymbol k) w at h =
      let a = root_at g.flat k in
      let y = symbol_at g.flat a in
      by_one b a (cut_at g.bound w) (entry_for b a y w refl h (step_for b a y w refl h))
  step_for b s y w at h = absurd h

  pub entry_least : (s : ℕ) (w : Word) (b : Bound) → ShowsAt g.flat g.given b (symbol_at g.flat s) w → table s (cut_at g.bound w) ≤ capped g.limit (tree_size b)
  entry_least s w b h = entry_for b s (symbol_at g.flat s) w refl h (step_for b s (symbol_at g.flat s) w refl h)

pub least_sizes : (g : Setting) (table : Table) → IsDone g table → IsLeast g table
least_sizes g table done s u b p h =
    subst (λ (x : Word). table s x ≤ capped g.limit (tree_size b)) (sym h.2) (entry_least g table done.fit done.closed s h.0 b h.1)

-- ---- the tree of a step

module _ (g : Setting) (table : Table) where
  -- from trees of the entries that a step takes, a tree of what it gives
  tree_of : (s : ℕ) (y : Symbol) (u : Word) (size : ℕ) → symbol_at g.flat s ≡ y → IsPoint g.bound g.tags u → ((a : ℕ) (v : Word) → IsPoint g.bound g.tags v → IsKnown g.limit (table a v) → capped g.limit (suc (table a v)) ≤ size → HasTree g a v (table a v)) → StepAt g table s y u size → (b : Bound) × ((w : Word) × ShowsAt g.flat g.given b y w × (u ≡ cut_at g.bound w)) × (capped g.limit (tree_size b) ≡ size)
  tree_of s NoSymbol u size at p made h = absurd h
  tree_of s OneSymbol u size at p made h = (EmptyTree, (no_word, refl, h.0 ∙ sym (cut_none g.bound)), leaf_size g.limit size h.1)
  tree_of s (TagSymbol m) u size at p made h = (TagTree, (one m, refl, h.0), leaf_size g.limit size h.1)
  tree_of s (SumSymbol a c) u size at p made h =
      ⊎_elim
      (λ k.
      let t = made a u p k.0 (let e = k.1 in omega arith) in
      (LeftTree t.0, t.1, one_size g.limit (tree_size t.0) (table a u) size t.2 k.1))
      (λ k.
      let t = made c u p k.0 (let e = k.1 in omega arith) in
      (RightTree t.0, t.1, one_size g.limit (tree_size t.0) (table c u) size t.2 k.1))
      h
  tree_of s (ProdSymbol a c) u size at p made h =
      let k = h.2 in
      let x = made a h.0 k.0 k.2 (first_less g.limit (table a h.0) (table c h.1) size k.5) in
      let y = made c h.1 k.1 k.3 (second_less g.limit (table a h.0) (table c h.1) size k.5) in
      let v = x.1 in
      let w = y.1 in (
        BothTree x.0 y.0,
        (plus v.0 w.0, (v.0, w.0, v.1, w.1, refl), cut_of_sum g.bound u h.0 h.1 v.0 w.0 k.4 v.2 w.2),
        two_size g.limit (tree_size x.0) (tree_size y.0) (table a h.0) (table c h.1) size x.2 y.2 k.5,
      )
  tree_of s (StarSymbol a) u size at p made h =
      ⊎_elim
      (λ k. (StarEndTree, (no_word, refl, k.0 ∙ sym (cut_none g.bound)), leaf_size g.limit size k.1))
      (λ j.
      let k = j.2 in
      let x = made a j.0 k.0 k.2 (first_less g.limit (table a j.0) (table s j.1) size k.5) in
      let y = made s j.1 k.1 k.3 (second_less g.limit (table a j.0) (table s j.1) size k.5) in
      let v = x.1 in
      let w = y.1 in (
        StarMoreTree x.0 y.0,
        (
          plus v.0 w.0,
          (v.0, w.0, v.1, subst (λ z. ShowsAt g.flat g.given y.0 z w.0) at w.1, λ e. j.3 (v.2 ∙ ap (cut_at g.bound) e ∙ cut_none g.bound), refl),
          cut_of_sum g.bound u j.0 j.1 v.0 w.0 k.4 v.2 w.2,
        ),
        two_size g.limit (tree_size x.0) (tree_size y.0) (table a j.0) (table s j.1) size x.2 y.2 k.5,
      ))
      h
  tree_of s (LowerSymbol k) u size at p made h =
      let a = root_at g.flat k in
      let t = made a u p h.0 (let e = h.1 in omega arith) in
      (LowerTree t.0, t.1, one_size g.limit (tree_size t.0) (table a u) size t.2 h.1)
  tree_of s (GivenSymbol k) u size at p made h = (EmptyTree, h.0, leaf_size g.limit size h.1)

-- ---- while it is made

pub start_sound : (g : Setting) (table : Table) → ((s : ℕ) (u : Word) → IsPoint g.bound g.tags u → IsKnown g.limit (table s u) → ⊥) → IsSound g table
start_sound g table none s u p k = absurd (none s u p k)

pub steps_sound : (g : Setting) (old new : Table) → IsSound g old → IsStepFrom g old new → IsSound g new
steps_sound g old new sound steps s u p known =
    ⊎_elim
    (λ e. subst (HasTree g s u) (sym e) (sound s u p (subst (IsKnown g.limit) e known)))
    (λ step. tree_of g old s (symbol_at g.flat s) u (new s u) refl p (λ a v q k _. sound a v q k) step)
    (steps s u p)

-- ---- once it is done

pub done_grounded : (g : Setting) (table : Table) → IsDone g table → IsGrounded g table
done_grounded g table done s u p known =
    let t = done.sound s u p known in
    let h = t.1 in
    let step = step_for g table done.fit done.closed t.0 s (symbol_at g.flat s) h.0 refl h.1 in
    let high = step.2 in
    let cap = t.2 in
    let same : table s u ≡ table s (cut_at g.bound h.0) = ap (table s) h.2 in
    let point = shown_point g done.fit t.0 s (symbol_at g.flat s) h.0 refl h.1 in
    let low = done.closed s (cut_at g.bound h.0) step.0 point step.1 in
    let size : step.0 ≡ table s (cut_at g.bound h.0) = omega arith in
    subst (λ (x : Word). Step g table s x (table s x)) (sym h.2)
    (subst (Step g table s (cut_at g.bound h.0)) size step.1)

module _ (g : Setting) (table : Table) (grounded : IsGrounded g table) where
  rebuilt_below : (m s : ℕ) (u : Word) → table s u < m → IsPoint g.bound g.tags u → table s u ≤ g.limit → (b : Bound) × ShowsCut g b s u × (tree_size b ≡ table s u)
  rebuilt_below zero s u less p l = absurd (omega arith)
  rebuilt_below (suc m) s u less p l =
      let t = tree_of g table s (symbol_at g.flat s) u (table s u) refl p
      (λ a v q known falls.
      let r = rebuilt_below m a v (omega arith) q (omega arith) in
      let size = r.2 in
      (r.0, r.1, omega arith))
      (grounded s u p (omega arith)) in
      let cap = t.2 in
      (t.0, t.1, omega arith)

  pub rebuilt : (s : ℕ) (u : Word) → IsPoint g.bound g.tags u → table s u ≤ g.limit → (b : Bound) × ShowsCut g b s u × (tree_size b ≡ table s u)
  rebuilt s u p l = rebuilt_below (suc (table s u)) s u (omega arith) p l

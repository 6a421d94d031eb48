-- Derivable words: the least assignment that meets the lower bounds.
use Rattle.std.proofs.Common.{◌≡◌, ℕ, zero, suc, Bool, true, false, ◌||◌, Option, Some, None, ◌⊎◌, inl, inr, ⊎_elim, refl, sym, ap, ap₂, ◌∙◌, subst, arith, ◌+◌, ◌≤◌}
use Rattle.std.specs.Prelude.{nat_eq}
use Rattle.std.proofs.lemmas.Bool.{cond_both}
use Rattle.pat_words_spec.specs.Words.{Word, no_word, one, plus}
use Rattle.pat_words_spec.specs.Patterns.{Pat, Zero, One, Tag, Sum, Prod, Star, Var, Language, Times, InUnder}
use Rattle.pat_words_laws.proofs.WordLaws.{word_ext, count_eq, none_plus, one_same}
use Rattle.pat_inclusion_spec.specs.bounds.Trees.{Bound, EmptyTree, TagTree, LeftTree, RightTree, BothTree, StarEndTree, StarMoreTree, LowerTree, Shows, Derivable, derivable, takes_one, plus_if, kept_if, tree_word, tree_size}
use Rattle.pat_inclusion_spec.specs.bounds.Assignments.{Meets}

-- ---- empty words

pub first_none : (u v : Word) → plus u v ≡ no_word → u ≡ no_word
first_none u v e = word_ext u no_word (λ t. let h = count_eq (plus u v) no_word e t in omega arith)

pub second_none : (u v : Word) → plus u v ≡ no_word → v ≡ no_word
second_none u v e = word_ext v no_word (λ t. let h = count_eq (plus u v) no_word e t in omega arith)

-- the test tells whether the word is empty
abbrev pub Tells : Bool → Word → Type 0
Tells p w = ((p ≡ false) × (w ≡ no_word)) ⊎ ((p ≡ true) × (w ≡ no_word → ⊥))

tells_both : (p q : Bool) (u v w : Word) → Tells p u → Tells q v → w ≡ plus u v → Tells (p || q) w
tells_both p q u v w hu hv e =
    ⊎_elim
    (λ a. ⊎_elim
    (λ b. inl (ap (λ x. x || q) a.0 ∙ b.0, e ∙ ap (λ (x : Word). plus x v) a.1 ∙ none_plus v ∙ b.1))
    (λ b. inr (ap (λ x. x || q) a.0 ∙ b.0, λ n. b.1 (second_none u v (sym e ∙ n))))
    hv)
    (λ a. inr (ap (λ x. x || q) a.0, λ n. a.1 (first_none u v (sym e ∙ n))))
    hu

one_there : (m : ℕ) (w : Word) → w ≡ one m → w ≡ no_word → ⊥
one_there m w h e = let a = count_eq (one m) no_word (sym h ∙ e) m in let b = one_same m in omega arith

-- a tree shows the empty word just where it takes no message
pub told : (lower : ℕ → Pat) (b : Bound) (e : Pat) (w : Word) → Shows lower b e w → Tells (takes_one b) w
told lower EmptyTree One w h = inl (refl, h)
told lower TagTree (Tag m) w h = inr (refl, one_there m w h)
told lower (LeftTree b) (Sum e f) w h = told lower b e w h
told lower (RightTree b) (Sum e f) w h = told lower b f w h
told lower (BothTree a b) (Prod e f) w h =
    tells_both (takes_one a) (takes_one b) h.0 h.1 w (told lower a e h.0 h.2) (told lower b f h.1 h.3) h.4
told lower StarEndTree (Star e) w h = inl (refl, h)
told lower (StarMoreTree a b) (Star e) w h =
    tells_both (takes_one a) (takes_one b) h.0 h.1 w (told lower a e h.0 h.2) (told lower b (Star e) h.1 h.3) h.5
told lower (LowerTree b) (Var k) w h = told lower b (lower k) w h
told lower b e w h = absurd h

-- ---- the least assignment

-- what a tree shows is in each assignment that meets the lower bounds
pub shown_under : (lower : ℕ → Pat) (values : ℕ → Language) → Meets lower values → (b : Bound) (e : Pat) (w : Word) → Shows lower b e w → InUnder values e w
shown_under lower values meets EmptyTree One w h = h
shown_under lower values meets TagTree (Tag m) w h = h
shown_under lower values meets (LeftTree b) (Sum e f) w h = inl (shown_under lower values meets b e w h)
shown_under lower values meets (RightTree b) (Sum e f) w h = inr (shown_under lower values meets b f w h)
shown_under lower values meets (BothTree a b) (Prod e f) w h =
    (h.0, h.1, shown_under lower values meets a e h.0 h.2, shown_under lower values meets b f h.1 h.3, h.4)
shown_under lower values meets StarEndTree (Star e) w h = (0, h)
shown_under lower values meets (StarMoreTree a b) (Star e) w h =
    let r = shown_under lower values meets b (Star e) h.1 h.3 in
    (suc r.0, (h.0, h.1, shown_under lower values meets a e h.0 h.2, r.1, h.5))
shown_under lower values meets (LowerTree b) (Var k) w h = meets k w (shown_under lower values meets b (lower k) w h)
shown_under lower values meets b e w h = absurd h

star_derivable : (lower : ℕ → Pat) (e : Pat) (L : Language) → ((u : Word) → L u → Derivable lower e u) → (n : ℕ) (w : Word) → Times n L w → Derivable lower (Star e) w
star_derivable lower e L each zero w h = (StarEndTree, h)
star_derivable lower e L each (suc n) w h =
    let first = each h.0 h.2 in
    let rest = star_derivable lower e L each n h.1 h.3 in
    ⊎_elim
    (λ none. (
      rest.0,
      subst (λ (x : Word). Shows lower rest.0 (Star e) x) (sym (h.4 ∙ ap (λ (x : Word). plus x h.1) none.1 ∙ none_plus h.1)) rest.1,
    ))
    (λ some. (StarMoreTree first.0 rest.0, (h.0, h.1, first.1, rest.1, some.1, h.4)))
    (told lower first.0 e h.0 first.1)

-- what a pattern has under the derivable words is derivable for it
pub under_derivable : (lower : ℕ → Pat) (e : Pat) (w : Word) → InUnder (derivable lower) e w → Derivable lower e w
under_derivable lower Zero w h = absurd h
under_derivable lower One w h = (EmptyTree, h)
under_derivable lower (Tag m) w h = (TagTree, h)
under_derivable lower (Sum e f) w h =
    ⊎_elim
    (λ k. let r = under_derivable lower e w k in (LeftTree r.0, r.1))
    (λ k. let r = under_derivable lower f w k in (RightTree r.0, r.1))
    h
under_derivable lower (Prod e f) w h =
    let a = under_derivable lower e h.0 h.2 in
    let b = under_derivable lower f h.1 h.3 in
    (BothTree a.0 b.0, (h.0, h.1, a.1, b.1, h.4))
under_derivable lower (Star e) w h =
    star_derivable lower e (InUnder (derivable lower) e) (under_derivable lower e) h.0 w h.1
under_derivable lower (Var k) w h = h

pub lower_derivable : (lower : ℕ → Pat) (k : ℕ) (w : Word) → Derivable lower (lower k) w → derivable lower k w
lower_derivable lower k w h = (LowerTree h.0, h.1)

pub derivable_meets : (lower : ℕ → Pat) → Meets lower (derivable lower)
derivable_meets lower k w h = lower_derivable lower k w (under_derivable lower (lower k) w h)

pub derivable_under : (lower : ℕ → Pat) (e : Pat) (w : Word) → Derivable lower e w → InUnder (derivable lower) e w
derivable_under lower e w h = shown_under lower (derivable lower) (derivable_meets lower) h.0 e w h.1

-- the tree of a variable goes on in its lower bound
pub derivable_lower : (lower : ℕ → Pat) (k : ℕ) (w : Word) → derivable lower k w → Derivable lower (lower k) w
derivable_lower lower k w h = go h.0 h.1
  where
    go : (b : Bound) → Shows lower b (Var k) w → Derivable lower (lower k) w
    go (LowerTree b) s = (b, s)
    go b s = absurd s

-- ---- the word of a tree

plus_parts : (x y : Option Word) (w : Word) → plus_if x y ≡ Some w → (u v : Word) × (x ≡ Some u) × (y ≡ Some v) × (w ≡ plus u v)
plus_parts (Some u) (Some v) w h = (u, v, refl, refl, cc)
plus_parts None y w h = cc
plus_parts (Some u) None w h = cc

kept_parts : (p : Bool) (x : Option Word) (u : Word) → kept_if p x ≡ Some u → (p ≡ true) × (x ≡ Some u)
kept_parts true x u h = (refl, h)
kept_parts false x u h = cc

tells_some : (p : Bool) (u : Word) → Tells p u → p ≡ true → u ≡ no_word → ⊥
tells_some p u h t = ⊎_elim (λ a. cc) (λ b. b.1) h

tells_true : (p : Bool) (u : Word) → Tells p u → (u ≡ no_word → ⊥) → p ≡ true
tells_true p u h n = ⊎_elim (λ a. absurd (n a.1)) (λ b. b.0) h

pub word_shown : (lower : ℕ → Pat) (b : Bound) (e : Pat) (w : Word) → tree_word lower b e ≡ Some w → Shows lower b e w
word_shown lower EmptyTree One w h = cc
word_shown lower TagTree (Tag m) w h = cc
word_shown lower (LeftTree b) (Sum e f) w h = word_shown lower b e w h
word_shown lower (RightTree b) (Sum e f) w h = word_shown lower b f w h
word_shown lower (BothTree a b) (Prod e f) w h =
    let p = plus_parts (tree_word lower a e) (tree_word lower b f) w h in
    (p.0, p.1, word_shown lower a e p.0 p.2, word_shown lower b f p.1 p.3, p.4)
word_shown lower StarEndTree (Star e) w h = cc
word_shown lower (StarMoreTree a b) (Star e) w h =
    let p = plus_parts (kept_if (takes_one a) (tree_word lower a e)) (tree_word lower b (Star e)) w h in
    let q = kept_parts (takes_one a) (tree_word lower a e) p.0 p.2 in
    let first = word_shown lower a e p.0 q.1 in
    (p.0, p.1, first, word_shown lower b (Star e) p.1 p.3, tells_some (takes_one a) p.0 (told lower a e p.0 first) q.0, p.4)
word_shown lower (LowerTree b) (Var k) w h = word_shown lower b (lower k) w h
word_shown lower b e w h = cc

pub shown_word : (lower : ℕ → Pat) (b : Bound) (e : Pat) (w : Word) → Shows lower b e w → tree_word lower b e ≡ Some w
shown_word lower EmptyTree One w h = ap Some (sym h)
shown_word lower TagTree (Tag m) w h = ap Some (sym h)
shown_word lower (LeftTree b) (Sum e f) w h = shown_word lower b e w h
shown_word lower (RightTree b) (Sum e f) w h = shown_word lower b f w h
shown_word lower (BothTree a b) (Prod e f) w h =
    ap₂ plus_if (shown_word lower a e h.0 h.2) (shown_word lower b f h.1 h.3) ∙ ap Some (sym h.4)
shown_word lower StarEndTree (Star e) w h = ap Some (sym h)
shown_word lower (StarMoreTree a b) (Star e) w h =
    ap₂ plus_if
    (ap₂ kept_if (tells_true (takes_one a) h.0 (told lower a e h.0 h.2) h.4) (shown_word lower a e h.0 h.2))
    (shown_word lower b (Star e) h.1 h.3)
    ∙ ap Some (sym h.5)
shown_word lower (LowerTree b) (Var k) w h = shown_word lower b (lower k) w h
shown_word lower b e w h = absurd h

-- ---- how large a word may be

one_small : (m t : ℕ) → one m t ≤ 1
one_small m t = cond_both (nat_eq t m) 1 0 (λ x. x ≤ 1) (λ _. omega arith) (λ _. omega arith)

sum_small : (u v w : Word) (t m n : ℕ) → u t ≤ m → v t ≤ n → w ≡ plus u v → w t ≤ 1 + (m + n)
sum_small u v w t m n h k e = let c = count_eq w (plus u v) e t in omega arith

none_small : (w : Word) (t n : ℕ) → w ≡ no_word → w t ≤ n
none_small w t n e = let c = count_eq w no_word e t in omega arith

step_small : (x n : ℕ) → x ≤ n → x ≤ 1 + n
step_small x n h = omega arith

-- no count is above the number of nodes
pub small_word : (lower : ℕ → Pat) (b : Bound) (e : Pat) (w : Word) (t : ℕ) → Shows lower b e w → w t ≤ tree_size b
small_word lower EmptyTree One w t h = none_small w t 1 h
small_word lower TagTree (Tag m) w t h = let c = count_eq w (one m) h t in let l = one_small m t in omega arith
small_word lower (LeftTree b) (Sum e f) w t h = step_small (w t) (tree_size b) (small_word lower b e w t h)
small_word lower (RightTree b) (Sum e f) w t h = step_small (w t) (tree_size b) (small_word lower b f w t h)
small_word lower (BothTree a b) (Prod e f) w t h =
    sum_small h.0 h.1 w t (tree_size a) (tree_size b) (small_word lower a e h.0 t h.2) (small_word lower b f h.1 t h.3) h.4
small_word lower StarEndTree (Star e) w t h = none_small w t 1 h
small_word lower (StarMoreTree a b) (Star e) w t h =
    sum_small h.0 h.1 w t (tree_size a) (tree_size b) (small_word lower a e h.0 t h.2) (small_word lower b (Star e) h.1 t h.3) h.5
small_word lower (LowerTree b) (Var k) w t h = step_small (w t) (tree_size b) (small_word lower b (lower k) w t h)
small_word lower b e w t h = absurd h

-- What is done on a walk, task by task.
use Rattle.std.proofs.Common.{◌≡◌, ℕ, ◌<◌, ◌≤◌, Bool, true, false, not, ◌||◌, List, [], ◌∷◌, ◌++◌, Option, Some, None, refl, sym, ap, ap₂, ◌∙◌, subst, arith}
use Rattle.std.specs.Prelude.{Result, Ok, Err, IfOk, slice_get, IsTrue, ◌↔◌}
use Rattle.pat_words_spec.specs.Words.{Word, no_word, one, plus}
use Rattle.pat_words_spec.specs.Patterns.{Pat, Zero, One, Tag, Sum, Prod, Star, Var}
use Rattle.pat_words_laws.proofs.WordLaws.{count_eq, plus_assoc, plus_none, none_plus, plus_comm, one_same, cancel_one}
use Rattle.pat_inclusion_spec.specs.bounds.Trees.{Bound, EmptyTree, TagTree, LeftTree, RightTree, BothTree, StarEndTree, StarMoreTree, LowerTree, tree_size, bounds_of, bound_in, takes_one, plus_if, kept_if, tree_word}
use Rattle.pat_refutations.specs.Tasks.{Task, WalkTask, TakeTask, ForgetTask, SeeTask, opened, opened_bound, Opens, Takes, Done, weights, Does}

some_is : (u v : Word) → Some u ≡ Some v → u ≡ v
some_is u v e = cc

none_some : (u : Word) → None ≡ Some u → ⊥
none_some u e = cc

size_some : (b : Bound) → 1 ≤ tree_size b
size_some EmptyTree = omega arith
size_some TagTree = omega arith
size_some (LeftTree b) = omega arith
size_some (RightTree b) = omega arith
size_some (BothTree a b) = omega arith
size_some StarEndTree = omega arith
size_some (StarMoreTree a b) = omega arith
size_some (LowerTree b) = omega arith

-- both words, if there are both
both_if : (x y : Option Word) (w : Word) → plus_if x y ≡ Some w → (u v : Word) × (x ≡ Some u) × (y ≡ Some v) × (plus u v ≡ w)
both_if (Some u) (Some v) w h = (u, v, refl, refl, some_is (plus u v) w h)
both_if None y w h = absurd (none_some w h)
both_if (Some u) None w h = absurd (none_some w h)

-- what has words that are the same, under what was taken
moved : (lower : ℕ → Pat) (ts : List Task) (a b : Bool) (v : Word) → a ≡ b → Done lower ts a v → Done lower ts b v
moved lower ts a b v e h = subst (λ x. Done lower ts x v) e h

or_assoc : (a b c : Bool) → ((a || b) || c) ≡ (a || (b || c))
or_assoc true b c = refl
or_assoc false b c = refl

or_true : (a b : Bool) → b ≡ true → (a || b) ≡ true
or_true true b e = refl
or_true false b e = e

or_false : (a : Bool) → (a || false) ≡ a
or_false true = refl
or_false false = refl

kept_some : (b : Bool) (x : Option Word) (u : Word) → kept_if b x ≡ Some u → (b ≡ true) × (x ≡ Some u)
kept_some true x u h = (refl, h)
kept_some false x u h = absurd (none_some u h)

module _ (lower : ℕ → Pat) where
  -- a tree that takes nothing
  nothing_to : (b : Bound) (e : Pat) (ts : List Task) (took : Bool) (w : Word) → tree_word lower b e ≡ Some no_word → takes_one b ≡ false → Done lower (WalkTask b e ∷ ts) took w ↔ Done lower ts took w
  nothing_to b e ts took w h n = (
    λ d. let same = some_is d.0 no_word (sym d.2 ∙ h) in
        let whole : d.1 ≡ w = sym (d.3 ∙ ap (plus d.1) same ∙ plus_none d.1) in
        subst (λ (x : Word). Done lower ts took x) whole (moved lower ts (took || takes_one b) took d.1 (ap (λ x. took || x) n ∙ or_false took) d.4),
    λ d. (no_word, w, h, sym (plus_none w), moved lower ts took (took || takes_one b) w (sym (ap (λ x. took || x) n ∙ or_false took)) d),
  )

  -- one tree goes on in one other
  one_to : (b c : Bound) (e f : Pat) (ts : List Task) (took : Bool) (w : Word) → tree_word lower b e ≡ tree_word lower c f → takes_one b ≡ takes_one c → Done lower (WalkTask b e ∷ ts) took w ↔ Done lower (WalkTask c f ∷ ts) took w
  one_to b c e f ts took w h n = (
    λ d. (d.0, d.1, sym h ∙ d.2, d.3, moved lower ts (took || takes_one b) (took || takes_one c) d.1 (ap (λ x. took || x) n) d.4),
    λ d. (d.0, d.1, h ∙ d.2, d.3, moved lower ts (took || takes_one c) (took || takes_one b) d.1 (ap (λ x. took || x) (sym n)) d.4),
  )

  both_to : (a b : Bound) (e f : Pat) (ts : List Task) (took : Bool) (w : Word) → Done lower (WalkTask (BothTree a b) (Prod e f) ∷ ts) took w ↔ Done lower (WalkTask a e ∷ WalkTask b f ∷ ts) took w
  both_to a b e f ts took w = (
    λ d. let p = both_if (tree_word lower a e) (tree_word lower b f) d.0 d.2 in (
      p.0,
      plus d.1 p.1,
      p.2,
      d.3 ∙ ap (plus d.1) (sym p.4 ∙ plus_comm p.0 p.1) ∙ sym (plus_assoc d.1 p.1 p.0),
      (p.1, d.1, p.3, refl, moved lower ts (took || (takes_one a || takes_one b)) ((took || takes_one a) || takes_one b) d.1 (sym (or_assoc took (takes_one a) (takes_one b))) d.4),
    ),
    λ d. let q = d.4 in (
      plus d.0 q.0,
      q.1,
      ap₂ plus_if d.2 q.2,
      d.3 ∙ ap (λ (x : Word). plus x d.0) q.3 ∙ plus_assoc q.1 q.0 d.0 ∙ ap (plus q.1) (plus_comm q.0 d.0),
      moved lower ts ((took || takes_one a) || takes_one b) (took || (takes_one a || takes_one b)) q.1 (or_assoc took (takes_one a) (takes_one b)) q.4,
    ),
  )

  more_to : (a b : Bound) (e : Pat) (ts : List Task) (took : Bool) (w : Word) → Done lower (WalkTask (StarMoreTree a b) (Star e) ∷ ts) took w ↔ Done lower (ForgetTask ∷ WalkTask a e ∷ SeeTask ∷ WalkTask b (Star e) ∷ ts) took w
  more_to a b e ts took w = (
    λ d. let p = both_if (kept_if (takes_one a) (tree_word lower a e)) (tree_word lower b (Star e)) d.0 d.2 in
        let k = kept_some (takes_one a) (tree_word lower a e) p.0 p.2 in (
          p.0,
          plus d.1 p.1,
          k.1,
          d.3 ∙ ap (plus d.1) (sym p.4 ∙ plus_comm p.0 p.1) ∙ sym (plus_assoc d.1 p.1 p.0),
          (k.0, (p.1, d.1, p.3, refl, moved lower ts (took || (takes_one a || takes_one b)) (takes_one a || takes_one b) d.1 (or_true took (takes_one a || takes_one b) (left_true (takes_one a) (takes_one b) k.0) ∙ sym (left_true (takes_one a) (takes_one b) k.0)) d.4)),
        ),
    λ d. let q = d.4.1 in
        let some = d.4.0 in (
          plus d.0 q.0,
          q.1,
          ap₂ plus_if (ap (λ x. kept_if x (tree_word lower a e)) some ∙ d.2) q.2,
          d.3 ∙ ap (λ (x : Word). plus x d.0) q.3 ∙ plus_assoc q.1 q.0 d.0 ∙ ap (plus q.1) (plus_comm q.0 d.0),
          moved lower ts (takes_one a || takes_one b) (took || (takes_one a || takes_one b)) q.1 (left_true (takes_one a) (takes_one b) some ∙ sym (or_true took (takes_one a || takes_one b) (left_true (takes_one a) (takes_one b) some))) q.4,
        ),
  )
    where
      left_true : (a b : Bool) → a ≡ true → (a || b) ≡ true
      left_true a b e = ap (λ x. x || b) e

  tag_to : (m : ℕ) (ts : List Task) (took : Bool) (w : Word) → Done lower (WalkTask TagTree (Tag m) ∷ ts) took w ↔ Done lower (TakeTask m ∷ ts) took w
  tag_to m ts took w = (
    λ d. (d.1, d.3 ∙ ap (plus d.1) (sym (some_is (one m) d.0 d.2)), moved lower ts (took || true) true d.1 (or_true took true refl) d.4),
    λ d. (one m, d.0, refl, d.1, moved lower ts true (took || true) d.0 (sym (or_true took true refl)) d.2),
  )

-- ---- a tree opened

bound_word : (system : List Pat) (b : Bound) (k : ℕ) (o : Option Pat) → slice_get system k ≡ o → tree_word (bounds_of system) (LowerTree b) (Var k) ≡ tree_word (bounds_of system) b (bound_in o)
bound_word system b k o e = ap (λ x. tree_word (bounds_of system) b (bound_in x)) e

no_zero : (lower : ℕ → Pat) (b : Bound) → tree_word lower b Zero ≡ None
no_zero lower EmptyTree = refl
no_zero lower TagTree = refl
no_zero lower (LeftTree b) = refl
no_zero lower (RightTree b) = refl
no_zero lower (BothTree a b) = refl
no_zero lower StarEndTree = refl
no_zero lower (StarMoreTree a b) = refl
no_zero lower (LowerTree b) = refl

-- a tree that can't be opened shows nothing
closed : (system : List Pat) (b : Bound) (e : Pat) (ts : List Task) (took : Bool) (w : Word) → tree_word (bounds_of system) b e ≡ None → Done (bounds_of system) (WalkTask b e ∷ ts) took w → ⊥
closed system b e ts took w h d = none_some d.0 (sym h ∙ d.2)

-- what comes of opening a tree
abbrev pub Goes : List Pat → Bound → Pat → List Task → Type 0
Goes system b e ts =
    (rest : List Task) (took : Bool) (w : Word)
    → (Done (bounds_of system) (WalkTask b e ∷ rest) took w ↔ Done (bounds_of system) (ts ++ rest) took w)
    × (weights (ts ++ rest) < weights (WalkTask b e ∷ rest))

bound_goes : (system : List Pat) (b : Bound) (k : ℕ) (o : Option Pat) (ts : List Task) → slice_get system k ≡ o → opened_bound b o ≡ Some ts → Goes system (LowerTree b) (Var k) ts
bound_goes system b k None ts e h rest took w = absurd (cc)
bound_goes system b k (Some f) ts e h rest took w =
    let same : (WalkTask b f ∷ []) ≡ ts = cc in
    subst (λ l. (Done (bounds_of system) (WalkTask (LowerTree b) (Var k) ∷ rest) took w ↔ Done (bounds_of system) (l ++ rest) took w) × (weights (l ++ rest) < weights (WalkTask (LowerTree b) (Var k) ∷ rest)))
    same
    (one_to (bounds_of system) (LowerTree b) b (Var k) f rest took w (bound_word system b k (Some f) e) refl, omega arith)

goes : (system : List Pat) (b : Bound) (e : Pat) (ts : List Task) → opened system b e ≡ Some ts → Goes system b e ts
goes system EmptyTree One ts h rest took w =
    let same : [] ≡ ts = cc in
    subst (λ l. (Done (bounds_of system) (WalkTask EmptyTree One ∷ rest) took w ↔ Done (bounds_of system) (l ++ rest) took w) × (weights (l ++ rest) < weights (WalkTask EmptyTree One ∷ rest)))
    same
    (nothing_to (bounds_of system) EmptyTree One rest took w refl refl, omega arith)
goes system TagTree (Tag m) ts h rest took w =
    let same : (TakeTask m ∷ []) ≡ ts = cc in
    subst (λ l. (Done (bounds_of system) (WalkTask TagTree (Tag m) ∷ rest) took w ↔ Done (bounds_of system) (l ++ rest) took w) × (weights (l ++ rest) < weights (WalkTask TagTree (Tag m) ∷ rest)))
    same
    (tag_to (bounds_of system) m rest took w, omega arith)
goes system (LeftTree b) (Sum e f) ts h rest took w =
    let same : (WalkTask b e ∷ []) ≡ ts = cc in
    subst (λ l. (Done (bounds_of system) (WalkTask (LeftTree b) (Sum e f) ∷ rest) took w ↔ Done (bounds_of system) (l ++ rest) took w) × (weights (l ++ rest) < weights (WalkTask (LeftTree b) (Sum e f) ∷ rest)))
    same
    (one_to (bounds_of system) (LeftTree b) b (Sum e f) e rest took w refl refl, omega arith)
goes system (RightTree b) (Sum e f) ts h rest took w =
    let same : (WalkTask b f ∷ []) ≡ ts = cc in
    subst (λ l. (Done (bounds_of system) (WalkTask (RightTree b) (Sum e f) ∷ rest) took w ↔ Done (bounds_of system) (l ++ rest) took w) × (weights (l ++ rest) < weights (WalkTask (RightTree b) (Sum e f) ∷ rest)))
    same
    (one_to (bounds_of system) (RightTree b) b (Sum e f) f rest took w refl refl, omega arith)
goes system (BothTree a b) (Prod e f) ts h rest took w =
    let same : (WalkTask a e ∷ WalkTask b f ∷ []) ≡ ts = cc in
    subst (λ l. (Done (bounds_of system) (WalkTask (BothTree a b) (Prod e f) ∷ rest) took w ↔ Done (bounds_of system) (l ++ rest) took w) × (weights (l ++ rest) < weights (WalkTask (BothTree a b) (Prod e f) ∷ rest)))
    same
    (both_to (bounds_of system) a b e f rest took w, omega arith)
goes system StarEndTree (Star e) ts h rest took w =
    let same : [] ≡ ts = cc in
    subst (λ l. (Done (bounds_of system) (WalkTask StarEndTree (Star e) ∷ rest) took w ↔ Done (bounds_of system) (l ++ rest) took w) × (weights (l ++ rest) < weights (WalkTask StarEndTree (Star e) ∷ rest)))
    same
    (nothing_to (bounds_of system) StarEndTree (Star e) rest took w refl refl, omega arith)
goes system (StarMoreTree a b) (Star e) ts h rest took w =
    let same : (ForgetTask ∷ WalkTask a e ∷ SeeTask ∷ WalkTask b (Star e) ∷ []) ≡ ts = cc in
    subst (λ l. (Done (bounds_of system) (WalkTask (StarMoreTree a b) (Star e) ∷ rest) took w ↔ Done (bounds_of system) (l ++ rest) took w) × (weights (l ++ rest) < weights (WalkTask (StarMoreTree a b) (Star e) ∷ rest)))
    same
    (more_to (bounds_of system) a b e rest took w, omega arith)
goes system (LowerTree b) (Var k) ts h rest took w = bound_goes system b k (slice_get system k) ts refl h rest took w
goes system b e ts h rest took w = absurd (none_list ts h)
  where
    none_list : (ts : List Task) → None ≡ Some ts → ⊥
    none_list ts h = cc

bound_none : (system : List Pat) (b : Bound) (k : ℕ) (o : Option Pat) → slice_get system k ≡ o → opened_bound b o ≡ None → tree_word (bounds_of system) (LowerTree b) (Var k) ≡ None
bound_none system b k None e h = bound_word system b k None e ∙ no_zero (bounds_of system) b
bound_none system b k (Some f) e h = absurd (cc)

shows_nothing : (system : List Pat) (b : Bound) (e : Pat) → opened system b e ≡ None → tree_word (bounds_of system) b e ≡ None
shows_nothing system EmptyTree One h = absurd (cc)
shows_nothing system TagTree (Tag m) h = absurd (cc)
shows_nothing system (LeftTree b) (Sum e f) h = absurd (cc)
shows_nothing system (RightTree b) (Sum e f) h = absurd (cc)
shows_nothing system (BothTree a b) (Prod e f) h = absurd (cc)
shows_nothing system StarEndTree (Star e) h = absurd (cc)
shows_nothing system (StarMoreTree a b) (Star e) h = absurd (cc)
shows_nothing system (LowerTree b) (Var k) h = bound_none system b k (slice_get system k) refl h
shows_nothing system b e h = refl

-- ---- tasks

pub walk_does : {E : Type 0} → (system : List Pat) (b : Bound) (e : Pat) (r : Result Bool E) (old new : List Task) (took : Bool) (w : Word) → Opens r (opened system b e) old new → IfOk r (λ y. Does system (WalkTask b e) y old took w new took w)
walk_does {E = E} system b e r old new took w h = go r (opened system b e) refl h
  where
    go : (r : Result Bool E) (o : Option (List Task)) → opened system b e ≡ o → Opens r o old new → IfOk r (λ y. Does system (WalkTask b e) y old took w new took w)
    go (Ok true) (Some ts) q h =
        subst (λ l. (Done (bounds_of system) (WalkTask b e ∷ old) took w ↔ Done (bounds_of system) l took w) × (weights l < weights (WalkTask b e ∷ old))) (sym h) (goes system b e ts q old took w)
    go (Ok true) None q h = absurd h
    go (Ok false) (Some ts) q h = absurd h
    go (Ok false) None q h = closed system b e old took w (shows_nothing system b e q)
    go (Err x) o q h = tt

pub take_does : (system : List Pat) (m : ℕ) (y : Bool) (ts : List Task) (took taken : Bool) (w v : Word) → Takes m y w taken v → Does system (TakeTask m) y ts took w ts taken v
take_does system m true ts took taken w v h = (
  (
    λ d. let same : d.0 ≡ v = cancel_one d.0 v m (sym d.1 ∙ h.0) in
        subst (λ (x : Word). Done (bounds_of system) ts taken x) same (moved (bounds_of system) ts true taken d.0 (sym h.1) d.2),
    λ d. (v, h.0, moved (bounds_of system) ts taken true v h.1 d),
  ),
  omega arith,
)
take_does system m false ts took taken w v h = λ d.
    let a = count_eq w (plus d.0 (one m)) d.1 m in
    let b = one_same m in
    absurd (omega arith)

pub forget_does : (system : List Pat) (ts : List Task) (took : Bool) (w : Word) → Does system ForgetTask true ts took w ts false w
forget_does system ts took w = ((λ d. d, λ d. d), omega arith)

untrue : false ≡ true → ⊥
untrue e = cc

pub see_does : (system : List Pat) (took : Bool) (ts : List Task) (w : Word) → Does system SeeTask took ts took w ts took w
see_does system true ts w = ((λ d. d.1, λ d. (refl, d)), omega arith)
see_does system false ts w = λ d. untrue d.0

-- ---- the whole walk

pub begun : (lower : ℕ → Pat) (b : Bound) (e : Pat) (w : Word) → Done lower (WalkTask b e ∷ []) false w ↔ (tree_word lower b e ≡ Some w)
begun lower b e w = (
  λ d. d.2 ∙ ap Some (sym (none_plus d.0) ∙ ap (λ (x : Word). plus x d.0) (sym d.4) ∙ sym d.3),
  λ h. (w, no_word, h, sym (none_plus w), refl),
)

pub begun_with : (lower : ℕ → Pat) (b : Bound) (e : Pat) (w : Word) (ts : List Task) → ts ≡ WalkTask b e ∷ [] → Done lower ts false w ↔ (tree_word lower b e ≡ Some w)
begun_with lower b e w ts same = subst (λ l. Done lower l false w ↔ (tree_word lower b e ≡ Some w)) (sym same) (begun lower b e w)

pub ended : (lower : ℕ → Pat) (ts : List Task) (took : Bool) (w : Word) (empty : Bool) (Q : Type 0) → ts ≡ [] → (IsTrue empty ↔ (w ≡ no_word)) → (Done lower ts took w ↔ Q) → IsTrue empty ↔ Q
ended lower ts took w empty Q none says same =
    let here : Done lower [] took w ↔ Q = subst (λ l. Done lower l took w ↔ Q) none same in
    (λ y. here.0 (says.0 y), λ q. says.1 (here.1 q))

-- ---- the answer

pub not_shown : (y : Bool) (T S N : Type 0) → y ≡ false → (IsTrue y ↔ T) → (T ↔ S) → IsTrue false ↔ (S × N)
not_shown y T S N e says law = (
  λ h. absurd (untrue h),
  λ p. sym e ∙ says.1 (law.1 p.0),
)

pub outside : (y inside : Bool) (T S I : Type 0) → y ≡ true → (IsTrue y ↔ T) → (T ↔ S) → (IsTrue inside ↔ I) → IsTrue (not inside) ↔ (S × (I → ⊥))
outside y true T S I e says law is = (λ h. absurd (untrue h), λ p. absurd (p.1 (is.0 refl)))
outside y false T S I e says law is = (λ h. (law.0 (says.0 e), λ i. untrue (is.1 i)), λ p. refl)

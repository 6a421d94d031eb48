-- What the grids of values say of a pattern over them.
use Rattle.std.proofs.Common.{◌≡◌, ℕ, zero, suc, ◌+◌, ◌<◌, ◌≤◌, ◌↔◌, ⊎_elim, inl, inr, Bool, true, false, List, [], ◌∷◌, ◌++◌, map, length, get_or, take, Some, refl, sym, ap, ◌∙◌, subst, arith}
use Rattle.std.specs.Prelude.{slice_get, ◌&&◌, nat_lt, Result, Ok, Err, IfOk}
use Rattle.std.proofs.lemmas.Option.{slice_get_past}
use Rattle.pat_grid_certificates.proofs.Points.{cut_lower, cut_higher, member_cut, all_fit}
use Rattle.std.proofs.lemmas.Bool.{and_parts}
use Rattle.std.proofs.lemmas.List.{take_more, map-append}
use Rattle.pat_words_spec.specs.Words.{Word}
use Rattle.pat_words_spec.specs.Patterns.{Pat, Sum, Var, In, InUnder, no_values, is_closed, subst_of}
use Rattle.pat_words_spec.specs.Tags.{tags_below, HasTagsBelow}
use Rattle.pat_words_spec.specs.Cuts.{cut_at, CutOf}
use Rattle.pat_words_spec.specs.Languages.{MemberOf}
use Rattle.pat_inclusion_spec.specs.Points.{points_pattern}
use Rattle.pat_inclusion_spec.specs.Values.{VarValue, PatternForm, GridForm, value_pattern, value_fits}
use Rattle.pat_inclusion_laws.proofs.CutLaws.{cut_below, cut_twice}
use Rattle.pat_inclusion_laws.proofs.PointLaws.{points_tags}
use Rattle.pat_inclusion_spec.specs.bounds.CutSets.{IsPoint}
use Rattle.pat_inclusion_laws.proofs.ClosedLaws.{eval_to, eval_from}
use Rattle.pat_inclusion_laws.proofs.GridLaws.{under_below}
use Rattle.pat_grid_points.specs.declared.grid.Grid.{Grid}
use Rattle.pat_grid_points.specs.Views.{HasPoint, points_of}
use Rattle.pat_grid_points.proofs.Members.{member_point, point_member}
use Rattle.pat_grid.specs.tables.Views.{points_in_grid, given_words, AreGrids}
use Rattle.pat_grid_certificates.specs.declared.values.VarValue.{VarValue as CodeValue}
use Rattle.pat_grid_certificates.specs.declared.values.Right.{Right as CodeRight}
use Rattle.pat_grid_certificates.specs.declared.values.Right.TheVariants.{Pattern as RightPattern, Var as RightVar}
use Rattle.pat_patterns.specs.declared.pattern.Pattern.{Pattern}
use Rattle.pat_patterns.specs.Views.{pattern_view}
use Rattle.pat_bags.specs.declared.Bag.{Bag}
use Rattle.pat_bags.specs.Views.{word_of}
use Rattle.pat_grid_certificates.specs.Views.{value_view, values_view, counts_view, right_view}
use Rattle.pat_grid_certificates.specs.Shows.{patterns_of, right_of, is_large, form_in, ValuesFit, CutsLie, WordsLie}
use Rattle.pat_grid_certificates.specs.Cutting.{IsValueGrid, AreValueGrids, IsCutMember}

-- ---- grids of values, one after another

grids_more : (k n : ℕ) (values : List VarValue) (grids : List Grid) (v : VarValue) (g : Grid) → AreValueGrids k n values grids → IsValueGrid k n v g → AreValueGrids k n (values ++ v ∷ []) (grids ++ g ∷ [])
grids_more k n [] [] v g h r = (r, tt)
grids_more k n [] (x ∷ grids) v g h r = absurd h
grids_more k n (w ∷ values) [] v g h r = absurd h
grids_more k n (w ∷ values) (x ∷ grids) v g h r = (h.0, grids_more k n values grids v g h.1 r)

pub grids_turn : (k n i : ℕ) (values : List CodeValue) (item : CodeValue) (old new : List Grid) (g : Grid) → i < length values → item ≡ get_or values i item → AreValueGrids k n (values_view (take i values)) old → IsValueGrid k n (value_view item) g → new ≡ old ++ g ∷ [] → AreValueGrids k n (values_view (take (i + 1) values)) new
grids_turn k n i values item old new g l is h r e =
    subst (AreValueGrids k n (values_view (take (i + 1) values))) (sym e)
    (subst (λ vs. AreValueGrids k n vs (old ++ g ∷ []))
    (sym (ap values_view (take_more values i item l ∙ ap (λ v. take i values ++ v ∷ []) (sym is)) ∙ map-append value_view (take i values) (item ∷ [])))
    (grids_more k n (values_view (take i values)) old (value_view item) g h r))

pub fit_at : (n i : ℕ) (values : List CodeValue) (item : CodeValue) → ValuesFit n (values_view values) → i < length values → item ≡ get_or values i item → value_fits n (value_view item) ≡ true
fit_at n i [] item h l e = absurd (omega arith)
fit_at n zero (v ∷ values) item h l e = subst (λ x. value_fits n (value_view x) ≡ true) (sym e) h.0
fit_at n (suc i) (v ∷ values) item h l e = fit_at n i values item h.1 (omega arith) e

-- ---- a grid of a value

pub pattern_below : (n : ℕ) (v : VarValue) (w : Word) → value_fits n v ≡ true → In (value_pattern n v) w → HasTagsBelow n w
pattern_below n (PatternForm e) w h m =
    let p = and_parts (nat_lt 0 n) (is_closed e && tags_below n e) h in
    under_below n no_values (λ j x z. absurd z) e (and_parts (is_closed e) (tags_below n e) p.1).1 w m
pattern_below n (GridForm k points) w h m =
    under_below n no_values (λ j x z. absurd z) (points_pattern k n points) (points_tags n k points) w m

grid_words : (k n : ℕ) (v : VarValue) (g : Grid) → value_fits n v ≡ true → IsValueGrid k n v g → (u : Word) → CutOf k (MemberOf (points_of g)) u ↔ CutOf k (In (value_pattern n v)) u
grid_words k n v g fits is u = (
  λ h.
      let has = member_point g h.0 h.1 in
      let point : IsPoint k n h.0 = subst (λ x. IsPoint x n h.0) is.bound (subst (λ x. IsPoint g.k x h.0) is.tags has.0) in
      subst (CutOf k (In (value_pattern n v))) (sym (h.2 ∙ sym point.1)) ((is.points h.0 point).0 has),
  λ h.
      let below = cut_below n k h.0 (pattern_below n v h.0 fits h.1) in
      let point : IsPoint k n u = (subst (HasTagsBelow n) (sym h.2) below, h.2 ∙ sym (cut_twice k h.0) ∙ ap (cut_at k) (sym h.2)) in
      (u, point_member g u ((is.points u point).1 h), point.1),
)

given_at : (k n : ℕ) (values : List VarValue) (grids : List Grid) → ValuesFit n values → AreValueGrids k n values grids → (j : ℕ) (u : Word) → CutOf k (MemberOf (given_words grids j)) u ↔ CutOf k (In (patterns_of n values j)) u
given_at k n [] [] fit are j u = (λ h. absurd h.1, λ h. absurd h.1)
given_at k n [] (g ∷ grids) fit are j u = absurd are
given_at k n (v ∷ values) [] fit are j u = absurd are
given_at k n (v ∷ values) (g ∷ grids) fit are zero u = grid_words k n v g fit.0 are.0 u
given_at k n (v ∷ values) (g ∷ grids) fit are (suc j) u = given_at k n values grids fit.1 are.1 j u

pub are_grids : (k n : ℕ) (values : List VarValue) (grids : List Grid) → AreValueGrids k n values grids → AreGrids k n grids
are_grids k n [] [] are j g e = absurd (cc)
are_grids k n [] (x ∷ grids) are j g e = absurd are
are_grids k n (v ∷ values) [] are j g e = absurd (cc)
are_grids k n (v ∷ values) (x ∷ grids) are zero g e =
    let same : x ≡ g = cc in subst (λ y. (y.k ≡ k) × (y.tags ≡ n)) same (are.0.bound, are.0.tags)
are_grids k n (v ∷ values) (x ∷ grids) are (suc j) g e = are_grids k n values grids are.1 j g e

-- the grid at a place is that of the value there
pub grid_value : (k n : ℕ) (values : List VarValue) (grids : List Grid) (j : ℕ) (g : Grid) → AreValueGrids k n values grids → slice_get grids j ≡ Some g → (u : Word) → IsPoint k n u → HasPoint g u ↔ CutOf k (In (patterns_of n values j)) u
grid_value k n [] [] j g are e = absurd (cc)
grid_value k n [] (x ∷ grids) j g are e = absurd are
grid_value k n (v ∷ values) [] j g are e = absurd are
grid_value k n (v ∷ values) (x ∷ grids) zero g are e =
    let same : x ≡ g = cc in λ u p. subst (λ y. HasPoint y u ↔ CutOf k (In (value_pattern n v)) u) same (are.0.points u p)
grid_value k n (v ∷ values) (x ∷ grids) (suc j) g are e = grid_value k n values grids j g are.1 e

-- ---- values as grids

pub pattern_grid : (k n : ℕ) (e : Pat) (g : Grid) → (g.k ≡ k) × (g.tags ≡ n) → ((u : Word) → IsPoint k n u → HasPoint g u ↔ CutOf k (InUnder (λ j. MemberOf (given_words [] j)) e) u) → IsValueGrid k n (PatternForm e) g
pattern_grid k n e g like has = record { bound = like.0; tags = like.1; points = has }

pub lower_grid : (k n b : ℕ) (bs : List Bag) (g : Grid) → value_fits n (GridForm b (counts_view bs)) ≡ true → k ≤ b → (g.k ≡ k) × (g.tags ≡ n) → ((u : Word) → HasPoint g u ↔ IsCutMember k bs u) → IsValueGrid k n (GridForm b (counts_view bs)) g
lower_grid k n b bs g fits l like has = record {
  bound = like.0;
  tags = like.1;
  points = λ u p. let c = cut_lower b n bs fits k l u in (λ h. c.0 ((has u).0 h), λ h. (has u).1 (c.1 h));
}

pub higher_grid : (k n b : ℕ) (bs : List Bag) (own g : Grid) → value_fits n (GridForm b (counts_view bs)) ≡ true → b ≤ k → (own.k ≡ b) × (own.tags ≡ n) → ((u : Word) → HasPoint own u ↔ IsCutMember b bs u) → (g.k ≡ k) × (g.tags ≡ own.tags) → ((u : Word) → IsPoint k own.tags u → HasPoint g u ↔ HasPoint own (cut_at own.k u)) → IsValueGrid k n (GridForm b (counts_view bs)) g
higher_grid k n b bs own g fits l mine own_has like has = record {
  bound = like.0;
  tags = like.1 ∙ mine.1;
  points = λ u p.
      let c = cut_higher b n bs fits k l u p in
      let h = has u (subst (λ i. IsPoint k i u) (sym mine.1) p) in
      let o = own_has (cut_at own.k u) in
      let m : IsCutMember b bs (cut_at own.k u) ↔ CutOf k (In (points_pattern b n (counts_view bs))) u =
      subst (λ i. IsCutMember b bs (cut_at i u) ↔ CutOf k (In (points_pattern b n (counts_view bs))) u) (sym mine.0) c in
      (λ x. m.0 (o.0 (h.0 x)), λ x. h.1 (o.1 (m.1 x)));
}

-- what follows from two facts of an answer
pub if_both : {A E : Type 0} (P Q R : A → Type 0) (r : Result A E) → IfOk r P → IfOk r Q → ((x : A) → P x → Q x → R x) → IfOk r R
if_both P Q R (Ok x) p q h = h x p q
if_both P Q R (Err e) p q h = tt

-- the grid of the points themselves
pub own_points : (n b : ℕ) (bs : List Bag) (g : Grid) → value_fits n (GridForm b (counts_view bs)) ≡ true → ((u : Word) → HasPoint g u ↔ MemberOf (map word_of bs) u) → (u : Word) → HasPoint g u ↔ IsCutMember b bs u
own_points n b bs g fits has u =
    let m = member_cut b n bs u (all_fit n b bs fits) in (λ h. m.0 ((has u).0 h), λ h. (has u).1 (m.1 h))

pub same_grid : (k n b : ℕ) (bs : List Bag) (g : Grid) → value_fits n (GridForm b (counts_view bs)) ≡ true → b ≡ k → (g.k ≡ b) × (g.tags ≡ n) → ((u : Word) → HasPoint g u ↔ MemberOf (map word_of bs) u) → IsValueGrid k n (GridForm b (counts_view bs)) g
same_grid k n b bs g fits e like has =
    subst (λ i. IsValueGrid i n (GridForm b (counts_view bs)) g) e (lower_grid b n b bs g fits (omega arith) like (own_points n b bs g fits has))

-- ---- the grid at a place

found : (grids : List Grid) (i : ℕ) (g : Grid) → i < length grids → g ≡ get_or grids i g → slice_get grids i ≡ Some g
found [] i g l e = absurd (omega arith)
found (x ∷ grids) zero g l e = ap Some (sym e)
found (x ∷ grids) (suc i) g l e = found grids i g (omega arith) e

pub found_at : (grids : List Grid) (i : ℕ) (g : Grid) → i < length grids → g ≡ get_or grids i g → slice_get grids i ≡ Some g
found_at grids i g l e = found grids i g l e

-- grids that are like one grid
pub grids_like : (k n : ℕ) (grids : List Grid) (g : Grid) → AreGrids k n grids → (g.k ≡ k) × (g.tags ≡ n) → AreGrids g.k g.tags grids
grids_like k n grids g are like j x e =
    let a = are j x e in (a.0 ∙ sym like.0, a.1 ∙ sym like.1)

pub tags_like : (n : ℕ) (e : Pat) (g : Grid) → tags_below n e ≡ true → g.tags ≡ n → tags_below g.tags e ≡ true
tags_like n e g t like = subst (λ m. tags_below m e ≡ true) (sym like) t

-- ---- words that lie in a grid

module _ (env : List Grid) (other : Grid) where
  sum_lies : (e f : Pat) → WordsLie env (Sum e f) other ↔ (WordsLie env e other × WordsLie env f other)
  sum_lies e f = (
    λ h. (λ u p c. h u p (c.0, inl c.1, c.2), λ u p c. h u p (c.0, inr c.1, c.2)),
    λ both u p c. ⊎_elim (λ m. both.0 u p (c.0, m, c.2)) (λ m. both.1 u p (c.0, m, c.2)) c.1,
  )

  pub sum_refused : (e f : Pat) (r : Bool) → r ≡ false → (r ≡ true) ↔ WordsLie env e other → (false ≡ true) ↔ WordsLie env (Sum e f) other
  sum_refused e f r refused h = (
    λ t. cc,
    λ lie. sym refused ∙ h.1 ((sum_lies e f).0 lie).0,
  )

  pub sum_rest : {E : Type 0} (e f : Pat) (r : Bool) (more : Result Bool E) → r ≡ true → (r ≡ true) ↔ WordsLie env e other → IfOk more (λ yes. (yes ≡ true) ↔ WordsLie env f other) → IfOk more (λ yes. (yes ≡ true) ↔ WordsLie env (Sum e f) other)
  sum_rest e f r (Err x) shown h rest = tt
  sum_rest e f r (Ok answer) shown h rest = (
    λ t. (sum_lies e f).1 (h.0 shown, rest.0 t),
    λ lie. rest.1 ((sum_lies e f).0 lie).1,
  )

  -- by the grid that is made of the pattern
  pub made_lies : (e : Pat) (g : Grid) (r : Bool) → (g.k ≡ other.k) × (g.tags ≡ other.tags) → ((u : Word) → IsPoint other.k other.tags u → HasPoint g u ↔ CutOf other.k (InUnder (λ j. MemberOf (given_words env j)) e) u) → (r ≡ true) ↔ ((u : Word) → HasPoint g u → HasPoint other u) → (r ≡ true) ↔ WordsLie env e other
  made_lies e g r like has h = (
    λ t u p c. h.0 t u ((has u p).1 c),
    λ lie. h.1 (λ u m.
        let point : IsPoint other.k other.tags u = subst (λ x. IsPoint x other.tags u) like.0 (subst (λ x. IsPoint g.k x u) like.1 m.0) in
        lie u point ((has u point).0 m)),
  )

  -- by the grid at the place, if there is one
  pub value_lies : (j : ℕ) (own : Grid) (r : Bool) → AreGrids other.k other.tags env → j < length env → own ≡ get_or env j own → (r ≡ true) ↔ ((u : Word) → HasPoint own u → HasPoint other u) → (r ≡ true) ↔ WordsLie env (Var j) other
  value_lies j own r are l e h =
      let at = found_at env j own l e in
      let like = are j own at in (
        λ t u p c.
            let has = member_point own c.0 (subst (λ o. MemberOf (points_in_grid o) c.0) at c.1) in
            let point = has.0 in
            let same : u ≡ c.0 = c.2 ∙ ap (λ i. cut_at i c.0) (sym like.0) ∙ sym point.1 in
            h.0 t u (subst (HasPoint own) (sym same) has),
        λ lie. h.1 (λ u m.
            let point : IsPoint other.k other.tags u = subst (λ x. IsPoint x other.tags u) like.0 (subst (λ x. IsPoint own.k x u) like.1 m.0) in
            lie u point (u, subst (λ o. MemberOf (points_in_grid o) u) (sym at) (point_member own u m), point.1)),
      )

  pub none_lies : (j : ℕ) → length env ≤ j → (true ≡ true) ↔ WordsLie env (Var j) other
  none_lies j l = (
    λ t u p c. absurd (subst (λ o. MemberOf (points_in_grid o) c.0) (slice_get_past env j l) c.1),
    λ lie. refl,
  )

-- the grid at the place
pub one_lies : {E : Type 0} (P : Grid → Type 0) (grids : List Grid) (i : ℕ) (g : Grid) (r : Result Bool E) → i < length grids → g ≡ get_or grids i g → IfOk r (λ yes. (yes ≡ true) ↔ P g) → IfOk r (λ yes. (yes ≡ true) ↔ ((x : Grid) × (slice_get grids i ≡ Some x) × P x))
one_lies P grids i g (Err x) l e h = tt
one_lies P grids i g (Ok yes_or_not) l e h =
    let at = found_at grids i g l e in (
      λ t. (g, at, h.0 t),
      λ x.
          let same : x.0 ≡ g = cc in
          h.1 (subst P same x.2),
    )

pub none_there : (P : Grid → Type 0) (grids : List Grid) (i : ℕ) → length grids ≤ i → (false ≡ true) ↔ ((x : Grid) × (slice_get grids i ≡ Some x) × P x)
none_there P grids i l = (λ t. cc, λ x. let past = slice_get_past grids i l in absurd (cc))

-- ---- the answer

-- where the bound is large enough for a variable, its grid is there
grid_there : (k n : ℕ) (values : List VarValue) (grids : List Grid) (j : ℕ) → AreValueGrids k n values grids → form_in k (slice_get values j) ≡ true → (g : Grid) × (slice_get grids j ≡ Some g)
grid_there k n [] grids j are h = absurd (cc)
grid_there k n (v ∷ values) [] j are h = absurd are
grid_there k n (v ∷ values) (g ∷ grids) zero are h = (g, refl)
grid_there k n (v ∷ values) (g ∷ grids) (suc j) are h = grid_there k n values grids j are.1 h

module _ (k n : ℕ) (vs : List VarValue) (grids : List Grid) (fit : ValuesFit n vs) (are : AreValueGrids k n vs grids) where
  -- the words under the grids lie in the grid of the other side's words just where the cuts lie in one another
  lies_just : (e f : Pat) (g : Grid) → (g.k ≡ k) × (g.tags ≡ n) → ((u : Word) → IsPoint k n u → HasPoint g u ↔ CutOf k (In f) u) → WordsLie grids e g ↔ CutsLie k n (subst_of (patterns_of n vs) e) f
  lies_just e f g like right = (
    λ lie u p c.
        let under = eval_from k (given_words grids) (patterns_of n vs) e u (given_at k n vs grids fit are) c in
        (right u p).0
        (lie u (subst (λ x. IsPoint x g.tags u) (sym like.0) (subst (λ x. IsPoint k x u) (sym like.1) p))
        (subst (λ x. CutOf x (InUnder (λ j. MemberOf (given_words grids j)) e) u) (sym like.0) under)),
    λ cuts u p c.
        let point : IsPoint k n u = subst (λ x. IsPoint x n u) like.0 (subst (λ x. IsPoint g.k x u) like.1 p) in
        let under = subst (λ x. CutOf x (InUnder (λ j. MemberOf (given_words grids j)) e) u) like.0 c in
        (right u point).1 (cuts u point (eval_to k (given_words grids) (patterns_of n vs) e u (given_at k n vs grids fit are) under)),
  )

  pub pattern_answer : {E : Type 0} (right : CodeRight) (f : Pattern) (e : Pat) (g : Grid) (r : Result Bool E) → right ≡ RightPattern f → is_large k vs (right_view right) ≡ true → (g.k ≡ k) × (g.tags ≡ n) → ((u : Word) → IsPoint k n u → HasPoint g u ↔ CutOf k (In (pattern_view f)) u) → IfOk r (λ yes. (yes ≡ true) ↔ WordsLie grids e g) → IfOk r (λ yes. (yes ≡ true) ↔ ((is_large k vs (right_view right) ≡ true) × CutsLie k n (subst_of (patterns_of n vs) e) (right_of n vs (right_view right))))
  pattern_answer right f e g (Err x) is large like has h = tt
  pattern_answer right f e g (Ok yes_or_not) is large like has h =
      let just = lies_just e (pattern_view f) g like has in
      let same : pattern_view f ≡ right_of n vs (right_view right) = ap (λ x. right_of n vs (right_view x)) (sym is) in (
        λ t. (large, subst (CutsLie k n (subst_of (patterns_of n vs) e)) same (just.0 (h.0 t))),
        λ p. h.1 (just.1 (subst (CutsLie k n (subst_of (patterns_of n vs) e)) (sym same) p.1)),
      )

  pub one_answer : {E : Type 0} (j : ℕ) (right : CodeRight) (e : Pat) (r : Result Bool E) → right ≡ RightVar j → is_large k vs (right_view right) ≡ true → IfOk r (λ yes. (yes ≡ true) ↔ ((x : Grid) × (slice_get grids j ≡ Some x) × WordsLie grids e x)) → IfOk r (λ yes. (yes ≡ true) ↔ ((is_large k vs (right_view right) ≡ true) × CutsLie k n (subst_of (patterns_of n vs) e) (right_of n vs (right_view right))))
  one_answer j right e (Err x) is large h = tt
  one_answer j right e (Ok yes_or_not) is large h =
      let same : patterns_of n vs j ≡ right_of n vs (right_view right) = ap (λ x. right_of n vs (right_view x)) (sym is) in (
        λ t.
            let x = h.0 t in
            (large, subst (CutsLie k n (subst_of (patterns_of n vs) e)) same ((lies_just e (patterns_of n vs j) x.0 (are_grids k n vs grids are j x.0 x.1) (grid_value k n vs grids j x.0 are x.1)).0 x.2)),
        λ p.
            let x = grid_there k n vs grids j are (subst (λ y. is_large k vs (right_view y) ≡ true) is large) in
            h.1 (x.0, x.1, (lies_just e (patterns_of n vs j) x.0 (are_grids k n vs grids are j x.0 x.1) (grid_value k n vs grids j x.0 are x.1)).1 (subst (CutsLie k n (subst_of (patterns_of n vs) e)) (sym same) p.1)),
      )

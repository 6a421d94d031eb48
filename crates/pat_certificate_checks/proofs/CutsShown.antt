-- What the check of a grid says is what the definition asks.
use Rattle.std.proofs.Common.{◌≡◌, ℕ, zero, suc, ◌<◌, ◌↔◌, Bool, true, false, ◌&&◌, List, [], ◌∷◌, Option, Some, None, refl, sym, ap, ap₂, ◌∙◌, subst}
use Rattle.std.specs.Prelude.{slice_get, nat_eq, nat_lt}
use Rattle.std.specs.Cmp.{both_ways}
use Rattle.std.proofs.lemmas.Bool.{and_parts, and_from}
use Rattle.pat_words_spec.specs.Words.{Word}
use Rattle.pat_words_spec.specs.Patterns.{Pat, Zero, One, Tag, Sum, Prod, Star, Var, In, no_values, is_closed, subst_of}
use Rattle.pat_words_spec.specs.Tags.{tags_below, HasTagsBelow}
use Rattle.pat_words_spec.specs.Flats.{is_choice, is_flat, degree_of}
use Rattle.pat_words_spec.specs.Cuts.{cut_at, CutOf}
use Rattle.pat_semantics_spec.specs.Programs.{is_among}
use Rattle.pat_inclusion_spec.specs.Points.{grid_fits}
use Rattle.pat_inclusion_spec.specs.CutWords.{cuts_lie}
use Rattle.pat_inclusion_spec.specs.Values.{VarValue, PatternForm, GridForm, VarLine, Scope, var_at, is_formed, values_fit, pattern_of}
use Rattle.pat_inclusion_spec.specs.Certificates.{has_bound, is_large_enough, grid_shows}
use Rattle.pat_inclusion_laws.proofs.CutLaws.{cut_below, cut_twice, cuts_include}
use Rattle.pat_inclusion_laws.proofs.Exact.{included_cuts}
use Rattle.pat_inclusion_laws.proofs.Shown.{closed_to, closed_from, replaced_tags}
use Rattle.pat_inclusion_spec.specs.bounds.CutSets.{IsPoint}
use Rattle.pat_inclusion_spec.specs.bounds.Assignments.{Right, PatternRight, VarRight}
use Rattle.pat_inclusion_laws.proofs.GridLaws.{under_below}
use Rattle.pat_grid_certificates.specs.Shows.{has_form, form_in, patterns_of, is_large, right_of, right_tags, CutsLie, ValuesFit}
use Rattle.pat_certificate_checks.specs.Numbering.{with_names, place_of, renumbered, right_in, or_none, values_of}
use Rattle.pat_certificate_checks.proofs.Numbered.{Named, names_named, named_before, OfInterface, names_of, no_names, at_place, place_pattern, numbered_subst, numbered_tags, right_in_tags, values_fitting}

-- ---- cuts

word_point : (k n : ℕ) (e : Pat) (w : Word) → tags_below n e ≡ true → In e w → IsPoint k n (cut_at k w)
word_point k n e w t h = (cut_below n k w (under_below n no_values (λ j x z. absurd z) e t w h), sym (cut_twice k w))

pub cuts_decide : (k n : ℕ) (e f : Pat) → tags_below n e ≡ true → tags_below n f ≡ true → CutsLie k n e f ↔ (cuts_lie k n e f ≡ true)
cuts_decide k n e f te tf = (
  λ lie. included_cuts k n e f te tf
      (λ w h. let r = lie (cut_at k w) (word_point k n e w te h) (w, h, refl) in (r.0, r.1, sym r.2)),
  λ h u point c.
      let r = cuts_include k n e f te tf h c.0 c.1 in (r.0, r.1, c.2 ∙ sym r.2),
)

-- ---- the right side

flat_closed : (e : Pat) → is_flat e ≡ true → is_closed e ≡ true
flat_closed Zero h = refl
flat_closed One h = refl
flat_closed (Tag m) h = refl
flat_closed (Var k) h = absurd (cc)
flat_closed (Sum a b) h = let p = and_parts (is_flat a) (is_flat b) h in and_from (is_closed a) (is_closed b) (flat_closed a p.0) (flat_closed b p.1)
flat_closed (Prod a b) h = let p = and_parts (is_flat a) (is_flat b) h in and_from (is_closed a) (is_closed b) (flat_closed a p.0) (flat_closed b p.1)
flat_closed (Star a) h = choice_closed a h
  where
    choice_closed : (c : Pat) → is_choice c ≡ true → is_closed c ≡ true
    choice_closed Zero h = refl
    choice_closed One h = refl
    choice_closed (Tag m) h = refl
    choice_closed (Sum a b) h =
        let p = and_parts (is_choice a) (is_choice b) h in and_from (is_closed a) (is_closed b) (choice_closed a p.0) (choice_closed b p.1)
    choice_closed (Prod a b) h = absurd (cc)
    choice_closed (Star a) h = absurd (cc)
    choice_closed (Var k) h = absurd (cc)

bound_form : (k : ℕ) (o : Option VarLine) → has_form k (or_none o) ≡ has_bound k o
bound_form k None = refl
bound_form k (Some v) =
    elim v.value as (λ x. has_form k x ≡ has_bound k (Some (record { interface = v.interface; value = x }))) [ PatternForm e ↦ refl | GridForm b points ↦ refl ]

large_right : (s : Scope) (k : ℕ) (names : List ℕ) (f : Pat) → Named names f → is_large k (values_of s.vars names) (right_in names f) ≡ is_large_enough s k f
large_right s k names (Var m) h = ap (form_in k) (at_place s.vars m names h) ∙ bound_form k (var_at s.vars m)
large_right s k names Zero h = refl
large_right s k names One h = refl
large_right s k names (Tag m) h = refl
large_right s k names (Sum a b) h = refl
large_right s k names (Prod a b) h = refl
large_right s k names (Star a) h = refl

flat_words : (s : Scope) (k : ℕ) (f : Pat) → (is_flat f && nat_lt (degree_of f) k) ≡ true → (w : Word) → In f w ↔ In (subst_of (pattern_of s) f) w
flat_words s k f h w =
    let c = flat_closed f (and_parts (is_flat f) (nat_lt (degree_of f) k) h).0 in (closed_from s f c w, closed_to s f c w)

same_words : (e f : Pat) → e ≡ f → (w : Word) → In e w ↔ In f w
same_words e f q w = (subst (λ x. In x w) q, subst (λ x. In x w) (sym q))

right_words : (s : Scope) (i n k : ℕ) (names : List ℕ) (f : Pat) → s.tags i ≡ n → OfInterface s i names → Named names f → is_large_enough s k f ≡ true → (w : Word) → In (right_of n (values_of s.vars names) (right_in names f)) w ↔ In (subst_of (pattern_of s) f) w
right_words s i n k names (Var m) t all h l = same_words (patterns_of n (values_of s.vars names) (place_of names m)) (pattern_of s m) (place_pattern s i n m names t all h)
right_words s i n k names Zero t all h l = flat_words s k Zero l
right_words s i n k names One t all h l = flat_words s k One l
right_words s i n k names (Tag m) t all h l = flat_words s k (Tag m) l
right_words s i n k names (Sum a b) t all h l = flat_words s k (Sum a b) l
right_words s i n k names (Prod a b) t all h l = flat_words s k (Prod a b) l
right_words s i n k names (Star a) t all h l = flat_words s k (Star a) l

lie_by : (k n : ℕ) (e f g : Pat) → ((w : Word) → In f w → In g w) → CutsLie k n e f → CutsLie k n e g
lie_by k n e f g into lie u point c = let r = lie u point c in (r.0, into r.0 r.1, r.2)

-- ---- all together

module _ (s : Scope) (i n : ℕ) (e f : Pat) (t : s.tags i ≡ n) (fit : values_fit s ≡ true) (fe : is_formed s i e ≡ true) (ff : is_formed s i f ≡ true) (names : List ℕ) (own : names ≡ with_names (with_names [] e) f) where
  all : OfInterface s i names
  all = subst (OfInterface s i) (sym own) (names_of s i f (with_names [] e) (names_of s i e [] (no_names s i) fe) ff)

  named_left : Named names e
  named_left = subst (λ ns. Named ns e) (sym own) (named_before e f [])

  named_right : Named names f
  named_right = subst (λ ns. Named ns f) (sym own) (names_named f (with_names [] e))

  pub left_below : (left : Pat) → left ≡ renumbered names e → tags_below n left ≡ true
  left_below left q = subst (λ x. tags_below n x ≡ true) (sym q) (numbered_tags s i n names e t fe)

  pub right_below : (right : Right) → right ≡ right_in names f → right_tags n right ≡ true
  right_below right q = subst (λ x. right_tags n x ≡ true) (sym q) (right_in_tags s i n names f t ff)

  pub values_below : (values : List VarValue) → values ≡ values_of s.vars names → ValuesFit n values
  values_below values q = subst (ValuesFit n) (sym q) (values_fitting s i n names t fit all)

  module _ (k : ℕ) (left : Pat) (right : Right) (values : List VarValue) (el : left ≡ renumbered names e) (er : right ≡ right_in names f) (ev : values ≡ values_of s.vars names) where
    abbrev whole_left : Pat
    whole_left = subst_of (pattern_of s) e

    abbrev whole_right : Pat
    whole_right = subst_of (pattern_of s) f

    left_tags : tags_below n whole_left ≡ true
    left_tags = subst (λ m. tags_below m whole_left ≡ true) t (replaced_tags s i e fit fe)

    right_tags_whole : tags_below n whole_right ≡ true
    right_tags_whole = subst (λ m. tags_below m whole_right ≡ true) t (replaced_tags s i f fit ff)

    left_is : subst_of (patterns_of n values) left ≡ whole_left
    left_is = ap₂ (λ v l. subst_of (patterns_of n v) l) ev el ∙ numbered_subst s i n names e t all named_left

    large_is : is_large k values right ≡ is_large_enough s k f
    large_is = ap₂ (is_large k) ev er ∙ large_right s k names f named_right

    right_is : is_large_enough s k f ≡ true → (w : Word) → In (right_of n values right) w ↔ In whole_right w
    right_is l w = subst (λ x. In x w ↔ In whole_right w) (sym (ap₂ (right_of n) ev er)) (right_words s i n k names f t all named_right l w)

    decided : (b : Bool) → ((b ≡ true) ↔ ((is_large k values right ≡ true) × CutsLie k n (subst_of (patterns_of n values) left) (right_of n values right))) → b ≡ (is_large_enough s k f && cuts_lie k n whole_left whole_right)
    decided b law =
        both_ways b (is_large_enough s k f && cuts_lie k n whole_left whole_right)
        (λ y.
        let r = law.0 y in
        let large : is_large_enough s k f ≡ true = sym large_is ∙ r.0 in
        let lies = lie_by k n whole_left (right_of n values right) whole_right (λ w. (right_is large w).0) (subst (λ x. CutsLie k n x (right_of n values right)) left_is r.1) in
        and_from (is_large_enough s k f) (cuts_lie k n whole_left whole_right) large ((cuts_decide k n whole_left whole_right left_tags right_tags_whole).0 lies))
        (λ z.
        let q = and_parts (is_large_enough s k f) (cuts_lie k n whole_left whole_right) z in
        let lies = (cuts_decide k n whole_left whole_right left_tags right_tags_whole).1 q.1 in
        let lie = lie_by k n whole_left whole_right (right_of n values right) (λ w. (right_is q.0 w).1) lies in
        law.1 (large_is ∙ q.0, subst (λ x. CutsLie k n x (right_of n values right)) (sym left_is) lie))

    pub grid_decided : (b : Bool) → grid_fits k n ≡ true → ((b ≡ true) ↔ ((is_large k values right ≡ true) × CutsLie k n (subst_of (patterns_of n values) left) (right_of n values right))) → b ≡ grid_shows s k (s.tags i) e f
    grid_decided b fits law =
        decided b law
        ∙ ap (λ g. g && (is_large_enough s k f && cuts_lie k n whole_left whole_right)) (sym fits)
        ∙ ap (λ m. grid_shows s k m e f) (sym t)

-- a bound with which no grid is worked shows nothing
pub no_grid : (s : Scope) (k i n : ℕ) (e f : Pat) → s.tags i ≡ n → grid_fits k n ≡ false → false ≡ grid_shows s k (s.tags i) e f
no_grid s k i n e f t none =
    ap (λ g. g && (is_large_enough s k f && cuts_lie k n (subst_of (pattern_of s) e) (subst_of (pattern_of s) f))) (sym none)
    ∙ ap (λ m. grid_shows s k m e f) (sym t)

-- What is shown is an inclusion of the patterns in which each variable is replaced.
use Rattle.std.proofs.Common.{◌≡◌, ℕ, zero, suc, ◌≤◌, true, not, ◌&&◌, ◌||◌, List, [], ◌∷◌, Option, Some, None, inl, inr, ⊎_elim, refl, sym, ap, ◌∙◌, subst}
use Rattle.std.specs.Prelude.{slice_get, nat_lt, nat_le, ◌^◌, ◌+◌}
use Rattle.std.specs.List.{list_all}
use Rattle.std.proofs.lemmas.Bool.{and_parts, or_cases, eqb-true, ltb-true, leb-true}
use Rattle.pat_words_spec.specs.Words.{Word}
use Rattle.pat_words_spec.specs.Patterns.{Pat, Zero, One, Tag, Sum, Prod, Star, Var, Language, InUnder, In, Included, no_values, pat_eq, is_closed, subst_of}
use Rattle.pat_words_spec.specs.Flats.{is_flat, degree_of}
use Rattle.pat_words_spec.specs.Cuts.{cut_at}
use Rattle.pat_words_laws.proofs.PatternLaws.{pat_eq_same}
use Rattle.pat_words_laws.proofs.FormLaws.{subst_to, subst_from}
use Rattle.pat_words_laws.proofs.ClosedPatterns.{under_mono, under_closed, flat_closed}
use Rattle.pat_words_spec.specs.Tags.{tags_below}
use Rattle.pat_inclusion_spec.specs.Points.{grid_fits, points_pattern}
use Rattle.pat_inclusion_spec.specs.CutWords.{cuts_lie}
use Rattle.pat_inclusion_spec.specs.Values.{VarValue, PatternForm, GridForm, VarLine, Scope, var_at, value_pattern, line_pattern, pattern_of, plain_or_var, plainly_replaced, has_interface, is_formed, value_fits, values_fit}
use Rattle.pat_inclusion_spec.specs.Certificates.{Cert, CoverCert, GridCert, is_arm, is_trivial, has_bound, is_large_enough, grid_shows, cert_shows, shows, is_shown_in}
use Rattle.pat_inclusion_laws.proofs.CoverLaws.{cover_includes}
use Rattle.pat_inclusion_laws.proofs.Pumping.{flat_by_cut}
use Rattle.pat_inclusion_laws.proofs.CutLaws.{cuts_include}
use Rattle.pat_inclusion_laws.proofs.PointLaws.{points_by_cut, sum_tags, prod_tags, star_tags, points_tags}
use Rattle.pat_limits.specs.Limits.{most_points}

-- each value is one that its variable may have
abbrev pub ValuesFit : Scope → Type 0
ValuesFit s = values_fit s ≡ true

value_at_place : (tags : ℕ → ℕ) (vars : List VarLine) (k : ℕ) (v : VarLine) → list_all (λ u. value_fits (tags u.interface) u.value) vars ≡ true → slice_get vars k ≡ Some v → value_fits (tags v.interface) v.value ≡ true
value_at_place tags [] k v h at = cc
value_at_place tags (u ∷ us) zero v h at =
    let same : u ≡ v = cc in
    subst (λ x. value_fits (tags x.interface) x.value ≡ true) same (and_parts (value_fits (tags u.interface) u.value) (list_all (λ x. value_fits (tags x.interface) x.value) us) h).0
value_at_place tags (u ∷ us) (suc k) v h at =
    value_at_place tags us k v (and_parts (value_fits (tags u.interface) u.value) (list_all (λ x. value_fits (tags x.interface) x.value) us) h).1 at

pub value_fits_at : (s : Scope) (k : ℕ) (v : VarLine) → ValuesFit s → var_at s.vars k ≡ Some v → value_fits (s.tags v.interface) v.value ≡ true
value_fits_at s zero v h at = cc
value_fits_at s (suc k) v h at = value_at_place s.tags s.vars k v h at

-- ---- words under values

-- replacing does nothing to the words of a pattern without variables
pub closed_to : (s : Scope) (e : Pat) → is_closed e ≡ true → (w : Word) → In (subst_of (pattern_of s) e) w → In e w
closed_to s e c w h = under_closed (λ k. In (pattern_of s k)) no_values e c w (subst_to (pattern_of s) no_values e w h)

pub closed_from : (s : Scope) (e : Pat) → is_closed e ≡ true → (w : Word) → In e w → In (subst_of (pattern_of s) e) w
closed_from s e c w h = subst_from (pattern_of s) no_values e w (under_closed no_values (λ k. In (pattern_of s k)) e c w h)

-- ---- trivial inclusions

arm_into : (ls : ℕ → Language) (a b : Pat) → is_arm a b ≡ true → (w : Word) → InUnder ls a w → InUnder ls b w
arm_into ls a (Sum f g) h w i =
    ⊎_elim
    (λ q. subst (λ x. InUnder ls x w) (pat_eq_same a (Sum f g) q) i)
    (λ r. ⊎_elim (λ l. inl (arm_into ls a f l w i)) (λ k. inr (arm_into ls a g k w i)) (or_cases (is_arm a f) (is_arm a g) r))
    (or_cases (pat_eq a (Sum f g)) (is_arm a f || is_arm a g) h)
arm_into ls a b h w i = subst (λ x. InUnder ls x w) (pat_eq_same a b h) i

-- the words of a variable's value
abbrev ValueWords : Scope → ℕ → Language
ValueWords s k = In (pattern_of s k)

plain_to : (s : Scope) → ValuesFit s → (k : ℕ) (w : Word) → InUnder (ValueWords s) (plain_or_var k (var_at s.vars k)) w → In (pattern_of s k) w
plain_to s fit k w h = go (var_at s.vars k) refl h
  where
    by : (v : VarLine) (x : VarValue) → v.value ≡ x → var_at s.vars k ≡ Some v → InUnder (ValueWords s) (plain_or_var k (Some v)) w → In (pattern_of s k) w
    by v (PatternForm e) q at i =
        let fits = subst (λ y. value_fits (s.tags v.interface) y ≡ true) q (value_fits_at s k v fit at) in
        let shape = subst (λ y. InUnder (ValueWords s) (plain_or_var k (Some (record { interface = v.interface; value = y }))) w) q i in
        let words = under_closed (ValueWords s) no_values e (and_parts (is_closed e) (tags_below (s.tags v.interface) e) (and_parts (nat_lt 0 (s.tags v.interface)) (is_closed e && tags_below (s.tags v.interface) e) fits).1).0 w shape in
        subst (λ o. In (line_pattern s.tags o) w) (sym at) (subst (λ y. In (value_pattern (s.tags v.interface) y) w) (sym q) words)
    by v (GridForm b points) q at i =
        subst (λ y. InUnder (ValueWords s) (plain_or_var k (Some (record { interface = v.interface; value = y }))) w) q i

    go : (o : Option VarLine) → var_at s.vars k ≡ o → InUnder (ValueWords s) (plain_or_var k o) w → In (pattern_of s k) w
    go None at i = i
    go (Some v) at i = by v v.value refl at i

plain_from : (s : Scope) → ValuesFit s → (k : ℕ) (w : Word) → In (pattern_of s k) w → InUnder (ValueWords s) (plain_or_var k (var_at s.vars k)) w
plain_from s fit k w h = go (var_at s.vars k) refl
  where
    by : (v : VarLine) (x : VarValue) → v.value ≡ x → var_at s.vars k ≡ Some v → InUnder (ValueWords s) (plain_or_var k (Some (record { interface = v.interface; value = x }))) w
    by v (PatternForm e) q at =
        let fits = subst (λ y. value_fits (s.tags v.interface) y ≡ true) q (value_fits_at s k v fit at) in
        let words = subst (λ y. In (value_pattern (s.tags v.interface) y) w) q (subst (λ o. In (line_pattern s.tags o) w) at h) in
        under_closed no_values (ValueWords s) e (and_parts (is_closed e) (tags_below (s.tags v.interface) e) (and_parts (nat_lt 0 (s.tags v.interface)) (is_closed e && tags_below (s.tags v.interface) e) fits).1).0 w words
    by v (GridForm b points) q at = h

    go : (o : Option VarLine) → var_at s.vars k ≡ o → InUnder (ValueWords s) (plain_or_var k o) w
    go None at = h
    go (Some v) at = by v v.value refl at

trivial_includes : (s : Scope) (e f : Pat) → ValuesFit s → is_trivial s e f ≡ true → Included (subst_of (pattern_of s) e) (subst_of (pattern_of s) f)
trivial_includes s e f fit h w i =
    let half : ℕ → Pat = λ k. plain_or_var k (var_at s.vars k) in
    let L = ValueWords s in
    let one = subst_to (pattern_of s) no_values e w i in
    let two = subst_from half L e w (under_mono L (λ k. InUnder L (half k)) (plain_from s fit) e w one) in
    let three = arm_into L (plainly_replaced s e) (plainly_replaced s f) h w two in
    subst_from (pattern_of s) no_values f w (under_mono (λ k. InUnder L (half k)) L (plain_to s fit) f w (subst_to half L f w three))

-- ---- the tags of a pattern in which each variable is replaced

value_tags : (n : ℕ) (x : VarValue) → value_fits n x ≡ true → tags_below n (value_pattern n x) ≡ true
value_tags n (PatternForm e) h =
    (and_parts (is_closed e) (tags_below n e) (and_parts (nat_lt 0 n) (is_closed e && tags_below n e) h).1).1
value_tags n (GridForm k points) h = points_tags n k points

pub replaced_tags : (s : Scope) (i : ℕ) (e : Pat) → ValuesFit s → is_formed s i e ≡ true → tags_below (s.tags i) (subst_of (pattern_of s) e) ≡ true
replaced_tags s i Zero fit h = refl
replaced_tags s i One fit h = refl
replaced_tags s i (Tag m) fit h = h
replaced_tags s i (Sum a b) fit h =
    let both = and_parts (is_formed s i a) (is_formed s i b) h in
    sum_tags (s.tags i) (subst_of (pattern_of s) a) (subst_of (pattern_of s) b) (replaced_tags s i a fit both.0) (replaced_tags s i b fit both.1)
replaced_tags s i (Prod a b) fit h =
    let both = and_parts (is_formed s i a) (is_formed s i b) h in
    prod_tags (s.tags i) (subst_of (pattern_of s) a) (subst_of (pattern_of s) b) (replaced_tags s i a fit both.0) (replaced_tags s i b fit both.1)
replaced_tags s i (Star a) fit h = star_tags (s.tags i) (subst_of (pattern_of s) a) (replaced_tags s i a fit h)
replaced_tags s i (Var k) fit h = go (var_at s.vars k) refl h
  where
    go : (o : Option VarLine) → var_at s.vars k ≡ o → has_interface i o ≡ true → tags_below (s.tags i) (line_pattern s.tags (var_at s.vars k)) ≡ true
    go None at q = cc
    go (Some v) at q =
        let same : v.interface ≡ i = eqb-true v.interface i q in
        subst (λ o. tags_below (s.tags i) (line_pattern s.tags o) ≡ true) (sym at)
        (subst (λ j. tags_below (s.tags j) (value_pattern (s.tags v.interface) v.value) ≡ true) same
        (value_tags (s.tags v.interface) v.value (value_fits_at s k v fit at)))

-- ---- grids

-- words with the same cut at k are both in the pattern, or neither
abbrev ByCut : ℕ → Pat → Type 0
ByCut k e = (v w : Word) → In e v → cut_at k v ≡ cut_at k w → In e w

flat_large : (s : Scope) (k : ℕ) (f : Pat) → (is_flat f && nat_lt (degree_of f) k) ≡ true → ByCut k (subst_of (pattern_of s) f)
flat_large s k f h v w i c =
    let both = and_parts (is_flat f) (nat_lt (degree_of f) k) h in
    let closed = flat_closed f both.0 in
    closed_from s f closed w (flat_by_cut f k v w both.0 (ltb-true (degree_of f) k both.1) (closed_to s f closed v i) c)

pub large_enough : (s : Scope) (k : ℕ) (f : Pat) → 1 ≤ k → is_large_enough s k f ≡ true → ByCut k (subst_of (pattern_of s) f)
large_enough s k (Var m) l h = go (var_at s.vars m) refl h
  where
    by : (v : VarLine) (x : VarValue) → v.value ≡ x → var_at s.vars m ≡ Some v → has_bound k (Some (record { interface = v.interface; value = x })) ≡ true → ByCut k (pattern_of s m)
    by v (PatternForm e) q at b = cc
    by v (GridForm j points) q at b =
        let same : j ≡ k = eqb-true j k b in
        let is : pattern_of s m ≡ points_pattern k (s.tags v.interface) points =
        ap (line_pattern s.tags) at ∙ ap (value_pattern (s.tags v.interface)) q ∙ ap (λ x. points_pattern x (s.tags v.interface) points) same in
        subst (ByCut k) (sym is) (λ u w i c. points_by_cut k (s.tags v.interface) points u w l i c)

    go : (o : Option VarLine) → var_at s.vars m ≡ o → has_bound k o ≡ true → ByCut k (pattern_of s m)
    go None at b = cc
    go (Some v) at b = by v v.value refl at b
large_enough s k f l h = flat_large s k f h

grid_includes : (s : Scope) (k i : ℕ) (e f : Pat) → ValuesFit s → is_formed s i e ≡ true → is_formed s i f ≡ true → grid_shows s k (s.tags i) e f ≡ true → Included (subst_of (pattern_of s) e) (subst_of (pattern_of s) f)
grid_includes s k i e f fit fe ff h w j =
    let n = s.tags i in
    let a = and_parts (grid_fits k n) (is_large_enough s k f && cuts_lie k n (subst_of (pattern_of s) e) (subst_of (pattern_of s) f)) h in
    let b = and_parts (is_large_enough s k f) (cuts_lie k n (subst_of (pattern_of s) e) (subst_of (pattern_of s) f)) a.1 in
    let l = leb-true 1 k (and_parts (nat_le 1 k) (nat_le ((k + 1) ^ n) most_points) a.0).0 in
    let r = cuts_include k n (subst_of (pattern_of s) e) (subst_of (pattern_of s) f) (replaced_tags s i e fit fe) (replaced_tags s i f fit ff) b.1 w j in
    large_enough s k f l b.0 r.0 w r.1 r.2

-- ---- all together

cert_includes : (s : Scope) (i : ℕ) (e f : Pat) (cert : Cert) → ValuesFit s → is_formed s i e ≡ true → is_formed s i f ≡ true → cert_shows s i e f cert ≡ true → Included (subst_of (pattern_of s) e) (subst_of (pattern_of s) f)
cert_includes s i e f (CoverCert entries) fit fe ff h =
    cover_includes (s.tags i) entries (subst_of (pattern_of s) e) (subst_of (pattern_of s) f) (replaced_tags s i e fit fe) (replaced_tags s i f fit ff) h
cert_includes s i e f (GridCert k) fit fe ff h = grid_includes s k i e f fit fe ff h

shows_includes : (s : Scope) (i : ℕ) (e f : Pat) (cert : Option Cert) → ValuesFit s → is_formed s i e ≡ true → is_formed s i f ≡ true → shows s i e f cert ≡ true → Included (subst_of (pattern_of s) e) (subst_of (pattern_of s) f)
shows_includes s i e f None fit fe ff h = trivial_includes s e f fit h
shows_includes s i e f (Some cert) fit fe ff h =
    cert_includes s i e f cert fit fe ff (and_parts (not (is_trivial s e f)) (cert_shows s i e f cert) h).1

-- what is shown is an inclusion
pub shown_includes : (s : Scope) (q : Option ℕ) (e f : Pat) (cert : Option Cert) → ValuesFit s → is_shown_in s q e f cert ≡ true → Included (subst_of (pattern_of s) e) (subst_of (pattern_of s) f)
shown_includes s None e f cert fit h = cc
shown_includes s (Some i) e f cert fit h =
    let a = and_parts (is_formed s i e && is_formed s i f) (shows s i e f cert) h in
    let b = and_parts (is_formed s i e) (is_formed s i f) a.0 in
    shows_includes s i e f cert fit b.0 b.1 a.1

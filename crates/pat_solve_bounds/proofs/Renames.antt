-- Renaming keeps forms, sums, and what trees show.
use Rattle.std.proofs.Common.{◌≡◌, ℕ, ⊎_elim, Bool, true, false, ◌||◌, ◌&&◌, List, [], ◌∷◌, refl, sym, ap, ap₂, ◌∙◌, subst}
use Rattle.std.specs.Prelude.{nat_eq, nat_lt, if◌then◌else◌}
use Rattle.std.specs.Cmp.{both_ways}
use Rattle.std.proofs.lemmas.Bool.{cond_both, and_from, eqb-true, eq-eqb}
use Rattle.pat_words_spec.specs.Words.{Word}
use Rattle.pat_words_spec.specs.Patterns.{Pat, Zero, One, Tag, Sum, Prod, Star, Var, is_zero, pat_eq, sum_of, is_closed}
use Rattle.pat_words_spec.specs.Tags.{tags_below}
use Rattle.pat_semantics_spec.specs.Programs.{is_among}
use Rattle.pat_inclusion_spec.specs.bounds.Trees.{Bound, EmptyTree, TagTree, LeftTree, RightTree, BothTree, StarEndTree, StarMoreTree, LowerTree, Shows}
use Rattle.pat_solve_bounds.specs.renumbered.Renaming.{place_in, renamed}
use Rattle.pat_solve_laws.proofs.Closed.{Within, Among}
use Rattle.pat_solve_bounds.proofs.PlaceLaws.{same_place}

-- ---- patterns within

-- the pattern has tags below n and variables of the list alone
abbrev pub IsWithin : ℕ → List ℕ → Pat → Type 0
IsWithin n ks e = Within n (Among ks) e

pub renamed_tags : (n : ℕ) (place : ℕ → ℕ) (e : Pat) → tags_below n (renamed place e) ≡ tags_below n e
renamed_tags n place Zero = refl
renamed_tags n place One = refl
renamed_tags n place (Tag m) = refl
renamed_tags n place (Sum e f) = ap₂ (λ a b. a && b) (renamed_tags n place e) (renamed_tags n place f)
renamed_tags n place (Prod e f) = ap₂ (λ a b. a && b) (renamed_tags n place e) (renamed_tags n place f)
renamed_tags n place (Star e) = renamed_tags n place e
renamed_tags n place (Var k) = refl

pub within_sum : (n : ℕ) (ks : List ℕ) (e f : Pat) → IsWithin n ks e → IsWithin n ks f → IsWithin n ks (sum_of e f)
within_sum n ks e f h k =
    cond_both (is_zero e) f (if is_zero f then e else if pat_eq e f then e else Sum e f) (IsWithin n ks)
    (λ _. k)
    (λ _. cond_both (is_zero f) e (if pat_eq e f then e else Sum e f) (IsWithin n ks) (λ _. h) (λ _. cond_both (pat_eq e f) e (Sum e f) (IsWithin n ks) (λ _. h) (λ _. (h, k))))

-- ---- sums

module _ (n : ℕ) (ks : List ℕ) where
  number_kept : (j k : ℕ) → is_among j ks ≡ true → is_among k ks ≡ true → nat_eq (place_in ks j) (place_in ks k) ≡ nat_eq j k
  number_kept j k a b =
      both_ways (nat_eq (place_in ks j) (place_in ks k)) (nat_eq j k)
      (λ t. eq-eqb j k (same_place ks j k a b (eqb-true (place_in ks j) (place_in ks k) t)))
      (λ t. eq-eqb (place_in ks j) (place_in ks k) (ap (place_in ks) (eqb-true j k t)))

  equal_kept : (e f : Pat) → IsWithin n ks e → IsWithin n ks f → pat_eq (renamed (place_in ks) e) (renamed (place_in ks) f) ≡ pat_eq e f
  equal_kept (Sum a b) (Sum c d) h k = ap₂ (λ x y. x && y) (equal_kept a c h.0 k.0) (equal_kept b d h.1 k.1)
  equal_kept (Prod a b) (Prod c d) h k = ap₂ (λ x y. x && y) (equal_kept a c h.0 k.0) (equal_kept b d h.1 k.1)
  equal_kept (Star a) (Star c) h k = equal_kept a c h k
  equal_kept (Var i) (Var j) h k = number_kept i j h k
  equal_kept Zero Zero h k = refl
  equal_kept One One h k = refl
  equal_kept (Tag m) (Tag j) h k = refl
  equal_kept _ _ h k = refl

  zero_kept : (e : Pat) → is_zero (renamed (place_in ks) e) ≡ is_zero e
  zero_kept Zero = refl
  zero_kept One = refl
  zero_kept (Tag m) = refl
  zero_kept (Sum e f) = refl
  zero_kept (Prod e f) = refl
  zero_kept (Star e) = refl
  zero_kept (Var k) = refl

  renamed_choice : (e f : Pat) (a b c : Bool) → renamed (place_in ks) (if a then f else if b then e else if c then e else Sum e f) ≡ (if a then renamed (place_in ks) f else if b then renamed (place_in ks) e else if c then renamed (place_in ks) e else Sum (renamed (place_in ks) e) (renamed (place_in ks) f))
  renamed_choice e f true b c = refl
  renamed_choice e f false true c = refl
  renamed_choice e f false false true = refl
  renamed_choice e f false false false = refl

  -- renaming goes through sums of patterns within
  pub renamed_sum : (e f : Pat) → IsWithin n ks e → IsWithin n ks f → renamed (place_in ks) (sum_of e f) ≡ sum_of (renamed (place_in ks) e) (renamed (place_in ks) f)
  renamed_sum e f h k =
      let x = renamed (place_in ks) e in
      let y = renamed (place_in ks) f in
      renamed_choice e f (is_zero e) (is_zero f) (pat_eq e f)
      ∙ ap (λ a. if a then y else if is_zero f then x else if pat_eq e f then x else Sum x y) (sym (zero_kept e))
      ∙ ap (λ b. if is_zero x then y else if b then x else if pat_eq e f then x else Sum x y) (sym (zero_kept f))
      ∙ ap (λ c. if is_zero x then y else if is_zero y then x else if c then x else Sum x y) (sym (equal_kept e f h k))

-- ---- trees

module _ (place : ℕ → ℕ) (L M : ℕ → Pat) (agree : (k : ℕ) → M (place k) ≡ renamed place (L k)) where
  pub shows_to : (b : Bound) (e : Pat) (w : Word) → Shows L b e w → Shows M b (renamed place e) w
  shows_to EmptyTree One w h = h
  shows_to TagTree (Tag m) w h = h
  shows_to (LeftTree b) (Sum e g) w h = shows_to b e w h
  shows_to (RightTree b) (Sum e g) w h = shows_to b g w h
  shows_to (BothTree a b) (Prod e g) w h = (h.0, h.1, shows_to a e h.0 h.2, shows_to b g h.1 h.3, h.4)
  shows_to StarEndTree (Star e) w h = h
  shows_to (StarMoreTree a b) (Star e) w h = (h.0, h.1, shows_to a e h.0 h.2, shows_to b (Star e) h.1 h.3, h.4, h.5)
  shows_to (LowerTree b) (Var k) w h = subst (λ x. Shows M b x w) (sym (agree k)) (shows_to b (L k) w h)
  shows_to _ _ w h = absurd h

  pub shows_from : (b : Bound) (e : Pat) (w : Word) → Shows M b (renamed place e) w → Shows L b e w
  shows_from EmptyTree One w h = h
  shows_from TagTree (Tag m) w h = h
  shows_from (LeftTree b) (Sum e g) w h = shows_from b e w h
  shows_from (RightTree b) (Sum e g) w h = shows_from b g w h
  shows_from (BothTree a b) (Prod e g) w h = (h.0, h.1, shows_from a e h.0 h.2, shows_from b g h.1 h.3, h.4)
  shows_from StarEndTree (Star e) w h = h
  shows_from (StarMoreTree a b) (Star e) w h = (h.0, h.1, shows_from a e h.0 h.2, shows_from b (Star e) h.1 h.3, h.4, h.5)
  shows_from (LowerTree b) (Var k) w h = shows_from b (L k) w (subst (λ x. Shows M b x w) (agree k) h)
  shows_from _ _ w h = absurd h

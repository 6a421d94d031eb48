-- Which inclusions are trivial, and those of one variable.
use Rattle.std.proofs.Common.{◌≡◌, ℕ, Bool, true, false, not, ◌&&◌, ◌||◌, if◌then◌else◌, List, [], ◌∷◌, Option, Some, None, refl, sym, ap, ◌∙◌, subst, inl, inr, ⊎_elim}
use Rattle.std.specs.List.{AllByRecursion}
use Rattle.std.proofs.lemmas.Bool.{cond_both, cond-true, or_left, or_right, or_cases}
use Rattle.pat_words_spec.specs.Words.{Word}
use Rattle.pat_words_spec.specs.Patterns.{Pat, Zero, One, Tag, Sum, Prod, Star, Var, In, InUnder, pat_eq, is_zero, is_one, sum_of, prod_of, subst_of}
use Rattle.pat_words_laws.proofs.PatternLaws.{pat_eq_same, is_zero_same, is_one_same}
use Rattle.pat_words_laws.proofs.FormLaws.{pat_eq_refl, subst_from}
use Rattle.pat_semantics_spec.specs.Programs.{Polarity, Sending, Receiving}
use Rattle.pat_semantics_laws.proofs.Lists.{clash, not_true}
use Rattle.pat_type_system_spec.specs.Types.{MailboxType, mailbox_type}
use Rattle.pat_type_system_spec.specs.Typings.{HasWord}
use Rattle.pat_inclusion_spec.specs.Values.{replaced}
use Rattle.pat_inclusion_spec.specs.Certificates.{is_arm}
use Rattle.pat_type_schemes_spec.specs.Compared.{polarity_eq, is_receiver}
use Rattle.pat_infer_spec.specs.Constraints.{Place, Constraint}
use Rattle.pat_infer_spec.specs.Needs.{just, Combined, constraints_with}
use Rattle.pat_infer_spec.specs.Binders.{polarity_as, name_constraints}
use Rattle.pat_infer_spec.specs.BothParts.{new_var, one_receives, parts_joined, both_parts}
use Rattle.pat_infer_spec.specs.Branches.{receives_need, some_receive, all_receive, branches_agree, branch_usage, pattern_or_one, sum_on, sum_of_needs, all_by, each_receives, first_need, received_in, branches_with, branches_by, branches}
use Rattle.pat_infer_spec.specs.Inclusions.{IsShown, PatternShown, PassShown, JoinShown, SplitShown, ValuesCover}
use Rattle.pat_inclusion_laws.proofs.Replaced.{values_of, in_to}
use Rattle.pat_infer_laws.proofs.Gathering.{all_map, all_with, need_with}
use Rattle.pat_infer_laws.proofs.BranchLaws.{none_all, all_receives, first_receives, none_receives, same_patterns}
use Rattle.pat_words_laws.proofs.ClosedPatterns.{under_mono}

-- ---- the simplifying forms and values

zero_pat : (e : Pat) → is_zero e ≡ true → e ≡ Zero
zero_pat e h = is_zero_same e h

-- values go through simplified products and sums
pub subst_prod : (v : ℕ → Pat) (e f : Pat) → subst_of v (prod_of e f) ≡ prod_of (subst_of v e) (subst_of v f)
subst_prod v e f =
    let Goal : Pat → Type 0 = λ g. subst_of v g ≡ prod_of (subst_of v e) (subst_of v f) in
    let inner : Pat = if is_one e then f else if is_one f then e else Prod e f in
    cond_both (is_zero e || is_zero f) Zero inner Goal
    (λ z. ⊎_elim
    (λ l. subst (λ g. Zero ≡ prod_of (subst_of v g) (subst_of v f)) (sym (is_zero_same e l)) refl)
    (λ r. subst (λ g. Zero ≡ prod_of (subst_of v e) (subst_of v g)) (sym (is_zero_same f r)) (sym (times_zero (subst_of v e))))
    (or_cases (is_zero e) (is_zero f) z))
    (λ _. cond_both (is_one e) f (if is_one f then e else Prod e f) Goal
    (λ o. subst (λ g. subst_of v f ≡ prod_of (subst_of v g) (subst_of v f)) (sym (is_one_same e o)) (sym (one_times (subst_of v f))))
    (λ _. cond_both (is_one f) e (Prod e f) Goal
    (λ o. subst (λ g. subst_of v e ≡ prod_of (subst_of v e) (subst_of v g)) (sym (is_one_same f o)) (sym (times_one (subst_of v e))))
    (λ _. refl)))
  where
    times_zero : (g : Pat) → prod_of g Zero ≡ Zero
    times_zero g = elim (is_zero g) as (λ b. (if b || true then Zero else if is_one g then Zero else if false then g else Prod g Zero) ≡ Zero) [ true ↦ refl | false ↦ refl ]

    one_times : (g : Pat) → prod_of One g ≡ g
    one_times g =
        (elim (is_zero g) as (λ b. is_zero g ≡ b → (if b then Zero else g) ≡ g) [
          | true ↦ λ q. sym (is_zero_same g q)
          | false ↦ λ q. refl
        ]) refl

    times_one : (g : Pat) → prod_of g One ≡ g
    times_one g =
        (elim (is_zero g) as (λ b. is_zero g ≡ b → (if b || false then Zero else if is_one g then One else g) ≡ g) [
          | true ↦ λ q. sym (is_zero_same g q)
          | false ↦ λ q.
              (elim (is_one g) as (λ c. is_one g ≡ c → (if c then One else g) ≡ g) [
                | true ↦ λ r. sym (is_one_same g r)
                | false ↦ λ r. refl
              ]) refl
        ]) refl

pub subst_sum : (v : ℕ → Pat) (e f : Pat) → subst_of v (sum_of e f) ≡ sum_of (subst_of v e) (subst_of v f)
subst_sum v e f =
    let Goal : Pat → Type 0 = λ g. subst_of v g ≡ sum_of (subst_of v e) (subst_of v f) in
    cond_both (is_zero e) f (if is_zero f then e else if pat_eq e f then e else Sum e f) Goal
    (λ z. subst (λ g. subst_of v f ≡ sum_of (subst_of v g) (subst_of v f)) (sym (is_zero_same e z)) refl)
    (λ _. cond_both (is_zero f) e (if pat_eq e f then e else Sum e f) Goal
    (λ z. subst (λ g. subst_of v e ≡ sum_of (subst_of v e) (subst_of v g)) (sym (is_zero_same f z)) (sym (plus_zero (subst_of v e))))
    (λ _. cond_both (pat_eq e f) e (Sum e f) Goal
    (λ s. subst (λ g. subst_of v e ≡ sum_of (subst_of v e) (subst_of v g)) (pat_eq_same e f s) (sym (plus_same (subst_of v e))))
    (λ _. refl)))
  where
    plus_zero : (g : Pat) → sum_of g Zero ≡ g
    plus_zero g =
        (elim (is_zero g) as (λ b. is_zero g ≡ b → (if b then Zero else g) ≡ g) [
          | true ↦ λ q. sym (is_zero_same g q)
          | false ↦ λ q. refl
        ]) refl

    plus_same : (g : Pat) → sum_of g g ≡ g
    plus_same g =
        cond_both (is_zero g) g (if is_zero g then g else if pat_eq g g then g else Sum g g) (λ x. x ≡ g) (λ _. refl)
        (λ _. cond_both (is_zero g) g (if pat_eq g g then g else Sum g g) (λ x. x ≡ g) (λ _. refl)
        (λ _. cond-true (pat_eq g g) g (Sum g g) (pat_eq_refl g)))

-- ---- trivial inclusions

trivial_refl : (e : Pat) → is_arm e e ≡ true
trivial_refl Zero = refl
trivial_refl One = refl
trivial_refl (Tag m) = pat_eq_refl (Tag m)
trivial_refl (Sum e f) = or_left (pat_eq (Sum e f) (Sum e f)) (is_arm (Sum e f) e || is_arm (Sum e f) f) (pat_eq_refl (Sum e f))
trivial_refl (Prod e f) = pat_eq_refl (Prod e f)
trivial_refl (Star e) = pat_eq_refl (Star e)
trivial_refl (Var k) = pat_eq_refl (Var k)

pub trivial_same : (e f : Pat) → e ≡ f → is_arm e f ≡ true
trivial_same e f h = subst (λ g. is_arm e g ≡ true) h (trivial_refl e)

not_in_zero : (g a : Pat) → is_zero a ≡ true → is_arm g a ≡ true → is_zero g ≡ true
not_in_zero g a z t =
    let h : is_arm g Zero ≡ true = subst (λ b. is_arm g b ≡ true) (is_zero_same a z) t in
    subst (λ x. is_zero x ≡ true) (sym (pat_eq_same g Zero h)) refl

-- what isn't 0 and is in an arm is in the simplified sum
arm_left : (g a b : Pat) → is_zero g ≡ false → is_arm g a ≡ true → is_arm g (sum_of a b) ≡ true
arm_left g a b nz t =
    let Goal : Pat → Type 0 = λ x. is_arm g x ≡ true in
    cond_both (is_zero a) b (if is_zero b then a else if pat_eq a b then a else Sum a b) Goal
    (λ z. absurd (clash (not_in_zero g a z t) nz))
    (λ _. cond_both (is_zero b) a (if pat_eq a b then a else Sum a b) Goal (λ _. t)
    (λ _. cond_both (pat_eq a b) a (Sum a b) Goal (λ _. t)
    (λ _. or_right (pat_eq g (Sum a b)) (is_arm g a || is_arm g b) (or_left (is_arm g a) (is_arm g b) t))))

arm_right : (g a b : Pat) → is_zero g ≡ false → is_arm g b ≡ true → is_arm g (sum_of a b) ≡ true
arm_right g a b nz t =
    let Goal : Pat → Type 0 = λ x. is_arm g x ≡ true in
    cond_both (is_zero a) b (if is_zero b then a else if pat_eq a b then a else Sum a b) Goal
    (λ _. t)
    (λ _. cond_both (is_zero b) a (if pat_eq a b then a else Sum a b) Goal
    (λ z. absurd (clash (not_in_zero g b z t) nz))
    (λ _. cond_both (pat_eq a b) a (Sum a b) Goal
    (λ s. subst Goal (sym (pat_eq_same a b s)) t)
    (λ _. or_right (pat_eq g (Sum a b)) (is_arm g a || is_arm g b) (or_right (is_arm g a) (is_arm g b) t))))

module _ (s v : ℕ → Pat) (cover : ValuesCover s v) where
  -- a pattern that has a word isn't 0 under the values
  word_not_zero : (e : Pat) (w : Word) → In (replaced s e) w → is_zero (subst_of v e) ≡ false
  word_not_zero e w i =
      let under : InUnder (λ k. InUnder (values_of s) (v k)) e w = under_mono (values_of s) (λ k. InUnder (values_of s) (v k)) (λ k u h. in_to s (v k) u (cover k u h)) e w (in_to s e w i) in
      let there : InUnder (values_of s) (subst_of v e) w = subst_from v (values_of s) e w under in
      go (is_zero (subst_of v e)) refl there
    where
      go : (b : Bool) → is_zero (subst_of v e) ≡ b → InUnder (values_of s) (subst_of v e) w → is_zero (subst_of v e) ≡ false
      go false q h = q
      go true q h = absurd (subst (λ g. InUnder (values_of s) g w) (is_zero_same (subst_of v e) q) h)

  -- the pattern isn't 0 under the values
  abbrev NotZero : Option MailboxType → Type 0
  NotZero o = is_zero (subst_of v (pattern_or_one o)) ≡ false

  in_sum_on : (g e : Pat) (os : List (Option MailboxType)) → is_zero g ≡ false → is_arm g (subst_of v e) ≡ true → is_arm g (subst_of v (sum_on e os)) ≡ true
  in_sum_on g e [] nz t = t
  in_sum_on g e (o ∷ os) nz t =
      in_sum_on g (sum_of e (pattern_or_one o)) os nz
      (subst (λ x. is_arm g x ≡ true) (sym (subst_sum v e (pattern_or_one o))) (arm_left g (subst_of v e) (subst_of v (pattern_or_one o)) nz t))

  each_in_sum_on : (e : Pat) (os : List (Option MailboxType)) → AllByRecursion NotZero os → AllByRecursion (λ o. is_arm (subst_of v (pattern_or_one o)) (subst_of v (sum_on e os)) ≡ true) os
  each_in_sum_on e [] h = tt
  each_in_sum_on e (o ∷ os) h =
      let g : Pat = subst_of v (pattern_or_one o) in (
        in_sum_on g (sum_of e (pattern_or_one o)) os h.0
            (subst (λ x. is_arm g x ≡ true) (sym (subst_sum v e (pattern_or_one o))) (arm_right g (subst_of v e) g h.0 (trivial_refl g))),
        each_in_sum_on (sum_of e (pattern_or_one o)) os h.1,
      )

  -- each need of branches is trivially in their sum
  pub each_in_sum : (os : List (Option MailboxType)) → AllByRecursion NotZero os → AllByRecursion (λ o. is_arm (subst_of v (pattern_or_one o)) (subst_of v (sum_of_needs os)) ≡ true) os
  each_in_sum [] h = tt
  each_in_sum (o ∷ os) h =
      let g : Pat = subst_of v (pattern_or_one o) in
      (in_sum_on g (pattern_or_one o) os h.0 (trivial_refl g), each_in_sum_on (pattern_or_one o) os h.1)

  -- a need that has a word if it sends
  pub not_zero : (o : Option MailboxType) → ((a : MailboxType) → o ≡ Some a → HasWord Sending (replaced s a.pattern)) → NotZero o
  not_zero None h = refl
  not_zero (Some a) h = let w = h a refl in word_not_zero a.pattern w.0 w.1

-- ---- what is shown

module _ (cs : List Constraint) (v : ℕ → Pat) where
  pub shown_refl : (i : ℕ) (e : Pat) → IsShown cs v i e e
  shown_refl i e = inl (trivial_refl (subst_of v e))

  pub pattern_refl : (i : ℕ) (q : Polarity) (e : Pat) → PatternShown (IsShown cs v i) q e e
  pattern_refl i Sending e = shown_refl i e
  pattern_refl i Receiving e = shown_refl i e

  pub pass_refl : (o : Option MailboxType) → PassShown (IsShown cs v) o o
  pass_refl None = tt
  pass_refl (Some a) = pattern_refl a.interface a.polarity a.pattern

  -- what is shown depends on the values alone
  shown_as : (i : ℕ) (e f g : Pat) → subst_of v e ≡ subst_of v f → IsShown cs v i f g → IsShown cs v i e g
  shown_as i e f g same (inl t) = inl (subst (λ x. is_arm x (subst_of v g) ≡ true) (sym same) t)
  shown_as i e f g same (inr (c, inside, of, l, r)) = inr (c, inside, of, same ∙ l, r)

  -- a product is as its simplified form
  pub shown_product : (i : ℕ) (e f g : Pat) → IsShown cs v i (prod_of e f) g → IsShown cs v i (Prod e f) g
  shown_product i e f g h = shown_as i (Prod e f) (prod_of e f) g (sym (subst_prod v e f)) h

  -- the constraint is one of them
  abbrev pub Listed : Constraint → Type 0
  Listed c = IsShown cs v c.interface c.left c.right

  -- ---- lets

  joined_shown : (n k x : ℕ) (b c : MailboxType) (q r : Polarity) → b.polarity ≡ q → c.polarity ≡ r → not (is_receiver q && is_receiver r) ≡ true → AllByRecursion Listed (constraints_with (parts_joined n k x q r b c)) → SplitShown (IsShown cs v) (need_with (parts_joined n k x q r b c)) (Some b) (Some c)
  joined_shown n k x b c Sending Sending bq cr one h =
      subst (λ q. JoinShown (IsShown cs v c.interface) q c.polarity b.pattern c.pattern (prod_of b.pattern c.pattern)) (sym bq)
      (subst (λ r. JoinShown (IsShown cs v c.interface) Sending r b.pattern c.pattern (prod_of b.pattern c.pattern)) (sym cr)
      (shown_product c.interface b.pattern c.pattern (prod_of b.pattern c.pattern) (shown_refl c.interface (prod_of b.pattern c.pattern)), refl))
  joined_shown n k x b c Sending Receiving bq cr one h =
      subst (λ q. JoinShown (IsShown cs v c.interface) q c.polarity b.pattern c.pattern (Var k)) (sym bq)
      (subst (λ r. JoinShown (IsShown cs v c.interface) Sending r b.pattern c.pattern (Var k)) (sym cr)
      (shown_product c.interface b.pattern (Var k) c.pattern h.0))
  joined_shown n k x b c Receiving Sending bq cr one h =
      subst (λ q. JoinShown (IsShown cs v c.interface) q c.polarity b.pattern c.pattern (Var k)) (sym bq)
      (shown_product c.interface c.pattern (Var k) b.pattern h.0)
  joined_shown n k x b c Receiving Receiving bq cr one h = cc

  pub parts_shown : (n k x : ℕ) (b c : Option MailboxType) → one_receives b c ≡ true → AllByRecursion Listed (constraints_with (both_parts n k x b c)) → SplitShown (IsShown cs v) (need_with (both_parts n k x b c)) b c
  parts_shown n k x None None one h = tt
  parts_shown n k x (Some b) None one h = (pattern_refl b.interface b.polarity b.pattern, refl)
  parts_shown n k x None (Some c) one h = (pattern_refl c.interface c.polarity c.pattern, refl)
  parts_shown n k x (Some b) (Some c) one h = joined_shown n k x b c b.polarity c.polarity refl refl one h

  -- ---- names

  name_polarity : (q r : Polarity) (at : Place) (i : ℕ) (e : Pat) (b : MailboxType) → b.polarity ≡ r → polarity_eq q r ≡ true → AllByRecursion Listed (name_constraints at i q e (Some b)) → PatternShown (IsShown cs v i) r e b.pattern
  name_polarity Sending Sending at i e b br pol h = h.0
  name_polarity Receiving Receiving at i e b br pol h = h.0
  name_polarity Sending Receiving at i e b br pol h = cc
  name_polarity Receiving Sending at i e b br pol h = cc

  pub name_shown : (at : Place) (a : MailboxType) (o : Option MailboxType) → polarity_as a.polarity o ≡ true → AllByRecursion Listed (name_constraints at a.interface a.polarity a.pattern o) → PassShown (IsShown cs v) (Some a) o
  name_shown at a None pol h = tt
  name_shown at a (Some b) pol h = name_polarity a.polarity b.polarity at a.interface a.pattern b refl pol h

  -- ---- branches

  module _ (s : ℕ → Pat) (cover : ValuesCover s v) (n k x : ℕ) (os : List (Option MailboxType)) (words : AllByRecursion (λ o. (a : MailboxType) → o ≡ Some a → HasWord a.polarity (replaced s a.pattern)) os) where
    -- by a sending need
    sent_shown : (c : MailboxType) → c.pattern ≡ sum_of_needs os → AllByRecursion (λ o. receives_need o ≡ false) os → AllByRecursion (λ o. PassShown (IsShown cs v) (Some c) o) os
    sent_shown c is none =
        all_with (λ o. receives_need o ≡ false) (λ o. is_arm (subst_of v (pattern_or_one o)) (subst_of v (sum_of_needs os)) ≡ true) (λ o. PassShown (IsShown cs v) (Some c) o)
        (λ o r t. one o r t) os none
        (each_in_sum s v cover os
        (all_with (λ o. receives_need o ≡ false) (λ o. (a : MailboxType) → o ≡ Some a → HasWord a.polarity (replaced s a.pattern)) (λ o. NotZero s v cover o)
        (λ o r f. not_zero s v cover o (λ a e. sends a.polarity (replaced s a.pattern) (subst (λ w. receives_need w ≡ false) e r) (f a e))) os none words))
      where
        sends : (q : Polarity) (e : Pat) → is_receiver q ≡ false → HasWord q e → HasWord Sending e
        sends Sending e r h = h
        sends Receiving e r h = cc

        one : (o : Option MailboxType) → receives_need o ≡ false → is_arm (subst_of v (pattern_or_one o)) (subst_of v (sum_of_needs os)) ≡ true → PassShown (IsShown cs v) (Some c) o
        one None r t = tt
        one (Some a) r t = subst (λ e. PatternShown (IsShown cs v c.interface) a.polarity e a.pattern) (sym is) (go a.polarity r)
          where
            go : (q : Polarity) → is_receiver q ≡ false → PatternShown (IsShown cs v c.interface) q (sum_of_needs os) a.pattern
            go Sending r = inl t
            go Receiving r = cc

    got_shown : (c : MailboxType) → AllByRecursion (λ o. receives_need o ≡ true) os → AllByRecursion (λ o. IsShown cs v c.interface c.pattern (pattern_or_one o)) os → AllByRecursion (λ o. PassShown (IsShown cs v) (Some c) o) os
    got_shown c all into =
        all_with (λ o. receives_need o ≡ true) (λ o. IsShown cs v c.interface c.pattern (pattern_or_one o)) (λ o. PassShown (IsShown cs v) (Some c) o) one os all into
      where
        one : (o : Option MailboxType) → receives_need o ≡ true → IsShown cs v c.interface c.pattern (pattern_or_one o) → PassShown (IsShown cs v) (Some c) o
        one None r t = tt
        one (Some a) r t = go a.polarity r
          where
            go : (q : Polarity) → is_receiver q ≡ true → PatternShown (IsShown cs v c.interface) q c.pattern a.pattern
            go Receiving r = t
            go Sending r = cc

    each_listed : (i : ℕ) (ws : List (Option MailboxType)) → AllByRecursion (λ o. receives_need o ≡ true) ws → AllByRecursion Listed (each_receives n k i ws) → AllByRecursion (λ o. IsShown cs v i (Var k) (pattern_or_one o)) ws
    each_listed i [] r h = tt
    each_listed i (None ∷ ws) r h = let c : false ≡ true = r.0 in cc
    each_listed i (Some a ∷ ws) r h = (h.0, each_listed i ws r.1 h.1)

    received_shown : (b : MailboxType) → AllByRecursion (λ o. receives_need o ≡ true) os → AllByRecursion Listed (constraints_with (received_in n k x b os)) → AllByRecursion (λ o. PassShown (IsShown cs v) (need_with (received_in n k x b os)) o) os
    received_shown b all =
        let old : Option Combined = just (mailbox_type b.interface Receiving b.pattern (branch_usage os)) in
        let new : Option Combined = Some (record { need = mailbox_type b.interface Receiving (Var k) (branch_usage os); vars = new_var n x b.interface ∷ []; constraints = each_receives n k b.interface os }) in
        cond_both (all_by b.pattern os) old new (λ c. AllByRecursion Listed (constraints_with c) → AllByRecursion (λ o. PassShown (IsShown cs v) (need_with c) o) os)
        (λ e h.
        got_shown (mailbox_type b.interface Receiving b.pattern (branch_usage os)) all
        (all_map (λ o. b.pattern ≡ pattern_or_one o) (λ o. IsShown cs v b.interface b.pattern (pattern_or_one o)) (λ o q. subst (IsShown cs v b.interface b.pattern) q (shown_refl b.interface b.pattern)) os (same_patterns b.pattern os e)))
        (λ e h. got_shown (mailbox_type b.interface Receiving (Var k) (branch_usage os)) all (each_listed b.interface os all h))

    some_shown : (b : MailboxType) (r : Polarity) → b.polarity ≡ r → first_need os ≡ Some b → branches_agree os ≡ true → AllByRecursion Listed (constraints_with (branches_with n k x r b os)) → AllByRecursion (λ o. PassShown (IsShown cs v) (need_with (branches_with n k x r b os)) o) os
    some_shown b Sending br e agree h =
        let not_all : all_receive os ≡ false = (first_receives os b e).1 (ap is_receiver br) in
        let none : some_receive os ≡ false = ⊎_elim (λ l. not_true (some_receive os) l) (λ r. absurd (clash r not_all)) (or_cases (not (some_receive os)) (all_receive os) agree) in
        sent_shown (mailbox_type b.interface Sending (sum_of_needs os) (branch_usage os)) refl (none_receives os none)
    some_shown b Receiving br e agree h =
        let some : some_receive os ≡ true = (first_receives os b e).0 (ap is_receiver br) in
        let all : all_receive os ≡ true = ⊎_elim (λ l. absurd (clash some (not_true (some_receive os) l))) (λ r. r) (or_cases (not (some_receive os)) (all_receive os) agree) in
        received_shown b (all_receives os all) h

    pub branches_shown : branches_agree os ≡ true → AllByRecursion Listed (constraints_with (branches n k x os)) → AllByRecursion (λ o. PassShown (IsShown cs v) (need_with (branches n k x os)) o) os
    branches_shown agree = go (first_need os) refl
      where
        go : (o : Option MailboxType) → first_need os ≡ o → AllByRecursion Listed (constraints_with (branches_by n k x o os)) → AllByRecursion (λ w. PassShown (IsShown cs v) (need_with (branches_by n k x o os)) w) os
        go None e h = all_map (λ w. w ≡ None) (λ w. PassShown (IsShown cs v) None w) (λ w q. tt) os (none_all os e)
        go (Some b) e h = some_shown b b.polarity refl e agree h

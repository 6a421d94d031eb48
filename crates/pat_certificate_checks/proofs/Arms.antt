-- Arms that are there before the values are put in.
use Rattle.std.proofs.Common.{◌≡◌, ℕ, true, false, ◌&&◌, ◌||◌, ◌⊎◌, inl, inr, ⊎_elim, refl, sym, ap, ◌∙◌, subst}
use Rattle.std.specs.Prelude.{if◌then◌else◌}
use Rattle.std.proofs.lemmas.Bool.{or_cases, or_parts, or_left, or_right, cond_both}
use Rattle.pat_words_spec.specs.Patterns.{Pat, Zero, One, Tag, Sum, Prod, Star, Var, is_zero, is_one, pat_eq, sum_of, prod_of, star_of, subst_of}
use Rattle.pat_inclusion_spec.specs.Certificates.{is_arm}
use Rattle.pat_words_laws.proofs.FormLaws.{pat_eq_refl}
use Rattle.pat_words_laws.proofs.PatternLaws.{pat_eq_same, is_zero_same}

-- ---- what is 0

pub zero_sum : (e f : Pat) → (is_zero e && is_zero f) ≡ is_zero (sum_of e f)
zero_sum e f =
    sym (cond_both (is_zero e) f (if is_zero f then e else if pat_eq e f then e else Sum e f) (λ x. is_zero x ≡ (is_zero e && is_zero f))
    (λ z. sym (ap (λ b. b && is_zero f) z))
    (λ n. cond_both (is_zero f) e (if pat_eq e f then e else Sum e f) (λ x. is_zero x ≡ false) (λ _. n)
    (λ _. cond_both (pat_eq e f) e (Sum e f) (λ x. is_zero x ≡ false) (λ _. n) (λ _. refl))
    ∙ sym (ap (λ b. b && is_zero f) n)))

pub zero_prod : (e f : Pat) → (is_zero e || is_zero f) ≡ is_zero (prod_of e f)
zero_prod e f =
    sym (cond_both (is_zero e || is_zero f) Zero (if is_one e then f else if is_one f then e else Prod e f) (λ x. is_zero x ≡ (is_zero e || is_zero f)) sym
    (λ n. let parts = or_parts (is_zero e) (is_zero f) n in
    cond_both (is_one e) f (if is_one f then e else Prod e f) (λ x. is_zero x ≡ false) (λ _. parts.1)
    (λ _. cond_both (is_one f) e (Prod e f) (λ x. is_zero x ≡ false) (λ _. parts.0) (λ _. refl))
    ∙ sym n))

pub zero_star : (e : Pat) → false ≡ is_zero (star_of e)
zero_star e = sym (cond_both (is_zero e || is_one e) One (Star e) (λ x. is_zero x ≡ false) (λ _. refl) (λ _. refl))

-- ---- arms

pub arm_of_itself : (e : Pat) → is_arm e e ≡ true
arm_of_itself Zero = pat_eq_refl Zero
arm_of_itself One = pat_eq_refl One
arm_of_itself (Tag m) = pat_eq_refl (Tag m)
arm_of_itself (Prod e f) = pat_eq_refl (Prod e f)
arm_of_itself (Star e) = pat_eq_refl (Star e)
arm_of_itself (Var k) = pat_eq_refl (Var k)
arm_of_itself (Sum e f) = ap (λ b. b || (is_arm (Sum e f) e || is_arm (Sum e f) f)) (pat_eq_refl (Sum e f))

not_of_zero : (e f : Pat) → is_zero e ≡ false → is_arm e f ≡ true → is_zero f ≡ true → ⊥
not_of_zero e f n arm z =
    let same = pat_eq_same e Zero (subst (λ x. is_arm e x ≡ true) (is_zero_same f z) arm) in
    let zero : is_zero e ≡ true = ap is_zero same in cc

-- an arm of a part that isn't 0 is one of the sum
arm_of_sum : (e f g : Pat) → is_zero e ≡ false → (is_arm e f ≡ true) ⊎ (is_arm e g ≡ true) → is_arm e (sum_of f g) ≡ true
arm_of_sum e f g n arm =
    cond_both (is_zero f) g (if is_zero g then f else if pat_eq f g then f else Sum f g) IsIn
    (λ z. ⊎_elim (λ l. absurd (not_of_zero e f n l z)) (λ r. r) arm)
    (λ _. cond_both (is_zero g) f (if pat_eq f g then f else Sum f g) IsIn
    (λ z. ⊎_elim (λ l. l) (λ r. absurd (not_of_zero e g n r z)) arm)
    (λ _. cond_both (pat_eq f g) f (Sum f g) IsIn
    (λ same. ⊎_elim (λ l. l) (λ r. subst IsIn (sym (pat_eq_same f g same)) r) arm)
    (λ _. or_right (pat_eq e (Sum f g)) (is_arm e f || is_arm e g) either)))
  where
    IsIn : Pat → Type 0
    IsIn x = is_arm e x ≡ true

    either : (is_arm e f || is_arm e g) ≡ true
    either = ⊎_elim (or_left (is_arm e f) (is_arm e g)) (or_right (is_arm e f) (is_arm e g)) arm

pub alike : (values : ℕ → Pat) (e f : Pat) → pat_eq e f ≡ true → is_arm (subst_of values e) (subst_of values f) ≡ true
alike values e f same = subst (λ x. is_arm (subst_of values e) (subst_of values x) ≡ true) (pat_eq_same e f same) (arm_of_itself (subst_of values e))

-- what is an arm as it is written still is one once the values are put in, unless it is 0 then
pub arm_stays : (values : ℕ → Pat) (e f : Pat) → is_zero (subst_of values e) ≡ false → is_arm e f ≡ true → is_arm (subst_of values e) (subst_of values f) ≡ true
arm_stays values e Zero n arm = alike values e Zero arm
arm_stays values e One n arm = alike values e One arm
arm_stays values e (Tag m) n arm = alike values e (Tag m) arm
arm_stays values e (Prod f g) n arm = alike values e (Prod f g) arm
arm_stays values e (Star f) n arm = alike values e (Star f) arm
arm_stays values e (Var k) n arm = alike values e (Var k) arm
arm_stays values e (Sum f g) n arm =
    ⊎_elim (alike values e (Sum f g))
    (λ below. arm_of_sum (subst_of values e) (subst_of values f) (subst_of values g) n
    (⊎_elim (λ l. inl (arm_stays values e f n l)) (λ r. inr (arm_stays values e g n r)) (or_cases (is_arm e f) (is_arm e g) below)))
    (or_cases (pat_eq e (Sum f g)) (is_arm e f || is_arm e g) arm)

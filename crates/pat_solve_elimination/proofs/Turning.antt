-- Variables replaced one after another, where those that don't occur are passed over.
use Rattle.std.proofs.Common.{◌≡◌, ℕ, zero, suc, ◌+◌, ◌<◌, ◌≤◌, true, false, ◌&&◌, List, [], ◌∷◌, length, drop, ◌-◌, refl, sym, ap, ◌∙◌, subst, arith}
use Rattle.std.specs.Prelude.{get_or, Err}
use Rattle.std.specs.List.{AllByRecursion}
use Rattle.std.proofs.Math.Seq.{drop-cons}
use Rattle.pat_words_spec.specs.Patterns.{Pat, Zero}
use Rattle.pat_inclusion_spec.specs.ClosedForms.{is_small}
use Rattle.pat_solve_spec.specs.Assignments.{Values, put_one, put_in_turn}
use Rattle.pat_solve_bounded.specs.replacing.Ascending.{paired}
use Rattle.pat_solve_bounded.specs.Variables.{has_var}
use Rattle.pat_solve_elimination.specs.Rounds.{IsRebuilt, turn_fits}
use Rattle.pat_solve_elimination.specs.Results.{Gives}
use Rattle.pat_solve_elimination.specs.declared.error.RoundError.{RoundError}
use Rattle.pat_solve_elimination.specs.declared.error.RoundError.TheVariants.{TooLarge, NoMemory}
use Rattle.pat_solve_elimination.proofs.Rebuilt.{in_vain, rebuilt_one, all_at}

module _ (ks : List ℕ) (vs : List Pat) where
  -- the variables from a place on, with their values
  abbrev pub from_on : ℕ → Values
  from_on i = paired (drop i ks) (drop i vs)

  -- the rest of the turns, by the variables from i on and from j on, are the same
  abbrev Alike : ℕ → ℕ → Pat → Type 0
  Alike i j e = (turn_fits (from_on i) e ≡ turn_fits (from_on j) e) × (put_in_turn (from_on i) e ≡ put_in_turn (from_on j) e)

  -- the turns from the place on make of what is made what all turns make of f
  pub record Turned (f : Pat) (place : ℕ) (made : Pat) : Type 0 where
    pub within : place ≤ length ks
    pub fits : turn_fits (from_on place) made ≡ turn_fits (from_on 0) f
    pub whole : put_in_turn (from_on place) made ≡ put_in_turn (from_on 0) f

  pub begun : (f : Pat) → Turned f 0 f
  begun f = record { within = omega arith; fits = refl; whole = refl }

module _ (ks : List ℕ) (vs : List Pat) (as_many : length ks ≡ length vs) where
  from_next : (i : ℕ) → i < length ks → from_on ks vs i ≡ (get_or ks i 0, get_or vs i Zero) ∷ from_on ks vs (suc i)
  from_next i h = rw (drop-cons ks i 0 h, drop-cons vs i Zero (subst (λ n. i < n) as_many h)) refl

  one_passed : (i : ℕ) (e : Pat) → i < length ks → IsRebuilt e → is_small e ≡ true → has_var (get_or ks i 0) e ≡ false → Alike ks vs i (suc i) e
  one_passed i e h r s none =
      let same : put_one (get_or ks i 0) (get_or vs i Zero) e ≡ e = in_vain (get_or ks i 0) (get_or vs i Zero) e r none in (
        ap (λ us. turn_fits us e) (from_next i h)
            ∙ ap (λ x. is_small x && turn_fits (from_on ks vs (suc i)) x) same
            ∙ ap (λ b. b && turn_fits (from_on ks vs (suc i)) e) s,
        ap (λ us. put_in_turn us e) (from_next i h) ∙ ap (put_in_turn (from_on ks vs (suc i))) same,
      )

  passed : (n i : ℕ) (e : Pat) → i + n ≤ length ks → IsRebuilt e → is_small e ≡ true → ((j : ℕ) → i ≤ j → j < i + n → has_var (get_or ks j 0) e ≡ false) → Alike ks vs i (i + n) e
  passed zero i e h r s none = let same : i ≡ i + 0 = omega arith in subst (λ j. Alike ks vs i j e) same (refl, refl)
  passed (suc n) i e h r s none =
      let first = one_passed i e (omega arith) r s (none i (omega arith) (omega arith)) in
      let rest = passed n (suc i) e (omega arith) r s (λ j a b. none j (omega arith) (omega arith)) in
      let same : suc i + n ≡ i + suc n = omega arith in
      subst (λ j. Alike ks vs i j e) same (first.0 ∙ rest.0, first.1 ∙ rest.1)

  -- the turns before the place change nothing of a pattern that is rebuilt
  pub begun_from : (f : Pat) (start : ℕ) → start ≤ length ks → is_small f ≡ true → (0 < start → IsRebuilt f) → ((j : ℕ) → j < start → has_var (get_or ks j 0) f ≡ false) → Turned ks vs f start f
  begun_from f zero w s r none = begun ks vs f
  begun_from f (suc n) w s r none =
      let none_before : (j : ℕ) → 0 ≤ j → j < 0 + suc n → has_var (get_or ks j 0) f ≡ false = λ j a b. none j (omega arith) in
      let there : 0 + suc n ≡ suc n = omega arith in
      let skip : Alike ks vs 0 (suc n) f = subst (λ j. Alike ks vs 0 j f) there (passed (suc n) 0 f (omega arith) (r (omega arith)) s none_before) in
      record { within = w; fits = sym skip.0; whole = sym skip.1 }

  -- one more, after which those up to the next place are passed over
  pub turned : (f : Pat) (place : ℕ) (made new : Pat) (next : ℕ) → AllByRecursion IsRebuilt vs → Turned ks vs f place made → place < length ks → new ≡ put_one (get_or ks place 0) (get_or vs place Zero) made → is_small new ≡ true → suc place ≤ next → next ≤ length ks → ((j : ℕ) → suc place ≤ j → j < next → has_var (get_or ks j 0) new ≡ false) → Turned ks vs f next new
  turned f place made new next rebuilt t h is s a b none =
      let rebuilt_new : IsRebuilt new = subst IsRebuilt (sym is) (rebuilt_one (get_or ks place 0) (get_or vs place Zero) made (all_at vs place rebuilt)) in
      let n : ℕ = next - suc place in
      let there : suc place + n ≡ next = omega arith in
      let skip : Alike ks vs (suc place) next new = subst (λ j. Alike ks vs (suc place) j new) there
      (passed n (suc place) new (omega arith) rebuilt_new s (λ j p q. none j p (omega arith))) in
      record {
        within = b;
        fits =
            sym skip.0
            ∙ sym (ap (λ b. b && turn_fits (from_on ks vs (suc place)) new) s)
            ∙ ap (λ x. is_small x && turn_fits (from_on ks vs (suc place)) x) is
            ∙ sym (ap (λ us. turn_fits us made) (from_next place h))
            ∙ t.fits;
        whole =
            sym skip.1
            ∙ ap (put_in_turn (from_on ks vs (suc place))) is
            ∙ sym (ap (λ us. put_in_turn us made) (from_next place h))
            ∙ t.whole;
      }

  -- what is made is too large
  pub turned_out : (f : Pat) (place : ℕ) (made : Pat) → Turned ks vs f place made → place < length ks → is_small (put_one (get_or ks place 0) (get_or vs place Zero) made) ≡ false → turn_fits (from_on ks vs 0) f ≡ false
  turned_out f place made t h large =
      sym t.fits
      ∙ ap (λ us. turn_fits us made) (from_next place h)
      ∙ ap (λ b. b && turn_fits (from_on ks vs (suc place)) (put_one (get_or ks place 0) (get_or vs place Zero) made)) large

  none_left : (place : ℕ) → length ks ≤ place → from_on ks vs place ≡ []
  none_left place h = rw (drop_all ks place h) refl
    where
      drop_all : (xs : List ℕ) (i : ℕ) → length xs ≤ i → drop i xs ≡ []
      drop_all [] zero h = refl
      drop_all [] (suc i) h = refl
      drop_all (x ∷ xs) zero h = absurd (omega arith)
      drop_all (x ∷ xs) (suc i) h = drop_all xs i (omega arith)

  -- no turn is left
  pub ended : (f : Pat) (place : ℕ) (made : Pat) → Turned ks vs f place made → length ks ≤ place → (made ≡ put_in_turn (from_on ks vs 0) f) × (turn_fits (from_on ks vs 0) f ≡ true)
  ended f place made t h = (
    sym (ap (λ us. put_in_turn us made) (none_left place h)) ∙ t.whole,
    sym t.fits ∙ ap (λ us. turn_fits us made) (none_left place h),
  )

  -- a turn gives none
  pub refused : (f : Pat) (place : ℕ) (made : Pat) (e : RoundError) → Turned ks vs f place made → place < length ks → Gives (Err e) (is_small (put_one (get_or ks place 0) (get_or vs place Zero) made)) (put_one (get_or ks place 0) (get_or vs place Zero) made) → Gives (Err e) (turn_fits (from_on ks vs 0) f) (put_in_turn (from_on ks vs 0) f)
  refused f place made TooLarge t h g = turned_out f place made t h g
  refused f place made NoMemory t h g = tt

-- Closed forms that are kept, one more of which is made.
use Rattle.std.proofs.Common.{◌≡◌, ℕ, zero, suc, ◌+◌, ◌<◌, List, [], ◌∷◌, ◌++◌, length, Some, refl, sym, ap, ◌∙◌, subst, slice_get, slice_set, length-set, length-append}
use Rattle.std.specs.Prelude.{get_or}
use Rattle.pat_inclusion_spec.specs.Counts.{most_tags}
use Rattle.pat_inclusion_spec.specs.ClosedForms.{closed_form}
use Rattle.pat_solve_closed_forms.specs.declared.forms.Assignment.{Assignment}
use Rattle.pat_solve_closed_forms.specs.declared.forms.KeptForm.{KeptForm}
use Rattle.pat_solve_closed_forms.specs.declared.forms.KeptForm.TheVariants.{Unmade}
use Rattle.pat_solve_closed_forms.specs.Forms.{values_by, IsKept, AreKept}

-- ---- what holds of each item and its place

each_set : {A : Type 0} (P : ℕ → A → Type 0) (xs : List A) (place : ℕ) (x : A) → P place x → ((k : ℕ) (y : A) → slice_get xs k ≡ Some y → P k y) → (k : ℕ) (y : A) → slice_get (slice_set xs place x) k ≡ Some y → P k y
each_set P [] place x own each k y h = each k y h
each_set P (z ∷ zs) zero x own each zero y h = let same : x ≡ y = cc in subst (P 0) same own
each_set P (z ∷ zs) zero x own each (suc k) y h = each (suc k) y h
each_set P (z ∷ zs) (suc place) x own each zero y h = each 0 y h
each_set P (z ∷ zs) (suc place) x own each (suc k) y h =
    each_set (λ j. P (suc j)) zs place x own (λ j. each (suc j)) k y h

-- ---- closed forms

module _ (by : Assignment) where
  abbrev KeptAt : ℕ → KeptForm → Type 0
  KeptAt place form = IsKept (closed_form most_tags (values_by by (get_or by.variables.now place 0))) form

  pub kept_more : (old new : List KeptForm) (place : ℕ) (form : KeptForm) → AreKept by old → new ≡ slice_set old place form → KeptAt place form → AreKept by new
  kept_more old new place form h made own =
      subst (AreKept by) (sym made)
      (record {
        as_many = length-set old place form ∙ h.as_many;
        each = each_set KeptAt old place form own h.each;
      })

  pub kept_none : (forms : List KeptForm) → length forms ≡ length by.variables.now → ((place : ℕ) (form : KeptForm) → slice_get forms place ≡ Some form → form ≡ Unmade) → AreKept by forms
  kept_none forms as_many none = record {
    as_many = as_many;
    each = λ place form at. subst (KeptAt place) (sym (none place form at)) tt;
  }

  pub place_within : (forms : List KeptForm) (place : ℕ) → AreKept by forms → place < length by.variables.now → place < length forms
  place_within forms place h l = subst (λ n. place < n) (sym h.as_many) l

  -- what is kept at the place of a variable
  pub kept_there : (forms : List KeptForm) (place k : ℕ) (form : KeptForm) → AreKept by forms → slice_get forms place ≡ Some form → get_or by.variables.now place 0 ≡ k → IsKept (closed_form most_tags (values_by by k)) form
  kept_there forms place k form h at is = subst (λ j. IsKept (closed_form most_tags (values_by by j)) form) is (h.each place form at)

each_pushed : {A : Type 0} (P : A → Type 0) (xs : List A) (x : A) → P x → ((k : ℕ) (y : A) → slice_get xs k ≡ Some y → P y) → (k : ℕ) (y : A) → slice_get (xs ++ x ∷ []) k ≡ Some y → P y
each_pushed P [] x own each zero y h = let same : x ≡ y = cc in subst P same own
each_pushed P [] x own each (suc k) y h = each k y h
each_pushed P (z ∷ zs) x own each zero y h = each 0 y h
each_pushed P (z ∷ zs) x own each (suc k) y h = each_pushed P zs x own (λ j. each (suc j)) k y h

pub none_more : (old new : List KeptForm) → new ≡ old ++ Unmade ∷ [] → ((place : ℕ) (form : KeptForm) → slice_get old place ≡ Some form → form ≡ Unmade) → (place : ℕ) (form : KeptForm) → slice_get new place ≡ Some form → form ≡ Unmade
none_more old new pushed none place form h =
    each_pushed (λ f. f ≡ Unmade) old Unmade refl none place form (subst (λ fs. slice_get fs place ≡ Some form) pushed h)

pub one_more : (old new : List KeptForm) (n : ℕ) → new ≡ old ++ Unmade ∷ [] → length old ≡ n → length new ≡ n + 1
one_more old new n pushed count =
    ap length pushed ∙ length-append old (Unmade ∷ []) ∙ ap (λ m. m + 1) count

-- Sets are directly covered by themselves, so a constraint whose sides are the same is covered.
use Rattle.std.proofs.Common.{◌≡◌, ℕ, suc, Bool, true, false, ◌&&◌, List, [], ◌∷◌, Option, Some, None, refl, sym, ap, ◌∙◌, subst, arith, zero-mul}
use Rattle.std.specs.Prelude.{slice_get, is_some}
use Rattle.std.specs.List.{AllByRecursion}
use Rattle.pat_words_spec.specs.Patterns.{Pat}
use Rattle.pat_words_spec.specs.Words.{Word, plus}
use Rattle.pat_words_laws.proofs.WordLaws.{word_ext}
use Rattle.pat_inclusion_spec.specs.Counts.{most_tags}
use Rattle.pat_inclusion_spec.specs.LinearSets.{LinearSet, combined}
use Rattle.pat_inclusion_spec.specs.ClosedForms.{closed_form}
use Rattle.pat_inclusion_spec.specs.Covers.{IsMadeOf, LiesDirectly, IsDirectlyCovered}
use Rattle.pat_solve_spec.specs.Derived.{IsCovered}
use Rattle.pat_solve_bounded.specs.Limits.{within}
use Rattle.pat_solve_elimination.proofs.Forms.{part_is}
use Rattle.pat_solve_closed_forms.specs.declared.checking.Finding.{Finding}
use Rattle.pat_solve_closed_forms.specs.declared.checking.Finding.TheVariants.{Covered, Uncovered, TooLarge}
use Rattle.pat_solve_closed_forms.specs.declared.forms.SideForm.{SideForm}
use Rattle.pat_solve_closed_forms.specs.Forms.{side_sets, side_view}
use Rattle.pat_solve_closed_forms.specs.Findings.{have_forms, Follows}
use Rattle.pat_solve_closed_forms.specs.declared.same.Comparison.{Comparison}
use Rattle.pat_solve_closed_forms.specs.declared.same.Comparison.TheVariants.{Apart, Same, SameWithForm}
use Rattle.pat_solve_closed_forms.specs.Comparisons.{Compares, ComparesParts}
use Rattle.pat_solve_closed_forms.proofs.Bounding.{short_form}
use Rattle.pat_solve_closed_forms.proofs.Steps.{follows_uncovered}

all_with : {A : Type 0} (P Q : A → Type 0) → ((x : A) → P x → Q x) → (xs : List A) → AllByRecursion P xs → AllByRecursion Q xs
all_with P Q f [] h = tt
all_with P Q f (x ∷ xs) h = (f x h.0, all_with P Q f xs h.1)

-- ---- each period by itself, and none of the others

abbrev zeros : List Word → List ℕ
zeros [] = []
zeros (p ∷ ps) = 0 ∷ zeros ps

none_taken : (ps : List Word) (t : ℕ) → combined (zeros ps) ps t ≡ 0
none_taken [] t = refl
none_taken (p ∷ ps) t = let rest = none_taken ps t in let own = zero-mul (p t) in omega arith

first_made : (p : Word) (ps : List Word) → IsMadeOf (p ∷ ps) p
first_made p ps = (1 ∷ zeros ps, word_ext p (combined (1 ∷ zeros ps) (p ∷ ps)) (λ t. let rest = none_taken ps t in omega arith))

made_behind : (p : Word) (ps : List Word) (w : Word) → IsMadeOf ps w → IsMadeOf (p ∷ ps) w
made_behind p ps w m =
    (0 ∷ m.0, m.1 ∙ word_ext (combined m.0 ps) (combined (0 ∷ m.0) (p ∷ ps)) (λ t. let own = zero-mul (p t) in omega arith))

each_made : (ps : List Word) → AllByRecursion (IsMadeOf ps) ps
each_made [] = tt
each_made (p ∷ ps) = (first_made p ps, all_with (IsMadeOf ps) (IsMadeOf (p ∷ ps)) (made_behind p ps) ps (each_made ps))

lies_in_itself : (s : LinearSet) → LiesDirectly s s
lies_in_itself s = record {
  base = (zeros s.periods, word_ext s.base (plus s.base (combined (zeros s.periods) s.periods)) (λ t. let none = none_taken s.periods t in omega arith));
  periods = each_made s.periods;
}

-- ---- each set by itself

abbrev LiesInOne : List LinearSet → LinearSet → Type 0
LiesInOne right s = (place : ℕ) × (r : LinearSet) × (slice_get right place ≡ Some r) × LiesDirectly s r

lies_behind : (first : LinearSet) (right : List LinearSet) (s : LinearSet) → LiesInOne right s → LiesInOne (first ∷ right) s
lies_behind first right s h = (suc h.0, h.1, h.2, h.3)

covered_by_itself : (sets : List LinearSet) → IsDirectlyCovered sets sets
covered_by_itself [] = tt
covered_by_itself (s ∷ ss) =
    ((0, s, refl, lies_in_itself s), all_with (LiesInOne ss) (LiesInOne (s ∷ ss)) (lies_behind s ss) ss (covered_by_itself ss))

-- ---- sides that are the same

same_covered : (n : ℕ) (e f : Pat) (sets : List LinearSet) → e ≡ f → Some sets ≡ closed_form n f → IsCovered n e f
same_covered n e f sets same own = record {
  left = sets;
  right = sets;
  left_is = ap (closed_form n) same ∙ sym own;
  right_is = sym own;
  covered = covered_by_itself sets;
}

follows_same : (m : ℕ) (e f : Pat) (before : Finding) (sets : List LinearSet) → e ≡ f → Some sets ≡ closed_form most_tags f → Follows m e f before before
follows_same m e f Covered sets same own = same_covered most_tags e f sets same own
follows_same m e f (Uncovered k) sets same own =
    follows_uncovered m k e f sets sets (own ∙ sym (ap (closed_form most_tags) same)) own
follows_same m e f TooLarge sets same own = tt

-- both sides are this one, which has a closed form
pub follows_there : (m : ℕ) (f : Pat) (before : Finding) (o : Option SideForm) (form : SideForm) → o ≡ Some form → side_view o ≡ closed_form most_tags f → Follows m f f before before
follows_there m f before o form there own =
    follows_same m f f before (side_sets form) refl (subst (λ x. side_view x ≡ closed_form most_tags f) there own)

-- a side has no closed form
pub follows_large : (m : ℕ) (e f : Pat) (before : Finding) → have_forms most_tags e f ≡ false → Follows m e f before TooLarge
follows_large m e f Covered h = h
follows_large m e f (Uncovered k) h = h
follows_large m e f TooLarge h = tt

pub no_left_form : (m : ℕ) (e f : Pat) (before : Finding) → None ≡ closed_form most_tags e → Follows m e f before TooLarge
no_left_form m e f before none =
    follows_large m e f before (ap (λ o. is_some o && is_some (closed_form most_tags f)) (sym none))

pub no_right_form : (m : ℕ) (e f : Pat) (before : Finding) → None ≡ closed_form most_tags f → Follows m e f before TooLarge
no_right_form m e f before none =
    follows_large m e f before (ap (λ o. is_some (closed_form most_tags e) && is_some o) (sym none) ∙ none_after (is_some (closed_form most_tags e)))
  where
    none_after : (b : Bool) → (b && false) ≡ false
    none_after true = refl
    none_after false = refl

-- ---- sides that come to the same parts

come_to_one : (e f p q : Pat) → Some p ≡ within e → Some q ≡ within f → p ≡ q → e ≡ f
come_to_one e f p q left right same = sym (part_is e p left) ∙ same ∙ part_is f q right

pub compares : (e f p q : Pat) (c : Comparison) → Some p ≡ within e → Some q ≡ within f → ComparesParts p q c → Compares e f c
compares e f p q Apart left right h = tt
compares e f p q Same left right h = come_to_one e f p q left right h
compares e f p q SameWithForm left right h =
    (come_to_one e f p q left right h.0, short_form most_tags f q right h.1)

form_there : (o : Option (List LinearSet)) → is_some o ≡ true → (sets : List LinearSet) × (Some sets ≡ o)
form_there (Some sets) h = (sets, refl)
form_there None h = let clash : false ≡ true = h in cc

pub follows_with_form : (m : ℕ) (e f : Pat) (before : Finding) → Compares e f SameWithForm → Follows m e f before before
follows_with_form m e f before h =
    let form = form_there (closed_form most_tags f) h.1 in follows_same m e f before form.0 h.0 form.1

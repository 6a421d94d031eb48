-- What is found first in lists one behind the other.
use Rattle.std.proofs.Common.{◌≡◌, ℕ, ◌+◌, ◌<◌, List, [], ◌∷◌, ◌++◌, length, drop, get_or, Some, None, refl, ap, sym, subst, ◌∙◌}
use Rattle.std.proofs.lemmas.List.{at_drop_more}
use Rattle.std.specs.Prelude.{Result, Ok, Err}
use Rattle.pat_resolver_spec.specs.Findings.{Finding}
use Rattle.pat_resolver_heads.specs.results.Results.{first_of, Refuses, Meets}
use Rattle.pat_resolver_heads.specs.results.Views.{finding_view}
use Rattle.pat_resolver_heads.specs.declared.results.error.ResolveError.{ResolveError}
use Rattle.pat_resolver_heads.specs.declared.results.error.ResolveError.TheVariants.{Broken, NoMemory}

-- where nothing is found first, nothing is found
pub first_none : (xs : List Finding) → first_of xs ≡ None → xs ≡ []
first_none [] e = refl
first_none (x ∷ xs) e = cc

-- where nothing is found in the front, the rest decides
pub first_behind : (xs ys : List Finding) → first_of xs ≡ None → first_of (xs ++ ys) ≡ first_of ys
first_behind [] ys e = refl
first_behind (x ∷ xs) ys e = cc

-- what is found first in the front is first
pub first_front : (xs ys : List Finding) (x : Finding) → first_of xs ≡ Some x → first_of (xs ++ ys) ≡ Some x
first_front [] ys x e = cc
first_front (y ∷ xs) ys x e = e

-- nothing is found in either
pub nothing_found : (xs ys : List Finding) → first_of xs ≡ None → first_of ys ≡ None → first_of (xs ++ ys) ≡ None
nothing_found xs ys e f = first_behind xs ys e ∙ f

-- a refusal of the front is one of the whole
pub refuses_front : (e : ResolveError) (xs ys : List Finding) → Refuses e xs → Refuses e (xs ++ ys)
refuses_front (Broken k s) xs ys m = first_front xs ys (finding_view k s) m
refuses_front NoMemory xs ys m = tt

-- where nothing is found in the front, a refusal of the rest is one of the whole
pub refuses_behind : (e : ResolveError) (xs ys : List Finding) → first_of xs ≡ None → Refuses e ys → Refuses e (xs ++ ys)
refuses_behind (Broken k s) xs ys e m = first_behind xs ys e ∙ m
refuses_behind NoMemory xs ys e m = tt

-- and so does a result that meets the rest
pub meets_behind : {A : Type 0} (r : Result A ResolveError) (xs ys : List Finding) → first_of xs ≡ None → Meets r ys → Meets r (xs ++ ys)
meets_behind (Ok x) xs ys e m = first_behind xs ys e ∙ m
meets_behind (Err x) xs ys e m = refuses_behind x xs ys e m

-- what is found first decides
pub refuses_same : (e : ResolveError) (xs ys : List Finding) → first_of xs ≡ first_of ys → Refuses e xs → Refuses e ys
refuses_same (Broken k s) xs ys same m = sym same ∙ m
refuses_same NoMemory xs ys same m = tt

-- a refusal of the front that is handed on, where the front and the rest begin as the whole does
pub refused : {A : Type 0} (r : Result A ResolveError) (given e : ResolveError) (front rest whole : List Finding) → r ≡ Err given → given ≡ e → Refuses e front → first_of (front ++ rest) ≡ first_of whole → Meets r whole
refused {A} r given e front rest whole is from m same =
    let P : Result A ResolveError → Type 0 = λ v. Meets v whole in
    subst P (sym (is ∙ ap (λ x. Err x) from)) (refuses_same e (front ++ rest) whole same (refuses_front e front rest m))

-- the findings of what is left of a list begin with those of the next item
pub at_item : {X : Type 0} (F : List X → List Finding) (xs : List X) (i : ℕ) (x : X) (whole : List Finding) → i < length xs → x ≡ get_or xs i x → first_of (F (drop i xs)) ≡ first_of whole → first_of (F (x ∷ drop (i + 1) xs)) ≡ first_of whole
at_item F xs i x whole h is all = ap (λ y. first_of (F (y ∷ drop (i + 1) xs))) is ∙ sym (at_drop_more (λ ys. first_of (F ys)) xs i x h) ∙ all

-- past a front in which nothing is found, the rest begins as the whole does
pub passed : (front rest whole : List Finding) → first_of front ≡ None → first_of (front ++ rest) ≡ first_of whole → first_of rest ≡ first_of whole
passed front rest whole none same = sym (first_behind front rest none) ∙ same

-- What is found first, part by part.
use Rattle.std.proofs.Common.{◌≡◌, List, ◌++◌, None, IsErrAnd, sym, ◌∙◌}
use Rattle.std.specs.Prelude.{Result}
use Rattle.std.proofs.lemmas.Result.{err_from_is_err_and}
use Rattle.pat_resolver_spec.specs.Findings.{Finding}
use Rattle.pat_resolver_heads.specs.results.Results.{first_of, Refuses, Meets}
use Rattle.pat_resolver_heads.specs.declared.results.error.ResolveError.{ResolveError}
use Rattle.pat_resolver_heads.specs.declared.results.error.ResolveError.TheVariants.{Broken, NoMemory}
use Rattle.pat_resolver_heads.proofs.Firsts.{first_front, first_behind, refuses_front}
use Rattle.pat_resolver_bodies.proofs.Places.{place_is}

pub ruleset in_order = (first_front, first_behind, place_is)

-- what is refused is what is found first, wherever it is found
pub refuses_same : (e : ResolveError) (xs ys : List Finding) → first_of xs ≡ first_of ys → Refuses e xs → Refuses e ys
refuses_same (Broken k s) xs ys same m = sym same ∙ m
refuses_same NoMemory xs ys same m = tt

-- an error that is passed on refuses what it refused
pub passed : {A : Type 0} (r : Result A ResolveError) (e : ResolveError) (fs : List Finding) → IsErrAnd r (λ y. y ≡ e) → Refuses e fs → Meets r fs
passed r e fs h m = let p = err_from_is_err_and r h in rw (p.1, p.2) m

-- what is refused in front of the rest is refused in the whole
pub stops : {A : Type 0} (r : Result A ResolveError) (e : ResolveError) (front rest whole : List Finding) → IsErrAnd r (λ y. y ≡ e) → first_of (front ++ rest) ≡ first_of whole → Refuses e front → Meets r whole
stops r e front rest whole h same m = passed r e whole h (refuses_same e (front ++ rest) whole same (refuses_front e front rest m))

-- where nothing is found in front, the rest stands for the whole
pub goes_on : (front rest whole : List Finding) → first_of (front ++ rest) ≡ first_of whole → first_of front ≡ None → first_of rest ≡ first_of whole
goes_on front rest whole same none = sym (first_behind front rest none) ∙ same

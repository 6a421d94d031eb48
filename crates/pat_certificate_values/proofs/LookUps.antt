-- Look-ups in lists as the definitions see them.
use Rattle.std.proofs.Common.{◌≡◌, ℕ, zero, suc, ◌+◌, ◌-◌, ◌<◌, ◌≤◌, List, [], ◌∷◌, map, option_map, Some, None, Option, length, refl, sym, ap, ◌∙◌, subst, arith}
use Rattle.std.specs.Prelude.{slice_get, nat_eq, Bool, false}
use Rattle.std.specs.List.{AllByRecursion}
use Rattle.std.proofs.lemmas.Option.{slice_get-map}
use Rattle.std.proofs.lemmas.List.{length-map}
use Rattle.pat_semantics_spec.specs.Programs as model
use Rattle.pat_semantics_spec.specs.WellFormed.{WellFormed, InterfaceFits}
use Rattle.pat_inclusion_spec.specs.Values.{VarLine, var_at}
use Rattle.pat_derivation_spec.specs.Derivations.{tag_count}
use Rattle.pat_core.specs.declared.program.Interface.{Interface}
use Rattle.pat_core.specs.declared.program.Program.{Program}
use Rattle.pat_core.specs.Views.{tag_view, interface_view, program_view}
use Rattle.pat_derivations.specs.declared.data.VarValue.{VarValue}
use Rattle.pat_derivations.specs.Views.{var_view, vars_view}

-- the tags of an interface, if there is one
abbrev pub code_count : Option Interface → ℕ
code_count None = 0
code_count (Some i) = length i.tags

count_in : (o : Option Interface) → tag_count (option_map interface_view o) ≡ code_count o
count_in None = refl
count_in (Some i) = length-map i.tags tag_view

pub count_is : (p : Program) (i : ℕ) → tag_count (slice_get (program_view p).interfaces i) ≡ code_count (slice_get p.interfaces i)
count_is p i = ap tag_count (slice_get-map interface_view p.interfaces i) ∙ count_in (slice_get p.interfaces i)

few_in : (p : model.Program) (is : List model.Interface) (i : ℕ) → AllByRecursion (InterfaceFits p) is → tag_count (slice_get is i) < 33
few_in p [] i h = omega arith
few_in p (x ∷ is) zero h = let f = h.0.few in omega arith
few_in p (x ∷ is) (suc i) h = few_in p is i h.1

pub few_tags : (p : model.Program) (i : ℕ) → WellFormed p → tag_count (slice_get p.interfaces i) < 33
few_tags p i h = few_in p p.interfaces i h.interfaces

pub place_get : (vs : List (ℕ × VarValue)) (k : ℕ) → slice_get (vars_view vs) k ≡ option_map var_view (slice_get vs k)
place_get vs k = slice_get-map var_view vs k

pub var_before : (vs : List VarLine) (n : ℕ) → (n ≡ 0 → ⊥) → var_at vs n ≡ slice_get vs (n - 1)
var_before vs zero h = absurd (h refl)
var_before vs (suc k) h = ap (slice_get vs) (before k)
  where
    before : (k : ℕ) → k ≡ suc k - 1
    before k = omega arith

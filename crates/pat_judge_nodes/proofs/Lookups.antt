-- Look-ups in lists as the definitions see them.
use Rattle.std.proofs.Common.{◌≡◌, ℕ, ◌||◌, nat_eq, List, [], ◌∷◌, ◌++◌, option_map, Option, Some, None, refl, ap, ◌∙◌}
use Rattle.std.specs.Prelude.{slice_get, option_and_then}
use Rattle.std.proofs.lemmas.Option.{slice_get-map}
use Rattle.std.proofs.lemmas.List.Folds.{list_any-append}
use Rattle.std.proofs.Math.Bool.{or-false}
use Rattle.pat_semantics_spec.specs.Programs.{core_at, is_among}
use Rattle.pat_core.specs.declared.program.Node.{Node}
use Rattle.pat_core.specs.declared.program.Program.{Program}
use Rattle.pat_core.specs.Views.{core_view, node_view, function_view, program_view}
use Rattle.pat_derivation_spec.specs.Scopes.{function_of}

-- the function of a node, if there is one
function_in : (p : Program) (o : Option Node) → option_and_then (λ d. slice_get (program_view p).functions d.function) (option_map node_view o) ≡ option_map function_view (option_and_then (λ (d : Node). slice_get p.functions d.function) o)
function_in p None = refl
function_in p (Some d) = slice_get-map function_view p.functions d.function

pub function_get : (p : Program) (n : ℕ) → function_of (program_view p) n ≡ option_map function_view (option_and_then (λ (d : Node). slice_get p.functions d.function) (slice_get p.nodes n))
function_get p n =
    ap (option_and_then (λ d. slice_get (program_view p).functions d.function)) (slice_get-map node_view p.nodes n)
    ∙ function_in p (slice_get p.nodes n)

-- the term of a node, if there is one
term_in : (o : Option Node) → option_map (λ d. d.core) (option_map node_view o) ≡ option_map (λ (d : Node). core_view d.core) o
term_in None = refl
term_in (Some d) = refl

pub core_get : (p : Program) (n : ℕ) → core_at (program_view p) n ≡ option_map (λ (d : Node). core_view d.core) (slice_get p.nodes n)
core_get p n = ap (option_map (λ d. d.core)) (slice_get-map node_view p.nodes n) ∙ term_in (slice_get p.nodes n)

pub among_last : (x : ℕ) (ys : List ℕ) (z : ℕ) → is_among x (ys ++ z ∷ []) ≡ (is_among x ys || nat_eq x z)
among_last x ys z = list_any-append (nat_eq x) ys (z ∷ []) ∙ ap (λ b. is_among x ys || b) (or-false (nat_eq x z))

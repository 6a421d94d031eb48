-- Look-ups in lists as the definitions see them.
use Rattle.std.proofs.Common.{◌≡◌, ℕ, List, map, option_map, Some, None, Option, refl, ap, ◌∙◌}
use Rattle.std.specs.Prelude.{slice_get, option_and_then}
use Rattle.std.proofs.lemmas.Option.{slice_get-map}
use Rattle.pat_semantics_spec.specs.Programs.{tag_at}
use Rattle.pat_core.specs.declared.program.Kind.{Kind}
use Rattle.pat_core.specs.declared.program.Interface.{Interface}
use Rattle.pat_core.specs.declared.program.Program.{Program}
use Rattle.pat_core.specs.Views.{kind_view, tag_view, interface_view, program_view}
use Rattle.pat_derivations.specs.declared.data.DerivedNode.{DerivedNode}
use Rattle.pat_derivations.specs.Views.{line_view, lines_view}
use Rattle.pat_obligations.specs.declared.demand.Signature.{Signature}
use Rattle.pat_obligations.specs.Views.{signature_view}

pub line_get : (ds : List DerivedNode) (k : ℕ) → slice_get (lines_view ds) k ≡ option_map line_view (slice_get ds k)
line_get ds k = slice_get-map line_view ds k

pub kind_get : (ks : List Kind) (k : ℕ) → slice_get (map kind_view ks) k ≡ option_map kind_view (slice_get ks k)
kind_get ks k = slice_get-map kind_view ks k

pub signature_get : (ss : List Signature) (k : ℕ) → slice_get (map signature_view ss) k ≡ option_map signature_view (slice_get ss k)
signature_get ss k = slice_get-map signature_view ss k

-- the tag of an interface, if there is one
tag_in : (o : Option Interface) (m : ℕ) → option_and_then (λ j. slice_get j.tags m) (option_map interface_view o) ≡ option_map tag_view (option_and_then (λ (j : Interface). slice_get j.tags m) o)
tag_in None m = refl
tag_in (Some j) m = slice_get-map tag_view j.tags m

pub tag_get : (p : Program) (i m : ℕ) → tag_at (program_view p) i m ≡ option_map tag_view (option_and_then (λ (j : Interface). slice_get j.tags m) (slice_get p.interfaces i))
tag_get p i m =
    ap (option_and_then (λ j. slice_get j.tags m)) (slice_get-map interface_view p.interfaces i) ∙ tag_in (slice_get p.interfaces i) m

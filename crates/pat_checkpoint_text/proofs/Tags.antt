-- The tags of an interface, as the definitions see them.
use Rattle.std.proofs.Common.{◌≡◌, ℕ, zero, suc, List, [], ◌∷◌, map, refl, sym, ap, ◌∙◌}
use Rattle.std.specs.Prelude.{Some, None, slice_get}
use Rattle.pat_core.specs.declared.program.Interface.{Interface}
use Rattle.pat_core.specs.Views.{interface_view}
use Rattle.pat_derivation_lines.specs.patterns.Views.{names_of}
use Rattle.pat_derivation_lines.proofs.Names.{names_seen}
use Rattle.pat_derivation_text_spec.specs.DerivationText.{tags_named}

pub tags_are : (is : List Interface) (k : ℕ) (d : Interface) → slice_get is k ≡ Some d → names_of d.tags ≡ tags_named (slice_get (map interface_view is) k)
tags_are [] k d e = absurd cc
tags_are (i ∷ is) zero d e = let same : i ≡ d = cc in ap (λ j. names_of j.tags) (sym same) ∙ names_seen i.tags
tags_are (i ∷ is) (suc k) d e = tags_are is k d e

pub tags_beyond : (is : List Interface) (k : ℕ) → slice_get is k ≡ None → [] ≡ tags_named (slice_get (map interface_view is) k)
tags_beyond [] k e = refl
tags_beyond (i ∷ is) zero e = absurd cc
tags_beyond (i ∷ is) (suc k) e = tags_beyond is k e

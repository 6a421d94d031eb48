use Rattle.std.proofs.Common.{◌≡◌, ◌⊎◌, inl, inr, ℕ, List, [], ◌∷◌, refl, sym, ◌∙◌}
use Rattle.pat_parser_spec.specs.Trees.{Tree}
use Rattle.pat_resolver_spec.specs.Findings.{Finding, findings}
use Rattle.pat_resolver_spec.specs.Numbering.{numbered}
use Rattle.pat_resolver_laws.specs.Laws.{OneResolution}
use Rattle.pat_resolver_spec.specs.Claims.{Resolves, BreaksFirst}
use Rattle.pat_resolver_laws.proofs.Resolved.{kept, placed, resolved}
use Rattle.pat_resolver_laws.proofs.resolution_laws.Goals as goal

one_resolution : (end : ℕ) (t : Tree) → OneResolution end t
one_resolution end t = record { answered = answer (findings end t) refl; not_both = λ p x r f. (let none : [] ≡ x ∷ f.behind = sym r.sound ∙ f.first in cc) }
  where
    answer : (xs : List Finding) → findings end t ≡ xs → Resolves end t (numbered t) ⊎ ((x : Finding) × BreaksFirst end t x)
    answer [] e = inl (record { sound = e; program = refl })
    answer (x ∷ xs) e = inr (x, record { behind = xs; first = e })

pub returns : goal.returns
returns c = record { answer = one_resolution; whole = resolved; strings = kept; placed = placed }

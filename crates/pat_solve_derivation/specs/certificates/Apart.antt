-- Lets whose parts share no variable.
use Rattle.std.specs.Prelude.{◌≡◌, ℕ, ◌⊎◌, [], Option, Some, None}
use Rattle.std.specs.List.{AllByRecursion, flat_map}
use Rattle.pat_semantics_spec.specs.Programs.{Program}
use Rattle.pat_type_schemes_spec.specs.NodeTypes.{Needs, need_of}
use Rattle.pat_inclusion_spec.specs.Values.{Scope}
use Rattle.pat_derivation_spec.specs.Derivations.{Line, Derivation}
use Rattle.pat_derivation_spec.specs.Demands.{inclusions_of}
use Rattle.pat_derivation_spec.specs.Conditions.{Place, demands}
use Rattle.pat_solve_spec.specs.Derived.{Form, AreCertsFor}
use Rattle.pat_solve_spec.specs.Laws.{IsWritten}

-- what the line names, if there is one
abbrev pub needs_of : Option Line → Needs
needs_of None = []
needs_of (Some l) = l.of.needs

-- no variable is named by both
abbrev pub AreApart : Needs → Needs → Type 0
AreApart ms ns = (x : ℕ) → (need_of ms x ≡ None) ⊎ (need_of ns x ≡ None)

-- the node needs no certificates, where its demands are written as those of derivations that are made
abbrev pub NeedsNone : Program → Derivation → Place → Type 0
NeedsNone p d h =
    (s : Scope) (forms : ℕ → Form)
    → AllByRecursion IsWritten (demands p d h)
    → AreCertsFor s forms (flat_map inclusions_of (demands p d h)) []

-- A history either replays or has just one entry that is refused.
use Rattle.std.proofs.Common.{◌≡◌, ℕ, zero, suc, List, [], ◌∷◌, Option, Some, None, refl, sym, ap, ◌∙◌, subst}
use Rattle.std.specs.Prelude.{option_and_then}
use Rattle.pat_semantics_spec.specs.Programs.{Program}
use Rattle.pat_semantics_spec.specs.Configs.{Config}
use Rattle.pat_semantics_spec.specs.Runs.{Entry, entry_steps, entry_from, replay_from}
use Rattle.pat_machine_spec.specs.Refusals.{IsRefusedAt}

-- a history with a refused entry has no replay
pub refused_none : (p : Program) (c : Config) (es : List Entry) (i : ℕ) → IsRefusedAt p c es i → replay_from p c es ≡ None
refused_none p c [] i h = absurd h
refused_none p c (e ∷ es) zero h = ap (option_and_then (λ d. replay_from p d es)) h
refused_none p c (e ∷ es) (suc i) (d, is, h) = ap (option_and_then (λ d. replay_from p d es)) is ∙ refused_none p d es i h

-- one entry at most is refused
pub refused_once : (p : Program) (c : Config) (es : List Entry) (i j : ℕ) → IsRefusedAt p c es i → IsRefusedAt p c es j → i ≡ j
refused_once p c [] i j h g = absurd h
refused_once p c (e ∷ es) zero zero h g = refl
refused_once p c (e ∷ es) zero (suc j) h (d, is, g) = cc
refused_once p c (e ∷ es) (suc i) zero (d, is, h) g = cc
refused_once p c (e ∷ es) (suc i) (suc j) (d, is, h) (k, at, g) =
    let both : Some d ≡ Some k = sym is ∙ at in
    let same : d ≡ k = cc in
    ap suc (refused_once p d es i j h (subst (λ x. IsRefusedAt p x es j) (sym same) g))

-- a history without a replay has a refused entry
pub none_refused : (p : Program) (c : Config) (es : List Entry) → replay_from p c es ≡ None → (i : ℕ) × IsRefusedAt p c es i
none_refused p c [] h = cc
none_refused p c (e ∷ es) h = go (entry_from p c (entry_steps e)) refl h (λ d g. none_refused p d es g)
  where
    go : (o : Option Config) → entry_from p c (entry_steps e) ≡ o → option_and_then (λ d. replay_from p d es) o ≡ None → ((d : Config) → replay_from p d es ≡ None → (i : ℕ) × IsRefusedAt p d es i) → (i : ℕ) × IsRefusedAt p c (e ∷ es) i
    go None is g rest = (zero, is)
    go (Some d) is g rest = let k = rest d g in (suc k.0, (d, is, k.1))

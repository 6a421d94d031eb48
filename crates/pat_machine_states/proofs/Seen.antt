-- What contracts see of a kept configuration: the configuration, and places for messages.
use Rattle.std.proofs.Common.{◌≡◌, ℕ, ◌<◌, length, sym, ap, subst}
use Rattle.pat_semantics_spec.specs.Configs.{Thread, Config, with_thread}
use Rattle.pat_machine_states.specs.Boxes.{Indexed, HasPlace}

pub config_of : {s t : Indexed} → s ≡ t → s.config ≡ t.config
config_of e = ap (λ (x : Indexed). x.config) e

pub places_of : {s t : Indexed} → s ≡ t → s.places ≡ t.places
places_of e = ap (λ (x : Indexed). x.places) e

-- a thread's state takes no place
pub still_has_place : (old new : Indexed) (limit t : ℕ) (s : Thread) → new.config ≡ with_thread old.config t s → new.places ≡ old.places → HasPlace old limit → HasPlace new limit
still_has_place old new limit t s put same has =
    subst (λ (c : Config). length c.messages < limit → length c.messages < new.places) (sym put)
    (subst (λ (n : ℕ). length old.config.messages < limit → length old.config.messages < n) (sym same) has)

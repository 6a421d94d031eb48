-- What a pass is that has no value, and one that has it.
use Rattle.std.proofs.Common.{ℕ, ◌≡◌, false, [], refl, sym, ap, ◌∙◌, subst, Option}
use Rattle.atomic_table.specs.Table.{Me}
use Rattle.pat_turn.specs.declared.view.View.{View}
use Rattle.pat_turn.specs.declared.view.Stage.{Stage}
use Rattle.pat_turn.specs.declared.view.Stage.TheVariants.{Spent, Idle, Waits, Holds}
use Rattle.pat_turn.specs.Shown.{has_value, Rests, IsSettled}

module _ {V N E : Type 0} (number : ℕ) (m : Me (Option V) (View N E)) (settled : IsSettled number m) where
  pub settled_idle : has_value m.0.stage ≡ false → (m.0.stage ≡ Idle) × (m.1 ≡ [])
  settled_idle calm = go m.0.stage refl
    where
      go : (t : Stage) → m.0.stage ≡ t → (m.0.stage ≡ Idle) × (m.1 ≡ [])
      go Spent e = absurd (subst (Rests m) e settled.rests)
      go Idle e = (e, subst (Rests m) e settled.rests)
      go (Waits t) e = absurd (subst (Rests m) e settled.rests)
      go (Holds t) e = absurd (cc (sym calm ∙ ap has_value e))

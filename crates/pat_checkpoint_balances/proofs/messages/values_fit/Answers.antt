use Rattle.std.proofs.Common.{◌≡◌, ℕ, suc, ap, refl, sym, ◌∙◌, ◌&&◌, Bool, true, false, List, [], ◌∷◌, length, map}
use Rattle.pat_semantics_spec.specs.Values.{Value, Kind}
use Rattle.pat_semantics_spec.specs.Programs.{kind_of}
use Rattle.std.proofs.lemmas.List.{length-map}
use Rattle.pat_core.specs.Views.{sort_view}
use Rattle.pat_reduce_values.specs.ValueViews.{value_view}
use Rattle.pat_checkpoint_spec.specs.Checkpoints.{interface_at}
use Rattle.pat_checkpoint_spec.specs.Kinds.{value_fits}
use Rattle.pat_checkpoint_spec.specs.Mailboxes.{values_fit}
use Rattle.pat_checkpoint_balances.proofs.messages.values_fit.Goals as goal

and_false : (b : Bool) → false ≡ (b && false)
and_false true = refl
and_false false = refl

unfit : (f : ℕ → ℕ) (vs : List Value) (ks : List Kind) → (length vs ≡ length ks → ⊥) → false ≡ values_fit f vs ks
unfit f [] [] h = absurd (h refl)
unfit f [] (k ∷ ks) h = refl
unfit f (v ∷ vs) [] h = refl
unfit f (v ∷ vs) (k ∷ ks) h = and_false (value_fits f v k) ∙ ap (λ b. value_fits f v k && b) (unfit f vs ks (λ e. h (ap suc e)))

pub returns-then-values-payloads : goal.returns-then-values-payloads
returns-then-values-payloads c =
    let vs = c.args.values.now in
    let ps = c.args.payloads.now in
    unfit (interface_at c.args.live.now c.args.interfaces.now) (map value_view vs) (map kind_of (map sort_view ps)) (λ e.
    c.if-values-payloads.true (sym (length-map vs value_view) ∙ e ∙ length-map (map sort_view ps) kind_of ∙ length-map ps sort_view))

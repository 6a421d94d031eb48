-- The first of a list that is read, and the others.
use Rattle.std.proofs.Common.{◌≡◌, ℕ, ◌==◌, false, List, [], ◌∷◌, length, map, refl, sym, ap, ◌∙◌}
use Rattle.std.specs.Prelude.{Option, Some, None, option_map, option_and_then}
use Rattle.pat_texts_spec.specs.Joined.{read_each, then_read}
use Rattle.pat_checkpoint_spec.specs.text.Outside.{pieces_outside, read_spaced, read_all, read_listed}

pub first_read : {A X : Type 0} (view : X → A) (read : List ℕ → Option A) (text : List ℕ) (x : X) (xs : List X) (first : List ℕ) (others : List (List ℕ)) → (length text == 0) ≡ false → pieces_outside 44 text ≡ first ∷ others → read first ≡ Some (view x) → xs ≡ x ∷ [] → then_read (map view xs) (read_each (read_spaced read) others) ≡ read_listed read text
first_read view read [] x xs first others some ps e grown = absurd cc
first_read {A = A} view read (b ∷ bs) x xs first others some ps e grown =
    ap (λ l. then_read (map view l) (read_each (read_spaced read) others)) grown ∙ by (read_each (read_spaced read) others)
    ∙ sym (ap (read_all read) ps ∙ ap (option_and_then (λ a. option_map (λ more. a ∷ more) (read_each (read_spaced read) others))) e)
  where
    by : (o : Option (List A)) → then_read (view x ∷ []) o ≡ option_map (λ more. view x ∷ more) o
    by None = refl
    by (Some more) = refl

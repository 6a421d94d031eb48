-- Parts of a text as the definitions see them.
use Rattle.std.specs.Prelude.{ℕ, List, [], Option, Some, None}
use Rattle.std.specs.Borrow.{Bor}
use Rattle.pat_semantics_spec.specs.Values as values
use Rattle.pat_reduce_values.specs.declared.values.Value.{Value}
use Rattle.pat_reduce_values.specs.ValueViews.{value_view}
use Rattle.pat_checkpoint_spec.specs.text.Outside as outside
use Rattle.pat_checkpoint_text.specs.declared.outside.Place.{Place}
use Rattle.pat_checkpoint_text.specs.declared.outside.Place.TheVariants as place

abbrev pub place_view : Place → outside.Place
place_view place.Outside = outside.Outside
place_view place.Inside = outside.Inside
place_view place.Escaped = outside.Escaped

-- the pieces that are left, if any are
abbrev pub pieces_left : ℕ → Option (Bor (List ℕ)) → List (List ℕ)
pieces_left c None = []
pieces_left c (Some b) = outside.pieces_outside c b.now

-- a variable and its value
abbrev pub named_view : ℕ × Value → ℕ × values.Value
named_view e = (e.0, value_view e.1)

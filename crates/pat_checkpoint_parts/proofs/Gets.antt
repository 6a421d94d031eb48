-- What a look at a place of a slice gives.
use Rattle.std.proofs.Common.{◌≡◌, ℕ, length, List, Option, Some, None, slice_get, option_copied, refl, sym}
use Rattle.std.specs.Borrow.{Bor}
use Rattle.std.specs.Slice.{IsGetResult}
use Rattle.std.proofs.lemmas.Option.{slice_get_past, slice_get_read}

pub copied_get : {A : Type 0} (xs : List A) (k : ℕ) (o : Option (Bor A)) → IsGetResult xs k k o → option_copied o ≡ slice_get xs k
copied_get xs k None h = sym (slice_get_past xs k h.3)
copied_get xs k (Some x) h = sym (slice_get_read xs (length xs) k x.now refl h.3.0 h.1)

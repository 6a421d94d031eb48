-- Where a text keeps its bytes. No public clause cites this module.
use Rattle.std.specs.Prelude.{ℕ, ◌≤◌, List, take}
use Rattle.pat_sequences.specs.declared.text.Bytes.{Bytes}
use Rattle.pat_sequences.specs.declared.text.Bytes.TheVariants.{Inline, Boxed}

abbrev pub bytes_view : Bytes → List ℕ
bytes_view (Inline len held) = take len held
bytes_view (Boxed bytes) = bytes.value.items

abbrev pub IsSound : Bytes → Type 0
IsSound (Inline len held) = len ≤ 15
IsSound (Boxed bytes) = Unit {0}

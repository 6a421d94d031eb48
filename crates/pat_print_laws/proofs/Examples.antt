-- Canonical texts by computation.
use Rattle.std.proofs.Common.{◌≡◌, refl}
use Rattle.pat_print_spec.specs.Text.{canonical_text}
use Rattle.pat_print_laws.specs.Examples.{brackets_tree, brackets_text, messages_tree, messages_text}

pub brackets_are : canonical_text brackets_tree ≡ brackets_text
brackets_are = refl

pub messages_are : canonical_text messages_tree ≡ messages_text
messages_are = refl

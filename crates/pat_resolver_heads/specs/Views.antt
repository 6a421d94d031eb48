-- What the definitions see of heads.
pub use Rattle.pat_resolver_heads.specs.Signatures.{signature_view}
use Rattle.std.specs.Prelude.{map}
use Rattle.pat_core.specs.Views.{interface_view}
use Rattle.pat_resolver_spec.specs.Heads as names
use Rattle.pat_resolver_heads.specs.declared.heads.Heads.{Heads}

abbrev pub heads_view : Heads → names.Heads
heads_view h = record { interfaces = map interface_view h.interfaces; signatures = map signature_view h.signatures }

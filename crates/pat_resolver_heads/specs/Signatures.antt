-- What the definitions see of a signature.
use Rattle.std.specs.Prelude.{map}
use Rattle.pat_core.specs.Views.{sort_view}
use Rattle.pat_resolver_spec.specs.Heads as names
use Rattle.pat_resolver_heads.specs.declared.heads.Signature.{Signature}

abbrev pub signature_view : Signature → names.Signature
signature_view s = record { name = s.name.now; params = map sort_view s.params; result = sort_view s.result }

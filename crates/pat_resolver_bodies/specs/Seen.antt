-- What the definitions see of the clauses so far.
use Rattle.pat_resolver_spec.specs.Findings.{Earlier}
use Rattle.pat_resolver_bodies.specs.declared.names.Seen.{Seen}

abbrev pub seen_view : Seen → Earlier
seen_view s = record { tags = s.tags; free = s.free; fail = s.fail }

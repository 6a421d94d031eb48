-- Covers as the definitions see them.
use Rattle.std.specs.Prelude.{List, map, Option, Some, None}
use Rattle.pat_inclusion_spec.specs.Covers.{CoverEntry}
use Rattle.pat_cover_certificates.specs.declared.cover.CoverEntry.{CoverEntry as CodeEntry}

abbrev pub entry_view : CodeEntry → CoverEntry
entry_view e = record { set = e.set; base = e.base; periods = e.periods }

abbrev pub entries_view : List CodeEntry → List CoverEntry
entries_view entries = map entry_view entries

-- an entry, if there is one
abbrev pub entry_if : Option CodeEntry → Option CoverEntry
entry_if (Some e) = Some (entry_view e)
entry_if None = None

-- a cover, if there is one
abbrev pub cover_if : Option (List CodeEntry) → Option (List CoverEntry)
cover_if (Some entries) = Some (entries_view entries)
cover_if None = None

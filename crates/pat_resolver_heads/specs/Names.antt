-- What the definitions see of the names of interfaces.
use Rattle.std.specs.Prelude.{List, map}
use Rattle.pat_resolver_spec.specs.Heads.{InterfaceNames}
use Rattle.pat_resolver_heads.specs.declared.names.InterfaceTable.{InterfaceTable}
use Rattle.pat_resolver_heads.specs.declared.names.Names.{Names}

abbrev pub table_view : InterfaceTable → InterfaceNames
table_view t = record { name = t.name.now; tags = t.tags }

abbrev pub names_view : Names → List InterfaceNames
names_view n = map table_view n.interfaces

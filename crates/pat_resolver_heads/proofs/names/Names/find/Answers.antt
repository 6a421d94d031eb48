use Rattle.std.proofs.Common.{List, get_or, ap, ◌∙◌}
use Rattle.pat_resolver_heads.specs.Names.{table_view}
use Rattle.pat_resolver_heads.specs.declared.names.InterfaceTable.{InterfaceTable}
use Rattle.pat_resolver_heads.proofs.Found.{found_in, missed_in}
use Rattle.pat_resolver_heads.proofs.names.Names.find.Goals as goal

pub returns-in-Some-clause-found : goal.returns-in-Some-clause-found
returns-in-Some-clause-found c =
    let n = c.args.self.now in
    let t : InterfaceTable = c.index-as_slice-place.result in
    found_in table_view (λ i. i.name) c.args.name.now n.table n.interfaces c.in-Some.place t n.tied c.in-Some.ensures.place (c.index-as_slice-place.is ∙ ap (λ (ts : List InterfaceTable). get_or ts c.in-Some.place t) c.as_slice.ensures)

pub returns-in-None-clause-found : goal.returns-in-None-clause-found
returns-in-None-clause-found c = let n = c.args.self.now in missed_in table_view (λ i. i.name) c.args.name.now n.table n.interfaces n.tied c.in-None.ensures.place

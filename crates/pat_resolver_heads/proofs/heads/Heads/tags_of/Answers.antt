use Rattle.std.proofs.Common.{map, ap, sym, ◌∙◌}
use Rattle.pat_semantics_spec.specs.Programs.{TagDecl as Seen}
use Rattle.pat_resolver_heads.proofs.Tags.{table_in, nothing_in, few_in}
use Rattle.pat_resolver_heads.proofs.heads.Heads.tags_of.Goals as goal

pub returns-then-interface-tables-clause-names : goal.returns-then-interface-tables-clause-names
returns-then-interface-tables-clause-names c =
    let h = c.args.self.now in
    table_in c.as_slice-tables.result.now h.names.interfaces h.interfaces c.args.interface _ c.as_slice-tables.ensures h.tagged c.if-interface-tables.true

pub returns-then-interface-tables-clause-few : goal.returns-then-interface-tables-clause-few
returns-then-interface-tables-clause-few c =
    let h = c.args.self.now in
    few_in c.as_slice-tables.result.now h.names.interfaces c.args.interface _ c.as_slice-tables.ensures h.few_tags c.if-interface-tables.true

pub returns-else-interface-tables-clause-names : goal.returns-else-interface-tables-clause-names
returns-else-interface-tables-clause-names c =
    let h = c.args.self.now in
    h.none ∙ sym (ap (map (λ (u : Seen). u.name)) (nothing_in c.as_slice-tables.result.now h.names.interfaces h.interfaces c.args.interface c.as_slice-tables.ensures h.tagged c.if-interface-tables.false))

use Rattle.std.proofs.Common.{◌≡◌, ◌≤◌, ◌++◌, map, drop, length}
use Rattle.pat_resolver_spec.specs.Heads.{interface_names}
use Rattle.pat_tree.specs.Views.{decl_view}
use Rattle.pat_resolver_heads.specs.Names.{table_view}
use Rattle.pat_resolver_heads.proofs.gather.gather_names.Given as goal

-- those so far, and behind them those of what is left, are all
abbrev pub invariant-loop-decl : goal.invariant-loop-decl
invariant-loop-decl l = record {
  tied : l.table ≡ map (λ i. i.name.now) l.interfaces;
  few : length l.interfaces ≤ l.decl-index;
  all : map table_view l.interfaces ++ interface_names (map decl_view (drop l.decl-index l.decls)) ≡ interface_names (map decl_view l.decls);
}

use Rattle.std.proofs.Common.{◌≡◌, ◌≤◌, map, drop}
use Rattle.pat_tree.specs.Views.{decl_view}
use Rattle.pat_resolver.specs.Entry.{main_in}
use Rattle.pat_resolver.proofs.Entries.{behind}
use Rattle.pat_resolver.proofs.entry.find_main.Given as goal

-- the first function of that name among those that are left is the first of all
abbrev pub invariant-loop-decl : goal.invariant-loop-decl
invariant-loop-decl l = record {
  few : l.number ≤ l.decl-index;
  left : behind l.number (main_in (map decl_view (drop l.decl-index l.decls))) ≡ main_in (map decl_view l.decls);
}

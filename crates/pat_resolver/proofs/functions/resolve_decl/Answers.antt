use Rattle.std.proofs.Common.{◌<◌, subst}
use Rattle.pat_parser_laws.specs.Counts.{decl_size}
use Rattle.pat_tree.specs.Views.{decl_view, name_view}
use Rattle.pat_resolver.proofs.Room.{names_few}
use Rattle.pat_resolver.proofs.functions.resolve_decl.Goals as goal
use Rattle.pat_limits.specs.Limits.{number_count}

pub resolve_function-requires-clause-names : goal.resolve_function-requires-clause-names
resolve_function-requires-clause-names c =
    names_few (name_view c.in-Def.name) _ _ _ _ c.as_slice.ensures (subst (λ d. decl_size (decl_view d) < number_count) c.in-Def.is c.requires.names)

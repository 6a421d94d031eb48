use Rattle.std.proofs.Common.{◌<◌, List, [], ◌∷◌, sym, subst, append-nil}
use Rattle.pat_parser_laws.specs.Counts.{decl_size}
use Rattle.pat_resolver_spec.specs.Heads.{definitions_of}
use Rattle.pat_resolver_spec.specs.Findings.{bodies_findings}
use Rattle.pat_tree.specs.Views.{decl_view, name_view}
use Rattle.pat_tree.specs.declared.tree.Decl.{Decl}
use Rattle.pat_tree.specs.declared.tree.Param.{Param}
use Rattle.pat_resolver_heads.specs.results.Results.{Meets}
use Rattle.pat_resolver_heads.specs.Names.{names_view}
use Rattle.pat_resolver_heads.specs.Views.{heads_view}
use Rattle.pat_resolver.specs.Steps.{definition_view, body_findings}
use Rattle.pat_resolver.proofs.Room.{names_few}
use Rattle.pat_resolver.proofs.functions.check_decl.Goals as goal
use Rattle.pat_limits.specs.Limits.{number_count}

pub check_function-requires-clause-names : goal.check_function-requires-clause-names
check_function-requires-clause-names c =
    names_few (name_view c.in-Def.name) _ _ _ _ c.as_slice.ensures (subst (λ d. decl_size (decl_view d) < number_count) c.in-Def.is c.requires.names)

pub returns-in-Def-clause-found : goal.returns-in-Def-clause-found
returns-in-Def-clause-found c =
    let names = names_view c.args.heads.now.names in
    let h = heads_view c.args.heads.now in
    let r = c.check_function.result in
    let own = subst (λ (ps : List Param). Meets r (body_findings names h (definition_view c.in-Def.name ps c.in-Def.result c.in-Def.body))) c.as_slice.ensures (c.check_function.ensures.found c.in-Def.name) in
    let alone = subst (λ fs. Meets r fs) (sym (append-nil (body_findings names h (definition_view c.in-Def.name c.in-Def.params c.in-Def.result c.in-Def.body)))) own in
    subst (λ (d : Decl). Meets r (bodies_findings names h (definitions_of (decl_view d ∷ [])))) (sym c.in-Def.is) alone

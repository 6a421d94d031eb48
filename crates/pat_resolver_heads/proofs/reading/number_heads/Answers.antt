use Rattle.std.proofs.Common.{map, ap, ◌∙◌}
use Rattle.pat_tree.specs.Views.{decl_view}
use Rattle.pat_resolver_heads.specs.Names.{names_view}
use Rattle.pat_resolver_heads.specs.declared.heads.Signature.{Signature}
use Rattle.pat_resolver_heads.proofs.Tied.{names_tied, tags_tied}
use Rattle.pat_resolver_heads.proofs.reading.number_heads.Goals as goal

pub invariant_of-result-clause-named : goal.invariant_of-result-clause-named
invariant_of-result-clause-named c =
    let n = c.args.names in
    names_tied n.interfaces c.in_ok-interfaces.interfaces (names_view n) (map decl_view c.args.decls.now) c.requires.named c.in_ok-interfaces.ensures.numbers

pub invariant_of-result-clause-tagged : goal.invariant_of-result-clause-tagged
invariant_of-result-clause-tagged c =
    let n = c.args.names in
    tags_tied n.interfaces c.in_ok-interfaces.interfaces (names_view n) (map decl_view c.args.decls.now) c.requires.named c.in_ok-interfaces.ensures.numbers

pub invariant_of-result-clause-called : goal.invariant_of-result-clause-called
invariant_of-result-clause-called c = c.in_ok-functions.ensures ∙ ap (map (λ (s : Signature). s.name.now)) c.as_slice.ensures

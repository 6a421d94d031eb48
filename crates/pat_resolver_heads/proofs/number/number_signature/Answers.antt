use Rattle.std.proofs.Common.{refl, List, ap, ◌∙◌, map}
use Rattle.pat_resolver_spec.specs.Heads.{sort_of}
use Rattle.pat_tree.specs.Views.{param_view}
use Rattle.pat_tree.specs.declared.tree.Param.{Param}
use Rattle.pat_resolver_heads.specs.Names.{names_view}
use Rattle.pat_resolver_heads.proofs.Tied.{signature_made}
use Rattle.pat_resolver_heads.proofs.number.number_signature.Goals as goal

pub returns-in_ok-push-in-Def-clause-numbers : goal.returns-in_ok-push-in-Def-clause-numbers
returns-in_ok-push-in-Def-clause-numbers c =
    let d = c.in-Def in
    signature_made c.args.signatures.now _ c.push.new.self (names_view c.args.names.now) c.args.decl.now d.name d.params d.result d.body d.is c.in_ok-push-in-Def.ensures.ok refl
    (c.in_ok-params-in-Def.ensures.numbers ∙ ap (λ (ps : List Param). map (λ p. sort_of (names_view c.args.names.now) p.type) (map param_view ps)) c.as_slice.ensures) c.in_ok-result-in-Def.ensures.number

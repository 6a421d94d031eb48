use Rattle.std.proofs.Common.{List, ℕ, ◌∙◌, ap}
use Rattle.std.specs.Option.{option_flatten}
use Rattle.pat_resolver_heads.specs.tables.Innermost.{innermost, known_top}
use Rattle.pat_resolver_heads.specs.declared.tables.scope.Variable.{Variable}
use Rattle.pat_resolver_heads.proofs.tables.scope.ScopeTable.place_of.Goals as goal

pub returns : goal.returns
returns c =
    c.flatten.ensures ∙ ap option_flatten (c.copied.ensures ∙ c.get.ensures.value) ∙ ap (λ (n : List ℕ). known_top n c.self.inside.places.entries) c.as_bytes.ensures
    ∙ c.self.invariant.0 c.args.name.now ∙ ap (λ (vs : List Variable). innermost c.args.name.now vs) c.self.view_is

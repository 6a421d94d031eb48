use Rattle.std.proofs.Common.{◌≡◌, ◌+◌, ◌<◌, ℕ, suc, List, ap, sym, ◌∙◌, arith, map, drop, length}
use Rattle.pat_resolver_spec.specs.Scopes.{bind_names}
use Rattle.pat_core.specs.declared.program.Kind.TheVariants as kind
use Rattle.pat_resolver_heads.specs.tables.Views.{scope_view}
use Rattle.pat_resolver_heads.specs.declared.tables.scope.Variable.{Variable}
use Rattle.pat_tree.specs.Views.{name_view}
use Rattle.pat_resolver.specs.numbering.Progress.{kinds_of}
use Rattle.pat_resolver.proofs.Guarding.{bind_step, numbers_step}
use Rattle.pat_resolver.proofs.numbering.state.Numbering.bind_names.Goals as goal

pub loop-name-preserved : goal.loop-name-preserved
loop-name-preserved c =
    let items = c.as_slice-name-items.result.now in
    let i = c.loop-name.name-index in
    let v = c.loop-name.self.next in
    let kinds = c.args.context.now.kinds.now in
    let within : i < length items = omega arith in
    let there : v < length kinds = omega (arith, c.loop-name.invariant.next, c.requires.kinds, ap length c.as_slice-name-items.ensures) in
    let deeper = ap length c.in_ok-push.ensures.pushed in
    let one : i + 1 ≡ suc i = omega arith in
    record {
      next = omega (arith, c.loop-name.invariant.next);
      numbers = numbers_step c.loop-name.numbers _ items i v c.name-item.result within c.name-item.is c.in_ok-push-2.ensures.ok ∙ c.loop-name.invariant.numbers;
      nodes = c.loop-name.invariant.nodes;
      scope =
          ap (λ (q : List Variable). bind_names (v + 1) (map name_view (drop (i + 1) items)) (drop (v + 1) (kinds_of c.args.context.now)) (scope_view q)) c.in_ok-push.ensures.pushed
          ∙ sym (bind_step kinds items i v c.name-item.result kind.Unit (scope_view c.loop-name.self.scope) within c.name-item.is there)
          ∙ c.loop-name.invariant.scope;
      outer = omega (arith, c.loop-name.invariant.outer, deeper);
      kept = ap (λ (q : ℕ). drop q c.push.new.self) one ∙ ap (drop (suc i)) c.in_ok-push.ensures.pushed ∙ c.loop-name.invariant.kept;
    }

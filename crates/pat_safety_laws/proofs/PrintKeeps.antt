-- A print step keeps a configuration typed.
use Rattle.std.proofs.Common.{◌≡◌, ℕ, [], ◌∷◌, ◌++◌, Some, None, refl, sym, subst}
use Rattle.pat_semantics_spec.specs.Values.{Const, UnitConst}
use Rattle.pat_semantics_spec.specs.Programs.{Program, Print}
use Rattle.pat_semantics_spec.specs.WellFormed.{WellFormed}
use Rattle.pat_semantics_spec.specs.Configs.{Returned, Config, with_thread}
use Rattle.pat_semantics_spec.specs.Steps.{ActPrint, step, redex, returned_unit}
use Rattle.pat_type_system_spec.specs.Types.{PassesTo}
use Rattle.pat_type_system_spec.specs.Typings.{Typing}
use Rattle.pat_type_system_spec.specs.Holdings.{control_held}
use Rattle.pat_type_system_spec.specs.Typed.{IsTyped, ThreadFits}
use Rattle.pat_semantics_laws.proofs.Threads.{lookup_all}
use Rattle.pat_semantics_laws.proofs.Inversion.{step_of, print_step}
use Rattle.pat_type_system_laws.proofs.Nodes.{node_facts}
use Rattle.pat_safety_laws.proofs.Envs.{held_all}
use Rattle.pat_safety_laws.proofs.Replace.{printed_keeps, unit_fits}
use Rattle.pat_safety_laws.proofs.Moves.{move_keeps}

-- the law for print
pub print_keeps : (p : Program) (y : Typing) (interfaces : ℕ → ℕ) (c d : Config) (t : ℕ) → WellFormed p → IsTyped p y interfaces c → step p c (record { thread = t; act = ActPrint }) ≡ Some d → IsTyped p y interfaces d
print_keeps p y interfaces c d t wf typed h =
    let o = step_of p c (record { thread = t; act = ActPrint }) d h in
    let s = o.thread in
    let q = print_step p c t s d (redex p s.control) refl o.gives in
    let n = q.at.node in
    let facts = node_facts p y n (Print q.expr) wf typed.typing q.at.term in
    let fits = lookup_all (λ s. ThreadFits p y interfaces s) c.threads t s typed.threads o.there in
    let moved =
    move_keeps p y interfaces c t s (Returned (Const UnitConst)) typed o.there
    (record {
      fits = (unit_fits p y interfaces s n q.env fits q.at.control_is facts.kinds.0).control;
      passes = λ b. subst (λ k. PassesTo (control_held p y b k s.frames) None) (sym q.at.control_is) (held_all (y.envs n) b (λ h. PassesTo h None) tt facts.term q.env);
      refers = λ a r. cc;
    }) in
    subst (IsTyped p y interfaces) (sym q.result) (printed_keeps p y interfaces (with_thread c t (returned_unit s.frames)) (c.printed ++ q.line ∷ []) moved)

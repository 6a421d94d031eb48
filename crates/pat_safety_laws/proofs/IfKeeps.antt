-- A choice keeps a configuration typed; and a thread that goes on with a part of its node.
use Rattle.std.proofs.Common.{◌≡◌, ℕ, Bool, true, false, ◌||◌, nat_eq, if◌then◌else◌, [], ◌∷◌, Some, refl, ◌∙◌}
use Rattle.std.proofs.lemmas.Bool.{or_left, or_right, eq-eqb}
use Rattle.pat_semantics_spec.specs.Values.{Env, Expr, occurs}
use Rattle.pat_semantics_spec.specs.Programs.{Program, If, is_among, is_free}
use Rattle.pat_semantics_spec.specs.WellFormed.{WellFormed}
use Rattle.pat_semantics_spec.specs.Configs.{Thread, Config, thread_at, with_thread}
use Rattle.pat_semantics_spec.specs.Steps.{thread_of, at_node}
use Rattle.pat_semantics_laws.proofs.FreeVars.{free_unfolds}
use Rattle.pat_type_system_spec.specs.Typings.{Typing}
use Rattle.pat_type_system_spec.specs.Typed.{IsTyped, ThreadFits}
use Rattle.pat_semantics_laws.proofs.Threads.{lookup_all}
use Rattle.pat_semantics_laws.proofs.Inversion.{StandsAt}
use Rattle.pat_type_system_laws.proofs.Nodes.{node_facts}
use Rattle.pat_safety_laws.proofs.Moves.{move_keeps, part_move}

-- the law for a choice
pub if_keeps : (p : Program) (y : Typing) (interfaces : ℕ → ℕ) (c : Config) (t : ℕ) (s : Thread) (e : Expr) (m k : ℕ) (env : Env) (b : Bool) → WellFormed p → IsTyped p y interfaces c → thread_at c t ≡ Some s → StandsAt p s.control (If e m k) env → IsTyped p y interfaces (with_thread c t (thread_of (at_node p (if b then m else k) env) s.frames))
if_keeps p y interfaces c t s e m k env b wf typed there at =
    let n = at.node in
    let facts = node_facts p y n (If e m k) wf typed.typing at.term in
    let fits = lookup_all (λ s. ThreadFits p y interfaces s) c.threads t s typed.threads there in
    elim b as (λ b. IsTyped p y interfaces (with_thread c t (thread_of (at_node p (if b then m else k) env) s.frames))) [
      | true ↦ move_keeps p y interfaces c t s (at_node p m env) typed there
          (part_move p y interfaces s n m (If e m k) env wf typed.typing fits at.control_is at.term (or_left (nat_eq m m) (is_among m (k ∷ [])) (eq-eqb m m refl))
          (λ z h. free_unfolds p z n (If e m k) wf at.term ∙ or_right (occurs z e) (is_free p z m || is_free p z k) (or_left (is_free p z m) (is_free p z k) h))
          facts.term.2 facts.term.0)
      | false ↦ move_keeps p y interfaces c t s (at_node p k env) typed there
          (part_move p y interfaces s n k (If e m k) env wf typed.typing fits at.control_is at.term (or_right (nat_eq k m) (is_among k (k ∷ [])) (or_left (nat_eq k k) false (eq-eqb k k refl)))
          (λ z h. free_unfolds p z n (If e m k) wf at.term ∙ or_right (occurs z e) (is_free p z m || is_free p z k) (or_right (is_free p z m) (is_free p z k) h))
          facts.term.3 facts.term.1)
    ]

-- A guard put together.
use Rattle.std.proofs.Common.{◌≡◌, ℕ, ◌+◌, List, [], ◌∷◌, ◌++◌, length, map, Option, Some, None, refl, sym, ap, ◌∙◌, subst, arith}
use Rattle.std.proofs.lemmas.List.{append-nil, append_assoc, map-append, length-map}
use Rattle.pat_semantics_spec.specs.Programs.{Receiving}
use Rattle.pat_type_system_spec.specs.Types.{Returnable, mailbox_type}
use Rattle.pat_infer_spec.specs.Constraints.{Finding}
use Rattle.pat_infer_spec.specs.Needs.{put}
use Rattle.pat_infer_spec.specs.Binders.{binder_constraints}
use Rattle.pat_infer_spec.specs.Branches.{Arm}
use Rattle.pat_infer_spec.specs.Walk.{arms_gathered, guard_binders}
use Rattle.pat_core.specs.declared.program.Program.{Program as CodeProgram}
use Rattle.pat_core.specs.Views.{program_view}
use Rattle.pat_patterns.specs.Views.{pattern_view}
use Rattle.pat_types.specs.Views.{needs_view, node_type_view}
use Rattle.pat_types.specs.declared.types.MailboxType.{MailboxType}
use Rattle.pat_infer_problems.specs.Views.{placed_variable, placed_variable_of, placed_constraint, constraint_view}
use Rattle.pat_infer_problems.specs.Results.{first_of}
use Rattle.pat_infer_problems.specs.Growing.{Grows}
use Rattle.pat_infer_problems.specs.declared.problem.Problem.{Problem}
use Rattle.pat_infer_terms.specs.Gathering.{IsGathered}
use Rattle.pat_infer_problems.specs.Walked.{IsWalked}
use Rattle.pat_infer_terms.specs.branches.Guards.{own_guard}
use Rattle.pat_infer_terms.specs.declared.branches.guards.Guarded.{Guarded}

module _ (p : CodeProgram) (g : Guarded) (old mid new : Problem) (arms : List Arm) where
  -- a guard whose names are constrained, and whose branches are gathered
  pub guard_joined : (found final : List (ℕ × MailboxType)) → Grows old mid [] (map (placed_constraint p) (binder_constraints g.function (guard_binders (program_view p) g.interface (pattern_view g.pattern.now) arms))) [] → IsGathered p mid new found (arms_gathered g.node (1 + length mid.vars) arms) → needs_view final ≡ put g.variable (mailbox_type g.interface Receiving (pattern_view g.pattern.now) Returnable) (needs_view found) → first_of (own_guard (program_view p) g (1 + length old.vars) arms).findings ≡ None → IsWalked p old new final (own_guard (program_view p) g (1 + length old.vars) arms)
  guard_joined found final m h e clean =
      let same : map placed_variable_of mid.vars ≡ map placed_variable_of old.vars = m.vars ∙ append-nil (map placed_variable_of old.vars) in
      let count : length mid.vars ≡ length old.vars =
      sym (length-map mid.vars placed_variable_of) ∙ ap length same ∙ length-map old.vars placed_variable_of in
      let q : IsGathered p mid new found (arms_gathered g.node (1 + length old.vars) arms) =
      subst (λ n. IsGathered p mid new found (arms_gathered g.node (1 + n) arms)) count h in
      record {
        needed = e ∙ ap (put g.variable (mailbox_type g.interface Receiving (pattern_view g.pattern.now) Returnable)) q.needs;
        grows = record {
          vars = q.grows.vars ∙ ap (λ v. v ++ map (placed_variable p) (arms_gathered g.node (1 + length old.vars) arms).vars) same;
          constraints =
              q.grows.constraints
              ∙ ap (λ v. v ++ map (placed_constraint p) (arms_gathered g.node (1 + length old.vars) arms).constraints) m.constraints
              ∙ append_assoc (map constraint_view old.constraints) (map (placed_constraint p) (binder_constraints g.function (guard_binders (program_view p) g.interface (pattern_view g.pattern.now) arms))) (map (placed_constraint p) (arms_gathered g.node (1 + length old.vars) arms).constraints)
              ∙ ap (λ v. map constraint_view old.constraints ++ v) (sym (map-append (placed_constraint p) (binder_constraints g.function (guard_binders (program_view p) g.interface (pattern_view g.pattern.now) arms)) (arms_gathered g.node (1 + length old.vars) arms).constraints));
          nodes = q.grows.nodes ∙ m.nodes;
        };
        clean = clean;
      }

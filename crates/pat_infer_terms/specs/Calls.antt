-- A call of a function whose signature is at hand.
use Rattle.std.specs.Prelude.{ℕ, not, List, [], ◌++◌}
use Rattle.pat_words_spec.specs.Patterns.{Pat}
use Rattle.pat_semantics_spec.specs.Values.{Expr}
use Rattle.pat_semantics_spec.specs.Programs.{Polarity, Sending, Receiving}
use Rattle.pat_type_system_spec.specs.Types.{TypeOf}
use Rattle.pat_type_system_spec.specs.Typings.{mailbox_args}
use Rattle.pat_infer_spec.specs.Constraints.{AtNode, AliasRule, PolarityRule, unless, Constraint, constraint, Found}
use Rattle.pat_infer_spec.specs.Needs.{args_needs}
use Rattle.pat_infer_spec.specs.Walk.{has_twice, result_agrees, result_constraints}
use Rattle.pat_infer_problems.specs.signatures.Opened.{Signature}
use Rattle.pat_infer_environments.specs.Types.{types_at}

abbrev pub signed_call : ℕ → TypeOf → Signature → List Expr → Found
signed_call n asked s args = record {
  needs = args_needs (types_at s.params) 0 args;
  vars = [];
  constraints = result_constraints n s.result asked;
  nodes = [];
  findings =
      unless (not (has_twice (mailbox_args (types_at s.params) 0 args))) AliasRule (AtNode n)
      ++ unless (result_agrees s.result asked) PolarityRule (AtNode n);
}

-- a result's pattern and the one that it is asked for, which has more words where it is received from
abbrev pub directed : ℕ → ℕ → Polarity → Pat → Pat → Constraint
directed n i Receiving e f = constraint i e f (AtNode n)
directed n i Sending e f = constraint i f e (AtNode n)

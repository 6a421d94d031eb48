use Rattle.std.proofs.Common.{rules, ◌∙◌, sym}
use Rattle.pat_derivation_text_laws.proofs.Running.{step_shrinks, run_step}
use Rattle.pat_derivation_lines.specs.patterns.Views.{names_of, stage_view}
use Rattle.pat_derivation_lines.proofs.patterns.reading.read_pattern.Goals as goal

pub loop-rest-smaller : goal.loop-rest-smaller
loop-rest-smaller c =
    step_shrinks (names_of c.args.tags.now) (stage_view c.loop-rest.stage) c.loop-rest.rest.now (stage_view c.step.new.stage, c.in_ok-rest.rest.now) (search rules)

pub loop-rest-preserved : goal.loop-rest-preserved
loop-rest-preserved c =
    sym (run_step (names_of c.args.tags.now) (stage_view c.loop-rest.stage) c.loop-rest.rest.now (stage_view c.step.new.stage, c.in_ok-rest.rest.now) (search rules)) ∙ c.loop-rest.invariant

use Rattle.pat_inclusion_spec.specs.Counts.{most_tags}
use Rattle.pat_linear.specs.Views.{sets_view}
use Rattle.pat_cover_certificates.proofs.FirstCovers.{result_checks, result_exact}
use Rattle.pat_cover_certificates.proofs.finding.find_cover.Goals as goal

pub returns-clause-exact : goal.returns-clause-exact
returns-clause-exact c = result_exact most_tags (sets_view c.args.left.now) (sets_view c.args.right.now) c.entries_for.result c.sets_are_few.ensures c.sets_are_few-2.ensures c.entries_for.ensures

pub returns-clause-checks : goal.returns-clause-checks
returns-clause-checks c = result_checks most_tags (sets_view c.args.left.now) (sets_view c.args.right.now) c.entries_for.result c.entries_for.ensures

use Rattle.std.proofs.Common.{option_copied, sym, ap, ◌∙◌}
use Rattle.pat_patterns.specs.Views.{pattern_view}
use Rattle.pat_types.specs.Views.{result_view}
use Rattle.pat_checkpoint_spec.specs.Kinds.{types_agree}
use Rattle.pat_checkpoint_parts.specs.Tables.{type_or_unit}
use Rattle.pat_checkpoint_parts.proofs.fitting.agrees.Goals as goal

pub returns-in-Mailbox : goal.returns-in-Mailbox
returns-in-Mailbox c =
    c.is_of.ensures (pattern_view c.in-Mailbox.pattern)
    ∙ ap (λ t. types_agree (result_view t) (type_or_unit (option_copied c.args.wanted))) (sym c.in-Mailbox.is)

use Rattle.std.proofs.Common.{get_or, ap, ◌∙◌}
use Rattle.pat_core.specs.declared.program.Interface.{Interface}
use Rattle.pat_typecheck.proofs.Worded.{name_at}
use Rattle.pat_typecheck.proofs.words.interface_at.Goals as goal

pub returns-clause-name : goal.returns-clause-name
returns-clause-name c =
    ap (λ (i : Interface). i.name) c.index-as_slice-number.is
    ∙ ap (λ is. (get_or is c.args.number c.index-as_slice-number.result).name) c.as_slice.ensures
    ∙ name_at c.args.program.now c.args.number c.index-as_slice-number.result c.requires.there

use Rattle.std.proofs.Common.{rules, arith, ◌≡◌, ◌++◌, subst}
use Rattle.std.specs.Prelude.{OnOk}
use Rattle.std.proofs.lemmas.Bool.Decides.{nat_tests}
use Rattle.pat_derivations.specs.Views.{value_view}
use Rattle.pat_deriv.proofs.Names.{var_beyond}
use Rattle.pat_deriv.proofs.types.put_var.Goals as goal

pub returns-else-place-interfaces : goal.returns-else-place-interfaces
returns-else-place-interfaces c =
    subst (λ t. OnOk c.put_var_of-else-place-interfaces.result (c.put_var_of-else-place-interfaces.new.out.items ≡ c.args.out.now.items ++ t))
    (var_beyond c.args.program.now.interfaces c.args.number c.no_interface.result (value_view c.args.value.now) (grind (arith, nat_tests)) c.no_interface.ensures.name c.no_interface.ensures.tags)
    c.put_var_of-else-place-interfaces.ensures

use Rattle.std.proofs.Common.{refl, sym, subst}
use Rattle.std.specs.Prelude.{None, option_map, IfOk}
use Rattle.pat_checkpoint_spec.specs.Written.{IsFormedNeed}
use Rattle.pat_checkpoint_certificates.specs.Needs.{need_view}
use Rattle.pat_checkpoint_certificates.specs.Searches.{scope_in, bounds_in}
use Rattle.pat_checkpoint_certificates.specs.Found.{IsFound, IsShownBy}
use Rattle.pat_checkpoint_certificates.proofs.showing.show_need.Goals as goal

pub show_inclusion-requires-clause-formed : goal.show_inclusion-requires-clause-formed
show_inclusion-requires-clause-formed c =
    subst (λ o. IsFormedNeed (scope_in c.args.search.now) (option_map need_view o)) c.in-Some.is c.requires.formed

pub returns-in-None : goal.returns-in-None
returns-in-None c =
    subst (λ o. IsShownBy (scope_in c.args.search.now) (bounds_in c.args.search.now) (option_map need_view o) None) (sym c.in-None.is)
    (record { certified = refl; showable = tt })

pub returns-in-Some : goal.returns-in-Some
returns-in-Some c =
    subst (λ o. IfOk c.show_inclusion.result (IsFound (scope_in c.args.search.now) (bounds_in c.args.search.now) (option_map need_view o))) (sym c.in-Some.is)
    c.show_inclusion.ensures

use Rattle.std.proofs.Common.{◌≡◌, sym, ap, ◌∙◌, subst}
use Rattle.std.specs.Prelude.{option_map, option_copied, IfOk}
use Rattle.pat_type_system_spec.specs.Holdings.{wanted}
use Rattle.pat_types.specs.Views.{result_view}
use Rattle.pat_checkpoint_spec.specs.Kinds.{type_needs}
use Rattle.pat_checkpoint_spec.specs.Written.{IsFormedNeed}
use Rattle.pat_checkpoint_certificates.specs.Needs.{need_view}
use Rattle.pat_checkpoint_certificates.specs.Searches.{program_in, scope_in, typing_in, bounds_in}
use Rattle.pat_checkpoint_certificates.specs.Found.{or_unit, IsFound}
use Rattle.pat_checkpoint_certificates.specs.Parts.{frames_of}
use Rattle.pat_checkpoint_certificates.proofs.parts.show_part.Goals as goal

pub show_need-requires-clause-formed : goal.show_need-requires-clause-formed
show_need-requires-clause-formed c =
    let s = c.args.search.now in
    let asked = wanted (program_in s) (typing_in s) (frames_of c.args.below.now) in
    let same : option_map need_view c.needed-need.result ≡ type_needs ((typing_in s).results c.args.node) asked =
    c.needed-need.ensures
    ∙ ap (λ t. type_needs t (or_unit (option_map result_view (option_copied c.wanted-asked.result)))) c.result_at-given.ensures
    ∙ ap (λ t. type_needs ((typing_in s).results c.args.node) t) c.wanted-asked.ensures in
    subst (IsFormedNeed (scope_in s)) (sym same) c.requires.formed

pub returns : goal.returns
returns c =
    let s = c.args.search.now in
    let asked = wanted (program_in s) (typing_in s) (frames_of c.args.below.now) in
    let same : option_map need_view c.needed-need.result ≡ type_needs ((typing_in s).results c.args.node) asked =
    c.needed-need.ensures
    ∙ ap (λ t. type_needs t (or_unit (option_map result_view (option_copied c.wanted-asked.result)))) c.result_at-given.ensures
    ∙ ap (λ t. type_needs ((typing_in s).results c.args.node) t) c.wanted-asked.ensures in
    subst (λ q. IfOk c.show_need.result (IsFound (scope_in s) (bounds_in s) q)) same c.show_need.ensures

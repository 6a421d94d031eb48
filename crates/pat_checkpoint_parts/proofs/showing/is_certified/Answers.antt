use Rattle.std.proofs.Common.{sym, subst, map, reverse}
use Rattle.std.specs.Prelude.{IsTrue}
use Rattle.pat_derivation_spec.specs.Rules.{type_is_formed}
use Rattle.pat_derivations.specs.Views.{derivation_view}
use Rattle.pat_reduce.specs.threads.ThreadViews.{frame_view}
use Rattle.pat_checkpoint_parts.specs.Typed.{program_in, scope_in}
use Rattle.pat_checkpoint_parts.proofs.showing.is_certified.Goals as goal

pub type_fits-requires-clause-given : goal.type_fits-requires-clause-given
type_fits-requires-clause-given c =
    let t = c.args.typing.now in
    let both = c.examining_laws.ensures.types (program_in t) (derivation_view t.derivation.now) c.requires.well c.requires.valid in
    subst (λ k. IsTrue (type_is_formed (scope_in t) k)) (sym c.in-Some-Some.ensures) (both.0 c.args.node)

pub type_fits-requires-clause-wanted : goal.type_fits-requires-clause-wanted
type_fits-requires-clause-wanted c =
    let t = c.args.typing.now in
    let both = c.examining_laws.ensures.types (program_in t) (derivation_view t.derivation.now) c.requires.well c.requires.valid in
    subst (λ k. IsTrue (type_is_formed (scope_in t) k)) (sym c.in-Some-Some.ensures') (both.1 (map frame_view (reverse c.args.below.now)))

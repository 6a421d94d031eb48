use Rattle.std.proofs.Common.{◌≡◌, Some, get_or, sym, ap, ◌∙◌, subst}
use Rattle.std.proofs.lemmas.Option.{slice_get-get_or}
use Rattle.std.proofs.lemmas.Result.{err_from_is_err_and}
use Rattle.pat_derivations.specs.Views.{derivation_view}
use Rattle.pat_checkpoint_data.specs.Views.{checkpoint_view}
use Rattle.pat_checkpoint_spec.specs.Checkpoints.{interfaces_of}
use Rattle.pat_checkpoint_spec.specs.Balances.{balance_needs}
use Rattle.pat_checkpoint_certificates.specs.Searches.{program_in, scope_in, typing_in, bounds_in}
use Rattle.pat_checkpoint_certificates.specs.Found.{IsFound}
use Rattle.pat_checkpoint_certificates.specs.Balances.{balances_need}
use Rattle.pat_checkpoint_certificates.proofs.Errors.{spent}
use Rattle.pat_checkpoint_certificates.proofs.Gathering.{coming_below, receivers_below, balance_formed, balance_unshown, same_number}
use Rattle.pat_checkpoint_certificates.proofs.balances.certify_balance.Goals as goal

pub show_balance-requires-clause-at : goal.show_balance-requires-clause-at
show_balance-requires-clause-at c =
    let live = c.args.bare.now.config.live in
    slice_get-get_or live c.args.place 0 c.requires.place ∙ ap (λ l. Some (get_or l c.args.place 0)) (sym c.as_slice-live.ensures)

pub show_balance-requires-clause-coming : goal.show_balance-requires-clause-coming
show_balance-requires-clause-coming c =
    let live = c.args.bare.now.config.live in
    coming_below (program_in c.args.search.now) (derivation_view c.args.search.now.derivation.now) (checkpoint_view c.args.bare.now) c.args.sides.now c.args.place (get_or live c.args.place 0) c.requires.sides (slice_get-get_or live c.args.place 0 c.requires.place)

pub show_balance-requires-clause-receivers : goal.show_balance-requires-clause-receivers
show_balance-requires-clause-receivers c =
    let live = c.args.bare.now.config.live in
    receivers_below (program_in c.args.search.now) (derivation_view c.args.search.now.derivation.now) (checkpoint_view c.args.bare.now) c.args.sides.now c.args.place (get_or live c.args.place 0) c.requires.sides (slice_get-get_or live c.args.place 0 c.requires.place)

pub show_balance-requires-clause-formed : goal.show_balance-requires-clause-formed
show_balance-requires-clause-formed c =
    let live = c.args.bare.now.config.live in
    balance_formed (program_in c.args.search.now) (derivation_view c.args.search.now.derivation.now) (checkpoint_view c.args.bare.now) (scope_in c.args.search.now) live c.args.place (get_or c.as_slice-live.result.now c.args.place 0)
    (slice_get-get_or live c.args.place 0 c.requires.place ∙ ap (λ l. Some (get_or l c.args.place 0)) (sym c.as_slice-live.ensures)) c.requires.formed

pub returns-in_err-show_balance-clause-unshown : goal.returns-in_err-show_balance-clause-unshown
returns-in_err-show_balance-clause-unshown c =
    let s = c.args.search.now in
    let x = c.args.bare.now in
    let q = err_from_is_err_and c.from_residual.result c.from_residual.ensures.1 in
    spent (scope_in s) (bounds_in s) c.args.first (balances_need (program_in s) (derivation_view s.derivation.now) (checkpoint_view x) x.config.live) c.from_residual.result q.0 q.1 q.2

pub returns-in-None-clause-unshown : goal.returns-in-None-clause-unshown
returns-in-None-clause-unshown c =
    let s = c.args.search.now in
    let x = c.args.bare.now in
    let p = program_in s in
    let a = get_or c.as_slice-live.result.now c.args.place 0 in
    let at = slice_get-get_or x.config.live c.args.place 0 c.requires.place ∙ ap (λ l. Some (get_or l c.args.place 0)) (sym c.as_slice-live.ensures) in
    balance_unshown p (derivation_view s.derivation.now) (checkpoint_view x) (scope_in s) (bounds_in s) x.config.live c.args.place a c.args.first c.unshown.result at c.requires.before
    (subst (IsFound (scope_in s) (bounds_in s) (Some (balance_needs p (typing_in s) (interfaces_of (checkpoint_view x)) (checkpoint_view x).config a))) c.in-None.is c.in_ok-show_balance.ensures)
    c.unshown.ensures

pub returns-in-Some-clause-found : goal.returns-in-Some-clause-found
returns-in-Some-clause-found c = λ b at.
    let s = c.args.search.now in
    let x = c.args.bare.now in
    let a = get_or c.as_slice-live.result.now c.args.place 0 in
    let same : a ≡ b = same_number x.config.live c.args.place a b (slice_get-get_or x.config.live c.args.place 0 c.requires.place ∙ ap (λ l. Some (get_or l c.args.place 0)) (sym c.as_slice-live.ensures)) at in
    let needs = balance_needs (program_in s) (typing_in s) (interfaces_of (checkpoint_view x)) (checkpoint_view x).config in
    subst (λ n. IsFound (scope_in s) (bounds_in s) (Some (needs n)) (Some c.in-Some.cert)) same
    (subst (IsFound (scope_in s) (bounds_in s) (Some (needs a))) c.in-Some.is c.in_ok-show_balance.ensures)

use Rattle.std.proofs.Common.{◌≡◌, Some, sym, ap, ◌∙◌, subst}
use Rattle.std.specs.Prelude.{IsTrue, IfOk}
use Rattle.pat_patterns.specs.Views.{pattern_view, patterns_view}
use Rattle.pat_derivations.specs.Views.{derivation_view}
use Rattle.pat_checkpoint_data.specs.Views.{checkpoint_view}
use Rattle.pat_checkpoint_spec.specs.Checkpoints.{interface_at, interfaces_of}
use Rattle.pat_checkpoint_spec.specs.Numbers.{ascends}
use Rattle.pat_checkpoint_spec.specs.Balances.{product_of, first_or_zero, balance_left, balance_right}
use Rattle.pat_checkpoint_certificates.specs.Searches.{program_in, scope_in, typing_in, bounds_in}
use Rattle.pat_checkpoint_certificates.specs.Found.{IsFound}
use Rattle.pat_checkpoint_certificates.proofs.Gathering.{read_in, left_at, right_at, needed_is, needed_formed}
use Rattle.pat_checkpoint_certificates.proofs.balances.show_balance.Goals as goal

pub interface_of-interface-requires : goal.interface_of-interface-requires
interface_of-interface-requires c = subst (λ l. IsTrue (ascends 0 l)) (sym c.as_slice-live.ensures) c.requires.live

pub show_one-requires-clause-left : goal.show_one-requires-clause-left
show_one-requires-clause-left c =
    let p = program_in c.args.search.now in
    let d = derivation_view c.args.search.now.derivation.now in
    let x = checkpoint_view c.args.bare.now in
    let k = c.args.place in
    let a = c.args.mailbox in
    let s = c.args.sides.now in
    let own : c.interface_of-interface.result ≡ interfaces_of x a = c.interface_of-interface.ensures ∙ ap (λ l. interface_at l c.as_slice-interfaces.result.now a) c.as_slice-live.ensures ∙ ap (λ l. interface_at c.args.bare.now.config.live l a) c.as_slice-interfaces.ensures in
    let left : pattern_view c.in_ok-left.left ≡ balance_left p (typing_in c.args.search.now) (interfaces_of x) x.config a =
    c.in_ok-left.ensures ∙ ap (λ l. product_of (patterns_view l)) c.as_slice.ensures
    ∙ left_at p d x s k a c.index-coming-place.result c.requires.sides c.requires.at (read_in c.as_slice-coming.result.now s.coming k c.index-coming-place.result c.as_slice-coming.ensures c.requires.coming c.index-coming-place.is) in
    let right : pattern_view c.in_ok-right.right ≡ balance_right p (typing_in c.args.search.now) (interfaces_of x) x.config a =
    c.in_ok-right.ensures ∙ ap (λ l. first_or_zero (patterns_view l)) c.as_slice-2.ensures
    ∙ right_at p d x s k a c.index-receivers-place.result c.requires.sides c.requires.at (read_in c.as_slice-receivers.result.now s.receivers k c.index-receivers-place.result c.as_slice-receivers.ensures c.requires.receivers c.index-receivers-place.is) in
    (needed_formed p d x (scope_in c.args.search.now) c.interface_of-interface.result a (pattern_view c.in_ok-left.left) (pattern_view c.in_ok-right.right) own left right c.requires.formed).0

-- Left and right have a goal each, whose `c` is of another type; what both cite stands in `Gathering`.
pub show_one-requires-clause-right : goal.show_one-requires-clause-right
show_one-requires-clause-right c =
    let p = program_in c.args.search.now in
    let d = derivation_view c.args.search.now.derivation.now in
    let x = checkpoint_view c.args.bare.now in
    let k = c.args.place in
    let a = c.args.mailbox in
    let s = c.args.sides.now in
    let own : c.interface_of-interface.result ≡ interfaces_of x a = c.interface_of-interface.ensures ∙ ap (λ l. interface_at l c.as_slice-interfaces.result.now a) c.as_slice-live.ensures ∙ ap (λ l. interface_at c.args.bare.now.config.live l a) c.as_slice-interfaces.ensures in
    let left : pattern_view c.in_ok-left.left ≡ balance_left p (typing_in c.args.search.now) (interfaces_of x) x.config a =
    c.in_ok-left.ensures ∙ ap (λ l. product_of (patterns_view l)) c.as_slice.ensures
    ∙ left_at p d x s k a c.index-coming-place.result c.requires.sides c.requires.at (read_in c.as_slice-coming.result.now s.coming k c.index-coming-place.result c.as_slice-coming.ensures c.requires.coming c.index-coming-place.is) in
    let right : pattern_view c.in_ok-right.right ≡ balance_right p (typing_in c.args.search.now) (interfaces_of x) x.config a =
    c.in_ok-right.ensures ∙ ap (λ l. first_or_zero (patterns_view l)) c.as_slice-2.ensures
    ∙ right_at p d x s k a c.index-receivers-place.result c.requires.sides c.requires.at (read_in c.as_slice-receivers.result.now s.receivers k c.index-receivers-place.result c.as_slice-receivers.ensures c.requires.receivers c.index-receivers-place.is) in
    (needed_formed p d x (scope_in c.args.search.now) c.interface_of-interface.result a (pattern_view c.in_ok-left.left) (pattern_view c.in_ok-right.right) own left right c.requires.formed).1

pub returns : goal.returns
returns c =
    let p = program_in c.args.search.now in
    let d = derivation_view c.args.search.now.derivation.now in
    let x = checkpoint_view c.args.bare.now in
    let k = c.args.place in
    let a = c.args.mailbox in
    let s = c.args.sides.now in
    let own : c.interface_of-interface.result ≡ interfaces_of x a = c.interface_of-interface.ensures ∙ ap (λ l. interface_at l c.as_slice-interfaces.result.now a) c.as_slice-live.ensures ∙ ap (λ l. interface_at c.args.bare.now.config.live l a) c.as_slice-interfaces.ensures in
    let left : pattern_view c.in_ok-left.left ≡ balance_left p (typing_in c.args.search.now) (interfaces_of x) x.config a =
    c.in_ok-left.ensures ∙ ap (λ l. product_of (patterns_view l)) c.as_slice.ensures
    ∙ left_at p d x s k a c.index-coming-place.result c.requires.sides c.requires.at (read_in c.as_slice-coming.result.now s.coming k c.index-coming-place.result c.as_slice-coming.ensures c.requires.coming c.index-coming-place.is) in
    let right : pattern_view c.in_ok-right.right ≡ balance_right p (typing_in c.args.search.now) (interfaces_of x) x.config a =
    c.in_ok-right.ensures ∙ ap (λ l. first_or_zero (patterns_view l)) c.as_slice-2.ensures
    ∙ right_at p d x s k a c.index-receivers-place.result c.requires.sides c.requires.at (read_in c.as_slice-receivers.result.now s.receivers k c.index-receivers-place.result c.as_slice-receivers.ensures c.requires.receivers c.index-receivers-place.is) in
    subst (λ q. IfOk c.show_one.result (IsFound (scope_in c.args.search.now) (bounds_in c.args.search.now) (Some q)))
    (needed_is p d x c.interface_of-interface.result a (pattern_view c.in_ok-left.left) (pattern_view c.in_ok-right.right) own left right) c.show_one.ensures

use Rattle.std.proofs.Common.{◌≡◌, ap, sym, ◌∙◌, ◌&&◌, suc, subst, arith}
use Rattle.std.specs.Prelude.{IsTrue, option_map, slice_index_or}
use Rattle.std.proofs.lemmas.Option.{slice_get-map}
use Rattle.pat_inclusion_spec.specs.Values.{is_formed}
use Rattle.pat_inclusion_spec.specs.Certificates.{shows}
use Rattle.pat_derivation_spec.specs.Derivations.{scope_of}
use Rattle.pat_patterns.specs.Views.{pattern_view, patterns_view}
use Rattle.pat_core.specs.Views.{program_view}
use Rattle.pat_derivations.specs.Views.{cert_view, derivation_view}
use Rattle.pat_reduce.specs.Views.{config_view}
use Rattle.pat_checkpoint_spec.specs.Balances.{product_of, first_or_zero}
use Rattle.pat_checkpoint_data.specs.Views.{end_view, checkpoint_view}
use Rattle.pat_checkpoint_balances.specs.Gathered.{shown_from}
use Rattle.pat_checkpoint_balances.proofs.Halves.{live_ascends}
use Rattle.pat_checkpoint_balances.proofs.Balancing.{values_there, at_place, item_at, number_at, rows_counted, receivers_counted}
use Rattle.pat_checkpoint_balances.proofs.Parting.{ok_so}
use Rattle.pat_checkpoint_balances.proofs.balances.is_balanced.Goals as goal

pub included-requires-clause-values : goal.included-requires-clause-values
included-requires-clause-values c =
    values_there (program_view c.args.program.now) (derivation_view c.args.derivation.now) c.validity_laws.ensures.holds c.requires.well c.requires.valid

pub included-requires-clause-left : goal.included-requires-clause-left
included-requires-clause-left c =
    let p = program_view c.args.program.now in
    let d = derivation_view c.args.derivation.now in
    let x = checkpoint_view c.args.checkpoint.now in
    let s = c.args.sides.now in
    let k = c.args.place in
    let q = c.requires in
    let both = rows_counted p d x s q.sides in
    let held = receivers_counted p d x s q.sides in
    let at = at_place p d x k (slice_index_or c.as_slice-interfaces.result.now k 0) s c.index-coming-place.result c.index-receivers-place.result (end_view c.index-certs-place.result) c.examining_laws.ensures.sides q.well q.valid q.kinds q.differ q.messages (live_ascends (config_view c.args.checkpoint.now.config) q.numbers) q.sides (item_at c.as_slice-coming.result.now s.coming k c.index-coming-place.result c.as_slice-coming.ensures q.side c.index-coming-place.is) (item_at c.as_slice-receivers.result.now s.receivers k c.index-receivers-place.result c.as_slice-receivers.ensures (let side = q.side in omega arith) c.index-receivers-place.is) (number_at c.as_slice-interfaces.result.now c.args.checkpoint.now.interfaces k c.as_slice-interfaces.ensures q.interface) (slice_get-map end_view c.args.checkpoint.now.mailbox_certs k ∙ ap (option_map end_view) (item_at c.as_slice-certs.result.now c.args.checkpoint.now.mailbox_certs k c.index-certs-place.result c.as_slice-certs.ensures q.cert c.index-certs-place.is)) in
    let left_is : pattern_view c.in_ok-left.left ≡ product_of (patterns_view c.index-coming-place.result) = c.in_ok-left.ensures ∙ ap (λ l. product_of (patterns_view l)) c.as_slice.ensures in
    let right_is : pattern_view c.in_ok-right.right ≡ first_or_zero (patterns_view c.index-receivers-place.result) = c.in_ok-right.ensures ∙ ap (λ l. first_or_zero (patterns_view l)) c.as_slice-2.ensures in
    let S = scope_of p d in
    let i = slice_index_or c.as_slice-interfaces.result.now k 0 in
    subst (λ e. IsTrue (is_formed S i e)) (sym left_is) at.left

-- Left and right have a goal each, whose `c` is of another type; what both cite stands in `Balancing`.
pub included-requires-clause-right : goal.included-requires-clause-right
included-requires-clause-right c =
    let p = program_view c.args.program.now in
    let d = derivation_view c.args.derivation.now in
    let x = checkpoint_view c.args.checkpoint.now in
    let s = c.args.sides.now in
    let k = c.args.place in
    let q = c.requires in
    let both = rows_counted p d x s q.sides in
    let held = receivers_counted p d x s q.sides in
    let at = at_place p d x k (slice_index_or c.as_slice-interfaces.result.now k 0) s c.index-coming-place.result c.index-receivers-place.result (end_view c.index-certs-place.result) c.examining_laws.ensures.sides q.well q.valid q.kinds q.differ q.messages (live_ascends (config_view c.args.checkpoint.now.config) q.numbers) q.sides (item_at c.as_slice-coming.result.now s.coming k c.index-coming-place.result c.as_slice-coming.ensures q.side c.index-coming-place.is) (item_at c.as_slice-receivers.result.now s.receivers k c.index-receivers-place.result c.as_slice-receivers.ensures (let side = q.side in omega arith) c.index-receivers-place.is) (number_at c.as_slice-interfaces.result.now c.args.checkpoint.now.interfaces k c.as_slice-interfaces.ensures q.interface) (slice_get-map end_view c.args.checkpoint.now.mailbox_certs k ∙ ap (option_map end_view) (item_at c.as_slice-certs.result.now c.args.checkpoint.now.mailbox_certs k c.index-certs-place.result c.as_slice-certs.ensures q.cert c.index-certs-place.is)) in
    let left_is : pattern_view c.in_ok-left.left ≡ product_of (patterns_view c.index-coming-place.result) = c.in_ok-left.ensures ∙ ap (λ l. product_of (patterns_view l)) c.as_slice.ensures in
    let right_is : pattern_view c.in_ok-right.right ≡ first_or_zero (patterns_view c.index-receivers-place.result) = c.in_ok-right.ensures ∙ ap (λ l. first_or_zero (patterns_view l)) c.as_slice-2.ensures in
    let S = scope_of p d in
    let i = slice_index_or c.as_slice-interfaces.result.now k 0 in
    subst (λ e. IsTrue (is_formed S i e)) (sym right_is) at.right

pub returns : goal.returns
returns c =
    let p = program_view c.args.program.now in
    let d = derivation_view c.args.derivation.now in
    let x = checkpoint_view c.args.checkpoint.now in
    let s = c.args.sides.now in
    let k = c.args.place in
    let q = c.requires in
    let both = rows_counted p d x s q.sides in
    let held = receivers_counted p d x s q.sides in
    let at = at_place p d x k (slice_index_or c.as_slice-interfaces.result.now k 0) s c.index-coming-place.result c.index-receivers-place.result (end_view c.index-certs-place.result) c.examining_laws.ensures.sides q.well q.valid q.kinds q.differ q.messages (live_ascends (config_view c.args.checkpoint.now.config) q.numbers) q.sides (item_at c.as_slice-coming.result.now s.coming k c.index-coming-place.result c.as_slice-coming.ensures q.side c.index-coming-place.is) (item_at c.as_slice-receivers.result.now s.receivers k c.index-receivers-place.result c.as_slice-receivers.ensures (let side = q.side in omega arith) c.index-receivers-place.is) (number_at c.as_slice-interfaces.result.now c.args.checkpoint.now.interfaces k c.as_slice-interfaces.ensures q.interface) (slice_get-map end_view c.args.checkpoint.now.mailbox_certs k ∙ ap (option_map end_view) (item_at c.as_slice-certs.result.now c.args.checkpoint.now.mailbox_certs k c.index-certs-place.result c.as_slice-certs.ensures q.cert c.index-certs-place.is)) in
    let left_is : pattern_view c.in_ok-left.left ≡ product_of (patterns_view c.index-coming-place.result) = c.in_ok-left.ensures ∙ ap (λ l. product_of (patterns_view l)) c.as_slice.ensures in
    let right_is : pattern_view c.in_ok-right.right ≡ first_or_zero (patterns_view c.index-receivers-place.result) = c.in_ok-right.ensures ∙ ap (λ l. first_or_zero (patterns_view l)) c.as_slice-2.ensures in
    let S = scope_of p d in
    let i = slice_index_or c.as_slice-interfaces.result.now k 0 in
    let shown = ap (λ e. shows S i e (pattern_view c.in_ok-right.right) (end_view c.index-certs-place.result)) left_is ∙ ap (λ e. shows S i (product_of (patterns_view c.index-coming-place.result)) e (end_view c.index-certs-place.result)) right_is in
    ok_so c.included.result (λ yes h. at.turns ∙ ap (λ b. b && shown_from p d x (suc k)) (sym (h ∙ ap (λ o. shows S i (pattern_view c.in_ok-left.left) (pattern_view c.in_ok-right.right) (option_map cert_view o)) c.as_ref-cert.ensures.value ∙ shown))) c.included.ensures

use Rattle.std.proofs.Common.{map, sym, subst}
use Rattle.std.proofs.lemmas.Result.{err_from_is_err_and}
use Rattle.pat_derivations.specs.Views.{derivation_view}
use Rattle.pat_reduce.specs.Views.{config_view}
use Rattle.pat_checkpoint_data.specs.Views.{end_view, part_certs_view, checkpoint_view}
use Rattle.pat_checkpoint_certificates.specs.Bounds.{bound_in}
use Rattle.pat_checkpoint_certificates.specs.Certified.{IsCertified, IsUnshown}
use Rattle.pat_checkpoint_certificates.specs.Searches.{program_in}
use Rattle.pat_checkpoint_certificates.proofs.Errors.{passed}
use Rattle.pat_checkpoint_certificates.proofs.Certs.{certs_are, lines_shown, is_certified, is_unshown, stands_bare, count_bare}
use Rattle.pat_checkpoint_certificates.proofs.certifying.certify_with.Goals as goal

pub certify_mailboxes-requires-clause-stands : goal.certify_mailboxes-requires-clause-stands
certify_mailboxes-requires-clause-stands c =
    stands_bare (program_in c.args.search.now) (derivation_view c.args.search.now.derivation.now) (config_view c.args.config) c.args.interfaces c.resumed_laws.ensures.written c.requires.search.well c.requires.typed.typed (checkpoint_view c.bare_checkpoint-bare.result) c.bare_checkpoint-bare.ensures

pub certify_parts-requires-clause-stands : goal.certify_parts-requires-clause-stands
certify_parts-requires-clause-stands c =
    stands_bare (program_in c.args.search.now) (derivation_view c.args.search.now.derivation.now) (config_view c.args.config) c.args.interfaces c.resumed_laws.ensures.written c.requires.search.well c.requires.typed.typed (checkpoint_view c.bare_checkpoint-bare.result) c.bare_checkpoint-bare.ensures

pub certify_parts-requires-clause-balances : goal.certify_parts-requires-clause-balances
certify_parts-requires-clause-balances c = c.in_ok-mailboxes.ensures.found.showable

pub returns-in_err-mailboxes-clause-unshown : goal.returns-in_err-mailboxes-clause-unshown
returns-in_err-mailboxes-clause-unshown c =
    let p = program_in c.args.search.now in
    let d = derivation_view c.args.search.now.derivation.now in
    let q = err_from_is_err_and c.from_residual.result c.from_residual.ensures.1 in
    let e = c.in_err-mailboxes.field-0.0 in
    passed (IsUnshown p d (config_view c.args.config) c.args.interfaces) c.from_residual.result q.0 e q.1 q.2
    (is_unshown p d (config_view c.args.config) c.args.interfaces (checkpoint_view c.bare_checkpoint-bare.result) e c.bare_checkpoint-bare.ensures c.in_err-mailboxes.ensures.unshown)

pub returns-in_err-parts-clause-unshown : goal.returns-in_err-parts-clause-unshown
returns-in_err-parts-clause-unshown c =
    let p = program_in c.args.search.now in
    let d = derivation_view c.args.search.now.derivation.now in
    let r = c.from_residual-in_err-parts in
    let q = err_from_is_err_and r.result r.ensures.1 in
    let e = c.in_err-parts.field-0.0 in
    passed (IsUnshown p d (config_view c.args.config) c.args.interfaces) r.result q.0 e q.1 q.2
    (is_unshown p d (config_view c.args.config) c.args.interfaces (checkpoint_view c.bare_checkpoint-bare.result) e c.bare_checkpoint-bare.ensures c.in_err-parts.ensures.unshown)

pub returns-clause-certified : goal.returns-clause-certified
returns-clause-certified c =
    let p = program_in c.args.search.now in
    let d = derivation_view c.args.search.now.derivation.now in
    let bare = checkpoint_view c.bare_checkpoint-bare.result in
    let ms = map end_view c.in_ok-mailboxes.mailboxes in
    let ks = map part_certs_view c.in_ok-parts.parts in
    let count = count_bare p d (config_view c.args.config) c.args.interfaces c.requires.typed.count bare c.bare_checkpoint-bare.ensures in
    subst (IsCertified p d (config_view c.args.config) c.args.interfaces) (sym c.with_certs.ensures)
    (is_certified p d (config_view c.args.config) c.args.interfaces c.resumed_laws.ensures.written c.checked_laws.ensures.broken c.requires.search.well c.requires.valid c.requires.typed.typed bare ms ks c.bare_checkpoint-bare.ensures
    (certs_are p d bare ms ks count c.in_ok-mailboxes.ensures.found.certified c.in_ok-parts.ensures.found.certified)
    (lines_shown p d bare (bound_in p) c.in_ok-mailboxes.ensures.found.showable c.in_ok-parts.ensures.found.showable))

use Rattle.std.proofs.Common.{◌&&◌}
use Rattle.std.proofs.lemmas.Bool.{and_parts, and_from}
use Rattle.pat_derivation_spec.specs.Derivations.{typing_of}
use Rattle.pat_checkpoint_spec.specs.Checkpoints.{interfaces_of}
use Rattle.pat_checkpoint_spec.specs.Kinds.{parts_shown}
use Rattle.pat_checkpoint_spec.specs.Balances.{balances_hold}
use Rattle.pat_checkpoint_spec.specs.Checked.{stands_typed}
use Rattle.pat_derivation_spec.specs.Derivations.{scope_of, written_typing}
use Rattle.pat_checkpoint_spec.specs.Balances.{balance_needs}
use Rattle.pat_checkpoint_laws.proofs.Aligned.{threads_align, balances_align}
use Rattle.pat_checkpoint_laws.proofs.CheckedTyped.{checked_typed, typed_stands, none_broken, all_hold, stands_holds, holds_stands}
use Rattle.pat_checkpoint_laws.proofs.checked_laws.Goals as goal

pub returns : goal.returns
returns c = record {
  typed = λ p d x w k. checked_typed p w d x c.validity_laws.ensures.typing k;
  aligned = λ p d x k silent.
      let h = holds_stands p d x (none_broken p d x k.none) in
      let b = balances_align (scope_of p d) (balance_needs p (written_typing p d) (interfaces_of x) x.config) x.config.live x.interfaces x.mailbox_certs h.2 in
      record {
        interfaces = b.0;
        mailboxes = b.1;
        parts = threads_align p (written_typing p d) (scope_of p d) x.config.threads x.part_certs h.1;
        silent = silent;
      };
  safe = λ p d x ks e w k h f.
      c.safety_laws.ensures.stays p (typing_of p d) (interfaces_of x) ks x.config e w (checked_typed p w d x c.validity_laws.ensures.typing k) h f;
  stands = λ p d x w t. typed_stands p w d x t;
  broken = λ p d x. (
    λ h. let k = holds_stands p d x (none_broken p d x h) in
        and_from (stands_typed p d x) (parts_shown p d x && balances_hold p d x) k.0 (and_from (parts_shown p d x) (balances_hold p d x) k.1 k.2),
    λ h.
        let a = and_parts (stands_typed p d x) (parts_shown p d x && balances_hold p d x) h in
        let b = and_parts (parts_shown p d x) (balances_hold p d x) a.1 in
        all_hold p d x (stands_holds p d x a.0 b.0 b.1),
  );
  shown = λ p d x w v t parts balance.
      record { valid = v; none = all_hold p d x (stands_holds p d x (typed_stands p w d x t) parts balance) };
}

-- The rules of a checkpoint, by what a typing and its lists are.
use Rattle.std.proofs.Common.{◌≡◌, ℕ, List, map, ap, ◌∙◌}
use Rattle.std.specs.List.{list_all}
use Rattle.pat_semantics_spec.specs.Programs.{Program}
use Rattle.pat_semantics_spec.specs.Configs.{Thread}
use Rattle.pat_derivation_spec.specs.Derivations.{Derivation, scope_of, written_typing}
use Rattle.pat_core.specs.declared.program.Program.{Program as CodeProgram}
use Rattle.pat_core.specs.Views.{program_view}
use Rattle.pat_derivations.specs.declared.data.Derivation.{Derivation as CodeDerivation}
use Rattle.pat_derivations.specs.Views.{derivation_view}
use Rattle.pat_reduce.specs.declared.config.Config.{Config as CodeConfig}
use Rattle.pat_reduce.specs.declared.threads.state.ThreadState.{ThreadState}
use Rattle.pat_reduce.specs.Views.{config_view, threads_view}
use Rattle.pat_checkpoint_spec.specs.Checkpoints.{interface_at}
use Rattle.pat_checkpoint_spec.specs.Kinds.{thread_fits, threads_shown, kinds_fit, parts_shown}
use Rattle.pat_checkpoint_spec.specs.Mailboxes.{thread_keeps, order_holds}
use Rattle.pat_checkpoint_data.specs.declared.data.Checkpoint.{Checkpoint}
use Rattle.pat_checkpoint_data.specs.Parts.{PartCerts}
use Rattle.pat_checkpoint_data.specs.Views.{part_certs_view, checkpoint_view}
use Rattle.pat_checkpoint_parts.specs.declared.typing.Typing.{Typing}
use Rattle.pat_checkpoint_parts.specs.Typed.{program_in, typing_in, scope_in}

module _ (program : CodeProgram) (derivation : CodeDerivation) (t : Typing) (same_program : t.program.now ≡ program) (same_derivation : t.derivation.now ≡ derivation) where
  abbrev p : Program
  p = program_view program

  abbrev d : Derivation
  d = derivation_view derivation

  over : {X : Type 0} (f : Program → Derivation → X) → f (program_view t.program.now) (derivation_view t.derivation.now) ≡ f p d
  over f = ap (λ (q : CodeProgram). f (program_view q) (derivation_view t.derivation.now)) same_program ∙ ap (λ (e : CodeDerivation). f p (derivation_view e)) same_derivation

  pub order_is : (config : CodeConfig) (threads : List (ℕ × ThreadState)) → threads ≡ config.threads
      → list_all (λ (e : ℕ × Thread). thread_keeps (program_in t) (typing_in t) e.1) (threads_view threads) ≡ order_holds p d (config_view config)
  order_is config threads same =
      over (λ (q : Program) (e : Derivation). list_all (λ (s : ℕ × Thread). thread_keeps q (written_typing q e) s.1) (threads_view threads))
      ∙ ap (λ ts. list_all (λ (s : ℕ × Thread). thread_keeps p (written_typing p d) s.1) (threads_view ts)) same

  pub fit_is : (x : Checkpoint) (live interfaces : List ℕ) (threads : List (ℕ × ThreadState)) → live ≡ x.config.live → interfaces ≡ x.interfaces → threads ≡ x.config.threads
      → list_all (λ (e : ℕ × Thread). thread_fits (program_in t) (typing_in t) (λ a. interface_at live interfaces a) e.1) (threads_view threads) ≡ kinds_fit p d (checkpoint_view x)
  fit_is x live interfaces threads same_live same_interfaces same =
      over (λ (q : Program) (e : Derivation). list_all (λ (s : ℕ × Thread). thread_fits q (written_typing q e) (λ a. interface_at live interfaces a) s.1) (threads_view threads))
      ∙ ap (λ l. list_all (λ (s : ℕ × Thread). thread_fits p (written_typing p d) (λ a. interface_at l interfaces a) s.1) (threads_view threads)) same_live
      ∙ ap (λ l. list_all (λ (s : ℕ × Thread). thread_fits p (written_typing p d) (λ a. interface_at x.config.live l a) s.1) (threads_view threads)) same_interfaces
      ∙ ap (λ ts. list_all (λ (s : ℕ × Thread). thread_fits p (written_typing p d) (λ a. interface_at x.config.live x.interfaces a) s.1) (threads_view ts)) same

  pub shown_is : (x : Checkpoint) (threads : List (ℕ × ThreadState)) (certs : List PartCerts) → threads ≡ x.config.threads → certs ≡ x.part_certs
      → threads_shown (program_in t) (typing_in t) (scope_in t) (threads_view threads) (map part_certs_view certs) ≡ parts_shown p d (checkpoint_view x)
  shown_is x threads certs same same_certs =
      over (λ (q : Program) (e : Derivation). threads_shown q (written_typing q e) (scope_of q e) (threads_view threads) (map part_certs_view certs))
      ∙ ap (λ ts. threads_shown p (written_typing p d) (scope_of p d) (threads_view ts) (map part_certs_view certs)) same
      ∙ ap (λ ks. threads_shown p (written_typing p d) (scope_of p d) (threads_view x.config.threads) (map part_certs_view ks)) same_certs

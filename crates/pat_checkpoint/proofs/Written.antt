-- The text of a certified checkpoint is read as it.
use Rattle.std.proofs.Common.{◌≡◌, ℕ, ◌<◌, List, length, sym, ap, subst}
use Rattle.std.specs.Prelude.{◌&&◌, Result, IfOk, IfErr}
use Rattle.std.specs.declared.result.Result.TheVariants.{Ok, Err}
use Rattle.std.specs.List.{AllByRecursion}
use Rattle.std.proofs.lemmas.Bool.{and_parts}
use Rattle.pat_semantics_spec.specs.Programs.{Program}
use Rattle.pat_semantics_spec.specs.Configs.{Config}
use Rattle.pat_semantics_spec.specs.Orders.{AscendsFrom}
use Rattle.pat_resolver_spec.specs.Places.{Places}
use Rattle.pat_resolver_spec.specs.Resolved.{IsResolved}
use Rattle.pat_derivation_spec.specs.Derivations.{Derivation}
use Rattle.pat_checkpoint_spec.specs.Checkpoints.{Checkpoint, IsAligned}
use Rattle.pat_checkpoint_spec.specs.Kinds.{parts_shown}
use Rattle.pat_checkpoint_spec.specs.Balances.{balances_hold}
use Rattle.pat_checkpoint_spec.specs.Checked.{stands_typed}
use Rattle.pat_checkpoint_spec.specs.Resumed.{silent}
use Rattle.pat_checkpoint_spec.specs.text.CheckpointText.{checkpoint_text}
use Rattle.pat_checkpoint_spec.specs.text.Reading.{ReadsAs}
use Rattle.pat_checkpoint_laws.specs.Laws.{NoneIsBroken, CheckedIsAligned}
use Rattle.pat_checkpoint_laws.specs.text.Laws.{StringsAreTokens, PlainIsReadable, TextIsRead}
use Rattle.pat_checkpoint_certificates.specs.Certified.{CanBeCertified, IsCertified}
use Rattle.pat_checkpoint_print.specs.Ranges.{IsInRange}
use Rattle.pat_checkpoint.specs.Strings.{HasSpelledStrings}
use Rattle.pat_checkpoint.specs.declared.error.WriteError.{WriteError}
use Rattle.pat_checkpoint.specs.declared.error.WriteError.TheVariants.{NoMemory}
use Rattle.pat_checkpoint.specs.Writing.{IsWritten, IsRefusal}
use Rattle.pat_checkpoint.proofs.Plain.{plain}

module _ (p : Program) (d : Derivation) (c : Config) (interfaces : List ℕ) (x : Checkpoint) (certified : IsCertified p d c interfaces x) where
  -- it is of the configuration without printed lines, and has the interfaces
  silent_config : x.config ≡ silent c
  silent_config = ap (λ k. k.config) certified.is

  own_interfaces : x.interfaces ≡ interfaces
  own_interfaces = ap (λ k. k.interfaces) certified.is

  -- so its lists are as long as what they go along with, and its mailboxes ascend
  pub lists_align : CheckedIsAligned → IsAligned x
  lists_align aligned = aligned p d x certified.checked (ap (λ k. k.printed) silent_config)

  pub mailboxes_ascend : CanBeCertified p d c interfaces → AscendsFrom 0 x.config.live
  mailboxes_ascend can = subst (AscendsFrom 0) (sym (ap (λ k. k.live) silent_config)) can.typed.numbers.ordered.live

  -- and its text is read again
  pub written : (q : Places) → IsResolved p q → AllByRecursion (λ i. i < length p.interfaces) interfaces → HasSpelledStrings c → NoneIsBroken → CheckedIsAligned → StringsAreTokens → PlainIsReadable → TextIsRead → IsInRange x → (text : List ℕ) → text ≡ checkpoint_text p x → IsWritten p d c interfaces text
  written q resolved there strings broken aligned tokens readable reads range text is =
      let stands = (and_parts (stands_typed p d x) (parts_shown p d x && balances_hold p d x) ((broken p d x).0 certified.checked.none)).0 in
      let spelled : HasSpelledStrings (silent c) = record { threads = strings.threads; messages = strings.messages } in
      let own = plain tokens p d x resolved.well_formed stands
      (subst (AllByRecursion (λ i. i < length p.interfaces)) (sym own_interfaces) there)
      (subst HasSpelledStrings (sym silent_config) spelled)
      range (lists_align aligned) in
      record {
        checkpoint = x;
        config = silent_config;
        interfaces = own_interfaces;
        checked = certified.checked;
        shown = is;
        read = subst (λ t. ReadsAs p t x) (sym is) (reads p q resolved x (readable p x own));
        showable = certified.showable;
      }

-- what follows from two things that hold of a result
pub both : {A E : Type 0} {P Q R : A → Type 0} (r : Result A E) → ((x : A) → P x → Q x → R x) → IfOk r P → IfOk r Q → IfOk r R
both (Ok x) f h k = f x h k
both (Err e) f h k = tt

-- want of memory says nothing
pub nothing_said : {A : Type 0} (p : Program) (d : Derivation) (c : Config) (interfaces : List ℕ) (r : Result A WriteError) → IfErr r (λ e. e ≡ NoMemory) → IfErr r (IsRefusal p d c interfaces)
nothing_said p d c interfaces (Ok x) h = tt
nothing_said p d c interfaces (Err e) h = subst (IsRefusal p d c interfaces) (sym h) tt

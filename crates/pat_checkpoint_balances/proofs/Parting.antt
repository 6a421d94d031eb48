-- How sides are parted from what is held, and that they are those of balances.
use Rattle.std.proofs.Common.{◌≡◌, ℕ, ◌++◌, List, [], ◌∷◌, map, Result, Ok, Err, sym, ap, ◌∙◌}
use Rattle.std.specs.Prelude.{IsTrue, IfOk}
use Rattle.std.proofs.lemmas.List.{append-nil}
use Rattle.pat_words_spec.specs.Patterns.{Pat}
use Rattle.pat_semantics_spec.specs.Programs.{Program, Sending, Receiving}
use Rattle.pat_semantics_spec.specs.Configs.{Message}
use Rattle.pat_type_system_spec.specs.Types.{MailboxType}
use Rattle.pat_type_system_spec.specs.Holdings.{receivers}
use Rattle.pat_derivation_spec.specs.Derivations.{Derivation, written_typing}
use Rattle.pat_checkpoint_spec.specs.Checkpoints.{Checkpoint, interfaces_of}
use Rattle.pat_checkpoint_spec.specs.Mailboxes.{mailboxes_differ}
use Rattle.pat_checkpoint_spec.specs.HoldingsInOrder.{Held, lines_held, all_held, types_of, sending, receiving}
use Rattle.pat_checkpoint_spec.specs.Balances.{pending_tags, senders}
use Rattle.pat_checkpoint_laws.specs.Laws.{WalkGathers}
use Rattle.pat_checkpoint_balances.specs.Gathered.{rows_view, with_one, tags_of, coming, expected, Parted, IsGathered}
use Rattle.pat_checkpoint_balances.specs.declared.gathering.Sides.{Sides}
use Rattle.pat_checkpoint_balances.proofs.RowLaws.{same_maps, sender_more, receiver_more, no_sender_more, no_receiver_more}

pub ok_so : {A E : Type 0} {P Q : A → Type 0} (r : Result A E) → ((x : A) → P x → Q x) → IfOk r P → IfOk r Q
ok_so (Ok x) f h = f x h
ok_so (Err e) f h = tt

-- before anything is held
pub parted_first : (live : List ℕ) (ms : List Message) (s : Sides) → rows_view s.coming ≡ map (tags_of ms) live → rows_view s.receivers ≡ map (λ a. []) live → Parted live ms [] s
parted_first live ms s tags none = record {
  coming_rows = tags ∙ same_maps (tags_of ms) (coming ms []) live (λ a. sym (append-nil (tags_of ms a)));
  receiver_rows = none;
}

module _ (live : List ℕ) (ms : List Message) (hs : List Held) (old new : Sides) (a : ℕ) (t : MailboxType) (e : Pat) (is : e ≡ t.pattern) (q : Parted live ms hs old) where
  pub sender_parted : t.polarity ≡ Sending → rows_view new.coming ≡ map (with_one (coming ms hs) a e) live → new.receivers ≡ old.receivers → Parted live ms (hs ++ (a, t) ∷ []) new
  sender_parted sends added same = record {
    coming_rows = added ∙ same_maps (with_one (coming ms hs) a e) (coming ms (hs ++ (a, t) ∷ [])) live (λ b. ap (λ g. with_one (coming ms hs) a g b) is ∙ sender_more ms hs a t b sends);
    receiver_rows = ap rows_view same ∙ q.receiver_rows ∙ same_maps (expected hs) (expected (hs ++ (a, t) ∷ [])) live (λ b. no_receiver_more hs a t b sends);
  }

  pub receiver_parted : t.polarity ≡ Receiving → rows_view new.receivers ≡ map (with_one (expected hs) a e) live → new.coming ≡ old.coming → Parted live ms (hs ++ (a, t) ∷ []) new
  receiver_parted receives added same = record {
    coming_rows = ap rows_view same ∙ q.coming_rows ∙ same_maps (coming ms hs) (coming ms (hs ++ (a, t) ∷ [])) live (λ b. no_sender_more ms hs a t b receives);
    receiver_rows = added ∙ same_maps (with_one (expected hs) a e) (expected (hs ++ (a, t) ∷ [])) live (λ b. ap (λ g. with_one (expected hs) a g b) is ∙ receiver_more hs a t b receives);
  }

pub gathered : (p : Program) (d : Derivation) (x : Checkpoint) (hs : List Held) (s : Sides) → WalkGathers → IsTrue (mailboxes_differ x.config) → hs ≡ all_held p (written_typing p d) (interfaces_of x) x.config → Parted x.config.live x.config.messages hs s → IsGathered p d x s
gathered p d x hs s law differ is q =
    let y = written_typing p d in
    let i = interfaces_of x in
    let ms = x.config.messages in record {
      left = q.coming_rows ∙ same_maps (coming ms hs) (λ a. pending_tags a ms ++ senders (lines_held p y i x.config a)) x.config.live (λ a.
          ap (λ l. pending_tags a ms ++ l) (ap (λ h. sending (types_of a h)) is ∙ sym (law p y i x.config a differ).0));
      right = q.receiver_rows ∙ same_maps (expected hs) (λ a. receivers (lines_held p y i x.config a)) x.config.live (λ a.
          ap (λ h. receiving (types_of a h)) is ∙ sym (law p y i x.config a differ).1);
    }

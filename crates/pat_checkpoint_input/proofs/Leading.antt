-- What is answered of a history behind a checkpoint.
use Rattle.std.proofs.Common.{◌≡◌, ◌≤◌, ◌&&◌, nat_le, ℕ, Bool, true, false, IsTrue, List, [], ◌∷◌, length, take, drop, map, Some, Result, Ok as Done, Err as Failed, refl, sym, ap, ap₂, ◌∙◌, subst, inl, inr, arith}
use Rattle.std.specs.Prelude.{IfOk, IfErr}
use Rattle.std.proofs.lemmas.Bool.Decides.{nat_tests}
use Rattle.std.proofs.lemmas.List.{length-take-le}
use Rattle.pat_semantics_spec.specs.Programs.{Program}
use Rattle.pat_semantics_spec.specs.WellFormed.{WellFormed}
use Rattle.pat_semantics_spec.specs.Configs.{Config}
use Rattle.pat_semantics_spec.specs.Orders.{IsOrdered}
use Rattle.pat_semantics_spec.specs.Runs.{Entry, replay_from}
use Rattle.pat_semantics_laws.specs.Laws.{history_steps}
use Rattle.pat_semantics_laws.proofs.Replays.{replay_runs}
use Rattle.pat_type_system_spec.specs.Interfaces.{interfaces_along}
use Rattle.pat_derivation_spec.specs.Derivations.{Derivation}
use Rattle.pat_derivations.specs.Views.{derivation_view}
use Rattle.pat_reduce.specs.Views.{config_view, entry_view}
use Rattle.pat_checkpoint_spec.specs.Checkpoints.{Checkpoint, interface_at, interfaces_of}
use Rattle.pat_checkpoint_spec.specs.Checked.{IsChecked}
use Rattle.pat_checkpoint_spec.specs.Resumed.{made_along, interface_made, interfaces_after_history}
use Rattle.pat_checkpoint_laws.specs.Laws.{CheckedIsTyped}
use Rattle.pat_checkpoint_laws.specs.resuming.Laws.{InterfacesMade}
use Rattle.pat_replay.specs.Replays.{HasRoom}
use Rattle.pat_input.specs.Inputs.{whole_limit}
use Rattle.pat_front.specs.declared.front.FrontError.{FrontError}
use Rattle.pat_front.specs.declared.front.FrontError.TheVariants as error
use Rattle.pat_replay_input.specs.declared.histories.Replayed.{Replayed}
use Rattle.pat_replay_input.specs.Histories.{HasReplay, Unreplayed}
use Rattle.pat_replay_input.specs.Gives as history
use Rattle.pat_checkpoint_input.specs.declared.pieces.Piece.{Piece}
use Rattle.pat_checkpoint_input.specs.declared.pieces.Led.{Led}
use Rattle.pat_checkpoint_input.specs.CheckedTexts.{has_room, HasCheckedParts}
use Rattle.pat_checkpoint_input.specs.Pieces.{IsPiece}
use Rattle.pat_checkpoint_input.specs.Gives.{BytesGive, PieceGives, ProgramGives, LedGives}

-- ---- where a history leads

-- a checked checkpoint is in order
pub checked_in_order : (p : Program) (x : Checkpoint) → CheckedIsTyped → WellFormed p → ((d : Derivation) × IsChecked p d x) → IsOrdered x.config
checked_in_order p x typed well (d, checked) = (typed p d x well checked).numbers.ordered

-- and leaves numbers for a history
both : (a b : Bool) → IsTrue (a && b) → IsTrue a × IsTrue b
both true b h = (refl, h)
both false b h = let clash : false ≡ true = h in absurd cc

small_enough : (n m : ℕ) → IsTrue (nat_le n m) → n ≤ m
small_enough n m h = grind (arith, nat_tests)

pub room_of : (c : Config) → IsTrue (has_room c) → HasRoom c whole_limit
room_of c h =
    let first = both (nat_le c.next_thread 4000000000) (nat_le c.next_mailbox 4000000000 && nat_le c.next_message 4000000000) h in
    let others = both (nat_le c.next_mailbox 4000000000) (nat_le c.next_message 4000000000) first.1 in
    record {
      threads = let small = small_enough c.next_thread 4000000000 first.0 in omega (arith, small);
      mailboxes = let small = small_enough c.next_mailbox 4000000000 others.0 in omega (arith, small);
      messages = let small = small_enough c.next_message 4000000000 others.1 in omega (arith, small);
    }

map_same : {A B : Type 0} (f g : A → B) → ((a : A) → f a ≡ g a) → (xs : List A) → map f xs ≡ map g xs
map_same f g h [] = refl
map_same f g h (x ∷ xs) = ap₂ (λ b bs. b ∷ bs) (h x) (map_same f g h xs)

-- the interfaces are those of the checkpoint and of what the history makes
interfaces_are : InterfacesMade → (p : Program) (x : Checkpoint) (es : List Entry) (c : Config) (made : List ℕ) → replay_from p x.config es ≡ Some c → made ≡ made_along p x.config (history_steps es) → map (interface_made (interfaces_of x) x.config.next_mailbox made) c.live ≡ interfaces_after_history p x es c
interfaces_are law p x es c made replays is =
    ap (λ l. map (interface_made (interfaces_of x) x.config.next_mailbox l) c.live) is
    ∙ sym (map_same (interfaces_along p x.config (history_steps es) (interfaces_of x)) (interface_made (interfaces_of x) x.config.next_mailbox (made_along p x.config (history_steps es)))
    (λ a. law p (history_steps es) (interfaces_of x) x.config c a (replay_runs p x.config c es replays).1) c.live)

module _ (p : Program) (x : Checkpoint) (from : ℕ) (text : List ℕ) where
  led_given : InterfacesMade → (r : Replayed) (l : Led) → l.replayed ≡ r → l.interfaces ≡ map (interface_made (interfaces_of x) x.config.next_mailbox r.made) r.config.live
      → history.TextGives p x.config from text (Done r) → history.Makes p x.config r → LedGives p x from text (Done l)
  led_given law r l same interfaces gives makes =
      let leads = gives.1 in
      subst (λ (q : Replayed). LedGives p x from text (Done (record { replayed = q; interfaces = l.interfaces }))) (sym same)
      (gives.0, leads, interfaces ∙ interfaces_are law p x (map entry_view r.entries.items) (config_view r.config) r.made leads.replayed makes)

  -- whatever comes of it
  pub led_all : InterfacesMade → (r : Replayed) (live old : List ℕ) (next : ℕ) (o : Result Led FrontError) → live ≡ x.config.live → old ≡ x.interfaces → next ≡ x.config.next_mailbox → IfOk o (λ l. l.replayed ≡ r)
      → IfOk o (λ l. l.interfaces ≡ map (interface_made (interface_at live old) next r.made) r.config.live) → IfErr o (λ e. e ≡ error.NoMemory) → history.TextGives p x.config from text (Done r) → history.Makes p x.config r → LedGives p x from text o
  led_all law r live old next (Done l) a b d same is none gives makes =
      led_given law r l same
      (is
      ∙ ap (λ t. map (interface_made (interface_at t old) next r.made) r.config.live) a
      ∙ ap (λ t. map (interface_made (interface_at x.config.live t) next r.made) r.config.live) b
      ∙ ap (λ n. map (interface_made (interface_at x.config.live x.interfaces) n r.made) r.config.live) d)
      gives makes
  led_all law r live old next (Failed e) a b d same is none gives makes = subst (λ k. LedGives p x from text (Failed k)) (sym none) tt

  pub program_given : (d : Derivation) (r : Piece) (l : Led) → r.replayed ≡ l.replayed → r.interfaces ≡ l.interfaces → derivation_view r.derivation ≡ d → LedGives p x from text (Done l) → ProgramGives p d x from text (Done r)
  program_given d r l replayed interfaces shown h =
      let own = subst (λ (q : Replayed). LedGives p x from text (Done (record { replayed = q; interfaces = l.interfaces }))) (sym replayed) h in
      (own.0, shown, own.1, interfaces ∙ own.2)

  pub program_refused : (d : Derivation) (e : FrontError) → LedGives p x from text (Failed e) → ProgramGives p d x from text (Failed e)
  program_refused d (error.Refused v) h = h
  program_refused d error.NoMemory h = tt

-- ---- whole inputs

module _ (bytes : List ℕ) (at : ℕ) (piece : IsPiece bytes (take at bytes) (drop at bytes)) where
  pub piece_refused : (e : FrontError) → BytesGive (take at bytes) (Failed e) → PieceGives bytes (Failed e)
  piece_refused (error.Refused v) h = record { head = take at bytes; history = drop at bytes; piece = piece; why = inl h }
  piece_refused error.NoMemory h = tt

  module _ (p : Program) (d : Derivation) (x : Checkpoint) (parts : HasCheckedParts (take at bytes) p d x) where
    pub piece_given : (r : Result Piece FrontError) → at ≤ length bytes → ProgramGives p d x at (drop at bytes) r → PieceGives bytes r
    piece_given (Done r) within (same, shown, leads, interfaces) = record {
      from = x;
      replays = record {
        head = take at bytes;
        history = drop at bytes;
        piece = piece;
        parts = subst (λ q. HasCheckedParts (take at bytes) q (derivation_view r.derivation) x) (sym same) (subst (λ e. HasCheckedParts (take at bytes) p e x) (sym shown) parts);
        leads = subst (λ q. HasReplay q x.config (drop at bytes) (map entry_view r.replayed.entries.items) (config_view r.replayed.config)) (sym same) leads;
      };
      interfaces = subst (λ q. r.interfaces ≡ interfaces_after_history q x (map entry_view r.replayed.entries.items) (config_view r.replayed.config)) (sym same) interfaces;
    }
    piece_given (Failed (error.Refused v)) within h = record {
      head = take at bytes;
      history = drop at bytes;
      piece = piece;
      why = inr (record {
        program = p;
        shown = d;
        from = x;
        parts = parts;
        unreplayed = subst (λ n. Unreplayed p x.config n (drop at bytes) v) (sym (length-take-le at bytes within)) h;
      });
    }
    piece_given (Failed error.NoMemory) within h = tt

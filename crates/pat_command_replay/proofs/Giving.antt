-- What is answered of an input.
use Rattle.std.proofs.Common.{ℕ, List, Result, Ok as Done, Err as Failed, refl, inl, inr}
use Rattle.pat_core.specs.Views.{program_view}
use Rattle.pat_derivations.specs.Views.{derivation_view}
use Rattle.pat_resolver_spec.specs.Places.{places}
use Rattle.pat_checkpoint_laws.specs.Laws.{CheckedIsSafe}
use Rattle.pat_front.specs.declared.front.FrontError.{FrontError}
use Rattle.pat_front.specs.declared.front.FrontError.TheVariants as error
use Rattle.pat_front.proofs.Resolved.{is_resolved}
use Rattle.pat_checkpoint_input.specs.declared.pieces.Piece.{Piece}
use Rattle.pat_checkpoint_input.specs.Pieces.{IsNoPiece}
use Rattle.pat_checkpoint_input.specs.Gives.{PieceGives}
use Rattle.pat_replay_input.specs.declared.histories.Replayed.{Replayed}
use Rattle.pat_replay_input.specs.Gives.{BytesGive}
use Rattle.pat_command_replay.specs.Gives.{InputGives}

-- where there is no checkpoint the input is a program and its history
pub whole_given : (bytes : List ℕ) (r : Result Replayed FrontError) → IsNoPiece bytes → BytesGive bytes r → InputGives bytes r
whole_given bytes (Done r) none h = inl h
whole_given bytes (Failed (error.Refused v)) none h = inl (none, h)
whole_given bytes (Failed error.NoMemory) none h = tt

-- else it is a history behind the checkpoint
pub piece_given : (bytes : List ℕ) (r : Piece) → CheckedIsSafe → PieceGives bytes (Done r) → InputGives bytes (Done r.replayed)
piece_given bytes r safe h =
    let replays = h.replays in
    let parts = replays.parts in
    let front = parts.has.has in
    let checked = parts.checked in
    let own = front.has in
    let p = program_view r.replayed.code.program in
    let well = (is_resolved parts.front own.0 p (places own.0) own.1 refl).well_formed in
    inr (record { shown = derivation_view r.derivation; from = h.from; replays = replays; safe = λ ks last. safe p (derivation_view r.derivation) h.from ks last well checked.checked })

pub piece_refused : (bytes : List ℕ) (e : FrontError) → PieceGives bytes (Failed e) → InputGives bytes (Failed e)
piece_refused bytes (error.Refused v) h = inr h
piece_refused bytes error.NoMemory h = tt

-- What is answered of parts, and of the whole.
use Rattle.std.proofs.Common.{◌≡◌, ◌≤◌, ◌<◌, ◌+◌, ℕ, List, [], ◌∷◌, length, map, take, Option, Some, None, Result, Ok, Err, sym, subst, inl, inr, arith}
use Rattle.std.proofs.lemmas.List.{length-map, length-take-le}
use Rattle.pat_semantics_spec.specs.Programs.{Program, Function, function_at}
use Rattle.pat_semantics_spec.specs.Configs.{Config, start, start_of}
use Rattle.pat_semantics_spec.specs.Runs.{Entry}
use Rattle.pat_reduce.specs.declared.history.Entry.{Entry as CodeEntry}
use Rattle.pat_reduce.specs.Views.{config_view, entry_view}
use Rattle.pat_texts_spec.specs.Joined.{cut}
use Rattle.pat_texts_spec.proofs.Cutting.{CutInPieces, cut_pieces}
use Rattle.pat_history_spec.specs.HistoryText.{marker}
use Rattle.pat_history_spec.specs.Reading.{ReadsLines, ReadsAs}
use Rattle.pat_input_split.specs.program_with_text.MarkedPrograms.{HasProgram, Explains}
use Rattle.pat_front.specs.declared.front.FrontError.{FrontError}
use Rattle.pat_front.specs.declared.front.FrontError.TheVariants as error
use Rattle.pat_front.specs.declared.verdict.Verdict.{Verdict}
use Rattle.pat_front.specs.declared.verdict.Verdict.TheVariants as verdict
use Rattle.pat_replay_input.specs.declared.histories.Replayed.{Replayed}
use Rattle.pat_replay_input.specs.Histories.{IsHistoryPart, HasReplay, Unreplayed}
use Rattle.pat_replay.specs.declared.error.ReplayError.{ReplayError}
use Rattle.pat_replay.specs.declared.error.ReplayError.TheVariants as replay_error
use Rattle.pat_replay.specs.Replays.{HasRoom, ReplayGives}
use Rattle.pat_replay_input.specs.Gives.{BytesGive, TextGives, RefusesPart, PartGives, refusal_of}
use Rattle.pat_limits.specs.Limits.{most_number}
use Rattle.pat_input.specs.Inputs.{whole_limit}

-- ---- few entries

shorter : (bs : List ℕ) (r : List ℕ × List ℕ) → cut 10 bs ≡ Some r → length r.1 < length bs
shorter bs r e = (subst (CutInPieces 10 bs) e (cut_pieces 10 bs)).1

lines_few : (bytes : List ℕ) (es : List Entry) (rest : List ℕ) → ReadsLines bytes es rest → length es ≤ length bytes
lines_few bytes [] rest h = omega arith
lines_few bytes (e ∷ es) rest (r, there, read, more) = omega (arith, shorter bytes r there, lines_few r.1 es rest more)

-- a history has no more entries than its text has bytes
entries_within : (part : List ℕ) (from : ℕ) (es : List CodeEntry) → ReadsAs part (map entry_view es) → from + length part ≤ whole_limit → length es ≤ whole_limit
entries_within part from es read small =
    let first = shorter part (marker, read.body) read.first in
    let few = lines_few read.body (map entry_view es) [] read.lines in
    let same : length (map entry_view es) ≡ length es = length-map es entry_view in
    omega (arith, first, few, same, small)

pub entries_few : (part : List ℕ) (from : ℕ) (es : List CodeEntry) → ReadsAs part (map entry_view es) → from + length part ≤ whole_limit → length es < most_number
entries_few part from es read small = let within = entries_within part from es read small in omega (arith, within)

-- so numbers are left for them
pub room_for : (part : List ℕ) (from : ℕ) (es : List CodeEntry) (c : Config) → ReadsAs part (map entry_view es) → from + length part ≤ whole_limit → HasRoom c whole_limit → HasRoom c (length es)
room_for part from es c read small room =
    let within = entries_within part from es read small in
    record {
      threads = let left = room.threads in omega (arith, left, within);
      mailboxes = let left = room.mailboxes in omega (arith, left, within);
      messages = let left = room.messages in omega (arith, left, within);
    }

-- at the start one number is taken at most
starts_of : (f : Option Function) → HasRoom (start_of f) whole_limit
starts_of None = record { threads = omega arith; mailboxes = omega arith; messages = omega arith }
starts_of (Some f) = record { threads = omega arith; mailboxes = omega arith; messages = omega arith }

pub room_at_start : (p : Program) → HasRoom (start p) whole_limit
room_at_start p = starts_of (function_at p p.main)

-- ---- texts

module _ (p : Program) (b : Config) (from : ℕ) (text part : List ℕ) (own : IsHistoryPart text part) where
  of_refusal : (v : Verdict) → RefusesPart p b from part v → Unreplayed p b from text v
  of_refusal (verdict.BadText o) why = record { part = part; own = own; offset = why.0; is = why.1; unread = why.2 }
  of_refusal (verdict.RefusedAt i) why = record { part = part; own = own; entries = why.0; read = why.1; refused = why.2 }
  of_refusal verdict.TooLong why = absurd why
  of_refusal (verdict.Syntax o) why = absurd why
  of_refusal (verdict.NumberTooWide o) why = absurd why
  of_refusal (verdict.TooDeep o) why = absurd why
  of_refusal (verdict.Resolve k s) why = absurd why
  of_refusal (verdict.Rejected n rule) why = absurd why
  of_refusal verdict.TooManyEntries why = absurd why
  of_refusal (verdict.Unshown line) why = absurd why
  of_refusal (verdict.BadCheckpoint rule) why = absurd why
  of_refusal (verdict.Unaccepted reason) why = absurd why

  pub text_gives : (q : Program) (a : Config) (r : Result Replayed FrontError) → q ≡ p → a ≡ b → PartGives q a from part r → TextGives p b from text r
  text_gives q a r same here h = go r (subst (λ k. PartGives k b from part r) same (subst (λ k. PartGives q k from part r) here h))
    where
      go : (r : Result Replayed FrontError) → PartGives p b from part r → TextGives p b from text r
      go (Ok x) (is, read, replayed) = (is, record { part = part; own = own; read = read; replayed = replayed })
      go (Err (error.Refused v)) why = of_refusal v why
      go (Err error.NoMemory) why = tt

-- an entry that is refused, or want of memory, as it is said
pub refusal_gives : (p : Program) (b : Config) (from : ℕ) (part : List ℕ) (es : List Entry) (e : ReplayError) (f : FrontError) → f ≡ refusal_of e → ReadsAs part es → ReplayGives p b es (Err e) → PartGives p b from part (Err f)
refusal_gives p b from part es e f is read gives = subst (λ x. PartGives p b from part (Err x)) (sym is) (go e gives)
  where
    go : (e : ReplayError) → ReplayGives p b es (Err e) → PartGives p b from part (Err (refusal_of e))
    go (replay_error.RefusedAt i) why = (es, read, why)
    go replay_error.NoMemory why = tt

-- ---- whole inputs

pub bytes_give : (bytes : List ℕ) (at : ℕ) (text : List ℕ) (p : Program) (r : Result Replayed FrontError) → HasProgram marker bytes (take at bytes) text p → at ≤ length bytes → TextGives p (start p) at text r → BytesGive bytes r
bytes_give bytes at text p (Ok x) has within (is, leads) =
    record {
      front = take at bytes;
      text = text;
      has = subst (λ q. HasProgram marker bytes (take at bytes) text q) (sym is) has;
      leads = subst (λ q. HasReplay q (start q) text (map entry_view x.entries.items) (config_view x.config)) (sym is) leads;
    }
bytes_give bytes at text p (Err (error.Refused v)) has within why =
    inr (record { front = take at bytes; text = text; program = p; has = has; unreplayed = subst (λ n. Unreplayed p (start p) n text v) (sym (length-take-le at bytes within)) why })
bytes_give bytes at text p (Err error.NoMemory) has within why = tt

pub bytes_refused : (bytes : List ℕ) (e : FrontError) → Explains marker bytes e → BytesGive bytes (Err e)
bytes_refused bytes (error.Refused v) why = inl why
bytes_refused bytes error.NoMemory why = tt

-- One line more, and the first line that isn't read.
use Rattle.std.proofs.Common.{◌≡◌, ℕ, ◌+◌, ◌-◌, ◌<◌, List, [], ◌∷◌, ◌++◌, length, map, refl, sym, ap, ◌∙◌, subst, inr, arith}
use Rattle.std.specs.Prelude.{Option, Some, None, option_map}
use Rattle.std.proofs.lemmas.List.{map_push}
use Rattle.pat_semantics_spec.specs.Runs.{Entry}
use Rattle.pat_reduce.specs.declared.history.Entry.{Entry as CodeEntry}
use Rattle.pat_reduce.specs.Views.{entry_view}
use Rattle.pat_texts_spec.specs.Joined.{cut}
use Rattle.pat_history_spec.specs.HistoryText.{marker}
use Rattle.pat_history_spec.specs.EntryReading.{read_entry}
use Rattle.pat_history_spec.specs.Reading.{ReadsLines, NoEntry, Unread}

another : (bytes : List ℕ) (es : List Entry) (rest : List ℕ) (r : List ℕ × List ℕ) (e : Entry) → ReadsLines bytes es rest → cut 10 rest ≡ Some r → read_entry r.0 ≡ Some e → ReadsLines bytes (es ++ e ∷ []) r.1
another bytes [] rest r e h there read = (r, ap (cut 10) h ∙ there, read, refl)
another bytes (f ∷ es) rest r e (x, first, own, h) there read = (x, first, own, another x.1 es rest r e h there read)

-- a line that is read
pub line_read : (bytes : List ℕ) (es new : List CodeEntry) (rest line more : List ℕ) (e : CodeEntry) (o : Option CodeEntry) → ReadsLines bytes (map entry_view es) rest → cut 10 rest ≡ Some (line, more) → option_map entry_view o ≡ read_entry line → o ≡ Some e → new ≡ es ++ e ∷ [] → ReadsLines bytes (map entry_view new) more
line_read bytes es new rest line more e o h there read is grown =
    let own : read_entry line ≡ Some (entry_view e) = sym read ∙ ap (option_map entry_view) is in
    subst (λ l. ReadsLines bytes l more) (sym (ap (map entry_view) grown ∙ map_push entry_view es e)) (another bytes (map entry_view es) rest (line, more) (entry_view e) h there own)

stops : (text body : List ℕ) (es : List CodeEntry) (rest : List ℕ) → cut 10 text ≡ Some (marker, body) → ReadsLines body (map entry_view es) rest → 0 < length rest → length rest < length text + 1 → NoEntry (cut 10 rest) → Unread text (length text - length rest)
stops text body es rest first h some within none =
    inr (record {
      entries = map entry_view es;
      rest = rest;
      read = record { body = body; first = first; lines = h };
      some = some;
      at = omega (arith, within);
      unread = none;
    })

-- a line that isn't read
pub stops_at_line : (text body : List ℕ) (es : List CodeEntry) (rest line more : List ℕ) (o : Option CodeEntry) → cut 10 text ≡ Some (marker, body) → ReadsLines body (map entry_view es) rest → 0 < length rest → length rest < length text + 1 → cut 10 rest ≡ Some (line, more) → option_map entry_view o ≡ read_entry line → o ≡ None → Unread text (length text - length rest)
stops_at_line text body es rest line more o first h some within there read is =
    stops text body es rest first h some within (subst NoEntry (sym there) (sym read ∙ ap (option_map entry_view) is))

-- no line ends
pub stops_at_end : (text body : List ℕ) (es : List CodeEntry) (rest : List ℕ) → cut 10 text ≡ Some (marker, body) → ReadsLines body (map entry_view es) rest → 0 < length rest → length rest < length text + 1 → cut 10 rest ≡ None → Unread text (length text - length rest)
stops_at_end text body es rest first h some within there = stops text body es rest first h some within (subst NoEntry (sym there) tt)

-- The lines of a history are read as it, and what is read of lines has these lines.
use Rattle.std.proofs.Common.{◌≡◌, ℕ, List, [], ◌∷◌, ◌++◌, refl, sym, ap, ◌∙◌, subst, append_assoc, append-nil}
use Rattle.std.specs.Prelude.{Some}
use Rattle.std.specs.List.{flat_map}
use Rattle.pat_semantics_spec.specs.Runs.{Entry}
use Rattle.pat_texts_spec.specs.Joined.{cut}
use Rattle.pat_history_spec.specs.HistoryText.{marker, entry_words, entry_line, history_text}
use Rattle.pat_history_spec.specs.EntryReading.{read_entry}
use Rattle.pat_history_spec.specs.Reading.{ReadsLines, ReadsTo, ReadsAs}
use Rattle.pat_history_laws.specs.Readable.{AreReadable}
use Rattle.pat_history_laws.proofs.Cuts.{lacks_by, cut_at, cut_is}
use Rattle.pat_history_laws.proofs.Entries.{entry_read, entry_lacks, entry_spelled}

joined_line : (line ls rest : List ℕ) → ((line ++ 10 ∷ []) ++ ls) ++ rest ≡ line ++ 10 ∷ (ls ++ rest)
joined_line line ls rest = append_assoc (line ++ 10 ∷ []) ls rest ∙ append_assoc line (10 ∷ []) (ls ++ rest)

lines_text : (bytes : List ℕ) (es : List Entry) (rest : List ℕ) → ReadsLines bytes es rest → (bytes ≡ flat_map entry_line es ++ rest) × AreReadable es
lines_text bytes [] rest h = (h, tt)
lines_text bytes (e ∷ es) rest (r, there, read, more) =
    let s = entry_spelled r.0 e read in
    let others = lines_text r.1 es rest more in
    (cut_is 10 bytes r there ∙ ap (λ x. x ++ 10 ∷ r.1) s.0 ∙ ap (λ x. entry_words e ++ 10 ∷ x) others.0 ∙ sym (joined_line (entry_words e) (flat_map entry_line es) rest), (s.1, others.1))

lines_read : (es : List Entry) (rest : List ℕ) → AreReadable es → ReadsLines (flat_map entry_line es ++ rest) es rest
lines_read [] rest g = refl
lines_read (e ∷ es) rest g =
    let more = flat_map entry_line es ++ rest in
    ((entry_words e, more), ap (cut 10) (joined_line (entry_words e) (flat_map entry_line es) rest) ∙ cut_at 10 (entry_words e) more (entry_lacks e g.0), entry_read e g.0, lines_read es rest g.1)

-- what is read of a text, up to any line, stands there
pub reads_text : (text : List ℕ) (es : List Entry) (rest : List ℕ) → ReadsTo text es rest → (text ≡ history_text es ++ rest) × AreReadable es
reads_text text es rest r =
    let s = lines_text r.body es rest r.lines in
    (cut_is 10 text (marker, r.body) r.first ∙ ap (λ x. marker ++ 10 ∷ x) s.0 ∙ sym (joined_line marker (flat_map entry_line es) rest), s.1)

pub text_reads : (es : List Entry) (rest : List ℕ) → AreReadable es → ReadsTo (history_text es ++ rest) es rest
text_reads es rest g =
    let more = flat_map entry_line es ++ rest in
    record {
      body = more;
      first = ap (cut 10) (joined_line marker (flat_map entry_line es) rest) ∙ cut_at 10 marker more (lacks_by 10 marker refl);
      lines = lines_read es rest g;
    }

pub read_is_text : (text : List ℕ) (es : List Entry) → ReadsAs text es → text ≡ history_text es
read_is_text text es r = (reads_text text es [] r).0 ∙ append-nil (history_text es)

pub read_is_readable : (text : List ℕ) (es : List Entry) (rest : List ℕ) → ReadsTo text es rest → AreReadable es
read_is_readable text es rest r = (reads_text text es rest r).1

pub text_is_read : (es : List Entry) → AreReadable es → ReadsAs (history_text es) es
text_is_read es g = subst (λ t. ReadsTo t es []) (append-nil (history_text es)) (text_reads es [] g)

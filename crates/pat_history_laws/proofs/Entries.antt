-- The line of an entry is read as it, and what is read of a line has this line.
use Rattle.std.proofs.Common.{◌≡◌, ℕ, ◌==◌, Bool, true, false, List, [], ◌∷◌, ◌++◌, refl, sym, ap, ◌∙◌, subst, arith}
use Rattle.std.specs.Prelude.{Option, Some, None, option_map, option_and_then, bytes_eq, codes, if◌then◌else◌}
use Rattle.std.specs.Fmt.{decimal}
use Rattle.std.proofs.lemmas.Slice.Eq.{bytes_eq-Decides}
use Rattle.pat_semantics_spec.specs.Steps.{Act, ActLocal, ActNew, ActSend, ActSpawn, ActPrint, ActEnd, ActFree, ActReceive}
use Rattle.pat_semantics_spec.specs.Runs.{Entry, IsSharedOrNone}
use Rattle.pat_texts_spec.specs.Numbers.{is_number, read_number}
use Rattle.pat_texts_spec.specs.Fronts.{behind}
use Rattle.pat_texts_spec.proofs.Choices.{Made, made, made_next}
use Rattle.pat_texts_spec.proofs.Decimals.{number_read, number_spelled}
use Rattle.pat_derivation_text_laws.proofs.Spelled.{behind_is}
use Rattle.pat_texts_spec.specs.Joined.{cut}
use Rattle.pat_history_spec.specs.HistoryText.{spaced, act_word, entry_words}
use Rattle.pat_history_spec.specs.EntryReading.{read_message, read_shared, entry_with, read_steps, read_thread, read_worker, read_entry}
use Rattle.pat_history_laws.specs.Readable.{NamesNumber, IsReadable}
use Rattle.pat_history_laws.proofs.Cuts.{Lacks, lacks_by, cut_at, cut_is, lacks_both, number_lacks}

-- ---- shared acts

-- the bytes are the act's word, and a reader takes the act
abbrev Spells : List ℕ → Option Act → Type 0
Spells bytes a = (bytes ≡ act_word a) × NamesNumber a × IsSharedOrNone a

-- the act of this word, or what the others read
one_word : (bytes w : List ℕ) (x : Option Act) (others : Option (Option Act)) (a : Option Act) → (bytes ≡ w → Spells bytes x) → (others ≡ Some a → Spells bytes a) → (if bytes_eq bytes w then Some x else others) ≡ Some a → Spells bytes a
one_word bytes w x others a here further h = by (bytes_eq bytes w) refl h
  where
    by : (b : Bool) → bytes_eq bytes w ≡ b → (if b then Some x else others) ≡ Some a → Spells bytes a
    by true t h = let same : x ≡ a = cc in subst (Spells bytes) same (here ((bytes_eq-Decides bytes w).0 t))
    by false t h = further h

receive_spelled : (bytes : List ℕ) (a : Option Act) → option_and_then read_message (behind (codes "receive ") bytes) ≡ Some a → Spells bytes a
receive_spelled bytes a h =
    let m = made_next read_message (behind (codes "receive ") bytes) a h in
    let n = made (λ k. Some (ActReceive k)) (read_number m.from) a m.is in
    let s = number_spelled m.from n.from n.there in
    subst (Spells bytes) n.is (behind_is [] (codes "receive ") bytes m.from m.there ∙ ap (λ w. codes "receive " ++ w) s.0, s.1, tt)

shared_spelled : (bytes : List ℕ) (a : Option Act) → read_shared bytes ≡ Some a → Spells bytes a
shared_spelled bytes a h =
    one_word bytes (codes "-") None _ a (λ e. (e, tt, tt))
    (one_word bytes (codes "new") (Some ActNew) _ a (λ e. (e, tt, tt))
    (one_word bytes (codes "send") (Some ActSend) _ a (λ e. (e, tt, tt))
    (one_word bytes (codes "spawn") (Some ActSpawn) _ a (λ e. (e, tt, tt))
    (one_word bytes (codes "print") (Some ActPrint) _ a (λ e. (e, tt, tt))
    (one_word bytes (codes "end") (Some ActEnd) _ a (λ e. (e, tt, tt))
    (one_word bytes (codes "free") (Some ActFree) _ a (λ e. (e, tt, tt)) (receive_spelled bytes a)))))))
    h

shared_read : (a : Option Act) → NamesNumber a → IsSharedOrNone a → read_shared (act_word a) ≡ Some a
shared_read None n s = refl
shared_read (Some ActLocal) n s = absurd s
shared_read (Some ActNew) n s = refl
shared_read (Some ActSend) n s = refl
shared_read (Some ActSpawn) n s = refl
shared_read (Some ActPrint) n s = refl
shared_read (Some ActEnd) n s = refl
shared_read (Some ActFree) n s = refl
shared_read (Some (ActReceive m)) n s = ap (option_map (λ k. Some (ActReceive k))) (number_read m n)

word_lacks : (a : Option Act) → NamesNumber a → IsSharedOrNone a → Lacks 10 (act_word a)
word_lacks None n s = lacks_by 10 (codes "-") refl
word_lacks (Some ActLocal) n s = absurd s
word_lacks (Some ActNew) n s = lacks_by 10 (codes "new") refl
word_lacks (Some ActSend) n s = lacks_by 10 (codes "send") refl
word_lacks (Some ActSpawn) n s = lacks_by 10 (codes "spawn") refl
word_lacks (Some ActPrint) n s = lacks_by 10 (codes "print") refl
word_lacks (Some ActEnd) n s = lacks_by 10 (codes "end") refl
word_lacks (Some ActFree) n s = lacks_by 10 (codes "free") refl
word_lacks (Some (ActReceive m)) n s = lacks_both 10 (codes "receive ") (decimal m) (lacks_by 10 (codes "receive ") refl) (number_lacks 10 m (omega arith) n)

-- ---- entries

pub entry_read : (e : Entry) → IsReadable e → read_entry (entry_words e) ≡ Some e
entry_read e g =
    let w = e.worker in
    let t = e.thread in
    let k = e.local_steps in
    let last = act_word e.shared in
    let middle = spaced (decimal k) last in
    let behind_w = spaced (decimal t) middle in
    ap (option_and_then read_worker) (cut_at 32 (decimal w) behind_w (number_lacks 32 w (omega arith) g.worker))
    ∙ ap (option_and_then (λ w. option_and_then (read_thread w) (cut 32 behind_w))) (number_read w g.worker)
    ∙ ap (option_and_then (read_thread w)) (cut_at 32 (decimal t) middle (number_lacks 32 t (omega arith) g.thread))
    ∙ ap (option_and_then (λ t. option_and_then (read_steps w t) (cut 32 middle))) (number_read t g.thread)
    ∙ ap (option_and_then (read_steps w t)) (cut_at 32 (decimal k) last (number_lacks 32 k (omega arith) g.local_steps))
    ∙ ap (option_and_then (λ k. option_map (entry_with w t k) (read_shared last))) (number_read k g.local_steps)
    ∙ ap (option_map (entry_with w t k)) (shared_read e.shared g.message g.shared)

pub entry_lacks : (e : Entry) → IsReadable e → Lacks 10 (entry_words e)
entry_lacks e g =
    let space : ◌≡◌ {A = ℕ} 32 10 → ⊥ = λ h. omega (arith, h) in
    let last = word_lacks e.shared g.message g.shared in
    let more = lacks_both 10 (decimal e.local_steps) (32 ∷ act_word e.shared) (number_lacks 10 e.local_steps (omega arith) g.local_steps) (space, last) in
    let others = lacks_both 10 (decimal e.thread) (32 ∷ spaced (decimal e.local_steps) (act_word e.shared)) (number_lacks 10 e.thread (omega arith) g.thread) (space, more) in
    lacks_both 10 (decimal e.worker) (32 ∷ spaced (decimal e.thread) (spaced (decimal e.local_steps) (act_word e.shared))) (number_lacks 10 e.worker (omega arith) g.worker) (space, others)

-- what stands before a space is a number's text
ahead : (bytes : List ℕ) (r : List ℕ × List ℕ) (n : ℕ) (more : List ℕ) → cut 32 bytes ≡ Some r → r.0 ≡ decimal n → r.1 ≡ more → bytes ≡ spaced (decimal n) more
ahead bytes r n more c own rest = cut_is 32 bytes r c ∙ ap (λ x. x ++ 32 ∷ r.1) own ∙ ap (λ x. decimal n ++ 32 ∷ x) rest

pub entry_spelled : (bytes : List ℕ) (e : Entry) → read_entry bytes ≡ Some e → (bytes ≡ entry_words e) × IsReadable e
entry_spelled bytes e h =
    let a = made_next read_worker (cut 32 bytes) e h in
    let w = made_next (λ w. option_and_then (read_thread w) (cut 32 a.from.1)) (read_number a.from.0) e a.is in
    let b = made_next (read_thread w.from) (cut 32 a.from.1) e w.is in
    let t = made_next (λ t. option_and_then (read_steps w.from t) (cut 32 b.from.1)) (read_number b.from.0) e b.is in
    let c = made_next (read_steps w.from t.from) (cut 32 b.from.1) e t.is in
    let k = made_next (λ k. option_map (entry_with w.from t.from k) (read_shared c.from.1)) (read_number c.from.0) e c.is in
    let s = made (entry_with w.from t.from k.from) (read_shared c.from.1) e k.is in
    let worker = number_spelled a.from.0 w.from w.there in
    let thread = number_spelled b.from.0 t.from t.there in
    let steps = number_spelled c.from.0 k.from k.there in
    let word = shared_spelled c.from.1 s.from s.there in
    subst (λ f. (bytes ≡ entry_words f) × IsReadable f) s.is (
      ahead bytes a.from w.from (spaced (decimal t.from) (spaced (decimal k.from) (act_word s.from))) a.there worker.0 (
          ahead a.from.1 b.from t.from (spaced (decimal k.from) (act_word s.from)) b.there thread.0 (ahead b.from.1 c.from k.from (act_word s.from) c.there steps.0 word.0)
          ),
      record {
        worker = worker.1;
        thread = thread.1;
        local_steps = steps.1;
        message = word.1;
        shared = word.2;
      },
    )

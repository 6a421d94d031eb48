-- Bytes have one history of one program, or one reason why they have none.
use Rattle.std.proofs.Common.{◌≡◌, ◌⊎◌, ◌+◌, ℕ, List, codes, length, Option, Some, None, sym, ap, ◌∙◌, subst, ⊎_elim}
use Rattle.pat_semantics_spec.specs.Programs.{Program}
use Rattle.pat_semantics_spec.specs.Configs.{Config, start}
use Rattle.pat_semantics_spec.specs.Runs.{Entry, replay_from}
use Rattle.pat_machine_spec.specs.Refusals.{IsRefusedAt}
use Rattle.pat_machine_laws.specs.commits.Laws.{NoReplayIsRefused, OneEntryIsRefused}
use Rattle.pat_history_spec.specs.HistoryText.{marker}
use Rattle.pat_history_spec.specs.Reading.{ReadsAs, Unread}
use Rattle.pat_history_laws.specs.Laws.{ReadingIsOne, UnreadIsOne, UnreadIsNotRead}
use Rattle.pat_input_split.specs.Marked.{IsMarked, IsUnmarked}
use Rattle.pat_input_split.specs.Splits.{OneSplit}
use Rattle.pat_front.specs.declared.verdict.Verdict.{Verdict}
use Rattle.pat_front.specs.declared.verdict.Verdict.TheVariants as verdict
use Rattle.pat_input_split.specs.program_with_text.MarkedPrograms.{IsMarkedRefusal}
use Rattle.pat_input_split.specs.program_with_text.OneProgram.{OneProgram}
use Rattle.pat_replay_input.specs.Histories.{IsHistoryPart, HasReplay, HasBadLine, HasBadEntry, Unreplayed, RefusesText}
use Rattle.pat_replay_input.specs.OneReplay.{OneText, OneReplay}

abbrev output_mark : List ℕ
output_mark = codes "%%output"

-- a text has one part that is a history's
one_part : (text : List ℕ) → OneSplit output_mark text → (a b : List ℕ) → IsHistoryPart text a → IsHistoryPart text b → a ≡ b
one_part text split a b h k =
    ⊎_elim
    (λ (m : (rest : List ℕ) × IsMarked output_mark text a rest).
    ⊎_elim
    (λ (n : (rest : List ℕ) × IsMarked output_mark text b rest). (split.same a b m.0 n.0 m.1 n.1).0)
    (λ (u : IsUnmarked output_mark text × (b ≡ text)). absurd (split.not_both a m.0 m.1 u.0))
    k)
    (λ (u : IsUnmarked output_mark text × (a ≡ text)).
    ⊎_elim
    (λ (n : (rest : List ℕ) × IsMarked output_mark text b rest). absurd (split.not_both b n.0 n.1 u.0))
    (λ (w : IsUnmarked output_mark text × (b ≡ text)). u.1 ∙ sym w.1)
    k)
    h

same_config : (c d : Config) → ◌≡◌ {A = Option Config} (Some c) (Some d) → c ≡ d
same_config c d e = cc

module _ (refused_law : NoReplayIsRefused) (once_law : OneEntryIsRefused) (one_reading : ReadingIsOne) (one_unread : UnreadIsOne) (not_read : UnreadIsNotRead) (p : Program) (origin : Config) (text : List ℕ) (split : OneSplit output_mark text) where
  module _ (a b : List ℕ) (own : IsHistoryPart text a) (other : IsHistoryPart text b) where
    same_entries : (es fs : List Entry) → ReadsAs a es → ReadsAs b fs → es ≡ fs
    same_entries es fs h k = one_reading a es fs h (subst (λ x. ReadsAs x fs) (one_part text split b a other own) k)

    clash : (at : ℕ) (es : List Entry) → Unread a at → ReadsAs b es → ⊥
    clash at es u k = not_read a at es u (subst (λ x. ReadsAs x es) (one_part text split b a other own) k)

    same_place : (m n : ℕ) → Unread a m → Unread b n → m ≡ n
    same_place m n u w = one_unread a m n u (subst (λ x. Unread x n) (one_part text split b a other own) w)

  same_replay : (es fs : List Entry) (c d : Config) → HasReplay p origin text es c → HasReplay p origin text fs d → (es ≡ fs) × (c ≡ d)
  same_replay es fs c d h k =
      let same = same_entries h.part k.part h.own k.own es fs h.read k.read in
      let led : Some c ≡ Some d = sym h.replayed ∙ ap (replay_from p origin) same ∙ k.replayed in
      (same, same_config c d led)

  not_replayed : (from : ℕ) (es : List Entry) (c : Config) (v : Verdict) → HasReplay p origin text es c → Unreplayed p origin from text v → ⊥
  not_replayed from es c (verdict.BadText o) h u = clash u.part h.part u.own h.own u.offset es u.unread h.read
  not_replayed from es c (verdict.RefusedAt i) h u =
      let same = same_entries h.part u.part h.own u.own es u.entries h.read u.read in
      let led : Some c ≡ None = sym h.replayed ∙ ap (replay_from p origin) same ∙ (refused_law p origin u.entries).1 (i, u.refused) in
      cc
  not_replayed from es c verdict.TooLong h u = absurd u
  not_replayed from es c (verdict.Syntax o) h u = absurd u
  not_replayed from es c (verdict.NumberTooWide o) h u = absurd u
  not_replayed from es c (verdict.TooDeep o) h u = absurd u
  not_replayed from es c (verdict.Resolve k s) h u = absurd u
  not_replayed from es c (verdict.Rejected n r) h u = absurd u
  not_replayed from es c verdict.TooManyEntries h u = absurd u
  not_replayed from es c (verdict.Unshown line) h u = absurd u
  not_replayed from es c (verdict.BadCheckpoint rule) h u = absurd u
  not_replayed from es c (verdict.Unaccepted reason) h u = absurd u

  -- what isn't replayed has a bad line, or a bad entry
  data Why (from : ℕ) : Verdict → Type 0 where
    bad_line : {o : ℕ} → HasBadLine from text o → Why from (verdict.BadText o)
    bad_entry : {i : ℕ} → HasBadEntry p origin text i → Why from (verdict.RefusedAt i)

  why : (from : ℕ) (v : Verdict) → Unreplayed p origin from text v → Why from v
  why from (verdict.BadText o) u = bad_line u
  why from (verdict.RefusedAt i) u = bad_entry u
  why from verdict.TooLong u = absurd u
  why from (verdict.Syntax o) u = absurd u
  why from (verdict.NumberTooWide o) u = absurd u
  why from (verdict.TooDeep o) u = absurd u
  why from (verdict.Resolve k s) u = absurd u
  why from (verdict.Rejected n r) u = absurd u
  why from verdict.TooManyEntries u = absurd u
  why from (verdict.Unshown line) u = absurd u
  why from (verdict.BadCheckpoint rule) u = absurd u
  why from (verdict.Unaccepted reason) u = absurd u

  one_why : (from : ℕ) (v w : Verdict) → Why from v → Why from w → v ≡ w
  one_why from v w (bad_line {o = m} a) (bad_line {o = n} b) =
      let places = same_place a.part b.part a.own b.own a.offset b.offset a.unread b.unread in
      ap verdict.BadText (a.is ∙ ap (λ k. from + k) places ∙ sym b.is)
  one_why from v w (bad_line a) (bad_entry b) = absurd (clash a.part b.part a.own b.own a.offset b.entries a.unread b.read)
  one_why from v w (bad_entry a) (bad_line b) = absurd (clash b.part a.part b.own a.own b.offset a.entries b.unread a.read)
  one_why from v w (bad_entry {i = i} a) (bad_entry {i = j} b) =
      let es = same_entries b.part a.part b.own a.own b.entries a.entries b.read a.read in
      ap verdict.RefusedAt (once_law p origin a.entries i j a.refused (subst (λ xs. IsRefusedAt p origin xs j) es b.refused))

  pub one_text : OneText p origin text
  one_text = record {
    same = same_replay;
    not_both = not_replayed;
    one_refusal = λ from v w a b. one_why from v w (why from v a) (why from w b);
  }

module _ (texts : (p : Program) (b : Config) (text : List ℕ) → OneText p b text) (bytes : List ℕ) (program : OneProgram marker bytes) where
  moved_replay : (f g t u : List ℕ) (p q : Program) (es : List Entry) (c : Config) → (f ≡ g) × (t ≡ u) × (p ≡ q) → HasReplay p (start p) t es c → HasReplay q (start q) u es c
  moved_replay f g t u p q es c same h = subst (λ r. HasReplay r (start r) u es c) same.2 (subst (λ s. HasReplay p (start p) s es c) same.1 h)

  moved : (f g t u : List ℕ) (p q : Program) (v : Verdict) → (f ≡ g) × (t ≡ u) × (p ≡ q) → Unreplayed p (start p) (length f) t v → Unreplayed q (start q) (length g) u v
  moved f g t u p q v same h =
      subst (λ r. Unreplayed r (start r) (length g) u v) same.2
      (subst (λ s. Unreplayed p (start p) (length g) s v) same.1
      (subst (λ k. Unreplayed p (start p) (length k) t v) same.0 h))

  both_texts : (v w : Verdict) → RefusesText bytes v → RefusesText bytes w → v ≡ w
  both_texts v w a b =
      let same = program.same b.front a.front b.text a.text b.program a.program b.has a.has in
      (texts a.program (start a.program) a.text).one_refusal (length a.front) v w a.unreplayed
      (moved b.front a.front b.text a.text b.program a.program w same b.unreplayed)

  pub one_replay : OneReplay bytes
  one_replay = record {
    same = λ p q es fs c d a b.
        let parts = program.same b.front a.front b.text a.text q p b.has a.has in
        let both = (texts p (start p) a.text).same es fs c d a.leads (moved_replay b.front a.front b.text a.text q p fs d parts b.leads) in
        (sym parts.2, both.0, both.1);
    not_both = λ p es c v a r.
        ⊎_elim
        (λ (m : IsMarkedRefusal marker bytes v). program.not_both a.front a.text p v a.has m)
        (λ (t : RefusesText bytes v).
        let parts = program.same t.front a.front t.text a.text t.program p t.has a.has in
        (texts p (start p) a.text).not_both (length a.front) es c v a.leads (moved t.front a.front t.text a.text t.program p v parts t.unreplayed))
        r;
    one_refusal = λ v w x y.
        ⊎_elim
        (λ (m : IsMarkedRefusal marker bytes v).
        ⊎_elim (λ (n : IsMarkedRefusal marker bytes w). program.one_refusal v w m n) (λ (t : RefusesText bytes w). absurd (program.not_both t.front t.text t.program v t.has m)) y)
        (λ (t : RefusesText bytes v).
        ⊎_elim (λ (n : IsMarkedRefusal marker bytes w). absurd (program.not_both t.front t.text t.program w t.has n)) (λ (u : RefusesText bytes w). both_texts v w t u) y)
        x;
  }

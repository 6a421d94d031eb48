-- A reader goes one way along a text.
use Rattle.std.proofs.Common.{◌≡◌, ℕ, zero, suc, ◌+◌, ◌-◌, ◌<◌, ◌≤◌, List, [], ◌∷◌, ◌++◌, length, refl, sym, ap, ◌∙◌, subst, arith, ◌⊎◌, inl, inr, Bool, true, false, append-nil}
use Rattle.std.specs.Prelude.{Option, Some, None, bytes_eq}
use Rattle.std.proofs.lemmas.List.{length-append}
use Rattle.std.proofs.lemmas.Slice.Eq.{bytes_eq-Decides}
use Rattle.pat_semantics_spec.specs.Runs.{Entry}
use Rattle.pat_texts_spec.specs.Joined.{cut}
use Rattle.pat_history_spec.specs.HistoryText.{marker, history_text}
use Rattle.pat_history_spec.specs.EntryReading.{read_entry}
use Rattle.pat_history_spec.specs.Reading.{ReadsLines, ReadsTo, ReadsAs, NoMarker, NoEntry, StopsAt, Unread}
use Rattle.pat_history_laws.specs.Readable.{AreReadable}
use Rattle.pat_history_laws.proofs.Cuts.{cut_shorter}
use Rattle.pat_history_laws.proofs.Lines.{text_reads}

-- nothing more is read
abbrev Stuck : List ℕ → Type 0
Stuck rest = NoEntry (cut 10 rest)

-- what is read up to where nothing more is, goes on from what is read up to anywhere
record GoesOn (es fs : List Entry) (from to : List ℕ) : Type 0 where
  more : List Entry
  is : es ≡ fs ++ more
  read : ReadsLines from more to

stuck_here : (bytes : List ℕ) (r : List ℕ × List ℕ) (e : Entry) → Stuck bytes → cut 10 bytes ≡ Some r → read_entry r.0 ≡ Some e → ⊥
stuck_here bytes r e stuck there read = let none : read_entry r.0 ≡ None = subst NoEntry there stuck in let both : None ≡ Some e = sym none ∙ read in cc

goes_on : (bytes : List ℕ) (es fs : List Entry) (r s : List ℕ) → ReadsLines bytes es r → Stuck r → ReadsLines bytes fs s → GoesOn es fs s r
goes_on bytes es [] r s a stuck b = record { more = es; is = refl; read = subst (λ x. ReadsLines x es r) b a }
goes_on bytes [] (f ∷ fs) r s a stuck (x, there, read, others) = absurd (stuck_here bytes x f (subst Stuck (sym a) stuck) there read)
goes_on bytes (e ∷ es) (f ∷ fs) r s (y, there, read, others) stuck (x, there', read', others') =
    let both : Some y ≡ Some x = sym there ∙ there' in
    let same : y ≡ x = cc in
    let entries : Some e ≡ Some f = sym read ∙ ap (λ z. read_entry z.0) same ∙ read' in
    let own : e ≡ f = cc in
    let g = goes_on x.1 es fs r s (subst (λ z. ReadsLines z.1 es r) same others) stuck others' in
    record {
      more = g.more;
      is = ap (λ z. z ∷ es) own ∙ ap (λ z. f ∷ z) g.is;
      read = g.read;
    }

-- what is left gets no longer
shrinks : (bytes : List ℕ) (es : List Entry) (rest : List ℕ) → ReadsLines bytes es rest → length rest ≤ length bytes
shrinks bytes [] rest h = omega (arith, ap length h)
shrinks bytes (e ∷ es) rest (r, there, read, more) = omega (arith, cut_shorter 10 bytes r there, shrinks r.1 es rest more)

-- nothing is read where nothing more can be
no_more : (bytes : List ℕ) (es : List Entry) (rest : List ℕ) → Stuck bytes → ReadsLines bytes es rest → (es ≡ []) × (bytes ≡ rest)
no_more bytes [] rest stuck h = (refl, h)
no_more bytes (e ∷ es) rest stuck (r, there, read, more) = absurd (stuck_here bytes r e stuck there read)

same_body : (text : List ℕ) (es fs : List Entry) (r s : List ℕ) (a : ReadsTo text es r) (b : ReadsTo text fs s) → a.body ≡ b.body
same_body text es fs r s a b = let own : (List ℕ × List ℕ) = (marker, a.body) in let other : (List ℕ × List ℕ) = (marker, b.body) in let both : Some own ≡ Some other = sym a.first ∙ b.first in let same : own ≡ other = cc in ap (λ z. z.1) same

on : (text : List ℕ) (es fs : List Entry) (r s : List ℕ) → ReadsTo text es r → Stuck r → ReadsTo text fs s → GoesOn es fs s r
on text es fs r s a stuck b = goes_on b.body es fs r s (subst (λ z. ReadsLines z es r) (same_body text es fs r s a b) a.lines) stuck b.lines

pub reading_is_one : (text : List ℕ) (es fs : List Entry) → ReadsAs text es → ReadsAs text fs → es ≡ fs
reading_is_one text es fs a b =
    let g = on text es fs [] [] a tt b in
    let none = no_more [] g.more [] tt g.read in
    g.is ∙ ap (λ z. fs ++ z) none.0 ∙ append-nil fs

-- a text that is read at all begins with a first line
marked : (text : List ℕ) (es : List Entry) (rest : List ℕ) → ReadsTo text es rest → NoMarker (cut 10 text) → ⊥
marked text es rest r none = subst NoMarker r.first none refl

stops_once : (text : List ℕ) (at other : ℕ) → StopsAt text at → StopsAt text other → at ≡ other
stops_once text at other a b =
    let g = on text a.entries b.entries a.rest b.rest a.read a.unread b.read in
    let none = no_more b.rest g.more a.rest b.unread g.read in
    omega (arith, ap length none.1, a.at, b.at)

pub unread_is_one : (text : List ℕ) (at other : ℕ) → Unread text at → Unread text other → at ≡ other
unread_is_one text at other (inl a) (inl b) = a.1 ∙ sym b.1
unread_is_one text at other (inl a) (inr b) = absurd (marked text b.entries b.rest b.read a.0)
unread_is_one text at other (inr a) (inl b) = absurd (marked text a.entries a.rest a.read b.0)
unread_is_one text at other (inr a) (inr b) = stops_once text at other a b

pub unread_is_not_read : (text : List ℕ) (offset : ℕ) (es : List Entry) → Unread text offset → ReadsAs text es → ⊥
unread_is_not_read text offset es (inl a) r = marked text es [] r a.0
unread_is_not_read text offset es (inr a) r =
    let g = on text a.entries es a.rest [] a.read a.unread r in
    let none = no_more [] g.more a.rest tt g.read in
    omega (arith, a.some, ap length none.1)

pub unread_is_first : (text : List ℕ) (offset : ℕ) → Unread text offset → (es : List Entry) (rest : List ℕ) → AreReadable es → text ≡ history_text es ++ rest → length (history_text es) ≤ offset
unread_is_first text offset u es rest g same = by u (subst (λ t. ReadsTo t es rest) (sym same) (text_reads es rest g))
  where
    by : Unread text offset → ReadsTo text es rest → length (history_text es) ≤ offset
    by (inl a) r = absurd (marked text es rest r a.0)
    by (inr a) r =
        let more = on text a.entries es a.rest rest a.read a.unread r in
        let less = shrinks rest more.more a.rest more.read in
        let whole : length text ≡ length (history_text es) + length rest = ap length same ∙ length-append (history_text es) rest in
        omega (arith, less, whole, a.at)

-- ---- each text is read up to its end, or up to a line that isn't read

record Reaches (bytes : List ℕ) : Type 0 where
  entries : List Entry
  rest : List ℕ
  lines : ReadsLines bytes entries rest
  stuck : Stuck rest

reaches_line : (bytes : List ℕ) (r : List ℕ × List ℕ) → cut 10 bytes ≡ Some r → Reaches r.1 → (o : Option Entry) → read_entry r.0 ≡ o → Reaches bytes
reaches_line bytes r there more None read = record { entries = []; rest = bytes; lines = refl; stuck = subst NoEntry (sym there) read }
reaches_line bytes r there more (Some e) read = record { entries = e ∷ more.entries; rest = more.rest; lines = (r, there, read, more.lines); stuck = more.stuck }

reaches_from : (bytes : List ℕ) → ((r : List ℕ × List ℕ) → cut 10 bytes ≡ Some r → Reaches r.1) → (o : Option (List ℕ × List ℕ)) → cut 10 bytes ≡ o → Reaches bytes
reaches_from bytes next None there = record { entries = []; rest = bytes; lines = refl; stuck = subst NoEntry (sym there) tt }
reaches_from bytes next (Some r) there = reaches_line bytes r there (next r there) (read_entry r.0) refl

reaches : (n : ℕ) (bytes : List ℕ) → length bytes < n → Reaches bytes
reaches zero bytes l = absurd (omega (arith, l))
reaches (suc n) bytes l = reaches_from bytes (λ r there. reaches n r.1 (omega (arith, l, cut_shorter 10 bytes r there))) (cut 10 bytes) refl

abbrev Either : List ℕ → Type 0
Either text = ((es : List Entry) × ReadsAs text es) ⊎ ((offset : ℕ) × Unread text offset)

ends : (text : List ℕ) (body : List ℕ) → cut 10 text ≡ Some (marker, body) → (es : List Entry) (rest : List ℕ) → ReadsLines body es rest → Stuck rest → Either text
ends text body there es [] lines stuck = inl (es, record { body = body; first = there; lines = lines })
ends text body there es (b ∷ rest) lines stuck =
    let less = shrinks body es (b ∷ rest) lines in
    let shorter = cut_shorter 10 text (marker, body) there in
    inr (
      length text - length (b ∷ rest),
      inr (record {
        entries = es;
        rest = b ∷ rest;
        read = record { body = body; first = there; lines = lines };
        some = omega arith;
        at = omega (arith, less, shorter);
        unread = stuck;
      }),
    )

pub read_or_unread : (text : List ℕ) → Either text
read_or_unread text = at (cut 10 text) refl
  where
    first : (r : List ℕ × List ℕ) → cut 10 text ≡ Some r → (b : Bool) → bytes_eq r.0 marker ≡ b → Either text
    first r there true same =
        let m = reaches (suc (length r.1)) r.1 (omega arith) in
        let is = (bytes_eq-Decides r.0 marker).0 same in
        ends text r.1 (there ∙ ap (λ x. Some (x, r.1)) is) m.entries m.rest m.lines m.stuck
    first r there false other =
        let no : r.0 ≡ marker → ⊥ = λ is. (let yes : bytes_eq r.0 marker ≡ true = (bytes_eq-Decides r.0 marker).1 is in let both : true ≡ false = sym yes ∙ other in cc) in
        inr (0, inl (subst NoMarker (sym there) no, refl))

    at : (o : Option (List ℕ × List ℕ)) → cut 10 text ≡ o → Either text
    at None there = inr (0, inl (subst NoMarker (sym there) tt, refl))
    at (Some r) there = first r there (bytes_eq r.0 marker) refl

-- A reader goes one way along a text, up to its end or up to a line that isn't read.
use Rattle.std.proofs.Common.{◌≡◌, ℕ, zero, suc, ◌+◌, ◌-◌, ◌<◌, ◌≤◌, ◌⊎◌, inl, inr, Bool, true, false, List, [], ◌∷◌, length, refl, sym, ap, ◌∙◌, subst, arith}
use Rattle.std.specs.Prelude.{Option, Some, None, option_map, option_and_then, bytes_eq}
use Rattle.std.proofs.lemmas.List.{length-append}
use Rattle.std.proofs.lemmas.Slice.Eq.{bytes_eq-Decides}
use Rattle.pat_semantics_spec.specs.Programs.{Program}
use Rattle.pat_texts_spec.specs.Joined.{cut}
use Rattle.pat_texts_spec.proofs.Ways.{cut_shorter, with_rest, on_line, step, after, least_left, same_end}
use Rattle.pat_checkpoint_spec.specs.text.Lines.{Lines}
use Rattle.pat_checkpoint_spec.specs.text.CheckpointText.{marker, lines_text}
use Rattle.pat_checkpoint_spec.specs.text.LineReading.{read_next, with_line}
use Rattle.pat_checkpoint_spec.specs.text.Reading.{ReadsTo, first, another, NoMarker, NoNext, NoLine, Unread, no_marker, no_next, no_line}
use Rattle.pat_checkpoint_laws.proofs.TextSpelled.{reads_text}

-- what the second line reads as
abbrev on_next : List ℕ × List ℕ → Option (Lines × List ℕ)
on_next r = option_map (with_rest r.1) (read_next r.0)

abbrev behind_first : List ℕ × List ℕ → Option (Lines × List ℕ)
behind_first r = option_and_then on_next (cut 10 r.1)

-- where the first two lines are behind
abbrev begun : List ℕ → Option (Lines × List ℕ)
begun text = option_and_then behind_first (cut 10 text)

record Stands (p : Program) (text : List ℕ) (x : Lines) (rest : List ℕ) : Type 0 where
  at : ℕ
  is : after (with_line p) (begun text) at ≡ Some (x, rest)

stands : (p : Program) (text : List ℕ) (x : Lines) (rest : List ℕ) → ReadsTo p text x rest → Stands p text x rest
stands p text _ _ (first {body = body} {line = own} {rest = rest} {x = x} c d e) = record { at = zero; is = ap (option_and_then behind_first) c ∙ ap (option_and_then on_next) d ∙ ap (option_map (with_rest rest)) e }
stands p text _ _ (another {x = x} {y = y} {rest = rest} {line = own} {more = more} r c h) =
    let s = stands p text x rest r in
    record {
      at = suc s.at;
      is = ap (option_and_then (step (with_line p))) s.is ∙ ap (option_and_then (on_line (with_line p) x)) c ∙ ap (option_map (with_rest more)) h;
    }

-- two places where nothing more is read are one
one_end : (p : Program) (text : List ℕ) (x y : Lines) (r s : List ℕ) → ReadsTo p text x r → ReadsTo p text y s → step (with_line p) (x, r) ≡ None → step (with_line p) (y, s) ≡ None → with_rest r x ≡ with_rest s y
one_end p text x y r s a b no_more no_other = by (stands p text x r a) (stands p text y s b)
  where
    by : Stands p text x r → Stands p text y s → with_rest r x ≡ with_rest s y
    by j k = same_end (with_line p) (begun text) j.at k.at (x, r) (y, s) j.is no_more k.is no_other

-- a text is read as the same lines at most
pub reads_one : (p : Program) (text : List ℕ) (x y : Lines) → ReadsTo p text x [] → ReadsTo p text y [] → x ≡ y
reads_one p text x y a b = ap (λ z. z.0) (one_end p text x y [] [] a b refl refl)

no_step : (p : Program) (x : Lines) (o : Option (List ℕ × List ℕ)) → NoLine p x o → option_and_then (on_line (with_line p) x) o ≡ None
no_step p x None h = refl
no_step p x (Some r) h = ap (option_map (with_rest r.1)) h

-- a text that is read at all begins with a first line and the next numbers
record Began (text : List ℕ) : Type 0 where
  body : List ℕ
  line : List ℕ
  rest : List ℕ
  lines : Lines
  marked : cut 10 text ≡ Some (marker, body)
  cut_next : cut 10 body ≡ Some (line, rest)
  next : read_next line ≡ Some lines

began : (p : Program) (text : List ℕ) (x : Lines) (rest : List ℕ) → ReadsTo p text x rest → Began text
began p text _ _ (first {body = body} {line = own} {rest = rest} {x = x} c d e) = record { body = body; line = own; rest = rest; lines = x; marked = c; cut_next = d; next = e }
began p text _ _ (another {x = x} {rest = rest} r c h) = began p text x rest r

not_marked : (text : List ℕ) → NoMarker (cut 10 text) → (body : List ℕ) → cut 10 text ≡ Some (marker, body) → ⊥
not_marked text none body c = subst NoMarker c none refl

same_body : (text body other : List ℕ) → cut 10 text ≡ Some (marker, body) → cut 10 text ≡ Some (marker, other) → body ≡ other
same_body text body other a b =
    let own : List ℕ × List ℕ = (marker, body) in
    let next : List ℕ × List ℕ = (marker, other) in
    let both : Some own ≡ Some next = sym a ∙ b in
    let same : own ≡ next = cc in
    ap (λ z. z.1) same

not_begun : (text body : List ℕ) → cut 10 text ≡ Some (marker, body) → NoNext (cut 10 body) → Began text → ⊥
not_begun text body c none b =
    let same = same_body text body b.body c b.marked in
    let here : NoNext (Some (b.line, b.rest)) = subst NoNext (ap (cut 10) same ∙ b.cut_next) none in
    let both : None ≡ Some b.lines = sym here ∙ b.next in
    absurd cc

-- ---- the first line that isn't read

pub unread_is_one : (p : Program) (text : List ℕ) (at other : ℕ) → Unread p text at → Unread p text other → at ≡ other
unread_is_one p text _ _ (no_marker h) (no_marker k) = refl
unread_is_one p text _ _ (no_marker h) (no_next {body = body} c k none) = absurd (not_marked text h body c)
unread_is_one p text _ _ (no_marker h) (no_line {x = x} {b = b} {rest = rest} r k none) = let g = began p text x (b ∷ rest) r in absurd (not_marked text h g.body g.marked)
unread_is_one p text _ _ (no_next {body = body} c k none) (no_marker h) = absurd (not_marked text h body c)
unread_is_one p text _ _ (no_next {body = body} {offset = at} c k none) (no_next {body = next} {offset = other} d l others) = omega (arith, ap length (same_body text body next c d), k, l)
unread_is_one p text _ _ (no_next {body = body} c k none) (no_line {x = x} {b = b} {rest = rest} r l others) = absurd (not_begun text body c none (began p text x (b ∷ rest) r))
unread_is_one p text _ _ (no_line {x = x} {b = b} {rest = rest} r k none) (no_marker h) = let g = began p text x (b ∷ rest) r in absurd (not_marked text h g.body g.marked)
unread_is_one p text _ _ (no_line {x = x} {b = b} {rest = rest} r k none) (no_next {body = body} c l others) = absurd (not_begun text body c others (began p text x (b ∷ rest) r))
unread_is_one p text _ _ (no_line {x = x} {b = b} {rest = rest} {offset = at} r k none) (no_line {x = y} {b = c} {rest = left} {offset = other} s l others) =
    let same = one_end p text x y (b ∷ rest) (c ∷ left) r s (no_step p x (cut 10 (b ∷ rest)) none) (no_step p y (cut 10 (c ∷ left)) others) in
    omega (arith, ap (λ z. length z.1) same, k, l)

pub unread_is_not_read : (p : Program) (text : List ℕ) (offset : ℕ) (y : Lines) → Unread p text offset → ReadsTo p text y [] → ⊥
unread_is_not_read p text _ y (no_marker h) s = let g = began p text y [] s in not_marked text h g.body g.marked
unread_is_not_read p text _ y (no_next {body = body} c k none) s = not_begun text body c none (began p text y [] s)
unread_is_not_read p text _ y (no_line {x = x} {b = b} {rest = rest} r k none) s =
    let same = one_end p text x y (b ∷ rest) [] r s (no_step p x (cut 10 (b ∷ rest)) none) refl in
    omega (arith, ap (λ z. length z.1) same)

-- what is read of a text ends where the first line that isn't read begins, or before it
pub reads_before : (p : Program) (text : List ℕ) (offset : ℕ) → Unread p text offset → (y : Lines) (rest : List ℕ) → ReadsTo p text y rest → length (lines_text p y) ≤ offset
reads_before p text _ (no_marker h) y rest s = let g = began p text y rest s in absurd (not_marked text h g.body g.marked)
reads_before p text _ (no_next {body = body} c k none) y rest s = absurd (not_begun text body c none (began p text y rest s))
reads_before p text _ (no_line {x = x} {b = b} {rest = left} {offset = offset} r at none) y rest s = by (stands p text x (b ∷ left) r) (stands p text y rest s)
  where
    by : Stands p text x (b ∷ left) → Stands p text y rest → length (lines_text p y) ≤ offset
    by j k =
        let less = least_left (with_line p) (begun text) j.at k.at (x, b ∷ left) (y, rest) j.is (no_step p x (cut 10 (b ∷ left)) none) k.is in
        let whole : length text ≡ length (lines_text p y) + length rest = ap length (reads_text p text y rest s).0 ∙ length-append (lines_text p y) rest in
        omega (arith, less, whole, at)

-- ---- each text is read up to its end, or up to a line that isn't read

abbrev pub Either : Program → List ℕ → Type 0
Either p text = ((x : Lines) × ReadsTo p text x []) ⊎ ((offset : ℕ) × Unread p text offset)

module _ (p : Program) (text : List ℕ) where
  ends : (x : Lines) (rest : List ℕ) → ReadsTo p text x rest → NoLine p x (cut 10 rest) → Either p text
  ends x [] r none = inl (x, r)
  ends x (b ∷ rest) r none =
      let whole : length text ≡ length (lines_text p x) + length (b ∷ rest) = ap length (reads_text p text x (b ∷ rest) r).0 ∙ length-append (lines_text p x) (b ∷ rest) in
      inr (length text - length (b ∷ rest), no_line r (omega (arith, whole)) none)

  goes_on : (n : ℕ) (x : Lines) (rest : List ℕ) → length rest < n → ReadsTo p text x rest → Either p text
  goes_on zero x rest l r = absurd (omega (arith, l))
  goes_on (suc n) x rest l r = at (λ y more few s. goes_on n y more few s) (cut 10 rest) refl
    where
      at_line : ((y : Lines) (more : List ℕ) → length more < n → ReadsTo p text y more → Either p text) → (own more : List ℕ) → cut 10 rest ≡ Some (own, more) → (o : Option Lines) → with_line p x own ≡ o → Either p text
      at_line further own more c None e = ends x rest r (subst (NoLine p x) (sym c) e)
      at_line further own more c (Some y) e = further y more (omega (arith, l, cut_shorter 10 rest (own, more) c)) (another r c e)

      at : ((y : Lines) (more : List ℕ) → length more < n → ReadsTo p text y more → Either p text) → (o : Option (List ℕ × List ℕ)) → cut 10 rest ≡ o → Either p text
      at further None c = ends x rest r (subst (NoLine p x) (sym c) tt)
      at further (Some s) c = at_line further s.0 s.1 c (with_line p x s.0) refl

  no_next_at : (body : List ℕ) → cut 10 text ≡ Some (marker, body) → NoNext (cut 10 body) → Either p text
  no_next_at body c none =
      let less = cut_shorter 10 text (marker, body) c in
      inr (length text - length body, no_next c (omega (arith, less)) none)

  at_next : (body : List ℕ) → cut 10 text ≡ Some (marker, body) → Either p text
  at_next body c = at (cut 10 body) refl
    where
      read : (own rest : List ℕ) → cut 10 body ≡ Some (own, rest) → (o : Option Lines) → read_next own ≡ o → Either p text
      read own rest d None e = no_next_at body c (subst NoNext (sym d) e)
      read own rest d (Some x) e = goes_on (suc (length rest)) x rest (omega arith) (first c d e)

      at : (o : Option (List ℕ × List ℕ)) → cut 10 body ≡ o → Either p text
      at None d = no_next_at body c (subst NoNext (sym d) tt)
      at (Some s) d = read s.0 s.1 d (read_next s.0) refl

  pub read_or_unread : Either p text
  read_or_unread = at (cut 10 text) refl
    where
      marked : (s : List ℕ × List ℕ) → cut 10 text ≡ Some s → (t : Bool) → bytes_eq s.0 marker ≡ t → Either p text
      marked s c true same = at_next s.1 (c ∙ ap (λ w. Some (w, s.1)) ((bytes_eq-Decides s.0 marker).0 same))
      marked s c false other =
          let no : s.0 ≡ marker → ⊥ = λ is. (let yes : bytes_eq s.0 marker ≡ true = (bytes_eq-Decides s.0 marker).1 is in let both : true ≡ false = sym yes ∙ other in cc) in
          inr (0, no_marker (subst NoMarker (sym c) no))

      at : (o : Option (List ℕ × List ℕ)) → cut 10 text ≡ o → Either p text
      at None c = inr (0, no_marker (subst NoMarker (sym c) tt))
      at (Some s) c = marked s c (bytes_eq s.0 marker) refl

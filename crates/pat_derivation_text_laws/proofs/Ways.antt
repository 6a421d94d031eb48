-- A reader goes one way along a text.
use Rattle.std.proofs.Common.{◌≡◌, ℕ, zero, suc, ◌+◌, ◌≤◌, List, [], ◌∷◌, length, refl, ap, ◌∙◌, subst, arith}
use Rattle.std.specs.Prelude.{Option, Some, None, option_map, option_and_then}
use Rattle.std.proofs.lemmas.List.{length-append}
use Rattle.pat_semantics_spec.specs.Programs.{Program}
use Rattle.pat_derivation_spec.specs.Derivations.{Derivation}
use Rattle.pat_texts_spec.specs.Joined.{cut}
use Rattle.pat_texts_spec.proofs.Ways.{with_rest, on_line, step, after, least_left, same_end}
use Rattle.pat_derivation_text_spec.specs.DerivationText.{derivation_text}
use Rattle.pat_derivation_text_spec.specs.LineReading.{with_line}
use Rattle.pat_derivation_text_spec.specs.Reading.{ReadsTo, ReadsAs, first, another, no_lines, NoLine, NoMarker, Unread, no_marker, no_line}
use Rattle.pat_derivation_text_laws.proofs.DerivationSpelled.{reads_text}

-- where the first line is behind
abbrev behind_first : List ℕ × List ℕ → Derivation × List ℕ
behind_first r = (no_lines, r.1)

abbrev begun : List ℕ → Option (Derivation × List ℕ)
begun text = option_map behind_first (cut 10 text)

record Stands (p : Program) (text : List ℕ) (d : Derivation) (rest : List ℕ) : Type 0 where
  at : ℕ
  is : after (with_line p) (begun text) at ≡ Some (d, rest)

stands : (p : Program) (text : List ℕ) (d : Derivation) (rest : List ℕ) → ReadsTo p text d rest → Stands p text d rest
stands p text _ _ (first c) = record { at = zero; is = ap (option_map behind_first) c }
stands p text _ _ (another {d = d} {e = e} {rest = rest} {line = line} {more = more} r c h) =
    let s = stands p text d rest r in
    record {
      at = suc s.at;
      is = ap (option_and_then (step (with_line p))) s.is ∙ ap (option_and_then (on_line (with_line p) d)) c ∙ ap (option_map (with_rest more)) h;
    }

-- a text is read as one derivation at most
pub reads_one : (p : Program) (text : List ℕ) (d e : Derivation) → ReadsAs p text d → ReadsAs p text e → d ≡ e
reads_one p text d e a b = by (stands p text d [] a) (stands p text e [] b)
  where
    by : Stands p text d [] → Stands p text e [] → d ≡ e
    by x y = ap (λ z. z.0) (same_end (with_line p) (begun text) x.at y.at (d, []) (e, []) x.is refl y.is refl)

no_step : (p : Program) (d : Derivation) (rest : List ℕ) (o : Option (List ℕ × List ℕ)) → NoLine p d rest o → option_and_then (on_line (with_line p) d) o ≡ None
no_step p d rest None h = refl
no_step p d rest (Some r) h = ap (option_map (with_rest r.1)) h

-- a text that is read at all begins with a first line
marked : (p : Program) (text : List ℕ) (d : Derivation) (rest : List ℕ) → ReadsTo p text d rest → NoMarker (cut 10 text) → ⊥
marked p text _ _ (first c) h = subst NoMarker c h refl
marked p text _ _ (another {d = d} {rest = rest} r c e) h = marked p text d rest r h

-- what is read of a text ends where the first line that isn't read begins, or before it
pub reads_before : (p : Program) (text : List ℕ) (offset : ℕ) → Unread p text offset → (e : Derivation) (rest : List ℕ) → ReadsTo p text e rest → length (derivation_text p e) ≤ offset
reads_before p text _ (no_marker h) e rest r = absurd (marked p text e rest r h)
reads_before p text _ (no_line {d = d} {b = b} {rest = left} {offset = offset} a at none) e rest r = by (stands p text d (b ∷ left) a) (stands p text e rest r)
  where
    by : Stands p text d (b ∷ left) → Stands p text e rest → length (derivation_text p e) ≤ offset
    by x y =
        let less = least_left (with_line p) (begun text) x.at y.at (d, b ∷ left) (e, rest) x.is (no_step p d (b ∷ left) (cut 10 (b ∷ left)) none) y.is in
        let whole : length text ≡ length (derivation_text p e) + length rest = ap length (reads_text p text e rest r) ∙ length-append (derivation_text p e) rest in
        omega (arith, less, whole, at)

-- The text of a program has no line that is the mark of a text behind it.
use Rattle.std.proofs.Common.{◌≡◌, ℕ, List, [], ◌∷◌, ◌++◌, Option, Some, None, refl, sym, ap, ◌∙◌, subst, inl, inr, append_assoc}
use Rattle.pat_semantics_spec.specs.Programs.{Program}
use Rattle.pat_texts_spec.specs.Joined.{cut}
use Rattle.pat_texts_spec.proofs.Cutting.{CutInPieces, cut_pieces}
use Rattle.pat_input_split.specs.Marked.{first_line, line_or_all, Precedes, no_lines, another_line, IsMarked}
use Rattle.pat_input_split.specs.program_with_text.MarkedPrograms.{HasTree}
use Rattle.pat_checkpoint_input.proofs.Percents.{EndsLine, no_line_begins}

cut_is : (bs line more : List ℕ) → cut 10 bs ≡ Some (line, more) → bs ≡ line ++ 10 ∷ more
cut_is bs line more h = let own = subst (CutInPieces 10 bs) h (cut_pieces 10 bs) in own.2

-- what precedes is whole lines, and the rest follows
whole_lines : (mark bytes front rest : List ℕ) → Precedes mark bytes front rest → (bytes ≡ front ++ rest) × EndsLine front
whole_lines mark bytes front rest no_lines = (refl, inl refl)
whole_lines mark bytes front rest (another_line {front = before} {rest = left} {line = line} {more = more} p h other) =
    let up = whole_lines mark bytes before left p in
    let cut_so : left ≡ line ++ 10 ∷ more = cut_is left line more h in (
      up.0 ∙ ap (λ r. before ++ r) (cut_so ∙ sym (append_assoc line (10 ∷ []) more)) ∙ sym (append_assoc before (line ++ 10 ∷ []) more),
      inr (before ++ line, sym (append_assoc before line (10 ∷ []))),
    )

-- a text whose first line is the mark begins with a percent sign
marked_front : (rest tail : List ℕ) → first_line rest ≡ 37 ∷ tail → (w : List ℕ) × (rest ≡ 37 ∷ w)
marked_front rest tail e = go (cut 10 rest) refl e
  where
    go : (o : Option (List ℕ × List ℕ)) → cut 10 rest ≡ o → line_or_all o rest ≡ 37 ∷ tail → (w : List ℕ) × (rest ≡ 37 ∷ w)
    go None h is = (tail, is)
    go (Some r) h is = (tail ++ 10 ∷ r.1, cut_is rest r.0 r.1 h ∙ ap (λ l. l ++ 10 ∷ r.1) is)

-- a mark begins with a percent sign
pub no_mark : (mark tail front a b : List ℕ) (p : Program) → mark ≡ 37 ∷ tail → HasTree front p → IsMarked mark front a b → ⊥
no_mark mark tail front a b p percent has m =
    let lines = whole_lines mark front a b m.before in
    let begins = marked_front b tail (m.marked ∙ percent) in
    let text = has.1.tree in
    let divided = text.divided in
    no_line_begins begins.0 0 divided.0 front [] a text.tokens divided.1 refl (lines.0 ∙ ap (λ r. a ++ r) begins.1) lines.1

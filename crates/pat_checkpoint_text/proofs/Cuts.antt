-- The first piece of a text that is cut where no string is, and the others.
use Rattle.std.proofs.Common.{◌≡◌, ℕ, ◌<◌, Bool, true, false, List, [], ◌∷◌, length, refl, ap, ◌∙◌, arith, if◌then◌else◌}
use Rattle.std.specs.Prelude.{Option, Some, None, option_map}
use Rattle.pat_texts_spec.specs.Joined.{with_first}
use Rattle.pat_texts_spec.proofs.Choices.{passed, skipped}
use Rattle.pat_checkpoint_spec.specs.text.Outside.{Place, Outside, next_place, is_cut, cut_from, pieces_from, pieces_outside}

abbrev pub CutInPieces : Place → ℕ → List ℕ → Option (List ℕ × List ℕ) → Type 0
CutInPieces q c bs None = pieces_from q c bs ≡ bs ∷ []
CutInPieces q c bs (Some r) = (pieces_from q c bs ≡ r.0 ∷ pieces_outside c r.1) × (length r.1 < length bs)

-- the first piece, and what is left
pub cut_pieces : (q : Place) (c : ℕ) (bs : List ℕ) → CutInPieces q c bs (cut_from q c bs)
cut_pieces q c [] = refl
cut_pieces q c (b ∷ bs) = by (is_cut q c b) refl (cut_from (next_place q b) c bs) (cut_pieces (next_place q b) c bs)
  where
    by : (t : Bool) → is_cut q c b ≡ t → (o : Option (List ℕ × List ℕ)) → CutInPieces (next_place q b) c bs o → CutInPieces q c (b ∷ bs) (if◌then◌else◌ {A = Option (List ℕ × List ℕ)} t (Some ([], bs)) (option_map (λ x. (b ∷ x.0, x.1)) o))
    by true t o h = (passed (is_cut q c b) ([] ∷ pieces_from Outside c bs) (with_first b (pieces_from (next_place q b) c bs)) t, omega arith)
    by false t None h = skipped (is_cut q c b) ([] ∷ pieces_from Outside c bs) (with_first b (pieces_from (next_place q b) c bs)) t ∙ ap (with_first b) h
    by false t (Some r) h = (skipped (is_cut q c b) ([] ∷ pieces_from Outside c bs) (with_first b (pieces_from (next_place q b) c bs)) t ∙ ap (with_first b) h.0, omega (arith, h.1))

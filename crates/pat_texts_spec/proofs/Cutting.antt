-- Texts that are cut at a byte, and what their pieces read as.
use Rattle.std.proofs.Common.{◌≡◌, ℕ, ◌<◌, ◌==◌, Bool, true, false, List, [], ◌∷◌, ◌++◌, length, map, refl, sym, ap, ◌∙◌, arith, if◌then◌else◌, append_assoc}
use Rattle.std.specs.Prelude.{Option, Some, None, option_map, option_and_then}
use Rattle.std.proofs.lemmas.Bool.{eqb-true}
use Rattle.std.proofs.lemmas.List.{map_push}
use Rattle.pat_texts_spec.specs.Joined.{cut, pieces, with_first, read_each, then_read}
use Rattle.pat_texts_spec.proofs.Choices.{passed, skipped}

-- a byte more in front of what stands before a cut
abbrev behind_first : ℕ → List ℕ × List ℕ → List ℕ × List ℕ
behind_first b r = (b ∷ r.0, r.1)

abbrev pub CutInPieces : ℕ → List ℕ → Option (List ℕ × List ℕ) → Type 0
CutInPieces c bs None = pieces c bs ≡ bs ∷ []
CutInPieces c bs (Some r) = (pieces c bs ≡ r.0 ∷ pieces c r.1) × (length r.1 < length bs) × (bs ≡ r.0 ++ c ∷ r.1)

-- the first piece of a text that is cut, and the others
pub cut_pieces : (c : ℕ) (bs : List ℕ) → CutInPieces c bs (cut c bs)
cut_pieces c [] = refl
cut_pieces c (b ∷ bs) = by (b == c) refl (cut c bs) (cut_pieces c bs)
  where
    at : (b == c) ≡ true → b ≡ c
    at t = eqb-true b c t

    by : (t : Bool) → (b == c) ≡ t → (o : Option (List ℕ × List ℕ)) → CutInPieces c bs o → CutInPieces c (b ∷ bs) (if◌then◌else◌ {A = Option (List ℕ × List ℕ)} t (Some ([], bs)) (option_map (behind_first b) o))
    by true t o h = (passed (b == c) ([] ∷ pieces c bs) (with_first b (pieces c bs)) t, omega arith, ap (λ d. d ∷ bs) (at t))
    by false t None h = skipped (b == c) ([] ∷ pieces c bs) (with_first b (pieces c bs)) t ∙ ap (with_first b) h
    by false t (Some r) h = (skipped (b == c) ([] ∷ pieces c bs) (with_first b (pieces c bs)) t ∙ ap (with_first b) h.0, omega (arith, h.1), ap (λ l. b ∷ l) h.2)

-- what is read of a piece stands behind what was read before
pub one_more : {A : Type 0} (read : List ℕ → Option A) (done : List A) (x : List ℕ) (xs : List (List ℕ)) (a : A) → read x ≡ Some a → then_read (done ++ a ∷ []) (read_each read xs) ≡ then_read done (read_each read (x ∷ xs))
one_more {A = A} read done x xs a e = by (read_each read xs) ∙ ap (λ o. then_read done (option_and_then (λ b. option_map (λ more. b ∷ more) (read_each read xs)) o)) (sym e)
  where
    by : (o : Option (List A)) → then_read (done ++ a ∷ []) o ≡ then_read done (option_map (λ more. a ∷ more) o)
    by None = refl
    by (Some more) = ap Some (append_assoc done (a ∷ []) more)

-- one turn of a loop over pieces
pub turn : {A : Type 0} (read : List ℕ → Option A) (done new : List A) (x : List ℕ) (xs left : List (List ℕ)) (a : A) (whole : Option (List A)) → read x ≡ Some a → left ≡ x ∷ xs → new ≡ done ++ a ∷ [] → then_read done (read_each read left) ≡ whole → then_read new (read_each read xs) ≡ whole
turn read done new x xs left a whole e same grown h = ap (λ l. then_read l (read_each read xs)) grown ∙ one_more read done x xs a e ∙ ap (λ l. then_read done (read_each read l)) (sym same) ∙ h

-- the same where what is read is seen by a view
pub turn_seen : {A X : Type 0} (view : X → A) (read : List ℕ → Option A) (done new : List X) (x : List ℕ) (xs left : List (List ℕ)) (y : X) (whole : Option (List A)) → read x ≡ Some (view y) → left ≡ x ∷ xs → new ≡ done ++ y ∷ [] → then_read (map view done) (read_each read left) ≡ whole → then_read (map view new) (read_each read xs) ≡ whole
turn_seen view read done new x xs left y whole e same grown h =
    turn read (map view done) (map view new) x xs left (view y) whole e same (ap (map view) grown ∙ map_push view done y) h

-- what isn't read makes the whole unread
pub refused : {A : Type 0} (read : List ℕ → Option A) (done : List A) (x : List ℕ) (xs left : List (List ℕ)) (whole : Option (List A)) → read x ≡ None → left ≡ x ∷ xs → then_read done (read_each read left) ≡ whole → whole ≡ None
refused read done x xs left whole e same h =
    sym h ∙ ap (λ l. then_read done (read_each read l)) same ∙ ap (λ o. then_read done (option_and_then (λ b. option_map (λ more. b ∷ more) (read_each read xs)) o)) e

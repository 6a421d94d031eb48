-- Texts that are cut where no string is, and put together again.
use Rattle.std.proofs.Common.{◌≡◌, ℕ, ◌<◌, ◌==◌, Bool, true, false, List, [], ◌∷◌, ◌++◌, length, map, refl, sym, ap, ◌∙◌, subst, arith, append-nil, if◌then◌else◌}
use Rattle.std.specs.Prelude.{Option, Some, None, option_map, option_and_then, not, ◌&&◌}
use Rattle.std.specs.List.{list_all, flat_map}
use Rattle.std.proofs.lemmas.Bool.{eq-eqb, eqb-true, and_parts, and_from}
use Rattle.std.proofs.lemmas.List.{length-append}
use Rattle.pat_texts_spec.specs.Fronts.{behind}
use Rattle.pat_texts_spec.proofs.Choices.{passed, skipped, negated, made, made_next}
use Rattle.pat_derivation_text_laws.proofs.Spelled.{behind_is}
use Rattle.pat_texts_spec.specs.Joined.{joined, with_first, read_each}
use Rattle.pat_texts_spec.proofs.CutAgain.{lacks, behind_at, each_read, all_texts, all_append}
use Rattle.pat_derivation_text_laws.proofs.LinesSpelled.{Nonempty, joined_first, each_is}
use Rattle.pat_derivation_text_laws.proofs.Sound.{each_sound}
use Rattle.pat_checkpoint_spec.specs.text.Outside.{Place, Outside, Inside, Escaped, next_place, is_cut, cut_from, pieces_from, pieces_outside, listed, read_spaced, read_all, read_listed}

abbrev is_outside : Place → Bool
is_outside Outside = true
is_outside Inside = false
is_outside Escaped = false

-- a text that begins at this place ends outside strings, and is cut nowhere
abbrev pub stays : Place → ℕ → List ℕ → Bool
stays q c [] = is_outside q
stays q c (b ∷ w) = not (is_cut q c b) && stays (next_place q b) c w

-- ---- cuts

pub cut_at : (q : Place) (c : ℕ) (w r : List ℕ) → stays q c w ≡ true → cut_from q c (w ++ c ∷ r) ≡ Some (w, r)
cut_at Outside c [] r s =
    let own : Option (List ℕ × List ℕ) = Some ([], r) in
    passed (c == c) own (option_map (λ x. (c ∷ x.0, x.1)) (cut_from (next_place Outside c) c r)) (eq-eqb c c refl)
cut_at Inside c [] r s = absurd cc
cut_at Escaped c [] r s = absurd cc
cut_at q c (b ∷ w) r s =
    let k = and_parts (not (is_cut q c b)) (stays (next_place q b) c w) s in
    let own : Option (List ℕ × List ℕ) = Some ([], w ++ c ∷ r) in
    skipped (is_cut q c b) own (option_map (λ x. (b ∷ x.0, x.1)) (cut_from (next_place q b) c (w ++ c ∷ r))) (negated (is_cut q c b) k.0)
    ∙ ap (option_map (λ x. (b ∷ x.0, x.1))) (cut_at (next_place q b) c w r k.1)

pub not_cut : (q : Place) (c : ℕ) (w : List ℕ) → stays q c w ≡ true → cut_from q c w ≡ None
not_cut q c [] s = refl
not_cut q c (b ∷ w) s =
    let k = and_parts (not (is_cut q c b)) (stays (next_place q b) c w) s in
    let own : Option (List ℕ × List ℕ) = Some ([], w) in
    skipped (is_cut q c b) own (option_map (λ x. (b ∷ x.0, x.1)) (cut_from (next_place q b) c w)) (negated (is_cut q c b) k.0)
    ∙ ap (option_map (λ x. (b ∷ x.0, x.1))) (not_cut (next_place q b) c w k.1)

piece_alone : (q : Place) (c : ℕ) (w : List ℕ) → stays q c w ≡ true → pieces_from q c w ≡ w ∷ []
piece_alone q c [] s = refl
piece_alone q c (b ∷ w) s =
    let k = and_parts (not (is_cut q c b)) (stays (next_place q b) c w) s in
    skipped (is_cut q c b) ([] ∷ pieces_from Outside c w) (with_first b (pieces_from (next_place q b) c w)) (negated (is_cut q c b) k.0)
    ∙ ap (with_first b) (piece_alone (next_place q b) c w k.1)

piece_first : (q : Place) (c : ℕ) (w r : List ℕ) → stays q c w ≡ true → pieces_from q c (w ++ c ∷ r) ≡ w ∷ pieces_outside c r
piece_first Outside c [] r s = passed (c == c) ([] ∷ pieces_from Outside c r) (with_first c (pieces_from (next_place Outside c) c r)) (eq-eqb c c refl)
piece_first Inside c [] r s = absurd cc
piece_first Escaped c [] r s = absurd cc
piece_first q c (b ∷ w) r s =
    let k = and_parts (not (is_cut q c b)) (stays (next_place q b) c w) s in
    skipped (is_cut q c b) ([] ∷ pieces_from Outside c (w ++ c ∷ r)) (with_first b (pieces_from (next_place q b) c (w ++ c ∷ r))) (negated (is_cut q c b) k.0)
    ∙ ap (with_first b) (piece_first (next_place q b) c w r k.1)

pieces_joined : (c : ℕ) (x : List ℕ) (xs : List (List ℕ)) → list_all (stays Outside c) (x ∷ xs) ≡ true → pieces_outside c (joined c (x ∷ xs)) ≡ x ∷ xs
pieces_joined c x [] s = ap (pieces_outside c) (append-nil x) ∙ piece_alone Outside c x (and_parts (stays Outside c x) true s).0
pieces_joined c x (y ∷ ys) s =
    let k = and_parts (stays Outside c x) (list_all (stays Outside c) (y ∷ ys)) s in
    piece_first Outside c x (y ++ flat_map (λ z. c ∷ z) ys) k.0 ∙ ap (λ l. x ∷ l) (pieces_joined c y ys k.1)

-- ---- back

cut_byte : (q : Place) (c b : ℕ) → is_cut q c b ≡ true → b ≡ c
cut_byte Outside c b e = eqb-true b c e
cut_byte Inside c b e = absurd cc
cut_byte Escaped c b e = absurd cc

pub cut_is : (q : Place) (c : ℕ) (bs : List ℕ) (r : List ℕ × List ℕ) → cut_from q c bs ≡ Some r → bs ≡ r.0 ++ c ∷ r.1
cut_is q c [] r e = absurd cc
cut_is q c (b ∷ bs) r e = by (is_cut q c b) refl e (λ s h. cut_is (next_place q b) c bs s h)
  where
    by : (t : Bool) → is_cut q c b ≡ t → (if t then Some ([], bs) else option_map (λ x. (b ∷ x.0, x.1)) (cut_from (next_place q b) c bs)) ≡ Some r → ((s : List ℕ × List ℕ) → cut_from (next_place q b) c bs ≡ Some s → bs ≡ s.0 ++ c ∷ s.1) → b ∷ bs ≡ r.0 ++ c ∷ r.1
    by true t e deeper =
        let own : List ℕ × List ℕ = ([], bs) in
        let same : own ≡ r = cc in
        subst (λ r. b ∷ bs ≡ r.0 ++ c ∷ r.1) same (ap (λ d. d ∷ bs) (cut_byte q c b t))
    by false t e deeper =
        let m = made (λ x. (b ∷ x.0, x.1)) (cut_from (next_place q b) c bs) r e in
        subst (λ r. b ∷ bs ≡ r.0 ++ c ∷ r.1) m.is (ap (λ l. b ∷ l) (deeper m.from m.there))

some_piece : (q : Place) (c : ℕ) (bs : List ℕ) → Nonempty (pieces_from q c bs)
some_piece q c [] = record { front = []; others = []; is = refl }
some_piece q c (b ∷ bs) = by (is_cut q c b) (pieces_from (next_place q b) c bs) (some_piece (next_place q b) c bs)
  where
    by : (t : Bool) (ps : List (List ℕ)) → Nonempty ps → Nonempty (if t then [] ∷ pieces_from Outside c bs else with_first b ps)
    by true ps n = record { front = []; others = pieces_from Outside c bs; is = refl }
    by false [] n = record { front = b ∷ []; others = []; is = refl }
    by false (p ∷ ps) n = record { front = b ∷ p; others = ps; is = refl }

joined_pieces : (q : Place) (c : ℕ) (bs : List ℕ) → joined c (pieces_from q c bs) ≡ bs
joined_pieces q c [] = refl
joined_pieces q c (b ∷ bs) = by (is_cut q c b) refl (pieces_from Outside c bs) (some_piece Outside c bs) (joined_pieces Outside c bs) (pieces_from (next_place q b) c bs) (some_piece (next_place q b) c bs) (joined_pieces (next_place q b) c bs)
  where
    by : (t : Bool) → is_cut q c b ≡ t → (ps : List (List ℕ)) → Nonempty ps → joined c ps ≡ bs → (qs : List (List ℕ)) → Nonempty qs → joined c qs ≡ bs → joined c (if t then [] ∷ ps else with_first b qs) ≡ b ∷ bs
    by true t [] n h qs m k = let none = n.is in absurd cc
    by true t (p ∷ ps) n h qs m k = ap (λ l. c ∷ l) h ∙ ap (λ d. d ∷ bs) (sym (cut_byte q c b t))
    by false t ps n h qs m k = joined_first c b qs m.front m.others m.is ∙ ap (λ l. b ∷ l) k

abbrev pub CutInPieces : Place → ℕ → List ℕ → Option (List ℕ × List ℕ) → Type 0
CutInPieces q c bs None = pieces_from q c bs ≡ bs ∷ []
CutInPieces q c bs (Some r) = (pieces_from q c bs ≡ r.0 ∷ pieces_outside c r.1) × (length r.1 < length bs)

-- the first piece of a text that is cut, and the others
pub cut_pieces : (q : Place) (c : ℕ) (bs : List ℕ) → CutInPieces q c bs (cut_from q c bs)
cut_pieces q c [] = refl
cut_pieces q c (b ∷ bs) = by (is_cut q c b) refl (cut_from (next_place q b) c bs) (cut_pieces (next_place q b) c bs)
  where
    by : (t : Bool) → is_cut q c b ≡ t → (o : Option (List ℕ × List ℕ)) → CutInPieces (next_place q b) c bs o → CutInPieces q c (b ∷ bs) (if◌then◌else◌ {A = Option (List ℕ × List ℕ)} t (Some ([], bs)) (option_map (λ x. (b ∷ x.0, x.1)) o))
    by true t o h = (passed (is_cut q c b) ([] ∷ pieces_from Outside c bs) (with_first b (pieces_from (next_place q b) c bs)) t, omega arith)
    by false t None h = skipped (is_cut q c b) ([] ∷ pieces_from Outside c bs) (with_first b (pieces_from (next_place q b) c bs)) t ∙ ap (with_first b) h
    by false t (Some r) h = (skipped (is_cut q c b) ([] ∷ pieces_from Outside c bs) (with_first b (pieces_from (next_place q b) c bs)) t ∙ ap (with_first b) h.0, omega (arith, h.1))

-- ---- texts that stay

pub stays_append : (q : Place) (c : ℕ) (v w : List ℕ) → stays q c v ≡ true → stays Outside c w ≡ true → stays q c (v ++ w) ≡ true
stays_append Outside c [] w s t = t
stays_append Inside c [] w s t = absurd cc
stays_append Escaped c [] w s t = absurd cc
stays_append q c (b ∷ v) w s t =
    let k = and_parts (not (is_cut q c b)) (stays (next_place q b) c v) s in
    and_from (not (is_cut q c b)) (stays (next_place q b) c (v ++ w)) k.0 (stays_append (next_place q b) c v w k.1 t)

-- a text without quotes
pub plain_stays : (c : ℕ) (w : List ℕ) → lacks c w ≡ true → lacks 34 w ≡ true → stays Outside c w ≡ true
plain_stays c [] l m = refl
plain_stays c (b ∷ w) l m =
    let j = and_parts (not (b == c)) (lacks c w) l in
    let k = and_parts (not (b == 34)) (lacks 34 w) m in
    let next : next_place Outside b ≡ Outside = skipped (b == 34) Inside Outside (negated (b == 34) k.0) in
    and_from (not (b == c)) (stays (next_place Outside b) c w) j.0 (ap (λ q. stays q c w) next ∙ plain_stays c w j.1 k.1)

-- ---- lists with commas and spaces between

module _ {A : Type 0} (text : A → List ℕ) (good : A → Bool) where
  pub listed_stays : (c : ℕ) → not (44 == c) ≡ true → not (32 == c) ≡ true → ((a : A) → good a ≡ true → stays Outside c (text a) ≡ true) → (xs : List A) → list_all good xs ≡ true → stays Outside c (listed text xs) ≡ true
  listed_stays c comma space h [] g = refl
  listed_stays c comma space h (a ∷ xs) g =
      let k = and_parts (good a) (list_all good xs) g in
      stays_append Outside c (text a) (flat_map (λ y. 44 ∷ y) (map (λ b. 32 ∷ text b) xs)) (h a k.0) (others xs k.1)
    where
      others : (xs : List A) → list_all good xs ≡ true → stays Outside c (flat_map (λ y. 44 ∷ y) (map (λ b. 32 ∷ text b) xs)) ≡ true
      others [] g = refl
      others (b ∷ xs) g =
          let k = and_parts (good b) (list_all good xs) g in
          let more = flat_map (λ y. 44 ∷ y) (map (λ b. 32 ∷ text b) xs) in
          and_from (not (44 == c)) (stays Outside c (32 ∷ (text b ++ more))) comma (and_from (not (32 == c)) (stays Outside c (text b ++ more)) space (stays_append Outside c (text b) more (h b k.0) (others xs k.1)))

  pub all_listed : (P : ℕ → Bool) → P 44 ≡ true → P 32 ≡ true → ((a : A) → good a ≡ true → list_all P (text a) ≡ true) → (xs : List A) → list_all good xs ≡ true → list_all P (listed text xs) ≡ true
  all_listed P comma space h [] g = refl
  all_listed P comma space h (a ∷ xs) g =
      let k = and_parts (good a) (list_all good xs) g in
      all_append P (text a) (flat_map (λ y. 44 ∷ y) (map (λ b. 32 ∷ text b) xs)) (h a k.0) (others xs k.1)
    where
      others : (xs : List A) → list_all good xs ≡ true → list_all P (flat_map (λ y. 44 ∷ y) (map (λ b. 32 ∷ text b) xs)) ≡ true
      others [] g = refl
      others (b ∷ xs) g =
          let k = and_parts (good b) (list_all good xs) g in
          let more = flat_map (λ y. 44 ∷ y) (map (λ b. 32 ∷ text b) xs) in
          and_from (P 44) (list_all P (32 ∷ (text b ++ more))) comma (and_from (P 32) (list_all P (text b ++ more)) space (all_append P (text b) more (h b k.0) (others xs k.1)))

  module _ (read : List ℕ → Option A) where
    some_bytes : (bytes : List ℕ) → 0 < length bytes → read_listed read bytes ≡ read_all read (pieces_outside 44 bytes)
    some_bytes [] some = absurd (omega (arith, some))
    some_bytes (b ∷ bs) some = refl

    spaced_read : ((a : A) → good a ≡ true → read (text a) ≡ Some a) → (a : A) → good a ≡ true → read_spaced read (32 ∷ text a) ≡ Some a
    spaced_read h a g = ap (option_and_then read) (behind_at (32 ∷ []) (text a)) ∙ h a g

    -- the texts of a list are read as it
    pub listed_read : ((a : A) → good a ≡ true → read (text a) ≡ Some a) → ((a : A) → good a ≡ true → stays Outside 44 (text a) ≡ true) → ((a : A) → good a ≡ true → 0 < length (text a)) → (xs : List A) → list_all good xs ≡ true → read_listed read (listed text xs) ≡ Some xs
    listed_read h apart some [] g = refl
    listed_read h apart some (a ∷ xs) g =
        let k = and_parts (good a) (list_all good xs) g in
        let spaced : A → List ℕ = λ b. 32 ∷ text b in
        let more = flat_map (λ y. 44 ∷ y) (map spaced xs) in
        let each : list_all (stays Outside 44) (text a ∷ map spaced xs) ≡ true = and_from (stays Outside 44 (text a)) (list_all (stays Outside 44) (map spaced xs)) (apart a k.0) (all_texts (stays Outside 44) spaced good apart xs k.1) in
        some_bytes (text a ++ more) (omega (arith, some a k.0, length-append (text a) more))
        ∙ ap (read_all read) (pieces_joined 44 (text a) (map spaced xs) each)
        ∙ ap (option_and_then (λ b. option_map (λ l. b ∷ l) (read_each (read_spaced read) (map spaced xs)))) (h a k.0)
        ∙ ap (option_map (λ l. a ∷ l)) (each_read (read_spaced read) spaced good (spaced_read h) xs k.1)

    spaced_is : ((x : List ℕ) (a : A) → read x ≡ Some a → x ≡ text a) → (x : List ℕ) (a : A) → read_spaced read x ≡ Some a → x ≡ 32 ∷ text a
    spaced_is h x a e =
        let m = made_next read (behind (32 ∷ []) x) a e in
        behind_is [] (32 ∷ []) x m.from m.there ∙ ap (λ l. 32 ∷ l) (h m.from a m.is)

    all_is : ((x : List ℕ) (a : A) → read x ≡ Some a → x ≡ text a) → (xs : List (List ℕ)) (ys : List A) → read_all read xs ≡ Some ys → joined 44 xs ≡ listed text ys
    all_is h [] ys e = let same : [] ≡ ys = cc in subst (λ l. [] ≡ listed text l) same refl
    all_is h (x ∷ xs) ys e =
        let m = made_next (λ a. option_map (λ more. a ∷ more) (read_each (read_spaced read) xs)) (read x) ys e in
        let n = made (λ more. m.from ∷ more) (read_each (read_spaced read) xs) ys m.is in
        subst (λ l. joined 44 (x ∷ xs) ≡ listed text l) n.is
        (ap (λ y. joined 44 (y ∷ xs)) (h x m.from m.there) ∙ ap (λ l. joined 44 (text m.from ∷ l)) (each_is (read_spaced read) (λ b. 32 ∷ text b) (spaced_is h) xs n.from n.there))

    -- what is read as a list has the texts of it
    pub listed_is : ((x : List ℕ) (a : A) → read x ≡ Some a → x ≡ text a) → (bytes : List ℕ) (ys : List A) → read_listed read bytes ≡ Some ys → bytes ≡ listed text ys
    listed_is h [] ys e = let same : [] ≡ ys = cc in subst (λ l. [] ≡ listed text l) same refl
    listed_is h (b ∷ bs) ys e = sym (joined_pieces Outside 44 (b ∷ bs)) ∙ all_is h (pieces_outside 44 (b ∷ bs)) ys e

    spaced_sound : ((x : List ℕ) (a : A) → read x ≡ Some a → good a ≡ true) → (x : List ℕ) (a : A) → read_spaced read x ≡ Some a → good a ≡ true
    spaced_sound h x a e = let m = made_next read (behind (32 ∷ []) x) a e in h m.from a m.is

    -- what is read of a list is good, if what is read of each text is
    pub listed_sound : ((x : List ℕ) (a : A) → read x ≡ Some a → good a ≡ true) → (bytes : List ℕ) (ys : List A) → read_listed read bytes ≡ Some ys → list_all good ys ≡ true
    listed_sound h [] ys e = let same : [] ≡ ys = cc in subst (λ l. list_all good l ≡ true) same refl
    listed_sound h (b ∷ bs) ys e = by (pieces_outside 44 (b ∷ bs)) e
      where
        by : (xs : List (List ℕ)) → read_all read xs ≡ Some ys → list_all good ys ≡ true
        by [] e = let same : [] ≡ ys = cc in subst (λ l. list_all good l ≡ true) same refl
        by (x ∷ xs) e =
            let m = made_next (λ a. option_map (λ more. a ∷ more) (read_each (read_spaced read) xs)) (read x) ys e in
            let n = made (λ more. m.from ∷ more) (read_each (read_spaced read) xs) ys m.is in
            subst (λ l. list_all good l ≡ true) n.is (and_from (good m.from) (list_all good n.from) (h x m.from m.there) (each_sound (read_spaced read) good (spaced_sound h) xs n.from n.there))

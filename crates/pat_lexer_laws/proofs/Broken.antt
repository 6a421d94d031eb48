-- Bytes that no character begins with, whatever follows.
use Rattle.std.proofs.Common.{◌≡◌, ◌<◌, ◌≤◌, ◌+◌, ◌-◌, ◌*◌, ◌==◌, ◌⊎◌, inl, inr, ℕ, Bool, true, false, Some, None, List, [], ◌∷◌, ◌++◌, length, get_or, take, drop, length-take, refl, ap, sym, subst, arith, if◌then◌else◌}
use Rattle.std.proofs.lemmas.Bool.Decides.{nat_tests}
use Rattle.std.proofs.lemmas.List.{take-append-drop}
use Rattle.std.specs.Int.{is_in_range}
use Rattle.std.specs.Str.{IsUtf8, StartsWithNoChar}
use Rattle.std.specs.Str.Lossy.{utf8_error_len, second_byte_min, second_byte_max}
use Rattle.std.proofs.str.Faults.{no_char, Ranged}
use Rattle.std.proofs.str.Laws.{Follows, order}
use Rattle.std.proofs.str.Valid.{of_two, of_three, of_four}
use Rattle.pat_lexer_laws.proofs.Runs.{both}
use Rattle.pat_lexer_laws.proofs.Texts.{utf8_front}

within : (low high x : ℕ) → low ≤ x → x ≤ high → is_in_range low high x ≡ true
within low high x l h = grind (arith, nat_tests)

lead_right : (n x y z w : ℕ) → Ranged n x y z w → 128 ≤ x → is_in_range 0xC2 0xF4 x ≡ true
lead_right n x y z w r high = within 0xC2 0xF4 x (omega (arith, r.second high)) (least (order x 245))
  where
    least : (x < 245) ⊎ (245 ≤ x) → x ≤ 0xF4
    least (inl l) = omega (arith, l)
    least (inr l) = absurd (omega (arith, r.fourth (omega (arith, l)), r.second high, l))

third_right : (n x y z w : ℕ) → Ranged n x y z w → 224 ≤ x → is_in_range 0x80 0xBF z ≡ true
third_right n x y z w r three = within 0x80 0xBF z (omega (arith, r.third three)) (omega (arith, r.third three))

choice_low : (a b : Bool) (p q s y : ℕ) → (a ≡ true → p ≤ y) → (b ≡ true → q ≤ y) → s ≤ y → (if a then p else (if b then q else s)) ≤ y
choice_low true b p q s y f g h = f refl
choice_low false true p q s y f g h = g refl
choice_low false false p q s y f g h = h

choice_up : (a b : Bool) (p q s y : ℕ) → (a ≡ true → y ≤ p) → (b ≡ true → y ≤ q) → y ≤ s → y ≤ (if a then p else (if b then q else s))
choice_up true b p q s y f g h = f refl
choice_up false true p q s y f g h = g refl
choice_up false false p q s y f g h = h

same_from : (x k : ℕ) → (x == k) ≡ true → x ≡ k
same_from x k e = grind (arith, nat_tests)

second_right : (n x y z w : ℕ) → Ranged n x y z w → 128 ≤ x → is_in_range (second_byte_min x) (second_byte_max x) y ≡ true
second_right n x y z w r high =
    let follows = (r.second high).2 in
    within (second_byte_min x) (second_byte_max x) y
    (choice_low (x == 0xE0) (x == 0xF0) 0xA0 0x90 0x80 y
    (λ t. let same = same_from x 0xE0 t in let more = r.in_three (omega (arith, same)) (omega (arith, same)) in omega (arith, same, more.0, follows))
    (λ t. let same = same_from x 0xF0 t in let more = (r.fourth (omega (arith, same))).2 in omega (arith, same, more.0, follows))
    follows.0)
    (choice_up (x == 0xED) (x == 0xF4) 0x9F 0x8F 0xBF y
    (λ t. let same = same_from x 0xED t in let more = r.in_three (omega (arith, same)) (omega (arith, same)) in surrogates same more.1 follows)
    (λ t. let same = same_from x 0xF4 t in let more = (r.fourth (omega (arith, same))).2 in omega (arith, same, more.1, follows))
    (omega (arith, follows)))
  where
    surrogates : x ≡ 0xED → ((x - 224) * 64 + (y - 128) < 864) ⊎ (896 ≤ (x - 224) * 64 + (y - 128)) → Follows y → y ≤ 0x9F
    surrogates same (inl l) f = omega (arith, same, l, f)
    surrogates same (inr l) f = absurd (omega (arith, same, l, f))

-- no character begins bytes that hold the whole of one
whole_one : (bytes : List ℕ) (n : ℕ) → IsUtf8 (take n (drop 0 bytes)) → 0 < n → 0 < length bytes → StartsWithNoChar bytes → ⊥
whole_one bytes n u some there none =
    utf8_front (take n bytes) (drop n bytes) u (λ nil. omega (arith, ap length nil, length-take n bytes, some, there)) (subst StartsWithNoChar (sym (take-append-drop n bytes)) none)

three_bytes : (x y z : ℕ) (rest : List ℕ) (n w : ℕ) → Ranged n x y z w → 224 ≤ x → x < 240 → IsUtf8 (take 3 (drop 0 (x ∷ y ∷ z ∷ rest)))
three_bytes x y z rest n w r l m =
    let follows = (r.second (omega (arith, l))).2 in
    let more = r.in_three l m in
    of_three (x ∷ y ∷ z ∷ rest) 0 (omega arith) (l, m) follows (r.third l).1 (omega (arith, more.0, follows, l)) (gap more.1 follows)
  where
    gap : ((x - 224) * 64 + (y - 128) < 864) ⊎ (896 ≤ (x - 224) * 64 + (y - 128)) → Follows y → ((x - 224) * 4096 + (y - 128) * 64 + (z - 128) < 55296) ⊎ (57344 ≤ (x - 224) * 4096 + (y - 128) * 64 + (z - 128))
    gap (inl h) f = inl (omega (arith, h, f, (r.third l).1))
    gap (inr h) f = inr (omega (arith, h, f))

no_fault : (k : ℕ) → None ≡ Some k → ⊥
no_fault k e = let no : ⊥ = cc in no

fault_after_one : (a : Bool) (k : ℕ) → a ≡ true → (if a then None else Some 1) ≡ Some k → ⊥
fault_after_one true k p e = no_fault k e
fault_after_one false k p e = both false p refl

fault_after_two : (a b : Bool) (k : ℕ) → a ≡ true → b ≡ true → (if a then (if b then None else Some 1) else Some 1) ≡ Some k → ⊥
fault_after_two true true k p q e = no_fault k e
fault_after_two true false k p q e = both false q refl
fault_after_two false b k p q e = both false p refl

fault_after_three : (a b c : Bool) (k : ℕ) → a ≡ true → b ≡ true → c ≡ true → (if a then (if b then (if c then None else Some 2) else Some 1) else Some 1) ≡ Some k → ⊥
fault_after_three true true true k p q s e = no_fault k e
fault_after_three true true false k p q s e = both false s refl
fault_after_three true false c k p q s e = both false q refl
fault_after_three false b c k p q s e = both false p refl

-- bytes with a fault at their front begin with no character, whatever follows
pub broken : (bytes more : List ℕ) (k : ℕ) → utf8_error_len bytes ≡ Some k → 128 ≤ get_or bytes 0 0 → StartsWithNoChar bytes → StartsWithNoChar (bytes ++ more)
unfolding utf8_error_len
broken [] more k e high none = absurd (no_fault k e)
broken (x ∷ []) more k e high none = no_char (x ∷ more) 0 (λ r. fault_after_one _ k (lead_right _ _ _ _ _ r high) e)
broken (x ∷ y ∷ []) more k e high none = no_char (x ∷ y ∷ more) 0 (λ r. from r (order x 224))
  where
    from : Ranged (length (x ∷ y ∷ more) - 0) x y (get_or (x ∷ y ∷ more) 2 0) (get_or (x ∷ y ∷ more) 3 0) → (x < 224) ⊎ (224 ≤ x) → ⊥
    from r (inl l) = whole_one (x ∷ y ∷ []) 2 (of_two (x ∷ y ∷ []) 0 (omega arith) ((r.second high).0, l) (r.second high).2) (omega arith) (omega arith) none
    from r (inr l) = fault_after_two _ _ k (lead_right _ _ _ _ _ r high) (second_right _ _ _ _ _ r high) e
broken (x ∷ y ∷ z ∷ []) more k e high none = no_char (x ∷ y ∷ z ∷ more) 0 (λ r. from r (order x 224) (order x 240))
  where
    from : Ranged (length (x ∷ y ∷ z ∷ more) - 0) x y z (get_or (x ∷ y ∷ z ∷ more) 3 0) → (x < 224) ⊎ (224 ≤ x) → (x < 240) ⊎ (240 ≤ x) → ⊥
    from r (inl l) m = whole_one (x ∷ y ∷ z ∷ []) 2 (of_two (x ∷ y ∷ z ∷ []) 0 (omega arith) ((r.second high).0, l) (r.second high).2) (omega arith) (omega arith) none
    from r (inr l) (inl m) = whole_one (x ∷ y ∷ z ∷ []) 3 (three_bytes x y z [] _ _ r l m) (omega arith) (omega arith) none
    from r (inr l) (inr m) = fault_after_three _ _ _ k (lead_right _ _ _ _ _ r high) (second_right _ _ _ _ _ r high) (third_right _ _ _ _ _ r l) e
broken (x ∷ y ∷ z ∷ w ∷ rest) more k e high none = no_char (x ∷ y ∷ z ∷ w ∷ (rest ++ more)) 0 (λ r. from r (order x 224) (order x 240))
  where
    from : Ranged (length (x ∷ y ∷ z ∷ w ∷ (rest ++ more)) - 0) x y z w → (x < 224) ⊎ (224 ≤ x) → (x < 240) ⊎ (240 ≤ x) → ⊥
    from r (inl l) m = whole_one (x ∷ y ∷ z ∷ w ∷ rest) 2 (of_two (x ∷ y ∷ z ∷ w ∷ rest) 0 (omega arith) ((r.second high).0, l) (r.second high).2) (omega arith) (omega arith) none
    from r (inr l) (inl m) = whole_one (x ∷ y ∷ z ∷ w ∷ rest) 3 (three_bytes x y z (w ∷ rest) _ _ r l m) (omega arith) (omega arith) none
    from r (inr l) (inr m) = whole_one (x ∷ y ∷ z ∷ w ∷ rest) 4 (of_four (x ∷ y ∷ z ∷ w ∷ rest) 0 (omega arith) m (r.second high).2 (r.third l).1 (r.fourth m).1 (r.fourth m).2) (omega arith) (omega arith) none

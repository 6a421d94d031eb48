-- Texts that are made of parts are cut into these parts again.
use Rattle.std.proofs.Common.{◌≡◌, ℕ, ◌-◌, ◌<◌, ◌≤◌, ◌==◌, Bool, true, false, List, [], ◌∷◌, ◌++◌, length, map, take, drop, refl, ap, ◌∙◌, arith, append-nil}
use Rattle.std.specs.Prelude.{Option, Some, None, option_map, option_and_then, bytes_eq, not, nat_le, ◌&&◌}
use Rattle.std.specs.List.{list_all, flat_map}
use Rattle.std.proofs.Math.Seq.{drop-append_seam, take-append_seam}
use Rattle.std.proofs.lemmas.Bool.{eq-eqb, ne_eqb, and_parts, and_from, leb-true, le-leb}
use Rattle.std.proofs.lemmas.List.{length-append}
use Rattle.std.proofs.lemmas.Slice.Eq.{bytes_eq-Decides}
use Rattle.pat_texts_spec.specs.Fronts.{behind}
use Rattle.pat_texts_spec.proofs.Choices.{passed, skipped, negated}
use Rattle.pat_texts_spec.specs.Joined.{joined, cut, pieces, with_first, read_each, read_joined, before}

-- no byte of the text is this one
abbrev pub lacks : ℕ → List ℕ → Bool
lacks c w = list_all (λ b. not (b == c)) w

-- ---- cuts

pub cut_at : (c : ℕ) (w r : List ℕ) → lacks c w ≡ true → cut c (w ++ c ∷ r) ≡ Some (w, r)
cut_at c [] r l =
    let own : Option (List ℕ × List ℕ) = Some ([], r) in
    passed (c == c) own (option_map (λ s. (c ∷ s.0, s.1)) (cut c r)) (eq-eqb c c refl)
cut_at c (b ∷ w) r l =
    let k = and_parts (not (b == c)) (lacks c w) l in
    let own : Option (List ℕ × List ℕ) = Some ([], w ++ c ∷ r) in
    skipped (b == c) own (option_map (λ s. (b ∷ s.0, s.1)) (cut c (w ++ c ∷ r))) (negated (b == c) k.0)
    ∙ ap (option_map (λ s. (b ∷ s.0, s.1))) (cut_at c w r k.1)

pub piece_alone : (c : ℕ) (w : List ℕ) → lacks c w ≡ true → pieces c w ≡ w ∷ []
piece_alone c [] l = refl
piece_alone c (b ∷ w) l =
    let k = and_parts (not (b == c)) (lacks c w) l in
    skipped (b == c) ([] ∷ pieces c w) (with_first b (pieces c w)) (negated (b == c) k.0) ∙ ap (with_first b) (piece_alone c w k.1)

pub piece_first : (c : ℕ) (w r : List ℕ) → lacks c w ≡ true → pieces c (w ++ c ∷ r) ≡ w ∷ pieces c r
piece_first c [] r l = passed (c == c) ([] ∷ pieces c r) (with_first c (pieces c r)) (eq-eqb c c refl)
piece_first c (b ∷ w) r l =
    let k = and_parts (not (b == c)) (lacks c w) l in
    skipped (b == c) ([] ∷ pieces c (w ++ c ∷ r)) (with_first b (pieces c (w ++ c ∷ r))) (negated (b == c) k.0) ∙ ap (with_first b) (piece_first c w r k.1)

pub pieces_joined : (c : ℕ) (x : List ℕ) (xs : List (List ℕ)) → list_all (lacks c) (x ∷ xs) ≡ true → pieces c (joined c (x ∷ xs)) ≡ x ∷ xs
pieces_joined c x [] l = ap (pieces c) (append-nil x) ∙ piece_alone c x (and_parts (lacks c x) true l).0
pieces_joined c x (y ∷ ys) l =
    let k = and_parts (lacks c x) (list_all (lacks c) (y ∷ ys)) l in
    piece_first c x (y ++ flat_map (λ z. c ∷ z) ys) k.0 ∙ ap (λ l. x ∷ l) (pieces_joined c y ys k.1)

pub before_at : (own front : List ℕ) → before own (front ++ own) ≡ Some front
before_at own front =
    let n = length (front ++ own) - length own in
    let at : n ≡ length front = omega (arith, length-append front own) in
    let there : drop n (front ++ own) ≡ own = ap (λ k. drop k (front ++ own)) at ∙ drop-append_seam front own in
    passed (bytes_eq (drop n (front ++ own)) own) (Some (take n (front ++ own))) None ((bytes_eq-Decides (drop n (front ++ own)) own).1 there)
    ∙ ap Some (ap (λ k. take k (front ++ own)) at ∙ take-append_seam front own)

pub behind_at : (own rest : List ℕ) → behind own (own ++ rest) ≡ Some rest
behind_at own rest =
    passed (bytes_eq (take (length own) (own ++ rest)) own) (Some (drop (length own) (own ++ rest))) None ((bytes_eq-Decides (take (length own) (own ++ rest)) own).1 (take-append_seam own rest))
    ∙ ap Some (drop-append_seam own rest)

-- ---- lists

pub each_read : {A : Type 0} (read : List ℕ → Option A) (text : A → List ℕ) (good : A → Bool) → ((a : A) → good a ≡ true → read (text a) ≡ Some a) → (xs : List A) → list_all good xs ≡ true → read_each read (map text xs) ≡ Some xs
each_read read text good h [] g = refl
each_read read text good h (a ∷ xs) g =
    let k = and_parts (good a) (list_all good xs) g in
    ap (option_and_then (λ b. option_map (λ more. b ∷ more) (read_each read (map text xs)))) (h a k.0) ∙ ap (option_map (λ more. a ∷ more)) (each_read read text good h xs k.1)

pub all_texts : {A : Type 0} (P : List ℕ → Bool) (text : A → List ℕ) (good : A → Bool) → ((a : A) → good a ≡ true → P (text a) ≡ true) → (xs : List A) → list_all good xs ≡ true → list_all P (map text xs) ≡ true
all_texts P text good h [] g = refl
all_texts P text good h (a ∷ xs) g =
    let k = and_parts (good a) (list_all good xs) g in
    and_from (P (text a)) (list_all P (map text xs)) (h a k.0) (all_texts P text good h xs k.1)

some_bytes : {A : Type 0} (c : ℕ) (read : List ℕ → Option A) (bytes : List ℕ) → 0 < length bytes → read_joined c read bytes ≡ read_each read (pieces c bytes)
some_bytes c read [] some = absurd (omega (arith, some))
some_bytes c read (b ∷ bs) some = refl

pub joined_read : {A : Type 0} (c : ℕ) (read : List ℕ → Option A) (text : A → List ℕ) (good : A → Bool) → ((a : A) → good a ≡ true → read (text a) ≡ Some a) → ((a : A) → good a ≡ true → lacks c (text a) ≡ true) → ((a : A) → good a ≡ true → 0 < length (text a)) → (xs : List A) → list_all good xs ≡ true → read_joined c read (joined c (map text xs)) ≡ Some xs
joined_read c read text good h apart some [] g = refl
joined_read c read text good h apart some (a ∷ xs) g =
    let k = and_parts (good a) (list_all good xs) g in
    let more = flat_map (λ z. c ∷ z) (map text xs) in
    some_bytes c read (text a ++ more) (omega (arith, some a k.0, length-append (text a) more))
    ∙ ap (read_each read) (pieces_joined c (text a) (map text xs) (all_texts (lacks c) text good apart (a ∷ xs) g))
    ∙ each_read read text good h (a ∷ xs) g

-- ---- bytes

pub all_weaker : (P Q : ℕ → Bool) → ((b : ℕ) → P b ≡ true → Q b ≡ true) → (w : List ℕ) → list_all P w ≡ true → list_all Q w ≡ true
all_weaker P Q h [] a = refl
all_weaker P Q h (b ∷ w) a =
    let k = and_parts (P b) (list_all P w) a in
    and_from (Q b) (list_all Q w) (h b k.0) (all_weaker P Q h w k.1)

pub all_append : (P : ℕ → Bool) (v w : List ℕ) → list_all P v ≡ true → list_all P w ≡ true → list_all P (v ++ w) ≡ true
all_append P [] w a b = b
all_append P (c ∷ v) w a b =
    let k = and_parts (P c) (list_all P v) a in
    and_from (P c) (list_all P (v ++ w)) k.0 (all_append P v w k.1 b)

-- the byte is none of the text
pub all_broken : (P : ℕ → Bool) (v : List ℕ) (c : ℕ) (w : List ℕ) → P c ≡ false → list_all P (v ++ c ∷ w) ≡ false
all_broken P [] c w f = rw f refl
all_broken P (d ∷ v) c w f = ap (λ t. P d && t) (all_broken P v c w f) ∙ nothing (P d)
  where
    nothing : (t : Bool) → (t && false) ≡ false
    nothing true = refl
    nothing false = refl

all_behind : (P : ℕ → Bool) (c : ℕ) (xs : List (List ℕ)) → P c ≡ true → list_all (list_all P) xs ≡ true → list_all P (flat_map (λ z. c ∷ z) xs) ≡ true
all_behind P c [] own a = refl
all_behind P c (x ∷ xs) own a =
    let k = and_parts (list_all P x) (list_all (list_all P) xs) a in
    all_append P (c ∷ x) (flat_map (λ z. c ∷ z) xs) (and_from (P c) (list_all P x) own k.0) (all_behind P c xs own k.1)

pub all_joined : (P : ℕ → Bool) (c : ℕ) (xs : List (List ℕ)) → P c ≡ true → list_all (list_all P) xs ≡ true → list_all P (joined c xs) ≡ true
all_joined P c [] own a = refl
all_joined P c (x ∷ xs) own a =
    let k = and_parts (list_all P x) (list_all (list_all P) xs) a in
    all_append P x (flat_map (λ z. c ∷ z) xs) k.0 (all_behind P c xs own k.1)

-- the byte lies between the bounds
abbrev pub within : ℕ → ℕ → ℕ → Bool
within low high b = nat_le low b && nat_le b high

pub wider : (low high down up : ℕ) → down ≤ low → high ≤ up → (w : List ℕ) → list_all (within low high) w ≡ true → list_all (within down up) w ≡ true
wider low high down up l h w a = all_weaker (within low high) (within down up) by w a
  where
    by : (b : ℕ) → within low high b ≡ true → within down up b ≡ true
    by b t =
        let k = and_parts (nat_le low b) (nat_le b high) t in
        let m = leb-true low b k.0 in
        let n = leb-true b high k.1 in
        and_from (nat_le down b) (nat_le b up) (le-leb down b (omega (arith, l, m))) (le-leb b up (omega (arith, h, n)))

pub lacks_lower : (low high c : ℕ) → c < low → (w : List ℕ) → list_all (within low high) w ≡ true → lacks c w ≡ true
lacks_lower low high c l w a = all_weaker (within low high) (λ b. not (b == c)) by w a
  where
    by : (b : ℕ) → within low high b ≡ true → not (b == c) ≡ true
    by b t = let m = leb-true low b (and_parts (nat_le low b) (nat_le b high) t).0 in ap not (ne_eqb b c (λ z. omega (arith, l, m, z)))

pub lacks_higher : (low high c : ℕ) → high < c → (w : List ℕ) → list_all (within low high) w ≡ true → lacks c w ≡ true
lacks_higher low high c l w a = all_weaker (within low high) (λ b. not (b == c)) by w a
  where
    by : (b : ℕ) → within low high b ≡ true → not (b == c) ≡ true
    by b t = let m = leb-true b high (and_parts (nat_le low b) (nat_le b high) t).1 in ap not (ne_eqb b c (λ z. omega (arith, l, m, z)))

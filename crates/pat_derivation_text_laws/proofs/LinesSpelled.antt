-- What is read of a line is its text.
use Rattle.std.proofs.Common.{◌≡◌, ℕ, ◌-◌, ◌==◌, Bool, true, false, List, [], ◌∷◌, ◌++◌, length, map, take, drop, refl, sym, ap, ◌∙◌, subst, if◌then◌else◌}
use Rattle.std.specs.Prelude.{Option, Some, None, option_map, option_and_then, bytes_eq, codes}
use Rattle.std.specs.Fmt.{decimal}
use Rattle.std.proofs.lemmas.Bool.{eqb-true}
use Rattle.std.proofs.lemmas.List.{take-append-drop}
use Rattle.std.proofs.lemmas.Slice.Eq.{bytes_eq-Decides}
use Rattle.pat_inclusion_spec.specs.Covers.{CoverEntry}
use Rattle.pat_inclusion_spec.specs.Certificates.{Cert, CoverCert, GridCert}
use Rattle.pat_texts_spec.specs.Numbers.{read_number}
use Rattle.pat_texts_spec.specs.Fronts.{behind}
use Rattle.pat_texts_spec.proofs.Choices.{taken, made, made_next}
use Rattle.pat_texts_spec.proofs.Decimals.{number_spelled}
use Rattle.pat_derivation_text_laws.proofs.Spelled.{behind_is}
use Rattle.pat_texts_spec.specs.Joined.{joined, cut, pieces, with_first, read_each, read_joined, before}
use Rattle.pat_derivation_text_spec.specs.DerivationText.{numbers_text, entry_text, cert_text}
use Rattle.pat_derivation_text_spec.specs.LineReading.{read_numbers, entry_with, entry_of, read_entry, cert_by, read_cert}
use Rattle.pat_texts_spec.proofs.Cutting.{CutInPieces, cut_pieces}

-- ---- cuts

pub cut_is : (c : ℕ) (bs : List ℕ) (r : List ℕ × List ℕ) → cut c bs ≡ Some r → bs ≡ r.0 ++ c ∷ r.1
cut_is c bs r e = (subst (CutInPieces c bs) e (cut_pieces c bs)).2

pub before_is : (own bytes front : List ℕ) → before own bytes ≡ Some front → bytes ≡ front ++ own
before_is own bytes front e =
    let n = length bytes - length own in
    let k = taken (bytes_eq (drop n bytes) own) (Some (take n bytes)) front e in
    let same : take n bytes ≡ front = cc in
    sym (take-append-drop n bytes) ∙ ap (λ l. take n bytes ++ l) ((bytes_eq-Decides (drop n bytes) own).0 k.0) ∙ ap (λ l. l ++ own) same

pub joined_first : (c b : ℕ) (xs : List (List ℕ)) → (x : List ℕ) (more : List (List ℕ)) → xs ≡ x ∷ more → joined c (with_first b xs) ≡ b ∷ joined c xs
joined_first c b [] x more e = absurd cc
joined_first c b (y ∷ ys) x more e = refl

pub record Nonempty (xs : List (List ℕ)) : Type 0 where
  pub front : List ℕ
  pub others : List (List ℕ)
  pub is : xs ≡ front ∷ others

pub some_piece : (c : ℕ) (bs : List ℕ) → Nonempty (pieces c bs)
some_piece c [] = record { front = []; others = []; is = refl }
some_piece c (b ∷ bs) = by (b == c) (pieces c bs) (some_piece c bs)
  where
    by : (t : Bool) (ps : List (List ℕ)) → Nonempty ps → Nonempty (if t then [] ∷ ps else with_first b ps)
    by true ps n = record { front = []; others = ps; is = refl }
    by false [] n = record { front = b ∷ []; others = []; is = refl }
    by false (p ∷ ps) n = record { front = b ∷ p; others = ps; is = refl }

pub joined_pieces : (c : ℕ) (bs : List ℕ) → joined c (pieces c bs) ≡ bs
joined_pieces c [] = refl
joined_pieces c (b ∷ bs) = by (b == c) refl (pieces c bs) (some_piece c bs) (joined_pieces c bs)
  where
    by : (t : Bool) → (b == c) ≡ t → (ps : List (List ℕ)) → Nonempty ps → joined c ps ≡ bs → joined c (if t then [] ∷ ps else with_first b ps) ≡ b ∷ bs
    by true t [] n h = let none = n.is in absurd cc
    by true t (p ∷ ps) n h = ap (λ l. c ∷ l) h ∙ ap (λ d. d ∷ bs) (sym (eqb-true b c t))
    by false t ps n h = joined_first c b ps n.front n.others n.is ∙ ap (λ l. b ∷ l) h

-- ---- lists

pub each_is : {A : Type 0} (read : List ℕ → Option A) (text : A → List ℕ) → ((x : List ℕ) (a : A) → read x ≡ Some a → x ≡ text a) → (xs : List (List ℕ)) (ys : List A) → read_each read xs ≡ Some ys → xs ≡ map text ys
each_is {A = A} read text h [] ys e = let same : [] ≡ ys = cc in subst (λ l. [] ≡ map text l) same refl
each_is {A = A} read text h (x ∷ xs) ys e =
    let m = made_next (λ a. option_map (λ more. a ∷ more) (read_each read xs)) (read x) ys e in
    let n = made (λ more. m.from ∷ more) (read_each read xs) ys m.is in
    subst (λ l. x ∷ xs ≡ map text l) n.is (ap (λ y. y ∷ xs) (h x m.from m.there) ∙ ap (λ ys. text m.from ∷ ys) (each_is read text h xs n.from n.there))

pub joined_is : {A : Type 0} (c : ℕ) (read : List ℕ → Option A) (text : A → List ℕ) → ((x : List ℕ) (a : A) → read x ≡ Some a → x ≡ text a) → (bytes : List ℕ) (ys : List A) → read_joined c read bytes ≡ Some ys → bytes ≡ joined c (map text ys)
joined_is {A = A} c read text h [] ys e = let same : [] ≡ ys = cc in subst (λ l. [] ≡ joined c (map text l)) same refl
joined_is {A = A} c read text h (b ∷ bs) ys e =
    sym (joined_pieces c (b ∷ bs)) ∙ ap (joined c) (each_is read text h (pieces c (b ∷ bs)) ys e)

-- ---- certificates

number_is : (x : List ℕ) (n : ℕ) → read_number x ≡ Some n → x ≡ decimal n
number_is x n e = (number_spelled x n e).0

pub numbers_is : (bytes : List ℕ) (ns : List ℕ) → read_numbers bytes ≡ Some ns → bytes ≡ numbers_text ns
numbers_is bytes ns e = joined_is 44 read_number decimal number_is bytes ns e

entry_is : (bytes : List ℕ) (entry : CoverEntry) → read_entry bytes ≡ Some entry → bytes ≡ entry_text entry
entry_is bytes entry e =
    let m = made_next entry_of (cut 58 bytes) entry e in
    let r = m.from in
    let n = made_next (λ set. option_and_then (entry_with set) (read_each read_numbers (pieces 59 r.1))) (read_number r.0) entry m.is in
    let o = made_next (entry_with n.from) (read_each read_numbers (pieces 59 r.1)) entry n.is in
    cut_is 58 bytes r m.there ∙ ap (λ l. l ++ 58 ∷ r.1) (number_is r.0 n.from n.there)
    ∙ ap (λ l. decimal n.from ++ 58 ∷ l) (sym (joined_pieces 59 r.1) ∙ ap (joined 59) (each_is read_numbers numbers_text numbers_is (pieces 59 r.1) o.from o.there))
    ∙ by n.from o.from o.is
  where
    by : (set : ℕ) (all : List (List ℕ)) → entry_with set all ≡ Some entry → decimal set ++ 58 ∷ joined 59 (map numbers_text all) ≡ entry_text entry
    by set [] e = absurd cc
    by set (base ∷ periods) e = let same : record { set = set; base = base; periods = periods } ≡ entry = cc in subst (λ n. decimal set ++ 58 ∷ joined 59 (map numbers_text (base ∷ periods)) ≡ entry_text n) same refl

pub cert_is : (bytes : List ℕ) (cert : Cert) → read_cert bytes ≡ Some cert → bytes ≡ cert_text cert
cert_is bytes cert e = by (behind (codes "c(") bytes) refl e
  where
    by : (o : Option (List ℕ)) → behind (codes "c(") bytes ≡ o → cert_by bytes o ≡ Some cert → bytes ≡ cert_text cert
    by (Some more) b e =
        let m = made_next (λ inner. option_map CoverCert (read_joined 124 read_entry inner)) (before (41 ∷ []) more) cert e in
        let n = made CoverCert (read_joined 124 read_entry m.from) cert m.is in
        subst (λ d. bytes ≡ cert_text d) n.is (behind_is [] (codes "c(") bytes more b ∙ ap (λ l. 99 ∷ 40 ∷ l) (before_is (41 ∷ []) more m.from m.there ∙ ap (λ l. l ++ 41 ∷ []) (joined_is 124 read_entry entry_text entry_is m.from n.from n.there)))
    by None b e =
        let m = made_next (λ more. option_map GridCert (read_number more)) (behind (codes "g") bytes) cert e in
        let n = made GridCert (read_number m.from) cert m.is in
        subst (λ d. bytes ≡ cert_text d) n.is (behind_is [] (codes "g") bytes m.from m.there ∙ ap (λ l. 103 ∷ l) (number_is m.from n.from n.there))

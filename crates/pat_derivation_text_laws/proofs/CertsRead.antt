-- The text of a certificate is read as it.
use Rattle.std.proofs.Common.{◌≡◌, ℕ, ◌<◌, true, List, [], ◌∷◌, ◌++◌, length, map, refl, sym, ap, ◌∙◌, arith}
use Rattle.std.specs.Prelude.{Some, option_map, option_and_then, codes, nat_le, ◌&&◌}
use Rattle.std.specs.List.{list_all}
use Rattle.std.specs.Fmt.{decimal}
use Rattle.std.specs.Str.Parse.{AllDigits}
use Rattle.std.proofs.lemmas.Bool.{and_parts, and_from, leb-true, le-leb}
use Rattle.std.proofs.lemmas.List.{length-append}
use Rattle.std.proofs.lemmas.Str.Parse.{digit_from_value}
use Rattle.std.proofs.lemmas.Fmt.{decimal_is_IsNumeral}
use Rattle.pat_inclusion_spec.specs.Covers.{CoverEntry}
use Rattle.pat_inclusion_spec.specs.Certificates.{Cert, CoverCert, GridCert}
use Rattle.pat_derivation_spec.specs.Spelled.{is_number, are_numbers, spells_entry, spells_cert}
use Rattle.pat_texts_spec.specs.Numbers.{read_number}
use Rattle.pat_texts_spec.proofs.Decimals.{number_read}
use Rattle.pat_texts_spec.specs.Joined.{joined, pieces, read_each, read_joined}
use Rattle.pat_derivation_text_spec.specs.DerivationText.{numbers_text, entry_text, cert_text, certs_text}
use Rattle.pat_derivation_text_spec.specs.LineReading.{read_numbers, entry_with, entry_of, read_entry, cert_by, read_cert, read_certs}
use Rattle.pat_texts_spec.proofs.CutAgain.{lacks, within, cut_at, pieces_joined, before_at, behind_at, each_read, all_texts, joined_read, all_append, all_joined, wider, lacks_lower, lacks_higher}
use Rattle.pat_derivation_text_laws.proofs.TypesSpelled.{spaced}
use Rattle.pat_limits.specs.Limits.{most_number}

-- ---- numbers

digits_within : (ds : List ℕ) → AllDigits 10 ds → list_all (within 48 57) ds ≡ true
digits_within [] d = refl
digits_within (c ∷ cs) d =
    let k = digit_from_value c d.0 in
    and_from (within 48 57 c) (list_all (within 48 57) cs) (and_from (nat_le 48 c) (nat_le c 57) (le-leb 48 c k.0) (le-leb c 57 k.1)) (digits_within cs d.1)

pub number_within : (n : ℕ) → is_number n ≡ true → list_all (within 48 57) (decimal n) ≡ true
number_within n s = let small = leb-true n most_number s in digits_within (decimal n) (decimal_is_IsNumeral n (omega (arith, small))).0.1

pub number_some : (n : ℕ) → is_number n ≡ true → 0 < length (decimal n)
number_some n s = let small = leb-true n most_number s in (decimal_is_IsNumeral n (omega (arith, small))).0.0

pub numbers_read : (ns : List ℕ) → are_numbers ns ≡ true → read_numbers (numbers_text ns) ≡ Some ns
numbers_read ns g = joined_read 44 read_number decimal is_number number_read (λ n s. lacks_lower 48 57 44 (omega arith) (decimal n) (number_within n s)) number_some ns g

pub numbers_within : (ns : List ℕ) → are_numbers ns ≡ true → list_all (within 44 57) (numbers_text ns) ≡ true
numbers_within ns g = all_joined (within 44 57) 44 (map decimal ns) refl (all_texts (list_all (within 44 57)) decimal is_number (λ n s. wider 48 57 44 57 (omega arith) (omega arith) (decimal n) (number_within n s)) ns g)

-- ---- certificates

entry_read : (e : CoverEntry) → spells_entry e ≡ true → read_entry (entry_text e) ≡ Some e
entry_read e g =
    let k = and_parts (is_number e.set) (are_numbers e.base && list_all are_numbers e.periods) g in
    let more = joined 59 (map numbers_text (e.base ∷ e.periods)) in
    let apart : (ns : List ℕ) → are_numbers ns ≡ true → lacks 59 (numbers_text ns) ≡ true = λ ns h. lacks_higher 44 57 59 (omega arith) (numbers_text ns) (numbers_within ns h) in
    ap (option_and_then entry_of) (cut_at 58 (decimal e.set) more (lacks_higher 48 57 58 (omega arith) (decimal e.set) (number_within e.set k.0)))
    ∙ ap (option_and_then (λ set. option_and_then (entry_with set) (read_each read_numbers (pieces 59 more)))) (number_read e.set k.0)
    ∙ ap (λ l. option_and_then (entry_with e.set) (read_each read_numbers l)) (pieces_joined 59 (numbers_text e.base) (map numbers_text e.periods) (all_texts (lacks 59) numbers_text are_numbers apart (e.base ∷ e.periods) k.1))
    ∙ ap (option_and_then (entry_with e.set)) (each_read read_numbers numbers_text are_numbers numbers_read (e.base ∷ e.periods) k.1)

entry_within : (e : CoverEntry) → spells_entry e ≡ true → list_all (within 44 59) (entry_text e) ≡ true
entry_within e g =
    let k = and_parts (is_number e.set) (are_numbers e.base && list_all are_numbers e.periods) g in
    let more = joined 59 (map numbers_text (e.base ∷ e.periods)) in
    all_append (within 44 59) (decimal e.set) (58 ∷ more) (wider 48 57 44 59 (omega arith) (omega arith) (decimal e.set) (number_within e.set k.0))
    (all_joined (within 44 59) 59 (map numbers_text (e.base ∷ e.periods)) refl (all_texts (list_all (within 44 59)) numbers_text are_numbers (λ ns h. wider 44 57 44 59 (omega arith) (omega arith) (numbers_text ns) (numbers_within ns h)) (e.base ∷ e.periods) k.1))

entry_some : (e : CoverEntry) → spells_entry e ≡ true → 0 < length (entry_text e)
entry_some e g =
    let k = and_parts (is_number e.set) (are_numbers e.base && list_all are_numbers e.periods) g in
    let more = 58 ∷ joined 59 (map numbers_text (e.base ∷ e.periods)) in
    omega (arith, number_some e.set k.0, length-append (decimal e.set) more)

pub cert_read : (c : Cert) → spells_cert c ≡ true → read_cert (cert_text c) ≡ Some c
cert_read (CoverCert entries) g =
    let inner = joined 124 (map entry_text entries) in
    ap (cert_by (cert_text (CoverCert entries))) (behind_at (codes "c(") (inner ++ 41 ∷ []))
    ∙ ap (option_and_then (λ i. option_map CoverCert (read_joined 124 read_entry i))) (before_at (41 ∷ []) inner)
    ∙ ap (option_map CoverCert) (joined_read 124 read_entry entry_text spells_entry entry_read (λ e h. lacks_higher 44 59 124 (omega arith) (entry_text e) (entry_within e h)) entry_some entries g)
cert_read (GridCert k) g =
    ap (option_and_then (λ more. option_map GridCert (read_number more))) (behind_at (codes "g") (decimal k))
    ∙ ap (option_map GridCert) (number_read k g)

pub cert_within : (c : Cert) → spells_cert c ≡ true → list_all (within 33 124) (cert_text c) ≡ true
cert_within (CoverCert entries) g =
    all_append (within 33 124) (joined 124 (map entry_text entries)) (41 ∷ [])
    (all_joined (within 33 124) 124 (map entry_text entries) refl (all_texts (list_all (within 33 124)) entry_text spells_entry (λ e h. wider 44 59 33 124 (omega arith) (omega arith) (entry_text e) (entry_within e h)) entries g)) refl
cert_within (GridCert k) g = wider 48 57 33 124 (omega arith) (omega arith) (decimal k) (number_within k g)

pub certs_read : (certs : List Cert) → list_all spells_cert certs ≡ true → read_certs (certs_text certs) ≡ Some certs
certs_read [] g = refl
certs_read (c ∷ cs) g =
    let apart : (d : Cert) → spells_cert d ≡ true → lacks 32 (cert_text d) ≡ true = λ d h. lacks_lower 33 124 32 (omega arith) (cert_text d) (cert_within d h) in
    ap (λ l. read_certs (32 ∷ (cert_text c ++ l))) (sym (spaced cs))
    ∙ ap (option_and_then (λ more. read_each read_cert (pieces 32 more))) (behind_at (32 ∷ []) (joined 32 (map cert_text (c ∷ cs))))
    ∙ ap (read_each read_cert) (pieces_joined 32 (cert_text c) (map cert_text cs) (all_texts (lacks 32) cert_text spells_cert apart (c ∷ cs) g))
    ∙ each_read read_cert cert_text spells_cert cert_read (c ∷ cs) g

pub certs_within : (certs : List Cert) → list_all spells_cert certs ≡ true → list_all (within 32 124) (certs_text certs) ≡ true
certs_within [] g = refl
certs_within (c ∷ cs) g =
    let k = and_parts (spells_cert c) (list_all spells_cert cs) g in
    all_append (within 32 124) (cert_text c) (certs_text cs) (wider 33 124 32 124 (omega arith) (omega arith) (cert_text c) (cert_within c k.0)) (certs_within cs k.1)

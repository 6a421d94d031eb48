-- What is read is a derivation that a reader takes.
use Rattle.std.proofs.Common.{◌≡◌, ℕ, zero, suc, ◌-◌, ◌<◌, ◌≤◌, Bool, true, false, List, [], ◌∷◌, ◌++◌, length, map, drop, refl, sym, ap, ◌∙◌, subst, arith, if◌then◌else◌}
use Rattle.std.specs.Prelude.{Option, Some, None, option_map, option_and_then, bytes_eq, slice_get, codes, replicate, nat_eq, nat_le, nat_lt, ◌&&◌}
use Rattle.std.specs.List.{list_all}
use Rattle.std.proofs.lemmas.Bool.{and_parts, and_from, leb-true, le-leb, lt-ltb, eqb-true, eq-eqb}
use Rattle.std.proofs.lemmas.List.{length-append, length-drop}
use Rattle.pat_words_spec.specs.Patterns.{Pat, is_closed}
use Rattle.pat_words_spec.specs.Tags.{tags_below}
use Rattle.pat_semantics_spec.specs.Values.{Base}
use Rattle.pat_semantics_spec.specs.Programs.{Polarity, Interface, Program}
use Rattle.pat_type_system_spec.specs.Types.{MailboxType, mailbox_type, TypeOf, BaseTerm, MailboxTerm}
use Rattle.pat_inclusion_spec.specs.Covers.{CoverEntry}
use Rattle.pat_inclusion_spec.specs.Points.{points_fit}
use Rattle.pat_inclusion_spec.specs.Values.{VarValue, PatternForm, GridForm, VarLine, value_fits}
use Rattle.pat_inclusion_spec.specs.Certificates.{Cert, CoverCert, GridCert}
use Rattle.pat_type_schemes_spec.specs.NodeTypes.{Needs}
use Rattle.pat_derivation_spec.specs.Derivations.{Line, Derivation, ascends_from, scope_of}
use Rattle.pat_derivation_spec.specs.Spelled.{is_number, are_numbers, is_plain_value, spells_pattern, spells_var, spells_type, spells_named, spells_entry, spells_cert, spells_line, can_be_spelled, has_numbers, is_shallow}
use Rattle.pat_texts_spec.specs.Numbers.{read_number}
use Rattle.pat_derivation_text_spec.specs.patterns.PatternText.{is_readable}
use Rattle.pat_derivation_text_spec.specs.patterns.PatternReading.{read_pattern}
use Rattle.pat_texts_spec.specs.Fronts.{behind}
use Rattle.pat_texts_spec.proofs.Choices.{taken, made, made_next}
use Rattle.pat_texts_spec.proofs.Decimals.{number_spelled}
use Rattle.pat_derivation_text_laws.proofs.Spelled.{pattern_spelled}
use Rattle.pat_texts_spec.specs.Joined.{cut, pieces, read_each, read_joined, before}
use Rattle.pat_derivation_text_spec.specs.DerivationText.{tag_names}
use Rattle.pat_derivation_text_spec.specs.LineReading.{cut_polarity, found, mailbox_in, mailbox_of, read_mailbox, read_base, type_by, read_type, cut_usage, used_mailbox, read_used, named_in, named_of, read_named, read_next, read_all, if_ascending, read_needs, read_numbers, entry_with, entry_of, read_entry, cert_by, read_cert, read_certs, point_of, read_point, grid_with, grid_of, closed_value, value_by, read_value, var_in, var_named, if_numbered, behind_number, read_var, node_with, node_of, read_node, var_by, with_node, line_by, with_line}
use Rattle.pat_derivation_text_spec.specs.Reading.{ReadsTo, first, another}
use Rattle.pat_derivation_text_laws.specs.Readable.{has_whole_points, lines_have_numbers, can_be_read}
use Rattle.pat_texts_spec.proofs.CutAgain.{all_append}
use Rattle.pat_derivation_text_laws.proofs.TypesRead.{Fits, count_is}
use Rattle.pat_derivation_text_laws.proofs.TypesSpelled.{found_is}
use Rattle.pat_limits.specs.Limits.{most_number, number_count}

-- ---- lists

pub each_sound : {A : Type 0} (read : List ℕ → Option A) (good : A → Bool) → ((x : List ℕ) (a : A) → read x ≡ Some a → good a ≡ true) → (xs : List (List ℕ)) (ys : List A) → read_each read xs ≡ Some ys → list_all good ys ≡ true
each_sound read good h [] ys e = let same : [] ≡ ys = cc in subst (λ l. list_all good l ≡ true) same refl
each_sound read good h (x ∷ xs) ys e =
    let m = made_next (λ a. option_map (λ more. a ∷ more) (read_each read xs)) (read x) ys e in
    let n = made (λ more. m.from ∷ more) (read_each read xs) ys m.is in
    subst (λ l. list_all good l ≡ true) n.is (and_from (good m.from) (list_all good n.from) (h x m.from m.there) (each_sound read good h xs n.from n.there))

joined_sound : {A : Type 0} (c : ℕ) (read : List ℕ → Option A) (good : A → Bool) → ((x : List ℕ) (a : A) → read x ≡ Some a → good a ≡ true) → (bytes : List ℕ) (ys : List A) → read_joined c read bytes ≡ Some ys → list_all good ys ≡ true
joined_sound c read good h [] ys e = let same : [] ≡ ys = cc in subst (λ l. list_all good l ≡ true) same refl
joined_sound c read good h (b ∷ bs) ys e = each_sound read good h (pieces c (b ∷ bs)) ys e

all_drop : (P : ℕ → Bool) (n : ℕ) (xs : List ℕ) → list_all P xs ≡ true → list_all P (drop n xs) ≡ true
all_drop P zero xs a = a
all_drop P (suc n) [] a = refl
all_drop P (suc n) (x ∷ xs) a = all_drop P n xs (and_parts (P x) (list_all P xs) a).1

all_parts : {A : Type 0} (P Q : A → Bool) (xs : List A) → list_all (λ x. P x && Q x) xs ≡ true → (list_all P xs ≡ true) × (list_all Q xs ≡ true)
all_parts P Q [] a = (refl, refl)
all_parts P Q (x ∷ xs) a =
    let k = and_parts (P x && Q x) (list_all (λ y. P y && Q y) xs) a in
    let m = and_parts (P x) (Q x) k.0 in
    let n = all_parts P Q xs k.1 in
    (and_from (P x) (list_all P xs) m.0 n.0, and_from (Q x) (list_all Q xs) m.1 n.1)

pub all_last : {A : Type 0} (P : A → Bool) (xs : List A) (y : A) → list_all P xs ≡ true → P y ≡ true → list_all P (xs ++ y ∷ []) ≡ true
all_last P [] y a h = and_from (P y) true h refl
all_last P (x ∷ xs) y a h =
    let k = and_parts (P x) (list_all P xs) a in
    and_from (P x) (list_all P (xs ++ y ∷ [])) k.0 (all_last P xs y k.1 h)

-- ---- certificates

numbers_sound : (bytes ns : List ℕ) → read_numbers bytes ≡ Some ns → are_numbers ns ≡ true
numbers_sound bytes ns e = joined_sound 44 read_number is_number (λ x n h. (number_spelled x n h).1) bytes ns e

entry_sound : (bytes : List ℕ) (entry : CoverEntry) → read_entry bytes ≡ Some entry → spells_entry entry ≡ true
entry_sound bytes entry e =
    let m = made_next entry_of (cut 58 bytes) entry e in
    let r = m.from in
    let n = made_next (λ set. option_and_then (entry_with set) (read_each read_numbers (pieces 59 r.1))) (read_number r.0) entry m.is in
    let o = made_next (entry_with n.from) (read_each read_numbers (pieces 59 r.1)) entry n.is in
    by n.from o.from (number_spelled r.0 n.from n.there).1 (each_sound read_numbers are_numbers numbers_sound (pieces 59 r.1) o.from o.there) o.is
  where
    by : (set : ℕ) (all : List (List ℕ)) → is_number set ≡ true → list_all are_numbers all ≡ true → entry_with set all ≡ Some entry → spells_entry entry ≡ true
    by set [] s a e = absurd cc
    by set (base ∷ periods) s a e = let same : record { set = set; base = base; periods = periods } ≡ entry = cc in subst (λ n. spells_entry n ≡ true) same (and_from (is_number set) (are_numbers base && list_all are_numbers periods) s a)

pub cert_sound : (bytes : List ℕ) (cert : Cert) → read_cert bytes ≡ Some cert → spells_cert cert ≡ true
cert_sound bytes cert e = by (behind (codes "c(") bytes) e
  where
    by : (o : Option (List ℕ)) → cert_by bytes o ≡ Some cert → spells_cert cert ≡ true
    by (Some more) e =
        let m = made_next (λ inner. option_map CoverCert (read_joined 124 read_entry inner)) (before (41 ∷ []) more) cert e in
        let n = made CoverCert (read_joined 124 read_entry m.from) cert m.is in
        subst (λ d. spells_cert d ≡ true) n.is (joined_sound 124 read_entry spells_entry entry_sound m.from n.from n.there)
    by None e =
        let m = made_next (λ more. option_map GridCert (read_number more)) (behind (codes "g") bytes) cert e in
        let n = made GridCert (read_number m.from) cert m.is in
        subst (λ d. spells_cert d ≡ true) n.is (number_spelled m.from n.from n.there).1

certs_sound : (bytes : List ℕ) (certs : List Cert) → read_certs bytes ≡ Some certs → list_all spells_cert certs ≡ true
certs_sound [] certs e = let same : [] ≡ certs = cc in subst (λ l. list_all spells_cert l ≡ true) same refl
certs_sound (b ∷ bs) certs e =
    let m = made_next (λ more. read_each read_cert (pieces 32 more)) (behind (32 ∷ []) (b ∷ bs)) certs e in
    each_sound read_cert spells_cert cert_sound (pieces 32 m.from) certs m.is

-- ---- types

pub found_there : (x : List ℕ) (is : List Interface) (f : ℕ × List (List ℕ)) → found x is ≡ Some f → f.0 < length is
found_there x [] f e = absurd cc
found_there x (i ∷ is) f e = by (bytes_eq i.name x) e (λ g h. found_there x is g h)
  where
    by : (t : Bool) → (if t then Some (zero, map (λ t. t.name) i.tags) else option_map (λ r. (suc r.0, r.1)) (found x is)) ≡ Some f → ((g : ℕ × List (List ℕ)) → found x is ≡ Some g → g.0 < length is) → f.0 < length (i ∷ is)
    by true e deeper =
        let own : ℕ × List (List ℕ) = (zero, map (λ t. t.name) i.tags) in
        let same : own ≡ f = cc in
        subst (λ f. f.0 < length (i ∷ is)) same (omega arith)
    by false e deeper =
        let m = made (λ r. (suc r.0, r.1)) (found x is) f e in
        subst (λ f. f.0 < length (i ∷ is)) m.is (omega (arith, deeper m.from m.there))

fits_from : (p : Program) (i : ℕ) (e : Pat) → i < length p.interfaces → is_readable (length (tag_names p i)) e ≡ true → Fits p i e
fits_from p i e l h =
    let k = and_parts (tags_below (length (tag_names p i)) e) (has_numbers e && is_shallow e) h in
    record { there = l; numbers = (and_parts (has_numbers e) (is_shallow e) k.1).0; readable = h }

spells_back : (p : Program) (d : Derivation) (i : ℕ) (e : Pat) → Fits p i e → spells_pattern p d i e ≡ true
spells_back p d i e f =
    let k = and_parts (tags_below (length (tag_names p i)) e) (has_numbers e && is_shallow e) f.readable in
    let l = and_parts (has_numbers e) (is_shallow e) k.1 in
    let tags : tags_below ((scope_of p d).tags i) e ≡ true = ap (λ j. tags_below j e) (count_is (slice_get p.interfaces i)) ∙ k.0 in
    and_from (nat_lt i (length p.interfaces)) (tags_below ((scope_of p d).tags i) e && (has_numbers e && is_shallow e)) (lt-ltb i (length p.interfaces) f.there)
    (and_from (tags_below ((scope_of p d).tags i) e) (has_numbers e && is_shallow e) tags (and_from (has_numbers e) (is_shallow e) l.0 l.1))

module _ (p : Program) where
  mailbox_sound : (bytes : List ℕ) (m : ℕ × Polarity × Pat) → read_mailbox p bytes ≡ Some m → Fits p m.0 m.2
  mailbox_sound bytes m e =
      let c = made_next (mailbox_of p) (cut_polarity bytes) m e in
      let r = c.from in
      let g = made_next (mailbox_in r.1 r.2) (found r.0 p.interfaces) m c.is in
      let f = g.from in
      let h = made (λ q. (f.0, r.1, q)) (read_pattern f.1 r.2) m g.is in
      let k = found_is r.0 p.interfaces f g.there in
      let q = pattern_spelled f.1 r.2 h.from h.there in
      subst (λ m. Fits p m.0 m.2) h.is (fits_from p f.0 h.from (found_there r.0 p.interfaces f g.there) (subst (λ ts. is_readable (length ts) h.from ≡ true) k.1 q.1))

  type_sound : (d : Derivation) (bytes : List ℕ) (t : TypeOf) → read_type p bytes ≡ Some t → spells_type p d t ≡ true
  type_sound d bytes t e = by (read_base bytes) e
    where
      by : (o : Option Base) → type_by p bytes o ≡ Some t → spells_type p d t ≡ true
      by (Some b) e = let same : BaseTerm b ≡ t = cc in subst (λ t. spells_type p d t ≡ true) same refl
      by None e =
          let m = made (λ r. MailboxTerm r.0 r.1 r.2) (read_mailbox p bytes) t e in
          subst (λ t. spells_type p d t ≡ true) m.is (spells_back p d m.from.0 m.from.2 (mailbox_sound bytes m.from m.there))

  used_sound : (bytes : List ℕ) (a : MailboxType) → read_used p bytes ≡ Some a → Fits p a.interface a.pattern
  used_sound bytes a e =
      let m = made_next (λ more. option_and_then (used_mailbox p) (cut_usage more)) (behind (32 ∷ []) bytes) a e in
      let n = made_next (used_mailbox p) (cut_usage m.from) a m.is in
      let o = made (λ k. mailbox_type k.0 k.1 k.2 n.from.1) (read_mailbox p n.from.0) a n.is in
      subst (λ a. Fits p a.interface a.pattern) o.is (mailbox_sound n.from.0 o.from o.there)

  named_sound : (d : Derivation) (bytes : List ℕ) (x : ℕ × MailboxType) → read_named p bytes ≡ Some x → spells_named p d x ≡ true
  named_sound d bytes x e =
      let m = made_next (λ more. option_and_then (named_of p) (cut 58 more)) (behind (118 ∷ []) bytes) x e in
      let n = made_next (named_of p) (cut 58 m.from) x m.is in
      let r = n.from in
      let o = made_next (named_in p r.1) (read_number r.0) x n.is in
      let u = made (λ a. (o.from, a)) (read_used p r.1) x o.is in
      subst (λ x. spells_named p d x ≡ true) u.is
      (and_from (is_number o.from) (spells_pattern p d u.from.interface u.from.pattern) (number_spelled r.0 o.from o.there).1 (spells_back p d u.from.interface u.from.pattern (used_sound r.1 u.from u.there)))

  next_sound : (d : Derivation) (bytes : List ℕ) (x : ℕ × MailboxType) → read_next p bytes ≡ Some x → spells_named p d x ≡ true
  next_sound d bytes x e =
      let m = made_next (read_named p) (behind (32 ∷ []) bytes) x e in
      named_sound d m.from x m.is

  all_sound : (d : Derivation) (xs : List (List ℕ)) (es : Needs) → read_all p xs ≡ Some es → list_all (spells_named p d) es ≡ true
  all_sound d [] es e = let same : [] ≡ es = cc in subst (λ l. list_all (spells_named p d) l ≡ true) same refl
  all_sound d (x ∷ xs) es e =
      let m = made_next (λ a. option_map (λ more. a ∷ more) (read_each (read_next p) xs)) (read_named p x) es e in
      let n = made (λ more. m.from ∷ more) (read_each (read_next p) xs) es m.is in
      subst (λ l. list_all (spells_named p d) l ≡ true) n.is
      (and_from (spells_named p d m.from) (list_all (spells_named p d) n.from) (named_sound d x m.from m.there) (each_sound (read_next p) (spells_named p d) (next_sound d) xs n.from n.there))

  needs_sound : (d : Derivation) (bytes : List ℕ) (es : Needs) → read_needs p bytes ≡ Some es → (ascends_from 0 es ≡ true) × (list_all (spells_named p d) es ≡ true)
  needs_sound d [] es e = let same : [] ≡ es = cc in subst (λ l. (ascends_from 0 l ≡ true) × (list_all (spells_named p d) l ≡ true)) same (refl, refl)
  needs_sound d (b ∷ bs) es e =
      let m = made_next if_ascending (read_all p (pieces 44 (b ∷ bs))) es e in
      let k = taken (ascends_from 0 m.from) (Some m.from) es m.is in
      let same : m.from ≡ es = cc in
      subst (λ l. (ascends_from 0 l ≡ true) × (list_all (spells_named p d) l ≡ true)) same (k.0, all_sound d (pieces 44 (b ∷ bs)) m.from m.there)

-- ---- values

abbrev whole_point : List ℕ → Bool
whole_point q = are_numbers q && nat_eq (length q) 32

point_sound : (n : ℕ) (bytes : List ℕ) (q : List ℕ) → read_point n bytes ≡ Some q → whole_point q ≡ true
point_sound n bytes q e =
    let m = made_next (point_of n) (read_numbers bytes) q e in
    let cs = m.from in
    let zs = drop n (replicate 32 0) in
    let k = taken (nat_eq (length cs) n && nat_le n 32) (Some (cs ++ zs)) q m.is in
    let l = and_parts (nat_eq (length cs) n) (nat_le n 32) k.0 in
    let long : length cs ≡ n = eqb-true (length cs) n l.0 in
    let few : n ≤ 32 = leb-true n 32 l.1 in
    let same : cs ++ zs ≡ q = cc in
    let left : length zs ≡ 32 - n = length-drop n (replicate 32 0) in
    let whole : length (cs ++ zs) ≡ 32 = omega (arith, length-append cs zs, long, few, left) in
    subst (λ q. whole_point q ≡ true) same (and_from (are_numbers (cs ++ zs)) (nat_eq (length (cs ++ zs)) 32) (all_append is_number cs zs (numbers_sound bytes cs m.there) (all_drop is_number n (replicate 32 0) refl)) (eq-eqb (length (cs ++ zs)) 32 whole))

record ValueSound (n : ℕ) (v : VarValue) : Type 0 where
  fits : value_fits n v ≡ true
  plain : is_plain_value v ≡ true
  whole : has_whole_points v ≡ true

grid_sound : (n : ℕ) → 0 < n → (xs : List (List ℕ)) (v : VarValue) → grid_of n xs ≡ Some v → ValueSound n v
grid_sound n some [] v e = absurd cc
grid_sound n some (x ∷ xs) v e =
    let t = taken (nat_le n 32) (option_and_then (λ k. option_and_then (grid_with n k) (read_each (read_point n) xs)) (read_number x)) v e in
    let m = made_next (λ k. option_and_then (grid_with n k) (read_each (read_point n) xs)) (read_number x) v t.1 in
    let o = made_next (grid_with n m.from) (read_each (read_point n) xs) v m.is in
    let k = taken (points_fit m.from n o.from) (Some (GridForm m.from o.from)) v o.is in
    let same : GridForm m.from o.from ≡ v = cc in
    let good = all_parts are_numbers (λ q. nat_eq (length q) 32) o.from (each_sound (read_point n) whole_point (point_sound n) xs o.from o.there) in
    subst (ValueSound n) same (record { fits = and_from (nat_lt 0 n) (points_fit m.from n o.from) (lt-ltb 0 n some) k.0; plain = and_from (is_number m.from) (list_all are_numbers o.from) (number_spelled x m.from m.there).1 good.0; whole = good.1 })

value_sound : (names : List (List ℕ)) → 0 < length names → (bytes : List ℕ) (v : VarValue) → read_value names bytes ≡ Some v → ValueSound (length names) v
value_sound names some bytes v e = by (behind (64 ∷ []) bytes) e
  where
    by : (o : Option (List ℕ)) → value_by names bytes o ≡ Some v → ValueSound (length names) v
    by (Some more) e = grid_sound (length names) some (pieces 32 more) v e
    by None e =
        let m = made_next closed_value (read_pattern names bytes) v e in
        let k = taken (is_closed m.from) (Some (PatternForm m.from)) v m.is in
        let same : PatternForm m.from ≡ v = cc in
        let r = and_parts (tags_below (length names) m.from) (has_numbers m.from && is_shallow m.from) (pattern_spelled names bytes m.from m.there).1 in
        subst (ValueSound (length names)) same (record { fits = and_from (nat_lt 0 (length names)) (is_closed m.from && tags_below (length names) m.from) (lt-ltb 0 (length names) some) (and_from (is_closed m.from) (tags_below (length names) m.from) k.0 r.0); plain = (and_parts (has_numbers m.from) (is_shallow m.from) r.1).1; whole = refl })

-- ---- lines

number_sound : (n : ℕ) (bytes more : List ℕ) → behind_number n bytes ≡ Some more → is_number n ≡ true
number_sound n bytes more e =
    let m = made_next (λ r. option_and_then (if_numbered n (Some r.1)) (read_number r.0)) (cut 32 bytes) more e in
    let r = m.from in
    let o = made_next (if_numbered n (Some r.1)) (read_number r.0) more m.is in
    let k = taken (nat_eq o.from n) (Some r.1) more o.is in
    subst (λ j. is_number j ≡ true) (eqb-true o.from n k.0) (number_spelled r.0 o.from o.there).1

-- an interface that is there has a tag
abbrev pub HaveTags : Program → Type 0
HaveTags p = (k : ℕ) → k < length p.interfaces → 0 < length (tag_names p k)

module _ (p : Program) (some : HaveTags p) where
  var_sound : (d : Derivation) (n : ℕ) (bytes : List ℕ) (v : VarLine) → read_var p n bytes ≡ Some v → (is_number n ≡ true) × (spells_var p d v ≡ true) × (has_whole_points v.value ≡ true)
  var_sound d n bytes v e =
      let m = made_next (λ more. option_and_then (var_named p) (cut 32 more)) (behind_number n bytes) v e in
      let o = made_next (var_named p) (cut 32 m.from) v m.is in
      let r = o.from in
      let f = made_next (var_in r.1) (found r.0 p.interfaces) v o.is in
      let i = f.from.0 in
      let g = made (λ w. record { interface = i; value = w }) (read_value f.from.1 r.1) v f.is in
      let k = found_is r.0 p.interfaces f.from f.there in
      let there = found_there r.0 p.interfaces f.from f.there in
      let same : f.from.1 ≡ tag_names p i = k.1 in
      let s = value_sound (tag_names p i) (some i there) r.1 g.from (ap (λ ts. read_value ts r.1) (sym same) ∙ g.there) in
      let fits : value_fits ((scope_of p d).tags i) g.from ≡ true = ap (λ j. value_fits j g.from) (count_is (slice_get p.interfaces i)) ∙ s.fits in
      subst (λ v. (is_number n ≡ true) × (spells_var p d v ≡ true) × (has_whole_points v.value ≡ true)) g.is
      (number_sound n bytes m.from m.there, and_from (nat_lt i (length p.interfaces)) (value_fits ((scope_of p d).tags i) g.from && is_plain_value g.from) (lt-ltb i (length p.interfaces) there) (and_from (value_fits ((scope_of p d).tags i) g.from) (is_plain_value g.from) fits s.plain), s.whole)

  node_sound : (d : Derivation) (n : ℕ) (bytes : List ℕ) (l : Line) → read_node p n bytes ≡ Some l → (is_number n ≡ true) × (spells_line p d l ≡ true)
  node_sound d n bytes l e =
      let m = made_next (λ more. option_and_then (node_of p) (cut 123 more)) (behind_number n bytes) l e in
      let o = made_next (node_of p) (cut 123 m.from) l m.is in
      let r = o.from in
      let a = made_next (λ own. option_and_then (λ s. option_and_then (λ t. node_with p t s) (read_type p own)) (cut 125 r.1)) (before (32 ∷ []) r.0) l o.is in
      let b = made_next (λ s. option_and_then (λ t. node_with p t s) (read_type p a.from)) (cut 125 r.1) l a.is in
      let s = b.from in
      let t = made_next (λ t. node_with p t s) (read_type p a.from) l b.is in
      let u = made_next (λ es. option_map (λ cs. record { of = record { result = t.from; needs = es }; certs = cs }) (read_certs s.1)) (read_needs p s.0) l t.is in
      let w = made (λ cs. record { of = record { result = t.from; needs = u.from }; certs = cs }) (read_certs s.1) l u.is in
      let needs = needs_sound p d s.0 u.from u.there in
      let named = list_all (spells_named p d) u.from in
      let certs = list_all spells_cert w.from in
      subst (λ l. (is_number n ≡ true) × (spells_line p d l ≡ true)) w.is
      (number_sound n bytes m.from m.there, and_from (spells_type p d t.from) (ascends_from 0 u.from && (named && certs)) (type_sound p d a.from t.from t.there) (and_from (ascends_from 0 u.from) (named && certs) needs.0 (and_from named certs needs.1 (certs_sound s.1 w.from w.there))))

  -- what is asked of a derivation, part by part
  record Taken (d : Derivation) : Type 0 where
    vars : list_all (spells_var p d) d.vars ≡ true
    lines : list_all (spells_line p d) d.lines ≡ true
    whole : list_all (λ v. has_whole_points v.value) d.vars ≡ true
    var_count : length d.vars ≤ most_number
    line_count : length d.lines ≤ number_count

  line_sound : (d e : Derivation) (line : List ℕ) → Taken d → with_line p d line ≡ Some e → Taken e
  line_sound d e line t h = by (behind (codes "var ") line) h
    where
      var : (ls : List Line) (more : List ℕ) → var_by p d more ls ≡ Some e → Taken e
      var (l ∷ ls) more h = absurd cc
      var [] more h =
          let m = made (λ v. record { vars = d.vars ++ v ∷ []; lines = [] }) (read_var p (suc (length d.vars)) more) e h in
          let k = var_sound d (suc (length d.vars)) more m.from m.there in
          let small = leb-true (suc (length d.vars)) most_number k.0 in
          subst Taken m.is (record {
            vars = all_last (spells_var p d) d.vars m.from t.vars k.1;
            lines = refl;
            whole = all_last (λ v. has_whole_points v.value) d.vars m.from t.whole k.2;
            var_count = omega (arith, small, length-append d.vars (m.from ∷ []));
            line_count = omega arith;
          })

      by : (o : Option (List ℕ)) → line_by p d line o ≡ Some e → Taken e
      by (Some more) h = var d.lines more h
      by None h =
          let m = made_next (with_node p d) (behind (codes "node ") line) e h in
          let n = made (λ l. record { vars = d.vars; lines = d.lines ++ l ∷ [] }) (read_node p (length d.lines) m.from) e m.is in
          let k = node_sound d (length d.lines) m.from n.from n.there in
          let small = leb-true (length d.lines) most_number k.0 in
          subst Taken n.is (record {
            vars = t.vars;
            lines = all_last (spells_line p d) d.lines n.from t.lines k.1;
            whole = t.whole;
            var_count = t.var_count;
            line_count = omega (arith, small, length-append d.lines (n.from ∷ []));
          })

  reads_taken : (text : List ℕ) (d : Derivation) (rest : List ℕ) → ReadsTo p text d rest → Taken d
  reads_taken text _ _ (first c) = record { vars = refl; lines = refl; whole = refl; var_count = omega arith; line_count = omega arith }
  reads_taken text _ _ (another {d = d} {e = e} {rest = rest} {line = line} r c h) = line_sound d e line (reads_taken text d rest r) h

  pub reads_readable : (text : List ℕ) (d : Derivation) (rest : List ℕ) → ReadsTo p text d rest → can_be_read p d ≡ true
  reads_readable text d rest r =
      let t = reads_taken text d rest r in
      and_from (can_be_spelled p d) (list_all (λ v. has_whole_points v.value) d.vars && lines_have_numbers d)
      (and_from (list_all (spells_var p d) d.vars) (list_all (spells_line p d) d.lines) t.vars t.lines)
      (and_from (list_all (λ v. has_whole_points v.value) d.vars) (lines_have_numbers d) t.whole (and_from (is_number (length d.vars)) (nat_le (length d.lines) number_count) (le-leb (length d.vars) most_number t.var_count) (le-leb (length d.lines) number_count t.line_count)))

-- The text of a derivation is read as it, line by line.
use Rattle.std.proofs.Common.{◌≡◌, ℕ, zero, suc, ◌+◌, ◌<◌, ◌≤◌, ◌==◌, Bool, true, List, [], ◌∷◌, ◌++◌, length, map, take, drop, refl, sym, ap, ◌∙◌, subst, arith, append_assoc, append-nil}
use Rattle.std.specs.Prelude.{Some, None, option_map, option_and_then, slice_get, codes, not, replicate, nat_eq, nat_le, nat_lt, ◌&&◌}
use Rattle.std.specs.List.{list_all, flat_map}
use Rattle.std.specs.Fmt.{decimal}
use Rattle.std.proofs.lemmas.Bool.{and_parts, and_from, leb-true, le-leb, ltb-true, eqb-true, eq-eqb}
use Rattle.std.proofs.lemmas.List.{length-append, length-take-le}
use Rattle.pat_words_spec.specs.Patterns.{Pat, Zero, One, Tag, Sum, Prod, Star, Var, is_closed}
use Rattle.pat_words_spec.specs.Tags.{tags_below}
use Rattle.pat_semantics_spec.specs.Programs.{Program}
use Rattle.pat_inclusion_spec.specs.Points.{grid_fits, point_fits, points_ascend, points_fit}
use Rattle.pat_inclusion_spec.specs.Values.{VarValue, PatternForm, GridForm, VarLine, value_fits}
use Rattle.pat_derivation_spec.specs.Derivations.{Line, Derivation, ascends_from, scope_of}
use Rattle.pat_derivation_spec.specs.Spelled.{has_numbers, is_shallow, is_number, are_numbers, is_plain_value, spells_var, spells_type, spells_named, spells_cert, spells_line, can_be_spelled}
use Rattle.pat_texts_spec.specs.Numbers.{read_number}
use Rattle.pat_derivation_text_spec.specs.patterns.PatternText.{pat_text}
use Rattle.pat_texts_spec.specs.Fronts.{behind}
use Rattle.pat_derivation_text_laws.specs.patterns.Laws.{PatternIsRead}
use Rattle.pat_texts_spec.proofs.Choices.{passed, negated}
use Rattle.pat_texts_spec.proofs.Decimals.{number_read}
use Rattle.pat_texts_spec.specs.Joined.{cut, pieces, read_each}
use Rattle.pat_derivation_text_spec.specs.DerivationText.{interface_name, tag_names, type_text, needs_text, certs_text, point_text, value_text, var_body, var_line, node_body, node_line, numbered, marker, text_of_lines, derivation_text}
use Rattle.pat_derivation_text_spec.specs.LineReading.{read_type, read_certs, point_of, read_point, grid_with, grid_of, closed_value, value_by, read_value, var_in, var_named, if_numbered, behind_number, read_var, node_with, node_of, read_node, with_node, line_by, with_line}
use Rattle.pat_derivation_text_spec.specs.Reading.{ReadsTo, first, another, no_lines}
use Rattle.pat_derivation_text_laws.specs.Readable.{has_whole_points, lines_have_numbers, can_be_read}
use Rattle.pat_texts_spec.proofs.CutAgain.{lacks, within, cut_at, pieces_joined, before_at, behind_at, each_read, all_texts, all_append, wider, lacks_lower}
use Rattle.pat_derivation_text_laws.proofs.CertsRead.{number_within, numbers_read, numbers_within, certs_read, certs_within}
use Rattle.pat_derivation_text_laws.proofs.TypesRead.{NamesFit, inner_newline, inner_at, inner_opens, inner_closes, apart_space, apart_inner, pattern_inner, count_is, type_read, type_inner, needs_read, needs_lack}
use Rattle.pat_derivation_text_laws.proofs.DerivationSpelled.{behind_spaces, parts}
use Rattle.pat_limits.specs.Limits.{most_number, number_count}

-- ---- lists

all_both : {A : Type 0} (P Q : A → Bool) (xs : List A) → list_all P xs ≡ true → list_all Q xs ≡ true → list_all (λ x. P x && Q x) xs ≡ true
all_both P Q [] a b = refl
all_both P Q (x ∷ xs) a b =
    let k = and_parts (P x) (list_all P xs) a in
    let m = and_parts (Q x) (list_all Q xs) b in
    and_from (P x && Q x) (list_all (λ y. P y && Q y) xs) (and_from (P x) (Q x) k.0 m.0) (all_both P Q xs k.1 m.1)

all_take : (P : ℕ → Bool) (n : ℕ) (xs : List ℕ) → list_all P xs ≡ true → list_all P (take n xs) ≡ true
all_take P zero xs a = refl
all_take P (suc n) [] a = refl
all_take P (suc n) (x ∷ xs) a =
    let k = and_parts (P x) (list_all P xs) a in
    and_from (P x) (list_all P (take n xs)) k.0 (all_take P n xs k.1)

-- ---- values

zeros : (k : ℕ) (q : List ℕ) → point_fits k zero q ≡ true → replicate (length q) 0 ≡ q
zeros k [] h = refl
zeros k (c ∷ cs) h =
    let m = and_parts (nat_eq c 0) (point_fits k zero cs) h in
    ap (λ l. 0 ∷ l) (zeros k cs m.1) ∙ ap (λ d. d ∷ cs) (sym (eqb-true c 0 m.0))

padded : (k n : ℕ) (q : List ℕ) → point_fits k n q ≡ true → take n q ++ drop n (replicate (length q) 0) ≡ q
padded k zero q h = zeros k q h
padded k (suc n) [] h = refl
padded k (suc n) (c ∷ cs) h = ap (λ l. c ∷ l) (padded k n cs (and_parts (nat_le c k) (point_fits k n cs) h).1)

-- a point of the grid, as a reader takes it
abbrev good_point : ℕ → ℕ → List ℕ → Bool
good_point k n q = are_numbers q && (nat_eq (length q) 32 && point_fits k n q)

point_read : (k n : ℕ) → n ≤ 32 → (q : List ℕ) → good_point k n q ≡ true → read_point n (point_text n q) ≡ Some q
point_read k n few q h =
    let a = and_parts (are_numbers q) (nat_eq (length q) 32 && point_fits k n q) h in
    let b = and_parts (nat_eq (length q) 32) (point_fits k n q) a.1 in
    let long : length q ≡ 32 = eqb-true (length q) 32 b.0 in
    let own : length (take n q) ≡ n = length-take-le n q (omega (arith, few, long)) in
    ap (option_and_then (point_of n)) (numbers_read (take n q) (all_take is_number n q a.0))
    ∙ passed (nat_eq (length (take n q)) n && nat_le n 32) (Some (take n q ++ drop n (replicate 32 0))) None (and_from (nat_eq (length (take n q)) n) (nat_le n 32) (eq-eqb (length (take n q)) n own) (le-leb n 32 few))
    ∙ ap Some (ap (λ j. take n q ++ drop n (replicate j 0)) (sym long) ∙ padded k n q b.1)

point_within : (k n : ℕ) (q : List ℕ) → good_point k n q ≡ true → list_all (within 44 57) (point_text n q) ≡ true
point_within k n q h = numbers_within (take n q) (all_take is_number n q (and_parts (are_numbers q) (nat_eq (length q) 32 && point_fits k n q) h).0)

good_points : (k n : ℕ) (points : List (List ℕ)) → list_all are_numbers points ≡ true → list_all (λ q. nat_eq (length q) 32) points ≡ true → points_fit k n points ≡ true → list_all (good_point k n) points ≡ true
good_points k n points a b c =
    let m = and_parts (list_all (point_fits k n) points) (points_ascend points) (and_parts (grid_fits k n) (list_all (point_fits k n) points && points_ascend points) c).1 in
    all_both are_numbers (λ q. nat_eq (length q) 32 && point_fits k n q) points a (all_both (λ q. nat_eq (length q) 32) (point_fits k n) points b m.0)

points_within : (k n : ℕ) (points : List (List ℕ)) → list_all (good_point k n) points ≡ true → list_all (within 32 64) (flat_map (λ q. 32 ∷ point_text n q) points) ≡ true
points_within k n [] h = refl
points_within k n (q ∷ qs) h =
    let m = and_parts (good_point k n q) (list_all (good_point k n) qs) h in
    all_append (within 32 64) (point_text n q) (flat_map (λ q. 32 ∷ point_text n q) qs) (wider 44 57 32 64 (omega arith) (omega arith) (point_text n q) (point_within k n q m.0)) (points_within k n qs m.1)

closed_numbers : (e : Pat) → is_closed e ≡ true → has_numbers e ≡ true
closed_numbers Zero h = refl
closed_numbers One h = refl
closed_numbers (Tag m) h = refl
closed_numbers (Var k) h = absurd cc
closed_numbers (Star e) h = closed_numbers e h
closed_numbers (Sum e f) h = let k = and_parts (is_closed e) (is_closed f) h in and_from (has_numbers e) (has_numbers f) (closed_numbers e k.0) (closed_numbers f k.1)
closed_numbers (Prod e f) h = let k = and_parts (is_closed e) (is_closed f) h in and_from (has_numbers e) (has_numbers f) (closed_numbers e k.0) (closed_numbers f k.1)

no_at : (w : List ℕ) → lacks 64 w ≡ true → behind (64 ∷ []) w ≡ None
no_at [] h = refl
no_at (b ∷ w) h = rw (negated (b == 64) (and_parts (not (b == 64)) (lacks 64 w) h).0) refl

-- ---- lines

number_ahead : (n : ℕ) (more : List ℕ) → is_number n ≡ true → behind_number n (decimal n ++ 32 ∷ more) ≡ Some more
number_ahead n more s =
    ap (option_and_then (λ r. option_and_then (if_numbered n (Some r.1)) (read_number r.0))) (cut_at 32 (decimal n) more (lacks_lower 48 57 32 (omega arith) (decimal n) (number_within n s)))
    ∙ ap (option_and_then (if_numbered n (Some more))) (number_read n s)
    ∙ passed (nat_eq n n) (Some more) None (eq-eqb n n refl)

number_newline : (n : ℕ) → is_number n ≡ true → lacks 10 (decimal n) ≡ true
number_newline n s = lacks_lower 48 57 10 (omega arith) (decimal n) (number_within n s)

joined_line : (line ls rest : List ℕ) → ((line ++ 10 ∷ []) ++ ls) ++ rest ≡ line ++ 10 ∷ (ls ++ rest)
joined_line line ls rest = append_assoc (line ++ 10 ∷ []) ls rest ∙ append_assoc line (10 ∷ []) (ls ++ rest)

module _ (pattern_read : PatternIsRead) (p : Program) (n : NamesFit p) where
  value_read : (i : ℕ) (v : VarValue) → value_fits (length (tag_names p i)) v ≡ true → is_plain_value v ≡ true → has_whole_points v ≡ true → read_value (tag_names p i) (value_text (tag_names p i) v) ≡ Some v
  value_read i (PatternForm e) h s w =
      let names = tag_names p i in
      let k = and_parts (is_closed e) (tags_below (length names) e) (and_parts (nat_lt 0 (length names)) (is_closed e && tags_below (length names) e) h).1 in
      let own = closed_numbers e k.0 in
      ap (value_by names (pat_text names e)) (no_at (pat_text names e) (inner_at (pat_text names e) (pattern_inner names (n.inner i) e own)))
      ∙ ap (option_and_then closed_value) (pattern_read names (n.tags i) e (and_from (tags_below (length names) e) (has_numbers e && is_shallow e) k.1 (and_from (has_numbers e) (is_shallow e) own s)))
      ∙ passed (is_closed e) (Some (PatternForm e)) None k.0
  value_read i (GridForm k points) h s w =
      let names = tag_names p i in
      let m = length names in
      let fit = (and_parts (nat_lt 0 m) (points_fit k m points) h).1 in
      let own = and_parts (is_number k) (list_all are_numbers points) s in
      let good = good_points k m points own.1 w fit in
      let apart : list_all (lacks 32) (decimal k ∷ map (point_text m) points) ≡ true = and_from (lacks 32 (decimal k)) (list_all (lacks 32) (map (point_text m) points)) (lacks_lower 48 57 32 (omega arith) (decimal k) (number_within k own.0)) (all_texts (lacks 32) (point_text m) (good_point k m) (λ q g. lacks_lower 44 57 32 (omega arith) (point_text m q) (point_within k m q g)) points good) in
      let rest = flat_map (λ q. 32 ∷ point_text m q) points in
      ap (value_by names (value_text names (GridForm k points))) (behind_at (64 ∷ []) (decimal k ++ rest))
      ∙ ap (λ l. grid_of m (pieces 32 (decimal k ++ l))) (sym (behind_spaces m points))
      ∙ ap (grid_of m) (pieces_joined 32 (decimal k) (map (point_text m) points) apart)
      ∙ passed (nat_le m 32) (option_and_then (λ j. option_and_then (grid_with m j) (read_each (read_point m) (map (point_text m) points))) (read_number (decimal k))) None (le-leb m 32 (n.few i))
      ∙ ap (option_and_then (λ j. option_and_then (grid_with m j) (read_each (read_point m) (map (point_text m) points)))) (number_read k own.0)
      ∙ ap (option_and_then (grid_with m k)) (each_read (read_point m) (point_text m) (good_point k m) (point_read k m (n.few i)) points good)
      ∙ passed (points_fit k m points) (Some (GridForm k points)) None fit

  value_newline : (i : ℕ) (v : VarValue) → value_fits (length (tag_names p i)) v ≡ true → is_plain_value v ≡ true → has_whole_points v ≡ true → lacks 10 (value_text (tag_names p i) v) ≡ true
  value_newline i (PatternForm e) h s w =
      let names = tag_names p i in
      let k = and_parts (is_closed e) (tags_below (length names) e) (and_parts (nat_lt 0 (length names)) (is_closed e && tags_below (length names) e) h).1 in
      inner_newline (pat_text names e) (pattern_inner names (n.inner i) e (closed_numbers e k.0))
  value_newline i (GridForm k points) h s w =
      let m = length (tag_names p i) in
      let own = and_parts (is_number k) (list_all are_numbers points) s in
      let good = good_points k m points own.1 w (and_parts (nat_lt 0 m) (points_fit k m points) h).1 in
      lacks_lower 32 64 10 (omega arith) (decimal k ++ flat_map (λ q. 32 ∷ point_text m q) points)
      (all_append (within 32 64) (decimal k) (flat_map (λ q. 32 ∷ point_text m q) points) (wider 48 57 32 64 (omega arith) (omega arith) (decimal k) (number_within k own.0)) (points_within k m points good))

  -- a variable that a reader takes
  record VarTaken (v : VarLine) : Type 0 where
    there : v.interface < length p.interfaces
    fits : value_fits (length (tag_names p v.interface)) v.value ≡ true
    plain : is_plain_value v.value ≡ true
    whole : has_whole_points v.value ≡ true

  abbrev good_var : Derivation → VarLine → Bool
  good_var d v = spells_var p d v && has_whole_points v.value

  var_parts : (d : Derivation) (v : VarLine) → good_var d v ≡ true → VarTaken v
  var_parts d v h =
      let a = and_parts (spells_var p d v) (has_whole_points v.value) h in
      let b = and_parts (nat_lt v.interface (length p.interfaces)) (value_fits ((scope_of p d).tags v.interface) v.value && is_plain_value v.value) a.0 in
      let c = and_parts (value_fits ((scope_of p d).tags v.interface) v.value) (is_plain_value v.value) b.1 in
      record { there = ltb-true v.interface (length p.interfaces) b.0; fits = ap (λ j. value_fits j v.value) (sym (count_is (slice_get p.interfaces v.interface))) ∙ c.0; plain = c.1; whole = a.1 }

  var_read : (k : ℕ) → is_number k ≡ true → (v : VarLine) → VarTaken v → read_var p k (decimal k ++ 32 ∷ var_body p v.interface v.value) ≡ Some v
  var_read k s v f =
      let i = v.interface in
      let text = value_text (tag_names p i) v.value in
      ap (option_and_then (λ more. option_and_then (var_named p) (cut 32 more))) (number_ahead k (var_body p i v.value) s)
      ∙ ap (option_and_then (var_named p)) (cut_at 32 (interface_name p i) text (apart_space (interface_name p i) (n.apart i f.there)))
      ∙ ap (option_and_then (var_in text)) (n.found_at i f.there)
      ∙ ap (option_map (λ w. record { interface = i; value = w })) (value_read i v.value f.fits f.plain f.whole)

  var_newline : (k : ℕ) → is_number k ≡ true → (v : VarLine) → VarTaken v → lacks 10 (var_line p k v) ≡ true
  var_newline k s v f =
      let i = v.interface in
      let text = value_text (tag_names p i) v.value in
      let own : ℕ → Bool = λ b. not (b == 10) in
      all_append own (decimal k) (32 ∷ (interface_name p i ++ 32 ∷ text)) (number_newline k s)
      (all_append own (interface_name p i) (32 ∷ text) (inner_newline (interface_name p i) (apart_inner (interface_name p i) (n.apart i f.there))) (value_newline i v.value f.fits f.plain f.whole))

  -- a node's line that a reader takes
  record NodeTaken (d : Derivation) (l : Line) : Type 0 where
    type : spells_type p d l.of.result ≡ true
    ordered : ascends_from 0 l.of.needs ≡ true
    needs : list_all (spells_named p d) l.of.needs ≡ true
    certs : list_all spells_cert l.certs ≡ true

  line_parts : (d : Derivation) (l : Line) → spells_line p d l ≡ true → NodeTaken d l
  line_parts d l h =
      let a = and_parts (spells_type p d l.of.result) (ascends_from 0 l.of.needs && (list_all (spells_named p d) l.of.needs && list_all spells_cert l.certs)) h in
      let b = and_parts (ascends_from 0 l.of.needs) (list_all (spells_named p d) l.of.needs && list_all spells_cert l.certs) a.1 in
      let c = and_parts (list_all (spells_named p d) l.of.needs) (list_all spells_cert l.certs) b.1 in
      record { type = a.0; ordered = b.0; needs = c.0; certs = c.1 }

  node_read : (d : Derivation) (k : ℕ) → is_number k ≡ true → (l : Line) → NodeTaken d l → read_node p k (decimal k ++ 32 ∷ node_body p l) ≡ Some l
  node_read d k s l f =
      let T = type_text p l.of.result in
      let N = needs_text p l.of.needs in
      let C = certs_text l.certs in
      let own : ℕ → Bool = λ b. not (b == 123) in
      let opens : lacks 123 (T ++ 32 ∷ []) ≡ true = all_append own T (32 ∷ []) (inner_opens T (type_inner pattern_read p n d l.of.result f.type)) refl in
      let closes : lacks 125 N ≡ true = needs_lack pattern_read p n d l.of.needs f.needs 125 refl refl inner_closes in
      ap (option_and_then (λ more. option_and_then (node_of p) (cut 123 more))) (number_ahead k (node_body p l) s)
      ∙ ap (λ w. option_and_then (node_of p) (cut 123 w)) (sym (append_assoc T (32 ∷ []) (123 ∷ (N ++ 125 ∷ C))))
      ∙ ap (option_and_then (node_of p)) (cut_at 123 (T ++ 32 ∷ []) (N ++ 125 ∷ C) opens)
      ∙ ap (option_and_then (λ own. option_and_then (λ s. option_and_then (λ t. node_with p t s) (read_type p own)) (cut 125 (N ++ 125 ∷ C)))) (before_at (32 ∷ []) T)
      ∙ ap (option_and_then (λ s. option_and_then (λ t. node_with p t s) (read_type p T))) (cut_at 125 N C closes)
      ∙ ap (option_and_then (λ t. node_with p t (N, C))) (type_read pattern_read p n d l.of.result f.type)
      ∙ ap (option_and_then (λ es. option_map (λ cs. record { of = record { result = l.of.result; needs = es }; certs = cs }) (read_certs C))) (needs_read pattern_read p n d l.of.needs f.ordered f.needs)
      ∙ ap (option_map (λ cs. record { of = record { result = l.of.result; needs = l.of.needs }; certs = cs })) (certs_read l.certs f.certs)

  node_newline : (d : Derivation) (k : ℕ) → is_number k ≡ true → (l : Line) → NodeTaken d l → lacks 10 (node_line p k l) ≡ true
  node_newline d k s l f =
      let T = type_text p l.of.result in
      let N = needs_text p l.of.needs in
      let C = certs_text l.certs in
      let own : ℕ → Bool = λ b. not (b == 10) in
      all_append own (decimal k) (32 ∷ node_body p l) (number_newline k s)
      (all_append own T (32 ∷ 123 ∷ (N ++ 125 ∷ C)) (inner_newline T (type_inner pattern_read p n d l.of.result f.type))
      (all_append own N (125 ∷ C) (needs_lack pattern_read p n d l.of.needs f.needs 10 refl refl inner_newline) (lacks_lower 32 124 10 (omega arith) C (certs_within l.certs f.certs))))

  -- ---- all lines

  reads_vars : (d : Derivation) (text : List ℕ) (vs ws : List VarLine) (rest : List ℕ) → list_all (good_var d) ws ≡ true → length vs + length ws ≤ most_number → ReadsTo p text (record { vars = vs; lines = [] }) (text_of_lines (numbered (var_line p) (suc (length vs)) ws) ++ rest) → ReadsTo p text (record { vars = vs ++ ws; lines = [] }) rest
  reads_vars d text vs [] rest g small r = subst (λ l. ReadsTo p text (record { vars = l; lines = [] }) rest) (sym (append-nil vs)) r
  reads_vars d text vs (w ∷ ws) rest g small r =
      let a = and_parts (good_var d w) (list_all (good_var d) ws) g in
      let f = var_parts d w a.0 in
      let k = suc (length vs) in
      let s : is_number k ≡ true = le-leb k most_number (omega (arith, small)) in
      let line = var_line p k w in
      let more = text_of_lines (numbered (var_line p) (suc k) ws) ++ rest in
      let here = subst (ReadsTo p text (record { vars = vs; lines = [] })) (joined_line line (text_of_lines (numbered (var_line p) (suc k) ws)) rest) r in
      let read : with_line p (record { vars = vs; lines = [] }) line ≡ Some (record { vars = vs ++ w ∷ []; lines = [] }) =
      ap (line_by p (record { vars = vs; lines = [] }) line) (behind_at (codes "var ") (decimal k ++ 32 ∷ var_body p w.interface w.value))
      ∙ ap (option_map (λ v. record { vars = vs ++ v ∷ []; lines = [] })) (var_read k s w f) in
      let next : ReadsTo p text (record { vars = vs ++ w ∷ []; lines = [] }) more = another here (cut_at 10 line more (var_newline k s w f)) read in
      let long : length (vs ++ w ∷ []) ≡ suc (length vs) = omega (arith, length-append vs (w ∷ [])) in
      subst (λ l. ReadsTo p text (record { vars = l; lines = [] }) rest) (append_assoc vs (w ∷ []) ws)
      (reads_vars d text (vs ++ w ∷ []) ws rest a.1 (omega (arith, long, small))
      (subst (λ j. ReadsTo p text (record { vars = vs ++ w ∷ []; lines = [] }) (text_of_lines (numbered (var_line p) (suc j) ws) ++ rest)) (sym long) next))

  reads_nodes : (d : Derivation) (text : List ℕ) (vs : List VarLine) (ls ms : List Line) (rest : List ℕ) → list_all (spells_line p d) ms ≡ true → length ls + length ms ≤ number_count → ReadsTo p text (record { vars = vs; lines = ls }) (text_of_lines (numbered (node_line p) (length ls) ms) ++ rest) → ReadsTo p text (record { vars = vs; lines = ls ++ ms }) rest
  reads_nodes d text vs ls [] rest g small r = subst (λ l. ReadsTo p text (record { vars = vs; lines = l }) rest) (sym (append-nil ls)) r
  reads_nodes d text vs ls (m ∷ ms) rest g small r =
      let a = and_parts (spells_line p d m) (list_all (spells_line p d) ms) g in
      let f = line_parts d m a.0 in
      let k = length ls in
      let s : is_number k ≡ true = le-leb k most_number (omega (arith, small)) in
      let line = node_line p k m in
      let more = text_of_lines (numbered (node_line p) (suc k) ms) ++ rest in
      let here = subst (ReadsTo p text (record { vars = vs; lines = ls })) (joined_line line (text_of_lines (numbered (node_line p) (suc k) ms)) rest) r in
      let read : with_line p (record { vars = vs; lines = ls }) line ≡ Some (record { vars = vs; lines = ls ++ m ∷ [] }) =
      ap (option_and_then (with_node p (record { vars = vs; lines = ls }))) (behind_at (codes "node ") (decimal k ++ 32 ∷ node_body p m))
      ∙ ap (option_map (λ l. record { vars = vs; lines = ls ++ l ∷ [] })) (node_read d k s m f) in
      let next : ReadsTo p text (record { vars = vs; lines = ls ++ m ∷ [] }) more = another here (cut_at 10 line more (node_newline d k s m f)) read in
      let long : length (ls ++ m ∷ []) ≡ suc (length ls) = omega (arith, length-append ls (m ∷ [])) in
      subst (λ l. ReadsTo p text (record { vars = vs; lines = l }) rest) (append_assoc ls (m ∷ []) ms)
      (reads_nodes d text vs (ls ++ m ∷ []) ms rest a.1 (omega (arith, long, small))
      (subst (λ j. ReadsTo p text (record { vars = vs; lines = ls ++ m ∷ [] }) (text_of_lines (numbered (node_line p) j ms) ++ rest)) (sym long) next))

  -- a text that begins with a derivation's is read so far as this derivation
  pub text_reads : (d : Derivation) → can_be_read p d ≡ true → (rest : List ℕ) → ReadsTo p (derivation_text p d ++ rest) d rest
  text_reads d h rest =
      let a = and_parts (can_be_spelled p d) (list_all (λ v. has_whole_points v.value) d.vars && lines_have_numbers d) h in
      let b = and_parts (list_all (spells_var p d) d.vars) (list_all (spells_line p d) d.lines) a.0 in
      let c = and_parts (list_all (λ v. has_whole_points v.value) d.vars) (lines_have_numbers d) a.1 in
      let e = and_parts (is_number (length d.vars)) (nat_le (length d.lines) number_count) c.1 in
      let V = text_of_lines (numbered (var_line p) 1 d.vars) in
      let N = text_of_lines (numbered (node_line p) 0 d.lines) in
      let text = derivation_text p d ++ rest in
      let whole : text ≡ marker ++ 10 ∷ (V ++ (N ++ rest)) = ap (λ l. l ++ rest) (parts p d) ∙ joined_line marker (V ++ N) rest ∙ ap (λ l. marker ++ 10 ∷ l) (append_assoc V N rest) in
      let begins : ReadsTo p text no_lines (V ++ (N ++ rest)) = first (ap (cut 10) whole ∙ cut_at 10 marker (V ++ (N ++ rest)) refl) in
      let vars = reads_vars d text [] d.vars (N ++ rest) (all_both (spells_var p d) (λ v. has_whole_points v.value) d.vars b.0 c.0) (omega (arith, leb-true (length d.vars) most_number e.0)) begins in
      reads_nodes d text d.vars [] d.lines rest b.1 (omega (arith, leb-true (length d.lines) number_count e.1)) vars

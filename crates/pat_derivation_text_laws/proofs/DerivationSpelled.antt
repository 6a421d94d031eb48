-- What is read of lines is the text of the derivation.
use Rattle.std.proofs.Common.{◌≡◌, ℕ, suc, ◌+◌, List, [], ◌∷◌, ◌++◌, length, map, take, drop, refl, sym, ap, ◌∙◌, subst, arith, append_assoc, append-nil}
use Rattle.std.specs.Prelude.{Option, Some, None, option_map, option_and_then, codes, replicate, nat_eq, nat_le, ◌&&◌}
use Rattle.std.specs.List.{flat_map}
use Rattle.std.specs.Fmt.{decimal}
use Rattle.std.proofs.lemmas.Bool.{eqb-true, and_parts}
use Rattle.pat_words_spec.specs.Patterns.{is_closed}
use Rattle.pat_semantics_spec.specs.Programs.{Program}
use Rattle.pat_inclusion_spec.specs.Points.{points_fit}
use Rattle.pat_inclusion_spec.specs.Values.{VarValue, PatternForm, GridForm, VarLine}
use Rattle.pat_derivation_spec.specs.Derivations.{Line, Derivation}
use Rattle.pat_texts_spec.specs.Numbers.{read_number}
use Rattle.pat_derivation_text_spec.specs.patterns.PatternReading.{read_pattern}
use Rattle.pat_texts_spec.specs.Fronts.{behind}
use Rattle.pat_texts_spec.proofs.Choices.{taken, made, made_next}
use Rattle.pat_texts_spec.proofs.Decimals.{number_spelled}
use Rattle.pat_derivation_text_laws.proofs.Spelled.{pattern_spelled, behind_is}
use Rattle.pat_texts_spec.specs.Joined.{joined, cut, pieces, read_each, before}
use Rattle.pat_derivation_text_spec.specs.DerivationText.{interface_name, type_text, needs_text, numbers_text, point_text, value_text, var_line, node_line, numbered, marker, text_of_lines, derivation_text}
use Rattle.pat_derivation_text_spec.specs.LineReading.{found, read_type, read_needs, read_certs, read_numbers, point_of, read_point, grid_with, grid_of, closed_value, value_by, read_value, var_in, var_named, if_numbered, behind_number, read_var, node_with, node_of, read_node, var_by, with_node, line_by, with_line}
use Rattle.pat_derivation_text_spec.specs.Reading.{ReadsTo, ReadsAs, first, another}
use Rattle.pat_derivation_text_laws.proofs.LinesSpelled.{cut_is, before_is, joined_pieces, each_is, numbers_is}
use Rattle.pat_derivation_text_laws.proofs.TypesSpelled.{found_is, type_is, needs_is, certs_are}

-- ---- values

taken_front : (cs zs : List ℕ) → take (length cs) (cs ++ zs) ≡ cs
taken_front [] zs = refl
taken_front (c ∷ cs) zs = ap (λ l. c ∷ l) (taken_front cs zs)

point_is : (n : ℕ) (bytes : List ℕ) (q : List ℕ) → read_point n bytes ≡ Some q → bytes ≡ point_text n q
point_is n bytes q e =
    let m = made_next (point_of n) (read_numbers bytes) q e in
    let cs = m.from in
    let k = taken (nat_eq (length cs) n && nat_le n 32) (Some (cs ++ drop n (replicate 32 0))) q m.is in
    let long : length cs ≡ n = eqb-true (length cs) n (and_parts (nat_eq (length cs) n) (nat_le n 32) k.0).0 in
    let same : cs ++ drop n (replicate 32 0) ≡ q = cc in
    subst (λ q. bytes ≡ point_text n q) same
    (numbers_is bytes cs m.there ∙ ap numbers_text (sym (taken_front cs (drop n (replicate 32 0)))) ∙ ap (λ j. numbers_text (take j (cs ++ drop n (replicate 32 0)))) long)

pub behind_spaces : (n : ℕ) (points : List (List ℕ)) → flat_map (λ y. 32 ∷ y) (map (point_text n) points) ≡ flat_map (λ q. 32 ∷ point_text n q) points
behind_spaces n [] = refl
behind_spaces n (q ∷ qs) = ap (λ l. (32 ∷ point_text n q) ++ l) (behind_spaces n qs)

grid_is : (names : List (List ℕ)) (xs : List (List ℕ)) (v : VarValue) → grid_of (length names) xs ≡ Some v → 64 ∷ joined 32 xs ≡ value_text names v
grid_is names [] v e = absurd cc
grid_is names (x ∷ xs) v e =
    let n = length names in
    let t = taken (nat_le n 32) (option_and_then (λ k. option_and_then (grid_with n k) (read_each (read_point n) xs)) (read_number x)) v e in
    let m = made_next (λ k. option_and_then (grid_with n k) (read_each (read_point n) xs)) (read_number x) v t.1 in
    let o = made_next (grid_with n m.from) (read_each (read_point n) xs) v m.is in
    let k = taken (points_fit m.from n o.from) (Some (GridForm m.from o.from)) v o.is in
    let same : GridForm m.from o.from ≡ v = cc in
    subst (λ v. 64 ∷ joined 32 (x ∷ xs) ≡ value_text names v) same
    (ap (λ y. 64 ∷ (y ++ flat_map (λ z. 32 ∷ z) xs)) (number_spelled x m.from m.there).0
    ∙ ap (λ ys. 64 ∷ (decimal m.from ++ flat_map (λ z. 32 ∷ z) ys)) (each_is (read_point n) (point_text n) (point_is n) xs o.from o.there)
    ∙ ap (λ l. 64 ∷ (decimal m.from ++ l)) (behind_spaces n o.from))

value_is : (names : List (List ℕ)) (bytes : List ℕ) (v : VarValue) → read_value names bytes ≡ Some v → bytes ≡ value_text names v
value_is names bytes v e = by (behind (64 ∷ []) bytes) refl e
  where
    by : (o : Option (List ℕ)) → behind (64 ∷ []) bytes ≡ o → value_by names bytes o ≡ Some v → bytes ≡ value_text names v
    by (Some more) b e = behind_is [] (64 ∷ []) bytes more b ∙ ap (λ l. 64 ∷ l) (sym (joined_pieces 32 more)) ∙ grid_is names (pieces 32 more) v e
    by None b e =
        let m = made_next closed_value (read_pattern names bytes) v e in
        let k = taken (is_closed m.from) (Some (PatternForm m.from)) v m.is in
        let same : PatternForm m.from ≡ v = cc in
        subst (λ v. bytes ≡ value_text names v) same (pattern_spelled names bytes m.from m.there).0

-- ---- lines

number_at : (n : ℕ) (bytes more : List ℕ) → behind_number n bytes ≡ Some more → bytes ≡ decimal n ++ 32 ∷ more
number_at n bytes more e =
    let m = made_next (λ r. option_and_then (if_numbered n (Some r.1)) (read_number r.0)) (cut 32 bytes) more e in
    let r = m.from in
    let o = made_next (if_numbered n (Some r.1)) (read_number r.0) more m.is in
    let k = taken (nat_eq o.from n) (Some r.1) more o.is in
    let same : r.1 ≡ more = cc in
    cut_is 32 bytes r m.there ∙ ap (λ l. l ++ 32 ∷ r.1) ((number_spelled r.0 o.from o.there).0 ∙ ap decimal (eqb-true o.from n k.0)) ∙ ap (λ l. decimal n ++ 32 ∷ l) same

var_is : (p : Program) (n : ℕ) (bytes : List ℕ) (v : VarLine) → read_var p n bytes ≡ Some v → codes "var " ++ bytes ≡ var_line p n v
var_is p n bytes v e =
    let m = made_next (λ more. option_and_then (var_named p) (cut 32 more)) (behind_number n bytes) v e in
    let o = made_next (var_named p) (cut 32 m.from) v m.is in
    let r = o.from in
    let f = made_next (var_in r.1) (found r.0 p.interfaces) v o.is in
    let g = made (λ w. record { interface = f.from.0; value = w }) (read_value f.from.1 r.1) v f.is in
    let k = found_is r.0 p.interfaces f.from f.there in
    subst (λ v. codes "var " ++ bytes ≡ var_line p n v) g.is
    (ap (λ l. codes "var " ++ l) (number_at n bytes m.from m.there ∙ ap (λ l. decimal n ++ 32 ∷ l) (cut_is 32 m.from r o.there ∙ ap (λ l. l ++ 32 ∷ r.1) (sym k.0)
    ∙ ap (λ l. interface_name p f.from.0 ++ 32 ∷ l) (value_is f.from.1 r.1 g.from g.there ∙ ap (λ ts. value_text ts g.from) k.1))))

node_is : (p : Program) (n : ℕ) (bytes : List ℕ) (l : Line) → read_node p n bytes ≡ Some l → codes "node " ++ bytes ≡ node_line p n l
node_is p n bytes l e =
    let m = made_next (λ more. option_and_then (node_of p) (cut 123 more)) (behind_number n bytes) l e in
    let o = made_next (node_of p) (cut 123 m.from) l m.is in
    let r = o.from in
    let a = made_next (λ own. option_and_then (λ s. option_and_then (λ t. node_with p t s) (read_type p own)) (cut 125 r.1)) (before (32 ∷ []) r.0) l o.is in
    let b = made_next (λ s. option_and_then (λ t. node_with p t s) (read_type p a.from)) (cut 125 r.1) l a.is in
    let s = b.from in
    let t = made_next (λ t. node_with p t s) (read_type p a.from) l b.is in
    let u = made_next (λ es. option_map (λ cs. record { of = record { result = t.from; needs = es }; certs = cs }) (read_certs s.1)) (read_needs p s.0) l t.is in
    let w = made (λ cs. record { of = record { result = t.from; needs = u.from }; certs = cs }) (read_certs s.1) l u.is in
    let T = type_text p t.from in
    subst (λ l. codes "node " ++ bytes ≡ node_line p n l) w.is
    (ap (λ x. codes "node " ++ x) (number_at n bytes m.from m.there ∙ ap (λ x. decimal n ++ 32 ∷ x)
    (cut_is 123 m.from r o.there ∙ ap (λ x. x ++ 123 ∷ r.1) (before_is (32 ∷ []) r.0 a.from a.there ∙ ap (λ x. x ++ 32 ∷ []) (type_is p a.from t.from t.there)) ∙ append_assoc T (32 ∷ []) (123 ∷ r.1)
    ∙ ap (λ x. T ++ 32 ∷ 123 ∷ x) (cut_is 125 r.1 s b.there ∙ ap (λ x. x ++ 125 ∷ s.1) (needs_is p s.0 u.from u.there) ∙ ap (λ x. needs_text p u.from ++ 125 ∷ x) (certs_are s.1 w.from w.there)))))

-- ---- all lines

numbered_more : {A : Type 0} (line : ℕ → A → List ℕ) (n : ℕ) (xs : List A) (x : A) → text_of_lines (numbered line n (xs ++ x ∷ [])) ≡ text_of_lines (numbered line n xs) ++ (line (n + length xs) x ++ 10 ∷ [])
numbered_more line n [] x = let none : n ≡ n + 0 = omega arith in append-nil (line n x ++ 10 ∷ []) ∙ ap (λ k. line k x ++ 10 ∷ []) none
numbered_more line n (y ∷ ys) x =
    let next : suc n + length ys ≡ n + suc (length ys) = omega arith in
    ap (λ l. (line n y ++ 10 ∷ []) ++ l) (numbered_more line (suc n) ys x ∙ ap (λ k. text_of_lines (numbered line (suc n) ys) ++ (line k x ++ 10 ∷ [])) next)
    ∙ sym (append_assoc (line n y ++ 10 ∷ []) (text_of_lines (numbered line (suc n) ys)) (line (n + suc (length ys)) x ++ 10 ∷ []))

lines_append : (xs ys : List (List ℕ)) → text_of_lines (xs ++ ys) ≡ text_of_lines xs ++ text_of_lines ys
lines_append [] ys = refl
lines_append (x ∷ xs) ys = ap (λ l. (x ++ 10 ∷ []) ++ l) (lines_append xs ys) ∙ sym (append_assoc (x ++ 10 ∷ []) (text_of_lines xs) (text_of_lines ys))

-- the text of a derivation by its parts
pub parts : (p : Program) (d : Derivation) → derivation_text p d ≡ (marker ++ 10 ∷ []) ++ (text_of_lines (numbered (var_line p) 1 d.vars) ++ text_of_lines (numbered (node_line p) 0 d.lines))
parts p d = ap (λ l. (marker ++ 10 ∷ []) ++ l) (lines_append (numbered (var_line p) 1 d.vars) (numbered (node_line p) 0 d.lines))

line_is : (p : Program) (d e : Derivation) (line : List ℕ) → with_line p d line ≡ Some e → derivation_text p e ≡ derivation_text p d ++ (line ++ 10 ∷ [])
line_is p d e line h = by (behind (codes "var ") line) refl h
  where
    M : List ℕ
    M = marker ++ 10 ∷ []

    V : List VarLine → List ℕ
    V vs = text_of_lines (numbered (var_line p) 1 vs)

    N : List Line → List ℕ
    N ls = text_of_lines (numbered (node_line p) 0 ls)

    var : (ls : List Line) (more : List ℕ) → d.lines ≡ ls → line ≡ codes "var " ++ more → var_by p d more ls ≡ Some e → derivation_text p e ≡ derivation_text p d ++ (line ++ 10 ∷ [])
    var (l ∷ ls) more same is h = absurd cc
    var [] more same is h =
        let m = made (λ v. record { vars = d.vars ++ v ∷ []; lines = [] }) (read_var p (suc (length d.vars)) more) e h in
        let own : line ≡ var_line p (suc (length d.vars)) m.from = is ∙ var_is p (suc (length d.vars)) more m.from m.there in
        let count : 1 + length d.vars ≡ suc (length d.vars) = omega arith in
        subst (λ e. derivation_text p e ≡ derivation_text p d ++ (line ++ 10 ∷ [])) m.is
        (parts p (record { vars = d.vars ++ m.from ∷ []; lines = [] }) ∙ ap (λ l. M ++ l) (append-nil (V (d.vars ++ m.from ∷ [])) ∙ numbered_more (var_line p) 1 d.vars m.from ∙ ap (λ k. V d.vars ++ (var_line p k m.from ++ 10 ∷ [])) count ∙ ap (λ x. V d.vars ++ (x ++ 10 ∷ [])) (sym own))
        ∙ sym (append_assoc M (V d.vars) (line ++ 10 ∷ [])) ∙ ap (λ l. l ++ (line ++ 10 ∷ [])) (ap (λ l. M ++ l) (sym (append-nil (V d.vars)) ∙ ap (λ ls. V d.vars ++ N ls) (sym same)) ∙ sym (parts p d)))

    by : (o : Option (List ℕ)) → behind (codes "var ") line ≡ o → line_by p d line o ≡ Some e → derivation_text p e ≡ derivation_text p d ++ (line ++ 10 ∷ [])
    by (Some more) b h = var d.lines more refl (behind_is [] (codes "var ") line more b) h
    by None b h =
        let m = made_next (with_node p d) (behind (codes "node ") line) e h in
        let n = made (λ l. record { vars = d.vars; lines = d.lines ++ l ∷ [] }) (read_node p (length d.lines) m.from) e m.is in
        let own : line ≡ node_line p (length d.lines) n.from = behind_is [] (codes "node ") line m.from m.there ∙ node_is p (length d.lines) m.from n.from n.there in
        let count : 0 + length d.lines ≡ length d.lines = omega arith in
        subst (λ e. derivation_text p e ≡ derivation_text p d ++ (line ++ 10 ∷ [])) n.is
        (parts p (record { vars = d.vars; lines = d.lines ++ n.from ∷ [] }) ∙ ap (λ l. M ++ (V d.vars ++ l)) (numbered_more (node_line p) 0 d.lines n.from ∙ ap (λ k. N d.lines ++ (node_line p k n.from ++ 10 ∷ [])) count ∙ ap (λ x. N d.lines ++ (x ++ 10 ∷ [])) (sym own))
        ∙ ap (λ l. M ++ l) (sym (append_assoc (V d.vars) (N d.lines) (line ++ 10 ∷ []))) ∙ sym (append_assoc M (V d.vars ++ N d.lines) (line ++ 10 ∷ [])) ∙ ap (λ l. l ++ (line ++ 10 ∷ [])) (sym (parts p d)))

pub reads_text : (p : Program) (text : List ℕ) (d : Derivation) (rest : List ℕ) → ReadsTo p text d rest → text ≡ derivation_text p d ++ rest
reads_text p text _ _ (first {rest = rest} c) = cut_is 10 text (marker, rest) c ∙ sym (append_assoc marker (10 ∷ []) rest) ∙ ap (λ l. l ++ rest) (sym (append-nil (marker ++ 10 ∷ [])))
reads_text p text _ _ (another {d = d} {e = e} {rest = rest} {line = line} {more = more} r c h) =
    reads_text p text d rest r ∙ ap (λ l. derivation_text p d ++ l) (cut_is 10 rest (line, more) c)
    ∙ ap (λ l. derivation_text p d ++ l) (sym (append_assoc line (10 ∷ []) more)) ∙ sym (append_assoc (derivation_text p d) (line ++ 10 ∷ []) more) ∙ ap (λ l. l ++ more) (sym (line_is p d e line h))

-- a text that is read as a derivation is its text
pub whole_text : (p : Program) (text : List ℕ) (d : Derivation) → ReadsAs p text d → text ≡ derivation_text p d
whole_text p text d r = reads_text p text d [] r ∙ append-nil (derivation_text p d)

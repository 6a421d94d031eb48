-- Strings are read as they are written.
use Rattle.std.proofs.Common.{◌≡◌, ℕ, ◌==◌, ◌||◌, Bool, true, false, List, [], ◌∷◌, ◌++◌, refl, sym, ap, ◌∙◌, subst, arith, if◌then◌else◌}
use Rattle.std.specs.Prelude.{Some, None, option_map, option_and_then, nat_le, not, ◌&&◌}
use Rattle.std.specs.List.{list_all}
use Rattle.std.specs.Str.{is_utf8}
use Rattle.std.proofs.lemmas.Bool.{and_parts, and_from, le-leb, eqb-true}
use Rattle.std.proofs.lemmas.Str.{is_utf8-from_IsUtf8, IsUtf8-from_is_utf8}
use Rattle.pat_lexer_spec.specs.Characters.{is_plain, Quotes, nothing, plain, quote, backslash}
use Rattle.pat_lexer_spec.specs.Spelled.{IsString}
use Rattle.pat_semantics_spec.specs.Values.{TextConst, Value, Const}
use Rattle.pat_print_spec.specs.Text.{quoted}
use Rattle.pat_texts_spec.proofs.Choices.{taken, passed, skipped, made, made_next}
use Rattle.pat_texts_spec.specs.Joined.{before}
use Rattle.pat_texts_spec.proofs.CutAgain.{before_at}
use Rattle.pat_derivation_text_laws.proofs.LinesSpelled.{before_is}
use Rattle.pat_checkpoint_spec.specs.text.Outside.{Outside, Inside, Escaped, next_place}
use Rattle.pat_checkpoint_spec.specs.text.ValueText.{string_text, is_string}
use Rattle.pat_checkpoint_spec.specs.text.ValueReading.{unquoted, read_quoted, read_string}
use Rattle.pat_checkpoint_laws.proofs.OutsideCuts.{stays}

-- bytes from the space on
abbrev pub is_visible : ℕ → Bool
is_visible b = nat_le 32 b

-- a byte that stands behind a backslash
abbrev is_special : ℕ → Bool
is_special b = b == 34 || b == 92

special_cases : (b : ℕ) → is_special b ≡ false → ((b == 34) ≡ false) × ((b == 92) ≡ false)
special_cases b e = by (b == 34) (b == 92) e
  where
    by : (s t : Bool) → (s || t) ≡ false → (s ≡ false) × (t ≡ false)
    by true t e = absurd cc
    by false t e = (refl, e)

special_visible : (b : ℕ) → is_special b ≡ true → is_visible b ≡ true
special_visible b e = by (b == 34) refl (b == 92) refl e
  where
    by : (s : Bool) → (b == 34) ≡ s → (t : Bool) → (b == 92) ≡ t → (s || t) ≡ true → is_visible b ≡ true
    by true p t q e = le-leb 32 b (omega (arith, eqb-true b 34 p))
    by false p true q e = le-leb 32 b (omega (arith, eqb-true b 92 q))
    by false p false q e = absurd cc

plain_from : (b : ℕ) → is_visible b ≡ true → is_special b ≡ false → is_plain b ≡ true
plain_from b v e = let k = special_cases b e in rw (v, k.0, k.1) refl

plain_visible : (b : ℕ) → is_plain b ≡ true → (is_visible b ≡ true) × (is_special b ≡ false)
plain_visible b p = by (nat_le 32 b) (b == 34) (b == 92) p
  where
    by : (x y z : Bool) → (x && not y && not z) ≡ true → (x ≡ true) × ((y || z) ≡ false)
    by true true z p = absurd cc
    by true false true p = absurd cc
    by true false false p = (refl, refl)
    by false true z p = absurd cc
    by false false true p = absurd cc
    by false false false p = absurd cc

pub unquoted_read : (s : List ℕ) → list_all is_visible s ≡ true → unquoted false (quoted s) ≡ Some s
unquoted_read [] v = refl
unquoted_read (b ∷ s) v =
    let k = and_parts (is_visible b) (list_all is_visible s) v in
    by (is_special b) refl k.0 (unquoted_read s k.1)
  where
    by : (t : Bool) → is_special b ≡ t → is_visible b ≡ true → unquoted false (quoted s) ≡ Some s → unquoted false (if t then 92 ∷ b ∷ quoted s else b ∷ quoted s) ≡ Some (b ∷ s)
    by true e v h = passed (is_special b) (option_map (λ r. b ∷ r) (unquoted false (quoted s))) None e ∙ ap (option_map (λ r. b ∷ r)) h
    by false e v h =
        let more = option_map (λ r. b ∷ r) (unquoted false (quoted s)) in
        skipped (b == 92) (unquoted true (quoted s)) (if is_plain b then more else None) (special_cases b e).1
        ∙ passed (is_plain b) more None (plain_from b v e) ∙ ap (option_map (λ r. b ∷ r)) h

-- what was read behind these bytes
abbrev IsQuoted : Bool → List ℕ → List ℕ → Type 0
IsQuoted true raw s = (92 ∷ raw ≡ quoted s) × (list_all is_visible s ≡ true)
IsQuoted false raw s = (raw ≡ quoted s) × (list_all is_visible s ≡ true)

quoted_special : (b : ℕ) (s : List ℕ) → is_special b ≡ true → quoted (b ∷ s) ≡ 92 ∷ b ∷ quoted s
quoted_special b s e = passed (is_special b) (92 ∷ b ∷ quoted s) (b ∷ quoted s) e

quoted_plain : (b : ℕ) (s : List ℕ) → is_special b ≡ false → quoted (b ∷ s) ≡ b ∷ quoted s
quoted_plain b s e = skipped (is_special b) (92 ∷ b ∷ quoted s) (b ∷ quoted s) e

quoted_is : (t : Bool) (raw s : List ℕ) → unquoted t raw ≡ Some s → IsQuoted t raw s
quoted_is true [] s e = absurd cc
quoted_is false [] s e = let same : [] ≡ s = cc in subst (IsQuoted false []) same (refl, refl)
quoted_is true (b ∷ bs) s e =
    let k = taken (is_special b) (option_map (λ r. b ∷ r) (unquoted false bs)) s e in
    let m = made (λ r. b ∷ r) (unquoted false bs) s k.1 in
    let d = quoted_is false bs m.from m.there in
    subst (IsQuoted true (b ∷ bs)) m.is (ap (λ l. 92 ∷ b ∷ l) d.0 ∙ sym (quoted_special b m.from k.0), and_from (is_visible b) (list_all is_visible m.from) (special_visible b k.0) d.1)
quoted_is false (b ∷ bs) s e = by (b == 92) refl e (λ r h. quoted_is true bs r h) (λ r h. quoted_is false bs r h)
  where
    by : (t : Bool) → (b == 92) ≡ t → (if t then unquoted true bs else if is_plain b then option_map (λ r. b ∷ r) (unquoted false bs) else None) ≡ Some s → ((r : List ℕ) → unquoted true bs ≡ Some r → IsQuoted true bs r) → ((r : List ℕ) → unquoted false bs ≡ Some r → IsQuoted false bs r) → IsQuoted false (b ∷ bs) s
    by true t e escaped deeper = let d = escaped s e in (ap (λ c. c ∷ bs) (eqb-true b 92 t) ∙ d.0, d.1)
    by false t e escaped deeper =
        let k = taken (is_plain b) (option_map (λ r. b ∷ r) (unquoted false bs)) s e in
        let m = made (λ r. b ∷ r) (unquoted false bs) s k.1 in
        let d = deeper m.from m.there in
        let v = plain_visible b k.0 in
        subst (IsQuoted false (b ∷ bs)) m.is (ap (λ l. b ∷ l) d.0 ∙ sym (quoted_plain b m.from v.1), and_from (is_visible b) (list_all is_visible m.from) v.0 d.1)

-- ---- strings behind their first quote

pub string_read : (s : List ℕ) → is_string s ≡ true → read_string (quoted s ++ 34 ∷ []) ≡ Some (Const (TextConst s))
string_read s g =
    let k = and_parts (is_utf8 (quoted s)) (list_all is_visible s) g in
    ap (λ o. option_map (λ r. Const (TextConst r)) (option_and_then read_quoted o)) (before_at (34 ∷ []) (quoted s))
    ∙ ap (option_map (λ r. Const (TextConst r))) (passed (is_utf8 (quoted s)) (unquoted false (quoted s)) None k.0 ∙ unquoted_read s k.1)

-- what was read is a string that a program's text can have
pub record StringIs (bytes : List ℕ) (v : Value) : Type 0 where
  pub string : List ℕ
  pub is : Const (TextConst string) ≡ v
  pub text : bytes ≡ quoted string ++ 34 ∷ []
  pub good : is_string string ≡ true

pub string_spelled : (bytes : List ℕ) (v : Value) → read_string bytes ≡ Some v → StringIs bytes v
string_spelled bytes v e =
    let m = made (λ s. Const (TextConst s)) (option_and_then read_quoted (before (34 ∷ []) bytes)) v e in
    let n = made_next read_quoted (before (34 ∷ []) bytes) m.from m.there in
    let k = taken (is_utf8 n.from) (unquoted false n.from) m.from n.is in
    let q = quoted_is false n.from m.from k.1 in
    record {
      string = m.from;
      is = m.is;
      text = before_is (34 ∷ []) bytes n.from n.there ∙ ap (λ l. l ++ 34 ∷ []) q.0;
      good = and_from (is_utf8 (quoted m.from)) (list_all is_visible m.from) (subst (λ r. is_utf8 r ≡ true) q.0 k.0) q.1;
    }

-- ---- bytes

string_inside : (c : ℕ) (s : List ℕ) → stays Inside c (quoted s ++ 34 ∷ []) ≡ true
string_inside c [] = refl
string_inside c (b ∷ s) = by (is_special b) refl (string_inside c s)
  where
    by : (t : Bool) → is_special b ≡ t → stays Inside c (quoted s ++ 34 ∷ []) ≡ true → stays Inside c ((if t then 92 ∷ b ∷ quoted s else b ∷ quoted s) ++ 34 ∷ []) ≡ true
    by true e h = h
    by false e h =
        let k = special_cases b e in
        let next : next_place Inside b ≡ Inside = skipped (b == 34) Outside (if b == 92 then Escaped else Inside) k.0 ∙ skipped (b == 92) Escaped Inside k.1 in
        ap (λ q. stays q c (quoted s ++ 34 ∷ [])) next ∙ h

-- a string is cut at no byte but a quote
pub string_stays : (c : ℕ) (s : List ℕ) → not (34 == c) ≡ true → stays Outside c (string_text s) ≡ true
string_stays c s e = and_from (not (34 == c)) (stays Inside c (quoted s ++ 34 ∷ [])) e (string_inside c s)

quoted_visible : (s : List ℕ) → list_all is_visible s ≡ true → list_all is_visible (quoted s) ≡ true
quoted_visible [] v = refl
quoted_visible (b ∷ s) v =
    let k = and_parts (is_visible b) (list_all is_visible s) v in
    by (is_special b) k.0 (quoted_visible s k.1)
  where
    by : (t : Bool) → is_visible b ≡ true → list_all is_visible (quoted s) ≡ true → list_all is_visible (if t then 92 ∷ b ∷ quoted s else b ∷ quoted s) ≡ true
    by true v h = and_from (is_visible b) (list_all is_visible (quoted s)) v h
    by false v h = and_from (is_visible b) (list_all is_visible (quoted s)) v h

pub string_visible : (s : List ℕ) → is_string s ≡ true → list_all is_visible (quoted s) ≡ true
string_visible s g = quoted_visible s (and_parts (is_utf8 (quoted s)) (list_all is_visible s) g).1

-- ---- the strings of programs

quotes_is : (raw s : List ℕ) → Quotes raw s → (raw ≡ quoted s) × (list_all is_visible s ≡ true)
quotes_is _ _ nothing = (refl, refl)
quotes_is _ _ (plain {b = b} {raw = raw} {text = s} p q) =
    let d = quotes_is raw s q in
    let v = plain_visible b p in
    (ap (λ l. b ∷ l) d.0 ∙ sym (quoted_plain b s v.1), and_from (is_visible b) (list_all is_visible s) v.0 d.1)
quotes_is _ _ (quote {raw = raw} {text = s} q) = let d = quotes_is raw s q in (ap (λ l. 92 ∷ 34 ∷ l) d.0, d.1)
quotes_is _ _ (backslash {raw = raw} {text = s} q) = let d = quotes_is raw s q in (ap (λ l. 92 ∷ 92 ∷ l) d.0, d.1)

-- a string that a token spells is one that a reader takes
pub token_is_string : (s : List ℕ) → IsString s → is_string s ≡ true
token_is_string s (own, rest, (raw, is, utf8, q)) =
    let d = quotes_is raw s q in
    and_from (is_utf8 (quoted s)) (list_all is_visible s) (subst (λ r. is_utf8 r ≡ true) d.0 (is_utf8-from_IsUtf8 raw utf8)) d.1

quotes_of : (s : List ℕ) → list_all is_visible s ≡ true → Quotes (quoted s) s
quotes_of [] v = nothing
quotes_of (b ∷ s) v =
    let k = and_parts (is_visible b) (list_all is_visible s) v in
    by (b == 34) refl (b == 92) refl k.0 (quotes_of s k.1)
  where
    by : (x : Bool) → (b == 34) ≡ x → (y : Bool) → (b == 92) ≡ y → is_visible b ≡ true → Quotes (quoted s) s → Quotes (if x || y then 92 ∷ b ∷ quoted s else b ∷ quoted s) (b ∷ s)
    by true e y f v q = subst (λ c. Quotes (92 ∷ c ∷ quoted s) (c ∷ s)) (sym (eqb-true b 34 e)) (quote q)
    by false e true f v q = subst (λ c. Quotes (92 ∷ c ∷ quoted s) (c ∷ s)) (sym (eqb-true b 92 f)) (backslash q)
    by false e false f v q = plain (rw (v, e, f) refl) q

-- and the other way round
pub string_is_token : (s : List ℕ) → is_string s ≡ true → IsString s
string_is_token s g =
    let k = and_parts (is_utf8 (quoted s)) (list_all is_visible s) g in
    (string_text s, [], (quoted s, refl, IsUtf8-from_is_utf8 (quoted s) k.0, quotes_of s k.1))

-- Values are read as they are written, and so are the values of variables.
use Rattle.std.proofs.Common.{◌≡◌, ℕ, ◌<◌, ◌==◌, Bool, true, false, List, [], ◌∷◌, ◌++◌, length, refl, sym, ap, ◌∙◌, subst, arith, if◌then◌else◌}
use Rattle.std.specs.Prelude.{Option, Some, None, option_map, option_and_then, bytes_eq, nat_le, not, codes}
use Rattle.std.specs.List.{list_all}
use Rattle.std.specs.Fmt.{decimal, signed_decimal}
use Rattle.std.proofs.lemmas.Bool.{and_parts, and_from, leb-true, eqb-true, ne_eqb}
use Rattle.std.proofs.lemmas.Slice.Eq.{bytes_eq-Decides}
use Rattle.pat_semantics_spec.specs.Values.{UnitConst, BoolConst, IntConst, TextConst, Value, Const, Mailbox, Env}
use Rattle.pat_print_spec.specs.Text.{quoted}
use Rattle.pat_texts_spec.specs.Numbers.{is_number, read_number}
use Rattle.pat_texts_spec.specs.Fronts.{behind}
use Rattle.pat_texts_spec.proofs.Choices.{taken, passed, made, made_next}
use Rattle.pat_texts_spec.proofs.Decimals.{number_read, number_spelled}
use Rattle.pat_derivation_text_laws.proofs.Spelled.{behind_is}
use Rattle.pat_texts_spec.specs.Joined.{cut}
use Rattle.pat_texts_spec.proofs.CutAgain.{lacks, within, cut_at, behind_at, all_weaker, all_append, wider, lacks_lower, lacks_higher}
use Rattle.pat_derivation_text_laws.proofs.CertsRead.{number_within}
use Rattle.pat_derivation_text_laws.proofs.LinesSpelled.{cut_is}
use Rattle.pat_checkpoint_spec.specs.text.Outside.{Outside, read_listed}
use Rattle.pat_checkpoint_spec.specs.text.Integers.{read_integer}
use Rattle.pat_checkpoint_spec.specs.text.ValueText.{value_text, values_text, named_text, env_text, is_value, is_named}
use Rattle.pat_checkpoint_spec.specs.text.ValueReading.{read_string, read_word, read_value, read_values, named_with, named_of, read_named, ascends_from, if_ascending, read_env}
use Rattle.pat_checkpoint_laws.specs.text.Readable.{is_env}
use Rattle.pat_checkpoint_laws.proofs.OutsideCuts.{stays, stays_append, plain_stays, listed_stays, all_listed, listed_read, listed_is, listed_sound}
use Rattle.pat_checkpoint_laws.proofs.IntegersRead.{integer_read, integer_spelled, integer_within, integer_some}
use Rattle.pat_checkpoint_laws.proofs.StringsRead.{is_visible, string_read, string_spelled, string_stays, string_visible}

-- ---- bytes

-- what ends a value, or the values of variables
pub data End : Type 0 where
  Space : End
  Comma : End
  Brace : End

abbrev pub end_byte : End → ℕ
end_byte Space = 32
end_byte Comma = 44
end_byte Brace = 125

no_quote : (s : End) → not (34 == end_byte s) ≡ true
no_quote Space = refl
no_quote Comma = refl
no_quote Brace = refl

no_hash : (s : End) → not (35 == end_byte s) ≡ true
no_hash Space = refl
no_hash Comma = refl
no_hash Brace = refl

no_equals : (s : End) → not (61 == end_byte s) ≡ true
no_equals Space = refl
no_equals Comma = refl
no_equals Brace = refl

no_letter : (s : End) → not (118 == end_byte s) ≡ true
no_letter Space = refl
no_letter Comma = refl
no_letter Brace = refl

lacks_end : (s : End) (w : List ℕ) → list_all (within 45 57) w ≡ true → lacks (end_byte s) w ≡ true
lacks_end Space w h = lacks_lower 45 57 32 (omega arith) w h
lacks_end Comma w h = lacks_lower 45 57 44 (omega arith) w h
lacks_end Brace w h = lacks_higher 45 57 125 (omega arith) w h

digits_stay : (s : End) (w : List ℕ) → list_all (within 45 57) w ≡ true → stays Outside (end_byte s) w ≡ true
digits_stay s w h = plain_stays (end_byte s) w (lacks_end s w h) (lacks_lower 45 57 34 (omega arith) w h)

number_stays : (s : End) (n : ℕ) → is_number n ≡ true → stays Outside (end_byte s) (decimal n) ≡ true
number_stays s n g = digits_stay s (decimal n) (wider 48 57 45 57 (omega arith) (omega arith) (decimal n) (number_within n g))

unit_stays : (s : End) → stays Outside (end_byte s) (codes "unit") ≡ true
unit_stays Space = refl
unit_stays Comma = refl
unit_stays Brace = refl

true_stays : (s : End) → stays Outside (end_byte s) (codes "true") ≡ true
true_stays Space = refl
true_stays Comma = refl
true_stays Brace = refl

false_stays : (s : End) → stays Outside (end_byte s) (codes "false") ≡ true
false_stays Space = refl
false_stays Comma = refl
false_stays Brace = refl

pub value_stays : (s : End) (v : Value) → is_value v ≡ true → stays Outside (end_byte s) (value_text v) ≡ true
value_stays s (Const UnitConst) g = unit_stays s
value_stays s (Const (BoolConst true)) g = true_stays s
value_stays s (Const (BoolConst false)) g = false_stays s
value_stays s (Const (IntConst n)) g = digits_stay s (signed_decimal n) (integer_within n g)
value_stays s (Const (TextConst t)) g = string_stays (end_byte s) t (no_quote s)
value_stays s (Mailbox a) g = and_from (not (35 == end_byte s)) (stays Outside (end_byte s) (decimal a)) (no_hash s) (number_stays s a g)

-- no newline
abbrev pub is_inline : ℕ → Bool
is_inline b = not (b == 10)

visible_inline : (w : List ℕ) → list_all is_visible w ≡ true → list_all is_inline w ≡ true
visible_inline w h = all_weaker is_visible is_inline (λ b v. let low = leb-true 32 b v in ap not (ne_eqb b 10 (λ z. omega (arith, z, low)))) w h

pub number_inline : (n : ℕ) → is_number n ≡ true → list_all is_inline (decimal n) ≡ true
number_inline n g = lacks_lower 48 57 10 (omega arith) (decimal n) (number_within n g)

pub value_inline : (v : Value) → is_value v ≡ true → list_all is_inline (value_text v) ≡ true
value_inline (Const UnitConst) g = refl
value_inline (Const (BoolConst true)) g = refl
value_inline (Const (BoolConst false)) g = refl
value_inline (Const (IntConst n)) g = lacks_lower 45 57 10 (omega arith) (signed_decimal n) (integer_within n g)
value_inline (Const (TextConst t)) g = all_append is_inline (quoted t) (34 ∷ []) (visible_inline (quoted t) (string_visible t g)) refl
value_inline (Mailbox a) g = number_inline a g

value_some : (v : Value) → is_value v ≡ true → 0 < length (value_text v)
value_some (Const UnitConst) g = omega arith
value_some (Const (BoolConst true)) g = omega arith
value_some (Const (BoolConst false)) g = omega arith
value_some (Const (IntConst n)) g = integer_some n g
value_some (Const (TextConst t)) g = omega arith
value_some (Mailbox a) g = omega arith

-- ---- values

clash : (t : Bool) → t ≡ true → t ≡ false → ⊥
clash true a b = cc
clash false a b = cc

-- what stands for an integer is no other word
no_word : (w bs : List ℕ) → list_all (within 45 57) bs ≡ true → list_all (within 45 57) w ≡ false → bytes_eq bs w ≡ false
no_word w bs h n = by (bytes_eq bs w) refl
  where
    by : (t : Bool) → bytes_eq bs w ≡ t → t ≡ false
    by false e = refl
    by true e = absurd (clash (list_all (within 45 57) w) (ap (list_all (within 45 57)) (sym ((bytes_eq-Decides bs w).0 e)) ∙ h) n)

digits_value : (bs : List ℕ) → list_all (within 45 57) bs ≡ true → 0 < length bs → read_value bs ≡ option_map (λ n. Const (IntConst n)) (read_integer bs)
digits_value [] h some = absurd (omega (arith, some))
digits_value (b ∷ bs) h some =
    let k = and_parts (within 45 57 b) (list_all (within 45 57) bs) h in
    let low = leb-true 45 b (and_parts (nat_le 45 b) (nat_le b 57) k.0).0 in
    rw (ne_eqb b 34 (λ z. omega (arith, z, low)), ne_eqb b 35 (λ z. omega (arith, z, low)), no_word (codes "unit") (b ∷ bs) h refl, no_word (codes "true") (b ∷ bs) h refl, no_word (codes "false") (b ∷ bs) h refl) refl

pub value_read : (v : Value) → is_value v ≡ true → read_value (value_text v) ≡ Some v
value_read (Const UnitConst) g = refl
value_read (Const (BoolConst true)) g = refl
value_read (Const (BoolConst false)) g = refl
value_read (Const (IntConst n)) g = digits_value (signed_decimal n) (integer_within n g) (integer_some n g) ∙ ap (option_map (λ n. Const (IntConst n))) (integer_read n g)
value_read (Const (TextConst s)) g = string_read s g
value_read (Mailbox a) g = ap (option_map Mailbox) (number_read a g)

-- the bytes are the value's, and a reader takes it
abbrev pub IsValueText : List ℕ → Value → Type 0
IsValueText bytes v = (bytes ≡ value_text v) × (is_value v ≡ true)

-- the value of this word, or what the others read
one_word : (bytes w : List ℕ) (x : Value) (others : Option Value) (v : Value) → (bytes ≡ w → IsValueText bytes x) → (others ≡ Some v → IsValueText bytes v) → (if bytes_eq bytes w then Some x else others) ≡ Some v → IsValueText bytes v
one_word bytes w x others v here further h = by (bytes_eq bytes w) refl h
  where
    by : (b : Bool) → bytes_eq bytes w ≡ b → (if b then Some x else others) ≡ Some v → IsValueText bytes v
    by true t h = let same : x ≡ v = cc in subst (IsValueText bytes) same (here ((bytes_eq-Decides bytes w).0 t))
    by false t h = further h

word_spelled : (bytes : List ℕ) (v : Value) → read_word bytes ≡ Some v → IsValueText bytes v
word_spelled bytes v h =
    one_word bytes (codes "unit") (Const UnitConst) _ v (λ e. (e, refl))
    (one_word bytes (codes "true") (Const (BoolConst true)) _ v (λ e. (e, refl))
    (one_word bytes (codes "false") (Const (BoolConst false)) _ v (λ e. (e, refl)) integer))
    h
  where
    integer : option_map (λ n. Const (IntConst n)) (read_integer bytes) ≡ Some v → IsValueText bytes v
    integer e =
        let m = made (λ n. Const (IntConst n)) (read_integer bytes) v e in
        subst (IsValueText bytes) m.is (integer_spelled bytes m.from m.there)

pub value_spelled : (bytes : List ℕ) (v : Value) → read_value bytes ≡ Some v → IsValueText bytes v
value_spelled [] v e = absurd cc
value_spelled (b ∷ bs) v e = first (b == 34) refl e
  where
    second : (t : Bool) → (b == 35) ≡ t → (if t then option_map Mailbox (read_number bs) else read_word (b ∷ bs)) ≡ Some v → IsValueText (b ∷ bs) v
    second true t e =
        let m = made Mailbox (read_number bs) v e in
        let n = number_spelled bs m.from m.there in
        subst (IsValueText (b ∷ bs)) m.is (ap (λ c. c ∷ bs) (eqb-true b 35 t) ∙ ap (λ l. 35 ∷ l) n.0, n.1)
    second false t e = word_spelled (b ∷ bs) v e

    first : (t : Bool) → (b == 34) ≡ t → (if t then read_string bs else if b == 35 then option_map Mailbox (read_number bs) else read_word (b ∷ bs)) ≡ Some v → IsValueText (b ∷ bs) v
    first true t e =
        let s = string_spelled bs v e in
        subst (IsValueText (b ∷ bs)) s.is (ap (λ c. c ∷ bs) (eqb-true b 34 t) ∙ ap (λ l. 34 ∷ l) s.text, s.good)
    first false t e = second (b == 35) refl e

-- ---- payloads

pub values_read : (vs : List Value) → list_all is_value vs ≡ true → read_values (values_text vs) ≡ Some vs
values_read vs g = listed_read value_text is_value read_value value_read (value_stays Comma) value_some vs g

pub values_spelled : (bytes : List ℕ) (vs : List Value) → read_values bytes ≡ Some vs → (bytes ≡ values_text vs) × (list_all is_value vs ≡ true)
values_spelled bytes vs e =
    (listed_is value_text is_value read_value (λ x v h. (value_spelled x v h).0) bytes vs e, listed_sound value_text is_value read_value (λ x v h. (value_spelled x v h).1) bytes vs e)

pub values_inline : (vs : List Value) → list_all is_value vs ≡ true → list_all is_inline (values_text vs) ≡ true
values_inline vs g = all_listed value_text is_value is_inline refl refl value_inline vs g

-- ---- values of variables

named_stays : (s : End) (e : ℕ × Value) → is_named e ≡ true → stays Outside (end_byte s) (named_text e) ≡ true
named_stays s e g =
    let k = and_parts (is_number e.0) (is_value e.1) g in
    let c = end_byte s in
    and_from (not (118 == c)) (stays Outside c (decimal e.0 ++ 61 ∷ value_text e.1)) (no_letter s)
    (stays_append Outside c (decimal e.0) (61 ∷ value_text e.1) (number_stays s e.0 k.0) (and_from (not (61 == c)) (stays Outside c (value_text e.1)) (no_equals s) (value_stays s e.1 k.1)))

named_inline : (e : ℕ × Value) → is_named e ≡ true → list_all is_inline (named_text e) ≡ true
named_inline e g =
    let k = and_parts (is_number e.0) (is_value e.1) g in
    all_append is_inline (decimal e.0) (61 ∷ value_text e.1) (number_inline e.0 k.0) (value_inline e.1 k.1)

named_read : (e : ℕ × Value) → is_named e ≡ true → read_named (named_text e) ≡ Some e
named_read e g =
    let k = and_parts (is_number e.0) (is_value e.1) g in
    let own = decimal e.0 in
    let more = value_text e.1 in
    ap (option_and_then (λ l. option_and_then named_of (cut 61 l))) (behind_at (118 ∷ []) (own ++ 61 ∷ more))
    ∙ ap (option_and_then named_of) (cut_at 61 own more (lacks_higher 48 57 61 (omega arith) own (number_within e.0 k.0)))
    ∙ ap (option_and_then (named_with more)) (number_read e.0 k.0)
    ∙ ap (option_map (λ v. (e.0, v))) (value_read e.1 k.1)

named_spelled : (bytes : List ℕ) (e : ℕ × Value) → read_named bytes ≡ Some e → (bytes ≡ named_text e) × (is_named e ≡ true)
named_spelled bytes e h =
    let m = made_next (λ l. option_and_then named_of (cut 61 l)) (behind (118 ∷ []) bytes) e h in
    let n = made_next named_of (cut 61 m.from) e m.is in
    let r = n.from in
    let o = made_next (named_with r.1) (read_number r.0) e n.is in
    let u = made (λ v. (o.from, v)) (read_value r.1) e o.is in
    let number = number_spelled r.0 o.from o.there in
    let value = value_spelled r.1 u.from u.there in
    subst (λ e. (bytes ≡ named_text e) × (is_named e ≡ true)) u.is
    (behind_is [] (118 ∷ []) bytes m.from m.there ∙ ap (λ l. 118 ∷ l) (cut_is 61 m.from r n.there ∙ ap (λ l. l ++ 61 ∷ r.1) number.0 ∙ ap (λ l. decimal o.from ++ 61 ∷ l) value.0), and_from (is_number o.from) (is_value u.from) number.1 value.1)

pub env_read : (env : Env) → is_env env ≡ true → read_env (env_text env) ≡ Some env
env_read env g =
    let k = and_parts (ascends_from 0 env) (list_all is_named env) g in
    ap (option_and_then if_ascending) (listed_read named_text is_named read_named named_read (named_stays Comma) (λ e h. omega arith) env k.1)
    ∙ passed (ascends_from 0 env) (Some env) None k.0

pub env_spelled : (bytes : List ℕ) (env : Env) → read_env bytes ≡ Some env → (bytes ≡ env_text env) × (is_env env ≡ true)
env_spelled bytes env e =
    let m = made_next if_ascending (read_listed read_named bytes) env e in
    let k = taken (ascends_from 0 m.from) (Some m.from) env m.is in
    let same : m.from ≡ env = cc in
    subst (λ l. (bytes ≡ env_text l) × (is_env l ≡ true)) same (
      listed_is named_text is_named read_named (λ x v h. (named_spelled x v h).0) bytes m.from m.there,
      and_from (ascends_from 0 m.from) (list_all is_named m.from) k.0 (listed_sound named_text is_named read_named (λ x v h. (named_spelled x v h).1) bytes m.from m.there),
    )

pub env_stays : (env : Env) → is_env env ≡ true → stays Outside 125 (env_text env) ≡ true
env_stays env g = listed_stays named_text is_named 125 refl refl (named_stays Brace) env (and_parts (ascends_from 0 env) (list_all is_named env) g).1

pub env_inline : (env : Env) → is_env env ≡ true → list_all is_inline (env_text env) ≡ true
env_inline env g = all_listed named_text is_named is_inline refl refl named_inline env (and_parts (ascends_from 0 env) (list_all is_named env) g).1

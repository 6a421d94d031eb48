-- The text of a value, and of the values of variables.
use Rattle.std.specs.Prelude.{ℕ, Bool, true, false, ◌&&◌, nat_le, List, [], ◌∷◌, ◌++◌, codes}
use Rattle.std.specs.List.{list_all}
use Rattle.std.specs.Str.{is_utf8}
use Rattle.std.specs.Fmt.{decimal, signed_decimal}
use Rattle.pat_semantics_spec.specs.Values.{Constant, UnitConst, BoolConst, IntConst, TextConst, Value, Const, Mailbox, Env}
use Rattle.pat_print_spec.specs.Text.{quoted}
use Rattle.pat_texts_spec.specs.Numbers.{is_number}
use Rattle.pat_checkpoint_spec.specs.text.Outside.{listed}
use Rattle.pat_checkpoint_spec.specs.text.Integers.{is_integer}

-- a string as a program's canonical text has it
abbrev pub string_text : List ℕ → List ℕ
string_text s = 34 ∷ (quoted s ++ 34 ∷ [])

abbrev pub constant_text : Constant → List ℕ
constant_text UnitConst = codes "unit"
constant_text (BoolConst true) = codes "true"
constant_text (BoolConst false) = codes "false"
constant_text (IntConst n) = signed_decimal n
constant_text (TextConst s) = string_text s

-- a mailbox is its number behind a hash
abbrev pub value_text : Value → List ℕ
value_text (Const c) = constant_text c
value_text (Mailbox a) = 35 ∷ decimal a

-- values with a comma and a space between
abbrev pub values_text : List Value → List ℕ
values_text vs = listed value_text vs

-- a variable and its value
abbrev pub named_text : ℕ × Value → List ℕ
named_text e = 118 ∷ (decimal e.0 ++ 61 ∷ value_text e.1)

abbrev pub env_text : Env → List ℕ
env_text es = listed named_text es

-- ---- what is read again

-- a string that a program's text can have
abbrev pub is_string : List ℕ → Bool
is_string s = is_utf8 (quoted s) && list_all (λ b. nat_le 32 b) s

abbrev pub is_constant : Constant → Bool
is_constant UnitConst = true
is_constant (BoolConst b) = true
is_constant (IntConst n) = is_integer n
is_constant (TextConst s) = is_string s

-- a value that a reader takes
abbrev pub is_value : Value → Bool
is_value (Const c) = is_constant c
is_value (Mailbox a) = is_number a

abbrev pub is_named : ℕ × Value → Bool
is_named e = is_number e.0 && is_value e.1

-- How values are read, and the values of variables.
use Rattle.std.specs.Prelude.{ℕ, suc, ◌==◌, ◌||◌, Bool, true, false, ◌&&◌, bytes_eq, nat_le, if◌then◌else◌, List, [], ◌∷◌, Option, Some, None, option_map, option_and_then, codes}
use Rattle.std.specs.Str.{is_utf8}
use Rattle.pat_lexer_spec.specs.Characters.{is_plain}
use Rattle.pat_semantics_spec.specs.Values.{UnitConst, BoolConst, IntConst, TextConst, Value, Const, Mailbox, Env}
use Rattle.pat_texts_spec.specs.Numbers.{read_number}
use Rattle.pat_texts_spec.specs.Fronts.{behind}
use Rattle.pat_texts_spec.specs.Joined.{cut, before}
use Rattle.pat_checkpoint_spec.specs.text.Outside.{read_listed}
use Rattle.pat_checkpoint_spec.specs.text.Integers.{read_integer}

-- what the bytes between quotes stand for; the first may be one that a backslash stands before
abbrev pub unquoted : (escaped : Bool) → List ℕ → Option (List ℕ)
unquoted true [] = None
unquoted true (b ∷ bs) = if b == 34 || b == 92 then option_map (λ s. b ∷ s) (unquoted false bs) else None
unquoted false [] = Some []
unquoted false (b ∷ bs) =
    if b == 92 then unquoted true bs else if is_plain b then option_map (λ s. b ∷ s) (unquoted false bs) else None

-- only UTF-8 makes a string
abbrev pub read_quoted : List ℕ → Option (List ℕ)
read_quoted raw = if is_utf8 raw then unquoted false raw else None

-- the string behind its first quote
abbrev pub read_string : List ℕ → Option Value
read_string bytes = option_map (λ s. Const (TextConst s)) (option_and_then read_quoted (before (34 ∷ []) bytes))

abbrev pub read_word : List ℕ → Option Value
read_word bytes =
    if bytes_eq bytes (codes "unit") then Some (Const UnitConst)
    else if bytes_eq bytes (codes "true") then Some (Const (BoolConst true))
    else if bytes_eq bytes (codes "false") then Some (Const (BoolConst false))
    else option_map (λ n. Const (IntConst n)) (read_integer bytes)

-- a string, a mailbox, or else a word or an integer
abbrev pub read_value : List ℕ → Option Value
read_value [] = None
read_value (b ∷ bs) =
    if b == 34 then read_string bs else if b == 35 then option_map Mailbox (read_number bs) else read_word (b ∷ bs)

abbrev pub read_values : List ℕ → Option (List Value)
read_values bytes = read_listed read_value bytes

-- ---- values of variables

abbrev pub named_with : List ℕ → ℕ → Option (ℕ × Value)
named_with bytes x = option_map (λ v. (x, v)) (read_value bytes)

abbrev pub named_of : List ℕ × List ℕ → Option (ℕ × Value)
named_of r = option_and_then (named_with r.1) (read_number r.0)

abbrev pub read_named : List ℕ → Option (ℕ × Value)
read_named bytes = option_and_then (λ more. option_and_then named_of (cut 61 more)) (behind (118 ∷ []) bytes)

-- the variables are in ascending order, from n on
abbrev pub ascends_from : ℕ → Env → Bool
ascends_from n [] = true
ascends_from n (e ∷ es) = nat_le n e.0 && ascends_from (suc e.0) es

abbrev pub if_ascending : Env → Option Env
if_ascending es = if ascends_from 0 es then Some es else None

abbrev pub read_env : List ℕ → Option Env
read_env bytes = option_and_then if_ascending (read_listed read_named bytes)

-- The text of a part of a tree.
use Rattle.std.specs.Prelude.{ℕ, List, [], ◌∷◌, ◌++◌, Option, Some, None}
use Rattle.pat_lexer_spec.specs.Words as word
use Rattle.pat_lexer_spec.specs.Marks as mark
use Rattle.pat_parser_spec.specs.Trees.{Name, Pattern, WrittenType, Param, Expr, Term}
use Rattle.pat_print_spec.specs.Canonical.{Onto, Blank, marked, worded, name_onto, braced, list_onto, expr_onto, pattern_onto, type_onto, opens_simple, param_onto, term_onto}
use Rattle.pat_print_spec.specs.Text.{text_of}

-- the bytes that a part puts before those that follow it
abbrev pub bytes_of : Onto → List ℕ
bytes_of f = text_of (f [])

-- further texts, each behind a comma and a space
abbrev pub behind_commas : List (List ℕ) → List ℕ
behind_commas [] = []
behind_commas (x ∷ xs) = 44 ∷ 32 ∷ (x ++ behind_commas xs)

-- texts with a comma and a space between
abbrev pub separated : List (List ℕ) → List ℕ
separated [] = []
separated (x ∷ xs) = x ++ behind_commas xs

-- a let, or a sequence, up to its body
abbrev pub binding_onto : Option Name → Term → Onto
binding_onto None m r = braced (opens_simple m) (term_onto m) (marked mark.Semicolon (Blank ∷ r))
binding_onto (Some x) m r = worded word.Let (Blank ∷ name_onto x (Blank ∷ marked mark.Equals (Blank ∷ braced (opens_simple m) (term_onto m) (Blank ∷ worded word.In (Blank ∷ r)))))

-- the test of a branch, up to the first block
abbrev pub test_onto : Expr → Onto
test_onto e r = worded word.If (Blank ∷ expr_onto e (Blank ∷ r))

-- a guard up to its first clause
abbrev pub guarded_onto : Name → Pattern → Onto
guarded_onto x p r = worded word.Guard (Blank ∷ name_onto x (Blank ∷ marked mark.Colon (Blank ∷ pattern_onto p (Blank ∷ marked mark.CurlyOpen (Blank ∷ r)))))

-- names in brackets
abbrev pub names_onto : List Name → Onto
names_onto ns r = marked mark.RoundOpen (list_onto name_onto ns (marked mark.RoundClose r))

-- a receiving clause up to its body
abbrev pub received_onto : Name → List Name → Name → Onto
received_onto x ns y r = worded word.Receive (Blank ∷ name_onto x (names_onto ns (Blank ∷ worded word.From (Blank ∷ name_onto y (Blank ∷ marked mark.Arrow (Blank ∷ r))))))

-- parameters in brackets
abbrev pub params_onto : List Param → Onto
params_onto ps r = marked mark.RoundOpen (list_onto param_onto ps (marked mark.RoundClose r))

-- payloads in brackets
abbrev pub payloads_onto : List WrittenType → Onto
payloads_onto types r = marked mark.RoundOpen (list_onto type_onto types (marked mark.RoundClose r))

-- What each printing function appends, piece by piece, is the text of its part.
use Rattle.std.proofs.Common.{◌≡◌, ℕ, Bool, true, List, [], ◌∷◌, ◌++◌, map, refl, ap, sym, ◌∙◌, append_assoc, append-nil, Some, None, Option, arith}
use Rattle.std.specs.Prelude.{pos}
use Rattle.std.proofs.lemmas.Fmt.{decimal_digit}
use Rattle.pat_lexer_spec.specs.Words as word
use Rattle.pat_lexer_spec.specs.Marks as mark
use Rattle.pat_lexer_spec.specs.Tokens.{Mark, Word, Integer}
use Rattle.pat_semantics_spec.specs.Values.{Op}
use Rattle.pat_semantics_spec.specs.Programs.{Polarity}
use Rattle.pat_parser_spec.specs.Trees as trees
use Rattle.pat_parser_spec.specs.Trees.{Span, Expr, Pattern, Term, LetTerm, IfTerm, PrintTerm, NewTerm, SpawnTerm, FreeTerm, SendTerm, CallTerm, GuardTerm, Clause, FreeClause, ReceiveClause, Clauses, WrittenType, MailboxType, Decl, InterfaceDecl, DefDecl}
use Rattle.pat_print_spec.specs.Canonical.{Piece, Pieces, Onto, Tok, Blank, Line, name_onto, bracketed, braced, more_onto, list_onto, op_token, expr_onto, pattern_onto, polarity_mark, written_onto, type_onto, opens_simple, args_onto, term_onto, clause_onto, clauses_onto, message_onto, param_onto, decl_onto, tree_onto}
use Rattle.pat_print_spec.specs.Bare.{nowhere}
use Rattle.pat_print_spec.specs.Text.{token_bytes, text_of}
use Rattle.pat_lexer_spec.specs.Marks.{mark_bytes}
use Rattle.pat_print.specs.Parts.{behind_commas, separated, binding_onto, test_onto, guarded_onto, names_onto, received_onto, params_onto, payloads_onto}
use Rattle.pat_print.proofs.Keeping.{Keeps, piece, both, in_brackets, in_braces, list_keeps, name_keeps, expr_keeps, pattern_keeps, written_keeps, type_keeps, args_keeps, term_keeps, clause_keeps, clauses_keeps, message_keeps, decl_keeps, tree_keeps, binding_keeps, test_keeps, guarded_keeps, names_keeps, received_keeps, params_keeps, payloads_keeps}

-- ---- parts in a row

two : {f g : Onto} (out : List ℕ) → Keeps f → Keeps g → out ++ text_of (f []) ++ text_of (g []) ≡ out ++ text_of (f (g []))
two {f} {g} out h k = append_assoc out (text_of (f [])) (text_of (g [])) ∙ ap (λ l. out ++ l) (sym (h.is (g [])))

three : {f g h : Onto} (out : List ℕ) → Keeps f → Keeps g → Keeps h → out ++ text_of (f []) ++ text_of (g []) ++ text_of (h []) ≡ out ++ text_of (f (g (h [])))
three {h = h} out a b c = ap (λ l. l ++ text_of (h [])) (two out a b) ∙ two out (both a b) c

four : {f g h k : Onto} (out : List ℕ) → Keeps f → Keeps g → Keeps h → Keeps k → out ++ text_of (f []) ++ text_of (g []) ++ text_of (h []) ++ text_of (k []) ≡ out ++ text_of (f (g (h (k []))))
four {k = k} out a b c d = ap (λ l. l ++ text_of (k [])) (three out a b c) ∙ two out (both a (both b c)) d

five : {f g h k l : Onto} (out : List ℕ) → Keeps f → Keeps g → Keeps h → Keeps k → Keeps l → out ++ text_of (f []) ++ text_of (g []) ++ text_of (h []) ++ text_of (k []) ++ text_of (l []) ≡ out ++ text_of (f (g (h (k (l [])))))
five {l = l} out a b c d e = ap (λ t. t ++ text_of (l [])) (four out a b c d) ∙ two out (both a (both b (both c d))) e

six : {f g h k l m : Onto} (out : List ℕ) → Keeps f → Keeps g → Keeps h → Keeps k → Keeps l → Keeps m → out ++ text_of (f []) ++ text_of (g []) ++ text_of (h []) ++ text_of (k []) ++ text_of (l []) ++ text_of (m []) ≡ out ++ text_of (f (g (h (k (l (m []))))))
six {m = m} out a b c d e f = ap (λ t. t ++ text_of (m [])) (five out a b c d e) ∙ two out (both a (both b (both c (both d e)))) f

abbrev marked_by : mark.Mark → Piece
marked_by m = Tok (Mark m)

abbrev worded_by : word.Reserved → Piece
worded_by w = Tok (Word w)

pair : (p q : Piece) → Keeps (λ r. p ∷ q ∷ r)
pair p q = both (piece p) (piece q)

triple : (p q s : Piece) → Keeps (λ r. p ∷ q ∷ s ∷ r)
triple p q s = both (piece p) (pair q s)

-- ---- lists

more_is : {A B : Type 0} (f : B → Onto) (v : A → B) → ((y : B) → Keeps (f y)) → (xs : List A) (r : Pieces) → text_of (more_onto f (map v xs) r) ≡ behind_commas (map (λ x. text_of (f (v x) [])) xs) ++ text_of r
more_is f v k [] r = refl
more_is f v k (x ∷ xs) r = rw ((k (v x)).is (more_onto f (map v xs) r), more_is f v k xs r, append_assoc) refl

-- the texts of entries with commas between are the text of the list
pub list_is : {A B : Type 0} (f : B → Onto) (v : A → B) → ((y : B) → Keeps (f y)) → (xs : List A) → text_of (list_onto f (map v xs) []) ≡ separated (map (λ x. text_of (f (v x) [])) xs)
list_is f v k [] = refl
list_is f v k (x ∷ xs) = rw ((k (v x)).is (more_onto f (map v xs) []), more_is f v k xs []) (ap (λ l. text_of (f (v x) []) ++ l) (append-nil (behind_commas (map (λ x. text_of (f (v x) [])) xs))))

-- the same in brackets
pub bracketed_list_is : {A B : Type 0} (f : B → Onto) (v : A → B) → ((y : B) → Keeps (f y)) → (out : List ℕ) (xs : List A) → out ++ 40 ∷ [] ++ separated (map (λ x. text_of (f (v x) [])) xs) ++ 41 ∷ [] ≡ out ++ text_of (Tok (Mark mark.RoundOpen) ∷ list_onto f (map v xs) (Tok (Mark mark.RoundClose) ∷ []))
bracketed_list_is f v k out xs = ap (λ l. out ++ 40 ∷ [] ++ l ++ 41 ∷ []) (sym (list_is f v k xs)) ∙ three out (piece (Tok (Mark mark.RoundOpen))) (list_keeps k (map v xs)) (piece (Tok (Mark mark.RoundClose)))

pub list_put : {A B : Type 0} (f : B → Onto) (v : A → B) → ((y : B) → Keeps (f y)) → (out one : List ℕ) (xs ys : List A) → ys ≡ xs → one ≡ out ++ separated (map (λ x. text_of (f (v x) [])) ys) → one ≡ out ++ text_of (list_onto f (map v xs) [])
list_put f v k out one xs ys same a = rw (a, same, list_is f v k xs) refl

-- brackets put before and behind a list
pub bracketed_list_put : {A B : Type 0} (f : B → Onto) (v : A → B) → ((y : B) → Keeps (f y)) → (out one two' three' : List ℕ) (xs ys : List A) → ys ≡ xs → one ≡ out ++ 40 ∷ [] → two' ≡ one ++ separated (map (λ x. text_of (f (v x) [])) ys) → three' ≡ two' ++ 41 ∷ [] → three' ≡ out ++ text_of (Tok (Mark mark.RoundOpen) ∷ list_onto f (map v xs) (Tok (Mark mark.RoundClose) ∷ []))
bracketed_list_put f v k out one two' three' xs ys same a b c = rw (c, b, a, same) (bracketed_list_is f v k out xs)

-- ---- expressions

pub operand_is : (out : List ℕ) (e : Expr) → out ++ 40 ∷ [] ++ text_of (expr_onto e []) ++ 41 ∷ [] ≡ out ++ text_of (bracketed true (expr_onto e) [])
operand_is out e = three out (piece (marked_by mark.RoundOpen)) (expr_keeps e) (piece (marked_by mark.RoundClose))

pub sides_are : (out : List ℕ) (op : Op) (c : Bool) (d : Bool) (a : Expr) (b : Expr) → out ++ text_of (bracketed c (expr_onto a) []) ++ 32 ∷ (token_bytes (op_token op) ++ 32 ∷ []) ++ text_of (bracketed d (expr_onto b) []) ≡ out ++ text_of (bracketed c (expr_onto a) (Blank ∷ Tok (op_token op) ∷ Blank ∷ bracketed d (expr_onto b) []))
sides_are out op c d a b = three out (in_brackets c (expr_keeps a)) (triple Blank (Tok (op_token op)) Blank) (in_brackets d (expr_keeps b))

-- ---- patterns and types

pub part_is : (out : List ℕ) (p : Pattern) → out ++ 40 ∷ [] ++ text_of (pattern_onto p []) ++ 41 ∷ [] ≡ out ++ text_of (bracketed true (pattern_onto p) [])
part_is out p = three out (piece (marked_by mark.RoundOpen)) (pattern_keeps p) (piece (marked_by mark.RoundClose))

pub sum_is : (out : List ℕ) (c : Bool) (p : Pattern) (q : Pattern) → out ++ text_of (pattern_onto p []) ++ 32 ∷ 43 ∷ 32 ∷ [] ++ text_of (bracketed c (pattern_onto q) []) ≡ out ++ text_of (pattern_onto p (Blank ∷ Tok (Mark mark.Plus) ∷ Blank ∷ bracketed c (pattern_onto q) []))
sum_is out c p q = three out (pattern_keeps p) (triple Blank (marked_by mark.Plus) Blank) (in_brackets c (pattern_keeps q))

pub prod_is : (out : List ℕ) (c : Bool) (d : Bool) (p : Pattern) (q : Pattern) → out ++ text_of (bracketed c (pattern_onto p) []) ++ 46 ∷ [] ++ text_of (bracketed d (pattern_onto q) []) ≡ out ++ text_of (bracketed c (pattern_onto p) (Tok (Mark mark.Dot) ∷ bracketed d (pattern_onto q) []))
prod_is out c d p q = three out (in_brackets c (pattern_keeps p)) (piece (marked_by mark.Dot)) (in_brackets d (pattern_keeps q))

pub star_is : (out : List ℕ) (c : Bool) (p : Pattern) → out ++ 42 ∷ [] ++ text_of (bracketed c (pattern_onto p) []) ≡ out ++ text_of (Tok (Mark mark.Star) ∷ bracketed c (pattern_onto p) [])
star_is out c p = two out (piece (marked_by mark.Star)) (in_brackets c (pattern_keeps p))

pub zero_is : text_of (Tok (Integer (pos 0)) ∷ []) ≡ 48 ∷ []
zero_is = ap (λ l. l ++ []) (decimal_digit 0 (omega arith))

pub one_is : text_of (Tok (Integer (pos 1)) ∷ []) ≡ 49 ∷ []
one_is = ap (λ l. l ++ []) (decimal_digit 1 (omega arith))

pub mailbox_is : (out : List ℕ) (x : trees.Name) (q : Polarity) (p : Option Pattern) → out ++ text_of (name_onto x []) ++ mark_bytes (polarity_mark q) ++ text_of (written_onto p []) ≡ out ++ text_of (type_onto (MailboxType x q p nowhere) [])
mailbox_is out x q p = ap (λ l. out ++ text_of (name_onto x []) ++ l ++ text_of (written_onto p [])) (sym (append-nil (mark_bytes (polarity_mark q)))) ∙ three out (name_keeps x) (piece (Tok (Mark (polarity_mark q)))) (written_keeps p)

-- ---- terms

pub call_is : (out : List ℕ) (f : trees.Name) (es : List Expr) → out ++ text_of (name_onto f []) ++ text_of (args_onto es []) ≡ out ++ text_of (term_onto (CallTerm f es nowhere) [])
call_is out f es = two out (name_keeps f) (args_keeps es)

pub send_is : (out : List ℕ) (x : trees.Name) (y : trees.Name) (es : List Expr) → out ++ text_of (name_onto x []) ++ 32 ∷ 33 ∷ 32 ∷ [] ++ text_of (name_onto y []) ++ text_of (args_onto es []) ≡ out ++ text_of (term_onto (SendTerm x y es nowhere) [])
send_is out x y es = four out (name_keeps x) (triple Blank (marked_by mark.Bang) Blank) (name_keeps y) (args_keeps es)

pub print_is : (out : List ℕ) (e : Expr) → out ++ 112 ∷ 114 ∷ 105 ∷ 110 ∷ 116 ∷ 40 ∷ [] ++ text_of (expr_onto e []) ++ 41 ∷ [] ≡ out ++ text_of (term_onto (PrintTerm e nowhere) [])
print_is out e = three out (pair (worded_by word.Print) (marked_by mark.RoundOpen)) (expr_keeps e) (piece (marked_by mark.RoundClose))

pub new_is : (out : List ℕ) (x : trees.Name) → out ++ 110 ∷ 101 ∷ 119 ∷ 91 ∷ [] ++ text_of (name_onto x []) ++ 93 ∷ [] ≡ out ++ text_of (term_onto (NewTerm x nowhere) [])
new_is out x = three out (pair (worded_by word.New) (marked_by mark.SquareOpen)) (name_keeps x) (piece (marked_by mark.SquareClose))

pub free_is : (out : List ℕ) (x : trees.Name) → out ++ 102 ∷ 114 ∷ 101 ∷ 101 ∷ 40 ∷ [] ++ text_of (name_onto x []) ++ 41 ∷ [] ≡ out ++ text_of (term_onto (FreeTerm x nowhere) [])
free_is out x = three out (pair (worded_by word.Free) (marked_by mark.RoundOpen)) (name_keeps x) (piece (marked_by mark.RoundClose))

pub spawn_is : (out : List ℕ) (m : Term) → out ++ 115 ∷ 112 ∷ 97 ∷ 119 ∷ 110 ∷ 32 ∷ [] ++ text_of (braced true (term_onto m) []) ≡ out ++ text_of (term_onto (SpawnTerm m nowhere) [])
spawn_is out m = two out (pair (worded_by word.Spawn) Blank) (in_braces true (term_keeps m))

pub test_is : (out : List ℕ) (e : Expr) → out ++ 105 ∷ 102 ∷ 32 ∷ [] ++ text_of (expr_onto e []) ++ 32 ∷ [] ≡ out ++ text_of (test_onto e [])
test_is out e = three out (pair (worded_by word.If) Blank) (expr_keeps e) (piece Blank)

pub if_is : (out : List ℕ) (e : Expr) (m : Term) (n : Term) → out ++ text_of (test_onto e []) ++ text_of (braced true (term_onto m) []) ++ 32 ∷ 101 ∷ 108 ∷ 115 ∷ 101 ∷ 32 ∷ [] ++ text_of (braced true (term_onto n) []) ≡ out ++ text_of (term_onto (IfTerm e m n nowhere) [])
if_is out e m n = four out (test_keeps e) (in_braces true (term_keeps m)) (triple Blank (worded_by word.Else) Blank) (in_braces true (term_keeps n))

pub block_is : (out : List ℕ) (m : Term) → out ++ 123 ∷ 32 ∷ [] ++ text_of (term_onto m []) ++ 32 ∷ 125 ∷ [] ≡ out ++ text_of (braced true (term_onto m) [])
block_is out m = three out (pair (marked_by mark.CurlyOpen) Blank) (term_keeps m) (pair Blank (marked_by mark.CurlyClose))

pub sequence_is : (out : List ℕ) (m : Term) → out ++ text_of (braced (opens_simple m) (term_onto m) []) ++ 59 ∷ 32 ∷ [] ≡ out ++ text_of (binding_onto None m [])
sequence_is out m = two out (in_braces (opens_simple m) (term_keeps m)) (pair (marked_by mark.Semicolon) Blank)

pub binding_is : (out : List ℕ) (x : trees.Name) (m : Term) → out ++ 108 ∷ 101 ∷ 116 ∷ 32 ∷ [] ++ text_of (name_onto x []) ++ 32 ∷ 61 ∷ 32 ∷ [] ++ text_of (braced (opens_simple m) (term_onto m) []) ++ 32 ∷ 105 ∷ 110 ∷ 32 ∷ [] ≡ out ++ text_of (binding_onto (Some x) m [])
binding_is out x m = five out (pair (worded_by word.Let) Blank) (name_keeps x) (triple Blank (marked_by mark.Equals) Blank) (in_braces (opens_simple m) (term_keeps m)) (triple Blank (worded_by word.In) Blank)

pub let_is : (out : List ℕ) (x : Option trees.Name) (m : Term) (n : Term) (at : Span) → out ++ text_of (binding_onto x m []) ++ text_of (term_onto n []) ≡ out ++ text_of (term_onto (LetTerm x m n at) [])
let_is out None m n at = two out (binding_keeps None m) (term_keeps n)
let_is out (Some x) m n at = two out (binding_keeps (Some x) m) (term_keeps n)

-- what a let's body puts behind its binding, the let puts
pub let_step : (out new whole : List ℕ) (x : Option trees.Name) (m n : Term) (at : Span) → new ≡ out ++ text_of (binding_onto x m []) → out ++ text_of (term_onto (LetTerm x m n at) []) ≡ whole → new ++ text_of (term_onto n []) ≡ whole
let_step out new whole x m n at a w = ap (λ l. l ++ text_of (term_onto n [])) a ∙ let_is out x m n at ∙ w

pub guarded_is : (out : List ℕ) (x : trees.Name) (p : Pattern) → out ++ 103 ∷ 117 ∷ 97 ∷ 114 ∷ 100 ∷ 32 ∷ [] ++ text_of (name_onto x []) ++ 32 ∷ 58 ∷ 32 ∷ [] ++ text_of (pattern_onto p []) ++ 32 ∷ 123 ∷ 32 ∷ [] ≡ out ++ text_of (guarded_onto x p [])
guarded_is out x p = five out (pair (worded_by word.Guard) Blank) (name_keeps x) (triple Blank (marked_by mark.Colon) Blank) (pattern_keeps p) (triple Blank (marked_by mark.CurlyOpen) Blank)

pub guard_is : (out : List ℕ) (x : trees.Name) (p : Pattern) (cs : Clauses) → out ++ text_of (guarded_onto x p []) ++ text_of (clauses_onto cs []) ++ 125 ∷ [] ≡ out ++ text_of (term_onto (GuardTerm x p cs nowhere) [])
guard_is out x p cs = three out (guarded_keeps x p) (clauses_keeps cs) (piece (marked_by mark.CurlyClose))

pub clauses_more : (out : List ℕ) (c : Clause) (cs : Clauses) → out ++ text_of (clause_onto c []) ++ 32 ∷ [] ++ text_of (clauses_onto cs []) ≡ out ++ text_of (clause_onto c (Blank ∷ clauses_onto cs []))
clauses_more out c cs = three out (clause_keeps c) (piece Blank) (clauses_keeps cs)

pub free_clause_is : (out : List ℕ) (m : Term) → out ++ 102 ∷ 114 ∷ 101 ∷ 101 ∷ 32 ∷ 45 ∷ 62 ∷ 32 ∷ [] ++ text_of (term_onto m []) ≡ out ++ text_of (clause_onto (FreeClause nowhere m) [])
free_clause_is out m = two out (both (pair (worded_by word.Free) Blank) (pair (marked_by mark.Arrow) Blank)) (term_keeps m)

pub received_is : (out : List ℕ) (x : trees.Name) (ns : List trees.Name) (y : trees.Name) → out ++ 114 ∷ 101 ∷ 99 ∷ 101 ∷ 105 ∷ 118 ∷ 101 ∷ 32 ∷ [] ++ text_of (name_onto x []) ++ text_of (names_onto ns []) ++ 32 ∷ 102 ∷ 114 ∷ 111 ∷ 109 ∷ 32 ∷ [] ++ text_of (name_onto y []) ++ 32 ∷ 45 ∷ 62 ∷ 32 ∷ [] ≡ out ++ text_of (received_onto x ns y [])
received_is out x ns y = six out (pair (worded_by word.Receive) Blank) (name_keeps x) (names_keeps ns) (triple Blank (worded_by word.From) Blank) (name_keeps y) (triple Blank (marked_by mark.Arrow) Blank)

pub receive_is : (out : List ℕ) (x : trees.Name) (ns : List trees.Name) (y : trees.Name) (m : Term) → out ++ text_of (received_onto x ns y []) ++ text_of (term_onto m []) ≡ out ++ text_of (clause_onto (ReceiveClause nowhere x ns y m) [])
receive_is out x ns y m = two out (received_keeps x ns y) (term_keeps m)

-- ---- declarations

pub message_is : (out : List ℕ) (m : trees.Message) → out ++ text_of (name_onto m.name []) ++ text_of (payloads_onto m.payloads []) ≡ out ++ text_of (message_onto m [])
message_is out m = two out (name_keeps m.name) (payloads_keeps m.payloads)

pub param_is : (out : List ℕ) (p : trees.Param) → out ++ text_of (name_onto p.name []) ++ 58 ∷ 32 ∷ [] ++ text_of (type_onto p.type []) ≡ out ++ text_of (param_onto p [])
param_is out p = three out (name_keeps p.name) (pair (marked_by mark.Colon) Blank) (type_keeps p.type)

pub interface_is : (out : List ℕ) (x : trees.Name) (ms : List trees.Message) → out ++ 105 ∷ 110 ∷ 116 ∷ 101 ∷ 114 ∷ 102 ∷ 97 ∷ 99 ∷ 101 ∷ 32 ∷ [] ++ text_of (name_onto x []) ++ 32 ∷ 123 ∷ 32 ∷ [] ++ text_of (list_onto message_onto ms []) ++ 32 ∷ 125 ∷ [] ≡ out ++ text_of (decl_onto (InterfaceDecl x ms) [])
interface_is out x ms = five out (pair (worded_by word.Interface) Blank) (name_keeps x) (triple Blank (marked_by mark.CurlyOpen) Blank) (list_keeps message_keeps ms) (pair Blank (marked_by mark.CurlyClose))

pub function_is : (out : List ℕ) (x : trees.Name) (ps : List trees.Param) (a : WrittenType) (m : Term) → out ++ 100 ∷ 101 ∷ 102 ∷ 32 ∷ [] ++ text_of (name_onto x []) ++ text_of (params_onto ps []) ++ 58 ∷ 32 ∷ [] ++ text_of (type_onto a []) ++ 32 ∷ [] ++ text_of (braced true (term_onto m) []) ≡ out ++ text_of (decl_onto (DefDecl x ps a m) [])
function_is out x ps a m = ap (λ l. l ++ text_of (braced true (term_onto m) [])) (six out (pair (worded_by word.Def) Blank) (name_keeps x) (params_keeps ps) (pair (marked_by mark.Colon) Blank) (type_keeps a) (piece Blank)) ∙ two out (both (pair (worded_by word.Def) Blank) (both (name_keeps x) (both (params_keeps ps) (both (pair (marked_by mark.Colon) Blank) (both (type_keeps a) (piece Blank)))))) (in_braces true (term_keeps m))

pub tree_more : (out : List ℕ) (d : Decl) (ds : List Decl) → out ++ text_of (decl_onto d []) ++ 10 ∷ [] ++ text_of (tree_onto ds []) ≡ out ++ text_of (decl_onto d (Line ∷ tree_onto ds []))
tree_more out d ds = three out (decl_keeps d) (piece Line) (tree_keeps ds)

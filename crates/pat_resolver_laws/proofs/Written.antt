-- What a text spells is as the grammar has it: its names are names, and its strings are ones that a token spells.
use Rattle.std.proofs.Common.{◌≡◌, ◌≢◌, ℕ, Bool, true, false, List, [], ◌∷◌, ◌++◌, Some, refl, ap, sym, ◌∙◌, subst, append_assoc}
use Rattle.std.specs.Prelude.{map}
use Rattle.std.specs.List.{AllByRecursion, flat_map}
use Rattle.pat_lexer_spec.specs.Words as word
use Rattle.pat_lexer_spec.specs.Tokens.{Token, Spanned, Name, Integer, Str, Word, Mark}
use Rattle.pat_lexer_spec.specs.Spelled.{IsSpelled, IsString}
use Rattle.pat_lexer_spec.specs.Divisions.{Reaches, here, over, token, Divides}
use Rattle.pat_parser_spec.specs.Trees as tree
use Rattle.pat_parser_spec.specs.Trees.{listed}
use Rattle.pat_parser_spec.specs.Items.{Item, place_of, named, Limits, bound_item, literal}
use Rattle.pat_parser_spec.specs.Grammar as grammar
use Rattle.pat_parser_spec.specs.Grammar.{Level, Operand, Part, Separated, one, more, Optional, none, some, Arg, Binder, binder}
use Rattle.pat_resolver_spec.specs.Claims.{HasPattern, IsMessage, IsDecl, written_expr_strings, term_strings, clauses_strings, tree_strings, IsWritten}

abbrev pub AreSound : List Item → Type 0
AreSound ts = AllByRecursion (λ t. IsSpelled t.0) ts

abbrev Spelled : List (List ℕ) → Type 0
Spelled xs = AllByRecursion IsString xs

all_both : {A : Type 0} (P : A → Type 0) (xs ys : List A) → AllByRecursion P xs → AllByRecursion P ys → AllByRecursion P (xs ++ ys)
all_both P [] ys l r = r
all_both P (x ∷ xs) ys l r = (l.0, all_both P xs ys l.1 r)

-- ---- the tokens of a text

reached : {at to : ℕ} {text rest : List ℕ} {ts : List Spanned} → Reaches at text ts to rest → AllByRecursion (λ t. IsSpelled t.token) ts
reached here = tt
reached (over kind begins same further) = reached further
reached (token {own = own} {after = after} begins same further) = ((own, after, begins.fits), reached further)

items_sound : (ts : List Spanned) → AllByRecursion (λ t. IsSpelled t.token) ts → AreSound (map bound_item ts)
items_sound [] all = tt
items_sound (t ∷ ts) all = (all.0, items_sound ts all.1)

pub tokens_sound : (text : List ℕ) (ts : List Spanned) → Divides text ts → AreSound (map bound_item ts)
tokens_sound text ts d = items_sound ts (reached d.1)

-- ---- expressions and patterns

literal_spelled : (c : Token) (at : tree.Span) (e : tree.Expr) → IsSpelled c → literal c at ≡ Some e → Spelled (written_expr_strings e)
literal_spelled (Name x) at e s h = let same : tree.VarExpr x at ≡ e = cc in subst (λ e. Spelled (written_expr_strings e)) same tt
literal_spelled (Integer n) at e s h = let same : tree.IntExpr n at ≡ e = cc in subst (λ e. Spelled (written_expr_strings e)) same tt
literal_spelled (Str x) at e s h = let same : tree.StrExpr x at ≡ e = cc in subst (λ e. Spelled (written_expr_strings e)) same (s, tt)
literal_spelled (Word word.TrueWord) at e s h = let same : tree.BoolExpr true at ≡ e = cc in subst (λ e. Spelled (written_expr_strings e)) same tt
literal_spelled (Word word.FalseWord) at e s h = let same : tree.BoolExpr false at ≡ e = cc in subst (λ e. Spelled (written_expr_strings e)) same tt
literal_spelled (Word _) at e s h = cc
literal_spelled (Mark m) at e s h = cc

expr : {lim : Limits} {o k t : ℕ} {l : Level} {ts us : List Item} {a : Operand} → grammar.Expr lim o k l ts a t us → AreSound ts → Spelled (written_expr_strings a.0) × AreSound us
expr (grammar.leaf {c = c} {w = w} {e = e} h) s = (literal_spelled c (place_of w) e s.0 h, s.1)
expr (grammar.unit r) s = (tt, s.1.1)
expr (grammar.bracket r d) s = let i = expr d s.1 in (i.0, i.1.1)
expr (grammar.atom d) s = expr d s
expr (grammar.times {a = a} {b = b} d r e) s = let i = expr d s in let j = expr e i.1.1 in (all_both IsString (written_expr_strings a.0) (written_expr_strings b.0) i.0 j.0, j.1)
expr (grammar.product d) s = expr d s
expr (grammar.plus {a = a} {b = b} h d r e) s = let i = expr d s in let j = expr e i.1.1 in (all_both IsString (written_expr_strings a.0) (written_expr_strings b.0) i.0 j.0, j.1)
expr (grammar.sum d) s = expr d s
expr (grammar.compare {a = a} {b = b} h d r e) s = let i = expr d s in let j = expr e i.1.1 in (all_both IsString (written_expr_strings a.0) (written_expr_strings b.0) i.0 j.0, j.1)

pattern : {lim : Limits} {o k t : ℕ} {l : Level} {ts us : List Item} {p : tree.Pattern} → grammar.Pattern lim o k l ts p t us → AreSound ts → AreSound us
pattern (grammar.number h) s = s.1
pattern grammar.tag s = s.1
pattern (grammar.bracket r d) s = (pattern d s.1).1
pattern (grammar.star r d) s = pattern d s.1
pattern (grammar.factor d) s = pattern d s
pattern (grammar.dot d r e) s = pattern e (pattern d s).1
pattern (grammar.product d) s = pattern d s
pattern (grammar.plus d r e) s = pattern e (pattern d s).1

-- ---- lists

separated : {A : Type 0} {One : List Item → A → List Item → Type 0} (P : A → Type 0) → ((ts us : List Item) (a : A) → One ts a us → AreSound ts → P a × AreSound us) → {ts us : List Item} {xs : List A} → Separated One ts xs us → AreSound ts → AllByRecursion P xs × AreSound us
separated P step (one {ts = ts} {us = us} {a = a} d) s = let i = step ts us a d s in ((i.0, tt), i.1)
separated P step (more {us = us} {vs = vs} {xs = xs} {a = a} d e) s =
    let i = separated P step d s in
    let j = step us vs a e i.1.1 in
    (all_both P xs (a ∷ []) i.0 (j.0, tt), j.1)

optional : {A : Type 0} {One : List Item → A → List Item → Type 0} (P : A → Type 0) → ((ts us : List Item) (a : A) → One ts a us → AreSound ts → P a × AreSound us) → {ts us : List Item} {xs : List A} → Optional One ts xs us → AreSound ts → AllByRecursion P xs × AreSound us
optional P step none s = (tt, s)
optional P step (some d) s = separated P step d s

not_none : {A : Type 0} (xs : List A) (a : A) → xs ++ a ∷ [] ≢ []
not_none [] a e = cc
not_none (x ∷ xs) a e = cc

separated_some : {A : Type 0} {One : List Item → A → List Item → Type 0} {ts us : List Item} {xs : List A} → Separated One ts xs us → xs ≢ []
separated_some (one d) = λ e. cc
separated_some (more {xs = xs} {a = a} d e) = not_none xs a

arg : {lim : Limits} {o : ℕ} (ts us : List Item) (e : tree.Expr) → Arg lim o ts e us → AreSound ts → Spelled (written_expr_strings e) × AreSound us
arg ts us e d s = expr d.2 s

args_spelled : (es : List tree.Expr) → AllByRecursion (λ e. Spelled (written_expr_strings e)) es → Spelled (flat_map written_expr_strings es)
args_spelled [] all = tt
args_spelled (e ∷ es) all = all_both IsString (written_expr_strings e) (flat_map written_expr_strings es) all.0 (args_spelled es all.1)

name : (ts us : List Item) (x : tree.Name) → Binder ts x us → AreSound ts → Unit {0} × AreSound us
name ts us x binder s = (tt, s.1)

-- ---- terms

listed_strings : (cs : List tree.Clause) (c : tree.Clause) → clauses_strings (listed (cs ++ c ∷ [])) ≡ clauses_strings (listed cs) ++ clauses_strings (listed (c ∷ []))
listed_strings [] c = refl
listed_strings (tree.FailClause w ∷ cs) c = listed_strings cs c
listed_strings (tree.FreeClause w m ∷ cs) c = ap (λ xs. term_strings m ++ xs) (listed_strings cs c) ∙ sym (append_assoc (term_strings m) (clauses_strings (listed cs)) (clauses_strings (listed (c ∷ []))))
listed_strings (tree.ReceiveClause w t xs y m ∷ cs) c = ap (λ xs. term_strings m ++ xs) (listed_strings cs c) ∙ sym (append_assoc (term_strings m) (clauses_strings (listed cs)) (clauses_strings (listed (c ∷ []))))

one_clause_more : (cs : List tree.Clause) (c : tree.Clause) → Spelled (clauses_strings (listed cs)) → Spelled (clauses_strings (listed (c ∷ []))) → Spelled (clauses_strings (listed (cs ++ c ∷ [])))
one_clause_more cs c l r = subst Spelled (sym (listed_strings cs c)) (all_both IsString (clauses_strings (listed cs)) (clauses_strings (listed (c ∷ []))) l r)

mutual
  term : {lim : Limits} {o s f : ℕ} {l : Part} {ts us : List Item} {m : tree.Term} → grammar.Term lim o s l ts m f us → AreSound ts → Spelled (term_strings m) × AreSound us
  term (grammar.value d) s = expr d s
  term (grammar.print r d) s = let i = expr d s.1.1 in (i.0, i.1.1)
  term (grammar.new r) s = (tt, s.1.1.1.1)
  term (grammar.spawn r d) s = let i = term d s.1.1 in (i.0, i.1.1)
  term (grammar.free r) s = (tt, s.1.1.1.1)
  term (grammar.send {es = es} r d) s = let i = optional (λ e. Spelled (written_expr_strings e)) arg d s.1.1.1.1 in (args_spelled es i.0, i.1.1)
  term (grammar.call {es = es} r d) s = let i = optional (λ e. Spelled (written_expr_strings e)) arg d s.1.1 in (args_spelled es i.0, i.1.1)
  term (grammar.branch {a = a} {m = m} {n = n} e r d q g) s =
      let i = expr e s.1 in
      let j = term d i.1.1 in
      let k = term g j.1.1.1.1 in
      (all_both IsString (written_expr_strings a.0 ++ term_strings m) (term_strings n) (all_both IsString (written_expr_strings a.0) (term_strings m) i.0 j.0) k.0, k.1.1)
  term (grammar.guard p r d) s = let i = clauses d (pattern p s.1.1.1).1 in (i.0, i.1.1)
  term (grammar.block r d) s = let i = term d s.1 in (i.0, i.1.1)
  term (grammar.simple d) s = term d s
  term (grammar.then {m = m} {n = n} d r e) s = let i = term d s in let j = term e i.1.1 in (all_both IsString (term_strings m) (term_strings n) i.0 j.0, j.1)
  term (grammar.bind {a = a} {b = b} d r e) s = let i = term d s.1.1.1 in let j = term e i.1.1 in (all_both IsString (term_strings a) (term_strings b) i.0 j.0, j.1)

  clauses : {lim : Limits} {o s : ℕ} {b : Bool} {ts us : List Item} {cs : List tree.Clause} → grammar.Clauses lim o s b ts cs us → AreSound ts → Spelled (clauses_strings (listed cs)) × AreSound us
  clauses grammar.no_clause s = (tt, s)
  clauses (grammar.fail_clause {w = w} {cs = cs} d) s = let i = clauses d s in (one_clause_more cs (tree.FailClause (place_of w)) i.0 tt, i.1.1)
  clauses (grammar.free_clause {w = w} {cs = cs} {m = m} d e) s =
      let i = clauses d s in
      let j = term e i.1.1.1 in
      (one_clause_more cs (tree.FreeClause (place_of w) m) i.0 (all_both IsString (term_strings m) [] j.0 tt), j.1)
  clauses (grammar.receive_clause {w = w} {n = n} {h = h} {x = x} {y = y} {cs = cs} {ns = ns} {m = m} d r e g) s =
      let i = clauses d s in
      let j = optional (λ x. Unit {0}) name e i.1.1.1.1 in
      let k = term g j.1.1.1.1.1 in
      (one_clause_more cs (tree.ReceiveClause (place_of w) (named x n) ns (named y h) m) i.0 (all_both IsString (term_strings m) [] k.0 tt), k.1)

-- ---- declarations

written_type : {lim : Limits} {o : ℕ} {payload : Bool} (ts us : List Item) (a : tree.WrittenType) → grammar.WrittenType lim o payload ts a us → AreSound ts → (payload ≡ true → HasPattern a) × AreSound us
written_type ts us a (grammar.base h) s = (λ e. tt, s.1)
written_type ts us a (grammar.mailbox h d) s = (λ e. tt, pattern d s.1.1)
written_type ts us a (grammar.short h g) s = (λ e. cc, s.1.1)

payload : {lim : Limits} {o : ℕ} (ts us : List Item) (a : tree.WrittenType) → grammar.WrittenType lim o true ts a us → AreSound ts → HasPattern a × AreSound us
payload ts us a d s = let i = written_type ts us a d s in (i.0 refl, i.1)

message : {lim : Limits} (ts us : List Item) (m : tree.Message) → grammar.Message lim ts m us → AreSound ts → IsMessage m × AreSound us
message ts us m (grammar.message r d) s = let i = optional HasPattern payload d s.1.1 in (record { name = s.0; payloads = i.0 }, i.1.1)

param : {lim : Limits} (ts us : List Item) (c : tree.Param) → grammar.Param lim ts c us → AreSound ts → Unit {0} × AreSound us
param ts us c (grammar.param {ts = vs} {a = a} d) s = (tt, (written_type vs us a d s.1.1).1)

strings_more : (ds : List tree.Decl) (d : tree.Decl) → tree_strings (ds ++ d ∷ []) ≡ tree_strings ds ++ tree_strings (d ∷ [])
strings_more [] d = refl
strings_more (tree.InterfaceDecl x ms ∷ ds) d = strings_more ds d
strings_more (tree.DefDecl x ps r m ∷ ds) d = ap (λ xs. term_strings m ++ xs) (strings_more ds d) ∙ sym (append_assoc (term_strings m) (tree_strings ds) (tree_strings (d ∷ [])))

decls : {lim : Limits} {b : Bool} {ts us : List Item} {ds : List tree.Decl} → grammar.Decls lim b ts ds us → AreSound ts → AllByRecursion IsDecl ds × Spelled (tree_strings ds) × AreSound us
decls grammar.no_decl s = (tt, tt, s)
decls (grammar.interface {x = x} {n = n} {ds = ds} {xs = xs} d r e) s =
    let i = decls d s in
    let j = separated IsMessage message e i.2.1.1.1 in
    let it : tree.Decl = tree.InterfaceDecl (named x n) xs in (
      all_both IsDecl ds (it ∷ []) i.0 ((i.2.1.0, separated_some e, j.0), tt),
      subst Spelled (sym (strings_more ds it)) (all_both IsString (tree_strings ds) [] i.1 tt),
      j.1.1,
    )
decls (grammar.function {x = x} {n = n} {vs = vs} {ds = ds} {ps = ps} {r = r} {m = m} d q e g p t) s =
    let i = decls d s in
    let j = optional (λ x. Unit {0}) param e i.2.1.1.1 in
    let k = written_type vs _ r g j.1.1.1 in
    let l = term t k.1.1 in
    let it : tree.Decl = tree.DefDecl (named x n) ps r m in (
      all_both IsDecl ds (it ∷ []) i.0 (i.2.1.0, tt),
      subst Spelled (sym (strings_more ds it)) (all_both IsString (tree_strings ds) (term_strings m ++ []) i.1 (all_both IsString (term_strings m) [] l.0 tt)),
      l.1.1,
    )

pub tree_written : {lim : Limits} {ts : List Item} {t : tree.Tree} → grammar.Spells lim ts t → AreSound ts → IsWritten t
tree_written d s = let i = decls d s in record { decls = i.0; strings = i.1 }

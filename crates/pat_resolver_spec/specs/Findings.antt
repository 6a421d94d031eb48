-- The rules of names and kinds, and where a tree breaks them: the heads of all declarations are examined first, then
-- `main` is looked for, and then the bodies are examined, each in the order of the text. At one name or term the rules
-- come in the order in which they are listed here. What is found behind a first finding may follow from it.
use Rattle.std.specs.Prelude.{ℕ, zero, suc, ◌+◌, Bool, true, false, not, List, [], ◌∷◌, ◌++◌, length, map, Option, Some, None, is_some, nat_eq, codes}
use Rattle.std.specs.List.{flat_map}
use Rattle.pat_semantics_spec.specs.Patterns.{Pat, is_inhabited}
use Rattle.pat_semantics_spec.specs.Values.{BaseUnit, BaseBool, BaseInt, Kind, Plain, MailboxOf, Op, Equal}
use Rattle.pat_semantics_spec.specs.Programs.{Polarity, Sending, Receiving, TagDecl, Interface, kind_of}
use Rattle.pat_parser_spec.specs.Trees as tree
use Rattle.pat_parser_spec.specs.Trees.{span}
use Rattle.pat_resolver_spec.specs.Scopes.{first_named, itself, is_one_of, Variable, variable, Scope, variable_of, unit_kind, known_kind, kind_of_expr, expr_at, kind_eq, is_shown}
use Rattle.pat_resolver_spec.specs.Heads.{InterfaceNames, interface_names, interface_named, pattern_of, Definition, definitions_of, Signature, signature_of, Heads, heads_of, function_named, tag_names, tag_named, payload_kinds, interface_of_kind, clause_scope, params_scope}

-- the rules: no name is unknown; no name is declared twice, and no clause stands twice; as many arguments as declared; the
-- kind that is needed; a tag is of its interface; a sending type has a word; no interface has more than 32 tags
pub data Rule : Type 0 where
  UnknownName : Rule
  Twice : Rule
  WrongArity : Rule
  WrongKind : Rule
  ForeignTag : Rule
  EmptySending : Rule
  TooManyTags : Rule

-- a rule that is broken, and where
pub record Finding : Type 0 where
  pub rule : Rule
  pub at : tree.Span

-- one finding
abbrev pub found : Rule → tree.Span → List Finding
found r at = record { rule = r; at = at } ∷ []

-- a finding unless the test passes
abbrev pub unless : Bool → Rule → tree.Span → List Finding
unless true r at = []
unless false r at = found r at

-- ---- heads

-- a name that is one of the earlier ones
abbrev pub repeated : List (List ℕ) → tree.Name → List Finding
repeated earlier x = unless (not (is_one_of x.text earlier)) Twice x.span

-- each tag of a pattern is one of these
abbrev pub pattern_findings : List (List ℕ) → tree.Pattern → List Finding
pattern_findings tags (tree.ZeroPattern at) = []
pattern_findings tags (tree.OnePattern at) = []
pattern_findings tags (tree.TagPattern x) = unless (is_some (first_named itself x.text tags)) ForeignTag x.span
pattern_findings tags (tree.SumPattern p q) = pattern_findings tags p ++ pattern_findings tags q
pattern_findings tags (tree.ProdPattern p q) = pattern_findings tags p ++ pattern_findings tags q
pattern_findings tags (tree.StarPattern p) = pattern_findings tags p

-- a sending type's pattern has a word
abbrev pub empty_sending : Polarity → Pat → tree.Span → List Finding
empty_sending Sending e at = unless (is_inhabited e) EmptySending at
empty_sending Receiving e at = []

-- a pattern that is written in a type
abbrev pub written_pattern_findings : List (List ℕ) → Polarity → Option tree.Pattern → tree.Span → List Finding
written_pattern_findings tags q None at = []
written_pattern_findings tags q (Some e) at = pattern_findings tags e ++ empty_sending q (pattern_of tags e) at

-- a mailbox type of the interface that was found
abbrev pub mailbox_findings : tree.Name → Polarity → Option tree.Pattern → tree.Span → Option (ℕ × InterfaceNames) → List Finding
mailbox_findings x q e at None = found UnknownName x.span
mailbox_findings x q e at (Some i) = written_pattern_findings i.1.tags q e at

-- a written type, of a payload or in a signature
abbrev pub type_findings : List InterfaceNames → tree.WrittenType → List Finding
type_findings names (tree.BaseType b at) = []
type_findings names (tree.MailboxType x q e at) = mailbox_findings x q e at (interface_named names x.text)

-- the messages of an interface, behind those of the earlier names
abbrev pub messages_findings : List InterfaceNames → List (List ℕ) → List tree.Message → List Finding
messages_findings names earlier [] = []
messages_findings names earlier (m ∷ ms) =
    repeated earlier m.name
    ++ unless (not (nat_eq (length earlier) 32)) TooManyTags m.name.span
    ++ flat_map (type_findings names) m.payloads
    ++ messages_findings names (m.name.text ∷ earlier) ms

-- the parameters of a function, behind those of the earlier names
abbrev pub params_findings : List InterfaceNames → List (List ℕ) → List tree.Param → List Finding
params_findings names earlier [] = []
params_findings names earlier (p ∷ ps) =
    repeated earlier p.name ++ type_findings names p.type ++ params_findings names (p.name.text ∷ earlier) ps

-- the heads of declarations, behind interfaces and functions of the earlier names
abbrev pub heads_findings : List InterfaceNames → List (List ℕ) → List (List ℕ) → tree.Tree → List Finding
heads_findings names interfaces functions [] = []
heads_findings names interfaces functions (tree.InterfaceDecl x ms ∷ ds) =
    repeated interfaces x ++ messages_findings names [] ms ++ heads_findings names (x.text ∷ interfaces) functions ds
heads_findings names interfaces functions (tree.DefDecl x ps r m ∷ ds) =
    repeated functions x
    ++ params_findings names [] ps
    ++ type_findings names r
    ++ heads_findings names interfaces (x.text ∷ functions) ds

-- ---- main

-- whether there is no parameter
abbrev pub has_none : List tree.Param → Bool
has_none [] = true
has_none (p ∷ ps) = false

-- whether the type is Unit
abbrev pub is_unit_type : tree.WrittenType → Bool
is_unit_type (tree.BaseType BaseUnit at) = true
is_unit_type _ = false

-- the first function named main, where the text ends at the offset
abbrev pub main_findings : ℕ → Option (ℕ × Definition) → List Finding
main_findings end None = found UnknownName (span end end)
main_findings end (Some d) = unless (has_none d.1.params) WrongArity d.1.name.span ++ unless (is_unit_type d.1.result) WrongKind d.1.name.span

abbrev pub main_of : tree.Tree → Option (ℕ × Definition)
main_of t = first_named (λ d. d.name.text) (codes "main") (definitions_of t)

-- ---- bodies

-- the kind that is needed, and the one that is given there
abbrev pub own_kind : Kind → Kind → tree.Span → List Finding
own_kind needed given at = unless (kind_eq needed given) WrongKind at

-- the variable that was found for a name
abbrev pub name_findings : Option Variable → tree.Span → List Finding
name_findings o at = unless (is_some o) UnknownName at

-- what an operator needs of its right side, where its left side has this kind
abbrev pub right_needs : Op → Kind → Kind
right_needs Equal k = k
right_needs _ k = Plain BaseInt

-- what an operator needs of its left side: an integer, or for == what can be compared
abbrev pub left_findings : Op → Kind → tree.Span → List Finding
left_findings Equal k at = unless (is_shown k) WrongKind at
left_findings _ k at = own_kind (Plain BaseInt) k at

-- the parts of an expression: names, and what operators need of their sides
abbrev pub parts_findings : Scope → tree.Expr → List Finding
parts_findings scope (tree.VarExpr x at) = name_findings (variable_of scope x) at
parts_findings scope (tree.OpExpr op a b at) =
    (parts_findings scope a ++ left_findings op (kind_of_expr scope a) (expr_at a))
    ++ (parts_findings scope b ++ own_kind (right_needs op (kind_of_expr scope a)) (kind_of_expr scope b) (expr_at b))
parts_findings scope _ = []

-- an expression of which a kind is needed
abbrev pub expr_findings : Scope → Kind → tree.Expr → List Finding
expr_findings scope k e = parts_findings scope e ++ own_kind k (kind_of_expr scope e) (expr_at e)

-- an expression that is printed
abbrev pub shown_findings : Scope → tree.Expr → List Finding
shown_findings scope e = parts_findings scope e ++ unless (is_shown (kind_of_expr scope e)) WrongKind (expr_at e)

-- arguments of which kinds are needed; of those past the kinds none is
abbrev pub args_findings : Scope → List Kind → List tree.Expr → List Finding
args_findings scope ks [] = []
args_findings scope [] (e ∷ es) = parts_findings scope e ++ args_findings scope [] es
args_findings scope (k ∷ ks) (e ∷ es) = expr_findings scope k e ++ args_findings scope ks es

-- how many variables a term binds
abbrev mutual
  pub binders_in : tree.Term → ℕ
  binders_in (tree.LetTerm None m n at) = binders_in m + binders_in n
  binders_in (tree.LetTerm (Some x) m n at) = suc (binders_in m + binders_in n)
  binders_in (tree.IfTerm e m n at) = binders_in m + binders_in n
  binders_in (tree.SpawnTerm m at) = binders_in m
  binders_in (tree.GuardTerm x p cs at) = clauses_binders_in cs
  binders_in _ = zero

  pub clauses_binders_in : tree.Clauses → ℕ
  clauses_binders_in tree.no_clauses = zero
  clauses_binders_in (tree.with_clause (tree.FailClause w) cs) = clauses_binders_in cs
  clauses_binders_in (tree.with_clause (tree.FreeClause w m) cs) = binders_in m + clauses_binders_in cs
  clauses_binders_in (tree.with_clause (tree.ReceiveClause w t xs y m) cs) = suc (length xs) + binders_in m + clauses_binders_in cs

-- the interface of that name, with its number
abbrev pub interface_called : Heads → List ℕ → Option (ℕ × Interface)
interface_called h x = first_named (λ i. i.name) x h.interfaces

-- the kind of a new mailbox of the interface that was found; where none was, that of ()
abbrev pub new_kind : Option (ℕ × Interface) → Kind
new_kind None = unit_kind
new_kind (Some i) = MailboxOf i.0

-- the kind of a call of the function that was found; where none was, that of ()
abbrev pub call_kind : Option (ℕ × Signature) → Kind
call_kind None = unit_kind
call_kind (Some f) = kind_of f.1.result

-- the interface of the variable of that name
abbrev pub guarded : Scope → List ℕ → ℕ
guarded scope x = interface_of_kind (known_kind (variable_of scope x))

-- The kind of a term, whose binders have the numbers from v on: that of its body, of its first branch or of its first
-- clause's body, if it has one; a guard without any is of kind Unit.
abbrev mutual
  pub kind_of_term : Heads → Scope → ℕ → tree.Term → Kind
  kind_of_term h scope v (tree.LetTerm None m n at) = kind_of_term h scope (v + binders_in m) n
  kind_of_term h scope v (tree.LetTerm (Some x) m n at) = kind_of_term h (variable x.text v (kind_of_term h scope (suc v) m) ∷ scope) (suc v + binders_in m) n
  kind_of_term h scope v (tree.IfTerm e m n at) = kind_of_term h scope v m
  kind_of_term h scope v (tree.NewTerm x at) = new_kind (interface_called h x.text)
  kind_of_term h scope v (tree.GuardTerm x p cs at) = kind_of_clauses h (guarded scope x.text) scope v cs
  kind_of_term h scope v (tree.CallTerm f es at) = call_kind (function_named h f.text)
  kind_of_term h scope v (tree.ValueTerm e at) = kind_of_expr scope e
  kind_of_term h scope v _ = unit_kind

  pub kind_of_clauses : Heads → ℕ → Scope → ℕ → tree.Clauses → Kind
  kind_of_clauses h i scope v tree.no_clauses = unit_kind
  kind_of_clauses h i scope v (tree.with_clause (tree.FailClause w) cs) = kind_of_clauses h i scope v cs
  kind_of_clauses h i scope v (tree.with_clause (tree.FreeClause w m) cs) = kind_of_term h scope v m
  kind_of_clauses h i scope v (tree.with_clause (tree.ReceiveClause w t xs y m) cs) = kind_of_term h (clause_scope h i scope v t xs y) (suc (v + length xs)) m

-- what is examined further where the kind is a mailbox's, of its interface; another kind is answered with the place of the term
abbrev pub on_kind : tree.Span → Kind → (ℕ → List Finding) → List Finding
on_kind at (Plain b) then = found WrongKind at
on_kind at (MailboxOf i) then = then i

-- the same for the variable that was found for a name
abbrev pub on_mailbox : tree.Span → tree.Name → Option Variable → (ℕ → List Finding) → List Finding
on_mailbox at x None then = found UnknownName x.span
on_mailbox at x (Some v) then = on_kind at v.kind then

-- as many as the tag that was found has payloads; where none was found, the tag is foreign
abbrev pub tag_findings : tree.Name → ℕ → Option (ℕ × TagDecl) → List Finding
tag_findings t n None = found ForeignTag t.span
tag_findings t n (Some d) = unless (nat_eq n (length d.1.payloads)) WrongArity t.span

-- a call of the function that was found, with arguments, of which a kind is needed
abbrev pub call_findings : Scope → Kind → tree.Name → List tree.Expr → tree.Span → Option (ℕ × Signature) → List Finding
call_findings scope k f es at None = found UnknownName f.span ++ args_findings scope [] es
call_findings scope k f es at (Some s) =
    unless (nat_eq (length es) (length s.1.params)) WrongArity f.span
    ++ args_findings scope (map kind_of s.1.params) es
    ++ own_kind k (kind_of s.1.result) at

-- a new mailbox of the interface that was found, of which a kind is needed
abbrev pub new_findings : Kind → tree.Name → tree.Span → Option (ℕ × Interface) → List Finding
new_findings k x at None = found UnknownName x.span
new_findings k x at (Some i) = own_kind k (MailboxOf i.0) at

-- names in a row, behind the earlier ones
abbrev pub names_findings : List (List ℕ) → List tree.Name → List Finding
names_findings earlier [] = []
names_findings earlier (x ∷ xs) = repeated earlier x ++ names_findings (x.text ∷ earlier) xs

-- the clauses of a guard so far: tags, and whether there are a free clause and a fail clause
pub record Earlier : Type 0 where
  pub tags : List (List ℕ)
  pub free : Bool
  pub fail : Bool

abbrev pub no_earlier : Earlier
no_earlier = record { tags = []; free = false; fail = false }

-- whether a clause has a body
abbrev pub has_body : tree.Clauses → Bool
has_body tree.no_clauses = false
has_body (tree.with_clause (tree.FailClause w) cs) = has_body cs
has_body (tree.with_clause (tree.FreeClause w m) cs) = true
has_body (tree.with_clause (tree.ReceiveClause w t xs y m) cs) = true

-- a guard without a body is of kind Unit
abbrev pub bodiless : Bool → Kind → tree.Span → List Finding
bodiless true k at = []
bodiless false k at = own_kind k unit_kind at

-- A term of which a kind is needed, whose binders have the numbers from v on. The bound term of a named let needs the kind
-- that it has: so each further branch in it needs that of the first.
abbrev mutual
  pub term_findings : Heads → Scope → ℕ → Kind → tree.Term → List Finding
  term_findings h scope v k (tree.LetTerm None m n at) = term_findings h scope v unit_kind m ++ term_findings h scope (v + binders_in m) k n
  term_findings h scope v k (tree.LetTerm (Some x) m n at) =
      term_findings h scope (suc v) (kind_of_term h scope (suc v) m) m
      ++ term_findings h (variable x.text v (kind_of_term h scope (suc v) m) ∷ scope) (suc v + binders_in m) k n
  term_findings h scope v k (tree.IfTerm e m n at) =
      expr_findings scope (Plain BaseBool) e ++ term_findings h scope v k m ++ term_findings h scope (v + binders_in m) k n
  term_findings h scope v k (tree.PrintTerm e at) = shown_findings scope e ++ own_kind k unit_kind at
  term_findings h scope v k (tree.NewTerm x at) = new_findings k x at (interface_called h x.text)
  term_findings h scope v k (tree.SpawnTerm m at) = term_findings h scope v unit_kind m ++ own_kind k unit_kind at
  term_findings h scope v k (tree.FreeTerm x at) = on_mailbox at x (variable_of scope x.text) (λ i. []) ++ own_kind k unit_kind at
  term_findings h scope v k (tree.GuardTerm x p cs at) =
      on_mailbox at x (variable_of scope x.text) (λ i. pattern_findings (tag_names h i) p ++ clauses_findings h i scope v k no_earlier cs)
      ++ bodiless (has_body cs) k at
  term_findings h scope v k (tree.SendTerm x t es at) =
      on_mailbox at x (variable_of scope x.text) (λ i. tag_findings t (length es) (tag_named h i t.text) ++ args_findings scope (payload_kinds (tag_named h i t.text)) es)
      ++ own_kind k unit_kind at
  term_findings h scope v k (tree.CallTerm f es at) = call_findings scope k f es at (function_named h f.text)
  term_findings h scope v k (tree.ValueTerm e at) = parts_findings scope e ++ own_kind k (kind_of_expr scope e) at

  -- clauses of a guard on a mailbox of interface i, behind the earlier ones
  pub clauses_findings : Heads → ℕ → Scope → ℕ → Kind → Earlier → tree.Clauses → List Finding
  clauses_findings h i scope v k earlier tree.no_clauses = []
  clauses_findings h i scope v k earlier (tree.with_clause (tree.FailClause w) cs) =
      unless (not earlier.fail) Twice w ++ clauses_findings h i scope v k (record earlier { fail = true }) cs
  clauses_findings h i scope v k earlier (tree.with_clause (tree.FreeClause w m) cs) =
      unless (not earlier.free) Twice w
      ++ term_findings h scope v k m
      ++ clauses_findings h i scope (v + binders_in m) k (record earlier { free = true }) cs
  clauses_findings h i scope v k earlier (tree.with_clause (tree.ReceiveClause w t xs y m) cs) =
      unless (not (is_one_of t.text earlier.tags)) Twice w
      ++ tag_findings t (length xs) (tag_named h i t.text)
      ++ names_findings [] (xs ++ y ∷ [])
      ++ term_findings h (clause_scope h i scope v t xs y) (suc (v + length xs)) k m
      ++ clauses_findings h i scope (suc (v + length xs) + binders_in m) k (record earlier { tags = t.text ∷ earlier.tags }) cs

-- the bodies of functions, in order
abbrev pub bodies_findings : List InterfaceNames → Heads → List Definition → List Finding
bodies_findings names h [] = []
bodies_findings names h (d ∷ ds) =
    term_findings h (params_scope (signature_of names d).params d.params) (length d.params) (kind_of (signature_of names d).result) d.body
    ++ bodies_findings names h ds

-- all that is found in a tree, in order, where the text ends at the offset
abbrev pub findings : ℕ → tree.Tree → List Finding
findings end t =
    heads_findings (interface_names t) [] [] t
    ++ main_findings end (main_of t)
    ++ bodies_findings (interface_names t) (heads_of t) (definitions_of t)

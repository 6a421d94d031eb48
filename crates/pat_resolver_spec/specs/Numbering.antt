-- The program of a tree: names become numbers. Functions are numbered in the order of the text, and so are nodes, each before
-- its parts. A function's variables are its parameters and then the names that its body binds, in the order of the text.
use Rattle.std.specs.Prelude.{ℕ, zero, suc, ◌+◌, List, [], ◌∷◌, ◌++◌, length, map, Option, Some, None}
use Rattle.pat_semantics_spec.specs.Patterns.{One}
use Rattle.pat_semantics_spec.specs.Values.{Kind, MailboxOf, UnitConst, BoolConst, IntConst, TextConst, Expr, VarExpr, Literal, OpExpr}
use Rattle.pat_semantics_spec.specs.Programs.{Function, Clause, Core, Val, Let, Call, If, Print, New, Send, Spawn, Guard, Node, Program, kind_of}
use Rattle.pat_parser_spec.specs.Trees as tree
use Rattle.pat_resolver_spec.specs.Scopes.{number_found, Variable, variable, Scope, variable_of, unit_kind}
use Rattle.pat_resolver_spec.specs.Heads.{InterfaceNames, interface_names, pattern_of, Definition, definitions_of, signature_of, Heads, heads_of, function_named, tag_names, tag_named, payload_kinds, clause_scope, params_scope}
use Rattle.pat_resolver_spec.specs.Findings.{interface_called, guarded, binders_in, kind_of_term, main_of}

-- the number of a variable; where there is none, 0
abbrev pub known_number : Option Variable → ℕ
known_number None = 0
known_number (Some v) = v.number

-- the number of the variable of that name
abbrev pub number_of : Scope → List ℕ → ℕ
number_of scope x = known_number (variable_of scope x)

-- an expression, by the numbers of its variables
abbrev pub expr_of : Scope → tree.Expr → Expr
expr_of scope (tree.VarExpr x at) = VarExpr (number_of scope x)
expr_of scope (tree.UnitExpr at) = Literal UnitConst
expr_of scope (tree.BoolExpr b at) = Literal (BoolConst b)
expr_of scope (tree.IntExpr n at) = Literal (IntConst n)
expr_of scope (tree.StrExpr s at) = Literal (TextConst s)
expr_of scope (tree.OpExpr op a b at) = OpExpr op (expr_of scope a) (expr_of scope b)

-- how many nodes a term has; free(x) has one for its clause's body
abbrev mutual
  pub nodes_in : tree.Term → ℕ
  nodes_in (tree.LetTerm x m n at) = suc (nodes_in m + nodes_in n)
  nodes_in (tree.IfTerm e m n at) = suc (nodes_in m + nodes_in n)
  nodes_in (tree.SpawnTerm m at) = suc (nodes_in m)
  nodes_in (tree.FreeTerm x at) = 2
  nodes_in (tree.GuardTerm x p cs at) = suc (clauses_nodes_in cs)
  nodes_in _ = 1

  pub clauses_nodes_in : tree.Clauses → ℕ
  clauses_nodes_in tree.no_clauses = zero
  clauses_nodes_in (tree.with_clause (tree.FailClause w) cs) = clauses_nodes_in cs
  clauses_nodes_in (tree.with_clause (tree.FreeClause w m) cs) = nodes_in m + clauses_nodes_in cs
  clauses_nodes_in (tree.with_clause (tree.ReceiveClause w t xs y m) cs) = nodes_in m + clauses_nodes_in cs

-- the numbers from v on, one for each name
abbrev pub numbers_from : ℕ → List tree.Name → List ℕ
numbers_from v [] = []
numbers_from v (x ∷ xs) = v ∷ numbers_from (suc v) xs

-- the node of the body of the free clause, if there is one, where the nodes of the clauses have the numbers from n on
abbrev pub free_body : ℕ → tree.Clauses → Option ℕ
free_body n tree.no_clauses = None
free_body n (tree.with_clause (tree.FailClause w) cs) = free_body n cs
free_body n (tree.with_clause (tree.FreeClause w m) cs) = Some n
free_body n (tree.with_clause (tree.ReceiveClause w t xs y m) cs) = free_body (n + nodes_in m) cs

-- the receive clauses of a guard on a mailbox of interface i
abbrev pub receives : Heads → ℕ → ℕ → ℕ → tree.Clauses → List Clause
receives h i n v tree.no_clauses = []
receives h i n v (tree.with_clause (tree.FailClause w) cs) = receives h i n v cs
receives h i n v (tree.with_clause (tree.FreeClause w m) cs) = receives h i (n + nodes_in m) (v + binders_in m) cs
receives h i n v (tree.with_clause (tree.ReceiveClause w t xs y m) cs) =
    record { tag = number_found (tag_named h i t.text); vars = numbers_from v xs; from = v + length xs; body = n }
    ∷ receives h i (n + nodes_in m) (suc (v + length xs) + binders_in m) cs

-- a node of function f
abbrev pub node : ℕ → Kind → Core → Node
node f k core = record { core = core; kind = k; function = f }

-- the nodes of a term of which a kind is needed, in function f: they have the numbers from n on, and the variables that the
-- term binds those from v on
abbrev mutual
  pub nodes_of : Heads → ℕ → Scope → ℕ → ℕ → Kind → tree.Term → List Node
  nodes_of h f scope n v k (tree.LetTerm None m b at) =
      node f k (Let None (suc n) (suc n + nodes_in m))
      ∷ nodes_of h f scope (suc n) v unit_kind m
      ++ nodes_of h f scope (suc n + nodes_in m) (v + binders_in m) k b
  nodes_of h f scope n v k (tree.LetTerm (Some x) m b at) =
      node f k (Let (Some v) (suc n) (suc n + nodes_in m))
      ∷ nodes_of h f scope (suc n) (suc v) (kind_of_term h scope (suc v) m) m
      ++ nodes_of h f (variable x.text v (kind_of_term h scope (suc v) m) ∷ scope) (suc n + nodes_in m) (suc v + binders_in m) k b
  nodes_of h f scope n v k (tree.IfTerm e m b at) =
      node f k (If (expr_of scope e) (suc n) (suc n + nodes_in m))
      ∷ nodes_of h f scope (suc n) v k m
      ++ nodes_of h f scope (suc n + nodes_in m) (v + binders_in m) k b
  nodes_of h f scope n v k (tree.PrintTerm e at) = node f k (Print (expr_of scope e)) ∷ []
  nodes_of h f scope n v k (tree.NewTerm x at) = node f k (New (number_found (interface_called h x.text))) ∷ []
  nodes_of h f scope n v k (tree.SpawnTerm m at) = node f k (Spawn (suc n)) ∷ nodes_of h f scope (suc n) v unit_kind m
  nodes_of h f scope n v k (tree.FreeTerm x at) = node f k (Guard (number_of scope x.text) One (Some (suc n)) []) ∷ node f k (Val (Literal UnitConst)) ∷ []
  nodes_of h f scope n v k (tree.GuardTerm x p cs at) =
      node f k (Guard (number_of scope x.text) (pattern_of (tag_names h (guarded scope x.text)) p) (free_body (suc n) cs) (receives h (guarded scope x.text) (suc n) v cs))
      ∷ clauses_nodes_of h f (guarded scope x.text) scope (suc n) v k cs
  nodes_of h f scope n v k (tree.SendTerm x t es at) =
      node f k (Send (number_of scope x.text) (number_found (tag_named h (guarded scope x.text) t.text)) (map (expr_of scope) es)) ∷ []
  nodes_of h f scope n v k (tree.CallTerm g es at) = node f k (Call (number_found (function_named h g.text)) (map (expr_of scope) es)) ∷ []
  nodes_of h f scope n v k (tree.ValueTerm e at) = node f k (Val (expr_of scope e)) ∷ []

  -- those of the clauses of a guard on a mailbox of interface i
  pub clauses_nodes_of : Heads → ℕ → ℕ → Scope → ℕ → ℕ → Kind → tree.Clauses → List Node
  clauses_nodes_of h f i scope n v k tree.no_clauses = []
  clauses_nodes_of h f i scope n v k (tree.with_clause (tree.FailClause w) cs) = clauses_nodes_of h f i scope n v k cs
  clauses_nodes_of h f i scope n v k (tree.with_clause (tree.FreeClause w m) cs) =
      nodes_of h f scope n v k m ++ clauses_nodes_of h f i scope (n + nodes_in m) (v + binders_in m) k cs
  clauses_nodes_of h f i scope n v k (tree.with_clause (tree.ReceiveClause w t xs y m) cs) =
      nodes_of h f (clause_scope h i scope v t xs y) n (suc (v + length xs)) k m
      ++ clauses_nodes_of h f i scope (n + nodes_in m) (suc (v + length xs) + binders_in m) k cs

-- as many kinds as names; where one is wanting, that of ()
abbrev pub kinds_for : List tree.Name → List Kind → List Kind
kinds_for [] ks = []
kinds_for (x ∷ xs) [] = unit_kind ∷ kinds_for xs []
kinds_for (x ∷ xs) (k ∷ ks) = k ∷ kinds_for xs ks

-- the kinds of the variables that a term binds, which have the numbers from v on
abbrev mutual
  pub vars_of : Heads → Scope → ℕ → tree.Term → List Kind
  vars_of h scope v (tree.LetTerm None m b at) = vars_of h scope v m ++ vars_of h scope (v + binders_in m) b
  vars_of h scope v (tree.LetTerm (Some x) m b at) =
      kind_of_term h scope (suc v) m
      ∷ vars_of h scope (suc v) m
      ++ vars_of h (variable x.text v (kind_of_term h scope (suc v) m) ∷ scope) (suc v + binders_in m) b
  vars_of h scope v (tree.IfTerm e m b at) = vars_of h scope v m ++ vars_of h scope (v + binders_in m) b
  vars_of h scope v (tree.SpawnTerm m at) = vars_of h scope v m
  vars_of h scope v (tree.GuardTerm x p cs at) = clauses_vars_of h (guarded scope x.text) scope v cs
  vars_of h scope v _ = []

  pub clauses_vars_of : Heads → ℕ → Scope → ℕ → tree.Clauses → List Kind
  clauses_vars_of h i scope v tree.no_clauses = []
  clauses_vars_of h i scope v (tree.with_clause (tree.FailClause w) cs) = clauses_vars_of h i scope v cs
  clauses_vars_of h i scope v (tree.with_clause (tree.FreeClause w m) cs) = vars_of h scope v m ++ clauses_vars_of h i scope (v + binders_in m) cs
  clauses_vars_of h i scope v (tree.with_clause (tree.ReceiveClause w t xs y m) cs) =
      kinds_for xs (payload_kinds (tag_named h i t.text))
      ++ MailboxOf i
      ∷ vars_of h (clause_scope h i scope v t xs y) (suc (v + length xs)) m
      ++ clauses_vars_of h i scope (suc (v + length xs) + binders_in m) cs

-- the scope of a function's body
abbrev pub body_scope : List InterfaceNames → Definition → Scope
body_scope names d = params_scope (signature_of names d).params d.params

-- the functions in order, where the nodes of the first have the numbers from n on
abbrev pub functions_from : List InterfaceNames → Heads → ℕ → List Definition → List Function
functions_from names h n [] = []
functions_from names h n (d ∷ ds) =
    record {
      name = d.name.text;
      params = (signature_of names d).params;
      result = (signature_of names d).result;
      vars = map kind_of (signature_of names d).params ++ vars_of h (body_scope names d) (length d.params) d.body;
      body = n;
    }
    ∷ functions_from names h (n + nodes_in d.body) ds

-- the nodes of the functions from number f on, from node n on
abbrev pub nodes_from : List InterfaceNames → Heads → ℕ → ℕ → List Definition → List Node
nodes_from names h f n [] = []
nodes_from names h f n (d ∷ ds) =
    nodes_of h f (body_scope names d) n (length d.params) (kind_of (signature_of names d).result) d.body
    ++ nodes_from names h (suc f) (n + nodes_in d.body) ds

-- the program of a tree
abbrev pub numbered : tree.Tree → Program
numbered t = record {
  interfaces = (heads_of t).interfaces;
  functions = functions_from (interface_names t) (heads_of t) 0 (definitions_of t);
  main = number_found (main_of t);
  nodes = nodes_from (interface_names t) (heads_of t) 0 0 (definitions_of t);
}

-- Where the parts of a numbered program stand in the text: programs have no places themselves.
use Rattle.std.specs.Prelude.{List, [], ◌∷◌, ◌++◌, map, Option, Some, None}
use Rattle.std.specs.List.{flat_map}
use Rattle.pat_parser_spec.specs.Trees as tree
use Rattle.pat_resolver_spec.specs.Heads.{Definition, definitions_of}

-- the place of a written mailbox type
abbrev pub type_place : tree.WrittenType → Option tree.Span
type_place (tree.BaseType b at) = None
type_place (tree.MailboxType x q e at) = Some at

-- the places of the payloads' mailbox types, by interface and tag
abbrev pub payload_places : tree.Tree → List (List (List (Option tree.Span)))
payload_places [] = []
payload_places (tree.InterfaceDecl x ms ∷ ds) = map (λ m. map type_place m.payloads) ms ∷ payload_places ds
payload_places (tree.DefDecl x ps r m ∷ ds) = payload_places ds

-- the places of a term's nodes, in order; both nodes of free(x) stand where it does
abbrev mutual
  pub node_places : tree.Term → List tree.Span
  node_places (tree.LetTerm x m n at) = at ∷ node_places m ++ node_places n
  node_places (tree.IfTerm e m n at) = at ∷ node_places m ++ node_places n
  node_places (tree.PrintTerm e at) = at ∷ []
  node_places (tree.NewTerm x at) = at ∷ []
  node_places (tree.SpawnTerm m at) = at ∷ node_places m
  node_places (tree.FreeTerm x at) = at ∷ at ∷ []
  node_places (tree.GuardTerm x p cs at) = at ∷ clauses_node_places cs
  node_places (tree.SendTerm x t es at) = at ∷ []
  node_places (tree.CallTerm f es at) = at ∷ []
  node_places (tree.ValueTerm e at) = at ∷ []

  pub clauses_node_places : tree.Clauses → List tree.Span
  clauses_node_places tree.no_clauses = []
  clauses_node_places (tree.with_clause (tree.FailClause w) cs) = clauses_node_places cs
  clauses_node_places (tree.with_clause (tree.FreeClause w m) cs) = node_places m ++ clauses_node_places cs
  clauses_node_places (tree.with_clause (tree.ReceiveClause w t xs y m) cs) = node_places m ++ clauses_node_places cs

-- the places of the names that a term binds, in the order of their numbers
abbrev mutual
  pub var_places : tree.Term → List tree.Span
  var_places (tree.LetTerm None m n at) = var_places m ++ var_places n
  var_places (tree.LetTerm (Some x) m n at) = x.span ∷ var_places m ++ var_places n
  var_places (tree.IfTerm e m n at) = var_places m ++ var_places n
  var_places (tree.SpawnTerm m at) = var_places m
  var_places (tree.GuardTerm x p cs at) = clauses_var_places cs
  var_places _ = []

  pub clauses_var_places : tree.Clauses → List tree.Span
  clauses_var_places tree.no_clauses = []
  clauses_var_places (tree.with_clause (tree.FailClause w) cs) = clauses_var_places cs
  clauses_var_places (tree.with_clause (tree.FreeClause w m) cs) = var_places m ++ clauses_var_places cs
  clauses_var_places (tree.with_clause (tree.ReceiveClause w t xs y m) cs) = map (λ x. x.span) xs ++ y.span ∷ var_places m ++ clauses_var_places cs

-- the places of a function's variables, and of the mailbox types of its parameters and of its result
pub record FunctionPlaces : Type 0 where
  pub vars : List tree.Span
  pub params : List (Option tree.Span)
  pub result : Option tree.Span

abbrev pub function_places : Definition → FunctionPlaces
function_places d = record {
  vars = map (λ p. p.name.span) d.params ++ var_places d.body;
  params = map (λ p. type_place p.type) d.params;
  result = type_place d.result;
}

-- the places of payloads, functions and nodes, by their numbers
pub record Places : Type 0 where
  pub payloads : List (List (List (Option tree.Span)))
  pub functions : List FunctionPlaces
  pub nodes : List tree.Span

-- those of the program of a tree
abbrev pub places : tree.Tree → Places
places t = record {
  payloads = payload_places t;
  functions = map function_places (definitions_of t);
  nodes = flat_map (λ d. node_places d.body) (definitions_of t);
}

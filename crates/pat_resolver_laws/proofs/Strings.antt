-- The string literals of a program are those of its tree, and each of its parts has a place.
use Rattle.std.proofs.Common.{◌≡◌, ◌+◌, ℕ, zero, suc, List, [], ◌∷◌, ◌++◌, length, Some, None, refl, ap, sym, ◌∙◌, arith, append_assoc, length-append}
use Rattle.std.specs.Prelude.{map, slice_get}
use Rattle.std.specs.List.{flat_map}
use Rattle.std.proofs.lemmas.List.{length-map}
use Rattle.pat_semantics_spec.specs.Values.{Kind}
use Rattle.pat_semantics_spec.specs.Programs.{Function, Node, kind_of}
use Rattle.pat_parser_spec.specs.Trees as tree
use Rattle.pat_resolver_spec.specs.Scopes.{Scope, variable, unit_kind}
use Rattle.pat_resolver_spec.specs.Heads.{InterfaceNames, sort_of, tag_of, interfaces_of, Definition, signature_of, Heads, clause_scope}
use Rattle.pat_resolver_spec.specs.Findings.{binders_in, clauses_binders_in, guarded, kind_of_term}
use Rattle.pat_resolver_spec.specs.Numbering.{expr_of, nodes_in, clauses_nodes_in, nodes_of, clauses_nodes_of, vars_of, body_scope, functions_from, nodes_from}
use Rattle.pat_resolver_spec.specs.Claims.{expr_strings, core_strings, written_expr_strings, term_strings, clauses_strings}
use Rattle.pat_resolver_spec.specs.Places.{type_place, payload_places, FunctionPlaces, function_places, node_places, clauses_node_places, var_places, clauses_var_places}
use Rattle.pat_resolver_laws.proofs.Binding.{nodes_length, vars_length}
use Rattle.pat_resolver_laws.proofs.Terms.{right_nil}

-- ---- strings

abbrev nodes_strings : List Node → List (List ℕ)
nodes_strings ds = flat_map (λ d. core_strings d.core) ds

both_strings : (xs ys : List Node) (a b : List (List ℕ)) → nodes_strings xs ≡ a → nodes_strings ys ≡ b → nodes_strings (xs ++ ys) ≡ a ++ b
both_strings [] ys a b e g = g ∙ ap (λ c. c ++ b) e
both_strings (x ∷ xs) ys a b e g =
    ap (λ c. core_strings x.core ++ c) (both_strings xs ys (nodes_strings xs) b refl g)
    ∙ sym (append_assoc (core_strings x.core) (nodes_strings xs) b)
    ∙ ap (λ c. c ++ b) e

expr_kept : (scope : Scope) (e : tree.Expr) → expr_strings (expr_of scope e) ≡ written_expr_strings e
expr_kept scope (tree.VarExpr x at) = refl
expr_kept scope (tree.UnitExpr at) = refl
expr_kept scope (tree.BoolExpr b at) = refl
expr_kept scope (tree.IntExpr n at) = refl
expr_kept scope (tree.StrExpr s at) = refl
expr_kept scope (tree.OpExpr op a b at) = ap (λ c. c ++ expr_strings (expr_of scope b)) (expr_kept scope a) ∙ ap (λ c. written_expr_strings a ++ c) (expr_kept scope b)

args_kept : (scope : Scope) (es : List tree.Expr) → flat_map expr_strings (map (expr_of scope) es) ≡ flat_map written_expr_strings es
args_kept scope [] = refl
args_kept scope (e ∷ es) = ap (λ c. c ++ flat_map expr_strings (map (expr_of scope) es)) (expr_kept scope e) ∙ ap (λ c. written_expr_strings e ++ c) (args_kept scope es)

one_more : (a b : List (List ℕ)) → a ≡ b → a ++ [] ≡ b
one_more a b e = right_nil a ∙ e

module _ (h : Heads) (f : ℕ) where
  mutual
    term_kept : (t : tree.Term) (scope : Scope) (n v : ℕ) (k : Kind) → nodes_strings (nodes_of h f scope n v k t) ≡ term_strings t
    term_kept (tree.LetTerm None m b at) scope n v k =
        both_strings (nodes_of h f scope (suc n) v unit_kind m) (nodes_of h f scope (suc n + nodes_in m) (v + binders_in m) k b) (term_strings m) (term_strings b)
        (term_kept m scope (suc n) v unit_kind) (term_kept b scope (suc n + nodes_in m) (v + binders_in m) k)
    term_kept (tree.LetTerm (Some x) m b at) scope n v k =
        let j = kind_of_term h scope (suc v) m in
        let inner = variable x.text v j ∷ scope in
        both_strings (nodes_of h f scope (suc n) (suc v) j m) (nodes_of h f inner (suc n + nodes_in m) (suc v + binders_in m) k b) (term_strings m) (term_strings b)
        (term_kept m scope (suc n) (suc v) j) (term_kept b inner (suc n + nodes_in m) (suc v + binders_in m) k)
    term_kept (tree.IfTerm e m b at) scope n v k =
        let xs = nodes_of h f scope (suc n) v k m in
        let ys = nodes_of h f scope (suc n + nodes_in m) (v + binders_in m) k b in
        ap (λ c. c ++ nodes_strings (xs ++ ys)) (expr_kept scope e)
        ∙ ap (λ c. written_expr_strings e ++ c) (both_strings xs ys (term_strings m) (term_strings b) (term_kept m scope (suc n) v k) (term_kept b scope (suc n + nodes_in m) (v + binders_in m) k))
        ∙ sym (append_assoc (written_expr_strings e) (term_strings m) (term_strings b))
    term_kept (tree.PrintTerm e at) scope n v k = one_more (expr_strings (expr_of scope e)) (written_expr_strings e) (expr_kept scope e)
    term_kept (tree.NewTerm x at) scope n v k = refl
    term_kept (tree.SpawnTerm m at) scope n v k = term_kept m scope (suc n) v unit_kind
    term_kept (tree.FreeTerm x at) scope n v k = refl
    term_kept (tree.GuardTerm x p cs at) scope n v k = clauses_kept cs (guarded scope x.text) scope (suc n) v k
    term_kept (tree.SendTerm x t es at) scope n v k = one_more (flat_map expr_strings (map (expr_of scope) es)) (flat_map written_expr_strings es) (args_kept scope es)
    term_kept (tree.CallTerm g es at) scope n v k = one_more (flat_map expr_strings (map (expr_of scope) es)) (flat_map written_expr_strings es) (args_kept scope es)
    term_kept (tree.ValueTerm e at) scope n v k = one_more (expr_strings (expr_of scope e)) (written_expr_strings e) (expr_kept scope e)

    clauses_kept : (cs : tree.Clauses) (i : ℕ) (scope : Scope) (n v : ℕ) (k : Kind) → nodes_strings (clauses_nodes_of h f i scope n v k cs) ≡ clauses_strings cs
    clauses_kept tree.no_clauses i scope n v k = refl
    clauses_kept (tree.with_clause (tree.FailClause w) cs) i scope n v k = clauses_kept cs i scope n v k
    clauses_kept (tree.with_clause (tree.FreeClause w m) cs) i scope n v k =
        both_strings (nodes_of h f scope n v k m) (clauses_nodes_of h f i scope (n + nodes_in m) (v + binders_in m) k cs) (term_strings m) (clauses_strings cs)
        (term_kept m scope n v k) (clauses_kept cs i scope (n + nodes_in m) (v + binders_in m) k)
    clauses_kept (tree.with_clause (tree.ReceiveClause w t xs y m) cs) i scope n v k =
        let inner = clause_scope h i scope v t xs y in
        let u = suc (v + length xs) in
        both_strings (nodes_of h f inner n u k m) (clauses_nodes_of h f i scope (n + nodes_in m) (u + binders_in m) k cs) (term_strings m) (clauses_strings cs)
        (term_kept m inner n u k) (clauses_kept cs i scope (n + nodes_in m) (u + binders_in m) k)

pub strings_kept : (names : List InterfaceNames) (h : Heads) (f n : ℕ) (ds : List Definition) → nodes_strings (nodes_from names h f n ds) ≡ flat_map (λ d. term_strings d.body) ds
strings_kept names h f n [] = refl
strings_kept names h f n (d ∷ ds) =
    both_strings (nodes_of h f (body_scope names d) n (length d.params) (kind_of (signature_of names d).result) d.body) (nodes_from names h (suc f) (n + nodes_in d.body) ds) (term_strings d.body) (flat_map (λ d. term_strings d.body) ds)
    (term_kept h f d.body (body_scope names d) n (length d.params) (kind_of (signature_of names d).result))
    (strings_kept names h (suc f) (n + nodes_in d.body) ds)

-- ---- places

mutual
  node_places_length : (t : tree.Term) → length (node_places t) ≡ nodes_in t
  node_places_length (tree.LetTerm x m b at) = let l = node_places_length m in let r = node_places_length b in let both = length-append (node_places m) (node_places b) in omega (arith, l, r, both)
  node_places_length (tree.IfTerm e m b at) = let l = node_places_length m in let r = node_places_length b in let both = length-append (node_places m) (node_places b) in omega (arith, l, r, both)
  node_places_length (tree.PrintTerm e at) = refl
  node_places_length (tree.NewTerm x at) = refl
  node_places_length (tree.SpawnTerm m at) = ap suc (node_places_length m)
  node_places_length (tree.FreeTerm x at) = refl
  node_places_length (tree.GuardTerm x p cs at) = ap suc (clauses_node_places_length cs)
  node_places_length (tree.SendTerm x t es at) = refl
  node_places_length (tree.CallTerm f es at) = refl
  node_places_length (tree.ValueTerm e at) = refl

  clauses_node_places_length : (cs : tree.Clauses) → length (clauses_node_places cs) ≡ clauses_nodes_in cs
  clauses_node_places_length tree.no_clauses = refl
  clauses_node_places_length (tree.with_clause (tree.FailClause w) cs) = clauses_node_places_length cs
  clauses_node_places_length (tree.with_clause (tree.FreeClause w m) cs) = let l = node_places_length m in let r = clauses_node_places_length cs in let both = length-append (node_places m) (clauses_node_places cs) in omega (arith, l, r, both)
  clauses_node_places_length (tree.with_clause (tree.ReceiveClause w t xs y m) cs) = let l = node_places_length m in let r = clauses_node_places_length cs in let both = length-append (node_places m) (clauses_node_places cs) in omega (arith, l, r, both)

mutual
  pub var_places_length : (t : tree.Term) → length (var_places t) ≡ binders_in t
  var_places_length (tree.LetTerm None m b at) = let l = var_places_length m in let r = var_places_length b in let both = length-append (var_places m) (var_places b) in omega (arith, l, r, both)
  var_places_length (tree.LetTerm (Some x) m b at) = let l = var_places_length m in let r = var_places_length b in let both = length-append (var_places m) (var_places b) in omega (arith, l, r, both)
  var_places_length (tree.IfTerm e m b at) = let l = var_places_length m in let r = var_places_length b in let both = length-append (var_places m) (var_places b) in omega (arith, l, r, both)
  var_places_length (tree.PrintTerm e at) = refl
  var_places_length (tree.NewTerm x at) = refl
  var_places_length (tree.SpawnTerm m at) = var_places_length m
  var_places_length (tree.FreeTerm x at) = refl
  var_places_length (tree.GuardTerm x p cs at) = clauses_var_places_length cs
  var_places_length (tree.SendTerm x t es at) = refl
  var_places_length (tree.CallTerm f es at) = refl
  var_places_length (tree.ValueTerm e at) = refl

  clauses_var_places_length : (cs : tree.Clauses) → length (clauses_var_places cs) ≡ clauses_binders_in cs
  clauses_var_places_length tree.no_clauses = refl
  clauses_var_places_length (tree.with_clause (tree.FailClause w) cs) = clauses_var_places_length cs
  clauses_var_places_length (tree.with_clause (tree.FreeClause w m) cs) = let l = var_places_length m in let r = clauses_var_places_length cs in let both = length-append (var_places m) (clauses_var_places cs) in omega (arith, l, r, both)
  clauses_var_places_length (tree.with_clause (tree.ReceiveClause w t xs y m) cs) =
      let l = var_places_length m in
      let r = clauses_var_places_length cs in
      let names = length-map xs (λ x. x.span) in
      let one = length-append (map (λ x. x.span) xs) (y.span ∷ var_places m) in
      let both = length-append (map (λ x. x.span) xs ++ y.span ∷ var_places m) (clauses_var_places cs) in
      omega (arith, l, r, names, one, both)

pub nodes_placed : (names : List InterfaceNames) (h : Heads) (f n : ℕ) (ds : List Definition) → length (flat_map (λ d. node_places d.body) ds) ≡ length (nodes_from names h f n ds)
nodes_placed names h f n [] = refl
nodes_placed names h f n (d ∷ ds) =
    let own = nodes_of h f (body_scope names d) n (length d.params) (kind_of (signature_of names d).result) d.body in
    let l = node_places_length d.body in
    let r = nodes_length h f d.body (body_scope names d) n (length d.params) (kind_of (signature_of names d).result) in
    let rest = nodes_placed names h (suc f) (n + nodes_in d.body) ds in
    let places = length-append (node_places d.body) (flat_map (λ d. node_places d.body) ds) in
    let nodes = length-append own (nodes_from names h (suc f) (n + nodes_in d.body) ds) in
    omega (arith, l, r, rest, places, nodes)

pub functions_placed : (names : List InterfaceNames) (h : Heads) (n : ℕ) (ds : List Definition) → length (map function_places ds) ≡ length (functions_from names h n ds)
functions_placed names h n [] = refl
functions_placed names h n (d ∷ ds) = ap suc (functions_placed names h (n + nodes_in d.body) ds)

pub parts_placed : (names : List InterfaceNames) (h : Heads) (n : ℕ) (ds : List Definition) (f : ℕ) (g : Function) (q : FunctionPlaces) → slice_get (functions_from names h n ds) f ≡ Some g → slice_get (map function_places ds) f ≡ Some q → (length q.vars ≡ length g.vars) × (length q.params ≡ length g.params)
parts_placed names h n [] f g q at there = cc
parts_placed names h n (d ∷ ds) zero g q at there =
    let sorts = (signature_of names d).params in
    let it : Function = record { name = d.name.text; params = sorts; result = (signature_of names d).result; vars = map kind_of sorts ++ vars_of h (body_scope names d) (length d.params) d.body; body = n } in
    let same : it ≡ g = cc in
    let places : function_places d ≡ q = cc in
    let l = length-append (map (λ p. p.name.span) d.params) (var_places d.body) in
    let r = length-append (map kind_of sorts) (vars_of h (body_scope names d) (length d.params) d.body) in
    let names_long = length-map d.params (λ p. p.name.span) in
    let types_long = length-map d.params (λ p. type_place p.type) in
    let sorts_long = length-map d.params (λ p. sort_of names p.type) in
    let kinds_long = length-map sorts kind_of in
    let own = var_places_length d.body in
    let vars = vars_length h d.body (body_scope names d) (length d.params) in
    let one : length (function_places d).vars ≡ length it.vars = omega (arith, l, r, names_long, sorts_long, kinds_long, own, vars) in
    let two : length (function_places d).params ≡ length it.params = omega (arith, types_long, sorts_long) in (
      ap (λ (q : FunctionPlaces). length q.vars) (sym places) ∙ one ∙ ap (λ (g : Function). length g.vars) same,
      ap (λ (q : FunctionPlaces). length q.params) (sym places) ∙ two ∙ ap (λ (g : Function). length g.params) same,
    )
parts_placed names h n (d ∷ ds) (suc f) g q at there = parts_placed names h (n + nodes_in d.body) ds f g q at there

messages_placed : (all : List InterfaceNames) (ms : List tree.Message) → map (λ t. length t) (map (λ m. map type_place m.payloads) ms) ≡ map (λ t. length t.payloads) (map (tag_of all) ms)
messages_placed all [] = refl
messages_placed all (m ∷ ms) =
    ap (λ n. n ∷ map (λ t. length t) (map (λ m. map type_place m.payloads) ms)) (length-map m.payloads type_place ∙ sym (length-map m.payloads (sort_of all)))
    ∙ ap (λ ns. length (map (sort_of all) m.payloads) ∷ ns) (messages_placed all ms)

pub payloads_placed : (all : List InterfaceNames) (ds : tree.Tree) → map (λ i. map (λ t. length t) i) (payload_places ds) ≡ map (λ i. map (λ t. length t.payloads) i.tags) (interfaces_of all ds)
payloads_placed all [] = refl
payloads_placed all (tree.InterfaceDecl x ms ∷ ds) =
    ap (λ ns. ns ∷ map (λ i. map (λ t. length t) i) (payload_places ds)) (messages_placed all ms)
    ∙ ap (λ is. map (λ t. length t.payloads) (map (tag_of all) ms) ∷ is) (payloads_placed all ds)
payloads_placed all (tree.DefDecl x ps r m ∷ ds) = payloads_placed all ds

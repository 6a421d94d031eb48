-- What is found in the bodies of functions one after another, and what they resolve to.
use Rattle.std.specs.Prelude.{ℕ, ◌+◌, List, [], ◌∷◌, ◌++◌, length, map}
use Rattle.pat_semantics_spec.specs.Values.{Kind}
use Rattle.pat_semantics_spec.specs.Programs.{Function, Node, kind_of}
use Rattle.pat_resolver_spec.specs.Heads.{InterfaceNames, Definition, Heads, signature_of}
use Rattle.pat_resolver_spec.specs.Findings.{Finding, term_findings}
use Rattle.pat_resolver_spec.specs.Numbering.{nodes_in, nodes_of, vars_of, body_scope}
use Rattle.pat_tree.specs.Views.{name_view, param_view, type_view, term_view}
use Rattle.pat_tree.specs.declared.pattern.Name.{Name}
use Rattle.pat_tree.specs.declared.term.Term.{Term}
use Rattle.pat_tree.specs.declared.tree.TreeType.{TreeType}
use Rattle.pat_tree.specs.declared.tree.Param.{Param}

-- a declared function
abbrev pub definition_view : Name → List Param → TreeType → Term → Definition
definition_view x ps r m = record { name = name_view x; params = map param_view ps; result = type_view r; body = term_view m }

-- the kind that is needed of its body
abbrev pub result_kind : List InterfaceNames → Definition → Kind
result_kind names d = kind_of (signature_of names d).result

abbrev pub body_findings : List InterfaceNames → Heads → Definition → List Finding
body_findings names h d = term_findings h (body_scope names d) (length d.params) (result_kind names d) d.body

-- the function, whose nodes have the numbers from n on
abbrev pub function_of : List InterfaceNames → Heads → ℕ → Definition → Function
function_of names h n d = record {
  name = d.name.text;
  params = (signature_of names d).params;
  result = (signature_of names d).result;
  vars = map kind_of (signature_of names d).params ++ vars_of h (body_scope names d) (length d.params) d.body;
  body = n;
}

-- its nodes, where it has the number f
abbrev pub function_nodes : List InterfaceNames → Heads → ℕ → ℕ → Definition → List Node
function_nodes names h f n d = nodes_of h f (body_scope names d) n (length d.params) (result_kind names d) d.body

-- how many nodes the bodies of functions have
abbrev pub nodes_in_all : List Definition → ℕ
nodes_in_all [] = 0
nodes_in_all (d ∷ ds) = nodes_in d.body + nodes_in_all ds

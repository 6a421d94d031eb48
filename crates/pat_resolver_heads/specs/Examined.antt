-- What is found in one part of a head.
use Rattle.std.specs.Prelude.{ℕ, true, false, not, nat_eq, List, [], ◌∷◌, ◌++◌, length}
use Rattle.std.specs.List.{flat_map}
use Rattle.pat_parser_spec.specs.Trees as tree
use Rattle.pat_resolver_spec.specs.Heads.{InterfaceNames}
use Rattle.pat_resolver_spec.specs.Findings.{Finding, TooManyTags, unless, repeated, type_findings, messages_findings, params_findings}

-- a message behind those of the earlier names
abbrev pub message_findings : List InterfaceNames → List (List ℕ) → tree.Message → List Finding
message_findings names earlier m = repeated earlier m.name ++ unless (not (nat_eq (length earlier) 32)) TooManyTags m.name.span ++ flat_map (type_findings names) m.payloads

-- a parameter behind those of the earlier names
abbrev pub param_findings : List InterfaceNames → List (List ℕ) → tree.Param → List Finding
param_findings names earlier p = repeated earlier p.name ++ type_findings names p.type

-- the head of a declaration, behind interfaces and functions of the earlier names
abbrev pub decl_findings : List InterfaceNames → List (List ℕ) → List (List ℕ) → tree.Decl → List Finding
decl_findings names interfaces functions (tree.InterfaceDecl x ms) = repeated interfaces x ++ messages_findings names [] ms
decl_findings names interfaces functions (tree.DefDecl x ps r m) = repeated functions x ++ params_findings names [] ps ++ type_findings names r

-- the names of interfaces, with that of the declaration if it declares one
abbrev pub interfaces_with : tree.Decl → List (List ℕ) → List (List ℕ)
interfaces_with (tree.InterfaceDecl x ms) interfaces = x.text ∷ interfaces
interfaces_with (tree.DefDecl x ps r m) interfaces = interfaces

-- the names of functions, with that of the declaration if it declares one
abbrev pub functions_with : tree.Decl → List (List ℕ) → List (List ℕ)
functions_with (tree.InterfaceDecl x ms) functions = functions
functions_with (tree.DefDecl x ps r m) functions = x.text ∷ functions

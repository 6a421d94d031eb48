-- Findings declaration by declaration.
use Rattle.std.proofs.Common.{◌≡◌, ℕ, List, ◌∷◌, ◌++◌, refl}
use Rattle.pat_parser_spec.specs.Trees as tree
use Rattle.pat_resolver_spec.specs.Findings.{heads_findings}
use Rattle.pat_resolver_spec.specs.Heads.{InterfaceNames}
use Rattle.pat_resolver_heads.specs.Examined.{decl_findings, interfaces_with, functions_with}

-- what is found in declarations is found in the first, and then in the others
pub heads_item : (names : List InterfaceNames) (interfaces functions : List (List ℕ)) (d : tree.Decl) (ds : tree.Tree) → heads_findings names interfaces functions (d ∷ ds) ≡ decl_findings names interfaces functions d ++ heads_findings names (interfaces_with d interfaces) (functions_with d functions) ds
heads_item names interfaces functions (tree.InterfaceDecl x ms) ds = refl
heads_item names interfaces functions (tree.DefDecl x ps r m) ds = refl

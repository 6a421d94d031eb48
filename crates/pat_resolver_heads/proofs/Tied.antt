-- The tables and the numbered interfaces have the same names; a signature that is made.
use Rattle.std.proofs.Common.{◌≡◌, ℕ, List, [], ◌∷◌, ◌++◌, map, refl, ap, sym, ◌∙◌}
use Rattle.std.proofs.lemmas.List.{map-append}
use Rattle.pat_parser_spec.specs.Trees as tree
use Rattle.pat_resolver_spec.specs.Heads.{InterfaceNames, interface_names, interfaces_of, tag_of, sort_of, signature_of, definitions_of}
use Rattle.pat_semantics_spec.specs.Programs as seen
use Rattle.pat_core.specs.Views.{interface_view, sort_view}
use Rattle.pat_core.specs.declared.program.Interface.{Interface}
use Rattle.pat_tree.specs.Views.{type_view, param_view, decl_view}
use Rattle.pat_tree.specs.declared.pattern.Name.{Name}
use Rattle.pat_tree.specs.declared.term.Term.{Term}
use Rattle.pat_tree.specs.declared.tree.TreeType.{TreeType}
use Rattle.pat_tree.specs.declared.tree.Param.{Param}
use Rattle.pat_tree.specs.declared.tree.Decl.{Decl}
use Rattle.pat_tree.specs.declared.tree.Decl.TheVariants as decl
use Rattle.pat_resolver_heads.specs.Names.{table_view}
use Rattle.pat_resolver_heads.specs.Signatures.{signature_view}
use Rattle.pat_resolver_heads.specs.declared.names.InterfaceTable.{InterfaceTable}
use Rattle.pat_resolver_heads.specs.declared.heads.Signature.{Signature}
use Rattle.pat_resolver_heads.proofs.Tags.{own_names, same_names}

-- ---- names of interfaces

table_names : (ts : List InterfaceTable) → map (λ t. t.name.now) ts ≡ map (λ i. i.name) (map table_view ts)
table_names [] = refl
table_names (t ∷ ts) = ap (λ xs. t.name.now ∷ xs) (table_names ts)

seen_names : (is : List Interface) → map (λ i. i.name) is ≡ map (λ i. i.name) (map interface_view is)
seen_names [] = refl
seen_names (i ∷ is) = ap (λ xs. i.name ∷ xs) (seen_names is)

numbered_names : (names : List InterfaceNames) (t : tree.Tree) → map (λ i. i.name) (interfaces_of names t) ≡ map (λ i. i.name) (interface_names t)
numbered_names names [] = refl
numbered_names names (tree.InterfaceDecl x ms ∷ t) = ap (λ xs. x.text ∷ xs) (numbered_names names t)
numbered_names names (tree.DefDecl x ps r m ∷ t) = numbered_names names t

pub names_tied : (ts : List InterfaceTable) (is : List Interface) (names : List InterfaceNames) (t : tree.Tree) → map table_view ts ≡ interface_names t → map interface_view is ≡ interfaces_of names t → map (λ t. t.name.now) ts ≡ map (λ i. i.name) is
names_tied ts is names t tables numbers =
    table_names ts ∙ ap (map (λ (i : InterfaceNames). i.name)) tables ∙ sym (numbered_names names t) ∙ ap (map (λ (i : seen.Interface). i.name)) (sym numbers) ∙ sym (seen_names is)

-- ---- names of tags

table_tags : (ts : List InterfaceTable) → map (λ t. t.tags) ts ≡ map (λ i. i.tags) (map table_view ts)
table_tags [] = refl
table_tags (t ∷ ts) = ap (λ xs. t.tags ∷ xs) (table_tags ts)

-- the names of an interface's tags, as they are seen
seen_tags : seen.Interface → List (List ℕ)
seen_tags i = map (λ t. t.name) i.tags

own_tags : (is : List Interface) → map own_names is ≡ map (λ i. map (λ t. t.name) i.tags) (map interface_view is)
own_tags [] = refl
own_tags (i ∷ is) =
    ap (λ (ns : List (List ℕ)). ns ∷ map own_names is) (same_names i.tags)
    ∙ ap (λ (xs : List (List (List ℕ))). map (λ u. u.name) (map Rattle.pat_core.specs.Views.tag_view i.tags) ∷ xs) (own_tags is)

message_names : (names : List InterfaceNames) (ms : List tree.Message) → map (λ t. t.name) (map (tag_of names) ms) ≡ map (λ m. m.name.text) ms
message_names names [] = refl
message_names names (m ∷ ms) = ap (λ xs. m.name.text ∷ xs) (message_names names ms)

numbered_tags : (names : List InterfaceNames) (t : tree.Tree) → map (λ i. map (λ t. t.name) i.tags) (interfaces_of names t) ≡ map (λ i. i.tags) (interface_names t)
numbered_tags names [] = refl
numbered_tags names (tree.InterfaceDecl x ms ∷ t) =
    ap (λ (ns : List (List ℕ)). ns ∷ map (λ i. map (λ t. t.name) i.tags) (interfaces_of names t)) (message_names names ms)
    ∙ ap (λ (xs : List (List (List ℕ))). map (λ m. m.name.text) ms ∷ xs) (numbered_tags names t)
numbered_tags names (tree.DefDecl x ps r m ∷ t) = numbered_tags names t

pub tags_tied : (ts : List InterfaceTable) (is : List Interface) (names : List InterfaceNames) (t : tree.Tree) → map table_view ts ≡ interface_names t → map interface_view is ≡ interfaces_of names t → map (λ t. t.tags) ts ≡ map own_names is
tags_tied ts is names t tables numbers =
    table_tags ts ∙ ap (map (λ (i : InterfaceNames). i.tags)) tables ∙ sym (numbered_tags names t) ∙ ap (map (λ (i : seen.Interface). map (λ u. u.name) i.tags)) (sym numbers) ∙ sym (own_tags is)

-- ---- signatures

pub signature_made : (ss : List Signature) (s : Signature) (new : List Signature) (names : List InterfaceNames) (d : Decl) (x : Name) (ps : List Param) (r : TreeType) (m : Term)
    → d ≡ decl.Def x ps r m → new ≡ ss ++ s ∷ [] → s.name.now ≡ x.text → map sort_view s.params ≡ map (λ p. sort_of names p.type) (map param_view ps) → sort_view s.result ≡ sort_of names (type_view r)
    → map signature_view new ≡ map signature_view ss ++ map (signature_of names) (definitions_of (decl_view d ∷ []))
signature_made ss s new names d x ps r m is grows name params result =
    let ss2 = map signature_view ss in
    ap (map signature_view) grows ∙ map-append signature_view ss (s ∷ [])
    ∙ ap (λ (n : List ℕ). ss2 ++ record { name = n; params = map sort_view s.params; result = sort_view s.result } ∷ []) name
    ∙ ap (λ (q : List seen.Sort). ss2 ++ record { name = x.text; params = q; result = sort_view s.result } ∷ []) params
    ∙ ap (λ (q : seen.Sort). ss2 ++ record { name = x.text; params = map (λ p. sort_of names p.type) (map param_view ps); result = q } ∷ []) result
    ∙ ap (λ (e : Decl). ss2 ++ map (signature_of names) (definitions_of (decl_view e ∷ []))) (sym is)

-- A tree's size bounds its declarations, and where nothing is found in its heads, no interface has more than 32 tags.
use Rattle.std.proofs.Common.{◌≡◌, ◌≢◌, ℕ, suc, zero, ◌+◌, ◌≤◌, true, false, List, [], ◌∷◌, ◌++◌, None, map, length, refl, sym, subst, arith}
use Rattle.std.specs.Prelude.{not, nat_eq}
use Rattle.std.specs.List.{All, AllByRecursion, flat_map}
use Rattle.std.proofs.lemmas.List.{length-map}
use Rattle.pat_parser_spec.specs.Trees as tree
use Rattle.pat_parser_laws.specs.Counts.{tree_size}
use Rattle.pat_resolver_spec.specs.Heads.{InterfaceNames, interface_names}
use Rattle.pat_resolver_spec.specs.Findings.{Finding, TooManyTags, unless, repeated, type_findings, params_findings, messages_findings, heads_findings}
use Rattle.pat_resolver_heads.specs.results.Results.{first_of}
use Rattle.pat_resolver_heads.proofs.Firsts.{first_none}
use Rattle.pat_resolver_heads.specs.Names.{table_view}
use Rattle.pat_resolver_heads.specs.declared.names.InterfaceTable.{InterfaceTable}

pub within_size : (t : tree.Tree) → length t ≤ tree_size t
within_size [] = omega arith
within_size (tree.InterfaceDecl x ms ∷ t) = let deeper = within_size t in omega (arith, deeper)
within_size (tree.DefDecl x ps r m ∷ t) = let deeper = within_size t in omega (arith, deeper)

front_none : (xs ys : List Finding) → xs ++ ys ≡ [] → xs ≡ []
front_none [] ys e = refl
front_none (x ∷ xs) ys e = cc

rest_none : (xs ys : List Finding) → xs ++ ys ≡ [] → ys ≡ []
rest_none [] ys e = e
rest_none (x ∷ xs) ys e = cc

has_room : (n : ℕ) (at : tree.Span) → unless (not (nat_eq n 32)) TooManyTags at ≡ [] → n ≢ 32
has_room n at e h = let full = subst (λ (k : ℕ). unless (not (nat_eq k 32)) TooManyTags at ≡ []) h e in cc

few_messages : (names : List InterfaceNames) (earlier : List (List ℕ)) (ms : List tree.Message) → messages_findings names earlier ms ≡ [] → length earlier ≤ 32 → length earlier + length ms ≤ 32
few_messages names earlier [] e h = omega (arith, h)
few_messages names earlier (m ∷ ms) e h =
    let room = unless (not (nat_eq (length earlier) 32)) TooManyTags m.name.span in
    let types = flat_map (type_findings names) m.payloads in
    let rest = messages_findings names (m.name.text ∷ earlier) ms in
    let front : repeated earlier m.name ++ room ≡ [] = front_none (repeated earlier m.name ++ room) types (front_none (repeated earlier m.name ++ room ++ types) rest e) in
    let fits : length earlier ≢ 32 = has_room (length earlier) m.name.span (rest_none (repeated earlier m.name) room front) in
    let deeper = few_messages names (m.name.text ∷ earlier) ms (rest_none (repeated earlier m.name ++ room ++ types) rest e) (omega (arith, fits, h)) in
    omega (arith, deeper)

few_all : (names : List InterfaceNames) (interfaces functions : List (List ℕ)) (t : tree.Tree) → heads_findings names interfaces functions t ≡ [] → AllByRecursion (λ i. length i.tags ≤ 32) (interface_names t)
few_all names interfaces functions [] e = tt
few_all names interfaces functions (tree.InterfaceDecl x ms ∷ t) e =
    let rest = heads_findings names (x.text ∷ interfaces) functions t in
    let front = repeated interfaces x ++ messages_findings names [] ms in
    let own = few_messages names [] ms (rest_none (repeated interfaces x) (messages_findings names [] ms) (front_none front rest e)) (omega arith) in
    (omega (arith, own, length-map ms (λ (m : tree.Message). m.name.text)), few_all names (x.text ∷ interfaces) functions t (rest_none front rest e))
few_all names interfaces functions (tree.DefDecl x ps r m ∷ t) e =
    few_all names interfaces (x.text ∷ functions) t (rest_none (repeated functions x ++ params_findings names [] ps ++ type_findings names r) (heads_findings names interfaces (x.text ∷ functions) t) e)

few_seen : (ts : List InterfaceTable) → AllByRecursion (λ i. length i.tags ≤ 32) (map table_view ts) → All (λ t. length t.tags ≤ 32) ts
few_seen [] few k d h = absurd (omega (arith, h))
few_seen (t ∷ ts) few zero d h = few.0
few_seen (t ∷ ts) few (suc k) d h = few_seen ts few.1 k d (omega (arith, h))

pub few_tables : (ts : List InterfaceTable) (t : tree.Tree) (names : List InterfaceNames) → map table_view ts ≡ interface_names t → first_of (heads_findings names [] [] t) ≡ None → All (λ t. length t.tags ≤ 32) ts
few_tables ts t names same none = few_seen ts (subst (AllByRecursion (λ i. length i.tags ≤ 32)) (sym same) (few_all names [] [] t (first_none (heads_findings names [] [] t) none)))

-- Declarations one after the other: what is found in them, their functions and their nodes.
use Rattle.std.proofs.Common.{◌≡◌, ◌+◌, ◌≤◌, ℕ, suc, List, [], ◌∷◌, ◌++◌, length, map, Option, None, refl, ap, sym, ◌∙◌, arith, append-nil, append_assoc, length-append}
use Rattle.std.specs.List.{flat_map}
use Rattle.std.proofs.lemmas.List.{length-map}
use Rattle.pat_semantics_spec.specs.Programs.{Function, Node}
use Rattle.pat_parser_spec.specs.Trees as tree
use Rattle.pat_resolver_spec.specs.Heads.{InterfaceNames, Definition, definitions_of, Heads}
use Rattle.pat_resolver_spec.specs.Findings.{Finding, bodies_findings}
use Rattle.pat_resolver_spec.specs.Numbering.{nodes_in, body_scope, functions_from, nodes_from}
use Rattle.pat_resolver_spec.specs.Places.{FunctionPlaces, node_places, function_places}
use Rattle.pat_resolver_laws.proofs.Binding.{nodes_length}
use Rattle.pat_resolver_heads.specs.results.Results.{first_of}
use Rattle.pat_resolver_heads.proofs.Firsts.{first_behind}
use Rattle.pat_resolver.specs.Steps.{nodes_in_all, result_kind, body_findings, function_nodes}

-- what one more makes, where the rest is still to come
turn : {A : Type 0} (made made' own rest whole : List A) → made' ≡ made ++ own → made ++ (own ++ rest) ≡ whole → made' ++ rest ≡ whole
turn made made' own rest whole e f = ap (λ l. l ++ rest) e ∙ append_assoc made own rest ∙ f

abbrev one : tree.Decl → List Definition
one d = definitions_of (d ∷ [])

-- the places of a declaration's nodes
abbrev pub places_of : List Definition → List tree.Span
places_of ds = flat_map (λ (d : Definition). node_places d.body) ds

written_more : (d : tree.Decl) (ds : tree.Tree) → map function_places (definitions_of (d ∷ ds)) ≡ map function_places (one d) ++ map function_places (definitions_of ds)
written_more (tree.InterfaceDecl x ms) ds = refl
written_more (tree.DefDecl x ps r m) ds = refl

places_more : (d : tree.Decl) (ds : tree.Tree) → places_of (definitions_of (d ∷ ds)) ≡ places_of (one d) ++ places_of (definitions_of ds)
places_more (tree.InterfaceDecl x ms) ds = refl
places_more (tree.DefDecl x ps r m) ds = ap (λ l. l ++ places_of (definitions_of ds)) (sym (append-nil (node_places m)))

pub written_turn : (d : tree.Decl) (ds : tree.Tree) (made made' whole : List FunctionPlaces) → made' ≡ made ++ map function_places (one d) → made ++ map function_places (definitions_of (d ∷ ds)) ≡ whole → made' ++ map function_places (definitions_of ds) ≡ whole
written_turn d ds made made' whole e f = turn made made' (map function_places (one d)) (map function_places (definitions_of ds)) whole e (ap (λ l. made ++ l) (sym (written_more d ds)) ∙ f)

pub places_turn : (d : tree.Decl) (ds : tree.Tree) (made made' whole : List tree.Span) → made' ≡ made ++ places_of (one d) → made ++ places_of (definitions_of (d ∷ ds)) ≡ whole → made' ++ places_of (definitions_of ds) ≡ whole
places_turn d ds made made' whole e f = turn made made' (places_of (one d)) (places_of (definitions_of ds)) whole e (ap (λ l. made ++ l) (sym (places_more d ds)) ∙ f)

module _ (names : List InterfaceNames) (h : Heads) where
  pub found_more : (d : tree.Decl) (ds : tree.Tree) → bodies_findings names h (definitions_of (d ∷ ds)) ≡ bodies_findings names h (one d) ++ bodies_findings names h (definitions_of ds)
  found_more (tree.InterfaceDecl x ms) ds = refl
  found_more (tree.DefDecl x ps r m) ds = ap (λ l. l ++ bodies_findings names h (definitions_of ds)) (sym (append-nil (body_findings names h (record { name = x; params = ps; result = r; body = m }))))

  pub found_turn : (d : tree.Decl) (ds : tree.Tree) (whole : Option Finding) → first_of (bodies_findings names h (one d)) ≡ None → first_of (bodies_findings names h (definitions_of (d ∷ ds))) ≡ whole → first_of (bodies_findings names h (definitions_of ds)) ≡ whole
  found_turn d ds whole none all = sym (first_behind (bodies_findings names h (one d)) (bodies_findings names h (definitions_of ds)) none) ∙ ap first_of (sym (found_more d ds)) ∙ all

  functions_more : (n k : ℕ) (d : tree.Decl) (ds : tree.Tree) → k ≡ n + nodes_in_all (one d) → functions_from names h n (definitions_of (d ∷ ds)) ≡ functions_from names h n (one d) ++ functions_from names h k (definitions_of ds)
  functions_more n k (tree.InterfaceDecl x ms) ds e = let same : n ≡ k = omega (arith, e) in ap (λ i. functions_from names h i (definitions_of ds)) same
  functions_more n k (tree.DefDecl x ps r m) ds e =
      let same : n + nodes_in m ≡ k = omega (arith, e) in
      ap (λ i. functions_from names h n (one (tree.DefDecl x ps r m)) ++ functions_from names h i (definitions_of ds)) same

  pub functions_turn : (d : tree.Decl) (ds : tree.Tree) (made made' whole : List Function) (n k : ℕ) → k ≡ n + nodes_in_all (one d) → made' ≡ made ++ functions_from names h n (one d) → made ++ functions_from names h n (definitions_of (d ∷ ds)) ≡ whole → made' ++ functions_from names h k (definitions_of ds) ≡ whole
  functions_turn d ds made made' whole n k count e f =
      turn made made' (functions_from names h n (one d)) (functions_from names h k (definitions_of ds)) whole e (ap (λ l. made ++ l) (sym (functions_more n k d ds count)) ∙ f)

  nodes_more : (f g n k : ℕ) (d : tree.Decl) (ds : tree.Tree) → g ≡ f + length (one d) → k ≡ n + nodes_in_all (one d) → nodes_from names h f n (definitions_of (d ∷ ds)) ≡ nodes_from names h f n (one d) ++ nodes_from names h g k (definitions_of ds)
  nodes_more f g n k (tree.InterfaceDecl x ms) ds e c =
      let same : n ≡ k = omega (arith, c) in
      let also : f ≡ g = omega (arith, e) in
      ap (λ i. nodes_from names h f i (definitions_of ds)) same ∙ ap (λ i. nodes_from names h i k (definitions_of ds)) also
  nodes_more f g n k (tree.DefDecl x ps r m) ds e c =
      let same : n + nodes_in m ≡ k = omega (arith, c) in
      let also : suc f ≡ g = omega (arith, e) in
      let own = function_nodes names h f n (record { name = x; params = ps; result = r; body = m }) in
      ap (λ i. own ++ nodes_from names h (suc f) i (definitions_of ds)) same
      ∙ ap (λ i. own ++ nodes_from names h i k (definitions_of ds)) also
      ∙ ap (λ l. l ++ nodes_from names h g k (definitions_of ds)) (sym (append-nil own))

  pub nodes_turn : (d : tree.Decl) (ds : tree.Tree) (made made' whole : List Node) (f g n k : ℕ) → g ≡ f + length (one d) → k ≡ n + nodes_in_all (one d) → made' ≡ made ++ nodes_from names h f n (one d) → made ++ nodes_from names h f n (definitions_of (d ∷ ds)) ≡ whole → made' ++ nodes_from names h g k (definitions_of ds) ≡ whole
  nodes_turn d ds made made' whole f g n k functions count e all =
      turn made made' (nodes_from names h f n (one d)) (nodes_from names h g k (definitions_of ds)) whole e (ap (λ l. made ++ l) (sym (nodes_more f g n k d ds functions count)) ∙ all)

  nodes_count : (f n : ℕ) (ds : List Definition) → length (nodes_from names h f n ds) ≡ nodes_in_all ds
  nodes_count f n [] = refl
  nodes_count f n (d ∷ ds) =
      let own = nodes_length h f d.body (body_scope names d) n (length d.params) (result_kind names d) in
      let both = length-append (function_nodes names h f n d) (nodes_from names h (suc f) (n + nodes_in d.body) ds) in
      let rest = nodes_count (suc f) (n + nodes_in d.body) ds in
      omega (arith, own, both, rest)

  functions_count : (n : ℕ) (ds : List Definition) → length (functions_from names h n ds) ≡ length ds
  functions_count n [] = refl
  functions_count n (d ∷ ds) = ap suc (functions_count (n + nodes_in d.body) ds)

  pub more_nodes : {A : Type 0} (view : A → Node) (xs ys : List A) (f n : ℕ) (ds : List Definition) → map view ys ≡ map view xs ++ nodes_from names h f n ds → length ys ≡ length xs + nodes_in_all ds
  more_nodes view xs ys f n ds e =
      let a = length-map xs view in
      let b = length-map ys view in
      let both = length-append (map view xs) (nodes_from names h f n ds) in
      let own = nodes_count f n ds in
      let long = ap length e in
      omega (arith, a, b, both, own, long)

  pub more_functions : {A : Type 0} (view : A → Function) (xs ys : List A) (n : ℕ) (ds : List Definition) → map view ys ≡ map view xs ++ functions_from names h n ds → length ys ≡ length xs + length ds
  more_functions view xs ys n ds e =
      let a = length-map xs view in
      let b = length-map ys view in
      let both = length-append (map view xs) (functions_from names h n ds) in
      let own = functions_count n ds in
      let long = ap length e in
      omega (arith, a, b, both, own, long)

-- nodes and functions of declarations one after the other
pub nodes_split : (d : tree.Decl) (ds : tree.Tree) → nodes_in_all (definitions_of (d ∷ ds)) ≡ nodes_in_all (one d) + nodes_in_all (definitions_of ds)
nodes_split (tree.InterfaceDecl x ms) ds = omega arith
nodes_split (tree.DefDecl x ps r m) ds = omega arith

pub at_most_one : (d : tree.Decl) → length (one d) ≤ 1
at_most_one (tree.InterfaceDecl x ms) = omega arith
at_most_one (tree.DefDecl x ps r m) = omega arith

-- The program of a tree that breaks no rule is well formed.
use Rattle.std.proofs.Common.{◌≡◌, ◌+◌, ◌<◌, ◌≤◌, ℕ, zero, suc, true, nat_eq, List, [], ◌∷◌, ◌++◌, length, take, Option, Some, None, refl, ap, sym, ◌∙◌, subst, arith, ⊎_elim, length-append}
use Rattle.std.specs.Prelude.{slice_get, map, codes}
use Rattle.std.specs.List.{AllByRecursion}
use Rattle.std.proofs.lemmas.List.{length-map}
use Rattle.std.proofs.lemmas.Option.{slice_get_within}
use Rattle.pat_semantics_spec.specs.Values.{BaseUnit, Kind}
use Rattle.pat_semantics_spec.specs.Programs.{Sort, BaseSort, TagDecl, Interface, Function, Node, Program, node_at, function_at, kind_of, is_among, is_free}
use Rattle.pat_semantics_spec.specs.WellFormed.{InterfaceFits, IsPayload, IsSignature, FunctionFits, NodeFits, WellFormed, count_if, uses_as_body, uses_as_part, bindings_in}
use Rattle.pat_parser_spec.specs.Trees as tree
use Rattle.pat_resolver_spec.specs.Scopes.{number_found}
use Rattle.pat_resolver_spec.specs.Heads.{InterfaceNames, interface_names, sort_of, Definition, definitions_of, Signature, signature_of, Heads, heads_of, tags_of}
use Rattle.pat_resolver_spec.specs.Findings.{Finding, WrongArity, WrongKind, unless, has_none, is_unit_type, main_findings, main_of, binders_in, term_findings, heads_findings, bodies_findings, findings}
use Rattle.pat_resolver_spec.specs.Numbering.{numbers_from, nodes_in, node, nodes_of, kinds_for, vars_of, body_scope, functions_from, nodes_from, numbered}
use Rattle.pat_resolver_spec.specs.Claims.{IsWritten}
use Rattle.pat_resolver_laws.proofs.Counting.{none_first, none_second, passes, Counts, counts_none, counts_one, counts_both, counts_as, uses_append, bindings_append, among_counted, below_or}
use Rattle.pat_resolver_laws.proofs.Blocks.{From, from_first, from_second, from_here, NodeIsRight, each_both, Placed, Block}
use Rattle.pat_resolver_laws.proofs.Expressions.{found_there, numbers, ScopeFits}
use Rattle.pat_resolver_laws.proofs.Binding.{HasAt, has_first, has_second, vars_length, nodes_length, numbers_count, bound_or_outer, bind_fits, KindIsThere, ScopeIsThere, bind_is_there}
use Rattle.pat_resolver_laws.proofs.Terms.{HeadsFit, term_block}
use Rattle.pat_resolver_laws.proofs.Declared.{all_at, NamesFit, HeadFits, HeadsAreRight, heads_right, names_are, signature_there, signatures_there, payloads_there}

map_at : {A B : Type 0} (g : A → B) (xs : List A) (i : ℕ) (y : B) → slice_get (map g xs) i ≡ Some y → (x : A) × (slice_get xs i ≡ Some x) × (g x ≡ y)
map_at g [] i y e = cc
map_at g (x ∷ xs) zero y e = (x, refl, cc)
map_at g (x ∷ xs) (suc i) y e = map_at g xs i y e

kinds_all : (xs : List tree.Name) (ks : List Kind) → length xs ≡ length ks → kinds_for xs ks ≡ ks
kinds_all [] [] l = refl
kinds_all [] (k ∷ ks) l = absurd (omega (arith, l))
kinds_all (x ∷ xs) [] l = absurd (omega (arith, l))
kinds_all (x ∷ xs) (k ∷ ks) l = ap (λ js. k ∷ js) (kinds_all xs ks (omega (arith, l)))

take_kinds : (ss : List Sort) (more : List Kind) → take (length ss) (map kind_of ss ++ more) ≡ map kind_of ss
take_kinds [] [] = refl
take_kinds [] (k ∷ more) = refl
take_kinds (s ∷ ss) more = ap (λ js. kind_of s ∷ js) (take_kinds ss more)

numbers_below : (x v : ℕ) (xs : List tree.Name) → is_among x (numbers_from v xs) ≡ true → x < v + length xs
numbers_below x v xs h =
    let some = among_counted x (numbers_from v xs) h in
    let counts = numbers_count x v xs in
    below_or (x < v + length xs) x (v + length xs) (λ l. l) (λ g. let none = counts.2 g in absurd (omega (arith, some, none)))

-- the functions have the types of their heads
functions_are : (names : List InterfaceNames) (h : Heads) (n : ℕ) (ds : List Definition) (g : ℕ) (s : Signature) → slice_get (map (signature_of names) ds) g ≡ Some s → (e : Function) × (slice_get (functions_from names h n ds) g ≡ Some e) × (e.params ≡ s.params) × (e.result ≡ s.result)
functions_are names h n [] g s at = cc
functions_are names h n (d ∷ ds) zero s at =
    let same : signature_of names d ≡ s = cc in (
      record {
        name = d.name.text;
        params = (signature_of names d).params;
        result = (signature_of names d).result;
        vars = map kind_of (signature_of names d).params ++ vars_of h (body_scope names d) (length d.params) d.body;
        body = n;
      },
      refl,
      ap (λ (s : Signature). s.params) same,
      ap (λ (s : Signature). s.result) same,
    )
functions_are names h n (d ∷ ds) (suc g) s at = functions_are names h (n + nodes_in d.body) ds g s at

-- what holds of a function but of where its variables are bound
record FunctionIsRight (p : Program) (f : ℕ) (g : Function) : Type 0 where
  body : (d : Node) × (node_at p g.body ≡ Some d) × (d.function ≡ f) × (d.kind ≡ kind_of g.result)
  params : take (length g.params) g.vars ≡ map kind_of g.params
  enough : length g.params ≤ length g.vars
  signature : AllByRecursion (IsSignature p) g.params × IsSignature p g.result
  in_scope : (x : ℕ) → is_free p x g.body ≡ true → x < length g.params

-- a node of a function of the program
abbrev NodeIsOf : Program → ℕ → Node → Type 0
NodeIsOf p n d = (e : Function) × (function_at p d.function ≡ Some e) × NodeIsRight p e.vars d.function n d

module _ (p : Program) (names : List InterfaceNames) (h : Heads) (heads : HeadsFit p h) (fit : NamesFit p names) where
  -- ---- one function

  module _ (d : Definition) (f n : ℕ) (right : HeadFits p names fit d) where
    abbrev sorts : List Sort
    sorts = (signature_of names d).params

    abbrev kinds : List Kind
    kinds = map kind_of sorts

    abbrev binders : List tree.Name
    binders = map (λ c. c.name) d.params

    abbrev result : Kind
    result = kind_of (signature_of names d).result

    abbrev vars : List Kind
    vars = kinds ++ vars_of h (body_scope names d) (length d.params) d.body

    abbrev own : List Node
    own = nodes_of h f (body_scope names d) n (length d.params) result d.body

    abbrev it : Function
    it = record { name = d.name.text; params = sorts; result = (signature_of names d).result; vars = vars; body = n }

    sorts_length : length sorts ≡ length d.params
    sorts_length = length-map d.params (λ c. sort_of names c.type)

    kinds_length : length kinds ≡ length d.params
    kinds_length = length-map sorts kind_of ∙ sorts_length

    binders_length : length binders ≡ length d.params
    binders_length = length-map d.params (λ c. c.name)

    vars_long : length vars ≡ length d.params + binders_in d.body
    vars_long =
        let both = length-append kinds (vars_of h (body_scope names d) (length d.params) d.body) in
        let l = kinds_length in
        let r = vars_length h d.body (body_scope names d) (length d.params) in
        omega (arith, both, l, r)

    has_all : HasAt vars 0 vars
    has_all i k e = let same : 0 + i ≡ i = omega arith in ap (slice_get vars) same ∙ e

    scope_fits : ScopeFits vars (body_scope names d)
    scope_fits =
        bind_fits vars 0 binders kinds []
        (subst (HasAt vars 0) (sym (kinds_all binders kinds (binders_length ∙ sym kinds_length))) (has_first vars 0 kinds (vars_of h (body_scope names d) (length d.params) d.body) has_all))
        tt

    scope_there : ScopeIsThere p (body_scope names d)
    scope_there = bind_is_there p 0 binders kinds [] (signatures_there p sorts right.params) tt

    body_block : term_findings h (body_scope names d) (length d.params) result d.body ≡ [] → Block p vars f (numbers (body_scope names d)) result n (length d.params) (length d.params + binders_in d.body) own
    body_block none =
        let l = kinds_length in
        (term_block p h heads vars f d.body (body_scope names d) n (length d.params) result scope_fits scope_there
        (has_second vars 0 (length d.params) kinds (vars_of h (body_scope names d) (length d.params) d.body) (omega (arith, l)) has_all) none).0

    free_below : Placed p vars f (numbers (body_scope names d)) n own → (x : ℕ) → is_free p x n ≡ true → x < length sorts
    unfolding is_free
    free_below placed x e =
        ⊎_elim
        (λ l. let b = numbers_below x 0 binders l in let i = binders_length in let j = sorts_length in omega (arith, b, i, j))
        (λ r. cc)
        (bound_or_outer x 0 binders kinds [] (placed.scoped (length p.nodes) x e))

    function_right : (b : Block p vars f (numbers (body_scope names d)) result n (length d.params) (length d.params + binders_in d.body) own) → From p n own → FunctionIsRight p f it
    function_right b from = record {
      body = (node f result b.core, from_here p n (node f result b.core) b.others (subst (From p n) b.first from), refl, refl);
      params = take_kinds sorts (vars_of h (body_scope names d) (length d.params) d.body);
      enough = (let i = sorts_length in let j = vars_long in omega (arith, i, j));
      signature = (right.params, right.result);
      in_scope = free_below (b.placed from);
    }

  -- ---- all functions

  record BodiesAreRight (f n : ℕ) (ds : List Definition) : Type 0 where
    uses : (m : ℕ) → Counts (uses_as_body m (functions_from names h n ds) + uses_as_part m (nodes_from names h f n ds)) m n (n + length (nodes_from names h f n ds))
    elsewhere : (g x : ℕ) → g < f → bindings_in g x (nodes_from names h f n ds) ≡ 0
    bindings : (j : ℕ) (e : Function) → slice_get (functions_from names h n ds) j ≡ Some e → (x : ℕ) → Counts (bindings_in (f + j) x (nodes_from names h f n ds)) x (length e.params) (length e.vars)
    functions : (j : ℕ) (e : Function) → slice_get (functions_from names h n ds) j ≡ Some e → FunctionIsRight p (f + j) e
    nodes : (i : ℕ) (d : Node) → slice_get (nodes_from names h f n ds) i ≡ Some d → NodeIsOf p (n + i) d

  -- one function in front of others
  module _ (d : Definition) (f n : ℕ) (right : HeadFits p names fit d) (ds : List Definition) where
    abbrev next : ℕ
    next = n + nodes_in d.body

    abbrev front : List Node
    front = own d f n right

    abbrev back : List Node
    back = nodes_from names h (suc f) next ds

    abbrev later : List Function
    later = functions_from names h next ds

    size : length front ≡ nodes_in d.body
    size = nodes_length h f d.body (body_scope names d) n (length d.params) (result d f n right)

    module _ (b : Block p (vars d f n right) f (numbers (body_scope names d)) (result d f n right) n (length d.params) (length d.params + binders_in d.body) front) (rest : BodiesAreRight (suc f) next ds) (from : From p n (front ++ back)) (here : function_at p f ≡ Some (it d f n right)) where
      all_uses : (m : ℕ) → Counts (count_if (nat_eq m n) + uses_as_body m later + uses_as_part m (front ++ back)) m n (n + length (front ++ back))
      all_uses m =
          let a = uses_append m front back in
          let long = length-append front back in
          let l = size in
          let some : 1 ≤ length front = subst (λ ns. 1 ≤ length ns) (sym b.first) (omega arith) in
          let both : count_if (nat_eq m n) + uses_as_body m later + uses_as_part m (front ++ back) ≡ (count_if (nat_eq m n) + uses_as_part m front) + (uses_as_body m later + uses_as_part m back) = omega (arith, a) in
          counts_both (count_if (nat_eq m n) + uses_as_part m front) (uses_as_body m later + uses_as_part m back) (count_if (nat_eq m n) + uses_as_body m later + uses_as_part m (front ++ back)) m n next (n + length (front ++ back))
          (omega arith) (omega (arith, long, l))
          (counts_both (count_if (nat_eq m n)) (uses_as_part m front) (count_if (nat_eq m n) + uses_as_part m front) m n (suc n) next (omega arith) (omega (arith, some, l)) (counts_one m n)
          (counts_as (uses_as_part m front) (uses_as_part m front) m (suc n) (n + length front) next refl (omega (arith, l)) (b.uses m)) refl)
          (counts_as (uses_as_body m later + uses_as_part m back) (uses_as_body m later + uses_as_part m back) m next (next + length back) (n + length (front ++ back)) refl (omega (arith, long, l)) (rest.uses m))
          both

      all_elsewhere : (g x : ℕ) → g < f → bindings_in g x (front ++ back) ≡ 0
      all_elsewhere g x l =
          let a = bindings_append g x front back in
          let c = b.elsewhere g x (λ e. omega (arith, l, e)) in
          let r = rest.elsewhere g x (omega (arith, l)) in
          omega (arith, a, c, r)

      all_bindings : (j : ℕ) (e : Function) → slice_get (it d f n right ∷ later) j ≡ Some e → (x : ℕ) → Counts (bindings_in (f + j) x (front ++ back)) x (length e.params) (length e.vars)
      all_bindings zero e at x =
          let same : it d f n right ≡ e = cc in
          let number : f ≡ f + 0 = omega arith in
          let a = bindings_append f x front back in
          let none = rest.elsewhere f x (omega arith) in
          let from_here = sorts_length d f n right in
          let to_here = vars_long d f n right in
          subst (λ (e : Function). Counts (bindings_in (f + 0) x (front ++ back)) x (length e.params) (length e.vars)) same
          (subst (λ g. Counts (bindings_in g x (front ++ back)) x (length (sorts d f n right)) (length (vars d f n right))) number
          (subst (λ from. Counts (bindings_in f x (front ++ back)) x from (length (vars d f n right))) (sym from_here)
          (counts_as (bindings_in f x (front ++ back)) (bindings_in f x front) x (length d.params) (length d.params + binders_in d.body) (length (vars d f n right)) (omega (arith, a, none)) (sym to_here) (b.bindings x))))
      all_bindings (suc j) e at x =
          let number : suc f + j ≡ f + suc j = omega arith in
          let a = bindings_append (f + suc j) x front back in
          let none = b.elsewhere (f + suc j) x (λ q. omega (arith, q)) in
          let it = rest.bindings j e at x in
          let counts : Counts (bindings_in (f + suc j) x back) x (length e.params) (length e.vars) = subst (λ g. Counts (bindings_in g x back) x (length e.params) (length e.vars)) number it in
          counts_as (bindings_in (f + suc j) x (front ++ back)) (bindings_in (f + suc j) x back) x (length e.params) (length e.vars) (length e.vars) (omega (arith, a, none)) refl counts

      all_functions : (j : ℕ) (e : Function) → slice_get (it d f n right ∷ later) j ≡ Some e → FunctionIsRight p (f + j) e
      all_functions zero e at =
          let same : it d f n right ≡ e = cc in
          let number : f ≡ f + 0 = omega arith in
          subst (FunctionIsRight p (f + 0)) same (subst (λ g. FunctionIsRight p g (it d f n right)) number (function_right d f n right b (from_first p n front back from)))
      all_functions (suc j) e at = let number : suc f + j ≡ f + suc j = omega arith in subst (λ g. FunctionIsRight p g e) number (rest.functions j e at)

      front_nodes : (i : ℕ) (c : Node) → slice_get front i ≡ Some c → NodeIsOf p (n + i) c
      front_nodes i c at =
          let r = (b.placed (from_first p n front back from)).right i c at in
          (it d f n right, ap (function_at p) r.of ∙ here, subst (λ g. NodeIsRight p (vars d f n right) g (n + i) c) (sym r.of) r)

      with_function : BodiesAreRight f n (d ∷ ds)
      with_function = record {
        uses = all_uses;
        elsewhere = all_elsewhere;
        bindings = all_bindings;
        functions = all_functions;
        nodes = each_both (NodeIsOf p) front back n next (let l = size in omega (arith, l)) front_nodes rest.nodes;
      }

  bodies_right : (ds : List Definition) (f n : ℕ) → From p n (nodes_from names h f n ds) → ((j : ℕ) (e : Function) → slice_get (functions_from names h n ds) j ≡ Some e → function_at p (f + j) ≡ Some e) → AllByRecursion (HeadFits p names fit) ds → bodies_findings names h ds ≡ [] → BodiesAreRight f n ds
  bodies_right [] f n from there all none = record {
    uses = λ m. counts_as 0 0 m n n (n + 0) refl (omega arith) (counts_none m n);
    elsewhere = λ g x l. refl;
    bindings = λ j e at x. cc;
    functions = λ j e at. cc;
    nodes = λ i d at. cc;
  }
  bodies_right (d ∷ ds) f n from there all none =
      let first = term_findings h (body_scope names d) (length d.params) (kind_of (signature_of names d).result) d.body in
      let l = size d f n all.0 ds in
      let number : f + 0 ≡ f = omega arith in
      let rest = bodies_right ds (suc f) (next d f n all.0 ds) (from_second p n (next d f n all.0 ds) (front d f n all.0 ds) (back d f n all.0 ds) (omega (arith, l)) from)
      (λ j e at. let shift : suc f + j ≡ f + suc j = omega arith in ap (function_at p) shift ∙ there (suc j) e at) all.1 (none_second first (bodies_findings names h ds) none) in
      with_function d f n all.0 ds (body_block d f n all.0 (none_first first (bodies_findings names h ds) none)) rest from (sym (ap (function_at p) number) ∙ there 0 (it d f n all.0) refl)

-- ---- main

unit_type : (names : List InterfaceNames) (w : tree.WrittenType) → is_unit_type w ≡ true → sort_of names w ≡ BaseSort BaseUnit
unit_type names (tree.BaseType BaseUnit at) h = refl
unit_type names (tree.BaseType _ at) h = cc
unit_type names (tree.MailboxType x q e at) h = cc

no_params : (names : List InterfaceNames) (ps : List tree.Param) → has_none ps ≡ true → map (λ c. sort_of names c.type) ps ≡ []
no_params names [] h = refl
no_params names (c ∷ ps) h = cc

main_found : (end : ℕ) (o : Option (ℕ × Definition)) → main_findings end o ≡ [] → (d : ℕ × Definition) × (o ≡ Some d) × (has_none d.1.params ≡ true) × (is_unit_type d.1.result ≡ true)
main_found end None h = cc
main_found end (Some d) h =
    let a = unless (has_none d.1.params) WrongArity d.1.name.span in
    let b = unless (is_unit_type d.1.result) WrongKind d.1.name.span in
    (d, refl, passes (has_none d.1.params) WrongArity d.1.name.span (none_first a b h), passes (is_unit_type d.1.result) WrongKind d.1.name.span (none_second a b h))

get_map : {A B : Type 0} (g : A → B) (xs : List A) (i : ℕ) (x : A) → slice_get xs i ≡ Some x → slice_get (map g xs) i ≡ Some (g x)
get_map g [] i x e = cc
get_map g (y ∷ xs) zero x e = let same : y ≡ x = cc in ap (λ z. Some (g z)) same
get_map g (y ∷ xs) (suc i) x e = get_map g xs i x e

-- ---- the program

module _ (end : ℕ) (t : tree.Tree) (written : IsWritten t) (none : findings end t ≡ []) where
  abbrev p : Program
  p = numbered t

  abbrev names : List InterfaceNames
  names = interface_names t

  abbrev h : Heads
  h = heads_of t

  abbrev in_heads : List Finding
  in_heads = heads_findings names [] [] t

  abbrev in_main : List Finding
  in_main = main_findings end (main_of t)

  abbrev in_bodies : List Finding
  in_bodies = bodies_findings names h (definitions_of t)

  fit : NamesFit p names
  fit i e at = names_are names t i e at

  heads_are : HeadsAreRight p names fit [] t
  heads_are = heads_right p names fit [] [] t written.decls (none_first in_heads in_main (none_first (in_heads ++ in_main) in_bodies none))

  result_there : (g : ℕ) (s : Signature) → slice_get h.signatures g ≡ Some s → KindIsThere p (kind_of s.result)
  result_there g s at =
      let d = map_at (signature_of names) (definitions_of t) g s at in
      let right = all_at (HeadFits p names fit) (definitions_of t) g d.0 heads_are.functions d.1 in
      subst (λ (s : Signature). KindIsThere p (kind_of s.result)) d.2 (signature_there p (sort_of names d.0.result) right.result)

  payloads_of : (o : Option Interface) → ((i : Interface) → o ≡ Some i → InterfaceFits p i) → (m : ℕ) (d : TagDecl) → slice_get (tags_of o) m ≡ Some d → AllByRecursion (KindIsThere p) (map kind_of d.payloads)
  payloads_of None fits m d at = cc
  payloads_of (Some i) fits m d at = payloads_there p d.payloads (all_at (λ t. AllByRecursion (IsPayload p) t.payloads) i.tags m d (fits i refl).payloads at)

  heads_fit : HeadsFit p h
  heads_fit = record {
    interfaces = refl;
    functions = λ g s at. functions_are names h 0 (definitions_of t) g s at;
    results = result_there;
    payloads = λ i m d at. payloads_of (slice_get h.interfaces i) (λ j e. all_at (InterfaceFits p) h.interfaces i j heads_are.interfaces e) m d at;
  }

  bodies : BodiesAreRight p names h heads_fit fit 0 0 (definitions_of t)
  bodies =
      bodies_right p names h heads_fit fit (definitions_of t) 0 0
      (λ i d e. let same : 0 + i ≡ i = omega arith in ap (node_at p) same ∙ e)
      (λ j e at. let same : 0 + j ≡ j = omega arith in ap (function_at p) same ∙ at)
      heads_are.functions
      (none_second (in_heads ++ in_main) in_bodies none)

  main_fits : (g : Function) × (function_at p p.main ≡ Some g) × (g.params ≡ []) × (g.result ≡ BaseSort BaseUnit)
  main_fits =
      let d = main_found end (main_of t) (none_second in_heads in_main (none_first (in_heads ++ in_main) in_bodies none)) in
      let at = found_there (λ (d : Definition). d.name.text) (codes "main") (definitions_of t) d.0.0 d.0.1 d.1 in
      let g = functions_are names h 0 (definitions_of t) d.0.0 (signature_of names d.0.1) (get_map (signature_of names) (definitions_of t) d.0.0 d.0.1 at) in (
        g.0,
        ap (λ o. function_at p (number_found o)) d.1 ∙ g.1,
        g.2 ∙ no_params names d.0.1.params d.2,
        g.3 ∙ unit_type names d.0.1.result d.3,
      )

  function_fits : (f : ℕ) (g : Function) → function_at p f ≡ Some g → FunctionFits p f g
  function_fits f g at =
      let same : 0 + f ≡ f = omega arith in
      let right = subst (λ f. FunctionIsRight p f g) same (bodies.functions f g at) in
      let binds : (x : ℕ) → Counts (bindings_in f x p.nodes) x (length g.params) (length g.vars) = λ x. subst (λ f. Counts (bindings_in f x p.nodes) x (length g.params) (length g.vars)) same (bodies.bindings f g at x) in
      record {
        body = right.body;
        params = right.params;
        enough = right.enough;
        signature = right.signature;
        bound_once = λ x l m. (binds x).1 m l;
        parameters = λ x l. (binds x).0 l;
        in_scope = right.in_scope;
      }

  node_fits : (n : ℕ) (d : Node) → node_at p n ≡ Some d → NodeFits p n d
  node_fits n d at =
      let same : 0 + n ≡ n = omega arith in
      let right = subst (λ n. NodeIsOf p n d) same (bodies.nodes n d at) in
      let within = slice_get_within p.nodes n d at in
      record {
        function = right.0;
        of = right.1;
        parts_after = right.2.parts_after;
        once = (bodies.uses n).1 (omega arith) (omega (arith, within));
        kinds = right.2.kinds;
      }

  pub well_formed : WellFormed p
  well_formed = record {
    main = main_fits;
    interface_names = heads_are.distinct;
    interfaces = heads_are.interfaces;
    functions = function_fits;
    nodes = node_fits;
  }

-- The tables of tags, place by place.
use Rattle.std.proofs.Common.{◌≡◌, ℕ, zero, suc, ◌<◌, ◌≤◌, List, [], ◌∷◌, map, length, get_or, Some, None, refl, ap, sym, ◌∙◌, arith, subst}
use Rattle.std.specs.Prelude.{slice_get, option_map}
use Rattle.pat_core.specs.Views.{tag_view, interface_view}
use Rattle.pat_core.specs.declared.program.Interface.{Interface}
use Rattle.pat_core.specs.declared.program.TagDecl.{TagDecl}
use Rattle.pat_semantics_spec.specs.Programs.{TagDecl as Seen}
use Rattle.pat_resolver_spec.specs.Scopes.{first_named, itself}
use Rattle.pat_resolver_spec.specs.Heads.{tags_of}
use Rattle.std.specs.List.{All}
use Rattle.std.proofs.lemmas.Option.{slice_get_within}
use Rattle.std.proofs.lemmas.List.Elements.{All-get_or}
use Rattle.pat_resolver_heads.proofs.Found.{found_in, missed_in}
use Rattle.pat_resolver_heads.specs.declared.names.InterfaceTable.{InterfaceTable}

-- the names of an interface's tags
abbrev pub own_names : Interface → List (List ℕ)
own_names i = map (λ t. t.name) i.tags

first_same : {A : Type 0} {x y : A} {xs ys : List A} → x ∷ xs ≡ y ∷ ys → x ≡ y
first_same e = cc

rest_same : {A : Type 0} {x y : A} {xs ys : List A} → x ∷ xs ≡ y ∷ ys → xs ≡ ys
rest_same e = cc

pub as_many : (ts : List InterfaceTable) (is : List Interface) → map (λ t. t.tags) ts ≡ map own_names is → length ts ≡ length is
as_many [] [] tied = refl
as_many [] (n ∷ is) tied = cc
as_many (u ∷ ts) [] tied = cc
as_many (u ∷ ts) (n ∷ is) tied = ap suc (as_many ts is (rest_same tied))

-- the names of the tags are those of the tags that are seen
pub same_names : (ts : List TagDecl) → map (λ t. t.name) ts ≡ map (λ u. u.name) (map tag_view ts)
same_names [] = refl
same_names (t ∷ ts) = ap (λ xs. t.name ∷ xs) (same_names ts)

table_at : (ts : List InterfaceTable) (is : List Interface) (i : ℕ) (d : InterfaceTable) → map (λ t. t.tags) ts ≡ map own_names is → i < length ts → (get_or ts i d).tags ≡ map (λ u. u.name) (tags_of (slice_get (map interface_view is) i))
table_at [] is i d tied h = absurd (omega (arith, h))
table_at (u ∷ ts) [] i d tied h = cc
table_at (u ∷ ts) (n ∷ is) zero d tied h = first_same tied ∙ same_names n.tags
table_at (u ∷ ts) (n ∷ is) (suc i) d tied h = table_at ts is i d (rest_same tied) (omega (arith, h))

nothing_at : (is : List Interface) (i : ℕ) → length is ≤ i → tags_of (slice_get (map interface_view is) i) ≡ []
nothing_at [] i h = refl
nothing_at (n ∷ is) zero h = absurd (omega (arith, h))
nothing_at (n ∷ is) (suc i) h = nothing_at is i (omega (arith, h))

-- in a list that is that of the tables
pub table_in : (us ts : List InterfaceTable) (is : List Interface) (i : ℕ) (d : InterfaceTable) → us ≡ ts → map (λ t. t.tags) ts ≡ map own_names is → i < length us → (get_or us i d).tags ≡ map (λ u. u.name) (tags_of (slice_get (map interface_view is) i))
table_in us ts is i d same tied h =
    let there : i < length ts = subst (λ (vs : List InterfaceTable). i < length vs) same h in
    ap (λ (vs : List InterfaceTable). (get_or vs i d).tags) same ∙ table_at ts is i d tied there

pub nothing_in : (us ts : List InterfaceTable) (is : List Interface) (i : ℕ) → us ≡ ts → map (λ t. t.tags) ts ≡ map own_names is → length us ≤ i → tags_of (slice_get (map interface_view is) i) ≡ []
nothing_in us ts is i same tied h =
    let all : length us ≡ length is = ap length same ∙ as_many ts is tied in
    nothing_at is i (omega (arith, h, all))

-- an interface with a tag is there
pub is_there : (is : List Interface) (i : ℕ) → 0 < length (map (λ (u : Seen). u.name) (tags_of (slice_get (map interface_view is) i))) → i < length is
is_there [] i h = absurd (omega (arith, h))
is_there (n ∷ is) zero h = omega arith
is_there (n ∷ is) (suc i) h = let deeper = is_there is i h in omega (arith, deeper)

pub tags_there : (is : List Interface) (i : ℕ) (n : Interface) → i < length is → n ≡ get_or is i n → tags_of (slice_get (map interface_view is) i) ≡ map tag_view n.tags
tags_there [] i d h at = absurd (omega (arith, h))
tags_there (n ∷ is) zero d h at = ap (λ v. map tag_view v.tags) (sym at)
tags_there (n ∷ is) (suc i) d h at = tags_there is i d (omega (arith, h)) at

pub few_in : (us ts : List InterfaceTable) (i : ℕ) (d : InterfaceTable) → us ≡ ts → All (λ t. length t.tags ≤ 32) ts → i < length us → length (get_or us i d).tags ≤ 32
few_in us ts i d same few h =
    let P : List InterfaceTable → Type 0 = λ vs. All (λ t. length t.tags ≤ 32) vs in
    All-get_or (λ t. length t.tags ≤ 32) us i d h (subst P (sym same) few)

map_same : {A : Type 0} (xs : List A) → map (λ x. x) xs ≡ xs
map_same [] = refl
map_same (x ∷ xs) = ap (λ ys. x ∷ ys) (map_same xs)

-- the tag at the place that the table answers
pub tag_found : (table : List (List ℕ)) (x : List ℕ) (is us : List Interface) (i place : ℕ) (n : Interface) (ts : List TagDecl) (t : TagDecl)
    → table ≡ map (λ (u : Seen). u.name) (tags_of (slice_get (map interface_view is) i))
    → Some place ≡ option_map (λ f. f.0) (first_named itself x table)
    → i < length is → us ≡ is → n ≡ get_or us i n → ts ≡ n.tags → t ≡ get_or ts place t
    → Some (place, tag_view t) ≡ first_named (λ u. u.name) x (tags_of (slice_get (map interface_view is) i))
tag_found table x is us i place n ts t tied e h same at own there =
    let here : tags_of (slice_get (map interface_view is) i) ≡ map tag_view n.tags = tags_there is i n h (at ∙ ap (λ (vs : List Interface). get_or vs i n) same) in
    found_in tag_view (λ u. u.name) x table n.tags place t (tied ∙ ap (map (λ (u : Seen). u.name)) here ∙ sym (same_names n.tags)) e (there ∙ ap (λ (us : List TagDecl). get_or us place t) own)
    ∙ ap (first_named (λ u. u.name) x) (sym here)

pub tag_missed : (table : List (List ℕ)) (x : List ℕ) (seen : List Seen) → table ≡ map (λ (u : Seen). u.name) seen → None ≡ option_map (λ f. f.0) (first_named itself x table) → None ≡ first_named (λ (u : Seen). u.name) x seen
tag_missed table x seen tied e = missed_in (λ (u : Seen). u) (λ u. u.name) x table seen tied e ∙ ap (first_named (λ (u : Seen). u.name) x) (map_same seen)

pub few_at : (ts : List InterfaceTable) (i : ℕ) (t : InterfaceTable) → All (λ t. length t.tags ≤ 32) ts → slice_get ts i ≡ Some t → length t.tags ≤ 32
few_at ts i t few at = subst (λ (u : InterfaceTable). length u.tags ≤ 32) (there ts i at) (few i t (slice_get_within ts i t at))
  where
    there : (us : List InterfaceTable) (j : ℕ) → slice_get us j ≡ Some t → get_or us j t ≡ t
    there [] j e = refl
    there (u ∷ us) zero e = cc
    there (u ∷ us) (suc j) e = there us j e

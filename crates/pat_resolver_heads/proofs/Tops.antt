-- The innermost variable of each name, in the list of variables and in the table.
use Rattle.std.proofs.Common.{◌≡◌, ℕ, zero, suc, ◌<◌, Bool, true, false, cond, List, [], ◌∷◌, ◌++◌, length, map, reverse, get_or, Option, Some, None, refl, ap, sym, ◌∙◌, arith, subst}
use Rattle.std.specs.Borrow.{Bor}
use Rattle.std.specs.Prelude.{bytes_eq, is_some}
use Rattle.std.specs.Map.{set_value}
use Rattle.std.specs.Option.{option_flatten}
use Rattle.std.proofs.lemmas.List.{get_or_append_left, reverse-append, reverse-reverse, length-reverse, length-map, map-append}
use Rattle.std.proofs.Math.Seq.{get_or-append_seam}
use Rattle.std.proofs.lemmas.Slice.Eq.{bytes_eq-Decides}
use Rattle.indexmap.specs.IndexMap.{insert_entry}
use Rattle.pat_resolver_spec.specs.Scopes.{variable_of}
use Rattle.pat_resolver_heads.specs.tables.Views.{scope_view, variable_view}
use Rattle.pat_resolver_heads.specs.tables.Innermost.{innermost, shadowed_in, known_top}
use Rattle.pat_resolver_heads.specs.declared.tables.scope.Variable.{Variable}
use Rattle.pat_resolver_heads.specs.declared.tables.scope.Entry.{Entry}
use Rattle.pat_resolver_heads.proofs.Keys.{Entries, had, same_key, had_inserted, had_set, there_inserted, twice_tested}
use Rattle.pat_resolver_heads.proofs.Places.{eq_sym}

abbrev Keyed : Type 0
Keyed = Entries (Option ℕ)

flat_tested : (s : Bool) (o : Option ℕ) (p : Option (Option ℕ)) → option_flatten (cond s (Some o) p) ≡ cond s o (option_flatten p)
flat_tested true o p = refl
flat_tested false o p = refl

-- ---- one more variable, and one less

-- what an opened scope's table knows
pub opened : (x y : List ℕ) (v : Variable) (vs : List Variable) (es fs : Keyed) (key : Bor (List ℕ))
    → ((z : List ℕ) → known_top z es ≡ innermost z vs) → key.now ≡ y → v.name ≡ y → fs ≡ insert_entry same_key es key (Some (length vs))
    → known_top x fs ≡ innermost x (v ∷ vs)
opened x y v vs es fs key tied own named table =
    ap (known_top x) table ∙ ap option_flatten (had_inserted x es key (Some (length vs)))
    ∙ flat_tested (bytes_eq x key.now) (Some (length vs)) (had x es)
    ∙ ap (cond (bytes_eq x key.now) (Some (length vs))) (tied x)
    ∙ ap (λ (s : Bool). cond s (Some (length vs)) (innermost x vs)) (eq_sym x key.now ∙ ap (λ (n : List ℕ). bytes_eq n x) (own ∙ sym named))

-- what a closed scope's table knows
pub closed : (x y : List ℕ) (v : Variable) (o q : Option ℕ) (vs : List Variable) (es fs : Keyed)
    → ((z : List ℕ) → known_top z es ≡ innermost z (v ∷ vs)) → o ≡ innermost v.name vs → y ≡ v.name → Some q ≡ had y es → fs ≡ set_value (λ k. bytes_eq y k.now) es o
    → known_top x fs ≡ innermost x vs
closed x y v o q vs es fs tied outside named there table =
    ap (known_top x) table ∙ ap option_flatten (had_set x y es o (sym (ap is_some there))) ∙ flat_tested (bytes_eq x y) o (had x es)
    ∙ ap (cond (bytes_eq x y) o) (tied x) ∙ ap (λ (n : List ℕ). cond (bytes_eq x n) o (innermost x (v ∷ vs))) named ∙ go (bytes_eq x v.name) refl
  where
    go : (s : Bool) → bytes_eq x v.name ≡ s → cond s o (cond (bytes_eq v.name x) (Some (length vs)) (innermost x vs)) ≡ innermost x vs
    go true e = outside ∙ ap (λ (n : List ℕ). innermost n vs) (sym ((bytes_eq-Decides x v.name).0 e))
    go false e = ap (λ (s : Bool). cond s (Some (length vs)) (innermost x vs)) (eq_sym v.name x ∙ e)

-- the list of what is shadowed, one less
pub first_shadowed : (e : Entry) (es : List Entry) → map (λ e. e.shadowed) (e ∷ es) ≡ shadowed_in (map (λ e. e.variable) (e ∷ es)) → e.shadowed ≡ innermost e.variable.name (map (λ e. e.variable) es)
first_shadowed e es h = cc

pub other_shadowed : (e : Entry) (es : List Entry) → map (λ e. e.shadowed) (e ∷ es) ≡ shadowed_in (map (λ e. e.variable) (e ∷ es)) → map (λ e. e.shadowed) es ≡ shadowed_in (map (λ e. e.variable) es)
other_shadowed e es h = cc

-- what the invariant says
abbrev pub Fits : List Entry → Keyed → Type 0
Fits entries es = ((x : List ℕ) → known_top x es ≡ innermost x (map (λ e. e.variable) entries)) × (map (λ e. e.shadowed) entries ≡ shadowed_in (map (λ e. e.variable) entries))

pub popped : (entries rest : List Entry) (e : Entry) (y : List ℕ) (q : Option ℕ) (es fs : Keyed)
    → Fits entries es → entries ≡ e ∷ rest → y ≡ e.variable.name → Some q ≡ had y es → fs ≡ set_value (λ k. bytes_eq y k.now) es e.shadowed → Fits rest fs
popped entries rest e y q es fs fit split named there table =
    let P : List Entry → Type 0 = λ us. Fits us es in
    let f : Fits (e ∷ rest) es = subst P split fit in
    (λ x. closed x y e.variable e.shadowed q (map (λ e. e.variable) rest) es fs f.0 (first_shadowed e rest f.1) named there table, other_shadowed e rest f.1)

pub pushed : (entries new : List Entry) (e : Entry) (key : Bor (List ℕ)) (place : ℕ) (es fs : Keyed)
    → Fits entries es → new ≡ e ∷ entries → key.now ≡ e.variable.name → place ≡ length entries → e.shadowed ≡ innermost e.variable.name (map (λ e. e.variable) entries)
    → fs ≡ insert_entry same_key es key (Some place) → Fits new fs
pushed entries new e key place es fs fit grows named last outside table =
    let P : List Entry → Type 0 = λ us. Fits us fs in
    let all : place ≡ length (map (λ (u : Entry). u.variable) entries) = last ∙ sym (length-map entries (λ (u : Entry). u.variable)) in
    let f : Fits (e ∷ entries) fs = (
      λ x. opened x e.variable.name e.variable (map (λ e. e.variable) entries) es fs key fit.0 named refl (table ∙ ap (λ (n : ℕ). insert_entry same_key es key (Some n)) all),
      ap (λ (o : Option ℕ). o ∷ map (λ (u : Entry). u.shadowed) entries) outside ∙ ap (λ (os : List (Option ℕ)). innermost e.variable.name (map (λ e. e.variable) entries) ∷ os) fit.1,
    ) in
    subst P (sym grows) f

-- what a table knows where the last name has its earlier place again
restored_top : (x y : List ℕ) (o : Option ℕ) (v : ℕ) (es fs gs : Keyed) (key : Bor (List ℕ))
    → key.now ≡ y → o ≡ known_top y es → fs ≡ insert_entry same_key es key (Some v) → gs ≡ set_value (λ k. bytes_eq y k.now) fs o
    → known_top x gs ≡ known_top x es
restored_top x y o v es fs gs key own before table back =
    ap (known_top x) back ∙ ap option_flatten (had_set x y fs o (there_inserted y es fs key (Some v) own table))
    ∙ flat_tested (bytes_eq x y) o (had x fs)
    ∙ ap (λ (os : Option (Option ℕ)). cond (bytes_eq x y) o (option_flatten os)) (ap (had x) table ∙ had_inserted x es key (Some v))
    ∙ ap (cond (bytes_eq x y) o) (flat_tested (bytes_eq x key.now) (Some v) (had x es))
    ∙ ap (λ (n : List ℕ). cond (bytes_eq x y) o (cond (bytes_eq x n) (Some v) (known_top x es))) own
    ∙ sym (twice_tested (bytes_eq x y) o (Some v) (known_top x es))
    ∙ go (bytes_eq x y) refl
  where
    go : (s : Bool) → bytes_eq x y ≡ s → cond s o (known_top x es) ≡ known_top x es
    go true e = before ∙ ap (λ (n : List ℕ). known_top n es) (sym ((bytes_eq-Decides x y).0 e))
    go false e = refl

pub restored : (entries same : List Entry) (y : List ℕ) (o : Option ℕ) (v : ℕ) (es fs gs : Keyed) (key : Bor (List ℕ))
    → Fits entries es → same ≡ entries → key.now ≡ y → o ≡ known_top y es → fs ≡ insert_entry same_key es key (Some v) → gs ≡ set_value (λ k. bytes_eq y k.now) fs o
    → Fits same gs
restored entries same y o v es fs gs key fit stays own before table back =
    let P : List Entry → Type 0 = λ us. Fits us gs in
    let f : Fits entries gs = (λ x. restored_top x y o v es fs gs key own before table back ∙ fit.0 x, fit.1) in
    subst P (sym stays) f

-- ---- the variable at the place

pub within : (x : List ℕ) (vs : List Variable) (p : ℕ) → innermost x vs ≡ Some p → p < length vs
within x [] p e = cc
within x (v ∷ vs) p e = go (bytes_eq v.name x) e (within x vs p)
  where
    go : (t : Bool) → cond t (Some (length vs)) (innermost x vs) ≡ Some p → (innermost x vs ≡ Some p → p < length vs) → p < suc (length vs)
    go true h deeper = let same : length vs ≡ p = cc in omega (arith, same)
    go false h deeper = let below = deeper h in omega (arith, below)

pub nowhere : (x : List ℕ) (vs : List Variable) → innermost x vs ≡ None → None ≡ variable_of (scope_view vs) x
nowhere x [] e = refl
nowhere x (v ∷ vs) e = go (bytes_eq v.name x) e (nowhere x vs)
  where
    go : (t : Bool) → cond t (Some (length vs)) (innermost x vs) ≡ None → (innermost x vs ≡ None → None ≡ variable_of (scope_view vs) x) → None ≡ cond t (Some (variable_view v)) (variable_of (scope_view vs) x)
    go true h deeper = cc
    go false h deeper = deeper h

there_at : (x : List ℕ) (vs : List Variable) (p : ℕ) (d : Variable) → innermost x vs ≡ Some p → Some (variable_view (get_or (reverse vs) p d)) ≡ variable_of (scope_view vs) x
there_at x [] p d e = cc
there_at x (v ∷ vs) p d e = ap (λ (us : List Variable). Some (variable_view (get_or us p d))) (reverse-append (v ∷ []) vs) ∙ go (bytes_eq v.name x) e (there_at x vs p d) (within x vs p)
  where
    go : (t : Bool) → cond t (Some (length vs)) (innermost x vs) ≡ Some p → (innermost x vs ≡ Some p → Some (variable_view (get_or (reverse vs) p d)) ≡ variable_of (scope_view vs) x) → (innermost x vs ≡ Some p → p < length vs)
        → Some (variable_view (get_or (reverse vs ++ v ∷ []) p d)) ≡ cond t (Some (variable_view v)) (variable_of (scope_view vs) x)
    go true h deeper below =
        let same : p ≡ length (reverse vs) = (let here : length vs ≡ p = cc in sym here ∙ sym (length-reverse vs)) in
        ap (λ (u : Variable). Some (variable_view u)) (ap (λ (n : ℕ). get_or (reverse vs ++ v ∷ []) n d) same ∙ get_or-append_seam (reverse vs) v [] d)
    go false h deeper below =
        let inside : p < length (reverse vs) = (let b = below h in omega (arith, b, length-reverse vs)) in
        ap (λ (u : Variable). Some (variable_view u)) (get_or_append_left (reverse vs) (v ∷ []) d p inside) ∙ deeper h

get_mapped : (us : List Entry) (p : ℕ) (e : Entry) → (get_or us p e).variable ≡ get_or (map (λ u. u.variable) us) p e.variable
get_mapped [] p e = refl
get_mapped (u ∷ us) zero e = refl
get_mapped (u ∷ us) (suc p) e = get_mapped us p e

reversed_map : (us : List Entry) → map (λ u. u.variable) (reverse us) ≡ reverse (map (λ u. u.variable) us)
reversed_map [] = refl
reversed_map (u ∷ us) =
    ap (map (λ (e : Entry). e.variable)) (reverse-append (u ∷ []) us) ∙ map-append (λ (e : Entry). e.variable) (reverse us) (u ∷ [])
    ∙ ap (λ (vs : List Variable). vs ++ u.variable ∷ []) (reversed_map us) ∙ sym (reverse-append (u.variable ∷ []) (map (λ e. e.variable) us))

-- in the entries from the bottom up
pub found_at : (x : List ℕ) (us : List Entry) (vs : List Variable) (p : ℕ) (d : Entry) → map (λ e. e.variable) (reverse us) ≡ vs → innermost x vs ≡ Some p → Some (variable_view (get_or us p d).variable) ≡ variable_of (scope_view vs) x
found_at x us vs p d same e =
    let all : map (λ u. u.variable) us ≡ reverse vs = sym (reverse-reverse (map (λ (u : Entry). u.variable) us)) ∙ ap reverse (sym (reversed_map us) ∙ same) in
    ap (λ (v : Variable). Some (variable_view v)) (get_mapped us p d ∙ ap (λ (ws : List Variable). get_or ws p d.variable) all) ∙ there_at x vs p d.variable e

pub as_many : (us : List Entry) (vs : List Variable) → map (λ e. e.variable) (reverse us) ≡ vs → length us ≡ length vs
as_many us vs same = sym (length-reverse us) ∙ sym (length-map (reverse us) (λ (e : Entry). e.variable)) ∙ ap length same

-- What a table has for each name.
use Rattle.std.proofs.Common.{◌≡◌, ℕ, Bool, true, false, cond, List, [], ◌∷◌, Option, Some, refl, ap, sym, ◌∙◌}
use Rattle.std.specs.Borrow.{Bor}
use Rattle.std.specs.Prelude.{bytes_eq, is_some}
use Rattle.std.specs.Map.{lookup, set_value}
use Rattle.std.proofs.lemmas.Slice.Eq.{bytes_eq-Decides}
use Rattle.indexmap.specs.IndexMap.{insert_entry}

abbrev pub Entries : Type 0 → Type 0
Entries V = List (Bor (List ℕ) × V)

-- keys are compared by their bytes
abbrev pub same_key : Bor (List ℕ) → Bor (List ℕ) → Bool
same_key a b = bytes_eq a.now b.now

-- what a table has for a name
abbrev pub had : {V : Type 0} → List ℕ → Entries V → Option V
had x es = lookup (λ k. bytes_eq x k.now) es

-- ---- tests of names

same_tests : (x y z : List ℕ) → bytes_eq y z ≡ true → bytes_eq x z ≡ bytes_eq x y
same_tests x y z e = ap (bytes_eq x) (sym ((bytes_eq-Decides y z).0 e))

-- two names that differ are not both the third
apart : (x y z : List ℕ) → bytes_eq y z ≡ false → bytes_eq x z ≡ true → bytes_eq x y ≡ true → true ≡ false
apart x y z differ a b =
    let same : y ≡ z = sym ((bytes_eq-Decides x y).0 b) ∙ (bytes_eq-Decides x z).0 a in
    sym ((bytes_eq-Decides y z).1 same) ∙ differ

swap_tests : {A : Type 0} (s u : Bool) (a b c : A) → (s ≡ true → u ≡ true → true ≡ false) → cond s a (cond u b c) ≡ cond u b (cond s a c)
swap_tests true true a b c never = let e = never refl refl in cc
swap_tests true false a b c never = refl
swap_tests false u a b c never = refl

pub twice_tested : {A : Type 0} (s : Bool) (a b c : A) → cond s a c ≡ cond s a (cond s b c)
twice_tested true a b c = refl
twice_tested false a b c = refl

-- ---- the table

pub had_inserted : {V : Type 0} (x : List ℕ) (es : Entries V) (key : Bor (List ℕ)) (v : V) → had x (insert_entry same_key es key v) ≡ cond (bytes_eq x key.now) (Some v) (had x es)
had_inserted x [] key v = refl
had_inserted x (e ∷ es) key v = go (bytes_eq key.now e.0.now) refl (had_inserted x es key v)
  where
    go : (t : Bool) → bytes_eq key.now e.0.now ≡ t → had x (insert_entry same_key es key v) ≡ cond (bytes_eq x key.now) (Some v) (had x es)
        → had x (cond t ((e.0, v) ∷ es) (e ∷ insert_entry same_key es key v)) ≡ cond (bytes_eq x key.now) (Some v) (cond (bytes_eq x e.0.now) (Some e.1) (had x es))
    go true same deeper =
        ap (λ (s : Bool). cond s (Some v) (had x es)) (same_tests x key.now e.0.now same)
        ∙ twice_tested (bytes_eq x key.now) (Some v) (Some e.1) (had x es)
        ∙ ap (λ (s : Bool). cond (bytes_eq x key.now) (Some v) (cond s (Some e.1) (had x es))) (sym (same_tests x key.now e.0.now same))
    go false differ deeper =
        ap (cond (bytes_eq x e.0.now) (Some e.1)) deeper
        ∙ swap_tests (bytes_eq x e.0.now) (bytes_eq x key.now) (Some e.1) (Some v) (had x es) (apart x key.now e.0.now differ)

pub had_set : {V : Type 0} (x y : List ℕ) (es : Entries V) (w : V) → is_some (had y es) ≡ true → had x (set_value (λ k. bytes_eq y k.now) es w) ≡ cond (bytes_eq x y) (Some w) (had x es)
had_set x y [] w there = cc
had_set x y (e ∷ es) w there = go (bytes_eq y e.0.now) refl there (had_set x y es w)
  where
    go : (t : Bool) → bytes_eq y e.0.now ≡ t → is_some (cond t (Some e.1) (had y es)) ≡ true
        → (is_some (had y es) ≡ true → had x (set_value (λ k. bytes_eq y k.now) es w) ≡ cond (bytes_eq x y) (Some w) (had x es))
        → had x (cond t ((e.0, w) ∷ es) (e ∷ set_value (λ k. bytes_eq y k.now) es w)) ≡ cond (bytes_eq x y) (Some w) (cond (bytes_eq x e.0.now) (Some e.1) (had x es))
    go true same h deeper =
        ap (λ (s : Bool). cond s (Some w) (had x es)) (same_tests x y e.0.now same)
        ∙ twice_tested (bytes_eq x y) (Some w) (Some e.1) (had x es)
        ∙ ap (λ (s : Bool). cond (bytes_eq x y) (Some w) (cond s (Some e.1) (had x es))) (sym (same_tests x y e.0.now same))
    go false differ h deeper =
        ap (cond (bytes_eq x e.0.now) (Some e.1)) (deeper h)
        ∙ swap_tests (bytes_eq x e.0.now) (bytes_eq x y) (Some e.1) (Some w) (had x es) (apart x y e.0.now differ)

-- a key that was put in is there
pub there_inserted : {V : Type 0} (y : List ℕ) (es fs : Entries V) (key : Bor (List ℕ)) (v : V) → key.now ≡ y → fs ≡ insert_entry same_key es key v → is_some (had y fs) ≡ true
there_inserted {V} y es fs key v own table =
    ap (λ (us : Entries V). is_some (had y us)) table ∙ ap is_some (had_inserted y es key v)
    ∙ ap (λ (s : Bool). is_some (cond s (Some v) (had y es))) ((bytes_eq-Decides y key.now).1 (sym own))

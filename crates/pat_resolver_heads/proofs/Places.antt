-- First places of names, in a list and in a table.
use Rattle.std.proofs.Common.{◌≡◌, ℕ, zero, suc, ◌+◌, ◌<◌, ◌≤◌, Bool, true, false, cond, List, [], ◌∷◌, ◌++◌, length, take, Option, Some, None, option_map, refl, ap, sym, ◌∙◌, arith}
use Rattle.std.specs.Borrow.{Bor}
use Rattle.std.specs.Prelude.{bytes_eq, is_some, IfSome}
use Rattle.std.proofs.lemmas.List.{take-append-le, length-append}
use Rattle.std.proofs.lemmas.Slice.Eq.{bytes_eq-Decides}
use Rattle.std.proofs.lemmas.Bool.Decides.{same_from_decides}
use Rattle.std.specs.Map.{set_value}
use Rattle.indexmap.specs.IndexMap.{insert_entry}
use Rattle.pat_resolver_spec.specs.Scopes.{first_named, itself}
use Rattle.pat_resolver_heads.specs.tables.Places.{place_of, known_place, first_of, IsFirst}
use Rattle.pat_resolver_heads.proofs.Keys.{Entries, same_key, had_inserted, had_set, there_inserted, twice_tested}

-- ---- in a table

own_first : (b : Bool) (i : ℕ) (o p q : Option ℕ) → o ≡ first_of p q → cond b (Some i) o ≡ first_of (cond b (Some i) p) q
own_first true i o p q e = refl
own_first false i o p q e = e

-- a key that isn't there yet
inserted : (x : List ℕ) (es : List (Bor (List ℕ) × ℕ)) (key : Bor (List ℕ)) (v : ℕ) → known_place key.now es ≡ None → known_place x (insert_entry same_key es key v) ≡ first_of (known_place x es) (cond (bytes_eq x key.now) (Some v) None)
inserted x [] key v h = refl
inserted x (e ∷ es) key v h = go (bytes_eq key.now e.0.now) h (inserted x es key v)
  where
    go : (t : Bool) → cond t (Some e.1) (known_place key.now es) ≡ None
        → (known_place key.now es ≡ None → known_place x (insert_entry same_key es key v) ≡ first_of (known_place x es) (cond (bytes_eq x key.now) (Some v) None))
        → known_place x (cond t ((e.0, v) ∷ es) (e ∷ insert_entry same_key es key v)) ≡ first_of (cond (bytes_eq x e.0.now) (Some e.1) (known_place x es)) (cond (bytes_eq x key.now) (Some v) None)
    go true none deeper = cc
    go false none deeper = own_first (bytes_eq x e.0.now) e.1 (known_place x (insert_entry same_key es key v)) (known_place x es) (cond (bytes_eq x key.now) (Some v) None) (deeper none)

-- ---- in a list

moved : (r : Option (ℕ × List ℕ)) → option_map (λ f. f.0) (option_map {U = ℕ × List ℕ} (λ f. (suc f.0, f.1)) r) ≡ option_map suc (option_map (λ f. f.0) r)
moved None = refl
moved (Some f) = refl

later : (o : Option ℕ) (b : Bool) (n : ℕ) → option_map suc (first_of o (cond b (Some n) None)) ≡ first_of (option_map suc o) (cond b (Some (suc n)) None)
later None true n = refl
later None false n = refl
later (Some i) b n = refl

place_pushed : (x : List ℕ) (names : List (List ℕ)) (y : List ℕ) → place_of x (names ++ y ∷ []) ≡ first_of (place_of x names) (cond (bytes_eq y x) (Some (length names)) None)
place_pushed x [] y = go (bytes_eq y x)
  where
    go : (b : Bool) → option_map (λ (f : ℕ × List ℕ). f.0) (cond b (Some (zero, y)) None) ≡ cond b (Some zero) None
    go true = refl
    go false = refl
place_pushed x (n ∷ names) y = go (bytes_eq n x) (place_pushed x names y)
  where
    go : (t : Bool) → place_of x (names ++ y ∷ []) ≡ first_of (place_of x names) (cond (bytes_eq y x) (Some (length names)) None)
        → option_map (λ f. f.0) (cond t (Some (zero, n)) (option_map {U = ℕ × List ℕ} (λ f. (suc f.0, f.1)) (first_named itself x (names ++ y ∷ []))))
        ≡ first_of (option_map (λ f. f.0) (cond t (Some (zero, n)) (option_map {U = ℕ × List ℕ} (λ f. (suc f.0, f.1)) (first_named itself x names)))) (cond (bytes_eq y x) (Some (suc (length names))) None)
    go true e = refl
    go false e =
        moved (first_named itself x (names ++ y ∷ [])) ∙ ap (option_map suc) e ∙ later (place_of x names) (bytes_eq y x) (length names)
        ∙ ap (λ o. first_of o (cond (bytes_eq y x) (Some (suc (length names))) None)) (sym (moved (first_named itself x names)))

pub place_below : (x : List ℕ) (names : List (List ℕ)) → IfSome (place_of x names) (λ i. i < length names)
place_below x [] = tt
place_below x (n ∷ names) = go (bytes_eq n x) (first_named itself x names) (place_below x names)
  where
    go : (t : Bool) (r : Option (ℕ × List ℕ)) → IfSome (option_map (λ f. f.0) r) (λ i. i < length names) → IfSome (option_map (λ f. f.0) (cond t (Some (zero, n)) (option_map {U = ℕ × List ℕ} (λ f. (suc f.0, f.1)) r))) (λ i. i < suc (length names))
    go true r h = omega arith
    go false None h = tt
    go false (Some f) h = omega (arith, h)

-- ---- the table of the list

pub eq_sym : (xs ys : List ℕ) → bytes_eq xs ys ≡ bytes_eq ys xs
eq_sym xs ys = let d = bytes_eq-Decides ys xs in same_from_decides (bytes_eq xs ys) (bytes_eq ys xs) (bytes_eq-Decides xs ys) (λ h. sym (d.0 h), λ h. d.1 (sym h))

among : (a b c : Option ℕ) → first_of (first_of a b) c ≡ first_of a (first_of b c)
among None b c = refl
among (Some i) b c = refl

none_known : (a b : Option ℕ) → first_of a b ≡ None → b ≡ None
none_known None b e = e
none_known (Some i) b e = cc

-- one more name, which the table didn't have
pub pushed_new : (x y : List ℕ) (few names new : List (List ℕ)) (es fs : Entries ℕ) (key : Bor (List ℕ)) (v : ℕ)
    → ((z : List ℕ) → IsFirst z few es names) → known_place y es ≡ None → key.now ≡ y → v ≡ length names
    → fs ≡ insert_entry same_key es key v → new ≡ names ++ y ∷ [] → IsFirst x few fs new
pushed_new x y few names new es fs key v tied absent own last table list =
    ap (λ (gs : Entries ℕ). first_of (place_of x few) (known_place x gs)) table
    ∙ ap (first_of (place_of x few)) (inserted x es key v (ap (λ (z : List ℕ). known_place z es) own ∙ absent))
    ∙ sym (among (place_of x few) (known_place x es) (cond (bytes_eq x key.now) (Some v) None))
    ∙ ap (λ o. first_of o (cond (bytes_eq x key.now) (Some v) None)) (tied x)
    ∙ ap (λ (b : Bool). first_of (place_of x names) (cond b (Some v) None)) (ap (bytes_eq x) own ∙ eq_sym x y)
    ∙ ap (λ (n : ℕ). first_of (place_of x names) (cond (bytes_eq y x) (Some n) None)) last
    ∙ sym (place_pushed x names y)
    ∙ ap (place_of x) (sym list)

-- one more name, which the table had
pushed_known : (x y : List ℕ) (few names new : List (List ℕ)) (es : Entries ℕ)
    → ((z : List ℕ) → IsFirst z few es names) → true ≡ is_some (known_place y es) → new ≡ names ++ y ∷ [] → IsFirst x few es new
pushed_known x y few names new es tied there list = tied x ∙ go (place_of x names) (bytes_eq y x) refl refl ∙ sym (place_pushed x names y) ∙ ap (place_of x) (sym list)
  where
    go : (o : Option ℕ) (b : Bool) → place_of x names ≡ o → bytes_eq y x ≡ b → o ≡ first_of o (cond b (Some (length names)) None)
    go (Some i) b e f = refl
    go None false e f = refl
    go None true e f =
        let same : y ≡ x = (bytes_eq-Decides y x).0 f in
        let none : known_place y es ≡ None = none_known (place_of y few) (known_place y es) (tied y ∙ ap (λ (z : List ℕ). place_of z names) same ∙ e) in
        let no : true ≡ false = there ∙ ap is_some none in cc

-- what is known where a name that was there has its first place again
known_again : (x y : List ℕ) (first v : ℕ) (es fs gs : Entries ℕ) (key : Bor (List ℕ))
    → key.now ≡ y → Some first ≡ known_place y es → fs ≡ insert_entry same_key es key v → gs ≡ set_value (λ k. bytes_eq y k.now) fs first
    → known_place x gs ≡ known_place x es
known_again x y first v es fs gs key own before table back =
    ap (known_place x) back ∙ had_set x y fs first (there_inserted y es fs key v own table)
    ∙ ap (cond (bytes_eq x y) (Some first)) (ap (known_place x) table ∙ had_inserted x es key v)
    ∙ ap (λ (n : List ℕ). cond (bytes_eq x y) (Some first) (cond (bytes_eq x n) (Some v) (known_place x es))) own
    ∙ sym (twice_tested (bytes_eq x y) (Some first) (Some v) (known_place x es))
    ∙ go (bytes_eq x y) refl
  where
    go : (s : Bool) → bytes_eq x y ≡ s → cond s (Some first) (known_place x es) ≡ known_place x es
    go true e = before ∙ ap (λ (n : List ℕ). known_place n es) (sym ((bytes_eq-Decides x y).0 e))
    go false e = refl

pub pushed_again : (x y : List ℕ) (few names new : List (List ℕ)) (first v : ℕ) (es fs gs : Entries ℕ) (key : Bor (List ℕ))
    → ((z : List ℕ) → IsFirst z few es names) → key.now ≡ y → Some first ≡ known_place y es → fs ≡ insert_entry same_key es key v
    → gs ≡ set_value (λ k. bytes_eq y k.now) fs first → new ≡ names ++ y ∷ [] → IsFirst x few gs new
pushed_again x y few names new first v es fs gs key tied own before table back list =
    ap (first_of (place_of x few)) (known_again x y first v es fs gs key own before table back) ∙ pushed_known x y few names new es tied (ap is_some before) list

-- ---- the few

-- the first few names stay when one more comes behind them
pub few_stay : (names new : List (Bor (List ℕ))) (y : Bor (List ℕ)) → 16 ≤ length names → new ≡ names ++ y ∷ [] → take 16 new ≡ take 16 names
few_stay names new y enough list = ap (take 16) list ∙ take-append-le 16 names (y ∷ []) enough

pub no_longer_few : {A : Type 0} (names new : List (Bor (List ℕ))) (y : Bor (List ℕ)) → 16 ≤ length names → new ≡ names ++ y ∷ [] → length new < 16 → A
no_longer_few names new y enough list few =
    let more : length new ≡ length names + 1 = ap length list ∙ length-append names (y ∷ []) in
    absurd (omega (arith, enough, few, more))

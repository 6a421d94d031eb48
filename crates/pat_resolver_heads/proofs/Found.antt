-- What a table of names finds, in the list that the names are of.
use Rattle.std.proofs.Common.{◌≡◌, ℕ, zero, suc, Bool, true, false, cond, List, [], ◌∷◌, map, get_or, Option, Some, None, option_map, refl, ap, sym, ◌∙◌, subst}
use Rattle.std.specs.Prelude.{bytes_eq}
use Rattle.pat_resolver_spec.specs.Scopes.{first_named, itself}

some_is : {A : Type 0} {a b : A} → Some a ≡ Some b → a ≡ b
some_is e = cc

module _ {A B : Type 0} (view : A → B) (name : B → List ℕ) (x : List ℕ) where
  -- what the table answers
  abbrev pub place : List A → Option ℕ
  place those = option_map (λ f. f.0) (first_named itself x (map (λ a. name (view a)) those))

  -- the one at the place is the first
  pub found : (those : List A) (i : ℕ) (a : A) → Some i ≡ place those → a ≡ get_or those i a → Some (i, view a) ≡ first_named name x (map view those)
  found [] i a e is = cc
  found (b ∷ those) i a e is = go (bytes_eq (name (view b)) x) (first_named itself x (map (λ a. name (view a)) those)) refl e (found those)
    where
      go : (t : Bool) (r : Option (ℕ × List ℕ)) → first_named itself x (map (λ a. name (view a)) those) ≡ r
          → Some i ≡ option_map (λ f. f.0) (cond t (Some (zero, name (view b))) (option_map {U = ℕ × List ℕ} (λ f. (suc f.0, f.1)) r))
          → ((j : ℕ) (c : A) → Some j ≡ place those → c ≡ get_or those j c → Some (j, view c) ≡ first_named name x (map view those))
          → Some (i, view a) ≡ cond t (Some (zero, view b)) (option_map {U = ℕ × B} (λ f. (suc f.0, f.1)) (first_named name x (map view those)))
      go true r w h deeper =
          let z : i ≡ zero = some_is h in
          let own : a ≡ b = subst (λ j. a ≡ get_or (b ∷ those) j a) z is in
          ap (λ j. Some (j, view a)) z ∙ ap (λ c. Some (zero, view c)) own
      go false None w h deeper = cc
      go false (Some f) w h deeper =
          let z : i ≡ suc f.0 = some_is h in
          let own : a ≡ get_or those f.0 a = subst (λ j. a ≡ get_or (b ∷ those) j a) z is in
          ap (λ j. Some (j, view a)) z ∙ ap (option_map {U = ℕ × B} (λ f. (suc f.0, f.1))) (deeper f.0 a (sym (ap (option_map (λ f. f.0)) w)) own)

  -- where the table has no place, there is none
  pub missed : (those : List A) → None ≡ place those → None ≡ first_named name x (map view those)
  missed [] e = refl
  missed (b ∷ those) e = go (bytes_eq (name (view b)) x) (first_named itself x (map (λ a. name (view a)) those)) refl e (missed those)
    where
      go : (t : Bool) (r : Option (ℕ × List ℕ)) → first_named itself x (map (λ a. name (view a)) those) ≡ r
          → None ≡ option_map (λ f. f.0) (cond t (Some (zero, name (view b))) (option_map {U = ℕ × List ℕ} (λ f. (suc f.0, f.1)) r))
          → (None ≡ place those → None ≡ first_named name x (map view those))
          → None ≡ cond t (Some (zero, view b)) (option_map {U = ℕ × B} (λ f. (suc f.0, f.1)) (first_named name x (map view those)))
      go true r w h deeper = cc
      go false None w h deeper = ap (option_map {U = ℕ × B} (λ f. (suc f.0, f.1))) (deeper (sym (ap (option_map (λ f. f.0)) w)))
      go false (Some f) w h deeper = cc

  -- the same of a table that is known to be of these
  pub found_in : (table : List (List ℕ)) (those : List A) (i : ℕ) (a : A) → table ≡ map (λ a. name (view a)) those → Some i ≡ option_map (λ f. f.0) (first_named itself x table) → a ≡ get_or those i a → Some (i, view a) ≡ first_named name x (map view those)
  found_in table those i a tied e is = found those i a (e ∙ ap (λ t. option_map (λ f. f.0) (first_named itself x t)) tied) is

  pub missed_in : (table : List (List ℕ)) (those : List A) → table ≡ map (λ a. name (view a)) those → None ≡ option_map (λ f. f.0) (first_named itself x table) → None ≡ first_named name x (map view those)
  missed_in table those tied e = missed those (e ∙ ap (λ t. option_map (λ f. f.0) (first_named itself x t)) tied)

  -- what the table answers is the place in the list that is seen
  pub place_seen : (those : List A) → place those ≡ option_map (λ f. f.0) (first_named name x (map view those))
  place_seen [] = refl
  place_seen (b ∷ those) = go (bytes_eq (name (view b)) x) (first_named itself x (map (λ a. name (view a)) those)) (first_named name x (map view those)) (place_seen those)
    where
      go : (t : Bool) (r : Option (ℕ × List ℕ)) (s : Option (ℕ × B)) → option_map (λ f. f.0) r ≡ option_map (λ f. f.0) s
          → option_map (λ f. f.0) (cond t (Some (zero, name (view b))) (option_map {U = ℕ × List ℕ} (λ f. (suc f.0, f.1)) r)) ≡ option_map (λ f. f.0) (cond t (Some (zero, view b)) (option_map {U = ℕ × B} (λ f. (suc f.0, f.1)) s))
      go true r s e = refl
      go false None None e = refl
      go false None (Some g) e = cc
      go false (Some f) None e = cc
      go false (Some f) (Some g) e = ap (λ (n : ℕ). Some (suc n)) (some_is e)

  pub place_in : (table : List (List ℕ)) (those : List A) (r : Option ℕ) → table ≡ map (λ a. name (view a)) those → r ≡ option_map (λ f. f.0) (first_named itself x table) → r ≡ option_map (λ f. f.0) (first_named name x (map view those))
  place_in table those r tied e = e ∙ ap (λ t. option_map (λ f. f.0) (first_named itself x t)) tied ∙ place_seen those

-- The table of interfaces by their names.
use Rattle.std.proofs.Common.{◌≡◌, ℕ, zero, suc, ◌+◌, ◌<◌, Bool, true, false, cond, List, [], ◌∷◌, length, drop, map, get_or, refl, sym, ap, subst, ◌∙◌, arith}
use Rattle.std.specs.Prelude.{Option, Some, None, option_map, bytes_eq}
use Rattle.std.specs.Borrow.{Bor}
use Rattle.std.proofs.lemmas.Slice.Eq.{bytes_eq-Decides}
use Rattle.std.proofs.lemmas.Bool.Decides.{same_from_decides}
use Rattle.indexmap.specs.IndexMap.{insert_entry}
use lib.Seq.{drop-cons, drop-length}
use Rattle.pat_core.specs.declared.program.Interface.{Interface}
use Rattle.pat_core.specs.Views.{interface_view, tag_view}
use Rattle.pat_derivation_text_spec.specs.LineReading.{found}
use Rattle.pat_derivation_lines.specs.patterns.Views.{names_of}
use Rattle.pat_derivation_lines.specs.Places.{first_place, known_place, IsTable}
use Rattle.pat_derivation_lines.proofs.Names.{names_seen}

abbrev pub Entries : Type 0
Entries = List (Bor (List ℕ) × ℕ)

abbrev pub same_key : Bor (List ℕ) → Bor (List ℕ) → Bool
same_key a b = bytes_eq a.now b.now

-- ---- a name more

same_tests : (x y z : List ℕ) → bytes_eq y z ≡ true → bytes_eq x z ≡ bytes_eq x y
same_tests x y z e = ap (bytes_eq x) (sym ((bytes_eq-Decides y z).0 e))

-- two names that differ are not both the third
apart : (x y z : List ℕ) → bytes_eq y z ≡ false → bytes_eq x z ≡ true → bytes_eq x y ≡ true → true ≡ false
apart x y z differ a b =
    let same : y ≡ z = sym ((bytes_eq-Decides x y).0 b) ∙ (bytes_eq-Decides x z).0 a in
    sym ((bytes_eq-Decides y z).1 same) ∙ differ

swapped : {A : Type 0} (s u : Bool) (a b c : A) → (s ≡ true → u ≡ true → true ≡ false) → cond s a (cond u b c) ≡ cond u b (cond s a c)
swapped true true a b c never = let e = never refl refl in cc
swapped true false a b c never = refl
swapped false u a b c never = refl

twice : {A : Type 0} (s : Bool) (a b c : A) → cond s a c ≡ cond s a (cond s b c)
twice true a b c = refl
twice false a b c = refl

inserted : (x : List ℕ) (es : Entries) (key : Bor (List ℕ)) (v : ℕ) → known_place x (insert_entry same_key es key v) ≡ cond (bytes_eq x key.now) (Some v) (known_place x es)
inserted x [] key v = refl
inserted x (e ∷ es) key v = go (bytes_eq key.now e.0.now) refl (inserted x es key v)
  where
    go : (t : Bool) → bytes_eq key.now e.0.now ≡ t → known_place x (insert_entry same_key es key v) ≡ cond (bytes_eq x key.now) (Some v) (known_place x es)
        → known_place x (cond t ((e.0, v) ∷ es) (e ∷ insert_entry same_key es key v)) ≡ cond (bytes_eq x key.now) (Some v) (cond (bytes_eq x e.0.now) (Some e.1) (known_place x es))
    go true same deeper =
        ap (λ (s : Bool). cond s (Some v) (known_place x es)) (same_tests x key.now e.0.now same)
        ∙ twice (bytes_eq x key.now) (Some v) (Some e.1) (known_place x es)
        ∙ ap (λ (s : Bool). cond (bytes_eq x key.now) (Some v) (cond s (Some e.1) (known_place x es))) (sym (same_tests x key.now e.0.now same))
    go false differ deeper =
        ap (cond (bytes_eq x e.0.now) (Some e.1)) deeper
        ∙ swapped (bytes_eq x e.0.now) (bytes_eq x key.now) (Some e.1) (Some v) (known_place x es) (apart x key.now e.0.now differ)

-- ---- the table from a place on

-- the first place of a name among the interfaces from place k on
pub place_from : ℕ → List ℕ → List Interface → Option ℕ
place_from k x is = option_map (λ n. k + n) (first_place x (map interface_view is))

pub no_place : (k : ℕ) (x : List ℕ) (is : List Interface) → is ≡ [] → None ≡ place_from k x is
unfolding place_from
no_place k x is e = rw e refl

moved : (k : ℕ) (r : Option (ℕ × List (List ℕ))) → option_map (λ n. suc k + n) (option_map (λ f. f.0) r) ≡ option_map (λ n. k + n) (option_map (λ f. f.0) (option_map {U = ℕ × List (List ℕ)} (λ f. (suc f.0, f.1)) r))
moved k None = refl
moved k (Some f) = ap Some (omega arith)

eq_sym : (xs ys : List ℕ) → bytes_eq xs ys ≡ bytes_eq ys xs
eq_sym xs ys = let d = bytes_eq-Decides ys xs in same_from_decides (bytes_eq xs ys) (bytes_eq ys xs) (bytes_eq-Decides xs ys) (λ h. sym (d.0 h), λ h. d.1 (sym h))

-- one interface more in front
in_front : (k : ℕ) (x : List ℕ) (i : Interface) (is : List Interface) → cond (bytes_eq x i.name) (Some k) (place_from (suc k) x is) ≡ place_from k x (i ∷ is)
unfolding place_from
in_front k x i is = ap (λ (s : Bool). cond s (Some k) (place_from (suc k) x is)) (eq_sym x i.name) ∙ go (bytes_eq i.name x)
  where
    go : (b : Bool) → cond b (Some k) (place_from (suc k) x is)
        ≡ option_map (λ n. k + n) (option_map (λ f. f.0) (cond b (Some (zero, map (λ t. t.name) (map tag_view i.tags))) (option_map {U = ℕ × List (List ℕ)} (λ r. (suc r.0, r.1)) (found x (map interface_view is)))))
    go true = ap Some (omega arith)
    go false = moved k (found x (map interface_view is))

-- the table with the name of the interface at place k, where it had those behind
pub put_in_front : (x : List ℕ) (place k : ℕ) (is : List Interface) (d : Interface) (es fs : Entries) (key : Bor (List ℕ))
    → place ≡ suc k → k < length is → key.now ≡ (get_or is k d).name → fs ≡ insert_entry same_key es key k
    → known_place x es ≡ place_from place x (drop place is) → known_place x fs ≡ place_from k x (drop k is)
put_in_front x place k is d es fs key next l own table h =
    ap (λ (gs : Entries). known_place x gs) table ∙ inserted x es key k
    ∙ ap (cond (bytes_eq x key.now) (Some k)) (subst (λ n. known_place x es ≡ place_from n x (drop n is)) next h)
    ∙ ap (λ (n : List ℕ). cond (bytes_eq x n) (Some k) (place_from (suc k) x (drop (suc k) is))) own
    ∙ in_front k x (get_or is k d) (drop (suc k) is)
    ∙ ap (place_from k x) (sym (drop-cons is k d l))

-- ---- the whole table

pub empty_table : (is : List Interface) (es : Entries) (place : ℕ) → es ≡ [] → place ≡ length is → (x : List ℕ) → known_place x es ≡ place_from place x (drop place is)
empty_table is es place none whole x =
    ap (λ (gs : Entries). known_place x gs) none ∙ no_place place x (drop place is) (ap (λ n. drop n is) whole ∙ drop-length is)

from_none : (o : Option ℕ) → option_map (λ n. zero + n) o ≡ o
from_none None = refl
from_none (Some n) = ap Some (omega arith)

at_front : (is : List Interface) (es : Entries) (x : List ℕ) → known_place x es ≡ place_from zero x is → known_place x es ≡ first_place x (map interface_view is)
unfolding place_from
at_front is es x h = h ∙ from_none (first_place x (map interface_view is))

pub whole_table : (is : List Interface) (es : Entries) (place : ℕ) → place ≡ 0 → ((x : List ℕ) → known_place x es ≡ place_from place x (drop place is)) → IsTable is es
whole_table is es place none h x = at_front is es x (subst (λ n. known_place x es ≡ place_from n x (drop n is)) none (h x))

-- ---- what stands at a place that was found

-- the interface at the place, and the place is within
pub record FoundAt (x : List ℕ) (is : List Interface) (k : ℕ) : Type 0 where
  pub within : k < length is
  pub is_found : (d : Interface) → Some (k, names_of (get_or is k d).tags) ≡ found x (map interface_view is)

-- the first place among an interface and others
with_first : Interface → Bool → Option (ℕ × List (List ℕ)) → Option (ℕ × List (List ℕ))
with_first i b r = cond b (Some (zero, map (λ t. t.name) (map tag_view i.tags))) (option_map {U = ℕ × List (List ℕ)} (λ f. (suc f.0, f.1)) r)

number_in : Option ℕ → ℕ
number_in None = zero
number_in (Some n) = n

same_number : (n k : ℕ) → Some n ≡ Some k → n ≡ k
unfolding number_in
same_number n k e = ap number_in e

pub found_at_place : (x : List ℕ) (is : List Interface) (k : ℕ) → first_place x (map interface_view is) ≡ Some k → FoundAt x is k
unfolding with_first
found_at_place x [] k e = absurd cc
found_at_place x (i ∷ is) k e = go (bytes_eq i.name x) (found x (map interface_view is)) refl refl e (found_at_place x is)
  where
    go : (b : Bool) (r : Option (ℕ × List (List ℕ))) → bytes_eq i.name x ≡ b → found x (map interface_view is) ≡ r → option_map (λ f. f.0) (with_first i b r) ≡ Some k
        → ((n : ℕ) → first_place x (map interface_view is) ≡ Some n → FoundAt x is n) → FoundAt x (i ∷ is) k
    go true r same rest e deeper =
        subst (FoundAt x (i ∷ is)) (same_number zero k e)
        (record {
          within = omega arith;
          is_found = λ d. ap (λ l. Some (zero, l)) (names_seen i.tags) ∙ ap (λ b. with_first i b (found x (map interface_view is))) (sym same);
        })
    go false None same rest e deeper = absurd cc
    go false (Some f) same rest e deeper =
        let there = deeper f.0 (ap (option_map (λ f. f.0)) rest) in
        subst (FoundAt x (i ∷ is)) (same_number (suc f.0) k e)
        (record {
          within = omega (arith, there.within);
          is_found = λ d. ap (option_map (λ f. (suc f.0, f.1))) (there.is_found d) ∙ ap (λ b. with_first i b (found x (map interface_view is))) (sym same);
        })

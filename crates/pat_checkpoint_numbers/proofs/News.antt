-- Values whose mailboxes are new, one after another.
use Rattle.std.proofs.Common.{◌≡◌, ℕ, Bool, true, false, not, ◌||◌, ◌&&◌, List, [], ◌∷◌, refl, sym, ap, ap₂, ◌∙◌}
use Rattle.std.specs.Prelude.{nat_eq}
use Rattle.std.specs.List.{list_all}
use Rattle.pat_semantics_spec.specs.Programs.{is_among}
use Rattle.pat_derivation_spec.specs.Same.{all_differ}
use Rattle.pat_checkpoint_numbers.specs.Marked.{are_new}
use Rattle.std.proofs.lemmas.Bool.{eqb-true, eq-eqb}

both_ways : (a b : Bool) → (a ≡ true → b ≡ true) → (b ≡ true → a ≡ true) → a ≡ b
both_ways true true f g = refl
both_ways true false f g = absurd (let clash = f refl in cc)
both_ways false true f g = absurd (let clash = g refl in cc)
both_ways false false f g = refl

turned_eq : (a b : ℕ) → nat_eq a b ≡ nat_eq b a
turned_eq a b =
    both_ways (nat_eq a b) (nat_eq b a)
    (λ h. let same : a ≡ b = eqb-true a b h in eq-eqb b a (sym same))
    (λ h. let same : b ≡ a = eqb-true b a h in eq-eqb a b (sym same))

-- what is the same is as new
pub new_same : (m n : ℕ → Bool) (bs : List ℕ) → ((b : ℕ) → m b ≡ n b) → are_new m bs ≡ are_new n bs
new_same m n bs h = ap (λ t. t && all_differ bs) (go bs)
  where
    go : (bs : List ℕ) → list_all (λ b. not (m b)) bs ≡ list_all (λ b. not (n b)) bs
    go [] = refl
    go (b ∷ bs) = ap₂ (λ s t. not s && t) (h b) (go bs)

-- where none is marked, those that differ are new
pub none_marked : (m : ℕ → Bool) (bs : List ℕ) → ((b : ℕ) → m b ≡ false) → are_new m bs ≡ all_differ bs
none_marked m bs h = ap (λ t. t && all_differ bs) (go bs)
  where
    go : (bs : List ℕ) → list_all (λ b. not (m b)) bs ≡ true
    go [] = refl
    go (b ∷ bs) = ap₂ (λ s t. not s && t) (h b) (go bs)

-- with one more marked, those are unmarked that were and are not that one
less_one : (m n : ℕ → Bool) (a : ℕ) (bs : List ℕ) → ((b : ℕ) → n b ≡ (nat_eq b a || m b)) → list_all (λ b. not (n b)) bs ≡ (not (is_among a bs) && list_all (λ b. not (m b)) bs)
less_one m n a [] h = refl
less_one m n a (b ∷ bs) h = ap₂ (λ s t. not s && t) (h b ∙ ap (λ t. t || m b) (turned_eq b a)) (less_one m n a bs h) ∙ go (nat_eq a b) (m b) (is_among a bs) (list_all (λ b. not (m b)) bs)
  where
    go : (s t u v : Bool) → (not (s || t) && (not u && v)) ≡ (not (s || u) && (not t && v))
    go true t u v = refl
    go false true true v = refl
    go false true false v = refl
    go false false u v = refl

-- a mailbox is new with those behind it where it isn't marked, and they are new once it is
pub new_with : (m n : ℕ → Bool) (a : ℕ) (bs : List ℕ) → ((b : ℕ) → n b ≡ (nat_eq b a || m b)) → are_new m (a ∷ bs) ≡ (not (m a) && are_new n bs)
new_with m n a bs h =
    go (m a) (is_among a bs) (list_all (λ b. not (m b)) bs) (all_differ bs)
    ∙ ap (λ t. not (m a) && (t && all_differ bs)) (sym (less_one m n a bs h))
  where
    go : (s u v w : Bool) → ((not s && v) && (not u && w)) ≡ (not s && ((not u && v) && w))
    go true u v w = refl
    go false true true w = refl
    go false true false w = refl
    go false false v w = refl

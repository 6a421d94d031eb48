-- Numbers in ascending order, with one more behind them.
use Rattle.std.proofs.Common.{◌≡◌, ℕ, true, List, [], ◌∷◌, ◌++◌, refl}
use Rattle.std.specs.Prelude.{nat_lt}
use Rattle.std.proofs.lemmas.Bool.{and_parts, and_from}
use Rattle.pat_checkpoint_spec.specs.text.LineReading.{is_next, is_none}
use Rattle.pat_checkpoint_laws.specs.text.Readable.{ascend}

pub next_ascends : (ks : List ℕ) (n : ℕ) → ascend ks ≡ true → is_next ks n ≡ true → ascend (ks ++ n ∷ []) ≡ true
next_ascends [] n a h = refl
next_ascends (k ∷ []) n a h = and_from (nat_lt k n) true h refl
next_ascends (k ∷ l ∷ ks) n a h =
    let m = and_parts (nat_lt k l) (ascend (l ∷ ks)) a in
    and_from (nat_lt k l) (ascend (l ∷ (ks ++ n ∷ []))) m.0 (next_ascends (l ∷ ks) n m.1 h)

pub ascends_next : (ks : List ℕ) (n : ℕ) (more : List ℕ) → ascend (ks ++ n ∷ more) ≡ true → is_next ks n ≡ true
ascends_next [] n more a = refl
ascends_next (k ∷ []) n more a = (and_parts (nat_lt k n) (ascend (n ∷ more)) a).0
ascends_next (k ∷ l ∷ ks) n more a = ascends_next (l ∷ ks) n more (and_parts (nat_lt k l) (ascend (l ∷ (ks ++ n ∷ more))) a).1

pub none_is : {A : Type 0} (xs : List A) → is_none xs ≡ true → xs ≡ []
none_is [] e = refl
none_is (x ∷ xs) e = absurd cc

-- What a choice that was made says.
use Rattle.std.proofs.Common.{◌≡◌, Bool, true, false, refl, if◌then◌else◌}
use Rattle.std.specs.Prelude.{Option, Some, None, option_map, option_and_then, not}
use Rattle.pat_texts_spec.specs.Fronts.{agree}

-- what is there only where a test holds
pub taken : {A : Type 0} (b : Bool) (o : Option A) (m : A) → (if b then o else None) ≡ Some m → (b ≡ true) × (o ≡ Some m)
taken true o m e = (refl, e)
taken false o m e = absurd cc

-- and where it doesn't hold
pub untaken : {A : Type 0} (b : Bool) (o : Option A) (m : A) → (if b then None else o) ≡ Some m → (b ≡ false) × (o ≡ Some m)
untaken true o m e = absurd cc
untaken false o m e = (refl, e)

pub passed : {A : Type 0} (b : Bool) (x y : A) → b ≡ true → (if b then x else y) ≡ x
passed b x y e = rw e refl

pub skipped : {A : Type 0} (b : Bool) (x y : A) → b ≡ false → (if b then x else y) ≡ y
skipped b x y e = rw e refl

-- what was made of something that is there
pub record Made {A B : Type 0} (f : A → B) (o : Option A) (y : B) : Type 0 where
  pub from : A
  pub there : o ≡ Some from
  pub is : f from ≡ y

pub made : {A B : Type 0} (f : A → B) (o : Option A) (y : B) → option_map f o ≡ Some y → Made f o y
made f None y e = absurd cc
made f (Some x) y e = record { from = x; there = refl; is = cc }

pub made_next : {A B : Type 0} (f : A → Option B) (o : Option A) (y : B) → option_and_then f o ≡ Some y → Made f o (Some y)
made_next f None y e = absurd cc
made_next f (Some x) y e = record { from = x; there = refl; is = e }

-- both are so, or neither
pub agree_same : (a b : Bool) → agree a b ≡ true → a ≡ b
agree_same true true e = refl
agree_same true false e = cc
agree_same false true e = cc
agree_same false false e = refl

pub same_agree : (b : Bool) → agree b b ≡ true
same_agree true = refl
same_agree false = refl

pub negated : (b : Bool) → not b ≡ true → b ≡ false
negated true e = cc
negated false e = refl

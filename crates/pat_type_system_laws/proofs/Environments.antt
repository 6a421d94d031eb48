-- Look-ups in environments that are made of others, and in a function's parameters.
use Rattle.std.proofs.Common.{◌≡◌, ℕ, zero, suc, true, false, nat_eq, List, [], ◌∷◌, Option, Some, None, refl, ◌∙◌, take}
use Rattle.std.specs.Prelude.{is_some, slice_get}
use Rattle.std.proofs.lemmas.Bool.{cond-true, cond-false, or_parts}
use Rattle.pat_semantics_spec.specs.Values.{Kind}
use Rattle.pat_semantics_spec.specs.Programs.{is_among}
use Rattle.pat_type_system_spec.specs.Types.{MailboxType, TypeEnv}
use Rattle.pat_type_system_spec.specs.Typings.{with_option, with_payloads}
use Rattle.pat_semantics_laws.proofs.Lists.{ne_turn}

-- the type at the first place, for its variable
pub option_here : (x : ℕ) (o : Option MailboxType) (g : TypeEnv) (z : ℕ) → is_some o ≡ true → nat_eq x z ≡ true → with_option x o g z ≡ o
option_here x None g z s h = cc
option_here x (Some a) g z s h = cond-true (nat_eq x z) (Some a) (g z) h

pub option_there : (x : ℕ) (o : Option MailboxType) (g : TypeEnv) (z : ℕ) → nat_eq x z ≡ false → with_option x o g z ≡ g z
option_there x None g z h = refl
option_there x (Some a) g z h = cond-false (nat_eq x z) (Some a) (g z) h

-- a variable that is none of the names keeps its type
pub payloads_off : (types : TypeEnv) (k : ℕ) (xs : List ℕ) (g : TypeEnv) (z : ℕ) → is_among z xs ≡ false → with_payloads types k xs g z ≡ g z
payloads_off types k [] g z h = refl
payloads_off types k (x ∷ xs) g z h =
    let p = or_parts (nat_eq z x) (is_among z xs) h in
    option_there x (types k) (with_payloads types (suc k) xs g) z (ne_turn z x p.0) ∙ payloads_off types (suc k) xs g z p.1

-- a kind at a place of the first n
pub take_at : (n : ℕ) (ks : List Kind) (z : ℕ) (k : Kind) → slice_get (take n ks) z ≡ Some k → slice_get ks z ≡ Some k
take_at zero ks z k h = cc
take_at (suc n) [] z k h = cc
take_at (suc n) (x ∷ ks) zero k h = h
take_at (suc n) (x ∷ ks) (suc z) k h = take_at n ks z k h

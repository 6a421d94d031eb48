-- The table of allowances, changed at one thread.
use Rattle.std.proofs.Common.{◌≡◌, ℕ, zero, suc, ◌+◌, ◌<◌, [], ◌∷◌, ◌++◌, length, Option, Some, None, refl, sym, ap, ◌∙◌, slice_get, slice_set, arith, length-append, length-set}
use Rattle.pat_semantics_spec.specs.Steps.{Act, ActLocal, ActNew, ActSend, ActSpawn, ActPrint, ActEnd, ActFree, ActReceive}
use Rattle.pat_machine_spec.specs.Lendings.{Out, flat, allowance_of, steps_of, allowances, newcomer, committed_out}

-- what is out within all
pub allowance_within : (out : Out) (t n : ℕ) → allowance_of out t ≡ Some n → t < length out
allowance_within [] t n h = cc
allowance_within (o ∷ out) zero n h = omega arith
allowance_within (o ∷ out) (suc t) n h = let w = allowance_within out t n h in omega arith

pub allowances_set : (out : Out) (t : ℕ) (old new : Option ℕ) → slice_get out t ≡ Some old → allowances (slice_set out t new) + steps_of old ≡ allowances out + steps_of new
allowances_set [] t old new h = cc
allowances_set (o ∷ out) zero old new h =
    let same : o ≡ old = cc in
    let n : steps_of o ≡ steps_of old = ap steps_of same in
    omega arith
allowances_set (o ∷ out) (suc t) old new h = let rest = allowances_set out t old new h in omega arith

from_flat : (o : Option (Option ℕ)) (n : ℕ) → flat o ≡ Some n → o ≡ Some (Some n)
from_flat None n h = cc
from_flat (Some o) n h = ap (λ (q : Option ℕ). Some q) h

pub entry_of : (out : Out) (t n : ℕ) → allowance_of out t ≡ Some n → slice_get out t ≡ Some (Some n)
entry_of out t n h = from_flat (slice_get out t) n h

-- without the allowance of one thread
pub allowances_without : (out : Out) (t n : ℕ) → allowance_of out t ≡ Some n → allowances (slice_set out t None) + n ≡ allowances out
allowances_without out t n h = let a = allowances_set out t (Some n) None (entry_of out t n h) in omega arith

pub allowances_append : (out : Out) (a : Option Act) → allowances (out ++ newcomer a) ≡ allowances out
allowances_append [] None = refl
allowances_append [] (Some ActSpawn) = refl
allowances_append [] (Some ActLocal) = refl
allowances_append [] (Some ActNew) = refl
allowances_append [] (Some ActSend) = refl
allowances_append [] (Some ActPrint) = refl
allowances_append [] (Some ActEnd) = refl
allowances_append [] (Some ActFree) = refl
allowances_append [] (Some (ActReceive k)) = refl
allowances_append (o ∷ out) a = ap (λ n. steps_of o + n) (allowances_append out a)

pub allowances_committed : (out : Out) (t n : ℕ) (a : Option Act) → allowance_of out t ≡ Some n → allowances (committed_out out t a) + n ≡ allowances out
allowances_committed out t n a h =
    let one = allowances_append (slice_set out t None) a in
    let two = allowances_without out t n h in
    omega arith

pub length_committed : (out : Out) (t : ℕ) (a : Option Act) → length (committed_out out t a) ≡ length out + length (newcomer a)
length_committed out t a = length-append (slice_set out t None) (newcomer a) ∙ ap (λ n. n + length (newcomer a)) (length-set out t None)

-- where something else is set
pub set_here : (out : Out) (t : ℕ) (o : Option ℕ) → t < length out → allowance_of (slice_set out t o) t ≡ o
set_here [] t o h = absurd (omega arith)
set_here (x ∷ out) zero o h = refl
set_here (x ∷ out) (suc t) o h = set_here out t o (omega arith)

pub set_elsewhere : (out : Out) (t u : ℕ) (o : Option ℕ) → (t ≡ u → ⊥) → allowance_of (slice_set out t o) u ≡ allowance_of out u
set_elsewhere [] t u o other = refl
set_elsewhere (x ∷ out) zero zero o other = absurd (other refl)
set_elsewhere (x ∷ out) zero (suc u) o other = refl
set_elsewhere (x ∷ out) (suc t) zero o other = refl
set_elsewhere (x ∷ out) (suc t) (suc u) o other = set_elsewhere out t u o (λ same. other (ap suc same))

-- who is out after newcomers came was out before
pub before_newcomer : (out : Out) (a : Option Act) (u m : ℕ) → allowance_of (out ++ newcomer a) u ≡ Some m → allowance_of out u ≡ Some m
before_newcomer [] None u m h = cc
before_newcomer [] (Some ActSpawn) zero m h = cc
before_newcomer [] (Some ActSpawn) (suc u) m h = cc
before_newcomer [] (Some ActLocal) u m h = cc
before_newcomer [] (Some ActNew) u m h = cc
before_newcomer [] (Some ActSend) u m h = cc
before_newcomer [] (Some ActPrint) u m h = cc
before_newcomer [] (Some ActEnd) u m h = cc
before_newcomer [] (Some ActFree) u m h = cc
before_newcomer [] (Some (ActReceive k)) u m h = cc
before_newcomer (o ∷ out) a zero m h = h
before_newcomer (o ∷ out) a (suc u) m h = before_newcomer out a u m h

-- the thread that was taken back isn't out
pub none_here : (out : Out) (t : ℕ) → allowance_of (slice_set out t None) t ≡ None
none_here [] t = refl
none_here (x ∷ out) zero = refl
none_here (x ∷ out) (suc t) = none_here out t

pub still_out : (out : Out) (t u m : ℕ) → allowance_of (slice_set out t None) u ≡ Some m → (t ≡ u → ⊥) × (allowance_of out u ≡ Some m)
still_out out t u m h =
    let other : t ≡ u → ⊥ = λ same. let none = none_here out t in let some : allowance_of (slice_set out t None) t ≡ Some m = ap (allowance_of (slice_set out t None)) same ∙ h in cc in
    (other, sym (set_elsewhere out t u None other) ∙ h)

pub committed_still_out : (out : Out) (t u m : ℕ) (a : Option Act) → allowance_of (committed_out out t a) u ≡ Some m → (t ≡ u → ⊥) × (allowance_of out u ≡ Some m)
committed_still_out out t u m a h = still_out out t u m (before_newcomer (slice_set out t None) a u m h)

-- nothing is out where no allowance is
pub none_out : (out : Out) (t n : ℕ) → allowances out ≡ 0 → allowance_of out t ≡ Some n → 0 < n → ⊥
none_out [] t n h g more = cc
none_out (o ∷ out) zero n h g more = let s : steps_of o ≡ n = ap steps_of g in omega arith
none_out (o ∷ out) (suc t) n h g more = none_out out t n (omega arith) g more

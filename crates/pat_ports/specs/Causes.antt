-- Counts of faults, and what a call that answers a fault shows of them.
use Rattle.std.specs.Prelude.{◌≡◌, ◌⊎◌, ℕ, ◌+◌, ◌-◌, ◌^◌, Result}
use Rattle.std.specs.declared.result.Result.TheVariants.{Ok, Err}

-- one fault more was counted; a count that stands at the greatest 64-bit number stays there
abbrev pub Raised : ℕ → ℕ → Type 0
Raised before now = (now ≡ before + 1) ⊎ ((before ≡ 2 ^ 64 - 1) × (now ≡ before))

-- the count before and after a call that answered so: an `Err` raises it, and nothing else changes it
abbrev pub Counted : {T E : Type 0} → ℕ → ℕ → Result T E → Type 0
Counted before now (Ok x) = now ≡ before
Counted before now (Err e) = Raised before now

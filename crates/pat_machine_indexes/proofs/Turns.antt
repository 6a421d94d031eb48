-- Changes of counts, one after another.
use Rattle.std.proofs.Common.{◌≡◌, ℕ, ◌+◌, ◌<◌, arith}
use Rattle.pat_machine_indexes.specs.declared.refcounts.names.RefCounts.{RefCounts}
use Rattle.pat_machine_indexes.specs.declared.refcounts.changing.Change.{Change}
use Rattle.pat_machine_indexes.specs.declared.refcounts.changing.Change.TheVariants.{Come, Go}
use Rattle.pat_machine_indexes.specs.refcounts.Changes.{Fits, Changes}

-- all is the one part and the other
abbrev IsBoth : (all one other : ℕ → ℕ) → Type 0
IsBoth all one other = (a : ℕ) → all a ≡ one a + other a

-- where all fits, the one part does
pub fits_one : (change : Change) (ns : RefCounts) (all one other : ℕ → ℕ) → IsBoth all one other → Fits change ns all → Fits change ns one
fits_one Come ns all one other both fits = λ (a : ℕ) (h : 0 < one a).
    let e = both a in
    let f = fits a (omega arith) in
    (f.0, omega arith)
fits_one Go ns all one other both fits = λ (a : ℕ).
    let e = both a in
    let f = fits a in
    omega arith

-- and then the other
pub fits_other : (change : Change) (ns ms : RefCounts) (all one other : ℕ → ℕ) → IsBoth all one other → Fits change ns all → Changes change ns one ms → Fits change ms other
fits_other Come ns ms all one other both fits changed = λ (a : ℕ) (h : 0 < other a).
    let e = both a in
    let f = fits a (omega arith) in
    let whole = changed.whole in
    let t = changed.times a in
    (omega arith, omega arith)
fits_other Go ns ms all one other both fits changed = λ (a : ℕ).
    let e = both a in
    let f = fits a in
    let t = changed.times a in
    omega arith

-- the one part and then the other is all
pub changes_both : (change : Change) (ns ms ls : RefCounts) (all one other : ℕ → ℕ) → IsBoth all one other → Changes change ns one ms → Changes change ms other ls → Changes change ns all ls
changes_both Come ns ms ls all one other both first then = record {
  whole = omega (arith, first.whole, then.whole);
  times = λ (a : ℕ). let e = both a in let f = first.times a in let t = then.times a in omega arith;
  room = omega (arith, first.room, then.room);
  len = omega (arith, first.len, then.len);
}
changes_both Go ns ms ls all one other both first then = record {
  whole = omega (arith, first.whole, then.whole);
  times = λ (a : ℕ). let e = both a in let f = first.times a in let t = then.times a in omega arith;
  room = omega (arith, first.room, then.room);
  len = omega (arith, first.len, then.len);
}

-- nothing is changed
pub changes_none : (change : Change) (ns : RefCounts) (none : ℕ → ℕ) → ((a : ℕ) → none a ≡ 0) → Changes change ns none ns
changes_none Come ns none is = record {
  whole = omega arith;
  times = λ (a : ℕ). let e = is a in omega arith;
  room = omega arith;
  len = omega arith;
}
changes_none Go ns none is = record {
  whole = omega arith;
  times = λ (a : ℕ). let e = is a in omega arith;
  room = omega arith;
  len = omega arith;
}

-- what is left of a change fits, and once it is made too, all is made
pub record IsUnderWay (change : Change) (old : RefCounts) (all : ℕ → ℕ) (now : RefCounts) (left : ℕ → ℕ) : Type 0 where
  pub fits : Fits change now left
  pub made : (new : RefCounts) → Changes change now left new → Changes change old all new

pub starts : (change : Change) (ns : RefCounts) (all : ℕ → ℕ) → Fits change ns all → IsUnderWay change ns all ns all
starts change ns all fits = record { fits = fits; made = λ (new : RefCounts) (changed : Changes change ns all new). changed }

pub turns : {change : Change} {old now : RefCounts} {all : ℕ → ℕ} (left one other : ℕ → ℕ) (next : RefCounts) → IsUnderWay change old all now left → IsBoth left one other → Changes change now one next → IsUnderWay change old all next other
turns {change} {old} {now} {all} left one other next way both changed = record {
  fits = fits_other change now next left one other both way.fits changed;
  made = λ (new : RefCounts) (rest : Changes change next other new). way.made new (changes_both change now next new left one other both changed rest);
}

pub ends : {change : Change} {old now : RefCounts} {all : ℕ → ℕ} (left : ℕ → ℕ) → IsUnderWay change old all now left → ((a : ℕ) → left a ≡ 0) → Changes change old all now
ends {change} {old} {now} left way none = way.made now (changes_none change now left none)

-- Lists that are made longer, one part after another.
use Rattle.std.proofs.Common.{◌≡◌, ℕ, zero, suc, ◌+◌, ◌<◌, ◌⊎◌, inl, inr, List, IsTrue, arith}
use Rattle.pat_semantics_spec.specs.Programs.{is_among}
use Rattle.pat_machine_indexes.specs.refcounts.Listing.{Lists}

-- one of two is more than nothing where both together are
some_of : (m n : ℕ) → 0 < m + n → (0 < m) ⊎ (0 < n)
some_of zero n h = inr (omega arith)
some_of (suc m) n h = inl (omega arith)

-- the one part and then the other is all
pub lists_both : {xs ys zs : List ℕ} (all one other : ℕ → ℕ) → ((a : ℕ) → all a ≡ one a + other a) → Lists xs one ys → Lists ys other zs → Lists xs all zs
lists_both {xs} {ys} {zs} all one other both first then = record {
  kept = λ (a : ℕ) (h : IsTrue (is_among a xs)). then.kept a (first.kept a h);
  named = λ (a : ℕ) (h : 0 < all a). let e = both a in from a (some_of (one a) (other a) (omega arith));
} where
  from : (a : ℕ) → (0 < one a) ⊎ (0 < other a) → IsTrue (is_among a zs)
  from a (inl h) = then.kept a (first.named a h)
  from a (inr h) = then.named a h

-- nothing is named
pub lists_none : (xs : List ℕ) (none : ℕ → ℕ) → ((a : ℕ) → none a ≡ 0) → Lists xs none xs
lists_none xs none is = record {
  kept = λ (a : ℕ) (h : IsTrue (is_among a xs)). h;
  named = λ (a : ℕ) (h : 0 < none a). let e = is a in absurd (omega arith);
}

-- once what is left is put into the list too, all is
pub record IsListed (old : List ℕ) (all : ℕ → ℕ) (now : List ℕ) (left : ℕ → ℕ) : Type 0 where
  pub made : (new : List ℕ) → Lists now left new → Lists old all new

pub starts : (xs : List ℕ) (all : ℕ → ℕ) → IsListed xs all xs all
starts xs all = record { made = λ (new : List ℕ) (lists : Lists xs all new). lists }

pub turns : {old now : List ℕ} {all : ℕ → ℕ} (left one other : ℕ → ℕ) (next : List ℕ) → IsListed old all now left → ((a : ℕ) → left a ≡ one a + other a) → Lists now one next → IsListed old all next other
turns left one other next way both lists = record {
  made = λ (new : List ℕ) (rest : Lists next other new). way.made new (lists_both left one other both lists rest);
}

pub ends : {old now : List ℕ} {all : ℕ → ℕ} (left : ℕ → ℕ) → IsListed old all now left → ((a : ℕ) → left a ≡ 0) → Lists old all now
ends {old} {now} left way none = way.made now (lists_none now left none)

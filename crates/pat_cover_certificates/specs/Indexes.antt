-- Places of sets: of those without periods by their bases, of the others in order.
use Rattle.std.specs.Prelude.{◌≡◌, ℕ, ◌<◌, ◌≤◌, ◌⊎◌, List, [], ◌∷◌, ◌++◌, length, Option, Some, None, slice_get}
use Rattle.std.specs.Borrow.{Bor}
use Rattle.std.specs.Map.{lookup}
use Rattle.std.specs.Str.{bytes_eq}
use Rattle.pat_bags.specs.declared.Bag.{Bag}
use Rattle.pat_linear.specs.declared.set.LinearSet.{LinearSet}
use Rattle.pat_linear.specs.Views.{set_view}
use Rattle.pat_cover_certificates.specs.declared.cover.CoverEntry.{CoverEntry}
use Rattle.pat_cover_certificates.specs.Views.{entry_view}
use Rattle.pat_cover_certificates.specs.Firsts.{CoversFirst, IsOutside}

abbrev pub Entries : Type 0
Entries = List (Bor (List ℕ) × ℕ)

-- the place that these counts have
abbrev pub place_of : Entries → List ℕ → Option ℕ
place_of entries counts = lookup (λ k. bytes_eq counts k.now) entries

-- the counts have this place now, if they had none; all others stay
abbrev pub AddsBase : Bag → ℕ → Entries → Entries → Type 0
AddsBase base place old new =
    ((q : List ℕ) (p : ℕ) → place_of new q ≡ Some p → (place_of old q ≡ Some p) ⊎ ((q ≡ base.counts) × (p ≡ place)))
    × ((q : List ℕ) (p : ℕ) → place_of old q ≡ Some p → place_of new q ≡ Some p)
    × ((p : ℕ) × (place_of new base.counts ≡ Some p) × ((p ≡ place) ⊎ (place_of old base.counts ≡ Some p)))
    × (length base.counts ≡ 32)

-- the set's place is the last of the others; or the set has no periods, and its base is added
abbrev pub AddsSet : LinearSet → ℕ → Entries → List ℕ → Entries → List ℕ → Type 0
AddsSet set place entries others entries' others' =
    ((entries' ≡ entries) × (others' ≡ others ++ place ∷ []))
    ⊎ ((others' ≡ others) × (length set.periods ≡ 0) × AddsBase set.base place entries entries')

-- at this place is a set that holds these counts alone
abbrev pub HoldsAlone : List LinearSet → ℕ → List ℕ → Type 0
HoldsAlone sets place counts =
    (r : LinearSet) × (slice_get sets place ≡ Some r) × (length r.periods ≡ 0) × (r.base.counts ≡ counts)

-- one of the others stands there, or an earlier place or this one is that of the set's base
abbrev pub IsPlaced : Entries → List ℕ → ℕ → LinearSet → Type 0
IsPlaced entries others i r =
    ((k : ℕ) × (slice_get others k ≡ Some i))
    ⊎ ((p : ℕ) × (place_of entries r.base.counts ≡ Some p) × (p ≤ i) × (length r.periods ≡ 0) × (length r.base.counts ≡ 32))

-- the others are places before the end, in order
abbrev pub AreRising : List ℕ → ℕ → Type 0
AreRising others end =
    ((j : ℕ) (a : ℕ) → slice_get others j ≡ Some a → a < end)
    × ((j k a b : ℕ) → j < k → slice_get others j ≡ Some a → slice_get others k ≡ Some b → a < b)

-- the sets before the end are placed
abbrev pub Indexes : List LinearSet → ℕ → Entries → List ℕ → Type 0
Indexes sets end entries others =
    ((q : List ℕ) (p : ℕ) → place_of entries q ≡ Some p → (p < end) × HoldsAlone sets p q)
    × ((i : ℕ) (r : LinearSet) → i < end → slice_get sets i ≡ Some r → IsPlaced entries others i r)
    × AreRising others end

-- the set lies in none of those that stand at the others' places before the end
abbrev pub AreOutside : ℕ → LinearSet → List LinearSet → List ℕ → ℕ → Type 0
AreOutside n s sets others end =
    (k i : ℕ) (r : LinearSet) → slice_get others k ≡ Some i → i < end → slice_get sets i ≡ Some r → IsOutside n (set_view s) (set_view r)

-- the first of the others before the end in which the set lies, with the first numbers
abbrev pub FindsAmong : ℕ → LinearSet → List LinearSet → List ℕ → ℕ → Option CoverEntry → Type 0
FindsAmong n s sets others end (Some entry) =
    (r : LinearSet) × (slice_get sets entry.set ≡ Some r) × CoversFirst n (entry_view entry) (set_view s) (set_view r) × (entry.set < end)
    × AreOutside n s sets others entry.set
FindsAmong n s sets others end None = AreOutside n s sets others end

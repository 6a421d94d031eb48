-- A closed form along a pattern's right parts: sets that are done, the factor of all that are to come, and the part that they come of.
use Rattle.std.specs.Prelude.{◌≡◌, ◌+◌, ◌≤◌, ◌<◌, Bool, true, false, List, [], ◌∷◌, ◌++◌, length, map, Result, Ok, Err, IsTrue}
use Rattle.pat_words_spec.specs.Patterns.{Pat, Prod}
use Rattle.pat_inclusion_spec.specs.Counts.{most_tags}
use Rattle.pat_inclusion_spec.specs.LinearSets.{LinearSet}
use Rattle.pat_inclusion_spec.specs.ClosedForms.{set_product, sets_of, lists_are_short, is_small}
use Rattle.pat_linear.specs.declared.error.FormError.{FormError}
use Rattle.pat_linear.specs.declared.error.FormError.TheVariants.{TooLarge, NoMemory}
use Rattle.pat_limits.specs.Limits.{most_sets}

-- the product of the left parts with the rest behind them
abbrev pub along : List Pat → Pat → Pat
along [] e = e
along (l ∷ ls) e = Prod l (along ls e)

-- the sets are appended, or they are too many, or one of the lists on the way is too long, or no memory
abbrev pub Appends : Result Unit FormError → Bool → List LinearSet → List LinearSet → List LinearSet → Type 0
Appends (Ok _) short more old new = (new ≡ old ++ more) × IsTrue short × (length new ≤ most_sets)
Appends (Err TooLarge) short more old new = IsTrue short → most_sets < length old + length more
Appends (Err NoMemory) short more old new = Unit {0}

-- the factor is multiplied with the only one of the sets, or stays, or a list on the way is too long, or no memory
abbrev pub Multiplies : Result Bool FormError → Bool → List LinearSet → LinearSet → LinearSet → Type 0
Multiplies (Ok true) short sets old new = (a : LinearSet) × (sets ≡ a ∷ []) × (new ≡ set_product most_tags old a) × IsTrue short
Multiplies (Ok false) short sets old new = new ≡ old
Multiplies (Err TooLarge) short sets old new = short ≡ false
Multiplies (Err NoMemory) short sets old new = Unit {0}

-- the sets that are done and the factor with those of the rest are the sets of the whole
pub record IsAlong (whole rest : Pat) (factor : LinearSet) (done : List LinearSet) : Type 0 where
  pub lefts : List Pat
  pub behind : (e : Pat) → sets_of most_tags (along lefts e) ≡ map (set_product most_tags factor) (sets_of most_tags e)
  pub keeps : (e : Pat) → lists_are_short most_tags e ≡ true → length (sets_of most_tags e) ≤ most_sets → lists_are_short most_tags (along lefts e) ≡ true
  pub small : is_small (along lefts rest) ≡ true
  pub sets : sets_of most_tags whole ≡ done ++ map (set_product most_tags factor) (sets_of most_tags rest)
  pub down : lists_are_short most_tags whole ≡ true → lists_are_short most_tags rest ≡ true
  pub up : lists_are_short most_tags rest ≡ true → length done + length (sets_of most_tags rest) ≤ most_sets → lists_are_short most_tags whole ≡ true

-- What is made of lists of sets, if it is not too large.
use Rattle.std.specs.Prelude.{◌≡◌, ℕ, ◌<◌, ◌^◌, Bool, true, false, List, [], ◌∷◌, ◌++◌, Option, Some, None, Result, Ok, Err, IsTrue}
use Rattle.pat_words_spec.specs.Words.{one}
use Rattle.pat_inclusion_spec.specs.LinearSets.{LinearSet, linear_set, SetsWithin}
use Rattle.pat_inclusion_spec.specs.ClosedForms.{only_empty, products, times_stars, is_short, stars_are_short, SetsClean}
use Rattle.pat_patterns.specs.declared.postfix_form.Head.{Head}
use Rattle.pat_patterns.specs.declared.postfix_form.Head.TheVariants.{Zero, One, Tag, Var, Sum, Prod, Star}
use Rattle.pat_linear.specs.declared.set.LinearSet.{LinearSet as CodeSet}
use Rattle.pat_linear.specs.declared.error.FormError.{FormError}
use Rattle.pat_linear.specs.declared.error.FormError.TheVariants.{TooLarge, NoMemory}
use Rattle.pat_linear.specs.Views.{sets_view}
use Rattle.pat_linear.specs.Rooms.{HaveRoom}

-- the list, or that it is too large, or no memory
abbrev pub GivesSets : Result (List CodeSet) FormError → Bool → List LinearSet → Type 0
GivesSets (Ok sets) short list = (sets_view sets ≡ list) × IsTrue short
GivesSets (Err TooLarge) short list = short ≡ false
GivesSets (Err NoMemory) short list = Unit {0}

-- the form, or that there is none, or no memory
abbrev pub GivesForm : Result (List CodeSet) FormError → Option (List LinearSet) → Type 0
GivesForm (Ok sets) form = form ≡ Some (sets_view sets)
GivesForm (Err TooLarge) form = form ≡ None
GivesForm (Err NoMemory) form = Unit {0}

-- the forms after a head: those of its parts, which are on top, give way to that of the whole
abbrev pub after : ℕ → Head → List (List LinearSet) → List (List LinearSet)
after n Zero forms = [] ∷ forms
after n One forms = (only_empty ∷ []) ∷ forms
after n (Tag m) forms = (linear_set (one m) [] ∷ []) ∷ forms
after n (Var k) forms = [] ∷ forms
after n Sum (b ∷ a ∷ forms) = (a ++ b) ∷ forms
after n Prod (b ∷ a ∷ forms) = products n a b ∷ forms
after n Star (a ∷ forms) = times_stars n (only_empty ∷ []) a ∷ forms
after n _ _ = []

-- each list that is made on the way there is short
abbrev pub after_is_short : ℕ → Head → List (List LinearSet) → Bool
after_is_short n Sum (b ∷ a ∷ forms) = is_short (a ++ b)
after_is_short n Prod (b ∷ a ∷ forms) = is_short (products n a b)
after_is_short n Star (a ∷ forms) = stars_are_short n (only_empty ∷ []) a
after_is_short n _ _ = true

-- the head's parts are there, and no count passes what fits
abbrev pub CanJoin : ℕ → Head → List (List LinearSet) → Type 0
CanJoin n (Tag m) forms = m < 32
CanJoin n Sum (b ∷ a ∷ forms) = Unit {0}
CanJoin n Prod (b ∷ a ∷ forms) = HaveRoom a b
CanJoin n Star (a ∷ forms) = SetsWithin (2 ^ 27) (2 ^ 27) a × SetsClean n a
CanJoin n Sum _ = ⊥
CanJoin n Prod _ = ⊥
CanJoin n Star _ = ⊥
CanJoin n _ forms = Unit {0}

-- the forms after the head are there, or what would be made is too large, or no memory
abbrev pub Joins : ℕ → Head → Result Unit FormError → List (List LinearSet) → List (List LinearSet) → Type 0
Joins n head (Ok _) old new = (new ≡ after n head old) × IsTrue (after_is_short n head old)
Joins n head (Err TooLarge) old new = after_is_short n head old ≡ false
Joins n head (Err NoMemory) old new = Unit {0}

-- the list is on top of the rest, or it is too large, or no memory
abbrev pub GivesTop : Result Unit FormError → Bool → List LinearSet → List (List LinearSet) → List (List LinearSet) → Type 0
GivesTop (Ok _) short list rest new = (new ≡ list ∷ rest) × IsTrue short
GivesTop (Err TooLarge) short list rest new = short ≡ false
GivesTop (Err NoMemory) short list rest new = Unit {0}

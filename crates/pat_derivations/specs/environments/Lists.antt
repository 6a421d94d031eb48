-- Environments and lists of names, where what is looked up stands in lists.
use Rattle.std.specs.Prelude.{ℕ, ◌≤◌, ◌<◌, length, get_or, not, nat_eq, if◌then◌else◌, List, [], ◌∷◌, ◌++◌, map, filter}
use Rattle.pat_semantics_spec.specs.Programs.{is_among}
use Rattle.pat_type_system_spec.specs.Types.{Returnable, mailbox_type}
use Rattle.pat_type_schemes_spec.specs.NodeTypes.{Needs}

-- the entries but that of x
abbrev pub without_entry : ℕ → Needs → Needs
without_entry x needs = filter (λ e. not (nat_eq x e.0)) needs

-- the entries, taken as returnable
abbrev pub returnable_entries : Needs → Needs
returnable_entries needs =
    map (λ e. (e.0, mailbox_type e.1.interface e.1.polarity e.1.pattern Returnable)) needs

-- those of the second list that are not in the first
abbrev pub others_in : List ℕ → List ℕ → List ℕ
others_in xs [] = []
others_in xs (y ∷ ys) = if is_among y xs then others_in xs ys else y ∷ others_in xs ys

-- the names of the first list, and then those of the second that are not in it
abbrev pub with_others : List ℕ → List ℕ → List ℕ
with_others xs ys = xs ++ others_in xs ys

-- no number is lower than one before it
abbrev pub NeverFalls : List ℕ → Type 0
NeverFalls ks = (i j : ℕ) → i ≤ j → j < length ks → get_or ks i 0 ≤ get_or ks j 0

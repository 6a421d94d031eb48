-- Constraints of one interface, written out.
use Rattle.std.specs.Prelude.{List, [], ◌∷◌}
use Rattle.pat_words_spec.specs.Patterns.{Pat, One, Tag, Prod, Star, Var}
use Rattle.pat_infer_spec.specs.Constraints.{AtNode, Constraint, constraint}

-- a constraint of interface 0
abbrev pub lies_in : Pat → Pat → Constraint
lies_in e f = constraint 0 e f (AtNode 0)

-- one variable that is nothing, or itself and one message more
abbrev pub alone : List Constraint
alone = lies_in One (Var 1) ∷ lies_in (Prod (Var 1) (Tag 0)) (Var 1) ∷ []

-- two that need one another
abbrev pub in_a_ring : List Constraint
in_a_ring =
    lies_in One (Var 1) ∷ lies_in (Prod (Var 2) (Tag 0)) (Var 1) ∷ lies_in (Prod (Var 1) (Tag 1)) (Var 2) ∷ lies_in (Var 2) (Star (Tag 0)) ∷ []

-- each needs the next one
abbrev pub in_a_row : List Constraint
in_a_row = lies_in (Var 2) (Var 1) ∷ lies_in (Prod (Var 3) (Tag 0)) (Var 2) ∷ lies_in (Tag 1) (Var 3) ∷ []

-- the third needs the first, whose value names the second
abbrev pub by_way_of_the_second : List Constraint
by_way_of_the_second = lies_in (Prod (Var 2) (Tag 0)) (Var 1) ∷ lies_in (Tag 1) (Var 2) ∷ lies_in (Var 1) (Var 3) ∷ []

-- right sides that aren't flat, or of several degrees
abbrev pub with_rights : List Pat → List Constraint
with_rights [] = []
with_rights (f ∷ fs) = lies_in One f ∷ with_rights fs

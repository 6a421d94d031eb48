-- The closed-form assignment of an interface: its variables eliminated one after another, and put in again from the last one on.
-- With it, each pattern that is made on the way, since the assignment is too large where one of them is.
use Rattle.std.specs.Prelude.{ℕ, suc, Bool, ◌&&◌, nat_eq, max, if◌then◌else◌, List, [], ◌∷◌, ◌++◌, map, filter, Option, Some, None, is_some}
use Rattle.std.specs.Map.{lookup}
use Rattle.std.specs.List.{list_all, flat_map}
use Rattle.pat_words_spec.specs.Patterns.{Pat, Zero, One, Sum, Prod, Star, Var, is_closed, sum_of, prod_of, star_of, subst_of}
use Rattle.pat_words_spec.specs.Flats.{is_flat, degree_of}
use Rattle.pat_inclusion_spec.specs.ClosedForms.{closed_form, is_small}
use Rattle.pat_inclusion_spec.specs.Points.{grid_fits}
use Rattle.pat_infer_spec.specs.Signatures.{Variable}
use Rattle.pat_infer_spec.specs.Constraints.{Constraint}
use Rattle.pat_solve_spec.specs.LowerBounds.{lowers}

-- the variables of the interface, ascending, where the first of all has number k
abbrev pub vars_in : ℕ → ℕ → List Variable → List ℕ
vars_in i k [] = []
vars_in i k (v ∷ vs) = if nat_eq v.interface i then k ∷ vars_in i (suc k) vs else vars_in i (suc k) vs

-- ---- replacing

-- variable k replaced by e
abbrev pub put_one : ℕ → Pat → Pat → Pat
put_one k e f = subst_of (λ j. if nat_eq j k then e else Var j) f

-- values of variables, in ascending order of variable
abbrev pub Values : Type 0
Values = List (ℕ × Pat)

-- the variables replaced one after another: a value may have variables that are replaced after it
abbrev pub put_in_turn : Values → Pat → Pat
put_in_turn [] f = f
put_in_turn (v ∷ vs) f = put_in_turn vs (put_one v.0 v.1 f)

-- what each single replacement makes
abbrev pub made_in_turn : Values → Pat → List Pat
made_in_turn [] f = []
made_in_turn (v ∷ vs) f = put_one v.0 v.1 f ∷ made_in_turn vs (put_one v.0 v.1 f)

-- the derivative by variable k
abbrev pub derivative : ℕ → Pat → Pat
derivative k (Var j) = if nat_eq j k then One else Zero
derivative k (Sum e f) = sum_of (derivative k e) (derivative k f)
derivative k (Prod e f) = sum_of (prod_of (derivative k e) f) (prod_of e (derivative k f))
derivative k (Star e) = prod_of (star_of e) (derivative k e)
derivative k _ = Zero

-- ---- the two rounds

-- the pattern without the variable
abbrev pub base_of : ℕ → Pat → Pat
base_of k f = put_one k Zero f

-- the derivative, with that in place of the variable
abbrev pub slope_of : ℕ → Pat → Pat
slope_of k f = put_one k (base_of k f) (derivative k f)

-- the least solution for variable k of "f lies in it"
abbrev pub solved_for : ℕ → Pat → Pat
solved_for k f = prod_of (star_of (slope_of k f)) (base_of k f)

-- the first round: the variables in ascending order, where these have been solved
abbrev pub first_round : List Constraint → Values → List ℕ → Values
first_round cs done [] = done
first_round cs done (k ∷ ks) =
    first_round cs (done ++ (k, solved_for k (put_in_turn done (lowers cs k))) ∷ []) ks

-- what is made of one variable
abbrev pub made_for : List Constraint → Values → ℕ → List Pat
made_for cs done k =
    let f = put_in_turn done (lowers cs k) in
    lowers cs k ∷ made_in_turn done (lowers cs k) ++ base_of k f ∷ derivative k f ∷ slope_of k f ∷ solved_for k f ∷ []

-- what the first round makes
abbrev pub made_first : List Constraint → Values → List ℕ → List Pat
made_first cs done [] = []
made_first cs done (k ∷ ks) =
    made_for cs done k ++ made_first cs (done ++ (k, solved_for k (put_in_turn done (lowers cs k))) ∷ []) ks

-- the second round: from the last variable on, the later ones are replaced
abbrev pub second_round : Values → Values
second_round [] = []
second_round (v ∷ vs) = (v.0, put_in_turn (second_round vs) v.1) ∷ second_round vs

-- what the second round makes
abbrev pub made_second : Values → List Pat
made_second [] = []
made_second (v ∷ vs) = made_in_turn (second_round vs) v.1 ++ made_second vs

-- the assignment of the variables ks by the constraints of their interface
abbrev pub assigned : List Constraint → List ℕ → Values
assigned cs ks = second_round (first_round cs [] ks)

-- a value, if there is one
abbrev pub value_or_zero : Option Pat → Pat
value_or_zero None = Zero
value_or_zero (Some e) = e

-- the value of each variable
abbrev pub value_in : Values → ℕ → Pat
value_in vs k = value_or_zero (lookup (nat_eq k) vs)

-- both sides of each constraint, replaced
abbrev pub sides_under : (ℕ → Pat) → List Constraint → List Pat
sides_under values cs = flat_map (λ c. subst_of values c.left ∷ subst_of values c.right ∷ []) cs

-- each pattern that is made on the way
abbrev pub made : List Constraint → List ℕ → List Pat
made cs ks =
    made_first cs [] ks ++ (made_second (first_round cs [] ks) ++ sides_under (value_in (assigned cs ks)) cs)

-- no pattern on the way is too large, nor the closed form of a constraint's side; n is the interface's number of tags
abbrev pub assignment_fits : ℕ → List Constraint → List ℕ → Bool
assignment_fits n cs ks =
    list_all is_small (made cs ks)
    && list_all (λ e. is_some (closed_form n e)) (sides_under (value_in (assigned cs ks)) cs)

-- ---- bounds

-- the right sides without variables
abbrev pub closed_rights : List Constraint → List Pat
closed_rights cs = filter is_closed (map (λ c. c.right) cs)

-- the greatest degree
abbrev pub greatest_degree : List Pat → ℕ
greatest_degree [] = 0
greatest_degree (e ∷ es) = max (degree_of e) (greatest_degree es)

-- one more than it; 1 where there is no pattern
abbrev pub bound_of : List Constraint → ℕ
bound_of cs = suc (greatest_degree (closed_rights cs))

-- the interface of n tags with these constraints is in bounds: each right side without variables is flat, and the grid is one that is
-- worked with
abbrev pub is_in_bounds : ℕ → List Constraint → Bool
is_in_bounds n cs = list_all is_flat (closed_rights cs) && grid_fits (bound_of cs) n

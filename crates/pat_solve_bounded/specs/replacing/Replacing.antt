-- What replacing is still to do, and what it makes in the end.
use Rattle.std.specs.Prelude.{◌≡◌, ℕ, false, ◌+◌, ◌*◌, nat_eq, if◌then◌else◌, List, [], ◌∷◌, length, Option}
use Rattle.std.specs.Map.{lookup}
use Rattle.std.specs.Option.{unwrap_or}
use Rattle.pat_words_spec.specs.Patterns.{Pat, Var, subst_of}
use Rattle.pat_words_spec.specs.Sizes.{size_of}
use Rattle.pat_patterns.specs.Views.{pattern_view}
use Rattle.pat_solve_spec.specs.Assignments.{Values, value_in}
use Rattle.pat_solve_bounded.specs.Limits.{within, sum_within, prod_within, star_within}
use Rattle.pat_solve_bounded.specs.Variables.{has_var}
use Rattle.pat_solve_bounded.specs.Views.{measured_view, measured_list}
use Rattle.pat_solve_bounded.specs.replacing.Ascending.{paired, IsAscending}
use Rattle.pat_solve_bounded.specs.replacing.Stacks.{joined, joined_one}
use Rattle.pat_solve_bounded.specs.declared.replacing.replacement.Replacement.{Replacement}
use Rattle.pat_solve_bounded.specs.declared.replacing.replacement.Replacement.TheVariants.{One, All, Listed}
use Rattle.pat_solve_bounded.specs.declared.replacing.replacing.Task.{Task}
use Rattle.pat_solve_bounded.specs.declared.replacing.replacing.Task.TheVariants.{Visit, Sum as SumTask, Product as ProductTask, Star as StarTask}

-- the value of each variable that has one; all others stay
abbrev pub listed_in : Values → ℕ → Pat
listed_in vs k = unwrap_or (lookup (nat_eq k) vs) (Var k)

-- what each variable gives way to
abbrev pub replaced_by : Replacement → ℕ → Pat
replaced_by (One k v) = λ j. if nat_eq j k then measured_view v.now else Var j
replaced_by (All ks vs) = λ j. value_in (paired ks.now (measured_list vs.now)) j
replaced_by (Listed ks vs) = λ j. listed_in (paired ks.now (measured_list vs.now)) j

-- where all are replaced, they ascend, and there are as many values
abbrev pub IsReplacement : Replacement → Type 0
IsReplacement (One k v) = Unit {0}
IsReplacement (All ks vs) = IsAscending ks.now × (length ks.now ≡ length vs.now)
IsReplacement (Listed ks vs) = IsAscending ks.now × (length ks.now ≡ length vs.now)

-- the pattern has no variable, and is as the simplifying forms make it
abbrev pub Stays : Pat → Type 0
Stays e = ((values : ℕ → Pat) → subst_of values e ≡ e) × ((k : ℕ) → has_var k e ≡ false)

-- what is made once the tasks are done
abbrev pub outcome : (ℕ → Pat) → List Task → List (Option Pat) → List (Option Pat)
outcome values [] made = made
outcome values (Visit p ∷ tasks) made = outcome values tasks (within (subst_of values (pattern_view p.now)) ∷ made)
outcome values (SumTask ∷ tasks) made = outcome values tasks (joined sum_within made)
outcome values (ProductTask ∷ tasks) made = outcome values tasks (joined prod_within made)
outcome values (StarTask ∷ tasks) made = outcome values tasks (joined_one star_within made)

-- how much there is to do
abbrev pub work : List Task → ℕ
work [] = 0
work (Visit p ∷ tasks) = 2 * size_of (pattern_view p.now) + work tasks
work (SumTask ∷ tasks) = 1 + work tasks
work (ProductTask ∷ tasks) = 1 + work tasks
work (StarTask ∷ tasks) = 1 + work tasks

-- What a choice or a guard needs of a variable, from what its branches need.
use Rattle.std.specs.Prelude.{ℕ, Bool, true, false, not, ◌&&◌, ◌||◌, if◌then◌else◌, List, [], ◌∷◌, Option, Some, None, map}
use Rattle.std.specs.Map.{keys_of}
use Rattle.pat_words_spec.specs.Patterns.{Pat, One, Var, pat_eq, sum_of}
use Rattle.pat_semantics_spec.specs.Programs.{Polarity, Sending, Receiving, Clause, clause_binders}
use Rattle.pat_type_system_spec.specs.Types.{Usage, Second, Returnable, MailboxType, mailbox_type}
use Rattle.pat_type_schemes_spec.specs.NodeTypes.{Needs, need_of}
use Rattle.pat_type_schemes_spec.specs.Compared.{is_receiver, is_second}
use Rattle.pat_infer_spec.specs.Constraints.{AtNode, Constraint, constraint}
use Rattle.pat_infer_spec.specs.Needs.{Combined, just, needs_but, add_all}
use Rattle.pat_infer_spec.specs.BothParts.{new_var}

-- a branch: its body, and the clause that it is the body of, if it is that of a receive clause
pub record Branch : Type 0 where
  pub body : ℕ
  pub clause : Option Clause

-- a branch that has been walked: its clause, and what its body needs
pub record Arm : Type 0 where
  pub clause : Option Clause
  pub needs : Needs

-- the names that a branch binds
abbrev pub own_names : Option Clause → List ℕ
own_names None = []
own_names (Some r) = clause_binders r

-- what a branch needs of the variables that aren't its own names
abbrev pub outer_needs : Arm → Needs
outer_needs a = needs_but (own_names a.clause) a.needs

-- the variables that some branch needs, in ascending order
abbrev pub arm_names : List Arm → List ℕ
arm_names [] = []
arm_names (a ∷ arms) = add_all (keys_of (outer_needs a)) (arm_names arms)

-- what each branch needs of x
abbrev pub arm_needs : ℕ → List Arm → List (Option MailboxType)
arm_needs x arms = map (λ a. need_of (outer_needs a) x) arms

-- whether the need is there and receiving
abbrev pub receives_need : Option MailboxType → Bool
receives_need None = false
receives_need (Some a) = is_receiver a.polarity

-- whether one of the needs is receiving
abbrev pub some_receive : List (Option MailboxType) → Bool
some_receive [] = false
some_receive (o ∷ os) = receives_need o || some_receive os

-- whether all of the needs are receiving
abbrev pub all_receive : List (Option MailboxType) → Bool
all_receive [] = true
all_receive (o ∷ os) = receives_need o && all_receive os

-- what one branch receives from, each of them receives from
abbrev pub branches_agree : List (Option MailboxType) → Bool
branches_agree os = not (some_receive os) || all_receive os

-- whether the need is there and returnable
abbrev pub returns_need : Option MailboxType → Bool
returns_need None = false
returns_need (Some a) = not (is_second a.usage)

-- whether one of the needs is returnable
abbrev pub some_return : List (Option MailboxType) → Bool
some_return [] = false
some_return (o ∷ os) = returns_need o || some_return os

-- returnable where some branch needs it so
abbrev pub branch_usage : List (Option MailboxType) → Usage
branch_usage os = if some_return os then Returnable else Second

-- the pattern of a need, and 1 where there is none
abbrev pub pattern_or_one : Option MailboxType → Pat
pattern_or_one None = One
pattern_or_one (Some a) = a.pattern

-- a pattern and those of needs, added up in order
abbrev pub sum_on : Pat → List (Option MailboxType) → Pat
sum_on e [] = e
sum_on e (o ∷ os) = sum_on (sum_of e (pattern_or_one o)) os

-- the sum of the patterns of needs
abbrev pub sum_of_needs : List (Option MailboxType) → Pat
sum_of_needs [] = One
sum_of_needs (o ∷ os) = sum_on (pattern_or_one o) os

-- whether each of the needs has this pattern
abbrev pub all_by : Pat → List (Option MailboxType) → Bool
all_by e [] = true
all_by e (o ∷ os) = pat_eq e (pattern_or_one o) && all_by e os

-- what comes is a word of each need
abbrev pub each_receives : ℕ → ℕ → ℕ → List (Option MailboxType) → List Constraint
each_receives n k i [] = []
each_receives n k i (None ∷ os) = each_receives n k i os
each_receives n k i (Some a ∷ os) = constraint i (Var k) a.pattern (AtNode n) ∷ each_receives n k i os

-- the first need that is there
abbrev pub first_need : List (Option MailboxType) → Option MailboxType
first_need [] = None
first_need (None ∷ os) = first_need os
first_need (Some a ∷ os) = Some a

-- what is needed where all receive: the same pattern, or a new one that is in each
abbrev pub received_in : ℕ → ℕ → ℕ → MailboxType → List (Option MailboxType) → Option Combined
received_in n k x a os =
    if all_by a.pattern os
    then just (mailbox_type a.interface Receiving a.pattern (branch_usage os))
    else Some (record {
      need = mailbox_type a.interface Receiving (Var k) (branch_usage os);
      vars = new_var n x a.interface ∷ [];
      constraints = each_receives n k a.interface os;
    })

-- what is needed of x where the first branch that needs it needs it so
abbrev pub branches_with : ℕ → ℕ → ℕ → Polarity → MailboxType → List (Option MailboxType) → Option Combined
branches_with n k x Sending a os = just (mailbox_type a.interface Sending (sum_of_needs os) (branch_usage os))
branches_with n k x Receiving a os = received_in n k x a os

-- the same, if some branch needs it
abbrev pub branches_by : ℕ → ℕ → ℕ → Option MailboxType → List (Option MailboxType) → Option Combined
branches_by n k x None os = None
branches_by n k x (Some a) os = branches_with n k x a.polarity a os

-- what node n needs of x, where a new variable has number k
abbrev pub branches : ℕ → ℕ → ℕ → List (Option MailboxType) → Option Combined
branches n k x os = branches_by n k x (first_need os) os

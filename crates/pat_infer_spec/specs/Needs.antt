-- What a term needs of its variables, taken together variable by variable.
use Rattle.std.specs.Prelude.{ℕ, suc, ◌+◌, not, nat_eq, nat_lt, if◌then◌else◌, List, [], ◌∷◌, ◌++◌, length, Option, Some, None, map, filter}
use Rattle.std.specs.Map.{keys_of}
use Rattle.pat_semantics_spec.specs.Values.{Expr, VarExpr}
use Rattle.pat_semantics_spec.specs.Programs.{is_among}
use Rattle.pat_type_system_spec.specs.Types.{Second, MailboxType, mailbox_type, TypeEnv}
use Rattle.pat_type_schemes_spec.specs.Signatures.{Variable}
use Rattle.pat_type_schemes_spec.specs.NodeTypes.{Needs}
use Rattle.pat_infer_spec.specs.Constraints.{Constraint}

-- the needs where x is needed so
abbrev pub put : ℕ → MailboxType → Needs → Needs
put x a [] = (x, a) ∷ []
put x a (e ∷ needs) =
    if nat_lt x e.0 then (x, a) ∷ e ∷ needs else if nat_eq x e.0 then (x, a) ∷ needs else e ∷ put x a needs

-- the needs where x is needed so, if it is needed
abbrev pub put_option : ℕ → Option MailboxType → Needs → Needs
put_option x None needs = needs
put_option x (Some a) needs = put x a needs

-- what arguments need, where the places from k on have these types
abbrev pub args_needs : TypeEnv → ℕ → List Expr → Needs
args_needs types k [] = []
args_needs types k (VarExpr x ∷ es) = put_option x (types k) (args_needs types (suc k) es)
args_needs types k (_ ∷ es) = args_needs types (suc k) es

-- the needs without these variables
abbrev pub needs_but : List ℕ → Needs → Needs
needs_but xs needs = filter (λ e. not (is_among e.0 xs)) needs

-- the needs, taken as second-class
abbrev pub needs_second : Needs → Needs
needs_second needs = map (λ e. (e.0, mailbox_type e.1.interface e.1.polarity e.1.pattern Second)) needs

-- the numbers with one more, in ascending order, each once
abbrev pub add : ℕ → List ℕ → List ℕ
add x [] = x ∷ []
add x (z ∷ zs) = if nat_lt x z then x ∷ z ∷ zs else if nat_eq x z then z ∷ zs else z ∷ add x zs

-- the numbers with more of them
abbrev pub add_all : List ℕ → List ℕ → List ℕ
add_all [] zs = zs
add_all (x ∷ xs) zs = add x (add_all xs zs)

-- the variables that one of two parts needs, in ascending order
abbrev pub names_of_two : Needs → Needs → List ℕ
names_of_two m n = add_all (keys_of m) (add_all (keys_of n) [])

-- what is needed of one variable, taken together: the need, and the new variables and constraints that come with it
pub record Combined : Type 0 where
  pub need : MailboxType
  pub vars : List Variable
  pub constraints : List Constraint

-- a need that comes with nothing
abbrev pub just : MailboxType → Option Combined
just a = Some (record { need = a; vars = []; constraints = [] })

-- what is needed of several variables, taken together
pub record Gathered : Type 0 where
  pub needs : Needs
  pub vars : List Variable
  pub constraints : List Constraint

-- the new variables that come with a need
abbrev pub vars_with : Option Combined → List Variable
vars_with None = []
vars_with (Some c) = c.vars

-- the constraints that come with a need
abbrev pub constraints_with : Option Combined → List Constraint
constraints_with None = []
constraints_with (Some c) = c.constraints

-- the need, if there is one, before others
abbrev pub need_before : ℕ → Option Combined → Needs → Needs
need_before x None needs = needs
need_before x (Some c) needs = (x, c.need) ∷ needs

-- each of the variables in order, where new variables of patterns are numbered from k
abbrev pub gather : (ℕ → ℕ → Option Combined) → ℕ → List ℕ → Gathered
gather combine k [] = record { needs = []; vars = []; constraints = [] }
gather combine k (x ∷ xs) =
    let rest = gather combine (k + length (vars_with (combine k x))) xs in
    record {
      needs = need_before x (combine k x) rest.needs;
      vars = vars_with (combine k x) ++ rest.vars;
      constraints = constraints_with (combine k x) ++ rest.constraints;
    }

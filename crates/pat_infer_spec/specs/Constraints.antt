-- What inference finds: broken rules, variables, constraints, and the type and the needs of each node.
use Rattle.std.specs.Prelude.{ℕ, Bool, true, false, List, [], ◌∷◌, ◌++◌}
use Rattle.pat_words_spec.specs.Patterns.{Pat}
use Rattle.pat_type_schemes_spec.specs.NodeTypes.{Needs, NodeType}
use Rattle.pat_type_schemes_spec.specs.Signatures.{Variable}

-- a place in a program: a node, or the name that binds a variable of a function
pub data Place : Type 0 where
  AtNode : (node : ℕ) → Place
  AtName : (function variable : ℕ) → Place

-- the rules; where a term breaks several, the first of this list is named
pub data Rule : Type 0 where
  -- a call or a send is given no mailbox more than once
  AliasRule : Rule
  -- what the bound part of a let needs as returnable, its body doesn't need; and no clause of a guard needs the guarded variable
  OrderRule : Rule
  -- not both parts of a let receive
  DoubleRule : Rule
  -- what one branch receives from, each of them receives from
  BranchRule : Rule
  -- a clause with a mailbox among its payloads needs its own names alone
  PayloadRule : Rule
  -- the clauses of a guard cover its pattern
  CoversRule : Rule
  -- a name of receiving type is needed
  UnusedRule : Rule
  -- a name is needed with its own polarity; a new mailbox is asked for as receiving; a call's result has the polarity that it is asked for
  PolarityRule : Rule
  -- a second-class name isn't needed as returnable
  SecondRule : Rule

-- a rule that is broken, and where
pub record Finding : Type 0 where
  pub rule : Rule
  pub at : Place

-- a finding unless the test passes
abbrev pub unless : Bool → Rule → Place → List Finding
unless true r at = []
unless false r at = record { rule = r; at = at } ∷ []

-- the same for each element
abbrev pub each_unless : {A : Type 0} → (A → Bool) → Rule → (A → Place) → List A → List Finding
each_unless test r at [] = []
each_unless test r at (x ∷ xs) = unless (test x) r (at x) ++ each_unless test r at xs

-- a constraint: each word of the left pattern is one of the right, which is one variable or has none
pub record Constraint : Type 0 where
  pub interface : ℕ
  pub left : Pat
  pub right : Pat
  pub at : Place

-- the constraint with these parts
abbrev pub constraint : ℕ → Pat → Pat → Place → Constraint
constraint i e f at = record { interface = i; left = e; right = f; at = at }

-- what the walk of a term finds: what the term needs, its own new variables, its own constraints, its own nodes, and each
-- rule that is broken in it. Only the first finding counts: what is found behind it may follow from it
pub record Found : Type 0 where
  pub needs : Needs
  pub vars : List Variable
  pub constraints : List Constraint
  pub nodes : List (ℕ × NodeType)
  pub findings : List Finding

-- nothing is found
abbrev pub nothing_found : Found
nothing_found = record { needs = []; vars = []; constraints = []; nodes = []; findings = [] }

-- What names stand for, and the kinds of expressions.
use Rattle.std.specs.Prelude.{ℕ, zero, suc, Bool, true, false, List, [], ◌∷◌, Option, Some, None, option_map, bytes_eq, nat_eq, if◌then◌else◌}
use Rattle.std.specs.List.{list_any}
use Rattle.pat_semantics_spec.specs.Values.{Base, BaseUnit, BaseBool, BaseInt, BaseText, Kind, Plain, MailboxOf, Op, Add, Sub, Mul, Equal, Less}
use Rattle.pat_parser_spec.specs.Trees as tree

-- the first that is named so, with its number
abbrev pub first_named : {A : Type 0} → (A → List ℕ) → List ℕ → List A → Option (ℕ × A)
first_named name x [] = None
first_named name x (a ∷ rest) = if bytes_eq (name a) x then Some (zero, a) else option_map (λ f. (suc f.0, f.1)) (first_named name x rest)

-- a name as the name of itself
abbrev pub itself : List ℕ → List ℕ
itself x = x

-- the number of what was found; 0 where nothing was
abbrev pub number_found : {A : Type 0} → Option (ℕ × A) → ℕ
number_found None = 0
number_found (Some f) = f.0

-- whether the name is one of these
abbrev pub is_one_of : List ℕ → List (List ℕ) → Bool
is_one_of x names = list_any (λ y. bytes_eq y x) names

-- a variable in scope: its name, its number in its function, and its kind
pub record Variable : Type 0 where
  pub name : List ℕ
  pub number : ℕ
  pub kind : Kind

abbrev pub variable : List ℕ → ℕ → Kind → Variable
variable x n k = record { name = x; number = n; kind = k }

-- the variables in scope, the innermost first
abbrev pub Scope : Type 0
Scope = List Variable

-- what a name stands for: the innermost variable of that name
abbrev pub variable_of : Scope → List ℕ → Option Variable
variable_of [] x = None
variable_of (v ∷ scope) x = if bytes_eq v.name x then Some v else variable_of scope x

-- the kind of ()
abbrev pub unit_kind : Kind
unit_kind = Plain BaseUnit

-- names in a row get the numbers from n on, and the kinds in order; where a kind is wanting, that of ()
abbrev pub bind_names : ℕ → List tree.Name → List Kind → Scope → Scope
bind_names n [] ks scope = scope
bind_names n (x ∷ xs) [] scope = bind_names (suc n) xs [] (variable x.text n unit_kind ∷ scope)
bind_names n (x ∷ xs) (k ∷ ks) scope = bind_names (suc n) xs ks (variable x.text n k ∷ scope)

-- the kind of a variable; where there is none, that of ()
abbrev pub known_kind : Option Variable → Kind
known_kind None = unit_kind
known_kind (Some v) = v.kind

-- the base type that an operator gives
abbrev pub op_gives : Op → Base
op_gives Add = BaseInt
op_gives Sub = BaseInt
op_gives Mul = BaseInt
op_gives Equal = BaseBool
op_gives Less = BaseBool

-- the kind of an expression
abbrev pub kind_of_expr : Scope → tree.Expr → Kind
kind_of_expr scope (tree.VarExpr x at) = known_kind (variable_of scope x)
kind_of_expr scope (tree.UnitExpr at) = unit_kind
kind_of_expr scope (tree.BoolExpr b at) = Plain BaseBool
kind_of_expr scope (tree.IntExpr n at) = Plain BaseInt
kind_of_expr scope (tree.StrExpr s at) = Plain BaseText
kind_of_expr scope (tree.OpExpr op a b at) = Plain (op_gives op)

-- the place of an expression
abbrev pub expr_at : tree.Expr → tree.Span
expr_at (tree.VarExpr x at) = at
expr_at (tree.UnitExpr at) = at
expr_at (tree.BoolExpr b at) = at
expr_at (tree.IntExpr n at) = at
expr_at (tree.StrExpr s at) = at
expr_at (tree.OpExpr op a b at) = at

-- the two base types are the same
abbrev pub base_eq : Base → Base → Bool
base_eq BaseUnit BaseUnit = true
base_eq BaseBool BaseBool = true
base_eq BaseInt BaseInt = true
base_eq BaseText BaseText = true
base_eq _ _ = false

-- the two kinds are the same
abbrev pub kind_eq : Kind → Kind → Bool
kind_eq (Plain a) (Plain b) = base_eq a b
kind_eq (MailboxOf i) (MailboxOf j) = nat_eq i j
kind_eq _ _ = false

-- the kinds that are printed and compared: an integer, a truth value, a text
abbrev pub is_shown : Kind → Bool
is_shown (Plain BaseBool) = true
is_shown (Plain BaseInt) = true
is_shown (Plain BaseText) = true
is_shown _ = false

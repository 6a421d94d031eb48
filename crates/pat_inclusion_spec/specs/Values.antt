-- Values of pattern variables: a pattern, or a set of points of a grid.
use Rattle.std.specs.Prelude.{ℕ, zero, suc, Bool, true, false, ◌&&◌, nat_eq, nat_lt, List, Option, Some, None, slice_get}
use Rattle.std.specs.List.{list_all}
use Rattle.pat_words_spec.specs.Patterns.{Pat, Zero, One, Tag, Sum, Prod, Star, Var, is_closed, subst_of}
use Rattle.pat_words_spec.specs.Tags.{tags_below}
use Rattle.pat_inclusion_spec.specs.Points.{points_fit, points_pattern}

-- a value: a pattern, or the words that are cut at the bound to one of these points
pub data VarValue : Type 0 where
  PatternForm : (pattern : Pat) → VarValue
  GridForm : (bound : ℕ) → (points : List (List ℕ)) → VarValue

-- a variable: its interface and its value
pub record VarLine : Type 0 where
  pub interface : ℕ
  pub value : VarValue

-- the variable with this number; they are numbered from 1
abbrev pub var_at : List VarLine → ℕ → Option VarLine
var_at vars zero = None
var_at vars (suc k) = slice_get vars k

-- how many tags each interface has, and the values of the variables
pub record Scope : Type 0 where
  pub tags : ℕ → ℕ
  pub vars : List VarLine

-- the pattern of a value, for an interface of n tags
abbrev pub value_pattern : ℕ → VarValue → Pat
value_pattern n (PatternForm e) = e
value_pattern n (GridForm k points) = points_pattern k n points

-- the pattern of a variable, if there is one
abbrev pub line_pattern : (ℕ → ℕ) → Option VarLine → Pat
line_pattern tags None = Zero
line_pattern tags (Some v) = value_pattern (tags v.interface) v.value

-- the pattern of each variable
abbrev pub pattern_of : Scope → ℕ → Pat
pattern_of s k = line_pattern s.tags (var_at s.vars k)

-- the pattern in which each variable is replaced, and nothing simplified: a pattern without variables stays as it is. `subst_of`
-- replaces by the simplifying forms
abbrev pub replaced : (ℕ → Pat) → Pat → Pat
replaced values Zero = Zero
replaced values One = One
replaced values (Tag m) = Tag m
replaced values (Sum e f) = Sum (replaced values e) (replaced values f)
replaced values (Prod e f) = Prod (replaced values e) (replaced values f)
replaced values (Star e) = Star (replaced values e)
replaced values (Var k) = values k

-- the pattern in which each variable is replaced by its pattern, and nothing simplified
abbrev pub filled : Scope → Pat → Pat
filled s e = replaced (pattern_of s) e

-- the pattern of variable k where its value is a pattern, and otherwise the variable
abbrev pub plain_or_var : ℕ → Option VarLine → Pat
plain_or_var k None = Var k
plain_or_var k (Some v) = plain_by v.value
  where
    plain_by : VarValue → Pat
    plain_by (PatternForm e) = e
    plain_by (GridForm b points) = Var k

-- the pattern in which each variable whose value is a pattern is replaced by it
abbrev pub plainly_replaced : Scope → Pat → Pat
plainly_replaced s e = subst_of (λ k. plain_or_var k (var_at s.vars k)) e

-- the variable is there and has this interface
abbrev pub has_interface : ℕ → Option VarLine → Bool
has_interface i None = false
has_interface i (Some v) = nat_eq v.interface i

-- the pattern is one of the interface: so are its tags, and its variables, each of which has a value
abbrev pub is_formed : Scope → ℕ → Pat → Bool
is_formed s i (Tag m) = nat_lt m (s.tags i)
is_formed s i (Var k) = has_interface i (var_at s.vars k)
is_formed s i (Sum e f) = is_formed s i e && is_formed s i f
is_formed s i (Prod e f) = is_formed s i e && is_formed s i f
is_formed s i (Star e) = is_formed s i e
is_formed s i _ = true

-- the value is one that a variable of an interface of n tags may have; an interface that is there has a tag
abbrev pub value_fits : ℕ → VarValue → Bool
value_fits n (PatternForm e) = nat_lt 0 n && (is_closed e && tags_below n e)
value_fits n (GridForm k points) = nat_lt 0 n && points_fit k n points

-- each value is one that its variable may have
abbrev pub values_fit : Scope → Bool
values_fit s = list_all (λ v. value_fits (s.tags v.interface) v.value) s.vars

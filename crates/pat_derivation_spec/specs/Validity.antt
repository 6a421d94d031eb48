-- Valid derivations: the first broken rule at a node, the first bad node, and a derivation that breaks none.
use Rattle.std.specs.Prelude.{◌≡◌, ℕ, zero, suc, Bool, if◌then◌else◌, length, max, Option, Some, None}
use Rattle.pat_type_system_spec.specs.Programs.{Function, Node, Program, node_at, function_at}
use Rattle.pat_derivation_spec.specs.Derivations.{Line, Derivation, line_at}
use Rattle.pat_derivation_spec.specs.Conditions.{Place}
use Rattle.pat_derivation_spec.specs.Rules.{has_shape, has_words, has_no_alias, uses_well, drops_well, payloads_stand_apart, guard_covers, certs_show}

-- the rules
pub data Rule : Type 0 where
  ShapeRule : Rule
  EmptyRule : Rule
  AliasRule : Rule
  UseRule : Rule
  DropRule : Rule
  PayloadRule : Rule
  CoversRule : Rule
  CertRule : Rule

-- the rule if the test fails, and otherwise what comes after it
abbrev pub broken_or : Bool → Rule → Option Rule → Option Rule
broken_or passes rule after = if passes then after else Some rule

-- the first broken rule of a node that is there with a line
abbrev pub broken_at : Program → Derivation → Place → Option Rule
broken_at p d h =
    broken_or (has_shape p d h) ShapeRule
    (broken_or (has_words p d h) EmptyRule
    (broken_or (has_no_alias p d h) AliasRule
    (broken_or (uses_well p d h) UseRule
    (broken_or (drops_well p d h) DropRule
    (broken_or (payloads_stand_apart p d h) PayloadRule
    (broken_or (guard_covers h) CoversRule
    (broken_or (certs_show p d h) CertRule None)))))))

-- the first broken rule of a node of a function, with its line, if they are there; one of both without the other has no shape
abbrev pub broken_in : Program → Derivation → ℕ → Node → Option Function → Option Line → Option Rule
broken_in p d n c (Some g) (Some l) = broken_at p d (record { number = n; node = c; function = g; line = l })
broken_in p d n c _ _ = Some ShapeRule

abbrev pub broken_for : Program → Derivation → ℕ → Option Node → Option Line → Option Rule
broken_for p d n None None = None
broken_for p d n None (Some l) = Some ShapeRule
broken_for p d n (Some c) l = broken_in p d n c (function_at p c.function) l

-- the first broken rule at number n
unfoldable pub broken_rule : Program → Derivation → ℕ → Option Rule
broken_rule p d n = broken_for p d n (node_at p n) (line_at d n)

-- the rule at n, or what is found at a later number
abbrev pub found_at : ℕ → Option Rule → Option (ℕ × Rule) → Option (ℕ × Rule)
found_at n (Some rule) later = Some (n, rule)
found_at n None later = later

-- the first of so many numbers from n on at which a rule is broken, with the first rule that is broken there
abbrev pub first_from : Program → Derivation → ℕ → ℕ → Option (ℕ × Rule)
first_from p d zero n = None
first_from p d (suc more) n = found_at n (broken_rule p d n) (first_from p d more (suc n))

-- the first bad number, with its first broken rule
unfoldable pub first_bad : Program → Derivation → Option (ℕ × Rule)
first_bad p d = first_from p d (max (length p.nodes) (length d.lines)) 0

-- no rule is broken anywhere
abbrev pub IsValid : Program → Derivation → Type 0
IsValid p d = (n : ℕ) → broken_rule p d n ≡ None

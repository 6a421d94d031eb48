-- The names of rules.
use Rattle.std.specs.Prelude.{ℕ, List, codes}
use Rattle.pat_derivation_rules.specs.declared.Rule.{Rule}
use Rattle.pat_derivation_rules.specs.declared.Rule.TheVariants as rule

abbrev pub rule_name : Rule → List ℕ
rule_name rule.Shape = codes "Shape"
rule_name rule.Empty = codes "Empty"
rule_name rule.Alias = codes "Alias"
rule_name rule.Use = codes "Use"
rule_name rule.Drop = codes "Drop"
rule_name rule.Payload = codes "Payload"
rule_name rule.Covers = codes "Covers"
rule_name rule.Cert = codes "Cert"

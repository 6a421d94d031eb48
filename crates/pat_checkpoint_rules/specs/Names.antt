-- The names of rules.
use Rattle.std.specs.Prelude.{ℕ, List, codes}
use Rattle.pat_checkpoint_rules.specs.declared.CheckRule.{CheckRule}
use Rattle.pat_checkpoint_rules.specs.declared.CheckRule.TheVariants as rule

abbrev pub rule_name : CheckRule → List ℕ
rule_name rule.Numbers = codes "Numbers"
rule_name rule.Kinds = codes "Kinds"
rule_name rule.Distinct = codes "Distinct"
rule_name rule.Order = codes "Order"
rule_name rule.Holder = codes "Holder"
rule_name rule.Messages = codes "Messages"
rule_name rule.Balance = codes "Balance"

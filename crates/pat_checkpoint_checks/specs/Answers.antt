-- What examining a checkpoint answers.
use Rattle.std.specs.Prelude.{◌≡◌, Option, Some, None, Result}
use Rattle.std.specs.declared.result.Result.TheVariants.{Ok, Err}
use Rattle.pat_checkpoint_spec.specs.Checked.{CheckRule, NumbersRule, KindsRule, DistinctRule, OrderRule, HolderRule, MessagesRule, BalanceRule}
use Rattle.pat_checkpoint_rules.specs.declared.CheckRule.{CheckRule as CodeRule}
use Rattle.pat_checkpoint_rules.specs.declared.CheckRule.TheVariants as rule
use Rattle.pat_checkpoint_checks.specs.declared.rules.CheckError.{CheckError}
use Rattle.pat_checkpoint_checks.specs.declared.rules.CheckError.TheVariants as error

abbrev pub check_rule_view : CodeRule → CheckRule
check_rule_view rule.Numbers = NumbersRule
check_rule_view rule.Kinds = KindsRule
check_rule_view rule.Distinct = DistinctRule
check_rule_view rule.Order = OrderRule
check_rule_view rule.Holder = HolderRule
check_rule_view rule.Messages = MessagesRule
check_rule_view rule.Balance = BalanceRule

-- no rule is broken; or this is the first that is; or memory ran out
abbrev pub Examined : Option CheckRule → Result (Unit {0}) CheckError → Type 0
Examined broken (Ok _) = broken ≡ None
Examined broken (Err (error.Bad rule)) = broken ≡ Some (check_rule_view rule)
Examined broken (Err error.NoMemory) = Unit {0}

-- Rules and rejections as the definitions see them, and what is made once for all nodes.
use Rattle.std.specs.Prelude.{◌≡◌, ℕ, map, Option, None}
use Rattle.pat_semantics_spec.specs.Programs.{Program}
use Rattle.pat_derivation_spec.specs.Derivations.{Derivation, scope_of}
use Rattle.pat_derivation_spec.specs.Conditions.{Place}
use Rattle.pat_derivation_spec.specs.Rules.{uses_well, drops_well, payloads_stand_apart, guard_covers, certs_show}
use Rattle.pat_derivation_spec.specs.Validity.{Rule, ShapeRule, EmptyRule, AliasRule, UseRule, DropRule, PayloadRule, CoversRule, CertRule, broken_or}
use Rattle.pat_patterns.specs.Views.{patterns_view}
use Rattle.pat_judge_nodes.specs.uses.Views.{signature_view}
use Rattle.pat_judge_nodes.specs.uses.Opened.{opened_from}
use Rattle.pat_judge_nodes.specs.scopes.Upwards.{AreAbove}
use Rattle.pat_judge.specs.shape.Tested.{IsTested}
use Rattle.pat_certificate_checks.specs.Plain.{all_plain}
use Rattle.pat_derivation_rules.specs.declared.Rule.{Rule as CodeRule}
use Rattle.pat_derivation_rules.specs.declared.Rule.TheVariants as rule
use Rattle.pat_judge.specs.declared.judging.Rejection.{Rejection}
use Rattle.pat_judge.specs.declared.tables.Tables.{Tables}

abbrev pub rule_view : CodeRule → Rule
rule_view rule.Shape = ShapeRule
rule_view rule.Empty = EmptyRule
rule_view rule.Alias = AliasRule
rule_view rule.Use = UseRule
rule_view rule.Drop = DropRule
rule_view rule.Payload = PayloadRule
rule_view rule.Covers = CoversRule
rule_view rule.Cert = CertRule

abbrev pub rejection_view : Rejection → ℕ × Rule
rejection_view r = (r.node, rule_view r.rule)

-- the tables are those of the program and the derivation
pub record AreTables (p : Program) (d : Derivation) (t : Tables) : Type 0 where
  pub signatures : map signature_view t.signatures ≡ opened_from 1 p.functions
  pub above : AreAbove p t.above
  pub tests : IsTested (scope_of p d) t.tests
  pub plain : patterns_view t.plain ≡ all_plain d.vars

-- the first broken rule of those behind Alias
abbrev pub after_alias : Program → Derivation → Place → Option Rule
after_alias p d h =
    broken_or (uses_well p d h) UseRule
    (broken_or (drops_well p d h) DropRule
    (broken_or (payloads_stand_apart p d h) PayloadRule
    (broken_or (guard_covers h) CoversRule
    (broken_or (certs_show p d h) CertRule None))))

use Rattle.std.proofs.Common.{◌≡◌, true, sym, ap₂, ◌∙◌, subst, rules}
use Rattle.pat_words_spec.specs.Patterns.{subst_of}
use Rattle.pat_inclusion_spec.specs.Certificates.{is_arm}
use Rattle.pat_patterns.specs.Views.{pattern_view, patterns_view, value_at}
use Rattle.pat_certificate_checks.proofs.Arms.{arm_of_itself}
use Rattle.pat_certificate_checks.proofs.Plainly.{plainly}
use Rattle.pat_certificate_checks.proofs.trivial.is_trivial.Goals as goal

pub returns-then-stays_arm : goal.returns-then-stays_arm
returns-then-stays_arm c s i p fl fr =
    let arm : is_arm (subst_of (value_at (patterns_view c.args.plain.now)) (pattern_view c.args.left.now)) (subst_of (value_at (patterns_view c.args.plain.now)) (pattern_view c.args.right.now)) ≡ true = search rules in
    sym arm
    ∙ ap₂ is_arm
    (plainly s i (pattern_view c.args.left.now) (patterns_view c.args.plain.now) p fl)
    (plainly s i (pattern_view c.args.right.now) (patterns_view c.args.plain.now) p fr)

pub returns-then-becomes : goal.returns-then-becomes
returns-then-becomes c s i p fl fr =
    let own = subst_of (value_at (patterns_view c.args.plain.now)) (pattern_view c.args.left.now) in
    let other = subst_of (value_at (patterns_view c.args.plain.now)) (pattern_view c.args.right.now) in
    let made : own ≡ pattern_view c.as_pattern.result.now = search rules in
    let same : own ≡ other = made ∙ c.as_pattern.ensures ∙ c.in_ok-right.ensures in
    sym (subst (λ e. is_arm own e ≡ true) same (arm_of_itself own))
    ∙ ap₂ is_arm
    (plainly s i (pattern_view c.args.left.now) (patterns_view c.args.plain.now) p fl)
    (plainly s i (pattern_view c.args.right.now) (patterns_view c.args.plain.now) p fr)

pub returns : goal.returns
returns c s i p fl fr =
    c.is_arm.ensures
    ∙ ap₂ is_arm
    (c.as_pattern-2.ensures ∙ c.in_ok-left.ensures ∙ plainly s i (pattern_view c.args.left.now) (patterns_view c.args.plain.now) p fl)
    (c.as_pattern-3.ensures ∙ c.in_ok-right.ensures ∙ plainly s i (pattern_view c.args.right.now) (patterns_view c.args.plain.now) p fr)

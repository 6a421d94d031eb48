-- From what the machine answers to what the parser claims.
use Rattle.std.proofs.Common.{◌≤◌, ◌*◌, ℕ, List, map, length, Result, Ok, Err, subst}
use Rattle.std.specs.Prelude.{MatchResult, IfOk}
use Rattle.pat_lexer_spec.specs.Tokens.{Spanned}
use Rattle.pat_parser_spec.specs.Trees.{Tree as AnyTree}
use Rattle.pat_parser_spec.specs.Items.{bound_item}
use Rattle.pat_parser_spec.specs.Machine as m
use Rattle.pat_parser_spec.specs.Claims.{SpellsTree, IsUnexpected, IsTooDeep, Claimed}
use Rattle.pat_parser_laws.specs.Counts.{tree_size}
use Rattle.pat_parser_laws.specs.Names.{AreSpelled, TreeNamed}
use Rattle.pat_parser_laws.proofs.Exact.{exact_answer}
use Rattle.pat_parser_laws.proofs.Counts.{at_most_four}
use Rattle.pat_parser_laws.proofs.Names.{tree_named}
use Rattle.pat_tree.specs.declared.tree.Tree.{Tree}
use Rattle.pat_tree.specs.Views.{tree_view}
use Rattle.pat_parser_phrases.specs.declared.tokens.fault.ParseError.{ParseError}
use Rattle.pat_parser_phrases.specs.declared.tokens.fault.ParseError.TheVariants as errors
use Rattle.pat_parser_phrases.specs.tokens.Answers.{limits, FailsAt}
use Rattle.pat_parser.specs.Answers.{GivesAt, Explains}

explained : (end : ℕ) (ts : List Spanned) (e : ParseError) (q : Result AnyTree (m.Fault × ℕ)) → FailsAt e q → Claimed limits end ts q → Explains end ts e
explained end ts errors.NoMemory q f c = tt
explained end ts (errors.Unexpected o) q f c = subst (λ (r : Result AnyTree (m.Fault × ℕ)). Claimed limits end ts r) f c
explained end ts (errors.TooDeep o) q f c = subst (λ (r : Result AnyTree (m.Fault × ℕ)). Claimed limits end ts r) f c

claimed : (end : ℕ) (ts : List Spanned) (r : Result Tree ParseError) (q : Result AnyTree (m.Fault × ℕ)) → GivesAt tree_view r q → Claimed limits end ts q → MatchResult r (λ t. SpellsTree limits ts (tree_view t)) (λ e. Explains end ts e)
claimed end ts (Ok t) q f c = subst (λ (r : Result AnyTree (m.Fault × ℕ)). Claimed limits end ts r) f c
claimed end ts (Err e) q f c = explained end ts e q f c

pub answered : (end : ℕ) (ts : List Spanned) (r : Result Tree ParseError) → GivesAt tree_view r (m.parsed limits end (map bound_item ts)) → MatchResult r (λ t. SpellsTree limits ts (tree_view t)) (λ e. Explains end ts e)
answered end ts r f = claimed end ts r (m.parsed limits end (map bound_item ts)) f (exact_answer limits end ts).is_so

pub answered_tree : (end : ℕ) (ts : List Spanned) (r : Result Tree ParseError) → GivesAt tree_view r (m.parsed limits end (map bound_item ts)) → (t : AnyTree) → SpellsTree limits ts t → GivesAt tree_view r (Ok t)
answered_tree end ts r f t d = subst (λ (q : Result AnyTree (m.Fault × ℕ)). GivesAt tree_view r q) ((exact_answer limits end ts).tree t d) f

pub answered_unexpected : (end : ℕ) (ts : List Spanned) (r : Result Tree ParseError) → GivesAt tree_view r (m.parsed limits end (map bound_item ts)) → (o : ℕ) → IsUnexpected limits end ts o → GivesAt tree_view r (Err (m.Unexpected, o))
answered_unexpected end ts r f o d = subst (λ (q : Result AnyTree (m.Fault × ℕ)). GivesAt tree_view r q) ((exact_answer limits end ts).unexpected o d) f

pub answered_too_deep : (end : ℕ) (ts : List Spanned) (r : Result Tree ParseError) → GivesAt tree_view r (m.parsed limits end (map bound_item ts)) → (o : ℕ) → IsTooDeep limits ts o → GivesAt tree_view r (Err (m.TooDeep, o))
answered_too_deep end ts r f o d = subst (λ (q : Result AnyTree (m.Fault × ℕ)). GivesAt tree_view r q) ((exact_answer limits end ts).too_deep o d) f

pub sized : (ts : List Spanned) (r : Result Tree ParseError) (Q : ParseError → Type 0) → MatchResult r (λ t. SpellsTree limits ts (tree_view t)) Q → IfOk r (λ t. tree_size (tree_view t) ≤ 4 * length ts)
sized ts (Ok t) Q h = at_most_four limits ts (tree_view t) h
sized ts (Err e) Q h = tt

pub all_named : (ts : List Spanned) (r : Result Tree ParseError) (Q : ParseError → Type 0) → AreSpelled ts → MatchResult r (λ t. SpellsTree limits ts (tree_view t)) Q → IfOk r (λ t. TreeNamed (tree_view t))
all_named ts (Ok t) Q s h = tree_named limits ts (tree_view t) s h
all_named ts (Err e) Q s h = tt

pub answered_size : (end : ℕ) (ts : List Spanned) (r : Result Tree ParseError) → GivesAt tree_view r (m.parsed limits end (map bound_item ts)) → IfOk r (λ t. tree_size (tree_view t) ≤ 4 * length ts)
answered_size end ts r f = sized ts r (λ e. Explains end ts e) (answered end ts r f)

pub answered_names : (end : ℕ) (ts : List Spanned) (r : Result Tree ParseError) → GivesAt tree_view r (m.parsed limits end (map bound_item ts)) → AreSpelled ts → IfOk r (λ t. TreeNamed (tree_view t))
answered_names end ts r f s = all_named ts r (λ e. Explains end ts e) s (answered end ts r f)

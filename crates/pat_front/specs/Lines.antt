-- The lines that say verdicts.
use Rattle.std.specs.Prelude.{ℕ, List, [], ◌∷◌, ◌++◌, codes}
use Rattle.std.specs.Fmt.{decimal}
use Rattle.pat_syntax.specs.declared.span.Span.{Span}
use Rattle.pat_derivation_rules.specs.declared.Rule.{Rule}
use Rattle.pat_derivation_rules.specs.Names.{rule_name}
use Rattle.pat_checkpoint_rules.specs.declared.CheckRule.{CheckRule}
use Rattle.pat_checkpoint_rules.specs.Names.{rule_name as check_rule_name}
use Rattle.pat_resolver_heads.specs.declared.results.error.ResolveKind.{ResolveKind}
use Rattle.pat_resolver_heads.specs.declared.results.error.ResolveKind.TheVariants as kind
use Rattle.pat_infer_problems.specs.declared.error.Rule as typing
use Rattle.pat_infer_problems.specs.declared.error.Rule.TheVariants as typing_rule
use Rattle.pat_front.specs.declared.reason.Reason.{Reason}
use Rattle.pat_front.specs.declared.reason.Reason.TheVariants as reason
use Rattle.pat_front.specs.declared.verdict.Verdict.{Verdict}
use Rattle.pat_front.specs.declared.verdict.Verdict.TheVariants as verdict

abbrev pub rule_words : ResolveKind → List ℕ
rule_words kind.UnknownName = codes "unknown name"
rule_words kind.Twice = codes "twice"
rule_words kind.WrongArity = codes "wrong arity"
rule_words kind.WrongKind = codes "wrong kind"
rule_words kind.ForeignTag = codes "foreign tag"
rule_words kind.EmptySending = codes "empty sending type"
rule_words kind.TooManyTags = codes "too many tags"

-- where: the first offset and the one after the last
abbrev pub place_words : Span → List ℕ
place_words s = (codes " at " ++ decimal s.from) ++ (codes "-" ++ decimal s.to)

-- a node, and the rule that a derivation breaks there
abbrev pub rejected_words : ℕ → Rule → List ℕ
rejected_words n r = (codes "rejected at node " ++ decimal n) ++ (codes ": " ++ rule_name r)

-- the rule that a checkpoint breaks
abbrev pub bad_checkpoint_words : CheckRule → List ℕ
bad_checkpoint_words r = codes "bad checkpoint: " ++ check_rule_name r

-- a rule of backward typing
abbrev pub typing_rule_name : typing.Rule → List ℕ
typing_rule_name typing_rule.Alias = codes "Alias"
typing_rule_name typing_rule.Order = codes "Order"
typing_rule_name typing_rule.Double = codes "Double"
typing_rule_name typing_rule.Branch = codes "Branch"
typing_rule_name typing_rule.Payload = codes "Payload"
typing_rule_name typing_rule.Covers = codes "Covers"
typing_rule_name typing_rule.Unused = codes "Unused"
typing_rule_name typing_rule.Polarity = codes "Polarity"
typing_rule_name typing_rule.Second = codes "Second"

abbrev pub untypable_words : Span → typing.Rule → List ℕ
untypable_words s r = (codes "untypable" ++ place_words s) ++ (codes ": " ++ typing_rule_name r)

-- why a program isn't accepted; names and words of the program stand behind it
abbrev pub reason_text : Reason → List ℕ
reason_text (reason.Untypable s r) = untypable_words s r
reason_text (reason.Unusable s) = codes "unusable" ++ place_words s
reason_text (reason.TooLarge i) = codes "too large"
reason_text (reason.Refuted s) = codes "refuted" ++ place_words s
reason_text (reason.Undecided s) = codes "undecided" ++ place_words s

abbrev pub verdict_text : Verdict → List ℕ
verdict_text verdict.TooLong = codes "too long"
verdict_text (verdict.Syntax o) = codes "syntax error at " ++ decimal o
verdict_text (verdict.NumberTooWide o) = codes "number too wide at " ++ decimal o
verdict_text (verdict.TooDeep o) = codes "too deep at " ++ decimal o
verdict_text (verdict.Resolve k s) = rule_words k ++ place_words s
verdict_text (verdict.BadText o) = codes "bad text at " ++ decimal o
verdict_text (verdict.Rejected n r) = rejected_words n r
verdict_text (verdict.RefusedAt i) = codes "refused at entry " ++ decimal i
verdict_text verdict.TooManyEntries = codes "too many entries"
verdict_text (verdict.Unshown n) = codes "unshown at line " ++ decimal n
verdict_text (verdict.BadCheckpoint r) = bad_checkpoint_words r
verdict_text (verdict.Unaccepted r) = reason_text r

-- the line, with its end
abbrev pub line_of_verdict : Verdict → List ℕ
line_of_verdict v = verdict_text v ++ 10 ∷ []

-- the line with more words behind the verdict's own, and its end
abbrev pub line_with : Verdict → List ℕ → List ℕ
line_with v more = verdict_text v ++ (more ++ 10 ∷ [])

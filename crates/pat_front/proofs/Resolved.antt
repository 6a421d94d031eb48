-- What a resolver's answer says of a text.
use Rattle.std.proofs.Common.{◌≡◌, ℕ, List, [], length, None, sym, subst}
use Rattle.pat_semantics_spec.specs.Programs.{Program}
use Rattle.pat_parser_spec.specs.Trees.{Tree}
use Rattle.pat_resolver_spec.specs.Findings.{findings}
use Rattle.pat_resolver_spec.specs.Numbering.{numbered}
use Rattle.pat_resolver_spec.specs.Places.{Places, places}
use Rattle.pat_resolver_spec.specs.Resolved.{IsResolved}
use Rattle.pat_resolver.proofs.Resolved.{resolved, text_written}
use Rattle.pat_parser_phrases.specs.tokens.Answers.{limits}
use Rattle.pat_resolver_heads.specs.results.Results.{first_of}
use Rattle.pat_resolver_heads.proofs.Firsts.{first_none}
use Rattle.pat_front.specs.Texts.{IsTreeText, IsProgramText}

pub program_text : (bytes : List ℕ) (t : Tree) (p : Program) (end : ℕ) → IsTreeText bytes t → end ≡ length bytes → first_of (findings end t) ≡ None → p ≡ numbered t → IsProgramText bytes t p
program_text bytes t p end text same none is =
    record { tree = text; resolved = record { sound = subst (λ n. findings n t ≡ []) same (first_none (findings end t) none); program = sym is } }

-- what a text resolves to is all that later calls ask of a program
pub is_resolved : (bytes : List ℕ) (t : Tree) (p : Program) (q : Places) → IsProgramText bytes t p → q ≡ places t → IsResolved p q
is_resolved bytes t p q text at =
    subst (IsResolved p) (sym at) (resolved (length bytes) t p (text_written limits bytes text.tree.tokens t text.tree.divided text.tree.spelled) text.resolved)

-- What holds of every tree that breaks no rule, and of its program.
use Rattle.std.specs.Prelude.{◌≡◌, ◌⊎◌, ℕ, List, [], length}
use Rattle.pat_semantics_spec.specs.Programs.{Program}
use Rattle.pat_lexer_spec.specs.Tokens.{Spanned}
use Rattle.pat_lexer_spec.specs.Divisions.{Divides}
use Rattle.pat_parser_spec.specs.Trees.{Term, Tree}
use Rattle.pat_parser_spec.specs.Items.{Limits}
use Rattle.pat_parser_spec.specs.Claims.{SpellsTree}
use Rattle.pat_resolver_spec.specs.Scopes.{Scope}
use Rattle.pat_resolver_spec.specs.Heads.{Heads}
use Rattle.pat_resolver_spec.specs.Findings.{Finding, kind_of_term, term_findings}
use Rattle.pat_semantics_spec.specs.Values.{Kind}
use Rattle.pat_resolver_spec.specs.Numbering.{numbered}
use Rattle.pat_resolver_spec.specs.Places.{places}
use Rattle.pat_resolver_spec.specs.Claims.{Resolves, BreaksFirst, IsWritten, program_strings, tree_strings}
use Rattle.pat_resolver_spec.specs.Resolved.{IsPlaced, IsResolved}

-- a tree resolves to its program or breaks a rule first, and not both
pub record OneResolution (end : ℕ) (t : Tree) : Type 0 where
  pub answered : Resolves end t (numbered t) ⊎ ((x : Finding) × BreaksFirst end t x)
  pub not_both : (p : Program) (x : Finding) → Resolves end t p → BreaksFirst end t x → ⊥

abbrev pub EachTreeIsAnswered : Type 0
EachTreeIsAnswered = (end : ℕ) (t : Tree) → OneResolution end t

-- what a tree resolves to that is as the grammar has it: a well-formed program whose names are names and whose strings are
-- those that strings stand for, each part with its place
abbrev pub ResolvedIsWhole : Type 0
ResolvedIsWhole = (end : ℕ) (t : Tree) (p : Program) → IsWritten t → Resolves end t p → IsResolved p (places t)

-- the string literals of a tree's program are the tree's, in order
abbrev pub StringsAreKept : Type 0
StringsAreKept = (t : Tree) → program_strings (numbered t) ≡ tree_strings t

-- what a text spells is as the grammar has it
abbrev pub SpelledIsWritten : Type 0
SpelledIsWritten = (lim : Limits) (text : List ℕ) (tokens : List Spanned) (t : Tree) → Divides text tokens → SpellsTree lim tokens t → IsWritten t

-- so what a text resolves to is whole
abbrev pub SpelledIsWhole : Type 0
SpelledIsWhole =
    (lim : Limits) (text : List ℕ) (tokens : List Spanned) (t : Tree) (p : Program) → Divides text tokens → SpellsTree lim tokens t → Resolves (length text) t p → IsResolved p (places t)

-- a term of which a kind is needed, and that breaks no rule, has that kind
abbrev pub NeededIsGiven : Type 0
NeededIsGiven = (h : Heads) (scope : Scope) (v : ℕ) (k : Kind) (t : Term) → term_findings h scope v k t ≡ [] → kind_of_term h scope v t ≡ k

-- each part of a tree's program has a place, of every tree
abbrev pub NumberedIsPlaced : Type 0
NumberedIsPlaced = (t : Tree) → IsPlaced (numbered t) (places t)

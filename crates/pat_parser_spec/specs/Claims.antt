-- What a parser claims of tokens, in the words of the grammar alone.
use Rattle.std.specs.Prelude.{◌≡◌, ℕ, List, [], ◌∷◌, ◌++◌, map, Result, Ok, Err}
use Rattle.pat_lexer_spec.specs.Tokens.{Spanned}
use Rattle.pat_parser_spec.specs.Trees.{Tree}
use Rattle.pat_parser_spec.specs.Items.{Item, Limits, bound_item, free_item}
use Rattle.pat_parser_spec.specs.Grammar.{Spells}
use Rattle.pat_parser_spec.specs.Machine.{Fault, Unexpected, TooDeep, parsed}

-- the tokens of a text spell the tree within the limits
abbrev pub SpellsTree : Limits → List Spanned → Tree → Type 0
SpellsTree lim ts m = Spells lim (map bound_item ts) m

-- further tokens, free of the limits, make a program of these
pub record Begins (lim : Limits) (ts : List Item) : Type 0 where
  pub rest : List Spanned
  pub tree : Tree
  pub spelled : Spells lim (ts ++ map free_item rest) tree

-- At the offset a token is unexpected: what stands before it could go on to a program within the limits, and with the
-- token itself it could not, whatever the limits. Or the tokens end too early: they could go on to a program, and are none.
pub data IsUnexpected (lim : Limits) (end : ℕ) : List Spanned → ℕ → Type 0 where
  at_token : (before behind : List Spanned) (t : Spanned) → Begins lim (map bound_item before) → (Begins lim (map free_item (before ++ t ∷ [])) → ⊥) → IsUnexpected lim end (before ++ t ∷ behind) t.from
  at_end : (ts : List Spanned) → Begins lim (map bound_item ts) → ((m : Tree) → Spells lim (map free_item ts) m → ⊥) → IsUnexpected lim end ts end

-- At the offset a token is too deep: the tokens before it begin a program and none of them is too deep; with it they begin
-- one if it is free of the limits, and none if it isn't.
pub data IsTooDeep (lim : Limits) : List Spanned → ℕ → Type 0 where
  at_token : (before behind : List Spanned) (t : Spanned) → Begins lim (map bound_item before ++ free_item t ∷ []) → (Begins lim (map bound_item (before ++ t ∷ [])) → ⊥) → IsTooDeep lim (before ++ t ∷ behind) t.from

-- what an answer says of the tokens
abbrev pub ClaimedFault : Limits → ℕ → List Spanned → Fault → ℕ → Type 0
ClaimedFault lim end ts Unexpected o = IsUnexpected lim end ts o
ClaimedFault lim end ts TooDeep o = IsTooDeep lim ts o

abbrev pub Claimed : Limits → ℕ → List Spanned → Result Tree (Fault × ℕ) → Type 0
Claimed lim end ts (Ok m) = SpellsTree lim ts m
Claimed lim end ts (Err e) = ClaimedFault lim end ts e.0 e.1

-- what the machine answers is so, and what is so it answers: tokens have at most one tree, and else one first refusal
pub record ExactAnswer (lim : Limits) (end : ℕ) (ts : List Spanned) : Type 0 where
  pub is_so : Claimed lim end ts (parsed lim end (map bound_item ts))
  pub tree : (m : Tree) → SpellsTree lim ts m → parsed lim end (map bound_item ts) ≡ Ok m
  pub unexpected : (o : ℕ) → IsUnexpected lim end ts o → parsed lim end (map bound_item ts) ≡ Err (Unexpected, o)
  pub too_deep : (o : ℕ) → IsTooDeep lim ts o → parsed lim end (map bound_item ts) ≡ Err (TooDeep, o)

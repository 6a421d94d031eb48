-- What the canonical text of a tree is read as.
use Rattle.std.specs.Prelude.{◌≡◌, ℕ, List}
use Rattle.pat_lexer_spec.specs.Tokens.{Token, Spanned}
use Rattle.pat_lexer_spec.specs.Divisions.{Divides}
use Rattle.pat_parser_spec.specs.Trees.{Tree}
use Rattle.pat_parser_spec.specs.Items.{Limits}
use Rattle.pat_parser_spec.specs.Claims.{SpellsTree}
use Rattle.pat_lexer_spec.specs.Spelled.{IsSpelled}
use Rattle.pat_parser_laws.specs.Names.{EachOf, AreSpelled}
use Rattle.pat_print_spec.specs.Bare.{bare}
use Rattle.pat_print_spec.specs.Canonical.{canonical, tokens_of}
use Rattle.pat_print_laws.specs.RoundTrip.{kinds}

-- Some bytes spell each token of the tree's canonical text: its names are names, its strings are those that strings stand
-- for, and its integers are those that runs of digits stand for.
abbrev pub IsWritable : Tree → Type 0
IsWritable m = EachOf IsSpelled (tokens_of (canonical m))

-- the text divides into these tokens, at some places
abbrev pub DividesInto : List ℕ → List Token → Type 0
DividesInto text tokens = (us : List Spanned) × Divides text us × (kinds us ≡ tokens)

-- the tree is, places aside, one that tokens spell within the limits, each of which some bytes spell
pub record CanBeSpelled (lim : Limits) (m : Tree) : Type 0 where
  pub tokens : List Spanned
  pub tree : Tree
  pub spelled : AreSpelled tokens
  pub spells : SpellsTree lim tokens tree
  pub same : bare m ≡ bare tree

-- the text divides into tokens that spell the tree within the limits, places aside
pub record ReadsAs (lim : Limits) (text : List ℕ) (m : Tree) : Type 0 where
  pub tokens : List Spanned
  pub tree : Tree
  pub divides : Divides text tokens
  pub spelled : SpellsTree lim tokens tree
  pub same : bare m ≡ bare tree

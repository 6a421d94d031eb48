-- What a tree resolves to is whole, and what a text spells is as the grammar has it.
use Rattle.std.proofs.Common.{◌≡◌, ℕ, List, sym, subst}
use Rattle.std.specs.List.{AllByRecursion}
use Rattle.pat_lexer_spec.specs.Spelled.{IsString}
use Rattle.pat_lexer_spec.specs.Tokens.{Spanned}
use Rattle.pat_lexer_spec.specs.Divisions.{Divides}
use Rattle.pat_semantics_spec.specs.Programs.{Program}
use Rattle.pat_parser_spec.specs.Trees.{Tree}
use Rattle.pat_parser_spec.specs.Items.{Limits}
use Rattle.pat_parser_spec.specs.Claims.{SpellsTree}
use Rattle.pat_resolver_spec.specs.Heads.{interface_names, definitions_of, heads_of}
use Rattle.pat_resolver_spec.specs.Numbering.{numbered}
use Rattle.pat_resolver_spec.specs.Places.{places}
use Rattle.pat_resolver_spec.specs.Claims.{Resolves, IsWritten, program_strings, tree_strings}
use Rattle.pat_resolver_spec.specs.Resolved.{IsNamed, IsPlaced, IsResolved}
use Rattle.pat_resolver_laws.proofs.Declared.{interfaces_named, functions_named}
use Rattle.pat_resolver_laws.proofs.Whole.{well_formed}
use Rattle.pat_resolver_laws.proofs.Strings.{strings_kept, nodes_placed, functions_placed, parts_placed, payloads_placed}
use Rattle.pat_resolver_laws.proofs.Written.{tokens_sound, tree_written}

pub kept : (t : Tree) → program_strings (numbered t) ≡ tree_strings t
kept t = strings_kept (interface_names t) (heads_of t) 0 0 (definitions_of t)

named : (t : Tree) → IsWritten t → IsNamed (numbered t)
named t written = record {
  interfaces = interfaces_named (interface_names t) t written.decls;
  functions = functions_named (interface_names t) (heads_of t) 0 t written.decls;
}

pub placed : (t : Tree) → IsPlaced (numbered t) (places t)
placed t = record {
  payloads = payloads_placed (interface_names t) t;
  functions = functions_placed (interface_names t) (heads_of t) 0 (definitions_of t);
  parts = λ f g q at there. parts_placed (interface_names t) (heads_of t) 0 (definitions_of t) f g q at there;
  nodes = nodes_placed (interface_names t) (heads_of t) 0 0 (definitions_of t);
}

-- the program of a tree that breaks no rule, and that is as the grammar has it
pub resolved : (end : ℕ) (t : Tree) (p : Program) → IsWritten t → Resolves end t p → IsResolved p (places t)
resolved end t p written r = subst (λ p. IsResolved p (places t)) r.program (record {
  well_formed = well_formed end t written r.sound;
  named = named t written;
  spelled = subst (AllByRecursion IsString) (sym (kept t)) written.strings;
  placed = placed t;
})

-- what a text spells
pub text_written : (lim : Limits) (text : List ℕ) (tokens : List Spanned) (t : Tree) → Divides text tokens → SpellsTree lim tokens t → IsWritten t
text_written lim text tokens t divides spells = tree_written spells (tokens_sound text tokens divides)

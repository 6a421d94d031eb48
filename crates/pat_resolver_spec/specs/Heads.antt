-- The heads of declarations: interfaces with their tags, and the types of functions, all by number.
use Rattle.std.specs.Prelude.{ℕ, ◌+◌, List, [], ◌∷◌, length, Option, Some, None, option_map, map, slice_get}
use Rattle.pat_semantics_spec.specs.Patterns.{Pat, Zero, One, Tag, Sum, Prod, Star}
use Rattle.pat_semantics_spec.specs.Values.{Kind, Plain, MailboxOf}
use Rattle.pat_semantics_spec.specs.Programs.{Polarity, Sort, BaseSort, MailboxSort, TagDecl, Interface, kind_of}
use Rattle.pat_parser_spec.specs.Trees as tree
use Rattle.pat_resolver_spec.specs.Scopes.{first_named, itself, number_found, Scope, variable, bind_names}

-- the names of an interface and of its tags
pub record InterfaceNames : Type 0 where
  pub name : List ℕ
  pub tags : List (List ℕ)

-- the names of the interfaces, in order
abbrev pub interface_names : tree.Tree → List InterfaceNames
interface_names [] = []
interface_names (tree.InterfaceDecl x ms ∷ ds) = record { name = x.text; tags = map (λ m. m.name.text) ms } ∷ interface_names ds
interface_names (tree.DefDecl x ps r m ∷ ds) = interface_names ds

-- the interface of that name, with its number
abbrev pub interface_named : List InterfaceNames → List ℕ → Option (ℕ × InterfaceNames)
interface_named names x = first_named (λ i. i.name) x names

-- a pattern with the numbers of its tags; a tag that isn't one of these has the number 0
abbrev pub pattern_of : List (List ℕ) → tree.Pattern → Pat
pattern_of tags (tree.ZeroPattern at) = Zero
pattern_of tags (tree.OnePattern at) = One
pattern_of tags (tree.TagPattern x) = Tag (number_found (first_named itself x.text tags))
pattern_of tags (tree.SumPattern p q) = Sum (pattern_of tags p) (pattern_of tags q)
pattern_of tags (tree.ProdPattern p q) = Prod (pattern_of tags p) (pattern_of tags q)
pattern_of tags (tree.StarPattern p) = Star (pattern_of tags p)

-- a mailbox type of the interface that was found
abbrev pub mailbox_sort : Polarity → Option tree.Pattern → Option (ℕ × InterfaceNames) → Sort
mailbox_sort q e None = MailboxSort 0 q None
mailbox_sort q e (Some i) = MailboxSort i.0 q (option_map (pattern_of i.1.tags) e)

-- a written type, by numbers
abbrev pub sort_of : List InterfaceNames → tree.WrittenType → Sort
sort_of names (tree.BaseType b at) = BaseSort b
sort_of names (tree.MailboxType x q e at) = mailbox_sort q e (interface_named names x.text)

-- a tag with the types of its payloads
abbrev pub tag_of : List InterfaceNames → tree.Message → TagDecl
tag_of names m = record { name = m.name.text; payloads = map (sort_of names) m.payloads }

-- the interfaces that are declared, in order
abbrev pub interfaces_of : List InterfaceNames → tree.Tree → List Interface
interfaces_of names [] = []
interfaces_of names (tree.InterfaceDecl x ms ∷ ds) = record { name = x.text; tags = map (tag_of names) ms } ∷ interfaces_of names ds
interfaces_of names (tree.DefDecl x ps r m ∷ ds) = interfaces_of names ds

-- a function that is declared
pub record Definition : Type 0 where
  pub name : tree.Name
  pub params : List tree.Param
  pub result : tree.WrittenType
  pub body : tree.Term

-- the functions that are declared, in order
abbrev pub definitions_of : tree.Tree → List Definition
definitions_of [] = []
definitions_of (tree.InterfaceDecl x ms ∷ ds) = definitions_of ds
definitions_of (tree.DefDecl x ps r m ∷ ds) = record { name = x; params = ps; result = r; body = m } ∷ definitions_of ds

-- what is called: a function's name, and the types of its parameters and of its result
pub record Signature : Type 0 where
  pub name : List ℕ
  pub params : List Sort
  pub result : Sort

abbrev pub signature_of : List InterfaceNames → Definition → Signature
signature_of names d = record {
  name = d.name.text;
  params = map (λ p. sort_of names p.type) d.params;
  result = sort_of names d.result;
}

-- what bodies look up
pub record Heads : Type 0 where
  pub interfaces : List Interface
  pub signatures : List Signature

abbrev pub heads_of : tree.Tree → Heads
heads_of t = record {
  interfaces = interfaces_of (interface_names t) t;
  signatures = map (signature_of (interface_names t)) (definitions_of t);
}

-- the function of that name, with its number
abbrev pub function_named : Heads → List ℕ → Option (ℕ × Signature)
function_named h x = first_named (λ s. s.name) x h.signatures

-- the tags of an interface that may be there
abbrev pub tags_of : Option Interface → List TagDecl
tags_of None = []
tags_of (Some i) = i.tags

-- the tags of interface i
abbrev pub tags_at : Heads → ℕ → List TagDecl
tags_at h i = tags_of (slice_get h.interfaces i)

-- their names
abbrev pub tag_names : Heads → ℕ → List (List ℕ)
tag_names h i = map (λ t. t.name) (tags_at h i)

-- the tag of interface i of that name, with its number
abbrev pub tag_named : Heads → ℕ → List ℕ → Option (ℕ × TagDecl)
tag_named h i x = first_named (λ t. t.name) x (tags_at h i)

-- the kinds of the payloads of the tag that was found
abbrev pub payload_kinds : Option (ℕ × TagDecl) → List Kind
payload_kinds None = []
payload_kinds (Some d) = map kind_of d.1.payloads

-- the interface of a mailbox's kind; of another kind, 0
abbrev pub interface_of_kind : Kind → ℕ
interface_of_kind (Plain b) = 0
interface_of_kind (MailboxOf i) = i

-- the scope of the body of a receive clause, in a guard on a mailbox of interface i: the names of the payloads get the
-- numbers from v on, and the name of what is left of the mailbox the next one
abbrev pub clause_scope : Heads → ℕ → Scope → ℕ → tree.Name → List tree.Name → tree.Name → Scope
clause_scope h i scope v t xs y = variable y.text (v + length xs) (MailboxOf i) ∷ bind_names v xs (payload_kinds (tag_named h i t.text)) scope

-- the variables of a function's parameters
abbrev pub params_scope : List Sort → List tree.Param → Scope
params_scope sorts ps = bind_names 0 (map (λ p. p.name) ps) (map kind_of sorts) []

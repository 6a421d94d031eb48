-- The text of a derivation: a first line, a line for each variable, and a line for each node.
use Rattle.std.specs.Prelude.{ℕ, suc, ◌+◌, List, [], ◌∷◌, ◌++◌, map, take, length, Option, Some, None, slice_get, slice_index_or, codes}
use Rattle.std.specs.List.{flat_map}
use Rattle.std.specs.Fmt.{decimal}
use Rattle.pat_words_spec.specs.Patterns.{Pat}
use Rattle.pat_semantics_spec.specs.Values.{Base, BaseUnit, BaseBool, BaseInt, BaseText}
use Rattle.pat_semantics_spec.specs.Programs.{Polarity, Sending, Receiving, Interface, Program}
use Rattle.pat_type_system_spec.specs.Types.{Usage, Second, Returnable, MailboxType, TypeOf, BaseTerm, MailboxTerm}
use Rattle.pat_inclusion_spec.specs.Covers.{CoverEntry}
use Rattle.pat_inclusion_spec.specs.Values.{VarValue, PatternForm, GridForm, VarLine}
use Rattle.pat_inclusion_spec.specs.Certificates.{Cert, CoverCert, GridCert}
use Rattle.pat_derivation_spec.specs.NodeTypes.{Needs}
use Rattle.pat_derivation_spec.specs.Derivations.{Line, Derivation}
use Rattle.pat_derivation_text_spec.specs.patterns.PatternText.{pat_text}
use Rattle.pat_texts_spec.specs.Joined.{joined}

-- the names of the interfaces, and of the tags of one
abbrev pub interface_names : Program → List (List ℕ)
interface_names p = map (λ i. i.name) p.interfaces

abbrev pub tags_named : Option Interface → List (List ℕ)
tags_named None = []
tags_named (Some i) = map (λ t. t.name) i.tags

abbrev pub tag_names : Program → ℕ → List (List ℕ)
tag_names p i = tags_named (slice_get p.interfaces i)

-- the name of an interface
abbrev pub interface_name : Program → ℕ → List ℕ
interface_name p i = slice_index_or (interface_names p) i []

-- ---- types

abbrev pub base_word : Base → List ℕ
base_word BaseUnit = codes "Unit"
base_word BaseBool = codes "Bool"
base_word BaseInt = codes "Int"
base_word BaseText = codes "String"

abbrev pub polarity_mark : Polarity → ℕ
polarity_mark Sending = 33
polarity_mark Receiving = 63

-- a mailbox type without its usage
abbrev pub mailbox_text : Program → ℕ → Polarity → Pat → List ℕ
mailbox_text p i q e = interface_name p i ++ polarity_mark q ∷ pat_text (tag_names p i) e

abbrev pub type_text : Program → TypeOf → List ℕ
type_text p (BaseTerm b) = base_word b
type_text p (MailboxTerm i q e) = mailbox_text p i q e

abbrev pub usage_word : Usage → List ℕ
usage_word Second = codes " sec"
usage_word Returnable = codes " ret"

-- a variable and its type
abbrev pub named_text : Program → ℕ × MailboxType → List ℕ
named_text p e = 118 ∷ (decimal e.0 ++ 58 ∷ 32 ∷ (mailbox_text p e.1.interface e.1.polarity e.1.pattern ++ usage_word e.1.usage))

-- the types of variables, with a comma and a space between
abbrev pub needs_text : Program → Needs → List ℕ
needs_text p [] = []
needs_text p (e ∷ es) = joined 44 (named_text p e ∷ map (λ f. 32 ∷ named_text p f) es)

-- ---- certificates

abbrev pub numbers_text : List ℕ → List ℕ
numbers_text ns = joined 44 (map decimal ns)

-- the other set's place, the numbers for the base, and those for each period
abbrev pub entry_text : CoverEntry → List ℕ
entry_text e = decimal e.set ++ 58 ∷ joined 59 (map numbers_text (e.base ∷ e.periods))

abbrev pub cert_text : Cert → List ℕ
cert_text (CoverCert entries) = 99 ∷ 40 ∷ (joined 124 (map entry_text entries) ++ 41 ∷ [])
cert_text (GridCert k) = 103 ∷ decimal k

-- each behind a space
abbrev pub certs_text : List Cert → List ℕ
certs_text certs = flat_map (λ c. 32 ∷ cert_text c) certs

-- ---- values

-- a point: the counts of the first n tags
abbrev pub point_text : ℕ → List ℕ → List ℕ
point_text n counts = numbers_text (take n counts)

abbrev pub value_text : List (List ℕ) → VarValue → List ℕ
value_text names (PatternForm e) = pat_text names e
value_text names (GridForm k points) = 64 ∷ (decimal k ++ flat_map (λ q. 32 ∷ point_text (length names) q) points)

-- ---- lines

-- the name of a variable's interface, and its value
abbrev pub var_body : Program → ℕ → VarValue → List ℕ
var_body p i v = interface_name p i ++ 32 ∷ value_text (tag_names p i) v

abbrev pub var_line : Program → ℕ → VarLine → List ℕ
var_line p n v = codes "var " ++ (decimal n ++ 32 ∷ var_body p v.interface v.value)

-- what stands behind a node's number
abbrev pub node_body : Program → Line → List ℕ
node_body p l = type_text p l.of.result ++ 32 ∷ 123 ∷ (needs_text p l.of.needs ++ 125 ∷ certs_text l.certs)

abbrev pub node_line : Program → ℕ → Line → List ℕ
node_line p n l = codes "node " ++ (decimal n ++ 32 ∷ node_body p l)

-- the lines of a list, numbered from n on
abbrev pub numbered : {A : Type 0} → (ℕ → A → List ℕ) → ℕ → List A → List (List ℕ)
numbered line n [] = []
numbered line n (a ∷ more) = line n a ∷ numbered line (suc n) more

-- the first line
abbrev pub marker : List ℕ
marker = codes "%%derivation"

-- variables are numbered from 1, nodes from 0
abbrev pub derivation_lines : Program → Derivation → List (List ℕ)
derivation_lines p d = marker ∷ (numbered (var_line p) 1 d.vars ++ numbered (node_line p) 0 d.lines)

-- each line ends with a newline
abbrev pub text_of_lines : List (List ℕ) → List ℕ
text_of_lines lines = flat_map (λ l. l ++ 10 ∷ []) lines

abbrev pub derivation_text : Program → Derivation → List ℕ
derivation_text p d = text_of_lines (derivation_lines p d)

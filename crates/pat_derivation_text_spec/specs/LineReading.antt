-- How the lines of a derivation are read.
use Rattle.std.specs.Prelude.{ℕ, zero, suc, ◌==◌, ◌+◌, ◌-◌, Bool, true, ◌&&◌, nat_eq, nat_le, nat_lt, bytes_eq, drop, map, if◌then◌else◌, List, [], ◌∷◌, ◌++◌, length, replicate, Option, Some, None, option_map, option_and_then, codes}
use Rattle.pat_words_spec.specs.Patterns.{Pat, is_closed}
use Rattle.pat_semantics_spec.specs.Values.{Base, BaseUnit, BaseBool, BaseInt, BaseText}
use Rattle.pat_semantics_spec.specs.Programs.{Polarity, Sending, Receiving, Interface, Program}
use Rattle.pat_type_system_spec.specs.Types.{Usage, Second, Returnable, MailboxType, mailbox_type, TypeOf, BaseTerm, MailboxTerm}
use Rattle.pat_inclusion_spec.specs.Covers.{CoverEntry}
use Rattle.pat_inclusion_spec.specs.Points.{grid_fits, points_fit}
use Rattle.pat_inclusion_spec.specs.Values.{VarValue, PatternForm, GridForm, VarLine}
use Rattle.pat_inclusion_spec.specs.Certificates.{Cert, CoverCert, GridCert}
use Rattle.pat_derivation_spec.specs.NodeTypes.{Needs, NodeType}
use Rattle.pat_derivation_spec.specs.Derivations.{Line, Derivation, ascends_from}
use Rattle.pat_texts_spec.specs.Numbers.{read_number}
use Rattle.pat_derivation_text_spec.specs.patterns.PatternReading.{place_of, read_pattern}
use Rattle.pat_texts_spec.specs.Fronts.{behind}
use Rattle.pat_texts_spec.specs.Joined.{cut, pieces, read_each, read_joined, before}
use Rattle.pat_derivation_text_spec.specs.DerivationText.{interface_names, tag_names, base_word}

-- ---- types

-- what stands before the first polarity, which, and what behind it
abbrev pub cut_polarity : List ℕ → Option (List ℕ × Polarity × List ℕ)
cut_polarity [] = None
cut_polarity (b ∷ bs) =
    if b == 33 then Some ([], Sending, bs)
    else if b == 63 then Some ([], Receiving, bs)
    else option_map (λ r. (b ∷ r.0, r.1, r.2)) (cut_polarity bs)

-- the first interface with this name: its place, and the names of its tags
abbrev pub found : List ℕ → List Interface → Option (ℕ × List (List ℕ))
found x [] = None
found x (i ∷ is) =
    if bytes_eq i.name x then Some (zero, map (λ t. t.name) i.tags) else option_map (λ r. (suc r.0, r.1)) (found x is)

-- a mailbox type without its usage
abbrev pub mailbox_in : Polarity → List ℕ → ℕ × List (List ℕ) → Option (ℕ × Polarity × Pat)
mailbox_in q bytes f = option_map (λ e. (f.0, q, e)) (read_pattern f.1 bytes)

abbrev pub mailbox_of : Program → List ℕ × Polarity × List ℕ → Option (ℕ × Polarity × Pat)
mailbox_of p r = option_and_then (mailbox_in r.1 r.2) (found r.0 p.interfaces)

abbrev pub read_mailbox : Program → List ℕ → Option (ℕ × Polarity × Pat)
read_mailbox p bytes = option_and_then (mailbox_of p) (cut_polarity bytes)

abbrev pub read_base : List ℕ → Option Base
read_base bytes =
    if bytes_eq bytes (codes "Unit") then Some BaseUnit
    else if bytes_eq bytes (codes "Bool") then Some BaseBool
    else if bytes_eq bytes (codes "Int") then Some BaseInt
    else if bytes_eq bytes (codes "String") then Some BaseText
    else None

-- a base type, or else a mailbox type
abbrev pub type_by : Program → List ℕ → Option Base → Option TypeOf
type_by p bytes (Some b) = Some (BaseTerm b)
type_by p bytes None = option_map (λ r. MailboxTerm r.0 r.1 r.2) (read_mailbox p bytes)

abbrev pub read_type : Program → List ℕ → Option TypeOf
read_type p bytes = type_by p bytes (read_base bytes)

-- a usage at the end, and what stands before it
-- what stands before ` sec`, or else before ` ret`
abbrev pub usage_by : List ℕ → Option (List ℕ) → Option (List ℕ × Usage)
usage_by bytes (Some front) = Some (front, Second)
usage_by bytes None = option_map (λ front. (front, Returnable)) (before (codes " ret") bytes)

abbrev pub cut_usage : List ℕ → Option (List ℕ × Usage)
cut_usage bytes = usage_by bytes (before (codes " sec") bytes)

abbrev pub used_mailbox : Program → List ℕ × Usage → Option MailboxType
used_mailbox p r = option_map (λ m. mailbox_type m.0 m.1 m.2 r.1) (read_mailbox p r.0)

-- a variable's type, behind a space
abbrev pub read_used : Program → List ℕ → Option MailboxType
read_used p bytes = option_and_then (λ more. option_and_then (used_mailbox p) (cut_usage more)) (behind (32 ∷ []) bytes)

abbrev pub named_in : Program → List ℕ → ℕ → Option (ℕ × MailboxType)
named_in p bytes x = option_map (λ a. (x, a)) (read_used p bytes)

abbrev pub named_of : Program → List ℕ × List ℕ → Option (ℕ × MailboxType)
named_of p r = option_and_then (named_in p r.1) (read_number r.0)

-- a variable and its type
abbrev pub read_named : Program → List ℕ → Option (ℕ × MailboxType)
read_named p bytes = option_and_then (λ more. option_and_then (named_of p) (cut 58 more)) (behind (118 ∷ []) bytes)

-- the same behind a space
abbrev pub read_next : Program → List ℕ → Option (ℕ × MailboxType)
read_next p bytes = option_and_then (read_named p) (behind (32 ∷ []) bytes)

-- the first, and the others behind a space each
abbrev pub read_all : Program → List (List ℕ) → Option Needs
read_all p [] = Some []
read_all p (x ∷ xs) = option_and_then (λ e. option_map (λ es. e ∷ es) (read_each (read_next p) xs)) (read_named p x)

abbrev pub if_ascending : Needs → Option Needs
if_ascending es = if ascends_from 0 es then Some es else None

abbrev pub read_needs : Program → List ℕ → Option Needs
read_needs p [] = Some []
read_needs p (b ∷ bs) = option_and_then if_ascending (read_all p (pieces 44 (b ∷ bs)))

-- ---- certificates

abbrev pub read_numbers : List ℕ → Option (List ℕ)
read_numbers bytes = read_joined 44 read_number bytes

abbrev pub entry_with : ℕ → List (List ℕ) → Option CoverEntry
entry_with set [] = None
entry_with set (base ∷ periods) = Some (record { set = set; base = base; periods = periods })

abbrev pub entry_of : List ℕ × List ℕ → Option CoverEntry
entry_of r = option_and_then (λ set. option_and_then (entry_with set) (read_each read_numbers (pieces 59 r.1))) (read_number r.0)

abbrev pub read_entry : List ℕ → Option CoverEntry
read_entry bytes = option_and_then entry_of (cut 58 bytes)

abbrev pub read_cover : List ℕ → Option Cert
read_cover bytes = option_and_then (λ inner. option_map CoverCert (read_joined 124 read_entry inner)) (before (41 ∷ []) bytes)

-- a cover, or else a bound
abbrev pub cert_by : List ℕ → Option (List ℕ) → Option Cert
cert_by bytes (Some more) = read_cover more
cert_by bytes None = option_and_then (λ more. option_map GridCert (read_number more)) (behind (codes "g") bytes)

abbrev pub read_cert : List ℕ → Option Cert
read_cert bytes = cert_by bytes (behind (codes "c(") bytes)

abbrev pub read_certs : List ℕ → Option (List Cert)
read_certs [] = Some []
read_certs (b ∷ bs) = option_and_then (λ more. read_each read_cert (pieces 32 more)) (behind (32 ∷ []) (b ∷ bs))

-- ---- values

-- a point of a grid of n tags: a count for each, and none of the other tags of a bag
abbrev pub point_of : ℕ → List ℕ → Option (List ℕ)
point_of n counts = if nat_eq (length counts) n && nat_le n 32 then Some (counts ++ drop n (replicate 32 0)) else None

abbrev pub read_point : ℕ → List ℕ → Option (List ℕ)
read_point n bytes = option_and_then (point_of n) (read_numbers bytes)

abbrev pub grid_with : ℕ → ℕ → List (List ℕ) → Option VarValue
grid_with n k points = if points_fit k n points then Some (GridForm k points) else None

abbrev pub grid_of : ℕ → List (List ℕ) → Option VarValue
grid_of n [] = None
grid_of n (x ∷ xs) =
    if nat_le n 32 then option_and_then (λ k. option_and_then (grid_with n k) (read_each (read_point n) xs)) (read_number x) else None

abbrev pub closed_value : Pat → Option VarValue
closed_value e = if is_closed e then Some (PatternForm e) else None

abbrev pub read_closed : List (List ℕ) → List ℕ → Option VarValue
read_closed names bytes = option_and_then closed_value (read_pattern names bytes)

-- a grid, or else a pattern
abbrev pub value_by : List (List ℕ) → List ℕ → Option (List ℕ) → Option VarValue
value_by names bytes (Some more) = grid_of (length names) (pieces 32 more)
value_by names bytes None = read_closed names bytes

abbrev pub read_value : List (List ℕ) → List ℕ → Option VarValue
read_value names bytes = value_by names bytes (behind (64 ∷ []) bytes)

-- ---- lines

abbrev pub var_in : List ℕ → ℕ × List (List ℕ) → Option VarLine
var_in bytes f = option_map (λ v. record { interface = f.0; value = v }) (read_value f.1 bytes)

abbrev pub var_named : Program → List ℕ × List ℕ → Option VarLine
var_named p r = option_and_then (var_in r.1) (found r.0 p.interfaces)

-- if the number is the one that is wanted
abbrev pub if_numbered : {A : Type 0} → ℕ → Option A → ℕ → Option A
if_numbered n o k = if nat_eq k n then o else None

-- what stands behind the number, if it is the one that is wanted
abbrev pub behind_number : ℕ → List ℕ → Option (List ℕ)
behind_number n bytes = option_and_then (λ r. option_and_then (if_numbered n (Some r.1)) (read_number r.0)) (cut 32 bytes)

-- behind `var `, with this number
abbrev pub read_var : Program → ℕ → List ℕ → Option VarLine
read_var p n bytes = option_and_then (λ more. option_and_then (var_named p) (cut 32 more)) (behind_number n bytes)

abbrev pub node_with : Program → TypeOf → List ℕ × List ℕ → Option Line
node_with p t r = option_and_then (λ es. option_map (λ cs. record { of = record { result = t; needs = es }; certs = cs }) (read_certs r.1)) (read_needs p r.0)

abbrev pub node_of : Program → List ℕ × List ℕ → Option Line
node_of p r =
    option_and_then (λ own. option_and_then (λ s. option_and_then (λ t. node_with p t s) (read_type p own)) (cut 125 r.1)) (before (32 ∷ []) r.0)

-- behind `node `, with this number
abbrev pub read_node : Program → ℕ → List ℕ → Option Line
read_node p n bytes = option_and_then (λ more. option_and_then (node_of p) (cut 123 more)) (behind_number n bytes)

-- ---- the derivation so far, with a line more

-- a variable, as long as there is no node
abbrev pub var_by : Program → Derivation → List ℕ → List Line → Option Derivation
var_by p d bytes [] = option_map (λ v. record { vars = d.vars ++ v ∷ []; lines = [] }) (read_var p (suc (length d.vars)) bytes)
var_by p d bytes (l ∷ ls) = None

abbrev pub with_var : Program → Derivation → List ℕ → Option Derivation
with_var p d bytes = var_by p d bytes d.lines

abbrev pub with_node : Program → Derivation → List ℕ → Option Derivation
with_node p d bytes = option_map (λ l. record { vars = d.vars; lines = d.lines ++ l ∷ [] }) (read_node p (length d.lines) bytes)

-- a variable, or else a node
abbrev pub line_by : Program → Derivation → List ℕ → Option (List ℕ) → Option Derivation
line_by p d bytes (Some more) = with_var p d more
line_by p d bytes None = option_and_then (with_node p d) (behind (codes "node ") bytes)

abbrev pub with_line : Program → Derivation → List ℕ → Option Derivation
with_line p d bytes = line_by p d bytes (behind (codes "var ") bytes)

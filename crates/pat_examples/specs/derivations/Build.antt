-- Short words for writing programs and derivations down.
use Rattle.std.specs.Prelude.{ℕ, List}
use Rattle.pat_words_spec.specs.Patterns.{Pat}
use Rattle.pat_semantics_spec.specs.Values.{BaseUnit}
use Rattle.pat_semantics_spec.specs.Programs.{Sending, Receiving, TagDecl, Interface}
use Rattle.pat_type_system_spec.specs.Types.{Second, Returnable, MailboxType, TypeOf, BaseTerm, MailboxTerm, mailbox_type}
use Rattle.pat_inclusion_spec.specs.Covers.{CoverEntry}
use Rattle.pat_inclusion_spec.specs.Values.{PatternForm, VarLine}
use Rattle.pat_inclusion_spec.specs.Certificates.{Cert}
use Rattle.pat_type_schemes_spec.specs.NodeTypes.{Needs}
use Rattle.pat_derivation_spec.specs.Derivations.{Line, Derivation}

-- the interface with this name and these tags
abbrev pub interface : List ℕ → List TagDecl → Interface
interface name tags = record { name = name; tags = tags }

-- the result types `Unit` and `I?E`
abbrev pub unit : TypeOf
unit = BaseTerm BaseUnit

abbrev pub gives_receiving : ℕ → Pat → TypeOf
gives_receiving i e = MailboxTerm i Receiving e

-- the types `I?E ret` and `I!E sec` of a variable
abbrev pub receives : ℕ → ℕ → Pat → ℕ × MailboxType
receives x i e = (x, mailbox_type i Receiving e Returnable)

abbrev pub sends : ℕ → ℕ → Pat → ℕ × MailboxType
sends x i e = (x, mailbox_type i Sending e Second)

abbrev pub receives_second : ℕ → ℕ → Pat → ℕ × MailboxType
receives_second x i e = (x, mailbox_type i Receiving e Second)

-- a line of a node
abbrev pub line : TypeOf → Needs → List Cert → Line
line result needs certs = record { of = record { result = result; needs = needs }; certs = certs }

-- a variable in pattern form
abbrev pub variable : ℕ → Pat → VarLine
variable i e = record { interface = i; value = PatternForm e }

-- a derivation
abbrev pub derivation : List VarLine → List Line → Derivation
derivation vars lines = record { vars = vars; lines = lines }

-- an entry of a cover
abbrev pub entry : ℕ → List ℕ → List (List ℕ) → CoverEntry
entry set base periods = record { set = set; base = base; periods = periods }

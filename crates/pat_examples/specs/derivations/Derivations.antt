-- Derivations, and forged ones.
use Rattle.std.specs.Prelude.{ℕ, List, [], ◌∷◌, ◌++◌, slice_set}
use Rattle.pat_words_spec.specs.Patterns.{Pat, One, Tag, Sum, Prod, Star, Var}
use Rattle.pat_inclusion_spec.specs.Values.{GridForm, VarLine}
use Rattle.pat_type_schemes_spec.specs.NodeTypes.{Needs}
use Rattle.pat_inclusion_spec.specs.Certificates.{Cert, CoverCert, GridCert}
use Rattle.pat_derivation_spec.specs.Derivations.{Line, Derivation}
use Rattle.pat_examples.specs.derivations.Build.{unit, gives_receiving, receives, sends, receives_second, line, variable, derivation, entry}
use Rattle.pat_examples.specs.derivations.Programs.{pairs, any, some_or_none}

-- of the program of one message
abbrev pub one_message_derived : Derivation
one_message_derived = derivation (variable 0 One ∷ [])
    (line unit [] []
    ∷ line (gives_receiving 0 (Var 1)) [] []
    ∷ line unit (receives 0 0 (Var 1) ∷ []) []
    ∷ line unit (sends 0 0 (Tag 0) ∷ []) []
    ∷ line unit (receives 0 0 (Tag 0) ∷ []) []
    ∷ line unit (receives 1 0 One ∷ []) []
    ∷ line unit [] []
    ∷ [])

-- with another line for node n
abbrev pub with_line : Derivation → ℕ → Line → Derivation
with_line d n l = record d { lines = slice_set d.lines n l }

-- with one line more
abbrev pub with_more : Derivation → Line → Derivation
with_more d l = record d { lines = d.lines ++ l ∷ [] }

-- with another value for its first variable
abbrev pub with_value : Derivation → Pat → Derivation
with_value d e = record d { vars = variable 0 e ∷ [] }

-- with another second variable
abbrev pub with_second : Derivation → VarLine → Derivation
with_second d v = record d { vars = slice_set d.vars 1 v }

-- of the program that sends twice, up to the first send; its first node needs these
abbrev pub sends_twice_cut : Needs → Derivation
sends_twice_cut needs = derivation [] (line unit needs [] ∷ line unit (sends 0 0 (Tag 0) ∷ []) [] ∷ [])

-- of the program that hands on, with these certificates of its first node
abbrev pub handed_on : Pat → Cert → Derivation
handed_on f cert = derivation []
    (line unit (receives 0 0 f ∷ []) (cert ∷ [])
    ∷ line unit (receives 0 0 f ∷ []) []
    ∷ line unit [] []
    ∷ [])

-- pairs lie in what stands apart: base of nothing; the period is one of each
abbrev pub pairs_cover : Cert
pairs_cover = CoverCert (entry 0 (0 ∷ 0 ∷ []) ((1 ∷ 1 ∷ []) ∷ []) ∷ [])

-- the same with a wrong number
abbrev pub wrong_cover : Cert
wrong_cover = CoverCert (entry 0 (0 ∷ 0 ∷ []) ((1 ∷ 2 ∷ []) ∷ []) ∷ [])

-- pairs lie in themselves by a cover: there is no need, so the certificate is left over
abbrev pub pairs_again : Derivation
pairs_again = derivation []
    (line unit (receives 0 0 pairs ∷ []) (CoverCert (entry 0 (0 ∷ []) ((1 ∷ []) ∷ []) ∷ []) ∷ [])
    ∷ line unit (receives 0 0 pairs ∷ []) []
    ∷ line unit [] []
    ∷ [])

-- of the program whose last parameter has no pattern: a grid with bound k, and these points
abbrev pub grid_derived : ℕ → List (List ℕ) → Cert → Derivation
grid_derived k points cert = derivation (record { interface = 0; value = GridForm k points } ∷ [])
    (line unit (receives 0 0 some_or_none ∷ []) (GridCert 2 ∷ [])
    ∷ line unit (receives 0 0 (Var 1) ∷ []) (cert ∷ [])
    ∷ line unit (receives 0 0 (Var 1) ∷ []) []
    ∷ line unit [] []
    ∷ [])

-- of the program that hands over the right to receive
abbrev pub delegation_derived : Derivation
delegation_derived = derivation (variable 0 any ∷ variable 1 (Tag 0) ∷ [])
    (line unit (receives 0 0 any ∷ []) []
    ∷ line unit [] []
    ∷ line unit (receives 1 0 (Var 1) ∷ []) []
    ∷ line unit (receives 0 1 (Tag 0) ∷ []) []
    ∷ line unit (receives_second 1 0 any ∷ receives 2 1 One ∷ []) []
    ∷ line unit (receives 2 1 One ∷ []) []
    ∷ line unit [] []
    ∷ line unit (receives_second 1 0 any ∷ []) []
    ∷ line unit (receives 1 0 (Var 1) ∷ []) []
    ∷ line unit [] []
    ∷ line (gives_receiving 1 One) [] []
    ∷ line unit (receives 0 1 One ∷ []) []
    ∷ line unit (receives_second 0 1 (Var 2) ∷ []) []
    ∷ line unit (receives 0 1 (Var 2) ∷ []) []
    ∷ line unit (sends 0 1 (Tag 0) ∷ []) []
    ∷ line (gives_receiving 0 One) [] []
    ∷ line unit (sends 0 1 (Tag 0) ∷ receives 1 0 One ∷ []) (CoverCert (entry 0 (1 ∷ []) [] ∷ []) ∷ [])
    ∷ line unit (sends 0 1 (Tag 0) ∷ receives_second 1 0 any ∷ []) []
    ∷ line unit (sends 1 0 (Tag 0) ∷ []) []
    ∷ [])

-- of the program with a future
abbrev pub future_derived : Derivation
future_derived = derivation (variable 0 (Prod (Tag 0) (Star (Tag 1))) ∷ variable 0 (Star (Tag 1)) ∷ [])
    (line unit (receives 0 0 (Prod (Tag 0) (Star (Tag 1))) ∷ []) []
    ∷ line unit (receives 2 0 (Star (Tag 1)) ∷ []) []
    ∷ line unit (receives 0 0 (Star (Tag 1)) ∷ []) []
    ∷ line unit [] []
    ∷ line unit (sends 2 1 (Tag 0) ∷ receives 3 0 (Star (Tag 1)) ∷ []) []
    ∷ line unit (sends 2 1 (Tag 0) ∷ []) []
    ∷ line unit (receives 3 0 (Star (Tag 1)) ∷ []) []
    ∷ line unit [] []
    ∷ line (gives_receiving 0 One) [] []
    ∷ line unit (receives 0 0 One ∷ []) (CoverCert (entry 0 (1 ∷ []) [] ∷ []) ∷ [])
    ∷ line unit (receives_second 0 0 (Var 1) ∷ []) []
    ∷ line unit (receives 0 0 (Var 1) ∷ []) []
    ∷ line unit (sends 0 0 (Prod (Tag 0) (Tag 1)) ∷ []) []
    ∷ line (gives_receiving 1 One) [] []
    ∷ line unit (sends 0 0 (Prod (Tag 0) (Tag 1)) ∷ receives 1 1 One ∷ []) []
    ∷ line unit (sends 0 0 (Tag 0) ∷ []) []
    ∷ line unit (sends 0 0 (Tag 0) ∷ []) []
    ∷ line unit (sends 0 0 (Tag 1) ∷ receives 1 1 One ∷ []) []
    ∷ line unit (sends 0 0 (Tag 1) ∷ sends 1 1 (Tag 0) ∷ []) []
    ∷ line unit (receives 1 1 (Tag 0) ∷ []) []
    ∷ line unit (receives 3 1 One ∷ []) []
    ∷ line unit (receives 3 1 One ∷ []) []
    ∷ line unit [] []
    ∷ line unit [] []
    ∷ line unit [] []
    ∷ [])

-- ---- of programs that no derivation is valid for

-- it lets a mailbox go
abbrev pub leak_derived : Derivation
leak_derived = derivation [] (line unit [] [] ∷ line (gives_receiving 0 One) [] [] ∷ line unit [] [] ∷ [])

-- it sends a mailbox to itself
abbrev pub alias_derived : Derivation
alias_derived = derivation []
    (line unit [] []
    ∷ line (gives_receiving 0 One) [] []
    ∷ line unit (receives 0 0 One ∷ []) []
    ∷ line unit (sends 0 0 (Sum (Tag 0) (Tag 1)) ∷ []) []
    ∷ line unit (receives 0 0 (Sum (Tag 0) (Tag 1)) ∷ []) []
    ∷ line unit (sends 1 0 (Tag 1) ∷ receives 2 0 One ∷ []) []
    ∷ line unit (sends 1 0 (Tag 1) ∷ []) []
    ∷ line unit (receives 2 0 One ∷ []) []
    ∷ line unit [] []
    ∷ line unit (receives 3 0 One ∷ []) []
    ∷ line unit [] []
    ∷ [])

-- beside a received payload, it uses another name of the same mailbox
abbrev pub beside_derived : Derivation
beside_derived = derivation []
    (line unit (sends 0 0 One ∷ []) []
    ∷ line unit [] []
    ∷ line (gives_receiving 0 One) [] []
    ∷ line unit (receives 0 0 One ∷ []) []
    ∷ line (gives_receiving 1 One) [] []
    ∷ line unit (receives 0 0 One ∷ receives 1 1 One ∷ []) []
    ∷ line unit (sends 0 0 One ∷ sends 1 1 (Tag 0) ∷ []) []
    ∷ line unit (receives 0 0 One ∷ receives 1 1 (Tag 0) ∷ []) []
    ∷ line unit (receives 0 0 One ∷ sends 2 0 One ∷ receives 3 1 One ∷ []) []
    ∷ line unit (receives 3 1 One ∷ []) []
    ∷ line unit [] []
    ∷ line unit (receives 0 0 One ∷ sends 2 0 One ∷ []) []
    ∷ line unit (receives 0 0 One ∷ []) []
    ∷ line unit [] []
    ∷ line unit (sends 2 0 One ∷ []) []
    ∷ [])

-- a guard without a free clause
abbrev pub uncovered_derived : Derivation
uncovered_derived = derivation []
    (line unit [] []
    ∷ line (gives_receiving 0 (Sum (Tag 0) One)) [] []
    ∷ line unit (receives 0 0 (Sum (Tag 0) One) ∷ []) []
    ∷ line unit (receives 1 0 One ∷ []) []
    ∷ line unit [] []
    ∷ [])

-- a function that sends on, with this value
abbrev pub sends_on_derived : Pat → Derivation
sends_on_derived e = derivation (variable 0 e ∷ []) (line unit (sends 0 0 (Star (Tag 0)) ∷ []) [] ∷ line unit [] [] ∷ [])

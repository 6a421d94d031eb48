-- What is left of certificates once inclusions are shown.
use Rattle.std.specs.Prelude.{◌≡◌, ℕ, false, List, [], ◌∷◌, ◌++◌, Option, Some, None}
use Rattle.pat_words_spec.specs.Patterns.{Pat}
use Rattle.pat_inclusion_spec.specs.Values.{Scope}
use Rattle.pat_inclusion_spec.specs.Certificates.{Cert, Inclusion, are_shown}
use Rattle.pat_certificate_checks.specs.declared.showing.Showing.{Showing}
use Rattle.pat_certificate_checks.specs.declared.showing.Showing.TheVariants as outcome

-- what the inclusions and others ask of the certificates is what the others ask of those that are left
abbrev pub Leaves : Scope → List Inclusion → List Cert → Option (List Cert) → Type 0
Leaves s qs certs None = (more : List Inclusion) → are_shown s (qs ++ more) certs ≡ false
Leaves s qs certs (Some rest) = (more : List Inclusion) → are_shown s (qs ++ more) certs ≡ are_shown s more rest

-- the certificates but the first
abbrev pub but_first : List Cert → List Cert
but_first [] = []
but_first (cert ∷ certs) = certs

-- what is left where the inclusion is shown so
abbrev pub left_by : Showing → List Cert → Option (List Cert)
left_by outcome.NotShown certs = None
left_by outcome.Trivially certs = Some certs
left_by outcome.ByNext certs = Some (but_first certs)

-- so it is of one inclusion
abbrev pub Takes : Scope → Option ℕ → Pat → Pat → List Cert → Showing → Type 0
Takes s i e f certs how = Leaves s (record { interface = i; left = e; right = f } ∷ []) certs (left_by how certs)

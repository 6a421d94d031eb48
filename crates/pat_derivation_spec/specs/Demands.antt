-- Demands: what a node asks of the types that it has, in order. Three rules look at the same demands: that what is used is there and
-- is used as it may be, that what is not passed on may be dropped, and that the inclusions are shown.
use Rattle.std.specs.Prelude.{ℕ, Bool, true, false, ◌&&◌, nat_eq, if◌then◌else◌, List, [], ◌∷◌, Option, Some, None}
use Rattle.pat_words_spec.specs.Patterns.{Pat, is_nullable, prod_of, subst_of}
use Rattle.pat_type_system_spec.specs.Programs.{Polarity, Sending, Receiving}
use Rattle.pat_type_system_spec.specs.Types.{MailboxType, TypeOf, BaseTerm, MailboxTerm}
use Rattle.pat_type_schemes_spec.specs.Values.{Scope, pattern_of, is_formed}
use Rattle.pat_type_schemes_spec.specs.Certificates.{Inclusion}
use Rattle.pat_type_schemes_spec.specs.Compared.{polarity_eq, is_second, usage_fits}
use Rattle.pat_derivation_spec.specs.Same.{is_same_type}

-- a demand
pub data Demand : Type 0 where
  -- what is there, if anything, passes to what is asked, if anything
  Pass : (given asked : Option MailboxType) → Demand
  -- what is there is divided among the bound part and the body of a let
  Divide : (given bound body : Option MailboxType) → Demand
  -- something is there where something is asked, whatever their types are
  There : (given asked : Option MailboxType) → Demand
  -- the name of a let has the bound part's type in the body, or the body does without it
  Name : (bound : TypeOf) → (body : Option MailboxType) → Demand

-- ---- what is used is there, and polarity and usage fit

-- polarity and usage fit
abbrev pub uses_fit : MailboxType → MailboxType → Bool
uses_fit a b = polarity_eq a.polarity b.polarity && usage_fits a.usage b.usage

-- the three polarities are those of a row of the table: bound part, body, what is there
abbrev pub polarities_join : Polarity → Polarity → Polarity → Bool
polarities_join Sending Sending Sending = true
polarities_join Sending Receiving Receiving = true
polarities_join Receiving Sending Receiving = true
polarities_join _ _ _ = false

-- b in the bound part and c in the body are uses that join to one of a
abbrev pub uses_join : MailboxType → MailboxType → MailboxType → Bool
uses_join b c a =
    is_second b.usage && (usage_fits a.usage c.usage && polarities_join b.polarity c.polarity a.polarity)

-- the type of a variable, taken as that of a term
abbrev pub as_term : MailboxType → TypeOf
as_term a = MailboxTerm a.interface a.polarity a.pattern

abbrev pub is_used_well : Demand → Bool
is_used_well (Pass None (Some b)) = false
is_used_well (Pass (Some a) (Some b)) = uses_fit a b
is_used_well (Pass _ None) = true
is_used_well (Divide None None None) = true
is_used_well (Divide None _ _) = false
is_used_well (Divide (Some a) None None) = true
is_used_well (Divide (Some a) (Some b) None) = uses_fit a b
is_used_well (Divide (Some a) None (Some c)) = uses_fit a c
is_used_well (Divide (Some a) (Some b) (Some c)) = uses_join b c a
is_used_well (There None (Some b)) = false
is_used_well (There _ _) = true
is_used_well (Name t None) = true
is_used_well (Name t (Some a)) = is_same_type t (as_term a)

-- ---- what is not passed on may be dropped

-- a sending type of which nothing need be sent
abbrev pub drops_as : Scope → ℕ → Polarity → Pat → Bool
drops_as s i Sending e = is_formed s i e && is_nullable (subst_of (pattern_of s) e)
drops_as s i Receiving e = false

-- a variable of this type may be dropped
abbrev pub may_drop : Scope → MailboxType → Bool
may_drop s a = drops_as s a.interface a.polarity a.pattern

-- a term of this type may be dropped
abbrev pub term_may_drop : Scope → TypeOf → Bool
term_may_drop s (BaseTerm b) = false
term_may_drop s (MailboxTerm i q e) = drops_as s i q e

abbrev pub is_dropped_well : Scope → Demand → Bool
is_dropped_well s (Pass (Some a) None) = may_drop s a
is_dropped_well s (Divide (Some a) None None) = may_drop s a
is_dropped_well s (Name t None) = term_may_drop s t
is_dropped_well s _ = true

-- ---- the inclusions that are needed

-- the interface, if both are the same
abbrev pub same_interface : ℕ → ℕ → Option ℕ
same_interface i j = if nat_eq i j then Some i else None

-- the interface, if all three are the same
abbrev pub one_interface : ℕ → ℕ → ℕ → Option ℕ
one_interface i j k = if nat_eq i k && nat_eq j k then Some k else None

-- each word of the one pattern is a word of the other
abbrev pub inclusion : Option ℕ → Pat → Pat → Inclusion
inclusion i e f = record { interface = i; left = e; right = f }

-- more may be sent than is needed, and less may be received than is allowed
abbrev pub fit_by : Polarity → Option ℕ → Pat → Pat → Inclusion
fit_by Sending i e f = inclusion i f e
fit_by Receiving i e f = inclusion i e f

-- what is needed for a to fit b
abbrev pub fit_inclusion : MailboxType → MailboxType → Inclusion
fit_inclusion a b = fit_by b.polarity (same_interface a.interface b.interface) a.pattern b.pattern

-- what is needed for patterns to join, by the row of the table
abbrev pub join_by : Polarity → Polarity → Polarity → Option ℕ → Pat → Pat → Pat → List Inclusion
join_by Sending Sending Sending i e1 e2 e = inclusion i (prod_of e1 e2) e ∷ []
join_by Sending Receiving Receiving i e1 e2 e = inclusion i (prod_of e1 e) e2 ∷ []
join_by Receiving Sending Receiving i e1 e2 e = inclusion i (prod_of e2 e) e1 ∷ []
join_by _ _ _ i e1 e2 e = []

-- what is needed for b in the bound part and c in the body to join to a
abbrev pub join_inclusions : MailboxType → MailboxType → MailboxType → List Inclusion
join_inclusions b c a =
    join_by b.polarity c.polarity a.polarity (one_interface b.interface c.interface a.interface) b.pattern c.pattern a.pattern

abbrev pub inclusions_of : Demand → List Inclusion
inclusions_of (Pass (Some a) (Some b)) = fit_inclusion a b ∷ []
inclusions_of (Divide (Some a) (Some b) None) = fit_inclusion a b ∷ []
inclusions_of (Divide (Some a) None (Some c)) = fit_inclusion a c ∷ []
inclusions_of (Divide (Some a) (Some b) (Some c)) = join_inclusions b c a
inclusions_of _ = []

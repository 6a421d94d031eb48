-- Names that are bound with a type: parameters, and the names of clauses.
use Rattle.std.specs.Prelude.{ℕ, suc, Bool, true, not, List, [], ◌∷◌, ◌++◌, Option, Some, None}
use Rattle.std.specs.List.{flat_map}
use Rattle.pat_words_spec.specs.Patterns.{Pat, One}
use Rattle.pat_semantics_spec.specs.Programs.{Polarity, Sending, Receiving, Sort}
use Rattle.pat_type_system_spec.specs.Types.{Usage, MailboxType, TypeEnv}
use Rattle.pat_type_schemes_spec.specs.Compared.{is_receiver, polarity_eq, usage_fits}
use Rattle.pat_type_schemes_spec.specs.NodeTypes.{Needs, need_of}
use Rattle.pat_infer_spec.specs.Constraints.{Place, AtName, UnusedRule, PolarityRule, SecondRule, Finding, each_unless, Constraint, constraint}

-- a name that is bound with a type, and what is needed of it
pub record Binder : Type 0 where
  pub name : ℕ
  pub type : MailboxType
  pub need : Option MailboxType

-- what is receiving is needed
abbrev pub used_as : Polarity → Option MailboxType → Bool
used_as q None = not (is_receiver q)
used_as q (Some b) = true

-- what is needed has the polarity
abbrev pub polarity_as : Polarity → Option MailboxType → Bool
polarity_as q None = true
polarity_as q (Some b) = polarity_eq q b.polarity

-- what is second-class isn't needed as returnable
abbrev pub usage_as : Usage → Option MailboxType → Bool
usage_as u None = true
usage_as u (Some b) = usage_fits u b.usage

-- the three rules of names, one after another, each for all names
abbrev pub binder_findings : ℕ → List Binder → List Finding
binder_findings f bs =
    each_unless (λ b. used_as b.type.polarity b.need) UnusedRule (λ b. AtName f b.name) bs
    ++ each_unless (λ b. polarity_as b.type.polarity b.need) PolarityRule (λ b. AtName f b.name) bs
    ++ each_unless (λ b. usage_as b.type.usage b.need) SecondRule (λ b. AtName f b.name) bs

-- a sending name's pattern has what is needed, and the empty word where nothing is; a receiving name's words are taken
abbrev pub name_constraints : Place → ℕ → Polarity → Pat → Option MailboxType → List Constraint
name_constraints at i Sending e None = constraint i One e at ∷ []
name_constraints at i Sending e (Some b) = constraint i b.pattern e at ∷ []
name_constraints at i Receiving e None = []
name_constraints at i Receiving e (Some b) = constraint i e b.pattern at ∷ []

-- the constraints of names
abbrev pub binder_constraints : ℕ → List Binder → List Constraint
binder_constraints f bs =
    flat_map (λ b. name_constraints (AtName f b.name) b.type.interface b.type.polarity b.type.pattern b.need) bs

-- a name, if it has a type, before others
abbrev pub name_before : ℕ → Option MailboxType → Option MailboxType → List Binder → List Binder
name_before x None need bs = bs
name_before x (Some a) need bs = record { name = x; type = a; need = need } ∷ bs

-- the names with the types at their places, from place k on
abbrev pub names_bound : TypeEnv → ℕ → List ℕ → Needs → List Binder
names_bound types k [] needs = []
names_bound types k (x ∷ xs) needs = name_before x (types k) (need_of needs x) (names_bound types (suc k) xs needs)

-- the names of parameters, which are the variables from k on
abbrev pub param_names : ℕ → List Sort → List ℕ
param_names k [] = []
param_names k (s ∷ ss) = k ∷ param_names (suc k) ss

-- Names that are bound with a type: the rules and constraints of names say just that their types pass to what is needed of them.
use Rattle.std.proofs.Common.{◌≡◌, ℕ, suc, true, false, not, ◌||◌, nat_eq, List, [], ◌∷◌, ◌++◌, Option, Some, None, refl, sym, ap, ◌∙◌, subst}
use Rattle.std.specs.List.{AllByRecursion, IsDistinct, flat_map}
use Rattle.std.proofs.lemmas.Bool.{cond-true, eq-eqb}
use Rattle.pat_words_spec.specs.Words.{no_word}
use Rattle.pat_words_spec.specs.Patterns.{Pat, In}
use Rattle.pat_semantics_spec.specs.Programs.{Polarity, Sending, Receiving, Sort}
use Rattle.pat_semantics_laws.proofs.Lists.{nil_parts, all_join, distinct_parts}
use Rattle.pat_type_system_spec.specs.Types.{Usage, Second, Returnable, MailboxType, UsageFits, PatternFits, DropsAs, PassesTo, TypeEnv}
use Rattle.pat_type_system_spec.specs.Typings.{with_option, with_payloads}
use Rattle.pat_type_system_laws.proofs.Environments.{option_there}
use Rattle.pat_inclusion_spec.specs.Values.{replaced}
use Rattle.pat_type_schemes_spec.specs.NodeTypes.{type_under, need_under, Needs, need_of}
use Rattle.pat_type_schemes_spec.specs.Compared.{is_receiver, polarity_eq, is_second}
use Rattle.pat_infer_spec.specs.Constraints.{Place, AtName, UnusedRule, PolarityRule, SecondRule, each_unless}
use Rattle.pat_infer_spec.specs.Binders.{Binder, used_as, polarity_as, usage_as, binder_findings, name_constraints, binder_constraints, name_before, names_bound, param_names}
use Rattle.pat_infer_laws.proofs.Gathering.{all_parts, all_map, each_none, none_each, nil_join}
use Rattle.pat_infer_laws.proofs.BothLaws.{Holds}

-- the name's type passes to what is needed of it
abbrev pub NamePassed : (ℕ → Pat) → Binder → Type 0
NamePassed s b = PassesTo (Some (type_under s b.type)) (need_under s b.need)

-- what is needed of the name is of its interface
abbrev pub SameInterface : Binder → Type 0
SameInterface b = (a : MailboxType) → b.need ≡ Some a → b.type.interface ≡ a.interface

-- ---- one name

-- the rules of the name hold, and its constraints
pub record NameFine (s : ℕ → Pat) (f : ℕ) (b : Binder) : Type 0 where
  pub used : used_as b.type.polarity b.need ≡ true
  pub polarity : polarity_as b.type.polarity b.need ≡ true
  pub usage : usage_as b.type.usage b.need ≡ true
  pub holds : AllByRecursion (Holds s) (name_constraints (AtName f b.name) b.type.interface b.type.polarity b.type.pattern b.need)

usage_fine : (u v : Usage) → UsageFits u v → (not (is_second u) || is_second v) ≡ true
usage_fine Second Second h = refl
usage_fine Second Returnable h = absurd h
usage_fine Returnable v h = refl

fine_usage : (u v : Usage) → (not (is_second u) || is_second v) ≡ true → UsageFits u v
fine_usage Second Second h = tt
fine_usage Second Returnable h = cc
fine_usage Returnable Second h = tt
fine_usage Returnable Returnable h = tt

fine_needed : (s : ℕ → Pat) (at : Place) (i : ℕ) (q r : Polarity) (e : Pat) (b : MailboxType) → b.polarity ≡ r → q ≡ r → PatternFits r (replaced s e) (replaced s b.pattern) → (polarity_eq q r ≡ true) × AllByRecursion (Holds s) (name_constraints at i q e (Some b))
fine_needed s at i Sending Sending e b br same fit = (refl, (fit, tt))
fine_needed s at i Receiving Receiving e b br same fit = (refl, (fit, tt))
fine_needed s at i Sending Receiving e b br same fit = cc
fine_needed s at i Receiving Sending e b br same fit = cc

fine_dropped : (s : ℕ → Pat) (at : Place) (i : ℕ) (q : Polarity) (e : Pat) → DropsAs q (replaced s e) → (not (is_receiver q) ≡ true) × AllByRecursion (Holds s) (name_constraints at i q e None)
fine_dropped s at i Sending e d = (refl, (λ w j. subst (In (replaced s e)) (sym j) d, tt))
fine_dropped s at i Receiving e d = absurd d

pub passed_fine : (s : ℕ → Pat) (f : ℕ) (b : Binder) → NamePassed s b → NameFine s f b
passed_fine s f b = go b.type b.need
  where
    go : (a : MailboxType) (o : Option MailboxType) → PassesTo (Some (type_under s a)) (need_under s o) → NameFine s f (record { name = b.name; type = a; need = o })
    go a None h =
        let q = fine_dropped s (AtName f b.name) a.interface a.polarity a.pattern h in
        record { used = q.0; polarity = refl; usage = refl; holds = q.1 }
    go a (Some c) h =
        let q = fine_needed s (AtName f b.name) a.interface a.polarity c.polarity a.pattern c refl h.polarity h.pattern in
        record { used = refl; polarity = q.0; usage = usage_fine a.usage c.usage h.usage; holds = q.1 }

needed_fits : (s : ℕ → Pat) (at : Place) (i : ℕ) (q r : Polarity) (e : Pat) (b : MailboxType) → polarity_eq q r ≡ true → AllByRecursion (Holds s) (name_constraints at i q e (Some b)) → (q ≡ r) × PatternFits r (replaced s e) (replaced s b.pattern)
needed_fits s at i Sending Sending e b same h = (refl, h.0)
needed_fits s at i Receiving Receiving e b same h = (refl, h.0)
needed_fits s at i Sending Receiving e b same h = cc
needed_fits s at i Receiving Sending e b same h = cc

dropped_drops : (s : ℕ → Pat) (at : Place) (i : ℕ) (q : Polarity) (e : Pat) → not (is_receiver q) ≡ true → AllByRecursion (Holds s) (name_constraints at i q e None) → DropsAs q (replaced s e)
dropped_drops s at i Sending e used h = h.0 no_word refl
dropped_drops s at i Receiving e used h = cc

pub fine_passed : (s : ℕ → Pat) (f : ℕ) (b : Binder) → SameInterface b → NameFine s f b → NamePassed s b
fine_passed s f b face h = go b.need face h.used h.polarity h.usage h.holds
  where
    go : (o : Option MailboxType) → ((a : MailboxType) → o ≡ Some a → b.type.interface ≡ a.interface) → used_as b.type.polarity o ≡ true → polarity_as b.type.polarity o ≡ true → usage_as b.type.usage o ≡ true → AllByRecursion (Holds s) (name_constraints (AtName f b.name) b.type.interface b.type.polarity b.type.pattern o) → PassesTo (Some (type_under s b.type)) (need_under s o)
    go None face used pol u holds = dropped_drops s (AtName f b.name) b.type.interface b.type.polarity b.type.pattern used holds
    go (Some c) face used pol u holds =
        let q = needed_fits s (AtName f b.name) b.type.interface b.type.polarity c.polarity b.type.pattern c pol holds in
        record {
          interface = face c refl;
          polarity = q.0;
          usage = fine_usage b.type.usage c.usage u;
          pattern = q.1;
        }

-- ---- all names

pub all_flat : {A B : Type 0} (P : B → Type 0) (f : A → List B) (xs : List A) → AllByRecursion (λ x. AllByRecursion P (f x)) xs → AllByRecursion P (flat_map f xs)
all_flat P f [] h = tt
all_flat P f (x ∷ xs) h = all_join P (f x) (flat_map f xs) h.0 (all_flat P f xs h.1)

pub flat_all : {A B : Type 0} (P : B → Type 0) (f : A → List B) (xs : List A) → AllByRecursion P (flat_map f xs) → AllByRecursion (λ x. AllByRecursion P (f x)) xs
flat_all P f [] h = tt
flat_all P f (x ∷ xs) h = let q = all_parts P (f x) (flat_map f xs) h in (q.0, flat_all P f xs q.1)

-- names whose types pass break no rule, and their constraints hold
pub names_fine : (s : ℕ → Pat) (f : ℕ) (bs : List Binder) → AllByRecursion (NamePassed s) bs → (binder_findings f bs ≡ []) × AllByRecursion (Holds s) (binder_constraints f bs)
names_fine s f bs h =
    let fine = all_map (NamePassed s) (NameFine s f) (passed_fine s f) bs h in
    let at : Binder → Place = λ b. AtName f b.name in
    let used = each_none (λ b. used_as b.type.polarity b.need) UnusedRule at bs (all_map (NameFine s f) (λ b. used_as b.type.polarity b.need ≡ true) (λ b q. q.used) bs fine) in
    let pol = each_none (λ b. polarity_as b.type.polarity b.need) PolarityRule at bs (all_map (NameFine s f) (λ b. polarity_as b.type.polarity b.need ≡ true) (λ b q. q.polarity) bs fine) in
    let usage = each_none (λ b. usage_as b.type.usage b.need) SecondRule at bs (all_map (NameFine s f) (λ b. usage_as b.type.usage b.need ≡ true) (λ b q. q.usage) bs fine) in (
      nil_join (each_unless (λ b. used_as b.type.polarity b.need) UnusedRule at bs ++ each_unless (λ b. polarity_as b.type.polarity b.need) PolarityRule at bs) (each_unless (λ b. usage_as b.type.usage b.need) SecondRule at bs)
          (nil_join (each_unless (λ b. used_as b.type.polarity b.need) UnusedRule at bs) (each_unless (λ b. polarity_as b.type.polarity b.need) PolarityRule at bs) used pol)
          usage,
      all_flat (Holds s) (λ b. name_constraints (AtName f b.name) b.type.interface b.type.polarity b.type.pattern b.need) bs
          (all_map (NameFine s f) (λ b. AllByRecursion (Holds s) (name_constraints (AtName f b.name) b.type.interface b.type.polarity b.type.pattern b.need)) (λ b q. q.holds) bs fine),
    )

-- and where no rule is broken and the constraints hold, the types pass
pub fine_names : (s : ℕ → Pat) (f : ℕ) (bs : List Binder) → AllByRecursion SameInterface bs → binder_findings f bs ≡ [] → AllByRecursion (Holds s) (binder_constraints f bs) → AllByRecursion (NamePassed s) bs
fine_names s f bs faces clean holds =
    let at : Binder → Place = λ b. AtName f b.name in
    let q = nil_parts (each_unless (λ b. used_as b.type.polarity b.need) UnusedRule at bs ++ each_unless (λ b. polarity_as b.type.polarity b.need) PolarityRule at bs) (each_unless (λ b. usage_as b.type.usage b.need) SecondRule at bs) clean in
    let r = nil_parts (each_unless (λ b. used_as b.type.polarity b.need) UnusedRule at bs) (each_unless (λ b. polarity_as b.type.polarity b.need) PolarityRule at bs) q.0 in
    go bs faces
    (none_each (λ b. used_as b.type.polarity b.need) UnusedRule at bs r.0)
    (none_each (λ b. polarity_as b.type.polarity b.need) PolarityRule at bs r.1)
    (none_each (λ b. usage_as b.type.usage b.need) SecondRule at bs q.1)
    (flat_all (Holds s) (λ b. name_constraints (AtName f b.name) b.type.interface b.type.polarity b.type.pattern b.need) bs holds)
  where
    go : (bs : List Binder) → AllByRecursion SameInterface bs → AllByRecursion (λ b. used_as b.type.polarity b.need ≡ true) bs → AllByRecursion (λ b. polarity_as b.type.polarity b.need ≡ true) bs → AllByRecursion (λ b. usage_as b.type.usage b.need ≡ true) bs → AllByRecursion (λ b. AllByRecursion (Holds s) (name_constraints (AtName f b.name) b.type.interface b.type.polarity b.type.pattern b.need)) bs → AllByRecursion (NamePassed s) bs
    go [] i a b c d = tt
    go (x ∷ xs) i a b c d = (fine_passed s f x i.0 (record { used = a.0; polarity = b.0; usage = c.0; holds = d.0 }), go xs i.1 a.1 b.1 c.1 d.1)

-- ---- names at places

-- what holds of each name with the type at its place
abbrev pub Places : (ℕ → MailboxType → Type 0) → TypeEnv → ℕ → List ℕ → Type 0
Places Q types k [] = Unit {0}
Places Q types k (x ∷ xs) = ((a : MailboxType) → types k ≡ Some a → Q x a) × Places Q types (suc k) xs

-- a name with a type and what is needed of it
abbrev pub binder_at : Needs → ℕ → MailboxType → Binder
binder_at needs x a = record { name = x; type = a; need = need_of needs x }

pub names_all : (P : Binder → Type 0) (types : TypeEnv) (k : ℕ) (xs : List ℕ) (needs : Needs) → Places (λ x a. P (binder_at needs x a)) types k xs → AllByRecursion P (names_bound types k xs needs)
names_all P types k [] needs h = tt
names_all P types k (x ∷ xs) needs h = go (types k) h.0 (names_all P types (suc k) xs needs h.1)
  where
    go : (o : Option MailboxType) → ((a : MailboxType) → o ≡ Some a → P (binder_at needs x a)) → AllByRecursion P (names_bound types (suc k) xs needs) → AllByRecursion P (name_before x o (need_of needs x) (names_bound types (suc k) xs needs))
    go None f rest = rest
    go (Some a) f rest = (f a refl, rest)

pub all_names : (P : Binder → Type 0) (types : TypeEnv) (k : ℕ) (xs : List ℕ) (needs : Needs) → AllByRecursion P (names_bound types k xs needs) → Places (λ x a. P (binder_at needs x a)) types k xs
all_names P types k [] needs h = tt
all_names P types k (x ∷ xs) needs h = let q = go (types k) h in (q.0, all_names P types (suc k) xs needs q.1)
  where
    go : (o : Option MailboxType) → AllByRecursion P (name_before x o (need_of needs x) (names_bound types (suc k) xs needs)) → ((a : MailboxType) → o ≡ Some a → P (binder_at needs x a)) × AllByRecursion P (names_bound types (suc k) xs needs)
    go None h = (λ a e. cc, h)
    go (Some b) h = (λ a e. let same : b ≡ a = cc in subst (λ c. P (binder_at needs x c)) same h.0, h.1)

pub places_map : (Q R : ℕ → MailboxType → Type 0) → ((x : ℕ) (a : MailboxType) → Q x a → R x a) → (types : TypeEnv) (k : ℕ) (xs : List ℕ) → Places Q types k xs → Places R types k xs
places_map Q R f types k [] h = tt
places_map Q R f types k (x ∷ xs) h = (λ a e. f x a (h.0 a e), places_map Q R f types (suc k) xs h.1)

pub places_types : (Q R : ℕ → MailboxType → Type 0) (types : TypeEnv) → ((k x : ℕ) (a : MailboxType) → types k ≡ Some a → Q x a → R x a) → (k : ℕ) (xs : List ℕ) → Places Q types k xs → Places R types k xs
places_types Q R types f k [] h = tt
places_types Q R types f k (x ∷ xs) h = (λ a e. f k x a e (h.0 a e), places_types Q R types f (suc k) xs h.1)

-- parameters are the variables at their places
pub param_places : (Q : ℕ → MailboxType → Type 0) (types : TypeEnv) (k : ℕ) (ss : List Sort) → ((j : ℕ) (a : MailboxType) → types j ≡ Some a → Q j a) → Places Q types k (param_names k ss)
param_places Q types k [] h = tt
param_places Q types k (t ∷ ss) h = (λ a e. h k a e, param_places Q types (suc k) ss h)

pub places_apart : (Q R : ℕ → MailboxType → Type 0) (P : ℕ → Type 0) → ((x : ℕ) (a : MailboxType) → P x → Q x a → R x a) → (types : TypeEnv) (k : ℕ) (xs : List ℕ) → AllByRecursion P xs → Places Q types k xs → Places R types k xs
places_apart Q R P f types k [] p h = tt
places_apart Q R P f types k (x ∷ xs) p h = (λ a e. f x a p.0 (h.0 a e), places_apart Q R P f types (suc k) xs p.1 h.1)

-- different names under the types at their places have these types
pub payload_places : (types : TypeEnv) (k : ℕ) (xs : List ℕ) (g : TypeEnv) → IsDistinct nat_eq xs → Places (λ x a. with_payloads types k xs g x ≡ Some a) types k xs
payload_places types k [] g d = tt
payload_places types k (x ∷ xs) g d =
    let q = distinct_parts x xs d in (
      λ a e.
          ap (λ o. with_option x o (with_payloads types (suc k) xs g) x) e
          ∙ cond-true (nat_eq x x) (Some a) (with_payloads types (suc k) xs g x) (eq-eqb x x refl),
      places_apart (λ z a. with_payloads types (suc k) xs g z ≡ Some a) (λ z a. with_payloads types k (x ∷ xs) g z ≡ Some a) (λ z. nat_eq x z ≡ false)
          (λ z a apart is. option_there x (types k) (with_payloads types (suc k) xs g) z apart ∙ is)
          types (suc k) xs q.0 (payload_places types (suc k) xs g q.1),
    )

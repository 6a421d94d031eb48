-- A demand that breaks no rule, and whose inclusions are shown, is met by the types into which values are put.
use Rattle.std.proofs.Common.{◌≡◌, ℕ, true, ◌&&◌, nat_eq, List, [], ◌∷◌, ◌++◌, Option, Some, None, ⊎_elim, refl, sym, ap, ◌∙◌}
use Rattle.std.specs.List.{AllByRecursion, list_all, flat_map}
use Rattle.std.proofs.lemmas.Bool.{and_parts, or_cases, eqb-true, cases_Bool, cond-false}
use Rattle.pat_words_spec.specs.Patterns.{Pat, Included, pat_eq, is_nullable, subst_of}
use Rattle.pat_words_laws.proofs.PatternLaws.{pat_eq_same}
use Rattle.pat_semantics_spec.specs.Values.{Base, BaseUnit, BaseBool, BaseInt, BaseText, Kind, Plain, MailboxOf}
use Rattle.pat_semantics_spec.specs.Programs.{Polarity, Sending, Receiving}
use Rattle.pat_type_system_spec.specs.Types.{Usage, Second, Returnable, MailboxType, TypeOf, BaseTerm, MailboxTerm, UsageFits, PatternFits, Fits, DropsAs, PassesTo, PatternJoins, Joins, SplitsTo}
use Rattle.pat_type_system_spec.specs.Typings.{NamePasses}
use Rattle.pat_inclusion_spec.specs.Values.{Scope, filled, is_formed, pattern_of}
use Rattle.pat_inclusion_spec.specs.Certificates.{Cert, Inclusion, is_shown_in, is_shown, are_shown}
use Rattle.pat_inclusion_laws.proofs.Shown.{ValuesFit, shown_includes}
use Rattle.pat_derivation_spec.specs.Same.{is_same_base, is_same_kind, is_same_type}
use Rattle.pat_derivation_spec.specs.Demands.{Demand, Pass, Divide, There, Name, uses_fit, polarities_join, uses_join, is_used_well, drops_as, is_dropped_well, same_interface, one_interface, fit_by, fit_inclusion, join_by, join_inclusions, inclusions_of}
use Rattle.pat_derivation_spec.specs.Truth.{HoldsTrue}
use Rattle.pat_derivation_laws.proofs.Filled.{filled_to, filled_from, filled_product, filled_nullable}
use Rattle.pat_type_schemes_spec.specs.NodeTypes.{type_under, result_under, need_under}
use Rattle.pat_type_schemes_spec.specs.Compared.{polarity_eq, usage_fits, is_second}

-- ---- what the tests say

pub base_same : (a b : Base) → is_same_base a b ≡ true → a ≡ b
base_same BaseUnit BaseUnit h = refl
base_same BaseBool BaseBool h = refl
base_same BaseInt BaseInt h = refl
base_same BaseText BaseText h = refl
base_same _ _ h = cc

pub kind_same : (j k : Kind) → is_same_kind j k ≡ true → j ≡ k
kind_same (Plain a) (Plain b) h = ap (λ x. Plain x) (base_same a b h)
kind_same (MailboxOf i) (MailboxOf j) h = ap (λ x. MailboxOf x) (eqb-true i j h)
kind_same _ _ h = cc

polarity_same : (p q : Polarity) → polarity_eq p q ≡ true → p ≡ q
polarity_same Sending Sending h = refl
polarity_same Receiving Receiving h = refl
polarity_same Sending Receiving h = cc
polarity_same Receiving Sending h = cc

pub type_same : (s t : TypeOf) → is_same_type s t ≡ true → s ≡ t
type_same (BaseTerm a) (BaseTerm b) h = ap (λ x. BaseTerm x) (base_same a b h)
type_same (MailboxTerm i q e) (MailboxTerm j r f) h =
    let a = and_parts (nat_eq i j) (polarity_eq q r && pat_eq e f) h in
    let b = and_parts (polarity_eq q r) (pat_eq e f) a.1 in
    ap (λ x. MailboxTerm x q e) (eqb-true i j a.0) ∙ ap (λ x. MailboxTerm j x e) (polarity_same q r b.0) ∙ ap (λ x. MailboxTerm j r x) (pat_eq_same e f b.1)
type_same (BaseTerm a) (MailboxTerm j r f) h = cc
type_same (MailboxTerm i q e) (BaseTerm b) h = cc

usage_does_fit : (a b : Usage) → usage_fits a b ≡ true → UsageFits a b
usage_does_fit Second Second h = tt
usage_does_fit Second Returnable h = cc
usage_does_fit Returnable Second h = tt
usage_does_fit Returnable Returnable h = tt

second_is : (u : Usage) → is_second u ≡ true → u ≡ Second
second_is Second h = refl
second_is Returnable h = cc

-- ---- inclusions that are shown

one_shown : (s : Scope) (q : Inclusion) (cert : Option Cert) → ValuesFit s → is_shown s q cert ≡ true → HoldsTrue s q
one_shown s q cert fit h = go q.interface refl h
  where
    go : (o : Option ℕ) → q.interface ≡ o → is_shown_in s o q.left q.right cert ≡ true → HoldsTrue s q
    go None at k = cc
    go (Some i) at k = (i, at, shown_includes s (Some i) q.left q.right cert fit k)

pub all_shown : (s : Scope) (qs : List Inclusion) (certs : List Cert) → ValuesFit s → are_shown s qs certs ≡ true → AllByRecursion (HoldsTrue s) qs
all_shown s [] certs fit h = tt
all_shown s (q ∷ qs) [] fit h =
    let both = and_parts (is_shown s q None) (are_shown s qs []) h in
    (one_shown s q None fit both.0, all_shown s qs [] fit both.1)
all_shown s (q ∷ qs) (cert ∷ certs) fit h =
    ⊎_elim
    (λ l. let both = and_parts (is_shown s q None) (are_shown s qs (cert ∷ certs)) l in
    (one_shown s q None fit both.0, all_shown s qs (cert ∷ certs) fit both.1))
    (λ r. let both = and_parts (is_shown s q (Some cert)) (are_shown s qs certs) r in
    (one_shown s q (Some cert) fit both.0, all_shown s qs certs fit both.1))
    (or_cases (is_shown s q None && are_shown s qs (cert ∷ certs)) (is_shown s q (Some cert) && are_shown s qs certs) h)

same_is : (i j k : ℕ) → same_interface i j ≡ Some k → i ≡ j
same_is i j k h =
    ⊎_elim (λ y. eqb-true i j y)
    (λ z. let q : None ≡ Some k = sym (cond-false (nat_eq i j) (Some i) None z) ∙ h in cc)
    (cases_Bool (nat_eq i j))

one_is : (i j k m : ℕ) → one_interface i j k ≡ Some m → (i ≡ k) × (j ≡ k)
one_is i j k m h =
    let b = nat_eq i k && nat_eq j k in
    ⊎_elim
    (λ y. let both = and_parts (nat_eq i k) (nat_eq j k) y in (eqb-true i k both.0, eqb-true j k both.1))
    (λ z. let q : None ≡ Some m = sym (cond-false b (Some k) None z) ∙ h in cc)
    (cases_Bool b)

into_filled : (s : Scope) (e f : Pat) → Included (subst_of (pattern_of s) e) (subst_of (pattern_of s) f) → Included (filled s e) (filled s f)
into_filled s e f h w i = filled_from s f w (h w (filled_to s e w i))

-- ---- demands that are met

-- a type, if there is one, with values put in
abbrev pub put_in : Scope → Option MailboxType → Option MailboxType
put_in s o = need_under (pattern_of s) o

-- the demand is met by the types into which values are put
abbrev pub Met : Scope → Demand → Type 0
Met s (Pass a b) = PassesTo (put_in s a) (put_in s b)
Met s (Divide a b c) = SplitsTo (put_in s a) (put_in s b) (put_in s c)
Met s (There a b) = Unit {0}
Met s (Name t o) = NamePasses (result_under (pattern_of s) t) (put_in s o)

fit_shown : (s : Scope) (q : Polarity) (o : Option ℕ) (e f : Pat) → HoldsTrue s (fit_by q o e f) → ((i : ℕ) × (o ≡ Some i)) × PatternFits q (filled s e) (filled s f)
fit_shown s Sending o e f h = ((h.0, h.1), into_filled s f e h.2)
fit_shown s Receiving o e f h = ((h.0, h.1), into_filled s e f h.2)

fits_met : (s : Scope) (a b : MailboxType) → uses_fit a b ≡ true → HoldsTrue s (fit_inclusion a b) → Fits (type_under (pattern_of s) a) (type_under (pattern_of s) b)
fits_met s a b h q =
    let both = and_parts (polarity_eq a.polarity b.polarity) (usage_fits a.usage b.usage) h in
    let r = fit_shown s b.polarity (same_interface a.interface b.interface) a.pattern b.pattern q in
    record {
      interface = same_is a.interface b.interface r.0.0 r.0.1;
      polarity = polarity_same a.polarity b.polarity both.0;
      usage = usage_does_fit a.usage b.usage both.1;
      pattern = r.1;
    }

join_shown : (s : Scope) (p q r : Polarity) (o : Option ℕ) (e1 e2 e : Pat) → polarities_join p q r ≡ true → AllByRecursion (HoldsTrue s) (join_by p q r o e1 e2 e) → ((i : ℕ) × (o ≡ Some i)) × PatternJoins p q r (filled s e1) (filled s e2) (filled s e)
join_shown s Sending Sending Sending o e1 e2 e h a =
    let k = a.0 in ((k.0, k.1), λ w i. filled_from s e w (k.2 w (filled_product s e1 e2 w i)))
join_shown s Sending Receiving Receiving o e1 e2 e h a =
    let k = a.0 in ((k.0, k.1), λ w i. filled_from s e2 w (k.2 w (filled_product s e1 e w i)))
join_shown s Receiving Sending Receiving o e1 e2 e h a =
    let k = a.0 in ((k.0, k.1), λ w i. filled_from s e1 w (k.2 w (filled_product s e2 e w i)))
join_shown s Sending Sending Receiving o e1 e2 e h a = cc
join_shown s Sending Receiving Sending o e1 e2 e h a = cc
join_shown s Receiving Sending Sending o e1 e2 e h a = cc
join_shown s Receiving Receiving Sending o e1 e2 e h a = cc
join_shown s Receiving Receiving Receiving o e1 e2 e h a = cc

joins_met : (s : Scope) (b c a : MailboxType) → uses_join b c a ≡ true → AllByRecursion (HoldsTrue s) (join_inclusions b c a) → Joins (type_under (pattern_of s) b) (type_under (pattern_of s) c) (type_under (pattern_of s) a)
joins_met s b c a h q =
    let x = and_parts (is_second b.usage) (usage_fits a.usage c.usage && polarities_join b.polarity c.polarity a.polarity) h in
    let y = and_parts (usage_fits a.usage c.usage) (polarities_join b.polarity c.polarity a.polarity) x.1 in
    let r = join_shown s b.polarity c.polarity a.polarity (one_interface b.interface c.interface a.interface) b.pattern c.pattern a.pattern y.1 q in
    let i = one_is b.interface c.interface a.interface r.0.0 r.0.1 in
    record {
      bound_interface = i.0;
      body_interface = i.1;
      bound_usage = second_is b.usage x.0;
      usage = usage_does_fit a.usage c.usage y.0;
      pattern = r.1;
    }

drops_met : (s : Scope) (i : ℕ) (q : Polarity) (e : Pat) → drops_as s i q e ≡ true → DropsAs q (filled s e)
drops_met s i Sending e h = filled_nullable s e (and_parts (is_formed s i e) (is_nullable (subst_of (pattern_of s) e)) h).1
drops_met s i Receiving e h = cc

-- a demand that breaks no rule is met
pub is_met : (s : Scope) (q : Demand) → is_used_well q ≡ true → is_dropped_well s q ≡ true → AllByRecursion (HoldsTrue s) (inclusions_of q) → Met s q
is_met s (Pass None None) u v a = tt
is_met s (Pass None (Some b)) u v a = cc
is_met s (Pass (Some x) None) u v a = drops_met s x.interface x.polarity x.pattern v
is_met s (Pass (Some x) (Some b)) u v a = fits_met s x b u a.0
is_met s (Divide None None None) u v a = tt
is_met s (Divide None None (Some c)) u v a = cc
is_met s (Divide None (Some b) None) u v a = cc
is_met s (Divide None (Some b) (Some c)) u v a = cc
is_met s (Divide (Some x) None None) u v a = drops_met s x.interface x.polarity x.pattern v
is_met s (Divide (Some x) (Some b) None) u v a = fits_met s x b u a.0
is_met s (Divide (Some x) None (Some c)) u v a = fits_met s x c u a.0
is_met s (Divide (Some x) (Some b) (Some c)) u v a = joins_met s b c x u a
is_met s (There x b) u v a = tt
is_met s (Name (BaseTerm b) None) u v a = cc
is_met s (Name (BaseTerm b) (Some x)) u v a = cc
is_met s (Name (MailboxTerm i q e) None) u v a = drops_met s i q e v
is_met s (Name (MailboxTerm i q e) (Some x)) u v a =
    let t1 = nat_eq i x.interface in
    let t2 = polarity_eq q x.polarity in
    let t3 = pat_eq e x.pattern in
    let y = and_parts t1 (t2 && t3) u in
    let z = and_parts t2 t3 y.1 in
    (sym (eqb-true i x.interface y.0), sym (polarity_same q x.polarity z.0), ap (filled s) (sym (pat_eq_same e x.pattern z.1)))

pub all_first : {A : Type 0} (P : A → Type 0) (xs ys : List A) → AllByRecursion P (xs ++ ys) → AllByRecursion P xs
all_first P [] ys a = tt
all_first P (x ∷ xs) ys a = (a.0, all_first P xs ys a.1)

pub all_second : {A : Type 0} (P : A → Type 0) (xs ys : List A) → AllByRecursion P (xs ++ ys) → AllByRecursion P ys
all_second P [] ys a = a
all_second P (x ∷ xs) ys a = all_second P xs ys a.1

-- and so are all of them
pub all_met : (s : Scope) (qs : List Demand) → list_all is_used_well qs ≡ true → list_all (is_dropped_well s) qs ≡ true → AllByRecursion (HoldsTrue s) (flat_map inclusions_of qs) → AllByRecursion (Met s) qs
all_met s [] u v a = tt
all_met s (q ∷ qs) u v a =
    let x = and_parts (is_used_well q) (list_all is_used_well qs) u in
    let y = and_parts (is_dropped_well s q) (list_all (is_dropped_well s) qs) v in
    let here = inclusions_of q in
    let later = flat_map inclusions_of qs in
    (is_met s q x.0 y.0 (all_first (HoldsTrue s) here later a), all_met s qs x.1 y.1 (all_second (HoldsTrue s) here later a))

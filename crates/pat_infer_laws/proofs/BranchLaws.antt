-- What branches need of a variable: a typing's own type of it passes to that, and that passes to what each branch needs.
use Rattle.std.proofs.Common.{◌≡◌, ℕ, Bool, true, false, not, if◌then◌else◌, List, [], ◌∷◌, Option, Some, None, refl, sym, ap, ◌∙◌, subst, inl, inr, ⊎_elim}
use Rattle.std.specs.List.{AllByRecursion}
use Rattle.std.proofs.lemmas.Bool.{and_left, and_parts, and_from, or_cases, or_parts, or_from, or_left, or_right, cond_both}
use Rattle.pat_words_spec.specs.Words.{no_word}
use Rattle.pat_words_spec.specs.Patterns.{Pat, One, Var, In, Included, pat_eq, sum_of}
use Rattle.pat_words_laws.proofs.PatternLaws.{pat_eq_same}
use Rattle.pat_semantics_spec.specs.Programs.{Polarity, Sending, Receiving}
use Rattle.pat_semantics_laws.proofs.Lists.{clash, not_true}
use Rattle.pat_type_system_spec.specs.Types.{Usage, Second, Returnable, MailboxType, mailbox_type, UsageFits, PatternFits, DropsAs, Fits, PassesTo}
use Rattle.pat_type_system_spec.specs.Typings.{Typing}
use Rattle.pat_inclusion_spec.specs.Values.{replaced}
use Rattle.pat_type_schemes_spec.specs.NodeTypes.{type_under, need_under}
use Rattle.pat_type_schemes_spec.specs.Compared.{is_receiver, is_second}
use Rattle.pat_infer_spec.specs.Needs.{just, Combined, vars_with, constraints_with}
use Rattle.pat_infer_spec.specs.Branches.{receives_need, some_receive, all_receive, branches_agree, returns_need, some_return, branch_usage, pattern_or_one, sum_on, sum_of_needs, all_by, each_receives, first_need, received_in, branches_with, branches_by, branches}
use Rattle.pat_infer_spec.specs.Solutions.{GivesFrom, type_pattern}
use Rattle.pat_infer_spec.specs.BothParts.{new_var}
use Rattle.pat_inclusion_laws.proofs.Replaced.{sum_to, sum_from}
use Rattle.pat_infer_laws.proofs.Gathering.{need_with, all_map, all_with}
use Rattle.pat_infer_laws.proofs.BothLaws.{Holds}

-- ---- the first need

-- what holds of all needs holds of the first that is there
pub first_all : (P : Option MailboxType → Type 0) (os : List (Option MailboxType)) (b : MailboxType) → AllByRecursion P os → first_need os ≡ Some b → P (Some b)
first_all P [] b h e = cc
first_all P (None ∷ os) b h e = first_all P os b h.1 e
first_all P (Some c ∷ os) b h e = subst P e h.0

-- where there is none, each is none
pub none_all : (os : List (Option MailboxType)) → first_need os ≡ None → AllByRecursion (λ o. o ≡ None) os
none_all [] e = tt
none_all (None ∷ os) e = (refl, none_all os e)
none_all (Some c ∷ os) e = cc

-- ---- a typing's own type

-- what is to be shown of a variable: the rule holds, the typing's own type of it passes to what is needed, and the constraints hold
pub record BranchesPass (s : ℕ → Pat) (own : Option MailboxType) (os : List (Option MailboxType)) (o : Option Combined) : Type 0 where
  pub agree : branches_agree os ≡ true
  pub passes : PassesTo own (need_under s (need_with o))
  pub holds : AllByRecursion (Holds s) (constraints_with o)

-- the type passes to each need
abbrev pub PassesAll : (ℕ → Pat) → Option MailboxType → List (Option MailboxType) → Type 0
PassesAll s a os = AllByRecursion (λ o. PassesTo a (need_under s o)) os

usage_returns : (u v : Usage) → UsageFits u v → not (is_second v) ≡ true → u ≡ Returnable
usage_returns Second Second f h = cc
usage_returns Second Returnable f h = absurd f
usage_returns Returnable v f h = refl

some_returns : (s : ℕ → Pat) (a : MailboxType) (os : List (Option MailboxType)) → PassesAll s (Some a) os → some_return os ≡ true → a.usage ≡ Returnable
some_returns s a [] h r = cc
some_returns s a (None ∷ os) h r = some_returns s a os h.1 r
some_returns s a (Some b ∷ os) h r =
    ⊎_elim (λ l. usage_returns a.usage b.usage h.0.usage l) (λ m. some_returns s a os h.1 m)
    (or_cases (not (is_second b.usage)) (some_return os) r)

usage_below : (u : Usage) (t : Bool) → (t ≡ true → u ≡ Returnable) → UsageFits u (if t then Returnable else Second)
usage_below Returnable true h = tt
usage_below Returnable false h = tt
usage_below Second false h = tt
usage_below Second true h = let e = h refl in cc

usage_passes : (s : ℕ → Pat) (a : MailboxType) (os : List (Option MailboxType)) → PassesAll s (Some a) os → UsageFits a.usage (branch_usage os)
usage_passes s a os h = usage_below a.usage (some_return os) (some_returns s a os h)

-- a sending type: no need is receiving, and all words are taken
sends_to : (s : ℕ → Pat) (q r : Polarity) (e f : Pat) → q ≡ Sending → q ≡ r → PatternFits r e (replaced s f) → (is_receiver r ≡ false) × Included (replaced s f) e
sends_to s Sending Sending e f h same fit = (refl, fit)
sends_to s Sending Receiving e f h same fit = cc
sends_to s Receiving r e f h same fit = cc

drops_one : (s : ℕ → Pat) (q : Polarity) (e : Pat) → DropsAs q e → Included One e
drops_one s Sending e d = λ w i. subst (In e) (sym i) d
drops_one s Receiving e d = absurd d

sending_all : (s : ℕ → Pat) (a : MailboxType) → a.polarity ≡ Sending → (os : List (Option MailboxType)) → PassesAll s (Some a) os → (some_receive os ≡ false) × AllByRecursion (λ o. Included (replaced s (pattern_or_one o)) a.pattern) os
sending_all s a q [] h = (refl, tt)
sending_all s a q (None ∷ os) h =
    let rest = sending_all s a q os h.1 in (rest.0, (drops_one s a.polarity a.pattern h.0, rest.1))
sending_all s a q (Some b ∷ os) h =
    let rest = sending_all s a q os h.1 in
    let here = sends_to s a.polarity b.polarity a.pattern b.pattern q h.0.polarity h.0.pattern in
    (or_from (is_receiver b.polarity) (some_receive os) here.0 rest.0, (here.1, rest.1))

sum_on_in : (s : ℕ → Pat) (f e : Pat) (os : List (Option MailboxType)) → Included (replaced s e) f → AllByRecursion (λ o. Included (replaced s (pattern_or_one o)) f) os → Included (replaced s (sum_on e os)) f
sum_on_in s f e [] h k = h
sum_on_in s f e (o ∷ os) h k =
    sum_on_in s f (sum_of e (pattern_or_one o)) os
    (λ w i. ⊎_elim (λ l. h w l) (λ r. k.0 w r) (sum_to s e (pattern_or_one o) w i)) k.1

sum_in : (s : ℕ → Pat) (f : Pat) (os : List (Option MailboxType)) (b : MailboxType) → first_need os ≡ Some b → AllByRecursion (λ o. Included (replaced s (pattern_or_one o)) f) os → Included (replaced s (sum_of_needs os)) f
sum_in s f [] b e k = cc
sum_in s f (o ∷ os) b e k = sum_on_in s f (pattern_or_one o) os k.0 k.1

-- a receiving type: each need is receiving
receives_from : (s : ℕ → Pat) (q r : Polarity) (e f : Pat) → q ≡ Receiving → q ≡ r → PatternFits r e (replaced s f) → (is_receiver r ≡ true) × Included e (replaced s f)
receives_from s Receiving Receiving e f h same fit = (refl, fit)
receives_from s Receiving Sending e f h same fit = cc
receives_from s Sending r e f h same fit = cc

no_drop : (q : Polarity) (e : Pat) → q ≡ Receiving → DropsAs q e → ⊥
no_drop Receiving e h d = d
no_drop Sending e h d = cc

receiving_all : (s : ℕ → Pat) (a : MailboxType) → a.polarity ≡ Receiving → (os : List (Option MailboxType)) → PassesAll s (Some a) os → (all_receive os ≡ true) × AllByRecursion (λ o. Included a.pattern (replaced s (pattern_or_one o))) os
receiving_all s a q [] h = (refl, tt)
receiving_all s a q (None ∷ os) h = absurd (no_drop a.polarity a.pattern q h.0)
receiving_all s a q (Some b ∷ os) h =
    let rest = receiving_all s a q os h.1 in
    let here = receives_from s a.polarity b.polarity a.pattern b.pattern q h.0.polarity h.0.pattern in
    (and_from (is_receiver b.polarity) (all_receive os) here.0 rest.0, (here.1, rest.1))

each_holds : (s : ℕ → Pat) (n k i : ℕ) (os : List (Option MailboxType)) → AllByRecursion (λ o. Included (s k) (replaced s (pattern_or_one o))) os → AllByRecursion (Holds s) (each_receives n k i os)
each_holds s n k i [] h = tt
each_holds s n k i (None ∷ os) h = each_holds s n k i os h.1
each_holds s n k i (Some b ∷ os) h = (h.0, each_holds s n k i os h.1)

-- an empty list of needs, or one that has a first or none
passes_none : (s : ℕ → Pat) (a : Option MailboxType) (os : List (Option MailboxType)) → (os ≡ [] → PassesTo a None) → PassesAll s a os → first_need os ≡ None → PassesTo a None
passes_none s a [] drop h e = drop refl
passes_none s a (None ∷ os) drop h e = h.0
passes_none s a (Some b ∷ os) drop h e = cc

none_needed : (s : ℕ → Pat) (os : List (Option MailboxType)) → PassesAll s None os → first_need os ≡ None
none_needed s [] h = refl
none_needed s (None ∷ os) h = none_needed s os h.1
none_needed s (Some b ∷ os) h = absurd h.0

none_agree : (os : List (Option MailboxType)) → first_need os ≡ None → some_receive os ≡ false
none_agree [] e = refl
none_agree (None ∷ os) e = none_agree os e
none_agree (Some b ∷ os) e = cc

module _ (y : Typing) (s : ℕ → Pat) (n k x : ℕ) (os : List (Option MailboxType)) where
  received_pass : (a b : MailboxType) → y.envs n x ≡ Some a → a.polarity ≡ Receiving → PassesAll s (Some a) os → first_need os ≡ Some b → a.interface ≡ b.interface → GivesFrom y s k (vars_with (received_in n k x b os)) → PassesTo (Some a) (need_under s (need_with (received_in n k x b os))) × AllByRecursion (Holds s) (constraints_with (received_in n k x b os))
  received_pass a b own q h e face =
      let all = receiving_all s a q os h in
      (elim (all_by b.pattern os) as (λ t. GivesFrom y s k (vars_with (if t then Some (record { need = mailbox_type b.interface Receiving b.pattern (branch_usage os); vars = []; constraints = [] }) else Some (record { need = mailbox_type b.interface Receiving (Var k) (branch_usage os); vars = new_var n x b.interface ∷ []; constraints = each_receives n k b.interface os }))) → PassesTo (Some a) (need_under s (need_with (if t then Some (record { need = mailbox_type b.interface Receiving b.pattern (branch_usage os); vars = []; constraints = [] }) else Some (record { need = mailbox_type b.interface Receiving (Var k) (branch_usage os); vars = new_var n x b.interface ∷ []; constraints = each_receives n k b.interface os })))) × AllByRecursion (Holds s) (constraints_with (if t then Some (record { need = mailbox_type b.interface Receiving b.pattern (branch_usage os); vars = []; constraints = [] }) else Some (record { need = mailbox_type b.interface Receiving (Var k) (branch_usage os); vars = new_var n x b.interface ∷ []; constraints = each_receives n k b.interface os })))) [
        | true ↦ λ g. (
          record {
            interface = face;
            polarity = q;
            usage = usage_passes s a os h;
            pattern = first_all (λ o. Included a.pattern (replaced s (pattern_or_one o))) os b all.1 e;
          },
          tt,
        )
        | false ↦ λ g.
            let value : s k ≡ a.pattern = g.0 ∙ ap type_pattern own in (
              record {
                interface = face;
                polarity = q;
                usage = usage_passes s a os h;
                pattern = λ w i. subst (λ (p : Pat). In p w) (sym value) i;
              },
              each_holds s n k b.interface os
                  (all_map (λ o. Included a.pattern (replaced s (pattern_or_one o))) (λ o. Included (s k) (replaced s (pattern_or_one o)))
                  (λ o into w i. into w (subst (λ (p : Pat). In p w) value i)) os all.1),
            )
      ])

  some_pass : (a b : MailboxType) (q r : Polarity) → a.polarity ≡ q → b.polarity ≡ r → y.envs n x ≡ Some a → PassesAll s (Some a) os → first_need os ≡ Some b → Fits a (type_under s b) → GivesFrom y s k (vars_with (branches_with n k x r b os)) → BranchesPass s (Some a) os (branches_with n k x r b os)
  some_pass a b Sending Sending aq br own h e fit g =
      let all = sending_all s a aq os h in
      record {
        agree = or_left (not (some_receive os)) (all_receive os) (ap not all.0);
        passes = record {
          interface = fit.interface;
          polarity = aq;
          usage = usage_passes s a os h;
          pattern = sum_in s a.pattern os b e all.1;
        };
        holds = tt;
      }
  some_pass a b Receiving Receiving aq br own h e fit g =
      let all = receiving_all s a aq os h in
      let q = received_pass a b own aq h e fit.interface g in
      record {
        agree = or_right (not (some_receive os)) (all_receive os) all.0;
        passes = q.0;
        holds = q.1;
      }
  some_pass a b Sending Receiving aq br own h e fit g = let c : Sending ≡ Receiving = sym aq ∙ fit.polarity ∙ br in cc
  some_pass a b Receiving Sending aq br own h e fit g = let c : Receiving ≡ Sending = sym aq ∙ fit.polarity ∙ br in cc

  -- where the typing's own type passes to what each branch needs, it passes to what is needed
  pub branches_pass : (a : Option MailboxType) → ((c : MailboxType) → a ≡ Some c → y.envs n x ≡ Some c) → (os ≡ [] → PassesTo a None) → PassesAll s a os → GivesFrom y s k (vars_with (branches n k x os)) → BranchesPass s a os (branches n k x os)
  branches_pass a own drop h = go (first_need os) refl a own drop h
    where
      go : (o : Option MailboxType) → first_need os ≡ o → (a : Option MailboxType) → ((c : MailboxType) → a ≡ Some c → y.envs n x ≡ Some c) → (os ≡ [] → PassesTo a None) → PassesAll s a os → GivesFrom y s k (vars_with (branches_by n k x o os)) → BranchesPass s a os (branches_by n k x o os)
      go None e a own drop h g = record {
        agree = or_left (not (some_receive os)) (all_receive os) (ap not (none_agree os e));
        passes = passes_none s a os drop h e;
        holds = tt;
      }
      go (Some b) e None own drop h g = let c : Some b ≡ None = sym e ∙ none_needed s os h in cc
      go (Some b) e (Some a) own drop h g =
          some_pass a b a.polarity b.polarity refl refl (own a refl) h e (first_all (λ o. PassesTo (Some a) (need_under s o)) os b h e) g

-- ---- what is needed

-- each need is of the interface
abbrev pub OfInterface : ℕ → Option MailboxType → Type 0
OfInterface i None = Unit {0}
OfInterface i (Some b) = b.interface ≡ i

sum_on_has : (s : ℕ → Pat) (e : Pat) (os : List (Option MailboxType)) → Included (replaced s e) (replaced s (sum_on e os)) × AllByRecursion (λ o. Included (replaced s (pattern_or_one o)) (replaced s (sum_on e os))) os
sum_on_has s e [] = (λ w i. i, tt)
sum_on_has s e (o ∷ os) =
    let rest = sum_on_has s (sum_of e (pattern_or_one o)) os in (
      λ w i. rest.0 w (sum_from s e (pattern_or_one o) w (inl i)),
      (λ w i. rest.0 w (sum_from s e (pattern_or_one o) w (inr i)), rest.1),
    )

pub sum_has : (s : ℕ → Pat) (os : List (Option MailboxType)) → AllByRecursion (λ o. Included (replaced s (pattern_or_one o)) (replaced s (sum_of_needs os))) os
sum_has s [] = tt
sum_has s (o ∷ os) = sum_on_has s (pattern_or_one o) os

some_flag : (t : Bool) (os : List (Option MailboxType)) → (some_return os ≡ true → t ≡ true) → AllByRecursion (λ o. returns_need o ≡ true → t ≡ true) os
some_flag t [] into = tt
some_flag t (o ∷ os) into = (
  λ r. into (or_left (returns_need o) (some_return os) r),
  some_flag t os (λ r. into (or_right (returns_need o) (some_return os) r)),
)

usage_above : (t : Bool) (v : Usage) → (not (is_second v) ≡ true → t ≡ true) → UsageFits (if t then Returnable else Second) v
usage_above true Second h = tt
usage_above true Returnable h = tt
usage_above false Second h = tt
usage_above false Returnable h = let e = h refl in cc

pub none_receives : (os : List (Option MailboxType)) → some_receive os ≡ false → AllByRecursion (λ o. receives_need o ≡ false) os
none_receives [] h = tt
none_receives (o ∷ os) h =
    let q = or_parts (receives_need o) (some_receive os) h in (q.0, none_receives os q.1)

pub all_receives : (os : List (Option MailboxType)) → all_receive os ≡ true → AllByRecursion (λ o. receives_need o ≡ true) os
all_receives [] h = tt
all_receives (o ∷ os) h =
    let q = and_parts (receives_need o) (all_receive os) h in (q.0, all_receives os q.1)

pub same_patterns : (e : Pat) (os : List (Option MailboxType)) → all_by e os ≡ true → AllByRecursion (λ o. e ≡ pattern_or_one o) os
same_patterns e [] h = tt
same_patterns e (o ∷ os) h =
    let q = and_parts (pat_eq e (pattern_or_one o)) (all_by e os) h in
    (pat_eq_same e (pattern_or_one o) q.0, same_patterns e os q.1)

holds_each : (s : ℕ → Pat) (n k i : ℕ) (os : List (Option MailboxType)) → AllByRecursion (λ o. receives_need o ≡ true) os → AllByRecursion (Holds s) (each_receives n k i os) → AllByRecursion (λ o. Included (s k) (replaced s (pattern_or_one o))) os
holds_each s n k i [] r h = tt
holds_each s n k i (None ∷ os) r h = let c : false ≡ true = r.0 in cc
holds_each s n k i (Some b ∷ os) r h = (h.0, holds_each s n k i os r.1 h.1)

-- a need that there is is one of the needs
pub first_receives : (os : List (Option MailboxType)) (b : MailboxType) → first_need os ≡ Some b → (is_receiver b.polarity ≡ true → some_receive os ≡ true) × (is_receiver b.polarity ≡ false → all_receive os ≡ false)
first_receives [] b e = cc
first_receives (None ∷ os) b e = (λ r. (first_receives os b e).0 r, λ r. refl)
first_receives (Some c ∷ os) b e =
    let same : c ≡ b = cc in (
      λ r. or_left (is_receiver c.polarity) (some_receive os) (ap (λ (d : MailboxType). is_receiver d.polarity) same ∙ r),
      λ r. and_left (is_receiver c.polarity) (all_receive os) (ap (λ (d : MailboxType). is_receiver d.polarity) same ∙ r),
    )

module _ (s : ℕ → Pat) (n k x i : ℕ) (os : List (Option MailboxType)) (faces : AllByRecursion (OfInterface i) os) where
  -- by a sending need
  sends_split : (c : MailboxType) → c.polarity ≡ Sending → c.interface ≡ i → c.usage ≡ branch_usage os → replaced s c.pattern ≡ replaced s (sum_of_needs os) → AllByRecursion (λ o. receives_need o ≡ false) os → AllByRecursion (λ o. PassesTo (Some (type_under s c)) (need_under s o)) os
  sends_split c q face usage same none =
      all_with (λ o. OfInterface i o × (receives_need o ≡ false)) (λ o. (returns_need o ≡ true → some_return os ≡ true) × Included (replaced s (pattern_or_one o)) (replaced s (sum_of_needs os))) (λ o. PassesTo (Some (type_under s c)) (need_under s o)) one os
      (all_with (OfInterface i) (λ o. receives_need o ≡ false) (λ o. OfInterface i o × (receives_need o ≡ false)) (λ o a b. (a, b)) os faces none)
      (all_with (λ o. returns_need o ≡ true → some_return os ≡ true) (λ o. Included (replaced s (pattern_or_one o)) (replaced s (sum_of_needs os))) (λ o. (returns_need o ≡ true → some_return os ≡ true) × Included (replaced s (pattern_or_one o)) (replaced s (sum_of_needs os))) (λ o a b. (a, b)) os (some_flag (some_return os) os (λ r. r)) (sum_has s os))
    where
      sent : (r : Polarity) (e f : Pat) → is_receiver r ≡ false → Included f e → (r ≡ Sending) × PatternFits r e f
      sent Sending e f h into = (refl, into)
      sent Receiving e f h into = cc

      dropped : (r : Polarity) (e : Pat) → r ≡ Sending → In e no_word → DropsAs r e
      dropped Sending e h d = d
      dropped Receiving e h d = cc

      one : (o : Option MailboxType) → OfInterface i o × (receives_need o ≡ false) → (returns_need o ≡ true → some_return os ≡ true) × Included (replaced s (pattern_or_one o)) (replaced s (sum_of_needs os)) → PassesTo (Some (type_under s c)) (need_under s o)
      one None a b = dropped c.polarity (replaced s c.pattern) q (subst (λ (p : Pat). In p no_word) (sym same) (b.1 no_word refl))
      one (Some d) a b =
          let fits = sent d.polarity (replaced s c.pattern) (replaced s d.pattern) a.1 (λ w j. subst (λ (p : Pat). In p w) (sym same) (b.1 w j)) in
          record {
            interface = face ∙ sym a.0;
            polarity = q ∙ sym fits.0;
            usage = subst (λ u. UsageFits u d.usage) (sym usage) (usage_above (some_return os) d.usage b.0);
            pattern = fits.1;
          }

  -- by a receiving need, whose words are in each
  receives_split : (c : MailboxType) → c.polarity ≡ Receiving → c.interface ≡ i → c.usage ≡ branch_usage os → AllByRecursion (λ o. receives_need o ≡ true) os → AllByRecursion (λ o. Included (replaced s c.pattern) (replaced s (pattern_or_one o))) os → AllByRecursion (λ o. PassesTo (Some (type_under s c)) (need_under s o)) os
  receives_split c q face usage all into =
      all_with (λ o. OfInterface i o × (receives_need o ≡ true)) (λ o. (returns_need o ≡ true → some_return os ≡ true) × Included (replaced s c.pattern) (replaced s (pattern_or_one o))) (λ o. PassesTo (Some (type_under s c)) (need_under s o)) one os
      (all_with (OfInterface i) (λ o. receives_need o ≡ true) (λ o. OfInterface i o × (receives_need o ≡ true)) (λ o a b. (a, b)) os faces all)
      (all_with (λ o. returns_need o ≡ true → some_return os ≡ true) (λ o. Included (replaced s c.pattern) (replaced s (pattern_or_one o))) (λ o. (returns_need o ≡ true → some_return os ≡ true) × Included (replaced s c.pattern) (replaced s (pattern_or_one o))) (λ o a b. (a, b)) os (some_flag (some_return os) os (λ r. r)) into)
    where
      got : (r : Polarity) (e f : Pat) → is_receiver r ≡ true → Included e f → (r ≡ Receiving) × PatternFits r e f
      got Receiving e f h into = (refl, into)
      got Sending e f h into = cc

      one : (o : Option MailboxType) → OfInterface i o × (receives_need o ≡ true) → (returns_need o ≡ true → some_return os ≡ true) × Included (replaced s c.pattern) (replaced s (pattern_or_one o)) → PassesTo (Some (type_under s c)) (need_under s o)
      one None a b = let r : false ≡ true = a.1 in cc
      one (Some d) a b =
          let fits = got d.polarity (replaced s c.pattern) (replaced s d.pattern) a.1 b.1 in
          record {
            interface = face ∙ sym a.0;
            polarity = q ∙ sym fits.0;
            usage = subst (λ u. UsageFits u d.usage) (sym usage) (usage_above (some_return os) d.usage b.0);
            pattern = fits.1;
          }

  received_split : (b : MailboxType) → b.interface ≡ i → AllByRecursion (λ o. receives_need o ≡ true) os → AllByRecursion (Holds s) (constraints_with (received_in n k x b os)) → AllByRecursion (λ o. PassesTo (need_under s (need_with (received_in n k x b os))) (need_under s o)) os
  received_split b face all =
      let same : Option Combined = just (mailbox_type b.interface Receiving b.pattern (branch_usage os)) in
      let new : Option Combined = Some (record { need = mailbox_type b.interface Receiving (Var k) (branch_usage os); vars = new_var n x b.interface ∷ []; constraints = each_receives n k b.interface os }) in
      cond_both (all_by b.pattern os) same new (λ c. AllByRecursion (Holds s) (constraints_with c) → AllByRecursion (λ o. PassesTo (need_under s (need_with c)) (need_under s o)) os)
      (λ e h.
      receives_split (mailbox_type b.interface Receiving b.pattern (branch_usage os)) refl face refl all
      (all_map (λ o. b.pattern ≡ pattern_or_one o) (λ o. Included (replaced s b.pattern) (replaced s (pattern_or_one o))) (λ o q w j. subst (λ (p : Pat). In (replaced s p) w) q j) os (same_patterns b.pattern os e)))
      (λ e h. receives_split (mailbox_type b.interface Receiving (Var k) (branch_usage os)) refl face refl all (holds_each s n k b.interface os all h))

  some_split : (b : MailboxType) (r : Polarity) → b.polarity ≡ r → first_need os ≡ Some b → branches_agree os ≡ true → AllByRecursion (Holds s) (constraints_with (branches_with n k x r b os)) → AllByRecursion (λ o. PassesTo (need_under s (need_with (branches_with n k x r b os))) (need_under s o)) os
  some_split b Sending br e agree h =
      let face = first_all (OfInterface i) os b faces e in
      let not_all : all_receive os ≡ false = (first_receives os b e).1 (ap is_receiver br) in
      let none : some_receive os ≡ false = ⊎_elim (λ l. not_true (some_receive os) l) (λ r. absurd (clash r not_all)) (or_cases (not (some_receive os)) (all_receive os) agree) in
      sends_split (mailbox_type b.interface Sending (sum_of_needs os) (branch_usage os)) refl face refl refl (none_receives os none)
  some_split b Receiving br e agree h =
      let face = first_all (OfInterface i) os b faces e in
      let some : some_receive os ≡ true = (first_receives os b e).0 (ap is_receiver br) in
      let all : all_receive os ≡ true = ⊎_elim (λ l. absurd (clash some (not_true (some_receive os) l))) (λ r. r) (or_cases (not (some_receive os)) (all_receive os) agree) in
      received_split b face (all_receives os all) h

  -- what is needed passes to what each branch needs
  pub branches_split : branches_agree os ≡ true → AllByRecursion (Holds s) (constraints_with (branches n k x os)) → AllByRecursion (λ o. PassesTo (need_under s (need_with (branches n k x os))) (need_under s o)) os
  branches_split agree = go (first_need os) refl
    where
      go : (o : Option MailboxType) → first_need os ≡ o → AllByRecursion (Holds s) (constraints_with (branches_by n k x o os)) → AllByRecursion (λ w. PassesTo (need_under s (need_with (branches_by n k x o os))) (need_under s w)) os
      go None e h =
          all_map (λ w. w ≡ None) (λ w. PassesTo None (need_under s w)) (λ w q. subst (λ v. PassesTo None (need_under s v)) (sym q) tt) os (none_all os e)
      go (Some b) e h = some_split b b.polarity refl e agree h

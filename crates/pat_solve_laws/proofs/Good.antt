-- Demands that a typing meets break no rule, and their inclusions are ones that are shown.
use Rattle.std.proofs.Common.{◌≡◌, ℕ, true, ◌&&◌, nat_eq, List, [], ◌∷◌, ◌++◌, Option, Some, None, refl, sym, ap, subst}
use Rattle.std.specs.List.{AllByRecursion, list_all, flat_map}
use Rattle.std.proofs.lemmas.Bool.{and_from, eq-eqb, cond-true}
use Rattle.pat_words_spec.specs.Words.{no_word}
use Rattle.pat_words_spec.specs.Patterns.{Pat, Prod, prod_of, pat_eq, is_nullable, subst_of}
use Rattle.pat_words_laws.proofs.PatternLaws.{nullable_from}
use Rattle.pat_words_laws.proofs.FormLaws.{same_pat_eq}
use Rattle.pat_semantics_spec.specs.Values.{Base, BaseUnit, BaseBool, BaseInt, BaseText, Kind, Plain, MailboxOf}
use Rattle.pat_semantics_spec.specs.Programs.{Polarity, Sending, Receiving}
use Rattle.pat_type_system_spec.specs.Types.{Usage, Second, Returnable, MailboxType, TypeOf, BaseTerm, MailboxTerm, UsageFits, DropsAs, PassesTo, PatternJoins, SplitsTo, TypeEnv}
use Rattle.pat_inclusion_spec.specs.Values.{Scope, pattern_of, filled, is_formed}
use Rattle.pat_type_schemes_spec.specs.Compared.{polarity_eq, is_second, usage_fits}
use Rattle.pat_derivation_spec.specs.Same.{is_same_base, is_same_kind, is_same_type}
use Rattle.pat_derivation_spec.specs.Demands.{Demand, Pass, Divide, uses_fit, polarities_join, is_used_well, drops_as, is_dropped_well, same_interface, one_interface, fit_by, inclusions_of, join_by}
use Rattle.pat_derivation_spec.specs.Conditions.{passes, divides}
use Rattle.pat_derivation_laws.proofs.Filled.{filled_to}
use Rattle.pat_derivation_laws.proofs.DemandsMet.{put_in}
use Rattle.pat_infer_spec.specs.Inclusions.{Shows, PatternShown, PassShown, JoinShown, SplitShown}
use Rattle.pat_solve_spec.specs.Laws.{IsSound, IsWritten}

-- ---- the tests of what is the same

pub same_polarity : (q : Polarity) → polarity_eq q q ≡ true
same_polarity Sending = refl
same_polarity Receiving = refl

pub same_base : (b : Base) → is_same_base b b ≡ true
same_base BaseUnit = refl
same_base BaseBool = refl
same_base BaseInt = refl
same_base BaseText = refl

pub same_kind : (k : Kind) → is_same_kind k k ≡ true
same_kind (Plain b) = same_base b
same_kind (MailboxOf i) = eq-eqb i i refl

pub same_type : (t : TypeOf) → is_same_type t t ≡ true
same_type (BaseTerm b) = same_base b
same_type (MailboxTerm i q e) =
    and_from (nat_eq i i) (polarity_eq q q && pat_eq e e) (eq-eqb i i refl)
    (and_from (polarity_eq q q) (pat_eq e e) (same_polarity q) (same_pat_eq e e refl))

usage_test : (a b : Usage) → UsageFits a b → usage_fits a b ≡ true
usage_test Second Second h = refl
usage_test Second Returnable h = absurd h
usage_test Returnable Second h = refl
usage_test Returnable Returnable h = refl

-- ---- demands

-- the demand breaks no rule
pub record Good (s : Scope) (R : Shows) (d : Demand) : Type 0 where
  pub used : is_used_well d ≡ true
  pub dropped : is_dropped_well s d ≡ true
  pub shown : AllByRecursion (IsSound s R) (inclusions_of d)
  pub written : IsWritten d

-- the type's pattern, if there is one, is of its interface
abbrev pub Formed : Scope → Option MailboxType → Type 0
Formed s o = (a : MailboxType) → o ≡ Some a → is_formed s a.interface a.pattern ≡ true

abbrev pub EnvFormed : Scope → TypeEnv → Type 0
EnvFormed s g = (x : ℕ) → Formed s (g x)

join_written : (R : Pat → Pat → Type 0) (q r : Polarity) (e1 e2 e : Pat) → JoinShown R q r e1 e2 e → q ≡ Sending → r ≡ Sending → e ≡ prod_of e1 e2
join_written R Sending Sending e1 e2 e h a b = h.1
join_written R Sending Receiving e1 e2 e h a b = cc
join_written R Receiving r e1 e2 e h a b = cc

module _ (s : Scope) (R : Shows) where
  pub drop_test : (i : ℕ) (q : Polarity) (e : Pat) → is_formed s i e ≡ true → DropsAs q (filled s e) → drops_as s i q e ≡ true
  drop_test i Sending e f h =
      and_from (is_formed s i e) (is_nullable (subst_of (pattern_of s) e)) f (nullable_from (subst_of (pattern_of s) e) (filled_to s e no_word h))
  drop_test i Receiving e f h = absurd h

  fit_sound : (i j : ℕ) (q : Polarity) (e f : Pat) → i ≡ j → is_formed s i e ≡ true → is_formed s j f ≡ true → PatternShown (R i) q e f → IsSound s R (fit_by q (same_interface i j) e f)
  fit_sound i j Sending e f same a b h =
      (i, cond-true (nat_eq i j) (Some i) None (eq-eqb i j same), subst (λ k. is_formed s k f ≡ true) (sym same) b, a, h)
  fit_sound i j Receiving e f same a b h =
      (i, cond-true (nat_eq i j) (Some i) None (eq-eqb i j same), a, subst (λ k. is_formed s k f ≡ true) (sym same) b, h)

  fits_used : (a b : MailboxType) → a.polarity ≡ b.polarity → UsageFits a.usage b.usage → uses_fit a b ≡ true
  fits_used a b q u =
      and_from (polarity_eq a.polarity b.polarity) (usage_fits a.usage b.usage)
      (subst (λ r. polarity_eq a.polarity r ≡ true) q (same_polarity a.polarity))
      (usage_test a.usage b.usage u)

  pub pass_good : (a b : Option MailboxType) → PassesTo (put_in s a) (put_in s b) → PassShown R a b → Formed s a → Formed s b → Good s R (Pass a b)
  pass_good None None p h f g = record { used = refl; dropped = refl; shown = tt; written = tt }
  pass_good None (Some b) p h f g = absurd p
  pass_good (Some a) None p h f g =
      record { used = refl; dropped = drop_test a.interface a.polarity a.pattern (f a refl) p; shown = tt; written = tt }
  pass_good (Some a) (Some b) p h f g = record {
    used = fits_used a b p.polarity p.usage;
    dropped = refl;
    shown = (fit_sound a.interface b.interface b.polarity a.pattern b.pattern p.interface (f a refl) (g b refl) h, tt);
    written = tt;
  }

  module _ (prods : (i : ℕ) (e f g : Pat) → R i (Prod e f) g → R i (prod_of e f) g) (formed : (i : ℕ) (e f : Pat) → is_formed s i e ≡ true → is_formed s i f ≡ true → is_formed s i (prod_of e f) ≡ true) where
    join_sound : (i j k : ℕ) (q r t : Polarity) (e1 e2 e : Pat) → i ≡ k → j ≡ k → is_formed s i e1 ≡ true → is_formed s j e2 ≡ true → is_formed s k e ≡ true → PatternJoins q r t (filled s e1) (filled s e2) (filled s e) → JoinShown (R k) q r e1 e2 e → (polarities_join q r t ≡ true) × AllByRecursion (IsSound s R) (join_by q r t (one_interface i j k) e1 e2 e)
    join_sound i j k Sending Sending Sending e1 e2 e ik jk f1 f2 f p h =
        let a = subst (λ m. is_formed s m e1 ≡ true) ik f1 in
        let b = subst (λ m. is_formed s m e2 ≡ true) jk f2 in
        (refl, ((k, one i j k ik jk, formed k e1 e2 a b, f, prods k e1 e2 e h.0), tt))
      where
        one : (i j k : ℕ) → i ≡ k → j ≡ k → one_interface i j k ≡ Some k
        one i j k ik jk = cond-true (nat_eq i k && nat_eq j k) (Some k) None (and_from (nat_eq i k) (nat_eq j k) (eq-eqb i k ik) (eq-eqb j k jk))
    join_sound i j k Sending Receiving Receiving e1 e2 e ik jk f1 f2 f p h =
        let a = subst (λ m. is_formed s m e1 ≡ true) ik f1 in
        let b = subst (λ m. is_formed s m e2 ≡ true) jk f2 in
        (refl, ((k, one i j k ik jk, formed k e1 e a f, b, prods k e1 e e2 h), tt))
      where
        one : (i j k : ℕ) → i ≡ k → j ≡ k → one_interface i j k ≡ Some k
        one i j k ik jk = cond-true (nat_eq i k && nat_eq j k) (Some k) None (and_from (nat_eq i k) (nat_eq j k) (eq-eqb i k ik) (eq-eqb j k jk))
    join_sound i j k Receiving Sending Receiving e1 e2 e ik jk f1 f2 f p h =
        let a = subst (λ m. is_formed s m e1 ≡ true) ik f1 in
        let b = subst (λ m. is_formed s m e2 ≡ true) jk f2 in
        (refl, ((k, one i j k ik jk, formed k e2 e b f, a, prods k e2 e e1 h), tt))
      where
        one : (i j k : ℕ) → i ≡ k → j ≡ k → one_interface i j k ≡ Some k
        one i j k ik jk = cond-true (nat_eq i k && nat_eq j k) (Some k) None (and_from (nat_eq i k) (nat_eq j k) (eq-eqb i k ik) (eq-eqb j k jk))
    join_sound i j k Sending Sending Receiving e1 e2 e ik jk f1 f2 f p h = absurd p
    join_sound i j k Sending Receiving Sending e1 e2 e ik jk f1 f2 f p h = absurd p
    join_sound i j k Receiving Sending Sending e1 e2 e ik jk f1 f2 f p h = absurd p
    join_sound i j k Receiving Receiving t e1 e2 e ik jk f1 f2 f p h = absurd p

    second_test : (u : Usage) → u ≡ Second → is_second u ≡ true
    second_test u h = ap is_second h

    pub divide_good : (a b c : Option MailboxType) → SplitsTo (put_in s a) (put_in s b) (put_in s c) → SplitShown R a b c → Formed s a → Formed s b → Formed s c → Good s R (Divide a b c)
    divide_good None None None p h f g k = record { used = refl; dropped = refl; shown = tt; written = tt }
    divide_good None (Some b) c p h f g k = absurd p
    divide_good None None (Some c) p h f g k = absurd p
    divide_good (Some a) None None p h f g k =
        record { used = refl; dropped = drop_test a.interface a.polarity a.pattern (f a refl) p; shown = tt; written = tt }
    divide_good (Some a) (Some b) None p h f g k = record {
      used = fits_used a b p.polarity p.usage;
      dropped = refl;
      shown = (fit_sound a.interface b.interface b.polarity a.pattern b.pattern p.interface (f a refl) (g b refl) h.0, tt);
      written = h.1;
    }
    divide_good (Some a) None (Some c) p h f g k = record {
      used = fits_used a c p.polarity p.usage;
      dropped = refl;
      shown = (fit_sound a.interface c.interface c.polarity a.pattern c.pattern p.interface (f a refl) (k c refl) h.0, tt);
      written = h.1;
    }
    divide_good (Some a) (Some b) (Some c) p h f g k =
        let j = join_sound b.interface c.interface a.interface b.polarity c.polarity a.polarity b.pattern c.pattern a.pattern p.bound_interface p.body_interface (g b refl) (k c refl) (f a refl) p.pattern h in
        record {
          used = and_from (is_second b.usage) (usage_fits a.usage c.usage && polarities_join b.polarity c.polarity a.polarity) (second_test b.usage p.bound_usage)
              (and_from (usage_fits a.usage c.usage) (polarities_join b.polarity c.polarity a.polarity) (usage_test a.usage c.usage p.usage) j.0);
          dropped = refl;
          shown = j.1;
          written = join_written (R a.interface) b.polarity c.polarity b.pattern c.pattern a.pattern h;
        }

  -- ---- lists of demands

  pub passes_good : (xs : List ℕ) (g h : TypeEnv) → ((x : ℕ) → Good s R (Pass (g x) (h x))) → AllByRecursion (Good s R) (passes xs g h)
  passes_good [] g h k = tt
  passes_good (x ∷ xs) g h k = (k x, passes_good xs g h k)

  pub divides_good : (xs : List ℕ) (g m n : TypeEnv) → ((x : ℕ) → Good s R (Divide (g x) (m x) (n x))) → AllByRecursion (Good s R) (divides xs g m n)
  divides_good [] g m n k = tt
  divides_good (x ∷ xs) g m n k = (k x, divides_good xs g m n k)

  pub all_used : (ds : List Demand) → AllByRecursion (Good s R) ds → list_all is_used_well ds ≡ true
  all_used [] h = refl
  all_used (d ∷ ds) h = and_from (is_used_well d) (list_all is_used_well ds) h.0.used (all_used ds h.1)

  pub all_dropped : (ds : List Demand) → AllByRecursion (Good s R) ds → list_all (is_dropped_well s) ds ≡ true
  all_dropped [] h = refl
  all_dropped (d ∷ ds) h = and_from (is_dropped_well s d) (list_all (is_dropped_well s) ds) h.0.dropped (all_dropped ds h.1)

  pub all_join : {A : Type 0} (P : A → Type 0) (xs ys : List A) → AllByRecursion P xs → AllByRecursion P ys → AllByRecursion P (xs ++ ys)
  all_join P [] ys a b = b
  all_join P (x ∷ xs) ys a b = (a.0, all_join P xs ys a.1 b)

  pub all_sound : (ds : List Demand) → AllByRecursion (Good s R) ds → AllByRecursion (IsSound s R) (flat_map inclusions_of ds)
  all_sound [] h = tt
  all_sound (d ∷ ds) h = all_join (IsSound s R) (inclusions_of d) (flat_map inclusions_of ds) h.0.shown (all_sound ds h.1)

  pub all_written : (ds : List Demand) → AllByRecursion (Good s R) ds → AllByRecursion IsWritten ds
  all_written [] h = tt
  all_written (d ∷ ds) h = (h.0.written, all_written ds h.1)

-- What a let needs of a variable: a typing's own type of it passes to that, and that is divided among what the parts need.
use Rattle.std.proofs.Common.{◌≡◌, ℕ, true, not, ◌&&◌, Option, Some, None, refl, sym, ap, ◌∙◌, subst}
use Rattle.std.specs.List.{AllByRecursion}
use Rattle.pat_words_spec.specs.Patterns.{Pat, Var, In, Included, prod_of}
use Rattle.pat_semantics_spec.specs.Programs.{Polarity, Sending, Receiving}
use Rattle.pat_type_system_spec.specs.Types.{Usage, Second, Returnable, MailboxType, UsageFits, PatternFits, PatternJoins, Fits, Joins, PassesTo, SplitsTo}
use Rattle.pat_type_system_spec.specs.Typings.{Typing}
use Rattle.pat_type_system_laws.proofs.Splitting.{split_first, split_second}
use Rattle.pat_type_system_laws.proofs.Passing.{pattern_same, passes_drop, passes_twice, usage_twice}
use Rattle.pat_inclusion_spec.specs.Values.{replaced}
use Rattle.pat_type_schemes_spec.specs.NodeTypes.{type_under, need_under}
use Rattle.pat_type_schemes_spec.specs.Compared.{is_receiver, is_second}
use Rattle.pat_infer_spec.specs.Constraints.{Constraint}
use Rattle.pat_infer_spec.specs.Needs.{Combined, vars_with, constraints_with}
use Rattle.pat_infer_spec.specs.BothParts.{in_order, one_receives, parts_joined, both_parts}
use Rattle.pat_infer_spec.specs.Solutions.{GivesFrom, type_pattern}
use Rattle.pat_inclusion_laws.proofs.Replaced.{prod_to, prod_from}
use Rattle.pat_infer_laws.proofs.Gathering.{need_with}

-- the constraint holds with the variables replaced
abbrev pub Holds : (ℕ → Pat) → Constraint → Type 0
Holds s c = Included (replaced s c.left) (replaced s c.right)

-- ---- a typing's own type

-- what is to be shown of a variable: the two rules hold, the typing's own type of it passes to what is needed, and the constraints hold
pub record PartsPass (s : ℕ → Pat) (own bound body : Option MailboxType) (o : Option Combined) : Type 0 where
  pub order : in_order bound body ≡ true
  pub one : one_receives bound body ≡ true
  pub passes : PassesTo own (need_under s (need_with o))
  pub holds : AllByRecursion (Holds s) (constraints_with o)

-- a second-class type is needed as second-class
second_needed : (u v : Usage) → u ≡ Second → UsageFits u v → is_second v ≡ true
second_needed Second Second h f = refl
second_needed Second Returnable h f = absurd f
second_needed Returnable v h f = cc

module _ (y : Typing) (s : ℕ → Pat) (n k x : ℕ) where
  -- both parts need it
  needed_twice : (a b c : MailboxType) (q r t : Polarity) (e1 e2 : Pat) → y.envs n x ≡ Some a → a.polarity ≡ t → a.interface ≡ c.interface → UsageFits a.usage c.usage → PatternJoins q r t e1 e2 a.pattern → PatternFits q e1 (replaced s b.pattern) → PatternFits r e2 (replaced s c.pattern) → GivesFrom y s k (vars_with (parts_joined n k x q r b c)) → (not (is_receiver q && is_receiver r) ≡ true) × PassesTo (Some a) (need_under s (need_with (parts_joined n k x q r b c))) × AllByRecursion (Holds s) (constraints_with (parts_joined n k x q r b c))
  needed_twice a b c Sending Sending Sending e1 e2 own pol face fit j f1 f2 g = (
    refl,
    record {
      interface = face;
      polarity = pol;
      usage = fit;
      pattern = λ w i. let p = prod_to s b.pattern c.pattern w i in j w (p.0, p.1, f1 p.0 p.2, f2 p.1 p.3, p.4);
    },
    tt,
  )
  needed_twice a b c Sending Receiving Receiving e1 e2 own pol face fit j f1 f2 g =
      let value : s k ≡ a.pattern = g.0 ∙ ap type_pattern own in (
        refl,
        record {
          interface = face;
          polarity = pol;
          usage = fit;
          pattern = λ w i. subst (λ (e : Pat). In e w) (sym value) i;
        },
        (λ w i. let p = prod_to s b.pattern (Var k) w i in f2 w (j w (p.0, p.1, f1 p.0 p.2, subst (λ (e : Pat). In e p.1) value p.3, p.4)), tt),
      )
  needed_twice a b c Receiving Sending Receiving e1 e2 own pol face fit j f1 f2 g =
      let value : s k ≡ a.pattern = g.0 ∙ ap type_pattern own in (
        refl,
        record {
          interface = face;
          polarity = pol;
          usage = fit;
          pattern = λ w i. subst (λ (e : Pat). In e w) (sym value) i;
        },
        (λ w i. let p = prod_to s c.pattern (Var k) w i in f1 w (j w (p.0, p.1, f2 p.0 p.2, subst (λ (e : Pat). In e p.1) value p.3, p.4)), tt),
      )
  needed_twice a b c Sending Sending Receiving e1 e2 own pol face fit j f1 f2 g = absurd j
  needed_twice a b c Sending Receiving Sending e1 e2 own pol face fit j f1 f2 g = absurd j
  needed_twice a b c Receiving Sending Sending e1 e2 own pol face fit j f1 f2 g = absurd j
  needed_twice a b c Receiving Receiving t e1 e2 own pol face fit j f1 f2 g = absurd j

  both_needed : (a b c : MailboxType) (b' c' : MailboxType) → y.envs n x ≡ Some a → Joins b' c' a → Fits b' (type_under s b) → Fits c' (type_under s c) → GivesFrom y s k (vars_with (both_parts n k x (Some b) (Some c))) → PartsPass s (Some a) (Some b) (Some c) (both_parts n k x (Some b) (Some c))
  both_needed a b c b' c' own j f1 f2 g =
      let join1 = subst (λ q. PatternJoins q c'.polarity a.polarity b'.pattern c'.pattern a.pattern) f1.polarity j.pattern in
      let join2 = subst (λ r. PatternJoins b.polarity r a.polarity b'.pattern c'.pattern a.pattern) f2.polarity join1 in
      let all =
      needed_twice a b c b.polarity c.polarity a.polarity b'.pattern c'.pattern own refl
      (sym j.body_interface ∙ f2.interface) (usage_twice a.usage c'.usage c.usage j.usage f2.usage) join2 f1.pattern f2.pattern g in
      record {
        order = second_needed b'.usage b.usage j.bound_usage f1.usage;
        one = all.0;
        passes = all.1;
        holds = all.2;
      }

  -- what the typing has of a variable of a let passes to what is needed of it
  pub parts_pass : (a b' c' b c : Option MailboxType) → y.envs n x ≡ a → SplitsTo a b' c' → PassesTo b' (need_under s b) → PassesTo c' (need_under s c) → GivesFrom y s k (vars_with (both_parts n k x b c)) → PartsPass s a b c (both_parts n k x b c)
  parts_pass a b' c' None None own h f1 f2 g = record {
    order = refl;
    one = refl;
    passes = dropped (split_first a b' c' h f1);
    holds = tt;
  }
    where
      dropped : SplitsTo a None c' → PassesTo a None
      dropped d = go a c' d f2
        where
          go : (a c' : Option MailboxType) → SplitsTo a None c' → PassesTo c' None → PassesTo a None
          go None None d f = tt
          go None (Some c) d f = absurd d
          go (Some a) None d f = d
          go (Some a) (Some c) d f = passes_drop (Some a) (Some c) d f
  parts_pass a b' c' (Some b) None own h f1 f2 g = record {
    order = refl;
    one = refl;
    passes = go a b' (split_second a b' c' h f2) f1;
    holds = tt;
  }
    where
      go : (a b' : Option MailboxType) → SplitsTo a b' None → PassesTo b' (Some (type_under s b)) → PassesTo a (Some (type_under s b))
      go a None d f = absurd f
      go None (Some b') d f = absurd d
      go (Some a) (Some b') d f = passes_twice (Some a) (Some b') (Some (type_under s b)) d f
  parts_pass a b' c' None (Some c) own h f1 f2 g = record {
    order = refl;
    one = refl;
    passes = go a c' (split_first a b' c' h f1) f2;
    holds = tt;
  }
    where
      go : (a c' : Option MailboxType) → SplitsTo a None c' → PassesTo c' (Some (type_under s c)) → PassesTo a (Some (type_under s c))
      go a None d f = absurd f
      go None (Some c') d f = absurd d
      go (Some a) (Some c') d f = passes_twice (Some a) (Some c') (Some (type_under s c)) d f
  parts_pass a None c' (Some b) (Some c) own h f1 f2 g = absurd f1
  parts_pass a (Some b') None (Some b) (Some c) own h f1 f2 g = absurd f2
  parts_pass None (Some b') (Some c') (Some b) (Some c) own h f1 f2 g = absurd h
  parts_pass (Some a) (Some b') (Some c') (Some b) (Some c) own h f1 f2 g = both_needed a b c b' c' own h f1 f2 g

-- ---- what is needed

order_second : (u : Usage) → is_second u ≡ true → u ≡ Second
order_second Second h = refl
order_second Returnable h = cc

usage_same : (u : Usage) → UsageFits u u
usage_same Second = tt
usage_same Returnable = tt

needed_joins : (s : ℕ → Pat) (n k x : ℕ) (b c : MailboxType) (q r : Polarity) → b.polarity ≡ q → c.polarity ≡ r → b.interface ≡ c.interface → b.usage ≡ Second → not (is_receiver q && is_receiver r) ≡ true → AllByRecursion (Holds s) (constraints_with (parts_joined n k x q r b c)) → SplitsTo (need_under s (need_with (parts_joined n k x q r b c))) (Some (type_under s b)) (Some (type_under s c))
needed_joins s n k x b c Sending Sending bq cr face fit one h = record {
  bound_interface = face;
  body_interface = refl;
  bound_usage = fit;
  usage = usage_same c.usage;
  pattern = subst (λ q. PatternJoins q c.polarity Sending (replaced s b.pattern) (replaced s c.pattern) (replaced s (prod_of b.pattern c.pattern))) (sym bq)
      (subst (λ r. PatternJoins Sending r Sending (replaced s b.pattern) (replaced s c.pattern) (replaced s (prod_of b.pattern c.pattern))) (sym cr)
      (prod_from s b.pattern c.pattern));
}
needed_joins s n k x b c Sending Receiving bq cr face fit one h = record {
  bound_interface = face;
  body_interface = refl;
  bound_usage = fit;
  usage = usage_same c.usage;
  pattern = subst (λ q. PatternJoins q c.polarity Receiving (replaced s b.pattern) (replaced s c.pattern) (s k)) (sym bq)
      (subst (λ r. PatternJoins Sending r Receiving (replaced s b.pattern) (replaced s c.pattern) (s k)) (sym cr)
      (λ w i. h.0 w (prod_from s b.pattern (Var k) w i)));
}
needed_joins s n k x b c Receiving Sending bq cr face fit one h = record {
  bound_interface = face;
  body_interface = refl;
  bound_usage = fit;
  usage = usage_same c.usage;
  pattern = subst (λ q. PatternJoins q c.polarity Receiving (replaced s b.pattern) (replaced s c.pattern) (s k)) (sym bq)
      (subst (λ r. PatternJoins Receiving r Receiving (replaced s b.pattern) (replaced s c.pattern) (s k)) (sym cr)
      (λ w i. h.0 w (prod_from s c.pattern (Var k) w i)));
}
needed_joins s n k x b c Receiving Receiving bq cr face fit one h = cc

-- every type passes to itself
pub fits_same : (a : MailboxType) → Fits a a
fits_same a = record { interface = refl; polarity = refl; usage = usage_same a.usage; pattern = pattern_same a.polarity a.pattern a.pattern refl }

-- what is needed of a variable of a let is divided among what the parts need
pub parts_split : (s : ℕ → Pat) (n k x : ℕ) (b c : Option MailboxType) → ((b' c' : MailboxType) → b ≡ Some b' → c ≡ Some c' → b'.interface ≡ c'.interface) → in_order b c ≡ true → one_receives b c ≡ true → AllByRecursion (Holds s) (constraints_with (both_parts n k x b c)) → SplitsTo (need_under s (need_with (both_parts n k x b c))) (need_under s b) (need_under s c)
parts_split s n k x None None face order one h = tt
parts_split s n k x (Some b) None face order one h = fits_same (type_under s b)
parts_split s n k x None (Some c) face order one h = fits_same (type_under s c)
parts_split s n k x (Some b) (Some c) face order one h =
    needed_joins s n k x b c b.polarity c.polarity refl refl (face b c refl refl) (order_second b.usage order) one h

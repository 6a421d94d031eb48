-- What passes: by one type to another, twice, and to nothing.
use Rattle.std.proofs.Common.{◌≡◌, ℕ, Some, None, ◌∙◌, sym, subst, refl}
use Rattle.pat_words_spec.specs.Words.{no_word}
use Rattle.pat_words_spec.specs.Patterns.{Pat, In}
use Rattle.pat_semantics_spec.specs.Programs.{Polarity, Sending, Receiving}
use Rattle.pat_type_system_spec.specs.Types.{Usage, PatternFits, DropsAs, PassesTo, Second, Returnable, UsageFits, MailboxType, Fits, TypeOf, BaseTerm, MailboxTerm, TypeFits, mailbox_type}
use Rattle.pat_type_system_spec.specs.Holdings.{Holding, as_holding}
use Rattle.pat_type_system_spec.specs.Typings.{NamePasses}

-- what passes to what may be dropped may be dropped
pub drop_back : (i j : ℕ) (u v : Usage) (q p : Polarity) (e f : Pat) → q ≡ p → PatternFits p e f → DropsAs p f → DropsAs q e
drop_back i j u v Sending Sending e f same h d = h no_word d
drop_back i j u v Receiving Receiving e f same h d = absurd d
drop_back i j u v Sending Receiving e f same h d = cc
drop_back i j u v Receiving Sending e f same h d = cc

pub passes_drop : (h k : Holding) → PassesTo h k → PassesTo k None → PassesTo h None
passes_drop None None p d = tt
passes_drop None (Some b) p d = absurd p
passes_drop (Some a) None p d = p
passes_drop (Some a) (Some b) p d =
    drop_back a.interface b.interface a.usage b.usage a.polarity b.polarity a.pattern b.pattern p.polarity p.pattern d

pub usage_twice : (a b c : Usage) → UsageFits a b → UsageFits b c → UsageFits a c
usage_twice Second Second c u v = v
usage_twice Second Returnable c u v = absurd u
usage_twice Returnable b Second u v = tt
usage_twice Returnable b Returnable u v = tt

pub pattern_twice : (q r : Polarity) (e f g : Pat) → q ≡ r → PatternFits q e f → PatternFits r f g → PatternFits r e g
pattern_twice Sending Sending e f g same h k = λ w i. h w (k w i)
pattern_twice Receiving Receiving e f g same h k = λ w i. k w (h w i)
pattern_twice Sending Receiving e f g same h k = cc
pattern_twice Receiving Sending e f g same h k = cc

pub fits_twice : (a b c : MailboxType) → Fits a b → Fits b c → Fits a c
fits_twice a b c h k = record {
  interface = h.interface ∙ k.interface;
  polarity = h.polarity ∙ k.polarity;
  usage = usage_twice a.usage b.usage c.usage h.usage k.usage;
  pattern = pattern_twice b.polarity c.polarity a.pattern b.pattern c.pattern k.polarity h.pattern k.pattern;
}

pub passes_twice : (a b c : Holding) → PassesTo a b → PassesTo b c → PassesTo a c
passes_twice None None c h k = k
passes_twice None (Some b) c h k = absurd h
passes_twice (Some a) None None h k = h
passes_twice (Some a) None (Some c) h k = absurd k
passes_twice (Some a) (Some b) None h k = passes_drop (Some a) (Some b) h k
passes_twice (Some a) (Some b) (Some c) h k = fits_twice a b c h k

-- a type that fits another passes to it
pub type_passes : (s t : TypeOf) → TypeFits s t → PassesTo (as_holding s) (as_holding t)
type_passes (BaseTerm b) (BaseTerm c) h = tt
type_passes (MailboxTerm i q e) (MailboxTerm j r f) h = h
type_passes (BaseTerm b) (MailboxTerm j r f) h = absurd h
type_passes (MailboxTerm i q e) (BaseTerm c) h = absurd h

pub type_twice : (r s t : TypeOf) → TypeFits r s → TypeFits s t → TypeFits r t
type_twice (BaseTerm a) (BaseTerm b) (BaseTerm c) h k = h ∙ k
type_twice (MailboxTerm i q e) (MailboxTerm j r f) (MailboxTerm l s g) h k =
    fits_twice (mailbox_type i q e Returnable) (mailbox_type j r f Returnable) (mailbox_type l s g Returnable) h k
type_twice (BaseTerm a) (MailboxTerm j r f) t h k = absurd h
type_twice (MailboxTerm i q e) (BaseTerm b) t h k = absurd h
type_twice (BaseTerm a) (BaseTerm b) (MailboxTerm l s g) h k = absurd k
type_twice (MailboxTerm i q e) (MailboxTerm j r f) (BaseTerm c) h k = absurd k

pub pattern_same : (q : Polarity) (e f : Pat) → e ≡ f → PatternFits q e f
pattern_same Sending e f h = λ w i. subst (λ (x : Pat). In x w) (sym h) i
pattern_same Receiving e f h = λ w i. subst (λ (x : Pat). In x w) h i

pub usage_any : (u : Usage) → UsageFits Returnable u
usage_any Second = tt
usage_any Returnable = tt

-- what is returned passes to the name of a let
pub name_passes : (t : TypeOf) (o : Holding) → NamePasses t o → PassesTo (as_holding t) o
name_passes (BaseTerm b) o h = subst (λ x. PassesTo None x) (sym h) tt
name_passes (MailboxTerm i q e) None h = h
name_passes (MailboxTerm i q e) (Some a) h = record {
  interface = sym h.0;
  polarity = sym h.1;
  usage = usage_any a.usage;
  pattern = pattern_same a.polarity e a.pattern (sym h.2);
}

pub type_same : (t : TypeOf) → TypeFits t t
type_same (BaseTerm b) = refl
type_same (MailboxTerm i q e) = record { interface = refl; polarity = refl; usage = tt; pattern = pattern_same q e e refl }

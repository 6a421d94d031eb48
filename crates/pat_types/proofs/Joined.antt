-- A type joins two others exactly as the row of their case says.
use Rattle.std.proofs.Common.{◌≡◌, ◌↔◌, Bool, true, false, nat_eq, refl, sym, ap₂, ◌∙◌, subst}
use Rattle.std.proofs.lemmas.Bool.{eqb-true, eq-eqb}
use Rattle.pat_words_spec.specs.Patterns.{Pat}
use Rattle.pat_semantics_spec.specs.Programs.{Polarity, Sending, Receiving}
use Rattle.pat_type_system_spec.specs.Types.{Usage, Second, Returnable, MailboxType, Joins, PatternJoins}
use Rattle.pat_types.specs.declared.joining.Combined.{Combined}
use Rattle.pat_types.specs.Joining.{case_of, case_if, combined_of, PatternRow, Row}

-- the row that three polarities and patterns are of
row_of : (p q r : Polarity) (e1 e2 e : Pat) → PatternJoins p q r e1 e2 e → PatternRow (case_of p q) r e1 e2 e
row_of Sending Sending Sending e1 e2 e h = (refl, h)
row_of Sending Receiving Receiving e1 e2 e h = (refl, h)
row_of Receiving Sending Receiving e1 e2 e h = (refl, h)
row_of Sending Sending Receiving e1 e2 e h = absurd h
row_of Sending Receiving Sending e1 e2 e h = absurd h
row_of Receiving Sending Sending e1 e2 e h = absurd h
row_of Receiving Receiving r e1 e2 e h = absurd h

joined_of : (p q r : Polarity) (e1 e2 e : Pat) → PatternRow (case_of p q) r e1 e2 e → PatternJoins p q r e1 e2 e
joined_of Sending Sending r e1 e2 e h = subst (λ s. PatternJoins Sending Sending s e1 e2 e) (sym h.0) h.1
joined_of Sending Receiving r e1 e2 e h = subst (λ s. PatternJoins Sending Receiving s e1 e2 e) (sym h.0) h.1
joined_of Receiving Sending r e1 e2 e h = subst (λ s. PatternJoins Receiving Sending s e1 e2 e) (sym h.0) h.1
joined_of Receiving Receiving r e1 e2 e h = absurd h

-- a case with a row is that of types of one interface, the first of them second-class
record Met (t : Bool) (u : Usage) (k : Combined) (q : Polarity) (e1 e2 e : Pat) : Type 0 where
  same : t ≡ true
  second : u ≡ Second
  row : PatternRow k q e1 e2 e

met : (t : Bool) (u : Usage) (k : Combined) (q : Polarity) (e1 e2 e : Pat) → PatternRow (case_if t u k) q e1 e2 e → Met t u k q e1 e2 e
met true Second k q e1 e2 e h = record { same = refl; second = refl; row = h }
met true Returnable k q e1 e2 e h = absurd h
met false u k q e1 e2 e h = absurd h

to_row : (b c a : MailboxType) → Joins b c a → Row (combined_of b c) b c a
to_row b c a j =
    let k : Combined = case_of b.polarity c.polarity in
    let same : nat_eq b.interface c.interface ≡ true = eq-eqb b.interface c.interface (j.bound_interface ∙ sym j.body_interface) in
    let is : combined_of b c ≡ k = ap₂ (λ t u. case_if t u k) same j.bound_usage in
    (j.bound_interface, (j.usage, subst (λ x. PatternRow x a.polarity b.pattern c.pattern a.pattern) (sym is) (row_of b.polarity c.polarity a.polarity b.pattern c.pattern a.pattern j.pattern)))

from_row : (b c a : MailboxType) → Row (combined_of b c) b c a → Joins b c a
from_row b c a r =
    let m : Met (nat_eq b.interface c.interface) b.usage (case_of b.polarity c.polarity) a.polarity b.pattern c.pattern a.pattern = met (nat_eq b.interface c.interface) b.usage (case_of b.polarity c.polarity) a.polarity b.pattern c.pattern a.pattern r.1.1 in
    record {
      bound_interface = r.0;
      body_interface = sym (eqb-true b.interface c.interface m.same) ∙ r.0;
      bound_usage = m.second;
      usage = r.1.0;
      pattern = joined_of b.polarity c.polarity a.polarity b.pattern c.pattern a.pattern m.row;
    }

pub joins_by_row : (b c : MailboxType) (k : Combined) → k ≡ combined_of b c → (a : MailboxType) → Joins b c a ↔ Row k b c a
joins_by_row b c k is a = subst (λ x. Joins b c a ↔ Row x b c a) (sym is) (to_row b c a, from_row b c a)

-- How what the two parts of a let use of one mailbox joins to one type.
use Rattle.std.specs.Prelude.{◌≡◌, Bool, true, false, nat_eq, Option, Some, None}
use Rattle.pat_words_spec.specs.Patterns.{Pat, Prod, Included}
use Rattle.pat_semantics_spec.specs.Programs.{Polarity, Sending, Receiving}
use Rattle.pat_type_system_spec.specs.Types.{Usage, Second, Returnable, UsageFits, MailboxType}
use Rattle.pat_types.specs.declared.joining.Combined.{Combined}
use Rattle.pat_types.specs.declared.joining.Combined.TheVariants.{SendSend, SendReceive, ReceiveSend, Double, Order, Interfaces}

-- the usage of the whole: what the first part may give back, the second doesn't have
abbrev pub joined_usage : Usage → Usage → Option Usage
joined_usage Second u = Some u
joined_usage Returnable u = None

-- the case of two polarities
abbrev pub case_of : Polarity → Polarity → Combined
case_of Sending Sending = SendSend
case_of Sending Receiving = SendReceive
case_of Receiving Sending = ReceiveSend
case_of Receiving Receiving = Double

-- the case, if both are of one interface and the first may not be given back
abbrev pub case_if : Bool → Usage → Combined → Combined
case_if false u k = Interfaces
case_if true Returnable k = Order
case_if true Second k = k

-- the case of a type in the first part and one in the second
abbrev pub combined_of : MailboxType → MailboxType → Combined
combined_of b c = case_if (nat_eq b.interface c.interface) b.usage (case_of b.polarity c.polarity)

-- what a case asks of the polarity and the pattern of the whole
abbrev pub PatternRow : Combined → Polarity → Pat → Pat → Pat → Type 0
PatternRow SendSend q e1 e2 e = (q ≡ Sending) × Included (Prod e1 e2) e
PatternRow SendReceive q e1 e2 e = (q ≡ Receiving) × Included (Prod e1 e) e2
PatternRow ReceiveSend q e1 e2 e = (q ≡ Receiving) × Included (Prod e2 e) e1
PatternRow _ q e1 e2 e = ⊥

-- what a case asks of the type of the whole
abbrev pub Row : Combined → MailboxType → MailboxType → MailboxType → Type 0
Row k b c a = (b.interface ≡ a.interface) × (UsageFits a.usage c.usage × PatternRow k a.polarity b.pattern c.pattern a.pattern)

-- What a let needs of a variable, from what its bound part and its body need.
use Rattle.std.specs.Prelude.{ℕ, Bool, true, not, ◌&&◌, [], ◌∷◌, Option, Some, None}
use Rattle.pat_words_spec.specs.Patterns.{Pat, Var, prod_of}
use Rattle.pat_semantics_spec.specs.Programs.{Polarity, Sending, Receiving}
use Rattle.pat_type_system_spec.specs.Types.{MailboxType, mailbox_type}
use Rattle.pat_type_schemes_spec.specs.Signatures.{OfNeed, Variable}
use Rattle.pat_type_schemes_spec.specs.Compared.{is_receiver, is_second}
use Rattle.pat_infer_spec.specs.Constraints.{AtNode, constraint}
use Rattle.pat_infer_spec.specs.Needs.{Combined, just}

-- what the bound part needs as returnable, the body doesn't need
abbrev pub in_order : Option MailboxType → Option MailboxType → Bool
in_order (Some b) (Some c) = is_second b.usage
in_order _ _ = true

-- not both parts receive
abbrev pub one_receives : Option MailboxType → Option MailboxType → Bool
one_receives (Some b) (Some c) = not (is_receiver b.polarity && is_receiver c.polarity)
one_receives _ _ = true

-- the variable of what node n needs of x
abbrev pub new_var : ℕ → ℕ → ℕ → Variable
new_var n x i = record { interface = i; polarity = Receiving; origin = OfNeed n x }

-- node n needs x by a new pattern, so that what is sent, with what is still to come, is a word of what is received
abbrev pub received_by : ℕ → ℕ → ℕ → MailboxType → Pat → Pat → Option Combined
received_by n k x c sent got = Some (record {
  need = mailbox_type c.interface Receiving (Var k) c.usage;
  vars = new_var n x c.interface ∷ [];
  constraints = constraint c.interface (prod_of sent (Var k)) got (AtNode n) ∷ [];
})

-- what is needed where both parts need x, by their polarities; two receiving parts break a rule
abbrev pub parts_joined : ℕ → ℕ → ℕ → Polarity → Polarity → MailboxType → MailboxType → Option Combined
parts_joined n k x Sending Sending b c = just (mailbox_type c.interface Sending (prod_of b.pattern c.pattern) c.usage)
parts_joined n k x Sending Receiving b c = received_by n k x c b.pattern c.pattern
parts_joined n k x Receiving _ b c = received_by n k x c c.pattern b.pattern

-- what node n needs of x, where a new variable has number k
abbrev pub both_parts : ℕ → ℕ → ℕ → Option MailboxType → Option MailboxType → Option Combined
both_parts n k x None None = None
both_parts n k x (Some b) None = just b
both_parts n k x None (Some c) = just c
both_parts n k x (Some b) (Some c) = parts_joined n k x b.polarity c.polarity b c

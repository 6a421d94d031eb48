-- What is divided among two parts of which one may drop it: then it passes to what the other part has.
use Rattle.std.proofs.Common.{◌≡◌, ℕ, Some, None, refl, sym}
use Rattle.pat_words_spec.specs.Words.{no_word}
use Rattle.pat_words_spec.specs.Patterns.{Pat, Prod, In, Included}
use Rattle.pat_words_laws.proofs.WordLaws.{none_plus, plus_none}
use Rattle.pat_semantics_spec.specs.Programs.{Polarity, Sending, Receiving}
use Rattle.pat_type_system_spec.specs.Types.{Usage, Second, Returnable, mailbox_type, UsageFits, PatternJoins, DropsAs, Fits, SplitsTo, PassesTo}
use Rattle.pat_type_system_spec.specs.Holdings.{Holding}
use Rattle.pat_type_system_laws.proofs.Passing.{passes_drop}

included_first : (e1 e2 e : Pat) → Included (Prod e1 e2) e → In e2 no_word → Included e1 e
included_first e1 e2 e h d = λ w i. h w (w, no_word, i, d, sym (plus_none w))

included_second : (e1 e2 e : Pat) → Included (Prod e1 e2) e → In e1 no_word → Included e2 e
included_second e1 e2 e h d = λ w i. h w (no_word, w, d, i, sym (none_plus w))

joins_first : (i : ℕ) (q r s : Polarity) (e1 e2 e : Pat) (u v : Usage) (j : ℕ) → i ≡ j → UsageFits u v → PatternJoins q r s e1 e2 e → DropsAs q e1 → Fits (mailbox_type i s e u) (mailbox_type j r e2 v)
joins_first i Sending Sending Sending e1 e2 e u v j same fit h d = record { interface = same; polarity = refl; usage = fit; pattern = included_second e1 e2 e h d }
joins_first i Sending Receiving Receiving e1 e2 e u v j same fit h d = record { interface = same; polarity = refl; usage = fit; pattern = included_second e1 e e2 h d }
joins_first i Sending Sending Receiving e1 e2 e u v j same fit h d = absurd h
joins_first i Sending Receiving Sending e1 e2 e u v j same fit h d = absurd h
joins_first i Receiving r s e1 e2 e u v j same fit h d = absurd d

joins_second : (i : ℕ) (q r s : Polarity) (e1 e2 e : Pat) (u v : Usage) (j : ℕ) → i ≡ j → UsageFits u v → PatternJoins q r s e1 e2 e → DropsAs r e2 → Fits (mailbox_type i s e u) (mailbox_type j q e1 v)
joins_second i Sending Sending Sending e1 e2 e u v j same fit h d = record { interface = same; polarity = refl; usage = fit; pattern = included_first e1 e2 e h d }
joins_second i Receiving Sending Receiving e1 e2 e u v j same fit h d = record { interface = same; polarity = refl; usage = fit; pattern = included_second e2 e e1 h d }
joins_second i Sending Sending Receiving e1 e2 e u v j same fit h d = absurd h
joins_second i Receiving Sending Sending e1 e2 e u v j same fit h d = absurd h
joins_second i Sending Receiving s e1 e2 e u v j same fit h d = absurd d
joins_second i Receiving Receiving s e1 e2 e u v j same fit h d = absurd d

pub second_any : (u v : Usage) → v ≡ Second → UsageFits u v
second_any Second Second h = tt
second_any Returnable Second h = tt
second_any u Returnable h = cc

-- the bound part drops it
pub split_first : (a b c : Holding) → SplitsTo a b c → PassesTo b None → SplitsTo a None c
split_first None None None h d = tt
split_first None None (Some c) h d = absurd h
split_first None (Some b) c h d = absurd h
split_first (Some a) None c h d = h
split_first (Some a) (Some b) None h d = passes_drop (Some a) (Some b) h d
split_first (Some a) (Some b) (Some c) h d =
    joins_first a.interface b.polarity c.polarity a.polarity b.pattern c.pattern a.pattern a.usage c.usage c.interface (sym h.body_interface) h.usage h.pattern d

-- the body drops it
pub split_second : (a b c : Holding) → SplitsTo a b c → PassesTo c None → SplitsTo a b None
split_second None None None h d = tt
split_second None None (Some c) h d = absurd h
split_second None (Some b) c h d = absurd h
split_second (Some a) b None h d = h
split_second (Some a) None (Some c) h d = passes_drop (Some a) (Some c) h d
split_second (Some a) (Some b) (Some c) h d =
    joins_second a.interface b.polarity c.polarity a.polarity b.pattern c.pattern a.pattern a.usage b.usage b.interface (sym h.bound_interface) (second_any a.usage b.usage h.bound_usage) h.pattern d

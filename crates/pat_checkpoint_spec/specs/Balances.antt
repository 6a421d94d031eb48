-- The last rule: for each live mailbox, what is pending with all that may still be sent lies in what its receiver expects.
use Rattle.std.specs.Prelude.{ℕ, zero, suc, ◌+◌, Bool, true, false, ◌&&◌, nat_eq, List, [], ◌∷◌, ◌++◌, length, map, filter, Option, Some, None}
use Rattle.pat_semantics_spec.specs.Programs.{Program}
use Rattle.pat_semantics_spec.specs.Configs.{Message, Config}
use Rattle.pat_inclusion_spec.specs.Patterns.{Pat, Zero, One, Tag, prod_of}
use Rattle.pat_inclusion_spec.specs.Values.{Scope}
use Rattle.pat_inclusion_spec.specs.Certificates.{Cert, Inclusion, is_shown}
use Rattle.pat_type_system_spec.specs.Typings.{Typing}
use Rattle.pat_type_system_spec.specs.Holdings.{Holding, receivers}
use Rattle.pat_derivation_spec.specs.Derivations.{Derivation, scope_of, written_typing}
use Rattle.pat_checkpoint_spec.specs.Checkpoints.{Checkpoint, interfaces_of}
use Rattle.pat_checkpoint_spec.specs.HoldingsInOrder.{sends_by, lines_held}

-- ---- products of many patterns

-- neighbours joined, the first with the second, the third with the fourth, and so on
abbrev pub paired : List Pat → List Pat
paired [] = []
paired (e ∷ []) = e ∷ []
paired (e ∷ f ∷ rest) = prod_of e f ∷ paired rest

-- the patterns joined one after another
abbrev pub chained : List Pat → Pat
chained [] = One
chained (e ∷ es) = prod_of e (chained es)

-- neighbours joined again and again, at most so many times, and then what is left one after another
abbrev pub joined_within : ℕ → List Pat → Pat
joined_within n [] = One
joined_within n (e ∷ []) = e
joined_within zero es = chained es
joined_within (suc n) es = joined_within n (paired es)

-- the product of the patterns in order, by the simplifying forms: neighbours are joined until one pattern is left, so that it has few levels more
-- than they have
abbrev pub product_of : List Pat → Pat
product_of es = joined_within (length es) es

-- so many doublings of 1
abbrev pub powers : ℕ → ℕ
powers zero = 1
powers (suc r) = powers r + powers r

-- ---- the sides

-- the tags of the messages that are pending in the mailbox
abbrev pub pending_tags : ℕ → List Message → List Pat
pending_tags a ms = map (λ m. Tag m.tag) (filter (λ m. nat_eq m.mailbox a) ms)

-- the pattern of a sending holding
abbrev pub sends : Holding → List Pat
sends None = []
sends (Some a) = sends_by a.polarity a.pattern

-- the patterns of the sending holdings
abbrev pub senders : List Holding → List Pat
senders [] = []
senders (h ∷ hs) = sends h ++ senders hs

-- what may come: the tags of the messages in order of number, and then the patterns of the sending holdings
abbrev pub balance_left : Program → Typing → (ℕ → ℕ) → Config → ℕ → Pat
balance_left p y interfaces c a = product_of (pending_tags a c.messages ++ senders (lines_held p y interfaces c a))

abbrev pub first_or_zero : List Pat → Pat
first_or_zero [] = Zero
first_or_zero (e ∷ es) = e

-- what the receiver expects
abbrev pub balance_right : Program → Typing → (ℕ → ℕ) → Config → ℕ → Pat
balance_right p y interfaces c a = first_or_zero (receivers (lines_held p y interfaces c a))

-- the inclusion that is needed for a mailbox
abbrev pub balance_needs : Program → Typing → (ℕ → ℕ) → Config → ℕ → Inclusion
balance_needs p y interfaces c a = record {
  interface = Some (interfaces a);
  left = balance_left p y interfaces c a;
  right = balance_right p y interfaces c a;
}

-- ---- the rule

-- each mailbox has its inclusion shown, by the certificate at its place or without one; there is a place for each, and an interface
abbrev pub balances_shown : Scope → (ℕ → Inclusion) → List ℕ → List ℕ → List (Option Cert) → Bool
balances_shown s needs [] [] [] = true
balances_shown s needs (a ∷ more) (i ∷ is) (k ∷ ks) = is_shown s (needs a) k && balances_shown s needs more is ks
balances_shown s needs _ _ _ = false

-- Balance
abbrev pub balances_hold : Program → Derivation → Checkpoint → Bool
balances_hold p d x =
    balances_shown (scope_of p d) (balance_needs p (written_typing p d) (interfaces_of x) x.config) x.config.live x.interfaces x.mailbox_certs

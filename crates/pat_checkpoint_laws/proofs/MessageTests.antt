-- The tests of messages and of balances say that they fit.
use Rattle.std.proofs.Common.{◌≡◌, ℕ, true, not, nat_eq, List, [], ◌∷◌, ◌++◌, map, Option, Some, None, refl, sym, ap, ◌∙◌, subst, ⊎_elim}
use Rattle.std.specs.List.{IsDistinct}
use Rattle.std.proofs.lemmas.Bool.{and_parts, or_cases, eqb-true}
use Rattle.pat_words_spec.specs.Words.{Word, plus}
use Rattle.pat_words_spec.specs.Patterns.{Pat, In}
use Rattle.pat_semantics_spec.specs.Programs.{Program, TagDecl, tag_at, kind_of, is_among}
use Rattle.pat_semantics_spec.specs.WellFormed.{WellFormed}
use Rattle.pat_semantics_spec.specs.Configs.{Message, Config, pending}
use Rattle.pat_semantics_laws.proofs.Lists.{distinct_join, no_distinct, not_true, apart_uncounted}
use Rattle.pat_inclusion_spec.specs.Values.{Scope, filled}
use Rattle.pat_inclusion_spec.specs.Certificates.{Cert, Inclusion, is_shown}
use Rattle.pat_inclusion_laws.proofs.Shown.{ValuesFit as ScopeFits}
use Rattle.pat_type_system_spec.specs.Typings.{Typing}
use Rattle.pat_type_system_spec.specs.Holdings.{Holding, holdings, receivers, Choice, Balanced}
use Rattle.pat_type_system_spec.specs.Typed.{MessageFits, mailboxes_of}
use Rattle.pat_derivation_spec.specs.Same.{all_differ}
use Rattle.pat_derivation_spec.specs.Derivations.{Derivation, scope_of, written_typing, typing_of}
use Rattle.pat_derivation_laws.proofs.Filled.{ValueWords, under_filled}
use Rattle.pat_checkpoint_spec.specs.Mailboxes.{fits_declared, message_fits, message_differs, is_single}
use Rattle.pat_checkpoint_spec.specs.Balances.{pending_tags, senders, balance_left, first_or_zero, balance_right, balance_needs, balances_shown}
use Rattle.pat_checkpoint_spec.specs.HoldingsInOrder.{lines_held}
use Rattle.pat_checkpoint_laws.proofs.Lists.{differ_so}
use Rattle.pat_checkpoint_laws.proofs.Singles.{single_held, single_lines}
use Rattle.pat_checkpoint_laws.proofs.PartTests.{all_fit_so, so_all_fit}
use Rattle.pat_checkpoint_laws.proofs.TypeTests.{shown_filled}
use Rattle.pat_checkpoint_laws.proofs.Put.{holdings_put, receivers_put}
use Rattle.pat_checkpoint_laws.proofs.Products.{all_join, all_product, pending_all}
use Rattle.pat_checkpoint_laws.proofs.Chosen.{chosen_lines, SendsPut, choice_put, chosen_all}

-- ---- messages

so_differ : (xs : List ℕ) → all_differ xs ≡ true → IsDistinct nat_eq xs
so_differ [] h = no_distinct
so_differ (x ∷ xs) h =
    let b = and_parts (not (is_among x xs)) (all_differ xs) h in
    distinct_join x xs (apart_uncounted x xs (not_true (is_among x xs) b.0)) (so_differ xs b.1)

pub message_so : (p : Program) (interfaces : ℕ → ℕ) (m : Message) → message_fits p interfaces m ≡ true → message_differs m ≡ true → MessageFits p interfaces m
message_so p interfaces m h differ = go (tag_at p (interfaces m.mailbox) m.tag) refl h
  where
    go : (o : Option TagDecl) → tag_at p (interfaces m.mailbox) m.tag ≡ o → fits_declared interfaces m.values o ≡ true → MessageFits p interfaces m
    go None is k = cc
    go (Some decl) is k = record {
      decl = decl;
      declared = is;
      values = all_fit_so interfaces m.values (map kind_of decl.payloads) k;
      different = so_differ (m.mailbox ∷ mailboxes_of m.values) differ;
    }

pub so_message_fits : (p : Program) (interfaces : ℕ → ℕ) (m : Message) → MessageFits p interfaces m → message_fits p interfaces m ≡ true
so_message_fits p interfaces m h =
    ap (fits_declared interfaces m.values) h.declared ∙ so_all_fit interfaces m.values (map kind_of h.decl.payloads) h.values

pub so_message_differs : (p : Program) (interfaces : ℕ → ℕ) (m : Message) → MessageFits p interfaces m → message_differs m ≡ true
so_message_differs p interfaces m h = differ_so (m.mailbox ∷ mailboxes_of m.values) h.different

-- ---- receivers

pub single_so : (es : List Pat) → is_single es ≡ true → es ≡ first_or_zero es ∷ []
single_so (e ∷ []) h = refl
single_so [] h = cc
single_so (e ∷ f ∷ es) h = cc

-- just one where there is just one once values are put in
pub so_single : (s : Scope) (es : List Pat) (f : Pat) → map (filled s) es ≡ f ∷ [] → is_single es ≡ true
so_single s [] f h = cc
so_single s (e ∷ []) f h = refl
so_single s (e ∷ g ∷ es) f h = cc

-- ---- balances

-- a live mailbox's inclusion is shown
pub shown_at : (s : Scope) (needs : ℕ → Inclusion) (live is : List ℕ) (ks : List (Option Cert)) (a : ℕ) → balances_shown s needs live is ks ≡ true → is_among a live ≡ true → (k : Option Cert) × (is_shown s (needs a) k ≡ true)
shown_at s needs [] is ks a h m = cc
shown_at s needs (b ∷ more) [] ks a h m = cc
shown_at s needs (b ∷ more) (i ∷ is) [] a h m = cc
shown_at s needs (b ∷ more) (i ∷ is) (k ∷ ks) a h m =
    let q = and_parts (is_shown s (needs b) k) (balances_shown s needs more is ks) h in
    ⊎_elim
    (λ here. (k, subst (λ n. is_shown s (needs n) k ≡ true) (sym (eqb-true a b here)) q.0))
    (λ rest. shown_at s needs more is ks a q.1 rest)
    (or_cases (nat_eq a b) (is_among a more) m)

module _ (p : Program) (wf : WellFormed p) (d : Derivation) (interfaces : ℕ → ℕ) (c : Config) (a : ℕ) where
  abbrev s : Scope
  s = scope_of p d

  abbrev y : Typing
  y = typing_of p d

  abbrev w : Typing
  w = written_typing p d

  abbrev hs : List Holding
  hs = holdings p w interfaces c a

  -- what is pending with a choice of what may be sent is a word of the left side
  left_word : (z : Word) → Choice (holdings p y interfaces c a) z → In (filled s (balance_left p w interfaces c a)) (plus (pending c a) z)
  left_word z h =
      let chosen = choice_put s hs z (subst (λ ks. Choice ks z) (holdings_put p d wf interfaces c a) h) in
      let lines = lines_held p w interfaces c a in
      let sent = chosen_all s lines z (chosen_lines (SendsPut s) p w a interfaces c z chosen) in
      let tags = pending_tags a c.messages in
      under_filled s (balance_left p w interfaces c a) (plus (pending c a) z)
      (all_product (ValueWords s) (tags ++ senders lines) (plus (pending c a) z)
      (all_join (ValueWords s) tags (senders lines) (pending c a) z (pending_all (ValueWords s) a c.messages) sent))

  abbrev ls : List Holding
  ls = lines_held p w interfaces c a

  pub balance_so : (k : Option Cert) → ScopeFits s → is_single (receivers ls) ≡ true → is_shown s (balance_needs p w interfaces c a) k ≡ true → Balanced (holdings p y interfaces c a) (pending c a)
  balance_so k fit one shown = record {
    pattern = filled s (balance_right p w interfaces c a);
    one_receiver =
        ap receivers (holdings_put p d wf interfaces c a)
        ∙ receivers_put s hs
        ∙ ap (map (filled s)) (single_held p w interfaces c a (first_or_zero (receivers ls)) (single_so (receivers ls) one));
    fits = λ z h. shown_filled s (balance_needs p w interfaces c a) k fit shown (plus (pending c a) z) (left_word z h);
  }

  pub so_holder : Balanced (holdings p y interfaces c a) (pending c a) → is_single (receivers ls) ≡ true
  so_holder b =
      let one = so_single s (receivers hs) b.pattern (sym (receivers_put s hs) ∙ sym (ap receivers (holdings_put p d wf interfaces c a)) ∙ b.one_receiver) in
      ap is_single (single_lines p w interfaces c a (first_or_zero (receivers hs)) (single_so (receivers hs) one))

-- Mailboxes whose sleepers are woken one after another.
use Rattle.std.proofs.Common.{◌≡◌, ℕ, ◌+◌, ◌<◌, ◌≤◌, true, false, nat_eq, List, [], ◌∷◌, length, get_or, take, take_all, subst, inl, inr, ⊎_elim}
use Rattle.std.specs.List.{list_any}
use Rattle.std.proofs.lemmas.Bool.{or_cases, eqb-true}
use Rattle.std.proofs.lemmas.List.{take_more}
use Rattle.pat_semantics_spec.specs.Values.{Value}
use Rattle.pat_semantics_spec.specs.Programs.{Program, is_among}
use Rattle.pat_semantics_spec.specs.Configs.{Config, is_mailbox}
use Rattle.pat_semantics_laws.proofs.Lists.{append_among, any-append}
use Rattle.pat_machine_indexes.specs.declared.ready_sets.waits.ReadySets.{ReadySets}
use Rattle.pat_machine_indexes.specs.ready_sets.ReadySets.{IsInOrder, WakesThose}
use Rattle.pat_machine_indexes.proofs.Waking.{none_woken, both_woken}
use Rattle.pat_machine_steps.specs.wakeups.Sleepers.{FreesAt, FreesNamed, FreesValue, FreesBrought}

module _ (p : Program) (d : Config) where
  -- ---- mailboxes that are listed

  pub named_first : (w : ReadySets) → IsInOrder w → WakesThose (FreesNamed p d []) w w
  named_first w order = none_woken (FreesNamed p d []) w order (λ a u none. let no = none.0 in cc)

  one_listed : (a b : ℕ) → is_among a (b ∷ []) ≡ true → a ≡ b
  one_listed a b h = ⊎_elim (λ here. eqb-true a b here) (λ none. cc) (or_cases (nat_eq a b) false h)

  pub named_more : (ns : List ℕ) (i e : ℕ) (w x v : ReadySets) → i < length ns → WakesThose (FreesNamed p d (take i ns)) w x → WakesThose (FreesAt p d (get_or ns i e)) x v → WakesThose (FreesNamed p d (take (i + 1) ns)) w v
  named_more ns i e w x v within one two =
      both_woken (FreesNamed p d (take i ns)) (FreesAt p d (get_or ns i e)) (FreesNamed p d (take (i + 1) ns)) w x v
      (λ a u all. ⊎_elim
      (λ first. inl (first, all.1))
      (λ last. inr (one_listed a (get_or ns i e) last, all.1))
      (append_among a (take i ns) (get_or ns i e ∷ []) (subst (λ l. is_among a l ≡ true) (take_more ns i e within) all.0)))
      one two

  pub named_all : (ns : List ℕ) (i : ℕ) (w v : ReadySets) → length ns ≤ i → WakesThose (FreesNamed p d (take i ns)) w v → WakesThose (FreesNamed p d ns) w v
  named_all ns i w v whole = subst (λ l. WakesThose (FreesNamed p d l) w v) (take_all i ns whole)

  -- ---- values that a message brought

  pub brought_first : (w : ReadySets) → IsInOrder w → WakesThose (FreesBrought p d []) w w
  brought_first w order = none_woken (FreesBrought p d []) w order (λ a u none. let no = none.0 in cc)

  one_brought : (a : ℕ) (v : Value) → list_any (is_mailbox a) (v ∷ []) ≡ true → is_mailbox a v ≡ true
  one_brought a v h = ⊎_elim (λ here. here) (λ none. cc) (or_cases (is_mailbox a v) false h)

  pub brought_more : (vs : List Value) (i : ℕ) (e : Value) (w x v : ReadySets) → i < length vs → WakesThose (FreesBrought p d (take i vs)) w x → WakesThose (FreesValue p d (get_or vs i e)) x v → WakesThose (FreesBrought p d (take (i + 1) vs)) w v
  brought_more vs i e w x v within one two =
      both_woken (FreesBrought p d (take i vs)) (FreesValue p d (get_or vs i e)) (FreesBrought p d (take (i + 1) vs)) w x v
      (λ a u all. ⊎_elim
      (λ first. inl (first, all.1))
      (λ last. inr (one_brought a (get_or vs i e) last, all.1))
      (any-append (is_mailbox a) (take i vs) (get_or vs i e ∷ []) (subst (λ l. list_any (is_mailbox a) l ≡ true) (take_more vs i e within) all.0)))
      one two

  pub brought_all : (vs : List Value) (i : ℕ) (w v : ReadySets) → length vs ≤ i → WakesThose (FreesBrought p d (take i vs)) w v → WakesThose (FreesBrought p d vs) w v
  brought_all vs i w v whole = subst (λ l. WakesThose (FreesBrought p d l) w v) (take_all i vs whole)

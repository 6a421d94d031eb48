-- What the lines of a checkpoint need is formed.
use Rattle.std.proofs.Common.{◌≡◌, ℕ, true, ◌&&◌, nat_eq, List, [], ◌∷◌, ◌++◌, map, Option, Some, None, refl, sym, subst, reverse}
use Rattle.std.specs.List.{AllByRecursion, list_all}
use Rattle.std.proofs.lemmas.Bool.{and_parts, eqb-true, cond-true, eq-eqb}
use Rattle.std.proofs.lemmas.Grind.{reverse_onto}
use Rattle.pat_semantics_spec.specs.Programs.{Program, Polarity, Sending, Receiving, option_list}
use Rattle.pat_semantics_spec.specs.Patterns.{Pat}
use Rattle.pat_semantics_spec.specs.WellFormed.{WellFormed}
use Rattle.pat_semantics_spec.specs.Configs.{Control, Running, Returned, Frame, Thread}
use Rattle.pat_semantics_laws.proofs.Lists.{all_join, all_snoc}
use Rattle.pat_inclusion_spec.specs.Values.{Scope, is_formed}
use Rattle.pat_inclusion_spec.specs.Certificates.{Inclusion}
use Rattle.pat_type_schemes_spec.specs.Compared.{polarity_eq}
use Rattle.pat_type_system_spec.specs.Types.{TypeOf, BaseTerm, MailboxTerm}
use Rattle.pat_type_system_spec.specs.Typings.{Typing}
use Rattle.pat_type_system_spec.specs.Holdings.{wanted}
use Rattle.pat_derivation_spec.specs.Demands.{same_interface, fit_by}
use Rattle.pat_derivation_spec.specs.Derivations.{Derivation, scope_of, written_typing}
use Rattle.pat_derivation_spec.specs.Rules.{type_is_formed}
use Rattle.pat_derivation_spec.specs.Validity.{IsValid}
use Rattle.pat_checkpoint_spec.specs.Checkpoints.{Checkpoint, interfaces_of}
use Rattle.pat_checkpoint_spec.specs.Numbers.{numbers_hold}
use Rattle.pat_checkpoint_spec.specs.Kinds.{part_fits, types_agree, type_needs, control_fits, control_needs, is_frame_of_let, frames_fit, thread_fits, kinds_fit}
use Rattle.pat_checkpoint_spec.specs.Mailboxes.{mailboxes_differ, order_holds, holders_hold, messages_hold}
use Rattle.pat_checkpoint_spec.specs.Checked.{stands_typed}
use Rattle.pat_checkpoint_spec.specs.Balances.{balance_needs}
use Rattle.pat_checkpoint_spec.specs.Written.{frames_need, threads_need, lines_need, IsFormedNeed, NeedsFormed}
use Rattle.pat_checkpoint_laws.proofs.Formed.{result_formed, wanted_formed, sides_formed}

fit_formed : (s : Scope) (i : ℕ) (q : Polarity) (e f : Pat) → is_formed s i e ≡ true → is_formed s i f ≡ true → IsFormedNeed s (Some (fit_by q (same_interface i i) e f))
fit_formed s i Sending e f a b = (i, cond-true (nat_eq i i) (Some i) None (eq-eqb i i refl), b, a)
fit_formed s i Receiving e f a b = (i, cond-true (nat_eq i i) (Some i) None (eq-eqb i i refl), a, b)

-- types that are formed, and agree
need_formed : (s : Scope) (t u : TypeOf) → type_is_formed s t ≡ true → type_is_formed s u ≡ true → types_agree t u ≡ true → IsFormedNeed s (type_needs t u)
need_formed s (BaseTerm b) (BaseTerm c) a h k = tt
need_formed s (BaseTerm b) (MailboxTerm j r f) a h k = tt
need_formed s (MailboxTerm i q e) (BaseTerm c) a h k = tt
need_formed s (MailboxTerm i q e) (MailboxTerm j r f) a h k =
    let same : i ≡ j = eqb-true i j (and_parts (nat_eq i j) (polarity_eq q r) k).0 in
    subst (λ n. IsFormedNeed s (Some (fit_by r (same_interface i n) e f))) same
    (fit_formed s i r e f a (subst (λ n. is_formed s n f ≡ true) (sym same) h))

pub turned_all : {A : Type 0} (P : A → Type 0) (xs : List A) → AllByRecursion P xs → AllByRecursion P (reverse xs)
turned_all P [] a = tt
turned_all P (x ∷ xs) a = subst (AllByRecursion P) (sym (reverse_onto xs x [])) (all_snoc P (reverse xs) x (turned_all P xs a.1) a.0)

module _ (p : Program) (wf : WellFormed p) (d : Derivation) (valid : IsValid p d) (f : ℕ → ℕ) where
  abbrev s : Scope
  s = scope_of p d

  abbrev w : Typing
  w = written_typing p d

  gives_formed : (n : ℕ) (fs : List Frame) → types_agree (w.results n) (wanted p w fs) ≡ true → IsFormedNeed s (type_needs (w.results n) (wanted p w fs))
  gives_formed n fs h = need_formed s (w.results n) (wanted p w fs) (result_formed p wf d valid f n) (wanted_formed p wf d valid f fs) h

  control_formed : (k : Control) (fs : List Frame) → control_fits p w f k fs ≡ true → IsFormedNeed s (control_needs p w k fs)
  control_formed (Running n env) fs h = gives_formed n fs (and_parts (part_fits p f n [] env) (types_agree (w.results n) (wanted p w fs)) h).1
  control_formed (Returned v) fs h = tt

  frames_formed : (fs : List Frame) → frames_fit p w f fs ≡ true → NeedsFormed s (frames_need p w fs)
  frames_formed [] h = tt
  frames_formed (g ∷ fs) h =
      let part = part_fits p f g.body (option_list g.var) g.env in
      let agree = types_agree (w.results g.body) (wanted p w fs) in
      let a1 = and_parts (is_frame_of_let p g) (part && (agree && frames_fit p w f fs)) h in
      let a2 = and_parts part (agree && frames_fit p w f fs) a1.1 in
      let a3 = and_parts agree (frames_fit p w f fs) a2.1 in
      (gives_formed g.body fs a3.0, frames_formed fs a3.1)

  threads_formed : (ts : List (ℕ × Thread)) → list_all (λ e. thread_fits p w f e.1) ts ≡ true → NeedsFormed s (threads_need p w ts)
  threads_formed [] h = tt
  threads_formed (e ∷ es) h =
      let q = and_parts (thread_fits p w f e.1) (list_all (λ e. thread_fits p w f e.1) es) h in
      let k = and_parts (control_fits p w f e.1.control e.1.frames) (frames_fit p w f e.1.frames) q.0 in
      all_join (IsFormedNeed s) (control_needs p w e.1.control e.1.frames ∷ reverse (frames_need p w e.1.frames)) (threads_need p w es)
      (control_formed e.1.control e.1.frames k.0, turned_all (IsFormedNeed s) (frames_need p w e.1.frames) (frames_formed e.1.frames k.1))
      (threads_formed es q.1)

nothing_formed : {A : Type 0} (s : Scope) (xs : List A) → NeedsFormed s (map (λ x. None) xs)
nothing_formed s [] = tt
nothing_formed s (x ∷ xs) = (tt, nothing_formed s xs)

each_formed : {A : Type 0} (P : Option Inclusion → Type 0) (needs : A → Inclusion) → ((a : A) → P (Some (needs a))) → (xs : List A) → AllByRecursion P (map (λ a. Some (needs a)) xs)
each_formed P needs h [] = tt
each_formed P needs h (x ∷ xs) = (h x, each_formed P needs h xs)

pub lines_formed : (p : Program) (d : Derivation) (x : Checkpoint) → WellFormed p → IsValid p d → stands_typed p d x ≡ true → NeedsFormed (scope_of p d) (lines_need p (written_typing p d) (interfaces_of x) x.config)
lines_formed p d x wf valid h =
    let s = scope_of p d in
    let w = written_typing p d in
    let f = interfaces_of x in
    let k6 = messages_hold p x in
    let k5 = holders_hold p d x && k6 in
    let k4 = order_holds p d x.config && k5 in
    let k3 = mailboxes_differ x.config && k4 in
    let a1 = and_parts (numbers_hold x.config) (kinds_fit p d x && k3) h in
    let a2 = and_parts (kinds_fit p d x) k3 a1.1 in
    let a3 = and_parts (mailboxes_differ x.config) k4 a2.1 in
    let a4 = and_parts (order_holds p d x.config) k5 a3.1 in
    let a5 = and_parts (holders_hold p d x) k6 a4.1 in
    let sides : (a : ℕ) → IsFormedNeed s (Some (balance_needs p w f x.config a)) =
    λ a. let q = sides_formed p d f x.config a wf valid a2.0 a3.0 a5.1 in (f a, refl, q.0, q.1) in (
      tt,
      (
        tt,
        all_join (IsFormedNeed s) (map (λ a. Some (balance_needs p w f x.config a)) x.config.live) (map (λ m. None) x.config.messages ++ threads_need p w x.config.threads)
            (each_formed (IsFormedNeed s) (balance_needs p w f x.config) sides x.config.live)
            (all_join (IsFormedNeed s) (map (λ m. None) x.config.messages) (threads_need p w x.config.threads) (nothing_formed s x.config.messages) (threads_formed p wf d valid f x.config.threads a2.0)),
      ),
    )

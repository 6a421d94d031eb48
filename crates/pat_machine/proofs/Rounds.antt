-- One round: a job leaves where none is out, and is committed. And rounds one after another.
use Rattle.std.proofs.Common.{◌≡◌, ℕ, ◌+◌, ◌-◌, ◌<◌, ◌≤◌, min, Bool, true, false, cond, nat_eq, List, [], ◌∷◌, ◌++◌, length, map, Option, Some, None, refl, sym, ap, ◌∙◌, subst, arith, ⊎_elim, slice_set, length-append, append_assoc}
use Rattle.std.specs.Prelude.{option_map}
use Rattle.std.proofs.lemmas.List.{map-append, length-map}
use Rattle.std.proofs.lemmas.Bool.{eqb-false}
use Rattle.pat_core.specs.Views.{program_view}
use Rattle.pat_reduce.specs.declared.history.Entry.{Entry as CodeEntry}
use Rattle.pat_reduce.specs.Views.{act_view, entry_view}
use Rattle.pat_machine_spec.specs.Opens.{IsOpen}
use Rattle.pat_machine_spec.specs.Lendings.{allowance_of, committed_out, NoneOut, SomeOut}
use Rattle.pat_machine_laws.proofs.Runs.{commit_within}
use Rattle.pat_machine_laws.proofs.Tables.{set_elsewhere, committed_still_out}
use Rattle.pat_machine_laws.proofs.Takings.{none_in}
use Rattle.pat_machine.specs.declared.job.Job.{Job}
use Rattle.pat_machine.specs.declared.job.Receipt.{Receipt}
use Rattle.pat_machine.specs.Shown.{Shown, program_of, steps_in, noted_in}
use Rattle.pat_machine.specs.Gives.{Lends, MayTake, TakeGives, Committed, GivesBack, OutcomeGives, IsOver, all_back}
use Rattle.pat_machine.specs.Driving.{Rounds, AreInOrder, GoesOnBy, GoesOn}

-- none is out once all are back
pub none_back : (m : Shown) → NoneOut (all_back m).out
none_back m t = none_in (length m.out) t

-- receipts in order, and one more
in_order : (n worker : ℕ) (rs : List Receipt) (r : Receipt) → AreInOrder n worker rs → r.index ≡ Some (n + length rs) → r.entry.worker ≡ worker → AreInOrder n worker (rs ++ r ∷ [])
in_order n worker [] r h index is = (index ∙ ap (λ (k : ℕ). Some k) (omega arith), is, tt)
in_order n worker (x ∷ rs) r h index is = (h.0, h.1, in_order (n + 1) worker rs r h.2 (index ∙ ap (λ (k : ℕ). Some k) (omega arith)) is)

entry_of : Receipt → CodeEntry
entry_of r = r.entry

some_place : (es : List CodeEntry) (e : CodeEntry) (i : Option ℕ) (b : Bool) → nat_eq (steps_in e) 0 ≡ b → i ≡ cond b None (Some (length es)) → (i ≡ None → ⊥)
    → (i ≡ Some (length es)) × (0 < steps_in e) × (cond b es (es ++ e ∷ []) ≡ es ++ e ∷ [])
some_place es e i true is at some = absurd (some at)
some_place es e i false is at some = (at, (let more = eqb-false (steps_in e) 0 is in omega arith), refl)

module _ (m0 m1 m2 : Shown) (worker : ℕ) (j : Job) (r : Receipt) (none : NoneOut m0.out) (lends : Lends m0 j m1) (done : Committed m1 worker j r m2) where
  same_config : m1.config ≡ m0.config
  same_config = ap (λ (x : Shown). x.config) lends.changes

  same_named : m1.named ≡ m0.named
  same_named = ap (λ (x : Shown). x.named) lends.changes

  same_history : m1.history ≡ m0.history
  same_history = ap (λ (x : Shown). x.history) lends.changes

  pub round_named : m2.named ≡ m0.named
  round_named = ap (λ (x : Shown). x.named) done.changes ∙ same_named

  -- a step was open, so the entry has one
  has_step : r.index ≡ None → ⊥
  has_step h =
      let may = lends.ready.1 in
      let still = done.idle.0 h in
      let there : IsOpen (program_of m1) m1.config m1.named.limit (record { thread = j.thread; act = may.0 }) =
      subst (λ x. IsOpen (program_of m1) x m1.named.limit (record { thread = j.thread; act = may.0 })) (sym same_config)
      (subst (λ x. IsOpen (program_view x.program) m0.config x.limit (record { thread = j.thread; act = may.0 })) (sym same_named) may.1)
      in
      still may.0 there

  placed : (r.index ≡ Some (length m1.history)) × (0 < steps_in r.entry) × (noted_in m1.history r.entry ≡ m1.history ++ r.entry ∷ [])
  placed = some_place m1.history r.entry r.index (nat_eq (steps_in r.entry) 0) refl done.index has_step

  -- its entry is the last one, and the receipt says so
  pub round_place : r.index ≡ Some (length m0.history)
  round_place = placed.0 ∙ ap (λ (l : List CodeEntry). Some (length l)) same_history

  pub round_history : m2.history ≡ m0.history ++ r.entry ∷ []
  round_history = ap (λ (x : Shown). x.history) done.changes ∙ placed.2 ∙ ap (λ l. l ++ r.entry ∷ []) same_history

  -- and none is out again
  pub round_none_out : NoneOut m2.out
  round_none_out u = go (allowance_of m2.out u) refl
    where
      go : (o : Option ℕ) → allowance_of m2.out u ≡ o → o ≡ None
      go None is = refl
      go (Some n) is =
          let a = option_map act_view r.entry.shared in
          let at : allowance_of (committed_out m1.out j.thread a) u ≡ Some n = sym (ap (λ (x : Shown). allowance_of x.out u) done.changes) ∙ is in
          let q = committed_still_out m1.out j.thread u n a at in
          let out : allowance_of (slice_set m0.out j.thread (Some j.allowance)) u ≡ Some n = sym (ap (λ (x : Shown). allowance_of x.out u) lends.changes) ∙ q.1 in
          let was : allowance_of m0.out u ≡ Some n = sym (set_elsewhere m0.out j.thread u (Some j.allowance) q.0) ∙ out in
          let no = none u in
          cc

  pub round_less : m2.left < m0.left
  round_less =
      let after : m2.left ≡ m1.left + (j.allowance - steps_in r.entry) = ap (λ (x : Shown). x.left) done.changes in
      let before : m1.left ≡ m0.left - j.allowance = ap (λ (x : Shown). x.left) lends.changes in
      let within : steps_in r.entry ≤ j.allowance = commit_within (program_of m1) j.allowance m1.named.limit m1.config m2.config (entry_view r.entry) done.commit in
      let allowed : j.allowance ≡ min m0.left 256 = lends.allowance in
      let some : 0 < steps_in r.entry = placed.1 in
      omega arith

  round_goes_on : (old : Shown) (rs : List Receipt) → GoesOnBy old worker rs m0 → GoesOnBy old worker (rs ++ r ∷ []) m2
  round_goes_on old rs g =
      let long : length m0.history ≡ length old.history + length rs =
      ap length g.history ∙ length-append old.history (map (λ r. r.entry) rs) ∙ ap (λ n. length old.history + n) (length-map rs (λ (r : Receipt). r.entry))
      in
      record {
        named = round_named ∙ g.named;
        history =
            round_history
            ∙ ap (λ l. l ++ r.entry ∷ []) g.history
            ∙ append_assoc old.history (map (λ r. r.entry) rs) (r.entry ∷ [])
            ∙ ap (λ l. old.history ++ l) (sym (map-append (λ (r : Receipt). r.entry) rs (r ∷ [])));
        places = in_order (length old.history) worker rs r g.places (round_place ∙ ap (λ (n : ℕ). Some n) long) done.worker_is;
      }

-- one more round
rounds_more : (old m0 m1 m2 : Shown) (worker : ℕ) (j : Job) (rs : List Receipt) (r : Receipt) → Rounds old worker rs m0 → TakeGives m0 (Some j) m1 → Committed m1 worker j r m2 → Rounds old worker (rs ++ r ∷ []) m2
rounds_more old m0 m1 m2 worker j [] r rounds taken done = (m2, record { job = j; lent = m1; taken = subst (λ m. TakeGives m (Some j) m1) rounds taken; committed = done }, refl)
rounds_more old m0 m1 m2 worker j (x ∷ rs) r (m, first, rounds) taken done = (m, first, rounds_more m m0 m1 m2 worker j rs r rounds taken done)

-- a job that is taken and given back leaves the history
pub goes_on_back : (old m0 m1 m2 : Shown) (worker : ℕ) (j : Job) (rs : List Receipt) → GoesOnBy old worker rs m0 → Lends m0 j m1 → GivesBack m1 j m2 → GoesOnBy old worker rs m2
goes_on_back old m0 m1 m2 worker j rs g lends back =
    let is = back.back lends.out in
    record {
      named = ap (λ (x : Shown). x.named) is ∙ ap (λ (x : Shown). x.named) lends.changes ∙ g.named;
      history = ap (λ (x : Shown). x.history) is ∙ ap (λ (x : Shown). x.history) lends.changes ∙ g.history;
      places = g.places;
    }

-- at first no job is out, and no receipt is there
all_back_none : (m new : Shown) → new ≡ all_back m → NoneOut new.out
all_back_none m new is u = ap (λ (x : Shown). allowance_of x.out u) is ∙ none_back m u

all_back_goes_on : (m new : Shown) (worker : ℕ) (rs : List Receipt) → new ≡ all_back m → rs ≡ [] → GoesOnBy m worker rs new
all_back_goes_on m new worker rs is none =
    subst (λ l. GoesOnBy m worker l new) (sym none) (record {
      named = ap (λ (x : Shown). x.named) is;
      history = ap (λ (x : Shown). x.history) is ∙ sym (Rattle.std.proofs.lemmas.List.append-nil m.history);
      places = tt;
    })

pub all_back_go_on : (m new : Shown) (worker : ℕ) (rs : List Receipt) → new ≡ all_back m → rs ≡ [] → GoesOn m worker rs new
all_back_go_on m new worker rs is none = record {
  rounds = subst (λ l. Rounds (all_back m) worker l new) (sym none) is;
  goes_on = all_back_goes_on m new worker rs is none;
  none_out = all_back_none m new is;
}

-- and one more round
pub round_more : (old m0 m1 m2 : Shown) (worker : ℕ) (j : Job) (r : Receipt) (rs : List Receipt) → GoesOn old worker rs m0 → TakeGives m0 (Some j) m1 → Committed m1 worker j r m2 → GoesOn old worker (rs ++ r ∷ []) m2
round_more old m0 m1 m2 worker j r rs g taken done = record {
  rounds = rounds_more (all_back old) m0 m1 m2 worker j rs r g.rounds taken done;
  goes_on = round_goes_on m0 m1 m2 worker j r g.none_out taken.1 done old rs g.goes_on;
  none_out = round_none_out m0 m1 m2 worker j r g.none_out taken.1 done;
}

-- where it is over there is an outcome
pub is_over : (m : Shown) → IsOver m → OutcomeGives m None → ⊥
is_over m over h =
    ⊎_elim
    (λ (some : SomeOut m.out). let no = over.0 some.0 in let is = some.2 in let clash : None ≡ Some some.1 = sym no ∙ is in cc)
    (λ (more : (0 < m.left) × ((t : ℕ) × MayTake m t)). ⊎_elim (λ (spent : m.left ≡ 0). omega (arith, more.0, spent)) (λ (still : (t : ℕ) → MayTake m t → ⊥). still more.1.0 more.1.1) over.1)
    h

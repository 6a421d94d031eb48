-- The rounds of a drive are jobs one after another, each of the thread whose turn it is.
use Rattle.std.proofs.Common.{◌≡◌, ℕ, suc, ◌+◌, ◌-◌, ◌≤◌, min, List, [], ◌∷◌, ◌++◌, length, map, Option, Some, None, refl, sym, ap, ◌∙◌, subst, arith}
use Rattle.std.specs.List.{AllByRecursion}
use Rattle.pat_semantics_spec.specs.Programs.{Program}
use Rattle.pat_semantics_spec.specs.Configs.{Config, start}
use Rattle.pat_semantics_spec.specs.Runs.{Entry, step_count, outcome}
use Rattle.pat_core.specs.declared.program.Program.{Program as CodeProgram}
use Rattle.pat_core.specs.Views.{program_view}
use Rattle.pat_reduce.specs.Views.{entry_view}
use Rattle.pat_machine_spec.specs.Commits.{IsCommit}
use Rattle.pat_machine_spec.specs.Lendings.{Out, allowances, NoneOut}
use Rattle.pat_machine_spec.specs.Turns.{IsTurn}
use Rattle.pat_machine_laws.proofs.Runs.{commit_within}
use Rattle.pat_machine_laws.proofs.Takings.{none_in}
use Rattle.pat_machine.specs.declared.job.Named.{Named}
use Rattle.pat_machine.specs.declared.job.Job.{Job}
use Rattle.pat_machine.specs.declared.job.Receipt.{Receipt}
use Rattle.pat_machine.specs.declared.job.Outcome.{Outcome as CodeOutcome}
use Rattle.pat_machine.specs.Shown.{Shown, IsNew, program_of, entries_of, steps_in}
use Rattle.pat_machine.specs.Gives.{Lends, HasTurn, Committed, OutcomeGives, outcome_view, all_back}
use Rattle.pat_machine.specs.Driving.{Rounds, AreInOrder, IsDriven}
use Rattle.pat_machine.proofs.Rounds.{round_named, round_none_out}
use Rattle.pat_run.specs.single.Runs.{Served, RunGives}

-- ---- nobody is out

free_turn : (p : Program) (c : Config) (limit : ℕ) (out : Out) (last : Option ℕ) (t : ℕ) → NoneOut out → IsTurn p c limit out last t → IsTurn p c limit [] last t
free_turn p c limit out last t none turn = record { ready = (none_in 0 t, turn.ready.1); first = λ u r. turn.first u (none u, r.1) }

nothing_out : (out : Out) → NoneOut out → allowances out ≡ 0
nothing_out [] none = refl
nothing_out (Some n ∷ out) none = let clash : Some n ≡ None = none 0 in cc
nothing_out (None ∷ out) none = let rest : allowances out ≡ 0 = nothing_out out (λ t. none (suc t)) in omega (arith, rest)

-- ---- one round

same_served : (p q : Program) (l k m n : ℕ) (a b : Option ℕ) (c : Config) (es : List Entry) (d : Config) → p ≡ q → l ≡ k → m ≡ n → a ≡ b → Served p l m a c es d → Served q k n b c es d
same_served p q l k m n a b c es d pq lk mn ab h =
    subst (λ x. Served x k n b c es d) pq (subst (λ x. Served p x n b c es d) lk (subst (λ x. Served p l x b c es d) mn (subst (λ x. Served p l m x c es d) ab h)))

module _ (old lent new : Shown) (j : Job) (r : Receipt) (none : NoneOut old.out) (lends : Lends old j lent) (done : Committed lent 0 j r new) where
  commit_is : IsCommit (program_of old) (min old.left 256) old.named.limit old.config (entry_view r.entry) new.config
  commit_is =
      let own : IsCommit (program_of old) j.allowance old.named.limit old.config (entry_view r.entry) new.config =
      subst (λ (x : Shown). IsCommit (program_of x) j.allowance x.named.limit x.config (entry_view r.entry) new.config) lends.changes done.commit
      in
      subst (λ n. IsCommit (program_of old) n old.named.limit old.config (entry_view r.entry) new.config) lends.allowance own

  left_is : new.left ≡ old.left - steps_in r.entry
  left_is =
      let after : new.left ≡ lent.left + (j.allowance - steps_in r.entry) = ap (λ (x : Shown). x.left) done.changes in
      let before : lent.left ≡ old.left - j.allowance = ap (λ (x : Shown). x.left) lends.changes in
      let within : steps_in r.entry ≤ min old.left 256 = commit_within (program_of old) (min old.left 256) old.named.limit old.config new.config (entry_view r.entry) commit_is in
      let allowed : j.allowance ≡ min old.left 256 = lends.allowance in
      omega arith

  last_is : new.last ≡ Some r.entry.thread
  last_is = ap (λ (x : Shown). x.last) done.changes ∙ ap (λ (x : Shown). x.last) lends.changes ∙ ap (λ (t : ℕ). Some t) (sym done.thread_is)

  turn_is : HasTurn old j.thread → IsTurn (program_of old) old.config old.named.limit [] old.last r.entry.thread
  turn_is turn = subst (IsTurn (program_of old) old.config old.named.limit [] old.last) (sym done.thread_is) (free_turn (program_of old) old.config old.named.limit old.out old.last j.thread none turn)

-- ---- all rounds

abbrev entries_in : List Receipt → List Entry
entries_in rs = map entry_view (map (λ (r : Receipt). r.entry) rs)

served : (old new : Shown) (rs : List Receipt) → NoneOut old.out → Rounds old 0 rs new → Served (program_of old) old.named.limit old.left old.last old.config (entries_in rs) new.config
served old new [] none rounds = ap (λ (x : Shown). x.config) (sym rounds)
served old new (r ∷ rs) none (m, round, rounds) =
    let lends = round.taken.1 in
    let done = round.committed in
    let named = round_named old round.lent m 0 round.job r none lends done in
    let more = served m new rs (round_none_out old round.lent m 0 round.job r none lends done) rounds in (
      lends.some,
      turn_is old round.lent m round.job r none lends done round.taken.0,
      (
        m.config,
        commit_is old round.lent m round.job r none lends done,
        same_served (program_of m) (program_of old) m.named.limit old.named.limit m.left (old.left - steps_in r.entry) m.last (Some r.entry.thread) m.config (entries_in rs) new.config (ap (λ (n : Named). program_view n.program) named) (ap (λ (n : Named). n.limit) named) (left_is old round.lent m round.job r none lends done) (last_is old round.lent m round.job r none lends done) more,
      ),
    )

workers : (n : ℕ) (rs : List Receipt) → AreInOrder n 0 rs → AllByRecursion (λ (e : Entry). e.worker ≡ 0) (entries_in rs)
workers n [] h = tt
workers n (r ∷ rs) h = (h.1, workers (n + 1) rs h.2)

-- what a machine that was new and was driven gives
pub run_gives : (program : CodeProgram) (steps messages : ℕ) (old new : Shown) (rs : List Receipt) (o : CodeOutcome) → IsNew program steps messages old → IsDriven old 0 rs new → OutcomeGives new (Some o) → RunGives program steps messages (record { machine = new; outcome = o })
run_gives program steps messages old new rs o begun driven ends =
    let own : Named = record { program = program; budget = steps; limit = messages } in
    let p = program_view program in
    let from = all_back old in
    let named : new.named ≡ own = driven.goes_on.named ∙ begun.named in
    let history : new.history ≡ map (λ (r : Receipt). r.entry) rs = driven.goes_on.history ∙ ap (λ l. l ++ map (λ (r : Receipt). r.entry) rs) begun.history in
    let entries : entries_of new ≡ entries_in rs = ap (map entry_view) history in
    let left : from.left ≡ steps = ap (λ n. old.left + n) (nothing_out old.out begun.out) ∙ add_none old.left ∙ begun.left in
    let at = served from new rs (λ t. none_in (length old.out) t) driven.rounds in
    let moved = same_served (program_of from) p from.named.limit messages from.left steps from.last None from.config (entries_in rs) new.config (ap (λ (n : Named). program_view n.program) begun.named) (ap (λ (n : Named). n.limit) begun.named) left begun.last at in
    let whole = subst (λ c. Served p messages steps None c (entries_in rs) new.config) begun.config moved in
    record {
      named = named;
      over = (driven.none_out, driven.rests);
      run = record {
        workers = subst (λ es. AllByRecursion (λ (e : Entry). e.worker ≡ 0) es) (sym entries) (workers (length old.history) rs driven.goes_on.places);
        served = subst (λ es. Served p messages steps None (start p) es new.config) (sym entries) whole;
        ends = subst (λ (n : Named). outcome (program_view n.program) new.config (step_count (entries_of new)) n.budget (Some n.limit) ≡ Some (outcome_view o)) named ends.2;
      };
    }
  where
    add_none : (n : ℕ) → n + 0 ≡ n
    add_none n = omega arith

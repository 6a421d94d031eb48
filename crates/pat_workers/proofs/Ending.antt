-- The end of a run: the machine that comes back, driven on.
use Rattle.std.proofs.Common.{◌≡◌, ℕ, zero, suc, ◌+◌, ◌<◌, false, List, ◌++◌, length, map, slice_get, ap, sym, ◌∙◌, subst, arith, Some, Vec, Global}
use Rattle.std.proofs.lemmas.List.{append-nil, length-map}
use Rattle.std.proofs.lemmas.List.Elements.{All-append}
use Rattle.std.specs.List.{All}
use Rattle.pat_semantics_spec.specs.Runs.{step_count, outcome}
use Rattle.pat_core.specs.declared.program.Program.{Program}
use Rattle.pat_core.specs.Views.{program_view}
use Rattle.pat_reduce.specs.declared.history.Entry.{Entry}
use Rattle.pat_machine.specs.declared.job.Named.{Named}
use Rattle.pat_machine.specs.declared.job.Receipt.{Receipt}
use Rattle.pat_machine.specs.Shown.{Shown, entries_of}
use Rattle.pat_machine.specs.Gives.{outcome_view}
use Rattle.pat_machine.specs.Driving.{AreInOrder}
use Rattle.pat_turn.specs.Shown.{ShownPass, ShownTurn, newcomer, IsOfAll, AreAll}
use Rattle.pat_workers.specs.turns.Holds.{worker_of}
use Rattle.pat_workers.specs.declared.serving.Worker.{Worker}
use Rattle.pat_workers.specs.declared.finishing.Finished.{Finished}
use Rattle.pat_workers.specs.Receipts.{placed, told, AreReceiptsOf}
use Rattle.pat_workers.specs.Workers.{IsWorked}
use Rattle.pat_workers.specs.Runs.{Rows, IsFinished, AreReceipts, RunGives}
use Rattle.pat_workers.proofs.Placed.{placed_stay, placed_on, told_append, order_told, order_others, order_workers, order_below, receipts_stand, receipts_once}
use Rattle.pat_workers.proofs.Holding.{receipts_same}
use Rattle.pat_workers.proofs.Rows.{from_map, to_map}

abbrev pass_of : Worker → ShownPass Named Entry
pass_of w = w.pass

abbrev row_of : Worker → Vec Receipt Global
row_of w = w.receipts

module _ (t : ShownTurn Named) (ws : List Worker) (worked : (i : ℕ) (w : Worker) → slice_get ws i ≡ Some w → IsWorked (newcomer t i) w) where
  -- no pass holds, and they are in order
  pub are_all : length ws ≡ t.passes → AreAll t (map (λ (w : Worker). w.pass) ws)
  are_all many = (
    length-map ws pass_of ∙ many,
    λ i p e. let b = from_map pass_of ws i p e in
        let same = (worked i b.0 b.1).same in
        subst (λ (x : ShownPass Named Entry). (x.turn ≡ t.id) × (x.number ≡ i) × (x.holds ≡ false)) b.2 (ap (λ p. p.turn) same, ap (λ p. p.number) same, ap (λ p. p.holds) same),
  )

  -- in the history that comes back too each row has the receipts of its worker
  pub closed_receipts : (log : List Entry) → IsOfAll worker_of (map (λ (w : Worker). w.pass) ws) log → (i : ℕ) (row : Vec Receipt Global) → slice_get (map (λ (w : Worker). w.receipts) ws) i ≡ Some row → AreReceiptsOf i log row.items
  closed_receipts log all i row e =
      let b = from_map row_of ws i row e in
      let w = b.0 in
      let did = worked i w b.1 in
      let number : w.pass.number ≡ i = ap (λ p. p.number) did.same in
      let told = all.0 i w.pass (to_map pass_of ws i w b.1) in
      let own : AreReceiptsOf i w.pass.seen w.receipts.items = subst (λ n. AreReceiptsOf n w.pass.seen w.receipts.items) number did.receipts in
      subst (λ (r : Vec Receipt Global). AreReceiptsOf i log r.items) b.2
      (receipts_same i w.pass.seen log w.receipts.items (placed_stay i w.pass.seen log told.0 told.1) own)

module _ (log : List Entry) (rs : List Receipt) (order : AreInOrder (length log) 0 rs) where
  first_on : (was : List Receipt) → AreReceiptsOf 0 log was → AreReceiptsOf 0 (log ++ map (λ (r : Receipt). r.entry) rs) (was ++ rs)
  first_on was h = record {
    entries = told_append was rs ∙ (λ i. h.entries i ++ sym (order_told (length log) rs order) i) ∙ sym (placed_on 0 log rs order);
    worker_is = All-append (λ (r : Receipt). r.entry.worker ≡ 0) was rs h.worker_is (order_workers (length log) rs order);
  }

  others_on : (i : ℕ) (own : List Receipt) → AreReceiptsOf (suc i) log own → AreReceiptsOf (suc i) (log ++ map (λ (r : Receipt). r.entry) rs) own
  others_on i own h = receipts_same (suc i) log (log ++ map (λ (r : Receipt). r.entry) rs) own
      (placed_on (suc i) log rs order ∙ ap (λ l. placed (suc i) log ++ l) (order_others (length log) (suc i) rs order (λ e. omega (arith, e))) ∙ append-nil (placed (suc i) log)) h

-- once what was left is driven too
pub driven_receipts : (closed : Shown) (rows : Rows) (f : Finished) → IsFinished closed rows f → AreReceipts closed.history rows → AreReceipts f.machine.history f.receipts.items
driven_receipts closed rows f fin before i row e = subst (λ l. AreReceiptsOf i l row.items) (sym fin.driven.goes_on.history) (go i e)
  where
    go : (i : ℕ) → slice_get f.receipts.items i ≡ Some row → AreReceiptsOf i (closed.history ++ map (λ (r : Receipt). r.entry) fin.more) row.items
    go zero e =
        let b = fin.grew.first row e in
        subst (λ l. AreReceiptsOf 0 (closed.history ++ map (λ (r : Receipt). r.entry) fin.more) l) (sym b.2)
        (first_on closed.history fin.more fin.driven.goes_on.places b.0.items (before 0 b.0 b.1))
    go (suc j) e = others_on closed.history fin.more fin.driven.goes_on.places j row.items (before (suc j) row (sym (fin.grew.others j) ∙ e))

pub run_gives : (program : Program) (workers steps messages : ℕ) (t : ShownTurn Named) (ws : List Worker) (closed : Shown) (rows : Rows) (f : Finished) → 0 < workers
    → t.name ≡ record { program = program; budget = steps; limit = messages } → t.passes ≡ workers → length ws ≡ t.passes
    → ((i : ℕ) (w : Worker) → slice_get ws i ≡ Some w → IsWorked (newcomer t i) w)
    → closed.named ≡ t.name → IsOfAll worker_of (map (λ (w : Worker). w.pass) ws) closed.history → rows ≡ map (λ (w : Worker). w.receipts) ws
    → IsFinished closed rows f → RunGives program workers steps messages f
run_gives program workers steps messages t ws closed rows f some name passes many worked named all is fin =
    let own : Named = record { program = program; budget = steps; limit = messages } in
    let who : f.machine.named ≡ own = fin.driven.goes_on.named ∙ named ∙ name in
    let before : AreReceipts closed.history rows = λ i row e. closed_receipts t ws worked closed.history all i row (ap (λ l. slice_get l i) (sym is) ∙ e) in
    let after = driven_receipts closed rows f fin before in
    let count : length (map (λ (w : Worker). w.pass) ws) ≡ workers = length-map ws pass_of ∙ many ∙ passes in
    let front : All (λ (e : Entry). e.worker < workers) closed.history = subst (λ (n : ℕ). All (λ (e : Entry). e.worker < n) closed.history) count all.1 in
    record {
      named = who;
      workers_are = subst (All (λ (e : Entry). e.worker < workers)) (sym fin.driven.goes_on.history)
          (All-append (λ (e : Entry). e.worker < workers) closed.history (map (λ (r : Receipt). r.entry) fin.more) front (order_below (length closed.history) workers fin.more some fin.driven.goes_on.places));
      rows = fin.grew.lengths ∙ ap length is ∙ length-map ws row_of ∙ many ∙ passes;
      receipts = after;
      stand = λ i row e. receipts_stand i f.machine.history row.items (after i row e);
      once = λ k e at i row there. receipts_once i f.machine.history row.items (after i row there) k e at;
      over = (fin.ends.0, fin.ends.1);
      ends = subst (λ (n : Named). outcome (program_view n.program) f.machine.config (step_count (entries_of f.machine)) n.budget (Some n.limit) ≡ Some (outcome_view f.outcome)) who fin.ends.2;
    }

-- What a worker learns in one hold of the turn: its entries are those that it had, and that of the receipt.
use Rattle.std.proofs.Common.{◌≡◌, ℕ, nat_eq, List, [], ◌∷◌, ◌++◌, Ok, Err, ap, sym, ◌∙◌, subst}
use Rattle.std.proofs.lemmas.List.{append-nil}
use Rattle.std.proofs.lemmas.List.Elements.{All-push}
use Rattle.pat_reduce.specs.declared.history.Entry.{Entry}
use Rattle.pat_machine.specs.declared.job.Named.{Named}
use Rattle.pat_machine.specs.declared.job.Job.{Job}
use Rattle.pat_machine.specs.declared.job.Receipt.{Receipt}
use Rattle.pat_machine.specs.declared.job.CommitRefused.{CommitRefused}
use Rattle.pat_machine.specs.Shown.{Shown, steps_in, noted_in}
use Rattle.pat_machine.specs.Gives.{GivesBack}
use Rattle.pat_turn.specs.Shown.{ShownPass}
use Rattle.pat_workers.specs.declared.turns.machines.Taken.{Taken}
use Rattle.pat_workers.specs.turns.Holds.{IsHold, TakingGives, CommittingGives}
use Rattle.pat_workers.proofs.Histories.{taking_log, give_back_log, commit_adds}
use Rattle.pat_workers.specs.Receipts.{placed, told_by, AreReceiptsOf}
use Rattle.pat_workers.proofs.Placed.{placed_stay, placed_more, told_append}

pub receipts_same : (n : ℕ) (seen now : List Entry) (rs : List Receipt) → placed n now ≡ placed n seen → AreReceiptsOf n seen rs → AreReceiptsOf n now rs
receipts_same n seen now rs same h = record { entries = h.entries ∙ sym same; worker_is = h.worker_is }

receipts_more : (n : ℕ) (seen now : List Entry) (rs : List Receipt) (r : Receipt) → placed n now ≡ placed n seen ++ told_by r.index r.entry → r.entry.worker ≡ n → AreReceiptsOf n seen rs → AreReceiptsOf n now (rs ++ r ∷ [])
receipts_more n seen now rs r more is h = record {
  entries = told_append rs (r ∷ []) ∙ (λ i. h.entries i ++ append-nil (told_by r.index r.entry) i) ∙ sym more;
  worker_is = All-push (λ (r : Receipt). r.entry.worker ≡ n) rs r h.worker_is is;
}

module _ (pass : ShownPass Named Entry) (now : List Entry) (found left : Shown) (rs : List Receipt) (hold : IsHold pass now found left) (h : AreReceiptsOf pass.number pass.seen rs) where
  found_placed : placed pass.number found.history ≡ placed pass.number pass.seen
  found_placed = placed_stay pass.number pass.seen found.history hold.prefix hold.own

  same_placed : left.history ≡ found.history → AreReceiptsOf pass.number now rs
  same_placed same = receipts_same pass.number pass.seen now rs (ap (placed pass.number) (hold.saw ∙ same) ∙ found_placed) h

  pub after_taking : (t : Taken) → TakingGives found t left → AreReceiptsOf pass.number now rs
  after_taking t given = same_placed (taking_log found left t given).history

  pub after_giving_back : (j : Job) → GivesBack found j left → AreReceiptsOf pass.number now rs
  after_giving_back j back = same_placed (give_back_log found left j back).history

  pub after_refusal : (j : Job) (e : CommitRefused) → CommittingGives found pass.number j (Err e) left → AreReceiptsOf pass.number now rs
  after_refusal j e given = same_placed (commit_adds pass.number found left j (Err e) given ∙ append-nil found.history)

  pub after_commit : (j : Job) (r : Receipt) → CommittingGives found pass.number j (Ok r) left → AreReceiptsOf pass.number now (rs ++ r ∷ [])
  after_commit j r (lent, done) =
      let is : r.entry.worker ≡ pass.number = done.worker_is in
      let grown : now ≡ noted_in found.history r.entry = hold.saw ∙ ap (λ (x : Shown). x.history) done.changes in
      let more : placed r.entry.worker (noted_in found.history r.entry) ≡ placed r.entry.worker found.history ++ told_by r.index r.entry = placed_more found.history r (nat_eq (steps_in r.entry) 0) done.index in
      let own : placed pass.number (noted_in found.history r.entry) ≡ placed pass.number found.history ++ told_by r.index r.entry =
      subst (λ w. placed w (noted_in found.history r.entry) ≡ placed w found.history ++ told_by r.index r.entry) is more
      in
      receipts_more pass.number pass.seen now rs r (ap (placed pass.number) grown ∙ own ∙ ap (λ l. l ++ told_by r.index r.entry) found_placed) is h

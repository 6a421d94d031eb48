use Rattle.std.proofs.Common.{ℕ, List, Result, Ok, Err, ap, sym, subst}
use Rattle.pat_machine.specs.declared.job.Receipt.{Receipt}
use Rattle.pat_machine.specs.declared.job.CommitRefused.{CommitRefused}
use Rattle.pat_machine.specs.declared.job.CommitRefused.TheVariants.{NotOut, NoMemory}
use Rattle.pat_workers.specs.turns.Holds.{CommittingGives}
use Rattle.pat_workers.specs.Receipts.{AreReceiptsOf}
use Rattle.pat_workers.proofs.Holding.{after_commit, after_refusal}
use Rattle.pat_workers.proofs.serving.commit.Goals as goal

pub returns-in-Ok-clause-receipts : goal.returns-in-Ok-clause-receipts
returns-in-Ok-clause-receipts g c =
    let pass = c.args.worker.now.pass in
    let now = c.commit_in_turn-result.new.pass.seen in
    let told = c.in-Ok.ensures.committed in
    let more = after_commit pass now told.0 told.1 c.args.worker.now.receipts.items told.2 c.requires.receipts c.args.job c.in-Ok.receipt told.3 in
    subst (λ (n : ℕ). AreReceiptsOf n now c.push_reserved.new.self.items) (sym (ap (λ p. p.number) c.commit_in_turn-result.ensures.pass))
    (subst (λ (l : List Receipt). AreReceiptsOf pass.number now l) (sym c.push_reserved.ensures.items) more)

pub returns-in-NotOut-clause-receipts : goal.returns-in-NotOut-clause-receipts
returns-in-NotOut-clause-receipts g c =
    let pass = c.args.worker.now.pass in
    let now = c.commit_in_turn-result.new.pass.seen in
    let told = c.commit_in_turn-result.ensures.committed in
    let given = subst (λ (r : Result Receipt CommitRefused). CommittingGives told.0 pass.number c.args.job r told.1) c.in-Err.is told.3 in
    subst (λ (n : ℕ). AreReceiptsOf n now c.args.worker.now.receipts.items) (sym (ap (λ p. p.number) c.commit_in_turn-result.ensures.pass))
    (after_refusal pass now told.0 told.1 c.args.worker.now.receipts.items told.2 c.requires.receipts c.args.job c.in-Err.error given)

pub returns-in-NoMemory-clause-receipts : goal.returns-in-NoMemory-clause-receipts
returns-in-NoMemory-clause-receipts g c =
    let pass = c.args.worker.now.pass in
    let now = c.commit_in_turn-result.new.pass.seen in
    let told = c.commit_in_turn-result.ensures.committed in
    let given = subst (λ (r : Result Receipt CommitRefused). CommittingGives told.0 pass.number c.args.job r told.1) c.in-Err.is told.3 in
    subst (λ (n : ℕ). AreReceiptsOf n now c.args.worker.now.receipts.items) (sym (ap (λ p. p.number) c.commit_in_turn-result.ensures.pass))
    (after_refusal pass now told.0 told.1 c.args.worker.now.receipts.items told.2 c.requires.receipts c.args.job c.in-Err.error given)

pub returns-in-Ok-clause-done : goal.returns-in-Ok-clause-done
returns-in-Ok-clause-done g c = let told = c.in-Ok.ensures.committed in (told.0, told.1, Ok c.in-Ok.receipt, told.2, told.3, tt)

pub returns-in-NotOut-clause-done : goal.returns-in-NotOut-clause-done
returns-in-NotOut-clause-done g c =
    let told = c.in-Err.ensures.committed in
    let given = subst (λ (e : CommitRefused). CommittingGives told.0 c.args.worker.now.pass.number c.args.job (Err e) told.1) c.in-NotOut.is told.3 in
    (told.0, told.1, Err (NotOut c.in-NotOut.field-0), told.2, given, tt)

pub returns-in-NoMemory-clause-back : goal.returns-in-NoMemory-clause-back
returns-in-NoMemory-clause-back g c =
    let told = c.in-Err.ensures.committed in
    let given = subst (λ (e : CommitRefused). CommittingGives told.0 c.args.worker.now.pass.number c.args.job (Err e) told.1) c.in-NoMemory.is told.3 in
    (told.0, told.1, told.2, given.2)

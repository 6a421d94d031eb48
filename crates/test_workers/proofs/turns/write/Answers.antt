use Rattle.std.proofs.Common.{◌≡◌, ℕ, List, ap, sym, ◌∙◌, subst}
use Rattle.pat_turn.specs.Shown.{GoesOn}
use Rattle.test_workers.specs.declared.turns.Line.{Line}
use Rattle.test_workers.proofs.Lines.{goes_on}
use Rattle.test_workers.proofs.turns.write.Goals as goal

abbrev number_of : Line → ℕ
number_of line = line.number

pub put-requires-clause-log : goal.put-requires-clause-log
put-requires-clause-log g c =
    let held = c.hold-sheet.ensures.pass in
    let number : c.number-number.result ≡ c.hold-sheet.new.pass.number = c.number-number.ensures ∙ sym (ap (λ p. p.number) held) in
    subst (λ (x : ℕ × List Line). GoesOn number_of x.0 x.1 c.add-added.new.self.lines.items) (λ i. (number i, sym (ap (λ p. p.seen) held) i))
    (goes_on number_of c.add-added.result _ _ _ c.add-added.ensures.ok c.add-added.ensures.err)

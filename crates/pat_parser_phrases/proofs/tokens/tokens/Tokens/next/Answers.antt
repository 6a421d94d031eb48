use Rattle.std.proofs.Common.{◌≡◌, ℕ, Err, sym, subst, ap, ◌∙◌}
use Rattle.pat_parser_spec.specs.Machine as m
use Rattle.pat_parser_phrases.specs.tokens.Answers.{answer, Takes}
use Rattle.pat_parser_phrases.proofs.Steps.{taken, no_token}
use Rattle.pat_parser_phrases.proofs.tokens.tokens.Tokens.next.Goals as goal
use Rattle.pat_parser_phrases.proofs.tokens.tokens.Tokens.next.Goals.{in-Some, in-None}

pub returns-clause-taken : goal.returns-clause-taken
returns-clause-taken c = λ x no_end.
    elim c.match-pop.branch [
      | in-Some w ↦ subst (λ r. Takes x c.args.self.now c.pop.new.self r) (sym w.result-is) (taken x w.in-Some.token c.args.self.now c.pop.new.self w.in-Some.ensures.some)
      | in-None w ↦
          let none = w.in-None.ensures.none in
          let end : c.args.self.now.1 ≡ c.self.inside.end = ap (λ r. r.1) (sym none.1) ∙ ap (λ r. r.1) (sym c.self.view_is) in
          subst (λ r. Takes x c.args.self.now c.pop.new.self r) (sym w.result-is) (subst (λ (n : ℕ). answer x c.args.self.now ≡ Err (m.Unexpected, n)) end (no_token x c.args.self.now no_end none.0))
    ]

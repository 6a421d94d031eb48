use Rattle.pat_lexer_laws.proofs.Reaching.{one_division, one_refusal, not_both}
use Rattle.pat_lexer_laws.proofs.division_laws.Goals as goal

pub returns : goal.returns
returns c = λ text. record {
  one_division = one_division text;
  one_refusal = one_refusal text;
  not_both = not_both text;
}

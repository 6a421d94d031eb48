use Rattle.std.proofs.Common.{refl, sym, subst, map}
use Rattle.pat_lexer_spec.specs.Divisions.{Reaches, here}
use Rattle.pat_syntax.specs.Views.{token_view}
use Rattle.pat_lexer.proofs.Standing.{stands_free}
use Rattle.pat_lexer.proofs.reader.Reader.new.Goals as goal

pub returns-clause-stands : goal.returns-clause-stands
returns-clause-stands c = λ text. stands_free _ text text refl c.new-3.ensures.items (record {
  reaches = subst (λ l. Reaches 0 text (map token_view l) 0 text) (sym c.new.ensures.items) here;
  start = refl;
  held = c.new-2.ensures.items;
  no_text = c.new-4.ensures.items;
})

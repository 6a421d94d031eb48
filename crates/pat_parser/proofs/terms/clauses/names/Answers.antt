use Rattle.std.proofs.Common.{[], ap, ◌∙◌, refl, arith}
use Rattle.pat_parser_spec.specs.Machine as m
use Rattle.pat_tree.specs.Views.{span_view}
use Rattle.pat_parser_phrases.specs.tokens.Answers.{after}
use Rattle.pat_parser.proofs.Names.{name_first}
use Rattle.pat_parser.proofs.terms.clauses.names.Goals as goal

pub loop-text-init : goal.loop-text-init
loop-text-init c = record {
  read = λ g word tag fs o s.
      let r : m.ClauseHead = record { guard = g; word = word; tag = tag; names = [] } in
      let first = c.in_ok-next.next in
      rw c.new-names.ensures (c.in_ok-next.ensures.taken (m.state (m.FirstBinder r) fs o 0 s) refl ∙ ap (λ (y : m.Move). after y first.span.from c.next.new.self) (name_first fs o s r first.kind (span_view first.span) (λ e. let h = c.is_mark.ensures.1 e in cc)));
  fewer = omega arith;
}

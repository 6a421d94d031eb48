-- Parameters.
use Rattle.std.specs.Prelude.{List, ◌∷◌}
use Rattle.pat_parser_spec.specs.Machine as m
use Rattle.pat_syntax.specs.Views.{kind_view}
use Rattle.pat_tree.specs.Views.{span_view, name_view, type_view}
use Rattle.pat_parser_phrases.specs.tokens.Answers.{Answer, Rest, after}
use Rattle.pat_parser_phrases.specs.declared.declarations.functions.ParamRead.{ParamRead}

-- the answer behind a parameter and the token that ends it
abbrev pub behind_param : List m.Frame → m.Defining → ParamRead → Rest → Answer
behind_param fs d p ts = after (m.type_step (m.AtType (m.InParam d (name_view p.param.name)) ∷ fs) 1 (type_view p.param.of) (kind_view p.token.kind) (span_view p.token.span)) p.token.span.from ts

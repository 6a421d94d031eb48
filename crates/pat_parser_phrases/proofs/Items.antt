-- Payloads and parameters, one after another.
use Rattle.std.proofs.Common.{◌≡◌, ◌≢◌, List, [], ◌∷◌, ◌++◌, map, refl, ap, sym, ◌∙◌}
use Rattle.std.proofs.lemmas.List.{map-append}
use Rattle.pat_lexer_spec.specs.Marks as mark
use Rattle.pat_lexer_spec.specs.Tokens.{Token as Kind, Mark}
use Rattle.pat_parser_spec.specs.Trees as tree
use Rattle.pat_parser_spec.specs.Machine as m
use Rattle.pat_syntax.specs.declared.token.TokenKind.{TokenKind}
use Rattle.pat_syntax.specs.declared.token.TokenKind.TheVariants as kind
use Rattle.pat_syntax.specs.declared.mark.Mark.TheVariants as marks
use Rattle.pat_syntax.specs.Views.{kind_view}
use Rattle.pat_tree.specs.declared.tree.Param.{Param}
use Rattle.pat_tree.specs.Views.{span_view, name_view, type_view, param_view}
use Rattle.pat_parser_phrases.specs.tokens.Answers.{Rest, answer, after}
use Rattle.pat_parser_phrases.specs.declared.declarations.functions.ParamRead.{ParamRead}
use Rattle.pat_parser_phrases.specs.declarations.Steps.{behind_param}

-- another token than the closing bracket begins a payload
pub payload_first : (fs : List m.Frame) (d : Kind) (w : tree.Span) → d ≢ Mark mark.RoundClose → m.first_payload fs 2 d w ≡ m.want_type fs 2 d w
payload_first fs (Mark mark.RoundClose) w h = absurd (h refl)
payload_first fs _ w h = refl

-- and a parameter
pub param_first : (fs : List m.Frame) (f : m.Defining) (d : Kind) (w : tree.Span) → d ≢ Mark mark.RoundClose → m.first_param fs 1 f d w ≡ m.want_name fs 1 0 (m.ParamName f) d w
param_first fs f (Mark mark.RoundClose) w h = absurd (h refl)
param_first fs f _ w h = refl

-- behind some parameters
abbrev pub with_params : List tree.Decl → tree.Name → List Param → m.Defining
with_params ds x ps = record { decls = ds; name = x; params = map param_view ps }

-- behind a parameter, a comma
pub param_taken : (fs : List m.Frame) (ds : List tree.Decl) (x : tree.Name) (ps more : List Param) (p : ParamRead) (ts : Rest) → p.token.kind ≡ kind.Mark marks.Comma → more ≡ ps ++ p.param ∷ [] → behind_param fs (with_params ds x ps) p ts ≡ answer (m.state (m.WantName (m.ParamName (with_params ds x more))) fs 1 0 0) ts
param_taken fs ds x ps more p ts comma is =
    let longer : map param_view ps ++ param_view p.param ∷ [] ≡ map param_view more = sym (ap (map param_view) is ∙ map-append param_view ps (p.param ∷ [])) in
    ap (λ (k : TokenKind). after (m.type_step (m.AtType (m.InParam (with_params ds x ps) (name_view p.param.name)) ∷ fs) 1 (type_view p.param.of) (kind_view k) (span_view p.token.span)) p.token.span.from ts) comma ∙ ap (λ (zs : List tree.Param). answer (m.state (m.WantName (m.ParamName (record { decls = ds; name = x; params = zs }))) fs 1 0 0) ts) longer

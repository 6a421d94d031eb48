-- What a function that reads some tokens returns, from what the functions that it calls do.
use Rattle.std.proofs.Common.{◌≡◌, ◌≢◌, ℕ, suc, ◌+◌, Bool, true, nat_lt, List, ◌∷◌, [], Option, Some, None, refl, ap, ◌∙◌, map, ◌++◌, sym, arith}
use Rattle.std.proofs.lemmas.List.{map-append}
use Rattle.pat_lexer_spec.specs.Marks as marks
use Rattle.pat_lexer_spec.specs.Tokens as tokens
use Rattle.pat_lexer_spec.specs.Tokens.{Token as Kind}
use Rattle.pat_semantics_spec.specs.Values.{Op}
use Rattle.pat_parser_spec.specs.Trees.{Span, Name, Expr, VarExpr}
use Rattle.pat_parser_spec.specs.Grammar.{Operand}
use Rattle.pat_parser_spec.specs.Machine as m
use Rattle.pat_syntax.specs.declared.token.TokenKind.{TokenKind}
use Rattle.pat_syntax.specs.declared.token.TokenKind.TheVariants as kind
use Rattle.pat_syntax.specs.declared.mark.Mark.TheVariants as mark
use Rattle.pat_syntax.specs.declared.word.Reserved.{Reserved}
use Rattle.pat_syntax.specs.declared.word.Reserved.TheVariants as word
use Rattle.pat_syntax.specs.Views.{kind_view}
use Rattle.pat_tree.specs.Views.{span_view, expr_view}
use Rattle.pat_tree.specs.declared.expression.TreeExpr.{TreeExpr}
use Rattle.pat_parser_phrases.specs.tokens.Answers.{Answer, Rest, answer, after, limits, items_of}
use Rattle.pat_parser_phrases.specs.expressions.Operators.{operator_of, operator_step}
use Rattle.pat_parser_phrases.specs.expressions.Reads.{behind_operand, behind_expression, is_simple}
use Rattle.pat_parser_phrases.specs.expressions.Views.{operand_view}
use Rattle.pat_parser_phrases.specs.declared.expressions.expressions.ExpressionRead.{ExpressionRead}
use Rattle.pat_limits.specs.Limits.{most_open}

-- a bracket or an operator is opened where there is room
pub opens : (o k n : ℕ) (y : m.State) (ts : Rest) → nat_lt (o + k) most_open ≡ true → after (m.Opens o k y) n ts ≡ answer y ts
opens o k n y ts room = ap (λ (b : Bool). m.and_ended ts.1 (m.placed n (m.within b y) (λ x. m.reads limits x (items_of ts.0)))) room

-- the move behind an operand, by the operator that the token is
abbrev behind : List m.Frame → ℕ → ℕ → ℕ → m.Pending → Operand → ℕ → Kind → Span → Option Op → m.Move
behind fs o k s p a t c w (Some q) = operator_step fs o k s p a t q
behind fs o k s p a t c w None = m.end_step fs o k s (m.whole_of p a t) t c w

have_is : (fs : List m.Frame) (o k s : ℕ) (p : m.Pending) (a : Operand) (t : ℕ) (c : Kind) (w : Span) → m.have_step fs o k s p a t c w ≡ behind fs o k s p a t c w (operator_of c)
have_is fs o k s p a t (tokens.Mark marks.Star) w = refl
have_is fs o k s p a t (tokens.Mark marks.Plus) w = refl
have_is fs o k s p a t (tokens.Mark marks.Minus) w = refl
have_is fs o k s p a t (tokens.Mark marks.DoubleEquals) w = refl
have_is fs o k s p a t (tokens.Mark marks.Less) w = refl
have_is fs o k s p a t _ w = refl

-- behind an operand, an operator
have_operator : (fs : List m.Frame) (o k s : ℕ) (p : m.Pending) (a : Operand) (t : ℕ) (c : Kind) (w : Span) (q : Op) → operator_of c ≡ Some q → m.have_step fs o k s p a t c w ≡ operator_step fs o k s p a t q
have_operator fs o k s p a t c w q e = have_is fs o k s p a t c w ∙ ap (behind fs o k s p a t c w) e

-- the operator behind an operand is taken
pub operator_taken : (fs : List m.Frame) (o s : ℕ) (p : m.Pending) (x : ExpressionRead) (q : Op) (read : Answer) (ts : Rest) → operator_of (kind_view x.token.kind) ≡ Some q → read ≡ behind_operand fs o s p x ts → read ≡ after (operator_step fs o x.operators s p (operand_view x.operand) x.to q) x.token.span.from ts
operator_taken fs o s p x q read ts is e = e ∙ ap (λ (y : m.Move). after y x.token.span.from ts) (have_operator fs o x.operators s p (operand_view x.operand) x.to (kind_view x.token.kind) (span_view x.token.span) q is)

-- behind an opening bracket, an expression
opened_other : (fs : List m.Frame) (o k s : ℕ) (c : Kind) (w : Span) → c ≢ tokens.Mark marks.RoundClose → m.opened_step fs o k s c w ≡ m.want_step fs o k s m.nothing c w
opened_other fs o k s (tokens.Mark marks.RoundClose) w h = absurd (h refl)
opened_other fs o k s _ w h = refl

-- behind the opening bracket of arguments, an argument
first_other : (fs : List m.Frame) (o k s : ℕ) (c : Kind) (w : Span) → c ≢ tokens.Mark marks.RoundClose → m.first_step fs o k s c w ≡ m.want_step fs o k s m.nothing c w
first_other fs o k s (tokens.Mark marks.RoundClose) w h = absurd (h refl)
first_other fs o k s _ w h = refl

-- an opening bracket, and behind it an expression
pub in_bracket : (fs : List m.Frame) (o k s i : ℕ) (p : m.Pending) (n : ℕ) (c : Kind) (w : Span) (f : ℕ) (old new : Rest) → nat_lt (o + k) most_open ≡ true → suc o ≡ i → c ≢ tokens.Mark marks.RoundClose → answer (m.state m.Opened (m.AtExpr (m.InBracket p n o) ∷ fs) (suc o) k s) old ≡ after (m.opened_step (m.AtExpr (m.InBracket p n o) ∷ fs) (suc o) k s c w) f new → after (m.Opens o k (m.state m.Opened (m.AtExpr (m.InBracket p n o) ∷ fs) (suc o) k s)) n old ≡ after (m.want_step (m.AtExpr (m.InBracket p n o) ∷ fs) i k s m.nothing c w) f new
in_bracket fs o k s i p n c w f old new room e other taken =
    opens o k n _ old room ∙ taken ∙ ap (λ (y : m.Move). after y f new) (opened_other _ (suc o) k s c w other) ∙ ap (λ (j : ℕ). after (m.want_step (m.AtExpr (m.InBracket p n o) ∷ fs) j k s m.nothing c w) f new) e

-- the opening bracket of arguments, and behind it an argument
pub in_arguments : (h : m.Head) (fs : List m.Frame) (o s : ℕ) (args : List TreeExpr) (n : ℕ) (c : Kind) (w : Span) (f : ℕ) (old new : Rest) → nat_lt (o + 0) most_open ≡ true → args ≡ [] → c ≢ tokens.Mark marks.RoundClose → answer (m.state m.FirstArg (m.AtExpr (m.InArgs h [] o) ∷ fs) (suc o) 0 s) old ≡ after (m.first_step (m.AtExpr (m.InArgs h [] o) ∷ fs) (suc o) 0 s c w) f new → after (m.Opens o 0 (m.state m.FirstArg (m.AtExpr (m.InArgs h [] o) ∷ fs) (suc o) 0 s)) n old ≡ after (m.want_step (m.AtExpr (m.InArgs h (map expr_view args) o) ∷ fs) (o + 1) 0 s m.nothing c w) f new
in_arguments h fs o s args n c w f old new room none other taken =
    let one : suc o ≡ o + 1 = omega arith in
    opens o 0 n _ old room ∙ taken ∙ ap (λ (y : m.Move). after y f new) (first_other _ (suc o) 0 s c w other) ∙ ap (λ (j : ℕ). after (m.want_step (m.AtExpr (m.InArgs h [] o) ∷ fs) j 0 s m.nothing c w) f new) one ∙ ap (λ (es : List TreeExpr). after (m.want_step (m.AtExpr (m.InArgs h (map expr_view es) o) ∷ fs) (o + 1) 0 s m.nothing c w) f new) (sym none)

-- behind an argument, a comma
pub comma_taken : (h : m.Head) (fs : List m.Frame) (o i s : ℕ) (args more : List TreeExpr) (x : ExpressionRead) (ts : Rest) → x.token.kind ≡ kind.Mark mark.Comma → more ≡ args ++ x.operand.value ∷ [] → behind_expression (m.AtExpr (m.InArgs h (map expr_view args) o) ∷ fs) i s x ts ≡ answer (m.state (m.Want m.nothing) (m.AtExpr (m.InArgs h (map expr_view more) o) ∷ fs) i 0 s) ts
comma_taken h fs o i s args more x ts comma is =
    let longer : map expr_view args ++ expr_view x.operand.value ∷ [] ≡ map expr_view more = sym (ap (map expr_view) is ∙ map-append expr_view args (x.operand.value ∷ [])) in
    ap (λ (k : TokenKind). after (m.end_step (m.AtExpr (m.InArgs h (map expr_view args) o) ∷ fs) i x.operators s (operand_view x.operand) x.to (kind_view k) (span_view x.token.span)) x.token.span.from ts) comma ∙ ap (λ (es : List Expr). answer (m.state (m.Want m.nothing) (m.AtExpr (m.InArgs h es o) ∷ fs) i 0 s) ts) longer

-- behind a name that begins a term, an expression
pub named_other : (fs : List m.Frame) (o k s : ℕ) (x : Name) (c : Kind) (w : Span) → c ≢ tokens.Mark marks.Bang → c ≢ tokens.Mark marks.RoundOpen → m.named_step fs o k s x c w ≡ m.have_step fs o k s m.nothing (VarExpr x.text x.span, x.span.from) x.span.to c w
named_other fs o k s x (tokens.Mark marks.Bang) w send call = absurd (send refl)
named_other fs o k s x (tokens.Mark marks.RoundOpen) w send call = absurd (call refl)
named_other fs o k s x _ w send call = refl

-- where a term begins, a word that begins an expression or nothing
pub start_word : (fs : List m.Frame) (o k s : ℕ) (b : Bool) (c : Reserved) (w : Span) → (c ≡ word.Print → ⊥) → (c ≡ word.New → ⊥) → (c ≡ word.Free → ⊥) → is_simple (kind_view (kind.Word c)) ≡ true → m.start_step fs o k s b (kind_view (kind.Word c)) w ≡ m.want_step fs o k s m.nothing (kind_view (kind.Word c)) w
start_word fs o k s b word.Interface w _ _ _ _ = refl
start_word fs o k s b word.Def w _ _ _ _ = refl
start_word fs o k s b word.Let w _ _ _ simple = absurd (cc)
start_word fs o k s b word.In w _ _ _ _ = refl
start_word fs o k s b word.If w _ _ _ simple = absurd (cc)
start_word fs o k s b word.Else w _ _ _ _ = refl
start_word fs o k s b word.Print w print _ _ _ = absurd (print refl)
start_word fs o k s b word.New w _ new _ _ = absurd (new refl)
start_word fs o k s b word.Spawn w _ _ _ simple = absurd (cc)
start_word fs o k s b word.Guard w _ _ _ simple = absurd (cc)
start_word fs o k s b word.Free w _ _ free _ = absurd (free refl)
start_word fs o k s b word.Fail w _ _ _ _ = refl
start_word fs o k s b word.Receive w _ _ _ _ = refl
start_word fs o k s b word.From w _ _ _ _ = refl
start_word fs o k s b word.True w _ _ _ _ = refl
start_word fs o k s b word.False w _ _ _ _ = refl
start_word fs o k s b word.Unit w _ _ _ _ = refl
start_word fs o k s b word.Bool w _ _ _ _ = refl
start_word fs o k s b word.Int w _ _ _ _ = refl
start_word fs o k s b word.String w _ _ _ _ = refl

-- where a term begins, a token that is no name and no word
pub start_other : (fs : List m.Frame) (o k s : ℕ) (b : Bool) (c : TokenKind) (w : Span) → ((x : _) → c ≡ kind.Name x → ⊥) → ((x : _) → c ≡ kind.Word x → ⊥) → is_simple (kind_view c) ≡ true → m.start_step fs o k s b (kind_view c) w ≡ m.want_step fs o k s m.nothing (kind_view c) w
start_other fs o k s b (kind.Name x) w name _ _ = absurd (name x refl)
start_other fs o k s b (kind.Integer n) w _ _ _ = refl
start_other fs o k s b (kind.Str x) w _ _ _ = refl
start_other fs o k s b (kind.Word x) w _ word _ = absurd (word x refl)
start_other fs o k s b (kind.Mark mark.RoundOpen) w _ _ _ = refl
start_other fs o k s b (kind.Mark mark.RoundClose) w _ _ _ = refl
start_other fs o k s b (kind.Mark mark.CurlyOpen) w _ _ simple = absurd (cc)
start_other fs o k s b (kind.Mark mark.CurlyClose) w _ _ _ = refl
start_other fs o k s b (kind.Mark mark.SquareOpen) w _ _ _ = refl
start_other fs o k s b (kind.Mark mark.SquareClose) w _ _ _ = refl
start_other fs o k s b (kind.Mark mark.Comma) w _ _ _ = refl
start_other fs o k s b (kind.Mark mark.Semicolon) w _ _ _ = refl
start_other fs o k s b (kind.Mark mark.Colon) w _ _ _ = refl
start_other fs o k s b (kind.Mark mark.Dot) w _ _ _ = refl
start_other fs o k s b (kind.Mark mark.Plus) w _ _ _ = refl
start_other fs o k s b (kind.Mark mark.Minus) w _ _ _ = refl
start_other fs o k s b (kind.Mark mark.Star) w _ _ _ = refl
start_other fs o k s b (kind.Mark mark.Less) w _ _ _ = refl
start_other fs o k s b (kind.Mark mark.Bang) w _ _ _ = refl
start_other fs o k s b (kind.Mark mark.Question) w _ _ _ = refl
start_other fs o k s b (kind.Mark mark.Equals) w _ _ _ = refl
start_other fs o k s b (kind.Mark mark.DoubleEquals) w _ _ _ = refl
start_other fs o k s b (kind.Mark mark.Arrow) w _ _ _ = refl

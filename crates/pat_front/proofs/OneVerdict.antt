-- A text has one answer.
use Rattle.std.proofs.Common.{◌≡◌, ◌<◌, ◌≤◌, ℕ, List, [], ◌∷◌, length, map, Option, Some, None, Result, Ok, Err, refl, ap, sym, ◌∙◌, arith, ⊎_elim}
use Rattle.pat_lexer_spec.specs.Tokens.{Spanned}
use Rattle.pat_lexer_spec.specs.Divisions.{Divides, IsRefused, Refusal, BadToken, NumberTooWide}
use Rattle.pat_lexer_laws.proofs.Reaching.{one_division, one_refusal, not_both}
use Rattle.pat_semantics_spec.specs.Programs.{Program}
use Rattle.pat_parser_spec.specs.Trees.{Tree, Span as Place}
use Rattle.pat_parser_spec.specs.Items.{bound_item}
use Rattle.pat_parser_spec.specs.Machine.{Fault, Unexpected, TooDeep, parsed}
use Rattle.pat_parser_laws.proofs.Exact.{exact_answer}
use Rattle.pat_parser_phrases.specs.tokens.Answers.{limits}
use Rattle.pat_resolver_spec.specs.Findings.{Rule, Finding, findings}
use Rattle.pat_resolver_spec.specs.Findings as rule
use Rattle.pat_resolver_heads.specs.results.Views.{rule_view, finding_view}
use Rattle.pat_resolver_heads.specs.declared.results.error.ResolveKind.{ResolveKind}
use Rattle.pat_resolver_heads.specs.declared.results.error.ResolveKind.TheVariants as kind
use Rattle.pat_syntax.specs.declared.span.Span.{Span}
use Rattle.pat_input.specs.Inputs.{limit}
use Rattle.pat_front.specs.declared.verdict.Verdict.{Verdict}
use Rattle.pat_front.specs.declared.verdict.Verdict.TheVariants as verdict
use Rattle.pat_front.specs.Texts.{IsTreeText, IsProgramText, IsRefusal}
use Rattle.pat_front.specs.Laws.{OneAnswer}

-- how far a text is read, and what it comes to
data Reading : Type 0 where
  Long : Reading
  Lexical : (refusal : Refusal) → Reading
  Syntactic : (fault : Fault × ℕ) → Reading
  Broken : (finding : Finding) → Reading
  Whole : (tree : Tree) → Reading

-- the bytes divide into tokens of which the machine says so
record Parses (bytes : List ℕ) (r : Result Tree (Fault × ℕ)) : Type 0 where
  small : length bytes ≤ limit
  tokens : List Spanned
  divided : Divides bytes tokens
  answer : parsed limits (length bytes) (map bound_item tokens) ≡ r

abbrev IsRead : List ℕ → Reading → Type 0
IsRead bytes Long = limit < length bytes
IsRead bytes (Lexical r) = (length bytes ≤ limit) × IsRefused bytes r
IsRead bytes (Syntactic e) = Parses bytes (Err e)
IsRead bytes (Broken x) = (t : Tree) × Parses bytes (Ok t) × ((behind : List Finding) × (findings (length bytes) t ≡ x ∷ behind))
IsRead bytes (Whole t) = Parses bytes (Ok t) × (findings (length bytes) t ≡ [])

module _ (bytes : List ℕ) where
  one_parse : (r s : Result Tree (Fault × ℕ)) → Parses bytes r → Parses bytes s → r ≡ s
  one_parse r s a b =
      let same = one_division bytes a.tokens b.tokens a.divided b.divided in
      sym a.answer ∙ ap (λ ts. parsed limits (length bytes) (map bound_item ts)) same ∙ b.answer

  too_long : (A : Type 0) → limit < length bytes → length bytes ≤ limit → A
  too_long A l s = absurd (omega (arith, l, s))

  lexical : (r : Refusal) (s : Result Tree (Fault × ℕ)) → IsRefused bytes r → Parses bytes s → ⊥
  lexical r s refused p = not_both bytes p.tokens r p.divided refused

  one_tree_of : (t u : Tree) → Parses bytes (Ok t) → Parses bytes (Ok u) → t ≡ u
  one_tree_of t u a b = let e = one_parse (Ok t) (Ok u) a b in cc

  tree_or_fault : (t : Tree) (e : Fault × ℕ) → Parses bytes (Ok t) → Parses bytes (Err e) → ⊥
  tree_or_fault t e a b = let clash = one_parse (Ok t) (Err e) a b in cc

  one_reading : (a b : Reading) → IsRead bytes a → IsRead bytes b → a ≡ b
  one_reading Long Long l k = refl
  one_reading Long (Lexical r) l k = too_long (Long ≡ Lexical r) l k.0
  one_reading Long (Syntactic e) l k = too_long (Long ≡ Syntactic e) l k.small
  one_reading Long (Broken x) l (t, p, found) = too_long (Long ≡ Broken x) l p.small
  one_reading Long (Whole t) l k = too_long (Long ≡ Whole t) l k.0.small
  one_reading (Lexical r) Long l k = too_long (Lexical r ≡ Long) k l.0
  one_reading (Lexical r) (Lexical s) l k = ap Lexical (one_refusal bytes r s l.1 k.1)
  one_reading (Lexical r) (Syntactic e) l k = absurd (lexical r (Err e) l.1 k)
  one_reading (Lexical r) (Broken x) l (t, p, found) = absurd (lexical r (Ok t) l.1 p)
  one_reading (Lexical r) (Whole t) l k = absurd (lexical r (Ok t) l.1 k.0)
  one_reading (Syntactic e) Long l k = too_long (Syntactic e ≡ Long) k l.small
  one_reading (Syntactic e) (Lexical r) l k = absurd (lexical r (Err e) k.1 l)
  one_reading (Syntactic e) (Syntactic f) l k = let same = one_parse (Err e) (Err f) l k in cc
  one_reading (Syntactic e) (Broken x) l (t, p, found) = absurd (tree_or_fault t e p l)
  one_reading (Syntactic e) (Whole t) l k = absurd (tree_or_fault t e k.0 l)
  one_reading (Broken x) Long (t, p, found) k = too_long (Broken x ≡ Long) k p.small
  one_reading (Broken x) (Lexical r) (t, p, found) k = absurd (lexical r (Ok t) k.1 p)
  one_reading (Broken x) (Syntactic e) (t, p, found) k = absurd (tree_or_fault t e p k)
  one_reading (Broken x) (Broken y) (t, p, found) (u, q, other) =
      let same = one_tree_of t u p q in
      let lists = sym found.1 ∙ ap (findings (length bytes)) same ∙ other.1 in
      cc
  one_reading (Broken x) (Whole u) (t, p, found) k =
      let same = one_tree_of t u p k.0 in
      let clash = sym found.1 ∙ ap (findings (length bytes)) same ∙ k.1 in
      cc
  one_reading (Whole t) Long l k = too_long (Whole t ≡ Long) k l.0.small
  one_reading (Whole t) (Lexical r) l k = absurd (lexical r (Ok t) k.1 l.0)
  one_reading (Whole t) (Syntactic e) l k = absurd (tree_or_fault t e l.0 k)
  one_reading (Whole t) (Broken x) l (u, q, other) =
      let same = one_tree_of t u l.0 q in
      let clash = sym l.1 ∙ ap (findings (length bytes)) same ∙ other.1 in
      cc
  one_reading (Whole t) (Whole u) l k = ap Whole (one_tree_of t u l.0 k.0)

-- ---- verdicts

abbrev rule_kind : Rule → ResolveKind
rule_kind rule.UnknownName = kind.UnknownName
rule_kind rule.Twice = kind.Twice
rule_kind rule.WrongArity = kind.WrongArity
rule_kind rule.WrongKind = kind.WrongKind
rule_kind rule.ForeignTag = kind.ForeignTag
rule_kind rule.EmptySending = kind.EmptySending
rule_kind rule.TooManyTags = kind.TooManyTags

kind_back : (k : ResolveKind) → rule_kind (rule_view k) ≡ k
kind_back kind.UnknownName = refl
kind_back kind.Twice = refl
kind_back kind.WrongArity = refl
kind_back kind.WrongKind = refl
kind_back kind.ForeignTag = refl
kind_back kind.EmptySending = refl
kind_back kind.TooManyTags = refl

abbrev place_span : Place → Span
place_span at = record { from = at.from; to = at.to }

abbrev lexical_verdict : Refusal → Verdict
lexical_verdict (BadToken o) = verdict.Syntax o
lexical_verdict (NumberTooWide o) = verdict.NumberTooWide o

abbrev fault_verdict : Fault → ℕ → Verdict
fault_verdict Unexpected o = verdict.Syntax o
fault_verdict TooDeep o = verdict.TooDeep o

abbrev verdict_of : Reading → Option Verdict
verdict_of Long = Some verdict.TooLong
verdict_of (Lexical r) = Some (lexical_verdict r)
verdict_of (Syntactic e) = Some (fault_verdict e.0 e.1)
verdict_of (Broken x) = Some (verdict.Resolve (rule_kind x.rule) (place_span x.at))
verdict_of (Whole t) = None

-- a reading that comes to the verdict
record ComesTo (bytes : List ℕ) (v : Verdict) : Type 0 where
  reading : Reading
  is : IsRead bytes reading
  says : verdict_of reading ≡ Some v

parses_tree : (bytes : List ℕ) (t : Tree) → IsTreeText bytes t → Parses bytes (Ok t)
parses_tree bytes t x = record { small = x.small; tokens = x.tokens; divided = x.divided; answer = (exact_answer limits (length bytes) x.tokens).tree t x.spelled }

comes : (bytes : List ℕ) (v : Verdict) → IsRefusal bytes v → ComesTo bytes v
comes bytes verdict.TooLong h = record { reading = Long; is = h; says = refl }
comes bytes (verdict.Syntax o) (small, why) =
    ⊎_elim
    (λ refused. record { reading = Lexical (BadToken o); is = (small, refused); says = refl })
    (λ found.
    let read : Parses bytes (Err (Unexpected, o)) = record { small = small; tokens = found.0; divided = found.1; answer = (exact_answer limits (length bytes) found.0).unexpected o found.2 } in
    record { reading = Syntactic (Unexpected, o); is = read; says = refl })
    why
comes bytes (verdict.NumberTooWide o) (small, refused) = record { reading = Lexical (NumberTooWide o); is = (small, refused); says = refl }
comes bytes (verdict.TooDeep o) (small, (tokens, divided, deep)) =
    let read : Parses bytes (Err (TooDeep, o)) = record { small = small; tokens = tokens; divided = divided; answer = (exact_answer limits (length bytes) tokens).too_deep o deep } in
    record { reading = Syntactic (TooDeep, o); is = read; says = refl }
comes bytes (verdict.Resolve k s) (t, text, refused) =
    record { reading = Broken (finding_view k s); is = (t, parses_tree bytes t text, (refused.behind, refused.first)); says = ap (λ j. Some (verdict.Resolve j s)) (kind_back k) }
comes bytes (verdict.BadText o) h = absurd h
comes bytes (verdict.Rejected n r) h = absurd h
comes bytes (verdict.RefusedAt i) h = absurd h
comes bytes verdict.TooManyEntries h = absurd h
comes bytes (verdict.Unshown line) h = absurd h
comes bytes (verdict.BadCheckpoint r) h = absurd h
comes bytes (verdict.Unaccepted reason) h = absurd h

whole : (bytes : List ℕ) (t : Tree) (p : Program) → IsProgramText bytes t p → IsRead bytes (Whole t)
whole bytes t p x = (parses_tree bytes t x.tree, x.resolved.sound)

pub one_answer : (bytes : List ℕ) → OneAnswer bytes
one_answer bytes = record {
  one_tree = λ t u x y. one_tree_of bytes t u (parses_tree bytes t x) (parses_tree bytes u y);
  one_program = λ t u p q x y.
      let same = one_tree_of bytes t u (parses_tree bytes t x.tree) (parses_tree bytes u y.tree) in
      sym x.resolved.program ∙ ap Rattle.pat_resolver_spec.specs.Numbering.numbered same ∙ y.resolved.program;
  one_refusal = λ v w x y.
      let a = comes bytes v x in
      let b = comes bytes w y in
      let same : Some v ≡ Some w = sym a.says ∙ ap verdict_of (one_reading bytes a.reading b.reading a.is b.is) ∙ b.says in
      cc;
  not_both = λ v t p x y.
      let a = comes bytes v x in
      let clash : Some v ≡ None = sym a.says ∙ ap verdict_of (one_reading bytes a.reading (Whole t) a.is (whole bytes t p y)) in
      cc;
}

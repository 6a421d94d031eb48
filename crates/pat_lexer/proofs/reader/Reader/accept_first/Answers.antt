use Rattle.std.proofs.Common.{◌≡◌, ◌==◌, ◌||◌, ◌≤◌, ℕ, Bool, true, false, List, get_or, refl, ◌++◌, ap, sym, subst, ◌∙◌, arith}
use Rattle.std.proofs.lemmas.Bool.Decides.{nat_tests}
use Rattle.std.proofs.lemmas.Str.{encode_ascii}
use Rattle.std.specs.Char.{encode_utf8}
use Rattle.unicode_ident.specs.Ident.{is_xid_start}
use Rattle.pat_lexer_spec.specs.Characters.{starts_name}
use Rattle.pat_lexer.specs.declared.unfinished.Unfinished.TheVariants.{Name}
use Rattle.pat_lexer.specs.Progress.{Progress}
use Rattle.pat_lexer.specs.Explains.{Explains}
use Rattle.pat_lexer.specs.Reads.{progress, refusal_in}
use Rattle.pat_lexer.proofs.Slices.{moved}
use Rattle.pat_lexer.proofs.Characters.{judged_refused, no_start_char, name_begun, NotTaken, cut_high}
use Rattle.pat_lexer.proofs.reader.Reader.accept_first.Goals as goal

either : (v w : Bool) → v ≡ true → (v || w) ≡ true
either true w e = refl
either false w e = absurd (let no : ⊥ = cc in no)

neither : (v w : Bool) → v ≡ false → w ≡ false → (v || w) ≡ false
neither true w e f = e
neither false w e f = f

no_underscore : (c : ℕ) → 128 ≤ get_or (encode_utf8 c) 0 0 → (c == 95) ≡ false
no_underscore c high = from (c == 95) refl
  where
    from : (v : Bool) → (c == 95) ≡ v → (c == 95) ≡ false
    from false e = e
    from true e =
        let same : c ≡ 95 = grind (arith, nat_tests) in
        let first : get_or (encode_utf8 c) 0 0 ≡ 95 = ap (λ x. get_or (encode_utf8 x) 0 0) same ∙ ap (λ l. get_or l 0 0) (encode_ascii 95 (omega arith)) in
        absurd (omega (arith, first, high))

pub returns-then-not-is_xid_start-clause-refused : goal.returns-then-not-is_xid_start-clause-refused
returns-then-not-is_xid_start-clause-refused c = λ f text more j.
    let p = progress c.args.self.now in
    let fails : starts_name c.args.character ≡ false = neither (is_xid_start c.args.character) (c.args.character == 95) (sym c.is_xid_start.ensures.value ∙ c.if-not-is_xid_start.true) (no_underscore c.args.character (cut_high c.args.character p.character j.cut f.1)) in
    let taken : NotTaken p.unfinished (p.character ++ more) = subst (λ u. NotTaken u (p.character ++ more)) (sym c.requires.kind) (no_start_char p more c.args.character f.1 fails) in
    subst (λ u. Explains text (refusal_in u p.start p.character_start)) c.requires.kind (judged_refused p text more j taken)

pub returns-clause-taken : goal.returns-clause-taken
returns-clause-taken c = λ f text more j.
    let p = progress c.args.self.now in
    let cleared : List ℕ → Progress = λ l. record p { unfinished = Name; character = l } in
    moved _ _ text more (ap cleared c.clear.ensures.items) (name_begun p text more c.args.character c.requires.kind f.0 f.1 (either (is_xid_start c.args.character) (c.args.character == 95) (sym c.is_xid_start.ensures.value ∙ c.if-not-is_xid_start.false)) j)

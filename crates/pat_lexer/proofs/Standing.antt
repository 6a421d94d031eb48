-- How a reader stands that has no unfinished character.
use Rattle.std.proofs.Common.{◌≡◌, ◌+◌, inl, ℕ, List, [], ◌∷◌, ◌++◌, length, refl, ap, sym, subst, ◌∙◌, arith}
use Rattle.pat_lexer_spec.specs.Tokens.{Token}
use Rattle.pat_lexer_spec.specs.Lexemes.{Whole, Begins}
use Rattle.pat_lexer_spec.specs.Divisions.{Reaches}
use Rattle.pat_lexer_laws.proofs.Reaching.{token_more}
use Rattle.pat_lexer.specs.declared.unfinished.Unfinished.TheVariants.{Nothing}
use Rattle.pat_lexer.specs.Progress.{Progress, HasKind, Stands}
use Rattle.pat_lexer.specs.Changes.{with_token}

-- where the unfinished piece begins, and how far it was read
pub record Opened (p : Progress) (text rest : List ℕ) : Type 0 where
  pub opened : List ℕ
  pub reaches : Reaches 0 text p.whole p.start (opened ++ rest)
  pub position : p.position ≡ p.start + length opened
  pub kind : HasKind p.unfinished p opened

pub opened_of : (p : Progress) (text rest : List ℕ) → p.character ≡ [] → Stands p text rest → Opened p text rest
opened_of p text rest none s = record {
  opened = s.opened;
  reaches = subst (λ l. Reaches 0 text p.whole p.start (s.opened ++ (l ++ rest))) none s.reaches;
  position = s.position ∙ (let nothing : length p.character ≡ 0 = ap length none in omega (arith, nothing));
  kind = s.kind;
}

pub stands_of : (p : Progress) (text rest : List ℕ) → p.character ≡ [] → Opened p text rest → Stands p text rest
stands_of p text rest none o = record {
  opened = o.opened;
  reaches = subst (λ l. Reaches 0 text p.whole p.start (o.opened ++ (l ++ rest))) (sym none) o.reaches;
  position = o.position ∙ (let nothing : length p.character ≡ 0 = ap length none in omega (arith, nothing));
  kind = o.kind;
  character = inl none;
}

-- where no piece is unfinished
pub record Free (p : Progress) (text rest : List ℕ) : Type 0 where
  pub reaches : Reaches 0 text p.whole p.position rest
  pub start : p.start ≡ p.position
  pub held : p.held ≡ []
  pub no_text : p.text ≡ []

pub free_of : (p : Progress) (text rest : List ℕ) → p.unfinished ≡ Nothing → p.character ≡ [] → Stands p text rest → Free p text rest
free_of p text rest u none s =
    let o = opened_of p text rest none s in
    let k : HasKind Nothing p o.opened = subst (λ x. HasKind x p o.opened) u o.kind in
    let at : p.start ≡ p.position = let nothing : length o.opened ≡ 0 = ap length k.0 in omega (arith, nothing, o.position) in
    record {
      reaches = subst (λ n. Reaches 0 text p.whole n rest) at (subst (λ l. Reaches 0 text p.whole p.start (l ++ rest)) k.0 o.reaches);
      start = at;
      held = k.1 ∙ none;
      no_text = k.2;
    }

pub stands_free : (p : Progress) (text rest : List ℕ) → p.unfinished ≡ Nothing → p.character ≡ [] → Free p text rest → Stands p text rest
stands_free p text rest u none f = stands_of p text rest none (record {
  opened = [];
  reaches = subst (λ n. Reaches 0 text p.whole n rest) (sym f.start) f.reaches;
  position = omega (arith, f.start);
  kind = let k : HasKind Nothing p [] = (refl, f.held ∙ sym none, f.no_text) in subst (λ x. HasKind x p []) (sym u) k;
})

-- a piece that is whole ends with its token
pub with_token_stands : (p : Progress) (text rest opened : List ℕ) (t : Token) → p.character ≡ [] → p.text ≡ [] → Reaches 0 text p.whole p.start (opened ++ rest) → p.position ≡ p.start + length opened → Begins (Whole t) opened rest → Stands (with_token p t) text rest
with_token_stands p text rest opened t none empty r at b = stands_free (with_token p t) text rest refl none (record {
  reaches = let more = token_more r b refl in subst (λ n. Reaches 0 text (p.whole ++ record { token = t; from = p.start; to = n } ∷ []) n rest) (sym at) more;
  start = refl;
  held = refl;
  no_text = empty;
})

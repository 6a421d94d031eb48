-- What a lexer knows of the bytes that it was fed, from piece to piece.
use Rattle.std.proofs.Common.{◌≡◌, ℕ, List, [], ◌++◌, Option, None, Some, sym, subst, ◌∙◌, append_assoc, append-nil}
use Rattle.std.proofs.lemmas.Option.{same_Some}
use Rattle.pat_lexer.specs.declared.error.LexError.{LexError}
use Rattle.pat_lexer.specs.Progress.{Stands}
use Rattle.pat_lexer.specs.Explains.{Explains}
use Rattle.pat_lexer.specs.Lexed.{Lexed, HasRead}

none_some : (r : Option LexError) (e : LexError) → r ≡ None → r ≡ Some e → ⊥
none_some r e n s = let both : None ≡ Some e = sym n ∙ s in let no : ⊥ = cc in no

-- a lexer that has refused has refused whatever follows
pub has_refused : (bytes piece : List ℕ) (l : Lexed) (e : LexError) → l.refusal ≡ Some e → HasRead bytes l → HasRead (bytes ++ piece) l
has_refused bytes piece l e some h = record {
  counted = λ none. absurd (none_some l.refusal e none some);
  stands = λ none. absurd (none_some l.refusal e none some);
  refused = λ other same more. subst (λ t. Explains t other) (sym (append_assoc bytes piece more)) (h.refused other same (piece ++ more));
}

-- a piece that is refused
pub has_failed : (bytes piece : List ℕ) (l m : Lexed) (e : LexError) → l.refusal ≡ None → m.refusal ≡ Some e → HasRead bytes l → ((text more : List ℕ) → Stands l.progress text (piece ++ more) → Explains text e) → HasRead (bytes ++ piece) m
has_failed bytes piece l m e none some h refuses = record {
  counted = λ n. absurd (none_some m.refusal e n some);
  stands = λ n. absurd (none_some m.refusal e n some);
  refused = λ other same more.
      let one : e ≡ other = same_Some e other (sym some ∙ same) in
      subst (λ x. Explains ((bytes ++ piece) ++ more) x) one (subst (λ t. Explains t e) (sym (append_assoc bytes piece more)) (refuses (bytes ++ (piece ++ more)) more (h.stands none (piece ++ more))));
}

-- at the end of the bytes
pub stands_at_end : (bytes : List ℕ) (l : Lexed) → l.refusal ≡ None → HasRead bytes l → Stands l.progress bytes []
stands_at_end bytes l none h = subst (λ t. Stands l.progress t []) (append-nil bytes) (h.stands none [])

pub refused_at_end : (bytes : List ℕ) (l : Lexed) (e : LexError) → l.refusal ≡ Some e → HasRead bytes l → Explains bytes e
refused_at_end bytes l e some h = subst (λ t. Explains t e) (append-nil bytes) (h.refused e some [])

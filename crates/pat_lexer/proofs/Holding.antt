-- What a lexer holds of the bytes that it was fed.
use Rattle.std.proofs.Common.{◌≡◌, ◌≢◌, ◌+◌, ◌⊎◌, inl, inr, ℕ, List, [], ◌∷◌, ◌++◌, length, None, refl, ap, sym, subst, ◌∙◌, arith, length-append, append_assoc, append-nil}
use Rattle.pat_lexer_spec.specs.Characters.{IsUnfinished}
use Rattle.pat_lexer_spec.specs.Tokens.{Spanned}
use Rattle.pat_lexer_spec.specs.Divisions.{Reaches, here, over, token}
use Rattle.pat_lexer.specs.declared.unfinished.Unfinished.{Unfinished}
use Rattle.pat_lexer.specs.declared.unfinished.Unfinished.TheVariants.{Nothing, Name, Integer, Str, Escape, Equals, Minus, Slash, Comment}
use Rattle.pat_lexer.specs.Progress.{Progress, HasKind}
use Rattle.pat_lexer.specs.Lexed.{Lexed, HasRead, Holds}
use Rattle.pat_lexer_spec.specs.Held.{IsHeld, piece, in_comment, NothingWhole, IsInComment}
use Rattle.pat_lexer_laws.proofs.Classes.{Fronts, Names, Quoted, Marks, digits_front, name_front}
use Rattle.pat_lexer_laws.proofs.Strings.{rest_of}
use Rattle.pat_lexer_laws.proofs.Unique.{same_fronts}
use Rattle.pat_lexer.proofs.Histories.{stands_at_end}
use Rattle.pat_lexer.proofs.Unsure.{character_unsure, name_unsure, integer_unsure, string_unsure, escape_unsure, slash_unsure, equals_unsure, minus_unsure, outside, character_outside}

-- a place that is reached ends the text, at its offset
reached_place : {at to : ℕ} {text rest : List ℕ} {tokens : List Spanned} → Reaches at text tokens to rest → (front : List ℕ) × (text ≡ front ++ rest) × (to ≡ at + length front)
reached_place here = ([], refl, omega arith)
reached_place (over {own = own} k b e r) = let s = reached_place r in (own ++ s.0, sym e ∙ ap (λ l. own ++ l) s.1 ∙ sym (append_assoc own s.0 _), omega (arith, s.2, length-append own s.0))
reached_place (token {own = own} b e r) = let s = reached_place r in (own ++ s.0, sym e ∙ ap (λ l. own ++ l) s.1 ∙ sym (append_assoc own s.0 _), omega (arith, s.2, length-append own s.0))

no_character : (opened character held : List ℕ) → held ≡ opened → character ≡ [] → opened ++ character ≡ held
no_character opened character held h none = ap (λ l. opened ++ l) none ∙ append-nil opened ∙ sym h

kind_held : (u : Unfinished) (p : Progress) (opened : List ℕ) → HasKind u p opened → u ≢ Comment → opened ++ p.character ≡ p.held
kind_held Nothing p opened k out = ap (λ l. l ++ p.character) k.0 ∙ sym k.1
kind_held Name p opened k out = sym k.1
kind_held Integer p opened k out = no_character opened p.character p.held k.4 k.5
kind_held Str p opened k out = sym k.4
kind_held Escape p opened k out = no_character opened p.character p.held k.4 k.5
kind_held Equals p opened k out = no_character opened p.character p.held k.1 k.2
kind_held Minus p opened k out = no_character opened p.character p.held k.1 k.2
kind_held Slash p opened k out = no_character opened p.character p.held k.1 k.2
kind_held Comment p opened k out = absurd (out refl)

kind_ends : (u : Unfinished) (p : Progress) (opened : List ℕ) → HasKind u p opened → (front : List ℕ) × (opened ++ p.character ≡ front ++ p.held)
kind_ends Nothing p opened k = ([], ap (λ l. l ++ p.character) k.0 ∙ sym k.1)
kind_ends Name p opened k = ([], sym k.1)
kind_ends Integer p opened k = ([], no_character opened p.character p.held k.4 k.5)
kind_ends Str p opened k = ([], sym k.4)
kind_ends Escape p opened k = ([], no_character opened p.character p.held k.4 k.5)
kind_ends Equals p opened k = ([], no_character opened p.character p.held k.1 k.2)
kind_ends Minus p opened k = ([], no_character opened p.character p.held k.1 k.2)
kind_ends Slash p opened k = ([], no_character opened p.character p.held k.1 k.2)
kind_ends Comment p opened k = (opened, ap (λ l. opened ++ l) (sym k.4))

held_character : (held c : List ℕ) (a b : ℕ) → (c ≡ []) ⊎ (IsUnfinished c × (a ≡ b)) → held ≡ c → (held ≡ []) ⊎ IsUnfinished held
held_character held c a b (inl none) h = inl (h ∙ none)
held_character held c a b (inr u) h = inr (subst IsUnfinished (sym h) u.0)

pub holds : (bytes : List ℕ) (l : Lexed) → HasRead bytes l → l.refusal ≡ None → Holds bytes l.progress
holds bytes l h none =
    let p = l.progress in
    let s = stands_at_end bytes l none h in
    let front = reached_place s.reaches in
    let own = kind_ends p.unfinished p s.opened s.kind in
    record {
      front = front.0 ++ own.0;
      split = front.1 ∙ ap (λ l. front.0 ++ (s.opened ++ l)) (append-nil p.character) ∙ ap (λ l. front.0 ++ l) own.1 ∙ sym (append_assoc front.0 own.0 p.held);
      reaches = λ out more.
          let t = h.stands none more in
          let same : t.opened ++ (p.character ++ more) ≡ p.held ++ more = sym (append_assoc t.opened p.character more) ∙ ap (λ l. l ++ more) (kind_held p.unfinished p t.opened t.kind out) in
          subst (Reaches 0 (bytes ++ more) p.whole p.start) same t.reaches;
      comment = λ u.
          let k : HasKind Comment p s.opened = subst (λ x. HasKind x p s.opened) u s.kind in
          held_character p.held p.character _ _ s.character k.4;
    }

or_unfinished : {c : List ℕ} {a b : ℕ} → (c ≡ []) ⊎ (IsUnfinished c × (a ≡ b)) → (c ≡ []) ⊎ IsUnfinished c
or_unfinished (inl none) = inl none
or_unfinished (inr u) = inr u.0

-- Whole pieces lead to the unfinished one in the same way, whatever follows.
record Leads (bytes opened character : List ℕ) (tokens : List Spanned) : Type 0 where
  front : List ℕ
  split : bytes ≡ front ++ (opened ++ character)
  reaches : (more : List ℕ) → Reaches 0 (bytes ++ more) tokens (length front) (opened ++ (character ++ more))

leads : (bytes : List ℕ) (l : Lexed) (h : HasRead bytes l) (none : l.refusal ≡ None) → Leads bytes (stands_at_end bytes l none h).opened l.progress.character l.progress.whole
leads bytes l h none =
    let p = l.progress in
    let c = p.character in
    let s = stands_at_end bytes l none h in
    let place = reached_place s.reaches in
    let split : bytes ≡ place.0 ++ (s.opened ++ c) = place.1 ∙ ap (λ l. place.0 ++ (s.opened ++ l)) (append-nil c) in
    record {
      front = place.0;
      split = split;
      reaches = λ more.
          let t = h.stands none more in
          let there = reached_place t.reaches in
          let whole : bytes ++ more ≡ place.0 ++ (s.opened ++ (c ++ more)) = ap (λ l. l ++ more) split ∙ append_assoc place.0 (s.opened ++ c) more ∙ ap (λ l. place.0 ++ l) (append_assoc s.opened c more) in
          let same = same_fronts there.0 (t.opened ++ (c ++ more)) place.0 (s.opened ++ (c ++ more)) (sym there.1 ∙ whole) (omega (arith, there.2, place.2)) in
          let at : p.start ≡ length place.0 = omega (arith, place.2) in
          subst (λ n. Reaches 0 (bytes ++ more) p.whole n (s.opened ++ (c ++ more))) at (subst (Reaches 0 (bytes ++ more) p.whole p.start) same.1 t.reaches);
    }

as_piece : {bytes opened character held : List ℕ} {tokens : List Spanned} (text : List ℕ) → Leads bytes opened character tokens → opened ++ character ≡ held → opened ++ character ≡ text → NothingWhole text → (IsInComment text → ⊥) → IsHeld bytes tokens held
as_piece {bytes} {opened} {character} {held} {tokens} text l is at none out =
    subst (IsHeld bytes tokens) is (piece l.front l.split (λ more. subst (Reaches 0 (bytes ++ more) tokens (length l.front)) (sym (append_assoc opened character more)) (l.reaches more)) (subst NothingWhole (sym at) none) (λ i. out (subst IsInComment at i)))

held_by_kind : (u : Unfinished) (p : Progress) (bytes opened : List ℕ) → HasKind u p opened → (p.character ≡ []) ⊎ IsUnfinished p.character → Leads bytes opened p.character p.whole → IsHeld bytes p.whole p.held
held_by_kind Nothing p bytes opened k c l = as_piece p.character l (kind_held Nothing p opened k (λ e. let no : ⊥ = cc in no)) (ap (λ x. x ++ p.character) k.0) (character_unsure p.character c) (character_outside p.character c)
held_by_kind Name p bytes opened k c l =
    let f = name_front opened k.0 in
    let front : Fronts (opened ++ p.character) Names = record { front = f.front; tail = f.tail ++ p.character; is = ap (λ x. x ++ p.character) f.is; kind = f.kind } in
    as_piece (opened ++ p.character) l (sym k.1) refl (name_unsure opened p.character k.0 c) (outside front (λ e. let no : ⊥ = cc in no))
held_by_kind Integer p bytes opened k c l =
    let at : opened ++ p.character ≡ opened = ap (λ x. opened ++ x) k.5 ∙ append-nil opened in
    as_piece opened l (at ∙ sym k.4) at (integer_unsure opened k.1) (outside (digits_front opened k.0 k.1) (λ e. let no : ⊥ = cc in no))
held_by_kind Str p bytes opened k c l =
    let front : Fronts (34 ∷ (k.0 ++ p.character)) Quoted = record { front = 34; tail = k.0 ++ p.character; is = refl; kind = refl } in
    as_piece (34 ∷ (k.0 ++ p.character)) l (sym k.4) (ap (λ x. x ++ p.character) k.1) (string_unsure k.0 p.text p.character k.3 k.2 c) (outside front (λ e. let no : ⊥ = cc in no))
held_by_kind Escape p bytes opened k c l =
    let at : opened ++ p.character ≡ opened = ap (λ x. opened ++ x) k.5 ∙ append-nil opened in
    let front : Fronts (34 ∷ (k.0 ++ 92 ∷ [])) Quoted = record { front = 34; tail = k.0 ++ 92 ∷ []; is = refl; kind = refl } in
    as_piece (34 ∷ (k.0 ++ 92 ∷ [])) l (at ∙ sym k.4) (at ∙ k.1) (escape_unsure k.0 p.text k.3 k.2) (outside front (λ e. let no : ⊥ = cc in no))
held_by_kind Equals p bytes opened k c l =
    let at : opened ++ p.character ≡ opened = ap (λ x. opened ++ x) k.2 ∙ append-nil opened in
    let front : Fronts (61 ∷ []) Marks = record { front = 61; tail = []; is = refl; kind = refl } in
    as_piece (61 ∷ []) l (at ∙ sym k.1) (at ∙ k.0) equals_unsure (outside front (λ e. let no : ⊥ = cc in no))
held_by_kind Minus p bytes opened k c l =
    let at : opened ++ p.character ≡ opened = ap (λ x. opened ++ x) k.2 ∙ append-nil opened in
    let front : Fronts (45 ∷ []) Marks = record { front = 45; tail = []; is = refl; kind = refl } in
    as_piece (45 ∷ []) l (at ∙ sym k.1) (at ∙ k.0) minus_unsure (outside front (λ e. let no : ⊥ = cc in no))
held_by_kind Slash p bytes opened k c l =
    let at : opened ++ p.character ≡ opened = ap (λ x. opened ++ x) k.2 ∙ append-nil opened in
    as_piece (47 ∷ []) l (at ∙ sym k.1) (at ∙ k.0) slash_unsure (λ i. let no : [] ≡ 47 ∷ i.0 = ap rest_of i.1 in absurd (let none : ⊥ = cc in none))
held_by_kind Comment p bytes opened k c l =
    subst (IsHeld bytes p.whole) (sym k.4) (in_comment l.front k.0 (l.split ∙ ap (λ x. l.front ++ (x ++ p.character)) k.1) (λ more. subst (λ x. Reaches 0 (bytes ++ more) p.whole (length l.front) (x ++ (p.character ++ more))) k.1 (l.reaches more)) k.2 k.3 c)

pub is_held : (bytes : List ℕ) (l : Lexed) → HasRead bytes l → l.refusal ≡ None → IsHeld bytes l.progress.whole l.progress.held
is_held bytes l h none =
    let s = stands_at_end bytes l none h in
    held_by_kind l.progress.unfinished l.progress bytes s.opened s.kind (or_unfinished s.character) (leads bytes l h none)

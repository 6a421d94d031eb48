-- Characters that aren't ASCII.
use Rattle.std.proofs.Common.{◌≡◌, ◌≢◌, ◌+◌, ◌<◌, ◌≤◌, nat_le, ◌⊎◌, inl, inr, ℕ, zero, suc, Bool, true, false, List, [], ◌∷◌, ◌++◌, length, get_or, refl, ap, sym, subst, ◌∙◌, arith, length-append, append_assoc, append-nil}
use Rattle.std.proofs.lemmas.Bool.Decides.{nat_tests}
use Rattle.std.proofs.lemmas.Str.{IsUtf8-append, IsUtf8-encode, encode_ascii, encode_same, inside_one}
use Rattle.std.specs.Str.{IsUtf8, StartsWithNoChar, encode_utf8_all}
use Rattle.std.specs.Char.{encode_utf8, IsScalar}
use lib.Utf8.{low_scalar}
use Rattle.unicode_ident.specs.Ident.{is_xid_start}
use Rattle.unicode_ident.proofs.IdentLemmas.{is_xid_start-is_xid_continue, is_xid_continue-ascii}
use Rattle.pat_lexer_spec.specs.Characters.{starts_name, continues_name, is_plain, is_in_line, Each, IsUnfinished, IsNameText}
use Rattle.pat_lexer_spec.specs.Lexemes.{NothingFits}
use Rattle.pat_lexer_spec.specs.Divisions.{Reaches}
use Rattle.pat_lexer_laws.proofs.Runs.{both, Each-append}
use Rattle.pat_lexer_laws.proofs.Texts.{encode_some}
use Rattle.pat_lexer_laws.proofs.Reaching.{token_more}
use Rattle.pat_lexer_laws.proofs.Strings.{quotes_append, quotes_plain}
use Rattle.pat_lexer_laws.proofs.NameBeginnings.{NoMoreName, name_more, name_of_one}
use Rattle.pat_lexer_laws.proofs.Faults.{no_name, no_string, no_end_character, no_comment_text, NoEnd}
use Rattle.pat_lexer.specs.declared.unfinished.Unfinished.{Unfinished}
use Rattle.pat_lexer.specs.declared.unfinished.Unfinished.TheVariants.{Nothing, Name, Integer, Str, Escape, Equals, Minus, Slash, Comment}
use Rattle.pat_lexer.specs.fronts.Fronts.{IsCut}
use Rattle.pat_lexer.specs.Progress.{Progress, HasKind, Stands}
use Rattle.pat_lexer.specs.Explains.{Explains}
use Rattle.pat_lexer.specs.Reads.{refusal_in, TakesCharacters, Judges}
use Rattle.pat_lexer.proofs.Standing.{stands_of}
use Rattle.pat_lexer.proofs.Between.{refused_at, name_token_begins}
use Rattle.pat_lexer.proofs.WordOr.{name_or_word}

-- a text that begins with a byte that isn't ASCII
pub record High (tail : List ℕ) : Type 0 where
  pub first : ℕ
  pub others : List ℕ
  pub is : tail ≡ first ∷ others
  pub high : 128 ≤ first

pub high_of : (bytes more : List ℕ) → 128 ≤ get_or bytes 0 0 → High (bytes ++ more)
high_of [] more h = absurd (omega arith)
high_of (b ∷ bytes) more h = record { first = b; others = bytes ++ more; is = refl; high = h }

-- no name begins with what follows
abbrev pub NoStart : List ℕ → Type 0
NoStart tail = (c : ℕ) (after : List ℕ) → IsScalar c → tail ≡ encode_utf8 c ++ after → starts_name c ≡ false

-- what follows doesn't go on with the piece
abbrev pub NotTaken : Unfinished → List ℕ → Type 0
NotTaken Nothing tail = NoStart tail
NotTaken Name tail = NoMoreName tail
NotTaken Str tail = StartsWithNoChar tail
NotTaken Comment tail = StartsWithNoChar tail
NotTaken _ tail = ⊥

pub none_taken : (u : Unfinished) (tail : List ℕ) → TakesCharacters u → StartsWithNoChar tail → NotTaken u tail
none_taken Nothing tail t none = λ c after s e. absurd (none c after s e)
none_taken Name tail t none = λ c after s e. absurd (none c after s e)
none_taken Str tail t none = none
none_taken Comment tail t none = none
none_taken Integer tail t none = t
none_taken Escape tail t none = t
none_taken Equals tail t none = t
none_taken Minus tail t none = t
none_taken Slash tail t none = t

-- what may begin a name may go on with one
start_goes_on : (c : ℕ) → starts_name c ≡ true → continues_name c ≡ true
start_goes_on c s = from (is_xid_start c) refl
  where
    from : (v : Bool) → is_xid_start c ≡ v → continues_name c ≡ true
    from true e = is_xid_start-is_xid_continue c e
    from false e = let same : c ≡ 95 = grind (arith, nat_tests) in subst (λ x. continues_name x ≡ true) (sym same) (is_xid_continue-ascii 95 (omega arith))

no_start : (tail : List ℕ) → NoMoreName tail → NoStart tail
no_start tail n c after s e = from (starts_name c) refl
  where
    from : (v : Bool) → starts_name c ≡ v → starts_name c ≡ false
    from false h = h
    from true h = absurd (both (continues_name c) (start_goes_on c h) (n c after s e))

some_high : (tail : List ℕ) → High tail → tail ≢ []
some_high tail h e = let no : h.first ∷ h.others ≡ [] = sym h.is ∙ e in absurd (let none : ⊥ = cc in none)

pub bad_name : (tail : List ℕ) → High tail → NoStart tail → NothingFits tail
bad_name tail h none = subst NothingFits (sym h.is) (no_name h.first h.others h.high (λ c after s e. none c after s (h.is ∙ e)))

-- a character that doesn't fit the piece is refused: a name is whole before it
pub refused_kind : (u : Unfinished) (p : Progress) (opened tail text : List ℕ) → HasKind u p opened → Reaches 0 text p.whole p.start (opened ++ tail) → High tail → NotTaken u tail → p.character_start ≡ p.start + length opened → Explains text (refusal_in u p.start p.character_start)
refused_kind Nothing p opened tail text k r h n at = refused_at text tail p.whole p.start (subst (λ l. Reaches 0 text p.whole p.start (l ++ tail)) k.0 r) (some_high tail h) (bad_name tail h n)
refused_kind Name p opened tail text k r h n at =
    let token = name_or_word opened in
    let more = token_more r (name_token_begins tail token.1 k.0 n) refl in
    refused_at text tail _ p.character_start (subst (λ o. Reaches 0 text (p.whole ++ record { token = token.0; from = p.start; to = p.start + length opened } ∷ []) o tail) (sym at) more) (some_high tail h) (bad_name tail h (no_start tail n))
refused_kind Str p opened tail text k r h n at =
    let begun : opened ++ tail ≡ 34 ∷ (k.0 ++ tail) = ap (λ l. l ++ tail) k.1 in
    refused_at text (34 ∷ (k.0 ++ tail)) p.whole p.start (subst (Reaches 0 text p.whole p.start) begun r) (λ e. let no : ⊥ = cc in no) (no_string k.0 p.text tail k.3 k.2 (subst NoEnd (sym h.is) (no_end_character h.first h.others h.high (subst StartsWithNoChar h.is n))))
refused_kind Comment p opened tail text k r h n at =
    let begun : opened ++ tail ≡ 47 ∷ 47 ∷ (k.0 ++ h.first ∷ h.others) = ap (λ l. l ++ tail) k.1 ∙ ap (λ l. 47 ∷ 47 ∷ (k.0 ++ l)) h.is in
    refused_at text (47 ∷ 47 ∷ (k.0 ++ h.first ∷ h.others)) p.whole p.start (subst (Reaches 0 text p.whole p.start) begun r) (λ e. let no : ⊥ = cc in no) (no_comment_text k.0 h.first h.others k.2 k.3 h.high (subst StartsWithNoChar h.is n))
refused_kind Integer p opened tail text k r h n at = absurd n
refused_kind Escape p opened tail text k r h n at = absurd n
refused_kind Equals p opened tail text k r h n at = absurd n
refused_kind Minus p opened tail text k r h n at = absurd n
refused_kind Slash p opened tail text k r h n at = absurd n

-- the character is refused where it doesn't fit
pub judged_refused : (p : Progress) (text rest : List ℕ) → Judges p text rest → NotTaken p.unfinished (p.character ++ rest) → Explains text (refusal_in p.unfinished p.start p.character_start)
judged_refused p text rest j n = refused_kind p.unfinished p j.opened (p.character ++ rest) text j.kind j.reaches (high_of p.character rest j.cut.high) n j.begins

-- an unfinished character isn't ASCII
pub unfinished_high : (bytes : List ℕ) → IsUnfinished bytes → 128 ≤ get_or bytes 0 0
unfinished_high [] u = absurd (omega (arith, u.some))
unfinished_high (b ∷ bytes) u = from (nat_le 128 b) refl
  where
    from : (v : Bool) → nat_le 128 b ≡ v → 128 ≤ b
    from true h = grind (arith, nat_tests)
    from false h =
        let low : b < 128 = grind (arith, nat_tests) in
        absurd (u.none_whole b bytes (low_scalar b (omega (arith, low))) (ap (λ l. l ++ bytes) (sym (encode_ascii b low))))

-- the text ends within a character
pub ends_refused : (p : Progress) (text : List ℕ) → p.character ≢ [] → Stands p text [] → Explains text (refusal_in p.unfinished p.start p.character_start)
ends_refused p text some s = from s.character
  where
    takes : (u : Unfinished) → HasKind u p s.opened → TakesCharacters u
    takes Nothing k = tt
    takes Name k = tt
    takes Str k = tt
    takes Comment k = tt
    takes Integer k = some k.5
    takes Escape k = some k.5
    takes Equals k = some k.2
    takes Minus k = some k.2
    takes Slash k = some k.2

    from : (p.character ≡ []) ⊎ (IsUnfinished p.character × (p.character_start ≡ p.start + length s.opened)) → Explains text (refusal_in p.unfinished p.start p.character_start)
    from (inl none) = absurd (some none)
    from (inr u) = refused_kind p.unfinished p s.opened (p.character ++ []) text s.kind s.reaches (high_of p.character [] (unfinished_high p.character u.0)) (none_taken p.unfinished (p.character ++ []) (takes p.unfinished s.kind) (subst StartsWithNoChar (sym (append-nil p.character)) u.0.none_whole)) u.1

-- an unfinished character is kept
pub judged_unfinished : (p : Progress) (text rest : List ℕ) → Judges p text rest → IsUnfinished p.character → Stands p text rest
judged_unfinished p text rest j u = record { opened = j.opened; reaches = j.reaches; position = j.position; kind = j.kind; character = inr (u, j.begins) }

-- the bytes of a character that isn't ASCII aren't either
each_by_index : (p : ℕ → Bool) (bs : List ℕ) → ((k : ℕ) → k < length bs → p (get_or bs k 0) ≡ true) → Each p bs
each_by_index p [] h = tt
each_by_index p (b ∷ bs) h = (h zero (omega arith), each_by_index p bs (λ k less. h (suc k) (omega (arith, less))))

encode_high : (c : ℕ) → 128 ≤ get_or (encode_utf8 c) 0 0 → (k : ℕ) → k < length (encode_utf8 c) → 128 ≤ get_or (encode_utf8 c) k 0
encode_high c high k less = from (nat_le 128 (get_or (encode_utf8 c) k 0)) refl
  where
    from : (v : Bool) → nat_le 128 (get_or (encode_utf8 c) k 0) ≡ v → 128 ≤ get_or (encode_utf8 c) k 0
    from true h = grind (arith, nat_tests)
    from false h =
        let low : get_or (encode_utf8 c) k 0 < 128 = grind (arith, nat_tests) in
        let same : c ≡ get_or (encode_utf8 c) k 0 = inside_one c [] (encode_utf8 c) k (sym (append-nil (encode_utf8 c))) less low in
        let small : c < 128 = omega (arith, same, low) in
        let first : get_or (encode_utf8 c) 0 0 ≡ c = ap (λ l. get_or l 0 0) (encode_ascii c small) in
        absurd (omega (arith, first, high, small))

high_plain : (b : ℕ) → 128 ≤ b → is_plain b ≡ true
high_plain b h = grind (arith, nat_tests)

high_in_line : (b : ℕ) → 128 ≤ b → is_in_line b ≡ true
high_in_line b h = grind (arith, nat_tests)

joined : (p : Progress) (text rest : List ℕ) (j : Judges p text rest) → Reaches 0 text p.whole p.start ((j.opened ++ p.character) ++ rest)
joined p text rest j = subst (Reaches 0 text p.whole p.start) (sym (append_assoc j.opened p.character rest)) j.reaches

joined_position : (p : Progress) (text rest : List ℕ) (j : Judges p text rest) → p.position ≡ p.start + length (j.opened ++ p.character)
joined_position p text rest j = omega (arith, j.position, length-append j.opened p.character)

pub name_begun : (p : Progress) (text rest : List ℕ) (c : ℕ) → p.unfinished ≡ Nothing → IsScalar c → p.character ≡ encode_utf8 c → starts_name c ≡ true → Judges p text rest → Stands (record p { unfinished = Name; character = [] }) text rest
name_begun p text rest c u s is starts j =
    let k : HasKind Nothing p j.opened = subst (λ x. HasKind x p j.opened) u j.kind in
    let own : j.opened ++ p.character ≡ p.character = ap (λ l. l ++ p.character) k.0 in
    stands_of (record p { unfinished = Name; character = [] }) text rest refl (record {
      opened = j.opened ++ p.character;
      reaches = joined p text rest j;
      position = joined_position p text rest j;
      kind = (subst IsNameText (sym (own ∙ is)) (name_of_one c s starts), k.1 ∙ sym own ∙ sym (append-nil (j.opened ++ p.character)), k.2);
    })

encodes_one : (c : ℕ) → encode_utf8_all (c ∷ []) ≡ encode_utf8 c
encodes_one c = append-nil (encode_utf8 c)

pub name_goes_on : (p : Progress) (text rest : List ℕ) (c : ℕ) → p.unfinished ≡ Name → IsScalar c → p.character ≡ encode_utf8 c → continues_name c ≡ true → Judges p text rest → Stands (record p { character = [] }) text rest
name_goes_on p text rest c u s is goes j =
    let k : HasKind Name p j.opened = subst (λ x. HasKind x p j.opened) u j.kind in
    let q = record p { character = [] } in
    let own : IsNameText (j.opened ++ p.character) = subst (λ l. IsNameText (j.opened ++ l)) (encodes_one c ∙ sym is) (name_more j.opened (c ∷ []) k.0 (rw s refl) (goes, tt)) in
    let new : HasKind Name q (j.opened ++ p.character) = (own, k.1 ∙ sym (append-nil (j.opened ++ p.character)), k.2) in
    stands_of q text rest refl (record {
      opened = j.opened ++ p.character;
      reaches = joined p text rest j;
      position = joined_position p text rest j;
      kind = subst (λ x. HasKind x q (j.opened ++ p.character)) (sym u) new;
    })

pub cut_high : (c : ℕ) (bytes : List ℕ) → IsCut bytes → bytes ≡ encode_utf8 c → 128 ≤ get_or (encode_utf8 c) 0 0
cut_high c bytes cut is = subst (λ l. 128 ≤ get_or l 0 0) is cut.high

pub string_goes_on : (p : Progress) (text rest : List ℕ) (c : ℕ) → p.unfinished ≡ Str → IsScalar c → p.character ≡ encode_utf8 c → Judges p text rest → Stands (record p { text = p.text ++ p.character; character = [] }) text rest
string_goes_on p text rest c u s is j =
    let k : HasKind Str p j.opened = subst (λ x. HasKind x p j.opened) u j.kind in
    let q = record p { text = p.text ++ p.character; character = [] } in
    let each : Each is_plain p.character = subst (Each is_plain) (sym is) (each_by_index is_plain (encode_utf8 c) (λ i less. high_plain _ (encode_high c (cut_high c p.character j.cut is) i less))) in
    let utf8 : IsUtf8 p.character = subst IsUtf8 (sym is) (IsUtf8-encode c s) in
    let new : HasKind Str q (j.opened ++ p.character) = (k.0 ++ p.character, ap (λ l. l ++ p.character) k.1, IsUtf8-append k.0 p.character k.2 utf8, quotes_append k.3 (quotes_plain p.character each), k.4 ∙ sym (append-nil (j.opened ++ p.character))) in
    stands_of q text rest refl (record {
      opened = j.opened ++ p.character;
      reaches = joined p text rest j;
      position = joined_position p text rest j;
      kind = subst (λ x. HasKind x q (j.opened ++ p.character)) (sym u) new;
    })

pub comment_goes_on : (p : Progress) (text rest : List ℕ) (c : ℕ) → p.unfinished ≡ Comment → IsScalar c → p.character ≡ encode_utf8 c → Judges p text rest → Stands (record p { held = []; character = [] }) text rest
comment_goes_on p text rest c u s is j =
    let k : HasKind Comment p j.opened = subst (λ x. HasKind x p j.opened) u j.kind in
    let q = record p { held = []; character = [] } in
    let each : Each is_in_line p.character = subst (Each is_in_line) (sym is) (each_by_index is_in_line (encode_utf8 c) (λ i less. high_in_line _ (encode_high c (cut_high c p.character j.cut is) i less))) in
    let utf8 : IsUtf8 p.character = subst IsUtf8 (sym is) (IsUtf8-encode c s) in
    let new : HasKind Comment q (j.opened ++ p.character) = (k.0 ++ p.character, ap (λ l. l ++ p.character) k.1, IsUtf8-append k.0 p.character k.2 utf8, Each-append is_in_line k.0 p.character k.3 each, refl, k.5) in
    stands_of q text rest refl (record {
      opened = j.opened ++ p.character;
      reaches = joined p text rest j;
      position = joined_position p text rest j;
      kind = subst (λ x. HasKind x q (j.opened ++ p.character)) (sym u) new;
    })

-- a whole character that doesn't fit
pub no_start_char : (p : Progress) (rest : List ℕ) (c : ℕ) → p.character ≡ encode_utf8 c → starts_name c ≡ false → NoStart (p.character ++ rest)
no_start_char p rest c is fails d after s e =
    let same = encode_same d c after rest (sym e ∙ ap (λ l. l ++ rest) is) in subst (λ x. starts_name x ≡ false) (sym same.0) fails

pub no_more_char : (p : Progress) (rest : List ℕ) (c : ℕ) → p.character ≡ encode_utf8 c → continues_name c ≡ false → NoMoreName (p.character ++ rest)
no_more_char p rest c is fails d after s e =
    let same = encode_same d c after rest (sym e ∙ ap (λ l. l ++ rest) is) in subst (λ x. continues_name x ≡ false) (sym same.0) fails

-- one byte more of a character
pub extended : (p : Progress) (text rest : List ℕ) (b start : ℕ) → (p.character ≡ [] → (128 ≤ b) × TakesCharacters p.unfinished) → (p.character ≡ [] → start ≡ p.position) → (p.character ≢ [] → start ≡ p.character_start) → Stands p text (b ∷ rest) → Judges (record p { position = p.position + 1; held = p.held ++ b ∷ []; character = p.character ++ b ∷ []; character_start = start }) text rest
extended p text rest b start may fresh kept s = record {
  opened = s.opened;
  reaches = subst (λ l. Reaches 0 text p.whole p.start (s.opened ++ l)) (sym (append_assoc p.character (b ∷ []) rest)) s.reaches;
  position = omega (arith, s.position, length-append p.character (b ∷ []));
  kind = kinds p.unfinished s.kind (takes s.character);
  cut = cut s.character;
  begins = begins s.character;
  takes = takes s.character;
}
  where
    q : Progress
    q = record p { position = p.position + 1; held = p.held ++ b ∷ []; character = p.character ++ b ∷ []; character_start = start }

    some_of : IsUnfinished p.character → p.character ≢ []
    some_of u e = omega (arith, u.some, ap length e)

    kind_takes : (u : Unfinished) → HasKind u p s.opened → p.character ≢ [] → TakesCharacters u
    kind_takes Nothing k some = tt
    kind_takes Name k some = tt
    kind_takes Str k some = tt
    kind_takes Comment k some = tt
    kind_takes Integer k some = some k.5
    kind_takes Escape k some = some k.5
    kind_takes Equals k some = some k.2
    kind_takes Minus k some = some k.2
    kind_takes Slash k some = some k.2

    takes : (p.character ≡ []) ⊎ (IsUnfinished p.character × (p.character_start ≡ p.start + length s.opened)) → TakesCharacters p.unfinished
    takes (inl none) = (may none).1
    takes (inr u) = kind_takes p.unfinished s.kind (some_of u.0)

    begins : (p.character ≡ []) ⊎ (IsUnfinished p.character × (p.character_start ≡ p.start + length s.opened)) → start ≡ p.start + length s.opened
    begins (inl none) = let nothing : length p.character ≡ 0 = ap length none in omega (arith, fresh none, s.position, nothing)
    begins (inr u) = kept (some_of u.0) ∙ u.1

    first_high : (l : List ℕ) → 128 ≤ get_or l 0 0 → 128 ≤ get_or (l ++ b ∷ []) 0 0
    first_high [] h = absurd (omega arith)
    first_high (x ∷ l) h = h

    cut : (p.character ≡ []) ⊎ (IsUnfinished p.character × (p.character_start ≡ p.start + length s.opened)) → IsCut (p.character ++ b ∷ [])
    cut (inl none) = record { before = p.character; last = b; split = refl; none = λ c after h e. encode_some c after (sym e ∙ none); high = subst (λ l. 128 ≤ get_or (l ++ b ∷ []) 0 0) (sym none) (may none).0 }
    cut (inr u) = record { before = p.character; last = b; split = refl; none = u.0.none_whole; high = first_high p.character (unfinished_high p.character u.0) }

    kinds : (u : Unfinished) → HasKind u p s.opened → TakesCharacters u → HasKind u q s.opened
    kinds Nothing k t = (k.0, ap (λ l. l ++ b ∷ []) k.1, k.2)
    kinds Name k t = (k.0, ap (λ l. l ++ b ∷ []) k.1 ∙ append_assoc s.opened p.character (b ∷ []), k.2)
    kinds Str k t = (k.0, k.1, k.2, k.3, ap (λ l. l ++ b ∷ []) k.4 ∙ append_assoc s.opened p.character (b ∷ []))
    kinds Comment k t = (k.0, k.1, k.2, k.3, ap (λ l. l ++ b ∷ []) k.4, k.5)
    kinds Integer k t = absurd t
    kinds Escape k t = absurd t
    kinds Equals k t = absurd t
    kinds Minus k t = absurd t
    kinds Slash k t = absurd t

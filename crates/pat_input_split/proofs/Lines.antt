-- Lines cut from bytes, and the place of what is left.
use Rattle.std.proofs.Common.{◌≡◌, ℕ, suc, ◌+◌, ◌-◌, ◌≤◌, ◌<◌, Bool, true, false, ◌==◌, if◌then◌else◌, List, [], ◌∷◌, ◌++◌, length, take, drop, Option, Some, None, option_map, refl, sym, ap, ◌∙◌, subst, arith, length-append, append_assoc}
use Rattle.std.proofs.lemmas.Bool.{eqb-true, cases_Bool}
use Rattle.pat_texts_spec.specs.Joined.{cut}
use Rattle.pat_input_split.specs.Marked.{first_line, line_or_all, Precedes, another_line, IsMarked, IsUnmarked}

-- what is cut is in front of what is left
abbrev IsCut : ℕ → List ℕ → Option (List ℕ × List ℕ) → Type 0
IsCut c bs None = Unit {0}
IsCut c bs (Some r) = bs ≡ r.0 ++ c ∷ r.1

is_cut : (c : ℕ) (bs : List ℕ) → IsCut c bs (cut c bs)
is_cut c [] = tt
is_cut c (b ∷ bs) = go (b == c) refl (cut c bs) (is_cut c bs)
  where
    go : (t : Bool) → (b == c) ≡ t → (o : Option (List ℕ × List ℕ)) → IsCut c bs o → IsCut c (b ∷ bs) (if t then Some ([], bs) else option_map (λ r. (b ∷ r.0, r.1)) o)
    go true same o h = ap (λ x. x ∷ bs) (eqb-true b c same)
    go false other None h = tt
    go false other (Some r) h = ap (λ xs. b ∷ xs) h

pub cut_is : (c : ℕ) (bs line more : List ℕ) → cut c bs ≡ Some (line, more) → bs ≡ line ++ c ∷ more
cut_is c bs line more h = subst (IsCut c bs) h (is_cut c bs)

pub cut_shorter : (c : ℕ) (bs line more : List ℕ) → cut c bs ≡ Some (line, more) → length more < length bs
cut_shorter c bs line more h =
    let long = ap length (cut_is c bs line more h) ∙ length-append line (c ∷ more) in
    omega (arith, long)

-- one line further
pub further : (mark bytes rest line more : List ℕ) → ((front : List ℕ) × Precedes mark bytes front rest × (bytes ≡ front ++ rest)) → cut 10 rest ≡ Some (line, more) → (line ≡ mark → ⊥) → (front : List ℕ) × Precedes mark bytes front more × (bytes ≡ front ++ more)
further mark bytes rest line more (front, before, whole) h other =
    let cut_so : rest ≡ line ++ 10 ∷ more = cut_is 10 rest line more h in (
      front ++ (line ++ 10 ∷ []),
      another_line before h other,
      whole
          ∙ ap (λ r. front ++ r) (cut_so ∙ sym (append_assoc line (10 ∷ []) more))
          ∙ sym (append_assoc front (line ++ 10 ∷ []) more),
    )

-- the place of what is left
place_is : (bytes front rest : List ℕ) → bytes ≡ front ++ rest → length bytes - length rest ≡ length front
place_is bytes front rest whole =
    let long = ap length whole ∙ length-append front rest in
    omega (arith, long)

pub take_front : (front rest : List ℕ) → take (length front) (front ++ rest) ≡ front
take_front [] rest = refl
take_front (b ∷ front) rest = ap (λ bs. b ∷ bs) (take_front front rest)

drop_front : (front rest : List ℕ) → drop (length front) (front ++ rest) ≡ rest
drop_front [] rest = refl
drop_front (b ∷ front) rest = drop_front front rest

pub found : (mark bytes rest : List ℕ) → ((front : List ℕ) × Precedes mark bytes front rest × (bytes ≡ front ++ rest)) → first_line rest ≡ mark → IsMarked mark bytes (take (length bytes - length rest) bytes) (drop (length bytes - length rest) bytes)
found mark bytes rest (front, before, whole) marked =
    let at = place_is bytes front rest whole in
    let own : take (length bytes - length rest) bytes ≡ front = ap (λ n. take n bytes) at ∙ ap (take (length front)) whole ∙ take_front front rest in
    let left : drop (length bytes - length rest) bytes ≡ rest = ap (λ n. drop n bytes) at ∙ ap (drop (length front)) whole ∙ drop_front front rest in
    record {
      before = subst (λ f. Precedes mark bytes f (drop (length bytes - length rest) bytes)) (sym own) (subst (λ t. Precedes mark bytes front t) (sym left) before);
      marked = ap first_line left ∙ marked;
    }

pub first_is : (rest line more : List ℕ) → cut 10 rest ≡ Some (line, more) → first_line rest ≡ line
first_is rest line more h = ap (λ o. line_or_all o rest) h

pub first_all : (rest : List ℕ) → cut 10 rest ≡ None → first_line rest ≡ rest
first_all rest h = ap (λ o. line_or_all o rest) h

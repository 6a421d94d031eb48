-- The names of a resolved program can be told apart, and each is found at its place.
use Rattle.std.proofs.Common.{◌≡◌, ℕ, zero, suc, ◌+◌, ◌/◌, ◌%◌, ◌<◌, ◌≤◌, ◌==◌, Bool, true, false, List, [], ◌∷◌, ◌++◌, length, map, refl, sym, ap, ◌∙◌, subst, arith, ◌||◌}
use Rattle.std.specs.Prelude.{Option, Some, None, option_map, bytes_eq, slice_get, slice_index_or, not, cond, nat_lt, encode_utf8_all, ◌&&◌}
use Rattle.std.specs.List.{list_all, AllByRecursion, IsDistinct}
use Rattle.std.specs.Char.{encode_utf8, is_ascii_alphabetic, is_ascii_alphanumeric}
use Rattle.std.proofs.lemmas.Bool.{and_parts, and_from, eqb-true, ne_eqb}
use Rattle.std.proofs.lemmas.List.{length-map}
use Rattle.std.proofs.lemmas.Slice.Eq.{bytes_eq-Decides}
use Rattle.std.proofs.lemmas.Map.Keys.{IsDistinct-head, IsDistinct-tail}
use Rattle.unicode_ident.specs.Ident.{is_xid_start}
use Rattle.unicode_ident.proofs.IdentLemmas.{is_xid_start-ascii, is_xid_continue-ascii, is_xid_start-is_xid_continue}
use Rattle.pat_lexer_spec.specs.Characters.{starts_name, continues_name, Each, IsNameText}
use Rattle.pat_lexer_spec.specs.Spelled.{IsName}
use Rattle.pat_semantics_spec.specs.Programs.{Interface, Program}
use Rattle.pat_semantics_spec.specs.WellFormed.{InterfaceFits, WellFormed}
use Rattle.pat_resolver_spec.specs.Resolved.{InterfaceIsNamed, IsNamed}
use Rattle.pat_derivation_text_spec.specs.patterns.PatternText.{is_mark, is_plain_name}
use Rattle.pat_derivation_text_spec.specs.patterns.PatternReading.{place_of}
use Rattle.pat_derivation_text_laws.specs.patterns.Laws.{AreNames}
use Rattle.pat_texts_spec.proofs.Choices.{passed, skipped}
use Rattle.pat_derivation_text_spec.specs.DerivationText.{interface_name, tags_named, tag_names}
use Rattle.pat_derivation_text_spec.specs.LineReading.{found as found_in}
use Rattle.pat_texts_spec.proofs.CutAgain.{all_weaker, all_append}
use Rattle.pat_derivation_text_laws.proofs.TypesRead.{is_inner, is_apart, apart_inner, NamesFit}

-- ---- bytes

-- a byte that may stand in a name
abbrev is_named : ℕ → Bool
is_named b = is_apart b && not (is_mark b)

-- it is none that separates or marks
differs : (b : ℕ) → ((c : ℕ) → c < 128 → (is_ascii_alphanumeric c || (c == 95)) ≡ false → b ≡ c → ⊥) → is_named b ≡ true
differs b d =
    rw (ne_eqb b 10 (d 10 (omega arith) refl), ne_eqb b 44 (d 44 (omega arith) refl), ne_eqb b 64 (d 64 (omega arith) refl), ne_eqb b 123 (d 123 (omega arith) refl), ne_eqb b 125 (d 125 (omega arith) refl), ne_eqb b 32 (d 32 (omega arith) refl), ne_eqb b 33 (d 33 (omega arith) refl), ne_eqb b 63 (d 63 (omega arith) refl), ne_eqb b 40 (d 40 (omega arith) refl), ne_eqb b 41 (d 41 (omega arith) refl), ne_eqb b 42 (d 42 (omega arith) refl), ne_eqb b 46 (d 46 (omega arith) refl)) refl

high_named : (b : ℕ) → 128 ≤ b → is_named b ≡ true
high_named b h = differs b (λ c low none same. omega (arith, h, low, same))

clash : (t : Bool) → t ≡ true → t ≡ false → ⊥
clash true a b = cc
clash false a b = cc

low_named : (b : ℕ) → continues_name b ≡ true → is_named b ≡ true
low_named b h = differs b (λ c low none same. clash (continues_name c) (ap continues_name (sym same) ∙ h) (is_xid_continue-ascii c low ∙ none))

char_named : (c : ℕ) → continues_name c ≡ true → list_all is_named (encode_utf8 c) ≡ true
unfolding encode_utf8
char_named c h = by (nat_lt c 128) (nat_lt c 2048) (nat_lt c 65536)
  where
    next : (bits : ℕ) → is_named (128 + bits % 64) ≡ true
    next bits = high_named (128 + bits % 64) (omega arith)

    head : (base n : ℕ) → 128 ≤ base → is_named (base + n) ≡ true
    head base n l = high_named (base + n) (omega (arith, l))

    by : (x y z : Bool) → list_all is_named (cond x (c ∷ []) (cond y ((192 + c / 64) ∷ (128 + c % 64) ∷ []) (cond z ((224 + c / 4096) ∷ (128 + (c / 64) % 64) ∷ (128 + c % 64) ∷ []) ((240 + c / 262144) ∷ (128 + (c / 4096) % 64) ∷ (128 + (c / 64) % 64) ∷ (128 + c % 64) ∷ [])))) ≡ true
    by true y z = rw (low_named c h) refl
    by false true z = rw (head 192 (c / 64) (omega arith), next c) refl
    by false false true = rw (head 224 (c / 4096) (omega arith), next (c / 64), next c) refl
    by false false false = rw (head 240 (c / 262144) (omega arith), next (c / 4096), next (c / 64), next c) refl

chars_named : (cs : List ℕ) → Each continues_name cs → list_all is_named (encode_utf8_all cs) ≡ true
chars_named [] h = refl
chars_named (c ∷ cs) h = all_append is_named (encode_utf8 c) (encode_utf8_all cs) (char_named c h.0) (chars_named cs h.1)

start_continues : (c : ℕ) → starts_name c ≡ true → continues_name c ≡ true
start_continues c s = by (is_xid_start c) refl s
  where
    by : (t : Bool) → is_xid_start c ≡ t → (t || (c == 95)) ≡ true → continues_name c ≡ true
    by true e s = is_xid_start-is_xid_continue c e
    by false e s = subst (λ x. continues_name x ≡ true) (sym (eqb-true c 95 s)) (is_xid_continue-ascii 95 (omega arith))

-- the first byte begins no number and no variable
abbrev front_is_plain : List ℕ → Bool
front_is_plain [] = false
front_is_plain (b ∷ bs) = not (b == 48 || (b == 49 || b == 36))

plain_front : (c : ℕ) (rest : List ℕ) → starts_name c ≡ true → front_is_plain (encode_utf8 c ++ rest) ≡ true
unfolding encode_utf8
plain_front c rest s = by (nat_lt c 128) (nat_lt c 2048) (nat_lt c 65536)
  where
    no_start : (d : ℕ) → d < 128 → (is_ascii_alphabetic d || (d == 95)) ≡ false → c ≡ d → ⊥
    no_start d low none same = clash (starts_name d) (ap starts_name (sym same) ∙ s) (ap (λ t. t || (d == 95)) (is_xid_start-ascii d low) ∙ none)

    high : (b : ℕ) → 128 ≤ b → not (b == 48 || (b == 49 || b == 36)) ≡ true
    high b l = rw (ne_eqb b 48 (λ z. omega (arith, z, l)), ne_eqb b 49 (λ z. omega (arith, z, l)), ne_eqb b 36 (λ z. omega (arith, z, l))) refl

    by : (x y z : Bool) → front_is_plain (cond x (c ∷ []) (cond y ((192 + c / 64) ∷ (128 + c % 64) ∷ []) (cond z ((224 + c / 4096) ∷ (128 + (c / 64) % 64) ∷ (128 + c % 64) ∷ []) ((240 + c / 262144) ∷ (128 + (c / 4096) % 64) ∷ (128 + (c / 64) % 64) ∷ (128 + c % 64) ∷ []))) ++ rest) ≡ true
    by true y z = rw (ne_eqb c 48 (no_start 48 (omega arith) refl), ne_eqb c 49 (no_start 49 (omega arith) refl), ne_eqb c 36 (no_start 36 (omega arith) refl)) refl
    by false true z = high (192 + c / 64) (omega arith)
    by false false true = high (224 + c / 4096) (omega arith)
    by false false false = high (240 + c / 262144) (omega arith)

record Named (x : List ℕ) : Type 0 where
  bytes : list_all is_named x ≡ true
  front : front_is_plain x ≡ true

text_named : (x : List ℕ) → IsNameText x → Named x
text_named x t =
    let own : Named (encode_utf8_all (t.first ∷ t.others)) = record { bytes = chars_named (t.first ∷ t.others) (start_continues t.first t.starts, t.continues); front = plain_front t.first (encode_utf8_all t.others) t.starts } in
    subst Named (sym t.spelled) own

name_named : (x : List ℕ) → IsName x → Named x
name_named x (own, rest, s) = subst Named (sym s.0) (text_named own s.1)

name_apart : (x : List ℕ) → IsName x → list_all is_apart x ≡ true
name_apart x i = all_weaker is_named is_apart (λ b h. (and_parts (is_apart b) (not (is_mark b)) h).0) x (name_named x i).bytes

name_plain : (x : List ℕ) → IsName x → is_plain_name x ≡ true
name_plain x i = by x (name_named x i)
  where
    by : (x : List ℕ) → Named x → is_plain_name x ≡ true
    by [] n = let f = n.front in absurd (clash false f refl)
    by (b ∷ bs) n = and_from (not (b == 48 || (b == 49 || b == 36))) (list_all (λ c. not (is_mark c)) (b ∷ bs)) n.front (all_weaker is_named (λ c. not (is_mark c)) (λ c h. (and_parts (is_apart c) (not (is_mark c)) h).1) (b ∷ bs) n.bytes)

-- ---- places

nth_all : (P : List ℕ → Type 0) (xs : List (List ℕ)) (k : ℕ) → AllByRecursion P xs → k < length xs → P (slice_index_or xs k [])
nth_all P [] k a l = absurd (omega (arith, l))
nth_all P (x ∷ xs) zero a l = a.0
nth_all P (x ∷ xs) (suc k) a l = nth_all P xs k a.1 (omega (arith, l))

map_all : {X : Type 0} (P : List ℕ → Type 0) (Q : X → Type 0) (f : X → List ℕ) → ((x : X) → Q x → P (f x)) → (xs : List X) → AllByRecursion Q xs → AllByRecursion P (map f xs)
map_all P Q f h [] a = tt
map_all P Q f h (x ∷ xs) a = (h x a.0, map_all P Q f h xs a.1)

all_true : (P : List ℕ → Type 0) (b : List ℕ → Bool) → ((x : List ℕ) → P x → b x ≡ true) → (xs : List (List ℕ)) → AllByRecursion P xs → list_all b xs ≡ true
all_true P b h [] a = refl
all_true P b h (x ∷ xs) a = and_from (b x) (list_all b xs) (h x a.0) (all_true P b h xs a.1)

place_found : (xs : List (List ℕ)) → IsDistinct bytes_eq xs → (k : ℕ) → k < length xs → place_of (slice_index_or xs k []) xs ≡ Some k
place_found [] d k l = absurd (omega (arith, l))
place_found (x ∷ xs) d zero l = passed (bytes_eq x x) (Some zero) (option_map suc (place_of x xs)) ((bytes_eq-Decides x x).1 refl)
place_found (x ∷ xs) d (suc k) l =
    let y = slice_index_or xs k [] in
    let near : k < length xs = omega (arith, l) in
    skipped (bytes_eq x y) (Some zero) (option_map suc (place_of y xs)) (nth_all (λ y. bytes_eq x y ≡ false) xs k (IsDistinct-head bytes_eq x xs d) near)
    ∙ ap (option_map suc) (place_found xs (IsDistinct-tail bytes_eq x xs d) k near)

abbrev deeper : ℕ × List (List ℕ) → ℕ × List (List ℕ)
deeper r = (suc r.0, r.1)

interface_found : (is : List Interface) → IsDistinct bytes_eq (map (λ i. i.name) is) → (k : ℕ) → k < length is → found_in (slice_index_or (map (λ i. i.name) is) k []) is ≡ Some (k, tags_named (slice_get is k))
interface_found [] d k l = absurd (omega (arith, l))
interface_found (i ∷ is) d zero l =
    let own : Option (ℕ × List (List ℕ)) = Some (zero, map (λ t. t.name) i.tags) in
    passed (bytes_eq i.name i.name) own (option_map deeper (found_in i.name is)) ((bytes_eq-Decides i.name i.name).1 refl)
interface_found (i ∷ is) d (suc k) l =
    let own : Option (ℕ × List (List ℕ)) = Some (zero, map (λ t. t.name) i.tags) in
    let y = slice_index_or (map (λ i. i.name) is) k [] in
    let near : k < length is = omega (arith, l) in
    skipped (bytes_eq i.name y) own (option_map deeper (found_in y is)) (nth_all (λ y. bytes_eq i.name y ≡ false) (map (λ i. i.name) is) k (IsDistinct-head bytes_eq i.name (map (λ i. i.name) is) d) (omega (arith, near, length-map is (λ i. i.name))))
    ∙ ap (option_map deeper) (interface_found is (IsDistinct-tail bytes_eq i.name (map (λ i. i.name) is) d) k near)

-- ---- the program

abbrev IfThere : (Interface → Type 0) → Option Interface → Type 0
IfThere P None = Unit {0}
IfThere P (Some i) = P i

there_all : (P : Interface → Type 0) (is : List Interface) → AllByRecursion P is → (k : ℕ) → IfThere P (slice_get is k)
there_all P [] a k = tt
there_all P (i ∷ is) a zero = a.0
there_all P (i ∷ is) a (suc k) = there_all P is a.1 k

-- the names of an interface's tags
record Tags (names : List (List ℕ)) : Type 0 where
  are_names : AreNames names
  inner : list_all (list_all is_inner) names ≡ true
  few : length names ≤ 32

tags_fit : (p : Program) (o : Option Interface) → IfThere (InterfaceFits p) o → IfThere InterfaceIsNamed o → Tags (tags_named o)
tags_fit p None f n = record { are_names = record { plain = λ k l. absurd (omega (arith, l)); found = λ k l. absurd (omega (arith, l)); few = omega arith }; inner = refl; few = omega arith }
tags_fit p (Some i) f n =
    let names = map (λ t. t.name) i.tags in
    let long : length names ≡ length i.tags = length-map i.tags (λ t. t.name) in
    let all = map_all IsName (λ t. IsName t.name) (λ t. t.name) (λ t h. h) i.tags n.tags in
    record {
      are_names = record { plain = λ k l. name_plain (slice_index_or names k []) (nth_all IsName names k all l); found = place_found names f.names; few = omega (arith, long, f.few) };
      inner = all_true IsName (list_all is_inner) (λ x h. apart_inner x (name_apart x h)) names all;
      few = omega (arith, long, f.few);
    }

pub names_fit : (p : Program) → WellFormed p → IsNamed p → NamesFit p
names_fit p w n =
    let tags : (k : ℕ) → Tags (tag_names p k) = λ k. tags_fit p (slice_get p.interfaces k) (there_all (InterfaceFits p) p.interfaces w.interfaces k) (there_all InterfaceIsNamed p.interfaces n.interfaces k) in
    let names = map_all IsName InterfaceIsNamed (λ i. i.name) (λ i h. h.name) p.interfaces n.interfaces in
    record {
      found_at = interface_found p.interfaces w.interface_names;
      apart = λ k l. name_apart (interface_name p k) (nth_all IsName (map (λ i. i.name) p.interfaces) k names (omega (arith, l, length-map p.interfaces (λ i. i.name))));
      tags = λ k. (tags k).are_names;
      inner = λ k. (tags k).inner;
      few = λ k. (tags k).few;
    }

-- an interface that is there has a tag
pub have_tags : (p : Program) (is : List Interface) → AllByRecursion (InterfaceFits p) is → (k : ℕ) → k < length is → 0 < length (tags_named (slice_get is k))
have_tags p [] a k l = absurd (omega (arith, l))
have_tags p (i ∷ is) a zero l = let some = a.0.some in omega (arith, some, length-map i.tags (λ t. t.name))
have_tags p (i ∷ is) a (suc k) l = have_tags p is a.1 k (omega (arith, l))

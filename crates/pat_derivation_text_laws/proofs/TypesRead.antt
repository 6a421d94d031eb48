-- The text of a type, and of the types of variables, is read as it.
use Rattle.std.proofs.Common.{◌≡◌, ℕ, zero, suc, ◌-◌, ◌<◌, ◌≤◌, ◌==◌, Bool, true, false, List, [], ◌∷◌, ◌++◌, length, map, take, drop, refl, sym, ap, ◌∙◌, arith, if◌then◌else◌}
use Rattle.std.specs.Prelude.{Option, Some, None, option_map, option_and_then, bytes_eq, slice_get, slice_index_or, codes, not, nat_le, nat_lt, ◌&&◌}
use Rattle.std.specs.List.{list_all, flat_map}
use Rattle.std.specs.Fmt.{decimal}
use Rattle.std.proofs.Math.Seq.{drop-append_seam}
use Rattle.std.proofs.lemmas.Bool.{and_parts, and_from, leb-true, ltb-true, ne_eqb}
use Rattle.std.proofs.lemmas.List.{length-append, length-map}
use Rattle.std.proofs.lemmas.Slice.Eq.{bytes_eq-Decides}
use Rattle.pat_words_spec.specs.Patterns.{Pat, Zero, One, Tag, Sum, Prod, Star, Var}
use Rattle.pat_words_spec.specs.Tags.{tags_below}
use Rattle.pat_semantics_spec.specs.Values.{BaseUnit, BaseBool, BaseInt, BaseText}
use Rattle.pat_semantics_spec.specs.Programs.{Polarity, Sending, Receiving, Interface, Program}
use Rattle.pat_type_system_spec.specs.Types.{Usage, Second, Returnable, MailboxType, mailbox_type, TypeOf, BaseTerm, MailboxTerm}
use Rattle.pat_type_schemes_spec.specs.NodeTypes.{Needs}
use Rattle.pat_derivation_spec.specs.Derivations.{Derivation, ascends_from, tag_count, scope_of}
use Rattle.pat_derivation_spec.specs.Spelled.{spells_pattern, spells_type, spells_named, is_number, has_numbers, is_shallow}
use Rattle.pat_derivation_text_spec.specs.patterns.PatternText.{pat_text, enclosed, is_sum, is_sum_or_product, is_readable}
use Rattle.pat_derivation_text_laws.specs.patterns.Laws.{AreNames, PatternIsRead}
use Rattle.pat_texts_spec.proofs.Choices.{passed, skipped, negated}
use Rattle.pat_texts_spec.proofs.Decimals.{number_read}
use Rattle.pat_texts_spec.specs.Joined.{cut, read_each, before}
use Rattle.pat_derivation_text_spec.specs.DerivationText.{interface_name, tags_named, tag_names, polarity_mark, mailbox_text, type_text, usage_word, named_text, needs_text}
use Rattle.pat_derivation_text_spec.specs.LineReading.{cut_polarity, found, mailbox_in, mailbox_of, read_mailbox, read_base, type_by, read_type, usage_by, cut_usage, used_mailbox, read_used, named_in, named_of, read_named, read_next, read_all, if_ascending, read_needs}
use Rattle.pat_texts_spec.proofs.CutAgain.{lacks, within, cut_at, pieces_joined, before_at, behind_at, each_read, all_texts, all_weaker, all_append, all_broken, lacks_higher}
use Rattle.pat_derivation_text_laws.proofs.CertsRead.{number_within}

-- ---- bytes

-- no newline, comma, at sign or curly bracket
abbrev pub is_inner : ℕ → Bool
is_inner b = not (b == 10) && (not (b == 44) && (not (b == 64) && (not (b == 123) && not (b == 125))))

-- and no space or mark of a polarity
abbrev pub is_apart : ℕ → Bool
is_apart b = is_inner b && (not (b == 32) && (not (b == 33) && not (b == 63)))

-- the names of interfaces and of tags can be told apart from what stands around them, and each is found at its place
pub record NamesFit (p : Program) : Type 0 where
  pub found_at : (k : ℕ) → k < length p.interfaces → found (interface_name p k) p.interfaces ≡ Some (k, tag_names p k)
  pub apart : (k : ℕ) → k < length p.interfaces → list_all is_apart (interface_name p k) ≡ true
  pub tags : (k : ℕ) → AreNames (tag_names p k)
  pub inner : (k : ℕ) → list_all (list_all is_inner) (tag_names p k) ≡ true
  pub few : (k : ℕ) → length (tag_names p k) ≤ 32

record Inner (b : ℕ) : Type 0 where
  newline : not (b == 10) ≡ true
  comma : not (b == 44) ≡ true
  at_sign : not (b == 64) ≡ true
  opens : not (b == 123) ≡ true
  closes : not (b == 125) ≡ true

inner_parts : (b : ℕ) → is_inner b ≡ true → Inner b
inner_parts b h =
    let k = and_parts (not (b == 10)) (not (b == 44) && (not (b == 64) && (not (b == 123) && not (b == 125)))) h in
    let l = and_parts (not (b == 44)) (not (b == 64) && (not (b == 123) && not (b == 125))) k.1 in
    let m = and_parts (not (b == 64)) (not (b == 123) && not (b == 125)) l.1 in
    let n = and_parts (not (b == 123)) (not (b == 125)) m.1 in
    record { newline = k.0; comma = l.0; at_sign = m.0; opens = n.0; closes = n.1 }

pub inner_newline : (w : List ℕ) → list_all is_inner w ≡ true → lacks 10 w ≡ true
inner_newline w h = all_weaker is_inner (λ b. not (b == 10)) (λ b i. (inner_parts b i).newline) w h

pub inner_comma : (w : List ℕ) → list_all is_inner w ≡ true → lacks 44 w ≡ true
inner_comma w h = all_weaker is_inner (λ b. not (b == 44)) (λ b i. (inner_parts b i).comma) w h

pub inner_at : (w : List ℕ) → list_all is_inner w ≡ true → lacks 64 w ≡ true
inner_at w h = all_weaker is_inner (λ b. not (b == 64)) (λ b i. (inner_parts b i).at_sign) w h

pub inner_opens : (w : List ℕ) → list_all is_inner w ≡ true → lacks 123 w ≡ true
inner_opens w h = all_weaker is_inner (λ b. not (b == 123)) (λ b i. (inner_parts b i).opens) w h

pub inner_closes : (w : List ℕ) → list_all is_inner w ≡ true → lacks 125 w ≡ true
inner_closes w h = all_weaker is_inner (λ b. not (b == 125)) (λ b i. (inner_parts b i).closes) w h

pub apart_inner : (w : List ℕ) → list_all is_apart w ≡ true → list_all is_inner w ≡ true
apart_inner w h = all_weaker is_apart is_inner (λ b i. (and_parts (is_inner b) (not (b == 32) && (not (b == 33) && not (b == 63))) i).0) w h

pub apart_space : (w : List ℕ) → list_all is_apart w ≡ true → lacks 32 w ≡ true
apart_space w h = all_weaker is_apart (λ b. not (b == 32)) by w h
  where
    by : (b : ℕ) → is_apart b ≡ true → not (b == 32) ≡ true
    by b i = (and_parts (not (b == 32)) (not (b == 33) && not (b == 63)) (and_parts (is_inner b) (not (b == 32) && (not (b == 33) && not (b == 63))) i).1).0

-- no mark of a polarity
abbrev is_unmarked : ℕ → Bool
is_unmarked b = not (b == 33) && not (b == 63)

apart_unmarked : (w : List ℕ) → list_all is_apart w ≡ true → list_all is_unmarked w ≡ true
apart_unmarked w h = all_weaker is_apart is_unmarked by w h
  where
    by : (b : ℕ) → is_apart b ≡ true → is_unmarked b ≡ true
    by b i = (and_parts (not (b == 32)) (is_unmarked b) (and_parts (is_inner b) (not (b == 32) && (not (b == 33) && not (b == 63))) i).1).1

pub digits_inner : (w : List ℕ) → list_all (within 48 57) w ≡ true → list_all is_inner w ≡ true
digits_inner w h = all_weaker (within 48 57) is_inner by w h
  where
    by : (b : ℕ) → within 48 57 b ≡ true → is_inner b ≡ true
    by b t =
        let k = and_parts (nat_le 48 b) (nat_le b 57) t in
        let low = leb-true 48 b k.0 in
        let high = leb-true b 57 k.1 in
        rw (ne_eqb b 10 (λ z. omega (arith, z, low)), ne_eqb b 44 (λ z. omega (arith, z, low)), ne_eqb b 64 (λ z. omega (arith, z, high)), ne_eqb b 123 (λ z. omega (arith, z, high)), ne_eqb b 125 (λ z. omega (arith, z, high))) refl

-- ---- patterns

pub name_inner : (names : List (List ℕ)) (k : ℕ) → list_all (list_all is_inner) names ≡ true → list_all is_inner (slice_index_or names k []) ≡ true
name_inner [] k h = refl
name_inner (x ∷ xs) zero h = (and_parts (list_all is_inner x) (list_all (list_all is_inner) xs) h).0
name_inner (x ∷ xs) (suc k) h = name_inner xs k (and_parts (list_all is_inner x) (list_all (list_all is_inner) xs) h).1

enclosed_inner : (c : Bool) (w : List ℕ) → list_all is_inner w ≡ true → list_all is_inner (enclosed c w) ≡ true
enclosed_inner true w h = all_append is_inner w (41 ∷ []) h refl
enclosed_inner false w h = all_append is_inner w [] h refl

pub pattern_inner : (names : List (List ℕ)) → list_all (list_all is_inner) names ≡ true → (e : Pat) → has_numbers e ≡ true → list_all is_inner (pat_text names e) ≡ true
pattern_inner names n Zero h = refl
pattern_inner names n One h = refl
pattern_inner names n (Tag m) h = name_inner names m n
pattern_inner names n (Var k) h = digits_inner (decimal k) (number_within k h)
pattern_inner names n (Star e) h = enclosed_inner (is_sum_or_product e) (pat_text names e) (pattern_inner names n e h)
pattern_inner names n (Sum e f) h =
    let k = and_parts (has_numbers e) (has_numbers f) h in
    all_append is_inner (pat_text names e) (32 ∷ 43 ∷ 32 ∷ enclosed (is_sum f) (pat_text names f)) (pattern_inner names n e k.0) (enclosed_inner (is_sum f) (pat_text names f) (pattern_inner names n f k.1))
pattern_inner names n (Prod e f) h =
    let k = and_parts (has_numbers e) (has_numbers f) h in
    all_append is_inner (enclosed (is_sum e) (pat_text names e)) (46 ∷ enclosed (is_sum_or_product f) (pat_text names f)) (enclosed_inner (is_sum e) (pat_text names e) (pattern_inner names n e k.0)) (enclosed_inner (is_sum_or_product f) (pat_text names f) (pattern_inner names n f k.1))

pub count_is : (o : Option Interface) → tag_count o ≡ length (tags_named o)
count_is None = refl
count_is (Some i) = sym (length-map i.tags (λ t. t.name))

-- a pattern of an interface that is there
pub record Fits (p : Program) (i : ℕ) (e : Pat) : Type 0 where
  pub there : i < length p.interfaces
  pub numbers : has_numbers e ≡ true
  pub readable : is_readable (length (tag_names p i)) e ≡ true

pub pattern_fits : (p : Program) (d : Derivation) (i : ℕ) (e : Pat) → spells_pattern p d i e ≡ true → Fits p i e
pattern_fits p d i e h =
    let k = and_parts (nat_lt i (length p.interfaces)) (tags_below ((scope_of p d).tags i) e && (has_numbers e && is_shallow e)) h in
    let m = and_parts (tags_below ((scope_of p d).tags i) e) (has_numbers e && is_shallow e) k.1 in
    let n = and_parts (has_numbers e) (is_shallow e) m.1 in
    let tags : tags_below (length (tag_names p i)) e ≡ true = ap (λ j. tags_below j e) (sym (count_is (slice_get p.interfaces i))) ∙ m.0 in
    record {
      there = ltb-true i (length p.interfaces) k.0;
      numbers = n.0;
      readable = and_from (tags_below (length (tag_names p i)) e) (has_numbers e && is_shallow e) tags (and_from (has_numbers e) (is_shallow e) n.0 n.1);
    }

-- ---- types

polarity_at : (w r : List ℕ) (q : Polarity) → list_all is_unmarked w ≡ true → cut_polarity (w ++ polarity_mark q ∷ r) ≡ Some (w, q, r)
polarity_at [] r Sending h = refl
polarity_at [] r Receiving h = refl
polarity_at (b ∷ w) r q h =
    let k = and_parts (is_unmarked b) (list_all is_unmarked w) h in
    let m = and_parts (not (b == 33)) (not (b == 63)) k.0 in
    let bs = w ++ polarity_mark q ∷ r in
    let sends : Option (List ℕ × Polarity × List ℕ) = Some ([], Sending, bs) in
    let receives : Option (List ℕ × Polarity × List ℕ) = Some ([], Receiving, bs) in
    let deeper = option_map (λ s. (b ∷ s.0, s.1, s.2)) (cut_polarity bs) in
    skipped (b == 33) sends (if b == 63 then receives else deeper) (negated (b == 33) m.0)
    ∙ skipped (b == 63) receives deeper (negated (b == 63) m.1)
    ∙ ap (option_map (λ s. (b ∷ s.0, s.1, s.2))) (polarity_at w r q k.1)

no_base : (bytes : List ℕ) → list_all is_unmarked bytes ≡ false → read_base bytes ≡ None
no_base bytes marked = rw (differs (codes "Unit") refl, differs (codes "Bool") refl, differs (codes "Int") refl, differs (codes "String") refl) refl
  where
    clash : (t : Bool) → t ≡ true → t ≡ false → ⊥
    clash true a b = cc
    clash false a b = cc

    differs : (w : List ℕ) → list_all is_unmarked w ≡ true → bytes_eq bytes w ≡ false
    differs w u = by (bytes_eq bytes w) refl
      where
        by : (t : Bool) → bytes_eq bytes w ≡ t → t ≡ false
        by false e = refl
        by true e = absurd (clash (list_all is_unmarked bytes) (ap (list_all is_unmarked) ((bytes_eq-Decides bytes w).0 e) ∙ u) marked)

before_other : (own other front : List ℕ) → length own ≡ length other → bytes_eq other own ≡ false → before own (front ++ other) ≡ None
before_other own other front same e =
    let n = length (front ++ other) - length own in
    let at : n ≡ length front = omega (arith, length-append front other, same) in
    let there : drop n (front ++ other) ≡ other = ap (λ k. drop k (front ++ other)) at ∙ drop-append_seam front other in
    skipped (bytes_eq (drop n (front ++ other)) own) (Some (take n (front ++ other))) None (ap (λ l. bytes_eq l own) there ∙ e)

usage_at : (front : List ℕ) (u : Usage) → cut_usage (front ++ usage_word u) ≡ Some (front, u)
usage_at front Second = ap (usage_by (front ++ codes " sec")) (before_at (codes " sec") front)
usage_at front Returnable =
    ap (usage_by (front ++ codes " ret")) (before_other (codes " sec") (codes " ret") front refl refl)
    ∙ ap (option_map (λ f. (f, Returnable))) (before_at (codes " ret") front)

module _ (pattern_read : PatternIsRead) (p : Program) (n : NamesFit p) where
  mailbox_read : (i : ℕ) (q : Polarity) (e : Pat) → Fits p i e → read_mailbox p (mailbox_text p i q e) ≡ Some (i, q, e)
  mailbox_read i q e f =
      let text = pat_text (tag_names p i) e in
      ap (option_and_then (mailbox_of p)) (polarity_at (interface_name p i) text q (apart_unmarked (interface_name p i) (n.apart i f.there)))
      ∙ ap (option_and_then (mailbox_in q text)) (n.found_at i f.there)
      ∙ ap (option_map (λ o. (i, q, o))) (pattern_read (tag_names p i) (n.tags i) e f.readable)

  mark_inner : (q : Polarity) → is_inner (polarity_mark q) ≡ true
  mark_inner Sending = refl
  mark_inner Receiving = refl

  mark_marked : (q : Polarity) → is_unmarked (polarity_mark q) ≡ false
  mark_marked Sending = refl
  mark_marked Receiving = refl

  mailbox_inner : (i : ℕ) (q : Polarity) (e : Pat) → Fits p i e → list_all is_inner (mailbox_text p i q e) ≡ true
  mailbox_inner i q e f =
      let text = pat_text (tag_names p i) e in
      all_append is_inner (interface_name p i) (polarity_mark q ∷ text) (apart_inner (interface_name p i) (n.apart i f.there)) (and_from (is_inner (polarity_mark q)) (list_all is_inner text) (mark_inner q) (pattern_inner (tag_names p i) (n.inner i) e f.numbers))

  pub type_read : (d : Derivation) (t : TypeOf) → spells_type p d t ≡ true → read_type p (type_text p t) ≡ Some t
  type_read d (BaseTerm BaseUnit) h = refl
  type_read d (BaseTerm BaseBool) h = refl
  type_read d (BaseTerm BaseInt) h = refl
  type_read d (BaseTerm BaseText) h = refl
  type_read d (MailboxTerm i q e) h =
      let f = pattern_fits p d i e h in
      let text = mailbox_text p i q e in
      ap (type_by p text) (no_base text (all_broken is_unmarked (interface_name p i) (polarity_mark q) (pat_text (tag_names p i) e) (mark_marked q)))
      ∙ ap (option_map (λ r. MailboxTerm r.0 r.1 r.2)) (mailbox_read i q e f)

  pub type_inner : (d : Derivation) (t : TypeOf) → spells_type p d t ≡ true → list_all is_inner (type_text p t) ≡ true
  type_inner d (BaseTerm BaseUnit) h = refl
  type_inner d (BaseTerm BaseBool) h = refl
  type_inner d (BaseTerm BaseInt) h = refl
  type_inner d (BaseTerm BaseText) h = refl
  type_inner d (MailboxTerm i q e) h = mailbox_inner i q e (pattern_fits p d i e h)

  used_read : (a : MailboxType) → Fits p a.interface a.pattern → read_used p (32 ∷ (mailbox_text p a.interface a.polarity a.pattern ++ usage_word a.usage)) ≡ Some a
  used_read a f =
      let text = mailbox_text p a.interface a.polarity a.pattern in
      ap (option_and_then (λ more. option_and_then (used_mailbox p) (cut_usage more))) (behind_at (32 ∷ []) (text ++ usage_word a.usage))
      ∙ ap (option_and_then (used_mailbox p)) (usage_at text a.usage)
      ∙ ap (option_map (λ m. mailbox_type m.0 m.1 m.2 a.usage)) (mailbox_read a.interface a.polarity a.pattern f)

  named_read : (d : Derivation) (e : ℕ × MailboxType) → spells_named p d e ≡ true → read_named p (named_text p e) ≡ Some e
  named_read d e h =
      let k = and_parts (is_number e.0) (spells_pattern p d e.1.interface e.1.pattern) h in
      let more = 32 ∷ (mailbox_text p e.1.interface e.1.polarity e.1.pattern ++ usage_word e.1.usage) in
      ap (option_and_then (λ m. option_and_then (named_of p) (cut 58 m))) (behind_at (118 ∷ []) (decimal e.0 ++ 58 ∷ more))
      ∙ ap (option_and_then (named_of p)) (cut_at 58 (decimal e.0) more (lacks_higher 48 57 58 (omega arith) (decimal e.0) (number_within e.0 k.0)))
      ∙ ap (option_and_then (named_in p more)) (number_read e.0 k.0)
      ∙ ap (option_map (λ a. (e.0, a))) (used_read e.1 (pattern_fits p d e.1.interface e.1.pattern k.1))

  usage_inner : (u : Usage) → list_all is_inner (usage_word u) ≡ true
  usage_inner Second = refl
  usage_inner Returnable = refl

  named_inner : (d : Derivation) (e : ℕ × MailboxType) → spells_named p d e ≡ true → list_all is_inner (named_text p e) ≡ true
  named_inner d e h =
      let k = and_parts (is_number e.0) (spells_pattern p d e.1.interface e.1.pattern) h in
      let text = mailbox_text p e.1.interface e.1.polarity e.1.pattern in
      all_append is_inner (decimal e.0) (58 ∷ 32 ∷ (text ++ usage_word e.1.usage)) (digits_inner (decimal e.0) (number_within e.0 k.0))
      (all_append is_inner text (usage_word e.1.usage) (mailbox_inner e.1.interface e.1.polarity e.1.pattern (pattern_fits p d e.1.interface e.1.pattern k.1)) (usage_inner e.1.usage))

  next_read : (d : Derivation) (e : ℕ × MailboxType) → spells_named p d e ≡ true → read_next p (32 ∷ named_text p e) ≡ Some e
  next_read d e h = ap (option_and_then (read_named p)) (behind_at (32 ∷ []) (named_text p e)) ∙ named_read d e h

  pub needs_read : (d : Derivation) (es : Needs) → ascends_from 0 es ≡ true → list_all (spells_named p d) es ≡ true → read_needs p (needs_text p es) ≡ Some es
  needs_read d [] a h = refl
  needs_read d (e ∷ es) a h =
      let k = and_parts (spells_named p d e) (list_all (spells_named p d) es) h in
      let spaced : ℕ × MailboxType → List ℕ = λ f. 32 ∷ named_text p f in
      let apart : list_all (lacks 44) (named_text p e ∷ map spaced es) ≡ true = and_from (lacks 44 (named_text p e)) (list_all (lacks 44) (map spaced es)) (inner_comma (named_text p e) (named_inner d e k.0)) (all_texts (lacks 44) spaced (spells_named p d) (λ f g. inner_comma (named_text p f) (named_inner d f g)) es k.1) in
      ap (λ l. option_and_then if_ascending (read_all p l)) (pieces_joined 44 (named_text p e) (map spaced es) apart)
      ∙ ap (λ o. option_and_then if_ascending (option_and_then (λ b. option_map (λ more. b ∷ more) (read_each (read_next p) (map spaced es))) o)) (named_read d e k.0)
      ∙ ap (λ o. option_and_then if_ascending (option_map (λ more. e ∷ more) o)) (each_read (read_next p) spaced (spells_named p d) (next_read d) es k.1)
      ∙ passed (ascends_from 0 (e ∷ es)) (Some (e ∷ es)) None a

  behind_commas : (d : Derivation) (es : Needs) → list_all (spells_named p d) es ≡ true → (c : ℕ) → not (44 == c) ≡ true → not (32 == c) ≡ true → ((w : List ℕ) → list_all is_inner w ≡ true → lacks c w ≡ true) → lacks c (flat_map (λ y. 44 ∷ y) (map (λ f. 32 ∷ named_text p f) es)) ≡ true
  behind_commas d [] h c v s own = refl
  behind_commas d (e ∷ es) h c v s own =
      let k = and_parts (spells_named p d e) (list_all (spells_named p d) es) h in
      let more = flat_map (λ y. 44 ∷ y) (map (λ f. 32 ∷ named_text p f) es) in
      and_from (not (44 == c)) (lacks c (32 ∷ (named_text p e ++ more))) v
      (and_from (not (32 == c)) (lacks c (named_text p e ++ more)) s
      (all_append (λ b. not (b == c)) (named_text p e) more (own (named_text p e) (named_inner d e k.0)) (behind_commas d es k.1 c v s own)))

  -- no byte of the text is this one, if none within a type is
  pub needs_lack : (d : Derivation) (es : Needs) → list_all (spells_named p d) es ≡ true → (c : ℕ) → not (44 == c) ≡ true → not (32 == c) ≡ true → ((w : List ℕ) → list_all is_inner w ≡ true → lacks c w ≡ true) → lacks c (needs_text p es) ≡ true
  needs_lack d [] h c v s own = refl
  needs_lack d (e ∷ es) h c v s own =
      let k = and_parts (spells_named p d e) (list_all (spells_named p d) es) h in
      all_append (λ b. not (b == c)) (named_text p e) (flat_map (λ y. 44 ∷ y) (map (λ f. 32 ∷ named_text p f) es)) (own (named_text p e) (named_inner d e k.0)) (behind_commas d es k.1 c v s own)

-- Forms made so far, and heads still to come: together they make the form of the whole.
use Rattle.std.proofs.Common.{⊎_elim, ◌≡◌, ℕ, ◌<◌, ◌≤◌, ◌^◌, Bool, true, false, ◌&&◌, List, [], ◌∷◌, map, refl, sym, ap, ◌∙◌, subst, arith}
use Rattle.std.specs.List.{AllByRecursion}
use Rattle.std.specs.Prelude.{Err}
use Rattle.std.proofs.lemmas.Bool.{and_parts, and_from, leb-true, le-leb, ltb-true, cases_Bool}
use Rattle.pat_words_spec.specs.Patterns.{Pat, Zero, One, Tag, Sum, Prod, Star, Var}
use Rattle.pat_words_spec.specs.Tags.{tags_below}
use Rattle.pat_words_spec.specs.Sizes.{size_of, levels_of}
use Rattle.pat_inclusion_spec.specs.Counts.{most_tags}
use Rattle.pat_inclusion_spec.specs.LinearSets.{LinearSet}
use Rattle.pat_inclusion_spec.specs.ClosedForms.{only_empty, sets_of, is_short, stars_are_short, lists_are_short, is_small}
use Rattle.pat_inclusion_laws.proofs.FormCounts.{form_counts, form_clean}
use Rattle.pat_inclusion_laws.proofs.Exact.{tags_are}
use Rattle.pat_patterns.specs.declared.postfix_form.Head.{Head}
use Rattle.pat_patterns.specs.declared.postfix_form.Head.TheVariants.{Zero as ZeroHead, One as OneHead, Tag as TagHead, Var as VarHead, Sum as SumHead, Prod as ProdHead, Star as StarHead}
use Rattle.pat_patterns.specs.postfix_form.Postfix.{postfix_onto, made_by}
use Rattle.pat_patterns.proofs.Made.{made_whole}
use Rattle.pat_linear.specs.declared.error.FormError.{FormError}
use Rattle.pat_linear.specs.declared.error.FormError.TheVariants.{TooLarge, NoMemory}
use Rattle.pat_linear.specs.Forms.{after, after_is_short, CanJoin, Joins, GivesSets}
use Rattle.pat_limits.specs.Limits.{most_levels, most_nodes}

-- the patterns that the heads so far have made have these forms, all short; with the heads to come they make the whole
pub record Standing (n : ℕ) (whole : Pat) (heads : List Head) (forms : List (List LinearSet)) : Type 0 where
  pub made : List Pat
  pub makes : made_by heads made ≡ whole ∷ []
  pub forms_are : forms ≡ map (sets_of n) made
  pub short : AllByRecursion (λ e. lists_are_short n e ≡ true) made

-- ---- what holds of the whole holds of each pattern that was made, if it is handed down to parts

pub record IsHandedDown (P : Pat → Type 0) : Type 0 where
  pub sum : (e f : Pat) → P (Sum e f) → P e × P f
  pub prod : (e f : Pat) → P (Prod e f) → P e × P f
  pub star : (e : Pat) → P (Star e) → P e

pub handed : (P : Pat → Type 0) → IsHandedDown P → (whole : Pat) → P whole → (heads : List Head) (made : List Pat) → made_by heads made ≡ whole ∷ [] → AllByRecursion P made
handed P down whole h [] made e = subst (AllByRecursion P) (sym e) (h, tt)
handed P down whole h (ZeroHead ∷ heads) made e = (handed P down whole h heads (Zero ∷ made) e).1
handed P down whole h (OneHead ∷ heads) made e = (handed P down whole h heads (One ∷ made) e).1
handed P down whole h (TagHead m ∷ heads) made e = (handed P down whole h heads (Tag m ∷ made) e).1
handed P down whole h (VarHead k ∷ heads) made e = (handed P down whole h heads (Var k ∷ made) e).1
handed P down whole h (SumHead ∷ heads) [] e = absurd (cc)
handed P down whole h (SumHead ∷ heads) (f ∷ []) e = absurd (cc)
handed P down whole h (SumHead ∷ heads) (f ∷ g ∷ made) e =
    let r = handed P down whole h heads (Sum g f ∷ made) e in
    let p = down.sum g f r.0 in
    (p.1, (p.0, r.1))
handed P down whole h (ProdHead ∷ heads) [] e = absurd (cc)
handed P down whole h (ProdHead ∷ heads) (f ∷ []) e = absurd (cc)
handed P down whole h (ProdHead ∷ heads) (f ∷ g ∷ made) e =
    let r = handed P down whole h heads (Prod g f ∷ made) e in
    let p = down.prod g f r.0 in
    (p.1, (p.0, r.1))
handed P down whole h (StarHead ∷ heads) [] e = absurd (cc)
handed P down whole h (StarHead ∷ heads) (g ∷ made) e =
    let r = handed P down whole h heads (Star g ∷ made) e in
    (down.star g r.0, r.1)

tags_down : (n : ℕ) → IsHandedDown (λ e. tags_below n e ≡ true)
tags_down n = record {
  sum = λ e f h. and_parts (tags_below n e) (tags_below n f) h;
  prod = λ e f h. and_parts (tags_below n e) (tags_below n f) h;
  star = λ e h. h;
}

short_down : (n : ℕ) → IsHandedDown (λ e. lists_are_short n e ≡ true)
short_down n = record {
  sum = λ e f h. and_parts (lists_are_short n e) (lists_are_short n f) (and_parts (lists_are_short n e && lists_are_short n f) (is_short (sets_of n (Sum e f))) h).0;
  prod = λ e f h. and_parts (lists_are_short n e) (lists_are_short n f) (and_parts (lists_are_short n e && lists_are_short n f) (is_short (sets_of n (Prod e f))) h).0;
  star = λ e h. (and_parts (lists_are_short n e) (stars_are_short n (only_empty ∷ []) (sets_of n e)) h).0;
}

-- size and levels of a small pattern
pub sizes : (e : Pat) → is_small e ≡ true → (size_of e ≤ most_nodes) × (levels_of e ≤ most_levels)
sizes e h =
    let p = and_parts _ _ h in
    (leb-true (size_of e) most_nodes p.0, leb-true (levels_of e) most_levels p.1)

pub small : (e : Pat) → size_of e ≤ most_nodes → levels_of e ≤ most_levels → is_small e ≡ true
small e a b = and_from _ _ (le-leb (size_of e) most_nodes a) (le-leb (levels_of e) most_levels b)

pub small_down : IsHandedDown (λ e. is_small e ≡ true)
small_down = record {
  sum = λ e f h. let s = sizes (Sum e f) h in (small e (omega arith) (omega arith), small f (omega arith) (omega arith));
  prod = λ e f h. let s = sizes (Prod e f) h in (small e (omega arith) (omega arith), small f (omega arith) (omega arith));
  star = λ e h. let s = sizes (Star e) h in small e (omega arith) (omega arith);
}

-- ---- beginning, turn and end

-- nothing has been made
pub begun : (n : ℕ) (whole : Pat) (heads : List Head) (forms : List (List LinearSet)) → heads ≡ postfix_onto whole [] → forms ≡ [] → Standing n whole heads forms
begun n whole heads forms eh ef =
    subst (λ h. Standing n whole h forms) (sym eh)
    (subst (Standing n whole (postfix_onto whole [])) (sym ef) (record { made = []; makes = made_whole whole; forms_are = refl; short = tt }))

can_made : (whole : Pat) → is_small whole ≡ true → tags_below most_tags whole ≡ true → (head : Head) (rest : List Head) (made : List Pat) → made_by (head ∷ rest) made ≡ whole ∷ [] → AllByRecursion (λ e. lists_are_short most_tags e ≡ true) made → CanJoin most_tags head (map (sets_of most_tags) made)
can_made whole sm tg ZeroHead rest made e sh = tt
can_made whole sm tg OneHead rest made e sh = tt
can_made whole sm tg (VarHead k) rest made e sh = tt
can_made whole sm tg (TagHead m) rest made e sh =
    let r = handed (λ x. tags_below most_tags x ≡ true) (tags_down most_tags) whole tg rest (Tag m ∷ made) e in
    subst (λ n. m < n) tags_are (ltb-true m most_tags r.0)
can_made whole sm tg SumHead rest [] e sh = absurd (cc)
can_made whole sm tg SumHead rest (f ∷ []) e sh = absurd (cc)
can_made whole sm tg SumHead rest (f ∷ g ∷ made) e sh = tt
can_made whole sm tg ProdHead rest [] e sh = absurd (cc)
can_made whole sm tg ProdHead rest (f ∷ []) e sh = absurd (cc)
can_made whole sm tg ProdHead rest (f ∷ g ∷ made) e sh =
    let r = handed (λ x. is_small x ≡ true) small_down whole sm rest (Prod g f ∷ made) e in
    let p = small_down.prod g f r.0 in
    (2 ^ 27, 2 ^ 27, 2 ^ 27, form_counts most_tags g p.0 sh.1.0, form_counts most_tags f p.1 sh.0, omega arith)
can_made whole sm tg StarHead rest [] e sh = absurd (cc)
can_made whole sm tg StarHead rest (g ∷ made) e sh =
    let r = handed (λ x. is_small x ≡ true) small_down whole sm rest (Star g ∷ made) e in
    (form_counts most_tags g (small_down.star g r.0) sh.0, form_clean most_tags g)

-- the next head can be joined
pub can_join : (whole : Pat) (heads : List Head) (head : Head) (rest : List Head) (forms : List (List LinearSet)) → is_small whole ≡ true → tags_below most_tags whole ≡ true → Standing most_tags whole heads forms → heads ≡ head ∷ rest → CanJoin most_tags head forms
can_join whole heads head rest forms sm tg s e =
    let makes : made_by (head ∷ rest) s.made ≡ whole ∷ [] = subst (λ h. made_by h s.made ≡ whole ∷ []) e s.makes in
    subst (CanJoin most_tags head) (sym s.forms_are) (can_made whole sm tg head rest s.made makes s.short)

joined_made : (n : ℕ) (whole : Pat) (head : Head) (rest : List Head) (made : List Pat) → made_by (head ∷ rest) made ≡ whole ∷ [] → AllByRecursion (λ e. lists_are_short n e ≡ true) made → after_is_short n head (map (sets_of n) made) ≡ true → Standing n whole rest (after n head (map (sets_of n) made))
joined_made n whole ZeroHead rest made e sh s = record { made = Zero ∷ made; makes = e; forms_are = refl; short = (refl, sh) }
joined_made n whole OneHead rest made e sh s = record { made = One ∷ made; makes = e; forms_are = refl; short = (refl, sh) }
joined_made n whole (TagHead m) rest made e sh s = record { made = Tag m ∷ made; makes = e; forms_are = refl; short = (refl, sh) }
joined_made n whole (VarHead k) rest made e sh s = record { made = Var k ∷ made; makes = e; forms_are = refl; short = (refl, sh) }
joined_made n whole SumHead rest [] e sh s = absurd (cc)
joined_made n whole SumHead rest (f ∷ []) e sh s = absurd (cc)
joined_made n whole SumHead rest (f ∷ g ∷ made) e sh s =
    let both = and_from (lists_are_short n g) (lists_are_short n f) sh.1.0 sh.0 in
    record { made = Sum g f ∷ made; makes = e; forms_are = refl; short = (and_from (lists_are_short n g && lists_are_short n f) (is_short (sets_of n (Sum g f))) both s, sh.1.1) }
joined_made n whole ProdHead rest [] e sh s = absurd (cc)
joined_made n whole ProdHead rest (f ∷ []) e sh s = absurd (cc)
joined_made n whole ProdHead rest (f ∷ g ∷ made) e sh s =
    let both = and_from (lists_are_short n g) (lists_are_short n f) sh.1.0 sh.0 in
    record { made = Prod g f ∷ made; makes = e; forms_are = refl; short = (and_from (lists_are_short n g && lists_are_short n f) (is_short (sets_of n (Prod g f))) both s, sh.1.1) }
joined_made n whole StarHead rest [] e sh s = absurd (cc)
joined_made n whole StarHead rest (g ∷ made) e sh s =
    record { made = Star g ∷ made; makes = e; forms_are = refl; short = (and_from (lists_are_short n g) (stars_are_short n (only_empty ∷ []) (sets_of n g)) sh.0 s, sh.1) }

-- a head has been joined
pub joined : (n : ℕ) (whole : Pat) (heads : List Head) (head : Head) (rest : List Head) (forms next : List (List LinearSet)) → Standing n whole heads forms → heads ≡ head ∷ rest → (next ≡ after n head forms) × (after_is_short n head forms ≡ true) → Standing n whole rest next
joined n whole heads head rest forms next s e h =
    let makes : made_by (head ∷ rest) s.made ≡ whole ∷ [] = subst (λ x. made_by x s.made ≡ whole ∷ []) e s.makes in
    let short : after_is_short n head (map (sets_of n) s.made) ≡ true = subst (λ x. after_is_short n head x ≡ true) s.forms_are h.1 in
    let is : next ≡ after n head (map (sets_of n) s.made) = h.0 ∙ ap (after n head) s.forms_are in
    subst (Standing n whole rest) (sym is) (joined_made n whole head rest s.made makes s.short short)

long_made : (n : ℕ) (whole : Pat) → lists_are_short n whole ≡ true → (head : Head) (rest : List Head) (made : List Pat) → made_by (head ∷ rest) made ≡ whole ∷ [] → after_is_short n head (map (sets_of n) made) ≡ true
long_made n whole sh ZeroHead rest made e = refl
long_made n whole sh OneHead rest made e = refl
long_made n whole sh (TagHead m) rest made e = refl
long_made n whole sh (VarHead k) rest made e = refl
long_made n whole sh SumHead rest [] e = absurd (cc)
long_made n whole sh SumHead rest (f ∷ []) e = absurd (cc)
long_made n whole sh SumHead rest (f ∷ g ∷ made) e =
    let r = handed (λ x. lists_are_short n x ≡ true) (short_down n) whole sh rest (Sum g f ∷ made) e in
    (and_parts (lists_are_short n g && lists_are_short n f) (is_short (sets_of n (Sum g f))) r.0).1
long_made n whole sh ProdHead rest [] e = absurd (cc)
long_made n whole sh ProdHead rest (f ∷ []) e = absurd (cc)
long_made n whole sh ProdHead rest (f ∷ g ∷ made) e =
    let r = handed (λ x. lists_are_short n x ≡ true) (short_down n) whole sh rest (Prod g f ∷ made) e in
    (and_parts (lists_are_short n g && lists_are_short n f) (is_short (sets_of n (Prod g f))) r.0).1
long_made n whole sh StarHead rest [] e = absurd (cc)
long_made n whole sh StarHead rest (g ∷ made) e =
    let r = handed (λ x. lists_are_short n x ≡ true) (short_down n) whole sh rest (Star g ∷ made) e in
    (and_parts (lists_are_short n g) (stars_are_short n (only_empty ∷ []) (sets_of n g)) r.0).1

-- a head can't be joined since that would be too large: then so is the whole; or there was no memory
pub refused : (n : ℕ) (whole : Pat) (heads : List Head) (head : Head) (rest : List Head) (forms new : List (List LinearSet)) (error : FormError) → Standing n whole heads forms → heads ≡ head ∷ rest → Joins n head (Err error) forms new → GivesSets (Err error) (lists_are_short n whole) (sets_of n whole)
refused n whole heads head rest forms new NoMemory s e h = tt
refused n whole heads head rest forms new TooLarge s e h =
    let makes : made_by (head ∷ rest) s.made ≡ whole ∷ [] = subst (λ x. made_by x s.made ≡ whole ∷ []) e s.makes in
    let long : after_is_short n head (map (sets_of n) s.made) ≡ false = subst (λ x. after_is_short n head x ≡ false) s.forms_are h in
    ⊎_elim (λ y. absurd (clash (long_made n whole y head rest s.made makes) long)) (λ z. z) (cases_Bool (lists_are_short n whole))
  where
    clash : {b : Bool} → b ≡ true → b ≡ false → ⊥
    clash p q = cc

-- no head is left
pub ended : (n : ℕ) (whole : Pat) (heads : List Head) (forms : List (List LinearSet)) → Standing n whole heads forms → heads ≡ [] → (forms ≡ sets_of n whole ∷ []) × (lists_are_short n whole ≡ true)
ended n whole heads forms s e =
    let makes : s.made ≡ whole ∷ [] = subst (λ h. made_by h s.made ≡ whole ∷ []) e s.makes in
    (s.forms_are ∙ ap (map (sets_of n)) makes, (subst (AllByRecursion (λ x. lists_are_short n x ≡ true)) makes s.short).0)

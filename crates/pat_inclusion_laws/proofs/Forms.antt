-- The closed form has the words of the pattern.
use Rattle.std.proofs.Common.{◌≡◌, ℕ, ◌<◌, true, nat_eq, List, [], ◌∷◌, ◌++◌, map, ◌⊎◌, inl, inr, ⊎_elim, refl, sym, ap, ◌∙◌, subst, arith}
use Rattle.std.proofs.lemmas.Bool.{and_parts, ltb-true, ne_eqb, cond-false}
use Rattle.pat_words_spec.specs.Words.{Word, no_word, one, plus}
use Rattle.pat_words_spec.specs.Patterns.{Pat, Zero, One, Tag, Sum, Prod, Star, Var, Language, In}
use Rattle.pat_words_laws.proofs.WordLaws.{plus_assoc, plus_none, none_plus}
use Rattle.pat_words_spec.specs.Tags.{tags_below, HasTagsBelow}
use Rattle.pat_words_spec.specs.Languages.{SumOf, StarOf, EitherOf, MemberOf}
use Rattle.pat_inclusion_spec.specs.LinearSets.{LinearSet, linear_set, combined, InSet, InSets, SetBelow, SetsBelow}
use Rattle.pat_inclusion_spec.specs.ClosedForms.{add_period, set_product, products, only_empty, star_by, set_star, times_stars, sets_of}
use Rattle.pat_inclusion_laws.proofs.Languages.{Into, plus_four, sum_mono, sum_assoc_to, sum_assoc_from, star_none, star_one, star_sum, star_mono, star_least, star_either_to, star_either_from}
use Rattle.pat_inclusion_laws.proofs.Spans.{AllBelow, Spanned, none_below, plus_below, combined_none, add_below, adds_below, span_add_to, span_add_from, span_adds_to, span_adds_from, made_to, made_from}

-- ---- sets whose tags are below n

pub sets_below_append : (n : ℕ) (xs ys : List LinearSet) → SetsBelow n xs → SetsBelow n ys → SetsBelow n (xs ++ ys)
sets_below_append n [] ys a b = b
sets_below_append n (x ∷ xs) ys a b = (a.0, sets_below_append n xs ys a.1 b)

product_below : (n : ℕ) (a b : LinearSet) → SetBelow n a → SetBelow n b → SetBelow n (set_product n a b)
product_below n a b ha hb = (plus_below n a.base b.base ha.0 hb.0, adds_below n a.periods b.periods ha.1 hb.1)

each_below : (n : ℕ) (a : LinearSet) (bs : List LinearSet) → SetBelow n a → SetsBelow n bs → SetsBelow n (map (set_product n a) bs)
each_below n a [] ha hb = tt
each_below n a (b ∷ bs) ha hb = (product_below n a b ha hb.0, each_below n a bs ha hb.1)

pub products_below : (n : ℕ) (xs ys : List LinearSet) → SetsBelow n xs → SetsBelow n ys → SetsBelow n (products n xs ys)
products_below n [] ys a b = tt
products_below n (x ∷ xs) ys a b =
    sets_below_append n (map (set_product n x) ys) (products n xs ys) (each_below n x ys a.0 b) (products_below n xs ys a.1 b)

empty_below : (n : ℕ) → SetBelow n only_empty
empty_below n = (none_below n, tt)

pub star_below : (n : ℕ) (base : Word) (ps : List Word) → HasTagsBelow n base → AllBelow n ps → SetsBelow n (star_by n base ps)
star_below n base [] a b = ((none_below n, add_below n [] base tt a), tt)
star_below n base (p ∷ ps) a b = (empty_below n, ((a, add_below n (p ∷ ps) base b a), tt))

times_below : (n : ℕ) (made ss : List LinearSet) → SetsBelow n made → SetsBelow n ss → SetsBelow n (times_stars n made ss)
times_below n made [] a b = a
times_below n made (s ∷ ss) a b =
    times_below n (products n made (set_star n s)) ss
    (products_below n made (set_star n s) a (star_below n s.base s.periods b.0.0 b.0.1))
    b.1

pub one_below : (n m : ℕ) → m < n → HasTagsBelow n (one m)
one_below n m l t g = cond-false (nat_eq t m) 1 0 (ne_eqb t m (λ q. omega arith))

pub form_below : (n : ℕ) (e : Pat) → tags_below n e ≡ true → SetsBelow n (sets_of n e)
form_below n Zero h = tt
form_below n One h = (empty_below n, tt)
form_below n (Tag m) h = ((one_below n m (ltb-true m n h), tt), tt)
form_below n (Sum e f) h =
    let both = and_parts (tags_below n e) (tags_below n f) h in
    sets_below_append n (sets_of n e) (sets_of n f) (form_below n e both.0) (form_below n f both.1)
form_below n (Prod e f) h =
    let both = and_parts (tags_below n e) (tags_below n f) h in
    products_below n (sets_of n e) (sets_of n f) (form_below n e both.0) (form_below n f both.1)
form_below n (Star e) h = times_below n (only_empty ∷ []) (sets_of n e) (empty_below n, tt) (form_below n e h)
form_below n (Var k) h = tt

-- ---- words of a set

-- a word of a set is its base and a finite sum of its periods
pub set_to : (s : LinearSet) (w : Word) → InSet s w → (v : Word) × Spanned s.periods v × (w ≡ plus s.base v)
set_to s w h = (combined h.0 s.periods, made_to s.periods (combined h.0 s.periods) (h.0, refl), h.1)

pub set_from : (s : LinearSet) (w v : Word) → Spanned s.periods v → w ≡ plus s.base v → InSet s w
set_from s w v h e = let r = made_from s.periods v h in (r.0, e ∙ ap (plus s.base) r.1)

product_to : (n : ℕ) (a b : LinearSet) → Into (InSet (set_product n a b)) (SumOf (InSet a) (InSet b))
product_to n a b w h =
    let r = set_to (set_product n a b) w h in
    let k = star_either_to (MemberOf a.periods) (MemberOf b.periods) r.0 (span_adds_to n a.periods b.periods r.0 r.1) in (
      plus a.base k.0,
      plus b.base k.1,
      set_from a (plus a.base k.0) k.0 k.2 refl,
      set_from b (plus b.base k.1) k.1 k.3 refl,
      r.2 ∙ ap (plus (plus a.base b.base)) k.4 ∙ plus_four a.base b.base k.0 k.1,
    )

product_from : (n : ℕ) (a b : LinearSet) → SetBelow n a → SetBelow n b → Into (SumOf (InSet a) (InSet b)) (InSet (set_product n a b))
product_from n a b ha hb w h =
    let u = set_to a h.0 h.2 in
    let v = set_to b h.1 h.3 in
    set_from (set_product n a b) w (plus u.0 v.0)
    (span_adds_from n a.periods b.periods ha.1 hb.1 (plus u.0 v.0)
    (star_either_from (MemberOf a.periods) (MemberOf b.periods) (plus u.0 v.0) (u.0, v.0, u.1, v.1, refl)))
    (h.4 ∙ ap (λ (x : Word). plus x h.1) u.2 ∙ ap (plus (plus a.base u.0)) v.2 ∙ plus_four a.base u.0 b.base v.0)

-- ---- words of lists of sets

pub append_to : (xs ys : List LinearSet) → Into (InSets (xs ++ ys)) (EitherOf (InSets xs) (InSets ys))
append_to [] ys w h = inr h
append_to (x ∷ xs) ys w h =
    ⊎_elim (λ k. inl (inl k)) (λ k. ⊎_elim (λ l. inl (inr l)) (λ l. inr l) (append_to xs ys w k)) h

pub append_from : (xs ys : List LinearSet) → Into (EitherOf (InSets xs) (InSets ys)) (InSets (xs ++ ys))
append_from [] ys w h = ⊎_elim (λ k. absurd k) (λ k. k) h
append_from (x ∷ xs) ys w h =
    ⊎_elim
    (λ k. ⊎_elim (λ l. inl l) (λ l. inr (append_from xs ys w (inl l))) k)
    (λ k. inr (append_from xs ys w (inr k)))
    h

each_to : (n : ℕ) (a : LinearSet) (bs : List LinearSet) → Into (InSets (map (set_product n a) bs)) (SumOf (InSet a) (InSets bs))
each_to n a [] w h = absurd h
each_to n a (b ∷ bs) w h =
    ⊎_elim
    (λ k. sum_mono (InSet a) (InSet b) (InSet a) (InSets (b ∷ bs)) (λ u l. l) (λ u l. inl l) w (product_to n a b w k))
    (λ k. sum_mono (InSet a) (InSets bs) (InSet a) (InSets (b ∷ bs)) (λ u l. l) (λ u l. inr l) w (each_to n a bs w k))
    h

each_from : (n : ℕ) (a : LinearSet) (bs : List LinearSet) → SetBelow n a → SetsBelow n bs → Into (SumOf (InSet a) (InSets bs)) (InSets (map (set_product n a) bs))
each_from n a [] ha hb w h = absurd h.3
each_from n a (b ∷ bs) ha hb w h =
    ⊎_elim
    (λ k. inl (product_from n a b ha hb.0 w (h.0, h.1, h.2, k, h.4)))
    (λ k. inr (each_from n a bs ha hb.1 w (h.0, h.1, h.2, k, h.4)))
    h.3

products_to : (n : ℕ) (xs ys : List LinearSet) → Into (InSets (products n xs ys)) (SumOf (InSets xs) (InSets ys))
products_to n [] ys w h = absurd h
products_to n (x ∷ xs) ys w h =
    ⊎_elim
    (λ k. sum_mono (InSet x) (InSets ys) (InSets (x ∷ xs)) (InSets ys) (λ u l. inl l) (λ u l. l) w (each_to n x ys w k))
    (λ k. sum_mono (InSets xs) (InSets ys) (InSets (x ∷ xs)) (InSets ys) (λ u l. inr l) (λ u l. l) w (products_to n xs ys w k))
    (append_to (map (set_product n x) ys) (products n xs ys) w h)

products_from : (n : ℕ) (xs ys : List LinearSet) → SetsBelow n xs → SetsBelow n ys → Into (SumOf (InSets xs) (InSets ys)) (InSets (products n xs ys))
products_from n [] ys a b w h = absurd h.2
products_from n (x ∷ xs) ys a b w h =
    append_from (map (set_product n x) ys) (products n xs ys) w
    (⊎_elim
    (λ k. inl (each_from n x ys a.0 b w (h.0, h.1, k, h.3, h.4)))
    (λ k. inr (products_from n xs ys a.1 b w (h.0, h.1, k, h.3, h.4)))
    h.2)

-- ---- stars

-- the empty set of periods spans the empty word alone
only_none : (w : Word) → InSet only_empty w → w ≡ no_word
only_none w h = h.1 ∙ ap (plus no_word) (combined_none h.0) ∙ plus_none no_word

only_base : (base w : Word) → InSet (linear_set base []) w → base ≡ w
only_base base w h = sym (h.1 ∙ ap (plus base) (combined_none h.0) ∙ plus_none base)

base_in : (s : LinearSet) → InSet s s.base
base_in s = ([], sym (plus_none s.base))

star_by_to : (n : ℕ) (base : Word) (ps : List Word) → Into (InSets (star_by n base ps)) (StarOf (InSet (linear_set base ps)))
star_by_to n base [] w h =
    ⊎_elim
    (λ k.
    let r = set_to (linear_set no_word (add_period n [] base)) w k in
    subst (StarOf (InSet (linear_set base []))) (sym (r.2 ∙ none_plus r.0))
    (star_mono (EitherOf (MemberOf []) (λ x. base ≡ x)) (InSet (linear_set base []))
    (λ v l. ⊎_elim (λ z. absurd z) (λ q. subst (InSet (linear_set base [])) q (base_in (linear_set base []))) l)
    r.0
    (span_add_to n [] base r.0 r.1)))
    (λ k. absurd k)
    h
star_by_to n base (p ∷ ps) w h =
    let s = linear_set base (p ∷ ps) in
    ⊎_elim
    (λ k. subst (StarOf (InSet s)) (sym (only_none w k)) (star_none (InSet s)))
    (λ l. ⊎_elim
    (λ k.
    let r = set_to (linear_set base (add_period n (p ∷ ps) base)) w k in
    let d = star_either_to (MemberOf (p ∷ ps)) (λ x. base ≡ x) r.0 (span_add_to n (p ∷ ps) base r.0 r.1) in
    subst (StarOf (InSet s)) (sym (r.2 ∙ ap (plus base) d.4 ∙ sym (plus_assoc base d.0 d.1)))
    (star_sum (InSet s) (plus base d.0) d.1
    (star_one (InSet s) (plus base d.0) (set_from s (plus base d.0) d.0 d.2 refl))
    (star_mono (λ x. base ≡ x) (InSet s) (λ x q. subst (InSet s) q (base_in s)) d.1 d.3)))
    (λ k. absurd k)
    l)
    h

star_by_from : (n : ℕ) (base : Word) (ps : List Word) → HasTagsBelow n base → AllBelow n ps → Into (StarOf (InSet (linear_set base ps))) (InSets (star_by n base ps))
star_by_from n base [] hb hp w h =
    inl (set_from (linear_set no_word (add_period n [] base)) w w
    (span_add_from n [] base tt hb w
    (star_mono (InSet (linear_set base [])) (EitherOf (MemberOf []) (λ x. base ≡ x)) (λ x k. inr (only_base base x k)) w h))
    (sym (none_plus w)))
star_by_from n base (p ∷ ps) hb hp w h =
    let s = linear_set base (p ∷ ps) in
    let next = add_period n (p ∷ ps) base in
    let b = linear_set base next in
    let more = EitherOf (MemberOf (p ∷ ps)) (λ x. base ≡ x) in
    let Found : Language = λ x. (x ≡ no_word) ⊎ InSet b x in
    let base_spans : Spanned next base = span_add_from n (p ∷ ps) base hp hb base (star_one more base (inr refl)) in
    ⊎_elim
    (λ e. inl (subst (InSet only_empty) (sym e) (base_in only_empty)))
    (λ k. inr (inl k))
    (star_least (InSet s) Found (inl refl)
    (λ u v hu hv. ⊎_elim
    (λ e. subst Found (sym (ap (λ (x : Word). plus x v) e ∙ none_plus v)) hv)
    (λ k. ⊎_elim
    (λ e. inr (subst (InSet b) (sym (ap (plus u) e ∙ plus_none u)) k))
    (λ l.
    let ru = set_to b u k in
    let rv = set_to b v l in
    inr (set_from b (plus u v) (plus ru.0 (plus base rv.0))
    (star_sum (MemberOf next) ru.0 (plus base rv.0) ru.1 (star_sum (MemberOf next) base rv.0 base_spans rv.1))
    (ap (λ (x : Word). plus x v) ru.2 ∙ ap (plus (plus base ru.0)) rv.2 ∙ plus_assoc base ru.0 (plus base rv.0))))
    hv)
    hu)
    (λ x k.
    let r = set_to s x k in
    inr (set_from b x r.0
    (span_add_from n (p ∷ ps) base hp hb r.0 (star_mono (MemberOf (p ∷ ps)) more (λ v l. inl l) r.0 r.1))
    r.2))
    w
    h)

nothing_star : (w : Word) → StarOf (InSets []) w → w ≡ no_word
nothing_star w h =
    star_least (InSets []) (λ x. x ≡ no_word) refl
    (λ u v hu hv. ap (λ (x : Word). plus x v) hu ∙ ap (plus no_word) hv ∙ plus_none no_word)
    (λ x k. absurd k)
    w
    h

times_to : (n : ℕ) (made ss : List LinearSet) → Into (InSets (times_stars n made ss)) (SumOf (InSets made) (StarOf (InSets ss)))
times_to n made [] w h = (w, no_word, h, star_none (InSets []), sym (plus_none w))
times_to n made (s ∷ ss) w h =
    let stars = set_star n s in
    let L = InSets made in
    let S = StarOf (InSet s) in
    let T = StarOf (InSets ss) in
    sum_mono L (SumOf S T) L (StarOf (InSets (s ∷ ss))) (λ u k. k) (star_either_from (InSet s) (InSets ss)) w
    (sum_assoc_to L S T w
    (sum_mono (InSets (products n made stars)) T (SumOf L S) T
    (λ u k. sum_mono L (InSets stars) L S (λ v l. l) (star_by_to n s.base s.periods) u (products_to n made stars u k))
    (λ u k. k)
    w
    (times_to n (products n made stars) ss w h)))

times_from : (n : ℕ) (made ss : List LinearSet) → SetsBelow n made → SetsBelow n ss → Into (SumOf (InSets made) (StarOf (InSets ss))) (InSets (times_stars n made ss))
times_from n made [] a b w h =
    subst (InSets made) (sym (h.4 ∙ ap (plus h.0) (nothing_star h.1 h.3) ∙ plus_none h.0)) h.2
times_from n made (s ∷ ss) a b w h =
    let stars = set_star n s in
    let below = star_below n s.base s.periods b.0.0 b.0.1 in
    let L = InSets made in
    let S = StarOf (InSet s) in
    let T = StarOf (InSets ss) in
    times_from n (products n made stars) ss (products_below n made stars a below) b.1 w
    (sum_mono (SumOf L S) T (InSets (products n made stars)) T
    (λ u k. products_from n made stars a below u
    (sum_mono L S L (InSets stars) (λ v l. l) (star_by_from n s.base s.periods b.0.0 b.0.1) u k))
    (λ u k. k)
    w
    (sum_assoc_from L S T w
    (sum_mono L (StarOf (InSets (s ∷ ss))) L (SumOf S T) (λ u k. k) (star_either_to (InSet s) (InSets ss)) w h)))

-- ---- the closed form

pub form_to : (n : ℕ) (e : Pat) → Into (InSets (sets_of n e)) (In e)
form_to n Zero w h = absurd h
form_to n One w h = ⊎_elim (λ k. only_none w k) (λ k. absurd k) h
form_to n (Tag m) w h = ⊎_elim (λ k. sym (only_base (one m) w k)) (λ k. absurd k) h
form_to n (Sum e f) w h =
    ⊎_elim (λ k. inl (form_to n e w k)) (λ k. inr (form_to n f w k)) (append_to (sets_of n e) (sets_of n f) w h)
form_to n (Prod e f) w h =
    sum_mono (InSets (sets_of n e)) (InSets (sets_of n f)) (In e) (In f) (form_to n e) (form_to n f) w
    (products_to n (sets_of n e) (sets_of n f) w h)
form_to n (Star e) w h =
    let r = times_to n (only_empty ∷ []) (sets_of n e) w h in
    let none : r.0 ≡ no_word = ⊎_elim (λ k. only_none r.0 k) (λ k. absurd k) r.2 in
    subst (StarOf (In e)) (sym (r.4 ∙ ap (λ (x : Word). plus x r.1) none ∙ none_plus r.1))
    (star_mono (InSets (sets_of n e)) (In e) (form_to n e) r.1 r.3)
form_to n (Var k) w h = absurd h

pub form_from : (n : ℕ) (e : Pat) → tags_below n e ≡ true → Into (In e) (InSets (sets_of n e))
form_from n Zero t w h = absurd h
form_from n One t w h = inl (subst (InSet only_empty) (sym h) (base_in only_empty))
form_from n (Tag m) t w h = inl (subst (InSet (linear_set (one m) [])) (sym h) (base_in (linear_set (one m) [])))
form_from n (Sum e f) t w h =
    let both = and_parts (tags_below n e) (tags_below n f) t in
    append_from (sets_of n e) (sets_of n f) w
    (⊎_elim (λ k. inl (form_from n e both.0 w k)) (λ k. inr (form_from n f both.1 w k)) h)
form_from n (Prod e f) t w h =
    let both = and_parts (tags_below n e) (tags_below n f) t in
    products_from n (sets_of n e) (sets_of n f) (form_below n e both.0) (form_below n f both.1) w
    (sum_mono (In e) (In f) (InSets (sets_of n e)) (InSets (sets_of n f)) (form_from n e both.0) (form_from n f both.1) w h)
form_from n (Star e) t w h =
    times_from n (only_empty ∷ []) (sets_of n e) (empty_below n, tt) (form_below n e t) w
    (no_word, w, inl (base_in only_empty), star_mono (In e) (InSets (sets_of n e)) (form_from n e t) w h, sym (none_plus w))
form_from n (Var k) t w h = absurd h

-- What the periods of a linear set make: the finite sums of its periods.
use Rattle.std.proofs.Common.{◌≡◌, ℕ, zero, suc, ◌+◌, ◌<◌, true, ◌||◌, nat_eq, List, [], ◌∷◌, ◌++◌, inl, inr, ⊎_elim, refl, sym, ap, ◌∙◌, subst, arith, add-mul, one-mul}
use Rattle.std.specs.List.{AllByRecursion}
use Rattle.std.proofs.lemmas.Bool.{and_parts, or_cases, eqb-true, cond_both, cases_lt}
use Rattle.pat_words_spec.specs.Words.{Word, no_word, plus}
use Rattle.pat_words_spec.specs.Patterns.{Language}
use Rattle.pat_words_laws.proofs.WordLaws.{word_ext, plus_none, none_plus}
use Rattle.pat_words_spec.specs.Tags.{HasTagsBelow}
use Rattle.pat_words_spec.specs.Languages.{StarOf, EitherOf, MemberOf}
use Rattle.pat_inclusion_spec.specs.Counts.{same_below, is_empty_below, has_word, scaled}
use Rattle.pat_inclusion_spec.specs.LinearSets.{combined}
use Rattle.pat_inclusion_spec.specs.ClosedForms.{add_period, add_periods}
use Rattle.pat_inclusion_spec.specs.Covers.{IsMadeOf}
use Rattle.pat_inclusion_laws.proofs.Languages.{Into, plus_four, scaled_zero, star_none, star_one, star_sum, star_mono, star_least, star_flat, star_scaled}

-- ---- words of so many tags

pub same_counts : (n : ℕ) (u v : Word) → same_below n u v ≡ true → (t : ℕ) → t < n → u t ≡ v t
same_counts zero u v h t l = absurd (omega arith)
same_counts (suc n) u v h t l =
    let both = and_parts (same_below n u v) (nat_eq (u n) (v n)) h in
    ⊎_elim
    (λ below. same_counts n u v both.0 t below)
    (λ above. let same : t ≡ n = omega arith in subst (λ x. u x ≡ v x) (sym same) (eqb-true (u n) (v n) both.1))
    (cases_lt t n)

-- words of n tags with the same counts of these are the same
pub same_words : (n : ℕ) (u v : Word) → HasTagsBelow n u → HasTagsBelow n v → same_below n u v ≡ true → u ≡ v
same_words n u v hu hv h =
    word_ext u v (λ t. ⊎_elim (λ l. same_counts n u v h t l) (λ g. hu t g ∙ sym (hv t g)) (cases_lt t n))

pub none_below : (n : ℕ) → HasTagsBelow n no_word
none_below n t l = refl

pub plus_below : (n : ℕ) (u v : Word) → HasTagsBelow n u → HasTagsBelow n v → HasTagsBelow n (plus u v)
plus_below n u v hu hv t l = let a = hu t l in let b = hv t l in omega arith

-- ---- lists of words

-- each has its tags below n
abbrev pub AllBelow : ℕ → List Word → Type 0
AllBelow n ps = AllByRecursion (HasTagsBelow n) ps

pub member_first : (ps qs : List Word) → Into (MemberOf ps) (MemberOf (ps ++ qs))
member_first [] qs w h = absurd h
member_first (p ∷ ps) qs w h = ⊎_elim (λ k. inl k) (λ k. inr (member_first ps qs w k)) h

pub member_last : (ps : List Word) (p : Word) → MemberOf (ps ++ p ∷ []) p
member_last [] p = inl refl
member_last (q ∷ ps) p = inr (member_last ps p)

pub member_append : (ps : List Word) (p w : Word) → MemberOf (ps ++ p ∷ []) w → EitherOf (MemberOf ps) (λ x. p ≡ x) w
member_append [] p w h = ⊎_elim (λ k. inr k) (λ k. absurd k) h
member_append (q ∷ ps) p w h =
    ⊎_elim (λ k. inl (inl k)) (λ k. ⊎_elim (λ l. inl (inr l)) (λ l. inr l) (member_append ps p w k)) h

pub found_member : (n : ℕ) (ps : List Word) (p : Word) → AllBelow n ps → HasTagsBelow n p → has_word n ps p ≡ true → MemberOf ps p
found_member n [] p a b h = cc
found_member n (q ∷ ps) p a b h =
    ⊎_elim
    (λ k. inl (sym (same_words n p q b a.0 k)))
    (λ k. inr (found_member n ps p a.1 b k))
    (or_cases (same_below n p q) (has_word n ps p) h)

pub below_append : (n : ℕ) (ps : List Word) (p : Word) → AllBelow n ps → HasTagsBelow n p → AllBelow n (ps ++ p ∷ [])
below_append n [] p a b = (b, tt)
below_append n (q ∷ ps) p a b = (a.0, below_append n ps p a.1 b)

-- ---- a period more

-- the finite sums of the periods
abbrev pub Spanned : List Word → Language
Spanned ps = StarOf (MemberOf ps)

pub add_below : (n : ℕ) (ps : List Word) (p : Word) → AllBelow n ps → HasTagsBelow n p → AllBelow n (add_period n ps p)
add_below n ps p a b =
    cond_both (is_empty_below n p || has_word n ps p) ps (ps ++ p ∷ []) (AllBelow n) (λ _. a) (λ _. below_append n ps p a b)

-- with one more period, the sums are those of the periods and the new one
pub span_add_to : (n : ℕ) (ps : List Word) (p : Word) → Into (Spanned (add_period n ps p)) (StarOf (EitherOf (MemberOf ps) (λ x. p ≡ x)))
span_add_to n ps p =
    cond_both (is_empty_below n p || has_word n ps p) ps (ps ++ p ∷ [])
    (λ qs. Into (Spanned qs) (StarOf (EitherOf (MemberOf ps) (λ x. p ≡ x))))
    (λ _. star_mono (MemberOf ps) (EitherOf (MemberOf ps) (λ x. p ≡ x)) (λ w k. inl k))
    (λ _. star_mono (MemberOf (ps ++ p ∷ [])) (EitherOf (MemberOf ps) (λ x. p ≡ x)) (member_append ps p))

pub span_add_from : (n : ℕ) (ps : List Word) (p : Word) → AllBelow n ps → HasTagsBelow n p → Into (StarOf (EitherOf (MemberOf ps) (λ x. p ≡ x))) (Spanned (add_period n ps p))
span_add_from n ps p a b =
    cond_both (is_empty_below n p || has_word n ps p) ps (ps ++ p ∷ [])
    (λ qs. Into (StarOf (EitherOf (MemberOf ps) (λ x. p ≡ x))) (Spanned qs))
    (λ h. star_flat (EitherOf (MemberOf ps) (λ x. p ≡ x)) (MemberOf ps)
    (λ w k. ⊎_elim
    (λ l. star_one (MemberOf ps) w l)
    (λ q. ⊎_elim
    (λ e. subst (Spanned ps) (sym (same_words n p no_word b (none_below n) e) ∙ q) (star_none (MemberOf ps)))
    (λ m. subst (Spanned ps) q (star_one (MemberOf ps) p (found_member n ps p a b m)))
    (or_cases (is_empty_below n p) (has_word n ps p) h))
    k))
    (λ _. star_mono (EitherOf (MemberOf ps) (λ x. p ≡ x)) (MemberOf (ps ++ p ∷ []))
    (λ w k. ⊎_elim (λ l. member_first ps (p ∷ []) w l) (λ q. subst (MemberOf (ps ++ p ∷ [])) q (member_last ps p)) k))

pub adds_below : (n : ℕ) (ps qs : List Word) → AllBelow n ps → AllBelow n qs → AllBelow n (add_periods n ps qs)
adds_below n ps [] a b = a
adds_below n ps (q ∷ qs) a b = adds_below n (add_period n ps q) qs (add_below n ps q a b.0) b.1

-- with further periods, the sums are those of both
pub span_adds_to : (n : ℕ) (ps qs : List Word) → Into (Spanned (add_periods n ps qs)) (StarOf (EitherOf (MemberOf ps) (MemberOf qs)))
span_adds_to n ps [] w h = star_mono (MemberOf ps) (EitherOf (MemberOf ps) (MemberOf [])) (λ v k. inl k) w h
span_adds_to n ps (q ∷ qs) w h =
    star_flat (EitherOf (MemberOf (add_period n ps q)) (MemberOf qs)) (EitherOf (MemberOf ps) (MemberOf (q ∷ qs)))
    (λ u k. ⊎_elim
    (λ l. star_mono (EitherOf (MemberOf ps) (λ x. q ≡ x)) (EitherOf (MemberOf ps) (MemberOf (q ∷ qs)))
    (λ v m. ⊎_elim (λ x. inl x) (λ x. inr (inl x)) m)
    u
    (span_add_to n ps q u (star_one (MemberOf (add_period n ps q)) u l)))
    (λ r. star_one (EitherOf (MemberOf ps) (MemberOf (q ∷ qs))) u (inr (inr r)))
    k)
    w
    (span_adds_to n (add_period n ps q) qs w h)

pub span_adds_from : (n : ℕ) (ps qs : List Word) → AllBelow n ps → AllBelow n qs → Into (StarOf (EitherOf (MemberOf ps) (MemberOf qs))) (Spanned (add_periods n ps qs))
span_adds_from n ps [] a b w h =
    star_mono (EitherOf (MemberOf ps) (MemberOf [])) (MemberOf ps) (λ v k. ⊎_elim (λ l. l) (λ r. absurd r) k) w h
span_adds_from n ps (q ∷ qs) a b w h =
    let next = add_period n ps q in
    let target = EitherOf (MemberOf next) (MemberOf qs) in
    span_adds_from n next qs (add_below n ps q a b.0) b.1 w
    (star_flat (EitherOf (MemberOf ps) (MemberOf (q ∷ qs))) target
    (λ u k. ⊎_elim
    (λ l. star_mono (MemberOf next) target (λ v m. inl m) u
    (span_add_from n ps q a b.0 u (star_one (EitherOf (MemberOf ps) (λ x. q ≡ x)) u (inl l))))
    (λ r. ⊎_elim
    (λ e. star_mono (MemberOf next) target (λ v m. inl m) u
    (span_add_from n ps q a b.0 u (star_one (EitherOf (MemberOf ps) (λ x. q ≡ x)) u (inr e))))
    (λ m. star_one target u (inr m))
    r)
    k)
    w
    h)

-- ---- numbers for periods

-- the sums of numbers at the same places
abbrev pub added : List ℕ → List ℕ → List ℕ
added [] ds = ds
added (c ∷ cs) [] = c ∷ cs
added (c ∷ cs) (d ∷ ds) = (c + d) ∷ added cs ds

pub combined_none : (cs : List ℕ) → combined cs [] ≡ no_word
combined_none [] = refl
combined_none (c ∷ cs) = refl

pub scaled_sum : (c d : ℕ) (p : Word) → scaled (c + d) p ≡ plus (scaled c p) (scaled d p)
scaled_sum c d p = word_ext (scaled (c + d) p) (plus (scaled c p) (scaled d p)) (λ t. add-mul c d (p t))

pub scaled_one : (p : Word) → scaled 1 p ≡ p
scaled_one p = word_ext (scaled 1 p) p (λ t. one-mul (p t))

pub combined_added : (cs ds : List ℕ) (ps : List Word) → combined (added cs ds) ps ≡ plus (combined cs ps) (combined ds ps)
combined_added [] ds ps = sym (none_plus (combined ds ps))
combined_added (c ∷ cs) [] ps = sym (plus_none (combined (c ∷ cs) ps))
combined_added (c ∷ cs) (d ∷ ds) [] = sym (plus_none no_word)
combined_added (c ∷ cs) (d ∷ ds) (p ∷ ps) =
    ap (λ (x : Word). plus x (combined (added cs ds) ps)) (scaled_sum c d p)
    ∙ ap (λ (x : Word). plus (plus (scaled c p) (scaled d p)) x) (combined_added cs ds ps)
    ∙ plus_four (scaled c p) (scaled d p) (combined cs ps) (combined ds ps)

-- a period is made of the periods
pub made_member : (ps : List Word) → Into (MemberOf ps) (IsMadeOf ps)
made_member [] w h = absurd h
made_member (p ∷ ps) w h =
    ⊎_elim
    (λ e. (1 ∷ [], sym e ∙ sym (scaled_one p) ∙ sym (plus_none (scaled 1 p))))
    (λ k. let r = made_member ps w k in
    (0 ∷ r.0, r.1 ∙ sym (none_plus (combined r.0 ps)) ∙ ap (λ (x : Word). plus x (combined r.0 ps)) (sym (scaled_zero p))))
    h

pub made_sum : (ps : List Word) (u v : Word) → IsMadeOf ps u → IsMadeOf ps v → IsMadeOf ps (plus u v)
made_sum ps u v h k =
    (added h.0 k.0, ap (λ (x : Word). plus x v) h.1 ∙ ap (λ (x : Word). plus (combined h.0 ps) x) k.1 ∙ sym (combined_added h.0 k.0 ps))

-- what is made of periods with numbers is a finite sum of them, and the other way round
pub made_from : (ps : List Word) → Into (Spanned ps) (IsMadeOf ps)
made_from ps = star_least (MemberOf ps) (IsMadeOf ps) ([], refl) (made_sum ps) (made_member ps)

combined_spans : (cs : List ℕ) (ps : List Word) → Spanned ps (combined cs ps)
combined_spans [] ps = star_none (MemberOf ps)
combined_spans (c ∷ cs) [] = star_none (MemberOf [])
combined_spans (c ∷ cs) (p ∷ ps) =
    star_sum (MemberOf (p ∷ ps)) (scaled c p) (combined cs ps)
    (star_scaled (MemberOf (p ∷ ps)) c p (star_one (MemberOf (p ∷ ps)) p (inl refl)))
    (star_mono (MemberOf ps) (MemberOf (p ∷ ps)) (λ w k. inr k) (combined cs ps) (combined_spans cs ps))

pub made_to : (ps : List Word) → Into (IsMadeOf ps) (Spanned ps)
made_to ps w h = subst (Spanned ps) (sym h.1) (combined_spans h.0 ps)

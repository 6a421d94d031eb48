-- Look-ups behind needs of lesser variables.
use Rattle.std.proofs.Common.{◌≡◌, ℕ, zero, suc, ◌+◌, ◌-◌, ◌≤◌, ◌<◌, Bool, true, false, nat_eq, nat_lt, if◌then◌else◌, List, [], ◌∷◌, ◌++◌, length, map, take, drop, get_or, Option, Some, None, refl, sym, ap, ◌∙◌, subst, arith, ⊎_elim, slice_set}
use Rattle.std.specs.Prelude.{slice_get}
use Rattle.std.specs.List.{AllByRecursion}
use Rattle.std.proofs.lemmas.List.{length-drop, take_all, append-nil, append_assoc, map-append, at_drop_all, at_drop_more}
use Rattle.std.proofs.lemmas.Option.{slice_get_read, slice_get-get_or}
use Rattle.std.specs.Borrow.{Bor}
use Rattle.pat_type_system_spec.specs.Types as types
use Rattle.pat_infer_environments.specs.Combining.{need_ref, column_view}
use Rattle.pat_infer_environments.specs.Gathering.{column_at}
use Rattle.std.proofs.lemmas.Bool.{cond-true, cond-false, ne_eqb, ltb-true, lt-ltb, cases_Bool}
use Rattle.pat_type_schemes_spec.specs.NodeTypes.{need_of}
use Rattle.pat_types.specs.Views.{type_view, needs_view}
use Rattle.pat_types.specs.declared.types.MailboxType.{MailboxType}
use Rattle.pat_infer_environments.specs.Looking.{IsAt, AreAt, first_is_lesser}
use Rattle.pat_infer_environments.specs.declared.looking.Cursor.{Cursor}

-- what stands behind lesser variables is found there
pub need_behind : (needs : List (ℕ × MailboxType)) (n x : ℕ) → AllByRecursion (λ e. e.0 < x) (take n needs) → need_of (needs_view (drop n needs)) x ≡ need_of (needs_view needs) x
need_behind [] zero x h = refl
need_behind [] (suc n) x h = refl
need_behind (e ∷ es) zero x h = refl
need_behind (e ∷ es) (suc n) x h =
    let l = h.0 in
    need_behind es n x h.1
    ∙ sym (cond-false (nat_eq x e.0) (Some (type_view e.1)) (need_of (needs_view es) x) (ne_eqb x e.0 (λ q. omega arith)))

-- the same of a piece to the end
pub need_in : (needs : List (ℕ × MailboxType)) (n x : ℕ) → AllByRecursion (λ e. e.0 < x) (take n needs) → need_of (needs_view (take (length needs - n) (drop n needs))) x ≡ need_of (needs_view needs) x
need_in needs n x h =
    let short : length (drop n needs) ≤ length needs - n = omega (arith, length-drop n needs) in
    ap (λ (zs : List (ℕ × MailboxType)). need_of (needs_view zs) x) (take_all (length needs - n) (drop n needs) short) ∙ need_behind needs n x h

less_than : (j k : ℕ) (es : List (ℕ × MailboxType)) → j ≤ k → AllByRecursion (λ e. e.0 < j) es → AllByRecursion (λ e. e.0 < k) es
less_than j k [] l h = tt
less_than j k (e ∷ es) l h = (let m = h.0 in omega arith, less_than j k es l h.1)

abbrev begins : Cursor → ℕ → ℕ
begins c x = if nat_lt x c.last then 0 else c.place

pub begun_within : (needs : List (ℕ × MailboxType)) (c : Cursor) (n x : ℕ) → IsAt needs c → n ≡ (if nat_lt x c.last then 0 else c.place) → n ≤ length needs
begun_within needs c n x h e =
    ⊎_elim
    (λ q. let none : n ≡ 0 = e ∙ cond-true (nat_lt x c.last) 0 c.place q in omega arith)
    (λ q. let here : n ≡ c.place = e ∙ cond-false (nat_lt x c.last) 0 c.place q in let w = h.within in omega arith)
    (cases_Bool (nat_lt x c.last))

pub begun_front : (needs : List (ℕ × MailboxType)) (c : Cursor) (n x : ℕ) → IsAt needs c → n ≡ (if nat_lt x c.last then 0 else c.place) → AllByRecursion (λ e. e.0 < x) (take n needs)
begun_front needs c n x h e =
    ⊎_elim
    (λ q. subst (λ k. AllByRecursion (λ e. e.0 < x) (take k needs)) (sym (e ∙ cond-true (nat_lt x c.last) 0 c.place q)) (nothing needs))
    (λ q.
    let above : x < c.last → ⊥ = λ l. let less : nat_lt x c.last ≡ true = lt-ltb x c.last l in let clash : true ≡ false = sym less ∙ q in cc in
    subst (λ k. AllByRecursion (λ e. e.0 < x) (take k needs)) (sym (e ∙ cond-false (nat_lt x c.last) 0 c.place q)) (less_than c.last x (take c.place needs) (omega arith) h.front))
    (cases_Bool (nat_lt x c.last))
  where
    nothing : (es : List (ℕ × MailboxType)) → AllByRecursion (λ e. e.0 < x) (take 0 es)
    nothing [] = tt
    nothing (e ∷ es) = tt

-- one need more is of a lesser variable
one_more : (needs : List (ℕ × MailboxType)) (n x : ℕ) → AllByRecursion (λ e. e.0 < x) (take n needs) → first_is_lesser x (drop n needs) ≡ true → AllByRecursion (λ e. e.0 < x) (take (suc n) needs)
one_more [] zero x h f = cc
one_more [] (suc n) x h f = cc
one_more (e ∷ []) zero x h f = (ltb-true e.0 x f, tt)
one_more (e ∷ d ∷ es) zero x h f = (ltb-true e.0 x f, tt)
one_more (e ∷ es) (suc n) x h f = (h.0, one_more es n x h.1 f)

pub one_skipped : (needs : List (ℕ × MailboxType)) (n x : ℕ) → AllByRecursion (λ e. e.0 < x) (take n needs) → first_is_lesser x (drop n needs) ≡ true → AllByRecursion (λ e. e.0 < x) (take (n + 1) needs)
one_skipped needs n x h f =
    let next : suc n ≡ n + 1 = omega arith in
    subst (λ k. AllByRecursion (λ e. e.0 < x) (take k needs)) next (one_more needs n x h f)

pub still_within : (needs : List (ℕ × MailboxType)) (n x : ℕ) → first_is_lesser x (drop n needs) ≡ true → n < length needs
still_within [] zero x f = cc
still_within [] (suc n) x f = cc
still_within (e ∷ es) zero x f = omega arith
still_within (e ∷ es) (suc n) x f = let l = still_within es n x f in omega arith

-- ---- branches

-- the place in each branch
pub at_place : (branches : List (List (ℕ × MailboxType))) (cursors : List Cursor) (n : ℕ) (needs : List (ℕ × MailboxType)) (c : Cursor) → AreAt branches cursors → slice_get branches n ≡ Some needs → slice_get cursors n ≡ Some c → IsAt needs c
at_place [] [] zero needs c h b e = cc
at_place [] [] (suc n) needs c h b e = cc
at_place [] (d ∷ ds) n needs c h b e = absurd h
at_place (m ∷ ms) [] n needs c h b e = absurd h
at_place (m ∷ ms) (d ∷ ds) zero needs c h b e =
    let same : m ≡ needs = cc in let one : d ≡ c = cc in subst (IsAt needs) one (subst (λ (z : List (ℕ × MailboxType)). IsAt z d) same h.0)
at_place (m ∷ ms) (d ∷ ds) (suc n) needs c h b e = at_place ms ds n needs c h.1 b e

pub moved_at : (branches : List (List (ℕ × MailboxType))) (cursors : List Cursor) (n : ℕ) (needs : List (ℕ × MailboxType)) (c : Cursor) → AreAt branches cursors → slice_get branches n ≡ Some needs → IsAt needs c → AreAt branches (slice_set cursors n c)
moved_at [] [] zero needs c h b a = cc
moved_at [] [] (suc n) needs c h b a = cc
moved_at [] (d ∷ ds) n needs c h b a = absurd h
moved_at (m ∷ ms) [] n needs c h b a = absurd h
moved_at (m ∷ ms) (d ∷ ds) zero needs c h b a =
    let same : m ≡ needs = cc in (subst (λ (z : List (ℕ × MailboxType)). IsAt z c) (sym same) a, h.1)
moved_at (m ∷ ms) (d ∷ ds) (suc n) needs c h b a = (h.0, moved_at ms ds n needs c h.1 b a)

pub as_many : (branches : List (List (ℕ × MailboxType))) (cursors : List Cursor) → AreAt branches cursors → length branches ≡ length cursors
as_many [] [] h = refl
as_many [] (d ∷ ds) h = absurd h
as_many (m ∷ ms) [] h = absurd h
as_many (m ∷ ms) (d ∷ ds) h = ap suc (as_many ms ds h.1)

-- a place before all needs
pub at_begin : (needs : List (ℕ × MailboxType)) (c : Cursor) → c.place ≡ 0 → IsAt needs c
at_begin needs c e = record {
  within = omega (arith, e);
  front = subst (λ k. AllByRecursion (λ d. d.0 < c.last) (take k needs)) (sym e) (nothing needs);
}
  where
    nothing : (es : List (ℕ × MailboxType)) → AllByRecursion (λ d. d.0 < c.last) (take 0 es)
    nothing [] = tt
    nothing (d ∷ es) = tt

-- the places so far, with those of the branches that are left, are the places of all
abbrev pub BegunWith : List (List (ℕ × MailboxType)) → List (List (ℕ × MailboxType)) → List Cursor → Type 0
BegunWith all left cursors = (rest : List Cursor) → AreAt left rest → AreAt all (cursors ++ rest)

pub one_begun : (all left : List (List (ℕ × MailboxType))) (needs : List (ℕ × MailboxType)) (cursors more : List Cursor) (c : Cursor) → BegunWith all (needs ∷ left) cursors → more ≡ cursors ++ c ∷ [] → c.place ≡ 0 → BegunWith all left more
one_begun all left needs cursors more c f e p = λ rest h.
    subst (λ zs. AreAt all zs) (sym (ap (λ zs. zs ++ rest) e ∙ append_assoc cursors (c ∷ []) rest)) (f (c ∷ rest) (at_begin needs c p, h))

pub all_begun : (all : List (List (ℕ × MailboxType))) (n : ℕ) (cursors : List Cursor) → BegunWith all (drop n all) cursors → length all ≤ n → AreAt all cursors
all_begun all n cursors f l =
    let done : BegunWith all [] cursors = subst (λ (ms : List (List (ℕ × MailboxType))). BegunWith all ms cursors) (at_drop_all (λ ms. ms) all n l) f in
    subst (λ zs. AreAt all zs) (append-nil cursors) (done [] tt)

-- ---- in a loop over branches

pub at_index : (branches : List (List (ℕ × MailboxType))) (cursors : List Cursor) (n : ℕ) (needs ms : List (ℕ × MailboxType)) (cs : List Cursor) (d : Cursor) → AreAt branches cursors → n < length branches → needs ≡ get_or branches n needs → ms ≡ needs → cs ≡ cursors → IsAt ms (get_or cs n d)
at_index branches cursors n needs ms cs d h l e s t =
    let here : slice_get branches n ≡ Some needs = slice_get_read branches (length branches) n needs refl l e in
    let within : n < length cursors = subst (λ k. n < k) (as_many branches cursors h) l in
    subst (λ zs. IsAt zs (get_or cs n d)) (sym s)
    (subst (λ zs. IsAt needs (get_or zs n d)) (sym t) (at_place branches cursors n needs (get_or cursors n d) h here (slice_get-get_or cursors n d within)))

pub moved_index : (branches : List (List (ℕ × MailboxType))) (cursors more : List Cursor) (n : ℕ) (needs ms : List (ℕ × MailboxType)) (c : Cursor) → AreAt branches cursors → n < length branches → needs ≡ get_or branches n needs → ms ≡ needs → IsAt ms c → more ≡ slice_set cursors n c → AreAt branches more
moved_index branches cursors more n needs ms c h l e s a m =
    let here : slice_get branches n ≡ Some needs = slice_get_read branches (length branches) n needs refl l e in
    subst (λ zs. AreAt branches zs) (sym m) (moved_at branches cursors n needs c h here (subst (λ zs. IsAt zs c) s a))

pub column_more : (x : ℕ) (branches : List (List (ℕ × MailboxType))) (n : ℕ) (needs ms : List (ℕ × MailboxType)) (old new : List (Option (Bor MailboxType))) (r : Option (Bor MailboxType)) (whole : List (Option types.MailboxType)) → n < length branches → needs ≡ get_or branches n needs → ms ≡ needs → new ≡ old ++ r ∷ [] → need_ref r ≡ need_of (needs_view ms) x → column_view old ++ column_at x (map needs_view (drop n branches)) ≡ whole → column_view new ++ column_at x (map needs_view (drop (n + 1) branches)) ≡ whole
column_more x branches n needs ms old new r whole l e s p f w =
    let row : drop n branches ≡ needs ∷ drop (n + 1) branches = at_drop_more (λ ys. ys) branches n needs l ∙ ap (λ y. y ∷ drop (n + 1) branches) (sym e) in
    let rest : List (Option types.MailboxType) = column_at x (map needs_view (drop (n + 1) branches)) in
    let seen : column_view new ≡ column_view old ++ need_of (needs_view needs) x ∷ [] =
    ap column_view p ∙ map-append need_ref old (r ∷ []) ∙ ap (λ o. column_view old ++ o ∷ []) (f ∙ ap (λ zs. need_of (needs_view zs) x) s) in
    ap (λ zs. zs ++ rest) seen
    ∙ append_assoc (column_view old) (need_of (needs_view needs) x ∷ []) rest
    ∙ ap (λ (zs : List (List (ℕ × MailboxType))). column_view old ++ column_at x (map needs_view zs)) (sym row)
    ∙ w

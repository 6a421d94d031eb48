-- A search as far as it has come: a frame more, the last frame gone, one more of its period.
use Rattle.std.proofs.Common.{◌≡◌, ℕ, zero, suc, ◌+◌, ◌*◌, ◌-◌, ◌<◌, ◌≤◌, true, List, [], ◌∷◌, ◌++◌, length, get_or, drop, take, Bool, Option, Some, None, inl, inr, ◌⊎◌, ⊎_elim, refl, sym, ap, ◌∙◌, subst, arith, suc-mul, mul-zero, zero-mul, add-mul}
use Rattle.std.specs.Prelude.{slice_get, slice_set}
use Rattle.std.proofs.lemmas.List.{take_rest}
use Rattle.std.proofs.lemmas.Bool.{cases_lt}
use Rattle.pat_words_spec.specs.Words.{Word, no_word, plus, LiesIn}
use Rattle.pat_words_spec.specs.Tags.{HasTagsBelow}
use Rattle.pat_words_laws.proofs.WordLaws.{word_ext, count_eq}
use Rattle.pat_bags.specs.declared.Bag.{Bag}
use Rattle.pat_bags.specs.Views.{word_of}
use Rattle.pat_inclusion_spec.specs.Counts.{most_tags, scaled}
use Rattle.pat_inclusion_spec.specs.Covers.{makes}
use Rattle.pat_linear.specs.Views.{words_of}
use Rattle.pat_cover_certificates.specs.declared.coefficients.failed.Note.{Note}
use Rattle.pat_cover_certificates.specs.declared.coefficients.frames.Frame.{Frame}
use Rattle.pat_cover_certificates.specs.coefficients.Numbers.{NoNumbers, tags_occur}
use Rattle.pat_cover_certificates.specs.coefficients.Frames.{left_of, to_come, Stands, CameToNothing, GoesOn}
use Rattle.pat_limits.specs.Limits.{number_count}
use Rattle.pat_cover_certificates.proofs.Making.{made, makes_by, take_first}

-- there are no more frames than periods
pub stands_fits : (n : ℕ) (ps : List Word) (w : Word) (fs : List Frame) → Stands n ps w fs → length fs ≤ length ps
stands_fits n ps w [] s = omega arith
stands_fits n [] w (f ∷ fs) s = absurd s
stands_fits n (p ∷ ps) w (f ∷ fs) s = let h = stands_fits n ps (word_of f.left) fs s.2 in omega arith

-- the periods still to come stand behind as many as there are frames
pub coming : (bs : List Bag) (fs : List Frame) → to_come (words_of bs) fs ≡ words_of (drop (length fs) bs)
coming bs [] = refl
coming [] (f ∷ fs) = refl
coming (b ∷ bs) (f ∷ fs) = coming bs fs

-- none is to come
pub all_taken : (ps : List Word) (fs : List Frame) → length fs ≡ length ps → to_come ps fs ≡ []
all_taken [] [] e = refl
all_taken [] (f ∷ fs) e = absurd (omega arith)
all_taken (p ∷ ps) [] e = absurd (omega arith)
all_taken (p ∷ ps) (f ∷ fs) e = all_taken ps fs (omega arith)

pub left_last : (w : Word) (fs : List Frame) (f : Frame) → left_of w (fs ++ f ∷ []) ≡ word_of f.left
left_last w [] f = refl
left_last w (g ∷ fs) f = left_last (word_of g.left) fs f

-- ---- a frame more

pub push_stands : (n : ℕ) (ps : List Word) (w : Word) (fs : List Frame) (f : Frame) → Stands n ps w fs → length fs < length ps → f.number ≡ 0 → word_of f.left ≡ left_of w fs → word_of f.before ≡ left_of w fs → Stands n ps w (fs ++ f ∷ [])
push_stands n [] w fs f s l z e e1 = absurd (omega arith)
push_stands n (p ∷ ps) w [] f s l z e e1 = (
  word_ext (plus (word_of f.left) (scaled f.number p)) w (λ t. let x = count_eq (word_of f.left) w e t in let y : f.number * p t ≡ 0 = ap (λ c. c * p t) z ∙ zero-mul (p t) in omega arith),
  λ m b. absurd (omega arith),
  tt,
  e1,
)
push_stands n (p ∷ ps) w (g ∷ fs) f s l z e e1 = (s.0, s.1, push_stands n ps (word_of g.left) fs f s.2 (omega arith) z e e1, s.3)

-- ---- the last frame

-- without it the others stand
pub front_stands : (n : ℕ) (ps : List Word) (w : Word) (fs : List Frame) (f : Frame) → Stands n ps w (fs ++ f ∷ []) → Stands n ps w fs
front_stands n ps w [] f s = tt
front_stands n [] w (g ∷ fs) f s = absurd s
front_stands n (p ∷ ps) w (g ∷ fs) f s = (s.0, s.1, front_stands n ps (word_of g.left) fs f s.2, s.3)

-- what it takes and leaves lies in the word
pub last_within : (n : ℕ) (ps : List Word) (w : Word) (fs : List Frame) (f : Frame) (p : Word) → Stands n ps w (fs ++ f ∷ []) → slice_get ps (length fs) ≡ Some p → (t : ℕ) → word_of f.left t + f.number * p t ≤ w t
last_within n [] w [] f p s at t = absurd s
last_within n [] w (g ∷ fs) f p s at t = absurd s
last_within n (q ∷ ps) w [] f p s at t =
    let same : q ≡ p = cc in
    let x = count_eq (plus (word_of f.left) (scaled f.number q)) w s.0 t in
    subst (λ (r : Word). word_of f.left t + f.number * r t ≤ w t) same (omega arith)
last_within n (q ∷ ps) w (g ∷ fs) f p s at t =
    let x = count_eq (plus (word_of g.left) (scaled g.number q)) w s.0 t in
    let y = last_within n ps (word_of g.left) fs f p s.2 at t in
    omega arith

-- one more of its period is taken
pub next_stands : (n : ℕ) (ps : List Word) (w : Word) (fs : List Frame) (f g : Frame) (p : Word) → Stands n ps w (fs ++ f ∷ []) → slice_get ps (length fs) ≡ Some p → g.number ≡ f.number + 1 → plus (word_of g.left) p ≡ word_of f.left → word_of g.before ≡ word_of f.before → NoNumbers n (to_come ps (fs ++ f ∷ [])) (left_of w (fs ++ f ∷ [])) → Stands n ps w (fs ++ g ∷ [])
next_stands n [] w [] f g p s at e h eb none = absurd s
next_stands n [] w (k ∷ fs) f g p s at e h eb none = absurd s
next_stands n (q ∷ ps) w [] f g p s at e h eb none =
    let same : p ≡ q = cc in
    let taken : plus (word_of g.left) q ≡ word_of f.left = subst (λ r. plus (word_of g.left) r ≡ word_of f.left) same h in (
      word_ext (plus (word_of g.left) (scaled g.number q)) w (λ t.
          let x = count_eq (plus (word_of g.left) q) (word_of f.left) taken t in
          let y = count_eq (plus (word_of f.left) (scaled f.number q)) w s.0 t in
          let z : g.number * q t ≡ f.number * q t + q t = ap (λ c. c * q t) (e ∙ one_more f.number) ∙ suc-mul f.number (q t) in
          omega arith),
      λ m b cs k. ⊎_elim
          (λ (l : m < f.number). s.1 m l cs k)
          (λ r. let here : m ≡ f.number = omega arith in
          none cs (take_first n f.number q ps cs (word_of f.left) w s.0 (subst (λ c. makes n (q ∷ ps) (c ∷ cs) w ≡ true) here k)))
          (cases_lt m f.number),
      tt,
      eb ∙ s.3,
    )
  where
    one_more : (k : ℕ) → k + 1 ≡ suc k
    one_more k = omega arith
next_stands n (q ∷ ps) w (k ∷ fs) f g p s at e h eb none = (s.0, s.1, next_stands n ps (word_of k.left) fs f g p s.2 at e h eb none, s.3)

-- no more of its period can be taken, so nothing is made from there on
above : (n a m : ℕ) (q : Word) (ps : List Word) (cs : List ℕ) (v w : Word) → plus v (scaled a q) ≡ w → a < m → makes n (q ∷ ps) (m ∷ cs) w ≡ true → ((t : ℕ) → t < n → q t ≤ v t)
above n a m q ps cs v w e l h t b =
    let x = (made n (q ∷ ps) (m ∷ cs) w h).1 t b in
    let y = count_eq (plus v (scaled a q)) w e t in
    let z : m * q t ≡ (m - suc a) * q t + (a * q t + q t) = ap (λ c. c * q t) (split a m l) ∙ add-mul (m - suc a) (suc a) (q t) ∙ ap (λ c. (m - suc a) * q t + c) (suc-mul a (q t)) in
    omega arith
  where
    split : (a m : ℕ) → a < m → m ≡ (m - suc a) + suc a
    split a m l = omega arith

-- what is left once one more is taken isn't made from there on
taken_more : (n a m : ℕ) (q : Word) (ps : List Word) (cs : List ℕ) (u v w : Word) → plus v (scaled a q) ≡ w → plus u q ≡ v → a < m → makes n (q ∷ ps) (m ∷ cs) w ≡ true → NoNumbers n (q ∷ ps) u → ⊥
taken_more n a m q ps cs u v w e one l h none =
    let made_by = made n (q ∷ ps) (m ∷ cs) w h in
    let many = made_by.0 in
    none ((m - suc a) ∷ cs) (makes_by n (q ∷ ps) ((m - suc a) ∷ cs) u (omega arith) (λ t b.
    let x = made_by.1 t b in
    let y = count_eq (plus v (scaled a q)) w e t in
    let o = count_eq (plus u q) v one t in
    let z : m * q t ≡ (m - suc a) * q t + (a * q t + q t) = ap (λ c. c * q t) (split a m l) ∙ add-mul (m - suc a) (suc a) (q t) ∙ ap (λ c. (m - suc a) * q t + c) (suc-mul a (q t)) in
    omega arith))
  where
    split : (a m : ℕ) → a < m → m ≡ (m - suc a) + suc a
    split a m l = omega arith

-- one more can't be taken, or comes to nothing
abbrev pub Ends : ℕ → List Word → Frame → Word → Type 0
Ends n coming f p =
    ((p ≡ no_word) ⊎ (((t : ℕ) → t < n → p t ≤ word_of f.left t) → ⊥)) ⊎ ((v : Word) × (plus v p ≡ word_of f.left) × NoNumbers n coming v)

pub ends_here : (n : ℕ) (ps : List Word) (w : Word) (fs : List Frame) (f : Frame) (p : Word) → Stands n ps w (fs ++ f ∷ []) → slice_get ps (length fs) ≡ Some p → Ends n (to_come ps fs) f p → NoNumbers n (to_come ps (fs ++ f ∷ [])) (left_of w (fs ++ f ∷ [])) → NoNumbers n (to_come ps fs) (left_of w fs)
ends_here n [] w [] f p s at e none cs k = absurd s
ends_here n [] w (g ∷ fs) f p s at e none cs k = absurd s
ends_here n (q ∷ ps) w [] f p s at e none [] k = let l = (made n (q ∷ ps) [] w k).0 in absurd (omega arith)
ends_here n (q ∷ ps) w [] f p s at e none (m ∷ cs) k =
    let same : p ≡ q = cc in
    ⊎_elim
    (λ (l : m < f.number). s.1 m l cs k)
    (λ r. ⊎_elim
    (λ (l : f.number < m). ⊎_elim
    (λ a. ⊎_elim
    (λ z. none cs (empty (sym same ∙ z)))
    (λ o. o (subst (λ (x : Word). (t : ℕ) → t < n → x t ≤ word_of f.left t) (sym same) (above n f.number m q ps cs (word_of f.left) w s.0 l k)))
    a)
    (λ r. taken_more n f.number m q ps cs r.0 (word_of f.left) w s.0 (subst (λ (x : Word). plus r.0 x ≡ word_of f.left) same r.1) l k r.2)
    e)
    (λ b. let here : m ≡ f.number = omega arith in
    none cs (take_first n f.number q ps cs (word_of f.left) w s.0 (subst (λ c. makes n (q ∷ ps) (c ∷ cs) w ≡ true) here k)))
    (cases_lt f.number m))
    (cases_lt m f.number)
  where
    empty : q ≡ no_word → makes n ps cs (word_of f.left) ≡ true
    empty z =
        let m1 = made n (q ∷ ps) (m ∷ cs) w k in
        let l = m1.0 in
        makes_by n ps cs (word_of f.left) (omega arith) (λ t b.
        let x = m1.1 t b in
        let y = count_eq (plus (word_of f.left) (scaled f.number q)) w s.0 t in
        let q0 = count_eq q no_word z t in
        let a : m * q t ≡ 0 = ap (λ c. m * c) q0 ∙ mul-zero m in
        let c : f.number * q t ≡ 0 = ap (λ c. f.number * c) q0 ∙ mul-zero f.number in
        omega arith)
ends_here n (q ∷ ps) w (g ∷ fs) f p s at e none cs k = ends_here n ps (word_of g.left) fs f p s.2 at e none cs k

-- ---- lists

-- the bag that stands for one past the end of a list
abbrev pub nowhere : Bag
nowhere = record { counts = [] }

-- the period at a place
pub period_at : (bs : List Bag) (i : ℕ) (d : Bag) → i < length bs → slice_get (words_of bs) i ≡ Some (word_of (get_or bs i d))
period_at [] i d l = absurd (omega arith)
period_at (b ∷ bs) zero d l = refl
period_at (b ∷ bs) (suc i) d l = period_at bs i d (omega arith)

pub seam : (fs : List Frame) (f : Frame) (gs : List Frame) → (fs ++ f ∷ []) ++ gs ≡ fs ++ f ∷ gs
seam [] f gs = refl
seam (k ∷ fs) f gs = ap (λ x. k ∷ x) (seam fs f gs)

-- a word without tags from the most on lies in another where its first counts do
pub lies_all : (u v : Word) → HasTagsBelow most_tags u → ((t : ℕ) → t < most_tags → u t ≤ v t) → LiesIn u v
lies_all u v few h t = ⊎_elim (λ l. h t l) (λ g. let none = few t g in omega arith) (cases_lt t most_tags)

-- what was left before the last frame's period
pub last_before : (n : ℕ) (ps : List Word) (w : Word) (fs : List Frame) (f : Frame) → Stands n ps w (fs ++ f ∷ []) → word_of f.before ≡ left_of w fs
last_before n [] w [] f s = absurd s
last_before n [] w (g ∷ fs) f s = absurd s
last_before n (p ∷ ps) w [] f s = s.3
last_before n (p ∷ ps) w (g ∷ fs) f s = last_before n ps (word_of g.left) fs f s.2

-- what it takes and leaves is what was left before
pub last_whole : (n : ℕ) (ps : List Word) (w : Word) (fs : List Frame) (f : Frame) (p : Word) → Stands n ps w (fs ++ f ∷ []) → slice_get ps (length fs) ≡ Some p → plus (word_of f.left) (scaled f.number p) ≡ word_of f.before
last_whole n [] w [] f p s at = absurd s
last_whole n [] w (g ∷ fs) f p s at = absurd s
last_whole n (q ∷ ps) w [] f p s at =
    let same : q ≡ p = cc in
    subst (λ (r : Word). plus (word_of f.left) (scaled f.number r) ≡ word_of f.before) same (s.0 ∙ sym s.3)
last_whole n (q ∷ ps) w (g ∷ fs) f p s at = last_whole n ps (word_of g.left) fs f p s.2 at

-- what is not made with more of a period isn't made with less
pub lower : (n : ℕ) (ps : List Word) (i k : ℕ) (p v w : Word) → slice_get ps i ≡ Some p → plus v (scaled k p) ≡ w → NoNumbers n (drop i ps) w → NoNumbers n (drop i ps) v
lower n [] i k p v w at e none cs h = absurd (cc)
lower n (q ∷ ps) zero k p v w at e none [] h = let l = (made n (q ∷ ps) [] v h).0 in absurd (omega arith)
lower n (q ∷ ps) zero k p v w at e none (c ∷ cs) h =
    let same : p ≡ q = cc in
    let m = made n (q ∷ ps) (c ∷ cs) v h in
    let many = m.0 in
    let whole : plus v (scaled k q) ≡ w = subst (λ (r : Word). plus v (scaled k r) ≡ w) same e in
    none ((c + k) ∷ cs) (makes_by n (q ∷ ps) ((c + k) ∷ cs) w (omega arith) (λ t b.
    let x = m.1 t b in
    let y = count_eq (plus v (scaled k q)) w whole t in
    let z = add-mul c k (q t) in
    omega arith))
lower n (q ∷ ps) (suc i) k p v w at e none cs h = lower n ps i k p v w at e none cs h

-- with one more of a period there is one fewer of them to come
one_fewer : (k : ℕ) (p : Word) (t : ℕ) → 0 < k → k * p t ≡ (k - 1) * p t + p t
one_fewer k p t l = ap (λ c. c * p t) (split k l) ∙ suc-mul (k - 1) (p t)
  where
    split : (k : ℕ) → 0 < k → k ≡ suc (k - 1)
    split k l = omega arith

pub fewer : (k : ℕ) (p u v w : Word) → 0 < k → plus v (scaled k p) ≡ w → u ≡ plus v p → plus u (scaled (k - 1) p) ≡ w
fewer k p u v w l e one =
    word_ext (plus u (scaled (k - 1) p)) w (λ t.
    let x = count_eq (plus v (scaled k p)) w e t in
    let y = count_eq u (plus v p) one t in
    let z = one_fewer k p t l in
    omega arith)

pub fits_more : (k : ℕ) (p v w : Word) (t : ℕ) → 0 < k → plus v (scaled k p) ≡ w → w t < number_count → v t + p t < number_count
fits_more k p v w t l e b =
    let x = count_eq (plus v (scaled k p)) w e t in
    let z = one_fewer k p t l in
    omega arith

-- ---- what came to nothing

pub came_dropped : (bs : List Bag) (i : ℕ) → drop i (words_of bs) ≡ words_of (drop i bs)
came_dropped bs zero = refl
came_dropped [] (suc i) = refl
came_dropped (b ∷ bs) (suc i) = came_dropped bs i

set_cases : {A : Type 0} → (xs : List A) (i : ℕ) (y z : A) (j : ℕ) → slice_get (slice_set xs i y) j ≡ Some z → ((j ≡ i) × (y ≡ z)) ⊎ (slice_get xs j ≡ Some z)
set_cases [] i y z j h = inr h
set_cases (x ∷ xs) zero y z zero h = inl (refl, cc)
set_cases (x ∷ xs) zero y z (suc j) h = inr h
set_cases (x ∷ xs) (suc i) y z zero h = inr h
set_cases (x ∷ xs) (suc i) y z (suc j) h = ⊎_elim (λ p. inl (ap suc p.0, p.1)) (λ q. inr q) (set_cases xs i y z j h)

-- the periods from a place on, and those still to come there
pub from_here : (bs : List Bag) (fs : List Frame) (i : ℕ) → i ≡ length fs → drop i (words_of bs) ≡ to_come (words_of bs) fs
from_here bs fs i same = came_dropped bs i ∙ ap (λ k. words_of (drop k bs)) same ∙ sym (coming bs fs)

-- what the periods from the last frame on don't make, by its place
pub none_from : (n : ℕ) (bs : List Bag) (fs : List Frame) (w v : Word) (i : ℕ) → i ≡ length fs → v ≡ left_of w fs → NoNumbers n (to_come (words_of bs) fs) (left_of w fs) → NoNumbers n (drop i (words_of bs)) v
none_from n bs fs w v i here same none =
    subst (λ l. NoNumbers n l v) (sym (from_here bs fs i here))
    (subst (λ (x : Word). NoNumbers n (to_come (words_of bs) fs) x) (sym same) none)

-- one more is noted
pub one_came : (n : ℕ) (ps : List Word) (failed : List (Option Note)) (slot : ℕ) (new : Note) → CameToNothing n ps failed → NoNumbers n (drop new.place ps) (word_of new.left) → CameToNothing n ps (slice_set failed slot (Some new))
one_came n ps failed slot new old none j u at =
    ⊎_elim
    (λ p. let own : new ≡ u = cc in subst (λ (x : Note). NoNumbers n (drop x.place ps) (word_of x.left)) own none)
    (λ q. old j u q)
    (set_cases failed slot (Some new) (Some u) j at)

none_last : (failed : List (Option Note)) (i : ℕ) (v : Note) → slice_get (failed ++ None ∷ []) i ≡ Some (Some v) → slice_get failed i ≡ Some (Some v)
none_last [] zero v h = absurd (cc)
none_last [] (suc i) v h = absurd (cc)
none_last (x ∷ failed) zero v h = h
none_last (x ∷ failed) (suc i) v h = none_last failed i v h

-- room for one more
pub room_came : (n : ℕ) (ps : List Word) (failed : List (Option Note)) → CameToNothing n ps failed → CameToNothing n ps (failed ++ None ∷ [])
room_came n ps failed old i v at = old i v (none_last failed i v at)

pub none_came : (n : ℕ) (ps : List Word) → CameToNothing n ps []
none_came n ps i v at = absurd (cc)

-- what came to nothing comes to nothing
pub came_again : (n : ℕ) (ps : List Word) (failed : List (Option Note)) (slot place : ℕ) (left : Word) (note : Note) → slice_get failed slot ≡ Some (Some note) → note.place ≡ place → word_of note.left ≡ left → CameToNothing n ps failed → NoNumbers n (drop place ps) left
came_again n ps failed slot place left note at here same came =
    subst (λ (x : Word). NoNumbers n (drop place ps) x) same
    (subst (λ i. NoNumbers n (drop i ps) (word_of note.left)) here (came slot note at))

-- the place is that of the last frame
pub nothing_here : (n : ℕ) (bs : List Bag) (fs : List Frame) (w left : Word) (i : ℕ) → i ≡ length fs → left ≡ left_of w fs → NoNumbers n (words_of (drop i bs)) left → NoNumbers n (to_come (words_of bs) fs) (left_of w fs)
nothing_here n bs fs w left i here same none =
    subst (λ (x : Word). NoNumbers n (to_come (words_of bs) fs) x) same
    (subst (λ l. NoNumbers n l left) (ap (λ k. words_of (drop k bs)) here ∙ sym (coming bs fs)) none)

-- there is no frame
pub nothing_at_all : (n : ℕ) (bs : List Bag) (fs : List Frame) (w : Word) → length fs ≡ 0 → NoNumbers n (to_come (words_of bs) fs) (left_of w fs) → NoNumbers n (words_of bs) w
nothing_at_all n bs [] w e h = h
nothing_at_all n bs (f ∷ fs) w e h = absurd (omega arith)

-- the test of the periods from a place on
pub test_says : (n : ℕ) (bs : List Bag) (i : ℕ) (left : Word) (test : Bool) → test ≡ tags_occur n (words_of (take (length bs - i) (drop i bs))) left → test ≡ tags_occur n (words_of (drop i bs)) left
test_says n bs i left test h = h ∙ ap (λ l. tags_occur n (words_of l) left) (take_rest bs i)

-- one more of the last frame's period can't be taken, or comes to nothing
pub goes_ends : (bs : List Bag) (fs : List Frame) (f : Frame) (p : Word) (i : ℕ) → i ≡ length fs → GoesOn most_tags (words_of bs) i f p None → Ends most_tags (to_come (words_of bs) fs) f p
goes_ends bs fs f p i here e =
    ⊎_elim
    (λ (a : (p ≡ no_word) ⊎ (((t : ℕ) → t < most_tags → p t ≤ word_of f.left t) → ⊥)). inl a)
    (λ (r : (v : Word) × (plus v p ≡ word_of f.left) × NoNumbers most_tags (drop i (words_of bs)) v). inr (r.0, r.1, subst (λ l. NoNumbers most_tags l r.0) (from_here bs fs i here) r.2))
    e

-- Names that come or go, one after another.
use Rattle.std.proofs.Common.{◌≡◌, ℕ, zero, suc, ◌+◌, ◌<◌, ◌≤◌, Bool, true, false, if◌then◌else◌, List, [], ◌∷◌, ◌++◌, length, get_or, map, drop, take, reverse, Some, refl, sym, ap, ◌∙◌, arith}
use Rattle.std.proofs.lemmas.List.{at_drop_more, at_drop_all, reverse-append, map-append, take-map}
use Rattle.pat_semantics_spec.specs.WellFormed.{count_if}
use Rattle.pat_semantics_spec.specs.Configs.{Message, is_mailbox}
use Rattle.pat_reduce_values.specs.ValueViews.{env_view, value_view}
use Rattle.pat_reduce_values.specs.declared.values.Value.{Value}
use Rattle.pat_reduce.specs.declared.threads.state.Frame.{Frame}
use Rattle.pat_reduce.specs.declared.threads.state.ThreadState.{ThreadState}
use Rattle.pat_reduce.specs.threads.ThreadViews.{control_view, frame_view, thread_view}
use Rattle.pat_machine_spec.specs.Tops.{top_of}
use Rattle.pat_machine_laws.specs.refcounts.Naming.{times_in_control, times_in_values, times_in_env, times_in_frames, times_in_thread}
use Rattle.pat_machine_laws.specs.refcounts.Counting.{count_at, last_message}
use Rattle.pat_machine_laws.specs.refcounts.Laws.{JoinedFramesCount}
use Rattle.pat_replay.specs.declared.names.Change.{Change}
use Rattle.pat_replay.specs.declared.names.Change.TheVariants.{Come, Go}
use Rattle.pat_replay.specs.Naming.{Changes}

-- all is the one part and the other
abbrev pub IsBoth : (all one other : ℕ → ℕ) → Type 0
IsBoth all one other = (a : ℕ) → all a ≡ one a + other a

-- once what is left is counted too, all is
abbrev pub IsUnderWay : Change → (old : List ℕ) (all : ℕ → ℕ) (now : List ℕ) (left : ℕ → ℕ) → Type 0
IsUnderWay Come old all now left = (a : ℕ) → count_at now a + left a ≡ count_at old a + all a
IsUnderWay Go old all now left = (a : ℕ) → count_at now a + all a ≡ count_at old a + left a

pub starts : (change : Change) (ns : List ℕ) (all : ℕ → ℕ) → IsUnderWay change ns all ns all
starts Come ns all = λ (a : ℕ). refl
starts Go ns all = λ (a : ℕ). refl

pub turns : (change : Change) (old now next : List ℕ) (all left one other : ℕ → ℕ) → IsUnderWay change old all now left → IsBoth left one other → Changes change now one next → IsUnderWay change old all next other
turns Come old now next all left one other way both changed = λ (a : ℕ). let w = way a in let e = both a in let f = changed a in omega arith
turns Go old now next all left one other way both changed = λ (a : ℕ). let w = way a in let e = both a in let f = changed a in omega arith

pub ends : (change : Change) (old now : List ℕ) (all left : ℕ → ℕ) → IsUnderWay change old all now left → ((a : ℕ) → left a ≡ 0) → Changes change old all now
ends Come old now all left way none = λ (a : ℕ). let w = way a in let e = none a in omega arith
ends Go old now all left way none = λ (a : ℕ). let w = way a in let e = none a in omega arith

-- the next value, and the others
pub values_left : (xs : List Value) (i : ℕ) (x : Value) → i < length xs → x ≡ get_or xs i x → (a : ℕ)
    → times_in_values a (map value_view (drop i xs)) ≡ count_if (is_mailbox a (value_view x)) + times_in_values a (map value_view (drop (i + 1) xs))
values_left xs i x h is a =
    at_drop_more (λ vs. times_in_values a (map value_view vs)) xs i x h
    ∙ ap (λ v. count_if (is_mailbox a (value_view v)) + times_in_values a (map value_view (drop (i + 1) xs))) (sym is)

pub values_end : (xs : List Value) (i : ℕ) → length xs ≤ i → (a : ℕ) → times_in_values a (map value_view (drop i xs)) ≡ 0
values_end xs i h a = at_drop_all (λ vs. times_in_values a (map value_view vs)) xs i h

pub env_left : (xs : List (ℕ × Value)) (i : ℕ) (x : ℕ × Value) → i < length xs → x ≡ get_or xs i x → (a : ℕ)
    → times_in_env a (env_view (drop i xs)) ≡ count_if (is_mailbox a (value_view x.1)) + times_in_env a (env_view (drop (i + 1) xs))
env_left xs i x h is a =
    at_drop_more (λ vs. times_in_env a (env_view vs)) xs i x h
    ∙ ap (λ v. count_if (is_mailbox a (value_view v.1)) + times_in_env a (env_view (drop (i + 1) xs))) (sym is)

pub env_end : (xs : List (ℕ × Value)) (i : ℕ) → length xs ≤ i → (a : ℕ) → times_in_env a (env_view (drop i xs)) ≡ 0
env_end xs i h a = at_drop_all (λ vs. times_in_env a (env_view vs)) xs i h

-- frames the other way round
frames_reversed : JoinedFramesCount → (a : ℕ) (xs : List Frame) → times_in_frames a (map frame_view (reverse xs)) ≡ times_in_frames a (map frame_view xs)
frames_reversed joined a [] = refl
frames_reversed joined a (x ∷ xs) =
    let rest = frames_reversed joined a xs in
    let both = joined a (map frame_view (reverse xs)) (frame_view x ∷ []) in
    ap (λ fs. times_in_frames a (map frame_view fs)) (reverse-append (x ∷ []) xs)
    ∙ ap (times_in_frames a) (map-append frame_view (reverse xs) (x ∷ []))
    ∙ both
    ∙ omega arith

pub frames_left : (xs : List Frame) (i : ℕ) (x : Frame) (env : List (ℕ × Value)) → i < length xs → x ≡ get_or xs i x → env ≡ x.env → (a : ℕ)
    → times_in_frames a (map frame_view (drop i xs)) ≡ times_in_env a (env_view env) + times_in_frames a (map frame_view (drop (i + 1) xs))
frames_left xs i x env h is own a =
    at_drop_more (λ vs. times_in_frames a (map frame_view vs)) xs i x h
    ∙ ap (λ v. times_in_env a (env_view v.env) + times_in_frames a (map frame_view (drop (i + 1) xs))) (sym is)
    ∙ ap (λ e. times_in_env a (env_view e) + times_in_frames a (map frame_view (drop (i + 1) xs))) (sym own)

pub frames_end : (xs : List Frame) (i : ℕ) → length xs ≤ i → (a : ℕ) → times_in_frames a (map frame_view (drop i xs)) ≡ 0
frames_end xs i h a = at_drop_all (λ vs. times_in_frames a (map frame_view vs)) xs i h

-- the top of a thread names what its control names, and the frames on top
pub top_names : JoinedFramesCount → (s : ThreadState) (n : ℕ) (own : List Frame) → reverse own ≡ take n s.frames → (a : ℕ)
    → times_in_thread a (top_of n (thread_view s)) ≡ times_in_control a (control_view s.control) + times_in_frames a (map frame_view own)
top_names joined s n own is a =
    ap (λ k. times_in_control a (control_view s.control) + k)
    (ap (times_in_frames a) (take-map frame_view n s.frames ∙ ap (map frame_view) (sym is)) ∙ frames_reversed joined a own)

-- a thread names what its control and its frames name
pub thread_names : JoinedFramesCount → (s : ThreadState) (own : List Frame) → reverse own ≡ s.frames → (a : ℕ)
    → times_in_thread a (thread_view s) ≡ times_in_control a (control_view s.control) + times_in_frames a (map frame_view own)
thread_names joined s own is a =
    ap (λ k. times_in_control a (control_view s.control) + k)
    (ap (λ fs. times_in_frames a (map frame_view fs)) (sym is) ∙ frames_reversed joined a own)

-- the one part and then the other
pub changes_both : (change : Change) (old between new : List ℕ) (one other : ℕ → ℕ) → Changes change old one between → Changes change between other new → Changes change old (λ a. one a + other a) new
changes_both Come old between new one other first second = λ (a : ℕ). let f = first a in let t = second a in omega arith
changes_both Go old between new one other first second = λ (a : ℕ). let f = first a in let t = second a in omega arith

-- the same names, said otherwise
pub changes_as : (change : Change) (old new : List ℕ) (names same : ℕ → ℕ) → ((a : ℕ) → same a ≡ names a) → Changes change old names new → Changes change old same new
changes_as Come old new names same is changed = λ (a : ℕ). let e = is a in let c = changed a in omega arith
changes_as Go old new names same is changed = λ (a : ℕ). let e = is a in let c = changed a in omega arith

-- no name
pub changes_none : (change : Change) (ns : List ℕ) (none : ℕ → ℕ) → ((a : ℕ) → none a ≡ 0) → Changes change ns none ns
changes_none Come ns none is = λ (a : ℕ). let e = is a in omega arith
changes_none Go ns none is = λ (a : ℕ). let e = is a in omega arith

-- a further place counts nothing
padded : (ns : List ℕ) (a : ℕ) → count_at (ns ++ 0 ∷ []) a ≡ count_at ns a
padded [] zero = refl
padded [] (suc a) = refl
padded (n ∷ ns) zero = refl
padded (n ∷ ns) (suc a) = padded ns a

pub padded_if : (b : Bool) (ns : List ℕ) (a : ℕ) → count_at (if b then ns ++ 0 ∷ [] else ns) a ≡ count_at ns a
padded_if true ns a = padded ns a
padded_if false ns a = refl

-- the message that was put behind the others is the last one
pub last_of : (ms : List Message) (m : Message) → last_message (ms ++ m ∷ []) ≡ Some m
last_of [] m = refl
last_of (l ∷ []) m = refl
last_of (l ∷ k ∷ ms) m = last_of (k ∷ ms) m

-- nothing is counted of no places
pub none_counted : (a : ℕ) → count_at [] a ≡ 0
none_counted zero = refl
none_counted (suc a) = refl

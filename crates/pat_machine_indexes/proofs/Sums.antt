-- How often a mailbox is named by what is left of a list, and by a list the other way round.
use Rattle.std.proofs.Common.{◌≡◌, ℕ, ◌+◌, ◌<◌, ◌≤◌, List, [], ◌∷◌, map, length, get_or, drop, take, reverse, refl, sym, ap, ◌∙◌, arith}
use Rattle.std.proofs.lemmas.List.{at_drop_more, at_drop_all, reverse-append, map-append, take-map}
use Rattle.pat_semantics_spec.specs.WellFormed.{count_if}
use Rattle.pat_semantics_spec.specs.Configs.{is_mailbox}
use Rattle.pat_reduce_values.specs.ValueViews.{env_view, value_view}
use Rattle.pat_reduce_values.specs.declared.values.Value.{Value}
use Rattle.pat_reduce.specs.declared.threads.state.Frame.{Frame}
use Rattle.pat_reduce.specs.declared.threads.state.ThreadState.{ThreadState}
use Rattle.pat_machine_spec.specs.Tops.{top_of}
use Rattle.pat_reduce.specs.threads.ThreadViews.{control_view, frame_view, thread_view}
use Rattle.pat_machine_laws.specs.refcounts.Naming.{times_in_control, times_in_values, times_in_env, times_in_frames, times_in_thread}
use Rattle.pat_machine_laws.specs.refcounts.Laws.{JoinedFramesCount}

-- the next value, and the others
pub values_left : (xs : List Value) (i : ℕ) (x : Value) → i < length xs → x ≡ get_or xs i x → (a : ℕ)
    → times_in_values a (map value_view (drop i xs)) ≡ count_if (is_mailbox a (value_view x)) + times_in_values a (map value_view (drop (i + 1) xs))
values_left xs i x h is a =
    at_drop_more (λ vs. times_in_values a (map value_view vs)) xs i x h
    ∙ ap (λ v. count_if (is_mailbox a (value_view v)) + times_in_values a (map value_view (drop (i + 1) xs))) (sym is)

pub values_end : (xs : List Value) (i : ℕ) → length xs ≤ i → (a : ℕ) → times_in_values a (map value_view (drop i xs)) ≡ 0
values_end xs i h a = at_drop_all (λ vs. times_in_values a (map value_view vs)) xs i h

pub env_left : (xs : List (ℕ × Value)) (i : ℕ) (x : ℕ × Value) → i < length xs → x ≡ get_or xs i x → (a : ℕ)
    → times_in_env a (env_view (drop i xs)) ≡ count_if (is_mailbox a (value_view x.1)) + times_in_env a (env_view (drop (i + 1) xs))
env_left xs i x h is a =
    at_drop_more (λ vs. times_in_env a (env_view vs)) xs i x h
    ∙ ap (λ v. count_if (is_mailbox a (value_view v.1)) + times_in_env a (env_view (drop (i + 1) xs))) (sym is)

pub env_end : (xs : List (ℕ × Value)) (i : ℕ) → length xs ≤ i → (a : ℕ) → times_in_env a (env_view (drop i xs)) ≡ 0
env_end xs i h a = at_drop_all (λ vs. times_in_env a (env_view vs)) xs i h

pub frames_left : (xs : List Frame) (i : ℕ) (x : Frame) (env : List (ℕ × Value)) → i < length xs → x ≡ get_or xs i x → env ≡ x.env → (a : ℕ)
    → times_in_frames a (map frame_view (drop i xs)) ≡ times_in_env a (env_view env) + times_in_frames a (map frame_view (drop (i + 1) xs))
frames_left xs i x env h is own a =
    at_drop_more (λ vs. times_in_frames a (map frame_view vs)) xs i x h
    ∙ ap (λ v. times_in_env a (env_view v.env) + times_in_frames a (map frame_view (drop (i + 1) xs))) (sym is)
    ∙ ap (λ e. times_in_env a (env_view e) + times_in_frames a (map frame_view (drop (i + 1) xs))) (sym own)

pub frames_end : (xs : List Frame) (i : ℕ) → length xs ≤ i → (a : ℕ) → times_in_frames a (map frame_view (drop i xs)) ≡ 0
frames_end xs i h a = at_drop_all (λ vs. times_in_frames a (map frame_view vs)) xs i h

-- frames the other way round
frames_reversed : JoinedFramesCount → (a : ℕ) (xs : List Frame) → times_in_frames a (map frame_view (reverse xs)) ≡ times_in_frames a (map frame_view xs)
frames_reversed joined a [] = refl
frames_reversed joined a (x ∷ xs) =
    let rest = frames_reversed joined a xs in
    let both = joined a (map frame_view (reverse xs)) (frame_view x ∷ []) in
    ap (λ fs. times_in_frames a (map frame_view fs)) (reverse-append (x ∷ []) xs)
    ∙ ap (times_in_frames a) (map-append frame_view (reverse xs) (x ∷ []))
    ∙ both
    ∙ omega arith

-- the top of a thread: its control, and the frames on top
pub top_names : JoinedFramesCount → (s : ThreadState) (n : ℕ) (own : List Frame) → reverse own ≡ take n s.frames → (a : ℕ)
    → times_in_thread a (top_of n (thread_view s)) ≡ times_in_control a (control_view s.control) + times_in_frames a (map frame_view own)
top_names joined s n own is a =
    ap (λ k. times_in_control a (control_view s.control) + k)
    (ap (times_in_frames a) (take-map frame_view n s.frames ∙ ap (map frame_view) (sym is)) ∙ frames_reversed joined a own)

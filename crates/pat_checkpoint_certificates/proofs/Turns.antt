-- One frame more, and one thread more.
use Rattle.std.proofs.Common.{◌≡◌, ℕ, zero, suc, ◌+◌, ◌<◌, true, ◌&&◌, List, [], ◌∷◌, ◌++◌, length, map, Option, Some, sym, ap, ◌∙◌, subst, reverse, take, drop, arith}
use Rattle.std.specs.Prelude.{slice_get, get_or}
use Rattle.std.specs.List.{AllByRecursion}
use Rattle.std.proofs.lemmas.Bool.{and_from}
use Rattle.std.proofs.lemmas.List.{length-map, length-reverse}
use Rattle.pat_semantics_spec.specs.Programs.{Program}
use Rattle.pat_semantics_spec.specs.Configs.{Frame, Thread}
use Rattle.pat_semantics_laws.proofs.Lists.{all_join, map-append}
use Rattle.pat_inclusion_spec.specs.Values.{Scope}
use Rattle.pat_inclusion_spec.specs.Certificates.{Inclusion}
use Rattle.pat_type_system_spec.specs.Typings.{Typing}
use Rattle.pat_type_system_spec.specs.Holdings.{wanted}
use Rattle.pat_reduce.specs.declared.threads.state.Frame.{Frame as CodeFrame}
use Rattle.pat_reduce.specs.declared.threads.state.ThreadState.{ThreadState}
use Rattle.pat_reduce.specs.threads.ThreadViews.{frame_view, thread_view}
use Rattle.pat_reduce.specs.Views.{threads_view}
use Rattle.pat_derivations.specs.declared.data.Cert.{Cert as CodeCert}
use Rattle.pat_checkpoint_data.specs.Parts.{PartCerts as CodeParts}
use Rattle.pat_checkpoint_data.specs.Views.{end_view, part_certs_view}
use Rattle.pat_checkpoint_spec.specs.Kinds.{type_needs, control_needs, is_certified, frames_shown, thread_shown, threads_shown}
use Rattle.pat_checkpoint_spec.specs.Written.{frames_need, threads_need, IsFormedNeed, NeedsFormed, CanBeShown, IsFirstUnshown}
use Rattle.pat_checkpoint_certificates.specs.Certified.{IsLine}
use Rattle.pat_checkpoint_certificates.specs.Found.{IsShownBy, AreFound, IsUnshownFrom}
use Rattle.pat_checkpoint_certificates.specs.Parts.{frames_of, thread_needs}
use Rattle.pat_checkpoint_certificates.specs.declared.error.CertifyError.{CertifyError}
use Rattle.pat_checkpoint_certificates.specs.declared.error.CertifyError.TheVariants.{Unshown, NoMemory}
use Rattle.pat_checkpoint_certificates.proofs.Lists.{there, got, split, take_one, take_long, turned_more, turned_among}
use Rattle.pat_checkpoint_certificates.proofs.Frames.{turned_all, formed_at, first_frame}
use Rattle.pat_checkpoint_certificates.proofs.Threads.{needs_joined, one_more}
use Rattle.pat_checkpoint_certificates.proofs.Errors.{unshown_later, unshown_before}

-- what indexing reads is there
pub read_at : {A : Type 0} (xs : List A) (k : ℕ) (d : A) → k < length xs → d ≡ get_or xs k d → slice_get xs k ≡ Some d
read_at xs k d l is = let r = there xs k l in r.1 ∙ ap (λ z. Some z) (sym (is ∙ got xs k r.0 d r.1))

all_left : {A : Type 0} (P : A → Type 0) (xs ys : List A) → AllByRecursion P (xs ++ ys) → AllByRecursion P xs
all_left P [] ys a = tt
all_left P (x ∷ xs) ys a = (a.0, all_left P xs ys a.1)

all_right : {A : Type 0} (P : A → Type 0) (xs ys : List A) → AllByRecursion P (xs ++ ys) → AllByRecursion P ys
all_right P [] ys a = a
all_right P (x ∷ xs) ys a = all_right P xs ys a.1

long : {A : Type 0} (xs ys : List A) → length (xs ++ ys) ≡ length xs + length ys
long [] ys = omega arith
long (x ∷ xs) ys = let r = long xs ys in omega (arith, r)

module _ (p : Program) (y : Typing) (s : Scope) (bound : ℕ → Option ℕ) where
  -- ---- frames

  abbrev need_at : List CodeFrame → ℕ → CodeFrame → Option Inclusion
  need_at xs k x = type_needs (y.results x.body) (wanted p y (frames_of (take k xs)))

  split_frames : (xs : List CodeFrame) (k : ℕ) (x : CodeFrame) → slice_get xs k ≡ Some x → frames_of xs ≡ frames_of (drop (suc k) xs) ++ frame_view x ∷ frames_of (take k xs)
  split_frames xs k x at = ap (λ l. frames_of l) (split xs k x at) ∙ turned_among frame_view (take k xs) x (drop (suc k) xs)

  pub formed_frame : (xs : List CodeFrame) (k : ℕ) (x : CodeFrame) → slice_get xs k ≡ Some x → NeedsFormed s (frames_need p y (frames_of xs)) → IsFormedNeed s (need_at xs k x)
  formed_frame xs k x at h =
      formed_at p y s (frames_of (drop (suc k) xs)) (frame_view x) (frames_of (take k xs)) (subst (λ l. NeedsFormed s (frames_need p y l)) (split_frames xs k x at) h)

  next_frames : (xs : List CodeFrame) (k : ℕ) (x : CodeFrame) → slice_get xs k ≡ Some x → frames_of (take (k + 1) xs) ≡ frame_view x ∷ frames_of (take k xs)
  next_frames xs k x at =
      let one : k + 1 ≡ suc k = omega arith in
      ap (λ n. frames_of (take n xs)) one ∙ ap (λ l. frames_of l) (take_one xs k x at) ∙ turned_more frame_view (take k xs) x

  -- the certificates of one frame more show what they need
  pub frame_more : (xs : List CodeFrame) (k : ℕ) (x : CodeFrame) (certs : List (Option CodeCert)) (cert : Option CodeCert) → slice_get xs k ≡ Some x → IsShownBy s bound (need_at xs k x) (end_view cert) → AreFound s bound (frames_shown p y s (frames_of (take k xs)) (map end_view certs)) (frames_need p y (frames_of (take k xs))) → AreFound s bound (frames_shown p y s (frames_of (take (k + 1) xs)) (map end_view (cert ∷ certs))) (frames_need p y (frames_of (take (k + 1) xs)))
  frame_more xs k x certs cert at h f =
      subst (λ (l : List Frame). AreFound s bound (frames_shown p y s l (map end_view (cert ∷ certs))) (frames_need p y l)) (sym (next_frames xs k x at))
      (record {
        certified = and_from (is_certified s (need_at xs k x) (end_view cert)) (frames_shown p y s (frames_of (take k xs)) (map end_view certs)) h.certified f.certified;
        showable = (h.showable, f.showable);
      })

  -- where those below can be shown and the frame can't, its line is the first
  pub frame_unshown : (xs : List CodeFrame) (k : ℕ) (x : CodeFrame) (line : ℕ) (e : CertifyError) → slice_get xs k ≡ Some x → k < length xs → AllByRecursion (CanBeShown s bound) (frames_need p y (frames_of (take k xs))) → (CanBeShown s bound (need_at xs k x) → ⊥) → IsLine (line + k) e → IsUnshownFrom s bound line (reverse (frames_need p y (frames_of xs))) e
  frame_unshown xs k x line NoMemory at before a h is = tt
  frame_unshown xs k x line (Unshown n) at before a h is =
      let count : length (frames_of (take k xs)) ≡ k = length-map (reverse (take k xs)) frame_view ∙ length-reverse (take k xs) ∙ take_long xs k (omega (arith, before)) in (
        k,
        is,
        subst (λ l. IsFirstUnshown s bound (reverse (frames_need p y l)) (suc k)) (sym (split_frames xs k x at))
            (subst (λ m. IsFirstUnshown s bound (reverse (frames_need p y (frames_of (drop (suc k) xs) ++ frame_view x ∷ frames_of (take k xs)))) (suc m)) count
            (first_frame p y s bound (frames_of (drop (suc k) xs)) (frame_view x) (frames_of (take k xs)) a h)),
      )

  -- ---- one thread

  pub control_unshown : (line : ℕ) (q : Option Inclusion) (qs : List (Option Inclusion)) → (CanBeShown s bound q → ⊥) → IsUnshownFrom s bound line (q ∷ qs) (Unshown line)
  control_unshown line q qs h = (zero, omega arith, h)

  -- certificates of the control and of the frames are those of the thread
  pub thread_found : (t : Thread) (fs : List Frame) (control : Option CodeCert) (certs : List (Option CodeCert)) → fs ≡ t.frames → IsShownBy s bound (control_needs p y t.control fs) (end_view control) → AreFound s bound (frames_shown p y s fs (map end_view certs)) (frames_need p y fs) → AreFound s bound (is_certified s (control_needs p y t.control t.frames) (end_view control) && frames_shown p y s t.frames (map end_view certs)) (thread_needs p y t)
  thread_found t fs control certs same h f =
      subst (λ (l : List Frame). AreFound s bound (is_certified s (control_needs p y t.control l) (end_view control) && frames_shown p y s l (map end_view certs)) (control_needs p y t.control l ∷ reverse (frames_need p y l))) same
      (record {
        certified = and_from (is_certified s (control_needs p y t.control fs) (end_view control)) (frames_shown p y s fs (map end_view certs)) h.certified f.certified;
        showable = (h.showable, turned_all (CanBeShown s bound) (frames_need p y fs) f.showable);
      })

  -- ---- threads

  abbrev viewed : ℕ × ThreadState → ℕ × Thread
  viewed e = (e.0, thread_view e.1)

  split_threads : (es : List (ℕ × ThreadState)) (k : ℕ) (e : ℕ × ThreadState) → slice_get es k ≡ Some e → threads_need p y (threads_view es) ≡ threads_need p y (threads_view (take k es)) ++ (thread_needs p y (thread_view e.1) ++ threads_need p y (threads_view (drop (suc k) es)))
  split_threads es k e at =
      ap (λ l. threads_need p y (threads_view l)) (split es k e at)
      ∙ ap (threads_need p y) (map-append viewed (take k es) (e ∷ drop (suc k) es))
      ∙ needs_joined p y (threads_view (take k es)) (viewed e ∷ threads_view (drop (suc k) es))

  next_threads : (es : List (ℕ × ThreadState)) (k : ℕ) (e : ℕ × ThreadState) → slice_get es k ≡ Some e → threads_view (take (k + 1) es) ≡ threads_view (take k es) ++ viewed e ∷ []
  next_threads es k e at =
      let one : k + 1 ≡ suc k = omega arith in
      ap (λ n. threads_view (take n es)) one ∙ ap (λ l. threads_view l) (take_one es k e at) ∙ map-append viewed (take k es) (e ∷ [])

  next_needs : (es : List (ℕ × ThreadState)) (k : ℕ) (e : ℕ × ThreadState) → slice_get es k ≡ Some e → threads_need p y (threads_view (take (k + 1) es)) ≡ threads_need p y (threads_view (take k es)) ++ (thread_needs p y (thread_view e.1) ++ [])
  next_needs es k e at = ap (threads_need p y) (next_threads es k e at) ∙ needs_joined p y (threads_view (take k es)) (viewed e ∷ [])

  pub formed_thread : (es : List (ℕ × ThreadState)) (k : ℕ) (e : ℕ × ThreadState) → slice_get es k ≡ Some e → NeedsFormed s (threads_need p y (threads_view es)) → NeedsFormed s (thread_needs p y (thread_view e.1))
  formed_thread es k e at h =
      let own = thread_needs p y (thread_view e.1) in
      let rest = threads_need p y (threads_view (drop (suc k) es)) in
      all_left (IsFormedNeed s) own rest (all_right (IsFormedNeed s) (threads_need p y (threads_view (take k es))) (own ++ rest) (subst (AllByRecursion (IsFormedNeed s)) (split_threads es k e at) h))

  -- where those before can be shown, the first line of the thread that can't is the first of all
  pub thread_unshown : (es : List (ℕ × ThreadState)) (k : ℕ) (e : ℕ × ThreadState) (first line : ℕ) (err : CertifyError) → slice_get es k ≡ Some e → line ≡ first + length (threads_need p y (threads_view (take k es))) → AllByRecursion (CanBeShown s bound) (threads_need p y (threads_view (take k es))) → IsUnshownFrom s bound line (thread_needs p y (thread_view e.1)) err → IsUnshownFrom s bound first (threads_need p y (threads_view es)) err
  thread_unshown es k e first line err at is a h =
      let own = thread_needs p y (thread_view e.1) in
      let rest = threads_need p y (threads_view (drop (suc k) es)) in
      subst (λ l. IsUnshownFrom s bound first l err) (sym (split_threads es k e at))
      (unshown_later s bound first line (threads_need p y (threads_view (take k es))) (own ++ rest) err is a (unshown_before s bound line own rest err h))

  -- the certificates of one thread more show what they need
  pub thread_more : (es : List (ℕ × ThreadState)) (k : ℕ) (e : ℕ × ThreadState) (ks : List CodeParts) (own : CodeParts) → slice_get es k ≡ Some e → AreFound s bound (thread_shown p y s (thread_view e.1) (part_certs_view own)) (thread_needs p y (thread_view e.1)) → AreFound s bound (threads_shown p y s (threads_view (take k es)) (map part_certs_view ks)) (threads_need p y (threads_view (take k es))) → AreFound s bound (threads_shown p y s (threads_view (take (k + 1) es)) (map part_certs_view (ks ++ own ∷ []))) (threads_need p y (threads_view (take (k + 1) es)))
  thread_more es k e ks own at h f =
      let front = threads_view (take k es) in
      let needs = thread_needs p y (thread_view e.1) in
      record {
        certified =
            subst (λ l. threads_shown p y s l (map part_certs_view (ks ++ own ∷ [])) ≡ true) (sym (next_threads es k e at))
            (subst (λ l. threads_shown p y s (front ++ viewed e ∷ []) l ≡ true) (sym (map-append part_certs_view ks (own ∷ [])))
            (one_more p y s front (map part_certs_view ks) (viewed e) (part_certs_view own) f.certified h.certified));
        showable =
            subst (AllByRecursion (CanBeShown s bound)) (sym (next_needs es k e at))
            (all_join (CanBeShown s bound) (threads_need p y front) (needs ++ []) f.showable (all_join (CanBeShown s bound) needs [] h.showable tt));
      }

  pub line_more : (es : List (ℕ × ThreadState)) (k : ℕ) (e : ℕ × ThreadState) (first line next : ℕ) → slice_get es k ≡ Some e → line ≡ first + length (threads_need p y (threads_view (take k es))) → next ≡ line + length (thread_needs p y (thread_view e.1)) → next ≡ first + length (threads_need p y (threads_view (take (k + 1) es)))
  line_more es k e first line next at is step =
      let own = thread_needs p y (thread_view e.1) in
      let before = threads_need p y (threads_view (take k es)) in
      let whole : length (threads_need p y (threads_view (take (k + 1) es))) ≡ length (before ++ (own ++ [])) = ap length (next_needs es k e at) in
      let first_part : length (before ++ (own ++ [])) ≡ length before + length (own ++ []) = long before (own ++ []) in
      let last_part : length (own ++ []) ≡ length own + 0 = long own [] in
      omega (arith, is, step, whole, first_part, last_part)

-- Parts of threads, and the certificates that are found for them.
use Rattle.std.specs.Prelude.{◌≡◌, ℕ, ◌∷◌, List, map, reverse, take, Option, Some, slice_get}
use Rattle.std.specs.List.{AllByRecursion}
use Rattle.pat_semantics_spec.specs.Programs.{Program}
use Rattle.pat_semantics_spec.specs.Configs.{Frame, Thread}
use Rattle.pat_inclusion_spec.specs.Certificates.{Inclusion}
use Rattle.pat_type_system_spec.specs.Typings.{Typing}
use Rattle.pat_type_system_spec.specs.Holdings.{wanted}
use Rattle.pat_reduce.specs.declared.threads.state.Frame.{Frame as CodeFrame}
use Rattle.pat_reduce.specs.threads.ThreadViews.{frame_view}
use Rattle.pat_derivations.specs.declared.data.Cert.{Cert as CodeCert}
use Rattle.pat_checkpoint_spec.specs.Kinds.{type_needs, control_needs, frames_shown, thread_shown, threads_shown}
use Rattle.pat_checkpoint_spec.specs.Written.{CanBeShown, frames_need, threads_need}
use Rattle.pat_checkpoint_certificates.specs.Searches.{program_in, scope_in, typing_in, bounds_in}
use Rattle.pat_checkpoint_data.specs.Parts.{PartCerts as CodeParts}
use Rattle.pat_checkpoint_data.specs.Views.{end_view, part_certs_view}
use Rattle.pat_checkpoint_certificates.specs.Found.{IsFound, AreFound}
use Rattle.pat_checkpoint_certificates.specs.declared.search.Search.{Search}

-- the frames, where the last one is listed first
abbrev pub frames_of : List CodeFrame → List Frame
frames_of xs = map frame_view (reverse xs)

-- what the lines of a thread need
abbrev pub thread_needs : Program → Typing → Thread → List (Option Inclusion)
thread_needs p y t = control_needs p y t.control t.frames ∷ reverse (frames_need p y t.frames)

-- what the line of the frame at the place needs is found
abbrev pub IsFoundAt : Search → List CodeFrame → ℕ → Option (Option CodeCert) → Type 0
IsFoundAt s xs place o =
    (f : CodeFrame)
    → slice_get xs place ≡ Some f
    → IsFound (scope_in s) (bounds_in s) (type_needs ((typing_in s).results f.body) (wanted (program_in s) (typing_in s) (frames_of (take place xs)))) o

-- what these frames need can be shown
abbrev pub CanAllBeShown : Search → List CodeFrame → Type 0
CanAllBeShown s xs = AllByRecursion (CanBeShown (scope_in s) (bounds_in s)) (frames_need (program_in s) (typing_in s) (frames_of xs))

-- the certificates of these frames show what they need
abbrev pub FramesFound : Search → List CodeFrame → List (Option CodeCert) → Type 0
FramesFound s xs certs =
    AreFound (scope_in s) (bounds_in s) (frames_shown (program_in s) (typing_in s) (scope_in s) (frames_of xs) (map end_view certs)) (frames_need (program_in s) (typing_in s) (frames_of xs))

-- those of the parts of this thread do
abbrev pub ThreadFound : Search → Thread → CodeParts → Type 0
ThreadFound s t k =
    AreFound (scope_in s) (bounds_in s) (thread_shown (program_in s) (typing_in s) (scope_in s) t (part_certs_view k)) (thread_needs (program_in s) (typing_in s) t)

-- those of the parts of these threads do
abbrev pub ThreadsFound : Search → List (ℕ × Thread) → List CodeParts → Type 0
ThreadsFound s ts ks =
    AreFound (scope_in s) (bounds_in s) (threads_shown (program_in s) (typing_in s) (scope_in s) ts (map part_certs_view ks)) (threads_need (program_in s) (typing_in s) ts)

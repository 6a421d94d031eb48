-- The lists of a checked checkpoint are as long as what they go along with.
use Rattle.std.proofs.Common.{◌≡◌, ℕ, suc, true, List, [], ◌∷◌, length, Option, refl, ap}
use Rattle.std.proofs.lemmas.Bool.{and_parts}
use Rattle.pat_semantics_spec.specs.Programs.{Program}
use Rattle.pat_semantics_spec.specs.Configs.{Frame, Thread}
use Rattle.pat_inclusion_spec.specs.Values.{Scope}
use Rattle.pat_inclusion_spec.specs.Certificates.{Cert, Inclusion, is_shown}
use Rattle.pat_type_system_spec.specs.Typings.{Typing}
use Rattle.pat_type_system_spec.specs.Holdings.{wanted}
use Rattle.pat_checkpoint_spec.specs.Checkpoints.{PartCerts, PartsAlign}
use Rattle.pat_checkpoint_spec.specs.Kinds.{type_needs, is_certified, control_needs, frames_shown, thread_shown, threads_shown}
use Rattle.pat_checkpoint_spec.specs.Balances.{balances_shown}

module _ (p : Program) (y : Typing) (s : Scope) where
  frames_align : (fs : List Frame) (ks : List (Option Cert)) → frames_shown p y s fs ks ≡ true → length ks ≡ length fs
  frames_align [] [] h = refl
  frames_align [] (k ∷ ks) h = cc
  frames_align (f ∷ fs) [] h = cc
  frames_align (f ∷ fs) (k ∷ ks) h =
      ap suc (frames_align fs ks (and_parts (is_certified s (type_needs (y.results f.body) (wanted p y fs)) k) (frames_shown p y s fs ks) h).1)

  pub threads_align : (es : List (ℕ × Thread)) (ks : List PartCerts) → threads_shown p y s es ks ≡ true → PartsAlign es ks
  threads_align [] [] h = tt
  threads_align [] (k ∷ ks) h = cc
  threads_align (e ∷ es) [] h = cc
  threads_align (e ∷ es) (k ∷ ks) h =
      let a = and_parts (thread_shown p y s e.1 k) (threads_shown p y s es ks) h in
      let b = and_parts (is_certified s (control_needs p y e.1.control e.1.frames) k.control) (frames_shown p y s e.1.frames k.frames) a.0 in
      (frames_align e.1.frames k.frames b.1, threads_align es ks a.1)

pub balances_align : (s : Scope) (needs : ℕ → Inclusion) (live is : List ℕ) (ks : List (Option Cert)) → balances_shown s needs live is ks ≡ true → (length is ≡ length live) × (length ks ≡ length live)
balances_align s needs [] [] [] h = (refl, refl)
balances_align s needs [] [] (k ∷ ks) h = cc
balances_align s needs [] (i ∷ is) ks h = cc
balances_align s needs (a ∷ more) [] ks h = cc
balances_align s needs (a ∷ more) (i ∷ is) [] h = cc
balances_align s needs (a ∷ more) (i ∷ is) (k ∷ ks) h =
    let r = balances_align s needs more is ks (and_parts (is_shown s (needs a) k) (balances_shown s needs more is ks) h).1 in
    (ap suc r.0, ap suc r.1)

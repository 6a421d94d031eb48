-- What the lines of threads need, and certificates for one thread more.
use Rattle.std.proofs.Common.{◌≡◌, ℕ, suc, true, List, [], ◌∷◌, ◌++◌, length, refl, ap, ◌∙◌, reverse}
use Rattle.std.proofs.lemmas.Bool.{and_parts, and_from}
use Rattle.std.proofs.lemmas.List.{length-reverse}
use Rattle.pat_semantics_spec.specs.Programs.{Program}
use Rattle.pat_semantics_spec.specs.Configs.{Thread}
use Rattle.pat_inclusion_spec.specs.Values.{Scope}
use Rattle.pat_type_system_spec.specs.Typings.{Typing}
use Rattle.pat_checkpoint_spec.specs.Checkpoints.{PartCerts}
use Rattle.pat_checkpoint_spec.specs.Kinds.{control_needs, thread_shown, threads_shown}
use Rattle.pat_checkpoint_spec.specs.Written.{frames_need, threads_need}
use Rattle.pat_checkpoint_certificates.proofs.Frames.{frames_count}

module _ (p : Program) (y : Typing) where
  pub thread_count : (t : Thread) → length (control_needs p y t.control t.frames ∷ reverse (frames_need p y t.frames)) ≡ suc (length t.frames)
  thread_count t = ap suc (length-reverse (frames_need p y t.frames) ∙ frames_count p y t.frames)

  pub needs_joined : (es fs : List (ℕ × Thread)) → threads_need p y (es ++ fs) ≡ threads_need p y es ++ threads_need p y fs
  needs_joined [] fs = refl
  needs_joined (e ∷ es) fs =
      let own = control_needs p y e.1.control e.1.frames ∷ reverse (frames_need p y e.1.frames) in
      ap (λ l. own ++ l) (needs_joined es fs) ∙ joined own (threads_need p y es) (threads_need p y fs)
    where
      joined : {A : Type 0} (xs ys zs : List A) → xs ++ (ys ++ zs) ≡ (xs ++ ys) ++ zs
      joined [] ys zs = refl
      joined (x ∷ xs) ys zs = ap (λ l. x ∷ l) (joined xs ys zs)

  pub one_more : (s : Scope) (es : List (ℕ × Thread)) (ks : List PartCerts) (e : ℕ × Thread) (k : PartCerts) → threads_shown p y s es ks ≡ true → thread_shown p y s e.1 k ≡ true → threads_shown p y s (es ++ e ∷ []) (ks ++ k ∷ []) ≡ true
  one_more s [] [] e k a b = and_from (thread_shown p y s e.1 k) true b refl
  one_more s [] (l ∷ ks) e k a b = cc
  one_more s (d ∷ es) [] e k a b = cc
  one_more s (d ∷ es) (l ∷ ks) e k a b =
      let h = and_parts (thread_shown p y s d.1 l) (threads_shown p y s es ks) a in
      and_from (thread_shown p y s d.1 l) (threads_shown p y s (es ++ e ∷ []) (ks ++ k ∷ [])) h.0 (one_more s es ks e k h.1 b)

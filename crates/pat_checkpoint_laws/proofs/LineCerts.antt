-- Certificates line by line are those of balances and parts.
use Rattle.std.proofs.Common.{◌≡◌, ℕ, suc, true, List, [], ◌∷◌, ◌++◌, length, map, Option, Some, None, refl, sym, ap, ◌∙◌, subst, reverse, arith}
use Rattle.std.proofs.lemmas.Bool.{and_parts, and_from}
use Rattle.std.proofs.lemmas.Grind.{reverse_onto}
use Rattle.std.proofs.lemmas.List.{length-reverse}
use Rattle.pat_semantics_spec.specs.Programs.{Program}
use Rattle.pat_semantics_spec.specs.Configs.{Frame, Thread}
use Rattle.pat_inclusion_spec.specs.Values.{Scope}
use Rattle.pat_inclusion_spec.specs.Certificates.{Cert, Inclusion, is_shown}
use Rattle.pat_type_system_spec.specs.Typings.{Typing}
use Rattle.pat_type_system_spec.specs.Holdings.{wanted}
use Rattle.pat_derivation_spec.specs.Derivations.{Derivation, scope_of, written_typing}
use Rattle.pat_checkpoint_spec.specs.Checkpoints.{PartCerts, Checkpoint, PartsAlign, IsAligned, interfaces_of}
use Rattle.pat_checkpoint_spec.specs.Kinds.{type_needs, is_certified, control_needs, frames_shown, thread_shown, threads_shown, parts_shown}
use Rattle.pat_checkpoint_spec.specs.Balances.{balance_needs, balances_shown, balances_hold}
use Rattle.pat_checkpoint_spec.specs.Written.{frames_need, threads_need, lines_need, threads_certs, lines_certs, each_certified}

module _ (s : Scope) where
  pub join : (qs qs' : List (Option Inclusion)) (ks ks' : List (Option Cert)) → each_certified s qs ks ≡ true → each_certified s qs' ks' ≡ true → each_certified s (qs ++ qs') (ks ++ ks') ≡ true
  join [] qs' [] ks' a b = b
  join [] qs' (k ∷ ks) ks' a b = cc
  join (q ∷ qs) qs' [] ks' a b = cc
  join (q ∷ qs) qs' (k ∷ ks) ks' a b =
      let h = and_parts (is_certified s q k) (each_certified s qs ks) a in
      and_from (is_certified s q k) (each_certified s (qs ++ qs') (ks ++ ks')) h.0 (join qs qs' ks ks' h.1 b)

  parts : (qs qs' : List (Option Inclusion)) (ks ks' : List (Option Cert)) → length qs ≡ length ks → each_certified s (qs ++ qs') (ks ++ ks') ≡ true → (each_certified s qs ks ≡ true) × (each_certified s qs' ks' ≡ true)
  parts [] qs' [] ks' l h = (refl, h)
  parts [] qs' (k ∷ ks) ks' l h = absurd (omega arith)
  parts (q ∷ qs) qs' [] ks' l h = absurd (omega arith)
  parts (q ∷ qs) qs' (k ∷ ks) ks' l h =
      let a = and_parts (is_certified s q k) (each_certified s (qs ++ qs') (ks ++ ks')) h in
      let r = parts qs qs' ks ks' (let e : length qs ≡ length ks = omega arith in e) a.1 in
      (and_from (is_certified s q k) (each_certified s qs ks) a.0 r.0, r.1)

  pub one : (q : Option Inclusion) (k : Option Cert) → is_certified s q k ≡ true → each_certified s (q ∷ []) (k ∷ []) ≡ true
  one q k h = and_from (is_certified s q k) true h refl

  -- the other way round
  turned : (qs : List (Option Inclusion)) (ks : List (Option Cert)) → each_certified s qs ks ≡ true → each_certified s (reverse qs) (reverse ks) ≡ true
  turned [] [] h = refl
  turned [] (k ∷ ks) h = cc
  turned (q ∷ qs) [] h = cc
  turned (q ∷ qs) (k ∷ ks) h =
      let a = and_parts (is_certified s q k) (each_certified s qs ks) h in
      subst (λ l. each_certified s l (reverse (k ∷ ks)) ≡ true) (sym (reverse_onto qs q []))
      (subst (λ l. each_certified s (reverse qs ++ q ∷ []) l ≡ true) (sym (reverse_onto ks k []))
      (join (reverse qs) (q ∷ []) (reverse ks) (k ∷ []) (turned qs ks a.1) (one q k a.0)))

  turned_back : (qs : List (Option Inclusion)) (ks : List (Option Cert)) → length qs ≡ length ks → each_certified s (reverse qs) (reverse ks) ≡ true → each_certified s qs ks ≡ true
  turned_back [] [] l h = refl
  turned_back [] (k ∷ ks) l h = absurd (omega arith)
  turned_back (q ∷ qs) [] l h = absurd (omega arith)
  turned_back (q ∷ qs) (k ∷ ks) l h =
      let e : length qs ≡ length ks = omega arith in
      let both = subst (λ l. each_certified s (reverse qs ++ q ∷ []) l ≡ true) (reverse_onto ks k []) (subst (λ l. each_certified s l (reverse (k ∷ ks)) ≡ true) (reverse_onto qs q []) h) in
      let r = parts (reverse qs) (q ∷ []) (reverse ks) (k ∷ []) (length-reverse qs ∙ e ∙ sym (length-reverse ks)) both in
      and_from (is_certified s q k) (each_certified s qs ks) (and_parts (is_certified s q k) true r.1).0 (turned_back qs ks e r.0)

  -- lines that need nothing
  nothing : {A : Type 0} (xs : List A) → each_certified s (map (λ x. None) xs) (map (λ x. None) xs) ≡ true
  nothing [] = refl
  nothing (x ∷ xs) = nothing xs

same_length : {A B C : Type 0} (f : A → B) (g : A → C) (xs : List A) → length (map f xs) ≡ length (map g xs)
same_length f g [] = refl
same_length f g (x ∷ xs) = ap suc (same_length f g xs)

module _ (p : Program) (y : Typing) (s : Scope) where
  needs_length : (fs : List Frame) → length (frames_need p y fs) ≡ length fs
  needs_length [] = refl
  needs_length (f ∷ fs) = ap suc (needs_length fs)

  frames_each : (fs : List Frame) (ks : List (Option Cert)) → (frames_shown p y s fs ks ≡ true → each_certified s (frames_need p y fs) ks ≡ true) × (each_certified s (frames_need p y fs) ks ≡ true → frames_shown p y s fs ks ≡ true)
  frames_each [] [] = (λ h. h, λ h. h)
  frames_each [] (k ∷ ks) = (λ h. cc, λ h. cc)
  frames_each (f ∷ fs) [] = (λ h. cc, λ h. cc)
  frames_each (f ∷ fs) (k ∷ ks) =
      let c = is_certified s (type_needs (y.results f.body) (wanted p y fs)) k in
      let r = frames_each fs ks in (
        λ h. let a = and_parts c (frames_shown p y s fs ks) h in and_from c (each_certified s (frames_need p y fs) ks) a.0 (r.0 a.1),
        λ h. let a = and_parts c (each_certified s (frames_need p y fs) ks) h in and_from c (frames_shown p y s fs ks) a.0 (r.1 a.1),
      )

  threads_to : (es : List (ℕ × Thread)) (ks : List PartCerts) → threads_shown p y s es ks ≡ true → each_certified s (threads_need p y es) (threads_certs ks) ≡ true
  threads_to [] [] h = refl
  threads_to [] (k ∷ ks) h = cc
  threads_to (e ∷ es) [] h = cc
  threads_to (e ∷ es) (k ∷ ks) h =
      let a = and_parts (thread_shown p y s e.1 k) (threads_shown p y s es ks) h in
      let c = is_certified s (control_needs p y e.1.control e.1.frames) k.control in
      let b = and_parts c (frames_shown p y s e.1.frames k.frames) a.0 in
      let needs = reverse (frames_need p y e.1.frames) in
      join s (control_needs p y e.1.control e.1.frames ∷ needs) (threads_need p y es) (k.control ∷ reverse k.frames) (threads_certs ks)
      (and_from c (each_certified s needs (reverse k.frames)) b.0 (turned s (frames_need p y e.1.frames) k.frames ((frames_each e.1.frames k.frames).0 b.1)))
      (threads_to es ks a.1)

  to_threads : (es : List (ℕ × Thread)) (ks : List PartCerts) → PartsAlign es ks → each_certified s (threads_need p y es) (threads_certs ks) ≡ true → threads_shown p y s es ks ≡ true
  to_threads [] [] l h = refl
  to_threads [] (k ∷ ks) l h = absurd l
  to_threads (e ∷ es) [] l h = absurd l
  to_threads (e ∷ es) (k ∷ ks) l h =
      let c = is_certified s (control_needs p y e.1.control e.1.frames) k.control in
      let needs = reverse (frames_need p y e.1.frames) in
      let long : length needs ≡ length (reverse k.frames) = length-reverse (frames_need p y e.1.frames) ∙ needs_length e.1.frames ∙ sym l.0 ∙ sym (length-reverse k.frames) in
      let q = parts s (control_needs p y e.1.control e.1.frames ∷ needs) (threads_need p y es) (k.control ∷ reverse k.frames) (threads_certs ks) (ap suc long) h in
      let b = and_parts c (each_certified s needs (reverse k.frames)) q.0 in
      and_from (thread_shown p y s e.1 k) (threads_shown p y s es ks)
      (and_from c (frames_shown p y s e.1.frames k.frames) b.0
      ((frames_each e.1.frames k.frames).1 (turned_back s (frames_need p y e.1.frames) k.frames (needs_length e.1.frames ∙ sym l.0) b.1)))
      (to_threads es ks l.1 q.1)

module _ (s : Scope) (needs : ℕ → Inclusion) where
  balances_to : (live is : List ℕ) (ks : List (Option Cert)) → balances_shown s needs live is ks ≡ true → each_certified s (map (λ a. Some (needs a)) live) ks ≡ true
  balances_to [] [] [] h = refl
  balances_to [] [] (k ∷ ks) h = cc
  balances_to [] (i ∷ is) ks h = cc
  balances_to (a ∷ more) [] ks h = cc
  balances_to (a ∷ more) (i ∷ is) [] h = cc
  balances_to (a ∷ more) (i ∷ is) (k ∷ ks) h =
      let q = and_parts (is_shown s (needs a) k) (balances_shown s needs more is ks) h in
      and_from (is_shown s (needs a) k) (each_certified s (map (λ a. Some (needs a)) more) ks) q.0 (balances_to more is ks q.1)

  pub to_balances : (live is : List ℕ) (ks : List (Option Cert)) → length is ≡ length live → each_certified s (map (λ a. Some (needs a)) live) ks ≡ true → balances_shown s needs live is ks ≡ true
  to_balances [] [] [] l h = refl
  to_balances [] [] (k ∷ ks) l h = cc
  to_balances [] (i ∷ is) ks l h = absurd (omega arith)
  to_balances (a ∷ more) [] ks l h = absurd (omega arith)
  to_balances (a ∷ more) (i ∷ is) [] l h = cc
  to_balances (a ∷ more) (i ∷ is) (k ∷ ks) l h =
      let q = and_parts (is_shown s (needs a) k) (each_certified s (map (λ a. Some (needs a)) more) ks) h in
      and_from (is_shown s (needs a) k) (balances_shown s needs more is ks) q.0 (to_balances more is ks (let e : length is ≡ length more = omega arith in e) q.1)

  needs_count : (live : List ℕ) → length (map (λ a. Some (needs a)) live) ≡ length live
  needs_count [] = refl
  needs_count (a ∷ more) = ap suc (needs_count more)

module _ (p : Program) (d : Derivation) (x : Checkpoint) where
  abbrev s : Scope
  s = scope_of p d

  abbrev w : Typing
  w = written_typing p d

  abbrev needs : ℕ → Inclusion
  needs a = balance_needs p w (interfaces_of x) x.config a

  pub lines_to : parts_shown p d x ≡ true → balances_hold p d x ≡ true → each_certified s (lines_need p w (interfaces_of x) x.config) (lines_certs x) ≡ true
  lines_to h b =
      join s (map (λ a. Some (needs a)) x.config.live) (map (λ m. None) x.config.messages ++ threads_need p w x.config.threads) x.mailbox_certs (map (λ m. None) x.config.messages ++ threads_certs x.part_certs)
      (balances_to s needs x.config.live x.interfaces x.mailbox_certs b)
      (join s (map (λ m. None) x.config.messages) (threads_need p w x.config.threads) (map (λ m. None) x.config.messages) (threads_certs x.part_certs)
      (nothing s x.config.messages)
      (threads_to p w s x.config.threads x.part_certs h))

  pub to_lines : IsAligned x → each_certified s (lines_need p w (interfaces_of x) x.config) (lines_certs x) ≡ true → (parts_shown p d x ≡ true) × (balances_hold p d x ≡ true)
  to_lines l h =
      let a = parts s (map (λ a. Some (needs a)) x.config.live) (map (λ m. None) x.config.messages ++ threads_need p w x.config.threads) x.mailbox_certs (map (λ m. None) x.config.messages ++ threads_certs x.part_certs)
      (needs_count s needs x.config.live ∙ sym l.mailboxes) h in
      let b = parts s (map (λ m. None) x.config.messages) (threads_need p w x.config.threads) (map (λ m. None) x.config.messages) (threads_certs x.part_certs) (same_length _ _ x.config.messages) a.1 in (
        to_threads p w s x.config.threads x.part_certs l.parts b.1,
        to_balances s needs x.config.live x.interfaces x.mailbox_certs l.interfaces a.0,
      )

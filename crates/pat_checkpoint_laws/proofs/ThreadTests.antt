-- The tests of a thread say that it fits.
use Rattle.std.proofs.Common.{◌≡◌, ℕ, Bool, true, false, not, ◌&&◌, ◌||◌, nat_eq, List, [], ◌∷◌, Option, Some, None, refl, sym, ap, ◌∙◌, subst, ⊎_elim}
use Rattle.std.specs.List.{AllByRecursion, list_all}
use Rattle.std.specs.Map.{keys_of}
use Rattle.std.proofs.lemmas.Bool.{and_parts, and_from, or_cases, or_left, or_right, cases_Bool, true_from_ne_false}
use Rattle.pat_semantics_spec.specs.Values.{Value, Const, Mailbox, Env, ValueFits}
use Rattle.pat_semantics_spec.specs.Programs.{Program, is_among, option_list}
use Rattle.pat_semantics_spec.specs.WellFormed.{WellFormed}
use Rattle.pat_semantics_spec.specs.Configs.{Control, Running, Returned, Frame, Thread, is_mailbox, env_refers}
use Rattle.pat_semantics_spec.specs.Orders.{AscendsFrom, ControlIsOrdered, ThreadIsOrdered}
use Rattle.pat_semantics_laws.proofs.Lists.{clash, not_true}
use Rattle.pat_safety_laws.proofs.Refers.{held_none, control_none}
use Rattle.pat_inclusion_spec.specs.Values.{Scope, pattern_of}
use Rattle.pat_inclusion_spec.specs.Certificates.{Cert}
use Rattle.pat_inclusion_laws.proofs.Shown.{ValuesFit}
use Rattle.pat_type_system_spec.specs.Types.{Usage, Second, Returnable, MailboxType, TypeFits, kind_of_type, TypeEnv}
use Rattle.pat_type_system_spec.specs.Typings.{Typing}
use Rattle.pat_type_system_spec.specs.Holdings.{Holding, held, wanted, control_held, frame_held}
use Rattle.pat_type_system_spec.specs.Typed.{ControlFits, FramesFit, KeepsFrom, FramesKeep, ThreadFits, mailboxes_of, frames_refer}
use Rattle.pat_type_schemes_spec.specs.Compared.{is_second}
use Rattle.pat_type_schemes_spec.specs.NodeTypes.{type_under}
use Rattle.pat_derivation_spec.specs.Derivations.{Derivation, scope_of, written_typing, typing_of}
use Rattle.pat_derivation_laws.proofs.DemandsMet.{put_in}
use Rattle.pat_checkpoint_spec.specs.Checkpoints.{PartCerts}
use Rattle.pat_checkpoint_spec.specs.Kinds.{part_fits, types_agree, type_needs, is_certified, control_fits, control_needs, is_frame_of_let, frames_fit, thread_fits, frames_shown, thread_shown, threads_shown}
use Rattle.pat_checkpoint_spec.specs.Mailboxes.{values_of, control_values, env_differs, control_differs, thread_differs, is_returnable, keeps_from, frames_keep, thread_keeps}
use Rattle.pat_checkpoint_laws.proofs.Lists.{all_in, in_all, among_in}
use Rattle.pat_checkpoint_laws.proofs.PartTests.{fits_so, so_fits, part_so, so_part, frame_so, so_frame, so_different}
use Rattle.pat_checkpoint_laws.proofs.TypeTests.{type_fits, fits_agree, wanted_filled, kind_filled}
use Rattle.pat_checkpoint_laws.proofs.Put.{control_put, frame_put}

-- ---- what is kept

-- the mailboxes that are referred to are those of the values
refers_among : (b : ℕ) (env : Env) → env_refers b env ≡ true → is_among b (mailboxes_of (values_of env)) ≡ true
refers_among b [] h = cc
refers_among b ((x, Const c) ∷ env) h = refers_among b env h
refers_among b ((x, Mailbox a) ∷ env) h =
    ⊎_elim
    (λ here. or_left (nat_eq b a) (is_among b (mailboxes_of (values_of env))) here)
    (λ rest. or_right (nat_eq b a) (is_among b (mailboxes_of (values_of env))) (refers_among b env rest))
    (or_cases (nat_eq b a) (env_refers b env) h)

some_none : {A : Type 0} {x : A} {o : Option A} → o ≡ Some x → o ≡ None → ⊥
some_none h k = cc

held_among : (g : TypeEnv) (b : ℕ) (env : Env) (a : MailboxType) → held g b env ≡ Some a → is_among b (mailboxes_of (values_of env)) ≡ true
held_among g b env a h =
    refers_among b env (true_from_ne_false (env_refers b env) (λ off. some_none h (held_none g b env off)))

control_among : (p : Program) (y : Typing) (b : ℕ) (k : Control) (fs : List Frame) (a : MailboxType) → control_held p y b k fs ≡ Some a → is_among b (mailboxes_of (control_values k)) ≡ true
control_among p y b (Running n env) fs a h = held_among (y.envs n) b env a h
control_among p y b (Returned v) fs a h =
    value v (true_from_ne_false (is_mailbox b v) (λ off. some_none h (control_none p y b (Returned v) fs off)))
  where
    value : (w : Value) → is_mailbox b w ≡ true → is_among b (mailboxes_of (w ∷ [])) ≡ true
    value (Const c) q = cc
    value (Mailbox c) q = or_left (nat_eq b c) false q

returnable_is : (u : Usage) → not (is_second u) ≡ true → u ≡ Returnable
returnable_is Second h = cc
returnable_is Returnable h = refl

-- what is written, with values put in, is kept from frames just where the test says so
module _ (s : Scope) (hy hw : ℕ → Holding) (put : (b : ℕ) → hy b ≡ put_in s (hw b)) (bs : List ℕ) (fs : List Frame) where
  abbrev test : ℕ → Bool
  test b = not (is_returnable (hw b)) || not (frames_refer b fs)

  keeps_so : ((b : ℕ) (a : MailboxType) → hw b ≡ Some a → is_among b bs ≡ true) → keeps_from hw bs fs ≡ true → KeepsFrom hy fs
  keeps_so among h b a is usage = go (hw b) refl
    where
      go : (o : Holding) → hw b ≡ o → frames_refer b fs ≡ false
      go None q = absurd (some_none (sym (put b) ∙ is) (ap (put_in s) q))
      go (Some e) q =
          let both : Some (type_under (pattern_of s) e) ≡ Some a = sym (ap (put_in s) q) ∙ sym (put b) ∙ is in
          let same : type_under (pattern_of s) e ≡ a = cc in
          let usable : e.usage ≡ Returnable = ap (λ (t : MailboxType). t.usage) same ∙ usage in
          let yes : is_returnable (hw b) ≡ true = ap is_returnable q ∙ ap (λ u. not (is_second u)) usable in
          ⊎_elim
          (λ no. absurd (clash yes (not_true (is_returnable (hw b)) no)))
          (λ off. not_true (frames_refer b fs) off)
          (or_cases (not (is_returnable (hw b))) (not (frames_refer b fs)) (in_all test bs b h (among_in b bs (among b e q))))

  so_keeps : KeepsFrom hy fs → keeps_from hw bs fs ≡ true
  so_keeps k =
      all_in test bs (λ b i.
      ⊎_elim
      (λ on. or_right (not (is_returnable (hw b))) (not (frames_refer b fs)) (ap not (go b (hw b) refl on)))
      (λ off. or_left (not (is_returnable (hw b))) (not (frames_refer b fs)) (ap not off))
      (cases_Bool (is_returnable (hw b))))
    where
      go : (b : ℕ) (o : Holding) → hw b ≡ o → is_returnable (hw b) ≡ true → frames_refer b fs ≡ false
      go b None q on = absurd (clash on (ap is_returnable q))
      go b (Some e) q on =
          k b (type_under (pattern_of s) e) (put b ∙ ap (put_in s) q) (returnable_is e.usage (sym (ap is_returnable q) ∙ on))

-- ---- threads

module _ (p : Program) (wf : WellFormed p) (d : Derivation) (interfaces : ℕ → ℕ) where
  abbrev s : Scope
  s = scope_of p d

  abbrev y : Typing
  y = typing_of p d

  abbrev w : Typing
  w = written_typing p d

  gives_so : (n : ℕ) (fs : List Frame) (k : Option Cert) → ValuesFit s → types_agree (w.results n) (wanted p w fs) ≡ true → is_certified s (type_needs (w.results n) (wanted p w fs)) k ≡ true → TypeFits (y.results n) (wanted p y fs)
  gives_so n fs k fit a h =
      subst (λ t. TypeFits (y.results n) t) (sym (wanted_filled p d fs)) (type_fits s (w.results n) (wanted p w fs) k fit a h)

  so_gives : (n : ℕ) (fs : List Frame) → TypeFits (y.results n) (wanted p y fs) → types_agree (w.results n) (wanted p w fs) ≡ true
  so_gives n fs h = fits_agree s (w.results n) (wanted p w fs) (subst (λ t. TypeFits (y.results n) t) (wanted_filled p d fs) h)

  returned_kind : (fs : List Frame) → kind_of_type (wanted p y fs) ≡ kind_of_type (wanted p w fs)
  returned_kind fs = ap kind_of_type (wanted_filled p d fs) ∙ kind_filled s (wanted p w fs)

  control_so : (k : Control) (fs : List Frame) (cert : Option Cert) → ValuesFit s → control_fits p w interfaces k fs ≡ true → is_certified s (control_needs p w k fs) cert ≡ true → ControlIsOrdered k → control_differs k ≡ true → ControlFits p y interfaces k fs
  control_so (Running n env) fs cert fit h shown order differ =
      let b = and_parts (part_fits p interfaces n [] env) (types_agree (w.results n) (wanted p w fs)) h in
      (part_so p wf interfaces n [] env b.0 order differ, gives_so n fs cert fit b.1 shown)
  control_so (Returned v) fs cert fit h shown order differ =
      subst (ValueFits interfaces v) (sym (returned_kind fs)) (fits_so interfaces v (kind_of_type (wanted p w fs)) h)

  so_control : (k : Control) (fs : List Frame) → ControlFits p y interfaces k fs → control_fits p w interfaces k fs ≡ true
  so_control (Running n env) fs f =
      and_from (part_fits p interfaces n [] env) (types_agree (w.results n) (wanted p w fs)) (so_part p wf interfaces n [] env f.0) (so_gives n fs f.1)
  so_control (Returned v) fs f =
      so_fits interfaces v (kind_of_type (wanted p w fs)) (subst (ValueFits interfaces v) (returned_kind fs) f)

  frames_so : (fs : List Frame) (ks : List (Option Cert)) → ValuesFit s → frames_fit p w interfaces fs ≡ true → frames_shown p w s fs ks ≡ true → AllByRecursion (λ f. AscendsFrom 0 (keys_of f.env)) fs → list_all (λ f. env_differs f.env) fs ≡ true → FramesFit p y interfaces fs
  frames_so [] ks fit h shown order differ = tt
  frames_so (f ∷ fs) [] fit h shown order differ = cc
  frames_so (f ∷ fs) (k ∷ ks) fit h shown order differ =
      let part = part_fits p interfaces f.body (option_list f.var) f.env in
      let agree = types_agree (w.results f.body) (wanted p w fs) in
      let a1 = and_parts (is_frame_of_let p f) (part && (agree && frames_fit p w interfaces fs)) h in
      let a2 = and_parts part (agree && frames_fit p w interfaces fs) a1.1 in
      let a3 = and_parts agree (frames_fit p w interfaces fs) a2.1 in
      let b = and_parts (is_certified s (type_needs (w.results f.body) (wanted p w fs)) k) (frames_shown p w s fs ks) shown in
      let e = and_parts (env_differs f.env) (list_all (λ f. env_differs f.env) fs) differ in (
        frame_so p f a1.0,
        part_so p wf interfaces f.body (option_list f.var) f.env a2.0 order.0 e.0,
        gives_so f.body fs k fit a3.0 b.0,
        frames_so fs ks fit a3.1 b.1 order.1 e.1,
      )

  so_frames : (fs : List Frame) → FramesFit p y interfaces fs → frames_fit p w interfaces fs ≡ true
  so_frames [] f = refl
  so_frames (f ∷ fs) h =
      let part = part_fits p interfaces f.body (option_list f.var) f.env in
      let agree = types_agree (w.results f.body) (wanted p w fs) in
      and_from (is_frame_of_let p f) (part && (agree && frames_fit p w interfaces fs)) (so_frame p f h.0)
      (and_from part (agree && frames_fit p w interfaces fs) (so_part p wf interfaces f.body (option_list f.var) f.env h.1)
      (and_from agree (frames_fit p w interfaces fs) (so_gives f.body fs h.2) (so_frames fs h.3)))

  -- parts of frames differ where they fit
  frames_differ : (fs : List Frame) → FramesFit p y interfaces fs → list_all (λ f. env_differs f.env) fs ≡ true
  frames_differ [] h = refl
  frames_differ (f ∷ fs) h =
      and_from (env_differs f.env) (list_all (λ f. env_differs f.env) fs) (so_different 0 f.env h.1.keys h.1.different) (frames_differ fs h.3)

  control_differs_so : (k : Control) (fs : List Frame) → ControlFits p y interfaces k fs → control_differs k ≡ true
  control_differs_so (Running n env) fs h = so_different 0 env h.0.keys h.0.different
  control_differs_so (Returned (Const c)) fs h = refl
  control_differs_so (Returned (Mailbox a)) fs h = refl

  frames_keep_so : (fs : List Frame) → frames_keep w fs ≡ true → FramesKeep y fs
  frames_keep_so [] h = tt
  frames_keep_so (f ∷ fs) h =
      let bs = mailboxes_of (values_of f.env) in
      let b = and_parts (keeps_from (λ b. frame_held w b f) bs fs) (frames_keep w fs) h in
      (keeps_so s (λ b. frame_held y b f) (λ b. frame_held w b f) (λ b. frame_put p d b f) bs fs (λ b a q. held_among (w.envs f.body) b f.env a q) b.0, frames_keep_so fs b.1)

  so_frames_keep : (fs : List Frame) → FramesKeep y fs → frames_keep w fs ≡ true
  so_frames_keep [] h = refl
  so_frames_keep (f ∷ fs) h =
      let bs = mailboxes_of (values_of f.env) in
      and_from (keeps_from (λ b. frame_held w b f) bs fs) (frames_keep w fs)
      (so_keeps s (λ b. frame_held y b f) (λ b. frame_held w b f) (λ b. frame_put p d b f) bs fs h.0)
      (so_frames_keep fs h.1)

  pub thread_so : (t : Thread) (k : PartCerts) → ValuesFit s → thread_fits p w interfaces t ≡ true → thread_shown p w s t k ≡ true → ThreadIsOrdered t → thread_differs t ≡ true → thread_keeps p w t ≡ true → ThreadFits p y interfaces t
  thread_so t k fit h shown order differ keeps =
      let a = and_parts (control_fits p w interfaces t.control t.frames) (frames_fit p w interfaces t.frames) h in
      let b = and_parts (is_certified s (control_needs p w t.control t.frames) k.control) (frames_shown p w s t.frames k.frames) shown in
      let e = and_parts (control_differs t.control) (list_all (λ f. env_differs f.env) t.frames) differ in
      let bs = mailboxes_of (control_values t.control) in
      let q = and_parts (keeps_from (λ b. control_held p w b t.control t.frames) bs t.frames) (frames_keep w t.frames) keeps in
      record {
        control = control_so t.control t.frames k.control fit a.0 b.0 order.0 e.0;
        frames = frames_so t.frames k.frames fit a.1 b.1 order.1 e.1;
        control_keeps = keeps_so s (λ b. control_held p y b t.control t.frames) (λ b. control_held p w b t.control t.frames) (λ b. control_put p d b t.control t.frames) bs t.frames (λ b a q. control_among p w b t.control t.frames a q) q.0;
        frames_keep = frames_keep_so t.frames q.1;
      }

  pub threads_so : (es : List (ℕ × Thread)) (ks : List PartCerts) → ValuesFit s → list_all (λ e. thread_fits p w interfaces e.1) es ≡ true → threads_shown p w s es ks ≡ true → AllByRecursion (λ e. ThreadIsOrdered e.1) es → list_all (λ e. thread_differs e.1) es ≡ true → list_all (λ e. thread_keeps p w e.1) es ≡ true → AllByRecursion (λ e. ThreadFits p y interfaces e.1) es
  threads_so [] ks fit h shown order differ keeps = tt
  threads_so (e ∷ es) [] fit h shown order differ keeps = cc
  threads_so (e ∷ es) (k ∷ ks) fit h shown order differ keeps =
      let a = and_parts (thread_fits p w interfaces e.1) (list_all (λ e. thread_fits p w interfaces e.1) es) h in
      let b = and_parts (thread_shown p w s e.1 k) (threads_shown p w s es ks) shown in
      let f = and_parts (thread_differs e.1) (list_all (λ e. thread_differs e.1) es) differ in
      let q = and_parts (thread_keeps p w e.1) (list_all (λ e. thread_keeps p w e.1) es) keeps in
      (thread_so e.1 k fit a.0 b.0 order.0 f.0 q.0, threads_so es ks fit a.1 b.1 order.1 f.1 q.1)

  pub so_thread_fits : (t : Thread) → ThreadFits p y interfaces t → thread_fits p w interfaces t ≡ true
  so_thread_fits t h =
      and_from (control_fits p w interfaces t.control t.frames) (frames_fit p w interfaces t.frames)
      (so_control t.control t.frames h.control) (so_frames t.frames h.frames)

  pub so_thread_differs : (t : Thread) → ThreadFits p y interfaces t → thread_differs t ≡ true
  so_thread_differs t h =
      and_from (control_differs t.control) (list_all (λ f. env_differs f.env) t.frames)
      (control_differs_so t.control t.frames h.control) (frames_differ t.frames h.frames)

  pub so_thread_keeps : (t : Thread) → ThreadFits p y interfaces t → thread_keeps p w t ≡ true
  so_thread_keeps t h =
      let bs = mailboxes_of (control_values t.control) in
      and_from (keeps_from (λ b. control_held p w b t.control t.frames) bs t.frames) (frames_keep w t.frames)
      (so_keeps s (λ b. control_held p y b t.control t.frames) (λ b. control_held p w b t.control t.frames) (λ b. control_put p d b t.control t.frames) bs t.frames h.control_keeps)
      (so_frames_keep t.frames h.frames_keep)

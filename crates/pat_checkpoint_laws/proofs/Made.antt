-- The interfaces of the mailboxes that steps make.
use Rattle.std.proofs.Common.{◌≡◌, ℕ, suc, ◌+◌, ◌-◌, ◌≤◌, false, nat_eq, nat_lt, if◌then◌else◌, List, [], ◌∷◌, ◌++◌, length, Option, Some, None, refl, sym, ap, ◌∙◌, arith, ⊎_elim, append_assoc, length-append}
use Rattle.std.specs.Prelude.{option_map, unwrap_or, slice_get}
use Rattle.std.proofs.lemmas.Bool.{cond-true, cond-false, lt-ltb, ltb-true, cases_lt, ne_eqb, eq-eqb, false_from_ne_true, cond_both}
use Rattle.pat_semantics_spec.specs.Programs.{Program, New, option_list}
use Rattle.pat_semantics_spec.specs.Configs.{Config, Thread, thread_at}
use Rattle.pat_semantics_spec.specs.Steps.{Act, ActLocal, ActNew, ActSend, ActSpawn, ActPrint, ActEnd, ActFree, ActReceive, Step, step, At, redex, redex_at, without_thread}
use Rattle.pat_semantics_spec.specs.Runs.{run_from}
use Rattle.pat_semantics_laws.proofs.Replays.{first_of}
use Rattle.pat_semantics_laws.proofs.Inversion.{step_of, print_step, new_step, receive_step, local_step_of, send_step, spawn_step, end_step, EndStep, end_value, end_return, free_step}
use Rattle.pat_type_system_spec.specs.Interfaces.{new_interface, made_by, with_interface, interfaces_after, interfaces_along}
use Rattle.pat_checkpoint_spec.specs.Resumed.{made_along, interface_made}

-- the interfaces along an enabled step and the steps behind it
along_step : (p : Program) (c d : Config) (k : Step) (ks : List Step) (interfaces : ℕ → ℕ) → step p c k ≡ Some d → interfaces_along p c (k ∷ ks) interfaces ≡ interfaces_along p d ks (interfaces_after p c k interfaces)
along_step p c d k ks interfaces h = ap (λ o. unwrap_or (option_map (λ d. interfaces_along p d ks (interfaces_after p c k interfaces)) o) interfaces) h

ended : (p : Program) (c : Config) (t : ℕ) (s : Thread) (d : Config) → EndStep p c t s d → d ≡ without_thread c t
ended p c t s d (end_value e env at none is) = is
ended p c t s d (end_return v at none is) = is

-- a step makes the mailbox with the next number, or none
step_makes : (p : Program) (c : Config) (t : ℕ) (a : Act) (d : Config) → step p c (record { thread = t; act = a }) ≡ Some d → d.next_mailbox ≡ c.next_mailbox + length (option_list (made_by p a (thread_at c t)))
step_makes p c t ActLocal d h =
    let w = step_of p c (record { thread = t; act = ActLocal }) d h in
    let q = ap (λ (x : Config). x.next_mailbox) (local_step_of p c t w.thread d w.gives).2 in omega arith
step_makes p c t ActNew d h =
    let w = step_of p c (record { thread = t; act = ActNew }) d h in
    let n = new_step p c t w.thread d (redex p w.thread.control) refl w.gives in
    let q = ap (λ (x : Config). x.next_mailbox) n.result in
    let at : redex p w.thread.control ≡ At (New n.interface) n.env = ap (redex p) n.at.control_is ∙ ap (λ o. redex_at o n.env) n.at.term in
    let made : made_by p ActNew (thread_at c t) ≡ Some n.interface = ap (made_by p ActNew) w.there ∙ ap new_interface at in
    let one : length (option_list (made_by p ActNew (thread_at c t))) ≡ 1 = ap (λ o. length (option_list o)) made in
    omega arith
step_makes p c t ActSend d h =
    let w = step_of p c (record { thread = t; act = ActSend }) d h in
    let q = ap (λ (x : Config). x.next_mailbox) (send_step p c t w.thread d (redex p w.thread.control) refl w.gives).result in omega arith
step_makes p c t ActSpawn d h =
    let w = step_of p c (record { thread = t; act = ActSpawn }) d h in
    let q = ap (λ (x : Config). x.next_mailbox) (spawn_step p c t w.thread d (redex p w.thread.control) refl w.gives).result in omega arith
step_makes p c t ActPrint d h =
    let w = step_of p c (record { thread = t; act = ActPrint }) d h in
    let q = ap (λ (x : Config). x.next_mailbox) (print_step p c t w.thread d (redex p w.thread.control) refl w.gives).result in omega arith
step_makes p c t ActEnd d h =
    let w = step_of p c (record { thread = t; act = ActEnd }) d h in
    let q = ap (λ (x : Config). x.next_mailbox) (ended p c t w.thread d (end_step p c t w.thread d w.thread.frames (redex p w.thread.control) refl refl w.gives)) in omega arith
step_makes p c t ActFree d h =
    let w = step_of p c (record { thread = t; act = ActFree }) d h in
    let q = ap (λ (x : Config). x.next_mailbox) (free_step p c t w.thread d (redex p w.thread.control) refl w.gives).result in omega arith
step_makes p c t (ActReceive k) d h =
    let w = step_of p c (record { thread = t; act = ActReceive k }) d h in
    let q = ap (λ (x : Config). x.next_mailbox) (receive_step p c t k w.thread d (redex p w.thread.control) refl w.gives).result in omega arith

-- what an enabled step makes comes first, and then what the steps behind it make
pub made_step : (p : Program) (c d : Config) (k : Step) (ks : List Step) → step p c k ≡ Some d → made_along p c (k ∷ ks) ≡ option_list (made_by p k.act (thread_at c k.thread)) ++ made_along p d ks
made_step p c d k ks h = ap (λ o. option_list (made_by p k.act (thread_at c k.thread)) ++ unwrap_or (option_map (λ d. made_along p d ks) o) []) h

-- joined steps make what the one and then what the other make
pub made_join : (p : Program) (ks ls : List Step) (c d : Config) → run_from p c ks ≡ Some d → made_along p c (ks ++ ls) ≡ made_along p c ks ++ made_along p d ls
made_join p [] ls c d h = let same : c ≡ d = cc in ap (λ x. made_along p x ls) same
made_join p (k ∷ ks) ls c d h =
    let q = first_of (λ e. run_from p e ks) d (step p c k) h in
    let own = option_list (made_by p k.act (thread_at c k.thread)) in
    made_step p c q.0 k (ks ++ ls) q.1
    ∙ ap (λ l. own ++ l) (made_join p ks ls q.0 d q.2)
    ∙ sym (append_assoc own (made_along p q.0 ks) (made_along p d ls))
    ∙ sym (ap (λ l. l ++ made_along p d ls) (made_step p c q.0 k ks q.1))

-- a mailbox that is made has the number behind the others
made_one : (o : Option ℕ) (f : ℕ → ℕ) (n a : ℕ) (made : List ℕ) → interface_made (with_interface n o f) (n + length (option_list o)) made a ≡ interface_made f n (option_list o ++ made) a
made_one None f n a made = let same : n + 0 ≡ n = omega arith in ap (λ m. interface_made f m made a) same
made_one (Some i) f n a made =
    ⊎_elim
    (λ below.
    let other : (if nat_eq a n then i else f a) ≡ f a = cond-false (nat_eq a n) i (f a) (ne_eqb a n (λ e. omega arith)) in
    cond-true (nat_lt a (n + 1)) (with_interface n (Some i) f a) (unwrap_or (slice_get made (a - (n + 1))) (with_interface n (Some i) f a)) (lt-ltb a (n + 1) (omega arith))
    ∙ other
    ∙ sym (cond-true (nat_lt a n) (f a) (unwrap_or (slice_get (i ∷ made) (a - n)) (f a)) (lt-ltb a n below)))
    (λ past. ⊎_elim
    (λ beyond.
    let other : (if nat_eq a n then i else f a) ≡ f a = cond-false (nat_eq a n) i (f a) (ne_eqb a n (λ e. omega arith)) in
    let place : a - n ≡ suc (a - (n + 1)) = omega arith in
    cond-false (nat_lt a (n + 1)) (with_interface n (Some i) f a) (unwrap_or (slice_get made (a - (n + 1))) (with_interface n (Some i) f a)) (not_less a (n + 1) (omega arith))
    ∙ ap (unwrap_or (slice_get made (a - (n + 1)))) other
    ∙ sym (ap (λ m. unwrap_or (slice_get (i ∷ made) m) (f a)) place)
    ∙ sym (cond-false (nat_lt a n) (f a) (unwrap_or (slice_get (i ∷ made) (a - n)) (f a)) (not_less a n past)))
    (λ here.
    let same : a ≡ n = omega arith in
    let place : a - n ≡ 0 = omega arith in
    cond-true (nat_lt a (n + 1)) (with_interface n (Some i) f a) (unwrap_or (slice_get made (a - (n + 1))) (with_interface n (Some i) f a)) (lt-ltb a (n + 1) (omega arith))
    ∙ cond-true (nat_eq a n) i (f a) (eq-eqb a n same)
    ∙ sym (ap (λ m. unwrap_or (slice_get (i ∷ made) m) (f a)) place)
    ∙ sym (cond-false (nat_lt a n) (f a) (unwrap_or (slice_get (i ∷ made) (a - n)) (f a)) (not_less a n past)))
    (cases_lt n a))
    (cases_lt a n)
  where
    not_less : (x y : ℕ) → y ≤ x → nat_lt x y ≡ false
    not_less x y l = false_from_ne_true (nat_lt x y) (λ t. let less = ltb-true x y t in omega arith)

-- the interfaces along steps are those before, and then those that were made
pub along_made : (p : Program) (ks : List Step) (f : ℕ → ℕ) (c d : Config) (a : ℕ) → run_from p c ks ≡ Some d → interfaces_along p c ks f a ≡ interface_made f c.next_mailbox (made_along p c ks) a
along_made p [] f c d a h = sym (cond_both (nat_lt a c.next_mailbox) (f a) (unwrap_or (slice_get [] (a - c.next_mailbox)) (f a)) (λ x. x ≡ f a) (λ _. refl) (λ _. refl))
along_made p (k ∷ ks) f c d a h =
    let q = first_of (λ e. run_from p e ks) d (step p c k) h in
    let o = made_by p k.act (thread_at c k.thread) in
    let number : q.0.next_mailbox ≡ c.next_mailbox + length (option_list o) = step_makes p c k.thread k.act q.0 q.1 in
    ap (λ (g : ℕ → ℕ). g a) (along_step p c q.0 k ks f q.1)
    ∙ along_made p ks (interfaces_after p c k f) q.0 d a q.2
    ∙ ap (λ n. interface_made (interfaces_after p c k f) n (made_along p q.0 ks) a) number
    ∙ made_one o f c.next_mailbox a (made_along p q.0 ks)
    ∙ sym (ap (λ l. interface_made f c.next_mailbox l a) (made_step p c q.0 k ks q.1))

-- and so many were made as the next number has risen
pub made_count : (p : Program) (ks : List Step) (c d : Config) → run_from p c ks ≡ Some d → d.next_mailbox ≡ c.next_mailbox + length (made_along p c ks)
made_count p [] c d h = let same : c ≡ d = cc in let q = ap (λ (x : Config). x.next_mailbox) same in omega arith
made_count p (k ∷ ks) c d h =
    let q = first_of (λ e. run_from p e ks) d (step p c k) h in
    let o = made_by p k.act (thread_at c k.thread) in
    let number : q.0.next_mailbox ≡ c.next_mailbox + length (option_list o) = step_makes p c k.thread k.act q.0 q.1 in
    let rest = made_count p ks q.0 d q.2 in
    let all : length (made_along p c (k ∷ ks)) ≡ length (option_list o) + length (made_along p q.0 ks) =
    ap length (made_step p c q.0 k ks q.1) ∙ length-append (option_list o) (made_along p q.0 ks) in
    omega arith

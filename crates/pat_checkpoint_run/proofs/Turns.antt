-- One turn.
use Rattle.std.proofs.Common.{◌≡◌, ℕ, zero, suc, ◌+◌, ◌-◌, ◌<◌, ◌≤◌, nat_lt, if◌then◌else◌, List, [], ◌∷◌, ◌++◌, length, map, Option, Some, None, refl, sym, ap, ◌∙◌, subst, arith, length-append, append-nil, ⊎_elim, Result, Ok, Err, OnOk}
use Rattle.std.specs.Prelude.{min, replicate, option_map, unwrap_or}
use Rattle.std.proofs.lemmas.Bool.{cond-true, cond-false, cases_lt, lt-ltb, ltb-true, false_from_ne_true}
use Rattle.std.proofs.lemmas.List.{length-replicate}
use Rattle.pat_semantics_spec.specs.Programs.{Program}
use Rattle.pat_semantics_spec.specs.Configs.{Thread, Config, thread_at, with_thread}
use Rattle.pat_semantics_spec.specs.Steps.{Act, Step, step}
use Rattle.pat_semantics_spec.specs.Runs.{shared_step, entry_steps}
use Rattle.pat_machine_spec.specs.Commits.{local_of, IsLocalRun}
use Rattle.pat_machine_laws.proofs.Locals.{locals_run}
use Rattle.pat_reduce.specs.declared.config.Config.{Config as CodeConfig}
use Rattle.pat_reduce.specs.Views.{config_view, entry_view}
use Rattle.pat_checkpoint_spec.specs.Resumed.{made_along}
use Rattle.pat_checkpoint_spec.specs.Turns.{first_act, after_act, Turn, turn_with, turn_by, turn_of, turn_at}
use Rattle.pat_checkpoint_laws.specs.resuming.Laws.{LocalsAre, MadeJoins}
use Rattle.pat_checkpoint_run.specs.declared.course.Course.{Course}
use Rattle.pat_checkpoint_run.specs.declared.next.Turn.{Turn as CodeTurn}
use Rattle.pat_checkpoint_run.specs.Courses.{turn_entry, TakesLocals, Shares, Notes, TakesTurn}

-- local steps make no mailbox
nothing_after : (p : Program) (ks : List Step) (o : Option Config) → ((d : Config) → made_along p d ks ≡ []) → unwrap_or (option_map (λ d. made_along p d ks) o) [] ≡ []
nothing_after p ks None h = refl
nothing_after p ks (Some d) h = h d

locals_make : (p : Program) (t n : ℕ) (c : Config) → made_along p c (replicate n (local_of t)) ≡ []
locals_make p t zero c = refl
locals_make p t (suc n) c = nothing_after p (replicate n (local_of t)) (step p c (local_of t)) (locals_make p t n)

-- the number of steps of an entry
pub steps_count : (t n : ℕ) (a : Option Act) → length (entry_steps (turn_entry t n a)) ≡ n + length (shared_step t a)
steps_count t n a = length-append (replicate n (local_of t)) (shared_step t a) ∙ ap (λ k. k + length (shared_step t a)) (length-replicate n (local_of t))

pub shared_at_most : (t : ℕ) (a : Option Act) → length (shared_step t a) ≤ 1
shared_at_most t None = omega arith
shared_at_most t (Some a) = omega arith

module _ (p : Program) (c : Config) (left t n : ℕ) (kept middle : Thread) (there : thread_at c t ≡ Some kept) (local : IsLocalRun p (min 256 left) kept n middle) (locals : LocalsAre) where
  abbrev between : Config
  between = with_thread c t middle

  -- the turn is that of these local steps
  turn_is : (a : Option Act) → (if nat_lt n (min 256 left) then first_act p between t else None) ≡ a → turn_at p left c t ≡ turn_with p between t n a
  turn_is a act =
      ap (turn_of p (min 256 left) c t) there
      ∙ ap (turn_by p (min 256 left) c t) (locals p (min 256 left) n kept middle local)
      ∙ ap (turn_with p between t n) act

  made_is : MadeJoins → (a : Option Act) → made_along p c (entry_steps (turn_entry t n a)) ≡ made_along p between (shared_step t a)
  made_is joins a =
      joins p (replicate n (local_of t)) (shared_step t a) c between (locals_run p n c t kept middle there local.taken)
      ∙ ap (λ l. l ++ made_along p between (shared_step t a)) (locals_make p t n c)

  -- a turn that was noted
  module _ (joins : MadeJoins) (old new : Course) (stands : config_view old.config ≡ c) (steps : old.left ≡ left) (a : Option Act)
      (act : (if nat_lt n (min 256 left) then first_act p between t else None) ≡ a)
      (after : config_view new.config ≡ after_act p between t a)
      (made : new.made ≡ old.made ++ made_along p between (shared_step t a))
      (entries : map entry_view new.entries ≡ map entry_view old.entries ++ turn_entry t n a ∷ [])
      (rest : new.left ≡ old.left - (n + length (shared_step t a)))
      (last : new.last ≡ Some t) where
    own : turn_at p old.left (config_view old.config) t ≡ turn_with p between t n a
    own = ap (λ m. turn_at p m (config_view old.config) t) steps ∙ ap (λ x. turn_at p left x t) stands ∙ turn_is a act

    pub takes_turn : TakesTurn p t old new
    takes_turn = record {
      entries = entries ∙ ap (λ (u : Turn). map entry_view old.entries ++ u.entry ∷ []) (sym own);
      config = after ∙ ap (λ (u : Turn). u.after) (sym own);
      made =
          made
          ∙ ap (λ l. old.made ++ l)
          (sym (made_is joins a)
          ∙ ap (λ x. made_along p x (entry_steps (turn_entry t n a))) (sym stands)
          ∙ ap (λ (u : Turn). made_along p (config_view old.config) (entry_steps u.entry)) (sym own));
      left =
          rest
          ∙ ap (λ k. old.left - k) (sym (steps_count t n a) ∙ ap (λ (u : Turn). length (entry_steps u.entry)) (sym own));
      last = last;
    }

module _ (p : Program) (locals : LocalsAre) (joins : MadeJoins) (old m new : Course) (turn : CodeTurn) (n allowance : ℕ) (k : CodeConfig) (all : allowance ≡ min 256 old.left) (taken : TakesLocals p allowance turn n old.config k)
    (entries : m.entries ≡ old.entries) (left : m.left ≡ old.left) where
  abbrev t : ℕ
  t = turn.thread

  run : IsLocalRun p (min 256 old.left) taken.kept n taken.middle
  run = subst (λ a. IsLocalRun p a taken.kept n taken.middle) all taken.local

  noted : (a : Option Act) → (if nat_lt n (min 256 old.left) then first_act p (with_thread (config_view old.config) t taken.middle) t else None) ≡ a
      → config_view m.config ≡ after_act p (with_thread (config_view old.config) t taken.middle) t a
      → m.made ≡ old.made ++ made_along p (with_thread (config_view old.config) t taken.middle) (shared_step t a)
      → Notes t n a m new → TakesTurn p t old new
  noted a act after made h =
      takes_turn p (config_view old.config) old.left t n taken.kept taken.middle taken.there run locals joins old new refl refl a act
      (ap config_view h.config ∙ after)
      (h.made ∙ made)
      (h.entries ∙ ap (λ l. map entry_view l ++ turn_entry t n a ∷ []) entries)
      (h.left ∙ ap (λ l. l - (n + length (shared_step t a))) left)
      h.last

  spent : n ≡ allowance → m.config ≡ k → m.made ≡ old.made → Notes t n None m new → TakesTurn p t old new
  spent whole config made h =
      noted None
      (cond-false (nat_lt n (min 256 old.left)) (first_act p (with_thread (config_view old.config) t taken.middle) t) None (false_from_ne_true (nat_lt n (min 256 old.left)) (λ l. let less = ltb-true n (min 256 old.left) l in omega arith)))
      (ap config_view config ∙ taken.config)
      (made ∙ sym (append-nil old.made))
      h

  shared : (a : Option Act) → (n ≡ allowance → ⊥) → Shares p t (config_view k) old.made a (config_view m.config) m.made → Notes t n a m new → TakesTurn p t old new
  shared a unlike s h =
      let within = taken.local.within in
      let less : n < min 256 old.left = subst (λ b. n < b) all (⊎_elim (λ (l : n < allowance). l) (λ g. absurd (unlike (omega arith))) (cases_lt n allowance)) in
      noted a
      (cond-true (nat_lt n (min 256 old.left)) (first_act p (with_thread (config_view old.config) t taken.middle) t) None (lt-ltb n (min 256 old.left) less) ∙ ap (λ c. first_act p c t) (sym taken.config) ∙ sym s.act)
      (s.config ∙ ap (λ c. after_act p c t a) taken.config)
      (s.made_is ∙ ap (λ c. old.made ++ made_along p c (shared_step t a)) taken.config)
      h

  pub takes_spent : {E : Type 0} (r : Result (Unit {0}) E) → n ≡ allowance → m.config ≡ k → m.made ≡ old.made → OnOk r (Notes t n None m new) → OnOk r (TakesTurn p t old new)
  takes_spent (Ok u) whole config made h = spent whole config made h
  takes_spent (Err e) whole config made h = tt

  pub takes_shared : {E : Type 0} (r : Result (Unit {0}) E) (a : Option Act) → (n ≡ allowance → ⊥) → Shares p t (config_view k) old.made a (config_view m.config) m.made → OnOk r (Notes t n a m new) → OnOk r (TakesTurn p t old new)
  takes_shared (Ok u) a unlike s h = shared a unlike s h
  takes_shared (Err e) a unlike s h = tt

-- Turns, one after another.
use Rattle.std.proofs.Common.{◌≡◌, ℕ, ◌-◌, ◌<◌, ◌≤◌, nat_lt, List, [], ◌∷◌, ◌++◌, length, map, Some, None, sym, ap, ◌∙◌, subst, arith, append_assoc, append-nil, ⊎_elim}
use Rattle.std.specs.Prelude.{option_and_then}
use Rattle.std.proofs.lemmas.Bool.{cond-true, cond-false, lt-ltb, false_from_ne_true, ltb-true, cases_lt}
use Rattle.pat_semantics_spec.specs.Programs.{Program}
use Rattle.pat_semantics_spec.specs.Configs.{Config}
use Rattle.pat_semantics_spec.specs.Orders.{IsOrdered}
use Rattle.pat_semantics_spec.specs.Steps.{Step, step}
use Rattle.pat_semantics_spec.specs.Runs.{Entry, run_from, entry_steps, entry_from, replay_from}
use Rattle.pat_semantics_laws.specs.Laws.{history_steps}
use Rattle.pat_semantics_laws.proofs.Replays.{first_of, replays_join, replay_runs}
use Rattle.pat_reduce.specs.StepsTaken.{Within}
use Rattle.pat_reduce.specs.Views.{config_view, entry_view}
use Rattle.pat_reduce.proofs.StepNumbers.{step_ahead}
use Rattle.pat_checkpoint_spec.specs.Resumed.{made_along}
use Rattle.pat_checkpoint_spec.specs.Turns.{Turn, turn_at, next_thread, turns_by, turns_from, turns}
use Rattle.pat_checkpoint_laws.specs.resuming.Laws.{TurnTakes, TurnsTake, TurnsUnfold, NextIsAble, MadeJoins}
use Rattle.pat_checkpoint_run.specs.declared.course.Course.{Course}
use Rattle.pat_checkpoint_run.specs.Courses.{HasRoom, HasRun, TakesTurn}

-- ---- how many numbers steps take

run_ahead : (p : Program) (ks : List Step) (c d : Config) → run_from p c ks ≡ Some d → Within c (length ks) d
run_ahead p [] c d h =
    let same : c ≡ d = cc in
    subst (Within c 0) same (record { threads = omega arith; mailboxes = omega arith; messages = omega arith })
run_ahead p (k ∷ ks) c d h =
    let q = first_of (λ e. run_from p e ks) d (step p c k) h in
    let one = step_ahead p c q.0 k q.1 in
    let rest = run_ahead p ks q.0 d q.2 in
    record {
      threads = let a = one.threads in let b = rest.threads in omega arith;
      mailboxes = let a = one.mailboxes in let b = rest.mailboxes in omega arith;
      messages = let a = one.messages in let b = rest.messages in omega arith;
    }

entry_runs : (p : Program) (c d : Config) (ks : List Step) → entry_from p c ks ≡ Some d → run_from p c ks ≡ Some d
entry_runs p c d [] h = cc
entry_runs p c d (k ∷ ks) h = h

room_after : (c d : Config) (left n : ℕ) → HasRoom c left → Within c n d → n ≤ left → HasRoom d (left - n)
room_after c d left n r w within = record {
  threads = let a = r.threads in let b = w.threads in omega arith;
  mailboxes = let a = r.mailboxes in let b = w.mailboxes in omega arith;
  messages = let a = r.messages in let b = w.messages in omega arith;
}

-- fewer are enough
pub less_room : (c : Config) (n m : ℕ) → HasRoom c n → m ≤ n → HasRoom c m
less_room c n m r less = record {
  threads = let a = r.threads in omega arith;
  mailboxes = let a = r.mailboxes in omega arith;
  messages = let a = r.messages in omega arith;
}

-- ---- histories that go on by one entry

steps_more : (es : List Entry) (e : Entry) → history_steps (es ++ e ∷ []) ≡ history_steps es ++ entry_steps e
steps_more [] e = append-nil (entry_steps e)
steps_more (f ∷ es) e = ap (λ l. entry_steps f ++ l) (steps_more es e) ∙ sym (append_assoc (entry_steps f) (history_steps es) (entry_steps e))

replay_more : (p : Program) (b c d : Config) (es : List Entry) (e : Entry) → replay_from p b es ≡ Some c → entry_from p c (entry_steps e) ≡ Some d → replay_from p b (es ++ e ∷ []) ≡ Some d
replay_more p b c d es e first last =
    replays_join p b es (e ∷ [])
    ∙ ap (option_and_then (λ x. replay_from p x (e ∷ []))) first
    ∙ ap (option_and_then (λ x. replay_from p x [])) last

-- ---- the loop

abbrev pub history : Course → List Entry
history x = map entry_view x.entries

-- the history so far led here, and with the turns from here on it is the whole one
pub record Underway (p : Program) (b : Config) (steps : ℕ) (x : Course) : Type 0 where
  pub ordered : IsOrdered (config_view x.config)
  pub room : HasRoom (config_view x.config) x.left
  pub reached : replay_from p b (history x) ≡ Some (config_view x.config)
  pub made : x.made ≡ made_along p b (history_steps (history x))
  pub whole : history x ++ turns_from p (config_view x.config) x.left x.last ≡ turns p b steps

module _ (p : Program) (b : Config) (steps : ℕ) where
  module _ (unfolds : TurnsUnfold) (takes : TurnsTake) (able : NextIsAble) (joins : MadeJoins) where
    module _ (x : Course) (u : Underway p b steps x) (t : ℕ) (some : 0 < x.left) (next : next_thread p (config_view x.config) x.last ≡ Some t) where
      abbrev c : Config
      c = config_view x.config

      abbrev made_turn : Turn
      made_turn = turn_at p x.left c t

      abbrev more : Config → ℕ → ℕ → List Entry
      more d rest t = turns_from p d rest (Some t)

      took : TurnTakes p x.left c t
      took = takes p c x.left t u.ordered some ((able p c x.last).0 t next)

      turns_are : turns_from p c x.left x.last ≡ made_turn.entry ∷ turns_from p made_turn.after (x.left - length (entry_steps made_turn.entry)) (Some t)
      turns_are =
          unfolds p c x.left x.last u.ordered
          ∙ cond-true (nat_lt 0 x.left) (turns_by more (turn_at p x.left c) x.left (next_thread p c x.last)) [] (lt-ltb 0 x.left some)
          ∙ ap (turns_by more (turn_at p x.left c) x.left) next

      pub goes_on : (y : Course) → TakesTurn p t x y → Underway p b steps y
      goes_on y h =
          let ran = entry_runs p c made_turn.after (entry_steps made_turn.entry) took.leads in
          let run = (replay_runs p b c (history x) u.reached).1 in
          record {
            ordered = subst IsOrdered (sym h.config) took.ordered;
            room =
                subst (HasRoom (config_view y.config)) (sym h.left)
                (subst (λ d. HasRoom d (x.left - length (entry_steps made_turn.entry))) (sym h.config)
                (room_after c made_turn.after x.left (length (entry_steps made_turn.entry)) u.room (run_ahead p (entry_steps made_turn.entry) c made_turn.after ran) took.within));
            reached =
                ap (replay_from p b) h.entries
                ∙ replay_more p b c made_turn.after (history x) made_turn.entry u.reached took.leads
                ∙ ap Some (sym h.config);
            made =
                h.made
                ∙ ap (λ l. l ++ made_along p c (entry_steps made_turn.entry)) u.made
                ∙ sym (joins p (history_steps (history x)) (entry_steps made_turn.entry) b c run)
                ∙ ap (made_along p b) (sym (steps_more (history x) made_turn.entry) ∙ ap history_steps (sym h.entries));
            whole =
                ap (λ l. l ++ turns_from p (config_view y.config) y.left y.last) h.entries
                ∙ append_assoc (history x) (made_turn.entry ∷ []) (turns_from p (config_view y.config) y.left y.last)
                ∙ ap (λ d. history x ++ made_turn.entry ∷ turns_from p d y.left y.last) h.config
                ∙ ap (λ n. history x ++ made_turn.entry ∷ turns_from p made_turn.after n y.last) h.left
                ∙ ap (λ o. history x ++ made_turn.entry ∷ turns_from p made_turn.after (x.left - length (entry_steps made_turn.entry)) o) h.last
                ∙ ap (λ l. history x ++ l) (sym turns_are)
                ∙ u.whole;
          }

      -- fewer steps are left
      pub falls : (y : Course) → TakesTurn p t x y → y.left < x.left
      falls y h = let less = h.left in let one = took.some in omega arith

    -- no turn is left
    none_left : (x : Course) → Underway p b steps x → (0 < x.left → next_thread p (config_view x.config) x.last ≡ None) → turns_from p (config_view x.config) x.left x.last ≡ []
    none_left x u none =
        unfolds p (config_view x.config) x.left x.last u.ordered
        ∙ ⊎_elim
        (λ (some : 0 < x.left).
        cond-true (nat_lt 0 x.left) (turns_by (λ d rest t. turns_from p d rest (Some t)) (turn_at p x.left (config_view x.config)) x.left (next_thread p (config_view x.config) x.last)) [] (lt-ltb 0 x.left some)
        ∙ ap (turns_by (λ d rest t. turns_from p d rest (Some t)) (turn_at p x.left (config_view x.config)) x.left) (none some))
        (λ over.
        cond-false (nat_lt 0 x.left) (turns_by (λ d rest t. turns_from p d rest (Some t)) (turn_at p x.left (config_view x.config)) x.left (next_thread p (config_view x.config) x.last)) []
        (false_from_ne_true (nat_lt 0 x.left) (λ l. let less = ltb-true 0 x.left l in omega arith)))
        (cases_lt 0 x.left)

    pub has_run : (x : Course) → Underway p b steps x → (0 < x.left → next_thread p (config_view x.config) x.last ≡ None) → HasRun p b steps x
    has_run x u none =
        let all : history x ≡ turns p b steps = sym (append-nil (history x)) ∙ ap (λ l. history x ++ l) (sym (none_left x u none)) ∙ u.whole in
        record {
          entries = all;
          reached = ap (replay_from p b) (sym all) ∙ u.reached;
          made = u.made ∙ ap (λ es. made_along p b (history_steps es)) all;
        }

  -- the start
  pub begins : (x : Course) → IsOrdered b → HasRoom b steps → config_view x.config ≡ b → x.entries ≡ [] → x.made ≡ [] → x.left ≡ steps → x.last ≡ None → Underway p b steps x
  begins x ordered room config entries made left last = record {
    ordered = subst IsOrdered (sym config) ordered;
    room = subst (λ c. HasRoom c x.left) (sym config) (subst (HasRoom b) (sym left) room);
    reached = ap (λ l. replay_from p b (map entry_view l)) entries ∙ ap Some (sym config);
    made = made ∙ ap (λ l. made_along p b (history_steps (map entry_view l))) (sym entries);
    whole =
        ap (λ l. map entry_view l ++ turns_from p (config_view x.config) x.left x.last) entries
        ∙ ap (λ c. turns_from p c x.left x.last) config
        ∙ ap (λ n. turns_from p b n x.last) left
        ∙ ap (turns_from p b steps) last;
  }

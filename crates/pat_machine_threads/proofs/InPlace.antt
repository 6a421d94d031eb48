-- A thread that goes on in its place.
use Rattle.std.proofs.Common.{◌≡◌, ℕ, ◌+◌, true, nat_eq, List, [], ◌∷◌, ◌++◌, map, Some, sym, ap, ◌∙◌}
use Rattle.std.specs.Prelude.{option_map}
use Rattle.std.proofs.lemmas.List.{map-append}
use Rattle.std.specs.Map.{set_value}
use Rattle.pat_semantics_spec.specs.Programs.{Program}
use Rattle.pat_semantics_spec.specs.Values.{Const, Mailbox, UnitConst}
use Rattle.pat_semantics_spec.specs.Configs.{Control, Returned, Thread, Message, Config, thread_at}
use Rattle.pat_semantics_spec.specs.Steps.{ActPrint, ActSpawn, redex, thread_of}
use Rattle.pat_reduce.specs.declared.threads.state.ThreadState.{ThreadState}
use Rattle.pat_reduce.specs.threads.ThreadActs.{is_new, redex_line, redex_message, spawned}
use Rattle.pat_reduce.specs.threads.ThreadViews.{message_view, thread_view}
use Rattle.pat_reduce.specs.declared.config.Config.{Config as CodeConfig}
use Rattle.pat_reduce.specs.Views.{config_view, threads_view}
use Rattle.pat_reduce.proofs.Shared.{said, begun, print_step, spawn_step}
use Rattle.pat_machine_laws.specs.thread_frames.Alone.{alone}
use Rattle.pat_machine_laws.proofs.Backs.{own_there, back_only, back_set}
use Rattle.pat_machine_threads.specs.table.Entries.{Threads}
use Rattle.pat_machine_threads.specs.store.ThreadStore.{placed_view}
use Rattle.pat_machine_threads.specs.store.InPlace.{redex_frees, IsSent, IsMade, IsFreed}
use Rattle.pat_machine_threads.specs.store.Steps.{IsTaken}

module _ (p : Program) (c : CodeConfig) (table last : Threads) (t : ℕ) (s : Thread) (there : thread_at (placed_view c table) t ≡ Some s) where
  abbrev whole : Config
  whole = placed_view c table

  -- the thread goes on with a control
  abbrev GoesOn : Control → Type 0
  GoesOn k = threads_view last.entries ≡ set_value (nat_eq t) (threads_view table.entries) (thread_of k s.frames)

  abbrev done : Control
  done = Returned (Const UnitConst)

  pub is_sent : GoesOn done → (m : Message) → redex_message c.next_message (redex p s.control) ≡ Some m → IsSent p whole t m (placed_view (record c { next_message = c.next_message + 1 }) last)
  is_sent set m given = record {
    thread = s;
    there = there;
    message = given;
    after = ap (λ l. record (config_view c) { threads = l; next_message = c.next_message + 1 }) set;
  }

  pub is_made : GoesOn (Returned (Mailbox c.next_mailbox)) → is_new (redex p s.control) ≡ true → IsMade p whole t (placed_view (record c { next_mailbox = c.next_mailbox + 1 }) last)
  is_made set given = record {
    thread = s;
    there = there;
    makes = given;
    after = ap (λ l. record (config_view c) { threads = l; next_mailbox = c.next_mailbox + 1 }) set;
  }

  pub is_freed : (k : Control) → GoesOn k → (a : ℕ) → redex_frees p (redex p s.control) ≡ Some (a, k) → IsFreed p whole t a (placed_view c last)
  is_freed k set a given = record {
    thread = s;
    there = there;
    control = k;
    frees = given;
    after = ap (λ l. record (config_view c) { threads = l }) set;
  }

  pub is_said : GoesOn done → (line : List ℕ) → redex_line (redex p s.control) ≡ Some line → map message_view c.messages ≡ [] → (printed : List (List ℕ)) → printed ≡ c.printed ++ line ∷ []
      → IsTaken p whole (record { thread = t; act = ActPrint }) (placed_view (record c { printed = printed }) last)
  is_said set line given none printed more =
      let single : Config = alone whole t s c.live in
      let left : Config = said single t s.frames line in
      record {
        thread = s;
        left = left;
        there = there;
        gives = print_step p single t s (own_there t s) ∙ ap (option_map (said single t s.frames)) given;
        after =
            ap (λ (ms : List Message). record (config_view c) { threads = threads_view last.entries; messages = ms; printed = printed }) none
            ∙ ap (λ (ls : List (List ℕ)). record (config_view c) { threads = threads_view last.entries; messages = []; printed = ls }) more
            ∙ ap (λ l. record left { threads = l }) (set ∙ sym (back_only t s whole.threads (thread_of done s.frames)));
      }

  -- the thread goes on, and a further one, which has the next number, comes behind the others
  pub is_spawned : (k : Control) → spawned p (redex p s.control) ≡ Some k → map message_view c.messages ≡ [] → threads_view last.entries ≡ set_value (nat_eq t) (threads_view table.entries) (thread_of done s.frames) ++ (c.next_thread, thread_of k []) ∷ []
      → IsTaken p whole (record { thread = t; act = ActSpawn }) (placed_view (record c { next_thread = c.next_thread + 1 }) last)
  is_spawned k given none came =
      let single : Config = alone whole t s c.live in
      let left : Config = begun single t s.frames k in
      record {
        thread = s;
        left = left;
        there = there;
        gives = spawn_step p single t s (own_there t s) ∙ ap (option_map (begun single t s.frames)) given;
        after =
            ap (λ (ms : List Message). record (config_view c) { threads = threads_view last.entries; messages = ms; next_thread = c.next_thread + 1 }) none
            ∙ ap (λ l. record left { threads = l }) (came ∙ sym (back_set t s whole.threads (thread_of done s.frames) ((c.next_thread, thread_of k []) ∷ [])));
      }

-- the threads where one goes on and one comes behind
pub come_behind : (before middle last : Threads) (t n : ℕ) (r : Thread) (came : ThreadState) → threads_view middle.entries ≡ set_value (nat_eq t) (threads_view before.entries) r → last.entries ≡ middle.entries ++ (middle.made, came) ∷ [] → middle.made ≡ n
    → threads_view last.entries ≡ set_value (nat_eq t) (threads_view before.entries) r ++ (n, thread_view came) ∷ []
come_behind before middle last t n r came set more made =
    ap threads_view more
    ∙ map-append _ middle.entries ((middle.made, came) ∷ [])
    ∙ ap (λ l. l ++ (middle.made, thread_view came) ∷ []) set
    ∙ ap (λ k. set_value (nat_eq t) (threads_view before.entries) r ++ (k, thread_view came) ∷ []) made

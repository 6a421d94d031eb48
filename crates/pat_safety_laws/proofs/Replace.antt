-- A step that replaces one thread, and changes nothing else but what is printed, keeps a configuration typed.
use Rattle.std.proofs.Common.{◌≡◌, ℕ, true, List, Some, refl, sym, ◌∙◌, subst, ⊎_elim, [], ◌∷◌}
use Rattle.std.specs.List.{list_any, AllByRecursion}
use Rattle.pat_semantics_spec.specs.Values.{Const, Kind, Plain, BaseUnit, UnitConst, Env, ValueFits}
use Rattle.pat_semantics_spec.specs.Programs.{Program}
use Rattle.pat_semantics_spec.specs.Configs.{Running, Thread, Config, thread_at, with_thread, thread_refers, control_refers, pending, env_refers, Control, Returned, Frame}
use Rattle.pat_semantics_spec.specs.Steps.{returned_unit}
use Rattle.pat_type_system_spec.specs.Types.{kind_of_type}
use Rattle.pat_type_system_spec.specs.Typings.{Typing}
use Rattle.pat_type_system_spec.specs.Holdings.{wanted, holdings, Balanced}
use Rattle.pat_type_system_spec.specs.Typed.{IsTyped, ThreadFits, ControlFits, FramesFit}
use Rattle.pat_semantics_laws.proofs.Threads.{set_all, lookup_any, set_any}
use Rattle.pat_type_system_laws.proofs.Nodes.{fits_kind}
use Rattle.std.proofs.lemmas.Bool.{or_right}
use Rattle.pat_semantics_spec.specs.Orders.{AscendsFrom, ControlIsOrdered, ThreadIsOrdered}
use Rattle.pat_semantics_laws.proofs.Ordered.{with_ordered, printed_ordered}
use Rattle.std.specs.Map.{keys_of}

-- the environments of a thread that fits are in order
frames_ordered : (p : Program) (y : Typing) (interfaces : ℕ → ℕ) (fs : List Frame) → FramesFit p y interfaces fs → AllByRecursion (λ f. AscendsFrom 0 (keys_of f.env)) fs
frames_ordered p y interfaces [] h = tt
frames_ordered p y interfaces (f ∷ fs) h = (h.1.keys, frames_ordered p y interfaces fs h.3)

control_ordered : (p : Program) (y : Typing) (interfaces : ℕ → ℕ) (k : Control) (fs : List Frame) → ControlFits p y interfaces k fs → ControlIsOrdered k
control_ordered p y interfaces (Running n env) fs h = h.0.keys
control_ordered p y interfaces (Returned v) fs h = tt

fits_ordered : (p : Program) (y : Typing) (interfaces : ℕ → ℕ) (s : Thread) → ThreadFits p y interfaces s → ThreadIsOrdered s
fits_ordered p y interfaces s h = (control_ordered p y interfaces s.control s.frames h.control, frames_ordered p y interfaces s.frames h.frames)

-- the thread's new state refers to no more, and what the holdings become is balanced
pub replace_keeps : (p : Program) (y : Typing) (interfaces : ℕ → ℕ) (c : Config) (t : ℕ) (s r : Thread) (typed : IsTyped p y interfaces c) → thread_at c t ≡ Some s → ThreadFits p y interfaces r → ((a : ℕ) → thread_refers a r ≡ true → thread_refers a s ≡ true) → ((a : ℕ) → Balanced (holdings p y interfaces c a) (pending c a) → Balanced (holdings p y interfaces (with_thread c t r) a) (pending c a)) → IsTyped p y interfaces (with_thread c t r)
replace_keeps p y interfaces c t s r typed there fits refers balanced =
    let n = typed.numbers in
    record {
      typing = typed.typing;
      numbers = record {
        ordered = with_ordered c t r n.ordered (fits_ordered p y interfaces r fits);
        threads_live = λ a h.
            n.threads_live a
            (⊎_elim (λ here. lookup_any (thread_refers a) c.threads t s there (refers a here)) (λ x. x) (set_any (thread_refers a) c.threads t r h));
        messages_live = n.messages_live;
      };
      threads = set_all (λ e. ThreadFits p y interfaces e.1) c.threads t r (λ e h. fits) typed.threads;
      messages = typed.messages;
      balanced = λ a live. balanced a (typed.balanced a live);
    }

-- what was printed doesn't matter
pub printed_keeps : (p : Program) (y : Typing) (interfaces : ℕ → ℕ) (c : Config) (lines : List (List ℕ)) → IsTyped p y interfaces c → IsTyped p y interfaces (record c { printed = lines })
printed_keeps p y interfaces c lines typed =
    let n = typed.numbers in
    record {
      typing = typed.typing;
      numbers = record {
        ordered = printed_ordered c lines n.ordered;
        threads_live = n.threads_live;
        messages_live = n.messages_live;
      };
      threads = typed.threads;
      messages = typed.messages;
      balanced = typed.balanced;
    }

-- a thread whose term is of kind unit may return nothing
pub unit_fits : (p : Program) (y : Typing) (interfaces : ℕ → ℕ) (s : Thread) (n : ℕ) (env : Env) → ThreadFits p y interfaces s → s.control ≡ Running n env → kind_of_type (y.results n) ≡ Plain BaseUnit → ThreadFits p y interfaces (returned_unit s.frames)
unit_fits p y interfaces s n env fits at unit =
    let control : ControlFits p y interfaces (Running n env) s.frames = subst (λ k. ControlFits p y interfaces k s.frames) at fits.control in
    let k : Plain BaseUnit ≡ kind_of_type (wanted p y s.frames) = sym unit ∙ fits_kind (y.results n) (wanted p y s.frames) control.1 in
    record {
      control = subst (λ (x : Kind). ValueFits interfaces (Const UnitConst) x) k refl;
      frames = fits.frames;
      control_keeps = λ b a h u. cc;
      frames_keep = fits.frames_keep;
    }

-- and then it refers to no more than before
pub unit_refers : (s : Thread) (a : ℕ) → thread_refers a (returned_unit s.frames) ≡ true → thread_refers a s ≡ true
unit_refers s a h = or_right (control_refers a s.control) (list_any (λ f. env_refers a f.env) s.frames) h

-- The end of a thread keeps a configuration typed.
use Rattle.std.proofs.Common.{◌≡◌, ℕ, Bool, true, false, if◌then◌else◌, [], ◌∷◌, ◌++◌, Some, None, refl, sym, ap, ◌∙◌, subst, map, append_assoc}
use Rattle.pat_semantics_spec.specs.Values.{BaseUnit, Expr}
use Rattle.pat_semantics_spec.specs.Programs.{Program, Val}
use Rattle.pat_semantics_spec.specs.WellFormed.{WellFormed}
use Rattle.pat_semantics_spec.specs.Configs.{Returned, Thread, Config, thread_at, is_mailbox, thread_refers, pending}
use Rattle.pat_semantics_spec.specs.Steps.{ActEnd, step, redex, without_thread}
use Rattle.pat_type_system_spec.specs.Types.{TypeOf, BaseTerm, MailboxTerm, TypeFits, TypeEnv, EnvPasses, PassesTo, no_types}
use Rattle.pat_type_system_spec.specs.Typings.{Typing, ValueTyped}
use Rattle.pat_type_system_spec.specs.Holdings.{control_held, thread_held, message_held, wanted, holdings, Balanced, as_holding, frame_held}
use Rattle.pat_type_system_spec.specs.Typed.{IsTyped, ThreadFits, ControlFits, NumbersFit}
use Rattle.pat_safety_laws.proofs.Balance.{balance_front, drop_first}
use Rattle.pat_semantics_laws.proofs.Threads.{lookup_all, remove_all, remove_any}
use Rattle.pat_safety_laws.proofs.ThreadHoldings.{cut_thread}
use Rattle.pat_semantics_laws.proofs.Ordered.{without_ordered}
use Rattle.pat_semantics_laws.proofs.Inversion.{step_of, EndStep, end_value, end_return, end_step}
use Rattle.pat_type_system_laws.proofs.Nodes.{node_facts}
use Rattle.pat_safety_laws.proofs.Envs.{held_all}

-- ---- what the ended thread held may be dropped

value_unit : (t : TypeOf) (e : Expr) (g : TypeEnv) → TypeFits t (BaseTerm BaseUnit) → ValueTyped t e g → EnvPasses g no_types
value_unit (BaseTerm b) e g fits h = h
value_unit (MailboxTerm i q f) e g fits h = absurd fits

nothing_held : (t : Bool) → PassesTo (if t then as_holding (BaseTerm BaseUnit) else None) None
nothing_held true = tt
nothing_held false = tt

pub ended_drops : (p : Program) (y : Typing) (interfaces : ℕ → ℕ) (c d : Config) (t : ℕ) (s : Thread) → WellFormed p → (typed : IsTyped p y interfaces c) → thread_at c t ≡ Some s → EndStep p c t s d → (b : ℕ) → PassesTo (control_held p y b s.control s.frames) None
ended_drops p y interfaces c d t s wf typed there (end_value e env at none is) b =
    let facts = node_facts p y at.node (Val e) wf typed.typing at.term in
    let fits = lookup_all (λ s. ThreadFits p y interfaces s) c.threads t s typed.threads there in
    let control = subst (λ k. ControlFits p y interfaces k s.frames) at.control_is fits.control in
    let unit = subst (λ fs. TypeFits (y.results at.node) (wanted p y fs)) none control.1 in
    let drops = value_unit (y.results at.node) e (y.envs at.node) unit facts.term in
    subst (λ k. PassesTo (control_held p y b k s.frames) None) (sym at.control_is) (held_all (y.envs at.node) b (λ h. PassesTo h None) tt drops env)
ended_drops p y interfaces c d t s wf typed there (end_return v at none is) b =
    subst (λ k. PassesTo (control_held p y b k s.frames) None) (sym at)
    (subst (λ fs. PassesTo (control_held p y b (Returned v) fs) None) (sym none) (nothing_held (is_mailbox b v)))

pub ended_frames : (p : Program) (c d : Config) (t : ℕ) (s : Thread) → EndStep p c t s d → (s.frames ≡ []) × (d ≡ without_thread c t)
ended_frames p c d t s (end_value e env at none is) = (none, is)
ended_frames p c d t s (end_return v at none is) = (none, is)

removed_typed : (p : Program) (y : Typing) (interfaces : ℕ → ℕ) (c : Config) (t : ℕ) (s : Thread) (typed : IsTyped p y interfaces c) → thread_at c t ≡ Some s → s.frames ≡ [] → ((b : ℕ) → PassesTo (control_held p y b s.control s.frames) None) → IsTyped p y interfaces (without_thread c t)
removed_typed p y interfaces c t s typed there none drops = record {
  typing = typed.typing;
  numbers = record {
    ordered = without_ordered c t n.ordered;
    threads_live = λ a h. n.threads_live a (remove_any (thread_refers a) c.threads t h);
    messages_live = n.messages_live;
  };
  threads = remove_all (λ e. ThreadFits p y interfaces e.1) c.threads t typed.threads;
  messages = typed.messages;
  balanced = λ a live. balanced a (typed.balanced a live);
}
  where
    n : NumbersFit c
    n = typed.numbers

    balanced : (a : ℕ) → Balanced (holdings p y interfaces c a) (pending c a) → Balanced (holdings p y interfaces (without_thread c t) a) (pending c a)
    balanced a bal =
        let ms = map (message_held p interfaces a) c.messages in
        let cut = cut_thread p y a t s c.threads there in
        let h = control_held p y a s.control s.frames in
        let held_is : thread_held p y a s ≡ h ∷ [] = ap (λ fs. h ∷ map (frame_held y a) fs) none in
        let flat : holdings p y interfaces c a ≡ cut.before ++ (h ∷ (cut.after ++ ms)) =
        ap (λ l. l ++ ms) (cut.now_is ∙ ap (λ l. cut.before ++ (l ++ cut.after)) held_is) ∙ append_assoc cut.before (h ∷ cut.after) ms in
        let front = balance_front cut.before h (cut.after ++ ms) (pending c a) (subst (λ l. Balanced l (pending c a)) flat bal) in
        let dropped = drop_first h (cut.before ++ (cut.after ++ ms)) (pending c a) (drops a) front in
        let back : holdings p y interfaces (without_thread c t) a ≡ cut.before ++ (cut.after ++ ms) =
        ap (λ l. l ++ ms) cut.left_is ∙ append_assoc cut.before cut.after ms in
        subst (λ l. Balanced l (pending c a)) (sym back) dropped

-- the law for end
pub end_keeps : (p : Program) (y : Typing) (interfaces : ℕ → ℕ) (c d : Config) (t : ℕ) → WellFormed p → IsTyped p y interfaces c → step p c (record { thread = t; act = ActEnd }) ≡ Some d → IsTyped p y interfaces d
end_keeps p y interfaces c d t wf typed h =
    let o = step_of p c (record { thread = t; act = ActEnd }) d h in
    let s = o.thread in
    let q = end_step p c t s d s.frames (redex p s.control) refl refl o.gives in
    let r = ended_frames p c d t s q in
    subst (IsTyped p y interfaces) (sym r.1) (removed_typed p y interfaces c t s typed o.there r.0 (ended_drops p y interfaces c d t s wf typed o.there q))

-- A local step keeps a configuration typed.
use Rattle.std.proofs.Common.{◌≡◌, ℕ, ◌∷◌, Some, sym, ap, ◌∙◌, subst}
use Rattle.pat_semantics_spec.specs.Programs.{Program}
use Rattle.pat_semantics_spec.specs.WellFormed.{WellFormed}
use Rattle.pat_semantics_spec.specs.Configs.{Returned, Thread, Config, thread_at, with_thread}
use Rattle.pat_semantics_spec.specs.Steps.{thread_of, ActLocal, step}
use Rattle.pat_type_system_spec.specs.Typings.{Typing}
use Rattle.pat_type_system_spec.specs.Typed.{IsTyped}
use Rattle.pat_safety_laws.proofs.ValueKeeps.{value_keeps}
use Rattle.pat_safety_laws.proofs.IfKeeps.{if_keeps}
use Rattle.pat_safety_laws.proofs.LetKeeps.{let_keeps}
use Rattle.pat_safety_laws.proofs.ReturnKeeps.{return_keeps}
use Rattle.pat_semantics_laws.proofs.Inversion.{step_of, LocalStep, by_let, by_value, by_call, by_if, by_return, local_step_of}
use Rattle.pat_safety_laws.proofs.CallKeeps.{call_keeps}

pub local_cases : (p : Program) (y : Typing) (interfaces : ℕ → ℕ) (c : Config) (t : ℕ) (s s' : Thread) → WellFormed p → (typed : IsTyped p y interfaces c) → thread_at c t ≡ Some s → LocalStep p s s' → IsTyped p y interfaces (with_thread c t s')
local_cases p y interfaces c t s s' wf typed there (by_let x m n env at is) =
    subst (λ r. IsTyped p y interfaces (with_thread c t r)) (sym is) (let_keeps p y interfaces c t s x m n env wf typed there at)
local_cases p y interfaces c t s s' wf typed there (by_value e env f fs v at frames value is) =
    subst (λ r. IsTyped p y interfaces (with_thread c t r)) (sym is) (value_keeps p y interfaces c t s e env f fs v wf typed there at frames value)
local_cases p y interfaces c t s s' wf typed there (by_call g args env h vs at fun values is) =
    subst (λ r. IsTyped p y interfaces (with_thread c t r)) (sym is) (call_keeps p y interfaces c t s g args env h vs wf typed there at fun values)
local_cases p y interfaces c t s s' wf typed there (by_if e m n env b at is) =
    subst (λ r. IsTyped p y interfaces (with_thread c t r)) (sym is) (if_keeps p y interfaces c t s e m n env b wf typed there at)
local_cases p y interfaces c t s s' wf typed there (by_return v f fs at frames is) =
    let there' : thread_at c t ≡ Some (thread_of (Returned v) (f ∷ fs)) =
    there ∙ ap (λ k. Some (thread_of k s.frames)) at ∙ ap (λ l. Some (thread_of (Returned v) l)) frames in
    subst (λ r. IsTyped p y interfaces (with_thread c t r)) (sym is) (return_keeps p y interfaces c t v f fs wf typed there')

-- the law for local steps
pub local_keeps : (p : Program) (y : Typing) (interfaces : ℕ → ℕ) (c d : Config) (t : ℕ) → WellFormed p → IsTyped p y interfaces c → step p c (record { thread = t; act = ActLocal }) ≡ Some d → IsTyped p y interfaces d
local_keeps p y interfaces c d t wf typed h =
    let o = step_of p c (record { thread = t; act = ActLocal }) d h in
    let q = local_step_of p c t o.thread d o.gives in
    subst (IsTyped p y interfaces) (sym q.2) (local_cases p y interfaces c t o.thread q.0 wf typed o.there q.1)

-- What the top of a thread refers to, the whole thread does.
use Rattle.std.proofs.Common.{◌≡◌, ℕ, Bool, true, false, cond, ◌||◌, nat_eq, List, [], ◌∷◌, ◌++◌, refl, ◌∙◌, ◌⊎◌, inl, inr, ⊎_elim}
use Rattle.std.specs.List.{list_any}
use Rattle.std.specs.Map.{set_value}
use Rattle.std.proofs.lemmas.Bool.{or_left, or_right}
use Rattle.pat_semantics_spec.specs.Configs.{Frame, Thread, Config, with_thread, thread_refers, control_refers, env_refers}
use Rattle.pat_machine_spec.specs.Tops.{over}
use Rattle.pat_machine_laws.proofs.Kept.{any_joined}
use Rattle.pat_machine_states.specs.Stepping.{ReferToLive}

either : (a b : Bool) → (a || b) ≡ true → (a ≡ true) ⊎ (b ≡ true)
either true b h = inl refl
either false b h = inr h

any_set : (f : Thread → Bool) (ts : List (ℕ × Thread)) (t : ℕ) (x y : Thread) → (f x ≡ true → f y ≡ true) → list_any (λ e. f e.1) (set_value (nat_eq t) ts x) ≡ true → list_any (λ e. f e.1) (set_value (nat_eq t) ts y) ≡ true
any_set f [] t x y more h = h
any_set f (e ∷ es) t x y more h =
    (elim (nat_eq t e.0) as (λ v. list_any (λ e. f e.1) (cond v ((e.0, x) ∷ es) (e ∷ set_value (nat_eq t) es x)) ≡ true → list_any (λ e. f e.1) (cond v ((e.0, y) ∷ es) (e ∷ set_value (nat_eq t) es y)) ≡ true) [
      | true ↦ λ k.
          ⊎_elim
          (λ own. or_left (f y) (list_any (λ e. f e.1) es) (more own))
          (λ rest. or_right (f y) (list_any (λ e. f e.1) es) rest)
          (either (f x) (list_any (λ e. f e.1) es) k)
      | false ↦ λ k.
          ⊎_elim
          (λ own. or_left (f e.1) (list_any (λ e. f e.1) (set_value (nat_eq t) es y)) own)
          (λ rest. or_right (f e.1) (list_any (λ e. f e.1) (set_value (nat_eq t) es y)) (any_set f es t x y more rest))
          (either (f e.1) (list_any (λ e. f e.1) (set_value (nat_eq t) es x)) k)
    ]) h

top_refers : (a : ℕ) (s : Thread) (rest : List Frame) → thread_refers a s ≡ true → thread_refers a (over s rest) ≡ true
top_refers a s rest h =
    ⊎_elim
    (λ own. or_left (control_refers a s.control) (list_any (λ (x : Frame). env_refers a x.env) (s.frames ++ rest)) own)
    (λ front.
    or_right (control_refers a s.control) (list_any (λ (x : Frame). env_refers a x.env) (s.frames ++ rest))
    (any_joined (λ (x : Frame). env_refers a x.env) s.frames rest ∙ or_left (list_any (λ (x : Frame). env_refers a x.env) s.frames) (list_any (λ (x : Frame). env_refers a x.env) rest) front))
    (either (control_refers a s.control) (list_any (λ (x : Frame). env_refers a x.env) s.frames) h)

pub refer_on_top : (c : Config) (t : ℕ) (s : Thread) (rest : List Frame) → ReferToLive (with_thread c t (over s rest)) → ReferToLive (with_thread c t s)
refer_on_top c t s rest live a h = live a (any_set (thread_refers a) c.threads t s (over s rest) (top_refers a s rest) h)

-- The thread whose turn it is, is ready, and none is where it is no thread's turn.
use Rattle.std.proofs.Common.{◌≡◌, ℕ, Bool, true, false, cond, not, ◌&&◌, ◌||◌, nat_eq, List, [], ◌∷◌, Option, Some, None, refl, sym, ap, ◌∙◌}
use Rattle.std.specs.Prelude.{option_map, find, is_some}
use Rattle.std.specs.Option.{option_or}
use Rattle.std.specs.Map.{lookup}
use Rattle.std.specs.List.{list_any}
use Rattle.std.proofs.lemmas.Bool.{and_parts, and_from, not-true, eq-eqb}
use Rattle.pat_semantics_spec.specs.Programs.{Program}
use Rattle.pat_semantics_spec.specs.Configs.{Thread, Config, thread_at}
use Rattle.pat_semantics_laws.proofs.Lists.{clash}
use Rattle.pat_semantics_laws.proofs.Inversion.{step_of}
use Rattle.pat_semantics_laws.proofs.Enabled.{some_key}
use Rattle.pat_semantics_laws.proofs.Ascending.{found_is_in}
use Rattle.pat_machine_spec.specs.Opens.{can_go_on}
use Rattle.pat_machine_spec.specs.Lendings.{Out, allowance_of, is_out}
use Rattle.pat_machine_spec.specs.Turns.{IsReady, is_above, is_ready, ready_above, turn}
use Rattle.pat_machine_laws.proofs.Opens.{open_exact}

-- nothing passes where nothing is found
none_found : {A : Type 0} (f : A → Bool) (xs : List A) → find f xs ≡ None → list_any f xs ≡ false
none_found f [] h = refl
none_found {A} f (y ∷ ys) h =
    (elim (f y) as (λ b. cond b (Some y) (find f ys) ≡ None → (b || list_any f ys) ≡ false) [ true ↦ λ k. cc | false ↦ λ k. none_found f ys k ]) h

-- the thread of an entry is there
there : (ts : List (ℕ × Thread)) (f : ℕ → Bool) (t : ℕ) (o : Option (ℕ × Thread)) → find (λ e. f e.0) ts ≡ o → option_map (λ e. e.0) o ≡ Some t → (s : Thread) × (lookup (nat_eq t) ts ≡ Some s)
there ts f t None h is = cc
there [] f t (Some e) h is = cc
there (x ∷ xs) f t (Some e) h is =
    (elim (nat_eq t x.0) as (λ v. nat_eq t x.0 ≡ v → (s : Thread) × (cond v (Some x.1) (lookup (nat_eq t) xs) ≡ Some s)) [
      | true ↦ λ q. (x.1, refl)
      | false ↦ λ q.
          (elim (f x.0) as (λ b. cond b (Some x) (find (λ e. f e.0) xs) ≡ Some e → (s : Thread) × (lookup (nat_eq t) xs ≡ Some s)) [
            | true ↦ λ k. let same : x ≡ e = cc in let number : e.0 ≡ t = cc in absurd (clash (eq-eqb t x.0 (sym (ap (λ (y : ℕ × Thread). y.0) same ∙ number))) q)
            | false ↦ λ k. there xs f t (Some e) k is
          ]) h
    ]) refl

not_out : (o : Option ℕ) → is_some o ≡ false → o ≡ None
not_out None h = refl
not_out (Some n) h = cc

is_not_out : (o : Option ℕ) → o ≡ None → not (is_some o) ≡ true
is_not_out None h = refl
is_not_out (Some n) h = cc

-- the test says that the thread is ready
pub ready_passes : (p : Program) (c : Config) (limit : ℕ) (out : Out) (t : ℕ) → is_ready p c limit out t ≡ true → IsReady p c limit out t
ready_passes p c limit out t h =
    let both = and_parts (not (is_out out t)) (can_go_on p c limit t) h in
    (not_out (allowance_of out t) (not-true (is_out out t) both.0), (open_exact p c limit t).0 both.1)

pub passes_ready : (p : Program) (c : Config) (limit : ℕ) (out : Out) (t : ℕ) → IsReady p c limit out t → is_ready p c limit out t ≡ true
passes_ready p c limit out t h = and_from (not (is_out out t)) (can_go_on p c limit t) (is_not_out (allowance_of out t) h.0) ((open_exact p c limit t).1 h.1)

-- a ready thread is there
pub ready_there : (p : Program) (c : Config) (limit : ℕ) (out : Out) (t : ℕ) → IsReady p c limit out t → (s : Thread) × (thread_at c t ≡ Some s)
ready_there p c limit out t (none, (a, (e, space))) =
    let o = step_of p c (record { thread = t; act = a }) e.0 e.1 in
    (o.thread, o.there)

-- what is found above a thread
module _ (p : Program) (c : Config) (limit : ℕ) (out : Out) where
  abbrev test : Option ℕ → ℕ → Bool
  test last t = is_above last t && is_ready p c limit out t

  above_ready : (last : Option ℕ) (t : ℕ) (o : Option (ℕ × Thread)) → find (λ e. test last e.0) c.threads ≡ o → option_map (λ e. e.0) o ≡ Some t → IsReady p c limit out t × ((s : Thread) × (thread_at c t ≡ Some s))
  above_ready last t None h is = cc
  above_ready last t (Some e) h is =
      let same : e.0 ≡ t = cc in
      let both = and_parts (is_above last e.0) (is_ready p c limit out e.0) (found_is_in (λ (e : ℕ × Thread). test last e.0) c.threads e h).1 in
      (ready_passes p c limit out t (ap (is_ready p c limit out) (sym same) ∙ both.1), there c.threads (test last) t (Some e) h is)

  either_ready : (last : Option ℕ) (t : ℕ) (o : Option ℕ) → ready_above p c limit out last ≡ o → option_or o (ready_above p c limit out None) ≡ Some t → IsReady p c limit out t × ((s : Thread) × (thread_at c t ≡ Some s))
  either_ready last t None is h = above_ready None t (find (λ e. test None e.0) c.threads) refl h
  either_ready last t (Some n) is h = above_ready last t (find (λ e. test last e.0) c.threads) refl (is ∙ h)

  -- the thread whose turn it is, is ready, and it is there
  pub turn_ready : (last : Option ℕ) (t : ℕ) → turn p c limit out last ≡ Some t → IsReady p c limit out t × ((s : Thread) × (thread_at c t ≡ Some s))
  turn_ready last t h = either_ready last t (ready_above p c limit out last) refl h

  -- a ready thread above it is in the list
  ready_listed : (last : Option ℕ) (t : ℕ) → is_above last t ≡ true → IsReady p c limit out t → list_any (λ e. test last e.0) c.threads ≡ true
  ready_listed last t above h =
      let s = ready_there p c limit out t h in
      some_key (test last) c.threads t s.0 s.1 (and_from (is_above last t) (is_ready p c limit out t) above (passes_ready p c limit out t h))

  -- where none is found above it, none above it is ready
  pub none_above : (last : Option ℕ) (t : ℕ) (o : Option (ℕ × Thread)) → find (λ e. test last e.0) c.threads ≡ o → option_map (λ e. e.0) o ≡ None → is_above last t ≡ true → IsReady p c limit out t → ⊥
  none_above last t None h is above ready = clash (ready_listed last t above ready) (none_found (λ (e : ℕ × Thread). test last e.0) c.threads h)
  none_above last t (Some e) h is above ready = cc

  no_turn : (o : Option ℕ) → option_or o (ready_above p c limit out None) ≡ None → (t : ℕ) → IsReady p c limit out t → ⊥
  no_turn None h t ready = none_above None t (find (λ e. test None e.0) c.threads) refl h refl ready
  no_turn (Some n) h t ready = cc

  -- where it is no thread's turn, none is ready
  pub turn_none : (last : Option ℕ) → turn p c limit out last ≡ None → (t : ℕ) → IsReady p c limit out t → ⊥
  turn_none last h t ready = no_turn (ready_above p c limit out last) h t ready

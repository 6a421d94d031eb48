-- What parts hold as returnable, where different variables name different mailboxes.
use Rattle.std.proofs.Common.{◌≡◌, ℕ, zero, suc, ◌+◌, ◌<◌, Bool, true, false, not, ◌||◌, ◌&&◌, List, [], ◌∷◌, length, drop, get_or, Some, refl, sym, ap, ap₂, ◌∙◌, subst}
use Rattle.std.specs.Prelude.{nat_eq, slice_get, option_map, if◌then◌else◌}
use Rattle.std.proofs.lemmas.Bool.{and_parts, eqb-true, eq-eqb}
use Rattle.std.proofs.lemmas.Option.{slice_get-map, slice_get-get_or}
use Rattle.pat_semantics_spec.specs.Values.{Value, Const, Mailbox, Env}
use Rattle.pat_semantics_spec.specs.Programs.{is_among}
use Rattle.pat_semantics_spec.specs.Configs.{is_mailbox}
use Rattle.pat_type_system_spec.specs.Types.{TypeEnv}
use Rattle.pat_type_system_spec.specs.Holdings.{Holding, held}
use Rattle.pat_type_system_spec.specs.Typed.{mailboxes_of}
use Rattle.pat_derivation_spec.specs.Same.{all_differ}
use Rattle.pat_reduce_values.specs.declared.values.Value.{Value as CodeValue}
use Rattle.pat_reduce_values.specs.declared.values.Value.TheVariants as value
use Rattle.pat_reduce_values.specs.ValueViews.{value_view, env_view}
use Rattle.pat_checkpoint_spec.specs.Mailboxes.{is_returnable, values_of, env_differs}
use Rattle.pat_checkpoint_parts.specs.Keeping.{keeps_marked}
use Rattle.pat_checkpoint_parts.proofs.Turns.{left_at}

-- with tests of marks that are the same
pub keeps_same : (m n : ℕ → Bool) (holds : ℕ → Holding) (bs : List ℕ) → ((b : ℕ) → m b ≡ n b) → keeps_marked m holds bs ≡ keeps_marked n holds bs
keeps_same m n holds [] h = refl
keeps_same m n holds (b ∷ bs) h = ap₂ (λ s t. (not (is_returnable (holds b)) || not s) && t) (h b) (keeps_same m n holds bs h)

-- a mailbox at a place is among the mailboxes
stands_there : (env : Env) (i x a : ℕ) → slice_get env i ≡ Some (x, Mailbox a) → is_among a (mailboxes_of (values_of env)) ≡ true
stands_there [] i x a h = cc
stands_there (e ∷ es) zero x a h =
    let same : e ≡ (x, Mailbox a) = cc in
    subst (λ (d : ℕ × Value). is_among a (mailboxes_of (values_of (d ∷ es))) ≡ true) (sym same) (ap (λ b. b || is_among a (mailboxes_of (values_of es))) (eq-eqb a a refl))
stands_there (e ∷ es) (suc i) x a h = go e.1 (stands_there es i x a h)
  where
    go : (v : Value) → is_among a (mailboxes_of (values_of es)) ≡ true → is_among a (mailboxes_of (v ∷ values_of es)) ≡ true
    go (Const k) q = q
    go (Mailbox b) q = ap (λ t. nat_eq a b || t) q ∙ always (nat_eq a b)
      where
        always : (b : Bool) → (b || true) ≡ true
        always true = refl
        always false = refl

-- where mailboxes differ, what is held of one is by its own variable
pub held_at : (g : TypeEnv) (env : Env) (i x a : ℕ) → env_differs env ≡ true → slice_get env i ≡ Some (x, Mailbox a) → held g a env ≡ g x
held_at g [] i x a d h = cc
held_at g (e ∷ es) zero x a d h =
    let same : e ≡ (x, Mailbox a) = cc in
    subst (λ (d : ℕ × Value). held g a (d ∷ es) ≡ g x) (sym same) (ap (λ b. if b then g x else held g a es) (eq-eqb a a refl))
held_at g (e ∷ es) (suc i) x a d h = go e.1 d (λ r. held_at g es i x a r h)
  where
    go : (v : Value) → all_differ (mailboxes_of (v ∷ values_of es)) ≡ true → (all_differ (mailboxes_of (values_of es)) ≡ true → held g a es ≡ g x) → (if is_mailbox a v then g e.0 else held g a es) ≡ g x
    go (Const k) d rest = rest d
    go (Mailbox b) d rest =
        let both = and_parts (not (is_among b (mailboxes_of (values_of es)))) (all_differ (mailboxes_of (values_of es))) d in
        (elim (nat_eq a b) as (λ t. nat_eq a b ≡ t → (if t then g e.0 else held g a es) ≡ g x) [
          | true ↦ λ is.
              let on = ap (λ k. is_among k (mailboxes_of (values_of es))) (sym (eqb-true a b is)) ∙ stands_there es i x a h in
              let off : false ≡ true = ap not (sym on) ∙ both.0 in
              absurd cc
          | false ↦ λ is. rest both.1
        ]) refl

-- ---- a turn

module _ (m : ℕ → Bool) (g : TypeEnv) (env : List (ℕ × CodeValue)) (i : ℕ) (e : ℕ × CodeValue) (less : i < length env) (at : e ≡ get_or env i e) (whole : Bool) where
  abbrev pub left : ℕ → Bool
  left k = keeps_marked m (λ b. held g b (env_view env)) (mailboxes_of (values_of (env_view (drop k env))))

  unfolds : left i ≡ keeps_marked m (λ b. held g b (env_view env)) (mailboxes_of (value_view e.1 ∷ values_of (env_view (drop (i + 1) env))))
  unfolds = ap (λ l. keeps_marked m (λ b. held g b (env_view env)) (mailboxes_of (values_of (env_view l)))) (left_at env i e less at)

  no_mailbox : (v : CodeValue) → ((a : ℕ) → v ≡ value.Mailbox a → ⊥) → mailboxes_of (value_view v ∷ values_of (env_view (drop (i + 1) env))) ≡ mailboxes_of (values_of (env_view (drop (i + 1) env)))
  no_mailbox value.Unit h = refl
  no_mailbox (value.Bool b) h = refl
  no_mailbox (value.Int n) h = refl
  no_mailbox (value.Str s) h = refl
  no_mailbox (value.Mailbox a) h = absurd (h a refl)

  pub passed_by : left i ≡ whole → ((a : ℕ) → e.1 ≡ value.Mailbox a → ⊥) → left (i + 1) ≡ whole
  passed_by same other = sym (unfolds ∙ ap (keeps_marked m (λ b. held g b (env_view env))) (no_mailbox e.1 other)) ∙ same

  module _ (a : ℕ) (is : e.1 ≡ value.Mailbox a) (differ : env_differs (env_view env) ≡ true) (same : left i ≡ whole) where
    stands : slice_get (env_view env) i ≡ Some (e.0, Mailbox a)
    stands =
        slice_get-map (λ (b : ℕ × CodeValue). (b.0, value_view b.1)) env i
        ∙ ap (option_map (λ (b : ℕ × CodeValue). (b.0, value_view b.1))) (slice_get-get_or env i e less ∙ ap Some (sym at))
        ∙ ap (λ v. Some (e.0, value_view v)) is

    turn : left i ≡ ((not (is_returnable (g e.0)) || not (m a)) && left (i + 1))
    turn =
        unfolds
        ∙ ap (λ v. keeps_marked m (λ b. held g b (env_view env)) (mailboxes_of (value_view v ∷ values_of (env_view (drop (i + 1) env))))) is
        ∙ ap (λ h. (not (is_returnable h) || not (m a)) && left (i + 1)) (held_at g (env_view env) i e.0 a differ stands)

    pub stops : (not (is_returnable (g e.0)) || not (m a)) ≡ false → false ≡ whole
    stops h = sym (turn ∙ ap (λ b. b && left (i + 1)) h) ∙ same

    pub goes_on : (not (is_returnable (g e.0)) || not (m a)) ≡ true → left (i + 1) ≡ whole
    goes_on h = sym (turn ∙ ap (λ b. b && left (i + 1)) h) ∙ same

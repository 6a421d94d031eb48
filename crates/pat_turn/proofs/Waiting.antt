-- What a seat is told while it waits for its ticket.
use Rattle.std.proofs.Common.{◌≡◌, ◌≢◌, ℕ, List, [], ◌∷◌, ap, sym, ◌∙◌, subst, Option, Some}
use Rattle.pat_turn.specs.declared.view.Stage.TheVariants.{Idle, Waits, Holds}
use Rattle.pat_turn.specs.Rule.{Mine, drew, looked, Comes}

module _ {V N E : Type 0} (name_of : V → N) (log_of : V → List E) (by : E → ℕ) (old m0 m m' : Mine V N E) (ticket found : ℕ) (drawn : drew old ticket m0) (kept : m ≡ m0) (told : looked name_of log_of by m found m') where
  waits : m.0.stage ≡ Waits drawn.0
  waits = ap (λ (x : Mine V N E). x.0.stage) kept ∙ ap (λ (x : Mine V N E). x.0.stage) drawn.2

  -- the ticket is served: the value came
  pub came : found ≡ ticket → old.1 ≡ [] → (x : V) × (t : ℕ) × (m' ≡ (record old.0 { stage = Holds t; seen = log_of x }, (0, Some x) ∷ [])) × Comes name_of log_of by (record old.0 { stage = Idle }) x
  came e bare =
      let t = drawn.0 in
      let c = (told t waits).0 (e ∙ sym drawn.1) in
      let x : V = c.0 in
      let all : m ≡ (record old.0 { stage = Waits t }, old.1) = kept ∙ drawn.2 in
      let then : (record m.0 { stage = Holds t; seen = log_of x }, (0, Some x) ∷ m.1) ≡ (record old.0 { stage = Holds t; seen = log_of x }, (0, Some x) ∷ old.1) = ap (λ (y : Mine V N E). (record y.0 { stage = Holds t; seen = log_of x }, (0, Some x) ∷ y.1)) all in
      let emptied : (record old.0 { stage = Holds t; seen = log_of x }, (0, Some x) ∷ old.1) ≡ (record old.0 { stage = Holds t; seen = log_of x }, (0, Some x) ∷ []) = ap (λ (l : List (ℕ × Option V)). (record old.0 { stage = Holds t; seen = log_of x }, (0, Some x) ∷ l)) bare in
      let known : Comes name_of log_of by (record old.0 { stage = Waits t }) x = subst (λ (y : Mine V N E). Comes name_of log_of by y.0 x) all c.2 in
      (x, t, c.1 ∙ (then ∙ emptied), record { named = known.named; prefix = known.prefix; own = known.own })

  -- another ticket is served: nothing changed
  pub waits_on : found ≢ ticket → m' ≡ m0
  waits_on n = (told drawn.0 waits).1 (λ e. n (e ∙ drawn.1)) ∙ kept

abbrev first_or : {A : Type 0} → A → List (ℕ × A) → A
first_or d [] = d
first_or d (x ∷ xs) = x.1

-- what was in the slot
pub slot_is : {A : Type 0} (c xs ys : List (ℕ × A)) (r x : A) → c ≡ (0, r) ∷ xs → c ≡ (0, x) ∷ ys → r ≡ x
slot_is c xs ys r x p q = ap (first_or r) (sym p ∙ q)

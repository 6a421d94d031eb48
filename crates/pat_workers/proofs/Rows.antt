-- What the workers did, at each place.
use Rattle.std.proofs.Common.{◌≡◌, ℕ, zero, suc, ◌+◌, ◌<◌, cond, List, [], ◌∷◌, ◌++◌, length, map, set, slice_get, get_or, refl, sym, ap, ◌∙◌, subst, arith, Some, Result, Ok, Err, Vec, Global}
use Rattle.std.specs.Prelude.{is_ok}
use Rattle.std.specs.Result.{OnOk}
use Rattle.std.proofs.lemmas.List.Elements.{All-nil, All-cons}
use Rattle.std.specs.List.{All}
use Rattle.pat_core.specs.declared.program.Program.{Program}
use Rattle.pat_reduce.specs.declared.history.Entry.{Entry}
use Rattle.pat_machine.specs.declared.job.Named.{Named}
use Rattle.pat_turn.specs.Shown.{ShownPass, ShownTurn, newcomer, newcomers}
use Rattle.pat_workers.specs.declared.serving.Worker.{Worker}
use Rattle.pat_machine.specs.declared.job.Receipt.{Receipt}
use Rattle.pat_workers.specs.Runs.{Rows, GrewFirst}
use Rattle.pat_workers.specs.Workers.{IsOfProgram, IsReady, IsWorked}
use Rattle.pat_workers.proofs.Placed.{some_is}

pub length_new : (t : ShownTurn Named) (k n : ℕ) → length (newcomers {E = Entry} t k n) ≡ n
length_new t k zero = refl
length_new t k (suc n) = ap suc (length_new t (suc k) n)

-- passes that have seen nothing may begin
pub all_ready : (t : ShownTurn Named) (code : Program) → IsOfProgram (Some t.name) code → (k n : ℕ) → All (IsReady t.id code) (newcomers t k n)
all_ready t code fits k zero = All-nil (IsReady t.id code)
all_ready t code fits k (suc n) = All-cons (IsReady t.id code) (newcomer t k) (newcomers t (suc k) n) (record { turn_is = refl; free = refl; new = refl; of_program = fits }) (all_ready t code fits (suc k) n)

at_new : (t : ShownTurn Named) (k n i : ℕ) (d : ShownPass Named Entry) → i < n → get_or (newcomers t k n) i d ≡ newcomer t (k + i)
at_new t k zero i d h = absurd (omega (arith, h))
at_new t k (suc n) zero d h = ap (newcomer t) (let e : k ≡ k + 0 = omega arith in e)
at_new t k (suc n) (suc i) d h = at_new t (suc k) n i d (omega (arith, h)) ∙ ap (newcomer t) (let e : suc k + i ≡ k + suc i = omega arith in e)

pub get_below : {A : Type 0} (ys : List A) (i : ℕ) (q : A) → slice_get ys i ≡ Some q → i < length ys
get_below [] i q e = absurd (cc e)
get_below (y ∷ ys) zero q e = omega arith
get_below (y ∷ ys) (suc i) q e = let h = get_below ys i q e in omega (arith, h)

read_at : {A : Type 0} (ys : List A) (i : ℕ) (q d : A) → slice_get ys i ≡ Some q → get_or ys i d ≡ q
read_at [] i q d e = absurd (cc e)
read_at (y ∷ ys) zero q d e = some_is e
read_at (y ∷ ys) (suc i) q d e = read_at ys i q d e

-- an element of an image is the image of one
pub from_map : {A B : Type 0} (f : A → B) (ys : List A) (i : ℕ) (p : B) → slice_get (map f ys) i ≡ Some p → (q : A) × (slice_get ys i ≡ Some q) × (f q ≡ p)
from_map f [] i p e = absurd (cc e)
from_map f (y ∷ ys) zero p e = (y, refl, some_is e)
from_map f (y ∷ ys) (suc i) p e = from_map f ys i p e

pub to_map : {A B : Type 0} (f : A → B) (ys : List A) (i : ℕ) (q : A) → slice_get ys i ≡ Some q → slice_get (map f ys) i ≡ Some (f q)
to_map f [] i q e = absurd (cc e)
to_map {A} {B} f (y ∷ ys) zero q e = ap (λ (a : A). Some (f a)) (some_is e)
to_map f (y ∷ ys) (suc i) q e = to_map f ys i q e

-- what the worker of each number did
pub worked_at : (t : ShownTurn Named) (ps : List (ShownPass Named Entry)) (ws : List Worker) → ps ≡ newcomers t 0 t.passes → length ws ≡ length ps
    → ((i : ℕ) (w : Worker) → i < length ps → IsWorked (get_or ps i w.pass) (get_or ws i w))
    → (i : ℕ) (w : Worker) → slice_get ws i ≡ Some w → IsWorked (newcomer t i) w
worked_at t ps ws new len each i w e =
    let low = get_below ws i w e in
    let all : length ps ≡ t.passes = ap length new ∙ length_new t 0 t.passes in
    let here : get_or ps i w.pass ≡ newcomer t i = ap (λ l. get_or l i w.pass) new ∙ (at_new t 0 t.passes i w.pass (omega (arith, low, len, all)) ∙ ap (newcomer t) (let z : 0 + i ≡ i = omega arith in z)) in
    subst (λ (x : ShownPass Named Entry × Worker). IsWorked x.0 x.1) (λ j. (here j, read_at ws i w w e j)) (each i w (omega (arith, low, len)))

-- the first row, with more behind it
pub grew : {X F : Type 0} (r : Result X F) (rows : Rows) (was new : Vec Receipt Global) (more : List Receipt) → 0 < length rows → was ≡ get_or rows 0 was → new.items ≡ cond (is_ok r) (was.items ++ more) was.items → OnOk r (GrewFirst rows more (set rows 0 new))
grew r [] was new more some at items = absurd (omega (arith, some))
grew (Err e) (row ∷ rows) was new more some at items = tt
grew (Ok x) (row ∷ rows) was new more some at items = record {
  lengths = refl;
  first = λ q e. (row, refl, ap (λ (v : Vec Receipt Global). v.items) (sym (some_is e)) ∙ items ∙ ap (λ (v : Vec Receipt Global). v.items ++ more) at);
  others = λ i. refl;
}

-- each of the passes may begin
pub ready_at : (t : ShownTurn Named) (code : Program) (ps : List (ShownPass Named Entry)) → ps ≡ newcomers t 0 t.passes → IsOfProgram (Some t.name) code → (k : ℕ) (d : ShownPass Named Entry) → k < length ps → IsReady t.id code (get_or ps k d)
ready_at t code ps new fits k d low =
    let all : length ps ≡ t.passes = ap length new ∙ length_new t 0 t.passes in
    let here : get_or ps k d ≡ newcomer t k = ap (λ l. get_or l k d) new ∙ (at_new t 0 t.passes k d (omega (arith, low, all)) ∙ ap (newcomer t) (let z : 0 + k ≡ k = omega arith in z)) in
    subst (IsReady t.id code) (sym here) (record { turn_is = refl; free = refl; new = refl; of_program = fits })

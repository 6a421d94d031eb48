-- Runs of the machine, a step at a time.
use Rattle.std.proofs.Common.{◌≡◌, ℕ, suc, ◌+◌, Bool, List, ◌∷◌, Ok, ap, ◌∙◌, arith}
use Rattle.pat_parser_spec.specs.Items.{At, Item, Limits, Room, RoomBelow}
use Rattle.pat_parser_spec.specs.Machine.{Frame, Control, State, state, Next, within, Opens, Starts, settle, step, bind, run}

pub run_step : (lim : Limits) (x y : State) (t : Item) (ts : List Item) → step lim x t ≡ Ok y → run lim x (t ∷ ts) ≡ run lim y ts
run_step lim x y t ts h = ap (λ (r : Next). bind r (λ z. run lim z ts)) h

pub room_step : (lim : Limits) (w : At) (o k : ℕ) (x : State) → Room lim w o k → settle lim w.free (Opens o k x) ≡ Ok x
room_step lim w o k x h = ap (λ (b : Bool). within b x) h

pub below_step : (lim : Limits) (w : At) (s : ℕ) (x : State) → RoomBelow lim w s → settle lim w.free (Starts s x) ≡ Ok x
below_step lim w s x h = ap (λ (b : Bool). within b x) h

-- a token that opens, where it has room
pub open_run : (lim : Limits) (x y : State) (t : Item) (w : At) (o k : ℕ) (ts : List Item) → step lim x t ≡ settle lim w.free (Opens o k y) → Room lim w o k → run lim x (t ∷ ts) ≡ run lim y ts
open_run lim x y t w o k ts h room = run_step lim x y t ts (h ∙ room_step lim w o k y room)

-- the count of open operators, said in another way
pub recount : (lim : Limits) (c : Control) (fs : List Frame) (o k j s : ℕ) (us : List Item) → k ≡ j → run lim (state c fs o k s) us ≡ run lim (state c fs o j s) us
recount lim c fs o k j s us h = ap (λ (i : ℕ). run lim (state c fs o i s) us) h

pub count_none : (k : ℕ) → k ≡ k + 0
count_none k = omega arith

pub count_zero : (k a : ℕ) → a ≡ 0 → k ≡ k + a
count_zero k a h = omega arith

pub count_one : (k a : ℕ) → suc k + a ≡ k + suc a
count_one k a = omega arith

pub count_both : (k a b : ℕ) → suc (k + a) + b ≡ k + suc (a + b)
count_both k a b = omega arith

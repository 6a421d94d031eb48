-- Threads whose next act is a send.
use Rattle.std.proofs.Common.{◌≡◌, Bool, true, false, List, [], ◌∷◌, Option, Some, None, refl}
use Rattle.std.specs.Prelude.{is_some}
use Rattle.std.proofs.lemmas.Bool.{and_parts}
use Rattle.pat_semantics_spec.specs.Values.{Value, Const, Mailbox, eval_all, value_at}
use Rattle.pat_semantics_spec.specs.Programs.{Program, Val, Let, Call, If, Print, New, Send, Spawn, Guard}
use Rattle.pat_semantics_spec.specs.Configs.{Frame}
use Rattle.pat_semantics_spec.specs.Steps.{Act, Redex, At, Done, Nowhere}
use Rattle.pat_semantics_spec.specs.Runs.{is_send}
use Rattle.pat_reduce.specs.Acts.{act_if, is_mailbox_value, candidate, plain_act}
use Rattle.pat_machine_indexes.specs.ready_sets.Wakings.{mailbox_in, target_at}
use Rattle.pat_machine_steps.specs.shared_steps.Opening.{is_sending}

-- a test's act is a send only where the test passes and its act is a send
sends_if : (b : Bool) (a : Act) → is_sending (act_if b a) ≡ true → (b ≡ true) × (is_send a ≡ true)
sends_if true a h = (refl, h)
sends_if false a h = cc

to_mailbox : (o : Option Value) → is_mailbox_value o ≡ true → is_some (mailbox_in o) ≡ true
to_mailbox (Some (Mailbox a)) h = refl
to_mailbox (Some (Const k)) h = cc
to_mailbox None h = cc

-- what stands there is a send to a mailbox
pub sends_at : (p : Program) (r : Redex) (fs : List Frame) → is_sending (plain_act p r fs) ≡ true → is_some (target_at r) ≡ true
sends_at p (At (Send x m args) env) fs h =
    to_mailbox (value_at env x) (and_parts (is_mailbox_value (value_at env x)) (is_some (eval_all env args)) (sends_if (candidate p (At (Send x m args) env) fs).0 (candidate p (At (Send x m args) env) fs).1 h).0).0
sends_at p (At (Val e) env) [] h = cc
sends_at p (At (Val e) env) (f ∷ fs) h = let no = (sends_if (candidate p (At (Val e) env) (f ∷ fs)).0 (candidate p (At (Val e) env) (f ∷ fs)).1 h).1 in cc
sends_at p (At (Let y m n) env) fs h = cc
sends_at p (At (Call f args) env) fs h = let no = (sends_if (candidate p (At (Call f args) env) fs).0 (candidate p (At (Call f args) env) fs).1 h).1 in cc
sends_at p (At (If e m n) env) fs h = let no = (sends_if (candidate p (At (If e m n) env) fs).0 (candidate p (At (If e m n) env) fs).1 h).1 in cc
sends_at p (At (Print e) env) fs h = let no = (sends_if (candidate p (At (Print e) env) fs).0 (candidate p (At (Print e) env) fs).1 h).1 in cc
sends_at p (At (New i) env) fs h = cc
sends_at p (At (Spawn m) env) fs h = cc
sends_at p (At (Guard x e free cs) env) fs h = cc
sends_at p (Done v) [] h = cc
sends_at p (Done v) (f ∷ fs) h = cc
sends_at p Nowhere fs h = cc

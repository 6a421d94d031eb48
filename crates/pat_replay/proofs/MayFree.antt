-- A free, where nothing else reaches the mailbox.
use Rattle.std.proofs.Common.{◌≡◌, ℕ, Bool, true, false, not, ◌&&◌, Option, Some, None, refl, sym, ap, ◌∙◌}
use Rattle.std.specs.Prelude.{option_and_then}
use Rattle.std.proofs.lemmas.Bool.{cond-true}
use Rattle.std.proofs.lemmas.Option.{same_Some}
use Rattle.pat_semantics_spec.specs.Programs.{Program, is_among}
use Rattle.pat_semantics_spec.specs.Configs.{Config, has_pending, is_reached_by_none_but}
use Rattle.pat_semantics_spec.specs.Steps.{Redex, at_node}
use Rattle.pat_reduce.specs.threads.ThreadActs.{Guarding, guard_at}
use Rattle.pat_reduce.specs.Acts.{may_free, freed_by, redex_freed}

both : (x y z : Bool) → x ≡ true → y ≡ false → z ≡ true → (x && (not y && z)) ≡ true
both true false true h k l = refl
both false y z h k l = cc
both true true z h k l = cc
both true false false h k l = cc

freed_so : (p : Program) (c : Config) (t : ℕ) (g : Guarding) (o : Option ℕ) (n : ℕ) → o ≡ Some n → may_free c t g.mailbox ≡ true → freed_by p c t g o ≡ Some (g.mailbox, at_node p n g.env)
freed_so p c t g None n is may = cc
freed_so p c t g (Some m) n is may =
    cond-true (may_free c t g.mailbox) (Some (g.mailbox, at_node p m g.env)) None may ∙ ap (λ k. Some (g.mailbox, at_node p k g.env)) (let same : m ≡ n = same_Some m n is in same)

-- what the guard's thread frees, where nothing else reaches the mailbox
pub may_be_freed : (p : Program) (c : Config) (t : ℕ) (r : Redex) (g : Guarding) (n : ℕ) → Some g ≡ guard_at r → g.free ≡ Some n → is_among g.mailbox c.live ≡ true → has_pending g.mailbox c.messages ≡ false → is_reached_by_none_but c g.mailbox t ≡ true
    → redex_freed p c t r ≡ Some (g.mailbox, at_node p n g.env)
may_be_freed p c t r g n at free live empty alone =
    ap (option_and_then (λ g. freed_by p c t g g.free)) (sym at)
    ∙ freed_so p c t g g.free n free (both (is_among g.mailbox c.live) (has_pending g.mailbox c.messages) (is_reached_by_none_but c g.mailbox t) live empty alone)

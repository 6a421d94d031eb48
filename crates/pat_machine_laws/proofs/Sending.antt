-- What a send of a thread alone leaves.
use Rattle.std.proofs.Common.{◌≡◌, ℕ, [], ◌∷◌, Some, refl, sym, ap, ◌∙◌, subst}
use Rattle.std.specs.List.{list_any}
use Rattle.std.proofs.lemmas.Bool.{or_left}
use Rattle.pat_semantics_spec.specs.Programs.{Program}
use Rattle.pat_semantics_spec.specs.Configs.{Thread, Message, Config, thread_at, thread_refers, control_refers, env_refers}
use Rattle.pat_semantics_spec.specs.Steps.{ActSend, redex, step}
use Rattle.pat_semantics_laws.proofs.Inversion.{send_step}
use Rattle.pat_semantics_laws.proofs.Threads.{lookup_any}
use Rattle.pat_safety_laws.proofs.Refers.{value_refers}
use Rattle.pat_machine_laws.specs.thread_frames.Alone.{alone}
use Rattle.pat_machine_laws.specs.thread_frames.Laws.{Sends}
use Rattle.pat_machine_laws.proofs.Steps.{step_alone}

pub send_leaves : (p : Program) (c d : Config) (t : ℕ) (s : Thread) (m : Message) → thread_at c t ≡ Some s → step p (alone c t s []) (record { thread = t; act = ActSend }) ≡ Some d → d.messages ≡ m ∷ [] → Sends c m
send_leaves p c d t s m there is messages =
    let q = send_step p (alone c t s []) t s d (redex p s.control) refl (sym (step_alone p c t s [] ActSend) ∙ is) in
    let a = q.mailbox in
    let named = or_left (control_refers a s.control) (list_any (λ f. env_refers a f.env) s.frames) (ap (control_refers a) q.at.control_is ∙ value_refers q.env q.var a q.target) in
    let n : Message = record { number = c.next_message; mailbox = a; tag = q.tag; values = q.values } in
    let both : n ∷ [] ≡ m ∷ [] = sym (ap (λ (x : Config). x.messages) q.result) ∙ messages in
    let same : n ≡ m = cc in
    subst (Sends c) same (record { number = refl; named = lookup_any (thread_refers a) c.threads t s there named })

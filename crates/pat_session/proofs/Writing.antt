-- What a sink tells of the writing of a text.
use Rattle.std.proofs.Common.{◌≡◌, ◌+◌, ◌-◌, ◌≤◌, ℕ, List, ◌++◌, length, take, drop, append_assoc, Option, Some, None, refl, ap, ◌∙◌, inl, inr, arith}
use Rattle.std.specs.Prelude.{◌≢◌}
use Rattle.std.specs.Io.KnownBytes.{Appends}
use Rattle.std.proofs.lemmas.List.{length-take, length-drop}
use Rattle.pat_ports.specs.Causes.{Raised}
use Rattle.pat_ports.specs.Bytes.{AppendsFront}
use Rattle.pat_front.specs.declared.exit_answers.status.Status.{Status}
use Rattle.pat_front.specs.declared.exit_answers.status.Status.TheVariants.{WriteFault}
use Rattle.pat_session.specs.Ports.{SinkState, IsCutShort, Writes}
use Rattle.pat_session.proofs.Fronts.{front_more}

module _ (old new : SinkState) (text : List ℕ) (status : Status) where
  pub whole : status ≢ WriteFault → Appends old.taken new.taken text → Appends old.handed new.handed text → new.faults ≡ old.faults → Writes old new text status status
  whole other taken handed same = record { written = inl (refl, taken); handed = λ _. handed; begun = λ e. absurd (other e); faults = record { failed = λ e. absurd (other e); unfailed = λ _. same } }

  pub part : IsCutShort old.taken new.taken text → AppendsFront old.handed new.handed text → Raised old.faults new.faults → Writes old new text status WriteFault
  part cut begun more = record { written = inr (refl, cut); handed = λ other. absurd (other refl); begun = λ _. begun; faults = record { failed = λ _. more; unfailed = λ other. absurd (other refl) } }

-- a front of what is left of a text, behind a front of it, is a front of it
pub front_behind : (old mid new : Option (List ℕ)) (text : List ℕ) (done : ℕ) → done ≤ length text → Appends old mid (take done text) → AppendsFront mid new (take (length text - done) (drop done text)) → AppendsFront old new text
front_behind None mid new text done within first more = tt
front_behind (Some xs) None new text done within first more = absurd first
front_behind (Some xs) (Some ys) None text done within first more = absurd more
front_behind (Some xs) (Some ys) (Some zs) text done within first (n, fits, is) =
    let left = length-drop done text in
    let cut = length-take (length text - done) (drop done text) in (
      done + n,
      omega (arith, within, fits, left, cut),
      is ∙ ap (λ l. l ++ take n (take (length text - done) (drop done text))) first ∙ append_assoc xs (take done text) (take n (take (length text - done) (drop done text))) ∙ ap (λ l. xs ++ l) (front_more text done n),
    )

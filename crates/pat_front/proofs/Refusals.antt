-- Refusals, by the bytes that they speak of.
use Rattle.std.proofs.Common.{◌≡◌, ◌≤◌, ℕ, List, length, refl}
use Rattle.std.specs.Prelude.{◌≢◌}
use Rattle.pat_input.specs.Inputs.{limit}
use Rattle.pat_front.specs.Texts.{IsRefusal}
use Rattle.pat_front.specs.declared.verdict.Verdict.{Verdict}
use Rattle.pat_front.specs.declared.verdict.Verdict.TheVariants as verdict

-- only one verdict is on bytes that are too many
pub small : (bytes : List ℕ) (v : Verdict) → IsRefusal bytes v → v ≢ verdict.TooLong → length bytes ≤ limit
small bytes verdict.TooLong r other = absurd (other refl)
small bytes (verdict.Syntax o) r other = r.0
small bytes (verdict.NumberTooWide o) r other = r.0
small bytes (verdict.TooDeep o) r other = r.0
small bytes (verdict.Resolve k s) r other = r.1.small
small bytes (verdict.BadText o) r other = absurd r
small bytes (verdict.Rejected n rule) r other = absurd r
small bytes (verdict.RefusedAt i) r other = absurd r
small bytes verdict.TooManyEntries r other = absurd r
small bytes (verdict.Unshown line) r other = absurd r
small bytes (verdict.BadCheckpoint rule) r other = absurd r
small bytes (verdict.Unaccepted reason) r other = absurd r

-- What is refused for another reason than being too long is short enough; and what has a mark isn't refused for want of it.
use Rattle.std.proofs.Common.{◌≡◌, ◌<◌, ◌≤◌, ℕ, List, length, refl, ⊎_elim, arith}
use Rattle.std.specs.Prelude.{◌≢◌}
use Rattle.pat_input.specs.Inputs.{limit, whole_limit}
use Rattle.pat_front.specs.declared.verdict.Verdict.{Verdict}
use Rattle.pat_front.specs.declared.verdict.Verdict.TheVariants as verdict
use Rattle.pat_input_split.specs.Marked.{IsMarked, IsUnmarked}
use Rattle.pat_input_split.specs.Splits.{OneSplit}
use Rattle.pat_input_split.specs.program_with_text.MarkedPrograms.{RefusesFront, RefusesBytes, IsMarkedRefusal}

bytes_small : (mark bytes : List ℕ) (v : Verdict) → RefusesBytes mark bytes v → v ≢ verdict.TooLong → length bytes ≤ whole_limit
bytes_small mark bytes verdict.TooLong r other = absurd (other refl)
bytes_small mark bytes (verdict.BadText o) r other = let small = r.1 in omega (arith, small)
bytes_small mark bytes (verdict.Syntax o) r other = absurd r
bytes_small mark bytes (verdict.NumberTooWide o) r other = absurd r
bytes_small mark bytes (verdict.TooDeep o) r other = absurd r
bytes_small mark bytes (verdict.Resolve k s) r other = absurd r
bytes_small mark bytes (verdict.Rejected n rule) r other = absurd r
bytes_small mark bytes (verdict.RefusedAt i) r other = absurd r
bytes_small mark bytes verdict.TooManyEntries r other = absurd r
bytes_small mark bytes (verdict.Unshown line) r other = absurd r
bytes_small mark bytes (verdict.BadCheckpoint rule) r other = absurd r
bytes_small mark bytes (verdict.Unaccepted reason) r other = absurd r

pub refused_small : (mark bytes : List ℕ) (v : Verdict) → IsMarkedRefusal mark bytes v → v ≢ verdict.TooLong → length bytes ≤ whole_limit
refused_small mark bytes v r other =
    ⊎_elim (λ (own : RefusesBytes mark bytes v). bytes_small mark bytes v own other) (λ (front : RefusesFront mark bytes v). front.small) r

-- the bytes are too many, or have no mark: then they are in no parts that are few enough
pub not_marked : (mark bytes : List ℕ) → OneSplit mark bytes → (f t : List ℕ) (v : Verdict) → RefusesBytes mark bytes v → length bytes ≤ whole_limit → IsMarked mark bytes f t → ⊥
not_marked mark bytes split f t verdict.TooLong r small m =
    ⊎_elim
    (λ (long : whole_limit < length bytes). absurd (omega (arith, long, small)))
    (λ (u : IsUnmarked mark bytes × (limit < length bytes)). absurd (split.not_both f t m u.0))
    r
not_marked mark bytes split f t (verdict.BadText o) r small m = absurd (split.not_both f t m r.0)
not_marked mark bytes split f t (verdict.Syntax o) r small m = absurd r
not_marked mark bytes split f t (verdict.NumberTooWide o) r small m = absurd r
not_marked mark bytes split f t (verdict.TooDeep o) r small m = absurd r
not_marked mark bytes split f t (verdict.Resolve k s) r small m = absurd r
not_marked mark bytes split f t (verdict.Rejected n q) r small m = absurd r
not_marked mark bytes split f t (verdict.RefusedAt i) r small m = absurd r
not_marked mark bytes split f t verdict.TooManyEntries r small m = absurd r
not_marked mark bytes split f t (verdict.Unshown line) r small m = absurd r
not_marked mark bytes split f t (verdict.BadCheckpoint rule) r small m = absurd r
not_marked mark bytes split f t (verdict.Unaccepted reason) r small m = absurd r

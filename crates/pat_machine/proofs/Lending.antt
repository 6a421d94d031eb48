-- Jobs that leave and come back.
use Rattle.std.proofs.Common.{◌≡◌, ℕ, zero, suc, ◌+◌, ◌<◌, ◌≤◌, List, [], ◌∷◌, ◌++◌, length, Option, Some, None, refl, sym, ap, ◌∙◌, arith, slice_set, drop, add-one}
use Rattle.pat_semantics_spec.specs.Programs.{Program}
use Rattle.pat_semantics_spec.specs.Runs.{Entry}
use Rattle.pat_machine_spec.specs.Lendings.{Out, all_in, allowance_of, allowances}
use Rattle.pat_machine_spec.specs.Machines.{MachineInvariant}
use Rattle.pat_machine_laws.proofs.Rooms.{pending_of}
use Rattle.pat_machine_steps.specs.shared_steps.Boxes.{Indexed, HasPlace}
use Rattle.pat_machine.specs.Shown.{places_for}
use Rattle.pat_machine_spec.specs.Lendings.{NoneOut}
use Rattle.pat_machine_laws.proofs.Tables.{none_out, allowances_without}

-- an allowance that is out is part of all that is lent
pub part_lent : (out : Out) (lent t n : ℕ) → lent ≡ allowances out → allowance_of out t ≡ Some n → n ≤ lent
part_lent out lent t n all is = let a = allowances_without out t n is in omega arith

-- while a step is out, fewer messages are pending than there are steps: there is a place for each that the limit allows
pub place_there : (p : Program) (budget limit : ℕ) (s : Indexed) (es : List Entry) (left : ℕ) (out : Out) (t n : ℕ) → MachineInvariant p budget limit s.config es left out → s.places ≡ places_for budget limit → allowance_of out t ≡ Some n → HasPlace s limit
place_there p budget limit s es left out t n stands places is = λ within.
    let pending = pending_of p budget limit s.config es left out stands in
    let counted = stands.facts.counted in
    let some = stands.table.some t n is in
    let part = part_lent out (allowances out) t n refl is in
    omega arith

-- where nothing is lent, no thread is out
pub nobody : (out : Out) (lent : ℕ) → lent ≡ allowances out → lent ≤ 0 → ((t n : ℕ) → allowance_of out t ≡ Some n → 0 < n) → NoneOut out
nobody out lent all none some t = go (allowance_of out t) refl
  where
    go : (o : Option ℕ) → allowance_of out t ≡ o → o ≡ None
    go None is = refl
    go (Some n) is = absurd (none_out out t n (omega arith) is (some t n is))

at_place : (i : ℕ) (old : Out) → i < length old → slice_set (all_in i ++ drop i old) i None ≡ all_in (suc i) ++ drop (suc i) old
at_place zero [] within = absurd (omega arith)
at_place zero (o ∷ old) within = refl
at_place (suc i) [] within = absurd (omega arith)
at_place (suc i) (o ∷ old) within = ap (λ (l : Out). None ∷ l) (at_place i old (omega arith))

-- one more is back
pub cleared : (out old : Out) (i : ℕ) → i < length old → out ≡ all_in i ++ drop i old → slice_set out i None ≡ all_in (i + 1) ++ drop (i + 1) old
cleared out old i within is =
    ap (λ (o : Out). slice_set o i None) is ∙ at_place i old within ∙ ap (λ n. all_in n ++ drop n old) (sym (add-one i))

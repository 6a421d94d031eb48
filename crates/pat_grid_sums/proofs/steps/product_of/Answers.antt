use Rattle.std.proofs.Common.{◌≡◌, ℕ, ◌<◌, List, [], replicate, length, ap, ◌∙◌, subst, arith}
use Rattle.std.proofs.lemmas.List.{get_or_default}
use Rattle.pat_grid_sums.specs.Shapes.{IsShape, Has}
use Rattle.pat_grid_sums.specs.Systems.{IsSumOf, set_at}
use Rattle.pat_grid_sums.proofs.Stepping.{if_ok, absent, no_left, no_right}
use Rattle.pat_grid_sums.proofs.steps.product_of.Goals as goal

pub returns-then-first-sets : goal.returns-then-first-sets
returns-then-first-sets c =
    let sets = c.args.sets.now in
    let s = c.args.shape in
    let none : (words : List ℕ) → words ≡ replicate s.words 0 → (n : ℕ) → IsShape s.k n s → Has (IsSumOf s n (set_at sets c.args.first) (set_at sets c.args.second)) s.words words =
    λ words e n shape. no_left s n s.words (set_at sets c.args.first) (set_at sets c.args.second) words e (absent sets c.args.first c.if-first-sets.true) in
    if_ok _ _ _ none c.no_bits.ensures

pub returns-then-second-sets : goal.returns-then-second-sets
returns-then-second-sets c =
    let sets = c.args.sets.now in
    let s = c.args.shape in
    let none : (words : List ℕ) → words ≡ replicate s.words 0 → (n : ℕ) → IsShape s.k n s → Has (IsSumOf s n (set_at sets c.args.first) (set_at sets c.args.second)) s.words words =
    λ words e n shape. no_right s n s.words (set_at sets c.args.first) (set_at sets c.args.second) words e (absent sets c.args.second c.if-second-sets.true) in
    if_ok _ _ _ none c.no_bits-then-second-sets.ensures

pub sums_of_sets-requires-clause-ones : goal.sums_of_sets-requires-clause-ones
sums_of_sets-requires-clause-ones c =
    let sets = c.args.sets.now in
    let there : c.args.first < length sets = (let l = c.if-first-sets.false in omega arith) in
    let many = c.requires.sets.1.as_many in
    ap length (c.as_slice.ensures ∙ c.index-sets-first.is ∙ get_or_default sets c.args.first c.index-sets-first.result [] there) ∙ c.requires.sets.1.as_long c.args.first (omega arith)

pub sums_of_sets-requires-clause-others : goal.sums_of_sets-requires-clause-others
sums_of_sets-requires-clause-others c =
    let sets = c.args.sets.now in
    let there : c.args.second < length sets = (let l = c.if-second-sets.false in omega arith) in
    let many = c.requires.sets.1.as_many in
    ap length (c.as_slice-2.ensures ∙ c.index-sets-second.is ∙ get_or_default sets c.args.second c.index-sets-second.result [] there) ∙ c.requires.sets.1.as_long c.args.second (omega arith)

pub returns : goal.returns
returns c =
    let sets = c.args.sets.now in
    let s = c.args.shape in
    let one : c.args.first < length sets = (let l = c.if-first-sets.false in omega arith) in
    let other : c.args.second < length sets = (let l = c.if-second-sets.false in omega arith) in
    let sums : (words : List ℕ) → ((n : ℕ) → IsShape s.k n s → Has (IsSumOf s n c.as_slice.result.now c.as_slice-2.result.now) s.words words) → (n : ℕ) → IsShape s.k n s → Has (IsSumOf s n (set_at sets c.args.first) (set_at sets c.args.second)) s.words words =
    λ words h n shape.
    subst (λ xs. Has (IsSumOf s n xs (set_at sets c.args.second)) s.words words) (c.as_slice.ensures ∙ c.index-sets-first.is ∙ get_or_default sets c.args.first c.index-sets-first.result [] one)
    (subst (λ xs. Has (IsSumOf s n c.as_slice.result.now xs) s.words words) (c.as_slice-2.ensures ∙ c.index-sets-second.is ∙ get_or_default sets c.args.second c.index-sets-second.result [] other) (h n shape)) in
    if_ok _ _ _ sums c.sums_of_sets.ensures

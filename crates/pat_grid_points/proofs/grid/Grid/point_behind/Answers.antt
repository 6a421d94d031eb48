use Rattle.std.proofs.Common.{◌≡◌, ◌+◌, ◌-◌, ℕ, suc, get_or, set, length, sym, subst, arith}
use Rattle.pat_bags.specs.Views.{word_of}
use Rattle.pat_inclusion_spec.specs.bounds.Numbers.{point_of}
use Rattle.pat_grid_points.proofs.Digits.{few_tags, last_small, point_next}
use Rattle.pat_grid_points.proofs.grid.Grid.point_behind.Goals as goal

pub bounds-counts-self : goal.bounds-counts-self
bounds-counts-self c = let g = c.args.self.now in let few = few_tags g.k g.tags g.fits in omega arith

pub overflow_add-counts : goal.overflow_add-counts
overflow_add-counts c =
    let g = c.args.self.now in
    let some = c.if-self-eq0.false in
    let e : g.tags ≡ suc (g.tags - 1) = omega arith in
    let small = last_small g.k (g.tags - 1) c.args.number c.args.before.now.counts c.if-number-self-eq0.false (subst (λ n. (i : ℕ) → c.args.number ≡ i + 1 → word_of c.args.before.now ≡ point_of g.k n i) e c.requires) in
    omega arith

pub bounds-counts-self-2 : goal.bounds-counts-self-2
bounds-counts-self-2 c = let g = c.args.self.now in let few = few_tags g.k g.tags g.fits in omega arith

pub returns : goal.returns
returns c =
    let g = c.args.self.now in
    let few = few_tags g.k g.tags g.fits in
    let some = c.if-self-eq0.false in
    let e : g.tags ≡ suc (g.tags - 1) = omega arith in
    let all : length c.args.before.now.counts ≡ 32 = search in
    subst (λ n. word_of (record { counts = set c.args.before.now.counts (g.tags - 1) (get_or c.args.before.now.counts (g.tags - 1) 0 + 1) }) ≡ point_of g.k n c.args.number) (sym e)
    (point_next g.k (g.tags - 1) c.args.number c.args.before.now.counts c.if-number-self-eq0.false (subst (λ n. (i : ℕ) → c.args.number ≡ i + 1 → word_of c.args.before.now ≡ point_of g.k n i) e c.requires) (omega arith))

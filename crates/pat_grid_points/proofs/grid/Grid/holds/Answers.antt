use Rattle.std.proofs.Common.{◌≡◌, ◌<◌, ◌∙◌, true, false, get_or, length, sym, subst}
use Rattle.pat_words_spec.specs.Cuts.{cut_at}
use Rattle.pat_bags.specs.Views.{word_of}
use Rattle.pat_grid_points.proofs.Sets.{number_room, holds_just}
use Rattle.pat_grid_points.proofs.grid.Grid.holds.Goals as goal

pub get-requires : goal.get-requires
get-requires c =
    let s = c.args.self.now in
    subst (λ n. n < length s.held) (sym c.number_of-number.ensures)
    (number_room s.k s.tags (word_of c.args.word.now) s.held s.counted)

pub returns-then-get : goal.returns-then-get
returns-then-get c =
    let s = c.args.self.now in
    let there : get_or s.held c.number_of-number.result false ≡ true = c.get.ensures false ∙ c.if-get.true in
    holds_just s.k s.tags c.number_of-number.result s.held (cut_at s.k (word_of c.args.word.now)) (word_of c.bag_of.result) (word_of c.cut.new.self) c.is_same.result c.number_of-number.ensures there c.bag_of.ensures c.cut.ensures c.is_same.ensures

use Rattle.std.proofs.Common.{◌≡◌, ap, ◌∙◌, arith}
use Rattle.pat_words_spec.specs.Words.{Word, one}
use Rattle.pat_words_spec.specs.Cuts.{cut_at}
use Rattle.pat_inclusion_spec.specs.bounds.Numbers.{table_of, number_of}
use Rattle.pat_inclusion_laws.proofs.NumberLaws.{number_below}
use Rattle.pat_grid.specs.tables.Views.{setting_of}
use Rattle.pat_grid.proofs.Closing.{step_tag, tag_small}
use Rattle.pat_grid.proofs.Turns.{tag_moved}
use Rattle.pat_grid.proofs.Waiting.{on_ok}
use Rattle.pat_grid.proofs.tables.symbols.relax_tag.Goals as goal

pub one-requires : goal.one-requires
one-requires c = (tag_small c.args.board.now c.args.s c.args.tag c.requires.board c.requires.symbol).1

pub lower-requires-clause-place : goal.lower-requires-clause-place
lower-requires-clause-place c =
    let b = c.args.board.now in
    let p = c.requires.board.points in
    let e : c.number_of-number.result ≡ number_of b.k b.tags (cut_at b.k (one c.args.tag)) =
    c.number_of-number.ensures ∙ ap (λ (w : Word). number_of b.k b.tags (cut_at b.k w)) c.one.ensures in
    let l = number_below b.k b.tags (cut_at b.k (one c.args.tag)) (λ t. omega arith) in
    (c.requires.there, omega arith)

pub lower-requires-clause-step : goal.lower-requires-clause-step
lower-requires-clause-step c =
    let b = c.args.board.now in
    let g = setting_of b in
    step_tag g c.args.s c.args.tag c.number_of-number.result (table_of g c.args.sizes.now.entries) c.requires.symbol
    (tag_small b c.args.s c.args.tag c.requires.board c.requires.symbol).0
    (c.number_of-number.ensures ∙ ap (λ (w : Word). number_of b.k b.tags (cut_at b.k w)) c.one.ensures)

pub returns : goal.returns
returns c =
    let b = c.args.board.now in
    on_ok _ _ _
    (λ m. tag_moved b c.requires.board c.args.s c.args.sizes.now c.args.changed.now c.args.tag c.number_of-number.result c.lower.new.sizes c.lower.new.changed c.requires.symbol
    (c.number_of-number.ensures ∙ ap (λ (w : Word). number_of b.k b.tags (cut_at b.k w)) c.one.ensures)
    m)
    c.lower.ensures

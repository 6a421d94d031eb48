use Rattle.std.proofs.Common.{◌≡◌, ◌/◌, ◌%◌, ◌<◌, length, ap, ◌∙◌, sym, subst, arith}
use Rattle.std.proofs.lemmas.List.{length-replicate}
use Rattle.pat_grid_sums.specs.Sets.{Puts}
use Rattle.pat_grid_sums.proofs.Putting.{has_all}
use Rattle.pat_grid_sums.proofs.Splitting.{word_within, place_within}
use Rattle.pat_grid_sums.proofs.steps.point_at.Goals as goal

pub put-requires-clause-word : goal.put-requires-clause-word
put-requires-clause-word c =
    let s = c.args.shape in
    let long = ap length c.in_ok-words.ensures ∙ length-replicate s.words 0 in
    let l = word_within s.k c.requires.shape.0 s c.requires.shape.1 c.args.number c.requires.number in
    subst (λ m. c.args.number / s.width < m) (sym long) l

pub put-requires-clause-bit : goal.put-requires-clause-bit
put-requires-clause-bit c =
    let s = c.args.shape in
    let l = place_within s.k c.requires.shape.0 s c.requires.shape.1 c.args.number in
    let room = c.requires.shape.1.room in
    omega arith

pub returns : goal.returns
returns c =
    let s = c.args.shape in
    has_all (λ h q. (h ≡ c.args.number / s.width) × (q ≡ c.args.number % s.width)) s.words c.put.new.words
    (subst (λ z. Puts (λ h q. (h ≡ c.args.number / s.width) × (q ≡ c.args.number % s.width)) z c.put.new.words) c.in_ok-words.ensures c.put.ensures)

use Rattle.std.proofs.Common.{ap, arith}
use Rattle.pat_words_spec.specs.Flats.{degree_of}
use Rattle.pat_words_laws.proofs.SizeLaws.{degree_size}
use Rattle.pat_patterns.specs.declared.pattern.Pattern.{Pattern}
use Rattle.pat_patterns.specs.Views.{pattern_view}
use Rattle.pat_patterns.proofs.residuals.reading.+degree.Goals as goal

pub overflow_add-result : goal.overflow_add-result
overflow_add-result t c =
    let fits = rw c.in-Prod.is at c.requires in
    let left = degree_size (pattern_view c.in-Prod.left.value) in
    let right = degree_size (pattern_view c.in-Prod.right.value) in
    let same_left = ap (λ (p : Pattern). degree_of (pattern_view p)) c.deref-in-Prod.ensures in
    let same_right = ap (λ (p : Pattern). degree_of (pattern_view p)) c.deref-in-Prod-2.ensures in
    omega (arith, c.degree-in-Prod.ensures, c.degree-in-Prod-2.ensures)

-- The tokens of the canonical text, wherever they stand, spell the tree again.
use Rattle.std.proofs.Common.{◌≡◌, List, [], ◌∷◌, map, refl, sym, ap, subst, ◌∙◌}
use Rattle.pat_lexer_spec.specs.Tokens.{Token, Spanned}
use Rattle.pat_parser_spec.specs.Trees.{Tree}
use Rattle.pat_parser_spec.specs.Items.{Item, Limits, bound_item}
use Rattle.pat_parser_spec.specs.Claims.{SpellsTree}
use Rattle.pat_print_spec.specs.Bare.{bare}
use Rattle.pat_print_spec.specs.Canonical.{Tok, Blank, Line, Pieces, canonical, tokens_of}
use Rattle.pat_print_laws.specs.RoundTrip.{kinds, SpelledAgain}
use Rattle.pat_print_laws.proofs.Fits.{Bound, at_zero}
use Rattle.pat_print_laws.proofs.Canon.{items_of, canonical_spells}
use Rattle.pat_print_laws.proofs.Same.{Same, same_none, same_one, spells_same}
use Rattle.pat_print_laws.proofs.Twice.{bare_twice}

bound : (ts : List Spanned) → Bound (map bound_item ts)
bound [] = tt
bound (t ∷ ts) = (refl, bound ts)

zeroed : List Token → List Item
zeroed cs = map (λ c. (c, at_zero)) cs

zeroed_items : (r : Pieces) → items_of r ≡ map (λ c. (c, at_zero)) (tokens_of r)
zeroed_items [] = refl
zeroed_items (Tok c ∷ r) = ap (λ (w : List Item). (c, at_zero) ∷ w) (zeroed_items r)
zeroed_items (Blank ∷ r) = zeroed_items r
zeroed_items (Line ∷ r) = zeroed_items r

same_kinds : (us : List Spanned) → Same (map (λ c. (c, at_zero)) (kinds us)) (map bound_item us)
same_kinds [] = same_none
same_kinds (t ∷ us) = same_one refl (same_kinds us)

pub spelled_again : (lim : Limits) (ts us : List Spanned) (m : Tree) → SpellsTree lim ts m → kinds us ≡ tokens_of (canonical m) → SpelledAgain lim m us
spelled_again lim ts us m d h =
    let zero = canonical_spells lim (map bound_item ts) m (bound ts) d in
    let same = subst (λ (w : List Item). Same w (map bound_item us)) (ap (λ (w : List Token). map (λ c. (c, at_zero)) w) h ∙ sym (zeroed_items (canonical m))) (same_kinds us) in
    let r = spells_same lim (items_of (canonical m)) (map bound_item us) (bare m) zero same in
    (r.0, r.1, sym (bare_twice m) ∙ r.2)

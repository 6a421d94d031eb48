-- What is put on the stack for a form whose parts were put there.
use Rattle.std.proofs.Common.{◌≡◌, List, ◌∷◌, Option, refl, sym, ap, ◌∙◌, subst}
use Rattle.pat_words_spec.specs.Patterns.{Pat}
use Rattle.pat_certificate_values.specs.declared.forms.building.Built.{Built}
use Rattle.pat_certificate_values.specs.forms.Limits.{Limits, Puts}

pub two_put : (make : Pat → Pat → Pat) (e f : Pat) (rest middle old one two new : List (Option Built)) (left right both : Option Built) → ((a b : Pat) → Limits a left → Limits b right → Limits (make a b) both) → old ≡ right ∷ one → one ≡ left ∷ two → new ≡ both ∷ two → Puts e rest middle → Puts f middle old → Puts (make e f) rest new
two_put make e f rest middle old one two new left right both law first second whole pe pf =
    let tops : pf.own ∷ middle ≡ right ∷ one = sym pf.is ∙ first in
    let own : pf.own ≡ right = cc in
    let same : middle ≡ one = cc in
    let lowers : pe.own ∷ rest ≡ left ∷ two = sym pe.is ∙ same ∙ second in
    let lower : pe.own ≡ left = cc in
    let below : rest ≡ two = cc in
    record { own = both; is = whole ∙ ap (λ l. both ∷ l) (sym below); limits = law e f (subst (Limits e) lower pe.limits) (subst (Limits f) own pf.limits) }

pub one_put : (make : Pat → Pat) (e : Pat) (rest old one new : List (Option Built)) (part whole : Option Built) → ((a : Pat) → Limits a part → Limits (make a) whole) → old ≡ part ∷ one → new ≡ whole ∷ one → Puts e rest old → Puts (make e) rest new
one_put make e rest old one new part whole law first second p =
    let tops : p.own ∷ rest ≡ part ∷ one = sym p.is ∙ first in
    let own : p.own ≡ part = cc in
    let below : rest ≡ one = cc in
    record { own = whole; is = second ∙ ap (λ l. whole ∷ l) (sym below); limits = law e (subst (Limits e) own p.limits) }

-- What a form says of a pattern's words.
use Rattle.std.proofs.Common.{◌≡◌, ◌↔◌, true, Bool, List, sym, subst}
use Rattle.std.specs.Prelude.{Result, Ok, Err, IfOk}
use Rattle.pat_words_spec.specs.Words.{Word}
use Rattle.pat_words_spec.specs.Patterns.{Pat, In}
use Rattle.pat_words_spec.specs.Tags.{tags_below}
use Rattle.pat_inclusion_spec.specs.Counts.{most_tags}
use Rattle.pat_inclusion_spec.specs.LinearSets.{InSets}
use Rattle.pat_inclusion_spec.specs.ClosedForms.{sets_of}
use Rattle.pat_inclusion_laws.proofs.Forms.{form_to, form_from}
use Rattle.pat_linear.specs.declared.set.LinearSet.{LinearSet as CodeSet}
use Rattle.pat_linear.specs.declared.error.FormError.{FormError}
use Rattle.pat_linear.specs.Views.{sets_view}
use Rattle.pat_linear.specs.Forms.{GivesSets}

-- the sets of a form have just the pattern's words
pub form_words : (e : Pat) (short : Bool) (r : Result (List CodeSet) FormError) → tags_below most_tags e ≡ true → GivesSets r short (sets_of most_tags e) → IfOk r (λ sets. (w : Word) → InSets (sets_view sets) w ↔ In e w)
form_words e short (Err x) tags h = tt
form_words e short (Ok sets) tags h = λ w. subst (λ l. InSets l w ↔ In e w) (sym h.0) (form_to most_tags e w, form_from most_tags e tags w)

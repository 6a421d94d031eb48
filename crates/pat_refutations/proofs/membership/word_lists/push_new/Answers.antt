use Rattle.std.proofs.Common.{inl, ⊎_elim, subst, sym}
use Rattle.pat_refutations.proofs.Rests.{Same, has_last}
use Rattle.pat_refutations.specs.membership.Listings.{HasWord, Only}
use Rattle.pat_words_spec.specs.Languages.{EitherOf}
use Rattle.pat_bags.specs.Views.{word_of}
use Rattle.pat_refutations.proofs.membership.word_lists.push_new.Goals as goal

pub returns-in_ok-note : goal.returns-in_ok-note
returns-in_ok-note c =
    let before = c.args.words.now in
    subst (λ l. Same (HasWord l) (EitherOf (HasWord before) (Only (word_of c.args.word.now)))) (sym c.in_ok-push.ensures.ok) (has_last before c.args.word.now)

pub returns-else-not-find : goal.returns-else-not-find
returns-else-not-find c =
    let before = c.args.words.now in
    let has = subst (λ l. HasWord l (word_of c.args.word.now)) c.as_slice.ensures (c.find.ensures c.if-not-find.false) in
    λ w. (λ h. inl h, ⊎_elim (λ h. h) (λ e. subst (HasWord before) e has))

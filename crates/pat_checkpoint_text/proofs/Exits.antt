-- What a reading answers where a part of it isn't read.
use Rattle.std.proofs.Common.{◌≡◌, sym, ap, ◌∙◌, subst}
use Rattle.std.specs.Prelude.{Option, None, Result, Err}
use Rattle.pat_derivation_lines.specs.declared.patterns.unread.Unread.{Unread}
use Rattle.pat_derivation_lines.specs.declared.patterns.unread.Unread.TheVariants.{NotSpelled, NoMemory}
use Rattle.pat_derivation_lines.specs.patterns.Answers.{Gives}

pub part_unread : {A B X Y : Type 0} (view : A → B) (o : Option B) (made : X → Y) (whole : Option Y) (res : Result X Unread) (given e : Unread) → res ≡ Err given → given ≡ e → (o ≡ None → whole ≡ None) → Gives view o (Err e) → Gives made whole res
part_unread view o made whole res given e r s by h = subst (Gives made whole) (sym (r ∙ ap Err s)) (go e h)
  where
    go : (e : Unread) → Gives view o (Err e) → Gives made whole (Err e)
    go NotSpelled h = by h
    go NoMemory h = tt

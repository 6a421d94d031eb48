-- What an iterator over a vector gives in all, and the arguments of a process.
use Rattle.std.proofs.Common.{◌≡◌, ◌∙◌, List, [], ◌∷◌, ◌++◌, ap, sym, append-nil}
use Rattle.std.proofs.lemmas.List.{nil_from_length}
use Rattle.std.specs.Iterator.{Yields, DrainsIf}
use Rattle.std.specs.Vec.Iter.{into_iter_items, into_iter_steps}
use Rattle.std.specs.declared.vec.IntoIter.{IntoIter}
use Rattle.std.specs.Prelude.{IfErr}
use Rattle.std.specs.declared.result.Result.{Result}
use Rattle.std.specs.declared.result.Result.TheVariants.{Ok, Err}

module _ {X Z : Type 0} where
  -- what it has given is a front of what it had
  taken_front : (s : IntoIter X Z) (xs : List X) (t : IntoIter X Z) → Yields into_iter_steps s xs t → into_iter_items s ≡ xs ++ into_iter_items t
  taken_front s [] t y = ap into_iter_items y
  taken_front s (x ∷ xs) t y = y.1.0 ∙ ap (λ ys. x ∷ ys) (taken_front y.0 xs t y.2)

  pub all_taken : (s : IntoIter X Z) (xs : List X) → DrainsIf into_iter_steps (Unit {0}) s xs → xs ≡ into_iter_items s
  all_taken s xs d =
      let front = taken_front s xs d.0 d.1 in
      let ended = d.2 tt in
      let none : into_iter_items d.0 ≡ [] = nil_from_length (into_iter_items d.0) (sym d.0.rest.ok.0 ∙ ended.1.0) in
      sym (front ∙ ap (λ ys. xs ++ ys) none ∙ append-nil xs)

-- where arguments came, memory may be wanting for their list
pub may_lack : {T E : Type 0} (r : Result T E) → IfErr r (λ _. Unit {0})
may_lack (Ok x) = tt
may_lack (Err e) = tt

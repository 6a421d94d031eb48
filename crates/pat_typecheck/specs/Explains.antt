-- Refusals of programs as the code has them.
use Rattle.std.specs.Prelude.{ℕ}
use Rattle.pat_words_spec.specs.Words.{Word}
use Rattle.pat_semantics_spec.specs.Programs as core
use Rattle.pat_type_system_spec.specs.Typings.{IsTypable}
use Rattle.pat_inclusion_spec.specs.bounds.Trees.{Bound}
use Rattle.pat_core.specs.declared.program.Program.{Program}
use Rattle.pat_core.specs.Views.{program_view}
use Rattle.pat_resolver_heads.specs.results.Views.{places_view}
use Rattle.pat_solve_spec.specs.Answers as answers
use Rattle.pat_solve_spec.specs.Answers.{IsRight}
use Rattle.pat_solve.specs.Smallest.{IsLeastRefutation}
use Rattle.pat_typecheck.specs.declared.accepting.Unaccepted.{Unaccepted}
use Rattle.pat_typecheck.specs.declared.accepting.Unaccepted.TheVariants.{Refused, NoMemory}
use Rattle.pat_typecheck.specs.Reasons.{IsUnaccepted}

-- the reason is the program's; want of memory says nothing
abbrev pub Explains : Program → Unaccepted → Type 0
Explains p (Refused r more) = IsUnaccepted (program_view p) (places_view p) r more.items
Explains p NoMemory = Unit {0}

-- the right answer is that the constraint is refuted, by this word, which has a least tree, and so the program can't be typed
pub record IsRefutedBy (p : core.Program) (n : ℕ) (w : Word) : Type 0 where
  pub tree : Bound
  pub right : IsRight p (answers.Refuted n w tree)
  pub least : IsLeastRefutation p n tree
  pub untypable : IsTypable p → ⊥

-- Texts that are never refused.
use Rattle.std.specs.Prelude.{ℕ, List}
use Rattle.pat_semantics_spec.specs.Programs.{Program}
use Rattle.pat_type_system_spec.specs.Typings.{IsTypable}
use Rattle.pat_parser_spec.specs.Trees.{Tree}
use Rattle.pat_solve_spec.specs.Answers.{AllUsable}
use Rattle.pat_solve_bounds.specs.results.Views.{AllInBounds}
use Rattle.pat_front.specs.Texts.{IsProgramText}

-- the bytes are the text of a program that can be typed, of which each interface is in bounds, and each sending variable of a signature
-- has a derivable word
pub record HasTypable (bytes : List ℕ) : Type 0 where
  pub tree : Tree
  pub program : Program
  pub spelled : IsProgramText bytes tree program
  pub in_bounds : AllInBounds program
  pub usable : AllUsable program
  pub typable : IsTypable program

-- Words are one command at most, and some are none.
use Rattle.std.proofs.Common.{◌≡◌, ℕ, List, [], ◌∷◌, Option, Some, None, sym, ap, ◌∙◌, subst}
use Rattle.std.specs.Prelude.{bytes_eq, codes, option_map, if◌then◌else◌}
use Rattle.pat_run.specs.declared.options.options.RunOptions.{RunOptions}
use Rattle.pat_run.specs.options.Options.{options_of, steps_of}
use Rattle.pat_session.specs.declared.words.Command.{Command}
use Rattle.pat_session.specs.declared.words.Command.TheVariants.{Check, Derive, Print, Run, Replay, Order, Verify, Checkpoint, Resume, Load, Help}
use Rattle.pat_session.specs.Allowed.{IsCommand, HasInput, AsksInput, size_of}

abbrev load_by : Option ℕ → Option RunOptions → Option Command
load_by (Some n) (Some o) = Some (Load n o)
load_by _ _ = None

abbrev loading : List (List ℕ) → Option Command
loading [] = None
loading (number ∷ rest) = load_by (size_of number) (options_of rest)

-- the command that the words ask for
abbrev asked_by : List (List ℕ) → Option Command
asked_by [] = None
asked_by (w ∷ ws) =
    if bytes_eq w (codes "check") then Some Check
    else if bytes_eq w (codes "derive") then Some Derive
    else if bytes_eq w (codes "print") then Some Print
    else if bytes_eq w (codes "run") then option_map (λ o. Run o) (options_of ws)
    else if bytes_eq w (codes "replay") then Some Replay
    else if bytes_eq w (codes "order") then Some Order
    else if bytes_eq w (codes "verify") then Some Verify
    else if bytes_eq w (codes "checkpoint") then option_map (λ n. Checkpoint n) (steps_of ws)
    else if bytes_eq w (codes "resume") then option_map (λ n. Resume n) (steps_of ws)
    else if bytes_eq w (codes "load") then loading ws
    else if bytes_eq w (codes "help") then Some Help
    else None

asked_for : (words : List (List ℕ)) (c : Command) → IsCommand c words → asked_by words ≡ Some c
asked_for words Check p = ap asked_by p
asked_for words Derive p = ap asked_by p
asked_for words Print p = ap asked_by p
asked_for words (Run o) p = ap asked_by p.1 ∙ ap (λ k. option_map (λ (u : RunOptions). Run u) k) p.2
asked_for words Replay p = ap asked_by p
asked_for words Order p = ap asked_by p
asked_for words Verify p = ap asked_by p
asked_for words (Checkpoint n) p = ap asked_by p.1 ∙ ap (λ k. option_map (λ (u : ℕ). Checkpoint u) k) p.2
asked_for words (Resume n) p = ap asked_by p.1 ∙ ap (λ k. option_map (λ (u : ℕ). Resume u) k) p.2
asked_for words (Load n o) p = ap asked_by p.words_are ∙ ap (λ k. load_by k (options_of p.rest)) p.spelled ∙ ap (λ k. load_by (Some n) k) p.options
asked_for words Help p = ap asked_by p

pub one_command : (words : List (List ℕ)) (c d : Command) → IsCommand c words → IsCommand d words → c ≡ d
one_command words c d p q = let both : Some c ≡ Some d = sym (asked_for words c p) ∙ asked_for words d q in cc

-- what the words ask for has an input, if some command that they ask for has
pub asks_of : (words : List (List ℕ)) (c : Command) → IsCommand c words → AsksInput words → HasInput c
asks_of words c p asks = subst HasInput (one_command words asks.0 c asks.1 p) asks.2

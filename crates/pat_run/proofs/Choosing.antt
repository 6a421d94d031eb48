-- Two words more.
use Rattle.std.proofs.Common.{◌≡◌, ◌≤◌, ℕ, List, [], ◌∷◌, length, map, drop, get_or, Some, ap, sym, ◌∙◌, arith}
use Rattle.std.specs.Prelude.{option_and_then}
use Rattle.pat_run.specs.declared.options.options.Choice.{Choice}
use Rattle.pat_run.specs.options.Options.{choices, with_option}

-- what the words behind an option choose after it, all of them choose
pub chosen_next : {S : Type 0} (bytes : S → List ℕ) (ws : List S) (none nothing name number : S) (c d : Choice) → 2 ≤ length ws → name ≡ get_or ws 0 none → number ≡ get_or ws 1 nothing → with_option c (bytes name) (bytes number) ≡ Some d → choices d (map bytes (drop 2 ws)) ≡ choices c (map bytes ws)
chosen_next bytes [] none nothing name number c d l first second e = absurd (omega (arith, l))
chosen_next bytes (n ∷ []) none nothing name number c d l first second e = absurd (omega (arith, l))
chosen_next bytes (n ∷ m ∷ rest) none nothing name number c d l first second e =
    ap (option_and_then (λ (x : Choice). choices x (map bytes rest))) (sym (ap (λ k. with_option c (bytes k) (bytes m)) (sym first) ∙ ap (λ k. with_option c (bytes name) (bytes k)) (sym second) ∙ e))

-- The programs of further forms are well formed and typable by the tests, and so safe by the law.
use Rattle.std.proofs.Common.{◌≡◌, ℕ, List, [], ◌∷◌, refl, true}
use Rattle.pat_words_spec.specs.Patterns.{Pat, Zero, One, Tag}
use Rattle.pat_semantics_spec.specs.Programs.{Receiving, is_free}
use Rattle.pat_type_system_spec.specs.Types.{MailboxType, TypeOf, MailboxTerm}
use Rattle.pat_examples.specs.safety.Witnesses.{IsWitness}
use Rattle.pat_examples.specs.safety.Forms.{branches, given, renamed, impossible}
use Rattle.pat_examples.proofs.FitTests.{program_fits, well_formed}
use Rattle.pat_examples.proofs.TypeTests.{lines_type, typable}
use Rattle.pat_examples.proofs.SafePrograms.{witness, line, fresh, may_return, may_send, no_params, no_results}

-- a line of a node that gives a mailbox of interface i from which E may be received
abbrev gives : ℕ → Pat → List (ℕ × MailboxType) → TypeOf × List (ℕ × MailboxType)
gives i e env = (MailboxTerm i Receiving e, env)

-- ---- the choice

branches_lines : List (TypeOf × List (ℕ × MailboxType))
branches_lines =
    line []
    ∷ fresh 0
    ∷ line (may_return 0 0 One ∷ [])
    ∷ line (may_return 0 0 One ∷ [])
    ∷ line (may_send 0 0 (Tag 0) ∷ [])
    ∷ line (may_return 0 0 (Tag 0) ∷ [])
    ∷ line (may_return 1 0 One ∷ [])
    ∷ line []
    ∷ line (may_return 0 0 One ∷ [])
    ∷ line []
    ∷ []

branches_fits : program_fits 2 branches ≡ true
unfolding is_free
branches_fits = refl

branches_typed : lines_type 3 1 2 branches branches_lines no_params no_results ≡ true
unfolding branches_lines
branches_typed = refl

pub branches_safe : IsWitness branches
branches_safe = witness branches (well_formed 2 branches branches_fits) (typable 3 1 2 branches branches_lines no_params no_results branches_typed)

-- ---- the mailbox that is given back

given_results : ℕ → Pat
given_results f = Tag 0

given_lines : List (TypeOf × List (ℕ × MailboxType))
given_lines =
    gives 0 (Tag 0) []
    ∷ fresh 0
    ∷ gives 0 (Tag 0) (may_return 0 0 One ∷ [])
    ∷ line (may_send 0 0 (Tag 0) ∷ [])
    ∷ gives 0 (Tag 0) (may_return 0 0 (Tag 0) ∷ [])
    ∷ line []
    ∷ gives 0 (Tag 0) []
    ∷ line (may_return 0 0 (Tag 0) ∷ [])
    ∷ line (may_return 1 0 One ∷ [])
    ∷ line []
    ∷ []

given_fits : program_fits 2 given ≡ true
unfolding is_free
given_fits = refl

given_typed : lines_type 3 1 2 given given_lines no_params given_results ≡ true
unfolding given_lines given_results
given_typed = refl

pub given_safe : IsWitness given
given_safe = witness given (well_formed 2 given given_fits) (typable 3 1 2 given given_lines no_params given_results given_typed)

-- ---- the mailbox under another name

renamed_lines : List (TypeOf × List (ℕ × MailboxType))
renamed_lines =
    line []
    ∷ fresh 0
    ∷ line (may_return 0 0 One ∷ [])
    ∷ gives 0 One (may_return 0 0 One ∷ [])
    ∷ line (may_return 1 0 One ∷ [])
    ∷ line []
    ∷ []

renamed_fits : program_fits 2 renamed ≡ true
unfolding is_free
renamed_fits = refl

renamed_typed : lines_type 3 1 2 renamed renamed_lines no_params no_results ≡ true
unfolding renamed_lines
renamed_typed = refl

pub renamed_safe : IsWitness renamed
renamed_safe = witness renamed (well_formed 2 renamed renamed_fits) (typable 3 1 2 renamed renamed_lines no_params no_results renamed_typed)

-- ---- the guard without clauses

impossible_lines : List (TypeOf × List (ℕ × MailboxType))
impossible_lines =
    line []
    ∷ fresh 0
    ∷ line (may_return 0 0 One ∷ [])
    ∷ line (may_send 0 0 (Tag 0) ∷ [])
    ∷ line (may_return 0 0 (Tag 0) ∷ [])
    ∷ line (may_return 1 0 One ∷ [])
    ∷ line []
    ∷ line (may_return 2 0 Zero ∷ [])
    ∷ []

impossible_fits : program_fits 3 impossible ≡ true
unfolding is_free
impossible_fits = refl

impossible_typed : lines_type 3 2 3 impossible impossible_lines no_params no_results ≡ true
unfolding impossible_lines
impossible_typed = refl

pub impossible_safe : IsWitness impossible
impossible_safe = witness impossible (well_formed 3 impossible impossible_fits) (typable 3 2 3 impossible impossible_lines no_params no_results impossible_typed)

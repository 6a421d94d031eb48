-- The programs are well formed and typable by the tests, and so safe by the law.
use Rattle.std.proofs.Common.{◌≡◌, ℕ, nat_eq, if◌then◌else◌, List, [], ◌∷◌, refl, true}
use Rattle.pat_words_spec.specs.Patterns.{Pat, One, Tag, Prod, Star}
use Rattle.pat_semantics_spec.specs.Values.{BaseUnit}
use Rattle.pat_semantics_spec.specs.Programs.{Program, Sending, Receiving, is_free}
use Rattle.pat_semantics_spec.specs.WellFormed.{WellFormed}
use Rattle.pat_type_system_spec.specs.Typings.{IsTypable}
use Rattle.pat_type_system_spec.specs.Types.{Second, Returnable, MailboxType, TypeOf, BaseTerm, MailboxTerm, mailbox_type}
use Rattle.pat_safety_laws.proofs.Safe.{typable_safe}
use Rattle.pat_examples.specs.safety.Witnesses.{IsWitness}
use Rattle.pat_examples.specs.safety.Safe.{one_message, future, pump, delegation, swap, crossed, turned}
use Rattle.pat_examples.proofs.FitTests.{program_fits, well_formed}
use Rattle.pat_examples.proofs.TypeTests.{lines_type, typable}

pub witness : (p : Program) → WellFormed p → IsTypable p → IsWitness p
witness p formed typed = record { formed = formed; typable = typed; safe = typable_safe p formed typed }

-- a line of a typing, of a node of type unit
abbrev pub line : List (ℕ × MailboxType) → TypeOf × List (ℕ × MailboxType)
line env = (BaseTerm BaseUnit, env)

-- a line of a new mailbox, to which nothing has been sent
abbrev pub fresh : ℕ → TypeOf × List (ℕ × MailboxType)
fresh i = (MailboxTerm i Receiving One, [])

-- variable x may receive E, and may be returned
abbrev pub may_return : ℕ → ℕ → Pat → ℕ × MailboxType
may_return x i e = (x, mailbox_type i Receiving e Returnable)

-- variable x may receive E
abbrev pub may_receive : ℕ → ℕ → Pat → ℕ × MailboxType
may_receive x i e = (x, mailbox_type i Receiving e Second)

-- variable x may be sent E
abbrev pub may_send : ℕ → ℕ → Pat → ℕ × MailboxType
may_send x i e = (x, mailbox_type i Sending e Second)

-- no signature leaves a pattern out
abbrev pub no_params : ℕ → ℕ → Pat
no_params f k = One

-- no result leaves a pattern out
abbrev pub no_results : ℕ → Pat
no_results f = One

-- ---- one message

one_lines : List (TypeOf × List (ℕ × MailboxType))
one_lines =
    line []
    ∷ fresh 0
    ∷ line (may_return 0 0 One ∷ [])
    ∷ line (may_send 0 0 (Tag 0) ∷ [])
    ∷ line (may_return 0 0 (Tag 0) ∷ [])
    ∷ line (may_return 1 0 One ∷ [])
    ∷ line []
    ∷ []

one_fits : program_fits 2 one_message ≡ true
unfolding is_free
one_fits = refl

one_typed : lines_type 3 1 2 one_message one_lines no_params no_results ≡ true
unfolding one_lines
one_typed = refl

pub one_message_typable : WellFormed one_message × IsTypable one_message
one_message_typable = (well_formed 2 one_message one_fits, typable 3 1 2 one_message one_lines no_params no_results one_typed)

pub one_message_safe : IsWitness one_message
one_message_safe = witness one_message one_message_typable.0 one_message_typable.1

-- ---- the future

future_params : ℕ → ℕ → Pat
future_params f k = if nat_eq f 0 then Prod (Tag 0) (Star (Tag 1)) else Star (Tag 1)

future_lines : List (TypeOf × List (ℕ × MailboxType))
future_lines =
    line (may_return 0 0 (Prod (Tag 0) (Star (Tag 1))) ∷ [])
    ∷ line (may_return 2 0 (Star (Tag 1)) ∷ [])
    ∷ line (may_return 0 0 (Star (Tag 1)) ∷ [])
    ∷ line []
    ∷ line (may_send 2 1 (Tag 0) ∷ may_return 3 0 (Star (Tag 1)) ∷ [])
    ∷ line (may_send 2 1 (Tag 0) ∷ [])
    ∷ line (may_return 3 0 (Star (Tag 1)) ∷ [])
    ∷ line []
    ∷ fresh 0
    ∷ line (may_return 0 0 One ∷ [])
    ∷ line (may_receive 0 0 (Prod (Tag 0) (Star (Tag 1))) ∷ [])
    ∷ line (may_return 0 0 (Prod (Tag 0) (Star (Tag 1))) ∷ [])
    ∷ line (may_send 0 0 (Prod (Tag 0) (Tag 1)) ∷ [])
    ∷ fresh 1
    ∷ line (may_send 0 0 (Prod (Tag 0) (Tag 1)) ∷ may_return 1 1 One ∷ [])
    ∷ line (may_send 0 0 (Tag 0) ∷ [])
    ∷ line (may_send 0 0 (Tag 0) ∷ [])
    ∷ line (may_send 0 0 (Tag 1) ∷ may_return 1 1 One ∷ [])
    ∷ line (may_send 0 0 (Tag 1) ∷ may_send 1 1 (Tag 0) ∷ [])
    ∷ line (may_return 1 1 (Tag 0) ∷ [])
    ∷ line (may_return 3 1 One ∷ [])
    ∷ line (may_return 3 1 One ∷ [])
    ∷ line []
    ∷ line []
    ∷ line []
    ∷ []

future_fits : program_fits 4 future ≡ true
unfolding is_free
future_fits = refl

future_typed : lines_type 4 2 4 future future_lines future_params no_results ≡ true
unfolding future_lines future_params
future_typed = refl

pub future_safe : IsWitness future
future_safe = witness future (well_formed 4 future future_fits) (typable 4 2 4 future future_lines future_params no_results future_typed)

-- ---- the pump

pump_params : ℕ → ℕ → Pat
pump_params f k = Star (Tag 0)

pump_lines : List (TypeOf × List (ℕ × MailboxType))
pump_lines =
    line (may_send 0 0 (Star (Tag 0)) ∷ [])
    ∷ line (may_send 0 0 (Tag 0) ∷ [])
    ∷ line (may_send 0 0 (Star (Tag 0)) ∷ [])
    ∷ line (may_return 0 0 (Star (Tag 0)) ∷ [])
    ∷ line []
    ∷ line (may_return 1 0 (Star (Tag 0)) ∷ [])
    ∷ line []
    ∷ fresh 0
    ∷ line (may_return 0 0 One ∷ [])
    ∷ line (may_receive 0 0 (Star (Tag 0)) ∷ [])
    ∷ line (may_return 0 0 (Star (Tag 0)) ∷ [])
    ∷ line (may_send 0 0 (Star (Tag 0)) ∷ [])
    ∷ []

pump_fits : program_fits 2 pump ≡ true
unfolding is_free
pump_fits = refl

pump_typed : lines_type 4 1 2 pump pump_lines pump_params no_results ≡ true
unfolding pump_lines pump_params
pump_typed = refl

pub pump_safe : IsWitness pump
pump_safe = witness pump (well_formed 2 pump pump_fits) (typable 4 1 2 pump pump_lines pump_params no_results pump_typed)

-- ---- delegation

delegation_params : ℕ → ℕ → Pat
delegation_params f k = if nat_eq f 0 then Star (Tag 0) else Tag 0

delegation_lines : List (TypeOf × List (ℕ × MailboxType))
delegation_lines =
    line (may_return 0 0 (Star (Tag 0)) ∷ [])
    ∷ line []
    ∷ line (may_return 1 0 (Star (Tag 0)) ∷ [])
    ∷ line (may_return 0 1 (Tag 0) ∷ [])
    ∷ line (may_receive 1 0 (Star (Tag 0)) ∷ may_return 2 1 One ∷ [])
    ∷ line (may_return 2 1 One ∷ [])
    ∷ line []
    ∷ line (may_receive 1 0 (Star (Tag 0)) ∷ [])
    ∷ line (may_return 1 0 (Star (Tag 0)) ∷ [])
    ∷ line []
    ∷ fresh 1
    ∷ line (may_return 0 1 One ∷ [])
    ∷ line (may_receive 0 1 (Tag 0) ∷ [])
    ∷ line (may_return 0 1 (Tag 0) ∷ [])
    ∷ line (may_send 0 1 (Tag 0) ∷ [])
    ∷ fresh 0
    ∷ line (may_send 0 1 (Tag 0) ∷ may_return 1 0 One ∷ [])
    ∷ line (may_send 0 1 (Tag 0) ∷ may_receive 1 0 (Star (Tag 0)) ∷ [])
    ∷ line (may_send 1 0 (Tag 0) ∷ [])
    ∷ []

delegation_fits : program_fits 3 delegation ≡ true
unfolding is_free
delegation_fits = refl

delegation_typed : lines_type 4 1 3 delegation delegation_lines delegation_params no_results ≡ true
unfolding delegation_lines delegation_params
delegation_typed = refl

pub delegation_safe : IsWitness delegation
delegation_safe = witness delegation (well_formed 3 delegation delegation_fits) (typable 4 1 3 delegation delegation_lines delegation_params no_results delegation_typed)

-- ---- the swap

swap_lines : List (TypeOf × List (ℕ × MailboxType))
swap_lines =
    line []
    ∷ fresh 0
    ∷ line (may_return 0 0 One ∷ [])
    ∷ fresh 0
    ∷ line (may_return 0 0 One ∷ may_return 1 0 One ∷ [])
    ∷ line (may_send 0 0 (Tag 0) ∷ may_receive 1 0 (Tag 0) ∷ [])
    ∷ line (may_receive 0 0 (Tag 0) ∷ may_send 1 0 (Tag 0) ∷ [])
    ∷ []

swap_fits : program_fits 2 swap ≡ true
unfolding is_free
swap_fits = refl

swap_typed : lines_type 3 1 2 swap swap_lines no_params no_results ≡ true
unfolding swap_lines
swap_typed = refl

pub swap_safe : IsWitness swap
swap_safe = witness swap (well_formed 2 swap swap_fits) (typable 3 1 2 swap swap_lines no_params no_results swap_typed)

-- ---- the crossed waits

crossed_params : ℕ → ℕ → Pat
crossed_params f k = Tag 0

crossed_lines : List (TypeOf × List (ℕ × MailboxType))
crossed_lines =
    line (may_return 0 0 (Tag 0) ∷ may_send 1 0 (Tag 0) ∷ [])
    ∷ line (may_send 1 0 (Tag 0) ∷ may_return 2 0 One ∷ [])
    ∷ line (may_return 2 0 One ∷ [])
    ∷ line []
    ∷ line (may_send 1 0 (Tag 0) ∷ [])
    ∷ line []
    ∷ fresh 0
    ∷ line (may_return 0 0 One ∷ [])
    ∷ fresh 0
    ∷ line (may_return 0 0 One ∷ may_return 1 0 One ∷ [])
    ∷ line (may_receive 0 0 (Tag 0) ∷ may_send 1 0 (Tag 0) ∷ [])
    ∷ line (may_return 0 0 (Tag 0) ∷ may_send 1 0 (Tag 0) ∷ [])
    ∷ line (may_send 0 0 (Tag 0) ∷ may_receive 1 0 (Tag 0) ∷ [])
    ∷ line (may_send 0 0 (Tag 0) ∷ may_return 1 0 (Tag 0) ∷ [])
    ∷ []

crossed_fits : program_fits 3 crossed ≡ true
unfolding is_free
crossed_fits = refl

crossed_typed : lines_type 3 1 3 crossed crossed_lines crossed_params no_results ≡ true
unfolding crossed_lines crossed_params
crossed_typed = refl

pub crossed_typable : WellFormed crossed × IsTypable crossed
crossed_typable = (well_formed 3 crossed crossed_fits, typable 3 1 3 crossed crossed_lines crossed_params no_results crossed_typed)

pub crossed_safe : IsWitness crossed
crossed_safe = witness crossed crossed_typable.0 crossed_typable.1

-- ---- the turned messages

turned_lines : List (TypeOf × List (ℕ × MailboxType))
turned_lines =
    line []
    ∷ fresh 0
    ∷ line (may_return 0 0 One ∷ [])
    ∷ line (may_send 0 0 (Tag 1) ∷ [])
    ∷ line (may_return 0 0 (Tag 1) ∷ [])
    ∷ line (may_send 0 0 (Tag 0) ∷ [])
    ∷ line (may_return 0 0 (Prod (Tag 0) (Tag 1)) ∷ [])
    ∷ line (may_return 1 0 (Tag 1) ∷ [])
    ∷ line (may_return 2 0 One ∷ [])
    ∷ line []
    ∷ []

turned_fits : program_fits 3 turned ≡ true
unfolding is_free
turned_fits = refl

turned_typed : lines_type 4 2 3 turned turned_lines no_params no_results ≡ true
unfolding turned_lines
turned_typed = refl

pub turned_typable : WellFormed turned × IsTypable turned
turned_typable = (well_formed 3 turned turned_fits, typable 4 2 3 turned turned_lines no_params no_results turned_typed)

pub turned_safe : IsWitness turned
turned_safe = witness turned turned_typable.0 turned_typable.1

-- The programs are well formed and reach a fault; two of them are typed but for one rule.
use Rattle.std.proofs.Common.{◌≡◌, ℕ, true, false, List, [], ◌∷◌, Some, None, refl, arith}
use Rattle.std.specs.Prelude.{codes}
use Rattle.pat_words_spec.specs.Words.{Word, no_word, LiesIn}
use Rattle.pat_words_spec.specs.Patterns.{One, Tag, Sum, In}
use Rattle.pat_words_laws.proofs.WordLaws.{count_eq}
use Rattle.pat_words_laws.proofs.CoverLaws.{covers_to}
use Rattle.pat_semantics_spec.specs.Values.{BaseUnit, VarExpr, Mailbox}
use Rattle.pat_semantics_spec.specs.Programs.{Sending, Receiving, Send, Guard, is_free}
use Rattle.pat_semantics_spec.specs.WellFormed.{WellFormed}
use Rattle.pat_semantics_spec.specs.Configs.{pending}
use Rattle.pat_semantics_spec.specs.Steps.{ActLocal, ActNew, ActSend, ActFree, ActReceive, Step}
use Rattle.pat_semantics_spec.specs.Runs.{run}
use Rattle.pat_semantics_spec.specs.Faults.{AccountsFor, LeftBehind, unreached, dead, too_many, GuardOn, left, unexpected}
use Rattle.pat_type_system_spec.specs.Types.{Second, Returnable, MailboxType, TypeOf, BaseTerm, TypeEnv, mailbox_type, with_type, without}
use Rattle.pat_type_system_spec.specs.Typings.{Typing, payload_type, args_need, with_payloads, clause_env, is_received}
use Rattle.pat_examples.specs.safety.Build.{main_step, led_by, tag, clause, unit_node, sending_as}
use Rattle.pat_examples.specs.safety.Unsafe.{leak, alias, beside, SendsButAlias, ClauseButOwn, GuardsButOwn, ReachesFault, OnlyAlias, OnlyBeside}
use Rattle.pat_examples.proofs.FitTests.{program_fits, well_formed}
use Rattle.pat_examples.proofs.TypeTests.{typing_of, env_in, Bounded, lines_bounded, with_bounded, without_bounded, args_bounded, payloads_bounded, passes_env, fits, typed_but}
use Rattle.pat_examples.proofs.SafePrograms.{line, fresh, may_return, may_send, no_params, no_results}

-- ---- a mailbox that is let go

leak_steps : List Step
leak_steps = main_step ActLocal ∷ main_step ActNew ∷ main_step ActLocal ∷ []

leak_leads : run leak leak_steps ≡ Some (led_by leak leak_steps)
unfolding is_free leak_steps
leak_leads = refl

leak_unreached : (interfaces : ℕ → ℕ) → AccountsFor leak (led_by leak leak_steps) interfaces → ⊥
unfolding is_free leak_steps
leak_unreached interfaces a = no (a.reached 0 refl)
  where
    no : false ≡ true → ⊥
    no h = cc

pub leak_faults : ReachesFault leak
leak_faults = (leak_steps, led_by leak leak_steps, leak_leads, left (unreached leak_unreached))

-- ---- a mailbox that is sent to itself

alias_steps : List Step
alias_steps =
    main_step ActLocal
    ∷ main_step ActNew
    ∷ main_step ActLocal
    ∷ main_step ActLocal
    ∷ main_step ActSend
    ∷ main_step ActLocal
    ∷ main_step (ActReceive 0)
    ∷ main_step ActLocal
    ∷ main_step ActSend
    ∷ main_step ActLocal
    ∷ []

alias_leads : run alias alias_steps ≡ Some (led_by alias alias_steps)
unfolding is_free alias_steps
alias_leads = refl

-- it stands at the guard for no message, and one is there
alias_guard : GuardOn alias (led_by alias alias_steps) 0 0
unfolding is_free alias_steps
alias_guard = record {
  guard = record { node = 7; env = (2, Mailbox 0) ∷ []; frames = []; var = 2; pattern = One; free = Some 8; receives = []; stands = refl; term = refl };
  names = refl;
}

alias_pending : pending (led_by alias alias_steps) 0 1 ≡ 1
unfolding is_free alias_steps
alias_pending = refl

alias_too_many : (w : Word) → In One w → LiesIn (pending (led_by alias alias_steps) 0) w → ⊥
alias_too_many w i lies =
    let none : w 1 ≡ 0 = count_eq w no_word i 1 in
    let one = alias_pending in
    let less = lies 1 in
    omega arith

pub alias_faults : ReachesFault alias
unfolding alias_guard
alias_faults = (alias_steps, led_by alias alias_steps, alias_leads, unexpected (too_many 0 0 alias_guard alias_too_many))

-- ---- another name beside a payload

beside_steps : List Step
beside_steps =
    main_step ActLocal
    ∷ main_step ActNew
    ∷ main_step ActLocal
    ∷ main_step ActLocal
    ∷ main_step ActNew
    ∷ main_step ActLocal
    ∷ main_step ActLocal
    ∷ main_step ActSend
    ∷ main_step ActLocal
    ∷ main_step (ActReceive 0)
    ∷ main_step ActLocal
    ∷ main_step ActFree
    ∷ main_step ActLocal
    ∷ main_step ActLocal
    ∷ main_step ActFree
    ∷ []

beside_leads : run beside beside_steps ≡ Some (led_by beside beside_steps)
unfolding is_free beside_steps
beside_leads = refl

beside_dead : LeftBehind beside (led_by beside beside_steps)
unfolding is_free beside_steps
beside_dead = dead 0 refl refl

pub beside_faults : ReachesFault beside
beside_faults = (beside_steps, led_by beside beside_steps, beside_leads, left beside_dead)

-- ---- both are typed but for one rule

alias_lines : List (TypeOf × List (ℕ × MailboxType))
alias_lines =
    line []
    ∷ fresh 0
    ∷ line (may_return 0 0 One ∷ [])
    ∷ line (may_send 0 0 (Sum (Tag 0) (Tag 1)) ∷ [])
    ∷ line (may_return 0 0 (Sum (Tag 0) (Tag 1)) ∷ [])
    ∷ line (may_send 1 0 (Tag 1) ∷ may_return 2 0 One ∷ [])
    ∷ line (may_send 1 0 (Tag 1) ∷ [])
    ∷ line (may_return 2 0 One ∷ [])
    ∷ line []
    ∷ line (may_return 3 0 One ∷ [])
    ∷ line []
    ∷ []

-- its typing
abbrev alias_typing : Typing
alias_typing = typing_of alias_lines no_params no_results

alias_bounded : (n : ℕ) → Bounded 4 (env_in alias_lines n)
unfolding alias_lines
alias_bounded n = lines_bounded 4 alias_lines refl n

alias_sends : SendsButAlias alias (env_in alias_lines 3) 0 0 (VarExpr 0 ∷ [])
unfolding alias_lines
alias_sends = record {
  interface = 0;
  decl = tag (codes "m") (sending_as 0 (Tag 1) ∷ []);
  declared = refl;
  target = passes_env 3 2 4 (env_in alias_lines 3) (with_type 0 (mailbox_type 0 Sending (Tag 0) Second) need) (alias_bounded 3) (with_bounded 4 0 (mailbox_type 0 Sending (Tag 0) Second) need (omega arith) bound) refl;
  payloads = passes_env 3 2 4 (env_in alias_lines 3) need (alias_bounded 3) bound refl;
}
  where
    need : TypeEnv
    need = args_need (payload_type (tag (codes "m") (sending_as 0 (Tag 1) ∷ []))) 0 (VarExpr 0 ∷ [])

    bound : Bounded 4 need
    bound = args_bounded 4 (payload_type (tag (codes "m") (sending_as 0 (Tag 1) ∷ []))) 0 (VarExpr 0 ∷ []) refl

pub only_alias : OnlyAlias
unfolding alias_lines
only_alias = (alias_typing, typed_but 3 2 4 alias alias_typing alias_bounded 3 (SendsButAlias alias (env_in alias_lines 3) 0 0 (VarExpr 0 ∷ [])) (unit_node 0 (Send 0 0 (VarExpr 0 ∷ []))) refl refl refl refl alias_sends)

beside_lines : List (TypeOf × List (ℕ × MailboxType))
beside_lines =
    line []
    ∷ line []
    ∷ fresh 0
    ∷ line (may_return 0 0 One ∷ [])
    ∷ fresh 1
    ∷ line (may_return 0 0 One ∷ may_return 1 1 One ∷ [])
    ∷ line (may_send 0 0 One ∷ may_send 1 1 (Tag 0) ∷ [])
    ∷ line (may_return 0 0 One ∷ may_return 1 1 (Tag 0) ∷ [])
    ∷ line (may_return 0 0 One ∷ may_send 2 0 One ∷ may_return 3 1 One ∷ [])
    ∷ line (may_return 3 1 One ∷ [])
    ∷ line []
    ∷ line (may_return 0 0 One ∷ may_send 2 0 One ∷ [])
    ∷ line (may_return 0 0 One ∷ [])
    ∷ line []
    ∷ line (may_send 2 0 One ∷ [])
    ∷ []

-- its typing
abbrev beside_typing : Typing
beside_typing = typing_of beside_lines no_params no_results

beside_bounded : (n : ℕ) → Bounded 4 (env_in beside_lines n)
unfolding beside_lines
beside_bounded n = lines_bounded 4 beside_lines refl n

beside_clause : ClauseButOwn beside beside_typing (env_in beside_lines 7) (BaseTerm BaseUnit) 1 1 (Tag 0) (clause 0 (2 ∷ []) 3 8)
unfolding beside_lines
beside_clause = record {
  decl = tag (codes "m") (sending_as 0 One ∷ []);
  declared = refl;
  result = refl;
  passes = passes_env 3 1 4 (clause_env (env_in beside_lines 7) 1 1 (Tag 0) (tag (codes "m") (sending_as 0 One ∷ [])) (clause 0 (2 ∷ []) 3 8)) (env_in beside_lines 8)
      (with_bounded 4 3 (mailbox_type 1 Receiving One Returnable) inner (omega arith) (payloads_bounded 4 types 0 (2 ∷ []) (without 1 (env_in beside_lines 7)) refl (without_bounded 4 1 (env_in beside_lines 7) (beside_bounded 7)))) (beside_bounded 8) refl;
}
  where
    types : TypeEnv
    types = payload_type (tag (codes "m") (sending_as 0 One ∷ []))

    inner : TypeEnv
    inner = with_payloads types 0 (2 ∷ []) (without 1 (env_in beside_lines 7))

beside_guards : GuardsButOwn beside beside_typing (env_in beside_lines 7) (BaseTerm BaseUnit) 1 (Tag 0) (clause 0 (2 ∷ []) 3 8 ∷ [])
unfolding beside_lines
beside_guards = record {
  guarded = mailbox_type 1 Receiving (Tag 0) Returnable;
  named = refl;
  fits = fits 3 1 (mailbox_type 1 Receiving (Tag 0) Returnable) (mailbox_type 1 Receiving (Tag 0) Returnable) refl;
  receives = (beside_clause, tt);
  covers = covers_to (Tag 0) (is_received (clause 0 (2 ∷ []) 3 8 ∷ [])) false refl;
}

pub only_beside : OnlyBeside
unfolding beside_lines
only_beside = (beside_typing, typed_but 3 1 4 beside beside_typing beside_bounded 7 (GuardsButOwn beside beside_typing (env_in beside_lines 7) (BaseTerm BaseUnit) 1 (Tag 0) (clause 0 (2 ∷ []) 3 8 ∷ [])) (unit_node 1 (Guard 1 (Tag 0) None (clause 0 (2 ∷ []) 3 8 ∷ []))) refl refl refl refl beside_guards)

-- ---- and well formed

alias_fits : program_fits 4 alias ≡ true
unfolding is_free
alias_fits = refl

pub alias_formed : WellFormed alias
alias_formed = well_formed 4 alias alias_fits

beside_fits : program_fits 4 beside ≡ true
unfolding is_free
beside_fits = refl

pub beside_formed : WellFormed beside
beside_formed = well_formed 4 beside beside_fits

leak_fits : program_fits 4 leak ≡ true
unfolding is_free
leak_fits = refl

pub leak_formed : WellFormed leak
leak_formed = well_formed 4 leak leak_fits

-- A machine behind a turn and the program may cross threads: what they are made of, one after another.
use Rattle.std.proofs.Crossing.{crosses, Box-send, Box-sync}
use base.Fml.{Lft}
use mir.Syntax.{Lifetime, Sym}
use mathlib.Core.List.{[], ◌∷◌}
use denote.Ref.{ShrRef}
use denote.RattleType.{RattleType}
use denote.Struct.Tuple.{TupleAt, type_at}
use Rattle.std.proofs.Crossing as heap
use Rattle.std.specs.contracts.alloc.Global as global
use denote.Hole.{as_row}
use denote.Builtin.{u8}
use denote.Struct.Field.{u8-field, u32-field, i64-field, bool-field, row_field}
use denote.Param.Send.{IsSend, IsSync, plain_sync, shr_sync, view_send}
use denote.Param.SendFields.{declared_send, declared_sync, variants_send, variants_sync, as_row_send, as_row_sync}
use Rattle.std.proofs.option.Option.TheSendSync as options
use Rattle.pat_sequences.proofs.sequence.Sequence.TheSendSync as sequences
use Rattle.pat_sequences.proofs.text.Text.TheSendSync as texts
use Rattle.pat_sequences.specs.contracts.sequence.Sequence as the_sequence
use Rattle.pat_sequences.specs.contracts.text.Text as the_text
use Rattle.pat_primitives.proofs.Op.TheSendSync as operators
use Rattle.pat_primitives.proofs.Base.TheSendSync as bases
use Rattle.pat_primitives.proofs.Polarity.TheSendSync as polarities
use Rattle.pat_syntax.proofs.span.Span.TheSendSync as spans
use Rattle.pat_patterns.proofs.Crossing.{pattern_send, pattern_sync}
use Rattle.pat_core.proofs.expression.Expr.TheLaws.TheKnot.{send-Expr, sync-Expr}
use Rattle.pat_core.proofs.program.Clause.TheSendSync as clauses
use Rattle.pat_core.proofs.program.Kind.TheSendSync as kinds
use Rattle.pat_core.specs.contracts.expression.Expr as expression
use Rattle.pat_core.specs.contracts.program.MailboxSort as mailbox_sort
use Rattle.pat_core.specs.contracts.program.Sort as sort
use Rattle.pat_core.specs.contracts.program.TagDecl as tag
use Rattle.pat_core.specs.contracts.program.Interface as interface
use Rattle.pat_core.specs.contracts.program.Function as function
use Rattle.pat_core.specs.contracts.program.Core as core
use Rattle.pat_core.specs.contracts.program.Node as node
use Rattle.pat_core.specs.contracts.program.Program as program
use Rattle.pat_reduce_values.proofs.programs.variables.Variables.TheSendSync as variables
use Rattle.pat_reduce_values.specs.contracts.programs.executable.Executable as executable
use Rattle.pat_reduce.proofs.history.Entry.TheSendSync as entries
use Rattle.pat_machine_indexes.specs.contracts.refcounts.names.RefCounts as names
use Rattle.pat_machine_states.proofs.state.IndexedConfig.TheSendSync as states
use Rattle.pat_machine_states.specs.contracts.state.IndexedConfig as the_state
use Rattle.pat_machine_indexes.specs.contracts.ready_sets.ascending.Ascending as ascending
use Rattle.pat_machine_indexes.specs.contracts.ready_sets.waits.ReadySets as waits
use Rattle.pat_reduce.specs.contracts.history.Entry as entry
use Rattle.pat_machine.proofs.job.Receipt.TheSendSync as receipts
use Rattle.pat_machine.specs.contracts.job.Named as named
use Rattle.pat_machine.specs.contracts.machine.MachineKept.TheImpl.{ghosts}
use Rattle.pat_turn.proofs.turn.Pass.TheSendSync as passes
use Rattle.pat_turn.specs.contracts.turn.Pass as the_pass
use Rattle.pat_turn.proofs.turn.Turn.TheSendSync as turns
use Rattle.pat_turn.specs.contracts.turn.Turn as the_turn
use Rattle.pat_workers.specs.contracts.serving.Worker as worker
use Rattle.pat_machine.specs.contracts.parts.Parts as parts
use Rattle.pat_machine.specs.contracts.machine.Machine as machine
use Rattle.pat_machine.specs.contracts.machine.Machine.TheInside as inside

-- ---- moved

sequence_send : (T : RattleType) → IsSend T → IsSend (as_row (the_sequence.the_field T))
sequence_send T s = sequences.the_send T s

text_send : IsSend (as_row the_text.the_field)
text_send = texts.the_send

text_row_send : IsSend (the_text.the_field).row
text_row_send = texts.the_send

expression_send : IsSend expression.the_row
expression_send = as_row_send expression.the_field (search (crosses, send-Expr, Box-send, text_row_send, operators.the_field_send) depth 20)

mailbox_sort_send : IsSend mailbox_sort.the_row
mailbox_sort_send = declared_send mailbox_sort.the_type (search (crosses, as_row_send, options.the_field_send, spans.the_field_send, polarities.the_field_send, pattern_send) depth 20)

sort_send : IsSend sort.the_row
sort_send = variants_send sort.enum (search (crosses, as_row_send, bases.the_field_send, mailbox_sort_send) depth 20)

tag_send : IsSend tag.the_row
tag_send = declared_send tag.the_type (search (crosses, text_send, sequence_send, sort_send) depth 20)

interface_send : IsSend interface.the_row
interface_send = declared_send interface.the_type (search (crosses, text_send, sequence_send, tag_send) depth 20)

function_send : IsSend function.the_row
function_send = declared_send function.the_type (search (crosses, text_send, sequence_send, kinds.the_send, spans.the_send, sort_send) depth 20)

core_send : IsSend core.the_row
core_send = variants_send core.enum (search (crosses, sequence_send, as_row_send, options.the_field_send, clauses.the_send, expression_send, pattern_send) depth 20)

node_send : IsSend node.the_row
node_send = declared_send node.the_type (search (crosses, as_row_send, kinds.the_field_send, spans.the_field_send, core_send) depth 20)

program_send : IsSend program.the_row
program_send = declared_send program.the_type (search (crosses, sequence_send, interface_send, function_send, node_send) depth 20)

pub executable_send : IsSend executable.the_row
executable_send = declared_send executable.the_type (search (crosses, sequence_send, variables.the_send, program_send) depth 20)

state_send : IsSend (as_row the_state.the_field)
state_send = states.the_send

names_send : IsSend names.the_row
names_send = declared_send names.the_type (search (crosses, as_row_send) depth 20)

ascending_send : IsSend ascending.the_row
ascending_send = declared_send ascending.the_type (search (crosses, as_row_send) depth 20)

waits_send : IsSend waits.the_row
waits_send = declared_send waits.the_type (search (crosses, as_row_send, options.the_send, ascending_send) depth 20)

parts_send : IsSend parts.the_row
parts_send = declared_send parts.the_type (search (crosses, as_row_send, options.the_field_send, options.the_send, entries.the_send, state_send, names_send, waits_send, executable_send) depth 20)

inside_send : IsSend inside.the_row
inside_send = declared_send inside.the_type (search (crosses, parts_send) depth 20)

machine_send : IsSend machine.the_row
machine_send = view_send _ _ _ _ _ inside_send

pub pass_send : IsSend (the_pass.the_row machine.the_row named.the_row entry.the_row ghosts)
pass_send = passes.the_send machine.the_row named.the_row entry.the_row ghosts machine_send

pub worker_send : IsSend worker.the_row
worker_send = declared_send worker.the_type (pass_send, (search (crosses, receipts.the_send) depth 20, (search (crosses, as_row_send) depth 20, tt)))

pub turn_sync : IsSync (the_turn.the_row machine.the_row named.the_row entry.the_row ghosts)
turn_sync = turns.the_sync machine.the_row named.the_row entry.the_row ghosts machine_send

-- ---- shared

sequence_sync : (T : RattleType) → IsSync T → IsSync (as_row (the_sequence.the_field T))
sequence_sync T s = sequences.the_sync T s

text_sync : IsSync (as_row the_text.the_field)
text_sync = texts.the_sync

text_row_sync : IsSync (the_text.the_field).row
text_row_sync = texts.the_sync

u8_sync : IsSync (u8-field).row
u8_sync = plain_sync _ _ _ _ _

u32_sync : IsSync (u32-field).row
u32_sync = plain_sync _ _ _ _ _

i64_sync : IsSync (i64-field).row
i64_sync = plain_sync _ _ _ _ _

bool_sync : IsSync (bool-field).row
bool_sync = plain_sync _ _ _ _ _

u8_field_sync : IsSync (as_row u8-field)
u8_field_sync = as_row_sync u8-field u8_sync

u32_field_sync : IsSync (as_row u32-field)
u32_field_sync = as_row_sync u32-field u32_sync

expression_sync : IsSync expression.the_row
expression_sync = as_row_sync expression.the_field (search (crosses, u8_sync, u32_sync, i64_sync, bool_sync, u8_field_sync, u32_field_sync, sync-Expr, Box-sync, text_row_sync, operators.the_field_sync) depth 20)

mailbox_sort_sync : IsSync mailbox_sort.the_row
mailbox_sort_sync = declared_sync mailbox_sort.the_type (search (crosses, u8_sync, u32_sync, i64_sync, bool_sync, u8_field_sync, u32_field_sync, as_row_sync, options.the_field_sync, spans.the_field_sync, polarities.the_field_sync, pattern_sync) depth 20)

sort_sync : IsSync sort.the_row
sort_sync = variants_sync sort.enum (search (crosses, u8_sync, u32_sync, i64_sync, bool_sync, u8_field_sync, u32_field_sync, as_row_sync, bases.the_field_sync, mailbox_sort_sync) depth 20)

tag_sync : IsSync tag.the_row
tag_sync = declared_sync tag.the_type (search (crosses, u8_sync, u32_sync, i64_sync, bool_sync, u8_field_sync, u32_field_sync, text_sync, sequence_sync, sort_sync) depth 20)

interface_sync : IsSync interface.the_row
interface_sync = declared_sync interface.the_type (search (crosses, u8_sync, u32_sync, i64_sync, bool_sync, u8_field_sync, u32_field_sync, text_sync, sequence_sync, tag_sync) depth 20)

function_sync : IsSync function.the_row
function_sync = declared_sync function.the_type (search (crosses, u8_sync, u32_sync, i64_sync, bool_sync, u8_field_sync, u32_field_sync, text_sync, sequence_sync, kinds.the_sync, spans.the_sync, sort_sync) depth 20)

core_sync : IsSync core.the_row
core_sync = variants_sync core.enum (search (crosses, u8_sync, u32_sync, i64_sync, bool_sync, u8_field_sync, u32_field_sync, sequence_sync, as_row_sync, options.the_field_sync, clauses.the_sync, expression_sync, pattern_sync) depth 20)

node_sync : IsSync node.the_row
node_sync = declared_sync node.the_type (search (crosses, u8_sync, u32_sync, i64_sync, bool_sync, u8_field_sync, u32_field_sync, as_row_sync, kinds.the_field_sync, spans.the_field_sync, core_sync) depth 20)

program_sync : IsSync program.the_row
program_sync = declared_sync program.the_type (search (crosses, u8_sync, u32_sync, i64_sync, bool_sync, u8_field_sync, u32_field_sync, sequence_sync, interface_sync, function_sync, node_sync) depth 20)

executable_sync : IsSync executable.the_row
executable_sync = declared_sync executable.the_type (search (crosses, u8_sync, u32_sync, i64_sync, bool_sync, u8_field_sync, u32_field_sync, sequence_sync, variables.the_sync, program_sync) depth 20)

-- ---- what the workers' closure borrows

ref_sync : (ℓ : Lifetime) (κ : Lft) (R : RattleType) → IsSync R → IsSync (as_row (row_field (ShrRef ℓ κ R)))
ref_sync ℓ κ R s = as_row_sync (row_field (ShrRef ℓ κ R)) (shr_sync ℓ κ R s)

pub borrows_sync : (ν : Sym) (a b c d e : Lifetime) (α β γ δ ε : Lft) (R G : RattleType) → IsSync R → IsSync G
    → IsSync (TupleAt ν (ShrRef a α R ∷ ShrRef b β global.the_row ∷ ShrRef c γ (the_turn.the_row machine.the_row named.the_row entry.the_row ghosts) ∷ ShrRef d δ executable.the_row ∷ ShrRef e ε G ∷ []))
borrows_sync ν a b c d e α β γ δ ε R G r g =
    declared_sync (type_at ν (ShrRef a α R ∷ ShrRef b β global.the_row ∷ ShrRef c γ (the_turn.the_row machine.the_row named.the_row entry.the_row ghosts) ∷ ShrRef d δ executable.the_row ∷ ShrRef e ε G ∷ []))
    (ref_sync a α R r, (ref_sync b β global.the_row heap.sync, (ref_sync c γ (the_turn.the_row machine.the_row named.the_row entry.the_row ghosts) turn_sync, (ref_sync d δ executable.the_row executable_sync, (ref_sync e ε G g, tt)))))

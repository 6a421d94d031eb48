-- What the machine's definitions see of the parser's states.
use Rattle.std.specs.Prelude.{List, map, Option, Some, None, option_map}
use Rattle.pat_parser_spec.specs.Machine as m
use Rattle.pat_tree.specs.Views.{span_view, name_view, pattern_view, expr_view, clause_view, term_view, type_view, param_view, decl_view}
use Rattle.pat_parser.specs.declared.states.state.Guarding.{Guarding}
use Rattle.pat_parser.specs.declared.states.state.ClauseHead.{ClauseHead}
use Rattle.pat_parser.specs.declared.states.state.Defining.{Defining}
use Rattle.pat_parser.specs.declared.states.state.Frame.{Frame}
use Rattle.pat_parser.specs.declared.states.state.LetFrame.{LetFrame}
use Rattle.pat_parser.specs.declared.states.state.LetFrame.TheVariants as lets
use Rattle.pat_parser.specs.declared.states.state.BlockFrame.{BlockFrame}
use Rattle.pat_parser.specs.declared.states.state.BlockFrame.TheVariants as blocks
use Rattle.pat_parser.specs.declared.states.state.ClauseFrame.{ClauseFrame}
use Rattle.pat_parser.specs.declared.states.state.ClauseFrame.TheVariants as clauses
use Rattle.pat_parser.specs.declared.states.state.Frame.TheVariants as frame
use Rattle.pat_parser.specs.declared.states.state.Control.{Control}
use Rattle.pat_parser.specs.declared.states.state.Control.TheVariants as control
use Rattle.pat_parser.specs.declared.states.state.State.{State}
use Rattle.pat_parser.specs.declared.states.state.State.TheVariants as states

abbrev pub guarding_view : Guarding → m.Guarding
guarding_view g = record { mailbox = name_view g.mailbox; pattern = pattern_view g.pattern; from = g.from; opened = g.opened; inside = g.inside; statements = g.statements; clauses = map clause_view g.clauses.items }

abbrev pub clause_head_view : ClauseHead → m.ClauseHead
clause_head_view r = record { guard = guarding_view r.guard.value; word = span_view r.word; tag = name_view r.tag; names = map name_view r.names }

abbrev pub defining_view : Defining → m.Defining
defining_view d = record { decls = map decl_view d.decls; name = name_view d.name; params = map param_view d.params }

abbrev pub let_frame_view : LetFrame → m.LetFrame
let_frame_view (lets.InBound x f) = m.InBound (name_view x) f
let_frame_view (lets.InBody x t f) = m.InBody (option_map name_view x) (term_view t.value) f

abbrev pub block_frame_view : BlockFrame → m.BlockFrame
block_frame_view (blocks.InBlock f o s) = m.InBlock f o s
block_frame_view (blocks.InYes e f o s) = m.InYes (expr_view e) f o s
block_frame_view (blocks.InNo e t f o s) = m.InNo (expr_view e) (term_view t.value) f o s
block_frame_view (blocks.InSpawn f o s) = m.InSpawn f o s
block_frame_view (blocks.InDef d a) = m.InDef (defining_view d.value) (type_view a)

abbrev pub clause_frame_view : ClauseFrame → m.ClauseFrame
clause_frame_view (clauses.InFree g w) = m.InFree (guarding_view g.value) (span_view w)
clause_frame_view (clauses.InReceive r x) = m.InReceive (clause_head_view r.value) (name_view x)

abbrev pub frame_view : Frame → m.Frame
frame_view (frame.Let f) = m.AtLet (let_frame_view f)
frame_view (frame.Block f) = m.AtBlock (block_frame_view f)
frame_view (frame.Clause f) = m.AtGuard (clause_frame_view f)

abbrev pub stack_view : List Frame → List m.Frame
stack_view fs = map frame_view fs

abbrev pub control_view : Control → m.Control
control_view (control.Start b) = m.Start b
control_view (control.Done t f) = m.Done (term_view t.value) f
control_view (control.AfterYes e t f) = m.AfterYes (expr_view e) (term_view t.value) f
control_view (control.AtClause b g) = m.AtClause b (guarding_view g.value)
control_view (control.AfterFree g w) = m.AfterFreeWord (guarding_view g.value) (span_view w)
control_view (control.AfterReceive g w) = m.WantName (m.ReceiveName (guarding_view g.value) (span_view w))

abbrev pub state_view : State → m.State
state_view (states.Between b ds fs) = m.state (m.AtDecl b (map decl_view ds)) (stack_view fs) 0 0 0
state_view (states.Within c p) = m.state (control_view c) (stack_view p.stack) p.opened 0 p.statements

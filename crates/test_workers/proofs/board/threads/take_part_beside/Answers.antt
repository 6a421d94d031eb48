use base.Fml.{Lft}
use mir.Syntax.{Lifetime, Sym}
use mathlib.Core.List.{[], ◌∷◌}
use denote.Builtin.{u64}
use denote.Exit.{yes}
use denote.Hole.{as_row}
use denote.Param.Send.{IsSync, plain_sync, shr_sync, param_send, param_sync, arg_send, arg_sync}
use denote.Param.SendFields.{declared_sync, as_row_sync}
use denote.RattleType.{RattleType}
use denote.Ref.{ShrRef}
use denote.Struct.Field.{row_field}
use denote.Struct.Tuple.{TupleAt, type_at}
use Rattle.pat_board.specs.contracts.board.Board as the_board
use Rattle.pat_board.proofs.Crossing.{seat_send, board_sync}
use Rattle.test_workers.proofs.board.threads.take_part_beside.Goals as goal

ref_sync : (ℓ : Lifetime) (κ : Lft) (R : RattleType) → IsSync R → IsSync (as_row (row_field (ShrRef ℓ κ R)))
ref_sync ℓ κ R s = as_row_sync (row_field (ShrRef ℓ κ R)) (shr_sync ℓ κ R s)

number_sync : IsSync u64
number_sync = plain_sync _ _ _ _ _

-- what the closure borrows
borrows_sync : (ν : Sym) (a b c : Lifetime) (α β γ : Lft) (R : RattleType) → IsSync R → IsSync (TupleAt ν (ShrRef a α R ∷ ShrRef b β the_board.the_row ∷ ShrRef c γ u64 ∷ []))
borrows_sync ν a b c α β γ R r =
    declared_sync (type_at ν (ShrRef a α R ∷ ShrRef b β the_board.the_row ∷ ShrRef c γ u64 ∷ []))
    (ref_sync a α R r, (ref_sync b β the_board.the_row board_sync, (ref_sync c γ u64 number_sync, tt)))

pub map_vec-requires-send-J : goal.map_vec-requires-send-J
map_vec-requires-send-J g c κs within = param_send 1 _ (arg_send _ yes _ seat_send)

pub map_vec-requires-send-X : goal.map_vec-requires-send-X
map_vec-requires-send-X g c κs within = param_send 2 _ (arg_send _ yes _ seat_send)

pub map_vec-requires-sync-F : goal.map_vec-requires-sync-F
map_vec-requires-sync-F g c κs within = param_sync 4 _ (arg_sync _ yes _ (borrows_sync _ _ _ _ _ _ _ _ c.type_bounds.sync-R))

use denote.Exit.{yes}
use denote.Param.Send.{param_send, param_sync, arg_send, arg_sync}
use Rattle.pat_workers.proofs.Crossing.{pass_send, worker_send, borrows_sync}
use Rattle.pat_workers.proofs.working.work_all.Goals as goal

pub map_vec-requires-send-J : goal.map_vec-requires-send-J
map_vec-requires-send-J g c κs within = param_send 1 _ (arg_send _ yes _ pass_send)

pub map_vec-requires-send-X : goal.map_vec-requires-send-X
map_vec-requires-send-X g c κs within = param_send 2 _ (arg_send _ yes _ worker_send)

pub map_vec-requires-sync-F : goal.map_vec-requires-sync-F
map_vec-requires-sync-F g c κs within = param_sync 4 _ (arg_sync _ yes _ (borrows_sync _ _ _ _ _ _ _ _ _ _ _ _ _ c.type_bounds.sync-R c.type_bounds.sync-G))

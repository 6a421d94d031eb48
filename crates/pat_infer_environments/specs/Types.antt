-- Types by their places in a list.
use Rattle.std.specs.Prelude.{ℕ, Bool, ◌||◌, List, Option, Some, None, is_some, slice_get}
use Rattle.pat_semantics_spec.specs.Values.{Expr, VarExpr}
use Rattle.pat_type_system_spec.specs.Types.{MailboxType, TypeEnv}
use Rattle.pat_type_schemes_spec.specs.NodeTypes.{Needs, need_of}
use Rattle.pat_infer_spec.specs.Needs.{put}

-- the type, if there is one at the place
abbrev pub flattened : Option (Option MailboxType) → Option MailboxType
flattened None = None
flattened (Some o) = o

-- the types at the places of a list
abbrev pub types_at : List (Option MailboxType) → TypeEnv
types_at types k = flattened (slice_get types k)

-- what is needed with one more argument, at a place of this type
abbrev pub with_argument : Option MailboxType → Expr → Needs → Needs
with_argument (Some a) (VarExpr x) needs = put x a needs
with_argument _ _ needs = needs

-- whether a variable stands twice, with one more argument
abbrev pub twice_with : Option MailboxType → Expr → Needs → Bool → Bool
twice_with (Some a) (VarExpr x) needs t = is_some (need_of needs x) || t
twice_with _ _ needs t = t

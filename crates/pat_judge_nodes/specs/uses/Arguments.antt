-- Mailboxes named in one term, where what is asked of arguments stands in lists.
use Rattle.std.specs.Prelude.{ℕ, Bool, true, List, ◌∷◌, map, Option, Some, None}
use Rattle.std.specs.Map.{keys_of}
use Rattle.pat_semantics_spec.specs.Values.{Expr}
use Rattle.pat_semantics_spec.specs.Programs.{TagDecl}
use Rattle.pat_type_system_spec.specs.Typings.{payload_sort}
use Rattle.pat_derivation_spec.specs.Same.{all_differ}
use Rattle.pat_obligations.specs.Listed.{Signature, asked_args}

-- the mailbox variables of a call of a function with this signature are different
abbrev pub call_differs : Option Signature → List Expr → Bool
call_differs None args = true
call_differs (Some g) args = all_differ (keys_of (asked_args g.params args))

-- the mailbox variables of a send of the tag to x are different, x among them
abbrev pub send_differs : ℕ → Option TagDecl → List Expr → Bool
send_differs x None args = true
send_differs x (Some decl) args = all_differ (x ∷ keys_of (asked_args (map payload_sort decl.payloads) args))

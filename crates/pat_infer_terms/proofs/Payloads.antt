-- Arguments at places of the same types; payloads by their list.
use Rattle.std.proofs.Common.{◌≡◌, ℕ, zero, suc, List, [], ◌∷◌, map, ◌||◌, Option, Some, None, refl, sym, ap, ◌∙◌}
use Rattle.std.specs.Prelude.{slice_get, option_and_then, is_some}
use Rattle.pat_semantics_spec.specs.Values.{Expr, VarExpr, Literal, OpExpr}
use Rattle.pat_semantics_spec.specs.Programs.{Sort, TagDecl}
use Rattle.pat_semantics_spec.specs.Faults.{payloads_of}
use Rattle.pat_type_system_spec.specs.Types.{MailboxType, TypeEnv}
use Rattle.pat_type_system_spec.specs.Typings.{payload_sort, if_mailbox, mailbox_args}
use Rattle.pat_type_system_spec.specs.Holdings.{declared_types}
use Rattle.pat_type_schemes_spec.specs.NodeTypes.{Needs, need_of}
use Rattle.pat_infer_spec.specs.Needs.{put_option, args_needs}
use Rattle.pat_infer_spec.specs.Binders.{name_before, names_bound}
use Rattle.pat_infer_spec.specs.Walk.{has_twice}
use Rattle.pat_infer_environments.specs.Types.{types_at}
use Rattle.pat_infer_environments.proofs.Listed.{among_args}

listed : (ss : List Sort) (k : ℕ) → types_at (map payload_sort ss) k ≡ option_and_then payload_sort (slice_get ss k)
listed [] zero = refl
listed [] (suc k) = refl
listed (s ∷ ss) zero = refl
listed (s ∷ ss) (suc k) = listed ss k

pub declared_at : (o : Option TagDecl) (k : ℕ) → types_at (map payload_sort (payloads_of o)) k ≡ declared_types o k
declared_at None zero = refl
declared_at None (suc k) = refl
declared_at (Some decl) k = listed decl.payloads k

pub needs_same : (f g : TypeEnv) → ((k : ℕ) → f k ≡ g k) → (k : ℕ) (es : List Expr) → args_needs f k es ≡ args_needs g k es
needs_same f g h k [] = refl
needs_same f g h k (VarExpr x ∷ es) =
    ap (λ o. put_option x o (args_needs f (suc k) es)) (h k) ∙ ap (λ w. put_option x (g k) w) (needs_same f g h (suc k) es)
needs_same f g h k (Literal c ∷ es) = needs_same f g h (suc k) es
needs_same f g h k (OpExpr op a b ∷ es) = needs_same f g h (suc k) es

pub args_same : (f g : TypeEnv) → ((k : ℕ) → f k ≡ g k) → (k : ℕ) (es : List Expr) → mailbox_args f k es ≡ mailbox_args g k es
args_same f g h k [] = refl
args_same f g h k (VarExpr x ∷ es) =
    ap (λ o. if_mailbox o x (mailbox_args f (suc k) es)) (h k) ∙ ap (λ w. if_mailbox (g k) x w) (args_same f g h (suc k) es)
args_same f g h k (Literal c ∷ es) = args_same f g h (suc k) es
args_same f g h k (OpExpr op a b ∷ es) = args_same f g h (suc k) es

pub needs_by : (types : List (Option MailboxType)) (o : Option TagDecl) (es : List Expr) → types ≡ map payload_sort (payloads_of o) → args_needs (types_at types) 0 es ≡ args_needs (declared_types o) 0 es
needs_by types o es h =
    ap (λ ts. args_needs (types_at ts) 0 es) h
    ∙ needs_same (types_at (map payload_sort (payloads_of o))) (declared_types o) (declared_at o) 0 es

pub twice_by : (types : List (Option MailboxType)) (o : Option TagDecl) (es : List Expr) → types ≡ map payload_sort (payloads_of o) → has_twice (mailbox_args (types_at types) 0 es) ≡ has_twice (mailbox_args (declared_types o) 0 es)
twice_by types o es h =
    ap (λ ts. has_twice (mailbox_args (types_at ts) 0 es)) h
    ∙ ap has_twice (args_same (types_at (map payload_sort (payloads_of o))) (declared_types o) (declared_at o) 0 es)

-- a target that stands among the payloads, or a payload that stands twice
pub send_twice : (types : TypeEnv) (k : ℕ) (es : List Expr) (x : ℕ) → (is_some (need_of (args_needs types k es) x) || has_twice (mailbox_args types k es)) ≡ has_twice (x ∷ mailbox_args types k es)
send_twice types k es x = ap (λ b. b || has_twice (mailbox_args types k es)) (among_args types k es x)

-- ---- names

pub names_same : (f g : TypeEnv) → ((k : ℕ) → f k ≡ g k) → (k : ℕ) (xs : List ℕ) (needs : Needs) → names_bound f k xs needs ≡ names_bound g k xs needs
names_same f g h k [] needs = refl
names_same f g h k (x ∷ xs) needs =
    ap (λ o. name_before x o (need_of needs x) (names_bound f (suc k) xs needs)) (h k)
    ∙ ap (λ bs. name_before x (g k) (need_of needs x) bs) (names_same f g h (suc k) xs needs)

pub names_by : (types : List (Option MailboxType)) (o : Option TagDecl) (xs : List ℕ) (needs : Needs) → types ≡ map payload_sort (payloads_of o) → names_bound (types_at types) 0 xs needs ≡ names_bound (declared_types o) 0 xs needs
names_by types o xs needs h =
    ap (λ ts. names_bound (types_at ts) 0 xs needs) h
    ∙ names_same (types_at (map payload_sort (payloads_of o))) (declared_types o) (declared_at o) 0 xs needs

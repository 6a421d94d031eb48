-- The demands of each node.
use Rattle.std.specs.Prelude.{ℕ, Bool, not, nat_eq, nat_lt, if◌then◌else◌, List, [], ◌∷◌, ◌++◌, length, map, filter, Option, Some, None, slice_get}
use Rattle.std.specs.List.{range_with_len}
use Rattle.std.specs.Map.{keys_of}
use Rattle.pat_words_spec.specs.Patterns.{Pat, One, Tag}
use Rattle.pat_type_system_spec.specs.Values.{Kind, MailboxOf, Expr, VarExpr}
use Rattle.pat_type_system_spec.specs.Programs.{Sending, Receiving, TagDecl, Function, Clause, Core, Val, Let, Call, If, Print, New, Send, Spawn, Guard, Node, Program, function_at, tag_at, is_among}
use Rattle.pat_type_system_spec.specs.Types.{Second, Returnable, MailboxType, TypeOf, MailboxTerm, mailbox_type, TypeEnv, no_types, with_type, without, returnable}
use Rattle.pat_type_system_spec.specs.Typings.{Typing, param_type, result_type, payload_type, args_need, mailbox_args, clause_env, without_name}
use Rattle.pat_type_schemes_spec.specs.NodeTypes.{Needs, need_of}
use Rattle.pat_derivation_spec.specs.Derivations.{Line, Derivation, line_at, written_typing}
use Rattle.pat_derivation_spec.specs.Demands.{Demand, Pass, Divide, There, Name}

-- the numbers of the first list, and then those of the second that are not in it
abbrev pub then_others : List ℕ → List ℕ → List ℕ
then_others xs ys = xs ++ filter (λ y. not (is_among y xs)) ys

-- the numbers but this one
abbrev pub but_not : ℕ → List ℕ → List ℕ
but_not x ys = filter (λ y. not (nat_eq x y)) ys

abbrev pub but_not_name : Option ℕ → List ℕ → List ℕ
but_not_name None ys = ys
but_not_name (Some x) ys = but_not x ys

-- each of the variables passes from the one environment to the other
abbrev pub passes : List ℕ → TypeEnv → TypeEnv → List Demand
passes xs g h = map (λ x. Pass (g x) (h x)) xs

-- each of the variables is divided among two environments
abbrev pub divides : List ℕ → TypeEnv → TypeEnv → TypeEnv → List Demand
divides xs g m n = map (λ x. Divide (g x) (m x) (n x)) xs

-- what the line demands, if there is one: a part whose line is missing is not looked at
abbrev pub of_line : Option Line → (Line → List Demand) → List Demand
of_line None f = []
of_line (Some l) f = f l

-- what is there passes to the part, those variables first, and the part names no other
abbrev pub to_part : Derivation → List ℕ → TypeEnv → ℕ → List Demand
to_part d xs g m = of_line (line_at d m) (λ l. passes (then_others xs (keys_of l.of.needs)) g (need_of l.of.needs))

-- the one term's type fits the other's
abbrev pub result_passes : TypeOf → TypeOf → List Demand
result_passes (MailboxTerm i q e) (MailboxTerm j r f) =
    Pass (Some (mailbox_type i q e Returnable)) (Some (mailbox_type j r f Returnable)) ∷ []
result_passes _ _ = []

-- what a term that is an expression of this type asks of its variables
abbrev pub value_asks : TypeOf → Expr → TypeEnv
value_asks (MailboxTerm i q f) (VarExpr x) = with_type x (mailbox_type i q f Returnable) no_types
value_asks _ e = no_types

-- the variable that it asks for
abbrev pub value_names : TypeOf → Expr → List ℕ
value_names (MailboxTerm i q f) (VarExpr x) = x ∷ []
value_names _ e = []

-- the name of a let, where it is that of a mailbox
abbrev pub name_demands : Option Kind → TypeOf → Option MailboxType → List Demand
name_demands (Some (MailboxOf i)) t o = Name t o ∷ []
name_demands _ t o = []

-- the name of a let, if it has one: the body has it with the bound part's type, or does without
abbrev pub named_demands : List Kind → Line → Line → Option ℕ → List Demand
named_demands vars m n None = []
named_demands vars m n (Some x) = name_demands (slice_get vars x) m.of.result (need_of n.of.needs x)

-- the variables of one part of a let, other than its name, are there
abbrev pub part_demands : TypeEnv → Option ℕ → Needs → List Demand
part_demands g x part = map (λ z. There (g z) (need_of part z)) (but_not_name x (keys_of part))

-- what a let demands of the lines of its parts; of one part without the other, just that its variables are there
abbrev pub let_demands : List Kind → Line → Option ℕ → Option Line → Option Line → List Demand
let_demands vars l x None None = []
let_demands vars l x (Some m) None = part_demands (need_of l.of.needs) x m.of.needs
let_demands vars l x None (Some n) = part_demands (need_of l.of.needs) x n.of.needs
let_demands vars l x (Some m) (Some n) =
    divides (then_others (then_others (keys_of l.of.needs) (but_not_name x (keys_of m.of.needs))) (but_not_name x (keys_of n.of.needs)))
    (need_of l.of.needs) (without_name x (need_of m.of.needs)) (without_name x (need_of n.of.needs))
    ++ named_demands vars m n x

-- the function that is called, if it is there, asks for its arguments and gives its result
abbrev pub call_demands : Typing → Line → ℕ → List Expr → Option Function → List Demand
call_demands y l f args None = []
call_demands y l f args (Some g) =
    passes (then_others (mailbox_args (param_type y f g) 0 args) (keys_of l.of.needs)) (need_of l.of.needs) (args_need (param_type y f g) 0 args)
    ++ result_passes (result_type y f g) l.of.result

-- the tag that is sent, if it is there, asks for its target and its payloads
abbrev pub send_demands : Line → ℕ → ℕ → ℕ → List Expr → Option TagDecl → List Demand
send_demands l i x m args None = []
send_demands l i x m args (Some decl) =
    passes (then_others (x ∷ mailbox_args (payload_type decl) 0 args) (keys_of l.of.needs)) (need_of l.of.needs)
    (with_type x (mailbox_type i Sending (Tag m) Second) (args_need (payload_type decl) 0 args))

-- what is there for the clause passes to its body: the other variables, the name of what is left of the mailbox, the payloads
abbrev pub clause_demands : Derivation → List ℕ → TypeEnv → ℕ → ℕ → Pat → Clause → Option TagDecl → List Demand
clause_demands d xs g x i e r None = []
clause_demands d xs g x i e r (Some decl) =
    to_part d (then_others (but_not x xs) (r.from ∷ r.vars)) (clause_env g x i e decl r) r.body

-- what is there for the guard without its variable passes to the body of the free clause
abbrev pub free_demands : Derivation → List ℕ → TypeEnv → ℕ → ℕ → List Demand
free_demands d xs g x m = to_part d (but_not x xs) (without x g) m

-- what the clauses demand, in the order of their bodies
abbrev pub clauses_demand : (ℕ → List Demand) → (Clause → List Demand) → Option ℕ → List Clause → List Demand
clauses_demand free receive None [] = []
clauses_demand free receive (Some m) [] = free m
clauses_demand free receive None (r ∷ rs) = receive r ++ clauses_demand free receive None rs
clauses_demand free receive (Some m) (r ∷ rs) =
    if nat_lt m r.body
    then free m ++ (receive r ++ clauses_demand free receive None rs)
    else receive r ++ clauses_demand free receive (Some m) rs

-- what the bodies of a guard demand; without a body, what is there for the guard may be dropped but for its variable
abbrev pub bodies_demand : Program → Derivation → List ℕ → TypeEnv → ℕ → ℕ → Pat → Option ℕ → List Clause → List Demand
bodies_demand p d xs g x i e None [] = passes (but_not x xs) (without x g) no_types
bodies_demand p d xs g x i e free rs =
    clauses_demand (free_demands d xs g x) (λ r. clause_demands d xs g x i e r (tag_at p i r.tag)) free rs

-- what a guard demands, if its variable is that of a mailbox
abbrev pub guard_demands : Program → Derivation → List ℕ → TypeEnv → ℕ → Pat → Option ℕ → List Clause → Option Kind → List Demand
guard_demands p d xs g x e free rs (Some (MailboxOf i)) =
    Pass (g x) (Some (mailbox_type i Receiving e Returnable)) ∷ bodies_demand p d xs g x i e free rs
guard_demands p d xs g x e free rs _ = []

-- what is sent to a mailbox
abbrev pub target_demands : Program → Line → ℕ → ℕ → List Expr → Option Kind → List Demand
target_demands p l x m args (Some (MailboxOf i)) = send_demands l i x m args (tag_at p i m)
target_demands p l x m args _ = []

-- what a term demands, where variables have these kinds, and the node has this line
abbrev pub term_demands : Program → Derivation → List Kind → Line → Core → List Demand
term_demands p d vars l (Val e) =
    passes (then_others (value_names l.of.result e) (keys_of l.of.needs)) (need_of l.of.needs) (value_asks l.of.result e)
term_demands p d vars l (Print e) = passes (keys_of l.of.needs) (need_of l.of.needs) no_types
term_demands p d vars l (Let x m n) = let_demands vars l x (line_at d m) (line_at d n)
term_demands p d vars l (Call f args) = call_demands (written_typing p d) l f args (function_at p f)
term_demands p d vars l (If e m n) =
    to_part d (keys_of l.of.needs) (need_of l.of.needs) m ++ to_part d (keys_of l.of.needs) (need_of l.of.needs) n
term_demands p d vars l (New i) =
    result_passes (MailboxTerm i Receiving One) l.of.result ++ passes (keys_of l.of.needs) (need_of l.of.needs) no_types
term_demands p d vars l (Send x m args) = target_demands p l x m args (slice_get vars x)
term_demands p d vars l (Spawn m) = to_part d (keys_of l.of.needs) (λ x. returnable (need_of l.of.needs x)) m
term_demands p d vars l (Guard x e free rs) =
    guard_demands p d (keys_of l.of.needs) (need_of l.of.needs) x e free rs (slice_get vars x)

-- the node, its function and its line
pub record Place : Type 0 where
  pub number : ℕ
  pub node : Node
  pub function : Function
  pub line : Line

-- the node is the first of its function
abbrev pub is_first : Place → Bool
is_first h = nat_eq h.function.body h.number

-- each mailbox parameter passes to the first node of its function
abbrev pub first_demands : Program → Derivation → Place → List Demand
first_demands p d h =
    if is_first h
    then passes (then_others (range_with_len 0 (length h.function.params)) (keys_of h.line.of.needs))
    (param_type (written_typing p d) h.node.function h.function) (need_of h.line.of.needs)
    else []

-- the demands of a node, in order
abbrev pub demands : Program → Derivation → Place → List Demand
demands p d h = first_demands p d h ++ term_demands p d h.function.vars h.line h.node.core

-- Inference from the uses back to the names: a walk that asks each term for a type and finds what it needs.
-- It goes by levels: a part stands one level deeper than its term, and there are no more levels than nodes.
use Rattle.std.specs.Prelude.{ℕ, zero, suc, ◌+◌, Bool, true, false, not, ◌||◌, nat_lt, if◌then◌else◌, List, [], ◌∷◌, ◌++◌, length, Option, Some, None, is_some, is_none, slice_get}
use Rattle.std.specs.Map.{keys_of}
use Rattle.std.specs.List.{list_any, flat_map}
use Rattle.pat_words_spec.specs.Patterns.{Pat, One, Tag, covers, residual}
use Rattle.pat_semantics_spec.specs.Values.{BaseUnit, Kind, Plain, MailboxOf, Expr, VarExpr}
use Rattle.pat_semantics_spec.specs.Programs.{Sending, Receiving, Sort, Function, Clause, Core, Val, Let, Call, If, Print, New, Send, Spawn, Guard, Node, Program, node_at, function_at, tag_at, is_among, option_list, clause_binders}
use Rattle.pat_semantics_spec.specs.Faults.{payloads_of}
use Rattle.pat_type_system_spec.specs.Types.{Second, Returnable, MailboxType, mailbox_type, TypeOf, BaseTerm, MailboxTerm, TypeEnv}
use Rattle.pat_type_system_spec.specs.Typings.{payload_sort, mailbox_args, is_received}
use Rattle.pat_type_system_spec.specs.Holdings.{declared_types}
use Rattle.pat_type_schemes_spec.specs.Signatures.{Variable, signature_vars, open_param, open_result}
use Rattle.pat_type_schemes_spec.specs.NodeTypes.{Needs, need_of, NodeType}
use Rattle.pat_type_schemes_spec.specs.Compared.{polarity_eq}
use Rattle.pat_infer_spec.specs.Constraints.{AtNode, AliasRule, OrderRule, DoubleRule, BranchRule, PayloadRule, CoversRule, PolarityRule, Finding, unless, each_unless, Constraint, constraint, Found, nothing_found}
use Rattle.pat_infer_spec.specs.Needs.{put, args_needs, needs_but, needs_second, names_of_two, gather, Gathered}
use Rattle.pat_infer_spec.specs.Binders.{Binder, binder_findings, binder_constraints, names_bound, param_names}
use Rattle.pat_infer_spec.specs.BothParts.{in_order, one_receives, both_parts}
use Rattle.pat_infer_spec.specs.Branches.{Branch, Arm, arm_names, arm_needs, branches_agree, branches}

-- ---- look-ups

-- the kinds of a function's variables
abbrev pub kinds_of : Option Function → List Kind
kinds_of None = []
kinds_of (Some g) = g.vars

-- the interface of a kind
abbrev pub interface_of : Option Kind → ℕ
interface_of (Some (MailboxOf i)) = i
interface_of _ = 0

-- the interface of a function's variable
abbrev pub var_interface : Program → ℕ → ℕ → ℕ
var_interface p f x = interface_of (slice_get (kinds_of (function_at p f)) x)

-- the type that a bound part of this kind is asked for, where this is needed of its name: `I!1` where nothing is
abbrev pub asked_as : Kind → Option MailboxType → TypeOf
asked_as (Plain b) need = BaseTerm b
asked_as (MailboxOf i) None = MailboxTerm i Sending One
asked_as (MailboxOf i) (Some a) = MailboxTerm i a.polarity a.pattern

-- the same for a node
abbrev pub asked_of : Option Node → Option MailboxType → TypeOf
asked_of None need = BaseTerm BaseUnit
asked_of (Some d) need = asked_as d.kind need

-- what is needed of a name, if there is one
abbrev pub name_need : Option ℕ → Needs → Option MailboxType
name_need None needs = None
name_need (Some x) needs = need_of needs x

-- whether a number stands twice in the list
abbrev pub has_twice : List ℕ → Bool
has_twice [] = false
has_twice (x ∷ xs) = is_among x xs || has_twice xs

-- ---- terms without parts

-- nothing but needs
abbrev pub only_needs : Needs → Found
only_needs needs = record { needs = needs; vars = []; constraints = []; nodes = []; findings = [] }

-- an expression that is asked for a mailbox is a variable, and needs it so
abbrev pub value_needs : TypeOf → Expr → Needs
value_needs (MailboxTerm i q e) (VarExpr x) = (x, mailbox_type i q e Returnable) ∷ []
value_needs _ _ = []

-- a new mailbox has the empty word, and is asked for as receiving
abbrev pub new_found : ℕ → ℕ → TypeOf → Found
new_found n i (MailboxTerm j Receiving e) =
    record { needs = []; vars = []; constraints = constraint i One e (AtNode n) ∷ []; nodes = []; findings = [] }
new_found n i _ = record { needs = []; vars = []; constraints = []; nodes = []; findings = unless false PolarityRule (AtNode n) }

-- a call's result, of the first type, has the polarity of the second, which it is asked for
abbrev pub result_agrees : TypeOf → TypeOf → Bool
result_agrees (MailboxTerm i q e) (MailboxTerm j r f) = polarity_eq q r
result_agrees _ _ = true

-- and no fewer words than it is asked for where it is sent to, and no more where it is received from
abbrev pub result_constraints : ℕ → TypeOf → TypeOf → List Constraint
result_constraints n (MailboxTerm i Receiving e) (MailboxTerm j r f) = constraint i e f (AtNode n) ∷ []
result_constraints n (MailboxTerm i Sending e) (MailboxTerm j r f) = constraint i f e (AtNode n) ∷ []
result_constraints n _ _ = []

-- a call of a function of the program
abbrev pub call_found : Program → ℕ → TypeOf → ℕ → List Expr → Option Function → Found
call_found p n asked f args None = nothing_found
call_found p n asked f args (Some g) = record {
  needs = args_needs (open_param p f g) 0 args;
  vars = [];
  constraints = result_constraints n (open_result p f g) asked;
  nodes = [];
  findings =
      unless (not (has_twice (mailbox_args (open_param p f g) 0 args))) AliasRule (AtNode n)
      ++ unless (result_agrees (open_result p f g) asked) PolarityRule (AtNode n);
}

-- a send of a tag with payloads of these types, to x on interface i
abbrev pub send_found : ℕ → TypeEnv → ℕ → ℕ → ℕ → List Expr → Found
send_found n types i x m args = record {
  needs = put x (mailbox_type i Sending (Tag m) Second) (args_needs types 0 args);
  vars = [];
  constraints = [];
  nodes = [];
  findings = unless (not (has_twice (x ∷ mailbox_args types 0 args))) AliasRule (AtNode n);
}

-- ---- terms with parts

-- a part of this number, asked for a type, where new variables are numbered from k
abbrev pub Part : Type 0
Part = ℕ → TypeOf → ℕ → Found

-- a spawned body's needs, as second-class
abbrev pub spawn_found : Found → Found
spawn_found r = record { needs = needs_second r.needs; vars = r.vars; constraints = r.constraints; nodes = r.nodes; findings = r.findings }

-- what the body of a let needs beside the name
abbrev pub body_needs : Option ℕ → Needs → Needs
body_needs x needs = needs_but (option_list x) needs

-- both parts of a let, variable by variable
abbrev pub let_gathered : ℕ → ℕ → Needs → Needs → Gathered
let_gathered n k bound body =
    gather (λ j z. both_parts n j z (need_of bound z) (need_of body z)) k (names_of_two bound body)

-- the rules of a let
abbrev pub let_findings : ℕ → Needs → Needs → List Finding
let_findings n bound body =
    each_unless (λ z. in_order (need_of bound z) (need_of body z)) OrderRule (λ z. AtNode n) (names_of_two bound body)
    ++ each_unless (λ z. one_receives (need_of bound z) (need_of body z)) DoubleRule (λ z. AtNode n) (names_of_two bound body)

-- a let, whose body and bound part have been walked, and whose own new variables are numbered from k
abbrev pub let_found : ℕ → ℕ → Option ℕ → Found → Found → Found
let_found n k x body bound =
    let own = let_gathered n k bound.needs (body_needs x body.needs) in
    record {
      needs = own.needs;
      vars = body.vars ++ (bound.vars ++ own.vars);
      constraints = body.constraints ++ (bound.constraints ++ own.constraints);
      nodes = body.nodes ++ bound.nodes;
      findings = body.findings ++ (bound.findings ++ let_findings n bound.needs (body_needs x body.needs));
    }

-- the bound part of a let is walked behind the body
abbrev pub bound_found : Program → Part → ℕ → ℕ → Option ℕ → ℕ → Found → Found
bound_found p part n k x m body =
    let bound = part m (asked_of (node_at p m) (name_need x body.needs)) (k + length body.vars) in
    let_found n (k + length body.vars + length bound.vars) x body bound

-- branches that have been walked
pub record Arms : Type 0 where
  pub arms : List Arm
  pub vars : List Variable
  pub constraints : List Constraint
  pub nodes : List (ℕ × NodeType)
  pub findings : List Finding

-- a branch that has been walked, before others
abbrev pub arm_before : Option Clause → Found → Arms → Arms
arm_before clause r rest = record {
  arms = record { clause = clause; needs = r.needs } ∷ rest.arms;
  vars = r.vars ++ rest.vars;
  constraints = r.constraints ++ rest.constraints;
  nodes = r.nodes ++ rest.nodes;
  findings = r.findings ++ rest.findings;
}

-- branches in order, each asked for the type of the whole
abbrev pub walk_arms : Part → TypeOf → ℕ → List Branch → Arms
walk_arms part asked k [] = record { arms = []; vars = []; constraints = []; nodes = []; findings = [] }
walk_arms part asked k (b ∷ bs) =
    let first = part b.body asked k in
    arm_before b.clause first (walk_arms part asked (k + length first.vars) bs)

-- branches, variable by variable
abbrev pub arms_gathered : ℕ → ℕ → List Arm → Gathered
arms_gathered n k arms = gather (λ j z. branches n j z (arm_needs z arms)) k (arm_names arms)

-- the rule of branches
abbrev pub arms_findings : ℕ → List Arm → List Finding
arms_findings n arms = each_unless (λ z. branches_agree (arm_needs z arms)) BranchRule (λ z. AtNode n) (arm_names arms)

-- a choice, whose own new variables are numbered from k
abbrev pub if_found : ℕ → ℕ → Arms → Found
if_found n k all =
    let own = arms_gathered n k all.arms in
    record {
      needs = own.needs;
      vars = all.vars ++ own.vars;
      constraints = all.constraints ++ own.constraints;
      nodes = all.nodes;
      findings = all.findings ++ arms_findings n all.arms;
    }

-- the two branches of a choice
abbrev pub two_branches : ℕ → ℕ → List Branch
two_branches a b = record { body = a; clause = None } ∷ record { body = b; clause = None } ∷ []

-- the branch of a receive clause
abbrev pub clause_branch : Clause → Branch
clause_branch r = record { body = r.body; clause = Some r }

-- the branches of a guard: the body of the free clause stands before those of greater numbers
abbrev pub branches_of : Option ℕ → List Clause → List Branch
branches_of None [] = []
branches_of (Some m) [] = record { body = m; clause = None } ∷ []
branches_of None (r ∷ cs) = clause_branch r ∷ branches_of None cs
branches_of (Some m) (r ∷ cs) =
    if nat_lt m r.body
    then record { body = m; clause = None } ∷ clause_branch r ∷ branches_of None cs
    else clause_branch r ∷ branches_of (Some m) cs

-- whether a payload is a mailbox
abbrev pub has_mailbox : List Sort → Bool
has_mailbox payloads = list_any (λ s. is_some (payload_sort s)) payloads

-- beside a mailbox payload a clause of a guard on interface i needs its own names alone
abbrev pub clause_keeps : Program → ℕ → Needs → Option Clause → Bool
clause_keeps p i needs None = true
clause_keeps p i needs (Some r) =
    not (has_mailbox (payloads_of (tag_at p i r.tag))) || not (list_any (λ x. not (is_among x (clause_binders r))) (keys_of needs))

-- the same for a branch
abbrev pub keeps_own : Program → ℕ → Arm → Bool
keeps_own p i a = clause_keeps p i a.needs a.clause

-- the names of a branch of a guard x : E on interface i, with their types: what is left of the mailbox, then the payloads
abbrev pub arm_binders : Program → ℕ → Pat → Needs → Option Clause → List Binder
arm_binders p i e needs None = []
arm_binders p i e needs (Some r) =
    record { name = r.from; type = mailbox_type i Receiving (residual e r.tag) Returnable; need = need_of needs r.from }
    ∷ names_bound (declared_types (tag_at p i r.tag)) 0 r.vars needs

-- the names of all branches
abbrev pub guard_binders : Program → ℕ → Pat → List Arm → List Binder
guard_binders p i e arms = flat_map (λ a. arm_binders p i e a.needs a.clause) arms

-- a guard x : E on interface i in function f, whose own new variables are numbered from k
abbrev pub guard_found : Program → ℕ → ℕ → ℕ → ℕ → Pat → ℕ → Bool → List Clause → Arms → Found
guard_found p f n k x e i free cs all =
    let own = arms_gathered n k all.arms in
    record {
      needs = put x (mailbox_type i Receiving e Returnable) own.needs;
      vars = all.vars ++ own.vars;
      constraints = all.constraints ++ (binder_constraints f (guard_binders p i e all.arms) ++ own.constraints);
      nodes = all.nodes;
      findings =
          all.findings
          ++ (each_unless (λ a. is_none (need_of a.needs x)) OrderRule (λ a. AtNode n) all.arms
          ++ (arms_findings n all.arms
          ++ (each_unless (keeps_own p i) PayloadRule (λ a. AtNode n) all.arms
          ++ (unless (covers e (is_received cs) free) CoversRule (AtNode n) ++ binder_findings f (guard_binders p i e all.arms)))));
    }

-- ---- all terms

-- a choice or a guard is found from its walked branches
abbrev pub if_from : ℕ → ℕ → Arms → Found
if_from n k all = if_found n (k + length all.vars) all

abbrev pub guard_from : Program → ℕ → ℕ → ℕ → ℕ → Pat → Option ℕ → List Clause → Arms → Found
guard_from p f n k x e free cs all =
    guard_found p f n (k + length all.vars) x e (var_interface p f x) (is_some free) cs all

-- node n of function f, asked for a type, where new variables are numbered from k
abbrev pub core_found : Program → Part → ℕ → ℕ → ℕ → TypeOf → Core → Found
core_found p part f n k asked (Val e) = only_needs (value_needs asked e)
core_found p part f n k asked (Print e) = nothing_found
core_found p part f n k asked (New i) = new_found n i asked
core_found p part f n k asked (Call g args) = call_found p n asked g args (function_at p g)
core_found p part f n k asked (Send x m args) =
    send_found n (declared_types (tag_at p (var_interface p f x) m)) (var_interface p f x) x m args
core_found p part f n k asked (Spawn m) = spawn_found (part m (BaseTerm BaseUnit) k)
core_found p part f n k asked (Let x m b) = bound_found p part n k x m (part b asked k)
core_found p part f n k asked (If e a b) = if_from n k (walk_arms part asked k (two_branches a b))
core_found p part f n k asked (Guard x e free cs) =
    guard_from p f n k x e free cs (walk_arms part asked k (branches_of free cs))

-- what is found, and then the node's own type and needs
abbrev pub with_node : ℕ → TypeOf → Found → Found
with_node n asked r = record {
  needs = r.needs;
  vars = r.vars;
  constraints = r.constraints;
  nodes = r.nodes ++ (n, record { result = asked; needs = r.needs }) ∷ [];
  findings = r.findings;
}

-- a node, if it is there
abbrev pub node_found : Program → Part → ℕ → TypeOf → ℕ → Option Node → Found
node_found p part n asked k None = nothing_found
node_found p part n asked k (Some d) = with_node n asked (core_found p part d.function n k asked d.core)

-- node n with its parts, which stand on at most so many levels
abbrev pub walk : ℕ → Program → Part
walk zero p n asked k = nothing_found
walk (suc d) p n asked k = node_found p (walk d p) n asked k (node_at p n)

-- ---- functions

-- the names of a function's parameters, with their types
abbrev pub function_binders : Program → ℕ → Function → Needs → List Binder
function_binders p f g needs = names_bound (open_param p f g) 0 (param_names 0 g.params) needs

-- a function, whose body has been walked, needs nothing
abbrev pub function_found : Program → ℕ → Function → Found → Found
function_found p f g body = record {
  needs = [];
  vars = body.vars;
  constraints = body.constraints ++ binder_constraints f (function_binders p f g body.needs);
  nodes = body.nodes;
  findings = body.findings ++ binder_findings f (function_binders p f g body.needs);
}

-- function f
abbrev pub walk_function : Program → ℕ → Function → ℕ → Found
walk_function p f g k = function_found p f g (walk (length p.nodes) p g.body (open_result p f g) k)

-- what one finds, and then another
abbrev pub found_before : Found → Found → Found
found_before r rest = record {
  needs = [];
  vars = r.vars ++ rest.vars;
  constraints = r.constraints ++ rest.constraints;
  nodes = r.nodes ++ rest.nodes;
  findings = r.findings ++ rest.findings;
}

-- the functions in order, from number f on
abbrev pub walk_functions : Program → ℕ → ℕ → List Function → Found
walk_functions p f k [] = nothing_found
walk_functions p f k (g ∷ gs) =
    let first = walk_function p f g k in
    found_before first (walk_functions p (suc f) (k + length first.vars) gs)

-- what is found of the program: its new variables are numbered on from those of the signatures
abbrev pub inferred : Program → Found
inferred p = walk_functions p 0 (1 + length (signature_vars p)) p.functions

-- all variables, numbered from 1
abbrev pub all_vars : Program → List Variable
all_vars p = signature_vars p ++ (inferred p).vars

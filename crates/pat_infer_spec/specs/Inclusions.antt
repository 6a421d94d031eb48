-- The inclusions that the conditions of a typing need at the nodes that are found, and how each is shown: it is trivial, or
-- it is one of the constraints.
use Rattle.std.specs.Prelude.{◌≡◌, ℕ, List, [], Option, Some, None, ◌⊎◌, IsTrue}
use Rattle.std.specs.List.{AllByRecursion}
use Rattle.pat_words_spec.specs.Words.{Word}
use Rattle.pat_words_spec.specs.Patterns.{Pat, One, Tag, Prod, In, prod_of, subst_of}
use Rattle.pat_semantics_spec.specs.Values.{Expr, VarExpr}
use Rattle.pat_semantics_spec.specs.Programs.{Polarity, Sending, Receiving, TagDecl, Function, Clause, Core, Val, Let, Call, If, Print, New, Send, Spawn, Guard, Node, Program, node_at, function_at, tag_at}
use Rattle.pat_semantics_spec.specs.Faults.{IsIn}
use Rattle.pat_semantics_spec.specs.WellFormed.{WellFormed}
use Rattle.pat_type_system_spec.specs.Types.{Second, Returnable, MailboxType, mailbox_type, TypeOf, BaseTerm, MailboxTerm, TypeEnv, with_type, without}
use Rattle.pat_type_system_spec.specs.Typings.{Typing, param_type, result_type, payload_type, args_need, clause_env, without_name}
use Rattle.pat_type_schemes_spec.specs.Values.{replaced}
use Rattle.pat_type_schemes_spec.specs.Certificates.{is_arm}
use Rattle.pat_type_schemes_spec.specs.Signatures.{signature_vars}
use Rattle.pat_infer_spec.specs.Constraints.{Constraint}
use Rattle.pat_infer_spec.specs.Walk.{var_interface, inferred}
use Rattle.pat_infer_spec.specs.Solutions.{IsPatternSolution, SendersHaveWords, typing_open}

-- ---- what is shown

-- the inclusion, of patterns of interface i, is one of these constraints: its left side is the constraint's where variables have
-- these values, and its right side is the constraint's as it stands
abbrev pub IsListed : List Constraint → (ℕ → Pat) → ℕ → Pat → Pat → Type 0
IsListed cs v i e f = (c : Constraint) × IsIn c cs × (c.interface ≡ i) × (subst_of v e ≡ subst_of v c.left) × (f ≡ c.right)

-- the inclusion is trivial, where variables have these values, or is one of the constraints
abbrev pub IsShown : List Constraint → (ℕ → Pat) → ℕ → Pat → Pat → Type 0
IsShown cs v i e f = IsTrue (is_arm (subst_of v e) (subst_of v f)) ⊎ IsListed cs v i e f

-- ---- what is needed, where R says what is shown of the patterns of an interface

abbrev pub Shows : Type 1
Shows = ℕ → Pat → Pat → Type 0

-- one type stands for another
abbrev pub PatternShown : (Pat → Pat → Type 0) → Polarity → Pat → Pat → Type 0
PatternShown R Sending e f = R f e
PatternShown R Receiving e f = R e f

-- what is there passes to what is needed; what is dropped needs no inclusion
abbrev pub PassShown : Shows → Option MailboxType → Option MailboxType → Type 0
PassShown R (Some a) (Some b) = PatternShown (R a.interface) b.polarity a.pattern b.pattern
PassShown R _ _ = Unit {0}

-- each variable passes
abbrev pub EnvShown : Shows → TypeEnv → TypeEnv → Type 0
EnvShown R g h = (x : ℕ) → PassShown R (g x) (h x)

-- a variable of both parts of a let is divided among them; where both send, it has the product of what they send, as it is written
abbrev pub JoinShown : (Pat → Pat → Type 0) → Polarity → Polarity → Pat → Pat → Pat → Type 0
JoinShown R Sending Sending e1 e2 e = R (Prod e1 e2) e × (e ≡ prod_of e1 e2)
JoinShown R Sending Receiving e1 e2 e = R (Prod e1 e) e2
JoinShown R Receiving _ e1 e2 e = R (Prod e2 e) e1

-- a let shares out its types: these to what is bound, those to its body; what one part alone has keeps its pattern
abbrev pub SplitShown : Shows → Option MailboxType → Option MailboxType → Option MailboxType → Type 0
SplitShown R (Some a) (Some b) (Some c) = JoinShown (R a.interface) b.polarity c.polarity b.pattern c.pattern a.pattern
SplitShown R (Some a) (Some b) None = PatternShown (R a.interface) b.polarity a.pattern b.pattern × (a.pattern ≡ b.pattern)
SplitShown R (Some a) None (Some c) = PatternShown (R a.interface) c.polarity a.pattern c.pattern × (a.pattern ≡ c.pattern)
SplitShown R _ _ _ = Unit {0}

-- one term's type stands for another's
abbrev pub ResultShown : Shows → TypeOf → TypeOf → Type 0
ResultShown R (MailboxTerm i q e) (MailboxTerm j r f) = PatternShown (R i) r e f
ResultShown R _ _ = Unit {0}

-- a new mailbox has the empty word
abbrev pub NewShown : (Pat → Pat → Type 0) → TypeOf → Type 0
NewShown R (MailboxTerm j q e) = R One e
NewShown R (BaseTerm b) = Unit {0}

-- a variable has the type of its term
abbrev pub ValueShown : Shows → TypeOf → Expr → TypeEnv → Type 0
ValueShown R (MailboxTerm i q e) (VarExpr x) g = PassShown R (g x) (Some (mailbox_type i q e Returnable))
ValueShown R _ _ g = Unit {0}

-- a receive clause of a guard x : E on interface i
abbrev pub ClauseShown : Shows → Program → Typing → TypeEnv → ℕ → ℕ → Pat → Clause → Type 0
ClauseShown R p y g x i e r = (decl : TagDecl) → tag_at p i r.tag ≡ Some decl → EnvShown R (clause_env g x i e decl r) (y.envs r.body)

-- the inclusions of a term of function f of type t in the environment g
abbrev pub CoreShown : Shows → Program → Typing → ℕ → TypeEnv → TypeOf → Core → Type 0
CoreShown R p y f g t (Val e) = ValueShown R t e g
CoreShown R p y f g t (Print e) = Unit {0}
CoreShown R p y f g t (New i) = NewShown (R i) t
CoreShown R p y f g t (Call c args) =
    (h : Function) → function_at p c ≡ Some h → EnvShown R g (args_need (param_type y c h) 0 args) × ResultShown R (result_type y c h) t
CoreShown R p y f g t (Send x m args) =
    (decl : TagDecl) → tag_at p (var_interface p f x) m ≡ Some decl → EnvShown R g (with_type x (mailbox_type (var_interface p f x) Sending (Tag m) Second) (args_need (payload_type decl) 0 args))
CoreShown R p y f g t (Spawn m) = EnvShown R g (y.envs m)
CoreShown R p y f g t (Let x m b) = (z : ℕ) → SplitShown R (g z) (y.envs m z) (without_name x (y.envs b) z)
CoreShown R p y f g t (If e a b) = EnvShown R g (y.envs a) × EnvShown R g (y.envs b)
CoreShown R p y f g t (Guard x e free cs) =
    PassShown R (g x) (Some (mailbox_type (var_interface p f x) Receiving e Returnable))
    × ((m : ℕ) → free ≡ Some m → EnvShown R (without x g) (y.envs m))
    × AllByRecursion (ClauseShown R p y g x (var_interface p f x) e) cs

-- ---- the nodes that are found, with their variables

-- each value has at least the words of its variable
abbrev pub ValuesCover : (ℕ → Pat) → (ℕ → Pat) → Type 0
ValuesCover s v = (k : ℕ) (w : Word) → In (s k) w → In (replaced s (v k)) w

-- the inclusions of a program's nodes and functions
pub record AllShown (R : Shows) (p : Program) : Type 0 where
  pub nodes : (n : ℕ) (d : Node) → node_at p n ≡ Some d → CoreShown R p (typing_open p) d.function ((typing_open p).envs n) ((typing_open p).results n) d.core
  pub functions : (f : ℕ) (g : Function) → function_at p f ≡ Some g → EnvShown R (param_type (typing_open p) f g) ((typing_open p).envs g.body)

-- where no rule is broken and s is a solution in which the sending variables of signatures have words, each inclusion that
-- is needed at a found node is trivial, or is one of the constraints, where variables have values that agree with s
abbrev pub InclusionsShown : Type 0
InclusionsShown =
    (p : Program) (s v : ℕ → Pat) → WellFormed p → (inferred p).findings ≡ [] → IsPatternSolution p s → SendersHaveWords s 1 (signature_vars p) → ValuesCover s v → AllShown (IsShown (inferred p).constraints v) p

-- The rules again, said without tests where that is plainer.
use Rattle.std.specs.Prelude.{◌≡◌, ℕ, nat_eq, List, [], ◌∷◌, Some, None, is_some, slice_get, IsTrue, IsFalse}
use Rattle.std.specs.List.{AllByRecursion, IsDistinct}
use Rattle.std.specs.Map.{keys_of}
use Rattle.pat_words_spec.specs.Patterns.{Covers}
use Rattle.pat_type_system_spec.specs.Programs.{TagDecl, Function, Clause, Core, Call, Send, Guard, Program, function_at, is_among, clause_binders}
use Rattle.pat_type_system_spec.specs.Types.{MailboxType}
use Rattle.pat_type_system_spec.specs.Typings.{param_type, result_type, payload_type, mailbox_args, HasMailboxPayload, is_received, HasWord, TypeHasWord}
use Rattle.pat_type_schemes_spec.specs.Values.{Scope, pattern_of, filled}
use Rattle.pat_type_schemes_spec.specs.Certificates.{Cert, Inclusion, is_trivial, is_shown}
use Rattle.pat_type_schemes_spec.specs.NodeTypes.{result_under}
use Rattle.pat_derivation_spec.specs.Derivations.{Line, Derivation, line_at, scope_of, written_typing}
use Rattle.pat_derivation_spec.specs.Conditions.{Place, is_first}
use Rattle.pat_derivation_spec.specs.Rules.{tag_of_kind}

-- Empty isn't broken: each sending pattern of the line, and of the signature at a function's first node, has a word
pub record HasWords (p : Program) (d : Derivation) (h : Place) : Type 0 where
  pub result : TypeHasWord (result_under (pattern_of (scope_of p d)) h.line.of.result)
  pub env : AllByRecursion (λ e. HasWord e.1.polarity (filled (scope_of p d) e.1.pattern)) h.line.of.needs
  pub params :
      IsTrue (is_first h)
      → (k : ℕ) (a : MailboxType)
      → param_type (written_typing p d) h.node.function h.function k ≡ Some a
      → HasWord a.polarity (filled (scope_of p d) a.pattern)
  pub gives :
      IsTrue (is_first h)
      → TypeHasWord (result_under (pattern_of (scope_of p d)) (result_type (written_typing p d) h.node.function h.function))

-- Alias isn't broken: the mailbox variables of a call are different, and those of a send with its target
abbrev pub HasNoAlias : Program → Derivation → Place → Core → Type 0
HasNoAlias p d h (Call f args) =
    (g : Function) → function_at p f ≡ Some g → IsDistinct nat_eq (mailbox_args (param_type (written_typing p d) f g) 0 args)
HasNoAlias p d h (Send x m args) =
    (decl : TagDecl)
    → tag_of_kind p m (slice_get h.function.vars x) ≡ Some decl
    → IsDistinct nat_eq (x ∷ mailbox_args (payload_type decl) 0 args)
HasNoAlias p d h _ = Unit {0}

-- beside a mailbox payload the body of the clause names the clause's own names alone
abbrev pub KeepsApart : Program → Derivation → Place → ℕ → Clause → Type 0
KeepsApart p d h x r =
    (decl : TagDecl) (l : Line)
    → tag_of_kind p r.tag (slice_get h.function.vars x) ≡ Some decl
    → HasMailboxPayload decl
    → line_at d r.body ≡ Some l
    → AllByRecursion (λ z. IsTrue (is_among z (clause_binders r))) (keys_of l.of.needs)

-- Payload isn't broken
abbrev pub PayloadsStandApart : Program → Derivation → Place → Core → Type 0
PayloadsStandApart p d h (Guard x e free rs) = AllByRecursion (KeepsApart p d h x) rs
PayloadsStandApart p d h _ = Unit {0}

-- whatever a guard's pattern lets in, one of its clauses takes: a message that a receive clause names, or the free clause where nothing is left
abbrev pub GuardCovers : Core → Type 0
GuardCovers (Guard x e free rs) = Covers e (is_received rs) (is_some free)
GuardCovers _ = Unit {0}

-- one pass over the needed inclusions uses up the certificates: a trivial inclusion passes by, any other is shown by the one in front
pub data AreTaken (s : Scope) : List Inclusion → List Cert → Type 0 where
  all_taken : AreTaken s [] []
  takes_none : {q : Inclusion} {qs : List Inclusion} {certs : List Cert} → IsTrue (is_trivial s q.left q.right) → IsTrue (is_shown s q None) → AreTaken s qs certs → AreTaken s (q ∷ qs) certs
  takes_next : {q : Inclusion} {qs : List Inclusion} {cert : Cert} {certs : List Cert} → IsFalse (is_trivial s q.left q.right) → IsTrue (is_shown s q (Some cert)) → AreTaken s qs certs → AreTaken s (q ∷ qs) (cert ∷ certs)

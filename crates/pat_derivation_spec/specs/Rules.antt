-- The eight rules, each as a test of a node that is there and has a line.
use Rattle.std.specs.Prelude.{ℕ, suc, Bool, true, false, not, ◌&&◌, ◌||◌, nat_eq, nat_le, List, [], ◌∷◌, length, Option, Some, None, is_some, slice_get}
use Rattle.std.specs.List.{list_all, list_any, flat_map}
use Rattle.std.specs.Map.{keys_of}
use Rattle.pat_words_spec.specs.Patterns.{Pat, covers, is_inhabited, subst_of}
use Rattle.pat_type_system_spec.specs.Values.{BaseUnit, Kind, MailboxOf, Expr}
use Rattle.pat_type_system_spec.specs.Programs.{Polarity, Sending, Receiving, TagDecl, Sort, Function, Clause, Core, Let, Call, If, Send, Spawn, Guard, Program, function_at, tag_at, is_among, clause_binders}
use Rattle.pat_type_system_spec.specs.Types.{MailboxType, TypeOf, BaseTerm, MailboxTerm, kind_of_type}
use Rattle.pat_type_system_spec.specs.Typings.{Typing, param_type, result_type, payload_sort, payload_type, mailbox_args, is_received}
use Rattle.pat_type_schemes_spec.specs.Values.{Scope, pattern_of, is_formed, values_fit}
use Rattle.pat_type_schemes_spec.specs.Certificates.{Inclusion, are_shown}
use Rattle.pat_derivation_spec.specs.Same.{is_same_kind, is_mailbox_of, is_same_type, all_differ}
use Rattle.pat_type_schemes_spec.specs.Signatures.{signature_vars}
use Rattle.pat_derivation_spec.specs.Derivations.{Line, Derivation, line_at, ascends_from, scope_of, written_typing}
use Rattle.pat_derivation_spec.specs.Scopes.{is_in_scope, kind_at}
use Rattle.pat_derivation_spec.specs.Demands.{is_used_well, is_dropped_well, inclusions_of}
use Rattle.pat_derivation_spec.specs.Conditions.{Place, is_first, demands}

-- ---- Shape

-- the type's pattern is one of its interface
abbrev pub type_is_formed : Scope → TypeOf → Bool
type_is_formed s (BaseTerm b) = true
type_is_formed s (MailboxTerm i q e) = is_formed s i e

-- the variable is in scope and names a mailbox of the type's interface, and its pattern is one of that interface
abbrev pub is_named_well : Program → Derivation → ℕ → ℕ × MailboxType → Bool
is_named_well p d n e =
    is_in_scope p n e.0
    && (is_mailbox_of e.1.interface (kind_at p n e.0) && is_formed (scope_of p d) e.1.interface e.1.pattern)

-- the part has this type, or no line
abbrev pub gives : TypeOf → Option Line → Bool
gives t None = true
gives t (Some l) = is_same_type l.of.result t

-- the part, if there is one, has this type, or no line
abbrev pub gives_too : Derivation → TypeOf → Option ℕ → Bool
gives_too d t None = true
gives_too d t (Some m) = gives t (line_at d m)

-- the parts whose result is the term's have its type, and the body of a spawn has that of ()
abbrev pub tails_agree : Derivation → TypeOf → Core → Bool
tails_agree d t (Let x m n) = gives t (line_at d n)
tails_agree d t (If e m n) = gives t (line_at d m) && gives t (line_at d n)
tails_agree d t (Spawn m) = gives (BaseTerm BaseUnit) (line_at d m)
tails_agree d t (Guard x e free rs) = gives_too d t free && list_all (λ r. gives t (line_at d r.body)) rs
tails_agree d t _ = true

-- the first node of a function has its result type
abbrev pub first_agrees : Program → Derivation → Place → Bool
first_agrees p d h =
    not (is_first h) || is_same_type h.line.of.result (result_type (written_typing p d) h.node.function h.function)

-- each variable of a signature has a value, and each variable's value is one that it may have
abbrev pub has_values : Program → Derivation → Bool
has_values p d = nat_le (length (signature_vars p)) (length d.vars) && values_fit (scope_of p d)

-- at the first node of all, the variables have values
abbrev pub starts_well : Program → Derivation → ℕ → Bool
starts_well p d n = not (nat_eq n 0) || has_values p d

-- the line is one for this node
abbrev pub has_shape : Program → Derivation → Place → Bool
has_shape p d h =
    is_same_kind (kind_of_type h.line.of.result) h.node.kind
    && (ascends_from 0 h.line.of.needs
    && (list_all (is_named_well p d h.number) h.line.of.needs
    && (type_is_formed (scope_of p d) h.line.of.result
    && (tails_agree d h.line.of.result h.node.core
    && (first_agrees p d h
    && starts_well p d h.number)))))

-- ---- Empty

-- a sending pattern has a word
abbrev pub has_a_word : Scope → Polarity → Pat → Bool
has_a_word s Sending e = is_inhabited (subst_of (pattern_of s) e)
has_a_word s Receiving e = true

abbrev pub type_has_word : Scope → TypeOf → Bool
type_has_word s (BaseTerm b) = true
type_has_word s (MailboxTerm i q e) = has_a_word s q e

abbrev pub param_has_word : Scope → Option MailboxType → Bool
param_has_word s None = true
param_has_word s (Some a) = has_a_word s a.polarity a.pattern

-- each parameter from place k on has a word
abbrev pub params_have_words : Scope → (ℕ → Option MailboxType) → ℕ → List Sort → Bool
params_have_words s types k [] = true
params_have_words s types k (a ∷ more) = param_has_word s (types k) && params_have_words s types (suc k) more

-- so have the sending patterns of the signature
abbrev pub signature_has_words : Program → Derivation → Place → Bool
signature_has_words p d h =
    params_have_words (scope_of p d) (param_type (written_typing p d) h.node.function h.function) 0 h.function.params
    && type_has_word (scope_of p d) (result_type (written_typing p d) h.node.function h.function)

-- each sending pattern of the line, and at the first node of a function of its signature, has a word
abbrev pub has_words : Program → Derivation → Place → Bool
has_words p d h =
    type_has_word (scope_of p d) h.line.of.result
    && (list_all (λ e. has_a_word (scope_of p d) e.1.polarity e.1.pattern) h.line.of.needs
    && (not (is_first h) || signature_has_words p d h))

-- ---- Alias

abbrev pub args_differ : Typing → ℕ → List Expr → Option Function → Bool
args_differ y f args None = true
args_differ y f args (Some g) = all_differ (mailbox_args (param_type y f g) 0 args)

abbrev pub payloads_differ : ℕ → List Expr → Option TagDecl → Bool
payloads_differ x args None = true
payloads_differ x args (Some decl) = all_differ (x ∷ mailbox_args (payload_type decl) 0 args)

-- the tag of a mailbox of this kind
abbrev pub tag_of_kind : Program → ℕ → Option Kind → Option TagDecl
tag_of_kind p m (Some (MailboxOf i)) = tag_at p i m
tag_of_kind p m _ = None

-- the mailbox variables of a call are different, and so are those of a send with its target
abbrev pub has_no_alias : Program → Derivation → Place → Bool
has_no_alias p d h = core_has_no_alias h.node.core
  where
    core_has_no_alias : Core → Bool
    core_has_no_alias (Call f args) = args_differ (written_typing p d) f args (function_at p f)
    core_has_no_alias (Send x m args) = payloads_differ x args (tag_of_kind p m (slice_get h.function.vars x))
    core_has_no_alias _ = true

-- ---- Use and Drop

-- what is used is there, and is used as it may be
abbrev pub uses_well : Program → Derivation → Place → Bool
uses_well p d h = list_all is_used_well (demands p d h)

-- what is not passed on may be dropped
abbrev pub drops_well : Program → Derivation → Place → Bool
drops_well p d h = list_all (is_dropped_well (scope_of p d)) (demands p d h)

-- ---- Payload

-- a payload is a mailbox
abbrev pub has_mailbox_payload : Option TagDecl → Bool
has_mailbox_payload None = false
has_mailbox_payload (Some decl) = list_any (λ a. is_some (payload_sort a)) decl.payloads

-- the line, if there is one, names none but these
abbrev pub names_only : List ℕ → Option Line → Bool
names_only xs None = true
names_only xs (Some l) = list_all (λ x. is_among x xs) (keys_of l.of.needs)

-- beside a mailbox payload the body uses the clause's own names alone
abbrev pub clause_keeps_apart : Program → Derivation → Option Kind → Clause → Bool
clause_keeps_apart p d k r =
    not (has_mailbox_payload (tag_of_kind p r.tag k)) || names_only (clause_binders r) (line_at d r.body)

abbrev pub payloads_stand_apart : Program → Derivation → Place → Bool
payloads_stand_apart p d h = core_keeps h.node.core
  where
    core_keeps : Core → Bool
    core_keeps (Guard x e free rs) = list_all (clause_keeps_apart p d (slice_get h.function.vars x)) rs
    core_keeps _ = true

-- ---- Covers

-- the clauses of a guard cover its pattern
abbrev pub guard_covers : Place → Bool
guard_covers h = core_covers h.node.core
  where
    core_covers : Core → Bool
    core_covers (Guard x e free rs) = covers e (is_received rs) (is_some free)
    core_covers _ = true

-- ---- Cert

-- the inclusions that the node needs, in order
abbrev pub needed : Program → Derivation → Place → List Inclusion
needed p d h = flat_map inclusions_of (demands p d h)

-- each is shown, and no certificate is left over
abbrev pub certs_show : Program → Derivation → Place → Bool
certs_show p d h = are_shown (scope_of p d) (needed p d h) h.line.certs

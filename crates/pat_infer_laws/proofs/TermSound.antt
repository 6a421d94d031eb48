-- Terms without parts, under a typing: no rule is broken, what the typing has passes to what is needed, and the constraints hold.
use Rattle.std.proofs.Common.{◌≡◌, ℕ, suc, true, false, not, nat_eq, if◌then◌else◌, List, [], ◌∷◌, Option, Some, None, refl, sym, ap, ◌∙◌, subst}
use Rattle.std.specs.Prelude.{slice_get}
use Rattle.std.specs.List.{AllByRecursion, IsDistinct}
use Rattle.std.proofs.lemmas.Bool.{or_from}
use Rattle.pat_words_spec.specs.Patterns.{Pat, Tag}
use Rattle.pat_semantics_spec.specs.Values.{MailboxOf, Expr, VarExpr, Literal, OpExpr}
use Rattle.pat_semantics_spec.specs.Programs.{Sending, Receiving, TagDecl, Call, Node, Program, node_at, function_at, tag_at, is_among, KindAt}
use Rattle.pat_semantics_spec.specs.WellFormed.{WellFormed}
use Rattle.pat_semantics_laws.proofs.Lists.{distinct_parts}
use Rattle.pat_type_system_spec.specs.Types.{Second, Returnable, MailboxType, mailbox_type, TypeOf, BaseTerm, MailboxTerm, Fits, TypeFits, PassesTo, TypeEnv, EnvPasses, no_types, with_type}
use Rattle.pat_type_system_spec.specs.Typings.{Typing, with_option, args_need, if_mailbox, mailbox_args, param_type, result_type, payload_type, ValueTyped, NewTyped, CoreTyped}
use Rattle.pat_type_system_spec.specs.Holdings.{declared_types}
use Rattle.pat_type_system_laws.proofs.Passing.{passes_twice, type_twice}
use Rattle.pat_type_schemes_spec.specs.NodeTypes.{type_under, need_under, result_under, Needs, need_of}
use Rattle.pat_type_schemes_spec.specs.Signatures.{open_param, open_result}
use Rattle.pat_infer_spec.specs.Constraints.{AtNode, AliasRule, PolarityRule, unless, Found, nothing_found}
use Rattle.pat_infer_spec.specs.Needs.{args_needs}
use Rattle.pat_infer_spec.specs.Walk.{var_interface, kinds_of, interface_of, has_twice, only_needs, value_needs, new_found, result_agrees, result_constraints, call_found, send_found}
use Rattle.pat_infer_laws.proofs.Lookups.{eq_turn, need_put, need_args}
use Rattle.pat_infer_laws.proofs.Gathering.{unless_none, nil_join}
use Rattle.pat_infer_laws.proofs.BothLaws.{Holds}
use Rattle.pat_infer_laws.proofs.SignatureLaws.{SignaturesAgree, payload_same}

-- what is needed, as an environment
abbrev pub env_at : (ℕ → Pat) → Needs → TypeEnv
env_at s needs x = need_under s (need_of needs x)

-- no rule is broken, the environment passes to what is needed, and the constraints hold
pub record Sound (s : ℕ → Pat) (env : TypeEnv) (r : Found) : Type 0 where
  pub clean : r.findings ≡ []
  pub passes : EnvPasses env (env_at s r.needs)
  pub holds : AllByRecursion (Holds s) r.constraints

-- ---- expressions

pub value_sound : (s : ℕ → Pat) (g : TypeEnv) (t : TypeOf) (e : Expr) (asked : TypeOf) → ValueTyped t e g → TypeFits t (result_under s asked) → Sound s g (only_needs (value_needs asked e))
value_sound s g (BaseTerm b) e (BaseTerm c) h fit = record { clean = refl; passes = h; holds = tt }
value_sound s g (BaseTerm b) e (MailboxTerm j r f) h fit = absurd fit
value_sound s g (MailboxTerm i q e) x (BaseTerm c) h fit = absurd fit
value_sound s g (MailboxTerm i q e) (Literal c) (MailboxTerm j r f) h fit = absurd h
value_sound s g (MailboxTerm i q e) (OpExpr op a b) (MailboxTerm j r f) h fit = absurd h
value_sound s g (MailboxTerm i q e) (VarExpr x) (MailboxTerm j r f) h fit = record {
  clean = refl;
  passes = λ z.
      let own : MailboxType = mailbox_type i q e Returnable in
      let asked : MailboxType = mailbox_type j r f Returnable in
      subst (λ b. PassesTo (g z) (need_under s (if b then Some asked else None))) (eq_turn x z)
      ((elim (nat_eq x z) as (λ b. PassesTo (g z) (if b then Some own else None) → PassesTo (g z) (need_under s (if b then Some asked else None))) [
        | true ↦ λ k. passes_twice (g z) (Some own) (Some (type_under s asked)) k fit
        | false ↦ λ k. k
      ]) (h z));
  holds = tt;
}

pub nothing_sound : (s : ℕ → Pat) (g : TypeEnv) → EnvPasses g no_types → Sound s g nothing_found
nothing_sound s g h = record { clean = refl; passes = h; holds = tt }

pub new_sound : (s : ℕ → Pat) (g : TypeEnv) (n i : ℕ) (t asked : TypeOf) → NewTyped i t → EnvPasses g no_types → TypeFits t (result_under s asked) → Sound s g (new_found n i asked)
new_sound s g n i (BaseTerm b) asked new h fit = absurd new
new_sound s g n i (MailboxTerm j Sending e) asked new h fit = absurd new
new_sound s g n i (MailboxTerm j Receiving e) (BaseTerm c) new h fit = absurd fit
new_sound s g n i (MailboxTerm j Receiving e) (MailboxTerm l Sending f) new h fit = let c = fit.polarity in cc
new_sound s g n i (MailboxTerm j Receiving e) (MailboxTerm l Receiving f) new h fit =
    record { clean = refl; passes = h; holds = (λ w k. fit.pattern w (new.1 w k), tt) }

-- ---- arguments

-- a name under one of two types
pub option_under : (s : ℕ → Pat) (x : ℕ) (o o' : Option MailboxType) (g g' : TypeEnv) (z : ℕ) → need_under s o ≡ o' → need_under s (g z) ≡ g' z → need_under s (with_option x o g z) ≡ with_option x o' g' z
option_under s x None None g g' z e h = h
option_under s x None (Some b) g g' z e h = cc
option_under s x (Some a) None g g' z e h = cc
option_under s x (Some a) (Some b) g g' z e h =
    elim (nat_eq x z) as (λ t. need_under s (if t then Some a else g z) ≡ (if t then Some b else g' z)) [ true ↦ e | false ↦ h ]

pub args_under : (s : ℕ → Pat) (types types' : TypeEnv) → ((k : ℕ) → need_under s (types k) ≡ types' k) → (k : ℕ) (es : List Expr) (z : ℕ) → need_under s (args_need types k es z) ≡ args_need types' k es z
args_under s types types' same k [] z = refl
args_under s types types' same k (VarExpr x ∷ es) z =
    option_under s x (types k) (types' k) (args_need types (suc k) es) (args_need types' (suc k) es) z (same k) (args_under s types types' same (suc k) es z)
args_under s types types' same k (Literal c ∷ es) z = args_under s types types' same (suc k) es z
args_under s types types' same k (OpExpr op a b ∷ es) z = args_under s types types' same (suc k) es z

pub mailboxes_under : (s : ℕ → Pat) (types types' : TypeEnv) → ((k : ℕ) → need_under s (types k) ≡ types' k) → (k : ℕ) (es : List Expr) → mailbox_args types k es ≡ mailbox_args types' k es
mailboxes_under s types types' same k [] = refl
mailboxes_under s types types' same k (VarExpr x ∷ es) = go (types k) (types' k) (same k) (mailboxes_under s types types' same (suc k) es)
  where
    go : (o o' : Option MailboxType) → need_under s o ≡ o' → mailbox_args types (suc k) es ≡ mailbox_args types' (suc k) es → if_mailbox o x (mailbox_args types (suc k) es) ≡ if_mailbox o' x (mailbox_args types' (suc k) es)
    go None None e h = h
    go None (Some b) e h = cc
    go (Some a) None e h = cc
    go (Some a) (Some b) e h = ap (λ l. x ∷ l) h
mailboxes_under s types types' same k (Literal c ∷ es) = mailboxes_under s types types' same (suc k) es
mailboxes_under s types types' same k (OpExpr op a b ∷ es) = mailboxes_under s types types' same (suc k) es

apart_among : (x : ℕ) (xs : List ℕ) → AllByRecursion (λ k. nat_eq x k ≡ false) xs → is_among x xs ≡ false
apart_among x [] h = refl
apart_among x (z ∷ xs) h = or_from (nat_eq x z) (is_among x xs) h.0 (apart_among x xs h.1)

-- different numbers stand once
pub distinct_once : (xs : List ℕ) → IsDistinct nat_eq xs → has_twice xs ≡ false
distinct_once [] d = refl
distinct_once (x ∷ xs) d =
    let q = distinct_parts x xs d in or_from (is_among x xs) (has_twice xs) (apart_among x xs q.0) (distinct_once xs q.1)

-- ---- calls

result_fine : (s : ℕ → Pat) (n : ℕ) (a b : TypeOf) → TypeFits (result_under s a) (result_under s b) → (result_agrees a b ≡ true) × AllByRecursion (Holds s) (result_constraints n a b)
result_fine s n (BaseTerm b) (BaseTerm c) h = (refl, tt)
result_fine s n (BaseTerm b) (MailboxTerm j r f) h = absurd h
result_fine s n (MailboxTerm i q e) (BaseTerm c) h = absurd h
result_fine s n (MailboxTerm i Sending e) (MailboxTerm j Sending f) h = (refl, (h.pattern, tt))
result_fine s n (MailboxTerm i Receiving e) (MailboxTerm j Receiving f) h = (refl, (h.pattern, tt))
result_fine s n (MailboxTerm i Sending e) (MailboxTerm j Receiving f) h = let c = h.polarity in cc
result_fine s n (MailboxTerm i Receiving e) (MailboxTerm j Sending f) h = let c = h.polarity in cc

pub call_sound : (p : Program) (y : Typing) (s : ℕ → Pat) → SignaturesAgree p y s → (g : TypeEnv) (t : TypeOf) (n : ℕ) (asked : TypeOf) (f : ℕ) (args : List Expr) → CoreTyped p y g t (Call f args) → TypeFits t (result_under s asked) → Sound s g (call_found p n asked f args (function_at p f))
call_sound p y s agree g t n asked f args (c, at, distinct, passes, result) fit =
    let types : TypeEnv = open_param p f c in
    let own : TypeEnv = param_type y f c in
    let same : (k : ℕ) → need_under s (types k) ≡ own k = agree.params f c at in
    let once : has_twice (mailbox_args types 0 args) ≡ false = ap has_twice (mailboxes_under s types own same 0 args) ∙ distinct_once (mailbox_args own 0 args) distinct in
    let fine = result_fine s n (open_result p f c) asked
    (subst (λ r. TypeFits r (result_under s asked)) (sym (agree.results f c at)) (type_twice (result_type y f c) t (result_under s asked) result fit)) in
    subst (λ o. Sound s g (call_found p n asked f args o)) (sym at)
    (let found : Found = call_found p n asked f args (Some c) in
    let sound : Sound s g found = record {
      clean = nil_join (unless (not (has_twice (mailbox_args types 0 args))) AliasRule (AtNode n)) (unless (result_agrees (open_result p f c) asked) PolarityRule (AtNode n))
          (unless_none (not (has_twice (mailbox_args types 0 args))) AliasRule (AtNode n) (ap not once))
          (unless_none (result_agrees (open_result p f c) asked) PolarityRule (AtNode n) fine.0);
      passes = λ z. subst (λ o. PassesTo (g z) o) (sym (ap (need_under s) (need_args types 0 args z) ∙ args_under s types own same 0 args z)) (passes z);
      holds = fine.1;
    } in sound)

-- ---- sends

-- what passes to a need is there, and fits it
pub some_at : (o : Option MailboxType) (b : MailboxType) → PassesTo o (Some b) → (a : MailboxType) × (o ≡ Some a) × Fits a b
some_at None b h = absurd h
some_at (Some a) b h = (a, refl, h)

-- the interface of a variable by its kind
pub face_of : (p : Program) (n : ℕ) (d : Node) (x i : ℕ) → node_at p n ≡ Some d → KindAt p n x (MailboxOf i) → var_interface p d.function x ≡ i
face_of p n d x i at (e, f, there, of, kind) =
    let same : e ≡ d = cc in
    ap (λ (w : Node). var_interface p w.function x) (sym same)
    ∙ ap (λ o. interface_of (slice_get (kinds_of o) x)) of
    ∙ ap interface_of kind

pub send_sound : (p : Program) → WellFormed p → (s : ℕ → Pat) (g : TypeEnv) (n i x m : ℕ) (args : List Expr) (decl : TagDecl) → tag_at p i m ≡ Some decl → IsDistinct nat_eq (x ∷ mailbox_args (payload_type decl) 0 args) → EnvPasses g (with_type x (mailbox_type i Sending (Tag m) Second) (args_need (payload_type decl) 0 args)) → Sound s g (send_found n (declared_types (tag_at p i m)) i x m args)
send_sound p wf s g n i x m args decl at distinct passes =
    let types : TypeEnv = payload_type decl in
    let target : MailboxType = mailbox_type i Sending (Tag m) Second in
    subst (λ o. Sound s g (send_found n (declared_types o) i x m args)) (sym at)
    (let sound : Sound s g (send_found n types i x m args) = record {
      clean = unless_none (not (has_twice (x ∷ mailbox_args types 0 args))) AliasRule (AtNode n) (ap not (distinct_once (x ∷ mailbox_args types 0 args) distinct));
      passes = λ z.
          subst (λ o. PassesTo (g z) o)
          (sym (ap (need_under s) (need_put x target (args_needs types 0 args) z)
          ∙ (elim (nat_eq x z) as (λ b. need_under s (if b then Some target else need_of (args_needs types 0 args) z) ≡ (if b then Some target else args_need types 0 args z)) [
            | true ↦ refl
            | false ↦ ap (need_under s) (need_args types 0 args z) ∙ args_under s types types (payload_same p s wf i m decl at) 0 args z
          ])))
          (passes z);
      holds = tt;
    } in sound)

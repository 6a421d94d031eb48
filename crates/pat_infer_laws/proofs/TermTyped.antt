-- Terms without parts: what is found of them types them.
use Rattle.std.proofs.Common.{◌≡◌, ℕ, suc, ◌+◌, true, false, not, ◌||◌, nat_eq, if◌then◌else◌, List, [], ◌∷◌, map, Option, Some, None, refl, sym, ap, ◌∙◌, subst, arith, ◌⊎◌, inl, inr, ⊎_elim}
use Rattle.std.specs.Prelude.{unwrap_or, slice_get, option_and_then}
use Rattle.std.specs.List.{AllByRecursion, IsDistinct, list_any}
use Rattle.std.proofs.lemmas.Bool.{or_parts, or_left, or_right, eq-eqb, eqb-true}
use Rattle.pat_words_spec.specs.Words.{one}
use Rattle.pat_words_spec.specs.Patterns.{Pat, Tag, Var}
use Rattle.pat_semantics_spec.specs.Values.{BaseInt, BaseBool, BaseText, Add, Sub, Mul, Equal, Less, Kind, Plain, MailboxOf, Op, Expr, VarExpr, Literal, OpExpr, occurs, base_of}
use Rattle.pat_semantics_spec.specs.Programs.{Sending, Receiving, Sort, BaseSort, MailboxSort, TagDecl, Function, Val, Call, Print, New, Send, Node, Program, node_at, function_at, tag_at, kind_of, is_among}
use Rattle.pat_semantics_spec.specs.WellFormed.{WellFormed, CoreKinds, HaveKinds, IsPayload, op_kind, expr_kind}
use Rattle.pat_semantics_laws.proofs.Lists.{nil_parts, not_true, distinct_join, no_distinct, apart_uncounted, all_at}
use Rattle.pat_type_system_spec.specs.Types.{Second, Returnable, MailboxType, mailbox_type, TypeOf, BaseTerm, MailboxTerm, kind_of_type, TypeFits, TypeEnv, no_types, with_type}
use Rattle.pat_type_system_spec.specs.Typings.{param_usage, Typing, HasWord, TypeHasWord, args_need, mailbox_args, param_type, result_type, payload_sort, payload_type, sort_type, result_of}
use Rattle.pat_type_system_spec.specs.Holdings.{declared_types}
use Rattle.pat_inclusion_spec.specs.Values.{replaced}
use Rattle.pat_type_schemes_spec.specs.NodeTypes.{type_under, need_under, result_under, Needs, need_of}
use Rattle.pat_type_schemes_spec.specs.Signatures.{number_at, result_number, first_number, open_param, open_result}
use Rattle.pat_infer_spec.specs.Constraints.{AtNode, AliasRule, PolarityRule, unless, nothing_found}
use Rattle.pat_infer_spec.specs.Needs.{put, put_option, args_needs}
use Rattle.pat_infer_spec.specs.Walk.{var_interface, has_twice, only_needs, value_needs, new_found, result_agrees, result_constraints, call_found, send_found}
use Rattle.pat_infer_laws.proofs.Lookups.{eq_turn, need_put, need_args}
use Rattle.pat_infer_laws.proofs.Gathering.{none_unless}
use Rattle.pat_infer_laws.proofs.BothLaws.{Holds}
use Rattle.pat_infer_laws.proofs.SignatureLaws.{SignaturesAgree, payload_same, declared_payloads}
use Rattle.pat_infer_laws.proofs.TermSound.{env_at, args_under, mailboxes_under, face_of}
use Rattle.pat_infer_laws.proofs.Facts.{HasWordUnder, NeedFits, Allowed, CoreFound, env_same, free_here, here_kind}

-- ---- expressions

-- an operator gives a base type
pub op_plain : (op : Op) (a b : Option Kind) (i : ℕ) → op_kind op a b ≡ Some (MailboxOf i) → ⊥
op_plain Add (Some (Plain BaseInt)) (Some (Plain BaseInt)) i h = cc
op_plain Sub (Some (Plain BaseInt)) (Some (Plain BaseInt)) i h = cc
op_plain Mul (Some (Plain BaseInt)) (Some (Plain BaseInt)) i h = cc
op_plain Equal (Some (Plain BaseInt)) (Some (Plain BaseInt)) i h = cc
op_plain Equal (Some (Plain BaseBool)) (Some (Plain BaseBool)) i h = cc
op_plain Equal (Some (Plain BaseText)) (Some (Plain BaseText)) i h = cc
op_plain Less (Some (Plain BaseInt)) (Some (Plain BaseInt)) i h = cc
op_plain _ _ _ i h = cc

-- the need of one variable
pub need_one : (x : ℕ) (a : MailboxType) (z : ℕ) (b : MailboxType) → need_of ((x, a) ∷ []) z ≡ Some b → (z ≡ x) × (a ≡ b)
need_one x a z b h =
    (elim (nat_eq z x) as (λ t. nat_eq z x ≡ t → (if t then Some a else None) ≡ Some b → (z ≡ x) × (a ≡ b)) [
      | true ↦ λ q k. (eqb-true z x q, cc)
      | false ↦ λ q k. cc
    ]) refl h

pub value_typed : (p : Program) (wf : WellFormed p) (y : Typing) (s : ℕ → Pat) (n : ℕ) (d : Node) (at : node_at p n ≡ Some d) (e : Expr) → d.core ≡ Val e → (asked : TypeOf) → kind_of_type asked ≡ d.kind → TypeHasWord (result_under s asked) → CoreFound p y s n asked (Val e) (only_needs (value_needs asked e))
value_typed p wf y s n d at e is (BaseTerm b) kind word = record { term = λ z. tt; fits = λ z a h. cc; typed = tt }
value_typed p wf y s n d at e is (MailboxTerm i q f) kind word =
    go e is (subst (CoreKinds p (wf.nodes n d at).function.vars d.kind) is (wf.nodes n d at).kinds)
  where
    go : (e : Expr) → d.core ≡ Val e → expr_kind (wf.nodes n d at).function.vars e ≡ Some d.kind → CoreFound p y s n (MailboxTerm i q f) (Val e) (only_needs (value_needs (MailboxTerm i q f) e))
    go (VarExpr x) is k = record {
      term = env_same (env_at s ((x, mailbox_type i q f Returnable) ∷ [])) (with_type x (mailbox_type i q (replaced s f) Returnable) no_types)
          (λ z.
          (elim (nat_eq z x) as (λ b. need_under s (if b then Some (mailbox_type i q f Returnable) else None) ≡ (if b then Some (mailbox_type i q (replaced s f) Returnable) else None)) [ true ↦ refl | false ↦ refl ])
          ∙ ap (λ b. if b then Some (mailbox_type i q (replaced s f) Returnable) else None) (eq_turn z x));
      fits = λ z a h.
          let one = need_one x (mailbox_type i q f Returnable) z a h in
          let there : NeedFits p (HasWordUnder s) n x (mailbox_type i q f Returnable) = record {
            kind = here_kind p n x d at (MailboxOf i) (wf.nodes n d at) (k ∙ ap (λ j. Some j) (sym kind));
            word = word;
            free = free_here p wf x n d at (Val (VarExpr x)) is (eq-eqb x x refl);
          } in
          subst (λ w. NeedFits p (HasWordUnder s) n w a) (sym one.0) (subst (NeedFits p (HasWordUnder s) n x) one.1 there);
      typed = tt;
    }
    go (Literal c) is k = let clash : Some (Plain (base_of c)) ≡ Some (MailboxOf i) = k ∙ ap (λ j. Some j) (sym kind) in cc
    go (OpExpr op a b) is k =
        absurd (op_plain op (expr_kind (wf.nodes n d at).function.vars a) (expr_kind (wf.nodes n d at).function.vars b) i (k ∙ ap (λ j. Some j) (sym kind)))

pub print_typed : (p : Program) (y : Typing) (s : ℕ → Pat) (n : ℕ) (asked : TypeOf) (e : Expr) → CoreFound p y s n asked (Print e) nothing_found
print_typed p y s n asked e = record { term = λ z. tt; fits = λ z a h. cc; typed = tt }

pub new_typed : (p : Program) (wf : WellFormed p) (y : Typing) (s : ℕ → Pat) (n : ℕ) (d : Node) (at : node_at p n ≡ Some d) (i : ℕ) → d.core ≡ New i → (asked : TypeOf) → kind_of_type asked ≡ d.kind → Allowed y s (new_found n i asked) → CoreFound p y s n asked (New i) (new_found n i asked)
new_typed p wf y s n d at i is (BaseTerm b) kind allowed = let c = allowed.clean in cc
new_typed p wf y s n d at i is (MailboxTerm j Sending e) kind allowed = let c = allowed.clean in cc
new_typed p wf y s n d at i is (MailboxTerm j Receiving e) kind allowed =
    let kinds = subst (CoreKinds p (wf.nodes n d at).function.vars d.kind) is (wf.nodes n d at).kinds in
    let same : MailboxOf j ≡ MailboxOf i = kind ∙ kinds.0 in
    let face : i ≡ j = cc in
    record { term = ((face, allowed.holds.0), λ z. tt); fits = λ z a h. cc; typed = tt }

-- ---- arguments

-- a name that is put there or was there
pub put_cases : (x : ℕ) (o : Option MailboxType) (needs : Needs) (z : ℕ) (a : MailboxType) → need_of (put_option x o needs) z ≡ Some a → ((x ≡ z) × (o ≡ Some a)) ⊎ (need_of needs z ≡ Some a)
put_cases x None needs z a h = inr h
put_cases x (Some b) needs z a h =
    (elim (nat_eq x z) as (λ t. nat_eq x z ≡ t → (if t then Some b else need_of needs z) ≡ Some a → ((x ≡ z) × (Some b ≡ Some a)) ⊎ (need_of needs z ≡ Some a)) [
      | true ↦ λ q k. inl (eqb-true x z q, k)
      | false ↦ λ q k. inr k
    ]) refl (sym (need_put x b needs z) ∙ h)

-- what arguments need is what a place has; the variable occurs in them, and has the kind of the place
pub args_from : (vars : List Kind) (types : TypeEnv) (k : ℕ) (es : List Expr) (ss : List Sort) → HaveKinds vars es (map kind_of ss) → ((j : ℕ) (t : Sort) (b : MailboxType) → slice_get ss j ≡ Some t → types (k + j) ≡ Some b → kind_of t ≡ MailboxOf b.interface) → (z : ℕ) (a : MailboxType) → need_of (args_needs types k es) z ≡ Some a → ((j : ℕ) × (types j ≡ Some a)) × (list_any (occurs z) es ≡ true) × (slice_get vars z ≡ Some (MailboxOf a.interface))
args_from vars types k [] ss h kinds z a n = cc
args_from vars types k (e ∷ es) [] h kinds z a n = absurd h
args_from vars types k (VarExpr x ∷ es) (t ∷ ss) h kinds z a n =
    ⊎_elim
    (λ here.
    let place : k + 0 ≡ k = omega arith in
    let at = kinds 0 t a refl (ap types place ∙ here.1) in (
      (k, here.1),
      or_left (nat_eq z x) (list_any (occurs z) es) (eq-eqb z x (sym here.0)),
      ap (slice_get vars) (sym here.0) ∙ h.0 ∙ ap (λ w. Some w) at,
    ))
    (λ later.
    let q = args_from vars types (suc k) es ss h.1 (λ j u b e f. let next : k + suc j ≡ suc k + j = omega arith in kinds (suc j) u b e (ap types next ∙ f)) z a later in
    (q.0, or_right (nat_eq z x) (list_any (occurs z) es) q.1, q.2))
    (put_cases x (types k) (args_needs types (suc k) es) z a n)
args_from vars types k (Literal c ∷ es) (t ∷ ss) h kinds z a n =
    args_from vars types (suc k) es ss h.1 (λ j u b e f. let next : k + suc j ≡ suc k + j = omega arith in kinds (suc j) u b e (ap types next ∙ f)) z a n
args_from vars types k (OpExpr op b c ∷ es) (t ∷ ss) h kinds z a n =
    let q = args_from vars types (suc k) es ss h.1 (λ j u b e f. let next : k + suc j ≡ suc k + j = omega arith in kinds (suc j) u b e (ap types next ∙ f)) z a n in
    (q.0, or_right (occurs z b || occurs z c) (list_any (occurs z) es) q.1, q.2)

-- numbers that stand once are different
pub once_distinct : (xs : List ℕ) → has_twice xs ≡ false → IsDistinct nat_eq xs
once_distinct [] h = no_distinct
once_distinct (x ∷ xs) h =
    let q = or_parts (is_among x xs) (has_twice xs) h in
    distinct_join x xs (apart_uncounted x xs q.0) (once_distinct xs q.1)

-- ---- calls

agreed_fits : (s : ℕ → Pat) (n : ℕ) (a b : TypeOf) → kind_of_type a ≡ kind_of_type b → result_agrees a b ≡ true → AllByRecursion (Holds s) (result_constraints n a b) → TypeFits (result_under s a) (result_under s b)
agreed_fits s n (BaseTerm b) (BaseTerm c) k agree h = cc
agreed_fits s n (BaseTerm b) (MailboxTerm j r f) k agree h = cc
agreed_fits s n (MailboxTerm i q e) (BaseTerm c) k agree h = cc
agreed_fits s n (MailboxTerm i Sending e) (MailboxTerm j Sending f) k agree h = let face : i ≡ j = cc in record { interface = face; polarity = refl; usage = tt; pattern = h.0 }
agreed_fits s n (MailboxTerm i Receiving e) (MailboxTerm j Receiving f) k agree h = let face : i ≡ j = cc in record { interface = face; polarity = refl; usage = tt; pattern = h.0 }
agreed_fits s n (MailboxTerm i Sending e) (MailboxTerm j Receiving f) k agree h = cc
agreed_fits s n (MailboxTerm i Receiving e) (MailboxTerm j Sending f) k agree h = cc

-- the sending types of signatures have words
pub record SignatureWords (p : Program) (y : Typing) : Type 0 where
  pub params : (f : ℕ) (g : Function) → function_at p f ≡ Some g → (k : ℕ) (a : MailboxType) → param_type y f g k ≡ Some a → HasWord a.polarity a.pattern
  pub results : (f : ℕ) (g : Function) → function_at p f ≡ Some g → TypeHasWord (result_type y f g)

pub sort_kind : (e : Pat) (t : Sort) (b : MailboxType) → sort_type e t ≡ Some b → kind_of t ≡ MailboxOf b.interface
sort_kind e (BaseSort c) b h = cc
sort_kind e (MailboxSort i q f) b h = let face : i ≡ b.interface = face_in h in ap MailboxOf face
  where
    face_in : sort_type e (MailboxSort i q f) ≡ Some b → i ≡ b.interface
    face_in h = let same : mailbox_type i q (unwrap_or f e) (param_usage q) ≡ b = cc in ap (λ (w : MailboxType). w.interface) same

pub result_kind : (e : Pat) (t : Sort) → kind_of_type (result_of e t) ≡ kind_of t
result_kind e (BaseSort b) = refl
result_kind e (MailboxSort i q f) = refl

pub call_typed : (p : Program) (wf : WellFormed p) (y : Typing) (s : ℕ → Pat) → SignaturesAgree p y s → SignatureWords p y → (n : ℕ) (d : Node) (at : node_at p n ≡ Some d) (f : ℕ) (args : List Expr) → d.core ≡ Call f args → (asked : TypeOf) → kind_of_type asked ≡ d.kind → Allowed y s (call_found p n asked f args (function_at p f)) → CoreFound p y s n asked (Call f args) (call_found p n asked f args (function_at p f))
call_typed p wf y s agree words n d at f args is asked kind allowed =
    let kinds = subst (CoreKinds p (wf.nodes n d at).function.vars d.kind) is (wf.nodes n d at).kinds in
    let g : Function = kinds.0 in
    let types : TypeEnv = open_param p f g in
    let own : TypeEnv = param_type y f g in
    let same : (k : ℕ) → need_under s (types k) ≡ own k = agree.params f g kinds.1 in
    let there : Allowed y s (call_found p n asked f args (Some g)) = subst (λ o. Allowed y s (call_found p n asked f args o)) kinds.1 allowed in
    let rules = nil_parts (unless (not (has_twice (mailbox_args types 0 args))) AliasRule (AtNode n)) (unless (result_agrees (open_result p f g) asked) PolarityRule (AtNode n)) there.clean in
    let once : has_twice (mailbox_args types 0 args) ≡ false = not_true (has_twice (mailbox_args types 0 args)) (none_unless (not (has_twice (mailbox_args types 0 args))) AliasRule (AtNode n) rules.0) in
    let agreed = none_unless (result_agrees (open_result p f g) asked) PolarityRule (AtNode n) rules.1 in
    let fit = agreed_fits s n (open_result p f g) asked (result_kind (Var (result_number (first_number p f) g)) g.result ∙ kinds.3 ∙ sym kind) agreed there.holds in
    subst (λ o. CoreFound p y s n asked (Call f args) (call_found p n asked f args o)) (sym kinds.1)
    (let found : CoreFound p y s n asked (Call f args) (call_found p n asked f args (Some g)) = record {
      term = (
        g,
        kinds.1,
        subst (IsDistinct nat_eq) (mailboxes_under s types own same 0 args) (once_distinct (mailbox_args types 0 args) once),
        env_same (env_at s (args_needs types 0 args)) (args_need own 0 args) (λ z. ap (need_under s) (need_args types 0 args z) ∙ args_under s types own same 0 args z),
        subst (λ t. TypeFits t (result_under s asked)) (agree.results f g kinds.1) fit,
      );
      fits = λ z a h.
          let q = args_from (wf.nodes n d at).function.vars types 0 args g.params kinds.2
          (λ j t b e w. let place : 0 + j ≡ j = omega arith in sort_kind (Var (number_at (first_number p f) g.params j)) t b (sym (ap (λ o. option_and_then (sort_type (Var (number_at (first_number p f) g.params j))) o) e) ∙ ap types (sym place) ∙ w))
          z a h in
          record {
            kind = here_kind p n z d at (MailboxOf a.interface) (wf.nodes n d at) q.2;
            word = words.params f g kinds.1 q.0.0 (type_under s a) (sym (same q.0.0) ∙ ap (need_under s) q.0.1);
            free = free_here p wf z n d at (Call f args) is q.1;
          };
      typed = tt;
    } in found)

-- ---- sends

pub payload_kind : (t : Sort) (b : MailboxType) → payload_sort t ≡ Some b → kind_of t ≡ MailboxOf b.interface
payload_kind (BaseSort c) b h = cc
payload_kind (MailboxSort i q None) b h = cc
payload_kind (MailboxSort i q (Some e)) b h =
    let same : mailbox_type i q e Second ≡ b = cc in ap (λ (w : MailboxType). MailboxOf w.interface) same

payload_word : (p : Program) (t : Sort) (b : MailboxType) → IsPayload p t → payload_sort t ≡ Some b → HasWord b.polarity b.pattern
payload_word p (BaseSort c) b w h = cc
payload_word p (MailboxSort i q None) b w h = cc
payload_word p (MailboxSort i Sending (Some e)) b w h =
    let same : mailbox_type i Sending e Second ≡ b = cc in subst (λ (c : MailboxType). HasWord c.polarity c.pattern) same w.1
payload_word p (MailboxSort i Receiving (Some e)) b w h =
    let same : mailbox_type i Receiving e Second ≡ b = cc in subst (λ (c : MailboxType). HasWord c.polarity c.pattern) same tt

-- a payload's sending type has a word
pub payload_words : (p : Program) → WellFormed p → (i m : ℕ) (decl : TagDecl) → tag_at p i m ≡ Some decl → (j : ℕ) (b : MailboxType) → payload_type decl j ≡ Some b → HasWord b.polarity b.pattern
payload_words p wf i m decl at j b h = go (slice_get decl.payloads j) refl h
  where
    go : (o : Option Sort) → slice_get decl.payloads j ≡ o → option_and_then payload_sort o ≡ Some b → HasWord b.polarity b.pattern
    go None e h = cc
    go (Some t) e h = payload_word p t b (all_at (IsPayload p) decl.payloads j t (declared_payloads p wf i m decl at) e) h

pub some_same : (a b : MailboxType) → Some a ≡ Some b → a ≡ b
some_same a b h = cc

pub send_typed : (p : Program) (wf : WellFormed p) (y : Typing) (s : ℕ → Pat) (n : ℕ) (d : Node) (at : node_at p n ≡ Some d) (x m : ℕ) (args : List Expr) → d.core ≡ Send x m args → (asked : TypeOf) → Allowed y s (send_found n (declared_types (tag_at p (var_interface p d.function x) m)) (var_interface p d.function x) x m args) → CoreFound p y s n asked (Send x m args) (send_found n (declared_types (tag_at p (var_interface p d.function x) m)) (var_interface p d.function x) x m args)
send_typed p wf y s n d at x m args is asked allowed =
    let kinds = subst (CoreKinds p (wf.nodes n d at).function.vars d.kind) is (wf.nodes n d at).kinds in
    go (kinds.1.0) kinds.1.1 kinds.1.2 kinds.1.3 kinds.1.4
  where
    go : (i : ℕ) (decl : TagDecl) → slice_get (wf.nodes n d at).function.vars x ≡ Some (MailboxOf i) → tag_at p i m ≡ Some decl → HaveKinds (wf.nodes n d at).function.vars args (map kind_of decl.payloads) → CoreFound p y s n asked (Send x m args) (send_found n (declared_types (tag_at p (var_interface p d.function x) m)) (var_interface p d.function x) x m args)
    go i decl named declared have =
        let face = face_of p n d x i at (here_kind p n x d at (MailboxOf i) (wf.nodes n d at) named) in
        let types : TypeEnv = payload_type decl in
        let same : (k : ℕ) → need_under s (types k) ≡ types k = payload_same p s wf i m decl declared in
        let target : MailboxType = mailbox_type i Sending (Tag m) Second in
        let there : Allowed y s (send_found n types i x m args) =
        subst (λ o. Allowed y s (send_found n (declared_types o) i x m args)) declared (subst (λ j. Allowed y s (send_found n (declared_types (tag_at p j m)) j x m args)) face allowed) in
        let once : has_twice (x ∷ mailbox_args types 0 args) ≡ false = not_true (has_twice (x ∷ mailbox_args types 0 args)) (none_unless (not (has_twice (x ∷ mailbox_args types 0 args))) AliasRule (AtNode n) there.clean) in
        subst (λ j. CoreFound p y s n asked (Send x m args) (send_found n (declared_types (tag_at p j m)) j x m args)) (sym face)
        (subst (λ o. CoreFound p y s n asked (Send x m args) (send_found n (declared_types o) i x m args)) (sym declared)
        (let found : CoreFound p y s n asked (Send x m args) (send_found n types i x m args) = record {
          term = (
            i,
            decl,
            declared,
            once_distinct (x ∷ mailbox_args types 0 args) once,
            env_same (env_at s (put x target (args_needs types 0 args))) (with_type x target (args_need types 0 args))
                (λ z.
                ap (need_under s) (need_put x target (args_needs types 0 args) z)
                ∙ (elim (nat_eq x z) as (λ b. need_under s (if b then Some target else need_of (args_needs types 0 args) z) ≡ (if b then Some target else args_need types 0 args z)) [
                  | true ↦ refl
                  | false ↦ ap (need_under s) (need_args types 0 args z) ∙ args_under s types types same 0 args z
                ])),
          );
          fits = λ z a h.
              ⊎_elim
              (λ here.
              let there : NeedFits p (HasWordUnder s) n x target = record {
                kind = here_kind p n x d at (MailboxOf i) (wf.nodes n d at) named;
                word = (one m, refl);
                free = free_here p wf x n d at (Send x m args) is (or_left (nat_eq x x) (list_any (occurs x) args) (eq-eqb x x refl));
              } in
              let same_type : target ≡ a = some_same target a here.1 in
              subst (λ w. NeedFits p (HasWordUnder s) n w a) here.0 (subst (NeedFits p (HasWordUnder s) n x) same_type there))
              (λ later.
              let q = args_from (wf.nodes n d at).function.vars types 0 args decl.payloads have
              (λ j t b e w. let place : 0 + j ≡ j = omega arith in payload_kind t b (sym (ap (λ o. option_and_then payload_sort o) e) ∙ ap types (sym place) ∙ w))
              z a later in
              record {
                kind = here_kind p n z d at (MailboxOf a.interface) (wf.nodes n d at) q.2;
                word = payload_words p wf i m decl declared q.0.0 (type_under s a) (sym (same q.0.0) ∙ ap (need_under s) q.0.1);
                free = free_here p wf z n d at (Send x m args) is (or_right (nat_eq z x) (list_any (occurs z) args) q.1);
              })
              (put_cases x (Some target) (args_needs types 0 args) z a h);
          typed = tt;
        } in found))

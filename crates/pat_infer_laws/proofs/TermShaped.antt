-- Terms without parts, spawns and lets: their patterns keep to their interfaces.
use Rattle.std.proofs.Common.{◌≡◌, ℕ, ◌+◌, true, not, ◌&&◌, nat_eq, List, [], ◌∷◌, ◌++◌, length, map, Option, Some, None, refl, sym, ap, ◌∙◌, subst, arith, ⊎_elim}
use Rattle.std.specs.Prelude.{option_and_then, slice_get}
use Rattle.std.specs.List.{AllByRecursion, list_any}
use Rattle.std.proofs.lemmas.Bool.{or_left, or_right, and_from, eq-eqb}
use Rattle.pat_words_spec.specs.Patterns.{Tag, Var, prod_of}
use Rattle.pat_semantics_spec.specs.Values.{BaseUnit, Kind, Plain, MailboxOf, Expr, VarExpr, Literal, OpExpr, occurs, base_of}
use Rattle.pat_semantics_spec.specs.Programs.{Polarity, Sending, Receiving, TagDecl, Function, Val, Let, Call, New, Send, Spawn, Node, Program, node_at, function_at, tag_at, kind_of, is_among, is_free, option_list}
use Rattle.pat_semantics_spec.specs.WellFormed.{WellFormed, CoreKinds, HaveKinds, IsPartOf, expr_kind}
use Rattle.pat_semantics_laws.proofs.Lists.{nil_parts, all_join}
use Rattle.pat_type_system_spec.specs.Types.{Second, Returnable, MailboxType, mailbox_type, TypeOf, BaseTerm, MailboxTerm, kind_of_type, TypeEnv}
use Rattle.pat_type_system_spec.specs.Typings.{sort_type, mailbox_args, payload_sort, payload_type}
use Rattle.pat_type_system_spec.specs.Holdings.{declared_types}
use Rattle.pat_type_schemes_spec.specs.Compared.{is_receiver}
use Rattle.pat_type_schemes_spec.specs.Signatures.{Variable, number_at, result_number, first_number, open_param, open_result}
use Rattle.pat_type_schemes_spec.specs.NodeTypes.{Needs, need_of}
use Rattle.pat_infer_spec.specs.Constraints.{AtNode, AliasRule, OrderRule, DoubleRule, PolarityRule, unless, each_unless, Found, nothing_found}
use Rattle.pat_infer_spec.specs.Needs.{args_needs, names_of_two, Combined, vars_with, constraints_with, gather}
use Rattle.pat_infer_spec.specs.BothParts.{new_var, in_order, one_receives, parts_joined, both_parts}
use Rattle.pat_infer_spec.specs.Walk.{Part, var_interface, has_twice, asked_as, asked_of, name_need, only_needs, value_needs, new_found, result_agrees, result_constraints, call_found, send_found, spawn_found, body_needs, let_gathered, let_findings, bound_found}
use Rattle.pat_infer_spec.specs.Shapes.{IsNumber, PatternFits, ShapeFits, ConstraintFits, NodeTypeFits}
use Rattle.pat_infer_laws.proofs.Lookups.{as_second, need_second}
use Rattle.pat_infer_laws.proofs.Gathering.{none_each, none_unless, all_each, each_with, each_map, need_with, Each, EachNeed, gather_needs, gather_holds, EachHolds}
use Rattle.pat_infer_laws.proofs.TermSound.{face_of}
use Rattle.pat_infer_laws.proofs.Facts.{NeedFits, NeedsFit, free_here, here_kind, kind_here, kind_up}
use Rattle.pat_infer_laws.proofs.TermTyped.{need_one, op_plain, put_cases, args_from, sort_kind, result_kind, payload_kind, some_same}
use Rattle.pat_infer_laws.proofs.LetTyped.{fits_up, second_some, NameKind, let_kinds, asked_kind, but_some, one_face}
use Rattle.pat_infer_laws.proofs.Numbering.{Numbered, numbered_parts}
use Rattle.pat_infer_laws.proofs.ShapeLaws.{Declared, SimpleResult, fits_prod, payload_shape}

-- what is found has patterns of their interfaces
pub record Shaped (p : Program) (vars : List Variable) (n : ℕ) (r : Found) : Type 0 where
  pub needs : NeedsFit p (ShapeFits p vars) n r.needs
  pub constraints : AllByRecursion (ConstraintFits p vars) r.constraints
  pub nodes : AllByRecursion (λ e. NodeTypeFits p vars e.1) r.nodes

-- the type that a term is asked for is so
abbrev pub AskedFits : Program → List Variable → TypeOf → Type 0
AskedFits p vars (BaseTerm b) = Unit {0}
AskedFits p vars (MailboxTerm i q e) = ShapeFits p vars (mailbox_type i q e Returnable)

-- a part, whatever it is asked for that is of its kind and so
abbrev pub PartShapes : Program → List Variable → Part → ℕ → Type 0
PartShapes p vars part m =
    (asked : TypeOf) (k : ℕ) (e : Node) → node_at p m ≡ Some e → kind_of_type asked ≡ e.kind → AskedFits p vars asked → (part m asked k).findings ≡ [] → Numbered (IsNumber vars) k (part m asked k).vars → Shaped p vars m (part m asked k)

-- ---- terms without parts

pub nothing_shaped : (p : Program) (vars : List Variable) (n : ℕ) → Shaped p vars n nothing_found
nothing_shaped p vars n = record { needs = λ z a h. cc; constraints = tt; nodes = tt }

pub value_shaped : (p : Program) (wf : WellFormed p) (vars : List Variable) (n : ℕ) (d : Node) (at : node_at p n ≡ Some d) (e : Expr) → d.core ≡ Val e → (asked : TypeOf) → kind_of_type asked ≡ d.kind → AskedFits p vars asked → Shaped p vars n (only_needs (value_needs asked e))
value_shaped p wf vars n d at e is (BaseTerm b) kind ask = record { needs = λ z a h. cc; constraints = tt; nodes = tt }
value_shaped p wf vars n d at e is (MailboxTerm i q f) kind ask =
    go e is (subst (CoreKinds p (wf.nodes n d at).function.vars d.kind) is (wf.nodes n d at).kinds)
  where
    go : (e : Expr) → d.core ≡ Val e → expr_kind (wf.nodes n d at).function.vars e ≡ Some d.kind → Shaped p vars n (only_needs (value_needs (MailboxTerm i q f) e))
    go (VarExpr x) is k = record {
      needs = λ z a h.
          let one = need_one x (mailbox_type i q f Returnable) z a h in
          let there : NeedFits p (ShapeFits p vars) n x (mailbox_type i q f Returnable) = record {
            kind = here_kind p n x d at (MailboxOf i) (wf.nodes n d at) (k ∙ ap (λ j. Some j) (sym kind));
            word = ask;
            free = free_here p wf x n d at (Val (VarExpr x)) is (eq-eqb x x refl);
          } in
          subst (λ w. NeedFits p (ShapeFits p vars) n w a) (sym one.0) (subst (NeedFits p (ShapeFits p vars) n x) one.1 there);
      constraints = tt;
      nodes = tt;
    }
    go (Literal c) is k = let clash : Some (Plain (base_of c)) ≡ Some (MailboxOf i) = k ∙ ap (λ j. Some j) (sym kind) in cc
    go (OpExpr op a b) is k =
        absurd (op_plain op (expr_kind (wf.nodes n d at).function.vars a) (expr_kind (wf.nodes n d at).function.vars b) i (k ∙ ap (λ j. Some j) (sym kind)))

pub new_shaped : (p : Program) (wf : WellFormed p) (vars : List Variable) (n : ℕ) (d : Node) (at : node_at p n ≡ Some d) (i : ℕ) → d.core ≡ New i → (asked : TypeOf) → kind_of_type asked ≡ d.kind → AskedFits p vars asked → (new_found n i asked).findings ≡ [] → Shaped p vars n (new_found n i asked)
new_shaped p wf vars n d at i is (BaseTerm b) kind ask clean = cc
new_shaped p wf vars n d at i is (MailboxTerm j Sending e) kind ask clean = cc
new_shaped p wf vars n d at i is (MailboxTerm j Receiving e) kind ask clean =
    let kinds = subst (CoreKinds p (wf.nodes n d at).function.vars d.kind) is (wf.nodes n d at).kinds in
    let same : MailboxOf j ≡ MailboxOf i = kind ∙ kinds.0 in
    let face : j ≡ i = cc in
    record {
      needs = λ z a h. cc;
      constraints = (record { left = tt; right = subst (λ w. PatternFits p vars w e) face ask.pattern; simple = ask.simple refl }, tt);
      nodes = tt;
    }

result_shaped : (p : Program) (vars : List Variable) (n : ℕ) (a b : TypeOf) → SimpleResult p vars a → AskedFits p vars b → kind_of_type a ≡ kind_of_type b → result_agrees a b ≡ true → AllByRecursion (ConstraintFits p vars) (result_constraints n a b)
result_shaped p vars n (BaseTerm b) c s ask k agree = tt
result_shaped p vars n (MailboxTerm i Sending e) (BaseTerm c) s ask k agree = tt
result_shaped p vars n (MailboxTerm i Receiving e) (BaseTerm c) s ask k agree = tt
result_shaped p vars n (MailboxTerm i Sending e) (MailboxTerm j r f) s ask k agree =
    let face : j ≡ i = cc in
    (record { left = subst (λ w. PatternFits p vars w f) face ask.pattern; right = s.0; simple = s.1 }, tt)
result_shaped p vars n (MailboxTerm i Receiving e) (MailboxTerm j Receiving f) s ask k agree =
    let face : j ≡ i = cc in
    (record { left = s.0; right = subst (λ w. PatternFits p vars w f) face ask.pattern; simple = ask.simple refl }, tt)
result_shaped p vars n (MailboxTerm i Receiving e) (MailboxTerm j Sending f) s ask k agree = cc

-- the types of signatures are as they should be
pub record SignatureShapes (p : Program) (vars : List Variable) : Type 0 where
  pub params : (f : ℕ) (g : Function) → function_at p f ≡ Some g → (k : ℕ) (a : MailboxType) → open_param p f g k ≡ Some a → Declared p vars a
  pub results : (f : ℕ) (g : Function) → function_at p f ≡ Some g → SimpleResult p vars (open_result p f g)

pub call_shaped : (p : Program) (wf : WellFormed p) (vars : List Variable) → SignatureShapes p vars → (n : ℕ) (d : Node) (at : node_at p n ≡ Some d) (f : ℕ) (args : List Expr) → d.core ≡ Call f args → (asked : TypeOf) → kind_of_type asked ≡ d.kind → AskedFits p vars asked → (call_found p n asked f args (function_at p f)).findings ≡ [] → Shaped p vars n (call_found p n asked f args (function_at p f))
call_shaped p wf vars shapes n d at f args is asked kind ask clean =
    let kinds = subst (CoreKinds p (wf.nodes n d at).function.vars d.kind) is (wf.nodes n d at).kinds in
    let g : Function = kinds.0 in
    let types : TypeEnv = open_param p f g in
    let there = subst (λ o. (call_found p n asked f args o).findings ≡ []) kinds.1 clean in
    let rules = nil_parts (unless (not (has_twice (mailbox_args types 0 args))) AliasRule (AtNode n)) (unless (result_agrees (open_result p f g) asked) PolarityRule (AtNode n)) there in
    let agreed = none_unless (result_agrees (open_result p f g) asked) PolarityRule (AtNode n) rules.1 in
    subst (λ o. Shaped p vars n (call_found p n asked f args o)) (sym kinds.1)
    (let found : Shaped p vars n (call_found p n asked f args (Some g)) = record {
      needs = λ z a h.
          let q = args_from (wf.nodes n d at).function.vars types 0 args g.params kinds.2
          (λ j t b e w. let place : 0 + j ≡ j = omega arith in sort_kind (Var (number_at (first_number p f) g.params j)) t b (sym (ap (λ o. option_and_then (sort_type (Var (number_at (first_number p f) g.params j))) o) e) ∙ ap types (sym place) ∙ w))
          z a h in
          record {
            kind = here_kind p n z d at (MailboxOf a.interface) (wf.nodes n d at) q.2;
            word = (shapes.params f g kinds.1 q.0.0 a q.0.1).shape;
            free = free_here p wf z n d at (Call f args) is q.1;
          };
      constraints = result_shaped p vars n (open_result p f g) asked (shapes.results f g kinds.1) ask (result_kind (Var (result_number (first_number p f) g)) g.result ∙ kinds.3 ∙ sym kind) agreed;
      nodes = tt;
    } in found)

pub send_shaped : (p : Program) (wf : WellFormed p) (vars : List Variable) (n : ℕ) (d : Node) (at : node_at p n ≡ Some d) (x m : ℕ) (args : List Expr) → d.core ≡ Send x m args → Shaped p vars n (send_found n (declared_types (tag_at p (var_interface p d.function x) m)) (var_interface p d.function x) x m args)
send_shaped p wf vars n d at x m args is =
    let kinds = subst (CoreKinds p (wf.nodes n d at).function.vars d.kind) is (wf.nodes n d at).kinds in
    go (kinds.1.0) kinds.1.1 kinds.1.2 kinds.1.3 kinds.1.4
  where
    go : (i : ℕ) (decl : TagDecl) → slice_get (wf.nodes n d at).function.vars x ≡ Some (MailboxOf i) → tag_at p i m ≡ Some decl → HaveKinds (wf.nodes n d at).function.vars args (map kind_of decl.payloads) → Shaped p vars n (send_found n (declared_types (tag_at p (var_interface p d.function x) m)) (var_interface p d.function x) x m args)
    go i decl named declared have =
        let face = face_of p n d x i at (here_kind p n x d at (MailboxOf i) (wf.nodes n d at) named) in
        let types : TypeEnv = payload_type decl in
        let target : MailboxType = mailbox_type i Sending (Tag m) Second in
        subst (λ j. Shaped p vars n (send_found n (declared_types (tag_at p j m)) j x m args)) (sym face)
        (subst (λ o. Shaped p vars n (send_found n (declared_types o) i x m args)) (sym declared)
        (let found : Shaped p vars n (send_found n types i x m args) = record {
          needs = λ z a h.
              ⊎_elim
              (λ here.
              let there : NeedFits p (ShapeFits p vars) n x target = record {
                kind = here_kind p n x d at (MailboxOf i) (wf.nodes n d at) named;
                word = record { pattern = (decl, declared); simple = λ q. cc };
                free = free_here p wf x n d at (Send x m args) is (or_left (nat_eq x x) (list_any (occurs x) args) (eq-eqb x x refl));
              } in
              let same_type : target ≡ a = some_same target a here.1 in
              subst (λ w. NeedFits p (ShapeFits p vars) n w a) here.0 (subst (NeedFits p (ShapeFits p vars) n x) same_type there))
              (λ later.
              let q = args_from (wf.nodes n d at).function.vars types 0 args decl.payloads have
              (λ j t b e w. let place : 0 + j ≡ j = omega arith in payload_kind t b (sym (ap (λ o. option_and_then payload_sort o) e) ∙ ap types (sym place) ∙ w))
              z a later in
              record {
                kind = here_kind p n z d at (MailboxOf a.interface) (wf.nodes n d at) q.2;
                word = (payload_shape p vars wf i m decl declared q.0.0 a q.0.1).shape;
                free = free_here p wf z n d at (Send x m args) is (or_right (nat_eq z x) (list_any (occurs z) args) q.1);
              })
              (put_cases x (Some target) (args_needs types 0 args) z a h);
          constraints = tt;
          nodes = tt;
        } in found))

-- ---- spawns

pub spawn_shaped : (p : Program) (wf : WellFormed p) (vars : List Variable) (part : Part) (n : ℕ) (d : Node) (at : node_at p n ≡ Some d) (m : ℕ) → d.core ≡ Spawn m → IsPartOf p n d m → PartShapes p vars part m → (k : ℕ) → (part m (BaseTerm BaseUnit) k).findings ≡ [] → Numbered (IsNumber vars) k (part m (BaseTerm BaseUnit) k).vars → Shaped p vars n (spawn_found (part m (BaseTerm BaseUnit) k))
spawn_shaped p wf vars part n d at m is inside shapes k clean numbers =
    let kinds = subst (CoreKinds p (wf.nodes n d at).function.vars d.kind) is (wf.nodes n d at).kinds in
    let r : Found = part m (BaseTerm BaseUnit) k in
    let inner = shapes (BaseTerm BaseUnit) k kinds.1.0 kinds.1.1 (sym kinds.1.2) tt clean numbers in
    record {
      needs = λ z a h.
          let q = second_some (need_of r.needs z) a (sym (need_second r.needs z) ∙ h) in
          let there = inner.needs z q.0 q.1 in
          let own = fits_up p (ShapeFits p vars) n m z d at inside q.0 there (free_here p wf z n d at (Spawn m) is there.free) in
          let made : NeedFits p (ShapeFits p vars) n z (as_second q.0) = record { kind = own.kind; word = record { pattern = own.word.pattern; simple = own.word.simple }; free = own.free } in
          subst (NeedFits p (ShapeFits p vars) n z) q.2 made;
      constraints = inner.constraints;
      nodes = inner.nodes;
    }

-- ---- lets

-- what both parts need of a variable, taken together
pub record PartsShaped (p : Program) (vars : List Variable) (n z : ℕ) (o : Option Combined) : Type 0 where
  pub needs : (a : MailboxType) → need_with o ≡ Some a → NeedFits p (ShapeFits p vars) n z a
  pub constraints : AllByRecursion (ConstraintFits p vars) (constraints_with o)

joined_shaped : (p : Program) (vars : List Variable) (n j z : ℕ) (b c : MailboxType) (q r : Polarity) → b.polarity ≡ q → c.polarity ≡ r → b.interface ≡ c.interface → not (is_receiver q && is_receiver r) ≡ true → NeedFits p (ShapeFits p vars) n z b → NeedFits p (ShapeFits p vars) n z c → Numbered (IsNumber vars) j (vars_with (parts_joined n j z q r b c)) → PartsShaped p vars n z (parts_joined n j z q r b c)
joined_shaped p vars n j z b c Sending Sending bq cr face one fb fc numbers =
    let made : MailboxType = mailbox_type c.interface Sending (prod_of b.pattern c.pattern) c.usage in
    let own : NeedFits p (ShapeFits p vars) n z made = record {
      kind = fc.kind;
      word = record { pattern = fits_prod p vars c.interface b.pattern c.pattern (subst (λ w. PatternFits p vars w b.pattern) face fb.word.pattern) fc.word.pattern; simple = λ q. cc };
      free = fc.free;
    } in
    record { needs = λ a h. let same : made ≡ a = cc in subst (NeedFits p (ShapeFits p vars) n z) same own; constraints = tt }
joined_shaped p vars n j z b c Sending Receiving bq cr face one fb fc numbers =
    let made : MailboxType = mailbox_type c.interface Receiving (Var j) c.usage in
    let var : PatternFits p vars c.interface (Var j) = (new_var n z c.interface, numbers.0, refl) in
    let own : NeedFits p (ShapeFits p vars) n z made = record { kind = fc.kind; word = record { pattern = var; simple = λ q. refl }; free = fc.free } in
    record {
      needs = λ a h. let same : made ≡ a = cc in subst (NeedFits p (ShapeFits p vars) n z) same own;
      constraints = (
        record {
          left = fits_prod p vars c.interface b.pattern (Var j) (subst (λ w. PatternFits p vars w b.pattern) face fb.word.pattern) var;
          right = fc.word.pattern;
          simple = fc.word.simple cr;
        },
        tt,
      );
    }
joined_shaped p vars n j z b c Receiving Sending bq cr face one fb fc numbers =
    let made : MailboxType = mailbox_type c.interface Receiving (Var j) c.usage in
    let var : PatternFits p vars c.interface (Var j) = (new_var n z c.interface, numbers.0, refl) in
    let own : NeedFits p (ShapeFits p vars) n z made = record { kind = fc.kind; word = record { pattern = var; simple = λ q. refl }; free = fc.free } in
    record {
      needs = λ a h. let same : made ≡ a = cc in subst (NeedFits p (ShapeFits p vars) n z) same own;
      constraints = (
        record {
          left = fits_prod p vars c.interface c.pattern (Var j) fc.word.pattern var;
          right = subst (λ w. PatternFits p vars w b.pattern) face fb.word.pattern;
          simple = fb.word.simple bq;
        },
        tt,
      );
    }
joined_shaped p vars n j z b c Receiving Receiving bq cr face one fb fc numbers = cc

both_shaped : (p : Program) (vars : List Variable) (n j z : ℕ) (b c : Option MailboxType) → ((a : MailboxType) → b ≡ Some a → NeedFits p (ShapeFits p vars) n z a) → ((a : MailboxType) → c ≡ Some a → NeedFits p (ShapeFits p vars) n z a) → ((b' c' : MailboxType) → NeedFits p (ShapeFits p vars) n z b' → NeedFits p (ShapeFits p vars) n z c' → b'.interface ≡ c'.interface) → one_receives b c ≡ true → Numbered (IsNumber vars) j (vars_with (both_parts n j z b c)) → PartsShaped p vars n z (both_parts n j z b c)
both_shaped p vars n j z None None fb fc face one numbers = record { needs = λ a h. cc; constraints = tt }
both_shaped p vars n j z (Some b) None fb fc face one numbers = record { needs = λ a h. fb a h; constraints = tt }
both_shaped p vars n j z None (Some c) fb fc face one numbers = record { needs = λ a h. fc a h; constraints = tt }
both_shaped p vars n j z (Some b) (Some c) fb fc face one numbers =
    joined_shaped p vars n j z b c b.polarity c.polarity refl refl (face b c (fb b refl) (fc c refl)) one (fb b refl) (fc c refl) numbers

-- the new variables of each have their numbers
pub gather_numbers : (F : ℕ → Variable → Type 0) (f : ℕ → ℕ → Option Combined) (k : ℕ) (xs : List ℕ) → Numbered F k (gather f k xs).vars → Each (λ j x o. Numbered F j (vars_with o)) f k xs
gather_numbers F f k [] h = tt
gather_numbers F f k (x ∷ xs) h =
    let j : ℕ = k + length (vars_with (f k x)) in
    let q = numbered_parts F k (vars_with (f k x)) (gather f j xs).vars h in
    (q.0, gather_numbers F f j xs q.1)

asked_fits : (p : Program) (vars : List Variable) (i : ℕ) (need : Option MailboxType) → ((a : MailboxType) → need ≡ Some a → ShapeFits p vars a × (a.interface ≡ i)) → AskedFits p vars (asked_as (MailboxOf i) need)
asked_fits p vars i None h = record { pattern = tt; simple = λ q. cc }
asked_fits p vars i (Some a) h =
    let q = h a refl in record { pattern = subst (λ w. PatternFits p vars w a.pattern) q.1 q.0.pattern; simple = q.0.simple }

pub let_shaped : (p : Program) (wf : WellFormed p) (vars : List Variable) (part : Part) (n : ℕ) (d : Node) (at : node_at p n ≡ Some d) (x : Option ℕ) (m b : ℕ) → d.core ≡ Let x m b → IsPartOf p n d m → IsPartOf p n d b → PartShapes p vars part m → PartShapes p vars part b → (asked : TypeOf) (k : ℕ) → kind_of_type asked ≡ d.kind → AskedFits p vars asked → (bound_found p part n k x m (part b asked k)).findings ≡ [] → Numbered (IsNumber vars) k (bound_found p part n k x m (part b asked k)).vars → Shaped p vars n (bound_found p part n k x m (part b asked k))
let_shaped p wf vars part n d at x m b is inside_m inside_b shapes_m shapes_b asked k kind ask clean numbers =
    let Ok : MailboxType → Type 0 = ShapeFits p vars in
    let kinds = let_kinds p (wf.nodes n d at).function.vars d.kind x m b (subst (CoreKinds p (wf.nodes n d at).function.vars d.kind) is (wf.nodes n d at).kinds) in
    let body : Found = part b asked k in
    let wanted : TypeOf = asked_of (node_at p m) (name_need x body.needs) in
    let j : ℕ = k + length body.vars in
    let bound : Found = part m wanted j in
    let inner : Needs = body_needs x body.needs in
    let outer : Needs = bound.needs in
    let l : ℕ = j + length bound.vars in
    let own = let_gathered n l outer inner in
    let names : List ℕ = names_of_two outer inner in
    let one : ℕ → ℕ → Option Combined = λ i z. both_parts n i z (need_of outer z) (need_of inner z) in
    let clean1 = nil_parts body.findings (bound.findings ++ let_findings n outer inner) clean in
    let clean2 = nil_parts bound.findings (let_findings n outer inner) clean1.1 in
    let numbers1 = numbered_parts (IsNumber vars) k body.vars (bound.vars ++ own.vars) numbers in
    let numbers2 = numbered_parts (IsNumber vars) j bound.vars own.vars numbers1.1 in
    let tb = shapes_b asked k kinds.0.0 kinds.0.1 (kind ∙ sym kinds.0.2) ask clean1.0 numbers1.0 in
    let wanted_is : wanted ≡ asked_as kinds.1.0.kind (name_need x body.needs) = ap (λ o. asked_of o (name_need x body.needs)) kinds.1.1 in
    let wanted_kind : kind_of_type wanted ≡ kinds.1.0.kind = ap kind_of_type wanted_is ∙ asked_kind kinds.1.0.kind (name_need x body.needs) in
    let wanted_fits : AskedFits p vars wanted = subst (AskedFits p vars) (sym wanted_is) (named_fits x kinds.1.0.kind body.needs kinds.1.2 tb.needs) in
    let tm = shapes_m wanted j kinds.1.0 kinds.1.1 wanted_kind wanted_fits clean2.0 numbers2.0 in
    let fit_outer : (z : ℕ) (a : MailboxType) → need_of outer z ≡ Some a → NeedFits p Ok n z a =
    λ z a h. let f = tm.needs z a h in fits_up p Ok n m z d at inside_m a f (free_here p wf z n d at (Let x m b) is (or_left (is_free p z m) (is_free p z b && not (is_among z (option_list x))) f.free)) in
    let fit_inner : (z : ℕ) (a : MailboxType) → need_of inner z ≡ Some a → NeedFits p Ok n z a =
    λ z a h.
    let q = but_some (option_list x) body.needs z a h in
    let f = tb.needs z a q.1 in
    fits_up p Ok n b z d at inside_b a f
    (free_here p wf z n d at (Let x m b) is (or_right (is_free p z m) (is_free p z b && not (is_among z (option_list x))) (and_from (is_free p z b) (not (is_among z (option_list x))) f.free (ap not q.0)))) in
    let rules = nil_parts (each_unless (λ z. in_order (need_of outer z) (need_of inner z)) OrderRule (λ z. AtNode n) names) (each_unless (λ z. one_receives (need_of outer z) (need_of inner z)) DoubleRule (λ z. AtNode n) names) clean2.1 in
    let doubles = none_each (λ z. one_receives (need_of outer z) (need_of inner z)) DoubleRule (λ z. AtNode n) names rules.1 in
    let each : Each (λ i z o. PartsShaped p vars n z o) one l names =
    each_with (λ i z o. one_receives (need_of outer z) (need_of inner z) ≡ true) (λ i z o. Numbered (IsNumber vars) i (vars_with o)) (λ i z o. PartsShaped p vars n z o) one
    (λ i z q h. both_shaped p vars n i z (need_of outer z) (need_of inner z) (fit_outer z) (fit_inner z) (one_face p Ok wf n z d at) q h)
    l names (all_each (λ z. one_receives (need_of outer z) (need_of inner z) ≡ true) one l names doubles) (gather_numbers (IsNumber vars) one l names numbers2.1) in
    record {
      needs = λ z.
          gather_needs (λ z o. (a : MailboxType) → o ≡ Some a → NeedFits p Ok n z a) one l names
          (each_map (λ i z o. PartsShaped p vars n z o) (EachNeed (λ z o. (a : MailboxType) → o ≡ Some a → NeedFits p Ok n z a)) one (λ i z q. q.needs) l names each)
          z (λ off a h. cc);
      constraints = all_join (ConstraintFits p vars) body.constraints (bound.constraints ++ own.constraints) tb.constraints
          (all_join (ConstraintFits p vars) bound.constraints own.constraints tm.constraints
          (gather_holds (ConstraintFits p vars) one l names (each_map (λ i z o. PartsShaped p vars n z o) (EachHolds (ConstraintFits p vars)) one (λ i z q. q.constraints) l names each)));
      nodes = all_join (λ e. NodeTypeFits p vars e.1) body.nodes bound.nodes tb.nodes tm.nodes;
    }
  where
    named_fits : (x : Option ℕ) (k : Kind) (needs : Needs) → NameKind (wf.nodes n d at).function.vars x k → NeedsFit p (ShapeFits p vars) b needs → AskedFits p vars (asked_as k (name_need x needs))
    named_fits None k needs named fits = subst (λ j. AskedFits p vars (asked_as j None)) (sym named) tt
    named_fits (Some w) (Plain c) needs named fits = tt
    named_fits (Some w) (MailboxOf i) needs named fits =
        asked_fits p vars i (need_of needs w)
        (λ a h.
        let there = fits w a h in
        let is = kind_here p n w d at (MailboxOf a.interface) (wf.nodes n d at) (kind_up p n b w d at inside_b (MailboxOf a.interface) there.kind) in
        let same : Some (MailboxOf i) ≡ Some (MailboxOf a.interface) = sym named ∙ is in
        let face : a.interface ≡ i = cc in
        (there.word, face))

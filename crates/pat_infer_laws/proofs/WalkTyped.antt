-- The whole walk: what is found types the program, where a typing has it.
use Rattle.std.proofs.Common.{◌≡◌, ℕ, zero, suc, ◌+◌, ◌≤◌, ◌<◌, true, nat_eq, List, [], ◌∷◌, length, Option, Some, None, refl, sym, ap, ◌∙◌, subst, arith}
use Rattle.std.specs.Prelude.{unwrap_or, slice_get, option_map, option_and_then}
use Rattle.std.specs.List.{AllByRecursion}
use Rattle.std.proofs.lemmas.Bool.{or_right}
use Rattle.std.proofs.lemmas.Option.{slice_get_within, slice_get-map}
use Rattle.pat_words_spec.specs.Patterns.{Pat, Var}
use Rattle.pat_semantics_spec.specs.Values.{Kind, Plain, MailboxOf}
use Rattle.pat_semantics_spec.specs.Programs.{Sort, BaseSort, MailboxSort, Function, Core, Val, Let, Call, If, Print, New, Send, Spawn, Guard, Node, Program, node_at, function_at, kind_of, is_among, parts, KindAt}
use Rattle.pat_semantics_spec.specs.WellFormed.{WellFormed, IsPartOf, FunctionFits}
use Rattle.pat_semantics_laws.proofs.Lists.{all_join, among_head, nil_parts}
use Rattle.pat_type_system_spec.specs.Types.{mailbox_type, MailboxType, TypeOf, kind_of_type, PassesTo, TypeEnv}
use Rattle.pat_type_system_spec.specs.Typings.{param_usage, Typing, TypeHasWord, sort_type, param_type, FunctionTyped}
use Rattle.pat_type_system_laws.proofs.Environments.{take_at}
use Rattle.pat_type_schemes_spec.specs.NodeTypes.{type_under, need_under, result_under, Needs, need_of}
use Rattle.pat_type_schemes_spec.specs.Signatures.{number_at, result_number, first_number, open_param, open_result}
use Rattle.pat_infer_spec.specs.Constraints.{Found}
use Rattle.pat_infer_spec.specs.Binders.{binder_findings, binder_constraints, param_names}
use Rattle.pat_infer_spec.specs.Walk.{Part, walk_arms, branches_of, core_found, with_node, node_found, walk, function_binders, walk_function, walk_functions}
use Rattle.pat_infer_laws.proofs.Gathering.{all_parts}
use Rattle.pat_infer_laws.proofs.BothLaws.{Holds}
use Rattle.pat_infer_laws.proofs.BinderLaws.{NamePassed, SameInterface, Places, names_all, all_names, param_places, fine_names}
use Rattle.pat_infer_laws.proofs.SignatureLaws.{SignaturesAgree}
use Rattle.pat_infer_laws.proofs.TermSound.{env_at}
use Rattle.pat_infer_laws.proofs.Facts.{HasWordUnder, NeedsFit, EntryIn, EntryTyped, Allowed, PartTyped, PartTypes, CoreFound, part_typed}
use Rattle.pat_infer_laws.proofs.TermTyped.{SignatureWords, sort_kind, result_kind, value_typed, print_typed, new_typed, call_typed, send_typed}
use Rattle.pat_infer_laws.proofs.LetTyped.{spawn_typed, let_typed}
use Rattle.pat_infer_laws.proofs.ArmsTyped.{if_typed}
use Rattle.pat_infer_laws.proofs.GuardTyped.{guard_typed}

-- ---- kinds of a function's variables

-- the kind of a parameter
param_kind : (p : Program) (f : ℕ) (g : Function) → FunctionFits p f g → (j : ℕ) (t : Sort) → slice_get g.params j ≡ Some t → slice_get g.vars j ≡ Some (kind_of t)
param_kind p f g fits j t e =
    take_at (length g.params) g.vars j (kind_of t)
    (ap (λ ks. slice_get ks j) fits.params ∙ slice_get-map kind_of g.params j ∙ ap (λ o. option_map kind_of o) e)

-- what a body needs has the kind of the function's variable
pub need_kind : (p : Program) (wf : WellFormed p) (f : ℕ) (g : Function) (at : function_at p f ≡ Some g) (z : ℕ) (k : Kind) → KindAt p g.body z k → slice_get g.vars z ≡ Some k
need_kind p wf f g at z k (e, h, there, of, kind) =
    let body = (wf.functions f g at).body in
    let again : Some body.0 ≡ Some e = sym body.1 ∙ there in
    let same : body.0 ≡ e = cc in
    let at_h : function_at p f ≡ Some h = ap (function_at p) (sym body.2) ∙ ap (λ (w : Node). function_at p w.function) same ∙ of in
    let one : Some h ≡ Some g = sym at_h ∙ at in
    let function : h ≡ g = cc in
    ap (λ (w : Function). slice_get w.vars z) (sym function) ∙ kind

pub open_kind : (p : Program) (wf : WellFormed p) (f : ℕ) (g : Function) (at : function_at p f ≡ Some g) (j : ℕ) (a : MailboxType) → open_param p f g j ≡ Some a → slice_get g.vars j ≡ Some (MailboxOf a.interface)
open_kind p wf f g at j a h = go (slice_get g.params j) refl h
  where
    go : (o : Option Sort) → slice_get g.params j ≡ o → option_and_then (sort_type (Var (number_at (first_number p f) g.params j))) o ≡ Some a → slice_get g.vars j ≡ Some (MailboxOf a.interface)
    go None e h = cc
    go (Some t) e h = param_kind p f g (wf.functions f g at) j t e ∙ ap (λ k. Some k) (sort_kind (Var (number_at (first_number p f) g.params j)) t a h)

-- what holds of each parameter's name holds at its place
pub param_at : (Q : ℕ → MailboxType → Type 0) (types : TypeEnv) (k : ℕ) (ss : List Sort) → Places Q types k (param_names k ss) → (j : ℕ) (t : Sort) → slice_get ss j ≡ Some t → (a : MailboxType) → types (k + j) ≡ Some a → Q (k + j) a
param_at Q types k [] h j t e a w = cc
param_at Q types k (u ∷ us) h zero t e a w =
    let place : k + 0 ≡ k = omega arith in subst (λ n. Q n a) (sym place) (h.0 a (ap types (sym place) ∙ w))
param_at Q types k (u ∷ us) h (suc j) t e a w =
    let next : k + suc j ≡ suc k + j = omega arith in
    subst (λ n. Q n a) (sym next) (param_at Q types (suc k) us h.1 j t e a (ap types (sym next) ∙ w))

-- ---- the walk

module _ (p : Program) (wf : WellFormed p) (y : Typing) (s : ℕ → Pat) (agree : SignaturesAgree p y s) (words : SignatureWords p y) where
  core_typed : (part : Part) (n : ℕ) (d : Node) (core : Core) (at : node_at p n ≡ Some d) → d.core ≡ core → ((m : ℕ) → is_among m (parts core) ≡ true → IsPartOf p n d m × PartTypes p y s part m) → (asked : TypeOf) (k : ℕ) → kind_of_type asked ≡ d.kind → TypeHasWord (result_under s asked) → Allowed y s (core_found p part d.function n k asked core) → CoreFound p y s n asked core (core_found p part d.function n k asked core)
  core_typed part n d (Val e) at is inner asked k kind word allowed = value_typed p wf y s n d at e is asked kind word
  core_typed part n d (Print e) at is inner asked k kind word allowed = print_typed p y s n asked e
  core_typed part n d (New i) at is inner asked k kind word allowed = new_typed p wf y s n d at i is asked kind allowed
  core_typed part n d (Call f args) at is inner asked k kind word allowed = call_typed p wf y s agree words n d at f args is asked kind allowed
  core_typed part n d (Send x m args) at is inner asked k kind word allowed = send_typed p wf y s n d at x m args is asked allowed
  core_typed part n d (Spawn m) at is inner asked k kind word allowed =
      let q = inner m (among_head m []) in spawn_typed p wf y s part n d at m is q.0 q.1 asked k allowed
  core_typed part n d (Let x m b) at is inner asked k kind word allowed =
      let qm = inner m (among_head m (b ∷ [])) in
      let qb = inner b (or_right (nat_eq b m) (is_among b (b ∷ [])) (among_head b [])) in
      let_typed p wf y s part n d at x m b is qm.0 qb.0 qm.1 qb.1 asked k kind word allowed
  core_typed part n d (If e a b) at is inner asked k kind word allowed =
      let qa = inner a (among_head a (b ∷ [])) in
      let qb = inner b (or_right (nat_eq b a) (is_among b (b ∷ [])) (among_head b [])) in
      if_typed p wf y s part n d at e a b is qa.0 qb.0 qa.1 qb.1 asked k kind word allowed
  core_typed part n d (Guard x e free cs) at is inner asked k kind word allowed =
      guard_typed p wf y s part n d at x e free cs is inner asked k kind word (walk_arms part asked k (branches_of free cs)) refl allowed

  -- the walk of a node, with levels enough for all that comes after it
  pub walk_typed : (levels n : ℕ) → length p.nodes ≤ levels + n → PartTypes p y s (walk levels p) n
  walk_typed zero n enough asked k d at kind word allowed =
      let within = slice_get_within p.nodes n d at in absurd (omega arith)
  walk_typed (suc levels) n enough asked k d at kind word allowed =
      let inner : (m : ℕ) → is_among m (parts d.core) ≡ true → IsPartOf p n d m × PartTypes p y s (walk levels p) m =
      λ m on.
      let q = (wf.nodes n d at).parts_after m on in
      let after = q.0 in
      (q, walk_typed levels m (omega arith)) in
      let r : Found = core_found p (walk levels p) d.function n k asked d.core in
      let there : Allowed y s (with_node n asked r) = subst (λ o. Allowed y s (node_found p (walk levels p) n asked k o)) at allowed in
      let entries = all_parts (EntryIn y s) r.nodes ((n, record { result = asked; needs = r.needs }) ∷ []) there.entries in
      let core = core_typed (walk levels p) n d d.core at refl inner asked k kind word
      (record { clean = there.clean; holds = there.holds; entries = entries.0 }) in
      subst (λ o. PartTyped p y s n asked (node_found p (walk levels p) n asked k o)) (sym at)
      (part_typed p y s n d asked r at kind word core entries.1.0)

  -- ---- functions

  below_some : {A : Type 0} (xs : List A) (j : ℕ) → j < length xs → (x : A) × (slice_get xs j ≡ Some x)
  below_some [] j h = absurd (omega arith)
  below_some (x ∷ xs) zero h = (x, refl)
  below_some (x ∷ xs) (suc j) h = below_some xs j (omega arith)

  sort_cases : (f : ℕ) (g : Function) (at : function_at p f ≡ Some g) (needs : Needs) → NeedsFit p (HasWordUnder s) g.body needs → Places (λ z a. PassesTo (Some (type_under s a)) (env_at s needs z)) (open_param p f g) 0 (param_names 0 g.params) → (z : ℕ) → PassesTo (param_type y f g z) (env_at s needs z)
  sort_cases f g at needs fits places z = go (slice_get g.params z) refl
    where
      none : (o : Option MailboxType) → ((a : MailboxType) → o ≡ Some a → ⊥) → PassesTo None (need_under s o)
      none None f = tt
      none (Some a) f = absurd (f a refl)

      go : (o : Option Sort) → slice_get g.params z ≡ o → PassesTo (option_and_then (sort_type (y.param_patterns f z)) o) (env_at s needs z)
      go None e =
          none (need_of needs z)
          (λ a h.
          let below = (wf.functions f g at).in_scope z (fits z a h).free in
          let there = below_some g.params z below in
          let clash : None ≡ Some there.0 = sym e ∙ there.1 in cc)
      go (Some (BaseSort b)) e =
          none (need_of needs z)
          (λ a h.
          let is = need_kind p wf f g at z (MailboxOf a.interface) (fits z a h).kind in
          let own = param_kind p f g (wf.functions f g at) z (BaseSort b) e in
          let clash : Some (Plain b) ≡ Some (MailboxOf a.interface) = sym own ∙ is in cc)
      go (Some (MailboxSort i q w)) e =
          let made : need_under s (option_and_then (sort_type (Var (number_at (first_number p f) g.params z))) (Some (MailboxSort i q w))) ≡ option_and_then (sort_type (y.param_patterns f z)) (Some (MailboxSort i q w)) =
          ap (λ o. need_under s (option_and_then (sort_type (Var (number_at (first_number p f) g.params z))) o)) (sym e) ∙ agree.params f g at z ∙ ap (λ o. option_and_then (sort_type (y.param_patterns f z)) o) e in
          let place : 0 + z ≡ z = omega arith in
          let a : MailboxType = mailbox_type i q (unwrap_or w (Var (number_at (first_number p f) g.params z))) (param_usage q) in
          let opened : open_param p f g (0 + z) ≡ Some a = ap (open_param p f g) place ∙ ap (λ o. option_and_then (sort_type (Var (number_at (first_number p f) g.params z))) o) e in
          subst (λ o. PassesTo o (env_at s needs z)) made
          (subst (λ n. PassesTo (Some (type_under s a)) (env_at s needs n)) place
          (param_at (λ z a. PassesTo (Some (type_under s a)) (env_at s needs z)) (open_param p f g) 0 g.params places z (MailboxSort i q w) e a opened))

  function_typed : (f : ℕ) (g : Function) (k : ℕ) (at : function_at p f ≡ Some g) → Allowed y s (walk_function p f g k) → FunctionTyped p y f g × AllByRecursion (EntryTyped p y) (walk_function p f g k).nodes
  function_typed f g k at allowed =
      let fits = wf.functions f g at in
      let body : Found = walk (length p.nodes) p g.body (open_result p f g) k in
      let clean = nil_parts body.findings (binder_findings f (function_binders p f g body.needs)) allowed.clean in
      let holds = all_parts (Holds s) body.constraints (binder_constraints f (function_binders p f g body.needs)) allowed.holds in
      let part = walk_typed (length p.nodes) g.body (omega arith) (open_result p f g) k fits.body.0 fits.body.1
      (result_kind (Var (result_number (first_number p f) g)) g.result ∙ sym fits.body.3)
      (subst TypeHasWord (sym (agree.results f g at)) (words.results f g at))
      (record { clean = clean.0; holds = holds.0; entries = allowed.entries }) in
      let faces = names_all SameInterface (open_param p f g) 0 (param_names 0 g.params) body.needs
      (param_places (λ z a. (b : MailboxType) → need_of body.needs z ≡ Some b → a.interface ≡ b.interface) (open_param p f g) 0 g.params
      (λ j a e b h. one_face j a.interface b.interface (open_kind p wf f g at j a e) (need_kind p wf f g at j (MailboxOf b.interface) (part.fits j b h).kind))) in
      let named = fine_names s f (function_binders p f g body.needs) faces clean.1 holds.1 in
      let places = all_names (NamePassed s) (open_param p f g) 0 (param_names 0 g.params) body.needs named in (
        record {
          result = part.result ∙ agree.results f g at;
          params = λ z. subst (λ (h : TypeEnv). PassesTo (param_type y f g z) (h z)) (sym part.env) (sort_cases f g at body.needs part.fits places z);
          param_words = words.params f g at;
        },
        part.typed,
      )
    where
      one_face : (j a b : ℕ) → slice_get g.vars j ≡ Some (MailboxOf a) → slice_get g.vars j ≡ Some (MailboxOf b) → a ≡ b
      one_face j a b h k = let same : Some (MailboxOf a) ≡ Some (MailboxOf b) = sym h ∙ k in cc

  pub functions_typed : (f k : ℕ) (gs : List Function) → ((j : ℕ) (g : Function) → slice_get gs j ≡ Some g → function_at p (f + j) ≡ Some g) → Allowed y s (walk_functions p f k gs) → ((j : ℕ) (g : Function) → slice_get gs j ≡ Some g → FunctionTyped p y (f + j) g) × AllByRecursion (EntryTyped p y) (walk_functions p f k gs).nodes
  functions_typed f k [] there allowed = (λ j g e. cc, tt)
  functions_typed f k (g ∷ gs) there allowed =
      let first : Found = walk_function p f g k in
      let rest : Found = walk_functions p (suc f) (k + length first.vars) gs in
      let clean = nil_parts first.findings rest.findings allowed.clean in
      let holds = all_parts (Holds s) first.constraints rest.constraints allowed.holds in
      let entries = all_parts (EntryIn y s) first.nodes rest.nodes allowed.entries in
      let place : f + 0 ≡ f = omega arith in
      let here = function_typed f g k (subst (λ n. function_at p n ≡ Some g) place (there 0 g refl)) (record { clean = clean.0; holds = holds.0; entries = entries.0 }) in
      let later = functions_typed (suc f) (k + length first.vars) gs
      (λ j e is. let next : f + suc j ≡ suc f + j = omega arith in subst (λ n. function_at p n ≡ Some e) next (there (suc j) e is))
      (record { clean = clean.1; holds = holds.1; entries = entries.1 }) in
      (at_place here.0 later.0, all_join (EntryTyped p y) first.nodes rest.nodes here.1 later.1)
    where
      at_place : FunctionTyped p y f g → ((j : ℕ) (h : Function) → slice_get gs j ≡ Some h → FunctionTyped p y (suc f + j) h) → (j : ℕ) (h : Function) → slice_get (g ∷ gs) j ≡ Some h → FunctionTyped p y (f + j) h
      at_place here later zero h e =
          let same : g ≡ h = cc in
          let place : f ≡ f + 0 = omega arith in
          subst (λ n. FunctionTyped p y n h) place (subst (FunctionTyped p y f) same here)
      at_place here later (suc j) h e = let next : suc f + j ≡ f + suc j = omega arith in subst (λ n. FunctionTyped p y n h) next (later j h e)

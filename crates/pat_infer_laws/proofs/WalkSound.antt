-- The whole walk under a typing: no rule is broken, and the constraints hold.
use Rattle.std.proofs.Common.{if◌then◌else◌, ◌≡◌, ℕ, zero, suc, ◌+◌, ◌≤◌, true, false, nat_eq, List, [], ◌∷◌, length, Option, Some, None, refl, sym, ap, ◌∙◌, subst, arith}
use Rattle.std.specs.Prelude.{is_some, slice_get}
use Rattle.std.specs.List.{AllByRecursion, flat_map}
use Rattle.std.proofs.lemmas.Bool.{eq-eqb, or_right}
use Rattle.std.proofs.lemmas.Option.{slice_get_within}
use Rattle.pat_words_spec.specs.Patterns.{Pat, Tag}
use Rattle.pat_semantics_spec.specs.Values.{MailboxOf}
use Rattle.pat_semantics_spec.specs.Programs.{Sending, tag_at, Function, Core, Val, Let, Call, If, Print, New, Send, Spawn, Guard, Node, Program, node_at, function_at, is_among, parts, binders, option_list, clause_bodies, clause_binders, KindAt}
use Rattle.pat_semantics_spec.specs.WellFormed.{WellFormed, CoreKinds}
use Rattle.pat_semantics_laws.proofs.Lists.{clash, all_join, among_first, among_second, among_head}
use Rattle.pat_semantics_laws.proofs.Scopes.{guard_apart}
use Rattle.pat_type_system_spec.specs.Types.{Second, mailbox_type, with_type, MailboxType, TypeOf, TypeFits, PassesTo, TypeEnv}
use Rattle.pat_type_system_spec.specs.Typings.{args_need, payload_type, Typing, IsTyping, CoreTyped, param_type, FunctionTyped}
use Rattle.pat_type_system_spec.specs.Holdings.{declared_types}
use Rattle.pat_type_system_laws.proofs.Passing.{passes_twice, type_same}
use Rattle.pat_type_system_laws.specs.Laws.{BoundIsUnnamed}
use Rattle.pat_type_schemes_spec.specs.NodeTypes.{need_under, result_under}
use Rattle.pat_type_schemes_spec.specs.Signatures.{open_param, open_result}
use Rattle.pat_infer_spec.specs.Constraints.{Found}
use Rattle.pat_infer_spec.specs.Binders.{binder_findings, binder_constraints, param_names}
use Rattle.pat_infer_spec.specs.Walk.{send_found, Part, Arms, walk_arms, branches_of, guard_found, core_found, node_found, walk, function_binders, walk_function, walk_functions}
use Rattle.pat_infer_spec.specs.Solutions.{GivesFrom}
use Rattle.pat_infer_laws.proofs.Gathering.{gives_parts, nil_join}
use Rattle.pat_infer_laws.proofs.BothLaws.{Holds}
use Rattle.pat_infer_laws.proofs.BinderLaws.{NamePassed, binder_at, names_all, param_places, names_fine}
use Rattle.pat_infer_laws.proofs.SignatureLaws.{SignaturesAgree}
use Rattle.pat_infer_laws.proofs.TermSound.{env_at, Sound, value_sound, nothing_sound, new_sound, call_sound, some_at, face_of, send_sound}
use Rattle.pat_infer_laws.proofs.LetSound.{PartSound, spawn_sound, bound_sound}
use Rattle.pat_infer_laws.proofs.ArmsSound.{if_sound}
use Rattle.pat_infer_laws.proofs.GuardSound.{guard_sound}

-- what isn't bound where something is there isn't there where it is bound
absent : (P : ℕ → Option MailboxType) (xs : List ℕ) → ((x : ℕ) (a : MailboxType) → P x ≡ Some a → is_among x xs ≡ false) → (z : ℕ) → is_among z xs ≡ true → P z ≡ None
absent P xs h z on = go (P z) refl
  where
    go : (o : Option MailboxType) → P z ≡ o → P z ≡ None
    go None e = e
    go (Some a) e = absurd (clash on (h z a e))

module _ (unnamed : BoundIsUnnamed) (p : Program) (wf : WellFormed p) (y : Typing) (typing : IsTyping p y) (s : ℕ → Pat) (agree : SignaturesAgree p y s) where
  -- a term whose parts are sound
  core_sound : (part : Part) (n : ℕ) (d : Node) (core : Core) → node_at p n ≡ Some d → d.core ≡ core → CoreTyped p y (y.envs n) (y.results n) core → ((m : ℕ) → is_among m (parts core) ≡ true → (e : Node) × (node_at p m ≡ Some e) × PartSound y s part m) → (asked : TypeOf) (k : ℕ) → TypeFits (y.results n) (result_under s asked) → GivesFrom y s k (core_found p part d.function n k asked core).vars → Sound s (y.envs n) (core_found p part d.function n k asked core)
  core_sound part n d (Val e) at is typed ih asked k fit gives = value_sound s (y.envs n) (y.results n) e asked typed fit
  core_sound part n d (Print e) at is typed ih asked k fit gives = nothing_sound s (y.envs n) typed
  core_sound part n d (New i) at is typed ih asked k fit gives = new_sound s (y.envs n) n i (y.results n) asked typed.0 typed.1 fit
  core_sound part n d (Call f args) at is typed ih asked k fit gives = call_sound p y s agree (y.envs n) (y.results n) n asked f args typed fit
  core_sound part n d (Send x m args) at is (i, decl, declared, distinct, passes) ih asked k fit gives =
      let target = passes x in
      let there = some_target (y.envs n) x i target in
      let kind : KindAt p n x (MailboxOf i) = subst (λ j. KindAt p n x (MailboxOf j)) there.2 ((typing.nodes n d at).kinds x there.0 there.1) in
      subst (λ j. Sound s (y.envs n) (send_found n (declared_types (tag_at p j m)) j x m args)) (sym (face_of p n d x i at kind))
      (send_sound p wf s (y.envs n) n i x m args decl declared distinct passes)
    where
      some_target : (g : TypeEnv) (x i : ℕ) → PassesTo (g x) (with_type x (mailbox_type i Sending (Tag m) Second) (args_need (payload_type decl) 0 args) x) → (a : MailboxType) × (g x ≡ Some a) × (a.interface ≡ i)
      some_target g x i h =
          let q = some_at (g x) (mailbox_type i Sending (Tag m) Second)
          (subst (λ b. PassesTo (g x) (if b then Some (mailbox_type i Sending (Tag m) Second) else args_need (payload_type decl) 0 args x)) (eq-eqb x x refl) h) in
          (q.0, q.1, q.2.interface)
  core_sound part n d (Spawn m) at is typed ih asked k fit gives =
      let q = ih m (among_head m []) in
      spawn_sound y s (y.envs n) part k m typed.0 typed.1 q.2 gives
  core_sound part n d (Let x m b) at is typed ih asked k fit gives =
      let qm = ih m (among_head m (b ∷ [])) in
      let qb = ih b (or_right (nat_eq b m) (is_among b (b ∷ [])) (among_head b [])) in
      bound_sound p y s part n k m b x qm.0 asked qm.1 (typing.nodes m qm.0 qm.1).kind
      (subst (λ t. TypeFits t (result_under s asked)) (sym typed.0) fit) typed.1 typed.2 qb.2 qm.2 gives
  core_sound part n d (If e a b) at is typed ih asked k fit gives =
      let qa = ih a (among_head a (b ∷ [])) in
      let qb = ih b (or_right (nat_eq b a) (is_among b (b ∷ [])) (among_head b [])) in
      if_sound y s part n k a b asked
      (subst (λ t. TypeFits t (result_under s asked)) (sym typed.0) fit)
      (subst (λ t. TypeFits t (result_under s asked)) (sym typed.1) fit)
      typed.2 typed.3 qa.2 qb.2 gives
  core_sound part n d (Guard x e free cs) at is typed ih asked k fit gives =
      let kinds = subst (CoreKinds p (wf.nodes n d at).function.vars d.kind) is (wf.nodes n d at).kinds in
      let all : Arms = walk_arms part asked k (branches_of free cs) in
      let face = face_of p n d x typed.guarded.interface at ((typing.nodes n d at).kinds x typed.guarded typed.named) in
      let free_part : (m : ℕ) → free ≡ Some m → PartSound y s part m =
      λ m some. (ih m (among_first m (option_list free) (clause_bodies cs) (subst (λ o. is_among m (option_list o) ≡ true) (sym some) (among_head m [])))).2 in
      let parts : (m : ℕ) → is_among m (clause_bodies cs) ≡ true → PartSound y s part m =
      λ m on. (ih m (among_second m (option_list free) (clause_bodies cs) on)).2 in
      let fresh : (z : ℕ) → is_among z (flat_map clause_binders cs) ≡ true → y.envs n z ≡ None =
      absent (y.envs n) (flat_map clause_binders cs) (λ z a there. ap (λ c. is_among z (binders c)) (sym is) ∙ unnamed p y wf typing z n d a at there) in
      subst (λ i. GivesFrom y s k (guard_found p d.function n (k + length all.vars) x e i (is_some free) cs all).vars → Sound s (y.envs n) (guard_found p d.function n (k + length all.vars) x e i (is_some free) cs all)) (sym face)
      (guard_sound p wf y s part d.function n k x e free cs asked kinds.2.closed (guard_apart p wf n d x e free cs at is) fresh typed fit free_part parts all refl)
      gives

  -- the walk of a node, with levels enough for all that comes after it
  pub walk_sound : (levels n : ℕ) (d : Node) → node_at p n ≡ Some d → length p.nodes ≤ levels + n → PartSound y s (walk levels p) n
  walk_sound zero n d at enough asked k fit gives =
      let within = slice_get_within p.nodes n d at in absurd (omega arith)
  walk_sound (suc levels) n d at enough asked k fit gives =
      let ih : (m : ℕ) → is_among m (parts d.core) ≡ true → (e : Node) × (node_at p m ≡ Some e) × PartSound y s (walk levels p) m =
      λ m on.
      let q = (wf.nodes n d at).parts_after m on in
      let after = q.0 in
      (q.1.0, q.1.1, walk_sound levels m q.1.0 q.1.1 (omega arith)) in
      let core = core_sound (walk levels p) n d d.core at refl (typing.nodes n d at).term ih asked k fit
      (subst (λ o. GivesFrom y s k (node_found p (walk levels p) n asked k o).vars) at gives) in
      subst (λ o. Sound s (y.envs n) (node_found p (walk levels p) n asked k o)) (sym at)
      (record { clean = core.clean; passes = core.passes; holds = core.holds })

  -- what a function or several find
  pub record AllSound (r : Found) : Type 0 where
    pub clean : r.findings ≡ []
    pub holds : AllByRecursion (Holds s) r.constraints

  function_sound : (f : ℕ) (g : Function) (k : ℕ) → function_at p f ≡ Some g → GivesFrom y s k (walk_function p f g k).vars → AllSound (walk_function p f g k)
  function_sound f g k at gives =
      let typed : FunctionTyped p y f g = typing.functions f g at in
      let node = (wf.functions f g at).body in
      let body : Found = walk (length p.nodes) p g.body (open_result p f g) k in
      let fit : TypeFits (y.results g.body) (result_under s (open_result p f g)) =
      subst (λ t. TypeFits (y.results g.body) t) (typed.result ∙ sym (agree.results f g at)) (type_same (y.results g.body)) in
      let sound = walk_sound (length p.nodes) g.body node.0 node.1 (omega arith) (open_result p f g) k fit gives in
      let names = names_fine s f (function_binders p f g body.needs)
      (names_all (NamePassed s) (open_param p f g) 0 (param_names 0 g.params) body.needs
      (param_places (λ x a. NamePassed s (binder_at body.needs x a)) (open_param p f g) 0 g.params
      (λ j a e.
      subst (λ o. PassesTo o (env_at s body.needs j)) (sym (agree.params f g at j) ∙ ap (need_under s) e)
      (passes_twice (param_type y f g j) (y.envs g.body j) (env_at s body.needs j) (typed.params j) (sound.passes j))))) in
      record {
        clean = nil_join body.findings (binder_findings f (function_binders p f g body.needs)) sound.clean names.0;
        holds = all_join (Holds s) body.constraints (binder_constraints f (function_binders p f g body.needs)) sound.holds names.1;
      }

  pub functions_sound : (f k : ℕ) (gs : List Function) → ((j : ℕ) (g : Function) → slice_get gs j ≡ Some g → function_at p (f + j) ≡ Some g) → GivesFrom y s k (walk_functions p f k gs).vars → AllSound (walk_functions p f k gs)
  functions_sound f k [] there gives = record { clean = refl; holds = tt }
  functions_sound f k (g ∷ gs) there gives =
      let first : Found = walk_function p f g k in
      let rest : Found = walk_functions p (suc f) (k + length first.vars) gs in
      let q = gives_parts y s k first.vars rest.vars gives in
      let place : f + 0 ≡ f = omega arith in
      let here = function_sound f g k (subst (λ n. function_at p n ≡ Some g) place (there 0 g refl)) q.0 in
      let later = functions_sound (suc f) (k + length first.vars) gs
      (λ j e is. let next : f + suc j ≡ suc f + j = omega arith in subst (λ n. function_at p n ≡ Some e) next (there (suc j) e is)) q.1 in
      record {
        clean = nil_join first.findings rest.findings here.clean later.clean;
        holds = all_join (Holds s) first.constraints rest.constraints here.holds later.holds;
      }

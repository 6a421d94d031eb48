-- An environment of a typing names no variable that its own node binds.
use Rattle.std.proofs.Common.{◌≡◌, ℕ, suc, ◌<◌, true, false, ◌||◌, nat_eq, if◌then◌else◌, List, [], ◌∷◌, length, Option, Some, None, refl, sym, ap, ◌∙◌, ◌⊎◌, inl, inr, ⊎_elim}
use Rattle.std.specs.Prelude.{is_some, slice_get, option_and_then}
use Rattle.std.specs.List.{AllByRecursion, flat_map}
use Rattle.std.proofs.lemmas.Bool.{or_cases, or_left, or_right, eq-eqb, eqb-true}
use Rattle.std.proofs.lemmas.Option.{slice_get_within}
use Rattle.pat_words_spec.specs.Patterns.{Pat, residual}
use Rattle.pat_semantics_spec.specs.Programs.{Program, Receiving, Sort, Function, TagDecl, Clause, Core, Val, Let, Call, If, Print, New, Send, Spawn, Guard, Node, node_at, parts, binders, option_list, clause_bodies, clause_binders, is_among}
use Rattle.pat_semantics_spec.specs.WellFormed.{WellFormed}
use Rattle.pat_semantics_laws.proofs.Scopes.{not_bound_here}
use Rattle.pat_type_system_spec.specs.Types.{Returnable, MailboxType, mailbox_type, TypeOf, TypeEnv, PassesTo, SplitsTo, without, returnable}
use Rattle.pat_type_system_spec.specs.Typings.{Typing, IsTyping, CoreTyped, ClauseTyped, param_type, sort_type, payload_type, clause_env, with_payloads, with_option, without_name}
use Rattle.pat_semantics_laws.proofs.Lists.{append_among, among_first, among_second, among_two}

some_passes : (h k : Option MailboxType) → PassesTo h k → is_some k ≡ true → is_some h ≡ true
some_passes None None p s = s
some_passes None (Some b) p s = absurd p
some_passes (Some a) k p s = refl

some_bound : (a b c : Option MailboxType) → SplitsTo a b c → is_some b ≡ true → is_some a ≡ true
some_bound None None None h s = s
some_bound None (Some b) c h s = absurd h
some_bound None None (Some c) h s = absurd h
some_bound (Some a) b c h s = refl

some_body : (a b c : Option MailboxType) → SplitsTo a b c → is_some c ≡ true → is_some a ≡ true
some_body None None None h s = s
some_body None (Some b) c h s = absurd h
some_body None None (Some c) h s = absurd h
some_body (Some a) b c h s = refl

some_returnable : (h : Option MailboxType) → is_some (returnable h) ≡ true → is_some h ≡ true
some_returnable None s = s
some_returnable (Some a) s = refl

some_without : (x : ℕ) (g : TypeEnv) (z : ℕ) → is_some (without x g z) ≡ true → is_some (g z) ≡ true
some_without x g z h =
    (elim (nat_eq x z) as (λ t. is_some (if t then None else g z) ≡ true → is_some (g z) ≡ true) [ true ↦ λ k. cc | false ↦ λ k. k ]) h

-- with names under types, a variable is one of the names or was there
some_option : (x : ℕ) (o : Option MailboxType) (g : TypeEnv) (z : ℕ) → is_some (with_option x o g z) ≡ true → (nat_eq z x ≡ true) ⊎ (is_some (g z) ≡ true)
some_option x None g z h = inr h
some_option x (Some a) g z h =
    (elim (nat_eq x z) as (λ t. nat_eq x z ≡ t → is_some (if t then Some a else g z) ≡ true → (nat_eq z x ≡ true) ⊎ (is_some (g z) ≡ true)) [
      | true ↦ λ q k. inl (eq-eqb z x (sym (eqb-true x z q)))
      | false ↦ λ q k. inr k
    ]) refl h

some_payloads : (types : TypeEnv) (k : ℕ) (xs : List ℕ) (g : TypeEnv) (z : ℕ) → is_some (with_payloads types k xs g z) ≡ true → (is_among z xs ≡ true) ⊎ (is_some (g z) ≡ true)
some_payloads types k [] g z h = inr h
some_payloads types k (x ∷ xs) g z h =
    ⊎_elim
    (λ l. inl (or_left (nat_eq z x) (is_among z xs) l))
    (λ r. ⊎_elim (λ l. inl (or_right (nat_eq z x) (is_among z xs) l)) (λ w. inr w) (some_payloads types (suc k) xs g z r))
    (some_option x (types k) (with_payloads types (suc k) xs g) z h)

some_clause : (g : TypeEnv) (x i : ℕ) (e : Pat) (decl : TagDecl) (r : Clause) (z : ℕ) → is_some (clause_env g x i e decl r z) ≡ true → (is_among z (clause_binders r) ≡ true) ⊎ (is_some (g z) ≡ true)
some_clause g x i e decl r z h =
    (elim (nat_eq r.from z) as (λ t. nat_eq r.from z ≡ t → is_some (if t then Some (mailbox_type i Receiving (residual e r.tag) Returnable) else with_payloads (payload_type decl) 0 r.vars (without x g) z) ≡ true → (is_among z (clause_binders r) ≡ true) ⊎ (is_some (g z) ≡ true)) [
      | true ↦ λ q k. inl (among_second z r.vars (r.from ∷ []) (or_left (nat_eq z r.from) false (eq-eqb z r.from (sym (eqb-true r.from z q)))))
      | false ↦ λ q k. ⊎_elim (λ l. inl (among_first z r.vars (r.from ∷ []) l)) (λ w. inr (some_without x g z w)) (some_payloads (payload_type decl) 0 r.vars (without x g) z k)
    ]) refl h

some_clauses : (p : Program) (y : Typing) (g : TypeEnv) (t : TypeOf) (x i : ℕ) (e : Pat) (cs : List Clause) (k z : ℕ) → AllByRecursion (ClauseTyped p y g t x i e) cs → is_among k (clause_bodies cs) ≡ true → is_some (y.envs k z) ≡ true → (is_some (g z) ≡ true) ⊎ (is_among z (flat_map clause_binders cs) ≡ true)
some_clauses p y g t x i e [] k z h a s = cc
some_clauses p y g t x i e (r ∷ cs) k z h a s =
    ⊎_elim
    (λ here.
    let there : is_some (y.envs r.body z) ≡ true = ap (λ b. is_some (y.envs b z)) (sym (eqb-true k r.body here)) ∙ s in
    ⊎_elim (λ l. inr (among_first z (clause_binders r) (flat_map clause_binders cs) l)) (λ w. inl w)
    (some_clause g x i e h.0.decl r z (some_passes (clause_env g x i e h.0.decl r z) (y.envs r.body z) (h.0.passes z) there)))
    (λ later. ⊎_elim (λ l. inl l) (λ w. inr (among_second z (clause_binders r) (flat_map clause_binders cs) w)) (some_clauses p y g t x i e cs k z h.1 later s))
    (or_cases (nat_eq k r.body) (is_among k (clause_bodies cs)) a)

option_one : (o : Option ℕ) (k : ℕ) → is_among k (option_list o) ≡ true → o ≡ Some k
option_one None k a = cc
option_one (Some m) k a = ap (λ x. Some x) (sym (eqb-true k m (⊎_elim (λ w. w) (λ w. cc) (or_cases (nat_eq k m) false a))))

some_name : (x : Option ℕ) (g : TypeEnv) (z : ℕ) → is_some (g z) ≡ true → (is_some (without_name x g z) ≡ true) ⊎ (is_among z (option_list x) ≡ true)
some_name None g z s = inl s
some_name (Some x) g z s =
    (elim (nat_eq x z) as (λ t. nat_eq x z ≡ t → (is_some (if t then None else g z) ≡ true) ⊎ ((nat_eq z x || false) ≡ true)) [
      | true ↦ λ q. inr (or_left (nat_eq z x) false (eq-eqb z x (sym (eqb-true x z q))))
      | false ↦ λ q. inl s
    ]) refl

-- what a part names, its term names or binds
part_named : (p : Program) (y : Typing) (g : TypeEnv) (t : TypeOf) (z : ℕ) (core : Core) (k : ℕ) → CoreTyped p y g t core → is_among k (parts core) ≡ true → is_some (y.envs k z) ≡ true → (is_some (g z) ≡ true) ⊎ (is_among z (binders core) ≡ true)
part_named p y g t z (Let x m n) k h a s =
    ⊎_elim
    (λ same. inl (some_bound (g z) (y.envs m z) (without_name x (y.envs n) z) (h.1 z) (ap (λ b. is_some (y.envs b z)) (sym same) ∙ s)))
    (λ same. ⊎_elim (λ l. inl (some_body (g z) (y.envs m z) (without_name x (y.envs n) z) (h.1 z) l)) (λ w. inr w) (some_name x (y.envs n) z (ap (λ b. is_some (y.envs b z)) (sym same) ∙ s)))
    (among_two k m n a)
part_named p y g t z (If e m n) k h a s =
    ⊎_elim
    (λ same. inl (some_passes (g z) (y.envs m z) (h.2 z) (ap (λ b. is_some (y.envs b z)) (sym same) ∙ s)))
    (λ same. inl (some_passes (g z) (y.envs n z) (h.3 z) (ap (λ b. is_some (y.envs b z)) (sym same) ∙ s)))
    (among_two k m n a)
part_named p y g t z (Spawn m) k h a s =
    let same : k ≡ m = eqb-true k m (⊎_elim (λ w. w) (λ w. cc) (or_cases (nat_eq k m) false a)) in
    inl (some_returnable (g z) (some_passes (returnable (g z)) (y.envs m z) (h.1 z) (ap (λ b. is_some (y.envs b z)) (sym same) ∙ s)))
part_named p y g t z (Guard x e f cs) k h a s =
    ⊎_elim
    (λ l. inl (some_without x g z (some_passes (without x g z) (y.envs k z) (h.free_passes k (option_one f k l) z) s)))
    (λ r. some_clauses p y g t x h.guarded.interface e cs k z h.receives r s)
    (append_among k (option_list f) (clause_bodies cs) a)
part_named p y g t z (Val e) k h a s = cc
part_named p y g t z (Call f args) k h a s = cc
part_named p y g t z (Print e) k h a s = cc
part_named p y g t z (New i) k h a s = cc
part_named p y g t z (Send x m args) k h a s = cc

-- a place of a signature that has a type is there
param_there : (y : Typing) (f : ℕ) (g : Function) (x : ℕ) → is_some (param_type y f g x) ≡ true → x < length g.params
param_there y f g x h = go (slice_get g.params x) refl h
  where
    go : (o : Option Sort) → slice_get g.params x ≡ o → is_some (option_and_then (sort_type (y.param_patterns f x)) o) ≡ true → x < length g.params
    go None e k = cc
    go (Some s) e k = slice_get_within g.params x s e

pub named_unbound : (p : Program) (y : Typing) → WellFormed p → IsTyping p y → (x n : ℕ) (d : Node) (a : MailboxType) → node_at p n ≡ Some d → y.envs n x ≡ Some a → is_among x (binders d.core) ≡ false
named_unbound p y wf i x n d a at named =
    not_bound_here p wf x (λ k. is_some (y.envs k x))
    (λ f g there some. param_there y f g x (some_passes (param_type y f g x) (y.envs g.body x) ((i.functions f g there).params x) some))
    (λ j e there k among some. part_named p y (y.envs j) (y.results j) x e.core k (i.nodes j e there).term among some)
    n d at (ap is_some named)

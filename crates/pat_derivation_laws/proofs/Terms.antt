-- The terms of a valid derivation are typed.
use Rattle.std.proofs.Common.{◌≡◌, ℕ, zero, suc, true, false, not, ◌&&◌, ◌||◌, nat_eq, List, [], ◌∷◌, ◌++◌, Option, Some, None, inl, inr, ⊎_elim, refl, sym, ap, ◌∙◌, subst, option_map, eqb-true}
use Rattle.std.specs.Prelude.{option_and_then, slice_get, is_some, nat_lt, if◌then◌else◌}
use Rattle.std.specs.List.{AllByRecursion, IsDistinct, list_all, list_any}
use Rattle.std.proofs.lemmas.Bool.{and_parts, or_left, or_right, or_parts, eq-eqb, cond-true, cond-false, cases_Bool}
use Rattle.pat_words_spec.specs.Patterns.{Pat, One, Tag}
use Rattle.pat_semantics_spec.specs.Values.{Base, BaseUnit, BaseInt, BaseBool, BaseText, Kind, Plain, MailboxOf, Op, Add, Sub, Mul, Equal, Less, Expr, VarExpr, Literal, OpExpr}
use Rattle.pat_semantics_spec.specs.Programs.{Program, Sending, Receiving, Sort, BaseSort, MailboxSort, kind_of, TagDecl, Function, Clause, Core, Let, Call, If, New, Send, Spawn, Node, node_at, function_at, parts, is_among}
use Rattle.pat_semantics_spec.specs.WellFormed.{WellFormed, CoreKinds, HasKind, op_kind, expr_kind}
use Rattle.pat_type_system_spec.specs.Types.{Second, Returnable, MailboxType, TypeOf, BaseTerm, MailboxTerm, kind_of_type, mailbox_type, TypeFits, EnvPasses, EnvSplits, TypeEnv, no_types, with_type, returnable, SplitsTo}
use Rattle.pat_type_system_spec.specs.Typings.{Typing, param_type, result_of, result_type, payload_sort, payload_type, args_need, mailbox_args, HasMailboxPayload, NamePasses, ValueTyped, without_name, name_type, NewTyped, CoreTyped}
use Rattle.pat_inclusion_spec.specs.Values.{Scope, pattern_of}
use Rattle.pat_derivation_spec.specs.Same.{is_mailbox_of, all_differ}
use Rattle.pat_derivation_spec.specs.Derivations.{Line, Derivation, line_at, scope_of, written_typing, typing_of}
use Rattle.pat_derivation_spec.specs.Scopes.{is_in_scope, kind_at}
use Rattle.pat_derivation_spec.specs.Demands.{Demand}
use Rattle.pat_derivation_spec.specs.Conditions.{then_others, but_not_name, passes, divides, to_part, result_passes, value_asks, value_names, name_demands, named_demands, let_demands, call_demands, send_demands, clauses_demand, target_demands, term_demands, first_demands, demands}
use Rattle.pat_derivation_spec.specs.Rules.{is_named_well, gives, args_differ, payloads_differ, tag_of_kind, has_mailbox_payload}
use Rattle.pat_derivation_spec.specs.Truth.{place, HoldsAt, HoldsThroughout}
use Rattle.pat_derivation_laws.proofs.DemandsMet.{kind_same, type_same, put_in, Met, all_first, all_second, all_met}
use Rattle.pat_derivation_laws.proofs.ScopeLaws.{name_outside}
use Rattle.pat_derivation_laws.proofs.Unbroken.{shaped}
use Rattle.pat_derivation_laws.proofs.Names.{in_neither, not_but, not_named, each_named, pass_all, divide_all, part_all, not_asked, type_other, without_none, put_all, put_type, put_without_name, put_args, put_returnable, put_names}
use Rattle.pat_derivation_laws.proofs.Signatures.{put_params, put_results, put_payload_types}
use Rattle.pat_type_schemes_spec.specs.NodeTypes.{need_of, Needs, result_under, env_open, result_open}
use Rattle.std.specs.Map.{keys_of}

-- ---- small facts

-- no operator gives a mailbox
op_plain : (op : Op) (a b : Option Kind) (i : ℕ) → op_kind op a b ≡ Some (MailboxOf i) → ⊥
op_plain Add (Some (Plain BaseInt)) (Some (Plain BaseInt)) i h = cc
op_plain Sub (Some (Plain BaseInt)) (Some (Plain BaseInt)) i h = cc
op_plain Mul (Some (Plain BaseInt)) (Some (Plain BaseInt)) i h = cc
op_plain Equal (Some (Plain BaseInt)) (Some (Plain BaseInt)) i h = cc
op_plain Equal (Some (Plain BaseBool)) (Some (Plain BaseBool)) i h = cc
op_plain Equal (Some (Plain BaseText)) (Some (Plain BaseText)) i h = cc
op_plain Less (Some (Plain BaseInt)) (Some (Plain BaseInt)) i h = cc
op_plain _ _ _ i h = cc

-- numbers that all differ are distinct
not_among : (x : ℕ) (ys : List ℕ) → not (is_among x ys) ≡ true → AllByRecursion (λ y. nat_eq x y ≡ false) ys
not_among x [] h = tt
not_among x (y ∷ ys) h =
    (elim (nat_eq x y) as (λ b. nat_eq x y ≡ b → not (b || is_among x ys) ≡ true → (nat_eq x y ≡ false) × AllByRecursion (λ z. nat_eq x z ≡ false) ys) [
      | true ↦ λ e k. cc
      | false ↦ λ e k. (e, not_among x ys k)
    ]) refl h

pub distinct : (xs : List ℕ) → all_differ xs ≡ true → IsDistinct nat_eq xs
unfolding IsDistinct
distinct [] h = tt
distinct (x ∷ xs) h =
    let both = and_parts (not (is_among x xs)) (all_differ xs) h in
    (not_among x xs both.0, distinct xs both.1)

-- a part among those of a let, an if or a clause
pub first_part : (m : ℕ) (ks : List ℕ) → is_among m (m ∷ ks) ≡ true
first_part m ks = or_left (nat_eq m m) (is_among m ks) (eq-eqb m m refl)

second_part : (m n : ℕ) → is_among n (m ∷ n ∷ []) ≡ true
second_part m n = or_right (nat_eq n m) (is_among n (n ∷ [])) (first_part n [])

base_kind : (t : TypeOf) (b : Base) → kind_of_type t ≡ Plain b → (c : Base) × (t ≡ BaseTerm c)
base_kind (BaseTerm c) b h = (c, refl)
base_kind (MailboxTerm i q e) b h = cc

not_plain_mailbox : (b : Base) (i : ℕ) → Plain b ≡ MailboxOf i → ⊥
not_plain_mailbox b i h = cc

sort_kind : (e : Pat) (a : Sort) → kind_of_type (result_of e a) ≡ kind_of a
sort_kind e (BaseSort b) = refl
sort_kind e (MailboxSort i q o) = refl

result_kind : (y : Typing) (f : ℕ) (g : Function) → kind_of_type (result_type y f g) ≡ kind_of g.result
result_kind y f g = sort_kind (y.result_patterns f) g.result

pub named_by : (bs : List ℕ) (es : Needs) (x : ℕ) (a : MailboxType) → list_all (λ y. is_among y bs) (keys_of es) ≡ true → need_of es x ≡ Some a → is_among x bs ≡ true
named_by bs es x a h at = each_named (λ e. is_among e.0 bs) es x a (over es h) at
  where
    over : (fs : Needs) → list_all (λ y. is_among y bs) (keys_of fs) ≡ true → list_all (λ (e : ℕ × MailboxType). is_among e.0 bs) fs ≡ true
    over [] q = refl
    over (f ∷ fs) q =
        let both = and_parts (is_among f.0 bs) (list_all (λ y. is_among y bs) (keys_of fs)) q in
        ap (λ b. b && list_all (λ (e : ℕ × MailboxType). is_among e.0 bs) fs) both.0 ∙ over fs both.1

-- where a payload is a mailbox the test finds one
pub payload_found : (decl : TagDecl) → HasMailboxPayload decl → has_mailbox_payload (Some decl) ≡ true
payload_found decl h = go decl.payloads h.0 h.1
  where
    go : (sorts : List Sort) (k : ℕ) → is_some (option_and_then payload_sort (slice_get sorts k)) ≡ true → list_any (λ a. is_some (payload_sort a)) sorts ≡ true
    go [] k q = cc
    go (a ∷ more) zero q = or_left (is_some (payload_sort a)) (list_any (λ b. is_some (payload_sort b)) more) q
    go (a ∷ more) (suc k) q = or_right (is_some (payload_sort a)) (list_any (λ b. is_some (payload_sort b)) more) (go more k q)

-- what the clauses demand is what each body demands
pub free_met : (s : Scope) (free : ℕ → List Demand) (receive : Clause → List Demand) (m : ℕ) (rs : List Clause) → AllByRecursion (Met s) (clauses_demand free receive (Some m) rs) → AllByRecursion (Met s) (free m)
free_met s free receive m [] h = h
free_met s free receive m (r ∷ rs) h =
    (elim (nat_lt m r.body) as (λ b. AllByRecursion (Met s) (if b then free m ++ (receive r ++ clauses_demand free receive None rs) else receive r ++ clauses_demand free receive (Some m) rs) → AllByRecursion (Met s) (free m)) [
      | true ↦ λ k. all_first (Met s) (free m) (receive r ++ clauses_demand free receive None rs) k
      | false ↦ λ k. free_met s free receive m rs (all_second (Met s) (receive r) (clauses_demand free receive (Some m) rs) k)
    ]) h

pub receives_met : (s : Scope) (free : ℕ → List Demand) (receive : Clause → List Demand) (o : Option ℕ) (rs : List Clause) → AllByRecursion (Met s) (clauses_demand free receive o rs) → AllByRecursion (λ r. AllByRecursion (Met s) (receive r)) rs
receives_met s free receive None [] h = tt
receives_met s free receive (Some m) [] h = tt
receives_met s free receive None (r ∷ rs) h =
    (all_first (Met s) (receive r) (clauses_demand free receive None rs) h, receives_met s free receive None rs (all_second (Met s) (receive r) (clauses_demand free receive None rs) h))
receives_met s free receive (Some m) (r ∷ rs) h =
    (elim (nat_lt m r.body) as (λ b. AllByRecursion (Met s) (if b then free m ++ (receive r ++ clauses_demand free receive None rs) else receive r ++ clauses_demand free receive (Some m) rs) → AllByRecursion (Met s) (receive r) × AllByRecursion (λ x. AllByRecursion (Met s) (receive x)) rs) [
      | true ↦ λ k. let later = all_second (Met s) (free m) (receive r ++ clauses_demand free receive None rs) k in
          (all_first (Met s) (receive r) (clauses_demand free receive None rs) later, receives_met s free receive None rs (all_second (Met s) (receive r) (clauses_demand free receive None rs) later))
      | false ↦ λ k. (all_first (Met s) (receive r) (clauses_demand free receive (Some m) rs) k, receives_met s free receive (Some m) rs (all_second (Met s) (receive r) (clauses_demand free receive (Some m) rs) k))
    ]) h

module _ (p : Program) (d : Derivation) (w : WellFormed p) (v : HoldsThroughout p d) where
  abbrev pub the_scope : Scope
  the_scope = scope_of p d

  abbrev pub the_typing : Typing
  the_typing = typing_of p d

  -- what stands in the line, with values put in
  abbrev pub own : Line → TypeEnv
  own l = put_all the_scope (need_of l.of.needs)

  pub envs_at : (n : ℕ) (l : Line) → line_at d n ≡ Some l → the_typing.envs n ≡ own l
  envs_at n l there = ap (λ o. put_all the_scope (env_open (option_map (λ (k : Line). k.of) o))) there

  pub result_at : (n : ℕ) (l : Line) → line_at d n ≡ Some l → the_typing.results n ≡ result_under (pattern_of the_scope) l.of.result
  result_at n l there = ap (λ o. result_under (pattern_of the_scope) (result_open (option_map (λ (k : Line). k.of) o))) there

  -- all demands of a node are met
  pub demands_met : (n : ℕ) (c : Node) (u : HoldsAt p d n c) → AllByRecursion (Met the_scope) (demands p d (place n c u.function u.line))
  demands_met n c u = all_met the_scope (demands p d (place n c u.function u.line)) u.uses u.drops u.inclusions

  pub terms_met : (n : ℕ) (c : Node) (u : HoldsAt p d n c) → AllByRecursion (Met the_scope) (term_demands p d u.function.vars u.line c.core)
  terms_met n c u =
      let k = place n c u.function u.line in
      all_second (Met the_scope) (first_demands p d k) (term_demands p d u.function.vars u.line c.core) (demands_met n c u)

  -- ---- nodes and their parts

  pub record Part (m : ℕ) (c : Node) : Type 0 where
    pub node : Node
    pub at : node_at p m ≡ Some node
    pub alike : node.function ≡ c.function
    pub un : HoldsAt p d m node

  pub part_at : (n : ℕ) (c : Node) → node_at p n ≡ Some c → (m : ℕ) → is_among m (parts c.core) ≡ true → Part m c
  part_at n c at m h =
      let k = (w.nodes n c at).parts_after m h in
      record { node = k.1.0; at = k.1.1; alike = k.1.2; un = v m k.1.0 k.1.1 }

  -- the kinds of the term, by the function that the derivation's line is looked at with
  pub kinds_at : (n : ℕ) (c : Node) → node_at p n ≡ Some c → (u : HoldsAt p d n c) → CoreKinds p u.function.vars c.kind c.core
  kinds_at n c at u =
      let f = w.nodes n c at in
      let same : f.function ≡ u.function = some_same f.function u.function (sym f.of ∙ u.of) in
      subst (λ g. CoreKinds p g.vars c.kind c.core) same f.kinds
    where
      some_same : (a b : Function) → Some a ≡ Some b → a ≡ b
      some_same a b h = cc

  pub kind_is : (n : ℕ) (c : Node) (u : HoldsAt p d n c) → kind_of_type u.line.of.result ≡ c.kind
  kind_is n c u = kind_same (kind_of_type u.line.of.result) c.kind (shaped p d n c u.function u.line u.shape).kind

  -- a variable that the line names has the kind of its interface
  pub named_kind : (n : ℕ) (c : Node) → node_at p n ≡ Some c → (u : HoldsAt p d n c) → (x : ℕ) (a : MailboxType) → need_of u.line.of.needs x ≡ Some a → slice_get u.function.vars x ≡ Some (MailboxOf a.interface)
  named_kind n c at u x a named =
      let h = each_named (is_named_well p d n) u.line.of.needs x a (shaped p d n c u.function u.line u.shape).named named in
      let k = (and_parts (is_in_scope p n x) (is_mailbox_of a.interface (kind_at p n x) && _) h).1 in
      let m = (and_parts (is_mailbox_of a.interface (kind_at p n x)) _ k).0 in
      go (slice_get u.function.vars x) refl (subst (λ o. is_mailbox_of a.interface o ≡ true) there m)
    where
      there : kind_at p n x ≡ slice_get u.function.vars x
      there =
          ap (λ o. option_and_then (λ (g : Function). slice_get g.vars x) (option_and_then (λ (e : Node). function_at p e.function) o)) at
          ∙ ap (λ o. option_and_then (λ (g : Function). slice_get g.vars x) o) u.of

      go : (o : Option Kind) → slice_get u.function.vars x ≡ o → is_mailbox_of a.interface o ≡ true → slice_get u.function.vars x ≡ Some (MailboxOf a.interface)
      go None q h = cc
      go (Some k) q h = q ∙ ap (λ y. Some y) (kind_same k (MailboxOf a.interface) h)

  -- a tail of the node has its type
  pub tail_is : (m : ℕ) (t : TypeOf) (l : Line) → line_at d m ≡ Some l → gives t (line_at d m) ≡ true → the_typing.results m ≡ result_under (pattern_of the_scope) t
  tail_is m t l there h =
      result_at m l there ∙ ap (result_under (pattern_of the_scope)) (type_same l.of.result t (subst (λ o. gives t o ≡ true) there h))

  -- what passes to a part
  pub part_passes : (xs : List ℕ) (g : TypeEnv) (m : ℕ) (l : Line) → line_at d m ≡ Some l → AllByRecursion (Met the_scope) (to_part d xs g m) → ((x : ℕ) → is_among x xs ≡ false → g x ≡ None) → EnvPasses (put_all the_scope g) (the_typing.envs m)
  part_passes xs g m l there a none =
      subst (EnvPasses (put_all the_scope g)) (sym (envs_at m l there)) (part_all the_scope d xs g m l there a none)

  -- what is asked of the variables of a term without parts
  asks_pass : (l : Line) (xs : List ℕ) (h : TypeEnv) → AllByRecursion (Met the_scope) (passes (then_others xs (keys_of l.of.needs)) (need_of l.of.needs) h) → ((x : ℕ) → is_among x xs ≡ false → h x ≡ None) → EnvPasses (own l) (put_all the_scope h)
  asks_pass l xs h a none =
      pass_all the_scope (then_others xs (keys_of l.of.needs)) (need_of l.of.needs) h a
      (λ x q. let both = in_neither x xs (keys_of l.of.needs) q in (not_named l.of.needs x both.1, none x both.0))

  pub nothing_asked : (l : Line) → AllByRecursion (Met the_scope) (passes (keys_of l.of.needs) (need_of l.of.needs) no_types) → EnvPasses (own l) no_types
  nothing_asked l a = pass_all the_scope (keys_of l.of.needs) (need_of l.of.needs) no_types a (λ x q. (not_named l.of.needs x q, refl))

  -- ---- the terms, one after another

  abbrev pub node : Core → Kind → ℕ → Node
  node core k f = record { core = core; kind = k; function = f }

  pub value_typed : (vars : List Kind) (l : Line) (t : TypeOf) (e : Expr) → expr_kind vars e ≡ Some (kind_of_type t) → AllByRecursion (Met the_scope) (passes (then_others (value_names t e) (keys_of l.of.needs)) (need_of l.of.needs) (value_asks t e)) → ValueTyped (result_under (pattern_of the_scope) t) e (own l)
  value_typed vars l (BaseTerm b) e k a = asks_pass l [] no_types a (λ x q. refl)
  value_typed vars l (MailboxTerm i q f) (VarExpr x) k a =
      subst (EnvPasses (own l)) (put_type the_scope x (mailbox_type i q f Returnable) no_types)
      (asks_pass l (x ∷ []) (with_type x (mailbox_type i q f Returnable) no_types) a
      (λ z h. type_other x z (mailbox_type i q f Returnable) no_types (alone z x h)))
    where
      alone : (z x : ℕ) → is_among z (x ∷ []) ≡ false → nat_eq z x ≡ false
      alone z x h = elim (nat_eq z x) as (λ b. (b || false) ≡ false → b ≡ false) [ true ↦ λ q. q | false ↦ λ q. refl ] h
  value_typed vars l (MailboxTerm i q f) (Literal c) k a = cc
  value_typed vars l (MailboxTerm i q f) (OpExpr op x y) k a = absurd (op_plain op (expr_kind vars x) (expr_kind vars y) i k)

  name_passes : (n m b : ℕ) (c : Node) → node_at p n ≡ Some c → (u : HoldsAt p d n c) → (pm : Part m c) → (pb : Part b c) → (x : Option ℕ) → CoreKinds p u.function.vars c.kind (Let x m b) → AllByRecursion (Met the_scope) (named_demands u.function.vars pm.un.line pb.un.line x) → NamePasses (result_under (pattern_of the_scope) pm.un.line.of.result) (name_type x (own pb.un.line))
  name_passes n m b c at u pm pb None k a =
      let same : pm.node.kind ≡ Plain BaseUnit = kind_there k.0 in
      let t = base_kind pm.un.line.of.result BaseUnit (kind_is m pm.node pm.un ∙ same) in
      subst (λ y. NamePasses (result_under (pattern_of the_scope) y) None) (sym t.1) refl
    where
      kind_there : HasKind p m (Plain BaseUnit) → pm.node.kind ≡ Plain BaseUnit
      kind_there h = let s : h.0 ≡ pm.node = node_same h.0 pm.node (sym h.1 ∙ pm.at) in ap (λ (y : Node). y.kind) (sym s) ∙ h.2
        where
          node_same : (a b : Node) → Some a ≡ Some b → a ≡ b
          node_same a b q = cc
  name_passes n m b c at u pm pb (Some x) k a = go k.0 k.1 (kind_there k.0 k.2)
    where
      node_same : (a b : Node) → Some a ≡ Some b → a ≡ b
      node_same a b q = cc

      function_same : (a b : Function) → Some a ≡ Some b → a ≡ b
      function_same a b q = cc

      kind_there : (j : Kind) → HasKind p m j → pm.node.kind ≡ j
      kind_there j h = let s : h.0 ≡ pm.node = node_same h.0 pm.node (sym h.1 ∙ pm.at) in ap (λ (y : Node). y.kind) (sym s) ∙ h.2

      alike : pb.un.function ≡ u.function
      alike = function_same pb.un.function u.function (sym pb.un.of ∙ ap (function_at p) pb.alike ∙ u.of)

      absent : (j : Base) → slice_get u.function.vars x ≡ Some (Plain j) → (o : Option MailboxType) → need_of pb.un.line.of.needs x ≡ o → put_in the_scope o ≡ None
      absent j q None e = refl
      absent j q (Some y) e =
          let has = subst (λ (g : Function). slice_get g.vars x ≡ Some (MailboxOf y.interface)) alike (named_kind b pb.node pb.at pb.un x y e) in
          let wrong : Some (Plain j) ≡ Some (MailboxOf y.interface) = sym q ∙ has in
          cc

      go : (j : Kind) → slice_get u.function.vars x ≡ Some j → pm.node.kind ≡ j → NamePasses (result_under (pattern_of the_scope) pm.un.line.of.result) (own pb.un.line x)
      go (Plain j) q same =
          let t = base_kind pm.un.line.of.result j (kind_is m pm.node pm.un ∙ same) in
          subst (λ y. NamePasses (result_under (pattern_of the_scope) y) (own pb.un.line x)) (sym t.1)
          (absent j q (need_of pb.un.line.of.needs x) refl)
      go (MailboxOf i) q same =
          (subst (λ o. AllByRecursion (Met the_scope) (name_demands o pm.un.line.of.result (need_of pb.un.line.of.needs x))) q a).0

  pub let_typed : (n m b : ℕ) (x : Option ℕ) (k : Kind) (f : ℕ) → node_at p n ≡ Some (node (Let x m b) k f) → (u : HoldsAt p d n (node (Let x m b) k f)) → CoreTyped p the_typing (own u.line) (result_under (pattern_of the_scope) u.line.of.result) (Let x m b)
  let_typed n m b x k f at u =
      let c = node (Let x m b) k f in
      let l = u.line in
      let pm = part_at n c at m (first_part m (b ∷ [])) in
      let pb = part_at n c at b (second_part m b) in
      let lm = pm.un.line in
      let lb = pb.un.line in
      let met = subst (λ o. AllByRecursion (Met the_scope) (let_demands u.function.vars l x (Some lm) o)) pb.un.there
      (subst (λ o. AllByRecursion (Met the_scope) (let_demands u.function.vars l x o (line_at d b))) pm.un.there (terms_met n c u)) in
      let first = without_name x (need_of lm.of.needs) in
      let bound = without_name x (need_of lb.of.needs) in
      let names = then_others (keys_of l.of.needs) (but_not_name x (keys_of lm.of.needs)) in
      let xs = then_others names (but_not_name x (keys_of lb.of.needs)) in
      let parts_met = all_first (Met the_scope) (divides xs (need_of l.of.needs) first bound) (named_demands u.function.vars lm lb x) met in
      let name_met = all_second (Met the_scope) (divides xs (need_of l.of.needs) first bound) (named_demands u.function.vars lm lb x) met in
      let split : EnvSplits (own l) (put_all the_scope first) (put_all the_scope bound) =
      divide_all the_scope xs (need_of l.of.needs) first bound parts_met
      (λ z q.
      let outer = in_neither z names (but_not_name x (keys_of lb.of.needs)) q in
      let inner = in_neither z (keys_of l.of.needs) (but_not_name x (keys_of lm.of.needs)) outer.0 in
      (not_named l.of.needs z inner.0, bound_none x lm.of.needs z inner.1, bound_none x lb.of.needs z outer.1)) in
      let split_whole : EnvSplits (own l) (own lm) (put_all the_scope bound) =
      λ z. subst (λ o. SplitsTo (own l z) (put_in the_scope o) (put_in the_scope (bound z))) (whole x lm.of.needs z (unnamed pm.node pm.at pm.un)) (split z) in
      let split_there : EnvSplits (own l) (the_typing.envs m) (without_name x (the_typing.envs b)) =
      subst (λ h. EnvSplits (own l) h (without_name x (the_typing.envs b))) (sym (envs_at m lm pm.un.there))
      (subst (EnvSplits (own l) (own lm)) (put_without_name the_scope x (need_of lb.of.needs) ∙ ap (without_name x) (sym (envs_at b lb pb.un.there))) split_whole) in
      let name : NamePasses (the_typing.results m) (name_type x (the_typing.envs b)) =
      subst (λ t. NamePasses t (name_type x (the_typing.envs b))) (sym (result_at m lm pm.un.there))
      (subst (λ h. NamePasses (result_under (pattern_of the_scope) lm.of.result) (name_type x h)) (sym (envs_at b lb pb.un.there))
      (name_passes n m b c at u pm pb x (kinds_at n c at u) name_met)) in
      (tail_is b l.of.result lb pb.un.there (shaped p d n c u.function u.line u.shape).tails, split_there, name)
    where
      bound_none : (y : Option ℕ) (es : Needs) (z : ℕ) → is_among z (but_not_name y (keys_of es)) ≡ false → without_name y (need_of es) z ≡ None
      bound_none None es z q = not_named es z q
      bound_none (Some y) es z q =
          without_none y z (need_of es) (⊎_elim (λ t. inl t) (λ g. inr (not_named es z g)) (not_but y z (keys_of es) q))

      -- the bound part doesn't name the let's name, which isn't in scope there
      whole : (y : Option ℕ) (es : Needs) (z : ℕ) → ((y0 : ℕ) → y ≡ Some y0 → need_of es y0 ≡ None) → without_name y (need_of es) z ≡ need_of es z
      whole None es z none = refl
      whole (Some y) es z none =
          ⊎_elim
          (λ t. cond-true (nat_eq y z) None (need_of es z) t ∙ sym (ap (need_of es) (sym (eqb-true y z t)) ∙ none y refl))
          (λ g. cond-false (nat_eq y z) None (need_of es z) g)
          (cases_Bool (nat_eq y z))

      unnamed : (e : Node) → node_at p m ≡ Some e → (h : HoldsAt p d m e) → (y : ℕ) → x ≡ Some y → need_of h.line.of.needs y ≡ None
      unnamed e there h y is = go (need_of h.line.of.needs y) refl
        where
          at_let : node_at p n ≡ Some (node (Let (Some y) m b) k f)
          at_let = at ∙ ap (λ o. Some (node (Let o m b) k f)) is

          go : (o : Option MailboxType) → need_of h.line.of.needs y ≡ o → need_of h.line.of.needs y ≡ None
          go None q = q
          go (Some a) q =
              let good = each_named (is_named_well p d m) h.line.of.needs y a (shaped p d m e h.function h.line h.shape).named q in
              let inside = (and_parts (is_in_scope p m y) _ good).0 in
              let outside = name_outside p w y n m b k f at_let in
              let wrong : false ≡ true = sym outside ∙ inside in
              cc

  result_fits : (s t : TypeOf) → kind_of_type s ≡ kind_of_type t → AllByRecursion (Met the_scope) (result_passes s t) → TypeFits (result_under (pattern_of the_scope) s) (result_under (pattern_of the_scope) t)
  result_fits (BaseTerm b) (BaseTerm c) k a = base_is b c k
    where
      base_is : (b c : Base) → Plain b ≡ Plain c → b ≡ c
      base_is b c h = cc
  result_fits (BaseTerm b) (MailboxTerm j r f) k a = cc
  result_fits (MailboxTerm i q e) (BaseTerm c) k a = cc
  result_fits (MailboxTerm i q e) (MailboxTerm j r f) k a = a.0

  pub call_typed : (n g : ℕ) (args : List Expr) (k : Kind) (f : ℕ) → node_at p n ≡ Some (node (Call g args) k f) → (u : HoldsAt p d n (node (Call g args) k f)) → CoreTyped p the_typing (own u.line) (result_under (pattern_of the_scope) u.line.of.result) (Call g args)
  call_typed n g args k f at u =
      let c = node (Call g args) k f in
      let l = u.line in
      let kinds = kinds_at n c at u in
      let h = kinds.0 in
      let there = kinds.1 in
      let y0 = written_typing p d in
      let types = param_type y0 g h in
      let same : put_all the_scope types ≡ param_type the_typing g h = put_params p d g h w there in
      let met = subst (λ o. AllByRecursion (Met the_scope) (call_demands y0 l g args o)) there (terms_met n c u) in
      let asked = passes (then_others (mailbox_args types 0 args) (keys_of l.of.needs)) (need_of l.of.needs) (args_need types 0 args) in
      let given = result_passes (result_type y0 g h) l.of.result in
      let differ = distinct (mailbox_args types 0 args) (subst (λ o. args_differ y0 g args o ≡ true) there u.alias) in
      let kind : kind_of_type (result_type y0 g h) ≡ kind_of_type l.of.result = result_kind y0 g h ∙ kinds.3 ∙ sym (kind_is n c u) in (
        h,
        there,
        subst (IsDistinct nat_eq) (sym (put_names the_scope types 0 args) ∙ ap (λ e. mailbox_args e 0 args) same) differ,
        subst (EnvPasses (own l)) (put_args the_scope types 0 args ∙ ap (λ e. args_need e 0 args) same)
            (asks_pass l (mailbox_args types 0 args) (args_need types 0 args) (all_first (Met the_scope) asked given met) (not_asked types 0 args)),
        subst (λ t. TypeFits t (result_under (pattern_of the_scope) l.of.result)) (put_results p d g h w there)
            (result_fits (result_type y0 g h) l.of.result kind (all_second (Met the_scope) asked given met)),
      )

  pub if_typed : (n m b : ℕ) (e : Expr) (k : Kind) (f : ℕ) → node_at p n ≡ Some (node (If e m b) k f) → (u : HoldsAt p d n (node (If e m b) k f)) → CoreTyped p the_typing (own u.line) (result_under (pattern_of the_scope) u.line.of.result) (If e m b)
  if_typed n m b e k f at u =
      let c = node (If e m b) k f in
      let l = u.line in
      let pm = part_at n c at m (first_part m (b ∷ [])) in
      let pb = part_at n c at b (second_part m b) in
      let met = terms_met n c u in
      let names = keys_of l.of.needs in
      let types = need_of l.of.needs in
      let tails = and_parts (gives l.of.result (line_at d m)) (gives l.of.result (line_at d b)) (shaped p d n c u.function u.line u.shape).tails in (
        tail_is m l.of.result pm.un.line pm.un.there tails.0,
        tail_is b l.of.result pb.un.line pb.un.there tails.1,
        part_passes names types m pm.un.line pm.un.there (all_first (Met the_scope) (to_part d names types m) (to_part d names types b) met) (λ x q. not_named l.of.needs x q),
        part_passes names types b pb.un.line pb.un.there (all_second (Met the_scope) (to_part d names types m) (to_part d names types b) met) (λ x q. not_named l.of.needs x q),
      )

  pub new_typed : (n i : ℕ) (k : Kind) (f : ℕ) → node_at p n ≡ Some (node (New i) k f) → (u : HoldsAt p d n (node (New i) k f)) → CoreTyped p the_typing (own u.line) (result_under (pattern_of the_scope) u.line.of.result) (New i)
  new_typed n i k f at u =
      let c = node (New i) k f in
      let l = u.line in
      let met = terms_met n c u in
      let made = result_passes (MailboxTerm i Receiving One) l.of.result in
      let rest = passes (keys_of l.of.needs) (need_of l.of.needs) no_types in (
        is_new l.of.result (kind_is n c u ∙ (kinds_at n c at u).0) (all_first (Met the_scope) made rest met),
        nothing_asked l (all_second (Met the_scope) made rest met),
      )
    where
      is_new : (t : TypeOf) → kind_of_type t ≡ MailboxOf i → AllByRecursion (Met the_scope) (result_passes (MailboxTerm i Receiving One) t) → NewTyped i (result_under (pattern_of the_scope) t)
      is_new (BaseTerm b) q a = cc
      is_new (MailboxTerm j Receiving e) q a = let h = a.0 in (h.interface, h.pattern)
      is_new (MailboxTerm j Sending e) q a = let h = a.0 in let r : Receiving ≡ Sending = h.polarity in cc

  pub send_typed : (n x m : ℕ) (args : List Expr) (k : Kind) (f : ℕ) → node_at p n ≡ Some (node (Send x m args) k f) → (u : HoldsAt p d n (node (Send x m args) k f)) → CoreTyped p the_typing (own u.line) (result_under (pattern_of the_scope) u.line.of.result) (Send x m args)
  send_typed n x m args k f at u =
      let c = node (Send x m args) k f in
      let l = u.line in
      let kinds = (kinds_at n c at u).1 in
      let i = kinds.0 in
      let decl = kinds.1 in
      let there = kinds.3 in
      let types = payload_type decl in
      let target = mailbox_type i Sending (Tag m) Second in
      let same : put_all the_scope types ≡ types = put_payload_types p the_scope i m decl w there in
      let met = subst (λ o. AllByRecursion (Met the_scope) (send_demands l i x m args o)) there
      (subst (λ o. AllByRecursion (Met the_scope) (target_demands p l x m args o)) kinds.2 (terms_met n c u)) in
      let differ = subst (λ o. payloads_differ x args o ≡ true) there (subst (λ o. payloads_differ x args (tag_of_kind p m o) ≡ true) kinds.2 u.alias) in (
        i,
        decl,
        there,
        distinct (x ∷ mailbox_args types 0 args) differ,
        subst (EnvPasses (own l))
            (put_type the_scope x target (args_need types 0 args)
            ∙ ap (with_type x target) (put_args the_scope types 0 args ∙ ap (λ e. args_need e 0 args) same))
            (asks_pass l (x ∷ mailbox_args types 0 args) (with_type x target (args_need types 0 args)) met
            (λ z q. let both = or_parts (nat_eq z x) (is_among z (mailbox_args types 0 args)) q in
            type_other x z target (args_need types 0 args) both.0 ∙ not_asked types 0 args z both.1)),
      )

  pub spawn_typed : (n m : ℕ) (k : Kind) (f : ℕ) → node_at p n ≡ Some (node (Spawn m) k f) → (u : HoldsAt p d n (node (Spawn m) k f)) → CoreTyped p the_typing (own u.line) (result_under (pattern_of the_scope) u.line.of.result) (Spawn m)
  spawn_typed n m k f at u =
      let c = node (Spawn m) k f in
      let l = u.line in
      let pm = part_at n c at m (first_part m []) in
      let ret : TypeEnv = λ x. returnable (need_of l.of.needs x) in (
        tail_is m (BaseTerm BaseUnit) pm.un.line pm.un.there (shaped p d n c u.function u.line u.shape).tails,
        subst (λ g. EnvPasses g (the_typing.envs m)) (put_returnable the_scope (need_of l.of.needs))
            (part_passes (keys_of l.of.needs) ret m pm.un.line pm.un.there (terms_met n c u) (λ x q. ap returnable (not_named l.of.needs x q))),
      )

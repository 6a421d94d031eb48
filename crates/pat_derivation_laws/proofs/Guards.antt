-- The guards of a valid derivation are typed, and so are all its terms.
use Rattle.std.proofs.Common.{◌≡◌, ℕ, true, false, not, ◌||◌, nat_eq, List, [], ◌∷◌, ◌++◌, Option, Some, None, inl, inr, ⊎_elim, refl, sym, ap, ◌∙◌, subst}
use Rattle.std.specs.Prelude.{slice_get, is_some}
use Rattle.std.specs.List.{AllByRecursion, list_all}
use Rattle.std.proofs.lemmas.Bool.{and_parts, or_cases, or_right}
use Rattle.pat_words_spec.specs.Patterns.{Pat, residual, is_closed, Covers}
use Rattle.pat_words_laws.proofs.CoverLaws.{covers_to}
use Rattle.pat_semantics_spec.specs.Values.{Kind, MailboxOf}
use Rattle.pat_semantics_spec.specs.Programs.{Program, Receiving, TagDecl, Clause, Core, Val, Let, Call, If, Print, New, Send, Spawn, Guard, Node, node_at, tag_at, is_among, clause_binders, clause_bodies, option_list}
use Rattle.pat_semantics_spec.specs.WellFormed.{WellFormed, ClauseKinds}
use Rattle.pat_type_system_spec.specs.Types.{Returnable, MailboxType, TypeOf, mailbox_type, Fits, PassesTo, EnvPasses, TypeEnv, no_types, with_type, without}
use Rattle.pat_type_system_spec.specs.Typings.{Typing, payload_type, with_payloads, clause_env, HasMailboxPayload, ClauseTyped, is_received, GuardTyped, CoreTyped}
use Rattle.pat_inclusion_spec.specs.Values.{Scope, pattern_of}
use Rattle.pat_derivation_spec.specs.Derivations.{Line, Derivation, line_at}
use Rattle.pat_derivation_spec.specs.Demands.{Demand}
use Rattle.pat_derivation_spec.specs.Conditions.{then_others, but_not, passes, clause_demands, free_demands, bodies_demand, guard_demands}
use Rattle.pat_derivation_spec.specs.Rules.{gives, gives_too, has_mailbox_payload, names_only, clause_keeps_apart}
use Rattle.pat_derivation_spec.specs.Truth.{HoldsAt, HoldsThroughout}
use Rattle.pat_words_laws.proofs.ClosedPatterns.{residual_closed}
use Rattle.pat_derivation_laws.proofs.Filled.{filled_closed}
use Rattle.pat_derivation_laws.proofs.DemandsMet.{put_in, Met}
use Rattle.pat_derivation_laws.proofs.Unbroken.{shaped}
use Rattle.pat_derivation_laws.proofs.Names.{not_but, not_named, pass_all, without_none, clause_none, put_all, put_type, put_without, put_payloads}
use Rattle.pat_derivation_laws.proofs.Signatures.{put_payload_types}
use Rattle.pat_derivation_laws.proofs.Terms.{named_by, payload_found, free_met, receives_met, first_part, the_scope, the_typing, own, envs_at, terms_met, Part, part_at, kinds_at, tail_is, part_passes, nothing_asked, node, value_typed, kind_is, let_typed, call_typed, if_typed, new_typed, send_typed, spawn_typed}
use Rattle.pat_type_schemes_spec.specs.NodeTypes.{need_of, Needs, type_under, result_under}
use Rattle.std.specs.Map.{keys_of}

among_right : (x : ℕ) (xs ys : List ℕ) → is_among x ys ≡ true → is_among x (xs ++ ys) ≡ true
among_right x [] ys h = h
among_right x (z ∷ xs) ys h = or_right (nat_eq x z) (is_among x (xs ++ ys)) (among_right x xs ys h)

-- what is there for a guard but its variable, at a name that it doesn't have
but_none : (es : Needs) (x z : ℕ) → is_among z (but_not x (keys_of es)) ≡ false → without x (need_of es) z ≡ None
but_none es x z q =
    without_none x z (need_of es) (⊎_elim (λ t. inl t) (λ g. inr (not_named es z g)) (not_but x z (keys_of es) q))

module _ (p : Program) (d : Derivation) (w : WellFormed p) (v : HoldsThroughout p d) where
  abbrev s : Scope
  s = the_scope p d w v

  abbrev y : Typing
  y = the_typing p d w v

  -- what is there for a clause, with values put in
  clause_put : (g : TypeEnv) (x i : ℕ) (e : Pat) (decl : TagDecl) (r : Clause) → is_closed e ≡ true → tag_at p i r.tag ≡ Some decl → put_all s (clause_env g x i e decl r) ≡ clause_env (put_all s g) x i e decl r
  clause_put g x i e decl r closed there =
      let rest = residual e r.tag in
      let from = mailbox_type i Receiving rest Returnable in
      let types = payload_type decl in
      put_type s r.from from (with_payloads types 0 r.vars (without x g))
      ∙ ap (λ t. with_type r.from (mailbox_type i Receiving t Returnable) (put_all s (with_payloads types 0 r.vars (without x g)))) (filled_closed s rest (residual_closed e r.tag closed))
      ∙ ap (with_type r.from from)
      (put_payloads s types 0 r.vars (without x g)
      ∙ ap (λ t. with_payloads t 0 r.vars (put_all s (without x g))) (put_payload_types p s i r.tag decl w there)
      ∙ ap (with_payloads types 0 r.vars) (put_without s x g))

  -- beside a mailbox payload the body names the clause's own names alone
  clause_apart : (r : Clause) (decl : TagDecl) (l : Line) → line_at d r.body ≡ Some l → (not (has_mailbox_payload (Some decl)) || names_only (clause_binders r) (Some l)) ≡ true → HasMailboxPayload decl → (z : ℕ) → is_some (y.envs r.body z) ≡ true → is_among z (clause_binders r) ≡ true
  clause_apart r decl l there h has z some =
      let found = payload_found decl has in
      let names : names_only (clause_binders r) (Some l) ≡ true = ⊎_elim (λ n. let c : false ≡ true = sym (ap not found) ∙ n in cc) (λ k. k) (or_cases (not (has_mailbox_payload (Some decl))) (names_only (clause_binders r) (Some l)) h) in
      go (need_of l.of.needs z) refl (sym (ap (λ (g : TypeEnv). is_some (g z)) (envs_at p d w v r.body l there)) ∙ some) names
    where
      go : (o : Option MailboxType) → need_of l.of.needs z ≡ o → is_some (put_in s (need_of l.of.needs z)) ≡ true → names_only (clause_binders r) (Some l) ≡ true → is_among z (clause_binders r) ≡ true
      go None q k names = let c : false ≡ true = sym (ap (λ o. is_some (put_in s o)) q) ∙ k in cc
      go (Some a) q k names = named_by (clause_binders r) l.of.needs z a names q

  clause_typed : (es : Needs) (t : TypeOf) (vars : List Kind) (x i : ℕ) (e : Pat) (k : Kind) (r : Clause) (c : Node) → slice_get vars x ≡ Some (MailboxOf i) → is_closed e ≡ true → ClauseKinds p vars i k r → Part p d w v r.body c → AllByRecursion (Met s) (clause_demands d (keys_of es) (need_of es) x i e r (tag_at p i r.tag)) → gives t (line_at d r.body) ≡ true → clause_keeps_apart p d (slice_get vars x) r ≡ true → ClauseTyped p y (put_all s (need_of es)) (result_under (pattern_of s) t) x i e r
  clause_typed es t vars x i e k r c mail closed kinds part met tail apart =
      let decl = kinds.decl in
      let there = kinds.declared in
      let l = part.un.line in
      let given = clause_env (need_of es) x i e decl r in
      let xs = then_others (but_not x (keys_of es)) (r.from ∷ r.vars) in
      let met_there = subst (λ o. AllByRecursion (Met s) (clause_demands d (keys_of es) (need_of es) x i e r o)) there met in
      let alone = subst (λ o. (not (has_mailbox_payload (Some decl)) || names_only (clause_binders r) o) ≡ true) part.un.there
      (subst (λ o. (not (has_mailbox_payload o) || names_only (clause_binders r) (line_at d r.body)) ≡ true) there
      (subst (λ o. clause_keeps_apart p d o r ≡ true) mail apart)) in
      record {
        decl = decl;
        declared = there;
        result = tail_is p d w v r.body t l part.un.there tail;
        passes = subst (λ g. EnvPasses g (y.envs r.body)) (clause_put (need_of es) x i e decl r closed there)
            (part_passes p d w v xs given r.body l part.un.there met_there (clause_none es x i e decl r));
        own_names = clause_apart r decl l part.un.there alone;
      }

  clauses_typed : (es : Needs) (t : TypeOf) (vars : List Kind) (x i : ℕ) (e : Pat) (k : Kind) (rs : List Clause) (c : Node) → slice_get vars x ≡ Some (MailboxOf i) → is_closed e ≡ true → AllByRecursion (ClauseKinds p vars i k) rs → ((m : ℕ) → is_among m (clause_bodies rs) ≡ true → Part p d w v m c) → AllByRecursion (λ r. AllByRecursion (Met s) (clause_demands d (keys_of es) (need_of es) x i e r (tag_at p i r.tag))) rs → list_all (λ r. gives t (line_at d r.body)) rs ≡ true → list_all (clause_keeps_apart p d (slice_get vars x)) rs ≡ true → AllByRecursion (ClauseTyped p y (put_all s (need_of es)) (result_under (pattern_of s) t) x i e) rs
  clauses_typed es t vars x i e k [] c mail closed kinds part met tails apart = tt
  clauses_typed es t vars x i e k (r ∷ rs) c mail closed kinds part met tails apart =
      let a = and_parts (gives t (line_at d r.body)) (list_all (λ q. gives t (line_at d q.body)) rs) tails in
      let b = and_parts (clause_keeps_apart p d (slice_get vars x) r) (list_all (clause_keeps_apart p d (slice_get vars x)) rs) apart in (
        clause_typed es t vars x i e k r c mail closed kinds.0 (part r.body (first_part r.body (clause_bodies rs))) met.0 a.0 b.0,
        clauses_typed es t vars x i e k rs c mail closed kinds.1 (λ m h. part m (or_right (nat_eq m r.body) (is_among m (clause_bodies rs)) h)) met.1 a.1 b.1,
      )

  -- what the bodies demand, taken apart
  record Bodies (es : Needs) (x i : ℕ) (e : Pat) (free : Option ℕ) (rs : List Clause) : Type 0 where
    free_met : (m : ℕ) → free ≡ Some m → AllByRecursion (Met s) (free_demands d (keys_of es) (need_of es) x m)
    receives_met : AllByRecursion (λ r. AllByRecursion (Met s) (clause_demands d (keys_of es) (need_of es) x i e r (tag_at p i r.tag))) rs
    none_met : free ≡ None → rs ≡ [] → AllByRecursion (Met s) (passes (but_not x (keys_of es)) (without x (need_of es)) no_types)

  bodies_met : (es : Needs) (x i : ℕ) (e : Pat) (free : Option ℕ) (rs : List Clause) → AllByRecursion (Met s) (bodies_demand p d (keys_of es) (need_of es) x i e free rs) → Bodies es x i e free rs
  bodies_met es x i e None [] h = record { free_met = λ m q. cc; receives_met = tt; none_met = λ a b. h }
  bodies_met es x i e None (r ∷ rs) h =
      record {
        free_met = λ m q. cc;
        receives_met = receives_met s (free_demands d (keys_of es) (need_of es) x) (λ q. clause_demands d (keys_of es) (need_of es) x i e q (tag_at p i q.tag)) None (r ∷ rs) h;
        none_met = λ a b. cc;
      }
  bodies_met es x i e (Some m) rs h =
      let free = free_demands d (keys_of es) (need_of es) x in
      let receive : Clause → List Demand = λ q. clause_demands d (keys_of es) (need_of es) x i e q (tag_at p i q.tag) in
      record {
        free_met = λ k q. let same : m ≡ k = some_same m k q in subst (λ n. AllByRecursion (Met s) (free n)) same (free_met s free receive m rs h);
        receives_met = receives_met s free receive (Some m) rs h;
        none_met = λ a b. cc;
      }
    where
      some_same : (a b : ℕ) → Some a ≡ Some b → a ≡ b
      some_same a b q = cc

  guard_typed : (n x : ℕ) (e : Pat) (free : Option ℕ) (rs : List Clause) (k : Kind) (f : ℕ) → (at : node_at p n ≡ Some (node p d w v (Guard x e free rs) k f)) → (u : HoldsAt p d n (node p d w v (Guard x e free rs) k f)) → CoreTyped p y (own p d w v u.line) (result_under (pattern_of s) u.line.of.result) (Guard x e free rs)
  guard_typed n x e free rs k f at u =
      let c = node p d w v (Guard x e free rs) k f in
      let l = u.line in
      let es = l.of.needs in
      let t = l.of.result in
      let kinds = kinds_at p d w v n c at u in
      let i = kinds.0 in
      let mail = kinds.1 in
      let closed = kinds.2.closed in
      let met = subst (λ o. AllByRecursion (Met s) (guard_demands p d (keys_of es) (need_of es) x e free rs o)) mail (terms_met p d w v n c u) in
      let bodies = bodies_met es x i e free rs met.1 in
      let tails = and_parts (gives_too d t free) (list_all (λ r. gives t (line_at d r.body)) rs) (shaped p d n c u.function u.line u.shape).tails in
      let part : (m : ℕ) → is_among m (option_list free ++ clause_bodies rs) ≡ true → Part p d w v m c = part_at p d w v n c at in
      whole l i free rs c u.function.vars (need_of es x) refl mail closed kinds.4 met.0 bodies tails.0 tails.1 part u.apart
      (covers_to e (is_received rs) (is_some free) u.covered)
    where
      free_part : (m : ℕ) (o : Option ℕ) (ks : List ℕ) → o ≡ Some m → is_among m (option_list o ++ ks) ≡ true
      free_part m None ks q = cc
      free_part m (Some a) ks q = let same : a ≡ m = some_same a m q in subst (λ b. is_among m (b ∷ ks) ≡ true) (sym same) (first_part m ks)
        where
          some_same : (a b : ℕ) → Some a ≡ Some b → a ≡ b
          some_same a b h = cc

      free_gives : (t : TypeOf) (m : ℕ) (o : Option ℕ) → o ≡ Some m → gives_too d t o ≡ true → gives t (line_at d m) ≡ true
      free_gives t m None q h = cc
      free_gives t m (Some a) q h = let same : a ≡ m = some_same a m q in subst (λ b. gives t (line_at d b) ≡ true) same h
        where
          some_same : (a b : ℕ) → Some a ≡ Some b → a ≡ b
          some_same a b h = cc

      whole : (l : Line) (i : ℕ) (free : Option ℕ) (rs : List Clause) (c : Node) (vars : List Kind) (o : Option MailboxType) → need_of l.of.needs x ≡ o → slice_get vars x ≡ Some (MailboxOf i) → is_closed e ≡ true → AllByRecursion (ClauseKinds p vars i k) rs → PassesTo (put_in s (need_of l.of.needs x)) (Some (type_under (pattern_of s) (mailbox_type i Receiving e Returnable))) → Bodies l.of.needs x i e free rs → gives_too d l.of.result free ≡ true → list_all (λ r. gives l.of.result (line_at d r.body)) rs ≡ true → ((m : ℕ) → is_among m (option_list free ++ clause_bodies rs) ≡ true → Part p d w v m c) → list_all (clause_keeps_apart p d (slice_get vars x)) rs ≡ true → Covers e (is_received rs) (is_some free) → GuardTyped p y (own p d w v l) (result_under (pattern_of s) l.of.result) x e free rs
      whole l i free rs c vars None q mail closed kinds pass bodies free_tail tails part apart cover =
          absurd (subst (λ o. PassesTo (put_in s o) (Some (type_under (pattern_of s) (mailbox_type i Receiving e Returnable)))) q pass)
      whole l i free rs c vars (Some a) q mail closed kinds pass bodies free_tail tails part apart cover =
          let guarded = type_under (pattern_of s) a in
          let fits : Fits guarded (type_under (pattern_of s) (mailbox_type i Receiving e Returnable)) = subst (λ o. PassesTo (put_in s o) (Some (type_under (pattern_of s) (mailbox_type i Receiving e Returnable)))) q pass in
          let same : i ≡ a.interface = sym fits.interface in
          let es = l.of.needs in
          record {
            guarded = guarded;
            named = ap (put_in s) q;
            fits = subst (λ j. Fits guarded (mailbox_type j Receiving e Returnable)) same (subst (λ z. Fits guarded (mailbox_type i Receiving z Returnable)) (filled_closed s e closed) fits);
            free_result = λ m h. let pm = part m (free_part m free (clause_bodies rs) h) in tail_is p d w v m l.of.result pm.un.line pm.un.there (free_gives l.of.result m free h free_tail);
            free_passes = λ m h. let pm = part m (free_part m free (clause_bodies rs) h) in
                subst (λ g. EnvPasses g (y.envs m)) (put_without s x (need_of es))
                (part_passes p d w v (but_not x (keys_of es)) (without x (need_of es)) m pm.un.line pm.un.there (bodies.free_met m h) (but_none es x));
            receives = subst (λ j. AllByRecursion (ClauseTyped p y (own p d w v l) (result_under (pattern_of s) l.of.result) x j e) rs) same
                (clauses_typed es l.of.result vars x i e k rs c mail closed kinds (λ m h. part m (among_right m (option_list free) (clause_bodies rs) h)) bodies.receives_met tails apart);
            none_passes = λ h g. subst (λ z. EnvPasses z no_types) (put_without s x (need_of es))
                (pass_all s (but_not x (keys_of es)) (without x (need_of es)) no_types (bodies.none_met h g) (λ z r. (but_none es x z r, refl)));
            covers = cover;
          }

  -- each term is typed
  pub term_typed : (n : ℕ) (core : Core) (k : Kind) (f : ℕ) → (at : node_at p n ≡ Some (node p d w v core k f)) → (u : HoldsAt p d n (node p d w v core k f)) → CoreTyped p y (own p d w v u.line) (result_under (pattern_of s) u.line.of.result) core
  term_typed n (Val e) k f at u =
      let c = node p d w v (Val e) k f in
      value_typed p d w v u.function.vars u.line u.line.of.result e
      (kinds_at p d w v n c at u ∙ ap (λ z. Some z) (sym (kind_is p d w v n c u)))
      (terms_met p d w v n c u)
  term_typed n (Print e) k f at u = nothing_asked p d w v u.line (terms_met p d w v n (node p d w v (Print e) k f) u)
  term_typed n (Let x m b) k f at u = let_typed p d w v n m b x k f at u
  term_typed n (Call g args) k f at u = call_typed p d w v n g args k f at u
  term_typed n (If e m b) k f at u = if_typed p d w v n m b e k f at u
  term_typed n (New i) k f at u = new_typed p d w v n i k f at u
  term_typed n (Send x m args) k f at u = send_typed p d w v n x m args k f at u
  term_typed n (Spawn m) k f at u = spawn_typed p d w v n m k f at u
  term_typed n (Guard x e free rs) k f at u = guard_typed n x e free rs k f at u

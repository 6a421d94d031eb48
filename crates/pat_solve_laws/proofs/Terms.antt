-- The demands of a found node break no rule, since its term is typed, and their inclusions are those that the node needs.
use Rattle.std.proofs.Common.{◌≡◌, ℕ, true, false, nat_eq, if◌then◌else◌, List, [], ◌∷◌, ◌++◌, Option, Some, None, ◌⊎◌, inl, inr, refl, sym, ap, ◌∙◌, subst}
use Rattle.std.specs.Prelude.{map, slice_get, nat_lt}
use Rattle.std.specs.List.{AllByRecursion}
use Rattle.std.specs.Map.{keys_of}
use Rattle.std.proofs.lemmas.Bool.{cond_both, eqb-true}
use Rattle.pat_words_spec.specs.Patterns.{Pat, One, Tag, Prod, prod_of, residual, is_closed}
use Rattle.pat_semantics_spec.specs.Values.{Kind, Plain, MailboxOf, Expr, VarExpr, Literal, OpExpr}
use Rattle.pat_semantics_spec.specs.Programs.{Program, Sending, Receiving, TagDecl, Function, Clause, Val, Call, New, Send, Guard, function_at, tag_at}
use Rattle.pat_semantics_spec.specs.WellFormed.{WellFormed}
use Rattle.pat_type_system_spec.specs.Types.{Second, Returnable, MailboxType, TypeOf, BaseTerm, MailboxTerm, kind_of_type, mailbox_type, Fits, TypeFits, PassesTo, TypeEnv, EnvPasses, EnvSplits, no_types, with_type, without, returnable}
use Rattle.pat_type_system_spec.specs.Typings.{Typing, param_type, result_type, payload_type, args_need, mailbox_args, with_payloads, clause_env, NamePasses, without_name, name_type, ClauseTyped, GuardTyped, CoreTyped}
use Rattle.pat_inclusion_spec.specs.Values.{VarLine, Scope, pattern_of, filled, is_formed}
use Rattle.pat_inclusion_spec.specs.Certificates.{Cert}
use Rattle.pat_type_schemes_spec.specs.NodeTypes.{need_of, result_under}
use Rattle.pat_type_schemes_spec.specs.Signatures.{Variable}
use Rattle.pat_derivation_spec.specs.Derivations.{Line, Derivation, line_at, written_typing}
use Rattle.pat_derivation_spec.specs.Same.{is_same_type}
use Rattle.pat_derivation_spec.specs.Demands.{Demand, Divide, Name, as_term}
use Rattle.pat_derivation_spec.specs.Conditions.{then_others, but_not, but_not_name, passes, divides, of_line, to_part, result_passes, value_asks, value_names, name_demands, named_demands, let_demands, call_demands, send_demands, clause_demands, free_demands, clauses_demand, bodies_demand, guard_demands, target_demands}
use Rattle.pat_words_laws.proofs.ClosedPatterns.{residual_closed}
use Rattle.pat_derivation_laws.proofs.Filled.{filled_closed}
use Rattle.pat_derivation_laws.proofs.DemandsMet.{put_in}
use Rattle.pat_derivation_laws.proofs.Names.{put_all, put_type, put_without, put_without_name, put_args, put_payloads, put_returnable}
use Rattle.pat_derivation_laws.proofs.Signatures.{put_params, put_results, put_payload_types}
use Rattle.pat_infer_spec.specs.Walk.{var_interface, all_vars}
use Rattle.pat_infer_spec.specs.Solutions.{typing_open, typing_found}
use Rattle.pat_infer_spec.specs.Inclusions.{Shows, PassShown, EnvShown, SplitShown, ResultShown, NewShown, ValueShown, ClauseShown, CoreShown}
use Rattle.pat_solve_spec.specs.Derived.{found_line, derivation_with, scope_by}
use Rattle.pat_solve_laws.proofs.Good.{Good, EnvFormed, same_type, drop_test, pass_good, divide_good, passes_good, divides_good, all_join}
use Rattle.pat_solve_laws.proofs.Ties.{line_is, env_is, type_is, open_env}
use Rattle.pat_solve_laws.proofs.Formed.{FormedType, formed_prod, formed_none, formed_some, formed_type, formed_without, formed_without_name, formed_args, formed_clause, formed_returnable, formed_declared, formed_params, formed_gives}

-- the types of each found node are of their interfaces
pub record LinesFormed (p : Program) (vars : List VarLine) (certs : ℕ → List Cert) : Type 0 where
  pub envs : (n : ℕ) → EnvFormed (scope_by p vars) (need_of (found_line p n (certs n)).of.needs)
  pub types : (n : ℕ) → FormedType (scope_by p vars) (found_line p n (certs n)).of.result

module _ (p : Program) (w : WellFormed p) (vars : List VarLine) (certs : ℕ → List Cert) (interfaces : map (λ (v : VarLine). v.interface) vars ≡ map (λ (v : Variable). v.interface) (all_vars p)) (R : Shows) (prods : (i : ℕ) (e f g : Pat) → R i (Prod e f) g → R i (prod_of e f) g) (lines : LinesFormed p vars certs) where
  abbrev s : Scope
  s = scope_by p vars

  abbrev d : Derivation
  d = derivation_with p vars certs

  abbrev y : Typing
  y = typing_found p (pattern_of s)

  abbrev line : ℕ → Line
  line m = found_line p m (certs m)

  -- ---- what passes

  pub env_good : (xs : List ℕ) (g h : TypeEnv) → EnvPasses (put_all s g) (put_all s h) → EnvShown R g h → EnvFormed s g → EnvFormed s h → AllByRecursion (Good s R) (passes xs g h)
  env_good xs g h t sh f k = passes_good s R xs g h (λ x. pass_good s R (g x) (h x) (t x) (sh x) (f x) (k x))

  pub part_good : (xs : List ℕ) (g : TypeEnv) (m : ℕ) → EnvPasses (put_all s g) (y.envs m) → EnvShown R g ((typing_open p).envs m) → EnvFormed s g → AllByRecursion (Good s R) (to_part d xs g m)
  part_good xs g m t sh f = go (line_at d m) refl
    where
      want : Line → List Demand
      want l = passes (then_others xs (keys_of l.of.needs)) g (need_of l.of.needs)

      go : (o : Option Line) → line_at d m ≡ o → AllByRecursion (Good s R) (of_line o want)
      go None q = tt
      go (Some l) q =
          subst (λ (k : Line). AllByRecursion (Good s R) (passes (then_others xs (keys_of k.of.needs)) g (need_of k.of.needs))) (sym (line_is p vars certs m l q))
          (env_good (then_others xs (keys_of (line m).of.needs)) g (need_of (line m).of.needs)
          (subst (EnvPasses (put_all s g)) (env_is p m s) t)
          (subst (EnvShown R g) (open_env p m) sh)
          f (lines.envs m))

  pub none_good : (xs : List ℕ) (g : TypeEnv) → EnvPasses (put_all s g) no_types → EnvFormed s g → AllByRecursion (Good s R) (passes xs g no_types)
  none_good xs g t f = passes_good s R xs g no_types (λ x. pass_good s R (g x) None (t x) (nothing (g x)) (f x) (formed_none s))
    where
      nothing : (o : Option MailboxType) → PassShown R o None
      nothing None = tt
      nothing (Some a) = tt

  result_good : (a b : TypeOf) → TypeFits (result_under (pattern_of s) a) (result_under (pattern_of s) b) → ResultShown R a b → FormedType s a → FormedType s b → AllByRecursion (Good s R) (result_passes a b)
  result_good (BaseTerm a) b t sh f k = tt
  result_good (MailboxTerm i q e) (BaseTerm b) t sh f k = tt
  result_good (MailboxTerm i q e) (MailboxTerm j r h) t sh f k =
      (pass_good s R (Some (mailbox_type i q e Returnable)) (Some (mailbox_type j r h Returnable)) t sh (formed_some s i q e Returnable f) (formed_some s j r h Returnable k), tt)

  -- ---- terms without parts

  pub value_good : (l : Line) (t : TypeOf) (e : Expr) → CoreTyped p y (put_all s (need_of l.of.needs)) (result_under (pattern_of s) t) (Val e) → ValueShown R t e (need_of l.of.needs) → EnvFormed s (need_of l.of.needs) → FormedType s t → AllByRecursion (Good s R) (passes (then_others (value_names t e) (keys_of l.of.needs)) (need_of l.of.needs) (value_asks t e))
  value_good l (BaseTerm b) e t sh f k = none_good (then_others (value_names (BaseTerm b) e) (keys_of l.of.needs)) (need_of l.of.needs) t f
  value_good l (MailboxTerm i q e) (VarExpr x) t sh f k =
      let a = mailbox_type i q e Returnable in
      env_good (then_others (x ∷ []) (keys_of l.of.needs)) (need_of l.of.needs) (with_type x a no_types)
      (subst (EnvPasses (put_all s (need_of l.of.needs))) (sym (put_type s x a no_types)) t)
      at_x f
      (formed_type s x a no_types (formed_some s i q e Returnable k) (λ z. formed_none s))
    where
      none : (o : Option MailboxType) → PassShown R o None
      none None = tt
      none (Some b) = tt

      at_x : EnvShown R (need_of l.of.needs) (with_type x (mailbox_type i q e Returnable) no_types)
      at_x z =
          (elim (nat_eq x z) as (λ b. nat_eq x z ≡ b → PassShown R (need_of l.of.needs z) (if b then Some (mailbox_type i q e Returnable) else None)) [
            | true ↦ λ h. subst (λ v. PassShown R (need_of l.of.needs v) (Some (mailbox_type i q e Returnable))) (eqb-true x z h) sh
            | false ↦ λ h. none (need_of l.of.needs z)
          ]) refl
  value_good l (MailboxTerm i q e) (Literal c) t sh f k = absurd t
  value_good l (MailboxTerm i q e) (OpExpr op a b) t sh f k = absurd t

  pub new_good : (l : Line) (i : ℕ) (t : TypeOf) → CoreTyped p y (put_all s (need_of l.of.needs)) (result_under (pattern_of s) t) (New i) → NewShown (R i) t → EnvFormed s (need_of l.of.needs) → FormedType s t → AllByRecursion (Good s R) (result_passes (MailboxTerm i Receiving One) t ++ passes (keys_of l.of.needs) (need_of l.of.needs) no_types)
  new_good l i (BaseTerm b) t sh f k = absurd t.0
  new_good l i (MailboxTerm j Sending e) t sh f k = absurd t.0
  new_good l i (MailboxTerm j Receiving e) t sh f k =
      let fits : Fits (mailbox_type i Receiving One Returnable) (mailbox_type j Receiving (filled s e) Returnable) = record { interface = t.0.0; polarity = refl; usage = tt; pattern = t.0.1 } in
      all_join s R (Good s R) (result_passes (MailboxTerm i Receiving One) (MailboxTerm j Receiving e)) (passes (keys_of l.of.needs) (need_of l.of.needs) no_types)
      (result_good (MailboxTerm i Receiving One) (MailboxTerm j Receiving e) fits sh refl k)
      (none_good (keys_of l.of.needs) (need_of l.of.needs) t.1 f)

  pub call_good : (l : Line) (f : ℕ) (args : List Expr) → CoreTyped p y (put_all s (need_of l.of.needs)) (result_under (pattern_of s) l.of.result) (Call f args) → ((h : Function) → function_at p f ≡ Some h → EnvShown R (need_of l.of.needs) (args_need (param_type (typing_open p) f h) 0 args) × ResultShown R (result_type (typing_open p) f h) l.of.result) → EnvFormed s (need_of l.of.needs) → FormedType s l.of.result → AllByRecursion (Good s R) (call_demands (written_typing p d) l f args (function_at p f))
  call_good l f args t sh fo k =
      let h : Function = t.0 in
      let at : function_at p f ≡ Some h = t.1 in
      let types = param_type (written_typing p d) f h in
      let there = sh h at in
      let passes_to : EnvPasses (put_all s (need_of l.of.needs)) (put_all s (args_need types 0 args)) =
      subst (EnvPasses (put_all s (need_of l.of.needs))) (sym (put_args s types 0 args ∙ ap (λ g. args_need g 0 args) (put_params p d f h w at))) t.3 in
      let fits : TypeFits (result_under (pattern_of s) (result_type (written_typing p d) f h)) (result_under (pattern_of s) l.of.result) =
      subst (λ r. TypeFits r (result_under (pattern_of s) l.of.result)) (sym (put_results p d f h w at)) t.4 in
      subst (λ o. AllByRecursion (Good s R) (call_demands (written_typing p d) l f args o)) (sym at)
      (all_join s R (Good s R) (passes (then_others (mailbox_args types 0 args) (keys_of l.of.needs)) (need_of l.of.needs) (args_need types 0 args)) (result_passes (result_type (written_typing p d) f h) l.of.result)
      (env_good (then_others (mailbox_args types 0 args) (keys_of l.of.needs)) (need_of l.of.needs) (args_need types 0 args) passes_to
      there.0
      fo (formed_args s types 0 args (formed_params p w d interfaces f h at)))
      (result_good (result_type (written_typing p d) f h) l.of.result fits
      there.1
      (formed_gives p w d interfaces f h at) k))

  pub send_good : (l : Line) (kinds : List Kind) (f i x m : ℕ) (args : List Expr) (decl : TagDecl) → slice_get kinds x ≡ Some (MailboxOf i) → var_interface p f x ≡ i → tag_at p i m ≡ Some decl → EnvPasses (put_all s (need_of l.of.needs)) (with_type x (mailbox_type i Sending (Tag m) Second) (args_need (payload_type decl) 0 args)) → CoreShown R p (typing_open p) f (need_of l.of.needs) l.of.result (Send x m args) → is_formed s i (Tag m) ≡ true → EnvFormed s (need_of l.of.needs) → AllByRecursion (Good s R) (target_demands p l x m args (slice_get kinds x))
  send_good l kinds f i x m args decl kind inter at t sh tag fo =
      let a = mailbox_type i Sending (Tag m) Second in
      let asks = args_need (payload_type decl) 0 args in
      let put : put_all s (with_type x a asks) ≡ with_type x a asks =
      put_type s x a asks ∙ ap (with_type x a) (put_args s (payload_type decl) 0 args ∙ ap (λ g. args_need g 0 args) (put_payload_types p s i m decl w at)) in
      let there : EnvShown R (need_of l.of.needs) (with_type x a asks) =
      subst (λ j. EnvShown R (need_of l.of.needs) (with_type x (mailbox_type j Sending (Tag m) Second) asks)) inter
      (sh decl (subst (λ j. tag_at p j m ≡ Some decl) (sym inter) at)) in
      subst (λ o. AllByRecursion (Good s R) (target_demands p l x m args o)) (sym kind)
      (subst (λ o. AllByRecursion (Good s R) (send_demands l i x m args o)) (sym at)
      (env_good (then_others (x ∷ mailbox_args (payload_type decl) 0 args) (keys_of l.of.needs)) (need_of l.of.needs) (with_type x a asks)
      (subst (EnvPasses (put_all s (need_of l.of.needs))) (sym put) t)
      there fo
      (formed_type s x a asks (formed_some s i Sending (Tag m) Second tag)
      (formed_args s (payload_type decl) 0 args (formed_declared p w d i m decl at)))))

  -- ---- terms with parts

  pub spawn_good : (l : Line) (m : ℕ) → EnvPasses (λ x. returnable (put_all s (need_of l.of.needs) x)) (y.envs m) → EnvShown R (need_of l.of.needs) ((typing_open p).envs m) → EnvFormed s (need_of l.of.needs) → AllByRecursion (Good s R) (to_part d (keys_of l.of.needs) (λ x. returnable (need_of l.of.needs x)) m)
  spawn_good l m t sh f =
      part_good (keys_of l.of.needs) (λ x. returnable (need_of l.of.needs x)) m
      (subst (λ g. EnvPasses g (y.envs m)) (sym (put_returnable s (need_of l.of.needs))) t)
      (λ x. also (need_of l.of.needs x) ((typing_open p).envs m x) (sh x))
      (λ x. formed_returnable s (need_of l.of.needs x) (f x))
    where
      also : (o h : Option MailboxType) → PassShown R o h → PassShown R (returnable o) h
      also None h k = k
      also (Some a) None k = tt
      also (Some a) (Some b) k = k

  name_good : (t : TypeOf) (o : Option MailboxType) (i : ℕ) → kind_of_type t ≡ MailboxOf i → NamePasses (result_under (pattern_of s) t) (put_in s o) → ((a : MailboxType) → o ≡ Some a → t ≡ as_term a) → FormedType s t → Good s R (Name t o)
  name_good (BaseTerm b) o i k t same f = cc
  name_good (MailboxTerm j q e) None i k t same f = record { used = refl; dropped = drop_test s R j q e f t; shown = tt; written = tt }
  name_good (MailboxTerm j q e) (Some a) i k t same f =
      record { used = subst (λ r. is_same_type r (as_term a) ≡ true) (sym (same a refl)) (same_type (as_term a)); dropped = refl; shown = tt; written = tt }

  named_good : (kinds : List Kind) (m n : Line) (x : Option ℕ) → NamePasses (result_under (pattern_of s) m.of.result) (name_type x (put_all s (need_of n.of.needs))) → ((z : ℕ) (a : MailboxType) → x ≡ Some z → need_of n.of.needs z ≡ Some a → m.of.result ≡ as_term a) → ((z i : ℕ) → x ≡ Some z → slice_get kinds z ≡ Some (MailboxOf i) → kind_of_type m.of.result ≡ MailboxOf i) → FormedType s m.of.result → AllByRecursion (Good s R) (named_demands kinds m n x)
  named_good kinds m n None t same kind f = tt
  named_good kinds m n (Some z) t same kind f = go (slice_get kinds z) refl
    where
      go : (o : Option Kind) → slice_get kinds z ≡ o → AllByRecursion (Good s R) (name_demands o m.of.result (need_of n.of.needs z))
      go None q = tt
      go (Some (Plain b)) q = tt
      go (Some (MailboxOf i)) q = (name_good m.of.result (need_of n.of.needs z) i (kind z i refl q) t (λ a e. same z a refl e) f, tt)

  -- a variable that the let binds is divided as nothing, since it isn't there
  divided_without : (x : Option ℕ) (l m b : Line) → ((z : ℕ) (a : MailboxType) → x ≡ Some z → need_of l.of.needs z ≡ Some a → ⊥) → (z : ℕ) → Good s R (Divide (need_of l.of.needs z) (need_of m.of.needs z) (without_name x (need_of b.of.needs) z)) → Good s R (Divide (need_of l.of.needs z) (without_name x (need_of m.of.needs) z) (without_name x (need_of b.of.needs) z))
  divided_without None l m b free z h = h
  divided_without (Some x) l m b free z h =
      (elim (nat_eq x z) as (λ t. nat_eq x z ≡ t → Good s R (Divide (need_of l.of.needs z) (need_of m.of.needs z) (if t then None else need_of b.of.needs z)) → Good s R (Divide (need_of l.of.needs z) (if t then None else need_of m.of.needs z) (if t then None else need_of b.of.needs z))) [
        | true ↦ λ e k. nothing (need_of l.of.needs z) (λ a q. free z a (ap (λ y. Some y) (eqb-true x z e)) q)
        | false ↦ λ e k. k
      ]) refl h
    where
      nothing : (o : Option MailboxType) → ((a : MailboxType) → o ≡ Some a → ⊥) → Good s R (Divide o None None)
      nothing None f = record { used = refl; dropped = refl; shown = tt; written = tt }
      nothing (Some a) f = absurd (f a refl)

  pub let_good : (kinds : List Kind) (n : ℕ) (x : Option ℕ) (m b : ℕ) → ((z : ℕ) (a : MailboxType) → x ≡ Some z → need_of (line n).of.needs z ≡ Some a → ⊥) → ((k : ℕ) → (k ≡ m) ⊎ (k ≡ b) → line_at d k ≡ Some (line k)) → EnvSplits (put_all s (need_of (line n).of.needs)) (y.envs m) (without_name x (y.envs b)) → NamePasses (y.results m) (name_type x (y.envs b)) → ((z : ℕ) → SplitShown R (need_of (line n).of.needs z) ((typing_open p).envs m z) (without_name x ((typing_open p).envs b) z)) → ((z : ℕ) (a : MailboxType) → x ≡ Some z → need_of (line b).of.needs z ≡ Some a → (line m).of.result ≡ as_term a) → ((z i : ℕ) → x ≡ Some z → slice_get kinds z ≡ Some (MailboxOf i) → kind_of_type (line m).of.result ≡ MailboxOf i) → AllByRecursion (Good s R) (let_demands kinds (line n) x (line_at d m) (line_at d b))
  let_good kinds n x m b free there t nt sh same kind =
      subst (λ o. AllByRecursion (Good s R) (let_demands kinds (line n) x o (line_at d b))) (sym (there m (inl refl)))
      (subst (λ o. AllByRecursion (Good s R) (let_demands kinds (line n) x (Some (line m)) o)) (sym (there b (inr refl))) both)
    where
      l : Line
      l = line n

      lm : Line
      lm = line m

      lb : Line
      lb = line b

      both : AllByRecursion (Good s R) (let_demands kinds (line n) x (Some (line m)) (Some (line b)))
      both =
          let g : TypeEnv = need_of (line n).of.needs in
          let gm : TypeEnv = need_of (line m).of.needs in
          let gb : TypeEnv = need_of (line b).of.needs in
          let xs = then_others (then_others (keys_of (line n).of.needs) (but_not_name x (keys_of (line m).of.needs))) (but_not_name x (keys_of (line b).of.needs)) in
          let splits : EnvSplits (put_all s g) (put_all s gm) (put_all s (without_name x gb)) =
          subst (λ h. EnvSplits (put_all s g) (put_all s gm) h) (ap (without_name x) (env_is p b s) ∙ sym (put_without_name s x gb))
          (subst (λ h. EnvSplits (put_all s g) h (without_name x (y.envs b))) (env_is p m s) t) in
          let shown : (z : ℕ) → SplitShown R (g z) (gm z) (without_name x gb z) =
          subst (λ h. (z : ℕ) → SplitShown R (g z) (gm z) (without_name x h z)) (open_env p b)
          (subst (λ h. (z : ℕ) → SplitShown R (g z) (h z) (without_name x ((typing_open p).envs b) z)) (open_env p m) sh) in
          let names : NamePasses (result_under (pattern_of s) (line m).of.result) (name_type x (put_all s gb)) =
          subst (λ r. NamePasses r (name_type x (put_all s gb))) (type_is p m s)
          (subst (λ h. NamePasses (y.results m) (name_type x h)) (env_is p b s) nt) in
          all_join s R (Good s R) (divides xs g (without_name x gm) (without_name x gb)) (named_demands kinds (line m) (line b) x)
          (divides_good s R xs g (without_name x gm) (without_name x gb)
          (λ z. divided_without x (line n) (line m) (line b) free z
          (divide_good s R prods (λ i e k. formed_prod s i e k) (g z) (gm z) (without_name x gb z) (splits z) (shown z) (lines.envs n z) (lines.envs m z) (formed_without_name s x gb (lines.envs b) z))))
          (named_good kinds (line m) (line b) x names same kind (lines.types m))

  -- ---- guards

  clause_put : (g : TypeEnv) (x i : ℕ) (e : Pat) (decl : TagDecl) (r : Clause) → is_closed e ≡ true → tag_at p i r.tag ≡ Some decl → put_all s (clause_env g x i e decl r) ≡ clause_env (put_all s g) x i e decl r
  clause_put g x i e decl r closed there =
      let rest = residual e r.tag in
      let from = mailbox_type i Receiving rest Returnable in
      let types = payload_type decl in
      put_type s r.from from (with_payloads types 0 r.vars (without x g))
      ∙ ap (λ t. with_type r.from (mailbox_type i Receiving t Returnable) (put_all s (with_payloads types 0 r.vars (without x g)))) (filled_closed s rest (residual_closed e r.tag closed))
      ∙ ap (with_type r.from from)
      (put_payloads s types 0 r.vars (without x g)
      ∙ ap (λ t. with_payloads t 0 r.vars (put_all s (without x g))) (put_payload_types p s i r.tag decl w there)
      ∙ ap (with_payloads types 0 r.vars) (put_without s x g))

  module _ (g : TypeEnv) (fo : EnvFormed s g) (xs : List ℕ) (t : TypeOf) (x i : ℕ) (e : Pat) (closed : is_closed e ≡ true) (formed : is_formed s i e ≡ true) where
    clause_good : (r : Clause) → ClauseTyped p y (put_all s g) t x i e r → ClauseShown R p (typing_open p) g x i e r → AllByRecursion (Good s R) (clause_demands d xs g x i e r (tag_at p i r.tag))
    clause_good r c sh =
        let there = c.declared in
        subst (λ o. AllByRecursion (Good s R) (clause_demands d xs g x i e r o)) (sym there)
        (part_good (then_others (but_not x xs) (r.from ∷ r.vars)) (clause_env g x i e c.decl r) r.body
        (subst (λ h. EnvPasses h (y.envs r.body)) (sym (clause_put g x i e c.decl r closed there)) c.passes)
        (sh c.decl there)
        (formed_clause s g x i e c.decl r fo (formed_declared p w d i r.tag c.decl there) formed))

    free_good : (m : ℕ) → EnvPasses (without x (put_all s g)) (y.envs m) → EnvShown R (without x g) ((typing_open p).envs m) → AllByRecursion (Good s R) (free_demands d xs g x m)
    free_good m h sh =
        part_good (but_not x xs) (without x g) m (subst (λ k. EnvPasses k (y.envs m)) (sym (put_without s x g)) h) sh (formed_without s x g fo)

    abbrev one : Clause → List Demand
    one r = clause_demands d xs g x i e r (tag_at p i r.tag)

    abbrev bare : ℕ → List Demand
    bare m = free_demands d xs g x m

    clauses_good : (free : Option ℕ) (rs : List Clause) → ((m : ℕ) → free ≡ Some m → AllByRecursion (Good s R) (bare m)) → AllByRecursion (ClauseTyped p y (put_all s g) t x i e) rs → AllByRecursion (ClauseShown R p (typing_open p) g x i e) rs → AllByRecursion (Good s R) (clauses_demand bare one free rs)
    clauses_good None [] h c sh = tt
    clauses_good (Some m) [] h c sh = h m refl
    clauses_good None (r ∷ rs) h c sh =
        all_join s R (Good s R) (one r) (clauses_demand bare one None rs) (clause_good r c.0 sh.0) (clauses_good None rs h c.1 sh.1)
    clauses_good (Some m) (r ∷ rs) h c sh =
        let now = clause_good r c.0 sh.0 in
        let without_free = clauses_good None rs (λ k q. cc) c.1 sh.1 in
        cond_both (nat_lt m r.body) (bare m ++ (one r ++ clauses_demand bare one None rs)) (one r ++ clauses_demand bare one (Some m) rs) (AllByRecursion (Good s R))
        (λ _. all_join s R (Good s R) (bare m) (one r ++ clauses_demand bare one None rs) (h m refl) (all_join s R (Good s R) (one r) (clauses_demand bare one None rs) now without_free))
        (λ _. all_join s R (Good s R) (one r) (clauses_demand bare one (Some m) rs) now (clauses_good (Some m) rs h c.1 sh.1))

    bodies_good : (free : Option ℕ) (rs : List Clause) → ((m : ℕ) → free ≡ Some m → AllByRecursion (Good s R) (bare m)) → AllByRecursion (ClauseTyped p y (put_all s g) t x i e) rs → AllByRecursion (ClauseShown R p (typing_open p) g x i e) rs → (free ≡ None → rs ≡ [] → EnvPasses (without x (put_all s g)) no_types) → AllByRecursion (Good s R) (bodies_demand p d xs g x i e free rs)
    bodies_good None [] h c sh n =
        none_good (but_not x xs) (without x g) (subst (λ k. EnvPasses k no_types) (sym (put_without s x g)) (n refl refl)) (formed_without s x g fo)
    bodies_good None (r ∷ rs) h c sh n = clauses_good None (r ∷ rs) h c sh
    bodies_good (Some m) [] h c sh n = clauses_good (Some m) [] h c sh
    bodies_good (Some m) (r ∷ rs) h c sh n = clauses_good (Some m) (r ∷ rs) h c sh

  pub guard_good : (l : Line) (kinds : List Kind) (f x i : ℕ) (e : Pat) (free : Option ℕ) (rs : List Clause) (t : TypeOf) → slice_get kinds x ≡ Some (MailboxOf i) → var_interface p f x ≡ i → is_closed e ≡ true → is_formed s i e ≡ true → (gt : GuardTyped p y (put_all s (need_of l.of.needs)) t x e free rs) → gt.guarded.interface ≡ i → CoreShown R p (typing_open p) f (need_of l.of.needs) l.of.result (Guard x e free rs) → EnvFormed s (need_of l.of.needs) → AllByRecursion (Good s R) (guard_demands p d (keys_of l.of.needs) (need_of l.of.needs) x e free rs (slice_get kinds x))
  guard_good l kinds f x i e free rs t kind inter closed formed gt same sh fo =
      let g = need_of l.of.needs in
      let a = mailbox_type i Receiving e Returnable in
      let filled_a : put_in s (Some a) ≡ Some a = ap (λ k. Some (mailbox_type i Receiving k Returnable)) (filled_closed s e closed) in
      let fits : PassesTo (put_in s (g x)) (put_in s (Some a)) =
      subst (λ o. PassesTo (put_in s (g x)) o) (sym filled_a)
      (subst (λ o. PassesTo o (Some a)) (sym gt.named)
      (subst (λ j. Fits gt.guarded (mailbox_type j Receiving e Returnable)) same gt.fits)) in
      let shown : PassShown R (g x) (Some a) = subst (λ j. PassShown R (g x) (Some (mailbox_type j Receiving e Returnable))) inter sh.0 in
      subst (λ o. AllByRecursion (Good s R) (guard_demands p d (keys_of l.of.needs) g x e free rs o)) (sym kind) (
        pass_good s R (g x) (Some a) fits shown (fo x) (formed_some s i Receiving e Returnable formed),
        bodies_good g fo (keys_of l.of.needs) t x i e closed formed free rs
            (λ m q. free_good g fo (keys_of l.of.needs) t x i e closed formed m (gt.free_passes m q) (sh.1 m q))
            (subst (λ j. AllByRecursion (ClauseTyped p y (put_all s g) t x j e) rs) same gt.receives)
            (subst (λ j. AllByRecursion (ClauseShown R p (typing_open p) g x j e) rs) inter sh.2)
            gt.none_passes,
      )

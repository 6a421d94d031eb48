-- What a node needs doesn't depend on certificates; so the derivation that is made is valid.
use Rattle.std.proofs.Common.{◌≡◌, ℕ, List, [], ◌∷◌, ◌++◌, Option, Some, None, refl, sym, ap, ap₂, ◌∙◌, subst}
use Rattle.std.specs.Prelude.{slice_get}
use Rattle.std.specs.List.{flat_map}
use Rattle.std.specs.Map.{keys_of}
use mathlib.Core.Path.{fun_ext}
use Rattle.pat_words_spec.specs.Patterns.{Pat}
use Rattle.pat_semantics_spec.specs.Values.{Kind, Plain, MailboxOf}
use Rattle.pat_semantics_spec.specs.Programs.{Receiving, Program, TagDecl, Function, Clause, Core, Val, Let, Call, If, Print, New, Send, Spawn, Guard, Node, node_at, function_at, tag_at}
use Rattle.pat_type_system_spec.specs.Types.{Returnable, mailbox_type, TypeEnv, without, returnable}
use Rattle.pat_type_system_spec.specs.Typings.{clause_env}
use Rattle.pat_inclusion_spec.specs.Values.{VarLine, pattern_of}
use Rattle.pat_inclusion_spec.specs.Certificates.{Cert}
use Rattle.pat_type_schemes_spec.specs.NodeTypes.{need_of}
use Rattle.pat_derivation_spec.specs.Derivations.{Line, Derivation, line_at, written_typing}
use Rattle.pat_derivation_spec.specs.Demands.{Pass, inclusions_of}
use Rattle.pat_derivation_spec.specs.Conditions.{then_others, but_not, passes, of_line, to_part, let_demands, call_demands, clause_demands, free_demands, clauses_demand, bodies_demand, guard_demands, target_demands, send_demands, term_demands, first_demands}
use Rattle.pat_derivation_spec.specs.Rules.{needed}
use Rattle.pat_infer_spec.specs.Solutions.{typing_found}
use Rattle.pat_solve_spec.specs.Derived.{found_line, found_place, derivation_with, no_certs, scope_by, AreCertsFor}
use Rattle.pat_solve_spec.specs.Laws.{NeededListed, NeededShown, DemandsWritten, DerivedIsValid, ShownIsTypable}
use Rattle.pat_solve_laws.proofs.Known.{Known}
use Rattle.pat_solve_laws.proofs.Ties.{line_there, line_none}
use Rattle.pat_solve_laws.proofs.Values.{values_solve}
use Rattle.pat_solve_laws.proofs.Valid as made_valid

module _ (p : Program) (vars : List VarLine) (a b : ℕ → List Cert) where
  abbrev da : Derivation
  da = derivation_with p vars a

  abbrev db : Derivation
  db = derivation_with p vars b

  -- lines that differ in certificates alone
  line_alike : {A : Type 0} (f : Option Line → A) → ((m : ℕ) (x y : List Cert) → f (Some (found_line p m x)) ≡ f (Some (found_line p m y))) → (m : ℕ) → f (line_at da m) ≡ f (line_at db m)
  line_alike f same m = go (node_at p m) refl
    where
      go : (o : Option Node) → node_at p m ≡ o → f (line_at da m) ≡ f (line_at db m)
      go None q = ap f (line_none p vars a m q) ∙ sym (ap f (line_none p vars b m q))
      go (Some c) q =
          ap f (line_there p vars a m c q) ∙ same m (a m) (b m) ∙ sym (ap f (line_there p vars b m c q))

  part_alike : (xs : List ℕ) (g : TypeEnv) (m : ℕ) → to_part da xs g m ≡ to_part db xs g m
  part_alike xs g m = line_alike (λ o. of_line o (λ l. passes (then_others xs (keys_of l.of.needs)) g (need_of l.of.needs))) (λ k x y. refl) m

  let_alike : (kinds : List Kind) (k : ℕ) (x y : List Cert) (name : Option ℕ) (m n : ℕ) → let_demands kinds (found_line p k x) name (line_at da m) (line_at da n) ≡ let_demands kinds (found_line p k y) name (line_at db m) (line_at db n)
  let_alike kinds k x y name m n =
      line_alike (λ o. let_demands kinds (found_line p k x) name o (line_at da n)) (λ j u v. first j u v (line_at da n)) m
      ∙ line_alike (λ q. let_demands kinds (found_line p k x) name (line_at db m) q) (λ j u v. second j u v (line_at db m)) n
      ∙ own (line_at db m) (line_at db n)
    where
      first : (j : ℕ) (u v : List Cert) (q : Option Line) → let_demands kinds (found_line p k x) name (Some (found_line p j u)) q ≡ let_demands kinds (found_line p k x) name (Some (found_line p j v)) q
      first j u v None = refl
      first j u v (Some l) = name_in name
        where
          name_in : (i : Option ℕ) → let_demands kinds (found_line p k x) i (Some (found_line p j u)) (Some l) ≡ let_demands kinds (found_line p k x) i (Some (found_line p j v)) (Some l)
          name_in None = refl
          name_in (Some i) = refl

      second : (j : ℕ) (u v : List Cert) (q : Option Line) → let_demands kinds (found_line p k x) name q (Some (found_line p j u)) ≡ let_demands kinds (found_line p k x) name q (Some (found_line p j v))
      second j u v None = refl
      second j u v (Some l) = name_in name
        where
          name_in : (i : Option ℕ) → let_demands kinds (found_line p k x) i (Some l) (Some (found_line p j u)) ≡ let_demands kinds (found_line p k x) i (Some l) (Some (found_line p j v))
          name_in None = refl
          name_in (Some i) = refl

      own : (o q : Option Line) → let_demands kinds (found_line p k x) name o q ≡ let_demands kinds (found_line p k y) name o q
      own None None = refl
      own None (Some l) = refl
      own (Some l) None = refl
      own (Some l) (Some i) = refl

  clause_alike : (xs : List ℕ) (g : TypeEnv) (x i : ℕ) (e : Pat) (r : Clause) (o : Option TagDecl) → clause_demands da xs g x i e r o ≡ clause_demands db xs g x i e r o
  clause_alike xs g x i e r None = refl
  clause_alike xs g x i e r (Some decl) = part_alike (then_others (but_not x xs) (r.from ∷ r.vars)) (clause_env g x i e decl r) r.body

  clauses_alike : (xs : List ℕ) (g : TypeEnv) (x i : ℕ) (e : Pat) (free : Option ℕ) (rs : List Clause) → clauses_demand (free_demands da xs g x) (λ r. clause_demands da xs g x i e r (tag_at p i r.tag)) free rs ≡ clauses_demand (free_demands db xs g x) (λ r. clause_demands db xs g x i e r (tag_at p i r.tag)) free rs
  clauses_alike xs g x i e free rs =
      let f : free_demands da xs g x ≡ free_demands db xs g x = fun_ext (λ m. part_alike (but_not x xs) (without x g) m) in
      let r : (λ (r : Clause). clause_demands da xs g x i e r (tag_at p i r.tag)) ≡ (λ (r : Clause). clause_demands db xs g x i e r (tag_at p i r.tag)) = fun_ext (λ r. clause_alike xs g x i e r (tag_at p i r.tag)) in
      ap₂ (λ h k. clauses_demand h k free rs) f r

  bodies_alike : (xs : List ℕ) (g : TypeEnv) (x i : ℕ) (e : Pat) (free : Option ℕ) (rs : List Clause) → bodies_demand p da xs g x i e free rs ≡ bodies_demand p db xs g x i e free rs
  bodies_alike xs g x i e None [] = refl
  bodies_alike xs g x i e None (r ∷ rs) = clauses_alike xs g x i e None (r ∷ rs)
  bodies_alike xs g x i e (Some m) [] = clauses_alike xs g x i e (Some m) []
  bodies_alike xs g x i e (Some m) (r ∷ rs) = clauses_alike xs g x i e (Some m) (r ∷ rs)

  guard_alike : (xs : List ℕ) (g : TypeEnv) (x : ℕ) (e : Pat) (free : Option ℕ) (rs : List Clause) (k : Option Kind) → guard_demands p da xs g x e free rs k ≡ guard_demands p db xs g x e free rs k
  guard_alike xs g x e free rs None = refl
  guard_alike xs g x e free rs (Some (Plain c)) = refl
  guard_alike xs g x e free rs (Some (MailboxOf i)) = ap (λ ds. Pass (g x) (Some (mailbox_type i Receiving e Returnable)) ∷ ds) (bodies_alike xs g x i e free rs)

  term_alike : (kinds : List Kind) (k : ℕ) (x y : List Cert) (core : Core) → term_demands p da kinds (found_line p k x) core ≡ term_demands p db kinds (found_line p k y) core
  term_alike kinds k x y (Val e) = refl
  term_alike kinds k x y (Print e) = refl
  term_alike kinds k x y (New i) = refl
  term_alike kinds k x y (Call f args) = go (function_at p f)
    where
      go : (o : Option Function) → call_demands (written_typing p da) (found_line p k x) f args o ≡ call_demands (written_typing p db) (found_line p k y) f args o
      go None = refl
      go (Some g) = refl
  term_alike kinds k x y (Send v m args) = go (slice_get kinds v)
    where
      tag : (i : ℕ) (o : Option TagDecl) → send_demands (found_line p k x) i v m args o ≡ send_demands (found_line p k y) i v m args o
      tag i None = refl
      tag i (Some decl) = refl

      go : (o : Option Kind) → target_demands p (found_line p k x) v m args o ≡ target_demands p (found_line p k y) v m args o
      go None = refl
      go (Some (Plain c)) = refl
      go (Some (MailboxOf i)) = tag i (tag_at p i m)
  term_alike kinds k x y (Spawn m) =
      let es = (found_line p k x).of.needs in part_alike (keys_of es) (λ z. returnable (need_of es z)) m
  term_alike kinds k x y (If e m n) =
      let es = (found_line p k x).of.needs in
      ap₂ (λ h j. h ++ j) (part_alike (keys_of es) (need_of es) m) (part_alike (keys_of es) (need_of es) n)
  term_alike kinds k x y (Let v m n) = let_alike kinds k x y v m n
  term_alike kinds k x y (Guard v e free rs) =
      let es = (found_line p k x).of.needs in guard_alike (keys_of es) (need_of es) v e free rs (slice_get kinds v)

  pub needed_alike : (n : ℕ) (c : Node) (g : Function) (x y : List Cert) → needed p da (found_place p n c g x) ≡ needed p db (found_place p n c g y)
  needed_alike n c g x y =
      ap (flat_map inclusions_of) (ap (λ ds. first_demands p db (found_place p n c g y) ++ ds) (term_alike g.vars n x y c.core))

-- ---- the laws

pub needed_listed : Known → NeededListed
needed_listed known p vars forms n c g w clean show at of =
    made_valid.needed_sound known p w clean vars forms show no_certs n c at g of

pub needed_shown : Known → NeededShown
needed_shown known p vars forms n c g w clean show at of =
    made_valid.needed_sides known p w clean vars forms show no_certs n c at g of

pub demands_written : Known → DemandsWritten
demands_written known p vars forms n c g w clean show at of =
    made_valid.demands_written known p w clean vars forms show no_certs n c at g of

pub derived_valid : Known → DerivedIsValid
derived_valid known p vars forms certs w clean show made =
    made_valid.unbroken known p w clean vars forms show certs
    (λ n c g at of. subst (λ qs. AreCertsFor (scope_by p vars) forms qs (certs n)) (needed_alike p vars no_certs certs n c g [] (certs n)) (made n c g at of))

pub shown_typable : Known → ShownIsTypable
shown_typable known p vars forms w clean show =
    let s = pattern_of (scope_by p vars) in
    (typing_found p s, known.types p s w clean (values_solve p vars forms w (known.fits p w clean).0 show) show.senders)

-- A free variable is one of its function's.
use Rattle.std.proofs.Common.{◌≡◌, ℕ, zero, suc, ◌<◌, Bool, true, false, not, ◌||◌, ◌&&◌, nat_eq, List, [], ◌∷◌, length, map, Option, Some, None, refl, sym, ap, ◌∙◌, subst, ⊎_elim}
use Rattle.std.specs.Prelude.{slice_get, option_map}
use Rattle.std.specs.List.{list_any}
use Rattle.std.proofs.lemmas.Bool.{and_parts, or_cases, or_right, eqb-true}
use Rattle.std.proofs.lemmas.Option.{slice_get_within}
use Rattle.pat_semantics_spec.specs.Values.{BaseBool, BaseInt, BaseText, Kind, Plain, MailboxOf, Op, Add, Sub, Mul, Equal, Less, Expr, VarExpr, Literal, OpExpr, occurs}
use Rattle.pat_semantics_spec.specs.Programs.{Program, Function, Clause, Core, Val, Let, Call, If, Print, New, Send, Spawn, Guard, Node, node_at, core_at, function_at, parts, option_list, clause_bodies, clause_binders, clause_uses, core_uses, option_uses, is_among, is_free_within, is_free, kind_of}
use Rattle.pat_semantics_spec.specs.WellFormed.{WellFormed, op_kind, expr_kind, HaveKinds, CoreKinds}
use Rattle.pat_semantics_laws.proofs.Lists.{among_head, among_first, among_second}

-- both sides of an operator have kinds
op_sides : (op : Op) (a b : Option Kind) (k : Kind) → op_kind op a b ≡ Some k → (i : Kind) × (j : Kind) × (a ≡ Some i) × (b ≡ Some j)
op_sides Add (Some (Plain BaseInt)) (Some (Plain BaseInt)) k h = (Plain BaseInt, Plain BaseInt, refl, refl)
op_sides Sub (Some (Plain BaseInt)) (Some (Plain BaseInt)) k h = (Plain BaseInt, Plain BaseInt, refl, refl)
op_sides Mul (Some (Plain BaseInt)) (Some (Plain BaseInt)) k h = (Plain BaseInt, Plain BaseInt, refl, refl)
op_sides Equal (Some (Plain BaseInt)) (Some (Plain BaseInt)) k h = (Plain BaseInt, Plain BaseInt, refl, refl)
op_sides Equal (Some (Plain BaseBool)) (Some (Plain BaseBool)) k h = (Plain BaseBool, Plain BaseBool, refl, refl)
op_sides Equal (Some (Plain BaseText)) (Some (Plain BaseText)) k h = (Plain BaseText, Plain BaseText, refl, refl)
op_sides Less (Some (Plain BaseInt)) (Some (Plain BaseInt)) k h = (Plain BaseInt, Plain BaseInt, refl, refl)
op_sides _ _ _ k h = cc

module _ (vars : List Kind) (x : ℕ) where
  here : (y : ℕ) (k : Kind) → slice_get vars y ≡ Some k → nat_eq x y ≡ true → x < length vars
  here y k h same = slice_get_within vars x k (ap (slice_get vars) (eqb-true x y same) ∙ h)

  expr_below : (e : Expr) (k : Kind) → expr_kind vars e ≡ Some k → occurs x e ≡ true → x < length vars
  expr_below (VarExpr y) k h o = here y k h o
  expr_below (Literal c) k h o = cc
  expr_below (OpExpr op a b) k h o =
      let s = op_sides op (expr_kind vars a) (expr_kind vars b) k h in
      ⊎_elim (λ l. expr_below a s.0 s.2 l) (λ r. expr_below b s.1 s.3 r) (or_cases (occurs x a) (occurs x b) o)

  args_below : (es : List Expr) (ks : List Kind) → HaveKinds vars es ks → list_any (occurs x) es ≡ true → x < length vars
  args_below [] ks h o = cc
  args_below (e ∷ es) [] h o = absurd h
  args_below (e ∷ es) (k ∷ ks) h o =
      ⊎_elim (λ l. expr_below e k h.0 l) (λ r. args_below es ks h.1 r) (or_cases (occurs x e) (list_any (occurs x) es) o)

  clause_below : (free : ℕ → Bool) (cs : List Clause) → ((k : ℕ) → is_among k (clause_bodies cs) ≡ true → free k ≡ true → x < length vars) → list_any (clause_uses free x) cs ≡ true → x < length vars
  clause_below free [] part o = cc
  clause_below free (r ∷ rs) part o =
      ⊎_elim
      (λ l. part r.body (among_head r.body (clause_bodies rs)) (and_parts (free r.body) (not (is_among x (clause_binders r))) l).0)
      (λ more. clause_below free rs (λ k a. part k (or_right (nat_eq k r.body) (is_among k (clause_bodies rs)) a)) more)
      (or_cases (clause_uses free x r) (list_any (clause_uses free x) rs) o)

  option_below : (free : ℕ → Bool) (o : Option ℕ) → ((k : ℕ) → is_among k (option_list o) ≡ true → free k ≡ true → x < length vars) → list_any free (option_list o) ≡ true → x < length vars
  option_below free None part h = cc
  option_below free (Some n) part h =
      ⊎_elim (λ l. part n (among_head n []) l) (λ r. cc) (or_cases (free n) false h)

  -- a variable that a term uses is one of those, if it is so where a part uses it
  core_below : (p : Program) (k : Kind) (free : ℕ → Bool) (core : Core) → CoreKinds p vars k core → ((m : ℕ) → is_among m (parts core) ≡ true → free m ≡ true → x < length vars) → core_uses free x core ≡ true → x < length vars
  core_below p k free (Val e) h part o = expr_below e k h o
  core_below p k free (Let y m n) h part o =
      ⊎_elim
      (λ l. part m (among_head m (n ∷ [])) l)
      (λ r. part n (or_right (nat_eq n m) (is_among n (n ∷ [])) (among_head n [])) (and_parts (free n) (not (is_among x (option_list y))) r).0)
      (or_cases (free m) (free n && not (is_among x (option_list y))) o)
  core_below p k free (Call f args) h part o = args_below args (map kind_of h.0.params) h.2 o
  core_below p k free (If e m n) h part o =
      ⊎_elim
      (λ l. expr_below e (Plain BaseBool) h.0 l)
      (λ r. ⊎_elim
      (λ l. part m (among_head m (n ∷ [])) l)
      (λ w. part n (or_right (nat_eq n m) (is_among n (n ∷ [])) (among_head n [])) w)
      (or_cases (free m) (free n) r))
      (or_cases (occurs x e) (free m || free n) o)
  core_below p k free (Print e) h part o = expr_below e h.1.0 h.1.1 o
  core_below p k free (New i) h part o = cc
  core_below p k free (Send y m args) h part o =
      ⊎_elim
      (λ l. here y (MailboxOf h.1.0) h.1.2 l)
      (λ r. args_below args (map kind_of h.1.1.payloads) h.1.4 r)
      (or_cases (nat_eq x y) (list_any (occurs x) args) o)
  core_below p k free (Spawn m) h part o = part m (among_head m []) o
  core_below p k free (Guard y e f cs) h part o =
      ⊎_elim
      (λ l. here y (MailboxOf h.0) h.1 l)
      (λ r. ⊎_elim
      (λ u. option_below free f (λ m a. part m (among_first m (option_list f) (clause_bodies cs) a)) u)
      (λ u. clause_below free cs (λ m a. part m (among_second m (option_list f) (clause_bodies cs) a)) u)
      (or_cases (list_any free (option_list f)) (list_any (clause_uses free x) cs) r))
      (or_cases (nat_eq x y) (list_any free (option_list f) || list_any (clause_uses free x) cs) o)

module _ (p : Program) (wf : WellFormed p) (x : ℕ) where
  within_below : (d n : ℕ) (c : Node) (g : Function) → node_at p n ≡ Some c → function_at p c.function ≡ Some g → is_free_within d p x n ≡ true → x < length g.vars
  within_below zero n c g at of h = cc
  within_below (suc d) n c g at of h =
      let fits = wf.nodes n c at in
      let both : Some fits.function ≡ Some g = sym fits.of ∙ of in
      let same : fits.function ≡ g = cc in
      let core : core_at p n ≡ Some c.core = ap (λ o. option_map (λ (w : Node). w.core) o) at in
      let uses : core_uses (is_free_within d p x) x c.core ≡ true = sym (ap (option_uses (is_free_within d p x) x) core) ∙ h in
      core_below g.vars x p c.kind (is_free_within d p x) c.core (subst (λ (f : Function). CoreKinds p f.vars c.kind c.core) same fits.kinds)
      (λ k a free.
      let part = (fits.parts_after k a).1 in
      within_below d k part.0 g part.1 (ap (function_at p) part.2 ∙ of) free)
      uses

  -- a variable that is free in a node is one of its function's
  pub free_below : (n : ℕ) (c : Node) (g : Function) → node_at p n ≡ Some c → function_at p c.function ≡ Some g → is_free p x n ≡ true → x < length g.vars
  unfolding is_free
  free_below n c g at of h = within_below (length p.nodes) n c g at of h

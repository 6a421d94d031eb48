-- The part of a thread that goes on after a receive fits its node.
use Rattle.std.proofs.Common.{◌≡◌, ℕ, suc, Bool, true, false, cond, ◌||◌, nat_eq, if◌then◌else◌, List, [], ◌∷◌, ◌++◌, length, map, Option, Some, None, refl, sym, ap, ◌∙◌, subst, arith}
use Rattle.std.specs.Prelude.{is_some, slice_get, option_and_then}
use Rattle.std.specs.List.{AllByRecursion, IsDistinct, list_any, flat_map}
use Rattle.std.proofs.lemmas.Bool.{eqb-true, eq-eqb, cond-true, cond-false, or_parts, or_left, or_right}
use Rattle.pat_semantics_spec.specs.Values.{Value, Const, Mailbox, Kind, Plain, MailboxOf, Env, value_at, bind, bind_all, ValueFits, ValuesFit}
use Rattle.pat_semantics_spec.specs.Programs.{Sort, BaseSort, MailboxSort, TagDecl, Clause, kind_of, is_among, clause_binders, clause_bodies}
use Rattle.pat_semantics_spec.specs.WellFormed.{VarsHaveKinds}
use Rattle.pat_semantics_spec.specs.Configs.{is_mailbox}
use Rattle.pat_semantics_spec.specs.Steps.{clause_for}
use Rattle.pat_type_system_spec.specs.Types.{Second, MailboxType, TypeEnv, mailbox_type}
use Rattle.pat_type_system_spec.specs.Typings.{payload_type, payload_sort}
use Rattle.pat_type_system_spec.specs.Holdings.{payload_held}
use Rattle.pat_type_system_spec.specs.Typed.{mailboxes_of}
use Rattle.pat_safety_laws.proofs.Refers.{name_is}
use Rattle.pat_safety_laws.proofs.Envs.{value_at-bind}
use Rattle.pat_safety_laws.proofs.Payloads.{HaveTypes, names_head, names_tail}
use Rattle.pat_type_system_laws.proofs.Named.{PlacesTyped}
use Rattle.pat_semantics_laws.proofs.Lists.{any_first, any_last}

-- ---- the clause of a message

-- the clause that is found is one of them, with the message's tag
pub found_clause : (P : Clause → Type 0) (m : ℕ) (cs : List Clause) (r : Clause) → AllByRecursion P cs → clause_for m cs ≡ Some r → P r × (r.tag ≡ m)
found_clause P m [] r a h = cc
found_clause P m (c ∷ cs) r a h =
    (elim (nat_eq m c.tag) as (λ t. nat_eq m c.tag ≡ t → cond t (Some c) (clause_for m cs) ≡ Some r → P r × (r.tag ≡ m)) [
      | true ↦ λ q k.
          let same : c ≡ r = cc in
          (subst P same a.0, ap (λ (x : Clause). x.tag) (sym same) ∙ sym (eqb-true m c.tag q))
      | false ↦ λ q k. found_clause P m cs r a.1 k
    ]) refl h

-- what it binds is bound by the guard
pub found_binders : (m : ℕ) (cs : List Clause) (r : Clause) (z : ℕ) → clause_for m cs ≡ Some r → is_among z (clause_binders r) ≡ true → is_among z (flat_map clause_binders cs) ≡ true
found_binders m [] r z h a = cc
found_binders m (c ∷ cs) r z h a =
    (elim (nat_eq m c.tag) as (λ t. cond t (Some c) (clause_for m cs) ≡ Some r → is_among z (clause_binders c ++ flat_map clause_binders cs) ≡ true) [
      | true ↦ λ k.
          let same : c ≡ r = cc in
          any_first (nat_eq z) (clause_binders c) (flat_map clause_binders cs) (subst (λ (x : Clause). is_among z (clause_binders x) ≡ true) (sym same) a)
      | false ↦ λ k. any_last (nat_eq z) (clause_binders c) (flat_map clause_binders cs) (found_binders m cs r z k a)
    ]) h

-- where it is found, a test of it passes for some clause
pub found_any : (f : Clause → Bool) (m : ℕ) (cs : List Clause) (r : Clause) → clause_for m cs ≡ Some r → f r ≡ true → list_any f cs ≡ true
found_any f m [] r h a = cc
found_any f m (c ∷ cs) r h a =
    (elim (nat_eq m c.tag) as (λ t. cond t (Some c) (clause_for m cs) ≡ Some r → (f c || list_any f cs) ≡ true) [
      | true ↦ λ k. let same : c ≡ r = cc in or_left (f c) (list_any f cs) (ap f same ∙ a)
      | false ↦ λ k. or_right (f c) (list_any f cs) (found_any f m cs r k a)
    ]) h

pub found_body : (m : ℕ) (cs : List Clause) (r : Clause) → clause_for m cs ≡ Some r → is_among r.body (clause_bodies cs) ≡ true
found_body m [] r h = cc
found_body m (c ∷ cs) r h =
    (elim (nat_eq m c.tag) as (λ t. cond t (Some c) (clause_for m cs) ≡ Some r → (nat_eq r.body c.body || is_among r.body (clause_bodies cs)) ≡ true) [
      | true ↦ λ k. let same : c ≡ r = cc in or_left (nat_eq r.body c.body) (is_among r.body (clause_bodies cs)) (eq-eqb r.body c.body (ap (λ (x : Clause). x.body) (sym same)))
      | false ↦ λ k. or_right (nat_eq r.body c.body) (is_among r.body (clause_bodies cs)) (found_body m cs r k)
    ]) h

-- ---- payloads

-- values as declared have types where they are mailboxes
pub have_types : (interfaces : ℕ → ℕ) (types : TypeEnv) (k : ℕ) (vs : List Value) (ss : List Sort) → ValuesFit interfaces vs (map kind_of ss) → PlacesTyped types k ss → HaveTypes types k vs
have_types f types k [] ss h p = tt
have_types f types k (v ∷ vs) [] h p = absurd h
have_types f types k (Const c ∷ vs) (s ∷ ss) h p = have_types f types (suc k) vs ss h.1 p.1
have_types f types k (Mailbox a ∷ vs) (s ∷ ss) h p = (name_kind (kind_of s) refl h.0, have_types f types (suc k) vs ss h.1 p.1)
  where
    name_kind : (q : Kind) → kind_of s ≡ q → ValueFits f (Mailbox a) q → is_some (types k) ≡ true
    name_kind (Plain b) e w = absurd w
    name_kind (MailboxOf i) e w = p.0 i e

-- a payload's type is second-class
payload_second : (s : Option Sort) (a : MailboxType) → option_and_then payload_sort s ≡ Some a → a.usage ≡ Second
payload_second None a h = cc
payload_second (Some (BaseSort b)) a h = cc
payload_second (Some (MailboxSort i q None)) a h = cc
payload_second (Some (MailboxSort i q (Some e))) a h =
    let same : mailbox_type i q e Second ≡ a = cc in ap (λ (t : MailboxType). t.usage) (sym same)

pub held_second : (decl : TagDecl) (b k : ℕ) (vs : List Value) (a : MailboxType) → payload_held b (payload_type decl) k vs ≡ Some a → a.usage ≡ Second
held_second decl b k [] a h = cc
held_second decl b k (v ∷ vs) a h =
    (elim (is_mailbox b v) as (λ t. (if t then payload_type decl k else payload_held b (payload_type decl) (suc k) vs) ≡ Some a → a.usage ≡ Second) [
      | true ↦ λ q. payload_second (slice_get decl.payloads k) a q
      | false ↦ λ q. held_second decl b (suc k) vs a q
    ]) h

-- a variable's value after binding payloads: it was there, or it is of the variable's kind
pub data BoundValue (interfaces : ℕ → ℕ) (vars : List Kind) (env : Env) (xs : List ℕ) (z : ℕ) (v : Value) : Type 0 where
  was : is_among z xs ≡ false → value_at env z ≡ Some v → BoundValue interfaces vars env xs z v
  of_kind : (k : Kind) → slice_get vars z ≡ Some k → ValueFits interfaces v k → BoundValue interfaces vars env xs z v

bound_on : (f : ℕ → ℕ) (vars : List Kind) (env : Env) (x : ℕ) (xs : List ℕ) (z : ℕ) (v : Value) → nat_eq z x ≡ false → BoundValue f vars env xs z v → BoundValue f vars env (x ∷ xs) z v
bound_on f vars env x xs z v off (was out at) = was (ap (λ t. t || is_among z xs) off ∙ out) at
bound_on f vars env x xs z v off (of_kind k at fits) = of_kind k at fits

pub bound_value : (f : ℕ → ℕ) (vars : List Kind) (env : Env) (xs : List ℕ) (vs : List Value) (ks : List Kind) (z : ℕ) (v : Value) → VarsHaveKinds vars xs ks → ValuesFit f vs ks → value_at (bind_all env xs vs) z ≡ Some v → BoundValue f vars env xs z v
bound_value f vars env [] vs ks z v a b h = was refl h
bound_value f vars env (x ∷ xs) [] (k ∷ ks) z v a b h = absurd b
bound_value f vars env (x ∷ xs) [] [] z v a b h = absurd a
bound_value f vars env (x ∷ xs) (w ∷ vs) [] z v a b h = absurd a
bound_value f vars env (x ∷ xs) (w ∷ vs) (k ∷ ks) z v a b h =
    (elim (nat_eq z x) as (λ t. nat_eq z x ≡ t → (if t then Some w else value_at (bind_all env xs vs) z) ≡ Some v → BoundValue f vars env (x ∷ xs) z v) [
      | true ↦ λ q e.
          let same : w ≡ v = cc in
          of_kind k (ap (slice_get vars) (eqb-true z x q) ∙ a.0) (subst (λ u. ValueFits f u k) same b.0)
      | false ↦ λ q e. bound_on f vars env x xs z v q (bound_value f vars env xs vs ks z v a.1 b.1 e)
    ]) refl (sym (value_at-bind (bind_all env xs vs) x w z) ∙ h)

-- a bound variable has a value
pub bound_some : (env : Env) (xs : List ℕ) (vs : List Value) (z : ℕ) → length xs ≡ length vs → is_among z xs ≡ true → (v : Value) × (value_at (bind_all env xs vs) z ≡ Some v)
bound_some env [] vs z len h = cc
bound_some env (x ∷ xs) [] z len h = absurd (omega arith)
bound_some env (x ∷ xs) (v ∷ vs) z len h =
    (elim (nat_eq z x) as (λ t. nat_eq z x ≡ t → (t || is_among z xs) ≡ true → (u : Value) × (value_at (bind (bind_all env xs vs) x v) z ≡ Some u)) [
      | true ↦ λ q k. (v, value_at-bind (bind_all env xs vs) x v z ∙ cond-true (nat_eq z x) (Some v) (value_at (bind_all env xs vs) z) q)
      | false ↦ λ q k.
          let rest = bound_some env xs vs z (omega arith) k in
          (rest.0, value_at-bind (bind_all env xs vs) x v z ∙ cond-false (nat_eq z x) (Some v) (value_at (bind_all env xs vs) z) q ∙ rest.1)
    ]) refl h

-- a mailbox is the value of no variable that is bound, where it isn't among the values
bound_absent : (env : Env) (xs : List ℕ) (vs : List Value) (z b : ℕ) → length xs ≡ length vs → is_among z xs ≡ true → list_any (is_mailbox b) vs ≡ false → value_at (bind_all env xs vs) z ≡ Some (Mailbox b) → ⊥
bound_absent env [] vs z b len h n at = cc
bound_absent env (x ∷ xs) [] z b len h n at = omega arith
bound_absent env (x ∷ xs) (v ∷ vs) z b len h n at =
    let p = or_parts (is_mailbox b v) (list_any (is_mailbox b) vs) n in
    (elim (nat_eq z x) as (λ t. nat_eq z x ≡ t → (t || is_among z xs) ≡ true → (if t then Some v else value_at (bind_all env xs vs) z) ≡ Some (Mailbox b) → ⊥) [
      | true ↦ λ q k e. let same : v ≡ Mailbox b = cc in let f : true ≡ false = sym (name_is b) ∙ ap (is_mailbox b) (sym same) ∙ p.0 in cc
      | false ↦ λ q k e. bound_absent env xs vs z b (omega arith) k p.1 e
    ]) refl h (sym (value_at-bind (bind_all env xs vs) x v z) ∙ at)

-- different names for different mailboxes
pub bound_different : (env : Env) (xs : List ℕ) (vs : List Value) (z w b : ℕ) → length xs ≡ length vs → IsDistinct nat_eq (mailboxes_of vs) → is_among z xs ≡ true → is_among w xs ≡ true → value_at (bind_all env xs vs) z ≡ Some (Mailbox b) → value_at (bind_all env xs vs) w ≡ Some (Mailbox b) → z ≡ w
bound_different env [] vs z w b len d hz hw az aw = cc
bound_different env (x ∷ xs) [] z w b len d hz hw az aw = absurd (omega arith)
bound_different env (x ∷ xs) (v ∷ vs) z w b len d hz hw az aw =
    (elim (nat_eq z x) as (λ t. nat_eq z x ≡ t → (t || is_among z xs) ≡ true → (if t then Some v else value_at (bind_all env xs vs) z) ≡ Some (Mailbox b) → z ≡ w) [
      | true ↦ λ q k e.
          let same : v ≡ Mailbox b = cc in
          let out = names_head b vs (subst (λ (u : Value). IsDistinct nat_eq (mailboxes_of (u ∷ vs))) same d) in
          (elim (nat_eq w x) as (λ t. nat_eq w x ≡ t → (t || is_among w xs) ≡ true → (if t then Some v else value_at (bind_all env xs vs) w) ≡ Some (Mailbox b) → z ≡ w) [
            | true ↦ λ r k' e'. eqb-true z x q ∙ sym (eqb-true w x r)
            | false ↦ λ r k' e'. absurd (bound_absent env xs vs w b (omega arith) k' out e')
          ]) refl hw (sym (value_at-bind (bind_all env xs vs) x v w) ∙ aw)
      | false ↦ λ q k e.
          (elim (nat_eq w x) as (λ t. nat_eq w x ≡ t → (t || is_among w xs) ≡ true → (if t then Some v else value_at (bind_all env xs vs) w) ≡ Some (Mailbox b) → z ≡ w) [
            | true ↦ λ r k' e'.
                let same : v ≡ Mailbox b = cc in
                let out = names_head b vs (subst (λ (u : Value). IsDistinct nat_eq (mailboxes_of (u ∷ vs))) same d) in
                absurd (bound_absent env xs vs z b (omega arith) k out e)
            | false ↦ λ r k' e'. bound_different env xs vs z w b (omega arith) (names_tail v vs d) k k' e e'
          ]) refl hw (sym (value_at-bind (bind_all env xs vs) x v w) ∙ aw)
    ]) refl hz (sym (value_at-bind (bind_all env xs vs) x v z) ∙ az)

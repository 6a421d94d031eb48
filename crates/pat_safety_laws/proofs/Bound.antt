-- The body of a let is that of one let alone.
use Rattle.std.proofs.Common.{◌≡◌, ℕ, zero, suc, ◌+◌, ◌≤◌, true, false, nat_eq, if◌then◌else◌, List, [], ◌∷◌, Option, Some, None, refl, sym, ap, ◌∙◌, subst, arith}
use Rattle.std.specs.Prelude.{slice_get, option_map}
use Rattle.std.proofs.lemmas.Bool.{or_left, or_right, eq-eqb, cond-true}
use Rattle.pat_semantics_spec.specs.Programs.{Program, Core, Val, Let, Call, If, Print, New, Send, Spawn, Guard, Node, node_at, core_at, parts, is_among}
use Rattle.pat_semantics_spec.specs.WellFormed.{WellFormed, count_if, count_among, uses_as_part, uses_as_body}
use Rattle.pat_type_system_spec.specs.Holdings.{let_bound, first_of_two, bound_of}
use Rattle.pat_semantics_laws.proofs.Lists.{count_here}

used_here : (b : ℕ) (ds : List Node) (n : ℕ) (d : Node) → slice_get ds n ≡ Some d → is_among b (parts d.core) ≡ true → 1 ≤ uses_as_part b ds
used_here b [] n d h a = cc
used_here b (x ∷ xs) zero d h a =
    let same : x ≡ d = cc in
    let here = count_here b (parts x.core) (subst (λ (w : Node). is_among b (parts w.core) ≡ true) (sym same) a) in
    omega arith
used_here b (x ∷ xs) (suc n) d h a = let rest = used_here b xs n d h a in omega arith

-- a node with no such part is no let with this body
not_bound : (b : ℕ) (core : Core) → count_among b (parts core) ≡ 0 → let_bound b core ≡ None
not_bound b (Let x m n) h =
    (elim (nat_eq b n) as (λ t. count_if (nat_eq b m) + (count_if t + 0) ≡ 0 → (if t then Some m else None) ≡ None) [
      | true ↦ λ k. absurd (omega arith)
      | false ↦ λ k. refl
    ]) h
not_bound b (Val e) h = refl
not_bound b (Call f args) h = refl
not_bound b (If e m n) h = refl
not_bound b (Print e) h = refl
not_bound b (New i) h = refl
not_bound b (Send x m args) h = refl
not_bound b (Spawn m) h = refl
not_bound b (Guard x e f cs) h = refl

pub body_among : (x : Option ℕ) (m b : ℕ) → is_among b (parts (Let x m b)) ≡ true
body_among x m b = or_right (nat_eq b m) (is_among b (b ∷ [])) (or_left (nat_eq b b) false (eq-eqb b b refl))

bound_found : (x : Option ℕ) (m b : ℕ) (ds : List Node) (n : ℕ) (d : Node) → slice_get ds n ≡ Some d → d.core ≡ Let x m b → uses_as_part b ds ≤ 1 → bound_of ds b ≡ Some m
bound_found x m b [] n d h e u = cc
bound_found x m b (k ∷ ks) zero d h e u =
    let same : k ≡ d = cc in
    let is : k.core ≡ Let x m b = ap (λ (w : Node). w.core) same ∙ e in
    ap (λ w. first_of_two (let_bound b w) (bound_of ks b)) is
    ∙ ap (λ o. first_of_two o (bound_of ks b)) (cond-true (nat_eq b b) (Some m) None (eq-eqb b b refl))
bound_found x m b (k ∷ ks) (suc n) d h e u =
    let there = used_here b ks n d h (subst (λ w. is_among b (parts w) ≡ true) (sym e) (body_among x m b)) in
    let none : count_among b (parts k.core) ≡ 0 = omega arith in
    ap (λ o. first_of_two o (bound_of ks b)) (not_bound b k.core none)
    ∙ bound_found x m b ks n d h e (omega arith)

bound_in : (p : Program) (n m b : ℕ) (x : Option ℕ) (o : Option Node) → WellFormed p → node_at p n ≡ o → option_map (λ (d : Node). d.core) o ≡ Some (Let x m b) → bound_of p.nodes b ≡ Some m
bound_in p n m b x None wf e h = cc
bound_in p n m b x (Some d) wf e h =
    let same : d.core ≡ Let x m b = cc in
    let part = (wf.nodes n d e).parts_after b (subst (λ c. is_among b (parts c) ≡ true) (sym same) (body_among x m b)) in
    let once : uses_as_body b p.functions + uses_as_part b p.nodes ≡ 1 = (wf.nodes b part.1.0 part.1.1).once in
    bound_found x m b p.nodes n d e same (omega arith)

-- the bound part of the let whose body this is
pub body_bound : (p : Program) (n m b : ℕ) (x : Option ℕ) → WellFormed p → core_at p n ≡ Some (Let x m b) → bound_of p.nodes b ≡ Some m
body_bound p n m b x wf at = bound_in p n m b x (node_at p n) wf refl at

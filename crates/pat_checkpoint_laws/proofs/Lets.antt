-- The let of a frame, by the first let with its body.
use Rattle.std.proofs.Common.{◌≡◌, ℕ, ◌+◌, ◌≤◌, Bool, true, false, ◌&&◌, ◌||◌, nat_eq, if◌then◌else◌, List, [], ◌∷◌, Option, Some, None, refl, sym, ap, ap₂, ◌∙◌, subst, arith, ⊎_elim}
use Rattle.std.specs.Prelude.{option_map}
use Rattle.std.specs.List.{list_any}
use Rattle.std.proofs.lemmas.Bool.{and_parts, and_right, or_left, or_right, eqb-true, eq-eqb, cases_Bool, false_from_ne_true}
use Rattle.pat_semantics_spec.specs.Programs.{Program, Core, Val, Let, Call, If, Print, New, Send, Spawn, Guard, Node, node_at, core_at, parts, is_among}
use Rattle.pat_semantics_spec.specs.WellFormed.{WellFormed, uses_as_body, uses_as_part}
use Rattle.pat_semantics_spec.specs.Configs.{Frame}
use Rattle.pat_semantics_laws.proofs.Lists.{count_here, ne_turn}
use Rattle.pat_type_system_spec.specs.Holdings.{let_bound, first_of_two, bound_of}
use Rattle.pat_checkpoint_spec.specs.Kinds.{is_same_name, is_let_of, is_frame_of_let, let_of, or_later, let_with, has_name_of}

body_among : (x : Option ℕ) (m b : ℕ) → is_among b (parts (Let x m b)) ≡ true
body_among x m b = or_right (nat_eq b m) (is_among b (b ∷ [])) (or_left (nat_eq b b) false (eq-eqb b b refl))

-- ---- the bound part

bound_is : (b : ℕ) (core : Core) → let_bound b core ≡ option_map (λ (e : Option ℕ × ℕ). e.1) (let_of b core)
bound_is b (Let x m n) = elim (nat_eq b n) as (λ t. (if t then Some m else None) ≡ option_map (λ (e : Option ℕ × ℕ). e.1) (if t then Some (x, m) else None)) [ true ↦ refl | false ↦ refl ]
bound_is b (Val e) = refl
bound_is b (Call f args) = refl
bound_is b (If e m n) = refl
bound_is b (Print e) = refl
bound_is b (New i) = refl
bound_is b (Send x m args) = refl
bound_is b (Spawn m) = refl
bound_is b (Guard x e f cs) = refl

first_is : (e f : Option (Option ℕ × ℕ)) → first_of_two (option_map (λ (e : Option ℕ × ℕ). e.1) e) (option_map (λ (e : Option ℕ × ℕ). e.1) f) ≡ option_map (λ (e : Option ℕ × ℕ). e.1) (or_later e f)
first_is None f = refl
first_is (Some e) f = refl

-- the bound part is that of the first let with the body
pub bound_with : (ds : List Node) (b : ℕ) → bound_of ds b ≡ option_map (λ (e : Option ℕ × ℕ). e.1) (let_with ds b)
bound_with [] b = refl
bound_with (d ∷ ds) b =
    ap₂ (λ e f. first_of_two e f) (bound_is b d.core) (bound_with ds b) ∙ first_is (let_of b d.core) (let_with ds b)

-- ---- the name

-- a term that is the frame's let has the frame's body for a part
let_part : (f : Frame) (core : Core) → is_let_of f core ≡ true → is_among f.body (parts core) ≡ true
let_part f (Let x m n) h =
    let q = and_parts (is_same_name x f.var) (nat_eq n f.body) h in
    subst (λ k. is_among k (parts (Let x m n)) ≡ true) (eqb-true n f.body q.1) (body_among x m n)
let_part f (Val e) h = cc
let_part f (Call g args) h = cc
let_part f (If e m n) h = cc
let_part f (Print e) h = cc
let_part f (New i) h = cc
let_part f (Send x m args) h = cc
let_part f (Spawn m) h = cc
let_part f (Guard x e g cs) h = cc

-- none is where no node has the body for a part
no_let : (f : Frame) (ds : List Node) → uses_as_part f.body ds ≡ 0 → list_any (λ d. is_let_of f d.core) ds ≡ false
no_let f [] h = refl
no_let f (d ∷ ds) h =
    let off : is_let_of f d.core ≡ false =
    false_from_ne_true (is_let_of f d.core) (λ on. let one = count_here f.body (parts d.core) (let_part f d.core on) in omega arith) in
    ap (λ b. b || list_any (λ d. is_let_of f d.core) ds) off ∙ no_let f ds (let r : uses_as_part f.body ds ≡ 0 = omega arith in r)

by_name : (b : Bool) → ((b && true) || false) ≡ b
by_name true = refl
by_name false = refl

lets_are : (f : Frame) (ds : List Node) → uses_as_part f.body ds ≤ 1 → list_any (λ d. is_let_of f d.core) ds ≡ has_name_of f (let_with ds f.body)
lets_are f [] h = refl
lets_are f (d ∷ ds) h = go d.core refl (lets_are f ds (omega arith))
  where
    go : (core : Core) → d.core ≡ core → list_any (λ d. is_let_of f d.core) ds ≡ has_name_of f (let_with ds f.body) → (is_let_of f core || list_any (λ d. is_let_of f d.core) ds) ≡ has_name_of f (or_later (let_of f.body core) (let_with ds f.body))
    go (Val e) is rest = rest
    go (Call g args) is rest = rest
    go (If e m n) is rest = rest
    go (Print e) is rest = rest
    go (New i) is rest = rest
    go (Send x m args) is rest = rest
    go (Spawn m) is rest = rest
    go (Guard x e g cs) is rest = rest
    go (Let x m n) is rest =
        ⊎_elim
        (λ here.
        let same : f.body ≡ n = eqb-true f.body n here in
        let part : is_among f.body (parts d.core) ≡ true = subst (λ c. is_among f.body (parts c) ≡ true) (sym is) (subst (λ k. is_among k (parts (Let x m n)) ≡ true) (sym same) (body_among x m n)) in
        let one = count_here f.body (parts d.core) part in
        let none : list_any (λ d. is_let_of f d.core) ds ≡ false = no_let f ds (omega arith) in
        ap₂ (λ b e. (is_same_name x f.var && b) || e) (eq-eqb n f.body (sym same)) none
        ∙ by_name (is_same_name x f.var)
        ∙ sym (ap (λ t. has_name_of f (or_later (if t then Some (x, m) else None) (let_with ds f.body))) here))
        (λ off.
        ap (λ b. b || list_any (λ d. is_let_of f d.core) ds) (and_right (is_same_name x f.var) (nat_eq n f.body) (ne_turn f.body n off))
        ∙ rest
        ∙ sym (ap (λ t. has_name_of f (or_later (if t then Some (x, m) else None) (let_with ds f.body))) off))
        (cases_Bool (nat_eq f.body n))

-- a frame is that of a let just where it has the name of the first let with its body, if that is a node
pub frame_with : (p : Program) (f : Frame) (core : Core) → WellFormed p → core_at p f.body ≡ Some core → is_frame_of_let p f ≡ has_name_of f (let_with p.nodes f.body)
frame_with p f core wf at = go (node_at p f.body) refl at
  where
    go : (o : Option Node) → node_at p f.body ≡ o → option_map (λ (d : Node). d.core) o ≡ Some core → is_frame_of_let p f ≡ has_name_of f (let_with p.nodes f.body)
    go None is h = cc
    go (Some d) is h =
        let once : uses_as_body f.body p.functions + uses_as_part f.body p.nodes ≡ 1 = (wf.nodes f.body d is).once in
        lets_are f p.nodes (omega arith)

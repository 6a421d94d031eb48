-- The free variables of a node are those of its term, by the free variables of its parts.
use Rattle.std.proofs.Common.{◌≡◌, ℕ, zero, suc, ◌+◌, ◌<◌, ◌≤◌, Bool, true, false, ◌||◌, ◌&&◌, not, nat_eq, List, [], ◌∷◌, ◌++◌, length, Option, Some, None, refl, sym, ap, ap₂, ◌∙◌, subst, arith}
use Rattle.std.specs.Prelude.{option_map, pred}
use Rattle.std.specs.List.{list_any}
use Rattle.std.proofs.lemmas.Bool.{or_right}
use Rattle.std.proofs.lemmas.Option.{slice_get_past}
use Rattle.pat_semantics_spec.specs.Programs.{Program, Clause, Core, Val, Let, Call, If, Print, New, Send, Spawn, Guard, Node, node_at, core_at, parts, option_list, clause_bodies, is_among, clause_binders, clause_uses, core_uses, option_uses, is_free_within, is_free}
use Rattle.pat_semantics_spec.specs.WellFormed.{WellFormed}
use Rattle.pat_semantics_laws.proofs.Lists.{among_head}
use Rattle.pat_semantics_spec.specs.Values.{occurs}

-- two tests agree on the parts of a term
abbrev pub AgreeOnParts : (ℕ → Bool) → (ℕ → Bool) → List ℕ → Type 0
AgreeOnParts f g ks = (k : ℕ) → is_among k ks ≡ true → f k ≡ g k

options_agree : (f g : ℕ → Bool) (o : Option ℕ) (ks : List ℕ) → AgreeOnParts f g (option_list o ++ ks) → list_any f (option_list o) ≡ list_any g (option_list o)
options_agree f g None ks a = refl
options_agree f g (Some n) ks a = ap (λ b. b || false) (a n (among_head n ks))

among_last : (o : Option ℕ) (k : ℕ) (ks : List ℕ) → is_among k ks ≡ true → is_among k (option_list o ++ ks) ≡ true
among_last None k ks h = h
among_last (Some n) k ks h = or_right (nat_eq k n) (is_among k ks) h

clauses_agree : (f g : ℕ → Bool) (x : ℕ) (cs : List Clause) → AgreeOnParts f g (clause_bodies cs) → list_any (clause_uses f x) cs ≡ list_any (clause_uses g x) cs
clauses_agree f g x [] a = refl
clauses_agree f g x (c ∷ cs) a =
    ap₂ (λ b d. (b && not (is_among x (clause_binders c))) || d) (a c.body (among_head c.body (clause_bodies cs)))
    (clauses_agree f g x cs (λ k h. a k (or_right (nat_eq k c.body) (is_among k (clause_bodies cs)) h)))

pub core_agrees : (f g : ℕ → Bool) (x : ℕ) (core : Core) → AgreeOnParts f g (parts core) → core_uses f x core ≡ core_uses g x core
core_agrees f g x (Let y m n) a =
    ap₂ (λ b d. b || (d && not (is_among x (option_list y)))) (a m (among_head m (n ∷ []))) (a n (or_right (nat_eq n m) (is_among n (n ∷ [])) (among_head n [])))
core_agrees f g x (If e m n) a =
    ap₂ (λ b d. occurs x e || (b || d)) (a m (among_head m (n ∷ []))) (a n (or_right (nat_eq n m) (is_among n (n ∷ [])) (among_head n [])))
core_agrees f g x (Spawn m) a = a m (among_head m [])
core_agrees f g x (Guard y e free cs) a =
    ap₂ (λ b d. nat_eq x y || (b || d)) (options_agree f g free (clause_bodies cs) a)
    (clauses_agree f g x cs (λ k h. a k (among_last free k (clause_bodies cs) h)))
core_agrees f g x (Val e) a = refl
core_agrees f g x (Call h args) a = refl
core_agrees f g x (Print e) a = refl
core_agrees f g x (New i) a = refl
core_agrees f g x (Send y m args) a = refl

-- a part comes after its node
pub part_after : (p : Program) (n : ℕ) (core : Core) (o : Option Node) → WellFormed p → node_at p n ≡ o → option_map (λ (d : Node). d.core) o ≡ Some core → (k : ℕ) → is_among k (parts core) ≡ true → n < k
part_after p n core None w e h k a = cc
part_after p n core (Some d) w e h k a =
    let same : d.core ≡ core = cc in
    let i = (w.nodes n d e).parts_after k (subst (λ c. is_among k (parts c) ≡ true) (sym same) a) in
    i.0

deeper : (p : Program) (x : ℕ) → WellFormed p → (d n : ℕ) (o : Option Core) → core_at p n ≡ o → ((k : ℕ) → n < k → is_free_within d p x k ≡ is_free_within (pred d) p x k) → option_uses (is_free_within d p x) x o ≡ option_uses (is_free_within (pred d) p x) x o
deeper p x w d n None e ih = refl
deeper p x w d n (Some core) e ih =
    core_agrees (is_free_within d p x) (is_free_within (pred d) p x) x core
    (λ k a. ih k (part_after p n core (node_at p n) w refl e k a))

-- looking deeper than there are nodes finds no more
deep_enough : (p : Program) (x : ℕ) → WellFormed p → (d n : ℕ) → length p.nodes ≤ d + n → is_free_within (suc d) p x n ≡ is_free_within d p x n
deep_enough p x w zero n h =
    let past : node_at p n ≡ None = slice_get_past p.nodes n (omega arith) in
    ap (λ o. option_uses (is_free_within 0 p x) x (option_map (λ (d : Node). d.core) o)) past
deep_enough p x w (suc d) n h =
    deeper p x w (suc d) n (core_at p n) refl (λ k after. deep_enough p x w d k (omega arith))

-- a variable is free in a node where it is free in its term
pub free_unfolds : (p : Program) (x n : ℕ) (core : Core) → WellFormed p → core_at p n ≡ Some core → is_free p x n ≡ core_uses (λ k. is_free p x k) x core
unfolding is_free
free_unfolds p x n core w h =
    sym (deep_enough p x w (length p.nodes) n (omega arith)) ∙ ap (λ o. option_uses (is_free_within (length p.nodes) p x) x o) h

-- The values that the body of a `let` goes on with, and a value that comes last.
use Rattle.std.proofs.Common.{◌≡◌, ℕ, ◌<◌, Bool, true, false, ◌||◌, ◌&&◌, cond, nat_eq, nat_lt, List, [], ◌∷◌, ◌++◌, Option, Some, None, refl, sym, ap, ◌∙◌, arith}
use Rattle.std.specs.Prelude.{not, filter, if◌then◌else◌}
use Rattle.std.specs.List.{AllByRecursion}
use Rattle.std.proofs.lemmas.Bool.{eqb-true, eqb-false, ne_eqb, eq-eqb, ltb-true, le-ltb, cond-true, cond-false}
use Rattle.std.proofs.lemmas.List.Elements.{filter-append}
use Rattle.pat_primitives.specs.Values.{Value, Env, bind}
use Rattle.pat_primitives.specs.Programs.{Program, is_among, is_free, keep, option_list}
use Rattle.pat_primitives.specs.Steps.{bind_name}
use Rattle.pat_reduce_values.specs.declared.values.Value.{Value as CodeValue}
use Rattle.pat_reduce_values.specs.Environments.{all_less, keep_but}
use Rattle.pat_reduce_values.specs.ValueViews.{env_view, value_view}
use Rattle.pat_reduce_values.proofs.Finds.{filter_alike, filter_map_same}

-- ---- the values that the body goes on with

module _ (q : ℕ → Bool) where
  abbrev passed : Env → Env
  passed env = filter (λ b. q b.0) env

  -- of which none is left out
  abbrev Passing : Env → Type 0
  Passing env = AllByRecursion (λ (e : ℕ × Value). q e.0 ≡ true) env

  all_pass : (env : Env) → Passing env → passed env ≡ env
  all_pass [] a = refl
  all_pass (e ∷ env) a = cond-true (q e.0) (e ∷ passed env) (passed env) a.0 ∙ ap (λ l. e ∷ l) (all_pass env a.1)

  passed_pass : (env : Env) → Passing (passed env)
  passed_pass [] = tt
  passed_pass (e ∷ env) =
      (elim (q e.0) as (λ t. q e.0 ≡ t → Passing (cond t (e ∷ passed env) (passed env))) [
        | true ↦ λ is. (is, passed_pass env)
        | false ↦ λ is. passed_pass env
      ]) refl

  fewer_pass : (r : ℕ × Value → Bool) (env : Env) → Passing env → Passing (filter r env)
  fewer_pass r [] a = tt
  fewer_pass r (e ∷ env) a =
      (elim (r e) as (λ t. Passing (cond t (e ∷ filter r env) (filter r env))) [
        | true ↦ (a.0, fewer_pass r env a.1)
        | false ↦ fewer_pass r env a.1
      ])

  -- a further value that passes
  bound_pass : (env : Env) (x : ℕ) (v : Value) → q x ≡ true → Passing env → Passing (bind env x v)
  bound_pass [] x v is a = (is, tt)
  bound_pass (e ∷ env) x v is a =
      (elim (nat_lt x e.0) as (λ t. Passing (cond t ((x, v) ∷ e ∷ env) (if nat_eq x e.0 then (x, v) ∷ env else e ∷ bind env x v))) [
        | true ↦ (is, a)
        | false ↦
            (elim (nat_eq x e.0) as (λ t. Passing (cond t ((x, v) ∷ env) (e ∷ bind env x v))) [
              | true ↦ (is, a.1)
              | false ↦ (a.0, bound_pass env x v is a.1)
            ])
      ])

  -- a further value that doesn't, and had no other one
  bound_left_out : (env : Env) (x : ℕ) (v : Value) → q x ≡ false → Passing env → AllByRecursion (λ (e : ℕ × Value). nat_eq x e.0 ≡ false) env → passed (bind env x v) ≡ env
  bound_left_out [] x v off a apart = cond-false (q x) ((x, v) ∷ []) [] off
  bound_left_out (e ∷ env) x v off a apart =
      (elim (nat_lt x e.0) as (λ t. passed (cond t ((x, v) ∷ e ∷ env) (if nat_eq x e.0 then (x, v) ∷ env else e ∷ bind env x v)) ≡ e ∷ env) [
        | true ↦ cond-false (q x) ((x, v) ∷ passed (e ∷ env)) (passed (e ∷ env)) off ∙ all_pass (e ∷ env) a
        | false ↦
            ap passed (cond-false (nat_eq x e.0) ((x, v) ∷ env) (e ∷ bind env x v) apart.0)
            ∙ cond-true (q e.0) (e ∷ passed (bind env x v)) (passed (bind env x v)) a.0
            ∙ ap (λ l. e ∷ l) (bound_left_out env x v off a.1 apart.1)
      ])

others_apart : (x : ℕ) (env : Env) → AllByRecursion (λ (e : ℕ × Value). nat_eq x e.0 ≡ false) (filter (λ b. not (is_among b.0 (x ∷ []))) env)
others_apart x [] = tt
others_apart x (e ∷ env) =
    (elim (nat_eq e.0 x) as (λ t. nat_eq e.0 x ≡ t → AllByRecursion (λ (e : ℕ × Value). nat_eq x e.0 ≡ false) (cond (not (t || false)) (e ∷ filter (λ b. not (is_among b.0 (x ∷ []))) env) (filter (λ b. not (is_among b.0 (x ∷ []))) env))) [
      | true ↦ λ is. others_apart x env
      | false ↦ λ is. (ne_eqb x e.0 (λ s. eqb-false e.0 x is (sym s)), others_apart x env)
    ]) refl

module _ (p : Program) (b x : ℕ) (env : Env) (v : Value) where
  -- the values of a frame that waits for the variable
  abbrev waiting : Env
  waiting = keep_but p b (Some x) env

  waiting_pass : Passing (λ z. is_free p z b) waiting
  waiting_pass = fewer_pass (λ z. is_free p z b) (λ e. not (is_among e.0 (x ∷ []))) (keep p b env) (passed_pass (λ z. is_free p z b) env)

  used : is_free p x b ≡ true → bind waiting x v ≡ keep p b (bind waiting x v)
  used is = sym (all_pass (λ z. is_free p z b) (bind waiting x v) (bound_pass (λ z. is_free p z b) waiting x v is waiting_pass))

  unused : is_free p x b ≡ false → waiting ≡ keep p b (bind waiting x v)
  unused off = sym (bound_left_out (λ z. is_free p z b) waiting x v off waiting_pass (others_apart x (keep p b env)))

none_left_out : (q : ℕ × Value → Bool) (env : Env) → ((e : ℕ × Value) → q e ≡ true) → filter q env ≡ env
none_left_out q [] all = refl
none_left_out q (e ∷ env) all = cond-true (q e) (e ∷ filter q env) (filter q env) (all e) ∙ ap (λ l. e ∷ l) (none_left_out q env all)

-- with no name for the value
unnamed : (p : Program) (b : ℕ) (env : Env) → keep p b env ≡ keep p b (keep_but p b None env)
unnamed p b env =
    sym (all_pass (λ z. is_free p z b) (keep p b env) (passed_pass (λ z. is_free p z b) env))
    ∙ ap (keep p b) (sym (none_left_out (λ e. not (is_among e.0 [])) (keep p b env) (λ e. refl)))

-- whether a number is the only one
alone_among : (x y : ℕ) → nat_eq x y ≡ is_among x (y ∷ [])
alone_among x y = elim (nat_eq x y) as (λ t. t ≡ (t || false)) [ true ↦ refl | false ↦ refl ]

-- ---- a value that comes last

and_front : (a b : Bool) → (a && b) ≡ true → a ≡ true
and_front true b h = refl
and_front false b h = absurd cc

and_rest : (a b : Bool) → (a && b) ≡ true → b ≡ true
and_rest true b h = h
and_rest false b h = absurd cc

-- behind lesser variables it comes last
pub bind_last : (env : Env) (x : ℕ) (v : Value) → all_less x env ≡ true → bind env x v ≡ env ++ (x, v) ∷ []
bind_last [] x v h = refl
bind_last (e ∷ env) x v h =
    let less : e.0 < x = ltb-true e.0 x (and_front (nat_lt e.0 x) (all_less x env) h) in
    cond-false (nat_lt x e.0) ((x, v) ∷ e ∷ env) (if nat_eq x e.0 then (x, v) ∷ env else e ∷ bind env x v) (le-ltb x e.0 (omega arith))
    ∙ cond-false (nat_eq x e.0) ((x, v) ∷ env) (e ∷ bind env x v) (ne_eqb x e.0 (λ (s : x ≡ e.0). omega (arith, less, s)))
    ∙ ap (λ l. e ∷ l) (bind_last env x v (and_rest (nat_lt e.0 x) (all_less x env) h))

-- none of them is this one
pub none_is : (env : Env) (x : ℕ) → all_less x env ≡ true → filter (λ b. not (is_among b.0 (x ∷ []))) env ≡ env
none_is [] x h = refl
none_is (e ∷ env) x h =
    let less : e.0 < x = ltb-true e.0 x (and_front (nat_lt e.0 x) (all_less x env) h) in
    cond-true (not (is_among e.0 (x ∷ []))) (e ∷ filter (λ b. not (is_among b.0 (x ∷ []))) env) (filter (λ b. not (is_among b.0 (x ∷ []))) env)
    (ap not (sym (alone_among e.0 x) ∙ ne_eqb e.0 x (λ (s : e.0 ≡ x). omega (arith, less, s))))
    ∙ ap (λ l. e ∷ l) (none_is env x (and_rest (nat_lt e.0 x) (all_less x env) h))

module _ (p : Program) (n : ℕ) where
  -- what a node keeps of them and of one more
  pub kept_of_both : (y : Option ℕ) (env more : Env) → keep_but p n y (env ++ more) ≡ keep_but p n y env ++ keep_but p n y more
  kept_of_both y env more =
      ap (filter (λ b. not (is_among b.0 (option_list y)))) (filter-append (λ b. is_free p b.0 n) env more)
      ∙ filter-append (λ b. not (is_among b.0 (option_list y))) (keep p n env) (keep p n more)

  pub kept_with_last : (y : Option ℕ) (env : Env) (x : ℕ) (v : Value) → all_less x env ≡ true
      → keep_but p n y env ++ keep_but p n y ((x, v) ∷ []) ≡ keep_but p n y (bind env x v)
  kept_with_last y env x v h = sym (ap (keep_but p n y) (bind_last env x v h) ∙ kept_of_both y env ((x, v) ∷ []))

-- ---- the same as the code finds it

module _ (p : Program) (b : ℕ) (y : Option ℕ) where
  -- the values that the body goes on with
  abbrev pub after : Env → Value → Env
  after env v = keep p b (bind_name (keep_but p b y env) y v)

  pub used_in : (x : ℕ) (env waits new : Env) (v : Value) (t : Bool) → y ≡ Some x → waits ≡ keep_but p b (Some x) env
      → t ≡ is_free p x b → t ≡ true → new ≡ bind waits x v → new ≡ after env v
  used_in x env waits new v t named w free is n =
      n
      ∙ ap (λ l. bind l x v) w
      ∙ used p b x env v (sym free ∙ is)
      ∙ ap (λ z. keep p b (bind_name (keep_but p b z env) z v)) (sym named)

  pub unused_in : (x : ℕ) (env waits : Env) (v : Value) (t : Bool) → y ≡ Some x → waits ≡ keep_but p b (Some x) env
      → t ≡ is_free p x b → t ≡ false → waits ≡ after env v
  unused_in x env waits v t named w free is =
      w
      ∙ unused p b x env v (sym free ∙ is)
      ∙ ap (λ z. keep p b (bind_name (keep_but p b z env) z v)) (sym named)

  pub unnamed_in : (env kept : Env) (v : Value) → y ≡ None → kept ≡ keep p b env → kept ≡ after env v
  unnamed_in env kept v named k = k ∙ unnamed p b env ∙ ap (λ z. keep p b (bind_name (keep_but p b z env) z v)) (sym named)

-- where each is free in the body and less than the variable, the body waits with all of them
pub waits_with_all : (p : Program) (b x : ℕ) (env : Env) → keep p b env ≡ env → all_less x env ≡ true → env ≡ keep_but p b (Some x) env
waits_with_all p b x env free less = sym (ap (filter (λ e. not (is_among e.0 (x ∷ [])))) free ∙ none_is env x less)

-- two tests at once
filter_both : {A : Type 0} (q r : A → Bool) (xs : List A) → filter (λ x. r x && q x) xs ≡ filter r (filter q xs)
filter_both q r [] = refl
filter_both q r (x ∷ xs) =
    (elim (q x) as (λ b. (if r x && b then x ∷ filter (λ y. r y && q y) xs else filter (λ y. r y && q y) xs) ≡ filter r (if b then x ∷ filter q xs else filter q xs)) [
      | true ↦ ap (λ t. if t then x ∷ filter (λ y. r y && q y) xs else filter (λ y. r y && q y) xs) (and_true (r x)) ∙ ap (λ l. if r x then x ∷ l else l) (filter_both q r xs)
      | false ↦ ap (λ t. if t then x ∷ filter (λ y. r y && q y) xs else filter (λ y. r y && q y) xs) (and_false (r x)) ∙ filter_both q r xs
    ])
  where
    and_true : (b : Bool) → (b && true) ≡ b
    and_true true = refl
    and_true false = refl

    and_false : (b : Bool) → (b && false) ≡ false
    and_false true = refl
    and_false false = refl

-- the values that stay
pub waiting_values : (p : Program) (b x : ℕ) (free : List ℕ) (env : List (ℕ × CodeValue)) → ((z : ℕ) → is_among z free ≡ is_free p z b)
    → env_view (filter (λ e. not (nat_eq e.0 x) && is_among e.0 free) env) ≡ keep_but p b (Some x) (env_view env)
waiting_values p b x free env is =
    ap env_view (filter_alike (λ e. not (nat_eq e.0 x) && is_among e.0 free) (λ e. not (is_among e.0 (x ∷ [])) && is_free p e.0 b) env
    (λ e. ap (λ t. not t && is_among e.0 free) (alone_among e.0 x) ∙ ap (λ t. not (is_among e.0 (x ∷ [])) && t) (is e.0)))
    ∙ filter_map_same (λ e. not (is_among e.0 (x ∷ [])) && is_free p e.0 b) (λ e. (e.0, value_view e.1)) env
    ∙ filter_both (λ e. is_free p e.0 b) (λ e. not (is_among e.0 (x ∷ []))) (env_view env)

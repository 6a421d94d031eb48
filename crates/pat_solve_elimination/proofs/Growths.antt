-- What a pattern comes to with values in place of variables, part after part.
use Rattle.std.proofs.Common.{◌≡◌, ℕ, suc, ◌+◌, ◌<◌, ◌≤◌, ◌⊎◌, Bool, true, false, ◌||◌, ⊎_elim, inl, inr, List, [], ◌∷◌, length, Option, Some, None, refl, sym, ap, ◌∙◌, subst, arith}
use Rattle.std.specs.Prelude.{nat_eq, get_or, IfSome}
use Rattle.std.specs.Map.{lookup}
use Rattle.std.specs.Option.{unwrap_or}
use Rattle.std.proofs.lemmas.Bool.{cases_Bool, cond-true, cond-false, eqb-true}
use Rattle.pat_words_spec.specs.Patterns.{Pat, Var}
use Rattle.pat_words_spec.specs.Sizes.{levels_of}
use Rattle.pat_solve_spec.specs.Assignments.{Values}
use Rattle.pat_solve_bounded.specs.Variables.{has_var, any_has}
use Rattle.pat_solve_bounded.specs.replacing.Ascending.{paired}
use Rattle.pat_solve_bounded.specs.replacing.Replacing.{listed_in}
use Rattle.pat_solve_elimination.specs.Growing.{Lacks, grown, all_grown, Settled, MayGrow}
use Rattle.pat_solve_elimination.specs.declared.growing.Growth.{Growth}
use Rattle.pat_limits.specs.Limits.{most_levels, most_nodes}

-- a pattern that has none of some variables lacks those that have values
pub lacks_all : (ks : List ℕ) (vs : List Pat) (e : Pat) → ((i : ℕ) → i < length ks → has_var (get_or ks i 0) e ≡ false) → Lacks (paired ks vs) e
lacks_all [] vs e none = tt
lacks_all (k ∷ ks) [] e none = tt
lacks_all (k ∷ ks) (v ∷ vs) e none = (none 0 (omega arith), lacks_all ks vs e (λ i h. none (suc i) (omega arith)))

-- a variable without a value is none of those that have one
absent_lacks : (vs : Values) (k : ℕ) → lookup (nat_eq k) vs ≡ None → Lacks vs (Var k)
absent_lacks [] k h = tt
absent_lacks (v ∷ vs) k h =
    ⊎_elim
    (λ (t : nat_eq k v.0 ≡ true). let some = sym (cond-true (nat_eq k v.0) (Some v.1) (lookup (nat_eq k) vs) t) ∙ h in absurd cc)
    (λ (n : nat_eq k v.0 ≡ false). (n, absent_lacks vs k (sym (cond-false (nat_eq k v.0) (Some v.1) (lookup (nat_eq k) vs) n) ∙ h)))
    (cases_Bool (nat_eq k v.0))

-- a value that lacks all variables
pub settled_value : (vs : Values) (k most : ℕ) (e : Pat) → Some e ≡ lookup (nat_eq k) vs → levels_of e ≤ most → Lacks vs e → Settled vs most k
settled_value vs k most e at l h =
    let is : e ≡ listed_in vs k = ap (λ x. unwrap_or x (Var k)) at in
    record { levels = subst (λ x. levels_of x ≤ most) is l; lacks = subst (Lacks vs) is h }

-- a variable without a value
pub settled_variable : (vs : Values) (k most : ℕ) → None ≡ lookup (nat_eq k) vs → 1 ≤ most → Settled vs most k
settled_variable vs k most at l =
    let is : Var k ≡ listed_in vs k = ap (λ x. unwrap_or x (Var k)) at in
    record { levels = subst (λ x. levels_of x ≤ most) is l; lacks = subst (Lacks vs) is (absent_lacks vs k (sym at)) }

-- a variable that is settled needn't wait
pub one_settled : (vs : Values) (most k : ℕ) (es : List Pat) → Settled vs most k → (j : ℕ) → Settled vs most j ⊎ (any_has j es ≡ any_has j (Var k ∷ es))
one_settled vs most k es s j =
    ⊎_elim
    (λ (t : nat_eq k j ≡ true). inl (subst (Settled vs most) (eqb-true k j t) s))
    (λ (n : nat_eq k j ≡ false). inr (ap (λ b. b || any_has j es) (sym n)))
    (cases_Bool (nat_eq k j))

more_levels : (vs : Values) (least most k : ℕ) → least ≤ most → Settled vs least k → Settled vs most k
more_levels vs least most k l s = let h = s.levels in record { levels = omega (arith, h); lacks = s.lacks }

-- what has been looked at, and what waits, is the whole pattern
abbrev pub SoFar : Values → Pat → Growth → List Pat → Type 0
SoFar vs f growth es =
    (growth.nodes + all_grown vs es ≡ grown vs f) × (growth.nodes ≤ most_nodes) × ((k : ℕ) → Settled vs growth.levels k ⊎ (has_var k f ≡ any_has k es))

pub begun : (vs : Values) (f : Pat) (growth : Growth) → growth.nodes ≡ 0 → SoFar vs f growth (f ∷ [])
begun vs f growth none_yet = (omega (arith, none_yet), omega (arith, none_yet), λ k. inr (none (has_var k f)))
  where
    none : (b : Bool) → b ≡ (b || false)
    none true = refl
    none false = refl

pub grew : (vs : Values) (f : Pat) (before after : Growth) (es fs : List Pat) → SoFar vs f before es → after.nodes + all_grown vs fs ≡ before.nodes + all_grown vs es → after.nodes ≤ most_nodes → before.levels ≤ after.levels → ((k : ℕ) → Settled vs after.levels k ⊎ (any_has k fs ≡ any_has k es)) → SoFar vs f after fs
grew vs f before after es fs so same few levels settled = (
  same ∙ so.0,
  few,
  λ k.
      ⊎_elim
      (λ (a : Settled vs before.levels k). inl (more_levels vs before.levels after.levels k levels a))
      (λ (b : has_var k f ≡ any_has k es).
      ⊎_elim (λ (c : Settled vs after.levels k). inl c) (λ (d : any_has k fs ≡ any_has k es). inr (b ∙ sym d)) (settled k))
      (so.2 k),
)

pub grown_up : (vs : Values) (f : Pat) (growth : Growth) → (vs ≡ [] → ⊥) → SoFar vs f growth [] → levels_of f + growth.levels ≤ most_levels → MayGrow vs f
grown_up vs f growth some so levels =
    let all = so.0 in
    let few = so.1 in
    record {
      some = some;
      most = growth.levels;
      settled = λ k o. ⊎_elim (λ (a : Settled vs growth.levels k). a) (λ (b : has_var k f ≡ false). absurd cc) (so.2 k);
      nodes = omega (arith, all, few);
      levels = levels;
    }

-- what follows of a value that is there
pub if_some : {A : Type 0} {P Q : A → Type 0} (o : Option A) → IfSome o P → ((x : A) → P x → Q x) → IfSome o Q
if_some None h f = tt
if_some (Some x) h f = f x h

-- where there is a variable with a value, there is a pair
pub some_pair : (ks : List ℕ) (vs : List Pat) → length ks ≡ length vs → (length ks ≡ 0 → ⊥) → paired ks vs ≡ [] → ⊥
some_pair [] vs n some none = some refl
some_pair (k ∷ ks) [] n some none = absurd (omega arith)
some_pair (k ∷ ks) (v ∷ vs) n some none = cc

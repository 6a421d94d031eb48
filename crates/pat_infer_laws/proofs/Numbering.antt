-- Facts on numbered variables, from those of all signatures to those of one type.
use Rattle.std.proofs.Common.{◌∙◌, sym, refl, None, length-append, ◌≡◌, ℕ, zero, suc, ◌+◌, List, [], ◌∷◌, ◌++◌, length, Some, subst, arith}
use Rattle.std.specs.Prelude.{slice_get}
use Rattle.pat_semantics_spec.specs.Programs.{Sort, BaseSort, MailboxSort, Function, Program, function_at}
use Rattle.pat_type_schemes_spec.specs.Signatures.{Origin, OfParameter, OfResult, Variable, omitted, params_omitted, function_vars, functions_vars, signature_vars, omits, number_at, result_number, function_number, first_number}
use Rattle.pat_infer_spec.specs.Shapes.{IsNumber}

pub omits_length : (o : Origin) (t : Sort) → length (omitted o t) ≡ omits t
omits_length o (BaseSort b) = refl
omits_length o (MailboxSort i q None) = refl
omits_length o (MailboxSort i q (Some e)) = refl

pub params_length : (f k c : ℕ) (ss : List Sort) → k + length (params_omitted f c ss) ≡ number_at k ss (length ss)
params_length f k c [] = omega arith
params_length f k c (t ∷ ss) =
    let rest = params_length f (k + omits t) (suc c) ss in
    let here = omits_length (OfParameter f c) t in
    let both = length-append (omitted (OfParameter f c) t) (params_omitted f (suc c) ss) in
    let same : k + length (omitted (OfParameter f c) t ++ params_omitted f (suc c) ss) ≡ (k + omits t) + length (params_omitted f (suc c) ss) = omega arith in
    same ∙ rest

-- a fact of each variable and its number, counted from k
abbrev pub Numbered : (ℕ → Variable → Type 0) → ℕ → List Variable → Type 0
Numbered F k [] = Unit {0}
Numbered F k (v ∷ vs) = F k v × Numbered F (suc k) vs

pub numbered_parts : (F : ℕ → Variable → Type 0) (k : ℕ) (us vs : List Variable) → Numbered F k (us ++ vs) → Numbered F k us × Numbered F (k + length us) vs
numbered_parts F k [] vs h = (tt, subst (λ j. Numbered F j vs) (omega arith) h)
numbered_parts F k (u ∷ us) vs h =
    let q = numbered_parts F (suc k) us vs h.1 in
    let same : suc k + length us ≡ k + suc (length us) = omega arith in
    ((h.0, q.0), subst (λ j. Numbered F j vs) same q.1)

pub function_numbered : (F : ℕ → Variable → Type 0) (k f : ℕ) (gs : List Function) (j : ℕ) (g : Function) → Numbered F k (functions_vars f gs) → slice_get gs j ≡ Some g → Numbered F (function_number k gs j) (function_vars (f + j) g)
function_numbered F k f [] j g h e = cc
function_numbered F k f (d ∷ ds) zero g h e =
    let same : d ≡ g = cc in
    let q = numbered_parts F k (function_vars f d) (functions_vars (suc f) ds) h in
    let place : f ≡ f + 0 = omega arith in
    subst (λ n. Numbered F k (function_vars n g)) place (subst (λ c. Numbered F k (function_vars f c)) same q.0)
function_numbered F k f (d ∷ ds) (suc j) g h e =
    let q = numbered_parts F k (function_vars f d) (functions_vars (suc f) ds) h in
    let both = length-append (params_omitted f 0 d.params) (omitted (OfResult f) d.result) in
    let first = params_length f k 0 d.params in
    let last = omits_length (OfResult f) d.result in
    let next : k + length (params_omitted f 0 d.params ++ omitted (OfResult f) d.result) ≡ result_number k d + omits d.result = omega arith in
    let place : suc f + j ≡ f + suc j = omega arith in
    subst (λ n. Numbered F (function_number k (d ∷ ds) (suc j)) (function_vars n g)) place
    (function_numbered F (result_number k d + omits d.result) (suc f) ds j g (subst (λ n. Numbered F n (functions_vars (suc f) ds)) next q.1) e)

pub param_numbered : (F : ℕ → Variable → Type 0) (k f c : ℕ) (ss : List Sort) (j : ℕ) (t : Sort) → Numbered F k (params_omitted f c ss) → slice_get ss j ≡ Some t → Numbered F (number_at k ss j) (omitted (OfParameter f (c + j)) t)
param_numbered F k f c [] j t h e = cc
param_numbered F k f c (u ∷ us) zero t h e =
    let same : u ≡ t = cc in
    let q = numbered_parts F k (omitted (OfParameter f c) u) (params_omitted f (suc c) us) h in
    let place : c ≡ c + 0 = omega arith in
    subst (λ n. Numbered F k (omitted (OfParameter f n) t)) place (subst (λ w. Numbered F k (omitted (OfParameter f c) w)) same q.0)
param_numbered F k f c (u ∷ us) (suc j) t h e =
    let q = numbered_parts F k (omitted (OfParameter f c) u) (params_omitted f (suc c) us) h in
    let last = omits_length (OfParameter f c) u in
    let next : k + length (omitted (OfParameter f c) u) ≡ k + omits u = omega arith in
    let place : suc c + j ≡ c + suc j = omega arith in
    subst (λ n. Numbered F (number_at (k + omits u) us j) (omitted (OfParameter f n) t)) place
    (param_numbered F (k + omits u) f (suc c) us j t (subst (λ n. Numbered F n (params_omitted f (suc c) us)) next q.1) e)

-- the variables of a list have their numbers, counted from 1
numbers_from : (vars : List Variable) (c : ℕ) (us : List Variable) → ((j : ℕ) (v : Variable) → slice_get us j ≡ Some v → slice_get vars (c + j) ≡ Some v) → Numbered (IsNumber vars) (suc c) us
numbers_from vars c [] h = tt
numbers_from vars c (u ∷ us) h =
    let place : c + 0 ≡ c = omega arith in (
      (c, refl, subst (λ n. slice_get vars n ≡ Some u) place (h 0 u refl)),
      numbers_from vars (suc c) us (λ j v e. let next : c + suc j ≡ suc c + j = omega arith in subst (λ n. slice_get vars n ≡ Some v) next (h (suc j) v e)),
    )

pub all_numbers : (vars : List Variable) → Numbered (IsNumber vars) 1 vars
all_numbers vars = numbers_from vars 0 vars (λ j v e. let place : 0 + j ≡ j = omega arith in subst (λ n. slice_get vars n ≡ Some v) (sym place) e)

-- the facts of one signature: those of each parameter and of the result
pub record SignatureNumbered (F : ℕ → Variable → Type 0) (p : Program) (f : ℕ) (g : Function) : Type 0 where
  pub params : (k : ℕ) (t : Sort) → slice_get g.params k ≡ Some t → Numbered F (number_at (first_number p f) g.params k) (omitted (OfParameter f k) t)
  pub result : Numbered F (result_number (first_number p f) g) (omitted (OfResult f) g.result)

pub signature_numbered : (F : ℕ → Variable → Type 0) (p : Program) → Numbered F 1 (signature_vars p) → (f : ℕ) (g : Function) → function_at p f ≡ Some g → SignatureNumbered F p f g
signature_numbered F p h f g at =
    let place : 0 + f ≡ f = omega arith in
    let all = subst (λ n. Numbered F (first_number p f) (function_vars n g)) place (function_numbered F 1 0 p.functions f g h at) in
    let own = numbered_parts F (first_number p f) (params_omitted f 0 g.params) (omitted (OfResult f) g.result) all in
    record {
      params = λ k t e.
          let first : 0 + k ≡ k = omega arith in
          subst (λ n. Numbered F (number_at (first_number p f) g.params k) (omitted (OfParameter f n) t)) first (param_numbered F (first_number p f) f 0 g.params k t own.0 e);
      result = subst (λ n. Numbered F n (omitted (OfResult f) g.result)) (params_length f (first_number p f) 0 g.params) own.1;
    }

-- Inference loses nothing: of a program that can be typed no rule is broken, and a typing's patterns solve its constraints.
use Rattle.std.proofs.Common.{◌≡◌, ℕ, suc, ◌+◌, List, [], ◌∷◌, length, Option, Some, None, refl, sym, ap, ◌∙◌, subst, arith}
use Rattle.std.specs.Prelude.{pred, slice_get, option_and_then}
use Rattle.std.specs.List.{AllByRecursion}
use Rattle.pat_words_spec.specs.Patterns.{Pat, Zero}
use Rattle.pat_semantics_spec.specs.Programs.{Sort, BaseSort, MailboxSort, Function, Program, function_at}
use Rattle.pat_semantics_spec.specs.WellFormed.{WellFormed}
use Rattle.pat_semantics_laws.proofs.Lists.{all_join}
use Rattle.pat_type_system_spec.specs.Types.{MailboxType, mailbox_type}
use Rattle.pat_type_system_spec.specs.Typings.{sort_type, result_of, Typing, IsTyping, IsTypable, HasWord, TypeHasWord, FunctionTyped, param_usage, param_type}
use Rattle.pat_type_system_laws.specs.Laws.{BoundIsUnnamed}
use Rattle.pat_type_schemes_spec.specs.Signatures.{OfParameter, OfResult, Variable, omitted, params_omitted, function_vars, functions_vars, signature_vars}
use Rattle.pat_infer_spec.specs.Constraints.{Constraint}
use Rattle.pat_infer_spec.specs.Walk.{inferred, all_vars}
use Rattle.pat_infer_spec.specs.Solutions.{MeetsUnder, IsPatternSolution, SendersHaveWords, pattern_by, GivesFrom}
use Rattle.pat_infer_spec.specs.Laws.{BrokenIsUntypable, TypingSolves, TypableIsSolved}
use Rattle.pat_inclusion_laws.proofs.Replaced.{values_of, in_to, in_from}
use Rattle.pat_infer_laws.proofs.Gathering.{gives_parts, all_map}
use Rattle.pat_infer_laws.proofs.BothLaws.{Holds}
use Rattle.pat_infer_laws.proofs.SignatureLaws.{signatures_agree}
use Rattle.pat_infer_laws.proofs.WalkSound.{functions_sound}

-- a constraint holds with the variables replaced just where it holds under their words
pub holds_meets : (s : ℕ → Pat) (c : Constraint) → Holds s c → MeetsUnder (values_of s) c
holds_meets s c h w i = in_to s c.right w (h w (in_from s c.left w i))

pub meets_holds : (s : ℕ → Pat) (c : Constraint) → MeetsUnder (values_of s) c → Holds s c
meets_holds s c h w i = in_from s c.right w (h w (in_to s c.left w i))

-- ---- the assignment of a typing

-- the pattern of the variable, if it is there
abbrev value_by : Typing → Option Variable → Pat
value_by y None = Zero
value_by y (Some v) = pattern_by y v.origin

-- the typing's patterns for variables numbered from 1
abbrev pub values_by : Typing → List Variable → ℕ → Pat
values_by y vs k = value_by y (slice_get vs (pred k))

gives_by : (y : Typing) (s : ℕ → Pat) (k : ℕ) (vs : List Variable) → ((j : ℕ) (v : Variable) → slice_get vs j ≡ Some v → s (k + j) ≡ pattern_by y v.origin) → GivesFrom y s k vs
gives_by y s k [] h = tt
gives_by y s k (v ∷ vs) h =
    let here : k + 0 ≡ k = omega arith in (
      subst (λ n. s n ≡ pattern_by y v.origin) here (h 0 v refl),
      gives_by y s (suc k) vs (λ j u e. let next : k + suc j ≡ suc k + j = omega arith in subst (λ n. s n ≡ pattern_by y u.origin) next (h (suc j) u e)),
    )

pub values_give : (y : Typing) (vs : List Variable) → GivesFrom y (values_by y vs) 1 vs
values_give y vs = gives_by y (values_by y vs) 1 vs (λ j v e. let at : pred (1 + j) ≡ j = at_one j in ap (λ n. value_by y (slice_get vs n)) at ∙ ap (value_by y) e)
  where
    at_one : (j : ℕ) → pred (1 + j) ≡ j
    at_one j = let e : 1 + j ≡ suc j = omega arith in ap pred e

-- ---- no rule is broken, and the constraints hold

all_sound : BoundIsUnnamed → (p : Program) (y : Typing) (s : ℕ → Pat) (wf : WellFormed p) (typing : IsTyping p y) → GivesFrom y s 1 (all_vars p) → ((inferred p).findings ≡ []) × IsPatternSolution p s
all_sound unnamed p y s wf typing gives =
    let q = gives_parts y s 1 (signature_vars p) (inferred p).vars gives in
    let sound = functions_sound unnamed p wf y typing s (signatures_agree p y s wf q.0) 0 (1 + length (signature_vars p)) p.functions
    (λ j g e. let place : 0 + j ≡ j = omega arith in subst (λ n. function_at p n ≡ Some g) (sym place) e) q.1 in
    (sound.clean, all_map (Holds s) (MeetsUnder (values_of s)) (holds_meets s) (inferred p).constraints sound.holds)

pub typing_solves : BoundIsUnnamed → TypingSolves
typing_solves unnamed p y s wf typing gives = (all_sound unnamed p y s wf typing gives).1

pub typable_clean : BoundIsUnnamed → (p : Program) → WellFormed p → IsTypable p → (inferred p).findings ≡ []
typable_clean unnamed p wf (y, typing) = (all_sound unnamed p y (values_by y (all_vars p)) wf typing (values_give y (all_vars p))).0

pub broken_untypable : BoundIsUnnamed → BrokenIsUntypable
broken_untypable unnamed p x xs wf e typable = let c : x ∷ xs ≡ [] = sym e ∙ typable_clean unnamed p wf typable in cc

-- ---- sending variables of signatures have words

-- the typing's pattern for a sending variable has a word
abbrev WordBy : Typing → Variable → Type 0
WordBy y v = HasWord v.polarity (pattern_by y v.origin)

param_words : (y : Typing) (f : ℕ) (g : Function) (c : ℕ) (ss : List Sort) → ((j : ℕ) (t : Sort) → slice_get ss j ≡ Some t → slice_get g.params (c + j) ≡ Some t) → ((k : ℕ) (a : MailboxType) → param_type y f g k ≡ Some a → HasWord a.polarity a.pattern) → AllByRecursion (WordBy y) (params_omitted f c ss)
param_words y f g c [] at words = tt
param_words y f g c (t ∷ ss) at words =
    all_join (WordBy y) (omitted (OfParameter f c) t) (params_omitted f (suc c) ss)
    (one t (let place : c + 0 ≡ c = omega arith in subst (λ n. slice_get g.params n ≡ Some t) place (at 0 t refl)))
    (param_words y f g (suc c) ss (λ j u e. let next : c + suc j ≡ suc c + j = omega arith in subst (λ n. slice_get g.params n ≡ Some u) next (at (suc j) u e)) words)
  where
    one : (t : Sort) → slice_get g.params c ≡ Some t → AllByRecursion (WordBy y) (omitted (OfParameter f c) t)
    one (BaseSort b) e = tt
    one (MailboxSort i q (Some w)) e = tt
    one (MailboxSort i q None) e =
        (words c (mailbox_type i q (y.param_patterns f c) (param_usage q)) (ap (λ o. option_and_then (sort_type (y.param_patterns f c)) o) e), tt)

result_words : (y : Typing) (f : ℕ) (t : Sort) → TypeHasWord (result_of (y.result_patterns f) t) → AllByRecursion (WordBy y) (omitted (OfResult f) t)
result_words y f (BaseSort b) h = tt
result_words y f (MailboxSort i q (Some e)) h = tt
result_words y f (MailboxSort i q None) h = (h, tt)

functions_words : (p : Program) (y : Typing) → WellFormed p → IsTyping p y → (f : ℕ) (gs : List Function) → ((j : ℕ) (g : Function) → slice_get gs j ≡ Some g → function_at p (f + j) ≡ Some g) → AllByRecursion (WordBy y) (functions_vars f gs)
functions_words p y wf typing f [] there = tt
functions_words p y wf typing f (g ∷ gs) there =
    let place : f + 0 ≡ f = omega arith in
    let at : function_at p f ≡ Some g = subst (λ n. function_at p n ≡ Some g) place (there 0 g refl) in
    let typed : FunctionTyped p y f g = typing.functions f g at in
    let node = (wf.functions f g at).body in
    all_join (WordBy y) (function_vars f g) (functions_vars (suc f) gs)
    (all_join (WordBy y) (params_omitted f 0 g.params) (omitted (OfResult f) g.result)
    (param_words y f g 0 g.params (λ j t e. let zero_plus : 0 + j ≡ j = omega arith in subst (λ n. slice_get g.params n ≡ Some t) (sym zero_plus) e) typed.param_words)
    (result_words y f g.result (subst TypeHasWord typed.result (typing.nodes g.body node.0 node.1).result_word)))
    (functions_words p y wf typing (suc f) gs (λ j e is. let next : f + suc j ≡ suc f + j = omega arith in subst (λ n. function_at p n ≡ Some e) next (there (suc j) e is)))

senders_by : (y : Typing) (s : ℕ → Pat) (k : ℕ) (vs : List Variable) → GivesFrom y s k vs → AllByRecursion (WordBy y) vs → SendersHaveWords s k vs
senders_by y s k [] g h = tt
senders_by y s k (v ∷ vs) g h = (subst (HasWord v.polarity) (sym g.0) h.0, senders_by y s (suc k) vs g.1 h.1)

pub typable_solved : BoundIsUnnamed → TypableIsSolved
typable_solved unnamed p wf (y, typing) =
    let s : ℕ → Pat = values_by y (all_vars p) in
    let gives = values_give y (all_vars p) in
    let q = gives_parts y s 1 (signature_vars p) (inferred p).vars gives in (
      s,
      typing_solves unnamed p y s wf typing gives,
      senders_by y s 1 (signature_vars p) q.0
          (functions_words p y wf typing 0 p.functions (λ j g e. let place : 0 + j ≡ j = omega arith in subst (λ n. function_at p n ≡ Some g) (sym place) e)),
    )

-- Functions that are walked one after another.
use Rattle.std.proofs.Common.{◌≡◌, ℕ, zero, suc, ◌+◌, ◌<◌, List, [], ◌∷◌, ◌++◌, length, map, Some, refl, sym, ap, ◌∙◌, subst, arith, drop, get_or}
use Rattle.std.specs.Prelude.{slice_get, option_map}
use Rattle.std.proofs.lemmas.List.{append-nil, append_assoc, map-append, length-map, at_drop_more}
use Rattle.std.proofs.lemmas.Option.{slice_get_within, get_or_from_slice_get, slice_get-map, slice_get_read}
use Rattle.pat_semantics_spec.specs.Programs.{Function}
use Rattle.pat_type_schemes_spec.specs.Signatures.{signature_vars}
use Rattle.pat_infer_spec.specs.Constraints.{Found}
use Rattle.pat_infer_spec.specs.Walk.{walk_function, walk_functions, inferred}
use Rattle.pat_core.specs.declared.program.Program.{Program}
use Rattle.pat_core.specs.Views.{program_view}
use Rattle.pat_types.specs.Views.{node_type_view}
use Rattle.pat_infer_problems.specs.Views.{placed_variable, placed_variable_of, placed_constraint, constraint_view}
use Rattle.pat_infer_problems.specs.Results.{Refuses, first_of}
use Rattle.pat_infer_problems.specs.Growing.{Grows, settled}
use Rattle.pat_infer_problems.specs.declared.problem.Problem.{Problem}
use Rattle.pat_infer_problems.specs.declared.error.InferError.{InferError}
use Rattle.pat_infer_problems.proofs.Joining.{first_behind, refuses_front, refuses_by, settled_both, grown}
use Rattle.pat_infer_problems.specs.signatures.Opened.{signature_end, signatures_from}
use Rattle.pat_infer_problems.specs.signatures.Views.{signature_view}
use Rattle.pat_infer_problems.specs.declared.signatures.signatures.Signature.{Signature}
use Rattle.pat_infer.specs.walk.Walking.{HasGrown}
use Rattle.pat_infer.specs.Answers.{IsMade, IsEmpty}

-- what is found so far, with what is found of the functions that are left, is what is found of all
pub record Walking (p : Program) (old now : Problem) (n : ℕ) (left : List Function) (k : ℕ) : Type 0 where
  pub vars : map placed_variable_of now.vars ++ map (placed_variable p) (walk_functions (program_view p) n k left).vars ≡ map placed_variable_of old.vars ++ map (placed_variable p) (walk_functions (program_view p) 0 (1 + length old.vars) (program_view p).functions).vars
  pub constraints : map constraint_view now.constraints ++ map (placed_constraint p) (walk_functions (program_view p) n k left).constraints ≡ map constraint_view old.constraints ++ map (placed_constraint p) (walk_functions (program_view p) 0 (1 + length old.vars) (program_view p).functions).constraints
  pub nodes : settled (walk_functions (program_view p) n k left).nodes (map node_type_view now.nodes) ≡ settled (walk_functions (program_view p) 0 (1 + length old.vars) (program_view p).functions).nodes (map node_type_view old.nodes)
  pub findings : first_of (walk_functions (program_view p) n k left).findings ≡ first_of (walk_functions (program_view p) 0 (1 + length old.vars) (program_view p).functions).findings

abbrev pub StillToWalk : Program → Problem → Problem → ℕ → List Function → Type 0
StillToWalk p old now n left = Walking p old now n left (1 + length now.vars)

pub at_last : (p : Program) (old now : Problem) (n : ℕ) (left : List Function) → left ≡ [] → StillToWalk p old now n left → HasGrown p old now (walk_functions (program_view p) 0 (1 + length old.vars) (program_view p).functions)
at_last p old now n [] e s = record {
  grows = record {
    vars = sym (append-nil (map placed_variable_of now.vars)) ∙ s.vars;
    constraints = sym (append-nil (map constraint_view now.constraints)) ∙ s.constraints;
    nodes = s.nodes;
  };
  clean = sym s.findings;
}
at_last p old now n (g ∷ gs) e s = cc

-- one function more
pub one_more : (p : Program) (old now next : Problem) (n : ℕ) (g : Function) (left : List Function) → StillToWalk p old now n (g ∷ left) → HasGrown p now next (walk_function (program_view p) n g (1 + length now.vars)) → StillToWalk p old next (n + 1) left
one_more p old now next n g left s w =
    let v = program_view p in
    let r : Found = walk_function v n g (1 + length now.vars) in
    let k : ℕ = 1 + length now.vars + length r.vars in
    let rest : Found = walk_functions v (suc n) k left in
    let number : k ≡ 1 + length next.vars = sym (grown p now next r.vars (map (placed_constraint p) r.constraints) r.nodes w.grows) in
    let place : suc n ≡ n + 1 = omega arith in
    subst (λ (m : ℕ). StillToWalk p old next m left) place
    (subst (λ (m : ℕ). Walking p old next (suc n) left m) number (record {
      vars =
          ap (λ zs. zs ++ map (placed_variable p) rest.vars) w.grows.vars
          ∙ append_assoc (map placed_variable_of now.vars) (map (placed_variable p) r.vars) (map (placed_variable p) rest.vars)
          ∙ ap (λ zs. map placed_variable_of now.vars ++ zs) (sym (map-append (placed_variable p) r.vars rest.vars))
          ∙ s.vars;
      constraints =
          ap (λ zs. zs ++ map (placed_constraint p) rest.constraints) w.grows.constraints
          ∙ append_assoc (map constraint_view now.constraints) (map (placed_constraint p) r.constraints) (map (placed_constraint p) rest.constraints)
          ∙ ap (λ zs. map constraint_view now.constraints ++ zs) (sym (map-append (placed_constraint p) r.constraints rest.constraints))
          ∙ s.constraints;
      nodes = ap (settled rest.nodes) w.grows.nodes ∙ sym (settled_both r.nodes rest.nodes (map node_type_view now.nodes)) ∙ s.nodes;
      findings = sym (first_behind r.findings rest.findings w.clean) ∙ s.findings;
    }))

-- what a function breaks
pub function_breaks : (p : Program) (e : InferError) (old now : Problem) (n : ℕ) (g : Function) (left : List Function) → StillToWalk p old now n (g ∷ left) → Refuses p e (walk_function (program_view p) n g (1 + length now.vars)).findings → Refuses p e (walk_functions (program_view p) 0 (1 + length old.vars) (program_view p).functions).findings
function_breaks p e old now n g left s h =
    let v = program_view p in
    let r : Found = walk_function v n g (1 + length now.vars) in
    let rest : Found = walk_functions v (suc n) (1 + length now.vars + length r.vars) left in
    refuses_by p e (r.findings ++ rest.findings) (walk_functions v 0 (1 + length old.vars) v.functions).findings (λ x f. sym s.findings ∙ f) (refuses_front p e r.findings rest.findings h)

-- the function at a number stands before those behind it
pub row_at : (fs : List Function) (n : ℕ) (g : Function) → slice_get fs n ≡ Some g → drop n fs ≡ g ∷ drop (n + 1) fs
row_at fs n g h = at_drop_more (λ ys. ys) fs n g (slice_get_within fs n g h) ∙ ap (λ z. z ∷ drop (n + 1) fs) (here fs n h)
  where
    here : (gs : List Function) (m : ℕ) → slice_get gs m ≡ Some g → get_or gs m g ≡ g
    here gs m e = get_or_from_slice_get gs m g g e

-- the function at a number
pub record At (gs : List Function) (n : ℕ) : Type 0 where
  pub function : Function
  pub is : slice_get gs n ≡ Some function

function_at : (gs : List Function) (n : ℕ) → n < length gs → At gs n
function_at [] n l = absurd (none n l)
  where
    none : (k : ℕ) → k < 0 → ⊥
    none k h = omega (arith, h)
function_at (g ∷ gs) zero l = record { function = g; is = refl }
function_at (g ∷ gs) (suc n) l = let q = function_at gs n (omega (arith, l)) in record { function = q.function; is = q.is }

-- the next function
pub next_walked : (p : Program) (old now next : Problem) (n : ℕ) → n < length (program_view p).functions → StillToWalk p old now n (drop n (program_view p).functions) → ((g : Function) → slice_get (program_view p).functions n ≡ Some g → HasGrown p now next (walk_function (program_view p) n g (1 + length now.vars))) → StillToWalk p old next (n + 1) (drop (n + 1) (program_view p).functions)
next_walked p old now next n l s f =
    let gs = (program_view p).functions in
    let q = function_at gs n l in
    one_more p old now next n q.function (drop (n + 1) gs) (subst (λ (zs : List Function). StillToWalk p old now n zs) (row_at gs n q.function q.is) s) (f q.function q.is)

pub next_refused : (p : Program) (e : InferError) (old now : Problem) (n : ℕ) → n < length (program_view p).functions → StillToWalk p old now n (drop n (program_view p).functions) → ((g : Function) → slice_get (program_view p).functions n ≡ Some g → Refuses p e (walk_function (program_view p) n g (1 + length now.vars)).findings) → Refuses p e (walk_functions (program_view p) 0 (1 + length old.vars) (program_view p).functions).findings
next_refused p e old now n l s f =
    let gs = (program_view p).functions in
    let q = function_at gs n l in
    function_breaks p e old now n q.function (drop (n + 1) gs) (subst (λ (zs : List Function). StillToWalk p old now n zs) (row_at gs n q.function q.is) s) (f q.function q.is)

-- ---- signatures

signatures_count : (k : ℕ) (gs : List Function) → length (signatures_from k gs) ≡ length gs
signatures_count k [] = refl
signatures_count k (g ∷ gs) = ap suc (signatures_count (signature_end k g) gs)

-- each function has a signature
pub signed_within : (k : ℕ) (gs : List Function) (ss : List Signature) (n : ℕ) → map signature_view ss ≡ signatures_from k gs → n < length gs → n < length ss
signed_within k gs ss n h l =
    let same : length ss ≡ length gs = sym (length-map ss signature_view) ∙ ap length h ∙ signatures_count k gs in
    omega (arith, same, l)

-- what stands at a number, seen by the definitions
pub there : {A B : Type 0} (view : A → B) (xs : List A) (n : ℕ) (x : A) → n < length xs → x ≡ get_or xs n x → slice_get (map view xs) n ≡ Some (view x)
there view xs n x l e = slice_get-map view xs n ∙ ap (option_map view) (slice_get_read xs (length xs) n x refl l e)

some_function : (g h : Function) → Some g ≡ Some h → g ≡ h
some_function g h e = cc

pub same_function : (gs : List Function) (n : ℕ) (g h : Function) → slice_get gs n ≡ Some g → slice_get gs n ≡ Some h → g ≡ h
same_function gs n g h a b = some_function g h (sym a ∙ b)

-- ---- the whole

-- a problem that has grown from an empty one by the variables of signatures, and then by all functions
pub made : (p : Program) (first mid new : Problem) → IsEmpty p first → Grows first mid (map (placed_variable p) (signature_vars (program_view p))) [] [] → HasGrown p mid new (walk_functions (program_view p) 0 (1 + length mid.vars) (program_view p).functions) → IsMade p new
made p first mid new e g w =
    let v = program_view p in
    let signs = signature_vars v in
    let none : map placed_variable_of first.vars ≡ [] = ap (map placed_variable_of) e.vars in
    let begun : map placed_variable_of mid.vars ≡ map (placed_variable p) signs = g.vars ∙ ap (λ zs. zs ++ map (placed_variable p) signs) none in
    let many : length mid.vars ≡ length signs = sym (length-map mid.vars placed_variable_of) ∙ ap length begun ∙ length-map signs (placed_variable p) in
    let h : HasGrown p mid new (inferred v) = subst (λ (n : ℕ). HasGrown p mid new (walk_functions v 0 (1 + n) v.functions)) many w in
    let bare : map constraint_view mid.constraints ≡ [] = g.constraints ∙ append-nil (map constraint_view first.constraints) ∙ ap (map constraint_view) e.constraints in record {
      vars = h.grows.vars ∙ ap (λ zs. zs ++ map (placed_variable p) (inferred v).vars) begun ∙ sym (map-append (placed_variable p) signs (inferred v).vars);
      constraints = h.grows.constraints ∙ ap (λ zs. zs ++ map (placed_constraint p) (inferred v).constraints) bare;
      blank = map node_type_view mid.nodes;
      count = ap length g.nodes ∙ length-map first.nodes node_type_view ∙ e.count;
      nodes = h.grows.nodes;
      clean = h.clean;
    }

-- What branches need beside their own names, by a list of these needs.
use Rattle.std.proofs.Common.{◌≡◌, ℕ, ◌+◌, List, [], ◌∷◌, ◌++◌, length, map, Option, refl, sym, ap, ◌∙◌}
use Rattle.std.specs.Map.{keys_of}
use Rattle.pat_semantics_spec.specs.Programs.{TagDecl}
use Rattle.pat_semantics_spec.specs.Faults.{payloads_of}
use Rattle.pat_type_system_spec.specs.Types.{MailboxType}
use Rattle.pat_type_system_spec.specs.Typings.{payload_sort}
use Rattle.pat_type_system_spec.specs.Holdings.{declared_types}
use Rattle.pat_infer_spec.specs.Binders.{names_bound}
use Rattle.pat_type_schemes_spec.specs.NodeTypes.{Needs, need_of}
use Rattle.pat_infer_spec.specs.Constraints.{AtNode, BranchRule, unless, each_unless}
use Rattle.pat_infer_spec.specs.Needs.{add_all, Combined, vars_with, constraints_with, need_before, gather, Gathered}
use Rattle.pat_infer_spec.specs.Branches.{Arm, outer_needs, arm_names, arm_needs, branches_agree, branches}
use Rattle.pat_infer_spec.specs.Walk.{arms_findings, arms_gathered}
use Rattle.pat_infer_terms.specs.Types.{types_at}
use Rattle.pat_infer_terms.proofs.Payloads.{names_by}
use Rattle.pat_infer_environments.specs.variables.Names.{names_of_outer}
use Rattle.pat_infer_terms.specs.Gathering.{column_at, outer_gathered}

same_column : (x : ℕ) (arms : List Arm) → column_at x (map outer_needs arms) ≡ arm_needs x arms
same_column x [] = refl
same_column x (a ∷ arms) = ap (λ os. need_of (outer_needs a) x ∷ os) (same_column x arms)

same_names : (arms : List Arm) → names_of_outer (map outer_needs arms) ≡ arm_names arms
same_names [] = refl
same_names (a ∷ arms) = ap (add_all (keys_of (outer_needs a))) (same_names arms)

findings_on : (n : ℕ) (arms : List Arm) (xs : List ℕ) → each_unless (λ z. branches_agree (column_at z (map outer_needs arms))) BranchRule (λ z. AtNode n) xs ≡ each_unless (λ z. branches_agree (arm_needs z arms)) BranchRule (λ z. AtNode n) xs
findings_on n arms [] = refl
findings_on n arms (x ∷ xs) =
    ap (λ os. unless (branches_agree os) BranchRule (AtNode n) ++ each_unless (λ z. branches_agree (column_at z (map outer_needs arms))) BranchRule (λ z. AtNode n) xs) (same_column x arms)
    ∙ ap (λ fs. unless (branches_agree (arm_needs x arms)) BranchRule (AtNode n) ++ fs) (findings_on n arms xs)

pub same_findings : (n : ℕ) (arms : List Arm) (outer : List Needs) → outer ≡ map outer_needs arms → each_unless (λ z. branches_agree (column_at z outer)) BranchRule (λ z. AtNode n) (names_of_outer outer) ≡ arms_findings n arms
same_findings n arms outer h =
    ap (λ os. each_unless (λ z. branches_agree (column_at z os)) BranchRule (λ z. AtNode n) (names_of_outer os)) h
    ∙ ap (each_unless (λ z. branches_agree (column_at z (map outer_needs arms))) BranchRule (λ z. AtNode n)) (same_names arms)
    ∙ findings_on n arms (arm_names arms)

-- one name, before the rest
abbrev before : ℕ → Option Combined → Gathered → Gathered
before x o rest = record { needs = need_before x o rest.needs; vars = vars_with o ++ rest.vars; constraints = constraints_with o ++ rest.constraints }

gathered_on : (n k : ℕ) (arms : List Arm) (xs : List ℕ) → gather (λ j z. branches n j z (column_at z (map outer_needs arms))) k xs ≡ gather (λ j z. branches n j z (arm_needs z arms)) k xs
gathered_on n k arms [] = refl
gathered_on n k arms (x ∷ xs) =
    ap (λ os. before x (branches n k x os) (gather (λ j z. branches n j z (column_at z (map outer_needs arms))) (k + length (vars_with (branches n k x os))) xs)) (same_column x arms)
    ∙ ap (before x (branches n k x (arm_needs x arms))) (gathered_on n (k + length (vars_with (branches n k x (arm_needs x arms)))) arms xs)

pub same_gathered : (n k : ℕ) (arms : List Arm) (outer : List Needs) → outer ≡ map outer_needs arms → outer_gathered n k outer ≡ arms_gathered n k arms
same_gathered n k arms outer h =
    ap (outer_gathered n k) h
    ∙ ap (gather (λ j z. branches n j z (column_at z (map outer_needs arms))) k) (same_names arms)
    ∙ gathered_on n k arms (arm_names arms)

pub bound_by : (types : List (Option MailboxType)) (o : Option TagDecl) (xs : List ℕ) (needs : Needs) → types ≡ map payload_sort (payloads_of o) → names_bound (types_at types) 0 xs needs ≡ names_bound (declared_types o) 0 xs needs
bound_by = names_by

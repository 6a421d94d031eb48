-- What is listed of a node is what the definitions demand of it.
use Rattle.std.proofs.Common.{◌≡◌, ℕ, zero, suc, ◌+◌, ◌<◌, true, false, nat_eq, if◌then◌else◌, List, [], ◌∷◌, ◌++◌, length, Option, Some, None, refl, sym, ap, ◌∙◌, subst, arith}
use Rattle.std.specs.Prelude.{slice_get}
use Rattle.std.specs.List.{range_with_len}
use Rattle.std.specs.Map.{keys_of}
use Rattle.std.proofs.lemmas.Bool.{ne_eqb, eq-eqb}
use mathlib.Core.Path.{fun_ext}
use Rattle.pat_semantics_spec.specs.Programs.{Function, Program, function_at}
use Rattle.pat_type_system_spec.specs.Types.{MailboxType, TypeEnv}
use Rattle.pat_type_system_spec.specs.Typings.{param_type}
use Rattle.pat_type_schemes_spec.specs.NodeTypes.{Needs, need_of}
use Rattle.pat_derivation_spec.specs.Derivations.{Derivation, written_typing}
use Rattle.pat_derivation_spec.specs.Conditions.{Place, is_first, then_others, passes, first_demands, demands}
use Rattle.pat_obligations.specs.Listed.{Signature, param_entries, listed_term}
use Rattle.pat_obligations.specs.of_terms.First.{asked_by, listed_at_first}
use Rattle.pat_obligations.specs.of_terms.Opened.{opened_from}
use Rattle.pat_obligations.proofs.Listing.{joined, StandAt}
use Rattle.pat_obligations.proofs.Demanded.{IsSignatureOf, passed, term_is}
use Rattle.pat_obligations.proofs.OpenedSignatures.{signatures_are}

-- ---- parameters as entries

unnamed_below : (k z : ℕ) (os : List (Option MailboxType)) → z < k → need_of (param_entries k os) z ≡ None
unnamed_below k z [] l = refl
unnamed_below k z (None ∷ os) l = unnamed_below (suc k) z os (omega arith)
unnamed_below k z (Some a ∷ os) l =
    let differ : nat_eq z k ≡ false = ne_eqb z k (λ e. omega arith) in
    ap (λ b. if b then Some a else need_of (param_entries (suc k) os) z) differ ∙ unnamed_below (suc k) z os (omega arith)

entry_at : (k j : ℕ) (os : List (Option MailboxType)) → need_of (param_entries k os) (k + j) ≡ joined (slice_get os j)
entry_at k j [] = refl
entry_at k zero (None ∷ os) = unnamed_below (suc k) (k + 0) os (omega arith)
entry_at k zero (Some a ∷ os) =
    let same : nat_eq (k + 0) k ≡ true = eq-eqb (k + 0) k (omega arith) in
    ap (λ b. if b then Some a else need_of (param_entries (suc k) os) (k + 0)) same
entry_at k (suc j) (None ∷ os) =
    let next : k + suc j ≡ suc k + j = omega arith in
    ap (need_of (param_entries (suc k) os)) next ∙ entry_at (suc k) j os
entry_at k (suc j) (Some a ∷ os) =
    let next : k + suc j ≡ suc k + j = omega arith in
    let differ : nat_eq (k + suc j) k ≡ false = ne_eqb (k + suc j) k (λ e. omega arith) in
    ap (λ b. if b then Some a else need_of (param_entries (suc k) os) (k + suc j)) differ
    ∙ ap (need_of (param_entries (suc k) os)) next
    ∙ entry_at (suc k) j os

params_are : (types : TypeEnv) (os : List (Option MailboxType)) → StandAt types 0 os → need_of (param_entries 0 os) ≡ types
params_are types os h = fun_ext (λ z. let e : z ≡ 0 + z = omega arith in ap (need_of (param_entries 0 os)) e ∙ entry_at 0 z os ∙ sym (h z) ∙ sym (ap types e))

-- ---- the first node, and each node

module _ (p : Program) (d : Derivation) (gs : List Signature) (same : gs ≡ opened_from 1 p.functions) where
  signature_is : (f : ℕ) → IsSignatureOf (written_typing p d) f (function_at p f) (slice_get gs f)
  signature_is f = subst (λ ss. IsSignatureOf (written_typing p d) f (function_at p f) (slice_get ss f)) (sym same) (signatures_are p d f)

  asked_is : (f : ℕ) (g : Function) (needs : Needs) (o : Option Signature) → IsSignatureOf (written_typing p d) f (Some g) o → asked_by (length g.params) needs o ≡ passes (then_others (range_with_len 0 (length g.params)) (keys_of needs)) (param_type (written_typing p d) f g) (need_of needs)
  asked_is f g needs None h = absurd h
  asked_is f g needs (Some s) h =
      let names = range_with_len 0 (length g.params) in
      passed names (keys_of needs) (param_entries 0 s.params) needs
      ∙ ap (λ types. passes (then_others names (keys_of needs)) types (need_of needs)) (params_are (param_type (written_typing p d) f g) s.params h.0)

  first_is : (h : Place) → function_at p h.node.function ≡ Some h.function → listed_at_first gs h ≡ first_demands p d h
  first_is h there =
      ap (λ ds. if is_first h then ds else [])
      (asked_is h.node.function h.function h.line.of.needs (slice_get gs h.node.function)
      (subst (λ o. IsSignatureOf (written_typing p d) h.node.function o (slice_get gs h.node.function)) there (signature_is h.node.function)))

  pub demands_are : (h : Place) → function_at p h.node.function ≡ Some h.function → listed_at_first gs h ++ listed_term p d gs h.function.vars h.line.of h.node.core ≡ demands p d h
  demands_are h there =
      ap (λ ds. ds ++ listed_term p d gs h.function.vars h.line.of h.node.core) (first_is h there)
      ∙ ap (λ ds. first_demands p d h ++ ds) (term_is p d gs h.function.vars h.line h.node.core signature_is)

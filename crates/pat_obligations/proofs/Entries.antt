-- Entries one after another.
use Rattle.std.proofs.Common.{◌≡◌, ℕ, suc, List, [], ◌∷◌, ◌++◌, Option, Some, None, length, map, refl, sym, ap, ◌∙◌, arith}
use Rattle.pat_core.specs.declared.program.Sort.{Sort as CodeSort}
use Rattle.pat_core.specs.Views.{sort_view}
use Rattle.pat_semantics_spec.specs.Values.{Expr, VarExpr, Literal, OpExpr}
use Rattle.pat_semantics_spec.specs.Programs.{Sort}
use Rattle.pat_type_system_spec.specs.Types.{MailboxType}
use Rattle.pat_type_system_spec.specs.Typings.{payload_sort}
use Rattle.pat_type_schemes_spec.specs.NodeTypes.{Needs}
use Rattle.pat_obligations.specs.Listed.{asked_arg, asked_args, entry_before, named_payloads, param_entries}

pub argument_first : (t : Option MailboxType) (ts : List (Option MailboxType)) (e : Expr) (es : List Expr) → asked_args (t ∷ ts) (e ∷ es) ≡ asked_arg t e [] ++ asked_args ts es
argument_first None ts e es = none e
  where
    none : (e : Expr) → asked_arg None e (asked_args ts es) ≡ asked_arg None e [] ++ asked_args ts es
    none (VarExpr x) = refl
    none (Literal c) = refl
    none (OpExpr op a b) = refl
argument_first (Some a) ts e es = some e
  where
    some : (e : Expr) → asked_arg (Some a) e (asked_args ts es) ≡ asked_arg (Some a) e [] ++ asked_args ts es
    some (VarExpr x) = refl
    some (Literal c) = refl
    some (OpExpr op x y) = refl

entry_first : (x : ℕ) (o : Option MailboxType) (rest : Needs) → entry_before x o rest ≡ entry_before x o [] ++ rest
entry_first x None rest = refl
entry_first x (Some a) rest = refl

pub payload_first : (s : Sort) (ss : List Sort) (x : ℕ) (xs : List ℕ) → named_payloads (s ∷ ss) (x ∷ xs) ≡ entry_before x (payload_sort s) [] ++ named_payloads ss xs
payload_first s ss x xs = entry_first x (payload_sort s) (named_payloads ss xs)

pub param_first : (k : ℕ) (o : Option MailboxType) (os : List (Option MailboxType)) → param_entries k (o ∷ os) ≡ entry_before k o [] ++ param_entries (suc k) os
param_first k o os = entry_first k o (param_entries (suc k) os)

nil_right : {A : Type 0} (xs : List A) → xs ++ [] ≡ xs
nil_right [] = refl
nil_right (x ∷ xs) = ap (λ ys. x ∷ ys) (nil_right xs)

pub payloads_done : (out whole : Needs) (rest : List CodeSort) (xs : List ℕ) → out ++ named_payloads (map sort_view rest) xs ≡ whole → length rest ≡ 0 → out ≡ whole
payloads_done out whole [] [] h none = sym (nil_right out) ∙ h
payloads_done out whole [] (x ∷ xs) h none = sym (nil_right out) ∙ h
payloads_done out whole (s ∷ ss) xs h none = absurd (omega arith)

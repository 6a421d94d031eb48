-- What is asked of arguments names the mailboxes that the definitions name.
use Rattle.std.proofs.Common.{◌≡◌, ℕ, Bool, ◌||◌, nat_eq, List, [], ◌∷◌, ◌++◌, map, Option, Some, None, refl, sym, ap, ◌∙◌, subst}
use Rattle.std.specs.Prelude.{slice_get}
use Rattle.std.proofs.lemmas.List.Folds.{list_any-append}
use Rattle.std.proofs.Math.Bool.{or-false}
use Rattle.pat_semantics_spec.specs.Values.{Kind, Expr}
use Rattle.pat_semantics_spec.specs.Programs.{TagDecl, Function, Program, function_at, is_among}
use Rattle.pat_type_system_spec.specs.Typings.{Typing, param_type, payload_type, payload_sort}
use Rattle.pat_derivation_spec.specs.Derivations.{Derivation, written_typing}
use Rattle.pat_derivation_spec.specs.Same.{all_differ}
use Rattle.pat_derivation_spec.specs.Rules.{args_differ, payloads_differ}
use Rattle.pat_obligations.specs.Listed.{Signature, asked_args}
use Rattle.pat_obligations.specs.of_terms.Opened.{opened_from}
use Rattle.pat_obligations.proofs.Listing.{args_named}
use Rattle.pat_obligations.proofs.Demanded.{IsSignatureOf, payload_stand}
use Rattle.pat_obligations.proofs.OpenedSignatures.{signatures_are}
use Rattle.pat_judge_nodes.specs.uses.Arguments.{call_differs, send_differs}

pub send_is : (x : ℕ) (args : List Expr) (o : Option TagDecl) → send_differs x o args ≡ payloads_differ x args o
send_is x args None = refl
send_is x args (Some decl) =
    ap (λ xs. all_differ (x ∷ xs)) (args_named (payload_type decl) 0 (map payload_sort decl.payloads) args (payload_stand decl))

call_is : (y : Typing) (f : ℕ) (args : List Expr) (o : Option Function) (s : Option Signature) → IsSignatureOf y f o s → call_differs s args ≡ args_differ y f args o
call_is y f args None None h = refl
call_is y f args None (Some s) h = absurd h
call_is y f args (Some g) None h = absurd h
call_is y f args (Some g) (Some s) h = ap all_differ (args_named (param_type y f g) 0 s.params args h.0)

pub called_is : (p : Program) (d : Derivation) (gs : List Signature) → gs ≡ opened_from 1 p.functions → (f : ℕ) (args : List Expr) → call_differs (slice_get gs f) args ≡ args_differ (written_typing p d) f args (function_at p f)
called_is p d gs same f args =
    call_is (written_typing p d) f args (function_at p f) (slice_get gs f)
    (subst (λ ss. IsSignatureOf (written_typing p d) f (function_at p f) (slice_get ss f)) (sym same) (signatures_are p d f))

pub among_last : (x : ℕ) (ys : List ℕ) (z : ℕ) → is_among x (ys ++ z ∷ []) ≡ (is_among x ys || nat_eq x z)
among_last x ys z = list_any-append (nat_eq x) ys (z ∷ []) ∙ ap (λ b. is_among x ys || b) (or-false (nat_eq x z))

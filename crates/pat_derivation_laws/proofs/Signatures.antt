-- Written patterns have no variables, so putting values in leaves them as they are.
use Rattle.pat_semantics_laws.proofs.Lists.{all_at}
use Rattle.std.proofs.Common.{◌≡◌, ℕ, true, Option, Some, None, refl, ap}
use Rattle.std.specs.Prelude.{option_and_then, slice_get}
use Rattle.std.specs.List.{AllByRecursion}
use mathlib.Core.Path.{fun_ext}
use Rattle.pat_words_spec.specs.Patterns.{Pat, is_closed}
use Rattle.pat_semantics_spec.specs.Programs.{Program, Polarity, Sending, Receiving, Sort, BaseSort, MailboxSort, TagDecl, Interface, Function, function_at, tag_at}
use Rattle.pat_semantics_spec.specs.WellFormed.{WellFormed, IsPayload, IsSignature, InterfaceFits}
use Rattle.pat_type_system_spec.specs.Types.{Second, mailbox_type, MailboxTerm}
use Rattle.pat_type_system_spec.specs.Typings.{param_usage, sort_type, param_type, result_of, result_type, payload_sort, payload_type}
use Rattle.pat_inclusion_spec.specs.Values.{Scope, filled, pattern_of}
use Rattle.pat_derivation_spec.specs.Derivations.{Derivation, scope_of, written_typing, typing_of}
use Rattle.pat_derivation_laws.proofs.Filled.{filled_closed}
use Rattle.pat_derivation_laws.proofs.DemandsMet.{put_in}
use Rattle.pat_derivation_laws.proofs.Names.{put_all}
use Rattle.pat_type_schemes_spec.specs.NodeTypes.{result_under}

-- ---- signatures

written_closed : (p : Program) (i : ℕ) (q : Polarity) (e : Pat) → IsSignature p (MailboxSort i q (Some e)) → is_closed e ≡ true
written_closed p i Sending e h = h.0.closed
written_closed p i Receiving e h = h.closed

put_sort : (p : Program) (s : Scope) (v : Pat) (a : Sort) → IsSignature p a → put_in s (sort_type v a) ≡ sort_type (filled s v) a
put_sort p s v (BaseSort b) h = refl
put_sort p s v (MailboxSort i q None) h = refl
put_sort p s v (MailboxSort i q (Some e)) h =
    ap (λ x. Some (mailbox_type i q x (param_usage q))) (filled_closed s e (written_closed p i q e h))

put_result : (p : Program) (s : Scope) (v : Pat) (a : Sort) → IsSignature p a → result_under (pattern_of s) (result_of v a) ≡ result_of (filled s v) a
put_result p s v (BaseSort b) h = refl
put_result p s v (MailboxSort i q None) h = refl
put_result p s v (MailboxSort i q (Some e)) h =
    ap (λ x. MailboxTerm i q x) (filled_closed s e (written_closed p i q e h))

-- the types of a function's parameters, with values put in, are those of the typing
pub put_params : (p : Program) (d : Derivation) (f : ℕ) (g : Function) → WellFormed p → function_at p f ≡ Some g → put_all (scope_of p d) (param_type (written_typing p d) f g) ≡ param_type (typing_of p d) f g
put_params p d f g w at = fun_ext (λ k. go k (slice_get g.params k) refl)
  where
    go : (k : ℕ) (o : Option Sort) → slice_get g.params k ≡ o → put_in (scope_of p d) (option_and_then (sort_type ((written_typing p d).param_patterns f k)) o) ≡ option_and_then (sort_type ((typing_of p d).param_patterns f k)) o
    go k None q = refl
    go k (Some a) q = put_sort p (scope_of p d) ((written_typing p d).param_patterns f k) a (all_at (IsSignature p) g.params k a (w.functions f g at).signature.0 q)

pub put_results : (p : Program) (d : Derivation) (f : ℕ) (g : Function) → WellFormed p → function_at p f ≡ Some g → result_under (pattern_of (scope_of p d)) (result_type (written_typing p d) f g) ≡ result_type (typing_of p d) f g
put_results p d f g w at = put_result p (scope_of p d) ((written_typing p d).result_patterns f) g.result (w.functions f g at).signature.1

-- ---- payloads

payload_closed : (p : Program) (i : ℕ) (q : Polarity) (e : Pat) → IsPayload p (MailboxSort i q (Some e)) → is_closed e ≡ true
payload_closed p i Sending e h = h.0.closed
payload_closed p i Receiving e h = h.closed

put_payload : (p : Program) (s : Scope) (a : Sort) → IsPayload p a → put_in s (payload_sort a) ≡ payload_sort a
put_payload p s (BaseSort b) h = refl
put_payload p s (MailboxSort i q None) h = refl
put_payload p s (MailboxSort i q (Some e)) h =
    ap (λ x. Some (mailbox_type i q x Second)) (filled_closed s e (payload_closed p i q e h))

declared_payloads : (p : Program) (i m : ℕ) (decl : TagDecl) → WellFormed p → tag_at p i m ≡ Some decl → AllByRecursion (IsPayload p) decl.payloads
declared_payloads p i m decl w at = go (slice_get p.interfaces i) refl at
  where
    go : (o : Option Interface) → slice_get p.interfaces i ≡ o → option_and_then (λ (j : Interface). slice_get j.tags m) o ≡ Some decl → AllByRecursion (IsPayload p) decl.payloads
    go None q h = cc
    go (Some j) q h =
        all_at (λ t. AllByRecursion (IsPayload p) t.payloads) j.tags m decl (all_at (InterfaceFits p) p.interfaces i j w.interfaces q).payloads h

-- the types of a tag's payloads stay as they are
pub put_payload_types : (p : Program) (s : Scope) (i m : ℕ) (decl : TagDecl) → WellFormed p → tag_at p i m ≡ Some decl → put_all s (payload_type decl) ≡ payload_type decl
put_payload_types p s i m decl w at = fun_ext (λ k. go k (slice_get decl.payloads k) refl)
  where
    go : (k : ℕ) (o : Option Sort) → slice_get decl.payloads k ≡ o → put_in s (option_and_then payload_sort o) ≡ option_and_then payload_sort o
    go k None q = refl
    go k (Some a) q = put_payload p s a (all_at (IsPayload p) decl.payloads k a (declared_payloads p i m decl w at) q)

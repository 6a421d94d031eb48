-- The types of signatures with their variables replaced are those of a typing.
use Rattle.std.proofs.Common.{◌≡◌, ℕ, suc, true, List, [], ◌∷◌, Option, Some, None, refl, ap}
use Rattle.std.specs.Prelude.{option_and_then, slice_get}
use Rattle.std.specs.List.{AllByRecursion}
use Rattle.pat_words_spec.specs.Patterns.{Pat, Var, is_closed}
use Rattle.pat_semantics_spec.specs.Programs.{Polarity, Interface, Sending, Receiving, Sort, BaseSort, MailboxSort, TagDecl, Function, Program, function_at, tag_at}
use Rattle.pat_semantics_spec.specs.WellFormed.{WellFormed, IsSignature, IsPayload, InterfaceFits}
use Rattle.pat_semantics_laws.proofs.Lists.{all_at}
use Rattle.pat_type_system_spec.specs.Types.{Second, MailboxTerm, mailbox_type}
use Rattle.pat_type_system_spec.specs.Typings.{Typing, param_usage, sort_type, param_type, result_of, result_type, payload_sort, payload_type}
use Rattle.pat_type_schemes_spec.specs.NodeTypes.{need_under, result_under}
use Rattle.pat_type_schemes_spec.specs.Signatures.{Origin, OfParameter, OfResult, Variable, omitted, signature_vars, number_at, result_number, first_number, open_param, open_result}
use Rattle.pat_infer_spec.specs.Solutions.{GivesFrom, pattern_by}
use Rattle.pat_inclusion_laws.proofs.Replaced.{closed_same}
use Rattle.pat_infer_laws.proofs.Numbering.{Numbered, signature_numbered}

-- the variable has the typing's pattern
abbrev GivesAt : Typing → (ℕ → Pat) → ℕ → Variable → Type 0
GivesAt y s k v = s k ≡ pattern_by y v.origin

numbered_gives : (y : Typing) (s : ℕ → Pat) (k : ℕ) (vs : List Variable) → GivesFrom y s k vs → Numbered (GivesAt y s) k vs
numbered_gives y s k [] h = tt
numbered_gives y s k (v ∷ vs) h = (h.0, numbered_gives y s (suc k) vs h.1)

-- ---- types

pub written_closed : (p : Program) (i : ℕ) (q : Polarity) (e : Pat) → IsSignature p (MailboxSort i q (Some e)) → is_closed e ≡ true
written_closed p i Sending e h = h.0.closed
written_closed p i Receiving e h = h.closed

sort_same : (p : Program) (y : Typing) (s : ℕ → Pat) (k : ℕ) (o : Origin) (t : Sort) → IsSignature p t → Numbered (GivesAt y s) k (omitted o t) → need_under s (sort_type (Var k) t) ≡ sort_type (pattern_by y o) t
sort_same p y s k o (BaseSort b) w h = refl
sort_same p y s k o (MailboxSort i q None) w h = ap (λ e. Some (mailbox_type i q e (param_usage q))) h.0
sort_same p y s k o (MailboxSort i q (Some e)) w h =
    ap (λ e. Some (mailbox_type i q e (param_usage q))) (closed_same s e (written_closed p i q e w))

result_same : (p : Program) (y : Typing) (s : ℕ → Pat) (k : ℕ) (o : Origin) (t : Sort) → IsSignature p t → Numbered (GivesAt y s) k (omitted o t) → result_under s (result_of (Var k) t) ≡ result_of (pattern_by y o) t
result_same p y s k o (BaseSort b) w h = refl
result_same p y s k o (MailboxSort i q None) w h = ap (λ e. MailboxTerm i q e) h.0
result_same p y s k o (MailboxSort i q (Some e)) w h = ap (λ e. MailboxTerm i q e) (closed_same s e (written_closed p i q e w))

-- the types of each signature with the variables replaced are those of the typing
pub record SignaturesAgree (p : Program) (y : Typing) (s : ℕ → Pat) : Type 0 where
  pub params : (f : ℕ) (g : Function) → function_at p f ≡ Some g → (k : ℕ) → need_under s (open_param p f g k) ≡ param_type y f g k
  pub results : (f : ℕ) (g : Function) → function_at p f ≡ Some g → result_under s (open_result p f g) ≡ result_type y f g

pub signatures_agree : (p : Program) (y : Typing) (s : ℕ → Pat) → WellFormed p → GivesFrom y s 1 (signature_vars p) → SignaturesAgree p y s
signatures_agree p y s wf h = record {
  params = λ f g at k. param f g at k (slice_get g.params k) refl;
  results = λ f g at.
      result_same p y s (result_number (first_number p f) g) (OfResult f) g.result (wf.functions f g at).signature.1
      (signature_numbered (GivesAt y s) p (numbered_gives y s 1 (signature_vars p) h) f g at).result;
}
  where
    param : (f : ℕ) (g : Function) → function_at p f ≡ Some g → (k : ℕ) (o : Option Sort) → slice_get g.params k ≡ o → need_under s (option_and_then (sort_type (Var (number_at (first_number p f) g.params k))) o) ≡ option_and_then (sort_type (y.param_patterns f k)) o
    param f g at k None e = refl
    param f g at k (Some t) e =
        sort_same p y s (number_at (first_number p f) g.params k) (OfParameter f k) t (all_at (IsSignature p) g.params k t (wf.functions f g at).signature.0 e)
        ((signature_numbered (GivesAt y s) p (numbered_gives y s 1 (signature_vars p) h) f g at).params k t e)

-- ---- payloads

payload_written : (p : Program) (s : ℕ → Pat) (t : Sort) → IsPayload p t → need_under s (payload_sort t) ≡ payload_sort t
payload_written p s (BaseSort b) w = refl
payload_written p s (MailboxSort i q None) w = refl
payload_written p s (MailboxSort i Sending (Some e)) w = ap (λ e. Some (mailbox_type i Sending e Second)) (closed_same s e w.0.closed)
payload_written p s (MailboxSort i Receiving (Some e)) w = ap (λ e. Some (mailbox_type i Receiving e Second)) (closed_same s e w.closed)

-- a declared tag's payloads are as the interface has them
pub declared_payloads : (p : Program) → WellFormed p → (i m : ℕ) (decl : TagDecl) → tag_at p i m ≡ Some decl → AllByRecursion (IsPayload p) decl.payloads
declared_payloads p wf i m decl h = go (slice_get p.interfaces i) refl h
  where
    go : (o : Option Interface) → slice_get p.interfaces i ≡ o → option_and_then (λ j. slice_get j.tags m) o ≡ Some decl → AllByRecursion (IsPayload p) decl.payloads
    go None e h = cc
    go (Some j) e h =
        all_at (λ t. AllByRecursion (IsPayload p) t.payloads) j.tags m decl (all_at (InterfaceFits p) p.interfaces i j wf.interfaces e).payloads h

-- the types of payloads have no variable
pub payload_same : (p : Program) (s : ℕ → Pat) → WellFormed p → (i m : ℕ) (decl : TagDecl) → tag_at p i m ≡ Some decl → (k : ℕ) → need_under s (payload_type decl k) ≡ payload_type decl k
payload_same p s wf i m decl h k = go (slice_get decl.payloads k) refl
  where
    go : (o : Option Sort) → slice_get decl.payloads k ≡ o → need_under s (option_and_then payload_sort o) ≡ option_and_then payload_sort o
    go None e = refl
    go (Some t) e = payload_written p s t (all_at (IsPayload p) decl.payloads k t (declared_payloads p wf i m decl h) e)

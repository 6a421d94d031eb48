-- Patterns keep to their interfaces.
use Rattle.std.proofs.Common.{◌≡◌, ℕ, zero, suc, ◌<◌, true, ◌||◌, nat_eq, if◌then◌else◌, List, [], ◌∷◌, length, Option, Some, None, refl, ap, ◌∙◌, subst, arith}
use Rattle.std.specs.Prelude.{slice_get, option_and_then}
use Rattle.std.proofs.lemmas.Bool.{and_parts, cond_both, ltb-true}
use Rattle.pat_words_spec.specs.Patterns.{Pat, Zero, One, Tag, Sum, Prod, Star, Var, is_closed, is_zero, is_one, pat_eq, sum_of, prod_of, residual}
use Rattle.pat_words_spec.specs.Tags.{tags_below}
use Rattle.pat_semantics_spec.specs.Programs.{Polarity, Sending, Receiving, Sort, BaseSort, MailboxSort, TagDecl, Interface, Program, tag_at}
use Rattle.pat_semantics_spec.specs.WellFormed.{WellFormed, IsPatternOf, IsPayload, IsSignature}
use Rattle.pat_semantics_laws.proofs.Lists.{all_at}
use Rattle.pat_type_system_spec.specs.Types.{Second, MailboxType, mailbox_type, TypeOf, BaseTerm, MailboxTerm}
use Rattle.pat_type_system_spec.specs.Typings.{param_usage, sort_type, result_of, payload_sort, payload_type}
use Rattle.pat_type_schemes_spec.specs.Signatures.{Origin, Variable, omitted}
use Rattle.pat_infer_spec.specs.Shapes.{is_simple, IsNumber, PatternFits, ShapeFits}
use Rattle.pat_infer_laws.proofs.SignatureLaws.{declared_payloads}
use Rattle.pat_infer_laws.proofs.Numbering.{Numbered}

pub closed_simple : (e : Pat) → is_closed e ≡ true → is_simple e ≡ true
closed_simple Zero h = refl
closed_simple One h = refl
closed_simple (Tag m) h = refl
closed_simple (Sum e f) h = h
closed_simple (Prod e f) h = h
closed_simple (Star e) h = h
closed_simple (Var k) h = refl

-- a type that is declared: its pattern is one variable or has none, whatever its polarity
pub record Declared (p : Program) (vars : List Variable) (a : MailboxType) : Type 0 where
  pub shape : ShapeFits p vars a
  pub simple : is_simple a.pattern ≡ true

-- the pattern of a signature's result is of its interface, and is one variable or has none
abbrev pub SimpleResult : Program → List Variable → TypeOf → Type 0
SimpleResult p vars (BaseTerm b) = Unit {0}
SimpleResult p vars (MailboxTerm i q e) = PatternFits p vars i e × (is_simple e ≡ true)

module _ (p : Program) (vars : List Variable) where
  pub fits_sum : (i : ℕ) (e f : Pat) → PatternFits p vars i e → PatternFits p vars i f → PatternFits p vars i (sum_of e f)
  fits_sum i e f h k =
      cond_both (is_zero e) f (if is_zero f then e else if pat_eq e f then e else Sum e f) (PatternFits p vars i)
      (λ _. k)
      (λ _. cond_both (is_zero f) e (if pat_eq e f then e else Sum e f) (PatternFits p vars i) (λ _. h) (λ _. cond_both (pat_eq e f) e (Sum e f) (PatternFits p vars i) (λ _. h) (λ _. (h, k))))

  pub fits_prod : (i : ℕ) (e f : Pat) → PatternFits p vars i e → PatternFits p vars i f → PatternFits p vars i (prod_of e f)
  fits_prod i e f h k =
      cond_both (is_zero e || is_zero f) Zero (if is_one e then f else if is_one f then e else Prod e f) (PatternFits p vars i)
      (λ _. tt)
      (λ _. cond_both (is_one e) f (if is_one f then e else Prod e f) (PatternFits p vars i) (λ _. k) (λ _. cond_both (is_one f) e (Prod e f) (PatternFits p vars i) (λ _. h) (λ _. (h, k))))

  pub fits_residual : (i : ℕ) (e : Pat) (m : ℕ) → PatternFits p vars i e → PatternFits p vars i (residual e m)
  fits_residual i Zero m h = tt
  fits_residual i One m h = tt
  fits_residual i (Tag n) m h = cond_both (nat_eq n m) One Zero (PatternFits p vars i) (λ _. tt) (λ _. tt)
  fits_residual i (Sum e f) m h = fits_sum i (residual e m) (residual f m) (fits_residual i e m h.0) (fits_residual i f m h.1)
  fits_residual i (Prod e f) m h =
      fits_sum i (prod_of (residual e m) f) (prod_of e (residual f m))
      (fits_prod i (residual e m) f (fits_residual i e m h.0) h.1)
      (fits_prod i e (residual f m) h.0 (fits_residual i f m h.1))
  fits_residual i (Star e) m h = fits_prod i (residual e m) (Star e) (fits_residual i e m h) h
  fits_residual i (Var k) m h = tt

  below_some : {A : Type 0} (xs : List A) (j : ℕ) → j < length xs → (x : A) × (slice_get xs j ≡ Some x)
  below_some [] j h = absurd (omega arith)
  below_some (x ∷ xs) zero h = (x, refl)
  below_some (x ∷ xs) (suc j) h = below_some xs j (omega arith)

  written : (i : ℕ) (j : Interface) → slice_get p.interfaces i ≡ Some j → (e : Pat) → tags_below (length j.tags) e ≡ true → is_closed e ≡ true → PatternFits p vars i e
  written i j at Zero h c = tt
  written i j at One h c = tt
  written i j at (Tag m) h c =
      let q = below_some j.tags m (ltb-true m (length j.tags) h) in
      (q.0, ap (λ o. option_and_then (λ (w : Interface). slice_get w.tags m) o) at ∙ q.1)
  written i j at (Sum e f) h c =
      let q = and_parts (tags_below (length j.tags) e) (tags_below (length j.tags) f) h in
      let r = and_parts (is_closed e) (is_closed f) c in
      (written i j at e q.0 r.0, written i j at f q.1 r.1)
  written i j at (Prod e f) h c =
      let q = and_parts (tags_below (length j.tags) e) (tags_below (length j.tags) f) h in
      let r = and_parts (is_closed e) (is_closed f) c in
      (written i j at e q.0 r.0, written i j at f q.1 r.1)
  written i j at (Star e) h c = written i j at e h c
  written i j at (Var k) h c = cc

  -- a written pattern
  pub written_fits : (i : ℕ) (e : Pat) → IsPatternOf p i e → PatternFits p vars i e
  written_fits i e h = written i h.interface h.there e h.tags h.closed

  signed : (i : ℕ) (q : Polarity) (e : Pat) → IsSignature p (MailboxSort i q (Some e)) → IsPatternOf p i e
  signed i Sending e h = h.0
  signed i Receiving e h = h

  -- a type of a signature
  pub sort_shape : (k : ℕ) (o : Origin) (t : Sort) (a : MailboxType) → IsSignature p t → Numbered (IsNumber vars) k (omitted o t) → sort_type (Var k) t ≡ Some a → Declared p vars a
  sort_shape k o (BaseSort b) a w h e = cc
  sort_shape k o (MailboxSort i q None) a w h e =
      let same : mailbox_type i q (Var k) (param_usage q) ≡ a = cc in
      let own : Declared p vars (mailbox_type i q (Var k) (param_usage q)) = record { shape = record { pattern = (record { interface = i; polarity = q; origin = o }, h.0, refl); simple = λ _. refl }; simple = refl } in
      subst (Declared p vars) same own
  sort_shape k o (MailboxSort i q (Some f)) a w h e =
      let same : mailbox_type i q f (param_usage q) ≡ a = cc in
      let fits = signed i q f w in
      let own : Declared p vars (mailbox_type i q f (param_usage q)) = record { shape = record { pattern = written_fits i f fits; simple = λ _. closed_simple f fits.closed }; simple = closed_simple f fits.closed } in
      subst (Declared p vars) same own

  -- the result of a signature, which is one variable or has none
  pub result_shape : (k : ℕ) (o : Origin) (t : Sort) → IsSignature p t → Numbered (IsNumber vars) k (omitted o t) → SimpleResult p vars (result_of (Var k) t)
  result_shape k o (BaseSort b) w h = tt
  result_shape k o (MailboxSort i q None) w h = ((record { interface = i; polarity = q; origin = o }, h.0, refl), refl)
  result_shape k o (MailboxSort i q (Some f)) w h = let fits = signed i q f w in (written_fits i f fits, closed_simple f fits.closed)

  -- a payload's type
  payload_shaped : (t : Sort) (a : MailboxType) → IsPayload p t → payload_sort t ≡ Some a → Declared p vars a
  payload_shaped (BaseSort b) a w h = cc
  payload_shaped (MailboxSort i q None) a w h = cc
  payload_shaped (MailboxSort i Sending (Some e)) a w h =
      let same : mailbox_type i Sending e Second ≡ a = cc in
      let own : Declared p vars (mailbox_type i Sending e Second) = record { shape = record { pattern = written_fits i e w.0; simple = λ _. closed_simple e w.0.closed }; simple = closed_simple e w.0.closed } in
      subst (Declared p vars) same own
  payload_shaped (MailboxSort i Receiving (Some e)) a w h =
      let same : mailbox_type i Receiving e Second ≡ a = cc in
      let own : Declared p vars (mailbox_type i Receiving e Second) = record { shape = record { pattern = written_fits i e w; simple = λ _. closed_simple e w.closed }; simple = closed_simple e w.closed } in
      subst (Declared p vars) same own

  pub payload_shape : WellFormed p → (i m : ℕ) (decl : TagDecl) → tag_at p i m ≡ Some decl → (j : ℕ) (a : MailboxType) → payload_type decl j ≡ Some a → Declared p vars a
  payload_shape wf i m decl at j a h = go (slice_get decl.payloads j) refl h
    where
      go : (o : Option Sort) → slice_get decl.payloads j ≡ o → option_and_then payload_sort o ≡ Some a → Declared p vars a
      go None e h = cc
      go (Some t) e h = payload_shaped t a (all_at (IsPayload p) decl.payloads j t (declared_payloads p wf i m decl at) e) h

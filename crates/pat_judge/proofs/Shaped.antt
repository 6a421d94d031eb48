-- Signatures and names of a line, as the tests of a node ask for them.
use Rattle.std.proofs.Common.{◌≡◌, ℕ, zero, suc, ◌+◌, Bool, true, false, ◌&&◌, List, [], ◌∷◌, Option, Some, None, refl, sym, ap, ap₂, ◌∙◌, subst}
use Rattle.std.specs.Prelude.{slice_get, option_and_then, nat_eq, not, ◌||◌}
use Rattle.std.specs.List.{list_all}
use Rattle.pat_semantics_spec.specs.Values.{Kind}
use Rattle.pat_semantics_spec.specs.Programs.{Sort, Function, Node, Program, node_at, function_at}
use Rattle.pat_type_system_spec.specs.Types.{MailboxType, TypeOf, TypeEnv, kind_of_type}
use Rattle.pat_type_system_spec.specs.Typings.{param_type, result_type}
use Rattle.pat_inclusion_spec.specs.Values.{Scope, is_formed}
use Rattle.pat_type_schemes_spec.specs.NodeTypes.{Needs}
use Rattle.pat_derivation_spec.specs.Same.{is_same_kind, is_mailbox_of, is_same_type}
use Rattle.pat_derivation_spec.specs.Derivations.{Line, Derivation, ascends_from, scope_of, written_typing}
use Rattle.pat_derivation_spec.specs.Scopes.{is_in_scope, kind_at}
use Rattle.pat_derivation_spec.specs.Conditions.{Place}
use Rattle.pat_derivation_spec.specs.Rules.{type_is_formed, is_named_well, tails_agree, first_agrees, has_values, has_shape, param_has_word, params_have_words, type_has_word, signature_has_words}
use Rattle.pat_obligations.specs.Listed.{Signature}
use Rattle.pat_obligations.specs.of_terms.Opened.{opened_from}
use Rattle.pat_obligations.proofs.Listing.{StandAt, first_at, later_at, none_at, none_later}
use Rattle.pat_obligations.proofs.Demanded.{IsSignatureOf}
use Rattle.pat_obligations.proofs.OpenedSignatures.{signatures_are}
use Rattle.pat_judge.specs.shape.Words.{listed_have_words, signature_words, first_words, agrees_with}

-- ---- signatures

module _ (p : Program) (d : Derivation) (f : ℕ) (g : Function) (gs : List Signature) (all : gs ≡ opened_from 1 p.functions) (there : function_at p f ≡ Some g) where
  is_signature : IsSignatureOf (written_typing p d) f (Some g) (slice_get gs f)
  is_signature =
      subst (λ o. IsSignatureOf (written_typing p d) f o (slice_get gs f)) there
      (subst (λ xs. IsSignatureOf (written_typing p d) f (function_at p f) (slice_get xs f)) (sym all) (signatures_are p d f))

  pub agrees : (t : TypeOf) → agrees_with t (slice_get gs f) ≡ is_same_type t (result_type (written_typing p d) f g)
  agrees t = go (slice_get gs f) is_signature
    where
      go : (o : Option Signature) → IsSignatureOf (written_typing p d) f (Some g) o → agrees_with t o ≡ is_same_type t (result_type (written_typing p d) f g)
      go None h = absurd h
      go (Some s) h = ap (is_same_type t) h.1

  listed_none : (s : Scope) (ss : List Sort) → listed_have_words s [] ss ≡ true
  listed_none s [] = refl
  listed_none s (a ∷ ss) = refl

  listed_are : (s : Scope) (types : TypeEnv) (k : ℕ) (ts : List (Option MailboxType)) (ss : List Sort) → StandAt types k ts → listed_have_words s ts ss ≡ params_have_words s types k ss
  listed_are s types k ts [] h = refl
  listed_are s types k [] (a ∷ ss) h =
      sym (ap₂ (λ x y. x && y) (ap (param_has_word s) (none_at types k h)) (sym (listed_are s types (suc k) [] ss (none_later types k h)) ∙ listed_none s ss))
  listed_are s types k (t ∷ ts) (a ∷ ss) h =
      ap₂ (λ x y. x && y) (ap (param_has_word s) (sym (first_at types k t ts h))) (listed_are s types (suc k) ts ss (later_at types k t ts h))

  pub words_are : (s : Scope) → signature_words s g.params (slice_get gs f) ≡ (params_have_words s (param_type (written_typing p d) f g) 0 g.params && type_has_word s (result_type (written_typing p d) f g))
  words_are s = go (slice_get gs f) is_signature
    where
      go : (o : Option Signature) → IsSignatureOf (written_typing p d) f (Some g) o → signature_words s g.params o ≡ (params_have_words s (param_type (written_typing p d) f g) 0 g.params && type_has_word s (result_type (written_typing p d) f g))
      go None h = absurd h
      go (Some x) h = ap₂ (λ a b. a && b) (listed_are s (param_type (written_typing p d) f g) 0 x.params g.params h.0) (ap (type_has_word s) h.1)

-- ---- names

swap : (a b x y : Bool) → ((a && x) && (b && y)) ≡ ((a && b) && (x && y))
swap true true true y = refl
swap true true false y = refl
swap true false true y = refl
swap true false false y = refl
swap false b x y = refl

kind_is : (p : Program) (n x : ℕ) (c : Node) (g : Function) → node_at p n ≡ Some c → function_at p c.function ≡ Some g → kind_at p n x ≡ slice_get g.vars x
kind_is p n x c g at of =
    ap (option_and_then (λ (h : Function). slice_get h.vars x)) (ap (option_and_then (λ (m : Node). function_at p m.function)) at ∙ of)

pub names_are : (p : Program) (d : Derivation) (n : ℕ) (c : Node) (g : Function) (needs : Needs) → node_at p n ≡ Some c → function_at p c.function ≡ Some g → (list_all (λ e. is_in_scope p n e.0) needs && list_all (λ e. is_mailbox_of e.1.interface (slice_get g.vars e.0) && is_formed (scope_of p d) e.1.interface e.1.pattern) needs) ≡ list_all (is_named_well p d n) needs
names_are p d n c g [] at of = refl
names_are p d n c g (e ∷ es) at of =
    swap (is_in_scope p n e.0) (is_mailbox_of e.1.interface (slice_get g.vars e.0) && is_formed (scope_of p d) e.1.interface e.1.pattern)
    (list_all (λ x. is_in_scope p n x.0) es) (list_all (λ x. is_mailbox_of x.1.interface (slice_get g.vars x.0) && is_formed (scope_of p d) x.1.interface x.1.pattern) es)
    ∙ ap₂ (λ a b. a && b)
    (ap (λ o. is_in_scope p n e.0 && (is_mailbox_of e.1.interface o && is_formed (scope_of p d) e.1.interface e.1.pattern)) (sym (kind_is p n e.0 c g at of)))
    (names_are p d n c g es at of)

-- ---- the whole

starts : (n : ℕ) (b : Bool) → b ≡ true → (not (nat_eq n 0) || b) ≡ true
starts n b h = ap (λ x. not (nat_eq n 0) || x) h ∙ or_true (not (nat_eq n 0))
  where
    or_true : (a : Bool) → (a || true) ≡ true
    or_true true = refl
    or_true false = refl

and_true : (b : Bool) → b ≡ (b && true)
and_true true = refl
and_true false = refl

pub six_are : (p : Program) (d : Derivation) (h : Place) (kind order names formed tails first : Bool) → kind ≡ is_same_kind (kind_of_type h.line.of.result) h.node.kind → order ≡ ascends_from 0 h.line.of.needs → names ≡ list_all (is_named_well p d h.number) h.line.of.needs → formed ≡ type_is_formed (scope_of p d) h.line.of.result → tails ≡ tails_agree d h.line.of.result h.node.core → first ≡ first_agrees p d h → has_values p d ≡ true → (kind && (order && (names && (formed && (tails && first))))) ≡ has_shape p d h
six_are p d h kind order names formed tails first k o n f t a v =
    ap₂ (λ x y. x && y) k (ap₂ (λ x y. x && y) o (ap₂ (λ x y. x && y) n (ap₂ (λ x y. x && y) f (ap₂ (λ x y. x && y) t
    (a ∙ and_true (first_agrees p d h) ∙ ap (λ b. first_agrees p d h && b) (sym (starts h.number (has_values p d) v)))))))

pub at_first : (p : Program) (d : Derivation) (h : Place) → nat_eq h.function.body h.number ≡ true → is_same_type h.line.of.result (result_type (written_typing p d) h.node.function h.function) ≡ first_agrees p d h
at_first p d h e = ap (λ b. not b || is_same_type h.line.of.result (result_type (written_typing p d) h.node.function h.function)) (sym e)

pub words_at_first : (p : Program) (d : Derivation) (h : Place) → nat_eq h.function.body h.number ≡ true → signature_has_words p d h ≡ first_words p d h
words_at_first p d h e = ap (λ x. not x || signature_has_words p d h) (sym e)

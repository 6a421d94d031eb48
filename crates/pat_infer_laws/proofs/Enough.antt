-- What inference finds is enough: where no rule is broken, a solution of the constraints gives a typing.
use Rattle.std.proofs.Common.{◌≡◌, ℕ, zero, suc, ◌+◌, ◌≤◌, ◌<◌, true, false, ◌||◌, nat_eq, List, [], ◌∷◌, length, Option, Some, None, refl, sym, ap, ◌∙◌, subst, arith, ◌⊎◌, inl, inr, ⊎_elim}
use Rattle.std.specs.Prelude.{slice_get, option_and_then}
use Rattle.std.specs.Map.{lookup}
use Rattle.std.specs.List.{AllByRecursion}
use Rattle.std.proofs.lemmas.Bool.{cases_Bool}
use Rattle.pat_words_spec.specs.Patterns.{Pat, Var}
use Rattle.pat_semantics_spec.specs.Programs.{Polarity, Sending, Receiving, Sort, BaseSort, MailboxSort, Function, Node, Program, node_at, function_at, is_among, parts}
use Rattle.pat_semantics_spec.specs.WellFormed.{WellFormed, IsSignature, count_if, count_among, uses_as_body, uses_as_part}
use Rattle.pat_semantics_laws.proofs.Lists.{clash, all_at, among_counted}
use Rattle.pat_type_system_spec.specs.Types.{MailboxType, mailbox_type, MailboxTerm}
use Rattle.pat_type_system_spec.specs.Typings.{FunctionTyped, Typing, IsTyping, HasWord, TypeHasWord, param_usage, sort_type, param_type, result_of, result_type}
use Rattle.pat_type_system_laws.specs.Laws.{BoundIsUnnamed}
use Rattle.pat_type_schemes_spec.specs.NodeTypes.{need_under, result_under, NodeType, result_open, env_open}
use Rattle.pat_type_schemes_spec.specs.Signatures.{Origin, OfParameter, OfResult, Variable, omitted, signature_vars, number_at, result_number, first_number}
use Rattle.pat_type_schemes_spec.specs.Typings.{param_pattern_open, result_pattern_open}
use Rattle.pat_inclusion_spec.specs.Values.{replaced}
use Rattle.pat_infer_spec.specs.Walk.{inferred}
use Rattle.pat_infer_spec.specs.Solutions.{MeetsUnder, IsPatternSolution, SendersHaveWords, typing_found}
use Rattle.pat_infer_spec.specs.Shapes.{EachNodeOnce}
use Rattle.pat_infer_spec.specs.Laws.{SolutionTypes, TypableExactly}
use Rattle.pat_inclusion_laws.proofs.Replaced.{values_of, closed_same}
use Rattle.pat_infer_laws.proofs.Gathering.{all_map}
use Rattle.pat_infer_laws.proofs.BothLaws.{Holds}
use Rattle.pat_infer_laws.proofs.SignatureLaws.{SignaturesAgree, written_closed}
use Rattle.pat_infer_laws.proofs.Numbering.{Numbered, signature_numbered}
use Rattle.pat_infer_laws.proofs.Facts.{EntryIn, EntryTyped}
use Rattle.pat_infer_laws.proofs.TermTyped.{SignatureWords}
use Rattle.pat_infer_laws.proofs.WalkTyped.{functions_typed}
use Rattle.pat_infer_laws.proofs.Blocks.{PartAt, HasEntry, Block, looked_up, some_there, function_bodies, functions_block, part_once}
use Rattle.pat_infer_laws.proofs.Lossless.{meets_holds, typable_clean, typable_solved}

-- ---- words of signatures

-- a sending variable has a word
abbrev WordAt : (ℕ → Pat) → ℕ → Variable → Type 0
WordAt s k v = HasWord v.polarity (s k)

numbered_senders : (s : ℕ → Pat) (k : ℕ) (vs : List Variable) → SendersHaveWords s k vs → Numbered (WordAt s) k vs
numbered_senders s k [] h = tt
numbered_senders s k (v ∷ vs) h = (h.0, numbered_senders s (suc k) vs h.1)

written_word : (p : Program) (i : ℕ) (q : Polarity) (e : Pat) → IsSignature p (MailboxSort i q (Some e)) → HasWord q e
written_word p i Sending e h = h.1
written_word p i Receiving e h = tt

sort_word : (p : Program) (s : ℕ → Pat) (k : ℕ) (o : Origin) (t : Sort) (a : MailboxType) → IsSignature p t → Numbered (WordAt s) k (omitted o t) → sort_type (s k) t ≡ Some a → HasWord a.polarity a.pattern
sort_word p s k o (BaseSort b) a w h e = cc
sort_word p s k o (MailboxSort i q None) a w h e =
    let same : mailbox_type i q (s k) (param_usage q) ≡ a = cc in
    subst (λ (c : MailboxType). HasWord c.polarity c.pattern) same h.0
sort_word p s k o (MailboxSort i q (Some f)) a w h e =
    let same : mailbox_type i q f (param_usage q) ≡ a = cc in
    subst (λ (c : MailboxType). HasWord c.polarity c.pattern) same (written_word p i q f w)

result_word : (p : Program) (s : ℕ → Pat) (k : ℕ) (o : Origin) (t : Sort) → IsSignature p t → Numbered (WordAt s) k (omitted o t) → TypeHasWord (result_of (s k) t)
result_word p s k o (BaseSort b) w h = tt
result_word p s k o (MailboxSort i q None) w h = h.0
result_word p s k o (MailboxSort i q (Some f)) w h = written_word p i q f w

-- ---- the typing that is found has the signatures

sort_found : (p : Program) (s : ℕ → Pat) (k : ℕ) (t : Sort) → IsSignature p t → need_under s (sort_type (Var k) t) ≡ sort_type (s k) t
sort_found p s k (BaseSort b) w = refl
sort_found p s k (MailboxSort i q None) w = refl
sort_found p s k (MailboxSort i q (Some e)) w =
    ap (λ f. Some (mailbox_type i q f (param_usage q))) (closed_same s e (written_closed p i q e w))

result_same : (p : Program) (s : ℕ → Pat) (k : ℕ) (t : Sort) → IsSignature p t → result_under s (result_of (Var k) t) ≡ result_of (s k) t
result_same p s k (BaseSort b) w = refl
result_same p s k (MailboxSort i q None) w = refl
result_same p s k (MailboxSort i q (Some e)) w = ap (λ f. MailboxTerm i q f) (closed_same s e (written_closed p i q e w))

module _ (p : Program) (wf : WellFormed p) where
  -- ---- each node is found

  body_among : (n : ℕ) (fs : List Function) → 1 ≤ uses_as_body n fs → is_among n (function_bodies fs) ≡ true
  body_among n [] h = absurd (omega arith)
  body_among n (g ∷ gs) h =
      (elim (nat_eq n g.body) as (λ t. 1 ≤ count_if t + uses_as_body n gs → (t || is_among n (function_bodies gs)) ≡ true) [
        | true ↦ λ k. refl
        | false ↦ λ k. body_among n gs (omega arith)
      ]) h

  part_among : (n : ℕ) (ds : List Node) → 1 ≤ uses_as_part n ds → (j : ℕ) × (d : Node) × (slice_get ds j ≡ Some d) × (is_among n (parts d.core) ≡ true)
  part_among n [] h = absurd (omega arith)
  part_among n (d ∷ ds) h =
      ⊎_elim
      (λ on. (0, d, refl, on))
      (λ off.
      let none = not_counted (count_among n (parts d.core)) (λ l. clash (among_counted n (parts d.core) l) off) in
      let r = part_among n ds (omega arith) in
      (suc r.0, r.1, r.2, r.3))
      (cases_Bool (is_among n (parts d.core)))
    where
      not_counted : (k : ℕ) → (1 ≤ k → ⊥) → k ≡ 0
      not_counted zero h = refl
      not_counted (suc k) h = absurd (h (omega arith))

  some_use : (a b : ℕ) → a + b ≡ 1 → (1 ≤ a) ⊎ (1 ≤ b)
  some_use zero b h = inr (omega arith)
  some_use (suc a) b h = inl (omega arith)

  each_found : (nodes : List (ℕ × NodeType)) → Block p (function_bodies p.functions) nodes → (fuel n : ℕ) (d : Node) → n < fuel → node_at p n ≡ Some d → HasEntry nodes n
  each_found nodes block zero n d below at = absurd (omega arith)
  each_found nodes block (suc fuel) n d below at =
      ⊎_elim
      (λ body. block.there n (body_among n p.functions body))
      (λ part.
      let r = part_among n p.nodes part in
      let inside : PartAt p r.0 n = (r.1, r.2, r.3) in
      let before = (part_once p wf r.0 n inside).0 in
      let there = some_there (lookup (nat_eq r.0) nodes) (each_found nodes block fuel r.0 r.1 (omega arith) r.2) in
      looked_up (λ e. (k : ℕ) → PartAt p e.0 k → HasEntry nodes k) nodes r.0 there.0 block.closed there.1 n inside)
      (some_use (uses_as_body n p.functions) (uses_as_part n p.nodes) (wf.nodes n d at).once)

module _ (p : Program) (s : ℕ → Pat) (wf : WellFormed p) where
  found_param : (f : ℕ) (g : Function) → function_at p f ≡ Some g → (k : ℕ) → param_type (typing_found p s) f g k ≡ option_and_then (sort_type (s (number_at (first_number p f) g.params k))) (slice_get g.params k)
  found_param f g at k = ap (λ o. option_and_then (sort_type (replaced s (param_pattern_open p f k o))) (slice_get g.params k)) at

  found_result : (f : ℕ) (g : Function) → function_at p f ≡ Some g → result_type (typing_found p s) f g ≡ result_of (s (result_number (first_number p f) g)) g.result
  found_result f g at = ap (λ o. result_of (replaced s (result_pattern_open p f o)) g.result) at

  found_agrees : SignaturesAgree p (typing_found p s) s
  found_agrees = record {
    params = λ f g at k. param f g at k (slice_get g.params k) refl ∙ sym (found_param f g at k);
    results = λ f g at. result_same p s (result_number (first_number p f) g) g.result (wf.functions f g at).signature.1 ∙ sym (found_result f g at);
  }
    where
      param : (f : ℕ) (g : Function) → function_at p f ≡ Some g → (k : ℕ) (o : Option Sort) → slice_get g.params k ≡ o → need_under s (option_and_then (sort_type (Var (number_at (first_number p f) g.params k))) o) ≡ option_and_then (sort_type (s (number_at (first_number p f) g.params k))) o
      param f g at k None e = refl
      param f g at k (Some t) e = sort_found p s (number_at (first_number p f) g.params k) t (all_at (IsSignature p) g.params k t (wf.functions f g at).signature.0 e)

  found_words : SendersHaveWords s 1 (signature_vars p) → SignatureWords p (typing_found p s)
  found_words h = record {
    params = λ f g at k a e. param f g at k a (slice_get g.params k) refl (sym (found_param f g at k) ∙ e);
    results = λ f g at.
        subst TypeHasWord (sym (found_result f g at))
        (result_word p s (result_number (first_number p f) g) (OfResult f) g.result (wf.functions f g at).signature.1
        (signature_numbered (WordAt s) p (numbered_senders s 1 (signature_vars p) h) f g at).result);
  }
    where
      param : (f : ℕ) (g : Function) → function_at p f ≡ Some g → (k : ℕ) (a : MailboxType) (o : Option Sort) → slice_get g.params k ≡ o → option_and_then (sort_type (s (number_at (first_number p f) g.params k))) o ≡ Some a → HasWord a.polarity a.pattern
      param f g at k a None e w = cc
      param f g at k a (Some t) e w =
          sort_word p s (number_at (first_number p f) g.params k) (OfParameter f k) t a (all_at (IsSignature p) g.params k t (wf.functions f g at).signature.0 e)
          ((signature_numbered (WordAt s) p (numbered_senders s 1 (signature_vars p) h) f g at).params k t e) w

  -- ---- the typing

  all_functions : (j : ℕ) (g : Function) → slice_get p.functions j ≡ Some g → function_at p (0 + j) ≡ Some g
  all_functions j g e = let place : 0 + j ≡ j = omega arith in subst (λ n. function_at p n ≡ Some g) (sym place) e

  solution_typing : (inferred p).findings ≡ [] → IsPatternSolution p s → SendersHaveWords s 1 (signature_vars p) → IsTyping p (typing_found p s)
  solution_typing clean solved senders =
      let y : Typing = typing_found p s in
      let nodes : List (ℕ × NodeType) = (inferred p).nodes in
      let block = functions_block p wf 0 (1 + length (signature_vars p)) p.functions all_functions in
      let entries : AllByRecursion (EntryIn y s) nodes =
      all_map (λ e. lookup (nat_eq e.0) nodes ≡ Some e.1) (EntryIn y s) (λ e q. (ap (λ o. result_under s (result_open o)) q, ap (λ o x. need_under s (env_open o x)) q)) nodes block.unique in
      let holds : AllByRecursion (Holds s) (inferred p).constraints = all_map (MeetsUnder (values_of s)) (Holds s) (meets_holds s) (inferred p).constraints solved in
      let typed = functions_typed p wf y s found_agrees (found_words senders) 0 (1 + length (signature_vars p)) p.functions all_functions
      (record { clean = clean; holds = holds; entries = entries }) in
      record {
        functions = λ f g at. let place : 0 + f ≡ f = omega arith in subst (λ n. FunctionTyped p y n g) place (typed.0 f g at);
        nodes = λ n d at.
            let there = some_there (lookup (nat_eq n) nodes) (each_found p wf nodes block (suc n) n d (omega arith) at) in
            looked_up (EntryTyped p y) nodes n there.0 typed.1 there.1 d at;
      }

pub solution_types : SolutionTypes
solution_types p s wf clean solved senders = solution_typing p s wf clean solved senders

pub typable_exactly : BoundIsUnnamed → TypableExactly
typable_exactly unnamed p wf = (
  λ typable. (typable_clean unnamed p wf typable, typable_solved unnamed p wf typable),
  λ (clean, (s, solved, senders)). (typing_found p s, solution_typing p s wf clean solved senders),
)

pub each_node_once : EachNodeOnce
each_node_once p wf =
    let nodes : List (ℕ × NodeType) = (inferred p).nodes in
    let block = functions_block p wf 0 (1 + length (signature_vars p)) p.functions (λ j g e. let place : 0 + j ≡ j = omega arith in subst (λ n. function_at p n ≡ Some g) (sym place) e) in
    (λ n d at. some_there (lookup (nat_eq n) nodes) (each_found p wf nodes block (suc n) n d (omega arith) at), block.unique)

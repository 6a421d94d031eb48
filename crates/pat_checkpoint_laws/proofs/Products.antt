-- A word of each pattern together, and the product of the patterns.
use Rattle.std.proofs.Common.{◌≡◌, ℕ, zero, suc, true, false, cond, nat_eq, if◌then◌else◌, List, [], ◌∷◌, ◌++◌, length, map, refl, sym, ap, ◌∙◌, subst}
use Rattle.std.specs.Prelude.{filter}
use Rattle.pat_words_spec.specs.Words.{Word, no_word, one, plus}
use Rattle.pat_words_spec.specs.Patterns.{Pat, Tag, Language, InUnder}
use Rattle.pat_words_laws.proofs.WordLaws.{plus_assoc, plus_none, none_plus}
use Rattle.pat_words_laws.proofs.PatternLaws.{prod_of_from}
use Rattle.pat_semantics_spec.specs.Configs.{Message, pending_in}
use Rattle.pat_checkpoint_spec.specs.Balances.{paired, chained, joined_within, product_of, pending_tags}

-- a word of each
abbrev pub AllUnder : (ℕ → Language) → List Pat → Word → Type 0
AllUnder vs [] w = w ≡ no_word
AllUnder vs (e ∷ es) w = (u v : Word) × InUnder vs e u × AllUnder vs es v × (w ≡ plus u v)

module _ (vs : ℕ → Language) where
  pub all_join : (es fs : List Pat) (u v : Word) → AllUnder vs es u → AllUnder vs fs v → AllUnder vs (es ++ fs) (plus u v)
  all_join [] fs u v a b = subst (AllUnder vs fs) (sym (ap (λ (x : Word). plus x v) a ∙ none_plus v)) b
  all_join (e ∷ es) fs u v a b =
      (a.0, plus a.1 v, a.2, all_join es fs a.1 v a.3 b, ap (λ (x : Word). plus x v) a.4 ∙ plus_assoc a.0 a.1 v)

  all_paired : (es : List Pat) (w : Word) → AllUnder vs es w → AllUnder vs (paired es) w
  all_paired [] w a = a
  all_paired (e ∷ []) w a = a
  all_paired (e ∷ f ∷ rest) w a =
      let b = a.3 in (
        plus a.0 b.0,
        b.1,
        prod_of_from vs e f (plus a.0 b.0) (a.0, b.0, a.2, b.2, refl),
        all_paired rest b.1 b.3,
        a.4 ∙ ap (λ (x : Word). plus a.0 x) b.4 ∙ sym (plus_assoc a.0 b.0 b.1),
      )

  all_chained : (es : List Pat) (w : Word) → AllUnder vs es w → InUnder vs (chained es) w
  all_chained [] w a = a
  all_chained (e ∷ es) w a = prod_of_from vs e (chained es) w (a.0, a.1, a.2, all_chained es a.1 a.3, a.4)

  only_one : (e : Pat) (w : Word) → AllUnder vs (e ∷ []) w → InUnder vs e w
  only_one e w a = subst (InUnder vs e) (sym (a.4 ∙ ap (λ (x : Word). plus a.0 x) a.3 ∙ plus_none a.0)) a.2

  all_joined : (n : ℕ) (es : List Pat) (w : Word) → AllUnder vs es w → InUnder vs (joined_within n es) w
  all_joined zero [] w a = a
  all_joined (suc n) [] w a = a
  all_joined zero (e ∷ []) w a = only_one e w a
  all_joined (suc n) (e ∷ []) w a = only_one e w a
  all_joined zero (e ∷ f ∷ rest) w a = all_chained (e ∷ f ∷ rest) w a
  all_joined (suc n) (e ∷ f ∷ rest) w a = all_joined n (paired (e ∷ f ∷ rest)) w (all_paired (e ∷ f ∷ rest) w a)

  -- a word of each pattern together is one of the product
  pub all_product : (es : List Pat) (w : Word) → AllUnder vs es w → InUnder vs (product_of es) w
  all_product es w a = all_joined (length es) es w a

  -- what is pending is a word of the tags that are
  pub pending_all : (a : ℕ) (ms : List Message) → AllUnder vs (pending_tags a ms) (pending_in a ms)
  pending_all a [] = refl
  pending_all a (m ∷ ms) =
      elim (nat_eq m.mailbox a) as (λ t. AllUnder vs (map (λ m. Tag m.tag) (cond t (m ∷ filter (λ m. nat_eq m.mailbox a) ms) (filter (λ m. nat_eq m.mailbox a) ms))) (if t then plus (one m.tag) (pending_in a ms) else pending_in a ms)) [
        | true ↦ (one m.tag, pending_in a ms, refl, pending_all a ms, refl)
        | false ↦ pending_all a ms
      ]

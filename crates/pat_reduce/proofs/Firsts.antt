-- The message that a number stands for, and the first that a guard takes.
use Rattle.std.proofs.Common.{◌≡◌, ℕ, ◌+◌, ◌<◌, Bool, true, false, ◌||◌, ◌&&◌, nat_eq, List, [], ◌∷◌, ◌++◌, map, length, take, drop, get_or, Option, Some, None, refl, sym, ap, ◌∙◌, eq-eqb}
use Rattle.std.specs.Option.{option_or}
use Rattle.std.specs.List.{list_any, find}
use Rattle.std.proofs.lemmas.Bool.{cond-true, cond-false, eqb-true}
use Rattle.std.proofs.lemmas.List.{map-append, take-append-drop, drop_more, take_more}
use Rattle.std.proofs.lemmas.List.Folds.{find-append}
use Rattle.pat_semantics_spec.specs.Configs.{Message}
use Rattle.pat_reduce_values.proofs.Finds.{found_passes, found_fails, any_append}
use Rattle.pat_reduce.specs.declared.threads.state.Message.{Message as CodeMessage}
use Rattle.pat_reduce.specs.threads.ThreadViews.{message_view}
use Rattle.pat_reduce.specs.threads.ThreadActs.{Guarding, message_in, takes, takes_option, first_taken}

module _ (g : Guarding) (ms : List Message) where
  abbrev taken : Message → Bool
  taken m = takes_option g (message_in ms m.number)

  by_number : (before after : List Message) (m : Message) → ms ≡ before ++ m ∷ after → list_any taken before ≡ false → takes g m ≡ false
      → (o : Option Message) → find (λ n. nat_eq m.number n.number) before ≡ o → taken m ≡ false
  by_number before after m split none other None nothing =
      ap (λ l. takes_option g (message_in l m.number)) split
      ∙ ap (takes_option g) (find-append (λ n. nat_eq m.number n.number) before (m ∷ after) ∙ ap (λ o. option_or o (find (λ n. nat_eq m.number n.number) (m ∷ after))) nothing ∙ cond-true (nat_eq m.number m.number) (Some m) (find (λ n. nat_eq m.number n.number) after) (eq-eqb m.number m.number refl))
      ∙ other
  by_number before after m split none other (Some n) found =
      let same : m.number ≡ n.number = eqb-true m.number n.number (found_passes (λ n. nat_eq m.number n.number) before n found) in
      ap (λ k. takes_option g (message_in ms k)) same ∙ found_fails taken (λ n. nat_eq m.number n.number) before n none found

  -- what isn't taken itself isn't taken by its number, where no message before it is
  pub not_taken : (before after : List Message) (m : Message) → ms ≡ before ++ m ∷ after → list_any taken before ≡ false → (takes g m && taken m) ≡ false → taken m ≡ false
  not_taken before after m split none h =
      (elim (takes g m) as (λ b. takes g m ≡ b → (b && taken m) ≡ false → taken m ≡ false) [
        | true ↦ λ is h. h
        | false ↦ λ is h. by_number before after m split none is (find (λ n. nat_eq m.number n.number) before) refl
      ]) refl h

  pub taken_too : (m : Message) → (takes g m && taken m) ≡ true → taken m ≡ true
  taken_too m h =
      (elim (takes g m) as (λ b. (b && taken m) ≡ true → taken m ≡ true) [
        | true ↦ λ h. h
        | false ↦ λ h. absurd cc
      ]) h

  -- one message further
  pub none_more : (before : List Message) (m : Message) → list_any taken before ≡ false → taken m ≡ false → list_any taken (before ++ m ∷ []) ≡ false
  none_more before m none h =
      any_append taken before (m ∷ []) ∙ ap (λ b. b || (taken m || false)) none ∙ ap (λ b. b || false) h

module _ (g : Guarding) (cms : List CodeMessage) (i : ℕ) (m : CodeMessage) (within : i < length cms) (read : m ≡ get_or cms i m) where
  abbrev ms : List Message
  ms = map message_view cms

  front : drop i cms ≡ m ∷ drop (i + 1) cms
  front = drop_more cms i m within ∙ ap (λ y. y ∷ drop (i + 1) cms) (sym read)

  behind : take (i + 1) cms ≡ take i cms ++ m ∷ []
  behind = take_more cms i m within ∙ ap (λ y. take i cms ++ y ∷ []) (sym read)

  split : ms ≡ map message_view (take i cms) ++ message_view m ∷ map message_view (drop (i + 1) cms)
  split =
      ap (map message_view) (sym (take-append-drop i cms) ∙ ap (λ l. take i cms ++ l) front)
      ∙ map-append message_view (take i cms) (m ∷ drop (i + 1) cms)

  module _ (b : Bool) (is : b ≡ (takes g (message_view m) && taken g ms (message_view m))) (failed : b ≡ false) (before : list_any (taken g ms) (map message_view (take i cms)) ≡ false) where
    passed : taken g ms (message_view m) ≡ false
    passed = not_taken g ms (map message_view (take i cms)) (map message_view (drop (i + 1) cms)) (message_view m) split before (sym is ∙ failed)

    pub rest_on : find (taken g ms) (map message_view (drop i cms)) ≡ first_taken g ms → find (taken g ms) (map message_view (drop (i + 1) cms)) ≡ first_taken g ms
    rest_on rest =
        sym (cond-false (taken g ms (message_view m)) (Some (message_view m)) (find (taken g ms) (map message_view (drop (i + 1) cms))) passed)
        ∙ ap (λ l. find (taken g ms) (map message_view l)) (sym front) ∙ rest

    pub before_on : list_any (taken g ms) (map message_view (take (i + 1) cms)) ≡ false
    before_on =
        ap (λ l. list_any (taken g ms) (map message_view l)) behind
        ∙ ap (list_any (taken g ms)) (map-append message_view (take i cms) (m ∷ []))
        ∙ none_more g ms (map message_view (take i cms)) (message_view m) before passed

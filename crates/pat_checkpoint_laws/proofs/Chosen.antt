-- Words chosen from holdings, in the order of a text.
use Rattle.std.proofs.Common.{◌≡◌, ℕ, List, [], ◌∷◌, ◌++◌, map, Some, None, refl, sym, ap, ◌∙◌, subst, reverse}
use Rattle.std.proofs.lemmas.Grind.{reverse_onto}
use Rattle.pat_words_spec.specs.Words.{Word, no_word, plus}
use Rattle.pat_words_spec.specs.Patterns.{Language}
use Rattle.pat_words_laws.proofs.WordLaws.{plus_assoc, plus_comm, plus_none, none_plus}
use Rattle.pat_semantics_spec.specs.Programs.{Program, Polarity, Sending, Receiving}
use Rattle.pat_semantics_spec.specs.Patterns.{Pat}
use Rattle.pat_semantics_spec.specs.Configs.{Thread, Config}
use Rattle.pat_inclusion_spec.specs.Values.{Scope, filled}
use Rattle.pat_type_system_spec.specs.Typings.{Typing}
use Rattle.pat_type_system_spec.specs.Holdings.{Holding, frame_held, thread_held, threads_held, message_held, holdings, SendsBy, Sends, Choice}
use Rattle.pat_derivation_laws.proofs.DemandsMet.{put_in}
use Rattle.pat_derivation_laws.proofs.Filled.{ValueWords, filled_under}
use Rattle.pat_checkpoint_spec.specs.HoldingsInOrder.{sends_by, thread_lines_held, threads_lines_held, lines_held}
use Rattle.pat_checkpoint_spec.specs.Balances.{sends, senders}
use Rattle.pat_checkpoint_laws.proofs.Products.{AllUnder, all_join}

-- a word of each holding, by what each gives
abbrev pub Chosen : (Holding → Language) → List Holding → Word → Type 0
Chosen S [] w = w ≡ no_word
Chosen S (h ∷ hs) w = (u v : Word) × S h u × Chosen S hs v × (w ≡ plus u v)

module _ (S : Holding → Language) where
  chosen_parts : (hs ks : List Holding) (w : Word) → Chosen S (hs ++ ks) w → (u v : Word) × Chosen S hs u × Chosen S ks v × (w ≡ plus u v)
  chosen_parts [] ks w c = (no_word, w, refl, c, sym (none_plus w))
  chosen_parts (h ∷ hs) ks w c =
      let r = chosen_parts hs ks c.1 c.3 in
      (plus c.0 r.0, r.1, (c.0, r.0, c.2, r.2, refl), r.3, c.4 ∙ ap (λ (x : Word). plus c.0 x) r.4 ∙ sym (plus_assoc c.0 r.0 r.1))

  chosen_join : (hs ks : List Holding) (u v : Word) → Chosen S hs u → Chosen S ks v → Chosen S (hs ++ ks) (plus u v)
  chosen_join [] ks u v c d = subst (Chosen S ks) (sym (ap (λ (x : Word). plus x v) c ∙ none_plus v)) d
  chosen_join (h ∷ hs) ks u v c d =
      (c.0, plus c.1 v, c.2, chosen_join hs ks c.1 v c.3 d, ap (λ (x : Word). plus x v) c.4 ∙ plus_assoc c.0 c.1 v)

  chosen_one : (h : Holding) (w : Word) → S h w → Chosen S (h ∷ []) w
  chosen_one h w s = (w, no_word, s, refl, sym (plus_none w))

  -- from the last one on
  chosen_reverse : (hs : List Holding) (w : Word) → Chosen S hs w → Chosen S (reverse hs) w
  chosen_reverse [] w c = c
  chosen_reverse (h ∷ hs) w c =
      subst (λ l. Chosen S l w) (sym (reverse_onto hs h []))
      (subst (Chosen S (reverse hs ++ h ∷ [])) (sym (c.4 ∙ plus_comm c.0 c.1))
      (chosen_join (reverse hs) (h ∷ []) c.1 c.0 (chosen_reverse hs c.1 c.3) (chosen_one h c.0 c.2)))

  module _ (p : Program) (y : Typing) (b : ℕ) where
    chosen_thread : (t : Thread) (w : Word) → Chosen S (thread_held p y b t) w → Chosen S (thread_lines_held p y b t) w
    chosen_thread t w c = (c.0, c.1, c.2, chosen_reverse (map (frame_held y b) t.frames) c.1 c.3, c.4)

    chosen_threads : (ts : List (ℕ × Thread)) (w : Word) → Chosen S (threads_held p y b ts) w → Chosen S (threads_lines_held p y b ts) w
    chosen_threads [] w c = c
    chosen_threads (e ∷ es) w c =
        let q = chosen_parts (thread_held p y b e.1) (threads_held p y b es) w c in
        subst (Chosen S (thread_lines_held p y b e.1 ++ threads_lines_held p y b es)) (sym q.4)
        (chosen_join (thread_lines_held p y b e.1) (threads_lines_held p y b es) q.0 q.1 (chosen_thread e.1 q.0 q.2) (chosen_threads es q.1 q.3))

    -- a choice from all holdings is one in the order of a text
    pub chosen_lines : (interfaces : ℕ → ℕ) (c : Config) (w : Word) → Chosen S (holdings p y interfaces c b) w → Chosen S (lines_held p y interfaces c b) w
    chosen_lines interfaces c w h =
        let ms = map (message_held p interfaces b) c.messages in
        let q = chosen_parts (threads_held p y b c.threads) ms w h in
        subst (Chosen S (ms ++ threads_lines_held p y b c.threads)) (sym (q.4 ∙ plus_comm q.0 q.1))
        (chosen_join ms (threads_lines_held p y b c.threads) q.1 q.0 q.3 (chosen_threads c.threads q.0 q.2))

-- what a holding with values put in gives
abbrev pub SendsPut : Scope → Holding → Language
SendsPut s h w = Sends (put_in s h) w

-- a choice from holdings with values put in
pub choice_put : (s : Scope) (hs : List Holding) (w : Word) → Choice (map (put_in s) hs) w → Chosen (SendsPut s) hs w
choice_put s [] w c = c
choice_put s (h ∷ hs) w c = (c.0, c.1, c.2, choice_put s hs c.1 c.3, c.4)

sends_by_all : (s : Scope) (q : Polarity) (e : Pat) (w : Word) → SendsBy q (filled s e) w → AllUnder (ValueWords s) (sends_by q e) w
sends_by_all s Sending e w h = (w, no_word, filled_under s e w h, refl, sym (plus_none w))
sends_by_all s Receiving e w h = h

sends_all : (s : Scope) (h : Holding) (w : Word) → SendsPut s h w → AllUnder (ValueWords s) (sends h) w
sends_all s None w c = c
sends_all s (Some a) w c = sends_by_all s a.polarity a.pattern w c

-- what is chosen is a word of each sending pattern
pub chosen_all : (s : Scope) (hs : List Holding) (w : Word) → Chosen (SendsPut s) hs w → AllUnder (ValueWords s) (senders hs) w
chosen_all s [] w c = c
chosen_all s (h ∷ hs) w c =
    subst (AllUnder (ValueWords s) (sends h ++ senders hs)) (sym c.4)
    (all_join (ValueWords s) (sends h) (senders hs) c.0 c.1 (sends_all s h c.0 c.2) (chosen_all s hs c.1 c.3))

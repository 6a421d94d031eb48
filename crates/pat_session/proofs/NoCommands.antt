-- Words that are no command.
use Rattle.std.proofs.Common.{◌≡◌, ◌<◌, ◌≤◌, ◌-◌, ℕ, List, [], ◌∷◌, length, map, take, drop, get_or, Some, None, sym, ap, ◌∙◌, subst, arith}
use Rattle.std.specs.Prelude.{codes}
use Rattle.std.proofs.lemmas.List.{take_rest}
use Rattle.pat_run.specs.declared.options.options.RunOptions.{RunOptions}
use Rattle.pat_run.specs.options.Options.{options_of, steps_of}
use Rattle.pat_session.specs.declared.words.Command.TheVariants.{Check, Derive, Print, Run, Replay, Order, Verify, Checkpoint, Resume, Load, Help}
use Rattle.pat_session.specs.Allowed.{HasCommand, size_of}

abbrev first_length : List (List ℕ) → ℕ
first_length [] = 0
first_length (w ∷ ws) = length w

abbrev rest_words : List (List ℕ) → List (List ℕ)
rest_words [] = []
rest_words (w ∷ ws) = ws

-- the first byte of the first word
abbrev byte_of : List ℕ → ℕ
byte_of [] = 0
byte_of (b ∷ bs) = b

abbrev first_byte : List (List ℕ) → ℕ
first_byte [] = 0
first_byte (w ∷ ws) = byte_of w

-- the third byte of the first word
abbrev third_of : List ℕ → ℕ
third_of (a ∷ b ∷ c ∷ bs) = c
third_of _ = 0

abbrev third_byte : List (List ℕ) → ℕ
third_byte [] = 0
third_byte (w ∷ ws) = third_of w

abbrev first_word : List (List ℕ) → List ℕ
first_word [] = []
first_word (w ∷ ws) = w

-- more than one word, of which the first is none that others stand behind
pub no_options_here : (w : List ℕ) (ws : List (List ℕ)) → (w ≡ codes "run" → ⊥) → (w ≡ codes "load" → ⊥) → (w ≡ codes "checkpoint" → ⊥) → (w ≡ codes "resume" → ⊥) → 0 < length ws → HasCommand (w ∷ ws) → ⊥
no_options_here w ws run load checkpoint resume some (Check, h) = let one = ap length h in omega (arith, some, one)
no_options_here w ws run load checkpoint resume some (Derive, h) = let one = ap length h in omega (arith, some, one)
no_options_here w ws run load checkpoint resume some (Print, h) = let one = ap length h in omega (arith, some, one)
no_options_here w ws run load checkpoint resume some (Replay, h) = let one = ap length h in omega (arith, some, one)
no_options_here w ws run load checkpoint resume some (Order, h) = let one = ap length h in omega (arith, some, one)
no_options_here w ws run load checkpoint resume some (Verify, h) = let one = ap length h in omega (arith, some, one)
no_options_here w ws run load checkpoint resume some (Help, h) = let one = ap length h in omega (arith, some, one)
no_options_here w ws run load checkpoint resume some (Run o, h) = run (ap first_word h.1)
no_options_here w ws run load checkpoint resume some (Load n o, h) = load (ap first_word h.words_are)
no_options_here w ws run load checkpoint resume some (Checkpoint n, h) = checkpoint (ap first_word h.1)
no_options_here w ws run load checkpoint resume some (Resume n, h) = resume (ap first_word h.1)

-- run with words that are no options
pub no_such_options : (ws : List (List ℕ)) → options_of ws ≡ None → HasCommand (codes "run" ∷ ws) → ⊥
no_such_options ws none (Check, h) = let clash : 3 ≡ 5 = ap first_length h in omega (arith, clash)
no_such_options ws none (Derive, h) = let clash : 3 ≡ 6 = ap first_length h in omega (arith, clash)
no_such_options ws none (Print, h) = let clash : 3 ≡ 5 = ap first_length h in omega (arith, clash)
no_such_options ws none (Replay, h) = let clash : 3 ≡ 6 = ap first_length h in omega (arith, clash)
no_such_options ws none (Order, h) = let clash : 3 ≡ 5 = ap first_length h in omega (arith, clash)
no_such_options ws none (Verify, h) = let clash : 3 ≡ 6 = ap first_length h in omega (arith, clash)
no_such_options ws none (Help, h) = let clash : 3 ≡ 4 = ap first_length h in omega (arith, clash)
no_such_options ws none (Run o, h) = let both : None ≡ Some o = sym none ∙ ap options_of (ap rest_words h.1) ∙ h.2 in cc
no_such_options ws none (Load n o, h) = let clash : 3 ≡ 4 = ap first_length h.words_are in omega (arith, clash)
no_such_options ws none (Checkpoint n, h) = let clash : 3 ≡ 10 = ap first_length h.1 in omega (arith, clash)
no_such_options ws none (Resume n, h) = let clash : 3 ≡ 6 = ap first_length h.1 in omega (arith, clash)

-- checkpoint with words that are no number of steps
pub no_checkpoint_steps : (ws : List (List ℕ)) → steps_of ws ≡ None → HasCommand (codes "checkpoint" ∷ ws) → ⊥
no_checkpoint_steps ws none (Check, h) = let clash : 10 ≡ 5 = ap first_length h in omega (arith, clash)
no_checkpoint_steps ws none (Derive, h) = let clash : 10 ≡ 6 = ap first_length h in omega (arith, clash)
no_checkpoint_steps ws none (Print, h) = let clash : 10 ≡ 5 = ap first_length h in omega (arith, clash)
no_checkpoint_steps ws none (Replay, h) = let clash : 10 ≡ 6 = ap first_length h in omega (arith, clash)
no_checkpoint_steps ws none (Order, h) = let clash : 10 ≡ 5 = ap first_length h in omega (arith, clash)
no_checkpoint_steps ws none (Verify, h) = let clash : 10 ≡ 6 = ap first_length h in omega (arith, clash)
no_checkpoint_steps ws none (Help, h) = let clash : 10 ≡ 4 = ap first_length h in omega (arith, clash)
no_checkpoint_steps ws none (Run o, h) = let clash : 10 ≡ 3 = ap first_length h.1 in omega (arith, clash)
no_checkpoint_steps ws none (Load n o, h) = let clash : 10 ≡ 4 = ap first_length h.words_are in omega (arith, clash)
no_checkpoint_steps ws none (Checkpoint n, h) = let both : None ≡ Some n = sym none ∙ ap steps_of (ap rest_words h.1) ∙ h.2 in cc
no_checkpoint_steps ws none (Resume n, h) = let clash : 10 ≡ 6 = ap first_length h.1 in omega (arith, clash)

-- resume with words that are no number of steps
pub no_resume_steps : (ws : List (List ℕ)) → steps_of ws ≡ None → HasCommand (codes "resume" ∷ ws) → ⊥
no_resume_steps ws none (Check, h) = let clash : 6 ≡ 5 = ap first_length h in omega (arith, clash)
no_resume_steps ws none (Derive, h) = let clash : 114 ≡ 100 = ap first_byte h in omega (arith, clash)
no_resume_steps ws none (Print, h) = let clash : 6 ≡ 5 = ap first_length h in omega (arith, clash)
no_resume_steps ws none (Replay, h) = let clash : 115 ≡ 112 = ap third_byte h in omega (arith, clash)
no_resume_steps ws none (Order, h) = let clash : 6 ≡ 5 = ap first_length h in omega (arith, clash)
no_resume_steps ws none (Verify, h) = let clash : 114 ≡ 118 = ap first_byte h in omega (arith, clash)
no_resume_steps ws none (Help, h) = let clash : 6 ≡ 4 = ap first_length h in omega (arith, clash)
no_resume_steps ws none (Run o, h) = let clash : 6 ≡ 3 = ap first_length h.1 in omega (arith, clash)
no_resume_steps ws none (Load n o, h) = let clash : 6 ≡ 4 = ap first_length h.words_are in omega (arith, clash)
no_resume_steps ws none (Checkpoint n, h) = let clash : 6 ≡ 10 = ap first_length h.1 in omega (arith, clash)
no_resume_steps ws none (Resume n, h) = let both : None ≡ Some n = sym none ∙ ap steps_of (ap rest_words h.1) ∙ h.2 in cc

-- the words behind load are a size and options
record IsLoading (n : ℕ) (o : RunOptions) (ws : List (List ℕ)) : Type 0 where
  number : List ℕ
  rest : List (List ℕ)
  words_are : ws ≡ number ∷ rest
  spelled : size_of number ≡ Some n
  options : options_of rest ≡ Some o

loading : (ws : List (List ℕ)) → HasCommand (codes "load" ∷ ws) → (n : ℕ) × (o : RunOptions) × IsLoading n o ws
loading ws (Check, h) = let clash : 4 ≡ 5 = ap first_length h in absurd (omega (arith, clash))
loading ws (Derive, h) = let clash : 4 ≡ 6 = ap first_length h in absurd (omega (arith, clash))
loading ws (Print, h) = let clash : 4 ≡ 5 = ap first_length h in absurd (omega (arith, clash))
loading ws (Replay, h) = let clash : 4 ≡ 6 = ap first_length h in absurd (omega (arith, clash))
loading ws (Order, h) = let clash : 4 ≡ 5 = ap first_length h in absurd (omega (arith, clash))
loading ws (Verify, h) = let clash : 4 ≡ 6 = ap first_length h in absurd (omega (arith, clash))
loading ws (Help, h) = let clash : 108 ≡ 104 = ap first_byte h in absurd (omega (arith, clash))
loading ws (Run o, h) = let clash : 4 ≡ 3 = ap first_length h.1 in absurd (omega (arith, clash))
loading ws (Checkpoint n, h) = let clash : 4 ≡ 10 = ap first_length h.1 in absurd (omega (arith, clash))
loading ws (Resume n, h) = let clash : 4 ≡ 6 = ap first_length h.1 in absurd (omega (arith, clash))
loading ws (Load n o, h) = (n, o, record { number = h.number; rest = h.rest; words_are = ap rest_words h.words_are; spelled = h.spelled; options = h.options })

-- load without a size
pub no_number : HasCommand (codes "load" ∷ []) → ⊥
no_number h = let l = loading [] h in let clash : [] ≡ l.2.number ∷ l.2.rest = l.2.words_are in cc

-- load with a word that is no size
pub no_size : (w : List ℕ) (ws : List (List ℕ)) → size_of w ≡ None → HasCommand (codes "load" ∷ w ∷ ws) → ⊥
no_size w ws none h =
    let l = loading (w ∷ ws) h in
    let both : None ≡ Some l.0 = sym none ∙ ap size_of (ap first_word l.2.words_are) ∙ l.2.spelled in
    cc

-- load with words behind its size that are no options
pub no_load_options : (w : List ℕ) (ws : List (List ℕ)) → options_of ws ≡ None → HasCommand (codes "load" ∷ w ∷ ws) → ⊥
no_load_options w ws none h =
    let l = loading (w ∷ ws) h in
    let both : None ≡ Some l.1 = sym none ∙ ap options_of (ap rest_words l.2.words_are) ∙ l.2.options in
    cc

-- another word alone
pub no_such_word : (w : List ℕ) → (w ≡ codes "run" → ⊥) → (w ≡ codes "load" → ⊥) → (w ≡ codes "checkpoint" → ⊥) → (w ≡ codes "resume" → ⊥) → (w ≡ codes "check" → ⊥) → (w ≡ codes "derive" → ⊥) → (w ≡ codes "print" → ⊥) → (w ≡ codes "replay" → ⊥) → (w ≡ codes "order" → ⊥) → (w ≡ codes "verify" → ⊥) → (w ≡ codes "help" → ⊥) → HasCommand (w ∷ []) → ⊥
no_such_word w run load checkpoint resume check derive print replay order verify help (Check, h) = check (ap first_word h)
no_such_word w run load checkpoint resume check derive print replay order verify help (Derive, h) = derive (ap first_word h)
no_such_word w run load checkpoint resume check derive print replay order verify help (Print, h) = print (ap first_word h)
no_such_word w run load checkpoint resume check derive print replay order verify help (Replay, h) = replay (ap first_word h)
no_such_word w run load checkpoint resume check derive print replay order verify help (Order, h) = order (ap first_word h)
no_such_word w run load checkpoint resume check derive print replay order verify help (Verify, h) = verify (ap first_word h)
no_such_word w run load checkpoint resume check derive print replay order verify help (Help, h) = help (ap first_word h)
no_such_word w run load checkpoint resume check derive print replay order verify help (Run o, h) = run (ap first_word h.1)
no_such_word w run load checkpoint resume check derive print replay order verify help (Load n o, h) = load (ap first_word h.words_are)
no_such_word w run load checkpoint resume check derive print replay order verify help (Checkpoint n, h) = checkpoint (ap first_word h.1)
no_such_word w run load checkpoint resume check derive print replay order verify help (Resume n, h) = resume (ap first_word h.1)

-- the first word and those behind it
pub first_and_rest : {S : Type 0} (bytes : S → List ℕ) (ws : List S) (none word : S) → 1 ≤ length ws → word ≡ get_or ws 0 none → bytes word ∷ map bytes (take (length ws - 1) (drop 1 ws)) ≡ map bytes ws
first_and_rest bytes [] none word l is = absurd (omega (arith, l))
first_and_rest bytes (w ∷ ws) none word l is = ap (λ rest. bytes word ∷ map bytes rest) (take_rest (w ∷ ws) 1) ∙ ap (λ k. bytes k ∷ map bytes ws) is

-- so what holds of these holds of all
pub of_first_and_rest : {S : Type 0} (bytes : S → List ℕ) (P : List (List ℕ) → Type 0) (ws : List S) (none word : S) (own : List ℕ) → 1 ≤ length ws → word ≡ get_or ws 0 none → own ≡ bytes word → P (own ∷ map bytes (take (length ws - 1) (drop 1 ws))) → P (map bytes ws)
of_first_and_rest bytes P ws none word own some is same has =
    subst P (ap (λ k. k ∷ map bytes (take (length ws - 1) (drop 1 ws))) same ∙ first_and_rest bytes ws none word some is) has

-- load with no words behind it
pub no_words : {S : Type 0} (bytes : S → List ℕ) (ws : List S) → length ws < 1 → HasCommand (codes "load" ∷ map bytes ws) → ⊥
no_words bytes [] none h = no_number h
no_words bytes (w ∷ ws) none h = omega (arith, none)

-- A let divides a holding among its bound part and its body, and a mailbox stays balanced.
use Rattle.std.proofs.Common.{◌≡◌, ℕ, [], ◌∷◌, Some, None, refl, sym, ap, ◌∙◌, subst, arith}
use Rattle.pat_words_spec.specs.Words.{Word, no_word, plus}
use Rattle.pat_words_spec.specs.Patterns.{Pat}
use Rattle.pat_words_laws.proofs.WordLaws.{word_ext, plus_none, none_plus}
use Rattle.pat_semantics_spec.specs.Programs.{Polarity, Sending, Receiving}
use Rattle.pat_type_system_spec.specs.Types.{Usage, mailbox_type, PatternJoins, SplitsTo}
use Rattle.pat_type_system_spec.specs.Holdings.{Holding, Sends, Choice}
use Rattle.pat_safety_laws.proofs.Balance.{Refines, quiet, active, passes_refine, choice_one, choice_of_one}

-- a choice from two holdings
choice_two : (h k : Holding) (w : Word) → Choice (h ∷ k ∷ []) w → (u v : Word) × Sends h u × Sends k v × (w ≡ plus u v)
choice_two h k w c =
    let d = choice_of_one k c.1 c.3 in (c.0, c.1, c.2, d, c.4)

-- nothing is added by a place that holds nothing
pub none_after : (h k : Holding) (r s : Word) → Refines (h ∷ []) r (k ∷ []) s → Refines (h ∷ []) r (k ∷ None ∷ []) s
none_after h k r s (quiet none_old none_new choose) =
    quiet none_old none_new
    (λ w c. let two = choice_two k None w c in
    let e : w ≡ two.0 = two.4 ∙ ap (λ (x : Word). plus two.0 x) two.3 ∙ plus_none two.0 in
    choose w (choice_one k w (subst (Sends k) (sym e) two.2)))
none_after h k r s (active e f one_old one_new choose) =
    active e f one_old one_new
    (λ v old w c. let two = choice_two k None w c in
    let q : w ≡ two.0 = two.4 ∙ ap (λ (x : Word). plus two.0 x) two.3 ∙ plus_none two.0 in
    choose v old w (choice_one k w (subst (Sends k) (sym q) two.2)))

pub none_before : (h k : Holding) (r s : Word) → Refines (h ∷ []) r (k ∷ []) s → Refines (h ∷ []) r (None ∷ k ∷ []) s
none_before h k r s (quiet none_old none_new choose) =
    quiet none_old none_new
    (λ w c. let two = choice_two None k w c in
    let e : w ≡ two.1 = two.4 ∙ ap (λ (x : Word). plus x two.1) two.2 ∙ none_plus two.1 in
    choose w (choice_one k w (subst (Sends k) (sym e) two.3)))
none_before h k r s (active e f one_old one_new choose) =
    active e f one_old one_new
    (λ v old w c. let two = choice_two None k w c in
    let q : w ≡ two.1 = two.4 ∙ ap (λ (x : Word). plus x two.1) two.2 ∙ none_plus two.1 in
    choose v old w (choice_one k w (subst (Sends k) (sym q) two.3)))

joins_refine : (i j l : ℕ) (u v x : Usage) (q p s : Polarity) (e1 e2 e : Pat) (r : Word) → PatternJoins q p s e1 e2 e → Refines (Some (mailbox_type l s e x) ∷ []) r (Some (mailbox_type i q e1 u) ∷ Some (mailbox_type j p e2 v) ∷ []) r
joins_refine i j l u v x Sending Sending Sending e1 e2 e r h =
    quiet refl refl
    (λ w c. let two = choice_two (Some (mailbox_type i Sending e1 u)) (Some (mailbox_type j Sending e2 v)) w c in
    (w, choice_one (Some (mailbox_type l Sending e x)) w (h w two), refl))
joins_refine i j l u v x Sending Receiving Receiving e1 e2 e r h =
    active e e2 refl refl
    (λ rest old w c.
    let two = choice_two (Some (mailbox_type i Sending e1 u)) (Some (mailbox_type j Receiving e2 v)) w c in
    let whole = old no_word (choice_one (Some (mailbox_type l Receiving e x)) no_word refl) in
    let turn : plus (plus r w) rest ≡ plus two.0 (plus (plus r no_word) rest) =
    ap (λ (z : Word). plus (plus r z) rest) (two.4 ∙ ap (λ (z : Word). plus two.0 z) two.3)
    ∙ word_ext (plus (plus r (plus two.0 no_word)) rest) (plus two.0 (plus (plus r no_word) rest)) (λ t. omega arith) in
    h (plus (plus r w) rest) (two.0, plus (plus r no_word) rest, two.2, whole, turn))
joins_refine i j l u v x Receiving Sending Receiving e1 e2 e r h =
    active e e1 refl refl
    (λ rest old w c.
    let two = choice_two (Some (mailbox_type i Receiving e1 u)) (Some (mailbox_type j Sending e2 v)) w c in
    let whole = old no_word (choice_one (Some (mailbox_type l Receiving e x)) no_word refl) in
    let turn : plus (plus r w) rest ≡ plus two.1 (plus (plus r no_word) rest) =
    ap (λ (z : Word). plus (plus r z) rest) (two.4 ∙ ap (λ (z : Word). plus z two.1) two.2)
    ∙ word_ext (plus (plus r (plus no_word two.1)) rest) (plus two.1 (plus (plus r no_word) rest)) (λ t. omega arith) in
    h (plus (plus r w) rest) (two.1, plus (plus r no_word) rest, two.3, whole, turn))
joins_refine i j l u v x Sending Sending Receiving e1 e2 e r h = absurd h
joins_refine i j l u v x Sending Receiving Sending e1 e2 e r h = absurd h
joins_refine i j l u v x Receiving Sending Sending e1 e2 e r h = absurd h
joins_refine i j l u v x Receiving Receiving s e1 e2 e r h = absurd h

-- what is divided stays balanced
pub split_refine : (a b c : Holding) (r : Word) → SplitsTo a b c → Refines (a ∷ []) r (b ∷ c ∷ []) r
split_refine None None None r h = none_after None None r r (passes_refine None None r tt)
split_refine (Some a) None None r h = none_after (Some a) None r r (passes_refine (Some a) None r h)
split_refine (Some a) (Some b) None r h = none_after (Some a) (Some b) r r (passes_refine (Some a) (Some b) r h)
split_refine (Some a) None (Some c) r h = none_before (Some a) (Some c) r r (passes_refine (Some a) (Some c) r h)
split_refine (Some a) (Some b) (Some c) r h =
    joins_refine b.interface c.interface a.interface b.usage c.usage a.usage b.polarity c.polarity a.polarity b.pattern c.pattern a.pattern r h.pattern
split_refine None (Some b) c r h = absurd h
split_refine None None (Some c) r h = absurd h

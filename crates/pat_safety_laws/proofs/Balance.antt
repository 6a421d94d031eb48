-- Balance: what happens to it where holdings change.
use Rattle.std.proofs.Common.{◌≡◌, ℕ, List, [], ◌∷◌, ◌++◌, Some, None, refl, sym, ap, ◌∙◌, subst, append_assoc}
use Rattle.pat_words_spec.specs.Words.{Word, no_word, plus}
use Rattle.pat_words_spec.specs.Patterns.{Pat, In}
use Rattle.pat_words_laws.proofs.WordLaws.{plus_assoc, plus_none, none_plus, plus_swap}
use Rattle.pat_semantics_spec.specs.Programs.{Polarity, Sending, Receiving}
use Rattle.pat_type_system_spec.specs.Types.{Usage, mailbox_type, PatternFits, DropsAs, PassesTo}
use Rattle.pat_type_system_spec.specs.Holdings.{Holding, receives_by, receives, receivers, SendsBy, Sends, Choice, Balanced}
use Rattle.pat_semantics_laws.proofs.Lists.{nil_parts, only_first}

-- ---- lists of at most one element

single_front : {A : Type 0} (e : A) (xs ys zs : List A) → xs ++ (ys ++ zs) ≡ e ∷ [] → ys ++ (xs ++ zs) ≡ e ∷ []
single_front e [] ys zs h = h
single_front e (x ∷ xs) ys zs h =
    let o = only_first x e (xs ++ (ys ++ zs)) h in
    let p = nil_parts xs (ys ++ zs) o.1 in
    let q = nil_parts ys zs p.1 in
    ap (λ l. l ++ (x ∷ (xs ++ zs))) q.0 ∙ ap (λ l. x ∷ (l ++ zs)) p.0 ∙ ap (λ l. x ∷ l) q.1 ∙ ap (λ a. a ∷ []) o.0

single_back : {A : Type 0} (e : A) (xs ys zs : List A) → ys ++ (xs ++ zs) ≡ e ∷ [] → xs ++ (ys ++ zs) ≡ e ∷ []
single_back e xs ys zs h = single_front e ys xs zs h

-- ---- receivers and choices of joined lists

pub receivers-append : (hs ks : List Holding) → receivers (hs ++ ks) ≡ receivers hs ++ receivers ks
receivers-append [] ks = refl
receivers-append (h ∷ hs) ks =
    ap (λ l. receives h ++ l) (receivers-append hs ks) ∙ sym (append_assoc (receives h) (receivers hs) (receivers ks))

-- a choice from joined lists is one from each
pub choice_parts : (hs ks : List Holding) (w : Word) → Choice (hs ++ ks) w → (u v : Word) × Choice hs u × Choice ks v × (w ≡ plus u v)
choice_parts [] ks w c = (no_word, w, refl, c, sym (none_plus w))
choice_parts (h ∷ hs) ks w c =
    let r = choice_parts hs ks c.1 c.3 in
    (plus c.0 r.0, r.1, (c.0, r.0, c.2, r.2, refl), r.3, c.4 ∙ ap (λ (x : Word). plus c.0 x) r.4 ∙ sym (plus_assoc c.0 r.0 r.1))

pub choice_join : (hs ks : List Holding) (u v : Word) → Choice hs u → Choice ks v → Choice (hs ++ ks) (plus u v)
choice_join [] ks u v c d = subst (Choice ks) (sym (ap (λ (x : Word). plus x v) c ∙ none_plus v)) d
choice_join (h ∷ hs) ks u v c d =
    (c.0, plus c.1 v, c.2, choice_join hs ks c.1 v c.3 d, ap (λ (x : Word). plus x v) c.4 ∙ plus_assoc c.0 c.1 v)

-- ---- one holding goes to the front, or back to its place

choice_front : (hs : List Holding) (h : Holding) (ks : List Holding) (w : Word) → Choice (hs ++ h ∷ ks) w → Choice (h ∷ (hs ++ ks)) w
choice_front [] h ks w c = c
choice_front (x ∷ hs) h ks w c =
    let r = choice_front hs h ks c.1 c.3 in
    (r.0, plus c.0 r.1, r.2, (c.0, r.1, c.2, r.3, refl), c.4 ∙ ap (λ (y : Word). plus c.0 y) r.4 ∙ plus_swap c.0 r.0 r.1)

choice_back : (hs : List Holding) (h : Holding) (ks : List Holding) (w : Word) → Choice (h ∷ (hs ++ ks)) w → Choice (hs ++ h ∷ ks) w
choice_back [] h ks w c = c
choice_back (x ∷ hs) h ks w c =
    let d = c.3 in (
      d.0,
      plus c.0 d.1,
      d.2,
      choice_back hs h ks (plus c.0 d.1) (c.0, d.1, c.2, d.3, refl),
      c.4 ∙ ap (λ (y : Word). plus c.0 y) d.4 ∙ plus_swap c.0 d.0 d.1,
    )

receivers_front : (e : Pat) (hs : List Holding) (h : Holding) (ks : List Holding) → receivers (hs ++ h ∷ ks) ≡ e ∷ [] → receivers (h ∷ (hs ++ ks)) ≡ e ∷ []
receivers_front e hs h ks r =
    ap (λ l. receives h ++ l) (receivers-append hs ks)
    ∙ single_front e (receivers hs) (receives h) (receivers ks) (sym (receivers-append hs (h ∷ ks)) ∙ r)

receivers_back : (e : Pat) (hs : List Holding) (h : Holding) (ks : List Holding) → receivers (h ∷ (hs ++ ks)) ≡ e ∷ [] → receivers (hs ++ h ∷ ks) ≡ e ∷ []
receivers_back e hs h ks r =
    receivers-append hs (h ∷ ks)
    ∙ single_back e (receivers hs) (receives h) (receivers ks) (sym (ap (λ l. receives h ++ l) (receivers-append hs ks)) ∙ r)

pub balance_front : (hs : List Holding) (h : Holding) (ks : List Holding) (r : Word) → Balanced (hs ++ h ∷ ks) r → Balanced (h ∷ (hs ++ ks)) r
balance_front hs h ks r b = record {
  pattern = b.pattern;
  one_receiver = receivers_front b.pattern hs h ks b.one_receiver;
  fits = λ w c. b.fits w (choice_back hs h ks w c);
}

pub balance_back : (hs : List Holding) (h : Holding) (ks : List Holding) (r : Word) → Balanced (h ∷ (hs ++ ks)) r → Balanced (hs ++ h ∷ ks) r
balance_back hs h ks r b = record {
  pattern = b.pattern;
  one_receiver = receivers_back b.pattern hs h ks b.one_receiver;
  fits = λ w c. b.fits w (choice_front hs h ks w c);
}

-- ---- a list of holdings with what is pending is replaced by another

-- the new holdings, with the new pending word, ask no more of the others than the old ones did
pub data Refines (old : List Holding) (r : Word) (new : List Holding) (s : Word) : Type 0 where
  -- none of them receives: each choice of the new ones is, with what is pending, one of the old ones
  quiet : receivers old ≡ [] → receivers new ≡ [] → ((u : Word) → Choice new u → (z : Word) × Choice old z × (plus s u ≡ plus r z)) → Refines old r new s
  -- one of the old and one of the new ones receives, whatever word v the others send
  active : (e f : Pat) → receivers old ≡ e ∷ [] → receivers new ≡ f ∷ [] → ((v : Word) → ((z : Word) → Choice old z → In e (plus (plus r z) v)) → (u : Word) → Choice new u → In f (plus (plus s u) v)) → Refines old r new s

pub refine_balance : (old new ks : List Holding) (r s : Word) → Refines old r new s → Balanced (old ++ ks) r → Balanced (new ++ ks) s
refine_balance old new ks r s (quiet none_old none_new choose) b =
    let same : receivers (new ++ ks) ≡ receivers (old ++ ks) =
    receivers-append new ks ∙ ap (λ l. l ++ receivers ks) none_new ∙ sym (ap (λ l. l ++ receivers ks) none_old) ∙ sym (receivers-append old ks) in
    record {
      pattern = b.pattern;
      one_receiver = same ∙ b.one_receiver;
      fits = λ w c.
          let p = choice_parts new ks w c in
          let z = choose p.0 p.2 in
          let e : plus s w ≡ plus r (plus z.0 p.1) =
          ap (λ (x : Word). plus s x) p.4 ∙ sym (plus_assoc s p.0 p.1) ∙ ap (λ (x : Word). plus x p.1) z.2 ∙ plus_assoc r z.0 p.1 in
          subst (In b.pattern) (sym e) (b.fits (plus z.0 p.1) (choice_join old ks z.0 p.1 z.1 p.3));
    }
refine_balance old new ks r s (active e f one_old one_new choose) b =
    let whole : e ∷ receivers ks ≡ b.pattern ∷ [] =
    sym (ap (λ l. l ++ receivers ks) one_old) ∙ sym (receivers-append old ks) ∙ b.one_receiver in
    let o = only_first e b.pattern (receivers ks) whole in
    record {
      pattern = f;
      one_receiver = receivers-append new ks ∙ ap (λ l. l ++ receivers ks) one_new ∙ ap (λ l. f ∷ l) o.1;
      fits = λ w c.
          let p = choice_parts new ks w c in
          let old_fits : (z : Word) → Choice old z → In e (plus (plus r z) p.1) =
          λ z d. subst (In e) (sym (plus_assoc r z p.1)) (subst (λ (q : Pat). In q (plus r (plus z p.1))) (sym o.0) (b.fits (plus z p.1) (choice_join old ks z p.1 d p.3))) in
          let e1 : plus s w ≡ plus (plus s p.0) p.1 = ap (λ (x : Word). plus s x) p.4 ∙ sym (plus_assoc s p.0 p.1) in
          subst (In f) (sym e1) (choose p.1 old_fits p.0 p.2);
    }

-- ---- one holding passes to another

-- a choice from one holding
pub choice_one : (h : Holding) (w : Word) → Sends h w → Choice (h ∷ []) w
choice_one h w s = (w, no_word, s, refl, sym (plus_none w))

pub choice_of_one : (h : Holding) (w : Word) → Choice (h ∷ []) w → Sends h w
choice_of_one h w c = subst (Sends h) (sym (c.4 ∙ ap (λ (x : Word). plus c.0 x) c.3 ∙ plus_none c.0)) c.2

-- what may be dropped doesn't receive, and need send nothing
pub drops_quiet : (q : Polarity) (e : Pat) → DropsAs q e → (receives_by q e ≡ []) × SendsBy q e no_word
drops_quiet Sending e h = (refl, h)
drops_quiet Receiving e h = absurd h

fits_refine : (i j : ℕ) (u v : Usage) (q p : Polarity) (e f : Pat) (r : Word) → q ≡ p → PatternFits p e f → Refines (Some (mailbox_type i q e u) ∷ []) r (Some (mailbox_type j p f v) ∷ []) r
fits_refine i j u v Sending Sending e f r same h =
    quiet refl refl (λ w c. (w, choice_one (Some (mailbox_type i Sending e u)) w (h w (choice_of_one (Some (mailbox_type j Sending f v)) w c)), refl))
fits_refine i j u v Receiving Receiving e f r same h =
    active e f refl refl
    (λ x old w c.
    let n : w ≡ no_word = choice_of_one (Some (mailbox_type j Receiving f v)) w c in
    h (plus (plus r w) x) (old w (choice_one (Some (mailbox_type i Receiving e u)) w n)))
fits_refine i j u v Sending Receiving e f r same h = cc
fits_refine i j u v Receiving Sending e f r same h = cc

pub passes_refine : (h k : Holding) (r : Word) → PassesTo h k → Refines (h ∷ []) r (k ∷ []) r
passes_refine None None r p = quiet refl refl (λ w c. (w, c, refl))
passes_refine None (Some b) r p = absurd p
passes_refine (Some a) None r p =
    let d = drops_quiet a.polarity a.pattern p in
    quiet (ap (λ l. l ++ []) d.0) refl
    (λ w c. let n : w ≡ no_word = choice_of_one None w c in
    (no_word, choice_one (Some a) no_word d.1, ap (λ (x : Word). plus r x) n))
passes_refine (Some a) (Some b) r p =
    fits_refine a.interface b.interface a.usage b.usage a.polarity b.polarity a.pattern b.pattern r p.polarity p.pattern

-- ---- a holding that may be dropped, and one of nothing

-- a holding that may be dropped is dropped
pub drop_refine : (h : Holding) (r : Word) → PassesTo h None → Refines (h ∷ []) r [] r
drop_refine None r p = quiet refl refl (λ w c. (w, choice_one None w c, refl))
drop_refine (Some a) r p =
    let d = drops_quiet a.polarity a.pattern p in
    quiet (ap (λ l. l ++ []) d.0) refl (λ w c. (no_word, choice_one (Some a) no_word d.1, ap (λ (x : Word). plus r x) c))

-- the second of two holdings may be dropped
pub drop_second : (h k : Holding) (ks : List Holding) (r : Word) → PassesTo k None → Balanced (h ∷ k ∷ ks) r → Balanced (h ∷ ks) r
drop_second h k ks r p b =
    refine_balance (k ∷ []) [] (h ∷ ks) r r (drop_refine k r p) (balance_front (h ∷ []) k ks r b)

pub drop_first : (h : Holding) (ks : List Holding) (r : Word) → PassesTo h None → Balanced (h ∷ ks) r → Balanced ks r
drop_first h ks r p b = refine_balance (h ∷ []) [] ks r r (drop_refine h r p) b

-- a place that holds nothing is added
pub nothing_more : (r : Word) → Refines [] r (None ∷ []) r
nothing_more r = quiet refl refl (λ w c. (w, Rattle.pat_safety_laws.proofs.Balance.choice_of_one None w c, refl))

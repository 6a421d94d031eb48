-- Balances, mailbox by mailbox.
use Rattle.std.proofs.Common.{◌≡◌, ℕ, zero, suc, ◌+◌, ◌<◌, ◌≤◌, Bool, true, false, ◌&&◌, not, nat_eq, List, [], ◌∷◌, ◌++◌, length, map, drop, Option, Some, refl, sym, ap, ◌∙◌, subst, arith, get_or, slice_get, ⊎_elim}
use Rattle.std.specs.Prelude.{IsTrue, unwrap_or, nat_le}
use Rattle.std.specs.List.{list_all}
use Rattle.std.proofs.lemmas.Bool.{and_parts, or_cases}
use Rattle.std.proofs.lemmas.List.{length-map, drop_all}
use Rattle.std.proofs.lemmas.Option.{slice_get-get_or}
use Rattle.pat_words_spec.specs.Patterns.{Pat}
use Rattle.pat_semantics_spec.specs.Programs.{Program}
use Rattle.pat_semantics_spec.specs.WellFormed.{WellFormed}
use Rattle.pat_inclusion_spec.specs.Values.{Scope, is_formed, values_fit}
use Rattle.pat_inclusion_spec.specs.Certificates.{Cert, Inclusion, is_shown, shows}
use Rattle.pat_type_system_spec.specs.Types.{kind_of_type}
use Rattle.pat_type_system_spec.specs.Holdings.{receivers}
use Rattle.pat_type_schemes_spec.specs.Signatures.{signature_vars}
use Rattle.pat_derivation_spec.specs.Same.{is_same_kind}
use Rattle.pat_derivation_spec.specs.Derivations.{Derivation, ascends_from, scope_of, written_typing}
use Rattle.pat_derivation_spec.specs.Rules.{has_values, starts_well, is_named_well, type_is_formed, tails_agree, first_agrees}
use Rattle.pat_derivation_spec.specs.Truth.{place}
use Rattle.pat_derivation_spec.specs.Validity.{IsValid}
use Rattle.pat_derivation_laws.specs.Laws.{ValidHolds}
use Rattle.pat_patterns.specs.declared.pattern.Pattern.{Pattern}
use Rattle.pat_patterns.specs.Views.{patterns_view}
use Rattle.pat_checkpoint_spec.specs.Checkpoints.{Checkpoint, interfaces_of}
use Rattle.pat_checkpoint_spec.specs.Numbers.{ascends}
use Rattle.pat_checkpoint_spec.specs.Kinds.{kinds_fit}
use Rattle.pat_checkpoint_spec.specs.Mailboxes.{mailboxes_differ, messages_hold}
use Rattle.pat_checkpoint_spec.specs.HoldingsInOrder.{lines_held}
use Rattle.pat_checkpoint_spec.specs.Balances.{product_of, pending_tags, senders, first_or_zero, balance_left, balance_right, balance_needs, balances_shown, balances_hold}
use Rattle.pat_checkpoint_laws.specs.Laws.{SidesFormed}
use Rattle.pat_checkpoint_balances.specs.Gathered.{rows_view, IsGathered, shown_from}
use Rattle.pat_checkpoint_balances.specs.declared.gathering.Sides.{Sides}
use Rattle.pat_checkpoint_balances.proofs.Halves.{interface_there}

-- ---- the values of a valid derivation

first_there : {A : Type 0} (xs : List A) (k : ℕ) (a : A) → slice_get xs k ≡ Some a → (b : A) × (slice_get xs 0 ≡ Some b)
first_there [] zero a h = cc
first_there [] (suc k) a h = cc
first_there (x ∷ xs) k a h = (x, refl)

pub values_there : (p : Program) (d : Derivation) → ValidHolds → WellFormed p → IsValid p d → IsTrue (values_fit (scope_of p d))
values_there p d holds w v =
    let main = w.main in
    let body = (w.functions p.main main.0 main.1).body in
    let start = first_there p.nodes main.0.body body.0 body.1 in
    let at = holds p d w v 0 start.0 start.1 in
    let l = at.line in
    let k = place 0 start.0 at.function l in
    let b1 = is_same_kind (kind_of_type l.of.result) start.0.kind in
    let b2 = ascends_from 0 l.of.needs in
    let b3 = list_all (is_named_well p d 0) l.of.needs in
    let b4 = type_is_formed (scope_of p d) l.of.result in
    let b5 = tails_agree d l.of.result start.0.core in
    let b6 = first_agrees p d k in
    let b7 = starts_well p d 0 in
    let a1 = and_parts b1 (b2 && (b3 && (b4 && (b5 && (b6 && b7))))) at.shape in
    let a2 = and_parts b2 (b3 && (b4 && (b5 && (b6 && b7)))) a1.1 in
    let a3 = and_parts b3 (b4 && (b5 && (b6 && b7))) a2.1 in
    let a4 = and_parts b4 (b5 && (b6 && b7)) a3.1 in
    let a5 = and_parts b5 (b6 && b7) a4.1 in
    let a6 = and_parts b6 b7 a5.1 in
    let fit : has_values p d ≡ true = ⊎_elim (λ z. cc) (λ y. y) (or_cases (not (nat_eq 0 0)) (has_values p d) a6.1) in
    (and_parts (nat_le (length (signature_vars p)) (length d.vars)) (values_fit (scope_of p d)) fit).1

-- ---- rows

drop_at : {A : Type 0} (xs : List A) (n : ℕ) (x : A) → slice_get xs n ≡ Some x → drop n xs ≡ x ∷ drop (suc n) xs
drop_at [] zero x h = cc
drop_at [] (suc n) x h = cc
drop_at (y ∷ ys) zero x h = let same : y ≡ x = cc in ap (λ z. z ∷ ys) same
drop_at (y ∷ ys) (suc n) x h = drop_at ys n x h

row_at : (rows : List (List Pattern)) (f : ℕ → List Pat) (live : List ℕ) (k : ℕ) (r : List Pattern) → rows_view rows ≡ map f live → slice_get rows k ≡ Some r → (a : ℕ) × (slice_get live k ≡ Some a) × (patterns_view r ≡ f a)
row_at [] f live zero r h at = cc
row_at [] f live (suc k) r h at = cc
row_at (q ∷ qs) f [] k r h at = cc
row_at (q ∷ qs) f (a ∷ more) zero r h at =
    let same : q ≡ r = cc in let first : patterns_view q ≡ f a = cc in (a, refl, ap patterns_view (sym same) ∙ first)
row_at (q ∷ qs) f (a ∷ more) (suc k) r h at = let rest : rows_view qs ≡ map f more = cc in row_at qs f more k r rest at

row_is : (rows : List (List Pattern)) (f : ℕ → List Pat) (live : List ℕ) (k a : ℕ) (r : List Pattern) → rows_view rows ≡ map f live → slice_get live k ≡ Some a → slice_get rows k ≡ Some r → patterns_view r ≡ f a
row_is rows f live k a r h there at =
    let q = row_at rows f live k r h at in
    let same : q.0 ≡ a = (let both : Some q.0 ≡ Some a = sym q.1 ∙ there in cc) in
    q.2 ∙ ap f same

-- what stands at a place of a list that is lent
pub item_at : {A : Type 0} (xs ys : List A) (k : ℕ) (r : A) → xs ≡ ys → k < length ys → r ≡ get_or xs k r → slice_get ys k ≡ Some r
item_at xs ys k r same less at = slice_get-get_or ys k r less ∙ ap Some (ap (λ l. get_or l k r) (sym same) ∙ sym at)

pub number_at : (xs ys : List ℕ) (k : ℕ) → xs ≡ ys → k < length ys → slice_get ys k ≡ Some (get_or xs k 0)
number_at xs ys k same less = slice_get-get_or ys k 0 less ∙ ap (λ l. Some (get_or l k 0)) (sym same)

-- ---- lists of other lengths

not_shown : (s : Scope) (needs : ℕ → Inclusion) (live is : List ℕ) (ks : List (Option Cert)) → (length is ≡ length live → length ks ≡ length live → ⊥) → balances_shown s needs live is ks ≡ false
not_shown s needs [] [] [] h = absurd (h refl refl)
not_shown s needs [] [] (k ∷ ks) h = refl
not_shown s needs [] (i ∷ is) ks h = refl
not_shown s needs (a ∷ more) [] ks h = refl
not_shown s needs (a ∷ more) (i ∷ is) [] h = refl
not_shown s needs (a ∷ more) (i ∷ is) (k ∷ ks) h =
    ap (λ b. is_shown s (needs a) k && b) (not_shown s needs more is ks (λ e f. h (ap suc e) (ap suc f))) ∙ and_false (is_shown s (needs a) k)
  where
    and_false : (b : Bool) → (b && false) ≡ false
    and_false true = refl
    and_false false = refl

-- ---- one mailbox

formed_shown : (s : Scope) (i j : ℕ) (e f g h : Pat) (k : Option Cert) → i ≡ j → e ≡ g → f ≡ h → IsTrue (is_formed s i e) → IsTrue (is_formed s i f) → is_shown s (record { interface = Some i; left = e; right = f }) k ≡ shows s j g h k
formed_shown s i j e f g h k same left right formed_left formed_right =
    ap (λ b. b && is_formed s i f && shows s i e f k) formed_left
    ∙ ap (λ b. b && shows s i e f k) formed_right
    ∙ ap (λ n. shows s n e f k) same ∙ ap (λ l. shows s j l f k) left ∙ ap (λ r. shows s j g r k) right

module _ (p : Program) (d : Derivation) (x : Checkpoint) where
  pub record AtPlace (k i : ℕ) (row receivers : List Pattern) (cert : Option Cert) : Type 0 where
    pub left : IsTrue (is_formed (scope_of p d) i (product_of (patterns_view row)))
    pub right : IsTrue (is_formed (scope_of p d) i (first_or_zero (patterns_view receivers)))
    pub turns : shown_from p d x k ≡ (shows (scope_of p d) i (product_of (patterns_view row)) (first_or_zero (patterns_view receivers)) cert && shown_from p d x (suc k))

  pub at_place : (k i : ℕ) (s : Sides) (row held : List Pattern) (cert : Option Cert) → SidesFormed → WellFormed p → IsValid p d → IsTrue (kinds_fit p d x) → IsTrue (mailboxes_differ x.config) → IsTrue (messages_hold p x) → ascends 0 x.config.live ≡ true → IsGathered p d x s → slice_get s.coming k ≡ Some row → slice_get s.receivers k ≡ Some held → slice_get x.interfaces k ≡ Some i → slice_get x.mailbox_certs k ≡ Some cert → AtPlace k i row held cert
  at_place k i s row held cert law w v kinds differ messages up g left_at right_at interface_at cert_at =
      let y = written_typing p d in
      let lefts = λ (a : ℕ). pending_tags a x.config.messages ++ senders (lines_held p y (interfaces_of x) x.config a) in
      let q = row_at s.coming lefts x.config.live k row g.left left_at in
      let a = q.0 in
      let left_is : product_of (patterns_view row) ≡ balance_left p y (interfaces_of x) x.config a = ap product_of q.2 in
      let right_is : first_or_zero (patterns_view held) ≡ balance_right p y (interfaces_of x) x.config a =
      ap first_or_zero (row_is s.receivers (λ a. receivers (lines_held p y (interfaces_of x) x.config a)) x.config.live k a held g.right q.1 right_at) in
      let interface_is : i ≡ interfaces_of x a = sym (ap (λ o. unwrap_or o 0) interface_at) ∙ interface_there 0 x.config.live x.interfaces k a up q.1 in
      let formed = law p d x a w v kinds differ messages in
      let needs = balance_needs p y (interfaces_of x) x.config in
      let S = scope_of p d in
      record {
        left = subst (λ j. IsTrue (is_formed S j (product_of (patterns_view row)))) (sym interface_is) (subst (λ e. IsTrue (is_formed S (interfaces_of x a) e)) (sym left_is) formed.0);
        right = subst (λ j. IsTrue (is_formed S j (first_or_zero (patterns_view held)))) (sym interface_is) (subst (λ e. IsTrue (is_formed S (interfaces_of x a) e)) (sym right_is) formed.1);
        turns =
            ap (λ l. balances_shown S needs l (drop k x.interfaces) (drop k x.mailbox_certs)) (drop_at x.config.live k a q.1)
            ∙ ap (λ l. balances_shown S needs (a ∷ drop (suc k) x.config.live) l (drop k x.mailbox_certs)) (drop_at x.interfaces k i interface_at)
            ∙ ap (λ l. balances_shown S needs (a ∷ drop (suc k) x.config.live) (i ∷ drop (suc k) x.interfaces) l) (drop_at x.mailbox_certs k cert cert_at)
            ∙ ap (λ b. b && shown_from p d x (suc k)) (formed_shown S (interfaces_of x a) i (needs a).left (needs a).right (product_of (patterns_view row)) (first_or_zero (patterns_view held)) cert (sym interface_is) (sym left_is) (sym right_is) formed.0 formed.1);
      }

  pub receivers_counted : (s : Sides) → IsGathered p d x s → length s.receivers ≡ length x.config.live
  receivers_counted s g =
      sym (length-map s.receivers patterns_view) ∙ ap length g.right
      ∙ length-map x.config.live (λ a. receivers (lines_held p (written_typing p d) (interfaces_of x) x.config a))

  pub rows_counted : (s : Sides) → IsGathered p d x s → length s.coming ≡ length x.config.live
  rows_counted s g =
      sym (length-map s.coming patterns_view) ∙ ap length g.left
      ∙ length-map x.config.live (λ a. pending_tags a x.config.messages ++ senders (lines_held p (written_typing p d) (interfaces_of x) x.config a))

  pub unequal : (s : Sides) → IsGathered p d x s → (length x.interfaces ≡ length s.coming → length x.mailbox_certs ≡ length s.coming → ⊥) → balances_hold p d x ≡ false
  unequal s g h =
      not_shown (scope_of p d) (balance_needs p (written_typing p d) (interfaces_of x) x.config) x.config.live x.interfaces x.mailbox_certs (λ e f.
      let counted = rows_counted s g in
      h (e ∙ sym counted) (f ∙ sym counted))

  pub shown_end : (k : ℕ) (s : Sides) → IsGathered p d x s → length x.interfaces ≡ length s.coming → length x.mailbox_certs ≡ length s.coming → length s.coming ≤ k → shown_from p d x k ≡ true
  shown_end k s g e f past =
      let S = scope_of p d in
      let needs = balance_needs p (written_typing p d) (interfaces_of x) x.config in
      let counted = rows_counted s g in
      ap (λ l. balances_shown S needs l (drop k x.interfaces) (drop k x.mailbox_certs)) (drop_all k x.config.live (omega arith))
      ∙ ap (λ l. balances_shown S needs [] l (drop k x.mailbox_certs)) (drop_all k x.interfaces (omega arith))
      ∙ ap (λ l. balances_shown S needs [] [] l) (drop_all k x.mailbox_certs (omega arith))

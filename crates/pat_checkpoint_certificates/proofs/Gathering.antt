-- The balance of the mailbox at a place, by the sides that are gathered, and certificates for one balance more.
use Rattle.std.proofs.Common.{◌≡◌, ℕ, zero, suc, ◌+◌, ◌<◌, true, List, [], ◌∷◌, ◌++◌, length, map, Option, Some, sym, ap, ◌∙◌, subst, take, drop, arith}
use Rattle.std.specs.Prelude.{slice_get, get_or}
use Rattle.std.specs.List.{AllByRecursion}
use Rattle.std.proofs.lemmas.List.{length-map}
use Rattle.pat_words_spec.specs.Patterns.{Pat}
use Rattle.pat_semantics_spec.specs.Programs.{Program}
use Rattle.pat_semantics_laws.proofs.Lists.{all_snoc, map-append}
use Rattle.pat_inclusion_spec.specs.Values.{Scope, is_formed}
use Rattle.pat_inclusion_spec.specs.Certificates.{Inclusion}
use Rattle.pat_type_system_spec.specs.Holdings.{receivers}
use Rattle.pat_derivation_spec.specs.Derivations.{Derivation, written_typing}
use Rattle.pat_derivation_spec.specs.Demands.{inclusion}
use Rattle.pat_patterns.specs.declared.pattern.Pattern.{Pattern}
use Rattle.pat_patterns.specs.Views.{patterns_view}
use Rattle.pat_derivations.specs.declared.data.Cert.{Cert as CodeCert}
use Rattle.pat_checkpoint_spec.specs.Checkpoints.{Checkpoint, interfaces_of}
use Rattle.pat_checkpoint_spec.specs.HoldingsInOrder.{lines_held}
use Rattle.pat_checkpoint_spec.specs.Balances.{product_of, pending_tags, senders, first_or_zero, balance_left, balance_right, balance_needs}
use Rattle.pat_checkpoint_spec.specs.Written.{CanBeShown, IsFormedNeed, each_certified}
use Rattle.pat_checkpoint_laws.proofs.LineCerts.{join, one}
use Rattle.pat_checkpoint_data.specs.Views.{end_view}
use Rattle.pat_checkpoint_balances.specs.Gathered.{rows_view, IsGathered}
use Rattle.pat_checkpoint_balances.specs.declared.gathering.Sides.{Sides}
use Rattle.pat_checkpoint_certificates.specs.Certified.{IsLine}
use Rattle.pat_checkpoint_certificates.specs.Found.{IsShownBy, AreFound, IsUnshownFrom}
use Rattle.pat_checkpoint_certificates.specs.Balances.{balances_need}
use Rattle.pat_checkpoint_certificates.specs.declared.error.CertifyError.{CertifyError}
use Rattle.pat_checkpoint_certificates.proofs.Lists.{split, take_one, take_long}
use Rattle.pat_checkpoint_certificates.proofs.Turns.{read_at}
use Rattle.pat_checkpoint_certificates.proofs.Errors.{unshown_here}

some_same : {A : Type 0} (x y : A) → Some x ≡ Some y → x ≡ y
some_same x y h = cc

pub same_number : (xs : List ℕ) (k a b : ℕ) → slice_get xs k ≡ Some a → slice_get xs k ≡ Some b → a ≡ b
same_number xs k a b h at = some_same a b (sym h ∙ at)

row_is : (rows : List (List Pattern)) (f : ℕ → List Pat) (live : List ℕ) (k a : ℕ) (r : List Pattern) → rows_view rows ≡ map f live → slice_get live k ≡ Some a → slice_get rows k ≡ Some r → patterns_view r ≡ f a
row_is [] f live k a r h there at = cc
row_is (q ∷ qs) f [] k a r h there at = cc
row_is (q ∷ qs) f (b ∷ more) zero a r h there at =
    let same : q ≡ r = cc in let own : b ≡ a = cc in let first : patterns_view q ≡ f b = cc in ap patterns_view (sym same) ∙ first ∙ ap f own
row_is (q ∷ qs) f (b ∷ more) (suc k) a r h there at = let rest : rows_view qs ≡ map f more = cc in row_is qs f more k a r rest there at

below_length : {A : Type 0} (xs : List A) (k : ℕ) (x : A) → slice_get xs k ≡ Some x → k < length xs
below_length [] k x h = cc
below_length (z ∷ zs) zero x h = omega arith
below_length (z ∷ zs) (suc k) x h = let r = below_length zs k x h in omega (arith, r)

-- what indexing a list that is lent reads is there
pub read_in : {A : Type 0} (xs ys : List A) (k : ℕ) (d : A) → xs ≡ ys → k < length ys → d ≡ get_or xs k d → slice_get ys k ≡ Some d
read_in xs ys k d same below is = read_at ys k d below (is ∙ ap (λ l. get_or l k d) same)

module _ (p : Program) (d : Derivation) (x : Checkpoint) where
  abbrev need : ℕ → Inclusion
  need a = balance_needs p (written_typing p d) (interfaces_of x) x.config a

  pub left_at : (s : Sides) (k a : ℕ) (row : List Pattern) → IsGathered p d x s → slice_get x.config.live k ≡ Some a → slice_get s.coming k ≡ Some row → product_of (patterns_view row) ≡ balance_left p (written_typing p d) (interfaces_of x) x.config a
  left_at s k a row g there at =
      ap product_of (row_is s.coming (λ b. pending_tags b x.config.messages ++ senders (lines_held p (written_typing p d) (interfaces_of x) x.config b)) x.config.live k a row g.left there at)

  pub right_at : (s : Sides) (k a : ℕ) (row : List Pattern) → IsGathered p d x s → slice_get x.config.live k ≡ Some a → slice_get s.receivers k ≡ Some row → first_or_zero (patterns_view row) ≡ balance_right p (written_typing p d) (interfaces_of x) x.config a
  right_at s k a row g there at =
      ap first_or_zero (row_is s.receivers (λ b. receivers (lines_held p (written_typing p d) (interfaces_of x) x.config b)) x.config.live k a row g.right there at)

  pub coming_below : (s : Sides) (k a : ℕ) → IsGathered p d x s → slice_get x.config.live k ≡ Some a → k < length s.coming
  coming_below s k a g there =
      let own = below_length x.config.live k a there in
      let count : length s.coming ≡ length x.config.live =
      sym (length-map s.coming patterns_view) ∙ ap length g.left
      ∙ length-map x.config.live (λ b. pending_tags b x.config.messages ++ senders (lines_held p (written_typing p d) (interfaces_of x) x.config b)) in
      omega (arith, own, count)

  pub receivers_below : (s : Sides) (k a : ℕ) → IsGathered p d x s → slice_get x.config.live k ≡ Some a → k < length s.receivers
  receivers_below s k a g there =
      let own = below_length x.config.live k a there in
      let count : length s.receivers ≡ length x.config.live =
      sym (length-map s.receivers patterns_view) ∙ ap length g.right
      ∙ length-map x.config.live (λ b. receivers (lines_held p (written_typing p d) (interfaces_of x) x.config b)) in
      omega (arith, own, count)

  pub needed_is : (i a : ℕ) (e f : Pat) → i ≡ interfaces_of x a → e ≡ balance_left p (written_typing p d) (interfaces_of x) x.config a → f ≡ balance_right p (written_typing p d) (interfaces_of x) x.config a → inclusion (Some i) e f ≡ need a
  needed_is i a e f own left right =
      ap (λ n. inclusion (Some n) e f) own
      ∙ ap (λ g. inclusion (Some (interfaces_of x a)) g f) left
      ∙ ap (λ g. inclusion (Some (interfaces_of x a)) (balance_left p (written_typing p d) (interfaces_of x) x.config a) g) right

  -- both sides of what is needed are formed
  pub needed_formed : (s : Scope) (i a : ℕ) (e f : Pat) → i ≡ interfaces_of x a → e ≡ balance_left p (written_typing p d) (interfaces_of x) x.config a → f ≡ balance_right p (written_typing p d) (interfaces_of x) x.config a → IsFormedNeed s (Some (need a)) → (is_formed s i e ≡ true) × (is_formed s i f ≡ true)
  needed_formed s i a e f own left right h =
      let same : h.0 ≡ i = some_same h.0 i (sym h.1 ∙ ap (λ (n : ℕ). Some n) (sym own)) in (
        subst (λ g. is_formed s i g ≡ true) (sym left) (subst (λ n. is_formed s n (need a).left ≡ true) same h.2),
        subst (λ g. is_formed s i g ≡ true) (sym right) (subst (λ n. is_formed s n (need a).right ≡ true) same h.3),
      )

  formed_in : (s : Scope) (live : List ℕ) (k a : ℕ) → slice_get live k ≡ Some a → AllByRecursion (IsFormedNeed s) (balances_need p d x live) → IsFormedNeed s (Some (need a))
  formed_in s [] k a at h = cc
  formed_in s (b ∷ more) zero a at h = let same : b ≡ a = cc in subst (λ n. IsFormedNeed s (Some (need n))) same h.0
  formed_in s (b ∷ more) (suc k) a at h = formed_in s more k a at h.1

  pub balance_formed : (s : Scope) (live : List ℕ) (k a : ℕ) → slice_get live k ≡ Some a → AllByRecursion (IsFormedNeed s) (balances_need p d x live) → IsFormedNeed s (Some (need a))
  balance_formed s live k a at h = formed_in s live k a at h

  next_needs : (live : List ℕ) (k a : ℕ) → slice_get live k ≡ Some a → balances_need p d x (take (k + 1) live) ≡ balances_need p d x (take k live) ++ Some (need a) ∷ []
  next_needs live k a at =
      let one_more : k + 1 ≡ suc k = omega arith in
      ap (λ n. balances_need p d x (take n live)) one_more ∙ ap (λ l. balances_need p d x l) (take_one live k a at) ∙ map-append (λ b. Some (need b)) (take k live) (a ∷ [])

  -- the certificates of one balance more show what they need
  pub balance_more : (s : Scope) (bound : ℕ → Option ℕ) (live : List ℕ) (k a : ℕ) (certs : List (Option CodeCert)) (cert : Option CodeCert) → slice_get live k ≡ Some a → IsShownBy s bound (Some (need a)) (end_view cert) → AreFound s bound (each_certified s (balances_need p d x (take k live)) (map end_view certs)) (balances_need p d x (take k live)) → AreFound s bound (each_certified s (balances_need p d x (take (k + 1) live)) (map end_view (certs ++ cert ∷ []))) (balances_need p d x (take (k + 1) live))
  balance_more s bound live k a certs cert at h f =
      let front = balances_need p d x (take k live) in
      subst (λ (l : List (Option Inclusion)). AreFound s bound (each_certified s l (map end_view (certs ++ cert ∷ []))) l) (sym (next_needs live k a at))
      (record {
        certified =
            subst (λ l. each_certified s (front ++ Some (need a) ∷ []) l ≡ true) (sym (map-append end_view certs (cert ∷ [])))
            (join s front (Some (need a) ∷ []) (map end_view certs) (end_view cert ∷ []) f.certified (one s (Some (need a)) (end_view cert) h.certified));
        showable = all_snoc (CanBeShown s bound) front (Some (need a)) f.showable h.showable;
      })

  -- where those before can be shown and the balance can't, its line is the first
  pub balance_unshown : (s : Scope) (bound : ℕ → Option ℕ) (live : List ℕ) (k a line : ℕ) (e : CertifyError) → slice_get live k ≡ Some a → AllByRecursion (CanBeShown s bound) (balances_need p d x (take k live)) → (CanBeShown s bound (Some (need a)) → ⊥) → IsLine (line + k) e → IsUnshownFrom s bound line (balances_need p d x live) e
  balance_unshown s bound live k a line e at before h is =
      let front = balances_need p d x (take k live) in
      let whole : balances_need p d x live ≡ front ++ Some (need a) ∷ balances_need p d x (drop (suc k) live) =
      ap (λ l. balances_need p d x l) (split live k a at) ∙ map-append (λ b. Some (need b)) (take k live) (a ∷ drop (suc k) live) in
      let count : length front ≡ k = length-map (take k live) (λ b. Some (need b)) ∙ take_long live k (let own = below_length live k a at in omega (arith, own)) in
      subst (λ l. IsUnshownFrom s bound line l e) (sym whole) (unshown_here s bound line front (Some (need a)) (balances_need p d x (drop (suc k) live)) k e count before h is)

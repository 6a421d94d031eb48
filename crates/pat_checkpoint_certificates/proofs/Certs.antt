-- Certificates of all lines, and the first line that can't be shown.
use Rattle.std.proofs.Common.{◌≡◌, ℕ, suc, ◌+◌, true, ◌&&◌, List, [], ◌∷◌, ◌++◌, length, map, Option, None, Some, refl, sym, subst, arith}
use Rattle.std.specs.Prelude.{nat_lt}
use Rattle.std.specs.List.{AllByRecursion, list_all}
use Rattle.std.specs.Map.{keys_of}
use Rattle.std.proofs.lemmas.Bool.{and_parts, and_from}
use Rattle.std.proofs.lemmas.List.{length-map}
use Rattle.pat_semantics_spec.specs.Programs.{Program}
use Rattle.pat_semantics_spec.specs.Configs.{Config}
use Rattle.pat_semantics_spec.specs.WellFormed.{WellFormed}
use Rattle.pat_inclusion_spec.specs.Values.{Scope}
use Rattle.pat_inclusion_spec.specs.Certificates.{Cert, Inclusion}
use Rattle.pat_type_system_spec.specs.Typed.{IsTyped}
use Rattle.pat_derivation_spec.specs.Derivations.{Derivation, scope_of, written_typing, typing_of}
use Rattle.pat_derivation_spec.specs.Validity.{IsValid}
use Rattle.pat_checkpoint_spec.specs.Checkpoints.{PartCerts, Checkpoint, interface_at, interfaces_of}
use Rattle.pat_checkpoint_spec.specs.Numbers.{ascends, thread_ascends, is_in_order, refers_to_live, numbers_hold}
use Rattle.pat_checkpoint_spec.specs.Kinds.{kinds_fit, parts_shown}
use Rattle.pat_checkpoint_spec.specs.Mailboxes.{mailboxes_differ, order_holds, holders_hold, messages_hold}
use Rattle.pat_checkpoint_spec.specs.Balances.{balance_needs, balances_hold}
use Rattle.pat_checkpoint_spec.specs.Written.{threads_need, lines_need, each_certified, CanBeShown, IsFormedNeed, NeedsFormed, IsFirstUnshown}
use Rattle.pat_checkpoint_spec.specs.Checked.{stands_typed}
use Rattle.pat_checkpoint_spec.specs.Resumed.{silent, silent_checkpoint}
use Rattle.pat_checkpoint_laws.specs.Laws.{LinesFormed, NoneIsBroken}
use Rattle.pat_checkpoint_laws.specs.resuming.Laws.{TypedCanBeWritten}
use Rattle.pat_checkpoint_laws.proofs.LineCerts.{to_balances}
use Rattle.pat_checkpoint_certificates.specs.Bounds.{bound_in}
use Rattle.pat_checkpoint_certificates.specs.Certified.{AllCanBeShown, IsCertified, IsUnshown}
use Rattle.pat_checkpoint_certificates.specs.Found.{IsUnshownFrom}
use Rattle.pat_checkpoint_certificates.specs.Balances.{balances_need, AreCertsOf}
use Rattle.pat_checkpoint_certificates.specs.declared.error.CertifyError.{CertifyError}
use Rattle.pat_checkpoint_certificates.specs.declared.error.CertifyError.TheVariants.{Unshown, NoMemory}
use Rattle.pat_checkpoint_certificates.proofs.Errors.{unshown_later, unshown_before}

all_left : {A : Type 0} (P : A → Type 0) (xs ys : List A) → AllByRecursion P (xs ++ ys) → AllByRecursion P xs
all_left P [] ys a = tt
all_left P (x ∷ xs) ys a = (a.0, all_left P xs ys a.1)

all_right : {A : Type 0} (P : A → Type 0) (xs ys : List A) → AllByRecursion P (xs ++ ys) → AllByRecursion P ys
all_right P [] ys a = a
all_right P (x ∷ xs) ys a = all_right P xs ys a.1

all_both : {A : Type 0} (P : A → Type 0) (xs ys : List A) → AllByRecursion P xs → AllByRecursion P ys → AllByRecursion P (xs ++ ys)
all_both P [] ys a b = b
all_both P (x ∷ xs) ys a b = (a.0, all_both P xs ys a.1 b)

nothing_shown : {A : Type 0} (s : Scope) (bound : ℕ → Option ℕ) (xs : List A) → AllByRecursion (CanBeShown s bound) (map (λ x. None) xs)
nothing_shown s bound [] = tt
nothing_shown s bound (x ∷ xs) = (tt, nothing_shown s bound xs)

pub live_ascends : (c : Config) → numbers_hold c ≡ true → ascends 0 c.live ≡ true
live_ascends c h =
    let order = (and_parts (is_in_order c) (refers_to_live c) h).0 in
    let k1 = ascends 0 (keys_of c.threads) in
    let k2 = ascends 0 (map (λ m. m.number) c.messages) in
    let k3 = ascends 0 c.live in
    let k4 = list_all (λ e. nat_lt e.0 c.next_thread) c.threads in
    let k5 = list_all (λ m. nat_lt m.number c.next_message) c.messages in
    let k6 = list_all (λ a. nat_lt a c.next_mailbox) c.live in
    let k7 = list_all (λ e. thread_ascends e.1) c.threads in
    let a1 = and_parts k1 (k2 && (k3 && (k4 && (k5 && (k6 && k7))))) order in
    let a2 = and_parts k2 (k3 && (k4 && (k5 && (k6 && k7)))) a1.1 in
    (and_parts k3 (k4 && (k5 && (k6 && k7))) a2.1).0

module _ (p : Program) (d : Derivation) (x : Checkpoint) where
  abbrev messages_need : List (Option Inclusion)
  messages_need = map (λ m. None) x.config.messages

  abbrev parts_need : List (Option Inclusion)
  parts_need = threads_need p (written_typing p d) x.config.threads

  -- ---- what stands typed

  pub numbers_stand : stands_typed p d x ≡ true → numbers_hold x.config ≡ true
  numbers_stand h =
      (and_parts (numbers_hold x.config) (kinds_fit p d x && (mailboxes_differ x.config && (order_holds p d x.config && (holders_hold p d x && messages_hold p x)))) h).0

  pub mailboxes_stand : stands_typed p d x ≡ true → mailboxes_differ x.config ≡ true
  mailboxes_stand h =
      let k1 = numbers_hold x.config in
      let k2 = kinds_fit p d x in
      let k3 = mailboxes_differ x.config in
      let rest = order_holds p d x.config && (holders_hold p d x && messages_hold p x) in
      let a1 = and_parts k1 (k2 && (k3 && rest)) h in
      let a2 = and_parts k2 (k3 && rest) a1.1 in
      (and_parts k3 rest a2.1).0

  pub balances_formed : LinesFormed → WellFormed p → IsValid p d → stands_typed p d x ≡ true → NeedsFormed (scope_of p d) (balances_need p d x x.config.live)
  balances_formed law w v h =
      all_left (IsFormedNeed (scope_of p d)) (balances_need p d x x.config.live) (messages_need ++ parts_need)
      (all_right (IsFormedNeed (scope_of p d)) (None ∷ None ∷ []) (balances_need p d x x.config.live ++ (messages_need ++ parts_need)) (law p d x w v h))

  pub parts_formed : LinesFormed → WellFormed p → IsValid p d → stands_typed p d x ≡ true → NeedsFormed (scope_of p d) parts_need
  parts_formed law w v h =
      all_right (IsFormedNeed (scope_of p d)) messages_need parts_need
      (all_right (IsFormedNeed (scope_of p d)) (balances_need p d x x.config.live) (messages_need ++ parts_need)
      (all_right (IsFormedNeed (scope_of p d)) (None ∷ None ∷ []) (balances_need p d x x.config.live ++ (messages_need ++ parts_need)) (law p d x w v h)))

  -- ---- the first line that can't be shown

  module _ (bound : ℕ → Option ℕ) where
    pub unshown_balance : (e : CertifyError) → IsUnshownFrom (scope_of p d) bound 3 (balances_need p d x x.config.live) e → IsUnshownFrom (scope_of p d) bound 1 (lines_need p (written_typing p d) (interfaces_of x) x.config) e
    unshown_balance e h =
        let s = scope_of p d in
        let rest = messages_need ++ parts_need in
        unshown_later s bound 1 3 (None ∷ None ∷ []) (balances_need p d x x.config.live ++ rest) e refl (tt, (tt, tt)) (unshown_before s bound 3 (balances_need p d x x.config.live) rest e h)

    pub unshown_part : (line : ℕ) (e : CertifyError) → line ≡ 3 + length x.config.live + length x.config.messages → AllByRecursion (CanBeShown (scope_of p d) bound) (balances_need p d x x.config.live) → IsUnshownFrom (scope_of p d) bound line parts_need e → IsUnshownFrom (scope_of p d) bound 1 (lines_need p (written_typing p d) (interfaces_of x) x.config) e
    unshown_part line e is a h =
        let s = scope_of p d in
        let balances = balances_need p d x x.config.live in
        let next = 3 + length x.config.live in
        let live : length balances ≡ length x.config.live = length-map x.config.live (λ a. Some (balance_needs p (written_typing p d) (interfaces_of x) x.config a)) in
        let pending : length messages_need ≡ length x.config.messages = length-map x.config.messages (λ m. None) in
        let behind : line ≡ next + length messages_need = omega (arith, is, pending) in
        let before : next ≡ 3 + length balances = omega (arith, live) in
        let last = unshown_later s bound next line messages_need parts_need e behind (nothing_shown s bound x.config.messages) h in
        let middle = unshown_later s bound 3 next balances (messages_need ++ parts_need) e before a last in
        unshown_later s bound 1 3 (None ∷ None ∷ []) (balances ++ (messages_need ++ parts_need)) e refl (tt, (tt, tt)) middle

    -- where balances and parts can be shown all lines can
    pub lines_shown : AllByRecursion (CanBeShown (scope_of p d) bound) (balances_need p d x x.config.live) → AllByRecursion (CanBeShown (scope_of p d) bound) parts_need → AllByRecursion (CanBeShown (scope_of p d) bound) (lines_need p (written_typing p d) (interfaces_of x) x.config)
    lines_shown balances parts =
        let s = scope_of p d in
        (tt, (tt, all_both (CanBeShown s bound) (balances_need p d x x.config.live) (messages_need ++ parts_need) balances (all_both (CanBeShown s bound) messages_need parts_need (nothing_shown s bound x.config.messages) parts)))

  -- ---- certificates

  pub certs_are : (ms : List (Option Cert)) (ks : List PartCerts) → length x.interfaces ≡ length x.config.live → each_certified (scope_of p d) (balances_need p d x x.config.live) ms ≡ true → parts_shown p d (record x { part_certs = ks }) ≡ true → AreCertsOf p d x ms ks
  certs_are ms ks count balances parts =
      record {
        balances = to_balances (scope_of p d) (balance_needs p (written_typing p d) (interfaces_of x) x.config) x.config.live x.interfaces ms count balances;
        threads = parts;
      }

module _ (p : Program) (d : Derivation) (c : Config) (interfaces : List ℕ) where
  base : TypedCanBeWritten → NoneIsBroken → WellFormed p → IsValid p d → IsTyped p (typing_of p d) (interface_at c.live interfaces) c → (ms : List (Option Cert)) (ks : List PartCerts) → AreCertsOf p d (silent_checkpoint c interfaces [] []) ms ks → AllCanBeShown p d (silent c) interfaces → IsCertified p d c interfaces (silent_checkpoint c interfaces ms ks)
  base written broken w v typed ms ks h showable =
      let x = silent_checkpoint c interfaces ms ks in
      record {
        is = refl;
        checked =
            record {
              valid = v;
              none = (broken p d x).1 (and_from (stands_typed p d x) (parts_shown p d x && balances_hold p d x) (written p d c interfaces ms ks w typed) (and_from (parts_shown p d x) (balances_hold p d x) h.threads h.balances));
            };
        showable = showable;
      }

  -- a checkpoint without certificates, with certificates that show its inclusions
  pub is_certified : TypedCanBeWritten → NoneIsBroken → WellFormed p → IsValid p d → IsTyped p (typing_of p d) (interface_at c.live interfaces) c → (x : Checkpoint) (ms : List (Option Cert)) (ks : List PartCerts) → x ≡ silent_checkpoint c interfaces [] [] → AreCertsOf p d x ms ks → AllCanBeShown p d x.config x.interfaces → IsCertified p d c interfaces (record { config = x.config; interfaces = x.interfaces; mailbox_certs = ms; part_certs = ks })
  is_certified written broken w v typed x ms ks is h showable =
      subst (λ (z : Checkpoint). IsCertified p d c interfaces (record { config = z.config; interfaces = z.interfaces; mailbox_certs = ms; part_certs = ks })) (sym is)
      (base written broken w v typed ms ks (subst (λ z. AreCertsOf p d z ms ks) is h) (subst (λ (z : Checkpoint). AllCanBeShown p d z.config z.interfaces) is showable))

  first_line : (e : CertifyError) → IsUnshownFrom (scope_of p d) (bound_in p) 1 (lines_need p (written_typing p d) (interface_at c.live interfaces) (silent c)) e → IsUnshown p d c interfaces e
  first_line NoMemory h = tt
  first_line (Unshown n) h =
      let own = h.1 in
      let line : suc h.0 ≡ n = omega (arith, own) in
      subst (IsFirstUnshown (scope_of p d) (bound_in p) (lines_need p (written_typing p d) (interface_at c.live interfaces) c)) line h.2

  pub is_unshown : (x : Checkpoint) (e : CertifyError) → x ≡ silent_checkpoint c interfaces [] [] → IsUnshownFrom (scope_of p d) (bound_in p) 1 (lines_need p (written_typing p d) (interfaces_of x) x.config) e → IsUnshown p d c interfaces e
  is_unshown x e is h = first_line e (subst (λ (z : Checkpoint). IsUnshownFrom (scope_of p d) (bound_in p) 1 (lines_need p (written_typing p d) (interfaces_of z) z.config) e) is h)

  pub stands_bare : TypedCanBeWritten → WellFormed p → IsTyped p (typing_of p d) (interface_at c.live interfaces) c → (x : Checkpoint) → x ≡ silent_checkpoint c interfaces [] [] → stands_typed p d x ≡ true
  stands_bare written w typed x is = subst (λ z. stands_typed p d z ≡ true) (sym is) (written p d c interfaces [] [] w typed)

  pub count_bare : length interfaces ≡ length c.live → (x : Checkpoint) → x ≡ silent_checkpoint c interfaces [] [] → length x.interfaces ≡ length x.config.live
  count_bare count x is = subst (λ (z : Checkpoint). length z.interfaces ≡ length z.config.live) (sym is) count

-- The holdings of a mailbox in threads, where one is replaced, taken out or added.
use Rattle.std.proofs.Common.{◌≡◌, ℕ, true, false, cond, nat_eq, List, [], ◌∷◌, ◌++◌, Some, refl, sym, ap, ◌∙◌, subst, append_assoc}
use Rattle.std.specs.Map.{lookup, set_value, remove_entry}
use Rattle.pat_words_spec.specs.Words.{Word}
use Rattle.pat_semantics_spec.specs.Programs.{Program}
use Rattle.pat_semantics_spec.specs.Configs.{Thread}
use Rattle.pat_type_system_spec.specs.Typings.{Typing}
use Rattle.pat_type_system_spec.specs.Holdings.{Holding, thread_held, threads_held, Balanced}
use Rattle.pat_safety_laws.proofs.Balance.{Refines, refine_balance, balance_front, balance_back}

-- the holdings of a mailbox in a thread stand between those of others, which stay where it is replaced
pub record Split (p : Program) (y : Typing) (b : ℕ) (s : Thread) (now : List Holding) (changed : Thread → List Holding) : Type 0 where
  pub before : List Holding
  pub after : List Holding
  pub now_is : now ≡ before ++ (thread_held p y b s ++ after)
  pub changed_is : (r : Thread) → changed r ≡ before ++ (thread_held p y b r ++ after)

pub split_thread : (p : Program) (y : Typing) (b t : ℕ) (s : Thread) (ts : List (ℕ × Thread)) → lookup (nat_eq t) ts ≡ Some s → Split p y b s (threads_held p y b ts) (λ r. threads_held p y b (set_value (nat_eq t) ts r))
split_thread p y b t s [] h = cc
split_thread p y b t s (e ∷ es) h =
    (elim (nat_eq t e.0) as (λ v. cond v (Some e.1) (lookup (nat_eq t) es) ≡ Some s → Split p y b s (thread_held p y b e.1 ++ threads_held p y b es) (λ r. threads_held p y b (cond v ((e.0, r) ∷ es) (e ∷ set_value (nat_eq t) es r)))) [
      | true ↦ λ k.
          let same : e.1 ≡ s = cc in
          record {
            before = [];
            after = threads_held p y b es;
            now_is = ap (λ x. thread_held p y b x ++ threads_held p y b es) same;
            changed_is = λ r. refl;
          }
      | false ↦ λ k.
          let rest = split_thread p y b t s es k in
          record {
            before = thread_held p y b e.1 ++ rest.before;
            after = rest.after;
            now_is =
                ap (λ l. thread_held p y b e.1 ++ l) rest.now_is
                ∙ sym (append_assoc (thread_held p y b e.1) rest.before (thread_held p y b s ++ rest.after));
            changed_is = λ r.
                ap (λ l. thread_held p y b e.1 ++ l) (rest.changed_is r)
                ∙ sym (append_assoc (thread_held p y b e.1) rest.before (thread_held p y b r ++ rest.after));
          }
    ]) h

-- one holding of a thread is replaced
pub replace_one : (before fs after ms : List Holding) (h k : Holding) (r s : Word) → Refines (h ∷ []) r (k ∷ []) s → Balanced ((before ++ ((h ∷ fs) ++ after)) ++ ms) r → Balanced ((before ++ ((k ∷ fs) ++ after)) ++ ms) s
replace_one before fs after ms h k r s ref b =
    let at : (x : Holding) → (before ++ ((x ∷ fs) ++ after)) ++ ms ≡ before ++ (x ∷ ((fs ++ after) ++ ms)) =
    λ x. append_assoc before ((x ∷ fs) ++ after) ms in
    let rest = (fs ++ after) ++ ms in
    let old = balance_front before h rest r (subst (λ l. Balanced l r) (at h) b) in
    let new = refine_balance (h ∷ []) (k ∷ []) (before ++ rest) r s ref old in
    subst (λ l. Balanced l s) (sym (at k)) (balance_back before k rest s new)

-- the holdings in a thread stand between those of others, which stay where it is taken out
pub record Cut (p : Program) (y : Typing) (b : ℕ) (s : Thread) (now left : List Holding) : Type 0 where
  pub before : List Holding
  pub after : List Holding
  pub now_is : now ≡ before ++ (thread_held p y b s ++ after)
  pub left_is : left ≡ before ++ after

pub cut_thread : (p : Program) (y : Typing) (b t : ℕ) (s : Thread) (ts : List (ℕ × Thread)) → lookup (nat_eq t) ts ≡ Some s → Cut p y b s (threads_held p y b ts) (threads_held p y b (remove_entry (nat_eq t) ts))
cut_thread p y b t s [] h = cc
cut_thread p y b t s (e ∷ es) h =
    (elim (nat_eq t e.0) as (λ v. cond v (Some e.1) (lookup (nat_eq t) es) ≡ Some s → Cut p y b s (thread_held p y b e.1 ++ threads_held p y b es) (threads_held p y b (cond v es (e ∷ remove_entry (nat_eq t) es)))) [
      | true ↦ λ k.
          let same : e.1 ≡ s = cc in
          record { before = []; after = threads_held p y b es; now_is = ap (λ x. thread_held p y b x ++ threads_held p y b es) same; left_is = refl }
      | false ↦ λ k.
          let rest = cut_thread p y b t s es k in
          record {
            before = thread_held p y b e.1 ++ rest.before;
            after = rest.after;
            now_is =
                ap (λ l. thread_held p y b e.1 ++ l) rest.now_is
                ∙ sym (append_assoc (thread_held p y b e.1) rest.before (thread_held p y b s ++ rest.after));
            left_is =
                ap (λ l. thread_held p y b e.1 ++ l) rest.left_is
                ∙ sym (append_assoc (thread_held p y b e.1) rest.before rest.after);
          }
    ]) h

pub threads_append : (p : Program) (y : Typing) (b : ℕ) (ts us : List (ℕ × Thread)) → threads_held p y b (ts ++ us) ≡ threads_held p y b ts ++ threads_held p y b us
threads_append p y b [] us = refl
threads_append p y b (e ∷ es) us =
    ap (λ l. thread_held p y b e.1 ++ l) (threads_append p y b es us) ∙ sym (append_assoc (thread_held p y b e.1) (threads_held p y b es) (threads_held p y b us))

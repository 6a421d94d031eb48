-- What a hold of the turn adds to the history.
use Rattle.std.proofs.Common.{◌≡◌, ℕ, Bool, true, false, cond, nat_eq, List, [], ◌∷◌, ◌++◌, length, Option, Some, None, Result, Ok, Err, refl, sym, ap, ◌∙◌, inl, inr, ◌⊎◌, ⊎_elim}
use Rattle.std.proofs.lemmas.List.{append-nil}
use Rattle.std.proofs.lemmas.List.Elements.{All-nil, All-cons}
use Rattle.std.specs.List.{All}
use mathlib.Core.Logic.{dite}
use native.Mathlib.Decide.{ℕ_discrete}
use Rattle.pat_machine_spec.specs.Lendings.{allowance_of}
use Rattle.pat_reduce.specs.declared.history.Entry.{Entry}
use Rattle.pat_machine.specs.declared.job.Job.{Job}
use Rattle.pat_machine.specs.declared.job.Receipt.{Receipt}
use Rattle.pat_machine.specs.declared.job.CommitRefused.{CommitRefused}
use Rattle.pat_machine.specs.declared.job.CommitRefused.TheVariants.{NotOut, NoMemory}
use Rattle.pat_machine.specs.Shown.{Shown, steps_in}
use Rattle.pat_machine.specs.Gives.{IsLent, TakeGives, GivesBack}
use Rattle.pat_turn.specs.Shown.{GoesOn}
use Rattle.pat_workers.specs.declared.turns.machines.Taken.{Taken}
use Rattle.pat_workers.specs.declared.turns.machines.Taken.TheVariants as given
use Rattle.pat_workers.specs.turns.Holds.{worker_of, TakingGives, CommittingGives}

-- the same name and the same history
pub record SameLog (old new : Shown) : Type 0 where
  pub named : new.named ≡ old.named
  pub history : new.history ≡ old.history

same_self : (old new : Shown) → new ≡ old → SameLog old new
same_self old new is = record { named = ap (λ (x : Shown). x.named) is; history = ap (λ (x : Shown). x.history) is }

same_after : (a b c : Shown) → SameLog a b → SameLog b c → SameLog a c
same_after a b c h k = record { named = k.named ∙ h.named; history = k.history ∙ h.history }

lent_or_not : (m : Shown) (j : Job) → IsLent m j ⊎ (IsLent m j → ⊥)
lent_or_not m j = go (allowance_of m.out j.thread) refl
  where
    go : (o : Option ℕ) → allowance_of m.out j.thread ≡ o → IsLent m j ⊎ (IsLent m j → ⊥)
    go None is = inr (λ lent. let clash : None ≡ Some j.allowance = sym is ∙ lent in cc)
    go (Some k) is = dite (ℕ_discrete k j.allowance)
        (λ (e : k ≡ j.allowance). inl (is ∙ ap (λ (n : ℕ). Some n) e))
        (λ n. inr (λ lent. let both : Some k ≡ Some j.allowance = sym is ∙ lent in let same : k ≡ j.allowance = cc in n same))

pub give_back_log : (old new : Shown) (j : Job) → GivesBack old j new → SameLog old new
give_back_log old new j h =
    ⊎_elim
    (λ (lent : IsLent old j). record { named = ap (λ (x : Shown). x.named) (h.back lent); history = ap (λ (x : Shown). x.history) (h.back lent) })
    (λ (none : IsLent old j → ⊥). same_self old new (h.same none))
    (lent_or_not old j)

take_log : (old new : Shown) (o : Option Job) → TakeGives old o new → SameLog old new
take_log old new None h = same_self old new h.1
take_log old new (Some j) h = record { named = ap (λ (x : Shown). x.named) h.1.changes; history = ap (λ (x : Shown). x.history) h.1.changes }

pub taking_log : (found left : Shown) (t : Taken) → TakingGives found t left → SameLog found left
taking_log found left (given.Job j s) h = take_log found left (Some j) h.0
taking_log found left given.Nothing h = take_log found left None h.0
taking_log found left given.Over h = take_log found left None h.0
taking_log found left given.NoMemory (j, lent, taken, back) = same_after found lent left (take_log found lent (Some j) taken) (give_back_log lent left j back)

-- nothing was added
pub none_added : (n : ℕ) (old new : List Entry) → new ≡ old → GoesOn worker_of n old new
none_added n old new same = ([], same ∙ sym (append-nil old), All-nil (λ (e : Entry). worker_of e ≡ n))

-- the entry of a receipt that has a place
abbrev pub entry_if : Option ℕ → Entry → List Entry
entry_if None e = []
entry_if (Some i) e = e ∷ []

-- what a commit adds
abbrev pub added : Result Receipt CommitRefused → List Entry
added (Ok r) = entry_if r.index r.entry
added (Err e) = []

noted_is : (h : List Entry) (e : Entry) (b : Bool) → cond b h (h ++ e ∷ []) ≡ h ++ entry_if (cond b None (Some (length h))) e
noted_is h e true = sym (append-nil h)
noted_is h e false = refl

pub commit_named : (worker : ℕ) (found left : Shown) (j : Job) (r : Result Receipt CommitRefused) → CommittingGives found worker j r left → left.named ≡ found.named
commit_named worker found left j (Ok r) (lent, done) = ap (λ (x : Shown). x.named) done.changes
commit_named worker found left j (Err (NotOut k)) h = ap (λ (x : Shown). x.named) h.2
commit_named worker found left j (Err (NoMemory k)) h = (give_back_log found left j h.2).named

pub commit_adds : (worker : ℕ) (found left : Shown) (j : Job) (r : Result Receipt CommitRefused) → CommittingGives found worker j r left → left.history ≡ found.history ++ added r
commit_adds worker found left j (Ok r) (lent, done) =
    ap (λ (x : Shown). x.history) done.changes
    ∙ noted_is found.history r.entry (nat_eq (steps_in r.entry) 0)
    ∙ ap (λ i. found.history ++ entry_if i r.entry) (sym done.index)
commit_adds worker found left j (Err (NotOut k)) h = ap (λ (x : Shown). x.history) h.2 ∙ sym (append-nil found.history)
commit_adds worker found left j (Err (NoMemory k)) h = (give_back_log found left j h.2).history ∙ sym (append-nil found.history)

entry_names : (n : ℕ) (i : Option ℕ) (e : Entry) → e.worker ≡ n → All (λ (e : Entry). worker_of e ≡ n) (entry_if i e)
entry_names n None e is = All-nil (λ (e : Entry). worker_of e ≡ n)
entry_names n (Some i) e is = All-cons (λ (e : Entry). worker_of e ≡ n) e [] is (All-nil (λ (e : Entry). worker_of e ≡ n))

pub commit_names : (worker : ℕ) (found left : Shown) (j : Job) (r : Result Receipt CommitRefused) → CommittingGives found worker j r left → All (λ (e : Entry). worker_of e ≡ worker) (added r)
commit_names worker found left j (Ok r) (lent, done) = entry_names worker r.index r.entry done.worker_is
commit_names worker found left j (Err e) h = All-nil (λ (e : Entry). worker_of e ≡ worker)

-- so the pass may put the machine back
pub commit_goes_on : (worker : ℕ) (found left : Shown) (j : Job) (r : Result Receipt CommitRefused) → CommittingGives found worker j r left → GoesOn worker_of worker found.history left.history
commit_goes_on worker found left j r h = (added r, commit_adds worker found left j r h, commit_names worker found left j r h)

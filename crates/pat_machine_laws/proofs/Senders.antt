-- Threads that are about to send, in a list of their own.
use Rattle.std.proofs.Common.{◌≡◌, ℕ, ◌≤◌, min, Bool, true, false, ◌&&◌, ◌||◌, not, List, [], ◌∷◌, ◌++◌, length, Option, Some, None, refl, sym, ap, ◌∙◌, ◌⊎◌, inl, inr, ⊎_elim, arith}
use Rattle.std.specs.Prelude.{find, is_some, option_map, if◌then◌else◌}
use Rattle.std.specs.List.{list_any}
use Rattle.std.specs.Map.{keys_of}
use Rattle.std.proofs.lemmas.Bool.{and_parts, cases_Bool, false_from_ne_true, lt-ltb}
use Rattle.pat_semantics_spec.specs.Values.{Expr, Env}
use Rattle.pat_semantics_spec.specs.Programs.{Program, Send, is_among}
use Rattle.pat_semantics_spec.specs.Configs.{Frame, Thread, Config, with_thread}
use Rattle.pat_semantics_spec.specs.Orders.{AscendsFrom, IsOrdered}
use Rattle.pat_semantics_spec.specs.Steps.{Redex, At, redex, Act, ActLocal, ActNew, ActSend, ActSpawn, ActPrint, ActEnd, ActFree, ActReceive, thread_step, local_at, new_at, spawn_at, print_at, end_at, free_at, receive_at}
use Rattle.pat_semantics_spec.specs.Runs.{can_step_thread}
use Rattle.pat_semantics_laws.proofs.Lists.{clash, among_first, among_second}
use Rattle.pat_semantics_laws.proofs.Inversion.{step_of}
use Rattle.pat_machine_spec.specs.Opens.{has_space, can_send, can_go_on}
use Rattle.pat_machine_spec.specs.Lendings.{Out, is_out}
use Rattle.pat_machine_spec.specs.Turns.{is_above, is_ready, ready_above}
use Rattle.pat_machine_laws.proofs.Opens.{open_exact}
use Rattle.pat_machine_laws.proofs.Ready.{ready_there, ready_passes}
use Rattle.pat_machine_laws.specs.wakeups.Wakings.{target_at}
use Rattle.pat_machine_laws.specs.wakeups.Senders.{IsAboutToSend, AreCandidates, lesser}
use Rattle.pat_machine_laws.proofs.Supersets.{Within, found_among, none_among, least_among, find_key, key_among, found_in_list, open_in_list, enabled_in_list}

-- ---- what a thread that stands at a send can do

end_elsewhere : (c : Config) (u : ℕ) (fs : List Frame) (x m : ℕ) (args : List Expr) (env : Env) → end_at c u fs (At (Send x m args) env) ≡ None
end_elsewhere c u [] x m args env = refl
end_elsewhere c u (f ∷ fs) x m args env = refl

module _ (p : Program) (c : Config) (u : ℕ) (s : Thread) where
  only_send : (x m : ℕ) (args : List Expr) (env : Env) → redex p s.control ≡ At (Send x m args) env → (b : Act) (e : Config) → thread_step p c u s b ≡ Some e → b ≡ ActSend
  only_send x m args env is ActSend e h = refl
  only_send x m args env is ActLocal e h = let none : thread_step p c u s ActLocal ≡ None = ap (λ r. option_map (with_thread c u) (local_at p r s.frames)) is in cc
  only_send x m args env is ActNew e h = let none : thread_step p c u s ActNew ≡ None = ap (new_at c u s.frames) is in cc
  only_send x m args env is ActSpawn e h = let none : thread_step p c u s ActSpawn ≡ None = ap (spawn_at p c u s.frames) is in cc
  only_send x m args env is ActPrint e h = let none : thread_step p c u s ActPrint ≡ None = ap (print_at c u s.frames) is in cc
  only_send x m args env is ActEnd e h = let none : thread_step p c u s ActEnd ≡ None = ap (end_at c u s.frames) is ∙ end_elsewhere c u s.frames x m args env in cc
  only_send x m args env is ActFree e h = let none : thread_step p c u s ActFree ≡ None = ap (free_at p c u s.frames) is in cc
  only_send x m args env is (ActReceive k) e h = let none : thread_step p c u s (ActReceive k) ≡ None = ap (receive_at p c u s.frames k) is in cc

  sends_alone : (r : Redex) → redex p s.control ≡ r → is_some (target_at r) ≡ true → (b : Act) (e : Config) → thread_step p c u s b ≡ Some e → b ≡ ActSend
  sends_alone (At (Send x m args) env) is sends b e h = only_send x m args env is b e h
  sends_alone _ is sends b e h = cc

pub held_back : (p : Program) (c : Config) (limit u : ℕ) → IsAboutToSend p c u → has_space c limit ≡ false → can_go_on p c limit u ≡ false
held_back p c limit u (s, there, sends) full = false_from_ne_true (can_go_on p c limit u) (λ goes.
    let e = (open_exact p c limit u).0 goes in
    let o = step_of p c (record { thread = u; act = e.0 }) e.1.0.0 e.1.0.1 in
    let both : Some s ≡ Some o.thread = sym there ∙ o.there in
    let same : s ≡ o.thread = cc in
    let send = sends_alone p c u s (redex p s.control) refl sends e.0 e.1.0.0 (ap (λ t. thread_step p c u t e.0) same ∙ o.gives) in
    clash (lt-ltb (length c.messages) limit (e.1.1 send)) full)

-- ---- two lists

pub lesser_alone : (o : Option ℕ) → lesser o None ≡ o
lesser_alone None = refl
lesser_alone (Some m) = refl

-- the first that passes in a list whose numbers that pass are in either of two, and theirs in it
module _ (f : ℕ → Bool) (ks ts us : List ℕ) (up : AscendsFrom 0 ks) (a : AscendsFrom 0 ts) (b : AscendsFrom 0 us) (first : Within f ts ks) (second : Within f us ks) (either : (x : ℕ) → is_among x ks ≡ true → f x ≡ true → (is_among x ts ≡ true) ⊎ (is_among x us ≡ true)) where
  -- it isn't above what is found in one of them
  not_above : (xs : List ℕ) → Within f xs ks → (x y : ℕ) → find f ks ≡ Some x → find f xs ≡ Some y → x ≤ y
  not_above xs within x y h k = let at = found_among f xs y k in least_among f 0 ks x y up h (within y at.0 at.1) at.1

  in_either : (x : ℕ) → find f ks ≡ Some x → ((is_among x ts ≡ true) ⊎ (is_among x us ≡ true)) × (f x ≡ true)
  in_either x h = let at = found_among f ks x h in (either x at.0 at.1, at.1)

  never : (xs : List ℕ) → Within f xs ks → (y : ℕ) → find f ks ≡ None → find f xs ≡ Some y → ⊥
  never xs within y h k = let at = found_among f xs y k in none_among f ks y h (within y at.0 at.1) at.1

  first_of_both : find f ks ≡ lesser (find f ts) (find f us)
  first_of_both = go (find f ks) (find f ts) (find f us) refl refl refl
    where
      go : (o q r : Option ℕ) → find f ks ≡ o → find f ts ≡ q → find f us ≡ r → o ≡ lesser q r
      go None None None h k l = refl
      go None (Some y) r h k l = absurd (never ts first y h k)
      go None None (Some z) h k l = absurd (never us second z h l)
      go (Some x) None None h k l =
          let at = in_either x h in
          absurd (⊎_elim (λ on. none_among f ts x k on at.1) (λ on. none_among f us x l on at.1) at.0)
      go (Some x) (Some y) None h k l =
          let at = in_either x h in
          let low = not_above ts first x y h k in
          ⊎_elim
          (λ on. let high = least_among f 0 ts y x a k on at.1 in let same : x ≡ y = omega arith in ap (λ (n : ℕ). Some n) same)
          (λ on. absurd (none_among f us x l on at.1))
          at.0
      go (Some x) None (Some z) h k l =
          let at = in_either x h in
          let low = not_above us second x z h l in
          ⊎_elim
          (λ on. absurd (none_among f ts x k on at.1))
          (λ on. let high = least_among f 0 us z x b l on at.1 in let same : x ≡ z = omega arith in ap (λ (n : ℕ). Some n) same)
          at.0
      go (Some x) (Some y) (Some z) h k l =
          let at = in_either x h in
          let low = not_above ts first x y h k in
          let lower = not_above us second x z h l in
          ⊎_elim
          (λ on. let high = least_among f 0 ts y x a k on at.1 in let same : x ≡ min y z = omega arith in ap (λ (n : ℕ). Some n) same)
          (λ on. let high = least_among f 0 us z x b l on at.1 in let same : x ≡ min y z = omega arith in ap (λ (n : ℕ). Some n) same)
          at.0

-- ---- the first that is ready

goes_steps : (p : Program) (c : Config) (limit u : ℕ) → can_go_on p c limit u ≡ true → can_step_thread p c u ≡ true
goes_steps p c limit u h = (and_parts (can_step_thread p c u) (has_space c limit || not (can_send p c u)) h).0

module _ (p : Program) (c : Config) (limit : ℕ) (ts us : List ℕ) (covers : AreCandidates p c ts us) where
  -- whoever can go on is in one of the lists
  goes_in : (u : ℕ) → can_go_on p c limit u ≡ true → (is_among u ts ≡ true) ⊎ (is_among u us ≡ true)
  goes_in u goes = ⊎_elim (λ on. inl on) (λ held. inr held.0) (covers u (goes_steps p c limit u goes))

  -- and in the first one, where there is no space
  goes_first : has_space c limit ≡ false → (u : ℕ) → can_go_on p c limit u ≡ true → is_among u ts ≡ true
  goes_first full u goes = ⊎_elim (λ on. on) (λ held. absurd (clash goes (held_back p c limit u held.1 full))) (covers u (goes_steps p c limit u goes))

  module _ (out : Out) (last : Option ℕ) (order : IsOrdered c) (a : AscendsFrom 0 ts) (b : AscendsFrom 0 us) where
    abbrev passes : ℕ → Bool
    passes t = is_above last t && is_ready p c limit out t

    ready : (t : ℕ) → passes t ≡ true → is_ready p c limit out t ≡ true
    ready t pass = (and_parts (is_above last t) (is_ready p c limit out t) pass).1

    goes_on : (t : ℕ) → is_ready p c limit out t ≡ true → can_go_on p c limit t ≡ true
    goes_on t h = (and_parts (not (is_out out t)) (can_go_on p c limit t) h).1

    is_key : (t : ℕ) → passes t ≡ true → is_among t (keys_of c.threads) ≡ true
    is_key t pass = let s = ready_there p c limit out t (ready_passes p c limit out t (ready t pass)) in key_among c.threads t s.0 s.1

    found : ready_above p c limit out last ≡ lesser (find passes ts) (if has_space c limit then find passes us else None)
    found = ⊎_elim
        (λ space.
        find_key passes c.threads
        ∙ first_of_both passes (keys_of c.threads) ts us order.threads a b (λ t at pass. is_key t pass) (λ t at pass. is_key t pass) (λ t at pass. goes_in t (goes_on t (ready t pass)))
        ∙ sym (ap (λ v. lesser (find passes ts) (if v then find passes us else None)) space))
        (λ full.
        found_in_list p c limit out last ts order a (λ t h. goes_first full t (goes_on t h))
        ∙ sym (ap (λ v. lesser (find passes ts) (if v then find passes us else None)) full ∙ lesser_alone (find passes ts)))
        (cases_Bool (has_space c limit))

pub found_in_both : (p : Program) (c : Config) (limit : ℕ) (out : Out) (last : Option ℕ) (ts us : List ℕ) → IsOrdered c → AscendsFrom 0 ts → AscendsFrom 0 us → AreCandidates p c ts us → ready_above p c limit out last ≡ lesser (find (λ t. is_above last t && is_ready p c limit out t) ts) (if has_space c limit then find (λ t. is_above last t && is_ready p c limit out t) us else None)
found_in_both p c limit out last ts us order a b covers = found p c limit ts us covers out last order a b

-- ---- whether one can go on

any_joined : (f : ℕ → Bool) (xs ys : List ℕ) → list_any f (xs ++ ys) ≡ (list_any f xs || list_any f ys)
any_joined f [] ys = refl
any_joined f (x ∷ xs) ys = elim (f x) as (λ v. (v || list_any f (xs ++ ys)) ≡ ((v || list_any f xs) || list_any f ys)) [ true ↦ refl | false ↦ any_joined f xs ys ]

or_none : (b : Bool) → b ≡ (b || false)
or_none true = refl
or_none false = refl

joined : (u : ℕ) (ts us : List ℕ) → (is_among u ts ≡ true) ⊎ (is_among u us ≡ true) → is_among u (ts ++ us) ≡ true
joined u ts us at = ⊎_elim (λ on. among_first u ts us on) (λ on. among_second u ts us on) at

pub open_in_both : (p : Program) (c : Config) (limit : ℕ) (ts us : List ℕ) → AreCandidates p c ts us → list_any (λ e. can_go_on p c limit e.0) c.threads ≡ (list_any (can_go_on p c limit) ts || (has_space c limit && list_any (can_go_on p c limit) us))
open_in_both p c limit ts us covers = ⊎_elim
    (λ space.
    open_in_list p c limit (ts ++ us) (λ u goes. joined u ts us (goes_in p c limit ts us covers u goes))
    ∙ any_joined (can_go_on p c limit) ts us
    ∙ sym (ap (λ v. list_any (can_go_on p c limit) ts || (v && list_any (can_go_on p c limit) us)) space))
    (λ full.
    open_in_list p c limit ts (goes_first p c limit ts us covers full)
    ∙ or_none (list_any (can_go_on p c limit) ts)
    ∙ sym (ap (λ v. list_any (can_go_on p c limit) ts || (v && list_any (can_go_on p c limit) us)) full))
    (cases_Bool (has_space c limit))

pub enabled_in_both : (p : Program) (c : Config) (ts us : List ℕ) → AreCandidates p c ts us → list_any (λ e. can_step_thread p c e.0) c.threads ≡ (list_any (can_step_thread p c) ts || list_any (can_step_thread p c) us)
enabled_in_both p c ts us covers =
    enabled_in_list p c (ts ++ us) (λ u can. joined u ts us (⊎_elim (λ on. inl on) (λ held. inr held.0) (covers u can)))
    ∙ any_joined (can_step_thread p c) ts us

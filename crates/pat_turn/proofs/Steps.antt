-- Each step keeps the rule of the turn.
use Rattle.std.proofs.Common.{◌≡◌, ◌≢◌, ℕ, zero, suc, ◌+◌, ◌%◌, ◌^◌, ◌<◌, ◌≤◌, Bool, true, false, List, [], ◌∷◌, ◌++◌, length, slice_index, slice_set, set, refl, ap, sym, ◌∙◌, subst, ⊎_elim, arith, Option, Some, length-set, length-append, eqb, map, slice_get}
use Rattle.std.proofs.lemmas.List.{append-nil}
use Rattle.pat_turn.proofs.Waiting.{slot_is}
use Rattle.std.proofs.Math.Nat.{mod-add-mod}
use Rattle.std.proofs.lemmas.List.Elements.{filter-append, All-weaker, All-push, All-nil}
use Rattle.std.specs.List.{All}
use mathlib.Core.List.{IsPrefix}
use mathlib.Core.Logic.{dite}
use mathlib.Core.Option.{none, some, some-injective, some-ne-none}
use native.Mathlib.Decide.{ℕ_discrete}
use lib.ListN.{get_elem?}
use Rattle.atomic_table.specs.Table.{State, Act, keeps, takes, gives, Valid, stepped, carried_after, Allows, Splits, Joins, opening}
use Rattle.atomic_table.proofs.Lists.{at_set, set_here, set_else, set_again, at_longer, one_turn}
use Rattle.pat_turn.specs.declared.view.View.{View}
use Rattle.pat_turn.specs.declared.view.Part.{Part}
use Rattle.pat_turn.specs.declared.view.Stage.{Stage}
use Rattle.pat_turn.specs.declared.view.Stage.TheVariants.{Spent, Idle, Waits, Holds}
use Rattle.pat_turn.specs.Rule.{entries_naming, tickets_out, ticket_count, IsLive, Facts, Stands, Took, Knows, IsOut, IsTurn, Mine, drew, Comes, looked, passed, MayPut, opened, counted, another, part_of, both, spent}
use Rattle.pat_turn.proofs.Lists.{prefix_self, prefix_trans, put, put_case, put_here, put_else, at_below, at_more, sum_set, sum_snoc, sum_few, entries_none, some_is, all_at, get_there, named_below}
use Rattle.pat_turn.specs.Shown.{ShownPass, as_part, IsOfAll}
use Rattle.pat_limits.specs.Limits.{most_workers}

-- whether the seat has the value
abbrev holds_it : Stage → Bool
holds_it Spent = false
holds_it Idle = false
holds_it (Waits t) = false
holds_it (Holds t) = true

abbrev waits_too : Stage → Bool
waits_too Spent = false
waits_too Idle = false
waits_too (Waits t) = true
waits_too (Holds t) = false

abbrev ticket_or : Stage → ℕ
ticket_or Spent = 0
ticket_or Idle = 0
ticket_or (Waits t) = t
ticket_or (Holds t) = t

true≢false : {A : Type 0} → true ≡ false → A
true≢false e = absurd (cc e)

one_ticket : {N E : Type 0} (v : View N E) → tickets_out v ≤ 1
one_ticket v = go v.stage
  where
    go : (t : Stage) → ticket_count t ≤ 1
    go Spent = omega arith
    go Idle = omega arith
    go (Waits t) = omega arith
    go (Holds t) = omega arith

module _ {E : Type 0} (f : Facts E) where
  -- after a ticket was drawn by the seat `id`
  abbrev pub drawn_by : ℕ → Facts E
  drawn_by id = record f { drawn = f.drawn + 1; holder = put f.holder f.drawn id }

  draws_beside : (id j : ℕ) (t : Stage) → Stands f j t → Stands (drawn_by id) j t
  draws_beside id j Spent h = tt
  draws_beside id j Idle h = tt
  draws_beside id j (Waits t) h = let lt = h.1 in (h.0, omega (arith, lt), put_else f.holder f.drawn id t (λ e. omega (arith, lt, e)) ∙ h.2)
  draws_beside id j (Holds t) h = let lt = h.1 in (h.0, omega (arith, lt), put_else f.holder f.drawn id t (λ e. omega (arith, lt, e)) ∙ h.2, h.3, h.4)

  -- after the value came to the seat `id`
  abbrev pub taken_by : ℕ → Facts E
  taken_by id = record f { busy = true; part = put f.part id f.log }

  takes_beside : (id j : ℕ) (t : Stage) → f.holder f.served ≡ id → j ≢ id → Stands f j t → Stands (taken_by id) j t
  takes_beside id j Spent mine other h = tt
  takes_beside id j Idle mine other h = tt
  takes_beside id j (Waits t) mine other h = h
  takes_beside id j (Holds t) mine other h = absurd (other (sym h.2 ∙ (ap f.holder h.0 ∙ mine)))

  -- after the seat `id` put back a value with the log `xs`
  abbrev pub given_by : ℕ → List E → Facts E
  given_by id xs = record f { served = f.served + 1; log = xs; busy = false; part = put f.part id xs }

  gives_beside : (id j : ℕ) (xs : List E) (t : Stage) → f.holder f.served ≡ id → j ≢ id → Stands f j t → Stands (given_by id xs) j t
  gives_beside id j xs Spent mine other h = tt
  gives_beside id j xs Idle mine other h = tt
  gives_beside id j xs (Waits t) mine other h =
      let n : t ≢ f.served = λ e. other (sym h.2 ∙ (ap f.holder e ∙ mine)) in let le = h.0 in (omega (arith, le, n), h.1, h.2)
  gives_beside id j xs (Holds t) mine other h = absurd (other (sym h.2 ∙ (ap f.holder h.0 ∙ mine)))

-- a step that changes neither the tickets nor what was seen
still : {E : Type 0} (f f' : Facts E) (j : ℕ) (t : Stage) → f'.served ≡ f.served → f'.drawn ≡ f.drawn → f'.holder ≡ f.holder → f'.busy ≡ f.busy → f'.part ≡ f.part → f'.log ≡ f.log → Stands f j t → Stands f' j t
still f f' j Spent a b c d e g h = tt
still f f' j Idle a b c d e g h = tt
still f f' j (Waits t) a b c d e g h = let low = h.0 in let high = h.1 in (omega (arith, a, low), omega (arith, b, high), ap (λ k. k t) c ∙ h.2)
still f f' j (Holds t) a b c d e g h = let high = h.1 in (h.0 ∙ sym a, omega (arith, b, high), ap (λ k. k t) c ∙ h.2, d ∙ h.3, ap (λ k. k j) e ∙ (h.4 ∙ sym g))

module _ {N E : Type 0} (name : N) (f : Facts E) where
  -- where what the seat `id` has seen becomes `xs`, the others know what they knew
  knows_beside : (id j : ℕ) (xs : List E) (f' : Facts E) → f'.seats ≡ f.seats → ((k : ℕ) → f'.keeper k ≡ f.keeper k) → ((k : ℕ) → k ≢ id → f'.part k ≡ f.part k) → f.keeper id ≡ id → j ≢ id
      → (u : View N E) → Knows name f j u → Knows name f' j u
  knows_beside id j xs f' seats keeper part mine other u k = (
    k.0,
    k.1,
    λ z. k.2 z ∙ sym seats,
    keeper j ∙ k.3,
    k.4 ∙ sym (part j other),
    All-weaker (Took f j) (Took f' j)
        (λ p t. (t.0, keeper p.number ∙ t.1, t.2 ∙ sym (part p.number (λ e. other (sym t.1 ∙ (ap f.keeper e ∙ mine))))))
        u.joined k.5,
  )

module _ {N E : Type 0} (f : Facts E) (id : ℕ) where
  -- a pass that was joined keeps no seat
  elsewhere : (h : ℕ) (p : ShownPass N E) (rest : List (ShownPass N E)) (q : ShownPass N E) → slice_get (p ∷ rest) h ≡ Some q → q.number ≡ h → id ≡ 0 → h ≢ id → f.keeper h ≡ h
      → ((j : ℕ) (q : ShownPass N E) → slice_get rest j ≡ Some q → Took f id (as_part q)) → ⊥
  elsewhere zero p rest q e number zeroth else kept took = else (sym zeroth)
  elsewhere (suc h) p rest q e number zeroth else kept took = else (sym kept ∙ (ap f.keeper (sym number) ∙ (took h q e).1))

  parts_of : (v : View N E) (p : ShownPass N E) (rest : List (ShownPass N E)) → id ≡ 0 → v.seen ≡ p.seen → v.seen ≡ f.part id → ((i : ℕ) (q : ShownPass N E) → slice_get (p ∷ rest) i ≡ Some q → q.number ≡ i)
      → ((j : ℕ) (q : ShownPass N E) → slice_get rest j ≡ Some q → Took f id (as_part q)) → (i : ℕ) (q : ShownPass N E) → slice_get (p ∷ rest) i ≡ Some q → q.seen ≡ f.part i
  parts_of v p rest zeroth seen mine numbers took zero q e = ap (λ (a : ShownPass N E). a.seen) (sym (some_is e)) ∙ (sym seen ∙ (mine ∙ ap f.part zeroth))
  parts_of v p rest zeroth seen mine numbers took (suc i) q e = (took i q e).2 ∙ ap f.part (numbers (suc i) q e)

module _ {V N E : Type 0} (name_of : V → N) (log_of : V → List E) (by : E → ℕ) (name : N) (passes : ℕ) where
  abbrev Rule : State (Option V) (View N E) → Type 0
  Rule = IsTurn name_of log_of by name passes

  -- what is so of each seat, after the view of one was changed
  seats_stay : (P : ℕ → View N E → Type 0) (vs : List (View N E)) (id : ℕ) (w : View N E) → P id w → ((j : ℕ) (u : View N E) → j ≢ id → get_elem? vs j ≡ some u → P j u)
      → (j : ℕ) (u : View N E) → get_elem? (set vs id w) j ≡ some u → P j u
  seats_stay P vs id w mine others j u e = ⊎_elim (λ (t : (j ≡ id) × (w ≡ u)). subst (λ (x : ℕ × View N E). P x.0 x.1) (λ i. (sym t.0 i, t.1 i)) mine)
      (λ (t : (j ≢ id) × (get_elem? vs j ≡ some u)). others j u t.0 t.1) (at_set vs id j w u e)

  same_view : (vs : List (View N E)) (i j : ℕ) (a b : View N E) → i ≡ j → get_elem? vs i ≡ some a → get_elem? vs j ≡ some b → a ≡ b
  same_view vs i j a b e p q = some-injective a b (sym p ∙ (ap (get_elem? vs) e ∙ q))

  -- the seat that has the value is another than an idle one or one that waits
  busy_elsewhere : (s : State (Option V) (View N E)) (r : Rule s) (id : ℕ) (v : View N E) → get_elem? s.views id ≡ some v → holds_it v.stage ≡ false → (o : IsOut r.facts s.homes s.views) → r.facts.holder r.facts.served ≢ id
  busy_elsewhere s r id v at calm o e = let u = o.1.0 in let same : u ≡ v = same_view s.views (r.facts.holder r.facts.served) id u v e o.1.1 at in
      true≢false (sym (ap holds_it o.1.2) ∙ (ap (λ (x : View N E). holds_it x.stage) same ∙ calm))

  pub draws : (slots id : ℕ) (me : Mine V N E) → me.0.stage ≡ Idle → Allows Rule slots id me 0 (λ n. (n + 1) % 2 ^ 64) (drew me)
  draws slots id me idle s r wide at fits =
      let f : Facts E = r.facts in
      let w : View N E = record me.0 { stage = Waits f.drawn } in
      let f' : Facts E = drawn_by f id in
      let live : IsLive me.0.stage = subst IsLive (sym idle) tt in
      let none_out : tickets_out me.0 ≡ 0 = ap ticket_count idle in
      let sums = sum_set tickets_out s.views id me.0 w at in
      let total = r.tickets in (
        w,
        keeps,
        tt,
        record {
          facts = f';
          words = ap (λ ws. slice_set ws 0 ((slice_index ws 0 + 1) % 2 ^ 64)) r.words ∙ ap (λ k. k ∷ f.served % 2 ^ 64 ∷ []) (mod-add-mod f.drawn (2 ^ 64) 1);
          count = length-set s.views id w ∙ r.count;
          few = r.few;
          tickets = omega (arith, sums, none_out, total);
          fresh = r.fresh;
          knows = seats_stay (λ j u. IsLive u.stage → Knows name f' j u) s.views id w (λ _. r.knows id me.0 at live) (λ j u _ e. r.knows j u e);
          stands = seats_stay (λ j u. Stands f' j u.stage) s.views id w ((omega (arith, total)), omega arith, put_here f.holder f.drawn id) (λ j u _ e. draws_beside f id j u.stage (r.stands j u e));
          logged = r.logged;
          home = r.home;
          out = λ b. let o = r.out b in let u : View N E = o.1.0 in
              let stands : Stands f (f.holder f.served) u.stage = r.stands (f.holder f.served) u o.1.1 in
              let late : f.served < f.drawn = (subst (Stands f (f.holder f.served)) o.1.2 stands).1 in
              let same : put f.holder f.drawn id f.served ≡ f.holder f.served = put_else f.holder f.drawn id f.served (λ e. omega (arith, late, e)) in
              (o.0, (u, ap (get_elem? (set s.views id w)) same ∙ (set_else s.views id (f.holder f.served) w (busy_elsewhere s r id me.0 at (ap holds_it idle) o) ∙ o.1.1), o.1.2));
        },
        (f.drawn, ap (λ ws. slice_index ws 0) (sym r.words), refl),
      )

  -- where the word is not the ticket, nothing changes
  misses : (id : ℕ) (me : Mine V N E) (s : State (Option V) (View N E)) (r : Rule s) → get_elem? s.views id ≡ some me.0
      → Rule record { words = slice_set s.words 1 (slice_index s.words 1); homes = s.homes; views = slice_set s.views id me.0 }
  misses id me s r at = subst (λ (x : List ℕ × List (View N E)). Rule record { words = x.0; homes = s.homes; views = x.1 })
      (λ i. (sym (ap (λ ws. slice_set ws 1 (slice_index ws 1)) r.words ∙ sym r.words) i, sym (set_again s.views id me.0 at) i)) r

  -- the seat whose ticket is served takes the value
  comes : (id t : ℕ) (me : Mine V N E) (s : State (Option V) (View N E)) (r : Rule s) → get_elem? s.views id ≡ some me.0 → me.0.stage ≡ Waits t → t ≡ r.facts.served
      → (x : V) × (s.homes ≡ some (Some x) ∷ []) × Comes name_of log_of by me.0 x
      × Rule record { words = slice_set s.words 1 (slice_index s.words 1); homes = slice_set s.homes 0 none; views = slice_set s.views id (record me.0 { stage = Holds t; seen = log_of x }) }
  comes id t me s r at waits is =
      let f : Facts E = r.facts in
      let f' : Facts E = taken_by f id in
      let live : IsLive me.0.stage = subst IsLive (sym waits) tt in
      let known = r.knows id me.0 at live in
      let stands : Stands f id (Waits t) = subst (Stands f id) waits (r.stands id me.0 at) in
      let mine : f.holder f.served ≡ id = ap f.holder (sym is) ∙ stands.2 in
      let here : f.busy ≡ false = elim f.busy as (λ b. (b ≡ true → IsOut f s.homes s.views) → b ≡ false) [
        | true ↦ λ o. absurd (busy_elsewhere s r id me.0 at (ap holds_it waits) (o refl) mine)
        | false ↦ λ _. refl
      ] r.out in
      let home = r.home here in
      let x : V = home.0 in
      let log : log_of x ≡ f.log = home.3 in
      let below : id < f.seats = subst (λ n. id < n) r.count (at_below s.views id me.0 at) in
      let w : View N E = record me.0 { stage = Holds t; seen = log_of x } in
      let out_now : tickets_out me.0 ≡ 1 = ap ticket_count waits in
      let sums = sum_set tickets_out s.views id me.0 w at in
      let total = r.tickets in (
        x,
        home.1,
        record {
          named = known.0 ∙ ap (λ (n : N). Some n) (sym home.2);
          prefix = subst (λ (l : List E × List E). IsPrefix l.0 l.1) (λ i. (sym known.4 i, sym log i)) (r.logged.prefix id);
          own = ap (λ (k : ℕ). entries_naming by k (log_of x)) known.1 ∙ (ap (entries_naming by id) log ∙ (r.logged.own id ∙ (ap (entries_naming by id) (sym known.4) ∙ ap (λ (k : ℕ). entries_naming by k me.0.seen) (sym known.1))));
        },
        record {
          facts = f';
          words = ap (λ ws. slice_set ws 1 (slice_index ws 1)) r.words;
          count = length-set s.views id w ∙ r.count;
          few = r.few;
          tickets = omega (arith, sums, out_now, total);
          fresh = r.fresh;
          knows = seats_stay (λ j u. IsLive u.stage → Knows name f' j u) s.views id w
              (λ _. (known.0, known.1, known.2, known.3, log ∙ sym (put_here f.part id f.log), All-weaker (Took f id) (Took f' id) (λ p q. (q.0, q.1, q.2 ∙ sym (put_else f.part id f.log p.number q.0))) me.0.joined known.5))
              (λ j u other e l. knows_beside name f id j f.log f' refl (λ _. refl) (λ k n. put_else f.part id f.log k n) known.3 other u (r.knows j u e l));
          stands = seats_stay (λ j u. Stands f' j u.stage) s.views id w (is, stands.1, stands.2, refl, put_here f.part id f.log)
              (λ j u other e. takes_beside f id j u.stage mine other (r.stands j u e));
          logged = record {
            prefix = λ k. put_case (λ l. IsPrefix l f.log) f.part id f.log k (λ _. prefix_self f.log) (λ _. r.logged.prefix k);
            own = λ k. put_case (λ l. entries_naming by k f.log ≡ entries_naming by k l) f.part id f.log k (λ _. refl) (λ _. r.logged.own k);
            unmade = λ k le. put_else f.part id f.log k (λ e. omega (arith, below, le, e)) ∙ r.logged.unmade k le;
          };
          home = λ b. true≢false b;
          out = λ _. (ap (λ hs. slice_set hs 0 none) home.1, (w, ap (get_elem? (set s.views id w)) mine ∙ set_here s.views id w (at_below s.views id me.0 at), ap (λ (n : ℕ). Holds n) is));
        },
      )

  pub looks : (slots id : ℕ) (me : Mine V N E) → Allows Rule slots id me 1 (λ n. n) (looked name_of log_of by me)
  looks slots id me s r wide at fits = go me.0.stage refl
    where
      go : (st : Stage) → me.0.stage ≡ st
          → (w : View N E) × (a : Act (Option V)) × Valid s.homes me.1 a × Rule (stepped s 1 (slice_index s.words 1) id me.1 w a) × looked name_of log_of by me (slice_index s.words 1) (w, carried_after me.1 a)
      go Spent is = (me.0, keeps, tt, misses id me s r at, λ t e. true≢false (ap waits_too (sym e ∙ is)))
      go Idle is = (me.0, keeps, tt, misses id me s r at, λ t e. true≢false (ap waits_too (sym e ∙ is)))
      go (Holds t) is = (me.0, keeps, tt, misses id me s r at, λ t e. true≢false (ap waits_too (sym e ∙ is)))
      go (Waits t) is = dite (ℕ_discrete (slice_index s.words 1) (t % 2 ^ 64))
          (λ e.
          let f : Facts E = r.facts in
          let stands : Stands f id (Waits t) = subst (Stands f id) is (r.stands id me.0 at) in
          let low = stands.0 in
          let high = stands.1 in
          let total = r.tickets in
          let few = sum_few tickets_out one_ticket s.views in
          let count = r.count in
          let room = r.few in
          let word : f.served % 2 ^ 64 ≡ t % 2 ^ 64 = ap (λ ws. slice_index ws 1) (sym r.words) ∙ e in
          let same : t ≡ f.served = sym (one_turn f.served t (2 ^ 64) low (omega (arith, high, total, few, count, room)) word) in
          let c = comes id t me s r at is same in
          let x : V = c.0 in (
            record me.0 { stage = Holds t; seen = log_of x },
            takes 0 (Some x),
            ap (λ hs. get_elem? hs 0) c.1,
            c.3,
            λ t' e'. let one : t' ≡ t = ap ticket_or (sym e' ∙ is) in (
              (λ _. (x, (λ i. (record me.0 { stage = Holds (sym one i); seen = log_of x }, (0, Some x) ∷ me.1)), c.2)),
              (λ n. absurd (n (e ∙ ap (λ k. k % 2 ^ 64) (sym one)))),
            ),
          ))
          (λ n. (me.0, keeps, tt, misses id me s r at, λ t' e'. let one : t' ≡ t = ap ticket_or (sym e' ∙ is) in ((λ e. absurd (n (e ∙ ap (λ k. k % 2 ^ 64) one))), (λ _. refl))))

  -- the seat that has the value puts one back, whose log goes on with entries of its own
  gave : (id t : ℕ) (v : View N E) (x : V) (s : State (Option V) (View N E)) (r : Rule s) → get_elem? s.views id ≡ some v → v.stage ≡ Holds t → MayPut name_of log_of by v x
      → Rule record { words = slice_set s.words 1 ((slice_index s.words 1 + 1) % 2 ^ 64); homes = slice_set s.homes 0 (some (Some x)); views = slice_set s.views id (record v { stage = Idle; seen = log_of x }) }
  gave id t v x s r at holds may =
      let f : Facts E = r.facts in
      let xs : List E = log_of x in
      let f' : Facts E = given_by f id xs in
      let live : IsLive v.stage = subst IsLive (sym holds) tt in
      let known = r.knows id v at live in
      let stands : Stands f id (Holds t) = subst (Stands f id) holds (r.stands id v at) in
      let mine : f.holder f.served ≡ id = ap f.holder (sym stands.0) ∙ stands.2 in
      let o = r.out stands.3 in
      let below : id < f.seats = subst (λ n. id < n) r.count (at_below s.views id v at) in
      let w : View N E = record v { stage = Idle; seen = xs } in
      let out_now : tickets_out v ≡ 1 = ap ticket_count holds in
      let sums = sum_set tickets_out s.views id v w at in
      let total = r.tickets in
      let seen : v.seen ≡ f.log = known.4 ∙ stands.4 in
      let grows : f.log ++ may.more ≡ xs = ap (λ l. l ++ may.more) (sym seen) ∙ sym may.log in record {
        facts = f';
        words = ap (λ ws. slice_set ws 1 ((slice_index ws 1 + 1) % 2 ^ 64)) r.words ∙ ap (λ k. f.drawn % 2 ^ 64 ∷ k ∷ []) (mod-add-mod f.served (2 ^ 64) 1);
        count = length-set s.views id w ∙ r.count;
        few = r.few;
        tickets = omega (arith, sums, out_now, total);
        fresh = r.fresh;
        knows = seats_stay (λ j u. IsLive u.stage → Knows name f' j u) s.views id w
            (λ _. (known.0, known.1, known.2, known.3, sym (put_here f.part id xs), All-weaker (Took f id) (Took f' id) (λ p q. (q.0, q.1, q.2 ∙ sym (put_else f.part id xs p.number q.0))) v.joined known.5))
            (λ j u other e l. knows_beside name f id j xs f' refl (λ _. refl) (λ k n. put_else f.part id xs k n) known.3 other u (r.knows j u e l));
        stands = seats_stay (λ j u. Stands f' j u.stage) s.views id w tt (λ j u other e. gives_beside f id j xs u.stage mine other (r.stands j u e));
        logged = record {
          prefix = λ k. put_case (λ l. IsPrefix l xs) f.part id xs k (λ _. prefix_self xs) (λ _. prefix_trans (f.part k) f.log xs (r.logged.prefix k) (may.more, grows));
          own = λ k. put_case (λ l. entries_naming by k xs ≡ entries_naming by k l) f.part id xs k (λ _. refl)
              (λ n. ap (entries_naming by k) (sym grows) ∙ (filter-append (λ e. eqb (by e) k) f.log may.more
              ∙ (ap (λ l. entries_naming by k f.log ++ l) (entries_none by v.number k may.more may.own (λ e. n (e ∙ known.1))) ∙ (append-nil (entries_naming by k f.log) ∙ r.logged.own k))));
          unmade = λ k le. put_else f.part id xs k (λ e. omega (arith, below, le, e)) ∙ r.logged.unmade k le;
        };
        home = λ _. (x, ap (λ hs. slice_set hs 0 (some (Some x))) o.0, some_is (sym may.named ∙ known.0), refl);
        out = λ b. true≢false (sym b);
      }

  pub passes_on : (slots id : ℕ) (me : Mine V N E) (v : View N E) (t : ℕ) (x : V) → me ≡ (v, (0, Some x) ∷ []) → v.stage ≡ Holds t → MayPut name_of log_of by v x
      → Allows Rule slots id me 1 (λ n. (n + 1) % 2 ^ 64) (passed log_of me)
  passes_on slots id me v t x is holds may = subst (λ (m : Mine V N E). Allows Rule slots id m 1 (λ n. (n + 1) % 2 ^ 64) (passed log_of m)) (sym is)
      (λ s r wide at fits. (
        record v { stage = Idle; seen = log_of x },
        gives,
        tt,
        gave id t v x s r at holds may,
        λ y e. ap (λ (l : List E). (record v { stage = Idle; seen = l }, [])) (ap log_of (some_is (slot_is ((0, Some x) ∷ []) [] [] (Some x) (Some y) refl e))),
      ))

  -- the first pass makes another
  pub splits : (id : ℕ) (v : View N E) → v.stage ≡ Idle → v.number ≡ 0 → v.made < passes → Splits Rule id v (counted v) (another v)
  splits id v idle first room s r at =
      let f : Facts E = r.facts in
      let n : ℕ = f.seats in
      let f' : Facts E = record f { seats = f.seats + 1 } in
      let live : IsLive v.stage = subst IsLive (sym idle) tt in
      let known = r.knows id v at live in
      let zeroth : id ≡ 0 = sym known.1 ∙ first in
      let made : v.made ≡ n = known.2 zeroth in
      let some_seat : id < n = subst (λ k. id < k) r.count (at_below s.views id v at) in
      let vs : List (View N E) = slice_set s.views id (counted v) in
      let long : length vs ≡ n = length-set s.views id (counted v) ∙ r.count in
      let sums = sum_set tickets_out s.views id v (counted v) at in
      let snoc = sum_snoc tickets_out vs (another v) in
      let total = r.tickets in
      let none_out : tickets_out v ≡ 0 = ap ticket_count idle in
      let few = r.few in
      let fresh : f.keeper n ≡ n = r.fresh n (omega arith) in
      let unmade : f.part n ≡ [] = r.logged.unmade n (omega arith) in record {
        facts = f';
        words = r.words;
        count = length-append vs (another v ∷ []) ∙ omega (arith, long);
        few = (omega (arith, made, room), few.1);
        tickets = omega (arith, sums, snoc, total, none_out);
        fresh = λ k le. r.fresh k (omega (arith, le));
        knows = λ j u e l. ⊎_elim
            (λ (h : get_elem? vs j ≡ some u). seats_stay (λ i y. IsLive y.stage → Knows name f' i y) s.views id (counted v)
            (λ _. (known.0, known.1, (λ _. ap (λ (k : ℕ). k + 1) made), known.3, known.4, known.5))
            (λ i y other h' l'. let k = r.knows i y h' l' in (k.0, k.1, (λ z. absurd (other (z ∙ sym zeroth))), k.3, k.4, k.5))
            j u h l)
            (λ (t : (j ≡ length vs) × (another v ≡ u)). let q : j ≡ n = t.0 ∙ long in
            subst (λ (x : ℕ × View N E). Knows name f' x.0 x.1) (λ i. (sym q i, t.1 i))
            (known.0, made, (λ z. absurd (omega (arith, z, some_seat))), fresh, sym unmade, All-nil (Took f' n)))
            (at_more vs (another v) u j e);
        stands = λ j u e. ⊎_elim
            (λ (h : get_elem? vs j ≡ some u). seats_stay (λ i y. Stands f' i y.stage) s.views id (counted v) (still f f' id v.stage refl refl refl refl refl refl (r.stands id v at))
            (λ i y other h'. still f f' i y.stage refl refl refl refl refl refl (r.stands i y h')) j u h)
            (λ (t : (j ≡ length vs) × (another v ≡ u)). subst (λ (x : View N E). Stands f' j x.stage) t.1 tt)
            (at_more vs (another v) u j e);
        logged = record { prefix = r.logged.prefix; own = r.logged.own; unmade = λ k le. r.logged.unmade k (omega (arith, le)) };
        home = r.home;
        out = λ b. let o = r.out b in
            (o.0, (o.1.0, at_longer vs (another v ∷ []) (f.holder f.served) o.1.0 (set_else s.views id (f.holder f.served) (counted v) (busy_elsewhere s r id v at (ap holds_it idle) o) ∙ o.1.1), o.1.2));
      }

  -- two idle passes are joined
  pub joins : (id : ℕ) (v : View N E) (other : ℕ) (w : View N E) → v.stage ≡ Idle → w.stage ≡ Idle → Joins Rule id v other w (both v w) spent
  joins id v other w idle idle' s r at apart there' =
      let f : Facts E = r.facts in
      let f' : Facts E = record f { keeper = put f.keeper other id } in
      let there : get_elem? s.views other ≡ some w = sym (set_else s.views id other (both v w) apart) ∙ there' in
      let known = r.knows id v at (subst IsLive (sym idle) tt) in
      let known' = r.knows other w there (subst IsLive (sym idle') tt) in
      let vs : List (View N E) = slice_set s.views id (both v w) in
      let below : other < f.seats = subst (λ n. other < n) r.count (at_below s.views other w there) in
      let sums = sum_set tickets_out s.views id v (both v w) at in
      let sums' = sum_set tickets_out vs other w spent there' in
      let none_out : tickets_out w ≡ 0 = ap ticket_count idle' in
      let total = r.tickets in
      let kept : (j : ℕ) (p : Part E) → j ≢ other → Took f j p → Took f' j p = λ j p n q. (q.0, put_else f.keeper other id p.number (λ e. n (sym q.1 ∙ (ap f.keeper e ∙ known'.3))) ∙ q.1, q.2) in record {
        facts = f';
        words = r.words;
        count = length-set vs other spent ∙ (length-set s.views id (both v w) ∙ r.count);
        few = r.few;
        tickets = omega (arith, sums, sums', none_out, total);
        fresh = λ k le. put_else f.keeper other id k (λ e. omega (arith, below, le, e)) ∙ r.fresh k le;
        knows = seats_stay (λ j u. IsLive u.stage → Knows name f' j u) vs other spent (λ l. absurd l)
            (λ j u n e. seats_stay (λ j u. j ≢ other → IsLive u.stage → Knows name f' j u) s.views id (both v w)
            (λ n _. (
              known.0,
              known.1,
              known.2,
              put_else f.keeper other id id n ∙ known.3,
              known.4,
              All-push (Took f' id) v.joined (part_of w) (All-weaker (Took f id) (Took f' id) (λ p q. kept id p n q) v.joined known.5)
                  ((λ e. n (sym e ∙ known'.1)), ap (put f.keeper other id) known'.1 ∙ put_here f.keeper other id, known'.4 ∙ ap f.part (sym known'.1)),
            ))
            (λ j u _ e n l. let k = r.knows j u e l in (k.0, k.1, k.2, put_else f.keeper other id j n ∙ k.3, k.4, All-weaker (Took f j) (Took f' j) (λ p q. kept j p n q) u.joined k.5))
            j u e n);
        stands = seats_stay (λ j u. Stands f' j u.stage) vs other spent tt
            (λ j u _ e. seats_stay (λ j u. Stands f' j u.stage) s.views id (both v w) (still f f' id v.stage refl refl refl refl refl refl (r.stands id v at))
            (λ j u _ e. still f f' j u.stage refl refl refl refl refl refl (r.stands j u e)) j u e);
        logged = r.logged;
        home = r.home;
        out = λ b. let o = r.out b in (
          o.0,
          (
            o.1.0,
            set_else vs other (f.holder f.served) spent (busy_elsewhere s r other w there (ap holds_it idle') o)
                ∙ (set_else s.views id (f.holder f.served) (both v w) (busy_elsewhere s r id v at (ap holds_it idle) o) ∙ o.1.1),
            o.1.2,
          ),
        );
      }

  -- the table as it is made: the value is at home, and there is one pass
  pub opens : (x : V) → name_of x ≡ name → log_of x ≡ [] → 0 < passes → passes ≤ most_workers → Rule (opening (0 ∷ 0 ∷ []) (Some x ∷ []) (opened name))
  opens x named bare some_pass few =
      let f : Facts E = record { seats = 1; drawn = 0; served = 0; log = []; part = λ _. []; keeper = λ k. k; holder = λ _. 0; busy = false } in
      let only : (j : ℕ) (u : View N E) → get_elem? (opened name ∷ []) j ≡ some u → (j ≡ 0) × (opened name ≡ u) = λ j u e. ⊎_elim (λ (h : get_elem? [] j ≡ some u). absurd (some-ne-none u (sym h))) (λ (t : (j ≡ 0) × (opened name ≡ u)). t) (at_more [] (opened name) u j e) in record {
        facts = f;
        words = refl;
        count = refl;
        few = (omega (arith, some_pass), few);
        tickets = refl;
        fresh = λ k le. refl;
        knows = λ j u e l. let t = only j u e in subst (λ (y : ℕ × View N E). Knows name f y.0 y.1) (λ i. (sym t.0 i, t.1 i)) (refl, refl, (λ _. refl), refl, refl, All-nil (Took f 0));
        stands = λ j u e. subst (λ (y : View N E). Stands f j y.stage) (only j u e).1 tt;
        logged = record { prefix = λ k. prefix_self []; own = λ k. refl; unmade = λ k le. refl };
        home = λ _. (x, refl, named, bare);
        out = λ b. true≢false (sym b);
      }

  -- once all passes are joined to the first, the value is at home, and its log is theirs
  pub closes : (id : ℕ) (v : View N E) (p : ShownPass N E) (rest : List (ShownPass N E)) → length (p ∷ rest) ≡ passes → ((i : ℕ) (q : ShownPass N E) → slice_get (p ∷ rest) i ≡ Some q → q.number ≡ i)
      → v.stage ≡ Idle → v.number ≡ p.number → v.seen ≡ p.seen → v.joined ≡ map as_part rest
      → (s : State (Option V) (View N E)) → Rule s → get_elem? s.views id ≡ some v
      → (x : V) × (s.homes ≡ some (Some x) ∷ []) × (name_of x ≡ name) × IsOfAll by (p ∷ rest) (log_of x)
  closes id v p rest count numbers idle number seen joined s r at =
      let f : Facts E = r.facts in
      let known = r.knows id v at (subst IsLive (sym idle) tt) in
      let zeroth : id ≡ 0 = sym known.1 ∙ (number ∙ numbers 0 p refl) in
      let took : (j : ℕ) (q : ShownPass N E) → slice_get rest j ≡ Some q → Took f id (as_part q) = λ j q e. all_at (Took f id) as_part rest j q (subst (All (Took f id)) joined known.5) e in
      let here : f.busy ≡ false = elim f.busy as (λ b. (b ≡ true → IsOut f s.homes s.views) → b ≡ false) [
        | true ↦ λ b. absurd (let o = b refl in
            let h : ℕ = f.holder f.served in
            let u : View N E = o.1.0 in
            let else : h ≢ id = busy_elsewhere s r id v at (ap holds_it idle) o in
            let keeps : f.keeper h ≡ h = (r.knows h u o.1.1 (subst IsLive (sym o.1.2) tt)).3 in
            let below : h < length (p ∷ rest) = (let lt = at_below s.views h u o.1.1 in let all = r.count in let few = r.few in omega (arith, lt, all, few, count)) in
            let q = get_there (p ∷ rest) h below in
            elsewhere f id h p rest q.0 q.1 (numbers h q.0 q.1) zeroth else keeps took)
        | false ↦ λ _. refl
      ] r.out in
      let home = r.home here in
      let x : V = home.0 in
      let log : log_of x ≡ f.log = home.3 in
      let parts : (i : ℕ) (q : ShownPass N E) → slice_get (p ∷ rest) i ≡ Some q → q.seen ≡ f.part i = parts_of f id v p rest zeroth seen known.4 numbers took in (
        x,
        home.1,
        home.2,
        subst (IsOfAll by (p ∷ rest)) (sym log) (
          (λ i q e. (subst (λ (l : List E). IsPrefix l f.log) (sym (parts i q e)) (r.logged.prefix i), r.logged.own i ∙ ap (entries_naming by i) (sym (parts i q e)))),
          named_below by (length (p ∷ rest)) f.log (λ k le. r.logged.own k ∙ ap (entries_naming by k) (r.logged.unmade k (let few = r.few in omega (arith, few, count, le)))),
        ),
      )

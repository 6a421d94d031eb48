-- What the machine answers, and that each answer is exact.
use Rattle.std.proofs.Common.{◌≡◌, ℕ, ◌+◌, Bool, true, false, List, [], ◌∷◌, ◌++◌, map, Option, Some, None, Result, Ok, Err, refl, sym, ap, subst, ◌∙◌}
use Rattle.std.specs.Prelude.{◌||◌, nat_lt}
use Rattle.std.proofs.lemmas.List.{append-nil}
use Rattle.pat_lexer_spec.specs.Tokens.{Spanned}
use Rattle.pat_parser_spec.specs.Trees.{Tree}
use Rattle.pat_parser_spec.specs.Items.{Item, Limits, bound_item, free_item, place_of}
use Rattle.pat_parser_spec.specs.Grammar.{Spells}
use Rattle.pat_parser_spec.specs.Machine.{State, Fault, Unexpected, TooDeep, Next, within, Move, Goes, Opens, Starts, Refused, settle, move, step, run, bind, begin, finish, placed, reads, ended, and_ended, parsed}
use Rattle.pat_parser_spec.specs.Claims.{SpellsTree, Begins, IsUnexpected, IsTooDeep, ClaimedFault, Claimed, ExactAnswer}
use Rattle.pat_parser_spec.specs.Claims as claims
use Rattle.pat_parser_laws.proofs.CompleteDecl.{spelled_parses}
use Rattle.pat_parser_laws.proofs.Built.{Built}
use Rattle.pat_parser_laws.proofs.Sound.{Leads, run_sound, begun, Gets, finish_sound}
use Rattle.pat_parser_laws.proofs.Owed.{owed_at, built_completes}

-- ---- runs in pieces

bind_same : (r : Next) (f g h : State → Next) → ((y : State) → h y ≡ bind (f y) g) → bind r h ≡ bind (bind r f) g
bind_same (Ok x) f g h same = same x
bind_same (Err e) f g h same = refl

run_append : (lim : Limits) (x : State) (ts us : List Item) → run lim x (ts ++ us) ≡ bind (run lim x ts) (λ y. run lim y us)
run_append lim x [] us = refl
run_append lim x (t ∷ ts) us = bind_same (step lim x t) (λ y. run lim y ts) (λ y. run lim y us) (λ y. run lim y (ts ++ us)) (λ y. run_append lim y ts us)

run_on : (lim : Limits) (x y : State) (ts us : List Item) → run lim x ts ≡ Ok y → run lim x (ts ++ us) ≡ run lim y us
run_on lim x y ts us h = run_append lim x ts us ∙ ap (λ (r : Next). bind r (λ z. run lim z us)) h

run_one : (lim : Limits) (x y : State) (t : Item) → step lim x t ≡ Ok y → run lim x (t ∷ []) ≡ Ok y
run_one lim x y t h = ap (λ (r : Next). bind r (λ z. Ok z)) h

at_ok : (r : Next) (y : State) (A : State → Type 0) → Leads r A → r ≡ Ok y → A y
at_ok r y A h e = subst (λ (q : Next). Leads q A) e h

err_not_ok : {A : Type 0} (e : Fault) (r : Next) (y : State) → r ≡ Err e → r ≡ Ok y → A
err_not_ok e (Ok z) y h g = absurd cc
err_not_ok e (Err d) y h g = absurd cc

-- a run that comes through has come through each first part
record Through (lim : Limits) (x : State) (ts : List Item) : Type 0 where
  pub state : State
  pub runs : run lim x ts ≡ Ok state

through_of : (lim : Limits) (x y : State) (ts us : List Item) (r : Next) → run lim x ts ≡ r → bind r (λ z. run lim z us) ≡ Ok y → Through lim x ts
through_of lim x y ts us (Ok z) h g = record { state = z; runs = h }
through_of lim x y ts us (Err e) h g = absurd cc

through : (lim : Limits) (x y : State) (ts us : List Item) → run lim x (ts ++ us) ≡ Ok y → Through lim x ts
through lim x y ts us h = through_of lim x y ts us (run lim x ts) refl (sym (run_append lim x ts us) ∙ h)

-- ---- a token made free has the same answer, or goes on where it was too deep

abbrev Freed : Next → Next → Type 0
Freed (Ok y) r = r ≡ Ok y
Freed (Err Unexpected) r = r ≡ Err Unexpected
Freed (Err TooDeep) r = (y : State) × (r ≡ Ok y)

within_freed : (b : Bool) (y : State) → Freed (within b y) (within true y)
within_freed true y = refl
within_freed false y = (y, refl)

settle_freed : (lim : Limits) (f : Bool) (m : Move) → Freed (settle lim f m) (settle lim true m)
settle_freed lim f (Goes y) = refl
settle_freed lim f (Opens o k y) = within_freed (f || nat_lt (o + k) lim.tokens) y
settle_freed lim f (Starts s y) = within_freed (f || nat_lt s lim.statements) y
settle_freed lim f Refused = refl

step_freed : (lim : Limits) (x : State) (t : Spanned) → Freed (step lim x (bound_item t)) (step lim x (free_item t))
step_freed lim x t = settle_freed lim false (move x.control x.stack x.opened x.operators x.statements t.token (place_of (bound_item t).1))

freed_on : (lim : Limits) (ts : List Spanned) (y : State) (r q : Next) → Freed r q → bind r (λ z. run lim z (map bound_item ts)) ≡ Ok y → ((z : State) → run lim z (map bound_item ts) ≡ Ok y → run lim z (map free_item ts) ≡ Ok y) → bind q (λ z. run lim z (map free_item ts)) ≡ Ok y
freed_on lim ts y (Ok z) q g h ih = ap (λ (u : Next). bind u (λ z. run lim z (map free_item ts))) g ∙ ih z h
freed_on lim ts y (Err e) q g h ih = absurd cc

run_freed : (lim : Limits) (x : State) (ts : List Spanned) (y : State) → run lim x (map bound_item ts) ≡ Ok y → run lim x (map free_item ts) ≡ Ok y
run_freed lim x [] y h = h
run_freed lim x (t ∷ ts) y h = freed_on lim ts y (step lim x (bound_item t)) (step lim x (free_item t)) (step_freed lim x t) h (λ z g. run_freed lim z ts y g)

map_snoc : {A B : Type 0} (f : A → B) (xs : List A) (x : A) → map f (xs ++ x ∷ []) ≡ map f xs ++ f x ∷ []
map_snoc f [] x = refl
map_snoc f (y ∷ xs) x = ap (λ (w : List _). f y ∷ w) (map_snoc f xs x)

map_over : {A B : Type 0} (f : A → B) (xs ys : List A) (x : A) → map f (xs ++ x ∷ ys) ≡ map f xs ++ f x ∷ map f ys
map_over f [] ys x = refl
map_over f (y ∷ xs) ys x = ap (λ (w : List _). f y ∷ w) (map_over f xs ys x)

-- ---- tokens that are read begin a program

viable : (lim : Limits) (ts : List Item) (x : State) → run lim begin ts ≡ Ok x → Begins lim ts
viable lim ts x h =
    let none : Built lim begin (ts ++ []) (ts ++ []) = begun lim (ts ++ []) in
    let here = at_ok (run lim begin ts) x (λ z. Built lim z (ts ++ []) []) (run_sound lim begin (ts ++ []) ts [] none) h in
    let c = built_completes lim here in
    let us = map free_item (owed_at x.control x.stack) in
    let all = at_ok (run lim begin ts) x (λ z. Built lim z (ts ++ us) us) (run_sound lim begin (ts ++ us) ts us (begun lim (ts ++ us))) h in
    let end = at_ok (run lim x us) c.after (λ z. Built lim z (ts ++ us) []) (run_sound lim x (ts ++ us) us [] (subst (λ (w : List Item). Built lim x (ts ++ us) w) (sym (append-nil us)) all)) c.runs in
    record { rest = owed_at x.control x.stack; tree = c.tree; spelled = subst (λ (q : Option Tree). Gets q (λ r. Spells lim (ts ++ us) r)) c.ends_as (finish_sound lim c.after (ts ++ us) end) }

-- what begins a program is read
begins_through : (lim : Limits) (ts : List Item) → Begins lim ts → Through lim begin ts
begins_through lim ts b =
    let p = spelled_parses lim (ts ++ map free_item b.rest) b.tree b.spelled in
    through lim begin p.after ts (map free_item b.rest) p.runs

-- what is refused begins none
refused_begins : (lim : Limits) (ts : List Item) (t : Item) (x : State) (e : Fault) → run lim begin ts ≡ Ok x → step lim x t ≡ Err e → Begins lim (ts ++ t ∷ []) → ⊥
refused_begins lim ts t x e h g b =
    let r = begins_through lim (ts ++ t ∷ []) b in
    err_not_ok e (run lim begin (ts ++ t ∷ [])) r.state (run_on lim begin x ts (t ∷ []) h ∙ ap (λ (q : Next). bind q (λ z. Ok z)) g) r.runs

unexpected_begins : (lim : Limits) (ts : List Spanned) (t : Spanned) (x : State) → run lim begin (map bound_item ts) ≡ Ok x → step lim x (bound_item t) ≡ Err Unexpected → Begins lim (map free_item (ts ++ t ∷ [])) → ⊥
unexpected_begins lim ts t x h g b =
    let stays : step lim x (free_item t) ≡ Err Unexpected = subst (λ (q : Next). Freed q (step lim x (free_item t))) g (step_freed lim x t) in
    refused_begins lim (map free_item ts) (free_item t) x Unexpected (run_freed lim begin ts x h) stays (subst (λ (w : List Item). Begins lim w) (map_snoc free_item ts t) b)

too_deep_begins : (lim : Limits) (ts : List Spanned) (t : Spanned) (x : State) → run lim begin (map bound_item ts) ≡ Ok x → step lim x (bound_item t) ≡ Err TooDeep → Begins lim (map bound_item ts ++ free_item t ∷ [])
too_deep_begins lim ts t x h g =
    let y = subst (λ (q : Next). Freed q (step lim x (free_item t))) g (step_freed lim x t) in
    viable lim (map bound_item ts ++ free_item t ∷ []) y.0 (run_on lim begin x (map bound_item ts) (free_item t ∷ []) h ∙ run_one lim x y.0 (free_item t) y.1)

too_deep_none : (lim : Limits) (ts : List Spanned) (t : Spanned) (x : State) → run lim begin (map bound_item ts) ≡ Ok x → step lim x (bound_item t) ≡ Err TooDeep → Begins lim (map bound_item (ts ++ t ∷ [])) → ⊥
too_deep_none lim ts t x h g b = refused_begins lim (map bound_item ts) (bound_item t) x TooDeep h g (subst (λ (w : List Item). Begins lim w) (map_snoc bound_item ts t) b)

none_of : (q : Option Tree) (m : Tree) → q ≡ None → q ≡ Some m → ⊥
none_of (Some x) m h g = cc
none_of None m h g = cc

abbrev finish_of : Next → Option Tree
finish_of (Ok z) = finish z
finish_of (Err e) = None

end_none : (lim : Limits) (ts : List Spanned) (x : State) → run lim begin (map bound_item ts) ≡ Ok x → finish x ≡ None → (m : Tree) → Spells lim (map free_item ts) m → ⊥
end_none lim ts x h g m d =
    let p = spelled_parses lim (map free_item ts) m d in
    none_of (finish x) m g (ap finish_of (sym (run_freed lim begin ts x h) ∙ p.runs) ∙ p.tree)

-- ---- each answer claims what is so

-- where a run was refused
record RefusedAt (lim : Limits) (x : State) (ts : List Spanned) (e : Fault) (o : ℕ) : Type 0 where
  pub before : List Spanned
  pub token : Spanned
  pub behind : List Spanned
  pub state : State
  pub parts : ts ≡ before ++ token ∷ behind
  pub place : o ≡ token.from
  pub runs : run lim x (map bound_item before) ≡ Ok state
  pub fails : step lim state (bound_item token) ≡ Err e

abbrev Outcome : Limits → State → List Spanned → Result State (Fault × ℕ) → Type 0
Outcome lim x ts (Ok y) = run lim x (map bound_item ts) ≡ Ok y
Outcome lim x ts (Err e) = RefusedAt lim x ts e.0 e.1

later : (lim : Limits) (x y : State) (t : Spanned) (ts : List Spanned) (r : Result State (Fault × ℕ)) → step lim x (bound_item t) ≡ Ok y → Outcome lim y ts r → Outcome lim x (t ∷ ts) r
later lim x y t ts (Ok z) h g = ap (λ (q : Next). bind q (λ v. run lim v (map bound_item ts))) h ∙ g
later lim x y t ts (Err e) h g = record { before = t ∷ g.before; token = g.token; behind = g.behind; state = g.state; parts = ap (λ (w : List Spanned). t ∷ w) g.parts; place = g.place; runs = ap (λ (q : Next). bind q (λ v. run lim v (map bound_item g.before))) h ∙ g.runs; fails = g.fails }

step_outcome : (lim : Limits) (x : State) (t : Spanned) (ts : List Spanned) (r : Next) → step lim x (bound_item t) ≡ r → ((y : State) → Outcome lim y ts (reads lim y (map bound_item ts))) → Outcome lim x (t ∷ ts) (placed t.from r (λ y. reads lim y (map bound_item ts)))
step_outcome lim x t ts (Err e) h f = record { before = []; token = t; behind = ts; state = x; parts = refl; place = refl; runs = refl; fails = h }
step_outcome lim x t ts (Ok y) h f = later lim x y t ts (reads lim y (map bound_item ts)) h (f y)

outcome : (lim : Limits) (x : State) (ts : List Spanned) → Outcome lim x ts (reads lim x (map bound_item ts))
outcome lim x [] = refl
outcome lim x (t ∷ ts) = step_outcome lim x t ts (step lim x (bound_item t)) refl (λ y. outcome lim y ts)

fault_claimed : (lim : Limits) (end : ℕ) (ts us : List Spanned) (t : Spanned) (x : State) (e : Fault) → run lim begin (map bound_item ts) ≡ Ok x → step lim x (bound_item t) ≡ Err e → ClaimedFault lim end (ts ++ t ∷ us) e t.from
fault_claimed lim end ts us t x Unexpected h g = claims.IsUnexpected.at_token ts us t (viable lim (map bound_item ts) x h) (unexpected_begins lim ts t x h g)
fault_claimed lim end ts us t x TooDeep h g = claims.IsTooDeep.at_token ts us t (too_deep_begins lim ts t x h g) (too_deep_none lim ts t x h g)

refused_claimed : (lim : Limits) (end : ℕ) (ts : List Spanned) (e : Fault) (o : ℕ) → RefusedAt lim begin ts e o → ClaimedFault lim end ts e o
refused_claimed lim end ts e o r =
    let f = fault_claimed lim end r.before r.behind r.token r.state e r.runs r.fails in
    subst (λ (w : List Spanned). ClaimedFault lim end w e o) (sym r.parts) (subst (λ (n : ℕ). ClaimedFault lim end (r.before ++ r.token ∷ r.behind) e n) (sym r.place) f)

ended_claimed : (lim : Limits) (end : ℕ) (ts : List Spanned) (y : State) (q : Option Tree) → run lim begin (map bound_item ts) ≡ Ok y → finish y ≡ q → Gets q (λ r. SpellsTree lim ts r) → Claimed lim end ts (ended end q)
ended_claimed lim end ts y (Some m) h g s = s
ended_claimed lim end ts y None h g s = claims.IsUnexpected.at_end ts (viable lim (map bound_item ts) y h) (end_none lim ts y h g)

finished : (lim : Limits) (ts : List Item) (y : State) → run lim begin ts ≡ Ok y → Gets (finish y) (λ r. Spells lim ts r)
finished lim ts y h =
    let b = at_ok (run lim begin ts) y (λ z. Built lim z (ts ++ []) []) (run_sound lim begin (ts ++ []) ts [] (begun lim (ts ++ []))) h in
    finish_sound lim y ts (subst (λ (w : List Item). Built lim y w []) (append-nil ts) b)

run_claimed : (lim : Limits) (end : ℕ) (ts : List Spanned) (r : Result State (Fault × ℕ)) → Outcome lim begin ts r → Claimed lim end ts (and_ended end r)
run_claimed lim end ts (Ok y) h = ended_claimed lim end ts y (finish y) h refl (finished lim (map bound_item ts) y h)
run_claimed lim end ts (Err e) h = refused_claimed lim end ts e.0 e.1 h

pub parsed_claimed : (lim : Limits) (end : ℕ) (ts : List Spanned) → Claimed lim end ts (parsed lim end (map bound_item ts))
parsed_claimed lim end ts = run_claimed lim end ts (reads lim begin (map bound_item ts)) (outcome lim begin ts)

-- ---- and what is so is answered

reads_step : (lim : Limits) (y : State) (t : Item) (ts : List Item) (r : Next) → bind r (λ z. run lim z ts) ≡ Ok y → ((z : State) → run lim z ts ≡ Ok y → reads lim z ts ≡ Ok y) → placed t.1.from r (λ z. reads lim z ts) ≡ Ok y
reads_step lim y t ts (Ok z) h f = f z h
reads_step lim y t ts (Err e) h f = absurd cc

reads_ok : (lim : Limits) (x y : State) (ts : List Item) → run lim x ts ≡ Ok y → reads lim x ts ≡ Ok y
reads_ok lim x y [] h = ap over h
  where
    over : Next → Result State (Fault × ℕ)
    over (Ok z) = Ok z
    over (Err e) = Err (e, 0)
reads_ok lim x y (t ∷ ts) h = reads_step lim y t ts (step lim x t) h (λ z g. reads_ok lim z y ts g)

abbrev state_of : Next → State
state_of (Ok z) = z
state_of (Err e) = begin

on_step : (lim : Limits) (y : State) (t : Item) (ts us : List Item) (r : Next) → bind r (λ z. run lim z ts) ≡ Ok y → ((z : State) → run lim z ts ≡ Ok y → reads lim z (ts ++ us) ≡ reads lim y us) → placed t.1.from r (λ z. reads lim z (ts ++ us)) ≡ reads lim y us
on_step lim y t ts us (Ok z) h f = f z h
on_step lim y t ts us (Err e) h f = absurd cc

reads_on : (lim : Limits) (x y : State) (ts us : List Item) → run lim x ts ≡ Ok y → reads lim x (ts ++ us) ≡ reads lim y us
reads_on lim x y [] us h = ap (λ (r : Next). reads lim (state_of r) us) h
reads_on lim x y (t ∷ ts) us h = on_step lim y t ts us (step lim x t) h (λ z g. reads_on lim z y ts us g)

pub spelled_parsed : (lim : Limits) (end : ℕ) (ts : List Spanned) (m : Tree) → SpellsTree lim ts m → parsed lim end (map bound_item ts) ≡ Ok m
spelled_parsed lim end ts m d =
    let p = spelled_parses lim (map bound_item ts) m d in
    ap (and_ended end) (reads_ok lim begin p.after (map bound_item ts) p.runs) ∙ ap (ended end) p.tree

-- a token that is refused at the state behind those before it
parsed_err : (lim : Limits) (end : ℕ) (ts us : List Spanned) (t : Spanned) (x : State) (e : Fault) → run lim begin (map bound_item ts) ≡ Ok x → step lim x (bound_item t) ≡ Err e → parsed lim end (map bound_item (ts ++ t ∷ us)) ≡ Err (e, t.from)
parsed_err lim end ts us t x e h g =
    ap (λ (w : List Item). parsed lim end w) (map_over bound_item ts us t)
    ∙ ap (and_ended end) (reads_on lim begin x (map bound_item ts) (bound_item t ∷ map bound_item us) h ∙ ap (λ (r : Next). placed t.from r (λ z. reads lim z (map bound_item us))) g)

-- the step isn't Ok and isn't too deep, or a program would begin so
free_on : (lim : Limits) (ts : List Spanned) (t : Spanned) (x y : State) → run lim begin (map bound_item ts) ≡ Ok x → step lim x (free_item t) ≡ Ok y → Begins lim (map free_item (ts ++ t ∷ []))
free_on lim ts t x y h g = subst (λ (w : List Item). Begins lim w) (sym (map_snoc free_item ts t)) (viable lim (map free_item ts ++ free_item t ∷ []) y (run_on lim begin x (map free_item ts) (free_item t ∷ []) (run_freed lim begin ts x h) ∙ run_one lim x y (free_item t) g))

not_expected : (lim : Limits) (ts : List Spanned) (t : Spanned) (x : State) (r : Next) → step lim x (bound_item t) ≡ r → run lim begin (map bound_item ts) ≡ Ok x → (Begins lim (map free_item (ts ++ t ∷ [])) → ⊥) → r ≡ Err Unexpected
not_expected lim ts t x (Ok y) g h none = absurd (none (free_on lim ts t x y h (subst (λ (q : Next). Freed q (step lim x (free_item t))) g (step_freed lim x t))))
not_expected lim ts t x (Err TooDeep) g h none = let y = subst (λ (q : Next). Freed q (step lim x (free_item t))) g (step_freed lim x t) in absurd (none (free_on lim ts t x y.0 h y.1))
not_expected lim ts t x (Err Unexpected) g h none = refl

unspelled : (lim : Limits) (end : ℕ) (ts : List Spanned) (x : State) (q : Option Tree) → run lim begin (map bound_item ts) ≡ Ok x → finish x ≡ q → ((m : Tree) → Spells lim (map free_item ts) m → ⊥) → ended end q ≡ Err (Unexpected, end)
unspelled lim end ts x (Some m) h g none = absurd (none m (subst (λ (q : Option Tree). Gets q (λ r. Spells lim (map free_item ts) r)) g (finished lim (map free_item ts) x (run_freed lim begin ts x h))))
unspelled lim end ts x None h g none = refl

pub unexpected_parsed : (lim : Limits) (end : ℕ) (ts : List Spanned) (o : ℕ) → IsUnexpected lim end ts o → parsed lim end (map bound_item ts) ≡ Err (Unexpected, o)
unexpected_parsed lim end ts o (claims.IsUnexpected.at_token before behind t b none) =
    let x = begins_through lim (map bound_item before) b in
    parsed_err lim end before behind t x.state Unexpected x.runs (not_expected lim before t x.state (step lim x.state (bound_item t)) refl x.runs none)
unexpected_parsed lim end ts o (claims.IsUnexpected.at_end us b none) =
    let x = begins_through lim (map bound_item ts) b in
    ap (and_ended end) (reads_ok lim begin x.state (map bound_item ts) x.runs) ∙ unspelled lim end ts x.state (finish x.state) x.runs refl none

-- the free token goes on, and the bound one doesn't
not_room : (lim : Limits) (ts : List Spanned) (t : Spanned) (x y : State) (r : Next) → step lim x (bound_item t) ≡ r → run lim begin (map bound_item ts) ≡ Ok x → step lim x (free_item t) ≡ Ok y → (Begins lim (map bound_item (ts ++ t ∷ [])) → ⊥) → r ≡ Err TooDeep
not_room lim ts t x y (Ok z) g h f none = absurd (none (subst (λ (w : List Item). Begins lim w) (sym (map_snoc bound_item ts t)) (viable lim (map bound_item ts ++ bound_item t ∷ []) z (run_on lim begin x (map bound_item ts) (bound_item t ∷ []) h ∙ run_one lim x z (bound_item t) g))))
not_room lim ts t x y (Err TooDeep) g h f none = refl
not_room lim ts t x y (Err Unexpected) g h f none = err_not_ok Unexpected (step lim x (free_item t)) y (subst (λ (q : Next). Freed q (step lim x (free_item t))) g (step_freed lim x t)) f

step_of : (lim : Limits) (x y : State) (t : Item) (r : Next) → step lim x t ≡ r → bind r (λ z. Ok z) ≡ Ok y → r ≡ Ok y
step_of lim x y t (Ok z) h g = g
step_of lim x y t (Err e) h g = absurd cc

pub too_deep_parsed : (lim : Limits) (end : ℕ) (ts : List Spanned) (o : ℕ) → IsTooDeep lim ts o → parsed lim end (map bound_item ts) ≡ Err (TooDeep, o)
too_deep_parsed lim end ts o (claims.IsTooDeep.at_token before behind t b none) =
    let all = begins_through lim (map bound_item before ++ free_item t ∷ []) b in
    let x = through lim begin all.state (map bound_item before) (free_item t ∷ []) all.runs in
    let last = sym (run_on lim begin x.state (map bound_item before) (free_item t ∷ []) x.runs) ∙ all.runs in
    let free = step_of lim x.state all.state (free_item t) (step lim x.state (free_item t)) refl last in
    parsed_err lim end before behind t x.state TooDeep x.runs (not_room lim before t x.state all.state (step lim x.state (bound_item t)) refl x.runs free none)

pub exact_answer : (lim : Limits) (end : ℕ) (ts : List Spanned) → ExactAnswer lim end ts
exact_answer lim end ts = record { is_so = parsed_claimed lim end ts; tree = spelled_parsed lim end ts; unexpected = unexpected_parsed lim end ts; too_deep = too_deep_parsed lim end ts }

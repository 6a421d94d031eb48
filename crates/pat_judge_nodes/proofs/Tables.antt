-- The table of one pass has for each node the node that it is a part of.
use Rattle.std.proofs.Common.{◌≡◌, ℕ, zero, suc, ◌+◌, ◌<◌, ◌≤◌, Bool, true, false, ◌||◌, nat_eq, if◌then◌else◌, List, [], ◌∷◌, ◌++◌, length, map, get_or, replicate, Option, Some, None, Result, Ok, Err, refl, sym, ap, ◌∙◌, subst, arith, length-set}
use Rattle.std.specs.Prelude.{slice_get, slice_set, IfOk}
use Rattle.std.proofs.lemmas.Bool.{eqb-true, eqb-false}
use Rattle.std.proofs.lemmas.Option.{get_or_from_slice_get}
use Rattle.std.proofs.lemmas.List.{length-map, set_past}
use Rattle.pat_core.specs.declared.program.Program.{Program as CodeProgram}
use Rattle.pat_core.specs.Views.{node_view, program_view}
use Rattle.pat_semantics_spec.specs.Programs.{Node, Program, parts, is_among}
use Rattle.pat_derivation_spec.specs.Scopes.{above_from, node_above}
use Rattle.pat_judge_nodes.specs.scopes.Upwards.{AreAbove, marked, marked_from}

pub marked_both : (ms ns : List ℕ) (k : ℕ) (above : List (Option ℕ)) → marked (ms ++ ns) k above ≡ marked ns k (marked ms k above)
marked_both [] ns k above = refl
marked_both (m ∷ ms) ns k above = marked_both ms ns k (slice_set above m (Some k))

length_marked : (ms : List ℕ) (k : ℕ) (above : List (Option ℕ)) → length (marked ms k above) ≡ length above
length_marked [] k above = refl
length_marked (m ∷ ms) k above = length_marked ms k (slice_set above m (Some k)) ∙ length-set above m (Some k)

set_same : (above : List (Option ℕ)) (n : ℕ) (y : Option ℕ) → n < length above → slice_get (slice_set above n y) n ≡ Some y
set_same [] n y l = absurd (omega arith)
set_same (x ∷ xs) zero y l = refl
set_same (x ∷ xs) (suc n) y l = set_same xs n y (omega arith)

set_other : (above : List (Option ℕ)) (m n : ℕ) (y : Option ℕ) → (m ≡ n → ⊥) → slice_get (slice_set above m y) n ≡ slice_get above n
set_other [] m n y other = refl
set_other (x ∷ xs) zero zero y other = absurd (other refl)
set_other (x ∷ xs) zero (suc n) y other = refl
set_other (x ∷ xs) (suc m) zero y other = refl
set_other (x ∷ xs) (suc m) (suc n) y other = set_other xs m n y (λ e. other (ap suc e))

set_at : (above : List (Option ℕ)) (m n : ℕ) (y : Option ℕ) → n < length above → slice_get (slice_set above m y) n ≡ (if nat_eq n m then Some y else slice_get above n)
set_at above m n y l = go (nat_eq n m) refl
  where
    go : (b : Bool) → nat_eq n m ≡ b → slice_get (slice_set above m y) n ≡ (if b then Some y else slice_get above n)
    go true q = ap (λ k. slice_get (slice_set above k y) n) (sym (eqb-true n m q)) ∙ set_same above n y l
    go false q = set_other above m n y (λ e. eqb-false n m q (sym e))

marked_at : (ms : List ℕ) (k n : ℕ) (above : List (Option ℕ)) → n < length above → slice_get (marked ms k above) n ≡ (if is_among n ms then Some (Some k) else slice_get above n)
marked_at [] k n above l = refl
marked_at (m ∷ ms) k n above l =
    let inside : n < length (slice_set above m (Some k)) = subst (λ j. n < j) (sym (length-set above m (Some k))) l in
    marked_at ms k n (slice_set above m (Some k)) inside
    ∙ ap (λ o. if is_among n ms then Some (Some k) else o) (set_at above m n (Some k) l)
    ∙ either (is_among n ms) (nat_eq n m)
  where
    either : (b c : Bool) → (if b then Some (Some k) else (if c then Some (Some k) else slice_get above n)) ≡ (if c || b then Some (Some k) else slice_get above n)
    either true true = refl
    either true false = refl
    either false true = refl
    either false false = refl

abbrev nothing : ℕ → List (Option ℕ)
nothing count = replicate count None

length_nothing : (count : ℕ) → length (nothing count) ≡ count
length_nothing zero = refl
length_nothing (suc count) = ap suc (length_nothing count)

nothing_at : (count n : ℕ) → n < count → slice_get (nothing count) n ≡ Some None
nothing_at zero n l = absurd (omega arith)
nothing_at (suc count) zero l = refl
nothing_at (suc count) (suc n) l = nothing_at count n (omega arith)

length_marked_from : (count k : ℕ) (ds : List Node) → length (marked_from count k ds) ≡ count
length_marked_from count k [] = length_nothing count
length_marked_from count k (d ∷ ds) = length_marked (parts d.core) k (marked_from count (suc k) ds) ∙ length_marked_from count (suc k) ds

marked_from_at : (count k n : ℕ) (ds : List Node) → n < count → slice_get (marked_from count k ds) n ≡ Some (above_from k ds n)
marked_from_at count k n [] l = nothing_at count n l
marked_from_at count k n (d ∷ ds) l =
    marked_at (parts d.core) k n (marked_from count (suc k) ds) (subst (λ j. n < j) (sym (length_marked_from count (suc k) ds)) l)
    ∙ ap (λ o. if is_among n (parts d.core) then Some (Some k) else o) (marked_from_at count (suc k) n ds l)
    ∙ outside (is_among n (parts d.core))
  where
    outside : (b : Bool) → (if b then Some (Some k) else Some (above_from (suc k) ds n)) ≡ Some (if b then Some k else above_from (suc k) ds n)
    outside true = refl
    outside false = refl

pub are_above : (p : CodeProgram) (above : List (Option ℕ)) → above ≡ marked_from (length p.nodes) 0 (map node_view p.nodes) → AreAbove (program_view p) above
are_above p above same = (long, each)
  where
    count : length p.nodes ≡ length (map node_view p.nodes)
    count = sym (length-map p.nodes node_view)

    long : length above ≡ length (map node_view p.nodes)
    long = ap length same ∙ length_marked_from (length p.nodes) 0 (map node_view p.nodes) ∙ count

    each : (n : ℕ) → n < length (map node_view p.nodes) → slice_get above n ≡ Some (node_above (program_view p) n)
    each n l = ap (λ t. slice_get t n) same ∙ marked_from_at (length p.nodes) 0 n (map node_view p.nodes) (subst (λ j. n < j) (sym count) l)

-- a node above is a node
above_inside : (k : ℕ) (ds : List Node) (n j : ℕ) → above_from k ds n ≡ Some j → j < k + length ds
above_inside k [] n j h = absurd (cc)
above_inside k (d ∷ ds) n j h = go (is_among n (parts d.core)) h (above_inside (suc k) ds n j)
  where
    go : (b : Bool) → (if b then Some k else above_from (suc k) ds n) ≡ Some j → (above_from (suc k) ds n ≡ Some j → j < suc k + length ds) → j < k + suc (length ds)
    go true q deeper = let e : k ≡ j = cc in omega arith
    go false q deeper = let l : j < suc k + length ds = deeper q in omega (arith, l)

pub next_inside : (p : Program) (n j : ℕ) → node_above p n ≡ Some j → j < length p.nodes
next_inside p n j h = let l = above_inside 0 p.nodes n j h in omega (arith, l)

pub past_all : (above : List (Option ℕ)) (m k : ℕ) → length above ≤ m → slice_set above m (Some k) ≡ above
past_all above m k l = set_past above m (Some k) l

pub table_above : {E : Type 0} (p : CodeProgram) (r : Result (List (Option ℕ)) E) → IfOk r (λ a. a ≡ marked_from (length p.nodes) 0 (map node_view p.nodes)) → IfOk r (λ a. AreAbove (program_view p) a)
table_above p (Ok above) same = are_above p above same
table_above p (Err e) same = tt

-- the entry of a node is the node above it
pub is_above : (p : CodeProgram) (above : List (Option ℕ)) (n k : ℕ) → AreAbove (program_view p) above → n < length p.nodes → get_or above n None ≡ Some k → node_above (program_view p) n ≡ Some k
is_above p above n k table inside is =
    let long = length-map p.nodes node_view in
    let there : n < length (map node_view p.nodes) = omega (arith, inside, long) in
    sym (get_or_from_slice_get above n (node_above (program_view p) n) None (table.1 n there)) ∙ is

pub up_inside : (p : CodeProgram) (above : List (Option ℕ)) (at next : ℕ) → AreAbove (program_view p) above → at < length p.nodes → get_or above at None ≡ Some next → next < length (map node_view p.nodes)
up_inside p above at next table inside is = next_inside (program_view p) at next (is_above p above at next table inside is)

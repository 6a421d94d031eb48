-- A table of the bound parts of lets, made from the last node to the first.
use Rattle.std.proofs.Common.{◌≡◌, ℕ, zero, suc, ◌+◌, ◌-◌, ◌<◌, ◌≤◌, true, ◌||◌, false, nat_eq, if◌then◌else◌, List, [], ◌∷◌, ◌++◌, length, map, drop, get_or, Option, Some, None, refl, sym, ap, ◌∙◌, arith, ⊎_elim, slice_get, slice_set}
use Rattle.std.specs.Prelude.{unwrap_or, option_map, IsTrue}
use Rattle.std.proofs.lemmas.Bool.{or_left, or_right, eq-eqb, eqb-true, ne_eqb, cases_lt, cases_Bool, false≢true}
use Rattle.std.proofs.lemmas.List.{length-set, length-map, length-append, get_or-set_same, get_or-set_other}
use Rattle.std.proofs.lemmas.Option.{slice_get-map, slice_get_past, slice_get-get_or, slice_get_within}
use Rattle.std.proofs.Math.Seq.{drop-length}
use Rattle.pat_semantics_spec.specs.Programs.{Core, Val, Let, Call, If, Print, New, Send, Spawn, Guard, Node, Program, parts, is_among}
use Rattle.pat_semantics_spec.specs.WellFormed.{WellFormed}
use Rattle.pat_type_system_spec.specs.Holdings.{let_bound, first_of_two, bound_of}
use Rattle.pat_core.specs.declared.program.Node.{Node as CodeNode}
use Rattle.pat_core.specs.Views.{core_view, node_view}
use Rattle.pat_checkpoint_balances.specs.Tables.{bound_in, Notes}

abbrev pub Table : Type 0
Table = List (Option ℕ)

-- ---- before a node is looked at

pub record IsEmptyTable (n : ℕ) (bounds : Table) : Type 0 where
  pub counts : length bounds ≡ n
  pub empty : (b : ℕ) → bound_in bounds b ≡ None

nothing_in : (b : ℕ) → bound_in [] b ≡ None
nothing_in b = ap (λ o. unwrap_or o None) (slice_get_past [] b (omega arith))

pub empty_start : IsEmptyTable 0 []
empty_start = record { counts = refl; empty = nothing_in }

one_more_none : (bounds : Table) (b : ℕ) → ((k : ℕ) → bound_in bounds k ≡ None) → bound_in (bounds ++ None ∷ []) b ≡ None
one_more_none [] zero h = refl
one_more_none [] (suc b) h = nothing_in b
one_more_none (o ∷ os) zero h = h zero
one_more_none (o ∷ os) (suc b) h = one_more_none os b (λ k. h (suc k))

pub empty_more : (n : ℕ) (bounds more : Table) → IsEmptyTable n bounds → more ≡ bounds ++ None ∷ [] → IsEmptyTable (n + 1) more
empty_more n bounds more e is = record {
  counts = ap length is ∙ (let h = length-append bounds (None ∷ []) in let k = e.counts in omega arith);
  empty = λ b. ap (λ l. bound_in l b) is ∙ one_more_none bounds b e.empty;
}

-- ---- from a node on

-- at each body the table has the bound part of the first let from node n on
pub record TellsFrom (nodes : List Node) (n : ℕ) (bounds : Table) : Type 0 where
  pub counts : length bounds ≡ length nodes
  pub tells : (b : ℕ) → b < length bounds → bound_in bounds b ≡ bound_of (drop n nodes) b

pub tells_start : (nodes : List CodeNode) (n : ℕ) (bounds : Table) → n ≡ length nodes → IsEmptyTable n bounds → TellsFrom (map node_view nodes) n bounds
tells_start nodes n bounds is e =
    let counted = length-map nodes node_view in record {
      counts = let k = e.counts in omega arith;
      tells = λ b less. e.empty b ∙ sym (ap (λ l. bound_of l b) (ap (λ k. drop k (map node_view nodes)) (let whole : n ≡ length (map node_view nodes) = omega arith in whole) ∙ drop-length (map node_view nodes)));
    }

drop_at : {A : Type 0} (xs : List A) (n : ℕ) (x : A) → slice_get xs n ≡ Some x → drop n xs ≡ x ∷ drop (suc n) xs
drop_at [] zero x h = cc
drop_at [] (suc n) x h = cc
drop_at (y ∷ ys) zero x h = let same : y ≡ x = cc in ap (λ z. z ∷ ys) same
drop_at (y ∷ ys) (suc n) x h = drop_at ys n x h

pub tells_before : (nodes : List CodeNode) (n k : ℕ) (d : CodeNode) (old new : Table) → n ≡ suc k → n ≤ length nodes → d ≡ get_or nodes k d → TellsFrom (map node_view nodes) n old → Notes (core_view d.core) old new → TellsFrom (map node_view nodes) k new
tells_before nodes n k d old new next within at t h =
    let there : slice_get (map node_view nodes) k ≡ Some (node_view d) =
    slice_get-map node_view nodes k ∙ ap (option_map node_view) (slice_get-get_or nodes k d (omega arith) ∙ ap Some (sym at))
    in record {
      counts = h.counts ∙ t.counts;
      tells = λ b less.
          let same = h.counts in
          h.notes b (omega arith)
          ∙ ap (first_of_two (let_bound b (core_view d.core))) (t.tells b (omega arith) ∙ ap (λ j. bound_of (drop j (map node_view nodes)) b) next)
          ∙ sym (ap (λ l. bound_of l b) (drop_at (map node_view nodes) k (node_view d) there));
    }

-- ---- one term

pub notes_let : (x : Option ℕ) (m b0 : ℕ) (old new : Table) → b0 < length old → new ≡ slice_set old b0 (Some m) → Notes (Let x m b0) old new
notes_let x m b0 old new within is =
    let counted = length-set old b0 (Some m) in record {
      counts = ap length is ∙ counted;
      notes = λ b less. ap (λ l. bound_in l b) is ∙ at b less (nat_eq b b0) refl;
    }
  where
    at : (b : ℕ) → b < length old → (q : _) → nat_eq b b0 ≡ q → bound_in (slice_set old b0 (Some m)) b ≡ first_of_two (if nat_eq b b0 then Some m else None) (bound_in old b)
    at b less true q =
        let counted = length-set old b0 (Some m) in
        ap (λ o. unwrap_or o None) (slice_get-get_or (slice_set old b0 (Some m)) b None (omega arith))
        ∙ ap (λ k. get_or (slice_set old b0 (Some m)) k None) (eqb-true b b0 q)
        ∙ get_or-set_same old b0 (Some m) None within
        ∙ sym (ap (λ t. first_of_two (if t then Some m else None) (bound_in old b)) q)
    at b less false q =
        let counted = length-set old b0 (Some m) in
        ap (λ o. unwrap_or o None) (slice_get-get_or (slice_set old b0 (Some m)) b None (omega arith))
        ∙ get_or-set_other old b0 b (Some m) None (λ e. absurd (false≢true (sym q ∙ eq-eqb b b0 e)))
        ∙ sym (ap (λ o. unwrap_or o None) (slice_get-get_or old b None less))
        ∙ sym (ap (λ t. first_of_two (if t then Some m else None) (bound_in old b)) q)

pub notes_past : (x : Option ℕ) (m b0 : ℕ) (old : Table) → length old ≤ b0 → Notes (Let x m b0) old old
notes_past x m b0 old past = record {
  counts = refl;
  notes = λ b less. sym (ap (λ t. first_of_two (if t then Some m else None) (bound_in old b)) (ne_eqb b b0 (λ e. omega arith)));
}

-- ---- past the last node

none_of : (b : ℕ) (core : Core) → (IsTrue (is_among b (parts core)) → ⊥) → let_bound b core ≡ None
none_of b (Let x m n) h =
    ⊎_elim
    (λ q. absurd (h (or_right (nat_eq b m) (nat_eq b n || false) (or_left (nat_eq b n) false q))))
    (λ q. ap (λ t. if t then Some m else None) q)
    (cases_Bool (nat_eq b n))
none_of b (Val e) h = refl
none_of b (Call f args) h = refl
none_of b (If e m n) h = refl
none_of b (Print e) h = refl
none_of b (New i) h = refl
none_of b (Send x m args) h = refl
none_of b (Spawn m) h = refl
none_of b (Guard x e f cs) h = refl

none_past : (ds : List Node) (b : ℕ) → ((j : ℕ) (d : Node) → slice_get ds j ≡ Some d → let_bound b d.core ≡ None) → bound_of ds b ≡ None
none_past [] b h = refl
none_past (d ∷ ds) b h =
    ap (λ o. first_of_two o (bound_of ds b)) (h zero d refl) ∙ none_past ds b (λ j e at. h (suc j) e at)

past_bound : (p : Program) (b : ℕ) → WellFormed p → length p.nodes ≤ b → bound_of p.nodes b ≡ None
past_bound p b w past =
    none_past p.nodes b (λ j d at. none_of b d.core (λ among.
    let part = (w.nodes j d at).parts_after b among in
    let within = slice_get_within p.nodes b part.1.0 part.1.1 in
    omega arith))

pub tells_all : (p : Program) (bounds : Table) → WellFormed p → TellsFrom p.nodes 0 bounds → (b : ℕ) → bound_in bounds b ≡ bound_of p.nodes b
tells_all p bounds w t b =
    ⊎_elim
    (λ within. t.tells b within)
    (λ past. let same = t.counts in ap (λ o. unwrap_or o None) (slice_get_past bounds b past) ∙ sym (past_bound p b w (omega arith)))
    (cases_lt b (length bounds))

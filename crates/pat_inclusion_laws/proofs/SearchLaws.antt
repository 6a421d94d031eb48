-- What a table that is done says of derivable words, and of a search for one outside a pattern.
use Rattle.std.proofs.Common.{◌≡◌, ℕ, ◌≤◌, ◌<◌, true, ⊎_elim, refl, sym, subst, arith}
use Rattle.std.proofs.lemmas.Bool.{cases_lt}
use Rattle.pat_words_spec.specs.Words.{Word}
use Rattle.pat_words_spec.specs.Patterns.{Pat, In, InUnder}
use Rattle.pat_words_spec.specs.Flats.{is_flat, degree_of}
use Rattle.pat_words_spec.specs.Cuts.{cut_at, CutOf}
use Rattle.pat_words_spec.specs.Languages.{MemberOf}
use Rattle.pat_inclusion_spec.specs.bounds.Trees.{Bound, tree_size, Shows, Derivable}
use Rattle.pat_inclusion_spec.specs.bounds.CutSets.{IsPoint}
use Rattle.pat_inclusion_spec.specs.bounds.Symbols.{LowerSymbol, GivenSymbol, symbol_at, Stands, IsFlatOf, ShowsAt}
use Rattle.pat_inclusion_spec.specs.bounds.Tables.{Table, Setting, capped, IsKnown, ShowsCut, IsDone}
use Rattle.pat_inclusion_spec.specs.bounds.Searches.{IsInside, IsFound, IsLarge}
use Rattle.pat_inclusion_laws.proofs.CutSetLaws.{in_by_cut}
use Rattle.pat_inclusion_laws.proofs.FlatLaws.{stands_as, roots_stand, shown_at, at_shown, at_under}
use Rattle.pat_inclusion_laws.proofs.TableLaws.{shown_point, under_at, entry_least, least_sizes, done_grounded, rebuilt}

-- where a variable has given words
pub known_given : (g : Setting) (table : Table) (e : Pat) (s : ℕ) (u : Word) → IsDone g table → Stands g.flat.symbols GivenSymbol e s → IsPoint g.bound g.tags u → IsKnown g.limit (table s u) → CutOf g.bound (InUnder (λ k. MemberOf (g.given k)) e) u
known_given g table e s u done st p known =
    let t = done.sound s u p known in
    let h = t.1 in
    (h.0, at_under g.flat g.given t.0 e (symbol_at g.flat s) h.0 (stands_as g.flat GivenSymbol e s st) h.1, h.2)

pub given_known : (g : Setting) (table : Table) (e : Pat) (s : ℕ) (u : Word) → IsDone g table → Stands g.flat.symbols GivenSymbol e s → IsPoint g.bound g.tags u → CutOf g.bound (InUnder (λ k. MemberOf (g.given k)) e) u → IsKnown g.limit (table s u)
given_known g table e s u done st p h =
    let t = under_at g done.fit e (symbol_at g.flat s) h.0 (stands_as g.flat GivenSymbol e s st) h.1 in
    let l = least_sizes g table done s u t.0 p (h.0, t.1, h.2) in
    omega arith

module _ (g : Setting) (table : Table) (lower : ℕ → Pat) (left : Pat) (s : ℕ) (flat : IsFlatOf lower g.flat) (st : Stands g.flat.symbols LowerSymbol left s) where
  pub flat_tree : (b : Bound) (w : Word) → ShowsAt g.flat g.given b (symbol_at g.flat s) w → Shows lower b left w
  flat_tree b w h = at_shown lower g.flat g.given (roots_stand lower g.flat flat) b left (symbol_at g.flat s) w (stands_as g.flat LowerSymbol left s st) h

  pub tree_flat : (b : Bound) (w : Word) → Shows lower b left w → ShowsAt g.flat g.given b (symbol_at g.flat s) w
  tree_flat b w h = shown_at lower g.flat g.given (roots_stand lower g.flat flat) b left (symbol_at g.flat s) w (stands_as g.flat LowerSymbol left s st) h

  -- within the limit a tree of the entry's size refutes
  pub found_at : (right : Pat) (u : Word) (b : Bound) → (CutOf g.bound (In right) u → ⊥) → table s u ≤ g.limit → ShowsCut g b s u → tree_size b ≡ table s u → (w : Word) × IsFound g.limit lower left right w b
  found_at right u b out l h size = (h.0, ((flat_tree b h.0 h.1, λ i. out (h.0, i, h.2)), omega arith))

  module _ (done : IsDone g table) where
    pub known_derivable : (u : Word) → IsPoint g.bound g.tags u → IsKnown g.limit (table s u) → CutOf g.bound (Derivable lower left) u
    known_derivable u p known =
        let t = done.sound s u p known in
        let h = t.1 in
        (h.0, (t.0, flat_tree t.0 h.0 h.1), h.2)

    -- the entry at the cut of what a tree shows
    entry_at : (b : Bound) (w : Word) → Shows lower b left w → table s (cut_at g.bound w) ≤ capped g.limit (tree_size b)
    entry_at b w h = entry_least g table done.fit done.closed s w b (tree_flat b w h)

    point_at : (b : Bound) (w : Word) → Shows lower b left w → IsPoint g.bound g.tags (cut_at g.bound w)
    point_at b w h = shown_point g done.fit b s (symbol_at g.flat s) w refl (tree_flat b w h)

    pub derivable_known : (u : Word) → CutOf g.bound (Derivable lower left) u → IsKnown g.limit (table s u)
    derivable_known u h =
        let d = h.1 in
        let l = entry_at d.0 h.0 d.1 in
        subst (λ (x : Word). IsKnown g.limit (table s x)) (sym h.2) (omega arith)

    module _ (right : Pat) (fr : is_flat right ≡ true) (dr : degree_of right < g.bound) where
      outside : (w : Word) → (In right w → ⊥) → CutOf g.bound (In right) (cut_at g.bound w) → ⊥
      outside w out h = out (in_by_cut g.bound right w fr dr h)

      pub inside_by_table : IsInside lower left right → (u : Word) → IsPoint g.bound g.tags u → IsKnown g.limit (table s u) → CutOf g.bound (In right) u
      inside_by_table all u p known = let h = known_derivable u p known in (h.0, all h.0 h.1, h.2)

      pub table_inside : ((u : Word) → IsPoint g.bound g.tags u → IsKnown g.limit (table s u) → CutOf g.bound (In right) u) → IsInside lower left right
      table_inside all w d =
          in_by_cut g.bound right w fr dr
          (all (cut_at g.bound w) (point_at d.0 w d.1) (derivable_known (cut_at g.bound w) (w, d, refl)))

      pub large_by_table : IsLarge g.limit lower left right → ((u : Word) × IsPoint g.bound g.tags u × IsKnown g.limit (table s u) × (CutOf g.bound (In right) u → ⊥)) × ((u : Word) → IsPoint g.bound g.tags u → (CutOf g.bound (In right) u → ⊥) → g.limit < table s u)
      large_by_table large =
          let r = large.0 in
          let h = r.2 in (
            (
              cut_at g.bound r.0,
              point_at r.1 r.0 h.0,
              derivable_known (cut_at g.bound r.0) (r.0, (r.1, h.0), refl),
              outside r.0 h.1,
            ),
            λ u p out. ⊎_elim (λ l. l) (λ l. absurd (too_small u p out l)) (cases_lt g.limit (table s u)),
          )
        where
          too_small : (u : Word) → IsPoint g.bound g.tags u → (CutOf g.bound (In right) u → ⊥) → table s u ≤ g.limit → ⊥
          too_small u p out l =
              let t = rebuilt g table (done_grounded g table done) s u p l in
              let f = found_at right u t.0 out l t.1 t.2 in
              let i = f.1 in
              let size = i.1 in
              let more = large.1 f.0 t.0 i.0 in
              omega arith

      pub table_large : ((u : Word) × IsPoint g.bound g.tags u × IsKnown g.limit (table s u) × (CutOf g.bound (In right) u → ⊥)) × ((u : Word) → IsPoint g.bound g.tags u → (CutOf g.bound (In right) u → ⊥) → g.limit < table s u) → IsLarge g.limit lower left right
      table_large h =
          let q = h.0 in
          let t = done.sound s q.0 q.1 q.2 in
          let v = t.1 in (
            (v.0, t.0, (flat_tree t.0 v.0 v.1, λ i. q.3 (v.0, i, v.2))),
            λ w b r.
                let more = h.1 (cut_at g.bound w) (point_at b w r.0) (outside w r.1) in
                let l = entry_at b w r.0 in
                omega arith,
          )

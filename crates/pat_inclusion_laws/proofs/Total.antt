-- Each search has a right answer; and cuts of patterns, point by point.
use Rattle.std.proofs.Common.{◌≡◌, ℕ, ◌≤◌, ◌<◌, true, List, [], ◌⊎◌, inl, inr, ⊎_elim, refl, sym, ◌∙◌, subst, arith}
use Rattle.std.specs.List.{AllByRecursion}
use Rattle.std.proofs.lemmas.Bool.{cases_lt}
use Rattle.pat_words_spec.specs.Words.{Word}
use Rattle.pat_words_spec.specs.Patterns.{Pat, In, no_values}
use Rattle.pat_words_spec.specs.Flats.{is_flat, degree_of}
use Rattle.pat_words_spec.specs.Cuts.{cut_at, CutOf}
use Rattle.pat_words_spec.specs.Tags.{tags_below}
use Rattle.pat_inclusion_spec.specs.CutWords.{cuts_lie}
use Rattle.pat_inclusion_laws.proofs.CutLaws.{cut_below, cut_twice, cuts_include}
use Rattle.pat_inclusion_laws.proofs.Exact.{included_cuts}
use Rattle.pat_inclusion_spec.specs.bounds.Trees.{bounds_of}
use Rattle.pat_inclusion_spec.specs.bounds.CutSets.{IsPoint}
use Rattle.pat_inclusion_spec.specs.bounds.Symbols.{LowerSymbol, Flat, Stands, IsFlatOf}
use Rattle.pat_inclusion_spec.specs.bounds.Layouts.{last_of, laid, laid_all, roots_all}
use Rattle.pat_inclusion_spec.specs.bounds.Tables.{Table, Setting, IsKnown, IsFit, IsDone}
use Rattle.pat_inclusion_spec.specs.bounds.Numbers.{points_in, number_of, point_of, table_of}
use Rattle.pat_inclusion_spec.specs.bounds.Searches.{Search, InsideAnswer, FoundAnswer, LargeAnswer, IsAnswer}
use Rattle.pat_inclusion_laws.proofs.GridLaws.{under_below}
use Rattle.pat_inclusion_laws.proofs.LayoutLaws.{laid_stands, all_stand, laid_goes, goes_both, kept_in, laid_fit, all_fit, symbols_fit}
use Rattle.pat_inclusion_laws.proofs.NumberLaws.{number_small, number_point, point_fits}
use Rattle.pat_inclusion_laws.proofs.TableLaws.{done_grounded, rebuilt}
use Rattle.pat_inclusion_laws.proofs.SearchLaws.{flat_tree}
use Rattle.pat_inclusion_laws.proofs.ByTable.{answer_inside, answer_found, answer_large}
use Rattle.pat_inclusion_laws.proofs.Ends.{sought, dec_known, dec_not, done_exists}

dec_both : (A B : Type 0) → A ⊎ (A → ⊥) → B ⊎ (B → ⊥) → (A × B → ⊥) ⊎ (A × B)
dec_both A B p q = ⊎_elim (λ a. ⊎_elim (λ b. inr (a, b)) (λ nb. inl (λ h. nb h.1)) q) (λ na. inl (λ h. na h.0)) p

module _ (g : Setting) (table : Table) (lower : ℕ → Pat) (left right : Pat) (s r : ℕ) (done : IsDone g table) (flat : IsFlatOf lower g.flat) (sl : Stands g.flat.symbols LowerSymbol left s) (sr : Stands g.flat.symbols LowerSymbol right r) (fr : is_flat right ≡ true) (dr : degree_of right < g.bound) where
  abbrev Small : Word → Type 0
  Small u = (table s u ≤ g.limit) × (IsKnown g.limit (table r u) → ⊥)

  abbrev Outside : Word → Type 0
  Outside u = IsKnown g.limit (table s u) × (IsKnown g.limit (table r u) → ⊥)

  dec_small : (u : Word) → (Small u → ⊥) ⊎ Small u
  dec_small u =
      dec_both (table s u ≤ g.limit) (IsKnown g.limit (table r u) → ⊥)
      (⊎_elim (λ l. inr (λ k. omega arith)) (λ l. inl l) (cases_lt g.limit (table s u)))
      (dec_not (IsKnown g.limit (table r u)) (dec_known g.limit (table r u)))

  dec_outside : (u : Word) → (Outside u → ⊥) ⊎ Outside u
  dec_outside u =
      dec_both (IsKnown g.limit (table s u)) (IsKnown g.limit (table r u) → ⊥)
      (dec_known g.limit (table s u))
      (dec_not (IsKnown g.limit (table r u)) (dec_known g.limit (table r u)))

  -- one of the points has P, or none has
  point_sought : (P : Word → Type 0) → ((u : Word) → (P u → ⊥) ⊎ P u) → ((u : Word) → IsPoint g.bound g.tags u → P u → ⊥) ⊎ ((u : Word) × IsPoint g.bound g.tags u × P u)
  point_sought P dec =
      ⊎_elim
      (λ none. inl (λ u p. subst (λ (x : Word). P x → ⊥) (number_point g.bound g.tags u p) (none (number_of g.bound g.tags u) (number_small g.bound g.tags u p))))
      (λ f. inr (point_of g.bound g.tags f.0, point_fits g.bound g.tags f.0, f.2))
      (sought (points_in g.bound g.tags)
      (λ c. P (point_of g.bound g.tags c))
      (λ c. P (point_of g.bound g.tags c) → ⊥)
      (λ c l. dec (point_of g.bound g.tags c)))

  abbrev Answer : Type 0
  Answer = (a : Search) × IsAnswer g.limit lower left right a

  no_small : ((u : Word) → IsPoint g.bound g.tags u → Small u → ⊥) → Answer
  no_small none =
      ⊎_elim
      (λ inside. (
        InsideAnswer,
        answer_inside g table lower left right s r done flat sl sr fr dr
            (λ u p k. ⊎_elim (λ known. known) (λ out. absurd (inside u p (k, out))) (dec_known g.limit (table r u))),
      ))
      (λ f. let o = f.2 in (
        LargeAnswer,
        answer_large g table lower left right s r done flat sl sr fr dr (f.0, f.1, o.0, o.1)
            (λ u p out. ⊎_elim (λ l. l) (λ l. absurd (none u p (l, out))) (cases_lt g.limit (table s u))),
      ))
      (point_sought Outside dec_outside)

  pub answer_there : Answer
  answer_there =
      ⊎_elim
      no_small
      (λ f.
      let o = f.2 in
      let t = rebuilt g table (done_grounded g table done) s f.0 f.1 o.0 in
      let h = t.1 in (
        FoundAnswer h.0 t.0,
        answer_found g table lower left right s r done flat sl sr fr dr f.0 h.0 t.0 f.1 o.0 o.1 (flat_tree g table lower left s flat sl t.0 h.0 h.1) h.2 t.2,
      ))
      (point_sought Small dec_small)

pub search_total : (system : List Pat) (left right : Pat) (k n limit : ℕ) → AllByRecursion (λ e. tags_below n e ≡ true) system → tags_below n left ≡ true → tags_below n right ≡ true → is_flat right ≡ true → degree_of right < k → (a : Search) × IsAnswer limit (bounds_of system) left right a
search_total system left right k n limit ts tl tr fr dr =
    let made = laid_all [] system in
    let first = laid LowerSymbol made left in
    let second = laid LowerSymbol first right in
    let goes = laid_goes LowerSymbol first right in
    let flat : Flat = record { symbols = second; roots = roots_all [] system } in
    let g : Setting = record { bound = k; tags = n; limit = limit; flat = flat; given = λ j. [] } in
    let fit : IsFit g = record {
      bound = omega arith;
      tags = symbols_fit n second (laid_fit n LowerSymbol (λ j. tt) first right tr (laid_fit n LowerSymbol (λ j. tt) made left tl (all_fit n [] system ts tt)));
      given = λ j w h. absurd h;
    } in
    let done = done_exists g fit in
    answer_there g (table_of g done.0) (bounds_of system) left right (last_of first) (last_of second) done.2
    (all_stand [] system second (goes_both made first second (laid_goes LowerSymbol made left) goes))
    (kept_in first second LowerSymbol left (last_of first) goes (laid_stands LowerSymbol made left))
    (laid_stands LowerSymbol first right)
    fr
    dr

-- ---- cuts of patterns, point by point

pub points_lie : (k n : ℕ) (e f : Pat) → tags_below n e ≡ true → tags_below n f ≡ true → ((u : Word) → IsPoint k n u → CutOf k (In e) u → CutOf k (In f) u) → cuts_lie k n e f ≡ true
points_lie k n e f te tf all =
    included_cuts k n e f te tf
    (λ w i.
    let below = under_below n no_values (λ j v z. absurd z) e te w i in
    let r = all (cut_at k w) (cut_below n k w below, sym (cut_twice k w)) (w, i, refl) in
    (r.0, r.1, sym r.2))

pub lie_points : (k n : ℕ) (e f : Pat) → tags_below n e ≡ true → tags_below n f ≡ true → cuts_lie k n e f ≡ true → (u : Word) → IsPoint k n u → CutOf k (In e) u → CutOf k (In f) u
lie_points k n e f te tf h u p c =
    let r = cuts_include k n e f te tf h c.0 c.1 in
    (r.0, r.1, c.2 ∙ sym r.2)

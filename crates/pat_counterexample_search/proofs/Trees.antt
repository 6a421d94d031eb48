-- A tree of a root and of least trees of its parts.
use Rattle.std.proofs.Common.{◌≡◌, ℕ, suc, ◌+◌, ◌<◌, ◌≤◌, ⊎_elim, List, refl, sym, ap, ◌∙◌, subst, arith}
use Rattle.std.specs.Prelude.{nat_eq, Result, Ok, Err, IfOk}
use Rattle.std.proofs.lemmas.Bool.{cases_eq, cond-true, cond-false, eq-eqb, ne_eqb}
use Rattle.pat_words_spec.specs.Words.{Word, no_word, one, plus}
use Rattle.pat_words_spec.specs.Cuts.{cut_at}
use Rattle.pat_words_laws.proofs.WordLaws.{count_eq, plus_none, plus_assoc}
use Rattle.pat_inclusion_laws.proofs.Spans.{plus_below}
use Rattle.pat_inclusion_laws.proofs.CutLaws.{cut_below, cut_none, cut_twice}
use Rattle.pat_inclusion_spec.specs.bounds.Trees.{Bound, EmptyTree, TagTree, LeftTree, RightTree, BothTree, StarEndTree, StarMoreTree, LowerTree, tree_size}
use Rattle.pat_inclusion_spec.specs.bounds.Symbols.{symbol_at, ShowsAt}
use Rattle.pat_inclusion_spec.specs.bounds.Tables.{Setting, Step}
use Rattle.pat_inclusion_spec.specs.bounds.Numbers.{point_of, table_of}
use Rattle.pat_inclusion_laws.proofs.NumberLaws.{number_point, point_number, point_fits}
use Rattle.pat_inclusion_laws.proofs.CutSetLaws.{cut_of_sum}
use Rattle.pat_inclusion_laws.proofs.TableLaws.{done_grounded}
use Rattle.pat_grid_points.proofs.Digits.{few_tags}
use Rattle.pat_grid.specs.declared.tables.board.Board.{Board}
use Rattle.pat_grid.specs.tables.Views.{setting_of}
use Rattle.pat_grid.specs.tables.Moves.{entry_at}
use Rattle.pat_counterexample_search.specs.declared.choice.Place.{Place}
use Rattle.pat_counterexample_search.specs.declared.choice.Choice.TheVariants.{Empty, Tag, Left, Right, Both, StarEnd, StarMore, Lower}
use Rattle.pat_counterexample_search.specs.Choices.{entry_of, point_at, IsReady, HasRoom, HasStep, IsPart, AreParts, IsChoice, Rebuilt}
use Rattle.pat_limits.specs.Limits.{number_count}

pub if_ok : {A E : Type 0} (P Q : A → Type 0) (r : Result A E) → IfOk r P → ((a : A) → P a → Q a) → IfOk r Q
if_ok P Q (Ok a) h f = f a h
if_ok P Q (Err e) h f = tt

one_at_most : (m t : ℕ) → one m t ≤ 1
one_at_most m t =
    ⊎_elim (λ e. let x : one m t ≡ 1 = cond-true (nat_eq t m) 1 0 (eq-eqb t m e) in omega arith) (λ d. let x : one m t ≡ 0 = cond-false (nat_eq t m) 1 0 (ne_eqb t m d) in omega arith) (cases_eq t m)

module _ (b : Board) (entries : List ℕ) (ready : IsReady b entries) (p : Place) where
  abbrev g : Setting
  g = setting_of b

  abbrev size : ℕ
  size = entry_of g entries p

  -- ---- before the parts

  pub root_step : (had : Word) → HasRoom b entries p had → HasStep b entries p
  root_step had h =
      let l = subst (λ n. p.number < n) ready.board.points h.number in
      let same : table_of g entries p.symbol (point_at g p) ≡ size = ap (entry_at g entries p.symbol) (point_number g.bound g.tags p.number l) in
      let w = h.within in
      record {
        number = h.number;
        within = h.within;
        step = subst (λ n. Step g (table_of g entries) p.symbol (point_at g p) n) same
            (done_grounded g (table_of g entries) ready.done p.symbol (point_at g p) (point_fits g.bound g.tags p.number) (omega arith));
      }

  pub tag_small : (m : ℕ) → IsChoice g entries p (Tag m) → m < 32
  tag_small m c =
      let l = ready.board.tags p.symbol m c.0 in
      let f = few_tags b.k b.tags ready.board.fits in
      omega arith

  pub part_room : (q : Place) (had : Word) → HasRoom b entries p had → IsPart g entries p q → HasRoom b entries q had
  part_room q had h c =
      let l = h.number in
      let w = h.within in
      let e = c.0 in
      let s = c.1 in
      record { number = omega arith; within = omega arith; room = λ t. let r = h.room t in omega arith }

  pub first_room : (q r : Place) (had : Word) → HasRoom b entries p had → AreParts g entries p q r → HasRoom b entries q had
  first_room q r had h c =
      let l = c.0 in
      let w = h.within in
      let s = c.3 in
      let n = ready.board.points in
      record { number = omega arith; within = omega arith; room = λ t. let k = h.room t in omega arith }

  pub second_falls : (q r : Place) → AreParts g entries p q r → entry_of g entries r < entry_of g entries p
  second_falls q r c = let s = c.3 in omega arith

  pub tag_room : (m : ℕ) (had w : Word) → HasRoom b entries p had → w ≡ one m → (t : ℕ) → t < 32 → had t + w t < number_count
  tag_room m had w h e t _ =
      let l = one_at_most m t in
      let i = count_eq w (one m) e t in
      let k = h.room t in
      omega arith

  pub second_room : (q r : Place) (had mid : Word) (tree : Bound) → HasRoom b entries p had → AreParts g entries p q r → Rebuilt g q (entry_of g entries q) had tree mid → HasRoom b entries r mid
  second_room q r had mid tree h c made =
      let l = c.1 in
      let w = h.within in
      let s = c.3 in
      let n = ready.board.points in
      record {
        number = omega arith;
        within = omega arith;
        room = λ t.
            let k = h.room t in
            let m = made.small t in
            let e = count_eq mid (plus had made.word) made.words t in
            omega arith;
      }

  -- ---- after them

  pub empty_tree : (had : Word) → IsChoice g entries p Empty → Rebuilt g p size had EmptyTree had
  empty_tree had c =
      let one = c.2 in
      record {
        word = no_word;
        shows = subst (λ y. ShowsAt g.flat g.given EmptyTree y no_word) (sym c.0) refl;
        cut = c.1 ∙ sym (cut_none g.bound);
        sized = omega arith;
        small = λ t. omega arith;
        words = sym (plus_none had);
      }

  pub end_tree : (had : Word) → IsChoice g entries p StarEnd → Rebuilt g p size had StarEndTree had
  end_tree had c =
      let one = c.3 in
      record {
        word = no_word;
        shows = subst (λ y. ShowsAt g.flat g.given StarEndTree y no_word) (sym c.1) refl;
        cut = c.2 ∙ sym (cut_none g.bound);
        sized = omega arith;
        small = λ t. omega arith;
        words = sym (plus_none had);
      }

  pub tag_tree : (m : ℕ) (had has : Word) → IsChoice g entries p (Tag m) → has ≡ plus had (one m) → Rebuilt g p size had TagTree has
  tag_tree m had has c e =
      let is = c.2 in
      record {
        word = one m;
        shows = subst (λ y. ShowsAt g.flat g.given TagTree y (one m)) (sym c.0) refl;
        cut = c.1;
        sized = omega arith;
        small = λ t. let l = one_at_most m t in omega arith;
        words = e;
      }

  -- by a part at the same point
  by_part : (q : Place) (had has : Word) (t tree : Bound) → IsPart g entries p q → (r : Rebuilt g q (entry_of g entries q) had t has) → ShowsAt g.flat g.given tree (symbol_at g.flat p.symbol) r.word → tree_size tree ≡ suc (tree_size t) → Rebuilt g p size had tree has
  by_part q had has t tree c r shows sized =
      let s = c.1 in
      let n = r.sized in
      record {
        word = r.word;
        shows = shows;
        cut = ap (point_of g.bound g.tags) (sym c.0) ∙ r.cut;
        sized = omega arith;
        small = λ i. let l = r.small i in omega arith;
        words = r.words;
      }

  pub left_tree : (q : Place) (had has : Word) (t tree : Bound) → IsChoice g entries p (Left q) → Rebuilt g q (entry_of g entries q) had t has → tree ≡ LeftTree t → Rebuilt g p size had tree has
  left_tree q had has t tree c r e =
      subst (λ x. Rebuilt g p size had x has) (sym e)
      (by_part q had has t (LeftTree t) c.2 r (subst (λ y. ShowsAt g.flat g.given (LeftTree t) y r.word) (sym c.1) r.shows) (omega arith))

  pub right_tree : (q : Place) (had has : Word) (t tree : Bound) → IsChoice g entries p (Right q) → Rebuilt g q (entry_of g entries q) had t has → tree ≡ RightTree t → Rebuilt g p size had tree has
  right_tree q had has t tree c r e =
      subst (λ x. Rebuilt g p size had x has) (sym e)
      (by_part q had has t (RightTree t) c.2 r (subst (λ y. ShowsAt g.flat g.given (RightTree t) y r.word) (sym c.1) r.shows) (omega arith))

  pub lower_tree : (q : Place) (had has : Word) (t tree : Bound) → IsChoice g entries p (Lower q) → Rebuilt g q (entry_of g entries q) had t has → tree ≡ LowerTree t → Rebuilt g p size had tree has
  lower_tree q had has t tree c r e =
      subst (λ x. Rebuilt g p size had x has) (sym e)
      (by_part q had has t (LowerTree t) c.3 r
      (subst (λ y. ShowsAt g.flat g.given (LowerTree t) y r.word) (sym c.1) (subst (λ s. ShowsAt g.flat g.given t (symbol_at g.flat s) r.word) c.2 r.shows))
      (omega arith))

  -- by two parts
  sum_point : (q r : Place) → AreParts g entries p q r → point_at g p ≡ cut_at g.bound (plus (point_at g q) (point_at g r))
  sum_point q r c =
      ap (point_of g.bound g.tags) (sym c.2)
      ∙ number_point g.bound g.tags (cut_at g.bound (plus (point_at g q) (point_at g r))) (
        cut_below g.tags g.bound (plus (point_at g q) (point_at g r)) (plus_below g.tags (point_at g q) (point_at g r) (point_fits g.bound g.tags q.number).0 (point_fits g.bound g.tags r.number).0),
        sym (cut_twice g.bound (plus (point_at g q) (point_at g r))),
      )

  by_parts : (q r : Place) (had mid has : Word) (t u tree : Bound) → AreParts g entries p q r → (x : Rebuilt g q (entry_of g entries q) had t mid) → (y : Rebuilt g r (entry_of g entries r) mid u has) → ShowsAt g.flat g.given tree (symbol_at g.flat p.symbol) (plus x.word y.word) → tree_size tree ≡ suc (tree_size t + tree_size u) → Rebuilt g p size had tree has
  by_parts q r had mid has t u tree c x y shows sized =
      let s = c.3 in
      let m = x.sized in
      let n = y.sized in
      record {
        word = plus x.word y.word;
        shows = shows;
        cut = cut_of_sum g.bound (point_at g p) (point_at g q) (point_at g r) x.word y.word (sum_point q r c) x.cut y.cut;
        sized = omega arith;
        small = λ i. let k = x.small i in let l = y.small i in omega arith;
        words = y.words ∙ ap (λ w. plus w y.word) x.words ∙ plus_assoc had x.word y.word;
      }

  pub both_tree : (q r : Place) (had mid has : Word) (t u tree : Bound) → IsChoice g entries p (Both q r) → Rebuilt g q (entry_of g entries q) had t mid → Rebuilt g r (entry_of g entries r) mid u has → tree ≡ BothTree t u → Rebuilt g p size had tree has
  both_tree q r had mid has t u tree c x y e =
      subst (λ z. Rebuilt g p size had z has) (sym e)
      (by_parts q r had mid has t u (BothTree t u) c.1 x y
      (subst (λ z. ShowsAt g.flat g.given (BothTree t u) z (plus x.word y.word)) (sym c.0) (x.word, y.word, x.shows, y.shows, refl))
      (omega arith))

  pub star_tree : (q r : Place) (had mid has : Word) (t u tree : Bound) → IsChoice g entries p (StarMore q r) → Rebuilt g q (entry_of g entries q) had t mid → Rebuilt g r (entry_of g entries r) mid u has → tree ≡ StarMoreTree t u → Rebuilt g p size had tree has
  star_tree q r had mid has t u tree c x y e =
      subst (λ z. Rebuilt g p size had z has) (sym e)
      (by_parts q r had mid has t u (StarMoreTree t u) c.2 x y
      (subst (λ z. ShowsAt g.flat g.given (StarMoreTree t u) z (plus x.word y.word)) (sym c.0) (
        x.word,
        y.word,
        x.shows,
        subst (λ z. ShowsAt g.flat g.given u z y.word) (ap (symbol_at g.flat) c.1 ∙ c.0) y.shows,
        λ z. c.3 (x.cut ∙ ap (cut_at g.bound) z ∙ cut_none g.bound),
        refl,
      ))
      (omega arith))

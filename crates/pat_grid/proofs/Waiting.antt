-- Which symbols wait: those at which a step may give less than the table has.
use Rattle.std.proofs.Common.{◌≡◌, ℕ, zero, suc, ◌+◌, ◌*◌, ◌<◌, ◌⊎◌, inl, inr, ⊎_elim, Bool, true, false, List, [], ◌∷◌, length, length-set, get_or, set, replicate, refl, sym, ap, ap₂, ◌∙◌, subst, arith}
use Rattle.std.specs.Prelude.{Ok, Err, OnOk}
use Rattle.std.specs.declared.result.Result.{Result}
use Rattle.std.proofs.lemmas.Bool.{cases_lt, cases_eq}
use Rattle.std.proofs.lemmas.List.{get_or-set_same, get_or-set_other, get_or_past, set_past, set-get_or, get_or-replicate, length-replicate, length-map}
use Rattle.pat_words_spec.specs.Words.{Word}
use Rattle.pat_inclusion_spec.specs.bounds.CutSets.{IsPoint}
use Rattle.pat_inclusion_spec.specs.bounds.Symbols.{Symbol, NoSymbol, OneSymbol, TagSymbol, SumSymbol, ProdSymbol, StarSymbol, LowerSymbol, GivenSymbol, symbol_at, root_at}
use Rattle.pat_inclusion_spec.specs.bounds.Tables.{Setting, IsKnown, IsDone, StepAt, StepByOne, StepByTwo, capped}
use Rattle.pat_inclusion_spec.specs.bounds.Numbers.{points_in, number_of, table_of}
use Rattle.pat_inclusion_laws.proofs.NumberLaws.{number_small, pass_closed}
use Rattle.pat_inclusion_laws.proofs.TableLaws.{start_sound}
use Rattle.pat_grid_points.specs.Chains.{noted}
use Rattle.pat_grid_points.specs.symbols.Views.{symbol_view}
use Rattle.pat_grid.specs.declared.tables.board.Board.{Board}
use Rattle.pat_grid.specs.declared.tables.sizes.Sizes.{Sizes}
use Rattle.pat_grid.specs.tables.Views.{setting_of, IsBoard}
use Rattle.pat_grid.specs.tables.Moves.{entry_at, Among, Lowers, Moved, ClosedAt}
use Rattle.pat_grid.specs.tables.Waiting.{IsPartOf, IsPart, IsNoPart, HasUsersBefore, HasUsers, Notes, Begins, Stands, with_waits, Waits, Looked, Passed}
use Rattle.pat_grid.proofs.Done.{board_fit}
use Rattle.pat_grid.proofs.Reached.{noted_kept, noted_there, noted_many}

pub on_ok : {A E : Type 0} (r : Result A E) (P Q : Type 0) → (P → Q) → OnOk r P → OnOk r Q
on_ok (Ok x) P Q f h = f h
on_ok (Err x) P Q f h = tt

-- ---- a symbol that isn't made of what was lowered stays closed

module _ (g : Setting) (s t : ℕ) (x y : List ℕ) (m : Lowers g s x y) (other : t ≡ s → ⊥) where
  row : (a : ℕ) (u : Word) → (a ≡ s → ⊥) → IsPoint g.bound g.tags u → table_of g y a u ≡ table_of g x a u
  row a u n p = m.elsewhere a (number_of g.bound g.tags u) n (number_small g.bound g.tags u p)

  one_back : (a : ℕ) (u : Word) (size : ℕ) → (a ≡ s → ⊥) → IsPoint g.bound g.tags u → StepByOne g (table_of g y) a u size → StepByOne g (table_of g x) a u size
  one_back a u size n p h = subst (λ i. IsKnown g.limit i × (size ≡ capped g.limit (suc i))) (row a u n p) h

  two_back : (a b : ℕ) (v w u : Word) (size : ℕ) → (a ≡ s → ⊥) → (b ≡ s → ⊥) → StepByTwo g (table_of g y) a b v w u size → StepByTwo g (table_of g x) a b v w u size
  two_back a b v w u size na nb h = (
    h.0,
    h.1,
    subst (IsKnown g.limit) (row a v na h.0) h.2,
    subst (IsKnown g.limit) (row b w nb h.1) h.3,
    h.4,
    h.5 ∙ ap₂ (λ i j. capped g.limit (suc (i + j))) (row a v na h.0) (row b w nb h.1),
  )

  step_back : (k : Symbol) (u : Word) (size : ℕ) → (IsPartOf g.flat t k s → ⊥) → IsPoint g.bound g.tags u → StepAt g (table_of g y) t k u size → StepAt g (table_of g x) t k u size
  step_back NoSymbol u size n p h = h
  step_back OneSymbol u size n p h = h
  step_back (TagSymbol tag) u size n p h = h
  step_back (SumSymbol a b) u size n p h =
      ⊎_elim (λ k. inl (one_back a u size (λ e. n (inl e)) p k)) (λ k. inr (one_back b u size (λ e. n (inr e)) p k)) h
  step_back (ProdSymbol a b) u size n p h =
      (h.0, h.1, two_back a b h.0 h.1 u size (λ e. n (inl e)) (λ e. n (inr e)) h.2)
  step_back (StarSymbol a) u size n p h =
      ⊎_elim (λ k. inl k) (λ k. inr (k.0, k.1, two_back a t k.0 k.1 u size (λ e. n (inl e)) other k.2, k.3)) h
  step_back (LowerSymbol k) u size n p h = one_back (root_at g.flat k) u size n p h
  step_back (GivenSymbol k) u size n p h = h

  pub stays_closed : (IsPart g t s → ⊥) → ClosedAt g t x → ClosedAt g t y
  stays_closed n closed u size p step =
      let less = closed u size p (step_back (symbol_at g.flat t) u size n p step) in
      let same = row t u other p in
      omega arith

-- ---- who is made of a symbol

module _ (g : Setting) (s : ℕ) (users : List (List ℕ)) where
  -- two parts
  pub notes_two : (one other : ℕ) (middle new : List (List ℕ)) → ((a : ℕ) → IsPart g s a → (one ≡ a) ⊎ (other ≡ a)) → middle ≡ noted users one s → new ≡ noted middle other s → Notes g s users new
  notes_two one other middle new only e f = subst (Notes g s users) (sym f) (record {
    as_many = noted_many middle other s ∙ ap length e ∙ noted_many users one s;
    kept = λ a t h. noted_kept middle other s a t (subst (λ us. Among t (get_or us a [])) (sym e) (noted_kept users one s a t h));
    all = λ a h l. ⊎_elim
        (λ i. subst (λ j. Among s (get_or (noted middle other s) j [])) i (noted_kept middle other s one s (subst (λ us. Among s (get_or us one [])) (sym e) (noted_there users one s (subst (λ j. j < length users) (sym i) l)))))
        (λ i. subst (λ j. Among s (get_or (noted middle other s) j [])) i (noted_there middle other s (let m = ap length e ∙ noted_many users one s in let k : other < length users = subst (λ j. j < length users) (sym i) l in omega arith)))
        (only a h);
  })

pub users_none : (g : Setting) (n : ℕ) (users : List (List ℕ)) → n ≡ length g.flat.symbols → users ≡ replicate n [] → HasUsersBefore g 0 users
users_none g n users e is = record {
  as_many = ap length is ∙ length-replicate n [] ∙ e;
  all = λ s a l h m. absurd (omega arith);
}

pub users_more : (g : Setting) (s : ℕ) (old new : List (List ℕ)) → HasUsersBefore g s old → Notes g s old new → HasUsersBefore g (s + 1) new
users_more g s old new h n = record {
  as_many = n.as_many ∙ h.as_many;
  all = λ t a l part m. ⊎_elim
      (λ less. n.kept a t (h.all t a less part m))
      (λ le. let e : s ≡ t = omega arith in subst (λ i. Among i (get_or new a [])) e (n.all a (subst (λ i. IsPart g i a) (sym e) part) (let k = h.as_many in omega arith)))
      (cases_lt t s);
}

pub users_whole : (b : Board) (users : List (List ℕ)) → HasUsersBefore (setting_of b) (length b.symbols.now) users → HasUsers (setting_of b) users
users_whole b users h = subst (λ n. HasUsersBefore (setting_of b) n users) (sym (length-map b.symbols.now symbol_view)) h

-- ---- who waits

among_rest : (t n : ℕ) (ns : List ℕ) → Among t (n ∷ ns) → (n ≡ t) ⊎ Among t ns
among_rest t n ns (zero, l, e) = inl e
among_rest t n ns (suc i, l, e) = inr (i, omega arith, e)

not_false : (b : Bool) → (b ≡ false → ⊥) → b ≡ true
not_false true h = refl
not_false false h = absurd (h refl)

pub waits_all : (numbers : List ℕ) (waits : List Bool) → Waits numbers waits (with_waits numbers waits)
waits_all [] waits = record { as_many = refl; listed = λ t h l. let i = h.1 in absurd (omega arith); kept = λ t h. h }
waits_all (n ∷ numbers) waits =
    let r = waits_all numbers (set waits n true) in
    record {
      as_many = r.as_many ∙ length-set waits n true;
      listed = λ t h l. ⊎_elim
          (λ e. not_false (get_or (with_waits numbers (set waits n true)) t false)
          (λ off.
          let on : get_or (set waits n true) t false ≡ true = ap (λ i. get_or (set waits n true) i false) (sym e) ∙ get_or-set_same waits n true false (subst (λ i. i < length waits) (sym e) l) in
          let back = r.kept t off in
          absurd (cc)))
          (λ k. r.listed t k (subst (λ i. t < i) (sym (length-set waits n true)) l))
          (among_rest t n numbers h);
      kept = λ t off. back t (r.kept t off);
    }
  where
    back : (t : ℕ) → get_or (set waits n true) t false ≡ false → get_or waits t false ≡ false
    back t f =
        ⊎_elim
        (λ e. ⊎_elim
        (λ l.
        let on : get_or (set waits n true) t false ≡ true = ap (λ i. get_or (set waits n true) i false) e ∙ get_or-set_same waits n true false l in
        absurd (cc))
        (λ ge. subst (λ xs. get_or xs t false ≡ false) (set_past waits n true ge) f)
        (cases_lt n (length waits)))
        (λ d. sym (get_or-set_other waits n t true false d) ∙ f)
        (cases_eq t n)

-- ---- a symbol is looked at

-- it doesn't wait
pub not_looked : (g : Setting) (s : ℕ) (x : Sizes) (waited waits : List Bool) (was : Bool) → Stands g x waited → get_or waited s false ≡ false → waits ≡ set waited s false → Looked g s x.entries waited was x waits was
not_looked g s x waited waits was h off e =
    let same : waits ≡ waited = e ∙ ap (set waited s) (sym off) ∙ set-get_or waited s false in
    record {
      stands = subst (Stands g x) (sym same) h;
      at_most = omega arith;
      falls = λ i. inl i;
      rests = λ i. (i, e);
    }

-- it waits no longer
module _ (g : Setting) (s : ℕ) (x : Sizes) (waited : List Bool) (y : Sizes) (lowered : Bool) (h : Stands g x waited) (there : s < length g.flat.symbols) (m : Moved g s (IsNoPart g s) (ClosedAt g s) x false y lowered) where
  -- nothing was lowered
  pub looked_in_vain : (was : Bool) → lowered ≡ false → Looked g s x.entries waited was y (set waited s false) was
  looked_in_vain was e =
      let same = (m.stays e).1 in
      record {
        stands = record {
          all = m.as_long ∙ h.all;
          sound = m.sound h.sound;
          lists = m.lists h.lists;
          as_many = length-set waited s false ∙ h.as_many;
          closed = λ t l i. ⊎_elim
              (λ f. subst (λ j. ClosedAt g j y.entries) (sym f) (m.claim (inl e)))
              (λ n. subst (ClosedAt g t) (sym same) (h.closed t l (sym (get_or-set_other waited s t false false n) ∙ i)))
              (cases_eq t s);
        };
        at_most = m.at_most;
        falls = λ i. inl i;
        rests = λ i. (i, refl);
      }

  -- something was lowered, and those that are made of the symbol wait
  pub looked_and_lowered : (users : List (List ℕ)) (numbers : List ℕ) (waits : List Bool) (was : Bool) → HasUsers g users → numbers ≡ get_or users s [] → lowered ≡ true → Waits numbers (set waited s false) waits → Looked g s x.entries waited was y waits true
  looked_and_lowered users numbers waits was has is e w = record {
    stands = record {
      all = m.as_long ∙ h.all;
      sound = m.sound h.sound;
      lists = m.lists h.lists;
      as_many = w.as_many ∙ length-set waited s false ∙ h.as_many;
      closed = λ t l i. ⊎_elim
          (λ f. subst (λ j. ClosedAt g j y.entries) (sym f) (m.claim (inr (λ own. no_part t l i (subst (λ j. IsPart g j s) (sym f) own)))))
          (λ n. stays_closed g s t x.entries y.entries m.lowers n (no_part t l i) (h.closed t l (sym (get_or-set_other waited s t false false n) ∙ w.kept t i)))
          (cases_eq t s);
    };
    at_most = m.at_most;
    falls = λ i. inr (⊎_elim (λ f. absurd (cc)) (λ l. l) (m.falls e));
    rests = λ i. absurd (cc);
  }
    where
      no_part : (t : ℕ) → t < length g.flat.symbols → get_or waits t false ≡ false → IsPart g t s → ⊥
      no_part t l i part =
          let room : t < length (set waited s false) = subst (λ n. t < n) (sym (length-set waited s false ∙ h.as_many)) l in
          let on = w.listed t (subst (Among t) (sym is) (has.all t s l part there)) room in
          absurd (cc)

-- ---- a pass

pub pass_begins : (g : Setting) (x : Sizes) (waits : List Bool) → Stands g x waits → Passed g 0 x.entries x waits false
pass_begins g x waits h = record {
  stands = h;
  at_most = omega arith;
  falls = λ e. absurd (cc);
  rests = λ e s l. absurd (omega arith);
}

pub pass_goes_on : (g : Setting) (s : ℕ) (x : List ℕ) (y z : Sizes) (waited waits : List Bool) (was is : Bool) → s < length g.flat.symbols → Passed g s x y waited was → Looked g s y.entries waited was z waits is → Passed g (s + 1) x z waits is
pass_goes_on g s x y z waited waits was is there h l = record {
  stands = l.stands;
  at_most = let i = h.at_most in let j = l.at_most in omega arith;
  falls = λ e. ⊎_elim (λ f. let i = h.falls f in let j = l.at_most in omega arith) (λ less. let i = h.at_most in omega arith) (l.falls e);
  rests = λ e t k.
      let r = l.rests e in
      subst (λ ws. get_or ws t false ≡ false) (sym r.1)
      (⊎_elim
      (λ f. ap (λ i. get_or (set waited s false) i false) f ∙ get_or-set_same waited s false false (let m = h.stands.as_many in omega arith))
      (λ n. get_or-set_other waited s t false false n ∙ h.rests r.0 t (omega arith))
      (cases_eq t s));
}

-- ---- the beginning

replicated : {A : Type 0} (n i : ℕ) (a : A) → get_or (replicate n a) i a ≡ a
replicated n i a =
    ⊎_elim (λ l. get_or-replicate n i a a l) (λ l. get_or_past (replicate n a) i a (let e = length-replicate n a in omega arith)) (cases_lt i n)

-- nothing is known
pub begins : (b : Board) (z : Sizes) → IsBoard b → z.entries ≡ replicate (length b.symbols.now * b.points) (b.limit + 2) → z.reached ≡ replicate (length b.symbols.now) [] → z.news ≡ [] → Begins (setting_of b) z
begins b z board e r n =
    let g = setting_of b in
    let none : (s c : ℕ) → IsKnown g.limit (entry_at g z.entries s c) → ⊥ =
    λ s c k. let at = ap (λ es. entry_at g es s c) e ∙ replicated (length b.symbols.now * b.points) (s * points_in b.k b.tags + c) (b.limit + 2) in absurd (omega arith) in
    record {
      all = ap length e ∙ length-replicate (length b.symbols.now * b.points) (b.limit + 2) ∙ ap₂ (λ i j. i * j) (sym (length-map b.symbols.now symbol_view)) board.points;
      sound = start_sound g (table_of g z.entries) (λ s u p k. none s (number_of g.bound g.tags u) k);
      lists = record {
        as_many = ap length r ∙ length-replicate (length b.symbols.now) [] ∙ sym (length-map b.symbols.now symbol_view);
        within = λ a i l. let empty = ap length (ap (λ us. get_or us a []) r ∙ replicated (length b.symbols.now) a []) in absurd (omega arith);
        all = λ a c l m k. absurd (none a c k);
        news = λ i l. let empty = ap length n in absurd (omega arith);
      };
    }

-- all wait
pub all_wait : (b : Board) (sizes : Sizes) (waits : List Bool) → Begins (setting_of b) sizes → waits ≡ replicate (length b.symbols.now) true → Stands (setting_of b) sizes waits
all_wait b sizes waits h e = record {
  all = h.all;
  sound = h.sound;
  lists = h.lists;
  as_many = ap length e ∙ length-replicate (length b.symbols.now) true ∙ sym (length-map b.symbols.now symbol_view);
  closed = λ s l i.
      let n : s < length b.symbols.now = subst (λ x. s < x) (length-map b.symbols.now symbol_view) l in
      let on : get_or waits s false ≡ true = ap (λ ws. get_or ws s false) e ∙ get_or-replicate (length b.symbols.now) s true false n in
      absurd (cc);
}

-- none waits any more
pub none_waits : (b : Board) (old : List ℕ) (new : Sizes) (waits : List Bool) (changed : Bool) → IsBoard b → changed ≡ false → Passed (setting_of b) (length b.symbols.now) old new waits changed → IsDone (setting_of b) (table_of (setting_of b) new.entries)
none_waits b old new waits changed board e h =
    let g = setting_of b in
    record {
      fit = board_fit b board;
      closed = pass_closed g (table_of g new.entries) (λ s u size l p step. h.stands.closed s l (h.rests e s (subst (λ n. s < n) (length-map b.symbols.now symbol_view) l)) u size p step);
      sound = h.stands.sound;
    }

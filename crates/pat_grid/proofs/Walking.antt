-- Walks along the entries and the numbers that are there.
use Rattle.std.proofs.Common.{◌≡◌, ℕ, ◌+◌, ◌-◌, ◌*◌, ◌<◌, ◌≤◌, ⊎_elim, Bool, false, List, length, get_or, sym, ap, ◌∙◌, subst, arith}
use Rattle.std.proofs.lemmas.Bool.{cases_lt, cases_eq}
use Rattle.pat_inclusion_spec.specs.bounds.Tables.{Setting, IsKnown}
use Rattle.pat_inclusion_spec.specs.bounds.Numbers.{points_in, unknown, HasAllEntries}
use Rattle.pat_grid.specs.declared.tables.board.Board.{Board}
use Rattle.pat_grid.specs.declared.tables.sizes.Sizes.{Sizes}
use Rattle.pat_grid.specs.tables.Views.{setting_of, IsBoard}
use Rattle.pat_grid.specs.tables.Moves.{entry_at, IsPlace, Moved, HeldBefore}
use Rattle.pat_grid.proofs.Relaxing.{entry_within, symbol_within, moved_none, moved_both, held_kept}

-- an entry stands within the list
pub place_within : (b : Board) (entries : List ℕ) (s c : ℕ) → IsBoard b → HasAllEntries (setting_of b) entries → IsPlace b s c → s * b.points + c < length entries
place_within b entries s c board all place =
    let m : c < points_in b.k b.tags = subst (λ p. c < p) board.points place.1 in
    subst (λ p. s * p + c < length entries) (sym board.points)
    (entry_within (setting_of b) entries s c all (symbol_within b s place.0) m)

-- where the list has the same items, the row has the same entries
pub same_entries : (b : Board) (entries : List ℕ) (s number place until to : ℕ) → IsBoard b → place ≡ s * b.points + number → ((i d : ℕ) → place ≤ i → i < until → get_or entries i d ≡ get_or entries place d) → to ≤ until - place + number → (c : ℕ) → number ≤ c → c < to → entry_at (setting_of b) entries s c ≡ entry_at (setting_of b) entries s number
same_entries b entries s number place until to board is same within c l m =
    let u = unknown b.limit in
    subst (λ p. get_or entries (s * p + c) u ≡ get_or entries (s * p + number) u) board.points
    (same (s * b.points + c) u (omega arith) (omega arith) ∙ ap (λ p. get_or entries p u) is)

-- where the entries are as the one that knows of no tree, none of them knows of one
pub none_known : (g : Setting) (entries : List ℕ) (s from number to e : ℕ) → e ≡ entry_at g entries s number → g.limit + 1 < e → ((c : ℕ) → from ≤ c → c < number → IsKnown g.limit (entry_at g entries s c) → ⊥) → ((c : ℕ) → number ≤ c → c < to → entry_at g entries s c ≡ entry_at g entries s number) → (c : ℕ) → from ≤ c → c < to → IsKnown g.limit (entry_at g entries s c) → ⊥
none_known g entries s from number to e is large before same c l m known =
    ⊎_elim (λ below. before c l below known) (λ past. let i = same c past m in absurd (omega arith)) (cases_lt c number)

-- ---- numbers that are held

pub held_begun : (g : Setting) (s to : ℕ) (held : List Bool) (x : Sizes) (p : Bool) → ((c : ℕ) → 0 ≤ c → c < to → get_or held c false ≡ false) → Moved g s (Unit {0}) (HeldBefore g s held to) x p x p
held_begun g s to held x p none =
    moved_none g s (Unit {0}) (HeldBefore g s held to) x p (λ c l is. let n = none c (omega arith) l in absurd (cc))

pub held_walked : (g : Setting) (s m to : ℕ) (held : List Bool) (x y z : Sizes) (p q r : Bool) → m < points_in g.bound g.tags → Moved g s (Unit {0}) (HeldBefore g s held m) x p y q → Moved g s (Unit {0}) (λ es. entry_at g es s m ≤ 1) y q z r → ((c : ℕ) → m + 1 ≤ c → c < to → get_or held c false ≡ false) → Moved g s (Unit {0}) (HeldBefore g s held to) x p z r
held_walked g s m to held x y z p q r room first second none =
    moved_both g s (Unit {0}) (HeldBefore g s held m) (λ es. entry_at g es s m ≤ 1) (HeldBefore g s held to) x y z p q r first second
    (λ apart lowers before. held_kept g s m held y.entries z.entries (omega arith) lowers before)
    (λ before here c l is. ⊎_elim
    (λ below. before c below is)
    (λ past. ⊎_elim
    (λ e. subst (λ i. entry_at g z.entries s i ≤ 1) e here)
    (λ other. let n = none c (omega arith) l in absurd (cc))
    (cases_eq m c))
    (cases_lt c m))

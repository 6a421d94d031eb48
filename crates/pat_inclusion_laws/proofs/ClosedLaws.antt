-- Patterns without variables, as right sides and as lower bounds.
use Rattle.std.proofs.Common.{◌≡◌, ℕ, true, List, ◌↔◌}
use Rattle.pat_words_spec.specs.Words.{Word}
use Rattle.pat_words_spec.specs.Patterns.{Pat, In, InUnder, no_values, is_closed, subst_of}
use Rattle.pat_words_laws.proofs.FormLaws.{subst_to, subst_from}
use Rattle.pat_words_laws.proofs.ClosedPatterns.{under_mono as words_mono, under_closed}
use Rattle.pat_words_spec.specs.Languages.{MemberOf}
use Rattle.pat_words_spec.specs.Cuts.{CutOf}
use Rattle.pat_inclusion_spec.specs.bounds.Trees.{Derivable, derivable}
use Rattle.pat_inclusion_spec.specs.bounds.CutSets.{IsPoint}
use Rattle.pat_inclusion_spec.specs.bounds.Symbols.{LowerSymbol, Stands, IsFlatOf}
use Rattle.pat_inclusion_spec.specs.bounds.Tables.{Setting, Table, IsKnown, IsDone}
use Rattle.pat_inclusion_laws.proofs.TreeLaws.{shown_under, under_derivable, derivable_under, lower_derivable}
use Rattle.pat_inclusion_laws.proofs.CutSetLaws.{under_mono, through, back_through}
use Rattle.pat_inclusion_laws.proofs.SearchLaws.{known_derivable, derivable_known}

pub derivable_in : (lower : ℕ → Pat) (e : Pat) (w : Word) → is_closed e ≡ true → Derivable lower e w → In e w
derivable_in lower e w c h = under_closed (derivable lower) no_values e c w (derivable_under lower e w h)

pub in_derivable : (lower : ℕ → Pat) (e : Pat) (w : Word) → is_closed e ≡ true → In e w → Derivable lower e w
in_derivable lower e w c h = under_derivable lower e w (under_closed no_values (derivable lower) e c w h)

pub derivable_values : (lower : ℕ → Pat) (e : Pat) (w : Word) → ((k : ℕ) → is_closed (lower k) ≡ true) → Derivable lower e w → In (subst_of lower e) w
derivable_values lower e w closed h =
    subst_from lower no_values e w
    (shown_under lower (λ k. In (lower k)) (λ k v i. under_closed (λ j. In (lower j)) no_values (lower k) (closed k) v i) h.0 e w h.1)

pub values_derivable : (lower : ℕ → Pat) (e : Pat) (w : Word) → ((k : ℕ) → is_closed (lower k) ≡ true) → In (subst_of lower e) w → Derivable lower e w
values_derivable lower e w closed h =
    under_derivable lower e w
    (words_mono (λ k. In (lower k)) (derivable lower)
    (λ k v i. lower_derivable lower k v (in_derivable lower (lower k) v (closed k) i))
    e w
    (subst_to lower no_values e w h))

pub known_right : (g : Setting) (table : Table) (lower : ℕ → Pat) (right : Pat) (r : ℕ) (u : Word) → IsDone g table → IsFlatOf lower g.flat → Stands g.flat.symbols LowerSymbol right r → is_closed right ≡ true → IsPoint g.bound g.tags u → IsKnown g.limit (table r u) → CutOf g.bound (In right) u
known_right g table lower right r u done flat st c p known =
    let h = known_derivable g table lower right r flat st done u p known in
    (h.0, derivable_in lower right h.0 c h.1, h.2)

pub right_known : (g : Setting) (table : Table) (lower : ℕ → Pat) (right : Pat) (r : ℕ) (u : Word) → IsDone g table → IsFlatOf lower g.flat → Stands g.flat.symbols LowerSymbol right r → is_closed right ≡ true → CutOf g.bound (In right) u → IsKnown g.limit (table r u)
right_known g table lower right r u done flat st c h =
    derivable_known g table lower right r flat st done u (h.0, in_derivable lower right h.0 c h.1, h.2)

-- ---- given points

pub eval_to : (k : ℕ) (given : ℕ → List Word) (patterns : ℕ → Pat) (e : Pat) (u : Word) → ((j : ℕ) (v : Word) → CutOf k (MemberOf (given j)) v ↔ CutOf k (In (patterns j)) v) → CutOf k (InUnder (λ j. MemberOf (given j)) e) u → CutOf k (In (subst_of patterns e)) u
eval_to k given patterns e u same h =
    let c = under_mono k (λ j. CutOf k (MemberOf (given j))) (λ j. CutOf k (In (patterns j))) (λ j v. (same j v).0) e u (through k (λ j. MemberOf (given j)) e u h) in
    let r = back_through k (λ j. In (patterns j)) e u c in
    (r.0, subst_from patterns no_values e r.0 r.1, r.2)

pub eval_from : (k : ℕ) (given : ℕ → List Word) (patterns : ℕ → Pat) (e : Pat) (u : Word) → ((j : ℕ) (v : Word) → CutOf k (MemberOf (given j)) v ↔ CutOf k (In (patterns j)) v) → CutOf k (In (subst_of patterns e)) u → CutOf k (InUnder (λ j. MemberOf (given j)) e) u
eval_from k given patterns e u same h =
    let i = through k (λ j. In (patterns j)) e u (h.0, subst_to patterns no_values e h.0 h.1, h.2) in
    back_through k (λ j. MemberOf (given j)) e u
    (under_mono k (λ j. CutOf k (In (patterns j))) (λ j. CutOf k (MemberOf (given j))) (λ j v. (same j v).1) e u i)

-- Sets of free variables, from the last node to the first.
use Rattle.std.proofs.Common.{◌≡◌, ℕ, zero, suc, ◌+◌, ◌<◌, ◌≤◌, Bool, true, false, ◌||◌, ◌&&◌, List, length, drop, get_or, Option, Some, None, refl, sym, ap, ◌∙◌, arith, ⊎_elim, slice_get, slice_set}
use Rattle.std.specs.Prelude.{option_map}
use Rattle.std.proofs.lemmas.Bool.{cases_lt}
use Rattle.std.proofs.lemmas.List.{drop_all, length-map, length-set, get_or-set_same, get_or-set_other}
use Rattle.std.proofs.lemmas.Option.{slice_get-map, slice_get_past, slice_get-get_or}
use Rattle.pat_semantics_laws.specs.Programs.{Program, Core, core_at, node_at, is_among, is_free, is_free_within, option_uses, core_uses}
use Rattle.pat_semantics_laws.specs.WellFormed.{WellFormed}
use Rattle.pat_semantics_laws.proofs.FreeVars.{free_unfolds, core_agrees, part_after}
use Rattle.pat_core.specs.declared.program.Node.{Node as CodeNode}
use Rattle.pat_core.specs.declared.program.Program.{Program as CodeProgram}
use Rattle.pat_core.specs.Views.{core_view, node_view, program_view}
use Rattle.pat_reduce_values.specs.declared.programs.variables.Variables.{Variables}
use Rattle.pat_reduce_values.specs.programs.FreeVariables.{is_in, is_listed}
use Rattle.pat_limits.specs.Limits.{number_count}

set_here : (xs : List Variables) (n : ℕ) (v : Variables) → n < length xs → slice_get (slice_set xs n v) n ≡ Some v
set_here xs n v within =
    let same = length-set xs n v in
    slice_get-get_or (slice_set xs n v) n v (omega arith) ∙ ap Some (get_or-set_same xs n v v within)

set_before : (xs : List Variables) (n k : ℕ) (v : Variables) → n < k → slice_get (slice_set xs n v) k ≡ slice_get xs k
set_before xs n k v less =
    let same = length-set xs n v in
    ⊎_elim
    (λ within. slice_get-get_or (slice_set xs n v) k v (omega arith) ∙ ap Some (get_or-set_other xs n k v v (omega arith)) ∙ sym (slice_get-get_or xs k v within))
    (λ past. slice_get_past (slice_set xs n v) k (omega arith) ∙ sym (slice_get_past xs k past))
    (cases_lt k (length xs))

or_none : (b c : Bool) → (b || (false && c)) ≡ b
or_none true c = refl
or_none false c = refl

-- at the end of the loop nothing is still to be added
pub all_added : (own old items : List ℕ) (i x : ℕ) (kept listed : Bool) → length items ≤ i → (is_among x own || (is_among x (drop i items) && kept)) ≡ (is_among x old || (is_among x items && kept)) → listed ≡ is_among x items → is_among x own ≡ (is_among x old || (listed && kept))
all_added own old items i x kept listed past all is =
    sym (or_none (is_among x own) kept)
    ∙ ap (λ l. is_among x own || (is_among x l && kept)) (sym (drop_all i items past))
    ∙ all ∙ ap (λ b. is_among x old || (b && kept)) (sym is)

-- past the last node no variable is free
nothing_past : (d : ℕ) (p : Program) (x k : ℕ) → core_at p k ≡ None → is_free_within d p x k ≡ false
nothing_past zero p x k h = refl
nothing_past (suc d) p x k h = ap (option_uses (is_free_within d p x) x) h

free_past : (p : Program) (x k : ℕ) → length p.nodes ≤ k → is_free p x k ≡ false
unfolding is_free
free_past p x k past = nothing_past (length p.nodes) p x k (ap (option_map (λ d. d.core)) (slice_get_past p.nodes k past))

-- from the number of nodes on, no list has a variable and none is free
pub listed_past : (q : CodeProgram) (free : List Variables) → length free ≡ length q.nodes → (x k : ℕ) → length q.nodes ≤ k → is_listed free k x ≡ is_free (program_view q) x k
listed_past q free same x k past =
    ap (λ o. is_in o x) (slice_get_past free k (omega arith))
    ∙ sym (free_past (program_view q) x k (let l = length-map q.nodes node_view in omega arith))

module _ (p : Program) (w : WellFormed p) (free : List Variables) (n : ℕ) (own : Variables) (core : Core)
    (there : core_at p n ≡ Some core) (within : n < length free)
    (after : (x k : ℕ) → n + 1 ≤ k → is_listed free k x ≡ is_free p x k)
    (listed : (x : ℕ) → is_among x own.listed ≡ core_uses (λ k. is_listed free k x) x core) where
  -- the list of this node is right
  here : (x : ℕ) → is_among x own.listed ≡ is_free p x n
  here x =
      listed x
      ∙ core_agrees (λ k. is_listed free k x) (λ k. is_free p x k) x core (λ k a. after x k (let l = part_after p n core (node_at p n) w refl there k a in omega arith))
      ∙ sym (free_unfolds p x n core w there)

  -- and so are those that come after it
  pub one_more : (x k : ℕ) → n ≤ k → is_listed (slice_set free n own) k x ≡ is_free p x k
  one_more x k from =
      ⊎_elim
      (λ less. ap (λ o. is_in o x) (set_before free n k own less) ∙ after x k (omega arith))
      (λ same.
      let e : k ≡ n = omega arith in
      ap (λ j. is_listed (slice_set free n own) j x) e
      ∙ ap (λ o. is_in o x) (set_here free n own within)
      ∙ here x ∙ ap (λ j. is_free p x j) (sym e))
      (cases_lt n k)

-- the term that stands at a node
pub core_there : (q : CodeProgram) (nodes : List CodeNode) (n : ℕ) (d : CodeNode) → nodes ≡ q.nodes → n < length nodes → d ≡ get_or nodes n d → core_at (program_view q) n ≡ Some (core_view d.core)
core_there q nodes n d same within is =
    ap (option_map (λ e. e.core)) (slice_get-map node_view q.nodes n)
    ∙ ap (λ o. option_map (λ e. e.core) (option_map node_view o)) (ap (λ l. slice_get l n) (sym same) ∙ slice_get-get_or nodes n d within ∙ ap Some (sym is))

small_in : (o : Option Variables) (x : ℕ) → is_in o x ≡ true → x < number_count
small_in None x h = absurd cc
small_in (Some own) x h = own.small x h

-- a variable that is free somewhere is a 32-bit number
pub small_free : (p : Program) (free : List Variables) → ((x n : ℕ) → is_listed free n x ≡ is_free p x n) → (x n : ℕ) → is_free p x n ≡ true → x < number_count
small_free p free listed x n h = small_in (slice_get free n) x (listed x n ∙ h)

free_none : (p : Program) (x n : ℕ) → core_at p n ≡ None → is_free p x n ≡ false
unfolding is_free
free_none p x n h = nothing_past (length p.nodes) p x n h

-- what is free in a node, by its parts
pub free_by_parts : (p : Program) → WellFormed p → (x n : ℕ) → is_free p x n ≡ option_uses (λ k. is_free p x k) x (core_at p n)
free_by_parts p w x n =
    (elim (core_at p n) as (λ o. core_at p n ≡ o → is_free p x n ≡ option_uses (λ k. is_free p x k) x o) [
      | None ↦ λ h. free_none p x n h
      | Some core ↦ λ h. free_unfolds p x n core w h
    ]) refl

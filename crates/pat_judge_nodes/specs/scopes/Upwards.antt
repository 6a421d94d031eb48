-- The table of the nodes that nodes are parts of, and how a name is looked for upwards.
use Rattle.std.specs.Prelude.{◌≡◌, ℕ, suc, ◌<◌, Bool, true, false, List, [], ◌∷◌, length, replicate, Option, Some, None, slice_get, slice_set}
use Rattle.pat_semantics_spec.specs.Programs.{Node, Program, parts}
use Rattle.std.specs.List.{list_all}
use Rattle.pat_derivation_spec.specs.Derivations.{Line, Derivation, line_at}
use Rattle.pat_derivation_spec.specs.Scopes.{node_above, is_in_scope, is_in_scope_within}
use Rattle.pat_judge_nodes.specs.declared.scopes.looking.Found.{Found}
use Rattle.pat_judge_nodes.specs.declared.scopes.looking.Found.TheVariants as found

-- the table has an entry for each node of the program: the node that it is a part of, if there is one
abbrev pub AreAbove : Program → List (Option ℕ) → Type 0
AreAbove p above = (length above ≡ length p.nodes) × ((n : ℕ) → n < length p.nodes → slice_get above n ≡ Some (node_above p n))

-- the table with k for each of the numbers that has a place in it
abbrev pub marked : List ℕ → ℕ → List (Option ℕ) → List (Option ℕ)
marked [] k above = above
marked (m ∷ ms) k above = marked ms k (slice_set above m (Some k))

-- the table of so many places for nodes with the numbers from k on: of several nodes with one part the first counts
abbrev pub marked_from : ℕ → ℕ → List Node → List (Option ℕ)
marked_from count k [] = replicate count None
marked_from count k (d ∷ ds) = marked (parts d.core) k (marked_from count (suc k) ds)

-- whether x is in scope, where it was looked for at one node, and may be looked for so many nodes further up
abbrev pub after : Program → ℕ → ℕ → Found → Bool
after p x up found.Here = true
after p x up found.Nowhere = false
after p x up (found.Above k) = is_in_scope_within up p k x

-- where to look next, if anywhere, is a node of the program
abbrev pub StaysInside : Program → Found → Type 0
StaysInside p (found.Above k) = k < length p.nodes
StaysInside p _ = Unit {0}

-- what the lines of the nodes before n name is in scope there
abbrev pub AreScopedBefore : Program → Derivation → ℕ → Type 0
AreScopedBefore p d n =
    (k : ℕ) → (l : Line) → k < n → line_at d k ≡ Some l → list_all (λ e. is_in_scope p k e.0) l.of.needs ≡ true

-- Scopes within one another.
use Rattle.std.proofs.Common.{◌≡◌, ℕ, ◌-◌, ◌≤◌, List, [], ◌∷◌, refl, ◌++◌, take, drop, length, ap, sym, ◌∙◌, append_assoc, arith, length-append}
use Rattle.std.proofs.lemmas.List.{take-append-drop}
use Rattle.std.proofs.Math.Seq.{drop-append_seam}
use Rattle.pat_resolver_heads.specs.declared.tables.scope.Variable.{Variable}
use Rattle.pat_resolver_bodies.specs.Above.{IsAbove}

-- with names in a row, and one more
pub above_names : (n : ℕ) (outer inner : List Variable) (v : Variable) → drop n inner ≡ outer → IsAbove outer (v ∷ inner)
above_names n outer inner v e = record { front = v ∷ take n inner; is = ap (λ vs. v ∷ vs) (sym (take-append-drop n inner) ∙ ap (λ vs. take n inner ++ vs) e) }

-- with one more
pub above_one : (outer : List Variable) (v : Variable) → IsAbove outer (v ∷ outer)
above_one outer v = record { front = v ∷ []; is = refl }

pub above_more : (outer middle inner : List Variable) → IsAbove outer middle → IsAbove middle inner → IsAbove outer inner
above_more outer middle inner a b = record { front = b.front ++ a.front; is = b.is ∙ ap (λ vs. b.front ++ vs) a.is ∙ sym (append_assoc b.front a.front outer) }

pub above_same : (outer : List Variable) → IsAbove outer outer
above_same outer = record { front = []; is = refl }

longer : (front outer : List Variable) → length (front ++ outer) - length outer ≡ length front
longer front outer = omega (arith, length-append front outer)

pub above_at_least : (outer inner : List Variable) → IsAbove outer inner → length outer ≤ length inner
above_at_least outer inner a = omega (arith, ap length a.is, length-append a.front outer)

-- without those in front
pub above_left : (outer inner : List Variable) → IsAbove outer inner → drop (length inner - length outer) inner ≡ outer
above_left outer inner a = rw (a.is, longer a.front outer) (drop-append_seam a.front outer)

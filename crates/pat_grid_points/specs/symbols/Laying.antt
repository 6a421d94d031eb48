-- Laying out along the heads of a pattern.
use Rattle.std.specs.Prelude.{◌≡◌, ℕ, List, [], ◌∷◌, length}
use Rattle.pat_patterns.specs.declared.postfix_form.Head.{Head}
use Rattle.pat_patterns.specs.declared.postfix_form.Head.TheVariants.{Zero as ZeroHead, One as OneHead, Tag as TagHead, Var as VarHead, Sum as SumHead, Prod as ProdHead, Star as StarHead}
use Rattle.pat_inclusion_spec.specs.bounds.Symbols.{Symbol, NoSymbol, OneSymbol, TagSymbol, SumSymbol, ProdSymbol, StarSymbol}
use Rattle.pat_inclusion_spec.specs.bounds.Layouts.{and_one}

-- the numbers of the head's parts are there
abbrev pub HasParts : Head → List ℕ → Type 0
HasParts SumHead (b ∷ a ∷ numbers) = Unit {0}
HasParts ProdHead (b ∷ a ∷ numbers) = Unit {0}
HasParts StarHead (a ∷ numbers) = Unit {0}
HasParts SumHead _ = ⊥
HasParts ProdHead _ = ⊥
HasParts StarHead _ = ⊥
HasParts _ numbers = Unit {0}

-- the symbols and the numbers after all heads: those of a head's parts, which are on top, give way to its own
abbrev pub lay : (ℕ → Symbol) → List Head → List Symbol → List ℕ → List Symbol × List ℕ
lay var [] made numbers = (made, numbers)
lay var (ZeroHead ∷ heads) made numbers = lay var heads (and_one made NoSymbol) (length made ∷ numbers)
lay var (OneHead ∷ heads) made numbers = lay var heads (and_one made OneSymbol) (length made ∷ numbers)
lay var (TagHead m ∷ heads) made numbers = lay var heads (and_one made (TagSymbol m)) (length made ∷ numbers)
lay var (VarHead k ∷ heads) made numbers = lay var heads (and_one made (var k)) (length made ∷ numbers)
lay var (SumHead ∷ heads) made (b ∷ a ∷ numbers) = lay var heads (and_one made (SumSymbol a b)) (length made ∷ numbers)
lay var (ProdHead ∷ heads) made (b ∷ a ∷ numbers) = lay var heads (and_one made (ProdSymbol a b)) (length made ∷ numbers)
lay var (StarHead ∷ heads) made (a ∷ numbers) = lay var heads (and_one made (StarSymbol a)) (length made ∷ numbers)
lay var _ made _ = (made, [])

-- the first head has been laid out
abbrev pub Lays : (ℕ → Symbol) → Head → List Symbol → List ℕ → List Symbol → List ℕ → Type 0
Lays var head old_made old_numbers made numbers =
    (heads : List Head) → lay var (head ∷ heads) old_made old_numbers ≡ lay var heads made numbers

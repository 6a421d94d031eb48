-- Patterns: commutative regular expressions over tags, and their words.
use Rattle.std.specs.Prelude.{◌≡◌, ℕ, zero, suc, ◌≤◌, Bool, true, false, not, ◌&&◌, ◌||◌, nat_eq, if◌then◌else◌, ◌⊎◌, ◌↔◌, IsTrue}
use Rattle.pat_words_spec.specs.Words.{Word, no_word, one, plus}

-- a pattern
pub data Pat : Type 0 where
  Zero : Pat
  One : Pat
  Tag : (tag : ℕ) → Pat
  Sum : (left right : Pat) → Pat
  Prod : (left right : Pat) → Pat
  Star : (part : Pat) → Pat
  Var : (number : ℕ) → Pat

-- a set of words
abbrev pub Language : Type 1
Language = Word → Type 0

-- a sum of n words of a set
abbrev pub Times : ℕ → Language → Word → Type 0
Times zero L w = w ≡ no_word
Times (suc n) L w = (u v : Word) × L u × Times n L v × (w ≡ plus u v)

-- w is a word of the pattern, where each variable has the given words
abbrev pub InUnder : (ℕ → Language) → Pat → Word → Type 0
InUnder values Zero w = ⊥
InUnder values One w = w ≡ no_word
InUnder values (Tag m) w = w ≡ one m
InUnder values (Sum e f) w = InUnder values e w ⊎ InUnder values f w
InUnder values (Prod e f) w = (u v : Word) × InUnder values e u × InUnder values f v × (w ≡ plus u v)
InUnder values (Star e) w = (n : ℕ) × Times n (InUnder values e) w
InUnder values (Var k) w = values k w

-- no variable has a word
abbrev pub no_values : ℕ → Language
no_values k w = ⊥

-- w is a word of the pattern, which has no variable
abbrev pub In : Pat → Word → Type 0
In e w = InUnder no_values e w

-- each word of e is a word of f
abbrev pub Included : Pat → Pat → Type 0
Included e f = (w : Word) → In e w → In f w

-- each word of the pattern is empty and may be so, or has a received tag
abbrev pub Covers : Pat → (ℕ → Bool) → Bool → Type 0
Covers e received free =
    (w : Word) → In e w → (IsTrue free × (w ≡ no_word)) ⊎ ((t : ℕ) × IsTrue (received t) × (1 ≤ w t))

-- the two patterns are the same
abbrev pub pat_eq : Pat → Pat → Bool
pat_eq Zero Zero = true
pat_eq One One = true
pat_eq (Tag m) (Tag n) = nat_eq m n
pat_eq (Sum e f) (Sum g h) = pat_eq e g && pat_eq f h
pat_eq (Prod e f) (Prod g h) = pat_eq e g && pat_eq f h
pat_eq (Star e) (Star f) = pat_eq e f
pat_eq (Var m) (Var n) = nat_eq m n
pat_eq _ _ = false

-- the pattern is 0
abbrev pub is_zero : Pat → Bool
is_zero Zero = true
is_zero _ = false

-- the pattern is 1
abbrev pub is_one : Pat → Bool
is_one One = true
is_one _ = false

-- a sum by the simplifying forms: 0 is left out, and of two same parts one
abbrev pub sum_of : Pat → Pat → Pat
sum_of e f = if is_zero e then f else if is_zero f then e else if pat_eq e f then e else Sum e f

-- a product by the simplifying forms: with 0 it is 0, and 1 is left out
abbrev pub prod_of : Pat → Pat → Pat
prod_of e f =
    if is_zero e || is_zero f then Zero else if is_one e then f else if is_one f then e else Prod e f

-- a star by the simplifying forms: that of 0 and that of 1 are 1
abbrev pub star_of : Pat → Pat
star_of e = if is_zero e || is_one e then One else Star e

-- the residual: what is left of the pattern once one message with this tag is taken
abbrev pub residual : Pat → ℕ → Pat
residual Zero m = Zero
residual One m = Zero
residual (Tag n) m = if nat_eq n m then One else Zero
residual (Sum e f) m = sum_of (residual e m) (residual f m)
residual (Prod e f) m = sum_of (prod_of (residual e m) f) (prod_of e (residual f m))
residual (Star e) m = prod_of (residual e m) (Star e)
residual (Var k) m = Zero

-- whether the empty word is a word of the pattern
abbrev pub is_nullable : Pat → Bool
is_nullable Zero = false
is_nullable One = true
is_nullable (Tag m) = false
is_nullable (Sum e f) = is_nullable e || is_nullable f
is_nullable (Prod e f) = is_nullable e && is_nullable f
is_nullable (Star e) = true
is_nullable (Var k) = false

-- whether the pattern has a word
abbrev pub is_inhabited : Pat → Bool
is_inhabited Zero = false
is_inhabited One = true
is_inhabited (Tag m) = true
is_inhabited (Sum e f) = is_inhabited e || is_inhabited f
is_inhabited (Prod e f) = is_inhabited e && is_inhabited f
is_inhabited (Star e) = true
is_inhabited (Var k) = false

-- the pattern has no variable
abbrev pub is_closed : Pat → Bool
is_closed (Var k) = false
is_closed (Sum e f) = is_closed e && is_closed f
is_closed (Prod e f) = is_closed e && is_closed f
is_closed (Star e) = is_closed e
is_closed _ = true

-- each variable replaced by its pattern, by the simplifying forms
abbrev pub subst_of : (ℕ → Pat) → Pat → Pat
subst_of values Zero = Zero
subst_of values One = One
subst_of values (Tag m) = Tag m
subst_of values (Sum e f) = sum_of (subst_of values e) (subst_of values f)
subst_of values (Prod e f) = prod_of (subst_of values e) (subst_of values f)
subst_of values (Star e) = star_of (subst_of values e)
subst_of values (Var k) = values k

-- the residual law: its words are those that give a word with one message more
abbrev pub ResidualLaw : Type 0
ResidualLaw = (e : Pat) (m : ℕ) (w : Word) → In (residual e m) w ↔ In e (plus w (one m))

-- the test of the empty word says yes exactly where it is a word
abbrev pub NullableLaw : Type 0
NullableLaw = (e : Pat) → IsTrue (is_nullable e) ↔ In e no_word

-- the test of any word says yes exactly where there is one
abbrev pub InhabitedLaw : Type 0
InhabitedLaw = (e : Pat) → IsTrue (is_inhabited e) ↔ ((w : Word) × In e w)

-- whether the pattern has a word without a received tag
abbrev pub has_bare : (ℕ → Bool) → Pat → Bool
has_bare received Zero = false
has_bare received One = true
has_bare received (Tag m) = not (received m)
has_bare received (Sum e f) = has_bare received e || has_bare received f
has_bare received (Prod e f) = has_bare received e && has_bare received f
has_bare received (Star e) = true
has_bare received (Var k) = false

-- whether each word without a received tag is empty
abbrev pub bare_is_empty : (ℕ → Bool) → Pat → Bool
bare_is_empty received (Tag m) = received m
bare_is_empty received (Sum e f) = bare_is_empty received e && bare_is_empty received f
bare_is_empty received (Prod e f) =
    not (has_bare received e && has_bare received f) || (bare_is_empty received e && bare_is_empty received f)
bare_is_empty received (Star e) = bare_is_empty received e
bare_is_empty received _ = true

-- whether the clauses cover the pattern
abbrev pub covers : Pat → (ℕ → Bool) → Bool → Bool
covers e received free = bare_is_empty received e && (not (is_nullable e) || free)

-- the test says yes exactly where each word is empty and may be so, or has a received tag
abbrev pub CoversLaw : Type 0
CoversLaw = (e : Pat) (received : ℕ → Bool) (free : Bool) → IsTrue (covers e received free) ↔ Covers e received free

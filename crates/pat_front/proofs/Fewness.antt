-- A text has at most as many tokens as bytes.
use Rattle.std.proofs.Common.{◌≡◌, ◌+◌, ◌*◌, ◌≤◌, ◌<◌, ℕ, map, List, [], ◌∷◌, length, length-append, ap, arith}
use Rattle.std.proofs.lemmas.List.{length-map}
use Rattle.pat_lexer_spec.specs.Tokens.{Spanned}
use Rattle.pat_lexer_spec.specs.Lexemes.{Lexeme, Whole, Begins}
use Rattle.pat_lexer_spec.specs.Divisions.{Reaches, here, over, token, Divides}
use Rattle.pat_lexer_laws.proofs.Classes.{lexeme_front}
use Rattle.pat_limits.specs.Limits.{most_number}

-- a lexeme has a byte
some_byte : (lexeme : Lexeme) (own rest : List ℕ) → Begins lexeme own rest → 1 ≤ length own
some_byte lexeme own rest b =
    let front = lexeme_front lexeme own rest b.fits in
    let long = ap length front.is in
    omega (arith, long)

reached : (at to : ℕ) (text rest : List ℕ) (tokens : List Spanned) → Reaches at text tokens to rest → length tokens + length rest ≤ length text
reached at to text rest tokens here = omega arith
reached at to text rest tokens (over {own = own} {after = after} {lexeme = lexeme} which begins split behind) =
    let deeper = reached _ to after rest tokens behind in
    let both = length-append own after in
    let whole = ap length split in
    omega (arith, deeper, both, whole)
reached at to text rest (x ∷ tokens) (token {own = own} {after = after} {t = t} begins split behind) =
    let deeper = reached _ to after rest tokens behind in
    let both = length-append own after in
    let whole = ap length split in
    let some = some_byte (Whole t) own after begins in
    omega (arith, deeper, both, whole, some)

pub tokens_few : (text : List ℕ) (tokens : List Spanned) → Divides text tokens → length tokens ≤ length text
tokens_few text tokens (to, reaches) = let few = reached 0 to text [] tokens reaches in omega (arith, few)

-- so the tree of a text is small
pub small_tree : {A : Type 0} (view : A → Spanned) (bytes : List ℕ) (items : List A) (size : ℕ) → length bytes ≤ 1048576 → Divides bytes (map view items) → size ≤ 4 * length items → size < most_number
small_tree view bytes items size small divides few =
    let as_many = length-map items view in
    let tokens = tokens_few bytes (map view items) divides in
    omega (arith, as_many, tokens, small, few)

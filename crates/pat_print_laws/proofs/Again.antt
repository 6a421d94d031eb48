-- The canonical text divides into the canonical tokens, and is read as the tree.
use Rattle.std.proofs.Common.{◌≡◌, ◌+◌, inl, ℕ, Bool, true, false, List, [], ◌∷◌, length, refl, ap}
use Rattle.std.specs.Prelude.{◌&&◌}
use Rattle.pat_lexer_spec.specs.Tokens.{Token, Spanned}
use Rattle.pat_lexer_spec.specs.Divisions.{Reaches, here, over, token, Divides}
use Rattle.pat_lexer_laws.proofs.Beginnings.{blank_begins}
use Rattle.pat_parser_spec.specs.Trees.{Tree}
use Rattle.pat_parser_spec.specs.Items.{Limits}
use Rattle.pat_parser_spec.specs.Claims.{SpellsTree}
use Rattle.pat_lexer_spec.specs.Spelled.{IsSpelled}
use Rattle.pat_parser_laws.specs.Names.{EachOf, AreSpelled}
use Rattle.pat_print_spec.specs.Canonical.{Tok, Blank, Line, Pieces, canonical, tokens_of}
use Rattle.pat_print_spec.specs.Text.{token_bytes, text_of, canonical_text}
use Rattle.pat_print_laws.specs.RoundTrip.{kinds}
use Rattle.pat_print_laws.proofs.RoundTrip.{spelled_again}
use Rattle.pat_print_laws.specs.ReadAgain.{IsWritable, DividesInto, ReadsAs}
use Rattle.pat_print_laws.proofs.Apart.{ends, apart, tree_apart}
use Rattle.pat_print_laws.proofs.Beginning.{token_begins}
use Rattle.pat_print_laws.proofs.Writable.{writable}

-- the bytes of pieces divide into their tokens, from an offset on
record Divided (at : ℕ) (r : Pieces) : Type 0 where
  tokens : List Spanned
  to : ℕ
  reaches : Reaches at (text_of r) tokens to []
  kinds_are : kinds tokens ≡ tokens_of r

left_of : (a b : Bool) → (a && b) ≡ true → a ≡ true
left_of true b h = refl
left_of false b h = h

right_of : (a b : Bool) → (a && b) ≡ true → b ≡ true
right_of true b h = h
right_of false b h = absurd cc

divided : (r : Pieces) (at : ℕ) → EachOf IsSpelled (tokens_of r) → apart r ≡ true → Divided at r
divided [] at s h = record { tokens = []; to = at; reaches = here; kinds_are = refl }
divided (Tok c ∷ r) at s h =
    let n = divided r (at + length (token_bytes c)) s.1 (right_of (ends c r) (apart r) h) in
    record {
      tokens = record { token = c; from = at; to = at + length (token_bytes c) } ∷ n.tokens;
      to = n.to;
      reaches = token (token_begins c r s.0 (left_of (ends c r) (apart r) h)) refl n.reaches;
      kinds_are = ap (λ (w : List Token). c ∷ w) n.kinds_are;
    }
divided (Blank ∷ r) at s h =
    let n = divided r (at + 1) s h in
    record { tokens = n.tokens; to = n.to; reaches = over (inl refl) (blank_begins 32 (text_of r) refl) refl n.reaches; kinds_are = n.kinds_are }
divided (Line ∷ r) at s h =
    let n = divided r (at + 1) s h in
    record { tokens = n.tokens; to = n.to; reaches = over (inl refl) (blank_begins 10 (text_of r) refl) refl n.reaches; kinds_are = n.kinds_are }

pub divides_into : (m : Tree) → IsWritable m → DividesInto (canonical_text m) (tokens_of (canonical m))
divides_into m s = let n = divided (canonical m) 0 s (tree_apart m) in (n.tokens, (n.to, n.reaches), n.kinds_are)

-- bytes spell each token of a text that divides
pub spelled : {at to : ℕ} {text rest : List ℕ} {ts : List Spanned} → Reaches at text ts to rest → AreSpelled ts
spelled here = tt
spelled (over o b e r) = spelled r
spelled (token {own = own} {after = after} b e r) = ((own, after, b.fits), spelled r)

-- the text of the tree of spelled tokens
pub read_spelled : (lim : Limits) (ts : List Spanned) (m : Tree) → AreSpelled ts → SpellsTree lim ts m → ReadsAs lim (canonical_text m) m
read_spelled lim ts m s t =
    let n = divides_into m (writable lim ts m s t) in
    let a = spelled_again lim ts n.0 m t n.2 in
    record { tokens = n.0; tree = a.0; divides = n.1; spelled = a.1; same = a.2 }

pub read_again : (lim : Limits) (text : List ℕ) (ts : List Spanned) (m : Tree) → Divides text ts → SpellsTree lim ts m → ReadsAs lim (canonical_text m) m
read_again lim text ts m d t = read_spelled lim ts m (spelled d.1) t

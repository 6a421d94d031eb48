-- When an inclusion is shown: because it is trivial, or by a certificate.
use Rattle.std.specs.Prelude.{ℕ, Bool, true, false, ◌&&◌, ◌||◌, not, nat_eq, nat_lt, List, [], ◌∷◌, Option, Some, None}
use Rattle.pat_words_spec.specs.Patterns.{Pat, Sum, Var, pat_eq, subst_of}
use Rattle.pat_words_spec.specs.Flats.{is_flat, degree_of}
use Rattle.pat_inclusion_spec.specs.LinearSets.{LinearSet}
use Rattle.pat_inclusion_spec.specs.ClosedForms.{closed_form}
use Rattle.pat_inclusion_spec.specs.Covers.{CoverEntry, is_cover}
use Rattle.pat_inclusion_spec.specs.Points.{grid_fits}
use Rattle.pat_inclusion_spec.specs.CutWords.{cuts_lie}
use Rattle.pat_inclusion_spec.specs.Values.{VarValue, PatternForm, GridForm, VarLine, Scope, var_at, pattern_of, plainly_replaced, is_formed}

-- a certificate: a direct cover of closed forms, or the bound of a grid
pub data Cert : Type 0 where
  CoverCert : (entries : List CoverEntry) → Cert
  GridCert : (bound : ℕ) → Cert

-- an inclusion that is needed: the interface of its patterns, if it is one, and the patterns
pub record Inclusion : Type 0 where
  pub interface : Option ℕ
  pub left : Pat
  pub right : Pat

-- ---- trivial inclusions

-- e is f, or one of the arms of the sum f
abbrev pub is_arm : Pat → Pat → Bool
is_arm e (Sum f g) = pat_eq e (Sum f g) || (is_arm e f || is_arm e g)
is_arm e f = pat_eq e f

-- once the values that are patterns are put in, the left side is the right one or one of its arms
abbrev pub is_trivial : Scope → Pat → Pat → Bool
is_trivial s e f = is_arm (plainly_replaced s e) (plainly_replaced s f)

-- ---- covers

-- the entries are a cover of the one closed form by the other, if neither is too large
abbrev pub covers_forms : ℕ → List CoverEntry → Option (List LinearSet) → Option (List LinearSet) → Bool
covers_forms n entries (Some left) (Some right) = is_cover n left right entries
covers_forms n entries _ _ = false

-- the cover shows the inclusion of patterns without variables over n tags
abbrev pub cover_shows : ℕ → List CoverEntry → Pat → Pat → Bool
cover_shows n entries e f = covers_forms n entries (closed_form n e) (closed_form n f)

-- ---- grids

-- the variable is there, and its value is a set of points with this bound
abbrev pub has_bound : ℕ → Option VarLine → Bool
has_bound k None = false
has_bound k (Some v) = bound_is v.value
  where
    bound_is : VarValue → Bool
    bound_is (PatternForm e) = false
    bound_is (GridForm b points) = nat_eq b k

-- the pattern can't tell words apart whose cuts at k are equal
abbrev pub is_large_enough : Scope → ℕ → Pat → Bool
is_large_enough s k (Var m) = has_bound k (var_at s.vars m)
is_large_enough s k f = is_flat f && nat_lt (degree_of f) k

-- the grid with bound k shows the inclusion of patterns over n tags
abbrev pub grid_shows : Scope → ℕ → ℕ → Pat → Pat → Bool
grid_shows s k n e f = grid_fits k n && (is_large_enough s k f && cuts_lie k n (subst_of (pattern_of s) e) (subst_of (pattern_of s) f))

-- ---- all together

-- the certificate shows the inclusion of e in f, both over the tags of interface i
abbrev pub cert_shows : Scope → ℕ → Pat → Pat → Cert → Bool
cert_shows s i e f (CoverCert entries) = cover_shows (s.tags i) entries (subst_of (pattern_of s) e) (subst_of (pattern_of s) f)
cert_shows s i e f (GridCert k) = grid_shows s k (s.tags i) e f

-- a trivial inclusion is shown by no certificate, and any other by the one that is given
abbrev pub shows : Scope → ℕ → Pat → Pat → Option Cert → Bool
shows s i e f None = is_trivial s e f
shows s i e f (Some cert) = not (is_trivial s e f) && cert_shows s i e f cert

-- both sides are patterns of one interface, and the inclusion is shown
abbrev pub is_shown_in : Scope → Option ℕ → Pat → Pat → Option Cert → Bool
is_shown_in s None e f cert = false
is_shown_in s (Some i) e f cert = is_formed s i e && is_formed s i f && shows s i e f cert

-- the inclusion is shown, with this certificate or with none
abbrev pub is_shown : Scope → Inclusion → Option Cert → Bool
is_shown s q cert = is_shown_in s q.interface q.left q.right cert

-- the inclusions are shown in turn, each that is not trivial by the next certificate, and none is left over
abbrev pub are_shown : Scope → List Inclusion → List Cert → Bool
are_shown s [] [] = true
are_shown s [] (cert ∷ certs) = false
are_shown s (q ∷ qs) [] = is_shown s q None && are_shown s qs []
are_shown s (q ∷ qs) (cert ∷ certs) =
    (is_shown s q None && are_shown s qs (cert ∷ certs)) || (is_shown s q (Some cert) && are_shown s qs certs)

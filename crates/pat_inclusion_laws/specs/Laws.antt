-- What closed forms, covers and grids show of patterns.
use Rattle.std.specs.Prelude.{◌*◌, ◌^◌, ◌≡◌, ℕ, ◌<◌, ◌≤◌, false, ◌&&◌, List, [], ◌∷◌, Option, Some, None, ◌↔◌, IsTrue, IsFalse}
use Rattle.std.specs.List.{list_any}
use Rattle.pat_words_spec.specs.Words.{Word, no_word}
use Rattle.pat_words_spec.specs.Patterns.{Pat, In, Included, is_nullable, is_inhabited, subst_of}
use Rattle.pat_words_spec.specs.Flats.{is_flat, degree_of}
use Rattle.pat_words_spec.specs.Cuts.{cut_at}
use Rattle.pat_words_spec.specs.Tags.{tags_below, HasTagsBelow}
use Rattle.pat_inclusion_spec.specs.Counts.{most_tags, same_below, has_word, counted}
use Rattle.pat_inclusion_spec.specs.LinearSets.{LinearSet, InSets, SetsBelow, SetsWithin}
use Rattle.pat_inclusion_spec.specs.ClosedForms.{only_empty, times_stars, sets_of, is_small, is_short, lists_are_short, SetsClean}
use Rattle.pat_inclusion_spec.specs.Covers.{CoverEntry, is_cover, IsDirectlyCovered}
use Rattle.pat_inclusion_spec.specs.Points.{points_fit, points_pattern}
use Rattle.pat_inclusion_spec.specs.CutWords.{cuts_of, cuts_lie}
use Rattle.pat_inclusion_spec.specs.Values.{Scope, pattern_of, is_formed, values_fit}
use Rattle.pat_inclusion_spec.specs.Certificates.{Cert, Inclusion, cover_shows, is_trivial, is_large_enough, is_shown, are_shown}
use Rattle.pat_inclusion_spec.specs.Under.{nullable_under, inhabited_under}

-- ---- closed forms

-- the sets of the closed form together have just the pattern's words; a variable has none
abbrev pub ClosedFormLaw : Type 0
ClosedFormLaw = (n : ℕ) (e : Pat) → IsTrue (tags_below n e) → (w : Word) → InSets (sets_of n e) w ↔ In e w

-- the closed form is the same however many more tags are compared
abbrev pub TagsLaw : Type 0
TagsLaw = (n m : ℕ) (e : Pat) → n ≤ m → IsTrue (tags_below n e) → sets_of m e ≡ sets_of n e

-- the most tags of an interface are 32
abbrev pub MostTags : Type 0
MostTags = most_tags ≡ 32

-- the counts of a closed form that isn't too large are small
abbrev pub CountsLaw : Type 0
CountsLaw =
    (n : ℕ) (e : Pat)
    → IsTrue (is_small e)
    → IsTrue (lists_are_short n e)
    → SetsWithin (2 ^ 27) (2 ^ 27) (sets_of n e) × SetsClean n (sets_of n e)

-- the counts of a star's list, as far as it is made, if it is short
abbrev pub StarCountsLaw : Type 0
StarCountsLaw =
    (n c : ℕ) (done : List LinearSet)
    → SetsWithin c c done
    → SetsClean n done
    → IsTrue (is_short (times_stars n (only_empty ∷ []) done))
    → SetsWithin (12 * c) c (times_stars n (only_empty ∷ []) done)

-- ---- covers

-- there is a cover just where the one list is directly covered by the other
abbrev pub CoverLaw : Type 0
CoverLaw =
    (n : ℕ) (left right : List LinearSet)
    → SetsBelow n left
    → SetsBelow n right
    → ((entries : List CoverEntry) × IsTrue (is_cover n left right entries)) ↔ IsDirectlyCovered left right

-- what is directly covered lies in what covers it
abbrev pub DirectLaw : Type 0
DirectLaw = (left right : List LinearSet) → IsDirectlyCovered left right → (w : Word) → InSets left w → InSets right w

-- a cover of closed forms shows the inclusion of the patterns
abbrev pub CoverShowsLaw : Type 0
CoverShowsLaw =
    (n : ℕ) (entries : List CoverEntry) (e f : Pat)
    → IsTrue (tags_below n e)
    → IsTrue (tags_below n f)
    → IsTrue (cover_shows n entries e f)
    → Included e f

-- ---- grids

-- words with the same cut above the degree are both in a flat pattern, or neither
abbrev pub CutLaw : Type 0
CutLaw =
    (e : Pat) (k : ℕ) (v w : Word) → IsTrue (is_flat e) → degree_of e < k → cut_at k v ≡ cut_at k w → In e v ↔ In e w

-- the points of a pattern are just its words, cut
abbrev pub CutsLaw : Type 0
CutsLaw =
    (k n : ℕ) (e : Pat) (u : Word)
    → IsTrue (tags_below n e)
    → HasTagsBelow n u
    → IsTrue (has_word n (cuts_of k n e) u) ↔ ((w : Word) × In e w × (u ≡ cut_at k w))

-- the cuts of e lie in those of f just where each word of e is cut to the same as a word of f
abbrev pub CutsLieLaw : Type 0
CutsLieLaw =
    (k n : ℕ) (e f : Pat)
    → IsTrue (tags_below n e)
    → IsTrue (tags_below n f)
    → IsTrue (cuts_lie k n e f) ↔ ((w : Word) → In e w → (v : Word) × In f v × (cut_at k v ≡ cut_at k w))

-- the words of a set of points are those that have n tags and are cut to one of the points
abbrev pub PointsLaw : Type 0
PointsLaw =
    (k n : ℕ) (points : List (List ℕ)) (w : Word)
    → IsTrue (points_fit k n points)
    → In (points_pattern k n points) w ↔ (HasTagsBelow n w × IsTrue (list_any (λ p. same_below n (cut_at k w) (counted p)) points))

-- where the bound is large enough, words with the same cut at it are both in the pattern, or neither
abbrev pub LargeLaw : Type 0
LargeLaw =
    (s : Scope) (k : ℕ) (f : Pat) (v w : Word)
    → 1 ≤ k
    → IsTrue (is_large_enough s k f)
    → cut_at k v ≡ cut_at k w
    → In (subst_of (pattern_of s) f) v ↔ In (subst_of (pattern_of s) f) w

-- where the bound is large enough, the cuts lie in one another just where the words do
abbrev pub GridLaw : Type 0
GridLaw =
    (s : Scope) (k i : ℕ) (e f : Pat)
    → IsTrue (values_fit s)
    → IsTrue (is_formed s i e)
    → IsTrue (is_formed s i f)
    → 1 ≤ k
    → IsTrue (is_large_enough s k f)
    → IsTrue (cuts_lie k (s.tags i) (subst_of (pattern_of s) e) (subst_of (pattern_of s) f)) ↔ Included (subst_of (pattern_of s) e) (subst_of (pattern_of s) f)

-- ---- all together

-- what is shown is an inclusion of the patterns in which variables are replaced
abbrev pub ShownLaw : Type 0
ShownLaw =
    (s : Scope) (q : Inclusion) (cert : Option Cert)
    → IsTrue (values_fit s)
    → IsTrue (is_shown s q cert)
    → Included (subst_of (pattern_of s) q.left) (subst_of (pattern_of s) q.right)

-- an inclusion that is trivial takes no certificate
abbrev pub TrivialLaw : Type 0
TrivialLaw =
    (s : Scope) (q : Inclusion) (qs : List Inclusion) (certs : List Cert)
    → IsTrue (is_trivial s q.left q.right)
    → are_shown s (q ∷ qs) certs ≡ (is_shown s q None && are_shown s qs certs)

-- each other one takes the next, so there has to be one
abbrev pub NextLaw : Type 0
NextLaw =
    (s : Scope) (q : Inclusion) (qs : List Inclusion) (cert : Cert) (certs : List Cert)
    → IsFalse (is_trivial s q.left q.right)
    → (are_shown s (q ∷ qs) [] ≡ false)
    × (are_shown s (q ∷ qs) (cert ∷ certs) ≡ (is_shown s q (Some cert) && are_shown s qs certs))

-- ---- without replacing, and without the pattern of a set of points

-- a pattern in which variables are replaced has the empty word, or a word, as the tests of the values say
abbrev pub UnderLaw : Type 0
UnderLaw =
    (values : ℕ → Pat) (e : Pat)
    → (is_nullable (subst_of values e) ≡ nullable_under (λ k. is_nullable (values k)) e)
    × (is_inhabited (subst_of values e) ≡ inhabited_under (λ k. is_inhabited (values k)) e)

-- the pattern of a set of points has the empty word where a point is empty, and a word where there is a point
abbrev pub PointTestsLaw : Type 0
PointTestsLaw =
    (k n : ℕ) (points : List (List ℕ))
    → IsTrue (points_fit k n points)
    → (IsTrue (is_nullable (points_pattern k n points)) ↔ IsTrue (list_any (λ p. same_below n no_word (counted p)) points))
    × (IsTrue (is_inhabited (points_pattern k n points)) ↔ (points ≡ [] → ⊥))

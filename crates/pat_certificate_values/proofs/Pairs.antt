-- Two tests of the parts of a pattern, made at once; and the test of whether two patterns are the same.
use Rattle.std.proofs.Common.{◌≡◌, Bool, true, false, ◌&&◌, refl, sym}
use Rattle.std.specs.Prelude.{IsTrue, ◌↔◌}
use Rattle.pat_words_spec.specs.Patterns.{Pat, pat_eq}
use Rattle.pat_words_laws.proofs.PatternLaws.{pat_eq_same}
use Rattle.pat_words_laws.proofs.FormLaws.{same_pat_eq}

pub in_pairs : (a b c d : Bool) → ((a && b) && (c && d)) ≡ ((a && c) && (b && d))
in_pairs false b c d = refl
in_pairs true true c d = refl
in_pairs true false true d = refl
in_pairs true false false d = refl

pub same_is : (b : Bool) (e f : Pat) → (IsTrue b ↔ (e ≡ f)) → b ≡ pat_eq e f
same_is true e f h = sym (same_pat_eq e f (h.0 refl))
same_is false e f h = go (pat_eq e f) refl
  where
    go : (c : Bool) → pat_eq e f ≡ c → false ≡ c
    go false q = refl
    go true q = h.1 (pat_eq_same e f q)

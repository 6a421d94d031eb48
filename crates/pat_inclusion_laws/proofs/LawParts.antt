-- Two laws of grids, put together.
use Rattle.std.proofs.Common.{◌≡◌, ℕ, ◌≤◌, true, List, ◌↔◌, refl}
use Rattle.std.specs.Prelude.{◌&&◌}
use Rattle.std.specs.List.{list_all, list_any}
use Rattle.std.proofs.lemmas.Bool.{and_parts}
use Rattle.pat_words_spec.specs.Words.{Word}
use Rattle.pat_words_spec.specs.Patterns.{Pat, In, Included, subst_of}
use Rattle.pat_words_spec.specs.Cuts.{cut_at}
use Rattle.pat_words_spec.specs.Tags.{HasTagsBelow}
use Rattle.pat_inclusion_spec.specs.Counts.{same_below, counted}
use Rattle.pat_inclusion_spec.specs.Points.{grid_fits, point_fits, points_ascend, points_fit, points_pattern}
use Rattle.pat_inclusion_spec.specs.CutWords.{cuts_lie}
use Rattle.pat_inclusion_spec.specs.Values.{Scope, pattern_of, is_formed}
use Rattle.pat_inclusion_spec.specs.Certificates.{is_large_enough}
use Rattle.pat_inclusion_laws.proofs.CutLaws.{cuts_include}
use Rattle.pat_inclusion_laws.proofs.PointLaws.{points_to, points_from}
use Rattle.pat_inclusion_laws.proofs.Shown.{ValuesFit, replaced_tags, large_enough}
use Rattle.pat_inclusion_laws.proofs.Exact.{any_to, any_from, included_cuts}

pub points_words : (k n : ℕ) (points : List (List ℕ)) (w : Word) → points_fit k n points ≡ true → In (points_pattern k n points) w ↔ (HasTagsBelow n w × (list_any (λ p. same_below n (cut_at k w) (counted p)) points ≡ true))
points_words k n points w h =
    let a = and_parts (grid_fits k n) (list_all (point_fits k n) points && points_ascend points) h in
    let b = and_parts (list_all (point_fits k n) points) (points_ascend points) a.1 in
    (λ i. any_to k n points w b.0 (points_to k n points w i), λ t. points_from k n points w (any_from k n points w t.0 t.1))

pub grid_law : (s : Scope) (k i : ℕ) (e f : Pat) → ValuesFit s → is_formed s i e ≡ true → is_formed s i f ≡ true → 1 ≤ k → is_large_enough s k f ≡ true → (cuts_lie k (s.tags i) (subst_of (pattern_of s) e) (subst_of (pattern_of s) f) ≡ true) ↔ Included (subst_of (pattern_of s) e) (subst_of (pattern_of s) f)
grid_law s k i e f fit fe ff l large =
    let n = s.tags i in
    let te = replaced_tags s i e fit fe in
    let tf = replaced_tags s i f fit ff in (
      λ h w j. let r = cuts_include k n (subst_of (pattern_of s) e) (subst_of (pattern_of s) f) te tf h w j in large_enough s k f l large r.0 w r.1 r.2,
      λ h. included_cuts k n (subst_of (pattern_of s) e) (subst_of (pattern_of s) f) te tf (λ w j. (w, h w j, refl)),
    )

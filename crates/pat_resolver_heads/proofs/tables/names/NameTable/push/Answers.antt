use Rattle.std.proofs.Common.{rules, ◌≡◌, List, ℕ, [], ◌∷◌, ◌++◌, ◌≤◌, length, map, take, ap, sym, subst, ◌∙◌}
use Rattle.std.proofs.lemmas.List.{length-map, map-append}
use Rattle.std.specs.Borrow.{Bor}
use Rattle.pat_resolver_heads.specs.tables.Places.{known_place, IsFirst}
use Rattle.pat_resolver_heads.proofs.Places.{pushed_new, pushed_again, few_stay, no_longer_few}
use Rattle.pat_resolver_heads.proofs.tables.names.NameTable.push.Goals as goal

pub invariant_of-self-in-Ok-None : goal.invariant_of-self-in-Ok-None
invariant_of-self-in-Ok-None c =
    let es = c.self.inside.places.entries in
    let names = c.self.inside.names in
    let own = c.as_bytes.ensures in
    let few = map (λ (n : Bor (List ℕ)). n.now) (take 16 names) in
    let absent = ap (λ (z : List ℕ). known_place z es) (sym own) ∙ sym (sym c.in-Ok-None.field-0-is ∙ c.in-Ok-None.ensures.old) in
    let pushed : c.push.new.self ≡ names ++ c.args.name ∷ [] = c.in_ok-push.ensures.ok in
    let enough : 16 ≤ length names = search rules in
    let list = ap (map (λ (n : Bor (List ℕ)). n.now)) pushed ∙ map-append (λ (n : Bor (List ℕ)). n.now) names (c.args.name ∷ []) in (
      (λ x. subst (λ (ns : List (Bor (List ℕ))). IsFirst x (map (λ n. n.now) ns) c.insert.new.self.entries (map (λ n. n.now) c.push.new.self)) (sym (few_stay names c.push.new.self c.args.name enough pushed))
          (pushed_new x c.args.name.now few (map (λ n. n.now) names) (map (λ n. n.now) c.push.new.self) es c.insert.new.self.entries c.as_bytes.result c.len-place.result c.self.invariant.0 absent own (c.len-place.ensures ∙ sym (length-map names (λ (n : Bor (List ℕ)). n.now))) c.in-Ok-None.ensures.entries list)),
      (λ small. no_longer_few names c.push.new.self c.args.name enough pushed small),
    )

pub invariant_of-self-in-Ok-Some : goal.invariant_of-self-in-Ok-Some
invariant_of-self-in-Ok-Some c =
    let es = c.self.inside.places.entries in
    let names = c.self.inside.names in
    let own = c.as_bytes.ensures in
    let few = map (λ (n : Bor (List ℕ)). n.now) (take 16 names) in
    let before = sym c.in-Ok-Some.field-0-is ∙ c.in-Ok-Some.ensures.old ∙ ap (λ (z : List ℕ). known_place z es) own in
    let pushed : c.push.new.self ≡ names ++ c.args.name ∷ [] = c.in_ok-push.ensures.ok in
    let enough : 16 ≤ length names = search rules in
    let list = ap (map (λ (n : Bor (List ℕ)). n.now)) pushed ∙ map-append (λ (n : Bor (List ℕ)). n.now) names (c.args.name ∷ []) in (
      (λ x. subst (λ (ns : List (Bor (List ℕ))). IsFirst x (map (λ n. n.now) ns) c.set_known.new.known.entries (map (λ n. n.now) c.push.new.self)) (sym (few_stay names c.push.new.self c.args.name enough pushed))
          (pushed_again x c.args.name.now few (map (λ n. n.now) names) (map (λ n. n.now) c.push.new.self) c.in-Ok-Some.first c.len-place.result es c.insert.new.self.entries c.set_known.new.known.entries c.as_bytes.result c.self.invariant.0 own before c.in-Ok-Some.ensures.entries c.set_known.ensures list)),
      (λ small. no_longer_few names c.push.new.self c.args.name enough pushed small),
    )

use Rattle.std.proofs.Common.{rules, ◌≡◌, ◌<◌, ℕ, Bool, true, false, List, [], length, map, ap, sym, ◌∙◌}
use Rattle.std.specs.Borrow.{Bor}
use Rattle.std.specs.Prelude.{bytes_eq, not, ◌||◌}
use Rattle.std.specs.List.{list_any}
use Rattle.pat_resolver_spec.specs.Scopes.{is_one_of}
use Rattle.pat_resolver_heads.proofs.Differing.{one_of_both}
use Rattle.pat_resolver_heads.proofs.tables.earlier.EarlierNames.add.Goals as goal

pub returns-then-is_among-clause-new : goal.returns-then-is_among-clause-new
returns-then-is_among-clause-new c =
    let x = c.args.name.now in
    let keys = c.self.inside.others.keys in
    let few = map (λ (n : Bor (List ℕ)). n.now) c.self.inside.few in
    let there : is_one_of x few ≡ true = ap (λ (names : List (Bor (List ℕ))). is_one_of x (map (λ n. n.now) names)) (sym c.as_slice.ensures) ∙ sym c.is_among.ensures ∙ c.if-is_among.true in
    sym (ap (λ (names : List (List ℕ)). not (is_one_of x names)) (sym c.self.view_is) ∙ ap not (one_of_both x few keys) ∙ ap (λ (b : Bool). not (b || list_any (λ k. bytes_eq x k.now) keys)) there)

pub returns-then-len-lt-FEW-clause-new : goal.returns-then-len-lt-FEW-clause-new
returns-then-len-lt-FEW-clause-new c =
    let x = c.args.name.now in
    let keys = c.self.inside.others.keys in
    let few = map (λ (n : Bor (List ℕ)). n.now) c.self.inside.few in
    let absent : is_one_of x few ≡ false = ap (λ (names : List (Bor (List ℕ))). is_one_of x (map (λ n. n.now) names)) (sym c.as_slice.ensures) ∙ sym c.is_among.ensures ∙ c.if-is_among.false in
    let room : length c.self.inside.few < 16 = search rules in
    let none : keys ≡ [] = c.self.invariant.1 room in
    sym (ap (λ (names : List (List ℕ)). not (is_one_of x names)) (sym c.self.view_is) ∙ ap not (one_of_both x few keys)
    ∙ ap (λ (b : Bool). not (b || list_any (λ k. bytes_eq x k.now) keys)) absent
    ∙ ap (λ (ks : List (Bor (List ℕ))). not (list_any (λ k. bytes_eq x k.now) ks)) none)

pub returns-clause-new : goal.returns-clause-new
returns-clause-new c =
    let x = c.args.name.now in
    let keys = c.self.inside.others.keys in
    let few = map (λ (n : Bor (List ℕ)). n.now) c.self.inside.few in
    let absent : is_one_of x few ≡ false = ap (λ (names : List (Bor (List ℕ))). is_one_of x (map (λ n. n.now) names)) (sym c.as_slice.ensures) ∙ sym c.is_among.ensures ∙ c.if-is_among.false in
    c.in_ok-new.ensures.added ∙ ap (λ (x : List ℕ). not (list_any (λ k. bytes_eq x k.now) keys)) c.as_bytes.ensures
    ∙ ap (λ (b : Bool). not (b || list_any (λ k. bytes_eq x k.now) keys)) (sym absent)
    ∙ ap not (sym (one_of_both x few keys)) ∙ ap (λ (names : List (List ℕ)). not (is_one_of x names)) c.self.view_is

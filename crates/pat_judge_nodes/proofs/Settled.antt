-- Demands that are passed over one after another.
use Rattle.std.proofs.Common.{◌≡◌, ℕ, ◌+◌, ◌<◌, List, ◌∷◌, length, get_or, drop, sym, ap, ◌∙◌, subst}
use Rattle.std.proofs.lemmas.List.{drop_more}
use Rattle.pat_type_schemes_spec.specs.Values.{Scope}
use Rattle.pat_derivation_spec.specs.Demands.{Demand}
use Rattle.pat_obligations.specs.declared.demand.Demand.{Demand as CodeDemand}
use Rattle.pat_obligations.specs.Views.{demand_view, demands_view}
use Rattle.pat_judge_nodes.specs.uses.Settled.{IsSettled, FollowSettled, none_before, settled_before}

one_more : (s : Scope) (d : Demand) (ds all : List Demand) → IsSettled s d → FollowSettled s (d ∷ ds) all → FollowSettled s ds all
one_more s d ds all own none_before = settled_before own none_before
one_more s d ds all own (settled_before {d = first} {ds = more} h rest) = settled_before h (one_more s d ds more own rest)

pub passed_over : (s : Scope) (xs : List CodeDemand) (k : ℕ) (x : CodeDemand) (all : List Demand) → k < length xs → x ≡ get_or xs k x → IsSettled s (demand_view x) → FollowSettled s (demands_view (drop k xs)) all → FollowSettled s (demands_view (drop (k + 1) xs)) all
passed_over s xs k x all less at own h =
    one_more s (demand_view x) (demands_view (drop (k + 1) xs)) all own
    (subst (λ ys. FollowSettled s (demands_view ys) all) (drop_more xs k x less ∙ ap (λ y. y ∷ drop (k + 1) xs) (sym at)) h)

-- Demands as the definitions see them.
use Rattle.std.specs.Prelude.{List, map, option_map, option_copied}
use Rattle.pat_types.specs.Views.{type_view, result_view}
use Rattle.pat_derivation_spec.specs.Demands as demands
use Rattle.pat_obligations.specs.Listed as listed
use Rattle.pat_obligations.specs.declared.demand.Signature.{Signature}
use Rattle.pat_obligations.specs.declared.demand.Demand.{Demand}
use Rattle.pat_obligations.specs.declared.demand.Demand.TheVariants as demand

abbrev pub demand_view : Demand → demands.Demand
demand_view (demand.Pass a b) = demands.Pass (option_map type_view a) (option_map type_view b)
demand_view (demand.Divide a b c) = demands.Divide (option_map type_view (option_copied a)) (option_map type_view (option_copied b)) (option_map type_view (option_copied c))
demand_view (demand.There a b) = demands.There (option_map type_view (option_copied a)) (option_map type_view (option_copied b))
demand_view (demand.Name t o) = demands.Name (result_view t.now) (option_map type_view (option_copied o))

abbrev pub demands_view : List Demand → List demands.Demand
demands_view ds = map demand_view ds

abbrev pub signature_view : Signature → listed.Signature
signature_view s = record { params = map (option_map type_view) s.params; result = result_view s.result }

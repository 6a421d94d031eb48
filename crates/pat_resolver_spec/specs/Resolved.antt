-- What a program is that a text resolves to: all that is asked of a program by whoever goes on with it.
use Rattle.std.specs.Prelude.{◌≡◌, ℕ, List, Some, length, map, slice_get}
use Rattle.std.specs.List.{AllByRecursion}
use Rattle.pat_lexer_spec.specs.Spelled.{IsName, IsString}
use Rattle.pat_semantics_spec.specs.Programs.{Interface, Function, Program, function_at}
use Rattle.pat_semantics_spec.specs.WellFormed.{WellFormed}
use Rattle.pat_resolver_spec.specs.Claims.{program_strings}
use Rattle.pat_resolver_spec.specs.Places.{FunctionPlaces, Places}

-- the names of an interface and of its tags are names
pub record InterfaceIsNamed (i : Interface) : Type 0 where
  pub name : IsName i.name
  pub tags : AllByRecursion (λ t. IsName t.name) i.tags

-- the names of interfaces, tags and functions are names, so texts that name them can be read
pub record IsNamed (p : Program) : Type 0 where
  pub interfaces : AllByRecursion InterfaceIsNamed p.interfaces
  pub functions : AllByRecursion (λ f. IsName f.name) p.functions

-- as many places as payloads, of each tag of each interface; as functions, and as variables and parameters of each of
-- them; and as nodes
pub record IsPlaced (p : Program) (q : Places) : Type 0 where
  pub payloads : map (λ i. map (λ t. length t) i) q.payloads ≡ map (λ i. map (λ t. length t.payloads) i.tags) p.interfaces
  pub functions : length q.functions ≡ length p.functions
  pub parts : (f : ℕ) (g : Function) (r : FunctionPlaces) → function_at p f ≡ Some g → slice_get q.functions f ≡ Some r → (length r.vars ≡ length g.vars) × (length r.params ≡ length g.params)
  pub nodes : length q.nodes ≡ length p.nodes

-- a program and its places, as a text resolves to them: it is well formed, its names are names, its string literals are
-- those that strings stand for, and each of its parts has a place
pub record IsResolved (p : Program) (q : Places) : Type 0 where
  pub well_formed : WellFormed p
  pub named : IsNamed p
  pub spelled : AllByRecursion IsString (program_strings p)
  pub placed : IsPlaced p q

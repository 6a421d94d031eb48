-- The start of a typed program is a typed configuration.
use Rattle.std.proofs.Common.{◌≡◌, ℕ, [], length, Some, refl, sym, ap, ◌∙◌, subst, arith}
use Rattle.pat_semantics_spec.specs.Values.{BaseUnit}
use Rattle.pat_semantics_spec.specs.Programs.{Program, Function, BaseSort, function_at, Node}
use Rattle.pat_semantics_spec.specs.WellFormed.{WellFormed, FunctionFits}
use Rattle.pat_semantics_spec.specs.Configs.{Running, start, start_of}
use Rattle.pat_semantics_spec.specs.Steps.{thread_of}
use Rattle.pat_type_system_spec.specs.Types.{BaseTerm, TypeFits}
use Rattle.pat_type_system_spec.specs.Typings.{Typing, IsTyping, FunctionTyped, result_of}
use Rattle.pat_type_system_spec.specs.Typed.{IsTyped, ThreadFits, PartFits}
use Rattle.pat_semantics_laws.proofs.Ordered.{start_of_ordered}
use Rattle.std.specs.Prelude.{option_map}

-- main's body has no free variable
main_part : (p : Program) (g : Function) (f : ℕ) → FunctionFits p f g → g.params ≡ [] → (interfaces : ℕ → ℕ) → PartFits p interfaces g.body [] []
main_part p g f fits none interfaces = record {
  there = (fits.body.0.core, ap (λ o. option_map (λ (d : Node). d.core) o) fits.body.1);
  keys = tt;
  values = λ x free out.
      let below = fits.in_scope x free in
      let zero_params : length g.params ≡ 0 = ap length none in
      absurd (omega arith);
  free = λ x v h. cc;
  kinds = λ x v h. cc;
  different = λ x z a h k. cc;
}

main_result : (p : Program) (y : Typing) (g : Function) (f : ℕ) → FunctionTyped p y f g → g.result ≡ BaseSort BaseUnit → y.results g.body ≡ BaseTerm BaseUnit
main_result p y g f typed unit = typed.result ∙ ap (result_of (y.result_patterns f)) unit

typed_main : (p : Program) (y : Typing) (interfaces : ℕ → ℕ) (g : Function) → WellFormed p → IsTyping p y → function_at p p.main ≡ Some g → g.params ≡ [] → g.result ≡ BaseSort BaseUnit → IsTyped p y interfaces (start_of (Some g))
typed_main p y interfaces g w i at none unit =
    let s = thread_of (Running g.body []) [] in
    let fits : ThreadFits p y interfaces s = record {
      control = (
        main_part p g p.main (w.functions p.main g at) none interfaces,
        subst (λ t. TypeFits t (BaseTerm BaseUnit)) (sym (main_result p y g p.main (i.functions p.main g at) unit)) refl,
      );
      frames = tt;
      control_keeps = λ b a h u. refl;
      frames_keep = tt;
    } in
    record {
      typing = i;
      numbers = record {
        ordered = start_of_ordered (Some g);
        threads_live = λ a h. cc;
        messages_live = λ a h. cc;
      };
      threads = (fits, tt);
      messages = tt;
      balanced = λ a h. cc;
    }

pub start_typed : (p : Program) (y : Typing) (interfaces : ℕ → ℕ) → WellFormed p → IsTyping p y → IsTyped p y interfaces (start p)
start_typed p y interfaces w i =
    let m = w.main in
    subst (λ o. IsTyped p y interfaces (start_of o)) (sym m.1) (typed_main p y interfaces m.0 w i m.1 m.2 m.3)
